-- What a caller of a turn needs.
use Rattle.std.proofs.Common.{◌≡◌, ◌≢◌, ℕ, suc, ◌+◌, ◌-◌, List, [], ◌∷◌, ◌++◌, length, drop, length-append, refl, sym, ap, ◌∙◌, subst, arith}
use mathlib.Core.Logic.{dite}
use native.Mathlib.Decide.{ℕ_discrete}
use Rattle.std.specs.Prelude.{All}
use Rattle.std.specs.List.{range_with_len}
use Rattle.std.proofs.Math.Seq.{drop-append_seam}
use Rattle.std.proofs.lemmas.List.Elements.{All-nil, All-cons}
use Rattle.turn_board.specs.declared.views.Own.{Own}
use Rattle.turn_board.specs.Accounts.{places_by, in_turn, after_turn, Agrees, Turned}
use Rattle.turn_board.proofs.Entries.{places_more, at_head, not_at_head}

-- what was appended stands behind what was found
pub added_behind : {E : Type 0} (P : E → Type 0) (found added log : List E) → log ≡ found ++ added → All P added → All P (drop (length found) log)
added_behind P found added log is h = subst (All P) (sym (ap (drop (length found)) is ∙ drop-append_seam found added)) h

module _ {V B E : Type 0} where
  -- `turn` and `end` make a whole turn
  pub turned : (writer_of : E → ℕ) (o mid now : Own V B E) (ticket : ℕ) (found added : List E) (value : V) (base : B) → mid ≡ in_turn o ticket found → now ≡ after_turn mid ticket found value (found ++ added) → Agrees writer_of o base found → All (λ e. writer_of e ≡ o.number) added → Turned writer_of o found added now
  turned writer_of o mid now ticket found added value base begun over agrees wrote =
      let at : now ≡ after_turn o ticket found value (found ++ added) = over ∙ ap (λ m. after_turn m ticket found value (found ++ added)) begun in
      let n : ℕ = length found in
      let m : ℕ = length added in
      let long : length (found ++ added) - n ≡ m = ap (λ (z : ℕ). z - n) (length-append found added) ∙ omega arith in
      record {
        agrees = subst (λ (q : B). Agrees writer_of o q found) agrees.base_is agrees;
        own_entries = wrote;
        base_stays = ap (λ (q : Own V B E). q.base) at;
        number_stays = ap (λ (q : Own V B E). q.number) at;
        seen = ap (λ (q : Own V B E). q.seen) at;
        mine = ap (λ (q : Own V B E). q.mine) at ∙ ap (λ (z : ℕ). o.mine ++ range_with_len n z) long;
        idle = ap (λ (q : Own V B E). q.stage) at;
      }

module _ {E : Type 0} (writer_of : E → ℕ) where
  none_here : (number at : ℕ) (l : List E) → places_by writer_of number at l ≡ [] → All (λ e. writer_of e ≢ number) l
  none_here number at [] h = All-nil (λ e. writer_of e ≢ number)
  none_here number at (e ∷ es) h =
      dite (ℕ_discrete (writer_of e) number)
      (λ yes. let x : at ∷ places_by writer_of number (at + 1) es ≡ [] = sym (at_head writer_of number at e es yes) ∙ h in absurd (cc))
      (λ no. All-cons (λ x. writer_of x ≢ number) e es no (none_here number (at + 1) es (sym (not_at_head writer_of number at e es no) ∙ h)))

  nothing_more : (xs ys : List ℕ) → xs ++ ys ≡ xs → ys ≡ []
  nothing_more xs [] e = refl
  nothing_more xs (y ∷ ys) e = let n : ℕ = length xs in let m : ℕ = length ys in let x : n + suc m ≡ n = sym (length-append xs (y ∷ ys)) ∙ ap length e in absurd (omega arith)

  -- since its last turn nothing was appended with the pass's number
  pub none_since : {V B : Type 0} (o : Own V B E) (base : B) (log : List E) → Agrees writer_of o base log → (rest : List E) → log ≡ o.seen ++ rest → All (λ e. writer_of e ≢ o.number) rest
  none_since o base log a rest is =
      none_here o.number (0 + length o.seen) rest
      (nothing_more o.mine _ (ap (λ l. l ++ places_by writer_of o.number (0 + length o.seen) rest) a.own_seen ∙ (sym (places_more writer_of o.number 0 o.seen rest) ∙ (ap (places_by writer_of o.number 0) (sym is) ∙ sym a.own_places))))
