-- Lists of entries, of places and of seats.
use Rattle.std.proofs.Common.{◌≡◌, ◌≢◌, ◌⊎◌, ℕ, zero, suc, ◌+◌, ◌-◌, eqb, eq-eqb, ne_eqb, cond, true, false, List, [], ◌∷◌, ◌++◌, length, set, refl, sym, ap, ◌∙◌, subst, inl, inr, ⊎_elim, arith, append_assoc, append-nil, length-append}
use Rattle.std.specs.Prelude.{All, ◌==◌}
use Rattle.std.specs.List.{range_with_len}
use Rattle.std.proofs.lemmas.List.Elements.{All-head, All-tail}
use mathlib.Core.Option.{some, some-injective, some-ne-none}
use lib.ListN.{get_elem?}
use Rattle.atomic_table.proofs.Lists.{at_set}
use Rattle.turn_board.specs.declared.views.Own.{Own}
use Rattle.turn_board.specs.Accounts.{places_by, places_beyond, Agrees}

-- ---- functions of numbers

abbrev pub put : (ℕ → ℕ) → ℕ → ℕ → ℕ → ℕ
put f i c j = cond (eqb j i) c (f j)

pub put_here : (f : ℕ → ℕ) (i c : ℕ) → put f i c i ≡ c
put_here f i c = ap (λ b. cond b c (f i)) (eq-eqb i i refl)

pub put_else : (f : ℕ → ℕ) (i c j : ℕ) → j ≢ i → put f i c j ≡ f j
put_else f i c j other = ap (λ b. cond b c (f j)) (ne_eqb j i other)

-- ---- seats

module _ {A : Type 0} where
  -- what holds of each seat, where one is written
  pub each_set : (P : ℕ → A → Type 0) (l : List A) (i : ℕ) (a : A) → ((j : ℕ) (b : A) → j ≢ i → get_elem? l j ≡ some b → P j b) → P i a → (j : ℕ) (b : A) → get_elem? (set l i a) j ≡ some b → P j b
  each_set P l i a others mine j b e =
      ⊎_elim (λ (x : (j ≡ i) × (a ≡ b)). subst (λ (y : ℕ × A). P y.0 y.1) (λ k. (sym x.0 k, x.1 k)) mine) (λ (x : (j ≢ i) × (get_elem? l j ≡ some b)). others j b x.0 x.1) (at_set l i j a b e)

  at_end : (l : List A) (a b : A) (j : ℕ) → get_elem? (l ++ a ∷ []) j ≡ some b → (get_elem? l j ≡ some b) ⊎ ((j ≡ length l) × (a ≡ b))
  at_end [] a b zero e = inr (refl, some-injective a b e)
  at_end [] a b (suc j) e = absurd (some-ne-none b (sym e))
  at_end (x ∷ xs) a b zero e = inl e
  at_end (x ∷ xs) a b (suc j) e = ⊎_elim (λ y. inl y) (λ y. inr (ap suc y.0, y.1)) (at_end xs a b j e)

  -- what holds of each seat, where one comes
  pub each_push : (P : ℕ → A → Type 0) (l : List A) (a : A) → ((j : ℕ) (b : A) → get_elem? l j ≡ some b → P j b) → P (length l) a → (j : ℕ) (b : A) → get_elem? (l ++ a ∷ []) j ≡ some b → P j b
  each_push P l a others mine j b e = ⊎_elim (λ (x : get_elem? l j ≡ some b). others j b x) (λ (x : (j ≡ length l) × (a ≡ b)). subst (λ (y : ℕ × A). P y.0 y.1) (λ k. (sym x.0 k, x.1 k)) mine) (at_end l a b j e)

  pub set_there : (l : List A) (i : ℕ) (a b : A) → get_elem? l i ≡ some b → get_elem? (set l i a) i ≡ some a
  set_there [] i a b e = absurd (some-ne-none b (sym e))
  set_there (x ∷ xs) zero a b e = refl
  set_there (x ∷ xs) (suc i) a b e = set_there xs i a b e

-- ---- places of entries

module _ {E : Type 0} (writer_of : E → ℕ) where
  pub places_more : (number at : ℕ) (log more : List E) → places_by writer_of number at (log ++ more) ≡ places_by writer_of number at log ++ places_by writer_of number (at + length log) more
  places_more number at [] more = ap (λ (n : ℕ). places_by writer_of number n more) (omega arith)
  places_more number at (e ∷ es) more =
      let h : places_by writer_of number (at + 1) (es ++ more) ≡ places_by writer_of number (at + 1) es ++ places_by writer_of number (at + suc (length es)) more
      = places_more number (at + 1) es more ∙ ap (λ (n : ℕ). places_by writer_of number (at + 1) es ++ places_by writer_of number n more) (omega arith) in
      elim (writer_of e == number) as (λ b. cond b (at ∷ places_by writer_of number (at + 1) (es ++ more)) (places_by writer_of number (at + 1) (es ++ more)) ≡ cond b (at ∷ places_by writer_of number (at + 1) es) (places_by writer_of number (at + 1) es) ++ places_by writer_of number (at + suc (length es)) more)
      [ true ↦ ap (λ l. at ∷ l) h | false ↦ h ]

  pub at_head : (number at : ℕ) (e : E) (es : List E) → writer_of e ≡ number → places_by writer_of number at (e ∷ es) ≡ at ∷ places_by writer_of number (at + 1) es
  at_head number at e es is = ap (λ b. cond b (at ∷ places_by writer_of number (at + 1) es) (places_by writer_of number (at + 1) es)) (eq-eqb (writer_of e) number is)

  pub not_at_head : (number at : ℕ) (e : E) (es : List E) → writer_of e ≢ number → places_by writer_of number at (e ∷ es) ≡ places_by writer_of number (at + 1) es
  not_at_head number at e es other = ap (λ b. cond b (at ∷ places_by writer_of number (at + 1) es) (places_by writer_of number (at + 1) es)) (ne_eqb (writer_of e) number other)

  -- where all are by the writer
  places_all : (number at : ℕ) (more : List E) → All (λ e. writer_of e ≡ number) more → places_by writer_of number at more ≡ range_with_len at (length more)
  places_all number at [] h = refl
  places_all number at (e ∷ es) h = at_head number at e es (All-head (λ x. writer_of x ≡ number) e es h) ∙ ap (λ l. at ∷ l) (places_all number (at + 1) es (All-tail (λ x. writer_of x ≡ number) e es h))

  -- where none is
  pub places_none : (number at : ℕ) (more : List E) → All (λ e. writer_of e ≢ number) more → places_by writer_of number at more ≡ []
  places_none number at [] h = refl
  places_none number at (e ∷ es) h = not_at_head number at e es (All-head (λ x. writer_of x ≢ number) e es h) ∙ places_none number (at + 1) es (All-tail (λ x. writer_of x ≢ number) e es h)

  -- a writer's own entries join the list
  pub places_grow : (number : ℕ) (mine : List ℕ) (found rest : List E) → mine ≡ places_by writer_of number 0 found → All (λ e. writer_of e ≡ number) rest → mine ++ places_beyond found (found ++ rest) ≡ places_by writer_of number 0 (found ++ rest)
  places_grow number mine found rest is wrote =
      let n : ℕ = length found in
      let m : ℕ = length rest in
      let long : length (found ++ rest) - n ≡ m = ap (λ (z : ℕ). z - n) (length-append found rest) ∙ omega arith in
      (λ i. is i ++ range_with_len n (long i)) ∙ (ap (λ l. places_by writer_of number 0 found ++ l) (sym (places_all number n rest wrote) ∙ ap (λ (z : ℕ). places_by writer_of number z rest) (omega arith)) ∙ sym (places_more number 0 found rest))

  -- the others' do not touch its places
  pub places_stay : (number : ℕ) (log rest : List E) → All (λ e. writer_of e ≢ number) rest → places_by writer_of number 0 (log ++ rest) ≡ places_by writer_of number 0 log
  places_stay number log rest none = places_more number 0 log rest ∙ (ap (λ l. places_by writer_of number 0 log ++ l) (places_none number (0 + length log) rest none) ∙ append-nil (places_by writer_of number 0 log))

module _ {V B E : Type 0} (writer_of : E → ℕ) where
  -- a list that goes on from what a pass shows still does when others add to it
  pub agrees_still : (o : Own V B E) (base : B) (log rest : List E) → Agrees writer_of o base log → All (λ e. writer_of e ≢ o.number) rest → Agrees writer_of o base (log ++ rest)
  agrees_still o base log rest a none = record {
    base_is = a.base_is;
    begins = (a.begins.0 ++ rest, ap (λ l. l ++ rest) a.begins.1 ∙ append_assoc o.seen a.begins.0 rest);
    own_places = a.own_places ∙ sym (places_stay writer_of o.number log rest none);
    own_seen = a.own_seen;
  }
