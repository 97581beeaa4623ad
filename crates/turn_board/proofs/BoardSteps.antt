-- How a board is opened and closed keeps the rule: the start, split, the closing seat, join; and what the end gives.
use Rattle.std.proofs.Common.{◌≡◌, ◌≢◌, ℕ, zero, suc, ◌+◌, ◌^◌, ◌<◌, ◌≤◌, true, false, List, [], ◌∷◌, ◌++◌, length, set, get_or, refl, sym, ap, ◌∙◌, subst, ⊎_elim, arith, lit<}
use Rattle.std.specs.Prelude.{All, Option, Some}
use mathlib.Core.Option.{some, some-injective, some-ne-none}
use lib.ListN.{get_elem?}
use Rattle.atomic_table.specs.Table.{State, Splits, Joins, Enters, opening, Final, Seen}
use Rattle.atomic_table.proofs.Lists.{at_set}
use Rattle.turn_board.specs.declared.views.Stage.TheVariants.{Idle}
use Rattle.turn_board.specs.declared.views.Own.{Own}
use Rattle.turn_board.specs.declared.views.Role.{Role}
use Rattle.turn_board.specs.declared.views.Role.TheVariants.{Opener, Member, Closer, Spent}
use Rattle.turn_board.specs.Accounts.{new_pass, Agrees}
use Rattle.turn_board.specs.Rule.{Standing, IsAnswered, AreAnswered, Fits, is_held, opener, Kept}
use Rattle.turn_board.specs.Steps.{more_made, next_pass, ended}
use Rattle.turn_board.proofs.Entries.{put, put_here, put_else, each_set, each_push, places_none}
use Rattle.turn_board.proofs.Standings.{apart, out_stays, out_longer}

-- ---- what a step leaves of the other seats

module _ {V B E : Type 0} (writer_of : E → ℕ) (base : B) where
  -- the pass of a number goes to another seat; that of others stays where it is
  reseated : (log : List E) (made more number new : ℕ) (seat : ℕ → ℕ) (j : ℕ) (o : Own V B E) → made ≤ more → o.number ≢ number → IsAnswered writer_of base log made seat j o → IsAnswered writer_of base log more (put seat number new) j o
  reseated log made more number new seat j o up ne x = let n : ℕ = o.number in let a : n ≤ made = x.high in record { high = (let g : n ≤ more = omega arith in g); seated = put_else seat number new o.number ne ∙ x.seated; agrees = x.agrees }

  split_ended : (log : List E) (made new : ℕ) (seat : ℕ → ℕ) (j : ℕ) (told : List (Own V B E)) → AreAnswered writer_of base log made seat j told → AreAnswered writer_of base log (made + 1) (put seat (made + 1) new) j told
  split_ended log made new seat j [] x = tt
  split_ended log made new seat j (o ∷ os) x =
      let n : ℕ = o.number in let a : n ≤ made = x.0.high in
      (reseated log made (made + 1) (made + 1) new seat j o (omega arith) (λ e. let e' : n ≡ made + 1 = e in omega arith) x.0, split_ended log made new seat j os x.1)

  -- a pass was made, at a new seat, by the seat `id`
  split_others : (w : Standing V E) (new id j : ℕ) → j ≢ id → id ≡ 0 → (k : Role V B E) → Fits writer_of base w j k → Fits writer_of base (record w { made = w.made + 1; seat = put w.seat (w.made + 1) new }) j k
  split_others w new id j ne first (Opener b m) x = absurd (ne (x.1 ∙ sym first))
  split_others w new id j ne first (Member o) x =
      let n : ℕ = o.number in let made : ℕ = w.made in let a : n ≤ made = x.answered.high in
      record { low = x.low; answered = reseated w.log w.made (w.made + 1) (w.made + 1) new w.seat j o (let g : made ≤ made + 1 = omega arith in g) (λ e. let e' : n ≡ made + 1 = e in omega arith) x.answered; stays = x.stays; in_stage = x.in_stage }
  split_others w new id j ne first (Closer told) x = split_ended w.log w.made new w.seat j told x
  split_others w new id j ne first Spent x = tt

  join_ended : (log : List E) (made : ℕ) (seat : ℕ → ℕ) (other j number id : ℕ) → j ≢ other → seat number ≡ other → (told : List (Own V B E)) → AreAnswered writer_of base log made seat j told → AreAnswered writer_of base log made (put seat number id) j told
  join_ended log made seat other j number id ne sits [] x = tt
  join_ended log made seat other j number id ne sits (o ∷ os) x =
      (reseated log made made number id seat j o (omega arith) (λ e. ne (sym x.0.seated ∙ (ap seat e ∙ sits))) x.0, join_ended log made seat other j number id ne sits os x.1)

  -- the pass of a number goes from the seat `other` to the seat `id`
  join_others : (w : Standing V E) (other j number id : ℕ) → j ≢ other → w.seat number ≡ other → (k : Role V B E) → Fits writer_of base w j k → Fits writer_of base (record w { seat = put w.seat number id }) j k
  join_others w other j number id ne sits (Opener b m) x = x
  join_others w other j number id ne sits (Member o) x =
      let made : ℕ = w.made in
      record { low = x.low; answered = reseated w.log w.made w.made number id w.seat j o (let g : made ≤ made = omega arith in g) (λ e. ne (sym x.answered.seated ∙ (ap w.seat e ∙ sits))) x.answered; stays = x.stays; in_stage = x.in_stage }
  join_others w other j number id ne sits (Closer told) x = join_ended w.log w.made w.seat other j number id ne sits told x
  join_others w other j number id ne sits Spent x = tt

  answered_at : (log : List E) (made : ℕ) (seat : ℕ → ℕ) (id : ℕ) (told : List (Own V B E)) (j : ℕ) (o : Own V B E) → AreAnswered writer_of base log made seat id told → get_elem? told j ≡ some o → IsAnswered writer_of base log made seat id o
  answered_at log made seat id [] j o x e = absurd (some-ne-none o (sym e))
  answered_at log made seat id (p ∷ ps) zero o x e = subst (IsAnswered writer_of base log made seat id) (some-injective _ _ e) x.0
  answered_at log made seat id (p ∷ ps) (suc j) o x e = answered_at log made seat id ps j o x.1 e

-- ---- the steps

module _ {V B E : Type 0} (base_of : V → B) (entries_of : V → List E) (writer_of : E → ℕ) (passes : ℕ) (base : B) where
  abbrev St : Type 0
  St = State (Option V) (Role V B E)

  abbrev H : St → Type 0
  H = Kept base_of entries_of writer_of passes base

  -- the table as it is made
  starts : (v : V) (count : ℕ) → base_of v ≡ base → count ≡ length (entries_of v) → All (λ e. writer_of e ≡ 0) (entries_of v) → H (opening (0 ∷ 0 ∷ count ∷ []) (Some v ∷ []) (opener base))
  starts v count same long fresh = record {
    now = first;
    words = ap (λ (z : ℕ). 0 ∷ 0 ∷ z ∷ []) long;
    small = lit< tt;
    served = omega arith;
    at_most = omega arith;
    writers = λ k d lt. let e = fresh k d lt in omega arith;
    home = λ _. (refl, same, refl);
    out = λ b. absurd (Rattle.std.proofs.Common.true≢false (sym b));
    each = one;
  }
    where
      first : Standing V E
      first = record { log = entries_of v; ticket = 0; turn = 0; made = 0; out = false; value = v; seat = λ _. 0; owner = λ _. 0 }

      one : (id : ℕ) (k : Role V B E) → get_elem? (opener base ∷ []) id ≡ some k → Fits writer_of base first id k
      one zero k e = subst (Fits writer_of base first 0) (some-injective _ _ e) (refl, refl, refl)
      one (suc id) k e = absurd (some-ne-none k (sym e))

  -- split: one pass more
  splits : (id : ℕ) (b : B) (m : ℕ) → m < passes → Splits H id (Opener b m) (more_made (Opener b m)) (next_pass (Opener b m))
  splits id b m room s h at =
      let w = h.now in
      let f = h.each id (Opener b m) at in
      let made : ℕ = w.made in
      let is : m ≡ made = f.2 in
      let views' : List (Role V B E) = set s.views id (Opener b (m + 1)) in
      let now' : Standing V E = record w { made = w.made + 1; seat = put w.seat (w.made + 1) (length views') } in
      let up : made ≤ made + 1 = omega arith in
      let pass : Own V B E = new_pass b (m + 1) in
      let nth : m + 1 ≡ made + 1 = ap (λ (z : ℕ). z + 1) is in
      record {
        now = now';
        words = h.words;
        small = h.small;
        served = h.served;
        at_most = (let g : made + 1 ≤ passes = omega arith in g);
        writers = λ k d lt. let x : writer_of (get_or w.log k d) ≤ made = h.writers k d lt in omega arith;
        home = h.home;
        out = λ e. out_longer s.homes views' (w.owner w.turn) (Member pass) (out_stays s.homes s.views (w.owner w.turn) id (Opener b m) (Opener b (m + 1)) at refl (h.out e));
        each = each_push (Fits writer_of base now') views' (Member pass)
            (each_set (Fits writer_of base now') s.views id (Opener b (m + 1))
            (λ j k other e. split_others writer_of base w (length views') id j other f.1 k (h.each j k e))
            (f.0, f.1, nth))
            record {
              low = omega arith;
              answered = record {
                high = omega arith;
                seated = ap (put w.seat (w.made + 1) (length views')) nth ∙ put_here w.seat (w.made + 1) (length views');
                agrees = record {
                  base_is = sym f.0;
                  begins = (w.log, refl);
                  own_places = sym (places_none writer_of (m + 1) 0 w.log (λ k d lt e. let x : writer_of (get_or w.log k d) ≤ made = h.writers k d lt in let z : ℕ = writer_of (get_or w.log k d) in let e' : z ≡ m + 1 = e in let x' : z ≤ made = x in omega arith));
                  own_seen = refl;
                };
              };
              stays = tt;
              in_stage = tt;
            };
      }

  -- a seat comes that will end passes
  pub enters : (n : ℕ) → Enters H n 0 (λ y k. k ≡ Closer [])
  enters n s h wide _ = (
    Closer [],
    record {
      now = h.now;
      words = h.words;
      small = h.small;
      served = h.served;
      at_most = h.at_most;
      writers = h.writers;
      home = h.home;
      out = λ e. out_longer s.homes s.views (h.now.owner h.now.turn) (Closer []) (h.out e);
      each = each_push (Fits writer_of base h.now) s.views (Closer []) h.each tt;
    },
    refl,
  )

  -- join: a pass is ended
  joins : (id : ℕ) (told : List (Own V B E)) (other : ℕ) (o : Own V B E) → o.stage ≡ Idle → Joins H id (Closer told) other (Member o) (Closer (o ∷ told)) Spent
  joins id told other o idle s h at away there' =
      let w = h.now in
      let f = h.each id (Closer told) at in
      let k : Role V B E = Closer (o ∷ told) in
      let there : get_elem? s.views other ≡ some (Member o) = ⊎_elim (λ (x : (other ≡ id) × (k ≡ Member o)). absurd (away x.0)) (λ (x : (other ≢ id) × (get_elem? s.views other ≡ some (Member o))). x.1) (at_set s.views id other k (Member o) there') in
      let x = (h.each other (Member o) there).answered in
      let now' : Standing V E = record w { seat = put w.seat o.number id } in
      record {
        now = now';
        words = h.words;
        small = h.small;
        served = h.served;
        at_most = h.at_most;
        writers = h.writers;
        home = h.home;
        out = λ e. out_stays s.homes (set s.views id k) (w.owner w.turn) other (Member o) Spent there' (ap is_held idle) (out_stays s.homes s.views (w.owner w.turn) id (Closer told) k at refl (h.out e));
        each = each_set (Fits writer_of base now') (set s.views id k) other Spent
            (λ j q apart' e. each_set (λ i r. i ≢ other → Fits writer_of base now' i r) s.views id k
            (λ i r _ e' apart''. join_others writer_of base w other i o.number id apart'' x.seated r (h.each i r e'))
            (λ _. (record { high = x.high; seated = put_here w.seat o.number id; agrees = x.agrees }, join_ended writer_of base w.log w.made w.seat other id o.number id (λ z. away (sym z)) x.seated told f))
            j q e apart')
            tt;
      }

  -- once all passes are ended the value lies in the slot
  closes : (id : ℕ) (told : List (Own V B E)) (ws : List ℕ) (xs : List (Option V)) → ((number : ℕ) → 0 < number → number ≤ passes → (j : ℕ) × (o : Own V B E) × (get_elem? told j ≡ some o) × (o.number ≡ number))
      → Final (Seen H id (Closer told)) ws xs
      → (v : V) × (get_elem? xs 0 ≡ some (Some v)) × ((j : ℕ) (o : Own V B E) → get_elem? told j ≡ some o → Agrees writer_of o (base_of v) (entries_of v)) × (base_of v ≡ base)
  closes id told ws xs all x = go x.0 x.1.0 x.1.1 x.4 x.1.0.now.out refl
    where
      go : (s : St) (h : H s) → get_elem? s.views id ≡ some (Closer told) → ((k : ℕ) (y : Option V) → get_elem? s.homes k ≡ some (some y) → get_elem? xs k ≡ some y) → (b : Rattle.std.proofs.Common.Bool) → h.now.out ≡ b
          → (v : V) × (get_elem? xs 0 ≡ some (Some v)) × ((j : ℕ) (o : Own V B E) → get_elem? told j ≡ some o → Agrees writer_of o (base_of v) (entries_of v)) × (base_of v ≡ base)
      go s h at there true out =
          let w = h.now in
          let l = h.out out in
          let f = h.each (w.owner w.turn) (Member l.1.0) l.1.1 in
          let made : ℕ = w.made in
          let number : ℕ = l.1.0.number in
          let high : number ≤ made = f.answered.high in
          let most : made ≤ passes = h.at_most in
          let p = all number f.low (omega arith) in
          let e = answered_at writer_of base w.log w.made w.seat id told p.0 p.1 (h.each id (Closer told) at) p.2 in
          absurd (apart s.views (w.owner w.turn) id (Member l.1.0) (Closer told) l.1.1 at l.1.2 refl (sym f.answered.seated ∙ (ap w.seat (sym p.3) ∙ e.seated)))
      go s h at there false out =
          let w = h.now in
          let l = h.home out in (
            w.value,
            there 0 (Some w.value) (ap (λ hs. get_elem? hs 0) l.0),
            (λ j o e. subst (λ (q : List E). Agrees writer_of o (base_of w.value) q) (sym l.2) (subst (λ (q : B). Agrees writer_of o q w.log) (sym l.1) (answered_at writer_of base w.log w.made w.seat id told j o (h.each id (Closer told) at) e).agrees)),
            l.1,
          )

  -- the same, at a seat that is known
  pub starts_as : (v : V) (xs : List (Option V)) (count : ℕ) → xs ≡ Some v ∷ [] → base_of v ≡ base → count ≡ length (entries_of v) → All (λ e. writer_of e ≡ 0) (entries_of v) → H (opening (0 ∷ 0 ∷ count ∷ []) xs (opener base))
  starts_as v xs count is same long fresh = subst (λ (l : List (Option V)). H (opening (0 ∷ 0 ∷ count ∷ []) l (opener base))) (sym is) (starts v count same long fresh)

  pub splits_as : (id : ℕ) (k : Role V B E) (b : B) (m : ℕ) → k ≡ Opener b m → m < passes → Splits H id k (more_made k) (next_pass k)
  splits_as id k b m is room = subst (λ (x : Role V B E). Splits H id x (more_made x) (next_pass x)) (sym is) (splits id b m room)

  pub joins_as : (id : ℕ) (k : Role V B E) (told : List (Own V B E)) (other : ℕ) (k' : Role V B E) (o : Own V B E) → k ≡ Closer told → k' ≡ Member o → o.stage ≡ Idle → Joins H id k other k' (ended k k') Spent
  joins_as id k told other k' o is is' idle = subst (λ (x : Role V B E × Role V B E). Joins H id x.0 other x.1 (ended x.0 x.1) Spent) (λ i. (sym is i, sym is' i)) (joins id told other o idle)

  pub closes_as : (id : ℕ) (k : Role V B E) (told : List (Own V B E)) (ws : List ℕ) (xs : List (Option V)) → k ≡ Closer told → ((number : ℕ) → 0 < number → number ≤ passes → (j : ℕ) × (o : Own V B E) × (get_elem? told j ≡ some o) × (o.number ≡ number))
      → Final (Seen H id k) ws xs
      → (v : V) × (get_elem? xs 0 ≡ some (Some v)) × ((j : ℕ) (o : Own V B E) → get_elem? told j ≡ some o → Agrees writer_of o (base_of v) (entries_of v)) × (base_of v ≡ base)
  closes_as id k told ws xs is all x = closes id told ws xs all (subst (λ (q : Role V B E). Final (Seen H id q) ws xs) is x)
