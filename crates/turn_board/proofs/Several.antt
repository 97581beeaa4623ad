-- Lists of passes.
use Rattle.std.proofs.Common.{◌≡◌, ℕ, zero, suc, ◌+◌, ◌-◌, ◌<◌, ◌≤◌, List, [], ◌∷◌, ◌++◌, length, map, get_or, refl, sym, ap, ◌∙◌, subst, arith, append_assoc}
use Rattle.std.specs.Prelude.{All, Contains}
use Rattle.std.specs.List.{range_with_len}
use Rattle.std.proofs.lemmas.List.{map-append}
use Rattle.std.proofs.lemmas.List.FromFn.{length-range_with_len, get_or-range_with_len, map-range_with_len_more}
use Rattle.std.proofs.lemmas.List.Elements.{All-map, All-push}
use mathlib.Core.Option.{some}
use lib.ListN.{get_elem?}
use Rattle.atomic_table.specs.Seated.{TableId}
use Rattle.turn_board.specs.declared.views.Own.{Own}
use Rattle.turn_board.specs.declared.views.Stage.TheVariants.{Idle}
use Rattle.turn_board.specs.declared.pass.PassOf.{PassOf}
use Rattle.turn_board.specs.declared.board.Board.{Board}
use Rattle.turn_board.specs.Accounts.{new_pass}
use Rattle.turn_board.specs.Seats.{AreNew}
use Rattle.turn_board.specs.Passes.{own, number_of, IsOf, IsIdle, AreNewOf, AreAllOf, name_of, passes_of}

all_map_back : {A B : Type 0} (f : A → B) (P : B → Type 0) (l : List A) → All P (map f l) → All (λ a. P (f a)) l
all_map_back f P [] h k d lt = absurd (omega arith)
all_map_back f P (x ∷ xs) h zero d lt = h 0 (f d) (omega arith)
all_map_back f P (x ∷ xs) h (suc k) d lt = all_map_back f P xs (λ i e less. h (suc i) e (omega arith)) k d (omega arith)

in_range : (a n number : ℕ) → a ≤ number → number < a + n → Contains (range_with_len a n) number
in_range a n number low high =
    let k : ℕ = number - a in
    let len : length (range_with_len a n) ≡ n = length-range_with_len a n in
    (k, omega arith, get_or-range_with_len a n k number (omega arith) ∙ omega arith)

pub elem_at : {A B : Type 0} (f : A → B) (l : List A) (k : ℕ) (d : A) → k < length l → get_elem? (map f l) k ≡ some (f (get_or l k d))
elem_at f [] k d lt = absurd (omega arith)
elem_at f (x ∷ xs) zero d lt = refl
elem_at f (x ∷ xs) (suc k) d lt = elem_at f xs k d (omega arith)

module _ {V B E : Type 0} where
  pub new_push : (name : TableId) (base : B) (n : ℕ) (ps : List (PassOf V B E)) (p : PassOf V B E) → AreNew name base n ps → p.seat.table_id ≡ name → own p ≡ new_pass base (n + 1) → AreNew name base (n + 1) (ps ++ p ∷ [])
  new_push name base n ps p h at is = (
    All-push (λ (q : PassOf V B E). q.seat.table_id ≡ name) ps p h.0 at,
    map-append own ps (p ∷ []) ∙ ((λ i. h.1 i ++ is i ∷ []) ∙ sym (map-range_with_len_more (new_pass base) 1 n (n + 1) (omega arith))),
  )

  -- where a number stands in the list of numbers, a pass with it stands in the list
  pub named : (ps : List (PassOf V B E)) (number k : ℕ) → k < length (map number_of ps) → get_or (map number_of ps) k number ≡ number → (j : ℕ) × (o : Own V B E) × (get_elem? (map own ps) j ≡ some o) × (o.number ≡ number)
  named [] number k lt e = absurd (omega arith)
  named (p ∷ ps) number zero lt e = (0, own p, refl, e)
  named (p ∷ ps) number (suc k) lt e = let r = named ps number k (omega arith) e in (suc r.0, r.1, r.2, r.3)

  -- the last pass of a list goes over to those that are ended
  pub gone : (old new : List (PassOf V B E)) (p : PassOf V B E) (told all : List (Own V B E)) → old ≡ new ++ p ∷ [] → map own old ++ told ≡ all → map own new ++ own p ∷ told ≡ all
  gone old new p told all is h = sym (append_assoc (map own new) (own p ∷ []) told) ∙ (ap (λ l. l ++ told) (sym (map-append own new (p ∷ []))) ∙ (ap (λ l. map own l ++ told) (sym is) ∙ h))

  -- the passes of a new board have the numbers from 1 to n
  pub new_numbers : (name : TableId) (base : B) (n : ℕ) (ps : List (PassOf V B E)) → AreNew name base n ps → map number_of ps ≡ range_with_len 1 n
  new_numbers name base n ps h = numbers ps ∙ (ap (map (λ (o : Own V B E). o.number)) h.1 ∙ numbered 1 n)
    where
      numbers : (qs : List (PassOf V B E)) → map number_of qs ≡ map (λ (o : Own V B E). o.number) (map own qs)
      numbers [] = refl
      numbers (q ∷ qs) = ap (λ l. number_of q ∷ l) (numbers qs)

      numbered : (a m : ℕ) → map (λ (o : Own V B E). o.number) (map (new_pass base) (range_with_len a m)) ≡ range_with_len a m
      numbered a zero = refl
      numbered a (suc m) = ap (λ l. a ∷ l) (numbered (a + 1) m)

  -- they are all of it
  pub new_are_all : (b : Board V B E) (base : B) (n : ℕ) (ps : List (PassOf V B E)) → passes_of b ≡ n → AreNewOf b base n ps → AreAllOf b ps
  new_are_all b base n ps many h = record {
    of_board = h.0;
    idle = all_map_back own (λ (o : Own V B E). o.stage ≡ Idle) ps (subst (All (λ (o : Own V B E). o.stage ≡ Idle)) (sym h.1) (All-map (λ (o : Own V B E). o.stage ≡ Idle) (new_pass base) (range_with_len 1 n) (λ k d lt. refl)));
    all = λ number low high. let most : ℕ = passes_of b in let is : most ≡ n = many in let top : number ≤ most = high in
        subst (λ l. Contains l number) (sym (new_numbers (name_of b) base n ps h)) (in_range 1 n number (omega arith) (omega arith));
  }

  -- so are passes of it without a turn that have the same numbers
  pub all_as_before : (b : Board V B E) (ps qs : List (PassOf V B E)) → AreAllOf b ps → map number_of qs ≡ map number_of ps → All (IsOf b) qs → All IsIdle qs → AreAllOf b qs
  all_as_before b ps qs h same of_board idle = record { of_board = of_board; idle = idle; all = λ number low high. subst (λ l. Contains l number) (sym same) (h.all number low high) }
