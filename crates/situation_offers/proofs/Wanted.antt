-- What wants a timer of a system: of its instances, one after another, and of the transitions of each.
use Rattle.std.proofs.Common.{◌≡◌, ℕ, zero, suc, ◌+◌, Bool, true, false, List, [], ◌∷◌, ◌++◌, map as each, filter, length, Some, refl, sym, ap, cond, ◌∙◌, inl, inr, arith, append-nil, append_assoc, add-one}
use Rattle.std.specs.Prelude.{flat_map}
use Rattle.std.specs.List.{range_with_len}
use Rattle.std.specs.FinMap as map
use Rattle.std.proofs.lemmas.Simd.{map-map}
use Rattle.estelle_tree.specs.declared.transition.Pair.{Pair}
use Rattle.estelle_tree.specs.declared.transition.Wanted.{Wanted}
use Rattle.estelle_tree.specs.Paths.{Path, is_inside}
use Rattle.estelle_tree.specs.Timers.{pair}
use Rattle.estelle_model.specs.declared.image.Part.{Part}
use Rattle.estelle_model.specs.Core.{Instance}
use Rattle.estelle_model.specs.Subject.{Subject, transitions, transition}
use Rattle.estelle_model.specs.Situation.{Situation}
use Rattle.estelle_model.specs.Firing.{transition_at, guard}
use Rattle.estelle_model.specs.Delays.{is_delayed, has_delay, delayed_of, wanted_by, wanted}
use Rattle.estelle_model.specs.Jobs.{part_of_entry}
use Rattle.estelle_model.specs.Schedule.{numbers_of}
use Rattle.estelle_model_legality.proofs.Members.{Has}
use Rattle.transition_select.specs.Blocks.{at_and_below}
use Rattle.situation_images.specs.Instances.{IsOfBody}
use Rattle.situation_images.proofs.Parts.{paths_are, part_is}
use Rattle.situation_offers.specs.Guards.{wanted_if, wanted_at, wanted_of}

-- ---- lists

flat_append : {A B : Type 0} (f : A → List B) (xs ys : List A) → flat_map f (xs ++ ys) ≡ flat_map f xs ++ flat_map f ys
flat_append f [] ys = refl
flat_append f (x ∷ xs) ys = ap (λ bs. f x ++ bs) (flat_append f xs ys) ∙ sym (append_assoc (f x) (flat_map f xs) (flat_map f ys))

pub flat_more : {A B : Type 0} (f : A → List B) (xs : List A) (x : A) → flat_map f (xs ++ x ∷ []) ≡ flat_map f xs ++ f x
flat_more f xs x = flat_append f xs (x ∷ []) ∙ ap (λ bs. flat_map f xs ++ bs) (append-nil (f x))

range_more : (a n j : ℕ) → a + n ≡ j → range_with_len a (suc n) ≡ range_with_len a n ++ j ∷ []
range_more a zero j e = let same : a ≡ j = omega arith in ap (λ k. k ∷ []) same
range_more a (suc n) j e = ap (λ ns. a ∷ ns) (range_more (a + 1) n j (omega arith))

pub flat_to : {B : Type 0} (f : ℕ → List B) (n : ℕ) → flat_map f (range_with_len 1 (n + 1)) ≡ flat_map f (range_with_len 1 n) ++ f (n + 1)
flat_to f n = ap (flat_map f) (rw add-one (range_more 1 n (suc n) (omega arith))) ∙ flat_more f (range_with_len 1 n) (n + 1)

flat_flat : {A B C : Type 0} (f : B → List C) (h : A → List B) (xs : List A) → flat_map f (flat_map h xs) ≡ flat_map (λ x. flat_map f (h x)) xs
flat_flat f h [] = refl
flat_flat f h (x ∷ xs) = flat_append f (h x) (flat_map h xs) ∙ ap (λ cs. flat_map f (h x) ++ cs) (flat_flat f h xs)

pub each_has : {A B : Type 0} (f : A → B) (xs : List A) (x : A) → Has xs x → Has (each f xs) (f x)
each_has f [] x h = absurd h
each_has f (y ∷ xs) x (inl is) = inl (ap f is)
each_has f (y ∷ xs) x (inr h) = inr (each_has f xs x h)

-- where each element has what its image has
flat_same : {A B C : Type 0} (f : A → List C) (h : B → List C) (to : A → B) (xs : List A) → ((x : A) → Has xs x → f x ≡ h (to x)) → flat_map f xs ≡ flat_map h (each to xs)
flat_same f h to [] is = refl
flat_same f h to (x ∷ xs) is = (λ i. is x (inl refl) i ++ flat_same f h to xs (λ y has. is y (inr has)) i)

-- ---- of an instance

module _ (s : Subject) (budget : ℕ) (g : Situation) where
  abbrev by_pair : Pair → List Wanted
  by_pair p = wanted_by p (guard s budget g p.path p.trans)

  module _ (m : Path) (i : Instance) (is : IsOfBody g m i.body) where
    one_of : (n : ℕ) (b : Bool) (rest : List Pair) → flat_map by_pair (cond b (pair m n ∷ rest) rest) ≡ wanted_if b (pair m n) (guard s budget g m n) ++ flat_map by_pair rest
    one_of n true rest = refl
    one_of n false rest = refl

    delayed : (n : ℕ) → is_delayed (transition s i.body n) ≡ has_delay s g m n
    delayed n = ap (λ k. is_delayed (transition s k n)) (sym is.2) ∙ ap (λ o. is_delayed (transition_at s n o)) (sym is.1)

    numbers : range_with_len 1 (length (transitions s i.body)) ≡ numbers_of s (map.get g.core.instances m)
    numbers = ap (λ k. range_with_len 1 (length (transitions s k))) (sym is.2) ∙ ap (numbers_of s) (sym is.1)

    abbrev delayed_among : List ℕ → List Pair
    delayed_among ns = filter (λ p. is_delayed (transition_at s p.trans (Some i))) (each (pair m) ns)

    instance_wants : (ns : List ℕ) → flat_map by_pair (delayed_among ns) ≡ flat_map (wanted_at s budget g m) ns
    instance_wants [] = refl
    instance_wants (n ∷ ns) =
        one_of n (is_delayed (transition s i.body n)) (delayed_among ns)
        ∙ (λ k. wanted_if (delayed n k) (pair m n) (guard s budget g m n) ++ instance_wants ns k)

    of_instance : flat_map by_pair (delayed_of s (m, i)) ≡ wanted_of s budget g m
    of_instance = instance_wants (range_with_len 1 (length (transitions s i.body))) ∙ ap (flat_map (wanted_at s budget g m)) numbers

  -- ---- of a system

  module _ (system : Path) where
    abbrev inner : List (Path × Instance)
    inner = map.entries (map.retain_keys g.core.instances (is_inside system))

    entry_is : (e : Path × Instance) → Has inner e → IsOfBody g e.0 e.1.body
    entry_is e h =
        let is = part_is g system (part_of_entry e) (each_has part_of_entry inner e h) in
        (is.0, is.1, ap (λ (p : Part). p.body) (sym is.2))

    pub wanted_is : wanted s budget g system ≡ flat_map (wanted_of s budget g) (at_and_below g system)
    wanted_is =
        flat_flat by_pair (delayed_of s) inner
        ∙ flat_same (λ e. flat_map by_pair (delayed_of s e)) (wanted_of s budget g) (λ (e : Path × Instance). e.0) inner (λ e h. of_instance e.0 e.1 (entry_is e h))
        ∙ ap (flat_map (wanted_of s budget g)) (sym (map-map (λ (p : Part). p.path) part_of_entry inner) ∙ paths_are g system)
