-- What is pending and was not taken: each firing is pending once, open tickets are of pending ones, and what a system selects was not taken.
use Rattle.std.proofs.Common.{◌≡◌, ◌≢◌, ℕ, zero, suc, Bool, true, false, not, cond, List, [], ◌∷◌, ◌++◌, filter, Some, refl, sym, ap, subst, ◌∙◌, ⊎_elim, arith}
use Rattle.std.specs.Prelude.{IsTrue, slice_get, Contains}
use Rattle.std.specs.List.{list_any, remove, AllByRecursion}
use Rattle.std.proofs.lemmas.List.Elements.{Contains-append_right}
use Rattle.pascal_values.specs.declared.fault.Fault as fault
use Rattle.estelle_tree.specs.Paths.{Path, is_inside}
use Rattle.estelle_tree.specs.Timers.{pair}
use Rattle.estelle_tree.specs.declared.transition.Pair.{Pair}
use Rattle.estelle_model.specs.declared.event.Event.TheVariants as event
use Rattle.estelle_model.specs.Subject.{Subject}
use Rattle.estelle_model.specs.Situation.{Situation}
use Rattle.estelle_model.specs.Runs.{IsIdle, same_pair, without}
use Rattle.estelle_model.proofs.PrivateParts.{inside_self}
use Rattle.estelle_model_legality.specs.Pending.{ArePending}
use Rattle.estelle_model_legality.proofs.Lists.{not_true, not_both, in_none, in_cases, of_each, each_of, any_of}
use Rattle.estelle_model_legality.proofs.Members.{has_contained, has_any}
use Rattle.run_history.specs.declared.entry.Taken.{Taken}
use Rattle.run_history.specs.Tickets.{settled_by}
use Rattle.run_history.specs.OpenTickets.{untaken, AreOnce}
use Rattle.run_history.proofs.Untaken.{of, is_it, itself, takes_leave, selections_leave}
use Rattle.situation.proofs.OpenTickets.{SettlesNone}

abbrev IsOther : Pair → Pair → Type 0
IsOther p q = same_pair p q ≡ false

-- ---- each firing is pending once

apart : (p q : Pair) → is_inside p.path q.path ≡ false → IsOther p q
apart p q out = not_true (same_pair p q) (λ e. not_both (is_inside p.path q.path) (ap (λ (r : Pair). is_inside p.path r.path) (is_it p q e) ∙ inside_self p.path) out)

others : (p : Pair) (qs : List Pair) → ((j : ℕ) (q : Pair) → slice_get qs j ≡ Some q → is_inside p.path q.path ≡ false) → AllByRecursion (IsOther p) qs
others p [] f = tt
others p (q ∷ qs) f = (apart p q (f 0 q refl), others p qs (λ j r there. f (suc j) r there))

once_by : (ps : List Pair) → ((i j : ℕ) (p q : Pair) → i ≢ j → slice_get ps i ≡ Some p → slice_get ps j ≡ Some q → is_inside p.path q.path ≡ false) → AreOnce ps
once_by [] f = tt
once_by (p ∷ ps) f = (
  others p ps (λ j q there. f 0 (suc j) p q (λ (same : 0 ≡ suc j). omega (arith, same)) refl there),
  once_by ps (λ i j a b differ here there. f (suc i) (suc j) a b (λ (same : suc i ≡ suc j). differ (omega (arith, same))) here there),
)

pub are_once : (s : Subject) (g : Situation) → ArePending s g → AreOnce g.pending
are_once s g pending = once_by g.pending pending.apart

-- a part of them is once, too
part_others : (p : Pair) (f : Pair → Bool) (qs : List Pair) → AllByRecursion (IsOther p) qs → AllByRecursion (IsOther p) (filter f qs)
part_others p f [] h = tt
part_others p f (q ∷ qs) h = by (f q) (part_others p f qs h.1)
  where
    by : (b : Bool) → AllByRecursion (IsOther p) (filter f qs) → AllByRecursion (IsOther p) (cond b (q ∷ filter f qs) (filter f qs))
    by true rest = (h.0, rest)
    by false rest = rest

part_once : (f : Pair → Bool) (ps : List Pair) → AreOnce ps → AreOnce (filter f ps)
part_once f [] h = tt
part_once f (p ∷ ps) h = by (f p) (part_once f ps h.1)
  where
    by : (b : Bool) → AreOnce (filter f ps) → AreOnce (cond b (p ∷ filter f ps) (filter f ps))
    by true rest = (part_others p f ps h.0, rest)
    by false rest = rest

-- ---- takes

-- taking one out is leaving its place out
without_at : (ps : List Pair) → AreOnce ps → (at : ℕ) (p : Pair) → slice_get ps at ≡ Some p → without p ps ≡ remove ps at
without_at [] once at p there = absurd (cc)
without_at (q ∷ qs) once zero p there =
    let is : q ≡ p = cc in
    ap (λ b. cond b qs (q ∷ without p qs)) (ap (same_pair p) is ∙ itself p)
without_at (q ∷ qs) once (suc k) p there =
    let other : same_pair q p ≡ false = at_other q p k qs once.0 there in
    let turned : same_pair p q ≡ false = not_true (same_pair p q) (λ e. not_both (same_pair q p) (ap (λ (r : Pair). same_pair r p) (is_it p q e) ∙ itself p) other) in
    ap (λ b. cond b qs (q ∷ without p qs)) turned ∙ ap (λ (rs : List Pair). q ∷ rs) (without_at qs once.1 k p there)
  where
    at_other : (q p : Pair) (k : ℕ) (qs : List Pair) → AllByRecursion (IsOther q) qs → slice_get qs k ≡ Some p → same_pair q p ≡ false
    at_other q p k [] h there = absurd (cc)
    at_other q p zero (r ∷ rs) h there = let is : r ≡ p = cc in subst (IsOther q) is h.0
    at_other q p (suc j) (r ∷ rs) h there = at_other q p j rs h.1 there

-- where the untaken one at this place is taken, the others are left
pub left_of_take : (os : List Taken) (o : Taken) (ps : List Pair) → AreOnce ps → (at : ℕ) → slice_get (untaken os ps) at ≡ Some (of o) → untaken (os ++ o ∷ []) ps ≡ remove (untaken os ps) at
left_of_take os o ps once at there =
    takes_leave os o ps once ∙ without_at (untaken os ps) (part_once (λ p. not (list_any (λ (x : Taken). same_pair (of x) p) os)) ps once) at (of o) there

-- where nothing was taken, all of it is left
pub all_untaken : (ps : List Pair) → untaken [] ps ≡ ps
all_untaken [] = refl
all_untaken (p ∷ ps) = ap (λ (qs : List Pair). p ∷ qs) (all_untaken ps)

-- ---- selections

-- what stands behind others in such a list is none of them
apart_in : (ps ts : List Pair) (p t : Pair) → AreOnce (ps ++ ts) → Contains ps p → Contains ts t → IsOther p t
apart_in [] ts p t once here there = absurd (in_none Pair p here)
apart_in (q ∷ qs) ts p t once here there =
    ⊎_elim
    (λ (is : p ≡ q). subst (λ (r : Pair). IsOther r t) (sym is) (of_each Pair (IsOther q) (qs ++ ts) once.0 t (Contains-append_right qs ts t there)))
    (λ (later : Contains qs p). apart_in qs ts p t once.1 later there)
    (in_cases Pair p q qs here)

abbrev pub ArePendingIn : List Taken → List Pair → Type 0
ArePendingIn os ps = (o : Taken) → Contains os o → Contains ps (of o)

pub left_of_selection : (os : List Taken) (ps ts : List Pair) → AreOnce (ps ++ ts) → ArePendingIn os ps
    → untaken os (ps ++ ts) ≡ untaken os ps ++ ts
left_of_selection os ps ts once pending =
    ap (λ (xs : List Taken). untaken xs (ps ++ ts)) (sym (all_left os)) ∙ selections_leave os 0 [] 0 ps ts
    (each_of Pair (λ t. list_any (λ o. same_pair (of o) t) os ≡ false) ts (λ t there.
    any_of Taken (λ o. same_pair (of o) t) os (each_of Taken (λ o. same_pair (of o) t ≡ false) os (λ o here. apart_in ps ts (of o) t once (pending o here) there))))
  where
    all_left : (xs : List Taken) → filter (λ (o : Taken). true) xs ≡ xs
    all_left [] = refl
    all_left (x ∷ xs) = ap (λ (ys : List Taken). x ∷ ys) (all_left xs)

-- ---- firings

-- the firing of an open ticket was taken
pub is_taken : (os : List Taken) (o : Taken) (p : Pair) → Contains os o → of o ≡ p → list_any (λ x. same_pair (of x) p) os ≡ true
is_taken os o p here is = has_any (λ (x : Taken). same_pair (of x) p) os o (has_contained os o here) (ap (λ (q : Pair). same_pair q p) is ∙ itself p)

-- ---- faults of guards

-- a guard of a system of which nothing is pending is of no open ticket
pub guards_settle_none : (os : List Taken) (g : Situation) (system m : Path) (n : ℕ) (kind : fault.Fault) → ArePendingIn os g.pending → IsIdle g system → IsTrue (is_inside system m) → SettlesNone (event.Fault m n kind) os
guards_settle_none os g system m n kind pending idle inside =
    each_of Taken (λ o. settled_by o.path o.trans (event.Fault m n kind) ≡ false) os (λ o here.
    not_true (settled_by o.path o.trans (event.Fault m n kind)) (λ e.
    let same : pair m n ≡ of o = is_it (of o) (pair m n) e in
    idle (of o) (pending o here) (subst (λ (q : Pair). IsTrue (is_inside system q.path)) same inside)))
