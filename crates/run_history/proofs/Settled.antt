-- What settles a ticket settles no other, and takes it alone out of the list.
use Rattle.std.proofs.Common.{◌≡◌, ℕ, zero, suc, ◌+◌, Bool, true, false, List, [], ◌∷◌, ◌++◌, Option, Some, None, refl, sym, ap, subst, ◌∙◌, cond, append-nil, append_assoc}
use Rattle.std.specs.Prelude.{not, nat_eq, filter, slice_get, All, Contains}
use Rattle.std.specs.List.{remove, AllByRecursion}
use Rattle.std.specs.Str.{bytes_eq}
use Rattle.std.proofs.lemmas.List.Elements.{All-nil, All-cons}
use Rattle.estelle_tree.specs.Paths.{Path}
use Rattle.estelle_tree.specs.Timers.{pair}
use Rattle.estelle_tree.specs.declared.transition.Pair.{Pair}
use Rattle.estelle_model.specs.declared.event.Event.{Event}
use Rattle.estelle_model.specs.declared.event.Event.TheVariants as event
use Rattle.estelle_model.specs.Subject.{Subject}
use Rattle.estelle_model.specs.Runs.{same_pair}
use Rattle.estelle_model_legality.proofs.Lists.{not_true, not_both, each_of}
use Rattle.run_history.specs.declared.entry.Entry.{Entry}
use Rattle.run_history.specs.declared.entry.Taken.{Taken}
use Rattle.run_history.specs.declared.entry.What.{What}
use Rattle.run_history.specs.declared.entry.What.TheVariants as what
use Rattle.run_history.specs.Tickets.{settled_by, IsOpen, MayTake, AreTaken, AreTickets}
use Rattle.run_history.specs.OpenTickets.{after_what, open_in, AreApart, OpenTicketsAreApart, SettlingFollows, SettlingTakesOut, OthersTakeNoneOut}
use Rattle.run_history.proofs.OpenTickets.{open_more, open_listed, same_is}
use Rattle.run_history.proofs.Untaken.{of, is_it, itself}

abbrev IsApart : Taken → Taken → Type 0
IsApart o x = same_pair (of o) (of x) ≡ false

-- ---- lists of tickets that are apart

by_more : (P : Taken → Type 0) (os : List Taken) (o : Taken) → AllByRecursion P os → P o → AllByRecursion P (os ++ o ∷ [])
by_more P [] o h p = (p, tt)
by_more P (x ∷ os) o h p = (h.0, by_more P os o h.1 p)

by_part : (P : Taken → Type 0) (f : Taken → Bool) (os : List Taken) → AllByRecursion P os → AllByRecursion P (filter f os)
by_part P f [] h = tt
by_part P f (o ∷ os) h = by (f o) (by_part P f os h.1)
  where
    by : (b : Bool) → AllByRecursion P (filter f os) → AllByRecursion P (cond b (o ∷ filter f os) (filter f os))
    by true rest = (h.0, rest)
    by false rest = rest

by_at : (P : Taken → Type 0) (os : List Taken) (at : ℕ) (o : Taken) → AllByRecursion P os → slice_get os at ≡ Some o → P o
by_at P [] at o h there = absurd (cc)
by_at P (x ∷ os) zero o h there = let is : x ≡ o = cc in subst P is h.0
by_at P (x ∷ os) (suc k) o h there = by_at P os k o h.1 there

apart_more : (os : List Taken) (o : Taken) → AreApart os → AllByRecursion (λ x. IsApart x o) os → AreApart (os ++ o ∷ [])
apart_more [] o a h = (tt, tt)
apart_more (x ∷ os) o a h = (by_more (IsApart x) os o a.0 h.0, apart_more os o a.1 h.1)

apart_part : (f : Taken → Bool) (os : List Taken) → AreApart os → AreApart (filter f os)
apart_part f [] a = tt
apart_part f (o ∷ os) a = by (f o) (apart_part f os a.1)
  where
    by : (b : Bool) → AreApart (filter f os) → AreApart (cond b (o ∷ filter f os) (filter f os))
    by true rest = (by_part (IsApart o) f os a.0, rest)
    by false rest = rest

-- ---- open tickets are apart

free_apart : (s : Subject) (budget : ℕ) (es : List Entry) (m : Path) (n : ℕ) → MayTake s budget es m n → AllByRecursion (λ (x : Taken). same_pair (of x) (pair m n) ≡ false) (open_in es)
free_apart s budget es m n may = each_of Taken (λ x. same_pair (of x) (pair m n) ≡ false) (open_in es) (λ x c. not_true (same_pair (of x) (pair m n)) (λ e.
    let i = open_listed es x c in
    let same = same_is x m n e in
    may.free x.ticket (subst (λ (z : Path × ℕ). IsOpen es x.ticket z.0 z.1) (λ j. (same.0 j, same.1 j)) i.0)))

-- along the entries
apart_on : (s : Subject) (budget : ℕ) (before es : List Entry) → AreTaken s budget (before ++ es) → AreApart (open_in before) → AreApart (open_in (before ++ es))
apart_on s budget before [] taken a = subst (λ (l : List Entry). AreApart (open_in l)) (sym (append-nil before)) a
apart_on s budget before (e ∷ es) taken a =
    let same : (before ++ e ∷ []) ++ es ≡ before ++ e ∷ es = append_assoc before (e ∷ []) es in
    subst (λ (l : List Entry). AreApart (open_in l)) same (apart_on s budget (before ++ e ∷ []) es (subst (AreTaken s budget) (sym same) taken) (subst AreApart (sym (open_more before e)) (by e.what refl)))
  where
    by : (w : What) → e.what ≡ w → AreApart (after_what e.by w (open_in before))
    by (what.Take k m n) is =
        let may : MayTake s budget before m n = taken k n e.by m before es (record { stands = λ i. before ++ (record { by = e.by; what = is i }) ∷ es }) in
        apart_more (open_in before) (record { ticket = k; path = m; trans = n; by = e.by }) a (free_apart s budget before m n may)
    by (what.Event ev) is = apart_part (λ o. not (settled_by o.path o.trans ev)) (open_in before) a
    by (what.Ended end) is = a

pub open_apart : OpenTicketsAreApart
open_apart s budget es t = apart_on s budget [] es t.taken tt

-- ---- what settles a ticket

-- it is the firing of that ticket, so that it settles what is of the same firing
settled_pair : (o : Taken) (e : Event) → settled_by o.path o.trans e ≡ true → (x : Taken) → settled_by x.path x.trans e ≡ same_pair (of x) (of o)
settled_pair o (event.Fire path trans outs drops) h x = ap (same_pair (of x)) (is_it (of o) (pair path trans) h)
settled_pair o (event.Fault path trans kind) h x = ap (same_pair (of x)) (is_it (of o) (pair path trans) h)
settled_pair o (event.Start outs drops) h x = absurd (cc)
settled_pair o (event.Select system now takes) h x = absurd (cc)

-- which pair is the other does not matter
turned : (o x : Taken) → IsApart o x → IsApart x o
turned o x a = not_true (same_pair (of x) (of o)) (λ e. not_both (same_pair (of o) (of x)) (ap (λ (p : Pair). same_pair p (of x)) (is_it (of x) (of o) e) ∙ itself (of x)) a)

module _ (e : Event) where
  abbrev is_left : Taken → Bool
  is_left x = not (settled_by x.path x.trans e)

  pub none_out : (os : List Taken) → AllByRecursion (λ (o : Taken). settled_by o.path o.trans e ≡ false) os → filter is_left os ≡ os
  none_out [] h = refl
  none_out (o ∷ os) h = ap (λ b. cond (not b) (o ∷ filter is_left os) (filter is_left os)) h.0 ∙ ap (λ (xs : List Taken). o ∷ xs) (none_out os h.1)

  module _ (o : Taken) (settles : settled_by o.path o.trans e ≡ true) where
    not_others : (os : List Taken) → AllByRecursion (IsApart o) os → AllByRecursion (λ (x : Taken). settled_by x.path x.trans e ≡ false) os
    not_others [] h = tt
    not_others (x ∷ os) h = (settled_pair o e settles x ∙ turned o x h.0, not_others os h.1)

    pub one_out : (os : List Taken) (at : ℕ) → AreApart os → slice_get os at ≡ Some o → filter is_left os ≡ remove os at
    one_out [] at a there = absurd (cc)
    one_out (x ∷ os) zero a there =
        let is : x ≡ o = cc in
        let it : settled_by x.path x.trans e ≡ true = ap (λ (y : Taken). settled_by y.path y.trans e) is ∙ settles in
        let none = not_others os (subst (λ (y : Taken). AllByRecursion (IsApart y) os) is a.0) in
        ap (λ b. cond (not b) (x ∷ filter is_left os) (filter is_left os)) it ∙ none_out os none
    one_out (x ∷ os) (suc k) a there =
        let no : settled_by x.path x.trans e ≡ false = settled_pair o e settles x ∙ by_at (IsApart x) os k o a.0 there in
        ap (λ b. cond (not b) (x ∷ filter is_left os) (filter is_left os)) no ∙ ap (λ (xs : List Taken). x ∷ xs) (one_out os k a.1 there)

    abbrev IsOwn : Taken → Type 0
    IsOwn x = settled_by x.path x.trans e ≡ true → x.by ≡ o.by

    none_own : (os : List Taken) → AllByRecursion (λ (x : Taken). settled_by x.path x.trans e ≡ false) os → All IsOwn os
    none_own [] h = All-nil IsOwn
    none_own (x ∷ os) h = All-cons IsOwn x os (λ is. absurd (not_both (settled_by x.path x.trans e) is h.0)) (none_own os h.1)

    pub own_alone : (os : List Taken) (at : ℕ) → AreApart os → slice_get os at ≡ Some o → All IsOwn os
    own_alone [] at a there = All-nil IsOwn
    own_alone (x ∷ os) zero a there =
        let is : x ≡ o = cc in
        All-cons IsOwn x os (λ h. ap (λ (y : Taken). y.by) is) (none_own os (not_others os (subst (λ (y : Taken). AllByRecursion (IsApart y) os) is a.0)))
    own_alone (x ∷ os) (suc k) a there =
        let no : settled_by x.path x.trans e ≡ false = settled_pair o e settles x ∙ by_at (IsApart x) os k o a.0 there in
        All-cons IsOwn x os (λ h. absurd (not_both (settled_by x.path x.trans e) h no)) (own_alone os k a.1 there)

pub settling_follows : SettlingFollows
settling_follows s budget es t at o there e settles = own_alone e o settles (open_in es) at (open_apart s budget es t) there

pub settling_takes_out : SettlingTakesOut
settling_takes_out os a at o there e by settles = one_out e o settles os at a there

pub others_take_none_out : OthersTakeNoneOut
others_take_none_out os e by none = none_out e os none
