-- The systems that are kept: which of them is due, and what a selection changes of them.
use Rattle.std.proofs.Common.{◌≡◌, ℕ, zero, suc, ◌+◌, Bool, true, false, T, List, [], ◌∷◌, ◌++◌, map as each, filter, length, take, Some, refl, sym, ap, subst, cond, ◌∙◌, inl, inr, arith, nat_eq}
use Rattle.std.specs.Prelude.{count_by, slice_get, slice_set}
use Rattle.std.specs.List.{AllByRecursion}
use Rattle.std.specs.FinMap as map
use Rattle.std.specs.FinMap.{is_sorted}
use Rattle.std.specs.Ordering.{is_lt, ordering_reverse}
use Rattle.std.specs.declared.cmp.Ordering.{Ordering}
use Rattle.std.specs.declared.cmp.Ordering.TheVariants.{Less, Equal, Greater}
use Rattle.std.proofs.lemmas.List.Sums.{length-filter, sum_by-append}
use Rattle.estelle_tree.specs.declared.transition.Pair.{Pair}
use Rattle.estelle_tree.specs.Paths.{Path, path_cmp, is_inside}
use Rattle.estelle_model.specs.declared.event.Event.{Event}
use Rattle.estelle_model.specs.Core.{Instance}
use Rattle.estelle_model.specs.Subject.{Subject}
use Rattle.estelle_model.specs.Situation.{Situation}
use Rattle.estelle_model.specs.Attributes.{is_system, attribute_at, IsSystem}
use Rattle.estelle_model.specs.Selection.{paths}
use Rattle.estelle_model.specs.Runs.{IsIdle, situation}
use Rattle.estelle_model.specs.Schedule.{IsDue, IsFirstDue}
use Rattle.estelle_model.proofs.Maps.{total, left_of, right_of}
use Rattle.estelle_model.proofs.PrivateParts.{left_true, right_true}
use Rattle.estelle_model_legality.proofs.Lists.{both_and, not_both, same_number}
use Rattle.estelle_model_legality.proofs.Members.{Has, has_got, contains_has, has_contained, has_filter, filter_has, filter_empty}
use Rattle.estelle_model_legality.proofs.Children.{there_has}
use Rattle.estelle_model_legality.proofs.Systems.{system_there}
use Rattle.situation_steps.specs.declared.systems.System.{System}
use Rattle.situation_steps.specs.declared.systems.Time.{Time}
use Rattle.situation_steps.specs.Systems.{systems_of, is_awaiting, count_inside, IsKept, is_due, IsFirstDueAt}
use Rattle.situation_steps.specs.UnderWay.{IsUnderWay}
use Rattle.estelle_model_legality.proofs.Members.{has_each, each_has}

-- ---- lists

pub of_all : {A : Type 0} (P : A → Type 0) (xs : List A) → AllByRecursion P xs → (x : A) → Has xs x → P x
of_all P [] h x has = absurd has
of_all P (y ∷ ys) h x (inl e) = subst P e h.0
of_all P (y ∷ ys) h x (inr has) = of_all P ys h.1 x has

filter_all : {A : Type 0} (test : A → Bool) (xs : List A) → ((x : A) → Has xs x → test x ≡ true) → filter test xs ≡ xs
filter_all test [] h = refl
filter_all test (x ∷ xs) h = ap (λ b. cond b (x ∷ filter test xs) (filter test xs)) (h x (inl refl)) ∙ ap (λ ys. x ∷ ys) (filter_all test xs (λ y k. h y (inr k)))

filter_none : {A : Type 0} (test : A → Bool) (xs : List A) → ((x : A) → Has xs x → test x ≡ false) → filter test xs ≡ []
filter_none test [] h = refl
filter_none test (x ∷ xs) h = ap (λ b. cond b (x ∷ filter test xs) (filter test xs)) (h x (inl refl)) ∙ filter_none test xs (λ y k. h y (inr k))

pub count_all : {A : Type 0} (test : A → Bool) (xs : List A) → ((x : A) → Has xs x → test x ≡ true) → count_by test xs ≡ length xs
count_all test xs h = sym (length-filter test xs) ∙ ap length (filter_all test xs h)

pub count_none : {A : Type 0} (test : A → Bool) (xs : List A) → ((x : A) → Has xs x → test x ≡ false) → count_by test xs ≡ 0
count_none test xs h = sym (length-filter test xs) ∙ ap length (filter_none test xs h)

pub count_both : {A : Type 0} (test : A → Bool) (xs ys : List A) → count_by test (xs ++ ys) ≡ count_by test xs + count_by test ys
count_both test xs ys = sum_by-append (λ x. cond (test x) 1 0) xs ys

pub empty_of : {A : Type 0} (xs : List A) → length xs ≡ 0 → xs ≡ []
empty_of [] e = refl
empty_of (x ∷ xs) e = absurd (omega (arith, e))

pub none_counted : {A : Type 0} (test : A → Bool) (xs : List A) → count_by test xs ≡ 0 → (x : A) → Has xs x → test x ≡ false
none_counted test xs e = filter_empty test xs (empty_of (filter test xs) (length-filter test xs ∙ e))

-- ---- paths in order

-- each comes before those after it
abbrev pub Rising : List Path → Type 0
Rising [] = Unit {0}
Rising (p ∷ ps) = ((q : Path) → Has ps q → path_cmp p q ≡ Less) × Rising ps

less_of : (o : Ordering) → T (is_lt o) → o ≡ Less
less_of Less h = refl
less_of Equal h = absurd h
less_of Greater h = absurd h

below_less : (p : Path) (es : List (Path × Instance)) → T (map.Entries.below_all path_cmp p es) → (q : Path) → Has (each (λ e. e.0) es) q → path_cmp p q ≡ Less
below_less p [] h q has = absurd has
below_less p (e ∷ es) h q (inl is) = ap (path_cmp p) (sym is) ∙ less_of (path_cmp p e.0) (left_of (is_lt (path_cmp p e.0)) _ h)
below_less p (e ∷ es) h q (inr has) = below_less p es (right_of (is_lt (path_cmp p e.0)) _ h) q has

keys_rise : (es : List (Path × Instance)) → T (is_sorted path_cmp es) → Rising (each (λ e. e.0) es)
keys_rise [] h = tt
keys_rise (e ∷ es) h = (below_less e.0 es (left_of (map.Entries.below_all path_cmp e.0 es) _ h), keys_rise es (right_of (map.Entries.below_all path_cmp e.0 es) _ h))

filter_rises : (test : Path → Bool) (ps : List Path) → Rising ps → Rising (filter test ps)
filter_rises test [] d = tt
filter_rises test (p ∷ ps) d = by (test p) (filter_rises test ps d.1)
  where
    by : (b : Bool) → Rising (filter test ps) → Rising (cond b (p ∷ filter test ps) (filter test ps))
    by true rest = (λ q h. d.0 q (has_filter test ps q h).0, rest)
    by false rest = rest

pub systems_rise : (s : Subject) (g : Situation) → Rising (systems_of s g)
systems_rise s g = filter_rises (λ p. is_system (attribute_at s g p)) (paths g) (keys_rise (map.entries g.core.instances) (map.entries_sorted g.core.instances))

turned : (o : Ordering) → o ≡ Less → ordering_reverse o ≡ Less → ⊥
turned Less e f = cc
turned Equal e f = cc
turned Greater e f = cc

not_both_ways : (p q : Path) → path_cmp p q ≡ Less → path_cmp q p ≡ Less → ⊥
not_both_ways p q h k = turned (path_cmp p q) h (sym (total.antisymm q p) ∙ k)

-- ---- one of the kept systems

abbrev pub paths_of : List System → List Path
paths_of xs = each (λ x. x.path) xs

-- a system whose path comes before that of the one with a number stands before it
stands_before : (xs : List System) (at : ℕ) (x : System) → slice_get xs at ≡ Some x → Rising (paths_of xs) → (y : System) → Has xs y → path_cmp y.path x.path ≡ Less → Has (take at xs) y
stands_before [] at x e d y has less = absurd has
stands_before (z ∷ xs) zero x e d y (inl is) less = let same : z ≡ x = cc in absurd (not_both_ways y.path x.path less (ap (λ (v : System). path_cmp x.path v.path) (sym is ∙ same) ∙ ap (λ (v : System). path_cmp v.path x.path) (sym same ∙ is) ∙ less))
stands_before (z ∷ xs) zero x e d y (inr has) less = let same : z ≡ x = cc in absurd (not_both_ways y.path x.path less (ap (λ (v : System). path_cmp v.path y.path) (sym same) ∙ d.0 y.path (has_each (λ (v : System). v.path) xs y has)))
stands_before (z ∷ xs) (suc at) x e d y (inl is) less = inl is
stands_before (z ∷ xs) (suc at) x e d y (inr has) less = inr (stands_before xs at x e d.1 y has less)

apart_paths : (p q : Path) → path_cmp p q ≡ Less → p ≡ q → ⊥
apart_paths p q less e = not_both_ways p q less (ap (λ (r : Path). path_cmp q r) e ∙ ap (λ (r : Path). path_cmp r q) (sym e) ∙ less)

-- ---- one of them is set

-- the paths stay, where that of the new one is that of the old one
pub set_paths : (xs : List System) (at : ℕ) (x z : System) → slice_get xs at ≡ Some x → z.path ≡ x.path → paths_of (slice_set xs at z) ≡ paths_of xs
set_paths [] at x z e same = absurd (cc)
set_paths (y ∷ xs) zero x z e same = let is : x ≡ y = cc in ap (λ (p : Path). p ∷ paths_of xs) (same ∙ ap (λ (v : System). v.path) is)
set_paths (y ∷ xs) (suc at) x z e same = ap (λ (ps : List Path). y.path ∷ ps) (set_paths xs at x z e same)

-- what holds of the new one, and of each other one, holds of all
pub set_all : (P Q : System → Type 0) (xs : List System) (at : ℕ) (x z : System) → slice_get xs at ≡ Some x → Rising (paths_of xs) → AllByRecursion P xs → Q z
    → ((y : System) → Has xs y → (y.path ≡ x.path → ⊥) → P y → Q y) → AllByRecursion Q (slice_set xs at z)
set_all P Q [] at x z e d all new other = absurd (cc)
set_all P Q (y ∷ xs) zero x z e d all new other = (new, rest xs (λ v h. h) all.1)
  where
    is : y ≡ x
    is = cc

    rest : (vs : List System) → ((v : System) → Has vs v → Has xs v) → AllByRecursion P vs → AllByRecursion Q vs
    rest [] f h = tt
    rest (v ∷ vs) f h = (
      other v (inr (f v (inl refl))) (λ same. apart_paths y.path v.path (d.0 v.path (has_each (λ (u : System). u.path) xs v (f v (inl refl)))) (ap (λ (u : System). u.path) is ∙ sym same)) h.0,
      rest vs (λ u k. f u (inr k)) h.1,
    )
set_all P Q (y ∷ xs) (suc at) x z e d all new other = (
  other y (inl refl) (apart_paths y.path x.path (d.0 x.path (has_each (λ (u : System). u.path) xs x (has_got xs at x e)))) all.0,
  set_all P Q xs at x z e d.1 all.1 new (λ u h. other u (inr h)),
)

-- another one stays
pub set_has : (xs : List System) (at : ℕ) (x z : System) → slice_get xs at ≡ Some x → (y : System) → Has xs y → (y ≡ x → ⊥) → Has (slice_set xs at z) y
set_has [] at x z e y has apart = absurd has
set_has (v ∷ xs) zero x z e y (inl is) apart = absurd (apart (let same : y ≡ x = cc in same))
set_has (v ∷ xs) zero x z e y (inr has) apart = inr has
set_has (v ∷ xs) (suc at) x z e y (inl is) apart = inl is
set_has (v ∷ xs) (suc at) x z e y (inr has) apart = inr (set_has xs at x z e y has apart)

-- ---- in a run

module _ (s : Subject) (budget : ℕ) (events : List Event) (time : Time) (systems : List System) (w : IsUnderWay s budget events time systems) where
  pub kept_rise : Rising (paths_of systems)
  kept_rise = subst Rising (sym w.all) (systems_rise s (situation s budget events))

  pub kept_is_system : (y : System) → Has systems y → IsSystem s (situation s budget events) y.path
  kept_is_system y has =
      (has_filter (λ p. is_system (attribute_at s (situation s budget events) p)) (paths (situation s budget events)) y.path
      (subst (λ (ps : List Path). Has ps y.path) w.all (has_each (λ (x : System). x.path) systems y has))).1

  -- each system is kept
  pub system_is_kept : (system : Path) → IsSystem s (situation s budget events) system → (y : System) × (Has systems y) × (y.path ≡ system)
  system_is_kept system is =
      each_has (λ (x : System). x.path) systems system
      (subst (λ (ps : List Path). Has ps system) (sym w.all)
      (filter_has (λ p. is_system (attribute_at s (situation s budget events) p)) (paths (situation s budget events)) system
      (there_has (situation s budget events).core.instances system (system_there s (situation s budget events) system is)) is))

  -- of a kept system that is due nothing is pending
  pub due_is_idle : (y : System) → Has systems y → is_due y ≡ true → IsIdle (situation s budget events) y.path
  due_is_idle y has due p contained inside =
      let k = of_all (IsKept s budget events time.waited) systems w.kept y has in
      let none : count_inside y.path (situation s budget events).pending ≡ 0 = sym k.pending ∙ same_number y.pending 0 (right_true y.awaits (nat_eq y.pending 0) due) in
      not_both (is_inside y.path p.path) inside (none_counted (λ (q : Pair). is_inside y.path q.path) (situation s budget events).pending none p (has_contained (situation s budget events).pending p contained))

  pub kept_is_due : (y : System) → Has systems y → is_due y ≡ true → IsDue s budget events time.waited y.path
  kept_is_due y has due = record {
    is_system = kept_is_system y has;
    idle = due_is_idle y has due;
    awaits = sym (of_all (IsKept s budget events time.waited) systems w.kept y has).awaits ∙ left_true y.awaits (nat_eq y.pending 0) due;
  }

  -- a system that is due is one of those that are kept, and is due there
  pub due_is_among : (system : Path) → IsDue s budget events time.waited system → (y : System) × (Has systems y) × (y.path ≡ system) × (is_due y ≡ true)
  due_is_among system due =
      let r = system_is_kept system due.is_system in
      let k = of_all (IsKept s budget events time.waited) systems w.kept r.0 r.1 in
      let awaiting : r.0.awaits ≡ true = k.awaits ∙ ap (λ (p : Path). is_awaiting s budget events time.waited p) r.2 ∙ due.awaits in
      let none : r.0.pending ≡ 0 =
      k.pending ∙ count_none (λ (q : Pair). is_inside r.0.path q.path) (situation s budget events).pending
      (λ q has. not_inside q has r.0.path r.2) in
      (r.0, r.1, r.2, both_and r.0.awaits (nat_eq r.0.pending 0) awaiting (ap (λ n. nat_eq n 0) none))
    where
      not_inside : (q : Pair) → Has (situation s budget events).pending q → (p : Path) → p ≡ system → is_inside p q.path ≡ false
      not_inside q has p is = by (is_inside p q.path) refl
        where
          by : (b : Bool) → is_inside p q.path ≡ b → b ≡ false
          by true e = absurd (due.idle q (contains_has (situation s budget events).pending q has) (ap (λ (r : Path). is_inside r q.path) (sym is) ∙ e))
          by false e = refl

  -- the first that is due there is the first that is due
  pub first_is_due : (at : ℕ) (x : System) → IsFirstDueAt systems at x → IsFirstDue s budget events time.waited x.path
  first_is_due at x first = record { due = kept_is_due x (has_got systems at x first.there) first.due; first = none_before }
    where
      none_before : (other : Path) → path_cmp other x.path ≡ Less → IsDue s budget events time.waited other → ⊥
      none_before other less due =
          let r = due_is_among other due in
          let before = stands_before systems at x first.there kept_rise r.0 r.1 (ap (λ (p : Path). path_cmp p x.path) r.2 ∙ less) in
          not_both (is_due r.0) r.3 (of_all (λ (y : System). is_due y ≡ false) (take at systems) first.first r.0 before)
