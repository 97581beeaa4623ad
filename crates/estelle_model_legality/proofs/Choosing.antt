-- What any chooser chooses may be selected.
use Rattle.std.proofs.Common.{◌≡◌, ◌⊎◌, ◌≢◌, ℕ, zero, suc, ◌+◌, ◌<◌, ◌≤◌, Bool, true, false, List, [], ◌∷◌, ◌++◌, length, Option, Some, None, refl, sym, ap, subst, ◌∙◌, inl, inr, arith}
use Rattle.std.specs.Prelude.{◌&&◌, ◌||◌, not, min, nat_le, IsTrue, option_and_then}
use Rattle.std.specs.List.{list_any, range_with_len}
use Rattle.std.specs.FinMap as map
use Rattle.std.proofs.lemmas.Bool.{cases_lt, leb-true, le-leb}
use Rattle.std.proofs.lemmas.Option.{slice_get_within}
use Rattle.estelle_tree.specs.declared.transition.Pair.{Pair}
use Rattle.estelle_tree.specs.Paths.{Path, child, last_of, is_inside}
use Rattle.estelle_tree.specs.Timers.{Timer, pair, cap, last_moment, due, low_is_over, high_is_over, ends_by}
use Rattle.estelle_model.specs.declared.meaning.Attribute.{Attribute}
use Rattle.estelle_model.specs.declared.meaning.Attribute.TheVariants.{Systemprocess, Systemactivity, Process, Activity}
use Rattle.estelle_model.specs.Core.{Instance}
use Rattle.estelle_model.specs.Transitions.{Transition}
use Rattle.estelle_model.specs.Subject.{Subject, transitions, transition}
use Rattle.estelle_model.specs.Situation.{Situation}
use Rattle.estelle_model.specs.Firing.{guard, guard_at, guard_of}
use Rattle.estelle_model.specs.Attributes.{attribute, attribute_at, allows, is_process, is_activity, IsProcess, IsActivity, is_empty}
use Rattle.estelle_model.specs.Delays.{is_on, has_delay, may, must}
use Rattle.estelle_model.specs.Choosers.{Draw}
use Rattle.estelle_model.specs.Selection.{May, Must, has_priority, Eligible, IsSilent, paths, children, Selects, SelectsEach}
use Rattle.estelle_model.specs.Selection as selection
use Rattle.estelle_model.specs.Schedule.{numbers_of, counted, offered, is_able, able_children, Chosen, ChosenOfEach, own, process, activity, quiet, none, more}
use Rattle.estelle_model.specs.Jobs.{IsThere}
use Rattle.estelle_model_legality.specs.Pending.{IsInOrder, AreInOrder}
use Rattle.estelle_model_legality.specs.Choices.{AreTree}
use Rattle.estelle_model_legality.proofs.Members.{Has, has_got, contains_has, nothing_has, has_filter, filter_has, any_has, has_any, has_none}
use Rattle.estelle_model.proofs.PrivateParts.{left_true, right_true}
use Rattle.estelle_model_legality.proofs.Lists.{both_and, is_not}
use Rattle.estelle_model_legality.proofs.Ways.{inside_itself}
use Rattle.estelle_model_legality.proofs.Children.{there_has, has_there, has_child, inside_child, at_or_below, from_below}

-- ---- tests

empty_is : {A : Type 0} (xs : List A) → not (is_empty xs) ≡ false → xs ≡ []
empty_is [] e = refl
empty_is (x ∷ xs) e = absurd (cc)

not_empty : {A : Type 0} (xs : List A) → not (is_empty xs) ≡ true → xs ≢ []
not_empty [] e is = absurd (cc)
not_empty (x ∷ xs) e is = absurd (cc)

some_empty : {A : Type 0} (xs : List A) → xs ≢ [] → not (is_empty xs) ≡ true
some_empty [] h = absurd (h refl)
some_empty (x ∷ xs) h = refl

first_empty : {A : Type 0} (xs ys : List A) → xs ++ ys ≡ [] → xs ≡ []
first_empty [] ys e = refl
first_empty (x ∷ xs) ys e = absurd (cc)

second_empty : {A : Type 0} (xs ys : List A) → xs ++ ys ≡ [] → ys ≡ []
second_empty [] ys e = e
second_empty (x ∷ xs) ys e = absurd (cc)

-- ---- time

capped : (a b last now : ℕ) → a ≤ b → min b last ≤ now → min a last ≤ now
capped a b last now h e = omega arith

low_first : (now : ℕ) (t : Timer) (high : Option ℕ) → IsInOrder t high → ends_by now t.start high ≡ true → nat_le (due t) now ≡ true
low_first now t None h e = absurd (cc)
low_first now t (Some high) h e =
    let before : t.start + t.low ≤ t.start + high = omega (arith, h) in
    le-leb (due t) now (capped (t.start + t.low) (t.start + high) last_moment now before (leb-true (cap (t.start + high)) now e))

-- what must be counted has waited long enough
high_low : (now : ℕ) (o : Option Timer) → ((t : Timer) → o ≡ Some t → IsInOrder t t.high) → high_is_over now o ≡ true → low_is_over now o ≡ true
high_low now None h e = absurd (cc)
high_low now (Some t) h e = low_first now t t.high (h t refl) e

-- ---- numbers of transitions

range_has : (len a n : ℕ) → a ≤ n → n < a + len → Has (range_with_len a len) n
range_has zero a n low high = absurd (omega arith)
range_has (suc len) a n low high = by (cases_lt a n) (λ less. range_has len (a + 1) n (omega arith) (omega arith))
  where
    by : (a < n) ⊎ (n ≤ a) → (a < n → Has (range_with_len (a + 1) len) n) → Has (range_with_len a (suc len)) n
    by (inl less) rest = inr (rest less)
    by (inr last) rest = inl (omega arith)

-- ---- attributes

-- inside what has an attribute there are processes and activities alone
kind : (a b : Option Attribute) → IsTrue (allows a b) → (is_process a ≡ true) ⊎ (is_activity a ≡ true) → (is_process b ≡ true) ⊎ (is_activity b ≡ true)
kind None b h (inl e) = absurd (cc)
kind None b h (inr e) = absurd (cc)
kind (Some a) None h k = absurd (let wrong : false ≡ true = h in cc)
kind (Some a) (Some Systemprocess) h k = inl refl
kind (Some a) (Some Systemactivity) h k = inr refl
kind (Some a) (Some Process) h k = inl refl
kind (Some a) (Some Activity) h k = inr refl

module _ (s : Subject) (budget : ℕ) (g : Situation) where
  -- ---- what an instance counts

  guard_numbered : (m : Path) (n : ℕ) (o : Option Instance) → is_on (guard_at s budget g m n o) ≡ true → Has (numbers_of s o) n
  guard_numbered m n None e = absurd (cc)
  guard_numbered m n (Some i) e = by n (transition s i.body n) refl e
    where
      by : (n : ℕ) (o : Option Transition) → transition s i.body n ≡ o → is_on (guard_of s budget g m (map.contains_key g.timers (record { path = m; trans = n })) i o) ≡ true → Has (numbers_of s (Some i)) n
      by n None is e = absurd (cc)
      by zero (Some t) is e = absurd (cc)
      by (suc k) (Some t) is e = let less = slice_get_within (transitions s i.body) k t is in range_has (length (transitions s i.body)) 1 (suc k) (omega arith) (omega (arith, less))

  may_counted : (m : Path) (n : ℕ) → May s budget g m n → Has (counted s budget g m) n
  may_counted m n h = filter_has (may s budget g m) (numbers_of s (map.get g.core.instances m)) n (guard_numbered m n (map.get g.core.instances m) (left_true (is_on (guard s budget g m n)) _ h)) h

  module _ (in_order : AreInOrder g) where
    must_may : (m : Path) (n : ℕ) → Must s budget g m n → May s budget g m n
    must_may m n h =
        let on = left_true (is_on (guard s budget g m n)) _ h in
        both_and (is_on (guard s budget g m n)) _ on (waited (has_delay s g m n) (right_true (is_on (guard s budget g m n)) _ h))
      where
        waited : (b : Bool) → (not b || high_is_over g.now (map.get g.timers (pair m n))) ≡ true → (not b || low_is_over g.now (map.get g.timers (pair m n))) ≡ true
        waited true e = high_low g.now (map.get g.timers (pair m n)) (in_order (pair m n)) e
        waited false e = refl

    silent : (m : Path) → counted s budget g m ≡ [] → IsSilent s budget g m
    silent m e n must = nothing_has (counted s budget g m) n e (may_counted m n (must_may m n must))

    eligible : (m : Path) (n : ℕ) → Has (offered s budget g m) n → Eligible s budget g m n
    eligible m n h =
        let r = has_filter (λ j. not (list_any (λ k. has_priority s g m k j) (counted s budget g m))) (counted s budget g m) n h in
        let none_higher = is_not (list_any (λ k. has_priority s g m k n) (counted s budget g m)) r.1 in
        record {
          may = (has_filter (may s budget g m) (numbers_of s (map.get g.core.instances m)) n r.0).1;
          highest = λ k must higher.
              let wrong : false ≡ true = sym (has_none (λ j. has_priority s g m j n) (counted s budget g m) none_higher k (may_counted m k (must_may m k must))) ∙ higher in
              absurd (cc);
        }

  -- ---- what is able

  -- what is asked of each instance
  abbrev offers_below : Path → Path → Bool
  offers_below m q = is_inside m q && not (is_empty (counted s budget g q))

  able_by : (m q : Path) → IsThere g.core.instances q → is_inside m q ≡ true → counted s budget g q ≢ [] → is_able s budget g m ≡ true
  able_by m q there inside some = has_any (offers_below m) (paths g) q (there_has g.core.instances q there) (both_and (is_inside m q) _ inside (some_empty (counted s budget g q) some))

  able_at : (m : Path) → is_able s budget g m ≡ true → (q : Path) × (IsThere g.core.instances q) × (is_inside m q ≡ true) × (counted s budget g q ≢ [])
  able_at m e =
      let r = any_has (offers_below m) (paths g) e in
      (r.0, has_there g.core.instances r.0 r.1, left_true (is_inside m r.0) _ r.2, not_empty (counted s budget g r.0) (right_true (is_inside m r.0) _ r.2))

  unable_counted : (m : Path) → IsThere g.core.instances m → is_able s budget g m ≡ false → counted s budget g m ≡ []
  unable_counted m there e =
      empty_is (counted s budget g m) (ap (λ b. b && not (is_empty (counted s budget g m))) (sym (inside_itself m)) ∙ has_none (offers_below m) (paths g) e m (there_has g.core.instances m there))

  unable_child : (m c : Path) → Has (children g m) c → is_able s budget g m ≡ false → is_able s budget g c ≡ false
  unable_child m c h off = by (is_able s budget g c) refl
    where
      by : (b : Bool) → is_able s budget g c ≡ b → b ≡ false
      by false e = refl
      by true e =
          let r = able_at c e in
          let is = has_child s g m c h in
          let inside : is_inside (child m (last_of c)) r.0 ≡ true = ap (λ p. is_inside p r.0) (sym is.1) ∙ r.2 in
          sym (able_by m r.0 r.1 (inside_child m (last_of c) r.0 inside) r.3) ∙ off

  pub picked_child : (m c : Path) → Has (able_children s budget g m) c → (Has (children g m) c) × (is_able s budget g c ≡ true)
  picked_child m c h = has_filter (is_able s budget g) (children g m) c h

  module _ (tree : AreTree s g.core.instances) where
    able_child : (m : Path) → is_able s budget g m ≡ true → counted s budget g m ≡ [] → (c : Path) × (Has (children g m) c) × (is_able s budget g c ≡ true)
    able_child m e none_here = let r = able_at m e in by r.0 r.1 r.3 (at_or_below s g tree m r.0 r.1 r.2)
      where
        by : (q : Path) → IsThere g.core.instances q → counted s budget g q ≢ [] → (q ≡ m) ⊎ ((c : Path) × (Has (children g m) c) × (is_inside c q ≡ true)) → (c : Path) × (Has (children g m) c) × (is_able s budget g c ≡ true)
        by q there some (inl is) = absurd (some (ap (counted s budget g) is ∙ none_here))
        by q there some (inr c) = (c.0, c.1, able_by c.0 q there c.2 some)

    -- ---- nothing is selected where nothing is able

    -- it is a process or an activity
    abbrev pub IsActive : Path → Type 0
    IsActive m = IsProcess s g m ⊎ IsActivity s g m

    pub active_child : (m c : Path) → Has (children g m) c → IsActive m → IsActive c
    active_child m c h active =
        let is = has_child s g m c h in
        let place = tree m (last_of c) is.0.0 (ap (map.get g.core.instances) (sym is.1) ∙ is.0.1) in
        let above : attribute_at s g m ≡ attribute s place.parent.body = ap (option_and_then (λ (i : Instance). attribute s i.body)) place.there in
        let here : attribute_at s g c ≡ attribute s is.0.0.body = ap (option_and_then (λ (i : Instance). attribute s i.body)) is.0.1 in
        subst (λ (a : Option Attribute). (is_process a ≡ true) ⊎ (is_activity a ≡ true)) (sym here)
        (kind (attribute s place.parent.body) (attribute s is.0.0.body) place.allowed (subst (λ (a : Option Attribute). (is_process a ≡ true) ⊎ (is_activity a ≡ true)) above active))

    each_nothing : (cs : List Path) → ((c : Path) → Has cs c → Selects s budget g c []) → SelectsEach s budget g cs []
    each_nothing [] f = selection.none
    each_nothing (c ∷ cs) f = selection.more c cs [] [] (f c (inl refl)) (each_nothing cs (λ k h. f k (inr h)))

    module _ (in_order : AreInOrder g) where
      nothing_here : (m : Path) → IsThere g.core.instances m → IsActive m → is_able s budget g m ≡ false → ((c : Path) → Has (children g m) c → Selects s budget g c []) → Selects s budget g m []
      nothing_here m there (inl is) off f = selection.process m [] (silent in_order m (unable_counted m there off)) is (each_nothing (children g m) f)
      nothing_here m there (inr is) off f = selection.quiet m (silent in_order m (unable_counted m there off)) is (each_nothing (children g m) f)

      nothing_selected : (m : Path) → IsThere g.core.instances m → IsActive m → is_able s budget g m ≡ false → Selects s budget g m []
      nothing_selected = from_below s g (λ m. IsActive m → is_able s budget g m ≡ false → Selects s budget g m []) (λ m there below active off. nothing_here m there active off (λ c h. below c h (active_child m c h active) (unable_child m c h off)))

      quiet_children : (m c : Path) → IsActivity s g m → able_children s budget g m ≡ [] → Has (children g m) c → Selects s budget g c []
      quiet_children m c is none_able h = nothing_selected c (has_child s g m c h).0 (active_child m c h (inr is)) (by (is_able s budget g c) refl)
        where
          by : (b : Bool) → is_able s budget g c ≡ b → b ≡ false
          by true e = absurd (nothing_has (able_children s budget g m) c none_able (filter_has (is_able s budget g) (children g m) c h e))
          by false e = refl

      module _ {C : Type 0} (draw : Draw C) where
        -- ---- of what is able something is chosen

        mutual
          chosen_some : {m : Path} {c : C} {takes : List Pair} {rest : C} → Chosen draw s budget g m c takes rest → is_able s budget g m ≡ true → takes ≢ []
          chosen_some (own m c n rest p) able e = cc
          chosen_some (process m c all rest none_here is each) able e = let k = able_child m able none_here in each_some each k.0 k.1 k.2 e
          chosen_some (activity m c k after some rest none_here is p chosen) able e = chosen_some chosen (picked_child m k (has_got (able_children s budget g m) _ k p.takes)).1 e
          chosen_some (quiet m c none_here is none_able) able e = let k = able_child m able none_here in nothing_has (able_children s budget g m) k.0 none_able (filter_has (is_able s budget g) (children g m) k.0 k.1 k.2)

          each_some : {ms : List Path} {c : C} {takes : List Pair} {rest : C} → ChosenOfEach draw s budget g ms c takes rest → (k : Path) → Has ms k → is_able s budget g k ≡ true → takes ≢ []
          each_some (none c) k h able e = h
          each_some (more m ms c some after others rest chosen each) k (inl is) able e = chosen_some chosen (ap (is_able s budget g) is ∙ able) (first_empty some others e)
          each_some (more m ms c some after others rest chosen each) k (inr h) able e = each_some each k h able (second_empty some others e)

        -- ---- what is chosen is selected

        mutual
          pub selected : {m : Path} {c : C} {takes : List Pair} {rest : C} → Chosen draw s budget g m c takes rest → Selects s budget g m takes
          selected (own m c n rest p) = selection.own m n (eligible in_order m n (has_got (offered s budget g m) _ n p.takes))
          selected (process m c all rest none_here is each) = selection.process m all (silent in_order m none_here) is (each_selected each)
          selected (activity m c k after some rest none_here is p chosen) =
              let its = picked_child m k (has_got (able_children s budget g m) _ k p.takes) in
              selection.activity m k some (silent in_order m none_here) is (contains_has (children g m) k its.0) (chosen_some chosen its.1) (selected chosen)
          selected (quiet m c none_here is none_able) = selection.quiet m (silent in_order m none_here) is (each_nothing (children g m) (λ k h. quiet_children m k is none_able h))

          each_selected : {ms : List Path} {c : C} {takes : List Pair} {rest : C} → ChosenOfEach draw s budget g ms c takes rest → SelectsEach s budget g ms takes
          each_selected (none c) = selection.none
          each_selected (more m ms c some after others rest chosen each) = selection.more m ms some others (selected chosen) (each_selected each)
