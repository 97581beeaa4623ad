-- Examples of selection: a parent that excludes its children, and a system of activities of which one child goes on.
use Rattle.std.proofs.Common.{◌≡◌, ℕ, ◌≤◌, true, false, List, [], ◌∷◌, length, pos, Option, Some, None, refl, sym, ap, subst, ◌∙◌, arith}
use Rattle.std.specs.Prelude.{ℤ, Contains}
use Rattle.std.specs.FinMap as map
use Rattle.std.specs.Cmp.Lexicographic.{nat_list_cmp_total}
use Rattle.estelle_tree.specs.declared.transition.Pair.{Pair}
use Rattle.estelle_tree.specs.Paths.{Path, path_cmp}
use Rattle.estelle_tree.specs.Timers.{pair}
use Rattle.estelle_model.specs.Core.{Instance, Instances}
use Rattle.estelle_model.specs.Subject.{Subject}
use Rattle.estelle_model.specs.Situation.{Situation}
use Rattle.estelle_model.specs.Attributes.{IsProcess, IsActivity}
use Rattle.estelle_model.specs.Choosers.{Draw, Picks}
use Rattle.estelle_model.specs.Selection.{May, Must, priority, is_higher, HasPriority, IsSilent, children, Selects, SelectsEach, own, process, activity, quiet, none, more}
use Rattle.estelle_model.specs.Schedule.{counted, offered, is_able, able_children, Chosen, ChosenOfEach}
use Rattle.estelle_model.specs.Schedule as schedule

-- ---- priorities: a smaller number is higher, and any number is higher than none

pub smaller_higher : is_higher (Some (pos 1)) (Some (pos 2)) ≡ true
smaller_higher = refl

pub greater_not : is_higher (Some (pos 2)) (Some (pos 1)) ≡ false
greater_not = refl

pub some_higher : is_higher (Some (pos 9)) None ≡ true
some_higher = refl

pub none_not : is_higher None (Some (pos 9)) ≡ false
none_not = refl

pub none_alike : is_higher None None ≡ false
none_alike = refl

-- ---- what holds of every selection

module _ (s : Subject) (budget : ℕ) (g : Situation) where
  -- an instance of which a transition must be counted selects one of its own, and nothing below it
  pub excludes : {m : Path} {takes : List Pair} → Selects s budget g m takes → (n : ℕ) → Must s budget g m n → (k : ℕ) × (takes ≡ pair m k ∷ [])
  excludes (own m k e) n must = (k, refl)
  excludes (process m all silent is each) n must = absurd (silent n must)
  excludes (activity m c some silent is has filled selects) n must = absurd (silent n must)
  excludes (quiet m silent is each) n must = absurd (silent n must)

  -- where no instance is a process, one transition goes on at a time
  pub one_at_a_time : ((q : Path) → IsProcess s g q → ⊥) → {m : Path} {takes : List Pair} → Selects s budget g m takes → length takes ≤ 1
  one_at_a_time none_is (own m k e) = omega arith
  one_at_a_time none_is (process m all silent is each) = absurd (none_is m is)
  one_at_a_time none_is (activity m c some silent is has filled selects) = one_at_a_time none_is selects
  one_at_a_time none_is (quiet m silent is each) = omega arith

-- ---- a parent with two children, /1 and /2, which have none

abbrev first : Path
first = 1 ∷ []

abbrev second : Path
second = 2 ∷ []

abbrev family : Instance → Instance → Instance → Instances
family root a b = map.insert (map.insert (map.insert map.empty [] root) first a) second b

entries_empty : map.entries (map.empty {K = Path} {X = Instance} {R = path_cmp}) ≡ []
entries_empty = no_length _ (sym (map.len-entries (map.empty {K = Path} {X = Instance} {R = path_cmp})) ∙ map.len-empty path_cmp Instance)
  where
    no_length : (xs : List (Path × Instance)) → length xs ≡ 0 → xs ≡ []
    no_length [] e = refl
    no_length (x ∷ xs) e = absurd (cc)

entries_are : (root a b : Instance) → map.entries (family root a b) ≡ ([], root) ∷ (first, a) ∷ (second, b) ∷ []
entries_are root a b =
    map.entries-insert nat_list_cmp_total (map.insert (map.insert map.empty [] root) first a) second b
    ∙ ap (map.put path_cmp second b) (map.entries-insert nat_list_cmp_total (map.insert map.empty [] root) first a
    ∙ ap (map.put path_cmp first a) (map.entries-insert nat_list_cmp_total map.empty [] root ∙ ap (map.put path_cmp [] root) entries_empty))

path_of : List Pair → Path
path_of [] = []
path_of (p ∷ ps) = p.path

not_the_parent : (k : ℕ) → ◌≡◌ {A = List Pair} (pair first 1 ∷ []) (pair [] k ∷ []) → ⊥
unfolding path_of
not_the_parent k e = let wrong : first ≡ [] = ap path_of e in absurd (cc)

-- a chooser that answers by a list, and then 0
abbrev pub by_script : Draw (List ℕ)
by_script [] n = (0, [])
by_script (k ∷ answers) n = (k, answers)

module _ (s : Subject) (budget : ℕ) (g : Situation) (root a b : Instance) (are : g.core.instances ≡ family root a b)
    (may_first : May s budget g first 1) (may_second : May s budget g second 1)
    (plain_first : (n : ℕ) → priority s g first n ≡ None) (plain_second : (n : ℕ) → priority s g second n ≡ None) where
  pub children_are : children g [] ≡ first ∷ second ∷ []
  children_are = simp (are, entries_are)

  pub first_alone : children g first ≡ []
  first_alone = simp (are, entries_are)

  no_higher : (m : Path) → ((n : ℕ) → priority s g m n ≡ None) → (k n : ℕ) → HasPriority s g m k n → ⊥
  no_higher m plain k n higher = let wrong : false ≡ true = sym (ap (λ (p : Option ℤ). is_higher p (priority s g m n)) (plain k)) ∙ higher in absurd (cc)

  offers_first : Selects s budget g first (pair first 1 ∷ [])
  offers_first = own first 1 (record { may = may_first; highest = λ k must higher. no_higher first plain_first k 1 higher })

  offers_second : Selects s budget g second (pair second 1 ∷ [])
  offers_second = own second 1 (record { may = may_second; highest = λ k must higher. no_higher second plain_second k 1 higher })

  -- ---- the parent offers something too

  module _ (may_root : May s budget g [] 1) (must_root : Must s budget g [] 1) (plain_root : (n : ℕ) → priority s g [] n ≡ None) where
    pub parent_selects : Selects s budget g [] (pair [] 1 ∷ [])
    parent_selects = own [] 1 (record { may = may_root; highest = λ k must higher. no_higher [] plain_root k 1 higher })

    -- it excludes its children, whatever they offer
    pub child_excluded : Selects s budget g [] (pair first 1 ∷ []) → ⊥
    child_excluded selects = let r = excludes s budget g selects 1 must_root in not_the_parent r.0 r.1

  -- ---- the parent has nothing to offer

  module _ (silent : IsSilent s budget g []) where
    -- or it may wait: what may be selected and need not be counted yet, as within the bounds of a delay, excludes nothing
    pub parent_may : May s budget g [] 1 → Selects s budget g [] (pair [] 1 ∷ [])
    parent_may may = own [] 1 (record { may = may; highest = λ k must. absurd (silent k must) })

    -- of a process both children go on, in path order
    pub process_selects : IsProcess s g [] → Selects s budget g [] (pair first 1 ∷ pair second 1 ∷ [])
    process_selects is = process [] (pair first 1 ∷ pair second 1 ∷ []) silent is
        (subst (λ (cs : List Path). SelectsEach s budget g cs (pair first 1 ∷ pair second 1 ∷ [])) (sym children_are)
        (more first (second ∷ []) (pair first 1 ∷ []) (pair second 1 ∷ []) offers_first (more second [] (pair second 1 ∷ []) [] offers_second none)))

    module _ (is : IsActivity s g []) where
      first_child : Contains (children g []) first
      first_child = subst (λ (cs : List Path). Contains cs first) (sym children_are) (0, omega arith, refl)

      second_child : Contains (children g []) second
      second_child = subst (λ (cs : List Path). Contains cs second) (sym children_are) (1, omega arith, refl)

      -- of an activity the one
      pub activity_selects : Selects s budget g [] (pair first 1 ∷ [])
      activity_selects = activity [] first (pair first 1 ∷ []) silent is first_child (λ e. cc) offers_first

      -- or the other
      pub activity_selects_other : Selects s budget g [] (pair second 1 ∷ [])
      activity_selects_other = activity [] second (pair second 1 ∷ []) silent is second_child (λ e. cc) offers_second

      -- and not both
      pub never_both : ((q : Path) → IsProcess s g q → ⊥) → Selects s budget g [] (pair first 1 ∷ pair second 1 ∷ []) → ⊥
      never_both none_is selects = let few : 2 ≤ 1 = one_at_a_time s budget g none_is selects in omega arith

    -- ---- by a chooser, where /1 offers two transitions and /2 one

    module _ (nothing : counted s budget g [] ≡ []) (two : offered s budget g first ≡ 1 ∷ 2 ∷ []) (one : offered s budget g second ≡ 4 ∷ []) where
      takes_of_first : (n : ℕ) (answers rest : List ℕ) → Picks by_script answers (1 ∷ 2 ∷ []) n rest → Chosen by_script s budget g first answers (pair first n ∷ []) rest
      takes_of_first n answers rest picks = schedule.own first answers n rest (subst (λ (ns : List ℕ). Picks by_script answers ns n rest) (sym two) picks)

      -- one candidate draws none
      takes_of_second : (answers : List ℕ) → Chosen by_script s budget g second answers (pair second 4 ∷ []) answers
      takes_of_second answers = schedule.own second answers 4 answers (subst (λ (ns : List ℕ). Picks by_script answers ns 4 answers) (sym one) (record { takes = refl; leaves = refl }))

      -- of a process each child draws in its turn
      pub process_chosen : IsProcess s g [] → Chosen by_script s budget g [] (1 ∷ 7 ∷ []) (pair first 2 ∷ pair second 4 ∷ []) (7 ∷ [])
      process_chosen is = schedule.process [] (1 ∷ 7 ∷ []) (pair first 2 ∷ pair second 4 ∷ []) (7 ∷ []) nothing is
          (subst (λ (cs : List Path). ChosenOfEach by_script s budget g cs (1 ∷ 7 ∷ []) (pair first 2 ∷ pair second 4 ∷ []) (7 ∷ [])) (sym children_are)
          (schedule.more first (second ∷ []) (1 ∷ 7 ∷ []) (pair first 2 ∷ []) (7 ∷ []) (pair second 4 ∷ []) (7 ∷ []) (takes_of_first 2 (1 ∷ 7 ∷ []) (7 ∷ []) (record { takes = refl; leaves = refl }))
          (schedule.more second [] (7 ∷ []) (pair second 4 ∷ []) (7 ∷ []) [] (7 ∷ []) (takes_of_second (7 ∷ [])) (schedule.none (7 ∷ [])))))

      module _ (is : IsActivity s g []) (able_first : is_able s budget g first ≡ true) (able_second : is_able s budget g second ≡ true) where
        able_are : able_children s budget g [] ≡ first ∷ second ∷ []
        able_are = simp (children_are, able_first, able_second)

        -- an activity draws the child, and then the child draws the transition
        pub child_then_transition : Chosen by_script s budget g [] (0 ∷ 1 ∷ 7 ∷ []) (pair first 2 ∷ []) (7 ∷ [])
        child_then_transition = schedule.activity [] (0 ∷ 1 ∷ 7 ∷ []) first (1 ∷ 7 ∷ []) (pair first 2 ∷ []) (7 ∷ []) nothing is
            (subst (λ (cs : List Path). Picks by_script (0 ∷ 1 ∷ 7 ∷ []) cs first (1 ∷ 7 ∷ [])) (sym able_are) (record { takes = refl; leaves = refl }))
            (takes_of_first 2 (1 ∷ 7 ∷ []) (7 ∷ []) (record { takes = refl; leaves = refl }))

        pub other_child : Chosen by_script s budget g [] (1 ∷ 7 ∷ []) (pair second 4 ∷ []) (7 ∷ [])
        other_child = schedule.activity [] (1 ∷ 7 ∷ []) second (7 ∷ []) (pair second 4 ∷ []) (7 ∷ []) nothing is
            (subst (λ (cs : List Path). Picks by_script (1 ∷ 7 ∷ []) cs second (7 ∷ [])) (sym able_are) (record { takes = refl; leaves = refl }))
            (takes_of_second (7 ∷ []))
