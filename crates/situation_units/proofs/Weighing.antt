-- How many outputs and children a firing makes: no more than it has units.
use Rattle.std.proofs.Common.{◌≡◌, ℕ, ◌+◌, ◌≤◌, Bool, true, false, List, [], Ok, Err, Option, Some, None, refl, sym, ap, subst, cond, ◌∙◌, arith}
use Rattle.std.specs.Prelude.{not, option_map}
use Rattle.std.specs.FinMap as map
use Rattle.std.specs.Ordering.{eq_by_cmp}
use Rattle.pascal_values.specs.declared.value.Value.{Value}
use Rattle.estelle_tree.specs.Paths.{Path, path_cmp, child, is_inside}
use Rattle.estelle_model.specs.Core.{Instance, Instances}
use Rattle.estelle_model.specs.Effects.{StatementEffect, Output, Connect, Disconnect, Attach, Detach, Create, Remove, Change, Store, Hold, Enter, born, changed, changed_in, instances_after}
use Rattle.estelle_model.specs.Belonging.{are_values_of}
use Rattle.estelle_model.specs.Steps.{StepResult, Do, ◌>>◌, pure, breaks}
use Rattle.estelle_model.specs.Transitions.{Transition, When}
use Rattle.estelle_model.specs.Subject.{Subject, meant, meant_with, of_block, begins}
use Rattle.estelle_model.specs.Situation.{Situation, Acting, situation_after, made_after}
use Rattle.estelle_model.specs.Queues.{Found, NotNeeded, Head, Absent, received}
use Rattle.estelle_model.specs.Clauses.{fire_step, start_step}
use Rattle.estelle_model.specs.Blocks.{fresh, block_step}
use Rattle.estelle_model.specs.Situation.{on_situation}
use Rattle.estelle_model.specs.Plans.{carry}
use Rattle.estelle_model.specs.Actions.{enters_state}
use Rattle.estelle_model.specs.Acts.{act}
use Rattle.estelle_model.specs.Firing.{Firing, Ran, Failed, Undefined, begun, done, untimed, taken, fire_with, fire_found, fire_of, fire, transition_at, start, bare}
use Rattle.estelle_model.proofs.Maps.{total, apart}
use Rattle.estelle_model.proofs.PrivateParts.{get_changed, same_path}
use Rattle.situation_units.specs.Counting.{births_of, births_at, FiringsAreWithin, StartsAreWithin}
use Rattle.situation_units.proofs.Weights.{IsChildless, Weighs, NoMore, block_no_more}
use Rattle.estelle_model.proofs.Carried.{price}

-- ---- outputs

made_weighs : Weighs (λ g. g.made)
unfolding made_after
made_weighs = record { does = does; keeps = λ p change g. omega arith }
  where
    does : (e : StatementEffect) → IsChildless e → (g : Situation) → (situation_after e g).made ≤ g.made + price e
    does (Output from ip name values) h g = omega arith
    does (Create p k i) h g = omega arith
    does (Connect a b) h g = omega arith
    does (Disconnect a) h g = omega arith
    does (Attach upper lower) h g = omega arith
    does (Detach upper) h g = omega arith
    does (Remove p k) h g = omega arith

-- ---- births

born_more : (o : Option Instance) → births_of (option_map born o) ≤ births_of o + 1
born_more None = omega arith
born_more (Some i) = omega arith

born_in : (q p : Path) (x : Instances) → births_of (map.get (changed_in p born x) q) ≤ births_of (map.get x q) + 1
born_in q p x = by (eq_by_cmp path_cmp q p) refl (get_changed p born x q)
  where
    by : (b : Bool) → eq_by_cmp path_cmp q p ≡ b → map.get (changed_in p born x) q ≡ cond (eq_by_cmp path_cmp q p) (option_map born (map.get x p)) (map.get x q) → births_of (map.get (changed_in p born x) q) ≤ births_of (map.get x q) + 1
    by true e is =
        let same : births_of (map.get (changed_in p born x) q) ≡ births_of (option_map born (map.get x q)) = ap births_of (is ∙ ap (λ b. cond b (option_map born (map.get x p)) (map.get x q)) e ∙ ap (λ r. option_map born (map.get x r)) (sym (same_path q p e))) in
        omega (arith, same, born_more (map.get x q))
    by false e is =
        let same : births_of (map.get (changed_in p born x) q) ≡ births_of (map.get x q) = ap births_of (is ∙ ap (λ b. cond b (option_map born (map.get x p)) (map.get x q)) e) in
        omega (arith, same)

changed_same : (change : Change) (o : Option Instance) → births_of (option_map (changed change) o) ≡ births_of o
changed_same change None = refl
changed_same (Store variable way value) (Some i) = refl
changed_same (Hold variable held) (Some i) = refl
changed_same (Enter state) (Some i) = refl

module _ (q : Path) where
  created : (p : Path) (k : ℕ) (i : Instance) → i.births ≡ 0 → (x : Instances) → births_of (map.get (map.insert (changed_in p born x) (child p k) i) q) ≤ births_of (map.get x q) + 1
  created p k i new x = by (eq_by_cmp path_cmp q (child p k)) (map.get-insert total (changed_in p born x) (child p k) i q)
    where
      by : (b : Bool) → map.get (map.insert (changed_in p born x) (child p k) i) q ≡ cond b (Some i) (map.get (changed_in p born x) q) → births_of (map.get (map.insert (changed_in p born x) (child p k) i) q) ≤ births_of (map.get x q) + 1
      by true is = let none : births_of (map.get (map.insert (changed_in p born x) (child p k) i) q) ≡ i.births = ap births_of is in omega (arith, none, new)
      by false is = let same : births_of (map.get (map.insert (changed_in p born x) (child p k) i) q) ≡ births_of (map.get (changed_in p born x) q) = ap births_of is in omega (arith, same, born_in q p x)

  removed : (p : Path) (k : ℕ) (x : Instances) → births_of (map.get (map.retain_keys x (λ r. not (is_inside (child p k) r))) q) ≤ births_of (map.get x q)
  removed p k x = by (not (is_inside (child p k) q)) (map.get-retain_keys x (λ r. not (is_inside (child p k) r)) q (λ r tie. ap (λ y. not (is_inside (child p k) y)) (sym (apart q r tie))))
    where
      by : (b : Bool) → map.get (map.retain_keys x (λ r. not (is_inside (child p k) r))) q ≡ cond b (map.get x q) None → births_of (map.get (map.retain_keys x (λ r. not (is_inside (child p k) r))) q) ≤ births_of (map.get x q)
      by true is = let same : births_of (map.get (map.retain_keys x (λ r. not (is_inside (child p k) r))) q) ≡ births_of (map.get x q) = ap births_of is in omega (arith, same)
      by false is = let none : births_of (map.get (map.retain_keys x (λ r. not (is_inside (child p k) r))) q) ≡ 0 = ap births_of is in omega (arith, none)

  kept : (p : Path) (change : Change) (x : Instances) → births_of (map.get (changed_in p (changed change) x) q) ≤ births_of (map.get x q)
  kept p change x = by (eq_by_cmp path_cmp q p) refl (get_changed p (changed change) x q)
    where
      by : (b : Bool) → eq_by_cmp path_cmp q p ≡ b → map.get (changed_in p (changed change) x) q ≡ cond (eq_by_cmp path_cmp q p) (option_map (changed change) (map.get x p)) (map.get x q) → births_of (map.get (changed_in p (changed change) x) q) ≤ births_of (map.get x q)
      by true e is =
          let same : births_of (map.get (changed_in p (changed change) x) q) ≡ births_of (map.get x q) =
          ap births_of (is ∙ ap (λ b. cond b (option_map (changed change) (map.get x p)) (map.get x q)) e ∙ ap (λ r. option_map (changed change) (map.get x r)) (sym (same_path q p e))) ∙ changed_same change (map.get x q) in
          omega (arith, same)
      by false e is = let same : births_of (map.get (changed_in p (changed change) x) q) ≡ births_of (map.get x q) = ap births_of (is ∙ ap (λ b. cond b (option_map (changed change) (map.get x p)) (map.get x q)) e) in omega (arith, same)

  births_weigh : Weighs (λ g. births_at q g)
  unfolding instances_after
  births_weigh = record { does = does; keeps = λ p change g. kept p change g.core.instances }
    where
      does : (e : StatementEffect) → IsChildless e → (g : Situation) → births_at q (situation_after e g) ≤ births_at q g + price e
      does (Output from ip name values) h g = omega arith
      does (Create p k i) h g = created p k i h g.core.instances
      does (Connect a b) h g = omega arith
      does (Disconnect a) h g = omega arith
      does (Attach upper lower) h g = omega arith
      does (Detach upper) h g = omega arith
      does (Remove p k) h g = omega (arith, removed p k g.core.instances)

-- ---- firings

-- so much more weighs what a firing comes to, at most
abbrev Within : (Situation → ℕ) → ℕ → Situation → Firing → Type 0
Within W budget g (Ran after outs drops left) = W after ≤ W g + budget
Within W budget g (Failed kind left) = Unit {0}
Within W budget g Undefined = Unit {0}

module _ (W : Situation → ℕ) (weighs : Weighs W) (s : Subject) (budget : ℕ) where
  done_within : (g : Situation) (o : StepResult Acting (Unit {0})) → NoMore W (Unit {0}) (fresh (begun g) budget) o → Within W budget g (done o)
  done_within g (Ok r) h = omega (arith, h)
  done_within g (Err e) h = tt

  start_within : Within W budget (bare s) (start s budget)
  start_within = done_within (bare s) (start_step Acting on_situation s (fresh (begun (bare s)) budget))
      (block_no_more W weighs s (meant s) [] (begins s 0).block [] (begins s 0).to (fresh (begun (bare s)) budget))

  module _ (bare_of : (g : Situation) (m : Path) (o : Option When) → W (taken s g m o) ≡ W g) (without : (g : Situation) (m : Path) (n : ℕ) → W (record g { timers = map.remove g.timers (record { path = m; trans = n }) }) ≡ W g) (g : Situation) (m : Path) (n : ℕ) where
    with_within : (t : Transition) (values : List Value) → Within W budget g (fire_with s budget g m t values)
    with_within t values = by (fire_with s budget g m t values) (done_within (taken s g m t.when) (fire_step Acting on_situation s m t values (fresh (begun (taken s g m t.when)) budget)) (tested (are_values_of t.received values)
        (block_no_more W weighs s (meant_with s t.chosen) m (of_block (meant_with s t.chosen) t.received t.block) values t.to (fresh (begun (taken s g m t.when)) budget))))
      where
        block : Do Acting
        block = block_step Acting on_situation (meant_with s t.chosen) (act Acting on_situation s (meant_with s t.chosen)) m (of_block (meant_with s t.chosen) t.received t.block) values

        -- the test of what is received takes nothing
        tested : (b : Bool) → NoMore W (Unit {0}) (fresh (begun (taken s g m t.when)) budget) ((block >> carry Acting on_situation (enters_state s m t.to)) (fresh (begun (taken s g m t.when)) budget))
            → NoMore W (Unit {0}) (fresh (begun (taken s g m t.when)) budget) ((cond b (pure (tt {0})) breaks >> block >> carry Acting on_situation (enters_state s m t.to)) (fresh (begun (taken s g m t.when)) budget))
        tested true h = h
        tested false h = tt

        by : (f : Firing) → Within W budget (taken s g m t.when) f → Within W budget g f
        by (Ran after outs drops left) h = omega (arith, h, bare_of g m t.when)
        by (Failed kind left) h = tt
        by Undefined h = tt

    found_within : (t : Transition) (f : Found) → Within W budget g (fire_found s budget g m t f)
    found_within t NotNeeded = with_within t []
    found_within t (Head i) = with_within t i.values
    found_within t Absent = tt

    of_within : (o : Option Transition) → Within W budget g (fire_of s budget g m o)
    of_within None = tt
    of_within (Some t) = found_within t (received s g m t.when)

    fire_within : Within W budget g (fire s budget g m n)
    fire_within = by (fire_of s budget g m (transition_at s n (map.get g.core.instances m))) (of_within (transition_at s n (map.get g.core.instances m)))
      where
        by : (f : Firing) → Within W budget g f → Within W budget g (untimed m n f)
        by (Ran after outs drops left) h = omega (arith, h, without after m n)
        by (Failed kind left) h = tt
        by Undefined h = tt

same_made : (s : Subject) (g : Situation) (m : Path) (o : Option When) → (taken s g m o).made ≡ g.made
same_made s g m None = refl
same_made s g m (Some w) = refl

same_births : (q : Path) (s : Subject) (g : Situation) (m : Path) (o : Option When) → births_at q (taken s g m o) ≡ births_at q g
same_births q s g m None = refl
same_births q s g m (Some w) = refl

pub firings_are_within : FiringsAreWithin
firings_are_within s budget g m n after outs drops left is = record {
  made = subst (Within (λ h. h.made) budget g) is (fire_within (λ h. h.made) made_weighs s budget (same_made s) (λ h p k. refl) g m n);
  births = λ q. subst (Within (births_at q) budget g) is (fire_within (births_at q) (births_weigh q) s budget (same_births q s) (λ h p k. refl) g m n);
}

pub starts_are_within : StartsAreWithin
starts_are_within s budget after outs drops left is = record {
  made = subst (Within (λ h. h.made) budget (bare s)) is (start_within (λ h. h.made) made_weighs s budget);
  births = λ q. subst (Within (births_at q) budget (bare s)) is (start_within (births_at q) (births_weigh q) s budget);
}
