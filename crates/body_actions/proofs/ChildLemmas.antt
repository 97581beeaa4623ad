-- Children: how they begin and end, step by step.
use Rattle.std.proofs.Common.{◌≡◌, ℕ, zero, suc, ◌+◌, Bool, true, false, List, [], ◌++◌, length, drop, replicate, map as each, Option, Some, None, Result, Ok, Err, refl, sym, ap, subst, cond, ◌∙◌, ◌∷◌, arith}
use Rattle.std.specs.Prelude.{◌&&◌, slice_get, slice_index_or}
use Rattle.std.specs.Result.{IsErrAnd}
use Rattle.std.proofs.lemmas.Result.{err_from_is_err_and}
use Rattle.std.specs.FinMap as map
use Rattle.pascal_values.specs.declared.value.Value.{Value}
use Rattle.pascal_values.specs.Shapes.{blank_of}
use Rattle.estelle_tree.specs.Paths.{Path, child, last_of}
use Rattle.estelle_model.specs.declared.denoter.Denoter.{Denoter}
use Rattle.estelle_model.specs.declared.image.Part.{Part}
use Rattle.estelle_model.specs.Types.{shape_of}
use Rattle.estelle_model.specs.Belonging.{are_values_of}
use Rattle.estelle_model.specs.Core.{Instance}
use Rattle.estelle_model.specs.Effects.{Create, Remove, Hold, changed, changed_in}
use Rattle.estelle_model.specs.States.{Logged, on_log}
use Rattle.estelle_model.specs.Stops as model
use Rattle.estelle_model.specs.Steps.{StepResult, Step, and_then, pure, checked_at}
use Rattle.estelle_model.specs.Operators.{◌>>>◌}
use Rattle.estelle_model.specs.Bodies.{BodyAlone}
use Rattle.estelle_model.specs.Subject.{Subject, blanks, new_instance, child_of}
use Rattle.estelle_model.specs.Plans.{Plan, ◌>>=◌, reads, makes, keeps, for_each}
use Rattle.estelle_model.specs.Actions.{at, count_from, may_hold, empty_in, or_no_module, instance_at, disconnect_if, disconnect_child, free_point, release_child, enters_state, holds_child}
use Rattle.estelle_model.proofs.Carried.{carry_then}
use Rattle.estelle_model.specs.Jobs.{instance_of}
use Rattle.body_state.specs.declared.bodies.ModuleBody.{ModuleBody}
use Rattle.body_values.specs.declared.stop.Stop.{Stop}
use Rattle.body_state.specs.Bodies.{module_body}
use Rattle.body_state.specs.Progress.{Progress, running, after}
use Rattle.body_values.specs.declared.stop.Stop.TheVariants as stop
use Rattle.body_state.specs.Follows.{Leads, Follows, carried}
use Rattle.body_actions.specs.Children.{external_of, beginning, begins_child}
use Rattle.body_values.proofs.ValueLemmas.{same_some}
use Rattle.body_state.proofs.FollowLemmas.{follows_stops_next}

-- what stops a call stops its caller
pub passed_on : {A : Type 0} (p : Step Logged A) (w n : Progress) (r : Result A Stop) (e : Stop) → IsErrAnd r (λ y. y ≡ e) → Follows p w (Err e) n → Follows p w r n
passed_on {A} p w n r e is stops =
    let y = err_from_is_err_and r is in
    subst (λ (o : Result A Stop). Follows p w o n) (sym (y.1 ∙ ap (λ (x : Stop). Err x) y.2)) stops

pub last_at : (p : Path) (i : ℕ) → suc i ≡ length p → slice_index_or p i 0 ≡ last_of p
last_at [] i e = absurd (omega (arith, e))
last_at (k ∷ []) zero e = refl
last_at (k ∷ []) (suc i) e = absurd (omega (arith, e))
last_at (k ∷ (n ∷ p)) zero e = absurd (omega (arith, e))
last_at (k ∷ (n ∷ p)) (suc i) e = last_at (n ∷ p) i (omega (arith, e))

-- one plan after another, as one step after another
pub follows_carried : {A B : Type 0} (p : Plan A) (f : A → Plan B) (w n : Progress) (r : Result B Stop) → Leads (λ s. and_then (carried p s) (λ a. carried (f a))) (running w) r (running n) → Follows (carried (p >>= f)) w r n
follows_carried p f w n (Ok b) h = carry_then Logged on_log p f (running w) ∙ h
follows_carried p f w n (Err (stop.Fault e)) h = carry_then Logged on_log p f (running w) ∙ h
follows_carried p f w n (Err stop.Broken) h = carry_then Logged on_log p f (running w) ∙ h
follows_carried p f w n (Err stop.Memory) h = tt

-- ---- the values of new instances

blanks_are : (ts : List Denoter) → each blank_of (each shape_of ts) ≡ blanks ts
blanks_are [] = refl
blanks_are (t ∷ ts) = ap (λ vs. blank_of (shape_of t) ∷ vs) (blanks_are ts)

new_is : (s : Subject) (k : ℕ) (b : BodyAlone) (body : ModuleBody) (path : Path) (values : List Value) (part : Part) → body ≡ module_body s k b
    → part ≡ record { path = path; body = k; state = None; vars = values ++ each blank_of (each shape_of (drop (length values) body.variables)); modvars = replicate body.module_variables None; births = 0 }
    → instance_of part ≡ new_instance s k b values
new_is s k b body path values part is made =
    ap instance_of made
    ∙ ap (λ (m : ModuleBody). record { body = k; state = None; variables = values ++ each blank_of (each shape_of (drop (length values) m.variables)); module_variables = replicate m.module_variables None; births = 0 }) is
    ∙ ap (λ us. record { body = k; state = None; variables = values ++ us; module_variables = replicate (module_body s k b).module_variables None; births = 0 }) (blanks_are (drop (length values) (module_body s k b).variables))

module _ (s : Subject) where
  -- ---- the external interaction points

  module _ (p : Path) (w : Progress) where
    points_by : (rest : ℕ → Plan (Unit {0})) (o : Option Instance) (count : ℕ) → external_of s o ≡ Ok count → and_then (checked_at (or_no_module o) (running w)) (λ i. carried (rest (child_of s i.body).external)) ≡ carried (rest count) (running w)
    points_by rest None count e = absurd (cc)
    points_by rest (Some i) count e = let same : (child_of s i.body).external ≡ count = cc in ap (λ n. carried (rest n) (running w)) same

    points_then : (rest : ℕ → Plan (Unit {0})) (count : ℕ) → external_of s (map.get w.instances p) ≡ Ok count → carried (reads (instance_at p) >>= λ i. rest (child_of s i.body).external) (running w) ≡ carried (rest count) (running w)
    points_then rest count e = points_by rest (map.get w.instances p) count e

  -- ---- disconnect a child

  pub child_cut : (p : Path) (w n : Progress) (count : ℕ) → external_of s (map.get w.instances p) ≡ Ok count → carried (for_each (disconnect_if s) (each (at p) (count_from 0 count))) (running w) ≡ Ok (tt, running n) → carried (disconnect_child s p) (running w) ≡ Ok (tt, running n)
  child_cut p w n count e h = points_then p w (λ k. for_each (disconnect_if s) (each (at p) (count_from 0 k))) count e ∙ h

  -- ---- release

  module _ (p : Path) (m : ℕ) (c : Path) where
    abbrev gone : Plan (Unit {0})
    gone = makes (Remove p (last_of c)) >>= λ removed. keeps p (Hold m None)

    abbrev freeing : ℕ → Plan (Unit {0})
    freeing k = for_each (free_point s) (each (at c) (count_from 0 k)) >>= λ freed. gone

    pub released : (w n1 n2 n3 : Progress) (count : ℕ) → external_of s (map.get w.instances c) ≡ Ok count → carried (for_each (free_point s) (each (at c) (count_from 0 count))) (running w) ≡ Ok (tt, running n1)
        → n2 ≡ after (Remove p (last_of c)) n1 → n3 ≡ record n2 { instances = changed_in p (changed (Hold m None)) n2.instances } → carried (release_child s p m c) (running w) ≡ Ok (tt, running n3)
    released w n1 n2 n3 count e frees removes empties =
        points_then c w freeing count e
        ∙ carry_then Logged on_log (for_each (free_point s) (each (at c) (count_from 0 count))) (λ freed. gone) (running w)
        ∙ ap (λ o. and_then o (λ freed. carried gone)) frees
        ∙ ap (λ (x : Progress). Ok (tt, running (record x { instances = changed_in p (changed (Hold m None)) x.instances }))) (sym removes)
        ∙ ap (λ (x : Progress). Ok (tt, running x)) (sym empties)

  -- ---- the test before a child begins

  pub tests_ok : (m k : ℕ) (values : List Value) (o : Option Instance) → beginning s m k values o ≡ Ok tt → (i : Instance) × (o ≡ Some i) × ((may_hold s i.body m k && are_values_of (child_of s k).parameters values) ≡ true)
  tests_ok m k values None e = absurd (cc)
  tests_ok m k values (Some i) e = (i, refl, by (may_hold s i.body m k && are_values_of (child_of s k).parameters values) e)
    where
      by : (b : Bool) → ◌≡◌ {A = Result (Unit {0}) model.Stop} (cond b (Ok tt) (Err model.Broken)) (Ok tt) → b ≡ true
      by true e = refl
      by false e = absurd (cc)

  -- ---- the child is made

  module _ (p : Path) (m : ℕ) (i new : Instance) (w : Progress) where
    abbrev begins_by : Result (Unit {0}) model.Stop → Step Logged Path
    begins_by e = λ x. and_then (and_then (checked_at e x) (λ u. carried (makes (Create p (suc i.births) new)))) (λ u. pure (child p (suc i.births)))

    by_number : (e : Result (Unit {0}) model.Stop) (birth : ℕ) (n : Progress) → (e >>> λ ok. Ok (i.births + 1)) ≡ Ok birth → n ≡ after (Create p birth new) w → begins_by e (running w) ≡ Ok (child p birth, running n)
    by_number (Ok u) birth n e makes =
        let same : i.births + 1 ≡ birth = cc in
        let next : suc i.births ≡ birth = omega (arith, same) in
        ap (λ k. Ok (child p k, running (after (Create p k new) w))) next ∙ ap (λ (x : Progress). Ok (child p birth, running x)) (sym makes)
    by_number (Err f) birth n e makes = absurd (cc)

    child_begins : (birth : ℕ) (n : Progress) → (empty_in (slice_get i.module_variables m) >>> λ ok. Ok (i.births + 1)) ≡ Ok birth → n ≡ after (Create p birth new) w → begins_child s p m i new (running w) ≡ Ok (child p birth, running n)
    child_begins birth n e makes = by_number (empty_in (slice_get i.module_variables m)) birth n e makes

  -- a child is made for an instance that is there
  pub child_begun : (p copy path q : Path) (m k birth : ℕ) (b : BodyAlone) (body : ModuleBody) (values : List Value) (w n : Progress) (i : Instance) (held part : Part)
      → body ≡ module_body s k b → map.get w.instances p ≡ Some i → Some (instance_of held) ≡ map.get w.instances p
      → (empty_in (slice_get held.modvars m) >>> λ ok. Ok (held.births + 1)) ≡ Ok birth
      → part ≡ record { path = q; body = k; state = None; vars = values ++ each blank_of (each shape_of (drop (length values) body.variables)); modvars = replicate body.module_variables None; births = 0 }
      → copy ≡ p → path ≡ child p birth → n ≡ after (Create copy birth (instance_of part)) w
      → begins_child s p m i (new_instance s k b values) (running w) ≡ Ok (path, running n)
  child_begun p copy path q m k birth b body values w n i held part is there shows next new copied below makes =
      let same : instance_of held ≡ i = same_some (instance_of held) i (shows ∙ there) in
      child_begins p m i (new_instance s k b values) w birth n
      (ap (λ (x : Instance). empty_in (slice_get x.module_variables m) >>> λ ok. Ok (x.births + 1)) (sym same) ∙ next)
      (makes ∙ (λ j. after (Create (copied j) birth (new_is s k b body q values part is new j)) w))
      ∙ ap (λ (c : Path). Ok (c, running n)) (sym below)

  -- ---- the child is held

  pub child_held : (p : Path) (m : ℕ) (to at_end : Option ℕ) (c : Path) (w n1 n2 : Progress) → at_end ≡ to → carried (enters_state s c at_end) (running w) ≡ Ok (tt, running n1)
      → n2 ≡ record n1 { instances = changed_in p (changed (Hold m (Some c))) n1.instances } → carried (holds_child s p m to c) (running w) ≡ Ok (tt, running n2)
  child_held p m to at_end c w n1 n2 same enters holds =
      carry_then Logged on_log (enters_state s c to) (λ u. keeps p (Hold m (Some c))) (running w)
      ∙ ap (λ (o : StepResult Logged (Unit {0})). and_then o (λ u. carried (keeps p (Hold m (Some c))))) (ap (λ (t : Option ℕ). carried (enters_state s c t) (running w)) (sym same) ∙ enters)
      ∙ ap (λ (x : Progress). Ok (tt, running x)) (sym holds)

  pub child_not_held : (p : Path) (m : ℕ) (to at_end : Option ℕ) (c : Path) (w n : Progress) (e : Stop) → at_end ≡ to → Follows (carried (enters_state s c at_end)) w (Err e) n → Follows (carried (holds_child s p m to c)) w (Err e) n
  child_not_held p m to at_end c w n e same stops =
      follows_carried (enters_state s c to) (λ u. keeps p (Hold m (Some c))) w n (Err e)
      (follows_stops_next (carried (enters_state s c to)) (carried (keeps p (Hold m (Some c)))) (running w) (running n) e
      (subst (λ (t : Option ℕ). Follows (carried (enters_state s c t)) w (Err e) n) same stops))
