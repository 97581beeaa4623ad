-- A child is made.
use Rattle.std.proofs.Common.{◌≡◌, refl, sym, ap, cond, ◌∙◌, ℕ, ◌-◌, Bool, true, false, List, Option, Some, None, Result, Ok, Err}
use Rattle.std.specs.Prelude.{◌&&◌, nat_lt, slice_get, unwrap_or, option_map, is_some}
use Rattle.std.specs.FinMap as map
use Rattle.pascal_values.specs.declared.fault.Fault.TheVariants.{NoModule, StepLimit, CallDepth}
use Rattle.pascal_values.specs.declared.value.Value.{Value}
use Rattle.estelle_tree.specs.Paths.{Path}
use Rattle.estelle_model.specs.Attributes.{attribute, allows, may_have_transitions}
use Rattle.estelle_model.specs.Bodies.{BodyAlone}
use Rattle.estelle_model.specs.Belonging.{are_values_of}
use Rattle.estelle_model.specs.Core.{Instance, Instances}
use Rattle.estelle_model.specs.States.{Logged}
use Rattle.estelle_model.specs.Stops as model
use Rattle.estelle_model.specs.Steps.{StepResult, Step, and_then, ◌>>◌, checked_at, pure, spend}
use Rattle.estelle_model.specs.Plans.{stops_unless}
use Rattle.estelle_model.specs.Calls.{max_depth}
use Rattle.estelle_model.specs.Actions.{may_hold, or_no_module, has_header}
use Rattle.estelle_model.specs.Subject.{Subject, body, no_body, child_of, headers_of, new_instance}
use Rattle.body_values.specs.declared.stop.Stop.{Stop}
use Rattle.body_values.specs.declared.stop.Stop.TheVariants as stop
use Rattle.body_values.specs.Gives.{Gives}
use Rattle.body_state.specs.Bodies.{module_body}
use Rattle.body_state.specs.Progress.{Progress, running}
use Rattle.body_state.specs.Follows.{Leads, Follows}
use Rattle.body_state.proofs.FollowLemmas.{follows_as}
use Rattle.body_actions.specs.Children.{beginning, begins_child}
use Rattle.body_actions.proofs.ChildLemmas.{tests_ok}
use Rattle.body_machine.specs.Frames.{deeper_than}
use Rattle.body_machine.specs.Ends.{makes_child}

none_there : (s : Subject) (k : ℕ) (o : Option BodyAlone) → None ≡ option_map (module_body s k) o → is_some o ≡ false
none_there s k None e = refl
none_there s k (Some b) e = absurd (cc)

-- a unit and the depth change no instance
pub deepen_keeps : (frame : ℕ) (w u : Progress) → deeper_than frame (running w) ≡ Ok (tt, running u) → u.instances ≡ w.instances
unfolding spend
deepen_keeps frame w u e = sym (ap instances_in e) ∙ by (nat_lt 0 w.left) (nat_lt frame max_depth)
  where
    instances_in : StepResult Logged (Unit {0}) → Instances
    instances_in (Ok r) = r.1.state.image.instances
    instances_in (Err f) = w.instances

    spent : Bool → StepResult Logged (Unit {0})
    spent b = cond b (Ok (tt, record (running w) { left = w.left - 1 })) (Err (model.Faults StepLimit, w.left))

    deep : Bool → Step Logged (Unit {0})
    deep c = λ x. cond c (Ok (tt, x)) (Err (model.Faults CallDepth, x.left))

    by : (b c : Bool) → instances_in (and_then (spent b) (λ u. deep c)) ≡ w.instances
    by true true = refl
    by true false = refl
    by false c = refl

module _ (s : Subject) (p : Path) (frame m k : ℕ) (vs : List Value) where
  abbrev tests : Instance → Bool
  tests i = may_hold s i.body m k && are_values_of (child_of s k).parameters vs

  abbrev passed : Bool → Instance → Step Logged Instance
  passed b i = λ x. and_then (checked_at (stops_unless b model.Broken) x) (λ u. pure i)

  -- behind the tests
  abbrev rest : Instance → Step Logged Path
  rest i = deeper_than frame >> begins_child s p m i ((child_of s k).with_parameters vs)

  abbrev made_by : Option Instance → Step Logged Path
  made_by o = λ x. and_then (and_then (checked_at (or_no_module o) x) (λ i. passed (tests i) i)) rest

  made_tested : (w : Progress) (i : Instance) → map.get w.instances p ≡ Some i → tests i ≡ true → makes_child s p frame m k vs (running w) ≡ rest i (running w)
  made_tested w i there may = ap (λ o. made_by o (running w)) there ∙ ap (λ b. and_then (passed b i (running w)) rest) may

  made_fails : (w : Progress) (o : Option Instance) (f : model.Stop) → beginning s m k vs o ≡ Err f → made_by o (running w) ≡ Err (f, w.left)
  made_fails w None f e = let same : model.Faults NoModule ≡ f = cc in ap (λ g. Err (g, w.left)) same
  made_fails w (Some i) f e = by (tests i) e
    where
      by : (b : Bool) → ◌≡◌ {A = Result (Unit {0}) model.Stop} (cond b (Ok tt) (Err model.Broken)) (Err f) → and_then (passed b i (running w)) rest ≡ Err (f, w.left)
      by true e = absurd (cc)
      by false e = let same : model.Broken ≡ f = cc in ap (λ g. Err (g, w.left)) same

  -- a test fails
  pub child_refused : (w : Progress) (e : Stop) → Gives (beginning s m k vs (map.get w.instances p)) (Err e) → Follows (makes_child s p frame m k vs) w (Err e) w
  child_refused w (stop.Fault f) g = made_fails w (map.get w.instances p) (model.Faults f) g
  child_refused w stop.Broken g = made_fails w (map.get w.instances p) model.Broken g
  child_refused w stop.Memory g = tt

  -- what may be made is of a body that is there
  pub body_is_there : (o : Option Instance) → beginning s m k vs o ≡ Ok tt → None ≡ option_map (module_body s k) (body s k) → ⊥
  body_is_there o may none =
      let found_one = tests_ok s m k vs o may in
      let no : tests found_one.0 ≡ false = ap (λ b. (b && (has_header (slice_get (headers_of s found_one.0.body) m) (child_of s k).header && (allows (attribute s found_one.0.body) (attribute s k) && may_have_transitions s k))) && are_values_of (child_of s k).parameters vs) (none_there s k (body s k) none) in
      let yes_ : tests found_one.0 ≡ true = found_one.2 in
      absurd (cc)

  -- the tests hold
  pub child_goes : (w n : Progress) (r : Result Path Stop) → beginning s m k vs (map.get w.instances p) ≡ Ok tt → ((i : Instance) → map.get w.instances p ≡ Some i → Leads (rest i) (running w) r (running n)) → Follows (makes_child s p frame m k vs) w r n
  child_goes w n r ok goes =
      let x = tests_ok s m k vs (map.get w.instances p) ok in
      follows_as (makes_child s p frame m k vs) (λ y. rest x.0 (running w)) (running w) (running n) r (made_tested w x.0 x.1 x.2) (led (rest x.0) r (goes x.0 x.1))
    where
      led : (f : Step Logged Path) (r : Result Path Stop) → Leads f (running w) r (running n) → Leads (λ y. f (running w)) (running w) r (running n)
      led f (Ok a) h = h
      led f (Err (stop.Fault e)) h = h
      led f (Err stop.Broken) h = h
      led f (Err stop.Memory) h = tt

-- an instance of a body that is there
pub child_of_body : (s : Subject) (k : ℕ) (b : BodyAlone) (vs : List Value) → body s k ≡ Some b → (child_of s k).with_parameters vs ≡ new_instance s k b vs
child_of_body s k b vs there = ap (λ (o : Option BodyAlone). new_instance s k (unwrap_or o no_body) vs) there
