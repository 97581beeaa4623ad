-- New children step by step.
use Rattle.std.proofs.Common.{◌≡◌, ◌∙◌, ℕ, zero, suc, ◌+◌, ◌-◌, ◌<◌, ◌≤◌, Bool, true, false, List, [], ◌∷◌, ◌++◌, length, take, map, refl, sym, ap, cond, Option, Some, None, Result, Ok, Err, arith, length-append}
use Rattle.std.proofs.Math.Seq.{take-append_seam}
use Rattle.std.specs.Prelude.{◌&&◌, nat_lt, slice_get, is_some, option_map, option_and_then, unwrap_or}
use Rattle.std.specs.FinMap as maps
use Rattle.pascal_values.specs.declared.fault.Fault.TheVariants.{NoModule, CallDepth, StepLimit}
use Rattle.pascal_values.specs.declared.value.Value.{Value}
use Rattle.pascal_values.specs.declared.value.Value.TheVariants as value
use Rattle.estelle_tree.specs.declared.tree.statement.Stmts.{out-roll-Stmts}
use Rattle.estelle_tree.specs.Paths.{Path, child}
use Rattle.estelle_model.specs.declared.meaning.Routine.{Routine}
use Rattle.estelle_model.specs.declared.place.Environment.{Environment}
use Rattle.estelle_model.specs.Belonging.{are_values_of}
use Rattle.estelle_model.specs.Core.{Instance, Instances}
use Rattle.estelle_model.specs.States.{Logged, on_log}
use Rattle.estelle_model.specs.Stops as stops
use Rattle.estelle_model.specs.Steps.{Running, StepResult, Step, Do, and_then, ◌>>=◌, ◌>>◌, pure, fail, checked, checked_at, all, spend}
use Rattle.estelle_model.specs.Expressions.{no_arguments}
use Rattle.estelle_model.specs.Calls as calls
use Rattle.estelle_model.specs.Calls.{nested, max_depth, leave}
use Rattle.estelle_model.specs.Bodies.{BodyAlone}
use Rattle.estelle_model.specs.Statements as statements
use Rattle.estelle_model.specs.Subject as model
use Rattle.estelle_model.specs.Subject.{Subject, body, begins, nothing_to_do, meant, of_init, no_body, new_instance, child_of, headers_of, no_statements}
use Rattle.estelle_model.specs.Attributes.{allows, attribute, may_have_transitions}
use Rattle.estelle_model.specs.Plans.{stops_unless}
use Rattle.estelle_model.specs.Actions as estelle
use Rattle.estelle_model.specs.Acts as acts
use Rattle.estelle_model.specs.Actions.{empty_in, has_header, may_hold, or_no_module}
use Rattle.estelle_model.proofs.StatementEquations.{stmts_opened}
use Rattle.body_state.specs.declared.bodies.ModuleBody.{ModuleBody}
use Rattle.body_state.specs.declared.bodies.Initialization.{Initialization}
use Rattle.body_values.specs.declared.stop.Stop.{Stop}
use Rattle.body_values.specs.declared.stop.Stop.TheVariants as stop
use Rattle.body_values.specs.Gives.{Gives}
use Rattle.body_state.specs.Bodies.{module_body, initialization_of, block_by, block_of, state_of, state_after}
use Rattle.body_state.specs.Progress.{Progress, running}
use Rattle.body_state.specs.Follows.{Follows, Leads, carried}
use Rattle.body_actions.specs.Children.{beginning, begins_child}
use Rattle.body_actions.proofs.ChildLemmas.{tests_ok}
use Rattle.body_walker_blocks.specs.Scopes.{Scoped, meanings}
use Rattle.body_walker_blocks.specs.Walked.{actions, acting, entering, calling, stmts, within, create, initialize}
use Rattle.body_walker_blocks.proofs.Plans.{Plan, First, Last, Finish, Refuse, run, Is, Runs}
use Rattle.body_walker_blocks.proofs.Followed.{then_then, follows_as, follows_outcome, follows_stops}
use Rattle.body_walker_blocks.proofs.CallSteps.{spend_first}

-- ---- what is known of a body

begun : (s : Subject) (k : ℕ) (b : BodyAlone) → body s k ≡ Some b → begins s k ≡ unwrap_or (option_map (of_init (meant s)) b.init) nothing_to_do
begun s k b is = ap (λ (o : Option BodyAlone). unwrap_or (option_and_then (λ (c : BodyAlone). option_map (of_init (meant s)) c.init) o) nothing_to_do) is

same_block : (o : Option model.Initialization) → (unwrap_or o nothing_to_do).block ≡ block_by (option_map initialization_of o)
same_block None = refl
same_block (Some i) = refl

same_state : (o : Option model.Initialization) → (unwrap_or o nothing_to_do).to ≡ state_of (option_map initialization_of o)
same_state None = refl
same_state (Some i) = refl

module _ (s : Subject) (k : ℕ) (b : BodyAlone) (m : ModuleBody) (there : body s k ≡ Some b) (is : m ≡ module_body s k b) where
  pub child_block : (child_of s k).block ≡ block_of m
  child_block = ap (λ (i : model.Initialization). i.block) (begun s k b there) ∙ same_block (option_map (of_init (meant s)) b.init) ∙ ap (λ (x : ModuleBody). block_of x) (sym is)

  pub child_state : (child_of s k).to ≡ state_after m
  child_state = ap (λ (i : model.Initialization). i.to) (begun s k b there) ∙ same_state (option_map (of_init (meant s)) b.init) ∙ ap (λ (x : ModuleBody). state_after x) (sym is)

  pub child_made : (vs : List Value) → (child_of s k).with_parameters vs ≡ new_instance s k b vs
  child_made vs = ap (λ (o : Option BodyAlone). new_instance s k (unwrap_or o no_body) vs) there

none_there : (s : Subject) (k : ℕ) (o : Option BodyAlone) → None ≡ option_map (module_body s k) o → is_some o ≡ false
none_there s k None e = refl
none_there s k (Some b) e = absurd (cc)

-- ---- a child is made

module _ (t : Scoped) (h : Environment) (m k : ℕ) (vs : List Value) where
  abbrev pub creating : Instance → Do Logged
  creating i = acts.create Logged on_log t.subject (meanings t) (entering t h) h.path m (child_of t.subject k) vs i

  abbrev tests : Instance → Bool
  tests i = may_hold t.subject i.body m k && are_values_of (child_of t.subject k).parameters vs

  -- the instance, where the tests hold
  abbrev passed : Bool → Instance → Step Logged Instance
  passed b i = λ s. and_then (checked_at (stops_unless b stops.Broken) s) (λ u. pure i)

  abbrev create_by : Option Instance → Do Logged
  create_by o = λ s. and_then (and_then (checked_at (or_no_module o) s) (λ i. passed (tests i) i)) creating

  pub create_tested : (w : Progress) (i : Instance) → maps.get w.instances h.path ≡ Some i → tests i ≡ true → create t h m k vs (running w) ≡ creating i (running w)
  unfolding create
  create_tested w i there may = ap (λ o. create_by o (running w)) there ∙ ap (λ b. and_then (passed b i (running w)) creating) may

  create_fails : (w : Progress) (o : Option Instance) (f : stops.Stop) → beginning t.subject m k vs o ≡ Err f → create_by o (running w) ≡ Err (f, w.left)
  create_fails w None f e = let same : stops.Faults NoModule ≡ f = cc in ap (λ g. Err (g, w.left)) same
  create_fails w (Some i) f e = by (tests i) e
    where
      by : (b : Bool) → ◌≡◌ {A = Result (Unit {0}) stops.Stop} (cond b (Ok tt) (Err stops.Broken)) (Err f) → and_then (passed b i (running w)) creating ≡ Err (f, w.left)
      by true e = absurd (cc)
      by false e = let same : stops.Broken ≡ f = cc in ap (λ g. Err (g, w.left)) same

  pub create_refused : (w : Progress) (e : Stop) → Gives (beginning t.subject m k vs (maps.get w.instances h.path)) (Err e) → Follows (create t h m k vs) w (Err e) w
  unfolding create
  create_refused w (stop.Fault f) g = create_fails w (maps.get w.instances h.path) (stops.Faults f) g
  create_refused w stop.Broken g = create_fails w (maps.get w.instances h.path) stops.Broken g
  create_refused w stop.Memory g = tt

  -- what may be made is of a body that is there
  pub body_is_there : (o : Option Instance) → beginning t.subject m k vs o ≡ Ok tt → None ≡ option_map (module_body t.subject k) (body t.subject k) → ⊥
  body_is_there o may none =
      let found_one = tests_ok t.subject m k vs o may in
      let no : tests found_one.0 ≡ false = ap (λ b. (b && (has_header (slice_get (headers_of t.subject found_one.0.body) m) (child_of t.subject k).header && (allows (attribute t.subject found_one.0.body) (attribute t.subject k) && may_have_transitions t.subject k))) && are_values_of (child_of t.subject k).parameters vs) (none_there t.subject k (body t.subject k) none) in
      let yes_ : tests found_one.0 ≡ true = found_one.2 in
      absurd (cc)

  -- ---- the unit and the depth

  abbrev child_path : Instance → Path
  child_path i = child h.path (suc i.births)

  abbrev begins_with : Instance → Instance → Do Logged
  begins_with i new = carried (estelle.begins_child t.subject h.path m i new)

  abbrev holding : Option ℕ → Path → Do Logged
  holding to c = carried (estelle.holds_child t.subject h.path m to c)

  abbrev in_depth : ℕ → Instance → Instance → Routine → Option ℕ → Do Logged
  in_depth n i new r to = nested Logged on_log (meanings t) (actions t) n (begins_with i new) (child_path i) r no_arguments >>= λ ran. holding to (child_path i)

  created : (i : Instance) → creating i ≡ in_depth (max_depth - h.frame) i ((child_of t.subject k).with_parameters vs) (child_of t.subject k).block (child_of t.subject k).to
  unfolding entering
  created i = refl

  pub deep_create : (i : Instance) → max_depth ≤ h.frame → Is (creating i) (First spend (λ u. Refuse (stops.Faults CallDepth)))
  deep_create i deep =
      let none : max_depth - h.frame ≡ zero = omega (arith, deep) in
      let new : Instance = (child_of t.subject k).with_parameters vs in
      record {
        is = created i ∙ ap (λ n. in_depth n i new (child_of t.subject k).block (child_of t.subject k).to) none
            ∙ then_then (λ u. fail CallDepth) (λ (ran : Value). holding (child_of t.subject k).to (child_path i)) spend;
      }

  abbrev pub inner : Path → Environment
  inner c = record { path = c; frame = h.frame + 1; references = [] }

  abbrev pub creation_plan : Instance → Instance → ModuleBody → Plan (Unit {0})
  creation_plan i new b = First spend (λ u. First (begins_child t.subject h.path m i new) (λ c. First (initialize t (inner c) b) (λ v. Last (holding (state_after b) c))))

  -- the initialization within its frame
  framed : (i : Instance) (r : Routine) → h.frame < max_depth → calls.within Logged on_log (meanings t) (actions t) (nested Logged on_log (meanings t) (actions t) (max_depth - (h.frame + 1))) (max_depth - (max_depth - (h.frame + 1))) (child_path i) r no_arguments ≡ within t (inner (child_path i)) r []
  unfolding within entering
  framed i r below =
      let depth : max_depth - (max_depth - (h.frame + 1)) ≡ h.frame + 1 = omega (arith, below) in
      ap (λ d. calls.within Logged on_log (meanings t) (actions t) (nested Logged on_log (meanings t) (actions t) (max_depth - (h.frame + 1))) d (child_path i) r no_arguments) depth

  -- one after another, from the left
  nested_left : (x : Do Logged) (w : Step Logged Value) (f : Do Logged) → (spend >> x >> w >>= λ ran. f) ≡ (spend >>= λ u. x >>= λ v. w >>= λ ran. f)
  nested_left x w f =
      then_then (λ (v : Unit {0}). w) (λ ran. f) (spend >> x)
      ∙ then_then (λ (u : Unit {0}). x) (λ v. w >>= λ ran. f) spend

  unfolded : (i new : Instance) (b : ModuleBody) → run (creation_plan i new b) ≡ (spend >>= λ u. begins_with i new >>= λ v. within t (inner (child_path i)) (block_of b) [] >>= λ ran. holding (state_after b) (child_path i))
  unfolding initialize
  unfolded i new b =
      let c : Path = child_path i in
      let rest : Path → Do Logged = λ p. initialize t (inner p) b >>= λ v. holding (state_after b) p in
      λ j. spend >>= λ u. (
      then_then (λ (v : Unit {0}). pure c) rest (begins_with i new)
      ∙ (λ n. begins_with i new >>= λ v. then_then (λ (ran : Value). pure tt) (λ w. holding (state_after b) c) (within t (inner c) (block_of b) []) n)
      ) j

  pub next_create : (i : Instance) (b : BodyAlone) (mb : ModuleBody) → body t.subject k ≡ Some b → mb ≡ module_body t.subject k b → h.frame < max_depth → Is (creating i) (creation_plan i (new_instance t.subject k b vs) mb)
  next_create i b mb there is below =
      let left : max_depth - h.frame ≡ suc (max_depth - (h.frame + 1)) = omega (arith, below) in
      let new : Instance = new_instance t.subject k b vs in
      record {
        is = created i
            ∙ (λ j. in_depth (left j) i (child_made t.subject k b mb there is vs j) (child_block t.subject k b mb there is j) (child_state t.subject k b mb there is j))
            ∙ nested_left (begins_with i new) (calls.within Logged on_log (meanings t) (actions t) (nested Logged on_log (meanings t) (actions t) (max_depth - (h.frame + 1))) (max_depth - (max_depth - (h.frame + 1))) (child_path i) (block_of mb) no_arguments) (holding (state_after mb) (child_path i))
            ∙ (λ j. spend >>= λ u. begins_with i new >>= λ v. framed i (block_of mb) below j >>= λ ran. holding (state_after mb) (child_path i))
            ∙ sym (unfolded i new mb);
      }

  -- ---- how it leaves

  -- what the tests found
  pub record Tested (w : Progress) : Type 0 where
    pub parent : Instance
    pub there : maps.get w.instances h.path ≡ Some parent
    pub may : tests parent ≡ true

  pub tested : (w : Progress) → beginning t.subject m k vs (maps.get w.instances h.path) ≡ Ok tt → Tested w
  tested w ok =
      let x = tests_ok t.subject m k vs (maps.get w.instances h.path) ok in
      record { parent = x.0; there = x.1; may = x.2 }

  pub create_goes : (w n : Progress) (x : Tested w) (r : Result (Unit {0}) Stop) → Leads (creating x.parent) (running w) r (running n) → Follows (create t h m k vs) w r n
  create_goes w n x r runs = follows_outcome (create t h m k vs) (running w) r (running n) (creating x.parent) (running w) (create_tested w x.parent x.there x.may) runs

  pub create_stops : (w n : Progress) (e : Stop) → Follows (create t h m k vs) w (Err e) n → Runs (Last (create t h m k vs)) (running w) (Err e) (running n)
  create_stops w n e h = record { follows = h }

  -- no unit is left
  pub create_unspent : (w n : Progress) (x : Tested w) (e : Stop) → Follows spend w (Err e) n → Follows (create t h m k vs) w (Err e) n
  create_unspent w n x e stops =
      let i : Instance = x.parent in
      let new : Instance = (child_of t.subject k).with_parameters vs in
      let enters : Step Logged Value = nested Logged on_log (meanings t) (actions t) (max_depth - h.frame) (begins_with i new) (child_path i) (child_of t.subject k).block no_arguments in
      create_goes w n x (Err e) (follows_as (creating i) (in_depth (max_depth - h.frame) i new (child_of t.subject k).block (child_of t.subject k).to) (running w) (Err e) (running n) (created i)
      (follows_stops enters (λ ran. holding (child_of t.subject k).to (child_path i)) (running w) (running n) e
      (spend_first t (max_depth - h.frame) (begins_with i new) (child_path i) (child_of t.subject k).block no_arguments (running w) (running n) e stops)))

-- a unit is taken of nothing else
pub spend_keeps : (w n : Progress) → spend (running w) ≡ Ok (tt, running n) → n.instances ≡ w.instances
unfolding spend
spend_keeps w n e = by (nat_lt 0 w.left) e
  where
    instances_in : StepResult Logged (Unit {0}) → Instances
    instances_in (Ok r) = r.1.state.image.instances
    instances_in (Err f) = w.instances

    by : (b : Bool) → cond {A = StepResult Logged (Unit {0})} b (Ok (tt, record (running w) { left = w.left - 1 })) (Err (stops.Faults StepLimit, w.left)) ≡ Ok (tt, running n) → n.instances ≡ w.instances
    by true e = sym (ap instances_in e)
    by false e = sym (ap instances_in e)

-- ---- the initialization

module _ (t : Scoped) (h : Environment) (b : ModuleBody) where
  pub initialize_some : (i : Initialization) → b.initialization ≡ Some i → Is (initialize t h b) (First (within t h i.block []) (λ v. Finish tt))
  unfolding initialize
  initialize_some i is = record { is = ap (λ (o : Option Initialization). within t h (block_by o) [] >> pure tt) is }

  taken_back : (fs : List Value) (x : Value) → take (length (fs ++ x ∷ []) - 1) (fs ++ x ∷ []) ≡ fs
  taken_back fs x =
      let n : length (fs ++ x ∷ []) - 1 ≡ length fs = omega (arith, length-append fs (x ∷ [])) in
      ap (λ j. take j (fs ++ x ∷ [])) n ∙ take-append_seam fs (x ∷ [])

  no_statement : stmts t h no_statements ≡ pure tt
  unfolding stmts
  no_statement = stmts_opened Logged on_log (meanings t) (acting t h) (calling t h) h no_statements ∙ ap (λ l. all (map (statements.stmt Logged on_log (meanings t) (acting t h) (calling t h) h) l.stmts)) (out-roll-Stmts (record { stmts = []; span = record { start = 0; end = 0 } }))

  -- none is written
  pub initialize_none : b.initialization ≡ None → (s : Running Logged) → initialize t h b s ≡ Ok (tt, s)
  unfolding initialize within stmts calling leave
  initialize_none is s =
      ap (λ (o : Option Initialization). (within t h (block_by o) [] >> pure tt) s) is
      ∙ ap (λ (p : Do Logged). and_then (and_then (p (record s { frames = s.frames ++ value.Fields [] ∷ [] })) (λ u. leave nothing_to_do.block)) (λ v. pure tt)) no_statement
      ∙ ap (λ (fs : List Value). Ok (tt, record s { frames = fs })) (taken_back s.frames (value.Fields []))
