-- Every block keeps what holds within a firing.
use Rattle.std.proofs.Common.{◌≡◌, ℕ, zero, suc, ◌-◌, Bool, true, false, ◌&&◌, List, ◌∷◌, ◌++◌, length, drop, map, replicate, Ok, Err, Option, Some, None, cond, refl, sym, ap, subst, ◌∙◌, inl, inr, append_assoc}
use Rattle.std.specs.Prelude.{IsTrue, nat_lt, slice_get, is_some, Contains}
use Rattle.std.specs.Option.{unwrap_or}
use Rattle.std.specs.FinMap as fin
use Rattle.pascal_values.specs.declared.fault.Fault.TheVariants as fault
use Rattle.pascal_values.specs.declared.value.Value.{Value}
use Rattle.estelle_tree.specs.declared.tree.name.Name.{Name}
use Rattle.estelle_tree.specs.Paths.{Path, child, is_inside}
use Rattle.estelle_model.specs.Core.{Instance}
use Rattle.estelle_model.specs.Effects as effect
use Rattle.estelle_model.specs.Bodies.{BodyAlone, heading, variables_in, variable_types, states_in, module_variables_in}
use Rattle.estelle_model.specs.declared.denoter.Denoter.{Denoter}
use Rattle.estelle_model.specs.Denoted.{section_types}
use Rattle.estelle_model.specs.Stops.{Faults}
use Rattle.estelle_model.specs.Steps.{Running, StepResult, Step, Do, and_then, ◌>>=◌, pure, fail, checked_at, spend}
use Rattle.estelle_model.specs.declared.meaning.Passing.TheVariants.{ByValue}
use Rattle.estelle_model.specs.declared.meaning.Routine.{Routine}
use Rattle.estelle_model.specs.declared.meaning.Meaning.{Meaning}
use Rattle.estelle_model.specs.declared.meaning.Meaning.TheVariants.{Module, Body}
use Rattle.estelle_model.specs.Meant.{Meanings}
use Rattle.estelle_model.specs.declared.place.Environment.{Environment}
use Rattle.estelle_model.specs.declared.place.ActualParameters.{ActualParameters}
use Rattle.estelle_model.specs.Expressions.{Operand, give_all, no_arguments}
use Rattle.estelle_model.specs.Statements.{Statement, Init, Release}
use Rattle.estelle_model.specs.Calls.{Enters, call_by, within, nested, max_depth}
use Rattle.estelle_model.specs.Blocks.{given_values, from_block, block_step}
use Rattle.estelle_model.specs.Transitions.{Choice}
use Rattle.estelle_model.specs.Subject.{Subject, body, no_body, begins, blanks, child_of, headers_of, new_instance, meant_with}
use Rattle.estelle_model.specs.Subject as subject
use Rattle.estelle_model.specs.Attributes.{attribute, allows, may_have_transitions}
use Rattle.estelle_model.specs.Belonging.{are_values_of}
use Rattle.estelle_model.specs.Situation.{Situation, Acting, on_situation, situation_after, situation_kept}
use Rattle.estelle_model.specs.Plans.{makes, carry}
use Rattle.estelle_model.specs.Actions.{has_header, may_hold, empty_in, may_begin, begins_child, holds_child, plan_of}
use Rattle.estelle_model.specs.Acts.{create, init, init_of, act}
use Rattle.estelle_model_legality.specs.Instances.{IsStateOf, LeadsToStates}
use Rattle.estelle_model.proofs.Units.{Each}
use Rattle.estelle_model.proofs.Kept.{Has, OperandKept, CallKept, then_kept, give_all_kept}
use Rattle.estelle_model.proofs.KeptStatements.{ActKept}
use Rattle.estelle_model.proofs.ActsKept.{begun_keeps, acts_by}
use Rattle.estelle_model.proofs.BlocksKept.{within_kept}
use Rattle.estelle_model_legality.proofs.Lists.{and_both, same_number, in_cases, in_head, not_true}
use Rattle.estelle_model_legality.proofs.Ways.{inside_itself, inside_child, not_below_itself}
use Rattle.estelle_model_legality.proofs.Belonging.{values_new}
use Rattle.estelle_model_legality.proofs.Standing.{stands_of, none_holds_new}
use Rattle.estelle_model_legality.proofs.Within.{Within, Outside, Comes, Keeps, outline, mark, outside_then, outside_parent, mapped_there}
use Rattle.estelle_model_legality.proofs.Acts.{closed, planned_keeps}
use Rattle.estelle_model_legality.proofs.Making.{entered, IsEntered, is_entered, good_held, IsCreated, is_created}
use Rattle.estelle_model_legality.proofs.Nested.{release_keeps}

-- ---- what is made of a body

pub none_held : (n m : ℕ) (c : Path) → slice_get {X = Option Path} (replicate n None) m ≡ Some (Some c) → ⊥
none_held zero m c h = absurd (cc)
none_held (suc n) zero c h = absurd (cc)
none_held (suc n) (suc m) c h = none_held n m c h

pub none_length : (n : ℕ) (o : Option Path) → length (replicate n o) ≡ n
none_length zero o = refl
none_length (suc n) o = ap (λ (k : ℕ). suc k) (none_length n o)

some_body : (o : Option BodyAlone) (d : BodyAlone) → is_some o ≡ true → o ≡ Some (unwrap_or o d)
some_body None d h = absurd (cc)
some_body (Some b) d h = refl

header_is : (o : Option ℕ) (h : ℕ) → has_header o h ≡ true → o ≡ Some h
header_is None h e = absurd (cc)
header_is (Some k) h e = ap (λ (x : ℕ). Some x) (same_number k h e)

module _ (s : Subject) (leads : LeadsToStates s) where
  -- what is done before a block begins
  abbrev pub Began : List Path → (Situation → Type 0) → StepResult Acting (Unit {0}) → Type 0
  Began making P (Ok r) = Within s making r.1.state.situation × P r.1.state.situation
  Began making P (Err e) = Unit {0}

  -- what the block then comes to
  abbrev pub Ended : List Path → Path → (Situation → Type 0) → StepResult Acting Value → Type 0
  Ended making c P (Ok r) = (h : Situation) × P h × Within s making r.1.state.situation × Outside c h r.1.state.situation
  Ended making c P (Err e) = Unit {0}

  abbrev pub AllAbove : List Path → Path → Type 0
  AllAbove making q = (p : Path) → Contains making p → is_inside p q ≡ true

  abbrev pub EntersKeeps : Enters Acting → Type 1
  EntersKeeps enters = (making : List Path) (c : Path) → AllAbove making c → (before : Do Acting) (P : Situation → Type 0) (r : Routine) (g : ActualParameters) (t : Running Acting)
      → ((u : Running Acting) → u.state ≡ t.state → Began making P (before u)) → Ended making c P (enters before c r g t)

  module _ (meant : Meanings) (by : (x : Name) → (chosen : List Choice) × (meant x ≡ meant_with s chosen x)) (enters : Enters Acting) (into : EntersKeeps enters) (making : List Path) (here : Environment) (all_above : AllAbove making here.path) where
    -- ---- init

    module _ (m k : ℕ) (values : List Value) (i : Instance) (t : Running Acting) (w : Within s making t.state.situation) (there : fin.get t.state.situation.core.instances here.path ≡ Some i)
        (may : may_hold s i.body m k ≡ true) (fit : are_values_of (child_of s k).parameters values ≡ true) where
      b : BodyAlone
      b = unwrap_or (body s k) no_body

      n : Instance
      n = (child_of s k).with_parameters values

      c : Path
      c = child here.path (suc i.births)

      tests : (is_some (body s k) ≡ true) × ((has_header (slice_get (headers_of s i.body) m) (child_of s k).header && (allows (attribute s i.body) (attribute s k) && may_have_transitions s k)) ≡ true)
      tests = and_both (is_some (body s k)) (has_header (slice_get (headers_of s i.body) m) (child_of s k).header && (allows (attribute s i.body) (attribute s k) && may_have_transitions s k)) may

      header : (has_header (slice_get (headers_of s i.body) m) (child_of s k).header ≡ true) × ((allows (attribute s i.body) (attribute s k) && may_have_transitions s k) ≡ true)
      header = and_both (has_header (slice_get (headers_of s i.body) m) (child_of s k).header) (allows (attribute s i.body) (attribute s k) && may_have_transitions s k) tests.1

      rest : (allows (attribute s i.body) (attribute s k) ≡ true) × (may_have_transitions s k ≡ true)
      rest = and_both (allows (attribute s i.body) (attribute s k)) (may_have_transitions s k) header.1

      is_body : body s k ≡ Some (unwrap_or (body s k) no_body)
      is_body = some_body (body s k) no_body tests.0

      -- the child is made where the variable is empty
      abbrev Made : Situation → Type 0
      Made h = (slice_get i.module_variables m ≡ Some None) × (fin.get h.core.instances here.path ≡ Some (effect.born i)) × (fin.get h.core.instances (child here.path (suc i.births)) ≡ Some ((child_of s k).with_parameters values)) × Outside here.path t.state.situation h

      begins_well : IsTrue (are_values_of (variable_types (subject.meant s) (unwrap_or (body s k) no_body)) ((child_of s k).with_parameters values).variables)
      begins_well = subst (λ (ts : List Denoter). IsTrue (are_values_of ts (values ++ blanks (drop (length values) ts))))
          (sym (append_assoc (child_of s k).parameters (heading (subject.meant s) (unwrap_or (body s k) no_body).header).exports (section_types (subject.meant s) (variables_in (unwrap_or (body s k) no_body)))))
          (values_new (child_of s k).parameters ((heading (subject.meant s) (unwrap_or (body s k) no_body).header).exports ++ section_types (subject.meant s) (variables_in (unwrap_or (body s k) no_body))) values fit)

      is_made : IsCreated s making here.path t.state.situation w i there ((child_of s k).with_parameters values) (unwrap_or (body s k) no_body) is_body
          (record {
            variables = begins_well;
            state = inl (in_head Path (child here.path (suc i.births)) making, refl);
            module_variables = none_length (length (module_variables_in (unwrap_or (body s k) no_body))) None;
          })
          (none_held (length (module_variables_in (unwrap_or (body s k) no_body)))) rest.0 rest.1
      is_made = is_created s making here.path t.state.situation w i there ((child_of s k).with_parameters values) (unwrap_or (body s k) no_body) is_body
          (record {
            variables = begins_well;
            state = inl (in_head Path (child here.path (suc i.births)) making, refl);
            module_variables = none_length (length (module_variables_in (unwrap_or (body s k) no_body))) None;
          })
          (none_held (length (module_variables_in (unwrap_or (body s k) no_body)))) rest.0 rest.1

      began : (u : Running Acting) → u.state ≡ t.state → Began (child here.path (suc i.births) ∷ making) Made ((carry Acting on_situation (begins_child s here.path m i ((child_of s k).with_parameters values))) u)
      began u same = go (slice_get i.module_variables m) refl
        where
          go : (o : Option (Option Path)) → slice_get i.module_variables m ≡ o → Began (child here.path (suc i.births) ∷ making) Made (and_then (checked_at (empty_in o) u) (λ empty. carry Acting on_situation (makes (effect.Create here.path (suc i.births) ((child_of s k).with_parameters values)))))
          go None e = tt
          go (Some (Some p)) e = tt
          go (Some None) e = subst (λ (a : Acting). Within s (child here.path (suc i.births) ∷ making) (situation_after (effect.Create here.path (suc i.births) ((child_of s k).with_parameters values)) a.situation) × Made (situation_after (effect.Create here.path (suc i.births) ((child_of s k).with_parameters values)) a.situation)) (sym same)
              (is_made.within, (e, is_made.parent_there, is_made.child_there, is_made.outside))

      -- then it takes its state, and is held
      finished : (to : Option ℕ) → ((d : BodyAlone) → body s k ≡ Some d → IsStateOf (length (states_in d)) to) → (h : Situation) → Made h → (u : Running Acting) → Within s (child here.path (suc i.births) ∷ making) u.state.situation → Outside (child here.path (suc i.births)) h u.state.situation
          → Comes s making here.path (Unit {0}) t.state.situation (carry Acting on_situation (holds_child s here.path m to (child here.path (suc i.births))) u)
      finished to initial h is u v o = go to refl
        where
          g2 : Situation
          g2 = u.state.situation

          parent : (j : Instance) × (fin.get u.state.situation.core.instances here.path ≡ Some j) × (outline j ≡ outline (effect.born i))
          parent = mapped_there outline (fin.get h.core.instances here.path) (fin.get u.state.situation.core.instances here.path) (effect.born i) (o.others here.path (not_true (is_inside (child here.path (suc i.births)) here.path) (not_below_itself here.path (suc i.births)))) is.1

          made_child : (j : Instance) × (fin.get u.state.situation.core.instances (child here.path (suc i.births)) ≡ Some j) × (mark j ≡ mark ((child_of s k).with_parameters values))
          made_child = mapped_there mark (fin.get h.core.instances (child here.path (suc i.births))) (fin.get u.state.situation.core.instances (child here.path (suc i.births))) ((child_of s k).with_parameters values) o.itself is.2

          e : IsEntered s making here.path (suc i.births) u.state.situation v made_child.0 made_child.1 (ap (λ (z : Instance). z.state) made_child.2) to
          e = is_entered s making here.path (suc i.births) u.state.situation v made_child.0 made_child.1 (ap (λ (z : Instance). z.state) made_child.2) to
              (λ d at. initial d (sym (ap (λ (z : Instance). body s z.body) made_child.2) ∙ at))

          slots : parent.0.module_variables ≡ i.module_variables
          slots = ap (λ (z : Instance). z.module_variables) parent.2

          final : Within s making (situation_kept here.path (effect.Hold m (Some (child here.path (suc i.births)))) (entered s making here.path (suc i.births) u.state.situation v made_child.0 made_child.1 (ap (λ (z : Instance). z.state) made_child.2) to))
              × Outside here.path (entered s making here.path (suc i.births) u.state.situation v made_child.0 made_child.1 (ap (λ (z : Instance). z.state) made_child.2) to) (situation_kept here.path (effect.Hold m (Some (child here.path (suc i.births)))) (entered s making here.path (suc i.births) u.state.situation v made_child.0 made_child.1 (ap (λ (z : Instance). z.state) made_child.2) to))
          final = good_held s making here.path m (suc i.births) (entered s making here.path (suc i.births) u.state.situation v made_child.0 made_child.1 (ap (λ (z : Instance). z.state) made_child.2) to) e.within parent.0 (e.parent ∙ parent.1)
              (λ y at. none_holds_new s making here.path (fin.get t.state.situation.core.instances) (stands_of s making t.state.situation.core.instances w.instances) i there y (sym (ap (λ (xs : List (Option Path)). slice_get xs y) slots) ∙ at))
              (ap (λ (xs : List (Option Path)). slice_get xs m) slots ∙ is.0)
              e.instance e.now
              (λ d at. subst (IsStateOf (length (states_in d))) (sym e.state) (initial d (sym (ap (λ (z : ℕ). body s z) (e.body ∙ ap (λ (z : Instance). z.body) made_child.2)) ∙ at)))
              (ap (λ (z : Instance). slice_get (headers_of s z.body) m) parent.2 ∙ header_is (slice_get (headers_of s i.body) m) (child_of s k).header header.0 ∙ ap (λ (z : ℕ). Some (child_of s z).header) (sym (e.body ∙ ap (λ (z : Instance). z.body) made_child.2)))

          go : (x : Option ℕ) → x ≡ to → Comes s making here.path (Unit {0}) t.state.situation (carry Acting on_situation (holds_child s here.path m x (child here.path (suc i.births))) u)
          go x same = subst (λ (y : Option ℕ). Comes s making here.path (Unit {0}) t.state.situation (carry Acting on_situation (holds_child s here.path m y (child here.path (suc i.births))) u)) (sym same)
              (whole to (entered s making here.path (suc i.births) u.state.situation v made_child.0 made_child.1 (ap (λ (z : Instance). z.state) made_child.2) to) refl
              (outside_then here.path t.state.situation h (entered s making here.path (suc i.births) u.state.situation v made_child.0 made_child.1 (ap (λ (z : Instance). z.state) made_child.2) to) is.3
              (outside_then here.path h u.state.situation (entered s making here.path (suc i.births) u.state.situation v made_child.0 made_child.1 (ap (λ (z : Instance). z.state) made_child.2) to) (outside_parent here.path (suc i.births) h u.state.situation o) e.outside)) final)
            where
              whole : (y : Option ℕ) (g3 : Situation) → entered s making here.path (suc i.births) u.state.situation v made_child.0 made_child.1 (ap (λ (z : Instance). z.state) made_child.2) y ≡ g3 → Outside here.path t.state.situation g3
                  → Within s making (situation_kept here.path (effect.Hold m (Some (child here.path (suc i.births)))) g3) × Outside here.path g3 (situation_kept here.path (effect.Hold m (Some (child here.path (suc i.births)))) g3)
                  → Comes s making here.path (Unit {0}) t.state.situation (carry Acting on_situation (holds_child s here.path m y (child here.path (suc i.births))) u)
              whole None g3 same out fin_ = subst (λ (z : Situation). Within s making (situation_kept here.path (effect.Hold m (Some (child here.path (suc i.births)))) z) × Outside here.path t.state.situation (situation_kept here.path (effect.Hold m (Some (child here.path (suc i.births)))) z)) (sym same)
                  (fin_.0, outside_then here.path t.state.situation g3 (situation_kept here.path (effect.Hold m (Some (child here.path (suc i.births)))) g3) out fin_.1)
              whole (Some j) g3 same out fin_ = subst (λ (z : Situation). Within s making (situation_kept here.path (effect.Hold m (Some (child here.path (suc i.births)))) z) × Outside here.path t.state.situation (situation_kept here.path (effect.Hold m (Some (child here.path (suc i.births)))) z)) (sym same)
                  (fin_.0, outside_then here.path t.state.situation g3 (situation_kept here.path (effect.Hold m (Some (child here.path (suc i.births)))) g3) out fin_.1)

      deeper_above : AllAbove (child here.path (suc i.births) ∷ making) (child here.path (suc i.births))
      deeper_above p at = elim (in_cases Path p (child here.path (suc i.births)) making at) [
        | inl e ↦ ap (λ (x : Path). is_inside x (child here.path (suc i.births))) e ∙ inside_itself (child here.path (suc i.births))
        | inr d ↦ inside_child p here.path (suc i.births) (all_above p d)
      ]

      create_keeps : Comes s making here.path (Unit {0}) t.state.situation (create Acting on_situation s meant enters here.path m (child_of s k) values i t)
      create_keeps = go (enters (carry Acting on_situation (begins_child s here.path m i ((child_of s k).with_parameters values))) (child here.path (suc i.births)) (child_of s k).block no_arguments t)
          (into (child here.path (suc i.births) ∷ making) (child here.path (suc i.births)) deeper_above (carry Acting on_situation (begins_child s here.path m i ((child_of s k).with_parameters values))) Made (child_of s k).block no_arguments t began)
        where
          go : (o : StepResult Acting Value) → Ended (child here.path (suc i.births) ∷ making) (child here.path (suc i.births)) Made o
              → Comes s making here.path (Unit {0}) t.state.situation (and_then o (λ _. carry Acting on_situation (holds_child s here.path m (child_of s k).to (child here.path (suc i.births)))))
          go (Err e) h = tt
          go (Ok r) h = finished (child_of s k).to (λ d at. leads.initial k d at) h.0 h.1 r.1 h.2 h.3

    abbrev K : (A : Type 0) → Running Acting → StepResult Acting A → Type 0
    K = Keeps s making here.path

    init_keeps : (m k : ℕ) (es : List (Operand Acting)) → Each (OperandKept Acting on_situation K (closed s making here.path)) es → Has K (init Acting on_situation s meant enters here.path m k es)
    init_keeps m k es h = then_kept Acting on_situation K (closed s making here.path) ActualParameters (Unit {0}) (give_all (map ByValue (child_of s k).parameters) es no_arguments)
        (λ g. carry Acting on_situation (may_begin s here.path m k g.values) >>= λ i. create Acting on_situation s meant enters here.path m (child_of s k) g.values i)
        (give_all_kept Acting on_situation K (closed s making here.path) (map ByValue (child_of s k).parameters) es no_arguments h)
        (λ g t w. begun_keeps Acting on_situation s here.path m k g.values (λ i. create Acting on_situation s meant enters here.path m (child_of s k) g.values i) t (Comes s making here.path (Unit {0}) t.state.situation) (λ f. tt)
        (λ i there may. let b = and_both (may_hold s i.body m k) (are_values_of (child_of s k).parameters g.values) may in create_keeps m k g.values i t w there b.0 b.1))

    init_of_keeps : (x b : Meaning) (es : List (Operand Acting)) → Each (OperandKept Acting on_situation K (closed s making here.path)) es → Has K (init_of Acting on_situation s meant enters here.path x b es)
    init_of_keeps (Module m) (Body k) es h t w = init_keeps m k es h t w
    init_of_keeps (Module m) _ es h t w = tt
    init_of_keeps _ b es h t w = tt

    plans_keep : (st : Statement) (given : List Value) → Has K (carry Acting on_situation (plan_of s meant here.path st given))
    plans_keep (Init x b) given t w = tt
    plans_keep (Release x) given t w = release_keeps s making here.path meant all_above (meant x) t w
    plans_keep st given t w = planned_keeps s making here.path meant by st given (λ c. c) t w

    pub act_keeps : ActKept Acting on_situation K (closed s making here.path) (act Acting on_situation s meant enters) here
    act_keeps = acts_by Acting on_situation K (closed s making here.path) s meant enters here (λ x b. init_of_keeps (meant x) (meant b)) plans_keep

  -- ---- calls and blocks

  module _ (meant : Meanings) (by : (x : Name) → (chosen : List Choice) × (meant x ≡ meant_with s chosen x)) where
    call_keeps : (enters : Enters Acting) → EntersKeeps enters → (making : List Path) (q : Path) → AllAbove making q → CallKept Acting on_situation (Keeps s making q) (closed s making q) (call_by enters q)
    call_keeps enters into making q all_above r g t w = go (enters (pure tt) q r g t) (into making q all_above (pure tt) (λ h. h ≡ t.state.situation) r g t (λ u e. (subst (λ (a : Acting). Within s making a.situation) (sym e) w, ap (λ (a : Acting). a.situation) e)))
      where
        go : (o : StepResult Acting Value) → Ended making q (λ h. h ≡ t.state.situation) o → Comes s making q Value t.state.situation o
        go (Ok x) h = (h.2, subst (λ (y : Situation). Outside q y x.1.state.situation) h.1 h.3)
        go (Err e) h = tt

    within_keeps : (enters : Enters Acting) → EntersKeeps enters → (making : List Path) (q : Path) → AllAbove making q → (depth : ℕ) (r : Routine) (g : ActualParameters) → Has (Keeps s making q) (within Acting on_situation meant (act Acting on_situation s meant) enters depth q r g)
    within_keeps enters into making q all_above depth r g = within_kept Acting on_situation (Keeps s making q) (closed s making q) meant (act Acting on_situation s meant) enters depth q r g
        (act_keeps meant by enters into making (record { path = q; frame = depth; references = g.references }) all_above) (call_keeps enters into making q all_above)

    nested_keeps : (n : ℕ) → EntersKeeps (nested Acting on_situation meant (act Acting on_situation s meant) n)
    unfolding spend
    nested_keeps zero making c all_above before P r g t h = go (nat_lt 0 t.left)
      where
        go : (b : Bool) → Ended making c P (and_then (cond b (Ok (tt {0}, record t { left = t.left - 1 })) (Err (Faults fault.StepLimit, t.left))) (λ _. fail fault.CallDepth))
        go true = tt
        go false = tt
    nested_keeps (suc n) making c all_above before P r g t h = go (nat_lt 0 t.left) (within_keeps (nested Acting on_situation meant (act Acting on_situation s meant) n) (nested_keeps n) making c all_above (max_depth - n) r g)
      where
        ran : (o : StepResult Acting (Unit {0})) → Began making P o → (f : Step Acting Value) → Has (Keeps s making c) f → Ended making c P (and_then o (λ _. f))
        ran (Err e) k f keeps = tt
        ran (Ok x) k f keeps = then (f x.1) (keeps x.1 k.0)
          where
            then : (o : StepResult Acting Value) → Comes s making c Value x.1.state.situation o → Ended making c P o
            then (Ok y) z = (x.1.state.situation, k.1, z.0, z.1)
            then (Err e) z = tt

        go : (b : Bool) → Has (Keeps s making c) (within Acting on_situation meant (act Acting on_situation s meant) (nested Acting on_situation meant (act Acting on_situation s meant) n) (max_depth - n) c r g)
            → Ended making c P (and_then (and_then (cond b (Ok (tt {0}, record t { left = t.left - 1 })) (Err (Faults fault.StepLimit, t.left))) (λ _. before)) (λ _. within Acting on_situation meant (act Acting on_situation s meant) (nested Acting on_situation meant (act Acting on_situation s meant) n) (max_depth - n) c r g))
        go true keeps = ran (before (record t { left = t.left - 1 })) (h (record t { left = t.left - 1 }) refl) (within Acting on_situation meant (act Acting on_situation s meant) (nested Acting on_situation meant (act Acting on_situation s meant) n) (max_depth - n) c r g) keeps
        go false keeps = tt

    -- a block of an instance
    pub block_keeps : (making : List Path) (q : Path) → AllAbove making q → (r : Routine) (values : List Value) → Has (Keeps s making q) (block_step Acting on_situation meant (act Acting on_situation s meant) q r values)
    unfolding block_step
    block_keeps making q all_above r values = then_kept Acting on_situation (Keeps s making q) (closed s making q) Value (Unit {0}) (within Acting on_situation meant (act Acting on_situation s meant) (from_block Acting on_situation meant (act Acting on_situation s meant)) 0 q r (given_values values)) (λ _. pure tt)
        (within_keeps (from_block Acting on_situation meant (act Acting on_situation s meant)) (nested_keeps max_depth) making q all_above 0 r (given_values values)) (λ _. (closed s making q).pure (Unit {0}) tt)
