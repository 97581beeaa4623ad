-- A guard is the same where its instance, the children, its head and its timer are.
use Rattle.std.proofs.Common.{◌≡◌, ℕ, Bool, true, false, List, [], Option, Some, None, refl, sym, ap, subst, cond, ◌∙◌, inl, inr}
use Rattle.std.specs.Prelude.{slice_get, option_map}
use Rattle.std.specs.FinMap as map
use Rattle.std.specs.Ordering.{eq_by_cmp}
use Rattle.pascal_values.specs.declared.value.Value.{Value}
use Rattle.estelle_tree.specs.declared.tree.expression.Expr.{Expr}
use Rattle.estelle_tree.specs.declared.tree.clause.DelayHigh.{DelayHigh}
use Rattle.estelle_tree.specs.declared.tree.clause.DelayHigh.TheVariants as high
use Rattle.estelle_tree.specs.Paths.{Path, path_cmp}
use Rattle.estelle_tree.specs.Timers.{pair}
use Rattle.estelle_model.specs.declared.job.Guard.{Guard}
use Rattle.estelle_model.specs.declared.job.Guard.TheVariants.{Off}
use Rattle.estelle_model.specs.Core.{Instance, Instances}
use Rattle.estelle_model.specs.Effects.{Store, changed, changed_in}
use Rattle.estelle_model.specs.Stops.{Broken}
use Rattle.estelle_model.specs.Steps.{Step, pure, breaks, checked}
use Rattle.estelle_model.specs.Belonging.{are_values_of}
use Rattle.estelle_model.specs.Places.{module_variables_of}
use Rattle.estelle_model.specs.Expressions.{bool_step}
use Rattle.estelle_model.specs.Blocks.{fresh}
use Rattle.estelle_model.specs.Acts.{act}
use Rattle.estelle_model.specs.Transitions.{Transition, Delay}
use Rattle.estelle_model.specs.Subject.{Subject, meant_with, transition}
use Rattle.estelle_model.specs.Clauses.{receives, in_clause, value_of_expr, provided_step, from_one, from_both, high_step, at_once, delay_step, guard_step}
use Rattle.estelle_model.specs.Situation.{Situation, Acting, on_situation}
use Rattle.estelle_model.specs.Queues.{Found, NotNeeded, Head, Absent, found, is_named}
use Rattle.estelle_model.specs.Firing.{begun, is_in_state, transition_at, guard_with, guard_found, guard_of, guard_at}
use Rattle.estelle_model.specs.Jobs.{IsOwnOrChild, found_by}
use Rattle.estelle_model.proofs.Alike.{Same, RunningAlike, StepAlike, DoAlike, ValueAlike, then_same, pure_alike, stop_alike, checked_alike, if_alike}
use Rattle.estelle_model.proofs.AlikeOperands.{bool_alike}
use Rattle.estelle_model.proofs.AlikeCalls.{with_values_alike}
use Rattle.estelle_model.proofs.AlikeFirings.{same_answer}
use Rattle.estelle_model.proofs.Maps.{apart, equal_of}
use Rattle.estelle_model.proofs.PrivateParts.{get_changed, left_true, right_true}
use Rattle.guards_seen.specs.Quiet.{condition_is_quiet, bound_is_quiet, delay_is_quiet, names_no_procedure, IsQuiet}
use Rattle.guards_seen.specs.Seen.{HoldsOwnChildren, HaveSameRecords}
use Rattle.guards_seen.specs.Laws.{GuardsSeeTheirOwn}
use Rattle.guards_seen.proofs.Places.{ShowAlike}
use Rattle.guards_seen.proofs.Calls.{all_told, clause_alike}

-- ---- two situations that show the same of an instance and its children

module _ (q : Path) where
  abbrev own : Path → Type 0
  own p = p ≡ q

  abbrev seen : Path → Type 0
  seen = IsOwnOrChild q

  -- the records are the same, and what the module variables hold is a child
  record ShowSame (a b : Acting) : Type 0 where
    pub types : a.situation.core.types ≡ b.situation.core.types
    pub instances : (p : Path) → seen p → map.get a.situation.core.instances p ≡ map.get b.situation.core.instances p
    pub held : (v : ℕ) (c : Path) → slice_get (module_variables_of (map.get a.situation.core.instances q)) v ≡ Some (Some c) → seen c

  -- a value that is stored changes no module variable
  variables_stay : (x : ℕ) (way : List ℕ) (v : Value) (o : Option Instance) → module_variables_of (option_map (changed (Store x way v)) o) ≡ module_variables_of o
  variables_stay x way v None = refl
  variables_stay x way v (Some i) = refl

  stored_variables : (p : Path) (x : ℕ) (way : List ℕ) (v : Value) (is : Instances) → module_variables_of (map.get (changed_in p (changed (Store x way v)) is) q) ≡ module_variables_of (map.get is q)
  stored_variables p x way v is = ap module_variables_of (get_changed p (changed (Store x way v)) is q) ∙ by (eq_by_cmp path_cmp q p) refl
    where
      by : (b : Bool) → eq_by_cmp path_cmp q p ≡ b → module_variables_of (cond b (option_map (changed (Store x way v)) (map.get is p)) (map.get is q)) ≡ module_variables_of (map.get is q)
      by true e = variables_stay x way v (map.get is p) ∙ ap (λ r. module_variables_of (map.get is r)) (sym (apart q p (equal_of (path_cmp q p) e)))
      by false e = refl

  stored_same : (p : Path) (x : ℕ) (way : List ℕ) (v : Value) (is js : Instances) → map.get is p ≡ map.get js p → (r : Path) → map.get is r ≡ map.get js r → map.get (changed_in p (changed (Store x way v)) is) r ≡ map.get (changed_in p (changed (Store x way v)) js) r
  stored_same p x way v is js e r f =
      get_changed p (changed (Store x way v)) is r
      ∙ (λ i. cond (eq_by_cmp path_cmp r p) (option_map (changed (Store x way v)) (e i)) (f i))
      ∙ sym (get_changed p (changed (Store x way v)) js r)

  show : ShowAlike Acting Acting on_situation on_situation own seen ShowSame
  show = record {
    instances = λ a b r p h. r.instances p h;
    owned = λ p h. inl h;
    held = λ a b r p c k h is. r.held k c (ap (λ (x : Path). slice_get (module_variables_of (map.get a.situation.core.instances x)) k) (sym h) ∙ is);
    types = λ a b r. r.types;
    stored = λ a b r p x way v h. record {
      types = r.types;
      instances = λ t k. stored_same p x way v a.situation.core.instances b.situation.core.instances (r.instances p h) t (r.instances t k);
      held = λ k c is. r.held k c (ap (λ (vs : List (Option Path)). slice_get vs k) (sym (stored_variables p x way v a.situation.core.instances)) ∙ is);
    };
  }

  -- ---- the steps of a guard

  module _ (s : Subject) (quiet : IsQuiet s) (t : Transition) (vs : List Value) where
    receives_alike : DoAlike Acting Acting ShowSame (receives Acting on_situation s t vs) (receives Acting on_situation s t vs)
    receives_alike = if_alike Acting Acting ShowSame (Same {A = Unit {0}}) (are_values_of t.received vs) (pure tt) breaks (pure tt) breaks (pure_alike Acting Acting ShowSame (Same {A = Unit {0}}) tt tt refl) (stop_alike Acting Acting ShowSame (Same {A = Unit {0}}) Broken)

    value_alike : (e : Expr) → names_no_procedure (meant_with s t.chosen) e ≡ true → ValueAlike Acting Acting ShowSame (value_of_expr Acting on_situation s q t e) (value_of_expr Acting on_situation s q t e)
    value_alike e n =
        clause_alike Acting Acting on_situation on_situation own seen ShowSame show (meant_with s t.chosen) (all_told (meant_with s t.chosen) (λ x r. quiet.functions t.chosen x r))
        (act Acting on_situation s (meant_with s t.chosen)) (act Acting on_situation s (meant_with s t.chosen)) q refl e n

    clause_done_alike : {A : Type 0} (f g : Step Acting A) → StepAlike Acting Acting ShowSame (Same {A = A}) f g → StepAlike Acting Acting ShowSame (Same {A = A}) (in_clause Acting on_situation s t vs f) (in_clause Acting on_situation s t vs g)
    clause_done_alike {A} f g h = then_same Acting Acting ShowSame (Same {A = A}) (receives Acting on_situation s t vs) (receives Acting on_situation s t vs) _ _ receives_alike (λ u. with_values_alike Acting Acting on_situation on_situation [] ShowSame vs f g h)

    provided_alike : (o : Option Expr) → condition_is_quiet (meant_with s t.chosen) o ≡ true → StepAlike Acting Acting ShowSame (Same {A = Bool}) (provided_step Acting on_situation s q t vs o) (provided_step Acting on_situation s q t vs o)
    provided_alike None n = pure_alike Acting Acting ShowSame (Same {A = Bool}) true true refl
    provided_alike (Some e) n = clause_done_alike (bool_step (value_of_expr Acting on_situation s q t e)) (bool_step (value_of_expr Acting on_situation s q t e))
        (bool_alike Acting Acting on_situation on_situation [] ShowSame (value_of_expr Acting on_situation s q t e) (value_of_expr Acting on_situation s q t e) (value_alike e n))

    high_alike : (v : Value) (o : Option DelayHigh) → bound_is_quiet (meant_with s t.chosen) o ≡ true → StepAlike Acting Acting ShowSame (Same {A = Guard}) (high_step Acting on_situation s q t v o) (high_step Acting on_situation s q t v o)
    high_alike v None n = checked_alike Acting Acting ShowSame (from_both Acting on_situation s v v)
    high_alike v (Some high.Star) n = checked_alike Acting Acting ShowSame (from_one Acting on_situation s v)
    high_alike v (Some (high.Expr e)) n = then_same Acting Acting ShowSame (Same {A = Guard}) (value_of_expr Acting on_situation s q t e) (value_of_expr Acting on_situation s q t e) (λ w. checked (from_both Acting on_situation s v w)) (λ w. checked (from_both Acting on_situation s v w)) (value_alike e n) (λ w. checked_alike Acting Acting ShowSame (from_both Acting on_situation s v w))

    delay_alike : (timed : Bool) (o : Option Delay) → delay_is_quiet (meant_with s t.chosen) o ≡ true → StepAlike Acting Acting ShowSame (Same {A = Guard}) (delay_step Acting on_situation s q t vs timed o) (delay_step Acting on_situation s q t vs timed o)
    delay_alike timed None n = pure_alike Acting Acting ShowSame (Same {A = Guard}) (at_once Acting on_situation s) (at_once Acting on_situation s) refl
    delay_alike true (Some d) n = pure_alike Acting Acting ShowSame (Same {A = Guard}) (at_once Acting on_situation s) (at_once Acting on_situation s) refl
    delay_alike false (Some d) n =
        let low = left_true (names_no_procedure (meant_with s t.chosen) d.low) (bound_is_quiet (meant_with s t.chosen) d.high) n in
        let high = right_true (names_no_procedure (meant_with s t.chosen) d.low) (bound_is_quiet (meant_with s t.chosen) d.high) n in
        clause_done_alike _ _ (then_same Acting Acting ShowSame (Same {A = Guard}) (value_of_expr Acting on_situation s q t d.low) (value_of_expr Acting on_situation s q t d.low) (λ v. high_step Acting on_situation s q t v d.high) (λ v. high_step Acting on_situation s q t v d.high) (value_alike d.low low) (λ v. high_alike v d.high high))

    guard_step_alike : condition_is_quiet (meant_with s t.chosen) t.provided ≡ true → delay_is_quiet (meant_with s t.chosen) t.delay ≡ true → (timed : Bool) → StepAlike Acting Acting ShowSame (Same {A = Guard}) (guard_step Acting on_situation s q t vs timed) (guard_step Acting on_situation s q t vs timed)
    guard_step_alike n k timed = then_same Acting Acting ShowSame (Same {A = Guard}) (provided_step Acting on_situation s q t vs t.provided) (provided_step Acting on_situation s q t vs t.provided)
        (λ holds. cond holds (delay_step Acting on_situation s q t vs timed t.delay) (pure Off)) (λ holds. cond holds (delay_step Acting on_situation s q t vs timed t.delay) (pure Off)) (provided_alike t.provided n)
        (λ holds. if_alike Acting Acting ShowSame (Same {A = Guard}) holds (delay_step Acting on_situation s q t vs timed t.delay) (pure Off) (delay_step Acting on_situation s q t vs timed t.delay) (pure Off) (delay_alike timed t.delay k) (pure_alike Acting Acting ShowSame (Same {A = Guard}) Off Off refl))

-- ---- guards

module _ (s : Subject) (quiet : IsQuiet s) (budget : ℕ) (g h : Situation) (q : Path) (types : h.core.types ≡ g.core.types) (children : HoldsOwnChildren g q) (records : HaveSameRecords g h q) where
  same_record : (p : Path) → IsOwnOrChild q p → map.get h.core.instances p ≡ map.get g.core.instances p
  same_record p (inl e) = subst (λ (r : Path). map.get h.core.instances r ≡ map.get g.core.instances r) (sym e) records.own
  same_record p (inr c) = subst (λ (r : Path). map.get h.core.instances r ≡ map.get g.core.instances r) (sym c.1) (records.children c.0)

  held_child : (v : ℕ) (c : Path) (o : Option Instance) → map.get g.core.instances q ≡ o → slice_get (module_variables_of o) v ≡ Some (Some c) → IsOwnOrChild q c
  held_child v c None e is = absurd (cc)
  held_child v c (Some i) e is = inr (children i v c e is)

  begun_same : RunningAlike Acting Acting (ShowSame q) (fresh (begun h) budget) (fresh (begun g) budget)
  begun_same = record {
    state = record { types = types; instances = same_record; held = λ v c is. held_child v c (map.get g.core.instances q) refl (ap (λ (o : Option Instance). slice_get (module_variables_of o) v) (sym records.own) ∙ is) };
    frames = refl;
    left = refl;
  }

  module _ (t : Transition) (n : condition_is_quiet (meant_with s t.chosen) t.provided ≡ true) (k : delay_is_quiet (meant_with s t.chosen) t.delay ≡ true) where
    with_same : (timed : Bool) (values : List Value) → guard_with s budget h q t timed values ≡ guard_with s budget g q t timed values
    with_same timed values = same_answer Acting Acting (ShowSame q) _ _ (guard_step_alike q s quiet t values n k timed (fresh (begun h) budget) (fresh (begun g) budget) begun_same)

    by_found : (timed : Bool) (f : Found) → guard_found s budget h q t timed f ≡ guard_found s budget g q t timed f
    by_found timed NotNeeded = with_same timed []
    by_found timed (Head i) = ap (λ (x : Guard). cond (is_named i t.when) x Off) (with_same timed i.values)
    by_found timed Absent = refl

  of_same : (n : ℕ) (timed : Bool) (i : Instance) (o : Option Transition) → transition s i.body n ≡ o → found_by s h q o ≡ found_by s g q o → guard_of s budget h q timed i o ≡ guard_of s budget g q timed i o
  of_same n timed i None e head = refl
  of_same n timed i (Some t) e head =
      ap (λ (x : Guard). cond (is_in_state t.from i.state) x Off)
      (ap (guard_found s budget h q t timed) head ∙ by_found t (quiet.conditions i.body n t e) (quiet.delays i.body n t e) timed (found s g q t.when))

  at_same : (n : ℕ) → map.contains_key h.timers (pair q n) ≡ map.contains_key g.timers (pair q n) → (o : Option Instance) → found_by s h q (transition_at s n o) ≡ found_by s g q (transition_at s n o) → guard_at s budget h q n o ≡ guard_at s budget g q n o
  at_same n timers None head = refl
  at_same n timers (Some i) head =
      ap (λ (b : Bool). guard_of s budget h q b i (transition s i.body n)) timers
      ∙ of_same n (map.contains_key g.timers (pair q n)) i (transition s i.body n) refl head

pub guards_see_their_own : GuardsSeeTheirOwn
guards_see_their_own s quiet budget g h q n types children same =
    ap (guard_at s budget h q n) same.records.own ∙ at_same s quiet budget g h q types children same.records n same.timed (map.get g.core.instances q) same.head
