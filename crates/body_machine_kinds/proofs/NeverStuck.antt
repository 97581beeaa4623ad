-- The start, firings and guards by a code of good kinds.
use Rattle.std.proofs.Common.{◌≡◌, ◌∙◌, refl, sym, ap, subst, ℕ, suc, Bool, true, false, List, [], ◌∷◌, Option, Some, None, Result, Ok, Err, inl, inr, ℤ}
use Rattle.std.specs.Prelude.{◌&&◌, ◌||◌, if◌then◌else◌, IsTrue, is_some, is_none}
use Rattle.std.specs.Int.RustNames.{int_le}
use Rattle.pascal_values.specs.declared.fault.Fault.{Fault}
use Rattle.pascal_values.specs.declared.value.Value.{Value, out-Value}
use Rattle.pascal_values.specs.declared.value.Value.TheOpen.{Value-F}
use Rattle.pascal_values.specs.declared.value.Value.TheVariants as pascal
use Rattle.estelle_tree.specs.Paths.{Path}
use Rattle.estelle_tree.specs.declared.tree.expression.Expr.{Expr}
use Rattle.estelle_tree.specs.declared.tree.clause.DelayHigh.{DelayHigh}
use Rattle.estelle_tree.specs.declared.tree.clause.DelayHigh.TheVariants as high
use Rattle.body_code.specs.declared.unit.Entry.{Entry}
use Rattle.body_code.specs.declared.unit.Entry.TheVariants as entry
use Rattle.body_code.specs.declared.unit.CodeUnit.{CodeUnit}
use Rattle.body_code.specs.Units.{unit_of}
use Rattle.estelle_model.specs.declared.job.Guard.{Guard}
use Rattle.estelle_model.specs.Belonging.{are_values_of}
use Rattle.estelle_model.specs.Clauses.{is_delay, between, from_on, from_one, from_both}
use Rattle.estelle_model.specs.Blocks.{fresh}
use Rattle.estelle_model.specs.Computed.{log_from, values_of}
use Rattle.estelle_model.specs.Expressions.{bool_step}
use Rattle.estelle_model.specs.Firing.{bare}
use Rattle.estelle_model.specs.Operators.{◌>>>◌, int_at, int_of, bool_at}
use Rattle.estelle_model.specs.States.{Logged, on_log}
use Rattle.estelle_model.specs.Stops.{Stop, Faults, Broken}
use Rattle.estelle_model.specs.Steps.{Running, StepResult, Step, and_then, checked_at}
use Rattle.estelle_model.specs.Transitions.{Delay, Transition}
use Rattle.estelle_model.specs.Subject.{Subject, begins, transition}
use Rattle.body_numbers.specs.declared.numbers.Numbers.{Numbers}
use Rattle.body_machine.specs.declared.item.Item.{Item}
use Rattle.body_machine.specs.declared.item.Item.TheVariants.{Datum, Spot}
use Rattle.body_machine_meaning.specs.Executed.{started, value_left, state_taken, delay_left, on_image, RunsTo, ReceivesTo, DelaysTo, HoldsTo}
use Rattle.body_kinds.specs.Kinds.{Kind, Integer, Boolean, is_of, is_of_at}
use Rattle.body_kinds.specs.Kinded.{SaysTrue, delay_kinds}
use Rattle.body_kinds.specs.Good.{IsThere, HasGoodKinds}
use Rattle.body_machine_kinds.specs.Laws.{AreLeft, IsLeft, MayBegin, IsResult, RunsWell}
use Rattle.body_machine_kinds.specs.NeverStuck.{BreaksOnlyWhere, asks_nothing, IsStoppedIn, IsStoppedInGuard, GoodKindsAreNeverStuck}
use Rattle.body_machine_kinds.proofs.Jobs.{blocks_run, guards_run, delays_run, initializations_run}
use Rattle.body_machine_kinds.proofs.Starting.{legal_begins, start_begins}
use Rattle.body_machine_kinds.proofs.TrueGuards.{true_guards}

there : (code : List CodeUnit) (body : ℕ) (e : Entry) → IsThere code body e → (unit : CodeUnit) × (unit_of code body e ≡ Some unit)
there code body e h = by (unit_of code body e) refl h
  where
    by : (o : Option CodeUnit) → unit_of code body e ≡ o → is_some o ≡ true → (unit : CodeUnit) × (unit_of code body e ≡ Some unit)
    by None is h = absurd (cc)
    by (Some unit) is h = (unit, is)

-- ---- what breaks a rule

weaker : {A : Type 0} (P Q : ℕ → Type 0) → ((left : ℕ) → P left → Q left) → (x : StepResult Logged A) → BreaksOnlyWhere P x → BreaksOnlyWhere Q x
weaker P Q f (Ok r) h = tt
weaker P Q f (Err (Faults k, left)) h = tt
weaker P Q f (Err (Broken, left)) h = f left h

-- one step, and then another
then_breaks : {A B : Type 0} (P : ℕ → Type 0) (x : StepResult Logged A) (f : A → Step Logged B) → BreaksOnlyWhere P x → ((r : A × Running Logged) → x ≡ Ok r → BreaksOnlyWhere P (f r.0 r.1)) → BreaksOnlyWhere P (and_then x f)
then_breaks P (Ok r) f h rest = rest r refl
then_breaks P (Err (Faults k, left)) f h rest = tt
then_breaks P (Err (Broken, left)) f h rest = h

-- a state that is taken breaks none
taken : (s : Subject) (P : ℕ → Type 0) (path : Path) (to : Option ℕ) (items : List Item) (r : Running Logged) → BreaksOnlyWhere P (state_taken s path to items r)
taken s P path None items r = tt
taken s P path (Some k) items r = tt

-- ---- what a guard leaves

is_true : is_of Boolean (pascal.Bool true) ≡ true
is_true = ap (is_of_at Boolean (pascal.Bool true)) (pascal.outs-Bool true)

-- a truth value
truth : (items : List Item) → AreLeft (Boolean ∷ []) items → (r : Running Logged) → (b : Bool) × (bool_step (value_left items) r ≡ Ok (b, r))
truth [] h r = absurd h
truth (Spot p ∷ items) h r = absurd h
truth (Datum v ∷ (i ∷ items)) h r = absurd h.1
truth (Datum v ∷ []) h r = by (out-Value v) refl h.0
  where
    by : (o : Value-F Value) → out-Value v ≡ o → is_of_at Boolean v o ≡ true → (b : Bool) × (bool_step (value_left (Datum v ∷ [])) r ≡ Ok (b, r))
    by (Value-F.Bool b) is h = (b, ap (λ (x : Value-F Value). checked_at (bool_at x) r) is)
    by _ is h = absurd (cc)

integer : (v : Value) → is_of Integer v ≡ true → (n : ℤ) × (out-Value v ≡ Value-F.Int n)
integer v h = by (out-Value v) refl h
  where
    by : (o : Value-F Value) → out-Value v ≡ o → is_of_at Integer v o ≡ true → (n : ℤ) × (out-Value v ≡ Value-F.Int n)
    by (Value-F.Int n) is h = (n, is)
    by _ is h = absurd (cc)

in_range : (P : ℕ → Type 0) (b : Bool) (g : Guard) (f : Fault) (r : Running Logged) → BreaksOnlyWhere P (checked_at (if b then Ok g else Err (Faults f)) r)
in_range P true g f r = tt
in_range P false g f r = tt

-- a delay of integers breaks no rule
module _ (s : Subject) (P : ℕ → Type 0) (r : Running Logged) where
  one_integer : (v : Value) → is_of Integer v ≡ true → BreaksOnlyWhere P (checked_at (from_one Logged on_log s v) r)
  one_integer v h =
      let x = integer v h in
      subst (λ (o : Value-F Value). BreaksOnlyWhere P (checked_at (int_at o >>> λ low. from_on Logged on_log s low) r)) (sym x.1) (in_range P (is_delay Logged on_log s x.0) _ _ r)

  two_integers : (v w : Value) → is_of Integer v ≡ true → is_of Integer w ≡ true → BreaksOnlyWhere P (checked_at (from_both Logged on_log s v w) r)
  two_integers v w h k =
      let x = integer v h in
      let y = integer w k in
      subst (λ (o : Value-F Value). BreaksOnlyWhere P (checked_at (int_at o >>> λ low. int_of w >>> λ high. between Logged on_log s low high) r)) (sym x.1)
      (subst (λ (o : Value-F Value). BreaksOnlyWhere P (checked_at (int_at o >>> λ high. between Logged on_log s x.0 high) r)) (sym y.1)
      (in_range P (is_delay Logged on_log s x.0 && (is_delay Logged on_log s y.0 && int_le x.0 y.0)) _ _ r))

  delayed : (o : Option DelayHigh) (items : List Item) → AreLeft (delay_kinds o) items → BreaksOnlyWhere P (delay_left s o items r)
  delayed None (Datum v ∷ []) h = two_integers v v h.0 h.0
  delayed (Some high.Star) (Datum v ∷ []) h = one_integer v h.0
  delayed (Some (high.Expr e)) (Datum w ∷ (Datum v ∷ [])) h = two_integers v w h.1.0 h.0
  delayed None [] h = absurd h
  delayed None (Spot p ∷ items) h = absurd h
  delayed None (Datum v ∷ (i ∷ items)) h = absurd h.1
  delayed (Some high.Star) [] h = absurd h
  delayed (Some high.Star) (Spot p ∷ items) h = absurd h
  delayed (Some high.Star) (Datum v ∷ (i ∷ items)) h = absurd h.1
  delayed (Some (high.Expr e)) [] h = absurd h
  delayed (Some (high.Expr e)) (Spot p ∷ items) h = absurd h
  delayed (Some (high.Expr e)) (Datum w ∷ []) h = absurd h.1
  delayed (Some (high.Expr e)) (Datum w ∷ (Spot p ∷ items)) h = absurd h.1
  delayed (Some (high.Expr e)) (Datum w ∷ (Datum v ∷ (i ∷ items))) h = absurd h.1.1

or_true : (a b : Bool) → b ≡ true → (a || b) ≡ true
or_true true b h = refl
or_true false b h = h

-- ---- units

module _ (s : Subject) (n : Numbers) (code : List CodeUnit) (good : HasGoodKinds s n code) where
  -- what a unit comes to that runs well
  module _ (last : List Kind) (body : ℕ) (e : Entry) (unit : CodeUnit) (is : unit_of code body e ≡ Some unit) (path : Path) (values : List Value) (r : Running Logged) (well : RunsWell s n code good.claims last body unit path values r) where
    abbrev Stopped : ℕ → Type 0
    Stopped = IsStoppedIn s n code body e path values r

    result : (x : StepResult Logged (List Item)) → RunsTo s n code body (unit_of code body e) path values r x → IsResult s n code good.claims well.0 last (started body unit path values r) x
    result x run = well.2 x (subst (λ (o : Option CodeUnit). RunsTo s n code body o path values r x) is run)

    stops : (x : StepResult Logged (List Item)) → IsResult s n code good.claims well.0 last (started body unit path values r) x → BreaksOnlyWhere Stopped x
    stops (Ok y) h = tt
    stops (Err (Faults f, left)) h = tt
    stops (Err (Broken, left)) h = record { unit = unit; there = is; at = h.at; comes = h.comes; refused = h.refused }

    -- and behind it
    ends : (x : StepResult Logged (List Item)) → RunsTo s n code body (unit_of code body e) path values r x → (y : List Item × Running Logged) → x ≡ Ok y → AreLeft last y.0 × MayBegin s path body y.1.state.image
    ends x run y is_ok =
        let h = subst (IsResult s n code good.claims well.0 last (started body unit path values r)) is_ok (result x run) in
        (h.0, (h.1.0, h.1.2, h.1.1 path body well.1))

    -- with what follows
    followed : {B : Type 0} (x : StepResult Logged (List Item)) → RunsTo s n code body (unit_of code body e) path values r x → (f : List Item → Step Logged B) → ((items : List Item) → AreLeft last items → (u : Running Logged) → BreaksOnlyWhere Stopped (f items u)) → BreaksOnlyWhere Stopped (and_then x f)
    followed x run f rest = then_breaks Stopped x f (stops x (result x run)) (λ y is_ok. rest y.0 (ends x run y is_ok).0 y.1)

  -- ---- the clauses of a transition

  module _ (body k : ℕ) (t : Transition) (its : transition s body k ≡ Some t) (path : Path) (values : List Value) where
    abbrev Fit : Bool
    Fit = are_values_of t.received values

    block : (r : Running Logged) → MayBegin s path body r.state.image → Fit ≡ true → (x : StepResult Logged (List Item)) → ReceivesTo s n code Fit body (unit_of code body (entry.Block k)) path values r x
        → (to : Option ℕ) → BreaksOnlyWhere (IsStoppedIn s n code body (entry.Block k) path values r) (and_then x (state_taken s path to))
    block r begin fit x run to =
        let u = there code body (entry.Block k) (good.units.transitions body k t its).block in
        followed [] body (entry.Block k) u.0 u.1 path values r (blocks_run s n code good.claims good.kinded body k u.0 u.1 t its values fit path r begin) x
        (subst (λ (b : Bool). ReceivesTo s n code b body (unit_of code body (entry.Block k)) path values r x) fit run)
        (state_taken s path to) (λ items left. taken s (IsStoppedIn s n code body (entry.Block k) path values r) path to items)

    delay : (r : Running Logged) → MayBegin s path body r.state.image → (timed : Bool) (o : Option Delay) → t.delay ≡ o → ((timed || is_none o) || Fit) ≡ true → (x : StepResult Logged Guard) → DelaysTo s n code path values timed body k t o r x
        → BreaksOnlyWhere (IsStoppedIn s n code body (entry.Delay k) path values r) x
    delay r begin timed None is fit x d = subst (BreaksOnlyWhere (IsStoppedIn s n code body (entry.Delay k) path values r)) (sym d) tt
    delay r begin true (Some o) is fit x d = subst (BreaksOnlyWhere (IsStoppedIn s n code body (entry.Delay k) path values r)) (sym d) tt
    delay r begin false (Some o) is fit x d =
        let u = there code body (entry.Delay k) ((good.units.transitions body k t its).delay o is) in
        subst (BreaksOnlyWhere (IsStoppedIn s n code body (entry.Delay k) path values r)) (sym d.2)
        (followed (delay_kinds o.high) body (entry.Delay k) u.0 u.1 path values r (delays_run s n code good.claims good.kinded body k u.0 u.1 t o its is values fit path r begin) d.0
        (subst (λ (b : Bool). ReceivesTo s n code b body (unit_of code body (entry.Delay k)) path values r d.0) fit d.1)
        (delay_left s o.high) (λ items left u. delayed s (IsStoppedIn s n code body (entry.Delay k) path values r) u o.high items left))

    -- behind `provided`
    module _ (timed : Bool) (fit : ((timed || is_none t.delay) || Fit) ≡ true) where
      holds : (r : Running Logged) → MayBegin s path body r.state.image → (b : Bool) (x : StepResult Logged Guard) → HoldsTo s n code path values timed body k t (Ok (b, r)) x → BreaksOnlyWhere (IsStoppedIn s n code body (entry.Delay k) path values r) x
      holds r begin true x h = delay r begin timed t.delay refl fit x h
      holds r begin false x h = subst (BreaksOnlyWhere (IsStoppedIn s n code body (entry.Delay k) path values r)) (sym h) tt

      behind : (start : Running Logged) (p : StepResult Logged (List Item)) → BreaksOnlyWhere (IsStoppedIn s n code body (entry.Guard k) path values start) p
          → ((y : List Item × Running Logged) → p ≡ Ok y → AreLeft (Boolean ∷ []) y.0 × MayBegin s path body y.1.state.image) → (x : StepResult Logged Guard)
          → HoldsTo s n code path values timed body k t (and_then p (λ items. bool_step (value_left items))) x → BreaksOnlyWhere (IsStoppedInGuard s n code body k path values start p) x
      behind start (Ok y) stops ends x h =
          let e = ends y refl in
          let b = truth y.0 e.0 y.1 in
          weaker (IsStoppedIn s n code body (entry.Delay k) path values y.1) (IsStoppedInGuard s n code body k path values start (Ok y)) (λ left stopped. inr (y, refl, stopped)) x
          (holds y.1 e.1 b.0 x (subst (λ (z : StepResult Logged Bool). HoldsTo s n code path values timed body k t z x) b.1 h))
      behind start (Err (Faults f, left)) stops ends x h = subst (BreaksOnlyWhere (IsStoppedInGuard s n code body k path values start (Err (Faults f, left)))) (sym h) tt
      behind start (Err (Broken, left)) stops ends x h = subst (BreaksOnlyWhere (IsStoppedInGuard s n code body k path values start (Err (Broken, left)))) (sym h) (inl stops)

    guard : (start : Running Logged) → MayBegin s path body start.state.image → (timed : Bool) → (asks_nothing t timed || Fit) ≡ true → (p : StepResult Logged (List Item))
        → ReceivesTo s n code (is_none t.provided || Fit) body (unit_of code body (entry.Guard k)) path values start p → (x : StepResult Logged Guard)
        → HoldsTo s n code path values timed body k t (and_then p (λ items. bool_step (value_left items))) x → BreaksOnlyWhere (IsStoppedInGuard s n code body k path values start p) x
    guard start begin timed asked p run x h = by t.provided refl asked run
      where
        unit : (u : CodeUnit) × (unit_of code body (entry.Guard k) ≡ Some u)
        unit = there code body (entry.Guard k) (good.units.transitions body k t its).guard

        by : (o : Option Expr) → t.provided ≡ o → ((is_none o && (timed || is_none t.delay)) || Fit) ≡ true → ReceivesTo s n code (is_none o || Fit) body (unit_of code body (entry.Guard k)) path values start p
            → BreaksOnlyWhere (IsStoppedInGuard s n code body k path values start p) x
        by None is fit run =
            let says = (good.kinded body (entry.Guard k) unit.0 unit.1).1 t its in
            let left : p ≡ Ok (Datum (pascal.Bool true) ∷ [], record start { frames = [] }) =
            true_guards s n code body unit.0 (says.2 is) path values start p (subst (λ (o : Option CodeUnit). RunsTo s n code body o path values start p) unit.1 run) in
            behind timed fit start p (subst (BreaksOnlyWhere (IsStoppedIn s n code body (entry.Guard k) path values start)) (sym left) tt)
            (λ y is_ok. let e : (Datum (pascal.Bool true) ∷ [], record start { frames = [] }) ≡ y = cc in subst (λ (z : List Item × Running Logged). AreLeft (Boolean ∷ []) z.0 × MayBegin s path body z.1.state.image) e ((is_true, tt), begin)) x h
        by (Some e) is fit run =
            let well = guards_run s n code good.claims good.kinded body k unit.0 unit.1 t its values fit path start begin in
            let ran = subst (λ (b : Bool). ReceivesTo s n code b body (unit_of code body (entry.Guard k)) path values start p) fit run in
            behind timed (or_true (timed || is_none t.delay) Fit fit) start p
            (stops (Boolean ∷ []) body (entry.Guard k) unit.0 unit.1 path values start well p (result (Boolean ∷ []) body (entry.Guard k) unit.0 unit.1 path values start well p ran))
            (ends (Boolean ∷ []) body (entry.Guard k) unit.0 unit.1 path values start well p ran) x h

pub never_stuck : GoodKindsAreNeverStuck
never_stuck s n code good = record {
  starts = λ job outcome left f.
      let u = there code 0 entry.Initialize good.units.begins in
      followed s n code good [] 0 entry.Initialize u.0 u.1 [] [] (fresh (log_from (bare s).core) job.budget) (initializations_run s n code good.claims good.kinded 0 u.0 u.1 [] (fresh (log_from (bare s).core) job.budget) (start_begins s))
      f.block f.runs (state_taken s [] (begins s 0).to) (λ items left. taken s (IsStoppedIn s n code 0 entry.Initialize [] [] (fresh (log_from (bare s).core) job.budget)) [] (begins s 0).to items);
  firings = λ top job i t legal at its are outcome left f.
      block s n code good i.body job.trans t its job.path (values_of job.head) (on_image s n code job.image job.budget) (legal_begins s top job.image legal job.path i at) are f.block f.runs t.to;
  guards = λ top path image i k t legal at its values timed asked budget answer g.
      guard s n code good i.body k t its path values (on_image s n code image budget) (legal_begins s top image legal path i at) timed asked g.provided g.runs g.result g.then_delays;
}
