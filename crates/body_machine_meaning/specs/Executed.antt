-- What a code makes of a job and of a guard: the machine runs their units, each in a frame of its own.
use Rattle.std.specs.Prelude.{◌≡◌, ◌&&◌, ◌||◌, ℕ, zero, suc, Bool, true, false, is_none, List, [], ◌∷◌, length, Option, Some, None, Ok, Err}
use Rattle.std.specs.FinMap as map
use Rattle.pascal_values.specs.declared.value.Value.{Value}
use Rattle.estelle_tree.specs.Paths.{Path}
use Rattle.estelle_tree.specs.declared.tree.clause.DelayHigh.{DelayHigh}
use Rattle.estelle_tree.specs.declared.tree.clause.DelayHigh.TheVariants as high
use Rattle.body_code.specs.declared.unit.CodeUnit.{CodeUnit}
use Rattle.body_code.specs.declared.unit.Entry.TheVariants as entry
use Rattle.body_code.specs.Units.{unit_of}
use Rattle.estelle_model.specs.declared.image.Image.{Image}
use Rattle.estelle_model.specs.declared.image.Interaction.{Interaction}
use Rattle.estelle_model.specs.declared.job.Guard.{Guard}
use Rattle.estelle_model.specs.declared.job.Guard.TheVariants.{Off}
use Rattle.estelle_model.specs.declared.job.Job.{Job}
use Rattle.estelle_model.specs.declared.job.Outcome.{Outcome}
use Rattle.estelle_model.specs.Core.{Instance}
use Rattle.estelle_model.specs.States.{Logged, on_log}
use Rattle.estelle_model.specs.Stops.{Broken}
use Rattle.estelle_model.specs.Steps.{Running, StepResult, Step, Do, and_then, pure, breaks, checked}
use Rattle.estelle_model.specs.Expressions.{bool_step}
use Rattle.estelle_model.specs.Plans.{carry}
use Rattle.estelle_model.specs.Actions.{enters_state}
use Rattle.estelle_model.specs.Blocks.{fresh}
use Rattle.estelle_model.specs.Transitions.{Transition, Delay}
use Rattle.estelle_model.specs.Belonging.{are_values_of}
use Rattle.estelle_model.specs.Clauses.{from_one, from_both, at_once, answered}
use Rattle.estelle_model.specs.Firing.{bare, is_in_state}
use Rattle.estelle_model.specs.Computed.{core_of, log_from, values_of, IsMadeBy}
use Rattle.estelle_model.specs.Asked.{is_received}
use Rattle.estelle_model.specs.Subject.{Subject, begins, transition}
use Rattle.body_numbers.specs.declared.numbers.Numbers.{Numbers}
use Rattle.body_machine.specs.declared.item.Item.{Item}
use Rattle.body_machine.specs.declared.item.Item.TheVariants.{Datum}
use Rattle.body_machine.specs.declared.activation.Return.TheVariants.{ToNone}
use Rattle.body_machine.specs.Machine.{Machine, Next, Goes, Ends, Stops}
use Rattle.body_machine.specs.Frames.{frame_with}
use Rattle.body_machine.specs.Steps.{begun, Comes}

-- the machine as a unit begins for itself, with these values for the first of its locals
abbrev pub started : (body : ℕ) → CodeUnit → Path → List Value → Running Logged → Machine
started body unit path values running = record {
  running = record running { frames = frame_with unit.locals (length values) values ∷ [] };
  active = begun body unit path 0 [] ToNone;
  waiting = [];
}

-- what is left on the stack by a run that has come to an end
abbrev pub ended : Next → Option (StepResult Logged (List Item))
ended (Goes m) = None
ended (Ends items running) = Some (Ok (items, running))
ended (Stops by left) = Some (Err (by, left))

-- the one value that is left
abbrev pub value_left : List Item → Step Logged Value
value_left (Datum v ∷ []) = pure v
value_left _ = breaks

module _ (s : Subject) where
  -- a block is over, and the instance takes its state
  abbrev pub state_taken : Path → Option ℕ → List Item → Do Logged
  state_taken path to items = carry Logged on_log (enters_state s path to)

  -- a delay by the values that are left, the second one on top
  abbrev pub delay_left : Option DelayHigh → List Item → Step Logged Guard
  delay_left None (Datum v ∷ []) = checked (from_both Logged on_log s v v)
  delay_left (Some high.Star) (Datum v ∷ []) = checked (from_one Logged on_log s v)
  delay_left (Some (high.Expr e)) (Datum w ∷ (Datum v ∷ [])) = checked (from_both Logged on_log s v w)
  delay_left _ _ = breaks

module _ (s : Subject) (n : Numbers) (code : List CodeUnit) where
  -- ---- units

  -- what is come to by a unit of a body that runs for itself; one that is not there breaks a rule
  abbrev pub RunsTo : (body : ℕ) → Option CodeUnit → Path → List Value → Running Logged → StepResult Logged (List Item) → Type 0
  RunsTo body None path values start result = result ≡ Err (Broken, start.left)
  RunsTo body (Some unit) path values start result = (x : Next) × Comes s n code (Goes (started body unit path values start)) x × (ended x ≡ Some result)

  -- the same, where what was received may be received: else a rule is broken
  abbrev pub ReceivesTo : Bool → (body : ℕ) → Option CodeUnit → Path → List Value → Running Logged → StepResult Logged (List Item) → Type 0
  ReceivesTo false body unit path values start result = result ≡ Err (Broken, start.left)
  ReceivesTo true body unit path values start result = RunsTo body unit path values start result

  -- the instances and links that an image shows, with the whole budget
  abbrev pub on_image : Image → ℕ → Running Logged
  on_image image budget = fresh (log_from (core_of s image)) budget

  -- ---- jobs

  -- the block of the transition runs on the values of its interaction
  pub record Fires (job : Job) (body : ℕ) (t : Transition) (outcome : Outcome) (left : ℕ) : Type 0 where
    pub block : StepResult Logged (List Item)
    pub runs : ReceivesTo (are_values_of t.received (values_of job.head)) body (unit_of code body (entry.Block job.trans)) job.path (values_of job.head) (on_image job.image job.budget) block
    pub made : IsMadeBy s (and_then block (state_taken s job.path t.to)) outcome left

  -- the initialization of the specification runs on its instance alone
  pub record Starts (job : Job) (outcome : Outcome) (left : ℕ) : Type 0 where
    pub block : StepResult Logged (List Item)
    pub runs : RunsTo 0 (unit_of code 0 entry.Initialize) [] [] (fresh (log_from (bare s).core) job.budget) block
    pub made : IsMadeBy s (and_then block (state_taken s [] (begins s 0).to)) outcome left

  -- where there is no such transition, nothing is asked
  abbrev pub FiresIf : Job → (body : ℕ) → Option Transition → Outcome → ℕ → Type 0
  FiresIf job body None outcome left = Unit {0}
  FiresIf job body (Some t) outcome left = Fires job body t outcome left

  abbrev pub FiresOf : Job → Option Instance → Outcome → ℕ → Type 0
  FiresOf job None outcome left = Unit {0}
  FiresOf job (Some i) outcome left = FiresIf job i.body (transition s i.body job.trans) outcome left

  -- what the code makes of the job with a transition's number; transition 0 is the initialization of the specification
  abbrev pub Executes : Job → (trans : ℕ) → Outcome → ℕ → Type 0
  Executes job zero outcome left = Starts job outcome left
  Executes job (suc k) outcome left = FiresOf job (map.get (core_of s job.image).instances job.path) outcome left

  -- ---- guards

  -- where no timer runs in its place, the delay is evaluated
  abbrev pub DelaysTo : Path → List Value → Bool → (body trans : ℕ) → Transition → Option Delay → Running Logged → StepResult Logged Guard → Type 0
  DelaysTo path values timed body k t None start result = result ≡ Ok (at_once Logged on_log s, start)
  DelaysTo path values true body k t (Some d) start result = result ≡ Ok (at_once Logged on_log s, start)
  DelaysTo path values false body k t (Some d) start result = (bounds : StepResult Logged (List Item))
      × ReceivesTo (are_values_of t.received values) body (unit_of code body (entry.Delay k)) path values start bounds
      × (result ≡ and_then bounds (delay_left s d.high))

  abbrev pub HoldsTo : Path → List Value → Bool → (body trans : ℕ) → Transition → StepResult Logged Bool → StepResult Logged Guard → Type 0
  HoldsTo path values timed body k t (Err e) result = result ≡ Err e
  HoldsTo path values timed body k t (Ok (false, start)) result = result ≡ Ok (Off, start)
  HoldsTo path values timed body k t (Ok (true, start)) result = DelaysTo path values timed body k t t.delay start result

  -- `provided` is evaluated, and where it is true the delay; what was received is tested where one of them is written
  pub record Guards (path : Path) (image : Image) (values : List Value) (timed : Bool) (budget body trans : ℕ) (t : Transition) (answer : Guard) : Type 0 where
    pub provided : StepResult Logged (List Item)
    pub runs : ReceivesTo (is_none t.provided || are_values_of t.received values) body (unit_of code body (entry.Guard trans)) path values (on_image image budget) provided
    pub result : StepResult Logged Guard
    pub then_delays : HoldsTo path values timed body trans t (and_then provided (λ items. bool_step (value_left items))) result
    pub answers : answer ≡ answered result

  abbrev pub GuardsWhere : Bool → Path → Image → Option Interaction → Bool → (budget body trans : ℕ) → Transition → Guard → Type 0
  GuardsWhere false path image head timed budget body k t answer = answer ≡ Off
  GuardsWhere true path image head timed budget body k t answer = Guards path image (values_of head) timed budget body k t answer

  abbrev pub GuardsIf : Path → Image → Option Interaction → Bool → (budget trans : ℕ) → Instance → Option Transition → Guard → Type 0
  GuardsIf path image head timed budget k i None answer = answer ≡ Off
  GuardsIf path image head timed budget k i (Some t) answer = GuardsWhere (is_in_state t.from i.state && is_received t.when head) path image head timed budget i.body k t answer

  abbrev pub GuardsOf : Path → Image → Option Interaction → Bool → (budget trans : ℕ) → Option Instance → Guard → Type 0
  GuardsOf path image head timed budget k None answer = answer ≡ Off
  GuardsOf path image head timed budget k (Some i) answer = GuardsIf path image head timed budget k i (transition s i.body k) answer

  -- what the code makes of the guard of the instance's transition with a number
  abbrev pub ExecutesGuard : Path → Image → (trans : ℕ) → Option Interaction → (timed : Bool) → (budget : ℕ) → Guard → Type 0
  ExecutesGuard path image k head timed budget answer = GuardsOf path image head timed budget k (map.get (core_of s image).instances path) answer
