-- What stops jobs and guards by a code of good kinds.
use Rattle.std.specs.Prelude.{◌≡◌, ◌⊎◌, ◌&&◌, ◌||◌, ℕ, Bool, true, is_none, IsTrue, List, [], ◌∷◌, Some, Ok, Err}
use Rattle.std.specs.FinMap as map
use Rattle.pascal_values.specs.declared.value.Value.{Value}
use Rattle.pascal_values.specs.declared.value.Value.TheVariants as pascal
use Rattle.estelle_tree.specs.Paths.{Path}
use Rattle.body_code.specs.declared.unit.Entry.{Entry}
use Rattle.body_code.specs.declared.unit.Entry.TheVariants as entry
use Rattle.body_code.specs.declared.unit.CodeUnit.{CodeUnit}
use Rattle.body_code.specs.Units.{unit_of}
use Rattle.estelle_model.specs.declared.image.Image.{Image}
use Rattle.estelle_model.specs.declared.job.Guard.{Guard}
use Rattle.estelle_model.specs.declared.job.Job.{Job}
use Rattle.estelle_model.specs.declared.job.Outcome.{Outcome}
use Rattle.estelle_model.specs.Belonging.{are_values_of}
use Rattle.estelle_model.specs.Blocks.{fresh}
use Rattle.estelle_model.specs.Computed.{core_of, log_from, values_of}
use Rattle.estelle_model.specs.Core.{Instance}
use Rattle.estelle_model.specs.Firing.{bare}
use Rattle.estelle_model.specs.States.{Logged}
use Rattle.estelle_model.specs.Stops.{Broken}
use Rattle.estelle_model.specs.Steps.{Running, StepResult, and_then}
use Rattle.estelle_model.specs.Transitions.{Transition}
use Rattle.estelle_model.specs.Subject.{Subject, begins, transition}
use Rattle.estelle_model_legality.specs.Jobs.{IsLegalImage}
use Rattle.body_numbers.specs.declared.numbers.Numbers.{Numbers}
use Rattle.body_machine.specs.declared.item.Item.{Item}
use Rattle.body_machine.specs.declared.item.Item.TheVariants.{Datum}
use Rattle.body_machine.specs.Machine.{Machine, Goes}
use Rattle.body_machine.specs.Steps.{Comes}
use Rattle.body_machine_meaning.specs.Executed.{started, state_taken, on_image, RunsTo, Fires, Starts, Guards}
use Rattle.body_kinds.specs.Kinded.{SaysTrue}
use Rattle.body_kinds.specs.Good.{HasGoodKinds}
use Rattle.body_machine_kinds.specs.Laws.{IsRefused}

-- a rule is broken only where this holds of the units that are left
abbrev pub BreaksOnlyWhere : {A : Type 0} → (ℕ → Type 0) → StepResult Logged A → Type 0
BreaksOnlyWhere P (Err (Broken, left)) = P left
BreaksOnlyWhere P _ = Unit {0}

-- neither `provided` nor a delay is evaluated
abbrev pub asks_nothing : Transition → (timed : Bool) → Bool
asks_nothing t timed = is_none t.provided && (timed || is_none t.delay)

module _ (s : Subject) (n : Numbers) (code : List CodeUnit) where
  -- the unit of a body that runs for itself comes to an instruction that asks for more than kinds, and that is refused
  pub record IsStoppedIn (body : ℕ) (e : Entry) (path : Path) (values : List Value) (start : Running Logged) (left : ℕ) : Type 0 where
    pub unit : CodeUnit
    pub there : unit_of code body e ≡ Some unit
    pub at : Machine
    pub comes : Comes s n code (Goes (started body unit path values start)) (Goes at)
    pub refused : IsRefused s n code at left

  -- so does the unit of `provided`, or behind it that of the delay
  abbrev pub IsStoppedInGuard : (body k : ℕ) → Path → List Value → Running Logged → (provided : StepResult Logged (List Item)) → (left : ℕ) → Type 0
  IsStoppedInGuard body k path values start provided left =
      IsStoppedIn body (entry.Guard k) path values start left ⊎ ((x : List Item × Running Logged) × (provided ≡ Ok x) × IsStoppedIn body (entry.Delay k) path values x.1 left)

  -- The start, and firings and guards of what stands in a legal image and receives what it names, break a rule only there.
  pub record IsNeverStuck : Type 0 where
    pub starts : (job : Job) (outcome : Outcome) (left : ℕ) (f : Starts s n code job outcome left) →
        BreaksOnlyWhere (IsStoppedIn 0 entry.Initialize [] [] (fresh (log_from (bare s).core) job.budget)) (and_then f.block (state_taken s [] (begins s 0).to))
    pub firings : (top : Path) (job : Job) (i : Instance) (t : Transition) → IsLegalImage s top job.image → map.get (core_of s job.image).instances job.path ≡ Some i →
        transition s i.body job.trans ≡ Some t → IsTrue (are_values_of t.received (values_of job.head)) → (outcome : Outcome) (left : ℕ) (f : Fires s n code job i.body t outcome left) →
        BreaksOnlyWhere (IsStoppedIn i.body (entry.Block job.trans) job.path (values_of job.head) (on_image s n code job.image job.budget)) (and_then f.block (state_taken s job.path t.to))
    pub guards : (top path : Path) (image : Image) (i : Instance) (k : ℕ) (t : Transition) → IsLegalImage s top image → map.get (core_of s image).instances path ≡ Some i →
        transition s i.body k ≡ Some t → (values : List Value) (timed : Bool) → IsTrue (asks_nothing t timed || are_values_of t.received values) → (budget : ℕ) (answer : Guard) (g : Guards s n code path image values timed budget i.body k t answer) →
        BreaksOnlyWhere (IsStoppedInGuard i.body k path values (on_image s n code image budget) g.provided) g.result

-- ---- laws

-- codes of good kinds
abbrev pub GoodKindsAreNeverStuck : Type 0
GoodKindsAreNeverStuck = (s : Subject) (n : Numbers) (code : List CodeUnit) → HasGoodKinds s n code → IsNeverStuck s n code

-- the guard of a transition without `provided` leaves true, whatever it is given
abbrev pub TrueGuardsSayTrue : Type 0
TrueGuardsSayTrue = (s : Subject) (n : Numbers) (code : List CodeUnit) (body : ℕ) (unit : CodeUnit) → SaysTrue unit → (path : Path) (values : List Value) (r : Running Logged) (result : StepResult Logged (List Item)) →
    RunsTo s n code body (Some unit) path values r result → result ≡ Ok (Datum (pascal.Bool true) ∷ [], record r { frames = [] })
