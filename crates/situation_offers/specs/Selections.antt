-- What a system selects, and whether anything is enabled (ISO/IEC 9074: selection, enabled transitions).
use Rattle.std.specs.Prelude.{◌≡◌, ℕ, IsTrue, List}
use Rattle.estelle_tree.specs.declared.transition.Pair.{Pair}
use Rattle.estelle_tree.specs.declared.transition.Wanted.{Wanted}
use Rattle.estelle_tree.specs.Paths.{Path}
use Rattle.estelle_model.specs.Subject.{Subject}
use Rattle.estelle_model.specs.Situation.{Situation}
use Rattle.estelle_model.specs.Firing.{guard}
use Rattle.estelle_model.specs.Delays.{is_on, wanted, renew}
use Rattle.estelle_model.specs.Selection.{Selects}
use Rattle.estelle_model.specs.Choosers.{Draw}
use Rattle.estelle_model.specs.Schedule.{Chosen as ByChooser}
use Rattle.estelle_model.specs.Runs.{NoGuardFaults, IsFirstFault}
use Rattle.delay_timers.specs.Moments.{AreDifferent}
use Rattle.situation_offers.specs.declared.selection.View.{View}
use Rattle.situation_offers.specs.declared.selection.SelectFault.{SelectFault}
use Rattle.situation_offers.specs.declared.selection.SelectFault.TheVariants as refusal
use Rattle.situation_offers.specs.Asked.{IsShown}

-- the view is of this legal situation
abbrev pub IsViewOf : {G : Type 0} → Situation → View G → Type 0
IsViewOf g view = IsShown view.program.now view.shared.now view.timers.now g

-- ---- what is selected

-- no guard of the system faults, and once its timers are renewed at the moment the chooser chooses this, which may be selected then
pub record IsSelection {C : Type 0} (draw : Draw C) (s : Subject) (budget : ℕ) (g : Situation) (system : Path) (now : ℕ) (before after : C) (takes : List Pair) (wants : List Wanted) : Type 0 where
  pub sound : NoGuardFaults s budget g system
  pub chosen : ByChooser draw s budget (renew s budget g system now) system before takes after
  pub selects : Selects s budget (renew s budget g system now) system takes
  -- these transitions want timers, each once
  pub wanted : wants ≡ wanted s budget g system
  pub different : AreDifferent wants

-- the first guard of the system that faults, where it is one that refuses
abbrev pub IsRefusal : Subject → ℕ → Situation → Path → SelectFault → Type 0
IsRefusal s budget g system (refusal.Guard m n kind) = IsFirstFault s budget g system m n kind
IsRefusal s budget g system refusal.Memory = Unit {0}

-- where a guard refuses, the chooser is as before
abbrev pub LeavesChooser : {C : Type 0} → C → C → SelectFault → Type 0
LeavesChooser before after (refusal.Guard m n kind) = after ≡ before
LeavesChooser before after refusal.Memory = Unit {0}

-- ---- what is enabled

-- some transition of the instance is enabled
abbrev pub EnablesSome : Subject → ℕ → Situation → Path → Type 0
EnablesSome s budget g m = (n : ℕ) × IsTrue (is_on (guard s budget g m n))

-- some transition of some instance is enabled
abbrev pub SomeIsEnabled : Subject → ℕ → Situation → Type 0
SomeIsEnabled s budget g = (m : Path) × EnablesSome s budget g m
