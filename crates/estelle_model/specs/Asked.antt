-- A guard that is computed apart from the situation: what is asked, what is computed, and where that is the guard.
use Rattle.std.specs.Prelude.{◌≡◌, ℕ, Bool, true, false, ◌&&◌, if◌then◌else◌, Option, Some, None}
use Rattle.std.specs.FinMap as map
use Rattle.estelle_tree.specs.Paths.{Path}
use Rattle.estelle_model.specs.declared.image.Image.{Image}
use Rattle.estelle_model.specs.declared.image.Interaction.{Interaction}
use Rattle.estelle_model.specs.declared.job.Guard.{Guard}
use Rattle.estelle_model.specs.declared.job.Guard.TheVariants.{Off}
use Rattle.estelle_model.specs.Core.{Instance}
use Rattle.estelle_model.specs.States.{Logged, on_log}
use Rattle.estelle_model.specs.Blocks.{fresh}
use Rattle.estelle_model.specs.Transitions.{Transition, When}
use Rattle.estelle_model.specs.Subject.{Subject, transition}
use Rattle.estelle_model.specs.Clauses.{guard_step, answered}
use Rattle.estelle_model.specs.Situation.{Situation}
use Rattle.estelle_model.specs.Queues.{Found, NotNeeded, Head, Absent, is_named}
use Rattle.estelle_model.specs.Firing.{transition_at, is_in_state, guard}
use Rattle.estelle_model.specs.Jobs.{private, Shows, MayActAlone, found_by}
use Rattle.estelle_model.specs.Computed.{core_of, log_from, values_of}

-- the head that a transition finds, where it needs one, whatever its name
abbrev pub head_of : Found → Option Interaction
head_of NotNeeded = None
head_of (Head i) = Some i
head_of Absent = None

-- this is what is known of a transition of an instance in a situation
pub record IsAskedIn (s : Subject) (g : Situation) (p : Path) (image : Image) (n : ℕ) (head : Option Interaction) (timed : Bool) : Type 0 where
  pub legal : MayActAlone s g.core p
  pub private : Shows image (private s g.core p)
  -- the head, if it needs one and finds it
  pub finds : head ≡ head_of (found_by s g p (transition_at s n (map.get g.core.instances p)))
  -- a timer runs
  pub runs : timed ≡ map.contains_key g.timers (record { path = p; trans = n })

-- the guard in each such situation
abbrev pub IsGuard : Subject → Path → Image → ℕ → Option Interaction → Bool → ℕ → Guard → Type 0
IsGuard s p image n head timed budget answer = (g : Situation) → IsAskedIn s g p image n head timed → answer ≡ guard s budget g p n

-- ---- what is computed: `provided` and the delay are evaluated on a log that begins with what the image shows

-- the transition needs no interaction, or the head is the one that it names
abbrev pub is_received : Option When → Option Interaction → Bool
is_received None head = true
is_received (Some w) None = false
is_received (Some w) (Some i) = is_named i (Some w)

-- `provided` and the delay on a log
abbrev pub guard_run : Subject → Path → Image → Option Interaction → Bool → ℕ → Transition → Guard
guard_run s p image head timed budget t = answered (guard_step Logged on_log s p t (values_of head) timed (fresh (log_from (core_of s image)) budget))

abbrev pub guard_by : Subject → Path → Image → Option Interaction → Bool → ℕ → Instance → Option Transition → Guard
guard_by s p image head timed budget i None = Off
guard_by s p image head timed budget i (Some t) = if is_in_state t.from i.state && is_received t.when head then guard_run s p image head timed budget t else Off

abbrev pub guard_for : Subject → Path → Image → ℕ → Option Interaction → Bool → ℕ → Option Instance → Guard
guard_for s p image n head timed budget None = Off
guard_for s p image n head timed budget (Some i) = guard_by s p image head timed budget i (transition s i.body n)

-- the guard of the instance's transition with this number
abbrev pub guard_of_image : Subject → Path → Image → ℕ → Option Interaction → Bool → ℕ → Guard
guard_of_image s p image n head timed budget = guard_for s p image n head timed budget (map.get (core_of s image).instances p)
