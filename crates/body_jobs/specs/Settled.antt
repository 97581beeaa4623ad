-- Guards of which nothing has to be evaluated.
use Rattle.std.specs.Prelude.{◌≡◌, ℕ, Bool, ◌&&◌, ◌||◌, is_none, if◌then◌else◌, Option, Some, None}
use Rattle.std.specs.FinMap as map
use Rattle.estelle_tree.specs.Paths.{Path}
use Rattle.estelle_model.specs.declared.image.Image.{Image}
use Rattle.estelle_model.specs.declared.image.Part.{Part}
use Rattle.estelle_model.specs.declared.image.Interaction.{Interaction}
use Rattle.estelle_model.specs.declared.job.Guard.{Guard}
use Rattle.estelle_model.specs.declared.job.Guard.TheVariants.{Off}
use Rattle.estelle_model.specs.States.{Logged, on_log}
use Rattle.estelle_model.specs.Transitions.{Transition}
use Rattle.estelle_model.specs.Subject.{Subject, transition}
use Rattle.estelle_model.specs.Clauses.{at_once}
use Rattle.estelle_model.specs.Firing.{is_in_state}
use Rattle.estelle_model.specs.Jobs.{instance_of}
use Rattle.estelle_model.specs.Computed.{core_of}
use Rattle.estelle_model.specs.Asked.{is_received}

-- the image has this part at a path
abbrev pub HasPart : Subject → Image → Path → Part → Type 0
HasPart s image p part = map.get (core_of s image).instances p ≡ Some (instance_of part)

-- there is no `provided`, and no delay unless a timer runs in its place
abbrev pub is_bare : Bool → Transition → Bool
is_bare timed t = is_none t.provided && (timed || is_none t.delay)

-- of an instance in a state
abbrev pub settled_on : Subject → Option Interaction → Bool → Option ℕ → Option Transition → Option Guard
settled_on s head timed state None = Some Off
settled_on s head timed state (Some t) = if is_in_state t.from state && is_received t.when head then (if is_bare timed t then Some (at_once Logged on_log s) else None) else Some Off

-- the guard, where nothing is to be evaluated for it
abbrev pub settled : Subject → Part → ℕ → Option Interaction → Bool → Option Guard
settled s part n head timed = settled_on s head timed part.state (transition s part.body n)
