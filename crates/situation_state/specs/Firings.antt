-- What a firing does to a state.
use Rattle.std.specs.Prelude.{◌≡◌, Option, Some, None}
use Rattle.std.specs.FinMap as map
use Rattle.pascal_values.specs.declared.fault.Fault.{Fault}
use Rattle.estelle_tree.specs.Timers.{pair}
use Rattle.estelle_model.specs.declared.job.Done.{Done}
use Rattle.estelle_model.specs.declared.job.Outcome.{Outcome}
use Rattle.estelle_model.specs.declared.job.Outcome.TheVariants as outcome
use Rattle.estelle_model.specs.Situation.{Situation}
use Rattle.effect_log.specs.Standing.{Stands}
use Rattle.effect_log.specs.Putting.{after_put}
use Rattle.situation_images.specs.Putting.{MayBePut, arrivals_of}
use Rattle.situation_state.specs.declared.state.State.{State}
use Rattle.situation_state.specs.At.{NothingNoted}

-- the fault, if it is one
abbrev pub failure_of : Outcome → Option Fault
failure_of (outcome.Ran image effects) = None
failure_of (outcome.Faulted kind) = Some kind

-- what ran answers in a situation for which the stores stand, there is room for it, and nothing is noted
pub record MayFire (g : Situation) (c : State) (done : Done) : Type 0 where
  pub may : MayBePut c.program.now c.shared c.notes done g
  pub empty : NothingNoted c.notes

-- the stores stand for the situation after it, its timer is gone, and its outputs, its drops and where outputs arrived are noted
pub record IsFired (g : Situation) (old new : State) (done : Done) : Type 0 where
  pub stands : Stands old.program.now new.shared (after_put old.program.now g done).situation
  pub timers : new.timers ≡ map.remove old.timers (pair done.path done.trans)
  pub outs : new.notes.outs.items ≡ (after_put old.program.now g done).outs
  pub drops : new.notes.drops.items ≡ (after_put old.program.now g done).drops
  pub arrivals : new.notes.arrivals.items ≡ arrivals_of old.program.now g done
  pub rest : new ≡ record old { shared = new.shared; timers = new.timers; notes = new.notes }
