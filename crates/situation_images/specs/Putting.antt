-- What is put into the shared state, and in which situation.
use Rattle.std.specs.Prelude.{◌≡◌, ◌<◌, ◌+◌, ◌^◌, ◌++◌, List}
use Rattle.estelle_tree.specs.Paths.{Path}
use Rattle.estelle_model.specs.declared.job.Done.{Done}
use Rattle.estelle_model.specs.Subject.{Subject}
use Rattle.estelle_model.specs.Situation.{Situation}
use Rattle.effect_log.specs.declared.shared.Shared.{Shared}
use Rattle.effect_log.specs.declared.notes.Notes.{Notes}
use Rattle.effect_log.specs.Standing.{Stands}
use Rattle.effect_log.specs.Putting.{IsRan, log_of, effects_of, AnswersIn, begun_by, after_put, arrivals}
use Rattle.effect_log.specs.Rooms.{outputs_in, HasRoomFor}

-- what ran answers in this situation, for which the shared state stands, and there is room for it
pub record MayBePut (s : Subject) (shared : Shared) (notes : Notes) (done : Done) (g : Situation) : Type 0 where
  pub ran : IsRan done.outcome
  pub stands : Stands s shared g
  pub answers : AnswersIn s g done
  pub room : HasRoomFor done.outcome shared notes
  pub numbers : shared.outputs + outputs_in (log_of done.outcome) < 2 ^ 64

-- where its outputs arrive
abbrev pub arrivals_of : Subject → Situation → Done → List Path
arrivals_of s g done = arrivals (effects_of (log_of done.outcome)) (begun_by s g done)

-- the shared state stands for the situation after it, and its outputs, its drops and where outputs arrived are noted
pub record IsPutIn (s : Subject) (g : Situation) (shared : Shared) (notes new : Notes) (done : Done) : Type 0 where
  pub stands : Stands s shared (after_put s g done).situation
  pub outs : new.outs.items ≡ notes.outs.items ++ (after_put s g done).outs
  pub drops : new.drops.items ≡ notes.drops.items ++ (after_put s g done).drops
  pub arrivals : new.arrivals.items ≡ notes.arrivals.items ++ arrivals_of s g done
