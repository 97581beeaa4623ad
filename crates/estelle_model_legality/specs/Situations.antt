-- Legal situations: what every event of a run keeps.
use Rattle.std.specs.Prelude.{◌≡◌}
use Rattle.estelle_model.specs.Subject.{Subject, types_of_variables}
use Rattle.estelle_model.specs.Situation.{Situation}
use Rattle.estelle_model_legality.specs.Instances.{MayStand}
use Rattle.estelle_model_legality.specs.Linked.{MayBeLinked}
use Rattle.estelle_model_legality.specs.Mail.{MayBeWaiting}
use Rattle.estelle_model_legality.specs.Pending.{ArePending, AreInOrder}

pub record IsLegal (s : Subject) (g : Situation) : Type 0 where
  -- the variables of each body have the types that are declared
  pub types : g.core.types ≡ types_of_variables s
  pub instances : MayStand s g.core.instances
  pub links : MayBeLinked s g.core.instances g.core.links
  pub mail : MayBeWaiting s g
  pub pending : ArePending s g
  pub timers : AreInOrder g
