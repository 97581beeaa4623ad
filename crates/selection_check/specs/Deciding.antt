-- What is decided of some of the instances.
use Rattle.std.specs.Prelude.{ℕ, List, Contains}
use Rattle.estelle_tree.specs.declared.transition.Pair.{Pair}
use Rattle.estelle_tree.specs.Paths.{Path}
use Rattle.estelle_model.specs.Subject.{Subject}
use Rattle.estelle_model.specs.Situation.{Situation}
use Rattle.estelle_model.specs.Selection.{Selects}

-- one of these instances may select them
pub record SelectsOne (s : Subject) (budget : ℕ) (g : Situation) (ms : List Path) (takes : List Pair) : Type 0 where
  pub path : Path
  pub among : Contains ms path
  pub selects : Selects s budget g path takes
