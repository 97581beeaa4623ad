-- How far a block has run.
use Rattle.std.specs.Prelude.{ℕ, List, [], ◌∷◌, ◌++◌}
use Rattle.pascal_values.specs.declared.value.Value.{Value}
use Rattle.estelle_tree.specs.declared.link.Link.{Link}
use Rattle.estelle_model.specs.Core.{Instances}
use Rattle.estelle_model.specs.Effects.{StatementEffect, instances_after, links_after}
use Rattle.estelle_model.specs.States.{Logged}
use Rattle.estelle_model.specs.Steps.{Running}
use Rattle.estelle_model.specs.Subject.{Subject, types_of_variables}

-- what an evaluator has: the instances and links as they are now, and the effects so far
pub record Progress : Type 0 where
  -- the specification whose bodies the instances are of
  pub subject : Subject
  pub instances : Instances
  pub links : List Link
  pub log : List StatementEffect
  pub frames : List Value
  -- the units left
  pub left : ℕ

-- as a run on a log
abbrev pub running : Progress → Running Logged
running w = record {
  state = record { image = record { instances = w.instances; links = w.links; types = types_of_variables w.subject }; log = w.log };
  frames = w.frames;
  left = w.left;
}

-- after an effect
abbrev pub after : StatementEffect → Progress → Progress
after e w = record w { instances = instances_after e w.instances; links = links_after e w.links; log = w.log ++ e ∷ [] }
