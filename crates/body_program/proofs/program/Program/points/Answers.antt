use Rattle.std.proofs.Common.{◌∙◌, ap, List}
use Rattle.std.specs.Prelude.{length}
use Rattle.estelle_model.specs.declared.meaning.InteractionPoint.{InteractionPoint}
use Rattle.estelle_model.specs.Subject.{Subject, ips_of}
use Rattle.body_program.proofs.program.Program.points.Goals as goal

pub returns : goal.returns
returns c = ap (λ (ps : List InteractionPoint). length ps) (c.ips.ensures ∙ ap (λ (u : Subject). ips_of u c.args.number) c.self.view_is)
