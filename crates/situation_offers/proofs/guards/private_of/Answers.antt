use Rattle.std.proofs.Common.{subst, Option}
use Rattle.std.specs.Prelude.{IfSome}
use Rattle.estelle_model.specs.declared.image.Image.{Image}
use Rattle.estelle_model_legality.proofs.Systems.{legal_tree}
use Rattle.situation_offers.specs.Asked.{IsImageOf}
use Rattle.situation_offers.proofs.guards.private_of.Goals as goal

pub returns-in-Some : goal.returns-in-Some
returns-in-Some c = λ g stands legal shown. subst (λ (o : Option Image). IfSome o (IsImageOf c.args.program.now g c.args.path.now)) c.in-Some.is shown

pub returns-in-None : goal.returns-in-None
returns-in-None c = λ g stands legal shown. c.of.ensures g stands (legal_tree c.args.program.now g.core.instances legal.instances)
