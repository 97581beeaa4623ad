use Rattle.std.proofs.Common.{◌≡◌, ap, subst}
use Rattle.std.specs.Prelude.{IfOk}
use Rattle.std.specs.Option.{option_copied}
use Rattle.estelle_model.specs.Jobs.{instance_of}
use Rattle.estelle_model.specs.Asked.{guard_by}
use Rattle.body_walker.proofs.plain.of_part.Goals as goal

pub returns-in-None : goal.returns-in-None
returns-in-None c = ap (guard_by c.args.program.now c.args.path.now c.args.view.now (option_copied c.args.head) c.args.timed c.args.budget (instance_of c.args.part.now)) c.in-None.ensures

pub returns-in-Some : goal.returns-in-Some
returns-in-Some c = subst (λ o. IfOk c.of_transition.result (λ answer. answer ≡ guard_by c.args.program.now c.args.path.now c.args.view.now (option_copied c.args.head) c.args.timed c.args.budget (instance_of c.args.part.now) o)) c.in-Some.ensures c.of_transition.ensures
