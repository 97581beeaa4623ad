use Rattle.std.proofs.Common.{ap, ◌∙◌, arith, List}
use Rattle.std.specs.Prelude.{option_map}
use Rattle.estelle_model.specs.declared.image.Part.{Part}
use Rattle.estelle_model.specs.Core.{Instance}
use Rattle.body_state.specs.InOrder.{instance_in}
use Rattle.body_walker.proofs.FiringLemmas.{computed, none_computed}
use Rattle.body_walker.proofs.firing.compute.Goals as goal

pub returns-in-None : goal.returns-in-None
returns-in-None c =
    none_computed c.args.program.now c.args.path.now c.args.trans c.args.image c.args.head c.args.budget (c.requires (omega (arith, c.if-trans-eq0.false))) c.nothing.result c.if-trans-eq0.false
    (c.in-None.ensures ∙ ap (λ (ps : List Part). option_map (λ (i : Instance). i.body) (instance_in ps c.args.path.now)) c.as_slice.ensures)

pub returns-in-Some : goal.returns-in-Some
returns-in-Some c =
    computed c.args.program.now c.args.path.now c.args.trans c.args.image c.args.head c.args.budget (c.requires (omega (arith, c.if-trans-eq0.false))) c.fire.result c.in-Some.body c.if-trans-eq0.false
    (c.in-Some.ensures ∙ ap (λ (ps : List Part). option_map (λ (i : Instance). i.body) (instance_in ps c.args.path.now)) c.as_slice.ensures) c.fire.ensures
