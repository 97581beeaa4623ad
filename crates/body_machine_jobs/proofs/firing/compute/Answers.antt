use Rattle.std.proofs.Common.{Ok, ap, ◌∙◌, arith, List}
use Rattle.std.specs.Prelude.{option_map}
use Rattle.estelle_model.specs.declared.image.Part.{Part}
use Rattle.estelle_model.specs.Core.{Instance}
use Rattle.body_state.specs.InOrder.{instance_in}
use Rattle.body_machine_jobs.proofs.FiringRuns.{started, executed, none_executed}
use Rattle.body_machine_jobs.proofs.firing.compute.Goals as goal

pub returns-then-trans-eq0 : goal.returns-then-trans-eq0
returns-then-trans-eq0 c = λ ticket. started c.args.program.now c.args.numbers.now c.args.code.now c.args.path.now c.args.image c.args.head c.args.budget c.start.result c.args.trans ticket c.if-trans-eq0.true c.start.ensures

pub returns-in-None : goal.returns-in-None
returns-in-None c = λ ticket.
    none_executed c.args.program.now c.args.numbers.now c.args.code.now c.args.path.now c.args.image c.args.head c.args.budget (Ok c.nothing.result) (c.requires (omega (arith, c.if-trans-eq0.false))) c.args.trans ticket c.nothing.result c.if-trans-eq0.false
    (c.in-None.ensures ∙ ap (λ (ps : List Part). option_map (λ (i : Instance). i.body) (instance_in ps c.args.path.now)) c.as_slice.ensures)

pub returns-in-Some : goal.returns-in-Some
returns-in-Some c = λ ticket.
    executed c.args.program.now c.args.numbers.now c.args.code.now c.args.path.now c.args.image c.args.head c.args.budget c.fire.result (c.requires (omega (arith, c.if-trans-eq0.false))) c.args.trans ticket c.in-Some.body c.if-trans-eq0.false
    (c.in-Some.ensures ∙ ap (λ (ps : List Part). option_map (λ (i : Instance). i.body) (instance_in ps c.args.path.now)) c.as_slice.ensures) (c.fire.ensures ticket)
