use Rattle.std.proofs.Common.{sym, subst}
use Rattle.estelle_model.specs.declared.job.Job.{Job}
use Rattle.estelle_model.specs.Subject.{Subject}
use Rattle.estelle_model_legality.specs.Jobs.{IsJob}
use Rattle.estelle_model_legality.specs.Choices.{AreTree}
use Rattle.estelle_model_legality.proofs.Systems.{legal_tree}
use Rattle.estelle_model_legality.proofs.Conditions.{taken_meets}
use Rattle.situation_images.proofs.jobs.job_of.Goals as goal

pub returns-clause-job : goal.returns-clause-job
returns-clause-job c = λ g stands legal pending.
    let s : Subject = c.args.program.now in
    let tree : AreTree s g.core.instances = legal_tree s g.core.instances legal.instances in
    let image = c.in_ok-image_of.ensures.image g stands tree in
    let head = c.in_ok-head.ensures g c.args.ticket c.args.budget stands legal pending in
    λ i. record {
      ticket = c.args.ticket;
      path = c.in_ok-copy.ensures i;
      trans = c.args.pair.now.trans;
      image = image i;
      head = head i;
      budget = c.args.budget;
    }

pub returns-clause-in_order : goal.returns-clause-in_order
returns-clause-in_order c = λ g stands legal.
    c.in_ok-image_of.ensures.in_order g stands (legal_tree c.args.program.now g.core.instances legal.instances)

pub returns-clause-condition : goal.returns-clause-condition
returns-clause-condition c = λ g stands legal room pending.
    subst (λ (j : Job). IsJob c.args.program.now j) (sym (returns-clause-job c g stands legal pending))
    (taken_meets c.args.program.now g legal c.args.ticket c.args.budget room c.args.pair.now pending)
