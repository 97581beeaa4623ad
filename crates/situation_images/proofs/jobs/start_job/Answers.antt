use Rattle.std.proofs.Common.{◌∙◌, None, sym, ap, subst, arith}
use Rattle.estelle_model.specs.declared.job.Job.{Job}
use Rattle.estelle_model.specs.Firing.{bare}
use Rattle.estelle_model.specs.Subject.{Subject}
use Rattle.estelle_model_legality.specs.Jobs.{image_of, IsJob}
use Rattle.estelle_model_legality.proofs.Conditions.{start_meets}
use Rattle.situation_images.proofs.jobs.start_job.Goals as goal

pub returns-clause-job : goal.returns-clause-job
returns-clause-job c =
    let image = c.in_ok-image.ensures ∙ ap (λ (s : Subject). image_of (bare s).core) c.bodies.ensures in
    λ i. record {
      ticket = 0;
      path = c.root-path.ensures i;
      trans = 0;
      image = image i;
      head = None;
      budget = c.args.budget;
    }

pub returns-clause-condition : goal.returns-clause-condition
returns-clause-condition c =
    subst (λ (j : Job). IsJob c.args.program.now j) (sym (returns-clause-job c)) (start_meets c.args.program.now c.args.budget (omega (arith, c.ranges.budget)))
