use Rattle.std.proofs.Common.{◌≡◌, sym, subst, ◌∙◌}
use Rattle.std.specs.Prelude.{IfOk, Contains}
use Rattle.std.proofs.lemmas.Option.{get_or_from_slice_get}
use Rattle.estelle_tree.specs.declared.transition.Pair.{Pair}
use Rattle.estelle_model_legality.specs.Jobs.{job_of}
use Rattle.situation_state.proofs.state.State.job.Goals as goal

pub returns-clause-job : goal.returns-clause-job
returns-clause-job c g ps p at legal there pending =
    let state = c.args.self.now in
    let q = c.index.result.now in
    let same : q ≡ p = c.index.ensures ∙ get_or_from_slice_get state.untaken.items c.args.at p _ there in
    subst (λ (x : Pair). IfOk c.job_of.result (λ job. job ≡ job_of state.program.now g c.args.ticket state.budget x)) same
    (c.job_of.ensures.job g at.stands legal (subst (λ (x : Pair). Contains g.pending x) (sym same) pending))

pub returns-clause-in_order : goal.returns-clause-in_order
returns-clause-in_order c g ps at legal = c.job_of.ensures.in_order g at.stands legal
