use Rattle.std.proofs.Common.{[], refl, ap, ◌∙◌}
use Rattle.estelle_model.specs.Subject.{Subject, meant}
use Rattle.estelle_model.specs.Firing.{bare}
use Rattle.estelle_model.specs.Computed.{core_of}
use Rattle.meaning_table.specs.Known.{meanings_of}
use Rattle.body_jobs.proofs.RootLemmas.{root_core, root_in_order}
use Rattle.body_walker.proofs.FiringLemmas.{made_as}
use Rattle.body_walker.proofs.firing.begin.Goals as goal

pub run_on-requires : goal.run_on-requires
run_on-requires c = root_in_order c.bodies-bodies.result.now c.in_ok-image.image c.in_ok-image.ensures

pub returns : goal.returns
returns c =
    let s : Subject = c.args.program.now in
    let b : Subject = c.bodies-bodies.result.now in
    made_as b s (meanings_of c.table.result.now) (meant s) c.root-path.result [] _ [] c.args.routine.now c.args.routine.now c.none-values.result [] c.args.to c.args.to (core_of b c.in_ok-image.image) (bare s).core c.args.budget c.run_on.result
    c.bodies-bodies.ensures (ap meanings_of c.table.ensures) c.root-path.ensures refl refl c.none-values.ensures refl
    (root_core b c.in_ok-image.image c.in_ok-image.ensures ∙ ap (λ (x : Subject). (bare x).core) c.bodies-bodies.ensures) c.run_on.ensures
