use Rattle.std.proofs.Common.{refl}
use Rattle.std.specs.List.{flat_map}
use Rattle.tree_visits.specs.Visits.{visits}
use Rattle.visit_rules.proofs.NotedLaws.{noted_at_end, all_kept, all_found}
use Rattle.visit_rules.proofs.judge.first_breach.Goals as goal

pub returns-clause-kept : goal.returns-clause-kept
returns-clause-kept g c =
    all_kept (flat_map (g.R.Rules.breaches c.args.rules.now) (visits c.args.tree.now)) c.walk.new.visitor.first
    (noted_at_end c.walk.new.visitor _ _ (visits c.args.tree.now) c.in_ok-walk.ensures (λ j. j.first) (λ j. g.R.Rules.breaches j.rules.now) (λ t v. refl) (λ t v. refl))

pub returns-clause-found : goal.returns-clause-found
returns-clause-found g c =
    all_found (flat_map (g.R.Rules.breaches c.args.rules.now) (visits c.args.tree.now)) c.walk.new.visitor.first
    (noted_at_end c.walk.new.visitor _ _ (visits c.args.tree.now) c.in_ok-walk.ensures (λ j. j.first) (λ j. g.R.Rules.breaches j.rules.now) (λ t v. refl) (λ t v. refl))
