use Rattle.std.proofs.Common.{◌∙◌, [], refl, ap}
use Rattle.std.specs.Prelude.{fold}
use Rattle.tree_visits.specs.Visits.{visits}
use Rattle.place_table.proofs.Over.{told_together}
use Rattle.transition_expand.specs.Domains.{Known, put_all, visit_domains, known}
use Rattle.transition_expand.proofs.domains.domains_in.Goals as goal

pub returns : goal.returns
unfolding known
returns c =
    let e = c.args.types.now in
    c.in_ok-walk.ensures
    ∙ ap (λ ds. fold (λ (k : Known) v. put_all k (visit_domains k.types v)) (record { types = e; domains = ds }) (visits c.args.tree.now)) c.new.ensures
    ∙ told_together (λ (k : Known) v. put_all k (visit_domains k.types v)) (λ ds. record { types = e; domains = ds }) (visit_domains e) (λ ds v. refl) [] (visits c.args.tree.now)
