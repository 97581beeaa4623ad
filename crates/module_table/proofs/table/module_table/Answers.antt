use Rattle.std.proofs.Common.{◌∙◌, [], refl, ap}
use Rattle.std.specs.Prelude.{fold}
use Rattle.type_rules.specs.Meanings.{Env, start}
use Rattle.tree_visits.specs.Visits.{visits}
use Rattle.place_table.proofs.Over.{told_together}
use Rattle.module_table.specs.Known.{Known, declare_all, visit_declares, known}
use Rattle.module_table.proofs.table.module_table.Goals as goal

pub returns : goal.returns
unfolding known
returns c =
    let names = start c.args.names.now.uses in
    let all = visits c.args.tree.now in
    c.in_ok-walk.ensures
    ∙ ap (λ (e : Env). fold (λ (k : Known) v. declare_all k (visit_declares k.names v)) (record { names = e; places = c.new-2.result }) all) c.in_ok-new.ensures
    ∙ ap (λ ds. fold (λ (k : Known) v. declare_all k (visit_declares k.names v)) (record { names = names; places = ds }) all) c.new-2.ensures
    ∙ told_together (λ (k : Known) v. declare_all k (visit_declares k.names v)) (λ ds. record { names = names; places = ds }) (visit_declares names) (λ ds v. refl) [] all
