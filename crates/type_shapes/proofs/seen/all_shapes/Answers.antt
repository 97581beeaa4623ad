use Rattle.std.proofs.Common.{◌∙◌, ◌++◌, refl, ap}
use Rattle.std.specs.Prelude.{fold}
use Rattle.meaning_table.specs.Known.{meanings_of}
use Rattle.tree_visits.specs.Visits.{visits}
use Rattle.place_table.proofs.Over.{told_together}
use Rattle.type_shapes.specs.declared.seen.Seen.{Seen}
use Rattle.type_shapes.specs.TypeNodes.{nodes_seen, required_shapes}
use Rattle.type_shapes.proofs.seen.all_shapes.Goals as goal

pub returns : goal.returns
returns c =
    let all = visits c.args.tree.now in
    let known = meanings_of c.args.table.now in
    let step : Seen → _ → Seen = λ s v. record { table = s.table; shapes = s.shapes ++ nodes_seen (meanings_of s.table.now) v } in
    ap (λ (s : Seen). s.shapes)
    (c.in_ok-walk.ensures
    ∙ ap (λ ss. fold step (record { table = c.args.table; shapes = ss }) all) c.in_ok-required_shapes.ensures
    ∙ told_together step (λ ss. record { table = c.args.table; shapes = ss }) (nodes_seen known) (λ ss v. refl) required_shapes all)
