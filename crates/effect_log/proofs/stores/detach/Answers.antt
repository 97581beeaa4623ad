use Rattle.std.proofs.Common.{◌∙◌, sym, ap}
use Rattle.estelle_tree.specs.Links.{same_ip, below}
use Rattle.effect_log.proofs.Ways.{bottom-apart}
use Rattle.effect_log.proofs.stores.detach.Goals as goal

pub move_all-requires-clause-differ : goal.move_all-requires-clause-differ
move_all-requires-clause-differ c =
    let last = c.last_below-last.ensures.point in
    ap (λ x. same_ip x c.args.upper.now) last
    ∙ bottom-apart c.args.links.now.links c.args.upper.now c.requires.attached (ap (below c.args.links.now.links) (sym last) ∙ c.last_below-last.ensures.end)
