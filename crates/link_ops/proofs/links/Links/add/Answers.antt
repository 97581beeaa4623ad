use Rattle.std.proofs.Common.{◌≡◌, ◌≤◌, length, ap, ◌∙◌, arith}
use Rattle.link_ops.specs.Pairs.{seen, link_of}
use Rattle.link_ops.proofs.Lists.{full-few}
use Rattle.link_ops.proofs.links.Links.add.Goals as goal

pub overflow_add-self : goal.overflow_add-self
overflow_add-self c =
    let l = c.self.inside in
    let few = full-few (link_of l.points) l.pairs.items in
    omega (arith, few, c.link.new.pairs.ok.0, c.link.new.pairs.ok.1, c.link.new.pairs.small, c.link.ensures.len, c.self.invariant.count)
