use Rattle.std.proofs.Common.{◌≡◌, ap, ◌∙◌, subst}
use Rattle.std.specs.Option.{option_copied}
use Rattle.estelle_tree.specs.Links.{peer}
use Rattle.link_ops.specs.declared.points.Role.TheVariants as role
use Rattle.link_ops.specs.Pairs.{far_point}
use Rattle.link_ops.specs.Linked.{LinkList, AreProper}
use Rattle.link_ops.proofs.Ways.{far-way}
use Rattle.link_ops.proofs.Proper.{proper}
use Rattle.link_ops.proofs.links.Links.peer.Goals as goal

pub returns-clause-point : goal.returns-clause-point
returns-clause-point c =
    let l = c.self.inside in
    let found : option_copied c.far.result ≡ far_point l.points l.pairs.items role.Joined c.args.ip.now = rw c.deref.ensures.value at c.far.ensures in
    found ∙ far-way l.points l.pairs.items c.self.invariant.tied role.Joined c.args.ip.now ∙ ap (λ v. peer v.links c.args.ip.now) c.self.view_is

pub returns-clause-proper : goal.returns-clause-proper
returns-clause-proper c =
    let P : LinkList → Type 0 = λ v. AreProper v.links in
    subst P c.self.view_is (proper c.self.inside.points c.self.inside.pairs.items c.self.invariant.tied)
