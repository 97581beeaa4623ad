use Rattle.std.proofs.Common.{◌≡◌, ap, ◌∙◌, length, ℕ, subst, sym, None}
use Rattle.estelle_tree.specs.Links.{bottom, below, steps_from}
use Rattle.link_ops.specs.declared.points.Role.TheVariants as role
use Rattle.link_ops.specs.Pairs.{last_point, seen}
use Rattle.link_ops.specs.Linked.{LinkList, AreProper}
use Rattle.link_ops.proofs.Ways.{last-way}
use Rattle.link_ops.proofs.Proper.{proper}
use Rattle.link_ops.proofs.LawOfWays.{bottom-ends}
use Rattle.link_ops.proofs.links.Links.last_below.Goals as goal

pub returns-clause-point : goal.returns-clause-point
returns-clause-point c =
    let l = c.self.inside in
    let links = seen l.points l.pairs.items in
    let found : c.last.result.now ≡ last_point l.points l.pairs.items role.Upper l.count c.args.ip.now = rw c.deref.ensures.value at c.last.ensures in
    let P : ℕ → Type 0 = λ n. c.last.result.now ≡ steps_from (below links) n c.args.ip.now in
    subst P c.self.invariant.count (found ∙ last-way l.points l.pairs.items c.self.invariant.tied role.Upper l.count c.args.ip.now) ∙ ap (λ v. bottom v.links c.args.ip.now) c.self.view_is

pub returns-clause-end : goal.returns-clause-end
returns-clause-end c =
    let P : LinkList → Type 0 = λ v. AreProper v.links in
    let all = subst P c.self.view_is (proper c.self.inside.points c.self.inside.pairs.items c.self.invariant.tied) in
    rw (returns-clause-point c) (bottom-ends c.args.self.now.links all.down c.args.ip.now)
