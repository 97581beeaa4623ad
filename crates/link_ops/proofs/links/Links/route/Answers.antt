use Rattle.std.proofs.Common.{◌≡◌, ap, ◌∙◌, subst, sym, refl, List, Option, Some, None, Bor}
use Rattle.std.specs.Prelude.{IfSome}
use Rattle.std.specs.List.{All}
use Rattle.std.specs.Option.{option_copied}
use Rattle.estelle_tree.specs.Links.{route, below}
use Rattle.link_ops.specs.Pairs.{route_point}
use Rattle.estelle_tree.specs.declared.link.IpAddr.{IpAddr}
use Rattle.estelle_tree.specs.declared.link.Link.{Link}
use Rattle.link_ops.specs.Linked.{LinkList, AreProper, GoesDown}
use Rattle.link_ops.proofs.Ways.{route-way}
use Rattle.link_ops.proofs.Proper.{proper}
use Rattle.link_ops.proofs.LawOfWays.{route-end}
use Rattle.link_ops.proofs.links.Links.route.Goals as goal

pub returns-clause-point : goal.returns-clause-point
returns-clause-point c =
    let l = c.self.inside in
    let found : option_copied c.route.result ≡ route_point l.points l.pairs.items l.count c.args.from.now = rw c.deref.ensures.value at c.route.ensures in
    found ∙ route-way l.points l.pairs.items c.self.invariant.tied l.count c.args.from.now c.self.invariant.count ∙ ap (λ v. route v.links c.args.from.now) c.self.view_is

ends : (links : List Link) → All GoesDown links → (a : IpAddr) (o : Option (Bor IpAddr)) → option_copied o ≡ route links a → IfSome o (λ b. below links b.now ≡ None)
ends links down a None is = tt
ends links down a (Some b) is = route-end links down a b.now (sym is)

pub returns-clause-end : goal.returns-clause-end
returns-clause-end c =
    let P : LinkList → Type 0 = λ v. AreProper v.links in
    let all = subst P c.self.view_is (proper c.self.inside.points c.self.inside.pairs.items c.self.invariant.tied) in
    ends c.args.self.now.links all.down c.args.from.now c.route.result (returns-clause-point c)
