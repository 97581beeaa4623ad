use Rattle.std.proofs.Common.{◌≡◌, refl, sym, ◌∙◌, ap, subst, List, Option, Some}
use Rattle.link_ops.specs.declared.pairs.Pairing.{Pairing}
use Rattle.link_ops.specs.declared.points.Points.{Points}
use Rattle.estelle_tree.specs.declared.link.Link.{Link}
use Rattle.estelle_tree.specs.declared.link.IpAddr.{IpAddr}
use Rattle.estelle_tree.specs.declared.link.LinkKind.{LinkKind}
use Rattle.link_ops.specs.Points.{Sound, point, link_at}
use Rattle.link_ops.specs.Pairs.{Tied, MayLink, MayTie, seen}
use Rattle.link_ops.proofs.Changes.{tied-more, seen-more, may-tie}
use Rattle.link_ops.proofs.Ties.{ip-point}
use Rattle.link_ops.proofs.pairs.link.Goals as goal

pub push-requires-clause-tied : goal.push-requires-clause-tied
push-requires-clause-tied c =
    let p = c.args.points.now in
    let pairs = c.args.pairs.now.items in
    let one = c.number_for-first in
    let two = c.number_for-second in
    let t = tied-more p one.new.points pairs c.requires.tied one.ensures.points one.ensures.sound one.ensures.links in
    tied-more one.new.points two.new.points pairs t two.ensures.points two.ensures.sound two.ensures.links

pub push-requires-clause-may : goal.push-requires-clause-may
push-requires-clause-may c =
    let p = c.args.points.now in
    let pairs = c.args.pairs.now.items in
    let one = c.number_for-first in
    let two = c.number_for-second in
    let t = tied-more p one.new.points pairs c.requires.tied one.ensures.points one.ensures.sound one.ensures.links in
    let u = tied-more one.new.points two.new.points pairs t two.ensures.points two.ensures.sound two.ensures.links in
    let same : seen two.new.points pairs ≡ seen p pairs = seen-more one.new.points two.new.points pairs t two.ensures.points ∙ seen-more p one.new.points pairs c.requires.tied one.ensures.points in
    let P : List Link → Type 0 = λ links. MayLink links c.args.kind c.args.first c.args.second in
    may-tie two.new.points pairs u c.args.kind c.args.first c.args.second one.result two.result (two.ensures.points one.result c.args.first one.ensures.there) two.ensures.there (subst P (sym same) c.requires.may)

pub returns-clause-seen : goal.returns-clause-seen
returns-clause-seen c =
    let p = c.args.points.now in
    let pairs = c.args.pairs.now.items in
    let one = c.number_for-first in
    let two = c.number_for-second in
    let t = tied-more p one.new.points pairs c.requires.tied one.ensures.points one.ensures.sound one.ensures.links in
    let same : seen two.new.points pairs ≡ seen p pairs = seen-more one.new.points two.new.points pairs t two.ensures.points ∙ seen-more p one.new.points pairs c.requires.tied one.ensures.points in
    let first = ip-point two.new.points one.result c.args.first (two.ensures.points one.result c.args.first one.ensures.there) in
    let second = ip-point two.new.points two.result c.args.second two.ensures.there in
    rw (c.push.ensures.seen, same, first, second) refl
