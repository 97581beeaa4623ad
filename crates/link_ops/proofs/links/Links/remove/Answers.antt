use Rattle.std.proofs.Common.{◌≡◌, ℕ, ◌+◌, ◌*◌, ◌≤◌, length, Bool, true, false, not, is_some, List, Option, Some, None, vec_capacity, set, refl, sym, ap, ◌∙◌, arith}
use Rattle.std.specs.List.{filter}
use Rattle.std.proofs.lemmas.List.{length-set}
use Rattle.estelle_tree.specs.declared.link.Link.{Link}
use Rattle.link_ops.specs.Linked.{LinkList}
use Rattle.link_ops.specs.Pairs.{entry, seen, link_of, way, has_role}
use Rattle.link_ops.proofs.Lists.{full-gap}
use Rattle.link_ops.proofs.Entries.{entry-has, entry-none, way-some, filter-none, filter-one}
use Rattle.link_ops.proofs.links.Links.remove.Goals as goal

pub overflow_sub-self : goal.overflow_sub-self
overflow_sub-self c =
    let l = c.self.inside in
    let found : entry l.points l.pairs.items c.args.role c.args.ip.now ≡ Some (c.in-Some.at, c.in-Some.pair) = rw c.deref.ensures.value at (sym c.entry.ensures ∙ c.in-Some.is) in
    let has = entry-has l.points l.pairs.items c.self.invariant.tied c.args.role c.args.ip.now c.in-Some.at c.in-Some.pair found in
    omega (arith, full-gap (link_of l.points) l.pairs.items c.in-Some.at c.in-Some.pair has.there, c.self.invariant.count)

pub invariant_of-self : goal.invariant_of-self
invariant_of-self c =
    let l = c.self.inside in
    let said = c.clear.ensures in
    let found : entry l.points l.pairs.items c.args.role c.args.ip.now ≡ Some (c.in-Some.at, c.in-Some.pair) = rw c.deref.ensures.value at (sym c.entry.ensures ∙ c.in-Some.is) in
    let has = entry-has l.points l.pairs.items c.self.invariant.tied c.args.role c.args.ip.now c.in-Some.at c.in-Some.pair found in
    let gone = full-gap (link_of l.points) l.pairs.items c.in-Some.at c.in-Some.pair has.there in
    record {
      tied = said.tied;
      room = omega (arith, said.room, c.self.invariant.room);
      memory = rw (said.pairs, length-set) (omega (arith, said.capacity, c.self.invariant.memory));
      count = rw said.seen (omega (arith, gone, c.self.invariant.count));
    }

pub returns-in-None-clause-found : goal.returns-in-None-clause-found
returns-in-None-clause-found c =
    let l = c.self.inside in
    let none : entry l.points l.pairs.items c.args.role c.args.ip.now ≡ None = rw c.deref.ensures.value at (sym c.entry.ensures ∙ c.in-None.is) in
    sym (ap is_some (entry-none l.points l.pairs.items c.self.invariant.tied c.args.role c.args.ip.now none)) ∙ ap (λ v. is_some (way c.args.role v.links c.args.ip.now)) c.self.view_is

pub returns-in-None-clause-links : goal.returns-in-None-clause-links
returns-in-None-clause-links c =
    let l = c.self.inside in
    let none : entry l.points l.pairs.items c.args.role c.args.ip.now ≡ None = rw c.deref.ensures.value at (sym c.entry.ensures ∙ c.in-None.is) in
    let kept = filter-none l.points l.pairs.items c.self.invariant.tied c.args.role c.args.ip.now (entry-none l.points l.pairs.items c.self.invariant.tied c.args.role c.args.ip.now none) in
    rw (← c.self.view_is) (ap (λ (links : List Link). let v : LinkList = record { links = links; spare = l.spare } in v) (sym kept))

pub returns-in-Some-clause-found : goal.returns-in-Some-clause-found
returns-in-Some-clause-found c =
    let l = c.self.inside in
    let found : entry l.points l.pairs.items c.args.role c.args.ip.now ≡ Some (c.in-Some.at, c.in-Some.pair) = rw c.deref.ensures.value at (sym c.entry.ensures ∙ c.in-Some.is) in
    let has = entry-has l.points l.pairs.items c.self.invariant.tied c.args.role c.args.ip.now c.in-Some.at c.in-Some.pair found in
    sym (way-some l.points l.pairs.items c.self.invariant.tied c.args.role c.args.ip.now c.in-Some.at c.in-Some.pair has) ∙ ap (λ v. is_some (way c.args.role v.links c.args.ip.now)) c.self.view_is

pub returns-in-Some-clause-links : goal.returns-in-Some-clause-links
returns-in-Some-clause-links c =
    let l = c.self.inside in
    let found : entry l.points l.pairs.items c.args.role c.args.ip.now ≡ Some (c.in-Some.at, c.in-Some.pair) = rw c.deref.ensures.value at (sym c.entry.ensures ∙ c.in-Some.is) in
    let has = entry-has l.points l.pairs.items c.self.invariant.tied c.args.role c.args.ip.now c.in-Some.at c.in-Some.pair found in
    let one = filter-one l.points l.pairs.items c.self.invariant.tied c.args.role c.args.ip.now c.in-Some.at c.in-Some.pair has in
    rw (← c.self.view_is) (ap (λ (links : List Link). let v : LinkList = record { links = links; spare = l.spare } in v) (c.clear.ensures.seen ∙ one))
