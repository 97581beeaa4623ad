use Rattle.std.proofs.Common.{◌≡◌, ◌<◌, ◌+◌, length, refl, arith, sym, ◌∙◌, ap, Some, IsSome}
use Rattle.slab.specs.Slab.{get, with_value, Updates}
use Rattle.slab.proofs.SlabLemmas.{Updates-with_value}
use Rattle.link_ops.specs.declared.points.Node.{Node}
use Rattle.link_ops.specs.Points.{bucket}
use Rattle.link_ops.proofs.Chains.{chain-one, chain-none}
use Rattle.link_ops.proofs.points.chain.Goals as goal

pub returns-in-Some-clause-chained : goal.returns-in-Some-clause-chained
returns-in-Some-clause-chained c steps apart was =
    let old = c.args.points.now in
    let size : c.len.result ≡ length old.heads.items = omega (arith, c.len.ensures, old.heads.ok.0) in
    let node : Node = record { ip = c.in-Some.node.now.ip; ends = c.in-Some.node.now.ends; next = c.index.result.now } in
    let new = record old { nodes = with_value old.nodes c.args.number node } in
    let there : get old.nodes c.args.number ≡ Some c.in-Some.node.now = sym c.in-Some.ensures.value in
    let put = Updates-with_value old.nodes c.args.number node (rw there refl) in
    chain-one old new c.args.number put.others node c.in-Some.node.now _ steps there put.changed refl (c.bucket-at.ensures.value ∙ ap (λ n. bucket n node.ip) size) c.index.ensures (omega (arith, c.bucket-at.ensures.within, size)) apart was

pub returns-in_default-clause-chained : goal.returns-in_default-clause-chained
returns-in_default-clause-chained c steps apart was = chain-none c.args.points.now c.args.points.now c.args.number (λ _ _. refl) steps (sym c.in_default.ensures.value) was
