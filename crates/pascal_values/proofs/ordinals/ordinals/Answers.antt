use Rattle.std.proofs.Common.{arith, inl, subst}
use Rattle.std.specs.Fmt.{decimal}
use Rattle.pascal_values.specs.Steps.{IsOrdinal, IsItem}
use Rattle.pascal_values.proofs.ItemLemmas.{pushed}
use Rattle.pascal_values.proofs.ListingLemmas.{read_none, read_more, read_last}
use Rattle.pascal_values.proofs.ordinals.ordinals.Goals as goal

pub loop-n-init : goal.loop-n-init
loop-n-init c = read_none decimal IsOrdinal 93 c.args.bytes.now c.args.at _ c.new-ordinals.ensures.items

pub loop-n-preserved : goal.loop-n-preserved
loop-n-preserved c = read_more decimal IsOrdinal 93 (inl (omega arith)) c.args.bytes.now c.args.at _ _ c.loop-n.invariant c.in-Some.n c.in-Some.next _ (subst (λ b. IsItem decimal IsOrdinal 93 c.args.bytes.now c.loop-n.place c.in-Some.n c.in-Some.next b) c.if-last.false c.in-Some.ensures) (pushed c.push.result c.is_err.result _ _ _ c.push.ensures.items c.is_err.ensures.value c.if-is_err.false)

pub returns-then-last : goal.returns-then-last
returns-then-last c = read_last decimal IsOrdinal 93 (inl (omega arith)) c.args.bytes.now c.args.at _ _ c.loop-n.invariant c.in-Some.n c.in-Some.next _ (subst (λ b. IsItem decimal IsOrdinal 93 c.args.bytes.now c.loop-n.place c.in-Some.n c.in-Some.next b) c.if-last.true c.in-Some.ensures) (pushed c.push.result c.is_err.result _ _ _ c.push.ensures.items c.is_err.ensures.value c.if-is_err.false)
