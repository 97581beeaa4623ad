use Rattle.std.proofs.Common.{◌≡◌, ◌≤◌, Bor, List, [], length, map, sym, ap, ◌∙◌, arith}
use Rattle.std.proofs.lemmas.List.{length-map}
use Rattle.module_tree.specs.Trees as trees
use Rattle.estelle_model.specs.declared.image.Part.{Part}
use Rattle.estelle_model.specs.Attributes.{attribute_at, is_system}
use Rattle.estelle_model_legality.proofs.Lists.{not_both}
use Rattle.trace_check.specs.JudgedParts.{now}
use Rattle.trace_check.proofs.Counted.{pointed_at}
use Rattle.trace_check.proofs.Deciding.{is_so, always}
use Rattle.trace_check.proofs.Found.{off_more, off_all}
use Rattle.trace_check.proofs.Off.{systems_off}
use Rattle.trace_check.proofs.judged_part.JudgedPart.all_off.Goals as goal

pub loop-part-preserved-then-not-is_system : goal.loop-part-preserved-then-not-is_system
loop-part-preserved-then-not-is_system c =
    let r = c.args.self.now in
    let o = c.requires in
    let g = now r in
    let xs = c.deref-part-items.result.now in
    let i = c.loop-part.part-index in
    let q = c.part-item.result in
    off_more r.state.program.now r.state.budget g (map (λ (x : Bor Part). x.now) xs) i q.now c.loop-part.invariant (ap (λ (x : Bor Part). x.now) c.part-item.is ∙ sym (pointed_at xs i q))
    (λ systems. absurd (not_both (is_system (attribute_at r.state.program.now g q.now.path)) systems (sym (c.is_system.ensures g o.at.stands o.going.legal) ∙ c.if-not-is_system.true)))

pub loop-part-preserved : goal.loop-part-preserved
loop-part-preserved c =
    let r = c.args.self.now in
    let xs = c.deref-part-items.result.now in
    let i = c.loop-part.part-index in
    let q = c.part-item.result in
    off_more r.state.program.now r.state.budget (now r) (map (λ (x : Bor Part). x.now) xs) i q.now c.loop-part.invariant (ap (λ (x : Bor Part). x.now) c.part-item.is ∙ sym (pointed_at xs i q))
    (λ systems. is_so c.in_ok-is_off.field-0 c.in_ok-is_off.ensures c.if-not-branch.false)

pub returns : goal.returns
returns c =
    let r = c.args.self.now in
    let o = c.requires in
    let xs = c.deref-part-items.result.now in
    let ps : List Part = map (λ (x : Bor Part). x.now) xs in
    let i = c.loop-part.part-index in
    let all : length xs ≤ i = omega arith in
    let same = length-map xs (λ (x : Bor Part). x.now) in
    let ends : length ps ≤ i = omega (arith, all, same) in
    let are : ps ≡ trees.parts_below r.state.shared.tree.instances [] = ap (map (λ (x : Bor Part). x.now)) c.deref-part-items.ensures.value ∙ c.in-Ok.ensures.parts ∙ ap (trees.parts_below r.state.shared.tree.instances) c.root-root.ensures in
    always (systems_off r.state.program.now r.state.budget (now r) o.going.legal o.going.root (off_all r.state.program.now r.state.budget (now r) r.state.shared.tree o.at.stands.instances ps are i ends c.loop-part.invariant))
