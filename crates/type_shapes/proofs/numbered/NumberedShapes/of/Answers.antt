use Rattle.std.proofs.Common.{◌≡◌, ◌∙◌, ◌+◌, ◌-◌, ◌<◌, ap, sym, subst, arith, length, drop}
use Rattle.std.specs.Str.{bytes_eq}
use Rattle.indexmap.specs.IndexMap.{insert_entry}
use Rattle.type_shapes.specs.Spelling.{spelling}
use Rattle.type_shapes.specs.Numbered.{AreFirst}
use Rattle.type_shapes.proofs.Firsts.{one_before}
use Rattle.type_shapes.proofs.numbered.NumberedShapes.of.Goals as goal

pub loop-i-preserved : goal.loop-i-preserved
loop-i-preserved c =
    let shapes = c.args.shapes.now in
    let i = c.loop-i.i - 1 in
    let test = c.loop-i-test.true in
    let within = c.loop-i.invariant.0 in
    let h : i < length shapes = omega (arith, test, within) in
    let next : c.loop-i.i ≡ i + 1 = omega (arith, test) in
    let before : AreFirst (i + 1) (drop (i + 1) shapes) c.loop-i.numbers = subst (λ k. AreFirst k (drop k shapes) c.loop-i.numbers) next c.loop-i.invariant.1 in
    let number : c.in-Ok.number ≡ i = c.in-Ok.ensures.1 in
    let is : c.put.new.self ≡ insert_entry bytes_eq c.loop-i.numbers (spelling c.index-shapes-i.result) i = c.in_ok-put-in-Ok.ensures ∙ ap (insert_entry bytes_eq c.loop-i.numbers (spelling c.index-shapes-i.result)) number in
    (omega (arith, within), one_before shapes i c.index-shapes-i.result c.loop-i.numbers c.put.new.self h c.index-shapes-i.is before is)
