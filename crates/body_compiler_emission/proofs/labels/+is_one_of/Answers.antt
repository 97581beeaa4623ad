use Rattle.std.proofs.Common.{◌∙◌, length, ap, arith, true}
use Rattle.pascal_values.specs.declared.value.Value.TheVariants as pascal
use Rattle.body_code.specs.declared.instr.Instr.TheVariants as op
use Rattle.body_compiler_emission.specs.Drafts.{Drafted, with_instr}
use Rattle.body_compiler_emission.proofs.LabelSteps.{last_at, more_at}
use Rattle.body_compiler_emission.proofs.labels.+is_one_of.Goals as goal

pub returns-then-first-ordinals-2 : goal.returns-then-first-ordinals-2
returns-then-first-ordinals-2 t c = c.in_ok-is_one.ensures ∙ last_at c.args.temporary c.args.ordinals.now c.args.first _ c.args.unit.now (omega (arith, c.if-first-ordinals.false)) (omega (arith, c.if-first-ordinals-2.true))

pub returns : goal.returns
returns t c =
    let tested = c.in_ok-test.ensures.1 ∙ ap (λ v. with_instr (op.Jfalse 0) v) c.in_ok-is_one.ensures in
    let pushed = c.in_ok-push-2.ensures ∙ ap (λ v. with_instr (op.Push (pascal.Bool true)) v) tested in
    let whole = more_at c.args.temporary c.args.ordinals.now c.args.first _ c.args.unit.now (op.Jfalse 0) (op.Jump 0) c.in_ok-test.test c.in_ok-end.end (omega (arith, c.if-first-ordinals-2.false))
    (c.in_ok-test.ensures.0 ∙ ap (λ (v : Drafted). length v.instrs) c.in_ok-is_one.ensures) (c.in_ok-end.ensures.0 ∙ ap (λ (v : Drafted). length v.instrs) pushed) in
    cc (whole, c.in_ok-close_fork.ensures, c.in_ok-is_one_of.ensures, c.in_ok-end.ensures.1, pushed)
