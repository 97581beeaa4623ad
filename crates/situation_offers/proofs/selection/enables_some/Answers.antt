use Rattle.std.proofs.Common.{◌≡◌, ◌∙◌, ◌+◌, false, sym, ap, subst, length, arith}
use Rattle.estelle_model.specs.declared.image.Part.{Part}
use Rattle.estelle_model.specs.Delays.{is_on}
use Rattle.estelle_model.specs.Subject.{transitions}
use Rattle.situation_offers.proofs.Enabled.{NoneTo, none_first, none_more, one_here, none_here}
use Rattle.situation_offers.proofs.selection.enables_some.Goals as goal

pub loop-index-init : goal.loop-index-init
loop-index-init t c = λ g of is. (none_first c.args.view.now.program.now c.args.view.now.budget g c.args.part.now.path, tt)

pub returns-then-enabled : goal.returns-then-enabled
returns-then-enabled t c = λ g of is.
    let its = c.in_ok-answer.ensures g of is (c.loop-index.invariant g of is).1 in
    one_here c.args.view.now.program.now c.args.view.now.budget g c.args.part.now.path (c.loop-index.index + 1) c.in_ok-answer.answer its.0 (sym c.is_on-enabled.ensures ∙ c.if-enabled.true)

pub loop-index-preserved : goal.loop-index-preserved
loop-index-preserved t c = λ g of is.
    let its = c.in_ok-answer.ensures g of is (c.loop-index.invariant g of is).1 in
    let off : is_on c.in_ok-answer.answer ≡ false = sym c.is_on-enabled.ensures ∙ c.if-enabled.false in
    (none_more c.args.view.now.program.now c.args.view.now.budget g c.args.part.now.path c.loop-index.index c.in_ok-answer.answer (c.loop-index.invariant g of is).0 its.0 off, its.1)

pub returns : goal.returns
returns t c = λ g of is.
    let s = c.args.view.now.program.now in
    let b = c.args.view.now.budget in
    let m = c.args.part.now.path in
    let end : c.loop-index.index ≡ c.transitions-index-end.result = omega (arith, c.loop-index.auto.index-end, c.loop-index-test.false) in
    let all : c.loop-index.index ≡ length (transitions s is.0.body) = end ∙ c.transitions-index-end.ensures ∙ ap (λ (p : Part). length (transitions s p.body)) is.2 in
    none_here s b g m is.0 is.1 (subst (NoneTo s b g m) all (c.loop-index.invariant g of is).0)
