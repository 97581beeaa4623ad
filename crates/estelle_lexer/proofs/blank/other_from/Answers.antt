use Rattle.std.proofs.Common.{◌∙◌, sym, refl, arith}
use Rattle.estelle_lexer.proofs.Turns.{empty_is, some_are}
use Rattle.estelle_lexer.proofs.Blanks.{turn_empty, turn_other, turn_separator, turn_over}
use Rattle.estelle_lexer.proofs.blank.other_from.Goals as goal

pub returns-then-is_empty : goal.returns-then-is_empty
returns-then-is_empty c = sym (turn_empty _ c.loop-turn.at c.loop-turn.text.now _ c.loop-turn._turn c.loop-turn-test.true c.loop-turn.invariant.same (empty_is c.loop-turn.text.now (sym c.is_empty.ensures ∙ c.if-is_empty.true)))

pub returns-in_default : goal.returns-in_default
returns-in_default c = sym (turn_other _ c.loop-turn.at c.loop-turn.text.now _ c.loop-turn._turn c.loop-turn-test.true c.loop-turn.invariant.same (some_are c.loop-turn.text.now (sym c.is_empty.ensures ∙ c.if-is_empty.false)) (sym c.in_default.ensures.value))

pub loop-turn-preserved : goal.loop-turn-preserved
loop-turn-preserved c = record {
  same = turn_separator _ c.loop-turn.at c.loop-turn.text.now _ c.loop-turn._turn c.loop-turn-test.true c.loop-turn.invariant.same c.in-Some.after.now (sym c.in-Some.ensures.value);
  place = (let less = c.in-Some.ensures.shorter in let place = c.loop-turn.invariant.place in omega arith);
  total = refl;
}

pub returns : goal.returns
returns c = sym (turn_over _ c.loop-turn.at c.loop-turn.text.now _ c.loop-turn._turn c.loop-turn-test.false c.loop-turn.invariant.same)
