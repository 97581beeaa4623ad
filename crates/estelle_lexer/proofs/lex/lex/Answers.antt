use Rattle.std.proofs.Common.{◌+◌, ◌-◌, ◌∙◌, length, sym, ap, refl, arith, Ok}
use Rattle.estelle_tree.specs.Lexed.{is_end}
use Rattle.estelle_lexer.specs.Lex.{lex_from, run_of}
use Rattle.estelle_lexer.proofs.Turns.{turn_start, turn_empty, turn_none, turn_separator, turn_item, turn_last, turn_over, place_after, empty_is, some_are}
use Rattle.estelle_lexer.proofs.lex.lex.Goals as goal

pub loop-turn-init : goal.loop-turn-init
loop-turn-init c = record { same = rw c.new-items.ensures (turn_start c.args.bytes.now); place = omega arith; total = refl }

pub returns-then-is_empty : goal.returns-then-is_empty
returns-then-is_empty c = turn_empty _ c.loop-turn.after_end c.loop-turn.at c.loop-turn.items c.loop-turn.text.now _ c.loop-turn._turn c.loop-turn-test.true c.loop-turn.invariant.same (empty_is c.loop-turn.text.now (sym c.is_empty.ensures ∙ c.if-is_empty.true))

pub returns-in_default : goal.returns-in_default
returns-in_default c = turn_none _ c.loop-turn.after_end c.loop-turn.at c.loop-turn.items c.loop-turn.text.now _ c.loop-turn._turn c.loop-turn-test.true c.loop-turn.invariant.same (some_are c.loop-turn.text.now (sym c.is_empty.ensures ∙ c.if-is_empty.false)) (sym c.in_default.ensures.value)

pub loop-turn-preserved-in_default-2 : goal.loop-turn-preserved-in_default-2
loop-turn-preserved-in_default-2 c = record {
  same = turn_separator _ c.loop-turn.after_end c.loop-turn.at c.loop-turn.items c.loop-turn.text.now _ c.loop-turn._turn c.loop-turn-test.true c.loop-turn.invariant.same c.in-Some.piece c.in-Some.after.now (sym c.in-Some.ensures.value) (sym c.in_ok-token.ensures ∙ c.in_default-2.is);
  place = place_after c.loop-turn.at c.loop-turn.text.now c.in-Some.after.now c.in-Some.ensures.shorter ∙ c.loop-turn.invariant.place;
  total = refl;
}

pub returns-then-ends : goal.returns-then-ends
returns-then-ends c =
    turn_last _ c.loop-turn.after_end c.loop-turn.at c.loop-turn.items c.loop-turn.text.now _ c.loop-turn._turn c.loop-turn-test.true c.loop-turn.invariant.same c.in-Some.piece c.in-Some.after.now (sym c.in-Some.ensures.value) c.in-Some-2.token (sym c.in_ok-token.ensures ∙ c.in-Some-2.is) (sym c.ends_text-ends.ensures ∙ c.if-ends.true)
    ∙ ap (λ f. Ok (f, c.loop-turn.at + length (run_of c.loop-turn.text.now c.in-Some.after.now))) (sym c.in_ok-push.ensures.ok)

pub loop-turn-preserved : goal.loop-turn-preserved
loop-turn-preserved c = record {
  same = turn_item _ c.loop-turn.after_end c.loop-turn.at c.loop-turn.items c.loop-turn.text.now _ c.loop-turn._turn c.loop-turn-test.true c.loop-turn.invariant.same c.in-Some.piece c.in-Some.after.now (sym c.in-Some.ensures.value) c.in-Some-2.token (sym c.in_ok-token.ensures ∙ c.in-Some-2.is) (sym c.ends_text-ends.ensures ∙ c.if-ends.false)
      ∙ ap (λ f. lex_from (length c.args.bytes.now - (c.loop-turn._turn + 1)) (is_end c.in-Some-2.token) (c.loop-turn.at + length (run_of c.loop-turn.text.now c.in-Some.after.now)) f c.in-Some.after.now) (sym c.in_ok-push.ensures.ok)
      ∙ ap (λ e. lex_from (length c.args.bytes.now - (c.loop-turn._turn + 1)) e (c.loop-turn.at + length (run_of c.loop-turn.text.now c.in-Some.after.now)) c.push.new.self c.in-Some.after.now) (sym c.is_end-after_end.ensures);
  place = place_after c.loop-turn.at c.loop-turn.text.now c.in-Some.after.now c.in-Some.ensures.shorter ∙ c.loop-turn.invariant.place;
  total = refl;
}

pub returns : goal.returns
returns c = turn_over _ c.loop-turn.after_end c.loop-turn.at c.loop-turn.items c.loop-turn.text.now _ c.loop-turn._turn c.loop-turn-test.false c.loop-turn.invariant.same
