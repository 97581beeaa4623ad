use Rattle.std.proofs.Common.{rules, arith}
use Rattle.std.proofs.lemmas.Grind.{common_steps}
use Rattle.token_reader.specs.Lists.{repeated_from}
use Rattle.token_reader.proofs.Turns.{one_more, no_more}
use Rattle.token_reader.proofs.lists.repeated.Goals as goal

pub returns-in_err-read : goal.returns-in_err-read
unfolding repeated_from
returns-in_err-read g c =
    let e = one_more (λ n. repeated_from (g.S.Read.parser c.args.step.now) n c.loop-turn.found c.loop-turn.tokens) _ c.loop-turn._turn c.loop-turn-test.true c.loop-turn.invariant in
    first_of (search rules, grind (arith, common_steps))

pub returns-in-None : goal.returns-in-None
unfolding repeated_from
returns-in-None g c =
    let e = one_more (λ n. repeated_from (g.S.Read.parser c.args.step.now) n c.loop-turn.found c.loop-turn.tokens) _ c.loop-turn._turn c.loop-turn-test.true c.loop-turn.invariant in
    first_of (search rules, grind (arith, common_steps))

pub loop-turn-preserved : goal.loop-turn-preserved
unfolding repeated_from
loop-turn-preserved g c =
    let e = one_more (λ n. repeated_from (g.S.Read.parser c.args.step.now) n c.loop-turn.found c.loop-turn.tokens) _ c.loop-turn._turn c.loop-turn-test.true c.loop-turn.invariant in
    first_of (search rules, grind (arith, common_steps))

pub returns : goal.returns
unfolding repeated_from
returns g c =
    let e = no_more (λ n. repeated_from (g.S.Read.parser c.args.step.now) n c.loop-turn.found c.loop-turn.tokens) _ c.loop-turn._turn c.loop-turn-test.false c.loop-turn.invariant in
    first_of (search rules, grind (arith, common_steps))
