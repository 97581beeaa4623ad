use Rattle.std.proofs.Common.{refl, arith}
use Rattle.situation_tests.proofs.apart.fly.Goals as goal

pub are_put-requires-clause-second : goal.are_put-requires-clause-second
are_put-requires-clause-second c =
    c.if-not-is_flying.ensures refl 1 c.in-Some.one (c.in-Some-taken.ensures.others 1 c.in-Some.one (λ same. absurd (omega (arith, same))) c.in-Some.ensures.its)

pub are_put-requires-else-turned-clause-first : goal.are_put-requires-else-turned-clause-first
are_put-requires-else-turned-clause-first c =
    c.if-not-is_flying.ensures refl 1 c.in-Some.one (c.in-Some-taken.ensures.others 1 c.in-Some.one (λ same. absurd (omega (arith, same))) c.in-Some.ensures.its)
