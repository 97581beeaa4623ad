use Rattle.std.proofs.Common.{◌≡◌, ◌-◌}
use Rattle.token_reader.specs.Lists.{repeated, repeated_from}
use Rattle.token_reader.proofs.lists.repeated.Given as goal

abbrev pub invariant-loop-turn : goal.invariant-loop-turn
invariant-loop-turn g l = repeated (g.S.Read.parser l.step) l.fn.found l.fn.tokens ≡ repeated_from (g.S.Read.parser l.step) (l._turn-end - l._turn) l.found l.tokens
