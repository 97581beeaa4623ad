use Rattle.std.proofs.Common.{◌≡◌, ap, sym, ◌∙◌, arith, Err}
use Rattle.token_reader.proofs.Turns.{deeper}
use Rattle.expression_parser.specs.Expression.{factor_below}
use Rattle.expression_parser.proofs.expression.+factor_below.Goals as goal

pub returns-then-room-eq0 : goal.returns-then-room-eq0
unfolding factor_below
returns-then-room-eq0 t c _ = let none : c.args.room ≡ 0 = omega arith in ap (λ n. factor_below n c.args.tokens.now) none ∙ ap Err (sym c.refuse.ensures)

pub returns : goal.returns
unfolding factor_below
returns t c = rw (deeper (λ n. factor_below n c.args.tokens.now) c.args.room (omega arith)) c.read.ensures
