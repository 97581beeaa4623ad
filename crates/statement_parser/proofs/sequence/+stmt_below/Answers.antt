use Rattle.std.proofs.Common.{◌≡◌, ap, sym, ◌∙◌, arith, Err}
use Rattle.token_reader.proofs.Turns.{deeper}
use Rattle.statement_parser.specs.Statement.{stmt_below}
use Rattle.statement_parser.proofs.sequence.+stmt_below.Goals as goal

pub returns-then-room-eq0 : goal.returns-then-room-eq0
unfolding stmt_below
returns-then-room-eq0 t c _ = let none : c.args.room ≡ 0 = omega arith in ap (λ n. stmt_below n c.args.tokens.now) none ∙ ap Err (sym c.refuse.ensures)

pub returns : goal.returns
unfolding stmt_below
returns t c = rw (deeper (λ n. stmt_below n c.args.tokens.now) c.args.room (omega arith)) c.stmt_over.ensures
