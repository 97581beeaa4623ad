use Rattle.std.proofs.Common.{◌≡◌, ap, sym, ◌∙◌, arith, Err}
use Rattle.token_reader.proofs.Turns.{deeper}
use Rattle.type_parser.specs.Types.{type_below}
use Rattle.type_parser.proofs.structured.+type_below.Goals as goal

pub returns-then-room-eq0 : goal.returns-then-room-eq0
unfolding type_below
returns-then-room-eq0 t c _ = let none : c.args.room ≡ 0 = omega arith in ap (λ n. type_below n c.args.tokens.now) none ∙ ap Err (sym c.refuse.ensures)

pub returns : goal.returns
unfolding type_below
returns t c = rw (deeper (λ n. type_below n c.args.tokens.now) c.args.room (omega arith)) c.type_over.ensures
