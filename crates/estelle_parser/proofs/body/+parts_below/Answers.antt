use Rattle.std.proofs.Common.{◌≡◌, ap, sym, ◌∙◌, arith, Err}
use Rattle.token_reader.proofs.Turns.{deeper}
use Rattle.estelle_parser.specs.Bodies.{parts_below}
use Rattle.estelle_parser.proofs.body.+parts_below.Goals as goal

pub returns-then-room-eq0 : goal.returns-then-room-eq0
unfolding parts_below
returns-then-room-eq0 t c _ = let none : c.args.room ≡ 0 = omega arith in ap (λ n. parts_below n c.args.tokens.now) none ∙ ap Err (sym c.refuse.ensures)

pub returns : goal.returns
unfolding parts_below
returns t c = rw (deeper (λ n. parts_below n c.args.tokens.now) c.args.room (omega arith)) c.parts_over.ensures
