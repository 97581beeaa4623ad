use Rattle.estelle_lexer.proofs.Turns.{seen_shorter}
use Rattle.estelle_lexer.proofs.front.front.Goals as goal

pub returns-clause-shorter : goal.returns-clause-shorter
returns-clause-shorter c = seen_shorter c.args.text.now c.cut.result c.cut.ensures
