use Rattle.estelle_lexer.proofs.Answers.{one_of_both}
use Rattle.estelle_lexer.proofs.laws.tokens_or_error.Goals as goal

pub returns : goal.returns
returns c = one_of_both
