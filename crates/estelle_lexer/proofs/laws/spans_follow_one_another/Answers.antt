use Rattle.estelle_lexer.proofs.Answers.{spans_follow}
use Rattle.estelle_lexer.proofs.laws.spans_follow_one_another.Goals as goal

pub returns : goal.returns
returns c = spans_follow
