use Rattle.estelle_lexer.proofs.Answers.{one_list, one_error, not_both}
use Rattle.estelle_lexer.proofs.laws.unique_tokens.Goals as goal

pub returns-clause-list : goal.returns-clause-list
returns-clause-list c = one_list

pub returns-clause-error : goal.returns-clause-error
returns-clause-error c = one_error

pub returns-clause-apart : goal.returns-clause-apart
returns-clause-apart c = not_both
