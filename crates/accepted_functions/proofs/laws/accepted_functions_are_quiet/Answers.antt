use Rattle.accepted_functions.proofs.Quiet as quiet
use Rattle.accepted_functions.proofs.laws.accepted_functions_are_quiet.Goals as goal

pub returns-clause-tokens : goal.returns-clause-tokens
returns-clause-tokens c = quiet.accepted_functions_are_quiet

pub returns-clause-text : goal.returns-clause-text
returns-clause-text c = quiet.read_functions_are_quiet
