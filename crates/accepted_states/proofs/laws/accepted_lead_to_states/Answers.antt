use Rattle.accepted_states.proofs.Accepted as accepted
use Rattle.accepted_states.proofs.laws.accepted_lead_to_states.Goals as goal

pub returns-clause-tokens : goal.returns-clause-tokens
returns-clause-tokens c = accepted.accepted_lead_to_states

pub returns-clause-text : goal.returns-clause-text
returns-clause-text c = accepted.read_lead_to_states
