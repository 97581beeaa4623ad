use Rattle.trace_forms.proofs.Accepted as accepted
use Rattle.trace_forms.proofs.laws.parameters_are_readable.Goals as goal

pub returns : goal.returns
returns c = accepted.parameters_are_readable
