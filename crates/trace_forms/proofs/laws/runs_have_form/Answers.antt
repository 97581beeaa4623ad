use Rattle.trace_forms.proofs.Accepted as accepted
use Rattle.trace_forms.proofs.laws.runs_have_form.Goals as goal

pub returns : goal.returns
returns c = accepted.runs_have_form
