use Rattle.std.proofs.Common.{sym, subst}
use Rattle.estelle_model_legality.specs.Instances.{LeadsToStates}
use Rattle.accepted_program.proofs.Leads.{checked_leads}
use Rattle.accepted_program.proofs.program.AcceptedProgram.new.Goals as goal

pub invariant_of-result : goal.invariant_of-result
invariant_of-result c = subst LeadsToStates (sym c.in_ok-program.ensures) (checked_leads c.accepted_lead_to_states.ensures.tokens c.args.checked.now)
