-- What is accepted leads to states of its own.
use Rattle.std.proofs.Common.{◌≡◌, ℕ, suc, ◌<◌, ◌≤◌, List, Option, Some, None}
use Rattle.std.proofs.Math.Logic.{∥∥₁_elim}
use Rattle.std.proofs.Math.Bool.{Bool-set}
use Rattle.std.proofs.Math.Nat.{ℕ_set}
use Rattle.std.proofs.Math.Bridge.{le_prop}
use Rattle.estelle_tree.specs.declared.names.Use.{Use}
use Rattle.estelle_tree.specs.declared.tree.specification.Spec.{Spec}
use Rattle.estelle_model.specs.Subject.{Subject, subject}
use Rattle.estelle_model_legality.specs.Instances.{IsStateOf, LeadsToStates}
use Rattle.spec_accept.specs.declared.checked.Checked.{Checked}
use Rattle.accepted_states.specs.Laws.{AcceptedLeadToStates}

below_prop : (m n : ℕ) → IsProp (m < n)
below_prop m n = le_prop {n = suc m} {m = n}

state_prop : (count : ℕ) (o : Option ℕ) → IsProp (IsStateOf count o)
state_prop count None = hlevel ℕ_set
state_prop count (Some k) = below_prop k count

leads_prop : (s : Subject) → IsProp (LeadsToStates s)
leads_prop s = hlevel (state_prop, ℕ_set, le_prop, below_prop, Bool-set)

-- so does each specification that is kept as accepted
pub checked_leads : AcceptedLeadToStates → (checked : Checked) → LeadsToStates (subject checked.spec checked.names)
checked_leads law checked = ∥∥₁_elim checked.spelled (leads_prop (subject checked.spec checked.names)) (λ tree. law checked.spec checked.names.uses tree.tokens tree.rest tree.spells tree.follow checked.named checked.kept)
