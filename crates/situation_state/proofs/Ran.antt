-- What a done came to.
use Rattle.std.proofs.Common.{◌≡◌, Bool, true, false, Some, None, refl, sym, ap, ◌∙◌}
use Rattle.std.specs.Prelude.{is_some}
use Rattle.pascal_values.specs.declared.fault.Fault as fault
use Rattle.estelle_model.specs.declared.job.Outcome.{Outcome}
use Rattle.estelle_model.specs.declared.job.Outcome.TheVariants as outcome
use Rattle.effect_log.specs.Putting.{IsRan}
use Rattle.situation_state.specs.Firings.{failure_of}

-- what came to no fault ran
pub ran_if : (o : Outcome) → failure_of o ≡ None → IsRan o
ran_if (outcome.Ran image effects) e = tt
ran_if (outcome.Faulted kind) e = absurd (cc)

pub failed_if : (o : Outcome) (kind : fault.Fault) → failure_of o ≡ Some kind → o ≡ outcome.Faulted kind
failed_if (outcome.Ran image effects) kind e = absurd (cc)
failed_if (outcome.Faulted own) kind e = let same : own ≡ kind = cc in ap outcome.Faulted same

pub faulted_if : (o : Outcome) (b : Bool) → b ≡ is_some (failure_of o) → b ≡ true → (kind : fault.Fault) × (o ≡ outcome.Faulted kind)
faulted_if (outcome.Ran image effects) b is so = absurd (let wrong : false ≡ true = sym is ∙ so in cc)
faulted_if (outcome.Faulted kind) b is so = (kind, refl)

pub ran_unless : (o : Outcome) (b : Bool) → b ≡ is_some (failure_of o) → b ≡ false → IsRan o
ran_unless (outcome.Ran image effects) b is no_so = tt
ran_unless (outcome.Faulted kind) b is no_so = absurd (let wrong : true ≡ false = sym is ∙ no_so in cc)
