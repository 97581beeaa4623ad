-- What `expand` reports.
use Rattle.std.specs.Prelude.{◌≢◌, nat_eq, if◌then◌else◌}
use Rattle.scope_rules.specs.declared.refusal.Breach.{Breach}
use Rattle.scope_rules.specs.declared.refusal.Refusal.{Refusal}
use Rattle.scope_rules.specs.declared.refusal.Refusal.TheVariants as refusal
use Rattle.scope_rules.specs.Least.{IsLeast}
use Rattle.transition_expand.specs.declared.expansion.ExpandError.{ExpandError}
use Rattle.transition_expand.specs.declared.expansion.ExpandError.TheVariants.{Rule, TooManyVariants, Memory}

-- of all breaches P the one that is reported: rule 33 has an answer of its own; that it may be want of memory is not ruled out
abbrev pub Refused : (Breach → Type 0) → ExpandError → Type 0
Refused P (Rule number span) = (number ≢ 33) × IsLeast P (record { number = number; span = span })
Refused P (TooManyVariants span) = IsLeast P (record { number = 33; span = span })
Refused P Memory = Unit {0}

-- what a refusal says of flat transitions
abbrev pub answered : Refusal → ExpandError
answered (refusal.Rule number span) = if nat_eq number 33 then TooManyVariants span else Rule number span
answered refusal.Memory = Memory
