-- What the guards of a system come to: a fault, or none.
use Rattle.std.proofs.Common.{◌≡◌, ℕ, subst}
use Rattle.pascal_values.specs.declared.fault.Fault as fault
use Rattle.estelle_tree.specs.Paths.{Path}
use Rattle.estelle_model.specs.Subject.{Subject}
use Rattle.estelle_model.specs.Situation.{Situation}
use Rattle.estelle_model.specs.Runs.{NoGuardFaults, IsFirstFault}
use Rattle.situation_offers.specs.declared.guards.Offering.{Offering}
use Rattle.situation_offers.specs.declared.guards.Offering.TheVariants as offering
use Rattle.situation_offers.specs.Asked.{IsOffering}

-- none faults
abbrev pub DoesCount : Offering → Type 0
DoesCount (offering.Counts counts wants) = Unit {0}
DoesCount (offering.Faults m n kind) = ⊥

module _ (s : Subject) (budget : ℕ) (g : Situation) (system : Path) (moment : ℕ) where
  -- a system of which a guard faults may not select
  pub faults_not : (a : Offering) (m : Path) (n : ℕ) (kind : fault.Fault) → a ≡ offering.Faults m n kind → IsOffering s budget g system moment a → NoGuardFaults s budget g system → ⊥
  faults_not a m n kind is offered none =
      let first : IsFirstFault s budget g system m n kind = subst (IsOffering s budget g system moment) is offered in
      none m n kind first.inside first.faults

  -- where they count, none faults
  pub counts_none : (a : Offering) → DoesCount a → IsOffering s budget g system moment a → NoGuardFaults s budget g system
  counts_none (offering.Counts counts wants) counted offered = offered.1
  counts_none (offering.Faults m n kind) counted offered = absurd counted
