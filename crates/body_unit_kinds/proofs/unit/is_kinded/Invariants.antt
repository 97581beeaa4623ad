use Rattle.body_unit_kinds.specs.Seen.{stacks_of}
use Rattle.body_unit_kinds.specs.Units.{IsFound}
use Rattle.body_unit_kinds.proofs.unit.is_kinded.Given as goal

-- all before the address is fine
abbrev pub invariant-loop-address : goal.invariant-loop-address
invariant-loop-address l = IsFound l.here (stacks_of l.stacks) l.address
