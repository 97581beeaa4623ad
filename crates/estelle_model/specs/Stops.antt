-- What stops a step: a fault, or what no accepted specification comes to.
use Rattle.std.specs.Prelude.{Result, Ok, Err}
use Rattle.pascal_values.specs.declared.fault.Fault.{Fault}
use Rattle.pascal_values.specs.declared.fault.Fault.TheVariants.{Unset}

-- a fault of the specification's own code, or a rule that is broken, as by an operand of another kind
pub data Stop : Type 0 where
  Faults : Fault → Stop
  Broken : Stop

-- the fault as which a stop is told: a broken rule, which has no name of its own, as Unset
abbrev pub told : Stop → Fault
told (Faults f) = f
told Broken = Unset

-- an operation on values stops a step by its fault alone
abbrev pub stopping : {A : Type 0} → Result A Fault → Result A Stop
stopping (Ok a) = Ok a
stopping (Err f) = Err (Faults f)
