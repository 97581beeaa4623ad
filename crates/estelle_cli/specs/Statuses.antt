-- The numbers with which the process ends.
use Rattle.std.specs.Prelude.{ℕ}
use Rattle.estelle_cli.specs.declared.outcome.Status.{Status}
use Rattle.estelle_cli.specs.declared.outcome.Status.TheVariants.{Done, Refused, Usage, ReadFault, WriteFault, ClockFault, Memory, PascalFault}

abbrev pub code_of : Status → ℕ
code_of Done = 0
code_of Refused = 1
code_of Usage = 2
code_of ReadFault = 3
code_of WriteFault = 4
code_of ClockFault = 5
code_of Memory = 6
code_of PascalFault = 7
