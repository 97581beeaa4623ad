use Rattle.std.proofs.Common.{◌≡◌, ◌++◌, take}
use Rattle.body_machine.specs.Frames.{blanks_of}
use Rattle.body_machine.proofs.given.add_blanks.Given as goal

abbrev pub invariant-loop-local : goal.invariant-loop-local
invariant-loop-local l = l.values ≡ l.initial.values ++ blanks_of (take l.local-index l.locals)
