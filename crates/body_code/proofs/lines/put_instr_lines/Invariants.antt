use Rattle.std.proofs.Common.{◌≡◌, ◌+◌, ◌++◌, drop}
use Rattle.body_code.specs.Listing.{instr_line}
use Rattle.body_code.proofs.Numbered.{texts}
use Rattle.body_code.proofs.lines.put_instr_lines.Given as goal

-- what is written, with the lines that are left, is all that is to be written
abbrev pub invariant-loop-i : goal.invariant-loop-i
invariant-loop-i l = l.out.items ++ texts instr_line (l.first + l.i) (drop l.i l.instrs) ≡ l.initial.out.items ++ texts instr_line l.first l.instrs
