use Rattle.std.proofs.Common.{◌≡◌, ◌++◌, take, map}
use Rattle.std.specs.List.{join_with_byte}
use Rattle.pascal_values.specs.Texts.{text}
use Rattle.pascal_values.proofs.writing.+write.Given as goal

abbrev pub invariant-write_parts-loop-i : goal.invariant-write_parts-loop-i
invariant-write_parts-loop-i l = l.into.items ≡ l.initial.into.items ++ join_with_byte 44 (map text (take l.i l.parts))
