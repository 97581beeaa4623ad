use Rattle.std.proofs.Common.{◌≡◌, ◌++◌, take}
use Rattle.std.specs.List.{flat_map}
use Rattle.type_shapes.specs.Spelling.{spelling}
use Rattle.type_shapes.proofs.spellings.+spelling.Given as goal

abbrev pub invariant-push_spellings-loop-shape : goal.invariant-push_spellings-loop-shape
invariant-push_spellings-loop-shape l = l.out.items ≡ l.initial.out.items ++ flat_map spelling (take l.shape-index l.shapes)
