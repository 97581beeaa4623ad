use Rattle.std.proofs.Common.{◌≡◌, drop}
use Rattle.estelle_model.specs.Types.{shape_of}
use Rattle.estelle_model.specs.Belonging.{shape_at}
use Rattle.body_values.proofs.belonging.type_at.Given as goal

-- the way that is left leads to where the whole way leads
abbrev pub invariant-loop-number : goal.invariant-loop-number
invariant-loop-number l = shape_at (shape_of l.part) (drop l.number-index l.way) ≡ shape_at (shape_of l.denoter) l.way
