use Rattle.std.proofs.Common.{◌≡◌, ◌++◌, ℕ, take, map}
use Rattle.estelle_tree.specs.declared.tree.name.Name.{Name}
use Rattle.body_numbers.specs.declared.numbers.IpNumbers.{IpNumbers}
use Rattle.body_program_numbers.proofs.points.push_points_of.Given as goal

abbrev each : ℕ → Name → IpNumbers
each channel x = record { word = x.word; channel = channel }

abbrev pub invariant-loop-name : goal.invariant-loop-name
invariant-loop-name l = l.out ≡ l.initial.out ++ map (each l.channel) (take l.name-index l.names)
