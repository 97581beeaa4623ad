use Rattle.std.proofs.Common.{◌≡◌, ◌∷◌, ◌++◌, take}
use Rattle.std.specs.List.{flat_map}
use Rattle.estelle_model.specs.Trace as trace
use Rattle.trace_text.proofs.writing.put_takes.Given as goal

abbrev pub invariant-loop-pair : goal.invariant-loop-pair
invariant-loop-pair l = l.out.items ≡ l.initial.out.items ++ flat_map (λ q. 32 ∷ trace.pair_text q) (take l.pair-index l.others)
