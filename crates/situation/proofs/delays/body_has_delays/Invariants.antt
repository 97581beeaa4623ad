use Rattle.std.proofs.Common.{◌≡◌, take, false, is_some}
use Rattle.std.specs.List.{list_any}
use Rattle.estelle_model.specs.Subject.{transitions}
use Rattle.situation.proofs.delays.body_has_delays.Given as goal

abbrev pub invariant-loop-index : goal.invariant-loop-index
invariant-loop-index l = list_any (λ t. is_some t.delay) (take l.index (transitions l.program l.body)) ≡ false
