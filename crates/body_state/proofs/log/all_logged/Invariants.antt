use Rattle.std.proofs.Common.{◌≡◌, take}
use Rattle.estelle_model.specs.Jobs.{all_logged}
use Rattle.body_state.specs.Entries.{effects_of}
use Rattle.body_state.proofs.log.all_logged.Given as goal

abbrev pub invariant-loop-entry : goal.invariant-loop-entry
invariant-loop-entry l = l.effects ≡ all_logged l.bodies (effects_of (take l.entry-index l.entries))
