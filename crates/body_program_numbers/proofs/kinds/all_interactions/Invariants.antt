use Rattle.std.proofs.Common.{◌≡◌, take, map}
use Rattle.body_program_numbers.specs.Numbering.{interaction_places, kinds_in}
use Rattle.body_program_numbers.specs.Found.{channels}
use Rattle.body_program_numbers.proofs.kinds.all_interactions.Given as goal

abbrev pub invariant-loop-channel : goal.invariant-loop-channel
invariant-loop-channel l =
    (l.all.places ≡ map (interaction_places l.table.declared) (channels (take l.channel-index l.channels)))
    × (l.all.kinds ≡ map (kinds_in l.table.declared) (channels (take l.channel-index l.channels)))
