use Rattle.std.proofs.Common.{◌≡◌, take, map}
use Rattle.body_program_numbers.specs.Found.{channels}
use Rattle.body_program_numbers.specs.Numbering.{place_of_channel}
use Rattle.body_program_numbers.proofs.lists.channel_places.Given as goal

abbrev pub invariant-loop-channel : goal.invariant-loop-channel
invariant-loop-channel l = l.places ≡ map place_of_channel (channels (take l.channel-index l.channels))
