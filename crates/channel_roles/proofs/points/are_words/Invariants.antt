use Rattle.std.proofs.Common.{◌≡◌, drop}
use Rattle.channel_roles.specs.ChannelRules.{are_words}
use Rattle.channel_roles.proofs.points.are_words.Given as goal

abbrev pub invariant-loop-name : goal.invariant-loop-name
invariant-loop-name l = are_words (drop l.name-index l.names) l.words ≡ are_words l.names l.initial.words
