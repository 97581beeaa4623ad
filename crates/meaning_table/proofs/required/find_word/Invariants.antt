use Rattle.std.proofs.Common.{◌≡◌, length, map}
use Rattle.std.specs.Map.{lookup}
use Rattle.std.specs.Str.{bytes_eq}
use Rattle.meaning_table.proofs.required.find_word.Given as goal

abbrev pub invariant-loop-words : goal.invariant-loop-words
invariant-loop-words l = lookup (bytes_eq l.word) (map (λ e. (e.0.now, e.1)) l.words) ≡ lookup (bytes_eq l.word) (map (λ e. (e.0.now, e.1)) l.initial.words)

abbrev pub decreases-loop-words : goal.decreases-loop-words
decreases-loop-words l = length l.words
