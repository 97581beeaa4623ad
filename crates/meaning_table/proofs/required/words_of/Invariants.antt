use Rattle.std.proofs.Common.{◌≡◌, ◌++◌, length, map}
use Rattle.estelle_model.specs.Names.{meaning_of_required}
use Rattle.meaning_table.proofs.required.words_of.Given as goal

abbrev pub invariant-loop-identifiers : goal.invariant-loop-identifiers
invariant-loop-identifiers l =
    l.words ++ map (λ e. (e.0.now, meaning_of_required e.1)) l.identifiers
    ≡ map (λ e. (e.0.now, meaning_of_required e.1)) l.initial.identifiers

abbrev pub decreases-loop-identifiers : goal.decreases-loop-identifiers
decreases-loop-identifiers l = length l.identifiers
