use Rattle.std.proofs.Common.{◌≡◌, length}
use Rattle.body_compiler_emission.specs.Drafts.{ends_closed}
use Rattle.body_compiler_emission.proofs.draft.Draft.close_ends.Given as goal

abbrev pub invariant-loop-end : goal.invariant-loop-end
invariant-loop-end l = ends_closed l.ends l.here l.self ≡ ends_closed l.initial.ends l.here l.initial.self

abbrev pub decreases-loop-end : goal.decreases-loop-end
decreases-loop-end l = length l.ends
