use Rattle.std.proofs.Common.{length}
use Rattle.std.specs.Prelude.{reverse}
use Rattle.effect_log.specs.Underway.{MayGoOn, IsOnTheWay}
use Rattle.effect_log.proofs.made.make_all.Given as goal

abbrev pub invariant-loop-effect : goal.invariant-loop-effect
invariant-loop-effect g l =
    (may : MayGoOn (g.D.Disciplines.subject l.initial.disciplines) (reverse l.initial.notes.log.items) l.initial.shared l.initial.notes)
    → IsOnTheWay (g.D.Disciplines.subject l.initial.disciplines) (reverse l.initial.notes.log.items) l.initial.notes l.notes l.shared may.by may.acting

abbrev pub decreases-loop-effect : goal.decreases-loop-effect
decreases-loop-effect g l = length l.notes.log.items
