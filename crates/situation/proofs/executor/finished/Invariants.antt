use Rattle.std.proofs.Common.{◌≡◌, ◌≤◌, ℕ, false, [], Option}
use Rattle.estelle_model.specs.Delays.{has_delays}
use Rattle.run_history.specs.OpenTickets.{open_in}
use Rattle.situation.specs.Known.{IsReachedBy, left_to_do}
use Rattle.situation.proofs.executor.finished.Given as goal

-- the steps so far are the planned ones, and nothing is under way
abbrev pub invariant-loop-world : goal.invariant-loop-world
invariant-loop-world g l = record {
  subject : l.world.subject ≡ l.fn.world.subject;
  limits : l.world.limits ≡ l.fn.world.limits;
  first : l.world.first ≡ l.fn.world.first;
  reached : (clock : Option ℕ) (chooser : g.row.H.Denot) → IsReachedBy g.H.Chooser.draw g.C.Clock.moment clock chooser l.fn.world → IsReachedBy g.H.Chooser.draw g.C.Clock.moment clock chooser l.world;
  none : open_in l.world.history.entries ≡ [];
  later : g.C.Clock.faults l.fn.world.clock ≤ g.C.Clock.faults l.world.clock;
  unasked : has_delays l.fn.world.subject ≡ false → l.world.clock ≡ l.fn.world.clock;
}

abbrev pub decreases-loop-world : goal.decreases-loop-world
decreases-loop-world g l = left_to_do l.world
