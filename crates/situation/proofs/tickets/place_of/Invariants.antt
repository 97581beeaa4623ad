use Rattle.std.proofs.Common.{◌≡◌, ◌<◌, ℕ, Some}
use Rattle.std.specs.Prelude.{slice_get}
use Rattle.run_history.specs.declared.entry.Taken.{Taken}
use Rattle.situation.proofs.tickets.place_of.Given as goal

-- none of the first so many has the ticket
abbrev pub invariant-loop-at : goal.invariant-loop-at
invariant-loop-at l = (k : ℕ) (o : Taken) → k < l.at → slice_get l.flying.items k ≡ Some o → o.ticket ≡ l.ticket → ⊥
