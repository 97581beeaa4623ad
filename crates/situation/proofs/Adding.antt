-- What a step adds to the history.
use Rattle.std.proofs.Common.{◌≡◌, ℕ, ◌+◌, List, length, Option, None, sym, subst, inl}
use Rattle.estelle_model.specs.declared.event.End.{End}
use Rattle.estelle_model.specs.declared.event.End.TheVariants as end
use Rattle.run_history.specs.declared.entry.Entry.{Entry}
use Rattle.run_history.specs.Histories.{fires}
use Rattle.run_history.specs.OpenTickets.{open_in}
use Rattle.situation.specs.declared.limits.Stepped.{Stepped}
use Rattle.situation.specs.Runs.{AreAllTaken}
use Rattle.situation.specs.Worlds.{Adds, AddsMore}

-- where the run had not ended
pub adds_on : (by turns : ℕ) (o : Option End) (before after : List Entry) (d : Stepped) → o ≡ None → AddsMore by turns before after d → Adds by turns o before after d
adds_on by turns o before after d unended h = subst (λ (x : Option End). Adds by turns x before after d) (sym unended) h

-- as many tickets as there are firings, made and under way, are enough at each end
pub all_taken : (e : End) (es : List Entry) (taken : ℕ) → taken ≡ fires es + length (open_in es) → AreAllTaken e es taken
all_taken end.Dead es taken same = same
all_taken end.Turns es taken same = same
all_taken end.Clock es taken same = same
all_taken (end.Faulted kind) es taken same = inl same
