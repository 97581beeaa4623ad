-- Of a world at its start, no pass has written anything.
use Rattle.std.proofs.Common.{◌≡◌, List, [], ◌∷◌, Option, refl, sym, subst}
use Rattle.std.specs.Prelude.{All}
use Rattle.std.proofs.lemmas.List.Elements.{All-nil, All-cons}
use Rattle.estelle_model.specs.declared.event.End.{End}
use Rattle.estelle_model.specs.declared.event.End.TheVariants.{Faulted}
use Rattle.estelle_model.specs.declared.event.Event.TheVariants as event
use Rattle.estelle_model.specs.Firing.{Firing, Ran, Failed, Undefined, start}
use Rattle.run_history.specs.declared.entry.Entry.{Entry}
use Rattle.situation.specs.Known.{Known, IsAtStart}
use Rattle.situation.specs.Runs.{noted, ending}
use Rattle.situation.specs.Worlds.{HasOnlyStarted}

abbrev AreByNobody : List Entry → Type 0
AreByNobody es = All (λ e. e.by ≡ 0) es

by_nobody : (e : Entry) (es : List Entry) → e.by ≡ 0 → AreByNobody es → AreByNobody (e ∷ es)
by_nobody e es is rest = All-cons (λ (x : Entry). x.by ≡ 0) e es is rest

only_started : (f : Firing) (es : List Entry) (e : Option End) → HasOnlyStarted f es e → AreByNobody es
only_started (Ran g outs drops left) es e h = subst AreByNobody (sym h.0) (by_nobody (noted 0 (event.Start outs drops)) [] refl (All-nil (λ (x : Entry). x.by ≡ 0)))
only_started (Failed kind left) es e h = subst AreByNobody (sym h.0) (by_nobody (noted 0 (event.Fault [] 0 kind)) (ending 0 (Faulted kind) ∷ []) refl (by_nobody (ending 0 (Faulted kind)) [] refl (All-nil (λ (x : Entry). x.by ≡ 0))))
only_started Undefined es e h = absurd h

pub nobody_wrote : {C H : Type 0} (w : Known C H) → IsAtStart w → All (λ e. e.by ≡ 0) w.history.entries
nobody_wrote w h = only_started (start w.subject w.limits.budget) w.history.entries w.end h.starts
