-- What was put of the start is settled, whether it ran or faulted.
use Rattle.std.proofs.Common.{◌≡◌, [], ◌∷◌, ◌++◌, Some, None, ap, subst, ◌∙◌}
use Rattle.pascal_values.specs.declared.fault.Fault as fault
use Rattle.estelle_model.specs.declared.event.Event.TheVariants.{Start}
use Rattle.estelle_model.specs.declared.job.Done.{Done}
use Rattle.estelle_model.specs.declared.job.Outcome.{Outcome}
use Rattle.estelle_model.specs.declared.job.Outcome.TheVariants as outcome
use Rattle.estelle_model.specs.Subject.{Subject}
use Rattle.estelle_model.specs.Firing.{bare}
use Rattle.situation_state.specs.declared.state.State.{State}
use Rattle.situation_state.specs.At.{NothingNoted}
use Rattle.situation_state.specs.Firings.{failure_of, MayFire, IsFired}
use Rattle.situation_state.proofs.Fired.{at_fired}
use Rattle.situation.specs.declared.execution.Execution.{Execution}
use Rattle.situation.specs.Runs.{noted}
use Rattle.situation.specs.Steps.{HasBeenPut, HasFailed, StartedSo}
use Rattle.situation.proofs.Kept.{own_is}

module _ {H : Type 0} (old : Execution H) (done : Done) where
  abbrev s : Subject
  s = old.state.program.now

  pub been_put : (m n : Execution H) → MayFire (bare s) old.state done → IsFired (bare s) old.state m.state done → m ≡ record old { state = m.state }
      → n.history.entries ≡ m.history.entries ++ noted m.writer (Start m.state.notes.outs.items m.state.notes.drops.items) ∷ [] → NothingNoted n.state.notes → n.state ≡ record m.state { notes = n.state.notes } → n ≡ record m { history = n.history; state = n.state }
      → HasBeenPut old n done
  been_put m n may fired is entries_are empty told rest =
      let before_is : m.history.entries ≡ old.history.entries = ap (λ (x : Execution H). x.history.entries) is in
      let writer : m.writer ≡ old.writer = ap (λ (x : Execution H). x.writer) is in
      let program : n.state.program ≡ old.state.program = ap (λ (x : State). x.program) told ∙ ap (λ (x : State). x.program) fired.rest in
      let budget : n.state.budget ≡ old.state.budget = ap (λ (x : State). x.budget) told ∙ ap (λ (x : State). x.budget) fired.rest in
      record {
        put = λ pending at. at_fired (bare s) [] pending old.state m.state n.state done may at fired empty told;
        noted = entries_are ∙ (λ i. before_is i ++ noted (writer i) (Start (fired.outs i) (fired.drops i)) ∷ []);
        rest = rest ∙ ap (λ (x : Execution H). record x { history = n.history; state = n.state }) is ∙ (λ i. record old { state = own_is old n.state program budget i; history = n.history });
      }

  -- the start ran
  pub started_so : (n : Execution H) (o : Outcome) → failure_of o ≡ None → HasBeenPut old n done → StartedSo old n done o
  started_so n (outcome.Ran image effects) e h = h
  started_so n (outcome.Faulted kind) e h = absurd (cc)

  -- it faulted
  pub failed_so : (n : Execution H) (o : Outcome) (kind : fault.Fault) → failure_of o ≡ Some kind → HasFailed old n [] 0 kind → StartedSo old n done o
  failed_so n (outcome.Ran image effects) kind e h = absurd (cc)
  failed_so n (outcome.Faulted other) kind e h = let same : kind ≡ other = cc in subst (λ (k : fault.Fault). HasFailed old n [] 0 k) same h
