-- What a done that is settled comes to.
use Rattle.std.proofs.Common.{◌≡◌, ℕ, true, [], ◌∷◌, ◌++◌, length, get_or, Some, None, refl, sym, ap, subst, ◌∙◌}
use Rattle.pascal_values.specs.declared.fault.Fault as fault
use Rattle.std.specs.Prelude.{map as each, slice_get}
use Rattle.std.proofs.lemmas.Option.{slice_get_within, slice_get_read}
use Rattle.std.specs.List.{remove}
use Rattle.std.specs.FinMap as map
use Rattle.estelle_tree.specs.Timers.{pair}
use Rattle.estelle_model.specs.declared.event.Event.TheVariants.{Fire}
use Rattle.estelle_model.specs.declared.job.Done.{Done}
use Rattle.estelle_model.specs.declared.job.Outcome.{Outcome}
use Rattle.estelle_model.specs.declared.job.Outcome.TheVariants as outcome
use Rattle.estelle_model.specs.Situation.{Situation}
use Rattle.effect_log.specs.Putting.{after_put}
use Rattle.run_history.specs.declared.entry.Taken.{Taken}
use Rattle.situation_state.specs.declared.state.State.{State}
use Rattle.situation_state.specs.At.{IsAt, NothingNoted}
use Rattle.situation_state.specs.Firings.{failure_of, MayFire, IsFired}
use Rattle.situation_state.proofs.Fired.{at_fired}
use Rattle.situation.specs.declared.limits.Committed.TheVariants as committed
use Rattle.situation.specs.declared.execution.Execution.{Execution}
use Rattle.situation_steps.specs.Systems.{after_firing}
use Rattle.situation.specs.Runs.{noted, ended_at, end_at}
use Rattle.situation.specs.Worlds.{now}
use Rattle.situation.specs.Steps.{IsUnderTicket, HasFired, HasFailed, SettledSo, HasSettled}
use Rattle.situation.proofs.Kept.{own_is}

same_kind : (a b : fault.Fault) → Some a ≡ Some b → a ≡ b
same_kind a b e = cc

module _ {H : Type 0} (g : Situation) (old : Execution H) (at : ℕ) (done : Done) where
  pub settled_fired : (new : Execution H) → failure_of done.outcome ≡ None → HasFired g old new at done → HasSettled g old new at done committed.Fired
  settled_fired new none h = by done.outcome none
    where
      by : (o : Outcome) → failure_of o ≡ None → SettledSo g old new at done o committed.Fired
      by (outcome.Ran image effects) e = (h, refl)
      by (outcome.Faulted kind) e = absurd (cc)

  pub settled_failed : (new : Execution H) (kind : fault.Fault) → failure_of done.outcome ≡ Some kind → HasFailed (record old { flying = new.flying }) new done.path done.trans kind → HasSettled g old new at done committed.Faulted
  settled_failed new kind some h = by done.outcome some
    where
      by : (o : Outcome) → failure_of o ≡ Some kind → SettledSo g old new at done o committed.Faulted
      by (outcome.Ran image effects) e = absurd (cc)
      by (outcome.Faulted k) e = (subst (HasFailed (record old { flying = new.flying }) new done.path done.trans) (sym (same_kind k kind e)) h, refl)

-- it was put, the systems await selections, it was noted, and then the end, where it is one
module _ {H : Type 0} (old : Execution H) (at : ℕ) (done : Done) (may : MayFire (now old) old.state done) where
  -- the execution with the firing out of those that are under way
  abbrev pub with_flying : Execution H → Execution H
  with_flying f = record old { flying = f.flying }

  pub put_and_noted : (f m o q n : Execution H) → f.flying.items ≡ remove old.flying.items at
      → IsFired (now old) old.state m.state done → m ≡ record (with_flying f) { state = m.state }
      → o.systems.items ≡ each (after_firing done.path m.state.notes.arrivals.items) m.systems.items → o ≡ record m { systems = o.systems; time = record m.time { may_wait = true } }
      → q.history.entries ≡ o.history.entries ++ noted o.writer (Fire done.path done.trans o.state.notes.outs.items o.state.notes.drops.items) ∷ [] → NothingNoted q.state.notes → q.state ≡ record o.state { notes = q.state.notes }
      → q ≡ record o { history = q.history; state = q.state }
      → n.history.entries ≡ ended_at q.writer q.turns q.history.entries → n ≡ record q { history = n.history; end = end_at q.turns q.end q.history.entries } → HasFired (now old) old n at done
  put_and_noted f m o q n flying fired m_is systems o_is noted_is empty told q_is ended n_is =
      let o_all : o ≡ record (with_flying f) { state = m.state; systems = o.systems; time = record old.time { may_wait = true } } = o_is ∙ ap (λ (c : Execution H). record c { systems = o.systems; time = record c.time { may_wait = true } }) m_is in
      let q_all : q ≡ record (with_flying f) { state = q.state; history = q.history; systems = o.systems; time = record old.time { may_wait = true } } = q_is ∙ ap (λ (c : Execution H). record c { history = q.history; state = q.state }) o_all in
      let n_all : n ≡ record (with_flying f) { state = q.state; history = n.history; systems = o.systems; time = record old.time { may_wait = true }; end = end_at q.turns q.end q.history.entries } = n_is ∙ ap (λ (c : Execution H). record c { history = n.history; end = end_at q.turns q.end q.history.entries }) q_all in
      let state_is : o.state ≡ m.state = ap (λ (c : Execution H). c.state) o_all in
      let later : q.state ≡ record m.state { notes = q.state.notes } = told ∙ ap (λ (x : State). record x { notes = q.state.notes }) state_is in
      let state_then : q.state ≡ n.state = sym (ap (λ (c : Execution H). c.state) n_all) in
      let program : n.state.program ≡ old.state.program = sym (ap (λ (x : State). x.program) state_then) ∙ ap (λ (x : State). x.program) later ∙ ap (λ (x : State). x.program) fired.rest in
      let budget : n.state.budget ≡ old.state.budget = sym (ap (λ (x : State). x.budget) state_then) ∙ ap (λ (x : State). x.budget) later ∙ ap (λ (x : State). x.budget) fired.rest in
      let systems_then : o.systems ≡ n.systems = sym (ap (λ (c : Execution H). c.systems) n_all) in
      let flying_then : f.flying ≡ n.flying = sym (ap (λ (c : Execution H). c.flying) n_all) in
      let entries : o.history.entries ≡ old.history.entries = ap (λ (c : Execution H). c.history.entries) o_all in
      let writer : o.writer ≡ old.writer = ap (λ (c : Execution H). c.writer) o_all in
      let outs : o.state.notes.outs.items ≡ (after_put old.state.program.now (now old) done).outs = ap (λ (x : State). x.notes.outs.items) state_is ∙ fired.outs in
      let drops : o.state.notes.drops.items ≡ (after_put old.state.program.now (now old) done).drops = ap (λ (x : State). x.notes.drops.items) state_is ∙ fired.drops in
      let noted_all : q.history.entries ≡ old.history.entries ++ noted old.writer (Fire done.path done.trans (after_put old.state.program.now (now old) done).outs (after_put old.state.program.now (now old) done).drops) ∷ [] =
      noted_is ∙ (λ i. entries i ++ noted (writer i) (Fire done.path done.trans (outs i) (drops i)) ∷ []) in
      let writer_q : q.writer ≡ old.writer = ap (λ (c : Execution H). c.writer) q_all in
      let turns_q : q.turns ≡ old.turns = ap (λ (c : Execution H). c.turns) q_all in
      let end_q : q.end ≡ old.end = ap (λ (c : Execution H). c.end) q_all in
      let systems_before : m.systems.items ≡ old.systems.items = ap (λ (c : Execution H). c.systems.items) m_is in
      record {
        fired = λ ps pending h. subst (λ (x : State). IsAt (record (after_put old.state.program.now (now old) done).situation { timers = map.remove (now old).timers (pair done.path done.trans); pending = pending }) ps x) state_then
            (at_fired (now old) ps pending old.state m.state q.state done may h fired empty later);
        noted = ended ∙ (λ i. ended_at (writer_q i) (turns_q i) (noted_all i));
        flying = sym (ap (λ x. x.items) flying_then) ∙ flying;
        systems = sym (ap (λ x. x.items) systems_then) ∙ systems ∙ (λ i. each (after_firing done.path (fired.arrivals i)) (systems_before i));
        rest = n_all
            ∙ (λ i. record old { flying = flying_then i; state = state_then i; history = n.history; systems = systems_then i; time = record old.time { may_wait = true }; end = end_at (turns_q i) (end_q i) (noted_all i) })
            ∙ (λ i. record old {
              flying = n.flying;
              state = own_is old n.state program budget i;
              history = n.history;
              systems = n.systems;
              time = record old.time { may_wait = true };
              end = end_at old.turns old.end (old.history.entries ++ noted old.writer (Fire done.path done.trans (after_put old.state.program.now (now old) done).outs (after_put old.state.program.now (now old) done).drops) ∷ []);
            });
      }

-- what is taken out at the place of the ticket is of the firing
pub its_own : {H : Type 0} (c : Execution H) (at : ℕ) (done : Done) → IsUnderTicket at c done → (x : Taken) → x ≡ get_or c.flying.items at x → (x.path ≡ done.path) × (x.trans ≡ done.trans)
its_own c at done u x is =
    let there : slice_get c.flying.items at ≡ Some x = slice_get_read c.flying.items (length c.flying.items) at x refl (slice_get_within c.flying.items at u.it u.there) is in
    let same : Some x ≡ Some u.it = sym there ∙ u.there in
    let one : x ≡ u.it = cc in
    (ap (λ (y : Taken). y.path) one ∙ u.path, ap (λ (y : Taken). y.trans) one ∙ u.trans)
