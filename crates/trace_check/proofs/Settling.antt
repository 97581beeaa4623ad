-- What is put, and what is noted of it, after the room was made for it.
use Rattle.std.proofs.Common.{◌≡◌, ℕ, suc, ◌+◌, List, take, sym, ap, subst, ◌∙◌}
use Rattle.std.specs.List.{remove}
use Rattle.std.specs.FinMap as map
use Rattle.std.specs.Prelude.{Contains}
use Rattle.estelle_tree.specs.declared.transition.Pair.{Pair}
use Rattle.estelle_tree.specs.Paths.{Path}
use Rattle.estelle_tree.specs.Timers.{pair}
use Rattle.estelle_model.specs.declared.event.Event.TheVariants.{Start, Fire}
use Rattle.estelle_model.specs.declared.effect.Out.{Out}
use Rattle.estelle_model.specs.declared.job.Done.{Done}
use Rattle.estelle_model.specs.Subject.{Subject}
use Rattle.estelle_model.specs.Situation.{Situation, Acting}
use Rattle.estelle_model.specs.Firing.{bare}
use Rattle.estelle_model.specs.Jobs.{Answers}
use Rattle.estelle_model.specs.Runs.{IsRun, MayFire, without}
use Rattle.estelle_model_legality.specs.Jobs.{job_of}
use Rattle.effect_log.specs.Putting.{IsRan, AnswersIn, after_put}
use Rattle.effect_log.specs.Rooms.{HasRoomFor}
use Rattle.situation_state.specs.declared.state.State.{State}
use Rattle.situation_state.specs.At.{IsAt, NothingNoted}
use Rattle.situation_state.specs.Firings as state
use Rattle.situation_state.specs.Firings.{IsFired}
use Rattle.situation_state.specs.Places.{IsPlaceOf}
use Rattle.situation_state.proofs.Fired.{at_fired}
use Rattle.trace_check.specs.declared.judged_part.JudgedPart.{JudgedPart}
use Rattle.trace_check.specs.JudgedParts.{now, IsOpen, IsNext, HasGoneOn, MayBegin}
use Rattle.trace_check.proofs.Computed.{answers_in, outs_told}
use Rattle.trace_check.proofs.JudgingOn.{now_same, within, wrong, pending_there, few_outputs, fired_on}
use Rattle.trace_check.proofs.Beginning.{start_on, not_so_started}

abbrev AreNoted : State → List Out → List ℕ → Type 0
AreNoted c outs drops = (c.notes.outs.items ≡ outs) × (c.notes.drops.items ≡ drops)

-- ---- the start

module _ (r : JudgedPart) (done : Done) (may : MayBegin r done) (is : IsRan done.outcome) (outs : List Out) (drops : List ℕ) (at : IsNext r (Start outs drops)) (x : State) (fired : IsFired (bare r.state.program.now) r.state x done) where
  pub start_refused : (AreNoted x outs drops → ⊥) → IsRun r.state.program.now r.state.budget (take (suc r.count) r.events.now) → ⊥
  start_refused differ = not_so_started r done may is outs drops at (λ same. differ (fired.outs ∙ same.0, fired.drops ∙ same.1))

  pub start_made : AreNoted x outs drops → (y : State) → NothingNoted y.notes → y ≡ record x { notes = y.notes } → HasGoneOn r (record r { state = y; count = 1 })
  start_made told y empty rest = start_on r done may is outs drops at x y fired empty rest (sym fired.outs ∙ told.0) (sym fired.drops ∙ told.1)

-- ---- a firing

-- it is not pending, where it is not among what is kept
pub not_pending : (r : JudgedPart) → IsOpen r → (m : Path) (n : ℕ) (outs : List Out) (drops : List ℕ) → IsNext r (Fire m n outs drops) → (Contains r.state.untaken.items (pair m n) → ⊥)
    → IsRun r.state.program.now r.state.budget (take (suc r.count) r.events.now) → ⊥
not_pending r o m n outs drops at none = wrong r o (Fire m n outs drops) at (λ (may : MayFire r.state.program.now r.state.budget (now r) m n outs drops). none (subst (λ (qs : List Pair). Contains qs (pair m n)) (sym o.at.left) may.pending))

module _ (r : JudgedPart) (o : IsOpen r) (m : Path) (n : ℕ) (at : ℕ) (place : IsPlaceOf (pair m n) r.state.untaken.items at) (done : Done) (answers : Answers r.state.program.now (job_of r.state.program.now (now r) 0 r.state.budget (pair m n)) done) (is : IsRan done.outcome)
    (outs : List Out) (drops : List ℕ) (next_at : IsNext r (Fire m n outs drops)) (t : State) (program : t.program ≡ r.state.program) (budget : t.budget ≡ r.state.budget) (there : IsAt (now r) (remove (now r).pending at) t) where
  -- it may be put where it was taken, and there is room for it
  fire_may : HasRoomFor done.outcome t.shared t.notes → state.MayFire (now r) t done
  fire_may room = record {
    may = record {
      ran = is;
      stands = there.stands;
      answers = subst (λ (s : Subject). AnswersIn s (now r) done) (sym (ap (λ p. p.now) program)) (answers_in r.state.program.now r.state.budget (now r) o.going.legal m n (pending_there r o m n at place) done answers);
      room = room;
      numbers = few_outputs r o m n at place done answers is (within r o (Fire m n outs drops) next_at) t.shared.outputs there.stands.outputs;
    };
    empty = there.empty;
  }

  pub fire_may_put : HasRoomFor done.outcome t.shared t.notes → state.MayFire (now (record r { state = t })) t done
  fire_may_put room = subst (λ (g : Situation). state.MayFire g t done) (sym (now_same r t program budget)) (fire_may room)

  module _ (room : HasRoomFor done.outcome t.shared t.notes) (x : State) (fired_then : state.IsFired (now (record r { state = t })) t x done) where
    fired : state.IsFired (now r) t x done
    fired = subst (λ (g : Situation). state.IsFired g t x done) (now_same r t program budget) fired_then

    abbrev put_there : Subject → Acting
    put_there s = after_put s (now r) done

    subject_is : t.program.now ≡ r.state.program.now
    subject_is = ap (λ p. p.now) program

    noted : AreNoted x (put_there r.state.program.now).outs (put_there r.state.program.now).drops
    noted = (fired.outs ∙ ap (λ (s : Subject). (put_there s).outs) subject_is, fired.drops ∙ ap (λ (s : Subject). (put_there s).drops) subject_is)

    pub fire_refused : (AreNoted x outs drops → ⊥) → IsRun r.state.program.now r.state.budget (take (suc r.count) r.events.now) → ⊥
    fire_refused differ = wrong r o (Fire m n outs drops) next_at (λ (may : MayFire r.state.program.now r.state.budget (now r) m n outs drops).
        let told = outs_told r.state.program.now r.state.budget (now r) o.going.legal m n (pending_there r o m n at place) done answers is outs drops may in
        differ (noted.0 ∙ told.0, noted.1 ∙ told.1))

    pub fire_made : AreNoted x outs drops → (y : State) → NothingNoted y.notes → y ≡ record x { notes = y.notes } → HasGoneOn r (record r { state = y; count = r.count + 1 })
    fire_made told y empty rest =
        let ps : List Pair = without (pair m n) (now r).pending in
        let later = at_fired (now r) (remove (now r).pending at) ps t x y done (fire_may room) there fired empty rest in
        let here = subst (λ (s : Subject). IsAt (record (put_there s).situation { timers = map.remove (now r).timers (pair done.path done.trans); pending = ps }) (remove (now r).pending at) y) subject_is later in
        let program_is : y.program ≡ r.state.program = ap (λ (c : State). c.program) rest ∙ ap (λ (c : State). c.program) fired.rest ∙ program in
        let budget_is : y.budget ≡ r.state.budget = ap (λ (c : State). c.budget) rest ∙ ap (λ (c : State). c.budget) fired.rest ∙ budget in
        fired_on r o m n at place done answers is outs drops next_at (sym noted.0 ∙ told.0) (sym noted.1 ∙ told.1) y program_is budget_is here
