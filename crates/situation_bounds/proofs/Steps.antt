-- Each step of a scheduled run but a fault leaves it known.
use Rattle.std.proofs.Common.{◌≡◌, ◌≤◌, ◌+◌, ℕ, suc, Bool, true, false, List, [], ◌∷◌, ◌++◌, map as each, length, Option, Some, None, refl, sym, ap, subst, ◌∙◌, cond, arith}
use Rattle.std.specs.Prelude.{max}
use Rattle.std.specs.FinMap as map
use Rattle.std.proofs.lemmas.List.{length-map, length-set}
use Rattle.std.proofs.lemmas.List.Sums.{count_by-le-length}
use Rattle.estelle_tree.specs.declared.transition.Pair.{Pair}
use Rattle.estelle_tree.specs.Paths.{Path}
use Rattle.estelle_tree.specs.Timers.{next_due}
use Rattle.estelle_model.specs.declared.effect.Out.{Out}
use Rattle.estelle_model.specs.declared.event.Event.{Event}
use Rattle.estelle_model.specs.declared.event.Event.TheVariants.{Start, Select, Fire}
use Rattle.estelle_model.specs.declared.job.Guard.{Guard}
use Rattle.estelle_model.specs.declared.job.Guard.TheVariants.{Off}
use Rattle.estelle_model.specs.Subject.{Subject}
use Rattle.estelle_model.specs.Situation.{Situation, Acting}
use Rattle.estelle_model.specs.Choosers.{Draw}
use Rattle.estelle_model.specs.Firing.{Firing, Ran, Failed, Undefined, begun, bare, start, transition_at}
use Rattle.estelle_model.specs.Delays.{is_on, has_delays}
use Rattle.estelle_model.specs.Runs.{MaySelect, MayFire, HasRun, Begins, IsRun, situation}
use Rattle.estelle_model.specs.Ends.{fires}
use Rattle.estelle_model.specs.Jobs.{put, taken_by}
use Rattle.estelle_model.specs.Schedule.{Kept, MayAnswer, IsMomentBy, wait_until, IsWaiting, SelectIsPlanned}
use Rattle.estelle_model_legality.specs.Instances.{LeadsToStates}
use Rattle.estelle_model.proofs.PrivateParts.{left_true}
use Rattle.situation_steps.specs.declared.systems.System.{System}
use Rattle.situation_steps.specs.declared.systems.Time.{Time}
use Rattle.situation_steps.specs.Systems.{systems_of, NoneIsDue, IsFirstDueAt, first_kept, after_selection, after_firing, after_wait}
use Rattle.effect_log.specs.Putting.{arrivals}
use Rattle.situation_steps.proofs.Going.{fires-push}
use Rattle.situation_steps.proofs.Starting.{starts_go_on}
use Rattle.situation_steps.proofs.Selections.{selections_go_on}
use Rattle.situation_steps.proofs.Fired.{firings_go_on}
use Rattle.situation_steps.proofs.Waiting.{timers_are_waited_for, waits_go_on}
use Rattle.situation_steps.proofs.Dead.{dead_ends}
use Rattle.run_counts.specs.Counts.{selections}
use Rattle.situation_bounds.proofs.Answered.{start_put, fire_put}
use Rattle.situation_bounds.proofs.Counts.{count_set, bound_stays, bound_grows}
use Rattle.situation_bounds.proofs.Due.{kept_first_due, none_kept_due}
use Rattle.situation_bounds.proofs.Known.{awaiting, IsKnown, selections-push}

-- no more systems await a selection than there are
no_more : (xs : List System) → awaiting xs ≤ length xs
no_more xs = count_by-le-length (λ x. x.awaits) xs

module _ (s : Subject) (leads : LeadsToStates s) (budget : ℕ) where
  -- ---- the start

  start_ran : (f : Firing) (outs : List Out) (drops : List ℕ) (es : List Event) → Begins s budget f (Start outs drops) es → HasRun outs drops f
  start_ran (Ran g outs' drops' left) outs drops es h = (sym h.0, sym h.1)
  start_ran (Failed kind left) outs drops es h = absurd h
  start_ran Undefined outs drops es h = absurd h

  pub known_start : (outs : List Out) (drops : List ℕ) → IsRun s budget (Start outs drops ∷ []) → IsKnown s budget (Start outs drops ∷ []) 0 0 0
  known_start outs drops run =
      let ran = start_ran (start s budget) outs drops [] run in
      let p = start_put s budget outs drops ran in
      let a : Acting = put [] p.is_put.log p.image.parts (begun (bare s)) in
      let same : HasRun outs drops (Ran a.situation a.outs a.drops p.left) = subst (HasRun outs drops) p.is_put.result ran in
      let systems : List System = each first_kept (systems_of s a.situation) in
      let known : IsKnown s budget (Start a.outs a.drops ∷ []) 0 0 0 = record {
        may_wait = true;
        systems = systems;
        under_way = (starts_go_on s leads budget p.image p.effects p.left p.is_put systems refl).under_way;
        selected = omega (arith, no_more systems);
        has_waited = omega arith;
      } in
      subst (λ (o : List Out). IsKnown s budget (Start o drops ∷ []) 0 0 0) same.0
      (subst (λ (d : List ℕ). IsKnown s budget (Start a.outs d ∷ []) 0 0 0) same.1 known)

  -- ---- a selection

  later : (delays : Bool) (clock : Option ℕ) (known now : ℕ) → IsMomentBy delays clock known now → (delays ≡ false → known ≡ 0) → known ≤ now
  later true None known now moment none = moment
  later true (Some told) known now moment none = omega (arith, moment)
  later false clock known now moment none = omega (arith, none refl)

  at_once : (delays : Bool) (clock : Option ℕ) (known now : ℕ) → IsMomentBy delays clock known now → delays ≡ false → now ≡ 0
  at_once true clock known now moment never = absurd (cc)
  at_once false clock known now moment never = moment

  module _ {C : Type 0} (draw : Draw C) (es : List Event) (kept : Kept C) (waits : ℕ) (k : IsKnown s budget es kept.known kept.waited waits) where
    abbrev time : Time
    time = record { known = kept.known; waited = kept.waited; may_wait = k.may_wait }

    pub known_selection : (system : Path) (now : ℕ) (takes : List Pair) (rest : C) → SelectIsPlanned draw s budget es kept system now takes rest → MaySelect s budget (situation s budget es) system now takes
        → IsKnown s budget (es ++ Select system now takes ∷ []) now kept.waited waits
    known_selection system now takes rest planned may =
        let at = kept_first_due s budget es time k.systems k.under_way system planned.due in
        subst (λ (p : Path). IsKnown s budget (es ++ Select p now takes ∷ []) now kept.waited waits) at.3
        (of_first at.0 at.1 at.2
        (subst (λ (p : Path). SelectIsPlanned draw s budget es kept p now takes rest) (sym at.3) planned)
        (subst (λ (p : Path). MaySelect s budget (situation s budget es) p now takes) (sym at.3) may))
      where
        of_first : (at : ℕ) (x : System) → IsFirstDueAt k.systems at x → SelectIsPlanned draw s budget es kept x.path now takes rest → MaySelect s budget (situation s budget es) x.path now takes → IsKnown s budget (es ++ Select x.path now takes ∷ []) now kept.waited waits
        of_first at x first planned may =
            let has = selections_go_on draw s leads budget es time k.systems k.under_way at x first now
            (later (has_delays s) kept.clock kept.known now planned.moment k.under_way.undelayed) may.moment (at_once (has_delays s) kept.clock kept.known now planned.moment)
            may.sound kept.chooser takes rest planned.chosen in
            let new : System = record x { awaits = false; pending = length takes } in
            let fewer = count_set (λ (y : System). y.awaits) k.systems at x new first.there (left_true x.awaits _ first.due) refl in
            let same = length-set k.systems at new in
            let e = Select x.path now takes in
            record {
              may_wait = k.may_wait;
              systems = after_selection at x (length takes) k.systems;
              under_way = has.under_way;
              selected = bound_stays (fires es + waits + 1) (length k.systems) (selections es + awaiting k.systems) _ _ _ (omega (arith, fires-push es e)) same (omega (arith, fewer, selections-push es e)) k.selected;
              has_waited = omega (arith, k.has_waited, fires-push es e);
            }

    -- ---- a firing

    pub known_firing : (m : Path) (n : ℕ) (outs : List Out) (drops : List ℕ) → MayFire s budget (situation s budget es) m n outs drops → IsKnown s budget (es ++ Fire m n outs drops ∷ []) kept.known kept.waited waits
    known_firing m n outs drops may =
        let g = situation s budget es in
        let p = fire_put s budget g k.under_way.legal m n may.pending outs drops may.ran in
        let begins : Situation = taken_by s g m (transition_at s n (map.get g.core.instances m)) in
        let a : Acting = put m p.is_put.log p.image.parts (begun begins) in
        let same : HasRun outs drops (Ran a.situation a.outs a.drops p.left) = subst (HasRun outs drops) p.is_put.result may.ran in
        let has = firings_go_on s leads budget es time k.systems k.under_way m n may.pending begins refl p.image p.effects p.left p.is_put in
        let systems : List System = each (after_firing m (arrivals p.is_put.log (begun begins))) k.systems in
        let e = Fire m n a.outs a.drops in
        let known : IsKnown s budget (es ++ Fire m n a.outs a.drops ∷ []) kept.known kept.waited waits = record {
          may_wait = true;
          systems = systems;
          under_way = has.under_way;
          selected = bound_grows (fires es + waits + 1) (length k.systems) (selections es) (awaiting k.systems) _ _ _ _ (omega (arith, fires-push es e)) (length-map k.systems (after_firing m (arrivals p.is_put.log (begun begins)))) (omega (arith, selections-push es e)) (no_more systems) k.selected;
          has_waited = omega (arith, k.has_waited, fires-push es e);
        } in
        subst (λ (o : List Out). IsKnown s budget (es ++ Fire m n o drops ∷ []) kept.known kept.waited waits) same.0
        (subst (λ (d : List ℕ). IsKnown s budget (es ++ Fire m n a.outs d ∷ []) kept.known kept.waited waits) same.1 known)

    -- ---- a wait

    answered : (clock : Option ℕ) (earliest now : ℕ) → MayAnswer clock earliest now → earliest ≤ now
    answered None earliest now is = is
    answered (Some told) earliest now is = omega (arith, is)

    off_is : (x : Guard) → is_on x ≡ true → x ≡ Off → ⊥
    off_is x on is = let wrong : false ≡ true = sym (ap is_on is) ∙ on in absurd (cc)

    pub known_wait : (now : ℕ) → IsWaiting s budget es kept.waited → MayAnswer kept.clock (wait_until (situation s budget es) kept.known) now → IsKnown s budget es now (length es) (suc waits)
    known_wait now waiting answer = by (next_due (situation s budget es).timers) refl
      where
        none : NoneIsDue k.systems
        none = none_kept_due s budget es time k.systems k.under_way waiting.none_due

        by : (o : Option ℕ) → next_due (situation s budget es).timers ≡ o → IsKnown s budget es now (length es) (suc waits)
        by None is =
            let dead = dead_ends s budget (suc (fires es)) es time k.systems k.under_way none waiting.idle is (omega arith) in
            absurd (off_is _ waiting.enabled (dead.planned.dead.off waiting.path waiting.trans))
        by (Some due) is =
            let may = timers_are_waited_for s leads budget es time k.systems k.under_way none waiting.idle due is in
            let reached : max due kept.known ≤ now = subst (λ (n : ℕ). n ≤ now) may.until (answered kept.clock _ now answer) in
            let systems : List System = each after_wait k.systems in
            record {
              may_wait = false;
              systems = systems;
              under_way = waits_go_on s leads budget es time k.systems k.under_way none waiting.idle due is now reached;
              selected = bound_grows (fires es + waits + 1) (length k.systems) (selections es) (awaiting k.systems) _ _ _ _ (omega arith) (length-map k.systems after_wait) refl (no_more systems) k.selected;
              has_waited = omega (arith, subst (λ (b : Bool). waits + cond b 1 0 ≤ fires es + 1) may.once k.has_waited);
            }
