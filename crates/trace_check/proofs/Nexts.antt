-- What the first events of a trace come to by one event more.
use Rattle.std.proofs.Common.{◌≡◌, ℕ, suc, ◌+◌, ◌*◌, ◌≤◌, List, [], ◌++◌, take, Option, Some, refl, sym, ap, subst, ◌∙◌, arith}
use Rattle.std.specs.Prelude.{slice_get, Contains}
use Rattle.std.specs.FinMap as map
use Rattle.std.proofs.Math.Nat.{mul-suc}
use Rattle.pascal_values.specs.declared.fault.Fault as fault
use Rattle.estelle_tree.specs.Paths.{Path}
use Rattle.estelle_tree.specs.Timers.{pair}
use Rattle.estelle_model.specs.declared.event.Event.{Event}
use Rattle.estelle_model.specs.declared.job.Done.{Done}
use Rattle.estelle_model.specs.Core.{Core}
use Rattle.estelle_model.specs.Subject.{Subject}
use Rattle.estelle_model.specs.Situation.{Situation, Acting}
use Rattle.estelle_model.specs.Firing.{Firing, transition_at, fire}
use Rattle.estelle_model.specs.Jobs.{Answers}
use Rattle.estelle_model.specs.Runs.{Applies, IsRun, next, fired, without, situation, situation_at}
use Rattle.estelle_model.specs.Ends.{last_event, IsNoFault, IsFault}
use Rattle.estelle_model_legality.specs.Instances.{LeadsToStates}
use Rattle.estelle_model_legality.specs.Jobs.{job_of}
use Rattle.estelle_model_legality.specs.Situations.{IsLegal}
use Rattle.estelle_model_legality.proofs.Keeping.{events_keep}
use Rattle.effect_log.specs.Putting.{IsRan, begun_by, after_put, firing_of, log_of}
use Rattle.effect_log.specs.Rooms.{outputs_in}
use Rattle.situation_steps.specs.UnderWay.{HasRoot}
use Rattle.situation_units.specs.Counting.{births_at}
use Rattle.situation_steps.proofs.Going.{IsRun-push, situation-push, last-push}
use Rattle.estelle_model_apart.proofs.Rest.{taken_by_core}
use Rattle.situation_steps.proofs.Roots.{body_at, has_root, root_body, root_stays}
use Rattle.trace_check.specs.Going.{IsGoing, IsFaulted}
use Rattle.trace_check.proofs.Prefixes.{take_more, goes_on_by}
use Rattle.situation_state.proofs.Counted.{IsPutSo, put_so, after_is, made_is, rest_same}
use Rattle.trace_check.proofs.Computed.{answers_in, ran_is}

-- ---- an event more

module _ (s : Subject) (leads : LeadsToStates s) (budget : ℕ) (events : List Event) (n : ℕ) (e : Event) (at : slice_get events n ≡ Some e) (going : IsGoing s budget events n) where
  abbrev g : Situation
  g = situation_at s budget events n

  -- where it does not apply, there is no longer run
  pub not_next : (Applies s budget g e → ⊥) → IsRun s budget (take (suc n) events) → ⊥
  not_next wrong longer = wrong (goes_on_by s budget events n e at going.run longer).applies

  module _ (applies : Applies s budget g e) where
    next_run : IsRun s budget (take (suc n) events)
    next_run = subst (IsRun s budget) (sym (take_more events n e at)) (IsRun-push s budget (take n events) e going.run going.goes_on applies)

    next_last : last_event (take (suc n) events) ≡ Some e
    next_last = ap last_event (take_more events n e at) ∙ last-push (take n events) e

    pub next_is : situation_at s budget events (suc n) ≡ next s budget g e
    next_is = ap (situation s budget) (take_more events n e at) ∙ situation-push s budget (take n events) e going.run

    pub goes_on : IsNoFault (Some e) → HasRoot (next s budget g e) → (next s budget g e).made ≤ budget * n + budget → ((p : Path) → births_at p (next s budget g e) ≤ budget * n + budget) → IsGoing s budget events (suc n)
    goes_on sound root made births =
        let is : (situation_at s budget events (suc n)).made ≡ (next s budget g e).made = ap (λ (h : Situation). h.made) next_is in
        record {
          run = next_run;
          goes_on = subst IsNoFault (sym next_last) sound;
          legal = subst (IsLegal s) (sym next_is) (events_keep s leads budget g going.legal e applies);
          root = subst HasRoot (sym next_is) root;
          made = omega (arith, is, made, mul-suc budget n);
          births = λ p. let same : births_at p (situation_at s budget events (suc n)) ≡ births_at p (next s budget g e) = ap (births_at p) next_is in omega (arith, same, births p, mul-suc budget n);
        }

    pub faults : (kind : fault.Fault) → IsFault (Some e) kind → IsFaulted s budget events (suc n) kind
    faults kind is = record { run = next_run; fault = subst (λ (o : Option Event). IsFault o kind) (sym next_last) is }

-- ---- what is put

module _ (s : Subject) (g : Situation) (done : Done) (f : Firing) (p : IsPutSo s g done f) where
  abbrev a : Acting
  a = after_put s g done

  pub timers_same : a.situation.timers ≡ g.timers
  timers_same = (rest_same s g done f p).timers

  pub now_same : a.situation.now ≡ g.now
  now_same = (rest_same s g done f p).now

  pub pending_same : a.situation.pending ≡ g.pending
  pending_same = (rest_same s g done f p).pending

  pub root_same : HasRoot g → HasRoot a.situation
  root_same root = has_root a.situation (
      ap (λ (x : Acting). body_at [] x.situation.core.instances) (after_is s g done f p)
      ∙ root_stays s done.trans (begun_by s g done).situation p.image p.effects done.left f done.path p.its
      ∙ ap (λ (x : Core). body_at [] x.instances) (taken_by_core s g done.path (transition_at s done.trans (map.get g.core.instances done.path)))
      ∙ root_body g root)

-- ---- firings

module _ (s : Subject) (budget : ℕ) (g : Situation) (legal : IsLegal s g) (m : Path) (n : ℕ) (pending : Contains g.pending (pair m n)) (done : Done) (answers : Answers s (job_of s g 0 budget (pair m n)) done) (is : IsRan done.outcome) where
  abbrev firing : Firing
  firing = firing_of s g (answers_in s budget g legal m n pending done answers).job (answers_in s budget g legal m n pending done answers).job.trans

  pub its : IsPutSo s g done firing
  its = put_so s g done is (answers_in s budget g legal m n pending done answers)

  abbrev b : Acting
  b = after_put s g done

  -- the situation after it
  abbrev pub fired_to : Situation
  fired_to = record b.situation { timers = map.remove g.timers (pair m n); pending = without (pair m n) g.pending }

  pub fired_is : fired (pair m n) g (fire s budget g m n) ≡ fired_to
  fired_is =
      ap (fired (pair m n) g) (ran_is s budget g legal m n pending done answers is)
      ∙ (λ i. record b.situation { timers = map.remove (timers_same s g done firing its i) (pair m n); pending = without (pair m n) (pending_same s g done firing its i) })

  pub fired_root : HasRoot g → HasRoot fired_to
  fired_root root = let r = root_same s g done firing its root in (r.0, r.1, r.2)

  -- so many outputs there are then
  pub fired_made : b.situation.made ≡ g.made + outputs_in (log_of done.outcome)
  fired_made = made_is s g done firing its
