-- What a wait for the clock comes to.
use Rattle.std.proofs.Common.{◌≡◌, ℕ, ◌≤◌, max, Bool, true, false, length, map, Option, Some, None, refl, sym, ap, subst, ◌∙◌}
use Rattle.std.specs.Prelude.{IfSome}
use Rattle.estelle_tree.specs.Timers.{next_due}
use Rattle.estelle_model.specs.declared.event.End.TheVariants.{Clock}
use Rattle.estelle_model.specs.Choosers.{Draw}
use Rattle.estelle_model.specs.Schedule.{MayAnswer}
use Rattle.run_history.specs.Histories.{project, fires}
use Rattle.situation_steps.specs.declared.systems.Time.{Time}
use Rattle.situation_steps.specs.Systems.{after_wait}
use Rattle.situation_steps.specs.Laws.{MayWait}
use Rattle.situation_steps.proofs.Waiting.{timers_are_waited_for, waits_go_on}
use Rattle.situation.specs.declared.limits.Stepped.TheVariants as did
use Rattle.situation.specs.declared.execution.Execution.{Execution}
use Rattle.situation.specs.Runs.{IsGoing}
use Rattle.situation.specs.Worlds.{IsOpenExecution, IsKept, HasStepped, work, left_to_do}
use Rattle.situation.specs.Steps.{GoesOn, MayWaitFor}
use Rattle.situation.proofs.Planned.{leads_waited}
use Rattle.situation.proofs.Steps.{may_answer, still_told}
use Rattle.situation.proofs.Adding.{adds_on}
use Rattle.situation.proofs.Ended.{none_pending}
use Rattle.situation.proofs.Less.{less_waited, left_open}

module _ {H : Type 0} where
  -- the clock is waited for
  pub may_wait : (c : Execution H) (due : ℕ) → IsOpenExecution c → MayWaitFor due c → MayWait c.state.program.now c.state.budget (project c.history.entries) c.time due
  may_wait c due o may =
      timers_are_waited_for c.state.program.now o.leads c.state.budget (project c.history.entries) c.time c.systems.items o.going.under_way may.idle.none_due (none_pending c o may.idle) due (ap next_due (sym o.at.timers) ∙ may.due)

  -- so some transition has a delay
  pub waits_delayed : (c : Execution H) (due : ℕ) → IsOpenExecution c → MayWaitFor due c → c.delays ≡ true
  waits_delayed c due o may = let w = may_wait c due o may in o.delays ∙ w.delays

  -- the execution after the wait
  abbrev pub with_wait : Execution H → Execution H → ℕ → Execution H
  with_wait c n moment = record c { systems = n.systems; time = record { known = moment; waited = length (project c.history.entries); may_wait = false } }

  pub waited_step : (draw : Draw H) (told after : Option ℕ) (c n : Execution H) (due moment : ℕ) → GoesOn 2 c → MayWaitFor due c → max due c.time.known ≤ moment
      → IfSome told (λ m. moment ≡ max m (max due c.time.known)) → IfSome told (λ m. after ≡ Some moment)
      → n.systems.items ≡ map after_wait c.systems.items → HasStepped draw told after c (with_wait c n moment) did.Waited
  waited_step draw told after c n due moment opened may no_earlier is moved systems_are =
      let o = opened.is_open in
      let s = c.state.program.now in
      let b = c.state.budget in
      let t = c.turns in
      let es = c.history.entries in
      let w = may_wait c due o may in
      let time : Time = record { known = moment; waited = length (project es); may_wait = false } in
      let under_way = waits_go_on s o.leads b (project es) c.time c.systems.items o.going.under_way may.idle.none_due (none_pending c o may.idle) due (ap next_due (sym o.at.timers) ∙ may.due) moment no_earlier in
      let going : IsGoing s b t es time (map after_wait c.systems.items) = record {
        under_way = under_way;
        below = o.going.below;
        within = o.going.within;
        tickets = o.going.tickets;
        counted = o.going.counted;
      } in
      let new = with_wait c n moment in
      let once : left_to_do c ≡ work t (fires es) c.systems.items true None = left_open c opened.unended ∙ ap (λ (m : Bool). work t (fires es) c.systems.items m None) w.once in
      record {
        keeps = subst (IsKept new) (sym opened.unended) (record {
          leads = o.leads;
          room = o.room;
          delays = o.delays;
          going = subst (IsGoing s b t es time) (sym systems_are) going;
          at = o.at;
          flying = o.flying;
          taken = o.taken;
          fired = o.fired;
          limit = o.limit;
        });
        goes_on = record {
          program = refl;
          limits = refl;
          writer = refl;
          planned = λ known is_told. leads_waited draw s b t es c.chooser c.time known moment false may.idle.below w.waiting
              (subst (λ (until : ℕ). MayAnswer known until moment) (sym w.until) (may_answer known told (max due c.time.known) moment is_told no_earlier is))
              after (still_told known told after moment is_told moved);
        };
        leaves = less_waited (fires es) t c.systems.items n.systems.items (left_to_do new) (left_to_do c) systems_are (left_open new opened.unended) once;
        adds = adds_on c.writer t c.end es es did.Waited opened.unended refl;
        waits = record { waiting = w.waiting; until = subst (λ (until : ℕ). until ≤ moment) (sym w.until) no_earlier; last = refl };
        ends = λ clocked. let wrong : None ≡ Some Clock = sym opened.unended ∙ clocked in absurd (cc);
      }
