-- The start of a run: it is put, or it faults.
use Rattle.std.proofs.Common.{◌≡◌, ℕ, ◌+◌, ◌*◌, ◌^◌, ◌<◌, List, [], ◌∷◌, ◌++◌, Option, Some, None, refl, sym, ap, subst, ◌∙◌, arith}
use Rattle.std.specs.Prelude.{map as each}
use Rattle.std.specs.FinMap as map
use Rattle.pascal_values.specs.declared.fault.Fault as fault
use Rattle.estelle_tree.specs.Timers.{pair}
use Rattle.estelle_model.specs.declared.event.Event.{Event}
use Rattle.estelle_model.specs.declared.event.Event.TheVariants.{Start, Fault}
use Rattle.estelle_model.specs.declared.event.End.TheVariants.{Faulted}
use Rattle.estelle_model.specs.declared.effect.Effect.{Effect}
use Rattle.estelle_model.specs.declared.image.Image.{Image}
use Rattle.estelle_model.specs.declared.job.Job.{Job}
use Rattle.estelle_model.specs.declared.job.Done.{Done}
use Rattle.estelle_model.specs.declared.job.Outcome.{Outcome}
use Rattle.estelle_model.specs.declared.job.Outcome.TheVariants as outcome
use Rattle.estelle_model.specs.Effects.{StatementEffect}
use Rattle.estelle_model.specs.Transitions.{Transition}
use Rattle.estelle_model.specs.Subject.{Subject}
use Rattle.estelle_model.specs.Situation.{Situation, Acting, acting_after}
use Rattle.estelle_model.specs.Firing.{Firing, Failed, begun, start, bare, transition_at}
use Rattle.estelle_model.specs.Jobs.{IsAnswer, IsPut, Answers, AnswersAt, put, after_all, taken_by, all_logged}
use Rattle.estelle_model.specs.Runs.{Begins, situation, started}
use Rattle.estelle_model.specs.Choosers.{Draw}
use Rattle.estelle_model.specs.Schedule.{begins}
use Rattle.estelle_model_legality.specs.Instances.{LeadsToStates}
use Rattle.estelle_model_legality.specs.Keeping.{HasStarted}
use Rattle.estelle_model_legality.specs.Situations.{IsLegal}
use Rattle.effect_log.specs.Putting.{log_of, parts_of, effects_of, IsJobAt, AnswersIn, after_put}
use Rattle.effect_log.specs.Rooms.{outputs_in}
use Rattle.effect_log.proofs.Answered.{log-is}
use Rattle.effect_log.proofs.Lawful.{no-initial}
use Rattle.run_history.specs.declared.entry.Entry.{Entry}
use Rattle.run_history.specs.declared.entry.What.TheVariants as what
use Rattle.run_history.specs.Histories.{project}
use Rattle.run_history.specs.Tickets.{AreTickets}
use Rattle.situation_steps.specs.declared.systems.System.{System}
use Rattle.situation_steps.specs.Systems.{systems_of, first_kept}
use Rattle.situation_steps.specs.Laws.{first_time, HasBegun}
use Rattle.situation_steps.proofs.Starting.{starts_go_on}
use Rattle.situation_units.specs.Counting.{IsWithinUnits}
use Rattle.situation_units.proofs.Bare.{no_births}
use Rattle.situation_units.proofs.Weighing.{starts_are_within}
use Rattle.situation.specs.Runs.{noted, ending, IsWithin, IsGoing, IsClosed, IsTold, AreReached}
use Rattle.situation.specs.Worlds.{HasOnlyStarted}
use Rattle.run_history.proofs.Lists.{too_short}
use Rattle.situation.proofs.OpenTickets.{noted_tickets, ended_tickets}
use Rattle.situation.proofs.Steps.{counted_event}
use Rattle.situation_state.proofs.Counted.{made_all}
use Rattle.situation.proofs.Firings.{once_more}

-- a clock tells what it tells
told_itself : (moment : Option ℕ) → IsTold moment moment
told_itself None = tt
told_itself (Some moment) = refl

-- ---- before the first entry

no_tickets : (s : Subject) (budget : ℕ) → AreTickets s budget []
no_tickets s budget = record {
  in_order = refl;
  taken = λ k n by m before after take. absurd (too_short (record { by = by; what = what.Take k m n }) before after take.stands);
  by_taker = λ k n by m before after take. absurd (too_short (record { by = by; what = what.Take k m n }) before after take.stands);
}

-- ---- the situation before it

-- timers and what is pending stay
timers_stay : (es : List StatementEffect) (a : Acting) → (after_all es a).situation.timers ≡ a.situation.timers
timers_stay [] a = refl
timers_stay (e ∷ es) a = timers_stay es (acting_after e a)

pending_stays : (es : List StatementEffect) (a : Acting) → (after_all es a).situation.pending ≡ a.situation.pending
pending_stays [] a = refl
pending_stays (e ∷ es) a = pending_stays es (acting_after e a)

module _ (s : Subject) (leads : LeadsToStates s) (budget turns : ℕ) (job : Job) (first : job.trans ≡ 0) (root : job.path ≡ []) (units : job.budget ≡ budget) (done : Done) (answers : Answers s job done) where
  pub start_answers_in : AnswersIn s (bare s) done
  start_answers_in = record { job = job; at = subst (λ (n : ℕ). IsJobAt s (bare s) job n) (sym first) (refl, root); answers = answers }

  answer : IsAnswer s [] 0 (bare s) done.outcome done.left (start s budget)
  answer = subst (λ (x : ℕ). IsAnswer s [] 0 (bare s) done.outcome done.left (start s x)) units (subst (λ (n : ℕ). AnswersAt s job n done.outcome done.left) first answers.answers)

  -- ---- it faults

  module _ (kind : fault.Fault) (is : done.outcome ≡ outcome.Faulted kind) where
    abbrev failed_entries : List Entry
    failed_entries = (noted 0 (Fault [] 0 kind) ∷ []) ++ ending 0 (Faulted kind) ∷ []

    failed : start s budget ≡ Failed kind done.left
    failed = subst (λ (o : Outcome). IsAnswer s [] 0 (bare s) o done.left (start s budget)) is answer

    pub only_failed : HasOnlyStarted (start s budget) failed_entries (Some (Faulted kind))
    only_failed = subst (λ (f : Firing). HasOnlyStarted f failed_entries (Some (Faulted kind))) (sym failed) (refl, refl)

    -- there is no situation after it but the one before it
    pub start_stays : situation s budget (project failed_entries) ≡ bare s
    start_stays = ap (started s) failed

    none_made : IsWithin budget 0 (bare s)
    none_made = record { made = omega arith; births = λ q. omega (arith, no_births s q) }

    pub start_closes : IsClosed s budget turns failed_entries 0 (Faulted kind)
    start_closes =
        let e = noted 0 (Fault [] 0 kind) in
        record {
          before = e ∷ [];
          writer = 0;
          last = refl;
          counted = counted_event [] 0 (Fault [] 0 kind) refl;
          run = subst (λ (f : Firing). Begins s budget f (Fault [] 0 kind) []) (sym failed) (refl, refl, refl, refl);
          stops = refl;
          planned = refl;
          legal = λ ran. absurd (subst HasStarted failed ran);
          below = omega arith;
          within = subst (IsWithin budget 0) (sym start_stays) none_made;
          tickets = ended_tickets s budget (e ∷ []) (noted_tickets s budget [] (no_tickets s budget) 0 (Fault [] 0 kind) tt) 0 (Faulted kind);
        }

    pub start_failed_reached : {C : Type 0} (draw : Draw C) (c : C) (moment : Option ℕ) → AreReached draw s budget turns moment c failed_entries c first_time moment
    start_failed_reached draw c moment = record { known = moment; told = told_itself moment; reached = begins (Fault [] 0 kind) }

  -- ---- it runs

  module _ (image : Image) (effects : List Effect) (is : done.outcome ≡ outcome.Ran image effects) where
    is_put : IsPut s [] 0 (bare s) image effects done.left (start s budget)
    is_put = subst (λ (o : Outcome). IsAnswer s [] 0 (bare s) o done.left (start s budget)) is answer

    path_is_root : done.path ≡ []
    path_is_root = answers.path ∙ root

    trans_is_first : done.trans ≡ 0
    trans_is_first = answers.trans ∙ first

    log_is_its : effects_of (log_of done.outcome) ≡ is_put.log
    log_is_its = ap (λ (o : Outcome). effects_of (log_of o)) is ∙ log-is s [] 0 (bare s) image effects done.left (start s budget) is_put

    parts_are_its : parts_of done.outcome ≡ image.parts
    parts_are_its = ap parts_of is

    abbrev a : Acting
    a = after_put s (bare s) done

    after_is : a ≡ put [] is_put.log image.parts (begun (bare s))
    after_is = (λ i. put (path_is_root i) (log_is_its i) (parts_are_its i) (begun (taken_by s (bare s) (path_is_root i) (transition_at s (trans_is_first i) (map.get (bare s).core.instances (path_is_root i))))))
        ∙ ap (λ (o : Option Transition). put [] is_put.log image.parts (begun (taken_by s (bare s) [] o))) (no-initial s (map.get (bare s).core.instances []))

    abbrev start_event : Event
    start_event = Start a.outs a.drops

    abbrev begun_entries : List Entry
    begun_entries = noted 0 start_event ∷ []

    start_left : situation s budget (project begun_entries) ≡ record (put [] is_put.log image.parts (begun (bare s))).situation { timers = map.remove (put [] is_put.log image.parts (begun (bare s))).situation.timers (pair [] 0) }
    start_left = ap (started s) is_put.result

    pub only_started : HasOnlyStarted (start s budget) begun_entries None
    only_started = subst (λ (f : Firing). HasOnlyStarted f begun_entries None) (sym is_put.result) (ap (λ (x : Acting). noted 0 (Start x.outs x.drops) ∷ []) after_is, refl)

    -- nothing is pending then, and no timer runs
    pub start_pending : a.situation.pending ≡ []
    start_pending = ap (λ (x : Acting). x.situation.pending) after_is ∙ pending_stays is_put.log (begun (bare s))

    pub start_timers : a.situation.timers ≡ map.empty
    start_timers = ap (λ (x : Acting). x.situation.timers) after_is ∙ timers_stay is_put.log (begun (bare s))

    -- with all systems, before their first selection
    has_begun : (systems : List System) → systems ≡ each first_kept (systems_of s a.situation) → HasBegun s budget a systems
    has_begun systems are = subst (λ (x : Acting). HasBegun s budget x systems) (sym after_is)
        (starts_go_on s leads budget image effects done.left is_put systems (are ∙ ap (λ (x : Acting). each first_kept (systems_of s x.situation)) after_is))

    abbrev all_systems : List System
    all_systems = each first_kept (systems_of s a.situation)

    pub start_situation : situation s budget (project begun_entries) ≡ a.situation
    start_situation = (has_begun all_systems refl).situation_is

    pub start_legal : IsLegal s a.situation
    start_legal = subst (IsLegal s) start_situation (has_begun all_systems refl).under_way.legal

    within_units : IsWithinUnits budget (bare s) (situation s budget (project begun_entries))
    within_units = let h = starts_are_within s budget _ _ _ _ is_put.result in subst (IsWithinUnits budget (bare s)) (sym start_left) h

    pub start_going : (systems : List System) → systems ≡ each first_kept (systems_of s a.situation) → IsGoing s budget turns begun_entries first_time systems
    start_going systems are = record {
      under_way = (has_begun systems are).under_way;
      below = omega arith;
      within = record {
        made = omega (arith, within_units.made, once_more budget 0);
        births = λ q. omega (arith, within_units.births q, no_births s q, once_more budget 0);
      };
      tickets = noted_tickets s budget [] (no_tickets s budget) 0 start_event tt;
      counted = counted_event [] 0 start_event refl;
    }

    pub start_reached : {C : Type 0} (draw : Draw C) (c : C) (moment : Option ℕ) → AreReached draw s budget turns moment c begun_entries c first_time moment
    start_reached draw c moment = record { known = moment; told = told_itself moment; reached = begins start_event }

    pub start_numbers : budget * (turns + 1) < 2 ^ 63 → outputs_in (log_of done.outcome) < 2 ^ 64
    start_numbers room =
        let all : a.situation.made ≡ 0 + outputs_in (all_logged s is_put.log) = ap (λ (x : Acting). x.situation.made) after_is ∙ made_all s is_put.log (begun (bare s)) in
        let made_is : (situation s budget (project begun_entries)).made ≡ a.situation.made = ap (λ (g : Situation). g.made) start_situation in
        let log : outputs_in (log_of done.outcome) ≡ outputs_in (all_logged s is_put.log) = ap (λ (o : Outcome). outputs_in (log_of o)) is ∙ ap outputs_in is_put.logged in
        omega (arith, all, made_is, log, within_units.made, once_more budget turns, room)
