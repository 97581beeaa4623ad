-- A firing of a run that goes on: it is put, or it faults.
use Rattle.std.proofs.Common.{◌≡◌, true, ℕ, zero, suc, ◌+◌, ◌*◌, ◌^◌, ◌<◌, ◌≤◌, List, [], ◌∷◌, ◌++◌, Option, Some, None, refl, sym, ap, subst, ◌∙◌, inl, arith}
use Rattle.std.specs.Prelude.{Contains, slice_get, map as each}
use Rattle.std.specs.List.{remove}
use Rattle.std.specs.FinMap as map
use Rattle.std.proofs.Math.Nat.{mul-suc, mul-le-mul_left}
use Rattle.std.proofs.lemmas.Option.{get_or_from_slice_get, slice_get_within}
use Rattle.pascal_values.specs.declared.fault.Fault as fault
use Rattle.estelle_tree.specs.declared.transition.Pair.{Pair}
use Rattle.estelle_tree.specs.Paths.{Path}
use Rattle.estelle_tree.specs.Timers.{pair}
use Rattle.estelle_model.specs.declared.event.Event.{Event}
use Rattle.estelle_model.specs.declared.event.Event.TheVariants.{Fire, Fault}
use Rattle.estelle_model.specs.declared.event.End.TheVariants.{Faulted}
use Rattle.estelle_model.specs.declared.effect.Effect.{Effect}
use Rattle.estelle_model.specs.declared.image.Image.{Image}
use Rattle.estelle_model.specs.declared.job.Job.{Job}
use Rattle.estelle_model.specs.declared.job.Done.{Done}
use Rattle.estelle_model.specs.declared.job.Outcome.{Outcome}
use Rattle.estelle_model.specs.declared.job.Outcome.TheVariants as outcome
use Rattle.estelle_model.specs.Transitions.{Transition}
use Rattle.estelle_model.specs.Subject.{Subject}
use Rattle.estelle_model.specs.Situation.{Situation, Acting}
use Rattle.estelle_model.specs.Firing.{Failed, begun, fire, transition_at}
use Rattle.estelle_model.specs.Jobs.{IsAnswer, IsPut, Answers, AnswersAt, put, taken_by, all_logged}
use Rattle.estelle_model.specs.Runs.{MayFire, HasRun, FiringFaults, HasFailed, situation, without}
use Rattle.estelle_model_legality.specs.Instances.{LeadsToStates}
use Rattle.estelle_model_legality.specs.Situations.{IsLegal}
use Rattle.effect_log.specs.Putting.{log_of, parts_of, effects_of, IsJobAt, AnswersIn, after_put, arrivals}
use Rattle.effect_log.specs.Rooms.{outputs_in}
use Rattle.situation_state.proofs.Counted.{made_all, taken_made}
use Rattle.effect_log.proofs.Answered.{log-is}
use Rattle.effect_log.proofs.Lawful.{no-initial}
use Rattle.run_history.specs.declared.entry.Entry.{Entry}
use Rattle.run_history.specs.declared.entry.Taken.{Taken}
use Rattle.run_history.specs.Histories.{project, fires}
use Rattle.run_history.specs.OpenTickets.{open_in, untaken}
use Rattle.run_history.proofs.Entries.{fires_more}
use Rattle.run_history.proofs.OpenTickets.{open_more}
use Rattle.run_history.proofs.Untaken.{itself, firings_leave}
use Rattle.situation_steps.specs.declared.systems.System.{System}
use Rattle.situation_steps.specs.declared.systems.Time.{Time}
use Rattle.situation_steps.specs.Systems.{after_firing}
use Rattle.situation_steps.specs.UnderWay.{IsUnderWay}
use Rattle.situation_steps.specs.Laws.{HasFired}
use Rattle.situation_steps.proofs.Fired.{firings_go_on}
use Rattle.situation_units.specs.Counting.{IsWithinUnits}
use Rattle.situation_units.proofs.Weighing.{firings_are_within}
use Rattle.situation.specs.Runs.{noted, ending, IsWithin, IsGoing, IsClosed, IsJobFor}
use Rattle.situation_images.specs.Putting.{arrivals_of}
use Rattle.situation.proofs.OpenTickets.{settled_tickets, settled_open, ended_open}
use Rattle.situation.proofs.Untaken.{are_once, is_taken}
use Rattle.situation.proofs.Flying.{open_are_pending}
use Rattle.situation.proofs.Steps.{project_push, fault_closes, counted_event}

-- what stands at a place is in the list
pub found_at : {A : Type 0} (xs : List A) (k : ℕ) (x : A) → slice_get xs k ≡ Some x → Contains xs x
found_at xs k x is = (k, slice_get_within xs k x is, get_or_from_slice_get xs k x x is)

-- ---- numbers

pub once_more : (b f : ℕ) → b * (f + 1) ≡ b * f + b
once_more b f = let e : f + 1 ≡ suc f = omega arith in ap (λ n. b * n) e ∙ mul-suc b f

-- ---- what is computed of a pending firing

module _ (s : Subject) (budget : ℕ) (g : Situation) (legal : IsLegal s g) (p : Pair) (pending : Contains g.pending p) (job : Job) (of : IsJobFor s g budget p job) (done : Done) (answers : Answers s job done) where
  abbrev at_it : Option Transition
  at_it = transition_at s p.trans (map.get g.core.instances p.path)

  none_at_zero : p.trans ≡ 0 → ⊥
  none_at_zero e =
      let its = legal.pending.each p pending in
      let none : transition_at s p.trans (Some its.instance) ≡ None = ap (λ n. transition_at s n (Some its.instance)) e ∙ no-initial s (Some its.instance) in
      let wrong : Some its.transition ≡ None = sym its.its ∙ none in
      absurd (cc)

  answer_at : (n : ℕ) → job.trans ≡ n → AnswersAt s job n done.outcome done.left → IsAnswer s job.path job.trans (taken_by s g job.path (transition_at s job.trans (map.get g.core.instances job.path))) done.outcome done.left (fire s job.budget g job.path job.trans)
  answer_at zero e a = absurd (none_at_zero (sym of.trans ∙ e))
  answer_at (suc n) e a = a g of.in_it

  answer : IsAnswer s p.path p.trans (taken_by s g p.path at_it) done.outcome done.left (fire s budget g p.path p.trans)
  answer = subst (λ (x : ℕ). IsAnswer s p.path p.trans (taken_by s g p.path at_it) done.outcome done.left (fire s x g p.path p.trans)) of.units
      (subst (λ (q : Pair). IsAnswer s q.path q.trans (taken_by s g q.path (transition_at s q.trans (map.get g.core.instances q.path))) done.outcome done.left (fire s job.budget g q.path q.trans)) same
      (answer_at job.trans refl answers.answers))
    where
      same : pair job.path job.trans ≡ p
      same = (λ i. record { path = of.path i; trans = of.trans i })

  job_at : (n : ℕ) → job.trans ≡ n → IsJobAt s g job n
  job_at zero e = absurd (none_at_zero (sym of.trans ∙ e))
  job_at (suc n) e = (legal, of.in_it)

  pub answers_in : AnswersIn s g done
  answers_in = record { job = job; at = job_at job.trans refl; answers = answers }

  pub failing : (kind : fault.Fault) → done.outcome ≡ outcome.Faulted kind → FiringFaults s budget g p.path p.trans kind
  failing kind is =
      let f : fire s budget g p.path p.trans ≡ Failed kind done.left = subst (λ (o : Outcome). IsAnswer s p.path p.trans (taken_by s g p.path at_it) o done.left (fire s budget g p.path p.trans)) is answer in
      record { pending = pending; failed = subst (HasFailed kind) (sym f) refl }

  module _ (image : Image) (effects : List Effect) (is : done.outcome ≡ outcome.Ran image effects) where
    is_put : IsPut s p.path p.trans (taken_by s g p.path at_it) image effects done.left (fire s budget g p.path p.trans)
    is_put = subst (λ (o : Outcome). IsAnswer s p.path p.trans (taken_by s g p.path at_it) o done.left (fire s budget g p.path p.trans)) is answer

    path_is_its : done.path ≡ p.path
    path_is_its = answers.path ∙ of.path

    trans_is_its : done.trans ≡ p.trans
    trans_is_its = answers.trans ∙ of.trans

    log_is_its : effects_of (log_of done.outcome) ≡ is_put.log
    log_is_its = ap (λ (o : Outcome). effects_of (log_of o)) is ∙ log-is s p.path p.trans (taken_by s g p.path at_it) image effects done.left (fire s budget g p.path p.trans) is_put

    parts_are_its : parts_of done.outcome ≡ image.parts
    parts_are_its = ap parts_of is

    after_is : after_put s g done ≡ put p.path is_put.log image.parts (begun (taken_by s g p.path at_it))
    after_is = (λ i. put (path_is_its i) (log_is_its i) (parts_are_its i) (begun (taken_by s g (path_is_its i) (transition_at s (trans_is_its i) (map.get g.core.instances (path_is_its i))))))

    -- its outputs arrive where those of its log do
    arrivals_are : arrivals_of s g done ≡ arrivals is_put.log (begun (taken_by s g p.path at_it))
    arrivals_are = (λ i. arrivals (log_is_its i) (begun (taken_by s g (path_is_its i) (transition_at s (trans_is_its i) (map.get g.core.instances (path_is_its i))))))

    within_units : IsWithinUnits budget g (after_put s g done).situation
    within_units =
        let h = firings_are_within s budget g p.path p.trans _ _ _ _ is_put.result in
        subst (λ (a : Acting). IsWithinUnits budget g a.situation) (sym after_is) (record { made = h.made; births = h.births })

    pub few_outputs : outputs_in (log_of done.outcome) ≤ budget
    few_outputs =
        let all : (after_put s g done).situation.made ≡ (taken_by s g p.path at_it).made + outputs_in (all_logged s is_put.log) = ap (λ (a : Acting). a.situation.made) after_is ∙ made_all s is_put.log (begun (taken_by s g p.path at_it)) in
        let log : outputs_in (log_of done.outcome) ≡ outputs_in (all_logged s is_put.log) = ap (λ (o : Outcome). outputs_in (log_of o)) is ∙ ap outputs_in is_put.logged in
        omega (arith, all, log, taken_made s g p.path at_it, within_units.made)

-- ---- a firing that is under way goes on

module _ (s : Subject) (leads : LeadsToStates s) (budget turns : ℕ) (es : List Entry) (time : Time) (systems : List System) (w : IsGoing s budget turns es time systems)
    (at : ℕ) (o : Taken) (there : slice_get (open_in es) at ≡ Some o) where
  abbrev g : Situation
  g = situation s budget (project es)

  abbrev p : Pair
  p = pair o.path o.trans

  pub under_way_pending : Contains g.pending p
  under_way_pending = open_are_pending s leads budget es w.under_way.run w.tickets o (found_at (open_in es) at o there)

  -- it faults, which leaves the situation
  pub failed_closes : (kind : fault.Fault) → FiringFaults s budget g o.path o.trans kind → IsClosed s budget turns ((es ++ noted o.by (Fault o.path o.trans kind) ∷ []) ++ ending o.by (Faulted kind) ∷ []) time.waited (Faulted kind)
  failed_closes kind f =
      fault_closes s budget turns es time systems w o.by o.path o.trans kind (inl f) (settled_tickets s budget es w.tickets at o there (Fault o.path o.trans kind) (itself p))

  pub failed_open : (kind : fault.Fault) → open_in ((es ++ noted o.by (Fault o.path o.trans kind) ∷ []) ++ ending o.by (Faulted kind) ∷ []) ≡ remove (open_in es) at
  failed_open kind =
      ended_open (es ++ noted o.by (Fault o.path o.trans kind) ∷ []) o.by (Faulted kind) ∙ settled_open s budget es w.tickets at o there o.by (Fault o.path o.trans kind) (itself p)

  -- it runs
  module _ (below : fires es < turns) (job : Job) (of : IsJobFor s g budget p job) (done : Done) (answers : Answers s job done) (image : Image) (effects : List Effect) (is : done.outcome ≡ outcome.Ran image effects) where
    abbrev a : Acting
    a = after_put s g done

    abbrev fire_event : Event
    fire_event = Fire o.path o.trans a.outs a.drops

    abbrev after : List Entry
    after = es ++ noted o.by fire_event ∷ []

    -- what is kept then of the clock and of the systems
    abbrev new_time : Time
    new_time = record time { may_wait = true }

    abbrev new_systems : List System
    new_systems = each (after_firing o.path (arrivals_of s g done)) systems

    abbrev new_situation : Situation
    new_situation = record a.situation { timers = map.remove g.timers p; pending = without p g.pending }

    legal : IsLegal s g
    legal = w.under_way.legal

    -- the instance's situation in which the head is taken, and what is put into it
    abbrev h : Situation
    h = taken_by s g o.path (transition_at s o.trans (map.get g.core.instances o.path))

    abbrev its : IsPut s o.path o.trans h image effects done.left (fire s budget g o.path o.trans)
    its = is_put s budget g legal p under_way_pending job of done answers image effects is

    put_is : a ≡ put o.path its.log image.parts (begun h)
    put_is = after_is s budget g legal p under_way_pending job of done answers image effects is

    fired : HasFired s budget (project es) time systems o.path o.trans a (arrivals_of s g done)
    fired = by its put_is (arrivals_are s budget g legal p under_way_pending job of done answers image effects is)
      where
        by : (q : IsPut s o.path o.trans h image effects done.left (fire s budget g o.path o.trans)) → a ≡ put o.path q.log image.parts (begun h) → arrivals_of s g done ≡ arrivals q.log (begun h)
            → HasFired s budget (project es) time systems o.path o.trans a (arrivals_of s g done)
        by q put_so arrived = subst (λ (at : List Path). HasFired s budget (project es) time systems o.path o.trans a at) (sym arrived)
            (subst (λ (x : Acting). HasFired s budget (project es) time systems o.path o.trans x (arrivals q.log (begun h))) (sym put_so)
            (firings_go_on s leads budget (project es) time systems w.under_way o.path o.trans under_way_pending h refl image effects done.left q))

    -- it has just these outputs and drops
    pub fired_so : MayFire s budget g o.path o.trans a.outs a.drops
    fired_so = record {
      pending = under_way_pending;
      ran = subst (HasRun a.outs a.drops) (sym its.result) (ap (λ (x : Acting). x.outs) (sym put_is), ap (λ (x : Acting). x.drops) (sym put_is));
    }

    project_after : project after ≡ project es ++ fire_event ∷ []
    project_after = project_push es (noted o.by fire_event)

    pub fired_situation : situation s budget (project after) ≡ new_situation
    fired_situation = ap (situation s budget) project_after ∙ fired.situation_is

    pub count_is : fires after ≡ fires es + 1
    count_is = omega (arith, fires_more es (noted o.by fire_event))

    still_within : IsWithin budget (fires es + 1) new_situation
    still_within =
        let u = within_units s budget g legal p under_way_pending job of done answers image effects is in
        record {
          made = omega (arith, u.made, w.within.made, once_more budget (fires es + 1));
          births = λ q. omega (arith, u.births q, w.within.births q, once_more budget (fires es + 1));
        }

    pub fired_going : IsGoing s budget turns after new_time new_systems
    fired_going = record {
      under_way = subst (λ (events : List Event). IsUnderWay s budget events new_time new_systems) (sym project_after) fired.under_way;
      below = omega (arith, count_is, below);
      within = subst (λ (h : Situation). IsWithin budget (fires after) h) (sym fired_situation) (subst (λ (n : ℕ). IsWithin budget n new_situation) (sym count_is) still_within);
      tickets = settled_tickets s budget es w.tickets at o there fire_event (itself p);
      counted = counted_event es o.by fire_event w.counted;
    }

    -- and it is no longer under way
    pub fired_open : open_in after ≡ remove (open_in es) at
    fired_open = settled_open s budget es w.tickets at o there o.by fire_event (itself p)

    -- of what nobody has taken nothing is left out
    pub fired_left : untaken (open_in after) new_situation.pending ≡ untaken (open_in es) g.pending
    fired_left =
        ap (λ (os : List Taken). untaken os (without p g.pending)) (open_more es (noted o.by fire_event))
        ∙ firings_leave (open_in es) p a.outs a.drops o.by g.pending (is_taken (open_in es) o p (found_at (open_in es) at o there) refl) (are_once s g legal.pending)

    -- the count of outputs keeps below the greatest
    pub fired_numbers : budget * (turns + 1) < 2 ^ 63 → g.made + outputs_in (log_of done.outcome) < 2 ^ 64
    fired_numbers room =
        let few = few_outputs s budget g legal p under_way_pending job of done answers image effects is in
        let most : budget * (fires es + 1) ≤ budget * turns = mul-le-mul_left budget (omega (arith, below)) in
        omega (arith, few, most, w.within.made, once_more budget turns, room)
