-- What is kept of a trace goes on by an event that applies.
use Rattle.std.proofs.Common.{◌≡◌, ℕ, suc, ◌+◌, ◌*◌, ◌<◌, ◌≤◌, ◌^◌, Bool, true, false, List, ◌++◌, take, length, Option, Some, None, refl, sym, ap, subst, ◌∙◌, arith, add-one}
use Rattle.std.specs.Prelude.{Contains}
use Rattle.std.specs.List.{remove}
use Rattle.std.specs.FinMap as map
use Rattle.std.proofs.Math.Nat.{mul-suc, mul-le-mul_left}
use Rattle.std.proofs.lemmas.Option.{slice_get_within, get_or_from_slice_get}
use Rattle.pascal_values.specs.declared.fault.Fault as fault
use Rattle.estelle_tree.specs.declared.transition.Pair.{Pair}
use Rattle.estelle_tree.specs.Paths.{Path}
use Rattle.estelle_tree.specs.Timers.{pair}
use Rattle.estelle_model.specs.declared.event.Event.{Event}
use Rattle.estelle_model.specs.declared.event.Event.TheVariants.{Start, Select, Fire, Fault}
use Rattle.estelle_model.specs.declared.effect.Out.{Out}
use Rattle.estelle_model.specs.declared.job.Done.{Done}
use Rattle.estelle_model.specs.declared.job.Outcome.TheVariants as outcome
use Rattle.estelle_model.specs.Subject.{Subject}
use Rattle.estelle_model.specs.Situation.{Situation}
use Rattle.estelle_model.specs.Jobs.{Answers}
use Rattle.estelle_model.specs.Runs.{Applies, IsRun, MaySelect, MayFire, next, selected, without, situation_at}
use Rattle.estelle_model.specs.Ends.{IsNoFault, IsFault, last_event}
use Rattle.estelle_model_legality.specs.Jobs.{job_of, HasRoom}
use Rattle.situation_units.specs.Counting.{births_of, births_at, IsWithinUnits}
use Rattle.effect_log.specs.Putting.{IsRan, log_of, after_put}
use Rattle.effect_log.specs.Rooms.{outputs_in}
use Rattle.situation_steps.specs.UnderWay.{HasRoot}
use Rattle.situation_units.proofs.Weighing.{firings_are_within}
use Rattle.trace_check.specs.declared.judged_part.JudgedPart.{JudgedPart}
use Rattle.situation_state.specs.declared.state.State.{State}
use Rattle.situation_state.specs.At.{IsAt}
use Rattle.situation_state.specs.Places.{IsPlaceOf}
use Rattle.trace_check.specs.Going.{IsGoing, IsFaulted}
use Rattle.trace_check.specs.JudgedParts.{now, IsOpen, IsKept, IsNext, HasGoneOn}
use Rattle.trace_check.proofs.Prefixes.{goes_on_by}
use Rattle.trace_check.proofs.Computed.{ran_is, may_fire, none_ran}
use Rattle.trace_check.proofs.Nexts.{not_next, next_is, goes_on, faults, fired_to, fired_is, fired_root, fired_made}

-- ---- the situation so far

-- it is that of the trace with another state of the same specification and budget
pub now_same : (r : JudgedPart) (x : State) → x.program ≡ r.state.program → x.budget ≡ r.state.budget → now (record r { state = x }) ≡ now r
now_same r x program budget = (λ i. situation_at (program i).now (budget i) r.events.now r.count)

-- ---- the next event

-- after a fault there is none
pub none_after : (r : JudgedPart) (kind : fault.Fault) (e : Event) → IsFaulted r.state.program.now r.state.budget r.events.now r.count kind → IsNext r e → IsRun r.state.program.now r.state.budget (take (suc r.count) r.events.now) → ⊥
none_after r kind e f next longer = by (last_event (take r.count r.events.now)) f.fault (goes_on_by r.state.program.now r.state.budget r.events.now r.count e next f.run longer).no_fault
  where
    by : (o : Option Event) → IsFault o kind → IsNoFault o → ⊥
    by None is none = is
    by (Some (Start outs drops)) is none = is
    by (Some (Select system moment takes)) is none = is
    by (Some (Fire m n outs drops)) is none = is
    by (Some (Fault m n k)) is none = none

module _ (r : JudgedPart) (o : IsOpen r) (e : Event) (at : IsNext r e) where
  abbrev s : Subject
  s = r.state.program.now

  abbrev b : ℕ
  b = r.state.budget

  abbrev g : Situation
  g = now r

  pub within : r.count < length r.events.now
  within = slice_get_within r.events.now r.count e at

  -- there is a number for it
  pub counted : r.count + 1 < 2 ^ 31
  counted = omega (arith, within, o.few)

  -- it does not apply
  pub wrong : (Applies s b g e → ⊥) → IsRun s b (take (suc r.count) r.events.now) → ⊥
  wrong = not_next s o.leads b r.events.now r.count e at o.going

  module _ (applies : Applies s b g e) where
    situation_is : situation_at s b r.events.now (r.count + 1) ≡ next s b g e
    situation_is = ap (situation_at s b r.events.now) (add-one r.count) ∙ next_is s o.leads b r.events.now r.count e at o.going applies

    -- what is kept then, where it is no fault
    pub open_then : (x : State) → x.program ≡ r.state.program → x.budget ≡ r.state.budget → IsNoFault (Some e) → IsGoing s b r.events.now (suc r.count) → IsAt (next s b g e) (next s b g e).pending x → HasGoneOn r (record r { state = x; count = r.count + 1 })
    open_then x program budget sound going at =
        let y : State = record x { program = r.state.program; budget = b } in
        let same : x ≡ y = (λ i. record x { program = program i; budget = budget i }) in
        let n : JudgedPart = record r { state = y; count = r.count + 1 } in
        subst (λ (z : State). HasGoneOn r (record r { state = z; count = r.count + 1 })) (sym same) (record {
          keeps = subst (IsKept n) (sym o.unended) (record {
            unended = o.unended;
            leads = o.leads;
            few = o.few;
            room = o.room;
            going = subst (IsGoing s b r.events.now) (sym (add-one r.count)) going;
            at = subst (λ (h : Situation). IsAt h h.pending y) (sym situation_is) (subst (IsAt (next s b g e) (next s b g e).pending) same at);
          });
          program = refl;
          budget = refl;
          events = refl;
          count = refl;
        })

-- ---- selections

pub selected_on : (r : JudgedPart) (o : IsOpen r) (x : State) (system : Path) (moment : ℕ) (takes : List Pair) → IsNext r (Select system moment takes) → MaySelect r.state.program.now r.state.budget (now r) system moment takes
    → x.program ≡ r.state.program → x.budget ≡ r.state.budget → IsAt (selected r.state.program.now r.state.budget (now r) system moment takes) ((now r).pending ++ takes) x → HasGoneOn r (record r { state = x; count = r.count + 1 })
selected_on r o x system moment takes at may program budget there =
    let s = r.state.program.now in
    let b = r.state.budget in
    let e : Event = Select system moment takes in
    let made = o.going.made in
    let root = o.going.root in
    let going = goes_on s o.leads b r.events.now r.count e at o.going may tt (root.0, root.1, root.2) (omega (arith, made)) (λ p. omega (arith, o.going.births p)) in
    open_then r o e at may x program budget tt going there

-- ---- firings

-- more children can be born than a firing has units
pub has_room : (r : JudgedPart) → IsOpen r → r.count < length r.events.now → HasRoom r.state.budget (now r)
has_room r o below p i there =
    let is : births_at p (now r) ≡ i.births = ap births_of there in
    let most : r.state.budget * suc r.count ≤ r.state.budget * length r.events.now = mul-le-mul_left r.state.budget (omega (arith, below)) in
    omega (arith, is, o.going.births p, most, mul-suc r.state.budget r.count, o.room)

module _ (r : JudgedPart) (o : IsOpen r) (m : Path) (n : ℕ) (at : ℕ) (place : IsPlaceOf (pair m n) r.state.untaken.items at) where
  abbrev h : Situation
  h = now r

  pub place_within : at < length r.state.untaken.items
  place_within = slice_get_within r.state.untaken.items at (pair m n) place.there

  pub pending_there : Contains h.pending (pair m n)
  pending_there = subst (λ (ps : List Pair). Contains ps (pair m n)) o.at.left (at, place_within, get_or_from_slice_get r.state.untaken.items at (pair m n) (pair m n) place.there)

  module _ (done : Done) (answers : Answers r.state.program.now (job_of r.state.program.now h 0 r.state.budget (pair m n)) done) where
    -- it faulted, and so it did not run
    pub not_fired : (kind : fault.Fault) → done.outcome ≡ outcome.Faulted kind → (outs : List Out) (drops : List ℕ) → MayFire r.state.program.now r.state.budget h m n outs drops → ⊥
    not_fired kind is outs drops = none_ran r.state.program.now r.state.budget h o.going.legal m n pending_there done answers kind is outs drops

    module _ (is : IsRan done.outcome) where
      few : IsWithinUnits r.state.budget h (after_put r.state.program.now h done).situation
      few = let w = firings_are_within r.state.program.now r.state.budget h m n _ _ _ _ (ran_is r.state.program.now r.state.budget h o.going.legal m n pending_there done answers is) in record { made = w.made; births = w.births }

      few_made : (after_put r.state.program.now h done).situation.made ≤ h.made + r.state.budget
      few_made = few.made

      -- the count of outputs keeps below the greatest
      pub few_outputs : r.count < length r.events.now → (outputs : ℕ) → outputs ≡ h.made → outputs + outputs_in (log_of done.outcome) < 2 ^ 64
      few_outputs below outputs outputs_are =
          let made = fired_made r.state.program.now r.state.budget h o.going.legal m n pending_there done answers is in
          let most : r.state.budget * suc r.count ≤ r.state.budget * length r.events.now = mul-le-mul_left r.state.budget (omega (arith, below)) in
          omega (arith, made, most, few_made, o.going.made, mul-suc r.state.budget r.count, o.room, outputs_are)

      -- what is left where it is taken
      left_is : remove h.pending at ≡ without (pair m n) h.pending
      left_is = subst (λ (ps : List Pair). remove ps at ≡ without (pair m n) ps) o.at.left (sym place.others)

      pub fired_on : (outs : List Out) (drops : List ℕ) → IsNext r (Fire m n outs drops) → (after_put r.state.program.now h done).outs ≡ outs → (after_put r.state.program.now h done).drops ≡ drops
          → (x : State) → x.program ≡ r.state.program → x.budget ≡ r.state.budget
          → IsAt (record (after_put r.state.program.now h done).situation { timers = map.remove h.timers (pair done.path done.trans); pending = without (pair m n) h.pending }) (remove h.pending at) x
          → HasGoneOn r (record r { state = x; count = r.count + 1 })
      fired_on outs drops next_at same dropped x program budget there =
          let s = r.state.program.now in
          let b = r.state.budget in
          let e : Event = Fire m n outs drops in
          let a = after_put s h done in
          let applies = may_fire s b h o.going.legal m n pending_there done answers is outs drops same dropped in
          let to = fired_to s b h o.going.legal m n pending_there done answers is in
          let then : next s b h e ≡ to = fired_is s b h o.going.legal m n pending_there done answers is in
          let own : ◌≡◌ {A = Pair} (pair done.path done.trans) (pair m n) = (λ i. pair (answers.path i) (answers.trans i)) in
          let at_to : IsAt to to.pending x = subst (λ (ps : List Pair). IsAt to ps x) left_is
          (subst (λ (p : Pair). IsAt (record a.situation { timers = map.remove h.timers p; pending = without (pair m n) h.pending }) (remove h.pending at) x) own there) in
          let at_next : IsAt (next s b h e) (next s b h e).pending x = subst (λ (g : Situation). IsAt g g.pending x) (sym then) at_to in
          let made_is : (next s b h e).made ≡ a.situation.made = ap (λ (g : Situation). g.made) then in
          let made : (next s b h e).made ≤ b * r.count + b = omega (arith, made_is, few_made, o.going.made) in
          let going = goes_on s o.leads b r.events.now r.count e next_at o.going applies tt (subst HasRoot (sym then) (fired_root s b h o.going.legal m n pending_there done answers is o.going.root)) made (λ p. let same : births_at p (next s b h e) ≡ births_at p a.situation = ap (births_at p) then in omega (arith, same, few.births p, o.going.births p)) in
          open_then r o e next_at applies x program budget tt going at_next

-- ---- faults

pub faulted_on : (r : JudgedPart) (o : IsOpen r) (m : Path) (n : ℕ) (kind : fault.Fault) → (at : IsNext r (Fault m n kind)) → Applies r.state.program.now r.state.budget (now r) (Fault m n kind)
    → (x : JudgedPart) → x ≡ record r { fault = Some kind; count = r.count + 1 } → HasGoneOn r x
faulted_on r o m n kind at applies x rest =
    let s = r.state.program.now in
    let f : IsFaulted s r.state.budget r.events.now (r.count + 1) kind = subst (λ (k : ℕ). IsFaulted s r.state.budget r.events.now k kind) (sym (add-one r.count))
    (faults s o.leads r.state.budget r.events.now r.count (Fault m n kind) at o.going applies kind refl) in
    subst (HasGoneOn r) (sym rest) (record { keeps = f; program = refl; budget = refl; events = refl; count = refl })
