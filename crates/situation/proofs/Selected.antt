-- What a selection comes to.
use Rattle.std.proofs.Common.{◌≡◌, ℕ, ◌+◌, ◌<◌, Bool, true, false, List, [], ◌∷◌, ◌++◌, length, Option, Some, None, refl, sym, ap, subst, ◌∙◌, arith}
use Rattle.std.specs.Prelude.{◌&&◌, nat_eq, IsTrue}
use Rattle.estelle_tree.specs.declared.transition.Pair.{Pair}
use Rattle.estelle_tree.specs.declared.transition.Wanted.{Wanted}
use Rattle.estelle_model.specs.declared.event.Event.{Event}
use Rattle.estelle_model.specs.declared.event.Event.TheVariants.{Select}
use Rattle.estelle_model.specs.declared.event.End.TheVariants.{Clock}
use Rattle.estelle_model.specs.Situation.{Situation}
use Rattle.estelle_model.specs.Delays.{has_delays}
use Rattle.estelle_model.specs.Runs.{selected, situation}
use Rattle.estelle_model.specs.Choosers.{Draw}
use Rattle.estelle_model_legality.specs.Situations.{IsLegal}
use Rattle.estelle_model_legality.proofs.Lists.{each_of}
use Rattle.situation_state.specs.declared.state.State.{State}
use Rattle.situation_state.specs.At.{IsAt}
use Rattle.situation_offers.specs.Selections.{IsSelection}
use Rattle.run_history.specs.declared.entry.Entry.{Entry}
use Rattle.run_history.specs.Histories.{project, fires}
use Rattle.run_history.specs.declared.entry.Taken.{Taken}
use Rattle.run_history.specs.Tickets.{tickets, settled_by}
use Rattle.run_history.specs.OpenTickets.{open_in, untaken}
use Rattle.situation_steps.specs.declared.systems.System.{System}
use Rattle.situation_steps.specs.declared.systems.Time.{Time}
use Rattle.situation_steps.specs.Systems.{after_selection}
use Rattle.situation_steps.specs.UnderWay.{IsUnderWay}
use Rattle.situation_steps.proofs.Selections.{selections_go_on}
use Rattle.situation.specs.declared.limits.Stepped.TheVariants as did
use Rattle.situation.specs.declared.execution.Execution.{Execution}
use Rattle.situation.specs.Runs.{noted, IsWithin, IsGoing}
use Rattle.situation.specs.Worlds.{IsKept, HasStepped, IsUnchanged, now, left_in, left_to_do}
use Rattle.situation.specs.Steps.{GoesOn, IsDueAt, MayBeNow}
use Rattle.run_history.proofs.OpenTickets.{tickets_same}
use Rattle.situation.proofs.OpenTickets.{SettlesNone, noted_tickets, noted_open}
use Rattle.situation.proofs.Untaken.{are_once, left_of_selection}
use Rattle.situation.proofs.Flying.{open_are_pending}
use Rattle.situation.specs.Planned.{kept_of}
use Rattle.situation.proofs.Planned.{leads_selected}
use Rattle.situation.proofs.Steps.{project_push, fires_same, counted_event, moment_by}
use Rattle.situation.proofs.Adding.{adds_on}
use Rattle.situation.proofs.Less.{less_selected, left_open}
use Rattle.situation.proofs.Kept.{own, own_is, still_drawn}

-- what is due awaits a selection
and_left : (a b : Bool) → IsTrue (a && b) → a ≡ true
and_left true b h = refl
and_left false b h = h

module _ {H : Type 0} where
  -- the execution with what was selected
  abbrev pub with_selection : Execution H → State → Execution H → ℕ → Execution H
  with_selection c y n moment = record c { state = y; systems = n.systems; time = record c.time { known = moment }; history = n.history; chooser = n.chooser }

  -- a system selects
  pub selected_step : (draw : Draw H) (told : Option ℕ) (c n : Execution H) (at moment : ℕ) (takes : List Pair) (wants : List Wanted)
      → GoesOn 2 c → (due : IsDueAt at c) → MayBeNow told moment c
      → IsSelection draw c.state.program.now c.state.budget (now c) due.first.0.path moment c.chooser n.chooser takes wants
      → (y : State) → y.program ≡ c.state.program → y.budget ≡ c.state.budget
      → IsAt (selected c.state.program.now c.state.budget (now c) due.first.0.path moment takes) (left_in c ++ takes) y
      → n.systems.items ≡ after_selection at due.first.0 (length takes) c.systems.items
      → n.history.entries ≡ c.history.entries ++ noted c.writer (Select due.first.0.path moment takes) ∷ []
      → HasStepped draw told told c (with_selection c y n moment) did.Selected
  selected_step draw told c n at moment takes wants opened due may it y program budget there systems_are entries_are =
      let o = opened.is_open in
      let s = c.state.program.now in
      let b = c.state.budget in
      let t = c.turns in
      let es = c.history.entries in
      let x : System = due.first.0 in
      let undelayed : has_delays s ≡ false → moment ≡ 0 = λ none. may.undelayed (o.delays ∙ none) in
      let h = selections_go_on draw s o.leads b (project es) c.time c.systems.items o.going.under_way at x due.first.1 moment may.no_earlier may.last undelayed it.sound c.chooser takes n.chooser it.chosen in
      let e = noted c.writer (Select x.path moment takes) in
      let none : SettlesNone (Select x.path moment takes) (open_in es) = each_of Taken (λ o. settled_by o.path o.trans (Select x.path moment takes) ≡ false) (open_in es) (λ o here. refl) in
      let still : open_in (es ++ e ∷ []) ≡ open_in es = noted_open es c.writer (Select x.path moment takes) none in
      let after : Time = record c.time { known = moment } in
      let is : project (es ++ e ∷ []) ≡ project es ++ Select x.path moment takes ∷ [] = project_push es e in
      let count : fires (es ++ e ∷ []) ≡ fires es = fires_same es e refl in
      let now_is : situation s b (project (es ++ e ∷ [])) ≡ selected s b (now c) x.path moment takes = ap (situation s b) is ∙ h.situation_is in
      let going : IsGoing s b t (es ++ e ∷ []) after (after_selection at x (length takes) c.systems.items) = record {
        under_way = subst (λ (events : List Event). IsUnderWay s b events after (after_selection at x (length takes) c.systems.items)) (sym is) h.under_way;
        below = omega (arith, count, o.going.below);
        within = subst (λ (g : Situation). IsWithin b (fires (es ++ e ∷ [])) g) (sym now_is)
            (subst (λ (k : ℕ). IsWithin b k (selected s b (now c) x.path moment takes)) (sym count) (record { made = o.going.within.made; births = o.going.within.births }));
        tickets = noted_tickets s b es o.going.tickets c.writer (Select x.path moment takes) none;
        counted = counted_event es c.writer (Select x.path moment takes) o.going.counted;
      } in
      let same = own_is c y program budget in
      let later : Situation = selected s b (now c) x.path moment takes in
      let legal : IsLegal s later = subst (IsLegal s) now_is going.under_way.legal in
      let left_is : left_in c ++ takes ≡ untaken (open_in (es ++ e ∷ [])) ((now c).pending ++ takes) =
      sym (left_of_selection (open_in es) (now c).pending takes (are_once s later legal.pending) (open_are_pending s o.leads b es o.going.under_way.run o.going.tickets)) ∙ ap (λ (os : List Taken). untaken os ((now c).pending ++ takes)) (sym still) in
      let there_now : IsAt (situation s b (project (es ++ e ∷ []))) (untaken (open_in (es ++ e ∷ [])) (situation s b (project (es ++ e ∷ []))).pending) (own c y) =
      subst (λ (g : Situation). IsAt g (untaken (open_in (es ++ e ∷ [])) g.pending) (own c y)) (sym now_is) (subst (λ (ps : List Pair). IsAt later ps (own c y)) left_is (subst (IsAt later (left_in c ++ takes)) same there)) in
      let new = with_selection c (own c y) n moment in
      let fired : fires n.history.entries ≡ fires es = ap fires entries_are ∙ count in
      subst (λ (z : State). HasStepped draw told told c (with_selection c z n moment) did.Selected) (sym same) (record {
        keeps = subst (IsKept new) (sym opened.unended) (record {
          leads = o.leads;
          room = o.room;
          delays = o.delays;
          going = subst (λ (xs : List Entry). IsGoing s b t xs after n.systems.items) (sym entries_are) (subst (λ (ys : List System). IsGoing s b t (es ++ e ∷ []) after ys) (sym systems_are) going);
          at = subst (λ (xs : List Entry). IsAt (situation s b (project xs)) (untaken (open_in xs) (situation s b (project xs)).pending) (own c y)) (sym entries_are) there_now;
          flying = o.flying ∙ sym (ap open_in entries_are ∙ still);
          taken = ap (λ (xs : List Entry). length (tickets xs)) entries_are ∙ ap length (tickets_same es e refl) ∙ o.taken;
          fired = o.fired ∙ (λ i. sym fired i + length (sym (ap open_in entries_are ∙ still) i));
          limit = λ q here. subst (λ (k : ℕ). k < t) (sym fired) due.below;
        });
        goes_on = record {
          program = refl;
          limits = refl;
          writer = refl;
          planned = λ known is_told. leads_selected draw s b t es c.chooser c.time known x.path moment takes n.chooser due.below
              (h.planned (kept_of c.chooser c.time known) refl refl (moment_by (has_delays s) known told c.time.known moment is_told may.no_earlier undelayed (λ some. may.told (o.delays ∙ some))))
              n.history.entries (ap project entries_are ∙ is) told is_told;
        };
        leaves = less_selected (fires n.history.entries) (fires es) t c.time.may_wait c.systems.items n.systems.items at x (length takes) (left_to_do new) (left_to_do c) fired due.first.1.there
            (and_left x.awaits (nat_eq x.pending 0) due.first.1.due) systems_are (left_open new opened.unended) (left_open c opened.unended);
        adds = adds_on c.writer t c.end es n.history.entries did.Selected opened.unended (x.path, moment, takes, entries_are);
        waits = refl;
        ends = λ clocked. let wrong : None ≡ Some Clock = sym opened.unended ∙ clocked in absurd (cc);
      })

  -- it has selected, by a chooser that is left as it is now
  pub selected_by : (draw : Draw H) (told : Option ℕ) (first : H) (c n : Execution H) → n.chooser ≡ c.chooser → (at moment : ℕ) (takes : List Pair) (wants : List Wanted)
      → GoesOn 2 c → (due : IsDueAt at c) → MayBeNow told moment c
      → IsSelection draw c.state.program.now c.state.budget (now c) due.first.0.path moment first c.chooser takes wants
      → (y : State) → y.program ≡ c.state.program → y.budget ≡ c.state.budget
      → IsAt (selected c.state.program.now c.state.budget (now c) due.first.0.path moment takes) (left_in c ++ takes) y
      → n.systems.items ≡ after_selection at due.first.0 (length takes) c.systems.items
      → n.history.entries ≡ c.history.entries ++ noted c.writer (Select due.first.0.path moment takes) ∷ []
      → HasStepped draw told told (record c { chooser = first }) (with_selection c y n moment) did.Selected
  selected_by draw told first c n same at moment takes wants opened due may it =
      selected_step draw told (record c { chooser = first }) n at moment takes wants (still_drawn c first 2 opened) (record { first = due.first; below = due.below })
      (record { no_earlier = may.no_earlier; last = may.last; undelayed = may.undelayed; told = may.told })
      (subst (λ (h : H). IsSelection draw c.state.program.now c.state.budget (now c) due.first.0.path moment first h takes wants) (sym same) it)

  -- ---- refusals

  -- where it is as before the selection, it is as before the chooser was asked
  pub unchanged_before : (c : Execution H) (chooser : H) (n : Execution H) → IsUnchanged (record c { chooser = chooser }) n → IsUnchanged c n
  unchanged_before c chooser n same = record { keeps = same.keeps; program = same.program; limits = same.limits; writer = same.writer; entries = same.entries; time = same.time; systems = same.systems }
