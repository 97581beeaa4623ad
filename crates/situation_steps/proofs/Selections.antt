-- After a selection the run goes on: its firings are pending, the timers of its system are renewed, and other systems stay as they are.
use Rattle.std.proofs.Common.{◌≡◌, ℕ, ◌<◌, ◌≤◌, Bool, true, false, not, List, [], ◌∷◌, ◌++◌, length, drop, Option, Some, None, refl, sym, ap, subst, cond, ◌∙◌, inl, inr, arith, length-append}
use Rattle.std.specs.Prelude.{◌^◌, ◌&&◌, ◌||◌, is_some, nat_lt}
use Rattle.std.specs.List.{list_any, AllByRecursion}
use Rattle.std.specs.FinMap as map
use Rattle.std.specs.Str.{bytes_eq}
use Rattle.std.proofs.lemmas.Bool.{leb-true, le-leb}
use Rattle.std.proofs.lemmas.List.{drop-append-le}
use Rattle.estelle_tree.specs.declared.transition.Pair.{Pair}
use Rattle.estelle_tree.specs.Paths.{Path, is_inside}
use Rattle.estelle_tree.specs.Timers.{Timer, pair, due, low_is_over}
use Rattle.estelle_model.specs.declared.event.Event.{Event}
use Rattle.estelle_model.specs.declared.event.Event.TheVariants.{Select}
use Rattle.estelle_model.specs.declared.job.Guard.{Guard}
use Rattle.estelle_model.specs.declared.job.Guard.TheVariants.{Off, On, Faulted}
use Rattle.estelle_model.specs.Subject.{Subject}
use Rattle.estelle_model.specs.Situation.{Situation}
use Rattle.estelle_model.specs.Firing.{guard}
use Rattle.estelle_model.specs.Attributes.{IsSystem}
use Rattle.estelle_model.specs.Delays.{is_on, has_delay, has_delays, renew}
use Rattle.estelle_model.specs.Selection.{Selects}
use Rattle.estelle_model.specs.Choosers.{Draw}
use Rattle.estelle_model.specs.Runs.{NoGuardFaults, IsIdle, MaySelect, selected, situation}
use Rattle.estelle_model.specs.Ends.{IsNoFault}
use Rattle.estelle_model.specs.Schedule.{Chosen, IsFirstDue, selects, awaits, awaits_clock}
use Rattle.estelle_model_legality.specs.Instances.{LeadsToStates}
use Rattle.estelle_model_legality.specs.Situations.{IsLegal}
use Rattle.estelle_model_legality.specs.Pending.{AreInOrder}
use Rattle.estelle_model_legality.specs.Choices.{AreTree}
use Rattle.estelle_model_legality.proofs.Lists.{any_append, path_is, same_path, not_both, not_true}
use Rattle.estelle_model_legality.proofs.Members.{Has, has_got, contains_has, has_contained}
use Rattle.estelle_model_legality.proofs.Ways.{comparable}
use Rattle.estelle_model_legality.proofs.Systems.{legal_tree, one_system}
use Rattle.estelle_model_legality.proofs.Delays.{renewed_bounded}
use Rattle.estelle_model_legality.proofs.Choosing as choosing
use Rattle.estelle_model_legality.proofs.Selected as together
use Rattle.estelle_model_legality.proofs.Keeping.{events_keep}
use Rattle.situation_steps.specs.declared.systems.System.{System}
use Rattle.situation_steps.specs.declared.systems.Time.{Time}
use Rattle.situation_steps.specs.Systems.{systems_of, count_inside, IsKept, IsFirstDueAt, after_selection}
use Rattle.situation_steps.specs.UnderWay.{AreBelowSystems, IsSettledIfDone, WillSelect, WillFire, IsUnderWay, HasRoot}
use Rattle.situation_steps.specs.Laws.{HasSelected, SelectionsGoOn}
use Rattle.situation_steps.proofs.Going.{last-push, IsRun-push, situation-push, awaits-push}
use Rattle.situation_steps.proofs.Reading.{guard_same}
use Rattle.situation_steps.proofs.Undelayed.{renewed_untimed}
use Rattle.situation_steps.proofs.Renewing.{may_at, timer_elsewhere, has_timer, has_no_timer, guard_renewed, guard_sound, guard_elsewhere, may_renewed}
use Rattle.situation_steps.proofs.SelectionsSystems.{empty_of, count_all, count_none, count_both, set_paths, set_all, set_has, kept_rise, kept_is_system, due_is_idle, first_is_due}
use Rattle.situation_steps.proofs.SelectionsSilent.{first_empty, second_empty, nothing_may}

-- ---- tests

or_false : (b : Bool) → (b || false) ≡ b
or_false true = refl
or_false false = refl

or_true : (a b : Bool) → (a && not (b || true)) ≡ false
or_true true true = refl
or_true true false = refl
or_true false b = refl

-- ---- a delay that is over stays over

still_over : (known now : ℕ) → known ≤ now → (o : Option Timer) → low_is_over known o ≡ true → low_is_over now o ≡ true
still_over known now later None e = absurd (cc)
still_over known now later (Some t) e = let before = leb-true (due t) known e in le-leb (due t) now (omega (arith, before))

over_may : (now : ℕ) (o : Option Timer) → low_is_over now o ≡ true → (b : Bool) (x : Guard) → is_on x ≡ true → may_at now o b x ≡ true
over_may now o e b Off on = absurd (cc)
over_may now o e b (Faulted kind) on = absurd (cc)
over_may now None e b (On low high) on = absurd (cc)
over_may now (Some t) e true (On low high) on = e
over_may now (Some t) e false (On low high) on = refl

module _ {C : Type 0} (draw : Draw C) (s : Subject) (leads : LeadsToStates s) (budget : ℕ) (es : List Event) (time : Time) (systems : List System) (w : IsUnderWay s budget es time systems)
    (at : ℕ) (x : System) (first : IsFirstDueAt systems at x) (now : ℕ) (later : time.known ≤ now) (moment : now < 2 ^ 64) (undelayed : has_delays s ≡ false → now ≡ 0)
    (sound : NoGuardFaults s budget (situation s budget es) x.path)
    (c : C) (takes : List Pair) (rest : C) (chosen : Chosen draw s budget (renew s budget (situation s budget es) x.path now) x.path c takes rest) where
  abbrev g : Situation
  g = situation s budget es

  abbrev h : Situation
  h = renew s budget g x.path now

  abbrev e : Event
  e = Select x.path now takes

  abbrev after : Situation
  after = selected s budget g x.path now takes

  abbrev new : System
  new = record x { awaits = false; pending = length takes }

  among : Has systems x
  among = has_got systems at x first.there

  is : IsSystem s g x.path
  is = kept_is_system s budget es time systems w x among

  idle : IsIdle g x.path
  idle = due_is_idle s budget es time systems w x among first.due

  tree : AreTree s g.core.instances
  tree = legal_tree s g.core.instances w.legal.instances

  in_order : AreInOrder h
  in_order = renewed_bounded s budget g x.path now w.legal.timers

  all_selected : Selects s budget h x.path takes
  all_selected = choosing.selected s budget h tree in_order draw chosen

  applies : MaySelect s budget g x.path now takes
  applies = record {
    is_system = is;
    idle = idle;
    no_earlier = (let before = w.no_later in omega (arith, before));
    moment = moment;
    sound = sound;
    selects = all_selected;
  }

  after_is : situation s budget (es ++ e ∷ []) ≡ after
  after_is = situation-push s budget es e w.run

  takes_inside : (p : Pair) → Has takes p → is_inside x.path p.path ≡ true
  takes_inside = (together.selected s budget h all_selected).inside

  -- what is inside of another system is not inside of this one
  elsewhere : (y : System) → Has systems y → (y.path ≡ x.path → ⊥) → (m : Path) → is_inside y.path m ≡ true → is_inside x.path m ≡ false
  elsewhere y has apart m inside = not_true (is_inside x.path m) (λ t. elim (comparable x.path y.path m t inside) [
    | inl i ↦ apart (one_system s g tree x.path y.path is (kept_is_system s budget es time systems w y has) i)
    | inr i ↦ apart (sym (one_system s g tree y.path x.path (kept_is_system s budget es time systems w y has) is i))
  ])

  -- ---- what is known after it

  below : AreBelowSystems s after
  below p key = by (is_inside x.path p.path) refl
    where
      by : (b : Bool) → is_inside x.path p.path ≡ b → (system : Path) × IsSystem s after system × (is_inside system p.path ≡ true)
      by true inside = (x.path, is, inside)
      by false outside = w.below p (sym (ap is_some (timer_elsewhere s budget g x.path now p outside)) ∙ key)

  after_guard : (m : Path) (n : ℕ) → guard s budget after m n ≡ guard s budget h m n
  after_guard m n = guard_same s budget h (g.pending ++ takes) m n

  -- where nothing is selected, nothing may be
  nothing : takes ≡ [] → (m : Path) (n : ℕ) → is_inside x.path m ≡ true → may_at now (map.get g.timers (pair m n)) (has_delay s g m n) (guard s budget g m n) ≡ false
  nothing none m n inside = sym (may_renewed s budget g x.path now m n inside (λ kind. sound m n kind inside)) ∙ nothing_may s budget h tree draw chosen none m n inside

  fires_first : time.may_wait ≡ false → WillFire s budget after now (after_selection at x (length takes) systems)
  fires_first waited = by (w.fires_first waited)
    where
      of_other : (will : WillSelect s budget g time.known systems) → (b : Bool) → is_inside x.path will.over.path ≡ b → WillFire s budget after now (after_selection at x (length takes) systems)
      of_other will true inside = inl (λ none.
          let may_be = over_may now (map.get g.timers (pair will.over.path will.over.trans)) (still_over time.known now later _ will.over.over) (has_delay s g will.over.path will.over.trans) (guard s budget g will.over.path will.over.trans) will.over.enabled in
          not_both _ may_be (nothing (second_empty g.pending takes none) will.over.path will.over.trans inside))
      of_other will false outside = inr (record {
        system = will.system;
        among = contains_has (after_selection at x (length takes) systems) will.system
            (set_has systems at x new first.there will.system (has_contained systems will.system will.among)
            (λ same. not_both (is_inside x.path will.over.path) (ap (λ (y : System). is_inside y.path will.over.path) (sym same) ∙ will.over.inside) outside));
        awaits = will.awaits;
        over = record {
          path = will.over.path;
          trans = will.over.trans;
          inside = will.over.inside;
          enabled = ap is_on (after_guard will.over.path will.over.trans ∙ guard_elsewhere s budget g x.path now will.over.path will.over.trans outside) ∙ will.over.enabled;
          over = ap (low_is_over now) (timer_elsewhere s budget g x.path now (pair will.over.path will.over.trans) outside) ∙ still_over time.known now later _ will.over.over;
        };
      })

      by : WillFire s budget g time.known systems → WillFire s budget after now (after_selection at x (length takes) systems)
      by (inl some) = inl (λ none. some (first_empty g.pending takes none))
      by (inr will) = of_other will (is_inside x.path will.over.path) refl

  -- ---- which systems await a selection

  clock_is : (p : Path) → awaits_clock p time.waited (es ++ e ∷ []) ≡ (nat_lt 0 time.waited && not (list_any (selects p) (drop time.waited es) || bytes_eq x.path p))
  clock_is p =
      ap (λ (ds : List Event). nat_lt 0 time.waited && not (list_any (selects p) ds)) (drop-append-le time.waited es (e ∷ []) w.waited)
      ∙ ap (λ b. nat_lt 0 time.waited && not b) (any_append Event (selects p) (drop time.waited es) e)

  awaits_is : (p : Path) → awaits s budget p (es ++ e ∷ []) ≡ cond (bytes_eq x.path p) false (awaits s budget p es)
  awaits_is p = awaits-push s budget p es e w.run

  new_kept : IsKept s budget (es ++ e ∷ []) time.waited new
  new_kept = record {
    awaits = sym (
        ap (λ b. b || awaits_clock x.path time.waited (es ++ e ∷ [])) (awaits_is x.path ∙ ap (λ b. cond b false (awaits s budget x.path es)) (path_is x.path))
        ∙ clock_is x.path
        ∙ ap (λ b. nat_lt 0 time.waited && not (list_any (selects x.path) (drop time.waited es) || b)) (path_is x.path)
        ∙ or_true (nat_lt 0 time.waited) (list_any (selects x.path) (drop time.waited es))
        );
    pending = pending_is ∙ sym (ap (λ (y : Situation). count_inside x.path y.pending) after_is);
  }
    where
      pending_is : length takes ≡ count_inside x.path (g.pending ++ takes)
      pending_is =
          let sum = count_both (λ (p : Pair). is_inside x.path p.path) g.pending takes in
          let none = count_none (λ (p : Pair). is_inside x.path p.path) g.pending (λ p has. not_true (is_inside x.path p.path) (idle p (contains_has g.pending p has))) in
          let all = count_all (λ (p : Pair). is_inside x.path p.path) takes takes_inside in
          omega (arith, sum, none, all)

  other_kept : (y : System) → Has systems y → (y.path ≡ x.path → ⊥) → IsKept s budget es time.waited y → IsKept s budget (es ++ e ∷ []) time.waited y
  other_kept y has apart k = record {
    awaits = k.awaits ∙ sym (λ i. awaits_same i || clock_same i);
    pending = k.pending ∙ pending_is ∙ sym (ap (λ (z : Situation). count_inside y.path z.pending) after_is);
  }
    where
      differs : bytes_eq x.path y.path ≡ false
      differs = not_true (bytes_eq x.path y.path) (λ t. apart (sym (same_path x.path y.path t)))

      awaits_same : awaits s budget y.path (es ++ e ∷ []) ≡ awaits s budget y.path es
      awaits_same = awaits_is y.path ∙ ap (λ b. cond b false (awaits s budget y.path es)) differs

      clock_same : awaits_clock y.path time.waited (es ++ e ∷ []) ≡ awaits_clock y.path time.waited es
      clock_same =
          clock_is y.path ∙ ap (λ b. nat_lt 0 time.waited && not (list_any (selects y.path) (drop time.waited es) || b)) differs
          ∙ ap (λ b. nat_lt 0 time.waited && not b) (or_false (list_any (selects y.path) (drop time.waited es)))

      pending_is : count_inside y.path g.pending ≡ count_inside y.path (g.pending ++ takes)
      pending_is =
          let sum = count_both (λ (p : Pair). is_inside y.path p.path) g.pending takes in
          let none = count_none (λ (p : Pair). is_inside y.path p.path) takes (λ p of_takes. not_true (is_inside y.path p.path) (λ t. not_both (is_inside x.path p.path) (takes_inside p of_takes) (elsewhere y has apart p.path t))) in
          omega (arith, sum, none)

  -- ---- what has settled

  new_settled : IsSettledIfDone s budget after new
  new_settled awaits_none none = record {
    sound = λ m n kind inside faults. guard_sound s budget g x.path now m n inside (λ k. sound m n k inside) kind (sym (after_guard m n) ∙ faults);
    timed = λ m n inside. ap is_on (after_guard m n) ∙ guard_renewed s budget g x.path now m n inside (λ k. sound m n k inside) ∙ timed m n inside (has_delay s g m n) refl;
  }
    where
      off : (o : Option Timer) (y : Guard) → may_at now o false y ≡ false → is_on y ≡ false
      off o Off e = refl
      off o (On low high) e = absurd (cc)
      off o (Faulted kind) e = refl

      timed : (m : Path) (n : ℕ) → is_inside x.path m ≡ true → (b : Bool) → has_delay s g m n ≡ b → is_on (guard s budget g m n) ≡ map.contains_key h.timers (pair m n)
      timed m n inside true delayed = sym (has_timer s budget g x.path now m n inside delayed)
      timed m n inside false undelayed =
          off (map.get g.timers (pair m n)) (guard s budget g m n) (ap (λ b. may_at now (map.get g.timers (pair m n)) b (guard s budget g m n)) (sym undelayed) ∙ nothing (empty_of takes none) m n inside)
          ∙ sym (has_no_timer s budget g x.path now m n inside undelayed)

  other_settled : (y : System) → Has systems y → (y.path ≡ x.path → ⊥) → IsSettledIfDone s budget g y → IsSettledIfDone s budget after y
  other_settled y has apart was awaits_none none = let k = was awaits_none none in record {
    sound = λ m n kind inside faults. k.sound m n kind inside (sym (same m n inside) ∙ faults);
    timed = λ m n inside. ap is_on (same m n inside) ∙ k.timed m n inside ∙ sym (ap is_some (timer_elsewhere s budget g x.path now (pair m n) (elsewhere y has apart m inside)));
  }
    where
      same : (m : Path) (n : ℕ) → is_inside y.path m ≡ true → guard s budget after m n ≡ guard s budget g m n
      same m n inside = after_guard m n ∙ guard_elsewhere s budget g x.path now m n (elsewhere y has apart m inside)

  has_selected : HasSelected draw s budget es time systems at x now c takes rest
  has_selected = record {
    under_way = record {
      run = IsRun-push s budget es e w.run w.goes_on applies;
      goes_on = subst IsNoFault (sym (last-push es e)) tt;
      legal = subst (IsLegal s) (sym after_is) (events_keep s leads budget g w.legal e applies);
      root = subst HasRoot (sym after_is) w.root;
      below = subst (AreBelowSystems s) (sym after_is) below;
      untimed = λ never. ap (λ (y : Situation). y.timers) after_is ∙ renewed_untimed s budget g x.path now never (w.untimed never);
      no_later = subst (λ (y : Situation). y.now ≤ now) (sym after_is) (omega arith);
      undelayed = undelayed;
      waited = (let before = w.waited in omega (arith, before, length-append es (e ∷ [])));
      fires_first = λ waited. subst (λ (y : Situation). WillFire s budget y now (after_selection at x (length takes) systems)) (sym after_is) (fires_first waited);
      all = set_paths systems at x new first.there refl ∙ w.all ∙ sym (ap (systems_of s) after_is);
      kept = set_all (IsKept s budget es time.waited) (IsKept s budget (es ++ e ∷ []) time.waited) systems at x new first.there (kept_rise s budget es time systems w) w.kept new_kept other_kept;
      settled = subst (λ (y : Situation). AllByRecursion (IsSettledIfDone s budget y) (after_selection at x (length takes) systems)) (sym after_is)
          (set_all (IsSettledIfDone s budget g) (IsSettledIfDone s budget after) systems at x new first.there (kept_rise s budget es time systems w) w.settled new_settled other_settled);
    };
    situation_is = after_is;
    planned = λ kept is_c is_waited is_moment. record {
      due = subst (λ (n : ℕ). IsFirstDue s budget es n x.path) (sym is_waited) (first_is_due s budget es time systems w at x first);
      moment = is_moment;
      chosen = subst (λ (k : C). Chosen draw s budget h x.path k takes rest) (sym is_c) chosen;
    };
  }

pub selections_go_on : {C : Type 0} → SelectionsGoOn C
selections_go_on draw s leads budget es time systems w at x first now later moment undelayed sound c takes rest chosen =
    has_selected draw s leads budget es time systems w at x first now later moment undelayed sound c takes rest chosen
