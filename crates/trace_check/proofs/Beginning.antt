-- What is kept of a trace after its first event.
use Rattle.std.proofs.Common.{◌≡◌, ℕ, suc, ◌+◌, ◌*◌, ◌<◌, ◌≤◌, ◌^◌, List, [], take, length, Some, refl, sym, ap, subst, ◌∙◌, arith}
use Rattle.std.specs.Prelude.{slice_get}
use Rattle.std.proofs.Math.Nat.{mul-le-mul_left}
use Rattle.std.proofs.lemmas.Option.{slice_get_within}
use Rattle.pascal_values.specs.declared.fault.Fault as fault
use Rattle.estelle_tree.specs.declared.transition.Pair.{Pair}
use Rattle.estelle_tree.specs.Paths.{Path}
use Rattle.estelle_model.specs.declared.event.Event.{Event}
use Rattle.estelle_model.specs.declared.event.Event.TheVariants.{Start, Select, Fire, Fault}
use Rattle.estelle_model.specs.declared.effect.Out.{Out}
use Rattle.estelle_model.specs.declared.job.Done.{Done}
use Rattle.estelle_model.specs.declared.job.Outcome.TheVariants as outcome
use Rattle.estelle_model.specs.Subject.{Subject}
use Rattle.estelle_model.specs.Situation.{Situation, Acting}
use Rattle.estelle_model.specs.Firing.{bare}
use Rattle.estelle_model.specs.Jobs.{Answers}
use Rattle.estelle_model_legality.specs.Instances.{LeadsToStates}
use Rattle.estelle_model.specs.Runs.{IsRun}
use Rattle.effect_log.specs.Putting.{IsRan, after_put}
use Rattle.effect_log.specs.Rooms.{HasRoomFor}
use Rattle.situation_units.proofs.Weighing.{starts_are_within}
use Rattle.trace_check.specs.declared.judged_part.JudgedPart.{JudgedPart}
use Rattle.situation_units.specs.Counting.{births_at}
use Rattle.situation_units.proofs.Bare.{no_births}
use Rattle.situation_state.specs.declared.state.State.{State}
use Rattle.situation_state.specs.At.{IsAt, NothingNoted}
use Rattle.situation_state.specs.Firings.{MayFire, IsFired}
use Rattle.situation_state.proofs.Fired.{at_fired}
use Rattle.estelle_model_legality.specs.Jobs.{start_job}
use Rattle.trace_check.specs.JudgedParts.{IsKept, IsNext, HasGoneOn, IsFresh, IsOf, HasBegun, MayBegin, FailsFirst}
use Rattle.trace_check.proofs.Starting.{start_answers, start_is, start_fails, started_to, started_at, started_made, no_start, no_first_selection, no_first_firing, first_told, first_faulted, no_first_select, no_first_fire, no_first_fault, start_told, first_is, start_goes}

module _ (r : JudgedPart) (fresh : IsFresh r) (e : Event) (at : IsNext r e) where
  pub first_at : slice_get r.events.now 0 ≡ Some e
  first_at = subst (λ (k : ℕ). slice_get r.events.now k ≡ Some e) fresh.count at

  pub first_run : IsRun r.state.program.now r.state.budget (take (suc r.count) r.events.now) → IsRun r.state.program.now r.state.budget (take 1 r.events.now)
  first_run run = subst (λ (k : ℕ). IsRun r.state.program.now r.state.budget (take (suc k) r.events.now)) fresh.count run

  one_more : 1 ≡ r.count + 1
  one_more = let none = fresh.count in omega (arith, none)

-- ---- it ran

module _ (r : JudgedPart) (done : Done) (may : MayBegin r done) (is : IsRan done.outcome) where
  abbrev s : Subject
  s = r.state.program.now

  abbrev b : ℕ
  b = r.state.budget

  abbrev a : Acting
  a = after_put s (bare s) done

  few_made : a.situation.made ≤ b
  few_made = let u = (starts_are_within s b _ _ _ _ (start_is s b done may.answers is)).made in omega (arith, u)

  few_births : (p : Path) → births_at p a.situation ≤ b
  few_births p = let u : births_at p a.situation ≤ births_at p (bare s) + b = (starts_are_within s b _ _ _ _ (start_is s b done may.answers is)).births p in omega (arith, u, no_births s p)

  pub may_put_first : MayFire (bare s) r.state done
  may_put_first = record {
    may = record {
      ran = is;
      stands = may.fresh.at.stands;
      answers = start_answers s b done may.answers is;
      room = may.room_for;
      numbers =
          let none : r.state.shared.outputs ≡ 0 = may.fresh.at.stands.outputs in
          let made = started_made s b done may.answers is in
          let most : b * 1 ≤ b * length r.events.now = mul-le-mul_left b may.some in
          omega (arith, none, made, few_made, most, may.room);
    };
    empty = may.fresh.at.empty;
  }

  pub start_on : (outs : List Out) (drops : List ℕ) → IsNext r (Start outs drops) → (x y : State) → IsFired (bare s) r.state x done → NothingNoted y.notes → y ≡ record x { notes = y.notes } → a.outs ≡ outs → a.drops ≡ drops
      → HasGoneOn r (record r { state = y; count = 1 })
  start_on outs drops at x y fired empty rest same dropped =
      let here = first_at r may.fresh (Start outs drops) at in
      let first = first_is s b done may.answers is r.events.now outs drops here in
      let there = started_at s b done may.answers is y (at_fired (bare s) [] a.situation.pending r.state x y done may_put_first may.fresh.at fired empty rest) in
      let program : y.program ≡ r.state.program = ap (λ (c : State). c.program) rest ∙ ap (λ (c : State). c.program) fired.rest in
      let budget : y.budget ≡ b = ap (λ (c : State). c.budget) rest ∙ ap (λ (c : State). c.budget) fired.rest in
      let z : State = record y { program = r.state.program; budget = b } in
      let own : y ≡ z = (λ i. record y { program = program i; budget = budget i }) in
      let m : JudgedPart = record r { state = z; count = 1 } in
      subst (λ (c : State). HasGoneOn r (record r { state = c; count = 1 })) (sym own) (record {
        keeps = subst (IsKept m) (sym may.fresh.unended) (record {
          unended = may.fresh.unended;
          leads = may.leads;
          few = may.few;
          room = may.room;
          going = start_goes s b done may.answers is r.events.now outs drops here may.leads same dropped few_made few_births;
          at = subst (λ (g : Situation). IsAt g g.pending z) (sym first) (subst (IsAt (started_to s b done may.answers is) (started_to s b done may.answers is).pending) own there);
        });
        program = refl;
        budget = refl;
        events = refl;
        count = one_more r may.fresh (Start outs drops) at;
      })

  pub not_so_started : (outs : List Out) (drops : List ℕ) → IsNext r (Start outs drops) → ((a.outs ≡ outs) × (a.drops ≡ drops) → ⊥) → IsRun s b (take (suc r.count) r.events.now) → ⊥
  not_so_started outs drops at wrong run =
      wrong (start_told s b done may.answers is r.events.now outs drops (first_at r may.fresh (Start outs drops) at) (first_run r may.fresh (Start outs drops) at run))

  pub select_first : (system : Path) (now : ℕ) (takes : List Pair) → IsNext r (Select system now takes) → IsRun s b (take (suc r.count) r.events.now) → ⊥
  select_first system now takes at run = no_first_select s b done may.answers is r.events.now system now takes (first_at r may.fresh (Select system now takes) at) (first_run r may.fresh (Select system now takes) at run)

  pub fire_first : (m : Path) (n : ℕ) (outs : List Out) (drops : List ℕ) → IsNext r (Fire m n outs drops) → IsRun s b (take (suc r.count) r.events.now) → ⊥
  fire_first m n outs drops at run = no_first_fire s b done may.answers is r.events.now m n outs drops (first_at r may.fresh (Fire m n outs drops) at) (first_run r may.fresh (Fire m n outs drops) at run)

  pub fault_first : (m : Path) (n : ℕ) (kind : fault.Fault) → IsNext r (Fault m n kind) → IsRun s b (take (suc r.count) r.events.now) → ⊥
  fault_first m n kind at run = no_first_fault s b done may.answers is r.events.now m n kind (first_at r may.fresh (Fault m n kind) at) (first_run r may.fresh (Fault m n kind) at run)

-- ---- it faulted

pub fails_first : (r : JudgedPart) (done : Done) → MayBegin r done → (kind : fault.Fault) → done.outcome ≡ outcome.Faulted kind → FailsFirst r kind
fails_first r done may kind is = (done.left, start_fails r.state.program.now r.state.budget done may.answers kind is)

module _ (r : JudgedPart) (fresh : IsFresh r) (own : fault.Fault) (fails : FailsFirst r own) where
  pub fail_on : (m : Path) (n : ℕ) (kind : fault.Fault) → IsNext r (Fault m n kind) → m ≡ [] → n ≡ 0 → kind ≡ own → (x : JudgedPart) → x ≡ record r { fault = Some own; count = 1 } → HasGoneOn r x
  fail_on m n kind at path trans same x rest = subst (HasGoneOn r) (sym rest) (record {
    keeps = first_faulted r.state.program.now r.state.budget r.events.now own fails.0 fails.1 m n kind (first_at r fresh (Fault m n kind) at) path trans same;
    program = refl;
    budget = refl;
    events = refl;
    count = one_more r fresh (Fault m n kind) at;
  })

  pub fault_told : (m : Path) (n : ℕ) (kind : fault.Fault) → IsNext r (Fault m n kind) → IsRun r.state.program.now r.state.budget (take (suc r.count) r.events.now) → (m ≡ []) × (n ≡ 0) × (kind ≡ own)
  fault_told m n kind at run = first_told r.state.program.now r.state.budget r.events.now own fails.0 fails.1 m n kind (first_at r fresh (Fault m n kind) at) (first_run r fresh (Fault m n kind) at run)

  pub start_failed : (outs : List Out) (drops : List ℕ) → IsNext r (Start outs drops) → IsRun r.state.program.now r.state.budget (take (suc r.count) r.events.now) → ⊥
  start_failed outs drops at run = no_start r.state.program.now r.state.budget r.events.now own fails.0 fails.1 outs drops (first_at r fresh (Start outs drops) at) (first_run r fresh (Start outs drops) at run)

  pub select_failed : (system : Path) (now : ℕ) (takes : List Pair) → IsNext r (Select system now takes) → IsRun r.state.program.now r.state.budget (take (suc r.count) r.events.now) → ⊥
  select_failed system now takes at run = no_first_selection r.state.program.now r.state.budget r.events.now own fails.0 fails.1 system now takes (first_at r fresh (Select system now takes) at) (first_run r fresh (Select system now takes) at run)

  pub fire_failed : (m : Path) (n : ℕ) (outs : List Out) (drops : List ℕ) → IsNext r (Fire m n outs drops) → IsRun r.state.program.now r.state.budget (take (suc r.count) r.events.now) → ⊥
  fire_failed m n outs drops at run = no_first_firing r.state.program.now r.state.budget r.events.now own fails.0 fails.1 m n outs drops (first_at r fresh (Fire m n outs drops) at) (first_run r fresh (Fire m n outs drops) at run)

-- ---- before it

-- with the room for what was done
pub may_begin : (s : Subject) (budget : ℕ) (events : List Event) (f : JudgedPart) (y : State) (done : Done) → IsFresh f → IsOf s budget events f → LeadsToStates s → length events < 2 ^ 31 → budget * length events < 2 ^ 63 → (first : Event) → slice_get events 0 ≡ Some first
    → Answers s (start_job s budget) done → y.program ≡ f.state.program → y.budget ≡ f.state.budget → ((g : Situation) (ps : List Pair) → IsAt g ps f.state → IsAt g ps y) → HasRoomFor done.outcome y.shared y.notes → MayBegin (record f { state = y }) done
may_begin s budget events f y done fresh of leads few room first at answers program budget_is same room_for =
    let some : 1 ≤ length events = slice_get_within events 0 first at in
    let events_are : events ≡ f.events.now = sym of.events_are in
    let program_is : y.program.now ≡ s = ap (λ p. p.now) program ∙ of.program in
    let units : y.budget ≡ budget = budget_is ∙ of.budget_is in
    let its : ◌≡◌ {A = ℕ × List Event} (budget, events) (y.budget, f.events.now) = (λ i. (sym units i, events_are i)) in
    let own : ◌≡◌ {A = Subject × ℕ} (s, budget) (y.program.now, y.budget) = (λ i. (sym program_is i, sym units i)) in
    record {
      fresh = record {
        unended = fresh.unended;
        count = fresh.count;
        at = subst (λ (x : Subject). IsAt (bare x) [] y) (sym (ap (λ p. p.now) program)) (same (bare f.state.program.now) [] fresh.at);
      };
      leads = subst LeadsToStates (sym program_is) leads;
      few = subst (λ (es : List Event). length es < 2 ^ 31) events_are few;
      some = subst (λ (es : List Event). 1 ≤ length es) events_are some;
      room = subst (λ (x : ℕ × List Event). x.0 * length x.1 < 2 ^ 63) its room;
      answers = subst (λ (x : Subject × ℕ). Answers x.0 (start_job x.0 x.1) done) own answers;
      room_for = room_for;
    }

-- ---- after it

module _ (s : Subject) (budget : ℕ) (events : List Event) (f : JudgedPart) (y : State) (of : IsOf s budget events f) (program : y.program ≡ f.state.program) (budget_is : y.budget ≡ f.state.budget) (none : f.count ≡ 0) where
  -- with other room
  abbrev k : JudgedPart
  k = record f { state = y }

  still_of : IsOf s budget events k
  still_of = record {
    program = ap (λ p. p.now) program ∙ of.program;
    budget_is = budget_is ∙ of.budget_is;
    events_are = of.events_are;
  }

  still_none : k.count ≡ 0
  still_none = none

  pub next_first : (first : Event) → slice_get events 0 ≡ Some first → IsNext k first
  next_first first at = subst (λ (x : ℕ). slice_get k.events.now x ≡ Some first) (sym still_none) (subst (λ (es : List Event). slice_get es 0 ≡ Some first) (sym still_of.events_are) at)

  pub begun_so : (n : JudgedPart) → HasGoneOn k n → HasBegun s budget events n
  begun_so n on = record {
    keeps = on.keeps;
    of = record {
      program = ap (λ p. p.now) on.program ∙ still_of.program;
      budget_is = on.budget ∙ still_of.budget_is;
      events_are = ap (λ es. es.now) on.events ∙ still_of.events_are;
    };
    count = let one = on.count in let zero_is = still_none in omega (arith, one, zero_is);
  }

  pub refused_so : (IsRun k.state.program.now k.state.budget (take (suc k.count) k.events.now) → ⊥) → IsRun s budget (take 1 events) → ⊥
  refused_so wrong run = wrong (subst (λ (x : Subject). IsRun x k.state.budget (take (suc k.count) k.events.now)) (sym still_of.program)
      (subst (λ (b : ℕ). IsRun s b (take (suc k.count) k.events.now)) (sym still_of.budget_is)
      (subst (λ (n : ℕ). IsRun s budget (take (suc n) k.events.now)) (sym still_none)
      (subst (λ (es : List Event). IsRun s budget (take 1 es)) (sym still_of.events_are) run))))
