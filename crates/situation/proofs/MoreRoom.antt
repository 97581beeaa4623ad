-- A step from a execution whose history has more memory.
use Rattle.std.proofs.Common.{◌≡◌, ℕ, ◌+◌, ◌-◌, ◌<◌, ◌≤◌, List, length, Option, Some, None, refl, sym, ap, subst, ◌∙◌, arith}
use Rattle.std.specs.Prelude.{Contains, Result, Ok, Err, IfOk, OnErr}
use Rattle.estelle_model.specs.declared.event.End.{End}
use Rattle.estelle_model.specs.Choosers.{Draw}
use Rattle.run_history.specs.declared.entry.Entry.{Entry}
use Rattle.run_history.specs.Histories.{History, project, fires}
use Rattle.run_history.specs.Tickets.{tickets}
use Rattle.run_history.specs.OpenTickets.{open_in, untaken}
use Rattle.estelle_model.specs.Runs.{situation}
use Rattle.situation_state.specs.At.{IsAt}
use Rattle.situation.specs.declared.limits.Stepped.{Stepped}
use Rattle.situation.specs.declared.limits.Stepped.TheVariants as did
use Rattle.situation.specs.declared.limits.Advanced.{Advanced}
use Rattle.situation.specs.declared.limits.Advanced.TheVariants as advanced
use Rattle.situation.specs.declared.execution.Execution.{Execution}
use Rattle.situation.specs.Runs.{IsGoing, IsClosed, AreAllTaken}
use Rattle.situation.specs.Planned.{IsPlannedOn}
use Rattle.situation.proofs.Planned.{leads_ended}
use Rattle.situation.specs.Worlds.{IsOpenExecution, IsKept, IsExecution, HasStepped, IsUnchanged, Adds, Waits, Leaves, work, left_to_do}
use Rattle.situation.specs.Steps.{GoesOn, IsReady, IsStill, HasAdvanced}
use Rattle.situation.proofs.Ended.{says}

module _ {H : Type 0} where
  -- an ended execution answers its end
  pub same_end : (draw : Draw H) (moment : Option ℕ) (c : Execution H) (e : End) → IsExecution c → c.end ≡ Some e → HasStepped draw moment moment c c (did.Ended e)
  same_end draw moment c e h is = record {
    keeps = h;
    goes_on = record { program = refl; limits = refl; writer = refl; planned = λ known told. leads_ended draw c.state.program.now c.state.budget c.turns c.history.entries c.chooser c.time known e c.history.entries refl moment told };
    leaves = is;
    adds = subst (λ (x : Option End). Adds c.writer c.turns x c.history.entries c.history.entries (did.Ended e)) (sym is) (refl, refl);
    waits = refl;
    ends = λ clocked. ap (says e) (sym is ∙ clocked);
  }

  abbrev pub with_history : Execution H → History → Execution H
  with_history c h = record c { history = h }

  pub kept_so : (c : Execution H) (h : History) → h.entries ≡ c.history.entries → (e : Option End) → IsKept c e → IsKept (with_history c h) e
  kept_so c h same None k = record {
    leads = k.leads;
    room = k.room;
    delays = k.delays;
    going = subst (λ (es : List Entry). IsGoing c.state.program.now c.state.budget c.turns es c.time c.systems.items) (sym same) k.going;
    at = subst (λ (es : List Entry). IsAt (situation c.state.program.now c.state.budget (project es)) (untaken (open_in es) (situation c.state.program.now c.state.budget (project es)).pending) c.state) (sym same) k.at;
    flying = k.flying ∙ ap open_in (sym same);
    taken = ap (λ (es : List Entry). length (tickets es)) same ∙ k.taken;
    fired = k.fired ∙ ap (λ (es : List Entry). fires es + length (open_in es)) (sym same);
    limit = λ o here. subst (λ (es : List Entry). fires es < c.turns) (sym same) (k.limit o (subst (λ (es : List Entry). Contains (open_in es) o) same here));
  }
  kept_so c h same (Some e) k = record {
    leads = k.leads;
    room = k.room;
    delays = k.delays;
    closed = subst (λ (es : List Entry). IsClosed c.state.program.now c.state.budget c.turns es c.time.waited e) (sym same) k.closed;
    left = k.left;
    at = subst (λ (es : List Entry). IsAt (situation c.state.program.now c.state.budget (project es)) k.left c.state) (sym same) k.at;
    taken = ap (λ (es : List Entry). length (tickets es)) same ∙ k.taken;
    fired = subst (λ (es : List Entry). AreAllTaken e es c.tickets) (sym same) k.fired;
  }

  -- it is the same run
  pub refused_so : (c : Execution H) (h : History) → h.entries ≡ c.history.entries → IsExecution c → IsUnchanged c (with_history c h)
  refused_so c h same k = record { keeps = kept_so c h same c.end k; program = refl; limits = refl; writer = refl; entries = same; time = refl; systems = refl }

  -- which goes on where it has not ended
  pub goes_on_so : (c : Execution H) (h : History) (n : ℕ) → h.entries ≡ c.history.entries → n ≤ h.spare → c.end ≡ None → IsExecution c → GoesOn n (with_history c h)
  goes_on_so c h n same room none k = record { is_open = subst (IsKept (with_history c h)) none (kept_so c h same c.end k); unended = none; spare = room }

  leaves_so : (b c n : Execution H) (d : Stepped) → left_to_do b ≡ left_to_do c → Leaves b n d → Leaves c n d
  leaves_so b c n did.Selected same h = subst (λ (x : ℕ). left_to_do n < x) same h
  leaves_so b c n did.Waited same h = subst (λ (x : ℕ). left_to_do n < x) same h
  leaves_so b c n did.Fired same h = subst (λ (x : ℕ). left_to_do n < x) same h
  leaves_so b c n did.Faulted same h = subst (λ (x : ℕ). left_to_do n < x) same h
  leaves_so b c n (did.Ended e) same h = h

  pub stepped_so : (draw : Draw H) (moment after : Option ℕ) (c n : Execution H) (h : History) (d : Stepped) → h.entries ≡ c.history.entries → HasStepped draw moment after (with_history c h) n d → HasStepped draw moment after c n d
  stepped_so draw moment after c n h d same s = record {
    keeps = s.keeps;
    goes_on = record {
      program = s.goes_on.program;
      limits = s.goes_on.limits;
      writer = s.goes_on.writer;
      planned = subst (λ (es : List Entry). IsPlannedOn draw c.state.program.now c.state.budget c.turns es c.chooser c.time moment n.history.entries n.chooser n.time after d) same s.goes_on.planned;
    };
    leaves = leaves_so (with_history c h) c n d (ap (λ (es : List Entry). work c.turns (fires es) c.systems.items c.time.may_wait c.end) same) s.leaves;
    adds = subst (λ (es : List Entry). Adds c.writer c.turns c.end es n.history.entries d) same s.adds;
    waits = subst (λ (es : List Entry). Waits c.state.program.now c.state.budget es c.time n.time d) same s.waits;
    ends = s.ends;
  }

  -- so it is of an advance
  pub advanced_so : (draw : Draw H) (moment after : Option ℕ) (c n : Execution H) (h : History) (d : Advanced) → h.entries ≡ c.history.entries → HasAdvanced draw moment after (with_history c h) n d → HasAdvanced draw moment after c n d
  advanced_so draw moment after c n h advanced.Selected same s = stepped_so draw moment after c n h did.Selected same s
  advanced_so draw moment after c n h advanced.Waited same s = stepped_so draw moment after c n h did.Waited same s
  advanced_so draw moment after c n h advanced.Ready same s =
      (record { entries = s.0.entries ∙ same; rest = s.0.rest }, s.1, record { none_due = s.2.none_due; some = s.2.some; below = subst (λ (es : List Entry). fires es < c.turns) same s.2.below }, s.3)
  advanced_so draw moment after c n h (advanced.Flying k) same s =
      (record { entries = s.0.entries ∙ same; rest = s.0.rest }, s.1, record { none_due = s.2.none_due; none = s.2.none; first = s.2.first; below = subst (λ (es : List Entry). fires es < c.turns) same s.2.below }, s.3)
  advanced_so draw moment after c n h (advanced.Ended e) same s = stepped_so draw moment after c n h (did.Ended e) same s

  pub unchanged_so : (c n : Execution H) (h : History) → h.entries ≡ c.history.entries → IsUnchanged (with_history c h) n → IsUnchanged c n
  unchanged_so c n h same u = record { keeps = u.keeps; program = u.program; limits = u.limits; writer = u.writer; entries = u.entries ∙ same; time = u.time; systems = u.systems }

  -- ---- where nothing has happened but that there may be more memory

  pub ready_then : (c n : Execution H) → IsExecution c → IsStill c n → c.end ≡ None → IsReady c → GoesOn 0 n × IsReady n
  ready_then c n keeps s unended ready = subst (λ (x : Execution H). GoesOn 0 x × IsReady x) (sym s.rest)
      (goes_on_so c n.history 0 s.entries (omega arith) unended keeps, record { none_due = ready.none_due; some = ready.some; below = subst (λ (es : List Entry). fires es < c.turns) (sym s.entries) ready.below })

  pub stepped_still : {E : Type 0} (draw : Draw H) (told after : Option ℕ) (r : Result Stepped E) (c n m : Execution H) → IsStill c n → after ≡ told → IfOk r (λ d. (moment : Option ℕ) → HasStepped draw moment moment n m d) → IfOk r (HasStepped draw told after c m)
  stepped_still draw told after (Ok d) c n m s same h =
      subst (λ (x : Option ℕ). HasStepped draw told x c m d) (sym same) (stepped_so draw told told c m n.history d s.entries (subst (λ (x : Execution H). HasStepped draw told told x m d) s.rest (h told)))
  stepped_still draw told after (Err e) c n m s same h = tt

  pub unchanged_still : {A E : Type 0} (r : Result A E) (c n m : Execution H) → IsStill c n → OnErr r (IsUnchanged n m) → OnErr r (IsUnchanged c m)
  unchanged_still (Ok a) c n m s u = tt
  unchanged_still (Err e) c n m s u = unchanged_so c m n.history s.entries (subst (λ (x : Execution H). IsUnchanged x m) s.rest u)

  -- how many events there were
  pub events_are : (c : Execution H) → IsOpenExecution c → length c.history.entries - c.tickets ≡ length (project c.history.entries)
  events_are c o = omega (arith, o.going.counted, o.taken)

  pub tickets_within : (c : Execution H) → IsOpenExecution c → c.tickets ≤ length c.history.entries
  tickets_within c o = omega (arith, o.going.counted, o.taken)
