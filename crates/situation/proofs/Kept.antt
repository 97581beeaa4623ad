-- A run is kept as it is where there is more memory, and where the chooser was drawn from.
use Rattle.std.proofs.Common.{◌≡◌, ◌<◌, ℕ, ◌+◌, List, length, Option, Some, None, refl, sym, ap, subst, ◌∙◌}
use Rattle.std.specs.Prelude.{Contains}
use Rattle.estelle_model.specs.declared.event.End.{End}
use Rattle.estelle_model.specs.Runs.{situation}
use Rattle.run_history.specs.declared.entry.Entry.{Entry}
use Rattle.run_history.specs.Histories.{project, fires}
use Rattle.run_history.specs.Tickets.{tickets}
use Rattle.run_history.specs.OpenTickets.{open_in, untaken}
use Rattle.situation_state.specs.declared.state.State.{State}
use Rattle.situation_state.specs.At.{IsAt}
use Rattle.situation.specs.declared.execution.Execution.{Execution}
use Rattle.situation.specs.Runs.{IsGoing, IsClosed, AreAllTaken}
use Rattle.situation.specs.Worlds.{IsOpenExecution, IsEndedExecution, IsKept, IsExecution, IsUnchanged, now, left_in}
use Rattle.situation.specs.Steps.{GoesOn, HasReserved}

module _ {H : Type 0} where
  -- ---- other states of the same program and budget

  abbrev pub with_state : Execution H → State → Execution H
  with_state c x = record c { state = x }

  abbrev pub own : Execution H → State → State
  own c x = record x { program = c.state.program; budget = c.state.budget }

  pub own_is : (c : Execution H) (x : State) → x.program ≡ c.state.program → x.budget ≡ c.state.budget → x ≡ own c x
  own_is c x program budget = (λ i. record x { program = program i; budget = budget i })

  -- where it stands for the same, the run goes on
  open_with : (c : Execution H) (x : State) → IsOpenExecution c → x.program ≡ c.state.program → x.budget ≡ c.state.budget → IsAt (now c) (left_in c) x → IsOpenExecution (with_state c x)
  open_with c x o program budget at =
      let same = own_is c x program budget in
      subst (λ (y : State). IsOpenExecution (with_state c y)) (sym same) (record {
        leads = o.leads;
        room = o.room;
        delays = o.delays;
        going = o.going;
        at = subst (IsAt (now c) (left_in c)) same at;
        flying = o.flying;
        taken = o.taken;
        fired = o.fired;
        limit = o.limit;
      })

  pub open_drawn : (c : Execution H) (chooser : H) → IsOpenExecution c → IsOpenExecution (record c { chooser = chooser })
  open_drawn c chooser o = record { leads = o.leads; room = o.room; delays = o.delays; going = o.going; at = o.at; flying = o.flying; taken = o.taken; fired = o.fired; limit = o.limit }

  -- with the history, the firings under way and the chooser of another execution, of which the first two are seen as the same
  abbrev pub with_memory : Execution H → Execution H → Execution H
  with_memory c m = record c { history = m.history; flying = m.flying; chooser = m.chooser }

  pub reopened : (c m : Execution H) → IsOpenExecution c → m.history.entries ≡ c.history.entries → m.flying.items ≡ c.flying.items → IsOpenExecution (with_memory c m)
  reopened c m o entries flying = record {
    leads = o.leads;
    room = o.room;
    delays = o.delays;
    going = subst (λ (es : List Entry). IsGoing c.state.program.now c.state.budget c.turns es c.time c.systems.items) (sym entries) o.going;
    at = subst (λ (es : List Entry). IsAt (situation c.state.program.now c.state.budget (project es)) (untaken (open_in es) (situation c.state.program.now c.state.budget (project es)).pending) c.state) (sym entries) o.at;
    flying = flying ∙ o.flying ∙ ap open_in (sym entries);
    taken = ap (λ (es : List Entry). length (tickets es)) entries ∙ o.taken;
    fired = o.fired ∙ ap (λ (es : List Entry). fires es + length (open_in es)) (sym entries);
    limit = λ x here. subst (λ (es : List Entry). fires es < c.turns) (sym entries) (o.limit x (subst (λ (es : List Entry). Contains (open_in es) x) entries here));
  }

  -- where memory was wanting for it, the run is as before
  pub unchanged_memory : (c m : Execution H) → IsOpenExecution c → c.end ≡ None → m.history.entries ≡ c.history.entries → m.flying.items ≡ c.flying.items → IsUnchanged c (with_memory c m)
  unchanged_memory c m o unended entries flying = record {
    keeps = subst (IsKept (with_memory c m)) (sym unended) (reopened c m o entries flying);
    program = refl;
    limits = refl;
    writer = refl;
    entries = entries;
    time = refl;
    systems = refl;
  }

  -- with more memory in the stores
  pub reserved_open : (c n : Execution H) → IsOpenExecution c → HasReserved c n → IsOpenExecution n
  reserved_open c n o h =
      let same : n.state ≡ record c.state { shared = n.state.shared; notes = n.state.notes } = ap (λ (x : Execution H). x.state) h.rest in
      let mid = open_with c (record c.state { shared = n.state.shared; notes = n.state.notes }) o refl refl (subst (IsAt (now c) (left_in c)) same (h.at (now c) (left_in c) o.at)) in
      subst IsOpenExecution (sym h.rest) (reopened (with_state c (record c.state { shared = n.state.shared; notes = n.state.notes })) (record c { history = n.history }) mid h.entries refl)

  reserved_ended : (c n : Execution H) (e : End) → IsEndedExecution c e → HasReserved c n → IsEndedExecution n e
  reserved_ended c n e o h =
      let same : n.state ≡ record c.state { shared = n.state.shared; notes = n.state.notes } = ap (λ (x : Execution H). x.state) h.rest in
      let x : State = record c.state { shared = n.state.shared; notes = n.state.notes } in
      let after : Execution H = record c { state = x; history = n.history } in
      let stands : IsAt (now c) o.left x = subst (IsAt (now c) o.left) same (h.at (now c) o.left o.at) in
      let closes : IsEndedExecution after e = record {
        leads = o.leads;
        room = o.room;
        delays = o.delays;
        closed = subst (λ (es : List Entry). IsClosed c.state.program.now c.state.budget c.turns es c.time.waited e) (sym h.entries) o.closed;
        left = o.left;
        at = subst (λ (es : List Entry). IsAt (situation c.state.program.now c.state.budget (project es)) o.left x) (sym h.entries) stands;
        taken = ap (λ (es : List Entry). length (tickets es)) h.entries ∙ o.taken;
        fired = subst (λ (es : List Entry). AreAllTaken e es c.tickets) (sym h.entries) o.fired;
      } in
      subst (λ (y : Execution H). IsEndedExecution y e) (sym h.rest) closes

  pub reserved_kept : (c n : Execution H) → IsExecution c → HasReserved c n → IsExecution n
  reserved_kept c n keeps h = subst (IsKept n) (sym (ap (λ (x : Execution H). x.end) h.rest)) (by c.end keeps)
    where
      by : (e : Option End) → IsKept c e → IsKept n e
      by None o = reserved_open c n o h
      by (Some e) o = reserved_ended c n e o h

  pub reserved_same : (c n : Execution H) → HasReserved c n → (n.state.program.now ≡ c.state.program.now) × (n.end ≡ c.end)
  reserved_same c n h = (ap (λ (x : Execution H). x.state.program.now) h.rest, ap (λ (x : Execution H). x.end) h.rest)

  pub still_drawn : (c : Execution H) (chooser : H) (k : ℕ) → GoesOn k c → GoesOn k (record c { chooser = chooser })
  still_drawn c chooser k opened = record { is_open = open_drawn c chooser opened.is_open; unended = opened.unended; spare = opened.spare }

  -- where memory was wanting, the run is as before
  pub unchanged : (c : Execution H) (chooser : H) (x : State) (k : ℕ) → GoesOn k c → x.program ≡ c.state.program → x.budget ≡ c.state.budget → IsAt (now c) (left_in c) x → IsUnchanged c (record c { state = x; chooser = chooser })
  unchanged c chooser x k opened program budget at = record {
    keeps = subst (IsKept (record c { state = x; chooser = chooser })) (sym opened.unended) (open_drawn (with_state c x) chooser (open_with c x opened.is_open program budget at));
    program = program;
    limits = (λ i. record { turns = c.turns; budget = budget i });
    writer = refl;
    entries = refl;
    time = refl;
    systems = refl;
  }

  -- whoever notes from now on
  pub written_as : (c : Execution H) (writer : ℕ) → IsExecution c → IsExecution (record c { writer = writer })
  written_as c writer keeps = by c.end keeps
    where
      by : (e : Option End) → IsKept c e → IsKept (record c { writer = writer }) e
      by None o = record { leads = o.leads; room = o.room; delays = o.delays; going = o.going; at = o.at; flying = o.flying; taken = o.taken; fired = o.fired; limit = o.limit }
      by (Some e) o = record { leads = o.leads; room = o.room; delays = o.delays; closed = o.closed; left = o.left; at = o.at; taken = o.taken; fired = o.fired }
