-- A state stands for a situation, also with more memory, and after a selection.
use Rattle.std.proofs.Common.{◌≡◌, ℕ, List, ◌++◌, refl, sym, ap, subst, ◌∙◌}
use Rattle.std.specs.Prelude.{Result, Ok, Err, OnErr}
use Rattle.std.specs.FinMap as map
use Rattle.std.specs.List.{remove}
use Rattle.estelle_tree.specs.declared.transition.Pair.{Pair}
use Rattle.estelle_tree.specs.declared.transition.Wanted.{Wanted}
use Rattle.estelle_tree.specs.Paths.{Path}
use Rattle.estelle_tree.specs.Timers.{Timers, renewed}
use Rattle.estelle_model.specs.Subject.{Subject}
use Rattle.estelle_model.specs.Situation.{Situation}
use Rattle.estelle_model.specs.Delays.{wanted}
use Rattle.estelle_model.specs.Runs.{selected}
use Rattle.effect_log.specs.declared.shared.Shared.{Shared}
use Rattle.effect_log.specs.declared.notes.Notes.{Notes}
use Rattle.effect_log.specs.Standing.{Stands, AreQueuesOf}
use Rattle.effect_log.specs.Rooms.{SeesTheSame, NotesTheSame}
use Rattle.situation_state.specs.declared.state.State.{State}
use Rattle.situation_state.specs.At.{IsAt, NothingNoted}

-- what holds anyway holds at an error
pub on_err : {A E : Type 0} (r : Result A E) (P : Type 0) → P → OnErr r P
on_err (Ok a) P h = tt
on_err (Err e) P h = h

-- what sees the same stands for the same situation
pub stands_same : (s : Subject) (a b : Shared) (g : Situation) → SeesTheSame a b → Stands s a g → Stands s b g
stands_same s a b g same h = record {
  instances = λ p. ap (λ t. map.get t p) same.instances ∙ h.instances p;
  links = same.links ∙ h.links;
  queues = subst (AreQueuesOf s g) (sym same.queues) h.queues;
  outputs = same.outputs ∙ h.outputs;
}

-- the shared state stands for a situation whatever is pending in it, whatever timers run, and at any moment
pub stands_later : (s : Subject) (shared : Shared) (g : Situation) (moment : ℕ) (timers : Timers) (pending : List Pair) → Stands s shared g → Stands s shared (record g { now = moment; timers = timers; pending = pending })
stands_later s shared g moment timers pending h = record {
  instances = h.instances;
  links = h.links;
  queues = record { declared = h.queues.declared; together = h.queues.together; apart = h.queues.apart; waiting = h.queues.waiting };
  outputs = h.outputs;
}

pub noted_same : (a b : Notes) → NotesTheSame a b → NothingNoted a → NothingNoted b
noted_same a b same none = record { outs = same.outs ∙ none.outs; drops = same.drops ∙ none.drops; arrivals = same.arrivals ∙ none.arrivals }

-- with more room it stands for the same
pub at_same : (g : Situation) (ps : List Pair) (c new : State) → SeesTheSame c.shared new.shared → NotesTheSame c.notes new.notes → new ≡ record c { shared = new.shared; notes = new.notes } → IsAt g ps c → IsAt g ps new
at_same g ps c new same noted rest h = subst (IsAt g ps) (sym rest) (record {
  stands = stands_same c.program.now c.shared new.shared g same h.stands;
  timers = h.timers;
  left = h.left;
  moment = h.moment;
  empty = noted_same c.notes new.notes noted h.empty;
})

-- it stands for the same where the list of what is pending and the timers are seen as the same
pub at_before : (g : Situation) (ps : List Pair) (c new : State) → new.timers ≡ c.timers → new.untaken.items ≡ c.untaken.items → new ≡ record c { timers = new.timers; untaken = new.untaken } → IsAt g ps c → IsAt g ps new
at_before g ps c new timers untaken rest h = subst (IsAt g ps) (sym rest) (record {
  stands = h.stands;
  timers = timers ∙ h.timers;
  left = untaken ∙ h.left;
  moment = h.moment;
  empty = h.empty;
})

-- a firing is taken
pub at_taken : (g : Situation) (ps : List Pair) (c new : State) (k : ℕ) → new.untaken.items ≡ remove c.untaken.items k → new ≡ record c { untaken = new.untaken } → IsAt g ps c → IsAt g (remove ps k) new
at_taken g ps c new k untaken rest h = subst (IsAt g (remove ps k)) (sym rest) (record {
  stands = h.stands;
  timers = h.timers;
  left = untaken ∙ ap (λ (qs : List Pair). remove qs k) h.left;
  moment = h.moment;
  empty = h.empty;
})

-- a system selects
pub at_selected : (g : Situation) (ps : List Pair) (c new : State) (system : Path) (moment : ℕ) (takes : List Pair) (wants : List Wanted) → IsAt g ps c → wants ≡ wanted c.program.now c.budget g system
    → new.timers ≡ renewed system moment wants c.timers → new.untaken.items ≡ c.untaken.items ++ takes → new ≡ record c { timers = new.timers; untaken = new.untaken; moment = moment }
    → IsAt (selected c.program.now c.budget g system moment takes) (ps ++ takes) new
at_selected g ps c new system moment takes wants h wants_are timers untaken rest = subst (IsAt (selected c.program.now c.budget g system moment takes) (ps ++ takes)) (sym rest) (record {
  stands = stands_later c.program.now c.shared g moment (renewed system moment (wanted c.program.now c.budget g system) g.timers) (g.pending ++ takes) h.stands;
  timers = timers ∙ (λ i. renewed system moment (wants_are i) (h.timers i));
  left = untaken ∙ ap (λ (qs : List Pair). qs ++ takes) h.left;
  moment = refl;
  empty = h.empty;
})
