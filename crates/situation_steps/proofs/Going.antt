-- A run goes on by one event: what that does to the run, to its situation, and to what awaits a selection.
use Rattle.std.proofs.Common.{◌≡◌, ℕ, ◌+◌, cond, List, [], ◌∷◌, ◌++◌, Option, Some, None, refl, subst}
use Rattle.std.specs.Prelude.{Bool, true}
use Rattle.std.proofs.lemmas.Grind.{fold-append}
use Rattle.estelle_model.specs.declared.event.Event.{Event}
use Rattle.estelle_model.specs.declared.event.Event.TheVariants.{Start, Select, Fire, Fault}
use Rattle.estelle_tree.specs.Paths.{Path}
use Rattle.estelle_model.specs.Subject.{Subject}
use Rattle.estelle_model.specs.Situation.{Situation}
use Rattle.estelle_model.specs.Firing.{Firing, Ran, Failed, Undefined, start}
use Rattle.estelle_model.specs.Runs.{next, Applies, IsLastIfFault, Goes, after_events, Begins, IsRun, started, situation}
use Rattle.estelle_model.specs.Ends.{last_event, IsNoFault, is_fire, fires}
use Rattle.estelle_model.specs.Schedule.{awaits_after, awaits_from, awaits}

-- nothing has happened yet, or the last event is no fault
abbrev MayGo : Option Event → Type 0
MayGo None = Unit {0}
MayGo (Some e) = IsNoFault (Some e)

last_one : (e : Event) → IsLastIfFault e []
last_one (Start outs drops) = tt
last_one (Select system n takes) = tt
last_one (Fire m n outs drops) = tt
last_one (Fault m n kind) = refl

-- an event with others after it, of which the last is no fault, is no fault
still_last : (x : Event) (es more : List Event) → IsLastIfFault x es → MayGo (last_event (x ∷ es)) → IsLastIfFault x more
still_last (Start outs drops) es more l go = tt
still_last (Select system n takes) es more l go = tt
still_last (Fire m n outs drops) es more l go = tt
still_last (Fault m n kind) es more l go = absurd (subst (λ (r : List Event). MayGo (last_event (Fault m n kind ∷ r))) l go)

pub last-push : (es : List Event) (e : Event) → last_event (es ++ e ∷ []) ≡ Some e
last-push [] e = refl
last-push (x ∷ []) e = refl
last-push (x ∷ y ∷ es) e = last-push (y ∷ es) e

go_tail : (x : Event) (es : List Event) → IsNoFault (last_event (x ∷ es)) → MayGo (last_event es)
go_tail x [] h = tt
go_tail x (y ∷ []) (h) = may_of y h
  where
    may_of : (e : Event) → IsNoFault (Some e) → MayGo (Some e)
    may_of e h = h
go_tail x (y ∷ z ∷ es) h = go_tail y (z ∷ es) h

pub fires-push : (es : List Event) (e : Event) → fires (es ++ e ∷ []) ≡ fires es + cond (is_fire e) 1 0
fires-push es e = fold-append (λ (n : ℕ) (x : Event). n + cond (is_fire x) 1 0) 0 es (e ∷ [])

module _ (s : Subject) (budget : ℕ) where
  Goes-push : (g : Situation) (es : List Event) (e : Event) → Goes s budget g es → MayGo (last_event es) → Applies s budget (after_events s budget g es) e → Goes s budget g (es ++ e ∷ [])
  Goes-push g [] e h go applies = (applies, last_one e, tt)
  Goes-push g (x ∷ []) e h go applies = (h.0, still_last x [] (e ∷ []) h.1 go, (applies, last_one e, tt))
  Goes-push g (x ∷ y ∷ es) e h go applies = (h.0, still_last x (y ∷ es) ((y ∷ es) ++ e ∷ []) h.1 go, Goes-push (next s budget g x) (y ∷ es) e h.2 go applies)

  after_events-push : (g : Situation) (es : List Event) (e : Event) → after_events s budget g (es ++ e ∷ []) ≡ next s budget (after_events s budget g es) e
  after_events-push g [] e = refl
  after_events-push g (x ∷ es) e = after_events-push (next s budget g x) es e

  Begins-push : (f : Firing) (x : Event) (es : List Event) (e : Event) → Begins s budget f x es → IsNoFault (last_event (x ∷ es)) → Applies s budget (after_events s budget (started s f) es) e → Begins s budget f x (es ++ e ∷ [])
  Begins-push (Ran g outs drops left) (Start outs' drops') es e h go applies = (h.0, h.1, Goes-push g es e h.2 (go_tail (Start outs' drops') es go) applies)
  Begins-push (Ran g outs drops left) (Select system n takes) es e h go applies = absurd h
  Begins-push (Ran g outs drops left) (Fire m n outs' drops') es e h go applies = absurd h
  Begins-push (Ran g outs drops left) (Fault m n k) es e h go applies = absurd h
  Begins-push (Failed kind left) (Start outs' drops') es e h go applies = absurd h
  Begins-push (Failed kind left) (Select system n takes) es e h go applies = absurd h
  Begins-push (Failed kind left) (Fire m n outs' drops') es e h go applies = absurd h
  Begins-push (Failed kind left) (Fault m n k) es e h go applies = absurd (subst (λ (r : List Event). IsNoFault (last_event (Fault m n k ∷ r))) h.3 go)
  Begins-push Undefined x es e h go applies = absurd h

  pub IsRun-push : (es : List Event) (e : Event) → IsRun s budget es → IsNoFault (last_event es) → Applies s budget (situation s budget es) e → IsRun s budget (es ++ e ∷ [])
  IsRun-push [] e h go applies = absurd h
  IsRun-push (x ∷ es) e h go applies = Begins-push (start s budget) x es e h go applies

  pub situation-push : (es : List Event) (e : Event) → IsRun s budget es → situation s budget (es ++ e ∷ []) ≡ next s budget (situation s budget es) e
  situation-push [] e h = absurd h
  situation-push (x ∷ es) e h = after_events-push (started s (start s budget)) es e

  awaits_from-push : (system : Path) (g : Situation) (waits : Bool) (es : List Event) (e : Event)
      → awaits_from s budget system g waits (es ++ e ∷ []) ≡ awaits_after system (after_events s budget g es) (next s budget (after_events s budget g es) e) e (awaits_from s budget system g waits es)
  awaits_from-push system g waits [] e = refl
  awaits_from-push system g waits (x ∷ es) e = awaits_from-push system (next s budget g x) (awaits_after system g (next s budget g x) x waits) es e

  pub awaits-push : (system : Path) (es : List Event) (e : Event) → IsRun s budget es → awaits s budget system (es ++ e ∷ []) ≡ awaits_after system (situation s budget es) (next s budget (situation s budget es) e) e (awaits s budget system es)
  awaits-push system [] e h = absurd h
  awaits-push system (x ∷ es) e h = awaits_from-push system (started s (start s budget)) true es e
