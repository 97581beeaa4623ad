-- Which ends close a run: by what its last event is.
use Rattle.std.proofs.Common.{◌≡◌, ℕ, List, take, length, Option, Some, None, sym, subst, ◌∙◌, arith}
use Rattle.std.proofs.lemmas.List.{take_all}
use Rattle.pascal_values.specs.declared.fault.Fault as fault
use Rattle.estelle_model.specs.declared.event.Event.{Event}
use Rattle.estelle_model.specs.declared.event.Event.TheVariants.{Start, Select, Fire, Fault}
use Rattle.estelle_model.specs.declared.event.End.TheVariants as end
use Rattle.estelle_model.specs.Subject.{Subject}
use Rattle.estelle_model.specs.Runs.{situation, situation_at}
use Rattle.estelle_model.specs.Ends.{last_event, IsNoFault, IsFault, IsDead, Closes}
use Rattle.trace_check.specs.Going.{IsGoing, IsFaulted}

-- an event is no fault, or it is one
not_both : (o : Option Event) (kind : fault.Fault) → IsFault o kind → IsNoFault o → ⊥
not_both None kind is none = is
not_both (Some (Start outs drops)) kind is none = is
not_both (Some (Select system moment takes)) kind is none = is
not_both (Some (Fire m n outs drops)) kind is none = is
not_both (Some (Fault m n k)) kind is none = none

same_kind : (o : Option Event) (kind other : fault.Fault) → IsFault o kind → IsFault o other → kind ≡ other
same_kind None kind other is also = absurd is
same_kind (Some (Start outs drops)) kind other is also = absurd is
same_kind (Some (Select system moment takes)) kind other is also = absurd is
same_kind (Some (Fire m n outs drops)) kind other is also = absurd is
same_kind (Some (Fault m n k)) kind other is also = sym is ∙ also

module _ (s : Subject) (budget : ℕ) (events : List Event) (n : ℕ) (all : n ≡ length events) where
  all_taken : take n events ≡ events
  all_taken = take_all n events (omega (arith, all))

  -- ---- after no fault

  module _ (going : IsGoing s budget events n) where
    pub ends_open : IsNoFault (last_event events)
    ends_open = subst (λ (es : List Event). IsNoFault (last_event es)) all_taken going.goes_on

    pub closes_dead : IsDead s budget (situation_at s budget events n) → Closes s budget events end.Dead
    closes_dead dead = (ends_open, subst (λ (es : List Event). IsDead s budget (situation s budget es)) all_taken dead)

    pub dead_closes : Closes s budget events end.Dead → IsDead s budget (situation_at s budget events n)
    dead_closes h = subst (λ (es : List Event). IsDead s budget (situation s budget es)) (sym all_taken) h.1

    pub no_fault_closes : (kind : fault.Fault) → Closes s budget events (end.Faulted kind) → ⊥
    no_fault_closes kind is = not_both (last_event events) kind is ends_open

  -- ---- after a fault

  module _ (own : fault.Fault) (faulted : IsFaulted s budget events n own) where
    ends_faulted : IsFault (last_event events) own
    ends_faulted = subst (λ (es : List Event). IsFault (last_event es) own) all_taken faulted.fault

    pub closes_faulted : (kind : fault.Fault) → own ≡ kind → Closes s budget events (end.Faulted kind)
    closes_faulted kind same = subst (IsFault (last_event events)) same ends_faulted

    pub faulted_closes : (kind : fault.Fault) → Closes s budget events (end.Faulted kind) → own ≡ kind
    faulted_closes kind is = same_kind (last_event events) own kind ends_faulted is

    pub not_dead : Closes s budget events end.Dead → ⊥
    not_dead h = not_both (last_event events) own ends_faulted h.0

    pub not_ended : IsNoFault (last_event events) → ⊥
    not_ended none = not_both (last_event events) own ends_faulted none
