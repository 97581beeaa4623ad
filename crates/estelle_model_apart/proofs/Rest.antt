-- What effects, and the taking of a head, leave as it was.
use Rattle.std.proofs.Common.{◌≡◌, List, [], ◌∷◌, Option, Some, None, refl}
use Rattle.estelle_tree.specs.Paths.{Path}
use Rattle.estelle_model.specs.Effects.{StatementEffect}
use Rattle.estelle_model.specs.Transitions.{Transition, When}
use Rattle.estelle_model.specs.Subject.{Subject}
use Rattle.estelle_model.specs.Situation.{Situation, Acting, acting_after}
use Rattle.estelle_model.specs.Firing.{taken}
use Rattle.estelle_model.specs.Jobs.{after_all, taken_by}

-- timers, the moment and what is pending are the same
pub record SameRest (g h : Situation) : Type 0 where
  pub timers : h.timers ≡ g.timers
  pub now : h.now ≡ g.now
  pub pending : h.pending ≡ g.pending

pub all_rest : (es : List StatementEffect) (a : Acting) → SameRest a.situation (after_all es a).situation
all_rest [] a = record { timers = refl; now = refl; pending = refl }
all_rest (e ∷ es) a = let r = all_rest es (acting_after e a) in record { timers = r.timers; now = r.now; pending = r.pending }

taken_core : (s : Subject) (g : Situation) (m : Path) (o : Option When) → (taken s g m o).core ≡ g.core
taken_core s g m None = refl
taken_core s g m (Some w) = refl

taken_rest : (s : Subject) (g : Situation) (m : Path) (o : Option When) → SameRest g (taken s g m o)
taken_rest s g m None = record { timers = refl; now = refl; pending = refl }
taken_rest s g m (Some w) = record { timers = refl; now = refl; pending = refl }

pub taken_by_core : (s : Subject) (g : Situation) (m : Path) (o : Option Transition) → (taken_by s g m o).core ≡ g.core
taken_by_core s g m None = refl
taken_by_core s g m (Some t) = taken_core s g m t.when

pub taken_by_rest : (s : Subject) (g : Situation) (m : Path) (o : Option Transition) → SameRest g (taken_by s g m o)
taken_by_rest s g m None = record { timers = refl; now = refl; pending = refl }
taken_by_rest s g m (Some t) = taken_rest s g m t.when
