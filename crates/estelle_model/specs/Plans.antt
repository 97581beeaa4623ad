-- What a statement of Estelle does, as a plan: what it reads, what it takes and what it changes, in order. A plan says nothing of the state that it is carried out on.
use Rattle.std.specs.Prelude.{Bool, if◌then◌else◌, List, [], ◌∷◌, Result, Ok, Err}
use Rattle.estelle_tree.specs.Paths.{Path}
use Rattle.estelle_model.specs.Core.{Core}
use Rattle.estelle_model.specs.Effects.{StatementEffect, Change}
use Rattle.estelle_model.specs.States.{Offers}
use Rattle.estelle_model.specs.Stops.{Stop}
use Rattle.estelle_model.specs.Steps as step
use Rattle.estelle_model.specs.Steps.{Step, Do, and_then, checked_at, spend}

pub data Plan (B : Type 0) : Type 1 where
  Done : B → Plan B
  Fails : Stop → Plan B
  -- what is read of the instances and links, or what stops it; and the rest with it
  Reads : {A : Type 0} → (Core → Result A Stop) → (A → Plan B) → Plan B
  -- a unit is taken
  Spends : Plan B → Plan B
  -- an effect is made
  Makes : StatementEffect → Plan B → Plan B
  -- a change of the record of an instance is kept
  Keeps : Path → Change → Plan B → Plan B

-- the one, and then the other with its value
infixl 10 ◌>>=◌
abbrev pub ◌>>=◌ : {A B : Type 0} → Plan A → (A → Plan B) → Plan B
Done a >>= f = f a
Fails e >>= f = Fails e
Reads g k >>= f = Reads g (λ a. k a >>= f)
Spends p >>= f = Spends (p >>= f)
Makes e p >>= f = Makes e (p >>= f)
Keeps q change p >>= f = Keeps q change (p >>= f)

abbrev pub reads : {A : Type 0} → (Core → Result A Stop) → Plan A
reads f = Reads f Done

abbrev pub spends : Plan (Unit {0})
spends = Spends (Done tt)

abbrev pub makes : StatementEffect → Plan (Unit {0})
makes e = Makes e (Done tt)

abbrev pub keeps : Path → Change → Plan (Unit {0})
keeps p change = Keeps p change (Done tt)

abbrev pub stops_if : Bool → Stop → Result (Unit {0}) Stop
stops_if b e = if b then Err e else Ok tt

abbrev pub stops_unless : Bool → Stop → Result (Unit {0}) Stop
stops_unless b e = if b then Ok tt else Err e

-- fails where the test holds
abbrev pub fails_if : (Core → Bool) → Stop → Plan (Unit {0})
fails_if test e = reads (λ c. stops_if (test c) e)

-- fails where the test does not hold
abbrev pub fails_unless : (Core → Bool) → Stop → Plan (Unit {0})
fails_unless test e = reads (λ c. stops_unless (test c) e)

-- one after another
abbrev pub for_each : {A : Type 0} → (A → Plan (Unit {0})) → List A → Plan (Unit {0})
for_each f [] = Done tt
for_each f (a ∷ more) = f a >>= λ done. for_each f more

module _ (S : Type 0) (on : Offers S) where
  -- something done to the state itself
  abbrev pub change : (S → S) → Do S
  change f = λ s. Ok (tt, record s { state = f s.state })

  abbrev pub make : StatementEffect → Do S
  make e = change (on.does e)

  abbrev pub keep : Path → Change → Do S
  keep p c = change (on.keeps p c)

  -- what is read of instances and links, or what stops it
  abbrev pub read : {A : Type 0} → (Core → Result A Stop) → Step S A
  read f = λ s. checked_at (f (on.core s.state)) s

  -- a plan is carried out
  abbrev pub carry : {B : Type 0} → Plan B → Step S B
  carry (Done b) = step.pure b
  carry (Fails e) = step.stop e
  carry (Reads f k) = λ s. and_then (read f s) (λ a. carry (k a))
  carry (Spends p) = λ s. and_then (spend s) (λ taken. carry p)
  carry (Makes e p) = λ s. and_then (make e s) (λ made. carry p)
  carry (Keeps q c p) = λ s. and_then (keep q c s) (λ kept. carry p)
