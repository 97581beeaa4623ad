-- The steps of which every meaning is made: a value with a new state, or what stops it with the units left.
use Rattle.std.specs.Prelude.{ℕ, ◌-◌, if◌then◌else◌, nat_lt, List, [], ◌∷◌, Result, Ok, Err}
use Rattle.pascal_values.specs.declared.fault.Fault.{Fault}
use Rattle.pascal_values.specs.declared.fault.Fault.TheVariants.{StepLimit}
use Rattle.pascal_values.specs.declared.value.Value.{Value}
use Rattle.estelle_model.specs.Stops.{Stop, Faults, Broken}

-- a state in which a block runs, with the variables of the block and of the routines that run, innermost last, and the units left
pub record Running (S : Type 0) : Type 0 where
  pub state : S
  pub frames : List Value
  pub left : ℕ

abbrev pub StepResult : Type 0 → Type 0 → Type 0
StepResult S A = Result (A × Running S) (Stop × ℕ)

abbrev pub Step : Type 0 → Type 0 → Type 0
Step S A = Running S → StepResult S A

abbrev pub Do : Type 0 → Type 0
Do S = Step S (Unit {0})

abbrev pub and_then : {S A B : Type 0} → StepResult S A → (A → Step S B) → StepResult S B
and_then (Ok r) f = f r.0 r.1
and_then (Err e) f = Err e

-- the one, and then the other with its value
infixl 10 ◌>>=◌
abbrev pub ◌>>=◌ : {S A B : Type 0} → Step S A → (A → Step S B) → Step S B
p >>= f = λ s. and_then (p s) f

infixl 10 ◌>>◌
abbrev pub ◌>>◌ : {S A B : Type 0} → Step S A → Step S B → Step S B
p >> q = λ s. and_then (p s) (λ _. q)

abbrev pub pure : {S A : Type 0} → A → Step S A
pure a = λ s. Ok (a, s)

-- stops, with the units left
abbrev pub stop : {S A : Type 0} → Stop → Step S A
stop e = λ s. Err (e, s.left)

-- stops with a fault
abbrev pub fail : {S A : Type 0} → Fault → Step S A
fail f = stop (Faults f)

-- stops where a rule is broken, which no accepted specification comes to
abbrev pub breaks : {S A : Type 0} → Step S A
breaks = stop Broken

abbrev pub checked_at : {S A : Type 0} → Result A Stop → Step S A
checked_at (Ok a) s = Ok (a, s)
checked_at (Err e) s = Err (e, s.left)

-- a value, or what stops it
abbrev pub checked : {S A : Type 0} → Result A Stop → Step S A
checked r = λ s. checked_at r s

-- one after another
abbrev pub all : {S : Type 0} → List (Do S) → Do S
all [] = pure tt
all (p ∷ ps) = p >> all ps

-- takes a unit; StepLimit where none is left
unfoldable pub spend : {S : Type 0} → Do S
spend = λ s. if nat_lt 0 s.left then Ok (tt, record s { left = s.left - 1 }) else Err (Faults StepLimit, s.left)
