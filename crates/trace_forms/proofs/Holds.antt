-- What spells tokens, and what is told of it.
use Rattle.std.proofs.Common.{[], ◌∷◌, Option, Some, None}
use Rattle.std.specs.Prelude.{option_to_list}
use Rattle.std.specs.List.{AllByRecursion}
use Rattle.estelle_tree.specs.declared.kind.Kind.{Kind}
use Rattle.estelle_tree.specs.Input.{Input}
use Rattle.estelle_tree.specs.Spelling.{Spelling, Chain, Several, Optional, Behind, Ended, Separated, Enclosed, Lines, MayBeLines}
use Rattle.trace_forms.proofs.Passes.{FormsAt, Less, less_same, less_more, less_takes}

pub record Holds (i j : Input) (P : Type 0) : Type 0 where
  pub less : Less i j
  pub told : FormsAt i → P

abbrev pub AllHold : {A : Type 0} → (A → Type 0) → Spelling A → Type 0
AllHold {A} P S = (x : A) (i j : Input) → S x i j → Holds i j (P x)

pub hold_less : {i m j : Input} {P : Type 0} → Less i m → Holds m j P → Holds i j P
hold_less h g = record { less = less_more h g.less; told = λ f. g.told (h.pass f) }

pub hold_end : {i m j : Input} {P : Type 0} → Holds i m P → Less m j → Holds i j P
hold_end g h = record { less = less_more g.less h; told = g.told }

pub hold_both : {i m j : Input} {P Q : Type 0} → Holds i m P → Holds m j Q → Holds i j (P × Q)
hold_both g h = record { less = less_more g.less h.less; told = λ f. (g.told f, h.told (g.less.pass f)) }

pub hold_as : {i j : Input} {P Q : Type 0} → (P → Q) → Holds i j P → Holds i j Q
hold_as turn h = record { less = h.less; told = λ f. turn (h.told f) }

pub always : {i j : Input} {P : Type 0} → P → Less i j → Holds i j P
always p h = record { less = h; told = λ f. p }

pub hold_chain : {A : Type 0} {P : A → Type 0} {S : Spelling A} → AllHold P S → AllHold (AllByRecursion P) (Chain S)
hold_chain F [] i j h = always tt (less_same h)
hold_chain F (x ∷ xs) i j h = hold_both (F x i h.0 h.1) (hold_chain F xs h.0 j h.2)

pub hold_behind : {A : Type 0} {w : Kind} {P : A → Type 0} {S : Spelling A} → AllHold P S → AllHold P (Behind w S)
hold_behind F x i j h = hold_less (less_takes h.mark) (F x h.at j h.item)

pub hold_optional : {A : Type 0} {P : A → Type 0} {S : Spelling A} → AllHold P S → (o : Option A) (i j : Input) → Optional S o i j → Holds i j (AllByRecursion P (option_to_list o))
hold_optional F None i j h = always tt (less_same h)
hold_optional F (Some x) i j h = hold_as (λ p. (p, tt)) (F x i j h)

pub hold_ended : {A : Type 0} {w : Kind} {P : A → Type 0} {S : Spelling A} → AllHold P S → AllHold P (Ended w S)
hold_ended F x i j h = hold_end (F x i h.mid h.item) (less_takes h.mark)

pub hold_enclosed : {A : Type 0} {v w : Kind} {P : A → Type 0} {S : Spelling A} → AllHold P S → AllHold P (Enclosed v w S)
hold_enclosed F x i j h = hold_less (less_takes h.opens) (hold_end (F x h.at h.mid h.inside) (less_takes h.closes))

pub hold_several : {A : Type 0} {P : A → Type 0} {S : Spelling A} → AllHold P S → AllHold (AllByRecursion P) (Several S)
hold_several F [] i j h = absurd h
hold_several F (x ∷ xs) i j h = hold_both (F x i h.0 h.1) (hold_chain F xs h.0 j h.2)

pub hold_separated : {A : Type 0} (w : Kind) {P : A → Type 0} {S : Spelling A} → AllHold P S → AllHold (AllByRecursion P) (Separated w S)
hold_separated w F [] i j h = absurd h
hold_separated w F (x ∷ xs) i j h = hold_both (F x i h.0 h.1) (hold_chain (hold_behind F) xs h.0 j h.2)

pub hold_lines : {A : Type 0} {P : A → Type 0} {S : Spelling A} → AllHold P S → AllHold (AllByRecursion P) (Lines S)
hold_lines F = hold_several (hold_ended F)

pub hold_may_be_lines : {A : Type 0} (w : Kind) {P : A → Type 0} {S : Spelling A} → AllHold P S → AllHold (AllByRecursion P) (MayBeLines w S)
hold_may_be_lines w F [] i j h = always tt (less_same h)
hold_may_be_lines w F (x ∷ xs) i j h = hold_behind (hold_lines F) (x ∷ xs) i j h
