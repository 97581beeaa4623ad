-- What holds of all that is spelled in one way holds of each thing in what is spelled with it.
use Rattle.std.proofs.Common.{[], ◌∷◌}
use Rattle.std.specs.List.{AllByRecursion}
use Rattle.estelle_tree.specs.declared.kind.Kind.{Kind}
use Rattle.estelle_tree.specs.Input.{Input}
use Rattle.estelle_tree.specs.Spelling.{Spelling, Chain, Several, Behind, Ended, Enclosed, Separated, Lines, MayBeLines}

-- this holds of all that is spelled so
abbrev pub AllOf : {A : Type 0} → (A → Type 0) → Spelling A → Type 0
AllOf {A} P S = (x : A) (i j : Input) → S x i j → P x

pub of_chain : {A : Type 0} {P : A → Type 0} {S : Spelling A} → AllOf P S → AllOf (AllByRecursion P) (Chain S)
of_chain F [] i j h = tt
of_chain F (x ∷ xs) i j h = (F x i h.0 h.1, of_chain F xs h.0 j h.2)

pub of_behind : {A : Type 0} {w : Kind} {P : A → Type 0} {S : Spelling A} → AllOf P S → AllOf P (Behind w S)
of_behind F x i j h = F x h.at j h.item

pub of_ended : {A : Type 0} {w : Kind} {P : A → Type 0} {S : Spelling A} → AllOf P S → AllOf P (Ended w S)
of_ended F x i j h = F x i h.mid h.item

pub of_enclosed : {A : Type 0} {v w : Kind} {P : A → Type 0} {S : Spelling A} → AllOf P S → AllOf P (Enclosed v w S)
of_enclosed F x i j h = F x h.at h.mid h.inside

pub of_several : {A : Type 0} {P : A → Type 0} {S : Spelling A} → AllOf P S → AllOf (AllByRecursion P) (Several S)
of_several F [] i j h = absurd h
of_several F (x ∷ xs) i j h = (F x i h.0 h.1, of_chain F xs h.0 j h.2)

pub of_separated : {A : Type 0} (w : Kind) {P : A → Type 0} {S : Spelling A} → AllOf P S → AllOf (AllByRecursion P) (Separated w S)
of_separated w F [] i j h = absurd h
of_separated w F (x ∷ xs) i j h = (F x i h.0 h.1, of_chain (of_behind F) xs h.0 j h.2)

pub of_lines : {A : Type 0} {P : A → Type 0} {S : Spelling A} → AllOf P S → AllOf (AllByRecursion P) (Lines S)
of_lines F = of_several (of_ended F)

pub of_may_be_lines : {A : Type 0} (w : Kind) {P : A → Type 0} {S : Spelling A} → AllOf P S → AllOf (AllByRecursion P) (MayBeLines w S)
of_may_be_lines w F [] i j h = tt
of_may_be_lines w F (x ∷ xs) i j h = of_lines F (x ∷ xs) h.at j h.item
