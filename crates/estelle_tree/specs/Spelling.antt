-- What the forms of the grammar spell: the tokens from one place to another.
use Rattle.std.specs.Prelude.{◌≡◌, Bool, true, false, List, [], ◌∷◌, Option, Some, None}
use Rattle.estelle_tree.specs.declared.kind.Kind.{Kind}
use Rattle.estelle_tree.specs.declared.kind.Kind.TheVariants as k
use Rattle.estelle_tree.specs.Input.{Input, kind, next}

-- that a thing spells the tokens from one place to the other
abbrev pub Spelling : Type 0 → Type 1
Spelling A = A → Input → Input → Type 0

-- a terminal: one token of this kind
pub record Takes (terminal : Kind) (i j : Input) : Type 0 where
  pub kind : kind i ≡ terminal
  pub next : next i ≡ j

-- `[k]`
abbrev pub Flag : Kind → Spelling Bool
Flag k false i j = i ≡ j
Flag k true i j = Takes k i j

-- `[k]`, where several terminals can stand and a choice tells which
abbrev pub Mark : {O : Type 0} → (O → Kind) → Spelling (Option O)
Mark of None i j = i ≡ j
Mark of (Some o) i j = Takes (of o) i j

-- `[x]`
abbrev pub Optional : {A : Type 0} → Spelling A → Spelling (Option A)
Optional P None i j = i ≡ j
Optional P (Some x) i j = P x i j

-- `{x}`: these, one after another
abbrev pub Chain : {A : Type 0} → Spelling A → Spelling (List A)
Chain P [] i j = i ≡ j
Chain P (x ∷ xs) i j = (m : Input) × P x i m × Chain P xs m j

-- `{x}+`
abbrev pub Several : {A : Type 0} → Spelling A → Spelling (List A)
Several P [] i j = ⊥
Several P (x ∷ xs) i j = (m : Input) × P x i m × Chain P xs m j

-- `k x`
pub record Behind {A : Type 0} (k : Kind) (P : Spelling A) (x : A) (i j : Input) : Type 0 where
  pub at : Input
  pub mark : Takes k i at
  pub item : P x at j

-- `x k`
pub record Ended {A : Type 0} (k : Kind) (P : Spelling A) (x : A) (i j : Input) : Type 0 where
  pub mid : Input
  pub item : P x i mid
  pub mark : Takes k mid j

-- `x k y`
pub record Joined {A B : Type 0} (k : Kind) (P : Spelling A) (Q : Spelling B) (x : A) (y : B) (i j : Input) : Type 0 where
  pub mid : Input
  pub at : Input
  pub first : P x i mid
  pub mark : Takes k mid at
  pub second : Q y at j

-- `x {k x}`
abbrev pub Separated : {A : Type 0} → Kind → Spelling A → Spelling (List A)
Separated k P [] i j = ⊥
Separated k P (x ∷ xs) i j = (m : Input) × P x i m × Chain (Behind k P) xs m j

-- `from x to`
pub record Enclosed {A : Type 0} (from to : Kind) (P : Spelling A) (x : A) (i j : Input) : Type 0 where
  pub at : Input
  pub mid : Input
  pub opens : Takes from i at
  pub inside : P x at mid
  pub closes : Takes to mid j

-- `{x ";"}+`
abbrev pub Lines : {A : Type 0} → Spelling A → Spelling (List A)
Lines P = Several (Ended k.Semicolon P)

-- `[k {x ";"}+]`: the list is empty where nothing stands
abbrev pub MayBeLines : {A : Type 0} → Kind → Spelling A → Spelling (List A)
MayBeLines first P [] i j = i ≡ j
MayBeLines first P (x ∷ xs) i j = Behind first (Lines P) (x ∷ xs) i j

-- nothing is spelled so
abbrev pub Never : {A : Type 0} → Spelling A
Never x i j = ⊥
