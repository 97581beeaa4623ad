-- Which pieces begin what the forms of the grammar spell: the empty piece begins each of them, and another
-- piece where it consists of the first parts, each spelled whole, and of a piece that begins the next part.
use Rattle.std.specs.Prelude.{◌≡◌, ℕ, ◌<◌, List, ◌⊎◌}
use Rattle.estelle_tree.specs.declared.kind.Kind.{Kind}
use Rattle.estelle_tree.specs.declared.kind.Kind.TheVariants as k
use Rattle.estelle_tree.specs.Input.{Input}
use Rattle.estelle_tree.specs.Spelling.{Spelling, Takes, Chain, Behind, Ended}

-- that the tokens from one place to the other are such a piece
abbrev pub Beginning : Type 1
Beginning = Input → Input → Type 0

-- nothing comes
abbrev pub Nothing : Beginning
Nothing i j = i ≡ j

-- the one or the other
infixr 5 ◌or◌
abbrev pub ◌or◌ : Beginning → Beginning → Beginning
B or C = λ i j. B i j ⊎ C i j

-- a part that spells so and begins so, and what comes next
abbrev pub Then : {A : Type 0} → Beginning → Spelling A → Beginning → Beginning
Then {A} B P next i j = B i j ⊎ ((x : A) × (m : Input) × P x i m × next m j)

-- `k` and what comes next
abbrev pub After : Kind → Beginning → Beginning
After k next i j = (i ≡ j) ⊎ ((m : Input) × Takes k i m × next m j)

-- `k` alone
abbrev pub OneToken : Kind → Beginning
OneToken k i j = (i ≡ j) ⊎ Takes k i j

-- one of several terminals and what comes next
abbrev pub AfterOne : {O : Type 0} → (O → Kind) → Beginning → Beginning
AfterOne {O} of next i j = (i ≡ j) ⊎ ((o : O) × (m : Input) × Takes (of o) i m × next m j)

-- `k`, which opens a level of nesting, and what comes next: no piece but the empty one, where there is no room
abbrev pub Opens : ℕ → Kind → Beginning → Beginning
Opens room k next i j = (i ≡ j) ⊎ ((0 < room) × ((m : Input) × Takes k i m × next m j))

-- `[k]` and what comes next
abbrev pub MayBe : Kind → Beginning → Beginning
MayBe k next = next or After k next

-- `[k]`, where several terminals can stand, and what comes next
abbrev pub MayBeOne : {O : Type 0} → (O → Kind) → Beginning → Beginning
MayBeOne of next = next or AfterOne of next

-- `[x]` and what comes next
abbrev pub May : {A : Type 0} → Beginning → Spelling A → Beginning → Beginning
May B P next = next or Then B P next

-- `{x}` and what comes next
abbrev pub Many : {A : Type 0} → Beginning → Spelling A → Beginning → Beginning
Many {A} B P next i j = (xs : List A) × (m : Input) × Chain P xs i m × (B or next) m j

-- `{x}+` and what comes next
abbrev pub Some : {A : Type 0} → Beginning → Spelling A → Beginning → Beginning
Some B P next = Then B P (Many B P next)

-- `x {k x}` and what comes next
abbrev pub Separating : {A : Type 0} → Kind → Beginning → Spelling A → Beginning → Beginning
Separating k B P next = Then B P (Many (After k B) (Behind k P) next)

-- `{x ";"}+` and what comes next
abbrev pub Lining : {A : Type 0} → Beginning → Spelling A → Beginning → Beginning
Lining B P next = Some (Then B P (OneToken k.Semicolon)) (Ended k.Semicolon P) next
