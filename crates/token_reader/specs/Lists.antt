-- Parts that may be missing, and parts that are repeated. A *step* reads one more part, or nothing.
use Rattle.std.specs.Prelude.{ℕ, zero, suc, Bool, true, false, ◌&&◌, List, [], ◌∷◌, ◌++◌, Option, Some, None}
use Rattle.estelle_tree.specs.declared.kind.Kind.{Kind}
use Rattle.estelle_tree.specs.Input.{kind, next, left}
use Rattle.token_reader.specs.Reader.{Parser, ◌>>=◌, ◌>>◌, pure, take, sees, expect}

-- ---- `[x]`

abbrev pub optional_if : {A : Type 0} → Bool → Parser A → Parser (Option A)
optional_if true item = item >>= λ x. pure (Some x)
optional_if false item = pure None

-- `[x]`, where the next kind tells whether x begins
unfoldable pub optional : {A : Type 0} → (Kind → Bool) → Parser A → Parser (Option A)
optional begins item = λ i. optional_if (begins (kind i)) item i

-- `[k x]`
unfoldable pub behind : {A : Type 0} → Kind → Parser A → Parser (Option A)
behind k item = λ i. optional_if (sees k i) (take >> item) i

-- `[k x]`, where k may also stand alone: the kind after it tells
unfoldable pub behind_if : {A : Type 0} → Kind → (Kind → Bool) → Parser A → Parser (Option A)
behind_if k begins item = λ i. optional_if (sees k i && begins (kind (next i))) (take >> item) i

-- `[k]`, where several terminals can stand
abbrev pub taking : {O : Type 0} → Option O → Parser (Option O)
taking None = pure None
taking (Some o) = take >> pure (Some o)

abbrev pub mark : {O : Type 0} → (Kind → Option O) → Parser (Option O)
mark of = λ i. taking (of (kind i)) i

-- `[k x]`, where several terminals can stand
abbrev pub marked_by : {O A : Type 0} → Option O → Parser A → Parser (Option (O × A))
marked_by None item = pure None
marked_by (Some o) item = take >> (item >>= λ x. pure (Some (o, x)))

abbrev pub marked : {O A : Type 0} → (Kind → Option O) → Parser A → Parser (Option (O × A))
marked of item = λ i. marked_by (of (kind i)) item i

-- ---- `x k`

unfoldable pub ended : {A : Type 0} → Kind → Parser A → Parser A
ended k item = item >>= λ x. expect k >>= λ _. pure x

-- ---- `{x}`: the step again and again, until it reads nothing. The number bounds the turns: each takes a
-- token, so the count of tokens is enough.

abbrev pub turn : {A : Type 0} → List A → (List A → Parser (List A)) → Option A → Parser (List A)
turn found again None = pure found
turn found again (Some x) = again (found ++ x ∷ [])

unfoldable pub repeated_from : {A : Type 0} → Parser (Option A) → ℕ → List A → Parser (List A)
repeated_from step zero found = pure found
repeated_from step (suc n) found = step >>= turn found (repeated_from step n)

-- what was found before comes first
unfoldable pub repeated : {A : Type 0} → Parser (Option A) → List A → Parser (List A)
repeated step found = λ i. repeated_from step (left i) found i

-- `x {y}`, where the step reads y
unfoldable pub first_and : {A : Type 0} → Parser A → Parser (Option A) → Parser (List A)
first_and item step = item >>= λ x. repeated step (x ∷ [])

-- `x {k x}`
abbrev pub separated : {A : Type 0} → Kind → Parser A → Parser (List A)
separated k item = first_and item (behind k item)

-- `x {k x}`, before `[k]`
abbrev pub separated_if : {A : Type 0} → Kind → (Kind → Bool) → Parser A → Parser (List A)
separated_if k begins item = first_and item (behind_if k begins item)

-- `{x}+`
abbrev pub several : {A : Type 0} → (Kind → Bool) → Parser A → Parser (List A)
several begins item = first_and item (optional begins item)
