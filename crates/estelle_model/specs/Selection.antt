-- What a system may select: a parent before its children, and of an instance a transition over which none has priority (ISO/IEC 9074).
use Rattle.std.specs.Prelude.{◌≢◌, ℕ, ℤ, int_lt, Bool, true, false, IsTrue, List, [], ◌∷◌, ◌++◌, filter, option_and_then, Option, Some, None, Contains}
use Rattle.std.specs.FinMap as map
use Rattle.std.specs.Str.{bytes_eq}
use Rattle.estelle_tree.specs.declared.transition.Pair.{Pair}
use Rattle.estelle_tree.specs.Paths.{Path, child, last_of}
use Rattle.estelle_model.specs.Subject.{Subject}
use Rattle.estelle_model.specs.Situation.{Situation}
use Rattle.estelle_model.specs.Firing.{transition_at}
use Rattle.estelle_model.specs.Attributes.{IsProcess, IsActivity}
use Rattle.estelle_tree.specs.Timers.{pair}
use Rattle.estelle_model.specs.Delays.{may, must}

-- ---- what an instance offers

-- a transition may be selected
abbrev pub May : Subject → ℕ → Situation → Path → ℕ → Type 0
May s budget g m n = IsTrue (may s budget g m n)

-- a transition must be counted
abbrev pub Must : Subject → ℕ → Situation → Path → ℕ → Type 0
Must s budget g m n = IsTrue (must s budget g m n)

-- the priority of a transition of an instance, if it has one
abbrev pub priority : Subject → Situation → Path → ℕ → Option ℤ
priority s g m n = option_and_then (λ t. t.priority) (transition_at s n (map.get g.core.instances m))

-- a smaller number is a higher priority, and a transition without one comes after all that have one
abbrev pub is_higher : Option ℤ → Option ℤ → Bool
is_higher (Some a) (Some b) = int_lt a b
is_higher (Some a) None = true
is_higher None other = false

-- the first of two transitions of an instance has priority over the second
abbrev pub has_priority : Subject → Situation → Path → ℕ → ℕ → Bool
has_priority s g m k n = is_higher (priority s g m k) (priority s g m n)

abbrev pub HasPriority : Subject → Situation → Path → ℕ → ℕ → Type 0
HasPriority s g m k n = IsTrue (has_priority s g m k n)

-- it may be selected, and no transition that must be counted has priority over it
pub record Eligible (s : Subject) (budget : ℕ) (g : Situation) (m : Path) (n : ℕ) : Type 0 where
  pub may : May s budget g m n
  pub highest : (k : ℕ) → Must s budget g m k → HasPriority s g m k n → ⊥

-- none of its transitions must be counted
abbrev pub IsSilent : Subject → ℕ → Situation → Path → Type 0
IsSilent s budget g m = (n : ℕ) → Must s budget g m n → ⊥

-- ---- children

-- the instances that are there, in path order
abbrev pub paths : Situation → List Path
paths g = map.keys g.core.instances

-- the second path is the first with one birth number more
abbrev pub is_child : Path → Path → Bool
is_child m q = bytes_eq q (child m (last_of q))

-- the children of an instance that are there, by their birth numbers
abbrev pub children : Situation → Path → List Path
children g m = filter (is_child m) (paths g)

-- ---- what is selected

mutual
  -- at and below an instance these transitions may be selected together; they stand in path order
  pub data Selects (s : Subject) (budget : ℕ) (g : Situation) : Path → List Pair → Type 0 where
    -- one of its own, which excludes all below it
    own : (m : Path) (n : ℕ) → Eligible s budget g m n → Selects s budget g m (pair m n ∷ [])
    -- of a process, what each child selects
    process : (m : Path) (all : List Pair) → IsSilent s budget g m → IsProcess s g m → SelectsEach s budget g (children g m) all → Selects s budget g m all
    -- of an activity, what one child selects, where that is something
    activity : (m c : Path) (some : List Pair) → IsSilent s budget g m → IsActivity s g m → Contains (children g m) c → some ≢ [] → Selects s budget g c some → Selects s budget g m some
    -- and nothing, where each child may select nothing
    quiet : (m : Path) → IsSilent s budget g m → IsActivity s g m → SelectsEach s budget g (children g m) [] → Selects s budget g m []

  -- at and below each of these instances, one after another
  pub data SelectsEach (s : Subject) (budget : ℕ) (g : Situation) : List Path → List Pair → Type 0 where
    none : SelectsEach s budget g [] []
    more : (c : Path) (cs : List Path) (some more : List Pair) → Selects s budget g c some → SelectsEach s budget g cs more → SelectsEach s budget g (c ∷ cs) (some ++ more)
