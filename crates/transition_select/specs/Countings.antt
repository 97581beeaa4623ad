-- What instances count, in path order: their transitions that may be selected now.
use Rattle.std.specs.Prelude.{◌≡◌, ℕ, ℤ, not, Option, None, if◌then◌else◌, List, [], ◌∷◌, map as each, filter}
use Rattle.std.specs.List.{AllByRecursion}
use Rattle.estelle_tree.specs.Paths.{Path}
use Rattle.estelle_model.specs.Jobs.{IsThere}
use Rattle.estelle_model.specs.Subject.{Subject}
use Rattle.estelle_model.specs.Situation.{Situation}
use Rattle.estelle_model.specs.Delays.{must}
use Rattle.estelle_model.specs.Selection.{is_higher, priority}
use Rattle.estelle_model.specs.Schedule.{counted}
use Rattle.transition_select.specs.declared.countings.Countable.{Countable}
use Rattle.transition_select.specs.declared.countings.Counting.{Counting}
use Rattle.transition_select.specs.Blocks.{at_and_below}
use Rattle.transition_select.specs.Offers.{IsOfKind}

-- its priority is that of the transition
abbrev pub HasPriority : Subject → Situation → Path → Countable → Type 0
HasPriority s g m c = c.priority ≡ priority s g m c.trans

-- the transitions of an instance that may be selected now, with their priorities
pub record AreCountedOf (s : Subject) (budget : ℕ) (g : Situation) (m : Path) (cs : List Countable) : Type 0 where
  pub numbers : each (λ c. c.trans) cs ≡ counted s budget g m
  pub priorities : AllByRecursion (HasPriority s g m) cs

-- its priority, and whether it must be counted
pub record IsCountable (s : Subject) (budget : ℕ) (g : Situation) (m : Path) (c : Countable) : Type 0 where
  pub priority : HasPriority s g m c
  pub must : c.must ≡ must s budget g m c.trans

-- the same, with which of them must be counted
pub record AreCountablesOf (s : Subject) (budget : ℕ) (g : Situation) (m : Path) (cs : List Countable) : Type 0 where
  pub numbers : each (λ c. c.trans) cs ≡ counted s budget g m
  pub known : AllByRecursion (IsCountable s budget g m) cs

-- what is given of an instance
pub record IsCounting (s : Subject) (budget : ℕ) (g : Situation) (c : Counting) : Type 0 where
  pub kind : IsOfKind s g c.path c.of_process
  pub transitions : AreCountablesOf s budget g c.path c.transitions.items

-- that of an instance that is there and of all below it
pub record AreCountings (s : Subject) (budget : ℕ) (g : Situation) (m : Path) (cs : List Counting) : Type 0 where
  pub there : IsThere g.core.instances m
  pub paths : each (λ c. c.path) cs ≡ at_and_below g m
  pub countings : AllByRecursion (IsCounting s budget g) cs

-- ---- what is offered of it

-- the highest priority of these and of the one so far
abbrev pub higher : Option ℤ → List Countable → Option ℤ
higher so_far [] = so_far
higher so_far (c ∷ cs) = higher (if is_higher c.priority so_far then c.priority else so_far) cs

abbrev pub highest : List Countable → Option ℤ
highest = higher None

-- those that are not below a priority
abbrev pub not_below : Option ℤ → List Countable → List ℕ
not_below most cs = each (λ c. c.trans) (filter (λ c. not (is_higher most c.priority)) cs)
