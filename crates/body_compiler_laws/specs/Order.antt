-- Where units still may come in a code whose units stand in the order of the listing.
use Rattle.std.specs.Prelude.{◌≡◌, ℕ, ◌+◌, ◌<◌, ◌≤◌, ◌⊎◌, List, Some, None}
use Rattle.body_code.specs.declared.unit.Entry.{Entry}
use Rattle.body_code.specs.declared.unit.Entry.TheVariants as entry
use Rattle.body_code.specs.declared.unit.CodeUnit.{CodeUnit}
use Rattle.body_code.specs.Units.{unit_of}
use Rattle.body_code.specs.Firsts.{body_after}

-- routines come first, then the initialization, then for each transition its guard, its delay and its block
abbrev pub kind_of : Entry → ℕ
kind_of (entry.Routine k) = 0
kind_of entry.Initialize = 1
kind_of (entry.Guard k) = 2
kind_of (entry.Delay k) = 2
kind_of (entry.Block k) = 2

abbrev pub number_of : Entry → ℕ
number_of (entry.Routine k) = k
number_of entry.Initialize = 0
number_of (entry.Guard k) = k + k + k
number_of (entry.Delay k) = k + k + k + 1
number_of (entry.Block k) = k + k + k + 2

-- an entry comes from there on
abbrev pub IsFrom : (kind number : ℕ) → Entry → Type 0
IsFrom kind number e = (kind < kind_of e) ⊎ ((kind ≡ kind_of e) × (number ≤ number_of e))

-- what comes next belongs to this body, and no unit stands yet at its entries from there on, nor in later bodies
pub record IsOpen (code : List CodeUnit) (here kind number : ℕ) : Type 0 where
  pub inside : body_after None code ≡ Some here
  pub rest : (e : Entry) → IsFrom kind number e → unit_of code here e ≡ None
  pub later : (body : ℕ) (e : Entry) → here < body → unit_of code body e ≡ None
