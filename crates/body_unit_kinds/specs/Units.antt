-- Units whose stacks are found one address after another.
use Rattle.std.specs.Prelude.{◌≡◌, ◌≤◌, ◌<◌, ℕ, suc, false, List, [], ◌∷◌, ◌++◌, length, slice_get, Some}
use Rattle.body_code.specs.declared.instr.Instr.{Instr}
use Rattle.body_kinds.specs.Kinds.{Kind, Boolean}
use Rattle.body_kinds.specs.Kinded.{Stacks, Table, with_stacks, goes_back, Leads, IsFine}
use Rattle.body_unit_kinds.specs.declared.here.Here.{Here}
use Rattle.body_unit_kinds.specs.Seen.{claimed_by, claimed}
use Rattle.body_unit_kinds.specs.Effects.{HasEffect}

-- what is claimed of the unit, with its stacks as far as they are known
abbrev pub table_with : Here → Stacks → Table
table_with h stacks = with_stacks (claimed_by (Some h.claim.now)) stacks

-- more is known, and nothing more before an address
pub record Grows (address : ℕ) (old new : Stacks) : Type 0 where
  pub more : (k : ℕ) (ks : List Kind) → slice_get old k ≡ Some (Some ks) → slice_get new k ≡ Some (Some ks)
  pub kept : (k : ℕ) → k < address → slice_get new k ≡ slice_get old k
  pub same : length new ≡ length old

-- these kinds stand at an address that is no jump back
pub record Enters (h : Here) (stacks : Stacks) (to : ℕ) (ks : List Kind) : Type 0 where
  pub stands : slice_get stacks to ≡ Some (Some ks)
  pub no_back : goes_back h.bodies.now h.numbers.now h.code.now (claimed h.claims.now) to (slice_get h.unit.now.instrs to) ≡ false

-- a truth value on top decides between two addresses, with what stands below it
pub record Decides (h : Here) (next to : ℕ) (ks : List Kind) (stacks : Stacks) : Type 0 where
  pub below : List Kind
  pub are : ks ≡ Boolean ∷ below
  pub over : next ≤ to
  pub jumps : Enters h stacks to below
  pub falls : Enters h stacks next below

-- an instruction goes on behind itself, and leaves such a stack
pub record GoesOn (h : Here) (i : Instr) (ks stack : List Kind) : Type 0 where
  pub left : List Kind
  pub rest : List Kind
  pub effect : HasEffect h i ks left rest
  pub are : stack ≡ left ++ rest

-- the one at an address does, with the stack there
pub record GoesOnAt (h : Here) (stacks : Stacks) (address : ℕ) (stack : List Kind) : Type 0 where
  pub instr : Instr
  pub there : slice_get h.unit.now.instrs address ≡ Some instr
  pub ks : List Kind
  pub stood : slice_get stacks address ≡ Some (Some ks)
  pub goes : GoesOn h instr ks stack

-- where an instruction leads before an address
abbrev pub LeadsTo : Here → ℕ → Instr → List Kind → Stacks → Type 0
LeadsTo h next i ks stacks = (address : ℕ) → next ≡ suc address → Leads h.bodies.now h.numbers.now h.code.now (claimed h.claims.now) h.body h.unit.now (table_with h stacks) address i ks

abbrev pub IsFineIn : Here → Stacks → ℕ → List Kind → Type 0
IsFineIn h stacks address ks = IsFine h.bodies.now h.numbers.now h.code.now (claimed h.claims.now) h.body h.unit.now (table_with h stacks) address ks

-- whatever stands at the address
abbrev pub IsVisited : Here → Stacks → ℕ → Type 0
IsVisited h stacks address = (ks : List Kind) → slice_get stacks address ≡ Some (Some ks) → IsFineIn h stacks address ks

-- all before an address is fine
pub record IsFound (h : Here) (stacks : Stacks) (address : ℕ) : Type 0 where
  pub all : length stacks ≡ length h.unit.now.instrs
  pub begins : Enters h stacks 0 []
  pub fine : (k : ℕ) → k < address → IsVisited h stacks k
