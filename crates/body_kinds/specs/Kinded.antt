-- Codes of good kinds: all ways to an address agree on what stands on the stack.
use Rattle.std.specs.Prelude.{◌≡◌, ◌≤◌, ◌<◌, ◌⊎◌, ℕ, suc, nat_le, Bool, true, false, if◌then◌else◌, IsTrue, List, [], ◌∷◌, ◌++◌, length, take, drop, reverse, map as each, slice_get, is_some, Option, Some, None, ℤ}
use Rattle.std.specs.List.{list_any, list_all}
use Rattle.pascal_values.specs.declared.fault.Fault.{Fault}
use Rattle.pascal_values.specs.declared.value.Value.{Value}
use Rattle.pascal_values.specs.declared.value.Value.TheVariants as pascal
use Rattle.pascal_values.specs.declared.value.Shape.{Shape, out-Shape}
use Rattle.pascal_values.specs.declared.value.Shape.TheOpen.{Shape-F}
use Rattle.body_code.specs.declared.instr.Point as point
use Rattle.body_code.specs.declared.instr.Ends as ends
use Rattle.body_code.specs.declared.instr.Instr.{Instr}
use Rattle.body_code.specs.declared.instr.Instr.TheVariants as op
use Rattle.body_code.specs.declared.unit.Entry.{Entry}
use Rattle.body_code.specs.declared.unit.Entry.TheVariants as entry
use Rattle.body_code.specs.declared.unit.Local.{Local}
use Rattle.body_code.specs.declared.unit.CodeUnit.{CodeUnit}
use Rattle.body_code.specs.Units.{unit_of}
use Rattle.estelle_model.specs.declared.denoter.Denoter.{Denoter}
use Rattle.estelle_model.specs.declared.meaning.InteractionKind.{InteractionKind}
use Rattle.estelle_model.specs.Types.{shape_of}
use Rattle.estelle_tree.specs.declared.tree.clause.DelayHigh.{DelayHigh}
use Rattle.estelle_tree.specs.declared.tree.clause.DelayHigh.TheVariants as high
use Rattle.estelle_model.specs.Transitions.{Transition, Delay}
use Rattle.estelle_model.specs.Subject as subject
use Rattle.estelle_model.specs.Subject.{Subject, child_of, headers_of, types_of_variables, transition}
use Rattle.body_numbers.specs.declared.numbers.Numbers.{Numbers}
use Rattle.body_numbers.specs.Numbers.{shape_numbered, export_numbered, word_of, interaction_of}
use Rattle.body_kinds.specs.Kinds.{Kind, Integer, Boolean, Character, Members, PlaceOf, is_ordinal, is_compared, is_added, is_of_values, simple_kind, kind_of, StoresInto}

-- what is claimed of a unit
pub record Claim : Type 0 where
  -- it and all that it calls need no instance of its body
  pub closed : Bool
  -- what it leaves, the topmost first
  pub result : List Kind

-- of each unit, by its body and its entry
abbrev pub Claims : Type 0
Claims = ℕ → Entry → Claim

-- the stack at each address that is come to, the topmost first
abbrev pub Stacks : Type 0
Stacks = List (Option (List Kind))

-- what is known of a unit
pub record Table : Type 0 where
  pub closed : Bool
  pub stacks : Stacks
  pub result : List Kind

abbrev pub with_stacks : Claim → Stacks → Table
with_stacks c stacks = record { closed = c.closed; stacks = stacks; result = c.result }

-- ---- what numbers and places are of

-- the shape of a variable of a body
abbrev pub variable_shape : Subject → ℕ → ℕ → Option Shape
variable_shape s body k = slice_get (each shape_of (types_of_variables s body)) k

-- a module variable of a body has the header of another body
abbrev pub HasHeader : Subject → ℕ → ℕ → ℕ → Type 0
HasHeader s body modvar k = IsTrue (is_some (subject.body s k)) × (slice_get (headers_of s body) modvar ≡ Some (child_of s k).header)

-- the export has the shape in each child that the module variable may hold
pub record IsExport (s : Subject) (n : Numbers) (body modvar export : ℕ) (shape : Shape) : Type 0 where
  pub variable : ℕ
  pub is : export_numbered n body modvar export ≡ Some variable
  pub shapes : (k : ℕ) → HasHeader s body modvar k → variable_shape s k variable ≡ Some shape

-- ---- what is given

-- by reference a place of the local's shape, else a value
abbrev pub local_kind : Local → Kind
local_kind l = if l.by_ref then PlaceOf l.shape else kind_of l.shape

-- what is given to the first locals, the topmost first
abbrev pub given_kinds : ℕ → List Local → List Kind
given_kinds count locals = reverse (each local_kind (take count locals))

-- values of types, the topmost first
abbrev pub value_kinds : List Denoter → List Kind
value_kinds types = reverse (each (λ t. kind_of (shape_of t)) types)

abbrev pub has_references : List Local → Bool
has_references locals = list_any (λ l. l.by_ref) locals

-- the unit has so many parameters, and all by reference are among them
abbrev pub TakesArguments : ℕ → CodeUnit → Type 0
TakesArguments count unit = (count ≤ length unit.locals) × (has_references (drop count unit.locals) ≡ false)

-- no local is by reference, and the first are of these types
abbrev pub IsGiven : List Denoter → CodeUnit → Type 0
IsGiven types unit = (has_references unit.locals ≡ false) × (each (λ l. l.shape) (take (length types) unit.locals) ≡ each shape_of types)

-- ---- what units are for

-- the least delay, and above it the greatest where that is an expression
abbrev pub delay_kinds : Option DelayHigh → List Kind
delay_kinds (Some (high.Expr e)) = Integer ∷ Integer ∷ []
delay_kinds _ = Integer ∷ []

-- it leaves true, whatever it is given
abbrev pub SaysTrue : CodeUnit → Type 0
SaysTrue unit = unit.instrs ≡ op.Push (pascal.Bool true) ∷ op.Ret ∷ []

-- guards, delays and blocks begin with what is received, and leave what is asked; without `provided` a guard is true
abbrev pub IsFor : Subject → ℕ → Entry → CodeUnit → List Kind → Type 0
IsFor s body (entry.Routine k) unit result = Unit {0}
IsFor s body entry.Initialize unit result = IsGiven [] unit × (result ≡ [])
IsFor s body (entry.Guard k) unit result = (t : Transition) → transition s body k ≡ Some t → IsGiven t.received unit × (result ≡ Boolean ∷ []) × (t.provided ≡ None → SaysTrue unit)
IsFor s body (entry.Delay k) unit result = (t : Transition) (d : Delay) → transition s body k ≡ Some t → t.delay ≡ Some d → IsGiven t.received unit × (result ≡ delay_kinds d.high)
IsFor s body (entry.Block k) unit result = (t : Transition) → transition s body k ≡ Some t → IsGiven t.received unit × (result ≡ [])

module _ (s : Subject) (n : Numbers) (code : List CodeUnit) (claims : Claims) where
  -- all may call a closed routine; another one those of its body that are not closed
  abbrev pub MayCall : (body : ℕ) (closed : Bool) → (of_body routine : ℕ) → Type 0
  MayCall body closed of_body routine = ((claims of_body (entry.Routine routine)).closed ≡ true) ⊎ ((closed ≡ false) × (of_body ≡ body))

  -- in a unit of a body with these locals
  module _ (body : ℕ) (closed : Bool) (locals : List Local) where
    -- what an instruction takes, the topmost first, and what it leaves behind itself
    pub data Leaves : Instr → List Kind → List Kind → Type 0 where
      push : (v : Value) (k : Kind) → simple_kind v ≡ Some k → Leaves (op.Push v) [] (k ∷ [])
      var : (k : ℕ) (shape : Shape) → closed ≡ false → variable_shape s body k ≡ Some shape → Leaves (op.Var k) [] (PlaceOf shape ∷ [])
      loc : (k : ℕ) (l : Local) → slice_get locals k ≡ Some l → l.by_ref ≡ false → Leaves (op.Loc k) [] (PlaceOf l.shape ∷ [])
      ref : (k : ℕ) (l : Local) → slice_get locals k ≡ Some l → l.by_ref ≡ true → Leaves (op.Ref k) [] (PlaceOf l.shape ∷ [])
      exp : (modvar export : ℕ) (shape : Shape) → closed ≡ false → IsExport s n body modvar export shape → Leaves (op.Exp modvar export) [] (PlaceOf shape ∷ [])
      field : (k : ℕ) (shape part : Shape) (fields : List Shape) → out-Shape shape ≡ Shape-F.Fields fields → slice_get fields k ≡ Some part → Leaves (op.Field k) (PlaceOf shape ∷ []) (PlaceOf part ∷ [])
      index : (low high : ℤ) (shape item : Shape) → out-Shape shape ≡ Shape-F.Array low high item → Leaves (op.Index low high) (Integer ∷ PlaceOf shape ∷ []) (PlaceOf item ∷ [])
      load : (shape : Shape) → Leaves op.Load (PlaceOf shape ∷ []) (kind_of shape ∷ [])
      store : (k : ℕ) (outer shape : Shape) → shape_numbered n k ≡ Some outer → StoresInto outer shape → Leaves (op.Store k) (kind_of shape ∷ PlaceOf shape ∷ []) []
      fit : (k : ℕ) (shape : Shape) → shape_numbered n k ≡ Some shape → Leaves (op.Fit k) (kind_of shape ∷ []) (kind_of shape ∷ [])
      blank : (shape : Shape) → Leaves op.Blank (PlaceOf shape ∷ []) []
      neg : Leaves op.Neg (Integer ∷ []) (Integer ∷ [])
      abs : Leaves op.Abs (Integer ∷ []) (Integer ∷ [])
      sqr : Leaves op.Sqr (Integer ∷ []) (Integer ∷ [])
      odd : Leaves op.Odd (Integer ∷ []) (Boolean ∷ [])
      chr : Leaves op.Chr (Integer ∷ []) (Character ∷ [])
      ord : (k : Kind) → IsTrue (is_ordinal k) → Leaves op.Ord (k ∷ []) (Integer ∷ [])
      successor : (k : Kind) → IsTrue (is_ordinal k) → Leaves op.Succ (k ∷ []) (k ∷ [])
      predecessor : (k : Kind) → IsTrue (is_ordinal k) → Leaves op.Pred (k ∷ []) (k ∷ [])
      negated : Leaves op.Not (Boolean ∷ []) (Boolean ∷ [])
      add : (k : Kind) → IsTrue (is_added k) → Leaves op.Add (k ∷ k ∷ []) (k ∷ [])
      sub : (k : Kind) → IsTrue (is_added k) → Leaves op.Sub (k ∷ k ∷ []) (k ∷ [])
      mul : (k : Kind) → IsTrue (is_added k) → Leaves op.Mul (k ∷ k ∷ []) (k ∷ [])
      div : Leaves op.Div (Integer ∷ Integer ∷ []) (Integer ∷ [])
      mod_ : Leaves op.Mod (Integer ∷ Integer ∷ []) (Integer ∷ [])
      eq : (k : Kind) → IsTrue (is_compared k) → Leaves op.Eq (k ∷ k ∷ []) (Boolean ∷ [])
      ne : (k : Kind) → IsTrue (is_compared k) → Leaves op.Ne (k ∷ k ∷ []) (Boolean ∷ [])
      lt : (k : Kind) → IsTrue (is_ordinal k) → Leaves op.Lt (k ∷ k ∷ []) (Boolean ∷ [])
      le : (k : Kind) → IsTrue (is_compared k) → Leaves op.Le (k ∷ k ∷ []) (Boolean ∷ [])
      gt : (k : Kind) → IsTrue (is_ordinal k) → Leaves op.Gt (k ∷ k ∷ []) (Boolean ∷ [])
      ge : (k : Kind) → IsTrue (is_compared k) → Leaves op.Ge (k ∷ k ∷ []) (Boolean ∷ [])
      empty : Leaves op.Empty [] (Members ∷ [])
      one : (k : Kind) → IsTrue (is_ordinal k) → Leaves op.One (k ∷ []) (Members ∷ [])
      -- the first one is given by its ordinal
      span : (k : Kind) → IsTrue (is_ordinal k) → Leaves op.Span (k ∷ Integer ∷ []) (Members ∷ [])
      unite : Leaves op.Unite (Members ∷ Members ∷ []) (Members ∷ [])
      meet : Leaves op.Meet (Members ∷ Members ∷ []) (Members ∷ [])
      minus : Leaves op.Minus (Members ∷ Members ∷ []) (Members ∷ [])
      has : (k : Kind) → IsTrue (is_ordinal k) → Leaves op.Has (Members ∷ k ∷ []) (Boolean ∷ [])
      -- with what the unit that is called leaves
      call : (of_body routine count : ℕ) (unit : CodeUnit) → unit_of code of_body (entry.Routine routine) ≡ Some unit → MayCall body closed of_body routine → TakesArguments count unit
          → Leaves (op.Call of_body routine count) (given_kinds count unit.locals) (claims of_body (entry.Routine routine)).result
      init : (modvar of_body count : ℕ) (unit : CodeUnit) → closed ≡ false → unit_of code of_body entry.Initialize ≡ Some unit → count ≡ length (child_of s of_body).parameters
          → Leaves (op.Init modvar of_body count) (value_kinds (child_of s of_body).parameters) []
      release : (modvar : ℕ) → closed ≡ false → Leaves (op.Release modvar) [] []
      connect : (x y : point.Point) → closed ≡ false → Leaves (op.Connect x y) [] []
      disconnect : (x : ends.Ends) → closed ≡ false → Leaves (op.Disconnect x) [] []
      attach : (upper : ℕ) (lower : point.Point) → closed ≡ false → Leaves (op.Attach upper lower) [] []
      detach : (ip : ℕ) → closed ≡ false → Leaves (op.Detach ip) [] []
      output : (ip interaction count : ℕ) (word : List ℕ) (kind : InteractionKind) → closed ≡ false → word_of n body ip ≡ Some word → interaction_of n body ip interaction ≡ Some kind → count ≡ length kind.parameters
          → Leaves (op.Output ip interaction count) (value_kinds kind.parameters) []

  -- ---- units

  abbrev pub goes_back : ℕ → Option Instr → Bool
  goes_back address (Some (op.Jump to)) = nat_le to address
  goes_back address _ = false

  module _ (body : ℕ) (unit : CodeUnit) (t : Table) where
    -- these kinds stand on the stack at the address
    abbrev pub Stands : ℕ → List Kind → Type 0
    Stands address ks = slice_get t.stacks address ≡ Some (Some ks)

    -- and it is no jump back, to which only the turn before it leads
    abbrev pub Enters : ℕ → List Kind → Type 0
    Enters address ks = Stands address ks × (goes_back address (slice_get unit.instrs address) ≡ false)

    module _ (address : ℕ) where
      -- where an instruction leads with these kinds, and what it leaves there
      pub data Leads : Instr → List Kind → Type 0 where
        straight : (i : Instr) (taken left below : List Kind) → Leaves body t.closed unit.locals i taken left → Enters (suc address) (left ++ below) → Leads i (taken ++ below)
        jump : (to : ℕ) (ks : List Kind) → Enters to ks → Leads (op.Jump to) ks
        jfalse : (to : ℕ) (ks : List Kind) → address < to → Enters to ks → Enters (suc address) ks → Leads (op.Jfalse to) (Boolean ∷ ks)
        jtrue : (to : ℕ) (ks : List Kind) → address < to → Enters to ks → Enters (suc address) ks → Leads (op.Jtrue to) (Boolean ∷ ks)
        turn : (ks : List Kind) → Stands (suc address) ks → Leads op.Turn ks
        ret : Leads op.Ret t.result
        fail : (kind : Fault) (ks : List Kind) → Leads (op.Fail kind) ks

    -- an instruction stands at the address, and leads on with the kinds there
    pub record IsFine (address : ℕ) (ks : List Kind) : Type 0 where
      pub instr : Instr
      pub there : slice_get unit.instrs address ≡ Some instr
      pub leads : Leads address instr ks

    -- begins with an empty stack, is fine wherever it comes to, and leaves values
    pub record IsKindedUnit : Type 0 where
      pub begins : Enters 0 []
      pub each : (address : ℕ) (ks : List Kind) → Stands address ks → IsFine address ks
      pub values : IsTrue (list_all is_of_values t.result)

  -- some stacks make the unit fine with what is claimed of it
  abbrev pub HasStacks : ℕ → CodeUnit → Claim → Type 0
  HasStacks body unit c = (stacks : Stacks) × IsKindedUnit body unit (with_stacks c stacks)

  -- so they do each unit, of which is claimed what it is for
  abbrev pub IsKinded : Type 0
  IsKinded = (body : ℕ) (e : Entry) (unit : CodeUnit) → unit_of code body e ≡ Some unit → HasStacks body unit (claims body e) × IsFor s body e unit (claims body e).result
