-- A code of good kinds is never stuck.
use Rattle.std.specs.Prelude.{◌≡◌, ℕ, Bool, true, false, IsTrue, List, [], ◌∷◌, slice_get, Some, Ok, Err}
use Rattle.pascal_values.specs.declared.value.Value.{Value}
use Rattle.estelle_tree.specs.Paths.{Path}
use Rattle.body_code.specs.declared.instr.Instr.{Instr}
use Rattle.body_code.specs.declared.instr.Instr.TheVariants as op
use Rattle.body_code.specs.declared.instr.Ends.TheVariants as ends
use Rattle.body_code.specs.declared.unit.Entry.{Entry}
use Rattle.body_code.specs.declared.unit.Entry.TheVariants as entry
use Rattle.body_code.specs.declared.unit.CodeUnit.{CodeUnit}
use Rattle.body_code.specs.Units.{unit_of}
use Rattle.std.specs.FinMap as map
use Rattle.estelle_model.specs.declared.denoter.Denoter.{Denoter}
use Rattle.estelle_model.specs.declared.image.Image.{Image}
use Rattle.estelle_model.specs.Belonging.{are_values_of}
use Rattle.estelle_model.specs.Core.{Instance, Core}
use Rattle.estelle_model.specs.Computed.{core_of}
use Rattle.estelle_model.specs.Firing.{bare}
use Rattle.estelle_model.specs.States.{Logged}
use Rattle.estelle_model.specs.Stops.{Faults, Broken}
use Rattle.estelle_model.specs.Steps.{Running, StepResult}
use Rattle.estelle_model.specs.Transitions.{Transition, Delay}
use Rattle.estelle_model.specs.Subject.{Subject, transition}
use Rattle.body_numbers.specs.declared.numbers.Numbers.{Numbers}
use Rattle.body_machine.specs.declared.item.Item.{Item}
use Rattle.body_machine.specs.declared.item.Item.TheVariants.{Datum}
use Rattle.body_machine.specs.Machine.{Machine, Next, Goes, Ends, Stops}
use Rattle.body_machine.specs.Ends.{makes_child}
use Rattle.body_machine.specs.Rows.{Row, Nullary, OfMany, Begins, row}
use Rattle.body_machine.specs.Steps.{taken_from, values_from, next, Comes}
use Rattle.body_kinds.specs.Kinds.{Kind, Boolean, is_of}
use Rattle.estelle_model_legality.specs.Jobs.{IsLegalImage}
use Rattle.body_machine_meaning.specs.Executed.{started, RunsTo}
use Rattle.body_kinds.specs.Kinded.{Claims, IsGiven, delay_kinds, IsKinded}
use Rattle.body_machine_kinds.specs.Typed.{Bodies, Grows, IsState, IsTyped}

-- an instruction that asks for channels, roles, headers and bounds, which kinds do not tell
abbrev pub asks_more : Instr → Bool
asks_more (op.Init modvar body arguments) = true
asks_more (op.Connect x y) = true
asks_more (op.Disconnect (ends.Point x)) = true
asks_more (op.Attach upper lower) = true
asks_more (op.Detach ip) = true
asks_more (op.Output ip interaction arguments) = true
asks_more _ = false

-- these values are left, the topmost first
abbrev pub AreLeft : List Kind → List Item → Type 0
AreLeft [] [] = Unit {0}
AreLeft (k ∷ ks) (Datum v ∷ items) = IsTrue (is_of k v) × AreLeft ks items
AreLeft _ _ = ⊥

-- the instances are such that units may begin for each that was known
abbrev pub IsLeft : Subject → Bodies → Core → Type 0
IsLeft s known c = (bodies : Bodies) × Grows known bodies × IsState s bodies c

module _ (s : Subject) (n : Numbers) (code : List CodeUnit) where
  -- the operands are there, and the instruction's own step breaks a rule with them
  abbrev pub RefusedBy : Row → Machine → ℕ → Type 0
  RefusedBy (Nullary p) m left = p m.running ≡ Err (Broken, left)
  RefusedBy (OfMany k f) m left = (x : List Value × List Item) × (values_from (taken_from k m.active.stack) ≡ Some x) × (f x.0 m.running ≡ Err (Broken, left))
  RefusedBy (Begins variable body arguments) m left = (x : List Value × List Item) × (values_from (taken_from arguments m.active.stack) ≡ Some x)
      × (makes_child s m.active.here.path m.active.here.frame variable body x.0 m.running ≡ Err (Broken, left))
  RefusedBy _ m left = ⊥

  -- an instruction that asks for more than kinds is refused
  pub record IsRefused (m : Machine) (left : ℕ) : Type 0 where
    pub instr : Instr
    pub there : slice_get m.active.unit.instrs m.active.address ≡ Some instr
    pub asks : IsTrue (asks_more instr)
    pub refused : RefusedBy (row s n m.active instr) m left

  module _ (claims : Claims) where
    -- a typed machine, an end with what is to be left, a fault, or a refusal
    abbrev pub IsFate : Bodies → List Kind → Machine → Next → Type 0
    IsFate known last m (Goes new) = IsTyped s n code claims known last new
    IsFate known last m (Ends items running) = AreLeft last items × IsLeft s known running.state.image
    IsFate known last m (Stops (Faults f) left) = Unit {0}
    IsFate known last m (Stops Broken left) = IsRefused m left

    -- what a run has come to is refused
    pub record WasRefused (known : Bodies) (last : List Kind) (m : Machine) (left : ℕ) : Type 0 where
      pub at : Machine
      pub typed : IsTyped s n code claims known last at
      pub comes : Comes s n code (Goes m) (Goes at)
      pub stops : next s n code at ≡ Stops Broken left
      pub refused : IsRefused at left

    -- the same of a run
    abbrev pub IsEnd : Bodies → List Kind → Machine → Next → Type 0
    IsEnd known last m (Goes new) = IsTyped s n code claims known last new
    IsEnd known last m (Ends items running) = AreLeft last items × IsLeft s known running.state.image
    IsEnd known last m (Stops (Faults f) left) = Unit {0}
    IsEnd known last m (Stops Broken left) = WasRefused known last m left

    -- and of what is made of it
    abbrev pub IsResult : Bodies → List Kind → Machine → StepResult Logged (List Item) → Type 0
    IsResult known last m (Ok r) = AreLeft last r.0 × IsLeft s known r.1.state.image
    IsResult known last m (Err (Faults f, left)) = Unit {0}
    IsResult known last m (Err (Broken, left)) = WasRefused known last m left

-- ---- laws

-- each instruction of a code of good kinds
abbrev pub KindedCodesGoOn : Type 0
KindedCodesGoOn = (s : Subject) (n : Numbers) (code : List CodeUnit) (claims : Claims) → IsKinded s n code claims →
    (known : Bodies) (last : List Kind) (m : Machine) → IsTyped s n code claims known last m → IsFate s n code claims known last m (next s n code m)

-- and each run
abbrev pub KindedCodesAreNotStuck : Type 0
KindedCodesAreNotStuck = (s : Subject) (n : Numbers) (code : List CodeUnit) (claims : Claims) → IsKinded s n code claims →
    (known : Bodies) (last : List Kind) (m : Machine) → IsTyped s n code claims known last m → (x : Next) → Comes s n code (Goes m) x → IsEnd s n code claims known last m x

-- an instance of the body may begin on these instances
abbrev pub MayBegin : Subject → Path → (body : ℕ) → Core → Type 0
MayBegin s path body c = (bodies : Bodies) × IsState s bodies c × (bodies path ≡ Some body)

-- and each run of a unit that begins with values of the types that it is given
abbrev pub StartedAreNotStuck : Type 0
StartedAreNotStuck = (s : Subject) (n : Numbers) (code : List CodeUnit) (claims : Claims) → IsKinded s n code claims →
    (body : ℕ) (e : Entry) (unit : CodeUnit) → unit_of code body e ≡ Some unit → (types : List Denoter) → IsGiven types unit → (values : List Value) → IsTrue (are_values_of types values) →
    (path : Path) (r : Running Logged) (begin : MayBegin s path body r.state.image) → (x : Next) → Comes s n code (Goes (started body unit path values r)) x →
    IsEnd s n code claims begin.0 (claims body e).result (started body unit path values r) x

-- each instance of a legal image may begin there
abbrev pub LegalImagesMayBegin : Type 0
LegalImagesMayBegin = (s : Subject) (top : Path) (image : Image) → IsLegalImage s top image → (p : Path) (i : Instance) → map.get (core_of s image).instances p ≡ Some i → MayBegin s p i.body (core_of s image)

-- and the specification's own instance alone
abbrev pub TheStartMayBegin : Type 0
TheStartMayBegin = (s : Subject) → MayBegin s [] 0 (bare s).core

-- ---- what jobs and guards run

module _ (s : Subject) (n : Numbers) (code : List CodeUnit) (claims : Claims) where
  -- whatever a unit comes to that runs for itself, for an instance that is there
  abbrev pub RunsWell : (last : List Kind) (body : ℕ) → CodeUnit → Path → List Value → Running Logged → Type 0
  RunsWell last body unit path values r = (known : Bodies) × (known path ≡ Some body)
      × ((result : StepResult Logged (List Item)) → RunsTo s n code body (Some unit) path values r result → IsResult s n code claims known last (started body unit path values r) result)

-- the block of a transition, on what is received
abbrev pub BlocksAreNotStuck : Type 0
BlocksAreNotStuck = (s : Subject) (n : Numbers) (code : List CodeUnit) (claims : Claims) → IsKinded s n code claims →
    (body k : ℕ) (unit : CodeUnit) → unit_of code body (entry.Block k) ≡ Some unit → (t : Transition) → transition s body k ≡ Some t → (values : List Value) → IsTrue (are_values_of t.received values) →
    (path : Path) (r : Running Logged) → MayBegin s path body r.state.image → RunsWell s n code claims [] body unit path values r

-- its guard, which leaves a truth value
abbrev pub GuardsAreNotStuck : Type 0
GuardsAreNotStuck = (s : Subject) (n : Numbers) (code : List CodeUnit) (claims : Claims) → IsKinded s n code claims →
    (body k : ℕ) (unit : CodeUnit) → unit_of code body (entry.Guard k) ≡ Some unit → (t : Transition) → transition s body k ≡ Some t → (values : List Value) → IsTrue (are_values_of t.received values) →
    (path : Path) (r : Running Logged) → MayBegin s path body r.state.image → RunsWell s n code claims (Boolean ∷ []) body unit path values r

-- its delay, which leaves an integer, or two
abbrev pub DelaysAreNotStuck : Type 0
DelaysAreNotStuck = (s : Subject) (n : Numbers) (code : List CodeUnit) (claims : Claims) → IsKinded s n code claims →
    (body k : ℕ) (unit : CodeUnit) → unit_of code body (entry.Delay k) ≡ Some unit → (t : Transition) (d : Delay) → transition s body k ≡ Some t → t.delay ≡ Some d → (values : List Value) → IsTrue (are_values_of t.received values) →
    (path : Path) (r : Running Logged) → MayBegin s path body r.state.image → RunsWell s n code claims (delay_kinds d.high) body unit path values r

-- the initialization of a body
abbrev pub InitializationsAreNotStuck : Type 0
InitializationsAreNotStuck = (s : Subject) (n : Numbers) (code : List CodeUnit) (claims : Claims) → IsKinded s n code claims →
    (body : ℕ) (unit : CodeUnit) → unit_of code body entry.Initialize ≡ Some unit → (path : Path) (r : Running Logged) → MayBegin s path body r.state.image → RunsWell s n code claims [] body unit path [] r
