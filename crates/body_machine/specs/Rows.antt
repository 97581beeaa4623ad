-- The table of instructions: what each takes from the stack, and what it does with that. It is made of the steps of which the meanings of bodies are made.
use Rattle.std.specs.Prelude.{ℕ, Bool, true, false, List, [], ◌∷◌, slice_get, Option, Some, None, ℤ, Result, Err}
use Rattle.pascal_values.specs.declared.fault.Fault.{Fault}
use Rattle.pascal_values.specs.declared.value.Value.{Value}
use Rattle.pascal_values.specs.declared.value.Value.TheVariants as pascal
use Rattle.pascal_values.specs.declared.value.Shape.{Shape}
use Rattle.pascal_values.specs.Shapes.{place_of}
use Rattle.estelle_tree.specs.declared.tree.expression.Relation.TheVariants as relation
use Rattle.estelle_tree.specs.Paths.{Path}
use Rattle.body_code.specs.declared.instr.Instr.{Instr}
use Rattle.body_code.specs.declared.instr.Instr.TheVariants as op
use Rattle.estelle_model.specs.declared.place.Place.{Place}
use Rattle.estelle_model.specs.declared.place.Place.TheVariants.{Of, In}
use Rattle.estelle_model.specs.Stops.{Stop, Broken, stopping}
use Rattle.estelle_model.specs.Types.{assignable}
use Rattle.estelle_model.specs.Operators.{int_of}
use Rattle.estelle_model.specs.States.{Logged, on_log}
use Rattle.estelle_model.specs.Steps.{Step, Do, ◌>>=◌, ◌>>◌, pure, fail, breaks, checked}
use Rattle.estelle_model.specs.Places.{deeper, held_step, load, put, blank_at, child_step}
use Rattle.estelle_model.specs.Expressions.{reference_at}
use Rattle.estelle_model.specs.Subject.{Subject}
use Rattle.body_machine.specs.Ends.{connect_ends, disconnect_ends, attach_end, detach_end, release_in, output_with}
use Rattle.body_machine.specs.declared.operators.Unary.{Unary}
use Rattle.body_machine.specs.declared.operators.Binary.{Binary}
use Rattle.body_machine.specs.declared.operators.Unary.TheVariants as unary
use Rattle.body_machine.specs.declared.operators.Binary.TheVariants as binary
use Rattle.body_machine.specs.Operations.{unary_value, binary_value}
use Rattle.body_machine.specs.Machine.{Item, Datum, Spot, Activation}
use Rattle.body_numbers.specs.declared.numbers.Numbers.{Numbers}
use Rattle.body_numbers.specs.Numbers.{shape_numbered, export_numbered, word_of, interaction_of}
use Rattle.body_machine.specs.Slots.{slot, reference_number}

-- an instruction by what it takes; what it leaves is the topmost item first
pub data Row : Type 0 where
  Nullary : Step Logged (List Item) → Row
  OfValue : (Value → Step Logged (List Item)) → Row
  OfPlace : (Place → Step Logged (List Item)) → Row
  -- the topmost value is the second one
  OfValues : (Value → Value → Step Logged (List Item)) → Row
  -- a value, and a place below it
  OfBoth : (Place → Value → Step Logged (List Item)) → Row
  -- so many values, the topmost last
  OfMany : ℕ → (List Value → Step Logged (List Item)) → Row
  Jumps : (address : ℕ) → Row
  -- a truth value, which decides
  JumpsWhere : (wanted : Bool) (address : ℕ) → Row
  Turns : Row
  Calls : (body routine arguments : ℕ) → Row
  Begins : (variable body arguments : ℕ) → Row
  Returns : Row

-- ---- what is left

abbrev pub leaves : Item → Step Logged (List Item)
leaves i = pure (i ∷ [])

abbrev pub gives : Result Value Stop → Step Logged (List Item)
gives r = checked r >>= λ v. leaves (Datum v)

abbrev pub nothing : Do Logged → Step Logged (List Item)
nothing p = p >> pure []

abbrev pub by_export : Option ℕ → Path → Step Logged (List Item)
by_export None c = breaks
by_export (Some x) c = leaves (Spot (Of c x []))

-- ---- values

-- a value may be assigned to a variable of the shape of a number
abbrev pub fit_as : Option Shape → Value → Result (Unit {0}) Stop
fit_as None v = Err Broken
fit_as (Some shape) v = stopping (assignable shape v)

-- stores a value at a place by the shape of a number
abbrev pub store_as : Option Shape → Place → Value → Do Logged
store_as None p v = breaks
store_as (Some shape) p v = held_step Logged on_log p >> checked (stopping (assignable shape v)) >> put Logged on_log p v

-- ---- what instructions are by what they take

abbrev pub pushing : Item → Row
pushing i = Nullary (leaves i)

abbrev pub computing : Unary → Row
computing op = OfValue (λ v. gives (unary_value op v))

abbrev pub combining : Binary → Row
combining op = OfValues (λ v w. gives (binary_value op v w))

abbrev pub loading : Row
loading = OfPlace (λ p. load Logged on_log p >>= λ v. leaves (Datum v))

abbrev pub extending : ℕ → Row
extending k = OfPlace (λ p. leaves (Spot (deeper p k)))

abbrev pub indexing : (low high : ℤ) → Row
indexing low high = OfBoth (λ p v. checked (int_of v) >>= λ i. checked (stopping (place_of low high i)) >>= λ k. leaves (Spot (deeper p k)))

abbrev pub storing : Option Shape → Row
storing shape = OfBoth (λ p v. nothing (store_as shape p v))

abbrev pub fitting : Option Shape → Row
fitting shape = OfValue (λ v. checked (fit_as shape v) >> leaves (Datum v))

abbrev pub blanking : Row
blanking = OfPlace (λ p. nothing (blank_at Logged on_log p))

abbrev pub referring : List Place → ℕ → Row
referring references k = Nullary (checked (reference_at (slice_get references k)) >>= λ p. leaves (Spot p))

abbrev pub exporting : Path → ℕ → Option ℕ → Row
exporting p modvar x = Nullary (child_step Logged on_log p modvar >>= by_export x)

abbrev pub failing : Fault → Row
failing kind = Nullary (fail kind)

abbrev pub acting : Do Logged → Row
acting p = Nullary (nothing p)

abbrev pub sending : ℕ → (List Value → Do Logged) → Row
sending arguments f = OfMany arguments (λ values. nothing (f values))

module _ (s : Subject) (n : Numbers) where
  unfoldable pub row : Activation → Instr → Row
  row a (op.Push v) = pushing (Datum v)
  row a (op.Var k) = pushing (Spot (Of a.here.path k []))
  row a (op.Loc k) = pushing (Spot (In a.here.frame (slot a.unit.locals k) []))
  row a (op.Ref k) = referring a.here.references (reference_number a.unit.locals k)
  row a (op.Exp modvar k) = exporting a.here.path modvar (export_numbered n a.body modvar k)
  row a (op.Field k) = extending k
  row a (op.Index low high) = indexing low high
  row a op.Load = loading
  row a (op.Store shape) = storing (shape_numbered n shape)
  row a (op.Fit shape) = fitting (shape_numbered n shape)
  row a op.Blank = blanking
  row a op.Neg = computing unary.Neg
  row a op.Add = combining binary.Plus
  row a op.Sub = combining binary.Minus
  row a op.Mul = combining binary.Times
  row a op.Div = combining binary.Div
  row a op.Mod = combining binary.Mod
  row a op.Abs = computing unary.Abs
  row a op.Sqr = computing unary.Sqr
  row a op.Odd = computing unary.Odd
  row a op.Succ = computing unary.Succ
  row a op.Pred = computing unary.Pred
  row a op.Ord = computing unary.Ord
  row a op.Chr = computing unary.Chr
  row a op.Not = computing unary.Not
  row a op.Eq = combining (binary.Compare relation.Equal)
  row a op.Ne = combining (binary.Compare relation.NotEqual)
  row a op.Lt = combining (binary.Compare relation.Less)
  row a op.Le = combining (binary.Compare relation.AtMost)
  row a op.Gt = combining (binary.Compare relation.Greater)
  row a op.Ge = combining (binary.Compare relation.AtLeast)
  row a op.Empty = pushing (Datum (pascal.Set []))
  row a op.One = computing unary.One
  row a op.Span = combining binary.Span
  row a op.Unite = combining binary.Plus
  row a op.Meet = combining binary.Times
  row a op.Minus = combining binary.Minus
  row a op.Has = combining (binary.Compare relation.Member)
  row a (op.Jump to) = Jumps to
  row a (op.Jfalse to) = JumpsWhere false to
  row a (op.Jtrue to) = JumpsWhere true to
  row a op.Turn = Turns
  row a (op.Call body routine arguments) = Calls body routine arguments
  row a op.Ret = Returns
  row a (op.Fail kind) = failing kind
  row a (op.Init modvar body arguments) = Begins modvar body arguments
  row a (op.Release modvar) = acting (release_in s a.here.path modvar)
  row a (op.Connect x y) = acting (connect_ends s a.here.path x y)
  row a (op.Disconnect x) = acting (disconnect_ends s a.here.path x)
  row a (op.Attach upper lower) = acting (attach_end s a.here.path upper lower)
  row a (op.Detach ip) = acting (detach_end s a.here.path ip)
  row a (op.Output ip interaction arguments) = sending arguments (output_with s a.here.path ip (word_of n a.body ip) (interaction_of n a.body ip interaction))
