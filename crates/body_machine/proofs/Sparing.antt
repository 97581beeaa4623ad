-- No instruction gives units back.
use Rattle.std.proofs.Common.{ℕ, ℤ, List, [], ◌∷◌, Option, Some, None, Result}
use Rattle.std.specs.Prelude.{slice_get}
use Rattle.pascal_values.specs.declared.fault.Fault.{Fault}
use Rattle.pascal_values.specs.declared.value.Value.{Value}
use Rattle.pascal_values.specs.declared.value.Shape.{Shape}
use Rattle.pascal_values.specs.Shapes.{place_of}
use Rattle.estelle_tree.specs.declared.link.IpAddr.{IpAddr}
use Rattle.estelle_tree.specs.Paths.{Path}
use Rattle.body_code.specs.declared.instr.Instr.{Instr}
use Rattle.body_code.specs.declared.instr.Instr.TheVariants as op
use Rattle.body_code.specs.declared.instr.Point as point
use Rattle.body_code.specs.declared.instr.Point.TheVariants.{Own, OfChild}
use Rattle.body_code.specs.declared.instr.Ends as ends
use Rattle.body_code.specs.declared.instr.Ends.TheVariants.{Point, Child}
use Rattle.estelle_model.specs.declared.meaning.InteractionKind.{InteractionKind}
use Rattle.estelle_model.specs.declared.meaning.Meaning.TheVariants.{Interaction}
use Rattle.estelle_model.specs.declared.place.Place.{Place}
use Rattle.estelle_model.specs.declared.place.Place.TheVariants.{Of, In}
use Rattle.estelle_model.specs.States.{Logged, on_log}
use Rattle.estelle_model.specs.Stops.{Stop, Faults, Broken, stopping}
use Rattle.estelle_model.specs.Steps.{Do, ◌>>=◌, ◌>>◌, pure, checked, spend}
use Rattle.estelle_model.specs.Plans.{Plan, Done, Fails, Reads, Spends, Makes, Keeps, read, carry}
use Rattle.estelle_model.specs.Types.{assignable}
use Rattle.estelle_model.specs.Operators.{int_of}
use Rattle.estelle_model.specs.Places.{deeper, held_step, held, load, put, blank_at, child_step}
use Rattle.estelle_model.specs.Expressions.{reference_at}
use Rattle.estelle_model.specs.Subject.{Subject}
use Rattle.estelle_model.specs.Actions.{at, connect_points, disconnect_point, disconnect_child, attach_points, detach_point, output_at, release_child}
use Rattle.estelle_model.proofs.LoopLaws.{NeverRaises}
use Rattle.estelle_model.proofs.Units.{NoMoreUnits, then_never, pure_never, stop_never, checked_never, seq_never, spend_never, units_closed}
use Rattle.estelle_model.proofs.Kept.{load_kept, put_kept, blank_kept, child_kept, read_kept}
use Rattle.body_machine.specs.Machine.{Item, Datum, Spot, Activation}
use Rattle.estelle_tree.specs.declared.tree.expression.Relation.TheVariants as relation
use Rattle.pascal_values.specs.declared.value.Value.TheVariants as pascal
use Rattle.body_numbers.specs.Numbers.{shape_numbered, export_numbered, word_of, interaction_of}
use Rattle.body_machine.specs.Slots.{slot, reference_number}
use Rattle.body_numbers.specs.declared.numbers.Numbers.{Numbers}
use Rattle.body_machine.specs.declared.operators.Unary.{Unary}
use Rattle.body_machine.specs.declared.operators.Binary.{Binary}
use Rattle.body_machine.specs.declared.operators.Unary.TheVariants as unary
use Rattle.body_machine.specs.declared.operators.Binary.TheVariants as binary
use Rattle.body_machine.specs.Operations.{unary_value, binary_value}
use Rattle.body_machine.specs.Ends.{end_at, connect_ends, disconnect_ends, attach_end, detach_end, release_in, output_of, output_with}
use Rattle.body_machine.specs.Rows.{Row, Nullary, OfValue, OfPlace, OfValues, OfBoth, OfMany, leaves, gives, nothing, by_export, fit_as, store_as, pushing, computing, combining, loading, extending, indexing, storing, fitting, blanking, referring, exporting, failing, acting, sending, row}

abbrev Items : Type 0
Items = List Item

-- a plan gives no units back
pub carry_never : {B : Type 0} → (p : Plan B) → NeverRaises (carry Logged on_log p)
carry_never {B} (Done b) = pure_never Logged B b
carry_never {B} (Fails e) = stop_never Logged B e
carry_never {B} (Reads {A} f k) = then_never Logged A B (read Logged on_log f) (λ a. carry Logged on_log (k a)) (read_kept Logged on_log (NoMoreUnits Logged) (units_closed Logged on_log) A (λ s. f (on_log.core s.state))) (λ a. carry_never (k a))
carry_never {B} (Spends p) = then_never Logged (Unit {0}) B spend (λ taken. carry Logged on_log p) (spend_never Logged) (λ taken. carry_never p)
carry_never {B} (Makes e p) = λ s. carry_never p (record s { state = on_log.does e s.state })
carry_never {B} (Keeps q c p) = λ s. carry_never p (record s { state = on_log.keeps q c s.state })

-- ---- the steps that are carried out

child_never : (p : Path) (m : ℕ) → NeverRaises (child_step Logged on_log p m)
child_never = child_kept Logged on_log (NoMoreUnits Logged) (units_closed Logged on_log)

end_never : (p : Path) (x : point.Point) → NeverRaises (end_at p x)
end_never p (Own ip) = pure_never Logged IpAddr (at p ip)
end_never p (OfChild modvar ip) = then_never Logged Path IpAddr (child_step Logged on_log p modvar) (λ c. pure (at c ip)) (child_never p modvar) (λ c. pure_never Logged IpAddr (at c ip))

module _ (s : Subject) where
  connect_never : (p : Path) (x y : point.Point) → NeverRaises (connect_ends s p x y)
  connect_never p x y = then_never Logged IpAddr (Unit {0}) (end_at p x) (λ a. end_at p y >>= λ b. carry Logged on_log (connect_points s p a b)) (end_never p x)
      (λ a. then_never Logged IpAddr (Unit {0}) (end_at p y) (λ b. carry Logged on_log (connect_points s p a b)) (end_never p y) (λ b. carry_never (connect_points s p a b)))

  disconnect_never : (p : Path) (x : ends.Ends) → NeverRaises (disconnect_ends s p x)
  disconnect_never p (Point x) = then_never Logged IpAddr (Unit {0}) (end_at p x) (λ a. carry Logged on_log (disconnect_point s p a)) (end_never p x) (λ a. carry_never (disconnect_point s p a))
  disconnect_never p (Child modvar) = then_never Logged Path (Unit {0}) (child_step Logged on_log p modvar) (λ c. carry Logged on_log (disconnect_child s c)) (child_never p modvar) (λ c. carry_never (disconnect_child s c))

  attach_never : (p : Path) (upper : ℕ) (lower : point.Point) → NeverRaises (attach_end s p upper lower)
  attach_never p upper lower = then_never Logged IpAddr (Unit {0}) (end_at p lower) (λ b. carry Logged on_log (attach_points s (at p upper) b)) (end_never p lower) (λ b. carry_never (attach_points s (at p upper) b))

  release_never : (p : Path) (modvar : ℕ) → NeverRaises (release_in s p modvar)
  release_never p modvar = then_never Logged Path (Unit {0}) (child_step Logged on_log p modvar) (λ c. carry Logged on_log (release_child s p modvar c)) (child_never p modvar) (λ c. carry_never (release_child s p modvar c))

  output_never : (p : Path) (ip : ℕ) (word : Option (List ℕ)) (kind : Option InteractionKind) (values : List Value) → NeverRaises (output_with s p ip word kind values)
  output_never p ip word kind values = seq_never Logged (Unit {0}) spend (output_of s p ip word kind values) (spend_never Logged) (sent word kind)
    where
      sent : (word : Option (List ℕ)) (kind : Option InteractionKind) → NeverRaises (output_of s p ip word kind values)
      sent (Some w) (Some k) = carry_never (output_at s w k.word (Interaction k) values (at p ip))
      sent (Some w) None = stop_never Logged (Unit {0}) Broken
      sent None kind = stop_never Logged (Unit {0}) Broken

-- ---- the table

-- what an instruction does gives no units back
abbrev pub Spares : Row → Type 0
Spares (Nullary p) = NeverRaises p
Spares (OfValue f) = (v : Value) → NeverRaises (f v)
Spares (OfPlace f) = (p : Place) → NeverRaises (f p)
Spares (OfValues f) = (v w : Value) → NeverRaises (f v w)
Spares (OfBoth f) = (p : Place) (v : Value) → NeverRaises (f p v)
Spares (OfMany k f) = (vs : List Value) → NeverRaises (f vs)
Spares _ = Unit {0}

gives_never : (r : Result Value Stop) → NeverRaises (gives r)
gives_never r = then_never Logged Value Items (checked r) (λ v. leaves (Datum v)) (checked_never Logged Value r) (λ v. pure_never Logged Items (Datum v ∷ []))

nothing_never : (p : Do Logged) → NeverRaises p → NeverRaises (nothing p)
nothing_never p h = seq_never Logged Items p (pure []) h (pure_never Logged Items [])

pushing_spares : (i : Item) → Spares (pushing i)
pushing_spares i = pure_never Logged Items (i ∷ [])

computing_spares : (o : Unary) → Spares (computing o)
computing_spares o v = gives_never (unary_value o v)

combining_spares : (o : Binary) → Spares (combining o)
combining_spares o v w = gives_never (binary_value o v w)

loading_spares : Spares loading
loading_spares p = then_never Logged Value Items (load Logged on_log p) (λ v. leaves (Datum v)) (load_kept Logged on_log (NoMoreUnits Logged) (units_closed Logged on_log) p) (λ v. pure_never Logged Items (Datum v ∷ []))

extending_spares : (k : ℕ) → Spares (extending k)
extending_spares k p = pure_never Logged Items (Spot (deeper p k) ∷ [])

indexing_spares : (low high : ℤ) → Spares (indexing low high)
indexing_spares low high p v = then_never Logged ℤ Items (checked (int_of v)) (λ i. checked (stopping (place_of low high i)) >>= λ k. leaves (Spot (deeper p k))) (checked_never Logged ℤ (int_of v))
    (λ i. then_never Logged ℕ Items (checked (stopping (place_of low high i))) (λ k. leaves (Spot (deeper p k))) (checked_never Logged ℕ (stopping (place_of low high i))) (λ k. pure_never Logged Items (Spot (deeper p k) ∷ [])))

store_never : (shape : Option Shape) (p : Place) (v : Value) → NeverRaises (store_as shape p v)
store_never None p v = stop_never Logged (Unit {0}) Broken
store_never (Some shape) p v = seq_never Logged (Unit {0}) (held_step Logged on_log p >> checked (stopping (assignable shape v))) (put Logged on_log p v)
    (then_never Logged (Option Value) (Unit {0}) (held_step Logged on_log p) (λ o. checked (stopping (assignable shape v))) (read_kept Logged on_log (NoMoreUnits Logged) (units_closed Logged on_log) (Option Value) (λ s. held Logged on_log p s)) (λ o. checked_never Logged (Unit {0}) (stopping (assignable shape v))))
    (put_kept Logged on_log (NoMoreUnits Logged) (units_closed Logged on_log) p v)

storing_spares : (shape : Option Shape) → Spares (storing shape)
storing_spares shape p v = nothing_never (store_as shape p v) (store_never shape p v)

fitting_spares : (shape : Option Shape) → Spares (fitting shape)
fitting_spares shape v = seq_never Logged Items (checked (fit_as shape v)) (leaves (Datum v)) (checked_never Logged (Unit {0}) (fit_as shape v)) (pure_never Logged Items (Datum v ∷ []))

blanking_spares : Spares blanking
blanking_spares p = nothing_never (blank_at Logged on_log p) (blank_kept Logged on_log (NoMoreUnits Logged) (units_closed Logged on_log) p)

referring_spares : (references : List Place) (k : ℕ) → Spares (referring references k)
referring_spares references k = then_never Logged Place Items (checked (reference_at (slice_get references k))) (λ p. leaves (Spot p)) (checked_never Logged Place (reference_at (slice_get references k))) (λ p. pure_never Logged Items (Spot p ∷ []))

exporting_spares : (p : Path) (m : ℕ) (x : Option ℕ) → Spares (exporting p m x)
exporting_spares p m x = then_never Logged Path Items (child_step Logged on_log p m) (by_export x) (child_never p m) (by x)
  where
    by : (x : Option ℕ) (c : Path) → NeverRaises (by_export x c)
    by None c = stop_never Logged Items Broken
    by (Some k) c = pure_never Logged Items (Spot (Of c k []) ∷ [])

failing_spares : (kind : Fault) → Spares (failing kind)
failing_spares kind = stop_never Logged Items (Faults kind)

acting_spares : (p : Do Logged) → NeverRaises p → Spares (acting p)
acting_spares p h = nothing_never p h

sending_spares : (k : ℕ) (f : List Value → Do Logged) → ((vs : List Value) → NeverRaises (f vs)) → Spares (sending k f)
sending_spares k f h vs = nothing_never (f vs) (h vs)

module _ (s : Subject) (n : Numbers) where
  pub row_spares : (a : Activation) (i : Instr) → Spares (row s n a i)
  unfolding row
  row_spares a (op.Push v) = pushing_spares (Datum v)
  row_spares a (op.Var k) = pushing_spares (Spot (Of a.here.path k []))
  row_spares a (op.Loc k) = pushing_spares (Spot (In a.here.frame (slot a.unit.locals k) []))
  row_spares a (op.Ref k) = referring_spares a.here.references (reference_number a.unit.locals k)
  row_spares a (op.Exp modvar k) = exporting_spares a.here.path modvar (export_numbered n a.body modvar k)
  row_spares a (op.Field k) = extending_spares k
  row_spares a (op.Index low high) = indexing_spares low high
  row_spares a op.Load = loading_spares
  row_spares a (op.Store shape) = storing_spares (shape_numbered n shape)
  row_spares a (op.Fit shape) = fitting_spares (shape_numbered n shape)
  row_spares a op.Blank = blanking_spares
  row_spares a op.Neg = computing_spares unary.Neg
  row_spares a op.Add = combining_spares binary.Plus
  row_spares a op.Sub = combining_spares binary.Minus
  row_spares a op.Mul = combining_spares binary.Times
  row_spares a op.Div = combining_spares binary.Div
  row_spares a op.Mod = combining_spares binary.Mod
  row_spares a op.Abs = computing_spares unary.Abs
  row_spares a op.Sqr = computing_spares unary.Sqr
  row_spares a op.Odd = computing_spares unary.Odd
  row_spares a op.Succ = computing_spares unary.Succ
  row_spares a op.Pred = computing_spares unary.Pred
  row_spares a op.Ord = computing_spares unary.Ord
  row_spares a op.Chr = computing_spares unary.Chr
  row_spares a op.Not = computing_spares unary.Not
  row_spares a op.Eq = combining_spares (binary.Compare relation.Equal)
  row_spares a op.Ne = combining_spares (binary.Compare relation.NotEqual)
  row_spares a op.Lt = combining_spares (binary.Compare relation.Less)
  row_spares a op.Le = combining_spares (binary.Compare relation.AtMost)
  row_spares a op.Gt = combining_spares (binary.Compare relation.Greater)
  row_spares a op.Ge = combining_spares (binary.Compare relation.AtLeast)
  row_spares a op.Empty = pushing_spares (Datum (pascal.Set []))
  row_spares a op.One = computing_spares unary.One
  row_spares a op.Span = combining_spares binary.Span
  row_spares a op.Unite = combining_spares binary.Plus
  row_spares a op.Meet = combining_spares binary.Times
  row_spares a op.Minus = combining_spares binary.Minus
  row_spares a op.Has = combining_spares (binary.Compare relation.Member)
  row_spares a (op.Jump to) = tt
  row_spares a (op.Jfalse to) = tt
  row_spares a (op.Jtrue to) = tt
  row_spares a op.Turn = tt
  row_spares a (op.Call body routine arguments) = tt
  row_spares a op.Ret = tt
  row_spares a (op.Fail kind) = failing_spares kind
  row_spares a (op.Init modvar body arguments) = tt
  row_spares a (op.Release modvar) = acting_spares (release_in s a.here.path modvar) (release_never s a.here.path modvar)
  row_spares a (op.Connect x y) = acting_spares (connect_ends s a.here.path x y) (connect_never s a.here.path x y)
  row_spares a (op.Disconnect x) = acting_spares (disconnect_ends s a.here.path x) (disconnect_never s a.here.path x)
  row_spares a (op.Attach upper lower) = acting_spares (attach_end s a.here.path upper lower) (attach_never s a.here.path upper lower)
  row_spares a (op.Detach ip) = acting_spares (detach_end s a.here.path ip) (carry_never (detach_point s (at a.here.path ip)))
  row_spares a (op.Output ip interaction arguments) = sending_spares arguments (output_with s a.here.path ip (word_of n a.body ip) (interaction_of n a.body ip interaction)) (output_never s a.here.path ip (word_of n a.body ip) (interaction_of n a.body ip interaction))
