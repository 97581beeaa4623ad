-- Where variable accesses begin, and their components.
use Rattle.std.specs.Prelude.{ℕ, Bool, true, false, List, [], ◌∷◌, length, slice_get, Option, Some, None, ℤ, Result, Ok, Err}
use Rattle.estelle_tree.specs.declared.tree.expression.Factor.{Factor}
use Rattle.estelle_tree.specs.declared.tree.expression.Elem.{Elem}
use Rattle.estelle_tree.specs.declared.tree.expression.Args.{Args}
use Rattle.estelle_tree.specs.declared.tree.expression.Expr.{Expr}
use Rattle.estelle_tree.specs.declared.tree.expression.Simple.{Simple}
use Rattle.estelle_tree.specs.declared.tree.expression.Term.{Term}
use Rattle.estelle_tree.specs.declared.tree.expression.Variable.{Variable}
use Rattle.estelle_tree.specs.declared.tree.expression.Selector.{Selector, out-Selector}
use Rattle.estelle_tree.specs.declared.tree.expression.Factor.TheOpen.{Selector-F}
use Rattle.estelle_model.specs.declared.denoter.Denoter.{Denoter}
use Rattle.estelle_model.specs.declared.denoter.Host.{Host}
use Rattle.estelle_model.specs.declared.denoter.Host.TheVariants as hosts
use Rattle.estelle_model.specs.declared.meaning.Meaning.{Meaning}
use Rattle.estelle_model.specs.declared.meaning.Meaning.TheVariants.{Own, Exported, Local, Var, Module, Field}
use Rattle.estelle_model.specs.declared.meaning.Routine.{Routine}
use Rattle.estelle_model.specs.declared.meaning.Passing.{Passing}
use Rattle.estelle_model.specs.declared.place.Place.TheVariants.{Of, In}
use Rattle.estelle_model.specs.declared.place.Environment.{Environment}
use Rattle.estelle_model.specs.Types.{host_of, item_of, field_of, item_place}
use Rattle.estelle_model.specs.Operators.{◌>>>◌}
use Rattle.estelle_tree.specs.Paths.{Path}
use Rattle.estelle_model.specs.States.{Logged, on_log}
use Rattle.estelle_model.specs.Stops.{Stop, Broken}
use Rattle.estelle_model.specs.Steps.{Step, ◌>>=◌, pure, breaks, checked}
use Rattle.estelle_model.specs.Meant as meant
use Rattle.estelle_model.specs.Places.{deeper, child_step}
use Rattle.estelle_model.specs.Expressions.{reference_at}
use Rattle.body_walker_blocks.specs.Scopes.{Scoped, meanings}
use Rattle.body_walker_blocks.specs.Located.{Located}

abbrev pub of_instance : Path → ℕ → Denoter → Located
of_instance p k t = record { place = Of p k []; denoter = t }

abbrev pub in_frame : Environment → ℕ → Denoter → Located
in_frame h k t = record { place = In h.frame k []; denoter = t }

abbrev pub referred : Environment → ℕ → Denoter → Result Located Stop
referred h k t = reference_at (slice_get h.references k) >>> λ p. Ok (record { place = p; denoter = t })

abbrev pub exported : Environment → ℕ → Meaning → Step Logged Located
exported h m (Exported k t) = child_step Logged on_log h.path m >>= λ p. pure (of_instance p k t)
exported h m _ = breaks

abbrev pub of_child : Scoped → Environment → ℕ → Selector-F Factor Selector Args Elem Expr Simple Term Variable → Step Logged Located
of_child t h m (Selector-F.Field x) = exported h m (meanings t x)
of_child t h m (Selector-F.Index es) = breaks

abbrev pub behind_module : Scoped → Environment → ℕ → List Selector → Step Logged Located
behind_module t h m [] = breaks
behind_module t h m (s ∷ ss) = of_child t h m (out-Selector s)

-- where an access begins
abbrev pub begun : Scoped → Environment → Meaning → List Selector → Step Logged Located
begun t h (Own k d) ss = pure (of_instance h.path k d)
begun t h (Exported k d) ss = pure (of_instance h.path k d)
begun t h (Local k d) ss = pure (in_frame h k d)
begun t h (Var k d) ss = checked (referred h k d)
begun t h (Module m) ss = behind_module t h m ss
begun t h _ ss = breaks

abbrev pub rest_of : List Selector → List Selector
rest_of [] = []
rest_of (s ∷ ss) = ss

-- the selectors behind that
abbrev pub behind_beginning : Meaning → List Selector → List Selector
behind_beginning (Module m) ss = rest_of ss
behind_beginning _ ss = ss

abbrev pub is_variable : Meaning → Bool
is_variable (Own k t) = true
is_variable (Exported k t) = true
is_variable (Local k t) = true
is_variable (Var k t) = true
is_variable _ = false

-- the host of the type of that variable
abbrev pub variable_host : Meaning → Host
variable_host (Own k t) = host_of t
variable_host (Exported k t) = host_of t
variable_host (Local k t) = host_of t
variable_host (Var k t) = host_of t
variable_host _ = hosts.Integer

-- ---- components

-- a name that is no field's breaks a rule
abbrev pub field : Meaning → Located → Result Located Stop
field (Field k) l = Ok (record { place = deeper l.place k; denoter = field_of l.denoter k })
field _ l = Err Broken

abbrev pub item : Located → ℤ → Result Located Stop
item l n = item_place l.denoter n >>> λ k. Ok (record { place = deeper l.place k; denoter = item_of l.denoter })

-- ---- a function's result

abbrev pub value_count : List Passing → ℕ
value_count ps = length (meant.value_types ps)

abbrev pub result_number : Routine → ℕ
result_number r = meant.result_number r

abbrev pub result_in : Environment → Routine → Option Denoter → Result Located Stop
result_in h r None = Err Broken
result_in h r (Some t) = Ok (in_frame h (result_number r) t)

abbrev pub result_of : Environment → Routine → Result Located Stop
result_of h r = result_in h r r.result
