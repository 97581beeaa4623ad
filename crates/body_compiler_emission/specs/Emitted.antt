-- What each function of the compiler adds: the definitions, for what is known where a unit is written.
use Rattle.std.specs.Prelude.{ℕ, List, [], ◌∷◌, map, fold, Option, Some, None}
use Rattle.estelle_tree.specs.declared.tree.name.Name.{Name}
use Rattle.estelle_tree.specs.declared.tree.expression.Expr.{Expr}
use Rattle.estelle_tree.specs.declared.tree.expression.Simple.{Simple}
use Rattle.estelle_tree.specs.declared.tree.expression.Term.{Term}
use Rattle.estelle_tree.specs.declared.tree.expression.Factor.{Factor}
use Rattle.estelle_tree.specs.declared.tree.expression.Elem.{Elem}
use Rattle.estelle_tree.specs.declared.tree.expression.Args.{Args}
use Rattle.estelle_tree.specs.declared.tree.expression.Selector.{Selector, out-Selector}
use Rattle.estelle_tree.specs.declared.tree.expression.Variable.{Variable}
use Rattle.estelle_tree.specs.declared.tree.expression.Factor.TheOpen.{Selector-F}
use Rattle.estelle_tree.specs.declared.tree.expression.Factor.TheFolds.{fold-Factor, fold-Selector, fold-Elem, fold-Simple, fold-Term}
use Rattle.estelle_tree.specs.declared.required.Required.{Required}
use Rattle.body_code.specs.declared.instr.Instr.TheVariants as op
use Rattle.estelle_model.specs.declared.denoter.Host.{Host}
use Rattle.estelle_model.specs.declared.denoter.Denoter.{Denoter}
use Rattle.estelle_model.specs.Types.{field_of}
use Rattle.estelle_model.specs.declared.meaning.Meaning.{Meaning}
use Rattle.estelle_model.specs.declared.meaning.Meaning.TheVariants.{Own, Exported, Local, Var, Module, Field}
use Rattle.estelle_model.specs.declared.meaning.Passing.{Passing}
use Rattle.estelle_model.specs.declared.meaning.Routine.{Routine}
use Rattle.body_compiler_pieces.specs.Pieces.{Piece, none, one}
use Rattle.body_compiler_pieces.specs.ExpressionCode as code
use Rattle.body_compiler_pieces.specs.ExpressionCode.{Operand, Access, Selecting, Written, by_number, factor_layer, selector_layer, args_layer, elem_layer, expr_layer, simple_layer, term_layer, variable_layer}
use Rattle.body_compiler_emission.specs.Drafts.{Drafted, grown, with_instr}
use Rattle.body_compiler_emission.specs.Scopes.{Scoped, scope_of}

module _ (t : Scoped) where
  -- ---- expressions

  unfoldable pub expr : Expr → Operand
  expr e = code.expr (scope_of t) e

  unfoldable pub simple : Simple → Operand
  simple = fold-Simple Operand Selecting (List Operand) Piece Operand Operand Operand Written (factor_layer (scope_of t)) (selector_layer (scope_of t)) (args_layer (scope_of t)) (elem_layer (scope_of t)) (expr_layer (scope_of t)) (simple_layer (scope_of t)) (term_layer (scope_of t)) (variable_layer (scope_of t))

  unfoldable pub term : Term → Operand
  term = fold-Term Operand Selecting (List Operand) Piece Operand Operand Operand Written (factor_layer (scope_of t)) (selector_layer (scope_of t)) (args_layer (scope_of t)) (elem_layer (scope_of t)) (expr_layer (scope_of t)) (simple_layer (scope_of t)) (term_layer (scope_of t)) (variable_layer (scope_of t))

  unfoldable pub factor : Factor → Operand
  factor = fold-Factor Operand Selecting (List Operand) Piece Operand Operand Operand Written (factor_layer (scope_of t)) (selector_layer (scope_of t)) (args_layer (scope_of t)) (elem_layer (scope_of t)) (expr_layer (scope_of t)) (simple_layer (scope_of t)) (term_layer (scope_of t)) (variable_layer (scope_of t))

  unfoldable pub elem : Elem → Piece
  elem = fold-Elem Operand Selecting (List Operand) Piece Operand Operand Operand Written (factor_layer (scope_of t)) (selector_layer (scope_of t)) (args_layer (scope_of t)) (elem_layer (scope_of t)) (expr_layer (scope_of t)) (simple_layer (scope_of t)) (term_layer (scope_of t)) (variable_layer (scope_of t))

  unfoldable pub selector : Selector → Selecting
  selector = fold-Selector Operand Selecting (List Operand) Piece Operand Operand Operand Written (factor_layer (scope_of t)) (selector_layer (scope_of t)) (args_layer (scope_of t)) (elem_layer (scope_of t)) (expr_layer (scope_of t)) (simple_layer (scope_of t)) (term_layer (scope_of t)) (variable_layer (scope_of t))

  -- members behind the empty set
  unfoldable pub united : List Elem → Piece
  united es = code.united (scope_of t) (map elem es)

  -- ---- names in expressions, and calls

  unfoldable pub valued : Name → List Selector → Operand
  valued x ss = code.valued (scope_of t) x ((scope_of t).meant x) (map selector ss)

  unfoldable pub designated : Name → List Expr → Operand
  designated x es = code.designated (scope_of t) x ((scope_of t).meant x) (map expr es)

  -- behind its argument, a required function of a type with this host
  unfoldable pub required_code : Required → Host → Piece
  required_code f h = code.required_code (scope_of t) f h

  -- a value of a host's type is tested where it may be beyond
  unfoldable pub host_test : Host → Piece
  host_test h = code.host_test (scope_of t) h

  unfoldable pub call : Name → Routine → List Expr → Piece
  call x r es = code.call (scope_of t) ((scope_of t).routine x) r (map expr es)

  -- a function alone has a value
  unfoldable pub called : Name → Routine → List Expr → Operand
  called x r es = code.called (scope_of t) x r (map expr es)

  unfoldable pub give_all : List Passing → List Expr → Piece
  give_all ps es = code.give_all (scope_of t) ps (map expr es)

  unfoldable pub give : Passing → Expr → Piece
  give p e = code.give (scope_of t) p (expr e)

  -- ---- variable accesses

  unfoldable pub accessed : Meaning → List Selector → Option Access
  accessed m ss = code.accessed (scope_of t) m (map selector ss)

  -- an access that has come to a place of a type
  abbrev pub at : Denoter → Access
  at d = record { denoter = d; place = none }

  unfoldable pub indexed : List Expr → Drafted → Denoter → Drafted × Denoter
  indexed es u d = (grown (code.indexed (scope_of t) (map expr es) (at d)).place u, (code.indexed (scope_of t) (map expr es) (at d)).denoter)

  -- a component, behind the place of a variable of a type; a name of another kind than a field has no code
  abbrev pub fielded : Meaning → Drafted → Denoter → Option (Drafted × Denoter)
  fielded (Field k) u d = Some (with_instr (op.Field k) u, field_of d k)
  fielded _ u d = None

  abbrev pub selected_at : Selector-F Factor Selector Args Elem Expr Simple Term Variable → Drafted → Denoter → Option (Drafted × Denoter)
  selected_at (Selector-F.Index es) u d = Some (indexed es u d)
  selected_at (Selector-F.Field x) u d = fielded ((scope_of t).meant x) u d

  unfoldable pub selected : Selector → Drafted → Denoter → Option (Drafted × Denoter)
  selected s u d = selected_at (out-Selector s) u d

  -- one selector after another
  abbrev pub behind_selector : Option (Drafted × Denoter) → Selector → Option (Drafted × Denoter)
  behind_selector None s = None
  behind_selector (Some r) s = selected s r.0 r.1

  abbrev pub behind : List Selector → Drafted → Denoter → Option (Drafted × Denoter)
  behind ss u d = fold behind_selector (Some (u, d)) ss

  -- where an access begins: an exported variable of the child in a module variable
  abbrev pub exported : ℕ → Meaning → Option Access
  exported m (Exported k d) = Some (record { denoter = d; place = by_number ((scope_of t).export m k) (λ i. one (op.Exp m i)) })
  exported m _ = None

  abbrev pub behind_dot : ℕ → Selector-F Factor Selector Args Elem Expr Simple Term Variable → Option Access
  behind_dot m (Selector-F.Field x) = exported m ((scope_of t).meant x)
  behind_dot m _ = None

  abbrev pub behind_module : ℕ → List Selector → Option Access
  behind_module m [] = None
  behind_module m (s ∷ ss) = behind_dot m (out-Selector s)

  unfoldable pub begun : Meaning → List Selector → Option Access
  begun (Own k d) ss = Some (record { denoter = d; place = one (op.Var k) })
  begun (Exported k d) ss = Some (record { denoter = d; place = one (op.Var k) })
  begun (Local k d) ss = Some (record { denoter = d; place = by_number ((scope_of t).local k) (λ i. one (op.Loc i)) })
  begun (Var k d) ss = Some (record { denoter = d; place = by_number ((scope_of t).reference k) (λ i. one (op.Ref i)) })
  begun (Module m) ss = behind_module m ss
  begun _ ss = None

-- the first selector behind where an access begins
abbrev pub first_selector : Meaning → ℕ
first_selector (Module m) = 1
first_selector _ = 0
