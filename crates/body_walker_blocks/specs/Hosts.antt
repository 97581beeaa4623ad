-- The types of variable accesses, which need no evaluation.
use Rattle.std.specs.Prelude.{ℕ, zero, suc, List, [], ◌∷◌, length, Option, Some, None}
use Rattle.estelle_tree.specs.declared.tree.expression.Factor.{Factor}
use Rattle.estelle_tree.specs.declared.tree.expression.Elem.{Elem}
use Rattle.estelle_tree.specs.declared.tree.expression.Args.{Args}
use Rattle.estelle_tree.specs.declared.tree.expression.Expr.{Expr}
use Rattle.estelle_tree.specs.declared.tree.expression.Simple.{Simple}
use Rattle.estelle_tree.specs.declared.tree.expression.Term.{Term}
use Rattle.estelle_tree.specs.declared.tree.expression.Variable.{Variable}
use Rattle.estelle_tree.specs.declared.tree.expression.Selector.{Selector, out-Selector}
use Rattle.estelle_tree.specs.declared.tree.expression.Factor.TheOpen.{Selector-F}
use Rattle.estelle_model.specs.declared.denoter.Denoter.{Denoter}
use Rattle.estelle_model.specs.declared.meaning.Meaning.{Meaning}
use Rattle.estelle_model.specs.declared.meaning.Meaning.TheVariants.{Own, Exported, Local, Var, Module, Field}
use Rattle.estelle_model.specs.Types.{item_of, field_of}
use Rattle.estelle_model.specs.Meant.{Meanings}
use Rattle.body_walker_blocks.specs.Accesses.{behind_beginning}

-- the type of the items behind so many indices
abbrev pub item_behind : Denoter → ℕ → Denoter
item_behind t zero = t
item_behind t (suc n) = item_behind (item_of t) n

abbrev pub field_type : Meaning → Denoter → Denoter
field_type (Field k) t = field_of t k
field_type _ t = t

abbrev pub component_at : Meanings → Denoter → Selector-F Factor Selector Args Elem Expr Simple Term Variable → Denoter
component_at meant t (Selector-F.Index es) = item_behind t (length es)
component_at meant t (Selector-F.Field x) = field_type (meant x) t

abbrev pub component : Meanings → Denoter → Selector → Denoter
component meant t s = component_at meant t (out-Selector s)

abbrev pub components : Meanings → Denoter → List Selector → Denoter
components meant t [] = t
components meant t (s ∷ ss) = components meant (component meant t s) ss

abbrev pub of_exported : Meaning → Option Denoter
of_exported (Exported k t) = Some t
of_exported _ = None

abbrev pub of_child : Meanings → Selector-F Factor Selector Args Elem Expr Simple Term Variable → Option Denoter
of_child meant (Selector-F.Field x) = of_exported (meant x)
of_child meant (Selector-F.Index es) = None

abbrev pub exported_type : Meanings → List Selector → Option Denoter
exported_type meant [] = None
exported_type meant (s ∷ ss) = of_child meant (out-Selector s)

-- the type of where an access begins
abbrev pub begun_type : Meanings → Meaning → List Selector → Option Denoter
begun_type meant (Own k t) ss = Some t
begun_type meant (Exported k t) ss = Some t
begun_type meant (Local k t) ss = Some t
begun_type meant (Var k t) ss = Some t
begun_type meant (Module m) ss = exported_type meant ss
begun_type meant _ ss = None

abbrev pub behind_type : Meanings → Option Denoter → List Selector → Option Denoter
behind_type meant None ss = None
behind_type meant (Some t) ss = Some (components meant t ss)

abbrev pub accessed_type : Meanings → Meaning → List Selector → Option Denoter
accessed_type meant m ss = behind_type meant (begun_type meant m ss) (behind_beginning m ss)
