-- Examples of what names mean.
use Rattle.std.proofs.Common.{◌≡◌, ℕ, Bool, false, true, List, [], ◌∷◌, pos, Some, None, refl, ap, ◌∙◌}
use Rattle.std.specs.Prelude.{codes, slice_get}
use Rattle.pascal_values.specs.declared.value.Value.TheVariants as pascal
use Rattle.pascal_values.specs.declared.value.Value.TheVariants.{outs-Int}
use Rattle.estelle_tree.specs.declared.names.Use.{Use}
use Rattle.estelle_tree.specs.declared.tree.name.Name.{Name}
use Rattle.estelle_tree.specs.declared.tree.type_expr.Const.TheVariants as const
use Rattle.estelle_tree.specs.declared.tree.type_expr.Ordinal.{Ordinal}
use Rattle.estelle_tree.specs.declared.tree.type_expr.Ordinal.TheVariants as ordinal
use Rattle.estelle_tree.specs.declared.tree.type_expr.TypeExpr.{TypeExpr, roll-TypeExpr, fold-roll-TypeExpr}
use Rattle.estelle_tree.specs.declared.tree.type_expr.TypeExpr.TheOpen.{TypeExpr-F}
use Rattle.estelle_tree.specs.declared.tree.type_expr.TypeExpr.TheFolds.{fold-roll-TypedNames}
use Rattle.estelle_tree.specs.declared.tree.type_expr.TypedNames.{TypedNames, roll-TypedNames}
use Rattle.estelle_tree.specs.declared.tree.declaration.BlockDecl.TheVariants as block_decl
use Rattle.estelle_tree.specs.declared.tree.declaration.Formal.{Formal}
use Rattle.estelle_tree.specs.declared.tree.declaration.Routine.{Routine as RoutineTree}
use Rattle.estelle_tree.specs.declared.tree.declaration.RoutineForm.TheVariants as form
use Rattle.estelle_tree.specs.declared.tree.clause.Block.{Block}
use Rattle.estelle_model.specs.declared.denoter.Host.TheVariants as host
use Rattle.estelle_model.specs.declared.denoter.Denoter.{Denoter}
use Rattle.estelle_model.specs.declared.denoter.Denoter.TheVariants as denoter
use Rattle.estelle_model.specs.declared.denoter.Denoter.TheVariants.{outs-Ordinal}
use Rattle.estelle_model.specs.declared.meaning.Passing.TheVariants.{ByValue, ByPlace}
use Rattle.estelle_model.specs.declared.meaning.Meaning.{Meaning}
use Rattle.estelle_model.specs.declared.meaning.Meaning.TheVariants.{Constant, TypeName, Local, Var, Called}
use Rattle.estelle_model.specs.Meant.{Meanings}
use Rattle.estelle_model.specs.Denoted.{Typing, Section, type_layer, fields_layer, typed_layer, typing, section, ordinal_type, ordinal_declares}
use Rattle.estelle_model.specs.Definitions.{block_declares, routine_declares}
use Rattle.estelle_model.specs.Names.{meant_by, with_all, declared}
use Rattle.estelle_model.specs.Transitions.{choice, choices}
use Rattle.estelle_model.proofs.Trees.{nowhere, name, sequence}

-- an ordinal type as a type expression
abbrev pub plain : Ordinal → TypeExpr
plain o = roll-TypeExpr (TypeExpr-F.Ordinal o)

abbrev pub typed : List Name → TypeExpr → TypedNames
typed xs t = roll-TypedNames (record { names = record { names = xs; span = nowhere }; type_expr = t })

plain_is : (o : Ordinal) → typing (plain o) ≡ record { denotes = λ known. ordinal_type known o; declares = ordinal_declares o }
unfolding typing
plain_is o = fold-roll-TypeExpr Typing (List Section) Section type_layer fields_layer typed_layer (TypeExpr-F.Ordinal o)

plain_declares : (o : Ordinal) → (typing (plain o)).declares ≡ ordinal_declares o
plain_declares o = ap (λ (t : Typing). t.declares) (plain_is o)

plain_denotes : (o : Ordinal) (known : Meanings) → (typing (plain o)).denotes known ≡ ordinal_type known o
plain_denotes o known = ap (λ (t : Typing). t.denotes known) (plain_is o)

typed_is : (xs : List Name) (t : TypeExpr) → section (typed xs t) ≡ (xs, typing t)
unfolding section typing
typed_is xs t = fold-roll-TypedNames Typing (List Section) Section type_layer fields_layer typed_layer (record { names = record { names = xs; span = nowhere }; type_expr = t })

-- a name in use at a place, with the place of its declaration
abbrev pub used : ℕ → ℕ → Use
used place declared_at = record { at = record { start = place; end = place }; decl = record { start = declared_at; end = declared_at } }

-- const c = 3; type t = 1..c; var x, y: t, each name told by its place: c is declared at 10, t at 20, x at 30 and y at 31
abbrev pub small : Block
small = record {
  label = None;
  decls = block_decl.Const (record { name = name 10; value = const.Number None (pos 3) nowhere } ∷ []) nowhere
      ∷ block_decl.Types (record { name = name 20; type_expr = plain (ordinal.Subrange (const.Number None (pos 1) nowhere) (const.Name None (name 25) nowhere) nowhere) } ∷ []) nowhere
      ∷ block_decl.Var (typed (name 30 ∷ name 31 ∷ []) (plain (ordinal.Name (name 35))) ∷ []) nowhere ∷ [];
  late_label = None;
  body = sequence [];
  span = nowhere;
}

abbrev pub names_of_small : List Use
names_of_small = used 25 10 ∷ used 35 20 ∷ used 40 31 ∷ []

-- y in use at 40 is the second variable of the block, of the type 1..3
pub second_variable : meant_by names_of_small (declared names_of_small (block_declares [] small)) (name 40) ≡ Local 1 (denoter.Ordinal host.Integer (pos 1) (pos 3))
second_variable = simp (plain_declares, plain_denotes, typed_is, outs-Int)

-- ---- required identifiers

pub maxint_means : meant_by (used 5 0 ∷ []) (declared [] []) (record { word = codes "maxint"; span = record { start = 5; end = 11 } }) ≡ Constant (pascal.Int (pos 9223372036854775807)) host.Integer
maxint_means = refl

-- ---- enumerations: type colour = (red, green, blue), declared at 10, 11 and 12

abbrev pub colours : Ordinal
colours = ordinal.Enumeration (record { names = name 10 ∷ name 11 ∷ name 12 ∷ []; span = nowhere }) nowhere

pub green : meant_by (used 40 11 ∷ []) (declared [] (typing (plain colours)).declares) (name 40) ≡ Constant (pascal.Enum 1) (host.Enumeration 2)
green = simp (plain_declares)

-- ---- an array of two indices is an array of arrays

-- array [1..2, (red, green, blue)] of c
abbrev pub table : Name → TypeExpr
table c = roll-TypeExpr (TypeExpr-F.Array false (ordinal.Subrange (const.Number None (pos 1) nowhere) (const.Number None (pos 2) nowhere) nowhere ∷ colours ∷ []) (plain (ordinal.Name c)) nowhere)

table_is : (c : Name) → typing (table c) ≡ type_layer (TypeExpr-F.Array false (ordinal.Subrange (const.Number None (pos 1) nowhere) (const.Number None (pos 2) nowhere) nowhere ∷ colours ∷ []) (typing (plain (ordinal.Name c))) nowhere)
unfolding typing
table_is c = fold-roll-TypeExpr Typing (List Section) Section type_layer fields_layer typed_layer (TypeExpr-F.Array false (ordinal.Subrange (const.Number None (pos 1) nowhere) (const.Number None (pos 2) nowhere) nowhere ∷ colours ∷ []) (plain (ordinal.Name c)) nowhere)

pub table_of : (c : Name) (known : Meanings) → known c ≡ TypeName (denoter.Ordinal host.Char (pos 0) (pos 255)) → (typing (table c)).denotes known
    ≡ denoter.Array (pos 1) (pos 2) (denoter.Array (pos 0) (pos 2) (denoter.Ordinal host.Char (pos 0) (pos 255)))
table_of c known is = ap (λ (t : Typing). t.denotes known) (table_is c) ∙ simp (plain_denotes, is, outs-Int, outs-Ordinal)

-- ---- routines: function f(a: t; var b: t; c: t): t; var z: t, with f at 50, a at 51, b at 52, c at 53 and z at 54

abbrev pub formal : Bool → ℕ → Formal
formal is_var x = record { is_var = is_var; names = record { names = name x ∷ []; span = nowhere }; type_name = name 60; span = nowhere }

abbrev pub f : RoutineTree
f = record {
  name = name 50;
  formals = Some (record { formals = formal false 51 ∷ formal true 52 ∷ formal false 53 ∷ []; span = nowhere });
  form = form.Function (name 60);
  decls = block_decl.Var (typed (name 54 ∷ []) (plain (ordinal.Name (name 60))) ∷ []) nowhere ∷ [];
  body = sequence [];
  span = nowhere;
}

-- t is declared at 20 as 1..3
abbrev pub around : List (ℕ × Meaning)
around = (20, TypeName (denoter.Ordinal host.Integer (pos 1) (pos 3))) ∷ []

abbrev pub names_of_f : List Use
names_of_f = used 60 20 ∷ used 71 51 ∷ used 72 52 ∷ used 73 53 ∷ used 74 54 ∷ used 75 50 ∷ []

abbrev pub in_f : ℕ → Meaning
in_f place = meant_by names_of_f (with_all names_of_f around (routine_declares f)) (name place)

abbrev pub one_to_three : Denoter
one_to_three = denoter.Ordinal host.Integer (pos 1) (pos 3)

pub first_value : in_f 71 ≡ Local 0 one_to_three
first_value = simp (plain_declares, plain_denotes, typed_is)

pub first_var : in_f 72 ≡ Var 0 one_to_three
first_var = simp (plain_declares, plain_denotes, typed_is)

pub second_value : in_f 73 ≡ Local 1 one_to_three
second_value = simp (plain_declares, plain_denotes, typed_is)

pub own_variable : in_f 74 ≡ Local 2 one_to_three
own_variable = simp (plain_declares, plain_denotes, typed_is)

pub function : in_f 75 ≡ Called (record { parameters = ByValue one_to_three ∷ ByPlace ∷ ByValue one_to_three ∷ []; locals = one_to_three ∷ []; result = Some one_to_three; body = sequence [] })
function = simp (plain_declares, plain_denotes, typed_is)

-- ---- names of `any`: of any i: 1..2; j: boolean the fourth choice is i = 2, j = true

pub fourth_choice : (known : Meanings) → slice_get (choices known ((name 1, denoter.Ordinal host.Integer (pos 1) (pos 2)) ∷ (name 2, denoter.Ordinal host.Boolean (pos 0) (pos 1)) ∷ [])) 3
    ≡ Some (choice known (name 1) (denoter.Ordinal host.Integer (pos 1) (pos 2)) (pos 2) ∷ choice known (name 2) (denoter.Ordinal host.Boolean (pos 0) (pos 1)) (pos 1) ∷ [])
fourth_choice known = simp (outs-Ordinal)
