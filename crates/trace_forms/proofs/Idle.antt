-- Declarations that a run may pass over: they say of no interaction, and nothing that is to be known.
use Rattle.std.proofs.Common.{ℕ, suc, ◌+◌, List, [], ◌∷◌, ◌++◌, length, map, Result, Ok, Err, refl, ◌≡◌, ◌∙◌, ap, sym, subst}
use Rattle.std.specs.Prelude.{flat_map}
use Rattle.std.specs.List.{AllByRecursion}
use Rattle.pascal_values.specs.declared.value.Value.{Value}
use Rattle.pascal_values.specs.declared.value.Value.TheVariants as pascal
use Rattle.estelle_tree.specs.declared.names.Use.{Use}
use Rattle.estelle_tree.specs.declared.tree.name.Name.{Name}
use Rattle.estelle_tree.specs.declared.tree.type_expr.Ordinal.{Ordinal}
use Rattle.estelle_tree.specs.declared.tree.type_expr.Ordinal.TheVariants as ordinal
use Rattle.estelle_tree.specs.declared.tree.type_expr.TypeExpr.{TypeExpr, roll-TypeExpr, map-TypeExpr}
use Rattle.estelle_tree.specs.declared.tree.type_expr.TypeExpr.TheOpen.{TypeExpr-F, Fields-F, TypedNames-F}
use Rattle.estelle_tree.specs.declared.tree.type_expr.TypeExpr.TheFolds.{map-Fields, map-TypedNames, ind-TypeExpr}
use Rattle.estelle_tree.specs.declared.tree.type_expr.TypeExpr.TheViews.{out-roll-TypeExpr, out-roll-Fields, out-roll-TypedNames}
use Rattle.estelle_tree.specs.declared.tree.type_expr.Fields.{Fields, roll-Fields}
use Rattle.estelle_tree.specs.declared.tree.type_expr.TypedNames.{TypedNames, out-TypedNames, roll-TypedNames}
use Rattle.estelle_tree.specs.declared.tree.declaration.ConstDef.{ConstDef}
use Rattle.estelle_tree.specs.declared.tree.declaration.TypeDef.{TypeDef}
use Rattle.estelle_tree.specs.declared.tree.declaration.BlockDecl.{BlockDecl}
use Rattle.estelle_tree.specs.declared.tree.declaration.BlockDecl.TheVariants as block_decl
use Rattle.estelle_tree.specs.declared.tree.declaration.Routine.{Routine}
use Rattle.estelle_tree.specs.declared.tree.clause.Block.{Block}
use Rattle.estelle_tree.specs.declared.tree.clause.AnyDom.{AnyDom}
use Rattle.estelle_tree.specs.declared.tree.clause.Clause.{Clause}
use Rattle.type_rules.specs.Meanings.{Env}
use Rattle.estelle_model.specs.Stops.{Stop}
use Rattle.estelle_model.specs.declared.denoter.Host.{Host}
use Rattle.estelle_model.specs.declared.denoter.Denoter.{Denoter}
use Rattle.estelle_model.specs.declared.meaning.Meaning.{Meaning}
use Rattle.estelle_model.specs.declared.meaning.Meaning.TheVariants as mean
use Rattle.estelle_model.specs.Meant.{Meanings}
use Rattle.estelle_model.specs.Constants.{constant_of, host_of_const, defined}
use Rattle.estelle_model.specs.Denoted.{Declaration, Declarations, declare, numbered, enumeration, ordinal_declares, Typing, Section, rising, types_declare, sections_declare, type_layer, typing, section}
use Rattle.estelle_model.specs.Definitions.{const_def, type_def, definitions, local, local_variables, value_formals, var_formals, routine_meaning, routine_declares, received, domains_of, clause_declares, block_declares}
use Rattle.meaning_table.proofs.TypeEquations.{fields, type_is, fields_is, section_is}
use Rattle.trace_forms.proofs.Lists.{all_append, all_flat}
use Rattle.trace_forms.proofs.Held.{Known, ParametersFilled, AllHeld}

-- it says of no interaction that is not filled, whatever names mean
abbrev pub IsIdle : Declaration → Type 0
IsIdle x = (meant : Meanings) → AllByRecursion (λ (e : ℕ × Meaning). ParametersFilled e.1) (x.says meant)

abbrev pub AllIdle : Declarations → Type 0
AllIdle = AllByRecursion IsIdle

-- such declarations may be passed over
pub idle_held : (names : List Use) (env : Env) (K : Known) (ds : Declarations) → AllIdle ds → AllHeld names env K ds K
idle_held names env K [] h = refl
idle_held names env K (x ∷ ds) h = ([], ((λ meant told known. (h.0 meant, tt)), idle_held names env K ds h.1))

both : (ds es : Declarations) → AllIdle ds → AllIdle es → AllIdle (ds ++ es)
both = all_append IsIdle

-- ---- one after another

pub numbered_idle : (says : ℕ → Meanings → Meaning) → ((n : ℕ) (meant : Meanings) → ParametersFilled (says n meant)) → (n : ℕ) (xs : List Name) → AllIdle (numbered says n xs)
numbered_idle says h n [] = tt
numbered_idle says h n (x ∷ xs) = (λ meant. (h n meant, tt), numbered_idle says h (suc n) xs)

rising_idle : (says : ℕ → Meaning) → ((n : ℕ) → ParametersFilled (says n)) → (n : ℕ) (xs : List Name) → AllByRecursion (λ (e : ℕ × Meaning). ParametersFilled e.1) (rising says n xs)
rising_idle says h n [] = tt
rising_idle says h n (x ∷ xs) = (h n, rising_idle says h (suc n) xs)

pub sections_idle : (says : Meanings → ℕ → Denoter → Meaning) → ((meant : Meanings) (n : ℕ) (t : Denoter) → ParametersFilled (says meant n t)) → (n : ℕ) (ss : List Section) → AllIdle (sections_declare says n ss)
sections_idle says h n [] = tt
sections_idle says h n (s ∷ ss) = (λ meant. rising_idle (λ j. says meant j (s.1.denotes meant)) (λ j. h meant j (s.1.denotes meant)) n s.0, sections_idle says h (n + length s.0) ss)

-- ---- types

ordinal_idle : (o : Ordinal) → AllIdle (ordinal_declares o)
ordinal_idle (ordinal.Name x) = tt
ordinal_idle (ordinal.Enumeration names span) = numbered_idle (λ n known. mean.Constant (pascal.Enum n) (enumeration names.names)) (λ n meant. tt) 0 names.names
ordinal_idle (ordinal.Subrange low high span) = tt

abbrev TypeIdle : TypeExpr → Type 0
TypeIdle x = AllIdle (typing x).declares

abbrev FieldsIdle : Fields → Type 0
FieldsIdle x = AllIdle (types_declare (fields x))

abbrev NamesIdle : TypedNames → Type 0
NamesIdle x = AllIdle (section x).1.declares

abbrev ShownType : Type 0
ShownType = (x : TypeExpr) × TypeIdle x

abbrev ShownFields : Type 0
ShownFields = (x : Fields) × FieldsIdle x

abbrev ShownNames : Type 0
ShownNames = (x : TypedNames) × NamesIdle x

abbrev opened_type : TypeExpr-F ShownType ShownFields ShownNames → TypeExpr-F TypeExpr Fields TypedNames
opened_type y = map-TypeExpr ShownType ShownFields ShownNames TypeExpr Fields TypedNames (λ e. e.0) (λ e. e.0) (λ e. e.0) y

abbrev opened_fields : Fields-F ShownType ShownFields ShownNames → Fields-F TypeExpr Fields TypedNames
opened_fields y = map-Fields ShownType ShownFields ShownNames TypeExpr Fields TypedNames (λ e. e.0) (λ e. e.0) (λ e. e.0) y

abbrev opened_names : TypedNames-F ShownType ShownFields ShownNames → TypedNames-F TypeExpr Fields TypedNames
opened_names y = map-TypedNames ShownType ShownFields ShownNames TypeExpr Fields TypedNames (λ e. e.0) (λ e. e.0) (λ e. e.0) y

abbrev typing_at : TypeExpr-F TypeExpr Fields TypedNames → Typing
typing_at l = type_layer (map-TypeExpr TypeExpr Fields TypedNames Typing (List Section) Section typing fields section l)

layer_idle : (y : TypeExpr-F ShownType ShownFields ShownNames) → AllIdle (typing_at (opened_type y)).declares
layer_idle (TypeExpr-F.Ordinal o) = ordinal_idle o
layer_idle (TypeExpr-F.Array packed indices component span) = both (flat_map ordinal_declares indices) (typing component.0).declares (all_flat IsIdle ordinal_declares ordinal_idle indices) component.1
layer_idle (TypeExpr-F.Fields packed fs span) = both (types_declare (fields fs.0)) (sections_declare (λ known n t. mean.Field n) 0 (fields fs.0)) fs.1 (sections_idle (λ known n t. mean.Field n) (λ meant n t. tt) 0 (fields fs.0))
layer_idle (TypeExpr-F.Set packed base span) = ordinal_idle base

sections_shown : (xs : List ShownNames) → AllIdle (types_declare (map section (map (λ e. e.0) xs)))
sections_shown [] = tt
sections_shown (x ∷ xs) = both (section x.0).1.declares (types_declare (map section (map (λ e. e.0) xs))) x.1 (sections_shown xs)

type_shown : (x : TypeExpr-F TypeExpr Fields TypedNames) (y : TypeExpr-F ShownType ShownFields ShownNames) → opened_type y ≡ x → TypeIdle (roll-TypeExpr x)
type_shown x y is = subst (λ (z : TypeExpr-F TypeExpr Fields TypedNames). TypeIdle (roll-TypeExpr z)) is
    (subst (λ (t : Typing). AllIdle t.declares) (sym (type_is (roll-TypeExpr (opened_type y)) ∙ ap typing_at (out-roll-TypeExpr (opened_type y)))) (layer_idle y))

fields_shown : (x : Fields-F TypeExpr Fields TypedNames) (y : Fields-F ShownType ShownFields ShownNames) → opened_fields y ≡ x → FieldsIdle (roll-Fields x)
fields_shown x y is = subst (λ (z : Fields-F TypeExpr Fields TypedNames). FieldsIdle (roll-Fields z)) is
    (subst (λ (ss : List Section). AllIdle (types_declare ss)) (sym (fields_is (roll-Fields (opened_fields y)) ∙ ap (λ (l : Fields-F TypeExpr Fields TypedNames). map section l.sections) (out-roll-Fields (opened_fields y)))) (sections_shown y.sections))

names_shown : (x : TypedNames-F TypeExpr Fields TypedNames) (y : TypedNames-F ShownType ShownFields ShownNames) → opened_names y ≡ x → NamesIdle (roll-TypedNames x)
names_shown x y is = subst (λ (z : TypedNames-F TypeExpr Fields TypedNames). NamesIdle (roll-TypedNames z)) is
    (subst (λ (s : Section). AllIdle s.1.declares) (sym (section_is (roll-TypedNames (opened_names y)) ∙ ap (λ (l : TypedNames-F TypeExpr Fields TypedNames). (l.names.names, typing l.type_expr)) (out-roll-TypedNames (opened_names y)))) y.type_expr.1)

type_idle : (x : TypeExpr) → AllIdle (typing x).declares
type_idle = ind-TypeExpr TypeIdle FieldsIdle NamesIdle type_shown fields_shown names_shown

section_idle : (x : TypedNames) → AllIdle (section x).1.declares
section_idle x = subst (λ (s : Section). AllIdle s.1.declares) (sym (section_is x)) (type_idle (out-TypedNames x).type_expr)

types_idle : (xs : List TypedNames) → AllIdle (types_declare (map section xs))
types_idle [] = tt
types_idle (x ∷ xs) = both (section x).1.declares (types_declare (map section xs)) (section_idle x) (types_idle xs)

-- ---- definitions, routines, blocks and clauses

defined_idle : (h : Host) (r : Result Value Stop) → ParametersFilled (defined h r)
defined_idle h (Ok v) = tt
defined_idle h (Err e) = tt

pub const_idle : (x : ConstDef) → AllIdle (const_def x)
const_idle x = (λ meant. (defined_idle (host_of_const meant x.value) (constant_of meant x.value), tt), tt)

type_def_idle : (x : TypeDef) → AllIdle (type_def x)
type_def_idle x = both (typing x.type_expr).declares (declare x.name (λ known. mean.TypeName ((typing x.type_expr).denotes known)) ∷ []) (type_idle x.type_expr) (λ meant. (tt, tt), tt)

definition_idle : (x : BlockDecl) → AllIdle (definitions x)
definition_idle (block_decl.Const defs span) = all_flat IsIdle const_def const_idle defs
definition_idle (block_decl.Types defs span) = all_flat IsIdle type_def type_def_idle defs
definition_idle (block_decl.Var vars span) = types_idle vars

pub routine_idle : (r : Routine) → AllIdle (routine_declares r)
routine_idle r =
    let A = flat_map definitions r.decls in
    let B = sections_declare local 0 (value_formals r ++ local_variables r.decls) in
    let C = sections_declare (λ known n t. mean.Var n t) 0 (var_formals r) in
    both (A ++ B ++ C) (declare r.name (routine_meaning r) ∷ [])
    (both (A ++ B) C (both A B (all_flat IsIdle definitions definition_idle r.decls) (sections_idle local (λ meant n t. tt) 0 (value_formals r ++ local_variables r.decls))) (sections_idle (λ known n t. mean.Var n t) (λ meant n t. tt) 0 (var_formals r)))
    (λ meant. (tt, tt), tt)

pub block_idle : (cs : List Clause) (b : Block) → AllIdle (block_declares cs b)
block_idle cs b =
    both (flat_map definitions b.decls) (sections_declare (λ known n t. mean.Local (length (received known cs) + n) t) 0 (local_variables b.decls)) (all_flat IsIdle definitions definition_idle b.decls)
    (sections_idle (λ known n t. mean.Local (length (received known cs) + n) t) (λ meant n t. tt) 0 (local_variables b.decls))

pub clause_idle : (c : Clause) → AllIdle (clause_declares c)
clause_idle c = all_flat IsIdle (λ (x : AnyDom). ordinal_declares x.domain) (λ x. ordinal_idle x.domain) (domains_of c)
