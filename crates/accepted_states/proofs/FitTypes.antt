-- What types, variables and definitions declare.
use Rattle.std.proofs.Common.{◌≡◌, ◌∙◌, ℕ, zero, suc, ◌+◌, ◌≤◌, Bool, List, [], ◌∷◌, ◌++◌, map, refl, ap, sym, subst, arith, append-nil}
use Rattle.std.specs.List.{flat_map}
use Rattle.std.proofs.lemmas.List.{map-append}
use Rattle.estelle_tree.specs.declared.kind.Kind.TheVariants as k
use Rattle.estelle_tree.specs.declared.tree.name.Name.{Name}
use Rattle.estelle_tree.specs.declared.tree.type_expr.Ordinal.{Ordinal}
use Rattle.estelle_tree.specs.declared.tree.type_expr.Ordinal.TheVariants as ordinal
use Rattle.estelle_tree.specs.declared.tree.type_expr.TypeExpr.{TypeExpr, out-TypeExpr, map-TypeExpr}
use Rattle.estelle_tree.specs.declared.tree.type_expr.TypeExpr.TheOpen.{TypeExpr-F}
use Rattle.estelle_tree.specs.declared.tree.type_expr.Fields.{Fields, out-Fields}
use Rattle.estelle_tree.specs.declared.tree.type_expr.TypedNames.{TypedNames, out-TypedNames}
use Rattle.estelle_tree.specs.declared.tree.declaration.ConstDef.{ConstDef}
use Rattle.estelle_tree.specs.declared.tree.declaration.TypeDef.{TypeDef}
use Rattle.estelle_tree.specs.declared.tree.declaration.BlockDecl.{BlockDecl}
use Rattle.estelle_tree.specs.declared.tree.declaration.BlockDecl.TheVariants as block_decl
use Rattle.estelle_tree.specs.Input.{Input}
use Rattle.estelle_tree.specs.Spans.{TypeExprLayer}
use Rattle.estelle_tree.specs.Spelling.{Spelling, Chain}
use Rattle.estelle_tree.specs.Types.{IsName, IsNames, IsOrdinal, AreTyped, AreFields, IsTypeLayer, TypeBelow, IsType}
use Rattle.estelle_tree.specs.Declarations.{IsConstDef, IsTypeDef, AreVars, IsBlockDecl}
use Rattle.estelle_model.specs.declared.meaning.Meaning.TheVariants.{Constant, Field}
use Rattle.pascal_values.specs.declared.value.Value.TheVariants as pascal
use Rattle.estelle_tree.specs.declared.tree.name.NameList.{NameList}
use Rattle.estelle_model.specs.declared.meaning.Meaning.{Meaning}
use Rattle.estelle_model.specs.Meant.{Meanings}
use Rattle.estelle_model.specs.Denoted.{Declarations, declare, numbered, Section, Typing, enumeration, ordinal_declares, type_layer, typing, section, types_declare, sections_declare}
use Rattle.estelle_model.specs.Definitions.{const_def, type_def, definitions, variables_of, local_variables}
use Rattle.meaning_table.proofs.TypeEquations.{fields, type_is, fields_is, section_is}
use Rattle.accepted_states.proofs.Lists.{Each, each_append, flat-append}
use Rattle.accepted_states.proofs.Fine.{among, Less, less_more, less_takes, less_name, name_less, less_flag, less_of}
use Rattle.accepted_states.proofs.FineTypes.{const_fine}
use Rattle.accepted_states.proofs.Declared.{IsFixed, weight, weight-append}
use Rattle.accepted_states.proofs.Fit as fit
use Rattle.accepted_states.proofs.Fit.{starts, names_weight, sections_weight, sections_weight-append, numbered_weight, numbered_fixed, sections_weigh, sections_fixed, One, Covered, Fit, Joins, Sums, Frame, fit_frame, Plainly, plainly, names_covered}

-- ---- one part: its declarations as they are

pub record Placed (i j : Input) (ds : Declarations) : Type 0 where
  pub fixed : Each IsFixed ds
  pub few : (t : ℕ → Bool) → weight t ds + among (starts t) j ≤ among (starts t) i

pub placed_nil : {i j : Input} → Less i j → Placed i j []
placed_nil l = record { fixed = tt; few = λ t. let a = l.most (starts t) in omega (arith, a) }

pub placed_append : {i m j : Input} {ds es : Declarations} → Placed i m ds → Placed m j es → Placed i j (ds ++ es)
placed_append {i} {m} {j} {ds} {es} h g = record { fixed = each_append IsFixed ds es h.fixed g.fixed; few = λ t. let a = weight-append t ds es in let b = h.few t in let c = g.few t in omega (arith, a, b, c) }

-- what stands before it in the text
pub placed_exchanged : {i m j : Input} {ds es : Declarations} → Placed i m ds → Placed m j es → Placed i j (es ++ ds)
placed_exchanged {i} {m} {j} {ds} {es} h g = record { fixed = each_append IsFixed es ds g.fixed h.fixed; few = λ t. let a = weight-append t es ds in let b = h.few t in let c = g.few t in omega (arith, a, b, c) }

pub placed_less : {i m j : Input} {ds : Declarations} → Less i m → Placed m j ds → Placed i j ds
placed_less l h = record { fixed = h.fixed; few = λ t. let a = l.most (starts t) in let b = h.few t in omega (arith, a, b) }

pub placed_end : {i m j : Input} {ds : Declarations} → Placed i m ds → Less m j → Placed i j ds
placed_end h l = record { fixed = h.fixed; few = λ t. let a = l.most (starts t) in let b = h.few t in omega (arith, a, b) }

pub placed_name : {x : Name} {i j : Input} (says : Meanings → Meaning) → IsName x i j → Placed i j (declare x says ∷ [])
placed_name says h = record { fixed = (λ known. refl, tt); few = λ t. let a = less_name h (starts t) in omega (arith, a) }

pub placed_names : {ns : NameList} {i j : Input} (says : ℕ → Meanings → Meaning) (n : ℕ) → IsNames ns i j → Placed i j (numbered says n ns.names)
placed_names {ns} {i} {j} says n h = record { fixed = numbered_fixed says n ns.names; few = λ t. let a = numbered_weight t says n ns.names in let b = names_covered ns i j h t in omega (arith, a, b) }

-- one part as a list of one
pub plainly_one : {A : Type 0} (f : A → Declarations) (x : A) (i j : Input) → Placed i j (f x) → Plainly f i j (x ∷ [])
plainly_one f x i j h = record { fixed = subst (Each IsFixed) (sym (append-nil (f x))) h.fixed; few = λ t. let a = ap (weight t) (append-nil (f x)) in let b = h.few t in omega (arith, a, b) }

pub placed_of : {A : Type 0} (f : A → Declarations) {i j : Input} {xs : List A} → Plainly f i j xs → Placed i j (flat_map f xs)
placed_of f h = record { fixed = h.fixed; few = h.few }

-- ---- types

pub ordinal_placed : (o : Ordinal) (i j : Input) → IsOrdinal o i j → Placed i j (ordinal_declares o)
ordinal_placed (ordinal.Name x) i j h = placed_nil (name_less h)
ordinal_placed (ordinal.Enumeration names span) i j h =
    placed_less (less_takes h.0.opens) (placed_end (placed_names (λ n known. Constant (pascal.Enum n) (enumeration names.names)) 0 h.0.inside) (less_takes h.0.closes))
ordinal_placed (ordinal.Subrange low high span) i j h = placed_nil (less_more (less_of (const_fine low i h.0.mid h.0.first)) (less_more (less_takes h.0.mark) (less_of (const_fine high h.0.at j h.0.second))))

-- names with their types
abbrev pub vars_types : List TypedNames → Declarations
vars_types xs = types_declare (map section xs)

abbrev pub vars_weight : (ℕ → Bool) → List TypedNames → ℕ
vars_weight t xs = weight t (types_declare (map section xs)) + sections_weight t (map section xs)

abbrev pub VarsFit : Input → Input → List TypedNames → Type 0
VarsFit = Fit vars_types vars_weight

types-append : (xs ys : List TypedNames) → vars_types (xs ++ ys) ≡ vars_types xs ++ vars_types ys
types-append xs ys = ap types_declare (map-append section xs ys) ∙ flat-append (λ (s : Section). s.1.declares) (map section xs) (map section ys)

pub vars_frame : Frame VarsFit
vars_frame = fit_frame vars_types vars_weight (record { none = refl; more = types-append }) (record {
  none = λ t. omega arith;
  more = λ t xs ys.
      let a = ap (weight t) (types-append xs ys) ∙ weight-append t (vars_types xs) (vars_types ys) in
      let b = ap (sections_weight t) (map-append section xs ys) ∙ sections_weight-append t (map section xs) (map section ys) in
      omega (arith, a, b);
})

module _ (T : Spelling TypeExpr) (one : (x : TypeExpr) (i j : Input) → T x i j → Placed i j (typing x).declares) where
  pub typed_fit : One VarsFit (AreTyped T)
  typed_fit x i j h =
      let o = out-TypedNames x in
      let p = one o.type_expr h.at j h.second in
      record {
        fixed = subst (Each IsFixed) (sym (append-nil (section x).1.declares)) (subst (λ (s : Section). Each IsFixed s.1.declares) (sym (section_is x)) p.fixed);
        few = λ t.
            let a = ap (weight t) (append-nil (section x).1.declares) in
            let b = ap (λ (s : Section). weight t s.1.declares + names_weight t s.0) (section_is x) in
            let c = p.few t in
            let e = names_covered o.names i h.mid h.first t in
            let f = (less_takes h.mark).most (starts t) in
            omega (arith, a, b, c, e, f);
      }

  record_placed : (fs : Fields) (i j : Input) → AreFields T fs i j → Placed i j (types_declare (fields fs) ++ sections_declare (λ known n t. Field n) 0 (fields fs))
  record_placed fs i j h =
      let xs = (out-Fields fs).sections in
      let v = fit.separated VarsFit vars_frame (AreTyped T) typed_fit k.Semicolon xs i h.mid h.sections in
      subst (λ (ss : List Section). Placed i j (types_declare ss ++ sections_declare (λ known n t. Field n) 0 ss)) (sym (fields_is fs))
      (record {
        fixed = each_append IsFixed (vars_types xs) (sections_declare (λ known n t. Field n) 0 (map section xs)) v.fixed (sections_fixed (λ known n t. Field n) 0 (map section xs));
        few = λ t.
            let a = weight-append t (vars_types xs) (sections_declare (λ known n t. Field n) 0 (map section xs)) in
            let b = sections_weigh t (λ known n t. Field n) 0 (map section xs) in
            let c = v.few t in
            let e = (less_flag k.Semicolon (out-Fields fs).semicolon h.semicolon).most (starts t) in
            omega (arith, a, b, c, e);
      })

  layer_placed : (room : ℕ) (l : TypeExprLayer) (i j : Input) → IsTypeLayer room T l i j → Placed i j (type_layer (map-TypeExpr TypeExpr Fields TypedNames Typing (List Section) Section typing fields section l)).declares
  layer_placed room (TypeExpr-F.Ordinal o) i j h = ordinal_placed o i j h
  layer_placed room (TypeExpr-F.Array packed indices component span) i j h =
      let a = h.1 in
      let n = fit.separated (Plainly ordinal_declares) (plainly ordinal_declares) IsOrdinal (λ o i j h. plainly_one ordinal_declares o i j (ordinal_placed o i j h)) k.Comma indices a.indices.at a.indices.mid a.indices.inside in
      placed_less (less_more (less_flag k.Packed packed a.packed) (less_takes a.array))
      (placed_append (placed_less (less_takes a.indices.opens) (placed_end (placed_of ordinal_declares n) (less_takes a.indices.closes))) (placed_less (less_takes a.component.mark) (one component a.component.at j a.component.item)))
  layer_placed room (TypeExpr-F.Fields packed fs span) i j h =
      let f = h.1.fields in
      placed_less (less_flag k.Packed packed h.1.packed) (placed_less (less_takes f.opens) (placed_end (record_placed fs f.at f.mid f.inside) (less_takes f.closes)))
  layer_placed room (TypeExpr-F.Set packed base span) i j h = placed_less (less_more (less_flag k.Packed packed h.1.packed) (less_takes h.1.set)) (placed_less (less_takes h.1.base.mark) (ordinal_placed base h.1.base.at j h.1.base.item))

below_placed : (room : ℕ) (x : TypeExpr) (i j : Input) → TypeBelow room x i j → Placed i j (typing x).declares
below_placed zero x i j h = absurd h
below_placed (suc room) x i j h = subst (λ (y : Typing). Placed i j y.declares) (sym (type_is x)) (layer_placed (TypeBelow room) (below_placed room) room (out-TypeExpr x) i j h)

-- ---- definitions and variables

pub const_def_placed : (x : ConstDef) (i j : Input) → IsConstDef x i j → Placed i j (const_def x)
const_def_placed x i j h = placed_end (placed_name _ h.first) (less_more (less_takes h.mark) (less_of (const_fine x.value h.at j h.second)))

module _ (room : ℕ) where
  pub type_def_placed : (x : TypeDef) (i j : Input) → IsTypeDef room x i j → Placed i j (type_def x)
  type_def_placed x i j h = placed_exchanged (placed_end (placed_name _ h.first) (less_takes h.mark)) (below_placed (suc room) x.type_expr h.at j h.second)

  pub vars_fit : One VarsFit (AreVars room)
  vars_fit = typed_fit (IsType room) (below_placed (suc room))

  -- ---- what stands before the statements of a block

  abbrev pub defs_weight : (ℕ → Bool) → List BlockDecl → ℕ
  defs_weight t xs = weight t (flat_map definitions xs) + sections_weight t (local_variables xs)

  abbrev pub DefsFit : Input → Input → List BlockDecl → Type 0
  DefsFit = Fit (flat_map definitions) defs_weight

  defs_frame : Frame DefsFit
  defs_frame = fit_frame (flat_map definitions) defs_weight (fit.flat_joins definitions) (record {
    none = λ t. omega arith;
    more = λ t xs ys.
        let a = ap (weight t) (flat-append definitions xs ys) ∙ weight-append t (flat_map definitions xs) (flat_map definitions ys) in
        let b = ap (sections_weight t) (flat-append variables_of xs ys) ∙ sections_weight-append t (local_variables xs) (local_variables ys) in
        omega (arith, a, b);
  })

  def_fit : One DefsFit (IsBlockDecl room)
  def_fit (block_decl.Const defs span) i j h =
      let c = fit.lines (Plainly const_def) (plainly const_def) IsConstDef (λ x i j h. plainly_one const_def x i j (const_def_placed x i j h)) defs h.0.at j h.0.item in
      record { fixed = subst (Each IsFixed) (sym (append-nil (flat_map const_def defs))) c.fixed; few = λ t. let a = ap (weight t) (append-nil (flat_map const_def defs)) in let b = c.few t in let l = (less_takes h.0.mark).most (starts t) in omega (arith, a, b, l) }
  def_fit (block_decl.Types defs span) i j h =
      let c = fit.lines (Plainly type_def) (plainly type_def) (IsTypeDef room) (λ x i j h. plainly_one type_def x i j (type_def_placed x i j h)) defs h.0.at j h.0.item in
      record { fixed = subst (Each IsFixed) (sym (append-nil (flat_map type_def defs))) c.fixed; few = λ t. let a = ap (weight t) (append-nil (flat_map type_def defs)) in let b = c.few t in let l = (less_takes h.0.mark).most (starts t) in omega (arith, a, b, l) }
  def_fit (block_decl.Var vars span) i j h =
      let c = fit.lines VarsFit vars_frame (AreVars room) vars_fit vars h.0.at j h.0.item in
      record {
        fixed = subst (Each IsFixed) (sym (append-nil (vars_types vars))) c.fixed;
        few = λ t.
            let a = ap (weight t) (append-nil (vars_types vars)) in
            let e = ap (sections_weight t) (append-nil (map section vars)) in
            let b = c.few t in
            let l = (less_takes h.0.mark).most (starts t) in
            omega (arith, a, b, e, l);
      }

  pub defs_fit : (xs : List BlockDecl) (i j : Input) → Chain (IsBlockDecl room) xs i j → DefsFit i j xs
  defs_fit = fit.chain DefsFit defs_frame (IsBlockDecl room) def_fit
