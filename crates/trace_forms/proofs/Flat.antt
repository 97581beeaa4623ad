-- What the rules declare that is no type: variables, constants, channels, headers. It stands at places of its own among the tokens.
use Rattle.std.proofs.Common.{◌≡◌, ◌∙◌, ℕ, zero, suc, ◌+◌, ◌≤◌, Bool, true, false, List, [], ◌∷◌, ◌++◌, map, Option, Some, None, refl, ap, sym, subst, arith, append-nil}
use Rattle.std.specs.Prelude.{flat_map}
use Rattle.std.specs.List.{AllByRecursion}
use Rattle.std.proofs.lemmas.List.{map-append}
use Rattle.estelle_tree.specs.declared.kind.Kind.{Kind}
use Rattle.estelle_tree.specs.declared.kind.Kind.TheVariants as k
use Rattle.estelle_tree.specs.declared.span.Span.{Span}
use Rattle.estelle_tree.specs.declared.token.Token.{Token}
use Rattle.estelle_tree.specs.declared.token.Placed.{Placed}
use Rattle.estelle_tree.specs.declared.tree.name.Name.{Name}
use Rattle.estelle_tree.specs.declared.tree.name.NameList.{NameList}
use Rattle.estelle_tree.specs.declared.tree.type_expr.Sign.{Sign}
use Rattle.estelle_tree.specs.declared.tree.type_expr.Sign.TheVariants as sign
use Rattle.estelle_tree.specs.declared.tree.type_expr.Const.{Const}
use Rattle.estelle_tree.specs.declared.tree.type_expr.Const.TheVariants as const
use Rattle.estelle_tree.specs.declared.tree.type_expr.Ordinal.{Ordinal}
use Rattle.estelle_tree.specs.declared.tree.type_expr.Ordinal.TheVariants as ordinal
use Rattle.estelle_tree.specs.declared.tree.type_expr.TypeExpr.{TypeExpr, out-TypeExpr, map-TypeExpr}
use Rattle.estelle_tree.specs.declared.tree.type_expr.TypeExpr.TheOpen.{TypeExpr-F}
use Rattle.estelle_tree.specs.declared.tree.type_expr.Fields.{Fields, out-Fields}
use Rattle.estelle_tree.specs.declared.tree.type_expr.TypedNames.{TypedNames, out-TypedNames}
use Rattle.estelle_tree.specs.declared.tree.declaration.ConstDef.{ConstDef}
use Rattle.estelle_tree.specs.declared.tree.declaration.Formals.{Formals}
use Rattle.estelle_tree.specs.declared.tree.clause.AnyDom.{AnyDom}
use Rattle.estelle_tree.specs.declared.tree.specification.SysAttr.TheVariants as sys_attr
use Rattle.estelle_tree.specs.declared.tree.specification.Attr.{Attr}
use Rattle.estelle_tree.specs.declared.tree.specification.Attr.TheVariants as attr
use Rattle.estelle_tree.specs.declared.tree.specification.Disc.{Disc}
use Rattle.estelle_tree.specs.declared.tree.specification.Disc.TheVariants as disc
use Rattle.estelle_tree.specs.declared.tree.specification.Channel.{Channel}
use Rattle.estelle_tree.specs.declared.tree.specification.Params.{Params}
use Rattle.estelle_tree.specs.declared.tree.specification.Header.{Header}
use Rattle.estelle_tree.specs.declared.tree.specification.IpDecl.{IpDecl}
use Rattle.estelle_tree.specs.declared.tree.specification.ModvarDecl.{ModvarDecl}
use Rattle.estelle_tree.specs.Input.{Input, next, start, kind, token_at, between, first_kind, first_token, first_start, after_first}
use Rattle.estelle_tree.specs.Spans.{TypeExprLayer, of_ordinal}
use Rattle.estelle_tree.specs.Spelling.{Spelling, Takes, Flag, Optional, Behind, Separated, Lines}
use Rattle.estelle_tree.specs.Types.{of_sign, IsName, IsNames, IsConst, IsOrdinal, AreTyped, AreFields, IsTypeLayer, TypeBelow, IsType}
use Rattle.estelle_tree.specs.Declarations.{IsConstDef, IsFormal, AreFormals, AreVars}
use Rattle.estelle_tree.specs.Clauses.{IsAnyDom}
use Rattle.estelle_tree.specs.Specification.{IsAttr, IsQueue, AreParams, MayBeParams, IsInter, AreInters, IsChannel, IsIpDecl, AreModvars, IsHeader}
use Rattle.type_rules.specs.declared.types.PascalType.{PascalType}
use Rattle.type_rules.specs.declared.types.Value.{Value}
use Rattle.type_rules.specs.declared.meanings.Meaning.{Meaning}
use Rattle.type_rules.specs.declared.meanings.Meaning.TheVariants as said
use Rattle.type_rules.specs.declared.meanings.Entity.{Entity}
use Rattle.type_rules.specs.Types.{at_fault}
use Rattle.type_rules.specs.Meanings.{Env, Declaration, Declarations, type_denoted, constant, const_value, named_type}
use Rattle.type_rules.specs.TypeSites as types
use Rattle.type_rules.specs.SpecificationSites as sites
use Rattle.type_rules.proofs.Lists.{chain_map}
use Rattle.type_rules.proofs.TypeEquations.{type_is, fields_is, section_is}
use Rattle.accepted_states.proofs.Lists.{count, one_if, count-append, flat-append}
use Rattle.accepted_states.proofs.Fine.{among, Less, less_same, less_more, less_next, less_takes, less_mark, less_flag, less_name, less_names, name_less}
use Rattle.accepted_states.proofs.Fit as fit
use Rattle.accepted_states.proofs.Fit.{starts, names_weight, Frame, One, names_covered}
use Rattle.trace_forms.proofs.Lists.{all_append, all_front, all_back, all_flat}

-- ---- how deep

-- how deep the type is that a meaning says; 0, where it says none
abbrev pub depth_of : Meaning → ℕ
depth_of m = (type_denoted m).depth

-- a declaration says no type
abbrev pub IsFlat : Declaration → Type 0
IsFlat d = (env : Env) → type_denoted (d.says env).meaning ≡ at_fault

-- where declarations stand
abbrev pub places : Declarations → List ℕ
places = map (λ d. d.at)

-- the places are among the tokens from one place to another, each at a token of its own
pub record Few (i j : Input) (rs : Declarations) : Type 0 where
  pub most : (t : ℕ → Bool) → count t (places rs) + among (starts t) j ≤ among (starts t) i

pub count_more : (t : ℕ → Bool) (rs ss : Declarations) → count t (places (rs ++ ss)) ≡ count t (places rs) + count t (places ss)
count_more t rs ss = ap (count t) (map-append (λ (d : Declaration). d.at) rs ss) ∙ count-append t (places rs) (places ss)

pub few_append : {i m j : Input} {rs ss : Declarations} → Few i m rs → Few m j ss → Few i j (rs ++ ss)
few_append {i} {m} {j} {rs} {ss} h g = record { most = λ t. let a = count_more t rs ss in let b = h.most t in let c = g.most t in omega (arith, a, b, c) }

-- what stands before it in the text
pub few_exchanged : {i m j : Input} {rs ss : Declarations} → Few i m rs → Few m j ss → Few i j (ss ++ rs)
few_exchanged {i} {m} {j} {rs} {ss} h g = record { most = λ t. let a = count_more t ss rs in let b = h.most t in let c = g.most t in omega (arith, a, b, c) }

pub few_less : {i m j : Input} {rs : Declarations} → Less i m → Few m j rs → Few i j rs
few_less l h = record { most = λ t. let a = l.most (starts t) in let b = h.most t in omega (arith, a, b) }

pub few_end : {i m j : Input} {rs : Declarations} → Few i m rs → Less m j → Few i j rs
few_end h l = record { most = λ t. let a = l.most (starts t) in let b = h.most t in omega (arith, a, b) }

pub few_name : {x : Name} {i j : Input} (says : Env → Entity) → IsName x i j → Few i j (sites.declare x says ∷ [])
few_name says h = record { most = λ t. let a = less_name h (starts t) in omega (arith, a) }

-- ---- flat declarations

pub record Flat (i j : Input) (rs : Declarations) : Type 0 where
  pub few : Few i j rs
  pub flat : AllByRecursion IsFlat rs

pub flat_nil : {i j : Input} → Less i j → Flat i j []
flat_nil l = record { few = record { most = λ t. let a = l.most (starts t) in omega (arith, a) }; flat = tt }

pub flat_append : {i m j : Input} {rs ss : Declarations} → Flat i m rs → Flat m j ss → Flat i j (rs ++ ss)
flat_append {i} {m} {j} {rs} {ss} h g = record { few = few_append h.few g.few; flat = all_append IsFlat rs ss h.flat g.flat }

pub flat_exchanged : {i m j : Input} {rs ss : Declarations} → Flat i m rs → Flat m j ss → Flat i j (ss ++ rs)
flat_exchanged {i} {m} {j} {rs} {ss} h g = record { few = few_exchanged h.few g.few; flat = all_append IsFlat ss rs g.flat h.flat }

pub flat_less : {i m j : Input} {rs : Declarations} → Less i m → Flat m j rs → Flat i j rs
flat_less l h = record { few = few_less l h.few; flat = h.flat }

pub flat_end : {i m j : Input} {rs : Declarations} → Flat i m rs → Less m j → Flat i j rs
flat_end h l = record { few = few_end h.few l; flat = h.flat }

pub flat_name : {x : Name} {i j : Input} (says : Env → Entity) → ((env : Env) → type_denoted (says env).meaning ≡ at_fault) → IsName x i j → Flat i j (sites.declare x says ∷ [])
flat_name says f h = record { few = few_name says h; flat = (f, tt) }

-- names that are declared alike
module _ (says : Env → Meaning) (none : (env : Env) → type_denoted (says env) ≡ at_fault) where
  as_places : (t : ℕ → Bool) (xs : List Name) → count t (places (map (sites.declare_as says) xs)) ≡ names_weight t xs
  as_places t [] = refl
  as_places t (x ∷ xs) = ap (λ n. one_if (t x.span.start) + n) (as_places t xs)

  as_flat : (xs : List Name) → AllByRecursion IsFlat (map (sites.declare_as says) xs)
  as_flat [] = tt
  as_flat (x ∷ xs) = (none, as_flat xs)

  pub flat_names : {ns : NameList} {i j : Input} → IsNames ns i j → Flat i j (map (sites.declare_as says) ns.names)
  flat_names {ns} {i} {j} h = record { few = record { most = λ t. let a = as_places t ns.names in let b = names_covered ns i j h t in omega (arith, a, b) }; flat = as_flat ns.names }

-- variables of a type
pub flat_variables : {ns : NameList} {i j : Input} (u : Env → Option PascalType) → IsNames ns i j → Flat i j (types.variables u ns.names)
flat_variables u h = flat_names (λ env. said.Variable (u env)) (λ env. refl) h

-- parts whose declarations stand one after another
abbrev pub Flats : {A : Type 0} → (A → Declarations) → Input → Input → List A → Type 0
Flats f i j xs = Flat i j (flat_map f xs)

pub flat_frame : {A : Type 0} (f : A → Declarations) → Frame (Flats f)
flat_frame f = record {
  nil = λ i j l. flat_nil l;
  append = λ i m j xs ys h g. subst (Flat i j) (sym (flat-append f xs ys)) (flat_append h g);
  less = λ i m j xs l h. flat_less l h;
  end = λ i m j xs h l. flat_end h l;
}

-- one part as a list of one
pub flat_one : {A : Type 0} (f : A → Declarations) (x : A) (i j : Input) → Flat i j (f x) → Flats f i j (x ∷ [])
flat_one f x i j h = subst (Flat i j) (sym (append-nil (f x))) h

-- ---- the first token

first_counts : (t : ℕ → Bool) (end : ℕ) (ps : List Placed) (j : Input) → (ps ≡ [] → ⊥) → after_first end ps ≡ j → one_if (t (first_start end ps)) + among (starts t) j ≤ count (λ (p : Placed). starts t p.span) ps
first_counts t end [] j h e = absurd (h refl)
first_counts t end (p ∷ ps) j h e = let a = ap (among (starts t)) e in omega (arith, a)

token_counts : {w : Token} (i j : Input) → token_at i ≡ Some w → next i ≡ j → (t : ℕ → Bool) → one_if (t (start i)) + among (starts t) j ≤ among (starts t) i
unfolding next start token_at
token_counts i j h e t = first_counts t i.end i.tokens j (λ f. let g = ap first_token (sym f) ∙ h in cc) e

pub kind_counts : {w : Kind} {i j : Input} → Takes w i j → (k.Nothing ≡ w → ⊥) → (t : ℕ → Bool) → one_if (t (start i)) + among (starts t) j ≤ among (starts t) i
unfolding next start kind
kind_counts {w} {i} {j} h other t = first_counts t i.end i.tokens j (λ f. other (ap first_kind (sym f) ∙ h.kind)) h.next

-- what may be packed begins with a token of its own
pub packed_counts : {w : Kind} (packed : Bool) (i at after : Input) → Flag k.Packed packed i at → Takes w at after → (k.Nothing ≡ w → ⊥) → (t : ℕ → Bool) → one_if (t (start i)) + among (starts t) after ≤ among (starts t) i
packed_counts true i at after f h other t = let a = kind_counts f (λ e. cc) t in let b = (less_takes h).most (starts t) in omega (arith, a, b)
packed_counts false i at after f h other t = let a = kind_counts h other t in let b = ap (λ m. one_if (t (start m))) f in let c = ap (among (starts t)) f in omega (arith, a, b, c)

-- ---- constants and types

sign_other : (s : Sign) → k.Nothing ≡ of_sign s → ⊥
sign_other sign.Plus e = cc
sign_other sign.Minus e = cc

-- the first token of a constant
const_counts : (c : Const) (i j : Input) → IsConst c i j → (t : ℕ → Bool) → one_if (t (start i)) + among (starts t) j ≤ among (starts t) i
const_counts (const.Number None n span) i j h t = let e = ap start h.0.sign in let f = ap (among (starts t)) h.0.sign in let a = token_counts h.0.at j h.0.item.token h.0.item.next t in let b = ap (λ n. one_if (t n)) e in omega (arith, a, b, f)
const_counts (const.Number (Some s) n span) i j h t = let a = kind_counts h.0.sign (λ e. sign_other s e) t in let b = (less_next h.0.item.next).most (starts t) in omega (arith, a, b)
const_counts (const.Name None x span) i j h t = let e = ap start h.0.sign in let f = ap (among (starts t)) h.0.sign in let a = token_counts h.0.at j h.0.item.token h.0.item.next t in let b = ap (λ n. one_if (t n)) e in omega (arith, a, b, f)
const_counts (const.Name (Some s) x span) i j h t = let a = kind_counts h.0.sign (λ e. sign_other s e) t in let b = (less_next h.0.item.next).most (starts t) in omega (arith, a, b)
const_counts (const.Char n span) i j h t = token_counts i j h.0.token h.0.next t

const_less : (c : Const) (i j : Input) → IsConst c i j → Less i j
const_less (const.Number s n span) i j h = less_more (less_mark of_sign s h.0.sign) (less_next h.0.item.next)
const_less (const.Name s x span) i j h = less_more (less_mark of_sign s h.0.sign) (name_less h.0.item)
const_less (const.Char n span) i j h = less_next h.0.next

-- the values of an enumeration
enumerated_places : (at : Span) (t : ℕ → Bool) (n : ℕ) (xs : List Name) → count t (places (types.enumerated at n xs)) ≡ names_weight t xs
enumerated_places at t n [] = refl
enumerated_places at t n (x ∷ xs) = ap (λ m. one_if (t x.span.start) + m) (enumerated_places at t (suc n) xs)

enumerated_flat : (at : Span) (n : ℕ) (xs : List Name) → AllByRecursion IsFlat (types.enumerated at n xs)
enumerated_flat at n [] = tt
enumerated_flat at n (x ∷ xs) = (λ env. refl, enumerated_flat at (suc n) xs)

-- an ordinal type has a token for each of its values and one for itself, where it begins
ordinal_counts : (o : Ordinal) (i j : Input) → IsOrdinal o i j → (t : ℕ → Bool) → (count t (places (types.ordinal_declares o)) + one_if (t (of_ordinal o).start)) + among (starts t) j ≤ among (starts t) i
unfolding between
ordinal_counts (ordinal.Name x) i j h t = let a = less_name h (starts t) in omega (arith, a)
ordinal_counts (ordinal.Enumeration names span) i j h t =
    let a = enumerated_places span t 0 names.names in
    let b = names_covered names h.0.at h.0.mid h.0.inside t in
    let c = (less_takes h.0.closes).most (starts t) in
    let e = kind_counts h.0.opens (λ e. cc) t in
    let f = ap (λ (s : Span). one_if (t s.start)) h.1 in
    omega (arith, a, b, c, e, f)
ordinal_counts (ordinal.Subrange low high span) i j h t =
    let a = const_counts low i h.0.mid h.0.first t in
    let b = (less_more (less_takes h.0.mark) (const_less high h.0.at j h.0.second)).most (starts t) in
    let f = ap (λ (s : Span). one_if (t s.start)) h.1 in
    omega (arith, a, b, f)

ordinal_flat : (o : Ordinal) → AllByRecursion IsFlat (types.ordinal_declares o)
ordinal_flat (ordinal.Name x) = tt
ordinal_flat (ordinal.Enumeration names span) = enumerated_flat span 0 names.names
ordinal_flat (ordinal.Subrange low high span) = tt

pub flat_ordinal : (o : Ordinal) (i j : Input) → IsOrdinal o i j → Flat i j (types.ordinal_declares o)
flat_ordinal o i j h = record { few = record { most = λ t. let a = ordinal_counts o i j h t in omega (arith, a) }; flat = ordinal_flat o }

-- how many of these begin so
abbrev begin : (ℕ → Bool) → List Ordinal → ℕ
begin t [] = 0
begin t (o ∷ os) = one_if (t (of_ordinal o).start) + begin t os

arrays_count : (t : ℕ → Bool) (at : Span) (o : Ordinal) (os : List Ordinal) (u : Env → Option PascalType) → count t (places (types.arrays at (o ∷ os) u)) ≡ one_if (t at.start) + begin t os
arrays_count t at o [] u = refl
arrays_count t at o (p ∷ os) u = ap (λ n. one_if (t at.start) + n) (arrays_count t (of_ordinal p) p os u)

arrays_few : (t : ℕ → Bool) (at : Span) (os : List Ordinal) (u : Env → Option PascalType) → count t (places (types.arrays at os u)) ≤ one_if (t at.start) + begin t os
arrays_few t at [] u = omega arith
arrays_few t at (o ∷ os) u = let a = arrays_count t at o os u in omega (arith, a)

arrays_flat : (at : Span) (os : List Ordinal) (u : Env → Option PascalType) → AllByRecursion IsFlat (types.arrays at os u)
arrays_flat at [] u = tt
arrays_flat at (o ∷ os) u = (λ env. refl, arrays_flat (types.array_place at os) os u)

-- the indices of an array: what they declare, and where they begin
abbrev Indices : Input → Input → List Ordinal → Type 0
Indices i j os = (t : ℕ → Bool) → (count t (places (flat_map types.ordinal_declares os)) + begin t os) + among (starts t) j ≤ among (starts t) i

begin_more : (t : ℕ → Bool) (os ps : List Ordinal) → begin t (os ++ ps) ≡ begin t os + begin t ps
begin_more t [] ps = omega arith
begin_more t (o ∷ os) ps = let a = begin_more t os ps in omega (arith, a)

indices_frame : Frame Indices
indices_frame = record {
  nil = λ i j l t. let a = l.most (starts t) in omega (arith, a);
  append = λ i m j os ps h g t.
      let a = begin_more t os ps in
      let b = ap (λ rs. count t (places rs)) (flat-append types.ordinal_declares os ps) ∙ count_more t (flat_map types.ordinal_declares os) (flat_map types.ordinal_declares ps) in
      let c = h t in
      let e = g t in
      omega (arith, a, b, c, e);
  less = λ i m j os l h t. let a = l.most (starts t) in let b = h t in omega (arith, a, b);
  end = λ i m j os h l t. let a = l.most (starts t) in let b = h t in omega (arith, a, b);
}

one_index : One Indices IsOrdinal
one_index o i j h t = let a = ordinal_counts o i j h t in let b = ap (λ rs. count t (places rs)) (append-nil (types.ordinal_declares o)) in omega (arith, a, b)

-- what a type expression declares
abbrev TypeFlat : Input → Input → TypeExpr → Type 0
TypeFlat i j x = Flat i j (types.typing x).declares

abbrev section_of : TypedNames → Declarations
section_of x = types.section_declares (types.typed_names x)

module _ (T : Spelling TypeExpr) (all : (x : TypeExpr) (i j : Input) → T x i j → TypeFlat i j x) where
  typed_flat : (x : TypedNames) (i j : Input) → AreTyped T x i j → Flat i j (section_of x)
  typed_flat x i j h =
      let o = out-TypedNames x in
      let u = types.typing o.type_expr in
      subst (λ (s : types.Section). Flat i j (types.section_declares s)) (sym (section_is x))
      (flat_exchanged (flat_variables {ns = o.names} (types.type_in u) h.first) (flat_less (less_takes h.mark) (all o.type_expr h.at j h.second)))

  fields_flat : (fs : Fields) (i j : Input) → AreFields T fs i j → Flat i j (flat_map types.section_declares (types.fields fs))
  fields_flat fs i j h =
      let xs = (out-Fields fs).sections in
      subst (λ (ss : List types.Section). Flat i j (flat_map types.section_declares ss)) (sym (fields_is fs))
      (subst (Flat i j) (sym (chain_map types.section_declares types.typed_names xs))
      (flat_end (fit.separated (Flats section_of) (flat_frame section_of) (AreTyped T) (λ x i j h. flat_one section_of x i j (typed_flat x i j h)) k.Semicolon xs i h.mid h.sections) (less_flag k.Semicolon (out-Fields fs).semicolon h.semicolon)))

  layer_flat : (room : ℕ) (l : TypeExprLayer) (i j : Input) → IsTypeLayer room T l i j → Flat i j (types.type_layer (map-TypeExpr TypeExpr Fields TypedNames types.Typing (List types.Section) types.Section types.typing types.fields types.typed_names l)).declares
  unfolding between
  layer_flat room (TypeExpr-F.Ordinal o) i j h = flat_ordinal o i j h
  layer_flat room (TypeExpr-F.Array packed indices component span) i j h =
      let a = h.1 in
      let u = types.typing component in
      let O = flat_map types.ordinal_declares indices in
      let R = types.arrays span indices (types.type_in u) in
      let c = all component a.component.at j a.component.item in
      record {
        few = record {
          most = λ t.
              let x = fit.separated Indices indices_frame IsOrdinal one_index k.Comma indices a.indices.at a.indices.mid a.indices.inside t in
              let y = c.few.most t in
              let z = arrays_few t span indices (types.type_in u) in
              let s = ap (λ (s : Span). one_if (t s.start)) h.2 in
              let f = packed_counts packed i a.at a.after a.packed a.array (λ e. cc) t in
              let l = (less_takes a.indices.opens).most (starts t) in
              let m = (less_takes a.indices.closes).most (starts t) in
              let n = (less_takes a.component.mark).most (starts t) in
              let p = count_more t O (u.declares ++ R) in
              let q = count_more t u.declares R in
              omega (arith, x, y, z, s, f, l, m, n, p, q);
        };
        flat = all_append IsFlat O (u.declares ++ R) (all_flat IsFlat types.ordinal_declares ordinal_flat indices) (all_append IsFlat u.declares R c.flat (arrays_flat span indices (types.type_in u)));
      }
  layer_flat room (TypeExpr-F.Fields packed fs span) i j h =
      let r = h.1 in
      flat_less (less_more (less_flag k.Packed packed r.packed) (less_takes r.fields.opens)) (flat_end (fields_flat fs r.fields.at r.fields.mid r.fields.inside) (less_takes r.fields.closes))
  layer_flat room (TypeExpr-F.Set packed base span) i j h =
      let r = h.1 in
      flat_less (less_more (less_flag k.Packed packed r.packed) (less_more (less_takes r.set) (less_takes r.base.mark))) (flat_ordinal base r.base.at j r.base.item)

below_flat : (room : ℕ) (x : TypeExpr) (i j : Input) → TypeBelow room x i j → TypeFlat i j x
below_flat zero x i j h = absurd h
below_flat (suc room) x i j h = subst (λ (u : types.Typing). Flat i j u.declares) (sym (type_is x)) (layer_flat (TypeBelow room) (below_flat room) room (out-TypeExpr x) i j h)

pub type_flat : (room : ℕ) (x : TypeExpr) (i j : Input) → IsType room x i j → Flat i j (types.typing x).declares
type_flat room = below_flat (suc room)

-- ---- constants and variables

constant_flat : (o : Option Value) → type_denoted (constant o) ≡ at_fault
constant_flat None = refl
constant_flat (Some v) = refl

abbrev of_const : ConstDef → Declarations
of_const x = (sites.const_def x).declares

pub flat_consts : (xs : List ConstDef) (i j : Input) → Lines IsConstDef xs i j → Flats of_const i j xs
flat_consts = fit.lines (Flats of_const) (flat_frame of_const) IsConstDef
    (λ x i j h. flat_one of_const x i j (flat_end (flat_name (λ env. types.meaning_only (constant (const_value env x.value))) (λ env. constant_flat (const_value env x.value)) h.first) (less_more (less_takes h.mark) (const_less x.value h.at j h.second))))

abbrev of_var : TypedNames → Declarations
of_var x = (sites.var_decl x).declares

module _ (room : ℕ) where
  pub var_flat : One (Flats of_var) (AreVars room)
  var_flat x i j h = flat_one of_var x i j (typed_flat (IsType room) (type_flat room) x i j h)

  pub flat_vars : (xs : List TypedNames) (i j : Input) → Lines (AreVars room) xs i j → Flats of_var i j xs
  flat_vars = fit.lines (Flats of_var) (flat_frame of_var) (AreVars room) var_flat

-- ---- parameters

-- names of a type that is named
named_flat : {ns : NameList} {u : Name} {i m n j : Input} → IsNames ns i m → Less m n → IsName u n j → Flat i j (sites.named_variables ns.names u)
named_flat {ns} {u} h l g = flat_end (flat_variables {ns = ns} (λ env. named_type env u) h) (less_more l (name_less g))

formal_flat : One (Flats sites.formal_variables) IsFormal
formal_flat f i j h = flat_one sites.formal_variables f i j (flat_less (less_flag k.Var f.is_var h.is_var) (named_flat h.names.first (less_takes h.names.mark) h.names.second))

pub flat_formals : (o : Option Formals) (i j : Input) → Optional AreFormals o i j → Flat i j (flat_map sites.formal_variables (sites.formals_of o))
flat_formals None i j h = flat_nil (less_same h)
flat_formals (Some fs) i j h =
    let e = h.formals in
    flat_less (less_takes e.opens) (flat_end (fit.separated (Flats sites.formal_variables) (flat_frame sites.formal_variables) IsFormal formal_flat k.Semicolon fs.formals e.at e.mid e.inside) (less_takes e.closes))

group_flat : One (Flats sites.group_variables) AreParams
group_flat g i j h = flat_one sites.group_variables g i j (named_flat h.first (less_takes h.mark) h.second)

pub flat_params : (o : Option Params) (i j : Input) → MayBeParams o i j → Flat i j (sites.params_declare o)
flat_params None i j h = flat_nil (less_same h)
flat_params (Some ps) i j h = flat_less (less_takes h.opens) (flat_end (fit.separated (Flats sites.group_variables) (flat_frame sites.group_variables) AreParams group_flat k.Semicolon ps.groups h.at h.mid h.inside.groups) (less_takes h.closes))

-- ---- clauses

-- the names of `any`, with the values of the enumerations in their domains
abbrev in_domain : AnyDom → Declarations
in_domain x = types.ordinal_declares x.domain

abbrev Chosen : Input → Input → List AnyDom → Type 0
Chosen i j xs = Flat i j (flat_map in_domain xs ++ flat_map sites.chosen xs)

swapped : (t : ℕ → Bool) (A B C D : Declarations) → count t (places ((A ++ B) ++ (C ++ D))) ≡ count t (places (A ++ C)) + count t (places (B ++ D))
swapped t A B C D =
    let a = count_more t (A ++ B) (C ++ D) in
    let b = count_more t A B in
    let c = count_more t C D in
    let e = count_more t A C in
    let f = count_more t B D in
    omega (arith, a, b, c, e, f)

chosen_frame : Frame Chosen
chosen_frame = record {
  nil = λ i j l. flat_nil l;
  append = λ i m j xs ys h g.
      let A = flat_map in_domain xs in
      let B = flat_map in_domain ys in
      let C = flat_map sites.chosen xs in
      let D = flat_map sites.chosen ys in
      subst (λ rs. Flat i j (rs ++ flat_map sites.chosen (xs ++ ys))) (sym (flat-append in_domain xs ys))
      (subst (λ rs. Flat i j ((A ++ B) ++ rs)) (sym (flat-append sites.chosen xs ys)) (record {
        few = record { most = λ t. let a = swapped t A B C D in let b = h.few.most t in let c = g.few.most t in omega (arith, a, b, c) };
        flat = all_append IsFlat (A ++ B) (C ++ D) (all_append IsFlat A B (all_front IsFlat A C h.flat) (all_front IsFlat B D g.flat)) (all_append IsFlat C D (all_back IsFlat A C h.flat) (all_back IsFlat B D g.flat));
      }));
  less = λ i m j xs l h. flat_less l h;
  end = λ i m j xs h l. flat_end h l;
}

one_chosen : One Chosen IsAnyDom
one_chosen x i j h =
    subst (λ rs. Flat i j (rs ++ flat_map sites.chosen (x ∷ []))) (sym (append-nil (in_domain x)))
    (subst (λ rs. Flat i j (in_domain x ++ rs)) (sym (append-nil (sites.chosen x)))
    (flat_exchanged (flat_end (flat_names (λ env. said.Constant _ None) (λ env. refl) h.parts.first) (less_takes h.parts.mark)) (flat_ordinal x.domain h.parts.at j h.parts.second)))

pub flat_any : (xs : List AnyDom) (i j : Input) → Separated k.Semicolon IsAnyDom xs i j → Flat i j (sites.any_part xs).declares
flat_any = fit.separated Chosen chosen_frame IsAnyDom one_chosen k.Semicolon

-- ---- channels and headers

pub inter_flat : One (Flats sites.inter) IsInter
inter_flat x i j h = flat_one sites.inter x i j (flat_append {rs = sites.declare x.name (sites.interaction_says x) ∷ []} (flat_name (sites.interaction_says x) (λ env. refl) h.name) (flat_params x.params h.mid j h.params))

inters_flat : One (Flats sites.inter_group) AreInters
inters_flat g i j h = flat_one sites.inter_group g i j (flat_less (less_more (less_names h.first) (less_takes h.mark)) (fit.lines (Flats sites.inter) (flat_frame sites.inter) IsInter inter_flat g.inters h.at j h.second))

pub flat_channel : (c : Channel) (i j : Input) → IsChannel c i j → Flat i j (sites.channel c)
flat_channel c i j h =
    let head = less_more (less_takes h.name.mark) (less_more (name_less h.name.item) (less_more (less_takes h.opens) (less_more (name_less h.roles.first) (less_more (less_takes h.roles.mark) (less_more (name_less h.roles.second) (less_more (less_takes h.closes) (less_takes h.semicolon))))))) in
    flat_less head (fit.several (Flats sites.inter_group) (flat_frame sites.inter_group) (Behind k.By AreInters) (fit.behind (Flats sites.inter_group) (flat_frame sites.inter_group) AreInters inters_flat k.By) c.groups h.after_head j h.groups)

queue_less : (o : Option Disc) (i j : Input) → Optional IsQueue o i j → Less i j
queue_less None i j h = less_same h
queue_less (Some (disc.Individual span)) i j h = less_more (less_takes h.item.0) (less_takes h.mark)
queue_less (Some (disc.Common span)) i j h = less_more (less_takes h.item.0) (less_takes h.mark)

pub ip_flat : One (Flats sites.ip_decl) IsIpDecl
ip_flat p i j h =
    let role = less_more (less_takes h.role.opens) (less_more (name_less h.role.inside) (less_more (less_takes h.role.closes) (queue_less p.disc h.after_role j h.disc))) in
    flat_one sites.ip_decl p i j (flat_end (flat_names (λ env. said.Ip) (λ env. refl) h.names.first) (less_more (less_takes h.names.mark) (less_more (name_less h.names.second) role)))

pub flat_ips : (ps : List IpDecl) (i j : Input) → Lines IsIpDecl ps i j → Flats sites.ip_decl i j ps
flat_ips = fit.lines (Flats sites.ip_decl) (flat_frame sites.ip_decl) IsIpDecl ip_flat

modvar_flat : One (Flats sites.modvar_decl) AreModvars
modvar_flat m i j h = flat_one sites.modvar_decl m i j (flat_end (flat_names (λ env. said.ModuleVariable) (λ env. refl) h.first) (less_more (less_takes h.mark) (name_less h.second)))

pub flat_modvars : (ms : List ModvarDecl) (i j : Input) → Lines AreModvars ms i j → Flats sites.modvar_decl i j ms
flat_modvars = fit.lines (Flats sites.modvar_decl) (flat_frame sites.modvar_decl) AreModvars modvar_flat

pub attr_less : (o : Option Attr) (i j : Input) → Optional IsAttr o i j → Less i j
attr_less None i j h = less_same h
attr_less (Some (attr.SysAttr (sys_attr.Systemprocess span))) i j h = less_takes h.0
attr_less (Some (attr.SysAttr (sys_attr.Systemactivity span))) i j h = less_takes h.0
attr_less (Some (attr.Process span)) i j h = less_takes h.0
attr_less (Some (attr.Activity span)) i j h = less_takes h.0

pub flat_header : (room : ℕ) (x : Header) (i j : Input) → IsHeader room x i j → Flat i j (sites.header x).declares
flat_header room x i j h =
    let P = sites.params_declare x.params in
    let I = flat_map sites.ip_decl x.ips in
    let a = flat_less (less_takes h.name.mark) (flat_name (sites.header_says x) (λ env. refl) h.name.item) in
    let b = flat_less (attr_less x.attr h.after_name h.after_attr h.attr) (flat_end (flat_params x.params h.after_attr h.after_params h.params) (less_takes h.semicolon)) in
    let c = fit.may_be_lines (Flats sites.ip_decl) (flat_frame sites.ip_decl) IsIpDecl ip_flat k.Ip x.ips h.after_head h.after_ips h.ips in
    let e = flat_end (fit.may_be_lines (Flats of_var) (flat_frame of_var) (AreVars room) (var_flat room) k.Export x.exports h.after_ips h.after_exports h.exports) (less_more (less_takes h.ends) (less_takes h.last)) in
    flat_append {rs = sites.declare x.name (sites.header_says x) ∷ []} a (flat_append b (flat_append c (subst (Flat h.after_ips j) (sym (chain_map (λ (p : sites.Part). p.declares) sites.var_decl x.exports)) e)))
