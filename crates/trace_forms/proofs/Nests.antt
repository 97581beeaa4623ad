-- How deep arrays and records nest in the types of a run: no deeper than the rules say.
use Rattle.std.proofs.Common.{◌≡◌, ℕ, zero, suc, ◌+◌, ◌≤◌, List, [], ◌∷◌, map, fold, length, refl, sym, subst, arith, ℤ, replicate}
use Rattle.std.specs.Prelude.{min}
use Rattle.std.specs.List.{AllByRecursion}
use Rattle.estelle_tree.specs.declared.kind.Kind.TheVariants as k
use Rattle.estelle_tree.specs.declared.tree.name.Name.{Name}
use Rattle.estelle_tree.specs.declared.tree.type_expr.Ordinal.{Ordinal}
use Rattle.estelle_tree.specs.declared.tree.type_expr.Ordinal.TheVariants as ordinal
use Rattle.estelle_tree.specs.declared.tree.type_expr.TypeExpr.{TypeExpr, out-TypeExpr, map-TypeExpr}
use Rattle.estelle_tree.specs.declared.tree.type_expr.TypeExpr.TheOpen.{TypeExpr-F}
use Rattle.estelle_tree.specs.declared.tree.type_expr.Fields.{Fields, out-Fields}
use Rattle.estelle_tree.specs.declared.tree.type_expr.TypedNames.{TypedNames, out-TypedNames}
use Rattle.estelle_tree.specs.Input.{Input}
use Rattle.estelle_tree.specs.Spans.{TypeExprLayer}
use Rattle.estelle_tree.specs.Spelling.{Spelling}
use Rattle.estelle_tree.specs.Types.{AreTyped, IsTypeLayer, TypeBelow, IsType}
use Rattle.type_rules.specs.declared.types.Denoted.{Denoted}
use Rattle.type_rules.specs.Types.{as_type, over_index, with_field, no_fields, record_type}
use Rattle.type_rules.specs.Meanings.{Env, known}
use Rattle.type_rules.specs.TypeSites as types
use Rattle.type_rules.proofs.TypeEquations as rule_types
use Rattle.estelle_model.specs.declared.denoter.Host.{Host}
use Rattle.estelle_model.specs.declared.denoter.Denoter.{Denoter, out-Denoter}
use Rattle.estelle_model.specs.declared.denoter.Denoter.TheVariants as denoter
use Rattle.estelle_model.specs.declared.denoter.Denoter.TheOpen.{Denoter-F}
use Rattle.estelle_model.specs.declared.meaning.Meaning.{Meaning}
use Rattle.estelle_model.specs.Types.{whole, least, greatest}
use Rattle.estelle_model.specs.Meant.{Meanings}
use Rattle.estelle_model.specs.Denoted.{Typing, Section, type_of_meaning, ordinal_type, array_over, section_types, type_layer, typing, section}
use Rattle.meaning_table.proofs.TypeEquations.{fields, type_is, fields_is, section_is}
use Rattle.trace_forms.proofs.Flat.{depth_of}
use Rattle.trace_forms.proofs.AllOf.{AllOf, of_behind, of_separated}
use Rattle.trace_forms.proofs.Lists.{all_append}

-- ---- how deep

abbrev pub IsNestLayer : (Denoter → Type 0) → Denoter-F Denoter → Type 0
IsNestLayer IsPart (Denoter-F.Ordinal h low high) = Unit {0}
IsNestLayer IsPart (Denoter-F.Set h low high) = Unit {0}
IsNestLayer IsPart (Denoter-F.Array low high item) = IsPart item
IsNestLayer IsPart (Denoter-F.Fields fields) = AllByRecursion IsPart fields

-- arrays and records nest at most so deep
abbrev pub NestsTo : ℕ → Denoter → Type 0
NestsTo zero t = IsNestLayer (λ _. ⊥) (out-Denoter t)
NestsTo (suc depth) t = IsNestLayer (NestsTo depth) (out-Denoter t)

-- they nest no deeper than this, where that is counted: up to 200
abbrev pub Within : ℕ → Denoter → Type 0
Within depth t = (n : ℕ) → depth ≤ n → n ≤ 200 → NestsTo n t

pub within_more : (a b : ℕ) (t : Denoter) → a ≤ b → Within a t → Within b t
within_more a b t h w n l m = w n (omega (arith, h, l)) m

ordinal_within : (depth : ℕ) (h : Host) (low high : ℤ) → Within depth (denoter.Ordinal h low high)
ordinal_within depth h low high zero l m = subst (IsNestLayer (λ _. ⊥)) (sym (denoter.outs-Ordinal h low high)) tt
ordinal_within depth h low high (suc n) l m = subst (IsNestLayer (NestsTo n)) (sym (denoter.outs-Ordinal h low high)) tt

set_within : (depth : ℕ) (h : Host) (low high : ℤ) → Within depth (denoter.Set h low high)
set_within depth h low high zero l m = subst (IsNestLayer (λ _. ⊥)) (sym (denoter.outs-Set h low high)) tt
set_within depth h low high (suc n) l m = subst (IsNestLayer (NestsTo n)) (sym (denoter.outs-Set h low high)) tt

pub whole_within : (depth : ℕ) (h : Host) → Within depth (whole h)
whole_within depth h = ordinal_within depth h (least h) (greatest h)

-- one level more, as the rules count it
abbrev deeper : ℕ → ℕ
deeper n = min 201 (n + 1)

some_level : (depth n : ℕ) → deeper depth ≤ n → n ≤ 200 → (m : ℕ) × ((n ≡ suc m) × (depth ≤ m))
some_level depth zero h m = absurd (omega (arith, h))
some_level depth (suc n) h m = (n, (refl, omega (arith, h, m)))

array_within : (depth : ℕ) (low high : ℤ) (item : Denoter) → Within depth item → Within (deeper depth) (denoter.Array low high item)
array_within depth low high item w n l m =
    let s = some_level depth n l m in
    let is = s.1.0 in
    subst (λ j. NestsTo j (denoter.Array low high item)) (sym is) (subst (IsNestLayer (NestsTo s.0)) (sym (denoter.outs-Array low high item)) (w s.0 s.1.1 (omega (arith, is, m))))

all_within : (depth n : ℕ) → depth ≤ n → n ≤ 200 → (ts : List Denoter) → AllByRecursion (Within depth) ts → AllByRecursion (NestsTo n) ts
all_within depth n l m [] h = tt
all_within depth n l m (t ∷ ts) h = (h.0 n l m, all_within depth n l m ts h.1)

fields_within : (depth : ℕ) (ts : List Denoter) → AllByRecursion (Within depth) ts → Within (deeper depth) (denoter.Fields ts)
fields_within depth ts h n l m =
    let s = some_level depth n l m in
    let is = s.1.0 in
    subst (λ j. NestsTo j (denoter.Fields ts)) (sym is) (subst (IsNestLayer (NestsTo s.0)) (sym (denoter.outs-Fields ts)) (all_within depth s.0 s.1.1 (omega (arith, is, m)) ts h))

-- ---- what type expressions denote

-- a type of a run nests no deeper than the rules know
abbrev pub TypeWithin : ℕ → Meaning → Type 0
TypeWithin depth m = Within depth (type_of_meaning m)

module _ (env : Env) (meant : Meanings) (agree : (x : Name) → TypeWithin (depth_of (known env x)) (meant x)) where
  ordinals_within : (o : Ordinal) → Within (types.ordinal_type env o).depth (ordinal_type meant o)
  ordinals_within (ordinal.Name x) = agree x
  ordinals_within (ordinal.Enumeration names span) = whole_within 0 _
  ordinals_within (ordinal.Subrange low high span) = ordinal_within _ _ _ _

  -- so many levels more
  abbrev levels : List Ordinal → ℕ → ℕ
  levels [] n = n
  levels (o ∷ os) n = levels os (deeper n)

  levels_last : (os : List Ordinal) (n : ℕ) → levels os (deeper n) ≡ deeper (levels os n)
  levels_last [] n = refl
  levels_last (o ∷ os) n = levels_last os (deeper n)

  arrays_depth : (os : List Ordinal) (c : Denoted) → (fold over_index c (map (types.ordinal_type env) os)).depth ≡ levels os c.depth
  unfolding over_index
  arrays_depth [] c = refl
  arrays_depth (o ∷ os) c = arrays_depth os (over_index c (types.ordinal_type env o))

  arrays_within : (os : List Ordinal) (depth : ℕ) (item : Denoter) → Within depth item → Within (levels os depth) (array_over (map (ordinal_type meant) os) item)
  arrays_within [] depth item w = w
  arrays_within (o ∷ os) depth item w = subst (λ n. Within n (array_over (map (ordinal_type meant) (o ∷ os)) item)) (sym (levels_last os depth)) (array_within (levels os depth) _ _ (array_over (map (ordinal_type meant) os) item) (arrays_within os depth item w))

  -- ---- fields

  names_most : (xs : List Name) (u c : Denoted) → c.depth ≤ (fold (λ so_far x. with_field so_far u) c xs).depth
  unfolding with_field
  names_most [] u c = omega arith
  names_most (x ∷ xs) u c = let a = names_most xs u (with_field c u) in omega (arith, a)

  alike_within : (xs : List Name) (u c : Denoted) (t : Denoter) → Within u.depth t → AllByRecursion (Within (fold (λ so_far x. with_field so_far u) c xs).depth) (replicate (length xs) t)
  unfolding with_field
  alike_within [] u c t w = tt
  alike_within (x ∷ xs) u c t w =
      let a = names_most xs u (with_field c u) in
      (within_more u.depth _ t (omega (arith, a)) w, alike_within xs u (with_field c u) t w)

  sections_most : (ss : List types.Section) (c : Denoted) → c.depth ≤ (fold (types.with_section env) c ss).depth
  sections_most [] c = omega arith
  sections_most (s ∷ ss) c = let a = names_most s.0 (s.1.denotes env) c in let b = sections_most ss (types.with_section env c s) in omega (arith, a, b)

  all_more : (a b : ℕ) → a ≤ b → (ts : List Denoter) → AllByRecursion (Within a) ts → AllByRecursion (Within b) ts
  all_more a b l [] h = tt
  all_more a b l (t ∷ ts) h = (within_more a b t l h.0, all_more a b l ts h.1)

  abbrev DenotesWithin : TypeExpr → Type 0
  DenotesWithin x = Within ((types.typing x).denotes env).depth ((typing x).denotes meant)

  abbrev SectionWithin : TypedNames → Type 0
  SectionWithin x = (length (types.typed_names x).0 ≡ length (section x).0) × Within ((types.typed_names x).1.denotes env).depth ((section x).1.denotes meant)

  sections_within : (xs : List TypedNames) → AllByRecursion SectionWithin xs → (c : Denoted) → AllByRecursion (Within (fold (types.with_section env) c (map types.typed_names xs)).depth) (section_types meant (map section xs))
  sections_within [] h c = tt
  sections_within (x ∷ xs) h c =
      let s = types.typed_names x in
      let e = types.with_section env c s in
      all_append (Within (fold (types.with_section env) e (map types.typed_names xs)).depth) (replicate (length (section x).0) ((section x).1.denotes meant)) (section_types meant (map section xs))
      (all_more e.depth (fold (types.with_section env) e (map types.typed_names xs)).depth (sections_most (map types.typed_names xs) e) (replicate (length (section x).0) ((section x).1.denotes meant))
      (subst (λ n. AllByRecursion (Within e.depth) (replicate n ((section x).1.denotes meant))) h.0.0 (alike_within s.0 (s.1.denotes env) c ((section x).1.denotes meant) h.0.1)))
      (sections_within xs h.1 e)

  module _ (T : Spelling TypeExpr) (all : AllOf DenotesWithin T) where
    typed_within : AllOf SectionWithin (AreTyped T)
    typed_within x i j h =
        let o = out-TypedNames x in
        subst (λ (s : types.Section). (length s.0 ≡ length (section x).0) × Within (s.1.denotes env).depth ((section x).1.denotes meant)) (sym (rule_types.section_is x))
        (subst (λ (s : Section). (length o.names.names ≡ length s.0) × Within ((types.typing o.type_expr).denotes env).depth (s.1.denotes meant)) (sym (section_is x)) (refl, all o.type_expr h.at j h.second))

    layer_within : (room : ℕ) (l : TypeExprLayer) (i j : Input) → IsTypeLayer room T l i j
        → Within ((types.type_layer (map-TypeExpr TypeExpr Fields TypedNames types.Typing (List types.Section) types.Section types.typing types.fields types.typed_names l)).denotes env).depth
        ((type_layer (map-TypeExpr TypeExpr Fields TypedNames Typing (List Section) Section typing fields section l)).denotes meant)
    unfolding as_type record_type
    layer_within room (TypeExpr-F.Ordinal o) i j h = ordinals_within o
    layer_within room (TypeExpr-F.Array packed indices component span) i j h =
        let c = (types.typing component).denotes env in
        subst (λ n. Within n (array_over (map (ordinal_type meant) indices) ((typing component).denotes meant))) (sym (arrays_depth indices c)) (arrays_within indices c.depth ((typing component).denotes meant) (of_behind all component h.1.mid j h.1.component))
    layer_within room (TypeExpr-F.Fields packed fs span) i j h =
        let xs = (out-Fields fs).sections in
        let r = h.1.fields in
        let each = of_separated k.Semicolon typed_within xs r.at r.inside.mid r.inside.sections in
        subst (λ (ss : List types.Section). Within (types.fields_denote span ss env).depth (denoter.Fields (section_types meant (fields fs)))) (sym (rule_types.fields_is fs))
        (subst (λ (ss : List Section). Within (types.fields_denote span (map types.typed_names xs) env).depth (denoter.Fields (section_types meant ss))) (sym (fields_is fs))
        (fields_within (fold (types.with_section env) no_fields (map types.typed_names xs)).depth (section_types meant (map section xs)) (sections_within xs each no_fields)))
    layer_within room (TypeExpr-F.Set packed base span) i j h = set_within _ _ _ _

  below_within : (room : ℕ) → AllOf DenotesWithin (TypeBelow room)
  below_within zero x i j h = absurd h
  below_within (suc room) x i j h =
      subst (λ (u : types.Typing). Within (u.denotes env).depth ((typing x).denotes meant)) (sym (rule_types.type_is x))
      (subst (λ (u : Typing). Within ((types.type_layer (map-TypeExpr TypeExpr Fields TypedNames types.Typing (List types.Section) types.Section types.typing types.fields types.typed_names (out-TypeExpr x))).denotes env).depth (u.denotes meant)) (sym (type_is x)) (layer_within (TypeBelow room) (below_within room) room (out-TypeExpr x) i j h))

  pub type_within : (room : ℕ) → AllOf DenotesWithin (IsType room)
  type_within room = below_within (suc room)
