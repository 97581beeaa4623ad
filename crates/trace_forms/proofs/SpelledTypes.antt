-- Constants, types and definitions that spell tokens: what is told of them, where no rule on types is broken.
use Rattle.std.proofs.Common.{ℕ, zero, suc, ◌<◌, ◌≤◌, Bool, false, refl, inl, inr, List, [], ◌∷◌, ◌++◌, length, map, sym, subst, arith}
use Rattle.std.specs.Prelude.{◌^◌, flat_map}
use Rattle.std.specs.List.{AllByRecursion}
use Rattle.estelle_tree.specs.declared.kind.Kind.TheVariants as k
use Rattle.estelle_tree.specs.declared.tree.type_expr.Const.TheVariants as const
use Rattle.estelle_tree.specs.declared.tree.type_expr.Ordinal.TheVariants as ordinal
use Rattle.estelle_tree.specs.declared.tree.type_expr.TypeExpr.{TypeExpr, out-TypeExpr, map-TypeExpr}
use Rattle.estelle_tree.specs.declared.tree.type_expr.TypeExpr.TheOpen.{TypeExpr-F}
use Rattle.estelle_tree.specs.declared.tree.type_expr.Fields.{Fields, out-Fields}
use Rattle.estelle_tree.specs.declared.tree.type_expr.TypedNames.{TypedNames, out-TypedNames}
use Rattle.estelle_tree.specs.declared.tree.declaration.TypeDef.{TypeDef}
use Rattle.estelle_tree.specs.declared.tree.declaration.BlockDecl.TheVariants as block_decl
use Rattle.estelle_tree.specs.Input.{Input}
use Rattle.estelle_tree.specs.Spans.{TypeExprLayer}
use Rattle.estelle_tree.specs.Spelling.{Spelling, Separated}
use Rattle.estelle_tree.specs.Types.{of_sign, IsNames, IsConst, IsOrdinal, AreTyped, AreFields, IsTypeLayer, TypeBelow, IsType}
use Rattle.estelle_tree.specs.Declarations.{IsConstDef, IsTypeDef, AreVars, IsBlockDecl}
use Rattle.std.proofs.lemmas.Bool.{cases_lt}
use Rattle.estelle_tree.specs.declared.span.Span.{Span}
use Rattle.type_rules.specs.declared.types.Denoted.{Denoted}
use Rattle.type_rules.specs.declared.meanings.Meaning.{Meaning as RuleMeaning}
use Rattle.type_rules.specs.declared.sites.Site.TheVariants.{TypeAt}
use Rattle.type_rules.specs.Types.{is_no_base}
use Rattle.type_rules.specs.Meanings as rules
use Rattle.type_rules.specs.Meanings.{Env, entity_at}
use Rattle.estelle_model.specs.declared.denoter.Host.TheVariants as host
use Rattle.estelle_model.specs.declared.meaning.Meaning.{Meaning}
use Rattle.estelle_model.specs.Meant.{Meanings}
use Rattle.estelle_model.specs.declared.meaning.Meaning.TheVariants as mean
use Rattle.type_rules.specs.Sites.{Sites}
use Rattle.type_rules.specs.TypeSites as type_rules
use Rattle.type_rules.specs.TypeSites.{ordinal_sites, array_denotes, fields_denote, set_denotes, has_no_index}
use Rattle.type_rules.specs.SpecificationSites as sites
use Rattle.type_rules.proofs.TypeEquations as rule_types
use Rattle.estelle_model.specs.Denoted.{Typing, Section, type_layer, typing, section}
use Rattle.meaning_table.proofs.TypeEquations.{fields, type_is, fields_is, section_is}
use Rattle.trace_forms.proofs.Passes.{less_next, less_takes, less_mark, less_flag, less_more, name_less, names, const_less, number_form, char_form, names_few}
use Rattle.trace_forms.proofs.Holds.{Holds, AllHold, hold_less, hold_end, hold_both, hold_as, always, hold_behind, hold_enclosed, hold_separated, hold_lines}
use Rattle.trace_forms.proofs.Firm.{number_in}
use Rattle.trace_forms.proofs.Kept.{SiteKept, Kept, PartKept, kept_front, kept_back, each_kept, parts_kept, each_part_kept, subrange_kept}
use Rattle.trace_forms.proofs.TypePlaces.{IsSettled}
use Rattle.trace_forms.proofs.Flat.{depth_of}
use Rattle.trace_forms.proofs.Nests.{NestsTo, Within, TypeWithin, within_more, whole_within, type_within}
use Rattle.trace_forms.proofs.Lists.{all_back}
use Rattle.trace_forms.proofs.Declared.{Tells, AllTold, ConstFirm, OrdinalFirm, TypingTold, SectionTold, TypeDefTold, DefinitionTold, ordinal_told, array_told, record_told, set_told}

pub const_holds : AllHold ConstFirm IsConst
const_holds (const.Number s n span) i j h = hold_less (less_mark of_sign s h.0.sign) (record { less = less_next h.0.item.next; told = λ f. number_in n (number_form h.0.item f) })
const_holds (const.Name s x span) i j h = always tt (const_less (const.Name s x span) i j h)
const_holds (const.Char c span) i j h = record { less = less_next h.0.next; told = λ f. let a = (char_form h.0 f).1 in omega (arith, a) }

names_hold : AllHold (λ xs. (0 < length xs.names) × (length xs.names ≤ 2 ^ 32)) IsNames
names_hold xs i j h = record { less = names xs i j h; told = names_few h }

pub const_def_holds : AllHold (λ d. ConstFirm d.value) IsConstDef
const_def_holds d i j h = hold_less (less_more (name_less h.first) (less_takes h.mark)) (const_holds d.value h.at j h.second)

-- env : what the rules know
module _ (env : Env) where
  pub ordinal_holds : AllHold (λ o. Kept (ordinal_sites env o) → OrdinalFirm env o) IsOrdinal
  ordinal_holds (ordinal.Name x) i j h = always (λ kept. tt) (name_less h)
  ordinal_holds (ordinal.Enumeration xs span) i j h = hold_as (λ f kept. f.1) (hold_enclosed names_hold xs i j h.0)
  ordinal_holds (ordinal.Subrange low high span) i j h = hold_as (λ p kept. (p.0, p.1, subrange_kept env low high span kept)) (hold_both (const_holds low i h.0.mid h.0.first) (hold_less (less_takes h.0.mark) (const_holds high h.0.at j h.0.second)))

  -- where the rules do not refuse it, a type is told
  abbrev TypeTold : TypeExpr → Type 0
  TypeTold x = Kept ((type_rules.typing x).sites env) → TypingTold env (typing x)

  -- so are names with their type
  abbrev NamesTold : TypedNames → Type 0
  NamesTold x = Kept ((type_rules.typed_names x).1.sites env) → SectionTold env (section x)

  module _ (T : Spelling TypeExpr) (holds : AllHold TypeTold T) where
    pub typed_holds : AllHold NamesTold (AreTyped T)
    typed_holds x i j h =
        hold_as (λ p kept. subst (SectionTold env) (sym (section_is x)) (p.0.0, p.1 (subst (λ (s : type_rules.Section). Kept (s.1.sites env)) (rule_types.section_is x) kept)))
        (hold_both (names_hold (out-TypedNames x).names i h.mid h.first) (hold_less (less_takes h.mark) (holds (out-TypedNames x).type_expr h.at j h.second)))

    some_sections : (xs : List TypedNames) (i j : Input) → Separated k.Semicolon (AreTyped T) xs i j → 0 < length (map section xs)
    some_sections [] i j h = absurd h
    some_sections (x ∷ xs) i j h = omega arith

    -- where rules speak of the types of sections
    abbrev sections_sites : List type_rules.Section → Sites
    sections_sites ss = flat_map (λ (s : type_rules.Section). s.1.sites env) ss

    sections_told : (xs : List TypedNames) → AllByRecursion NamesTold xs → Kept (sections_sites (map type_rules.typed_names xs)) → AllByRecursion (SectionTold env) (map section xs)
    sections_told [] h kept = tt
    sections_told (x ∷ xs) h kept =
        let A = (type_rules.typed_names x).1.sites env in
        let B = sections_sites (map type_rules.typed_names xs) in
        (h.0 (kept_front A B kept), sections_told xs h.1 (kept_back A B kept))

    fields_hold : AllHold (λ fs. Kept (sections_sites (type_rules.fields fs)) → (0 < length (fields fs)) × AllByRecursion (SectionTold env) (fields fs)) (AreFields T)
    fields_hold fs i j h =
        let xs = (out-Fields fs).sections in
        hold_as (λ p kept. subst (λ (ss : List Section). (0 < length ss) × AllByRecursion (SectionTold env) ss) (sym (fields_is fs)) (some_sections xs i h.mid h.sections, sections_told xs p (subst (λ (ss : List type_rules.Section). Kept (sections_sites ss)) (rule_types.fields_is fs) kept)))
        (hold_end (hold_separated k.Semicolon typed_holds xs i h.mid h.sections) (less_flag k.Semicolon (out-Fields fs).semicolon h.semicolon))

    layer_holds : (room : ℕ) (l : TypeExprLayer) (i j : Input) → IsTypeLayer room T l i j
        → Holds i j (Kept ((type_rules.type_layer (map-TypeExpr TypeExpr Fields TypedNames type_rules.Typing (List type_rules.Section) type_rules.Section type_rules.typing type_rules.fields type_rules.typed_names l)).sites env)
        → TypingTold env (type_layer (map-TypeExpr TypeExpr Fields TypedNames Typing (List Section) Section typing fields section l)))
    layer_holds room (TypeExpr-F.Ordinal o) i j h = hold_as (λ p kept. ordinal_told env o (p kept)) (ordinal_holds o i j h)
    layer_holds room (TypeExpr-F.Array packed indices component span) i j h =
        let a = h.1 in
        let u = type_rules.typing component in
        let A = flat_map (ordinal_sites env) indices in
        let B = u.sites env in
        let C : Sites = TypeAt span (has_no_index env indices) (array_denotes span indices u env) ∷ [] in
        hold_as (λ p kept. array_told env packed indices (typing component) span (each_kept (OrdinalFirm env) (ordinal_sites env) indices p.0 (kept_front A (B ++ C) kept)) (p.1 (kept_front B C (kept_back A (B ++ C) kept))))
        (hold_less (less_more (less_flag k.Packed packed a.packed) (less_takes a.array)) (hold_both (hold_enclosed (hold_separated k.Comma ordinal_holds) indices a.after a.mid a.indices) (hold_behind holds component a.mid j a.component)))
    layer_holds room (TypeExpr-F.Fields packed fs span) i j h =
        let A = sections_sites (type_rules.fields fs) in
        let B : Sites = TypeAt span false (fields_denote span (type_rules.fields fs) env) ∷ [] in
        hold_as (λ p kept. let q = p (kept_front A B kept) in record_told env packed (fields fs) span q.0 q.1) (hold_less (less_flag k.Packed packed h.1.packed) (hold_enclosed fields_hold fs h.1.at j h.1.fields))
    layer_holds room (TypeExpr-F.Set packed base span) i j h =
        let A = ordinal_sites env base in
        let B : Sites = TypeAt span (is_no_base (type_rules.ordinal_type env base)) (set_denotes span base env) ∷ [] in
        hold_as (λ p kept. set_told env packed base span (p (kept_front A B kept))) (hold_less (less_more (less_flag k.Packed packed h.1.packed) (less_takes h.1.set)) (hold_behind ordinal_holds base h.1.after j h.1.base))

  below_holds : (room : ℕ) → AllHold TypeTold (TypeBelow room)
  below_holds zero x i j h = absurd h
  below_holds (suc room) x i j h =
      hold_as (λ p kept. subst (TypingTold env) (sym (type_is x)) (p (subst (λ (u : type_rules.Typing). Kept (u.sites env)) (rule_types.type_is x) kept))) (layer_holds (TypeBelow room) (below_holds room) room (out-TypeExpr x) i j h)

  -- ---- how deep

  -- what the rules do not refuse nests at most 200 deep
  site_depth : (at : Span) (at_fault : Bool) (x : Denoted) → SiteKept (TypeAt at at_fault x) → x.depth ≤ 200
  site_depth at at_fault x kept = elim (cases_lt 200 x.depth) [
    | inl deep ↦ absurd ((kept at).1 (inr (inr deep), refl))
    | inr most ↦ most
  ]

  layer_depth : (l : TypeExprLayer) → Kept ((type_rules.type_layer (map-TypeExpr TypeExpr Fields TypedNames type_rules.Typing (List type_rules.Section) type_rules.Section type_rules.typing type_rules.fields type_rules.typed_names l)).sites env)
      → ((type_rules.type_layer (map-TypeExpr TypeExpr Fields TypedNames type_rules.Typing (List type_rules.Section) type_rules.Section type_rules.typing type_rules.fields type_rules.typed_names l)).denotes env).depth ≤ 200
  layer_depth (TypeExpr-F.Ordinal (ordinal.Name x)) kept = site_depth _ _ (type_rules.ordinal_type env (ordinal.Name x)) kept.0
  layer_depth (TypeExpr-F.Ordinal (ordinal.Enumeration names span)) kept = site_depth _ _ (type_rules.ordinal_type env (ordinal.Enumeration names span)) kept.0
  layer_depth (TypeExpr-F.Ordinal (ordinal.Subrange low high span)) kept = site_depth _ _ (type_rules.ordinal_type env (ordinal.Subrange low high span)) kept.1.1.0
  layer_depth (TypeExpr-F.Array packed indices component span) kept = site_depth _ _ (array_denotes span indices (type_rules.typing component) env) (kept_back ((type_rules.typing component).sites env) _ (kept_back (flat_map (ordinal_sites env) indices) _ kept)).0
  layer_depth (TypeExpr-F.Fields packed fs span) kept = site_depth _ _ (fields_denote span (type_rules.fields fs) env) (kept_back (flat_map (λ (s : type_rules.Section). s.1.sites env) (type_rules.fields fs)) _ kept).0
  layer_depth (TypeExpr-F.Set packed base span) kept = site_depth _ _ (set_denotes span base env) (kept_back (ordinal_sites env base) _ kept).0

  type_depth : (x : TypeExpr) → Kept ((type_rules.typing x).sites env) → ((type_rules.typing x).denotes env).depth ≤ 200
  type_depth x kept = subst (λ (u : type_rules.Typing). (u.denotes env).depth ≤ 200) (sym (rule_types.type_is x)) (layer_depth (out-TypeExpr x) (subst (λ (u : type_rules.Typing). Kept (u.sites env)) (rule_types.type_is x) kept))

  told_within : (r : RuleMeaning) (m : Meaning) → Tells r m → TypeWithin (depth_of r) m
  told_within r (mean.TypeName t) h = h.1.1
  told_within r (mean.Constant v k) h = whole_within (depth_of r) host.Integer
  told_within r (mean.Called c) h = whole_within (depth_of r) host.Integer
  told_within r (mean.Interaction kind) h = whole_within (depth_of r) host.Integer
  told_within r _ h = whole_within (depth_of r) host.Integer

  module _ (room : ℕ) where
    type_def_told : (d : TypeDef) (i j : Input) → IsTypeDef room d i j → TypeTold d.type_expr → PartKept env (sites.type_def d) → TypeDefTold env d
    type_def_told d i j h told kept = (told kept.0, nests_so)
      where
        T : type_rules.Typing
        T = type_rules.typing d.type_expr

        fixed : (T.denotes env).depth ≤ depth_of (entity_at env d.name.span.start).meaning
        fixed = (all_back (IsSettled env) T.declares _ kept.1).0.0

        nests_so : (meant : Meanings) → AllTold env meant → NestsTo 200 ((typing d.type_expr).denotes meant) × Within (depth_of (entity_at env d.name.span.start).meaning) ((typing d.type_expr).denotes meant)
        nests_so meant k =
            let w = type_within env meant (λ x. told_within (rules.known env x) (meant x) (k.0 x)) room d.type_expr h.at j h.second in
            (w 200 (type_depth d.type_expr kept.0) (omega arith), within_more (T.denotes env).depth _ ((typing d.type_expr).denotes meant) fixed w)

    pub type_def_holds : AllHold (λ d. PartKept env (sites.type_def d) → TypeDefTold env d) (IsTypeDef room)
    type_def_holds d i j h = hold_as (type_def_told d i j h) (hold_less (less_more (name_less h.first) (less_takes h.mark)) (below_holds (suc room) d.type_expr h.at j h.second))

    pub vars_hold : AllHold NamesTold (AreVars room)
    vars_hold = typed_holds (IsType room) (below_holds (suc room))

    pub definition_holds : AllHold (λ d. PartKept env (sites.block_decl_part d) → DefinitionTold env d) (IsBlockDecl room)
    definition_holds (block_decl.Const defs span) i j h = hold_as (λ p kept. p) (hold_behind (hold_lines const_def_holds) defs i j h.0)
    definition_holds (block_decl.Types defs span) i j h = hold_as (each_part_kept env (TypeDefTold env) sites.type_def defs) (hold_behind (hold_lines type_def_holds) defs i j h.0)
    definition_holds (block_decl.Var vars span) i j h = hold_as (λ p kept. parts_kept env (λ x. SectionTold env (section x)) sites.var_decl vars p kept.0) (hold_behind (hold_lines vars_hold) vars i j h.0)
