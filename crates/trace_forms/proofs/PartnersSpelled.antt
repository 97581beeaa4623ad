-- In what spells tokens, each constant of the rules with a value is one that the model declares.
use Rattle.std.proofs.Common.{◌≡◌, ℕ, zero, suc, ◌+◌, Bool, List, [], ◌∷◌, ◌++◌, length, map, Option, Some, None, refl, ap, sym, subst, inl, inr, pos}
use Rattle.std.specs.Prelude.{flat_map, option_to_list}
use Rattle.std.specs.List.{AllByRecursion}
use Rattle.std.proofs.lemmas.List.Folds.{flat_map-map}
use Rattle.estelle_tree.specs.declared.kind.Kind.{Kind}
use Rattle.estelle_tree.specs.declared.kind.Kind.TheVariants as k
use Rattle.estelle_tree.specs.declared.span.Span.{Span}
use Rattle.estelle_tree.specs.declared.token.Placed.{Placed as PlacedToken}
use Rattle.estelle_tree.specs.declared.tree.name.Name.{Name}
use Rattle.estelle_tree.specs.declared.tree.type_expr.Ordinal.{Ordinal}
use Rattle.estelle_tree.specs.declared.tree.type_expr.Ordinal.TheVariants as ordinal
use Rattle.estelle_tree.specs.declared.tree.type_expr.TypeExpr.{TypeExpr, out-TypeExpr, map-TypeExpr}
use Rattle.estelle_tree.specs.declared.tree.type_expr.TypeExpr.TheOpen.{TypeExpr-F}
use Rattle.estelle_tree.specs.declared.tree.type_expr.Fields.{Fields, out-Fields}
use Rattle.estelle_tree.specs.declared.tree.type_expr.TypedNames.{TypedNames, out-TypedNames}
use Rattle.estelle_tree.specs.declared.tree.declaration.ConstDef.{ConstDef}
use Rattle.estelle_tree.specs.declared.tree.declaration.BlockDecl.{BlockDecl}
use Rattle.estelle_tree.specs.declared.tree.declaration.BlockDecl.TheVariants as block_decl
use Rattle.estelle_tree.specs.declared.tree.declaration.Formal.{Formal}
use Rattle.estelle_tree.specs.declared.tree.declaration.Routine.{Routine}
use Rattle.estelle_tree.specs.declared.tree.declaration.RoutineForm.{RoutineForm}
use Rattle.estelle_tree.specs.declared.tree.declaration.RoutineForm.TheVariants as form
use Rattle.estelle_tree.specs.declared.tree.clause.AnyDom.{AnyDom}
use Rattle.estelle_tree.specs.declared.tree.clause.Clause.{Clause}
use Rattle.estelle_tree.specs.declared.tree.clause.Clause.TheVariants as clause
use Rattle.estelle_tree.specs.declared.tree.clause.TransBody.{TransBody, out-TransBody, map-TransBody, fold_out-TransBody}
use Rattle.estelle_tree.specs.declared.tree.clause.TransBody.TheOpen.{TransBody-F}
use Rattle.estelle_tree.specs.declared.tree.clause.TransBody.TheFolds.{fold_out-Group}
use Rattle.estelle_tree.specs.declared.tree.clause.Group.{Group, out-Group}
use Rattle.estelle_tree.specs.declared.tree.specification.Channel.{Channel}
use Rattle.estelle_tree.specs.declared.tree.specification.Inter.{Inter}
use Rattle.estelle_tree.specs.declared.tree.specification.Params.{Params}
use Rattle.estelle_tree.specs.declared.tree.specification.Header.{Header}
use Rattle.estelle_tree.specs.declared.tree.specification.IpDecl.{IpDecl}
use Rattle.estelle_tree.specs.declared.tree.specification.ModvarDecl.{ModvarDecl}
use Rattle.estelle_tree.specs.declared.tree.specification.Init.{Init}
use Rattle.estelle_tree.specs.declared.tree.specification.Trans.{Trans}
use Rattle.estelle_tree.specs.declared.tree.specification.Body.{Body, out-Body}
use Rattle.estelle_tree.specs.declared.tree.specification.Parts.{Parts, out-Parts}
use Rattle.estelle_tree.specs.declared.tree.specification.Decl.{Decl, out-Decl, map-Decl}
use Rattle.estelle_tree.specs.declared.tree.specification.Decl.TheOpen.{Decl-F}
use Rattle.estelle_tree.specs.declared.tree.specification.Spec.{Spec}
use Rattle.estelle_tree.specs.Input.{Input}
use Rattle.estelle_tree.specs.Spans.{TypeExprLayer, TransBodyLayer, DeclLayer}
use Rattle.estelle_tree.specs.Spelling.{Spelling, Chain, Optional}
use Rattle.estelle_tree.specs.Types.{AreTyped, AreFields, IsTypeLayer, TypeBelow, IsType}
use Rattle.estelle_tree.specs.Declarations.{IsTypeDef, AreVars, IsBlockDecl, IsRoutine}
use Rattle.estelle_tree.specs.Clauses.{IsBlock, way_of, clause_kinds, MoreGroups, AreGroups, TransBodyLayerOf, TransBodyOf, GroupOf, GroupWithin}
use Rattle.estelle_tree.specs.Specification.{IsHeader, IsInit, IsTrans, DeclLayerOf, DeclOf, PartsOf, PartsBelow}
use Rattle.estelle_tree.specs.Spells.{Spells, max_nesting}
use Rattle.type_rules.specs.declared.types.PascalType.{PascalType}
use Rattle.type_rules.specs.declared.meanings.Meaning.{Meaning as RuleMeaning}
use Rattle.type_rules.specs.declared.meanings.Meaning.TheVariants as said
use Rattle.type_rules.specs.declared.types.Host.TheVariants as rule
use Rattle.type_rules.specs.Meanings as rules
use Rattle.type_rules.specs.Meanings.{Env, constant_value}
use Rattle.type_rules.specs.TypeSites as type_rules
use Rattle.type_rules.specs.SpecificationSites as sites
use Rattle.type_rules.specs.SpecificationSites.{Part, PlacedPart}
use Rattle.type_rules.proofs.TypeEquations as rule_types
use Rattle.type_rules.proofs.SpecificationEquations as ruled
use Rattle.pascal_values.specs.declared.value.Value.TheVariants as pascal
use Rattle.estelle_model.specs.declared.meaning.Meaning.TheVariants as mean
use Rattle.estelle_model.specs.Types.{ordinal_at}
use Rattle.estelle_model.specs.Constants.{const_meaning}
use Rattle.estelle_model.specs.Denoted.{Declaration, Declarations, declare, numbered, count_names, enumeration, ordinal_declares, Typing, Section, type_layer, typing, section, types_declare, sections_declare}
use Rattle.estelle_model.specs.Definitions.{const_def, type_def, definitions, local, local_variables, routine_meaning, value_formals, var_formals, parameter_sections, routine_declares, clause_declares, block_declares}
use Rattle.estelle_model.specs.Bodies.{Way, Contribution, bodies, default_of, behind as behind_clause, ways, trans_body_layer, group_layer, clauses, clauses_layer, clause_group_layer, export_sections, ip_names, header_declares, states_in, variables_in, own_from, module_variables_in, heading, ips_in, clauses_in, ways_of, name_declares, body_declares, bodies_declare}
use Rattle.meaning_table.proofs.TypeEquations.{fields, type_is, fields_is, section_is}
use Rattle.body_table.specs.Ways.{group_ways, group_clauses}
use Rattle.body_table.specs.Contributions.{names_at, names_of, bodies_at, bodies_of, brought_of}
use Rattle.body_table.specs.Standings as stand
use Rattle.body_table.specs.Standings.{standing, inner, inner_of}
use Rattle.body_table.proofs.BodyEquations.{parts_is, body_is, bodies-append}
use Rattle.scope_rules.specs.NameRules.{IsOne}
use Rattle.trace_forms.proofs.AllOf.{AllOf, of_chain, of_behind, of_separated, of_lines, of_may_be_lines}
use Rattle.trace_forms.proofs.Lists.{one_front, one_back, all_append, all_front, all_back, all_flat}
use Rattle.trace_forms.proofs.ConstantKinds.{const_alike}
use Rattle.trace_forms.proofs.Partners.{IsSilent, HasPartner, valued_alike}

-- ---- what gives no value

abbrev AllSilent : rules.Declarations → Type 0
AllSilent = AllByRecursion IsSilent

-- variables, parameters and fields
variables_silent : (u : Env → Option PascalType) (xs : List Name) → AllSilent (type_rules.variables u xs)
variables_silent u [] = tt
variables_silent u (x ∷ xs) = (λ env. refl, variables_silent u xs)

-- array types
arrays_silent : (at : Span) (is : List Ordinal) (component : Env → Option PascalType) → AllSilent (type_rules.arrays at is component)
arrays_silent at [] component = tt
arrays_silent at (i ∷ is) component = (λ env. refl, arrays_silent (type_rules.array_place at is) is component)

-- names that are declared as something without a value
named_silent : (says : Env → RuleMeaning) → ((env : Env) → constant_value (says env) ≡ None) → (xs : List Name) → AllSilent (map (sites.declare_as says) xs)
named_silent says h [] = tt
named_silent says h (x ∷ xs) = (h, named_silent says h xs)

-- the formal parameters of a routine
formals_silent : (fs : List Formal) → AllSilent (flat_map sites.formal_variables fs)
formals_silent fs = all_flat IsSilent sites.formal_variables (λ f. variables_silent (λ env. rules.named_type env f.type_name) f.names.names) fs

-- the parameters of an interaction or a header
params_silent : (ps : Option Params) → AllSilent (sites.params_declare ps)
params_silent ps = all_flat IsSilent sites.group_variables (λ g. variables_silent (λ env. rules.named_type env g.type_name) g.names.names) (sites.groups_of ps)

-- the names of an `any` clause, whose values are chosen later
chosen_silent : (ds : List AnyDom) → AllSilent (flat_map sites.chosen ds)
chosen_silent ds = all_flat IsSilent sites.chosen (λ d. one d d.names.names) ds
  where
    one : (d : AnyDom) (xs : List Name) → AllSilent (map (sites.chosen_name d) xs)
    one d [] = tt
    one d (x ∷ xs) = (λ env. refl, one d xs)

-- interactions
inter_silent : (x : Inter) → AllSilent (sites.inter x)
inter_silent x = (λ env. refl, params_silent x.params)

-- channels
channel_silent : (c : Channel) → AllSilent (sites.channel c)
channel_silent c = all_flat IsSilent sites.inter_group (λ g. all_flat IsSilent sites.inter inter_silent g.inters) c.groups

-- interaction points
ips_silent : (ps : List IpDecl) → AllSilent (flat_map sites.ip_decl ps)
ips_silent ps = all_flat IsSilent sites.ip_decl (λ p. named_silent (λ env. said.Ip) (λ env. refl) p.names.names) ps

-- module variables
modvars_silent : (ms : List ModvarDecl) → AllSilent (flat_map sites.modvar_decl ms)
modvars_silent ms = all_flat IsSilent sites.modvar_decl (λ m. named_silent (λ env. said.ModuleVariable) (λ env. refl) m.names.names) ms

-- ---- what a header and a routine declare

-- what the types of exported variables declare is declared by the header
exports_in : (by_default : Bool) (x : Header) (d : Declaration) → IsOne d (types_declare (export_sections x)) → IsOne d (header_declares by_default x)
exports_in by_default x d o =
    let A = types_declare (export_sections x) in
    let B = sections_declare (λ known n t. mean.Own n t) 0 (parameter_sections x.params) in
    let C = sections_declare (λ known n t. mean.Exported n t) (count_names (parameter_sections x.params)) (export_sections x) in
    let D = numbered (λ n known. mean.Ip n) 0 (ip_names x.ips) in
    one_front d (A ++ B ++ C ++ D) _ (one_front d (A ++ B ++ C) D (one_front d (A ++ B) C (one_front d A B o)))

-- what the definitions of a routine declare is declared by the routine
definitions_in : (r : Routine) (d : Declaration) → IsOne d (flat_map definitions r.decls) → IsOne d (routine_declares r)
definitions_in r d o =
    let A = flat_map definitions r.decls in
    let B = sections_declare local 0 (value_formals r ++ local_variables r.decls) in
    let C = sections_declare (λ known n t. mean.Var n t) 0 (var_formals r) in
    one_front d (A ++ B ++ C) (declare r.name (routine_meaning r) ∷ []) (one_front d (A ++ B) C (one_front d A B o))

-- ---- what has partners

-- In : what the model declares
module _ (In : Declaration → Type 0) where
  -- the model declares all of these
  abbrev Has : Declarations → Type 0
  Has ds = (d : Declaration) → IsOne d ds → In d

  -- each of these has a partner, or no value
  abbrev Partnered : rules.Declarations → Type 0
  Partnered = AllByRecursion (HasPartner In)

  has_front : (ds es : Declarations) → Has (ds ++ es) → Has ds
  has_front ds es h d o = h d (one_front d ds es o)

  has_back : (ds es : Declarations) → Has (ds ++ es) → Has es
  has_back ds es h d o = h d (one_back d ds es o)

  silent : (rs : rules.Declarations) → AllSilent rs → Partnered rs
  silent [] h = tt
  silent (r ∷ rs) h = (inl h.0, silent rs h.1)

  both : (rs ss : rules.Declarations) → Partnered rs → Partnered ss → Partnered (rs ++ ss)
  both = all_append (HasPartner In)

  -- the model declares these: then the rules declare what has partners
  abbrev Follow : Declarations → rules.Declarations → Type 0
  Follow ds rs = Has ds → Partnered rs

  module _ {A : Type 0} (f : A → Declarations) (g : A → rules.Declarations) where
    follow_each : (xs : List A) → AllByRecursion (λ x. Follow (f x) (g x)) xs → Follow (flat_map f xs) (flat_map g xs)
    follow_each [] h has = tt
    follow_each (x ∷ xs) h has = both (g x) (flat_map g xs) (h.0 (has_front (f x) (flat_map f xs) has)) (follow_each xs h.1 (has_back (f x) (flat_map f xs) has))

  -- parts
  follow_parts : {A : Type 0} (f : A → Declarations) (g : A → Part) (xs : List A) → AllByRecursion (λ x. Follow (f x) (g x).declares) xs → Follow (flat_map f xs) (sites.all_of (map g xs)).declares
  follow_parts f g [] h has = tt
  follow_parts f g (x ∷ xs) h has = both (g x).declares (sites.all_of (map g xs)).declares (h.0 (has_front (f x) (flat_map f xs) has)) (follow_parts f g xs h.1 (has_back (f x) (flat_map f xs) has))

  -- ---- types

  -- the values of an enumeration are partners one by one
  values_follow : (at : Span) (names : List Name) (n : ℕ) (xs : List Name) → Follow (numbered (λ n known. mean.Constant (pascal.Enum n) (enumeration names)) n xs) (type_rules.enumerated at n xs)
  values_follow at names n [] has = tt
  values_follow at names n (x ∷ xs) has = (
    inr (record { says = λ known. mean.Constant (pascal.Enum n) (enumeration names); is_in = has _ (inl refl); alike = λ env meant a. valued_alike (rule.Enumeration at) (pos n) (pascal.Enum n) (ap ordinal_at (pascal.outs-Enum n), λ i. absurd (cc)) }),
    values_follow at names (suc n) xs (λ d o. has d (inr o)),
  )

  ordinal_follows : (o : Ordinal) → Follow (ordinal_declares o) (type_rules.ordinal_declares o)
  ordinal_follows (ordinal.Name x) has = tt
  ordinal_follows (ordinal.Enumeration names span) has = values_follow span names.names 0 names.names has
  ordinal_follows (ordinal.Subrange low high span) has = tt

  ordinals_follow : (os : List Ordinal) → Follow (flat_map ordinal_declares os) (flat_map type_rules.ordinal_declares os)
  ordinals_follow os = follow_each ordinal_declares type_rules.ordinal_declares os (each os)
    where
      each : (os : List Ordinal) → AllByRecursion (λ o. Follow (ordinal_declares o) (type_rules.ordinal_declares o)) os
      each [] = tt
      each (o ∷ os) = (ordinal_follows o, each os)

  -- what a type expression declares for the rules follows what it declares for the model
  abbrev TypeFollows : TypeExpr → Type 0
  TypeFollows x = Follow (typing x).declares (type_rules.typing x).declares

  -- so do names with their type
  abbrev NamesFollow : TypedNames → Type 0
  NamesFollow x = Follow (section x).1.declares (type_rules.section_declares (type_rules.typed_names x))

  module _ (T : Spelling TypeExpr) (follows : AllOf TypeFollows T) where
    typed_follow : AllOf NamesFollow (AreTyped T)
    typed_follow x i j h has =
        let o = out-TypedNames x in
        let u = type_rules.typing o.type_expr in
        subst (λ (s : type_rules.Section). Partnered (type_rules.section_declares s)) (sym (rule_types.section_is x))
        (both u.declares (type_rules.variables (type_rules.type_in u) o.names.names) (follows o.type_expr h.at j h.second (subst (λ (s : Section). Has s.1.declares) (section_is x) has)) (silent _ (variables_silent (type_rules.type_in u) o.names.names)))

    sections_follow : (xs : List TypedNames) → AllByRecursion NamesFollow xs → Follow (types_declare (map section xs)) (flat_map type_rules.section_declares (map type_rules.typed_names xs))
    sections_follow [] h has = tt
    sections_follow (x ∷ xs) h has =
        both (type_rules.section_declares (type_rules.typed_names x)) (flat_map type_rules.section_declares (map type_rules.typed_names xs))
        (h.0 (has_front (section x).1.declares (types_declare (map section xs)) has)) (sections_follow xs h.1 (has_back (section x).1.declares (types_declare (map section xs)) has))

    fields_follow : (fs : Fields) (i j : Input) → AreFields T fs i j → Follow (types_declare (fields fs)) (flat_map type_rules.section_declares (type_rules.fields fs))
    fields_follow fs i j h has =
        let xs = (out-Fields fs).sections in
        subst (λ (ss : List type_rules.Section). Partnered (flat_map type_rules.section_declares ss)) (sym (rule_types.fields_is fs))
        (sections_follow xs (of_separated k.Semicolon typed_follow xs i h.mid h.sections) (subst (λ (ss : List Section). Has (types_declare ss)) (fields_is fs) has))

    layer_follows : (room : ℕ) (l : TypeExprLayer) (i j : Input) → IsTypeLayer room T l i j
        → Follow (type_layer (map-TypeExpr TypeExpr Fields TypedNames Typing (List Section) Section typing fields section l)).declares
        (type_rules.type_layer (map-TypeExpr TypeExpr Fields TypedNames type_rules.Typing (List type_rules.Section) type_rules.Section type_rules.typing type_rules.fields type_rules.typed_names l)).declares
    layer_follows room (TypeExpr-F.Ordinal o) i j h has = ordinal_follows o has
    layer_follows room (TypeExpr-F.Array packed indices component span) i j h has =
        let u = type_rules.typing component in
        let A = flat_map ordinal_declares indices in
        let arrays = type_rules.arrays span indices (type_rules.type_in u) in
        both (flat_map type_rules.ordinal_declares indices) (u.declares ++ arrays) (ordinals_follow indices (has_front A (typing component).declares has))
        (both u.declares arrays (follows component h.1.component.at j h.1.component.item (has_back A (typing component).declares has)) (silent arrays (arrays_silent span indices (type_rules.type_in u))))
    layer_follows room (TypeExpr-F.Fields packed fs span) i j h has =
        fields_follow fs h.1.fields.at h.1.fields.mid h.1.fields.inside (has_front (types_declare (fields fs)) (sections_declare (λ known n t. mean.Field n) 0 (fields fs)) has)
    layer_follows room (TypeExpr-F.Set packed base span) i j h has = ordinal_follows base has

  below_follows : (room : ℕ) → AllOf TypeFollows (TypeBelow room)
  below_follows zero x i j h has = absurd h
  below_follows (suc room) x i j h has =
      subst (λ (u : type_rules.Typing). Partnered u.declares) (sym (rule_types.type_is x))
      (layer_follows (TypeBelow room) (below_follows room) room (out-TypeExpr x) i j h (subst (λ (u : Typing). Has u.declares) (type_is x) has))

  -- ---- definitions

  -- a constant definition is its own partner
  const_def_follows : (d : ConstDef) → Follow (const_def d) (sites.const_def d).declares
  const_def_follows d has = (inr (record { says = λ known. const_meaning known d.value; is_in = has _ (inl refl); alike = λ env meant a. const_alike env meant a d.value }), tt)

  const_defs_follow : (ds : List ConstDef) → Follow (flat_map const_def ds) (sites.all_of (map sites.const_def ds)).declares
  const_defs_follow ds = follow_parts const_def sites.const_def ds (each ds)
    where
      each : (ds : List ConstDef) → AllByRecursion (λ d. Follow (const_def d) (sites.const_def d).declares) ds
      each [] = tt
      each (d ∷ ds) = (const_def_follows d, each ds)

  module _ (room : ℕ) where
    type_def_follows : AllOf (λ d. Follow (type_def d) (sites.type_def d).declares) (IsTypeDef room)
    type_def_follows d i j h has =
        both (type_rules.typing d.type_expr).declares (sites.declare_as (λ env. said.TypeName ((type_rules.typing d.type_expr).denotes env)) d.name ∷ [])
        (below_follows (suc room) d.type_expr h.at j h.second (has_front (typing d.type_expr).declares _ has)) (inl (λ env. refl), tt)

    vars_follow : AllOf NamesFollow (AreVars room)
    vars_follow = typed_follow (IsType room) (below_follows (suc room))

    var_parts_follow : (xs : List TypedNames) → AllByRecursion NamesFollow xs → Follow (types_declare (map section xs)) (sites.all_of (map sites.var_decl xs)).declares
    var_parts_follow [] h has = tt
    var_parts_follow (x ∷ xs) h has =
        both (sites.var_decl x).declares (sites.all_of (map sites.var_decl xs)).declares
        (h.0 (has_front (section x).1.declares (types_declare (map section xs)) has)) (var_parts_follow xs h.1 (has_back (section x).1.declares (types_declare (map section xs)) has))

    definition_follows : AllOf (λ d. Follow (definitions d) (sites.block_decl_part d).declares) (IsBlockDecl room)
    definition_follows (block_decl.Const defs span) i j h = const_defs_follow defs
    definition_follows (block_decl.Types defs span) i j h = follow_parts type_def sites.type_def defs (of_behind (of_lines type_def_follows) defs i j h.0)
    definition_follows (block_decl.Var vars span) i j h = var_parts_follow vars (of_behind (of_lines vars_follow) vars i j h.0)

    -- what definitions declare for the rules
    abbrev defined : List BlockDecl → rules.Declarations
    defined ds = (sites.all_of (map sites.block_decl_part ds)).declares

    definitions_follow : (ds : List BlockDecl) (i j : Input) → Chain (IsBlockDecl room) ds i j → Follow (flat_map definitions ds) (defined ds)
    definitions_follow ds i j h = follow_parts definitions sites.block_decl_part ds (of_chain definition_follows ds i j h)

    -- a routine has no value
    routine_silent : (at : ℕ) (r : Routine) → IsSilent (sites.declare r.name (sites.routine_says at r))
    routine_silent at r env = by r.form
      where
        by : (f : RoutineForm) → constant_value (sites.routine_meaning at f env) ≡ None
        by form.Procedure = refl
        by (form.Function x) = refl

    routine_follows : (at : ℕ) → AllOf (λ r. Follow (flat_map definitions r.decls) (sites.routine at r).declares) (IsRoutine room)
    routine_follows at r i j h has = (
      inl (routine_silent at r),
      both (flat_map sites.formal_variables (sites.formals_of r.formals)) (defined r.decls) (silent _ (formals_silent (sites.formals_of r.formals))) (definitions_follow r.decls h.after_head h.after_decls h.decls has),
    )

    block_follows : AllOf (λ b. Follow (flat_map definitions b.decls) (sites.block b).declares) (IsBlock room)
    block_follows b i j h has = definitions_follow b.decls h.after_label h.after_decls h.decls has

    domains_follow : (ds : List AnyDom) → AllByRecursion (λ (d : AnyDom). Follow (ordinal_declares d.domain) (type_rules.ordinal_declares d.domain)) ds
    domains_follow [] = tt
    domains_follow (d ∷ ds) = (ordinal_follows d.domain, domains_follow ds)

    clause_follows : (c : Clause) → Follow (clause_declares c) (sites.clause_part c).declares
    clause_follows (clause.From states span) has = tt
    clause_follows (clause.To state span) has = tt
    clause_follows (clause.When ip x params span) has = tt
    clause_follows (clause.Provided e span) has = tt
    clause_follows (clause.Priority c span) has = tt
    clause_follows (clause.Any domains span) has =
        both (flat_map (λ (x : AnyDom). type_rules.ordinal_declares x.domain) domains) (flat_map sites.chosen domains)
        (follow_each (λ (d : AnyDom). ordinal_declares d.domain) (λ (x : AnyDom). type_rules.ordinal_declares x.domain) domains (domains_follow domains) has) (silent _ (chosen_silent domains))
    clause_follows (clause.Delay low high span) has = tt

    -- ---- the ways to the blocks

    -- what the clauses, and the blocks on the ways, declare is declared by the model
    abbrev HasClauses : List Clause → Type 0
    HasClauses = AllByRecursion (λ (c : Clause). Has (clause_declares c))

    -- and so is what the blocks on the ways declare
    abbrev HasBlocks : List Way → Type 0
    HasBlocks = AllByRecursion (λ (w : Way). Has (flat_map definitions w.block.decls))

    -- where the model declares what stands in these clauses and blocks, what the rules declare there has partners
    abbrev TransFollows : TransBody → Type 0
    TransFollows x = HasClauses (clauses x) → HasBlocks (ways x) → Partnered (sites.trans_body x).declares

    -- the same of one group of clauses
    abbrev GroupFollows : Group → Type 0
    GroupFollows g = HasClauses (group_clauses g) → HasBlocks (group_ways g) → Partnered (sites.group g).declares

    ways_out : (x : TransBody) → ways x ≡ trans_body_layer (map-TransBody TransBody Group (List Way) (List Way) ways group_ways (out-TransBody x))
    unfolding ways group_ways
    ways_out x = fold_out-TransBody (List Way) (List Way) trans_body_layer group_layer x

    group_out : (g : Group) → group_ways g ≡ map (behind_clause (out-Group g).clause) (ways (out-Group g).body)
    unfolding ways group_ways
    group_out g = fold_out-Group (List Way) (List Way) trans_body_layer group_layer g

    clauses_out : (x : TransBody) → clauses x ≡ clauses_layer (map-TransBody TransBody Group (List Clause) (List Clause) clauses group_clauses (out-TransBody x))
    unfolding clauses group_clauses
    clauses_out x = fold_out-TransBody (List Clause) (List Clause) clauses_layer clause_group_layer x

    group_clauses_out : (g : Group) → group_clauses g ≡ (out-Group g).clause ∷ clauses (out-Group g).body
    unfolding clauses group_clauses
    group_clauses_out g = fold_out-Group (List Clause) (List Clause) clauses_layer clause_group_layer g

    not_behind : (c : Clause) (ws : List Way) → HasBlocks (map (behind_clause c) ws) → HasBlocks ws
    not_behind c [] h = tt
    not_behind c (w ∷ ws) h = (h.0, not_behind c ws h.1)

    groups_follow : (gs : List Group) → AllByRecursion GroupFollows gs → HasClauses (flat_map (λ cs. cs) (map group_clauses gs)) → HasBlocks (flat_map (λ ws. ws) (map group_ways gs)) → Partnered (sites.all_of (map sites.group gs)).declares
    groups_follow [] h c b = tt
    groups_follow (g ∷ gs) h c b =
        let C = flat_map (λ (cs : List Clause). cs) (map group_clauses gs) in
        let W = flat_map (λ (ws : List Way). ws) (map group_ways gs) in
        both (sites.group g).declares (sites.all_of (map sites.group gs)).declares
        (h.0 (all_front (λ (c : Clause). Has (clause_declares c)) (group_clauses g) C c) (all_front (λ (w : Way). Has (flat_map definitions w.block.decls)) (group_ways g) W b))
        (groups_follow gs h.1 (all_back (λ (c : Clause). Has (clause_declares c)) (group_clauses g) C c) (all_back (λ (w : Way). Has (flat_map definitions w.block.decls)) (group_ways g) W b))

    module _ (G : List Kind → Spelling Group) (follows : (way : List Kind) → AllOf GroupFollows (G way)) where
      more_follow : (way : List Kind) (before : Group) → AllOf (AllByRecursion GroupFollows) (MoreGroups room G way before)
      more_follow way before [] i j h = tt
      more_follow way before (g ∷ gs) i j h = (follows way g i h.1.0 h.1.1, more_follow way g gs h.1.0 j h.1.2)

      all_groups_follow : (way : List Kind) → AllOf (AllByRecursion GroupFollows) (AreGroups room G way)
      all_groups_follow way [] i j h = absurd h
      all_groups_follow way (g ∷ gs) i j h = (follows way g i h.0 h.1, more_follow way g gs h.0 j h.2)

      trans_layer_follows : (way : List Kind) (l : TransBodyLayer) (i j : Input) → TransBodyLayerOf room G way l i j
          → HasClauses (clauses_layer (map-TransBody TransBody Group (List Clause) (List Clause) clauses group_clauses l)) → HasBlocks (trans_body_layer (map-TransBody TransBody Group (List Way) (List Way) ways group_ways l))
          → Partnered (sites.trans_body_layer (map-TransBody TransBody Group Part Part sites.trans_body sites.group l)).declares
      trans_layer_follows way (TransBody-F.Block b) i j h c w = block_follows b i j h w.0
      trans_layer_follows way (TransBody-F.Groups gs span) i j h c w = groups_follow gs (all_groups_follow way gs i j h.0) c w

      trans_body_follows : (way : List Kind) → AllOf TransFollows (TransBodyOf room G way)
      trans_body_follows way x i j h c w =
          subst (λ (p : Part). Partnered p.declares) (sym (ruled.trans_body_is x)) (trans_layer_follows way (out-TransBody x) i j h (subst HasClauses (clauses_out x) c) (subst HasBlocks (ways_out x) w))

      group_of_follows : (way : List Kind) → AllOf GroupFollows (GroupOf room G way)
      group_of_follows way g i j h c w =
          let o = out-Group g in
          let cs = subst HasClauses (group_clauses_out g) c in
          subst (λ (p : Part). Partnered p.declares) (sym (ruled.group_is g))
          (both (sites.clause_part o.clause).declares (sites.trans_body o.body).declares (clause_follows o.clause cs.0)
          (trans_body_follows (way_of way g) o.body h.mid j h.body cs.1 (not_behind o.clause (ways o.body) (subst HasBlocks (group_out g) w))))

    group_follows : (n : ℕ) (way : List Kind) → AllOf GroupFollows (GroupWithin room n way)
    group_follows zero way g i j h = absurd h
    group_follows (suc n) way g i j h = group_of_follows (GroupWithin room n) (group_follows n) way g i j h

    trans_follows : AllOf (λ t. TransFollows t.body) (IsTrans room)
    trans_follows t i j h = of_behind (trans_body_follows (GroupWithin room (length clause_kinds)) (group_follows (length clause_kinds)) []) t.body i j h.body

    all_trans_follow : (ts : List Trans) (i j : Input) → Chain (IsTrans room) ts i j → HasClauses (flat_map (λ t. clauses t.body) ts) → HasBlocks (flat_map (λ t. ways t.body) ts) → Partnered (flat_map (λ t. (sites.trans_body t.body).declares) ts)
    all_trans_follow [] i j h c w = tt
    all_trans_follow (t ∷ ts) i j h c w =
        let C = flat_map (λ (t : Trans). clauses t.body) ts in
        let W = flat_map (λ (t : Trans). ways t.body) ts in
        both (sites.trans_body t.body).declares (flat_map (λ t. (sites.trans_body t.body).declares) ts)
        (trans_follows t i h.0 h.1 (all_front (λ (c : Clause). Has (clause_declares c)) (clauses t.body) C c) (all_front (λ (w : Way). Has (flat_map definitions w.block.decls)) (ways t.body) W w))
        (all_trans_follow ts h.0 j h.2 (all_back (λ (c : Clause). Has (clause_declares c)) (clauses t.body) C c) (all_back (λ (w : Way). Has (flat_map definitions w.block.decls)) (ways t.body) W w))

    init_follows : (o : Option Init) (i j : Input) → Optional (IsInit room) o i j → AllByRecursion (λ (x : Init). Has (flat_map definitions x.block.decls)) (option_to_list o) → Partnered (sites.init_part o).declares
    init_follows None i j h has = tt
    init_follows (Some x) i j h has = block_follows x.block h.mid j h.block has.0

    -- ---- headers

    -- of a header only the types of exported variables declare constants
    header_follows : AllOf (λ x. Follow (types_declare (map section x.exports)) (sites.header x).declares) (IsHeader room)
    header_follows x i j h has = (
      inl (λ env. refl),
      both (sites.params_declare x.params) (flat_map sites.ip_decl x.ips ++ (sites.all_of (map sites.var_decl x.exports)).declares) (silent _ (params_silent x.params))
          (both (flat_map sites.ip_decl x.ips) (sites.all_of (map sites.var_decl x.exports)).declares (silent _ (ips_silent x.ips))
          (var_parts_follow x.exports (of_may_be_lines k.Export vars_follow x.exports h.after_ips h.after_exports h.exports) has)),
    )

  -- ---- bodies

  each_has : {A : Type 0} (f : A → Declarations) (xs : List A) → Has (flat_map f xs) → AllByRecursion (λ x. Has (f x)) xs
  each_has f [] h = tt
  each_has f (x ∷ xs) h = (has_front (f x) (flat_map f xs) h, each_has f xs (has_back (f x) (flat_map f xs) h))

  inits_have : (xs : List Init) → Has (flat_map (λ (i : Init). block_declares [] i.block) xs) → AllByRecursion (λ (x : Init). Has (flat_map definitions x.block.decls)) xs
  inits_have [] h = tt
  inits_have (x ∷ xs) h = let B = block_declares [] x.block in let M = flat_map (λ (i : Init). block_declares [] i.block) xs in (has_front (flat_map definitions x.block.decls) _ (has_front B M h), inits_have xs (has_back B M h))

  blocks_have : (ws : List Way) → Has (flat_map (λ (w : Way). block_declares w.clauses w.block) ws) → AllByRecursion (λ (w : Way). Has (flat_map definitions w.block.decls)) ws
  blocks_have [] h = tt
  blocks_have (w ∷ ws) h = let B = block_declares w.clauses w.block in let M = flat_map (λ (w : Way). block_declares w.clauses w.block) ws in (has_front (flat_map definitions w.block.decls) _ (has_front B M h), blocks_have ws (has_back B M h))

  module _ (by_default : Bool) where
    -- what stands between `specification` and its end, or in a body, with the bodies in it
    abbrev PartsFollow : Parts → Type 0
    PartsFollow p = (n : ℕ) (title header : Option Name) (at : ℕ) → Follow (bodies_declare n (standing by_default title header p ∷ inner_of by_default p)) ((sites.parts p).declares at)

    -- one declaration, with the bodies in it
    abbrev DeclFollows : Decl → Type 0
    DeclFollows d = (n at : ℕ) → Has (names_of by_default d) → Has (bodies_declare n (flat_map (stand.body by_default) (bodies_of d))) → Partnered ((sites.decl d).declares at)

    module _ (room : ℕ) (P : Spelling Parts) (all : AllOf PartsFollow P) where
      decl_layer_follows : (l : DeclLayer) (i j : Input) → DeclLayerOf room P l i j → (n at : ℕ) → Has (names_at by_default l) → Has (bodies_declare n (flat_map (stand.body by_default) (bodies_at l)))
          → Partnered ((sites.decl_layer (map-Decl Decl Body Parts PlacedPart PlacedPart PlacedPart sites.decl sites.body sites.parts l)).declares at)
      decl_layer_follows (Decl-F.Const defs span) i j h n at own inside = const_defs_follow defs own
      decl_layer_follows (Decl-F.Types defs span) i j h n at own inside = follow_parts type_def sites.type_def defs (of_behind (of_lines (type_def_follows room)) defs i j h.0) own
      decl_layer_follows (Decl-F.Channel c) i j h n at own inside = silent _ (channel_silent c)
      decl_layer_follows (Decl-F.Header x) i j h n at own inside = header_follows room x i j h (λ d o. own d (exports_in by_default x d o))
      decl_layer_follows (Decl-F.Body b) i j h n at own inside =
          let o = out-Body b in
          subst Partnered (sym (ruled.body_declares b at)) (
            inl (λ env. refl),
            all o.parts h.after_head h.after_parts h.parts n (Some o.name) (Some o.header) o.span.start
                (subst (λ bs. Has (bodies_declare n bs)) (body_is by_default b) (λ d x. inside d (subst (IsOne d) (sym (bodies-append n (stand.body by_default b) [])) (one_front d (bodies_declare n (stand.body by_default b)) _ x)))),
          )
      decl_layer_follows (Decl-F.Ip ips span) i j h n at own inside = silent _ (ips_silent ips)
      decl_layer_follows (Decl-F.Modvar ms span) i j h n at own inside = silent _ (modvars_silent ms)
      decl_layer_follows (Decl-F.Var vars span) i j h n at own inside = var_parts_follow room vars (of_behind (of_lines (vars_follow room)) vars i j h.0) own
      decl_layer_follows (Decl-F.State states span) i j h n at own inside = tt
      decl_layer_follows (Decl-F.Stateset sets span) i j h n at own inside = tt
      decl_layer_follows (Decl-F.Routine r) i j h n at own inside = routine_follows room at r i j h (λ d o. own d (definitions_in r d o))

      decl_follows : AllOf DeclFollows (DeclOf room P)
      decl_follows d i j h n at own inside = subst (λ (p : PlacedPart). Partnered (p.declares at)) (sym (ruled.decl_is d)) (decl_layer_follows (out-Decl d) i j h n at own inside)

      decls_follow : (ds : List Decl) → AllByRecursion DeclFollows ds → (n at : ℕ) → Has (flat_map (names_of by_default) ds) → Has (bodies_declare n (inner by_default ds)) → Partnered (flat_map (λ d. (sites.decl d).declares at) ds)
      decls_follow [] h n at own inside = tt
      decls_follow (d ∷ ds) h n at own inside =
          let B = flat_map (stand.body by_default) (bodies_of d) in
          let N = names_of by_default d in
          let M = flat_map (names_of by_default) ds in
          let apart = subst Has (bodies-append n B (inner by_default ds)) inside in
          both ((sites.decl d).declares at) (flat_map (λ d. (sites.decl d).declares at) ds)
          (h.0 n at (has_front N M own) (has_front (bodies_declare n B) (bodies_declare (n + length B) (inner by_default ds)) apart))
          (decls_follow ds h.1 (n + length B) at (has_back N M own) (has_back (bodies_declare n B) (bodies_declare (n + length B) (inner by_default ds)) apart))

      parts_of_follow : AllOf PartsFollow (PartsOf room P)
      parts_of_follow p i j h n title header at has =
          let o = out-Parts p in
          let s = standing by_default title header p in
          let S = numbered (λ n known. mean.State n) 0 (states_in s) in
          let B = flat_map (λ (c : Contribution). c.names) s.brought in
          let V = sections_declare (λ known n t. mean.Own (own_from known s + n) t) 0 (variables_in s) in
          let M = numbered (λ n known. mean.Module n) 0 (module_variables_in s) in
          let Q = numbered (λ n known. mean.Ip (length (heading known s.header).ips + n)) 0 (ip_names (ips_in s)) in
          let I = flat_map (λ (i : Init). block_declares [] i.block) (option_to_list o.init) in
          let C = flat_map clause_declares (clauses_in s) in
          let W = flat_map (λ (w : Way). block_declares w.clauses w.block) (ways_of s) in
          let h0 : Has (S ++ B ++ V ++ M ++ Q ++ I ++ C ++ W ++ name_declares n title) = has_front (body_declares n s) (bodies_declare (suc n) (inner_of by_default p)) has in
          let h1 = has_front (S ++ B ++ V ++ M ++ Q ++ I ++ C ++ W) (name_declares n title) h0 in
          let h2 = has_front (S ++ B ++ V ++ M ++ Q ++ I ++ C) W h1 in
          let h3 = has_front (S ++ B ++ V ++ M ++ Q ++ I) C h2 in
          let h4 = has_front (S ++ B ++ V ++ M ++ Q) I h3 in
          let h5 = has_front (S ++ B ++ V ++ M) Q h4 in
          let h6 = has_front (S ++ B ++ V) M h5 in
          let h7 = has_front (S ++ B) V h6 in
          let own = subst Has (flat_map-map (λ (c : Contribution). c.names) (brought_of by_default) o.decls) (has_back S B h7) in
          let ruled_decls = flat_map (λ d. (sites.decl d).declares at) o.decls in
          let ruled_init = (sites.init_part o.init).declares in
          let ruled_trans = flat_map (λ t. (sites.trans_body t.body).declares) o.trans in
          subst Partnered (sym (ruled.parts_declare p at))
          (both ruled_decls (ruled_init ++ ruled_trans)
          (decls_follow o.decls (of_chain decl_follows o.decls i h.after_decls h.decls) (suc n) at own (has_back (body_declares n s) (bodies_declare (suc n) (inner_of by_default p)) has))
          (both ruled_init ruled_trans (init_follows room o.init h.after_decls h.after_init h.init (inits_have (option_to_list o.init) (has_back (S ++ B ++ V ++ M ++ Q) I h3)))
          (all_trans_follow room o.trans h.after_init j h.trans (each_has clause_declares (clauses_in s) (has_back (S ++ B ++ V ++ M ++ Q ++ I) C h2)) (blocks_have (ways_of s) (has_back (S ++ B ++ V ++ M ++ Q ++ I ++ C) W h1)))))

    parts_below_follow : (room : ℕ) → AllOf PartsFollow (PartsBelow room)
    parts_below_follow zero p i j h = absurd h
    parts_below_follow (suc room) p i j h = parts_of_follow room (PartsBelow room) (parts_below_follow room) p i j h

  -- what a specification declares for the rules has partners in what it declares for the model
  pub specification_follows : (spec : Spec) (tokens : List PlacedToken) → Spells spec tokens → (at : ℕ) → Follow (bodies_declare 0 (bodies spec)) ((sites.parts spec.parts).declares at)
  specification_follows spec tokens spells at has =
      let h = spells.whole in
      let d = default_of spec.heads in
      parts_below_follow d (suc max_nesting) spec.parts h.after_heads h.after_parts h.parts 0 None None at (subst (λ bs. Has (bodies_declare 0 bs)) (parts_is d spec.parts) has)
