-- What names mean: a routine is one of the tree, of which something is told.
use Rattle.std.proofs.Common.{◌≡◌, ◌∙◌, ℕ, suc, ◌+◌, Bool, true, false, List, [], ◌∷◌, ◌++◌, length, map, Result, Ok, Err, Option, Some, None, refl, sym, ap, subst, cond}
use Rattle.std.specs.Prelude.{option_to_list, option_map, nat_eq, fold, is_some, if◌then◌else◌}
use Rattle.std.specs.List.{flat_map}
use Rattle.std.specs.Str.{bytes_eq}
use Rattle.std.specs.Map.{lookup}
use Rattle.std.proofs.lemmas.Bool.Decides.{Decides-eqb}
use Rattle.pascal_values.specs.declared.value.Value.{Value}
use Rattle.pascal_values.specs.declared.value.Value.TheVariants as pascal
use Rattle.estelle_tree.specs.declared.span.Span.{Span}
use Rattle.estelle_tree.specs.declared.names.Use.{Use}
use Rattle.estelle_tree.specs.declared.required.RequiredIdentifier.{RequiredIdentifier}
use Rattle.estelle_tree.specs.declared.required.RequiredIdentifier.TheVariants as identifier
use Rattle.estelle_tree.specs.Required.{identifiers}
use Rattle.estelle_tree.specs.declared.tree.name.Name.{Name}
use Rattle.estelle_tree.specs.declared.tree.type_expr.Ordinal.{Ordinal}
use Rattle.estelle_tree.specs.declared.tree.type_expr.Ordinal.TheVariants as ordinal
use Rattle.estelle_tree.specs.declared.tree.type_expr.TypeExpr.{TypeExpr, roll-TypeExpr, map-TypeExpr}
use Rattle.estelle_tree.specs.declared.tree.type_expr.TypeExpr.TheOpen.{TypeExpr-F, Fields-F, TypedNames-F}
use Rattle.estelle_tree.specs.declared.tree.type_expr.TypeExpr.TheFolds.{map-Fields, map-TypedNames, ind-TypeExpr}
use Rattle.estelle_tree.specs.declared.tree.type_expr.TypeExpr.TheViews.{out-roll-TypeExpr, out-roll-Fields, out-roll-TypedNames}
use Rattle.estelle_tree.specs.declared.tree.type_expr.Fields.{Fields, roll-Fields}
use Rattle.estelle_tree.specs.declared.tree.type_expr.TypedNames.{TypedNames, out-TypedNames, roll-TypedNames}
use Rattle.estelle_tree.specs.declared.tree.declaration.ConstDef.{ConstDef}
use Rattle.estelle_tree.specs.declared.tree.declaration.TypeDef.{TypeDef}
use Rattle.estelle_tree.specs.declared.tree.declaration.BlockDecl.{BlockDecl}
use Rattle.estelle_tree.specs.declared.tree.declaration.BlockDecl.TheVariants as block_decl
use Rattle.estelle_tree.specs.declared.tree.declaration.Routine.{Routine as RoutineTree}
use Rattle.estelle_tree.specs.declared.tree.declaration.RoutineForm.{RoutineForm}
use Rattle.estelle_tree.specs.declared.tree.declaration.RoutineForm.TheVariants as form
use Rattle.estelle_tree.specs.declared.tree.clause.Block.{Block}
use Rattle.estelle_tree.specs.declared.tree.clause.AnyDom.{AnyDom}
use Rattle.estelle_tree.specs.declared.tree.clause.Clause.{Clause}
use Rattle.estelle_tree.specs.declared.tree.specification.Channel.{Channel as ChannelTree}
use Rattle.estelle_tree.specs.declared.tree.specification.Inter.{Inter}
use Rattle.estelle_tree.specs.declared.tree.specification.Header.{Header as HeaderTree}
use Rattle.estelle_tree.specs.declared.tree.specification.StatesetDef.{StatesetDef}
use Rattle.estelle_tree.specs.declared.tree.specification.Init.{Init}
use Rattle.estelle_model.specs.Stops.{Stop}
use Rattle.estelle_model.specs.declared.denoter.Host.{Host}
use Rattle.estelle_model.specs.declared.denoter.Denoter.{Denoter}
use Rattle.estelle_model.specs.declared.meaning.Meaning.{Meaning}
use Rattle.estelle_model.specs.declared.meaning.Meaning.TheVariants as mean
use Rattle.estelle_model.specs.declared.meaning.Routine.{Routine}
use Rattle.estelle_model.specs.declared.meaning.Senders.{Senders}
use Rattle.estelle_model.specs.Meant.{Meanings}
use Rattle.estelle_model.specs.Constants.{constant_of, host_of_const, defined}
use Rattle.estelle_model.specs.Denoted.{Declaration, Declarations, declare, numbered, enumeration, ordinal_declares, Typing, Section, rising, section_types, count_names, types_declare, sections_declare, type_layer, typing, section}
use Rattle.estelle_model.specs.Definitions.{const_def, type_def, definitions, local, local_variables, value_formals, var_formals, result_type, routine_meaning, routine_declares, parameter_sections, inter_declares, group_declares, senders, channel_declares, received, domains_of, clause_declares, block_declares}
use Rattle.estelle_model.specs.Bodies.{Way, attribute_of, interaction_points, Contribution, BodyAlone, heading, header_declares, export_sections, ip_names, stateset_declares, states_in, variables_in, module_variables_in, ips_in, own_from, clauses_in, ways_of, name_declares, body_declares, bodies_declare}
use Rattle.estelle_model.specs.Names.{meaning_of_required, or_other, required_meaning, Declared, at_place, meaning_at, declaration_of, meant_by, with_one, with_all}
use Rattle.estelle_model.specs.Transitions.{Choice, with_choices}
use Rattle.type_rules.specs.SpecificationSites.{is_function as is_function_form}
use Rattle.meaning_table.proofs.TypeEquations.{fields, type_is, fields_is, section_is}
use Rattle.body_table.specs.Contributions.{names_at}
use Rattle.estelle_tree.specs.Spans.{DeclLayer}
use Rattle.estelle_tree.specs.declared.tree.specification.Decl.TheOpen.{Decl-F}
use Rattle.guards_seen.specs.Quiet.{is_function}
use Rattle.accepted_states.proofs.Lists.{Each, each_append}

each_flat : {A B : Type 0} (P : B → Type 0) (f : A → List B) → ((a : A) → Each P (f a)) → (xs : List A) → Each P (flat_map f xs)
each_flat P f h [] = tt
each_flat P f h (x ∷ xs) = each_append P (f x) (flat_map f xs) (h x) (each_flat P f h xs)

each_flat_of : {A B : Type 0} (Q : A → Type 0) (P : B → Type 0) (f : A → List B) → ((a : A) → Q a → Each P (f a)) → (xs : List A) → Each Q xs → Each P (flat_map f xs)
each_flat_of Q P f h [] k = tt
each_flat_of Q P f h (x ∷ xs) k = each_append P (f x) (flat_map f xs) (h x k.0) (each_flat_of Q P f h xs k.1)

-- no required identifier is a routine
no_routine : (w : List ℕ) (r : Routine) (rs : List (List ℕ × RequiredIdentifier)) → or_other (lookup (bytes_eq w) (map (λ (e : List ℕ × RequiredIdentifier). (e.0, meaning_of_required e.1)) rs)) ≡ mean.Called r → ⊥
no_routine w r [] e = cc
no_routine w r (x ∷ xs) e = by (bytes_eq w x.0) (no_routine w r xs) e
  where
    none : (i : RequiredIdentifier) → meaning_of_required i ≡ mean.Called r → ⊥
    none identifier.Integer e = cc
    none identifier.Boolean e = cc
    none identifier.Char e = cc
    none identifier.False e = cc
    none identifier.True e = cc
    none identifier.Maxint e = cc
    none (identifier.Function f) e = cc

    by : (b : Bool) → (or_other (lookup (bytes_eq w) (map (λ (e : List ℕ × RequiredIdentifier). (e.0, meaning_of_required e.1)) xs)) ≡ mean.Called r → ⊥)
        → or_other (cond b (Some (meaning_of_required x.1)) (lookup (bytes_eq w) (map (λ (e : List ℕ × RequiredIdentifier). (e.0, meaning_of_required e.1)) xs))) ≡ mean.Called r → ⊥
    by true rest e = none x.1 e
    by false rest e = rest e

-- T : what is told of a routine of the tree
module _ (T : RoutineTree → Type 0) where
  -- it is a routine of the tree that is declared at a place, of which this is told
  pub record IsOfTree (r : Routine) (p : ℕ) : Type 0 where
    pub tree : RoutineTree
    pub told : T tree
    pub at : p ≡ tree.name.span.start
    pub body : r.body ≡ tree.body
    pub form : is_function r ≡ is_function_form tree.form

  abbrev pub Tells : ℕ → Meaning → Type 0
  Tells p (mean.Called r) = IsOfTree r p
  Tells p _ = Unit {0}

  abbrev pub TellsAt : ℕ × Meaning → Type 0
  TellsAt e = Tells e.0 e.1

  abbrev pub SaysTold : Declaration → Type 0
  SaysTold d = (known : Meanings) → Each TellsAt (d.says known)

  abbrev pub AllSay : Declarations → Type 0
  AllSay = Each SaysTold

  both : (ds es : Declarations) → AllSay ds → AllSay es → AllSay (ds ++ es)
  both = each_append SaysTold

  -- ---- one after another

  numbered_say : (says : ℕ → Meanings → Meaning) → ((n : ℕ) (known : Meanings) (p : ℕ) → Tells p (says n known)) → (n : ℕ) (xs : List Name) → AllSay (numbered says n xs)
  numbered_say says h n [] = tt
  numbered_say says h n (x ∷ xs) = (λ known. (h n known x.span.start, tt), numbered_say says h (suc n) xs)

  rising_told : (says : ℕ → Meaning) → ((n p : ℕ) → Tells p (says n)) → (n : ℕ) (xs : List Name) → Each TellsAt (rising says n xs)
  rising_told says h n [] = tt
  rising_told says h n (x ∷ xs) = (h n x.span.start, rising_told says h (suc n) xs)

  sections_say : (says : Meanings → ℕ → Denoter → Meaning) → ((known : Meanings) (n : ℕ) (t : Denoter) (p : ℕ) → Tells p (says known n t)) → (n : ℕ) (ss : List Section) → AllSay (sections_declare says n ss)
  sections_say says h n [] = tt
  sections_say says h n (s ∷ ss) = (λ known. rising_told (λ j. says known j (s.1.denotes known)) (λ j p. h known j (s.1.denotes known) p) n s.0, sections_say says h (n + length s.0) ss)

  -- ---- types

  ordinal_says : (o : Ordinal) → AllSay (ordinal_declares o)
  ordinal_says (ordinal.Name x) = tt
  ordinal_says (ordinal.Enumeration names span) = numbered_say (λ n known. mean.Constant (pascal.Enum n) (enumeration names.names)) (λ n known p. tt) 0 names.names
  ordinal_says (ordinal.Subrange low high span) = tt

  abbrev TypeSays : TypeExpr → Type 0
  TypeSays x = AllSay (typing x).declares

  abbrev FieldsSay : Fields → Type 0
  FieldsSay x = AllSay (types_declare (fields x))

  abbrev NamesSay : TypedNames → Type 0
  NamesSay x = AllSay (section x).1.declares

  abbrev ShownType : Type 0
  ShownType = (x : TypeExpr) × TypeSays x

  abbrev ShownFields : Type 0
  ShownFields = (x : Fields) × FieldsSay x

  abbrev ShownNames : Type 0
  ShownNames = (x : TypedNames) × NamesSay x

  abbrev opened_type : TypeExpr-F ShownType ShownFields ShownNames → TypeExpr-F TypeExpr Fields TypedNames
  opened_type y = map-TypeExpr ShownType ShownFields ShownNames TypeExpr Fields TypedNames (λ e. e.0) (λ e. e.0) (λ e. e.0) y

  abbrev opened_fields : Fields-F ShownType ShownFields ShownNames → Fields-F TypeExpr Fields TypedNames
  opened_fields y = map-Fields ShownType ShownFields ShownNames TypeExpr Fields TypedNames (λ e. e.0) (λ e. e.0) (λ e. e.0) y

  abbrev opened_names : TypedNames-F ShownType ShownFields ShownNames → TypedNames-F TypeExpr Fields TypedNames
  opened_names y = map-TypedNames ShownType ShownFields ShownNames TypeExpr Fields TypedNames (λ e. e.0) (λ e. e.0) (λ e. e.0) y

  abbrev typing_at : TypeExpr-F TypeExpr Fields TypedNames → Typing
  typing_at l = type_layer (map-TypeExpr TypeExpr Fields TypedNames Typing (List Section) Section typing fields section l)

  layer_says : (y : TypeExpr-F ShownType ShownFields ShownNames) → AllSay (typing_at (opened_type y)).declares
  layer_says (TypeExpr-F.Ordinal o) = ordinal_says o
  layer_says (TypeExpr-F.Array packed indices component span) = both (flat_map ordinal_declares indices) (typing component.0).declares (each_flat SaysTold ordinal_declares ordinal_says indices) component.1
  layer_says (TypeExpr-F.Fields packed fs span) = both (types_declare (fields fs.0)) (sections_declare (λ known n t. mean.Field n) 0 (fields fs.0)) fs.1 (sections_say (λ known n t. mean.Field n) (λ known n t p. tt) 0 (fields fs.0))
  layer_says (TypeExpr-F.Set packed base span) = ordinal_says base

  sections_shown : (xs : List ShownNames) → AllSay (types_declare (map section (map (λ e. e.0) xs)))
  sections_shown [] = tt
  sections_shown (x ∷ xs) = both (section x.0).1.declares (types_declare (map section (map (λ e. e.0) xs))) x.1 (sections_shown xs)

  type_shown : (x : TypeExpr-F TypeExpr Fields TypedNames) (y : TypeExpr-F ShownType ShownFields ShownNames) → opened_type y ≡ x → TypeSays (roll-TypeExpr x)
  type_shown x y is = subst (λ (z : TypeExpr-F TypeExpr Fields TypedNames). TypeSays (roll-TypeExpr z)) is
      (subst (λ (t : Typing). AllSay t.declares) (sym (type_is (roll-TypeExpr (opened_type y)) ∙ ap typing_at (out-roll-TypeExpr (opened_type y)))) (layer_says y))

  fields_shown : (x : Fields-F TypeExpr Fields TypedNames) (y : Fields-F ShownType ShownFields ShownNames) → opened_fields y ≡ x → FieldsSay (roll-Fields x)
  fields_shown x y is = subst (λ (z : Fields-F TypeExpr Fields TypedNames). FieldsSay (roll-Fields z)) is
      (subst (λ (ss : List Section). AllSay (types_declare ss)) (sym (fields_is (roll-Fields (opened_fields y)) ∙ ap (λ (l : Fields-F TypeExpr Fields TypedNames). map section l.sections) (out-roll-Fields (opened_fields y)))) (sections_shown y.sections))

  names_shown : (x : TypedNames-F TypeExpr Fields TypedNames) (y : TypedNames-F ShownType ShownFields ShownNames) → opened_names y ≡ x → NamesSay (roll-TypedNames x)
  names_shown x y is = subst (λ (z : TypedNames-F TypeExpr Fields TypedNames). NamesSay (roll-TypedNames z)) is
      (subst (λ (s : Section). AllSay s.1.declares) (sym (section_is (roll-TypedNames (opened_names y)) ∙ ap (λ (l : TypedNames-F TypeExpr Fields TypedNames). (l.names.names, typing l.type_expr)) (out-roll-TypedNames (opened_names y)))) y.type_expr.1)

  type_says : (x : TypeExpr) → AllSay (typing x).declares
  type_says = ind-TypeExpr TypeSays FieldsSay NamesSay type_shown fields_shown names_shown

  section_says : (x : TypedNames) → AllSay (section x).1.declares
  section_says x = subst (λ (s : Section). AllSay s.1.declares) (sym (section_is x)) (type_says (out-TypedNames x).type_expr)

  types_say : (xs : List TypedNames) → AllSay (types_declare (map section xs))
  types_say [] = tt
  types_say (x ∷ xs) = both (section x).1.declares (types_declare (map section xs)) (section_says x) (types_say xs)

  -- ---- definitions, routines, blocks and clauses

  defined_told : (p : ℕ) (h : Host) (r : Result Value Stop) → Tells p (defined h r)
  defined_told p h (Ok v) = tt
  defined_told p h (Err e) = tt

  const_says : (x : ConstDef) → AllSay (const_def x)
  const_says x = (λ known. (defined_told x.name.span.start (host_of_const known x.value) (constant_of known x.value), tt), tt)

  type_def_says : (x : TypeDef) → AllSay (type_def x)
  type_def_says x = both (typing x.type_expr).declares (declare x.name (λ known. mean.TypeName ((typing x.type_expr).denotes known)) ∷ []) (type_says x.type_expr) (λ known. (tt, tt), tt)

  definition_says : (x : BlockDecl) → AllSay (definitions x)
  definition_says (block_decl.Const defs span) = each_flat SaysTold const_def const_says defs
  definition_says (block_decl.Types defs span) = each_flat SaysTold type_def type_def_says defs
  definition_says (block_decl.Var vars span) = types_say vars

  same_form : (known : Meanings) (f : RoutineForm) → is_some (result_type known f) ≡ is_function_form f
  same_form known form.Procedure = refl
  same_form known (form.Function x) = refl

  routine_says : (r : RoutineTree) → T r → AllSay (routine_declares r)
  routine_says r told =
      let A = flat_map definitions r.decls in
      let B = sections_declare local 0 (value_formals r ++ local_variables r.decls) in
      let C = sections_declare (λ known n t. mean.Var n t) 0 (var_formals r) in
      both (A ++ B ++ C) (declare r.name (routine_meaning r) ∷ [])
      (both (A ++ B) C (both A B (each_flat SaysTold definitions definition_says r.decls) (sections_say local (λ known n t p. tt) 0 (value_formals r ++ local_variables r.decls))) (sections_say (λ known n t. mean.Var n t) (λ known n t p. tt) 0 (var_formals r)))
      (λ known. (record { tree = r; told = told; at = refl; body = refl; form = same_form known r.form }, tt), tt)

  block_says : (cs : List Clause) (b : Block) → AllSay (block_declares cs b)
  block_says cs b = both (flat_map definitions b.decls) (sections_declare (λ known n t. mean.Local (length (received known cs) + n) t) 0 (local_variables b.decls)) (each_flat SaysTold definitions definition_says b.decls) (sections_say (λ known n t. mean.Local (length (received known cs) + n) t) (λ known n t p. tt) 0 (local_variables b.decls))

  clause_says : (c : Clause) → AllSay (clause_declares c)
  clause_says c = each_flat SaysTold (λ (d : AnyDom). ordinal_declares d.domain) (λ d. ordinal_says d.domain) (domains_of c)

  -- ---- channels, headers and state sets

  inter_says : (channel : ℕ) (by : Senders) (x : Inter) → AllSay (inter_declares channel by x)
  inter_says channel by x = both (sections_declare local 0 (parameter_sections x.params)) (declare x.name (λ known. mean.Interaction (record { channel = channel; word = x.name.word; senders = by; parameters = section_types known (parameter_sections x.params) })) ∷ []) (sections_say local (λ known n t p. tt) 0 (parameter_sections x.params)) (λ known. (tt, tt), tt)

  channel_says : (c : ChannelTree) → AllSay (channel_declares c)
  channel_says c = (λ known. (tt, tt), (λ known. (tt, tt), (λ known. (tt, tt), each_flat SaysTold (group_declares c) (λ g. each_flat SaysTold (inter_declares c.name.span.start (senders c g)) (inter_says c.name.span.start (senders c g)) g.inters) c.groups)))

  header_says : (by_default : Bool) (h : HeaderTree) → AllSay (header_declares by_default h)
  header_says by_default h =
      let A = types_declare (export_sections h) in
      let B = sections_declare (λ known n t. mean.Own n t) 0 (parameter_sections h.params) in
      let C = sections_declare (λ known n t. mean.Exported n t) (count_names (parameter_sections h.params)) (export_sections h) in
      let D = numbered (λ n known. mean.Ip n) 0 (ip_names h.ips) in
      both (A ++ B ++ C ++ D) (declare h.name (λ known. mean.Header (record {
        at = h.name.span.start;
        attribute = option_map attribute_of h.attr;
        parameters = section_types known (parameter_sections h.params);
        exports = section_types known (export_sections h);
        ips = interaction_points known by_default true h.ips;
      })) ∷ [])
      (both (A ++ B ++ C) D
      (both (A ++ B) C (both A B (types_say h.exports) (sections_say (λ known n t. mean.Own n t) (λ known n t p. tt) 0 (parameter_sections h.params)))
      (sections_say (λ known n t. mean.Exported n t) (λ known n t p. tt) (count_names (parameter_sections h.params)) (export_sections h)))
      (numbered_say (λ n known. mean.Ip n) (λ n known p. tt) 0 (ip_names h.ips)))
      (λ known. (tt, tt), tt)

  statesets_say : (xs : List StatesetDef) → AllSay (map stateset_declares xs)
  statesets_say [] = tt
  statesets_say (x ∷ xs) = (λ known. (tt, tt), statesets_say xs)

  -- ---- bodies

  -- of a routine that is declared there this is told
  abbrev pub RoutineTold : DeclLayer → Type 0
  RoutineTold (Decl-F.Routine r) = T r
  RoutineTold l = Unit {0}

  pub contribution_says : (by_default : Bool) (l : DeclLayer) → RoutineTold l → AllSay (names_at by_default l)
  contribution_says by_default (Decl-F.Const defs span) told = each_flat SaysTold const_def const_says defs
  contribution_says by_default (Decl-F.Types defs span) told = each_flat SaysTold type_def type_def_says defs
  contribution_says by_default (Decl-F.Channel c) told = channel_says c
  contribution_says by_default (Decl-F.Header h) told = header_says by_default h
  contribution_says by_default (Decl-F.Body b) told = tt
  contribution_says by_default (Decl-F.Ip ips span) told = tt
  contribution_says by_default (Decl-F.Modvar ms span) told = tt
  contribution_says by_default (Decl-F.Var vars span) told = types_say vars
  contribution_says by_default (Decl-F.State states span) told = tt
  contribution_says by_default (Decl-F.Stateset sets span) told = statesets_say sets
  contribution_says by_default (Decl-F.Routine r) told = routine_says r told

  -- what stands in a body says what is told
  abbrev pub BroughtTold : BodyAlone → Type 0
  BroughtTold b = Each (λ (c : Contribution). AllSay c.names) b.brought

  name_says : (k : ℕ) (o : Option Name) → AllSay (name_declares k o)
  name_says k None = tt
  name_says k (Some x) = (λ known. (tt, tt), tt)

  body_says : (k : ℕ) (b : BodyAlone) → BroughtTold b → AllSay (body_declares k b)
  body_says k b h =
      let A = numbered (λ n known. mean.State n) 0 (states_in b) in
      let B = flat_map (λ (d : Contribution). d.names) b.brought in
      let C = sections_declare (λ known n t. mean.Own (own_from known b + n) t) 0 (variables_in b) in
      let D = numbered (λ n known. mean.Module n) 0 (module_variables_in b) in
      let E = numbered (λ n known. mean.Ip (length (heading known b.header).ips + n)) 0 (ip_names (ips_in b)) in
      let F = flat_map (λ (i : Init). block_declares [] i.block) (option_to_list b.init) in
      let G = flat_map clause_declares (clauses_in b) in
      let H = flat_map (λ (w : Way). block_declares w.clauses w.block) (ways_of b) in
      both (A ++ B ++ C ++ D ++ E ++ F ++ G ++ H) (name_declares k b.name)
      (both (A ++ B ++ C ++ D ++ E ++ F ++ G) H
      (both (A ++ B ++ C ++ D ++ E ++ F) G
      (both (A ++ B ++ C ++ D ++ E) F
      (both (A ++ B ++ C ++ D) E
      (both (A ++ B ++ C) D
      (both (A ++ B) C
      (both A B
      (numbered_say (λ n known. mean.State n) (λ n known p. tt) 0 (states_in b))
      (each_flat_of (λ (c : Contribution). AllSay c.names) SaysTold (λ (d : Contribution). d.names) (λ c k. k) b.brought h))
      (sections_say (λ known n t. mean.Own (own_from known b + n) t) (λ known n t p. tt) 0 (variables_in b)))
      (numbered_say (λ n known. mean.Module n) (λ n known p. tt) 0 (module_variables_in b)))
      (numbered_say (λ n known. mean.Ip (length (heading known b.header).ips + n)) (λ n known p. tt) 0 (ip_names (ips_in b))))
      (each_flat SaysTold (λ (i : Init). block_declares [] i.block) (λ i. block_says [] i.block) (option_to_list b.init)))
      (each_flat SaysTold clause_declares clause_says (clauses_in b)))
      (each_flat SaysTold (λ (w : Way). block_declares w.clauses w.block) (λ w. block_says w.clauses w.block) (ways_of b)))
      (name_says k b.name)

  pub bodies_say : (k : ℕ) (bs : List BodyAlone) → Each BroughtTold bs → AllSay (bodies_declare k bs)
  bodies_say k [] h = tt
  bodies_say k (b ∷ bs) h = both (body_declares k b) (bodies_declare (suc k) bs) (body_says k b h.0) (bodies_say (suc k) bs h.1)

  -- ---- what names mean

  -- all that is declared
  reversed : (es : List (ℕ × Meaning)) (known : Declared) → Each TellsAt es → Each TellsAt known → Each TellsAt (fold (λ k e. e ∷ k) known es)
  reversed [] known h k = k
  reversed (e ∷ es) known h k = reversed es (e ∷ known) h.1 (h.0, k)

  pub all_told : (names : List Use) (ds : Declarations) (known : Declared) → AllSay ds → Each TellsAt known → Each TellsAt (with_all names known ds)
  all_told names [] known h k = k
  all_told names (d ∷ ds) known h k = all_told names ds (with_one names known d) h.1 (reversed (d.says (meant_by names known)) known (h.0 (meant_by names known)) k)

  -- the names of `any` are constants
  pub chosen_told : (known : Declared) (cs : List Choice) → Each TellsAt known → Each TellsAt (with_choices known cs)
  chosen_told known [] h = h
  chosen_told known (c ∷ cs) h = chosen_told ((c.at, mean.Constant c.value c.host) ∷ known) cs (tt, h)

  placed_told : (p : ℕ) (es : Declared) → Each TellsAt es → Tells p (or_other (lookup (nat_eq p) es))
  placed_told p [] h = tt
  placed_told p (e ∷ es) h = by (nat_eq p e.0) refl (placed_told p es h.1)
    where
      by : (b : Bool) → nat_eq p e.0 ≡ b → Tells p (or_other (lookup (nat_eq p) es)) → Tells p (or_other (cond b (Some e.1) (lookup (nat_eq p) es)))
      by true is rest = subst (λ q. Tells q e.1) (sym ((Decides-eqb p e.0).0 is)) h.0
      by false is rest = rest

  -- a name that means a routine is declared where that stands in the tree
  pub record IsRoutine (names : List Use) (x : Name) (r : Routine) : Type 0 where
    pub at : Span
    pub is : declaration_of names x ≡ Some at
    pub ends : nat_eq at.end 0 ≡ false
    pub of_tree : IsOfTree r at.start

  pub meant_routine : (names : List Use) (known : Declared) → Each TellsAt known → (x : Name) (r : Routine) → meant_by names known x ≡ mean.Called r → IsRoutine names x r
  meant_routine names known h x r = by (declaration_of names x) refl
    where
      placed : (at : Span) → declaration_of names x ≡ Some at → (b : Bool) → nat_eq at.end 0 ≡ b → (if b then required_meaning x.word else at_place known at.start) ≡ mean.Called r → IsRoutine names x r
      placed at is true ends e = absurd (no_routine x.word r identifiers e)
      placed at is false ends e = record { at = at; is = is; ends = ends; of_tree = subst (Tells at.start) e (placed_told at.start known h) }

      by : (o : Option Span) → declaration_of names x ≡ o → meaning_at known x o ≡ mean.Called r → IsRoutine names x r
      by None is e = absurd (cc)
      by (Some at) is e = placed at is (nat_eq at.end 0) refl e
