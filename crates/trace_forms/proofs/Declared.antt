-- What is declared: constants in which sets rise, and routines whose outputs are named by identifiers.
use Rattle.std.proofs.Common.{◌≡◌, ℕ, zero, suc, ◌+◌, ◌<◌, ◌≤◌, Bool, true, false, List, [], ◌∷◌, ◌++◌, length, map, Result, Ok, Err, Option, Some, None, refl, sym, subst, ◌∙◌, append_assoc, arith, cond, replicate}
use Rattle.std.specs.Prelude.{if◌then◌else◌, option_to_list, option_map, nat_eq, int_lt, fold, flat_map, ◌^◌}
use Rattle.std.specs.List.{AllByRecursion}
use Rattle.std.specs.Str.{bytes_eq}
use Rattle.std.specs.Map.{lookup}
use Rattle.std.proofs.lemmas.Bool.Decides.{Decides-eqb}
use Rattle.std.proofs.lemmas.List.{length-replicate, length-append}
use Rattle.pascal_values.specs.Integers.{is_integer}
use Rattle.pascal_values.specs.declared.value.Value.{Value}
use Rattle.pascal_values.specs.declared.value.Value.TheVariants as pascal
use Rattle.type_rules.specs.declared.types.Value.{Value as RuleValue}
use Rattle.type_rules.specs.Types.{same_host}
use Rattle.type_rules.specs.Meanings as rules
use Rattle.type_rules.specs.declared.meanings.Meaning.{Meaning as RuleMeaning}
use Rattle.type_rules.specs.Meanings.{Env, const_value, env_of, entity_at}
use Rattle.scope_rules.specs.NameRules.{IsOne}
use Rattle.accepted_states.proofs.Declared.{AreApart}
use Rattle.estelle_tree.specs.declared.names.Use.{Use}
use Rattle.estelle_tree.specs.declared.span.Span.{Span}
use Rattle.estelle_tree.specs.declared.tree.name.Name.{Name}
use Rattle.estelle_tree.specs.declared.tree.type_expr.Sign.{Sign}
use Rattle.estelle_tree.specs.declared.tree.type_expr.Const.{Const}
use Rattle.estelle_tree.specs.declared.tree.type_expr.Const.TheVariants as const
use Rattle.estelle_tree.specs.declared.tree.type_expr.Ordinal.{Ordinal}
use Rattle.estelle_tree.specs.declared.tree.type_expr.Ordinal.TheVariants as ordinal
use Rattle.estelle_tree.specs.declared.tree.type_expr.TypeExpr.TheOpen.{TypeExpr-F}
use Rattle.estelle_tree.specs.declared.tree.type_expr.TypedNames.{TypedNames}
use Rattle.estelle_tree.specs.declared.tree.declaration.ConstDef.{ConstDef}
use Rattle.estelle_tree.specs.declared.tree.declaration.TypeDef.{TypeDef}
use Rattle.estelle_tree.specs.declared.tree.declaration.BlockDecl.{BlockDecl}
use Rattle.estelle_tree.specs.declared.tree.declaration.BlockDecl.TheVariants as block_decl
use Rattle.estelle_tree.specs.declared.tree.declaration.Routine.{Routine as RoutineTree}
use Rattle.estelle_tree.specs.declared.tree.clause.Block.{Block}
use Rattle.estelle_tree.specs.declared.tree.clause.AnyDom.{AnyDom}
use Rattle.estelle_tree.specs.declared.tree.clause.Clause.{Clause}
use Rattle.estelle_tree.specs.declared.tree.specification.Channel.{Channel as ChannelTree}
use Rattle.estelle_tree.specs.declared.tree.specification.Inter.{Inter}
use Rattle.estelle_tree.specs.declared.tree.specification.ParamGroup.{ParamGroup}
use Rattle.estelle_tree.specs.declared.tree.specification.Params.{Params}
use Rattle.estelle_tree.specs.declared.tree.specification.Header.{Header as HeaderTree}
use Rattle.estelle_tree.specs.declared.tree.specification.StatesetDef.{StatesetDef}
use Rattle.estelle_model.specs.Stops.{Stop}
use Rattle.estelle_model.specs.declared.denoter.Host.{Host}
use Rattle.estelle_model.specs.declared.denoter.Host.TheVariants as host
use Rattle.estelle_model.specs.declared.denoter.Denoter.{Denoter}
use Rattle.estelle_model.specs.declared.meaning.Meaning.{Meaning}
use Rattle.estelle_model.specs.declared.meaning.Meaning.TheVariants as mean
use Rattle.estelle_model.specs.declared.meaning.Senders.{Senders}
use Rattle.estelle_model.specs.Types.{whole}
use Rattle.estelle_model.specs.Operators.{◌>>>◌}
use Rattle.estelle_model.specs.Meant.{Meanings}
use Rattle.estelle_model.specs.Constants.{by_sign, constant_named, constant_of, host_named, host_of_const, defined, const_meaning}
use Rattle.estelle_model.specs.Denoted.{Declaration, Declarations, declare, numbered, type_of_meaning, bound, ordinal_type, array_over, of_named_type, enumeration, ordinal_declares, Typing, Section, rising, section_types, count_names, types_declare, sections_declare, type_layer, typing, section}
use Rattle.estelle_model.specs.Definitions.{const_def, type_def, definitions, local, local_variables, routine_meaning, routine_declares, value_formals, var_formals, parameter_sections, inter_declares, group_declares, senders, channel_declares, domains_of, clause_declares, received, block_declares}
use Rattle.estelle_tree.specs.declared.tree.specification.Init.{Init}
use Rattle.estelle_model.specs.Bodies.{Way, attribute_of, interaction_points, Contribution, BodyAlone, heading, header_declares, export_sections, ip_names, stateset_declares, states_in, variables_in, module_variables_in, ips_in, own_from, clauses_in, ways_of, name_declares, body_declares, bodies_declare}
use Rattle.estelle_model.specs.Names.{required, or_other, required_meaning, Declared, at_place, meaning_at, declaration_of, meant_by, with_one, with_all, declared}
use Rattle.trace_forms.proofs.Values.{Rises, Yields, int_rises, bool_rises, char_rises, enum_rises, signed_yields}
use Rattle.trace_forms.proofs.Firm.{IsSmall, ResultOf, any_integer, char_of, enum_of, sign_of, last_of, Firm, firm_ordinal, firm_set, firm_array, firm_fields, whole_firm, ResultFirm, int_firm, bool_firm, char_firm, enum_firm, sign_firm, bound_firm, MeaningFirm, Shallow}
use Rattle.trace_forms.proofs.Flat.{depth_of}
use Rattle.trace_forms.proofs.Nests.{NestsTo, Within, whole_within}
use Rattle.trace_forms.proofs.Environments.{named_alike}
use Rattle.trace_forms.proofs.ConstantKinds.{Agree, bounds_of_one}
use Rattle.trace_forms.proofs.Partners.{HasPartner, AlikeAt, meant_alike, more_alike}
use Rattle.trace_forms.proofs.Named.{named_stmts}
use Rattle.trace_forms.proofs.SoundExpressions.{MeaningTold}
use Rattle.trace_forms.proofs.Acts.{Told}
use Rattle.trace_forms.proofs.Lists.{all_append, all_flat, all_flat_of}

-- what is told of a meaning, where the rules know this
abbrev pub Tells : RuleMeaning → Meaning → Type 0
Tells r m = MeaningTold Told m × MeaningFirm r m

-- an integer, or a character: so the tokens say
abbrev pub ConstFirm : Const → Type 0
ConstFirm (const.Number s n span) = is_integer n ≡ true
ConstFirm (const.Name s x span) = Unit {0}
ConstFirm (const.Char n span) = n < 256

-- env : what the rules know
module _ (env : Env) where
  -- what is told of what names mean, and constants are of the same kinds as for the rules
  abbrev pub AllTold : Meanings → Type 0
  AllTold known = ((x : Name) → Tells (rules.known env x) (known x)) × Agree env known

  -- what is told of what is declared at a place
  abbrev pub TellsAt : ℕ × Meaning → Type 0
  TellsAt e = Tells (entity_at env e.0).meaning e.1

  -- a declaration says what is told, where what is known is told
  abbrev pub SaysTold : Declaration → Type 0
  SaysTold d = (known : Meanings) → AllTold known → AllByRecursion TellsAt (d.says known)

  abbrev pub AllSay : Declarations → Type 0
  AllSay = AllByRecursion SaysTold

  -- ---- one declaration

  one_says : (x : Name) (says : Meanings → Meaning) → ((known : Meanings) → AllTold known → TellsAt (x.span.start, says known)) → SaysTold (declare x says)
  one_says x says h known k = (h known k, tt)

  numbered_say : (says : ℕ → Meanings → Meaning) → ((n : ℕ) (known : Meanings) (r : RuleMeaning) → Tells r (says n known)) → (n : ℕ) (xs : List Name) → AllSay (numbered says n xs)
  numbered_say says h n [] = tt
  numbered_say says h n (x ∷ xs) = (one_says x (says n) (λ known k. h n known (entity_at env x.span.start).meaning), numbered_say says h (suc n) xs)

  rising_told : (says : ℕ → Meaning) → ((n : ℕ) (r : RuleMeaning) → Tells r (says n)) → (n : ℕ) (xs : List Name) → AllByRecursion TellsAt (rising says n xs)
  rising_told says h n [] = tt
  rising_told says h n (x ∷ xs) = (h n (entity_at env x.span.start).meaning, rising_told says h (suc n) xs)

  sections_say : (says : Meanings → ℕ → Denoter → Meaning) → ((known : Meanings) (n : ℕ) (t : Denoter) (r : RuleMeaning) → Tells r (says known n t)) → (n : ℕ) (ss : List Section) → AllSay (sections_declare says n ss)
  sections_say says h n [] = tt
  sections_say says h n (s ∷ ss) = (λ known k. rising_told (λ j. says known j (s.1.denotes known)) (λ j r. h known j (s.1.denotes known) r) n s.0, sections_say says h (n + length s.0) ss)

  -- ---- constants

  sign_yields : (s : Option Sign) (v : Value) → Rises v → Yields (by_sign s v)
  sign_yields None v h = h
  sign_yields (Some s) v h = signed_yields s v

  named_yields : (q : RuleMeaning) (s : Option Sign) (m : Meaning) → Tells q m → Yields (constant_named m >>> by_sign s)
  named_yields q s (mean.Constant v h) r = sign_yields s v r.0
  named_yields q s (mean.TypeName t) r = tt
  named_yields q s (mean.Called c) r = tt
  named_yields q s _ r = tt

  named_firm : (q : RuleMeaning) (s : Option Sign) (m : Meaning) → Tells q m → ResultFirm (constant_named m >>> by_sign s)
  named_firm q s (mean.Constant v h) r = sign_firm s v r.1.1
  named_firm q s (mean.TypeName t) r = tt
  named_firm q s (mean.Called c) r = tt
  named_firm q s _ r = tt

  constant_yields : (known : Meanings) → AllTold known → (c : Const) → Yields (constant_of known c)
  constant_yields known k (const.Number s n span) = sign_yields s (pascal.Int n) (int_rises n)
  constant_yields known k (const.Name s x span) = named_yields (rules.known env x) s (known x) (k.0 x)
  constant_yields known k (const.Char n span) = char_rises n

  constant_firm : (known : Meanings) → AllTold known → (c : Const) → ConstFirm c → ResultFirm (constant_of known c)
  constant_firm known k (const.Number s n span) h = sign_firm s (pascal.Int n) (int_firm n h)
  constant_firm known k (const.Name s x span) h = named_firm (rules.known env x) s (known x) (k.0 x)
  constant_firm known k (const.Char n span) h = char_firm n (omega (arith, h))

  -- a named constant with a sign is of its host type
  named_of_host : (q : RuleMeaning) (s : Option Sign) (m : Meaning) → Tells q m → ResultOf (host_named m) (constant_named m >>> by_sign s)
  named_of_host q s (mean.Constant v h) r = sign_of h s v r.1.2
  named_of_host q s (mean.TypeName t) r = tt
  named_of_host q s (mean.Called c) r = tt
  named_of_host q s _ r = tt

  -- each constant is of its host type
  constant_of_host : (known : Meanings) → AllTold known → (c : Const) → ConstFirm c → ResultOf (host_of_const known c) (constant_of known c)
  constant_of_host known k (const.Number s n span) h = any_integer (by_sign s (pascal.Int n))
  constant_of_host known k (const.Name s x span) h = named_of_host (rules.known env x) s (known x) (k.0 x)
  constant_of_host known k (const.Char n span) h = char_of n h

  named_host_small : (q : RuleMeaning) (m : Meaning) → Tells q m → IsSmall (host_named m)
  named_host_small q (mean.Constant v h) r = r.1.0
  named_host_small q (mean.TypeName t) r = tt
  named_host_small q (mean.Called c) r = tt
  named_host_small q _ r = tt

  host_small : (known : Meanings) → AllTold known → (c : Const) → IsSmall (host_of_const known c)
  host_small known k (const.Number s n span) = tt
  host_small known k (const.Name s x span) = named_host_small (rules.known env x) (known x) (k.0 x)
  host_small known k (const.Char n span) = tt

  defined_told : (m : RuleMeaning) (h : Host) (r : Result Value Stop) → Yields r → IsSmall h → ResultFirm r → ResultOf h r → Tells m (defined h r)
  defined_told m h (Ok v) y s f o = (y, (s, f, o))
  defined_told m h (Err e) y s f o = (tt, tt)

  pub const_says : (d : ConstDef) → ConstFirm d.value → AllSay (const_def d)
  const_says d f = (one_says d.name (λ known. const_meaning known d.value) (λ known k. defined_told (entity_at env d.name.span.start).meaning (host_of_const known d.value) (constant_of known d.value) (constant_yields known k d.value) (host_small known k d.value) (constant_firm known k d.value f) (constant_of_host known k d.value f)), tt)

  -- ---- ordinal types

  -- for the rules both bounds have values, of one type, and the second is not the lesser one
  pub record AreOfOneType (low high : Const) : Type 0 where
    pub first : RuleValue
    pub second : RuleValue
    pub low_is : const_value env low ≡ Some first
    pub high_is : const_value env high ≡ Some second
    pub same : same_host first.host second.host ≡ true
    pub rises : int_lt second.ordinal first.ordinal ≡ false

  -- its constants are firm and of one type, and it lists few values
  abbrev pub OrdinalFirm : Ordinal → Type 0
  OrdinalFirm (ordinal.Name x) = Unit {0}
  OrdinalFirm (ordinal.Enumeration names span) = length names.names ≤ 2 ^ 32
  OrdinalFirm (ordinal.Subrange low high span) = ConstFirm low × ConstFirm high × AreOfOneType low high

  few_small : (names : List Name) → length names ≤ 2 ^ 32 → IsSmall (enumeration names)
  few_small names h = omega (arith, h)

  values_say : (names : List Name) (n : ℕ) (xs : List Name) → length names ≤ 2 ^ 32 → n + length xs ≤ 2 ^ 32 → AllSay (numbered (λ n known. mean.Constant (pascal.Enum n) (enumeration names)) n xs)
  values_say names n [] s h = tt
  values_say names n (x ∷ xs) s h = (one_says x (λ known. mean.Constant (pascal.Enum n) (enumeration names)) (λ known k. (enum_rises n, (few_small names s, enum_firm n (omega (arith, h)), enum_of n (omega (arith, h))))), values_say names (suc n) xs s (omega (arith, h)))

  ordinal_says : (o : Ordinal) → OrdinalFirm o → AllSay (ordinal_declares o)
  ordinal_says (ordinal.Name x) f = tt
  ordinal_says (ordinal.Enumeration names span) f = values_say names.names 0 names.names f (omega (arith, f))
  ordinal_says (ordinal.Subrange low high span) f = tt

  whole_shallow : Shallow (whole host.Integer)
  whole_shallow = (whole_firm host.Integer tt, whole_within 0 host.Integer 200 (omega arith) (omega arith))

  named_type_firm : (q : RuleMeaning) (m : Meaning) → Tells q m → Shallow (type_of_meaning m)
  named_type_firm q (mean.TypeName t) r = r.1.0
  named_type_firm q (mean.Constant v h) r = whole_shallow
  named_type_firm q (mean.Called c) r = whole_shallow
  named_type_firm q (mean.Interaction kind) r = whole_shallow
  named_type_firm q _ r = whole_shallow

  ordinal_firm : (known : Meanings) → AllTold known → (o : Ordinal) → OrdinalFirm o → Firm (ordinal_type known o)
  ordinal_firm known k (ordinal.Name x) f = (named_type_firm (rules.known env x) (known x) (k.0 x)).0
  ordinal_firm known k (ordinal.Enumeration names span) f = whole_firm (enumeration names.names) (few_small names.names f)
  ordinal_firm known k (ordinal.Subrange low high span) f =
      firm_ordinal (host_of_const known low) (bound known low) (bound known high) (host_small known k low) (bound_firm (constant_of known low) (constant_firm known k low f.0)) (bound_firm (constant_of known high) (constant_firm known k high f.1))
      (last_of (host_of_const known low) (constant_of known high) (bounds_of_one env known k.1 low high f.2.first f.2.second f.2.low_is f.2.high_is f.2.same (constant_of_host known k high f.1)))

  -- ---- types

  -- this holds of what it denotes
  abbrev Denotes : (Denoter → Type 0) → Typing → Type 0
  Denotes P t = (known : Meanings) → AllTold known → P (t.denotes known)

  abbrev pub DenotesFirm : Typing → Type 0
  DenotesFirm = Denotes Firm

  -- what a type expression declares is told, and it denotes a firm type
  abbrev pub TypingTold : Typing → Type 0
  TypingTold t = AllSay t.declares × DenotesFirm t

  abbrev pub SectionTold : Section → Type 0
  SectionTold s = (0 < length s.0) × TypingTold s.1

  array_firm : (known : Meanings) → AllTold known → (item : Denoter) → Firm item → (is : List Ordinal) → Firm (array_over (map (ordinal_type known) is) item)
  array_firm known k item h [] = h
  array_firm known k item h (i ∷ is) = firm_array _ _ (array_over (map (ordinal_type known) is) item) (array_firm known k item h is)

  pub all_alike : (P : Denoter → Type 0) (t : Denoter) (n : ℕ) → P t → AllByRecursion P (replicate n t)
  all_alike P t zero h = tt
  all_alike P t (suc n) h = (h, all_alike P t n h)

  sections_are : (P : Denoter → Type 0) (known : Meanings) → AllTold known → (ss : List Section) → AllByRecursion (λ (s : Section). Denotes P s.1) ss → AllByRecursion P (section_types known ss)
  sections_are P known k [] h = tt
  sections_are P known k (s ∷ ss) h = all_append P (replicate (length s.0) (s.1.denotes known)) (section_types known ss) (all_alike P (s.1.denotes known) (length s.0) (h.0 known k)) (sections_are P known k ss h.1)

  denote_firm : (ss : List Section) → AllByRecursion SectionTold ss → AllByRecursion (λ (s : Section). DenotesFirm s.1) ss
  denote_firm [] h = tt
  denote_firm (s ∷ ss) h = (h.0.1.1, denote_firm ss h.1)

  some_types : (known : Meanings) (ss : List Section) → 0 < length ss → AllByRecursion SectionTold ss → 0 < length (section_types known ss)
  some_types known [] e h = absurd (omega (arith, e))
  some_types known (s ∷ ss) e h =
      let a = h.0.0 in
      let b : length (replicate (length s.0) (s.1.denotes known)) ≡ length s.0 = length-replicate (length s.0) (s.1.denotes known) in
      let c = length-append (replicate (length s.0) (s.1.denotes known)) (section_types known ss) in
      omega (arith, a, b, c)

  types_say : (ss : List Section) → AllByRecursion SectionTold ss → AllSay (types_declare ss)
  types_say ss h = all_flat_of SectionTold SaysTold (λ s. s.1.declares) (λ s k. k.1.0) ss h

  pub ordinal_told : (o : Ordinal) → OrdinalFirm o → TypingTold (type_layer (TypeExpr-F.Ordinal o))
  ordinal_told o f = (ordinal_says o f, λ known k. ordinal_firm known k o f)

  pub array_told : (packed : Bool) (is : List Ordinal) (t : Typing) (span : Span) → AllByRecursion OrdinalFirm is → TypingTold t → TypingTold (type_layer (TypeExpr-F.Array packed is t span))
  array_told packed is t span f h = (all_append SaysTold (flat_map ordinal_declares is) t.declares (all_flat_of OrdinalFirm SaysTold ordinal_declares ordinal_says is f) h.0, λ known k. array_firm known k (t.denotes known) (h.1 known k) is)

  pub record_told : (packed : Bool) (ss : List Section) (span : Span) → 0 < length ss → AllByRecursion SectionTold ss → TypingTold (type_layer (TypeExpr-F.Fields packed ss span))
  record_told packed ss span e h = (
    all_append SaysTold (types_declare ss) (sections_declare (λ known n t. mean.Field n) 0 ss) (types_say ss h) (sections_say (λ known n t. mean.Field n) (λ known n t r. (tt, tt)) 0 ss),
    λ known k. firm_fields (section_types known ss) (some_types known ss e h) (sections_are Firm known k ss (denote_firm ss h)),
  )

  pub set_told : (packed : Bool) (o : Ordinal) (span : Span) → OrdinalFirm o → TypingTold (type_layer (TypeExpr-F.Set packed o span))
  set_told packed o span f = (ordinal_says o f, λ known k. firm_set _ _ _)

  pub vars_say : (xs : List TypedNames) → AllByRecursion (λ x. SectionTold (section x)) xs → AllSay (types_declare (map section xs))
  vars_say [] h = tt
  vars_say (x ∷ xs) h = all_append SaysTold (section x).1.declares (types_declare (map section xs)) h.0.1.0 (vars_say xs h.1)

  -- what a type name denotes nests no deeper than the rules know at its place, and at most 200 deep
  abbrev pub NestsSo : TypeDef → Type 0
  NestsSo d = (known : Meanings) → AllTold known → NestsTo 200 ((typing d.type_expr).denotes known) × Within (depth_of (entity_at env d.name.span.start).meaning) ((typing d.type_expr).denotes known)

  -- what is told of a type definition
  abbrev pub TypeDefTold : TypeDef → Type 0
  TypeDefTold d = TypingTold (typing d.type_expr) × NestsSo d

  pub type_def_says : (d : TypeDef) → TypeDefTold d → AllSay (type_def d)
  type_def_says d h =
      all_append SaysTold (typing d.type_expr).declares (declare d.name (λ known. mean.TypeName ((typing d.type_expr).denotes known)) ∷ []) h.0.0
      (one_says d.name (λ known. mean.TypeName ((typing d.type_expr).denotes known)) (λ known k. let n = h.1 known k in (tt, ((h.0.1 known k, n.0), n.1))), tt)

  -- ---- routines, blocks and clauses

  abbrev pub ConstsTold : List ConstDef → Type 0
  ConstsTold = AllByRecursion (λ (d : ConstDef). ConstFirm d.value)

  abbrev pub TypesTold : List TypeDef → Type 0
  TypesTold = AllByRecursion TypeDefTold

  abbrev pub VarsTold : List TypedNames → Type 0
  VarsTold = AllByRecursion (λ (x : TypedNames). SectionTold (section x))

  abbrev pub DefinitionTold : BlockDecl → Type 0
  DefinitionTold (block_decl.Const defs span) = ConstsTold defs
  DefinitionTold (block_decl.Types defs span) = TypesTold defs
  DefinitionTold (block_decl.Var vars span) = VarsTold vars

  abbrev pub DefinitionsTold : List BlockDecl → Type 0
  DefinitionsTold = AllByRecursion DefinitionTold

  pub consts_say : (ds : List ConstDef) → ConstsTold ds → AllSay (flat_map const_def ds)
  consts_say = all_flat_of (λ (d : ConstDef). ConstFirm d.value) SaysTold const_def const_says

  pub type_defs_say : (ds : List TypeDef) → TypesTold ds → AllSay (flat_map type_def ds)
  type_defs_say = all_flat_of TypeDefTold SaysTold type_def type_def_says

  definitions_say : (d : BlockDecl) → DefinitionTold d → AllSay (definitions d)
  definitions_say (block_decl.Const defs span) h = consts_say defs h
  definitions_say (block_decl.Types defs span) h = type_defs_say defs h
  definitions_say (block_decl.Var vars span) h = vars_say vars h

  all_definitions_say : (ds : List BlockDecl) → DefinitionsTold ds → AllSay (flat_map definitions ds)
  all_definitions_say = all_flat_of DefinitionTold SaysTold definitions definitions_say

  pub routine_says : (r : RoutineTree) → named_stmts r.body ≡ true → DefinitionsTold r.decls → AllSay (routine_declares r)
  routine_says r good firm =
      let A = flat_map definitions r.decls in
      let B = sections_declare local 0 (value_formals r ++ local_variables r.decls) in
      let C = sections_declare (λ known n t. mean.Var n t) 0 (var_formals r) in
      all_append SaysTold (A ++ B ++ C) (declare r.name (routine_meaning r) ∷ [])
      (all_append SaysTold (A ++ B) C (all_append SaysTold A B (all_definitions_say r.decls firm) (sections_say local (λ known n t r. (tt, tt)) 0 (value_formals r ++ local_variables r.decls))) (sections_say (λ known n t. mean.Var n t) (λ known n t r. (tt, tt)) 0 (var_formals r)))
      (one_says r.name (routine_meaning r) (λ known k. (good, tt)), tt)

  block_says : (cs : List Clause) (b : Block) → DefinitionsTold b.decls → AllSay (block_declares cs b)
  block_says cs b h = all_append SaysTold (flat_map definitions b.decls) (sections_declare (λ known n t. mean.Local (length (received known cs) + n) t) 0 (local_variables b.decls)) (all_definitions_say b.decls h) (sections_say (λ known n t. mean.Local (length (received known cs) + n) t) (λ known n t r. (tt, tt)) 0 (local_variables b.decls))

  abbrev pub ClauseFirm : Clause → Type 0
  ClauseFirm c = AllByRecursion (λ (d : AnyDom). OrdinalFirm d.domain) (domains_of c)

  clause_says : (c : Clause) → ClauseFirm c → AllSay (clause_declares c)
  clause_says c = all_flat_of (λ (d : AnyDom). OrdinalFirm d.domain) SaysTold (λ (d : AnyDom). ordinal_declares d.domain) (λ d. ordinal_says d.domain) (domains_of c)

  -- ---- channels, headers and state sets

  groups_shallow : (gs : List ParamGroup) → AllByRecursion (λ (s : Section). Denotes Shallow s.1) (map (λ (g : ParamGroup). of_named_type g.names.names g.type_name) gs)
  groups_shallow [] = tt
  groups_shallow (g ∷ gs) = (λ known k. named_type_firm (rules.known env g.type_name) (known g.type_name) (k.0 g.type_name), groups_shallow gs)

  parameters_shallow : (ps : Option Params) → AllByRecursion (λ (s : Section). Denotes Shallow s.1) (parameter_sections ps)
  parameters_shallow ps = all_flat (λ (s : Section). Denotes Shallow s.1) (λ (x : Params). map (λ (g : ParamGroup). of_named_type g.names.names g.type_name) x.groups) (λ x. groups_shallow x.groups) (option_to_list ps)

  inter_says : (channel : ℕ) (by : Senders) (x : Inter) → AllSay (inter_declares channel by x)
  inter_says channel by x = all_append SaysTold (sections_declare local 0 (parameter_sections x.params)) (declare x.name (λ known. mean.Interaction (record { channel = channel; word = x.name.word; senders = by; parameters = section_types known (parameter_sections x.params) })) ∷ []) (sections_say local (λ known n t r. (tt, tt)) 0 (parameter_sections x.params)) (λ known k. ((tt, sections_are Shallow known k (parameter_sections x.params) (parameters_shallow x.params)), tt), tt)

  pub channel_says : (c : ChannelTree) → AllSay (channel_declares c)
  channel_says c = (λ known k. ((tt, tt), tt), (λ known k. ((tt, tt), tt), (λ known k. ((tt, tt), tt), all_flat SaysTold (group_declares c) (λ g. all_flat SaysTold (inter_declares c.name.span.start (senders c g)) (inter_says c.name.span.start (senders c g)) g.inters) c.groups)))

  pub header_says : (by_default : Bool) (h : HeaderTree) → VarsTold h.exports → AllSay (header_declares by_default h)
  header_says by_default h firm =
      let A = types_declare (export_sections h) in
      let B = sections_declare (λ known n t. mean.Own n t) 0 (parameter_sections h.params) in
      let C = sections_declare (λ known n t. mean.Exported n t) (count_names (parameter_sections h.params)) (export_sections h) in
      let D = numbered (λ n known. mean.Ip n) 0 (ip_names h.ips) in
      all_append SaysTold (A ++ B ++ C ++ D) (declare h.name (λ known. mean.Header (record {
        at = h.name.span.start;
        attribute = option_map attribute_of h.attr;
        parameters = section_types known (parameter_sections h.params);
        exports = section_types known (export_sections h);
        ips = interaction_points known by_default true h.ips;
      })) ∷ [])
      (all_append SaysTold (A ++ B ++ C) D
      (all_append SaysTold (A ++ B) C
      (all_append SaysTold A B (vars_say h.exports firm) (sections_say (λ known n t. mean.Own n t) (λ known n t r. (tt, tt)) 0 (parameter_sections h.params)))
      (sections_say (λ known n t. mean.Exported n t) (λ known n t r. (tt, tt)) (count_names (parameter_sections h.params)) (export_sections h)))
      (numbered_say (λ n known. mean.Ip n) (λ n known r. (tt, tt)) 0 (ip_names h.ips)))
      (λ known k. ((tt, tt), tt), tt)

  pub stateset_says : (d : StatesetDef) → SaysTold (stateset_declares d)
  stateset_says d known k = ((tt, tt), tt)

  -- ---- bodies

  -- a block whose definitions are told, and whose outputs are named by identifiers
  abbrev pub BlockTold : Block → Type 0
  BlockTold b = (named_stmts b.body ≡ true) × DefinitionsTold b.decls

  -- a body whose declarations say what is told, and whose blocks are told
  pub record BodyTold (b : BodyAlone) : Type 0 where
    pub brought : AllByRecursion (λ (c : Contribution). AllSay c.names) b.brought
    pub init : AllByRecursion (λ (x : Init). BlockTold x.block) (option_to_list b.init)
    pub clauses : AllByRecursion ClauseFirm (clauses_in b)
    pub blocks : AllByRecursion (λ (w : Way). BlockTold w.block) (ways_of b)

  name_says : (k : ℕ) (o : Option Name) → AllSay (name_declares k o)
  name_says k None = tt
  name_says k (Some x) = (λ known h. ((tt, tt), tt), tt)

  body_says : (k : ℕ) (b : BodyAlone) → BodyTold b → AllSay (body_declares k b)
  body_says k b h =
      let A = numbered (λ n known. mean.State n) 0 (states_in b) in
      let B = flat_map (λ (d : Contribution). d.names) b.brought in
      let C = sections_declare (λ known n t. mean.Own (own_from known b + n) t) 0 (variables_in b) in
      let D = numbered (λ n known. mean.Module n) 0 (module_variables_in b) in
      let E = numbered (λ n known. mean.Ip (length (heading known b.header).ips + n)) 0 (ip_names (ips_in b)) in
      let F = flat_map (λ (i : Init). block_declares [] i.block) (option_to_list b.init) in
      let G = flat_map clause_declares (clauses_in b) in
      let H = flat_map (λ (w : Way). block_declares w.clauses w.block) (ways_of b) in
      all_append SaysTold (A ++ B ++ C ++ D ++ E ++ F ++ G ++ H) (name_declares k b.name)
      (all_append SaysTold (A ++ B ++ C ++ D ++ E ++ F ++ G) H
      (all_append SaysTold (A ++ B ++ C ++ D ++ E ++ F) G
      (all_append SaysTold (A ++ B ++ C ++ D ++ E) F
      (all_append SaysTold (A ++ B ++ C ++ D) E
      (all_append SaysTold (A ++ B ++ C) D
      (all_append SaysTold (A ++ B) C
      (all_append SaysTold A B
      (numbered_say (λ n known. mean.State n) (λ n known r. (tt, tt)) 0 (states_in b))
      (all_flat_of (λ (c : Contribution). AllSay c.names) SaysTold (λ (d : Contribution). d.names) (λ c k. k) b.brought h.brought))
      (sections_say (λ known n t. mean.Own (own_from known b + n) t) (λ known n t r. (tt, tt)) 0 (variables_in b)))
      (numbered_say (λ n known. mean.Module n) (λ n known r. (tt, tt)) 0 (module_variables_in b)))
      (numbered_say (λ n known. mean.Ip (length (heading known b.header).ips + n)) (λ n known r. (tt, tt)) 0 (ip_names (ips_in b))))
      (all_flat_of (λ (x : Init). BlockTold x.block) SaysTold (λ (i : Init). block_declares [] i.block) (λ i f. block_says [] i.block f.1) (option_to_list b.init) h.init))
      (all_flat_of ClauseFirm SaysTold clause_declares clause_says (clauses_in b) h.clauses))
      (all_flat_of (λ (w : Way). BlockTold w.block) SaysTold (λ (w : Way). block_declares w.clauses w.block) (λ w f. block_says w.clauses w.block f.1) (ways_of b) h.blocks))
      (name_says k b.name)

  pub bodies_say : (k : ℕ) (bs : List BodyAlone) → AllByRecursion BodyTold bs → AllSay (bodies_declare k bs)
  bodies_say k [] h = tt
  bodies_say k (b ∷ bs) h = all_append SaysTold (body_declares k b) (bodies_declare (suc k) bs) (body_says k b h.0) (bodies_say (suc k) bs h.1)

-- ---- what names mean

-- what is told, whatever the rules know
abbrev TellsAlways : Meaning → Type 0
TellsAlways m = (r : RuleMeaning) → Tells r m

looked_up : (w : List ℕ) (es : List (List ℕ × Meaning)) → AllByRecursion (λ (e : List ℕ × Meaning). TellsAlways e.1) es → TellsAlways (or_other (lookup (bytes_eq w) es))
looked_up w [] h = λ r. (tt, tt)
looked_up w (e ∷ es) h = by (bytes_eq w e.0) (looked_up w es h.1)
  where
    by : (b : Bool) → TellsAlways (or_other (lookup (bytes_eq w) es)) → TellsAlways (or_other (cond b (Some e.1) (lookup (bytes_eq w) es)))
    by true rest = h.0
    by false rest = rest

whole_told : (h : Host) → IsSmall h → TellsAlways (mean.TypeName (whole h))
whole_told h s r = (tt, ((whole_firm h s, whole_within 0 h 200 (omega arith) (omega arith)), whole_within (depth_of r) h))

required_told : (w : List ℕ) → TellsAlways (required_meaning w)
required_told w = looked_up w required (whole_told host.Integer tt, (whole_told host.Boolean tt, (whole_told host.Char tt, (λ r. (bool_rises false, (tt, bool_firm false, tt)), (λ r. (bool_rises true, (tt, bool_firm true, tt)), (λ r. (int_rises _, (tt, int_firm _ refl, tt)), (λ r. (tt, tt), (λ r. (tt, tt), (λ r. (tt, tt), (λ r. (tt, tt), (λ r. (tt, tt), (λ r. (tt, tt), (λ r. (tt, tt), tt)))))))))))))

-- what is told of all that is declared is told of what is declared at a place
placed_told : (env : Env) (p : ℕ) (es : Declared) → AllByRecursion (TellsAt env) es → Tells (entity_at env p).meaning (or_other (lookup (nat_eq p) es))
placed_told env p [] h = (tt, tt)
placed_told env p (e ∷ es) h = by (nat_eq p e.0) refl (placed_told env p es h.1)
  where
    by : (b : Bool) → nat_eq p e.0 ≡ b → Tells (entity_at env p).meaning (or_other (lookup (nat_eq p) es)) → Tells (entity_at env p).meaning (or_other (cond b (Some e.1) (lookup (nat_eq p) es)))
    by true is rest = subst (λ q. Tells (entity_at env q).meaning e.1) (sym ((Decides-eqb p e.0).0 is)) h.0
    by false is rest = rest

pub meant_told : (names : List Use) (ruled : rules.Declarations) (known : Declared) → AllByRecursion (TellsAt (env_of names ruled)) known → (x : Name) → Tells (rules.known (env_of names ruled) x) (meant_by names known x)
unfolding rules.known
meant_told names ruled known h x = subst (λ o. Tells (rules.meaning_by (env_of names ruled) x o) (meant_by names known x)) (sym (named_alike names ruled x)) (by (declaration_of names x))
  where
    placed : (decl : Span) (b : Bool) → Tells (if b then rules.required_meaning x.word else (entity_at (env_of names ruled) decl.start).meaning) (if b then required_meaning x.word else at_place known decl.start)
    placed decl true = required_told x.word (rules.required_meaning x.word)
    placed decl false = placed_told (env_of names ruled) decl.start known h

    by : (o : Option Span) → Tells (rules.meaning_by (env_of names ruled) x o) (meaning_at known x o)
    by None = (tt, tt)
    by (Some decl) = placed decl (nat_eq decl.end 0)

pub reversed : (env : Env) (es : List (ℕ × Meaning)) (known : Declared) → AllByRecursion (TellsAt env) es → AllByRecursion (TellsAt env) known → AllByRecursion (TellsAt env) (fold (λ k e. e ∷ k) known es)
reversed env [] known h k = k
reversed env (e ∷ es) known h k = reversed env es (e ∷ known) h.1 (h.0, k)

module _ (names : List Use) (ruled : rules.Declarations) (all : Declarations) (apart : AreApart all) (partnered : (d : rules.Declaration) → IsOne d ruled → HasPartner (λ x. IsOne x all) d) where
  all_known : (front ds : Declarations) (known : Declared) → all ≡ front ++ ds → AllSay (env_of names ruled) ds → AllByRecursion (TellsAt (env_of names ruled)) known → AllByRecursion (AlikeAt names ruled all apart partnered) known
      → AllByRecursion (TellsAt (env_of names ruled)) (with_all names known ds)
  all_known front [] known here h k a = k
  all_known front (d ∷ ds) known here h k a =
      all_known (front ++ d ∷ []) ds (with_one names known d) (here ∙ sym (append_assoc front (d ∷ []) ds)) h.1
      (reversed (env_of names ruled) (d.says (meant_by names known)) known (h.0 (meant_by names known) (meant_told names ruled known k, meant_alike names ruled all apart partnered known a)) k)
      (more_alike names ruled all apart partnered front ds d here known a)

pub declared_told : (names : List Use) (ruled : rules.Declarations) (bs : List BodyAlone) → AreApart (bodies_declare 0 bs) → ((d : rules.Declaration) → IsOne d ruled → HasPartner (λ x. IsOne x (bodies_declare 0 bs)) d)
    → AllByRecursion (BodyTold (env_of names ruled)) bs → (x : Name) → Tells (rules.known (env_of names ruled) x) (meant_by names (declared names (bodies_declare 0 bs)) x)
declared_told names ruled bs apart partnered h =
    meant_told names ruled (declared names (bodies_declare 0 bs)) (all_known names ruled (bodies_declare 0 bs) apart partnered [] (bodies_declare 0 bs) [] refl (bodies_say (env_of names ruled) 0 bs h) tt tt)
