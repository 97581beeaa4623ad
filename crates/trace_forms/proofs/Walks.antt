-- The declarations of a body, one by one: what each declares is known in a run behind it, and in sight behind its events.
use Rattle.std.proofs.Common.{◌≡◌, ◌∙◌, ℕ, Bool, true, false, ◌⊎◌, List, [], ◌∷◌, ◌++◌, map, length, replicate, Option, Some, None, refl, ap, sym, subst, append_assoc, inl, inr}
use Rattle.std.specs.Prelude.{flat_map}
use Rattle.std.specs.List.{AllByRecursion}
use Rattle.estelle_tree.specs.declared.kind.Kind.TheVariants as k
use Rattle.estelle_tree.specs.declared.names.Use.{Use as Used}
use Rattle.estelle_tree.specs.declared.tree.name.Name.{Name}
use Rattle.estelle_tree.specs.declared.tree.declaration.ConstDef.{ConstDef}
use Rattle.estelle_tree.specs.declared.tree.declaration.TypeDef.{TypeDef}
use Rattle.estelle_tree.specs.declared.tree.declaration.Routine.{Routine}
use Rattle.estelle_tree.specs.declared.tree.specification.Channel.{Channel}
use Rattle.estelle_tree.specs.declared.tree.specification.InterGroup.{InterGroup}
use Rattle.estelle_tree.specs.declared.tree.specification.Inter.{Inter}
use Rattle.estelle_tree.specs.declared.tree.specification.Params.{Params}
use Rattle.estelle_tree.specs.declared.tree.specification.ParamGroup.{ParamGroup}
use Rattle.estelle_tree.specs.declared.tree.specification.Header.{Header}
use Rattle.estelle_tree.specs.declared.tree.specification.IpDecl.{IpDecl}
use Rattle.estelle_tree.specs.declared.tree.specification.ModvarDecl.{ModvarDecl}
use Rattle.estelle_tree.specs.declared.tree.specification.StatesetDef.{StatesetDef}
use Rattle.estelle_tree.specs.Input.{Input}
use Rattle.estelle_tree.specs.Spans.{of_const}
use Rattle.estelle_tree.specs.Spelling.{Spelling, Chain, Ended, Lines}
use Rattle.estelle_tree.specs.Declarations.{IsConstDef, IsTypeDef, IsRoutine}
use Rattle.estelle_tree.specs.Specification.{IsChannel, IsHeader}
use Rattle.scope_rules.specs.declared.declaration.Declared.{Declared}
use Rattle.scope_rules.specs.declared.declaration.Denotes.{Denotes}
use Rattle.scope_rules.specs.declared.declaration.Denotes.TheVariants as d
use Rattle.scope_rules.specs.declared.declaration.Need.TheVariants as need
use Rattle.scope_rules.specs.declared.declaration.Inside.TheVariants.{Nothing, At}
use Rattle.scope_rules.specs.declared.declaration.Members.TheVariants as members
use Rattle.scope_rules.specs.declared.event.ScopeForm.TheVariants as scope
use Rattle.scope_rules.specs.declared.event.Event.TheVariants.{Open, Close, Keep, Declare, By}
use Rattle.scope_rules.specs.TypeEvents.{Events, use_alone, declare, const_events, type_events, inside, typed_names}
use Rattle.scope_rules.specs.ExpressionEvents.{optional}
use Rattle.scope_rules.specs.StatementEvents.{stmts}
use Rattle.scope_rules.specs.DeclarationEvents as defining
use Rattle.scope_rules.specs.DeclarationEvents.{formals, result_type, block_decl_events, routine}
use Rattle.scope_rules.specs.SpecificationEvents.{param_group, params, inter, inter_group, channel, ip_decl, modvar_decl, stateset_def, header}
use Rattle.scope_rules.specs.Visible.{Scopes, Level, is_body}
use Rattle.scope_rules.specs.Scopes.{after, after_one, declaration, declare_level, innermost, names_of_top, below}
use Rattle.type_rules.specs.declared.types.Value.{Value}
use Rattle.type_rules.specs.Meanings as rules
use Rattle.type_rules.specs.Meanings.{Env, entity_at, const_value}
use Rattle.type_rules.specs.TypeSites.{const_site}
use Rattle.estelle_model.specs.declared.meaning.Role.TheVariants.{First, Second}
use Rattle.estelle_model.specs.declared.meaning.Senders.{Senders}
use Rattle.estelle_model.specs.declared.meaning.Meaning.TheVariants as mean
use Rattle.estelle_model.specs.Meant.{Meanings}
use Rattle.estelle_model.specs.Constants.{const_meaning}
use Rattle.estelle_model.specs.Denoted as model
use Rattle.estelle_model.specs.Denoted.{Declarations, Section, numbered, types_declare, sections_declare, section_types, count_names, typing, of_named_type}
use Rattle.estelle_model.specs.Definitions.{const_def, type_def, local, routine_declares, parameter_sections, senders, inter_declares, group_declares, channel_declares}
use Rattle.estelle_model.specs.Bodies.{export_sections, ip_names, header_declares}
use Rattle.body_table.specs.Headers.{header_means}
use Rattle.accepted_states.proofs.Uses.{Say, say_front, say_back, after-append}
use Rattle.accepted_states.proofs.Scopes.{Stands, plain_declare, opened}
use Rattle.accepted_states.proofs.Fine.{Less, less_same, less_more, less_takes, name_less, less_of, may_be_lines}
use Rattle.accepted_states.proofs.FineDeclarations.{const_def_fine, type_def_fine, routine_inside_fine, routine_fine}
use Rattle.accepted_states.proofs.FineSpecification.{attr_less, may_be_params_fine, ip_fine, channel_fine, header_inside_fine, header_fine}
use Rattle.trace_forms.proofs.Lists.{all_append, all_front, all_back, all_flat}
use Rattle.trace_forms.proofs.TypesFound.{AllNames}
use Rattle.trace_forms.proofs.InSight.{KeepsAway, below_are, named_are, one_kept, NoHeader, IsSound, AreSound, IsSeenIn, InSight, names_stay, sight_stays}
use Rattle.trace_forms.proofs.Typeless.{const_quiet}
use Rattle.trace_forms.proofs.Keeps.{KeepsHere, AllKeep, less_onward, keep_earlier, quiet_keeps, type_keeps}
use Rattle.trace_forms.proofs.Kept.{Kept}
use Rattle.trace_forms.proofs.Declared.{AllTold, ConstFirm, all_alike}
use Rattle.trace_forms.proofs.Filled.{TypeFilled, named_filled, UsesHeld, const_held}
use Rattle.trace_forms.proofs.FilledTypes.{HasFilledArrays}
use Rattle.trace_forms.proofs.Held.{Known, AllHeld, held_append}
use Rattle.trace_forms.proofs.Needed.{NameKnown, EventKnown, UsesKnown, uses_held}
use Rattle.trace_forms.proofs.Idle.{idle_held, numbered_idle, sections_idle, const_idle, routine_idle}
use Rattle.trace_forms.proofs.Sight.{Past, text_later, past_later, name_past, name_ends, keep_away, put_here, Within, Brings, AllBring, Sight, closed, sight_more, sight_known, sight_later, sight_behind, sight_one, read, levels_closed}
use Rattle.trace_forms.proofs.Adds.{others_known, const_bring, Adds, AddsIn, type_adds, may_be_vars_add}

-- ---- events that declare neither constants nor types nor headers

plain_names : (K : Known) (xs : List Name) (kind : Denotes) → (kind ≡ d.Header → ⊥) → (kind ≡ d.Constant → ⊥) → (kind ≡ d.Type → ⊥) → (kind ≡ d.Header → ⊥) × AllByRecursion (λ (x : Name). NameKnown K x.word (declaration x kind members.Nothing)) xs
plain_names K xs kind a b c = (a, others_known K kind b c xs)

group_bring : (K : Known) (g : ParamGroup) → AllBring K (param_group g)
group_bring K g = (tt, (plain_names K g.names.names d.Variable (λ e. cc) (λ e. cc) (λ e. cc), tt))

params_bring : (K : Known) (o : Option Params) → AllBring K (optional params o)
params_bring K None = tt
params_bring K (Some x) = all_flat (Brings K) param_group (group_bring K) x.groups

inter_bring : (K : Known) (x : Inter) → AllBring K (inter x)
inter_bring K x = (plain_names K (x.name ∷ []) d.Interaction (λ e. cc) (λ e. cc) (λ e. cc), (tt, all_append (Brings K) (optional params x.params) (Keep x.name.span ∷ []) (params_bring K x.params) (tt, tt)))

by_bring : (K : Known) (xs : List Name) → AllBring K (map By xs)
by_bring K [] = tt
by_bring K (x ∷ xs) = (tt, by_bring K xs)

inters_bring : (K : Known) (g : InterGroup) → AllBring K (inter_group g)
inters_bring K g = all_append (Brings K) (map By g.roles.names) (flat_map inter g.inters) (by_bring K g.roles.names) (all_flat (Brings K) inter (inter_bring K) g.inters)

channel_bring : (K : Known) (c : Channel) → AllBring K (channel c)
channel_bring K c = (
  plain_names K (c.name ∷ []) d.Channel (λ e. cc) (λ e. cc) (λ e. cc),
  (tt, (plain_names K (c.first_role ∷ c.second_role ∷ []) d.Role (λ e. cc) (λ e. cc) (λ e. cc), all_append (Brings K) (flat_map inter_group c.groups) (Keep c.name.span ∷ []) (all_flat (Brings K) inter_group (inters_bring K) c.groups) (tt, tt))),
)

pub ips_bring : (K : Known) (ps : List IpDecl) → AllBring K (flat_map ip_decl ps)
ips_bring K = all_flat (Brings K) ip_decl (λ p. (tt, (plain_names K p.names.names d.Ip (λ e. cc) (λ e. cc) (λ e. cc), tt)))

pub modvars_bring : (K : Known) (ms : List ModvarDecl) → AllBring K (flat_map modvar_decl ms)
modvars_bring K = all_flat (Brings K) modvar_decl (λ m. (tt, (plain_names K m.names.names d.ModuleVariable (λ e. cc) (λ e. cc) (λ e. cc), tt)))

pub states_bring : (K : Known) (xs : List Name) → AllBring K (Declare xs d.State Nothing ∷ [])
states_bring K xs = (plain_names K xs d.State (λ e. cc) (λ e. cc) (λ e. cc), tt)

pub statesets_bring : (K : Known) (ss : List StatesetDef) → AllBring K (flat_map stateset_def ss)
statesets_bring K = all_flat (Brings K) stateset_def
    (λ s. all_append (Brings K) (flat_map (use_alone need.State) s.states.names) (declare s.name d.StateSet Nothing) (all_flat (Brings K) (use_alone need.State) (λ x. (tt, tt)) s.states.names) (plain_names K (s.name ∷ []) d.StateSet (λ e. cc) (λ e. cc) (λ e. cc), tt))

-- names : what is known of the names in use; env : what the rules know
module _ (names : List Used) (env : Env) where
  -- what is known behind declarations, and in sight behind their events
  pub record Walked (K : Known) (j : Input) (s : Scopes) (ds : Declarations) : Type 0 where
    pub known : Known
    pub held : AllHeld names env K ds known
    pub more : Within K known
    pub sight : Sight j closed known s

  -- so it is from one place to another, whatever is known and in sight at the first
  abbrev pub Walk : Input → Input → Events → Declarations → Type 0
  Walk i j es ds = (K : Known) (s : Scopes) → Sight i closed K s → Say names s es → Walked K j (after s es) ds

  pub walk_nil : {i j : Input} → Less i j → Walk i j [] []
  walk_nil l K s sight say = record { known = K; held = refl; more = λ e o. o; sight = sight_later l sight }

  walk_append : {i m j : Input} (es fs : Events) (ds gs : Declarations) → Walk i m es ds → Walk m j fs gs → Walk i j (es ++ fs) (ds ++ gs)
  walk_append {i} {m} {j} es fs ds gs h g K s sight say =
      let a = h K s sight (say_front names s es fs say) in
      let b = g a.known (after s es) a.sight (say_back names s es fs say) in
      record {
        known = b.known;
        held = held_append names env K a.known b.known ds gs a.held b.held;
        more = λ e o. b.more e (a.more e o);
        sight = subst (Sight j closed b.known) (sym (after-append s es fs)) b.sight;
      }

  pub walk_less : {i m j : Input} (es : Events) (ds : Declarations) → Less i m → Walk m j es ds → Walk i j es ds
  walk_less es ds l h K s sight say = h K s (sight_later l sight) say

  walk_end : {i m j : Input} (es : Events) (ds : Declarations) → Walk i m es ds → Less m j → Walk i j es ds
  walk_end es ds h l K s sight say = let a = h K s sight say in record { known = a.known; held = a.held; more = a.more; sight = sight_later l a.sight }

  -- what types and variables add
  pub walk_adds : {i j : Input} (es : Events) (ds : Declarations) → AddsIn names env i j es ds → AllKeep i es → Walk i j es ds
  walk_adds {i} {j} es ds h keeps K s sight say =
      let a = h.adds sight.text K in
      let r = read i closed a.known names s es a.bring (keep_away i es keeps) (sight_known closed a.known a.more sight) say in
      record { known = a.known; held = a.held; more = a.more; sight = sight_later h.less r.1 }

  module _ {A : Type 0} (f : A → Events) (g : A → Declarations) (P : Spelling A) (Q : A → Type 0) (one : (x : A) (i j : Input) → P x i j → Q x → Walk i j (f x) (g x)) where
    chain_walks : (xs : List A) (i j : Input) → Chain (Ended k.Semicolon P) xs i j → AllByRecursion Q xs → Walk i j (flat_map f xs) (flat_map g xs)
    chain_walks [] i j h q = walk_nil (less_same h)
    chain_walks (x ∷ xs) i j h q =
        walk_append (f x) (flat_map f xs) (g x) (flat_map g xs) (walk_end (f x) (g x) (one x i h.1.mid h.1.item q.0) (less_takes h.1.mark)) (chain_walks xs h.0 j h.2 q.1)

    -- of lines one after another
    pub lines_walk : (xs : List A) (i j : Input) → Lines P xs i j → AllByRecursion Q xs → Walk i j (flat_map f xs) (flat_map g xs)
    lines_walk [] i j h q = absurd h
    lines_walk (x ∷ xs) i j h q = chain_walks (x ∷ xs) i j h q

  -- ---- constants and types

  -- the rules know the value of a constant
  abbrev pub HasValue : ConstDef → Type 0
  HasValue x = (w : Value) × (const_value env x.value ≡ Some w)

  -- where its site is kept they do
  pub const_there : (x : ConstDef) → Kept (const_site env x.value) → HasValue x
  const_there x kept = by (const_value env x.value) refl
    where
      by : (o : Option Value) → const_value env x.value ≡ o → HasValue x
      by None e = absurd ((kept.0 (of_const x.value)).0 (e, refl))
      by (Some w) e = (w, e)

  abbrev pub ConstReady : ConstDef → Type 0
  ConstReady x = ConstFirm x.value × HasValue x

  pub const_walks : (x : ConstDef) (i j : Input) → IsConstDef x i j → ConstReady x → Walk i j (defining.const_def x) (const_def x)
  const_walks x i j h ready K s sight say =
      let c = x.value in
      let C = const_events c in
      let D = declare x.name d.Constant Nothing in
      let own : Denotes × ℕ = (d.Constant, x.name.span.start) in
      let L : Known = own ∷ K in
      let first = read i closed K names s C (const_bring K c) (keep_away i C (quiet_keeps i C (const_quiet c))) sight (say_front names s C D say) in
      let ends = name_ends h.first sight.text in
      let named : AllBring L D = ((λ e. cc, ((λ is. (λ g. inl refl, λ g. absurd (let f = sym g ∙ ends in cc)), λ is. absurd (cc)), tt)), tt) in
      let second = read i closed L names (after s C) D named (tt, tt) (sight_known closed L (λ e o. inr o) first.1) (say_back names s C D say) in
      record {
        known = L;
        held = (own ∷ [], (λ meant told m. ((const_idle x).0 meant, ((const_meaning meant c, (inl refl, const_held env meant told c ready.0 (uses_held names env K meant told m C first.0) ready.1.0 ready.1.1)), tt)), refl));
        more = λ e o. inr o;
        sight = sight_later (less_of (const_def_fine x i j h)) (subst (Sight i closed L) (sym (after-append s C D)) second.1);
      }

  -- where what it uses is held, a type definition says a filled type
  abbrev pub TypeReady : TypeDef → Type 0
  TypeReady x = (meant : Meanings) (told : AllTold env meant) → UsesHeld env meant told (type_events x.type_expr) → TypeFilled (entity_at env x.name.span.start).meaning (mean.TypeName ((typing x.type_expr).denotes meant))

  pub type_walks : (room : ℕ) (x : TypeDef) (i j : Input) → IsTypeDef room x i j → TypeReady x → Walk i j (defining.type_def x) (type_def x)
  type_walks room x i j h ready K s sight say =
      let T = type_events x.type_expr in
      let D = declare x.name d.Type (inside x.type_expr) in
      let front = less_more (name_less h.first) (less_takes h.mark) in
      let a = (type_adds names env room x.type_expr h.at j h.second).adds (text_later front sight.text) K in
      let keeps = keep_earlier i h.at (less_onward front) T (type_keeps room x.type_expr h.at j h.second).keeps in
      let own : Denotes × ℕ = (d.Type, x.name.span.start) in
      let L : Known = own ∷ a.known in
      let first = read i closed a.known names s T a.bring (keep_away i T keeps) (sight_known closed a.known a.more sight) (say_front names s T D say) in
      let named : AllBring L D = ((λ e. cc, ((λ is. absurd (cc), λ is g. inl refl), tt)), tt) in
      let second = read i closed L names (after s T) D named (tt, tt) (sight_known closed L (λ e o. inr o) first.1) (say_back names s T D say) in
      record {
        known = L;
        held = held_append names env K a.known L (typing x.type_expr).declares (model.declare x.name (λ meant. mean.TypeName ((typing x.type_expr).denotes meant)) ∷ []) a.held
            (own ∷ [], (λ meant told m. ((tt, tt), ((mean.TypeName ((typing x.type_expr).denotes meant), (inl refl, ready meant told (uses_held names env a.known meant told m T first.0))), tt)), refl));
        more = λ e o. inr (a.more e o);
        sight = sight_later (less_of (type_def_fine room x i j h)) (subst (Sight i closed L) (sym (after-append s T D)) second.1);
      }

  -- ---- channels

  module _ (meant : Meanings) (told : AllTold env meant) where
    groups_filled : (gs : List ParamGroup) → UsesHeld env meant told (flat_map param_group gs) → AllByRecursion (λ (s : Section). HasFilledArrays (s.1.denotes meant)) (map (λ (g : ParamGroup). of_named_type g.names.names g.type_name) gs)
    groups_filled [] u = tt
    groups_filled (g ∷ gs) u = ((named_filled (rules.known env g.type_name) (meant g.type_name) u.0).0, groups_filled gs u.1.1)

    parameters_filled : (o : Option Params) → UsesHeld env meant told (optional params o) → AllByRecursion (λ (s : Section). HasFilledArrays (s.1.denotes meant)) (parameter_sections o)
    parameters_filled None u = tt
    parameters_filled (Some x) u = all_append (λ (s : Section). HasFilledArrays (s.1.denotes meant)) (map (λ (g : ParamGroup). of_named_type g.names.names g.type_name) x.groups) [] (groups_filled x.groups u) tt

    types_filled : (ss : List Section) → AllByRecursion (λ (s : Section). HasFilledArrays (s.1.denotes meant)) ss → AllByRecursion HasFilledArrays (section_types meant ss)
    types_filled [] h = tt
    types_filled (s ∷ ss) h = all_append HasFilledArrays (replicate (length s.0) (s.1.denotes meant)) (section_types meant ss) (all_alike env HasFilledArrays (s.1.denotes meant) (length s.0) h.0) (types_filled ss h.1)

  -- the parameters of its interactions are filled, where the types that it names are known
  module _ (K : Known) where
    inter_held : (at : ℕ) (by : Senders) (x : Inter) → UsesKnown names K (inter x) → AllHeld names env K (inter_declares at by x) K
    inter_held at by x u =
        let ss = parameter_sections x.params in
        let P = optional params x.params in
        held_append names env K K K (sections_declare local 0 ss) (model.declare x.name (λ meant. mean.Interaction (record { channel = at; word = x.name.word; senders = by; parameters = section_types meant ss })) ∷ []) (idle_held names env K (sections_declare local 0 ss) (sections_idle local (λ meant n t. tt) 0 ss))
        ([], (λ meant told m. ((types_filled meant told ss (parameters_filled meant told x.params (uses_held names env K meant told m P (all_front (EventKnown names K) P (Keep x.name.span ∷ []) u.1.1))), tt), tt), refl))

    held_flat : {A : Type 0} (f : A → Events) (g : A → Declarations) → ((x : A) → UsesKnown names K (f x) → AllHeld names env K (g x) K) → (xs : List A) → UsesKnown names K (flat_map f xs) → AllHeld names env K (flat_map g xs) K
    held_flat f g h [] u = refl
    held_flat f g h (x ∷ xs) u = held_append names env K K K (g x) (flat_map g xs) (h x (all_front (EventKnown names K) (f x) (flat_map f xs) u)) (held_flat f g h xs (all_back (EventKnown names K) (f x) (flat_map f xs) u))

    group_held : (c : Channel) (g : InterGroup) → UsesKnown names K (inter_group g) → AllHeld names env K (group_declares c g) K
    group_held c g u = held_flat inter (inter_declares c.name.span.start (senders c g)) (inter_held c.name.span.start (senders c g)) g.inters (all_back (EventKnown names K) (map By g.roles.names) (flat_map inter g.inters) u)

    channel_held : (c : Channel) → UsesKnown names K (channel c) → AllHeld names env K (channel_declares c) K
    channel_held c u =
        let first = model.declare c.name (λ meant. mean.Channel c.name.span.start) ∷ model.declare c.first_role (λ meant. mean.Role First) ∷ model.declare c.second_role (λ meant. mean.Role Second) ∷ [] in
        held_append names env K K K first (flat_map (group_declares c) c.groups) (idle_held names env K first (λ meant. (tt, tt), (λ meant. (tt, tt), (λ meant. (tt, tt), tt))))
        (held_flat inter_group (group_declares c) (group_held c) c.groups (all_front (EventKnown names K) (flat_map inter_group c.groups) (Keep c.name.span ∷ []) u.1.1.1))

  pub channel_walks : (c : Channel) (i j : Input) → IsChannel c i j → AllKeep i (channel c) → Walk i j (channel c) (channel_declares c)
  channel_walks c i j h keeps K s sight say =
      let r = read i closed K names s (channel c) (channel_bring K c) (keep_away i (channel c) keeps) sight say in
      record { known = K; held = channel_held K c r.0; more = λ e o. o; sight = sight_later (less_of (channel_fine c i j h)) r.1 }

  -- ---- routines

  pub routine_walks : (room : ℕ) (r : Routine) (i j : Input) → IsRoutine room r i j → AllKeep i (routine r) → (ys : List Name) (outer : List Level) (K : Known) (s : Scopes) → Sight i closed K s → Stands ys scope.Body outer s → Walked K j (after s (routine r)) (routine_declares r)
  routine_walks room r i j h keeps ys outer K s sight st =
      let A = optional formals r.formals in
      let B = result_type r.form in
      let C = flat_map block_decl_events r.decls in
      let E = stmts r.body in
      let same : routine r ≡ Open scope.Inner ∷ ((A ++ (B ++ (C ++ E))) ++ Close ∷ []) =
      ap (λ es. Open scope.Inner ∷ es) (sym (append_assoc A (B ++ (C ++ E)) (Close ∷ []) ∙ ap (λ es. A ++ es) (append_assoc B (C ++ E) (Close ∷ []) ∙ ap (λ es. B ++ es) (append_assoc C E (Close ∷ []))))) in
      let levels = ap (λ es. (after s es).levels) same ∙ levels_closed ys [] scope.Body scope.Inner outer s (A ++ (B ++ (C ++ E))) ((routine_inside_fine room r i j h).plain []) st in
      record {
        known = K;
        held = idle_held names env K (routine_declares r) (routine_idle r);
        more = λ e o. o;
        sight = sight_behind i closed K (routine r) s.levels keeps (less_of (routine_fine room r i j h)) levels sight.levels sight;
      }

  -- ---- headers

  module _ (room : ℕ) (by_default : Bool) (x : Header) (i j : Input) (h : IsHeader room x i j) (keeps : AllKeep i (header x)) (ys : List Name) (outer : List Level) (K : Known) (s : Scopes) (sight : Sight i closed K s) (st : Stands ys scope.Body outer s)
      (say : Say names s (header x)) where
    -- its parameters, its interaction points, its exported variables, and what keeps their names
    abbrev given : Events
    given = optional params x.params

    abbrev points : Events
    points = flat_map ip_decl x.ips

    abbrev exported : Events
    exported = flat_map (typed_names d.Exported) x.exports

    abbrev keeping : Events
    keeping = Keep x.name.span ∷ []

    -- what stands in it
    abbrev inner : Events
    inner = given ++ (points ++ exported)

    -- it is not closed yet
    abbrev pending : ℕ → Type 0
    pending p = p ≡ x.name.span.start

    to_ips : Less i h.after_ips
    to_ips =
        less_more (less_takes h.name.mark) (less_more (name_less h.name.item) (less_more (attr_less x.attr h.after_name h.after_attr h.attr) (less_more (less_of (may_be_params_fine x.params h.after_attr h.after_params h.params))
        (less_more (less_takes h.semicolon) (less_of (may_be_lines k.Ip ip_fine x.ips h.after_head h.after_ips h.ips))))))

    added : Adds names env K exported (types_declare (export_sections x))
    added = (may_be_vars_add names env room d.Exported (λ e. cc) (λ e. cc) (λ e. cc) x.exports h.after_ips h.after_exports h.exports).adds (text_later to_ips sight.text) K

    -- what is known behind it
    abbrev behind_it : Known
    behind_it = added.known

    -- the scopes behind its name, in it, at its end and behind it
    abbrev s1 : Scopes
    s1 = after_one s (Declare (x.name ∷ []) d.Header (At x.name.span))

    abbrev s2 : Scopes
    s2 = after_one s1 (Open scope.Inner)

    abbrev s3 : Scopes
    s3 = after s2 inner

    abbrev s4 : Scopes
    s4 = after_one s3 (Keep x.name.span)

    abbrev own : Declared
    own = declaration x.name d.Header (members.KeptAt x.name.span.start)

    own_seen : IsSeenIn (Past i) pending (NameKnown behind_it) s.kept st.top.form x.name.word own
    own_seen = (((λ is. absurd (cc), λ is. absurd (cc)), λ is. (x.name.span.start, (refl, inl refl))), λ no is. absurd (let f : true ≡ false = sym (ap is_body st.form) ∙ no in cc))

    with_name : Sight i pending behind_it s1
    with_name =
        let base = sight_more closed pending behind_it (λ p e. absurd e) (less_same {i = i} refl) added.more sight in
        record {
          text = base.text;
          levels = subst (InSight (Past i) pending (NameKnown behind_it) s.kept) (sym (ap (innermost (declare_level x.name.word own)) st.levels))
              (named_are (IsSeenIn (Past i) pending (NameKnown behind_it) s.kept) (AreSound (Past i) pending (NameKnown behind_it) s.kept) x.name.word own st.top outer own_seen (subst (InSight (Past i) pending (NameKnown behind_it) s.kept) st.levels base.levels));
        }

    joined : given ++ (points ++ (exported ++ keeping)) ≡ inner ++ keeping
    joined = sym (append_assoc given (points ++ exported) keeping ∙ ap (λ es. given ++ es) (append_assoc points exported keeping))

    keeps_inside : AllKeep i (inner ++ keeping)
    keeps_inside = subst (AllKeep i) joined keeps.1.1

    inner_bring : AllBring behind_it inner
    inner_bring = all_append (Brings behind_it) given (points ++ exported) (params_bring behind_it x.params) (all_append (Brings behind_it) points exported (ips_bring behind_it x.ips) added.bring)

    at_end : Sight i pending behind_it s3
    at_end = (read i pending behind_it names s2 inner inner_bring (keep_away i inner (all_front (KeepsHere i) inner keeping keeps_inside)) (sight_one i pending behind_it s1 (Open scope.Inner) tt tt with_name) (say_front names s2 inner keeping (subst (Say names s2) joined say.1.1))).1

    stands_at_end : Stands [] scope.Inner s1.levels s3
    stands_at_end = (header_inside_fine room x i j h).plain [] scope.Inner s1.levels s2 (opened ys [] scope.Body scope.Inner outer s1 (plain_declare (x.name ∷ []) d.Header (At x.name.span) (λ e. cc) ys scope.Body outer s st))

    away : KeepsAway (Past i) (Keep x.name.span)
    away = (keep_away i keeping (all_back (KeepsHere i) inner keeping keeps_inside)).0

    whole : Less i j
    whole = less_of (header_fine room x i j h)

    names_in_header : AllNames (NoHeader (NameKnown behind_it)) (names_of_top s3.levels)
    names_in_header =
        let st3 = stands_at_end in
        subst (λ ls. AllNames (NoHeader (NameKnown behind_it)) (names_of_top ls)) (sym st3.levels)
        (names_stay (IsSeenIn (Past i) pending (NameKnown behind_it) s3.kept st3.top.form) (NoHeader (NameKnown behind_it)) (λ w e g. (g.0.0, g.1 (ap is_body st3.form))) st3.top.names (subst (InSight (Past i) pending (NameKnown behind_it) s3.kept) st3.levels at_end.levels).0.0)

    sound : IsSound (Past j) closed (NameKnown behind_it) s4.kept x.name.span.start
    sound = (
      past_later h.after_name j (less_of (header_inside_fine room x i j h)) x.name.span.start (name_past h.name.item (text_later (less_takes h.name.mark) sight.text)),
      subst (AllNames (NoHeader (NameKnown behind_it))) (sym (put_here x.name.span.start (names_of_top s3.levels) s3.kept)) names_in_header,
    )

    turned : (p : ℕ) → pending p → closed p ⊎ IsSound (Past j) closed (NameKnown behind_it) s4.kept p
    turned p e = inr (subst (IsSound (Past j) closed (NameKnown behind_it) s4.kept) (sym e) sound)

    behind : Sight j closed behind_it s4
    behind = record {
      text = text_later whole sight.text;
      levels = sight_stays (Past i) (Past j) pending closed (NameKnown behind_it) (NameKnown behind_it) s3.kept s4.kept (past_later i j whole) turned (λ w e g. g) (one_kept (Past i) s3 (Keep x.name.span) away) (below s3.levels)
          (below_are (IsSeenIn (Past i) pending (NameKnown behind_it) s3.kept) (AreSound (Past i) pending (NameKnown behind_it) s3.kept) s3.levels at_end.levels);
    }

    held : AllHeld names env K (header_declares by_default x) behind_it
    held =
        let A = types_declare (export_sections x) in
        let B = sections_declare (λ known n t. mean.Own n t) 0 (parameter_sections x.params) in
        let C = sections_declare (λ known n t. mean.Exported n t) (count_names (parameter_sections x.params)) (export_sections x) in
        let D = numbered (λ n known. mean.Ip n) 0 (ip_names x.ips) in
        held_append names env K behind_it behind_it (A ++ B ++ C ++ D) (model.declare x.name (header_means by_default x) ∷ [])
        (held_append names env K behind_it behind_it (A ++ B ++ C) D
        (held_append names env K behind_it behind_it (A ++ B) C
        (held_append names env K behind_it behind_it A B added.held (idle_held names env behind_it B (sections_idle (λ known n t. mean.Own n t) (λ meant n t. tt) 0 (parameter_sections x.params))))
        (idle_held names env behind_it C (sections_idle (λ known n t. mean.Exported n t) (λ meant n t. tt) (count_names (parameter_sections x.params)) (export_sections x))))
        (idle_held names env behind_it D (numbered_idle (λ n known. mean.Ip n) (λ n meant. tt) 0 (ip_names x.ips))))
        ([], (λ meant told m. ((tt, tt), tt), refl))

    pub header_walks : Walked K j (after s (header x)) (header_declares by_default x)
    header_walks = record { known = behind_it; held = held; more = added.more; sight = subst (Sight j closed behind_it) (sym (ap (after s2) joined ∙ after-append s2 inner keeping)) behind }
