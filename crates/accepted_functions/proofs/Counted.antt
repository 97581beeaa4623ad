-- What is spelled declares no more names than there are tokens: each declared name is a token of its own.
use Rattle.std.proofs.Common.{◌≡◌, ◌∙◌, ℕ, zero, suc, ◌+◌, ◌≤◌, Bool, List, [], ◌∷◌, ◌++◌, map, drop, length, Option, Some, None, refl, ap, sym, subst, arith, append_assoc, append-nil}
use Rattle.std.specs.List.{flat_map}
use Rattle.estelle_tree.specs.declared.kind.Kind.{Kind}
use Rattle.estelle_tree.specs.declared.kind.Kind.TheVariants as k
use Rattle.estelle_tree.specs.declared.span.Span.{Span}
use Rattle.estelle_tree.specs.declared.tree.name.Name.{Name}
use Rattle.estelle_tree.specs.declared.tree.name.NameList.{NameList}
use Rattle.estelle_tree.specs.declared.tree.type_expr.Ordinal.{Ordinal}
use Rattle.estelle_tree.specs.declared.tree.type_expr.Ordinal.TheVariants as ordinal
use Rattle.estelle_tree.specs.declared.tree.type_expr.TypeExpr.{TypeExpr, out-TypeExpr, map-TypeExpr}
use Rattle.estelle_tree.specs.declared.tree.type_expr.TypeExpr.TheOpen.{TypeExpr-F}
use Rattle.estelle_tree.specs.declared.tree.type_expr.Fields.{Fields, out-Fields}
use Rattle.estelle_tree.specs.declared.tree.type_expr.TypedNames.{TypedNames, out-TypedNames}
use Rattle.estelle_tree.specs.declared.tree.declaration.BlockDecl.TheVariants as block_decl
use Rattle.estelle_tree.specs.declared.tree.declaration.Routine.{Routine}
use Rattle.estelle_tree.specs.declared.tree.declaration.RoutineForm.TheVariants as routine_form
use Rattle.estelle_tree.specs.declared.tree.clause.AnyDom.{AnyDom}
use Rattle.estelle_tree.specs.declared.tree.clause.Clause.TheVariants as clause
use Rattle.estelle_tree.specs.declared.tree.clause.Clause.{Clause}
use Rattle.estelle_tree.specs.declared.tree.clause.DelayHigh.{DelayHigh}
use Rattle.estelle_tree.specs.declared.tree.clause.NextState.{NextState}
use Rattle.estelle_tree.specs.declared.tree.clause.DelayHigh.TheVariants as delay_high
use Rattle.estelle_tree.specs.declared.tree.clause.NextState.TheVariants as next_state
use Rattle.estelle_tree.specs.declared.tree.clause.Group.{Group, out-Group}
use Rattle.estelle_tree.specs.declared.tree.clause.TransBody.{TransBody, out-TransBody, map-TransBody}
use Rattle.estelle_tree.specs.declared.tree.clause.TransBody.TheOpen.{TransBody-F}
use Rattle.estelle_tree.specs.Input.{Input}
use Rattle.estelle_tree.specs.Spans.{TypeExprLayer, TransBodyLayer, of_ordinal}
use Rattle.estelle_tree.specs.Spelling.{Spelling, Chain, Several, Optional, Behind, Ended, Separated, Enclosed, Lines, MayBeLines}
use Rattle.estelle_tree.specs.Types.{IsName, IsNames, IsOrdinal, AreTyped, AreFields, IsTypeLayer, TypeBelow, IsType}
use Rattle.estelle_tree.specs.Declarations.{IsConstDef, IsFormal, AreFormals, IsTypeDef, AreVars, IsBlockDecl, IsStatementPart, IsResult, IsRoutine}
use Rattle.estelle_tree.specs.Clauses.{IsAnyDom, IsBlock, IsClause, way_of, clause_kinds, MoreGroups, AreGroups, TransBodyLayerOf, TransBodyOf, GroupOf, GroupWithin}
use Rattle.estelle_tree.specs.Specification.{AreParams, IsParams, MayBeParams, IsInter, AreInters, IsChannel, IsIpDecl, AreModvars, IsStateset, IsHeader, IsInit, IsTrans}
use Rattle.scope_rules.specs.declared.declaration.Denotes.{Denotes}
use Rattle.scope_rules.specs.declared.declaration.Denotes.TheVariants as d
use Rattle.scope_rules.specs.declared.declaration.Inside.{Inside}
use Rattle.scope_rules.specs.declared.declaration.Inside.TheVariants.{Nothing, At, Brought}
use Rattle.scope_rules.specs.declared.declaration.Need.{Need}
use Rattle.scope_rules.specs.declared.declaration.Need.TheVariants as need
use Rattle.scope_rules.specs.declared.event.Step.TheVariants as step
use Rattle.scope_rules.specs.declared.event.ScopeForm.{ScopeForm}
use Rattle.scope_rules.specs.declared.event.ScopeForm.TheVariants as scope
use Rattle.scope_rules.specs.declared.event.Event.{Event}
use Rattle.scope_rules.specs.declared.event.Event.TheVariants.{Open, Close, Keep, Declare, Use, By}
use Rattle.scope_rules.specs.TypeEvents.{Events, use_alone, Typed, Section, const_events, ordinal_events, array_events, type_events, typed, sections, section, type_layer, record_events, typed_names, inside, of_type_name}
use Rattle.scope_rules.specs.ExpressionEvents.{optional, expr}
use Rattle.scope_rules.specs.StatementEvents.{stmts}
use Rattle.scope_rules.specs.DeclarationEvents.{const_def, type_def, block_decl_events, parameters, formal, formals, result_type, routine}
use Rattle.scope_rules.specs.ClauseEvents.{block, next_state_events, delay_high_events, clause_events, trans_body_layer, trans_body, group}
use Rattle.scope_rules.specs.SpecificationEvents.{param_group, params, inter, inter_group, channel, ip_decl, modvar_decl, stateset_def, header, first_state, init, trans}
use Rattle.scope_names_events.proofs.TypeEquations.{type_is, sections_is, section_is, record_is}
use Rattle.scope_names_events.proofs.ClauseEquations.{trans_body_is, group_is}
use Rattle.scope_names_events.proofs.WritingLemmas.{chain_map}
use Rattle.accepted_states.proofs.Lists.{Each, each_append, count, one_if, count-append, flat-append}
use Rattle.accepted_states.proofs.Fine.{among, Less, less_same, less_more, less_takes, less_name, less_names, less_flag, name_less, less_of}
use Rattle.accepted_states.proofs.FineTypes.{const_fine, ordinal_fine}
use Rattle.accepted_states.proofs.FineDeclarations.{part_fine, label_less, clause_fine}
use Rattle.accepted_states.proofs.FineSpecification.{queue_less, attr_less}
use Rattle.accepted_states.proofs.Fit as fit
use Rattle.accepted_states.proofs.Fit.{starts, names_weight, Frame, One, names_covered}
use Rattle.accepted_functions.proofs.Uses.{expr_all, const_all, stmts_all}
use Rattle.accepted_functions.proofs.Found.{Entry, declares_at, declares_in}

-- ---- how many names are declared at such places

abbrev pub stands : (ℕ → Bool) → Entry → Bool
stands t z = t z.1.span.start

abbrev pub weigh : (ℕ → Bool) → Events → ℕ
weigh t es = count (stands t) (declares_in es)

pub weigh-append : (t : ℕ → Bool) (es fs : Events) → weigh t (es ++ fs) ≡ weigh t es + weigh t fs
weigh-append t es fs = ap (count (stands t)) (flat-append declares_at es fs) ∙ count-append (stands t) (declares_in es) (declares_in fs)

weigh_named : (t : ℕ → Bool) (k : Denotes) (xs : List Name) → count (stands t) (map (λ (x : Name). (k, x)) xs) ≡ names_weight t xs
weigh_named t k [] = refl
weigh_named t k (x ∷ xs) = ap (λ n. one_if (t x.span.start) + n) (weigh_named t k xs)

weigh_declared : (t : ℕ → Bool) (xs : List Name) (k : Denotes) (inside : Inside) → weigh t (Declare xs k inside ∷ []) ≡ names_weight t xs
weigh_declared t xs k inside = ap (count (stands t)) (append-nil (map (λ (x : Name). (k, x)) xs)) ∙ weigh_named t k xs

-- each declared name is one of the tokens
pub record Counts (i j : Input) (es : Events) : Type 0 where
  pub few : (t : ℕ → Bool) → weigh t es + among (starts t) j ≤ among (starts t) i

abbrev pub AllCount : {A : Type 0} → (A → Events) → Spelling A → Type 0
AllCount {A} f P = (x : A) (i j : Input) → P x i j → Counts i j (f x)

-- an event that declares nothing
abbrev pub IsSilent : Event → Type 0
IsSilent (Declare names k inside) = ⊥
IsSilent e = Unit {0}

silent_none : (es : Events) → Each IsSilent es → (t : ℕ → Bool) → weigh t es ≡ 0
silent_none [] h t = refl
silent_none (Declare names k inside ∷ es) h t = absurd h.0
silent_none (_ ∷ es) h t = silent_none es h.1 t

pub counts_silent : {i j : Input} (es : Events) → Less i j → Each IsSilent es → Counts i j es
counts_silent es l h = record { few = λ t. let a = silent_none es h t in let b = l.most (starts t) in omega (arith, a, b) }

pub counts_nil : {i j : Input} → Less i j → Counts i j []
counts_nil l = counts_silent [] l tt

pub counts_append : {i m j : Input} {es fs : Events} → Counts i m es → Counts m j fs → Counts i j (es ++ fs)
counts_append {i} {m} {j} {es} {fs} h g = record { few = λ t. let a = weigh-append t es fs in let b = h.few t in let c = g.few t in omega (arith, a, b, c) }

-- the events of a part before those of what stands before it
pub counts_exchanged : {i m j : Input} {es fs : Events} → Counts i m es → Counts m j fs → Counts i j (fs ++ es)
counts_exchanged {i} {m} {j} {es} {fs} h g = record { few = λ t. let a = weigh-append t fs es in let b = h.few t in let c = g.few t in omega (arith, a, b, c) }

pub counts_less : {i m j : Input} {es : Events} → Less i m → Counts m j es → Counts i j es
counts_less l h = record { few = λ t. let a = l.most (starts t) in let b = h.few t in omega (arith, a, b) }

pub counts_end : {i m j : Input} {es : Events} → Counts i m es → Less m j → Counts i j es
counts_end h l = record { few = λ t. let a = l.most (starts t) in let b = h.few t in omega (arith, a, b) }

pub counts_name : {x : Name} {i j : Input} (k : Denotes) (inside : Inside) → IsName x i j → Counts i j (Declare (x ∷ []) k inside ∷ [])
counts_name {x} k inside h = record { few = λ t. let a = less_name h (starts t) in omega (arith, a) }

pub counts_names : {xs : NameList} {i j : Input} (k : Denotes) (inside : Inside) → IsNames xs i j → Counts i j (Declare xs.names k inside ∷ [])
counts_names {xs} {i} {j} k inside h = record { few = λ t. let a = weigh_declared t xs.names k inside in let b = names_covered xs i j h t in omega (arith, a, b) }

pub counts_scope : {i j : Input} {es : Events} (f : ScopeForm) → Counts i j es → Counts i j (Open f ∷ (es ++ Close ∷ []))
counts_scope {i} {j} {es} f h = record { few = λ t. let a = weigh-append t es (Close ∷ []) in let b = h.few t in omega (arith, a, b) }

pub counts_kept : {i j : Input} {es : Events} (at : Span) → Counts i j es → Counts i j (Open scope.Inner ∷ (es ++ Keep at ∷ []))
counts_kept {i} {j} {es} at h = record { few = λ t. let a = weigh-append t es (Keep at ∷ []) in let b = h.few t in omega (arith, a, b) }

-- ---- the forms of the grammar

pub chain : {A : Type 0} {f : A → Events} {P : Spelling A} → AllCount f P → AllCount (flat_map f) (Chain P)
chain F [] i j h = counts_nil (less_same h)
chain F (x ∷ xs) i j h = counts_append (F x i h.0 h.1) (chain F xs h.0 j h.2)

pub behind : {A : Type 0} {w : Kind} {f : A → Events} {P : Spelling A} → AllCount f P → AllCount f (Behind w P)
behind F x i j h = counts_less (less_takes h.mark) (F x h.at j h.item)

pub ended : {A : Type 0} {w : Kind} {f : A → Events} {P : Spelling A} → AllCount f P → AllCount f (Ended w P)
ended F x i j h = counts_end (F x i h.mid h.item) (less_takes h.mark)

pub enclosed : {A : Type 0} {v w : Kind} {f : A → Events} {P : Spelling A} → AllCount f P → AllCount f (Enclosed v w P)
enclosed F x i j h = counts_less (less_takes h.opens) (counts_end (F x h.at h.mid h.inside) (less_takes h.closes))

pub several : {A : Type 0} {f : A → Events} {P : Spelling A} → AllCount f P → AllCount (flat_map f) (Several P)
several F [] i j h = absurd h
several F (x ∷ xs) i j h = counts_append (F x i h.0 h.1) (chain F xs h.0 j h.2)

pub separated : {A : Type 0} (w : Kind) {f : A → Events} {P : Spelling A} → AllCount f P → AllCount (flat_map f) (Separated w P)
separated w F [] i j h = absurd h
separated w F (x ∷ xs) i j h = counts_append (F x i h.0 h.1) (chain (behind F) xs h.0 j h.2)

pub lines : {A : Type 0} {f : A → Events} {P : Spelling A} → AllCount f P → AllCount (flat_map f) (Lines P)
lines F = several (ended F)

pub may_be_lines : {A : Type 0} (w : Kind) {f : A → Events} {P : Spelling A} → AllCount f P → AllCount (flat_map f) (MayBeLines w P)
may_be_lines w F [] i j h = counts_nil (less_same h)
may_be_lines w F (x ∷ xs) i j h = behind (lines F) (x ∷ xs) i j h

pub maybe : {A : Type 0} {f : A → Events} {P : Spelling A} → AllCount f P → AllCount (optional f) (Optional P)
maybe F None i j h = counts_nil (less_same h)
maybe F (Some x) i j h = F x i j h

-- ---- two lists of events of the same parts

module _ {A : Type 0} (f g : A → Events) where
  abbrev pub Two : Input → Input → List A → Type 0
  Two i j xs = (t : ℕ → Bool) → (weigh t (flat_map f xs) + weigh t (flat_map g xs)) + among (starts t) j ≤ among (starts t) i

  pub two_frame : Frame Two
  two_frame = record {
    nil = λ i j l t. let a = l.most (starts t) in omega (arith, a);
    append = λ i m j xs ys h q t.
        let a = ap (weigh t) (flat-append f xs ys) ∙ weigh-append t (flat_map f xs) (flat_map f ys) in
        let b = ap (weigh t) (flat-append g xs ys) ∙ weigh-append t (flat_map g xs) (flat_map g ys) in
        let c = h t in
        let e = q t in
        omega (arith, a, b, c, e);
    less = λ i m j xs l h t. let a = l.most (starts t) in let b = h t in omega (arith, a, b);
    end = λ i m j xs h l t. let a = l.most (starts t) in let b = h t in omega (arith, a, b);
  }

  pub two_one : (x : A) {i m j : Input} → Counts i m (f x) → Counts m j (g x) → Two i j (x ∷ [])
  two_one x h q t =
      let a = ap (weigh t) (append-nil (f x)) in
      let b = ap (weigh t) (append-nil (g x)) in
      let c = h.few t in
      let e = q.few t in
      omega (arith, a, b, c, e)

  pub two_exchanged : (x : A) {i m j : Input} → Counts i m (g x) → Counts m j (f x) → Two i j (x ∷ [])
  two_exchanged x h q t =
      let a = ap (weigh t) (append-nil (f x)) in
      let b = ap (weigh t) (append-nil (g x)) in
      let c = h.few t in
      let e = q.few t in
      omega (arith, a, b, c, e)

  pub two_counts : {i j : Input} (xs : List A) → Two i j xs → Counts i j (flat_map f xs ++ flat_map g xs)
  two_counts xs h = record { few = λ t. let a = weigh-append t (flat_map f xs) (flat_map g xs) in let b = h t in omega (arith, a, b) }

-- ---- types

pub ordinal_counts : AllCount ordinal_events IsOrdinal
ordinal_counts (ordinal.Name x) i j h = counts_silent _ (name_less h) (tt, tt)
ordinal_counts (ordinal.Enumeration names span) i j h = counts_less (less_takes h.0.opens) (counts_end (counts_names d.Constant Nothing h.0.inside) (less_takes h.0.closes))
ordinal_counts (ordinal.Subrange low high span) i j h =
    counts_silent (const_events low ++ const_events high) (less_of (ordinal_fine (ordinal.Subrange low high span) i j h))
    (each_append IsSilent (const_events low) (const_events high) (const_all IsSilent (λ x n steps. tt) low) (const_all IsSilent (λ x n steps. tt) high))

array_silent : (at : Span) (is : List Ordinal) (of : Inside) → Each IsSilent (array_events at is of)
array_silent at [] of = (tt, tt)
array_silent at (x ∷ more) of = (tt, array_silent (of_ordinal x) more of)

module _ (T : Spelling TypeExpr) (counts : AllCount type_events T) where
  abbrev types_at : TypedNames → Events
  types_at x = (section x).1.1

  types_counts : (x : TypedNames) (i j : Input) → T (out-TypedNames x).type_expr i j → Counts i j (types_at x)
  types_counts x i j h = subst (λ (s : Section). Counts i j s.1.1) (sym (section_is x)) (counts (out-TypedNames x).type_expr i j h)

  names_counts : (x : TypedNames) (k : Denotes) (i j : Input) → IsNames (out-TypedNames x).names i j → Counts i j (Declare (section x).0.names k (section x).1.0 ∷ [])
  names_counts x k i j h = subst (λ (s : Section). Counts i j (Declare s.0.names k s.1.0 ∷ [])) (sym (section_is x)) (counts_names k _ h)

  pub typed_counts : (k : Denotes) → AllCount (typed_names k) (AreTyped T)
  typed_counts k x i j h = counts_exchanged (names_counts x k i h.mid h.first) (counts_less (less_takes h.mark) (types_counts x h.at j h.second))

  abbrev fields_at : TypedNames → Events
  fields_at x = Declare (section x).0.names d.Field (section x).1.0 ∷ []

  section_two : One (Two types_at fields_at) (AreTyped T)
  section_two x i j h = two_exchanged types_at fields_at x (names_counts x d.Field i h.mid h.first) (counts_less (less_takes h.mark) (types_counts x h.at j h.second))

  record_counts : (at : Span) (fs : Fields) (i j : Input) → AreFields T fs i j → Counts i j (record_events at (sections fs))
  record_counts at fs i j h =
      let xs = (out-Fields fs).sections in
      let two = fit.separated (Two types_at fields_at) (two_frame types_at fields_at) (AreTyped T) section_two k.Semicolon xs i h.mid h.sections in
      subst (λ (ss : List Section). Counts i j (record_events at ss)) (sym (sections_is fs))
      (subst (Counts i j) (sym (record_is at xs))
      (record {
        few = λ t.
            let a = weigh-append t (flat_map types_at xs) (Open scope.Inner ∷ (flat_map fields_at xs ++ Keep at ∷ [])) in
            let b = weigh-append t (flat_map fields_at xs) (Keep at ∷ []) in
            let c = two t in
            let e = (less_flag k.Semicolon (out-Fields fs).semicolon h.semicolon).most (starts t) in
            omega (arith, a, b, c, e);
      }))

  layer_counts : (room : ℕ) (l : TypeExprLayer) (i j : Input) → IsTypeLayer room T l i j → Counts i j (type_layer (map-TypeExpr TypeExpr Fields TypedNames Typed (List Section) Section typed sections section l)).1
  layer_counts room (TypeExpr-F.Ordinal o) i j h = ordinal_counts o i j h
  layer_counts room (TypeExpr-F.Array packed indices component span) i j h =
      let a = h.1 in
      counts_less (less_more (less_flag k.Packed packed a.packed) (less_takes a.array))
      (counts_append (enclosed (separated k.Comma ordinal_counts) indices a.after a.mid a.indices)
      (counts_append (behind counts component a.mid j a.component) (counts_silent {i = j} {j = j} (array_events span (drop 1 indices) (typed component).0) (less_same refl) (array_silent span (drop 1 indices) (typed component).0))))
  layer_counts room (TypeExpr-F.Fields packed fields span) i j h = counts_less (less_flag k.Packed packed h.1.packed) (enclosed (record_counts span) fields h.1.at j h.1.fields)
  layer_counts room (TypeExpr-F.Set packed base span) i j h = counts_less (less_more (less_flag k.Packed packed h.1.packed) (less_takes h.1.set)) (behind ordinal_counts base h.1.after j h.1.base)

below_counts : (room : ℕ) → AllCount type_events (TypeBelow room)
below_counts zero t i j h = absurd h
below_counts (suc room) t i j h = subst (λ (p : Typed). Counts i j p.1) (sym (type_is t)) (layer_counts (TypeBelow room) (below_counts room) room (out-TypeExpr t) i j h)

pub type_counts : (room : ℕ) → AllCount type_events (IsType room)
type_counts room = below_counts (suc room)

-- ---- definitions, routines, blocks and clauses

pub const_def_counts : AllCount const_def IsConstDef
const_def_counts x i j h =
    counts_exchanged (counts_name d.Constant Nothing h.first)
    (counts_silent (const_events x.value) (less_more (less_takes h.mark) (less_of (const_fine x.value h.at j h.second))) (const_all IsSilent (λ x n steps. tt) x.value))

pub parameters_counts : {xs : NameList} {t : Name} {i a b j : Input} → IsNames xs i a → Less a b → IsName t b j → Counts i j (parameters xs t)
parameters_counts {xs} {t} h l g = counts_exchanged {es = Declare xs.names d.Variable (of_type_name t) ∷ []} (counts_names d.Variable (of_type_name t) h) (counts_silent (use_alone need.Type t) (less_more l (name_less g)) (tt, tt))

formal_counts : AllCount formal IsFormal
formal_counts f i j h = counts_less (less_flag k.Var f.is_var h.is_var) (parameters_counts h.names.first (less_takes h.names.mark) h.names.second)

formals_counts : AllCount formals AreFormals
formals_counts fs i j h = enclosed (separated k.Semicolon formal_counts) fs.formals i j h.formals

statements_silent : (room : ℕ) → AllCount stmts (IsStatementPart room)
statements_silent room ss i j h = counts_silent (stmts ss) (less_of (part_fine room ss i j h)) (stmts_all IsSilent (λ x n steps. tt) (λ x y. tt) ss)

module _ (room : ℕ) where
  result_counts : AllCount result_type (IsResult room)
  result_counts routine_form.Procedure i j h = counts_nil (less_same h)
  result_counts (routine_form.Function x) i j h = counts_silent _ (less_more (less_takes h.mark) (name_less h.item)) (tt, tt)

  pub type_def_counts : AllCount type_def (IsTypeDef room)
  type_def_counts x i j h = counts_exchanged (counts_end (counts_name d.Type (inside x.type_expr) h.first) (less_takes h.mark)) (type_counts room x.type_expr h.at j h.second)

  pub vars_counts : (k : Denotes) → AllCount (typed_names k) (AreVars room)
  vars_counts = typed_counts (IsType room) (type_counts room)

  block_decl_counts : AllCount block_decl_events (IsBlockDecl room)
  block_decl_counts (block_decl.Const defs span) i j h = behind (lines const_def_counts) defs i j h.0
  block_decl_counts (block_decl.Types defs span) i j h = behind (lines type_def_counts) defs i j h.0
  block_decl_counts (block_decl.Var vars span) i j h = behind (lines (vars_counts d.Variable)) vars i j h.0

  -- what stands in a routine behind its name
  pub routine_counts : (r : Routine) (i j : Input) (h : IsRoutine room r i j) → Counts h.after_name j (routine r)
  routine_counts r i j h =
      let A = optional formals r.formals in
      let B = result_type r.form in
      let C = flat_map block_decl_events r.decls in
      let E = stmts r.body in
      let a = maybe formals_counts r.formals h.after_name h.after_formals h.formals in
      let b = result_counts r.form h.after_formals h.after_result h.result in
      let c = chain block_decl_counts r.decls h.after_head h.after_decls h.decls in
      let e = statements_silent room r.body h.after_decls j h.body in
      let all : Counts h.after_name j (Open scope.Inner ∷ ((A ++ (B ++ (C ++ E))) ++ Close ∷ [])) = counts_scope scope.Inner (counts_append a (counts_append b (counts_less (less_takes h.semicolon) (counts_append c e)))) in
      subst (λ es. Counts h.after_name j (Open scope.Inner ∷ es)) (rw (append_assoc, append_assoc, append_assoc) refl) all

  pub block_counts : AllCount block (IsBlock room)
  block_counts b i j h =
      let c = counts_less (label_less room b.label i h.after_label h.label) (counts_end (chain block_decl_counts b.decls h.after_label h.after_decls h.decls) (label_less room b.late_label h.after_decls h.after_late h.late_label)) in
      subst (λ es. Counts i j (Open scope.Inner ∷ es)) (append_assoc (flat_map block_decl_events b.decls) (stmts b.body) (Close ∷ [])) (counts_scope scope.Inner (counts_append c (statements_silent room b.body h.after_late j h.body)))

  -- ---- clauses

  abbrev domain_at : AnyDom → Events
  domain_at x = ordinal_events x.domain

  abbrev chosen_at : AnyDom → Events
  chosen_at x = Declare x.names.names d.Constant Nothing ∷ []

  domain_two : One (Two domain_at chosen_at) IsAnyDom
  domain_two x i j h = two_exchanged domain_at chosen_at x (counts_names d.Constant Nothing h.parts.first) (counts_less (less_takes h.parts.mark) (ordinal_counts x.domain h.parts.at j h.parts.second))

  any_counts : (domains : List AnyDom) (span : Span) (i j : Input) → IsClause room (clause.Any domains span) i j → Counts i j (clause_events (clause.Any domains span))
  any_counts domains span i j h =
      let two = fit.separated (Two domain_at chosen_at) (two_frame domain_at chosen_at) IsAnyDom domain_two k.Semicolon domains h.0.at h.0.mid h.0.inside in
      counts_less (less_takes h.0.opens) (counts_end (two_counts domain_at chosen_at domains two) (less_takes h.0.closes))

  names_silent : (n : Need) (xs : List Name) → Each IsSilent (flat_map (use_alone n) xs)
  names_silent n [] = tt
  names_silent n (x ∷ xs) = (tt, names_silent n xs)

  next_silent : (n : NextState) → Each IsSilent (next_state_events n)
  next_silent (next_state.Name x) = (tt, tt)
  next_silent next_state.Same = tt

  high_silent : (o : Option DelayHigh) → Each IsSilent (optional delay_high_events o)
  high_silent None = tt
  high_silent (Some (delay_high.Expr e)) = expr_all IsSilent (λ x n steps. tt) e
  high_silent (Some delay_high.Star) = tt

  silent_clause : (c : Clause) (i j : Input) → IsClause room c i j → Each IsSilent (clause_events c) → Counts i j (clause_events c)
  silent_clause c i j h silent = counts_silent (clause_events c) (less_of (clause_fine room c i j h)) silent

  pub clause_counts : AllCount clause_events (IsClause room)
  clause_counts (clause.From states span) i j h = silent_clause (clause.From states span) i j h (names_silent need.Origin states.names)
  clause_counts (clause.To state span) i j h = silent_clause (clause.To state span) i j h (next_silent state)
  clause_counts (clause.When ip x params span) i j h = silent_clause (clause.When ip x params span) i j h (tt, (tt, tt))
  clause_counts (clause.Provided condition span) i j h = silent_clause (clause.Provided condition span) i j h (expr_all IsSilent (λ x n steps. tt) condition)
  clause_counts (clause.Priority value span) i j h = silent_clause (clause.Priority value span) i j h (const_all IsSilent (λ x n steps. tt) value)
  clause_counts (clause.Any domains span) i j h = any_counts domains span i j h
  clause_counts (clause.Delay low high span) i j h =
      silent_clause (clause.Delay low high span) i j h (each_append IsSilent (expr low) (optional delay_high_events high) (expr_all IsSilent (λ x n steps. tt) low) (high_silent high))

-- ---- channels and headers

param_group_counts : AllCount param_group AreParams
param_group_counts g i j h = parameters_counts h.first (less_takes h.mark) h.second

params_counts : AllCount params IsParams
params_counts ps i j h = separated k.Semicolon param_group_counts ps.groups i j h.groups

may_be_params_counts : AllCount (optional params) MayBeParams
may_be_params_counts = maybe (enclosed params_counts)

inter_counts : AllCount inter IsInter
inter_counts x i j h = counts_append (counts_name d.Interaction (At x.name.span) h.name) (counts_kept x.name.span (may_be_params_counts x.params h.mid j h.params))

by_silent : (xs : List Name) → Each IsSilent (map By xs)
by_silent [] = tt
by_silent (x ∷ xs) = (tt, by_silent xs)

inters_counts : AllCount inter_group AreInters
inters_counts g i j h =
    counts_append (counts_silent (map By g.roles.names) (less_more (less_names h.first) (less_takes h.mark)) (by_silent g.roles.names)) (lines inter_counts g.inters h.at j h.second)

pub channel_counts : AllCount channel IsChannel
channel_counts c i j h =
    let roles : Counts h.after_name h.after_head (Declare (c.first_role ∷ c.second_role ∷ []) d.Role Nothing ∷ []) = (record {
      few = λ t.
          let a = less_name h.roles.first (starts t) in
          let b = less_name h.roles.second (starts t) in
          let l = (less_takes h.opens).most (starts t) in
          let m = (less_takes h.roles.mark).most (starts t) in
          let n = (less_more (less_takes h.closes) (less_takes h.semicolon)).most (starts t) in
          omega (arith, a, b, l, m, n);
    }) in
    counts_append (counts_less (less_takes h.name.mark) (counts_name d.Channel (At c.name.span) h.name.item))
    (counts_kept c.name.span (counts_append roles (several (behind inters_counts) c.groups h.after_head j h.groups)))

pub ip_counts : AllCount ip_decl IsIpDecl
ip_counts p i j h =
    let last = less_more (less_takes h.names.mark) (less_more (name_less h.names.second) (less_more (less_takes h.role.opens) (less_more (name_less h.role.inside) (less_more (less_takes h.role.closes) (queue_less p.disc h.after_role j h.disc))))) in
    counts_exchanged {fs = Use p.channel need.Channel (step.Role p.role ∷ []) ∷ []} (counts_names d.Ip (Brought p.channel.span) h.names.first) (counts_silent _ last (tt, tt))

pub modvar_counts : AllCount modvar_decl AreModvars
modvar_counts m i j h = counts_exchanged (counts_names d.ModuleVariable (Brought m.header.span) h.first) (counts_silent (use_alone need.Header m.header) (less_more (less_takes h.mark) (name_less h.second)) (tt, tt))

pub stateset_counts : AllCount stateset_def IsStateset
stateset_counts s i j h =
    let b = h.second in
    counts_exchanged (counts_name d.StateSet Nothing h.first)
    (counts_silent (flat_map (use_alone need.State) s.states.names) (less_more (less_takes h.mark) (less_more (less_takes b.opens) (less_more (less_names b.inside) (less_takes b.closes)))) (names_silent 0 need.State s.states.names))

module _ (room : ℕ) where
  pub header_counts : AllCount header (IsHeader room)
  header_counts x i j h =
      let A = optional params x.params in
      let B = flat_map ip_decl x.ips in
      let C = flat_map (typed_names d.Exported) x.exports in
      let last = less_more (less_takes h.ends) (less_takes h.last) in
      let a = counts_less (attr_less x.attr h.after_name h.after_attr h.attr) (counts_end (may_be_params_counts x.params h.after_attr h.after_params h.params) (less_takes h.semicolon)) in
      let b = may_be_lines k.Ip ip_counts x.ips h.after_head h.after_ips h.ips in
      let c = counts_end (may_be_lines k.Export (vars_counts room d.Exported) x.exports h.after_ips h.after_exports h.exports) last in
      let all : Counts h.after_name j (Open scope.Inner ∷ ((A ++ (B ++ C)) ++ Keep x.name.span ∷ [])) = counts_kept x.name.span (counts_append a (counts_append b c)) in
      counts_append (counts_less (less_takes h.name.mark) (counts_name d.Header (At x.name.span) h.name.item))
      (subst (λ es. Counts h.after_name j (Open scope.Inner ∷ es)) (rw (append_assoc, append_assoc) refl) all)

  -- ---- initializations and transitions

  to_counts : AllCount first_state (Optional (Behind k.To IsName))
  to_counts None i j h = counts_nil (less_same h)
  to_counts (Some x) i j h = counts_silent _ (less_more (less_takes h.mark) (name_less h.item)) (tt, tt)

  pub init_counts : AllCount init (IsInit room)
  init_counts x i j h = counts_less (less_takes h.word) (counts_append (to_counts x.to h.at h.mid h.to) (block_counts room x.block h.mid j h.block))

  module _ (G : List Kind → Spelling Group) (counts : (way : List Kind) → AllCount group (G way)) where
    more_counts : (way : List Kind) (before : Group) → AllCount (flat_map group) (MoreGroups room G way before)
    more_counts way before [] i j h = counts_nil (less_same h)
    more_counts way before (g ∷ gs) i j h = counts_append (counts way g i h.1.0 h.1.1) (more_counts way g gs h.1.0 j h.1.2)

    groups_counts : (way : List Kind) → AllCount (flat_map group) (AreGroups room G way)
    groups_counts way [] i j h = absurd h
    groups_counts way (g ∷ gs) i j h = counts_append (counts way g i h.0 h.1) (more_counts way g gs h.0 j h.2)

    layer_of_counts : (way : List Kind) (l : TransBodyLayer) (i j : Input) → TransBodyLayerOf room G way l i j → Counts i j (trans_body_layer (map-TransBody TransBody Group Events Events trans_body group l))
    layer_of_counts way (TransBody-F.Block b) i j h = block_counts room b i j h
    layer_of_counts way (TransBody-F.Groups gs span) i j h = subst (Counts i j) (sym (chain_map (λ (es : Events). es) group gs)) (groups_counts way gs i j h.0)

    pub trans_body_counts : (way : List Kind) → AllCount trans_body (TransBodyOf room G way)
    trans_body_counts way x i j h = subst (Counts i j) (sym (trans_body_is x)) (layer_of_counts way (out-TransBody x) i j h)

    group_of_counts : (way : List Kind) → AllCount group (GroupOf room G way)
    group_of_counts way g i j h =
        subst (Counts i j) (sym (group_is g))
        (subst (λ es. Counts i j (Open scope.Further ∷ es)) (append_assoc (clause_events (out-Group g).clause) (trans_body (out-Group g).body) (Close ∷ []))
        (counts_scope scope.Further (counts_append (clause_counts room (out-Group g).clause i h.mid h.clause) (trans_body_counts (way_of way g) (out-Group g).body h.mid j h.body))))

  group_counts : (n : ℕ) (way : List Kind) → AllCount group (GroupWithin room n way)
  group_counts zero way g i j h = absurd h
  group_counts (suc n) way g i j h = group_of_counts (GroupWithin room n) (group_counts n) way g i j h

  pub trans_counts : AllCount trans (IsTrans room)
  trans_counts t i j h = counts_scope scope.Inner (behind (trans_body_counts (GroupWithin room (length clause_kinds)) (group_counts (length clause_kinds)) []) t.body i j h.body)
