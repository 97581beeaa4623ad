-- The constants that types and variables declare: they are known behind the declarations that a run makes of them.
use Rattle.std.proofs.Common.{◌≡◌, ◌∙◌, ℕ, zero, suc, List, [], ◌∷◌, ◌++◌, map, refl, sym, subst, append-nil, inl, inr, drop}
use Rattle.std.specs.Prelude.{flat_map}
use Rattle.std.specs.List.{AllByRecursion}
use Rattle.std.proofs.lemmas.List.Folds.{flat_map-map}
use Rattle.pascal_values.specs.declared.value.Value.TheVariants as pascal
use Rattle.estelle_tree.specs.declared.kind.Kind.TheVariants as k
use Rattle.estelle_tree.specs.declared.names.Use.{Use as Used}
use Rattle.estelle_tree.specs.declared.span.Span.{Span}
use Rattle.estelle_tree.specs.declared.tree.name.Name.{Name}
use Rattle.estelle_tree.specs.declared.tree.type_expr.Const.{Const}
use Rattle.estelle_tree.specs.declared.tree.type_expr.Const.TheVariants as const
use Rattle.estelle_tree.specs.declared.tree.type_expr.Ordinal.{Ordinal}
use Rattle.estelle_tree.specs.declared.tree.type_expr.Ordinal.TheVariants as ordinal
use Rattle.estelle_tree.specs.declared.tree.type_expr.TypeExpr.{TypeExpr, out-TypeExpr, map-TypeExpr}
use Rattle.estelle_tree.specs.declared.tree.type_expr.TypeExpr.TheOpen.{TypeExpr-F}
use Rattle.estelle_tree.specs.declared.tree.type_expr.Fields.{Fields, out-Fields}
use Rattle.estelle_tree.specs.declared.tree.type_expr.TypedNames.{TypedNames, out-TypedNames}
use Rattle.estelle_tree.specs.Input.{Input}
use Rattle.estelle_tree.specs.Spans.{TypeExprLayer, of_ordinal}
use Rattle.estelle_tree.specs.Spelling.{Spelling, Lines, MayBeLines}
use Rattle.estelle_tree.specs.Types.{IsOrdinal, AreTyped, IsTypeLayer, TypeBelow, IsType}
use Rattle.estelle_tree.specs.Declarations.{AreVars}
use Rattle.scope_rules.specs.declared.declaration.Denotes.{Denotes}
use Rattle.scope_rules.specs.declared.declaration.Denotes.TheVariants as d
use Rattle.scope_rules.specs.declared.declaration.Inside.{Inside}
use Rattle.scope_rules.specs.declared.declaration.Members.TheVariants as members
use Rattle.scope_rules.specs.declared.event.Event.TheVariants.{Open, Keep, Declare}
use Rattle.scope_rules.specs.declared.event.ScopeForm.TheVariants as scope
use Rattle.scope_rules.specs.TypeEvents as naming
use Rattle.scope_rules.specs.TypeEvents.{Events, const_events, ordinal_events, array_events, type_events, typed, sections, typed_names}
use Rattle.scope_rules.specs.Scopes.{declaration}
use Rattle.scope_rules.specs.NameRules.{IsOne}
use Rattle.scope_names_events.proofs.TypeEquations as events
use Rattle.type_rules.specs.Meanings.{Env}
use Rattle.estelle_model.specs.declared.denoter.Host.{Host}
use Rattle.estelle_model.specs.declared.meaning.Meaning.TheVariants as mean
use Rattle.estelle_model.specs.Denoted.{Declarations, numbered, enumeration, ordinal_declares, Typing, Section, types_declare, sections_declare, type_layer, typing, section}
use Rattle.meaning_table.proofs.TypeEquations.{fields, type_is, fields_is, section_is}
use Rattle.accepted_states.proofs.Lists.{Each, flat-append}
use Rattle.accepted_states.proofs.Fine.{Less, less_more, less_takes, less_flag, less_names, less_of}
use Rattle.accepted_states.proofs.FineTypes.{ordinal_fine}
use Rattle.accepted_states.proofs.Fit as fit
use Rattle.accepted_states.proofs.Fit.{Frame, One}
use Rattle.accepted_states.proofs.Bodies.{Ends, names_end}
use Rattle.trace_forms.proofs.Lists.{all_append, all_flat}
use Rattle.trace_forms.proofs.Held.{Known, AllHeld, held_append}
use Rattle.trace_forms.proofs.Needed.{NameKnown}
use Rattle.trace_forms.proofs.Idle.{AllIdle, idle_held, sections_idle}
use Rattle.trace_forms.proofs.Sight.{Text, text_later, Within, Brings, AllBring, bring_more}

-- ---- events that declare no constants

-- names that are neither constants nor types
module _ (K : Known) (kind : Denotes) (no_constant : kind ≡ d.Constant → ⊥) (no_type : kind ≡ d.Type → ⊥) where
  pub others_known : (xs : List Name) → AllByRecursion (λ (x : Name). NameKnown K x.word (declaration x kind members.Nothing)) xs
  others_known [] = tt
  others_known (x ∷ xs) = ((λ e. absurd (no_constant e), λ e. absurd (no_type e)), others_known xs)

pub const_bring : (K : Known) (c : Const) → AllBring K (const_events c)
const_bring K (const.Number s n span) = tt
const_bring K (const.Name s x span) = (tt, tt)
const_bring K (const.Char n span) = tt

arrays_bring : (K : Known) (at : Span) (is : List Ordinal) (inside : Inside) → AllBring K (array_events at is inside)
arrays_bring K at [] inside = (tt, tt)
arrays_bring K at (i ∷ is) inside = (tt, arrays_bring K (of_ordinal i) is inside)

fields_bring : (K : Known) (xs : List TypedNames) → AllBring K (flat_map (λ x. Declare (naming.section x).0.names d.Field (naming.section x).1.0 ∷ []) xs)
fields_bring K = all_flat (Brings K) (λ x. Declare (naming.section x).0.names d.Field (naming.section x).1.0 ∷ []) (λ x. ((λ e. cc, others_known K d.Field (λ e. cc) (λ e. cc) (naming.section x).0.names), tt))

-- names : what is known of the names in use; env : what the rules know
module _ (names : List Used) (env : Env) where
  -- from what is known before, what these events declare is known behind these declarations
  pub record Adds (K : Known) (es : Events) (ds : Declarations) : Type 0 where
    pub known : Known
    pub held : AllHeld names env K ds known
    pub more : Within K known
    pub bring : AllBring known es

  adds_plain : (K : Known) (es : Events) (ds : Declarations) → AllBring K es → AllIdle ds → Adds K es ds
  adds_plain K es ds b i = record { known = K; held = idle_held names env K ds i; more = λ e o. o; bring = b }

  adds_append : (K : Known) (es fs : Events) (ds gs : Declarations) → Adds K es ds → ((L : Known) → Adds L fs gs) → Adds K (es ++ fs) (ds ++ gs)
  adds_append K es fs ds gs h f =
      let g = f h.known in
      record {
        known = g.known;
        held = held_append names env K h.known g.known ds gs h.held g.held;
        more = λ e o. g.more e (h.more e o);
        bring = all_append (Brings g.known) es fs (bring_more h.known g.known g.more es h.bring) g.bring;
      }

  -- so it is in a part of the text
  pub record AddsIn (i j : Input) (es : Events) (ds : Declarations) : Type 0 where
    pub less : Less i j
    pub adds : Text i → (K : Known) → Adds K es ds

  pub add_plain : {i j : Input} (es : Events) (ds : Declarations) → Less i j → ((K : Known) → AllBring K es) → AllIdle ds → AddsIn i j es ds
  add_plain es ds l b h = record { less = l; adds = λ t K. adds_plain K es ds (b K) h }

  add_append : {i m j : Input} (es fs : Events) (ds gs : Declarations) → AddsIn i m es ds → AddsIn m j fs gs → AddsIn i j (es ++ fs) (ds ++ gs)
  add_append es fs ds gs h g = record { less = less_more h.less g.less; adds = λ t K. adds_append K es fs ds gs (h.adds t K) (λ L. g.adds (text_later h.less t) L) }

  pub add_less : {i m j : Input} {es : Events} {ds : Declarations} → Less i m → AddsIn m j es ds → AddsIn i j es ds
  add_less l h = record { less = less_more l h.less; adds = λ t K. h.adds (text_later l t) K }

  add_end : {i m j : Input} {es : Events} {ds : Declarations} → AddsIn i m es ds → Less m j → AddsIn i j es ds
  add_end h l = record { less = less_more h.less l; adds = h.adds }

  -- with more events and declarations, which add nothing
  add_more : {i j : Input} (es fs : Events) (ds gs : Declarations) → AddsIn i j es ds → ((K : Known) → AllBring K fs) → AllIdle gs → AddsIn i j (es ++ fs) (ds ++ gs)
  add_more es fs ds gs h b g = record { less = h.less; adds = λ t K. adds_append K es fs ds gs (h.adds t K) (λ L. adds_plain L fs gs (b L) g) }

  add_events : {i j : Input} (es fs : Events) (ds : Declarations) → AddsIn i j es ds → ((K : Known) → AllBring K fs) → AddsIn i j (es ++ fs) ds
  add_events {i} {j} es fs ds h b = subst (AddsIn i j (es ++ fs)) (append-nil ds) (add_more es fs ds [] h b tt)

  module _ {A : Type 0} (f : A → Events) (g : A → Declarations) where
    abbrev AllAdd : Input → Input → List A → Type 0
    AllAdd i j xs = AddsIn i j (flat_map f xs) (flat_map g xs)

    add_frame : Frame AllAdd
    add_frame = record {
      nil = λ i j l. add_plain [] [] l (λ K. tt) tt;
      append = λ i m j xs ys h k.
          subst (λ es. AddsIn i j es (flat_map g (xs ++ ys))) (sym (flat-append f xs ys))
          (subst (AddsIn i j (flat_map f xs ++ flat_map f ys)) (sym (flat-append g xs ys)) (add_append (flat_map f xs) (flat_map f ys) (flat_map g xs) (flat_map g ys) h k));
      less = λ i m j xs l h. add_less l h;
      end = λ i m j xs h l. add_end h l;
    }

    add_one : (x : A) (i j : Input) → AddsIn i j (f x) (g x) → AllAdd i j (x ∷ [])
    add_one x i j h = subst (λ es. AddsIn i j es (g x ++ [])) (sym (append-nil (f x))) (subst (AddsIn i j (f x)) (sym (append-nil (g x))) h)

  -- ---- ordinal types

  -- the values of an enumeration
  record Values (K : Known) (h : Host) (n : ℕ) (xs : List Name) : Type 0 where
    known : Known
    held : AllHeld names env K (numbered (λ n meant. mean.Constant (pascal.Enum n) h) n xs) known
    more : Within K known
    ones : AllByRecursion (λ (x : Name). IsOne (d.Constant, x.span.start) known) xs

  values : (K : Known) (h : Host) (n : ℕ) (xs : List Name) → Values K h n xs
  values K h n [] = record { known = K; held = refl; more = λ e o. o; ones = tt }
  values K h n (x ∷ xs) =
      let v = values ((d.Constant, x.span.start) ∷ K) h (suc n) xs in
      record {
        known = v.known;
        held = ((d.Constant, x.span.start) ∷ [], (λ meant told k. ((tt, tt), ((mean.Constant (pascal.Enum n) h, (inl refl, tt)), tt)), v.held));
        more = λ e o. v.more e (inr o);
        ones = (v.more (d.Constant, x.span.start) (inl refl), v.ones);
      }

  -- they are constants that are known
  values_known : (K : Known) (xs : List Name) → AllByRecursion (λ (x : Name). IsOne (d.Constant, x.span.start) K) xs → Each Ends xs → AllByRecursion (λ (x : Name). NameKnown K x.word (declaration x d.Constant members.Nothing)) xs
  values_known K [] o e = tt
  values_known K (x ∷ xs) o e = ((λ is. (λ g. o.0, λ g. absurd (let f = sym g ∙ e.0 in cc)), λ is. absurd (cc)), values_known K xs o.1 e.1)

  ordinal_adds : (o : Ordinal) (i j : Input) → IsOrdinal o i j → AddsIn i j (ordinal_events o) (ordinal_declares o)
  ordinal_adds (ordinal.Name x) i j h = add_plain (ordinal_events (ordinal.Name x)) [] (less_of (ordinal_fine (ordinal.Name x) i j h)) (λ K. (tt, tt)) tt
  ordinal_adds (ordinal.Enumeration xs span) i j h = record {
    less = less_of (ordinal_fine (ordinal.Enumeration xs span) i j h);
    adds = λ t K.
        let v = values K (enumeration xs.names) 0 xs.names in
        let ends = names_end xs h.0.at h.0.mid h.0.inside (text_later (less_takes h.0.opens) t).ends in
        record { known = v.known; held = v.held; more = v.more; bring = ((λ e. cc, values_known v.known xs.names v.ones ends), tt) };
  }
  ordinal_adds (ordinal.Subrange low high span) i j h =
      add_plain (ordinal_events (ordinal.Subrange low high span)) [] (less_of (ordinal_fine (ordinal.Subrange low high span) i j h)) (λ K. all_append (Brings K) (const_events low) (const_events high) (const_bring K low) (const_bring K high)) tt

  -- ---- types

  abbrev TypeAdds : TypeExpr → Input → Input → Type 0
  TypeAdds x i j = AddsIn i j (type_events x) (typing x).declares

  abbrev of_section : TypedNames → Events
  of_section x = (naming.section x).1.1

  abbrev section_declares : TypedNames → Declarations
  section_declares x = (section x).1.declares

  module _ (T : Spelling TypeExpr) (all : (x : TypeExpr) (i j : Input) → T x i j → TypeAdds x i j) where
    section_adds : (x : TypedNames) (i j : Input) → AreTyped T x i j → AddsIn i j (of_section x) (section_declares x)
    section_adds x i j h =
        let t = (out-TypedNames x).type_expr in
        subst (λ (s : naming.Section). AddsIn i j s.1.1 (section_declares x)) (sym (events.section_is x))
        (subst (λ (s : Section). AddsIn i j (type_events t) s.1.declares) (sym (section_is x)) (add_less (less_more (less_names h.first) (less_takes h.mark)) (all t h.at j h.second)))

    names_add : (kind : Denotes) → (kind ≡ d.Header → ⊥) → (kind ≡ d.Constant → ⊥) → (kind ≡ d.Type → ⊥) → One (AllAdd (typed_names kind) section_declares) (AreTyped T)
    names_add kind a b c x i j h =
        add_one (typed_names kind) section_declares x i j
        (add_events (of_section x) (Declare (naming.section x).0.names kind (naming.section x).1.0 ∷ []) (section_declares x) (section_adds x i j h) (λ K. ((a, others_known K kind b c (naming.section x).0.names), tt)))

    layer_adds : (room : ℕ) (l : TypeExprLayer) (i j : Input) → IsTypeLayer room T l i j
        → AddsIn i j (naming.type_layer (map-TypeExpr TypeExpr Fields TypedNames naming.Typed (List naming.Section) naming.Section typed sections naming.section l)).1
        (type_layer (map-TypeExpr TypeExpr Fields TypedNames Typing (List Section) Section typing fields section l)).declares
    layer_adds room (TypeExpr-F.Ordinal o) i j h = ordinal_adds o i j h
    layer_adds room (TypeExpr-F.Array packed indices component span) i j h =
        let a = h.1 in
        let I = flat_map ordinal_events indices in
        let E = type_events component in
        let R = array_events span (drop 1 indices) (typed component).0 in
        let first = fit.separated (AllAdd ordinal_events ordinal_declares) (add_frame ordinal_events ordinal_declares) IsOrdinal (λ o i j h. add_one ordinal_events ordinal_declares o i j (ordinal_adds o i j h)) k.Comma indices a.indices.at a.indices.mid a.indices.inside in
        let second = add_less (less_more (less_takes a.indices.closes) (less_takes a.component.mark)) (all component a.component.at j a.component.item) in
        add_less (less_more (less_flag k.Packed packed a.packed) (less_more (less_takes a.array) (less_takes a.indices.opens)))
        (add_append I (E ++ R) (flat_map ordinal_declares indices) (typing component).declares first (add_events E R (typing component).declares second (λ K. arrays_bring K span (drop 1 indices) (typed component).0)))
    layer_adds room (TypeExpr-F.Fields packed fs span) i j h =
        let r = h.1 in
        let e = r.fields in
        let xs = (out-Fields fs).sections in
        let S = flat_map of_section xs in
        let F = flat_map (λ x. Declare (naming.section x).0.names d.Field (naming.section x).1.0 ∷ []) xs in
        let all_of = fit.separated (AllAdd of_section section_declares) (add_frame of_section section_declares) (AreTyped T) (λ x i j h. add_one of_section section_declares x i j (section_adds x i j h)) k.Semicolon xs e.at e.inside.mid e.inside.sections in
        let inside = subst (AddsIn e.at e.inside.mid S) (sym (flat_map-map (λ (s : Section). s.1.declares) section xs)) all_of in
        let whole = add_more S (Open scope.Inner ∷ (F ++ Keep span ∷ [])) (types_declare (map section xs)) (sections_declare (λ known n t. mean.Field n) 0 (map section xs)) inside
        (λ K. (tt, all_append (Brings K) F (Keep span ∷ []) (fields_bring K xs) (tt, tt))) (sections_idle (λ known n t. mean.Field n) (λ meant n t. tt) 0 (map section xs)) in
        subst (λ (ss : List naming.Section). AddsIn i j (naming.record_events span ss) (types_declare (fields fs) ++ sections_declare (λ known n t. mean.Field n) 0 (fields fs))) (sym (events.sections_is fs))
        (subst (λ es. AddsIn i j es (types_declare (fields fs) ++ sections_declare (λ known n t. mean.Field n) 0 (fields fs))) (sym (events.record_is span xs))
        (subst (λ (ss : List Section). AddsIn i j (S ++ (Open scope.Inner ∷ (F ++ Keep span ∷ []))) (types_declare ss ++ sections_declare (λ known n t. mean.Field n) 0 ss)) (sym (fields_is fs))
        (add_less (less_more (less_flag k.Packed packed r.packed) (less_takes e.opens)) (add_end whole (less_more (less_flag k.Semicolon (out-Fields fs).semicolon e.inside.semicolon) (less_takes e.closes))))))
    layer_adds room (TypeExpr-F.Set packed base span) i j h =
        let r = h.1 in
        add_less (less_more (less_flag k.Packed packed r.packed) (less_more (less_takes r.set) (less_takes r.base.mark))) (ordinal_adds base r.base.at j r.base.item)

  below_adds : (room : ℕ) (x : TypeExpr) (i j : Input) → TypeBelow room x i j → TypeAdds x i j
  below_adds zero x i j h = absurd h
  below_adds (suc room) x i j h =
      subst (λ (t : naming.Typed). AddsIn i j t.1 (typing x).declares) (sym (events.type_is x))
      (subst (λ (t : Typing). AddsIn i j (naming.type_layer (map-TypeExpr TypeExpr Fields TypedNames naming.Typed (List naming.Section) naming.Section typed sections naming.section (out-TypeExpr x))).1 t.declares) (sym (type_is x))
      (layer_adds (TypeBelow room) (below_adds room) room (out-TypeExpr x) i j h))

  pub type_adds : (room : ℕ) (x : TypeExpr) (i j : Input) → IsType room x i j → TypeAdds x i j
  type_adds room = below_adds (suc room)

  -- ---- variables

  module _ (room : ℕ) (kind : Denotes) (no_header : kind ≡ d.Header → ⊥) (no_constant : kind ≡ d.Constant → ⊥) (no_type : kind ≡ d.Type → ⊥) where
    as_types : (i j : Input) (xs : List TypedNames) → AllAdd (typed_names kind) section_declares i j xs → AddsIn i j (flat_map (typed_names kind) xs) (types_declare (map section xs))
    as_types i j xs = subst (AddsIn i j (flat_map (typed_names kind) xs)) (sym (flat_map-map (λ (s : Section). s.1.declares) section xs))

    one_var : One (AllAdd (typed_names kind) section_declares) (AreVars room)
    one_var = names_add (IsType room) (type_adds room) kind no_header no_constant no_type

    pub vars_add : (xs : List TypedNames) (i j : Input) → Lines (AreVars room) xs i j → AddsIn i j (flat_map (typed_names kind) xs) (types_declare (map section xs))
    vars_add xs i j h = as_types i j xs (fit.lines (AllAdd (typed_names kind) section_declares) (add_frame (typed_names kind) section_declares) (AreVars room) one_var xs i j h)

    pub may_be_vars_add : (xs : List TypedNames) (i j : Input) → MayBeLines k.Export (AreVars room) xs i j → AddsIn i j (flat_map (typed_names kind) xs) (types_declare (map section xs))
    may_be_vars_add xs i j h = as_types i j xs (fit.may_be_lines (AllAdd (typed_names kind) section_declares) (add_frame (typed_names kind) section_declares) (AreVars room) one_var k.Export xs i j h)
