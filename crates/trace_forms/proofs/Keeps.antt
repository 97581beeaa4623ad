-- For which places names are kept: for those of tokens of the part that keeps them.
use Rattle.std.proofs.Common.{ℕ, zero, suc, ◌≤◌, Bool, nat_eq, List, [], ◌∷◌, ◌++◌, map, refl, ap, sym, subst, arith}
use Rattle.std.specs.Prelude.{flat_map, drop}
use Rattle.std.specs.List.{AllByRecursion}
use Rattle.std.proofs.lemmas.Bool.Decides.{Decides-eqb}
use Rattle.estelle_tree.specs.declared.span.Span.{Span}
use Rattle.estelle_tree.specs.declared.kind.Kind.TheVariants as k
use Rattle.estelle_tree.specs.declared.tree.name.Name.{Name}
use Rattle.estelle_tree.specs.declared.tree.type_expr.Ordinal.{Ordinal}
use Rattle.estelle_tree.specs.declared.tree.type_expr.TypeExpr.{TypeExpr, out-TypeExpr, map-TypeExpr}
use Rattle.estelle_tree.specs.declared.tree.type_expr.TypeExpr.TheOpen.{TypeExpr-F}
use Rattle.estelle_tree.specs.declared.tree.type_expr.Fields.{Fields, out-Fields}
use Rattle.estelle_tree.specs.declared.tree.type_expr.TypedNames.{TypedNames, out-TypedNames}
use Rattle.estelle_tree.specs.declared.tree.specification.Channel.{Channel}
use Rattle.estelle_tree.specs.declared.tree.specification.Header.{Header}
use Rattle.estelle_tree.specs.Input.{Input, start, between}
use Rattle.estelle_tree.specs.Spans.{TypeExprLayer, of_ordinal}
use Rattle.estelle_tree.specs.Spelling.{Spelling, Lines, Behind}
use Rattle.estelle_tree.specs.Types.{IsName, IsOrdinal, AreTyped, IsTypeLayer, TypeBelow, IsType}
use Rattle.estelle_tree.specs.Declarations.{AreVars}
use Rattle.estelle_tree.specs.Specification.{IsInter, AreInters, IsChannel, IsIpDecl, IsHeader}
use Rattle.scope_rules.specs.declared.declaration.Denotes.{Denotes}
use Rattle.scope_rules.specs.declared.declaration.Denotes.TheVariants as d
use Rattle.scope_rules.specs.declared.declaration.Inside.{Inside}
use Rattle.scope_rules.specs.declared.event.Event.{Event}
use Rattle.scope_rules.specs.declared.event.Event.TheVariants.{Open, Close, Keep, Import, Receive, Array, Declare, Use, By, Init, States}
use Rattle.scope_rules.specs.declared.event.ScopeForm.TheVariants as scope
use Rattle.scope_rules.specs.ExpressionEvents.{optional}
use Rattle.scope_rules.specs.TypeEvents.{Events, ordinal_events, array_events, type_events, typed, sections, section, typed_names}
use Rattle.scope_rules.specs.TypeEvents as naming
use Rattle.scope_rules.specs.SpecificationEvents.{params, inter, inter_group, channel, ip_decl, header}
use Rattle.scope_names_events.proofs.TypeEquations.{type_is, sections_is, section_is, record_is}
use Rattle.type_rules.specs.Meanings.{Declarations}
use Rattle.type_rules.specs.SpecificationSites as sites
use Rattle.accepted_states.proofs.Lists.{one_if, flat-append}
use Rattle.accepted_states.proofs.Fine.{among, Less, less_more, less_takes, less_flag, less_name, less_names, name_less}
use Rattle.accepted_states.proofs.Fit as fit
use Rattle.accepted_states.proofs.Fit.{starts, Frame, One}
use Rattle.trace_forms.proofs.Lists.{all_append, all_flat}
use Rattle.trace_forms.proofs.Typeless.{Quiet, IsQuiet, ordinal_quiet, params_quiet, ips_quiet}
use Rattle.trace_forms.proofs.Flat.{Few, Flats, flat_frame, flat_ordinal, packed_counts, inter_flat, ip_flat, flat_params, attr_less, flat_channel, flat_header}

-- it keeps names for the place of a token from here on
abbrev pub KeepsHere : Input → Event → Type 0
KeepsHere i (Keep span) = 1 ≤ among (starts (nat_eq span.start)) i
KeepsHere i e = Unit {0}

abbrev pub AllKeep : Input → Events → Type 0
AllKeep i = AllByRecursion (KeepsHere i)

-- no more tokens begin at a place from the second input on
pub record Onward (i j : Input) : Type 0 where
  pub most : (t : ℕ → Bool) → among (starts t) j ≤ among (starts t) i

pub few_onward : {i j : Input} {rs : Declarations} → Few i j rs → Onward i j
few_onward h = record { most = λ t. let a = h.most t in omega (arith, a) }

pub less_onward : {i j : Input} → Less i j → Onward i j
less_onward l = record { most = λ t. l.most (starts t) }

one_earlier : (i m : Input) → Onward i m → (e : Event) → KeepsHere m e → KeepsHere i e
one_earlier i m l (Keep span) h = let a = l.most (nat_eq span.start) in omega (arith, a, h)
one_earlier i m l (Open f) h = tt
one_earlier i m l Close h = tt
one_earlier i m l (Import x) h = tt
one_earlier i m l (Receive ip x names) h = tt
one_earlier i m l (Array span of) h = tt
one_earlier i m l (Declare names k inside) h = tt
one_earlier i m l (Use x n steps) h = tt
one_earlier i m l (By role) h = tt
one_earlier i m l (Init modvar body) h = tt
one_earlier i m l (States at states initial transitions) h = tt

-- what keeps names from a place on does so from an earlier one on
pub keep_earlier : (i m : Input) → Onward i m → (es : Events) → AllKeep m es → AllKeep i es
keep_earlier i m l [] h = tt
keep_earlier i m l (e ∷ es) h = (one_earlier i m l e h.0, keep_earlier i m l es h.1)

one_quiet : (i : Input) (e : Event) → IsQuiet e → KeepsHere i e
one_quiet i (Keep span) h = absurd (let f = h.1 in cc)
one_quiet i (Open f) h = tt
one_quiet i Close h = tt
one_quiet i (Import x) h = tt
one_quiet i (Receive ip x names) h = tt
one_quiet i (Array span of) h = tt
one_quiet i (Declare names k inside) h = tt
one_quiet i (Use x n steps) h = tt
one_quiet i (By role) h = tt
one_quiet i (Init modvar body) h = tt
one_quiet i (States at states initial transitions) h = tt

pub quiet_keeps : (i : Input) (es : Events) → Quiet es → AllKeep i es
quiet_keeps i [] h = tt
quiet_keeps i (e ∷ es) h = (one_quiet i e h.0, quiet_keeps i es h.1)

-- ---- parts of the text

-- from one place to another these events keep names for places there
pub record KeepsIn (i j : Input) (es : Events) : Type 0 where
  pub onward : Onward i j
  pub keeps : AllKeep i es

in_text : {i j : Input} {es : Events} → Onward i j → AllKeep i es → KeepsIn i j es
in_text o k = record { onward = o; keeps = k }

onward_more : {i m j : Input} → Onward i m → Onward m j → Onward i j
onward_more h g = record { most = λ t. let a = h.most t in let b = g.most t in omega (arith, a, b) }

keeps_append : {i m j : Input} (es fs : Events) → KeepsIn i m es → KeepsIn m j fs → KeepsIn i j (es ++ fs)
keeps_append {i} {m} {j} es fs h g = in_text (onward_more h.onward g.onward) (all_append (KeepsHere i) es fs h.keeps (keep_earlier i m h.onward fs g.keeps))

keeps_less : {i m j : Input} (es : Events) → Onward i m → KeepsIn m j es → KeepsIn i j es
keeps_less {i} {m} {j} es l h = in_text (onward_more l h.onward) (keep_earlier i m l es h.keeps)

keeps_end : {i m j : Input} {es : Events} → KeepsIn i m es → Onward m j → KeepsIn i j es
keeps_end h l = in_text (onward_more h.onward l) h.keeps

module _ {A : Type 0} (f : A → Events) where
  abbrev EachKeeps : Input → Input → List A → Type 0
  EachKeeps i j xs = KeepsIn i j (flat_map f xs)

  keeps_frame : Frame EachKeeps
  keeps_frame = record {
    nil = λ i j l. in_text (less_onward l) tt;
    append = λ i m j xs ys h g. subst (KeepsIn i j) (sym (flat-append f xs ys)) (keeps_append (flat_map f xs) (flat_map f ys) h g);
    less = λ i m j xs l h. keeps_less (flat_map f xs) (less_onward l) h;
    end = λ i m j xs h l. keeps_end h (less_onward l);
  }

  keeps_one : (x : A) (i j : Input) → KeepsIn i j (f x) → EachKeeps i j (x ∷ [])
  keeps_one x i j h = in_text h.onward (all_append (KeepsHere i) (f x) [] h.keeps tt)

-- ---- types

arrays_keep : (i : Input) (at : Span) (is : List Ordinal) (inside : Inside) → AllKeep i (array_events at is inside)
arrays_keep i at [] inside = (tt, tt)
arrays_keep i at (x ∷ is) inside = (tt, arrays_keep i (of_ordinal x) is inside)

fields_keep : (i : Input) (xs : List TypedNames) → AllKeep i (flat_map (λ x. Declare (section x).0.names d.Field (section x).1.0 ∷ []) xs)
fields_keep i = all_flat (KeepsHere i) (λ x. Declare (section x).0.names d.Field (section x).1.0 ∷ []) (λ x. (tt, tt))

ordinal_keeps : One (EachKeeps ordinal_events) IsOrdinal
ordinal_keeps o i j h = keeps_one ordinal_events o i j (in_text (few_onward (flat_ordinal o i j h).few) (quiet_keeps i (ordinal_events o) (ordinal_quiet o)))

module _ (T : Spelling TypeExpr) (all : (x : TypeExpr) (i j : Input) → T x i j → KeepsIn i j (type_events x)) where
  section_keeps : (x : TypedNames) (i j : Input) → AreTyped T x i j → KeepsIn i j (section x).1.1
  section_keeps x i j h =
      let t = (out-TypedNames x).type_expr in
      subst (λ (s : naming.Section). KeepsIn i j s.1.1) (sym (section_is x))
      (keeps_less (type_events t) (less_onward (less_more (less_names h.first) (less_takes h.mark))) (all t h.at j h.second))

  layer_keeps : (room : ℕ) (l : TypeExprLayer) (i j : Input) → IsTypeLayer room T l i j
      → KeepsIn i j (naming.type_layer (map-TypeExpr TypeExpr Fields TypedNames naming.Typed (List naming.Section) naming.Section typed sections section l)).1
  unfolding between
  layer_keeps room (TypeExpr-F.Ordinal o) i j h = in_text (few_onward (flat_ordinal o i j h).few) (quiet_keeps i (ordinal_events o) (ordinal_quiet o))
  layer_keeps room (TypeExpr-F.Array packed indices component span) i j h =
      let a = h.1 in
      let I = flat_map ordinal_events indices in
      let E = type_events component in
      let R = array_events span (drop 1 indices) (typed component).0 in
      let first = fit.separated (EachKeeps ordinal_events) (keeps_frame ordinal_events) IsOrdinal ordinal_keeps k.Comma indices a.indices.at a.indices.mid a.indices.inside in
      let second = keeps_less E (less_onward (less_more (less_takes a.indices.closes) (less_takes a.component.mark))) (all component a.component.at j a.component.item) in
      let both = keeps_append I (E ++ R) first (in_text second.onward (all_append (KeepsHere a.indices.mid) E R second.keeps (arrays_keep a.indices.mid span (drop 1 indices) (typed component).0))) in
      keeps_less (I ++ (E ++ R)) (less_onward (less_more (less_flag k.Packed packed a.packed) (less_more (less_takes a.array) (less_takes a.indices.opens)))) both
  layer_keeps room (TypeExpr-F.Fields packed fs span) i j h =
      let r = h.1 in
      let e = r.fields in
      let xs = (out-Fields fs).sections in
      let S = flat_map (λ x. (section x).1.1) xs in
      let D = flat_map (λ x. Declare (section x).0.names d.Field (section x).1.0 ∷ []) xs in
      let inner = fit.separated (EachKeeps (λ x. (section x).1.1)) (keeps_frame (λ x. (section x).1.1)) (AreTyped T) (λ x i j h. keeps_one (λ x. (section x).1.1) x i j (section_keeps x i j h)) k.Semicolon xs e.at e.inside.mid e.inside.sections in
      let all_of = keeps_end (keeps_less S (less_onward (less_more (less_flag k.Packed packed r.packed) (less_takes e.opens))) inner) (less_onward (less_more (less_flag k.Semicolon (out-Fields fs).semicolon e.inside.semicolon) (less_takes e.closes))) in
      let own : KeepsHere i (Keep span) = (let p = start i in let c = packed_counts packed i r.at e.at r.packed e.opens (λ e. cc) (nat_eq p) in let s = ap (λ (s : Span). among (starts (nat_eq s.start)) i) h.2 in let o = ap one_if ((Decides-eqb p p).1 refl) in omega (arith, c, s, o)) in
      subst (λ (ss : List naming.Section). KeepsIn i j (naming.record_events span ss)) (sym (sections_is fs))
      (subst (KeepsIn i j) (sym (record_is span xs))
      (in_text all_of.onward (all_append (KeepsHere i) S (Open scope.Inner ∷ (D ++ Keep span ∷ [])) all_of.keeps (tt, all_append (KeepsHere i) D (Keep span ∷ []) (fields_keep i xs) (own, tt)))))
  layer_keeps room (TypeExpr-F.Set packed base span) i j h =
      let r = h.1 in
      keeps_less (ordinal_events base) (less_onward (less_more (less_flag k.Packed packed r.packed) (less_more (less_takes r.set) (less_takes r.base.mark))))
      (in_text (few_onward (flat_ordinal base r.base.at j r.base.item).few) (quiet_keeps r.base.at (ordinal_events base) (ordinal_quiet base)))

below_keeps : (room : ℕ) (x : TypeExpr) (i j : Input) → TypeBelow room x i j → KeepsIn i j (type_events x)
below_keeps zero x i j h = absurd h
below_keeps (suc room) x i j h = subst (λ (t : naming.Typed). KeepsIn i j t.1) (sym (type_is x)) (layer_keeps (TypeBelow room) (below_keeps room) room (out-TypeExpr x) i j h)

pub type_keeps : (room : ℕ) (x : TypeExpr) (i j : Input) → IsType room x i j → KeepsIn i j (type_events x)
type_keeps room = below_keeps (suc room)

-- ---- variables, channels and headers

module _ (room : ℕ) (kind : Denotes) where
  typed_keep : One (EachKeeps (typed_names kind)) (AreVars room)
  typed_keep x i j h =
      let s = section_keeps (IsType room) (type_keeps room) x i j h in
      keeps_one (typed_names kind) x i j (in_text s.onward (all_append (KeepsHere i) (section x).1.1 (Declare (section x).0.names kind (section x).1.0 ∷ []) s.keeps (tt, tt)))

  pub vars_keep : (xs : List TypedNames) (i j : Input) → Lines (AreVars room) xs i j → KeepsIn i j (flat_map (typed_names kind) xs)
  vars_keep = fit.lines (EachKeeps (typed_names kind)) (keeps_frame (typed_names kind)) (AreVars room) typed_keep

-- a name is a token
name_here : {x : Name} {i j : Input} → IsName x i j → KeepsHere i (Keep x.span)
name_here {x} {i} {j} h = let p = x.span.start in let a = less_name h (starts (nat_eq p)) in let b = ap one_if ((Decides-eqb p p).1 refl) in omega (arith, a, b)

inter_keeps : One (EachKeeps inter) IsInter
inter_keeps x i j h =
    let P = optional params x.params in
    keeps_one inter x i j (in_text (few_onward (inter_flat x i j h).few) (tt, (tt, all_append (KeepsHere i) P (Keep x.name.span ∷ []) (quiet_keeps i P (params_quiet x.params)) (name_here h.name, tt))))

by_keep : (i : Input) (xs : List Name) → AllKeep i (map By xs)
by_keep i [] = tt
by_keep i (x ∷ xs) = (tt, by_keep i xs)

inters_keep : One (EachKeeps inter_group) AreInters
inters_keep g i j h =
    let all = keeps_less (flat_map inter g.inters) (less_onward (less_more (less_names h.first) (less_takes h.mark))) (fit.lines (EachKeeps inter) (keeps_frame inter) IsInter inter_keeps g.inters h.at j h.second) in
    keeps_one inter_group g i j (in_text all.onward (all_append (KeepsHere i) (map By g.roles.names) (flat_map inter g.inters) (by_keep i g.roles.names) all.keeps))

pub channel_keeps : (c : Channel) (i j : Input) → IsChannel c i j → KeepsIn i j (channel c)
channel_keeps c i j h =
    let G = flat_map inter_group c.groups in
    let head = less_more (less_takes h.name.mark) (less_more (name_less h.name.item) (less_more (less_takes h.opens) (less_more (name_less h.roles.first) (less_more (less_takes h.roles.mark) (less_more (name_less h.roles.second) (less_more (less_takes h.closes) (less_takes h.semicolon))))))) in
    let inner = keeps_less G (less_onward head) (fit.several (EachKeeps inter_group) (keeps_frame inter_group) (Behind k.By AreInters) (fit.behind (EachKeeps inter_group) (keeps_frame inter_group) AreInters inters_keep k.By) c.groups h.after_head j h.groups) in
    let own = one_earlier i h.name.at (less_onward (less_takes h.name.mark)) (Keep c.name.span) (name_here h.name.item) in
    in_text (few_onward (flat_channel c i j h).few) (tt, (tt, (tt, all_append (KeepsHere i) G (Keep c.name.span ∷ []) inner.keeps (own, tt))))

pub header_keeps : (room : ℕ) (x : Header) (i j : Input) → IsHeader room x i j → KeepsIn i j (header x)
header_keeps room x i j h =
    let P = optional params x.params in
    let I = flat_map ip_decl x.ips in
    let E = flat_map (typed_names d.Exported) x.exports in
    let ips = few_onward (fit.may_be_lines (Flats sites.ip_decl) (flat_frame sites.ip_decl) IsIpDecl ip_flat k.Ip x.ips h.after_head h.after_ips h.ips).few in
    let pars = few_onward (flat_params x.params h.after_attr h.after_params h.params).few in
    let first = less_onward (less_more (less_takes h.name.mark) (less_more (name_less h.name.item) (attr_less x.attr h.after_name h.after_attr h.attr))) in
    let last = less_onward (less_takes h.semicolon) in
    let to_exports = onward_more first (onward_more pars (onward_more last ips)) in
    let exports = keeps_less E to_exports (fit.may_be_lines (EachKeeps (typed_names d.Exported)) (keeps_frame (typed_names d.Exported)) (AreVars room) (typed_keep room d.Exported) k.Export x.exports h.after_ips h.after_exports h.exports) in
    let own = one_earlier i h.name.at (less_onward (less_takes h.name.mark)) (Keep x.name.span) (name_here h.name.item) in
    in_text (few_onward (flat_header room x i j h).few) (
      tt,
      (
        tt,
        all_append (KeepsHere i) P (I ++ (E ++ Keep x.name.span ∷ [])) (quiet_keeps i P (params_quiet x.params))
            (all_append (KeepsHere i) I (E ++ Keep x.name.span ∷ []) (quiet_keeps i I (ips_quiet x.ips)) (all_append (KeepsHere i) E (Keep x.name.span ∷ []) exports.keeps (own, tt))),
      ),
    )
