-- Where the types that it names are known, a type expression has the same form for the rules whatever is declared later.
use Rattle.std.proofs.Common.{◌≡◌, ◌∙◌, ℕ, zero, suc, ◌+◌, Bool, true, false, if◌then◌else◌, List, [], ◌∷◌, ◌++◌, map, fold, Option, Some, None, refl, ap, sym, subst, drop}
use Rattle.std.specs.Prelude.{flat_map, max, min}
use Rattle.std.specs.List.{AllByRecursion}
use Rattle.estelle_tree.specs.declared.span.Span.{Span}
use Rattle.estelle_tree.specs.declared.kind.Kind.TheVariants as k
use Rattle.estelle_tree.specs.declared.tree.name.Name.{Name}
use Rattle.estelle_tree.specs.declared.tree.type_expr.Ordinal.{Ordinal}
use Rattle.estelle_tree.specs.declared.tree.type_expr.Ordinal.TheVariants as ordinal
use Rattle.estelle_tree.specs.declared.tree.type_expr.TypeExpr.{TypeExpr, out-TypeExpr, map-TypeExpr}
use Rattle.estelle_tree.specs.declared.tree.type_expr.TypeExpr.TheOpen.{TypeExpr-F}
use Rattle.estelle_tree.specs.declared.tree.type_expr.Fields.{Fields, out-Fields}
use Rattle.estelle_tree.specs.declared.tree.type_expr.TypedNames.{TypedNames, out-TypedNames}
use Rattle.estelle_tree.specs.Input.{Input}
use Rattle.estelle_tree.specs.Spans.{TypeExprLayer}
use Rattle.estelle_tree.specs.Spelling.{Spelling}
use Rattle.estelle_tree.specs.Types.{AreTyped, IsTypeLayer, TypeBelow, IsType}
use Rattle.scope_rules.specs.declared.declaration.Need.{Need}
use Rattle.scope_rules.specs.declared.declaration.Need.TheVariants as need
use Rattle.scope_rules.specs.declared.event.Event.{Event}
use Rattle.scope_rules.specs.declared.event.Event.TheVariants.{Open, Keep, Use, Declare}
use Rattle.scope_rules.specs.declared.event.ScopeForm.TheVariants as scope
use Rattle.scope_rules.specs.declared.declaration.Denotes.TheVariants as d
use Rattle.scope_rules.specs.TypeEvents as naming
use Rattle.scope_rules.specs.TypeEvents.{Events, ordinal_events, array_events, type_events, typed, sections, section}
use Rattle.scope_names_events.proofs.TypeEquations as events
use Rattle.type_rules.specs.declared.types.Value.{Value}
use Rattle.type_rules.specs.declared.types.Denoted.{Denoted}
use Rattle.type_rules.specs.declared.types.PascalType.TheVariants as t
use Rattle.type_rules.specs.Types.{subrange, same_host, as_type, over_index, with_field, no_fields, record_type, set_type, simple, at_fault, is_no_index}
use Rattle.type_rules.specs.Meanings.{Env, type_denoted, known, const_value}
use Rattle.type_rules.specs.TypeSites as types
use Rattle.type_rules.proofs.TypeEquations as rule_types
use Rattle.trace_forms.proofs.Environments.{Earlier}
use Rattle.trace_forms.proofs.AllOf.{AllOf, of_behind, of_separated}
use Rattle.trace_forms.proofs.Lists.{all_front, all_back}

-- a name means the same, whatever is declared later
abbrev pub UseStays : Env → Name → Type 0
UseStays e x = (f : Env) → Earlier e f → known f x ≡ known e x

-- where a type is needed
abbrev pub NeedStays : Env → Name → Need → Type 0
NeedStays e x need.Type = UseStays e x
NeedStays e x n = Unit {0}

-- what events use as types stays
abbrev pub EventStays : Env → Event → Type 0
EventStays e (Use x n steps) = NeedStays e x n
EventStays e v = Unit {0}

abbrev pub UsesStay : Env → Events → Type 0
UsesStay e = AllByRecursion (EventStays e)

-- these are as deep in the one environment as in the other
abbrev pub AsDeep : Denoted → Denoted → Type 0
AsDeep a b = a.depth ≡ b.depth

-- and both may be the type of an index, or none of them
abbrev pub SameForm : Denoted → Denoted → Type 0
SameForm a b = AsDeep a b × (is_no_index a ≡ is_no_index b)

-- ---- layers

either : (a b : Denoted) → a.depth ≡ 0 → b.depth ≡ 0 → (t : Bool) → (if t then a else b).depth ≡ 0
either a b h g true = h
either a b h g false = g

-- a subrange nests nothing
pub subrange_depth : (at : Span) (a b : Option Value) → (subrange at a b).depth ≡ 0
unfolding subrange
subrange_depth at None b = refl
subrange_depth at (Some v) None = refl
subrange_depth at (Some v) (Some w) = either _ _ refl refl (same_host v.host w.host)

-- a subrange may be the type of an index
pub subrange_index : (at : Span) (a b : Option Value) → is_no_index (subrange at a b) ≡ false
unfolding subrange is_no_index
subrange_index at None b = refl
subrange_index at (Some v) None = refl
subrange_index at (Some v) (Some w) = by (same_host v.host w.host)
  where
    by : (same : Bool) → is_no_index (if same then simple (Some (t.Subrange v.host at)) v.ordinal w.ordinal else at_fault) ≡ false
    by true = refl
    by false = refl

ordinal_stays : (o : Ordinal) (e f : Env) → Earlier e f → UsesStay e (ordinal_events o) → SameForm (types.ordinal_type f o) (types.ordinal_type e o)
ordinal_stays (ordinal.Name x) e f h u = (ap (λ m. (type_denoted m).depth) (u.0 f h), ap (λ m. is_no_index (type_denoted m)) (u.0 f h))
ordinal_stays (ordinal.Enumeration names span) e f h u = (refl, refl)
ordinal_stays (ordinal.Subrange low high span) e f h u = (
  subrange_depth span (const_value f low) (const_value f high) ∙ sym (subrange_depth span (const_value e low) (const_value e high)),
  subrange_index span (const_value f low) (const_value f high) ∙ sym (subrange_index span (const_value e low) (const_value e high)),
)

arrays_deep : (e f : Env) (os : List Ordinal) (c b : Denoted) → AsDeep c b → AsDeep (fold over_index c (map (types.ordinal_type f) os)) (fold over_index b (map (types.ordinal_type e) os))
unfolding over_index
arrays_deep e f [] c b h = h
arrays_deep e f (o ∷ os) c b h = arrays_deep e f os (over_index c (types.ordinal_type f o)) (over_index b (types.ordinal_type e o)) (ap (λ n. min 201 (n + 1)) h)

names_deep : (xs : List Name) (u v c b : Denoted) → AsDeep u v → AsDeep c b → AsDeep (fold (λ so_far x. with_field so_far u) c xs) (fold (λ so_far x. with_field so_far v) b xs)
unfolding with_field
names_deep [] u v c b h g = g
names_deep (x ∷ xs) u v c b h g = names_deep xs u v (with_field c u) (with_field b v) h (ap (λ n. max n u.depth) g ∙ ap (λ n. max b.depth n) h)

-- what a type expression denotes is of the same form later
abbrev TypeStays : TypeExpr → Type 0
TypeStays t = (e f : Env) → Earlier e f → UsesStay e (type_events t) → SameForm ((types.typing t).denotes f) ((types.typing t).denotes e)

abbrev SectionStays : TypedNames → Type 0
SectionStays x = (e f : Env) → Earlier e f → UsesStay e (section x).1.1 → AsDeep ((types.typed_names x).1.denotes f) ((types.typed_names x).1.denotes e)

sections_deep : (e f : Env) → Earlier e f → (xs : List TypedNames) → AllByRecursion SectionStays xs → UsesStay e (flat_map (λ x. (section x).1.1) xs) → (c b : Denoted) → AsDeep c b
    → AsDeep (fold (types.with_section f) c (map types.typed_names xs)) (fold (types.with_section e) b (map types.typed_names xs))
sections_deep e f h [] s u c b g = g
sections_deep e f h (x ∷ xs) s u c b g =
    let first = (section x).1.1 in
    let more = flat_map (λ x. (section x).1.1) xs in
    sections_deep e f h xs s.1 (all_back (EventStays e) first more u) (types.with_section f c (types.typed_names x)) (types.with_section e b (types.typed_names x))
    (names_deep (types.typed_names x).0 ((types.typed_names x).1.denotes f) ((types.typed_names x).1.denotes e) c b (s.0 e f h (all_front (EventStays e) first more u)) g)

module _ (T : Spelling TypeExpr) (all : AllOf TypeStays T) where
  section_stays : AllOf SectionStays (AreTyped T)
  section_stays x i j h e f l u =
      let stays = all (out-TypedNames x).type_expr h.at j h.second e f l (subst (λ (s : naming.Section). UsesStay e s.1.1) (events.section_is x) u) in
      subst (λ (s : types.Section). AsDeep (s.1.denotes f) (s.1.denotes e)) (sym (rule_types.section_is x)) stays.0

  layer_stays : (room : ℕ) (l : TypeExprLayer) (i j : Input) → IsTypeLayer room T l i j → (e f : Env) → Earlier e f
      → UsesStay e (naming.type_layer (map-TypeExpr TypeExpr Fields TypedNames naming.Typed (List naming.Section) naming.Section typed sections section l)).1
      → SameForm ((types.type_layer (map-TypeExpr TypeExpr Fields TypedNames types.Typing (List types.Section) types.Section types.typing types.fields types.typed_names l)).denotes f)
      ((types.type_layer (map-TypeExpr TypeExpr Fields TypedNames types.Typing (List types.Section) types.Section types.typing types.fields types.typed_names l)).denotes e)
  unfolding as_type record_type set_type is_no_index
  layer_stays room (TypeExpr-F.Ordinal o) i j h e f g u = ordinal_stays o e f g u
  layer_stays room (TypeExpr-F.Array packed indices component span) i j h e f g u =
      let I = flat_map ordinal_events indices in
      let A = array_events span (drop 1 indices) (typed component).0 in
      let c = of_behind all component h.1.mid j h.1.component e f g (all_front (EventStays e) (type_events component) A (all_back (EventStays e) I (type_events component ++ A) u)) in
      (arrays_deep e f indices ((types.typing component).denotes f) ((types.typing component).denotes e) c.0, refl)
  layer_stays room (TypeExpr-F.Fields packed fs span) i j h e f g u =
      let xs = (out-Fields fs).sections in
      let r = h.1.fields in
      let S = flat_map (λ x. (section x).1.1) xs in
      let D = Open scope.Inner ∷ (flat_map (λ x. Declare (section x).0.names d.Field (section x).1.0 ∷ []) xs ++ Keep span ∷ []) in
      let u1 : UsesStay e (S ++ D) = subst (UsesStay e) (ap (naming.record_events span) (events.sections_is fs) ∙ events.record_is span xs) u in
      let deep = sections_deep e f g xs (of_separated k.Semicolon section_stays xs r.at r.inside.mid r.inside.sections) (all_front (EventStays e) S D u1) no_fields no_fields refl in
      subst (λ (ss : List types.Section). SameForm (types.fields_denote span ss f) (types.fields_denote span ss e)) (sym (rule_types.fields_is fs)) (ap (λ n. min 201 (n + 1)) deep, refl)
  layer_stays room (TypeExpr-F.Set packed base span) i j h e f g u = (refl, refl)

below_stays : (room : ℕ) → AllOf TypeStays (TypeBelow room)
below_stays zero t i j h e f g u = absurd h
below_stays (suc room) t i j h e f g u =
    subst (λ (p : types.Typing). SameForm (p.denotes f) (p.denotes e)) (sym (rule_types.type_is t))
    (layer_stays (TypeBelow room) (below_stays room) room (out-TypeExpr t) i j h e f g (subst (λ (p : naming.Typed). UsesStay e p.1) (events.type_is t) u))

pub type_stays : (room : ℕ) → AllOf TypeStays (IsType room)
type_stays room = below_stays (suc room)
