-- Types in which no array is empty: what a type expression denotes is one, where what it names is known.
use Rattle.std.proofs.Common.{◌≡◌, ◌∙◌, ℕ, zero, suc, ◌+◌, ◌<◌, Bool, true, false, if◌then◌else◌, List, [], ◌∷◌, ◌++◌, map, length, replicate, Option, Some, None, Result, Ok, Err, refl, ap, sym, subst, arith, cond, inl, ℤ, pos, ◌-ℤ◌}
use Rattle.std.specs.Prelude.{flat_map, nat_abs, int_le, int_lt, ◌||◌, drop}
use Rattle.std.specs.List.{AllByRecursion, list_any}
use Rattle.std.proofs.lemmas.Bool.Decides.{nat_tests}
use Rattle.std.proofs.lemmas.Int.{ints}
use Rattle.estelle_tree.specs.declared.kind.Kind.TheVariants as k
use Rattle.estelle_tree.specs.declared.tree.name.Name.{Name}
use Rattle.estelle_tree.specs.declared.tree.type_expr.Sign.{Sign}
use Rattle.estelle_tree.specs.declared.tree.type_expr.Sign.TheVariants as sign
use Rattle.estelle_tree.specs.declared.tree.type_expr.Const.{Const}
use Rattle.estelle_tree.specs.declared.tree.type_expr.Const.TheVariants as const
use Rattle.estelle_tree.specs.declared.tree.type_expr.Ordinal.{Ordinal}
use Rattle.estelle_tree.specs.declared.tree.type_expr.Ordinal.TheVariants as ordinal
use Rattle.estelle_tree.specs.declared.tree.type_expr.TypeExpr.{TypeExpr, out-TypeExpr, map-TypeExpr}
use Rattle.estelle_tree.specs.declared.tree.type_expr.TypeExpr.TheOpen.{TypeExpr-F}
use Rattle.estelle_tree.specs.declared.tree.type_expr.Fields.{Fields, out-Fields}
use Rattle.estelle_tree.specs.declared.tree.type_expr.TypedNames.{TypedNames, out-TypedNames}
use Rattle.estelle_tree.specs.Input.{Input}
use Rattle.estelle_tree.specs.Spans.{TypeExprLayer}
use Rattle.estelle_tree.specs.Spelling.{Spelling}
use Rattle.estelle_tree.specs.Types.{AreTyped, IsTypeLayer, TypeBelow, IsType}
use Rattle.estelle_tree.specs.Declarations.{IsTypeDef}
use Rattle.scope_rules.specs.declared.declaration.Need.{Need}
use Rattle.scope_rules.specs.declared.declaration.Need.TheVariants as need
use Rattle.scope_rules.specs.declared.declaration.Denotes.TheVariants as d
use Rattle.scope_rules.specs.declared.event.Event.{Event}
use Rattle.scope_rules.specs.declared.event.Event.TheVariants.{Open, Keep, Use, Declare}
use Rattle.scope_rules.specs.declared.event.ScopeForm.TheVariants as scope
use Rattle.scope_rules.specs.TypeEvents as naming
use Rattle.scope_rules.specs.TypeEvents.{Events, const_events, ordinal_events, array_events, type_events}
use Rattle.scope_names_events.proofs.TypeEquations as events
use Rattle.type_rules.specs.declared.types.Value.{Value}
use Rattle.type_rules.specs.declared.types.Denoted.{Denoted}
use Rattle.type_rules.specs.declared.meanings.Meaning.{Meaning as RuleMeaning}
use Rattle.type_rules.specs.declared.sites.Site.TheVariants.{TypeAt}
use Rattle.type_rules.specs.Types.{is_no_index, as_type, record_type, set_type}
use Rattle.type_rules.specs.Meanings as rules
use Rattle.type_rules.specs.Meanings.{Env, entity_at, type_denoted, const_value, constant_value, is_integer_host, with_host, signed_number, signed_value}
use Rattle.type_rules.specs.Sites.{Sites}
use Rattle.type_rules.specs.TypeSites as types
use Rattle.type_rules.specs.TypeSites.{ordinal_sites, array_denotes, fields_denote, set_denotes, has_no_index}
use Rattle.type_rules.specs.SpecificationSites as sites
use Rattle.type_rules.proofs.TypeEquations as rule_types
use Rattle.pascal_values.specs.Integers.{is_integer, difference_of}
use Rattle.pascal_values.specs.Shapes.{item_count}
use Rattle.pascal_values.specs.declared.fault.Fault.TheVariants.{Overflow}
use Rattle.pascal_values.specs.declared.value.Value.{Value as PascalValue}
use Rattle.pascal_values.specs.declared.value.Value.TheVariants as pascal
use Rattle.estelle_model.specs.Stops.{Stop}
use Rattle.estelle_model.specs.declared.denoter.Host.{Host}
use Rattle.estelle_model.specs.declared.denoter.Host.TheVariants as host
use Rattle.estelle_model.specs.declared.denoter.Denoter.{Denoter, out-Denoter}
use Rattle.estelle_model.specs.declared.denoter.Denoter.TheVariants as denoter
use Rattle.estelle_model.specs.declared.denoter.Denoter.TheOpen.{Denoter-F}
use Rattle.estelle_model.specs.declared.meaning.Meaning.{Meaning}
use Rattle.estelle_model.specs.declared.meaning.Meaning.TheVariants as mean
use Rattle.estelle_model.specs.Types.{ordinal_of, whole, range_of, range_at, least, greatest}
use Rattle.estelle_model.specs.Operators.{int_at, int_of, an_int, signed, ◌>>>◌}
use Rattle.estelle_model.specs.Meant.{Meanings}
use Rattle.estelle_model.specs.Constants.{by_sign, constant_named, constant_of, host_of_const, defined, const_meaning}
use Rattle.estelle_model.specs.Denoted.{Typing, Section, bound_at, bound, enumeration, type_of_meaning, ordinal_type, array_over, section_types, type_layer, typing, section}
use Rattle.meaning_table.proofs.TypeEquations.{fields, type_is, fields_is, section_is}
use Rattle.trace_forms.proofs.FilledTypes.{AreArraysFilled, FilledTo, HasFilledArrays}
use Rattle.trace_forms.proofs.Lists.{all_append, all_front, all_back}
use Rattle.trace_forms.proofs.Passes.{less_takes, less_flag, less_more, name_less, names}
use Rattle.trace_forms.proofs.Holds.{Holds, AllHold, hold_less, hold_end, hold_both, hold_as, hold_behind, hold_enclosed, hold_separated}
use Rattle.trace_forms.proofs.ConstantKinds.{HasValue, Alike, signed_from, const_has}
use Rattle.trace_forms.proofs.Declared.{Tells, AllTold, ConstFirm, OrdinalFirm, all_alike}
use Rattle.trace_forms.proofs.Kept.{Kept, PartKept, kept_front, kept_back, each_kept, not_true}
use Rattle.trace_forms.proofs.TypePlaces.{IsSettled}
use Rattle.trace_forms.proofs.SpelledTypes.{ordinal_holds}

-- ---- filled types

filled_ordinal : (h : Host) (low high : ℤ) → HasFilledArrays (denoter.Ordinal h low high)
filled_ordinal h low high zero = tt
filled_ordinal h low high (suc n) = subst (AreArraysFilled (FilledTo n)) (sym (denoter.outs-Ordinal h low high)) tt

filled_set : (h : Host) (low high : ℤ) → HasFilledArrays (denoter.Set h low high)
filled_set h low high zero = tt
filled_set h low high (suc n) = subst (AreArraysFilled (FilledTo n)) (sym (denoter.outs-Set h low high)) tt

filled_array : (low high : ℤ) (item : Denoter) → 0 < item_count low high → HasFilledArrays item → HasFilledArrays (denoter.Array low high item)
filled_array low high item c h zero = tt
filled_array low high item c h (suc n) = subst (AreArraysFilled (FilledTo n)) (sym (denoter.outs-Array low high item)) (c, h n)

all_to : (n : ℕ) (ts : List Denoter) → AllByRecursion HasFilledArrays ts → AllByRecursion (FilledTo n) ts
all_to n [] h = tt
all_to n (t ∷ ts) h = (h.0 n, all_to n ts h.1)

filled_fields : (ts : List Denoter) → AllByRecursion HasFilledArrays ts → HasFilledArrays (denoter.Fields ts)
filled_fields ts h zero = tt
filled_fields ts h (suc n) = subst (AreArraysFilled (FilledTo n)) (sym (denoter.outs-Fields ts)) (all_to n ts h)

-- ---- ordinal types that have a value

abbrev IsRangeLayer : Denoter-F Denoter → Type 0
IsRangeLayer (Denoter-F.Ordinal h low high) = int_le low high ≡ true
IsRangeLayer _ = ⊥

abbrev pub IsRange : Denoter → Type 0
IsRange t = IsRangeLayer (out-Denoter t)

range_ordinal : (h : Host) (low high : ℤ) → int_le low high ≡ true → IsRange (denoter.Ordinal h low high)
range_ordinal h low high e = subst IsRangeLayer (sym (denoter.outs-Ordinal h low high)) e

from_zero : (n : ℕ) → int_le (pos 0) (pos n) ≡ true
from_zero n = grind (arith, ints, nat_tests)

whole_range : (h : Host) → IsRange (whole h)
whole_range host.Integer = range_ordinal host.Integer (least host.Integer) (greatest host.Integer) refl
whole_range host.Boolean = range_ordinal host.Boolean (least host.Boolean) (greatest host.Boolean) refl
whole_range host.Char = range_ordinal host.Char (least host.Char) (greatest host.Char) refl
whole_range (host.Enumeration last) = range_ordinal (host.Enumeration last) (pos 0) (pos last) (from_zero last)

whole_filled : (h : Host) → HasFilledArrays (whole h)
whole_filled h = filled_ordinal h (least h) (greatest h)

counts : (low high : ℤ) → int_le low high ≡ true → 0 < item_count low high
counts low high e = subst (λ (b : Bool). 0 < (if b then nat_abs (high -ℤ low) + 1 else 0)) (sym e) (omega arith)

-- an array with such an index has a component
range_counts : (t : Denoter) → IsRange t → 0 < item_count (range_of t).0 (range_of t).1
range_counts t h = by (out-Denoter t) h
  where
    by : (l : Denoter-F Denoter) → IsRangeLayer l → 0 < item_count (range_at l).0 (range_at l).1
    by (Denoter-F.Ordinal h low high) e = counts low high e
    by l e = absurd e

-- ---- what is known of names in use

abbrev pub IsConstant : Meaning → Type 0
IsConstant (mean.Constant v h) = Unit {0}
IsConstant _ = ⊥

-- no array in the type is empty, and where the rules do not refuse it as the type of an index it has a value
abbrev pub IsFilled : Denoted → Denoter → Type 0
IsFilled u t = HasFilledArrays t × (is_no_index u ≡ false → IsRange t)

abbrev pub TypeFilled : RuleMeaning → Meaning → Type 0
TypeFilled r (mean.TypeName t) = IsFilled (type_denoted r) t
TypeFilled r _ = Unit {0}

-- a whole ordinal type is filled
pub whole_is_filled : (h : Host) (u : Denoted) → IsFilled u (whole h)
whole_is_filled h u = (whole_filled h, λ e. whole_range h)

pub named_filled : (r : RuleMeaning) (m : Meaning) → TypeFilled r m → IsFilled (type_denoted r) (type_of_meaning m)
named_filled r (mean.TypeName t) h = h
named_filled r (mean.Constant v k) h = whole_is_filled host.Integer (type_denoted r)
named_filled r (mean.Called c) h = whole_is_filled host.Integer (type_denoted r)
named_filled r (mean.Interaction kind) h = whole_is_filled host.Integer (type_denoted r)
named_filled r _ h = whole_is_filled host.Integer (type_denoted r)

-- ---- constants with a sign

negative_in : (n : ℤ) → is_integer n ≡ true → is_integer (pos 0 -ℤ n) ≡ true
negative_in n e = grind (arith, ints, nat_tests)

-- an integer with a sign has a value
sign_ok : (s : Sign) (n : ℤ) (u : PascalValue) → int_of u ≡ Ok n → is_integer n ≡ true → (v : PascalValue) × (signed s u ≡ Ok v)
unfolding signed
sign_ok sign.Plus n u i f = (pascal.Int n, ap (λ (r : Result ℤ Stop). r >>> λ m. Ok (pascal.Int m)) i)
sign_ok sign.Minus n u i f = (
  pascal.Int (pos 0 -ℤ n),
  ap (λ (r : Result ℤ Stop). r >>> λ m. an_int (difference_of (pos 0) m)) i ∙ ap (λ b. an_int (cond b (Ok (pos 0 -ℤ n)) (Err Overflow))) (negative_in n f),
)

-- so has a constant with a sign, where the rules know its value
value_ok : (s : Option Sign) (u : PascalValue) (x w : Value) → HasValue x u → is_integer (bound_at (ordinal_of u)) ≡ true → signed_value s (Some x) ≡ Some w → (v : PascalValue) × (by_sign s u ≡ Ok v)
value_ok None u x w h f e = (u, refl)
value_ok (Some s) u x w h f e = by (is_integer_host x.host) refl e
  where
    by : (b : Bool) → is_integer_host x.host ≡ b → with_host (if b then Some x.host else None) (signed_number (Some s) x.ordinal) ≡ Some w → (v : PascalValue) × (signed s u ≡ Ok v)
    by true i g = sign_ok s x.ordinal u (h.1 i) (ap (λ r. is_integer (bound_at r)) (sym h.0) ∙ f)
    by false i g = absurd (cc)

number_ok : (s : Option Sign) (n : ℤ) → is_integer n ≡ true → (v : PascalValue) × (by_sign s (pascal.Int n) ≡ Ok v)
number_ok None n f = (pascal.Int n, refl)
number_ok (Some s) n f = sign_ok s n (pascal.Int n) (ap int_at (pascal.outs-Int n)) f

-- env : what the rules know; meant : what names mean, of which this is told
module _ (env : Env) (meant : Meanings) (told : AllTold env meant) where
  abbrev NeedHeld : Name → Need → Type 0
  NeedHeld x need.Constant = IsConstant (meant x)
  NeedHeld x need.Type = TypeFilled (rules.known env x) (meant x)
  NeedHeld x n = Unit {0}

  abbrev EventHeld : Event → Type 0
  EventHeld (Use x n steps) = NeedHeld x n
  EventHeld v = Unit {0}

  -- what events use as constants are known, and what they use as types are filled
  abbrev pub UsesHeld : Events → Type 0
  UsesHeld = AllByRecursion EventHeld

  -- ---- constants

  const_ok : (c : Const) → ConstFirm c → UsesHeld (const_events c) → (w : Value) → const_value env c ≡ Some w → (v : PascalValue) × (constant_of meant c ≡ Ok v)
  unfolding const_value
  const_ok (const.Number s n span) f u w e = number_ok s n f
  const_ok (const.Char n span) f u w e = (pascal.Char n, refl)
  const_ok (const.Name s x span) f u w e = by (meant x) (told.0 x) (told.1 x) u.0
    where
      from : (y : Value) × ((constant_value (rules.known env x) ≡ Some y) × (y.host ≡ w.host))
      from = signed_from s (constant_value (rules.known env x)) w e

      by : (m : Meaning) → Tells (rules.known env x) m → Alike (rules.known env x) m → IsConstant m → (v : PascalValue) × ((constant_named m >>> by_sign s) ≡ Ok v)
      by (mean.Constant v h) t a k = value_ok s v from.0 w (a from.0 from.1.0).1 t.1.1 (ap (signed_value s) (sym from.1.0) ∙ e)
      by (mean.TypeName y) t a k = absurd k
      by (mean.Called c) t a k = absurd k
      by (mean.Interaction kind) t a k = absurd k
      by _ t a k = absurd k

  -- a bound has the ordinal that the rules know
  const_bound : (c : Const) → ConstFirm c → UsesHeld (const_events c) → (w : Value) → const_value env c ≡ Some w → bound meant c ≡ w.ordinal
  const_bound c f u w e =
      let v = const_ok c f u w e in
      ap (λ (r : Result PascalValue Stop). bound_at (r >>> ordinal_of)) v.1 ∙ ap bound_at (const_has env meant told.1 c w e v.0 v.1).0

  -- a constant with a value is one for the model too
  pub const_held : (c : Const) → ConstFirm c → UsesHeld (const_events c) → (w : Value) → const_value env c ≡ Some w → IsConstant (const_meaning meant c)
  const_held c f u w e = let v = const_ok c f u w e in subst (λ r. IsConstant (defined (host_of_const meant c) r)) (sym v.1) tt

  -- ---- ordinal types

  bounds_rise : (a b m n : ℤ) → a ≡ m → b ≡ n → int_lt n m ≡ false → int_le a b ≡ true
  bounds_rise a b m n e f g = grind (arith, ints, nat_tests)

  ordinal_filled : (o : Ordinal) → OrdinalFirm env o → UsesHeld (ordinal_events o) → IsFilled (types.ordinal_type env o) (ordinal_type meant o)
  ordinal_filled (ordinal.Name x) f u = named_filled (rules.known env x) (meant x) u.0
  ordinal_filled (ordinal.Enumeration names span) f u = whole_is_filled (enumeration names.names) (types.ordinal_type env (ordinal.Enumeration names span))
  ordinal_filled (ordinal.Subrange low high span) f u =
      let r = f.2 in
      let a = const_bound low f.0 (all_front EventHeld (const_events low) (const_events high) u) r.first r.low_is in
      let b = const_bound high f.1 (all_back EventHeld (const_events low) (const_events high) u) r.second r.high_is in
      (filled_ordinal _ _ _, λ e. range_ordinal _ _ _ (bounds_rise (bound meant low) (bound meant high) r.first.ordinal r.second.ordinal a b r.rises))

  -- ---- arrays

  none_of : (os : List Ordinal) → list_any (λ i. is_no_index (types.ordinal_type env i)) os ≡ false → AllByRecursion (λ o. is_no_index (types.ordinal_type env o) ≡ false) os
  none_of [] e = tt
  none_of (o ∷ os) e = by (is_no_index (types.ordinal_type env o)) refl (none_of os) e
    where
      by : (b : Bool) → is_no_index (types.ordinal_type env o) ≡ b → (list_any (λ i. is_no_index (types.ordinal_type env i)) os ≡ false → AllByRecursion (λ o. is_no_index (types.ordinal_type env o) ≡ false) os)
          → (b || list_any (λ i. is_no_index (types.ordinal_type env i)) os) ≡ false → AllByRecursion (λ o. is_no_index (types.ordinal_type env o) ≡ false) (o ∷ os)
      by true g more h = absurd (cc)
      by false g more h = (g, more h)

  arrays_filled : (os : List Ordinal) → AllByRecursion (OrdinalFirm env) os → AllByRecursion (λ o. is_no_index (types.ordinal_type env o) ≡ false) os → UsesHeld (flat_map ordinal_events os) → (item : Denoter) → HasFilledArrays item
      → HasFilledArrays (array_over (map (ordinal_type meant) os) item)
  arrays_filled [] f n u item h = h
  arrays_filled (o ∷ os) f n u item h =
      let t = ordinal_type meant o in
      let A = ordinal_events o in
      let B = flat_map ordinal_events os in
      filled_array (range_of t).0 (range_of t).1 (array_over (map (ordinal_type meant) os) item)
      (range_counts t ((ordinal_filled o f.0 (all_front EventHeld A B u)).1 n.0))
      (arrays_filled os f.1 n.1 (all_back EventHeld A B u) item h)

-- ---- type expressions

module _ (env : Env) where
  -- where its sites are kept and what it uses is held, a type is filled
  abbrev pub TypeFills : TypeExpr → Type 0
  TypeFills x = Kept ((types.typing x).sites env) → (meant : Meanings) (told : AllTold env meant) → UsesHeld env meant told (type_events x) → IsFilled ((types.typing x).denotes env) ((typing x).denotes meant)

  abbrev NamesFill : TypedNames → Type 0
  NamesFill x = Kept ((types.typed_names x).1.sites env) → (meant : Meanings) (told : AllTold env meant) → UsesHeld env meant told (naming.section x).1.1 → HasFilledArrays ((section x).1.denotes meant)

  module _ (T : Spelling TypeExpr) (fills : AllHold TypeFills T) where
    typed_fill : AllHold NamesFill (AreTyped T)
    typed_fill x i j h =
        hold_as (λ p kept meant told u. subst (λ (s : Section). HasFilledArrays (s.1.denotes meant)) (sym (section_is x))
        (p (subst (λ (s : types.Section). Kept (s.1.sites env)) (rule_types.section_is x) kept) meant told (subst (λ (s : naming.Section). UsesHeld env meant told s.1.1) (events.section_is x) u)).0)
        (hold_less (names (out-TypedNames x).names i h.mid h.first) (hold_less (less_takes h.mark) (fills (out-TypedNames x).type_expr h.at j h.second)))

    abbrev sections_sites : List types.Section → Sites
    sections_sites ss = flat_map (λ (s : types.Section). s.1.sites env) ss

    sections_filled : (xs : List TypedNames) → AllByRecursion NamesFill xs → Kept (sections_sites (map types.typed_names xs)) → (meant : Meanings) (told : AllTold env meant) → UsesHeld env meant told (flat_map (λ x. (naming.section x).1.1) xs)
        → AllByRecursion HasFilledArrays (section_types meant (map section xs))
    sections_filled [] h kept meant told u = tt
    sections_filled (x ∷ xs) h kept meant told u =
        let A = (types.typed_names x).1.sites env in
        let B = sections_sites (map types.typed_names xs) in
        let C = (naming.section x).1.1 in
        let D = flat_map (λ x. (naming.section x).1.1) xs in
        all_append HasFilledArrays (replicate (length (section x).0) ((section x).1.denotes meant)) (section_types meant (map section xs))
        (all_alike env HasFilledArrays ((section x).1.denotes meant) (length (section x).0) (h.0 (kept_front A B kept) meant told (all_front (EventHeld env meant told) C D u)))
        (sections_filled xs h.1 (kept_back A B kept) meant told (all_back (EventHeld env meant told) C D u))

    layer_fills : (room : ℕ) (l : TypeExprLayer) (i j : Input) → IsTypeLayer room T l i j
        → Holds i j (Kept ((types.type_layer (map-TypeExpr TypeExpr Fields TypedNames types.Typing (List types.Section) types.Section types.typing types.fields types.typed_names l)).sites env) → (meant : Meanings) (told : AllTold env meant)
        → UsesHeld env meant told (naming.type_layer (map-TypeExpr TypeExpr Fields TypedNames naming.Typed (List naming.Section) naming.Section naming.typed naming.sections naming.section l)).1
        → IsFilled ((types.type_layer (map-TypeExpr TypeExpr Fields TypedNames types.Typing (List types.Section) types.Section types.typing types.fields types.typed_names l)).denotes env)
        ((type_layer (map-TypeExpr TypeExpr Fields TypedNames Typing (List Section) Section typing fields section l)).denotes meant))
    unfolding as_type record_type set_type is_no_index
    layer_fills room (TypeExpr-F.Ordinal o) i j h = hold_as (λ p kept meant told u. ordinal_filled env meant told o (p kept) u) (ordinal_holds env o i j h)
    layer_fills room (TypeExpr-F.Array packed indices component span) i j h =
        let a = h.1 in
        let t = types.typing component in
        let A = flat_map (ordinal_sites env) indices in
        let B = t.sites env in
        let C : Sites = TypeAt span (has_no_index env indices) (array_denotes span indices t env) ∷ [] in
        let I = flat_map ordinal_events indices in
        let E = type_events component in
        let R = array_events span (drop 1 indices) (naming.typed component).0 in
        hold_as (λ p kept meant told u.
        let at = kept_back B C (kept_back A (B ++ C) kept) in
        let none = none_of env meant told indices (not_true (has_no_index env indices) (λ e. (at.0 span).1 (inl e, refl))) in
        let firm = each_kept (OrdinalFirm env) (ordinal_sites env) indices p.0 (kept_front A (B ++ C) kept) in
        let item = p.1 (kept_front B C (kept_back A (B ++ C) kept)) meant told (all_front (EventHeld env meant told) E R (all_back (EventHeld env meant told) I (E ++ R) u)) in
        (arrays_filled env meant told indices firm none (all_front (EventHeld env meant told) I (E ++ R) u) ((typing component).denotes meant) item.0, λ e. absurd (cc)))
        (hold_less (less_more (less_flag k.Packed packed a.packed) (less_takes a.array)) (hold_both (hold_enclosed (hold_separated k.Comma (ordinal_holds env)) indices a.after a.mid a.indices) (hold_behind fills component a.mid j a.component)))
    layer_fills room (TypeExpr-F.Fields packed fs span) i j h =
        let xs = (out-Fields fs).sections in
        let r = h.1.fields in
        let A = sections_sites (types.fields fs) in
        let B : Sites = TypeAt span false (fields_denote span (types.fields fs) env) ∷ [] in
        let S = flat_map (λ x. (naming.section x).1.1) xs in
        let D = Open scope.Inner ∷ (flat_map (λ x. Declare (naming.section x).0.names d.Field (naming.section x).1.0 ∷ []) xs ++ Keep span ∷ []) in
        hold_as (λ p kept meant told u.
        let u1 : UsesHeld env meant told (S ++ D) = subst (UsesHeld env meant told) (ap (naming.record_events span) (events.sections_is fs) ∙ events.record_is span xs) u in
        let all = sections_filled xs p (subst (λ (ss : List types.Section). Kept (sections_sites ss)) (rule_types.fields_is fs) (kept_front A B kept)) meant told (all_front (EventHeld env meant told) S D u1) in
        (filled_fields (section_types meant (fields fs)) (subst (λ (ss : List Section). AllByRecursion HasFilledArrays (section_types meant ss)) (sym (fields_is fs)) all), λ e. absurd (cc)))
        (hold_less (less_flag k.Packed packed h.1.packed) (hold_less (less_takes r.opens) (hold_end (hold_end (hold_separated k.Semicolon typed_fill xs r.at r.inside.mid r.inside.sections) (less_flag k.Semicolon (out-Fields fs).semicolon r.inside.semicolon)) (less_takes r.closes))))
    layer_fills room (TypeExpr-F.Set packed base span) i j h =
        hold_as (λ p kept meant told u. (filled_set _ _ _, λ e. absurd (cc))) (hold_less (less_more (less_flag k.Packed packed h.1.packed) (less_takes h.1.set)) (hold_behind (ordinal_holds env) base h.1.after j h.1.base))

  below_fills : (room : ℕ) → AllHold TypeFills (TypeBelow room)
  below_fills zero x i j h = absurd h
  below_fills (suc room) x i j h =
      hold_as (λ p kept meant told u.
      subst (λ (t : types.Typing). IsFilled (t.denotes env) ((typing x).denotes meant)) (sym (rule_types.type_is x))
      (subst (λ (t : Typing). IsFilled ((types.type_layer (map-TypeExpr TypeExpr Fields TypedNames types.Typing (List types.Section) types.Section types.typing types.fields types.typed_names (out-TypeExpr x))).denotes env) (t.denotes meant)) (sym (type_is x))
      (p (subst (λ (t : types.Typing). Kept (t.sites env)) (rule_types.type_is x) kept) meant told (subst (λ (t : naming.Typed). UsesHeld env meant told t.1) (events.type_is x) u))))
      (layer_fills (TypeBelow room) (below_fills room) room (out-TypeExpr x) i j h)

  pub type_fills : (room : ℕ) → AllHold TypeFills (IsType room)
  type_fills room = below_fills (suc room)

  -- ---- type definitions

  one_false : (s t : Bool) → (s ≡ true → t ≡ true) → t ≡ false → s ≡ false
  one_false true t h e = absurd (let f = sym e ∙ h refl in cc)
  one_false false t h e = refl

  -- a type definition says a filled type, as the rules know it at its place
  pub type_def_fills : (room : ℕ) → AllHold (λ x. PartKept env (sites.type_def x) → (meant : Meanings) (told : AllTold env meant) → UsesHeld env meant told (type_events x.type_expr) → TypeFilled (entity_at env x.name.span.start).meaning (mean.TypeName ((typing x.type_expr).denotes meant))) (IsTypeDef room)
  type_def_fills room x i j h =
      hold_as (λ p kept meant told u.
      let f = p kept.0 meant told u in
      let settled = (all_back (IsSettled env) (types.typing x.type_expr).declares _ kept.1).0 in
      (f.0, λ e. f.1 (one_false _ _ settled.1 e)))
      (hold_less (less_more (name_less h.first) (less_takes h.mark)) (type_fills room x.type_expr h.at j h.second))
