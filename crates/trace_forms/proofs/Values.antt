-- Values in which each set rises: what operators give, and what a part of a value, or a value with another part, is.
use Rattle.std.proofs.Common.{◌≡◌, ℕ, zero, suc, Bool, true, false, List, [], ◌∷◌, map, replicate, ℤ, Result, Ok, Err, Option, Some, None, refl, sym, ap, subst, cond, ◌∙◌}
use Rattle.std.specs.Prelude.{slice_get, slice_set}
use Rattle.std.specs.List.{list_all, AllByRecursion}
use Rattle.pascal_values.specs.declared.fault.Fault.{Fault}
use Rattle.pascal_values.specs.declared.fault.Fault.TheVariants.{Unset, Range}
use Rattle.pascal_values.specs.declared.value.Value.{Value, Value-F, out-Value, roll-Value, map-Value, fold_out-Value}
use Rattle.pascal_values.specs.declared.value.Value.TheFolds.{fold-Value, ind-Value, fold-roll-Value}
use Rattle.pascal_values.specs.declared.value.Value.TheVariants as value
use Rattle.pascal_values.specs.declared.value.Shape.{Shape, roll-Shape, map-Shape}
use Rattle.pascal_values.specs.declared.value.Shape.TheOpen.{Shape-F}
use Rattle.pascal_values.specs.declared.value.Shape.TheFolds.{ind-Shape, fold-roll-Shape}
use Rattle.pascal_values.specs.Sets.{IsSet, union, intersection, difference}
use Rattle.pascal_values.specs.Values.{parts_at, parts_of, with_parts_at, with_parts, into, part_of, changed_by, changed_at, with_part}
use Rattle.pascal_values.specs.Shapes.{item_count, blank_of, blank_step, is_unset}
use Rattle.pascal_values.proofs.SetLemmas.{IsSet-set_of}
use Rattle.estelle_tree.specs.declared.tree.type_expr.Sign.{Sign}
use Rattle.estelle_tree.specs.declared.tree.type_expr.Sign.TheVariants as sign
use Rattle.estelle_tree.specs.declared.tree.expression.Relation.{Relation}
use Rattle.estelle_tree.specs.declared.tree.expression.Relation.TheVariants as relation
use Rattle.estelle_model.specs.Stops.{Stop, Faults, stopping}
use Rattle.estelle_model.specs.declared.denoter.Denoter.{Denoter}
use Rattle.estelle_model.specs.declared.denoter.Host.{Host}
use Rattle.estelle_model.specs.declared.denoter.Host.TheVariants as host
use Rattle.estelle_model.specs.Types.{shape_of, ordinal_of, value_of, value_in, least, greatest, whole, assignable}
use Rattle.estelle_tree.specs.declared.required.Required.{Required}
use Rattle.estelle_tree.specs.declared.required.Required.TheVariants.{Abs, Sqr, Odd, Succ, Pred, Ord, Chr}
use Rattle.estelle_model.specs.Operators.{◌>>>◌, int_of, bool_of, set_of_value, an_int, two_ints, by_kind, plus, minus, times, divided, modulo, signed, negation, related, beyond, stepped, host_told, succeeding, preceding, in_host, is_odd, required_value}
use Rattle.estelle_model.specs.Belonging.{rises}
use Rattle.estelle_model.specs.Places as places
use Rattle.estelle_model.specs.Places.{set_value, blanked}
use Rattle.estelle_model.proofs.Fitting.{is_rises}
use Rattle.pascal_values.specs.Integers.{is_between, sum_of, difference_of, product_of, quotient_of, remainder_of}
use Rattle.estelle_model.specs.Subject.{blanks}
use Rattle.estelle_model_legality.proofs.Lists.{and_both, both_and}
use Rattle.trace_forms.proofs.Lists.{all_at, all_tests}

-- ---- a test of sets

abbrev pub sets_step : Value-F Bool → Bool
sets_step (Value-F.Set ns) = rises 0 ns
sets_step (Value-F.Array tests) = list_all (λ b. b) tests
sets_step (Value-F.Fields tests) = list_all (λ b. b) tests
sets_step _ = true

-- each set in a value rises
unfoldable pub sets_rise : Value → Bool
sets_rise = fold-Value Bool sets_step

pub sets_out : (v : Value) → sets_rise v ≡ sets_step (map-Value Value Bool sets_rise (out-Value v))
unfolding sets_rise
sets_out v = fold_out-Value Bool sets_step v

abbrev pub Rises : Value → Type 0
Rises v = sets_rise v ≡ true

abbrev pub AllRise : List Value → Type 0
AllRise = AllByRecursion Rises

-- ---- values of each kind

abbrev at_layer : Value-F Value → Bool
at_layer l = sets_step (map-Value Value Bool sets_rise l)

pub unset_rises : Rises value.Unset
unset_rises = sets_out value.Unset ∙ ap at_layer value.outs-Unset

pub int_rises : (n : ℤ) → Rises (value.Int n)
int_rises n = sets_out (value.Int n) ∙ ap at_layer (value.outs-Int n)

pub bool_rises : (b : Bool) → Rises (value.Bool b)
bool_rises b = sets_out (value.Bool b) ∙ ap at_layer (value.outs-Bool b)

pub char_rises : (n : ℕ) → Rises (value.Char n)
char_rises n = sets_out (value.Char n) ∙ ap at_layer (value.outs-Char n)

pub enum_rises : (n : ℕ) → Rises (value.Enum n)
enum_rises n = sets_out (value.Enum n) ∙ ap at_layer (value.outs-Enum n)

pub set_rises : (ns : List ℕ) → IsSet ns → Rises (value.Set ns)
set_rises ns h = sets_out (value.Set ns) ∙ ap at_layer (value.outs-Set ns) ∙ is_rises 0 ns h

pub all_of : (vs : List Value) → list_all sets_rise vs ≡ true → AllRise vs
all_of [] h = tt
all_of (v ∷ vs) h = let b = and_both (sets_rise v) (list_all sets_rise vs) h in (b.0, all_of vs b.1)

pub of_all : (vs : List Value) → AllRise vs → list_all sets_rise vs ≡ true
of_all [] h = refl
of_all (v ∷ vs) h = both_and (sets_rise v) (list_all sets_rise vs) h.0 (of_all vs h.1)

pub array_rises : (vs : List Value) → AllRise vs → Rises (value.Array vs)
array_rises vs h = sets_out (value.Array vs) ∙ ap at_layer (value.outs-Array vs) ∙ all_tests sets_rise vs ∙ of_all vs h

pub fields_rise : (vs : List Value) → AllRise vs → Rises (value.Fields vs)
fields_rise vs h = sets_out (value.Fields vs) ∙ ap at_layer (value.outs-Fields vs) ∙ all_tests sets_rise vs ∙ of_all vs h

-- ---- lists of values

all_set : (vs : List Value) (k : ℕ) (v : Value) → AllRise vs → Rises v → AllRise (slice_set vs k v)
all_set [] k v h r = h
all_set (w ∷ vs) zero v h r = (r, h.1)
all_set (w ∷ vs) (suc k) v h r = (h.0, all_set vs k v h.1 r)

pub all_changed : (vs : List Value) (k : ℕ) (f : Value → Value) → ((v : Value) → Rises v → Rises (f v)) → AllRise vs → AllRise (changed_at vs k f)
all_changed vs k f keeps h = by (slice_get vs k) refl
  where
    by : (o : Option Value) → slice_get vs k ≡ o → AllRise (changed_by vs k o f)
    by None e = h
    by (Some p) e = all_set vs k (f p) h (keeps p (all_at Rises vs k p h e))

-- ---- parts

pub parts_rise : (v : Value) → Rises v → AllRise (parts_of v)
parts_rise v h = by (out-Value v) (sym (sets_out v) ∙ h)
  where
    by : (l : Value-F Value) → at_layer l ≡ true → AllRise (parts_at l)
    by (Value-F.Array parts) e = all_of parts (sym (all_tests sets_rise parts) ∙ e)
    by (Value-F.Fields parts) e = all_of parts (sym (all_tests sets_rise parts) ∙ e)
    by Value-F.Unset e = tt
    by (Value-F.Int n) e = tt
    by (Value-F.Bool b) e = tt
    by (Value-F.Char n) e = tt
    by (Value-F.Enum n) e = tt
    by (Value-F.Set ns) e = tt

with_parts_rise : (v : Value) (new : List Value) → Rises v → AllRise new → Rises (with_parts v new)
with_parts_rise v new h k = by (out-Value v)
  where
    by : (l : Value-F Value) → Rises (with_parts_at l v new)
    by (Value-F.Array parts) = array_rises new k
    by (Value-F.Fields parts) = fields_rise new k
    by Value-F.Unset = h
    by (Value-F.Int n) = h
    by (Value-F.Bool b) = h
    by (Value-F.Char n) = h
    by (Value-F.Enum n) = h
    by (Value-F.Set ns) = h

pub part_rises : (way : List ℕ) (v w : Value) → Rises v → part_of v way ≡ Some w → Rises w
part_rises [] v w h e = let is : v ≡ w = cc in subst Rises is h
part_rises (k ∷ way) v w h e = by (slice_get (parts_of v) k) refl e (λ p. part_rises way p w)
  where
    by : (o : Option Value) → slice_get (parts_of v) k ≡ o → into o (λ p. part_of p way) ≡ Some w → ((p : Value) → Rises p → part_of p way ≡ Some w → Rises w) → Rises w
    by None is f rest = absurd (cc)
    by (Some p) is f rest = rest p (all_at Rises (parts_of v) k p (parts_rise v h) is) f

pub with_part_rises : (way : List ℕ) (v new : Value) → Rises v → Rises new → Rises (with_part v way new)
with_part_rises [] v new h k = k
with_part_rises (j ∷ way) v new h k = with_parts_rise v (changed_at (parts_of v) j (λ p. with_part p way new)) h (all_changed (parts_of v) j (λ p. with_part p way new) (λ p r. with_part_rises way p new r k) (parts_rise v h))

-- ---- what begins unset

abbrev Blank : Shape → Type 0
Blank shape = Rises (blank_of shape)

abbrev ShownShape : Type 0
ShownShape = (x : Shape) × Blank x

all_replicated : (n : ℕ) (v : Value) → Rises v → AllRise (replicate n v)
all_replicated zero v h = tt
all_replicated (suc n) v h = (h, all_replicated n v h)

all_blank : (shapes : List ShownShape) → AllRise (map blank_of (map (λ (e : ShownShape). e.0) shapes))
all_blank [] = tt
all_blank (x ∷ shapes) = (x.1, all_blank shapes)

abbrev shape_layer : Shape-F ShownShape → Shape-F Shape
shape_layer z = map-Shape ShownShape Shape (λ e. e.0) z

blank_made : (z : Shape-F ShownShape) → blank_of (roll-Shape (shape_layer z)) ≡ blank_step (map-Shape Shape Value blank_of (shape_layer z))
unfolding blank_of
blank_made z = fold-roll-Shape Value blank_step (shape_layer z)

blank_step_rises : (x : Shape-F Shape) (y : Shape-F ShownShape) → map-Shape ShownShape Shape (λ e. e.0) y ≡ x → Blank (roll-Shape x)
blank_step_rises x y is = subst (λ (z : Shape-F Shape). Blank (roll-Shape z)) is (subst Rises (sym (blank_made y)) (go y))
  where
    go : (z : Shape-F ShownShape) → Rises (blank_step (map-Shape Shape Value blank_of (shape_layer z)))
    go (Shape-F.Array low high item) = array_rises (replicate (item_count low high) (blank_of item.0)) (all_replicated (item_count low high) (blank_of item.0) item.1)
    go (Shape-F.Fields fields) = fields_rise (map blank_of (map (λ (e : ShownShape). e.0) fields)) (all_blank fields)
    go (Shape-F.Int low high) = unset_rises
    go (Shape-F.Bool low high) = unset_rises
    go (Shape-F.Char low high) = unset_rises
    go (Shape-F.Enum low high) = unset_rises
    go (Shape-F.Set low high) = unset_rises

pub blank_rises : (shape : Shape) → Rises (blank_of shape)
blank_rises = ind-Shape Blank blank_step_rises

pub blanks_rise : (types : List Denoter) → AllRise (blanks types)
blanks_rise [] = tt
blanks_rise (d ∷ types) = (blank_rises (shape_of d), blanks_rise types)

-- ---- a value in which nothing is set

abbrev Blanked : Value → Type 0
Blanked v = Rises (blanked v)

abbrev ShownValue : Type 0
ShownValue = (x : Value) × Blanked x

all_blanked : (vs : List ShownValue) → AllRise (map blanked (map (λ (e : ShownValue). e.0) vs))
all_blanked [] = tt
all_blanked (x ∷ vs) = (x.1, all_blanked vs)

abbrev value_layer : Value-F ShownValue → Value-F Value
value_layer z = map-Value ShownValue Value (λ e. e.0) z

blanked_made : (z : Value-F ShownValue) → blanked (roll-Value (value_layer z)) ≡ places.blank_step (map-Value Value Value blanked (value_layer z))
unfolding blanked
blanked_made z = fold-roll-Value Value places.blank_step (value_layer z)

blanked_step_rises : (x : Value-F Value) (y : Value-F ShownValue) → map-Value ShownValue Value (λ e. e.0) y ≡ x → Blanked (roll-Value x)
blanked_step_rises x y is = subst (λ (z : Value-F Value). Blanked (roll-Value z)) is (subst Rises (sym (blanked_made y)) (go y))
  where
    go : (z : Value-F ShownValue) → Rises (places.blank_step (map-Value Value Value blanked (value_layer z)))
    go (Value-F.Array vs) = array_rises (map blanked (map (λ (e : ShownValue). e.0) vs)) (all_blanked vs)
    go (Value-F.Fields vs) = fields_rise (map blanked (map (λ (e : ShownValue). e.0) vs)) (all_blanked vs)
    go Value-F.Unset = unset_rises
    go (Value-F.Int n) = unset_rises
    go (Value-F.Bool b) = unset_rises
    go (Value-F.Char n) = unset_rises
    go (Value-F.Enum n) = unset_rises
    go (Value-F.Set ns) = unset_rises

pub blanked_rises : (v : Value) → Rises (blanked v)
blanked_rises = ind-Value Blanked blanked_step_rises

-- ---- what operators give

abbrev pub Yields : Result Value Stop → Type 0
Yields (Ok v) = Rises v
Yields (Err e) = Unit {0}

int_yields : (r : Result ℤ Fault) → Yields (an_int r)
int_yields (Ok n) = int_rises n
int_yields (Err e) = tt

and_then_yields : {A : Type 0} (r : Result A Stop) (f : A → Result Value Stop) → ((a : A) → Yields (f a)) → Yields (r >>> f)
and_then_yields (Ok a) f h = h a
and_then_yields (Err e) f h = tt

two_ints_yield : (f : ℤ → ℤ → Result ℤ Fault) (v w : Value) → Yields (two_ints f v w)
two_ints_yield f v w = and_then_yields (int_of v) (λ m. int_of w >>> λ n. an_int (f m n)) (λ m. and_then_yields (int_of w) (λ n. an_int (f m n)) (λ n. int_yields (f m n)))

kind_yields : (f : ℤ → ℤ → Result ℤ Fault) (g : List ℕ → List ℕ → List ℕ) → ((a b : List ℕ) → IsSet (g a b)) → (v w : Value) (l : Value-F Value) → Yields (by_kind f g v w l)
kind_yields f g sets v w (Value-F.Set a) = and_then_yields (set_of_value w) (λ b. Ok (value.Set (g a b))) (λ b. set_rises (g a b) (sets a b))
kind_yields f g sets v w Value-F.Unset = two_ints_yield f v w
kind_yields f g sets v w (Value-F.Int n) = two_ints_yield f v w
kind_yields f g sets v w (Value-F.Bool b) = two_ints_yield f v w
kind_yields f g sets v w (Value-F.Char n) = two_ints_yield f v w
kind_yields f g sets v w (Value-F.Enum n) = two_ints_yield f v w
kind_yields f g sets v w (Value-F.Array parts) = two_ints_yield f v w
kind_yields f g sets v w (Value-F.Fields parts) = two_ints_yield f v w

pub union_is : (a b : List ℕ) → IsSet (union a b)
unfolding union
union_is a b = IsSet-set_of _

intersection_is : (a b : List ℕ) → IsSet (intersection a b)
unfolding intersection
intersection_is a b = IsSet-set_of _

difference_is : (a b : List ℕ) → IsSet (difference a b)
unfolding difference
difference_is a b = IsSet-set_of _

pub plus_yields : (v w : Value) → Yields (plus v w)
unfolding plus
plus_yields v w = kind_yields sum_of union union_is v w (out-Value v)

pub minus_yields : (v w : Value) → Yields (minus v w)
unfolding minus
minus_yields v w = kind_yields difference_of difference difference_is v w (out-Value v)

pub times_yield : (v w : Value) → Yields (times v w)
unfolding times
times_yield v w = kind_yields product_of intersection intersection_is v w (out-Value v)

pub divided_yields : (v w : Value) → Yields (divided v w)
unfolding divided
divided_yields v w = two_ints_yield quotient_of v w

pub modulo_yields : (v w : Value) → Yields (modulo v w)
unfolding modulo
modulo_yields v w = two_ints_yield remainder_of v w

pub signed_yields : (s : Sign) (v : Value) → Yields (signed s v)
unfolding signed
signed_yields sign.Plus v = and_then_yields (int_of v) _ (λ n. int_rises n)
signed_yields sign.Minus v = and_then_yields (int_of v) _ (λ n. int_yields _)

pub negation_yields : (v : Value) → Yields (negation v)
unfolding negation
negation_yields v = and_then_yields (bool_of v) _ (λ b. bool_rises _)

pub related_yields : (r : Relation) (v w : Value) → Yields (related r v w)
unfolding related
related_yields relation.Equal v w = bool_rises _
related_yields relation.NotEqual v w = bool_rises _
related_yields relation.Less v w = bool_rises _
related_yields relation.AtMost v w = bool_rises _
related_yields relation.Greater v w = bool_rises _
related_yields relation.AtLeast v w = bool_rises _
related_yields relation.Member v w = and_then_yields (ordinal_of v) _ (λ n. and_then_yields (set_of_value w) _ (λ ns. bool_rises _))

value_of_rises : (h : Host) (n : ℤ) → Rises (value_of h n)
value_of_rises host.Integer n = int_rises n
value_of_rises host.Boolean n = bool_rises _
value_of_rises host.Char n = char_rises _
value_of_rises (host.Enumeration last) n = enum_rises _

stepped_yields : (h : Host) (n : ℤ) → Yields (stepped h n)
stepped_yields h n = by (is_between (least h) (greatest h) n)
  where
    by : (b : Bool) → Yields (cond b (Ok (value_of h n)) (Err (Faults (beyond h))))
    by true = value_of_rises h n
    by false = tt

pub value_in_yields : (h : Host) (n : ℤ) → Yields (value_in h n)
value_in_yields h n = by (is_between (least h) (greatest h) n)
  where
    by : (b : Bool) → Yields (cond b (Ok (value_of h n)) (Err (Faults Range)))
    by true = value_of_rises h n
    by false = tt

-- a test of the host changes no value
in_host_yields : (h : Host) (r : Result Value Stop) → Yields r → Yields (r >>> in_host h)
in_host_yields h (Err e) y = tt
in_host_yields host.Integer (Ok v) y = y
in_host_yields host.Boolean (Ok v) y = y
in_host_yields host.Char (Ok v) y = y
in_host_yields (host.Enumeration last) (Ok v) y = by (stopping (assignable (shape_of (whole (host.Enumeration last))) v))
  where
    by : (r : Result (Unit {0}) Stop) → Yields (r >>> λ ok. Ok v)
    by (Ok ok) = y
    by (Err e) = tt

pub required_yields : (f : Required) (h : Host) (v : Value) → Yields (required_value f h v)
unfolding required_value
required_yields Abs h v = and_then_yields (int_of v) _ (λ n. int_yields _)
required_yields Sqr h v = and_then_yields (int_of v) _ (λ n. int_yields _)
required_yields Odd h v = and_then_yields (int_of v) _ (λ n. and_then_yields (stopping (is_odd n)) (λ b. Ok (value.Bool b)) (λ b. bool_rises b))
required_yields Succ h v = in_host_yields h (succeeding v) (and_then_yields (ordinal_of v) _ (λ n. stepped_yields (host_told v) _))
required_yields Pred h v = in_host_yields h (preceding v) (and_then_yields (ordinal_of v) _ (λ n. stepped_yields (host_told v) _))
required_yields Ord h v = and_then_yields (ordinal_of v) _ (λ n. int_rises n)
required_yields Chr h v = and_then_yields (int_of v) _ (λ n. stepped_yields host.Char n)

pub set_value_yields : (v : Value) → Rises v → Yields (set_value (Some v))
set_value_yields v h = by (is_unset v)
  where
    by : (b : Bool) → Yields (cond b (Err (Faults Unset)) (Ok v))
    by true = tt
    by false = h
