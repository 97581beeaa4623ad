-- Values go on belonging to their types: what is stored where it belongs, and what begins unset.
use Rattle.std.proofs.Common.{◌≡◌, ℕ, zero, suc, Bool, true, List, [], ◌∷◌, ◌++◌, length, map, replicate, drop, Option, Some, None, refl, sym, ap, subst, ◌∙◌, arith}
use Rattle.std.specs.Prelude.{IsTrue, ◌==◌, slice_get, slice_set}
use Rattle.std.specs.List.{list_all}
use Rattle.std.proofs.lemmas.List.{length-replicate}
use Rattle.std.proofs.lemmas.Bool.Decides.{nat_tests}
use Rattle.pascal_values.specs.declared.value.Value.{Value, out-Value}
use Rattle.pascal_values.specs.declared.value.Value.TheVariants as value
use Rattle.pascal_values.specs.declared.value.Value.TheOpen.{Value-F}
use Rattle.pascal_values.specs.declared.value.Shape.{Shape, out-Shape, roll-Shape, map-Shape}
use Rattle.pascal_values.specs.declared.value.Shape.TheOpen.{Shape-F}
use Rattle.pascal_values.specs.declared.value.Shape.TheFolds.{ind-Shape, fold-roll-Shape}
use Rattle.pascal_values.specs.Shapes.{item_count, each_passes, blank_of, blank_step}
use Rattle.pascal_values.specs.Values.{parts_at, with_parts_at, changed_by, changed_at, with_part}
use Rattle.estelle_model.specs.declared.denoter.Denoter.{Denoter}
use Rattle.estelle_model.specs.Types.{shape_of}
use Rattle.estelle_model.specs.Subject.{blanks}
use Rattle.estelle_model.specs.Belonging.{belongs, belongs_at, belongs_step, part_at, into_shape, shape_at, belongs_to, may_store, are_values_of}
use Rattle.estelle_model.proofs.Fitting.{belongs_out}
use Rattle.estelle_model_legality.proofs.Lists.{and_both, both_and}

-- ---- one part of several changes

length_set : (vs : List Value) (k : ℕ) (v : Value) → length (slice_set vs k v) ≡ length vs
length_set [] k v = refl
length_set (w ∷ vs) zero v = refl
length_set (w ∷ vs) (suc k) v = ap (λ (n : ℕ). suc n) (length_set vs k v)

length_changed : (vs : List Value) (k : ℕ) (f : Value → Value) → length (changed_at vs k f) ≡ length vs
length_changed vs k f = by (slice_get vs k)
  where
    by : (o : Option Value) → length (changed_by vs k o f) ≡ length vs
    by None = refl
    by (Some p) = length_set vs k (f p)

all_set : (test : Value → Bool) (vs : List Value) (k : ℕ) (v : Value) → list_all test vs ≡ true → test v ≡ true → list_all test (slice_set vs k v) ≡ true
all_set test [] k v h t = h
all_set test (w ∷ vs) zero v h t = both_and (test v) (list_all test vs) t (and_both (test w) (list_all test vs) h).1
all_set test (w ∷ vs) (suc k) v h t = let b = and_both (test w) (list_all test vs) h in both_and (test w) (list_all test (slice_set vs k v)) b.0 (all_set test vs k v b.1 t)

all_get : (test : Value → Bool) (vs : List Value) (k : ℕ) (v : Value) → list_all test vs ≡ true → slice_get vs k ≡ Some v → test v ≡ true
all_get test [] k v h e = absurd (cc)
all_get test (w ∷ vs) zero v h e = let is : w ≡ v = cc in subst (λ (x : Value). test x ≡ true) is (and_both (test w) (list_all test vs) h).0
all_get test (w ∷ vs) (suc k) v h e = all_get test vs k v (and_both (test w) (list_all test vs) h).1 e

all_changed : (test : Value → Bool) (vs : List Value) (k : ℕ) (f : Value → Value) → ((v : Value) → test v ≡ true → test (f v) ≡ true) → list_all test vs ≡ true → list_all test (changed_at vs k f) ≡ true
all_changed test vs k f keeps h = by (slice_get vs k) refl
  where
    by : (o : Option Value) → slice_get vs k ≡ o → list_all test (changed_by vs k o f) ≡ true
    by None e = h
    by (Some p) e = all_set test vs k (f p) h (keeps p (all_get test vs k p h e))

passes_changed : (shapes : List Shape) (vs : List Value) (k : ℕ) (f : Value → Value) → ((part : Shape) (v : Value) → slice_get shapes k ≡ Some part → belongs part v ≡ true → belongs part (f v) ≡ true)
    → each_passes (map belongs shapes) vs ≡ true → each_passes (map belongs shapes) (changed_at vs k f) ≡ true
passes_changed [] [] k f keeps h = refl
passes_changed [] (v ∷ vs) k f keeps h = absurd (cc)
passes_changed (x ∷ shapes) [] k f keeps h = absurd (cc)
passes_changed (x ∷ shapes) (v ∷ vs) zero f keeps h =
    let b = and_both (belongs x v) (each_passes (map belongs shapes) vs) h in
    both_and (belongs x (f v)) (each_passes (map belongs shapes) vs) (keeps x v refl b.0) b.1
passes_changed (x ∷ shapes) (v ∷ vs) (suc k) f keeps h =
    let b = and_both (belongs x v) (each_passes (map belongs shapes) vs) h in
    by (slice_get vs k) refl b (passes_changed shapes vs k f keeps b.1)
  where
    by : (o : Option Value) → slice_get vs k ≡ o → (belongs x v ≡ true) × (each_passes (map belongs shapes) vs ≡ true) → each_passes (map belongs shapes) (changed_by vs k (slice_get vs k) f) ≡ true → each_passes (map belongs (x ∷ shapes)) (changed_by (v ∷ vs) (suc k) o f) ≡ true
    by None e b rest = both_and (belongs x v) (each_passes (map belongs shapes) vs) b.0 b.1
    by (Some p) e b rest = both_and (belongs x v) (each_passes (map belongs shapes) (slice_set vs k (f p))) b.0 (sym (ap (λ (o : Option Value). each_passes (map belongs shapes) (changed_by vs k o f)) e) ∙ rest)

abbrev LayerBelongs : Shape-F Shape → Value-F Value → Type 0
LayerBelongs os ov = belongs_at (map-Shape Shape (Value → Bool) belongs os) ov ≡ true

-- a part at a way gets a value that belongs to its type
layer_stored : (os : Shape-F Shape) (ov : Value-F Value) (old : Value) (k : ℕ) (go : Shape → Option Shape) (u : Shape) (f : Value → Value)
    → ((part : Shape) (v : Value) → go part ≡ Some u → belongs part v ≡ true → belongs part (f v) ≡ true)
    → into_shape (part_at os k) go ≡ Some u → LayerBelongs os ov → LayerBelongs os (out-Value (with_parts_at ov old (changed_at (parts_at ov) k f)))
layer_stored (Shape-F.Array low high item) (Value-F.Array vs) old k go u f keeps there h =
    let b = and_both (length vs == item_count low high) (list_all (belongs item) vs) h in
    subst (LayerBelongs (Shape-F.Array low high item)) (sym (value.outs-Array (changed_at vs k f)))
    (both_and (length (changed_at vs k f) == item_count low high) (list_all (belongs item) (changed_at vs k f)) (ap (λ (n : ℕ). n == item_count low high) (length_changed vs k f) ∙ b.0) (all_changed (belongs item) vs k f (λ v t. keeps item v there t) b.1))
layer_stored (Shape-F.Array low high item) _ old k go u f keeps there h = absurd (cc)
layer_stored (Shape-F.Fields fields) (Value-F.Fields vs) old k go u f keeps there h =
    subst (LayerBelongs (Shape-F.Fields fields)) (sym (value.outs-Fields (changed_at vs k f)))
    (passes_changed fields vs k f (λ part v e t. keeps part v (sym (ap (λ (o : Option Shape). into_shape o go) e) ∙ there) t) h)
layer_stored (Shape-F.Fields fields) _ old k go u f keeps there h = absurd (cc)
layer_stored _ ov old k go u f keeps there h = absurd (cc)

pub belongs_stored : (way : List ℕ) (shape u : Shape) (old v : Value) → shape_at shape way ≡ Some u → belongs shape old ≡ true → belongs u v ≡ true → belongs shape (with_part old way v) ≡ true
belongs_stored [] shape u old v there h t = let is : shape ≡ u = cc in subst (λ (x : Shape). belongs x v ≡ true) (sym is) t
belongs_stored (k ∷ way) shape u old v there h t =
    belongs_out shape (with_part old (k ∷ way) v)
    ∙ layer_stored (out-Shape shape) (out-Value old) old k (λ part. shape_at part way) u (λ p. with_part p way v)
    (λ part w e b. belongs_stored way part u w v e b t) there (sym (belongs_out shape old) ∙ h)

-- the variables of an instance, where one part of one of them is stored
pub values_stored : (types : List Denoter) (vs : List Value) (x : ℕ) (way : List ℕ) (v : Value) → IsTrue (are_values_of types vs) → may_store types x way v ≡ true → IsTrue (are_values_of types (changed_at vs x (λ old. with_part old way v)))
values_stored [] [] x way v h may = refl
values_stored [] (w ∷ vs) x way v h may = absurd (cc)
values_stored (d ∷ types) [] x way v h may = absurd (cc)
values_stored (d ∷ types) (w ∷ vs) zero way v h may =
    let b = and_both (belongs (shape_of d) w) (are_values_of types vs) h in
    by (shape_at (shape_of d) way) refl b may
  where
    by : (o : Option Shape) → shape_at (shape_of d) way ≡ o → (belongs (shape_of d) w ≡ true) × (are_values_of types vs ≡ true) → belongs_to o v ≡ true → are_values_of (d ∷ types) (with_part w way v ∷ vs) ≡ true
    by None e b m = absurd (cc)
    by (Some u) e b m = both_and (belongs (shape_of d) (with_part w way v)) (are_values_of types vs) (belongs_stored way (shape_of d) u w v e b.0 m) b.1
values_stored (d ∷ types) (w ∷ vs) (suc x) way v h may =
    let b = and_both (belongs (shape_of d) w) (are_values_of types vs) h in
    by (slice_get vs x) refl b (values_stored types vs x way v b.1 may)
  where
    by : (o : Option Value) → slice_get vs x ≡ o → (belongs (shape_of d) w ≡ true) × (are_values_of types vs ≡ true) → are_values_of types (changed_by vs x (slice_get vs x) (λ old. with_part old way v)) ≡ true
        → are_values_of (d ∷ types) (changed_by (w ∷ vs) (suc x) o (λ old. with_part old way v)) ≡ true
    by None e b rest = both_and (belongs (shape_of d) w) (are_values_of types vs) b.0 b.1
    by (Some p) e b rest = both_and (belongs (shape_of d) w) (are_values_of types (slice_set vs x (with_part p way v))) b.0 (sym (ap (λ (o : Option Value). are_values_of types (changed_by vs x o (λ old. with_part old way v))) e) ∙ rest)

-- ---- what begins unset

abbrev Begins : Shape → Type 0
Begins shape = belongs shape (blank_of shape) ≡ true

abbrev Shown : Type 0
Shown = (x : Shape) × Begins x

all_replicated : (test : Value → Bool) (n : ℕ) (v : Value) → test v ≡ true → list_all test (replicate n v) ≡ true
all_replicated test zero v h = refl
all_replicated test (suc n) v h = both_and (test v) (list_all test (replicate n v)) h (all_replicated test n v h)

passes_blank : (shapes : List Shown) → each_passes (map belongs (map (λ (e : Shown). e.0) shapes)) (map blank_of (map (λ (e : Shown). e.0) shapes)) ≡ true
passes_blank [] = refl
passes_blank (x ∷ shapes) = both_and (belongs x.0 (blank_of x.0)) (each_passes (map belongs (map (λ (e : Shown). e.0) shapes)) (map blank_of (map (λ (e : Shown). e.0) shapes))) x.1 (passes_blank shapes)

abbrev layer : Shape-F Shown → Shape-F Shape
layer z = map-Shape Shown Shape (λ e. e.0) z

made : (z : Shape-F Shown) → belongs (roll-Shape (layer z)) (blank_of (roll-Shape (layer z))) ≡ belongs_at (map-Shape Shape (Value → Bool) belongs (layer z)) (out-Value (blank_step (map-Shape Shape Value blank_of (layer z))))
unfolding belongs blank_of
made z = ap (λ (f : Value → Bool). f (blank_of (roll-Shape (layer z)))) (fold-roll-Shape (Value → Bool) belongs_step (layer z))
    ∙ ap (λ (v : Value). belongs_step (map-Shape Shape (Value → Bool) belongs (layer z)) v) (fold-roll-Shape Value blank_step (layer z))

begins_step : (x : Shape-F Shape) (y : Shape-F Shown) → map-Shape Shown Shape (λ e. e.0) y ≡ x → Begins (roll-Shape x)
begins_step x y is = subst (λ (z : Shape-F Shape). Begins (roll-Shape z)) is (go y)
  where
    go : (z : Shape-F Shown) → Begins (roll-Shape (layer z))
    go (Shape-F.Array low high item) = made (Shape-F.Array low high item) ∙ ap (belongs_at (Shape-F.Array low high (belongs item.0))) (value.outs-Array (replicate (item_count low high) (blank_of item.0)))
        ∙ both_and (length (replicate (item_count low high) (blank_of item.0)) == item_count low high) (list_all (belongs item.0) (replicate (item_count low high) (blank_of item.0)))
        (let n = length-replicate (item_count low high) (blank_of item.0) in grind (arith, nat_tests, n)) (all_replicated (belongs item.0) (item_count low high) (blank_of item.0) item.1)
    go (Shape-F.Fields fields) = made (Shape-F.Fields fields) ∙ ap (belongs_at (Shape-F.Fields (map belongs (map (λ (e : Shown). e.0) fields)))) (value.outs-Fields (map blank_of (map (λ (e : Shown). e.0) fields))) ∙ passes_blank fields
    go (Shape-F.Int low high) = made (Shape-F.Int low high) ∙ ap (belongs_at (Shape-F.Int low high)) value.outs-Unset
    go (Shape-F.Bool low high) = made (Shape-F.Bool low high) ∙ ap (belongs_at (Shape-F.Bool low high)) value.outs-Unset
    go (Shape-F.Char low high) = made (Shape-F.Char low high) ∙ ap (belongs_at (Shape-F.Char low high)) value.outs-Unset
    go (Shape-F.Enum low high) = made (Shape-F.Enum low high) ∙ ap (belongs_at (Shape-F.Enum low high)) value.outs-Unset
    go (Shape-F.Set low high) = made (Shape-F.Set low high) ∙ ap (belongs_at (Shape-F.Set low high)) value.outs-Unset

pub belongs_blank : (shape : Shape) → Begins shape
belongs_blank = ind-Shape Begins begins_step

pub values_blank : (types : List Denoter) → IsTrue (are_values_of types (blanks types))
values_blank [] = refl
values_blank (d ∷ types) = both_and (belongs (shape_of d) (blank_of (shape_of d))) (are_values_of types (blanks types)) (belongs_blank (shape_of d)) (values_blank types)

-- parameters, and the rest as it begins
pub values_new : (parameters rest : List Denoter) (vs : List Value) → IsTrue (are_values_of parameters vs) → IsTrue (are_values_of (parameters ++ rest) (vs ++ blanks (drop (length vs) (parameters ++ rest))))
values_new [] rest [] h = values_blank rest
values_new [] rest (v ∷ vs) h = absurd (cc)
values_new (d ∷ parameters) rest [] h = absurd (cc)
values_new (d ∷ parameters) rest (v ∷ vs) h =
    let b = and_both (belongs (shape_of d) v) (are_values_of parameters vs) h in
    both_and (belongs (shape_of d) v) (are_values_of (parameters ++ rest) (vs ++ blanks (drop (length vs) (parameters ++ rest)))) b.0 (values_new parameters rest vs b.1)
