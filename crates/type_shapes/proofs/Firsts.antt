-- The first of shapes that are spelt alike.
use Rattle.std.proofs.Common.{◌≡◌, ◌∙◌, ap, sym, subst, ℕ, zero, suc, ◌+◌, ◌<◌, Bool, true, false, cond, List, [], ◌∷◌, map, length, drop, get_or, refl, arith, add-one, Option, Some, None}
use Rattle.std.specs.Prelude.{if◌then◌else◌, slice_get}
use Rattle.std.specs.Str.{bytes_eq}
use Rattle.std.specs.Map.{lookup}
use Rattle.std.specs.List.{position_from}
use Rattle.std.proofs.lemmas.Slice.Eq.{bytes_eq-Decides}
use Rattle.indexmap.specs.IndexMap.{insert_entry}
use Rattle.pascal_values.specs.declared.value.Shape.{Shape}
use Rattle.type_shapes.specs.Spelling.{spelling, first_of}
use Rattle.type_shapes.specs.Numbered.{Numbered, AreFirst}
use Rattle.type_shapes.proofs.Apart.{apart}

-- keys that are seen as their numbers
pub seen_inserted : {K : Type 0} (items : K → List ℕ) (es : List (K × ℕ)) (key : K) (v : ℕ) → map (λ e. (items e.0, e.1)) (insert_entry (λ a b. bytes_eq (items a) (items b)) es key v) ≡ insert_entry bytes_eq (map (λ e. (items e.0, e.1)) es) (items key) v
seen_inserted items [] key v = refl
seen_inserted {K = K} items (e ∷ es) key v = by (bytes_eq (items key) (items e.0)) (seen_inserted items es key v)
  where
    by : (b : Bool) → map (λ p. (items p.0, p.1)) (insert_entry (λ a b. bytes_eq (items a) (items b)) es key v) ≡ insert_entry bytes_eq (map (λ p. (items p.0, p.1)) es) (items key) v → map (λ p. (items p.0, p.1)) (if b then (e.0, v) ∷ es else e ∷ insert_entry (λ a b. bytes_eq (items a) (items b)) es key v) ≡ (if b then (items e.0, v) ∷ map (λ p. (items p.0, p.1)) es else (items e.0, e.1) ∷ insert_entry bytes_eq (map (λ p. (items p.0, p.1)) es) (items key) v)
    by true h = refl
    by false h = ap (λ r. (items e.0, e.1) ∷ r) h

pub seen_found : {K : Type 0} (items : K → List ℕ) (text : List ℕ) (es : List (K × ℕ)) → lookup (λ k. bytes_eq text (items k)) es ≡ lookup (bytes_eq text) (map (λ e. (items e.0, e.1)) es)
seen_found items text [] = refl
seen_found items text (e ∷ es) = ap (λ r. cond (bytes_eq text (items e.0)) (Some e.1) r) (seen_found items text es)

-- what is found after one more
pub found_behind : (text key : List ℕ) (v : ℕ) (es : Numbered) → lookup (bytes_eq text) (insert_entry bytes_eq es key v) ≡ cond (bytes_eq text key) (Some v) (lookup (bytes_eq text) es)
found_behind text key v [] = refl
found_behind text key v (e ∷ es) = by (bytes_eq key e.0) refl (bytes_eq text key) refl (found_behind text key v es)
  where
    by : (b : Bool) → bytes_eq key e.0 ≡ b → (c : Bool) → bytes_eq text key ≡ c → lookup (bytes_eq text) (insert_entry bytes_eq es key v) ≡ cond (bytes_eq text key) (Some v) (lookup (bytes_eq text) es) → lookup (bytes_eq text) (if b then (e.0, v) ∷ es else e ∷ insert_entry bytes_eq es key v) ≡ cond c (Some v) (cond (bytes_eq text e.0) (Some e.1) (lookup (bytes_eq text) es))
    by true is true here more = ap (λ k. cond (bytes_eq text k) (Some v) (lookup (bytes_eq text) es)) (sym ((bytes_eq-Decides key e.0).0 is)) ∙ ap (λ c. cond c (Some v) (lookup (bytes_eq text) es)) here
    by true is false here more =
        let not : bytes_eq text e.0 ≡ false = ap (bytes_eq text) (sym ((bytes_eq-Decides key e.0).0 is)) ∙ here in
        ap (λ c. cond c (Some v) (lookup (bytes_eq text) es)) not ∙ sym (ap (λ c. cond c (Some e.1) (lookup (bytes_eq text) es)) not)
    by false is true here more =
        let not : bytes_eq text e.0 ≡ false = ap (λ t. bytes_eq t e.0) ((bytes_eq-Decides text key).0 here) ∙ is in
        ap (λ c. cond c (Some e.1) (lookup (bytes_eq text) (insert_entry bytes_eq es key v))) not ∙ more ∙ ap (λ c. cond c (Some v) (lookup (bytes_eq text) es)) here
    by false is false here more = ap (λ r. cond (bytes_eq text e.0) (Some e.1) r) (more ∙ ap (λ c. cond c (Some v) (lookup (bytes_eq text) es)) here)

-- one more shape before others
first_before : (n : ℕ) (shapes : List Shape) (shape : Shape) (old new : Numbered) → AreFirst (n + 1) shapes old → new ≡ insert_entry bytes_eq old (spelling shape) n → AreFirst n (shape ∷ shapes) new
first_before n shapes shape old new h e text = ap (lookup (bytes_eq text)) e ∙ found_behind text (spelling shape) n old ∙ ap (λ r. cond (bytes_eq text (spelling shape)) (Some n) r) (h text)

dropped : (shapes : List Shape) (i : ℕ) (shape : Shape) → i < length shapes → shape ≡ get_or shapes i shape → drop i shapes ≡ shape ∷ drop (suc i) shapes
dropped [] i shape h e = absurd (omega arith)
dropped (s ∷ shapes) zero shape h e = ap (λ x. x ∷ shapes) (sym e)
dropped (s ∷ shapes) (suc i) shape h e = dropped shapes i shape (omega arith) e

pub one_before : (shapes : List Shape) (i : ℕ) (shape : Shape) (old new : Numbered) → i < length shapes → shape ≡ get_or shapes i shape → AreFirst (i + 1) (drop (i + 1) shapes) old → new ≡ insert_entry bytes_eq old (spelling shape) i → AreFirst i (drop i shapes) new
one_before shapes i shape old new h e before is =
    subst (λ xs. AreFirst i xs new) (sym (dropped shapes i shape h e)) (first_before i (drop (suc i) shapes) shape old new (subst (λ k. AreFirst (i + 1) (drop k shapes) old) (add-one i) before) is)

-- ---- the first one is that shape

found_from : (shape : Shape) (n k : ℕ) (shapes : List Shape) → position_from (bytes_eq (spelling shape)) n (map spelling shapes) ≡ Some k → (j : ℕ) × ((k ≡ n + j) × (slice_get shapes j ≡ Some shape))
found_from shape n k [] h = absurd (cc)
found_from shape n k (s ∷ shapes) h = by (bytes_eq (spelling shape) (spelling s)) refl h (found_from shape (n + 1) k shapes)
  where
    by : (b : Bool) → bytes_eq (spelling shape) (spelling s) ≡ b → cond b (Some n) (position_from (bytes_eq (spelling shape)) (n + 1) (map spelling shapes)) ≡ Some k
        → (position_from (bytes_eq (spelling shape)) (n + 1) (map spelling shapes) ≡ Some k → (j : ℕ) × ((k ≡ (n + 1) + j) × (slice_get shapes j ≡ Some shape)))
        → (j : ℕ) × ((k ≡ n + j) × (slice_get (s ∷ shapes) j ≡ Some shape))
    by true is e rest = let same : n ≡ k = cc in (0, (omega arith, ap Some (sym (apart shape s ((bytes_eq-Decides (spelling shape) (spelling s)).0 is)))))
    by false is e rest = let more = rest e in let far : k ≡ (n + 1) + more.0 = more.1.0 in (suc more.0, (omega arith, more.1.1))

pub first_is : (shapes : List Shape) (shape : Shape) (k : ℕ) → first_of shapes shape ≡ Some k → slice_get shapes k ≡ Some shape
first_is shapes shape k h =
    let found = found_from shape 0 k shapes h in
    let same : found.0 ≡ k = (let e : k ≡ 0 + found.0 = found.1.0 in omega arith) in
    subst (λ j. slice_get shapes j ≡ Some shape) same found.1.1
