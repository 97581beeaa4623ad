-- The folds over shapes, one layer at a time.
use Rattle.std.proofs.Common.{◌≡◌, ℕ, zero, suc, ◌+◌, ◌<◌, ◌≤◌, Bool, true, false, ◌&&◌, List, [], ◌∷◌, ◌++◌, length, replicate, take, get_or, add-one, ap, subst, ◌∙◌, sym, refl, arith}
use Rattle.pascal_values.specs.declared.value.Value.{Value}
use Rattle.pascal_values.specs.declared.value.Shape.{Shape, out-Shape, map-Shape, fold_out-Shape}
use Rattle.pascal_values.specs.Shapes.{blank_of, blank_step, is_within, within_step, each_within}

pub blank_out : (shape : Shape) → blank_of shape ≡ blank_step (map-Shape Shape Value blank_of (out-Shape shape))
unfolding blank_of
blank_out shape = fold_out-Shape Value blank_step shape

pub within_out : (shape : Shape) (v : Value) → is_within shape v ≡ within_step (map-Shape Shape (Value → Bool) is_within (out-Shape shape)) v
unfolding is_within
within_out shape v = ap (λ f. f v) (fold_out-Shape (Value → Bool) within_step shape)

-- lists of different lengths do not lie within each other
pub each_within_apart : (shapes : List Shape) (vs : List Value) → ¬ (length shapes ≡ length vs) → each_within shapes vs ≡ false
each_within_apart [] [] apart = absurd (apart refl)
each_within_apart [] (v ∷ vs) apart = refl
each_within_apart (s ∷ shapes) [] apart = refl
each_within_apart (s ∷ shapes) (v ∷ vs) apart = rw (each_within_apart shapes vs (λ e. apart (ap suc e))) (and-false (is_within s v))
  where
    and-false : (b : Bool) → (b && false) ≡ false
    and-false true = refl
    and-false false = refl

-- one more place
pub each_within_more : (shapes : List Shape) (vs : List Value) (i : ℕ) (s : Shape) (v : Value) → i < length shapes → i < length vs → each_within (take (suc i) shapes) (take (suc i) vs) ≡ (each_within (take i shapes) (take i vs) && is_within (get_or shapes i s) (get_or vs i v))
each_within_more [] vs i s v l m = absurd (omega arith)
each_within_more (t ∷ shapes) [] i s v l m = absurd (omega arith)
each_within_more (t ∷ shapes) (w ∷ vs) zero s v l m = and-true (is_within t w)
  where
    and-true : (b : Bool) → (b && true) ≡ b
    and-true true = refl
    and-true false = refl
each_within_more (t ∷ shapes) (w ∷ vs) (suc i) s v l m = ap (λ b. is_within t w && b) (each_within_more shapes vs i s v (omega arith) (omega arith)) ∙ and-assoc (is_within t w) (each_within (take i shapes) (take i vs)) (is_within (get_or shapes i s) (get_or vs i v))
  where
    and-assoc : (x y z : Bool) → (x && (y && z)) ≡ ((x && y) && z)
    and-assoc true y z = refl
    and-assoc false y z = refl

-- a place where a value does not lie within its shape
pub each_within_fails : (shapes : List Shape) (vs : List Value) (i : ℕ) (s : Shape) (v : Value) → i < length shapes → i < length vs → is_within (get_or shapes i s) (get_or vs i v) ≡ false → each_within shapes vs ≡ false
each_within_fails [] vs i s v l m e = absurd (omega arith)
each_within_fails (t ∷ shapes) [] i s v l m e = refl
each_within_fails (t ∷ shapes) (w ∷ vs) zero s v l m e = rw e refl
each_within_fails (t ∷ shapes) (w ∷ vs) (suc i) s v l m e = ap (λ b. is_within t w && b) (each_within_fails shapes vs i s v (omega arith) (omega arith) e) ∙ and-false (is_within t w)
  where
    and-false : (b : Bool) → (b && false) ≡ false
    and-false true = refl
    and-false false = refl

module _ (shapes : List Shape) (vs : List Value) (i : ℕ) (s : Shape) (v : Value) {r : Bool} (l : i < length shapes) (m : i < length vs) (s_is : s ≡ get_or shapes i s) (v_is : v ≡ get_or vs i v) where
  pub fields_fail : r ≡ false → r ≡ is_within s v → false ≡ each_within shapes vs
  fields_fail fails is = sym (each_within_fails shapes vs i s v l m (ap (λ t. is_within t (get_or vs i v)) (sym s_is) ∙ (ap (is_within s) (sym v_is) ∙ (sym is ∙ fails))))

  pub fields_more : r ≡ true → r ≡ is_within s v → each_within (take i shapes) (take i vs) ≡ true → each_within (take (i + 1) shapes) (take (i + 1) vs) ≡ true
  fields_more yes_ is before =
      let here : is_within (get_or shapes i s) (get_or vs i v) ≡ true = ap (λ t. is_within t (get_or vs i v)) (sym s_is) ∙ (ap (is_within s) (sym v_is) ∙ (sym is ∙ yes_)) in
      rw add-one (each_within_more shapes vs i s v l m ∙ rw (before, here) refl)

pub replicate-push : (n : ℕ) (v : Value) → replicate n v ++ v ∷ [] ≡ replicate (suc n) v
replicate-push zero v = refl
replicate-push (suc n) v = ap (λ l. v ∷ l) (replicate-push n v)

-- one more copy
pub repeated_more : (k : ℕ) (v w : Value) (vs new : List Value) → vs ≡ replicate k v → w ≡ v → new ≡ vs ++ w ∷ [] → new ≡ replicate (k + 1) v
repeated_more k v w vs new is same pushed = rw add-one (pushed ∙ (ap (λ l. l ++ w ∷ []) is ∙ (ap (λ x. replicate k v ++ x ∷ []) same ∙ replicate-push k v)))

pub repeated_all : (n k : ℕ) (v w : Value) (vs new : List Value) → n ≤ k → k ≤ n → vs ≡ replicate k v → w ≡ v → new ≡ vs ++ w ∷ [] → new ≡ replicate (n + 1) v
repeated_all n k v w vs new le ge is same pushed =
    let e : k ≡ n = omega arith in
    subst (λ j. new ≡ replicate (j + 1) v) e (repeated_more k v w vs new is same pushed)
