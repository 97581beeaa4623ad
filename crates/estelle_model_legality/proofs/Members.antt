-- The elements of a list, one after another.
use Rattle.std.proofs.Common.{◌≡◌, ◌⊎◌, ◌<◌, ℕ, zero, suc, Bool, true, false, List, [], ◌∷◌, ◌++◌, map, filter, Some, refl, sym, ap, subst, cond, ◌∙◌, inl, inr, arith}
use Rattle.std.specs.Prelude.{◌||◌, Contains, slice_get}
use Rattle.std.specs.List.{list_any}

-- x is an element
abbrev pub Has : {A : Type 0} → List A → A → Type 0
Has [] x = ⊥
Has (y ∷ ys) x = (y ≡ x) ⊎ Has ys x

pub has_got : {A : Type 0} (xs : List A) (n : ℕ) (x : A) → slice_get xs n ≡ Some x → Has xs x
has_got [] n x e = absurd (cc)
has_got (y ∷ ys) zero x e = inl (let same : y ≡ x = cc in same)
has_got (y ∷ ys) (suc n) x e = inr (has_got ys n x e)

pub contains_has : {A : Type 0} (xs : List A) (x : A) → Has xs x → Contains xs x
contains_has [] x h = absurd h
contains_has (y ∷ ys) x (inl e) = (0, omega arith, e)
contains_has (y ∷ ys) x (inr h) = let r = contains_has ys x h in (suc r.0, omega (arith, r.1), r.2)

pub has_contained : {A : Type 0} (xs : List A) (x : A) → Contains xs x → Has xs x
has_contained [] x (k, below, is) = absurd (let none : k < 0 = below in omega (arith, none))
has_contained (y ∷ ys) x (zero, below, is) = inl is
has_contained (y ∷ ys) x (suc k, below, is) = inr (has_contained ys x (k, omega (arith, below), is))

pub has_append : {A : Type 0} (xs ys : List A) (x : A) → Has (xs ++ ys) x → Has xs x ⊎ Has ys x
has_append [] ys x h = inr h
has_append (z ∷ xs) ys x (inl e) = inl (inl e)
has_append (z ∷ xs) ys x (inr h) = elim (has_append xs ys x h) [ inl k ↦ inl (inr k) | inr k ↦ inr k ]

pub nothing_has : {A : Type 0} (xs : List A) (x : A) → xs ≡ [] → Has xs x → ⊥
nothing_has xs x e h = subst (λ ys. Has ys x) e h

-- ---- images of elements

pub has_each : {A B : Type 0} (f : A → B) (xs : List A) (x : A) → Has xs x → Has (map f xs) (f x)
has_each f [] x h = absurd h
has_each f (z ∷ xs) x (inl e) = inl (ap f e)
has_each f (z ∷ xs) x (inr h) = inr (has_each f xs x h)

pub each_has : {A B : Type 0} (f : A → B) (xs : List A) (y : B) → Has (map f xs) y → (x : A) × (Has xs x) × (f x ≡ y)
each_has f [] y h = absurd h
each_has f (x ∷ xs) y (inl e) = (x, inl refl, e)
each_has f (x ∷ xs) y (inr h) = let r = each_has f xs y h in (r.0, inr r.1, r.2)

-- ---- filters

has_kept : {A : Type 0} (p : A → Bool) (y : A) (ys zs : List A) (x : A) (b : Bool) → p y ≡ b → (Has zs x → (Has ys x) × (p x ≡ true)) → Has (cond b (y ∷ zs) zs) x → (Has (y ∷ ys) x) × (p x ≡ true)
has_kept p y ys zs x true e f (inl is) = (inl is, ap p (sym is) ∙ e)
has_kept p y ys zs x true e f (inr h) = let r = f h in (inr r.0, r.1)
has_kept p y ys zs x false e f h = let r = f h in (inr r.0, r.1)

pub has_filter : {A : Type 0} (p : A → Bool) (xs : List A) (x : A) → Has (filter p xs) x → (Has xs x) × (p x ≡ true)
has_filter p [] x h = absurd h
has_filter p (y ∷ ys) x h = has_kept p y ys (filter p ys) x (p y) refl (has_filter p ys x) h

pub filter_has : {A : Type 0} (p : A → Bool) (xs : List A) (x : A) → Has xs x → p x ≡ true → Has (filter p xs) x
filter_has p [] x h e = absurd h
filter_has p (y ∷ ys) x (inl is) e = subst (λ b. Has (cond b (y ∷ filter p ys) (filter p ys)) x) (sym (ap p is ∙ e)) (inl is)
filter_has p (y ∷ ys) x (inr h) e = by (p y) (filter_has p ys x h e)
  where
    by : (b : Bool) → Has (filter p ys) x → Has (cond b (y ∷ filter p ys) (filter p ys)) x
    by true h = inr h
    by false h = h

-- ---- tests of a whole list

any_more : {A : Type 0} (p : A → Bool) (y : A) (ys : List A) (b : Bool) → p y ≡ b → (list_any p ys ≡ true → (x : A) × (Has ys x) × (p x ≡ true)) → (b || list_any p ys) ≡ true → (x : A) × (Has (y ∷ ys) x) × (p x ≡ true)
any_more p y ys true is f e = (y, inl refl, is)
any_more p y ys false is f e = let r = f e in (r.0, inr r.1, r.2)

pub any_has : {A : Type 0} (p : A → Bool) (xs : List A) → list_any p xs ≡ true → (x : A) × (Has xs x) × (p x ≡ true)
any_has p [] e = absurd (cc)
any_has p (y ∷ ys) e = any_more p y ys (p y) refl (any_has p ys) e

pub has_any : {A : Type 0} (p : A → Bool) (xs : List A) (x : A) → Has xs x → p x ≡ true → list_any p xs ≡ true
has_any p [] x h e = absurd h
has_any p (y ∷ ys) x (inl is) e = ap (λ b. b || list_any p ys) (ap p is ∙ e)
has_any p (y ∷ ys) x (inr h) e = by (p y) (has_any p ys x h e)
  where
    by : (b : Bool) → list_any p ys ≡ true → (b || list_any p ys) ≡ true
    by true e = refl
    by false e = e

pub has_none : {A : Type 0} (p : A → Bool) (xs : List A) → list_any p xs ≡ false → (x : A) → Has xs x → p x ≡ false
has_none p xs e x h = by (p x) refl
  where
    by : (b : Bool) → p x ≡ b → b ≡ false
    by true is = let wrong : true ≡ false = sym (has_any p xs x h is) ∙ e in absurd (cc)
    by false is = refl

-- an element of a list of which the filter keeps nothing does not pass
pub filter_empty : {A : Type 0} (p : A → Bool) (xs : List A) → filter p xs ≡ [] → (x : A) → Has xs x → p x ≡ false
filter_empty p xs e x h = by (p x) refl
  where
    by : (b : Bool) → p x ≡ b → b ≡ false
    by true is = absurd (nothing_has (filter p xs) x e (filter_has p xs x h is))
    by false is = refl
