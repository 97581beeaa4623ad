-- Whether some transition of a body has a delay.
use Rattle.std.proofs.Common.{Bor, ◌≡◌, ℕ, zero, suc, ◌+◌, ◌<◌, ◌≤◌, ◌⊎◌, Bool, true, false, ◌||◌, List, [], ◌∷◌, length, take, get_or, Option, Some, None, refl, sym, ap, subst, ◌∙◌, inl, inr, arith, add-one}
use Rattle.std.specs.Prelude.{is_some, option_map, slice_get}
use Rattle.std.specs.Option.{option_copied}
use Rattle.std.specs.List.{list_any, range_with_len}
use Rattle.std.proofs.lemmas.Bool.{cases_lt}
use Rattle.std.proofs.lemmas.List.Folds.{list_any_more}
use Rattle.std.proofs.lemmas.Option.{slice_get-get_or, slice_get_within}
use Rattle.estelle_model.specs.Transitions.{Transition}
use Rattle.estelle_model.specs.Subject.{Subject, body, transitions, numbered_one}
use Rattle.estelle_model.specs.Bodies.{BodyAlone, bodies}
use Rattle.estelle_model.specs.Delays.{is_delayed, has_delays}
use Rattle.estelle_model_legality.proofs.Members.{Has, any_has, has_any}

abbrev pub delays_some : List Transition → Bool
delays_some = list_any (λ t. is_some t.delay)

-- one that has
pub delay_here : (ts : List Transition) (i : ℕ) → is_delayed (numbered_one ts (i + 1)) ≡ true → delays_some ts ≡ true
delay_here ts i h = by ts i (subst (λ (n : ℕ). is_delayed (numbered_one ts n) ≡ true) (add-one i) h)
  where
    by : (xs : List Transition) (k : ℕ) → is_delayed (slice_get xs k) ≡ true → delays_some xs ≡ true
    by [] zero h = let wrong : false ≡ true = h in absurd (cc)
    by [] (suc k) h = let wrong : false ≡ true = h in absurd (cc)
    by (x ∷ xs) zero h = has_any (λ (t : Transition). is_some t.delay) (x ∷ xs) x (inl refl) h
    by (x ∷ xs) (suc k) h = let a = any_has (λ (t : Transition). is_some t.delay) xs (by xs k h) in has_any (λ (t : Transition). is_some t.delay) (x ∷ xs) a.0 (inr a.1) a.2

-- and one more that has none
pub delay_not : (ts : List Transition) (i : ℕ) → i < length ts → is_delayed (numbered_one ts (i + 1)) ≡ false → delays_some (take i ts) ≡ false → delays_some (take (i + 1) ts) ≡ false
delay_not [] i less h none = absurd (omega (arith, less))
delay_not (x ∷ xs) i less h none =
    let it : is_delayed (slice_get (x ∷ xs) i) ≡ false = subst (λ (n : ℕ). is_delayed (numbered_one (x ∷ xs) n) ≡ false) (add-one i) h in
    let e : is_some (get_or (x ∷ xs) i x).delay ≡ false = sym (ap is_delayed (slice_get-get_or (x ∷ xs) i x less)) ∙ it in
    list_any_more (λ (t : Transition). is_some t.delay) (x ∷ xs) i x less ∙ (λ j. none j || e j)

-- ---- bodies, one after another

abbrev pub body_delays : Subject → ℕ → Bool
body_delays s k = delays_some (transitions s k)

number_here : (len a n : ℕ) → a ≤ n → n < a + len → Has (range_with_len a len) n
number_here zero a n low high = absurd (omega arith)
number_here (suc len) a n low high = by (cases_lt a n) (λ less. number_here len (a + 1) n (omega arith) (omega arith))
  where
    by : (a < n) ⊎ (n ≤ a) → (a < n → Has (range_with_len (a + 1) len) n) → Has (range_with_len a (suc len)) n
    by (inl less) rest = inr (rest less)
    by (inr last) rest = inl (omega arith)

number_below : (len a n : ℕ) → Has (range_with_len a len) n → n < a + len
number_below zero a n h = absurd h
number_below (suc len) a n (inl is) = omega (arith, is)
number_below (suc len) a n (inr h) = let less = number_below len (a + 1) n h in omega (arith, less)

module _ (f : ℕ → Bool) where
  -- one more number
  pub one_more : (count : ℕ) → list_any f (range_with_len 0 count) ≡ false → f count ≡ false → list_any f (range_with_len 0 (count + 1)) ≡ false
  one_more count none last = by (list_any f (range_with_len 0 (count + 1))) refl
    where
      by : (b : Bool) → list_any f (range_with_len 0 (count + 1)) ≡ b → b ≡ false
      by false e = refl
      by true e =
          let a = any_has f (range_with_len 0 (count + 1)) e in
          let less = number_below (count + 1) 0 a.0 a.1 in
          cases a.0 a.2 (cases_lt a.0 count) less
        where
          cases : (n : ℕ) → f n ≡ true → (n < count) ⊎ (count ≤ n) → n < 0 + (count + 1) → true ≡ false
          cases n h (inl below) less = sym (has_any f (range_with_len 0 count) n (number_here count 0 n (omega arith) (omega (arith, below))) h) ∙ none
          cases n h (inr last') less = let same : n ≡ count = omega (arith, last', less) in sym h ∙ ap f same ∙ last

  -- and all of fewer
  pub none_of_fewer : (len count : ℕ) → len ≤ count → list_any f (range_with_len 0 count) ≡ false → list_any f (range_with_len 0 len) ≡ false
  none_of_fewer len count few none = by (list_any f (range_with_len 0 len)) refl
    where
      by : (b : Bool) → list_any f (range_with_len 0 len) ≡ b → b ≡ false
      by false e = refl
      by true e =
          let a = any_has f (range_with_len 0 len) e in
          let less = number_below len 0 a.0 a.1 in
          sym (has_any f (range_with_len 0 count) a.0 (number_here count 0 a.0 (omega arith) (omega (arith, less, few))) a.2) ∙ none

-- what is read of it is there just where it is
pub there_is : {A B : Type 0} (f : A → B) (o : Option A) (r : Option (Bor B)) → option_copied r ≡ option_map f o → is_some r ≡ is_some o
there_is f None None e = refl
there_is f None (Some x) e = absurd (cc)
there_is f (Some a) None e = absurd (cc)
there_is f (Some a) (Some x) e = refl

-- a body that is there has a number below the count, and the first that is not has none
pub is_numbered : (s : Subject) (k : ℕ) (b : Bool) → b ≡ is_some (body s k) → b ≡ true → k < length (bodies s.specification)
is_numbered s k b e h = by (body s k) refl (sym e ∙ h)
  where
    by : (o : Option BodyAlone) → body s k ≡ o → is_some o ≡ true → k < length (bodies s.specification)
    by None is h = absurd (cc)
    by (Some x) is h = slice_get_within (bodies s.specification) k x is

there : {A : Type 0} (xs : List A) (k : ℕ) → k < length xs → (x : A) × (slice_get xs k ≡ Some x)
there [] k less = absurd (omega (arith, less))
there (x ∷ xs) zero less = (x, refl)
there (x ∷ xs) (suc k) less = there xs k (omega (arith, less))

pub is_behind : (s : Subject) (k : ℕ) (b : Bool) → b ≡ is_some (body s k) → b ≡ false → length (bodies s.specification) ≤ k
is_behind s k b e h = by (cases_lt k (length (bodies s.specification)))
  where
    by : (k < length (bodies s.specification)) ⊎ (length (bodies s.specification) ≤ k) → length (bodies s.specification) ≤ k
    by (inl less) = let there = there (bodies s.specification) k less in
        let some : is_some (body s k) ≡ true = ap is_some there.1 in
        let wrong : true ≡ false = sym some ∙ sym e ∙ h in absurd (cc)
    by (inr behind) = behind

pub found_here : (s : Subject) (k : ℕ) → k < length (bodies s.specification) → body_delays s k ≡ true → has_delays s ≡ true
found_here s k less h = has_any (body_delays s) (range_with_len 0 (length (bodies s.specification))) k (number_here (length (bodies s.specification)) 0 k (omega arith) (omega (arith, less))) h
