-- The choices by their numbers are the choices in order.
use Rattle.std.proofs.Common.{◌≡◌, ◌∙◌, ℕ, zero, suc, ◌+◌, ◌*◌, ◌/◌, ◌%◌, ◌^◌, ◌-◌, ◌<◌, ◌≤◌, min, Bool, true, false, List, [], ◌∷◌, ◌++◌, length, get_or, drop, map, ℤ, pos, ◌+ℤ◌, refl, ap, sym, subst, arith, add-one, append_assoc, drop-cons, mul_comm, mul-suc, suc-mul, zero-mul, mul-zero, zero-add, add-zero}
use Rattle.std.specs.Prelude.{if◌then◌else◌, Ok, Err}
use Rattle.std.specs.List.{flat_map}
use Rattle.std.proofs.lemmas.Nat.{div-mul-add, mod-mul-add, div_below}
use Rattle.std.proofs.lemmas.Int.{ints}
use Rattle.std.proofs.lemmas.List.{map-append}
use Rattle.pascal_values.specs.declared.fault.Fault.TheVariants as fault
use Rattle.pascal_values.specs.declared.value.Value.{Value}
use Rattle.pascal_values.specs.declared.value.Value.TheVariants as pascal
use Rattle.pascal_values.specs.Integers.{is_between}
use Rattle.pascal_values.specs.Shapes.{item_count}
use Rattle.estelle_tree.specs.declared.tree.name.Name.{Name}
use Rattle.estelle_model.specs.declared.denoter.Denoter.{Denoter}
use Rattle.estelle_model.specs.Stops.{Faults}
use Rattle.estelle_model.specs.Types.{least, greatest, value_of, host_of, range_of}
use Rattle.estelle_model.specs.Meant.{Meanings}
use Rattle.estelle_model.specs.Transitions.{Choice, choice, choices, numbers_from, or_unset}
use Rattle.flat_transitions.specs.declared.any_names.AnyName.{AnyName}
use Rattle.flat_transitions.specs.Choices.{any_name, choice_of, choice_count, numbered_choice, choices_from}

abbrev Named : Type 0
Named = Name × Denoter

-- ---- numbers of choices

from_more : (xs : List AnyName) (k a b : ℕ) → choices_from xs k (a + b) ≡ choices_from xs k a ++ choices_from xs (k + a) b
from_more xs k zero b = ap (choices_from xs k) (zero-add b) ∙ ap (λ n. choices_from xs n b) (sym (add-zero k))
from_more xs k (suc a) b =
    let more : suc a + b ≡ suc (a + b) = omega arith in
    let e : suc k + a ≡ k + suc a = omega arith in
    ap (choices_from xs k) more
    ∙ ap (λ cs. numbered_choice xs k ∷ cs) (from_more xs (suc k) a b ∙ ap (λ n. choices_from xs (suc k) a ++ choices_from xs n b) e)

pub one_from : (xs : List AnyName) (k n : ℕ) → choices_from xs k (n + 1) ≡ choices_from xs k n ++ numbered_choice xs (k + n) ∷ []
one_from xs k n = from_more xs k n 1

-- one more choice behind those before
pub pushed_more : (p : List Choice) (xs : List AnyName) (n : ℕ) (first out more : List (List Choice)) (one : List Choice) → out ≡ first ++ map (λ c. p ++ c) (choices_from xs 0 n) → one ≡ p ++ numbered_choice xs n → more ≡ out ++ one ∷ []
    → more ≡ first ++ map (λ c. p ++ c) (choices_from xs 0 (n + 1))
pushed_more p xs n first out more one before is pushed =
    let f = λ (c : List Choice). p ++ c in
    let next : choices_from xs 0 (n + 1) ≡ choices_from xs 0 n ++ numbered_choice xs n ∷ [] = one_from xs 0 n ∙ ap (λ k. choices_from xs 0 n ++ numbered_choice xs k ∷ []) (zero-add n) in
    pushed
    ∙ ap (λ cs. cs ++ one ∷ []) before
    ∙ append_assoc first (map f (choices_from xs 0 n)) (one ∷ [])
    ∙ ap (λ c. first ++ (map f (choices_from xs 0 n) ++ c ∷ [])) is
    ∙ ap (λ cs. first ++ cs) (sym (map-append f (choices_from xs 0 n) (numbered_choice xs n ∷ [])) ∙ ap (map f) (sym next))

-- the choices with one value of the first name, which are as many as there are for the others
one_value : (x : AnyName) (xs : List AnyName) (q j n : ℕ) → j + n ≤ choice_count xs → map (λ cs. choice_of x (x.low +ℤ pos q) ∷ cs) (choices_from xs j n) ≡ choices_from (x ∷ xs) (q * choice_count xs + j) n
one_value x xs q j zero h = refl
one_value x xs q j (suc n) h =
    let m = choice_count xs in
    let within : j < m = omega (arith, h) in
    let row : (q * m + j) / m ≡ q = div-mul-add q m j within in
    let column : (q * m + j) % m ≡ j = mod-mul-add q m j within in
    let next : q * m + suc j ≡ suc (q * m + j) = omega arith in
    let rest : suc j + n ≤ m = omega (arith, h) in
    let here : choice_of x (x.low +ℤ pos q) ∷ numbered_choice xs j ≡ numbered_choice (x ∷ xs) (q * m + j) = sym (ap (λ r. choice_of x (x.low +ℤ pos r) ∷ numbered_choice xs ((q * m + j) % m)) row ∙ ap (λ r. choice_of x (x.low +ℤ pos q) ∷ numbered_choice xs r) column) in
    ap (λ c. c ∷ map (λ cs. choice_of x (x.low +ℤ pos q) ∷ cs) (choices_from xs (suc j) n)) here
    ∙ ap (λ cs. numbered_choice (x ∷ xs) (q * m + j) ∷ cs) (one_value x xs q (suc j) n rest ∙ ap (λ k. choices_from (x ∷ xs) k n) next)

-- ---- the choices in order

unset_is : (known : Meanings) (b : Bool) (v : Value) → or_unset known (if b then Ok v else Err (Faults fault.Range)) ≡ (if b then v else pascal.Unset)
unset_is known true v = refl
unset_is known false v = refl

choice_is : (known : Meanings) (x : Named) (n : ℤ) → choice known x.0 x.1 n ≡ choice_of (any_name x) n
choice_is known x n = ap (λ v. record { at = x.0.span.start; value = v; host = host_of x.1 }) (unset_is known (is_between (least (host_of x.1)) (greatest (host_of x.1)) n) (value_of (host_of x.1) n))

-- ordinals one after another
next_ordinal : (n : ℤ) (q : ℕ) → (n +ℤ pos q) +ℤ pos 1 ≡ n +ℤ pos (suc q)
next_ordinal n q = grind (arith, ints)

module _ (known : Meanings) where
  abbrev rows : Named → List (List Choice) → ℤ → ℕ → List (List Choice)
  rows x cs n s = flat_map (λ k. map (λ c. choice known x.0 x.1 k ∷ c) cs) (numbers_from known n s)

  map_same : {A B : Type 0} (f g : A → B) → ((a : A) → f a ≡ g a) → (xs : List A) → map f xs ≡ map g xs
  map_same f g h [] = refl
  map_same f g h (x ∷ xs) = (λ i. h x i ∷ map_same f g h xs i)

  -- from one value of the first name on
  rows_from : (x : Named) (xs : List Named) (q s : ℕ) → choices known xs ≡ choices_from (map any_name xs) 0 (choice_count (map any_name xs))
      → rows x (choices known xs) ((any_name x).low +ℤ pos q) s ≡ choices_from (any_name x ∷ map any_name xs) (q * choice_count (map any_name xs)) (s * choice_count (map any_name xs))
  rows_from x xs q zero h = ap (choices_from (any_name x ∷ map any_name xs) (q * choice_count (map any_name xs))) (sym (zero-mul (choice_count (map any_name xs))))
  rows_from x xs q (suc s) h =
      let y = any_name x in
      let ys = map any_name xs in
      let m = choice_count ys in
      let n = y.low +ℤ pos q in
      let all : 0 + m ≤ m = omega arith in
      let start : q * m + 0 ≡ q * m = omega arith in
      let more : q * m + m ≡ suc q * m = let e = suc-mul q m in omega (arith, e) in
      let total : m + s * m ≡ suc s * m = let e = suc-mul s m in omega (arith, e) in
      let one : map (λ c. choice known x.0 x.1 n ∷ c) (choices known xs) ≡ choices_from (y ∷ ys) (q * m) m =
      map_same (λ c. choice known x.0 x.1 n ∷ c) (λ c. choice_of y n ∷ c) (λ c. ap (λ d. d ∷ c) (choice_is known x n)) (choices known xs)
      ∙ ap (map (λ c. choice_of y n ∷ c)) h
      ∙ one_value y ys q 0 m all
      ∙ ap (λ k. choices_from (y ∷ ys) k m) start in
      ap (λ cs. cs ++ rows x (choices known xs) (n +ℤ pos 1) s) one
      ∙ ap (λ k. choices_from (y ∷ ys) (q * m) m ++ rows x (choices known xs) k s) (next_ordinal y.low q)
      ∙ ap (λ cs. choices_from (y ∷ ys) (q * m) m ++ cs) (rows_from x xs (suc q) s h)
      ∙ ap (λ k. choices_from (y ∷ ys) (q * m) m ++ choices_from (y ∷ ys) k (s * m)) (sym more)
      ∙ sym (from_more (y ∷ ys) (q * m) m (s * m))
      ∙ ap (choices_from (y ∷ ys) (q * m)) total

  first_ordinal : (n : ℤ) → n ≡ n +ℤ pos 0
  first_ordinal n = grind (arith, ints)

  pub all_numbered : (xs : List Named) → choices known xs ≡ choices_from (map any_name xs) 0 (choice_count (map any_name xs))
  all_numbered [] = refl
  all_numbered (x ∷ xs) =
      ap (λ n. rows x (choices known xs) n (item_count (range_of x.1).0 (range_of x.1).1)) (first_ordinal (range_of x.1).0)
      ∙ rows_from x xs 0 (item_count (range_of x.1).0 (range_of x.1).1) (all_numbered xs)
      ∙ ap (λ k. choices_from (map any_name (x ∷ xs)) k (choice_count (map any_name (x ∷ xs)))) (zero-mul (choice_count (map any_name xs)))

-- ---- the numbers on the way to a choice

quotient : (a b n : ℕ) → 0 < a → n ≡ a * b → n / a ≡ b
quotient a b n h e = ap (λ k. k / a) (e ∙ mul_comm a b ∙ more) ∙ div-mul-add b a 0 h
  where
    more : b * a ≡ b * a + 0
    more = omega arith

-- a product that is not 0 has no factor 0, and is no less than its first factor
first_positive : (a b n : ℕ) → 0 < n → n ≡ a * b → 0 < a
first_positive zero b n h e = absurd (omega (arith, h, e, zero-mul b))
first_positive (suc a) b n h e = omega arith

second_positive : (a b n : ℕ) → 0 < n → n ≡ a * b → 0 < b
second_positive a zero n h e = absurd (omega (arith, h, e, mul-zero a))
second_positive a (suc b) n h e = omega arith

first_within : (a b n : ℕ) → 0 < b → n ≡ a * b → a ≤ n
first_within a zero n h e = absurd (omega arith)
first_within a (suc b) n h e = let f = mul-suc a b in omega (arith, e, f)

-- of so many for a name and those behind it, so many are for those behind it
pub behind_is : (x : AnyName) (xs : List AnyName) (low high : ℤ) (count size : ℕ) → low ≡ x.low → high ≡ x.high → count < 2 ^ 32 → size ≡ min (2 ^ 32 - 1) (item_count low high) → 0 < count → count ≡ choice_count (x ∷ xs)
    → (0 < size) × ((size ≡ item_count x.low x.high) × ((count / size ≡ choice_count xs) × (0 < choice_count xs)))
behind_is x xs low high count size same_low same_high fits is positive e =
    let items = item_count x.low x.high in
    let whole : item_count low high ≡ items = ap (λ n. item_count n high) same_low ∙ ap (item_count x.low) same_high in
    let others : 0 < choice_count xs = second_positive items (choice_count xs) count positive e in
    let some : 0 < items = first_positive items (choice_count xs) count positive e in
    let small : items ≤ count = first_within items (choice_count xs) count others e in
    let same : size ≡ items = omega (arith, is, whole, small, fits) in
    let nonzero : 0 < size = omega (arith, same, some) in
    (nonzero, (same, (quotient size (choice_count xs) count nonzero (e ∙ ap (λ n. n * choice_count xs) (sym same)), others)))

-- a number within is that of a value, and within what is behind
pub value_within : (x : AnyName) (xs : List AnyName) (count rest : ℕ) → count ≡ choice_count (x ∷ xs) → rest < count → 0 < choice_count xs → rest / choice_count xs < item_count x.low x.high
value_within x xs count rest e h some = div_below rest (choice_count xs) (item_count x.low x.high) some (subst (λ n. rest < n) e h)

-- one more name of a choice with a number
pub numbered_step : (names : List AnyName) (i : ℕ) (x : AnyName) (rest next : ℕ) (out more made : List Choice) → drop i names ≡ x ∷ drop (i + 1) names → next ≡ choice_count (drop (i + 1) names)
    → more ≡ out ++ choice_of x (x.low +ℤ pos (rest / next)) ∷ [] → out ++ numbered_choice (drop i names) rest ≡ made → more ++ numbered_choice (drop (i + 1) names) (rest % next) ≡ made
numbered_step names i x rest next out more made here is pushed so_far =
    let xs = drop (i + 1) names in
    ap (λ cs. cs ++ numbered_choice xs (rest % next)) pushed
    ∙ append_assoc out (choice_of x (x.low +ℤ pos (rest / next)) ∷ []) (numbered_choice xs (rest % next))
    ∙ ap (λ n. out ++ choice_of x (x.low +ℤ pos (rest / n)) ∷ numbered_choice xs (rest % n)) is
    ∙ ap (λ ys. out ++ numbered_choice ys rest) (sym here)
    ∙ so_far

-- the names from one on
pub rest_from : (names : List AnyName) (i : ℕ) (x : AnyName) → i < length names → x ≡ get_or names i x → drop i names ≡ x ∷ drop (i + 1) names
rest_from names i x h e = drop-cons names i x h ∙ ap (λ y. y ∷ drop (suc i) names) (sym e) ∙ next
  where
    next : x ∷ drop (suc i) names ≡ x ∷ drop (i + 1) names
    next = rw add-one refl
