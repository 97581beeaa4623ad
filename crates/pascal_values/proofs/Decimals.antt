-- Decimal texts: where one begins another, and where two stand before other text.
use Rattle.std.proofs.Common.{◌≡◌, ℕ, suc, ◌+◌, ◌*◌, ◌/◌, ◌%◌, ◌^◌, ◌<◌, ◌≤◌, List, [], ◌∷◌, ◌++◌, length, inl, inr, ap, subst, ◌∙◌, sym, refl, arith, append_assoc, length-append}
use Rattle.std.specs.Fmt.{decimal}
use Rattle.pascal_values.specs.Texts.{NoDigit}
use Rattle.pascal_values.specs.Steps.{IsFull}
use Rattle.std.proofs.lemmas.Fmt.{decimal_digit, decimal_step, decimal_by_steps, decimal_nonempty, decimal_injective}
use Rattle.std.proofs.lemmas.Bool.{cases_lt, cases_order}

pub heads : (a b : ℕ) (t u : List ℕ) → a ∷ t ≡ b ∷ u → a ≡ b
heads a b t u e = cc

pub tails : (a b : ℕ) (t u : List ℕ) → a ∷ t ≡ b ∷ u → t ≡ u
tails a b t u e = cc

-- where two texts begin the same, the longer one goes on with what follows the shorter
pub longer : (a r b q : List ℕ) → a ++ r ≡ b ++ q → length a < length b → (c : ℕ) × (ds : List ℕ) × (b ≡ a ++ c ∷ ds) × (r ≡ c ∷ (ds ++ q))
longer [] r [] q e lt = absurd (omega arith)
longer [] r (c ∷ ds) q e lt = (c, ds, refl, e)
longer (x ∷ a) r [] q e lt = absurd (omega arith)
longer (x ∷ a) r (y ∷ b) q e lt =
    let head : x ≡ y = cc in
    let tail : a ++ r ≡ b ++ q = cc in
    let l = longer a r b q tail (omega arith) in
    (l.0, l.1, ap (λ t. y ∷ t) l.2 ∙ ap (λ z. z ∷ (a ++ l.0 ∷ l.1)) (sym head), l.3)

pub same_length : (a r b q : List ℕ) → a ++ r ≡ b ++ q → length a ≡ length b → (a ≡ b) × (r ≡ q)
same_length [] r [] q e l = (refl, e)
same_length [] r (y ∷ b) q e l = absurd (omega arith)
same_length (x ∷ a) r [] q e l = absurd (omega arith)
same_length (x ∷ a) r (y ∷ b) q e l =
    let head : x ≡ y = cc in
    let tail : a ++ r ≡ b ++ q = cc in
    let s = same_length a r b q tail (omega arith) in
    (ap (λ t. x ∷ t) s.0 ∙ ap (λ z. z ∷ b) head, s.1)

-- the last of two lists that are one
last_split : (a b : List ℕ) (x y : ℕ) → a ++ x ∷ [] ≡ b ++ y ∷ [] → (a ≡ b) × (x ≡ y)
last_split [] [] x y e = (refl, cc)
last_split [] (z ∷ []) x y e = cc
last_split [] (z ∷ w ∷ b) x y e = cc
last_split (z ∷ []) [] x y e = cc
last_split (z ∷ w ∷ a) [] x y e = cc
last_split (z ∷ a) (w ∷ b) x y e =
    let head : z ≡ w = cc in
    let tail : a ++ x ∷ [] ≡ b ++ y ∷ [] = cc in
    let l = last_split a b x y tail in
    (ap (λ t. z ∷ t) l.0 ∙ ap (λ t. t ∷ b) head, l.1)

-- a list that is not empty has a last item
last_of : (c : ℕ) (ds : List ℕ) → (xs : List ℕ) × (x : ℕ) × (c ∷ ds ≡ xs ++ x ∷ [])
last_of c [] = ([], c, refl)
last_of c (d ∷ ds) = let l = last_of d ds in (c ∷ l.0, l.1, ap (λ t. c ∷ t) l.2)

-- a decimal text that goes on after another one
pub record GoesOn (n y c : ℕ) : Type 0 where
  pub digit : ℕ
  pub is_digit : c ≡ 48 + digit
  pub below_ten : digit < 10
  pub not_zero : 0 < n
  pub within : n * 10 + digit ≤ y

-- what follows a decimal text inside a longer one
abbrev Follows : ℕ → List ℕ → Type 0
Follows y ys = (n c : ℕ) (ds : List ℕ) → n < 2 ^ 64 → y < 2 ^ 64 → ys ≡ decimal n ++ c ∷ ds → GoesOn n y c

follows_one : (y : ℕ) → y < 10 → Follows y ((48 + y) ∷ [])
follows_one y lt n c ds n_in y_in e =
    let l : 1 ≡ length (decimal n) + suc (length ds) = ap length e ∙ length-append (decimal n) (c ∷ ds) in
    absurd (omega (arith, decimal_nonempty n n_in))

follows_more : (y : ℕ) (front : List ℕ) → 10 ≤ y → (y / 10 < 2 ^ 64 → front ≡ decimal (y / 10)) → Follows (y / 10) front → Follows y (front ++ (48 + y % 10) ∷ [])
follows_more y front le front_is before n c ds n_in y_in e =
    let l = last_of c ds in go l.0 l.1 l.2
  where
    quotient_in : y / 10 < 2 ^ 64
    quotient_in = omega arith

    go : (xs : List ℕ) (x : ℕ) → c ∷ ds ≡ xs ++ x ∷ [] → GoesOn n y c
    go [] x is =
        let c_is : c ≡ x = cc in
        let s = last_split front (decimal n) (48 + y % 10) x (e ∙ ap (λ t. decimal n ++ t) is) in
        let n_is : y / 10 ≡ n = decimal_injective (y / 10) n quotient_in n_in (sym (front_is quotient_in) ∙ s.0) in
        record { digit = y % 10; is_digit = c_is ∙ sym s.1; below_ten = omega arith; not_zero = omega arith; within = omega arith }
    go (z ∷ zs) x is =
        let c_is : c ≡ z = cc in
        let s = last_split front (decimal n ++ c ∷ zs) (48 + y % 10) x (e ∙ (ap (λ t. decimal n ++ t) (is ∙ ap (λ w. w ∷ (zs ++ x ∷ [])) (sym c_is)) ∙ sym (append_assoc (decimal n) (c ∷ zs) (x ∷ [])))) in
        let g = before n c zs n_in quotient_in s.0 in
        record { digit = g.digit; is_digit = g.is_digit; below_ten = g.below_ten; not_zero = g.not_zero; within = omega (arith, g.within) }

pub goes_on : (n y c : ℕ) (ds : List ℕ) → n < 2 ^ 64 → y < 2 ^ 64 → decimal y ≡ decimal n ++ c ∷ ds → GoesOn n y c
goes_on n y c ds n_in y_in e = (decimal_by_steps (λ z zs. (z < 2 ^ 64 → zs ≡ decimal z) × Follows z zs) (λ z lt. ((λ z_in. sym (decimal_digit z lt)), follows_one z lt)) (λ z zs le before. ((λ z_in. rw (decimal_step z le z_in) (ap (λ t. t ++ (48 + z % 10) ∷ []) (before.0 (omega arith)))), follows_more z zs le before.0 before.1)) y y_in).1 n c ds n_in y_in e

no_digit : (c : ℕ) (t : List ℕ) (r : List ℕ) (n y : ℕ) → NoDigit r → r ≡ c ∷ t → GoesOn n y c → ⊥
no_digit c t r n y ends e g = elim (subst NoDigit e ends) [ inl low ↦ omega (arith, g.is_digit) | inr high ↦ omega (arith, g.is_digit, g.below_ten) ]

-- two decimal texts before text that no digit begins
pub decimals_apart : (m n : ℕ) (r s : List ℕ) → m < 2 ^ 64 → n < 2 ^ 64 → NoDigit r → NoDigit s → decimal m ++ r ≡ decimal n ++ s → (m ≡ n) × (r ≡ s)
decimals_apart m n r s m_in n_in r_ends s_ends e = elim (cases_order (length (decimal m)) (length (decimal n))) [
  | inl same ↦ let p = same_length (decimal m) r (decimal n) s e same in (decimal_injective m n m_in n_in p.0, p.1)
  | inr (inl less) ↦ let l = longer (decimal m) r (decimal n) s e less in absurd (no_digit l.0 (l.1 ++ s) r m n r_ends l.3 (goes_on m n l.0 l.1 m_in n_in l.2))
  | inr (inr more) ↦ let l = longer (decimal n) s (decimal m) r (sym e) more in absurd (no_digit l.0 (l.1 ++ r) s n m s_ends l.3 (goes_on n m l.0 l.1 n_in m_in l.2))
]

-- a number to which no digit can be added has the longest text
pub decimal_longest : (greatest n : ℕ) (s r : List ℕ) → greatest < 2 ^ 64 → n ≤ greatest → IsFull greatest n r → s ≡ decimal n ++ r → (y : ℕ) (q : List ℕ) → y ≤ greatest → s ≡ decimal y ++ q → length (decimal y) ≤ length (decimal n)
decimal_longest greatest n s r g_in n_in full is y q y_in y_is = elim (cases_lt (length (decimal n)) (length (decimal y))) [
  | inr le ↦ le
  | inl less ↦ let l = longer (decimal n) r (decimal y) q (sym is ∙ y_is) less in
      let g = goes_on n y l.0 l.1 (omega arith) (omega arith) l.2 in
      absurd (full g.digit (l.1 ++ q) g.below_ten (l.3 ∙ ap (λ c. c ∷ (l.1 ++ q)) g.is_digit) g.not_zero (omega (arith, g.within)))
]

pub number_first : (d : ℕ) (s r : List ℕ) → d < 10 → s ≡ (48 + d) ∷ r → s ≡ decimal d ++ r
number_first d s r lt is = is ∙ ap (λ t. t ++ r) (sym (decimal_digit d lt))

-- one more digit behind a number
pub number_more : (n d m : ℕ) (s r more : List ℕ) → d < 10 → 0 < n → m ≡ n * 10 + d → m < 2 ^ 64 → s ≡ decimal n ++ r → r ≡ (48 + d) ∷ more → s ≡ decimal m ++ more
number_more n d m s r more lt nz m_is m_in is next =
    let q : m / 10 ≡ n = omega arith in
    let k : m % 10 ≡ d = omega arith in
    let step : decimal m ≡ decimal n ++ (48 + d) ∷ [] = decimal_step m (omega arith) m_in ∙ (ap (λ z. decimal z ++ (48 + m % 10) ∷ []) q ∙ ap (λ z. decimal n ++ (48 + z) ∷ []) k) in
    is ∙ (ap (λ t. decimal n ++ t) next ∙ (sym (append_assoc (decimal n) ((48 + d) ∷ []) more) ∙ ap (λ t. t ++ more) (sym step)))

-- the number that is read is the only one before text that no digit begins
pub number_only : (greatest n : ℕ) (s r : List ℕ) → greatest < 2 ^ 64 → n ≤ greatest → IsFull greatest n r → s ≡ decimal n ++ r → (y : ℕ) (t : List ℕ) → y ≤ greatest → NoDigit t → s ≡ decimal y ++ t → (n ≡ y) × (r ≡ t)
number_only greatest n s r g_in n_in full is y t y_in ends y_is =
    let e : decimal n ++ r ≡ decimal y ++ t = sym is ∙ y_is in
    let le = decimal_longest greatest n s r g_in n_in full is y t y_in y_is in
    elim (cases_lt (length (decimal y)) (length (decimal n))) [
      | inr ge ↦ let p = same_length (decimal n) r (decimal y) t e (omega arith) in (decimal_injective n y (omega arith) (omega arith) p.0, p.1)
      | inl less ↦ let l = longer (decimal y) t (decimal n) r (sym e) less in absurd (no_digit l.0 (l.1 ++ r) t y n ends l.3 (goes_on y n l.0 l.1 (omega arith) (omega arith) l.2))
    ]
