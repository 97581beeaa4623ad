-- No text has two readings.
use Rattle.std.proofs.Common.{◌≡◌, ℕ, zero, suc, ◌+◌, ◌<◌, ◌==◌, Bool, true, false, List, [], ◌∷◌, ◌++◌, map, length, inl, inr, ◌⊎◌, ap, ◌∙◌, sym, refl, arith, append_assoc, ℤ, pos, negsuc}
use Rattle.std.specs.Prelude.{IsTrue}
use Rattle.pascal_values.specs.Integers.{is_integer}
use Rattle.std.specs.List.{AllByRecursion, join_with_byte}
use Rattle.std.specs.Fmt.{decimal, signed_decimal}
use Rattle.std.proofs.lemmas.Bool.Decides.{nat_tests}
use Rattle.pascal_values.specs.declared.value.Value.{Value, Value-F, out-Value}
use Rattle.pascal_values.specs.Sets.{IsRising, IsSet}
use Rattle.pascal_values.specs.Texts.{text, NoDigit, char_text, is_printable, IsFormed, HasForm}
use Rattle.pascal_values.specs.Steps.{listed}
use Rattle.pascal_values.proofs.Decimals.{heads, tails, decimals_apart}
use Rattle.pascal_values.proofs.KindLemmas.{kind, text_at, text_is, first_at, first_digit, integer_in, negative_in, from_out, no_nil}
use Rattle.pascal_values.proofs.ListingLemmas.{joins_apart, join-listed}
use Rattle.pascal_values.proofs.SetLemmas.{IsRising-le}

-- what may follow a text: behind a number no digit
abbrev pub Stops : {X : Type 0} → Value-F X → List ℕ → Type 0
Stops (Value-F.Int n) r = NoDigit r
Stops (Value-F.Enum n) r = NoDigit r
Stops _ r = Unit {0}

pub stops_from_ends : {X : Type 0} (l : Value-F X) (r : List ℕ) → NoDigit r → Stops l r
stops_from_ends Value-F.Unset r e = tt
stops_from_ends (Value-F.Int n) r e = e
stops_from_ends (Value-F.Bool b) r e = tt
stops_from_ends (Value-F.Char c) r e = tt
stops_from_ends (Value-F.Enum n) r e = e
stops_from_ends (Value-F.Set ns) r e = tt
stops_from_ends (Value-F.Array vs) r e = tt
stops_from_ends (Value-F.Fields vs) r e = tt

-- ---- characters

pub data CharCase (c : ℕ) : Type 0 where
  quote : c ≡ 39 → char_text c ≡ 39 ∷ 39 ∷ 39 ∷ 39 ∷ [] → CharCase c
  plain : (c ≡ 39 → ⊥) → is_printable c ≡ true → char_text c ≡ 39 ∷ c ∷ 39 ∷ [] → CharCase c
  coded : is_printable c ≡ false → char_text c ≡ 99 ∷ 104 ∷ 114 ∷ 40 ∷ (decimal c ++ 41 ∷ []) → CharCase c

pub char_case : (c : ℕ) → CharCase c
char_case c = by_tests (c == 39) (is_printable c) refl refl
  where
    by_tests : (q p : Bool) → (c == 39) ≡ q → (is_printable c) ≡ p → CharCase c
    by_tests true p e f = quote (grind (arith, nat_tests)) (rw e refl)
    by_tests false true e f = plain (grind (arith, nat_tests)) f (rw (e, f) refl)
    by_tests false false e f = coded f (rw (e, f) refl)

chars_apart : (c d : ℕ) (r s : List ℕ) → c < 256 → d < 256 → char_text c ++ r ≡ char_text d ++ s → (c ≡ d) × (r ≡ s)
chars_apart c d r s c_in d_in e = by_cases (char_case c) (char_case d)
  where
    by_cases : CharCase c → CharCase d → (c ≡ d) × (r ≡ s)
    by_cases (quote p a) (quote q b) = let h : 39 ∷ 39 ∷ 39 ∷ 39 ∷ r ≡ 39 ∷ 39 ∷ 39 ∷ 39 ∷ s = sym (ap (λ t. t ++ r) a) ∙ (e ∙ ap (λ t. t ++ s) b) in (p ∙ sym q, cc)
    by_cases (quote p a) (plain n y b) = let h : 39 ∷ 39 ∷ 39 ∷ 39 ∷ r ≡ 39 ∷ d ∷ 39 ∷ s = sym (ap (λ t. t ++ r) a) ∙ (e ∙ ap (λ t. t ++ s) b) in absurd (n cc)
    by_cases (quote p a) (coded v b) = let h : 39 ∷ 39 ∷ 39 ∷ 39 ∷ r ≡ 99 ∷ 104 ∷ 114 ∷ 40 ∷ ((decimal d ++ 41 ∷ []) ++ s) = sym (ap (λ t. t ++ r) a) ∙ (e ∙ ap (λ t. t ++ s) b) in absurd (omega (arith, heads 39 99 _ _ h))
    by_cases (plain n x a) (quote q b) = let h : 39 ∷ c ∷ 39 ∷ r ≡ 39 ∷ 39 ∷ 39 ∷ 39 ∷ s = sym (ap (λ t. t ++ r) a) ∙ (e ∙ ap (λ t. t ++ s) b) in absurd (n cc)
    by_cases (plain n x a) (plain m y b) = let h : 39 ∷ c ∷ 39 ∷ r ≡ 39 ∷ d ∷ 39 ∷ s = sym (ap (λ t. t ++ r) a) ∙ (e ∙ ap (λ t. t ++ s) b) in (cc, cc)
    by_cases (plain n x a) (coded v b) = let h : 39 ∷ c ∷ 39 ∷ r ≡ 99 ∷ 104 ∷ 114 ∷ 40 ∷ ((decimal d ++ 41 ∷ []) ++ s) = sym (ap (λ t. t ++ r) a) ∙ (e ∙ ap (λ t. t ++ s) b) in absurd (omega (arith, heads 39 99 _ _ h))
    by_cases (coded u a) (quote q b) = let h : 99 ∷ 104 ∷ 114 ∷ 40 ∷ ((decimal c ++ 41 ∷ []) ++ r) ≡ 39 ∷ 39 ∷ 39 ∷ 39 ∷ s = sym (ap (λ t. t ++ r) a) ∙ (e ∙ ap (λ t. t ++ s) b) in absurd (omega (arith, heads 99 39 _ _ h))
    by_cases (coded u a) (plain m y b) = let h : 99 ∷ 104 ∷ 114 ∷ 40 ∷ ((decimal c ++ 41 ∷ []) ++ r) ≡ 39 ∷ d ∷ 39 ∷ s = sym (ap (λ t. t ++ r) a) ∙ (e ∙ ap (λ t. t ++ s) b) in absurd (omega (arith, heads 99 39 _ _ h))
    by_cases (coded u a) (coded v b) =
        let h : 99 ∷ 104 ∷ 114 ∷ 40 ∷ ((decimal c ++ 41 ∷ []) ++ r) ≡ 99 ∷ 104 ∷ 114 ∷ 40 ∷ ((decimal d ++ 41 ∷ []) ++ s) = sym (ap (λ t. t ++ r) a) ∙ (e ∙ ap (λ t. t ++ s) b) in
        let t : (decimal c ++ 41 ∷ []) ++ r ≡ (decimal d ++ 41 ∷ []) ++ s = cc in
        let w = decimals_apart c d (41 ∷ r) (41 ∷ s) (omega arith) (omega arith) (inl (omega arith)) (inl (omega arith)) (sym (append_assoc (decimal c) (41 ∷ []) r) ∙ (t ∙ append_assoc (decimal d) (41 ∷ []) s)) in
        (w.0, let z = w.1 in cc)

-- ---- sets

pub members_small : (low : ℕ) (ns : List ℕ) → IsRising low ns 256 → AllByRecursion (λ n. n < 256) ns
members_small low [] r = tt
members_small low (n ∷ ns) r = (omega (arith, IsRising-le (n + 1) ns 256 r.1), members_small (n + 1) ns r.1)

pub small_apart : (m n : ℕ) (r s : List ℕ) → m < 256 → n < 256 → NoDigit r → NoDigit s → decimal m ++ r ≡ decimal n ++ s → (m ≡ n) × (r ≡ s)
small_apart m n r s m_in n_in = decimals_apart m n r s (omega arith) (omega arith)

pub no_close : (n : ℕ) (ns : List ℕ) (r s : List ℕ) → n < 256 → 93 ∷ r ≡ join_with_byte 44 (map decimal (n ∷ ns)) ++ 93 ∷ s → ⊥
no_close n ns r s n_in e =
    let d = first_digit n (omega arith) in
    let l = join-listed decimal (λ k. k < 256) 93 n ns s in
    let h : 93 ∷ r ≡ (48 + d.0) ∷ (d.1 ++ listed decimal 93 ns s) = e ∙ (l ∙ ap (λ t. t ++ listed decimal 93 ns s) d.3) in
    omega (arith, d.2, heads 93 (48 + d.0) _ _ h)

sets_apart : (ms ns : List ℕ) (r s : List ℕ) → IsSet ms → IsSet ns → join_with_byte 44 (map decimal ms) ++ 93 ∷ r ≡ join_with_byte 44 (map decimal ns) ++ 93 ∷ s → (ms ≡ ns) × (r ≡ s)
sets_apart [] [] r s p q e = (refl, cc)
sets_apart [] (n ∷ ns) r s p q e = absurd (no_close n ns r s (members_small 0 (n ∷ ns) q).0 e)
sets_apart (m ∷ ms) [] r s p q e = absurd (no_close m ms s r (members_small 0 (m ∷ ms) p).0 (sym e))
sets_apart (m ∷ ms) (n ∷ ns) r s p q e = joins_apart decimal (λ k. k < 256) 93 (inl (omega arith)) small_apart m ms n ns r s (members_small 0 (m ∷ ms) p) (members_small 0 (n ∷ ns) q) e

-- ---- all values

neither : (n : ℕ) → 45 ≡ 48 + n → ⊥
neither n e = omega arith

integers_apart : (m n : ℤ) (r s : List ℕ) → IsTrue (is_integer m) → IsTrue (is_integer n) → NoDigit r → NoDigit s → signed_decimal m ++ r ≡ signed_decimal n ++ s → (m ≡ n) × (r ≡ s)
integers_apart (pos m) (pos n) r s p q re se e = let a = decimals_apart m n r s (omega (arith, integer_in m p)) (omega (arith, integer_in n q)) re se e in (ap pos a.0, a.1)
integers_apart (pos m) (negsuc n) r s p q re se e =
    let d = first_digit m (omega (arith, integer_in m p)) in
    absurd (neither d.0 (sym (heads (48 + d.0) 45 (d.1 ++ r) (decimal (suc n) ++ s) (sym (ap (λ t. t ++ r) d.3) ∙ e))))
integers_apart (negsuc m) (pos n) r s p q re se e =
    let d = first_digit n (omega (arith, integer_in n q)) in
    absurd (neither d.0 (heads 45 (48 + d.0) (decimal (suc m) ++ r) (d.1 ++ s) (e ∙ ap (λ t. t ++ s) d.3)))
integers_apart (negsuc m) (negsuc n) r s p q re se e =
    let a = decimals_apart (suc m) (suc n) r s (omega (arith, negative_in m p)) (omega (arith, negative_in n q)) re se (tails 45 45 (decimal (suc m) ++ r) (decimal (suc n) ++ s) e) in
    (ap negsuc (suc_same m n a.0), a.1)
  where
    suc_same : (a b : ℕ) → suc a ≡ suc b → a ≡ b
    suc_same a b e' = omega arith

bracket : (a : ℕ) (t : List ℕ) (b : ℕ) (r : List ℕ) → (a ∷ (t ++ b ∷ [])) ++ r ≡ a ∷ (t ++ b ∷ r)
bracket a t b r = ap (λ u. a ∷ u) (append_assoc t (b ∷ []) r)

inside : (a : ℕ) (t u : List ℕ) (b : ℕ) (r s : List ℕ) → (a ∷ (t ++ b ∷ [])) ++ r ≡ (a ∷ (u ++ b ∷ [])) ++ s → t ++ b ∷ r ≡ u ++ b ∷ s
inside a t u b r s e = tails a a (t ++ b ∷ r) (u ++ b ∷ s) (sym (bracket a t b r) ∙ (e ∙ bracket a u b s))

abbrev Apart : (Value → Type 0) → Type 0
Apart IsPart = (v w : Value) (r s : List ℕ) → IsPart v → IsPart w → NoDigit r → NoDigit s → text v ++ r ≡ text w ++ s → (v ≡ w) × (r ≡ s)

parts_apart : (IsPart : Value → Type 0) → Apart IsPart → (close : ℕ) → (57 < close) ⊎ (close < 44) → (vs ws : List Value) (r s : List ℕ) → (0 < length vs) × AllByRecursion IsPart vs → (0 < length ws) × AllByRecursion IsPart ws → join_with_byte 44 (map text vs) ++ close ∷ r ≡ join_with_byte 44 (map text ws) ++ close ∷ s → (vs ≡ ws) × (r ≡ s)
parts_apart p apart close out [] ws r s h k e = absurd (omega (arith, h.0))
parts_apart p apart close out (v ∷ vs) [] r s h k e = absurd (omega (arith, k.0))
parts_apart p apart close out (v ∷ vs) (w ∷ ws) r s h k e = joins_apart text p close out apart v vs w ws r s h.1 k.1 e

layers_apart : (IsPart : Value → Type 0) → Apart IsPart → (l m : Value-F Value) (r s : List ℕ) → IsFormed IsPart l → IsFormed IsPart m → Stops l r → Stops m s → kind l ≡ kind m → text_at l ++ r ≡ text_at m ++ s → (l ≡ m) × (r ≡ s)
layers_apart p apart Value-F.Unset Value-F.Unset r s h k re se q e = (refl, tails 63 63 r s e)
layers_apart p apart (Value-F.Int m) (Value-F.Int n) r s h k re se q e = let a = integers_apart m n r s h k re se e in (ap Value-F.Int a.0, a.1)
layers_apart p apart (Value-F.Bool true) (Value-F.Bool true) r s h k re se q e = (refl, cc)
layers_apart p apart (Value-F.Bool true) (Value-F.Bool false) r s h k re se q e = absurd (omega (arith, heads 116 102 _ _ e))
layers_apart p apart (Value-F.Bool false) (Value-F.Bool true) r s h k re se q e = absurd (omega (arith, heads 102 116 _ _ e))
layers_apart p apart (Value-F.Bool false) (Value-F.Bool false) r s h k re se q e = (refl, cc)
layers_apart p apart (Value-F.Char c) (Value-F.Char d) r s h k re se q e = let a = chars_apart c d r s h k e in (ap Value-F.Char a.0, a.1)
layers_apart p apart (Value-F.Enum m) (Value-F.Enum n) r s h k re se q e = let a = decimals_apart m n r s (omega arith) (omega arith) re se (tails 35 35 (decimal m ++ r) (decimal n ++ s) e) in (ap Value-F.Enum a.0, a.1)
layers_apart p apart (Value-F.Set ms) (Value-F.Set ns) r s h k re se q e = let a = sets_apart ms ns r s h k (inside 91 (join_with_byte 44 (map decimal ms)) (join_with_byte 44 (map decimal ns)) 93 r s e) in (ap Value-F.Set a.0, a.1)
layers_apart p apart (Value-F.Array vs) (Value-F.Array ws) r s h k re se q e = let a = parts_apart p apart 41 (inr (omega arith)) vs ws r s h k (inside 40 (join_with_byte 44 (map text vs)) (join_with_byte 44 (map text ws)) 41 r s e) in (ap Value-F.Array a.0, a.1)
layers_apart p apart (Value-F.Fields vs) (Value-F.Fields ws) r s h k re se q e = let a = parts_apart p apart 125 (inl (omega arith)) vs ws r s h k (inside 123 (join_with_byte 44 (map text vs)) (join_with_byte 44 (map text ws)) 125 r s e) in (ap Value-F.Fields a.0, a.1)
layers_apart p apart l m r s h k re se q e = absurd (omega arith)

one_kind : (IsPart : Value → Type 0) (l m : Value-F Value) (r s : List ℕ) → IsFormed IsPart l → IsFormed IsPart m → text_at l ++ r ≡ text_at m ++ s → kind l ≡ kind m
one_kind p l m r s h k e = by_first (text_at l ++ r) refl
  where
    by_first : (t : List ℕ) → text_at l ++ r ≡ t → kind l ≡ kind m
    by_first [] n = absurd (no_nil p l r h n)
    by_first (c ∷ t) n = sym (first_at p l h c r t n) ∙ first_at p m k c s t (sym e ∙ n)

values_apart_by : (IsPart : Value → Type 0) → Apart IsPart → (v w : Value) (r s : List ℕ) → IsFormed IsPart (out-Value v) → IsFormed IsPart (out-Value w) → Stops (out-Value v) r → Stops (out-Value w) s → text v ++ r ≡ text w ++ s → (v ≡ w) × (r ≡ s)
values_apart_by p apart v w r s h k re se e =
    let f : text_at (out-Value v) ++ r ≡ text_at (out-Value w) ++ s = sym (ap (λ t. t ++ r) (text_is v)) ∙ (e ∙ ap (λ t. t ++ s) (text_is w)) in
    let a = layers_apart p apart (out-Value v) (out-Value w) r s h k re se (one_kind p (out-Value v) (out-Value w) r s h k f) f in
    (from_out v w a.0, a.1)

nothing_apart : Apart (λ _. ⊥)
nothing_apart v w r s h k re se e = absurd h

apart_at : (depth : ℕ) → Apart (HasForm depth)
apart_at zero v w r s h k re se e = values_apart_by (λ _. ⊥) nothing_apart v w r s h k (stops_from_ends (out-Value v) r re) (stops_from_ends (out-Value w) s se) e
apart_at (suc depth) v w r s h k re se e = values_apart_by (HasForm depth) (apart_at depth) v w r s h k (stops_from_ends (out-Value v) r re) (stops_from_ends (out-Value w) s se) e

-- two values whose texts begin one text are the same, where no digit follows a number
pub values_apart : (depth : ℕ) (v w : Value) (r s : List ℕ) → HasForm depth v → HasForm depth w → Stops (out-Value v) r → Stops (out-Value w) s → text v ++ r ≡ text w ++ s → (v ≡ w) × (r ≡ s)
values_apart zero v w r s h k re se e = values_apart_by (λ _. ⊥) nothing_apart v w r s h k re se e
values_apart (suc depth) v w r s h k re se e = values_apart_by (HasForm depth) (apart_at depth) v w r s h k re se e
