-- What each step of the reader has found.
use Rattle.std.proofs.Common.{◌≡◌, ◌≢◌, ℕ, zero, suc, ◌+◌, ◌-◌, ◌<◌, ◌≤◌, ◌^◌, Bool, true, false, if◌then◌else◌, List, [], ◌∷◌, ◌++◌, map, length, drop, get_or, inl, inr, ◌⊎◌, ap, subst, ◌∙◌, sym, refl, arith, Ok, Err, append_assoc, length-append, ℤ, pos, negsuc}
use Rattle.std.specs.Prelude.{IsTrue}
use Rattle.std.specs.List.{AllByRecursion, join_with_byte}
use Rattle.std.specs.Fmt.{decimal}
use Rattle.std.proofs.lemmas.Fmt.{decimal_digit, first_decimal}
use Rattle.std.proofs.lemmas.Bool.{false≢true}
use Rattle.std.proofs.lemmas.Bool.Decides.{nat_tests}
use Rattle.pascal_values.specs.declared.value.Value.{Value, Value-F, out-Value}
use Rattle.pascal_values.specs.declared.value.Value.TheVariants as value
use Rattle.pascal_values.specs.Integers.{is_integer}
use Rattle.pascal_values.specs.Sets.{IsSet}
use Rattle.pascal_values.specs.Texts.{text, char_text, is_printable, NoDigit, IsFormed, HasForm}
use Rattle.pascal_values.specs.Reading.{Reads, HasNone, IsReading}
use Rattle.pascal_values.specs.Steps.{Stands, StandsWord, NoWord, IsPlain, IsOther, IsFull, IsOrdinal, NoItems, AreOrdinals}
use Rattle.pascal_values.specs.declared.failing.ValueError.{ValueError}
use Rattle.pascal_values.specs.declared.failing.ValueError.TheVariants.{NoValue, Memory}
use Rattle.pascal_values.proofs.Decimals.{heads, tails, decimal_longest, number_only}
use Rattle.pascal_values.proofs.KindLemmas.{kind, kind_at, text_at, text_is, first_at, first_digit, integer_in, negative_in}
use Rattle.pascal_values.proofs.UniqueLemmas.{Stops, values_apart, CharCase, quote, plain, coded, char_case, members_small, small_apart, no_close}
use Rattle.pascal_values.proofs.ListingLemmas.{joins_apart}

-- what the parts of a value in the form are
abbrev pub Part : ℕ → Value → Type 0
Part zero v = ⊥
Part (suc depth) v = HasForm depth v

pub formed : (depth : ℕ) (v : Value) → HasForm depth v → IsFormed (Part depth) (out-Value v)
formed zero v h = h
formed (suc depth) v h = h

pub has_form : (depth : ℕ) (v : Value) (l : Value-F Value) → out-Value v ≡ l → IsFormed (Part depth) l → HasForm depth v
has_form zero v l e h = subst (IsFormed (λ _. ⊥)) (sym e) h
has_form (suc depth) v l e h = subst (IsFormed (HasForm depth)) (sym e) h

-- the first byte tells the kind
pub kind_is : (depth : ℕ) (v : Value) (c : ℕ) (t r : List ℕ) → HasForm depth v → c ∷ t ≡ text v ++ r → kind_at c ≡ kind (out-Value v)
kind_is depth v c t r h e = first_at (Part depth) (out-Value v) (formed depth v h) c r t (sym (ap (λ x. x ++ r) (text_is v)) ∙ sym e)

-- a value whose text ends by itself
abbrev pub IsClosed : {X : Type 0} → Value-F X → Type 0
IsClosed (Value-F.Int n) = ⊥
IsClosed (Value-F.Enum n) = ⊥
IsClosed _ = Unit {0}

stops_closed : {X : Type 0} (l : Value-F X) (r : List ℕ) → IsClosed l → Stops l r
stops_closed Value-F.Unset r c = tt
stops_closed (Value-F.Int n) r c = absurd c
stops_closed (Value-F.Bool b) r c = tt
stops_closed (Value-F.Char n) r c = tt
stops_closed (Value-F.Enum n) r c = absurd c
stops_closed (Value-F.Set ns) r c = tt
stops_closed (Value-F.Array vs) r c = tt
stops_closed (Value-F.Fields vs) r c = tt

closed_kind : (l m : Value-F Value) → IsClosed l → kind l ≡ kind m → IsClosed m
closed_kind (Value-F.Int n) m c e = absurd c
closed_kind (Value-F.Enum n) m c e = absurd c
closed_kind l (Value-F.Int n) c e = absurd (omega arith)
closed_kind l (Value-F.Enum n) c e = absurd (omega arith)
closed_kind l Value-F.Unset c e = tt
closed_kind l (Value-F.Bool b) c e = tt
closed_kind l (Value-F.Char n) c e = tt
closed_kind l (Value-F.Set ns) c e = tt
closed_kind l (Value-F.Array vs) c e = tt
closed_kind l (Value-F.Fields vs) c e = tt

-- a value whose text ends by itself is the only one that begins here
pub reads_closed : (depth : ℕ) (v : Value) (c : ℕ) (s t r : List ℕ) → HasForm depth v → IsClosed (out-Value v) → s ≡ c ∷ t → s ≡ text v ++ r → Reads depth s v r
reads_closed depth v c s t r h closed first is = record {
  form = h;
  is = is;
  longest = λ w more k e.
      let same : kind (out-Value v) ≡ kind (out-Value w) = sym (kind_is depth v c t r h (sym first ∙ is)) ∙ kind_is depth w c t more k (sym first ∙ e) in
      let u = values_apart depth v w r more h k (stops_closed (out-Value v) r closed) (stops_closed (out-Value w) more (closed_kind (out-Value v) (out-Value w) closed same)) (sym is ∙ e) in
      omega (arith, ap (λ x. length (text x)) u.0);
}

-- ---- values by their kinds

pub kind_0 : (l : Value-F Value) → kind l ≡ 0 → l ≡ Value-F.Unset
kind_0 Value-F.Unset e = refl
kind_0 l e = absurd (omega arith)

pub kind_1 : (l : Value-F Value) → kind l ≡ 1 → (n : ℤ) × (l ≡ Value-F.Int n)
kind_1 (Value-F.Int n) e = (n, refl)
kind_1 l e = absurd (omega arith)

pub kind_2 : (l : Value-F Value) → kind l ≡ 2 → (b : Bool) × (l ≡ Value-F.Bool b)
kind_2 (Value-F.Bool b) e = (b, refl)
kind_2 l e = absurd (omega arith)

pub kind_3 : (l : Value-F Value) → kind l ≡ 3 → (n : ℕ) × (l ≡ Value-F.Char n)
kind_3 (Value-F.Char n) e = (n, refl)
kind_3 l e = absurd (omega arith)

pub kind_4 : (l : Value-F Value) → kind l ≡ 4 → (n : ℕ) × (l ≡ Value-F.Enum n)
kind_4 (Value-F.Enum n) e = (n, refl)
kind_4 l e = absurd (omega arith)

pub kind_5 : (l : Value-F Value) → kind l ≡ 5 → (ns : List ℕ) × (l ≡ Value-F.Set ns)
kind_5 (Value-F.Set ns) e = (ns, refl)
kind_5 l e = absurd (omega arith)

pub kind_6 : (l : Value-F Value) → kind l ≡ 6 → (vs : List Value) × (l ≡ Value-F.Array vs)
kind_6 (Value-F.Array vs) e = (vs, refl)
kind_6 l e = absurd (omega arith)

pub kind_7 : (l : Value-F Value) → kind l ≡ 7 → (vs : List Value) × (l ≡ Value-F.Fields vs)
kind_7 (Value-F.Fields vs) e = (vs, refl)
kind_7 l e = absurd (omega arith)

pub no_kind : (l : Value-F Value) → kind l ≡ 8 → ⊥
no_kind Value-F.Unset e = omega arith
no_kind (Value-F.Int n) e = omega arith
no_kind (Value-F.Bool b) e = omega arith
no_kind (Value-F.Char n) e = omega arith
no_kind (Value-F.Enum n) e = omega arith
no_kind (Value-F.Set ns) e = omega arith
no_kind (Value-F.Array vs) e = omega arith
no_kind (Value-F.Fields vs) e = omega arith

-- the text of a value by its layer
pub text_by : (v : Value) (l : Value-F Value) → out-Value v ≡ l → text v ≡ text_at l
text_by v l e = text_is v ∙ ap text_at e

pub formed_by : (depth : ℕ) (v : Value) (l : Value-F Value) → out-Value v ≡ l → HasForm depth v → IsFormed (Part depth) l
formed_by depth v l e h = subst (IsFormed (Part depth)) e (formed depth v h)

-- ---- numbers

maxint : ℕ
maxint = 9223372036854775807

other_kind : (c : ℕ) → IsOther c → (c < 48) ⊎ (57 < c) → kind_at c ≡ 8
other_kind c o d =
    let a = o.0 in let b = o.1 in let e = o.2 in let f = o.3 in let g = o.4 in let h = o.5 in let i = o.6 in let j = o.7 in let k = o.8 in let l = o.9 in
    grind (arith, nat_tests)

digit_of_kind : (d : ℕ) → d < 10 → kind_at (48 + d) ≡ 1
digit_of_kind d lt = grind (arith, nat_tests)

pub natural_none : (depth c : ℕ) (s t : List ℕ) → s ≡ c ∷ t → IsOther c → NoDigit s → HasNone depth s
natural_none depth c s t first other none v r h e =
    no_kind (out-Value v) (sym (kind_is depth v c t r h (sym first ∙ e)) ∙ other_kind c other (subst NoDigit first none))

-- a value of a kind of number whose text is a sign and a decimal number
module _ (depth greatest n : ℕ) (v : Value) (sign s t r : List ℕ) (g_in : greatest < 2 ^ 64) (n_in : n ≤ greatest) (full : IsFull greatest n r) (is : t ≡ decimal n ++ r) (s_is : s ≡ sign ++ t) (v_is : text v ≡ sign ++ decimal n) (h : HasForm depth v) where
  number_reads : ((w : Value) (more : List ℕ) → HasForm depth w → s ≡ text w ++ more → (y : ℕ) × (y ≤ greatest) × (text w ≡ sign ++ decimal y)) → Reads depth s v r
  number_reads each = record {
    form = h;
    is = s_is ∙ (ap (λ x. sign ++ x) is ∙ (sym (append_assoc sign (decimal n) r) ∙ ap (λ x. x ++ r) (sym v_is)));
    longest = λ w more k e.
        let y = each w more k e in
        let w_is : sign ++ t ≡ sign ++ (decimal y.0 ++ more) = sym s_is ∙ (e ∙ (ap (λ x. x ++ more) y.2 ∙ append_assoc sign (decimal y.0) more)) in
        let l = decimal_longest greatest n t r g_in n_in full is y.0 more y.1 (unsigned sign t (decimal y.0 ++ more) w_is) in
        omega (arith, ap length v_is, ap length y.2, length-append sign (decimal n), length-append sign (decimal y.0));
  }
    where
      unsigned : (a b d : List ℕ) → a ++ b ≡ a ++ d → b ≡ d
      unsigned [] b d e = e
      unsigned (x ∷ a) b d e = unsigned a b d (tails x x (a ++ b) (a ++ d) e)

first_of : (n : ℕ) (r : List ℕ) → n < 2 ^ 64 → (c : ℕ) × (t : List ℕ) × (decimal n ++ r ≡ c ∷ t) × (kind_at c ≡ 1) × (c ≢ 45)
first_of n r n_in = let d = first_digit n n_in in (48 + d.0, d.1 ++ r, ap (λ x. x ++ r) d.3, digit_of_kind d.0 d.2, λ e. omega (arith, e))

pub natural_reads : (depth n : ℕ) (s r : List ℕ) → n ≤ 9223372036854775807 → s ≡ decimal n ++ r → IsFull 9223372036854775807 n r → Reads depth s (value.Int (pos n)) r
natural_reads depth n s r n_in is full =
    let f = first_of n r (omega arith) in
    number_reads depth 9223372036854775807 n (value.Int (pos n)) [] s s r (omega arith) n_in full is refl (text_by (value.Int (pos n)) (Value-F.Int (pos n)) (value.outs-Int (pos n)))
    (has_form depth (value.Int (pos n)) (Value-F.Int (pos n)) (value.outs-Int (pos n)) (grind (arith, nat_tests)))
    (λ w more k e.
    let one = kind_1 (out-Value w) (sym (kind_is depth w f.0 f.1 more k (sym f.2 ∙ (sym is ∙ e))) ∙ f.3) in
    each w more one.0 one.1 (formed_by depth w (Value-F.Int one.0) one.1 k) (sym f.2 ∙ (sym is ∙ e)))
  where
    each : (w : Value) (more : List ℕ) (z : ℤ) → out-Value w ≡ Value-F.Int z → IsTrue (is_integer z) → (first_of n r (omega arith)).0 ∷ (first_of n r (omega arith)).1 ≡ text w ++ more → (y : ℕ) × (y ≤ 9223372036854775807) × (text w ≡ decimal y)
    each w more (pos y) o i e = (y, omega (arith, integer_in y i), text_by w (Value-F.Int (pos y)) o)
    each w more (negsuc y) o i e = absurd ((first_of n r (omega arith)).4 (heads _ 45 _ (decimal (suc y) ++ more) (e ∙ ap (λ x. x ++ more) (text_by w (Value-F.Int (negsuc y)) o))))

pub digit_here : (d : ℕ) (u t : List ℕ) → d < 10 → t ≡ (48 + d) ∷ u → NoDigit t → ⊥
digit_here d u t lt e none = elim (subst NoDigit e none) [ inl low ↦ omega arith | inr high ↦ omega arith ]

record Minus (w : Value) : Type 0 where
  size : ℕ
  fits : suc size ≤ 9223372036854775807
  is : text w ≡ 45 ∷ decimal (suc size)

-- a text that begins with a minus sign is a negative integer's
minus_only : (depth : ℕ) (w : Value) (t more : List ℕ) → HasForm depth w → 45 ∷ t ≡ text w ++ more → Minus w
minus_only depth w t more k e =
    let one = kind_1 (out-Value w) (sym (kind_is depth w 45 t more k e)) in
    each one.0 one.1 (formed_by depth w (Value-F.Int one.0) one.1 k)
  where
    each : (z : ℤ) → out-Value w ≡ Value-F.Int z → IsTrue (is_integer z) → Minus w
    each (pos y) o i =
        let y_in : y < 2 ^ 64 = omega (arith, integer_in y i) in
        let f = first_of y more y_in in
        absurd (f.4 (sym (heads 45 f.0 t f.1 (e ∙ (ap (λ x. x ++ more) (text_by w (Value-F.Int (pos y)) o) ∙ f.2)))))
    each (negsuc y) o i = record { size = y; fits = omega (arith, negative_in y i); is = text_by w (Value-F.Int (negsuc y)) o }

minus_rest : (w : Value) (m : Minus w) (t more : List ℕ) → 45 ∷ t ≡ text w ++ more → t ≡ decimal (suc m.size) ++ more
minus_rest w m t more e = tails 45 45 t (decimal (suc m.size) ++ more) (e ∙ ap (λ x. x ++ more) m.is)

pub negative_reads : (depth n : ℕ) (s t r : List ℕ) → 0 < n → n ≤ 9223372036854775807 → s ≡ 45 ∷ t → t ≡ decimal n ++ r → IsFull 9223372036854775807 n r → Reads depth s (value.Int (negsuc (n - 1))) r
negative_reads depth n s t r nz n_in first is full =
    let same : suc (n - 1) ≡ n = omega arith in
    let v = value.Int (negsuc (n - 1)) in
    number_reads depth 9223372036854775807 n v (45 ∷ []) s t r (omega arith) n_in full is first
    (text_by v (Value-F.Int (negsuc (n - 1))) (value.outs-Int (negsuc (n - 1))) ∙ ap (λ k. 45 ∷ decimal k) same)
    (has_form depth v (Value-F.Int (negsuc (n - 1))) (value.outs-Int (negsuc (n - 1))) (grind (arith, nat_tests)))
    (λ w more k e. let m = minus_only depth w t more k (sym first ∙ e) in (suc m.size, m.fits, m.is))

pub negative_none : (depth : ℕ) (s t : List ℕ) → s ≡ 45 ∷ t → NoDigit t → HasNone depth s
negative_none depth s t first none w more k e =
    let m = minus_only depth w t more k (sym first ∙ e) in
    let d = first_digit (suc m.size) (omega (arith, m.fits)) in
    digit_here d.0 (d.1 ++ more) t d.2 (minus_rest w m t more (sym first ∙ e) ∙ ap (λ x. x ++ more) d.3) none

-- there is no minus before a zero
pub negative_zero : (depth : ℕ) (s t r : List ℕ) → s ≡ 45 ∷ t → t ≡ decimal 0 ++ r → HasNone depth s
negative_zero depth s t r first is w more k e =
    let m = minus_only depth w t more k (sym first ∙ e) in
    let y_in : suc m.size < 2 ^ 64 = omega (arith, m.fits) in
    let d = first_digit (suc m.size) y_in in
    let zero_is : decimal 0 ≡ 48 ∷ [] = decimal_digit 0 (omega arith) in
    let same = heads (48 + d.0) 48 (d.1 ++ more) r (ap (λ x. x ++ more) (sym d.3) ∙ (sym (minus_rest w m t more (sym first ∙ e)) ∙ (is ∙ ap (λ x. x ++ r) zero_is))) in
    let above : 48 < 48 + d.0 = subst (λ x. 48 < get_or x 0 0) d.3 (first_decimal (suc m.size) (omega arith) y_in) in
    omega (arith, same, above)

hash_only : (depth : ℕ) (w : Value) (t more : List ℕ) → HasForm depth w → 35 ∷ t ≡ text w ++ more → (y : ℕ) × (y ≤ 4294967295) × (text w ≡ 35 ∷ decimal y)
hash_only depth w t more k e =
    let four = kind_4 (out-Value w) (sym (kind_is depth w 35 t more k e)) in
    let small = formed_by depth w (Value-F.Enum four.0) four.1 k in
    (four.0, omega (arith, small), text_by w (Value-F.Enum four.0) four.1)

pub enum_reads : (depth n : ℕ) (s t r : List ℕ) → n ≤ 4294967295 → s ≡ 35 ∷ t → t ≡ decimal n ++ r → IsFull 4294967295 n r → Reads depth s (value.Enum n) r
enum_reads depth n s t r n_in first is full =
    number_reads depth 4294967295 n (value.Enum n) (35 ∷ []) s t r (omega arith) n_in full is first
    (text_by (value.Enum n) (Value-F.Enum n) (value.outs-Enum n))
    (has_form depth (value.Enum n) (Value-F.Enum n) (value.outs-Enum n) (omega arith))
    (λ w more k e. hash_only depth w t more k (sym first ∙ e))

pub enum_none : (depth : ℕ) (s t : List ℕ) → s ≡ 35 ∷ t → NoDigit t → HasNone depth s
enum_none depth s t first none w more k e =
    let y = hash_only depth w t more k (sym first ∙ e) in
    let d = first_digit y.0 (omega (arith, y.1)) in
    digit_here d.0 (d.1 ++ more) t d.2 (tails 35 35 t (decimal y.0 ++ more) (sym first ∙ (e ∙ ap (λ x. x ++ more) y.2)) ∙ ap (λ x. x ++ more) d.3) none

-- ---- words and characters

bool_only : (depth : ℕ) (w : Value) (c : ℕ) (t more : List ℕ) → HasForm depth w → kind_at c ≡ 2 → c ∷ t ≡ text w ++ more → (b : Bool) × (text w ≡ (if b then (116 ∷ 114 ∷ 117 ∷ 101 ∷ []) else (102 ∷ 97 ∷ 108 ∷ 115 ∷ 101 ∷ [])))
bool_only depth w c t more k at_ e =
    let two = kind_2 (out-Value w) (sym (kind_is depth w c t more k e) ∙ at_) in
    (two.0, text_by w (Value-F.Bool two.0) two.1)

pub true_none : (depth : ℕ) (s t : List ℕ) → s ≡ 116 ∷ t → ((rest : List ℕ) → ¬ (s ≡ 116 ∷ 114 ∷ 117 ∷ 101 ∷ rest)) → HasNone depth s
true_none depth s t first none w more k e = let b = bool_only depth w 116 t more k refl (sym first ∙ e) in by_bool b.0 b.1
  where
    by_bool : (b : Bool) → text w ≡ (if b then (116 ∷ 114 ∷ 117 ∷ 101 ∷ []) else (102 ∷ 97 ∷ 108 ∷ 115 ∷ 101 ∷ [])) → ⊥
    by_bool true is = none more (e ∙ ap (λ x. x ++ more) is)
    by_bool false is = omega (arith, heads 116 102 t (97 ∷ 108 ∷ 115 ∷ 101 ∷ more) (sym first ∙ (e ∙ ap (λ x. x ++ more) is)))

pub false_none : (depth : ℕ) (s t : List ℕ) → s ≡ 102 ∷ t → ((rest : List ℕ) → ¬ (s ≡ 102 ∷ 97 ∷ 108 ∷ 115 ∷ 101 ∷ rest)) → HasNone depth s
false_none depth s t first none w more k e = let b = bool_only depth w 102 t more k refl (sym first ∙ e) in by_bool b.0 b.1
  where
    by_bool : (b : Bool) → text w ≡ (if b then (116 ∷ 114 ∷ 117 ∷ 101 ∷ []) else (102 ∷ 97 ∷ 108 ∷ 115 ∷ 101 ∷ [])) → ⊥
    by_bool false is = none more (e ∙ ap (λ x. x ++ more) is)
    by_bool true is = omega (arith, heads 102 116 t (114 ∷ 117 ∷ 101 ∷ more) (sym first ∙ (e ∙ ap (λ x. x ++ more) is)))

pub true_reads : (depth : ℕ) (s r : List ℕ) → s ≡ 116 ∷ 114 ∷ 117 ∷ 101 ∷ r → Reads depth s (value.Bool true) r
true_reads depth s r e = reads_closed depth (value.Bool true) 116 s (114 ∷ 117 ∷ 101 ∷ r) r (has_form depth (value.Bool true) (Value-F.Bool true) (value.outs-Bool true) tt) (subst IsClosed (sym (value.outs-Bool true)) tt) e (e ∙ ap (λ x. x ++ r) (sym (text_by (value.Bool true) (Value-F.Bool true) (value.outs-Bool true))))

pub false_reads : (depth : ℕ) (s r : List ℕ) → s ≡ 102 ∷ 97 ∷ 108 ∷ 115 ∷ 101 ∷ r → Reads depth s (value.Bool false) r
false_reads depth s r e = reads_closed depth (value.Bool false) 102 s (97 ∷ 108 ∷ 115 ∷ 101 ∷ r) r (has_form depth (value.Bool false) (Value-F.Bool false) (value.outs-Bool false) tt) (subst IsClosed (sym (value.outs-Bool false)) tt) e (e ∙ ap (λ x. x ++ r) (sym (text_by (value.Bool false) (Value-F.Bool false) (value.outs-Bool false))))

pub unset_reads : (depth : ℕ) (s r : List ℕ) → s ≡ 63 ∷ r → Reads depth s value.Unset r
unset_reads depth s r e = reads_closed depth value.Unset 63 s r r (has_form depth value.Unset Value-F.Unset value.outs-Unset tt) (subst IsClosed (sym value.outs-Unset) tt) e (e ∙ ap (λ x. x ++ r) (sym (text_by value.Unset Value-F.Unset value.outs-Unset)))

-- a character by the text that it has
pub char_reads : (depth c f : ℕ) (s t r : List ℕ) → c < 256 → s ≡ f ∷ t → s ≡ char_text c ++ r → Reads depth s (value.Char c) r
char_reads depth c f s t r small first e = reads_closed depth (value.Char c) f s t r (has_form depth (value.Char c) (Value-F.Char c) (value.outs-Char c) small) (subst IsClosed (sym (value.outs-Char c)) tt) first (e ∙ ap (λ x. x ++ r) (sym (text_by (value.Char c) (Value-F.Char c) (value.outs-Char c))))

char_only : (depth : ℕ) (w : Value) (f : ℕ) (t more : List ℕ) → HasForm depth w → kind_at f ≡ 3 → f ∷ t ≡ text w ++ more → (c : ℕ) × (c < 256) × (text w ≡ char_text c)
char_only depth w f t more k at_ e =
    let three = kind_3 (out-Value w) (sym (kind_is depth w f t more k e) ∙ at_) in
    (three.0, formed_by depth w (Value-F.Char three.0) three.1 k, text_by w (Value-F.Char three.0) three.1)

pub quoted_none : (depth : ℕ) (s t : List ℕ) → s ≡ 39 ∷ t → ((rest : List ℕ) → ¬ (s ≡ 39 ∷ 39 ∷ 39 ∷ 39 ∷ rest)) → ((c : ℕ) (rest : List ℕ) → IsPlain c → ¬ (s ≡ 39 ∷ c ∷ 39 ∷ rest)) → HasNone depth s
quoted_none depth s t first no_quote no_plain w more k e =
    let c = char_only depth w 39 t more k refl (sym first ∙ e) in by_case c.0 c.2 (char_case c.0)
  where
    by_case : (c : ℕ) → text w ≡ char_text c → CharCase c → ⊥
    by_case c is (quote p a) = no_quote more (e ∙ ap (λ x. x ++ more) (is ∙ a))
    by_case c is (plain n x a) = no_plain c more (n, x) (e ∙ ap (λ y. y ++ more) (is ∙ a))
    by_case c is (coded u a) = omega (arith, heads 39 99 t _ (sym first ∙ (e ∙ ap (λ y. y ++ more) (is ∙ a))))

pub coded_none : (depth : ℕ) (s t : List ℕ) → s ≡ 99 ∷ t → ((c : ℕ) (rest : List ℕ) → c < 256 → is_printable c ≡ false → ¬ (s ≡ 99 ∷ 104 ∷ 114 ∷ 40 ∷ (decimal c ++ 41 ∷ rest))) → HasNone depth s
coded_none depth s t first no_coded w more k e =
    let c = char_only depth w 99 t more k refl (sym first ∙ e) in by_case c.0 c.1 c.2 (char_case c.0)
  where
    by_case : (c : ℕ) → c < 256 → text w ≡ char_text c → CharCase c → ⊥
    by_case c lt is (quote p a) = omega (arith, heads 99 39 t _ (sym first ∙ (e ∙ ap (λ y. y ++ more) (is ∙ a))))
    by_case c lt is (plain n x a) = omega (arith, heads 99 39 t _ (sym first ∙ (e ∙ ap (λ y. y ++ more) (is ∙ a))))
    by_case c lt is (coded u a) = no_coded c more lt u (e ∙ (ap (λ y. y ++ more) (is ∙ a) ∙ ap (λ y. 99 ∷ 104 ∷ 114 ∷ 40 ∷ y) (append_assoc (decimal c) (41 ∷ []) more)))

pub quote_reads : (depth : ℕ) (s r : List ℕ) → s ≡ 39 ∷ 39 ∷ 39 ∷ 39 ∷ r → Reads depth s (value.Char 39) r
quote_reads depth s r e = char_reads depth 39 39 s (39 ∷ 39 ∷ 39 ∷ r) r (omega arith) e e

plain_text : (c : ℕ) → IsPlain c → char_text c ≡ 39 ∷ c ∷ 39 ∷ []
plain_text c p = by_case (char_case c)
  where
    by_case : CharCase c → char_text c ≡ 39 ∷ c ∷ 39 ∷ []
    by_case (quote q a) = absurd (p.0 q)
    by_case (plain n x a) = a
    by_case (coded u a) = absurd (false≢true (sym u ∙ p.1))

printable_small : (c : ℕ) → is_printable c ≡ true → c < 256
printable_small c e = grind (arith, nat_tests)

pub plain_reads : (depth c : ℕ) (s r : List ℕ) → IsPlain c → s ≡ 39 ∷ c ∷ 39 ∷ r → Reads depth s (value.Char c) r
plain_reads depth c s r p e = char_reads depth c 39 s (c ∷ 39 ∷ r) r (printable_small c p.1) e (e ∙ ap (λ x. x ++ r) (sym (plain_text c p)))

coded_text : (c : ℕ) → is_printable c ≡ false → char_text c ≡ 99 ∷ 104 ∷ 114 ∷ 40 ∷ (decimal c ++ 41 ∷ [])
coded_text c p = by_case (char_case c)
  where
    by_case : CharCase c → char_text c ≡ 99 ∷ 104 ∷ 114 ∷ 40 ∷ (decimal c ++ 41 ∷ [])
    by_case (quote q a) = absurd (false≢true (sym p ∙ ap is_printable q))
    by_case (plain n x a) = absurd (false≢true (sym p ∙ x))
    by_case (coded u a) = a

-- `chr(` n `)`
pub coded_reads : (depth n : ℕ) (s t r q : List ℕ) → s ≡ 99 ∷ 104 ∷ 114 ∷ 40 ∷ t → t ≡ decimal n ++ r → n ≤ 255 → r ≡ 41 ∷ q → is_printable n ≡ false → Reads depth s (value.Char n) q
coded_reads depth n s t r q word is small close p =
    char_reads depth n 99 s (104 ∷ 114 ∷ 40 ∷ t) q (omega arith) word
    (word ∙ (ap (λ x. 99 ∷ 104 ∷ 114 ∷ 40 ∷ x) (is ∙ (ap (λ x. decimal n ++ x) close ∙ sym (append_assoc (decimal n) (41 ∷ []) q))) ∙ ap (λ x. x ++ q) (sym (coded_text n p))))

four_off : (s t u : List ℕ) → s ≡ 99 ∷ 104 ∷ 114 ∷ 40 ∷ t → s ≡ 99 ∷ 104 ∷ 114 ∷ 40 ∷ u → t ≡ u
four_off s t u a b = let e : 99 ∷ 104 ∷ 114 ∷ 40 ∷ t ≡ 99 ∷ 104 ∷ 114 ∷ 40 ∷ u = sym a ∙ b in cc

pub coded_no_word : (depth : ℕ) (s t : List ℕ) → s ≡ 99 ∷ t → ((rest : List ℕ) → ¬ (s ≡ 99 ∷ 104 ∷ 114 ∷ 40 ∷ rest)) → HasNone depth s
coded_no_word depth s t first none = coded_none depth s t first (λ c rest lt p e. none (decimal c ++ 41 ∷ rest) e)

pub coded_no_number : (depth : ℕ) (s t : List ℕ) → s ≡ 99 ∷ 104 ∷ 114 ∷ 40 ∷ t → NoDigit t → HasNone depth s
coded_no_number depth s t word none = coded_none depth s (104 ∷ 114 ∷ 40 ∷ t) word (λ c rest lt p e.
    let d = first_digit c (omega arith) in
    digit_here d.0 (d.1 ++ 41 ∷ rest) t d.2 (four_off s t (decimal c ++ 41 ∷ rest) word e ∙ ap (λ x. x ++ 41 ∷ rest) d.3) none)

module _ (depth n : ℕ) (s t r : List ℕ) (word : s ≡ 99 ∷ 104 ∷ 114 ∷ 40 ∷ t) (is : t ≡ decimal n ++ r) (small : n ≤ 255) (full : IsFull 255 n r) where
  the_code : (c : ℕ) (rest : List ℕ) → c < 256 → s ≡ 99 ∷ 104 ∷ 114 ∷ 40 ∷ (decimal c ++ 41 ∷ rest) → (n ≡ c) × (r ≡ 41 ∷ rest)
  the_code c rest lt e = number_only 255 n t r (omega arith) small full is c (41 ∷ rest) (omega arith) (inl (omega arith)) (four_off s t (decimal c ++ 41 ∷ rest) word e)

  pub coded_printed : is_printable n ≡ true → HasNone depth s
  coded_printed p = coded_none depth s (104 ∷ 114 ∷ 40 ∷ t) word (λ c rest lt q e. false≢true (sym q ∙ (ap is_printable (sym (the_code c rest lt e).0) ∙ p)))

  pub coded_open : ((rest : List ℕ) → ¬ (r ≡ 41 ∷ rest)) → HasNone depth s
  coded_open none = coded_none depth s (104 ∷ 114 ∷ 40 ∷ t) word (λ c rest lt q e. none rest (the_code c rest lt e).1)

-- ---- sets

set_only : (depth : ℕ) (w : Value) (t more : List ℕ) → HasForm depth w → 91 ∷ t ≡ text w ++ more → (ms : List ℕ) × IsSet ms × (t ≡ join_with_byte 44 (map decimal ms) ++ 93 ∷ more)
set_only depth w t more k e =
    let five = kind_5 (out-Value w) (sym (kind_is depth w 91 t more k e)) in
    let is = text_by w (Value-F.Set five.0) five.1 in
    (five.0, formed_by depth w (Value-F.Set five.0) five.1 k, tails 91 91 t (join_with_byte 44 (map decimal five.0) ++ 93 ∷ more) (e ∙ (ap (λ x. x ++ more) is ∙ ap (λ x. 91 ∷ x) (append_assoc (join_with_byte 44 (map decimal five.0)) (93 ∷ []) more))))

pub set_reads : (depth : ℕ) (ns : List ℕ) (s t r : List ℕ) → IsSet ns → s ≡ 91 ∷ t → t ≡ join_with_byte 44 (map decimal ns) ++ 93 ∷ r → Reads depth s (value.Set ns) r
set_reads depth ns s t r set first is = reads_closed depth (value.Set ns) 91 s t r (has_form depth (value.Set ns) (Value-F.Set ns) (value.outs-Set ns) set) (subst IsClosed (sym (value.outs-Set ns)) tt) first
    (first ∙ (ap (λ x. 91 ∷ x) (is ∙ sym (append_assoc (join_with_byte 44 (map decimal ns)) (93 ∷ []) r)) ∙ ap (λ x. x ++ r) (sym (text_by (value.Set ns) (Value-F.Set ns) (value.outs-Set ns)))))

pub set_none : (depth : ℕ) (s t : List ℕ) → s ≡ 91 ∷ t → ((rest : List ℕ) → ¬ (t ≡ 93 ∷ rest)) → NoItems decimal IsOrdinal 93 t → HasNone depth s
set_none depth s t first empty none w more k e = let m = set_only depth w t more k (sym first ∙ e) in by_members m.0 m.1 m.2
  where
    by_members : (ms : List ℕ) → IsSet ms → t ≡ join_with_byte 44 (map decimal ms) ++ 93 ∷ more → ⊥
    by_members [] set is = empty more is
    by_members (m ∷ ms) set is = none (m ∷ ms) more (members_small 0 (m ∷ ms) set) (omega arith) is

pub set_falls : (depth : ℕ) (ns : List ℕ) (s t r : List ℕ) → s ≡ 91 ∷ t → AllByRecursion IsOrdinal ns → 0 < length ns → t ≡ join_with_byte 44 (map decimal ns) ++ 93 ∷ r → ¬ IsSet ns → HasNone depth s
set_falls depth [] s t r first small some is falls w more k e = omega arith
set_falls depth (n ∷ ns) s t r first small some is falls w more k e = let m = set_only depth w t more k (sym first ∙ e) in by_members m.0 m.1 m.2
  where
    by_members : (ms : List ℕ) → IsSet ms → t ≡ join_with_byte 44 (map decimal ms) ++ 93 ∷ more → ⊥
    by_members [] set e' = no_close n ns more r small.0 (sym e' ∙ is)
    by_members (m ∷ ms) set e' =
        let a = joins_apart decimal IsOrdinal 93 (inl (omega arith)) small_apart n ns m ms r more small (members_small 0 (m ∷ ms) set) (sym is ∙ e') in
        falls (subst IsSet (sym a.0) set)

pub set_read : (depth : ℕ) (ns ms : List ℕ) (s t r : List ℕ) → IsSet ns → ms ≡ ns → s ≡ 91 ∷ t → t ≡ join_with_byte 44 (map decimal ns) ++ 93 ∷ r → Reads depth s (value.Set ms) r
set_read depth ns ms s t r set same first is = subst (λ l. Reads depth s (value.Set l) r) (sym same) (set_reads depth ns s t r set first is)

pub set_empty : (depth : ℕ) (bytes : List ℕ) (at_ : ℕ) (ms : List ℕ) → Stands bytes at_ 91 → StandsWord bytes (at_ + 1) (93 ∷ []) → ms ≡ [] → IsReading depth bytes at_ (Ok (value.Set ms, at_ + 2))
set_empty depth bytes at_ ms open_ close same =
    let e : at_ + 1 + 1 ≡ at_ + 2 = omega arith in
    let w = close.within in
    (omega arith, omega (arith, w), subst (λ k. Reads depth (drop at_ bytes) (value.Set ms) (drop k bytes)) e (set_read depth [] ms (drop at_ bytes) (drop (at_ + 1) bytes) (drop (at_ + 1 + 1) bytes) (omega arith) same open_.is close.is))

pub set_error : (depth : ℕ) (bytes : List ℕ) (at_ : ℕ) (e : ValueError) → Stands bytes at_ 91 → NoWord bytes (at_ + 1) (93 ∷ []) → AreOrdinals bytes (at_ + 1) (Err e) → IsReading depth bytes at_ (Err e)
set_error depth bytes at_ NoValue open_ empty none = set_none depth (drop at_ bytes) (drop (at_ + 1) bytes) open_.is empty none
set_error depth bytes at_ Memory open_ empty none = tt
