-- The text of a value, one layer at a time, and lists of texts.
use Rattle.std.proofs.Common.{◌≡◌, ℕ, ◌+◌, ◌%◌, ◌/◌, ◌^◌, Result, Ok, Err, ◌<◌, ◌≤◌, List, [], ◌∷◌, ◌++◌, map, length, take, get_or, ap, ◌∙◌, sym, refl, arith, append_assoc}
use Rattle.std.specs.List.{join_with_byte}
use Rattle.std.specs.Fmt.{decimal}
use Rattle.std.proofs.lemmas.Fmt.{decimal_digit, decimal_step}
use Rattle.std.proofs.lemmas.List.{take_all, take_more, get_or_default, map-append, length-map, length-take}
use Rattle.std.specs.Prelude.{OnOk, OnErr}
use Rattle.pascal_values.specs.declared.value.Value.{Value, out-Value, map-Value, fold_out-Value}
use Rattle.pascal_values.specs.declared.value.Value.TheVariants as value
use Rattle.pascal_values.specs.Texts.{text, text_step, Extends, comma_before, enclosed}

pub text_out : (v : Value) → text v ≡ text_step (map-Value Value (List ℕ) text (out-Value v))
unfolding text
text_out v = fold_out-Value (List ℕ) text_step v

pub extends : (old new more : List ℕ) → new ≡ old ++ more → Extends old new
extends [] new more e = refl
extends (x ∷ old) [] more e = cc
extends (x ∷ old) (y ∷ new) more e =
    let same : y ≡ x = cc in
    let rest : new ≡ old ++ more = cc in
    rw (same, extends old new more rest)

pub extends_more : (old mid new : List ℕ) (more : List ℕ) → mid ≡ old ++ more → Extends mid new → Extends old new
extends_more [] mid new more e h = refl
extends_more (x ∷ old) [] new more e h = cc
extends_more (x ∷ old) (y ∷ mid) [] more e h = cc
extends_more (x ∷ old) (y ∷ mid) (z ∷ new) more e h =
    let same : y ≡ x = cc in
    let rest : mid ≡ old ++ more = cc in
    let head : z ≡ y = cc in
    let tail : Extends mid new = cc in
    rw (extends_more old mid new more rest tail) (ap (λ n. n ∷ old) (head ∙ same))

-- one more text behind the others
join-push : (ts : List (List ℕ)) (t : List ℕ) → join_with_byte 44 (ts ++ t ∷ []) ≡ (join_with_byte 44 ts ++ comma_before (length ts)) ++ t
join-push [] t = refl
join-push (u ∷ []) t = sym (append_assoc u (44 ∷ []) t)
join-push (u ∷ v ∷ ts) t =
    let j = join_with_byte 44 (v ∷ ts) in
    ap (λ l. u ++ (44 ∷ l)) (join-push (v ∷ ts) t) ∙ (sym (append_assoc u (44 ∷ (j ++ 44 ∷ [])) t) ∙ ap (λ l. l ++ t) (sym (append_assoc u (44 ∷ j) (44 ∷ []))))

module _ {X : Type 0} (f : X → List ℕ) (xs : List X) where
  -- one more text of a list
  pub joined_more : (i : ℕ) (x : X) (start at_ mid new : List ℕ) → i < length xs → x ≡ get_or xs i x → at_ ≡ start ++ join_with_byte 44 (map f (take i xs)) → mid ≡ at_ ++ comma_before i → new ≡ mid ++ f x → new ≡ start ++ join_with_byte 44 (map f (take (i + 1) xs))
  joined_more i x start at_ mid new lt x_is before comma last =
      let t : take (i + 1) xs ≡ take i xs ++ x ∷ [] = take_more xs i x lt ∙ ap (λ y. take i xs ++ y ∷ []) (sym x_is) in
      let m : map f (take (i + 1) xs) ≡ map f (take i xs) ++ f x ∷ [] = ap (map f) t ∙ map-append f (take i xs) (x ∷ []) in
      let n : length (map f (take i xs)) ≡ i = length-map (take i xs) f ∙ omega (arith, length-take i xs) in
      let j : join_with_byte 44 (map f (take (i + 1) xs)) ≡ (join_with_byte 44 (map f (take i xs)) ++ comma_before i) ++ f x = ap (join_with_byte 44) m ∙ (join-push (map f (take i xs)) (f x) ∙ ap (λ k. (join_with_byte 44 (map f (take i xs)) ++ comma_before k) ++ f x) n) in
      rw (last, comma, before, j) (ap (λ l. l ++ f x) (append_assoc start (join_with_byte 44 (map f (take i xs))) (comma_before i)) ∙ append_assoc start (join_with_byte 44 (map f (take i xs)) ++ comma_before i) (f x))

  pub joined_all : (i : ℕ) (start at_ : List ℕ) → length xs ≤ i → at_ ≡ start ++ join_with_byte 44 (map f (take i xs)) → at_ ≡ start ++ join_with_byte 44 (map f xs)
  joined_all i start at_ all before = before ∙ ap (λ l. start ++ join_with_byte 44 (map f l)) (take_all i xs all)

-- texts in brackets
pub bracketed : (a b : ℕ) (t start one two new : List ℕ) → one ≡ start ++ a ∷ [] → two ≡ one ++ t → new ≡ two ++ b ∷ [] → new ≡ start ++ a ∷ (t ++ b ∷ [])
bracketed a b t start one two new p q r = rw (r, q, p) (ap (λ l. l ++ b ∷ []) (append_assoc start (a ∷ []) t) ∙ append_assoc start (a ∷ t) (b ∷ []))

pub on_ok : {A E P Q : Type 0} (r : Result A E) → (P → Q) → OnOk r P → OnOk r Q
on_ok (Ok x) go p = go p
on_ok (Err e) go p = tt

pub on_err : {A E P : Type 0} (r : Result A E) → P → OnErr r P
on_err (Ok x) p = tt
on_err (Err e) p = p

pub extends_after : (start at_ mid new t u : List ℕ) → at_ ≡ start ++ t → mid ≡ at_ ++ u → Extends mid new → Extends start new
extends_after start at_ mid new t u before more h = extends_more start mid new (t ++ u) (more ∙ (ap (λ l. l ++ u) before ∙ append_assoc start t u)) h

pub one_digit : (n : ℕ) (old new : List ℕ) → n < 10 → new ≡ old ++ (48 + n % 10) ∷ [] → new ≡ old ++ decimal n
one_digit n old new lt e =
    let d : n % 10 ≡ n = omega arith in
    rw (decimal_digit n lt) (e ∙ ap (λ k. old ++ (48 + k) ∷ []) d)

pub more_digits : (n : ℕ) (old mid new : List ℕ) → 10 ≤ n → n < 2 ^ 64 → mid ≡ old ++ decimal (n / 10) → new ≡ mid ++ (48 + n % 10) ∷ [] → new ≡ old ++ decimal n
more_digits n old mid new le lt first last = rw (last, first, decimal_step n le lt) (append_assoc old (decimal (n / 10)) ((48 + n % 10) ∷ []))

text-Enum : (n : ℕ) → text (value.Enum n) ≡ 35 ∷ decimal n
text-Enum n = text_out (value.Enum n) ∙ ap (λ l. text_step (map-Value Value (List ℕ) text l)) (value.outs-Enum n)

text-Array : (vs : List Value) → text (value.Array vs) ≡ enclosed 40 (map text vs) 41
text-Array vs = text_out (value.Array vs) ∙ ap (λ l. text_step (map-Value Value (List ℕ) text l)) (value.outs-Array vs)

text-Fields : (vs : List Value) → text (value.Fields vs) ≡ enclosed 123 (map text vs) 125
text-Fields vs = text_out (value.Fields vs) ∙ ap (λ l. text_step (map-Value Value (List ℕ) text l)) (value.outs-Fields vs)

pub enum_written : (v : Value) (n m : ℕ) (old mid new : List ℕ) → v ≡ value.Enum n → m ≡ n → mid ≡ old ++ 35 ∷ [] → new ≡ mid ++ decimal m → new ≡ old ++ text v
enum_written v n m old mid new v_is m_is first last = rw (last, first, m_is, v_is, text-Enum n) (append_assoc old (35 ∷ []) (decimal n))

pub array_written : (v : Value) (vs items : List Value) (old one two new : List ℕ) → v ≡ value.Array vs → items ≡ vs → one ≡ old ++ 40 ∷ [] → two ≡ one ++ join_with_byte 44 (map text items) → new ≡ two ++ 41 ∷ [] → new ≡ old ++ text v
array_written v vs items old one two new v_is same p q r = rw (v_is, text-Array vs) (bracketed 40 41 (join_with_byte 44 (map text vs)) old one two new p (q ∙ ap (λ l. one ++ join_with_byte 44 (map text l)) same) r)

pub fields_written : (v : Value) (vs items : List Value) (old one two new : List ℕ) → v ≡ value.Fields vs → items ≡ vs → one ≡ old ++ 123 ∷ [] → two ≡ one ++ join_with_byte 44 (map text items) → new ≡ two ++ 125 ∷ [] → new ≡ old ++ text v
fields_written v vs items old one two new v_is same p q r = rw (v_is, text-Fields vs) (bracketed 123 125 (join_with_byte 44 (map text vs)) old one two new p (q ∙ ap (λ l. one ++ join_with_byte 44 (map text l)) same) r)

pub ordinals_more : (ns : List ℕ) (i n : ℕ) (start at_ mid new : List ℕ) → i < length ns → n ≡ get_or ns i 0 → at_ ≡ start ++ join_with_byte 44 (map decimal (take i ns)) → mid ≡ at_ ++ comma_before i → new ≡ mid ++ decimal n → new ≡ start ++ join_with_byte 44 (map decimal (take (i + 1) ns))
ordinals_more ns i n start at_ mid new lt is = joined_more decimal ns i n start at_ mid new lt (is ∙ get_or_default ns i 0 n lt)
