-- What stands at a place of a text.
use Rattle.std.proofs.Common.{◌≡◌, ℕ, suc, ◌+◌, ◌-◌, ◌<◌, ◌≤◌, Bool, true, false, List, [], ◌∷◌, ◌++◌, length, take, drop, get_or, ap, ◌∙◌, sym, refl, arith, length-append, length-drop, add-one, drop-cons, nat_eq, MatchBool, inl, inr, ◌⊎◌}
use lib.Pointwise.{pointwise}
use Rattle.std.proofs.lemmas.Slice.Eq.{starts_is}
use Rattle.std.proofs.lemmas.Bool.{false≢true}
use Rattle.std.proofs.lemmas.Bool.Decides.{Decides-eqb}
use Rattle.std.proofs.lemmas.List.{take_all, drop-drop}
use Rattle.pascal_values.specs.Texts.{is_printable}
use Rattle.pascal_values.specs.Steps.{Stands, StandsWord, NoWord, IsPlain, StandsQuoted, NoQuoted}
use Rattle.pascal_values.proofs.Decimals.{heads, tails}

pub drop_plus : (i j : ℕ) (ns : List ℕ) → drop j (drop i ns) ≡ drop (i + j) ns
drop_plus i j ns = drop-drop j i ns

pub stands_here : (bytes : List ℕ) (at_ c : ℕ) → at_ < length bytes → get_or bytes at_ 0 ≡ c → Stands bytes at_ c
stands_here bytes at_ c lt e = record { within = lt; is = rw add-one (drop-cons bytes at_ 0 lt ∙ ap (λ x. x ∷ drop (suc at_) bytes) e) }

pub follows_is : (bytes : List ℕ) (at_ : ℕ) (word part : List ℕ) (r : Bool) → at_ ≤ length bytes → part ≡ drop at_ bytes → r ≡ pointwise nat_eq word (take (length word) part) → MatchBool r (StandsWord bytes at_ word) (NoWord bytes at_ word)
follows_is bytes at_ word part r le same is = by_result r is
  where
    by_result : (b : Bool) → b ≡ pointwise nat_eq word (take (length word) part) → MatchBool b (StandsWord bytes at_ word) (NoWord bytes at_ word)
    by_result true e =
        let s = starts_is Decides-eqb part word true e in
        let i : drop at_ bytes ≡ word ++ drop (length word) (drop at_ bytes) = rw same at (s.0 refl) in
        record { within = omega (arith, ap length i, length-append word (drop (length word) (drop at_ bytes)), length-drop at_ bytes); is = i ∙ ap (λ t. word ++ t) (drop_plus at_ (length word) bytes) }
    by_result false e = λ rest i.
        let t : false ≡ true = (starts_is Decides-eqb part word false e).1 rest (same ∙ i) in
        false≢true t

pub follows_here : (bytes : List ℕ) (at_ : ℕ) (word : List ℕ) (r : Bool) → at_ ≤ length bytes → r ≡ pointwise nat_eq word (take (length word) (take (length bytes - at_) (drop at_ bytes))) → MatchBool r (StandsWord bytes at_ word) (NoWord bytes at_ word)
follows_here bytes at_ word r le is = follows_is bytes at_ word (take (length bytes - at_) (drop at_ bytes)) r le (take_all (length bytes - at_) (drop at_ bytes) (omega (arith, length-drop at_ bytes))) is

module _ (bytes : List ℕ) (at_ c : ℕ) (quote : Stands bytes at_ 39) (byte : Stands bytes (at_ + 1) c) where
  two : drop at_ bytes ≡ 39 ∷ c ∷ drop (at_ + 2) bytes
  two = quote.is ∙ ap (λ t. 39 ∷ t) (byte.is ∙ ap (λ k. c ∷ drop k bytes) (omega arith))

  -- the second byte is known
  second : (d : ℕ) (rest : List ℕ) → drop at_ bytes ≡ 39 ∷ d ∷ 39 ∷ rest → (c ≡ d) × (drop (at_ + 2) bytes ≡ 39 ∷ rest)
  second d rest e =
      let t : c ∷ drop (at_ + 2) bytes ≡ d ∷ 39 ∷ rest = tails 39 39 (c ∷ drop (at_ + 2) bytes) (d ∷ 39 ∷ rest) (sym two ∙ e) in
      (heads c d (drop (at_ + 2) bytes) (39 ∷ rest) t, tails c d (drop (at_ + 2) bytes) (39 ∷ rest) t)

  pub not_plain : (c ≡ 39) ⊎ (is_printable c ≡ false) → NoQuoted bytes at_
  not_plain (inl is) d rest plain e = plain.0 (sym (second d rest e).0 ∙ is)
  not_plain (inr is) d rest plain e = false≢true (sym is ∙ (ap is_printable (second d rest e).0 ∙ plain.1))

  pub not_closed : NoWord bytes (at_ + 2) (39 ∷ []) → NoQuoted bytes at_
  not_closed none d rest plain e = none rest (second d rest e).1

  pub closed_quote : IsPlain c → StandsWord bytes (at_ + 2) (39 ∷ []) → StandsQuoted bytes at_ c
  closed_quote plain w = record {
    plain = plain;
    within = let l = w.within in omega (arith, l);
    is = two ∙ ap (λ t. 39 ∷ c ∷ t) (w.is ∙ ap (λ k. 39 ∷ drop k bytes) (omega arith));
  }

-- the text ends behind the quote
pub no_byte : (bytes : List ℕ) (at_ : ℕ) → Stands bytes at_ 39 → drop (at_ + 1) bytes ≡ [] → NoQuoted bytes at_
no_byte bytes at_ quote none d rest plain e = let t : [] ≡ d ∷ 39 ∷ rest = sym none ∙ tails 39 39 (drop (at_ + 1) bytes) (d ∷ 39 ∷ rest) (sym quote.is ∙ e) in cc
