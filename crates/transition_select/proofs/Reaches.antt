-- How far offers reach: of the first ones, of those behind them, and found from those behind.
use Rattle.std.proofs.Common.{◌≡◌, ◌+◌, ◌<◌, ◌≤◌, ℕ, zero, suc, Bool, true, false, cond, min, nat_lt, List, [], ◌∷◌, length, take, drop, refl, sym, ap, subst, ◌∙◌, arith}
use Rattle.std.specs.List.{prefix_len}
use Rattle.std.proofs.lemmas.Bool.Decides.{nat_tests}
use Rattle.std.proofs.Math.ListN.{set}
use Rattle.std.proofs.lemmas.List.{length-take, drop-set}
use Rattle.std.proofs.lemmas.List.Sums.{prefix_len-le-length}
use Rattle.estelle_tree.specs.Paths.{Path, is_inside}
use Rattle.estelle_model.specs.Attributes.{is_empty}
use Rattle.estelle_model_legality.proofs.Ways.{inside_trans}
use Rattle.transition_select.specs.declared.offers.Offer.{Offer}
use Rattle.transition_select.specs.declared.spans.Span.{Span}
use Rattle.transition_select.specs.Offers.{block_len, first_len, offers_some}
use Rattle.transition_select.specs.Spans.{quiet_len, IsSpan, AreSpans}

-- ---- lists

module _ {A : Type 0} where
  prefix_take : (p : A → Bool) (n : ℕ) (xs : List A) → prefix_len p (take n xs) ≡ min n (prefix_len p xs)
  prefix_take p zero xs = omega arith
  prefix_take p (suc n) [] = omega arith
  prefix_take p (suc n) (x ∷ xs) = by (p x) (prefix_take p n xs)
    where
      by : (b : Bool) → prefix_len p (take n xs) ≡ min n (prefix_len p xs) → cond b (1 + prefix_len p (take n xs)) 0 ≡ min (suc n) (cond b (1 + prefix_len p xs) 0)
      by true e = omega (arith, e)
      by false e = omega arith

  -- what passes the second test passes the first
  passed : (p q : A → Bool) → ((x : A) → q x ≡ true → p x ≡ true) → (xs : List A) → prefix_len p xs ≡ prefix_len q xs + prefix_len p (drop (prefix_len q xs) xs)
  passed p q f [] = refl
  passed p q f (x ∷ xs) = by (q x) refl (passed p q f xs)
    where
      by : (b : Bool) → q x ≡ b → prefix_len p xs ≡ prefix_len q xs + prefix_len p (drop (prefix_len q xs) xs)
          → prefix_len p (x ∷ xs) ≡ cond b (1 + prefix_len q xs) 0 + prefix_len p (drop (cond b (1 + prefix_len q xs) 0) (x ∷ xs))
      by true is e =
          let here : prefix_len p (x ∷ xs) ≡ 1 + prefix_len p xs = ap (λ t. cond t (1 + prefix_len p xs) 0) (f x is) in
          let one : 1 + prefix_len q xs ≡ suc (prefix_len q xs) = omega arith in
          let there : prefix_len p (drop (1 + prefix_len q xs) (x ∷ xs)) ≡ prefix_len p (drop (prefix_len q xs) xs) = ap (λ k. prefix_len p (drop k (x ∷ xs))) one in
          omega (arith, here, there, e)
      by false is e = omega arith

-- ---- offers

pub some_is : (os : List Offer) → nat_lt (quiet_len os) (length os) ≡ offers_some os
some_is [] = refl
some_is (o ∷ os) = by (is_empty o.offered.items) (some_is os)
  where
    by : (b : Bool) → nat_lt (quiet_len os) (length os) ≡ offers_some os → nat_lt (cond b (suc (quiet_len os)) 0) (suc (length os)) ≡ cond b (offers_some os) true
    by true e = grind (arith, nat_tests)
    by false e = grind (arith, nat_tests)

quiet_take : (n : ℕ) (os : List Offer) → quiet_len (take n os) ≡ min n (quiet_len os)
quiet_take zero os = omega arith
quiet_take (suc n) [] = omega arith
quiet_take (suc n) (o ∷ os) = by (is_empty o.offered.items) (quiet_take n os)
  where
    by : (b : Bool) → quiet_len (take n os) ≡ min n (quiet_len os) → cond b (suc (quiet_len (take n os))) 0 ≡ min (suc n) (cond b (suc (quiet_len os)) 0)
    by true e = omega (arith, e)
    by false e = omega arith

quiet_within : (os : List Offer) → quiet_len os ≤ length os
quiet_within [] = omega arith
quiet_within (o ∷ os) = by (is_empty o.offered.items) (quiet_within os)
  where
    by : (b : Bool) → quiet_len os ≤ length os → cond b (suc (quiet_len os)) 0 ≤ suc (length os)
    by true e = omega (arith, e)
    by false e = omega arith

-- a block inside an instance is passed as a whole
block_passed : (m : Path) (o : Offer) (os : List Offer) → is_inside m o.path ≡ true → block_len m (o ∷ os) ≡ first_len (o ∷ os) + block_len m (drop (first_len (o ∷ os)) (o ∷ os))
block_passed m o os is =
    let here : block_len m (o ∷ os) ≡ 1 + block_len m os = ap (λ t. cond t (1 + block_len m os) 0) is in
    let more = passed (λ (p : Offer). is_inside m p.path) (λ (p : Offer). is_inside o.path p.path) (λ p inside. inside_trans m o.path p.path is inside) os in
    omega (arith, here, more)

pub block_on : (m : Path) (rest : List Offer) (o : Offer) (os : List Offer) → rest ≡ o ∷ os → (b : Bool) → b ≡ is_inside m o.path → b ≡ true
    → (n : ℕ) → n ≡ first_len rest → (back : List Offer) → back ≡ drop n rest → block_len m rest ≡ n + block_len m back
block_on m rest o os cut b is passes n len back is_back =
    let e = block_passed m o os (sym is ∙ passes) in
    let whole : block_len m rest ≡ first_len rest + block_len m (drop (first_len rest) rest) = subst (λ (ps : List Offer). block_len m ps ≡ first_len ps + block_len m (drop (first_len ps) ps)) (sym cut) e in
    whole ∙ ap (λ k. k + block_len m (drop k rest)) (sym len) ∙ ap (λ ps. n + block_len m ps) (sym is_back)

-- ---- spans

span_taken : (n : ℕ) (o : Offer) (os : List Offer) (span : Span) → IsSpan (o ∷ os) span → IsSpan (o ∷ take n os) span
span_taken n o os span is =
    let len = length-take n os in
    record {
      block = omega (arith, is.block, len, prefix_take (λ (p : Offer). is_inside o.path p.path) n os);
      quiet = omega (arith, is.quiet, len, quiet_take (suc n) (o ∷ os));
    }

pub spans_taken : (n : ℕ) (os : List Offer) (spans : List Span) → AreSpans os spans → AreSpans (take n os) spans
spans_taken zero os spans are = tt
spans_taken (suc n) [] spans are = tt
spans_taken (suc n) (o ∷ os) [] are = absurd are
spans_taken (suc n) (o ∷ os) (span ∷ spans) are = (span_taken n o os span are.0, spans_taken n os spans are.1)

pub spans_behind : (n : ℕ) (os : List Offer) (spans : List Span) → AreSpans os spans → AreSpans (drop n os) (drop n spans)
spans_behind zero os spans are = are
spans_behind (suc n) [] spans are = tt
spans_behind (suc n) (o ∷ os) [] are = absurd are
spans_behind (suc n) (o ∷ os) (span ∷ spans) are = spans_behind n os spans are.1

pub spans_more : (o : Offer) (os : List Offer) (span : Span) (spans : List Span) → span.block ≡ suc (block_len o.path os) → span.quiet ≡ quiet_len (o ∷ os) → AreSpans os spans → AreSpans (o ∷ os) (span ∷ spans)
spans_more o os span spans block quiet are = (
  record {
    block = omega (arith, block, prefix_len-le-length (λ (p : Offer). is_inside o.path p.path) os);
    quiet = omega (arith, quiet, quiet_within (o ∷ os));
  },
  are,
)

pub quiet_none : (os : List Offer) (spans : List Span) → length spans ≡ 0 → AreSpans os spans → 0 ≡ quiet_len os
quiet_none [] spans e are = refl
quiet_none (o ∷ os) [] e are = absurd are
quiet_none (o ∷ os) (span ∷ spans) e are = absurd (omega (arith, e))

pub quiet_some : (os : List Offer) (spans : List Span) (span : Span) (more : List Span) → spans ≡ span ∷ more → AreSpans os spans → min span.quiet (length os) ≡ quiet_len os
quiet_some [] spans span more e are = omega arith
quiet_some (o ∷ os) spans span more e are =
    let r : AreSpans (o ∷ os) (span ∷ more) = subst (AreSpans (o ∷ os)) e are in
    r.0.quiet

-- ---- on the way

pub spans_on : (n : ℕ) (os : List Offer) (spans : List Span) (others : List Offer) (ahead : List Span) → AreSpans os spans → others ≡ drop n os → ahead ≡ drop n spans → AreSpans others ahead
spans_on n os spans others ahead are is_others is_ahead =
    subst (AreSpans others) (sym is_ahead) (subst (λ ps. AreSpans ps (drop n spans)) (sym is_others) (spans_behind n os spans are))

pub spans_of_block : (n : ℕ) (os : List Offer) (spans : List Span) (block : List Offer) → AreSpans os spans → block ≡ take n os → AreSpans block spans
spans_of_block n os spans block are is_block = subst (λ ps. AreSpans ps spans) (sym is_block) (spans_taken n os spans are)

-- those behind the first one
pub spans_below : (o : Offer) (os : List Offer) (spans ahead : List Span) → AreSpans (o ∷ os) spans → ahead ≡ drop 1 spans → AreSpans os ahead
spans_below o os spans ahead are is_ahead = spans_on 1 (o ∷ os) spans os ahead are refl is_ahead

pub none_spanned : (n : ℕ) (os : List Offer) (spans : List Span) → length os ≤ n → AreSpans (drop n os) spans
none_spanned zero [] spans h = tt
none_spanned zero (o ∷ os) spans h = absurd (omega (arith, h))
none_spanned (suc n) [] spans h = tt
none_spanned (suc n) (o ∷ os) spans h = none_spanned n os spans (omega (arith, h))

behind_first : (n : ℕ) (os : List Offer) (o : Offer) (others : List Offer) → drop n os ≡ o ∷ others → drop (n + 1) os ≡ others
behind_first n os o others e =
    let k : n + 1 ≡ suc n = omega arith in
    ap (λ j. drop j os) k ∙ dropped n os o others e
  where
    dropped : (n : ℕ) (os : List Offer) (o : Offer) (others : List Offer) → drop n os ≡ o ∷ others → drop (suc n) os ≡ others
    dropped zero [] o others e = absurd (cc)
    dropped zero (p ∷ os) o others e = cc
    dropped (suc n) [] o others e = absurd (cc)
    dropped (suc n) (p ∷ os) o others e = dropped n os o others e

pub others_spanned : (at : ℕ) (os : List Offer) (o : Offer) (others from : List Offer) → from ≡ drop at os → from ≡ o ∷ others → (spans ahead : List Span) → AreSpans (drop (at + 1) os) (drop (at + 1) spans) → ahead ≡ drop (at + 1) spans → AreSpans others ahead
others_spanned at os o others from is_from cut spans ahead are is_ahead =
    subst (AreSpans others) (sym is_ahead) (subst (λ ps. AreSpans ps (drop (at + 1) spans)) (behind_first at os o others (sym is_from ∙ cut)) are)

pub span_put : (at : ℕ) (os : List Offer) (o : Offer) (others from : List Offer) → from ≡ drop at os → from ≡ o ∷ others → (span : Span) (spans new : List Span) → at < length spans → AreSpans (drop (at + 1) os) (drop (at + 1) spans)
    → span.block ≡ suc (block_len o.path others) → span.quiet ≡ quiet_len (o ∷ others) → new ≡ set spans at span → AreSpans (drop at os) (drop at new)
span_put at os o others from is_from cut span spans new within are block quiet is_new =
    let behind = subst (λ ps. AreSpans ps (drop (at + 1) spans)) (behind_first at os o others (sym is_from ∙ cut)) are in
    let all = spans_more o others span (drop (at + 1) spans) block quiet behind in
    let put = drop-set spans at span within in
    subst (λ ps. AreSpans ps (drop at new)) (sym cut ∙ is_from) (subst (AreSpans (o ∷ others)) (sym (ap (drop at) is_new ∙ put)) all)
