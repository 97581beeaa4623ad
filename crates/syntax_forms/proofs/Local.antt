-- A list of tokens up to a place: what stands before that place stands there too.
use Rattle.std.specs.Prelude.{◌==◌, if◌then◌else◌}
use Rattle.std.proofs.lemmas.Bool.{eq-eqb, ne_eqb, eqb-true, eqb-false}
use Rattle.std.proofs.lemmas.List.{length-take-le}
use Rattle.std.proofs.Common.{◌≡◌, ◌<◌, ◌≤◌, ◌-◌, ℕ, zero, suc, Bool, true, false, List, [], ◌∷◌, length, take, sym, refl, ap, ◌∙◌, subst, arith}
use Rattle.estelle_tree.specs.declared.kind.Kind.{Kind}
use Rattle.estelle_tree.specs.declared.kind.Kind.TheVariants as k
use Rattle.estelle_tree.specs.declared.token.Placed.{Placed}
use Rattle.estelle_tree.specs.Input.{Input, input, skip, kind, next, left, start, token_at, between, over, first_kind, first_token, first_start, after_first}
use Rattle.estelle_tree.specs.Spelling.{Takes}
use Rattle.estelle_tree.specs.Spans.{nowhere}
use Rattle.token_reader.proofs.Complete.{empty_kind, next_left, next_left_more}
use Rattle.syntax_forms.specs.Places.{Reach}

-- the tokens from here to there, and no more
abbrev pub upto : Input → Input → Input
upto c i = input (take (left i - left c) i.tokens) i.end

pub reach_left : (i c : Input) → Reach i c → left c ≤ left i
reach_left i c r = go r.0 i r.1
  where
    go : (n : ℕ) (i : Input) → skip n i ≡ c → left c ≤ left i
    go zero i e = rw (sym e) (omega arith)
    go (suc n) i e = let less = go n (next i) e in let one = next_left i in omega arith

module _ (c : Input) where
  -- what comes at a place before it
  cut_off : {A : Type 0} (f : ℕ → List Placed → A) (end : ℕ) (ps : List Placed) (n : ℕ) → n < length ps → ((p : Placed) (qs rs : List Placed) → f end (p ∷ qs) ≡ f end (p ∷ rs)) → f end (take (length ps - n) ps) ≡ f end ps
  cut_off f end [] n less same = absurd (omega arith)
  cut_off f end (p ∷ ps) n less same = let e : suc (length ps) - n ≡ suc (length ps - n) = omega arith in rw e (same p _ ps)

  pub upto_kind : (i : Input) → left c < left i → kind (upto c i) ≡ kind i
  unfolding kind left
  upto_kind i less = cut_off (λ end ps. first_kind ps) i.end i.tokens (length c.tokens) less (λ p qs rs. refl)

  pub upto_token : (i : Input) → left c < left i → token_at (upto c i) ≡ token_at i
  unfolding token_at left
  upto_token i less = cut_off (λ end ps. first_token ps) i.end i.tokens (length c.tokens) less (λ p qs rs. refl)

  pub upto_start : (i : Input) → left c < left i → start (upto c i) ≡ start i
  unfolding start left
  upto_start i less = cut_off first_start i.end i.tokens (length c.tokens) less (λ p qs rs. refl)

  pub upto_next : (i : Input) → left c < left i → next (upto c i) ≡ upto c (next i)
  unfolding next left
  upto_next i less = go i.end i.tokens less
    where
      go : (end : ℕ) (ps : List Placed) → length c.tokens < length ps → after_first end (take (length ps - length c.tokens) ps) ≡ input (take (length (after_first end ps).tokens - length c.tokens) (after_first end ps).tokens) (after_first end ps).end
      go end [] less = absurd (omega arith)
      go end (p ∷ ps) less = let e : suc (length ps) - length c.tokens ≡ suc (length ps - length c.tokens) = omega arith in rw e refl

  pub upto_span : (i m : Input) → left c < left i → between (upto c i) (upto c m) ≡ between i m
  unfolding between
  upto_span i m less = ap (λ s. record { start = s; end = m.end }) (upto_start i less)

  -- a token that comes before it
  pub before : (kind' : Kind) (i m : Input) → (k.Nothing ≡ kind' → ⊥) → Takes kind' i m → Reach m c → left c < left i
  before kind' i m is_token t r =
      let one = reach_left m c r in
      let two : left m < left i = subst (λ j. left j < left i) t.next (next_left_more i (λ e. is_token (sym e ∙ t.kind))) in
      omega arith

  pub upto_takes : (kind' : Kind) (i m : Input) → (k.Nothing ≡ kind' → ⊥) → Takes kind' i m → Reach m c → Takes kind' (upto c i) (upto c m)
  upto_takes kind' i m is_token t r =
      let less = before kind' i m is_token t r in
      record { kind = upto_kind i less ∙ t.kind; next = upto_next i less ∙ ap (upto c) t.next }

pub upto_end : (i : Input) → kind (upto i i) ≡ k.Nothing
unfolding kind left
upto_end i = let e : length i.tokens - length i.tokens ≡ 0 = omega arith in rw e refl

pub upto_left : (c i : Input) → left c ≤ left i → left (upto c i) ≡ left i - left c
unfolding left
upto_left c i le = length-take-le (length i.tokens - length c.tokens) i.tokens (omega arith)

pub upto_over : (c i m : Input) → Reach i m → Reach m c → over (upto c i) (upto c m) ≡ over i m
unfolding over
upto_over c i m r q = by (left i == left m) refl
  where
    inside : left m ≤ left i
    inside = reach_left i m r

    more : left c ≤ left m
    more = reach_left m c q

    one : left (upto c i) ≡ left i - left c
    one = upto_left c i (omega (arith, inside, more))

    two : left (upto c m) ≡ left m - left c
    two = upto_left c m more

    by : (b : Bool) → (left i == left m) ≡ b → (if left (upto c i) == left (upto c m) then nowhere else between (upto c i) (upto c m)) ≡ (if left i == left m then nowhere else between i m)
    by true e = let same : left i ≡ left m = eqb-true (left i) (left m) e in let there : (left (upto c i) == left (upto c m)) ≡ true = eq-eqb (left (upto c i)) (left (upto c m)) (one ∙ (ap (λ n. n - left c) same ∙ sym two)) in rw (e, there) refl
    by false e =
        let differ : left i ≡ left m → ⊥ = eqb-false (left i) (left m) e in
        let there : (left (upto c i) == left (upto c m)) ≡ false = ne_eqb (left (upto c i)) (left (upto c m)) (λ s. differ (omega (arith, s, one, two, inside, more))) in
        let less : left c < left i = omega (arith, inside, more) in
        rw (e, there) (upto_span c i m less)

-- what ends at a place ends at the end of the tokens before it
pub ends_upto : (on : Kind → Bool) → on k.Nothing ≡ false → (c m : Input) → Reach m c → on (kind m) ≡ false → on (kind (upto c m)) ≡ false
ends_upto on none c m r end = by (left m == left c) refl
  where
    le : left c ≤ left m
    le = reach_left m c r

    by : (b : Bool) → (left m == left c) ≡ b → on (kind (upto c m)) ≡ false
    by true e = let same : left m ≡ left c = eqb-true (left m) (left c) e in let count = upto_left c m le in ap on (empty_kind (upto c m) (omega (arith, same, count))) ∙ none
    by false e = let differ : left m ≡ left c → ⊥ = eqb-false (left m) (left c) e in ap on (upto_kind c m (omega (arith, le, differ))) ∙ end
