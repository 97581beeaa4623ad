-- Texts of a list's items with commas between them, before a bracket that closes.
use Rattle.std.proofs.Common.{◌≡◌, ℕ, ◌<◌, ◌≤◌, List, [], ◌∷◌, ◌++◌, true, false, map, length, inl, inr, ◌⊎◌, ap, subst, ◌∙◌, sym, refl, arith, append_assoc, drop, length-append}
use Rattle.std.specs.List.{join_with_byte, AllByRecursion}
use Rattle.pascal_values.specs.Texts.{NoDigit}
use Rattle.pascal_values.specs.Steps.{listed, IsItem, NoItem, IsItems, NoItems}

module _ {X : Type 0} (f : X → List ℕ) (P : X → Type 0) (close : ℕ) where
  pub join-listed : (x : X) (xs : List X) (q : List ℕ) → join_with_byte 44 (map f (x ∷ xs)) ++ close ∷ q ≡ f x ++ listed f close xs q
  join-listed x [] q = refl
  join-listed x (y ∷ ys) q = append_assoc (f x) (44 ∷ join_with_byte 44 (map f (y ∷ ys))) (close ∷ q) ∙ ap (λ t. f x ++ (44 ∷ t)) (join-listed y ys q)

  pub listed_ends : (57 < close) ⊎ (close < 44) → (xs : List X) (q : List ℕ) → NoDigit (listed f close xs q)
  listed_ends (inl high) [] q = inr high
  listed_ends (inr low) [] q = inl (omega arith)
  listed_ends out (y ∷ ys) q = inl (omega arith)

  -- an item that must be the one that stands here
  abbrev pub IsOnly : List ℕ → X → List ℕ → Type 0
  IsOnly s x r = (y : X) (t : List ℕ) → P y → NoDigit t → s ≡ f y ++ t → (x ≡ y) × (r ≡ t)

  module _ (out : (57 < close) ⊎ (close < 44)) (apart : (x y : X) (r s : List ℕ) → P x → P y → NoDigit r → NoDigit s → f x ++ r ≡ f y ++ s → (x ≡ y) × (r ≡ s)) where
    pub listed_apart : (xs ys : List X) (r s : List ℕ) → AllByRecursion P xs → AllByRecursion P ys → listed f close xs r ≡ listed f close ys s → (xs ≡ ys) × (r ≡ s)
    listed_apart [] [] r s p q e = (refl, cc)
    listed_apart [] (y ∷ ys) r s p q e = let h : close ≡ 44 = cc in elim out [ inl high ↦ absurd (omega arith) | inr low ↦ absurd (omega arith) ]
    listed_apart (x ∷ xs) [] r s p q e = let h : 44 ≡ close = cc in elim out [ inl high ↦ absurd (omega arith) | inr low ↦ absurd (omega arith) ]
    listed_apart (x ∷ xs) (y ∷ ys) r s p q e =
        let tail : f x ++ listed f close xs r ≡ f y ++ listed f close ys s = cc in
        let a = apart x y (listed f close xs r) (listed f close ys s) p.0 q.0 (listed_ends out xs r) (listed_ends out ys s) tail in
        let l = listed_apart xs ys r s p.1 q.1 a.1 in
        (ap (λ z. z ∷ xs) a.0 ∙ ap (λ zs. y ∷ zs) l.0, l.1)

    pub joins_apart : (x : X) (xs : List X) (y : X) (ys : List X) (r s : List ℕ) → AllByRecursion P (x ∷ xs) → AllByRecursion P (y ∷ ys) → join_with_byte 44 (map f (x ∷ xs)) ++ close ∷ r ≡ join_with_byte 44 (map f (y ∷ ys)) ++ close ∷ s → (x ∷ xs ≡ y ∷ ys) × (r ≡ s)
    joins_apart x xs y ys r s p q e = listed_apart (x ∷ xs) (y ∷ ys) r s p q (ap (λ t. 44 ∷ t) (sym (join-listed x xs r) ∙ (e ∙ join-listed y ys s)))

  -- ---- reading item after item

  -- the items that were read, each with a comma behind it
  abbrev pub lead : List X → List ℕ → List ℕ
  lead [] t = t
  lead (x ∷ xs) t = f x ++ (44 ∷ lead xs t)

  pub lead-push : (xs : List X) (v : X) (t : List ℕ) → lead (xs ++ v ∷ []) t ≡ lead xs (f v ++ (44 ∷ t))
  lead-push [] v t = refl
  lead-push (x ∷ xs) v t = ap (λ l. f x ++ (44 ∷ l)) (lead-push xs v t)

  pub lead-close : (xs : List X) (v : X) (q : List ℕ) → lead xs (f v ++ close ∷ q) ≡ join_with_byte 44 (map f (xs ++ v ∷ [])) ++ close ∷ q
  lead-close [] v q = refl
  lead-close (x ∷ []) v q = sym (append_assoc (f x) (44 ∷ f v) (close ∷ q))
  lead-close (x ∷ y ∷ xs) v q = ap (λ l. f x ++ (44 ∷ l)) (lead-close (y ∷ xs) v q) ∙ sym (append_assoc (f x) (44 ∷ join_with_byte 44 (map f (y ∷ (xs ++ v ∷ [])))) (close ∷ q))

  -- a list that stands after the bracket goes on, behind the items that were read, with one that stands here
  pub record GoesOn (ys xs : List X) (s q : List ℕ) : Type 0 where
    pub next : X
    pub others : List X
    pub is : ys ≡ xs ++ next ∷ others
    pub has : AllByRecursion P (next ∷ others)
    pub stands : s ≡ f next ++ listed f close others q

  abbrev pub AllGoOn : List ℕ → List X → List ℕ → Type 0
  AllGoOn start xs s = (ys : List X) (q : List ℕ) → AllByRecursion P ys → 0 < length ys → start ≡ join_with_byte 44 (map f ys) ++ close ∷ q → GoesOn ys xs s q

  pub go_on_first : (start : List ℕ) → AllGoOn start [] start
  go_on_first start [] q p lt e = absurd (omega arith)
  go_on_first start (y ∷ ys) q p lt e = record { next = y; others = ys; is = refl; has = p; stands = e ∙ join-listed y ys q }

  module _ (out : (57 < close) ⊎ (close < 44)) where
    pub go_on_next : (start : List ℕ) (xs : List X) (s : List ℕ) (v : X) (r : List ℕ) → AllGoOn start xs s → IsOnly s v (44 ∷ r) → AllGoOn start (xs ++ v ∷ []) r
    go_on_next start xs s v r all only ys q p lt e =
        let g = all ys q p lt e in
        let o = only g.next (listed f close g.others q) g.has.0 (listed_ends out g.others q) g.stands in
        more g.next g.others g.is g.has o.0 o.1
      where
        more : (y : X) (zs : List X) → ys ≡ xs ++ y ∷ zs → AllByRecursion P (y ∷ zs) → v ≡ y → 44 ∷ r ≡ listed f close zs q → GoesOn ys (xs ++ v ∷ []) r q
        more y [] is has same e' = let h : 44 ≡ close = cc in elim out [ inl high ↦ absurd (omega arith) | inr low ↦ absurd (omega arith) ]
        more y (z ∷ zs) is has same e' = record {
          next = z;
          others = zs;
          is = is ∙ (ap (λ w. xs ++ w ∷ z ∷ zs) (sym same) ∙ sym (append_assoc xs (v ∷ []) (z ∷ zs)));
          has = has.1;
          stands = cc;
        }

    -- the list that is read, where the bracket closes
    pub go_on_last : (start : List ℕ) (xs : List X) (s : List ℕ) (v : X) (r : List ℕ) → AllGoOn start xs s → IsOnly s v (close ∷ r) → (ys : List X) (q : List ℕ) → AllByRecursion P ys → 0 < length ys → start ≡ join_with_byte 44 (map f ys) ++ close ∷ q → (xs ++ v ∷ [] ≡ ys) × (r ≡ q)
    go_on_last start xs s v r all only ys q p lt e =
        let g = all ys q p lt e in
        let o = only g.next (listed f close g.others q) g.has.0 (listed_ends out g.others q) g.stands in
        last g.next g.others g.is o.0 o.1
      where
        last : (y : X) (zs : List X) → ys ≡ xs ++ y ∷ zs → v ≡ y → close ∷ r ≡ listed f close zs q → (xs ++ v ∷ [] ≡ ys) × (r ≡ q)
        last y [] is same e' = (ap (λ w. xs ++ w ∷ []) same ∙ sym is, cc)
        last y (z ∷ zs) is same e' = let h : close ≡ 44 = cc in elim out [ inl high ↦ absurd (omega arith) | inr low ↦ absurd (omega arith) ]

-- a list with one more item at its end
pub all_push : {X : Type 0} (P : X → Type 0) (xs : List X) (x : X) → AllByRecursion P xs → P x → AllByRecursion P (xs ++ x ∷ [])
all_push P [] x p q = (q, tt)
all_push P (y ∷ xs) x p q = (p.0, all_push P xs x p.1 q)

module _ {X : Type 0} (f : X → List ℕ) (P : X → Type 0) (close : ℕ) (bytes : List ℕ) (start : ℕ) (xs : List X) (place : ℕ) where
  -- what a loop that reads item after item keeps
  pub record IsRead : Type 0 where
    pub form : AllByRecursion P xs
    pub goes : start ≤ place
    pub is : drop start bytes ≡ lead f P close xs (drop place bytes)
    pub all : AllGoOn f P close (drop start bytes) xs (drop place bytes)

pub read_none : {X : Type 0} (f : X → List ℕ) (P : X → Type 0) (close : ℕ) (bytes : List ℕ) (start : ℕ) (xs : List X) → xs ≡ [] → IsRead f P close bytes start xs start
read_none f P close bytes start xs e = subst (λ ys. IsRead f P close bytes start ys start) (sym e) (record { form = tt; goes = omega arith; is = refl; all = go_on_first f P close (drop start bytes) })

module _ {X : Type 0} (f : X → List ℕ) (P : X → Type 0) (close : ℕ) (out : (57 < close) ⊎ (close < 44)) (bytes : List ℕ) (start : ℕ) (xs : List X) (place : ℕ) (read : IsRead f P close bytes start xs place) where
  pub read_more : (v : X) (next : ℕ) (new : List X) → IsItem f P close bytes place v next false → new ≡ xs ++ v ∷ [] → IsRead f P close bytes start new next
  read_more v next new item e = subst (λ ys. IsRead f P close bytes start ys next) (sym e) (record {
    form = all_push P xs v read.form item.form;
    goes = omega (arith, read.goes, item.goes);
    is = read.is ∙ (ap (lead f P close xs) item.is ∙ sym (lead-push f P close xs v (drop next bytes)));
    all = go_on_next f P close out (drop start bytes) xs (drop place bytes) v (drop next bytes) read.all item.only;
  })

  pub read_last : (v : X) (next : ℕ) (new : List X) → IsItem f P close bytes place v next true → new ≡ xs ++ v ∷ [] → IsItems f P close bytes start new next
  read_last v next new item e = subst (λ ys. IsItems f P close bytes start ys next) (sym e) (record {
    form = all_push P xs v read.form item.form;
    some = omega (arith, length-append xs (v ∷ []));
    goes = omega (arith, read.goes, item.goes);
    within = item.within;
    is = read.is ∙ (ap (lead f P close xs) item.is ∙ lead-close f P close xs v (drop next bytes));
  })

  pub read_fails : NoItem f P close (drop place bytes) → NoItems f P close (drop start bytes)
  read_fails none ys q p lt e = let g = read.all ys q p lt e in none g.next g.others q g.has.0 g.stands
