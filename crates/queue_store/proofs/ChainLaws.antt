-- Laws of chains: what a change of one slot leaves of the others.
use Rattle.std.proofs.Common.{◌≡◌, ◌≢◌, ℕ, zero, suc, ◌+◌, ◌-◌, ◌<◌, ◌≤◌, Bool, true, false, cond, eqb, List, [], ◌∷◌, ◌++◌, length, Option, Some, None, is_some, refl, sym, ap, ◌∙◌, inl, inr, arith, sum_by, count_by}
use Rattle.std.specs.Prelude.{nat_eq, map as each, if◌then◌else◌}
use Rattle.std.proofs.lemmas.Bool.{cases_eq}
use Rattle.std.proofs.lemmas.Bool.Decides.{nat_tests}
use Rattle.std.proofs.lemmas.List.Sums.{sum_by-cons, sum_by-append, sum_by_push}
use Rattle.queue_store.specs.declared.chain.Chain.{Chain}
use Rattle.queue_store.specs.Chains.{slots_from, end_from, slots, held, with_load, times, times_in, Ends, AllEnd, Sound}

abbrev bit : Bool → ℕ
bit b = cond b 1 0

times-cons : (k j : ℕ) (ks : List ℕ) → times k (j ∷ ks) ≡ cond (nat_eq j k) 1 0 + times k ks
times-cons k j ks = sum_by-cons (λ i. cond (nat_eq i k) 1 0) j ks

pub times-here : (k : ℕ) (ks : List ℕ) → times k (k ∷ ks) ≡ 1 + times k ks
times-here k ks = grind (arith, nat_tests, times-cons k k ks)

times-other : (k j : ℕ) (ks : List ℕ) → j ≢ k → times k (j ∷ ks) ≡ times k ks
times-other k j ks ne = grind (arith, nat_tests, times-cons k j ks)

times-push : (k j : ℕ) (ks : List ℕ) → times k (ks ++ j ∷ []) ≡ times k ks + cond (nat_eq j k) 1 0
times-push k j ks = sum_by_push (λ i. cond (nat_eq i k) 1 0) ks j

pub times-below : (k j : ℕ) (ks : List ℕ) → times k ks ≤ times k (j ∷ ks)
times-below k j ks = omega (arith, times-cons k j ks)

times-end : (next : ℕ → ℕ) (n k : ℕ) → 0 < times (end_from next n k) (slots_from next (suc n) k)
times-end next zero k = omega (arith, times-here k [])
times-end next (suc n) k =
    omega (arith, times-end next n (next k), times-below (end_from next (suc n) k) k (slots_from next (suc n) (next k)))

pub length-slots_from : (next : ℕ → ℕ) (n k : ℕ) → length (slots_from next n k) ≡ n
length-slots_from next zero k = refl
length-slots_from next (suc n) k = ap suc (length-slots_from next n (next k))

-- links that agree at the slots of a chain have the same chain
pub slots_same : (next other : ℕ → ℕ) (n k : ℕ) → ((j : ℕ) → 0 < times j (slots_from next n k) → other j ≡ next j) → slots_from other n k ≡ slots_from next n k
slots_same next other zero k agree = refl
slots_same next other (suc n) k agree =
    let rest = slots_from next n (next k) in
    let here : other k ≡ next k = agree k (omega (arith, times-here k rest)) in
    rw here (ap (λ ks. k ∷ ks) (slots_same next other n (next k) (λ j p. agree j (omega (arith, p, times-below j k rest)))))

pub end_same : (next other : ℕ → ℕ) (n k : ℕ) → ((j : ℕ) → 0 < times j (slots_from next (suc n) k) → other j ≡ next j) → end_from other n k ≡ end_from next n k
end_same next other zero k agree = refl
end_same next other (suc n) k agree =
    let rest = slots_from next (suc n) (next k) in
    let here : other k ≡ next k = agree k (omega (arith, times-here k rest)) in
    rw here (end_same next other n (next k) (λ j p. agree j (omega (arith, p, times-below j k rest))))

-- a chain with one more slot at its end
pub slots_grown : (next other : ℕ → ℕ) (n k new : ℕ) → let last = end_from next n k in
    other last ≡ new → ((j : ℕ) → j ≢ last → other j ≡ next j) → times last (slots_from next (suc n) k) ≤ 1
    → (slots_from other (suc (suc n)) k ≡ slots_from next (suc n) k ++ new ∷ []) × (end_from other (suc n) k ≡ new)
slots_grown next other zero k new link links once = rw link (refl, refl)
slots_grown next other (suc n) k new link links once =
    let last = end_from next n (next k) in
    let rest = slots_from next (suc n) (next k) in
    let inner = times-end next n (next k) in
    let ne : k ≢ last = λ e. grind (arith, once, inner, e, times-here last rest) in
    let here : other k ≡ next k = links k ne in
    let later = slots_grown next other n (next k) new link links (omega (arith, once, times-below last k rest)) in
    rw here (ap (λ ks. k ∷ ks) later.0, later.1)

module _ {X : Type 0} where
  pub held_same : (load other : ℕ → Option X) (ks : List ℕ) → ((j : ℕ) → 0 < times j ks → other j ≡ load j) → held other ks ≡ held load ks
  held_same load other [] agree = refl
  held_same load other (k ∷ ks) agree =
      let here : other k ≡ load k = agree k (omega (arith, times-here k ks)) in
      rw (here, held_same load other ks (λ j p. agree j (omega (arith, p, times-below j k ks)))) refl

  with_load-append : (o : Option X) (xs ys : List X) → with_load o xs ++ ys ≡ with_load o (xs ++ ys)
  with_load-append None xs ys = refl
  with_load-append (Some x) xs ys = refl

  pub held-append : (load : ℕ → Option X) (ks js : List ℕ) → held load (ks ++ js) ≡ held load ks ++ held load js
  held-append load [] js = refl
  held-append load (k ∷ ks) js = rw (held-append load ks js) (sym (with_load-append (load k) (held load ks) (held load js)))

  pub length-with_load : (o : Option X) (xs : List X) → is_some o ≡ true → length (with_load o xs) ≡ suc (length xs)
  length-with_load None xs p = absurd (cc)
  length-with_load (Some x) xs p = refl

  pub length-held : (load : ℕ → Option X) (ks : List ℕ) → ((j : ℕ) → 0 < times j ks → is_some (load j) ≡ true) → length (held load ks) ≡ length ks
  length-held load [] filled = refl
  length-held load (k ∷ ks) filled =
      length-with_load (load k) (held load ks) (filled k (omega (arith, times-here k ks)))
      ∙ ap suc (length-held load ks (λ j p. filled j (omega (arith, p, times-below j k ks))))

pub times_in-cons : (next : ℕ → ℕ) (c : Chain) (cs : List Chain) (k : ℕ) → times_in next (c ∷ cs) k ≡ times k (slots next c) + times_in next cs k
times_in-cons next c cs k = sum_by-cons (λ d. times k (slots next d)) c cs

pub times_in-append : (next : ℕ → ℕ) (cs ds : List Chain) (k : ℕ) → times_in next (cs ++ ds) k ≡ times_in next cs k + times_in next ds k
times_in-append next cs ds k = sum_by-append (λ d. times k (slots next d)) cs ds

pub AllEnd-append : (next : ℕ → ℕ) (cs ds : List Chain) → AllEnd next cs → AllEnd next ds → AllEnd next (cs ++ ds)
AllEnd-append next [] ds p q = q
AllEnd-append next (c ∷ cs) ds p q = (p.0, AllEnd-append next cs ds p.1 q)

pub AllEnd-front : (next : ℕ → ℕ) (cs ds : List Chain) → AllEnd next (cs ++ ds) → AllEnd next cs
AllEnd-front next [] ds p = tt
AllEnd-front next (c ∷ cs) ds p = (p.0, AllEnd-front next cs ds p.1)

pub AllEnd-back : (next : ℕ → ℕ) (cs ds : List Chain) → AllEnd next (cs ++ ds) → AllEnd next ds
AllEnd-back next [] ds p = p
AllEnd-back next (c ∷ cs) ds p = AllEnd-back next cs ds p.1

-- links that agree at the slots of chains leave them
pub record Agrees (next other : ℕ → ℕ) (cs : List Chain) : Type 0 where
  pub at : (j : ℕ) → 0 < times_in next cs j → other j ≡ next j

Agrees-head : (next other : ℕ → ℕ) (c : Chain) (cs : List Chain) → Agrees next other (c ∷ cs) → (j : ℕ) → 0 < times j (slots next c) → other j ≡ next j
Agrees-head next other c cs agree j p = agree.at j (omega (arith, p, times_in-cons next c cs j))

Agrees-tail : (next other : ℕ → ℕ) (c : Chain) (cs : List Chain) → Agrees next other (c ∷ cs) → Agrees next other cs
Agrees-tail next other c cs agree = record { at = λ j p. agree.at j (omega (arith, p, times_in-cons next c cs j)) }

pub times_in_same : (next other : ℕ → ℕ) (cs : List Chain) → Agrees next other cs → (k : ℕ) → times_in other cs k ≡ times_in next cs k
times_in_same next other [] agree k = refl
times_in_same next other (c ∷ cs) agree k =
    let head = slots_same next other c.len c.first (Agrees-head next other c cs agree) in
    let rest = times_in_same next other cs (Agrees-tail next other c cs agree) k in
    omega (arith, rest, ap (times k) head, times_in-cons next c cs k, times_in-cons other c cs k)

Ends_same : (next other : ℕ → ℕ) (c : Chain) → ((j : ℕ) → 0 < times j (slots next c) → other j ≡ next j) → Ends next c → Ends other c
Ends_same next other c agree ends = by c.len refl agree ends
  where
    by : (n : ℕ) → c.len ≡ n → ((j : ℕ) → 0 < times j (slots_from next n c.first) → other j ≡ next j) → (0 < n → end_from next (n - 1) c.first ≡ c.last) → 0 < n → end_from other (n - 1) c.first ≡ c.last
    by zero e a p lt = absurd (omega (arith, lt))
    by (suc n) e a p lt =
        let less : suc n - 1 ≡ n = omega arith in
        let was : end_from next n c.first ≡ c.last = rw less at (p lt) in
        rw less (end_same next other n c.first a ∙ was)

pub AllEnd_same : (next other : ℕ → ℕ) (cs : List Chain) → Agrees next other cs → AllEnd next cs → AllEnd other cs
AllEnd_same next other [] agree p = tt
AllEnd_same next other (c ∷ cs) agree p =
    (Ends_same next other c (Agrees-head next other c cs agree) p.0, AllEnd_same next other cs (Agrees-tail next other c cs agree) p.1)

module _ {X E Y : Type 0} (chain : E → Chain) (build : E → List X → Y) where
  -- what each of these owners of a chain is seen as
  abbrev pub seen : (ℕ → Option X) → (ℕ → ℕ) → List E → List Y
  seen load next = each (λ e. build e (held load (slots next (chain e))))

  -- what is not touched is seen as before
  pub seen_same : (load load' : ℕ → Option X) (next next' : ℕ → ℕ) (es : List E) → Agrees next next' (each chain es)
      → ((j : ℕ) → 0 < times_in next (each chain es) j → load' j ≡ load j) → seen load' next' es ≡ seen load next es
  seen_same load load' next next' [] agree loads = refl
  seen_same load load' next next' (e ∷ es) agree loads =
      let c = chain e in
      let cs = each chain es in
      let links = slots_same next next' c.len c.first (Agrees-head next next' c cs agree) in
      let here : held load' (slots next' c) ≡ held load (slots next c) =
      ap (held load') links ∙ held_same load load' (slots next c) (λ j p. loads j (omega (arith, p, times_in-cons next c cs j))) in
      let rest = seen_same load load' next next' es (Agrees-tail next next' c cs agree) (λ j p. loads j (omega (arith, p, times_in-cons next c cs j))) in
      rw (here, rest) refl

-- ---- one chain among others

module _ {X : Type 0} where
  pub none-room : (o : Option X) (n : ℕ) → n ≤ (if is_some o then 1 else 0) → o ≡ None → n ≡ 0
  none-room None n p e = omega (arith, p)
  none-room (Some x) n p e = absurd (cc)

  one-room : (o : Option X) (n : ℕ) → n ≤ (if is_some o then 1 else 0) → n ≤ 1
  one-room None n p = omega (arith, p)
  one-room (Some x) n p = p

  pub some-room : (o : Option X) (n : ℕ) → n ≤ (if is_some o then 1 else 0) → 0 < n → is_some o ≡ true
  some-room None n p q = absurd (omega (arith, p, q))
  some-room (Some x) n p q = refl

-- a chain that is not empty has its last slot
last-in : (next : ℕ → ℕ) (c : Chain) → Ends next c → 0 < c.len → 0 < times c.last (slots next c)
last-in next c ends lt = by c.len refl lt (ends lt)
  where
    by : (n : ℕ) → c.len ≡ n → 0 < n → end_from next (n - 1) c.first ≡ c.last → 0 < times c.last (slots_from next n c.first)
    by zero e p q = absurd (omega (arith, p))
    by (suc n) e p q =
        let less : suc n - 1 ≡ n = omega arith in
        let was : end_from next n c.first ≡ c.last = rw less at q in
        rw (← was) (times-end next n c.first)

-- an item is put into a vacant slot at the end of a chain
pub record Links {X : Type 0} (load load' : ℕ → Option X) (next next' : ℕ → ℕ) (c d : Chain) (x : X) : Type 0 where
  pub vacant : load d.last ≡ None
  pub put : load' d.last ≡ Some x
  pub loads : (k : ℕ) → k ≢ d.last → load' k ≡ load k
  pub link : 0 < c.len → next' c.last ≡ d.last
  pub links : (k : ℕ) → (0 < c.len → k ≢ c.last) → next' k ≡ next k
  pub one_more : d.len ≡ c.len + 1
  pub first : d.first ≡ (if nat_eq c.len 0 then d.last else c.first)

module _ {X : Type 0} (load load' : ℕ → Option X) (next next' : ℕ → ℕ) (c d : Chain) (x : X) (step : Links load load' next next' c d x)
    (once : (k : ℕ) → times k (slots next c) ≤ (if is_some (load k) then 1 else 0)) (ends : Ends next c) where
  -- the slots after the step, and the last one
  pub linked-slots : (slots next' d ≡ slots next c ++ d.last ∷ []) × Ends next' d
  linked-slots = by c.len refl ends (one-room (load c.last) (times c.last (slots next c)) (once c.last))
    where
      by : (n : ℕ) → c.len ≡ n → (0 < n → end_from next (n - 1) c.first ≡ c.last) → times c.last (slots next c) ≤ 1 → (slots next' d ≡ slots next c ++ d.last ∷ []) × Ends next' d
      by zero e p q =
          let length : d.len ≡ 1 = omega (arith, step.one_more, e) in
          let first : d.first ≡ d.last = step.first ∙ ap (λ m. cond (nat_eq m 0) d.last c.first) e in
          rw (length, e, first) (refl, λ lt. refl)
      by (suc n) e p q =
          let length : d.len ≡ suc (suc n) = omega (arith, step.one_more, e) in
          let more : nat_eq (suc n) 0 ≡ false = grind (arith, nat_tests) in
          let first : d.first ≡ c.first = step.first ∙ ap (λ m. cond (nat_eq m 0) d.last c.first) e ∙ ap (λ t. cond t d.last c.first) more in
          let less : suc n - 1 ≡ n = omega arith in
          let less2 : suc (suc n) - 1 ≡ suc n = omega arith in
          let lt : 0 < suc n = omega arith in
          let was : end_from next n c.first ≡ c.last = rw less at (p lt) in
          let some : 0 < c.len = omega (arith, e) in
          let link : next' (end_from next n c.first) ≡ d.last = ap next' was ∙ step.link some in
          let links : (j : ℕ) → j ≢ end_from next n c.first → next' j ≡ next j = λ j ne. step.links j (λ l f. ne (f ∙ sym was)) in
          let q' : times (end_from next n c.first) (slots_from next (suc n) c.first) ≤ 1 = rw was (rw e at q) in
          let grown = slots_grown next next' n c.first d.last link links q' in
          rw (length, e, first) (grown.0, λ l. rw less2 grown.1)

  -- and what lies in them
  pub linked-held : held load' (slots next' d) ≡ held load (slots next c) ++ x ∷ []
  linked-held =
      let gone : times d.last (slots next c) ≡ 0 = none-room (load d.last) (times d.last (slots next c)) (once d.last) step.vacant in
      let kept : held load' (slots next c) ≡ held load (slots next c) =
      held_same load load' (slots next c) (λ j p. step.loads j (λ e. omega (arith, gone, p, ap (λ i. times i (slots next c)) e))) in
      let last : held load' (d.last ∷ []) ≡ x ∷ [] = ap (λ o. with_load o []) step.put in
      ap (held load') linked-slots.0 ∙ held-append load' (slots next c) (d.last ∷ []) ∙ ap (λ h. h ++ held load' (d.last ∷ [])) kept ∙ ap (λ h. held load (slots next c) ++ h) last

pub each-split : {A B : Type 0} (f : A → B) (a : List A) (e : A) (b : List A) → each f (a ++ e ∷ b) ≡ each f a ++ f e ∷ each f b
each-split f [] e b = refl
each-split f (y ∷ a) e b = ap (λ l. f y ∷ l) (each-split f a e b)

pub times-split : (next : ℕ → ℕ) (a : List Chain) (c : Chain) (b : List Chain) (k : ℕ)
    → times_in next (a ++ c ∷ b) k ≡ times_in next a k + (times k (slots next c) + times_in next b k)
times-split next a c b k = times_in-append next a (c ∷ b) k ∙ ap (λ n. times_in next a k + n) (times_in-cons next c b k)

pub sum-split : (a : List Chain) (c : Chain) (b : List Chain) → sum_by (λ d. d.len) (a ++ c ∷ b) ≡ sum_by (λ d. d.len) a + (c.len + sum_by (λ d. d.len) b)
sum-split a c b = sum_by-append (λ d. d.len) a (c ∷ b) ∙ ap (λ n. sum_by (λ d. d.len) a + n) (sum_by-cons (λ d. d.len) c b)

module _ {X : Type 0} (load : ℕ → Option X) (next : ℕ → ℕ) (n : ℕ) (a b : List Chain) (c : Chain) (sound : Sound load next n (a ++ c ∷ b)) where
  pub once-of : (k : ℕ) → times k (slots next c) ≤ (if is_some (load k) then 1 else 0)
  once-of k =
      let total : times_in next (a ++ c ∷ b) k ≤ cond (is_some (load k)) 1 0 = sound.once k in
      omega (arith, total, times-split next a c b k)

  pub ends-of : Ends next c
  ends-of = (AllEnd-back next a (c ∷ b) sound.ends).0

  pub alone : (k : ℕ) → 0 < times k (slots next c) → (times_in next a k ≡ 0) × (times_in next b k ≡ 0)
  alone k p =
      let total = one-room (load k) _ (sound.once k) in
      let split = times-split next a c b k in (omega (arith, total, split, p), omega (arith, total, split, p))

  pub absent : (k : ℕ) → load k ≡ None → (times_in next a k ≡ 0) × (times_in next b k ≡ 0)
  absent k e =
      let total = none-room (load k) _ (sound.once k) e in
      let split = times-split next a c b k in (omega (arith, total, split), omega (arith, total, split))

  -- a chain that is not empty has something in its first and its last slot, as in each of its slots
  pub all-filled : (k : ℕ) → 0 < times k (slots next c) → is_some (load k) ≡ true
  all-filled k p = some-room (load k) _ (once-of k) p

  pub last-filled : 0 < c.len → is_some (load c.last) ≡ true
  last-filled p = all-filled c.last (last-in next c ends-of p)

  pub first-filled : 0 < c.len → is_some (load c.first) ≡ true
  first-filled p = by c.len refl p
    where
      by : (m : ℕ) → c.len ≡ m → 0 < m → is_some (load c.first) ≡ true
      by zero e q = absurd (omega (arith, q))
      by (suc m) e q = all-filled c.first (rw e (omega (arith, times-here c.first (slots_from next m (next c.first)))))

  pub len-within : c.len ≤ n
  len-within = omega (arith, sound.all, sum-split a c b)

  module _ (load' : ℕ → Option X) (next' : ℕ → ℕ) (d : Chain) (x : X) (step : Links load load' next next' c d x) where
    agree-front : Agrees next next' a
    agree-front = record { at = λ j p. step.links j (λ some e. omega (arith, p, (alone c.last (last-in next c ends-of some)).0, ap (times_in next a) e)) }

    agree-back : Agrees next next' b
    agree-back = record { at = λ j p. step.links j (λ some e. omega (arith, p, (alone c.last (last-in next c ends-of some)).1, ap (times_in next b) e)) }

    loads-front : (j : ℕ) → 0 < times_in next a j → load' j ≡ load j
    loads-front j p = step.loads j (λ e. omega (arith, p, (absent d.last step.vacant).0, ap (times_in next a) e))

    loads-back : (j : ℕ) → 0 < times_in next b j → load' j ≡ load j
    loads-back j p = step.loads j (λ e. omega (arith, p, (absent d.last step.vacant).1, ap (times_in next b) e))

    pub linked-sound : Sound load' next' (n + 1) (a ++ d ∷ b)
    linked-sound = record {
      once = λ k.
          let slots-of = linked-slots load load' next next' c d x step once-of ends-of in
          let split : times_in next' (a ++ d ∷ b) k ≡ times_in next a k + (times k (slots next' d) + times_in next b k) =
          rw (← times_in_same next next' a agree-front k, ← times_in_same next next' b agree-back k) (times-split next' a d b k) in
          let mine : times k (slots next' d) ≡ times k (slots next c) + cond (nat_eq d.last k) 1 0 = ap (times k) slots-of.0 ∙ times-push k d.last (slots next c) in
          let was = times-split next a c b k in
          elim (cases_eq k d.last) [
            | inl e ↦
                let none = none-room (load k) _ (sound.once k) (ap load e ∙ step.vacant) in
                let full : bit (is_some (load' k)) ≡ 1 = ap (λ i. bit (is_some (load' i))) e ∙ ap (λ o. bit (is_some o)) step.put in
                let one : bit (nat_eq d.last k) ≡ 1 = grind (arith, nat_tests, e) in
                omega (arith, split, mine, was, none, full, one)
            | inr ne ↦
                let total : times_in next (a ++ c ∷ b) k ≤ cond (is_some (load k)) 1 0 = sound.once k in
                let same : bit (is_some (load' k)) ≡ bit (is_some (load k)) = ap (λ o. bit (is_some o)) (step.loads k ne) in
                let no : bit (nat_eq d.last k) ≡ 0 = grind (arith, nat_tests, ne) in
                omega (arith, split, mine, was, total, same, no)
          ];
      ends = AllEnd-append next' a (d ∷ b) (AllEnd_same next next' a agree-front (AllEnd-front next a (c ∷ b) sound.ends))
          ((linked-slots load load' next next' c d x step once-of ends-of).1, AllEnd_same next next' b agree-back (AllEnd-back next a (c ∷ b) sound.ends).1);
      all = omega (arith, sound.all, sum-split a c b, sum-split a d b, step.one_more);
    }

-- how the owners of chains are seen after an item is put into one of them
module _ {X E Y : Type 0} (chain : E → Chain) (build : E → List X → Y) (load load' : ℕ → Option X) (next next' : ℕ → ℕ) (n : ℕ) (a b : List E) (e e' : E) (x : X)
    (sound : Sound load next n (each chain (a ++ e ∷ b))) (step : Links load load' next next' (chain e) (chain e') x) where
  parted : Sound load next n (each chain a ++ chain e ∷ each chain b)
  parted = rw each-split at sound

  pub linked-all : Sound load' next' (n + 1) (each chain (a ++ e' ∷ b))
  linked-all = rw (each-split chain a e' b) (linked-sound load next n (each chain a) (each chain b) (chain e) parted load' next' (chain e') x step)

  pub linked-seen : seen chain build load' next' (a ++ e' ∷ b)
      ≡ seen chain build load next a ++ build e' (held load (slots next (chain e)) ++ x ∷ []) ∷ seen chain build load next b
  linked-seen =
      let front = seen_same chain build load load' next next' a (agree-front load next n (each chain a) (each chain b) (chain e) parted load' next' (chain e') x step)
      (loads-front load next n (each chain a) (each chain b) (chain e) parted load' next' (chain e') x step) in
      let back = seen_same chain build load load' next next' b (agree-back load next n (each chain a) (each chain b) (chain e) parted load' next' (chain e') x step)
      (loads-back load next n (each chain a) (each chain b) (chain e) parted load' next' (chain e') x step) in
      let here = linked-held load load' next next' (chain e) (chain e') x step (once-of load next n (each chain a) (each chain b) (chain e) parted)
      (ends-of load next n (each chain a) (each chain b) (chain e) parted) in
      each-split (λ i. build i (held load' (slots next' (chain i)))) a e' b ∙ rw (front, back, here) refl

-- ---- the first item of a chain is taken out
pub record Unlinks {X : Type 0} (load load' : ℕ → Option X) (next next' : ℕ → ℕ) (c d : Chain) (x : X) : Type 0 where
  pub had : load c.first ≡ Some x
  pub vacant : load' c.first ≡ None
  pub loads : (k : ℕ) → k ≢ c.first → load' k ≡ load k
  pub links : (k : ℕ) → k ≢ c.first → next' k ≡ next k
  pub first : d.first ≡ next c.first
  pub last : d.last ≡ c.last
  pub one_less : d.len + 1 ≡ c.len

module _ {X : Type 0} (load load' : ℕ → Option X) (next next' : ℕ → ℕ) (c d : Chain) (x : X) (step : Unlinks load load' next next' c d x)
    (once : times c.first (slots next c) ≤ 1) (ends : Ends next c) where
  length-of : c.len ≡ suc d.len
  length-of = omega (arith, step.one_less)

  rest-once : times c.first (slots_from next d.len (next c.first)) ≡ 0
  rest-once =
      let o : times c.first (slots_from next (suc d.len) c.first) ≤ 1 = rw length-of at once in
      omega (arith, o, times-here c.first (slots_from next d.len (next c.first)))

  rest-agrees : (j : ℕ) → 0 < times j (slots_from next d.len (next c.first)) → next' j ≡ next j
  rest-agrees j p = step.links j (λ e. omega (arith, p, rest-once, ap (λ i. times i (slots_from next d.len (next c.first))) e))

  pub unlinked-slots : slots next c ≡ c.first ∷ slots next' d
  unlinked-slots = rw (length-of, step.first) (ap (λ ks. c.first ∷ ks) (sym (slots_same next next' d.len (next c.first) rest-agrees)))

  pub unlinked-ends : Ends next' d
  unlinked-ends = by d.len refl rest-agrees
    where
      by : (m : ℕ) → d.len ≡ m → ((j : ℕ) → 0 < times j (slots_from next m (next c.first)) → next' j ≡ next j) → 0 < m → end_from next' (m - 1) d.first ≡ d.last
      by zero e agree lt = absurd (omega (arith, lt))
      by (suc m) e agree lt =
          let less : suc m - 1 ≡ m = omega arith in
          let more : c.len - 1 ≡ suc m = omega (arith, step.one_less, e) in
          let was : end_from next (suc m) c.first ≡ c.last = rw more at (ends (omega (arith, step.one_less))) in
          rw (less, step.first, step.last) (end_same next next' m (next c.first) agree ∙ was)

  pub unlinked-held : held load (slots next c) ≡ x ∷ held load' (slots next' d)
  unlinked-held =
      let rest : slots next' d ≡ slots_from next d.len (next c.first) = rw step.first (slots_same next next' d.len (next c.first) rest-agrees) in
      let kept : held load' (slots next' d) ≡ held load (slots next' d) =
      held_same load load' (slots next' d) (λ j p. step.loads j (λ e. omega (arith, p, rest-once, ap (times j) rest, ap (λ i. times i (slots_from next d.len (next c.first))) e))) in
      ap (held load) unlinked-slots ∙ ap (λ o. with_load o (held load (slots next' d))) step.had ∙ ap (λ h. x ∷ h) (sym kept)

module _ {X : Type 0} (load load' : ℕ → Option X) (next next' : ℕ → ℕ) (n m : ℕ) (a b : List Chain) (c d : Chain) (x : X)
    (sound : Sound load next n (a ++ c ∷ b)) (less : m + 1 ≡ n) (step : Unlinks load load' next next' c d x) where
  pub first-once : times c.first (slots next c) ≤ 1
  first-once = one-room (load c.first) _ (once-of load next n a b c sound c.first)

  first-in : 0 < times c.first (slots next c)
  first-in = rw (unlinked-slots load load' next next' c d x step first-once (ends-of load next n a b c sound)) (omega (arith, times-here c.first (slots next' d)))

  others-none : (times_in next a c.first ≡ 0) × (times_in next b c.first ≡ 0)
  others-none = alone load next n a b c sound c.first first-in

  pub left-front : Agrees next next' a
  left-front = record { at = λ j p. step.links j (λ e. omega (arith, p, others-none.0, ap (times_in next a) e)) }

  pub left-back : Agrees next next' b
  left-back = record { at = λ j p. step.links j (λ e. omega (arith, p, others-none.1, ap (times_in next b) e)) }

  pub lying-front : (j : ℕ) → 0 < times_in next a j → load' j ≡ load j
  lying-front j p = step.loads j (λ e. omega (arith, p, others-none.0, ap (times_in next a) e))

  pub lying-back : (j : ℕ) → 0 < times_in next b j → load' j ≡ load j
  lying-back j p = step.loads j (λ e. omega (arith, p, others-none.1, ap (times_in next b) e))

  pub unlinked-sound : Sound load' next' m (a ++ d ∷ b)
  unlinked-sound = record {
    once = λ k.
        let slots-of = unlinked-slots load load' next next' c d x step first-once (ends-of load next n a b c sound) in
        let split : times_in next' (a ++ d ∷ b) k ≡ times_in next a k + (times k (slots next' d) + times_in next b k) =
        rw (← times_in_same next next' a left-front k, ← times_in_same next next' b left-back k) (times-split next' a d b k) in
        let mine : times k (slots next c) ≡ cond (nat_eq c.first k) 1 0 + times k (slots next' d) = ap (times k) slots-of ∙ times-cons k c.first (slots next' d) in
        let was = times-split next a c b k in
        let total : times_in next (a ++ c ∷ b) k ≤ cond (is_some (load k)) 1 0 = sound.once k in
        elim (cases_eq k c.first) [
          | inl e ↦
              let one : bit (nat_eq c.first k) ≡ 1 = grind (arith, nat_tests, e) in
              let most = one-room (load k) _ (sound.once k) in
              omega (arith, split, mine, was, most, one)
          | inr ne ↦
              let same : bit (is_some (load' k)) ≡ bit (is_some (load k)) = ap (λ o. bit (is_some o)) (step.loads k ne) in
              omega (arith, split, mine, was, total, same)
        ];
    ends = AllEnd-append next' a (d ∷ b) (AllEnd_same next next' a left-front (AllEnd-front next a (c ∷ b) sound.ends))
        (unlinked-ends load load' next next' c d x step first-once (ends-of load next n a b c sound), AllEnd_same next next' b left-back (AllEnd-back next a (c ∷ b) sound.ends).1);
    all = omega (arith, sound.all, sum-split a c b, sum-split a d b, step.one_less, less);
  }

module _ {X E Y : Type 0} (chain : E → Chain) (build : E → List X → Y) (load load' : ℕ → Option X) (next next' : ℕ → ℕ) (n m : ℕ) (a b : List E) (e e' : E) (x : X)
    (sound : Sound load next n (each chain (a ++ e ∷ b))) (less : m + 1 ≡ n) (step : Unlinks load load' next next' (chain e) (chain e') x) where
  parted2 : Sound load next n (each chain a ++ chain e ∷ each chain b)
  parted2 = rw each-split at sound

  pub unlinked-all : Sound load' next' m (each chain (a ++ e' ∷ b))
  unlinked-all = rw (each-split chain a e' b) (unlinked-sound load load' next next' n m (each chain a) (each chain b) (chain e) (chain e') x parted2 less step)

  pub unlinked-item : held load (slots next (chain e)) ≡ x ∷ held load' (slots next' (chain e'))
  unlinked-item = unlinked-held load load' next next' (chain e) (chain e') x step
      (first-once load load' next next' n m (each chain a) (each chain b) (chain e) (chain e') x parted2 less step)
      (ends-of load next n (each chain a) (each chain b) (chain e) parted2)

  pub unlinked-seen : seen chain build load' next' (a ++ e' ∷ b)
      ≡ seen chain build load next a ++ build e' (held load' (slots next' (chain e'))) ∷ seen chain build load next b
  unlinked-seen =
      let front = seen_same chain build load load' next next' a (left-front load load' next next' n m (each chain a) (each chain b) (chain e) (chain e') x parted2 less step)
      (lying-front load load' next next' n m (each chain a) (each chain b) (chain e) (chain e') x parted2 less step) in
      let back = seen_same chain build load load' next next' b (left-back load load' next next' n m (each chain a) (each chain b) (chain e) (chain e') x parted2 less step)
      (lying-back load load' next next' n m (each chain a) (each chain b) (chain e) (chain e') x parted2 less step) in
      each-split (λ i. build i (held load' (slots next' (chain i)))) a e' b ∙ rw (front, back) refl
