-- An output that was never moved is not overtaken.
use Rattle.std.proofs.Common.{◌≡◌, ◌⊎◌, ℕ, suc, ◌<◌, ◌≤◌, Bool, true, false, List, [], ◌∷◌, ◌++◌, map as each, Option, Some, None, cond, refl, sym, ap, subst, ◌∙◌, inl, inr, arith}
use Rattle.std.specs.Prelude.{not, nat_eq, filter}
use Rattle.std.specs.FinMap as map
use Rattle.estelle_tree.specs.declared.link.IpAddr.{IpAddr}
use Rattle.estelle_tree.specs.Paths.{Path, child, is_inside}
use Rattle.estelle_tree.specs.Links.{bottom, route, attachment}
use Rattle.estelle_tree.specs.Queues.{waits_at, waits_inside, brought_to, moved, without_head, outside_of}
use Rattle.estelle_model.specs.declared.image.Interaction.{Interaction}
use Rattle.estelle_model.specs.Core.{Instance, Core}
use Rattle.estelle_model.specs.Effects.{StatementEffect, Output, Connect, Disconnect, Attach, Detach, Create, Remove, instances_after, core_after}
use Rattle.estelle_model.specs.Situation.{Waiting, Situation, arrived, mail_after, made_after}
use Rattle.estelle_model.specs.Queues.{Head, Absent, head_at}
use Rattle.estelle_model.proofs.Units.{Each}
use Rattle.estelle_model_legality.proofs.Lists.{same_number, not_both, each_more, each_append, each_filter, number_is}
use Rattle.estelle_model_legality.proofs.Members.{Has}
use Rattle.estelle_model_fates.specs.Fates.{numbers}
use Rattle.estelle_model_fates.specs.Order.{moves}
use Rattle.estelle_model_fates.proofs.EveryBlock.{MayBeMade}
use Rattle.estelle_model_fates.proofs.Vanished.{Only, only_after, only_changed, removed_none}
use Rattle.estelle_model_fates.proofs.Lasting.{IsLasting}

-- ---- lists of what waits

-- of the numbers of all that wait this holds
abbrev pub All : (ℕ → Type 0) → List Waiting → Type 0
All P = Each (λ w. P w.item.number)

-- the output does not wait
abbrev pub NoneOf : ℕ → List Waiting → Type 0
NoneOf i = All (λ n. n ≡ i → ⊥)

-- Where it waits, it waits once, and all before it have lower numbers.
abbrev pub InFront : ℕ → List Waiting → Type 0
InFront i [] = Unit {0}
InFront i (w ∷ ws) = ((w.item.number < i) × InFront i ws) ⊎ NoneOf i ws

-- wherever it waits, it waits there
abbrev pub At : ℕ → IpAddr → List Waiting → Type 0
At i c = Each (λ w. w.item.number ≡ i → w.at ≡ c)

pub number_or : (n i : ℕ) → (n ≡ i) ⊎ (n ≡ i → ⊥)
number_or n i = by (nat_eq n i) refl
  where
    by : (b : Bool) → nat_eq n i ≡ b → (n ≡ i) ⊎ (n ≡ i → ⊥)
    by true e = inl (same_number n i e)
    by false e = inr (λ same. not_both (nat_eq n i) (subst (λ (m : ℕ). nat_eq n m ≡ true) same (number_is n)) e)

pub number_in : (i : ℕ) (ws : List Waiting) → Has (numbers ws) i ⊎ NoneOf i ws
number_in i [] = inr tt
number_in i (w ∷ ws) = elim (number_or w.item.number i) [
  | inl e ↦ inl (inl e)
  | inr n ↦ elim (number_in i ws) [ inl h ↦ inl (inr h) | inr none ↦ inr (n, none) ]
]

pub not_none : (i : ℕ) (ws : List Waiting) → Has (numbers ws) i → NoneOf i ws → ⊥
not_none i [] h none = absurd h
not_none i (w ∷ ws) (inl e) none = none.0 e
not_none i (w ∷ ws) (inr h) none = not_none i ws h none.1

each_left : (P : Waiting → Type 0) (xs ys : List Waiting) → Each P (xs ++ ys) → Each P xs
each_left P [] ys h = tt
each_left P (x ∷ xs) ys h = (h.0, each_left P xs ys h.1)

each_right : (P : Waiting → Type 0) (xs ys : List Waiting) → Each P (xs ++ ys) → Each P ys
each_right P [] ys h = h
each_right P (x ∷ xs) ys h = each_right P xs ys h.1

each_brought : (P Q : Waiting → Type 0) (b : IpAddr) (ws : List Waiting) → ((w : Waiting) → P w → Q (brought_to b w)) → Each P ws → Each Q (each (brought_to b) ws)
each_brought P Q b [] f h = tt
each_brought P Q b (w ∷ ws) f h = (f w h.0, each_brought P Q b ws f h.1)

all_brought_back : (P : ℕ → Type 0) (b : IpAddr) (ws : List Waiting) → All P (each (brought_to b) ws) → All P ws
all_brought_back P b [] h = tt
all_brought_back P b (w ∷ ws) h = (h.0, all_brought_back P b ws h.1)

each_split : (P : Waiting → Type 0) (test : Waiting → Bool) (ws : List Waiting) → Each P (filter (λ w. not (test w)) ws) → Each P (filter test ws) → Each P ws
each_split P test [] h k = tt
each_split P test (w ∷ ws) h k = by (test w) h k (each_split P test ws)
  where
    by : (b : Bool) → Each P (cond (not b) (w ∷ filter (λ v. not (test v)) ws) (filter (λ v. not (test v)) ws)) → Each P (cond b (w ∷ filter test ws) (filter test ws)) → (Each P (filter (λ v. not (test v)) ws) → Each P (filter test ws) → Each P ws) → P w × Each P ws
    by true h k rest = (k.0, rest h k.1)
    by false h k rest = (h.0, rest h.1 k)

all_moved : (P : ℕ → Type 0) (a b : IpAddr) (ws : List Waiting) → All P ws → All P (moved a b ws)
all_moved P a b ws h = each_append Waiting (λ w. P w.item.number) (filter (λ w. not (waits_at a w)) ws) (each (brought_to b) (filter (waits_at a) ws))
    (each_filter Waiting (λ w. P w.item.number) (λ w. P w.item.number) (λ w. not (waits_at a w)) ws (λ w t p. p) h)
    (each_brought (λ w. P w.item.number) (λ w. P w.item.number) b (filter (waits_at a) ws) (λ w p. p) (each_filter Waiting (λ w. P w.item.number) (λ w. P w.item.number) (waits_at a) ws (λ w t p. p) h))

all_moved_back : (P : ℕ → Type 0) (a b : IpAddr) (ws : List Waiting) → All P (moved a b ws) → All P ws
all_moved_back P a b ws h = each_split (λ w. P w.item.number) (waits_at a) ws
    (each_left (λ w. P w.item.number) (filter (λ w. not (waits_at a w)) ws) (each (brought_to b) (filter (waits_at a) ws)) h)
    (all_brought_back P b (filter (waits_at a) ws) (each_right (λ w. P w.item.number) (filter (λ w. not (waits_at a w)) ws) (each (brought_to b) (filter (waits_at a) ws)) h))

pub each_taken : (P : Waiting → Type 0) (belongs : IpAddr → Bool) (ws : List Waiting) → Each P ws → Each P (without_head belongs ws)
each_taken P belongs [] h = tt
each_taken P belongs (w ∷ ws) h = by (belongs w.at) (each_taken P belongs ws h.1)
  where
    by : (b : Bool) → Each P (without_head belongs ws) → Each P (cond b ws (w ∷ without_head belongs ws))
    by true rest = h.1
    by false rest = (h.0, rest)

each_arrived : (P : Waiting → Type 0) (item : Interaction) (o : Option IpAddr) (ws : List Waiting) → Each P ws → ((a : IpAddr) → P (record { item = item; at = a })) → Each P (arrived item o ws)
each_arrived P item None ws h new = h
each_arrived P item (Some a) ws h new = each_append Waiting P ws (record { item = item; at = a } ∷ []) h (new a, tt)

each_arrived_back : (P : Waiting → Type 0) (item : Interaction) (o : Option IpAddr) (ws : List Waiting) → Each P (arrived item o ws) → Each P ws
each_arrived_back P item None ws h = h
each_arrived_back P item (Some a) ws h = each_left P ws (record { item = item; at = a } ∷ []) h

pub number_has : (i : ℕ) (ws : List Waiting) (w : Waiting) → Has ws w → w.item.number ≡ i → Has (numbers ws) i
number_has i [] w h e = absurd h
number_has i (v ∷ vs) w (inl same) e = inl (ap (λ (x : Waiting). x.item.number) same ∙ e)
number_has i (v ∷ vs) w (inr h) e = inr (number_has i vs w h e)

-- ---- in front

module _ (i : ℕ) where
  none_front : (ws : List Waiting) → NoneOf i ws → InFront i ws
  none_front [] h = tt
  none_front (w ∷ ws) h = inr h.1

  none_filter : (test : Waiting → Bool) (ws : List Waiting) → NoneOf i ws → NoneOf i (filter test ws)
  none_filter test ws h = each_filter Waiting (λ w. w.item.number ≡ i → ⊥) (λ w. w.item.number ≡ i → ⊥) test ws (λ w t p. p) h

  front_filter : (test : Waiting → Bool) (ws : List Waiting) → InFront i ws → InFront i (filter test ws)
  front_filter test [] h = tt
  front_filter test (w ∷ ws) h = by (test w) h (front_filter test ws)
    where
      by : (b : Bool) → ((w.item.number < i) × InFront i ws) ⊎ NoneOf i ws → (InFront i ws → InFront i (filter test ws)) → InFront i (cond b (w ∷ filter test ws) (filter test ws))
      by true (inl k) rest = inl (k.0, rest k.1)
      by true (inr none) rest = inr (none_filter test ws none)
      by false (inl k) rest = rest k.1
      by false (inr none) rest = none_front (filter test ws) (none_filter test ws none)

  front_append : (xs ys : List Waiting) → InFront i xs → NoneOf i ys → InFront i (xs ++ ys)
  front_append [] ys h none = none_front ys none
  front_append (x ∷ xs) ys (inl k) none = inl (k.0, front_append xs ys k.1 none)
  front_append (x ∷ xs) ys (inr k) none = inr (each_append Waiting (λ w. w.item.number ≡ i → ⊥) xs ys k none)

  front_last : (xs : List Waiting) (w : Waiting) → All (λ n. n < i) xs → InFront i (xs ++ w ∷ [])
  front_last [] w h = inr tt
  front_last (x ∷ xs) w h = inl (h.0, front_last xs w h.1)

  front_taken : (belongs : IpAddr → Bool) (ws : List Waiting) → InFront i ws → InFront i (without_head belongs ws)
  front_taken belongs [] h = tt
  front_taken belongs (w ∷ ws) h = by (belongs w.at) h (front_taken belongs ws)
    where
      by : (b : Bool) → ((w.item.number < i) × InFront i ws) ⊎ NoneOf i ws → (InFront i ws → InFront i (without_head belongs ws)) → InFront i (cond b ws (w ∷ without_head belongs ws))
      by true (inl k) rest = k.1
      by true (inr none) rest = none_front ws none
      by false (inl k) rest = inl (k.0, rest k.1)
      by false (inr none) rest = inr (each_taken (λ v. v.item.number ≡ i → ⊥) belongs ws none)

  front_arrived : (item : Interaction) (o : Option IpAddr) (made : ℕ) (ws : List Waiting) → item.number ≡ suc made → All (λ n. n ≤ made) ws → InFront i ws → InFront i (arrived item o ws)
  front_arrived item None made ws is below h = h
  front_arrived item (Some a) made ws is below h = elim (number_or item.number i) [
    | inl e ↦ front_last ws (record { item = item; at = a }) (each_more Waiting (λ w. w.item.number ≤ made) (λ w. w.item.number < i) ws (λ w l. omega (arith, l, is, e)) below)
    | inr n ↦ front_append ws (record { item = item; at = a } ∷ []) h (n, tt)
  ]

  -- what is moved has not the number, or it has
  front_moved : (a b : IpAddr) (ws : List Waiting) → InFront i ws → Has (numbers (filter (waits_at a) ws)) i ⊎ InFront i (moved a b ws)
  front_moved a b ws h = elim (number_in i (filter (waits_at a) ws)) [
    | inl k ↦ inl k
    | inr none ↦ inr (front_append (filter (λ w. not (waits_at a w)) ws) (each (brought_to b) (filter (waits_at a) ws)) (front_filter (λ w. not (waits_at a w)) ws h)
        (each_brought (λ w. w.item.number ≡ i → ⊥) (λ w. w.item.number ≡ i → ⊥) b (filter (waits_at a) ws) (λ w p. p) none))
  ]

  -- only one has the number
  pub only_one : (ws : List Waiting) (w : Waiting) → InFront i ws → Has ws w → w.item.number ≡ i → At i w.at ws
  only_one [] w h k e = absurd k
  only_one (v ∷ vs) w (inl f) (inl same) e = absurd (let l = f.0 in let n : v.item.number ≡ w.item.number = ap (λ (x : Waiting). x.item.number) same in omega (arith, l, n, e))
  only_one (v ∷ vs) w (inl f) (inr k) e = ((λ is. absurd (let l = f.0 in omega (arith, l, is))), only_one vs w f.1 k e)
  only_one (v ∷ vs) w (inr none) (inl same) e = ((λ is. ap (λ (x : Waiting). x.at) same), each_more Waiting (λ x. x.item.number ≡ i → ⊥) (λ x. x.item.number ≡ i → x.at ≡ w.at) vs (λ x n is. absurd (n is)) none)
  only_one (v ∷ vs) w (inr none) (inr k) e = absurd (not_none i vs (number_has i vs w k e) none)

  -- the head of its queue has no higher number
  pub head_before : (belongs : IpAddr → Bool) (a c : IpAddr) (ws : List Waiting) (item : Interaction) → InFront i ws → At i c ws → belongs c ≡ true → (NoneOf i ws → ⊥) → head_at a (filter (λ w. belongs w.at) ws) ≡ Head item → item.number ≤ i
  head_before belongs a c [] item front at is some head = absurd (some tt)
  head_before belongs a c (w ∷ ws) item front at is some head = by (belongs w.at) refl head front (head_before belongs a c ws item)
    where
      first : (b : Bool) → cond b (Head w.item) Absent ≡ Head item → w.item.number ≡ item.number
      first true e = let same : w.item ≡ item = cc in ap (λ (x : Interaction). x.number) same
      first false e = absurd (cc)

      by : (b : Bool) → belongs w.at ≡ b → head_at a (cond b (w ∷ filter (λ v. belongs v.at) ws) (filter (λ v. belongs v.at) ws)) ≡ Head item → ((w.item.number < i) × InFront i ws) ⊎ NoneOf i ws
          → (InFront i ws → At i c ws → belongs c ≡ true → (NoneOf i ws → ⊥) → head_at a (filter (λ v. belongs v.at) ws) ≡ Head item → item.number ≤ i) → item.number ≤ i
      by true e h (inl k) rest = let n = first (waits_at a w) h in let l = k.0 in omega (arith, n, l)
      by true e h (inr none) rest = let n = first (waits_at a w) h in elim (number_or w.item.number i) [ inl m ↦ omega (arith, n, m) | inr m ↦ absurd (some (m, none)) ]
      by false e h f rest =
          let other : w.item.number ≡ i → ⊥ = λ m. not_both (belongs w.at) (ap belongs (at.0 m) ∙ is) e in
          elim f [
            | inl k ↦ rest k.1 at.1 is (λ none. some (other, none)) h
            | inr none ↦ absurd (some (other, none))
          ]

  -- where it waits no more once the head is taken, it was the head
  pub head_left : (belongs : IpAddr → Bool) (a : IpAddr) (ws : List Waiting) (item : Interaction) → head_at a (filter (λ w. belongs w.at) ws) ≡ Head item → NoneOf i (without_head belongs ws) → NoneOf i ws ⊎ (item.number ≡ i)
  head_left belongs a [] item head none = inl tt
  head_left belongs a (w ∷ ws) item head none = by (belongs w.at) head none (head_left belongs a ws item)
    where
      first : (b : Bool) → cond b (Head w.item) Absent ≡ Head item → w.item.number ≡ item.number
      first true e = let same : w.item ≡ item = cc in ap (λ (x : Interaction). x.number) same
      first false e = absurd (cc)

      by : (b : Bool) → head_at a (cond b (w ∷ filter (λ v. belongs v.at) ws) (filter (λ v. belongs v.at) ws)) ≡ Head item → NoneOf i (cond b ws (w ∷ without_head belongs ws))
          → (head_at a (filter (λ v. belongs v.at) ws) ≡ Head item → NoneOf i (without_head belongs ws) → NoneOf i ws ⊎ (item.number ≡ i)) → NoneOf i (w ∷ ws) ⊎ (item.number ≡ i)
      by true h n rest = elim (number_or w.item.number i) [ inl m ↦ inr (sym (first (waits_at a w) h) ∙ m) | inr m ↦ inl (m, n) ]
      by false h n rest = elim (rest h n.1) [ inl k ↦ inl (n.0, k) | inr k ↦ inr k ]

  -- ---- what lasts

  -- all numbers are those of outputs that there have been, and it is in front
  pub record IsFront (c : Core) (mail : List Waiting) (made : ℕ) : Type 0 where
    pub below : All (λ n. n ≤ made) mail
    pub front : InFront i mail

  front_effect : (e : StatementEffect) (g : Situation) → MayBeMade e g.core → IsFront g.core g.mail g.made → Has (moves e g) i ⊎ IsFront (core_after e g.core) (mail_after e g.core.links g.made g.mail) (made_after e g.made)
  unfolding mail_after made_after
  front_effect (Output from ip name values) g may h = inr (record {
    below = each_arrived (λ w. w.item.number ≤ suc g.made) (record { number = suc g.made; name = name; values = values }) (route g.core.links from) g.mail (each_more Waiting (λ w. w.item.number ≤ g.made) (λ w. w.item.number ≤ suc g.made) g.mail (λ w l. omega (arith, l)) h.below) (λ a. omega arith);
    front = front_arrived (record { number = suc g.made; name = name; values = values }) (route g.core.links from) g.made g.mail refl h.below h.front;
  })
  front_effect (Connect a b) g may h = inr (record { below = h.below; front = h.front })
  front_effect (Disconnect a) g may h = inr (record { below = h.below; front = h.front })
  front_effect (Attach upper lower) g may h = elim (front_moved upper (bottom (g.core.links ++ attachment upper lower ∷ []) lower) g.mail h.front) [
    | inl k ↦ inl k
    | inr f ↦ inr (record { below = all_moved (λ n. n ≤ g.made) upper (bottom (g.core.links ++ attachment upper lower ∷ []) lower) g.mail h.below; front = f })
  ]
  front_effect (Detach upper) g may h = elim (front_moved (bottom g.core.links upper) upper g.mail h.front) [
    | inl k ↦ inl k
    | inr f ↦ inr (record { below = all_moved (λ n. n ≤ g.made) (bottom g.core.links upper) upper g.mail h.below; front = f })
  ]
  front_effect (Create p k new) g may h = inr (record { below = h.below; front = h.front })
  front_effect (Remove p k) g may h = inr (record {
    below = each_filter Waiting (λ w. w.item.number ≤ g.made) (λ w. w.item.number ≤ g.made) (λ w. not (waits_inside (child p k) w)) g.mail (λ w t l. l) h.below;
    front = front_filter (λ w. not (waits_inside (child p k) w)) g.mail h.front;
  })

  pub front_lasts : IsLasting i IsFront
  front_lasts = record { effect = front_effect; change = λ p change c mail made h. record { below = h.below; front = h.front } }

  pub front_without : (belongs : IpAddr → Bool) (c : Core) (mail : List Waiting) (made : ℕ) → IsFront c mail made → IsFront c (without_head belongs mail) made
  front_without belongs c mail made h = record { below = each_taken (λ w. w.item.number ≤ made) belongs mail h.below; front = front_taken belongs mail h.front }

  -- of the instance at a path, if one is there, this holds from here on
  pub only_lasts : (q : Path) (P : ℕ → Type 0) → IsLasting i (λ c mail made. Only q P c.instances)
  only_lasts q P = record { effect = λ e g may h. inr (only_after q P e g.core may h); change = λ p change c mail made h. only_changed q P p change c.instances h }

  module _ (c : IpAddr) where
    -- the output has been put somewhere, and wherever it waits, it waits there
    pub record IsAt (mail : List Waiting) (made : ℕ) : Type 0 where
      pub before : i ≤ made
      pub at : At i c mail

    at_moved : (a b : IpAddr) (g : Situation) → IsAt g.mail g.made → Has (numbers (filter (waits_at a) g.mail)) i ⊎ IsAt (moved a b g.mail) g.made
    at_moved a b g h = elim (number_in i (filter (waits_at a) g.mail)) [
      | inl k ↦ inl k
      | inr none ↦ inr (record {
        before = h.before;
        at = each_append Waiting (λ w. w.item.number ≡ i → w.at ≡ c) (filter (λ w. not (waits_at a w)) g.mail) (each (brought_to b) (filter (waits_at a) g.mail))
            (each_filter Waiting (λ w. w.item.number ≡ i → w.at ≡ c) (λ w. w.item.number ≡ i → w.at ≡ c) (λ w. not (waits_at a w)) g.mail (λ w t p. p) h.at)
            (each_brought (λ w. w.item.number ≡ i → ⊥) (λ w. w.item.number ≡ i → w.at ≡ c) b (filter (waits_at a) g.mail) (λ w n is. absurd (n is)) none);
      })
    ]

    at_effect : (e : StatementEffect) (g : Situation) → IsAt g.mail g.made → Has (moves e g) i ⊎ IsAt (mail_after e g.core.links g.made g.mail) (made_after e g.made)
    unfolding mail_after made_after
    at_effect (Output from ip name values) g h = inr (record {
      before = let m = h.before in omega (arith, m);
      at = each_arrived (λ w. w.item.number ≡ i → w.at ≡ c) (record { number = suc g.made; name = name; values = values }) (route g.core.links from) g.mail h.at (λ a is. absurd (let m = h.before in omega (arith, m, is)));
    })
    at_effect (Connect a b) g h = inr (record { before = h.before; at = h.at })
    at_effect (Disconnect a) g h = inr (record { before = h.before; at = h.at })
    at_effect (Attach upper lower) g h = at_moved upper (bottom (g.core.links ++ attachment upper lower ∷ []) lower) g h
    at_effect (Detach upper) g h = at_moved (bottom g.core.links upper) upper g h
    at_effect (Create p k new) g h = inr (record { before = h.before; at = h.at })
    at_effect (Remove p k) g h = inr (record { before = h.before; at = each_filter Waiting (λ w. w.item.number ≡ i → w.at ≡ c) (λ w. w.item.number ≡ i → w.at ≡ c) (λ w. not (waits_inside (child p k) w)) g.mail (λ w t q. q) h.at })

    pub at_lasts : IsLasting i (λ k mail made. IsAt mail made)
    at_lasts = record { effect = λ e g may h. at_effect e g h; change = λ p change k mail made h. h }

    pub at_without : (belongs : IpAddr → Bool) (k : Core) (mail : List Waiting) (made : ℕ) → IsAt mail made → IsAt (without_head belongs mail) made
    at_without belongs k mail made h = record { before = h.before; at = each_taken (λ w. w.item.number ≡ i → w.at ≡ c) belongs mail h.at }

    -- and where it waits no more, its instance is not there
    pub record IsPut (k : Core) (mail : List Waiting) (made : ℕ) : Type 0 where
      pub is_at : IsAt mail made
      pub born : Only c.path (λ b. Unit {0}) k.instances
      pub gone : NoneOf i mail → (z : Instance) → map.get k.instances c.path ≡ Some z → ⊥

    none_outside : (q : Path) (ws : List Waiting) → At i c ws → is_inside q c.path ≡ false → NoneOf i (outside_of q ws) → NoneOf i ws
    none_outside q [] at out none = tt
    none_outside q (w ∷ ws) at out none = by (is_inside q w.at.path) refl none (none_outside q ws at.1 out)
      where
        by : (b : Bool) → is_inside q w.at.path ≡ b → NoneOf i (cond (not b) (w ∷ outside_of q ws) (outside_of q ws)) → (NoneOf i (outside_of q ws) → NoneOf i ws) → NoneOf i (w ∷ ws)
        by true e n rest = ((λ m. not_both (is_inside q w.at.path) e (ap (λ (a : IpAddr). is_inside q a.path) (at.0 m) ∙ out)), rest n)
        by false e n rest = (n.0, rest n.1)

    -- without an instance there none comes
    stays_gone : (e : StatementEffect) (k : Core) → MayBeMade e k → Only c.path (λ b. Unit {0}) k.instances → ((z : Instance) → map.get k.instances c.path ≡ Some z → ⊥) → (z : Instance) → map.get (instances_after e k.instances) c.path ≡ Some z → ⊥
    stays_gone e k may born gone = (only_after c.path (λ b. ⊥) e k may (record { all_born = born.all_born; body = gone })).body

    gone_after : (e : StatementEffect) (g : Situation) → MayBeMade e g.core → IsPut g.core g.mail g.made → NoneOf i (mail_after e g.core.links g.made g.mail) → (z : Instance) → map.get (instances_after e g.core.instances) c.path ≡ Some z → ⊥
    unfolding mail_after
    gone_after (Output from ip name values) g may h n = stays_gone (Output from ip name values) g.core may h.born (h.gone (each_arrived_back (λ w. w.item.number ≡ i → ⊥) (record { number = suc g.made; name = name; values = values }) (route g.core.links from) g.mail n))
    gone_after (Connect a b) g may h n = stays_gone (Connect a b) g.core may h.born (h.gone n)
    gone_after (Disconnect a) g may h n = stays_gone (Disconnect a) g.core may h.born (h.gone n)
    gone_after (Attach upper lower) g may h n = stays_gone (Attach upper lower) g.core may h.born (h.gone (all_moved_back (λ m. m ≡ i → ⊥) upper (bottom (g.core.links ++ attachment upper lower ∷ []) lower) g.mail n))
    gone_after (Detach upper) g may h n = stays_gone (Detach upper) g.core may h.born (h.gone (all_moved_back (λ m. m ≡ i → ⊥) (bottom g.core.links upper) upper g.mail n))
    gone_after (Create p k new) g may h n = stays_gone (Create p k new) g.core may h.born (h.gone n)
    gone_after (Remove p k) g may h n = by (is_inside (child p k) c.path) refl
      where
        by : (b : Bool) → is_inside (child p k) c.path ≡ b → (z : Instance) → map.get (instances_after (Remove p k) g.core.instances) c.path ≡ Some z → ⊥
        by true e = removed_none p k c.path g.core.instances e
        by false e = stays_gone (Remove p k) g.core tt h.born (h.gone (none_outside (child p k) g.mail h.is_at.at e n))

    put_effect : (e : StatementEffect) (g : Situation) → MayBeMade e g.core → IsPut g.core g.mail g.made → Has (moves e g) i ⊎ IsPut (core_after e g.core) (mail_after e g.core.links g.made g.mail) (made_after e g.made)
    put_effect e g may h = elim (at_effect e g h.is_at) [
      | inl k ↦ inl k
      | inr at ↦ inr (record { is_at = at; born = only_after c.path (λ b. Unit {0}) e g.core may h.born; gone = gone_after e g may h })
    ]

    pub put_lasts : IsLasting i IsPut
    put_lasts = record {
      effect = put_effect;
      change = λ p change k mail made h. record {
        is_at = h.is_at;
        born = only_changed c.path (λ b. Unit {0}) p change k.instances h.born;
        gone = λ n. (only_changed c.path (λ b. ⊥) p change k.instances (record { all_born = h.born.all_born; body = h.gone n })).body;
      };
    }
