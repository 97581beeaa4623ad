-- How often a number is among those that wait, were dropped, or were lost, and what each effect makes of that.
use Rattle.std.proofs.Common.{◌≡◌, ℕ, suc, ◌+◌, ◌≤◌, Bool, true, false, ◌&&◌, List, [], ◌∷◌, ◌++◌, length, map as each, Option, Some, None, cond, refl, ap, ◌∙◌, arith, ◌⊎◌, ◌<◌, inl, inr}
use Rattle.std.specs.Prelude.{not, nat_eq, nat_lt, filter, fold, is_none}
use Rattle.std.proofs.lemmas.Bool.Decides.{nat_tests}
use Rattle.estelle_tree.specs.declared.link.IpAddr.{IpAddr}
use Rattle.estelle_tree.specs.Paths.{child}
use Rattle.estelle_tree.specs.Queues.{waits_at, waits_inside, brought_to, moved, without_head}
use Rattle.estelle_tree.specs.Links.{bottom, route, attachment}
use Rattle.estelle_model.specs.declared.effect.Out.{Out}
use Rattle.estelle_model.specs.declared.image.Interaction.{Interaction}
use Rattle.estelle_model.specs.Effects.{StatementEffect, Output, Connect, Disconnect, Attach, Detach, Create, Remove}
use Rattle.estelle_model.specs.Situation.{Waiting, Acting, on_situation, acting_after, put_number, arrived, mail_after, made_after, outs_after, drops_after}
use Rattle.estelle_model.specs.Queues.{Head, Absent, head_at}
use Rattle.estelle_model.proofs.AlikeFirings.{situation_is_faithful}
use Rattle.estelle_model_fates.specs.Fates.{numbers, lost_after, Fate, times}
use Rattle.estelle_model_fates.proofs.EveryBlock.{IsInvariant}

-- one where the numbers are the same
abbrev pub one_if : ℕ → ℕ → ℕ
one_if i n = cond (nat_eq i n) 1 0

abbrev pub occurs : ℕ → List ℕ → ℕ
occurs i [] = 0
occurs i (n ∷ ns) = one_if i n + occurs i ns

-- so much where it holds
abbrev where_true : Bool → ℕ → ℕ
where_true b n = cond b n 0

-- one for each output that there has been
abbrev pub one_below : ℕ → ℕ → ℕ
one_below i made = cond (nat_lt 0 i && not (nat_lt made i)) 1 0

pub one_more : (i made : ℕ) → one_below i made + one_if i (suc made) ≡ one_below i (suc made)
one_more i made = grind (arith, nat_tests)

pub is_one : (i made : ℕ) → 1 ≤ i → i ≤ made → one_below i made ≡ 1
is_one i made h k = grind (arith, nat_tests)

pub is_nothing : (i made : ℕ) → (i ≡ 0) ⊎ (made < i) → one_below i made ≡ 0
is_nothing i made (inl h) = grind (arith, nat_tests)
is_nothing i made (inr h) = grind (arith, nat_tests)

pub none_below : (i : ℕ) → one_below i 0 ≡ 0
none_below i = grind (arith, nat_tests)

pub times_length : (i : ℕ) (f : Fate) (ns : List ℕ) → length (times i f ns) ≡ occurs i ns
times_length i f [] = refl
times_length i f (n ∷ ns) = by (nat_eq i n) (times_length i f ns)
  where
    by : (b : Bool) → length (times i f ns) ≡ occurs i ns → length (each (λ (m : ℕ). f) (cond b (n ∷ filter (nat_eq i) ns) (filter (nat_eq i) ns))) ≡ cond b 1 0 + occurs i ns
    by true h = omega (arith, h)
    by false h = omega (arith, h)

occurs_append : (i : ℕ) (xs ys : List ℕ) → occurs i (xs ++ ys) ≡ occurs i xs + occurs i ys
occurs_append i [] ys = omega arith
occurs_append i (x ∷ xs) ys = let h = occurs_append i xs ys in omega (arith, h)

numbers_append : (xs ys : List Waiting) → numbers (xs ++ ys) ≡ numbers xs ++ numbers ys
numbers_append [] ys = refl
numbers_append (x ∷ xs) ys = ap (λ (l : List ℕ). x.item.number ∷ l) (numbers_append xs ys)

numbers_brought : (a : IpAddr) (xs : List Waiting) → numbers (each (brought_to a) xs) ≡ numbers xs
numbers_brought a [] = refl
numbers_brought a (x ∷ xs) = ap (λ (l : List ℕ). x.item.number ∷ l) (numbers_brought a xs)

occurs_split : (i : ℕ) (p : Waiting → Bool) (xs : List Waiting) → occurs i (numbers (filter (λ w. not (p w)) xs)) + occurs i (numbers (filter p xs)) ≡ occurs i (numbers xs)
occurs_split i p [] = refl
occurs_split i p (x ∷ xs) = by (p x) (occurs_split i p xs)
  where
    by : (b : Bool) → occurs i (numbers (filter (λ w. not (p w)) xs)) + occurs i (numbers (filter p xs)) ≡ occurs i (numbers xs)
        → occurs i (numbers (cond (not b) (x ∷ filter (λ w. not (p w)) xs) (filter (λ w. not (p w)) xs))) + occurs i (numbers (cond b (x ∷ filter p xs) (filter p xs))) ≡ one_if i x.item.number + occurs i (numbers xs)
    by true h = omega (arith, h)
    by false h = omega (arith, h)

occurs_moved : (i : ℕ) (a b : IpAddr) (mail : List Waiting) → occurs i (numbers (moved a b mail)) ≡ occurs i (numbers mail)
occurs_moved i a b mail =
    ap (occurs i) (numbers_append (filter (λ w. not (waits_at a w)) mail) (each (brought_to b) (filter (waits_at a) mail)))
    ∙ occurs_append i (numbers (filter (λ w. not (waits_at a w)) mail)) (numbers (each (brought_to b) (filter (waits_at a) mail)))
    ∙ ap (λ (l : List ℕ). occurs i (numbers (filter (λ w. not (waits_at a w)) mail)) + occurs i l) (numbers_brought b (filter (waits_at a) mail))
    ∙ occurs_split i (waits_at a) mail

occurs_put : (i : ℕ) (ms : List ℕ) (k : ℕ) → occurs i (put_number ms k) ≡ one_if i k + occurs i ms
occurs_put i [] k = refl
occurs_put i (m ∷ ms) k = by (nat_lt k m) (occurs_put i ms k)
  where
    by : (b : Bool) → occurs i (put_number ms k) ≡ one_if i k + occurs i ms → occurs i (cond b (k ∷ m ∷ ms) (m ∷ put_number ms k)) ≡ one_if i k + (one_if i m + occurs i ms)
    by true h = refl
    by false h = omega (arith, h)

occurs_put_all : (i : ℕ) (ks ms : List ℕ) → occurs i (fold put_number ms ks) ≡ occurs i ms + occurs i ks
occurs_put_all i [] ms = omega arith
occurs_put_all i (k ∷ ks) ms = let h = occurs_put_all i ks (put_number ms k) in let g = occurs_put i ms k in omega (arith, h, g)

lost_append : (i made : ℕ) (outs : List Out) (o : Out) → occurs i (lost_after made (outs ++ o ∷ [])) ≡ occurs i (lost_after made outs) + where_true o.lost (one_if i (suc (made + length outs)))
lost_append i made [] o = by o.lost
  where
    same : suc made ≡ suc (made + 0)
    same = omega arith

    by : (b : Bool) → occurs i (cond b (suc made ∷ []) []) ≡ 0 + where_true b (one_if i (suc (made + 0)))
    by true = let h : one_if i (suc made) ≡ one_if i (suc (made + 0)) = ap (λ (n : ℕ). one_if i n) same in omega (arith, h)
    by false = refl
lost_append i made (x ∷ outs) o = by x.lost (lost_append i (suc made) outs o)
  where
    same : where_true o.lost (one_if i (suc (suc made + length outs))) ≡ where_true o.lost (one_if i (suc (made + suc (length outs))))
    same = ap (λ (n : ℕ). where_true o.lost (one_if i n)) (omega arith)

    by : (b : Bool) → occurs i (lost_after (suc made) (outs ++ o ∷ [])) ≡ occurs i (lost_after (suc made) outs) + where_true o.lost (one_if i (suc (suc made + length outs)))
        → occurs i (cond b (suc made ∷ lost_after (suc made) (outs ++ o ∷ [])) (lost_after (suc made) (outs ++ o ∷ []))) ≡ occurs i (cond b (suc made ∷ lost_after (suc made) outs) (lost_after (suc made) outs)) + where_true o.lost (one_if i (suc (made + suc (length outs))))
    by true h = omega (arith, h, same)
    by false h = omega (arith, h, same)

length_append_one : (outs : List Out) (o : Out) → length (outs ++ o ∷ []) ≡ suc (length outs)
length_append_one [] o = refl
length_append_one (x ∷ outs) o = ap (λ (n : ℕ). suc n) (length_append_one outs o)

-- ---- a block

-- The outputs took the next numbers. Each number among those that wait, were dropped and were lost is one that was waiting, or one output more.
pub record IsCounted (i before : ℕ) (mail : List Waiting) (a : Acting) : Type 0 where
  pub made : a.situation.made ≡ before + length a.outs
  pub each : occurs i (numbers a.situation.mail) + occurs i a.drops + occurs i (lost_after before a.outs) + one_below i before ≡ occurs i (numbers mail) + one_below i a.situation.made

module _ (i before : ℕ) (mail : List Waiting) where
  output_counted : (item : Interaction) (out : Out) (o : Option IpAddr) (a : Acting) → item.number ≡ suc a.situation.made → out.lost ≡ is_none o → a.situation.made ≡ before + length a.outs
      → occurs i (numbers (arrived item o a.situation.mail)) + occurs i (lost_after before (a.outs ++ out ∷ [])) ≡ occurs i (numbers a.situation.mail) + occurs i (lost_after before a.outs) + one_if i (suc a.situation.made)
  output_counted item out None a number lost made =
      let e = lost_append i before a.outs out in
      let l : where_true out.lost (one_if i (suc (before + length a.outs))) ≡ one_if i (suc (before + length a.outs)) = ap (λ b. where_true b (one_if i (suc (before + length a.outs)))) lost in
      let m : one_if i (suc a.situation.made) ≡ one_if i (suc (before + length a.outs)) = ap (λ (n : ℕ). one_if i (suc n)) made in
      omega (arith, e, l, m)
  output_counted item out (Some at) a number lost made =
      let e = lost_append i before a.outs out in
      let l : where_true out.lost (one_if i (suc (before + length a.outs))) ≡ 0 = ap (λ b. where_true b (one_if i (suc (before + length a.outs)))) lost in
      let g : occurs i (numbers (a.situation.mail ++ record { item = item; at = at } ∷ [])) ≡ occurs i (numbers a.situation.mail) + (one_if i item.number + 0) =
      ap (occurs i) (numbers_append a.situation.mail (record { item = item; at = at } ∷ [])) ∙ occurs_append i (numbers a.situation.mail) (item.number ∷ []) in
      let m : one_if i item.number ≡ one_if i (suc a.situation.made) = ap (λ (n : ℕ). one_if i n) number in
      omega (arith, e, l, g, m)

  after : (e : StatementEffect) (a : Acting) → IsCounted i before mail a → IsCounted i before mail (acting_after e a)
  unfolding mail_after made_after outs_after drops_after
  after (Output from ip name values) a h = record {
    made = let x = h.made in let l = length_append_one a.outs (record { path = from.path; ip = ip; name = name; values = values; lost = is_none (route a.situation.core.links from) }) in omega (arith, x, l);
    each =
        let x = h.each in
        let y = output_counted (record { number = suc a.situation.made; name = name; values = values }) (record { path = from.path; ip = ip; name = name; values = values; lost = is_none (route a.situation.core.links from) }) (route a.situation.core.links from) a refl refl h.made in
        let w = one_more i a.situation.made in omega (arith, x, y, w);
  }
  after (Connect p q) a h = record { made = h.made; each = h.each }
  after (Disconnect p) a h = record { made = h.made; each = h.each }
  after (Attach upper lower) a h = record { made = h.made; each = let x = h.each in let y = occurs_moved i upper (bottom (a.situation.core.links ++ attachment upper lower ∷ []) lower) a.situation.mail in omega (arith, x, y) }
  after (Detach upper) a h = record { made = h.made; each = let x = h.each in let y = occurs_moved i (bottom a.situation.core.links upper) upper a.situation.mail in omega (arith, x, y) }
  after (Create p k new) a h = record { made = h.made; each = h.each }
  after (Remove p k) a h = record {
    made = h.made;
    each = let x = h.each in let y = occurs_split i (waits_inside (child p k)) a.situation.mail in
        let z = occurs_put_all i (numbers (filter (waits_inside (child p k)) a.situation.mail)) a.drops in omega (arith, x, y, z);
  }

  pub counted : IsInvariant Acting on_situation (IsCounted i before mail)
  counted = record { faithful = situation_is_faithful; does = λ e a may h. after e a h; keeps = λ p change a h. record { made = h.made; each = h.each } }

-- ---- what a firing takes

pub head_counted : (i : ℕ) (belongs : IpAddr → Bool) (a : IpAddr) (mail : List Waiting) (item : Interaction) → head_at a (filter (λ w. belongs w.at) mail) ≡ Head item
    → occurs i (numbers (without_head belongs mail)) + one_if i item.number ≡ occurs i (numbers mail)
head_counted i belongs a [] item h = absurd (cc)
head_counted i belongs a (w ∷ ws) item h = by (belongs w.at) h (head_counted i belongs a ws item)
  where
    first : (c : Bool) → cond c (Head w.item) Absent ≡ Head item → occurs i (numbers ws) + one_if i item.number ≡ one_if i w.item.number + occurs i (numbers ws)
    first true e =
        let same : w.item ≡ item = cc in
        let n : one_if i w.item.number ≡ one_if i item.number = ap (λ (x : Interaction). one_if i x.number) same in
        omega (arith, n)
    first false e = absurd (cc)

    by : (b : Bool) → head_at a (cond b (w ∷ filter (λ v. belongs v.at) ws) (filter (λ v. belongs v.at) ws)) ≡ Head item
        → (head_at a (filter (λ v. belongs v.at) ws) ≡ Head item → occurs i (numbers (without_head belongs ws)) + one_if i item.number ≡ occurs i (numbers ws))
        → occurs i (numbers (cond b ws (w ∷ without_head belongs ws))) + one_if i item.number ≡ one_if i w.item.number + occurs i (numbers ws)
    by true e rest = first (waits_at a w) e
    by false e rest = let x = rest e in omega (arith, x)
