-- First in, first out, over whole runs.
use Rattle.std.proofs.Common.{◌≡◌, ◌⊎◌, ℕ, zero, suc, ◌+◌, ◌<◌, ◌≤◌, Bool, true, false, ◌&&◌, List, [], ◌∷◌, ◌++◌, take, length, map as each, Option, Some, None, cond, refl, sym, ap, ap₂, subst, ◌∙◌, inl, inr, arith}
use Rattle.std.specs.Prelude.{not, nat_eq, nat_lt, filter, slice_get, option_map}
use Rattle.std.specs.FinMap as map
use Rattle.std.specs.Str.{bytes_eq}
use Rattle.estelle_tree.specs.declared.link.IpAddr.{IpAddr}
use Rattle.estelle_tree.specs.Paths.{Path}
use Rattle.estelle_tree.specs.Links.{same_ip}
use Rattle.estelle_tree.specs.Queues as queues
use Rattle.estelle_tree.specs.Queues.{waits_at, brought_to, moved, waiting}
use Rattle.estelle_model.specs.declared.image.Interaction.{Interaction}
use Rattle.estelle_model.specs.declared.event.Event.{Event}
use Rattle.estelle_model.specs.declared.event.Event.TheVariants.{Start, Select, Fire, Fault}
use Rattle.estelle_model.specs.Core.{Instance, Instances, Core}
use Rattle.estelle_model.specs.Blocks.{fresh}
use Rattle.estelle_model.specs.Clauses.{start_step}
use Rattle.estelle_model.specs.Transitions.{Transition, When}
use Rattle.estelle_model.specs.Subject.{Subject}
use Rattle.estelle_model.specs.Situation.{Waiting, Situation}
use Rattle.estelle_model.specs.Queues.{Found, NotNeeded, Head, Absent, is_common, one_queue, queue, head_at, received}
use Rattle.estelle_model.specs.Firing.{Firing, Ran, Failed, Undefined, transition_at, start, bare}
use Rattle.estelle_model.specs.Jobs.{received_by}
use Rattle.estelle_model.specs.Runs.{next, Goes, Begins, IsRun, started, after_first, after_events, situation, situation_at}
use Rattle.estelle_model_legality.specs.Instances.{LeadsToStates}
use Rattle.estelle_model_legality.specs.Situations.{IsLegal}
use Rattle.estelle_model_legality.specs.Keeping.{HasStarted}
use Rattle.estelle_model_legality.proofs.Keeping.{runs_are_legal}
use Rattle.estelle_model_legality.proofs.Lists.{and_both, both_and, or_cases, or_left, or_right, not_both, same_number, path_is, same_path, some_is, each_more}
use Rattle.estelle_model_legality.proofs.Linking.{same_ip_is, same_ip_itself}
use Rattle.estelle_model_legality.proofs.Members.{Has, contains_has, has_contained, has_append, has_filter, filter_has}
use Rattle.estelle_model_fates.specs.Fates.{Fate, Consumed, Dropped, Lost, Waits, number_of, consumed_by, dropped_by, lost_after, outs_of, numbers, times, fates_by, fates_from, fates, HasFate}
use Rattle.estelle_model_fates.specs.Order.{on_watched, Watched, watched, moved_of, moved_by, moved_from, moved_in, IsNeverMoved, point_of_when, point_received, IsTakenFrom, NoneIsOvertaken, FirstInFirstOut, MovesKeepOrder}
use Rattle.estelle_model_fates.proofs.Counts.{one_below}
use Rattle.estelle_model_fates.proofs.Fates.{run_accounts}
use Rattle.estelle_model_fates.proofs.Vanished.{Only, all_born_of}
use Rattle.estelle_model_fates.proofs.Lasting.{IsLasting, Holds, has_left, has_right, After, start_after, goes_lasts}
use Rattle.estelle_model_fates.proofs.Order.{NoneOf, number_in, number_has, only_one, IsFront, front_lasts, front_without, only_lasts, IsAt, at_lasts, at_without}
use Rattle.estelle_model_fates.proofs.Overtaking.{each_has, with_number, IsTaken, is_taken, one_path, queue_stays, there_of, from_start}

-- ---- moves

waiting_append : (b : IpAddr) (xs ys : List Waiting) → waiting b (xs ++ ys) ≡ waiting b xs ++ waiting b ys
waiting_append b [] ys = refl
waiting_append b (x ∷ xs) ys = by (waits_at b x) (waiting_append b xs ys)
  where
    by : (c : Bool) → waiting b (xs ++ ys) ≡ waiting b xs ++ waiting b ys → cond c (x ∷ waiting b (xs ++ ys)) (waiting b (xs ++ ys)) ≡ cond c (x ∷ waiting b xs) (waiting b xs) ++ waiting b ys
    by true e = ap (λ (l : List Waiting). x ∷ l) e
    by false e = e

all_brought : (b : IpAddr) (xs : List Waiting) → waiting b (each (brought_to b) xs) ≡ each (brought_to b) xs
all_brought b [] = refl
all_brought b (x ∷ xs) = ap (λ c. cond c (brought_to b x ∷ waiting b (each (brought_to b) xs)) (waiting b (each (brought_to b) xs))) (same_ip_itself b) ∙ ap (λ (l : List Waiting). brought_to b x ∷ l) (all_brought b xs)

others_stay : (a b : IpAddr) → same_ip a b ≡ false → (xs : List Waiting) → waiting b (filter (λ w. not (waits_at a w)) xs) ≡ waiting b xs
others_stay a b differ [] = refl
others_stay a b differ (x ∷ xs) = by (waits_at a x) refl (waits_at b x) refl (others_stay a b differ xs)
  where
    by : (c : Bool) → waits_at a x ≡ c → (d : Bool) → waits_at b x ≡ d → waiting b (filter (λ w. not (waits_at a w)) xs) ≡ waiting b xs → waiting b (cond (not c) (x ∷ filter (λ w. not (waits_at a w)) xs) (filter (λ w. not (waits_at a w)) xs)) ≡ cond d (x ∷ waiting b xs) (waiting b xs)
    by true at true too e = absurd (not_both (same_ip a b) (subst (λ (p : IpAddr). same_ip a p ≡ true) (sym (same_ip_is b x.at too)) at) differ)
    by true at false too e = e
    by false at d too e = ap (λ c. cond c (x ∷ waiting b (filter (λ w. not (waits_at a w)) xs)) (waiting b (filter (λ w. not (waits_at a w)) xs))) too ∙ ap (λ (l : List Waiting). cond d (x ∷ l) l) e

pub moves_keep_order : MovesKeepOrder
moves_keep_order a b mail differ =
    waiting_append b (filter (λ w. not (waits_at a w)) mail) (each (brought_to b) (waiting a mail))
    ∙ ap₂ (λ (xs ys : List Waiting). xs ++ ys) (others_stay a b differ mail) (all_brought b (waiting a mail))

-- ---- one queue

module _ (s : Subject) (x : Instances) where
  -- the same point, or two common ones of one instance
  abbrev Shares : IpAddr → IpAddr → Type 0
  Shares a b = (a ≡ b) ⊎ ((a.path ≡ b.path) × (is_common s x a ≡ true) × (is_common s x b ≡ true))

  shares : (a b : IpAddr) → one_queue s x a b ≡ true → Shares a b
  shares a b h = elim (or_cases (same_ip a b) (bytes_eq a.path b.path && (is_common s x a && is_common s x b)) h) [
    | inl e ↦ inl (same_ip_is a b e)
    | inr e ↦ let p = and_both (bytes_eq a.path b.path) (is_common s x a && is_common s x b) e in let q = and_both (is_common s x a) (is_common s x b) p.1 in inr (same_path a.path b.path p.0, q.0, q.1)
  ]

  one_of : (a b : IpAddr) → Shares a b → one_queue s x a b ≡ true
  one_of a b (inl e) = subst (λ (c : IpAddr). one_queue s x a c ≡ true) e (or_left (same_ip a a) (bytes_eq a.path a.path && (is_common s x a && is_common s x a)) (same_ip_itself a))
  one_of a b (inr h) = or_right (same_ip a b) (bytes_eq a.path b.path && (is_common s x a && is_common s x b))
      (both_and (bytes_eq a.path b.path) (is_common s x a && is_common s x b) (subst (λ (p : Path). bytes_eq a.path p ≡ true) h.0 (path_is a.path)) (both_and (is_common s x a) (is_common s x b) h.1 h.2))

  with_both : (a b c : IpAddr) → Shares a b → Shares a c → Shares b c
  with_both a b c (inl e) k = subst (λ (d : IpAddr). Shares d c) e k
  with_both a b c (inr h) (inl e) = subst (λ (d : IpAddr). Shares b d) e (inr (sym h.0, h.2, h.1))
  with_both a b c (inr h) (inr k) = inr (sym h.0 ∙ k.0, h.2, k.2)

  joined : (a b c : IpAddr) → one_queue s x a b ≡ true → one_queue s x a c ≡ true → one_queue s x b c ≡ true
  joined a b c h k = one_of b c (with_both a b c (shares a b h) (shares a c k))

-- ---- the head

head_has : (a : IpAddr) (belongs : IpAddr → Bool) (ws : List Waiting) (item : Interaction) → head_at a (filter (λ w. belongs w.at) ws) ≡ Head item → (w : Waiting) × (Has ws w) × (w.item ≡ item) × (a ≡ w.at)
head_has a belongs [] item h = absurd (cc)
head_has a belongs (w ∷ ws) item h = by (belongs w.at) h (head_has a belongs ws item)
  where
    first : (c : Bool) → waits_at a w ≡ c → cond c (Head w.item) Absent ≡ Head item → (v : Waiting) × (Has (w ∷ ws) v) × (v.item ≡ item) × (a ≡ v.at)
    first true at e = (w, inl refl, cc, same_ip_is a w.at at)
    first false at e = absurd (cc)

    by : (b : Bool) → head_at a (cond b (w ∷ filter (λ v. belongs v.at) ws) (filter (λ v. belongs v.at) ws)) ≡ Head item
        → (head_at a (filter (λ v. belongs v.at) ws) ≡ Head item → (v : Waiting) × (Has ws v) × (v.item ≡ item) × (a ≡ v.at)) → (v : Waiting) × (Has (w ∷ ws) v) × (v.item ≡ item) × (a ≡ v.at)
    by true e rest = first (waits_at a w) refl e
    by false e rest = let r = rest e in (r.0, inr r.1, r.2, r.3)

-- ---- fates and events

times_from : (i : ℕ) (f h : Fate) (ns : List ℕ) → Has (times i f ns) h → (f ≡ h) × Has ns i
times_from i f h [] k = absurd k
times_from i f h (n ∷ ns) k = by (nat_eq i n) refl k (times_from i f h ns)
  where
    by : (b : Bool) → nat_eq i n ≡ b → Has (each (λ (m : ℕ). f) (cond b (n ∷ filter (nat_eq i) ns) (filter (nat_eq i) ns))) h → (Has (times i f ns) h → (f ≡ h) × Has ns i) → (f ≡ h) × ((n ≡ i) ⊎ Has ns i)
    by true e (inl same) rest = (same, inl (sym (same_number i n e)))
    by true e (inr more) rest = let r = rest more in (r.0, inr r.1)
    by false e more rest = let r = rest more in (r.0, inr r.1)

module _ (s : Subject) (budget i k : ℕ) where
  event_consumes : (g : Situation) (x : ℕ) (e : Event) → Has (fates_by s g x e i) (Consumed k) → (k ≡ x) × Has (consumed_by s g e) i
  event_consumes g x e h = elim (has_append (times i (Consumed x) (consumed_by s g e) ++ times i (Dropped x) (dropped_by e)) (times i (Lost x) (lost_after g.made (outs_of e))) (Consumed k) h) [
    | inl l ↦ elim (has_append (times i (Consumed x) (consumed_by s g e)) (times i (Dropped x) (dropped_by e)) (Consumed k) l) [
      | inl c ↦ let r = times_from i (Consumed x) (Consumed k) (consumed_by s g e) c in let same : x ≡ k = cc in (sym same, r.1)
      | inr d ↦ absurd (let wrong : Dropped x ≡ Consumed k = (times_from i (Dropped x) (Consumed k) (dropped_by e) d).0 in cc)
    ]
    | inr l ↦ absurd (let wrong : Lost x ≡ Consumed k = (times_from i (Lost x) (Consumed k) (lost_after g.made (outs_of e)) l).0 in cc)
  ]

  -- the event that consumed it, counted from a situation
  record IsConsumer (g : Situation) (x : ℕ) (es : List Event) : Type 0 where
    place : ℕ
    is : k ≡ x + place
    event : Event
    there : slice_get es place ≡ Some event
    consumes : Has (consumed_by s (after_events s budget g (take place es)) event) i

  goes_consumes : (es : List Event) (g : Situation) (x : ℕ) → Has (fates_from s budget g x es i) (Consumed k) → IsConsumer g x es
  goes_consumes [] g x h = absurd (let wrong : Waits ≡ Consumed k = (times_from i Waits (Consumed k) (numbers g.mail) h).0 in cc)
  goes_consumes (e ∷ es) g x h = elim (has_append (fates_by s g x e i) (fates_from s budget (next s budget g e) (suc x) es i) (Consumed k) h) [
    | inl l ↦ let r = event_consumes g x e l in record { place = 0; is = (let e = r.0 in omega (arith, e)); event = e; there = refl; consumes = r.1 }
    | inr l ↦ let r = goes_consumes es (next s budget g e) (suc x) l in record { place = suc r.place; is = (let e = r.is in omega (arith, e)); event = r.event; there = r.there; consumes = r.consumes }
  ]

  -- a firing takes it somewhere
  of_found : (f : Found) → Has (number_of f) i → number_of f ≡ i ∷ []
  of_found NotNeeded h = absurd h
  of_found Absent h = absurd h
  of_found (Head item) (inl e) = ap (λ (n : ℕ). n ∷ []) e
  of_found (Head item) (inr h) = absurd h

  of_when : (g : Situation) (m : Path) (o : Option When) → Has (number_of (received s g m o)) i → (b : IpAddr) × (option_map (λ (w : When). record { path = m; ip = w.ip }) o ≡ Some b) × (number_of (received s g m o) ≡ i ∷ [])
  of_when g m None h = absurd h
  of_when g m (Some w) h = (record { path = m; ip = w.ip }, refl, of_found (received s g m (Some w)) h)

  of_transition : (g : Situation) (m : Path) (o : Option Transition) → Has (number_of (received_by s g m o)) i → (b : IpAddr) × (point_of_when m o ≡ Some b) × (number_of (received_by s g m o) ≡ i ∷ [])
  of_transition g m None h = absurd h
  of_transition g m (Some t) h = of_when g m t.when h

  somewhere : (g : Situation) (e : Event) → Has (consumed_by s g e) i → (b : IpAddr) × (point_received s g e ≡ Some b) × (consumed_by s g e ≡ i ∷ [])
  somewhere g (Start outs drops) h = absurd h
  somewhere g (Select system now takes) h = absurd h
  somewhere g (Fire m n outs drops) h = of_transition g m (transition_at s n (map.get g.core.instances m)) h
  somewhere g (Fault m n kind) h = absurd h

one_at_most : (i made : ℕ) → one_below i made ≤ 1
one_at_most i made = by (nat_lt 0 i && not (nat_lt made i))
  where
    by : (b : Bool) → cond b 1 0 ≤ 1
    by true = omega arith
    by false = omega arith

only_fate : (xs : List Fate) (f : Fate) → length xs ≤ 1 → Has xs f → xs ≡ f ∷ []
only_fate [] f l h = absurd h
only_fate (x ∷ []) f l (inl e) = ap (λ (y : Fate). y ∷ []) e
only_fate (x ∷ []) f l (inr h) = absurd h
only_fate (x ∷ y ∷ xs) f l h = absurd (omega (arith, l))

-- ---- runs

order : (x y : ℕ) → (x ≤ y) ⊎ (y ≤ x)
order zero y = inl (omega arith)
order (suc x) zero = inr (omega arith)
order (suc x) (suc y) = elim (order x y) [ inl h ↦ inl (omega (arith, h)) | inr h ↦ inr (omega (arith, h)) ]

module _ (i : ℕ) (s : Subject) (budget : ℕ) (K : Core → List Waiting → ℕ → Type 0) (lasting : IsLasting i K) (without : (belongs : IpAddr → Bool) (c : Core) (mail : List Waiting) (made : ℕ) → K c mail made → K c (queues.without_head belongs mail) made) where
  between : (es : List Event) (g : Situation) → Goes s budget g es → (Has (moved_from s budget g es) i → ⊥) → (x y : ℕ) → x ≤ y → Holds i K lasting (after_events s budget g (take x es)) → Holds i K lasting (after_events s budget g (take y es))
  between es g goes never zero y within k = goes_lasts i K lasting s budget without es g goes never k y
  between es g goes never (suc x) zero within k = absurd (omega (arith, within))
  between [] g goes never (suc x) (suc y) within k = k
  between (e ∷ es) g goes never (suc x) (suc y) within k = between es (next s budget g e) goes.2 (λ h. never (has_right (moved_by s budget g e) (moved_from s budget (next s budget g e) es) i h)) x y (omega (arith, within)) k

module _ (s : Subject) (leads : LeadsToStates s) (budget : ℕ) (e : Event) (es : List Event) (run : IsRun s budget (e ∷ es)) (ran : HasStarted (start s budget)) where
  abbrev g : Situation
  g = started s (start s budget)

  abbrev at : ℕ → Situation
  at x = situation_at s budget (e ∷ es) x

  goes_of : (first : Firing) (f : Event) → HasStarted first → Begins s budget first f es → Goes s budget (started s first) es
  goes_of (Ran h outs drops left) (Start outs' drops') ran begins = begins.2
  goes_of (Ran h outs drops left) (Select system now takes) ran begins = absurd begins
  goes_of (Ran h outs drops left) (Fire m n outs' drops') ran begins = absurd begins
  goes_of (Ran h outs drops left) (Fault m n kind) ran begins = absurd begins
  goes_of (Failed kind left) f ran begins = absurd ran
  goes_of Undefined f ran begins = absurd ran

  nothing_of : (first : Firing) (f : Event) → HasStarted first → Begins s budget first f es → (h : Situation) → consumed_by s h f ≡ []
  nothing_of (Ran h outs drops left) (Start outs' drops') ran begins g = refl
  nothing_of (Ran h outs drops left) (Select system now takes) ran begins g = absurd begins
  nothing_of (Ran h outs drops left) (Fire m n outs' drops') ran begins g = absurd begins
  nothing_of (Ran h outs drops left) (Fault m n kind) ran begins g = absurd begins
  nothing_of (Failed kind left) f ran begins g = absurd ran
  nothing_of Undefined f ran begins g = absurd ran

  goes : Goes s budget g es
  goes = goes_of (start s budget) e ran run

  legal : (x : ℕ) → IsLegal s (at x)
  legal = runs_are_legal s leads budget (e ∷ es) run ran

  module _ (i : ℕ) (never : IsNeverMoved s budget (e ∷ es) i) where
    never_later : Has (moved_from s budget g es) i → ⊥
    never_later h = never (contains_has (moved_in s budget (e ∷ es)) i (has_right (moved_by s budget (bare s) e) (moved_from s budget g es) i h))

    never_first : Has (moved_by s budget (bare s) e) i → ⊥
    never_first h = never (contains_has (moved_in s budget (e ∷ es)) i (has_left (moved_by s budget (bare s) e) (moved_from s budget g es) i h))

    front_of : (first : Firing) (f : Event) → HasStarted first → Begins s budget first f es → (Has (moved_by s budget (bare s) f) i → ⊥) → After i (IsFront i) (front_lasts i) (moved_of (start_step Watched on_watched s (fresh (watched (bare s)) budget))) first → Holds i (IsFront i) (front_lasts i) (started s first)
    front_of (Ran h outs drops left) (Start outs' drops') ran begins none (inl k) = absurd (none k)
    front_of (Ran h outs drops left) (Start outs' drops') ran begins none (inr k) = k
    front_of (Ran h outs drops left) (Select system now takes) ran begins none k = absurd begins
    front_of (Ran h outs drops left) (Fire m n outs' drops') ran begins none k = absurd begins
    front_of (Ran h outs drops left) (Fault m n kind) ran begins none k = absurd begins
    front_of (Failed kind left) f ran begins none k = absurd ran
    front_of Undefined f ran begins none k = absurd ran

    front_first : Holds i (IsFront i) (front_lasts i) g
    front_first = front_of (start s budget) e ran run never_first (start_after i (IsFront i) (front_lasts i) s budget (record { below = tt; front = tt }))

    lasts : (K : Core → List Waiting → ℕ → Type 0) (lasting : IsLasting i K) → ((belongs : IpAddr → Bool) (c : Core) (mail : List Waiting) (made : ℕ) → K c mail made → K c (queues.without_head belongs mail) made) → (x y : ℕ) → x ≤ y → Holds i K lasting (at x) → Holds i K lasting (at y)
    lasts K lasting without zero zero within k = k
    lasts K lasting without zero (suc y) within k = goes_lasts i K lasting s budget without es g goes never_later k y
    lasts K lasting without (suc x) zero within k = absurd (omega (arith, within))
    lasts K lasting without (suc x) (suc y) within k = between i s budget K lasting without es g goes never_later x y (omega (arith, within)) k

    front : (x : ℕ) → Holds i (IsFront i) (front_lasts i) (at x)
    front x = lasts (IsFront i) (front_lasts i) (front_without i) 0 x (omega arith) front_first

    -- where it waits, it waits from then on
    stays_at : (x y : ℕ) → x ≤ y → (w v : Waiting) → Has (at x).mail w → w.item.number ≡ i → Has (at y).mail v → v.item.number ≡ i → v.at ≡ w.at
    stays_at x y within w v in_x is_w in_y is_v =
        let later = lasts (λ k mail made. IsAt i w.at mail made) (at_lasts i w.at) (at_without i w.at) x y within
        (record { before = subst (λ (n : ℕ). n ≤ (at x).made) is_w ((legal x).mail.made w (contains_has (at x).mail w in_x)); at = only_one i (at x).mail w (front x).front in_x is_w }) in
        each_has (λ (u : Waiting). u.item.number ≡ i → u.at ≡ w.at) (at y).mail v later.at in_y is_v

    -- where it does not wait, but has been made, it waits no more
    waits_no_more : (x y : ℕ) → x ≤ y → i ≤ (at x).made → NoneOf i (at x).mail → (v : Waiting) → Has (at y).mail v → v.item.number ≡ i → ⊥
    waits_no_more x y within made none v in_y is_v =
        let at_of : (c : IpAddr) → v.at ≡ c = λ c. each_has (λ (u : Waiting). u.item.number ≡ i → u.at ≡ c) (at y).mail v
        (lasts (λ k mail made. IsAt i c mail made) (at_lasts i c) (at_without i c) x y within (record { before = made; at = each_more Waiting (λ u. u.item.number ≡ i → ⊥) (λ u. u.item.number ≡ i → u.at ≡ c) (at x).mail (λ u n is. absurd (n is)) none })).at in_y is_v in
        let one : IpAddr = record { path = []; ip = 0 } in
        let other : IpAddr = record { path = []; ip = 1 } in
        let same : one ≡ other = sym (at_of one) ∙ at_of other in
        let wrong : one.ip ≡ other.ip = ap (λ (c : IpAddr). c.ip) same in
        absurd (omega (arith, wrong))

    -- the instance at a path has one body
    one_body : (x y : ℕ) → x ≤ y → (q : Path) (z z' : Instance) → map.get (at x).core.instances q ≡ Some z → map.get (at y).core.instances q ≡ Some z' → z'.body ≡ z.body
    one_body x y within q z z' in_x in_y =
        let later = lasts (λ c mail made. Only q (λ b. b ≡ z.body) c.instances) (only_lasts i q (λ b. b ≡ z.body)) (λ belongs c mail made h. h) x y within
        (record { all_born = all_born_of s (at x).core.instances (legal x).instances q z in_x; body = λ u is. ap (λ (v : Instance). v.body) (some_is u z (map.get (at x).core.instances q) is in_x) }) in
        later.body z' in_y

    one_body_of : (x y : ℕ) (q : Path) (z z' : Instance) → map.get (at x).core.instances q ≡ Some z → map.get (at y).core.instances q ≡ Some z' → z'.body ≡ z.body
    one_body_of x y q z z' in_x in_y = elim (order x y) [ inl h ↦ one_body x y h q z z' in_x in_y | inr h ↦ sym (one_body y x h q z' z in_y in_x) ]

    -- ---- overtaking

    instance_of : (x : ℕ) (w : Waiting) → Has (at x).mail w → (z : Instance) × (map.get (at x).core.instances w.at.path ≡ Some z)
    instance_of x w in_x = let may = ((legal x).mail.each w (contains_has (at x).mail w in_x)).arrives in there_of s (map.get (at x).core.instances w.at.path) w.at.ip may.at may.there

    -- it waits in the queue of an interaction point
    abbrev Queued : ℕ → IpAddr → Type 0
    Queued x a = Has (numbers (queue s (at x) a)) i

    record IsQueued (x : ℕ) (a : IpAddr) : Type 0 where
      w : Waiting
      in_mail : Has (at x).mail w
      number : w.item.number ≡ i
      one : one_queue s (at x).core.instances a w.at ≡ true

    queued : (x : ℕ) (a : IpAddr) → Queued x a → IsQueued x a
    queued x a h =
        let w = with_number i (queue s (at x) a) h in
        let m = has_filter (λ (v : Waiting). one_queue s (at x).core.instances a v.at) (at x).mail w.0 w.1 in
        record { w = w.0; in_mail = m.0; number = w.2; one = m.1 }

    of_queued : (x : ℕ) (a : IpAddr) (w : Waiting) → Has (at x).mail w → w.item.number ≡ i → one_queue s (at x).core.instances a w.at ≡ true → Queued x a
    of_queued x a w in_mail number one = number_has i (queue s (at x) a) w (filter_has (λ (v : Waiting). one_queue s (at x).core.instances a v.at) (at x).mail w in_mail one) number

    module _ (j : ℕ) (later : i < j) (a : IpAddr) where
      -- it has waited there already where a later one is taken
      already : (x k : ℕ) → k ≤ x → Queued x a → IsTaken s (at k) a j → Queued k a
      already x k within h taken = by (number_in i (at k).mail)
        where
          before : i ≤ (at k).made
          before =
              let v = head_has a (one_queue s (at k).core.instances a) (at k).mail taken.item taken.head in
              let made = (legal k).mail.made v.0 (contains_has (at k).mail v.0 v.1) in
              let n : v.0.item.number ≡ taken.item.number = ap (λ (y : Interaction). y.number) v.2 in
              let m = taken.number in omega (arith, made, n, m, later)

          by : Has (numbers (at k).mail) i ⊎ NoneOf i (at k).mail → Queued k a
          by (inr none) = let q = queued x a h in absurd (waits_no_more k x within before none q.w q.in_mail q.number)
          by (inl here) =
              let q = queued x a h in
              let u = with_number i (at k).mail here in
              let same : q.w.at ≡ u.0.at = stays_at k x within u.0 q.w u.1 u.2 q.in_mail q.number in
              let z = instance_of x q.w q.in_mail in
              let z' = instance_of k u.0 u.1 in
              let in_x : map.get (at x).core.instances u.0.at.path ≡ Some z.0 = subst (λ (p : IpAddr). map.get (at x).core.instances p.path ≡ Some z.0) same z.1 in
              of_queued k a u.0 u.1 u.2 (queue_stays s (at x).core.instances (at k).core.instances a u.0.at z.0 z'.0 in_x z'.1 (one_body_of x k u.0.at.path z.0 z'.0 in_x z'.1)
              (subst (λ (p : IpAddr). one_queue s (at x).core.instances a p ≡ true) same q.one))

      consumed_after : (x k : ℕ) → x ≤ k → Queued x a → (f : Event) → slice_get (e ∷ es) k ≡ Some f → consumed_by s (at k) f ≡ j ∷ [] → IsTaken s (at k) a j → (k' : ℕ) × (k' < k) × Has (fates s budget (e ∷ es) i) (Consumed k')
      consumed_after x zero within h f there consumed taken =
          let same : e ≡ f = cc in
          let wrong : j ∷ [] ≡ [] = sym consumed ∙ ap (λ (y : Event). consumed_by s (at 0) y) (sym same) ∙ nothing_of (start s budget) e ran run (at 0) in
          absurd (cc)
      consumed_after zero (suc k) within h f there consumed taken =
          let r = from_start i s budget leads j a later es g 1 0 k (omega arith) goes never_later (legal 0) front_first h f there taken in
          let l = r.1 in (1 + r.0, omega (arith, l), has_right (fates_by s (bare s) 0 e i) (fates_from s budget g 1 es i) (Consumed (1 + r.0)) r.2)
      consumed_after (suc x) (suc k) within h f there consumed taken =
          let r = from_start i s budget leads j a later es g 1 x k (omega (arith, within)) goes never_later (legal 0) front_first h f there taken in
          let l = r.1 in (1 + r.0, omega (arith, l), has_right (fates_by s (bare s) 0 e i) (fates_from s budget g 1 es i) (Consumed (1 + r.0)) r.2)

      consumed_first : (x k : ℕ) → Queued x a → IsTakenFrom s budget (e ∷ es) k a j → (k' : ℕ) × (k' < k) × HasFate s budget (e ∷ es) i (Consumed k')
      consumed_first x k h from =
          let taken = is_taken s (at k) from.event j a from.consumed from.from in
          let r : (k' : ℕ) × (k' < k) × Has (fates s budget (e ∷ es) i) (Consumed k') = elim (order x k) [
            | inl l ↦ consumed_after x k l h from.event from.there from.consumed taken
            | inr l ↦ consumed_after k k (omega arith) (already x k l h taken) from.event from.there from.consumed taken
          ] in
          let n = run_accounts i s budget (e ∷ es) run in
          let m = one_at_most i (situation s budget (e ∷ es)).made in
          (r.0, r.1, only_fate (fates s budget (e ∷ es) i) (Consumed r.0) (omega (arith, n, m)) r.2)

  -- ---- where a later one was put and consumed

  module _ (i j : ℕ) (first : IsNeverMoved s budget (e ∷ es) i) (second : IsNeverMoved s budget (e ∷ es) j) (a : IpAddr) where
    -- the point at which it is taken shares the queue in which it has waited
    taken_there : (y k : ℕ) (b : IpAddr) → Queued j second y a → IsTaken s (at k) b j → one_queue s (at y).core.instances a b ≡ true
    taken_there y k b h taken =
        let q = queued j second y a h in
        let v = head_has b (one_queue s (at k).core.instances b) (at k).mail taken.item taken.head in
        let n : v.0.item.number ≡ j = ap (λ (u : Interaction). u.number) v.2 ∙ taken.number in
        let same : q.w.at ≡ b = elim (order y k) [
          | inl l ↦ sym (v.3 ∙ stays_at j second y k l q.w v.0 q.in_mail q.number v.1 n)
          | inr l ↦ stays_at j second k y l v.0 q.w v.1 n q.in_mail q.number ∙ sym v.3
        ] in
        subst (λ (p : IpAddr). one_queue s (at y).core.instances a p ≡ true) same q.one

    -- the earlier one has waited in the queue of that point
    queued_there : (x y k : ℕ) (b : IpAddr) → Queued i first x a → Queued j second y a → IsTaken s (at k) b j → Queued i first x b
    queued_there x y k b h l taken =
        let q = queued i first x a h in
        let p = queued j second y a l in
        let one = taken_there y k b l taken in
        let z = instance_of i first x q.w q.in_mail in
        let z' = instance_of j second y p.w p.in_mail in
        let way : q.w.at.path ≡ b.path = sym (one_path s (at x).core.instances (at x).core.instances a q.w.at q.one) ∙ one_path s (at y).core.instances (at y).core.instances a b one in
        let way' : p.w.at.path ≡ b.path = sym (one_path s (at y).core.instances (at y).core.instances a p.w.at p.one) ∙ one_path s (at y).core.instances (at y).core.instances a b one in
        let in_x : map.get (at x).core.instances b.path ≡ Some z.0 = subst (λ (r : Path). map.get (at x).core.instances r ≡ Some z.0) way z.1 in
        let in_y : map.get (at y).core.instances b.path ≡ Some z'.0 = subst (λ (r : Path). map.get (at y).core.instances r ≡ Some z'.0) way' z'.1 in
        let one' : one_queue s (at x).core.instances a b ≡ true = queue_stays s (at y).core.instances (at x).core.instances a b z'.0 z.0 in_y in_x (one_body_of i first y x b.path z'.0 z.0 in_y in_x) one in
        of_queued i first x b q.w q.in_mail q.number (joined s (at x).core.instances a b q.w.at one' q.one)

  taken_from : (j k : ℕ) → HasFate s budget (e ∷ es) j (Consumed k) → (b : IpAddr) × IsTakenFrom s budget (e ∷ es) k b j
  taken_from j k fate = by (has_append (fates_by s (bare s) 0 e j) (fates_from s budget g 1 es j) (Consumed k) (subst (λ (fs : List Fate). Has fs (Consumed k)) (sym fate) (inl refl)))
    where
      later_one : IsConsumer s budget j k g 1 es → (b : IpAddr) × IsTakenFrom s budget (e ∷ es) k b j
      later_one c =
          let r = somewhere s budget j k (after_events s budget g (take c.place es)) c.event c.consumes in
          let same : suc c.place ≡ k = let h = c.is in omega (arith, h) in
          (r.0, subst (λ (n : ℕ). IsTakenFrom s budget (e ∷ es) n r.0 j) same (record { event = c.event; there = c.there; consumed = r.2; from = r.1 }))

      by : Has (fates_by s (bare s) 0 e j) (Consumed k) ⊎ Has (fates_from s budget g 1 es j) (Consumed k) → (b : IpAddr) × IsTakenFrom s budget (e ∷ es) k b j
      by (inl h) = absurd (subst (λ (ns : List ℕ). Has ns j) (nothing_of (start s budget) e ran run (bare s)) (event_consumes s budget j k (bare s) 0 e h).1)
      by (inr h) = later_one (goes_consumes s budget j k es g 1 h)

-- ---- where something waits, the start has run

module _ (s : Subject) (budget i : ℕ) (a : IpAddr) where
  none_bare : (es : List Event) (x : ℕ) → es ≡ [] → Has (numbers (queue s (after_events s budget (bare s) (take x es)) a)) i → ⊥
  none_bare [] zero is h = absurd h
  none_bare [] (suc x) is h = absurd h
  none_bare (e ∷ es) x is h = absurd (cc)

  started_of : (first : Firing) (e : Event) (es : List Event) (x : ℕ) → Begins s budget first e es → Has (numbers (queue s (after_first s budget (started s first) (take x (e ∷ es))) a)) i → HasStarted first
  started_of (Ran h outs drops left) e es x begins waits = tt
  started_of (Failed kind left) (Fault m n kind') es zero begins waits = absurd waits
  started_of (Failed kind left) (Fault m n kind') es (suc x) begins waits = none_bare es x begins.3 waits
  started_of (Failed kind left) (Start outs drops) es x begins waits = absurd begins
  started_of (Failed kind left) (Select system now takes) es x begins waits = absurd begins
  started_of (Failed kind left) (Fire m n outs drops) es x begins waits = absurd begins
  started_of Undefined e es x begins waits = absurd begins

pub none_is_overtaken : NoneIsOvertaken
none_is_overtaken s leads budget [] run i j later never x a waits k from = absurd run
none_is_overtaken s leads budget (e ∷ es) run i j later never x a waits k from =
    let h = has_contained (numbers (queue s (situation_at s budget (e ∷ es) x) a)) i waits in
    consumed_first s leads budget e es run (started_of s budget i a (start s budget) e es x run h) i never j later a x k h from

pub first_in_first_out : FirstInFirstOut
first_in_first_out s leads budget [] run i j later first second a x y waits waits' k fate = absurd run
first_in_first_out s leads budget (e ∷ es) run i j later first second a x y waits waits' k fate =
    let h = has_contained (numbers (queue s (situation_at s budget (e ∷ es) x) a)) i waits in
    let l = has_contained (numbers (queue s (situation_at s budget (e ∷ es) y) a)) j waits' in
    let ran = started_of s budget i a (start s budget) e es x run h in
    let from = taken_from s leads budget e es run ran j k fate in
    let taken = is_taken s (situation_at s budget (e ∷ es) k) from.1.event j from.0 from.1.consumed from.1.from in
    consumed_first s leads budget e es run ran i first j later from.0 x k (queued_there s leads budget e es run ran i j first second a x y k from.0 h l taken) from.1
