-- Over whole runs: what was never moved is not overtaken.
use Rattle.std.proofs.Common.{◌≡◌, ◌⊎◌, ℕ, zero, suc, ◌+◌, ◌<◌, ◌≤◌, Bool, true, false, ◌&&◌, ◌||◌, List, [], ◌∷◌, ◌++◌, take, map as each, Option, Some, None, cond, refl, sym, ap, ap₂, subst, ◌∙◌, inl, inr, arith}
use Rattle.std.specs.Prelude.{nat_eq, filter, slice_get, option_map}
use Rattle.std.specs.FinMap as map
use Rattle.std.specs.Str.{bytes_eq}
use Rattle.estelle_tree.specs.declared.link.IpAddr.{IpAddr}
use Rattle.estelle_tree.specs.Paths.{Path}
use Rattle.estelle_tree.specs.Links.{same_ip}
use Rattle.estelle_model.specs.declared.effect.Out.{Out}
use Rattle.estelle_model.specs.declared.image.Interaction.{Interaction}
use Rattle.estelle_model.specs.declared.event.Event.{Event}
use Rattle.estelle_model.specs.declared.event.Event.TheVariants.{Start, Select, Fire, Fault}
use Rattle.estelle_model.specs.declared.meaning.InteractionPoint.{InteractionPoint}
use Rattle.estelle_model.specs.Core.{Instance, Instances}
use Rattle.estelle_model.specs.Transitions.{Transition, When}
use Rattle.estelle_model.specs.Subject.{Subject}
use Rattle.estelle_model.specs.InteractionPoints.{point, point_of}
use Rattle.estelle_model.specs.Situation.{Waiting, Situation}
use Rattle.estelle_model.specs.Queues.{Found, NotNeeded, Head, Absent, common_at, is_common, one_queue, queue, head_at, found, received}
use Rattle.estelle_model.specs.Firing.{untimed, taken, fire_found, fire_of, transition_at}
use Rattle.estelle_model.specs.Jobs.{received_by, taken_by}
use Rattle.estelle_model.specs.Runs.{HasRun, next, Applies, Goes, after_events}
use Rattle.estelle_model.proofs.Units.{Each}
use Rattle.estelle_model.proofs.PrivateParts.{body_of, point_same}
use Rattle.estelle_model_legality.specs.Instances.{LeadsToStates}
use Rattle.estelle_model_legality.specs.Situations.{IsLegal}
use Rattle.estelle_model_legality.proofs.Keeping.{events_keep}
use Rattle.estelle_model_legality.proofs.Lists.{and_both, or_cases, same_path, some_is, not_both, number_is}
use Rattle.estelle_model_legality.proofs.Members.{Has, contains_has, has_filter}
use Rattle.estelle_model_fates.specs.Fates.{Fate, Consumed, Dropped, Lost, number_of, consumed_by, dropped_by, lost_after, outs_of, numbers, times, fates_by, fates_from}
use Rattle.estelle_model_fates.specs.Order.{moved_by, moved_from, point_of_when, point_received}
use Rattle.estelle_model_fates.proofs.Fates.{named_head, is_needed}
use Rattle.estelle_model_fates.proofs.Vanished.{Only, all_born_of}
use Rattle.estelle_model_fates.proofs.Lasting.{has_left, has_right, left_by, left_lasts, event_lasts, goes_lasts}
use Rattle.estelle_model_fates.proofs.Order.{NoneOf, At, number_or, number_in, not_none, only_one, head_before, head_left, IsFront, front_lasts, front_without, only_lasts, IsAt, at_without, IsPut, put_lasts}

pub each_has : {A : Type 0} (P : A → Type 0) (xs : List A) (x : A) → Each P xs → Has xs x → P x
each_has P [] x h k = absurd k
each_has P (y ∷ ys) x h (inl e) = subst P e h.0
each_has P (y ∷ ys) x h (inr k) = each_has P ys x h.1 k

pub with_number : (i : ℕ) (ws : List Waiting) → Has (numbers ws) i → (w : Waiting) × (Has ws w) × (w.item.number ≡ i)
with_number i [] h = absurd h
with_number i (w ∷ ws) (inl e) = (w, inl refl, e)
with_number i (w ∷ ws) (inr h) = let r = with_number i ws h in (r.0, inr r.1, r.2)

times_has : (i : ℕ) (f : Fate) (ns : List ℕ) → Has ns i → Has (times i f ns) f
times_has i f [] h = absurd h
times_has i f (n ∷ ns) h = by (nat_eq i n) refl h (times_has i f ns)
  where
    by : (b : Bool) → nat_eq i n ≡ b → (n ≡ i) ⊎ Has ns i → (Has ns i → Has (times i f ns) f) → Has (each (λ (m : ℕ). f) (cond b (n ∷ filter (nat_eq i) ns) (filter (nat_eq i) ns))) f
    by true e k rest = inl refl
    by false e (inl same) rest = absurd (not_both (nat_eq i n) (subst (λ (m : ℕ). nat_eq i m ≡ true) (sym same) (number_is i)) e)
    by false e (inr k) rest = rest k

-- ---- what a firing takes

-- the instance is there, and this is the head of its queue
pub record IsTaken (s : Subject) (g : Situation) (a : IpAddr) (j : ℕ) : Type 0 where
  pub instance : Instance
  pub there : map.get g.core.instances a.path ≡ Some instance
  pub item : Interaction
  pub head : head_at a (queue s g a) ≡ Head item
  pub number : item.number ≡ j

module _ (s : Subject) (g : Situation) (m : Path) (j : ℕ) (a : IpAddr) where
  of_found : (w : When) (f : Found) → received s g m (Some w) ≡ f → number_of f ≡ j ∷ [] → (item : Interaction) × (head_at (record { path = m; ip = w.ip }) (queue s g (record { path = m; ip = w.ip })) ≡ Head item) × (item.number ≡ j)
  of_found w NotNeeded is e = absurd (cc)
  of_found w Absent is e = absurd (cc)
  of_found w (Head item) is e = (item, named_head (Some w) (found s g m (Some w)) item is, cc)

  of_when : (z : Instance) → map.get g.core.instances m ≡ Some z → (o : Option When) → number_of (received s g m o) ≡ j ∷ [] → option_map (λ (w : When). record { path = m; ip = w.ip }) o ≡ Some a → IsTaken s g a j
  of_when z there None e at = absurd (cc)
  of_when z there (Some w) e at =
      let f = of_found w (received s g m (Some w)) refl e in
      let same : record { path = m; ip = w.ip } ≡ a = cc in
      subst (λ (b : IpAddr). IsTaken s g b j) same (record { instance = z; there = there; item = f.0; head = f.1; number = f.2 })

  of_transition : (z : Instance) → map.get g.core.instances m ≡ Some z → (o : Option Transition) → number_of (received_by s g m o) ≡ j ∷ [] → point_of_when m o ≡ Some a → IsTaken s g a j
  of_transition z there None e at = absurd (cc)
  of_transition z there (Some t) e at = of_when z there t.when e at

  of_instance : (n : ℕ) (o : Option Instance) → map.get g.core.instances m ≡ o → number_of (received_by s g m (transition_at s n o)) ≡ j ∷ [] → point_of_when m (transition_at s n o) ≡ Some a → IsTaken s g a j
  of_instance n None there e at = absurd (cc)
  of_instance n (Some z) there e at = of_transition z there (transition_at s n (Some z)) e at

pub is_taken : (s : Subject) (g : Situation) (e : Event) (j : ℕ) (a : IpAddr) → consumed_by s g e ≡ j ∷ [] → point_received s g e ≡ Some a → IsTaken s g a j
is_taken s g (Start outs drops) j a consumed at = absurd (cc)
is_taken s g (Select system now takes) j a consumed at = absurd (cc)
is_taken s g (Fire m n outs drops) j a consumed at = of_instance s g m j a n (map.get g.core.instances m) refl consumed at
is_taken s g (Fault m n kind) j a consumed at = absurd (cc)

-- ---- one queue, as long as the instance is there

module _ (s : Subject) (x y : Instances) (a c : IpAddr) where
  pub one_path : one_queue s x a c ≡ true → a.path ≡ c.path
  one_path h = elim (or_cases (same_ip a c) (bytes_eq a.path c.path && (is_common s x a && is_common s x c)) h) [
    | inl e ↦ same_path a.path c.path (and_both (bytes_eq a.path c.path) (nat_eq a.ip c.ip) e).0
    | inr e ↦ same_path a.path c.path (and_both (bytes_eq a.path c.path) (is_common s x a && is_common s x c) e).0
  ]

  module _ (i j : Instance) (in_x : map.get x c.path ≡ Some i) (in_y : map.get y c.path ≡ Some j) (same : j.body ≡ i.body) where
    point_stays : (b : IpAddr) → b.path ≡ c.path → point s x b ≡ point s y b
    point_stays b at = point_same s (map.get x b.path) (map.get y b.path)
        (ap (λ (p : Path). body_of (map.get x p)) at ∙ ap body_of in_x ∙ ap (λ (n : ℕ). Some n) (sym same) ∙ ap body_of (sym in_y) ∙ ap (λ (p : Path). body_of (map.get y p)) (sym at)) b.ip

    pub queue_stays : one_queue s x a c ≡ true → one_queue s y a c ≡ true
    queue_stays h =
        let p : is_common s x a ≡ is_common s y a = ap common_at (point_stays a (one_path h)) in
        let q : is_common s x c ≡ is_common s y c = ap common_at (point_stays c refl) in
        sym (ap₂ (λ (u v : Bool). same_ip a c || (bytes_eq a.path c.path && (u && v))) p q) ∙ h

pub there_of : (s : Subject) (o : Option Instance) (k : ℕ) (p : InteractionPoint) → point_of s o k ≡ Some p → (z : Instance) × (o ≡ Some z)
there_of s None k p h = absurd (cc)
there_of s (Some z) k p h = (z, refl)

-- ---- runs

module _ (i : ℕ) (s : Subject) (budget : ℕ) where
  module _ (g : Situation) (m : Path) where
    in_when : (o : Option When) → (received s g m o ≡ Absent → ⊥) → (NoneOf i (taken s g m o).mail → NoneOf i g.mail) ⊎ Has (number_of (received s g m o)) i
    in_when None some = inl (λ n. n)
    in_when (Some w) some = by (received s g m (Some w)) refl
      where
        by : (f : Found) → received s g m (Some w) ≡ f → (NoneOf i (taken s g m (Some w)).mail → NoneOf i g.mail) ⊎ Has (number_of f) i
        by NotNeeded is = absurd (is_needed s g m w is)
        by Absent is = absurd (some is)
        by (Head item) is = elim (number_or item.number i) [
          | inl e ↦ inr (inl e)
          | inr n ↦ inl (λ none. elim (head_left i (one_queue s g.core.instances (record { path = m; ip = w.ip })) (record { path = m; ip = w.ip }) g.mail item (named_head (Some w) (found s g m (Some w)) item is) none) [ inl k ↦ k | inr k ↦ absurd (n k) ])
        ]

    not_absent : (n : ℕ) (outs : List Out) (drops : List ℕ) (t : Transition) (f : Found) → HasRun outs drops (untimed m n (fire_found s budget g m t f)) → f ≡ Absent → ⊥
    not_absent n outs drops t NotNeeded ran e = absurd (cc)
    not_absent n outs drops t (Head item) ran e = absurd (cc)
    not_absent n outs drops t Absent ran e = absurd ran

    in_transition : (n : ℕ) (outs : List Out) (drops : List ℕ) (o : Option Transition) → HasRun outs drops (untimed m n (fire_of s budget g m o)) → (NoneOf i (taken_by s g m o).mail → NoneOf i g.mail) ⊎ Has (number_of (received_by s g m o)) i
    in_transition n outs drops None ran = inl (λ x. x)
    in_transition n outs drops (Some t) ran = in_when t.when (not_absent n outs drops t (received s g m t.when) ran)

  -- where it waits no more once an event has taken what it receives, the event consumed it
  left_or : (g : Situation) (e : Event) → Applies s budget g e → (NoneOf i (left_by s g e) → NoneOf i g.mail) ⊎ Has (consumed_by s g e) i
  left_or g (Start outs drops) applies = inl (λ n. n)
  left_or g (Select system now takes) applies = inl (λ n. n)
  left_or g (Fire m n outs drops) applies = in_transition g m n outs drops (transition_at s n (map.get g.core.instances m)) applies.ran
  left_or g (Fault m n kind) applies = inl (λ n. n)

  module _ (c : IpAddr) where
    -- it waits there; or its instance is not there, for good; or one of the first events consumed it
    abbrev Stays : Situation → Situation → ℕ → List Event → ℕ → Type 0
    Stays after g x es y = ((NoneOf i after.mail → ⊥) × At i c after.mail) ⊎ (Only c.path (λ b. ⊥) after.core.instances ⊎ ((k : ℕ) × (k < y) × Has (fates_from s budget g x es i) (Consumed (x + k))))

    now : (g : Situation) (x : ℕ) (es : List Event) (y : ℕ) → IsPut i c g.core g.mail g.made → Stays g g x es y
    now g x es y h = elim (number_in i g.mail) [ inl k ↦ inl (not_none i g.mail k, h.is_at.at) | inr none ↦ inr (inl (record { all_born = h.born.all_born; body = h.gone none })) ]

    one_later : (after g : Situation) (e : Event) (x : ℕ) (es : List Event) (y : ℕ) → Stays after (next s budget g e) (suc x) es y → Stays after g x (e ∷ es) (suc y)
    one_later after g e x es y (inl h) = inl h
    one_later after g e x es y (inr (inl h)) = inr (inl h)
    one_later after g e x es y (inr (inr h)) =
        let l = h.1 in
        let same : suc x + h.0 ≡ x + suc h.0 = omega arith in
        inr (inr (suc h.0, omega (arith, l), has_right (fates_by s g x e i) (fates_from s budget (next s budget g e) (suc x) es i) (Consumed (x + suc h.0)) (subst (λ (n : ℕ). Has (fates_from s budget (next s budget g e) (suc x) es i) (Consumed n)) same h.2)))

    consumed_now : (g : Situation) (e : Event) (x : ℕ) (es : List Event) → Has (consumed_by s g e) i → Has (fates_from s budget g x (e ∷ es) i) (Consumed (x + 0))
    consumed_now g e x es h =
        let same : x ≡ x + 0 = omega arith in
        subst (λ (n : ℕ). Has (fates_from s budget g x (e ∷ es) i) (Consumed n)) same
        (has_left (fates_by s g x e i) (fates_from s budget (next s budget g e) (suc x) es i) (Consumed x)
        (has_left (times i (Consumed x) (consumed_by s g e) ++ times i (Dropped x) (dropped_by e)) (times i (Lost x) (lost_after g.made (outs_of e))) (Consumed x)
        (has_left (times i (Consumed x) (consumed_by s g e)) (times i (Dropped x) (dropped_by e)) (Consumed x) (times_has i (Consumed x) (consumed_by s g e) h))))

    follow : (es : List Event) (g : Situation) (x y : ℕ) → Goes s budget g es → (Has (moved_from s budget g es) i → ⊥) → IsPut i c g.core g.mail g.made → Stays (after_events s budget g (take y es)) g x es y
    follow es g x zero goes never h = now g x es 0 h
    follow [] g x (suc y) goes never h = now g x [] (suc y) h
    follow (e ∷ es) g x (suc y) goes never h = elim (left_or g e goes.0) [
      | inl back ↦ one_later (after_events s budget (next s budget g e) (take y es)) g e x es y (follow es (next s budget g e) (suc x) y goes.2 (λ k. never (has_right (moved_by s budget g e) (moved_from s budget (next s budget g e) es) i k))
          (event_lasts i (IsPut i c) (put_lasts i c) s budget g e goes.0 (λ k. never (has_left (moved_by s budget g e) (moved_from s budget (next s budget g e) es) i k))
          (record {
            is_at = left_lasts (λ k mail made. IsAt i c mail made) s (at_without i c) g e h.is_at;
            born = h.born;
            gone = λ n. h.gone (back n);
          })))
      | inr hit ↦ inr (inr (0, omega arith, consumed_now g e x es hit))
    ]

  module _ (leads : LeadsToStates s) (j : ℕ) (a : IpAddr) (later : i < j) where
    -- from the situation in which it waits
    from_here : (es : List Event) (g : Situation) (x k : ℕ) → Goes s budget g es → (Has (moved_from s budget g es) i → ⊥) → IsLegal s g → IsFront i g.core g.mail g.made → Has (numbers (queue s g a)) i → IsTaken s (after_events s budget g (take k es)) a j
        → (k' : ℕ) × (k' < k) × Has (fates_from s budget g x es i) (Consumed (x + k'))
    from_here es g x k goes never legal front waits taken =
        let w = with_number i (queue s g a) waits in
        let in_mail = has_filter (λ (v : Waiting). one_queue s g.core.instances a v.at) g.mail w.0 w.1 in
        let may = (legal.mail.each w.0 (contains_has g.mail w.0 in_mail.0)).arrives in
        let instance = there_of s (map.get g.core.instances w.0.at.path) w.0.at.ip may.at may.there in
        let born = all_born_of s g.core.instances legal.instances w.0.at.path instance.0 instance.1 in
        by w.0 w.2 in_mail.1 instance.0 instance.1
        (goes_lasts i (λ c mail made. Only w.0.at.path (λ b. b ≡ instance.0.body) c.instances) (only_lasts i w.0.at.path (λ b. b ≡ instance.0.body)) s budget (λ belongs c mail made h. h) es g goes never
        (record { all_born = born; body = λ z is. ap (λ (v : Instance). v.body) (some_is z instance.0 (map.get g.core.instances w.0.at.path) is instance.1) }) k)
        (goes_lasts i (IsFront i) (front_lasts i) s budget (front_without i) es g goes never front k)
        (follow w.0.at es g x k goes never (record {
          is_at = record { before = subst (λ (n : ℕ). n ≤ g.made) w.2 (legal.mail.made w.0 (contains_has g.mail w.0 in_mail.0)); at = only_one i g.mail w.0 front.front in_mail.0 w.2 };
          born = record { all_born = born; body = λ z is. tt };
          gone = λ none. absurd (each_has (λ (v : Waiting). v.item.number ≡ i → ⊥) g.mail w.0 none in_mail.0 w.2);
        }))
      where
        by : (w : Waiting) → w.item.number ≡ i → one_queue s g.core.instances a w.at ≡ true → (z : Instance) → map.get g.core.instances w.at.path ≡ Some z → Only w.at.path (λ b. b ≡ z.body) (after_events s budget g (take k es)).core.instances → IsFront i (after_events s budget g (take k es)).core (after_events s budget g (take k es)).mail (after_events s budget g (take k es)).made → Stays w.at (after_events s budget g (take k es)) g x es k
            → (k' : ℕ) × (k' < k) × Has (fates_from s budget g x es i) (Consumed (x + k'))
        by w is one z there body front' (inr (inr h)) = h
        by w is one z there body front' (inr (inl none)) = absurd (none.body taken.instance (subst (λ (p : Path). map.get (after_events s budget g (take k es)).core.instances p ≡ Some taken.instance) (one_path s g.core.instances g.core.instances a w.at one) taken.there))
        by w is one z there body front' (inl h) =
            let there' : map.get (after_events s budget g (take k es)).core.instances w.at.path ≡ Some taken.instance = subst (λ (p : Path). map.get (after_events s budget g (take k es)).core.instances p ≡ Some taken.instance) (one_path s g.core.instances g.core.instances a w.at one) taken.there in
            let one' = queue_stays s g.core.instances (after_events s budget g (take k es)).core.instances a w.at z taken.instance there there' (body.body taken.instance there') one in
            let no_higher = head_before i (one_queue s (after_events s budget g (take k es)).core.instances a) a w.at (after_events s budget g (take k es)).mail taken.item front'.front h.1 one' h.0 taken.head in
            absurd (let n = taken.number in omega (arith, no_higher, n, later))

    pub from_start : (es : List Event) (g : Situation) (x y k : ℕ) → y ≤ k → Goes s budget g es → (Has (moved_from s budget g es) i → ⊥) → IsLegal s g → IsFront i g.core g.mail g.made → Has (numbers (queue s (after_events s budget g (take y es)) a)) i → (e : Event) → slice_get es k ≡ Some e → IsTaken s (after_events s budget g (take k es)) a j
        → (k' : ℕ) × (k' < k) × Has (fates_from s budget g x es i) (Consumed (x + k'))
    from_start es g x zero k within goes never legal front waits e there taken = from_here es g x k goes never legal front waits taken
    from_start es g x (suc y) zero within goes never legal front waits e there taken = absurd (omega (arith, within))
    from_start [] g x (suc y) (suc k) within goes never legal front waits e there taken = absurd (cc)
    from_start (f ∷ es) g x (suc y) (suc k) within goes never legal front waits e there taken =
        let r = from_start es (next s budget g f) (suc x) y k (omega (arith, within)) goes.2 (λ h. never (has_right (moved_by s budget g f) (moved_from s budget (next s budget g f) es) i h)) (events_keep s leads budget g legal f goes.0)
        (event_lasts i (IsFront i) (front_lasts i) s budget g f goes.0 (λ h. never (has_left (moved_by s budget g f) (moved_from s budget (next s budget g f) es) i h)) (left_lasts (IsFront i) s (front_without i) g f front)) waits e there taken in
        let same : suc x + r.0 ≡ x + suc r.0 = omega arith in
        let l = r.1 in
        (suc r.0, omega (arith, l), has_right (fates_by s g x f i) (fates_from s budget (next s budget g f) (suc x) es i) (Consumed (x + suc r.0)) (subst (λ (n : ℕ). Has (fates_from s budget (next s budget g f) (suc x) es i) (Consumed n)) same r.2))
