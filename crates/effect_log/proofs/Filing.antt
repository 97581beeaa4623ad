-- Which queue each interaction point has, whatever waits there, after each change of the queues.
use Rattle.std.proofs.Common.{◌≡◌, Bool, true, false, cond, List, [], ◌∷◌, ◌++◌, Option, Some, None, refl, sym, ap, subst, ◌∙◌, inl, inr}
use Rattle.std.specs.Prelude.{◌⊎◌, ◌&&◌, ◌||◌, not, if◌then◌else◌, map as each, filter, find, is_some, option_map}
use Rattle.std.specs.Str.{bytes_eq}
use Rattle.estelle_tree.specs.declared.link.IpAddr.{IpAddr}
use Rattle.estelle_tree.specs.Links.{same_ip}
use Rattle.estelle_tree.specs.Paths.{Path, is_inside}
use Rattle.estelle_tree.specs.Queues.{Waiting}
use Rattle.queue_store.specs.Queues.{Queue, among, some_of, some_inside, has, is_declared, is_common_of, has_common, lies_inside, with_items, on_queue, joined, new_queue, declared, dropped_below}
use Rattle.queue_store.specs.Holds.{ApartFrom, AllApart, sharing}
use Rattle.queue_store.proofs.TableLaws.{same_ip-equal, same_ip-refl}
use Rattle.queue_store.proofs.HomeLaws.{false-unless, same_path-equal, same_path-refl, both-true, part-true}
use Rattle.estelle_model.proofs.Members.{Among, among_append, among_filter, find_among}
use Rattle.effect_log.proofs.Lists.{or_left, or_right, find-each, among-each, find-kept, find-none, found-none, find-some}

-- a point shares the common queue of its instance
abbrev pub shares : Option Bool → Bool
shares None = false
shares (Some c) = c

-- with these disciplines two points have one queue
abbrev pub one_of : (IpAddr → Option Bool) → IpAddr → IpAddr → Bool
one_of d a b = same_ip a b || (bytes_eq a.path b.path && (shares (d a) && shares (d b)))

-- two points with one queue are points of one instance
pub one_of-path : (d : IpAddr → Option Bool) (a b : IpAddr) → one_of d a b ≡ true → a.path ≡ b.path
one_of-path d a b h = by (same_ip a b) refl h
  where
    by : (c : Bool) → same_ip a b ≡ c → (c || (bytes_eq a.path b.path && (shares (d a) && shares (d b)))) ≡ true → a.path ≡ b.path
    by true e h = ap (λ (x : IpAddr). x.path) (same_ip-equal a b e)
    by false e h = same_path-equal a.path b.path ((part-true (bytes_eq a.path b.path) (shares (d a) && shares (d b)) h).0)

true-or : (b : Bool) → (b || true) ≡ true
true-or true = refl
true-or false = refl

differ-unless : (a b : IpAddr) → (a ≡ b → ⊥) → same_ip a b ≡ false
differ-unless a b h = false-unless (same_ip a b) (λ e. h (same_ip-equal a b e))

pub same_ip-swap : (a b : IpAddr) → same_ip a b ≡ same_ip b a
same_ip-swap a b = by (same_ip a b) (same_ip b a) refl refl
  where
    by : (c d : Bool) → same_ip a b ≡ c → same_ip b a ≡ d → c ≡ d
    by true true e f = refl
    by true false e f = let wrong : true ≡ false = sym (same_ip-refl a) ∙ ap (λ x. same_ip x a) (same_ip-equal a b e) ∙ f in absurd (cc)
    by false true e f = let wrong : true ≡ false = sym (same_ip-refl b) ∙ ap (λ x. same_ip x b) (same_ip-equal b a f) ∙ e in absurd (cc)
    by false false e f = refl

pub among-append : (a b : IpAddr) (bs : List IpAddr) → among a (bs ++ b ∷ []) ≡ (among a bs || same_ip a b)
among-append a b [] = by (same_ip a b)
  where
    by : (c : Bool) → (c || false) ≡ c
    by true = refl
    by false = refl
among-append a b (x ∷ bs) = ap (λ c. same_ip a x || c) (among-append a b bs) ∙ by (same_ip a x)
  where
    by : (c : Bool) → (c || (among a bs || same_ip a b)) ≡ ((c || among a bs) || same_ip a b)
    by true = refl
    by false = refl

-- ---- points at and below an instance

some-inside : (p : Path) (bs : List IpAddr) (a : IpAddr) → among a bs ≡ true → is_inside p a.path ≡ true → some_inside p bs ≡ true
some-inside p [] a h inside = absurd (cc)
some-inside p (b ∷ bs) a h inside = by (same_ip a b) refl h (some-inside p bs a)
  where
    by : (c : Bool) → same_ip a b ≡ c → (c || among a bs) ≡ true → (among a bs ≡ true → is_inside p a.path ≡ true → some_inside p bs ≡ true) → (is_inside p b.path || some_inside p bs) ≡ true
    by true e g rest = or_left (is_inside p b.path) (some_inside p bs) (ap (λ (x : IpAddr). is_inside p x.path) (sym (same_ip-equal a b e)) ∙ inside)
    by false e g rest = or_right (is_inside p b.path) (some_inside p bs) (rest g inside)

none-inside : (p : Path) (bs : List IpAddr) → ((b : IpAddr) → among b bs ≡ true → is_inside p b.path ≡ false) → some_inside p bs ≡ false
none-inside p [] h = refl
none-inside p (b ∷ bs) h =
    ap (λ c. c || some_inside p bs) (h b (or_left (same_ip b b) (among b bs) (same_ip-refl b)))
    ∙ none-inside p bs (λ x m. h x (or_right (same_ip x b) (among x bs) m))

-- the disciplines of the points elsewhere
abbrev pub outside : Path → (IpAddr → Option Bool) → IpAddr → Option Bool
outside p d a = cond (is_inside p a.path) None (d a)

outside-one : (p : Path) (d : IpAddr → Option Bool) (a b : IpAddr) → is_inside p a.path ≡ false → one_of d a b ≡ one_of (outside p d) a b
outside-one p d a b out = ap (λ c. same_ip a b || c) (by (bytes_eq a.path b.path) refl)
  where
    here : (x : IpAddr) → is_inside p x.path ≡ false → d x ≡ outside p d x
    here x e = sym (ap (λ c. cond c None (d x)) e)

    by : (c : Bool) → bytes_eq a.path b.path ≡ c → (c && (shares (d a) && shares (d b))) ≡ (c && (shares (outside p d a) && shares (outside p d b)))
    by true e =
        let other : is_inside p b.path ≡ false = ap (is_inside p) (sym (same_path-equal a.path b.path e)) ∙ out in
        λ i. shares (here a out i) && shares (here b other i)
    by false e = refl

-- ---- one more point

-- the disciplines with that of one more point
abbrev pub with_one : IpAddr → Bool → (IpAddr → Option Bool) → IpAddr → Option Bool
with_one a c d b = if same_ip a b then Some c else d b

with_own : (a : IpAddr) (c : Bool) (d : IpAddr → Option Bool) → with_one a c d a ≡ Some c
with_own a c d = ap (λ b. if b then Some c else d a) (same_ip-refl a)

with_other : (a : IpAddr) (c : Bool) (d : IpAddr → Option Bool) (b : IpAddr) → same_ip a b ≡ false → with_one a c d b ≡ d b
with_other a c d b e = ap (λ x. if x then Some c else d b) e

some_of-among : (p : Path) (bs : List IpAddr) (a : IpAddr) → among a bs ≡ true → bytes_eq p a.path ≡ true → some_of p bs ≡ true
some_of-among p [] a h e = absurd (cc)
some_of-among p (b ∷ bs) a h e = by (same_ip a b) refl h (some_of-among p bs a)
  where
    by : (c : Bool) → same_ip a b ≡ c → (c || among a bs) ≡ true → (among a bs ≡ true → bytes_eq p a.path ≡ true → some_of p bs ≡ true) → (bytes_eq p b.path || some_of p bs) ≡ true
    by true f g rest = or_left (bytes_eq p b.path) (some_of p bs) (ap (λ (x : IpAddr). bytes_eq p x.path) (sym (same_ip-equal a b f)) ∙ e)
    by false f g rest = or_right (bytes_eq p b.path) (some_of p bs) (rest g e)

-- a queue of an instance has a point of it
among-some_of : (p : Path) (bs : List IpAddr) → some_of p bs ≡ true → (a : IpAddr) × (among a bs ≡ true) × (a.path ≡ p)
among-some_of p [] h = absurd (cc)
among-some_of p (b ∷ bs) h = by (bytes_eq p b.path) refl h (among-some_of p bs)
  where
    by : (c : Bool) → bytes_eq p b.path ≡ c → (c || some_of p bs) ≡ true → (some_of p bs ≡ true → (a : IpAddr) × (among a bs ≡ true) × (a.path ≡ p)) → (a : IpAddr) × (among a (b ∷ bs) ≡ true) × (a.path ≡ p)
    by true e g rest = (b, or_left (same_ip b b) (among b bs) (same_ip-refl b), sym (same_path-equal p b.path e))
    by false e g rest = let r = rest g in (r.0, or_right (same_ip r.0 b) (among r.0 bs) r.1, r.2)

module _ {T : Type 0} where
  -- each point has a queue as these disciplines say, and no point is in two
  pub record Filed (d : IpAddr → Option Bool) (qs : List (Queue T)) : Type 0 where
    pub declared : (a : IpAddr) → option_map (λ q. q.common) (find (has a) qs) ≡ d a
    pub together : (a : IpAddr) (q : Queue T) → find (has a) qs ≡ Some q → (b : IpAddr) → has b q ≡ one_of d a b
    pub apart : AllApart qs

  pub filed-alike : (d e : IpAddr → Option Bool) (qs : List (Queue T)) → ((a : IpAddr) → d a ≡ e a) → Filed d qs → Filed e qs
  filed-alike d e qs same f = subst (λ (x : IpAddr → Option Bool). Filed x qs) (λ i a. same a i) f

  -- ---- the words of the store

  pub declared-found : (a : IpAddr) (qs : List (Queue T)) → is_declared a qs ≡ is_some (find (has a) qs)
  declared-found a [] = refl
  declared-found a (q ∷ qs) = by (has a q) (declared-found a qs)
    where
      by : (b : Bool) → is_declared a qs ≡ is_some (find (has a) qs) → (b || is_declared a qs) ≡ is_some (cond b (Some q) (find (has a) qs))
      by true rest = refl
      by false rest = rest

  pub sharing-found : (a : IpAddr) (qs : List (Queue T)) (q : Queue T) → find (has a) qs ≡ Some q → (b : IpAddr) → sharing a qs b ≡ has b q
  sharing-found a [] q is b = absurd (cc)
  sharing-found a (r ∷ rs) q is b = by (has a r) is (λ e. sharing-found a rs q e b)
    where
      by : (c : Bool) → cond c (Some r) (find (has a) rs) ≡ Some q → (find (has a) rs ≡ Some q → sharing a rs b ≡ has b q) → (if c then among b r.ips else sharing a rs b) ≡ has b q
      by true e rest = let same : r ≡ q = cc in ap (λ (x : Queue T). has b x) same
      by false e rest = rest e

  -- ---- queues that are apart

  pub apart-from : (q : Queue T) (rs : List (Queue T)) → ApartFrom q rs → (r : Queue T) → Among r rs → (a : IpAddr) → has a q ≡ true → has a r ≡ false
  apart-from q [] p r m a h = absurd m
  apart-from q (x ∷ xs) p r (inl is) a h = ap (λ (y : Queue T). has a y) (sym is) ∙ p.0 a h
  apart-from q (x ∷ xs) p r (inr m) a h = apart-from q xs p.1 r m a h

  from-apart : (q : Queue T) (rs : List (Queue T)) → ((r : Queue T) → Among r rs → (a : IpAddr) → has a q ≡ true → has a r ≡ false) → ApartFrom q rs
  from-apart q [] h = tt
  from-apart q (r ∷ rs) h = (λ a. h r (inl refl) a, from-apart q rs (λ x m. h x (inr m)))

  -- the queue of a point is the only one that has it
  pub found-apart : (qs : List (Queue T)) → AllApart qs → (q : Queue T) → Among q qs → (a : IpAddr) → has a q ≡ true → find (has a) qs ≡ Some q
  found-apart [] p q m a h = absurd m
  found-apart (r ∷ rs) p q (inl is) a h = ap (λ b. cond b (Some r) (find (has a) rs)) (ap (λ (x : Queue T). has a x) is ∙ h) ∙ ap Some is
  found-apart (r ∷ rs) p q (inr m) a h =
      let not_here : has a r ≡ false = false-unless (has a r) (λ here. let wrong : true ≡ false = sym h ∙ apart-from r rs p.0 q m a here in cc) in
      ap (λ b. cond b (Some r) (find (has a) rs)) not_here ∙ found-apart rs p.1 q m a h

  apart-filter : (keep : Queue T → Bool) (qs : List (Queue T)) → AllApart qs → AllApart (filter keep qs)
  apart-filter keep [] p = tt
  apart-filter keep (q ∷ qs) p = by (keep q) (apart-filter keep qs p.1)
    where
      by : (b : Bool) → AllApart (filter keep qs) → AllApart (cond b (q ∷ filter keep qs) (filter keep qs))
      by true rest = (from-apart q (filter keep qs) (λ r m. apart-from q qs p.0 r ((among_filter keep qs r m).0)), rest)
      by false rest = rest

  module _ (f : Queue T → Queue T) (same : (q : Queue T) → (f q).ips ≡ q.ips) where
    apart-each : (qs : List (Queue T)) → AllApart qs → AllApart (each f qs)
    apart-each [] p = tt
    apart-each (q ∷ qs) p = (
      from-apart (f q) (each f qs) (λ r m a h.
          let x = among-each f qs r m in
          ap (λ (y : Queue T). has a y) (sym x.2) ∙ ap (among a) (same x.0) ∙ apart-from q qs p.0 x.0 x.1 a (ap (among a) (sym (same q)) ∙ h)),
      apart-each qs p.1,
    )

    -- other things wait in the queues
    pub filed-each : (d : IpAddr → Option Bool) → ((q : Queue T) → (f q).common ≡ q.common) → (qs : List (Queue T)) → Filed d qs → Filed d (each f qs)
    filed-each d common qs filed = record {
      declared = λ a. ap (option_map (λ (q : Queue T). q.common)) (found a) ∙ by (find (has a) qs) ∙ filed.declared a;
      together = λ a q is b. at a (find (has a) qs) refl q (sym (found a) ∙ is) b;
      apart = apart-each qs filed.apart;
    }
      where
        found : (a : IpAddr) → find (has a) (each f qs) ≡ option_map f (find (has a) qs)
        found a = find-each f (has a) (has a) qs (λ q m. ap (among a) (same q))

        by : (o : Option (Queue T)) → option_map (λ (q : Queue T). q.common) (option_map f o) ≡ option_map (λ (q : Queue T). q.common) o
        by None = refl
        by (Some q) = ap Some (common q)

        at : (a : IpAddr) (o : Option (Queue T)) → find (has a) qs ≡ o → (q : Queue T) → option_map f o ≡ Some q → (b : IpAddr) → has b q ≡ one_of d a b
        at a None e q is b = absurd (cc)
        at a (Some r) e q is b = let new : f r ≡ q = cc in ap (λ (x : Queue T). has b x) (sym new) ∙ ap (among b) (same r) ∙ filed.together a r e b

  -- one queue has other items
  pub filed-on_queue : (a : IpAddr) (items : Queue T → List (Waiting T)) (d : IpAddr → Option Bool) (qs : List (Queue T)) → Filed d qs → Filed d (on_queue a (λ q. with_items (items q) q) qs)
  filed-on_queue a items d qs filed = filed-each (λ q. if has a q then with_items (items q) q else q) (λ q. ips (has a q) q) d (λ q. common (has a q) q) qs filed
    where
      ips : (b : Bool) (q : Queue T) → (if b then with_items (items q) q else q).ips ≡ q.ips
      ips true q = refl
      ips false q = refl

      common : (b : Bool) (q : Queue T) → (if b then with_items (items q) q else q).common ≡ q.common
      common true q = refl
      common false q = refl

  -- ---- the points of a queue are those of one instance

  pub own-queue : (d : IpAddr → Option Bool) (qs : List (Queue T)) → Filed d qs → (q : Queue T) → Among q qs → (a : IpAddr) → has a q ≡ true → (b : IpAddr) → has b q ≡ one_of d a b
  own-queue d qs filed q m a h = filed.together a q (found-apart qs filed.apart q m a h)

  one-path : (d : IpAddr → Option Bool) (qs : List (Queue T)) → Filed d qs → (q : Queue T) → Among q qs → (a b : IpAddr) → has a q ≡ true → has b q ≡ true → a.path ≡ b.path
  one-path d qs filed q m a b h k = one_of-path d a b (sym (own-queue d qs filed q m a h b) ∙ k)

  -- a queue lies at or below p where its points do
  pub lies-inside : (d : IpAddr → Option Bool) (qs : List (Queue T)) → Filed d qs → (p : Path) (q : Queue T) → Among q qs → (a : IpAddr) → has a q ≡ true → lies_inside p q ≡ is_inside p a.path
  lies-inside d qs filed p q m a h = by (is_inside p a.path) refl
    where
      by : (b : Bool) → is_inside p a.path ≡ b → lies_inside p q ≡ b
      by true e = some-inside p q.ips a h e
      by false e = none-inside p q.ips (λ b k. ap (is_inside p) (one-path d qs filed q m b a k h) ∙ e)

  -- ---- without the queues at and below an instance

  pub filed-dropped : (p : Path) (d : IpAddr → Option Bool) (qs : List (Queue T)) → Filed d qs → Filed (outside p d) (dropped_below p qs)
  filed-dropped p d qs filed = record {
    declared = λ a. declared a (is_inside p a.path) refl (find (has a) qs) refl;
    together = λ a q is b. together a q is b (is_inside p a.path) refl;
    apart = apart-filter (λ q. not (lies_inside p q)) qs filed.apart;
  }
    where
      -- the queues of a point at or below the instance are gone
      gone : (a : IpAddr) → is_inside p a.path ≡ true → find (has a) (dropped_below p qs) ≡ None
      gone a inside = find-none (has a) (dropped_below p qs) (λ q m.
          let in_both = among_filter (λ q. not (lies_inside p q)) qs q m in
          false-unless (has a q) (λ h. let wrong : true ≡ false = sym in_both.1 ∙ ap not (lies-inside d qs filed p q in_both.0 a h ∙ inside) in cc))

      stays : (a : IpAddr) (q : Queue T) → is_inside p a.path ≡ false → find (has a) qs ≡ Some q → find (has a) (dropped_below p qs) ≡ Some q
      stays a q out is =
          let at = find_among (has a) qs q is in
          find-kept (has a) (λ q. not (lies_inside p q)) qs q is (ap not (lies-inside d qs filed p q at.0 a at.1 ∙ out))

      absent : (a : IpAddr) → find (has a) qs ≡ None → find (has a) (dropped_below p qs) ≡ None
      absent a none = find-none (has a) (dropped_below p qs) (λ q m. found-none (has a) qs none q ((among_filter (λ q. not (lies_inside p q)) qs q m).0))

      declared : (a : IpAddr) (b : Bool) → is_inside p a.path ≡ b → (o : Option (Queue T)) → find (has a) qs ≡ o → option_map (λ (q : Queue T). q.common) (find (has a) (dropped_below p qs)) ≡ outside p d a
      declared a true e o is = ap (option_map (λ (q : Queue T). q.common)) (gone a e) ∙ sym (ap (λ c. cond c None (d a)) e)
      declared a false e None is =
          ap (option_map (λ (q : Queue T). q.common)) (absent a is ∙ sym is) ∙ filed.declared a ∙ sym (ap (λ c. cond c None (d a)) e)
      declared a false e (Some q) is =
          ap (option_map (λ (q : Queue T). q.common)) (stays a q e is ∙ sym is) ∙ filed.declared a ∙ sym (ap (λ c. cond c None (d a)) e)

      together : (a : IpAddr) (q : Queue T) → find (has a) (dropped_below p qs) ≡ Some q → (b : IpAddr) (c : Bool) → is_inside p a.path ≡ c → has b q ≡ one_of (outside p d) a b
      together a q is b true e = let wrong : None ≡ Some q = sym (gone a e) ∙ is in absurd (cc)
      together a q is b false e =
          let at = find_among (has a) (dropped_below p qs) q is in
          own-queue d qs filed q ((among_filter (λ q. not (lies_inside p q)) qs q at.0).0) a at.1 b ∙ outside-one p d a b e

  -- ---- one more point

  common-among : (p : Path) (qs : List (Queue T)) (q : Queue T) → Among q qs → is_common_of p q ≡ true → has_common p qs ≡ true
  common-among p [] q m h = absurd m
  common-among p (r ∷ rs) q (inl is) h = or_left (is_common_of p r) (has_common p rs) (ap (λ (x : Queue T). is_common_of p x) is ∙ h)
  common-among p (r ∷ rs) q (inr m) h = or_right (is_common_of p r) (has_common p rs) (common-among p rs q m h)

  common-found : (p : Path) (qs : List (Queue T)) → has_common p qs ≡ true → (q : Queue T) × Among q qs × (is_common_of p q ≡ true)
  common-found p [] h = absurd (cc)
  common-found p (q ∷ qs) h = by (is_common_of p q) refl h (common-found p qs)
    where
      by : (b : Bool) → is_common_of p q ≡ b → (b || has_common p qs) ≡ true → (has_common p qs ≡ true → (r : Queue T) × Among r qs × (is_common_of p r ≡ true)) → (r : Queue T) × Among r (q ∷ qs) × (is_common_of p r ≡ true)
      by true e g rest = (q, inl refl, e)
      by false e g rest = let r = rest g in (r.0, inr r.1, r.2)

  module _ (a : IpAddr) (c : Bool) (d : IpAddr → Option Bool) (qs : List (Queue T)) (filed : Filed d qs) (fresh : is_declared a qs ≡ false) where
    no-queue : find (has a) qs ≡ None
    no-queue = by (find (has a) qs) (sym (declared-found a qs) ∙ fresh)
      where
        by : (o : Option (Queue T)) → is_some o ≡ false → o ≡ None
        by None e = refl
        by (Some q) e = absurd (cc)

    not-in : (q : Queue T) → Among q qs → has a q ≡ false
    not-in = found-none (has a) qs no-queue

    no-discipline : d a ≡ None
    no-discipline = sym (filed.declared a) ∙ ap (option_map (λ (q : Queue T). q.common)) no-queue

    -- a point that has a queue is another one
    other : (b : IpAddr) (q : Queue T) → Among q qs → has b q ≡ true → same_ip a b ≡ false
    other b q m h = differ-unless a b (λ e. let wrong : true ≡ false = sym h ∙ ap (λ x. has x q) (sym e) ∙ not-in q m in cc)

    -- a queue's point shares the common queue where it is one
    shares-of : (b : IpAddr) (q : Queue T) → Among q qs → has b q ≡ true → shares (d b) ≡ q.common
    shares-of b q m h = ap shares (sym (filed.declared b) ∙ ap (option_map (λ (r : Queue T). r.common)) (found-apart qs filed.apart q m b h))

    -- a point that shares a common queue is in one
    common-of : (b : IpAddr) → shares (d b) ≡ true → (q : Queue T) × Among q qs × (has b q ≡ true) × (q.common ≡ true)
    common-of b h = by (find (has b) qs) refl (filed.declared b)
      where
        by : (o : Option (Queue T)) → find (has b) qs ≡ o → option_map (λ (q : Queue T). q.common) o ≡ d b → (q : Queue T) × Among q qs × (has b q ≡ true) × (q.common ≡ true)
        by None is e = let wrong : false ≡ true = ap shares e ∙ h in absurd (cc)
        by (Some q) is e = let at = find_among (has b) qs q is in (q, at.0, at.1, ap shares e ∙ h)

    -- ---- a queue of its own

    module _ (alone : (c && has_common a.path qs) ≡ false) where
      -- no point of the instance shares a common queue, if this one does
      none-shares : (b : IpAddr) → bytes_eq a.path b.path ≡ true → (c && shares (d b)) ≡ false
      none-shares b e = false-unless (c && shares (d b)) (λ h.
          let both = part-true c (shares (d b)) h in
          let q = common-of b both.1 in
          let here : has_common a.path qs ≡ true = common-among a.path qs q.0 q.1 (both-true q.0.common (some_of a.path q.0.ips) q.3 (some_of-among a.path q.0.ips b q.2 e)) in
          let wrong : true ≡ false = sym (both-true c (has_common a.path qs) both.0 here) ∙ alone in cc)

      find-last : (b : IpAddr) (rs : List (Queue T)) → find (has b) (rs ++ new_queue a c ∷ []) ≡ (if is_some (find (has b) rs) then find (has b) rs else (if same_ip b a then Some (new_queue a c) else None))
      find-last b [] = ap (λ x. cond x (Some (new_queue a c)) None) (by (same_ip b a))
        where
          by : (x : Bool) → (x || false) ≡ x
          by true = refl
          by false = refl
      find-last b (r ∷ rs) = by (has b r) (find-last b rs)
        where
          by : (x : Bool) → find (has b) (rs ++ new_queue a c ∷ []) ≡ (if is_some (find (has b) rs) then find (has b) rs else (if same_ip b a then Some (new_queue a c) else None))
              → cond x (Some r) (find (has b) (rs ++ new_queue a c ∷ [])) ≡ (if is_some (cond x (Some r) (find (has b) rs)) then cond x (Some r) (find (has b) rs) else (if same_ip b a then Some (new_queue a c) else None))
          by true rest = refl
          by false rest = rest

      apart-last : (rs : List (Queue T)) → AllApart rs → ((q : Queue T) → Among q rs → has a q ≡ false) → AllApart (rs ++ new_queue a c ∷ [])
      apart-last [] p none = (tt, tt)
      apart-last (r ∷ rs) p none = (
        from-apart r (rs ++ new_queue a c ∷ []) (λ x m b h. by b h x (among_append rs (new_queue a c ∷ []) x m)),
        apart-last rs p.1 (λ q m. none q (inr m)),
      )
        where
          by : (b : IpAddr) → has b r ≡ true → (x : Queue T) → Among x rs ⊎ Among x (new_queue a c ∷ []) → has b x ≡ false
          by b h x (inl m) = apart-from r rs p.0 x m b h
          by b h x (inr (inl is)) =
              let apart_ips : same_ip b a ≡ false = differ-unless b a (λ e. let wrong : true ≡ false = sym h ∙ ap (λ y. has y r) e ∙ none r (inl refl) in cc) in
              ap (λ (y : Queue T). has b y) (sym is) ∙ ap (λ y. y || false) apart_ips
          by b h x (inr (inr m)) = absurd m

      one-with : (b : IpAddr) (q : Queue T) → Among q qs → has b q ≡ true → (e : IpAddr) → has e q ≡ one_of (with_one a c d) b e
      one-with b q m h e = by (same_ip a e) refl
        where
          d_b : with_one a c d b ≡ d b
          d_b = with_other a c d b (other b q m h)

          by : (x : Bool) → same_ip a e ≡ x → has e q ≡ one_of (with_one a c d) b e
          by false f = own-queue d qs filed q m b h e ∙ (λ i. same_ip b e || (bytes_eq b.path e.path && (shares (sym d_b i) && shares (sym (with_other a c d e f) i))))
          by true f =
              let is : a ≡ e = same_ip-equal a e f in
              let apart_ips : same_ip b e ≡ false = same_ip-swap b e ∙ ap (λ x. same_ip x b) (sym is) ∙ other b q m h in
              let new : shares (with_one a c d e) ≡ c = ap (λ x. shares (with_one a c d x)) (sym is) ∙ ap shares (with_own a c d) in
              let none : (bytes_eq b.path e.path && (shares (d b) && c)) ≡ false = false-unless (bytes_eq b.path e.path && (shares (d b) && c)) (λ g.
              let parts = part-true (bytes_eq b.path e.path) (shares (d b) && c) g in
              let last = part-true (shares (d b)) c parts.1 in
              let at : bytes_eq a.path b.path ≡ true = ap (λ x. bytes_eq x b.path) (ap (λ (x : IpAddr). x.path) is ∙ sym (same_path-equal b.path e.path parts.0)) ∙ same_path-refl b.path in
              let wrong : true ≡ false = sym (both-true c (shares (d b)) last.1 last.0) ∙ none-shares b at in cc) in
              ap (λ x. has x q) (sym is) ∙ not-in q m
              ∙ sym ((λ i. apart_ips i || (bytes_eq b.path e.path && (shares (d_b i) && new i))) ∙ none)

      none-else : (e : IpAddr) (x : Bool) → bytes_eq a.path e.path ≡ x → (x && (c && shares (d e))) ≡ false
      none-else e true g = none-shares e g
      none-else e false g = refl

      own-with : (e : IpAddr) → has {T = T} e (new_queue a c) ≡ one_of (with_one a c d) a e
      own-with e = by (same_ip a e) refl
        where
          by : (x : Bool) → same_ip a e ≡ x → (same_ip e a || false) ≡ (same_ip a e || (bytes_eq a.path e.path && (shares (with_one a c d a) && shares (with_one a c d e))))
          by true f = ap (λ x. x || false) (same_ip-swap e a ∙ f) ∙ sym (ap (λ x. x || (bytes_eq a.path e.path && (shares (with_one a c d a) && shares (with_one a c d e)))) f)
          by false f =
              ap (λ x. x || false) (same_ip-swap e a ∙ f)
              ∙ sym ((λ i. f i || (bytes_eq a.path e.path && (shares (with_own a c d i) && shares (with_other a c d e f i)))) ∙ none-else e (bytes_eq a.path e.path) refl)

      declared-last : (b : IpAddr) (x : Bool) → same_ip a b ≡ x → find (has b) qs ≡ None → option_map (λ (q : Queue T). q.common) (if same_ip b a then Some (new_queue a c) else None) ≡ with_one a c d b
      declared-last b true f is = ap (λ x. option_map (λ (q : Queue T). q.common) (if x then Some (new_queue a c) else None)) (same_ip-swap b a ∙ f) ∙ sym (ap (λ x. if x then Some c else d b) f)
      declared-last b false f is =
          ap (λ x. option_map (λ (q : Queue T). q.common) (if x then Some (new_queue a c) else None)) (same_ip-swap b a ∙ f)
          ∙ sym (with_other a c d b f ∙ sym (filed.declared b) ∙ ap (option_map (λ (q : Queue T). q.common)) is)

      simple : (x : Bool) → (x || false) ≡ true → x ≡ true
      simple true h = refl
      simple false h = h

      filed-last : Filed (with_one a c d) (qs ++ new_queue a c ∷ [])
      filed-last = record {
        declared = λ b. ap (option_map (λ (q : Queue T). q.common)) (find-last b qs) ∙ declared b (find (has b) qs) refl;
        together = λ b q is e. together b q (find_among (has b) (qs ++ new_queue a c ∷ []) q is) e;
        apart = apart-last qs filed.apart not-in;
      }
        where
          declared : (b : IpAddr) (o : Option (Queue T)) → find (has b) qs ≡ o
              → option_map (λ (q : Queue T). q.common) (if is_some (find (has b) qs) then find (has b) qs else (if same_ip b a then Some (new_queue a c) else None)) ≡ with_one a c d b
          declared b None is = ap (λ o. option_map (λ (q : Queue T). q.common) (if is_some o then o else (if same_ip b a then Some (new_queue a c) else None))) is ∙ declared-last b (same_ip a b) refl is
          declared b (Some q) is =
              let at = find_among (has b) qs q is in
              ap (λ o. option_map (λ (q : Queue T). q.common) (if is_some o then o else (if same_ip b a then Some (new_queue a c) else None))) is
              ∙ sym (ap (option_map (λ (q : Queue T). q.common)) is) ∙ filed.declared b ∙ sym (with_other a c d b (other b q at.0 at.1))

          together : (b : IpAddr) (q : Queue T) → Among q (qs ++ new_queue a c ∷ []) × (has b q ≡ true) → (e : IpAddr) → has e q ≡ one_of (with_one a c d) b e
          together b q at e = by (among_append qs (new_queue a c ∷ []) q at.0)
            where
              by : Among q qs ⊎ Among q (new_queue a c ∷ []) → has e q ≡ one_of (with_one a c d) b e
              by (inl m) = one-with b q m at.1 e
              by (inr (inl is)) =
                  let here : has {T = T} b (new_queue a c) ≡ true = ap (λ (x : Queue T). has b x) is ∙ at.1 in
                  let same : b ≡ a = same_ip-equal b a (simple (same_ip b a) here) in
                  ap (λ (x : Queue T). has e x) (sym is) ∙ own-with e ∙ ap (λ x. one_of (with_one a c d) x e) (sym same)
              by (inr (inr m)) = absurd m

    -- ---- a place in the common queue of its instance

    abbrev join : Queue T → Queue T
    join q = if is_common_of a.path q then joined a q else q

    join-common : (x : Bool) (q : Queue T) → (if x then joined a q else q).common ≡ q.common
    join-common true q = refl
    join-common false q = refl

    -- another point is where it was
    has-other : (b : IpAddr) → same_ip a b ≡ false → (q : Queue T) → has b (join q) ≡ has b q
    has-other b f q = by (is_common_of a.path q)
      where
        no-more : (x : Bool) → (x || false) ≡ x
        no-more true = refl
        no-more false = refl

        by : (x : Bool) → has b (if x then joined a q else q) ≡ has b q
        by true = among-append b a q.ips ∙ ap (λ x. among b q.ips || x) (same_ip-swap b a ∙ f) ∙ no-more (among b q.ips)
        by false = refl

    -- the point is in the common queue of its instance
    has-own : (q : Queue T) → Among q qs → has a (join q) ≡ is_common_of a.path q
    has-own q m = by (is_common_of a.path q)
      where
        by : (x : Bool) → has a (if x then joined a q else q) ≡ x
        by true = among-append a a q.ips ∙ or_right (among a q.ips) (same_ip a a) (same_ip-refl a)
        by false = not-in q m

    abbrev with_common : IpAddr → Option Bool
    with_common = with_one a true d

    -- a queue has a point of the instance where one of its points is
    some-there : (q : Queue T) → Among q qs → (b : IpAddr) → has b q ≡ true → some_of a.path q.ips ≡ bytes_eq b.path a.path
    some-there q m b h = by (bytes_eq b.path a.path) refl
      where
        by : (x : Bool) → bytes_eq b.path a.path ≡ x → some_of a.path q.ips ≡ x
        by true e = some_of-among a.path q.ips b h (ap (λ p. bytes_eq a.path p) (same_path-equal b.path a.path e) ∙ same_path-refl a.path)
        by false e = false-unless (some_of a.path q.ips) (λ g.
            let x = among-some_of a.path q.ips g in
            let wrong : true ≡ false = sym (same_path-refl a.path) ∙ ap (λ p. bytes_eq p a.path) (sym (one-path d qs filed q m b x.0 h x.1 ∙ x.2)) ∙ e in cc)

    turned : (x y : Bool) → (x && y) ≡ (y && (x && true))
    turned true true = refl
    turned true false = refl
    turned false true = refl
    turned false false = refl

    with-joined : (q : Queue T) → Among q qs → (b : IpAddr) → has b q ≡ true → (e : IpAddr) (x : Bool) → same_ip a e ≡ x → has e (join q) ≡ one_of with_common b e
    with-joined q m b h e false f =
        has-other e f q ∙ own-queue d qs filed q m b h e
        ∙ (λ i. same_ip b e || (bytes_eq b.path e.path && (shares (sym (with_other a true d b (other b q m h)) i) && shares (sym (with_other a true d e f) i))))
    with-joined q m b h e true f =
        let is : a ≡ e = same_ip-equal a e f in
        let out : same_ip b a ≡ false = same_ip-swap b a ∙ other b q m h in
        let here : has a (join q) ≡ one_of with_common b a =
        has-own q m ∙ (λ i. q.common && some-there q m b h i) ∙ turned q.common (bytes_eq b.path a.path)
        ∙ sym (λ i. out i || (bytes_eq b.path a.path && ((ap shares (with_other a true d b (other b q m h)) ∙ shares-of b q m h) i && shares (with_own a true d i)))) in
        subst (λ x. has x (join q) ≡ one_of with_common b x) is here

    own-joined : (q : Queue T) → Among q qs → is_common_of a.path q ≡ true → (e : IpAddr) (x : Bool) → same_ip a e ≡ x → has e (join q) ≡ one_of with_common a e
    own-joined q m j e true f =
        ap (λ x. has x (join q)) (sym (same_ip-equal a e f)) ∙ has-own q m ∙ j
        ∙ sym (ap (λ x. x || (bytes_eq a.path e.path && (shares (with_common a) && shares (with_common e)))) f)
    own-joined q m j e false f =
        let parts = part-true q.common (some_of a.path q.ips) j in
        let b = among-some_of a.path q.ips parts.1 in
        has-other e f q ∙ own-queue d qs filed q m b.0 b.1 e
        ∙ (λ i. same_ip b.0 e || (bytes_eq (b.2 i) e.path && ((shares-of b.0 q m b.1 ∙ parts.0) i && shares (d e))))
        ∙ by b.0 b.1 b.2 (same_ip b.0 e) refl
        ∙ sym (λ i. f i || (bytes_eq a.path e.path && (shares (with_own a true d i) && shares (with_other a true d e f i))))
      where
        by : (b : IpAddr) → has b q ≡ true → b.path ≡ a.path → (x : Bool) → same_ip b e ≡ x → (x || (bytes_eq a.path e.path && (true && shares (d e)))) ≡ (bytes_eq a.path e.path && (true && shares (d e)))
        by b h at false g = refl
        by b h at true g =
            let is : b ≡ e = same_ip-equal b e g in
            let path : bytes_eq a.path e.path ≡ true = ap (λ p. bytes_eq a.path p) (ap (λ (x : IpAddr). x.path) (sym is) ∙ at) ∙ same_path-refl a.path in
            let common : shares (d e) ≡ true = ap (λ x. shares (d x)) (sym is) ∙ shares-of b q m h ∙ (part-true q.common (some_of a.path q.ips) j).0 in
            sym (both-true (bytes_eq a.path e.path) (shares (d e)) path common)

    separate : (q r : Queue T) → Among q qs → Among r qs → ((e : IpAddr) → has e q ≡ true → has e r ≡ false) → (b : IpAddr) (x : Bool) → same_ip a b ≡ x → has b (join q) ≡ true → has b (join r) ≡ false
    separate q r m n apart b false f h = has-other b f r ∙ apart b (sym (has-other b f q) ∙ h)
    separate q r m n apart b true f h =
        let is : a ≡ b = same_ip-equal a b f in
        ap (λ x. has x (join r)) (sym is) ∙ has-own r n
        ∙ false-unless (is_common_of a.path r) (λ k.
        let in_q = part-true q.common (some_of a.path q.ips) (sym (has-own q m) ∙ ap (λ x. has x (join q)) is ∙ h) in
        let in_r = part-true r.common (some_of a.path r.ips) k in
        let x = among-some_of a.path q.ips in_q.1 in
        let y = among-some_of a.path r.ips in_r.1 in
        let one : one_of d x.0 y.0 ≡ true = or_right (same_ip x.0 y.0) (bytes_eq x.0.path y.0.path && (shares (d x.0) && shares (d y.0)))
        (both-true (bytes_eq x.0.path y.0.path) (shares (d x.0) && shares (d y.0))
        (ap (λ p. bytes_eq p y.0.path) (x.2 ∙ sym y.2) ∙ same_path-refl y.0.path)
        (both-true (shares (d x.0)) (shares (d y.0)) (shares-of x.0 q m x.1 ∙ in_q.0) (shares-of y.0 r n y.1 ∙ in_r.0))) in
        let there : has y.0 q ≡ true = own-queue d qs filed q m x.0 x.1 y.0 ∙ one in
        let wrong : true ≡ false = sym y.1 ∙ apart y.0 there in cc)

    join-apart : (rs : List (Queue T)) → ((x : Queue T) → Among x rs → Among x qs) → AllApart rs → AllApart (each join rs)
    join-apart [] inside p = tt
    join-apart (r ∷ rs) inside p = (
      from-apart (join r) (each join rs) (λ y m b h.
          let x = among-each join rs y m in
          ap (λ (z : Queue T). has b z) (sym x.2) ∙ separate r x.0 (inside r (inl refl)) (inside x.0 (inr x.1)) (apart-from r rs p.0 x.0 x.1) b (same_ip a b) refl h),
      join-apart rs (λ x m. inside x (inr m)) p.1,
    )

    filed-joined : has_common a.path qs ≡ true → Filed with_common (each join qs)
    filed-joined shared = record {
      declared = λ b. declared b (same_ip a b) refl;
      together = λ b q is e. together b q (find_among (has b) (each join qs) q is) (same_ip a b) refl e;
      apart = join-apart qs (λ x m. m) filed.apart;
    }
      where
        by : (o : Option (Queue T)) → option_map (λ (q : Queue T). q.common) (option_map join o) ≡ option_map (λ (q : Queue T). q.common) o
        by None = refl
        by (Some q) = ap Some (join-common (is_common_of a.path q) q)

        declared : (b : IpAddr) (x : Bool) → same_ip a b ≡ x → option_map (λ (q : Queue T). q.common) (find (has b) (each join qs)) ≡ with_common b
        declared b false f =
            ap (option_map (λ (q : Queue T). q.common)) (find-each join (has b) (has b) qs (λ q m. has-other b f q)) ∙ by (find (has b) qs) ∙ filed.declared b
            ∙ sym (with_other a true d b f)
        declared b true f =
            let is : a ≡ b = same_ip-equal a b f in
            let some = common-found a.path qs shared in
            let q = find-some (is_common_of a.path) qs some.0 some.1 some.2 in
            let at = find_among (is_common_of a.path) qs q.0 q.1 in
            let here : option_map (λ (q : Queue T). q.common) (find (has a) (each join qs)) ≡ with_common a =
            ap (option_map (λ (q : Queue T). q.common)) (find-each join (has a) (is_common_of a.path) qs has-own) ∙ by (find (is_common_of a.path) qs)
            ∙ ap (option_map (λ (q : Queue T). q.common)) q.1 ∙ ap Some ((part-true q.0.common (some_of a.path q.0.ips) at.1).0) ∙ sym (with_own a true d) in
            subst (λ x. option_map (λ (q : Queue T). q.common) (find (has x) (each join qs)) ≡ with_common x) is here

        together : (b : IpAddr) (q : Queue T) → Among q (each join qs) × (has b q ≡ true) → (x : Bool) → same_ip a b ≡ x → (e : IpAddr) → has e q ≡ one_of with_common b e
        together b q at false f e =
            let r = among-each join qs q at.0 in
            let here : has b r.0 ≡ true = sym (has-other b f r.0) ∙ ap (λ (x : Queue T). has b x) r.2 ∙ at.1 in
            ap (λ (x : Queue T). has e x) (sym r.2) ∙ with-joined r.0 r.1 b here e (same_ip a e) refl
        together b q at true f e =
            let is : a ≡ b = same_ip-equal a b f in
            let r = among-each join qs q at.0 in
            let here : is_common_of a.path r.0 ≡ true = sym (has-own r.0 r.1) ∙ ap (λ x. has x (join r.0)) is ∙ ap (λ (x : Queue T). has b x) r.2 ∙ at.1 in
            ap (λ (x : Queue T). has e x) (sym r.2) ∙ own-joined r.0 r.1 here e (same_ip a e) refl ∙ ap (λ x. one_of with_common x e) is

    pub filed-declared : Filed (with_one a c d) (declared a c qs)
    filed-declared = by (c && has_common a.path qs) refl
      where
        by : (x : Bool) → (c && has_common a.path qs) ≡ x → Filed (with_one a c d) (if x then each join qs else qs ++ new_queue a c ∷ [])
        by true e =
            let parts = part-true c (has_common a.path qs) e in
            subst (λ y. Filed (with_one a y d) (each join qs)) (sym parts.0) (filed-joined parts.1)
        by false e = filed-last e
