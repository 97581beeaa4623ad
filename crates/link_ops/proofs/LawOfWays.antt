-- A way ends within as many steps as there are links, since attachments go from an instance to its child.
use Rattle.std.proofs.Common.{◌≡◌, ◌≢◌, ◌⊎◌, ℕ, zero, suc, ◌+◌, ◌<◌, ◌≤◌, Bool, true, false, cond, not, ◌&&◌, List, [], ◌∷◌, ◌++◌, length, Option, Some, None, count_by, refl, sym, ap, ◌∙◌, inl, inr, arith, length-append, nat_lt, subst, ◌-◌, zero-add}
use Rattle.std.specs.List.{find, All}
use Rattle.std.specs.Option.{option_map, unwrap_or}
use Rattle.std.proofs.lemmas.List.Sums.{sum_by-cons}
use Rattle.std.proofs.lemmas.List.Sums.{count_by-le-length}
use Rattle.std.proofs.lemmas.Bool.{cases_lt, ltb-true}
use Rattle.std.proofs.lemmas.Bool.Decides.{Decides-ltb}
use Rattle.estelle_tree.specs.declared.link.IpAddr.{IpAddr}
use Rattle.estelle_tree.specs.declared.link.Link.{Link}
use Rattle.estelle_tree.specs.Links.{is_connection, is_upper_of, is_lower_of, same_ip, above, below, peer, route, top, bottom, steps_from}
use Rattle.link_ops.specs.Linked.{GoesDown, IsChild}
use Rattle.link_ops.proofs.Same.{same-equal}
use Rattle.link_ops.proofs.Ways.{steps-done}

-- ---- counts

count-cons : (p : Link → Bool) (m : Link) (ms : List Link) → count_by p (m ∷ ms) ≡ cond (p m) 1 0 + count_by p ms
count-cons p m ms = sum_by-cons (λ z. cond (p z) 1 0) m ms

one_le : (b c : Bool) → (b ≡ true → c ≡ true) → cond b 1 0 ≤ cond c 1 0
one_le false c h = omega arith
one_le true c h = rw (h refl) (omega arith)

count-mono : (p q : Link → Bool) → ((m : Link) → p m ≡ true → q m ≡ true) → (ms : List Link) → count_by p ms ≤ count_by q ms
count-mono p q h [] = omega arith
count-mono p q h (m ∷ ms) = omega (arith, count-cons p m ms, count-cons q m ms, one_le (p m) (q m) (h m), count-mono p q h ms)

count-more : (f p q : Link → Bool) → ((m : Link) → p m ≡ true → q m ≡ true) → (ms : List Link) (l : Link) → find f ms ≡ Some l → q l ≡ true → p l ≡ false → count_by p ms + 1 ≤ count_by q ms
count-more f p q h [] l is passes fails = absurd (cc)
count-more f p q h (m ∷ ms) l is passes fails = by (f m) is (λ e. count-more f p q h ms l e passes fails)
  where
    by : (b : Bool) → cond b (Some m) (find f ms) ≡ Some l → (find f ms ≡ Some l → count_by p ms + 1 ≤ count_by q ms) → count_by p (m ∷ ms) + 1 ≤ count_by q (m ∷ ms)
    by true e on =
        let same : m ≡ l = cc in
        let a : ◌≡◌ {A = ℕ} (cond (p m) 1 0) 0 = rw (same, fails) refl in
        let b : ◌≡◌ {A = ℕ} (cond (q m) 1 0) 1 = rw (same, passes) refl in
        omega (arith, count-cons p m ms, count-cons q m ms, a, b, count-mono p q h ms)
    by false e on = omega (arith, count-cons p m ms, count-cons q m ms, one_le (p m) (q m) (h m), on e)

found-All : (P : Link → Type 0) (f : Link → Bool) (ms : List Link) (l : Link) → All P ms → find f ms ≡ Some l → P l × (f l ≡ true)
found-All P f [] l all is = absurd (cc)
found-All P f (m ∷ ms) l all is = by (f m) refl is (λ e. found-All P f ms l (λ k d within. all (suc k) d (omega arith)) e)
  where
    by : (b : Bool) → f m ≡ b → cond b (Some m) (find f ms) ≡ Some l → (find f ms ≡ Some l → P l × (f l ≡ true)) → P l × (f l ≡ true)
    by true e h on = let same : m ≡ l = cc in (subst P same (all 0 m (omega arith)), rw (← same) e)
    by false e h on = on h

and_true : (x y : Bool) → (x && y) ≡ true → (x ≡ true) × (y ≡ true)
and_true true y e = (refl, e)
and_true false y e = absurd (cc)

not_true : (x : Bool) → not x ≡ true → x ≡ false
not_true true e = absurd (cc)
not_true false e = refl

length-child : (p q : List ℕ) → IsChild p q → length q ≡ length p + 1
length-child p q child = rw child.1 (length-append p (child.0 ∷ []))

not_less : (a b : ℕ) → b ≤ a → nat_lt a b ≡ false
not_less a b h = by (nat_lt a b) refl
  where
    by : (t : Bool) → nat_lt a b ≡ t → t ≡ false
    by false e = refl
    by true e = absurd (omega (arith, ltb-true a b e))

-- ---- down

-- an attachment whose upper end is at least so deep
at_least : ℕ → Link → Bool
at_least d l = not (is_connection l.kind) && nat_lt d (suc (length l.first.path))

-- an attachment whose lower end is at most so deep
at_most : ℕ → Link → Bool
at_most d l = not (is_connection l.kind) && nat_lt (length l.second.path) (suc d)

deeper : (d : ℕ) (m : Link) → at_least (d + 1) m ≡ true → at_least d m ≡ true
unfolding at_least
deeper d m h =
    let both = and_true (not (is_connection m.kind)) (nat_lt (d + 1) (suc (length m.first.path))) h in
    let less : d < suc (length m.first.path) = omega (arith, ltb-true _ _ both.1) in
    rw (both.0) ((Decides-ltb d (suc (length m.first.path))).1 less)

higher : (d : ℕ) (m : Link) → at_most d m ≡ true → at_most (d + 1) m ≡ true
unfolding at_most
higher d m h =
    let both = and_true (not (is_connection m.kind)) (nat_lt (length m.second.path) (suc d)) h in
    let less : length m.second.path < suc (d + 1) = omega (arith, ltb-true _ _ both.1) in
    rw (both.0) ((Decides-ltb (length m.second.path) (suc (d + 1))).1 less)

module _ (links : List Link) (down : All GoesDown links) where
  record Attached (f : Link → Bool) (upper lower : IpAddr) : Type 0 where
    pub link : Link
    pub found : find f links ≡ Some link
    pub attached : is_connection link.kind ≡ false
    pub first : link.first ≡ upper
    pub second : link.second ≡ lower
    pub child : IsChild upper.path lower.path

  below-attached : (a b : IpAddr) → below links a ≡ Some b → Attached (is_upper_of a) a b
  below-attached a b is = by (find (is_upper_of a) links) refl is
    where
      by : (o : Option Link) → find (is_upper_of a) links ≡ o → option_map (λ l. l.second) o ≡ Some b → Attached (is_upper_of a) a b
      by None e h = absurd (cc)
      by (Some l) e h =
          let found = found-All GoesDown (is_upper_of a) links l down e in
          let both = and_true (not (is_connection l.kind)) (same_ip a l.first) found.1 in
          let attached = not_true (is_connection l.kind) both.0 in
          let first : l.first ≡ a = sym (same-equal a l.first both.1) in
          let second : l.second ≡ b = cc in
          record { link = l; found = e; attached = attached; first = first; second = second; child = rw (← first, ← second) (found.0 attached) }

  above-attached : (a b : IpAddr) → above links a ≡ Some b → Attached (is_lower_of a) b a
  above-attached a b is = by (find (is_lower_of a) links) refl is
    where
      by : (o : Option Link) → find (is_lower_of a) links ≡ o → option_map (λ l. l.first) o ≡ Some b → Attached (is_lower_of a) b a
      by None e h = absurd (cc)
      by (Some l) e h =
          let found = found-All GoesDown (is_lower_of a) links l down e in
          let both = and_true (not (is_connection l.kind)) (same_ip a l.second) found.1 in
          let attached = not_true (is_connection l.kind) both.0 in
          let second : l.second ≡ a = sym (same-equal a l.second both.1) in
          let first : l.first ≡ b = cc in
          record { link = l; found = e; attached = attached; first = first; second = second; child = rw (← first, ← second) (found.0 attached) }

  fewer_below : (a b : IpAddr) → below links a ≡ Some b → count_by (at_least (length b.path)) links + 1 ≤ count_by (at_least (length a.path)) links
  unfolding at_least
  fewer_below a b is =
      let x = below-attached a b is in
      let size = length-child a.path b.path x.child in
      rw size
      (count-more (is_upper_of a) (at_least (length a.path + 1)) (at_least (length a.path)) (deeper (length a.path)) links x.link x.found
      (rw (x.attached, x.first) ((Decides-ltb (length a.path) (suc (length a.path))).1 (omega arith)))
      (rw (x.attached, x.first) (not_less (length a.path + 1) (suc (length a.path)) (omega arith))))

  fewer_above : (a b : IpAddr) → above links a ≡ Some b → count_by (at_most (length b.path)) links + 1 ≤ count_by (at_most (length a.path)) links
  unfolding at_most
  fewer_above a b is =
      let x = above-attached a b is in
      let size = length-child b.path a.path x.child in
      rw size
      (count-more (is_lower_of a) (at_most (length b.path)) (at_most (length b.path + 1)) (higher (length b.path)) links x.link x.found
      (rw (x.attached, x.second, size) ((Decides-ltb (length b.path + 1) (suc (length b.path + 1))).1 (omega arith)))
      (rw (x.attached, x.second, size) (not_less (length b.path + 1) (suc (length b.path)) (omega arith))))

  ends_below : (n : ℕ) (a : IpAddr) → count_by (at_least (length a.path)) links ≤ n → below links (steps_from (below links) n a) ≡ None
  ends_below zero a few = by (below links a) refl
    where
      by : (o : Option IpAddr) → below links a ≡ o → below links a ≡ None
      by None e = e
      by (Some b) e = absurd (omega (arith, fewer_below a b e))
  ends_below (suc n) a few = by (below links a) refl (λ b. ends_below n b)
    where
      by : (o : Option IpAddr) → below links a ≡ o → ((b : IpAddr) → count_by (at_least (length b.path)) links ≤ n → below links (steps_from (below links) n b) ≡ None) → below links (steps_from (below links) n (unwrap_or (below links a) a)) ≡ None
      by None e on = rw (e, steps-done (below links) n a e) e
      by (Some b) e on = rw e (on b (omega (arith, fewer_below a b e)))

  ends_above : (n : ℕ) (a : IpAddr) → count_by (at_most (length a.path)) links ≤ n → above links (steps_from (above links) n a) ≡ None
  ends_above zero a few = by (above links a) refl
    where
      by : (o : Option IpAddr) → above links a ≡ o → above links a ≡ None
      by None e = e
      by (Some b) e = absurd (omega (arith, fewer_above a b e))
  ends_above (suc n) a few = by (above links a) refl (λ b. ends_above n b)
    where
      by : (o : Option IpAddr) → above links a ≡ o → ((b : IpAddr) → count_by (at_most (length b.path)) links ≤ n → above links (steps_from (above links) n b) ≡ None) → above links (steps_from (above links) n (unwrap_or (above links a) a)) ≡ None
      by None e on = rw (e, steps-done (above links) n a e) e
      by (Some b) e on = rw e (on b (omega (arith, fewer_above a b e)))

  -- no way leads on from the last point
  pub bottom-ends : (a : IpAddr) → below links (bottom links a) ≡ None
  bottom-ends a = ends_below (length links) a (count_by-le-length (at_least (length a.path)) links)

  pub top-ends : (a : IpAddr) → above links (top links a) ≡ None
  top-ends a = ends_above (length links) a (count_by-le-length (at_most (length a.path)) links)

-- ---- the last point is the only one

steps-more : (step : IpAddr → Option IpAddr) (m n : ℕ) (a : IpAddr) → steps_from step (m + n) a ≡ steps_from step n (steps_from step m a)
steps-more step zero n a = rw zero-add refl
steps-more step (suc m) n a = let e : suc m + n ≡ suc (m + n) = omega arith in rw e (steps-more step m n (unwrap_or (step a) a))

same_end : (step : IpAddr → Option IpAddr) (m n : ℕ) (a : IpAddr) → m ≤ n → step (steps_from step m a) ≡ None → steps_from step n a ≡ steps_from step m a
same_end step m n a less ends =
    let e : n ≡ m + (n - m) = omega arith in
    rw (e, steps-more step m (n - m) a) (steps-done step (n - m) (steps_from step m a) ends)

only_end : (step : IpAddr → Option IpAddr) (m n : ℕ) (a : IpAddr) → step (steps_from step m a) ≡ None → step (steps_from step n a) ≡ None → steps_from step m a ≡ steps_from step n a
only_end step m n a ends also = elim (cases_lt m n) [
  | inl less ↦ sym (same_end step m n a (omega arith) ends)
  | inr more ↦ same_end step n m a more also
]

pub bottom-only : (links : List Link) → All GoesDown links → (a : IpAddr) (n : ℕ) → below links (steps_from (below links) n a) ≡ None → steps_from (below links) n a ≡ bottom links a
bottom-only links down a n ends = only_end (below links) n (length links) a ends (bottom-ends links down a)

pub top-only : (links : List Link) → All GoesDown links → (a : IpAddr) (n : ℕ) → above links (steps_from (above links) n a) ≡ None → steps_from (above links) n a ≡ top links a
top-only links down a n ends = only_end (above links) n (length links) a ends (top-ends links down a)

pub route-end : (links : List Link) → All GoesDown links → (a b : IpAddr) → route links a ≡ Some b → below links b ≡ None
route-end links down a b is = by (peer links (top links a)) is
  where
    by : (o : Option IpAddr) → option_map (bottom links) o ≡ Some b → below links b ≡ None
    by None h = absurd (cc)
    by (Some c) h = let same : bottom links c ≡ b = cc in rw (← same) (bottom-ends links down c)
