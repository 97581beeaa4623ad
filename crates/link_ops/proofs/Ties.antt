-- What the points know of the pairs is what the links say.
use Rattle.std.proofs.Common.{◌≡◌, ◌≢◌, ◌⊎◌, ℕ, zero, suc, ◌+◌, ◌-◌, ◌<◌, Bool, true, false, cond, List, Option, Some, None, refl, sym, ap, ◌∙◌, subst, inl, inr, nat_eq, arith}
use Rattle.std.specs.List.{find}
use Rattle.std.specs.Option.{option_map, option_and_then, unwrap_or}
use Rattle.std.proofs.lemmas.Bool.{eq-eqb}
use Rattle.std.proofs.lemmas.Bool.Decides.{eqb_tells}
use Rattle.slab.specs.Slab.{get}
use Rattle.estelle_tree.specs.declared.link.IpAddr.{IpAddr}
use Rattle.estelle_tree.specs.declared.link.Link.{Link}
use Rattle.estelle_tree.specs.declared.link.LinkKind.{LinkKind}
use Rattle.estelle_tree.specs.Links.{same_ip, steps_from}
use Rattle.link_ops.specs.declared.points.Role.{Role}
use Rattle.link_ops.specs.declared.points.Node.{Node}
use Rattle.link_ops.specs.declared.points.Points.{Points}
use Rattle.link_ops.specs.declared.pairs.Pairing.{Pairing}
use Rattle.link_ops.specs.Points.{point, link_at, in_role}
use Rattle.link_ops.specs.Points as points
use Rattle.link_ops.specs.Pairs.{Tied, IsEnd, slot, seen, ip_at, link_of, has_role, way, first_role, second_role, next_of, far_end, walked, nowhere}
use Rattle.link_ops.proofs.Same.{same-apart}
use Rattle.link_ops.proofs.Rooms.{sound-apart}
use Rattle.link_ops.proofs.Lists.{find-hit, find-none}
use Rattle.link_ops.proofs.Roles.{role-of, role-first, role-second, far_of, far-first, far-second, way-find, linked}

-- ---- steps

pub walked-done : (next : ℕ → Option ℕ) (n k : ℕ) → next k ≡ None → walked next n k ≡ k
walked-done next zero k none = refl
walked-done next (suc n) k none = rw none (walked-done next n k none)

pub walked-step : (next : ℕ → Option ℕ) (steps i k m : ℕ) → i < steps → next k ≡ Some m → walked next (steps - (i + 1)) m ≡ walked next (steps - i) k
walked-step next steps i k m within is =
    let e : steps - i ≡ suc (steps - (i + 1)) = omega arith in
    rw e (ap (λ o. walked next (steps - (i + 1)) (unwrap_or o k)) (sym is))

-- ---- points

pub link-point : (p : Points) (k : ℕ) (r : Role) (i : ℕ) → link_at p k r ≡ Some i → (a : IpAddr) × (point p k ≡ Some a)
link-point p k r i is = by (get p.nodes k) refl is
  where
    by : (x : Option Node) → get p.nodes k ≡ x → points.link_of r x ≡ Some i → (a : IpAddr) × (point p k ≡ Some a)
    by None e h = absurd (cc)
    by (Some n) e h = (n.ip, ap (option_map (λ (m : Node). m.ip)) e)

pub ip-point : (p : Points) (k : ℕ) (a : IpAddr) → point p k ≡ Some a → ip_at p k ≡ a
ip-point p k a is = ap (λ o. unwrap_or o nowhere) is

module _ (p : Points) (pairs : List (Option Pairing)) (t : Tied p pairs) where
  pub end-point : (i : ℕ) (x : Pairing) (k : ℕ) (r : Role) → slot pairs i ≡ Some x → IsEnd x k r → (a : IpAddr) × (point p k ≡ Some a)
  end-point i x k r is end = link-point p k r i (t.ends i x k r is end)

  pub first-point : (i : ℕ) (x : Pairing) → slot pairs i ≡ Some x → (a : IpAddr) × (point p x.first ≡ Some a)
  first-point i x is = end-point i x x.first (first_role x.kind) is (inl (refl, refl))

  pub second-point : (i : ℕ) (x : Pairing) → slot pairs i ≡ Some x → (a : IpAddr) × (point p x.second ≡ Some a)
  second-point i x is = end-point i x x.second (second_role x.kind) is (inr (refl, refl))

  same_number : (k m : ℕ) (a b : IpAddr) → point p k ≡ Some a → point p m ≡ Some b → a ≡ ip_at p m → m ≡ k
  same_number k m a b here there same =
      let e : a ≡ b = same ∙ ip-point p m b there in
      sound-apart p t.sound m k a (there ∙ ap Some (sym e)) here

  pub hit-end : (i : ℕ) (x : Pairing) (k : ℕ) (r : Role) (a : IpAddr) → slot pairs i ≡ Some x → point p k ≡ Some a → has_role r a (link_of p x) ≡ true → IsEnd x k r
  hit-end i x k r a is here hit = elim (role-of r x.kind a (ip_at p x.first) (ip_at p x.second) hit) [
    | inl h ↦ let b = first-point i x is in inl (same_number k x.first a b.0 here b.1 h.0, h.1)
    | inr h ↦ let b = second-point i x is in inr (same_number k x.second a b.0 here b.1 h.0, h.1)
  ]

  pub end-hit : (i : ℕ) (x : Pairing) (k : ℕ) (r : Role) (a : IpAddr) → slot pairs i ≡ Some x → point p k ≡ Some a → IsEnd x k r → has_role r a (link_of p x) ≡ true
  end-hit i x k r a is here end = elim end [
    | inl h ↦
        let e : ip_at p x.first ≡ a = rw (h.0) (ip-point p k a here) in
        rw (← h.1, e) (role-first x.kind a (ip_at p x.second))
    | inr h ↦
        let e : ip_at p x.second ≡ a = rw (h.0) (ip-point p k a here) in
        rw (← h.1, e) (role-second x.kind a (ip_at p x.first))
  ]

  pub far : (i : ℕ) (x : Pairing) (k : ℕ) (r : Role) (a : IpAddr) → slot pairs i ≡ Some x → point p k ≡ Some a → IsEnd x k r → far_of r a (link_of p x) ≡ ip_at p (far_end k x)
  far i x k r a is here end = elim end [
    | inl h ↦
        let e : ip_at p x.first ≡ a = rw (h.0) (ip-point p k a here) in
        let m : nat_eq x.first k ≡ true = eq-eqb x.first k h.0 in
        rw (← h.1, e, m) (far-first x.kind a (ip_at p x.second))
    | inr h ↦
        let e : ip_at p x.second ≡ a = rw (h.0) (ip-point p k a here) in
        let b = first-point i x is in
        let other : x.first ≢ k = λ same. t.apart i x is (same ∙ sym h.0) in
        let differs : a ≢ ip_at p x.first = λ same. other (same_number k x.first a b.0 here b.1 same) in
        let m : nat_eq x.first k ≡ false = elim (eqb_tells x.first k) [ inl y ↦ absurd (other y.1) | inr n ↦ n.0 ] in
        rw (← h.1, e, m) (far-second x.kind a (ip_at p x.first) (same-apart a (ip_at p x.first) differs))
  ]

  -- ---- what is found

  pub only-hit : (k : ℕ) (r : Role) (a : IpAddr) (i : ℕ) → point p k ≡ Some a → link_at p k r ≡ Some i → (j : ℕ) (y : Pairing) → slot pairs j ≡ Some y → has_role r a (link_of p y) ≡ true → j ≡ i
  only-hit k r a i here is j y there hit =
      let other : link_at p k r ≡ Some j = t.ends j y k r there (hit-end j y k r a there here hit) in
      cc

  find-known : (k : ℕ) (r : Role) (a : IpAddr) (i : ℕ) (x : Pairing) → point p k ≡ Some a → link_at p k r ≡ Some i → slot pairs i ≡ Some x → IsEnd x k r → find (has_role r a) (seen p pairs) ≡ Some (link_of p x)
  find-known k r a i x here is there end =
      find-hit (link_of p) (has_role r a) pairs i x there (end-hit i x k r a there here end) (only-hit k r a i here is)

  false_where_absurd : (b : Bool) → (b ≡ true → ⊥) → b ≡ false
  false_where_absurd true no_hit = absurd (no_hit refl)
  false_where_absurd false no_hit = refl

  find-unknown : (k : ℕ) (r : Role) (a : IpAddr) → point p k ≡ Some a → link_at p k r ≡ None → find (has_role r a) (seen p pairs) ≡ None
  find-unknown k r a here none =
      find-none (link_of p) (has_role r a) pairs
      (λ j y there. false_where_absurd (has_role r a (link_of p y)) (λ hit.
      let other : link_at p k r ≡ Some j = t.ends j y k r there (hit-end j y k r a there here hit) in
      absurd (cc)))

  way_at : (r : Role) (a : IpAddr) (o : Option Link) → find (has_role r a) (seen p pairs) ≡ o → way r (seen p pairs) a ≡ option_map (far_of r a) o
  way_at r a o is = rw (way-find r (seen p pairs) a, is) refl

  pub way-next : (k : ℕ) (r : Role) (a : IpAddr) → point p k ≡ Some a → way r (seen p pairs) a ≡ option_map (ip_at p) (next_of p pairs r k)
  way-next k r a here = by (link_at p k r) refl
    where
      by : (o : Option ℕ) → link_at p k r ≡ o → way r (seen p pairs) a ≡ option_map (ip_at p) (next_of p pairs r k)
      by None e = rw e (way_at r a None (find-unknown k r a here e))
      by (Some i) e =
          let x = t.known k r i e in
          rw (e, x.1) (way_at r a (Some (link_of p x.0)) (find-known k r a i x.0 here e x.1 x.2) ∙ ap Some (far i x.0 k r a x.1 here x.2))

  -- where no way leads on, there is no link
  pub way-none : (k : ℕ) (r : Role) (a : IpAddr) → point p k ≡ Some a → way r (seen p pairs) a ≡ None → link_at p k r ≡ None
  way-none k r a here none = by (link_at p k r) refl (sym (way-next k r a here) ∙ none)
    where
      by : (o : Option ℕ) → link_at p k r ≡ o → option_map (ip_at p) (option_and_then (λ i. option_map (far_end k) (slot pairs i)) o) ≡ None → link_at p k r ≡ None
      by None e h = e
      by (Some i) e h = let x = t.known k r i e in let f : Some (ip_at p (far_end k x.0)) ≡ None = rw x.1 at h in absurd (cc)

  -- a point that is not there has no link
  pub way-nobody : (r : Role) (a : IpAddr) → ((k : ℕ) → point p k ≢ Some a) → way r (seen p pairs) a ≡ None
  way-nobody r a nobody =
      way_at r a None
      (find-none (link_of p) (has_role r a) pairs
      (λ j y there. false_where_absurd (has_role r a (link_of p y)) (λ hit.
      elim (role-of r y.kind a (ip_at p y.first) (ip_at p y.second) hit) [
        | inl h ↦ let b = first-point j y there in nobody y.first (b.1 ∙ ap Some (sym (ip-point p y.first b.0 b.1) ∙ sym h.0))
        | inr h ↦ let b = second-point j y there in nobody y.second (b.1 ∙ ap Some (sym (ip-point p y.second b.0 b.1) ∙ sym h.0))
      ])))

  far-point : (i : ℕ) (x : Pairing) (k : ℕ) → slot pairs i ≡ Some x → (b : IpAddr) × (point p (far_end k x) ≡ Some b)
  far-point i x k is = by (nat_eq x.first k)
    where
      by : (t : Bool) → (b : IpAddr) × (point p (cond t x.second x.first) ≡ Some b)
      by true = second-point i x is
      by false = first-point i x is

  pub next-point : (k : ℕ) (r : Role) (m : ℕ) → next_of p pairs r k ≡ Some m → (b : IpAddr) × (point p m ≡ Some b)
  next-point k r m is = by (link_at p k r) refl is
    where
      at : (i : ℕ) (o : Option Pairing) → slot pairs i ≡ o → option_map (far_end k) o ≡ Some m → (b : IpAddr) × (point p m ≡ Some b)
      at i None e h = absurd (cc)
      at i (Some x) e h = let same : far_end k x ≡ m = cc in rw (← same) (far-point i x k e)

      by : (o : Option ℕ) → link_at p k r ≡ o → option_and_then (λ i. option_map (far_end k) (slot pairs i)) o ≡ Some m → (b : IpAddr) × (point p m ≡ Some b)
      by None e h = absurd (cc)
      by (Some i) e h = at i (slot pairs i) refl h

  -- a walk over numbers is the way over the links
  pub walk-way : (r : Role) (n k : ℕ) (a : IpAddr) → point p k ≡ Some a → point p (walked (next_of p pairs r) n k) ≡ Some (steps_from (way r (seen p pairs)) n a)
  walk-way r zero k a here = here
  walk-way r (suc n) k a here = by (next_of p pairs r k) refl (λ m b. walk-way r n m b)
    where
      by : (o : Option ℕ) → next_of p pairs r k ≡ o → ((m : ℕ) (b : IpAddr) → point p m ≡ Some b → point p (walked (next_of p pairs r) n m) ≡ Some (steps_from (way r (seen p pairs)) n b)) → point p (walked (next_of p pairs r) n (unwrap_or (next_of p pairs r k) k)) ≡ Some (steps_from (way r (seen p pairs)) n (unwrap_or (way r (seen p pairs) a) a))
      by None e on = rw (way-next k r a here, e) (on k a here)
      by (Some m) e on = let b = next-point k r m e in rw (way-next k r a here, e, ip-point p m b.0 b.1) (on m b.0 b.1)
