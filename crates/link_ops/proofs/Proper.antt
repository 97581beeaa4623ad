-- What is kept is proper.
use Rattle.std.proofs.Common.{◌≡◌, ◌≢◌, ◌⊎◌, ℕ, Bool, true, false, List, Option, Some, None, refl, sym, ap, ◌∙◌, inl, inr}
use Rattle.std.specs.Prelude.{◌||◌}
use Rattle.estelle_tree.specs.declared.link.IpAddr.{IpAddr}
use Rattle.estelle_tree.specs.declared.link.LinkKind.{LinkKind}
use Rattle.estelle_tree.specs.declared.link.LinkKind.TheVariants as kind
use Rattle.estelle_tree.specs.Links.{is_connection, joins, is_upper_of, is_lower_of}
use Rattle.link_ops.specs.declared.points.Role.{Role}
use Rattle.link_ops.specs.declared.points.Role.TheVariants as role
use Rattle.link_ops.specs.declared.points.Points.{Points}
use Rattle.link_ops.specs.declared.pairs.Pairing.{Pairing}
use Rattle.link_ops.specs.Linked.{AreProper, GoesDown}
use Rattle.link_ops.specs.Points.{point, link_at}
use Rattle.link_ops.specs.Pairs.{Tied, seen, slot, link_of, has_role, ip_at}
use Rattle.link_ops.proofs.Lists.{count-once, full-All}
use Rattle.link_ops.proofs.Rooms.{sound-apart}
use Rattle.link_ops.proofs.Roles.{role-of}
use Rattle.link_ops.proofs.Ties.{first-point, second-point, ip-point}

attached : (k : LinkKind) → is_connection k ≡ false → k ≡ kind.Attachment
attached kind.Connection e = absurd (cc)
attached kind.Attachment e = refl

or_cases : (x y : Bool) → (x || y) ≡ true → (x ≡ true) ⊎ (y ≡ true)
or_cases true y e = inl refl
or_cases false y e = inr e

module _ (p : Points) (pairs : List (Option Pairing)) (t : Tied p pairs) where
  record Known (a : IpAddr) (r : Role) (i : ℕ) : Type 0 where
    pub number : ℕ
    pub here : point p number ≡ Some a
    pub link : link_at p number r ≡ Some i

  hit-known : (i : ℕ) (x : Pairing) (a : IpAddr) (r : Role) → slot pairs i ≡ Some x → has_role r a (link_of p x) ≡ true → Known a r i
  hit-known i x a r is hit = elim (role-of r x.kind a (ip_at p x.first) (ip_at p x.second) hit) [
    | inl h ↦
        let b = first-point p pairs t i x is in
        record { number = x.first; here = b.1 ∙ ap Some (sym (ip-point p x.first b.0 b.1) ∙ sym h.0); link = t.ends i x x.first r is (inl (refl, h.1)) }
    | inr h ↦
        let b = second-point p pairs t i x is in
        record { number = x.second; here = b.1 ∙ ap Some (sym (ip-point p x.second b.0 b.1) ∙ sym h.0); link = t.ends i x x.second r is (inr (refl, h.1)) }
  ]

  same_number : (a : IpAddr) (r s : Role) (i j : ℕ) (x : Known a r i) (y : Known a s j) → x.number ≡ y.number
  same_number a r s i j x y = sound-apart p t.sound x.number y.number a x.here y.here

  same_link : (a : IpAddr) (r : Role) (i j : ℕ) → Known a r i → Known a r j → i ≡ j
  same_link a r i j x y =
      let e = same_number a r r i j x y in
      let f : link_at p x.number r ≡ Some j = rw e y.link in
      let g = x.link in
      cc

  not_both : (a : IpAddr) (i j : ℕ) → Known a role.Joined i → Known a role.Lower j → ⊥
  not_both a i j x y =
      let e = same_number a role.Joined role.Lower i j x y in
      let f : link_at p x.number role.Lower ≡ Some j = rw e y.link in
      let g = t.bound x.number i x.link in
      absurd (cc)

  bound_known : (i : ℕ) (x : Pairing) (a : IpAddr) → slot pairs i ≡ Some x → (joins a (link_of p x) || is_lower_of a (link_of p x)) ≡ true → Known a role.Joined i ⊎ Known a role.Lower i
  bound_known i x a is hit = elim (or_cases (joins a (link_of p x)) (is_lower_of a (link_of p x)) hit) [
    | inl h ↦ inl (hit-known i x a role.Joined is h)
    | inr h ↦ inr (hit-known i x a role.Lower is h)
  ]

  one_bound : (a : IpAddr) (i j : ℕ) → Known a role.Joined i ⊎ Known a role.Lower i → Known a role.Joined j ⊎ Known a role.Lower j → i ≡ j
  one_bound a i j (inl x) (inl y) = same_link a role.Joined i j x y
  one_bound a i j (inl x) (inr y) = absurd (not_both a i j x y)
  one_bound a i j (inr x) (inl y) = absurd (not_both a j i y x)
  one_bound a i j (inr x) (inr y) = same_link a role.Lower i j x y

  pub proper : AreProper (seen p pairs)
  proper =
      record {
        down = full-All (link_of p) GoesDown pairs (λ i x is no_connection. t.down i x is (attached x.kind no_connection));
        bound_once = λ a. count-once (link_of p) (λ l. joins a l || is_lower_of a l) pairs (λ i j x y is h js k. one_bound a i j (bound_known i x a is h) (bound_known j y a js k));
        upper_once = λ a. count-once (link_of p) (is_upper_of a) pairs (λ i j x y is h js k. same_link a role.Upper i j (hit-known i x a role.Upper is h) (hit-known j y a role.Upper js k));
      }
