-- The link in which a point has a role.
use Rattle.std.proofs.Common.{◌≡◌, ◌≢◌, ℕ, Bool, true, false, not, List, length, get_or, set, Option, Some, None, is_some, refl, sym, ap, ◌∙◌}
use Rattle.std.specs.Option.{option_map, option_and_then}
use Rattle.std.specs.List.{find, filter}
use Rattle.std.proofs.lemmas.Bool.{cases_eq}
use Rattle.std.proofs.lemmas.List.{get_or-set_other}
use Rattle.estelle_tree.specs.declared.link.IpAddr.{IpAddr}
use Rattle.estelle_tree.specs.declared.link.Link.{Link}
use Rattle.link_ops.specs.declared.points.Role.{Role}
use Rattle.link_ops.specs.declared.points.Points.{Points}
use Rattle.link_ops.specs.declared.pairs.Pairing.{Pairing}
use Rattle.link_ops.specs.Points.{point, link_at, number_of}
use Rattle.link_ops.specs.Pairs.{Tied, IsEnd, seen, slot, entry, way, has_role, next_of, ip_at, link_of, far_end}
use Rattle.link_ops.proofs.Lists.{filter-gap, filter-full, all_fail}
use Rattle.link_ops.proofs.Roles.{way-find, far_of}
use Rattle.link_ops.proofs.Found.{number-point, nobody-point}
use Rattle.link_ops.proofs.Ties.{way-next, way-nobody, only-hit, end-hit}
use Rattle.link_ops.proofs.Changes.{slot-cleared}

module _ (p : Points) (pairs : List (Option Pairing)) (t : Tied p pairs) (r : Role) (a : IpAddr) where
  pub record Has (i : ℕ) (x : Pairing) : Type 0 where
    pub number : ℕ
    pub here : point p number ≡ Some a
    pub known : link_at p number r ≡ Some i
    pub there : slot pairs i ≡ Some x

  pub entry-has : (i : ℕ) (x : Pairing) → entry p pairs r a ≡ Some (i, x) → Has i x
  entry-has i x is = by (number_of p a) refl is
    where
      at : (k j : ℕ) (o : Option Pairing) → number_of p a ≡ Some k → link_at p k r ≡ Some j → slot pairs j ≡ o → option_map (λ (y : Pairing). let z : ℕ × Pairing = (j, y) in z) o ≡ Some (i, x) → Has i x
      at k j None n l e h = absurd (cc)
      at k j (Some y) n l e h =
          let both : (let z : ℕ × Pairing = (j, y) in z) ≡ (i, x) = cc in
          record { number = k; here = number-point p a k n; known = l ∙ ap (λ z. Some z.0) both; there = ap (slot pairs) (sym (ap (λ z. z.0) both)) ∙ e ∙ ap (λ z. Some z.1) both }

      then : (k : ℕ) (o : Option ℕ) → number_of p a ≡ Some k → link_at p k r ≡ o → option_and_then (λ j. option_map (λ (y : Pairing). let z : ℕ × Pairing = (j, y) in z) (slot pairs j)) o ≡ Some (i, x) → Has i x
      then k None n l h = absurd (cc)
      then k (Some j) n l h = at k j (slot pairs j) n l refl h

      by : (o : Option ℕ) → number_of p a ≡ o → option_and_then (λ j. option_map (λ (y : Pairing). let z : ℕ × Pairing = (j, y) in z) (slot pairs j)) (option_and_then (λ k. link_at p k r) o) ≡ Some (i, x) → Has i x
      by None n h = absurd (cc)
      by (Some k) n h = then k (link_at p k r) n refl h

  pub entry-none : entry p pairs r a ≡ None → way r (seen p pairs) a ≡ None
  entry-none is = by (number_of p a) refl is
    where
      then : (k : ℕ) (o : Option ℕ) → number_of p a ≡ Some k → link_at p k r ≡ o → option_and_then (λ j. option_map (λ (y : Pairing). let z : ℕ × Pairing = (j, y) in z) (slot pairs j)) o ≡ None → way r (seen p pairs) a ≡ None
      then k None n l h = rw (way-next p pairs t k r a (number-point p a k n), l) refl
      then k (Some j) n l h = let x = t.known k r j l in let f = rw x.1 at h in absurd (cc)

      by : (o : Option ℕ) → number_of p a ≡ o → option_and_then (λ j. option_map (λ (y : Pairing). let z : ℕ × Pairing = (j, y) in z) (slot pairs j)) (option_and_then (λ k. link_at p k r) o) ≡ None → way r (seen p pairs) a ≡ None
      by None n h = way-nobody p pairs t r a (nobody-point p t.sound a n)
      by (Some k) n h = then k (link_at p k r) n refl h

  pub way-some : (i : ℕ) (x : Pairing) → Has i x → is_some (way r (seen p pairs) a) ≡ true
  way-some i x has = rw (way-next p pairs t has.number r a has.here, has.known, has.there) refl

  find_none : way r (seen p pairs) a ≡ None → find (has_role r a) (seen p pairs) ≡ None
  find_none none = by (find (has_role r a) (seen p pairs)) refl (sym (way-find r (seen p pairs) a) ∙ none)
    where
      by : (o : Option Link) → find (has_role r a) (seen p pairs) ≡ o → option_map (far_of r a) o ≡ None → find (has_role r a) (seen p pairs) ≡ None
      by None e h = e
      by (Some l) e h = absurd (cc)

  -- without a link in that role nothing goes
  pub filter-none : way r (seen p pairs) a ≡ None → filter (λ l. not (has_role r a l)) (seen p pairs) ≡ seen p pairs
  filter-none none = filter-full (link_of p) (λ l. not (has_role r a l)) pairs (λ j y is. ap not (all_fail (link_of p) (has_role r a) pairs (find_none none) j y is))

  false_where : (b : Bool) → (b ≡ true → ⊥) → b ≡ false
  false_where true no_hit = absurd (no_hit refl)
  false_where false no_hit = refl

  -- with one, that goes and no other
  pub filter-one : (i : ℕ) (x : Pairing) → Has i x → seen p (set pairs i None) ≡ filter (λ l. not (has_role r a l)) (seen p pairs)
  filter-one i x has =
      let known = t.known has.number r i has.known in
      let same : known.0 ≡ x = (let k = known.1 in let h = has.there in cc) in
      let hit : has_role r a (link_of p x) ≡ true = rw (← same) (end-hit p pairs t i known.0 has.number r a known.1 has.here known.2) in
      let others : (j : ℕ) (y : Pairing) → slot (set pairs i None) j ≡ Some y → not (has_role r a (link_of p y)) ≡ true =
      λ j y is.
      let s = slot-cleared pairs i j y is in
      ap not (false_where (has_role r a (link_of p y)) (λ also. s.0 (only-hit p pairs t has.number r a i has.here has.known j y s.1 also))) in
      sym (filter-full (link_of p) (λ l. not (has_role r a l)) (set pairs i None) others)
      ∙ filter-gap (link_of p) (λ l. not (has_role r a l)) pairs i x has.there (ap not hit)
