-- The ways over numbers are those over the links.
use Rattle.std.proofs.Common.{◌≡◌, ◌≢◌, ℕ, zero, suc, List, length, Option, Some, None, refl, sym, ap, ◌∙◌, subst}
use Rattle.std.specs.Option.{option_map, option_and_then, unwrap_or}
use Rattle.estelle_tree.specs.declared.link.IpAddr.{IpAddr}
use Rattle.estelle_tree.specs.Links.{steps_from, route, peer, above, below, top, bottom}
use Rattle.link_ops.specs.declared.points.Role.{Role}
use Rattle.link_ops.specs.declared.points.Role.TheVariants as role
use Rattle.link_ops.specs.declared.points.Points.{Points}
use Rattle.link_ops.specs.declared.pairs.Pairing.{Pairing}
use Rattle.link_ops.specs.Points.{point, number_of}
use Rattle.link_ops.specs.Pairs.{Tied, seen, way, next_of, walked, ip_at, far_point, last_point, down_from, route_point}
use Rattle.link_ops.proofs.Found.{number-point, nobody-point}
use Rattle.link_ops.proofs.Ties.{way-next, way-nobody, next-point, walk-way, ip-point}

pub steps-done : (step : IpAddr → Option IpAddr) (n : ℕ) (a : IpAddr) → step a ≡ None → steps_from step n a ≡ a
steps-done step zero a none = refl
steps-done step (suc n) a none = rw none (steps-done step n a none)

module _ (p : Points) (pairs : List (Option Pairing)) (t : Tied p pairs) where
  nobody : (r : Role) (a : IpAddr) → number_of p a ≡ None → way r (seen p pairs) a ≡ None
  nobody r a none = way-nobody p pairs t r a (nobody-point p t.sound a none)

  far-known : (r : Role) (k : ℕ) (a : IpAddr) → point p k ≡ Some a → option_and_then (point p) (next_of p pairs r k) ≡ way r (seen p pairs) a
  far-known r k a here = rw (way-next p pairs t k r a here) (by (next_of p pairs r k) refl)
    where
      by : (o : Option ℕ) → next_of p pairs r k ≡ o → option_and_then (point p) o ≡ option_map (ip_at p) o
      by None e = refl
      by (Some m) e = let b = next-point p pairs t k r m e in b.1 ∙ ap Some (sym (ip-point p m b.0 b.1))

  pub far-way : (r : Role) (a : IpAddr) → far_point p pairs r a ≡ way r (seen p pairs) a
  far-way r a = by (number_of p a) refl
    where
      by : (o : Option ℕ) → number_of p a ≡ o → option_and_then (point p) (option_and_then (next_of p pairs r) o) ≡ way r (seen p pairs) a
      by None e = sym (nobody r a e)
      by (Some k) e = far-known r k a (number-point p a k e)

  pub last-way : (r : Role) (n : ℕ) (a : IpAddr) → last_point p pairs r n a ≡ steps_from (way r (seen p pairs)) n a
  last-way r n a = by (number_of p a) refl
    where
      by : (o : Option ℕ) → number_of p a ≡ o → unwrap_or (option_and_then (λ k. point p (walked (next_of p pairs r) n k)) o) a ≡ steps_from (way r (seen p pairs)) n a
      by None e = sym (steps-done (way r (seen p pairs)) n a (nobody r a e))
      by (Some k) e = ap (λ o. unwrap_or o a) (walk-way p pairs t r n k a (number-point p a k e))

  down-way : (n k : ℕ) (a : IpAddr) → point p k ≡ Some a → down_from p pairs n k ≡ option_map (steps_from (below (seen p pairs)) n) (peer (seen p pairs) a)
  down-way n k a here = rw (way-next p pairs t k role.Joined a here) (by (next_of p pairs role.Joined k) refl)
    where
      by : (o : Option ℕ) → next_of p pairs role.Joined k ≡ o → option_and_then (λ m. point p (walked (next_of p pairs role.Upper) n m)) o ≡ option_map (steps_from (below (seen p pairs)) n) (option_map (ip_at p) o)
      by None e = refl
      by (Some m) e =
          let b = next-point p pairs t k role.Joined m e in
          rw (ip-point p m b.0 b.1) (walk-way p pairs t role.Upper n m b.0 b.1)

  pub route-way : (n : ℕ) (a : IpAddr) → n ≡ length (seen p pairs) → route_point p pairs n a ≡ route (seen p pairs) a
  route-way n a size =
      let P : ℕ → Type 0 = λ m. route_point p pairs n a ≡ option_map (steps_from (below (seen p pairs)) m) (peer (seen p pairs) (steps_from (above (seen p pairs)) m a)) in
      subst P size (by (number_of p a) refl)
    where
      by : (o : Option ℕ) → number_of p a ≡ o → option_and_then (λ k. down_from p pairs n (walked (next_of p pairs role.Lower) n k)) o ≡ option_map (steps_from (below (seen p pairs)) n) (peer (seen p pairs) (steps_from (above (seen p pairs)) n a))
      by None e = rw (steps-done (above (seen p pairs)) n a (nobody role.Lower a e), nobody role.Joined a e) refl
      by (Some k) e = down-way n (walked (next_of p pairs role.Lower) n k) (steps_from (above (seen p pairs)) n a) (walk-way p pairs t role.Lower n k a (number-point p a k e))
