-- The test of interaction points decides equality.
use Rattle.std.proofs.Common.{◌≡◌, ◌≢◌, Bool, true, false, List, ℕ, refl, ap, ◌∙◌, nat_eq}
use Rattle.std.specs.Prelude.{◌&&◌}
use Rattle.std.specs.Bool.{Decides}
use Rattle.std.specs.Str.{bytes_eq}
use Rattle.std.proofs.lemmas.Bool.{false≢true}
use Rattle.std.proofs.lemmas.Bool.Decides.{Decides-and, Decides-eqb, Decides-like}
use Rattle.std.proofs.lemmas.Slice.Eq.{bytes_eq-Decides}
use Rattle.estelle_tree.specs.declared.link.IpAddr.{IpAddr}
use Rattle.estelle_tree.specs.Links.{same_ip}

by_parts : (a b : IpAddr) → a.path ≡ b.path → a.ip ≡ b.ip → a ≡ b
by_parts a b p q =
    let first : a ≡ record a { path = b.path } = ap (λ (x : List ℕ). let y : IpAddr = record { path = x; ip = a.ip } in y) p in
    first ∙ ap (λ (n : ℕ). let y : IpAddr = record { path = b.path; ip = n } in y) q

pub same_ip-Decides : (a b : IpAddr) → Decides (same_ip a b) (a ≡ b)
same_ip-Decides a b =
    Decides-like
    (same_ip a b)
    (λ (e : (a.path ≡ b.path) × (a.ip ≡ b.ip)). by_parts a b e.0 e.1)
    (λ (e : a ≡ b). (ap (λ x. x.path) e, ap (λ x. x.ip) e))
    (Decides-and (bytes_eq a.path b.path) (nat_eq a.ip b.ip) (bytes_eq-Decides a.path b.path) (Decides-eqb a.ip b.ip))

pub same-self : (a : IpAddr) → same_ip a a ≡ true
same-self a = (same_ip-Decides a a).1 refl

pub same-equal : (a b : IpAddr) → same_ip a b ≡ true → a ≡ b
same-equal a b = (same_ip-Decides a b).0

pub same-apart : (a b : IpAddr) → a ≢ b → same_ip a b ≡ false
same-apart a b differs = by (same_ip a b) refl
  where
    by : (t : Bool) → same_ip a b ≡ t → t ≡ false
    by false e = refl
    by true e = absurd (differs (same-equal a b e))

pub apart-differ : (a b : IpAddr) → same_ip a b ≡ false → a ≢ b
apart-differ a b e same = let t : same_ip a b ≡ true = (same_ip-Decides a b).1 same in absurd (cc)
