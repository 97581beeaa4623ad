-- What a search finds.
use Rattle.std.proofs.Common.{◌≡◌, ◌≢◌, ℕ, zero, suc, Bool, true, false, cond, List, Option, Some, None, refl, sym, ap, ◌∙◌}
use Rattle.std.specs.Option.{option_map}
use Rattle.slab.specs.Slab.{get}
use Rattle.estelle_tree.specs.declared.link.IpAddr.{IpAddr}
use Rattle.estelle_tree.specs.Links.{same_ip}
use Rattle.link_ops.specs.declared.points.Node.{Node}
use Rattle.link_ops.specs.declared.points.Points.{Points}
use Rattle.link_ops.specs.Points.{Sound, seek, seek_at, head, point, number_of}
use Rattle.link_ops.proofs.Same.{same-equal, same-self}
use Rattle.link_ops.proofs.Chains.{chained-absent}

found_at : (nodes : ℕ → Option Node) (m : ℕ) (a : IpAddr) (k : ℕ) (on : Option ℕ → Option ℕ) → ((o : Option ℕ) → on o ≡ Some k → (n : Node) × (nodes k ≡ Some n) × (same_ip a n.ip ≡ true)) → (x : Option Node) → nodes m ≡ x → seek_at x m a on ≡ Some k → (n : Node) × (nodes k ≡ Some n) × (same_ip a n.ip ≡ true)
found_at nodes m a k on rest None e h = absurd (cc)
found_at nodes m a k on rest (Some q) e h = by (same_ip a q.ip) refl h
  where
    by : (b : Bool) → same_ip a q.ip ≡ b → cond b (Some m) (on q.next) ≡ Some k → (n : Node) × (nodes k ≡ Some n) × (same_ip a n.ip ≡ true)
    by true same here = let number : m ≡ k = cc in (q, rw (← number) e, same)
    by false differs here = rest q.next here

seek-found : (nodes : ℕ → Option Node) (f : ℕ) (at : Option ℕ) (a : IpAddr) (k : ℕ) → seek nodes f at a ≡ Some k → (n : Node) × (nodes k ≡ Some n) × (same_ip a n.ip ≡ true)
seek-found nodes zero at a k h = absurd (cc)
seek-found nodes (suc f) None a k h = absurd (cc)
seek-found nodes (suc f) (Some m) a k h = found_at nodes m a k (λ o. seek nodes f o a) (λ o. seek-found nodes f o a k) (nodes m) refl h

pub number-point : (p : Points) (a : IpAddr) (k : ℕ) → number_of p a ≡ Some k → point p k ≡ Some a
number-point p a k h =
    let n = seek-found (get p.nodes) p.steps (head p.heads.items a) a k h in
    ap (option_map (λ (m : Node). m.ip)) n.1 ∙ ap Some (sym (same-equal a n.0.ip n.2))

pub nobody-point : (p : Points) → Sound p → (a : IpAddr) → number_of p a ≡ None → (k : ℕ) → point p k ≢ Some a
nobody-point p sound a none k here = by (get p.nodes k) refl here
  where
    by : (x : Option Node) → get p.nodes k ≡ x → option_map (λ (m : Node). m.ip) x ≡ Some a → ⊥
    by None e h = absurd (cc)
    by (Some n) e h =
        let differs : same_ip n.ip a ≡ false = chained-absent (get p.nodes) p.heads.items p.steps a sound.chained none k n e in
        let same : n.ip ≡ a = cc in
        let t : same_ip n.ip a ≡ true = rw same (same-self a) in
        absurd (cc)
