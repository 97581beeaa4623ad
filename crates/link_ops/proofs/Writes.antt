-- The number of a link is written at a point.
use Rattle.std.proofs.Common.{◌≡◌, ◌≢◌, ◌+◌, ◌≤◌, ℕ, zero, suc, Bool, true, false, cond, List, Option, Some, None, refl, sym, ap, ◌∙◌, nat_eq, inl, inr, arith}
use Rattle.std.specs.Option.{option_map}
use Rattle.std.proofs.lemmas.Bool.{eq-eqb}
use Rattle.std.proofs.lemmas.Bool.Decides.{eqb_tells}
use Rattle.slab.specs.Slab.{get, slab_len}
use Rattle.estelle_tree.specs.declared.link.IpAddr.{IpAddr}
use Rattle.estelle_tree.specs.Links.{same_ip}
use Rattle.link_ops.specs.declared.points.Role.{Role}
use Rattle.link_ops.specs.declared.points.Role.TheVariants as role
use Rattle.link_ops.specs.declared.points.Ends.{Ends}
use Rattle.link_ops.specs.declared.points.Node.{Node}
use Rattle.link_ops.specs.declared.points.Points.{Points}
use Rattle.link_ops.specs.Points.{Sound, seek, seek_at, head, point, link_of, link_at, in_role, with_role, with_link}

role-written : (r : Role) (l : Option ℕ) (e : Ends) → in_role r (with_role r l e) ≡ l
role-written role.Joined l e = refl
role-written role.Upper l e = refl
role-written role.Lower l e = refl

role-kept : (r s : Role) (l : Option ℕ) (e : Ends) → s ≢ r → in_role s (with_role r l e) ≡ in_role s e
role-kept role.Joined role.Joined l e differs = absurd (differs refl)
role-kept role.Joined role.Upper l e differs = refl
role-kept role.Joined role.Lower l e differs = refl
role-kept role.Upper role.Joined l e differs = refl
role-kept role.Upper role.Upper l e differs = absurd (differs refl)
role-kept role.Upper role.Lower l e differs = refl
role-kept role.Lower role.Joined l e differs = refl
role-kept role.Lower role.Upper l e differs = refl
role-kept role.Lower role.Lower l e differs = absurd (differs refl)

module _ (p q : Points) (number : ℕ) (r : Role) (l : Option ℕ) (nodes : (k : ℕ) → get q.nodes k ≡ with_link number r l k (get p.nodes k)) where
  pub point-kept : (k : ℕ) → point q k ≡ point p k
  point-kept k = rw (nodes k) (by (nat_eq k number) (get p.nodes k))
    where
      by : (b : Bool) (x : Option Node) → option_map (λ (n : Node). n.ip) (cond b (option_map (λ (n : Node). record n { ends = with_role r l n.ends }) x) x) ≡ option_map (λ (n : Node). n.ip) x
      by true None = refl
      by true (Some n) = refl
      by false x = refl

  same_nat : (k m : ℕ) → k ≡ m → nat_eq k m ≡ true
  same_nat k m same = eq-eqb k m same

  pub link-written : (a : IpAddr) → point p number ≡ Some a → link_at q number r ≡ l
  link-written a here = rw (nodes number, same_nat number number refl) (by (get p.nodes number) here)
    where
      by : (x : Option Node) → option_map (λ (n : Node). n.ip) x ≡ Some a → link_of r (option_map (λ (n : Node). record n { ends = with_role r l n.ends }) x) ≡ l
      by None h = absurd (cc)
      by (Some n) h = role-written r l n.ends

  pub link-kept : (k : ℕ) (s : Role) → ((k ≡ number) × (s ≡ r) → ⊥) → link_at q k s ≡ link_at p k s
  link-kept k s other = rw (nodes k) (elim (eqb_tells k number) [
    | inl y ↦ rw y.0 (by (λ same. other (y.1, same)) (get p.nodes k))
    | inr n ↦ rw n.0 refl
  ])
    where
      by : s ≢ r → (x : Option Node) → link_of s (option_map (λ (n : Node). record n { ends = with_role r l n.ends }) x) ≡ link_of s x
      by differs None = refl
      by differs (Some n) = role-kept r s l n.ends differs

  -- chains do not read the ends
  node-kept : (k : ℕ) (n : Node) → get q.nodes k ≡ Some n → (m : Node) × (get p.nodes k ≡ Some m) × (m.ip ≡ n.ip)
  node-kept k n is = by (nat_eq k number) (get p.nodes k) refl (sym (nodes k) ∙ is)
    where
      by : (b : Bool) (x : Option Node) → get p.nodes k ≡ x → cond b (option_map (λ (m : Node). record m { ends = with_role r l m.ends }) x) x ≡ Some n → (m : Node) × (get p.nodes k ≡ Some m) × (m.ip ≡ n.ip)
      by true None e h = absurd (cc)
      by true (Some m) e h = (m, e, ap (λ o. ip_of o) h)
        where
          ip_of : Option Node → IpAddr
          ip_of None = n.ip
          ip_of (Some x) = x.ip
      by false x e h = (n, e ∙ h, refl)

  seek_kept_at : (k : ℕ) (a : IpAddr) (f g : Option ℕ → Option ℕ) → ((o : Option ℕ) → f o ≡ g o) → seek_at (get q.nodes k) k a f ≡ seek_at (get p.nodes k) k a g
  seek_kept_at k a f g same = rw (nodes k) (by (nat_eq k number) (get p.nodes k))
    where
      by : (b : Bool) (x : Option Node) → seek_at (cond b (option_map (λ (m : Node). record m { ends = with_role r l m.ends }) x) x) k a f ≡ seek_at x k a g
      by true None = refl
      by true (Some m) = ap (λ o. cond (same_ip a m.ip) (Some k) o) (same m.next)
      by false None = refl
      by false (Some m) = ap (λ o. cond (same_ip a m.ip) (Some k) o) (same m.next)

  seek-kept : (f : ℕ) (at : Option ℕ) (a : IpAddr) → seek (get q.nodes) f at a ≡ seek (get p.nodes) f at a
  seek-kept zero at a = refl
  seek-kept (suc f) None a = refl
  seek-kept (suc f) (Some k) a = seek_kept_at k a (λ o. seek (get q.nodes) f o a) (λ o. seek (get p.nodes) f o a) (λ o. seek-kept f o a)

  pub sound-kept : q ≡ record p { nodes = q.nodes } → slab_len q.nodes ≡ slab_len p.nodes → q.nodes.capacity ≡ p.nodes.capacity → Sound p → Sound q
  sound-kept rest len capacity sound =
      let heads : q.heads ≡ p.heads = ap (λ x. x.heads) rest in
      let steps : q.steps ≡ p.steps = ap (λ x. x.steps) rest in
      let room : q.room ≡ p.room = ap (λ x. x.room) rest in
      record {
        chained = λ k n is. let m = node-kept k n is in rw (heads, steps, seek-kept p.steps (head p.heads.items n.ip) n.ip, ← m.2) (sound.chained k m.0 m.1);
        memory = omega (arith, sound.memory);
        steps = omega (arith, sound.steps);
        heads = λ some. rw heads (sound.heads (omega (arith, some)));
      }
