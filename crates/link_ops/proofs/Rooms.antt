-- Points stay as they are where memory is made.
use Rattle.std.proofs.Common.{◌≡◌, ℕ, ◌+◌, ◌<◌, ◌≤◌, List, length, Option, Some, None, sym, ap, ◌∙◌, subst, arith, nat_lt, cond, Bool, true, false, refl, get_or}
use Rattle.std.specs.Option.{option_map}
use Rattle.std.specs.declared.vec.Vec.{Vec}
use Rattle.std.proofs.lemmas.Bool.{ltb-false}
use Rattle.std.proofs.lemmas.List.{get_or_past}
use Rattle.std.proofs.lemmas.Bool.Decides.{nat_tests}
use Rattle.slab.specs.Slab.{Slab, get, slab_len}
use Rattle.estelle_tree.specs.declared.link.IpAddr.{IpAddr}
use Rattle.link_ops.specs.declared.points.Node.{Node}
use Rattle.link_ops.specs.declared.points.Points.{Points}
use Rattle.link_ops.specs.Points.{Sound, AreChained, AreApart, below, point, link_at}
use Rattle.link_ops.proofs.Chains.{chained-apart}

pub chained-same : (f g : ℕ → Option Node) (heads : List (Option ℕ)) (steps : ℕ) → ((k : ℕ) → f k ≡ g k) → AreChained f heads steps → AreChained g heads steps
chained-same f g heads steps same was =
    let P : (ℕ → Option Node) → Type 0 = λ x. AreChained x heads steps in
    let e : f ≡ g = λ i k. same k i in
    subst P e was

-- no number is beyond the slots
pub all_below : (p : Points) (n : ℕ) → length p.nodes.slots ≤ n → (k : ℕ) → below n p k ≡ get p.nodes k
all_below p n within k = by (nat_lt k n) refl
  where
    by : (b : Bool) → nat_lt k n ≡ b → cond b (get p.nodes k) None ≡ get p.nodes k
    by true less = refl
    by false not_less = sym (get_or_past p.nodes.slots k None (omega (arith, ltb-false k n not_less)))

point-some : (p : Points) (i : ℕ) (a : IpAddr) → point p i ≡ Some a → (n : Node) × (get p.nodes i ≡ Some n) × (n.ip ≡ a)
point-some p i a is = by (get p.nodes i) refl is
  where
    by : (x : Option Node) → get p.nodes i ≡ x → option_map (λ (n : Node). n.ip) x ≡ Some a → (n : Node) × (get p.nodes i ≡ Some n) × (n.ip ≡ a)
    by None e h = absurd (cc)
    by (Some n) e h = (n, e, cc)

pub sound-apart : (p : Points) → Sound p → AreApart p
sound-apart p sound i j a here there =
    let m = point-some p i a here in
    let n = point-some p j a there in
    chained-apart (get p.nodes) p.heads.items p.steps sound.chained i j m.0 n.0 m.1 n.1 (m.2 ∙ sym n.2)
