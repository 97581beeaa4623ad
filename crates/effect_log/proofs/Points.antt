-- Which interaction points are there, after an instance was made or removed.
use Rattle.std.proofs.Common.{◌≡◌, ◌≢◌, ℕ, ◌≤◌, Bool, true, false, cond, Option, Some, None, refl, sym, ap, ◌∙◌, arith}
use Rattle.std.specs.Prelude.{◌&&◌, ◌||◌, not, option_map}
use Rattle.std.specs.FinMap as map
use Rattle.std.specs.Ordering.{eq_by_cmp}
use Rattle.std.specs.Str.{bytes_eq}
use Rattle.std.specs.Cmp.Lexicographic.{bytes_decides}
use Rattle.std.proofs.lemmas.Map.Text.{is_eq-slice_cmp}
use Rattle.estelle_tree.specs.declared.link.IpAddr.{IpAddr}
use Rattle.estelle_tree.specs.Links.{same_ip}
use Rattle.estelle_tree.specs.Paths.{Path, path_cmp, child, is_inside}
use Rattle.module_tree.proofs.Paths.{not_own_child}
use Rattle.queue_store.proofs.HomeLaws.{false-unless, part-true}
use Rattle.estelle_model.specs.declared.meaning.InteractionPoint.{InteractionPoint}
use Rattle.estelle_model.specs.Core.{Instance, Instances}
use Rattle.estelle_model.specs.Effects.{changed_in, born}
use Rattle.estelle_model.specs.Subject.{Subject}
use Rattle.estelle_model.specs.InteractionPoints.{point, point_of, may_join, may_connect, may_attach_points, may_attach, connectable_at}
use Rattle.estelle_model.specs.Queues.{common_at, one_queue}
use Rattle.estelle_model.specs.Jobs.{IsIp}
use Rattle.estelle_model.proofs.Maps.{total, apart}
use Rattle.estelle_model.proofs.PrivateParts.{same_path, get_changed, body_of, point_same}
use Rattle.effect_log.proofs.Filing.{shares, one_of}

-- ---- disciplines

abbrev pub discipline : Subject → Instances → IpAddr → Option Bool
discipline s x a = option_map (λ p. p.common) (point s x a)

shares-point : (o : Option InteractionPoint) → shares (option_map (λ p. p.common) o) ≡ common_at o
shares-point None = refl
shares-point (Some p) = refl

-- two points have one queue where their disciplines say so
pub one-queue : (s : Subject) (x : Instances) (a b : IpAddr) → one_queue s x a b ≡ one_of (discipline s x) a b
one-queue s x a b =
    sym (λ i. same_ip a b || (bytes_eq a.path b.path && (shares-point (point s x a) i && shares-point (point s x b) i)))

-- ---- points that may be linked

pub there-joined : (p q : Option InteractionPoint) → may_join p q ≡ true → ((x : InteractionPoint) × (p ≡ Some x)) × ((y : InteractionPoint) × (q ≡ Some y))
there-joined None None h = absurd (cc)
there-joined None (Some y) h = absurd (cc)
there-joined (Some x) None h = absurd (cc)
there-joined (Some x) (Some y) h = ((x, refl), (y, refl))

pub there-connected : (s : Subject) (x : Instances) (m : Path) (a b : IpAddr) → may_connect s x m a b ≡ true → IsIp s x a × IsIp s x b
there-connected s x m a b h = there-joined (point s x a) (point s x b) ((part-true (may_join (point s x a) (point s x b)) (connectable_at m a (point s x a) && connectable_at m b (point s x b)) h).0)

there-attachable : (p q : Option InteractionPoint) → may_attach_points p q ≡ true → ((x : InteractionPoint) × (p ≡ Some x)) × ((y : InteractionPoint) × (q ≡ Some y))
there-attachable None None h = absurd (cc)
there-attachable None (Some y) h = absurd (cc)
there-attachable (Some x) None h = absurd (cc)
there-attachable (Some x) (Some y) h = ((x, refl), (y, refl))

pub there-attached : (s : Subject) (x : Instances) (a b : IpAddr) → may_attach s x a b ≡ true → IsIp s x a × IsIp s x b
there-attached s x a b h = there-attachable (point s x a) (point s x b) h

-- a point that is there is one of an instance that is there
pub instance-there : (s : Subject) (x : Instances) (a : IpAddr) → IsIp s x a → (i : Instance) × (map.get x a.path ≡ Some i)
instance-there s x a h = by (map.get x a.path) refl h.1
  where
    by : (o : Option Instance) → map.get x a.path ≡ o → point_of s o a.ip ≡ Some h.0 → (i : Instance) × (map.get x a.path ≡ Some i)
    by None e k = absurd (cc)
    by (Some i) e k = (i, e)

-- where an instance has the same body its points are the same
pub ip-same : (s : Subject) (x y : Instances) (a : IpAddr) → body_of (map.get x a.path) ≡ body_of (map.get y a.path) → IsIp s x a → IsIp s y a
ip-same s x y a same h = (h.0, point_same s (map.get y a.path) (map.get x a.path) (sym same) a.ip ∙ h.1)

pub key-same : (p q : Path) → eq_by_cmp path_cmp p q ≡ bytes_eq p q
key-same p q = is_eq-slice_cmp p q

pub key-itself : (p : Path) → eq_by_cmp path_cmp p p ≡ true
key-itself p = key-same p p ∙ (bytes_decides p p).1 refl

pub key-apart : (p q : Path) → p ≢ q → eq_by_cmp path_cmp p q ≡ false
key-apart p q h = false-unless (eq_by_cmp path_cmp p q) (λ e. h (same_path p q e))

-- ---- one more instance

module _ (x : Instances) (p : Path) (k : ℕ) (i : Instance) where
  -- the instances with one more
  abbrev pub created : Instances
  created = map.insert (changed_in p born x) (child p k) i

  pub get-created : (q : Path) → map.get created q ≡ cond (eq_by_cmp path_cmp q (child p k)) (Some i) (cond (eq_by_cmp path_cmp q p) (option_map born (map.get x p)) (map.get x q))
  get-created q = map.get-insert total (changed_in p born x) (child p k) i q ∙ ap (λ o. cond (eq_by_cmp path_cmp q (child p k)) (Some i) o) (get_changed p born x q)

  pub get-new : map.get created (child p k) ≡ Some i
  get-new = get-created (child p k) ∙ ap (λ b. cond b (Some i) (cond (eq_by_cmp path_cmp (child p k) p) (option_map born (map.get x p)) (map.get x (child p k)))) (key-itself (child p k))

  pub get-parent : map.get created p ≡ option_map born (map.get x p)
  get-parent =
      get-created p ∙ ap (λ b. cond b (Some i) (cond (eq_by_cmp path_cmp p p) (option_map born (map.get x p)) (map.get x p))) (key-apart p (child p k) (λ e. not_own_child p k (sym e)))
      ∙ ap (λ b. cond b (option_map born (map.get x p)) (map.get x p)) (key-itself p)

  pub get-other : (q : Path) → q ≢ child p k → q ≢ p → map.get created q ≡ map.get x q
  get-other q h j =
      get-created q ∙ ap (λ b. cond b (Some i) (cond (eq_by_cmp path_cmp q p) (option_map born (map.get x p)) (map.get x q))) (key-apart q (child p k) h)
      ∙ ap (λ b. cond b (option_map born (map.get x p)) (map.get x q)) (key-apart q p j)

  born-body : (o : Option Instance) → body_of (option_map born o) ≡ body_of o
  born-body None = refl
  born-body (Some j) = refl

  -- the others have their bodies
  pub body-created : (q : Path) → q ≢ child p k → body_of (map.get created q) ≡ body_of (map.get x q)
  body-created q h = by (eq_by_cmp path_cmp q p) refl
    where
      by : (b : Bool) → eq_by_cmp path_cmp q p ≡ b → body_of (map.get created q) ≡ body_of (map.get x q)
      by true e = let is = same_path q p e in ap (λ r. body_of (map.get created r)) is ∙ ap body_of get-parent ∙ born-body (map.get x p) ∙ ap (λ r. body_of (map.get x r)) (sym is)
      by false e = ap body_of (get-other q h (λ is. let wrong : true ≡ false = sym (key-itself p) ∙ ap (λ r. eq_by_cmp path_cmp r p) (sym is) ∙ e in cc))

  -- an instance that is there stays, with no fewer births
  pub grown : (q : Path) (j : Instance) → map.get x (child p k) ≡ None → map.get x q ≡ Some j → (n : Instance) × (map.get created q ≡ Some n) × (j.births ≤ n.births)
  grown q j fresh there = by (eq_by_cmp path_cmp q p) refl
    where
      other : q ≢ child p k
      other e = let wrong : Some j ≡ None = sym there ∙ ap (map.get x) e ∙ fresh in cc

      by : (b : Bool) → eq_by_cmp path_cmp q p ≡ b → (n : Instance) × (map.get created q ≡ Some n) × (j.births ≤ n.births)
      by true e = let is = same_path q p e in (born j, ap (map.get created) is ∙ get-parent ∙ ap (option_map born) (ap (map.get x) (sym is) ∙ there), omega arith)
      by false e = (j, get-other q other (λ is. let wrong : true ≡ false = sym (key-itself p) ∙ ap (λ r. eq_by_cmp path_cmp r p) (sym is) ∙ e in cc) ∙ there, omega arith)

-- ---- instances less

pub get-outside : {X : Type 0} (x : map.FinMap path_cmp X) (p q : Path) → map.get (map.retain_keys x (λ q. not (is_inside p q))) q ≡ cond (is_inside p q) None (map.get x q)
get-outside x p q = map.get-retain_keys x (λ q. not (is_inside p q)) q (λ r e. ap (λ y. not (is_inside p y)) (sym (apart q r e))) ∙ by (is_inside p q)
  where
    by : (b : Bool) → cond (not b) (map.get x q) None ≡ cond b None (map.get x q)
    by true = refl
    by false = refl

pub ip-outside : (s : Subject) (x : Instances) (p : Path) (a : IpAddr) → is_inside p a.path ≡ false → IsIp s x a → IsIp s (map.retain_keys x (λ q. not (is_inside p q))) a
ip-outside s x p a out h = ip-same s x (map.retain_keys x (λ q. not (is_inside p q))) a (sym (ap body_of (get-outside x p a.path ∙ ap (λ b. cond b None (map.get x a.path)) out))) h
