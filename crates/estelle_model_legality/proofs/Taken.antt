-- The job of a pending firing is one in its situation.
use Rattle.std.proofs.Common.{◌≡◌, ◌∙◌, ℕ, Bool, true, false, [], ◌∷◌, Option, Some, None, refl, ap, sym, subst, eq-eqb, eqb-true}
use Rattle.std.specs.Prelude.{◌≢◌, ◌&&◌, ◌||◌, not, nat_eq}
use Rattle.std.specs.FinMap as map
use Rattle.std.proofs.lemmas.List.Sorted.{IsPermutation-refl}
use Rattle.estelle_tree.specs.declared.link.IpAddr.{IpAddr}
use Rattle.estelle_tree.specs.declared.link.Link.{Link}
use Rattle.estelle_tree.specs.declared.link.LinkKind.{LinkKind}
use Rattle.estelle_tree.specs.declared.link.LinkKind.TheVariants.{Connection, Attachment}
use Rattle.estelle_tree.specs.Paths.{Path, child, is_inside}
use Rattle.estelle_tree.specs.Links.{is_connection, joins, is_lower_of}
use Rattle.estelle_model.specs.declared.meaning.InteractionPoint.{InteractionPoint}
use Rattle.estelle_model.specs.Core.{Instances, Core}
use Rattle.estelle_model.specs.Transitions.{Transition}
use Rattle.estelle_model.specs.Subject.{Subject, types_of_variables}
use Rattle.estelle_model.specs.InteractionPoints.{point, same_role, may_attach_points, internal_at}
use Rattle.estelle_model.specs.Queues.{Found, NotNeeded, Head, Absent}
use Rattle.estelle_model.specs.Firing.{transition_at}
use Rattle.estelle_model.specs.Jobs.{is_internal, is_below_or_own, MayActAlone, private, received_by, IsHead}
use Rattle.estelle_model.proofs.AlikeFirings.{inside_root}
use Rattle.estelle_model.proofs.Members.{among, only_one}
use Rattle.estelle_model.proofs.PrivateParts.{inside_self, left_true, right_true}
use Rattle.estelle_model_legality.specs.Instances.{MayStand}
use Rattle.estelle_model_legality.specs.Linked.{MayLinkAs, MayBeLinked}
use Rattle.estelle_model_legality.specs.Jobs.{item_of, PendingHaveJobs}
use Rattle.estelle_model_legality.proofs.Lists.{or_right}

-- what is attached to is external
external_below : (p q : Option InteractionPoint) → may_attach_points p q ≡ true → internal_at q ≡ false
external_below None None h = absurd (cc)
external_below None (Some q) h = absurd (cc)
external_below (Some p) None h = absurd (cc)
external_below (Some p) (Some q) h = ap not (right_true p.external q.external (right_true (same_role p.role q.role) (p.external && q.external) (right_true (nat_eq p.channel q.channel) (same_role p.role q.role && (p.external && q.external)) h)))

nothing_below : (x : ℕ) (m : Path) → is_inside m [] ≡ true → m ≡ []
nothing_below x [] h = refl
nothing_below x (y ∷ m) h = absurd (cc)

-- the parent of an instance below m is at or below m
pub parent_inside : (m p : Path) (k : ℕ) → is_inside m (child p k) ≡ true → is_inside (child p k) m ≡ false → is_inside m p ≡ true
parent_inside [] p k h n = inside_root p
parent_inside (x ∷ m) [] k h n =
    let first : x ≡ k = eqb-true x k (left_true (nat_eq x k) (is_inside m []) h) in
    let rest : m ≡ [] = nothing_below x m (right_true (nat_eq x k) (is_inside m []) h) in
    let wrong : true ≡ false = sym (inside_self (k ∷ [])) ∙ (λ i. is_inside (k ∷ []) (sym first i ∷ sym rest i)) ∙ n in
    absurd (cc)
parent_inside (x ∷ m) (y ∷ p) k h n =
    let first : x ≡ y = eqb-true x y (left_true (nat_eq x y) (is_inside m (child p k)) h) in
    let rest : is_inside m (child p k) ≡ true = right_true (nat_eq x y) (is_inside m (child p k)) h in
    let below : is_inside (child p k) m ≡ false = sym (ap (λ b. b && is_inside (child p k) m) (eq-eqb y x (sym first))) ∙ n in
    ap (λ b. b && is_inside m p) (eq-eqb x y first) ∙ parent_inside m p k rest below

no_longer : (a b c : Bool) → (a && (not b || c)) ≡ true → c ≡ false → (a ≡ true) × (b ≡ false)
no_longer true false c h e = (refl, refl)
no_longer true true c h e = let wrong : true ≡ false = sym h ∙ e in absurd (cc)
no_longer false b c h e = absurd (cc)

module _ (s : Subject) (x : Instances) (m : Path) where
  attached_by : (kind : LinkKind) (a b : IpAddr) → MayLinkAs s x kind a b → is_connection kind ≡ false → is_below_or_own s x m b ≡ true → is_inside m a.path ≡ true
  attached_by Connection a b h e k = absurd (cc)
  attached_by Attachment a b h e k =
      let at = no_longer (is_inside m b.path) (is_inside b.path m) (is_internal s x b) k (external_below (point s x a) (point s x b) h.2) in
      parent_inside m a.path h.0 (sym (ap (is_inside m) h.1) ∙ at.0) (sym (ap (λ p. is_inside p m) h.1) ∙ at.1)

-- what a job asks of the instances and links
pub may_act : (s : Subject) (c : Core) (m : Path) → c.types ≡ types_of_variables s → MayStand s c.instances → MayBeLinked s c.instances c.links → MayActAlone s c m
may_act s c m types stand linked = record {
  types = types;
  children = λ p i v held inside there is. let h = stand.holds p i v (Some held) there is in (h.0, h.2);
  attached = λ l there. attached_by s c.instances m l.kind l.first l.second (linked.each l there);
  once = λ a l n first second is also. ap (λ (k : Link). k.first) (only_one (λ k. joins a k || is_lower_of a k) c.links l n (linked.bound_once a) (among c.links l first) (among c.links n second) (or_right (joins a l) (is_lower_of a l) is) (or_right (joins a n) (is_lower_of a n) also));
}

head_of : (f : Found) → f ≢ Absent → IsHead f (item_of f)
head_of NotNeeded h = refl
head_of (Head i) h = refl
head_of Absent h = absurd (h refl)

pub taken : PendingHaveJobs
taken s g legal ticket budget p pending =
    let its = legal.pending.each p pending in
    record {
      legal = may_act s g.core p.path legal.types legal.instances legal.links;
      private = record { parts = refl; links = IsPermutation-refl (private s g.core p.path).links };
      head = head_of (received_by s g p.path (transition_at s p.trans (map.get g.core.instances p.path)))
          (subst (λ (o : Option Transition). received_by s g p.path o ≢ Absent) (sym (ap (transition_at s p.trans) its.there ∙ its.its)) its.head);
    }
