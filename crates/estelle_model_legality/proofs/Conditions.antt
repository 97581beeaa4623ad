-- The jobs of pending firings, and that of the initialization, meet the condition of a job.
use Rattle.std.proofs.Common.{◌≡◌, ◌∙◌, ℕ, zero, suc, ◌+◌, ◌<◌, ◌^◌, Bool, true, false, not, List, [], ◌∷◌, filter, map as each, Option, Some, None, refl, ap, ap₂, sym, subst, cond, inl, inr, arith}
use Rattle.std.specs.Prelude.{◌≢◌, ◌&&◌, ◌||◌, Contains, slice_get}
use Rattle.std.specs.FinMap as map
use Rattle.std.specs.Str.{bytes_eq}
use Rattle.std.proofs.lemmas.List.Sorted.{IsPermutation-refl}
use Rattle.estelle_tree.specs.declared.link.IpAddr.{IpAddr}
use Rattle.estelle_tree.specs.declared.link.Link.{Link}
use Rattle.estelle_tree.specs.declared.link.LinkKind.{LinkKind}
use Rattle.estelle_tree.specs.declared.link.LinkKind.TheVariants.{Connection, Attachment}
use Rattle.estelle_tree.specs.Paths.{Path, child, is_inside}
use Rattle.estelle_tree.specs.Links.{is_connection, joins, is_upper_of, is_lower_of}
use Rattle.estelle_tree.specs.Queues.{waits_at}
use Rattle.estelle_model.specs.declared.image.Part.{Part}
use Rattle.estelle_model.specs.declared.image.Image.{Image}
use Rattle.estelle_model.specs.declared.image.Interaction.{Interaction as Item}
use Rattle.estelle_model.specs.declared.meaning.InteractionPoint.{InteractionPoint}
use Rattle.estelle_model.specs.Core.{Instance, Instances}
use Rattle.estelle_model.specs.Bodies.{BodyAlone}
use Rattle.estelle_model.specs.Transitions.{When, Transition}
use Rattle.estelle_model.specs.Subject.{Subject, body}
use Rattle.estelle_model.specs.InteractionPoints.{point, point_of, connectable_at, internal_at, may_join, may_connect, may_attach_points}
use Rattle.estelle_model.specs.Situation.{Waiting, Situation}
use Rattle.estelle_model.specs.Queues.{Found, NotNeeded, Head, Absent, one_queue, queue, head_at, is_named, named, found, received}
use Rattle.estelle_model.specs.Firing.{transition_at, alone, root, bare}
use Rattle.estelle_model.specs.Jobs.{part_of_entry, is_internal, is_below_or_own, is_private, private, IsOwnOrChild, received_by}
use Rattle.estelle_model.specs.Computed.{core_of}
use Rattle.estelle_model.proofs.PrivateParts.{left_true, right_true, get_inside, core_private}
use Rattle.estelle_model.proofs.Units.{Each}
use Rattle.estelle_model_legality.specs.Instances.{Holds, MayStandBelow}
use Rattle.estelle_model_legality.specs.Linked.{MayLinkAs, MayBeLinked}
use Rattle.estelle_model_legality.specs.Mail.{MayArrive}
use Rattle.estelle_model_legality.specs.Situations.{IsLegal}
use Rattle.estelle_model_legality.specs.Jobs.{image_of, item_of, job_of, IsLegalImage, HasHead, IsJobOf, HaveRoom, HasRoom, PendingMeetCondition, StartMeetsCondition}
use Rattle.estelle_model_legality.proofs.Lists.{or_cases, not_both, is_not, same_path, each_of, each_filter, count_filter}
use Rattle.estelle_model_legality.proofs.Ways.{inside_itself, inside_child}
use Rattle.estelle_model_legality.proofs.Linking.{same_ip_is}
use Rattle.estelle_model_legality.proofs.Members.{Has, contains_has, has_contained, has_filter, each_has}
use Rattle.estelle_model_legality.proofs.Entries.{entry_found, found_entry, first_entry, first_each}
use Rattle.estelle_model_legality.proofs.Taken.{parent_inside}
use Rattle.estelle_model_legality.proofs.Started.{only_there, only_was, root_was}

cond_some : (b : Bool) (o : Option Instance) (i : Instance) → cond b o None ≡ Some i → (b ≡ true) × (o ≡ Some i)
cond_some true o i e = (refl, e)
cond_some false o i e = absurd (cc)

-- an internal interaction point is linked by its own instance
own_point : (n : Path) (a : IpAddr) (o : Option InteractionPoint) → connectable_at n a o ≡ true → internal_at o ≡ true → bytes_eq a.path n ≡ true
own_point n a None c i = absurd (cc)
own_point n a (Some p) c i = by (bytes_eq a.path n) refl c
  where
    by : (b : Bool) → bytes_eq a.path n ≡ b → cond b (not p.external) p.external ≡ true → bytes_eq a.path n ≡ true
    by true e f = e
    by false e f = absurd (not_both p.external f (is_not p.external i))

-- ---- what a transition receives

head_needed : (a : IpAddr) (ws : List Waiting) → head_at a ws ≡ NotNeeded → ⊥
head_needed a [] h = absurd (cc)
head_needed a (w ∷ ws) h = by (waits_at a w) h
  where
    by : (b : Bool) → cond b (Head w.item) Absent ≡ NotNeeded → ⊥
    by true e = absurd (cc)
    by false e = absurd (cc)

module _ (s : Subject) (x : Instances) where
  head_arrives : (a : IpAddr) (ws : List Waiting) (i : Item) → Each (λ (w : Waiting). MayArrive s x w.at w.item) ws → head_at a ws ≡ Head i → MayArrive s x a i
  head_arrives a [] i h e = absurd (cc)
  head_arrives a (w ∷ ws) i h e = by (waits_at a w) refl e
    where
      by : (b : Bool) → waits_at a w ≡ b → cond b (Head w.item) Absent ≡ Head i → MayArrive s x a i
      by true t f = let is : w.item ≡ i = cc in subst (λ (y : IpAddr). MayArrive s x y i) (sym (same_ip_is a w.at t)) (subst (λ (j : Item). MayArrive s x w.at j) is h.0)
      by false t f = absurd (cc)

module _ (s : Subject) (g : Situation) (legal : IsLegal s g) (m : Path) where
  abbrev all : Instances
  all = g.core.instances

  -- the instances at and below one
  abbrev own : Instances
  own = map.retain_keys g.core.instances (is_inside m)

  got : (p : Path) (i : Instance) → map.get own p ≡ Some i → (is_inside m p ≡ true) × (map.get all p ≡ Some i)
  got p i e = cond_some (is_inside m p) (map.get all p) i (sym (get_inside all m p) ∙ e)

  seen : (p : Path) → is_inside m p ≡ true → map.get own p ≡ map.get all p
  seen p inside = get_inside all m p ∙ ap (λ (b : Bool). cond b (map.get all p) None) inside

  point_seen : (a : IpAddr) → is_inside m a.path ≡ true → point s own a ≡ point s all a
  point_seen a inside = ap (λ (o : Option Instance). point_of s o a.ip) (seen a.path inside)

  -- ---- instances

  holds_seen : (p : Path) (held : Option Path) → is_inside m p ≡ true → Holds all p held → Holds own p held
  holds_seen p None inside h = tt
  holds_seen p (Some c) inside h = (h.0, h.1, h.2, seen c (ap (is_inside m) h.2 ∙ inside_child m p h.0 inside) ∙ h.3)

  stand_below : MayStandBelow s m own
  stand_below = record {
    bodies = λ p i e. legal.instances.bodies p i (got p i e).1;
    holds = λ p i v held e f. let x = got p i e in holds_seen p held x.0 (legal.instances.holds p i v held x.1 f);
    parents = λ p k i inside e. let h = legal.instances.parents p k i (got (child p k) i e).1 in record { parent = h.parent; there = seen p inside ∙ h.there; born = h.born; allowed = h.allowed; held = h.held };
    transitions = λ p i e. legal.instances.transitions p i (got p i e).1;
  }

  -- ---- links

  own_inside : (n p : Path) → IsOwnOrChild n p → is_inside m n ≡ true → is_inside m p ≡ true
  own_inside n p (inl e) inside = ap (is_inside m) e ∙ inside
  own_inside n p (inr e) inside = ap (is_inside m) e.1 ∙ inside_child m n e.0 inside

  -- the instance that linked a point below m, or an internal one of m, is at or below m
  maker_inside : (n : Path) (a : IpAddr) → IsOwnOrChild n a.path → connectable_at n a (point s all a) ≡ true → is_below_or_own s all m a ≡ true → is_inside m n ≡ true
  maker_inside n a its may h =
      let inside : is_inside m a.path ≡ true = left_true (is_inside m a.path) (not (is_inside a.path m) || is_internal s all a) h in
      elim (or_cases (not (is_inside a.path m)) (is_internal s all a) (right_true (is_inside m a.path) (not (is_inside a.path m) || is_internal s all a) h)) [
        | inl below ↦ strictly its inside (is_not (is_inside a.path m) below)
        | inr internal ↦ sym (ap (is_inside m) (same_path a.path n (own_point n a (point s all a) may internal))) ∙ inside
      ]
    where
      strictly : IsOwnOrChild n a.path → is_inside m a.path ≡ true → is_inside a.path m ≡ false → is_inside m n ≡ true
      strictly (inl e) inside below = sym (ap (is_inside m) e) ∙ inside
      strictly (inr e) inside below = parent_inside m n e.0 (sym (ap (is_inside m) e.1) ∙ inside) (sym (ap (λ (p : Path). is_inside p m) e.1) ∙ below)

  connect_seen : (n : Path) (a b : IpAddr) → is_inside m a.path ≡ true → is_inside m b.path ≡ true → may_connect s own n a b ≡ may_connect s all n a b
  connect_seen n a b ia ib = ap₂ (λ (o q : Option InteractionPoint). may_join o q && (connectable_at n a o && connectable_at n b q)) (point_seen a ia) (point_seen b ib)

  link_seen : (kind : LinkKind) (a b : IpAddr) → MayLinkAs s all kind a b → cond (is_connection kind) (is_below_or_own s all m a || is_below_or_own s all m b) (is_inside m a.path) ≡ true → MayLinkAs s own kind a b
  link_seen Connection a b h own_link =
      let may : (connectable_at h.0 a (point s all a) && connectable_at h.0 b (point s all b)) ≡ true = right_true (may_join (point s all a) (point s all b)) _ h.3 in
      let inside : is_inside m h.0 ≡ true = elim (or_cases (is_below_or_own s all m a) (is_below_or_own s all m b) own_link) [
        | inl x ↦ maker_inside h.0 a h.1 (left_true (connectable_at h.0 a (point s all a)) _ may) x
        | inr x ↦ maker_inside h.0 b h.2 (right_true (connectable_at h.0 a (point s all a)) _ may) x
      ] in
      (h.0, h.1, h.2, connect_seen h.0 a b (own_inside h.0 a.path h.1 inside) (own_inside h.0 b.path h.2 inside) ∙ h.3)
  link_seen Attachment a b h inside =
      (h.0, h.1, ap₂ may_attach_points (point_seen a inside) (point_seen b (ap (is_inside m) h.1 ∙ inside_child m a.path h.0 inside)) ∙ h.2)

  linked_below : MayBeLinked s own (filter (is_private s all m) g.core.links)
  linked_below = record {
    each = λ l c.
        let x = has_filter (is_private s all m) g.core.links l (has_contained (filter (is_private s all m) g.core.links) l c) in
        link_seen l.kind l.first l.second (legal.links.each l (contains_has g.core.links l x.0)) x.1;
    bound_once = λ a. let less = count_filter Link (λ (l : Link). joins a l || is_lower_of a l) (is_private s all m) g.core.links in let once = legal.links.bound_once a in omega (arith, less, once);
    upper_once = λ a. let less = count_filter Link (is_upper_of a) (is_private s all m) g.core.links in let once = legal.links.upper_once a in omega (arith, less, once);
  }

  -- ---- the image

  abbrev image : Image
  image = image_of (private s g.core m)

  image_is : (core_of s image).instances ≡ own
  image_is = core_private s g.core m image (record { parts = refl; links = IsPermutation-refl (private s g.core m).links })

  entry_is : (e : Path × Instance) → Has (map.entries own) e → (is_inside m e.0 ≡ true) × (map.get all e.0 ≡ Some e.1)
  entry_is e has = got e.0 e.1 (map.get-entries own e.0 ∙ entry_found (map.entries own) (map.entries_sorted own) e has)

  -- each part is an instance that is there
  part_is : (p : Part) → Contains image.parts p → (e : Path × Instance) × (part_of_entry e ≡ p) × (is_inside m e.0 ≡ true) × (map.get all e.0 ≡ Some e.1)
  part_is p c =
      let r = each_has part_of_entry (map.entries own) p (has_contained image.parts p c) in
      let x = entry_is r.0 r.1 in
      (r.0, r.2, x.0, x.1)

  legal_image : IsLegalImage s m image
  legal_image = record {
    order = ap (λ (x : Instances). each part_of_entry (map.entries x)) (sym image_is);
    inside = λ p c. let x = part_is p c in ap (λ (q : Part). is_inside m q.path) (sym x.1) ∙ x.2;
    instances = subst (MayStandBelow s m) (sym image_is) stand_below;
    links = subst (λ (x : Instances). MayBeLinked s x (filter (is_private s all m) g.core.links)) (sym image_is) linked_below;
  }

  have_room : (budget : ℕ) → HasRoom budget g → HaveRoom budget image.parts
  have_room budget room p c = let x = part_is p c in subst (λ (q : Part). q.births + budget < 2 ^ 63) x.1 (room x.0.0 x.0.1 x.3)

  -- the instance is the first part
  first_is : (i : Instance) → map.get all m ≡ Some i → slice_get image.parts 0 ≡ Some (part_of_entry (m, i))
  first_is i there =
      first_each part_of_entry (map.entries own) (m, i)
      (first_entry m (map.entries own) (map.entries_sorted own) (λ e has. (entry_is e has).0) i
      (found_entry (map.entries own) m i (sym (map.get-entries own m) ∙ seen m (inside_itself m) ∙ there)))

  -- ---- the head

  arrives_seen : (k : ℕ) (i : Item) → MayArrive s all (record { path = m; ip = k }) i → MayArrive s own (record { path = m; ip = k }) i
  arrives_seen k i h = record { at = h.at; there = point_seen (record { path = m; ip = k }) (inside_itself m) ∙ h.there; kind = h.kind; of_kind = h.of_kind; received = h.received }

  queue_arrives : (a : IpAddr) → Each (λ (w : Waiting). MayArrive s all w.at w.item) (queue s g a)
  queue_arrives a = each_filter Waiting (λ w. MayArrive s all w.at w.item) (λ w. MayArrive s all w.at w.item) (λ w. one_queue s all a w.at) g.mail (λ w t h. h)
      (each_of Waiting (λ w. MayArrive s all w.at w.item) g.mail (λ w c. (legal.mail.each w c).arrives))

  has_head : (o : Option When) → received s g m o ≢ Absent → HasHead s own m o (item_of (received s g m o))
  has_head None there = refl
  has_head (Some w) there = by (found s g m (Some w)) refl there
    where
      a : IpAddr
      a = record { path = m; ip = w.ip }

      is_head : (i : Item) → found s g m (Some w) ≡ Head i → (b : Bool) → is_named i (Some w) ≡ b → cond b (Head i) Absent ≢ Absent → HasHead s own m (Some w) (item_of (cond b (Head i) Absent))
      is_head i e true t n = (t, arrives_seen w.ip i (head_arrives s all (record { path = m; ip = w.ip }) (queue s g (record { path = m; ip = w.ip })) i (queue_arrives (record { path = m; ip = w.ip })) e))
      is_head i e false t n = absurd (n refl)

      by : (f : Found) → found s g m (Some w) ≡ f → named (Some w) f ≢ Absent → HasHead s own m (Some w) (item_of (named (Some w) f))
      by NotNeeded e n = absurd (head_needed (record { path = m; ip = w.ip }) (queue s g (record { path = m; ip = w.ip })) e)
      by (Head i) e n = is_head i e (is_named i (Some w)) refl n
      by Absent e n = absurd (n refl)

-- ---- together

pub taken_meets : PendingMeetCondition
taken_meets s g legal ticket budget room p pending = record { room = have_room s g legal p.path budget room; by = by p.trans refl }
  where
    by : (n : ℕ) → p.trans ≡ n → IsJobOf s (job_of s g ticket budget p) n
    by zero e =
        let may = legal.pending.each p pending in
        let wrong : None ≡ Some may.transition = sym (ap (λ (k : ℕ). transition_at s k (Some may.instance)) e) ∙ may.its in
        absurd (cc)
    by (suc n) e =
        let may = legal.pending.each p pending in
        let its : transition_at s p.trans (map.get g.core.instances p.path) ≡ Some may.transition = ap (transition_at s p.trans) may.there ∙ may.its in
        record {
          image = legal_image s g legal p.path;
          part = part_of_entry (p.path, may.instance);
          first = first_is s g legal p.path may.instance may.there;
          path = refl;
          transition = may.transition;
          its = may.its;
          head = subst (λ (x : Instances). HasHead s x p.path may.transition.when (item_of (received_by s g p.path (transition_at s p.trans (map.get g.core.instances p.path))))) (sym (image_is s g legal p.path))
              (subst (λ (o : Option Transition). HasHead s (own s g legal p.path) p.path may.transition.when (item_of (received_by s g p.path o))) (sym its) (has_head s g legal p.path may.transition.when may.head));
        }

pub start_meets : StartMeetsCondition
start_meets s budget few = record { room = room; by = record { path = refl; head = refl; image = refl } }
  where
    births : (o : Option BodyAlone) (q : Path) (i : Instance) → map.get (alone (root s)) q ≡ Some i → i.births ≡ 0
    births o q i e =
        let x = only_was (root s) q i (sym (only_there (root s) q) ∙ e) in
        let b = root_was s (body s 0) i x.1 in
        ap (λ (z : Instance). z.births) (sym b.2)

    room : HaveRoom budget (image_of (bare s).core).parts
    room p c =
        let r = each_has part_of_entry (map.entries (alone (root s))) p (has_contained (image_of (bare s).core).parts p c) in
        let none = births (body s 0) r.0.0 r.0.1 (map.get-entries (alone (root s)) r.0.0 ∙ entry_found (map.entries (alone (root s))) (map.entries_sorted (alone (root s))) r.0 r.1) in
        subst (λ (q : Part). q.births + budget < 2 ^ 63) r.2 (omega (arith, none, few))
