-- The private links of an instance elsewhere, while another one acts: they stay as they are.
use Rattle.std.proofs.Common.{◌≡◌, ℕ, Bool, true, false, List, [], ◌∷◌, ◌++◌, Option, Some, None, refl, sym, ap, subst, cond, ◌∙◌, inl, inr, append-nil}
use Rattle.std.specs.Prelude.{◌&&◌, ◌||◌, not, filter}
use Rattle.std.specs.Str.{bytes_eq}
use Rattle.std.proofs.lemmas.List.Elements.{filter-append}
use Rattle.estelle_tree.specs.declared.link.IpAddr.{IpAddr}
use Rattle.estelle_tree.specs.declared.link.Link.{Link}
use Rattle.estelle_tree.specs.declared.link.LinkKind.{LinkKind}
use Rattle.estelle_tree.specs.declared.link.LinkKind.TheVariants.{Connection, Attachment}
use Rattle.estelle_tree.specs.Paths.{Path, child, is_inside}
use Rattle.estelle_tree.specs.Links.{same_ip, is_connection, joins, is_upper_of, touches, connection, attachment}
use Rattle.estelle_model.specs.declared.meaning.InteractionPoint.{InteractionPoint}
use Rattle.estelle_model.specs.Core.{Instances, Core}
use Rattle.estelle_model.specs.Effects.{StatementEffect, Output, Connect, Disconnect, Attach, Detach, Create, Remove, links_after}
use Rattle.estelle_model.specs.Subject.{Subject}
use Rattle.estelle_model.specs.InteractionPoints.{point, may_join, connectable_at, internal_at}
use Rattle.estelle_model.specs.Situation.{Acting, acting_after}
use Rattle.estelle_model.specs.Jobs.{is_internal, is_below_or_own, is_private, IsOwnOrChild, CanBeMade, CanAllBeMade, after_all}
use Rattle.estelle_model.proofs.Members.{Among, contained, among_filter, filters_commute}
use Rattle.estelle_model_legality.specs.Linked.{MayLinkAs, MayBeLinked}
use Rattle.estelle_model_legality.proofs.Lists.{and_both, or_cases, not_true, not_both, same_path}
use Rattle.estelle_model_legality.proofs.Linking.{same_ip_is}
use Rattle.estelle_model_legality.proofs.Ways.{inside_trans, inside_child, inside_last, inside_itself, not_below_itself}
use Rattle.estelle_model_answers.proofs.Owned.{own_path}

-- ---- lists

all_kept : {A : Type 0} (keep : A → Bool) (xs : List A) → ((x : A) → Among x xs → keep x ≡ true) → filter keep xs ≡ xs
all_kept keep [] all = refl
all_kept keep (x ∷ xs) all = ap (λ b. cond b (x ∷ filter keep xs) (filter keep xs)) (all x (inl refl)) ∙ ap (λ ys. x ∷ ys) (all_kept keep xs (λ y h. all y (inr h)))

-- a filter that keeps all that passes the test
passed_kept : {A : Type 0} (test keep : A → Bool) (xs : List A) → ((x : A) → Among x (filter test xs) → keep x ≡ true) → filter test (filter keep xs) ≡ filter test xs
passed_kept test keep xs all = filters_commute test keep xs ∙ all_kept keep (filter test xs) all

-- ---- where a private link lies

different : (p : Path) (k : ℕ) → bytes_eq (child p k) p ≡ true → ⊥
different p k e = not_below_itself p k (subst (λ (q : Path). is_inside (child p k) q ≡ true) (same_path (child p k) p e) (inside_itself (child p k)))

below_by : (a b c : Bool) → (a && (not b || c)) ≡ true → (a ≡ true) × (b ≡ true → c ≡ true)
below_by true true c h = (refl, λ e. h)
below_by true false c h = (refl, λ e. absurd (cc))
below_by false b c h = absurd (cc)

external : (p : Path) (k : ℕ) (a : IpAddr) (o : Option InteractionPoint) → a.path ≡ child p k → connectable_at p a o ≡ true → internal_at o ≡ true → ⊥
external p k a None e c i = absurd (cc)
external p k a (Some x) e c i =
    let other : bytes_eq a.path p ≡ false = not_true (bytes_eq a.path p) (λ t. different p k (subst (λ (q : Path). bytes_eq q p ≡ true) e t)) in
    by x.external (sym (ap (λ b. cond b (not x.external) x.external) other) ∙ c) i
  where
    by : (b : Bool) → b ≡ true → not b ≡ true → ⊥
    by true h k = absurd (cc)
    by false h k = absurd (cc)

module _ (s : Subject) (x : Instances) (q : Path) where
  abbrev pub own : IpAddr → Bool
  own = is_below_or_own s x q

  abbrev pub mine : Link → Bool
  mine = is_private s x q

  -- who connects a point below it, or an internal one of its own, is at or below it
  linker : (p : Path) (a : IpAddr) → IsOwnOrChild p a.path → connectable_at p a (point s x a) ≡ true → own a ≡ true → is_inside q p ≡ true
  linker p a (inl e) c h = ap (is_inside q) (sym e) ∙ (below_by (is_inside q a.path) (is_inside a.path q) (is_internal s x a) h).0
  linker p a (inr e) c h =
      let b = below_by (is_inside q a.path) (is_inside a.path q) (is_internal s x a) h in
      elim (inside_last q p e.0 (ap (is_inside q) (sym e.1) ∙ b.0)) [
        | inl i ↦ i
        | inr same ↦ absurd (external p e.0 a (point s x a) e.1 c (b.1 (ap (λ r. is_inside r q) (e.1 ∙ sym same) ∙ inside_itself q)))
      ]

  -- both ends of such a link are at or below it
  abbrev AreInside : IpAddr → IpAddr → Type 0
  AreInside a b = (is_inside q a.path ≡ true) × (is_inside q b.path ≡ true)

  ends_by : (kind : LinkKind) (a b : IpAddr) → MayLinkAs s x kind a b → cond (is_connection kind) (own a || own b) (is_inside q a.path) ≡ true → AreInside a b
  ends_by Connection a b h private =
      let may = and_both (may_join (point s x a) (point s x b)) (connectable_at h.0 a (point s x a) && connectable_at h.0 b (point s x b)) h.3 in
      let each = and_both (connectable_at h.0 a (point s x a)) (connectable_at h.0 b (point s x b)) may.1 in
      let by : is_inside q h.0 ≡ true = elim (or_cases (own a) (own b) private) [ inl e ↦ linker h.0 a h.1 each.0 e | inr e ↦ linker h.0 b h.2 each.1 e ] in
      (own_path q h.0 a.path by h.1, own_path q h.0 b.path by h.2)
  ends_by Attachment a b h private = (private, ap (is_inside q) h.1 ∙ inside_child q a.path h.0 private)

  pub ends_inside : (links : List Link) → MayBeLinked s x links → (l : Link) → Among l (filter mine links) → AreInside l.first l.second
  ends_inside links may l h =
      let f = among_filter mine links l h in
      ends_by l.kind l.first l.second (may.each l (contained links l f.0)) f.1

  -- ---- what another instance does

  module _ (m : Path) (apart : (r : Path) → is_inside q r ≡ true → is_inside m r ≡ false) where
    not_here : (r : Path) → is_inside m r ≡ true → is_inside q r ≡ false
    not_here r h = not_true (is_inside q r) (λ e. not_both (is_inside m r) h (apart r e))

    not_own : (a : IpAddr) → is_inside m a.path ≡ true → own a ≡ false
    not_own a h = ap (λ b. b && (not (is_inside a.path q) || is_internal s x a)) (not_here a.path h)

    other_ip : (a b : IpAddr) → is_inside m a.path ≡ true → is_inside q b.path ≡ true → same_ip a b ≡ false
    other_ip a b h k = not_true (same_ip a b) (λ e. not_both (is_inside q b.path) k (sym (ap (λ (y : IpAddr). is_inside q y.path) (same_ip_is a b e)) ∙ not_here a.path h))

    either : (b c d : Bool) → c ≡ false → d ≡ false → (b && (c || d)) ≡ false
    either true c d e f = (λ i. e i || f i)
    either false c d e f = refl

    not_joined : (a : IpAddr) (l : Link) → is_inside m a.path ≡ true → AreInside l.first l.second → not (joins a l) ≡ true
    not_joined a l h ends = ap not (either (is_connection l.kind) (same_ip a l.first) (same_ip a l.second) (other_ip a l.first h ends.0) (other_ip a l.second h ends.1))

    not_upper : (a : IpAddr) (l : Link) → is_inside m a.path ≡ true → AreInside l.first l.second → not (is_upper_of a l) ≡ true
    not_upper a l h ends = ap not (by (is_connection l.kind) (other_ip a l.first h ends.0))
      where
        by : (b : Bool) → same_ip a l.first ≡ false → (not b && same_ip a l.first) ≡ false
        by true e = refl
        by false e = e

    outside : (c r : Path) → is_inside m c ≡ true → is_inside q r ≡ true → is_inside c r ≡ false
    outside c r h k = not_true (is_inside c r) (λ e. not_both (is_inside m r) (inside_trans m c r h e) (apart r k))

    not_touched : (c : Path) (l : Link) → is_inside m c ≡ true → AreInside l.first l.second → not (touches c l) ≡ true
    not_touched c l h ends = ap not (either true (is_inside c l.first.path) (is_inside c l.second.path) (outside c l.first.path h ends.0) (outside c l.second.path h ends.1))

    not_added : (links : List Link) (l : Link) → mine l ≡ false → filter mine (links ++ l ∷ []) ≡ filter mine links
    not_added links l e = filter-append mine links (l ∷ []) ∙ ap (λ b. filter mine links ++ cond b (l ∷ []) []) e ∙ append-nil (filter mine links)

    abbrev EndInside : List Link → Type 0
    EndInside links = (l : Link) → Among l (filter mine links) → AreInside l.first l.second

    links_by : (e : StatementEffect) (c : Core) → CanBeMade s m e c → EndInside c.links → filter mine (links_after e c.links) ≡ filter mine c.links
    unfolding links_after
    links_by (Output from ip name values) c can ends = refl
    links_by (Connect a b) c can ends =
        not_added c.links (connection a b) (λ i. not_own a (own_path m can.0.by a.path can.0.inside can.0.first) i || not_own b (own_path m can.0.by b.path can.0.inside can.0.second) i)
    links_by (Disconnect a) c can ends = passed_kept mine (λ l. not (joins a l)) c.links (λ l h. not_joined a l can.0 (ends l h))
    links_by (Attach upper lower) c can ends = not_added c.links (attachment upper lower) (not_here upper.path can.0.inside)
    links_by (Detach upper) c can ends = passed_kept mine (λ l. not (is_upper_of upper l)) c.links (λ l h. not_upper upper l can.0 (ends l h))
    links_by (Create p k i) c can ends = refl
    links_by (Remove p k) c can ends = passed_kept mine (λ l. not (touches (child p k) l)) c.links (λ l h. not_touched (child p k) l (inside_child m p k can.0) (ends l h))

    pub links_stay : (es : List StatementEffect) (a : Acting) → CanAllBeMade s m es a → EndInside a.situation.core.links → filter mine (after_all es a).situation.core.links ≡ filter mine a.situation.core.links
    links_stay [] a can ends = refl
    links_stay (e ∷ es) a can ends =
        let first = links_by e a.situation.core can.0 ends in
        links_stay es (acting_after e a) can.1 (λ l h. ends l (subst (λ (ls : List Link). Among l ls) first h)) ∙ first
