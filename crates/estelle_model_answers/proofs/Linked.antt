-- What effects do to the links, and what the private ones of them tell.
use Rattle.std.proofs.Common.{◌≡◌, ℕ, Bool, true, false, List, [], ◌∷◌, ◌++◌, Option, Some, None, refl, sym, ap, subst, cond, ◌∙◌, inl, inr}
use Rattle.std.specs.Prelude.{◌⊎◌, ◌&&◌, ◌||◌, not, filter, find, is_some, option_map, IsPermutation}
use Rattle.std.specs.List.{list_any}
use Rattle.std.proofs.lemmas.List.Sorted.{IsPermutation-append_left, list_any-IsPermutation, Contains-permutation}
use Rattle.std.proofs.lemmas.List.Elements.{filter-append}
use Rattle.std.proofs.Common.{eqb-true}
use Rattle.std.specs.Str.{bytes_eq}
use Rattle.estelle_tree.specs.declared.link.IpAddr.{IpAddr}
use Rattle.estelle_tree.specs.declared.link.Link.{Link}
use Rattle.estelle_tree.specs.Paths.{Path, child, is_inside}
use Rattle.estelle_tree.specs.Links.{same_ip, joins, is_connection, is_lower_of, is_upper_of, touches, above, connection, attachment}
use Rattle.estelle_model.specs.Core.{Instances, Core}
use Rattle.estelle_model.specs.Effects.{StatementEffect, Output, Connect, Disconnect, Attach, Detach, Create, Remove, links_after}
use Rattle.estelle_model.specs.Subject.{Subject}
use Rattle.estelle_model.specs.InteractionPoints.{point, may_join, connectable_at}
use Rattle.estelle_model.specs.Actions.{is_bound, is_connected, is_upper}
use Rattle.estelle_model.specs.Jobs.{is_below_or_own, is_private, CanBeMade}
use Rattle.estelle_model.proofs.Members.{Among, among, contained, among_append, among_filter, any_kept, find_any, find_among, filters_commute, filter_permuted}
use Rattle.estelle_model.proofs.PrivateParts.{left_true, right_true}
use Rattle.estelle_model_answers.proofs.Owned.{any_among, linked_owned}

-- ---- the same point

bytes_are : (xs ys : List ℕ) → bytes_eq xs ys ≡ true → xs ≡ ys
bytes_are [] [] h = refl
bytes_are [] (y ∷ ys) h = absurd (cc)
bytes_are (x ∷ xs) [] h = absurd (cc)
bytes_are (x ∷ xs) (y ∷ ys) h = λ i. eqb-true x y (left_true (Rattle.std.specs.Prelude.nat_eq x y) (bytes_eq xs ys) h) i ∷ bytes_are xs ys (right_true (Rattle.std.specs.Prelude.nat_eq x y) (bytes_eq xs ys) h) i

pub ip_is : (a b : IpAddr) → same_ip a b ≡ true → a ≡ b
ip_is a b h = λ i. record { path = bytes_are a.path b.path (left_true (bytes_eq a.path b.path) (Rattle.std.specs.Prelude.nat_eq a.ip b.ip) h) i; ip = eqb-true a.ip b.ip (right_true (bytes_eq a.path b.path) (Rattle.std.specs.Prelude.nat_eq a.ip b.ip) h) i }

either : (a b : Bool) → (a || b) ≡ true → (a ≡ true) ⊎ (b ≡ true)
either true b h = inl refl
either false b h = inr h

or_left : (a b : Bool) → a ≡ true → (a || b) ≡ true
or_left true b h = refl
or_left false b h = absurd (cc)

or_right : (a b : Bool) → b ≡ true → (a || b) ≡ true
or_right true b h = refl
or_right false b h = h

not_true : (b : Bool) → not b ≡ true → b ≡ false
not_true false h = refl
not_true true h = absurd (cc)

-- ---- what is kept of links

-- attachments that come to below m or to an internal point of m come from it, and no point is the lower end of two
pub record AreTied (own : IpAddr → Bool) (m : Path) (links : List Link) : Type 0 where
  pub attached : (l : Link) → Among l links → is_connection l.kind ≡ false → own l.second ≡ true → is_inside m l.first.path ≡ true
  pub once : (a : IpAddr) (l n : Link) → Among l links → Among n links → is_lower_of a l ≡ true → is_lower_of a n ≡ true → l.first ≡ n.first

filtered_tied : (own : IpAddr → Bool) (m : Path) (p : Link → Bool) (links : List Link) → AreTied own m links → AreTied own m (filter p links)
filtered_tied own m p links t = record {
  attached = λ l h. t.attached l (among_filter p links l h).0;
  once = λ a l n h k. t.once a l n (among_filter p links l h).0 (among_filter p links n k).0;
}

-- the effect is none that adds a link, or one that adds what m may add
module _ (s : Subject) (base : Instances) (m : Path) where
  abbrev own : IpAddr → Bool
  own = is_below_or_own s base m

  abbrev mine : Link → Bool
  mine = is_private s base m

  connected_tied : (links : List Link) (a b : IpAddr) → AreTied own m links → AreTied own m (links ++ connection a b ∷ [])
  connected_tied links a b t = record {
    attached = λ l h kind own_it. by_attached l kind own_it (among_append links (connection a b ∷ []) l h);
    once = λ c l n h k is also. by_once c l n is also (among_append links (connection a b ∷ []) l h) (among_append links (connection a b ∷ []) n k);
  }
    where
      by_attached : (l : Link) → is_connection l.kind ≡ false → own l.second ≡ true → Among l links ⊎ Among l (connection a b ∷ []) → is_inside m l.first.path ≡ true
      by_attached l kind own_it (inl h) = t.attached l h kind own_it
      by_attached l kind own_it (inr (inl e)) = let wrong : true ≡ false = ap (λ (k : Link). is_connection k.kind) e ∙ kind in absurd (cc)
      by_attached l kind own_it (inr (inr h)) = absurd h

      no_lower : (c : IpAddr) (l : Link) → is_lower_of c l ≡ true → connection a b ≡ l → ⊥
      no_lower c l is e = let wrong : false ≡ true = ap (is_lower_of c) e ∙ is in absurd (cc)

      by_once : (c : IpAddr) (l n : Link) → is_lower_of c l ≡ true → is_lower_of c n ≡ true → Among l links ⊎ Among l (connection a b ∷ []) → Among n links ⊎ Among n (connection a b ∷ []) → l.first ≡ n.first
      by_once c l n is also (inl h) (inl k) = t.once c l n h k is also
      by_once c l n is also (inr (inl e)) k = absurd (no_lower c l is e)
      by_once c l n is also (inr (inr h)) k = absurd h
      by_once c l n is also (inl h) (inr (inl e)) = absurd (no_lower c n also e)
      by_once c l n is also (inl h) (inr (inr k)) = absurd k

  attached_tied : (links : List Link) (upper lower : IpAddr) → is_inside m upper.path ≡ true → is_bound lower links ≡ false → AreTied own m links → AreTied own m (links ++ attachment upper lower ∷ [])
  attached_tied links upper lower inside free t = record {
    attached = λ l h kind own_it. by_attached l kind own_it (among_append links (attachment upper lower ∷ []) l h);
    once = λ c l n h k is also. by_once c l n is also (among_append links (attachment upper lower ∷ []) l h) (among_append links (attachment upper lower ∷ []) n k);
  }
    where
      by_attached : (l : Link) → is_connection l.kind ≡ false → own l.second ≡ true → Among l links ⊎ Among l (attachment upper lower ∷ []) → is_inside m l.first.path ≡ true
      by_attached l kind own_it (inl h) = t.attached l h kind own_it
      by_attached l kind own_it (inr (inl e)) = sym (ap (λ (k : Link). is_inside m k.first.path) e) ∙ inside
      by_attached l kind own_it (inr (inr h)) = absurd h

      -- an old one does not end where the new one does
      no_old : (c : IpAddr) (l n : Link) → Among l links → is_lower_of c l ≡ true → is_lower_of c n ≡ true → attachment upper lower ≡ n → ⊥
      no_old c l n h is also e =
          let at : c ≡ lower = ip_is c lower (ap (is_lower_of c) e ∙ also) in
          let bound : is_bound lower links ≡ true = any_among (λ k. joins lower k || is_lower_of lower k) links l h (or_right (joins lower l) (is_lower_of lower l) (sym (ap (λ d. is_lower_of d l) at) ∙ is)) in
          let wrong : true ≡ false = sym bound ∙ free in absurd (cc)

      by_once : (c : IpAddr) (l n : Link) → is_lower_of c l ≡ true → is_lower_of c n ≡ true → Among l links ⊎ Among l (attachment upper lower ∷ []) → Among n links ⊎ Among n (attachment upper lower ∷ []) → l.first ≡ n.first
      by_once c l n is also (inl h) (inl k) = t.once c l n h k is also
      by_once c l n is also (inl h) (inr (inl e)) = absurd (no_old c l n h is also e)
      by_once c l n is also (inr (inl e)) (inl k) = absurd (no_old c n l k also is e)
      by_once c l n is also (inr (inl e)) (inr (inl f)) = sym (ap (λ (k : Link). k.first) e) ∙ ap (λ (k : Link). k.first) f
      by_once c l n is also (inr (inr h)) k = absurd h
      by_once c l n is also (inl h) (inr (inr k)) = absurd k
      by_once c l n is also (inr (inl e)) (inr (inr k)) = absurd k

  pub tied_after : (e : StatementEffect) (c : Core) → CanBeMade s m e c → AreTied own m c.links → AreTied own m (links_after e c.links)
  unfolding links_after
  tied_after (Output from ip name vs) c can t = t
  tied_after (Connect a b) c can t = connected_tied c.links a b t
  tied_after (Disconnect a) c can t = filtered_tied own m (λ l. not (joins a l)) c.links t
  tied_after (Attach upper lower) c can t = attached_tied c.links upper lower can.0.inside can.2 t
  tied_after (Detach a) c can t = filtered_tied own m (λ l. not (is_upper_of a l)) c.links t
  tied_after (Create p k i) c can t = t
  tied_after (Remove p k) c can t = filtered_tied own m (λ l. not (touches (child p k) l)) c.links t

  -- ---- the private links go with them

  filtered_private : (p : Link → Bool) (image links : List Link) → IsPermutation image (filter mine links) → IsPermutation (filter p image) (filter mine (filter p links))
  filtered_private p image links h = subst (λ (ls : List Link). IsPermutation (filter p image) ls) (filters_commute p mine links) (filter_permuted p image (filter mine links) h)

  added_private : (l : Link) (image links : List Link) → mine l ≡ true → IsPermutation image (filter mine links) → IsPermutation (image ++ l ∷ []) (filter mine (links ++ l ∷ []))
  added_private l image links is h = subst (λ (ls : List Link). IsPermutation (image ++ l ∷ []) ls)
      (sym (filter-append mine links (l ∷ []) ∙ ap (λ b. filter mine links ++ cond b (l ∷ []) []) is)) (IsPermutation-append_left (l ∷ []) image (filter mine links) h)

  -- own_same : the points that m links are the same now as at the beginning
  pub private_after : (e : StatementEffect) (c : Core) → ((a : IpAddr) → is_below_or_own s c.instances m a ≡ own a) → CanBeMade s m e c → (image : List Link) → IsPermutation image (filter mine c.links) → IsPermutation (links_after e image) (filter mine (links_after e c.links))
  unfolding links_after
  private_after (Output from ip name vs) c same can image h = h
  private_after (Connect a b) c same can image h = added_private (connection a b) image c.links
      (or_left (own a) (own b) (sym (same a) ∙ linked_owned s c.instances m can.0.by a can.0.inside can.0.first
      (left_true (connectable_at can.0.by a (point s c.instances a)) (connectable_at can.0.by b (point s c.instances b)) (right_true (may_join (point s c.instances a) (point s c.instances b)) (connectable_at can.0.by a (point s c.instances a) && connectable_at can.0.by b (point s c.instances b)) can.0.allowed)))) h
  private_after (Disconnect a) c same can image h = filtered_private (λ l. not (joins a l)) image c.links h
  private_after (Attach upper lower) c same can image h = added_private (attachment upper lower) image c.links can.0.inside h
  private_after (Detach a) c same can image h = filtered_private (λ l. not (is_upper_of a l)) image c.links h
  private_after (Create p k i) c same can image h = h
  private_after (Remove p k) c same can image h = filtered_private (λ l. not (touches (child p k) l)) image c.links h

  -- ---- what is read of them is the same

  mine_of : (l : Link) (b : Bool) → is_connection l.kind ≡ b → cond b (own l.first || own l.second) (is_inside m l.first.path) ≡ true → mine l ≡ true
  mine_of l b kind h = ap (λ t. cond t (own l.first || own l.second) (is_inside m l.first.path)) kind ∙ h

  joined_mine : (a : IpAddr) (l : Link) → own a ≡ true → joins a l ≡ true → mine l ≡ true
  joined_mine a l is h = mine_of l true (left_true (is_connection l.kind) (same_ip a l.first || same_ip a l.second) h) (by (either (same_ip a l.first) (same_ip a l.second) (right_true (is_connection l.kind) (same_ip a l.first || same_ip a l.second) h)))
    where
      by : (same_ip a l.first ≡ true) ⊎ (same_ip a l.second ≡ true) → (own l.first || own l.second) ≡ true
      by (inl e) = or_left (own l.first) (own l.second) (sym (ap own (ip_is a l.first e)) ∙ is)
      by (inr e) = or_right (own l.first) (own l.second) (sym (ap own (ip_is a l.second e)) ∙ is)

  module _ (links image : List Link) (tied : AreTied own m links) (private : IsPermutation image (filter mine links)) where
    lower_mine : (a : IpAddr) (l : Link) → own a ≡ true → Among l links → is_lower_of a l ≡ true → mine l ≡ true
    lower_mine a l is there h =
        let kind : is_connection l.kind ≡ false = not_true (is_connection l.kind) (left_true (not (is_connection l.kind)) (same_ip a l.second) h) in
        mine_of l false kind (tied.attached l there kind (sym (ap own (ip_is a l.second (right_true (not (is_connection l.kind)) (same_ip a l.second) h))) ∙ is))

    any_same : (p : Link → Bool) → ((l : Link) → Among l links → p l ≡ true → mine l ≡ true) → list_any p links ≡ list_any p image
    any_same p h = sym (list_any-IsPermutation p image (filter mine links) private ∙ any_kept p mine links h)

    bound_mine : (a : IpAddr) → own a ≡ true → (l : Link) → Among l links → (joins a l || is_lower_of a l) ≡ true → mine l ≡ true
    bound_mine a is l there h = by (either (joins a l) (is_lower_of a l) h)
      where
        by : (joins a l ≡ true) ⊎ (is_lower_of a l ≡ true) → mine l ≡ true
        by (inl e) = joined_mine a l is e
        by (inr e) = lower_mine a l is there e

    pub bound_same : (a : IpAddr) → own a ≡ true → is_bound a links ≡ is_bound a image
    bound_same a is = any_same (λ l. joins a l || is_lower_of a l) (bound_mine a is)

    pub connected_same : (a : IpAddr) → own a ≡ true → is_connected a links ≡ is_connected a image
    connected_same a is = any_same (joins a) (λ l there h. joined_mine a l is h)

    pub upper_same : (a : IpAddr) → is_inside m a.path ≡ true → is_upper a links ≡ is_upper a image
    upper_same a is = any_same (is_upper_of a) (λ l there h. mine_of l false (not_true (is_connection l.kind) (left_true (not (is_connection l.kind)) (same_ip a l.first) h)) (sym (ap (λ (b : IpAddr). is_inside m b.path) (ip_is a l.first (right_true (not (is_connection l.kind)) (same_ip a l.first) h))) ∙ is))

    in_links : (l : Link) → Among l image → Among l links
    in_links l h = (among_filter mine links l (among (filter mine links) l (Contains-permutation image (filter mine links) l private (contained image l h)))).0

    pub above_same : (a : IpAddr) → own a ≡ true → above links a ≡ above image a
    above_same a is = by (find (is_lower_of a) links) (find (is_lower_of a) image) refl refl
      where
        some_same : is_some (find (is_lower_of a) links) ≡ is_some (find (is_lower_of a) image)
        some_same = find_any (is_lower_of a) links ∙ any_same (is_lower_of a) (λ l there h. lower_mine a l is there h) ∙ sym (find_any (is_lower_of a) image)

        by : (o o' : Option Link) → find (is_lower_of a) links ≡ o → find (is_lower_of a) image ≡ o' → option_map (λ (l : Link). l.first) o ≡ option_map (λ (l : Link). l.first) o'
        by None None e f = refl
        by (Some l) (Some n) e f =
            let left = find_among (is_lower_of a) links l e in
            let right = find_among (is_lower_of a) image n f in
            ap Some (tied.once a l n left.0 (in_links n right.0) left.1 right.1)
        by None (Some n) e f = let wrong : false ≡ true = sym (ap is_some e) ∙ some_same ∙ ap is_some f in absurd (cc)
        by (Some l) None e f = let wrong : true ≡ false = sym (ap is_some e) ∙ some_same ∙ ap is_some f in absurd (cc)

    pub above_inside : (a b : IpAddr) → own a ≡ true → above links a ≡ Some b → is_inside m b.path ≡ true
    above_inside a b is h = by (find (is_lower_of a) links) refl h
      where
        by : (o : Option Link) → find (is_lower_of a) links ≡ o → option_map (λ (l : Link). l.first) o ≡ Some b → is_inside m b.path ≡ true
        by None e f = absurd (cc)
        by (Some l) e f =
            let it = find_among (is_lower_of a) links l e in
            let kind : is_connection l.kind ≡ false = not_true (is_connection l.kind) (left_true (not (is_connection l.kind)) (same_ip a l.second) it.1) in
            let same : l.first ≡ b = cc in
            sym (ap (λ (c : IpAddr). is_inside m c.path) same) ∙ tied.attached l it.0 kind (sym (ap own (ip_is a l.second (right_true (not (is_connection l.kind)) (same_ip a l.second) it.1))) ∙ is)
