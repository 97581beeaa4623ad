-- Where the ways of links lead, and what links allow.
use Rattle.std.proofs.Common.{◌≡◌, ℕ, zero, suc, ◌+◌, Bool, true, false, cond, List, [], ◌∷◌, ◌++◌, length, Option, Some, None, is_some, refl, sym, ap, subst, ◌∙◌, inl, inr, arith, length-append}
use Rattle.std.specs.Prelude.{◌⊎◌, ◌||◌, not, find, option_map, unwrap_or, if◌then◌else◌}
use Rattle.estelle_tree.specs.declared.link.IpAddr.{IpAddr}
use Rattle.estelle_tree.specs.declared.link.Link.{Link}
use Rattle.estelle_tree.specs.Paths.{Path, child, is_inside}
use Rattle.estelle_tree.specs.Links.{same_ip, is_connection, joins, is_upper_of, is_lower_of, attachment, other_end, peer, below, steps_from, top, bottom, route}
use Rattle.queue_store.proofs.TableLaws.{same_ip-equal}
use Rattle.queue_store.proofs.HomeLaws.{false-unless, part-true}
use Rattle.module_tree.proofs.Paths.{not_own_child}
use Rattle.link_ops.specs.Linked as linked
use Rattle.estelle_model.specs.Actions.{is_bound, is_connected, is_upper}
use Rattle.estelle_model.proofs.Members.{Among, find_among, find_any}
use Rattle.estelle_model.proofs.PrivateParts.{inside_self, child_inside, both_inside}
use Rattle.effect_log.proofs.Lists.{any-or, any-among}

-- ---- where a way leads

pub some-map : {A B : Type 0} (f : A → B) (o : Option A) → is_some (option_map f o) ≡ is_some o
some-map f None = refl
some-map f (Some a) = refl

-- what a link that is found gives
found-map : {A B : Type 0} (f : A → B) (o : Option A) (b : B) → option_map f o ≡ Some b → (a : A) × (o ≡ Some a) × (f a ≡ b)
found-map f None b e = absurd (cc)
found-map f (Some a) b e = (a, refl, cc)

module _ (links : List Link) where
  pub below-link : (a b : IpAddr) → below links a ≡ Some b → (l : Link) × Among l links × (is_upper_of a l ≡ true) × (l.second ≡ b)
  below-link a b e =
      let l = found-map (λ (l : Link). l.second) (find (is_upper_of a) links) b e in
      let at = find_among (is_upper_of a) links l.0 l.1 in
      (l.0, at.0, at.1, l.2)

  pub peer-link : (a b : IpAddr) → peer links a ≡ Some b → (l : Link) × Among l links × ((l.first ≡ b) ⊎ (l.second ≡ b))
  peer-link a b e =
      let l = found-map (other_end a) (find (joins a) links) b e in
      let at = find_among (joins a) links l.0 l.1 in
      (l.0, at.0, by l.0 (same_ip a l.0.first) l.2)
    where
      by : (l : Link) (c : Bool) → (if c then l.second else l.first) ≡ b → (l.first ≡ b) ⊎ (l.second ≡ b)
      by l true e = inr e
      by l false e = inl e

  -- what holds of a point and of the ends of links holds where a way leads
  module _ (P : IpAddr → Type 0) (ends : (l : Link) → Among l links → P l.first × P l.second) where
    step-kept : (o : Option IpAddr) (a : IpAddr) → P a → ((b : IpAddr) → o ≡ Some b → P b) → P (unwrap_or o a)
    step-kept None a h some = h
    step-kept (Some b) a h some = some b refl

    steps-kept : (n : ℕ) (a : IpAddr) → P a → P (steps_from (below links) n a)
    steps-kept zero a h = h
    steps-kept (suc n) a h =
        steps-kept n (unwrap_or (below links a) a) (step-kept (below links a) a h (λ b e.
        let l = below-link a b e in
        subst P l.3 (ends l.0 l.1).1))

    pub bottom-kept : (a : IpAddr) → P a → P (bottom links a)
    bottom-kept = steps-kept (length links)

    pub route-kept : (a b : IpAddr) → route links a ≡ Some b → P b
    route-kept a b e =
        let x = found-map (bottom links) (peer links (top links a)) b e in
        let l = peer-link (top links a) x.0 x.1 in
        subst P x.2 (bottom-kept x.0 (by l.0 x.0 (ends l.0 l.1) l.2))
      where
        by : (l : Link) (x : IpAddr) → P l.first × P l.second → (l.first ≡ x) ⊎ (l.second ≡ x) → P x
        by l x h (inl e) = subst P e h.0
        by l x h (inr e) = subst P e h.1

-- ---- down from a child

-- attachments go from an instance to its child
abbrev pub AllDown : List Link → Type 0
AllDown links = (l : Link) → Among l links → is_connection l.kind ≡ false → (k : ℕ) × (l.second.path ≡ child l.first.path k)

upper-of : (a : IpAddr) (l : Link) → is_upper_of a l ≡ true → (is_connection l.kind ≡ false) × (a ≡ l.first)
upper-of a l h =
    let parts = part-true (not (is_connection l.kind)) (same_ip a l.first) h in
    (by (is_connection l.kind) parts.0, same_ip-equal a l.first parts.1)
  where
    by : (b : Bool) → not b ≡ true → b ≡ false
    by true e = absurd (cc)
    by false e = refl

module _ (links : List Link) (down : AllDown links) where
  below-inside : (p : Path) (a b : IpAddr) → is_inside p a.path ≡ true → below links a ≡ Some b → is_inside p b.path ≡ true
  below-inside p a b h e =
      let l = below-link links a b e in
      let at = upper-of a l.0 l.2 in
      let k = down l.0 l.1 at.0 in
      ap (λ (x : IpAddr). is_inside p x.path) (sym l.3) ∙ ap (is_inside p) k.1 ∙ child_inside p l.0.first.path k.0 (ap (λ (x : IpAddr). is_inside p x.path) (sym at.1) ∙ h)

  steps-inside : (p : Path) (n : ℕ) (a : IpAddr) → is_inside p a.path ≡ true → is_inside p (steps_from (below links) n a).path ≡ true
  steps-inside p zero a h = h
  steps-inside p (suc n) a h = steps-inside p n (unwrap_or (below links a) a) (by (below links a) refl)
    where
      by : (o : Option IpAddr) → below links a ≡ o → is_inside p (unwrap_or o a).path ≡ true
      by None e = h
      by (Some b) e = below-inside p a b h e

  pub bottom-inside : (p : Path) (a : IpAddr) → is_inside p a.path ≡ true → is_inside p (bottom links a).path ≡ true
  bottom-inside p a = steps-inside p (length links) a

-- an instance is not below its child
pub parent-outside : (p : Path) (k : ℕ) → is_inside (child p k) p ≡ false
parent-outside p k = false-unless (is_inside (child p k) p) (λ h. not_own_child p k (sym (both_inside (child p k) p h (child_inside p p k (inside_self p)))))

-- ---- one more attachment

steps-more : (f : IpAddr → Option IpAddr) (n : ℕ) (a : IpAddr) → steps_from f (suc n) a ≡ unwrap_or (f (steps_from f n a)) (steps_from f n a)
steps-more f zero a = refl
steps-more f (suc n) a = steps-more f n (unwrap_or (f a) a)

find-appended : {A : Type 0} (p : A → Bool) (xs : List A) (x : A) → p x ≡ false → find p (xs ++ x ∷ []) ≡ find p xs
find-appended p [] x e = ap (λ b. cond b (Some x) None) e
find-appended p (y ∷ ys) x e = ap (λ o. cond (p y) (Some y) o) (find-appended p ys x e)

module _ (links : List Link) (down : AllDown links) (upper lower : IpAddr) (k : ℕ) (at : lower.path ≡ child upper.path k) where
  -- below the child nothing is the new upper end
  below-same : (a : IpAddr) → is_inside lower.path a.path ≡ true → below (links ++ attachment upper lower ∷ []) a ≡ below links a
  below-same a h = ap (option_map (λ (l : Link). l.second)) (find-appended (is_upper_of a) links (attachment upper lower)
      (false-unless (same_ip a upper) (λ e.
      let wrong : true ≡ false = sym h ∙ ap (λ (x : IpAddr). is_inside lower.path x.path) (same_ip-equal a upper e) ∙ ap (λ p. is_inside p upper.path) at ∙ parent-outside upper.path k in cc)))

  steps-same : (n : ℕ) (a : IpAddr) → is_inside lower.path a.path ≡ true → steps_from (below (links ++ attachment upper lower ∷ [])) n a ≡ steps_from (below links) n a
  steps-same zero a h = refl
  steps-same (suc n) a h =
      ap (λ o. steps_from (below (links ++ attachment upper lower ∷ [])) n (unwrap_or o a)) (below-same a h)
      ∙ steps-same n (unwrap_or (below links a) a) (steps-inside links down lower.path 1 a h)

  -- the way down from the lower end is as before, where it had come to its end
  pub bottom-appended : below links (bottom links lower) ≡ None → bottom (links ++ attachment upper lower ∷ []) lower ≡ bottom links lower
  bottom-appended end =
      ap (λ n. steps_from (below (links ++ attachment upper lower ∷ [])) n lower) (length-append links (attachment upper lower ∷ []) ∙ one)
      ∙ steps-same (suc (length links)) lower (inside_self lower.path) ∙ steps-more (below links) (length links) lower ∙ ap (λ o. unwrap_or o (bottom links lower)) end
    where
      one : length links + 1 ≡ suc (length links)
      one = omega arith

  pub bottom-elsewhere : same_ip upper (bottom links lower) ≡ false
  bottom-elsewhere = false-unless (same_ip upper (bottom links lower)) (λ e.
      let inside = bottom-inside links down lower.path lower (inside_self lower.path) in
      let wrong : true ≡ false = sym inside ∙ ap (λ (x : IpAddr). is_inside lower.path x.path) (sym (same_ip-equal upper (bottom links lower) e)) ∙ ap (λ p. is_inside p upper.path) at ∙ parent-outside upper.path k in cc)

-- ---- what links a point has

-- the link store's word for a point that is linked
pub bound-alike : (links : List Link) (a : IpAddr) → linked.is_bound links a ≡ is_bound a links
bound-alike links a =
    (λ i. (some-map (other_end a) (find (joins a) links) ∙ find_any (joins a) links) i || (some-map (λ (l : Link). l.first) (find (is_lower_of a) links) ∙ find_any (is_lower_of a) links) i)
    ∙ sym (any-or (joins a) (is_lower_of a) links)

pub below-some : (links : List Link) (a : IpAddr) → is_some (below links a) ≡ is_upper a links
below-some links a = some-map (λ (l : Link). l.second) (find (is_upper_of a) links) ∙ find_any (is_upper_of a) links

pub peer-some : (links : List Link) (a : IpAddr) → is_some (peer links a) ≡ is_connected a links
peer-some links a = some-map (other_end a) (find (joins a) links) ∙ find_any (joins a) links

-- the link of which a point is the upper end
pub upper-link : (links : List Link) (a : IpAddr) → is_upper a links ≡ true → (l : Link) × Among l links × (a ≡ l.first)
upper-link links a h = let l = any-among (is_upper_of a) links h in (l.0, l.1, (upper-of a l.0 l.2).1)

-- an upper end is not where its way down ends
pub bottom-apart : (links : List Link) (a : IpAddr) → is_some (below links a) ≡ true → below links (bottom links a) ≡ None → same_ip (bottom links a) a ≡ false
bottom-apart links a h end = false-unless (same_ip (bottom links a) a) (λ e.
    let wrong : true ≡ false = sym h ∙ ap (λ x. is_some (below links x)) (sym (same_ip-equal (bottom links a) a e)) ∙ ap is_some end in cc)
