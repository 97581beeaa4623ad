-- Ways over links: where they lead, and that they end.
use Rattle.std.proofs.Common.{◌≡◌, ℕ, zero, suc, ◌+◌, ◌≤◌, Bool, true, false, not, ◌&&◌, ◌||◌, List, [], ◌∷◌, length, filter, Option, Some, None, cond, refl, sym, ap, ap₂, subst, ◌∙◌, inl, inr, arith}
use Rattle.std.specs.Prelude.{nat_eq, nat_le, slice_get, Contains}
use Rattle.std.specs.List.{find}
use Rattle.std.specs.Option.{option_map, unwrap_or}
use Rattle.std.specs.Str.{bytes_eq}
use Rattle.std.specs.FinMap as fin
use Rattle.std.proofs.lemmas.Bool.Decides.{nat_tests}
use Rattle.std.proofs.lemmas.List.Sums.{length-filter, count_by-le-length}
use Rattle.estelle_tree.specs.declared.link.IpAddr.{IpAddr}
use Rattle.estelle_tree.specs.declared.link.LinkKind.{LinkKind}
use Rattle.estelle_tree.specs.declared.link.LinkKind.TheVariants.{Connection, Attachment}
use Rattle.estelle_tree.specs.declared.link.Link.{Link}
use Rattle.estelle_tree.specs.Paths.{Path, is_inside}
use Rattle.estelle_tree.specs.Links.{same_ip, is_connection, joins, is_upper_of, is_lower_of, other_end, peer, above, below, steps_from, top, bottom, route}
use Rattle.estelle_model.specs.declared.meaning.Role.{Role}
use Rattle.estelle_model.specs.declared.meaning.Role.TheVariants.{First, Second}
use Rattle.estelle_model.specs.declared.meaning.InteractionKind.{InteractionKind}
use Rattle.estelle_model.specs.declared.meaning.InteractionPoint.{InteractionPoint}
use Rattle.estelle_model.specs.Definitions.{opposite}
use Rattle.estelle_model.specs.Core.{Instance, Instances}
use Rattle.estelle_model.specs.Subject.{Subject, ips_of}
use Rattle.estelle_model.specs.InteractionPoints.{point, point_of, may_send, sends, receives, same_role, may_join, connectable_at, may_attach_points}
use Rattle.estelle_model.specs.Actions.{is_upper}
use Rattle.estelle_model_legality.specs.Linked.{MayLinkAs}
use Rattle.estelle_model.proofs.Units.{Each}
use Rattle.estelle_model_legality.proofs.Lists.{and_both, both_and, or_cases, not_both, number_is, same_number, path_is, same_path, each_of, found_is, found_each, find_none}
use Rattle.estelle_model_legality.proofs.Ways.{inside_itself, inside_child, inside_trans, length_child}

-- ---- fewer pass the one test than the other

ahead_less : (a b x : ℕ) → b ≡ a + 1 → nat_le b x ≡ true → nat_le a x ≡ true
ahead_less a b x e h = grind (arith, nat_tests, e, h)

at_most : (narrow wide : Link → Bool) (xs : List Link) → ((x : Link) → narrow x ≡ true → wide x ≡ true) → length (filter narrow xs) ≤ length (filter wide xs)
at_most narrow wide [] h = omega arith
at_most narrow wide (x ∷ xs) h = by (narrow x) refl (wide x) refl (at_most narrow wide xs h)
  where
    by : (b : Bool) → narrow x ≡ b → (c : Bool) → wide x ≡ c → length (filter narrow xs) ≤ length (filter wide xs) → length (cond b (x ∷ filter narrow xs) (filter narrow xs)) ≤ length (cond c (x ∷ filter wide xs) (filter wide xs))
    by true e true f rest = omega (arith, rest)
    by true e false f rest = absurd (not_both (wide x) (h x e) f)
    by false e true f rest = omega (arith, rest)
    by false e false f rest = rest

fewer : (narrow wide test : Link → Bool) (l : Link) (xs : List Link) → find test xs ≡ Some l → ((x : Link) → narrow x ≡ true → wide x ≡ true) → wide l ≡ true → narrow l ≡ false → suc (length (filter narrow xs)) ≤ length (filter wide xs)
fewer narrow wide test l [] found h w n = absurd (cc)
fewer narrow wide test l (x ∷ xs) found h w n = by (test x) found (narrow x) refl (wide x) refl (at_most narrow wide xs h) (λ g. fewer narrow wide test l xs g h w n)
  where
    by : (a : Bool) → cond a (Some x) (find test xs) ≡ Some l → (b : Bool) → narrow x ≡ b → (c : Bool) → wide x ≡ c → length (filter narrow xs) ≤ length (filter wide xs) → (find test xs ≡ Some l → suc (length (filter narrow xs)) ≤ length (filter wide xs))
        → suc (length (cond b (x ∷ filter narrow xs) (filter narrow xs))) ≤ length (cond c (x ∷ filter wide xs) (filter wide xs))
    by true g true e c f most rest = let is : x ≡ l = cc in absurd (not_both (narrow l) (subst (λ (z : Link). narrow z ≡ true) is e) n)
    by true g false e true f most rest = omega (arith, most)
    by true g false e false f most rest = let is : x ≡ l = cc in absurd (not_both (wide l) w (subst (λ (z : Link). wide z ≡ false) is f))
    by false g true e true f most rest = let r = rest g in omega (arith, r)
    by false g true e false f most rest = absurd (not_both (wide x) (h x e) f)
    by false g false e true f most rest = let r = rest g in omega (arith, r)
    by false g false e false f most rest = rest g

-- ---- interaction points

pub same_ip_is : (a b : IpAddr) → same_ip a b ≡ true → a ≡ b
same_ip_is a b h =
    let x = and_both (bytes_eq a.path b.path) (nat_eq a.ip b.ip) h in
    ap₂ (λ (p : Path) (k : ℕ). record { path = p; ip = k }) (same_path a.path b.path x.0) (same_number a.ip b.ip x.1)

pub same_ip_itself : (a : IpAddr) → same_ip a a ≡ true
same_ip_itself a = both_and (bytes_eq a.path a.path) (nat_eq a.ip a.ip) (path_is a.path) (number_is a.ip)

-- the instance is still there, of the same body
abbrev pub Remains : Instances → Instances → Path → Type 0
Remains before after p = (i : Instance) → fin.get before p ≡ Some i → (j : Instance) × (fin.get after p ≡ Some j) × (j.body ≡ i.body)

pub point_remains : (s : Subject) (before after : Instances) (a : IpAddr) (p : InteractionPoint) → Remains before after a.path → point s before a ≡ Some p → point s after a ≡ Some p
point_remains s before after a p h is = by (fin.get before a.path) refl is
  where
    by : (o : Option Instance) → fin.get before a.path ≡ o → point_of s o a.ip ≡ Some p → point s after a ≡ Some p
    by None e g = absurd (cc)
    by (Some i) e g = let now = h i e in ap (λ (x : Option Instance). point_of s x a.ip) now.1 ∙ ap (λ (b : ℕ). slice_get (ips_of s b) a.ip) now.2 ∙ g

-- ---- what may be linked

same_role_is : (p q : Role) → same_role p q ≡ true → p ≡ q
same_role_is First First h = refl
same_role_is Second Second h = refl
same_role_is First Second h = absurd (cc)
same_role_is Second First h = absurd (cc)

opposite_role : (p q : Role) → not (same_role p q) ≡ true → opposite q ≡ p
opposite_role First First h = absurd (cc)
opposite_role Second Second h = absurd (cc)
opposite_role First Second h = refl
opposite_role Second First h = refl

opposite_other : (p q : Role) → not (same_role p q) ≡ true → opposite p ≡ q
opposite_other First First h = absurd (cc)
opposite_other Second Second h = absurd (cc)
opposite_other First Second h = refl
opposite_other Second First h = refl

pub record Attaches (x y : Option InteractionPoint) : Type 0 where
  pub upper : InteractionPoint
  pub lower : InteractionPoint
  pub is_upper : x ≡ Some upper
  pub is_lower : y ≡ Some lower
  pub channel : upper.channel ≡ lower.channel
  pub role : upper.role ≡ lower.role

pub attaches : (x y : Option InteractionPoint) → may_attach_points x y ≡ true → Attaches x y
attaches None y h = absurd (cc)
attaches (Some p) None h = absurd (cc)
attaches (Some p) (Some q) h =
    let a = and_both (nat_eq p.channel q.channel) (same_role p.role q.role && (p.external && q.external)) h in
    let b = and_both (same_role p.role q.role) (p.external && q.external) a.1 in
    record { upper = p; lower = q; is_upper = refl; is_lower = refl; channel = same_number p.channel q.channel a.0; role = same_role_is p.role q.role b.0 }

pub record Joins (x y : Option InteractionPoint) : Type 0 where
  pub first : InteractionPoint
  pub second : InteractionPoint
  pub is_first : x ≡ Some first
  pub is_second : y ≡ Some second
  pub channel : first.channel ≡ second.channel
  pub to_first : opposite second.role ≡ first.role
  pub to_second : opposite first.role ≡ second.role

pub joins_points : (x y : Option InteractionPoint) → may_join x y ≡ true → Joins x y
joins_points None y h = absurd (cc)
joins_points (Some p) None h = absurd (cc)
joins_points (Some p) (Some q) h =
    let a = and_both (nat_eq p.channel q.channel) (not (same_role p.role q.role) && (p.external || q.external)) h in
    let b = and_both (not (same_role p.role q.role)) (p.external || q.external) a.1 in
    record { first = p; second = q; is_first = refl; is_second = refl; channel = same_number p.channel q.channel a.0; to_first = opposite_role p.role q.role b.0; to_second = opposite_other p.role q.role b.0 }

-- ends that may be linked may be linked where they still are
pub linked_remains : (s : Subject) (before after : Instances) (kind : LinkKind) (a b : IpAddr) → Remains before after a.path → Remains before after b.path → MayLinkAs s before kind a b → MayLinkAs s after kind a b
linked_remains s before after Connection a b ra rb h =
    let x = and_both (may_join (point s before a) (point s before b)) (connectable_at h.0 a (point s before a) && connectable_at h.0 b (point s before b)) h.3 in
    let j = joins_points (point s before a) (point s before b) x.0 in
    let ea : point s after a ≡ point s before a = point_remains s before after a j.first ra j.is_first ∙ sym j.is_first in
    let eb : point s after b ≡ point s before b = point_remains s before after b j.second rb j.is_second ∙ sym j.is_second in
    (h.0, h.1, h.2, ap₂ (λ (x y : Option InteractionPoint). may_join x y && (connectable_at h.0 a x && connectable_at h.0 b y)) ea eb ∙ h.3)
linked_remains s before after Attachment a b ra rb h =
    let j = attaches (point s before a) (point s before b) h.2 in
    let ea : point s after a ≡ point s before a = point_remains s before after a j.upper ra j.is_upper ∙ sym j.is_upper in
    let eb : point s after b ≡ point s before b = point_remains s before after b j.lower rb j.is_lower ∙ sym j.is_lower in
    (h.0, h.1, ap₂ may_attach_points ea eb ∙ h.2)

-- ---- one step

some_mapped : {A B : Type 0} (f : A → B) (o : Option A) (b : B) → option_map f o ≡ Some b → (a : A) × (o ≡ Some a) × (f a ≡ b)
some_mapped f None b h = absurd (cc)
some_mapped f (Some a) b h = (a, refl, cc)

none_mapped : {A B : Type 0} (f : A → B) (o : Option A) → option_map f o ≡ None → o ≡ None
none_mapped f None h = refl
none_mapped f (Some a) h = absurd (cc)

as_attachment : (s : Subject) (is : Instances) (kind : LinkKind) (a b : IpAddr) → not (is_connection kind) ≡ true → MayLinkAs s is kind a b → MayLinkAs s is Attachment a b
as_attachment s is Connection a b h k = absurd (cc)
as_attachment s is Attachment a b h k = k

as_connection : (s : Subject) (is : Instances) (kind : LinkKind) (a b : IpAddr) → is_connection kind ≡ true → MayLinkAs s is kind a b → MayLinkAs s is Connection a b
as_connection s is Connection a b h k = k
as_connection s is Attachment a b h k = absurd (cc)

module _ (s : Subject) (is : Instances) (links : List Link) (each : (l : Link) → Contains links l → MayLinkAs s is l.kind l.first l.second) where
  listed : Each (λ (l : Link). MayLinkAs s is l.kind l.first l.second) links
  listed = each_of Link (λ l. MayLinkAs s is l.kind l.first l.second) links each

  -- two ends of one attachment
  pub attached : (test : Link → Bool) (l : Link) → find test links ≡ Some l → not (is_connection l.kind) ≡ true → MayLinkAs s is Attachment l.first l.second
  attached test l h k = as_attachment s is l.kind l.first l.second k (found_each Link (λ l. MayLinkAs s is l.kind l.first l.second) test links l h listed)

  connected : (test : Link → Bool) (l : Link) → find test links ≡ Some l → is_connection l.kind ≡ true → MayLinkAs s is Connection l.first l.second
  connected test l h k = as_connection s is l.kind l.first l.second k (found_each Link (λ l. MayLinkAs s is l.kind l.first l.second) test links l h listed)

  pub below_is : (a b : IpAddr) → below links a ≡ Some b → MayLinkAs s is Attachment a b
  below_is a b h =
      let l = some_mapped (λ (x : Link). x.second) (find (is_upper_of a) links) b h in
      let t = and_both (not (is_connection l.0.kind)) (same_ip a l.0.first) (found_is Link (is_upper_of a) links l.0 l.1) in
      subst (λ (x : IpAddr). MayLinkAs s is Attachment x b) (sym (same_ip_is a l.0.first t.1)) (subst (λ (x : IpAddr). MayLinkAs s is Attachment l.0.first x) l.2 (attached (is_upper_of a) l.0 l.1 t.0))

  pub above_is : (a b : IpAddr) → above links a ≡ Some b → MayLinkAs s is Attachment b a
  above_is a b h =
      let l = some_mapped (λ (x : Link). x.first) (find (is_lower_of a) links) b h in
      let t = and_both (not (is_connection l.0.kind)) (same_ip a l.0.second) (found_is Link (is_lower_of a) links l.0 l.1) in
      subst (λ (x : IpAddr). MayLinkAs s is Attachment b x) (sym (same_ip_is a l.0.second t.1)) (subst (λ (x : IpAddr). MayLinkAs s is Attachment x l.0.second) l.2 (attached (is_lower_of a) l.0 l.1 t.0))

  -- ---- the way down

  -- a point that is there, of the same channel and role
  abbrev pub IsAlike : InteractionPoint → IpAddr → Type 0
  IsAlike p b = (q : InteractionPoint) × (point s is b ≡ Some q) × (p.channel ≡ q.channel) × (p.role ≡ q.role)

  pub way_down : (n : ℕ) (a : IpAddr) (p : InteractionPoint) → point s is a ≡ Some p → IsAlike p (steps_from (below links) n a) × (is_inside a.path (steps_from (below links) n a).path ≡ true)
  way_down zero a p h = ((p, h, refl, refl), inside_itself a.path)
  way_down (suc n) a p h = by (below links a) refl (way_down n)
    where
      by : (o : Option IpAddr) → below links a ≡ o → ((b : IpAddr) (q : InteractionPoint) → point s is b ≡ Some q → IsAlike q (steps_from (below links) n b) × (is_inside b.path (steps_from (below links) n b).path ≡ true))
          → IsAlike p (steps_from (below links) n (unwrap_or o a)) × (is_inside a.path (steps_from (below links) n (unwrap_or o a)).path ≡ true)
      by None e rest = rest a p h
      by (Some b) e rest =
          let m = below_is a b e in
          let j = attaches (point s is a) (point s is b) m.2 in
          let same : j.upper ≡ p = (let f : Some j.upper ≡ Some p = sym j.is_upper ∙ h in cc) in
          let r = rest b j.lower j.is_lower in (
            (r.0.0, r.0.1, sym (ap (λ (x : InteractionPoint). x.channel) same) ∙ j.channel ∙ r.0.2, sym (ap (λ (x : InteractionPoint). x.role) same) ∙ j.role ∙ r.0.3),
            inside_trans a.path b.path (steps_from (below links) n b).path (ap (is_inside a.path) m.1 ∙ inside_child a.path a.path m.0 (inside_itself a.path)) r.1,
          )

  way_up : (n : ℕ) (a : IpAddr) (p : InteractionPoint) → point s is a ≡ Some p → IsAlike p (steps_from (above links) n a)
  way_up zero a p h = (p, h, refl, refl)
  way_up (suc n) a p h = by (above links a) refl (way_up n)
    where
      by : (o : Option IpAddr) → above links a ≡ o → ((b : IpAddr) (q : InteractionPoint) → point s is b ≡ Some q → IsAlike q (steps_from (above links) n b)) → IsAlike p (steps_from (above links) n (unwrap_or o a))
      by None e rest = rest a p h
      by (Some b) e rest =
          let m = above_is a b e in
          let j = attaches (point s is b) (point s is a) m.2 in
          let same : j.lower ≡ p = (let f : Some j.lower ≡ Some p = sym j.is_lower ∙ h in cc) in
          let r = rest b j.upper j.is_upper in
          (r.0, r.1, sym (ap (λ (x : InteractionPoint). x.channel) same) ∙ sym j.channel ∙ r.2, sym (ap (λ (x : InteractionPoint). x.role) same) ∙ sym j.role ∙ r.3)

  -- ---- it ends where no attachment goes on

  -- the links that a way may still take
  abbrev is_ahead : IpAddr → Link → Bool
  is_ahead a l = nat_le (length a.path) (length l.first.path)

  stuck : (n : ℕ) (a : IpAddr) → below links a ≡ None → steps_from (below links) n a ≡ a
  stuck zero a h = refl
  stuck (suc n) a h = ap (λ (o : Option IpAddr). steps_from (below links) n (unwrap_or o a)) h ∙ stuck n a h

  down_ends : (n : ℕ) (a : IpAddr) → length (filter (is_ahead a) links) ≤ n → is_upper (steps_from (below links) n a) links ≡ false
  down_ends zero a h = by (below links a) refl
    where
      by : (o : Option IpAddr) → below links a ≡ o → is_upper a links ≡ false
      by None e = find_none Link (is_upper_of a) links (none_mapped (λ (x : Link). x.second) (find (is_upper_of a) links) e)
      by (Some b) e =
          let l = some_mapped (λ (x : Link). x.second) (find (is_upper_of a) links) b e in
          let t = and_both (not (is_connection l.0.kind)) (same_ip a l.0.first) (found_is Link (is_upper_of a) links l.0 l.1) in
          let ahead : is_ahead a l.0 ≡ true = let same = ap (λ (x : IpAddr). length x.path) (same_ip_is a l.0.first t.1) in grind (arith, nat_tests, same) in
          absurd (let some = fewer (λ _. false) (is_ahead a) (is_upper_of a) l.0 links l.1 (λ x g. absurd (cc)) ahead refl in omega (arith, h, some))
  down_ends (suc n) a h = by (below links a) refl (down_ends n)
    where
      by : (o : Option IpAddr) → below links a ≡ o → ((b : IpAddr) → length (filter (is_ahead b) links) ≤ n → is_upper (steps_from (below links) n b) links ≡ false) → is_upper (steps_from (below links) n (unwrap_or o a)) links ≡ false
      by None e rest = ap (λ (x : IpAddr). is_upper x links) (stuck n a e) ∙ find_none Link (is_upper_of a) links (none_mapped (λ (x : Link). x.second) (find (is_upper_of a) links) e)
      by (Some b) e rest =
          let l = some_mapped (λ (x : Link). x.second) (find (is_upper_of a) links) b e in
          let t = and_both (not (is_connection l.0.kind)) (same_ip a l.0.first) (found_is Link (is_upper_of a) links l.0 l.1) in
          let same = ap (λ (x : IpAddr). length x.path) (same_ip_is a l.0.first t.1) in
          let m = below_is a b e in
          let longer : length b.path ≡ length a.path + 1 = ap length m.1 ∙ length_child a.path m.0 in
          let ahead : is_ahead a l.0 ≡ true = grind (arith, nat_tests, same) in
          let behind : is_ahead b l.0 ≡ false = grind (arith, nat_tests, same, longer) in
          let some = fewer (is_ahead b) (is_ahead a) (is_upper_of a) l.0 links l.1 (λ x g. ahead_less (length a.path) (length b.path) (length x.first.path) longer g) ahead behind in
          rest b (omega (arith, h, some))

  pub bottom_ends : (a : IpAddr) → is_upper (bottom links a) links ≡ false
  bottom_ends a = down_ends (length links) a (let is = length-filter (is_ahead a) links in let less = count_by-le-length (is_ahead a) links in omega (arith, is, less))

  pub bottom_alike : (a : IpAddr) (p : InteractionPoint) → point s is a ≡ Some p → IsAlike p (bottom links a) × (is_inside a.path (bottom links a).path ≡ true)
  bottom_alike a p h = way_down (length links) a p h

  -- ---- where an output comes to

  other_joined : (a : IpAddr) (l : Link) (p : InteractionPoint) → find (joins a) links ≡ Some l → point s is a ≡ Some p → (q : InteractionPoint) × (point s is (other_end a l) ≡ Some q) × (p.channel ≡ q.channel) × (opposite q.role ≡ p.role)
  other_joined a l p h there = by (same_ip a l.first) refl
    where
      test : (is_connection l.kind ≡ true) × ((same_ip a l.first || same_ip a l.second) ≡ true)
      test = and_both (is_connection l.kind) (same_ip a l.first || same_ip a l.second) (found_is Link (joins a) links l h)

      may : MayLinkAs s is Connection l.first l.second
      may = connected (joins a) l h test.0

      j : Joins (point s is l.first) (point s is l.second)
      j = joins_points (point s is l.first) (point s is l.second) (and_both (may_join (point s is l.first) (point s is l.second)) (connectable_at may.0 l.first (point s is l.first) && connectable_at may.0 l.second (point s is l.second)) may.3).0

      second_of : (b : Bool) → same_ip a l.first ≡ b → b ≡ false → (same_ip a l.first || same_ip a l.second) ≡ true → same_ip a l.second ≡ true
      second_of b e f g = elim (or_cases (same_ip a l.first) (same_ip a l.second) g) [ inl x ↦ absurd (not_both (same_ip a l.first) x (e ∙ f)) | inr x ↦ x ]

      by : (b : Bool) → same_ip a l.first ≡ b → (q : InteractionPoint) × (point s is (cond b l.second l.first) ≡ Some q) × (p.channel ≡ q.channel) × (opposite q.role ≡ p.role)
      by true e =
          let same : j.first ≡ p = (let f : Some j.first ≡ Some p = sym j.is_first ∙ sym (ap (point s is) (same_ip_is a l.first e)) ∙ there in cc) in
          (j.second, j.is_second, sym (ap (λ (x : InteractionPoint). x.channel) same) ∙ j.channel, j.to_first ∙ ap (λ (x : InteractionPoint). x.role) same)
      by false e =
          let same : j.second ≡ p = (let f : Some j.second ≡ Some p = sym j.is_second ∙ sym (ap (point s is) (same_ip_is a l.second (second_of false e refl test.1))) ∙ there in cc) in
          (j.first, j.is_first, sym (ap (λ (x : InteractionPoint). x.channel) same) ∙ sym j.channel, j.to_second ∙ ap (λ (x : InteractionPoint). x.role) same)

  -- the point at the end of the way may receive what the first one may send, and is no upper end
  pub route_receives : (a b : IpAddr) (p : InteractionPoint) (kind : InteractionKind) → point s is a ≡ Some p → sends p kind ≡ true → route links a ≡ Some b
      → (q : InteractionPoint) × (point s is b ≡ Some q) × (receives q kind ≡ true) × (is_upper b links ≡ false)
  route_receives a b p kind there may h =
      let up = way_up (length links) a p there in
      let x = some_mapped (bottom links) (peer links (top links a)) b h in
      let l = some_mapped (other_end (top links a)) (find (joins (top links a)) links) x.0 x.1 in
      let o = other_joined (top links a) l.0 up.0 l.1 up.1 in
      let start : point s is x.0 ≡ Some o.0 = sym (ap (point s is) l.2) ∙ o.1 in
      let down = (bottom_alike x.0 o.0 start).0 in
      let channel : p.channel ≡ down.0.channel = up.2 ∙ o.2 ∙ down.2 in
      let role : opposite down.0.role ≡ p.role = sym (ap opposite down.3) ∙ o.3 ∙ sym up.3 in
      (down.0, sym (ap (point s is) x.2) ∙ down.1, ap₂ (λ (c : ℕ) (r : Role). nat_eq c kind.channel && may_send r kind.senders) (sym channel) role ∙ may, sym (ap (λ (y : IpAddr). is_upper y links) x.2) ∙ bottom_ends x.0)

pub alike_receives : (p q : InteractionPoint) (kind : InteractionKind) → p.channel ≡ q.channel → p.role ≡ q.role → receives p kind ≡ true → receives q kind ≡ true
alike_receives p q kind c r h = ap₂ (λ (x : ℕ) (y : Role). nat_eq x kind.channel && may_send (opposite y) kind.senders) (sym c) (sym r) ∙ h
