-- Interaction points that an instance links, and effects that it may make.
use Rattle.std.proofs.Common.{◌≡◌, ℕ, Bool, true, false, List, [], ◌∷◌, Option, Some, None, refl, sym, ap, subst, cond, ◌∙◌, inl, inr, eq-eqb}
use Rattle.std.specs.Prelude.{◌≢◌, ◌&&◌, ◌||◌, not, nat_eq, slice_get, replicate, zero, suc}
use Rattle.std.specs.List.{list_any}
use Rattle.std.specs.Str.{bytes_eq}
use Rattle.estelle_tree.specs.declared.link.IpAddr.{IpAddr}
use Rattle.estelle_tree.specs.declared.link.Link.{Link}
use Rattle.estelle_tree.specs.Paths.{Path, child, last_of, is_inside}
use Rattle.estelle_tree.specs.Links.{same_ip, is_connection, is_upper_of, is_lower_of}
use Rattle.estelle_model.specs.declared.meaning.Role.{Role}
use Rattle.estelle_model.specs.declared.meaning.Role.TheVariants.{First, Second}
use Rattle.estelle_model.specs.declared.meaning.Meaning.{Meaning}
use Rattle.estelle_model.specs.declared.meaning.Meaning.TheVariants.{Interaction}
use Rattle.estelle_model.specs.declared.meaning.InteractionPoint.{InteractionPoint}
use Rattle.estelle_model.specs.Core.{Instances}
use Rattle.estelle_model.specs.Subject.{Subject}
use Rattle.estelle_model.specs.InteractionPoints.{point, same_role, connectable_at, may_join, internal_at}
use Rattle.estelle_model.specs.Actions.{is_sent_at}
use Rattle.estelle_model.specs.Jobs.{is_below_or_own, IsOwnOrChild}
use Rattle.estelle_model.proofs.Members.{Among}
use Rattle.estelle_model.proofs.PrivateParts.{child_inside, right_true, left_true}

-- ---- tests

pub bytes_same : (xs : List ℕ) → bytes_eq xs xs ≡ true
bytes_same [] = refl
bytes_same (x ∷ xs) = ap (λ b. b && bytes_eq xs xs) (eq-eqb x x refl) ∙ bytes_same xs

pub ip_same : (a : IpAddr) → same_ip a a ≡ true
ip_same a = (λ i. bytes_same a.path i && eq-eqb a.ip a.ip refl i)

pub left_false : (a b : Bool) → (a || b) ≡ false → a ≡ false
left_false true b h = h
left_false false b h = refl

pub right_false : (a b : Bool) → (a || b) ≡ false → b ≡ false
right_false true b h = absurd (cc)
right_false false b h = h

pub any_among : {A : Type 0} → (p : A → Bool) (xs : List A) (x : A) → Among x xs → p x ≡ true → list_any p xs ≡ true
any_among p [] x h e = absurd h
any_among {A} p (y ∷ ys) x (inl i) e = ap (λ b. b || list_any p ys) (subst (λ (z : A). p z ≡ true) (sym i) e)
any_among p (y ∷ ys) x (inr h) e = by (p y) (any_among p ys x h e)
  where
    by : (b : Bool) → list_any p ys ≡ true → (b || list_any p ys) ≡ true
    by true i = refl
    by false i = i

-- ---- paths

pub last_child : (p : Path) (k : ℕ) → last_of (child p k) ≡ k
last_child [] k = refl
last_child (x ∷ []) k = refl
last_child (x ∷ y ∷ p) k = last_child (y ∷ p) k

nothing_first : (b c : Bool) → c ≡ false → (b && c) ≡ false
nothing_first true c h = h
nothing_first false c h = refl

-- a child of an instance at or below m is not above m
pub not_above : (m p : Path) (k : ℕ) → is_inside m p ≡ true → is_inside (child p k) m ≡ false
not_above [] [] k h = refl
not_above [] (y ∷ p) k h = refl
not_above (x ∷ m) [] k h = absurd (cc)
not_above (x ∷ m) (y ∷ p) k h = nothing_first (nat_eq y x) (is_inside (child p k) m) (not_above m p k (right_true (nat_eq x y) (is_inside m p) h))

pub own_path : (m p q : Path) → is_inside m p ≡ true → IsOwnOrChild p q → is_inside m q ≡ true
own_path m p q h (inl e) = ap (is_inside m) e ∙ h
own_path m p q h (inr e) = ap (is_inside m) e.1 ∙ child_inside m p e.0 h

-- ---- points that an instance links

below_is : (b c i : Bool) → b ≡ true → c ≡ false → (b && (not c || i)) ≡ true
below_is true false i h e = refl
below_is true true i h e = absurd (cc)
below_is false c i h e = h

internal_is : (b c i : Bool) → b ≡ true → i ≡ true → (b && (not c || i)) ≡ true
internal_is true true i h e = e
internal_is true false i h e = refl
internal_is false c i h e = h

pub child_owned : (s : Subject) (x : Instances) (m p : Path) (a : IpAddr) (k : ℕ) → is_inside m p ≡ true → a.path ≡ child p k → is_below_or_own s x m a ≡ true
child_owned s x m p a k h e = below_is (is_inside m a.path) (is_inside a.path m) (internal_at (point s x a)) (ap (is_inside m) e ∙ child_inside m p k h) (ap (λ q. is_inside q m) e ∙ not_above m p k h)

connectable_own : (p : Path) (a : IpAddr) (o : Option InteractionPoint) → a.path ≡ p → connectable_at p a o ≡ true → internal_at o ≡ true
connectable_own p a None e h = absurd (cc)
connectable_own p a (Some q) e h = sym (ap (λ b. cond b (not q.external) q.external) (ap (λ r. bytes_eq r p) e ∙ bytes_same p)) ∙ h

pub linked_owned : (s : Subject) (x : Instances) (m p : Path) (a : IpAddr) → is_inside m p ≡ true → IsOwnOrChild p a.path → connectable_at p a (point s x a) ≡ true → is_below_or_own s x m a ≡ true
linked_owned s x m p a h (inl e) c = internal_is (is_inside m a.path) (is_inside a.path m) (internal_at (point s x a)) (ap (is_inside m) e ∙ h) (connectable_own p a (point s x a) e c)
linked_owned s x m p a h (inr e) c = child_owned s x m p a e.0 h e.1

role_same : (r : Role) → same_role r r ≡ true
role_same First = refl
role_same Second = refl

-- a point is not joined to itself
pub not_itself : (o : Option InteractionPoint) → may_join o o ≡ true → ⊥
not_itself None h = absurd (cc)
not_itself (Some p) h =
    let roles : not (same_role p.role p.role) ≡ true = left_true (not (same_role p.role p.role)) (p.external || p.external) (right_true (nat_eq p.channel p.channel) (not (same_role p.role p.role) && (p.external || p.external)) h) in
    let wrong : false ≡ true = sym (ap not (role_same p.role)) ∙ roles in absurd (cc)

pub sent_there : (o : Option InteractionPoint) (word : List ℕ) (w : Meaning) → is_sent_at o word w ≡ true → (p : InteractionPoint) × (o ≡ Some p)
sent_there (Some p) word w h = (p, refl)
sent_there None word (Interaction kind) h = absurd (let wrong : false ≡ true = right_true (bytes_eq kind.word word) false h in cc)
sent_there None word _ h = absurd (cc)

-- ---- links

pub upper_of : (l : Link) (a : IpAddr) → is_lower_of a l ≡ true → is_upper_of l.first l ≡ true
upper_of l a h = (λ i. left_true (not (is_connection l.kind)) (same_ip a l.second) h i && ip_same l.first i)

-- ---- new instances

abbrev nothing_held : Option Path
nothing_held = None

pub none_held : (n v : ℕ) (held : Path) → slice_get (replicate n nothing_held) v ≢ Some (Some held)
none_held zero v held h = absurd (cc)
none_held (suc n) zero held h = absurd (cc)
none_held (suc n) (suc v) held h = none_held n v held h
