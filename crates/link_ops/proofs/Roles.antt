-- What the ends of a link are to it.
use Rattle.std.proofs.Common.{◌≡◌, ◌≢◌, ◌⊎◌, Bool, true, false, cond, refl, sym, ap, inl, inr, List, Option}
use Rattle.std.specs.Prelude.{◌||◌}
use Rattle.std.specs.List.{find}
use Rattle.std.specs.Option.{option_map}
use Rattle.estelle_tree.specs.declared.link.IpAddr.{IpAddr}
use Rattle.estelle_tree.specs.declared.link.Link.{Link}
use Rattle.estelle_tree.specs.declared.link.LinkKind.{LinkKind}
use Rattle.estelle_tree.specs.declared.link.LinkKind.TheVariants as kind
use Rattle.estelle_tree.specs.Links.{same_ip, other_end}
use Rattle.link_ops.specs.declared.points.Role.{Role}
use Rattle.link_ops.specs.declared.points.Role.TheVariants as role
use Rattle.link_ops.specs.Pairs.{first_role, second_role, has_role, way}
use Rattle.link_ops.proofs.Same.{same-self, same-equal}

abbrev pub linked : LinkKind → IpAddr → IpAddr → Link
linked k f s = record { kind = k; first = f; second = s }

or_cases : (x y : Bool) → (x || y) ≡ true → (x ≡ true) ⊎ (y ≡ true)
or_cases true y e = inl refl
or_cases false y e = inr e

pub role-of : (r : Role) (k : LinkKind) (a f s : IpAddr) → has_role r a (linked k f s) ≡ true → ((a ≡ f) × (first_role k ≡ r)) ⊎ ((a ≡ s) × (second_role k ≡ r))
role-of role.Joined kind.Connection a f s e = elim (or_cases (same_ip a f) (same_ip a s) e) [
  | inl h ↦ inl (same-equal a f h, refl)
  | inr h ↦ inr (same-equal a s h, refl)
]
role-of role.Joined kind.Attachment a f s e = absurd (cc)
role-of role.Upper kind.Connection a f s e = absurd (cc)
role-of role.Upper kind.Attachment a f s e = inl (same-equal a f e, refl)
role-of role.Lower kind.Connection a f s e = absurd (cc)
role-of role.Lower kind.Attachment a f s e = inr (same-equal a s e, refl)

pub role-first : (k : LinkKind) (a s : IpAddr) → has_role (first_role k) a (linked k a s) ≡ true
role-first kind.Connection a s = rw (same-self a) refl
role-first kind.Attachment a s = same-self a

or_true : (x : Bool) → (x || true) ≡ true
or_true true = refl
or_true false = refl

pub role-second : (k : LinkKind) (a f : IpAddr) → has_role (second_role k) a (linked k f a) ≡ true
role-second kind.Connection a f = rw (same-self a) (or_true (same_ip a f))
role-second kind.Attachment a f = same-self a

-- the end that is reached from the one that has the role
abbrev pub far_of : Role → IpAddr → Link → IpAddr
far_of role.Joined a l = other_end a l
far_of role.Upper a l = l.second
far_of role.Lower a l = l.first

pub far-first : (k : LinkKind) (a s : IpAddr) → far_of (first_role k) a (linked k a s) ≡ s
far-first kind.Connection a s = rw (same-self a) refl
far-first kind.Attachment a s = refl

pub far-second : (k : LinkKind) (a f : IpAddr) → same_ip a f ≡ false → far_of (second_role k) a (linked k f a) ≡ f
far-second kind.Connection a f differs = rw differs refl
far-second kind.Attachment a f differs = refl

pub way-find : (r : Role) (links : List Link) (a : IpAddr) → way r links a ≡ option_map (far_of r a) (find (has_role r a) links)
way-find role.Joined links a = refl
way-find role.Upper links a = refl
way-find role.Lower links a = refl
