-- What holds of pairs and points stays so.
use Rattle.std.proofs.Common.{◌≡◌, ◌≢◌, ◌⊎◌, ℕ, zero, suc, ◌+◌, ◌<◌, ◌≤◌, Bool, true, false, cond, List, [], ◌∷◌, ◌++◌, length, get_or, set, Option, Some, None, IsSome, refl, sym, ap, ◌∙◌, subst, inl, inr, arith}
use Rattle.std.specs.Option.{option_map, unwrap_or}
use Rattle.std.proofs.lemmas.Bool.{cases_eq}
use Rattle.std.proofs.lemmas.List.{get_or-set_same, get_or-set_other, get_or_past, length-set}
use Rattle.estelle_tree.specs.declared.link.IpAddr.{IpAddr}
use Rattle.estelle_tree.specs.declared.link.Link.{Link}
use Rattle.estelle_tree.specs.declared.link.LinkKind.{LinkKind}
use Rattle.estelle_tree.specs.declared.link.LinkKind.TheVariants as kind
use Rattle.link_ops.specs.declared.points.Role.{Role}
use Rattle.link_ops.specs.declared.points.Role.TheVariants as role
use Rattle.link_ops.specs.declared.points.Points.{Points}
use Rattle.link_ops.specs.declared.pairs.Pairing.{Pairing}
use Rattle.link_ops.specs.Linked.{IsChild}
use Rattle.link_ops.specs.Points.{Sound, point, link_at}
use Rattle.link_ops.specs.Pairs.{Tied, MayTie, MayLink, IsEnd, slot, seen, ip_at, link_of, first_role, second_role, nowhere}
use Rattle.link_ops.proofs.Lists.{full-alike}
use Rattle.link_ops.proofs.Ties.{first-point, second-point, ip-point, way-none}

-- ---- slots

pub slot-new : (pairs : List (Option Pairing)) (x : Pairing) → slot (pairs ++ Some x ∷ []) (length pairs) ≡ Some x
slot-new [] x = refl
slot-new (o ∷ pairs) x = slot-new pairs x

pub slot-in : (pairs : List (Option Pairing)) (x : Pairing) (j : ℕ) (y : Pairing) → slot pairs j ≡ Some y → slot (pairs ++ Some x ∷ []) j ≡ Some y
slot-in [] x j y is = absurd (cc)
slot-in (o ∷ pairs) x zero y is = is
slot-in (o ∷ pairs) x (suc j) y is = slot-in pairs x j y is

pub slot-old : (pairs : List (Option Pairing)) (x : Pairing) (j : ℕ) (y : Pairing) → slot (pairs ++ Some x ∷ []) j ≡ Some y → ((j ≡ length pairs) × (y ≡ x)) ⊎ (slot pairs j ≡ Some y)
slot-old [] x zero y is = inl (refl, cc)
slot-old [] x (suc j) y is = absurd (cc)
slot-old (o ∷ pairs) x zero y is = inr is
slot-old (o ∷ pairs) x (suc j) y is = elim (slot-old pairs x j y is) [
  | inl h ↦ inl (ap suc h.0, h.1)
  | inr h ↦ inr h
]

pub slot-within : (pairs : List (Option Pairing)) (j : ℕ) (y : Pairing) → slot pairs j ≡ Some y → j < length pairs
slot-within [] j y is = absurd (cc)
slot-within (o ∷ pairs) zero y is = omega arith
slot-within (o ∷ pairs) (suc j) y is = omega (arith, slot-within pairs j y is)

pub slot-cleared : (pairs : List (Option Pairing)) (i j : ℕ) (y : Pairing) → slot (set pairs i None) j ≡ Some y → (j ≢ i) × (slot pairs j ≡ Some y)
slot-cleared [] i j y is = absurd (cc)
slot-cleared (o ∷ pairs) zero zero y is = absurd (cc)
slot-cleared (o ∷ pairs) zero (suc j) y is = (λ e. absurd (omega (arith, e)), is)
slot-cleared (o ∷ pairs) (suc i) zero y is = (λ e. absurd (omega (arith, e)), is)
slot-cleared (o ∷ pairs) (suc i) (suc j) y is = let rest = slot-cleared pairs i j y is in (λ e. rest.0 (let f : j ≡ i = omega (arith, e) in f), rest.1)

-- ---- ends

role_cases : (r s : Role) → (r ≡ s) ⊎ (r ≢ s)
role_cases role.Joined role.Joined = inl refl
role_cases role.Joined role.Upper = inr (λ e. absurd (cc))
role_cases role.Joined role.Lower = inr (λ e. absurd (cc))
role_cases role.Upper role.Joined = inr (λ e. absurd (cc))
role_cases role.Upper role.Upper = inl refl
role_cases role.Upper role.Lower = inr (λ e. absurd (cc))
role_cases role.Lower role.Joined = inr (λ e. absurd (cc))
role_cases role.Lower role.Upper = inr (λ e. absurd (cc))
role_cases role.Lower role.Lower = inl refl

both_cases : (P Q : Type 0) → P ⊎ (P → ⊥) → Q ⊎ (Q → ⊥) → (P × Q) ⊎ (P × Q → ⊥)
both_cases P Q (inl p) (inl q) = inl (p, q)
both_cases P Q (inl p) (inr no_q) = inr (λ h. no_q h.1)
both_cases P Q (inr no_p) d = inr (λ h. no_p h.0)

either_cases : (P Q : Type 0) → P ⊎ (P → ⊥) → Q ⊎ (Q → ⊥) → (P ⊎ Q) ⊎ (P ⊎ Q → ⊥)
either_cases P Q (inl p) d = inl (inl p)
either_cases P Q (inr no_p) (inl q) = inl (inr q)
either_cases P Q (inr no_p) (inr no_q) = inr (λ h. elim h [ inl p ↦ no_p p | inr q ↦ no_q q ])

pub end_cases : (x : Pairing) (k : ℕ) (r : Role) → IsEnd x k r ⊎ (IsEnd x k r → ⊥)
end_cases x k r =
    either_cases ((x.first ≡ k) × (first_role x.kind ≡ r)) ((x.second ≡ k) × (second_role x.kind ≡ r))
    (both_cases (x.first ≡ k) (first_role x.kind ≡ r) (cases_eq x.first k) (role_cases (first_role x.kind) r))
    (both_cases (x.second ≡ k) (second_role x.kind ≡ r) (cases_eq x.second k) (role_cases (second_role x.kind) r))

joined_kind : (k : LinkKind) → (first_role k ≡ role.Joined) ⊎ (second_role k ≡ role.Joined) → k ≡ kind.Connection
joined_kind kind.Connection h = refl
joined_kind kind.Attachment h = elim h [ inl e ↦ absurd (cc) | inr e ↦ absurd (cc) ]

lower_first : (k : LinkKind) → first_role k ≢ role.Lower
lower_first kind.Connection e = absurd (cc)
lower_first kind.Attachment e = absurd (cc)

lower_kind : (k : LinkKind) → second_role k ≡ role.Lower → k ≡ kind.Attachment
lower_kind kind.Connection e = absurd (cc)
lower_kind kind.Attachment e = refl

connection_apart : (k : LinkKind) → k ≡ kind.Connection → k ≡ kind.Attachment → ⊥
connection_apart k e f = let g : kind.Connection ≡ kind.Attachment = sym e ∙ f in absurd (cc)

-- ---- more points

module _ (p q : Points) (pairs : List (Option Pairing)) (t : Tied p pairs) (points : (k : ℕ) (a : IpAddr) → point p k ≡ Some a → point q k ≡ Some a) where
  ip-more : (k : ℕ) (a : IpAddr) → point p k ≡ Some a → ip_at q k ≡ ip_at p k
  ip-more k a here = ip-point q k a (points k a here) ∙ sym (ip-point p k a here)

  first-more : (i : ℕ) (x : Pairing) → slot pairs i ≡ Some x → ip_at q x.first ≡ ip_at p x.first
  first-more i x is = let b = first-point p pairs t i x is in ip-more x.first b.0 b.1

  second-more : (i : ℕ) (x : Pairing) → slot pairs i ≡ Some x → ip_at q x.second ≡ ip_at p x.second
  second-more i x is = let b = second-point p pairs t i x is in ip-more x.second b.0 b.1

  pub seen-more : seen q pairs ≡ seen p pairs
  seen-more = full-alike (link_of q) (link_of p) pairs (λ i x is. rw (first-more i x is, second-more i x is) refl)

  pub tied-more : Sound q → ((k : ℕ) (r : Role) → link_at q k r ≡ link_at p k r) → Tied q pairs
  tied-more sound links =
      record {
        sound = sound;
        known = λ k r i is. t.known k r i (sym (links k r) ∙ is);
        ends = λ i x k r is end. links k r ∙ t.ends i x k r is end;
        apart = t.apart;
        bound = λ k i is. links k role.Lower ∙ t.bound k i (sym (links k role.Joined) ∙ is);
        down = λ i x is attached. rw (first-more i x is, second-more i x is) (t.down i x is attached);
      }

-- what the links allow, the points allow
pub may-tie : (p : Points) (pairs : List (Option Pairing)) → Tied p pairs → (k : LinkKind) (a b : IpAddr) (first second : ℕ) → point p first ≡ Some a → point p second ≡ Some b → MayLink (seen p pairs) k a b → MayTie p k first second
may-tie p pairs t k a b first second here there may =
    record {
      apart = λ same. may.apart (let e : Some a ≡ Some b = sym here ∙ ap (point p) same ∙ there in let f : a ≡ b = cc in f);
      first_free = way-none p pairs t first (first_role k) a here may.first_free;
      second_free = way-none p pairs t second (second_role k) b there may.second_free;
      connection = λ c. (way-none p pairs t first role.Lower a here ((may.connection c).0), way-none p pairs t second role.Lower b there ((may.connection c).1));
      attachment = λ c. (way-none p pairs t second role.Joined b there ((may.attachment c).0), rw (ip-point p first a here, ip-point p second b there) ((may.attachment c).1));
    }

-- ---- a link more or less

module _ (p q : Points) (pairs : List (Option Pairing)) (t : Tied p pairs) (sound : Sound q) (points : (k : ℕ) → point q k ≡ point p k) where
  pub ip-same : (k : ℕ) → ip_at q k ≡ ip_at p k
  ip-same k = ap (λ o. unwrap_or o nowhere) (points k)

  pub link-same : (x : Pairing) → link_of q x ≡ link_of p x
  link-same x = rw (ip-same x.first, ip-same x.second) refl

  pub seen-same : (others : List (Option Pairing)) → seen q others ≡ seen p others
  seen-same others = full-alike (link_of q) (link_of p) others (λ i x is. link-same x)

  module _ (x : Pairing) (may : MayTie p x.kind x.first x.second) (written : (k : ℕ) (r : Role) → IsEnd x k r → link_at q k r ≡ Some (length pairs)) (others : (k : ℕ) (r : Role) → (IsEnd x k r → ⊥) → link_at q k r ≡ link_at p k r) where
    was_free : (k : ℕ) (r : Role) → IsEnd x k r → link_at p k r ≡ None
    was_free k r end = elim end [
      | inl h ↦ rw (← h.0, ← h.1) may.first_free
      | inr h ↦ rw (← h.0, ← h.1) may.second_free
    ]

    joined_end : (k : ℕ) → IsEnd x k role.Joined → (x.kind ≡ kind.Connection) × (link_at p k role.Lower ≡ None)
    joined_end k end = elim end [
      | inl h ↦ let c : x.kind ≡ kind.Connection = joined_kind x.kind (inl h.1) in (c, rw (← h.0) ((may.connection c).0))
      | inr h ↦ let c : x.kind ≡ kind.Connection = joined_kind x.kind (inr h.1) in (c, rw (← h.0) ((may.connection c).1))
    ]

    lower_end : (k : ℕ) → IsEnd x k role.Lower → (x.kind ≡ kind.Attachment) × (link_at p k role.Joined ≡ None)
    lower_end k end = elim end [
      | inl h ↦ absurd (lower_first x.kind h.1)
      | inr h ↦ let c : x.kind ≡ kind.Attachment = lower_kind x.kind h.1 in (c, rw (← h.0) ((may.attachment c).0))
    ]

    pub tied-push : Tied q (pairs ++ Some x ∷ [])
    tied-push =
        record {
          sound = sound;
          known = λ k r i is. elim (end_cases x k r) [
            | inl end ↦ let e : i ≡ length pairs = (let w : link_at q k r ≡ Some (length pairs) = written k r end in cc) in (x, rw e (slot-new pairs x), end)
            | inr no_end ↦ let y = t.known k r i (sym (others k r no_end) ∙ is) in (y.0, slot-in pairs x i y.0 y.1, y.2)
          ];
          ends = λ i y k r is end. elim (slot-old pairs x i y is) [
            | inl h ↦ rw h.0 (written k r (rw (← h.1) end))
            | inr old ↦
                let was : link_at p k r ≡ Some i = t.ends i y k r old end in
                others k r (λ new. let f : link_at p k r ≡ None = was_free k r new in absurd (cc)) ∙ was
          ];
          apart = λ i y is. elim (slot-old pairs x i y is) [
            | inl h ↦ rw h.1 may.apart
            | inr old ↦ t.apart i y old
          ];
          bound = λ k i is. elim (end_cases x k role.Joined) [
            | inl end ↦
                let c = joined_end k end in
                others k role.Lower (λ low. connection_apart x.kind c.0 ((lower_end k low).0)) ∙ c.1
            | inr no_end ↦
                let was : link_at p k role.Joined ≡ Some i = sym (others k role.Joined no_end) ∙ is in
                others k role.Lower (λ low. let f : link_at p k role.Joined ≡ None = (lower_end k low).1 in absurd (cc)) ∙ t.bound k i was
          ];
          down = λ i y is attached. elim (slot-old pairs x i y is) [
            | inl h ↦ rw (ip-same y.first, ip-same y.second, h.1) ((may.attachment (rw (← h.1) attached)).1)
            | inr old ↦ rw (ip-same y.first, ip-same y.second) (t.down i y old attached)
          ];
        }

  module _ (i : ℕ) (x : Pairing) (here : slot pairs i ≡ Some x) (written : (k : ℕ) (r : Role) → IsEnd x k r → link_at q k r ≡ None) (others : (k : ℕ) (r : Role) → (IsEnd x k r → ⊥) → link_at q k r ≡ link_at p k r) where
    still : (k : ℕ) (r : Role) (j : ℕ) → link_at q k r ≡ Some j → (IsEnd x k r → ⊥) × (link_at p k r ≡ Some j)
    still k r j is = elim (end_cases x k r) [
      | inl end ↦ let w : link_at q k r ≡ None = written k r end in absurd (cc)
      | inr no_end ↦ (no_end, sym (others k r no_end) ∙ is)
    ]

    none_still : (k : ℕ) (r : Role) → link_at p k r ≡ None → link_at q k r ≡ None
    none_still k r none = elim (end_cases x k r) [
      | inl end ↦ written k r end
      | inr no_end ↦ others k r no_end ∙ none
    ]

    pub tied-clear : Tied q (set pairs i None)
    tied-clear =
        record {
          sound = sound;
          known = λ k r j is.
              let s = still k r j is in
              let y = t.known k r j s.1 in
              let differs : j ≢ i = λ e. (let f : y.0 ≡ x = (let g : slot pairs j ≡ slot pairs i = ap (slot pairs) e in let h = y.1 in cc) in s.0 (rw (← f) y.2)) in
              (y.0, get_or-set_other pairs i j None None differs ∙ y.1, y.2);
          ends = λ j y k r is end.
              let s = slot-cleared pairs i j y is in
              let was : link_at p k r ≡ Some j = t.ends j y k r s.1 end in
              others k r (λ own. let f : link_at p k r ≡ Some i = t.ends i x k r here own in s.0 (let g : j ≡ i = cc in g)) ∙ was;
          apart = λ j y is. t.apart j y ((slot-cleared pairs i j y is).1);
          bound = λ k j is. none_still k role.Lower (t.bound k j ((still k role.Joined j is).1));
          down = λ j y is attached. rw (ip-same y.first, ip-same y.second) (t.down j y ((slot-cleared pairs i j y is).1) attached);
        }
