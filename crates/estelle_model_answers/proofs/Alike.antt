-- A relation of two states that each effect and each change of a record keeps, and in which all that is read agrees, is kept by every statement of Estelle, and so by every block.
use Rattle.std.proofs.Common.{◌≡◌, ℕ, Bool, true, List, [], Result, Ok, Err, Option, Some, None, refl, sym, ap, subst, ◌∙◌, inl, inr}
use Rattle.std.specs.Prelude.{◌≢◌, ◌&&◌, ◌||◌, slice_get, option_map}
use Rattle.std.specs.List.{find}
use Rattle.std.specs.FinMap as fin
use Rattle.pascal_values.specs.declared.value.Value.{Value}
use Rattle.estelle_tree.specs.declared.link.IpAddr.{IpAddr}
use Rattle.estelle_tree.specs.declared.link.Link.{Link}
use Rattle.estelle_tree.specs.Paths.{Path, is_inside, child, last_of}
use Rattle.estelle_tree.specs.Links.{is_lower_of, is_upper_of, above}
use Rattle.estelle_model.specs.Core.{Instance, Core}
use Rattle.estelle_model.specs.InteractionPoints.{point, may_join, connectable_at}
use Rattle.estelle_model.specs.Effects.{StatementEffect, Create, Change, Store, Hold, Enter}
use Rattle.estelle_model.specs.Effects as effect
use Rattle.estelle_model.specs.States.{Offers, IsFaithful}
use Rattle.estelle_model.specs.Meant.{Meanings}
use Rattle.estelle_model.specs.Belonging.{are_values_of}
use Rattle.estelle_model.specs.Places.{held_in, module_variables_of, child_at}
use Rattle.estelle_model.specs.Statements.{Statement}
use Rattle.estelle_model.specs.Subject.{Subject, child_of}
use Rattle.estelle_model.specs.Actions.{is_bound, is_connected, is_upper, is_sent_at}
use Rattle.estelle_model.specs.Definitions.{types_received}
use Rattle.estelle_model.specs.Jobs.{is_below_or_own, IsOwnOrChild, CanBeMade}
use Rattle.estelle_model.proofs.AlikePlaces.{ShowAlike}
use Rattle.estelle_model.proofs.Carried.{KeepsRelated}
use Rattle.estelle_model.proofs.Stated.{IsHeld, IsOwnOrHeld, IsLinked, SeesSame, IsStated, IsStatedChange, stated}
use Rattle.estelle_model.proofs.Members.{find_among}
use Rattle.estelle_model.proofs.PrivateParts.{child_inside, left_true, right_true}
use Rattle.estelle_model_answers.proofs.Owned.{left_false, right_false, any_among, last_child, own_path, child_owned, linked_owned, not_itself, sent_there, upper_of, none_held}

-- a new instance holds nothing
abbrev pub IsBare : StatementEffect → Type 0
IsBare (Create p k i) = (v : ℕ) (held : Path) → slice_get i.module_variables v ≢ Some (Some held)
IsBare _ = Unit {0}

-- what a module variable holds from then on is a child
abbrev pub HoldsChild : Path → Change → Type 0
HoldsChild p (Hold v (Some c)) = (n : ℕ) × (c ≡ child p n)
HoldsChild p _ = Unit {0}

-- On states that are related the instances at and below m are the same, and so is what m reads of links; each effect that can be made keeps the relation, and so does each change of a record at or below m.
pub record KeepsAlike (S T : Type 0) (on : Offers S) (on' : Offers T) (s : Subject) (m : Path) (R : S → T → Type 0) : Type 0 where
  pub types : (x : S) (y : T) → R x y → (on.core x).types ≡ (on'.core y).types
  pub instances : (x : S) (y : T) → R x y → (p : Path) → is_inside m p ≡ true → fin.get (on.core x).instances p ≡ fin.get (on'.core y).instances p
  pub children : (x : S) (y : T) → R x y → (p c : Path) (k : ℕ) → is_inside m p ≡ true → slice_get (module_variables_of (fin.get (on.core x).instances p)) k ≡ Some (Some c) → (n : ℕ) × (c ≡ child p n)
  pub bound : (x : S) (y : T) → R x y → (a : IpAddr) → is_below_or_own s (on.core x).instances m a ≡ true → is_bound a (on.core x).links ≡ is_bound a (on'.core y).links
  pub connected : (x : S) (y : T) → R x y → (a : IpAddr) → is_below_or_own s (on.core x).instances m a ≡ true → is_connected a (on.core x).links ≡ is_connected a (on'.core y).links
  pub upper : (x : S) (y : T) → R x y → (a : IpAddr) → is_inside m a.path ≡ true → is_upper a (on.core x).links ≡ is_upper a (on'.core y).links
  pub above_is : (x : S) (y : T) → R x y → (a : IpAddr) → is_below_or_own s (on.core x).instances m a ≡ true → above (on.core x).links a ≡ above (on'.core y).links a
  pub above_in : (x : S) (y : T) → R x y → (a b : IpAddr) → is_below_or_own s (on.core x).instances m a ≡ true → above (on.core x).links a ≡ Some b → is_inside m b.path ≡ true
  pub made : (e : StatementEffect) (x : S) (y : T) → R x y → CanBeMade s m e (on.core x) → IsBare e → R (on.does e x) (on'.does e y)
  pub kept : (p : Path) (change : Change) (x : S) (y : T) → R x y → is_inside m p ≡ true → HoldsChild p change → R (on.keeps p change x) (on'.keeps p change y)

-- what a module variable holds
held_is : (o : Option (Option Path)) (q : Path) → held_in o ≡ Ok q → o ≡ Some (Some q)
held_is (Some (Some r)) q e = let same : r ≡ q = cc in ap (λ (x : Path). Some (Some x)) same
held_is (Some None) q e = absurd (cc)
held_is None q e = absurd (cc)

-- the upper end of an attachment that is found is one
upper_there : (a b : IpAddr) (links : List Link) → above links a ≡ Some b → is_upper b links ≡ true
upper_there a b links e = by (find (is_lower_of a) links) refl e
  where
    by : (l : Option Link) → find (is_lower_of a) links ≡ l → option_map (λ (k : Link). k.first) l ≡ Some b → is_upper b links ≡ true
    by None f e = absurd (cc)
    by (Some l) f e =
        let found_it = find_among (is_lower_of a) links l f in
        let same : l.first ≡ b = cc in
        any_among (is_upper_of b) links l found_it.0 (subst (λ (c : IpAddr). is_upper_of c l ≡ true) same (upper_of l a found_it.1))

module _ (S T : Type 0) (on : Offers S) (on' : Offers T) (faithful : IsFaithful S on) (s : Subject) (m : Path) (R : S → T → Type 0) (keeps : KeepsAlike S T on on' s m R) where
  pub shown : ShowAlike S T on on' m R
  shown = record {
    types = keeps.types;
    instances = keeps.instances;
    held = λ x y r p c k inside is. let of = keeps.children x y r p c k inside is in ap (is_inside m) of.1 ∙ child_inside m p of.0 inside;
    stored = λ x y r p v way w inside. keeps.kept p (Store v way w) x y r inside tt;
  }

  module _ (known : Meanings) (p : Path) (inside : is_inside m p ≡ true) (st : Statement) (given : List Value) where
    -- a child that is held has a number
    held_child : (x : S) (y : T) → R x y → (q : Path) → IsHeld s known p (on.core x) q → (n : ℕ) × (q ≡ child p n)
    held_child x y r q h = keeps.children x y r p q h.0 inside (held_is (slice_get (module_variables_of (fin.get (on.core x).instances p)) h.0) q h.1)

    own_or_child : (x : S) (y : T) → R x y → (q : Path) → IsOwnOrHeld s known p (on.core x) q → IsOwnOrChild p q
    own_or_child x y r q (inl e) = inl e
    own_or_child x y r q (inr h) = inr (held_child x y r q h)

    linked_own : (x : S) (y : T) → R x y → (a : IpAddr) → IsLinked s known p (on.core x) a → is_below_or_own s (on.core x).instances m a ≡ true
    linked_own x y r a (inl h) = let of = held_child x y r a.path h in child_owned s (on.core x).instances m p a of.0 inside of.1
    linked_own x y r a (inr h) = linked_owned s (on.core x).instances m p a inside (inl h.0) h.1

    sees : (x : S) (y : T) → R x y → SeesSame s known p (on.core x) (on'.core y)
    sees x y r = record {
      own = keeps.instances x y r p inside;
      held = λ q h. keeps.instances x y r q (own_path m p q inside (inr (held_child x y r q h)));
      bound = λ a h. keeps.bound x y r a (linked_own x y r a h);
      connected = λ a h. keeps.connected x y r a (linked_own x y r a h);
      upper = λ a e. keeps.upper x y r a (ap (is_inside m) e ∙ inside);
      above_is = λ a h. keeps.above_is x y r a (linked_own x y r a (inl h));
    }

    -- what a statement makes can be made, and a new instance holds nothing
    can : (x : S) (y : T) → R x y → (e : StatementEffect) → IsStated s known p st given e (on.core x) → CanBeMade s m e (on.core x)
    can x y r (effect.Output a ip word values) h = (
      ap (is_inside m) h.own ∙ inside,
      sent_there (point s (on.core x).instances a) word (known h.name) (left_true (is_sent_at (point s (on.core x).instances a) word (known h.name)) (are_values_of (types_received (known h.name)) values) h.allowed),
    )
    can x y r (effect.Connect a b) h =
        let c : Core = on.core x in
        let joined = left_true (may_join (point s c.instances a) (point s c.instances b)) (connectable_at p a (point s c.instances a) && connectable_at p b (point s c.instances b)) h.2 in (
          record {
            by = p;
            inside = inside;
            first = own_or_child x y r a.path h.0;
            second = own_or_child x y r b.path h.1;
            allowed = h.2;
            differ = λ e. not_itself (point s c.instances a) (ap (λ (d : IpAddr). may_join (point s c.instances a) (point s c.instances d)) e ∙ joined);
          },
          left_false (is_bound a c.links) (is_bound b c.links) h.3,
          right_false (is_bound a c.links) (is_bound b c.links) h.3,
        )
    can x y r (effect.Disconnect a) h = (own_path m p a.path inside (own_or_child x y r a.path h.0), h.1)
    can x y r (effect.Attach upper lower) h =
        let of = held_child x y r lower.path h.1 in (
          record { inside = ap (is_inside m) h.0 ∙ inside; number = of.0; below = of.1 ∙ ap (λ (q : Path). child q of.0) (sym h.0); allowed = h.2 },
          left_false (is_upper upper (on.core x).links) (is_bound lower (on.core x).links) h.3,
          right_false (is_upper upper (on.core x).links) (is_bound lower (on.core x).links) h.3,
        )
    can x y r (effect.Detach upper) (inl h) = (ap (is_inside m) h.0 ∙ inside, h.2)
    can x y r (effect.Detach upper) (inr h) = (keeps.above_in x y r h.0 upper (linked_own x y r h.0 (inl h.1)) h.2, upper_there h.0 upper (on.core x).links h.2)
    can x y r (effect.Create q k i) h = (ap (is_inside m) h.own ∙ inside, (h.parent, h.there, h.next), ap (λ (z : Instance). z.births) h.made)
    can x y r (effect.Remove q k) h =
        let of = held_child x y r h.1.0 h.1.1 in
        let number : k ≡ of.0 = h.1.2 ∙ ap last_of of.1 ∙ last_child p of.0 in
        let is : child q k ≡ h.1.0 = (λ j. child (h.0 j) (number j)) ∙ sym of.1 in
        (ap (is_inside m) h.0 ∙ inside, (h.1.3.0, ap (fin.get (on.core x).instances) is ∙ h.1.3.1))

    bare : (c : Core) (e : StatementEffect) → IsStated s known p st given e c → IsBare e
    bare c (effect.Create q k i) h = λ v held is. none_held _ v held (ap (λ (z : Instance). slice_get z.module_variables v) (sym h.made) ∙ is)
    bare c (effect.Output a ip word values) h = tt
    bare c (effect.Connect a b) h = tt
    bare c (effect.Disconnect a) h = tt
    bare c (effect.Attach upper lower) h = tt
    bare c (effect.Detach upper) h = tt
    bare c (effect.Remove q k) h = tt

    kept_at : (x : S) (y : T) → R x y → (q : Path) (change : Change) → IsStatedChange s known p q change (on.core x) → R (on.keeps q change x) (on'.keeps q change y)
    kept_at x y r q (Store v way w) h = absurd h
    kept_at x y r q (Hold v None) h = keeps.kept q (Hold v None) x y r (ap (is_inside m) h ∙ inside) tt
    kept_at x y r q (Hold v (Some c)) h = keeps.kept q (Hold v (Some c)) x y r (ap (is_inside m) h.0 ∙ inside) (h.1.0, h.1.1 ∙ ap (λ (z : Path). child z h.1.0) (sym h.0))
    kept_at x y r q (Enter k) h = keeps.kept q (Enter k) x y r (own_path m p q inside h) tt

    pub related : KeepsRelated (stated s known p st given) S T on on' R
    related = record {
      faithful = faithful;
      sees = sees;
      makes = λ e x y r h. keeps.made e x y r (can x y r e h.1) (bare (on.core x) e h.1);
      keeps = λ q change x y r h. kept_at x y r q change h.1;
    }
