-- Instances go on standing as they may: where one changes, is made, is held, or goes.
use Rattle.std.proofs.Common.{◌≡◌, ◌⊎◌, ℕ, zero, suc, ◌≤◌, Bool, true, false, List, [], ◌∷◌, length, Option, Some, None, cond, refl, sym, ap, ap₂, subst, ◌∙◌, inl, inr, arith}
use Rattle.std.specs.Prelude.{IsTrue, nat_eq, slice_get, slice_set, Contains}
use Rattle.std.specs.Option.{option_map}
use Rattle.std.specs.FinMap as fin
use Rattle.estelle_tree.specs.Paths.{Path, child, is_inside}
use Rattle.estelle_model.specs.Core.{Instance, Instances}
use Rattle.estelle_model.specs.Effects.{born}
use Rattle.estelle_model.specs.Bodies.{BodyAlone, states_in}
use Rattle.estelle_model.specs.Subject.{Subject, headers_of, child_of}
use Rattle.estelle_model.specs.Subject as subject
use Rattle.estelle_model.specs.Attributes.{attribute, allows, may_have_transitions}
use Rattle.estelle_model_legality.specs.Instances.{IsStateOf, Holds, IsOfBodyBut, IsHeld, MayStandBut}
use Rattle.estelle_model_legality.proofs.Lists.{number_is, same_number, in_head, in_tail, in_cases, not_true, not_both, some_is, set_other, set_same, set_was}
use Rattle.estelle_model_legality.proofs.Ways.{child_injective, inside_itself, not_below_itself}
use Rattle.estelle_model_legality.proofs.Lookups.{same, same_is, same_itself, Lookup, changed_at, created_at, changed_was, changed_is, changed_here}

-- ---- by what stands at each path

pub record HasParentAt (s : Subject) (making : List Path) (look : Lookup) (p : Path) (k : ℕ) (i : Instance) : Type 0 where
  pub parent : Instance
  pub there : look p ≡ Some parent
  pub born : k ≤ parent.births
  pub allowed : IsTrue (allows (attribute s parent.body) (attribute s i.body))
  pub held : Contains making (child p k) ⊎ IsHeld s parent i (child p k)

pub record Stands (s : Subject) (making : List Path) (look : Lookup) : Type 0 where
  pub bodies : (p : Path) (i : Instance) → look p ≡ Some i → (b : BodyAlone) × (subject.body s i.body ≡ Some b) × IsOfBodyBut s (Contains making p) b i
  pub holds : (p : Path) (i : Instance) (m : ℕ) (c : Path) → look p ≡ Some i → slice_get i.module_variables m ≡ Some (Some c) → (k : ℕ) × (j : Instance) × (c ≡ child p k) × (look c ≡ Some j)
  pub parents : (p : Path) (k : ℕ) (i : Instance) → look (child p k) ≡ Some i → HasParentAt s making look p k i
  pub transitions : (p : Path) (i : Instance) → look p ≡ Some i → IsTrue (may_have_transitions s i.body)

pub stands_of : (s : Subject) (making : List Path) (instances : Instances) → MayStandBut s making instances → Stands s making (fin.get instances)
stands_of s making instances h = record {
  bodies = h.bodies;
  holds = λ p i m c there held. h.holds p i m (Some c) there held;
  parents = λ p k i there. let r = h.parents p k i there in record { parent = r.parent; there = r.there; born = r.born; allowed = r.allowed; held = r.held };
  transitions = h.transitions;
}

held_there : (s : Subject) (making : List Path) (instances : Instances) → Stands s making (fin.get instances) → (p : Path) (i : Instance) (m : ℕ) (o : Option Path) → fin.get instances p ≡ Some i → slice_get i.module_variables m ≡ Some o → Holds instances p o
held_there s making instances h p i m None there held = tt
held_there s making instances h p i m (Some c) there held = h.holds p i m c there held

of_stands_there : (s : Subject) (making : List Path) (instances : Instances) → Stands s making (fin.get instances) → MayStandBut s making instances
of_stands_there s making instances h = record {
  bodies = h.bodies;
  holds = held_there s making instances h;
  parents = λ p k i there. let r = h.parents p k i there in record { parent = r.parent; there = r.there; born = r.born; allowed = r.allowed; held = r.held };
  transitions = h.transitions;
}

pub of_stands : (s : Subject) (making : List Path) (look : Lookup) (instances : Instances) → ((q : Path) → fin.get instances q ≡ look q) → Stands s making look → MayStandBut s making instances
of_stands s making look instances e h = of_stands_there s making instances (subst (Stands s making) (λ i q. sym (e q) i) h)

-- ---- a module variable goes on holding its child

pub held_kept : (s : Subject) (p p' i i' : Instance) (c : Path) → p'.body ≡ p.body → p'.module_variables ≡ p.module_variables → i'.body ≡ i.body → IsHeld s p i c → IsHeld s p' i' c
held_kept s p p' i i' c b ms ib h = record {
  by = h.by;
  held = ap (λ (xs : List (Option Path)). slice_get xs h.by) ms ∙ h.held;
  once = λ other k. h.once other (sym (ap (λ (xs : List (Option Path)). slice_get xs other) ms) ∙ k);
  header = ap (λ (n : ℕ). slice_get (headers_of s n) h.by) b ∙ h.header ∙ ap (λ (n : ℕ). Some (child_of s n).header) (sym ib);
}

allowed_kept : (s : Subject) (p p' i i' : ℕ) → p' ≡ p → i' ≡ i → IsTrue (allows (attribute s p) (attribute s i)) → IsTrue (allows (attribute s p') (attribute s i'))
allowed_kept s p p' i i' a b h = ap₂ (λ (x y : ℕ). allows (attribute s x) (attribute s y)) a b ∙ h

-- ---- one changes, and its body and what it holds stay

module _ (s : Subject) (making : List Path) (at : Path) (f : Instance → Instance) (look : Lookup) (l : Stands s making look)
    (body : (r : Instance) → (f r).body ≡ r.body) (holding : (r : Instance) → (f r).module_variables ≡ r.module_variables) (births : (r : Instance) → r.births ≤ (f r).births)
    (fits : (r : Instance) (b : BodyAlone) → look at ≡ Some r → subject.body s r.body ≡ Some b → IsOfBodyBut s (Contains making at) b r → IsOfBodyBut s (Contains making at) b (f r)) where
  abbrev Kept : Path → Instance → Instance → Type 0
  Kept q r t = (t ≡ r) ⊎ ((q ≡ at) × (t ≡ f r))

  kept_body : (q : Path) (r t : Instance) → Kept q r t → t.body ≡ r.body
  kept_body q r t (inl e) = ap (λ (x : Instance). x.body) e
  kept_body q r t (inr e) = ap (λ (x : Instance). x.body) e.1 ∙ body r

  kept_holding : (q : Path) (r t : Instance) → Kept q r t → t.module_variables ≡ r.module_variables
  kept_holding q r t (inl e) = ap (λ (x : Instance). x.module_variables) e
  kept_holding q r t (inr e) = ap (λ (x : Instance). x.module_variables) e.1 ∙ holding r

  kept_births : (q : Path) (r t : Instance) → Kept q r t → (k : ℕ) → k ≤ r.births → k ≤ t.births
  kept_births q r t (inl e) k h = subst (λ (x : Instance). k ≤ x.births) (sym e) h
  kept_births q r t (inr e) k h = subst (λ (x : Instance). k ≤ x.births) (sym e.1) (let more = births r in omega (arith, h, more))

  kept_fits : (q : Path) (r t : Instance) (b : BodyAlone) → Kept q r t → look q ≡ Some r → subject.body s r.body ≡ Some b → IsOfBodyBut s (Contains making q) b r → IsOfBodyBut s (Contains making q) b t
  kept_fits q r t b (inl e) there is h = subst (IsOfBodyBut s (Contains making q) b) (sym e) h
  kept_fits q r t b (inr e) there is h = subst (IsOfBodyBut s (Contains making q) b) (sym e.1)
      (subst (λ (w : Path). IsOfBodyBut s (Contains making w) b (f r)) (sym e.0) (fits r b (sym (ap look e.0) ∙ there) is (subst (λ (w : Path). IsOfBodyBut s (Contains making w) b r) e.0 h)))

  pub stands_changed : Stands s making (changed_at at f look)
  stands_changed = record {
    bodies = λ p t h.
        let was = changed_was at f look p t h in
        let x = l.bodies p was.0 was.1 in
        (x.0, ap (subject.body s) (kept_body p was.0 t was.2) ∙ x.1, kept_fits p was.0 t x.0 was.2 was.1 x.1 x.2);
    holds = λ p t m c h held.
        let was = changed_was at f look p t h in
        let x = l.holds p was.0 m c was.1 (sym (ap (λ (xs : List (Option Path)). slice_get xs m) (kept_holding p was.0 t was.2)) ∙ held) in
        let now = changed_is at f look c x.1 x.3 in
        (x.0, now.0, x.2, now.1);
    parents = λ p k t h.
        let was = changed_was at f look (child p k) t h in
        let r = l.parents p k was.0 was.1 in
        let now = changed_is at f look p r.parent r.there in
        record {
          parent = now.0;
          there = now.1;
          born = kept_births p r.parent now.0 now.2 k r.born;
          allowed = allowed_kept s r.parent.body now.0.body was.0.body t.body (kept_body p r.parent now.0 now.2) (kept_body (child p k) was.0 t was.2) r.allowed;
          held = elim r.held [
            | inl c ↦ inl c
            | inr x ↦ inr (held_kept s r.parent now.0 was.0 t (child p k) (kept_body p r.parent now.0 now.2) (kept_holding p r.parent now.0 now.2) (kept_body (child p k) was.0 t was.2) x)
          ];
        };
    transitions = λ p t h.
        let was = changed_was at f look p t h in
        ap (may_have_transitions s) (kept_body p was.0 t was.2) ∙ l.transitions p was.0 was.1;
  }

-- ---- a child is made

more_making : (s : Subject) (c p : Path) (making : List Path) (b : BodyAlone) (i : Instance) → IsOfBodyBut s (Contains making p) b i → IsOfBodyBut s (Contains (c ∷ making) p) b i
more_making s c p making b i h = record { variables = h.variables; module_variables = h.module_variables; state = elim h.state [ inl x ↦ inl (in_tail Path p c making x.0, x.1) | inr x ↦ inr x ] }

module _ (s : Subject) (making : List Path) (at : Path) (look : Lookup) (l : Stands s making look) (q : Instance) (here : look at ≡ Some q) where
  abbrev pub new : Path
  new = child at (suc q.births)

  pub not_yet : (c : Instance) → look new ≡ Some c → ⊥
  not_yet c h =
      let r = l.parents at (suc q.births) c h in
      let is : r.parent ≡ q = some_is r.parent q (look at) r.there here in
      let b : r.parent.births ≡ q.births = ap (λ (x : Instance). x.births) is in
      let n = r.born in
      absurd (omega (arith, b, n))

  pub none_holds_new : (y : ℕ) → slice_get q.module_variables y ≡ Some (Some new) → ⊥
  none_holds_new y h = let x = l.holds at q y new here h in not_yet x.1 x.3

  module _ (n : Instance) (b : BodyAlone) (is_body : subject.body s n.body ≡ Some b) (fits : IsOfBodyBut s (Contains (new ∷ making) new) b n)
      (empty : (m : ℕ) (c : Path) → slice_get n.module_variables m ≡ Some (Some c) → ⊥) (allowed : IsTrue (allows (attribute s q.body) (attribute s n.body))) (having : IsTrue (may_have_transitions s n.body)) where
    abbrev pub made : Lookup
    made = created_at at (suc q.births) n look

    abbrev counted : Lookup
    counted = changed_at at born look

    counted_stands : Stands s making counted
    counted_stands = stands_changed s making at born look l (λ r. refl) (λ r. refl) (λ r. omega arith) (λ r b there is h. record { variables = h.variables; state = h.state; module_variables = h.module_variables })

    counted_here : counted at ≡ Some (born q)
    counted_here = changed_here at born look ∙ ap (option_map born) here

    made_was : (p : Path) (t : Instance) → made p ≡ Some t → ((p ≡ new) × (t ≡ n)) ⊎ (counted p ≡ Some t)
    made_was p t h = by (same p new) refl h
      where
        by : (x : Bool) → same p (child at (suc q.births)) ≡ x → cond x (Some n) (changed_at at born look p) ≡ Some t → ((p ≡ child at (suc q.births)) × (t ≡ n)) ⊎ (changed_at at born look p ≡ Some t)
        by true e g = let is : n ≡ t = cc in inl (same_is p (child at (suc q.births)) e, sym is)
        by false e g = inr g

    pub made_exactly : (p : Path) (t : Instance) → (p ≡ new → ⊥) → counted p ≡ Some t → made p ≡ Some t
    made_exactly p t x h = ap (λ (c : Bool). cond c (Some n) (changed_at at born look p)) (not_true (same p new) (λ e. x (same_is p new e))) ∙ h

    pub made_new : made new ≡ Some n
    made_new = ap (λ (c : Bool). cond c (Some n) (changed_at at born look new)) (same_itself new)

    not_new : (p : Path) (t : Instance) → counted p ≡ Some t → p ≡ new → ⊥
    not_new p t h e = let was = changed_was at born look p t h in not_yet was.0 (sym (ap look e) ∙ was.1)

    parent_not_new : (p : Path) (j : ℕ) (t : Instance) → counted (child p j) ≡ Some t → p ≡ new → ⊥
    parent_not_new p j t h e =
        let was = changed_was at born look (child p j) t h in
        let r = l.parents p j was.0 was.1 in
        not_yet r.parent (sym (ap look e) ∙ r.there)

    pub at_not_new : at ≡ new → ⊥
    at_not_new e = not_below_itself at (suc q.births) (subst (λ (p : Path). is_inside p at ≡ true) e (inside_itself at))

    pub made_here : made at ≡ Some (born q)
    made_here = made_exactly at (born q) at_not_new counted_here

    pub stands_made : Stands s (new ∷ making) made
    stands_made = record {
      bodies = λ p t h. elim (made_was p t h) [
        | inl e ↦ (b, ap (λ (x : Instance). subject.body s x.body) e.1 ∙ is_body, subst (λ (x : Instance). IsOfBodyBut s (Contains (new ∷ making) p) b x) (sym e.1) (subst (λ (w : Path). IsOfBodyBut s (Contains (new ∷ making) w) b n) (sym e.0) fits))
        | inr e ↦ let x = counted_stands.bodies p t e in (x.0, x.1, more_making s new p making x.0 t x.2)
      ];
      holds = λ p t m c h held. elim (made_was p t h) [
        | inl e ↦ absurd (empty m c (sym (ap (λ (x : Instance). slice_get x.module_variables m) e.1) ∙ held))
        | inr e ↦ let x = counted_stands.holds p t m c e held in (x.0, x.1, x.2, made_exactly c x.1 (not_new c x.1 x.3) x.3)
      ];
      parents = λ p k t h. elim (made_was (child p k) t h) [
        | inl e ↦ let is = child_injective p at k (suc q.births) e.0 in
            record {
              parent = born q;
              there = ap made is.0 ∙ made_here;
              born = let n = is.1 in omega (arith, n);
              allowed = allowed_kept s q.body q.body n.body t.body refl (ap (λ (x : Instance). x.body) e.1) allowed;
              held = inl (subst (λ (w : Path). Contains (new ∷ making) w) (sym e.0) (in_head Path new making));
            }
        | inr e ↦ let r = counted_stands.parents p k t e in
            record {
              parent = r.parent;
              there = made_exactly p r.parent (parent_not_new p k t e) r.there;
              born = r.born;
              allowed = r.allowed;
              held = elim r.held [ inl c ↦ inl (in_tail Path (child p k) new making c) | inr x ↦ inr x ];
            }
      ];
      transitions = λ p t h. elim (made_was p t h) [
        | inl e ↦ ap (λ (x : Instance). may_have_transitions s x.body) e.1 ∙ having
        | inr e ↦ counted_stands.transitions p t e
      ];
    }

pub length_set : (xs : List (Option Path)) (y : ℕ) (v : Option Path) → length (slice_set xs y v) ≡ length xs
length_set [] y v = refl
length_set (o ∷ xs) zero v = refl
length_set (o ∷ xs) (suc y) v = ap (λ (n : ℕ). suc n) (length_set xs y v)

-- ---- the child is held

module _ (s : Subject) (making : List Path) (at : Path) (x k : ℕ) (look : Lookup) (l : Stands s (child at k ∷ making) look) (q : Instance) (here : look at ≡ Some q)
    (free : (y : ℕ) → slice_get q.module_variables y ≡ Some (Some (child at k)) → ⊥) (empty : slice_get q.module_variables x ≡ Some None)
    (c : Instance) (child_there : look (child at k) ≡ Some c) (settled : (b : BodyAlone) → subject.body s c.body ≡ Some b → IsStateOf (length (states_in b)) c.state)
    (header : slice_get (headers_of s q.body) x ≡ Some (child_of s c.body).header) where
  abbrev pub filled : Instance → Instance
  filled i = record i { module_variables = slice_set i.module_variables x (Some (child at k)) }

  abbrev after : Lookup
  after = changed_at at filled look

  filled_was : (p : Path) (t : Instance) → after p ≡ Some t → ((p ≡ at) × (t ≡ filled q)) ⊎ ((p ≡ at → ⊥) × (look p ≡ Some t))
  filled_was p t h = by (same p at) refl h
    where
      by : (b : Bool) → same p at ≡ b → cond b (option_map filled (look at)) (look p) ≡ Some t → ((p ≡ at) × (t ≡ filled q)) ⊎ ((p ≡ at → ⊥) × (look p ≡ Some t))
      by true e g = inl (same_is p at e, some_is t (filled q) (option_map filled (look at)) g (ap (option_map filled) here))
      by false e g = inr ((λ w. not_both (same p at) (ap (λ (z : Path). same z at) w ∙ same_itself at) e), g)

  after_here : after at ≡ Some (filled q)
  after_here = changed_here at filled look ∙ ap (option_map filled) here

  still : (p : Path) (r : Instance) → look p ≡ Some r → (t : Instance) × (after p ≡ Some t) × (t.body ≡ r.body)
  still p r h = let now = changed_is at filled look p r h in (now.0, now.1, elim now.2 [ inl e ↦ ap (λ (z : Instance). z.body) e | inr e ↦ ap (λ (z : Instance). z.body) e.1 ])

  -- what another module variable holds it held
  slot_was : (y : ℕ) (d : Path) → slice_get (slice_set q.module_variables x (Some (child at k))) y ≡ Some (Some d) → ((y ≡ x) × (d ≡ child at k)) ⊎ ((y ≡ x → ⊥) × (slice_get q.module_variables y ≡ Some (Some d)))
  slot_was y d h = by (nat_eq y x) refl
    where
      by : (b : Bool) → nat_eq y x ≡ b → ((y ≡ x) × (d ≡ child at k)) ⊎ ((y ≡ x → ⊥) × (slice_get q.module_variables y ≡ Some (Some d)))
      by true e =
          let yx = same_number y x e in
          let was = set_was (Option Path) q.module_variables x (Some (child at k)) (Some d) (subst (λ (z : ℕ). slice_get (slice_set q.module_variables x (Some (child at k))) z ≡ Some (Some d)) yx h) in
          inl (yx, let f : ◌≡◌ {A = Option Path} (Some (child at k)) (Some d) = was in cc)
      by false e =
          let n : y ≡ x → ⊥ = λ w. not_both (nat_eq y x) (ap (λ (z : ℕ). nat_eq z x) w ∙ number_is x) e in
          inr (n, sym (set_other (Option Path) q.module_variables x y (Some (child at k)) n) ∙ h)

  now_held : (t : Instance) → t.body ≡ c.body → IsHeld s (filled q) t (child at k)
  now_held t same_body = record {
    by = x;
    held = set_same (Option Path) q.module_variables x (Some (child at k)) None empty;
    once = λ other h. elim (slot_was other (child at k) h) [ inl e ↦ e.0 | inr e ↦ absurd (free other e.1) ];
    header = header ∙ ap (λ (n : ℕ). Some (child_of s n).header) (sym same_body);
  }

  -- another child is held as before
  other_held : (i t : Instance) (d : Path) → (d ≡ child at k → ⊥) → t.body ≡ i.body → IsHeld s q i d → IsHeld s (filled q) t d
  other_held i t d different same_body h =
      let apart : h.by ≡ x → ⊥ = λ e. let f : ◌≡◌ {A = Option (Option Path)} (Some None) (Some (Some d)) = sym empty ∙ sym (ap (slice_get q.module_variables) e) ∙ h.held in absurd (cc) in
      record {
        by = h.by;
        held = set_other (Option Path) q.module_variables x h.by (Some (child at k)) apart ∙ h.held;
        once = λ other g. elim (slot_was other d g) [ inl e ↦ absurd (different e.1) | inr e ↦ h.once other e.1 ];
        header = h.header ∙ ap (λ (n : ℕ). Some (child_of s n).header) (sym same_body);
      }

  fewer : (p : Path) (b : BodyAlone) (i : Instance) → look p ≡ Some i → subject.body s i.body ≡ Some b → IsOfBodyBut s (Contains (child at k ∷ making) p) b i → IsOfBodyBut s (Contains making p) b i
  fewer p b i there is h = record {
    variables = h.variables;
    module_variables = h.module_variables;
    state = elim h.state [
      | inl y ↦ elim (in_cases Path p (child at k) making y.0) [
        | inl e ↦ inr (let same_i : i ≡ c = some_is i c (look (child at k)) (sym (ap look e) ∙ there) child_there in
            subst (λ (z : Instance). IsStateOf (length (states_in b)) z.state) (sym same_i) (settled b (sym (ap (λ (z : Instance). subject.body s z.body) same_i) ∙ is)))
        | inr d ↦ inl (d, y.1)
      ]
      | inr y ↦ inr y
    ];
  }

  parent_filled : (p : Path) (j : ℕ) (t : Instance) → after (child p j) ≡ Some t → (i : Instance) → look (child p j) ≡ Some i → t.body ≡ i.body → HasParentAt s making after p j t
  parent_filled p j t h i there same_body = by (same p at) refl (same (child p j) (child at k)) refl
    where
      r : HasParentAt s (child at k ∷ making) look p j i
      r = l.parents p j i there

      now : (u : Instance) × (after p ≡ Some u) × (u.body ≡ r.parent.body)
      now = still p r.parent r.there

      by : (b : Bool) → same p at ≡ b → (d : Bool) → same (child p j) (child at k) ≡ d → HasParentAt s making after p j t
      by true e true g =
          let pa = same_is p at e in
          let ck = same_is (child p j) (child at k) g in
          let is_q : r.parent ≡ q = some_is r.parent q (look p) r.there (ap look pa ∙ here) in
          record {
            parent = filled q;
            there = ap after pa ∙ after_here;
            born = subst (λ (z : Instance). j ≤ z.births) is_q r.born;
            allowed = allowed_kept s r.parent.body q.body i.body t.body (ap (λ (z : Instance). z.body) (sym is_q)) same_body r.allowed;
            held = inr (subst (λ (w : Path). IsHeld s (filled q) t w) (sym ck) (now_held t (same_body ∙ ap (λ (z : Instance). z.body) (some_is i c (look (child at k)) (sym (ap look ck) ∙ there) child_there))));
          }
      by true e false g =
          let pa = same_is p at e in
          let is_q : r.parent ≡ q = some_is r.parent q (look p) r.there (ap look pa ∙ here) in
          let different : child p j ≡ child at k → ⊥ = λ w. not_both (same (child p j) (child at k)) (ap (λ (z : Path). same z (child at k)) w ∙ same_itself (child at k)) g in
          record {
            parent = filled q;
            there = ap after pa ∙ after_here;
            born = subst (λ (z : Instance). j ≤ z.births) is_q r.born;
            allowed = allowed_kept s r.parent.body q.body i.body t.body (ap (λ (z : Instance). z.body) (sym is_q)) same_body r.allowed;
            held = elim r.held [
              | inl y ↦ elim (in_cases Path (child p j) (child at k) making y) [ inl w ↦ absurd (different w) | inr d ↦ inl d ]
              | inr y ↦ inr (other_held i t (child p j) different same_body (subst (λ (z : Instance). IsHeld s z i (child p j)) is_q y))
            ];
          }
      by false e d g =
          let different : child p j ≡ child at k → ⊥ = λ w. not_both (same p at) (ap (λ (z : Path). same z at) (child_injective p at j k w).0 ∙ same_itself at) e in
          let same_parent : after p ≡ look p = ap (λ (z : Bool). cond z (option_map filled (look at)) (look p)) e in
          record {
            parent = r.parent;
            there = same_parent ∙ r.there;
            born = r.born;
            allowed = allowed_kept s r.parent.body r.parent.body i.body t.body refl same_body r.allowed;
            held = elim r.held [
              | inl y ↦ elim (in_cases Path (child p j) (child at k) making y) [ inl w ↦ absurd (different w) | inr d ↦ inl d ]
              | inr y ↦ inr (held_kept s r.parent r.parent i t (child p j) refl refl same_body y)
            ];
          }

  pub stands_held : Stands s making after
  stands_held = record {
    bodies = λ p t h. elim (filled_was p t h) [
      | inl e ↦ let was = l.bodies at q here in
          let f = fewer at was.0 q here was.1 was.2 in (
            was.0,
            ap (λ (z : Instance). subject.body s z.body) e.1 ∙ was.1,
            subst (λ (z : Instance). IsOfBodyBut s (Contains making p) was.0 z) (sym e.1) (subst (λ (w : Path). IsOfBodyBut s (Contains making w) was.0 (filled q)) (sym e.0)
                (record { variables = f.variables; state = f.state; module_variables = length_set q.module_variables x (Some (child at k)) ∙ f.module_variables })),
          )
      | inr e ↦ let was = l.bodies p t e.1 in (was.0, was.1, fewer p was.0 t e.1 was.1 was.2)
    ];
    holds = λ p t m d h held. elim (filled_was p t h) [
      | inl e ↦ elim (slot_was m d (sym (ap (λ (z : Instance). slice_get z.module_variables m) e.1) ∙ held)) [
        | inl w ↦ let now = still (child at k) c child_there in (k, now.0, w.1 ∙ ap (λ (z : Path). child z k) (sym e.0), ap after w.1 ∙ now.1)
        | inr w ↦ let was = l.holds at q m d here w.1 in let now = still d was.1 was.3 in (was.0, now.0, was.2 ∙ ap (λ (z : Path). child z was.0) (sym e.0), now.1)
      ]
      | inr e ↦ let was = l.holds p t m d e.1 held in let now = still d was.1 was.3 in (was.0, now.0, was.2, now.1)
    ];
    parents = λ p j t h.
        let was = changed_was at filled look (child p j) t h in
        parent_filled p j t h was.0 was.1 (elim was.2 [ inl e ↦ ap (λ (z : Instance). z.body) e | inr e ↦ ap (λ (z : Instance). z.body) e.1 ]);
    transitions = λ p t h. elim (filled_was p t h) [
      | inl e ↦ ap (λ (z : Instance). may_have_transitions s z.body) e.1 ∙ l.transitions at q here
      | inr e ↦ l.transitions p t e.1
    ];
  }
