-- Instances go on standing as they may where a child goes with all below it and the module variable that held it is emptied, and where one that was made has its state.
use Rattle.std.proofs.Common.{◌≡◌, ◌⊎◌, ℕ, ◌≤◌, Bool, true, false, List, [], ◌∷◌, length, Option, Some, None, cond, refl, sym, ap, subst, ◌∙◌, inl, inr}
use Rattle.std.specs.Prelude.{IsTrue, nat_eq, slice_get, slice_set, Contains}
use Rattle.std.specs.Option.{option_map}
use Rattle.estelle_tree.specs.Paths.{Path, child, is_inside}
use Rattle.estelle_model.specs.Core.{Instance}
use Rattle.estelle_model.specs.Bodies.{BodyAlone, states_in}
use Rattle.estelle_model.specs.Subject.{Subject, headers_of, child_of}
use Rattle.estelle_model.specs.Subject as subject
use Rattle.estelle_model.specs.Attributes.{attribute, allows, may_have_transitions}
use Rattle.estelle_model_legality.specs.Instances.{IsStateOf, IsOfBodyBut, IsHeld}
use Rattle.estelle_model_legality.proofs.Lists.{number_is, same_number, in_none, in_cases, not_true, not_both, some_is, set_other, set_was}
use Rattle.estelle_model_legality.proofs.Ways.{child_injective, child_not_root, inside_itself, inside_child, inside_last, not_below_itself}
use Rattle.estelle_model_legality.proofs.Lookups.{same, same_is, same_itself, Lookup, changed_at, removed_at, changed_here, removed_was, removed_is}
use Rattle.estelle_model_legality.proofs.Standing.{Stands, HasParentAt, length_set}

module _ (s : Subject) (making : List Path) (at : Path) (x k : ℕ) (look : Lookup) (l : Stands s making look) (q : Instance) (here : look at ≡ Some q)
    (holding : slice_get q.module_variables x ≡ Some (Some (child at k))) (finished : Contains making (child at k) → ⊥) where
  abbrev pub emptied : Instance → Instance
  emptied i = record i { module_variables = slice_set i.module_variables x None }

  abbrev less : Lookup
  less = removed_at (child at k) look

  abbrev after : Lookup
  after = changed_at at emptied less

  at_stays : is_inside (child at k) at ≡ false
  at_stays = not_true (is_inside (child at k) at) (not_below_itself at k)

  less_here : less at ≡ Some q
  less_here = removed_is (child at k) look at at_stays ∙ here

  after_here : after at ≡ Some (emptied q)
  after_here = changed_here at emptied less ∙ ap (option_map emptied) less_here

  elsewhere : (p : Path) → (p ≡ at → ⊥) → after p ≡ less p
  elsewhere p n = ap (λ (z : Bool). cond z (option_map emptied (less at)) (less p)) (not_true (same p at) (λ e. n (same_is p at e)))

  stays : (p : Path) → (p ≡ at → ⊥) → is_inside (child at k) p ≡ false → after p ≡ look p
  stays p n o = elsewhere p n ∙ removed_is (child at k) look p o

  was : (p : Path) (t : Instance) → after p ≡ Some t → ((p ≡ at) × (t ≡ emptied q)) ⊎ ((p ≡ at → ⊥) × (is_inside (child at k) p ≡ false) × (look p ≡ Some t))
  was p t h = by (same p at) refl
    where
      by : (b : Bool) → same p at ≡ b → ((p ≡ at) × (t ≡ emptied q)) ⊎ ((p ≡ at → ⊥) × (is_inside (child at k) p ≡ false) × (look p ≡ Some t))
      by true e = let pa = same_is p at e in inl (pa, some_is t (emptied q) (after at) (sym (ap after pa) ∙ h) after_here)
      by false e =
          let n : p ≡ at → ⊥ = λ w. not_both (same p at) (ap (λ (z : Path). same z at) w ∙ same_itself at) e in
          let r = removed_was (child at k) look p t (sym (elsewhere p n) ∙ h) in
          inr (n, r.0, r.1)

  -- a child that stays is another child
  other_child : (p : Path) (j : ℕ) → is_inside (child at k) (child p j) ≡ false → child p j ≡ child at k → ⊥
  other_child p j o e = not_both (is_inside (child at k) (child p j)) (subst (λ (z : Path). is_inside (child at k) z ≡ true) (sym e) (inside_itself (child at k))) o

  parent_stays : (p : Path) (j : ℕ) → is_inside (child at k) (child p j) ≡ false → is_inside (child at k) p ≡ false
  parent_stays p j o = not_true (is_inside (child at k) p) (λ e. not_both (is_inside (child at k) (child p j)) (inside_child (child at k) p j e) o)

  child_stays : (p : Path) (j : ℕ) → is_inside (child at k) p ≡ false → (child p j ≡ child at k → ⊥) → is_inside (child at k) (child p j) ≡ false
  child_stays p j o n = not_true (is_inside (child at k) (child p j)) (λ e. elim (inside_last (child at k) p j e) [ inl i ↦ not_both (is_inside (child at k) p) i o | inr w ↦ n (sym w) ])

  child_not_at : (p : Path) (j : ℕ) → child p j ≡ at → is_inside (child at k) p ≡ false
  child_not_at p j e = not_true (is_inside (child at k) p) (λ i. not_below_itself at k (subst (λ (z : Path). is_inside (child at k) z ≡ true) e (inside_child (child at k) p j i)))

  slot_was : (y : ℕ) (d : Path) → slice_get (slice_set q.module_variables x None) y ≡ Some (Some d) → (y ≡ x → ⊥) × (slice_get q.module_variables y ≡ Some (Some d))
  slot_was y d h = by (nat_eq y x) refl
    where
      by : (b : Bool) → nat_eq y x ≡ b → (y ≡ x → ⊥) × (slice_get q.module_variables y ≡ Some (Some d))
      by true e =
          let gone = set_was (Option Path) q.module_variables x None (Some d) (subst (λ (z : ℕ). slice_get (slice_set q.module_variables x None) z ≡ Some (Some d)) (same_number y x e) h) in
          absurd (let f : ◌≡◌ {A = Option Path} None (Some d) = gone in cc)
      by false e =
          let n : y ≡ x → ⊥ = λ w. not_both (nat_eq y x) (ap (λ (z : ℕ). nat_eq z x) w ∙ number_is x) e in
          (n, sym (set_other (Option Path) q.module_variables x y None n) ∙ h)

  only_one : (c : Instance) (y : ℕ) → look (child at k) ≡ Some c → slice_get q.module_variables y ≡ Some (Some (child at k)) → y ≡ x
  only_one c y there h =
      let r = l.parents at k c there in
      let is_q : r.parent ≡ q = some_is r.parent q (look at) r.there here in
      elim r.held [
        | inl m ↦ absurd (finished m)
        | inr held ↦ let g = subst (λ (z : Instance). IsHeld s z c (child at k)) is_q held in g.once y h ∙ sym (g.once x holding)
      ]

  still_held : (i : Instance) (d : Path) → (d ≡ child at k → ⊥) → IsHeld s q i d → IsHeld s (emptied q) i d
  still_held i d different h =
      let apart : h.by ≡ x → ⊥ = λ e. let f : ◌≡◌ {A = Option (Option Path)} (Some (Some (child at k))) (Some (Some d)) = sym holding ∙ sym (ap (slice_get q.module_variables) e) ∙ h.held in different (cc) in
      record {
        by = h.by;
        held = set_other (Option Path) q.module_variables x h.by None apart ∙ h.held;
        once = λ other g. h.once other (slot_was other d g).1;
        header = h.header;
      }

  parent_after : (p : Path) (j : ℕ) (t : Instance) → is_inside (child at k) (child p j) ≡ false → look (child p j) ≡ Some t → HasParentAt s making after p j t
  parent_after p j t o there = by (same p at) refl
    where
      r : HasParentAt s making look p j t
      r = l.parents p j t there

      by : (b : Bool) → same p at ≡ b → HasParentAt s making after p j t
      by true e =
          let pa = same_is p at e in
          let is_q : r.parent ≡ q = some_is r.parent q (look p) r.there (ap look pa ∙ here) in
          record {
            parent = emptied q;
            there = ap after pa ∙ after_here;
            born = subst (λ (z : Instance). j ≤ z.births) is_q r.born;
            allowed = subst (λ (z : Instance). IsTrue (allows (attribute s z.body) (attribute s t.body))) is_q r.allowed;
            held = elim r.held [ inl m ↦ inl m | inr h ↦ inr (still_held t (child p j) (other_child p j o) (subst (λ (z : Instance). IsHeld s z t (child p j)) is_q h)) ];
          }
      by false e =
          let n : p ≡ at → ⊥ = λ w. not_both (same p at) (ap (λ (z : Path). same z at) w ∙ same_itself at) e in
          record { parent = r.parent; there = stays p n (parent_stays p j o) ∙ r.there; born = r.born; allowed = r.allowed; held = r.held }

  now_there : (p : Path) (i : Instance) → is_inside (child at k) p ≡ false → look p ≡ Some i → (t : Instance) × (after p ≡ Some t)
  now_there p i o there = by (same p at) refl
    where
      by : (b : Bool) → same p at ≡ b → (t : Instance) × (after p ≡ Some t)
      by true e = (emptied q, ap after (same_is p at e) ∙ after_here)
      by false e = (i, stays p (λ w. not_both (same p at) (ap (λ (z : Path). same z at) w ∙ same_itself at) e) o ∙ there)

  pub stands_released : Stands s making after
  stands_released = record {
    bodies = λ p t h. elim (was p t h) [
      | inl e ↦ let b = l.bodies at q here in (
        b.0,
        ap (λ (z : Instance). subject.body s z.body) e.1 ∙ b.1,
        subst (λ (z : Instance). IsOfBodyBut s (Contains making p) b.0 z) (sym e.1) (subst (λ (w : Path). IsOfBodyBut s (Contains making w) b.0 (emptied q)) (sym e.0)
            (record { variables = b.2.variables; state = b.2.state; module_variables = length_set q.module_variables x None ∙ b.2.module_variables })),
      )
      | inr e ↦ l.bodies p t e.2
    ];
    holds = λ p t m d h held. elim (was p t h) [
      | inl e ↦
          let slot = slot_was m d (sym (ap (λ (z : Instance). slice_get z.module_variables m) e.1) ∙ held) in
          let c = l.holds at q m d here slot.1 in
          let different : child at c.0 ≡ child at k → ⊥ = λ w.
          let dk : d ≡ child at k = c.2 ∙ w in
          slot.0 (only_one c.1 m (sym (ap look dk) ∙ c.3) (slot.1 ∙ ap (λ (z : Path). Some (Some z)) dk)) in
          let now = now_there d c.1 (ap (is_inside (child at k)) c.2 ∙ child_stays at c.0 at_stays different) c.3 in
          (c.0, now.0, c.2 ∙ ap (λ (z : Path). child z c.0) (sym e.0), now.1)
      | inr e ↦
          let c = l.holds p t m d e.2 held in
          let different : child p c.0 ≡ child at k → ⊥ = λ w. e.0 (child_injective p at c.0 k w).0 in
          let now = now_there d c.1 (ap (is_inside (child at k)) c.2 ∙ child_stays p c.0 e.1 different) c.3 in
          (c.0, now.0, c.2, now.1)
    ];
    parents = λ p j t h. elim (was (child p j) t h) [
      | inl e ↦
          let r = parent_after p j q (ap (is_inside (child at k)) e.0 ∙ at_stays) (ap look e.0 ∙ here) in
          record {
            parent = r.parent;
            there = r.there;
            born = r.born;
            allowed = subst (λ (z : Instance). IsTrue (allows (attribute s r.parent.body) (attribute s z.body))) (sym e.1) r.allowed;
            held = elim r.held [ inl m ↦ inl m | inr g ↦ inr (record { by = g.by; held = g.held; once = g.once; header = g.header ∙ ap (λ (z : Instance). Some (child_of s z.body).header) (sym e.1) }) ];
          }
      | inr e ↦ parent_after p j t e.1 e.2
    ];
    transitions = λ p t h. elim (was p t h) [
      | inl e ↦ ap (λ (z : Instance). may_have_transitions s z.body) e.1 ∙ l.transitions at q here
      | inr e ↦ l.transitions p t e.2
    ];
  }

-- ---- the specification's own instance has its state

pub root_settled : (s : Subject) (look : Lookup) → Stands s ([] ∷ []) look → ((i : Instance) (b : BodyAlone) → look [] ≡ Some i → subject.body s i.body ≡ Some b → IsStateOf (length (states_in b)) i.state) → Stands s [] look
root_settled s look l settled = record {
  bodies = λ p i there. let b = l.bodies p i there in (
    b.0,
    b.1,
    record {
      variables = b.2.variables;
      module_variables = b.2.module_variables;
      state = elim b.2.state [
        | inl m ↦ elim (in_cases Path p [] [] m.0) [ inl e ↦ inr (settled i b.0 (sym (ap look e) ∙ there) b.1) | inr n ↦ absurd (in_none Path p n) ]
        | inr y ↦ inr y
      ];
    },
  );
  holds = l.holds;
  parents = λ p k i there. let r = l.parents p k i there in record {
    parent = r.parent;
    there = r.there;
    born = r.born;
    allowed = r.allowed;
    held = elim r.held [
      | inl m ↦ elim (in_cases Path (child p k) [] [] m) [ inl e ↦ absurd (child_not_root p k e) | inr n ↦ absurd (in_none Path (child p k) n) ]
      | inr h ↦ inr h
    ];
  };
  transitions = l.transitions;
}
