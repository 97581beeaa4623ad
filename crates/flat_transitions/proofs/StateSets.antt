-- One more state set that is kept.
use Rattle.std.proofs.Common.{◌≡◌, ◌∙◌, ◌⊎◌, inl, inr, ℕ, Bool, true, false, nat_eq, cond, List, [], ◌∷◌, Some, None, refl, ap, sym, arith}
use Rattle.std.specs.Prelude.{if◌then◌else◌}
use Rattle.std.specs.Map.{lookup}
use Rattle.std.proofs.lemmas.Bool.Decides.{nat_tests}
use Rattle.indexmap.specs.IndexMap.{insert_entry}
use Rattle.estelle_model.specs.declared.meaning.Meaning.TheVariants.{StateSet}
use Rattle.estelle_model.specs.Names.{at_place}
use Rattle.meaning_table.specs.Known.{Known}
use Rattle.flat_transitions.specs.StateSets.{AreDeclared}

same_place : (p q : ℕ) → nat_eq p q ≡ true → p ≡ q
same_place p q h = grind (arith, nat_tests)

module _ {V : Type 0} (at q : ℕ) (v s : V) where
  abbrev Found : List (ℕ × V) → Type 0
  Found es = ((q ≡ at) × (s ≡ v)) ⊎ (lookup (nat_eq q) es ≡ Some s)

  some_same : (a b : V) → Some a ≡ Some b → b ≡ a
  some_same a b e = cc

  -- of one entry and those behind it, by whether the place is that of the entry
  at_new : (t : Bool) → nat_eq q at ≡ t → cond t (Some v) None ≡ Some s → Found []
  at_new true h e = inl (same_place q at h, some_same v s e)
  at_new false h e = absurd (cc)

  at_same : (e : ℕ × V) (es : List (ℕ × V)) → at ≡ e.0 → (t : Bool) → nat_eq q e.0 ≡ t → cond t (Some v) (lookup (nat_eq q) es) ≡ Some s → Found (e ∷ es)
  at_same e es is true h f = inl (same_place q e.0 h ∙ sym is, some_same v s f)
  at_same e es is false h f = inr (ap (λ b. cond b (Some e.1) (lookup (nat_eq q) es)) h ∙ f)

  at_other : (e : ℕ × V) (es fs : List (ℕ × V)) → (lookup (nat_eq q) fs ≡ Some s → Found es) → (t : Bool) → nat_eq q e.0 ≡ t → cond t (Some e.1) (lookup (nat_eq q) fs) ≡ Some s → Found (e ∷ es)
  at_other e es fs more true h f = inr (ap (λ b. cond b (Some e.1) (lookup (nat_eq q) es)) h ∙ f)
  at_other e es fs more false h f = elim (more f) [ inl w ↦ inl w | inr k ↦ inr (ap (λ b. cond b (Some e.1) (lookup (nat_eq q) es)) h ∙ k) ]

  found_there : (es : List (ℕ × V)) → lookup (nat_eq q) (insert_entry nat_eq es at v) ≡ Some s → Found es
  found_there [] f = at_new (nat_eq q at) refl f
  found_there (e ∷ es) f = by (λ g. found_there es g) (nat_eq at e.0) refl f
    where
      by : (lookup (nat_eq q) (insert_entry nat_eq es at v) ≡ Some s → Found es) → (t : Bool) → nat_eq at e.0 ≡ t → lookup (nat_eq q) (if t then (e.0, v) ∷ es else e ∷ insert_entry nat_eq es at v) ≡ Some s → Found (e ∷ es)
      by more true h g = at_same e es (same_place at e.0 h) (nat_eq q e.0) refl g
      by more false h g = at_other e es (insert_entry nat_eq es at v) more (nat_eq q e.0) refl g

pub one_more_declared : (known : Known) (es fs : List (ℕ × List ℕ)) (at : ℕ) (states : List ℕ) → AreDeclared known es → at_place known.declared at ≡ StateSet states → fs ≡ insert_entry nat_eq es at states → AreDeclared known fs
one_more_declared known es fs at states are there is q s f =
    elim (found_there at q states s es (sym (ap (lookup (nat_eq q)) is) ∙ f)) [
      | inl w ↦ (ap (at_place known.declared) w.0 ∙ there ∙ ap StateSet (sym w.1))
      | inr k ↦ are q s k
    ]
