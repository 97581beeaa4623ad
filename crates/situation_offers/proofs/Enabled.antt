-- Whether some transition is enabled: of an instance, one transition after another, and of instances, one after another.
use Rattle.std.proofs.Common.{◌≡◌, ◌↔◌, ◌⊎◌, ℕ, ◌+◌, ◌<◌, ◌≤◌, Bool, true, false, [], ◌∷◌, length, Some, refl, sym, ap, ◌∙◌, inl, inr, arith}
use Rattle.std.specs.Prelude.{IsTrue}
use Rattle.std.specs.List.{AllByRecursion}
use Rattle.std.specs.FinMap as map
use Rattle.std.proofs.lemmas.Bool.{cases_lt}
use Rattle.estelle_tree.specs.Paths.{Path, is_inside}
use Rattle.estelle_model.specs.declared.job.Guard.{Guard}
use Rattle.estelle_model.specs.declared.job.Guard.TheVariants.{Off}
use Rattle.estelle_model.specs.Core.{Instance}
use Rattle.estelle_model.specs.Subject.{Subject, transitions}
use Rattle.estelle_model.specs.Situation.{Situation}
use Rattle.estelle_model.specs.Firing.{guard}
use Rattle.estelle_model.specs.Delays.{is_on}
use Rattle.transition_select.specs.Blocks.{at_and_below}
use Rattle.transition_select.proofs.Blocks.{below_has}
use Rattle.situation_steps.proofs.Listed.{all_at}
use Rattle.situation_offers.specs.Selections.{EnablesSome, SomeIsEnabled}
use Rattle.situation_offers.proofs.Present.{zero_off, instance_there, within}

not_off : (x : Guard) → is_on x ≡ true → x ≡ Off → ⊥
not_off x on off = let wrong : false ≡ true = sym (ap is_on off) ∙ on in absurd (cc)

inside_root : (p : Path) → is_inside [] p ≡ true
inside_root [] = refl
inside_root (k ∷ p) = refl

module _ (s : Subject) (budget : ℕ) (g : Situation) where
  -- no transition of the instance is enabled
  abbrev pub NoneOf : Path → Type 0
  NoneOf m = (n : ℕ) → is_on (guard s budget g m n) ≡ true → ⊥

  -- none of the first ones is
  abbrev pub NoneTo : Path → ℕ → Type 0
  NoneTo m n = (k : ℕ) → k ≤ n → is_on (guard s budget g m k) ≡ true → ⊥

  -- ---- of an instance

  module _ (m : Path) where
    pub none_first : NoneTo m 0
    none_first k low on = let same : k ≡ 0 = omega arith in not_off (guard s budget g m k) on (ap (guard s budget g m) same ∙ zero_off s budget g m)

    pub none_more : (n : ℕ) (answer : Guard) → NoneTo m n → answer ≡ guard s budget g m (n + 1) → is_on answer ≡ false → NoneTo m (n + 1)
    none_more n answer before is off k low on = by (cases_lt k (n + 1))
      where
        by : (k < n + 1) ⊎ (n + 1 ≤ k) → ⊥
        by (inl less) = before k (omega arith) on
        by (inr last) =
            let same : k ≡ n + 1 = omega arith in
            let wrong : false ≡ true = sym off ∙ ap is_on (is ∙ ap (guard s budget g m) (sym same)) ∙ on in
            absurd (cc)

    pub one_here : (n : ℕ) (answer : Guard) → answer ≡ guard s budget g m n → is_on answer ≡ true → IsTrue true ↔ EnablesSome s budget g m
    one_here n answer is on = (λ true_is. (n, sym (ap is_on is) ∙ on), λ some. refl)

    pub none_here : (i : Instance) → map.get g.core.instances m ≡ Some i → NoneTo m (length (transitions s i.body)) → IsTrue false ↔ EnablesSome s budget g m
    none_here i there none = (λ wrong. absurd (cc), λ some. absurd (none some.0 (within s budget g m some.0 i there (not_off (guard s budget g m some.0) some.1)) some.1))

    pub none_here_of : (b : Bool) → (IsTrue b ↔ EnablesSome s budget g m) → b ≡ false → NoneOf m
    none_here_of b is off n on = let wrong : false ≡ true = sym off ∙ is.1 (n, on) in absurd (cc)

  -- ---- of all instances

  pub one_of_all : (m : Path) (b : Bool) → (IsTrue b ↔ EnablesSome s budget g m) → b ≡ true → IsTrue true ↔ SomeIsEnabled s budget g
  one_of_all m b is on = (λ true_is. (m, is.0 on), λ some. refl)

  pub none_at_all : AllByRecursion NoneOf (at_and_below g []) → IsTrue false ↔ SomeIsEnabled s budget g
  none_at_all none = (
    λ wrong. absurd (cc),
    λ some.
        let m = some.0 in
        let n = some.1.0 in
        let on = some.1.1 in
        absurd (all_at NoneOf (at_and_below g []) m none (below_has s g [] m (instance_there s budget g m n (not_off (guard s budget g m n) on)) (inside_root m)) n on),
  )
