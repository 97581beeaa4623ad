-- The guard of a transition that is not there is off.
use Rattle.std.proofs.Common.{◌≡◌, ℕ, zero, suc, ◌≤◌, length, Option, Some, None, refl, ap, ◌∙◌, arith}
use Rattle.std.specs.FinMap as map
use Rattle.std.proofs.lemmas.Option.{slice_get_within}
use Rattle.estelle_tree.specs.Paths.{Path}
use Rattle.estelle_model.specs.declared.job.Guard.TheVariants.{Off}
use Rattle.estelle_model.specs.Core.{Instance}
use Rattle.estelle_model.specs.Transitions.{Transition}
use Rattle.estelle_model.specs.Subject.{Subject, transitions, transition}
use Rattle.estelle_model.specs.Situation.{Situation}
use Rattle.estelle_model.specs.Firing.{guard, guard_at, guard_of}

module _ (s : Subject) (budget : ℕ) (g : Situation) (m : Path) where
  pub zero_off : guard s budget g m 0 ≡ Off
  zero_off = by (map.get g.core.instances m)
    where
      by : (o : Option Instance) → guard_at s budget g m 0 o ≡ Off
      by None = refl
      by (Some i) = refl

  pub instance_there : (n : ℕ) → (guard s budget g m n ≡ Off → ⊥) → (i : Instance) × (map.get g.core.instances m ≡ Some i)
  instance_there n not_off = by (map.get g.core.instances m) refl
    where
      by : (o : Option Instance) → map.get g.core.instances m ≡ o → (i : Instance) × (o ≡ Some i)
      by None is = absurd (not_off (ap (guard_at s budget g m n) is))
      by (Some i) is = (i, refl)

  pub within : (n : ℕ) (i : Instance) → map.get g.core.instances m ≡ Some i → (guard s budget g m n ≡ Off → ⊥) → n ≤ length (transitions s i.body)
  within n i there not_off = by n (transition s i.body n) refl (λ e. not_off (ap (guard_at s budget g m n) there ∙ e))
    where
      by : (n : ℕ) (o : Option Transition) → transition s i.body n ≡ o → (guard_of s budget g m (map.contains_key g.timers (record { path = m; trans = n })) i o ≡ Off → ⊥) → n ≤ length (transitions s i.body)
      by n None is not_off = absurd (not_off refl)
      by zero (Some t) is not_off = omega arith
      by (suc k) (Some t) is not_off = let less = slice_get_within (transitions s i.body) k t is in omega (arith, less)
