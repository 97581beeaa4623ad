-- Numbers as moments of a delay.
use Rattle.std.proofs.Common.{◌≡◌, ℤ, Result, Ok, sym, subst}
use Rattle.pascal_values.specs.declared.value.Value.{Value}
use Rattle.estelle_model.specs.declared.job.Guard.{Guard}
use Rattle.estelle_model.specs.States.{Logged, on_log}
use Rattle.estelle_model.specs.Operators.{◌>>>◌, int_of}
use Rattle.estelle_model.specs.Subject.{Subject}
use Rattle.estelle_model.specs.Clauses.{between, from_on, from_one, from_both}
use Rattle.body_values.specs.declared.stop.Stop.{Stop}
use Rattle.body_values.specs.Gives.{Gives}

module _ (s : Subject) (low : Value) (n k : ℤ) (r : Result Guard Stop) (same : k ≡ n) where
  pub one_ok : int_of low ≡ Ok n → Gives (from_on Logged on_log s k) r → Gives (from_one Logged on_log s low) r
  one_ok is g = subst (λ x. Gives (x >>> λ n. from_on Logged on_log s n) r) (sym is) (subst (λ n. Gives (from_on Logged on_log s n) r) same g)

  pub both_ok : (high : Value) (m l : ℤ) → l ≡ m → int_of low ≡ Ok n → int_of high ≡ Ok m → Gives (between Logged on_log s k l) r → Gives (from_both Logged on_log s low high) r
  both_ok high m l alike first second g = subst (λ x. Gives (x >>> λ n. int_of high >>> λ m. between Logged on_log s n m) r) (sym first)
      (subst (λ x. Gives (x >>> λ m. between Logged on_log s n m) r) (sym second) (subst (λ n. Gives (between Logged on_log s n m) r) same (subst (λ m. Gives (between Logged on_log s k m) r) alike g)))
