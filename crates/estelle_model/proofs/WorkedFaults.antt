-- Examples of the other faults, over any state: each of them once.
use Rattle.std.proofs.Common.{◌≡◌, ℕ, false, List, [], ◌∷◌, ℤ, pos, Ok, Err, Some, None}
use Rattle.pascal_values.specs.declared.fault.Fault.TheVariants as fault
use Rattle.pascal_values.specs.declared.value.Value.{Value}
use Rattle.pascal_values.specs.declared.value.Value.TheVariants as pascal
use Rattle.pascal_values.specs.declared.value.Value.TheVariants.{outs-Int, outs-Enum, outs-Set, outs-Fields}
use Rattle.pascal_values.specs.Sets.{union, set_of}
use Rattle.estelle_tree.specs.declared.tree.expression.Relation.TheVariants as relation
use Rattle.estelle_tree.specs.declared.tree.expression.Expr.{Expr}
use Rattle.estelle_tree.specs.declared.tree.statement.Stmt.{Stmt}
use Rattle.estelle_model.specs.declared.denoter.Host.TheVariants as host
use Rattle.estelle_model.specs.declared.denoter.Denoter.TheVariants as denoter
use Rattle.estelle_model.specs.declared.denoter.Denoter.TheVariants.{outs-Ordinal}
use Rattle.estelle_model.specs.Types.{whole}
use Rattle.estelle_tree.specs.declared.required.Required.TheVariants.{Succ, Chr}
use Rattle.estelle_model.specs.Operators.{required_value, one_member, members_from, related}
use Rattle.estelle_tree.specs.Paths.{Path}
use Rattle.estelle_model.specs.States.{Offers}
use Rattle.estelle_model.specs.Stops.{Faults}
use Rattle.estelle_model.specs.Steps.{Running, StepResult, Do}
use Rattle.estelle_model.specs.declared.meaning.Meaning.{Meaning}
use Rattle.estelle_model.specs.declared.meaning.Meaning.TheVariants.{Local, RequiredFunction}
use Rattle.estelle_model.specs.Places.{load}
use Rattle.estelle_model.specs.declared.place.Environment.{Environment}
use Rattle.estelle_model.specs.Expressions.{Call}
use Rattle.estelle_model.specs.Statements.{Acts}
use Rattle.estelle_model.proofs.Trees as tree
use Rattle.estelle_model.proofs.StatementEquations.{branch_made}
use Rattle.estelle_model.proofs.Forms.{mean, run, alone_is, access_is, number_is}
use Rattle.estelle_model.proofs.Fitting.{shape_ordinal, assignable_ordinal, within_enum}
use Rattle.estelle_model.proofs.Points.{number_at, function_at, set_at, member_at, range_at, relation_at, number_factor_at, set_factor_at, case_at}
use Rattle.estelle_model.proofs.WorkedStatements.{meanings}

module _ (S : Type 0) (on : Offers S) (act : Acts S) (call : Call S) (path : Path) (st : S) where
  abbrev pub running : List Value → ℕ → Running S
  running vs n = record { state = st; frames = pascal.Fields vs ∷ []; left = n }

  abbrev pub here : Environment
  here = record { path = path; frame = 0; references = [] }

  abbrev pub value : List Meaning → Expr → List Value → ℕ → StepResult S Value
  value ms e vs n = (mean S on (meanings ms) call here e).value (running vs n)

  abbrev pub does : List Meaning → Stmt → List Value → ℕ → StepResult S (Unit {0})
  does ms p vs n = run S on (meanings ms) act call here p (running vs n)

  abbrev pub num : ℤ → Expr
  num n = tree.alone (tree.number n)

  -- case 3 of 1: end
  pub no_case : (vs : List Value) (n : ℕ) → does [] (tree.case_of (num (pos 3)) (tree.labelled (pos 1) tree.empty ∷ [])) vs n ≡ Err (Faults fault.NoCase, n)
  no_case vs n = simp (case_at, number_at, branch_made, outs-Int)

  -- ---- succ and chr: an expression is of its host type

  -- succ of the last value of an enumeration
  pub succ_of_last : (n : ℕ) → value (RequiredFunction Succ ∷ Local 1 (whole (host.Enumeration 2)) ∷ []) (tree.alone (tree.call_with 0 (tree.alone (tree.named 1) ∷ []))) (pascal.Int (pos 0) ∷ pascal.Enum 2 ∷ []) n ≡ Err (Faults fault.Range, n)
  unfolding load required_value
  succ_of_last n = simp (function_at, alone_is, access_is, outs-Fields, outs-Enum, outs-Ordinal, shape_ordinal, assignable_ordinal, within_enum)

  -- succ(s) of s: 1..3 at 3
  pub succ_of_subrange : (n : ℕ) → value (RequiredFunction Succ ∷ Local 1 (denoter.Ordinal host.Integer (pos 1) (pos 3)) ∷ []) (tree.alone (tree.call_with 0 (tree.alone (tree.named 1) ∷ []))) (pascal.Int (pos 0) ∷ pascal.Int (pos 3) ∷ []) n ≡ Ok (pascal.Int (pos 4), running (pascal.Int (pos 0) ∷ pascal.Int (pos 3) ∷ []) n)
  unfolding load required_value
  succ_of_subrange n = simp (function_at, alone_is, access_is, outs-Fields, outs-Int, outs-Ordinal)

  pub succ_of_maxint : (vs : List Value) (n : ℕ) → value (RequiredFunction Succ ∷ []) (tree.alone (tree.call_with 0 (num (pos 9223372036854775807) ∷ []))) vs n ≡ Err (Faults fault.Overflow, n)
  unfolding required_value
  succ_of_maxint vs n = simp (function_at, alone_is, number_is, outs-Int)

  pub chr_256 : (vs : List Value) (n : ℕ) → value (RequiredFunction Chr ∷ []) (tree.alone (tree.call_with 0 (num (pos 256) ∷ []))) vs n ≡ Err (Faults fault.Range, n)
  unfolding required_value
  chr_256 vs n = simp (function_at, alone_is, number_is, outs-Int)

  -- ---- sets

  -- [256]
  pub member_256 : (vs : List Value) (n : ℕ) → value [] (tree.alone (tree.set_of (tree.member (num (pos 256)) None ∷ []))) vs n ≡ Err (Faults fault.Range, n)
  unfolding one_member
  member_256 vs n = simp (set_at, member_at, number_at, outs-Int)

  -- [300..2] has no member
  pub empty_range : (vs : List Value) (n : ℕ) → value [] (tree.alone (tree.set_of (tree.member (num (pos 300)) (Some (num (pos 2))) ∷ []))) vs n ≡ Ok (pascal.Set [], running vs n)
  unfolding members_from union set_of
  empty_range vs n = simp (set_at, range_at, number_at, outs-Int)

  -- 300 in [1]
  pub not_in : (vs : List Value) (n : ℕ) → value [] (tree.relation (tree.number (pos 300)) relation.Member (tree.set_of (tree.member (num (pos 1)) None ∷ []))) vs n ≡ Ok (pascal.Bool false, running vs n)
  unfolding one_member related
  not_in vs n = simp (relation_at, number_factor_at, set_factor_at, member_at, number_at, outs-Int, outs-Set)
