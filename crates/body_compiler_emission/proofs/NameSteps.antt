-- Names and places step by step, as they are compiled.
use Rattle.std.proofs.Common.{◌≡◌, ◌∙◌, ℕ, ℤ, List, [], ◌∷◌, length, map, fold, Option, Some, None, refl, sym, ap}
use Rattle.pascal_values.specs.declared.value.Value.TheVariants as pascal
use Rattle.estelle_tree.specs.declared.tree.name.Name.{Name}
use Rattle.estelle_tree.specs.declared.tree.expression.Selector.{Selector, out-Selector}
use Rattle.estelle_tree.specs.declared.required.Required.{Required}
use Rattle.estelle_tree.specs.declared.required.Required.TheVariants as required
use Rattle.body_code.specs.declared.instr.Instr.{Instr}
use Rattle.body_code.specs.declared.instr.Instr.TheVariants as op
use Rattle.estelle_model.specs.Types.{shape_of, whole}
use Rattle.estelle_model.specs.declared.denoter.Host.{Host}
use Rattle.estelle_model.specs.declared.denoter.Host.TheVariants as hosts
use Rattle.estelle_model.specs.declared.denoter.Denoter.{Denoter, out-Denoter}
use Rattle.estelle_model.specs.declared.denoter.Denoter.TheVariants as denoters
use Rattle.estelle_model.specs.declared.denoter.Denoter.TheOpen.{Denoter-F}
use Rattle.estelle_model.specs.declared.meaning.Meaning.{Meaning}
use Rattle.estelle_model.specs.declared.meaning.Meaning.TheVariants.{Own, Exported, Local, Var, Module}
use Rattle.body_compiler_pieces.specs.Pieces.{Piece, none, one, ◌⨾◌}
use Rattle.body_compiler_pieces.specs.ExpressionCode as code
use Rattle.body_compiler_pieces.specs.ExpressionCode.{Operand, Access, by_number}
use Rattle.body_compiler_emission.specs.Drafts.{Drafted, grown, with_instr}
use Rattle.body_compiler_emission.specs.Scopes.{Scoped, scope_of}
use Rattle.body_compiler_emission.specs.Tails.{reached}
use Rattle.body_compiler_emission.specs.Emitted.{required_code, host_test, exported, behind_module, begun}
use Rattle.body_compiler_emission.proofs.Growth.{grown_none, grown_one, grown_then}

-- an instruction by a number that is there
pub numbered : (o : Option ℕ) (f : ℕ → Instr) (n : ℕ) (u : Drafted) → o ≡ Some n → grown (by_number o (λ i. one (f i))) u ≡ with_instr (f n) u
numbered o f n u is = ap (λ (k : Option ℕ). grown (by_number k (λ i. one (f i))) u) is ∙ grown_one (f n) u

-- a place that is one instruction
reached_one : (d : Denoter) (i : Instr) (u : Drafted) → Some (with_instr i u, d) ≡ reached (Some (record { denoter = d; place = one i })) u
unfolding reached
reached_one d i u = ap (λ v. Some (v, d)) (sym (grown_one i u))

reached_numbered : (d : Denoter) (o : Option ℕ) (f : ℕ → Instr) (n : ℕ) (u : Drafted) → o ≡ Some n → Some (with_instr (f n) u, d) ≡ reached (Some (record { denoter = d; place = by_number o (λ i. one (f i)) })) u
unfolding reached
reached_numbered d o f n u is = ap (λ v. Some (v, d)) (sym (numbered o f n u is))

pub item_is : (low high : ℤ) (item : Denoter) (u : Drafted) → grown (code.item_code (out-Denoter (denoters.Array low high item))) u ≡ with_instr (op.Index low high) u
item_is low high item u = ap (λ (l : Denoter-F Denoter). grown (code.item_code l) u) (denoters.outs-Array low high item) ∙ grown_one (op.Index low high) u

module _ (t : Scoped) where
  -- ---- required functions

  pub enumeration_tested : (last n : ℕ) (u : Drafted) → (scope_of t).number (shape_of (whole (hosts.Enumeration last))) ≡ Some n → grown (host_test t (hosts.Enumeration last)) u ≡ with_instr (op.Fit n) u
  unfolding host_test
  enumeration_tested last n u is = numbered ((scope_of t).number (shape_of (whole (hosts.Enumeration last)))) (λ i. op.Fit i) n u is

  pub not_tested : (h : Host) (u : Drafted) → ((last : ℕ) → h ≡ hosts.Enumeration last → ⊥) → grown (host_test t h) u ≡ u
  unfolding host_test
  not_tested (hosts.Enumeration last) u other = absurd (other last refl)
  not_tested _ u other = grown_none u

  pub required_one : (f : Required) (h : Host) (i : Instr) (u : Drafted) → code.required_code (scope_of t) f h ≡ one i → grown (required_code t f h) u ≡ with_instr i u
  unfolding required_code
  required_one f h i u is = ap (λ p. grown p u) is ∙ grown_one i u

  pub succ_tested : (h : Host) (u : Drafted) → grown (required_code t required.Succ h) u ≡ grown (host_test t h) (with_instr op.Succ u)
  unfolding required_code host_test
  succ_tested h u = grown_then (one op.Succ) (code.host_test (scope_of t) h) u ∙ ap (λ v. grown (code.host_test (scope_of t) h) v) (grown_one op.Succ u)

  pub pred_tested : (h : Host) (u : Drafted) → grown (required_code t required.Pred h) u ≡ grown (host_test t h) (with_instr op.Pred u)
  unfolding required_code host_test
  pred_tested h u = grown_then (one op.Pred) (code.host_test (scope_of t) h) u ∙ ap (λ v. grown (code.host_test (scope_of t) h) v) (grown_one op.Pred u)

  -- ---- where accesses begin

  pub own_begins : (k : ℕ) (d : Denoter) (ss : List Selector) (u : Drafted) → reached (begun t (Own k d) ss) u ≡ Some (with_instr (op.Var k) u, d)
  unfolding begun
  own_begins k d ss u = sym (reached_one d (op.Var k) u)

  pub export_begins : (k : ℕ) (d : Denoter) (ss : List Selector) (u : Drafted) → reached (begun t (Exported k d) ss) u ≡ Some (with_instr (op.Var k) u, d)
  unfolding begun
  export_begins k d ss u = sym (reached_one d (op.Var k) u)

  pub local_begins : (k : ℕ) (d : Denoter) (ss : List Selector) (u : Drafted) (n : ℕ) → (scope_of t).local k ≡ Some n → reached (begun t (Local k d) ss) u ≡ Some (with_instr (op.Loc n) u, d)
  unfolding begun
  local_begins k d ss u n is = sym (reached_numbered d ((scope_of t).local k) (λ i. op.Loc i) n u is)

  pub var_begins : (k : ℕ) (d : Denoter) (ss : List Selector) (u : Drafted) (n : ℕ) → (scope_of t).reference k ≡ Some n → reached (begun t (Var k d) ss) u ≡ Some (with_instr (op.Ref n) u, d)
  unfolding begun
  var_begins k d ss u n is = sym (reached_numbered d ((scope_of t).reference k) (λ i. op.Ref i) n u is)

  pub module_begins : (m : ℕ) (ss : List Selector) → begun t (Module m) ss ≡ behind_module t m ss
  unfolding begun
  module_begins m ss = refl

  pub exported_begins : (m k : ℕ) (d : Denoter) (u : Drafted) (n : ℕ) → (scope_of t).export m k ≡ Some n → reached (exported t m (Exported k d)) u ≡ Some (with_instr (op.Exp m n) u, d)
  exported_begins m k d u n is = sym (reached_numbered d ((scope_of t).export m k) (λ i. op.Exp m i) n u is)
