-- Statements of Estelle step by step, as they are compiled.
use Rattle.std.proofs.Common.{◌≡◌, ◌∙◌, ℕ, List, [], ◌∷◌, length, map, Option, Some, None, refl, sym, ap}
use Rattle.std.specs.Prelude.{option_map}
use Rattle.estelle_tree.specs.declared.tree.name.Name.{Name}
use Rattle.estelle_tree.specs.declared.tree.expression.Expr.{Expr}
use Rattle.estelle_tree.specs.declared.tree.statement.Ip.{Ip as Node}
use Rattle.body_code.specs.declared.instr.Point.{Point}
use Rattle.body_code.specs.declared.instr.Ends.{Ends}
use Rattle.body_code.specs.declared.instr.Instr.{Instr}
use Rattle.body_code.specs.declared.instr.Instr.TheVariants as op
use Rattle.estelle_model.specs.declared.denoter.Denoter.{Denoter}
use Rattle.estelle_model.specs.declared.meaning.Meaning.{Meaning}
use Rattle.estelle_model.specs.declared.meaning.Meaning.TheVariants.{Ip, Module, Body}
use Rattle.estelle_model.specs.declared.meaning.Passing.TheVariants.{ByValue}
use Rattle.estelle_model.specs.Definitions.{types_received}
use Rattle.estelle_model.specs.Statements.{Statement, Init, Release, Connect, Disconnect, Attach, Detach, Output}
use Rattle.body_compiler_pieces.specs.Pieces.{Piece, none, one, ◌⨾◌}
use Rattle.body_compiler_pieces.specs.ExpressionCode.{give_all as give_operands}
use Rattle.body_compiler_pieces.specs.StatementCode as code
use Rattle.body_compiler_emission.specs.Drafts.{Drafted, grown, with_instr}
use Rattle.body_compiler_emission.specs.Scopes.{Scoped, scope_of}
use Rattle.body_compiler_emission.specs.Emitted.{expr, give_all}
use Rattle.body_compiler_emission.specs.EmittedStatements.{act}
use Rattle.body_compiler_emission.proofs.Growth.{grown_none, grown_one, grown_then}
use Rattle.body_compiler_emission.proofs.ExpressionSteps.{then_one}

-- an instruction alone
alone : (i : Instr) (u : Drafted) → grown (none ⨾ one i) u ≡ with_instr i u
alone i u = then_one none i u ∙ ap (λ v. with_instr i v) (grown_none u)

module _ (t : Scoped) where
  abbrev point_of : Node → Option Point
  point_of x = code.point_of (scope_of t) ((scope_of t).meant x.name) (option_map (scope_of t).meant x.part)

  pub connect_steps : (x y : Node) (a b : Point) (u : Drafted) → point_of x ≡ Some a → point_of y ≡ Some b → grown (act t (Connect x y) []) u ≡ with_instr (op.Connect a b) u
  unfolding act
  connect_steps x y a b u e f = (λ i. grown (none ⨾ code.connect (scope_of t) (e i) (f i)) u) ∙ alone (op.Connect a b) u

  pub disconnect_steps : (x : Node) (a : Ends) (u : Drafted) → code.ends_of (scope_of t) ((scope_of t).meant x.name) (option_map (scope_of t).meant x.part) ≡ Some a → grown (act t (Disconnect x) []) u ≡ with_instr (op.Disconnect a) u
  unfolding act
  disconnect_steps x a u e = (λ i. grown (none ⨾ code.disconnect (scope_of t) (e i)) u) ∙ alone (op.Disconnect a) u

  pub attach_steps : (x y z : Name) (k m : ℕ) (a : Point) (u : Drafted) → (scope_of t).meant x ≡ Ip k → (scope_of t).meant y ≡ Module m → code.point_of (scope_of t) (Module m) (Some ((scope_of t).meant z)) ≡ Some a → grown (act t (Attach x y z) []) u ≡ with_instr (op.Attach k a) u
  unfolding act
  attach_steps x y z k m a u e f g =
      (λ i. grown (none ⨾ code.attach (scope_of t) (e i) (code.point_of (scope_of t) (f i) (Some ((scope_of t).meant z)))) u)
      ∙ (λ i. grown (none ⨾ code.attach (scope_of t) (Ip k) (g i)) u)
      ∙ alone (op.Attach k a) u

  pub detach_steps : (x : Name) (k : ℕ) (u : Drafted) → (scope_of t).meant x ≡ Ip k → grown (act t (Detach x) []) u ≡ with_instr (op.Detach k) u
  unfolding act
  detach_steps x k u e = (λ i. grown (none ⨾ code.detach (scope_of t) (e i)) u) ∙ alone (op.Detach k) u

  pub release_steps : (x : Name) (k : ℕ) (u : Drafted) → (scope_of t).meant x ≡ Module k → grown (act t (Release x) []) u ≡ with_instr (op.Release k) u
  unfolding act
  release_steps x k u e = (λ i. grown (none ⨾ code.release (scope_of t) (e i)) u) ∙ alone (op.Release k) u

  pub output_steps : (x y : Name) (es : List Expr) (k i n : ℕ) (u : Drafted) → (scope_of t).meant x ≡ Ip k → (scope_of t).interaction x y ≡ Some i → n ≡ length (types_received ((scope_of t).meant y))
      → grown (act t (Output x y) es) u ≡ with_instr (op.Output k i n) (grown (give_all t (map ByValue (types_received ((scope_of t).meant y))) es) u)
  unfolding act give_all
  output_steps x y es k i n u e f g =
      let types = types_received ((scope_of t).meant y) in
      let given = give_operands (scope_of t) (map ByValue types) (map (expr t) es) in
      (λ j. grown (given ⨾ code.output (scope_of t) (e j) (f j) types) u)
      ∙ then_one given (op.Output k i (length types)) u
      ∙ ap (λ m. with_instr (op.Output k i m) (grown given u)) (sym g)

  pub init_steps : (x y : Name) (es : List Expr) (m k n : ℕ) (types : List Denoter) (u : Drafted) → (scope_of t).meant x ≡ Module m → (scope_of t).meant y ≡ Body k → (scope_of t).parameters k ≡ Some types → n ≡ length types
      → grown (act t (Init x y) es) u ≡ with_instr (op.Init m k n) (grown (give_all t (map ByValue types) es) u)
  unfolding act give_all
  init_steps x y es m k n types u e f g h =
      let given = give_operands (scope_of t) (map ByValue types) (map (expr t) es) in
      (λ j. grown (code.init (scope_of t) (e j) (f j) (map (expr t) es)) u)
      ∙ ap (λ (o : Option (List Denoter)). grown (code.init_with (scope_of t) m k o (map (expr t) es)) u) g
      ∙ then_one given (op.Init m k (length types)) u
      ∙ ap (λ l. with_instr (op.Init m k l) (grown given u)) (sym h)
