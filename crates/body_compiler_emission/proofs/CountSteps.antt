-- `for` step by step, as it is compiled.
use Rattle.std.proofs.Common.{◌≡◌, ◌∙◌, ℕ, List, [], ◌∷◌, length, map, Option, Some, None, refl, sym, ap, true, false, Bool}
use Rattle.pascal_values.specs.declared.value.Shape.{Shape}
use Rattle.estelle_tree.specs.declared.tree.name.Name.{Name}
use Rattle.estelle_tree.specs.declared.tree.expression.Expr.{Expr}
use Rattle.estelle_tree.specs.declared.tree.statement.Direction.{Direction}
use Rattle.estelle_tree.specs.declared.tree.statement.Direction.TheVariants as direction
use Rattle.estelle_tree.specs.declared.tree.statement.Stmt.{Stmt}
use Rattle.body_code.specs.declared.instr.Instr.{Instr}
use Rattle.body_code.specs.declared.instr.Instr.TheVariants as op
use Rattle.estelle_model.specs.Types.{shape_of, host_of, whole}
use Rattle.estelle_model.specs.declared.denoter.Host.{Host}
use Rattle.estelle_model.specs.declared.denoter.Denoter.{Denoter}
use Rattle.estelle_model.specs.declared.meaning.Meaning.{Meaning}
use Rattle.estelle_model.specs.declared.meaning.Meaning.TheVariants.{Own, Exported, Local}
use Rattle.body_compiler_pieces.specs.Pieces.{Piece, one, ◌⨾◌, recall, keep, count as count_piece}
use Rattle.body_compiler_pieces.specs.ExpressionCode.{Access, by_number}
use Rattle.body_compiler_pieces.specs.StatementCode as code
use Rattle.body_compiler_emission.specs.Drafts.{Drafted, grown, with_instr, with_temporary, count_closed}
use Rattle.body_compiler_emission.specs.Scopes.{Scoped, scope_of}
use Rattle.body_compiler_emission.specs.Emitted.{expr}
use Rattle.body_compiler_emission.specs.EmittedStatements.{recalled, begins_instr, goes_instr, tested, entered, ended, counting, stmt, control, kept, count}
use Rattle.body_compiler_emission.proofs.Growth.{grown_one, grown_then}
use Rattle.body_compiler_emission.proofs.Holes.{IsUniform, keep_made, count_made}
use Rattle.body_compiler_emission.proofs.ExpressionSteps.{then_one}
use Rattle.body_compiler_emission.proofs.LabelSteps.{recall_steps}

begins_is : (dir : Direction) (u : Drafted) → grown (code.begins_code dir) u ≡ with_instr (begins_instr dir) u
begins_is direction.To u = grown_one op.Le u
begins_is direction.Downto u = grown_one op.Ge u

goes_is : (dir : Direction) (u : Drafted) → grown (code.goes_code dir) u ≡ with_instr (goes_instr dir) u
goes_is direction.To u = grown_one op.Lt u
goes_is direction.Downto u = grown_one op.Gt u

-- both temporaries, and then the rest
recalls : (t k : ℕ) (p : Piece) (u : Drafted) → grown (recall t ⨾ recall k ⨾ p) u ≡ grown p (recalled k (recalled t u))
recalls t k p u =
    grown_then (recall t) (recall k ⨾ p) u
    ∙ ap (λ v. grown (recall k ⨾ p) v) (recall_steps t u)
    ∙ grown_then (recall k) p (recalled t u)
    ∙ ap (λ v. grown p v) (recall_steps k (recalled t u))

-- the variable is set
set_is : (place : Instr) (t kind : ℕ) (u : Drafted) → grown (one place ⨾ recall t ⨾ one (op.Store kind)) u ≡ with_instr (op.Store kind) (recalled t (with_instr place u))
set_is place t kind u =
    grown_then (one place) (recall t ⨾ one (op.Store kind)) u
    ∙ then_one (recall t) (op.Store kind) (grown (one place) u)
    ∙ ap (λ v. with_instr (op.Store kind) v) (recall_steps t (grown (one place) u))
    ∙ ap (λ v. with_instr (op.Store kind) (recalled t v)) (grown_one place u)

pub turns_made : (dir : Direction) (number kind : ℕ) (place : Instr) (body : Piece) (t k : ℕ) (u : Drafted) (test : ℕ) → test ≡ length (tested dir t k u).instrs
    → ended dir number place t k test (grown body (entered kind place t (tested dir t k u))) ≡ grown (counting dir number kind place body t k) u
unfolding tested entered ended counting
turns_made dir number kind place body t k u test at =
    let begins = recall t ⨾ recall k ⨾ code.begins_code dir in
    let sets = one place ⨾ recall t ⨾ one (op.Store kind) in
    let goes = recall t ⨾ recall k ⨾ code.goes_code dir in
    let begun : grown begins u ≡ with_instr (begins_instr dir) (recalled k (recalled t u)) = recalls t k (code.begins_code dir) u ∙ begins_is dir (recalled k (recalled t u)) in
    let turn : (v : Drafted) → grown (sets ⨾ (body ⨾ goes)) v ≡ with_instr (goes_instr dir) (recalled k (recalled t (grown body (with_instr (op.Store kind) (recalled t (with_instr place v)))))) = λ v.
    grown_then sets (body ⨾ goes) v
    ∙ grown_then body goes (grown sets v)
    ∙ ap (λ w. grown goes (grown body w)) (set_is place t kind v)
    ∙ recalls t k (code.goes_code dir) (grown body (with_instr (op.Store kind) (recalled t (with_instr place v))))
    ∙ goes_is dir (recalled k (recalled t (grown body (with_instr (op.Store kind) (recalled t (with_instr place v)))))) in
    let unset : (v : Drafted) → grown (one place ⨾ one op.Blank) v ≡ with_instr op.Blank (with_instr place v) = λ v. then_one (one place) op.Blank v ∙ ap (λ w. with_instr op.Blank w) (grown_one place v) in
    let entry = with_instr op.Turn (with_instr (op.Jfalse 0) (grown begins u)) in
    let closed = λ (v : Drafted). count_closed t number (code.next_instr dir) test v in
    (λ i. with_instr op.Blank (with_instr place (closed (with_instr (goes_instr dir) (recalled k (recalled t (grown body (with_instr (op.Store kind) (recalled t (with_instr place (with_instr op.Turn (with_instr (op.Jfalse 0) (sym begun i)))))))))))))
    ∙ ap (λ v. with_instr op.Blank (with_instr place (closed v))) (sym (turn entry))
    ∙ sym (unset (closed (grown (sets ⨾ (body ⨾ goes)) entry)))
    ∙ count_made t number (code.next_instr dir) begins (sets ⨾ (body ⨾ goes)) (one place ⨾ one op.Blank) u (op.Jfalse 0) test (at ∙ ap (λ (v : Drafted). length v.instrs) (sym begun))

module _ (t : Scoped) where
  -- ---- control variables

  pub own_control : (k : ℕ) (d : Denoter) → control t (Own k d) ≡ Some (record { denoter = d; place = one (op.Var k) })
  unfolding control
  own_control k d = refl

  pub export_control : (k : ℕ) (d : Denoter) → control t (Exported k d) ≡ Some (record { denoter = d; place = one (op.Var k) })
  unfolding control
  export_control k d = refl

  pub local_control : (k : ℕ) (d : Denoter) (n : ℕ) → (scope_of t).local k ≡ Some n → control t (Local k d) ≡ Some (record { denoter = d; place = one (op.Loc n) })
  unfolding control
  local_control k d n is = ap (λ (o : Option ℕ). Some (record { denoter = d; place = by_number o (λ i. one (op.Loc i)) })) is

  -- ---- the bounds

  pub count_steps : (x : Name) (first : Expr) (dir : Direction) (last : Expr) (body : Stmt) (u : Drafted) (m : Meaning) (d : Denoter) (place : Instr) (h : Host) (number kind i j test : ℕ)
      → m ≡ (scope_of t).meant x → control t m ≡ Some (record { denoter = d; place = one place }) → h ≡ host_of d → code.is_word h ≡ true
      → (scope_of t).number (shape_of (whole h)) ≡ Some number → (scope_of t).number (shape_of d) ≡ Some kind
      → i ≡ length u.locals → j ≡ length (kept t h number first i u).locals → test ≡ length (tested dir i j (kept t h number last j (kept t h number first i u))).instrs
      → ended dir number place i j test (grown (stmt t body) (entered kind place i (tested dir i j (kept t h number last j (kept t h number first i u))))) ≡ grown (count t x first dir last body) u
  unfolding count control counting kept
  count_steps x first dir last body u m d place h number kind i j test is known hosted word numbered kinded at_i at_j at =
      let f = (expr t first).value in
      let l = (expr t last).value in
      let b = stmt t body in
      let shape = shape_of (whole h) in
      let turns = λ (p q : ℕ). code.counting dir number kind (one place) b p q in
      let begun = with_instr (op.Store number) (grown f (with_instr (op.Loc i) (with_temporary shape u))) in
      let bounded = with_instr (op.Store number) (grown l (with_instr (op.Loc j) (with_temporary shape begun))) in
      let by_host = λ (g : Host). grown (code.count_by (scope_of t) (code.is_word g) (shape_of (whole g)) (record { denoter = d; place = one place }) f dir l b) u in
      turns_made dir number kind place b i j bounded test at
      ∙ keep_made shape number l (λ q. turns i q) (record { temporaries = λ q. refl; fine = λ q. refl }) begun j at_j
      ∙ keep_made shape number f (λ p. keep shape number l (λ q. turns p q)) (record { temporaries = λ p. refl; fine = λ p. refl }) u i at_i
      ∙ (λ z. grown (by_number (sym numbered z) (λ k. by_number (sym kinded z) (λ e. keep shape k f (λ p. keep shape k l (λ q. code.counting dir k e (one place) b p q))))) u)
      ∙ (λ z. grown (code.count_by (scope_of t) (sym word z) shape (record { denoter = d; place = one place }) f dir l b) u)
      ∙ ap by_host hosted
      ∙ (λ z. grown (code.count_over (scope_of t) (sym known z) f dir l b) u)
      ∙ (λ z. grown (code.count_over (scope_of t) (code.control (scope_of t) (is z)) f dir l b) u)
