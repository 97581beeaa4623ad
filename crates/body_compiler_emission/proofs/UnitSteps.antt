-- Units, once their code is there.
use Rattle.std.proofs.Common.{◌≡◌, ◌∙◌, ℕ, zero, suc, ◌+◌, ◌<◌, ◌≤◌, Bool, true, false, List, [], ◌∷◌, ◌++◌, length, map, fold, get_or, take, drop, Option, Some, None, refl, sym, ap, subst, arith, append_assoc, length-append}
use Rattle.std.specs.Prelude.{◌&&◌, IsTrue}
use Rattle.std.specs.Borrow.{Bor}
use Rattle.std.proofs.lemmas.List.{append-nil, map-append, length-map}
use Rattle.pascal_values.specs.declared.value.Shape.{Shape}
use Rattle.pascal_values.specs.declared.value.Value.TheVariants as pascal
use Rattle.estelle_tree.specs.declared.tree.expression.Expr.{Expr}
use Rattle.body_code.specs.declared.instr.Instr.TheVariants as op
use Rattle.body_code.specs.declared.unit.Local.{Local}
use Rattle.body_code.specs.declared.unit.CodeUnit.{CodeUnit}
use Rattle.estelle_model.specs.Types.{shape_of}
use Rattle.estelle_model.specs.Subject.{Subject}
use Rattle.estelle_model.specs.Meant.{result_types, result_number}
use Rattle.estelle_model.specs.declared.denoter.Denoter.{Denoter}
use Rattle.estelle_model.specs.declared.meaning.Passing.{Passing}
use Rattle.estelle_model.specs.declared.meaning.Passing.TheVariants.{ByValue, ByPlace}
use Rattle.estelle_model.specs.declared.meaning.Routine.{Routine}
use Rattle.meaning_table.specs.Known.{Known as Named, meanings_of}
use Rattle.body_compiler_pieces.specs.Pieces.{Piece, none, one, ◌⨾◌}
use Rattle.body_compiler_pieces.specs.ExpressionCode.{by_number}
use Rattle.body_compiler_pieces.specs.UnitCode as units
use Rattle.body_compiler_pieces.specs.UnitCode.{variable, own_shapes, AreParameters, IsMadeOf, IsUnit, IsClause}
use Rattle.body_compiler_emission.specs.Drafts.{Drafted, grown, with_locals, with_instr}
use Rattle.body_compiler_emission.specs.Known.{known_in}
use Rattle.body_compiler_emission.specs.Scopes.{Scoped, scope_of}
use Rattle.body_compiler_emission.specs.Emitted.{expr}
use Rattle.body_compiler_emission.specs.EmittedStatements.{lent, stmts, result_code, clause}
use Rattle.body_compiler_emission.proofs.Growth.{grown_none, grown_one, grown_then}
use Rattle.body_compiler_emission.proofs.ExpressionSteps.{then_one}
use Rattle.body_compiler_emission.proofs.Lists.{opened}

-- ---- parameters

pub parameter_more : (ps : List Passing) (ls : List Local) (p : Passing) (l : Local) → AreParameters ps ls → AreParameters (p ∷ []) (l ∷ []) → AreParameters (ps ++ p ∷ []) (ls ++ l ∷ [])
parameter_more [] [] p l h k = k
parameter_more (ByValue t ∷ ps) (m ∷ ls) p l h k = (h.0, parameter_more ps ls p l h.1 k)
parameter_more (ByPlace ∷ ps) (m ∷ ls) p l h k = (h.0, parameter_more ps ls p l h.1 k)
parameter_more [] (m ∷ ls) p l h k = absurd h
parameter_more (ByValue t ∷ ps) [] p l h k = absurd h
parameter_more (ByPlace ∷ ps) [] p l h k = absurd h

taken : {X : Type 0} (xs : List X) (i : ℕ) (x : X) → i < length xs → x ≡ get_or xs i x → take (suc i) xs ≡ take i xs ++ x ∷ []
taken [] i x some at = absurd (omega (arith, some))
taken (y ∷ xs) zero x some at = ap (λ z. z ∷ []) (sym at)
taken (y ∷ xs) (suc i) x some at = ap (λ l. y ∷ l) (taken xs i x (omega (arith, some)) at)

all_taken : {X : Type 0} (xs : List X) (i : ℕ) → length xs ≤ i → take i xs ≡ xs
all_taken [] zero h = refl
all_taken [] (suc i) h = refl
all_taken (x ∷ xs) zero h = absurd (omega (arith, h))
all_taken (x ∷ xs) (suc i) h = ap (λ l. x ∷ l) (all_taken xs i (omega (arith, h)))

pub parameters_next : (ps : List Passing) (ls ms : List Local) (i : ℕ) (p : Passing) (l : Local) → i < length ps → p ≡ get_or ps i p → AreParameters (take i ps) ls → AreParameters (p ∷ []) (l ∷ []) → ms ≡ ls ++ l ∷ []
    → AreParameters (take (i + 1) ps) ms
parameters_next ps ls ms i p l some at are one is =
    subst (λ qs. AreParameters qs ms) (sym (taken ps i p some at) ∙ ap (λ n. take n ps) (let e : suc i ≡ i + 1 = omega arith in e))
    (subst (λ ks. AreParameters (take i ps ++ p ∷ []) ks) (sym is) (parameter_more (take i ps) ls p l are one))

pub parameters_all : (ps : List Passing) (ls : List Local) (i : ℕ) → length ps ≤ i → AreParameters (take i ps) ls → AreParameters ps ls
parameters_all ps ls i end are = subst (λ qs. AreParameters qs ls) (all_taken ps i end) are

-- ---- results

module _ (t : Scoped) where
  pub no_result : (r : Routine) (u : Drafted) → r.result ≡ None → grown (result_code t r) u ≡ u
  unfolding result_code
  no_result r u is = ap (λ (o : Option Denoter). grown (units.result_code (scope_of t) r o) u) is ∙ grown_none u

  pub result_loaded : (r : Routine) (d : Denoter) (n : ℕ) (u : Drafted) → r.result ≡ Some d → (scope_of t).local (result_number r) ≡ Some n → grown (result_code t r) u ≡ with_instr op.Load (with_instr (op.Loc n) u)
  unfolding result_code
  result_loaded r d n u is at =
      ap (λ (o : Option Denoter). grown (units.result_code (scope_of t) r o) u) is
      ∙ ap (λ (o : Option ℕ). grown (by_number o (λ i. one (op.Loc i)) ⨾ one op.Load) u) at
      ∙ then_one (one (op.Loc n)) op.Load u
      ∙ ap (λ v. with_instr op.Load v) (grown_one (op.Loc n) u)

  -- ---- clauses

  abbrev pub push_value : Drafted → Bor Expr → Drafted
  push_value u e = grown (expr t e.now).value u

  pub clause_value : (es : List (Bor Expr)) (u : Drafted) → grown (clause t (lent es)) u ≡ fold push_value u es
  unfolding clause expr
  clause_value [] u = grown_none u
  clause_value (e ∷ es) u = grown_then (expr t e.now).value (units.clause_code (scope_of t) (lent es)) u ∙ clause_value es (grown (expr t e.now).value u)

-- ---- units

-- a unit with what was written
made : (passed : List Passing) (shapes : List Shape) (p : Piece) (ps : List Local) (u : Drafted) (unit : CodeUnit) → AreParameters passed ps → u ≡ grown p (with_locals (ps ++ map variable shapes))
    → unit.locals ≡ u.locals → unit.instrs ≡ u.instrs ++ op.Ret ∷ [] → u.fine ≡ true → IsMadeOf passed shapes p unit
unfolding grown
made passed shapes p ps u unit are is locals instrs fine = record {
  parameters = ps;
  are = are;
  locals = locals ∙ ap (λ (v : Drafted). v.locals) is ∙ append_assoc ps (map variable shapes) (map variable p.temporaries) ∙ ap (λ ls. ps ++ ls) (sym (map-append variable shapes p.temporaries));
  instrs = instrs ∙ ap (λ (v : Drafted). v.instrs ++ op.Ret ∷ []) is;
  fine = sym (ap (λ (v : Drafted). v.fine) is) ∙ fine;
}

pub routine_made : (named : Named) (s : Subject) (body own : ℕ) (r : Routine) (ps ls ms : List Local) (u v : Drafted) (unit : CodeUnit)
    → AreParameters r.parameters ps → ls ≡ ps ++ map variable (map shape_of r.locals) → ms ≡ ls ++ map variable (map shape_of (result_types r.result)) → own ≡ length (r.locals ++ result_types r.result)
    → u ≡ grown (stmts (record { named = named; subject = s; body = body; parameters = r.parameters; own = own }) r.body) (with_locals ms)
    → v ≡ grown (result_code (record { named = named; subject = s; body = body; parameters = r.parameters; own = own }) r) u
    → unit.locals ≡ v.locals → unit.instrs ≡ v.instrs ++ op.Ret ∷ [] → v.fine ≡ true → IsUnit (known_in s (meanings_of named)) body r unit
unfolding stmts result_code scope_of
routine_made named s body own r ps ls ms u v unit are own_locals all_locals count first second locals instrs fine =
    let shapes = map shape_of (r.locals ++ result_types r.result) in
    let t : ℕ → Scoped = λ n. record { named = named; subject = s; body = body; parameters = r.parameters; own = n } in
    let counted : own ≡ length shapes = count ∙ sym (length-map (r.locals ++ result_types r.result) shape_of) in
    let together : ms ≡ ps ++ map variable shapes =
    all_locals ∙ ap (λ l. l ++ map variable (map shape_of (result_types r.result))) own_locals
    ∙ append_assoc ps (map variable (map shape_of r.locals)) (map variable (map shape_of (result_types r.result)))
    ∙ ap (λ l. ps ++ l) (sym (map-append variable (map shape_of r.locals) (map shape_of (result_types r.result))) ∙ ap (map variable) (sym (map-append shape_of r.locals (result_types r.result)))) in
    let p : ℕ → Piece = λ n. stmts (t n) r.body ⨾ result_code (t n) r in
    made r.parameters shapes (p (length shapes)) ps v unit are
    (second ∙ ap (λ w. grown (result_code (t own) r) w) first ∙ sym (grown_then (stmts (t own) r.body) (result_code (t own) r) (with_locals ms)) ∙ (λ i. grown (p (counted i)) (with_locals (together i))))
    locals instrs fine

pub clause_made : (named : Named) (s : Subject) (body : ℕ) (received : List Denoter) (es : List Expr) (passed : List Passing) (ps : List Local) (u : Drafted) (unit : CodeUnit)
    → passed ≡ map ByValue received → AreParameters passed ps
    → u ≡ grown (clause (record { named = named; subject = s; body = body; parameters = passed; own = 0 }) es) (with_locals ps)
    → unit.locals ≡ u.locals → unit.instrs ≡ u.instrs ++ op.Ret ∷ [] → u.fine ≡ true → IsClause (known_in s (meanings_of named)) body received es unit
unfolding clause scope_of
clause_made named s body received es passed ps u unit is are value locals instrs fine =
    let t : List Passing → Scoped = λ l. record { named = named; subject = s; body = body; parameters = l; own = 0 } in
    made (map ByValue received) [] (clause (t (map ByValue received)) es) ps u unit (subst (λ l. AreParameters l ps) is are)
    (value ∙ (λ i. grown (clause (t (is i)) es) (with_locals (sym (append-nil ps) i)))) locals instrs fine

pub true_made : (received : List Denoter) (passed : List Passing) (ps : List Local) (u : Drafted) (unit : CodeUnit)
    → passed ≡ map ByValue received → AreParameters passed ps → u ≡ with_instr (op.Push (pascal.Bool true)) (with_locals ps)
    → unit.locals ≡ u.locals → unit.instrs ≡ u.instrs ++ op.Ret ∷ [] → u.fine ≡ true → IsMadeOf (map ByValue received) [] (one (op.Push (pascal.Bool true))) unit
true_made received passed ps u unit is are value locals instrs fine =
    made (map ByValue received) [] (one (op.Push (pascal.Bool true))) ps u unit (subst (λ l. AreParameters l ps) is are)
    (value ∙ (λ i. with_instr (op.Push (pascal.Bool true)) (with_locals (sym (append-nil ps) i))) ∙ sym (grown_one (op.Push (pascal.Bool true)) (with_locals (ps ++ [])))) locals instrs fine
