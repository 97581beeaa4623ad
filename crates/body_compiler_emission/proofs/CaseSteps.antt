-- The cases of a `case`, one after another: the ends of their statements are set at last.
use Rattle.std.proofs.Common.{◌≡◌, ◌∙◌, ℕ, ◌+◌, ◌<◌, ◌≤◌, List, [], ◌∷◌, ◌++◌, length, map, get_or, drop, refl, sym, ap, arith, append_assoc, length-append}
use Rattle.std.proofs.lemmas.List.{append-nil}
use Rattle.pascal_values.specs.declared.fault.Fault.TheVariants as fault
use Rattle.estelle_tree.specs.declared.tree.statement.Case.{Case, out-Case}
use Rattle.body_code.specs.declared.instr.Instr.{Instr}
use Rattle.body_code.specs.declared.instr.Instr.TheVariants as op
use Rattle.body_compiler_pieces.specs.Pieces.{Piece}
use Rattle.body_compiler_pieces.specs.StatementCode as code
use Rattle.body_compiler_emission.specs.Drafts.{Drafted, grown, with_instr, with_instr_at, fork_closed, ends_closed}
use Rattle.body_compiler_emission.specs.Scopes.{Scoped, scope_of}
use Rattle.body_compiler_emission.specs.EmittedStatements.{is_one_of, stmt, chosen, first_of, labelled, entered_case, cased, case_end}
use Rattle.body_compiler_emission.proofs.Ends.{set_before, set_long, ends_long}
use Rattle.body_compiler_emission.proofs.Lists.{opened, all_dropped}
use Rattle.body_compiler_emission.proofs.StatementSteps.{no_case, case_steps}

module _ (t : Scoped) (k : ℕ) where
  -- the unit behind cases, and the ends of their statements
  abbrev pub run : List Case → Drafted → Drafted
  run [] u = u
  run (c ∷ cs) u = run cs (cased t k c u)

  abbrev pub ends : List Case → Drafted → List ℕ
  ends [] u = []
  ends (c ∷ cs) u = case_end t k c u ∷ ends cs (cased t k c u)

  pub run_next : (cs : List Case) (i : ℕ) (c : Case) (u : Drafted) → i < length cs → c ≡ get_or cs i c → run (drop (i + 1) cs) (cased t k c u) ≡ run (drop i cs) u
  run_next cs i c u some at = ap (λ l. run l u) (sym (opened cs i c some at))

  pub ends_next : (cs : List Case) (i : ℕ) (c : Case) (u : Drafted) (es : List ℕ) → i < length cs → c ≡ get_or cs i c → (es ++ case_end t k c u ∷ []) ++ ends (drop (i + 1) cs) (cased t k c u) ≡ es ++ ends (drop i cs) u
  ends_next cs i c u es some at = append_assoc es (case_end t k c u ∷ []) (ends (drop (i + 1) cs) (cased t k c u)) ∙ ap (λ l. es ++ ends l u) (sym (opened cs i c some at))

  pub run_all : (cs : List Case) (i : ℕ) (u : Drafted) → length cs ≤ i → run (drop i cs) u ≡ u
  run_all cs i u end = ap (λ l. run l u) (all_dropped cs i end)

  pub ends_all : (cs : List Case) (i : ℕ) (u : Drafted) (es : List ℕ) → length cs ≤ i → es ++ ends (drop i cs) u ≡ es
  ends_all cs i u es end = ap (λ l. es ++ ends l u) (all_dropped cs i end) ∙ append-nil es

  -- where the test of a case stands, and that it stands before the end
  test_before : (c : Case) (u : Drafted) → length (labelled t k c u).instrs < length (with_instr (op.Jump 0) (entered_case t k c u)).instrs
  unfolding with_instr grown entered_case
  test_before c u =
      let v = labelled t k c u in
      let w = v.instrs ++ op.Jfalse 0 ∷ [] in
      let p = (chosen t c).code (length v.locals) (length w) in
      omega (arith, length-append v.instrs (op.Jfalse 0 ∷ []), length-append w p, length-append (w ++ p) (op.Jump 0 ∷ []))

  pub all_cased : (cs : List Case) (u : Drafted) (n : ℕ) → n ≡ length (with_instr (op.Fail fault.NoCase) (run cs u)).instrs → ends_closed (ends cs u) n (with_instr (op.Fail fault.NoCase) (run cs u)) ≡ grown (first_of t k cs) u
  unfolding fork_closed labelled entered_case cased case_end
  all_cased [] u n is = sym (no_case t k u)
  all_cased (c ∷ cs) u n is =
      let test = length (labelled t k c u).instrs in
      let end = case_end t k c u in
      let jumped = with_instr (op.Jump 0) (entered_case t k c u) in
      let others = grown (first_of t k cs) jumped in
      let known = all_cased cs (cased t k c u) n is in
      let moved : grown (first_of t k cs) (cased t k c u) ≡ with_instr_at test (op.Jfalse (end + 1)) others = sym (set_before test (op.Jfalse (end + 1)) (first_of t k cs) jumped (test_before c u)) in
      let long : n ≡ length others.instrs =
      is ∙ sym (ends_long (ends cs (cased t k c u)) n (with_instr (op.Fail fault.NoCase) (run cs (cased t k c u))))
      ∙ ap (λ (v : Drafted). length v.instrs) (known ∙ moved) ∙ set_long test (op.Jfalse (end + 1)) others in
      ap (λ v. with_instr_at end (op.Jump n) v) (known ∙ moved)
      ∙ ap (λ m. with_instr_at end (op.Jump m) (with_instr_at test (op.Jfalse (end + 1)) others)) long
      ∙ case_steps t k c cs u (op.Jfalse 0) (op.Jump 0) test end refl refl
