-- The laws of factors: each form is read by its parser.
use Rattle.std.specs.Prelude.{◌==◌, ◌&&◌, not, if◌then◌else◌}
use Rattle.std.proofs.Common.{◌≡◌, ℕ, ℤ, zero, suc, Ok, arith, Bool, true, false, List, [], ◌∷◌, sym, refl, ap, ◌∙◌, subst, inl, inr, ◌⊎◌}
use Rattle.estelle_tree.specs.declared.kind.Kind.{Kind}
use Rattle.estelle_tree.specs.declared.kind.Kind.TheVariants as k
use Rattle.estelle_tree.specs.declared.tree.name.Name.{Name}
use Rattle.estelle_tree.specs.declared.tree.expression.Factor.{Factor, out-Factor, roll-Factor}
use Rattle.estelle_tree.specs.declared.tree.expression.Factor.TheVariants as a_factor
use Rattle.estelle_tree.specs.declared.tree.expression.Factor.TheVariants.{rolls-Number, rolls-Char, rolls-Variable, rolls-Call, rolls-Paren, rolls-Not, rolls-Set, outs-Number, outs-Char, outs-Variable, outs-Call, outs-Paren, outs-Not, outs-Set}
use Rattle.estelle_tree.specs.declared.tree.expression.Factor.TheOpen.{Factor-F}
use Rattle.estelle_tree.specs.declared.tree.expression.Selector.{Selector}
use Rattle.estelle_tree.specs.declared.tree.expression.Factor.TheViews.{roll-out-Factor}
use Rattle.estelle_tree.specs.declared.tree.expression.Expr.{Expr}
use Rattle.estelle_tree.specs.declared.tree.expression.Elem.{Elem}
use Rattle.estelle_tree.specs.declared.tree.expression.Variable.{Variable, out-Variable}
use Rattle.estelle_tree.specs.declared.tree.expression.Args.{Args}
use Rattle.estelle_tree.specs.Input.{Input, kind, next, left, start, between}
use Rattle.estelle_tree.specs.declared.span.Span.{Span}
use Rattle.estelle_tree.specs.Spans.{FactorLayer}
use Rattle.estelle_tree.specs.Spelling.{Spelling, Takes, Chain}
use Rattle.estelle_tree.specs.Beginning.{Beginning}
use Rattle.estelle_tree.specs.Expressions.{SelectorOf, VariableOf, IsFactorLayer, FactorBelow, IsFactor}
use Rattle.estelle_tree.specs.BeginsExpressions.{BeginsFactorLayer, BeginsFactorBelow}
use Rattle.token_reader.specs.Reader.{Parser, ◌>>=◌, and_then, pure, since, sees, expect, name, number, char}
use Rattle.token_reader.proofs.Complete.{expect_complete}
use Rattle.token_reader.specs.Lists.{separated}
use Rattle.syntax_forms.specs.Kinds.{is}
use Rattle.syntax_forms.specs.Form as form
use Rattle.syntax_forms.specs.Form.{Form, ◌⊕◌}
use Rattle.syntax_forms.specs.Reading.{Reading, one, ◌then◌, chosen, choose, looked, levelled, closed}
use Rattle.expression_parser.specs.Forms as forms
use Rattle.expression_parser.specs.Expression.{expr_over, args_over, elem_over, nest, variable_after, variable_over, call_after, plain_after, named_by, named, number_factor, char_factor, paren_over, not_over, set_over, elems_over, factor_by, factor_over, factor_below, expr, args, variable}
use Rattle.syntax_forms.proofs.KindLaws.{within, apart, both_of, is_it, not_true, not_false}
use Rattle.syntax_forms.specs.Onward.{Below, IsOnward}
use Rattle.syntax_forms.proofs.Steps.{step, names_one, expects_one, exact_below}
use Rattle.syntax_forms.proofs.TokenForms.{name_known}
use Rattle.syntax_forms.proofs.AheadForms.{IsAhead, unless_last}
use Rattle.syntax_forms.proofs.ChoiceForms.{chosen_one, chosen_other, level_refused, some_room}
use Rattle.syntax_forms.proofs.StepForms.{many_form}
use Rattle.syntax_forms.proofs.NodeForms.{IsNode, begun_lawful, known_lawful, never_lawful}
use Rattle.syntax_forms.proofs.Lawful.{begins_so, IsLast, IsRead, IsLawful}
use Rattle.syntax_forms.proofs.Rules as rules
use Rattle.expression_parser.proofs.TermForms.{expr_lawful, args_lawful, elem_lawful}
use Rattle.expression_parser.proofs.VariableForms.{selector_lawful, variable_lawful}

-- ---- factors, over the parser of the factors one level down

module _ (room : ℕ) (F : Spelling Factor) (B : Beginning) (factor : Parser Factor) (law : IsLawful (forms.factor F B) factor) where
  call_read : IsRead (forms.call room F B) (one name then levelled room k.OpenParenthesis (one (args_over factor) then one (expect k.CloseParenthesis)))
  call_read = rules.and rules.name (rules.level room k.OpenParenthesis refl (rules.and (rules.part (args_lawful F B factor law)) (rules.word k.CloseParenthesis refl) refl)) refl

  paren_read : IsRead (forms.paren room F B) (levelled room k.OpenParenthesis (one (expr_over factor) then one (expect k.CloseParenthesis)))
  paren_read = rules.level room k.OpenParenthesis refl (rules.and (rules.part (expr_lawful F B factor law)) (rules.word k.CloseParenthesis refl) refl)

  negated_read : IsRead (forms.negated room F B) (levelled room k.Not (one factor))
  negated_read = rules.level room k.Not refl (rules.part law)

  set_read : IsRead (forms.a_set room F B) (levelled room k.OpenBracket (choose (is k.CloseBracket) (one (expect k.CloseBracket)) (one (separated k.Comma (elem_over factor)) then one (expect k.CloseBracket))))
  set_read = rules.level room k.OpenBracket refl (rules.or (rules.word k.CloseBracket refl) (rules.and (rules.separated k.Comma (elem_lawful F B factor law) refl refl) (rules.word k.CloseBracket refl) refl) refl refl)

  -- a variable or a call: the token behind the name tells
  abbrev read_call : Reading (Name × (Args × Unit {0}))
  read_call = one name then levelled room k.OpenParenthesis (one (args_over factor) then one (expect k.CloseParenthesis))

  variable_kind : (i : Input) → (forms.variable room F B).first (kind i) ≡ true → kind i ≡ k.Name
  variable_kind i s = is_it k.Name (kind i) (within (forms.variable room F B).first (is k.Name) refl (kind i) s)

  named_ahead : IsAhead (forms.calls room) (forms.variable room F B) (forms.call room F B) (variable_lawful room F B factor law).form call_read.rest.form read_call
  named_ahead = record { alone = alone; needs = needs; passes = passes; covers = covers; only = only }
    where
      -- no selector begins with "("
      no_selector : (i : Input) → forms.calls room (kind i) ≡ true → (forms.selector room F B).first (kind i) ≡ true → ⊥
      no_selector i e s = apart (is k.OpenParenthesis) (forms.selector room F B).first refl (kind i) (both_of (is k.OpenParenthesis (kind i)) _ e).0 s

      alone : (i m : Input) (v : Variable) → VariableOf room F v i m → forms.calls room (kind (next i)) ≡ true → next i ≡ m
      alone i m v h e = by (out-Variable v).selectors h.selectors
        where
          by : (ss : List Selector) → Chain (SelectorOf room F) ss h.mid m → next i ≡ m
          by [] same = h.name.next ∙ same
          by (s ∷ ss) c = absurd (no_selector h.mid (ap (λ j. forms.calls room (kind j)) (sym h.name.next) ∙ e) (begins_so (forms.selector room F B) (selector_lawful room F B factor law).form refl h.mid c.0 s c.1))

      needs : (i m : Input) (y : Name × (Args × Unit {0})) → (forms.variable room F B).first (kind i) ≡ true → (forms.call room F B).spells y i m → forms.calls room (kind (next i)) ≡ true
      needs i m y s h = rw (h.1.next, h.2.1.1.kind, some_room room h.2.0) refl

      passes : (C : Type 0) (f : Name × (Args × Unit {0}) → Parser C) → ((y : Name × (Args × Unit {0})) → IsOnward (f y)) → (i : Input) → (forms.variable room F B).first (kind i) ≡ true → forms.calls room (kind (next i)) ≡ true → Below i (left (next i)) (read_call C f i)
      passes C f on i s e =
          let n = name_known.there i (variable_kind i s) in
          let c = both_of (is k.OpenParenthesis (kind (next i))) _ e in
          exact_below name _ i (next i) (left (next i)) n.0 names_one n.1
          (rw (not_true (room == 0) c.1)
          (step (next i) (left (next i)) (expect k.OpenParenthesis (next i)) _ (expects_one k.OpenParenthesis (next i) (λ d. cc) (is_it k.OpenParenthesis (kind (next i)) c.0))
          (λ u. (rules.and (rules.part (args_lawful F B factor law)) (rules.word k.CloseParenthesis refl) refl).onward C _ (λ y. on (n.0, y)))))

      covers : (i m : Input) → (forms.variable room F B).first (kind i) ≡ true → forms.calls room (kind (next i)) ≡ true → (forms.variable room F B).begins i m → (forms.call room F B).begins i m
      covers i m s e (inl same) = inl same
      covers i m s e (inr t) = inr (t.0, t.1, inl (by ((many_form (forms.selector room F B) (selector_lawful room F B factor law).form refl).first t.0 m t.2)))
        where
          by : (t.0 ≡ m) ⊎ ((forms.selector room F B).first (kind t.0) ≡ true) → t.0 ≡ m
          by (inl same) = same
          by (inr is_one) = absurd (no_selector t.0 (ap (λ j. forms.calls room (kind j)) (sym t.1.next) ∙ e) is_one)

      only : (i m : Input) → (forms.variable room F B).first (kind i) ≡ true → forms.calls room (kind (next i)) ≡ false → (forms.call room F B).begins i m → (forms.variable room F B).begins i m
      only i m s e (inl same) = inl same
      only i m s e (inr (a, t, inl same)) = inr (a, t, ([], a, refl, inr same))
      only i m s e (inr (a, t, inr o)) = absurd (let yes : forms.calls room (kind (next i)) ≡ true = rw (t.next, o.1.1.kind, some_room room o.0) refl in let no : true ≡ false = sym yes ∙ e in cc)

  named_last : IsLast (forms.named room F B) (looked (forms.calls room) (forms.variable room F B).first (one (variable_over room factor)) read_call)
  named_last = (unless_last (forms.calls room) (forms.variable room F B) (forms.call room F B) (variable_lawful room F B factor law).form call_read.rest.form (one (variable_over room factor)) read_call refl (rules.part (variable_lawful room F B factor law)).rest call_read.rest named_ahead)

  abbrev Parts : Type 0
  Parts = ℤ ⊎ (ℕ ⊎ ((Variable ⊎ (Name × (Args × Unit {0}))) ⊎ ((Expr × Unit {0}) ⊎ (Factor ⊎ (Unit {0} ⊎ (List Elem × Unit {0}))))))

  abbrev Factors : Form Parts
  Factors = form.number ⊕ form.char ⊕ forms.named room F B ⊕ forms.paren room F B ⊕ forms.negated room F B ⊕ forms.a_set room F B

  make_factor : Parts → Span → Factor
  make_factor (inl n) span = a_factor.Number n span
  make_factor (inr (inl c)) span = a_factor.Char c span
  make_factor (inr (inr (inl (inl v)))) span = a_factor.Variable v
  make_factor (inr (inr (inl (inr (n, (given, u)))))) span = a_factor.Call n given span
  make_factor (inr (inr (inr (inl (e, u))))) span = a_factor.Paren e span
  make_factor (inr (inr (inr (inr (inl f))))) span = a_factor.Not f span
  make_factor (inr (inr (inr (inr (inr (inl u)))))) span = a_factor.Set [] span
  make_factor (inr (inr (inr (inr (inr (inr (xs, u))))))) span = a_factor.Set xs span

  factor_is : IsNode (λ f. IsFactorLayer room F (out-Factor f)) Factors.spells make_factor
  unfolding make_factor
  factor_is = record { opened = λ i m f h. of_layer i m f (out-Factor f) (roll-out-Factor f) h; made = made }
    where
      of_layer : (i m : Input) (f : Factor) (l : FactorLayer) → roll-Factor l ≡ f → IsFactorLayer room F l i m → (p : Parts) × Factors.spells p i m × (make_factor p (between i m) ≡ f)
      of_layer i m f (Factor-F.Number n span) e h = (inl n, h.0, ap (a_factor.Number n) (sym h.1) ∙ sym (rolls-Number n span) ∙ e)
      of_layer i m f (Factor-F.Char c span) e h = (inr (inl c), h.0, ap (a_factor.Char c) (sym h.1) ∙ sym (rolls-Char c span) ∙ e)
      of_layer i m f (Factor-F.Variable v) e h = (inr (inr (inl (inl v))), h, sym (rolls-Variable v) ∙ e)
      of_layer i m f (Factor-F.Call n given span) e h =
          (inr (inr (inl (inr (n, (given, tt))))), (h.1.mid, h.1.name, (h.0, (h.1.args.at, h.1.args.opens, (h.1.args.mid, h.1.args.inside, h.1.args.closes)))), ap (a_factor.Call n given) (sym h.2) ∙ sym (rolls-Call n given span) ∙ e)
      of_layer i m f (Factor-F.Paren x span) e h =
          (inr (inr (inr (inl (x, tt)))), (h.0, (h.1.at, h.1.opens, (h.1.mid, h.1.inside, h.1.closes))), ap (a_factor.Paren x) (sym h.2) ∙ sym (rolls-Paren x span) ∙ e)
      of_layer i m f (Factor-F.Not x span) e h = (inr (inr (inr (inr (inl x)))), (h.0, (h.1.at, h.1.mark, h.1.item)), ap (a_factor.Not x) (sym h.2) ∙ sym (rolls-Not x span) ∙ e)
      of_layer i m f (Factor-F.Set [] span) e h =
          (inr (inr (inr (inr (inr (inl tt))))), (h.0, (h.1.at, h.1.opens, subst (λ a. Takes k.CloseBracket a m) (sym h.1.inside) h.1.closes)), ap (a_factor.Set []) (sym h.2) ∙ sym (rolls-Set [] span) ∙ e)
      of_layer i m f (Factor-F.Set (x ∷ xs) span) e h =
          (inr (inr (inr (inr (inr (inr (x ∷ xs, tt)))))), (h.0, (h.1.at, h.1.opens, (h.1.mid, h.1.inside, h.1.closes))), ap (a_factor.Set (x ∷ xs)) (sym h.2) ∙ sym (rolls-Set (x ∷ xs) span) ∙ e)

      layered : (i m : Input) (f : Factor) (l : FactorLayer) → out-Factor f ≡ l → IsFactorLayer room F l i m → IsFactorLayer room F (out-Factor f) i m
      layered i m f l e h = subst (λ l. IsFactorLayer room F l i m) (sym e) h

      made : (i m : Input) (p : Parts) → Factors.spells p i m → IsFactorLayer room F (out-Factor (make_factor p (between i m))) i m
      made i m (inl n) h = layered i m _ _ (outs-Number n (between i m)) (h, refl)
      made i m (inr (inl c)) h = layered i m _ _ (outs-Char c (between i m)) (h, refl)
      made i m (inr (inr (inl (inl v)))) h = layered i m _ _ (outs-Variable v) h
      made i m (inr (inr (inl (inr (n, (given, u)))))) (a, x, (fits, (b, y, (c, z, w)))) =
          layered i m _ _ (outs-Call n given (between i m)) (fits, record { mid = a; name = x; args = record { at = b; mid = c; opens = y; inside = z; closes = w } }, refl)
      made i m (inr (inr (inr (inl (e, u))))) (fits, (b, y, (c, z, w))) = layered i m _ _ (outs-Paren e (between i m)) (fits, record { at = b; mid = c; opens = y; inside = z; closes = w }, refl)
      made i m (inr (inr (inr (inr (inl f))))) (fits, (b, y, z)) = layered i m _ _ (outs-Not f (between i m)) (fits, record { at = b; mark = y; item = z }, refl)
      made i m (inr (inr (inr (inr (inr (inl u)))))) (fits, (b, y, z)) = layered i m _ _ (outs-Set [] (between i m)) (fits, record { at = b; mid = b; opens = y; inside = refl; closes = z }, refl)
      made i m (inr (inr (inr (inr (inr (inr ([], u))))))) (fits, (b, y, (c, z, w))) = absurd z
      made i m (inr (inr (inr (inr (inr (inr (x ∷ xs, u))))))) (fits, (b, y, (c, z, w))) = layered i m _ _ (outs-Set (x ∷ xs) (between i m)) (fits, record { at = b; mid = c; opens = y; inside = z; closes = w }, refl)

  -- the alternatives, from the last one on
  abbrev set_or : Reading (Unit {0} ⊎ (List Elem × Unit {0}))
  set_or = levelled room k.OpenBracket (choose (is k.CloseBracket) (one (expect k.CloseBracket)) (one (separated k.Comma (elem_over factor)) then one (expect k.CloseBracket)))

  abbrev not_or : Reading (Factor ⊎ (Unit {0} ⊎ (List Elem × Unit {0})))
  not_or = choose (forms.negated room F B).first (levelled room k.Not (one factor)) set_or

  abbrev paren_or : Reading ((Expr × Unit {0}) ⊎ (Factor ⊎ (Unit {0} ⊎ (List Elem × Unit {0}))))
  paren_or = choose (forms.paren room F B).first (levelled room k.OpenParenthesis (one (expr_over factor) then one (expect k.CloseParenthesis))) not_or

  abbrev read_named : Reading (Variable ⊎ (Name × (Args × Unit {0})))
  read_named = looked (forms.calls room) (forms.variable room F B).first (one (variable_over room factor)) read_call

  abbrev named_or : Reading ((Variable ⊎ (Name × (Args × Unit {0}))) ⊎ ((Expr × Unit {0}) ⊎ (Factor ⊎ (Unit {0} ⊎ (List Elem × Unit {0})))))
  named_or = choose (forms.named room F B).first read_named paren_or

  abbrev char_or : Reading (ℕ ⊎ ((Variable ⊎ (Name × (Args × Unit {0}))) ⊎ ((Expr × Unit {0}) ⊎ (Factor ⊎ (Unit {0} ⊎ (List Elem × Unit {0}))))))
  char_or = choose (is k.Char) (one char) named_or

  abbrev read_factor : Reading Parts
  read_factor = choose (is k.Number) (one number) char_or

  -- where the word comes that opens a level
  level_here : {A C : Type 0} (word : Kind) (s : Reading A) (f : A → Parser C) (i : Input) → kind i ≡ word → levelled room word s C f i ≡ and_then (nest room i) (λ u. s C f)
  level_here {A} {C} word s f i e = by room
    where
      by : (r : ℕ) → levelled r word s C f i ≡ and_then (nest r i) (λ u. s C f)
      by zero = refl
      by (suc r) = rw (some_room (suc r) (omega arith), expect_complete word i (next i) (record { kind = e; next = refl })) refl

  module _ (f : Parts → Parser Factor) (i : Input) where
    past_number : is k.Number (kind i) ≡ false → read_factor Factor f i ≡ char_or Factor (λ y. f (inr y)) i
    past_number e = chosen_other (is k.Number) (one number) char_or f i e

    past_char : is k.Char (kind i) ≡ false → char_or Factor (λ y. f (inr y)) i ≡ named_or Factor (λ y. f (inr (inr y))) i
    past_char e = chosen_other (is k.Char) (one char) named_or (λ y. f (inr y)) i e

    past_named : (forms.named room F B).first (kind i) ≡ false → named_or Factor (λ y. f (inr (inr y))) i ≡ paren_or Factor (λ y. f (inr (inr (inr y)))) i
    past_named e = chosen_other (forms.named room F B).first read_named paren_or (λ y. f (inr (inr y))) i e

    past_paren : (forms.paren room F B).first (kind i) ≡ false → paren_or Factor (λ y. f (inr (inr (inr y)))) i ≡ not_or Factor (λ y. f (inr (inr (inr (inr y))))) i
    past_paren e = chosen_other (forms.paren room F B).first (levelled room k.OpenParenthesis (one (expr_over factor) then one (expect k.CloseParenthesis))) not_or (λ y. f (inr (inr (inr y)))) i e

    past_not : (forms.negated room F B).first (kind i) ≡ false → not_or Factor (λ y. f (inr (inr (inr (inr y))))) i ≡ set_or Factor (λ y. f (inr (inr (inr (inr (inr y)))))) i
    past_not e = chosen_other (forms.negated room F B).first (levelled room k.Not (one factor)) set_or (λ y. f (inr (inr (inr (inr y))))) i e

  -- a name and what stands behind it
  named_same : (i : Input) → kind i ≡ k.Name → named room factor i ≡ read_named Factor (λ y. closed make_factor (start i) (inr (inr (inl y)))) i
  unfolding named call_after variable_over make_factor
  named_same i e = by (forms.calls room (kind (next i))) refl
    where
      after_name : Variable ⊎ (Name × (Args × Unit {0})) → Parser Factor
      after_name y = closed make_factor (start i) (inr (inr (inl y)))

      one_name : (n : Name) × (name i ≡ Ok (n, next i))
      one_name = name_known.there i e

      plain : (x : Kind) → forms.calls room x ≡ false → named_by room factor (start i) one_name.0 x ≡ plain_after room factor (start i) one_name.0
      plain k.OpenParenthesis c = rw (not_false (room == 0) c) refl
      plain _ c = refl

      calling : (x : Kind) → forms.calls room x ≡ true → named_by room factor (start i) one_name.0 x ≡ call_after room factor (start i) one_name.0
      calling k.OpenParenthesis c = rw (not_true (room == 0) c) refl
      calling _ c = absurd (cc)

      by : (b : Bool) → forms.calls room (kind (next i)) ≡ b → named room factor i ≡ read_named Factor (λ y. closed make_factor (start i) (inr (inr (inl y)))) i
      by true c =
          let left = ap (λ o. and_then o (λ n a. named_by room factor (start i) n (kind a) a)) one_name.1 ∙ ap (λ (p : Parser Factor). p (next i)) (calling (kind (next i)) c) in
          let test : ((forms.variable room F B).first (kind i) && not (forms.calls room (kind (next i)))) ≡ false = rw (ap (forms.variable room F B).first e, c) refl in
          let right = ap (λ b. chosen b (one (variable_over room factor) Factor (λ v. after_name (inl v))) (read_call Factor (λ y. after_name (inr y))) i) test in
          let read = ap (λ o. and_then o (λ n. levelled room k.OpenParenthesis (one (args_over factor) then one (expect k.CloseParenthesis)) Factor (λ y. after_name (inr (n, y))))) one_name.1 in
          let opens = level_here k.OpenParenthesis (one (args_over factor) then one (expect k.CloseParenthesis)) (λ y. after_name (inr (one_name.0, y))) (next i) (is_it k.OpenParenthesis (kind (next i)) (both_of (is k.OpenParenthesis (kind (next i))) _ c).0) in
          left ∙ sym (right ∙ read ∙ opens)
      by false c =
          let left = ap (λ o. and_then o (λ n a. named_by room factor (start i) n (kind a) a)) one_name.1 ∙ ap (λ (p : Parser Factor). p (next i)) (plain (kind (next i)) c) in
          let test : ((forms.variable room F B).first (kind i) && not (forms.calls room (kind (next i)))) ≡ true = rw (ap (forms.variable room F B).first e, c) refl in
          let right = ap (λ b. chosen b (one (variable_over room factor) Factor (λ v. after_name (inl v))) (read_call Factor (λ y. after_name (inr y))) i) test in
          let read = ap (λ o. and_then (and_then o (variable_after room factor (start i))) (λ v. after_name (inl v))) one_name.1 in
          left ∙ sym (right ∙ read)

  -- a set, empty where the bracket closes at once
  set_same : (i : Input) → kind i ≡ k.OpenBracket → set_over room factor i ≡ set_or Factor (λ y. closed make_factor (start i) (inr (inr (inr (inr (inr y)))))) i
  unfolding set_over elems_over sees make_factor
  set_same i e = by room ∙ sym (level_here k.OpenBracket (choose (is k.CloseBracket) (one (expect k.CloseBracket)) (one (separated k.Comma (elem_over factor)) then one (expect k.CloseBracket))) (λ y. closed make_factor (start i) (inr (inr (inr (inr (inr y)))))) i e)
    where
      closes : (b : Bool) → and_then ((if b then Ok ([], next i) else separated k.Comma (elem_over factor) (next i))) (λ xs. expect k.CloseBracket >>= λ v. since (start i) >>= λ span. pure (a_factor.Set xs span))
          ≡ chosen b (one (expect k.CloseBracket) Factor (λ y. closed make_factor (start i) (inr (inr (inr (inr (inr (inl y)))))))) ((one (separated k.Comma (elem_over factor)) then one (expect k.CloseBracket)) Factor (λ y. closed make_factor (start i) (inr (inr (inr (inr (inr (inr y)))))))) (next i)
      closes true = refl
      closes false = refl

      by : (r : ℕ) → and_then (nest r i) (λ u. elems_over factor >>= λ xs. expect k.CloseBracket >>= λ v. since (start i) >>= λ span. pure (a_factor.Set xs span)) ≡ and_then (nest r i) (λ u. choose (is k.CloseBracket) (one (expect k.CloseBracket)) (one (separated k.Comma (elem_over factor)) then one (expect k.CloseBracket)) Factor (λ y. closed make_factor (start i) (inr (inr (inr (inr (inr y)))))))
      by zero = refl
      by (suc r) = closes (is k.CloseBracket (kind (next i)))

  factor_same : (i : Input) → factor_over room factor i ≡ read_factor Factor (closed make_factor (start i)) i
  unfolding factor_over number_factor char_factor paren_over not_over make_factor
  factor_same i = by (kind i) refl
    where
      f : Parts → Parser Factor
      f = closed make_factor (start i)

      left_side : (x : Kind) → kind i ≡ x → factor_over room factor i ≡ factor_by room factor x i
      left_side x e = ap (λ x. factor_by room factor x i) e

      by : (x : Kind) → kind i ≡ x → factor_over room factor i ≡ read_factor Factor (closed make_factor (start i)) i
      by k.Number e = left_side k.Number e ∙ sym (chosen_one (is k.Number) (one number) char_or (closed make_factor (start i)) i (ap (is k.Number) e))
      by k.Char e = left_side k.Char e ∙ sym (past_number (closed make_factor (start i)) i (ap (is k.Number) e) ∙ chosen_one (is k.Char) (one char) named_or (λ y. closed make_factor (start i) (inr y)) i (ap (is k.Char) e))
      by k.Name e =
          left_side k.Name e ∙ named_same i e ∙ sym (past_number (closed make_factor (start i)) i (ap (is k.Number) e) ∙ past_char (closed make_factor (start i)) i (ap (is k.Char) e)
          ∙ chosen_one (forms.named room F B).first read_named paren_or (λ y. closed make_factor (start i) (inr (inr y))) i (ap (forms.named room F B).first e))
      by k.OpenParenthesis e =
          left_side k.OpenParenthesis e ∙ sym (past_number (closed make_factor (start i)) i (ap (is k.Number) e) ∙ past_char (closed make_factor (start i)) i (ap (is k.Char) e) ∙ past_named (closed make_factor (start i)) i (ap (forms.named room F B).first e)
          ∙ chosen_one (forms.paren room F B).first (levelled room k.OpenParenthesis (one (expr_over factor) then one (expect k.CloseParenthesis))) not_or (λ y. closed make_factor (start i) (inr (inr (inr y)))) i (ap (forms.paren room F B).first e)
          ∙ level_here k.OpenParenthesis (one (expr_over factor) then one (expect k.CloseParenthesis)) (λ y. closed make_factor (start i) (inr (inr (inr (inl y))))) i e)
      by k.Not e =
          left_side k.Not e ∙ sym (past_number (closed make_factor (start i)) i (ap (is k.Number) e) ∙ past_char (closed make_factor (start i)) i (ap (is k.Char) e) ∙ past_named (closed make_factor (start i)) i (ap (forms.named room F B).first e)
          ∙ past_paren (closed make_factor (start i)) i (ap (forms.paren room F B).first e)
          ∙ chosen_one (forms.negated room F B).first (levelled room k.Not (one factor)) set_or (λ y. closed make_factor (start i) (inr (inr (inr (inr y))))) i (ap (forms.negated room F B).first e)
          ∙ level_here k.Not (one factor) (λ y. closed make_factor (start i) (inr (inr (inr (inr (inl y)))))) i e)
      by k.OpenBracket e =
          left_side k.OpenBracket e ∙ set_same i e ∙ sym (past_number (closed make_factor (start i)) i (ap (is k.Number) e) ∙ past_char (closed make_factor (start i)) i (ap (is k.Char) e) ∙ past_named (closed make_factor (start i)) i (ap (forms.named room F B).first e)
          ∙ past_paren (closed make_factor (start i)) i (ap (forms.paren room F B).first e) ∙ past_not (closed make_factor (start i)) i (ap (forms.negated room F B).first e))
      by x e =
          left_side x e ∙ sym (past_number (closed make_factor (start i)) i (ap (is k.Number) e) ∙ past_char (closed make_factor (start i)) i (ap (is k.Char) e) ∙ past_named (closed make_factor (start i)) i (ap (forms.named room F B).first e)
          ∙ past_paren (closed make_factor (start i)) i (ap (forms.paren room F B).first e) ∙ past_not (closed make_factor (start i)) i (ap (forms.negated room F B).first e)
          ∙ level_refused room k.OpenBracket (choose (is k.CloseBracket) (one (expect k.CloseBracket)) (one (separated k.Comma (elem_over factor)) then one (expect k.CloseBracket))) (λ y. closed make_factor (start i) (inr (inr (inr (inr (inr y)))))) i (λ d. let no : x ≡ k.OpenBracket = sym e ∙ d in cc))

  pub factor_layer_lawful : IsLawful (forms.factor_layer room F B) (factor_over room factor)
  factor_layer_lawful =
      begun_lawful (BeginsFactorLayer room F B) _ (factor_over room factor)
      (rules.spanned (factor_over room factor) factor_is refl
      (rules.or_last rules.number.rest (rules.or_last rules.char.rest (rules.or_last named_last (rules.or_last paren_read.rest (rules.or_last negated_read.rest set_read.rest refl refl) refl refl) refl refl) refl refl) refl refl) factor_same)
      to back
    where
      to : (i m : Input) → Factors.begins i m → BeginsFactorLayer room F B i m
      to i m (inl h) = inl h
      to i m (inr (inl h)) = inr (inl h)
      to i m (inr (inr (inl (inl h)))) = inr (inr (inl h))
      to i m (inr (inr (inl (inr h)))) = inr (inr (inr (inl h)))
      to i m (inr (inr (inr h))) = inr (inr (inr (inr h)))

      back : (i m : Input) → BeginsFactorLayer room F B i m → Factors.begins i m
      back i m (inl h) = inl h
      back i m (inr (inl h)) = inr (inl h)
      back i m (inr (inr (inl h))) = inr (inr (inl (inl h)))
      back i m (inr (inr (inr (inl h)))) = inr (inr (inl (inr h)))
      back i m (inr (inr (inr (inr h)))) = inr (inr (inr h))

-- ---- where this many levels may open

pub factor_below_lawful : (room : ℕ) → IsLawful (forms.factor (FactorBelow room) (BeginsFactorBelow room)) (factor_below room)
unfolding factor_below
factor_below_lawful zero = never_lawful false (FactorBelow zero) forms.factor_first forms.factor_on (λ i j f h. h)
factor_below_lawful (suc room) =
    known_lawful (forms.factor_layer room (FactorBelow room) (BeginsFactorBelow room)) (factor_over room (factor_below room)) (factor_layer_lawful room (FactorBelow room) (BeginsFactorBelow room) (factor_below room) (factor_below_lawful room))
    forms.factor_first forms.factor_on refl refl

-- where this many more may open
pub expr_lawful_at : (room : ℕ) → IsLawful (forms.expr (IsFactor room) (BeginsFactorBelow (suc room))) (expr room)
unfolding expr factor_below
expr_lawful_at room = expr_lawful (IsFactor room) (BeginsFactorBelow (suc room)) (factor_below (suc room)) (factor_below_lawful (suc room))

pub args_lawful_at : (room : ℕ) → IsLawful (forms.args (IsFactor room) (BeginsFactorBelow (suc room))) (args room)
unfolding args factor_below
args_lawful_at room = args_lawful (IsFactor room) (BeginsFactorBelow (suc room)) (factor_below (suc room)) (factor_below_lawful (suc room))

pub variable_lawful_at : (room : ℕ) → IsLawful (forms.variable room (FactorBelow room) (BeginsFactorBelow room)) (variable room)
unfolding variable
variable_lawful_at room = variable_lawful room (FactorBelow room) (BeginsFactorBelow room) (factor_below room) (factor_below_lawful room)
