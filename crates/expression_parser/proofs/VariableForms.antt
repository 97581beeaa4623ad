-- The laws of selectors and variables: each form is read by its parser.
use Rattle.std.specs.Prelude.{◌==◌, ◌&&◌, ◌||◌, not}
use Rattle.std.proofs.Common.{◌≡◌, ℕ, zero, suc, Ok, Bool, true, false, List, Some, None, sym, refl, ap, ◌∙◌, subst, inl, inr, ◌⊎◌}
use Rattle.estelle_tree.specs.declared.kind.Kind.{Kind}
use Rattle.estelle_tree.specs.declared.kind.Kind.TheVariants as k
use Rattle.estelle_tree.specs.declared.tree.name.Name.{Name}
use Rattle.estelle_tree.specs.declared.tree.expression.Factor.{Factor}
use Rattle.estelle_tree.specs.declared.tree.expression.Factor.TheOpen.{Selector-F}
use Rattle.estelle_tree.specs.declared.tree.expression.Selector.{Selector, out-Selector, roll-Selector}
use Rattle.estelle_tree.specs.declared.tree.expression.Selector.TheVariants as selector
use Rattle.estelle_tree.specs.declared.tree.expression.Selector.TheVariants.{rolls-Index, rolls-Field, outs-Index, outs-Field}
use Rattle.estelle_tree.specs.declared.tree.expression.Factor.TheViews.{roll-out-Variable, roll-out-Selector}
use Rattle.estelle_tree.specs.declared.tree.expression.Expr.{Expr}
use Rattle.estelle_tree.specs.declared.tree.expression.Variable.{out-Variable, roll-Variable}
use Rattle.estelle_tree.specs.Input.{Input, kind, next}
use Rattle.estelle_tree.specs.Spans.{SelectorLayer}
use Rattle.estelle_tree.specs.Spelling.{Spelling}
use Rattle.estelle_tree.specs.Beginning.{Beginning}
use Rattle.estelle_tree.specs.Expressions.{SelectorLayerOf, SelectorOf, VariableOf}
use Rattle.token_reader.specs.Reader.{Parser, ◌>>=◌, and_then, pure, take, expect, name}
use Rattle.token_reader.proofs.Complete.{expect_complete}
use Rattle.token_reader.specs.Lists.{separated}
use Rattle.syntax_forms.specs.Kinds.{is}
use Rattle.syntax_forms.specs.Form as form
use Rattle.syntax_forms.specs.Repeats as repeats
use Rattle.syntax_forms.specs.Form.{Form, ◌▸◌, ◌⊕◌}
use Rattle.syntax_forms.specs.Reading.{Reading, one, ◌then◌, choose, levelled}
use Rattle.expression_parser.specs.Forms as forms
use Rattle.expression_parser.specs.Expression.{expr_over, nest, index_over, field, selector_by, selector_over, variable_after, variable_over}
use Rattle.syntax_forms.proofs.KindLaws.{when, not_true, not_false}
use Rattle.syntax_forms.proofs.ChoiceForms.{chosen_one, chosen_other, some_room, has_room}
use Rattle.syntax_forms.proofs.StepForms.{IsStep, told_step, many_read}
use Rattle.syntax_forms.proofs.NodeForms.{IsNode}
use Rattle.syntax_forms.proofs.Lawful.{IsLawful}
use Rattle.syntax_forms.proofs.Rules as rules
use Rattle.expression_parser.proofs.TermForms.{expr_lawful}

nest_takes : (room : ℕ) → (room == 0) ≡ false → nest room ≡ take
nest_takes zero e = absurd (cc)
nest_takes (suc room) e = refl

-- ---- variables and factors, over the parser of the factors one level down

module _ (room : ℕ) (F : Spelling Factor) (B : Beginning) (factor : Parser Factor) (law : IsLawful (forms.factor F B) factor) where
  abbrev Selecting : Form ((List Expr × Unit {0}) ⊎ (Unit {0} × Name))
  Selecting = form.level room k.OpenBracket (form.separated k.Comma (forms.expr F B) ▸ form.word k.CloseBracket) ⊕ form.word k.Dot ▸ form.name

  make_selector : (List Expr × Unit {0}) ⊎ (Unit {0} × Name) → Selector
  make_selector (inl (exprs, u)) = selector.Index exprs
  make_selector (inr (u, n)) = selector.Field n

  selector_is : IsNode (SelectorOf room F) Selecting.spells (λ p span. make_selector p)
  unfolding make_selector
  selector_is = record { opened = λ i m s h. of_layer i m s (out-Selector s) (roll-out-Selector s) h; made = made }
    where
      of_layer : (i m : Input) (s : Selector) (l : SelectorLayer) → roll-Selector l ≡ s → SelectorLayerOf room F l i m → (p : (List Expr × Unit {0}) ⊎ (Unit {0} × Name)) × Selecting.spells p i m × (make_selector p ≡ s)
      of_layer i m s (Selector-F.Index exprs) e h = (inl (exprs, tt), (h.0, (h.1.at, h.1.opens, (h.1.mid, h.1.inside, h.1.closes))), sym (rolls-Index exprs) ∙ e)
      of_layer i m s (Selector-F.Field n) e h = (inr (tt, n), (h.at, h.mark, h.item), sym (rolls-Field n) ∙ e)

      made : (i m : Input) (p : (List Expr × Unit {0}) ⊎ (Unit {0} × Name)) → Selecting.spells p i m → SelectorOf room F (make_selector p) i m
      made i m (inl (exprs, u)) (fits, (a, x, (b, y, z))) = subst (λ l. SelectorLayerOf room F l i m) (sym (outs-Index exprs)) (fits, record { at = a; mid = b; opens = x; inside = y; closes = z })
      made i m (inr (u, n)) (a, x, y) = subst (λ l. SelectorLayerOf room F l i m) (sym (outs-Field n)) (record { at = a; mark = x; item = y })

  abbrev read_selector : Reading ((List Expr × Unit {0}) ⊎ (Unit {0} × Name))
  read_selector =
      choose (form.level room k.OpenBracket (form.separated k.Comma (forms.expr F B) ▸ form.word k.CloseBracket)).first (levelled room k.OpenBracket (one (separated k.Comma (expr_over factor)) then one (expect k.CloseBracket)))
      (one (expect k.Dot) then one name)

  pub selector_by_form : Parser Selector
  selector_by_form i = read_selector Selector (λ p. pure (make_selector p)) i

  pub selector_lawful : IsLawful (forms.selector room F B) selector_by_form
  unfolding selector_by_form
  selector_lawful =
      rules.made selector_by_form selector_is (rules.or
      (rules.level room k.OpenBracket refl (rules.and (rules.separated k.Comma (expr_lawful F B factor law) refl refl) (rules.word k.CloseBracket refl) refl))
      (rules.and (rules.word k.Dot refl) rules.name refl) refl refl).rest (λ i. refl)

  -- where a selector comes
  abbrev pub selects : Input → Bool
  selects i = is k.Dot (kind i) || (is k.OpenBracket (kind i) && not (room == 0))

  abbrev index_first : Kind → Bool
  index_first = (form.level room k.OpenBracket (form.separated k.Comma (forms.expr F B) ▸ form.word k.CloseBracket)).first

  abbrev read_index : Reading (List Expr × Unit {0})
  read_index = levelled room k.OpenBracket (one (separated k.Comma (expr_over factor)) then one (expect k.CloseBracket))

  abbrev end_selector : (List Expr × Unit {0}) ⊎ (Unit {0} × Name) → Parser Selector
  end_selector p = pure (make_selector p)

  field_here : (i : Input) → kind i ≡ k.Dot → field i ≡ selector_by_form i
  unfolding field selector_by_form make_selector
  field_here i d =
      let here = ap (λ o. and_then o (λ (u : Unit {0}). name >>= λ n. pure (selector.Field n))) (expect_complete k.Dot i (next i) (record { kind = d; next = refl })) in
      sym (chosen_other index_first read_index (one (expect k.Dot) then one name) end_selector i (ap index_first d) ∙ here)

  index_here : (i : Input) → kind i ≡ k.OpenBracket → (room == 0) ≡ false → index_over room factor i ≡ selector_by_form i
  unfolding index_over selector_by_form make_selector
  index_here i d n =
      let here : levelled room k.OpenBracket (one (separated k.Comma (expr_over factor)) then one (expect k.CloseBracket)) Selector (λ x. end_selector (inl x)) i ≡ index_over room factor i =
      rw (n, expect_complete k.OpenBracket i (next i) (record { kind = d; next = refl }), nest_takes room n) refl in
      sym (chosen_one index_first read_index (one (expect k.Dot) then one name) end_selector i (ap index_first d) ∙ here)

  selector_yes : (i : Input) → selects i ≡ true → selector_over room factor i ≡ and_then (selector_by_form i) (λ s. pure (Some s))
  unfolding selector_over
  selector_yes i e = by (kind i) refl e
    where
      by : (x : Kind) → kind i ≡ x → (is k.Dot x || (is k.OpenBracket x && not (room == 0))) ≡ true → selector_over room factor i ≡ and_then (selector_by_form i) (λ s. pure (Some s))
      by k.Dot d e = ap (λ x. selector_by room factor x i) d ∙ ap (λ o. and_then o (λ s. pure (Some s))) (field_here i d)
      by k.OpenBracket d e =
          let n = not_true (room == 0) e in
          ap (λ x. selector_by room factor x i) d ∙ rw n (ap (λ o. and_then o (λ s. pure (Some s))) (index_here i d n))
      by x d e = absurd (cc)

  selector_no : (i : Input) → selects i ≡ false → selector_over room factor i ≡ Ok (None, i)
  unfolding selector_over
  selector_no i e = by (kind i) refl e
    where
      by : (x : Kind) → kind i ≡ x → (is k.Dot x || (is k.OpenBracket x && not (room == 0))) ≡ false → selector_over room factor i ≡ Ok (None, i)
      by k.Dot d e = absurd (cc)
      by k.OpenBracket d e = ap (λ x. selector_by room factor x i) d ∙ rw (not_false (room == 0) e) refl
      by x d e = ap (λ x. selector_by room factor x i) d

  selector_piece : (i : Input) → selects i ≡ true → (forms.selector room F B).begins i (next i)
  selector_piece i e = by (kind i) refl e
    where
      by : (x : Kind) → kind i ≡ x → (is k.Dot x || (is k.OpenBracket x && not (room == 0))) ≡ true → (forms.selector room F B).begins i (next i)
      by k.Dot d e = inr (inr (next i, record { kind = d; next = refl }, inl refl))
      by k.OpenBracket d e = inl (inr (has_room room (not_true (room == 0) e), (next i, record { kind = d; next = refl }, inl ((expr_lawful F B factor law).form.nothing (next i)))))
      by x d e = absurd (cc)

  selector_token : (i : Input) → selects i ≡ true → kind i ≡ k.Nothing → ⊥
  selector_token i e n = let no : false ≡ true = sym (let none : selects i ≡ false = rw n refl in none) ∙ e in cc

  pub selector_step : IsStep (forms.selector room F B) (selector_over room factor)
  selector_step = told_step (forms.selector room F B) selector_by_form selector_lawful (selector_over room factor) selects selector_yes selector_no spelled quiet first selector_piece selector_token
    where
      spelled : (i m : Input) (s : Selector) → SelectorOf room F s i m → selects i ≡ true
      spelled i m s h = by (out-Selector s) h
        where
          by : (l : SelectorLayer) → SelectorLayerOf room F l i m → selects i ≡ true
          by (Selector-F.Index exprs) h = rw (h.1.opens.kind, some_room room h.0) refl
          by (Selector-F.Field n) h = rw h.mark.kind refl

      quiet : (i m : Input) → selects i ≡ false → (forms.selector room F B).begins i m → i ≡ m
      quiet i m e (inl (inl same)) = same
      quiet i m e (inl (inr t)) = absurd (let yes : selects i ≡ true = rw (t.1.1.kind, some_room room t.0) refl in let no : true ≡ false = sym yes ∙ e in cc)
      quiet i m e (inr (inl same)) = same
      quiet i m e (inr (inr t)) = absurd (let yes : selects i ≡ true = rw t.1.kind refl in let no : true ≡ false = sym yes ∙ e in cc)

      first : (i : Input) → (forms.selector room F B).first (kind i) ≡ false → selects i ≡ false
      first i e = when (selects i) (λ s. by (kind i) s e)
        where
          by : (x : Kind) → (is k.Dot x || (is k.OpenBracket x && not (room == 0))) ≡ true → (forms.selector room F B).first x ≡ false → ⊥
          by k.Dot s e = cc
          by k.OpenBracket s e = cc
          by x s e = cc

  variable_is : IsNode (VariableOf room F) (form.name ▸ repeats.many (forms.selector room F B)).spells (λ p span. roll-Variable (record { name = p.0; selectors = p.1; span = span }))
  variable_is = record {
    opened = λ i m v h. (((out-Variable v).name, (out-Variable v).selectors), (h.mid, h.name, h.selectors), ap (λ span. roll-Variable (record { name = (out-Variable v).name; selectors = (out-Variable v).selectors; span = span })) (sym h.span) ∙ roll-out-Variable v);
    made = λ i m p h. record { mid = h.0; name = h.1; selectors = h.2; span = refl };
  }

  pub variable_lawful : IsLawful (forms.variable room F B) (variable_over room factor)
  unfolding variable_over variable_after
  variable_lawful = rules.spanned (variable_over room factor) variable_is refl (rules.and rules.name (many_read (forms.selector room F B) (selector_over room factor) selector_step refl refl) refl).rest (λ i. refl)
