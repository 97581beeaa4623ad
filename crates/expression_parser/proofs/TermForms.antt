-- The laws of terms, simple expressions, expressions and lists of them: each form is read by its parser.
use Rattle.std.proofs.Common.{◌≡◌, Some, None, sym, refl, ap, ◌∙◌, inl, inr, ◌⊎◌}
use Rattle.estelle_tree.specs.declared.kind.Kind.{Kind}
use Rattle.estelle_tree.specs.declared.kind.Kind.TheVariants as k
use Rattle.estelle_tree.specs.declared.tree.expression.Relation.{Relation}
use Rattle.estelle_tree.specs.declared.tree.expression.Relation.TheVariants as relation
use Rattle.estelle_tree.specs.declared.tree.expression.Adding.{Adding}
use Rattle.estelle_tree.specs.declared.tree.expression.Adding.TheVariants as adding
use Rattle.estelle_tree.specs.declared.tree.expression.Multiplying.{Multiplying}
use Rattle.estelle_tree.specs.declared.tree.expression.Multiplying.TheVariants as multiplying
use Rattle.estelle_tree.specs.declared.tree.expression.Factor.{Factor}
use Rattle.estelle_tree.specs.declared.tree.expression.Factor.TheViews.{roll-out-Term, roll-out-Simple, roll-out-Expr, roll-out-Args, roll-out-Elem, out-roll-Simple, out-roll-Expr, out-roll-Args, out-roll-Elem}
use Rattle.estelle_tree.specs.declared.tree.expression.Expr.{out-Expr, roll-Expr}
use Rattle.estelle_tree.specs.declared.tree.expression.Simple.{out-Simple, roll-Simple}
use Rattle.estelle_tree.specs.declared.tree.expression.Term.{out-Term, roll-Term}
use Rattle.estelle_tree.specs.declared.tree.expression.Elem.{out-Elem, roll-Elem}
use Rattle.estelle_tree.specs.declared.tree.expression.Args.{out-Args, roll-Args}
use Rattle.estelle_tree.specs.Spelling.{Spelling}
use Rattle.estelle_tree.specs.Beginning.{Beginning}
use Rattle.estelle_tree.specs.Types.{of_sign}
use Rattle.estelle_tree.specs.Expressions.{of_relation, of_adding, of_multiplying, TermOf, SimpleOf, ExprOf, ArgsOf, ElemOf}
use Rattle.token_reader.specs.Reader.{Parser}
use Rattle.syntax_forms.specs.Form as form
use Rattle.syntax_forms.specs.Repeats as repeats
use Rattle.syntax_forms.specs.Form.{◌▸◌}
use Rattle.expression_parser.specs.Forms as forms
use Rattle.expression_parser.specs.Expression.{sign_of, adding_of, multiplying_of, relation_of, term_over, simple_over, expr_over, args_over, elem_over}
use Rattle.syntax_forms.proofs.KindLaws.{back_of}
use Rattle.syntax_forms.proofs.Signs.{sign_forth, sign_back}
use Rattle.syntax_forms.proofs.NodeForms.{IsNode}
use Rattle.syntax_forms.proofs.Lawful.{IsLawful}
use Rattle.syntax_forms.proofs.Rules as rules

-- ---- the terminals of operators, back and forth

adding_forth : (o : Adding) → adding_of (of_adding o) ≡ Some o
adding_forth adding.Plus = refl
adding_forth adding.Minus = refl
adding_forth adding.Or = refl

multiplying_forth : (o : Multiplying) → multiplying_of (of_multiplying o) ≡ Some o
multiplying_forth multiplying.Star = refl
multiplying_forth multiplying.Div = refl
multiplying_forth multiplying.Mod = refl
multiplying_forth multiplying.And = refl

relation_forth : (o : Relation) → relation_of (of_relation o) ≡ Some o
relation_forth relation.Equal = refl
relation_forth _ = refl

adding_back : (x : Kind) (o : Adding) → adding_of x ≡ Some o → x ≡ of_adding o
adding_back = back_of adding_of of_adding told
  where
    told : (x : Kind) → (adding_of x ≡ None) ⊎ ((o : Adding) × (adding_of x ≡ Some o) × (x ≡ of_adding o))
    told k.Plus = inr (adding.Plus, refl, refl)
    told k.Minus = inr (adding.Minus, refl, refl)
    told k.Or = inr (adding.Or, refl, refl)
    told _ = inl refl

multiplying_back : (x : Kind) (o : Multiplying) → multiplying_of x ≡ Some o → x ≡ of_multiplying o
multiplying_back = back_of multiplying_of of_multiplying told
  where
    told : (x : Kind) → (multiplying_of x ≡ None) ⊎ ((o : Multiplying) × (multiplying_of x ≡ Some o) × (x ≡ of_multiplying o))
    told k.Star = inr (multiplying.Star, refl, refl)
    told k.Div = inr (multiplying.Div, refl, refl)
    told k.Mod = inr (multiplying.Mod, refl, refl)
    told k.And = inr (multiplying.And, refl, refl)
    told _ = inl refl

relation_back : (x : Kind) (o : Relation) → relation_of x ≡ Some o → x ≡ of_relation o
relation_back = back_of relation_of of_relation told
  where
    told : (x : Kind) → (relation_of x ≡ None) ⊎ ((o : Relation) × (relation_of x ≡ Some o) × (x ≡ of_relation o))
    told k.Equal = inr (relation.Equal, refl, refl)
    told k.NotEqual = inr (relation.NotEqual, refl, refl)
    told k.Less = inr (relation.Less, refl, refl)
    told k.AtMost = inr (relation.AtMost, refl, refl)
    told k.Greater = inr (relation.Greater, refl, refl)
    told k.AtLeast = inr (relation.AtLeast, refl, refl)
    told k.In = inr (relation.Member, refl, refl)
    told _ = inl refl

-- ---- over the parser of the factors

module _ (F : Spelling Factor) (B : Beginning) (factor : Parser Factor) (law : IsLawful (forms.factor F B) factor) where
  term_is : IsNode (TermOf F) (forms.factor F B ▸ repeats.many (repeats.marked multiplying_of of_multiplying (forms.factor F B))).spells (λ p span. roll-Term (record { first = p.0; others = p.1; span = span }))
  term_is = record {
    opened = λ i m t h. (((out-Term t).first, (out-Term t).others), (h.mid, h.first, h.others), ap (λ span. roll-Term (record { first = (out-Term t).first; others = (out-Term t).others; span = span })) (sym h.span) ∙ roll-out-Term t);
    made = λ i m p h. record { mid = h.0; first = h.1; others = h.2; span = refl };
  }

  pub term_lawful : IsLawful (forms.term F B) (term_over factor)
  unfolding term_over
  term_lawful = rules.spanned (term_over factor) term_is refl (rules.and (rules.part law) (rules.many_marked multiplying_of of_multiplying multiplying_forth multiplying_back refl law refl) refl).rest (λ i. refl)

  simple_is : IsNode (SimpleOf F) (form.mark sign_of of_sign ▸ forms.term F B ▸ repeats.many (repeats.marked adding_of of_adding (forms.term F B))).spells (λ p span. roll-Simple (record { sign = p.0; first = p.1.0; others = p.1.1; span = span }))
  simple_is = record {
    opened = λ i m t h. (((out-Simple t).sign, ((out-Simple t).first, (out-Simple t).others)), (h.at, h.sign, (h.mid, h.first, h.others)), ap (λ span. roll-Simple (record { sign = (out-Simple t).sign; first = (out-Simple t).first; others = (out-Simple t).others; span = span })) (sym h.span) ∙ roll-out-Simple t);
    made = λ i m p h. record { at = h.0; mid = h.2.0; sign = rw out-roll-Simple h.1; first = rw out-roll-Simple h.2.1; others = rw out-roll-Simple h.2.2; span = rw out-roll-Simple refl };
  }

  pub simple_lawful : IsLawful (forms.simple F B) (simple_over factor)
  unfolding simple_over
  simple_lawful =
      rules.spanned (simple_over factor) simple_is refl (rules.and (rules.mark sign_of of_sign sign_forth sign_back refl)
      (rules.and (rules.part term_lawful) (rules.many_marked adding_of of_adding adding_forth adding_back refl term_lawful refl) refl) refl).rest (λ i. refl)

  expr_is : IsNode (ExprOf F) (forms.simple F B ▸ repeats.may (repeats.marked relation_of of_relation (forms.simple F B))).spells (λ p span. roll-Expr (record { left = p.0; right = p.1; span = span }))
  expr_is = record {
    opened = λ i m t h. (((out-Expr t).left, (out-Expr t).right), (h.mid, h.left, h.right), ap (λ span. roll-Expr (record { left = (out-Expr t).left; right = (out-Expr t).right; span = span })) (sym h.span) ∙ roll-out-Expr t);
    made = λ i m p h. record { mid = h.0; left = rw out-roll-Expr h.1; right = rw out-roll-Expr h.2; span = rw out-roll-Expr refl };
  }

  pub expr_lawful : IsLawful (forms.expr F B) (expr_over factor)
  unfolding expr_over
  expr_lawful = rules.spanned (expr_over factor) expr_is refl (rules.and_last (rules.part simple_lawful) (rules.may_marked relation_of of_relation relation_forth relation_back refl simple_lawful) refl) (λ i. refl)

  args_is : IsNode (ArgsOf F) (form.separated k.Comma (forms.expr F B)).spells (λ p span. roll-Args (record { exprs = p; span = span }))
  args_is = record {
    opened = λ i m t h. ((out-Args t).exprs, h.exprs, ap (λ span. roll-Args (record { exprs = (out-Args t).exprs; span = span })) (sym h.span) ∙ roll-out-Args t);
    made = λ i m p h. record { exprs = rw out-roll-Args h; span = rw out-roll-Args refl };
  }

  pub args_lawful : IsLawful (forms.args F B) (args_over factor)
  unfolding args_over
  args_lawful = rules.spanned (args_over factor) args_is refl (rules.separated k.Comma expr_lawful refl refl).rest (λ i. refl)

  elem_is : IsNode (ElemOf F) (forms.expr F B ▸ repeats.may (repeats.behind k.Dots (forms.expr F B))).spells (λ p span. roll-Elem (record { first = p.0; last = p.1; span = span }))
  elem_is = record {
    opened = λ i m t h. (((out-Elem t).first, (out-Elem t).last), (h.mid, h.first, h.last), ap (λ span. roll-Elem (record { first = (out-Elem t).first; last = (out-Elem t).last; span = span })) (sym h.span) ∙ roll-out-Elem t);
    made = λ i m p h. record { mid = h.0; first = rw out-roll-Elem h.1; last = rw out-roll-Elem h.2; span = rw out-roll-Elem refl };
  }

  pub elem_lawful : IsLawful (forms.elem F B) (elem_over factor)
  unfolding elem_over
  elem_lawful = rules.spanned (elem_over factor) elem_is refl (rules.and_last (rules.part expr_lawful) (rules.may_behind k.Dots refl expr_lawful) refl) (λ i. refl)
