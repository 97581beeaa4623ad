-- Expressions, cut at any place.
use Rattle.std.proofs.Common.{ℕ, zero, suc, List, [], ◌∷◌, sym, subst}
use Rattle.estelle_tree.specs.declared.kind.Kind.TheVariants as k
use Rattle.estelle_tree.specs.declared.tree.expression.Expr.{out-Expr}
use Rattle.estelle_tree.specs.declared.tree.expression.Simple.{out-Simple}
use Rattle.estelle_tree.specs.declared.tree.expression.Term.{out-Term}
use Rattle.estelle_tree.specs.declared.tree.expression.Factor.{Factor, out-Factor}
use Rattle.estelle_tree.specs.declared.tree.expression.Factor.TheOpen.{Factor-F, Selector-F}
use Rattle.estelle_tree.specs.declared.tree.expression.Elem.{Elem, out-Elem}
use Rattle.estelle_tree.specs.declared.tree.expression.Args.{out-Args}
use Rattle.estelle_tree.specs.declared.tree.expression.Variable.{out-Variable}
use Rattle.estelle_tree.specs.declared.tree.expression.Selector.{out-Selector}
use Rattle.estelle_tree.specs.Input.{Input}
use Rattle.estelle_tree.specs.Spelling.{Spelling}
use Rattle.estelle_tree.specs.Expressions.{of_relation, of_adding, of_multiplying, TermOf, SimpleOf, ExprOf, ArgsOf, ElemOf, ElemsOf, SelectorLayerOf, SelectorOf, VariableOf, IsFactorLayer, FactorBelow, ExprBelow, IsExpr, IsArgs, IsVariable}
use Rattle.estelle_tree.specs.Beginning.{Beginning, OneToken, ◌or◌, Separating}
use Rattle.estelle_tree.specs.BeginsExpressions.{BeginTerm, BeginSimple, BeginExpr, BeginArgs, BeginElem, BeginSelector, BeginVariable, BeginsFactorLayer, BeginsFactorBelow, BeginsExprBelow, BeginsExpr, BeginsArgs, BeginsVariable}
use Rattle.estelle_tree.proofs.Cuts.{Reach, Out, Cut, one, other, stop, token, after, opens, part, mark, chain, separated, last_behind, last_marked, marked}
use Rattle.estelle_tree.proofs.CutTypes.{named, name_cut, takes_number, takes_char}

module _ (F : Spelling Factor) (B : Beginning) (cut : Cut F B) where
  pub term_cut : Cut (TermOf F) (BeginTerm F B)
  term_cut i j c t h r = part _ cut i h.mid j c (out-Term t).first h.first r (λ r. chain _ (marked of_multiplying cut) (out-Term t).others h.mid j j c h.others r (λ r. stop r))

  pub simple_cut : Cut (SimpleOf F) (BeginSimple F B)
  simple_cut i j c s h r =
      mark _ (out-Simple s).sign i h.at j c h.sign r (λ r.
      part _ term_cut h.at h.mid j c (out-Simple s).first h.first r (λ r.
      chain _ (marked of_adding term_cut) (out-Simple s).others h.mid j j c h.others r (λ r. stop r)))

  pub expr_of_cut : Cut (ExprOf F) (BeginExpr F B)
  expr_of_cut i j c e h r = part _ simple_cut i h.mid j c (out-Expr e).left h.left r (λ r. last_marked of_relation simple_cut (out-Expr e).right h.mid j c h.right r)

  pub args_of_cut : Cut (ArgsOf F) (BeginArgs F B)
  args_of_cut i j c a h r = separated _ k.Comma expr_of_cut (out-Args a).exprs i j j c h.exprs r (λ r. stop r)

  pub elem_cut : Cut (ElemOf F) (BeginElem F B)
  elem_cut i j c x h r = part _ expr_of_cut i h.mid j c (out-Elem x).first h.first r (λ r. last_behind k.Dots expr_of_cut (out-Elem x).last h.mid j c h.last r)

  -- what stands in a set constructor, and the bracket that closes it
  elems_cut : (xs : List Elem) (i m j c : Input) → ElemsOf F xs i m → Reach i c → (Reach m c → Out (OneToken k.CloseBracket) m j c)
      → Out (OneToken k.CloseBracket or Separating k.Comma (BeginElem F B) (ElemOf F) (OneToken k.CloseBracket)) i j c
  elems_cut [] i m j c e r rest = one _ _ i j c (subst (λ i. Out (OneToken k.CloseBracket) i j c) (sym e) (rest (subst (λ i. Reach i c) e r)))
  elems_cut (x ∷ xs) i m j c h r rest = other _ _ i j c (separated _ k.Comma elem_cut (x ∷ xs) i m j c h r rest)

module _ (room : ℕ) (F : Spelling Factor) (B : Beginning) (cut : Cut F B) where
  selector_layer_cut : Cut (SelectorLayerOf room F) (BeginSelector room F B)
  selector_layer_cut i j c (Selector-F.Index exprs) h r =
      one _ _ i j c (
      opens _ room h.0 i h.1.at j c h.1.opens r (λ r.
      separated _ k.Comma (expr_of_cut F B cut) exprs h.1.at h.1.mid j c h.1.inside r (λ r.
      token h.1.mid j c h.1.closes r)))
  selector_layer_cut i j c (Selector-F.Field name) h r = other _ _ i j c (after _ i h.at j c h.mark r (λ r. name_cut h.at j c name h.item r))

  selector_cut : Cut (SelectorOf room F) (BeginSelector room F B)
  selector_cut i j c s h r = selector_layer_cut i j c (out-Selector s) h r

  pub variable_of_cut : Cut (VariableOf room F) (BeginVariable room F B)
  variable_of_cut i j c v h r = named _ (out-Variable v).name i h.mid j c h.name r (λ r. chain _ selector_cut (out-Variable v).selectors h.mid j j c h.selectors r (λ r. stop r))

  pub factor_layer_cut : Cut (IsFactorLayer room F) (BeginsFactorLayer room F B)
  factor_layer_cut i j c (Factor-F.Number value span) h r = one _ _ i j c (token i j c (takes_number value i j h.0) r)
  factor_layer_cut i j c (Factor-F.Char value span) h r = other _ _ i j c (one _ _ i j c (token i j c (takes_char value i j h.0) r))
  factor_layer_cut i j c (Factor-F.Variable variable) h r = other _ _ i j c (other _ _ i j c (one _ _ i j c (variable_of_cut i j c variable h r)))
  factor_layer_cut i j c (Factor-F.Call name args span) h r =
      let a = h.1 in
      other _ _ i j c (other _ _ i j c (other _ _ i j c (one _ _ i j c (
      named _ name i a.mid j c a.name r (λ r.
      opens _ room h.0 a.mid a.args.at j c a.args.opens r (λ r.
      part _ (args_of_cut F B cut) a.args.at a.args.mid j c args a.args.inside r (λ r.
      token a.args.mid j c a.args.closes r)))))))
  factor_layer_cut i j c (Factor-F.Paren inner span) h r =
      let a = h.1 in
      other _ _ i j c (other _ _ i j c (other _ _ i j c (other _ _ i j c (one _ _ i j c (
      opens _ room h.0 i a.at j c a.opens r (λ r.
      part _ (expr_of_cut F B cut) a.at a.mid j c inner a.inside r (λ r.
      token a.mid j c a.closes r)))))))
  factor_layer_cut i j c (Factor-F.Not operand span) h r =
      other _ _ i j c (other _ _ i j c (other _ _ i j c (other _ _ i j c (other _ _ i j c (one _ _ i j c (
      opens _ room h.0 i h.1.at j c h.1.mark r (λ r. cut h.1.at j c operand h.1.item r)))))))
  factor_layer_cut i j c (Factor-F.Set elems span) h r =
      let a = h.1 in
      other _ _ i j c (other _ _ i j c (other _ _ i j c (other _ _ i j c (other _ _ i j c (other _ _ i j c (
      opens _ room h.0 i a.at j c a.opens r (λ r.
      elems_cut F B cut elems a.at a.mid j c a.inside r (λ r.
      token a.mid j c a.closes r))))))))

pub factor_below_cut : (room : ℕ) → Cut (FactorBelow room) (BeginsFactorBelow room)
factor_below_cut zero i j c f h r = absurd h
factor_below_cut (suc room) i j c f h r = factor_layer_cut room (FactorBelow room) (BeginsFactorBelow room) (factor_below_cut room) i j c (out-Factor f) h r

pub expr_below_cut : (room : ℕ) → Cut (ExprBelow room) (BeginsExprBelow room)
expr_below_cut room = expr_of_cut (FactorBelow room) (BeginsFactorBelow room) (factor_below_cut room)

pub expr_cut : (room : ℕ) → Cut (IsExpr room) (BeginsExpr room)
expr_cut room = expr_below_cut (suc room)

pub args_cut : (room : ℕ) → Cut (IsArgs room) (BeginsArgs room)
args_cut room = args_of_cut (FactorBelow (suc room)) (BeginsFactorBelow (suc room)) (factor_below_cut (suc room))

pub variable_cut : (room : ℕ) → Cut (IsVariable room) (BeginsVariable room)
variable_cut room = variable_of_cut room (FactorBelow room) (BeginsFactorBelow room) (factor_below_cut room)
