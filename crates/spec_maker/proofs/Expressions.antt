-- Names, types, expressions and interaction points at the front of a list of tokens.
use Rattle.std.proofs.Common.{◌≡◌, ℕ, List, [], ◌∷◌, Some, None, refl, sym, subst}
use lib.IntN.{pos}
use Rattle.estelle_tree.specs.declared.token.Token.TheVariants as token
use Rattle.estelle_tree.specs.declared.kind.Kind.TheVariants as k
use Rattle.estelle_tree.specs.declared.tree.type_expr.Ordinal.TheVariants as ordinal
use Rattle.estelle_tree.specs.declared.tree.type_expr.TypeExpr.{TypeExpr, out-TypeExpr, roll-TypeExpr}
use Rattle.estelle_tree.specs.declared.tree.type_expr.TypeExpr.TheOpen.{TypeExpr-F, TypedNames-F}
use Rattle.estelle_tree.specs.declared.tree.type_expr.TypeExpr.TheViews.{out-roll-TypeExpr, out-roll-TypedNames}
use Rattle.estelle_tree.specs.declared.tree.type_expr.Fields.{Fields}
use Rattle.estelle_tree.specs.declared.tree.type_expr.TypedNames.{TypedNames, roll-TypedNames}
use Rattle.estelle_tree.specs.declared.tree.expression.Adding.TheVariants as adding
use Rattle.estelle_tree.specs.declared.tree.expression.Factor.{Factor, out-Factor, roll-Factor}
use Rattle.estelle_tree.specs.declared.tree.expression.Factor.TheOpen.{Factor-F, Args-F, Expr-F, Simple-F, Term-F, Variable-F}
use Rattle.estelle_tree.specs.declared.tree.expression.Factor.TheViews.{out-roll-Factor, out-roll-Args, out-roll-Expr, out-roll-Simple}
use Rattle.estelle_tree.specs.declared.tree.expression.Selector.{Selector}
use Rattle.estelle_tree.specs.declared.tree.expression.Args.{Args, roll-Args}
use Rattle.estelle_tree.specs.declared.tree.expression.Elem.{Elem}
use Rattle.estelle_tree.specs.declared.tree.expression.Expr.{Expr, roll-Expr}
use Rattle.estelle_tree.specs.declared.tree.expression.Simple.{Simple, roll-Simple}
use Rattle.estelle_tree.specs.declared.tree.expression.Term.{Term, roll-Term}
use Rattle.estelle_tree.specs.declared.tree.expression.Variable.{Variable, roll-Variable}
use Rattle.estelle_tree.specs.Kind.{kind_of_word}
use Rattle.estelle_tree.specs.Input.{kind, next, token_at, between}
use Rattle.estelle_tree.specs.Spelling.{Spelling, Chain, Ended, Joined, Enclosed}
use Rattle.estelle_tree.specs.Types.{IsName, IsNames, IsType, IsTypeLayer, TypeBelow}
use Rattle.estelle_tree.specs.Expressions.{TermOf, SimpleOf, ExprOf, ArgsOf, IsFactorLayer, FactorBelow, IsFactor, IsExpr, IsArgs, IsVariable}
use Rattle.estelle_tree.specs.Declarations.{AreVars}
use Rattle.estelle_tree.specs.Statements.{IsIp}
use Rattle.estelle_printer.specs.Forms.{Tokens}
use Rattle.estelle_printer.specs.Terminals.{terminal}
use Rattle.spec_maker.proofs.Standing.{from, Stands, takes, ended, enclosed, Both, none, more, separated, rolled}

-- ---- names

-- the word is not reserved
abbrev pub IsFree : List ℕ → Type 0
IsFree w = kind_of_word w ≡ k.Name

pub name : {us : Tokens} (w : List ℕ) → IsFree w → Stands IsName (token.Word w ∷ us) us
unfolding kind next token_at between
name {us} w free = record {
  thing = record { word = w; span = between (from (token.Word w ∷ us)) (from us) };
  is = record { token = refl; free = free; span = refl; next = refl };
}

-- names that each have a comma behind them, and a last one
pub names : {ts vs us : Tokens} → Stands (Chain (Ended k.Comma IsName)) ts vs → Stands IsName vs us → Stands IsNames ts us
names {ts} {us = us} p q =
    let all = separated IsName k.Comma p q in
    record { thing = record { names = all.thing; span = between (from ts) (from us) }; is = record { names = all.is; span = refl } }

pub one_name : {us : Tokens} (w : List ℕ) → IsFree w → Stands IsNames (token.Word w ∷ us) us
one_name w free = names (none (Ended k.Comma IsName)) (name w free)

pub two_names : {us : Tokens} (w v : List ℕ) → IsFree w → IsFree v → Stands IsNames (token.Word w ∷ terminal k.Comma ∷ token.Word v ∷ us) us
two_names w v e f = names (more (Ended k.Comma IsName) (ended k.Comma refl (name w e)) (none (Ended k.Comma IsName))) (name v f)

-- `NAME "." NAME`
pub ip : {ts us : Tokens} → Stands (Both k.Dot IsName IsName) ts us → Stands IsIp ts us
ip {ts} {us} p =
    let h = p.is in
    record {
      thing = record { name = p.thing.0; part = Some p.thing.1; span = between (from ts) (from us) };
      is = record { mid = h.mid; name = h.first; part = record { at = h.at; mark = h.mark; item = h.second }; span = refl };
    }

-- ---- types

pub type_name : {ts us : Tokens} (room : ℕ) → Stands IsName ts us → Stands (IsType room) ts us
type_name room n = rolled (IsTypeLayer room (TypeBelow room)) out-TypeExpr roll-TypeExpr out-roll-TypeExpr (record { thing = TypeExpr-F.Ordinal (ordinal.Name n.thing); is = n.is })

pub typed : {ts us : Tokens} (room : ℕ) → Stands (Both k.Colon IsNames (IsType room)) ts us → Stands (AreVars room) ts us
typed {ts} {us} room p =
    let l : TypedNames-F TypeExpr Fields TypedNames = record { names = p.thing.0; type_expr = p.thing.1 } in
    record {
      thing = roll-TypedNames l;
      is = subst (λ (l : TypedNames-F TypeExpr Fields TypedNames). Joined k.Colon IsNames (IsType room) l.names l.type_expr (from ts) (from us)) (sym (out-roll-TypedNames l)) p.is;
    }

-- ---- expressions, where this many more levels of nesting may open

module _ (room : ℕ) where
  pub factor : {ts us : Tokens} → Stands (IsFactorLayer room (FactorBelow room)) ts us → Stands (IsFactor room) ts us
  factor p = rolled (IsFactorLayer room (FactorBelow room)) out-Factor roll-Factor out-roll-Factor p

  pub number : {us : Tokens} (n : ℕ) → Stands (IsFactor room) (token.Number (pos n) ∷ us) us
  unfolding next token_at
  number {us} n = factor (record {
    thing = Factor-F.Number (pos n) (between (from (token.Number (pos n) ∷ us)) (from us));
    is = (record { token = refl; next = refl }, refl);
  })

  pub variable : {ts us : Tokens} → Stands IsName ts us → Stands (IsVariable room) ts us
  variable {ts} {us} n =
      let l : Variable-F Factor Selector Args Elem Expr Simple Term Variable = record { name = n.thing; selectors = []; span = between (from ts) (from us) } in
      record { thing = roll-Variable l; is = record { mid = from us; name = n.is; selectors = refl; span = refl } }

  pub value : {ts us : Tokens} → Stands IsName ts us → Stands (IsFactor room) ts us
  value n = let v = variable n in factor (record { thing = Factor-F.Variable v.thing; is = v.is })

module _ (F : Spelling Factor) where
  pub term : {ts us : Tokens} → Stands F ts us → Stands (TermOf F) ts us
  term {ts} {us} f =
      let l : Term-F Factor Selector Args Elem Expr Simple Term Variable = record { first = f.thing; others = []; span = between (from ts) (from us) } in
      record { thing = roll-Term l; is = record { mid = from us; first = f.is; others = refl; span = refl } }

  pub simple : {ts us : Tokens} → Stands (TermOf F) ts us → Stands (SimpleOf F) ts us
  simple {ts} {us} t =
      let l : Simple-F Factor Selector Args Elem Expr Simple Term Variable = record { sign = None; first = t.thing; others = []; span = between (from ts) (from us) } in
      record {
        thing = roll-Simple l;
        is = record { at = from ts; mid = from us; sign = rw out-roll-Simple refl; first = rw out-roll-Simple t.is; others = rw out-roll-Simple refl; span = rw out-roll-Simple refl };
      }

  -- `x + y`
  pub sum : {ts vs us : Tokens} → Stands (TermOf F) ts (terminal k.Plus ∷ vs) → Stands (TermOf F) vs us → Stands (SimpleOf F) ts us
  sum {ts} {vs} {us} t u =
      let l : Simple-F Factor Selector Args Elem Expr Simple Term Variable = record { sign = None; first = t.thing; others = (adding.Plus, u.thing) ∷ []; span = between (from ts) (from us) } in
      record {
        thing = roll-Simple l;
        is = record {
          at = from ts;
          mid = from (terminal k.Plus ∷ vs);
          sign = rw out-roll-Simple refl;
          first = rw out-roll-Simple t.is;
          others = rw out-roll-Simple (from us, record { at = from vs; mark = takes k.Plus vs refl; item = u.is }, refl);
          span = rw out-roll-Simple refl;
        };
      }

  pub expr : {ts us : Tokens} → Stands (SimpleOf F) ts us → Stands (ExprOf F) ts us
  expr {ts} {us} s =
      let l : Expr-F Factor Selector Args Elem Expr Simple Term Variable = record { left = s.thing; right = None; span = between (from ts) (from us) } in
      record { thing = roll-Expr l; is = record { mid = from us; left = rw out-roll-Expr s.is; right = rw out-roll-Expr refl; span = rw out-roll-Expr refl } }

  args : {ts us : Tokens} → Stands (ExprOf F) ts us → Stands (ArgsOf F) ts us
  args {ts} {us} e =
      let l : Args-F Factor Selector Args Elem Expr Simple Term Variable = record { exprs = e.thing ∷ []; span = between (from ts) (from us) } in
      record { thing = roll-Args l; is = record { exprs = rw out-roll-Args (from us, e.is, refl); span = rw out-roll-Args refl } }

-- a factor alone
pub only : {ts us : Tokens} (room : ℕ) → Stands (IsFactor room) ts us → Stands (IsExpr room) ts us
only room f = expr (IsFactor room) (simple (IsFactor room) (term (IsFactor room) f))

-- `"(" Args ")"`, with one argument
pub argument : {ts us : Tokens} (room : ℕ) → Stands (IsExpr room) ts (terminal k.CloseParenthesis ∷ us) → Stands (Enclosed k.OpenParenthesis k.CloseParenthesis (IsArgs room)) (terminal k.OpenParenthesis ∷ ts) us
argument room e = enclosed k.OpenParenthesis k.CloseParenthesis refl refl (args (IsFactor room) e)
