-- The laws of parts of statements, and of what a NAME begins.
use Rattle.std.proofs.Common.{◌≡◌, ◌<◌, ℕ, zero, suc, Bool, true, false, List, [], ◌∷◌, Option, Some, None, Ok, sym, refl, ap, ◌∙◌, subst, inl, inr, ◌⊎◌, arith}
use Rattle.std.specs.Prelude.{◌==◌, ◌&&◌, not, if◌then◌else◌}
use Rattle.estelle_tree.specs.declared.kind.Kind.{Kind}
use Rattle.estelle_tree.specs.declared.kind.Kind.TheVariants as k
use Rattle.estelle_tree.specs.declared.tree.name.Name.{Name}
use Rattle.estelle_tree.specs.declared.tree.expression.Args.{Args}
use Rattle.estelle_tree.specs.declared.tree.expression.Expr.{Expr}
use Rattle.estelle_tree.specs.declared.tree.expression.Variable.{Variable, out-Variable, roll-Variable}
use Rattle.estelle_tree.specs.declared.tree.expression.Selector.{Selector, out-Selector}
use Rattle.estelle_tree.specs.declared.tree.expression.Factor.TheOpen.{Selector-F}
use Rattle.estelle_tree.specs.declared.tree.statement.Direction.{Direction}
use Rattle.estelle_tree.specs.declared.tree.statement.Direction.TheVariants as direction
use Rattle.estelle_tree.specs.declared.tree.statement.Stmt.{Stmt}
use Rattle.estelle_tree.specs.Input.{Input, kind, next, left, start, between}
use Rattle.estelle_tree.specs.Spans.{SelectorLayer}
use Rattle.estelle_tree.specs.Spelling.{Takes, Chain, Enclosed}
use Rattle.estelle_tree.specs.BeginsExpressions.{BeginsFactorBelow}
use Rattle.estelle_tree.specs.Expressions.{IsArgs, FactorBelow, IsFactor, SelectorLayerOf, SelectorOf}
use Rattle.estelle_tree.specs.Statements.{IsIp, of_direction}
use Rattle.token_reader.specs.Reader.{Parser, refuse, expect, name}
use Rattle.token_reader.proofs.Complete.{next_left_more}
use Rattle.syntax_forms.specs.Kinds.{is}
use Rattle.syntax_forms.specs.Form as form
use Rattle.syntax_forms.specs.Form.{◌▸◌, built, unless}
use Rattle.syntax_forms.specs.Repeats as repeats
use Rattle.syntax_forms.specs.Reading.{Reading, one, ◌then◌, chosen, looked, closed}
use Rattle.syntax_forms.specs.Onward.{Below, IsOnward}
use Rattle.syntax_forms.proofs.KindLaws.{back_of, is_it, within, not_true}
use Rattle.syntax_forms.proofs.Firsts.{stops_below}
use Rattle.syntax_forms.proofs.Steps.{step, exact_below, expects_one}
use Rattle.syntax_forms.proofs.NodeForms.{IsNode, one_lawful, lawful_onward}
use Rattle.syntax_forms.proofs.TokenForms.{name_known}
use Rattle.syntax_forms.proofs.MarkForms.{one_of_read}
use Rattle.syntax_forms.proofs.ChoiceForms.{some_room, has_room}
use Rattle.syntax_forms.proofs.AheadForms.{IsAhead, unless_last}
use Rattle.syntax_forms.proofs.ToldForms.{IsTold}
use Rattle.syntax_forms.proofs.Lawful.{IsLast, IsRead, IsLawful, Starts}
use Rattle.syntax_forms.proofs.Rules as rules
use Rattle.expression_parser.specs.Expression.{factor_below, expr, variable}
use Rattle.expression_parser.specs.Forms as expressions
use Rattle.expression_parser.proofs.TermForms.{expr_lawful}
use Rattle.expression_parser.proofs.FactorForms.{factor_below_lawful, expr_lawful_at, args_lawful_at, variable_lawful_at}
use Rattle.statement_parser.specs.Statement.{begins_args, ip, given_args, may_be_args, assignment, call, named_by, expr_below, direction_by, direction_word}
use Rattle.statement_parser.specs.Forms as forms
use Rattle.statement_parser.specs.Forms.{Word, direction_of, make_named, assigns}

-- Ip = NAME ["." NAME]
pub ip_lawful : IsLawful forms.ip ip
unfolding ip
ip_lawful = rules.spanned ip told refl (rules.and_last rules.name (rules.may_behind k.Dot refl (one_lawful rules.name.rest)) refl) (λ i. refl)
  where
    told : IsNode IsIp (form.name ▸ repeats.may (repeats.behind k.Dot form.name)).spells (λ p span. record { name = p.0; part = p.1; span = span })
    told = record {
      opened = λ i m p h. ((p.name, p.part), (h.mid, h.name, h.part), ap (λ span. record { name = p.name; part = p.part; span = span }) (sym h.span));
      made = λ i m p h. record { mid = h.0; name = h.1; part = h.2; span = refl };
    }

-- `to | downto`
pub direction_read : IsRead (form.one_of direction_of of_direction) (one direction_word)
unfolding direction_word
direction_read = one_of_read direction_of of_direction forth (back_of direction_of of_direction told) refl direction_word there other
  where
    forth : (d : Direction) → direction_of (of_direction d) ≡ Some d
    forth direction.To = refl
    forth direction.Downto = refl

    told : (x : Kind) → (direction_of x ≡ None) ⊎ ((d : Direction) × (direction_of x ≡ Some d) × (x ≡ of_direction d))
    told k.To = inr (direction.To, refl, refl)
    told k.Downto = inr (direction.Downto, refl, refl)
    told _ = inl refl

    there : (d : Direction) (i : Input) → kind i ≡ of_direction d → direction_by (kind i) i ≡ Ok (d, next i)
    there direction.To i e = rw e refl
    there direction.Downto i e = rw e refl

    refused : (x : Kind) (i : Input) → direction_of x ≡ None → direction_by x i ≡ refuse i
    refused k.To i e = absurd (cc)
    refused k.Downto i e = absurd (cc)
    refused _ i e = refl

    other : (i : Input) → direction_of (kind i) ≡ None → direction_by (kind i) i ≡ refuse i
    other i e = refused (kind i) i e

-- an expression one level down, where a level may open
pub expr_below_lawful : (room : ℕ) → 0 < room → IsLawful (forms.expr_below room) (expr_below room)
unfolding expr_below
expr_below_lawful zero fits = absurd (omega arith)
expr_below_lawful (suc room) fits = expr_lawful_at room

-- Where this many more levels may open.
module _ (room : ℕ) where
  given_args_lawful : IsLawful (forms.given_args room) (given_args room)
  unfolding given_args
  given_args_lawful = rules.made (given_args room) told (rules.and (rules.word k.OpenParenthesis refl) (rules.and (rules.part (args_lawful_at room)) (rules.word k.CloseParenthesis refl) refl) refl).rest (λ i. refl)
    where
      told : IsNode (Enclosed k.OpenParenthesis k.CloseParenthesis (IsArgs room)) (form.word k.OpenParenthesis ▸ expressions.args (IsFactor room) (BeginsFactorBelow (suc room)) ▸ form.word k.CloseParenthesis).spells (λ p span. p.1.0)
      told = record { opened = λ i m x h. ((tt, (x, tt)), (h.at, h.opens, (h.mid, h.inside, h.closes)), refl); made = λ i m p h. record { at = h.0; mid = h.2.0; opens = h.1; inside = h.2.1; closes = h.2.2 } }

  -- `["(" Args ")"]`
  pub may_be_args_read : IsRead (repeats.may (forms.given_args room)) (one (may_be_args room))
  may_be_args_read = rules.may begins_args given_args_lawful refl tells takes refl
    where
      tells : (x : Kind) → begins_args x ≡ (forms.given_args room).first x
      tells k.OpenParenthesis = refl
      tells _ = refl

      takes : (i : Input) → Starts (forms.given_args room) i → (forms.given_args room).begins i (next i)
      takes i s = inr (next i, record { kind = is_it k.OpenParenthesis (kind i) (within (forms.given_args room).first (is k.OpenParenthesis) refl (kind i) s); next = refl }, inl ((args_lawful_at room).form.nothing (next i)))

  -- ---- an assignment or a call: the token behind the NAME tells
  abbrev read_call : Reading (Name × Option Args)
  read_call = one name then one (may_be_args room)

  abbrev read_assignment : Reading (Variable × (Word × Expr))
  read_assignment = one (variable room) then one (expect k.Becomes) then one (expr room)

  call_last : IsLast (forms.call room) read_call
  call_last = rules.and_last rules.name may_be_args_read.rest refl

  assigned_last : IsLast (form.word k.Becomes ▸ forms.expr room) (one (expect k.Becomes) then one (expr room))
  assigned_last = (rules.and (rules.word k.Becomes refl) (rules.part (expr_lawful_at room)) refl).rest

  assignment_last : IsLast (forms.assignment room) read_assignment
  assignment_last = rules.and_last (rules.part (variable_lawful_at room)) assigned_last refl

  selects : (l : SelectorLayer) (i j : Input) → SelectorLayerOf room (FactorBelow room) l i j → assigns room (kind i) ≡ true
  selects (Selector-F.Index es) i j h = rw (h.1.opens.kind, some_room room h.0) refl
  selects (Selector-F.Field n) i j h = rw h.mark.kind refl

  no : true ≡ false → ⊥
  no e = cc

  -- where a NAME is assigned, no parameters stand behind it, and else no selector and no `:=`
  no_args : (i : Input) → assigns room (kind i) ≡ true → kind i ≡ k.OpenParenthesis → ⊥
  no_args i e is_one = no (sym e ∙ ap (assigns room) is_one)

  no_selectors : (xs : List Selector) (i j : Input) → Chain (SelectorOf room (FactorBelow room)) xs i j → assigns room (kind i) ≡ false → i ≡ j
  no_selectors [] i j h e = h
  no_selectors (x ∷ xs) i j h e = absurd (no (sym (selects (out-Selector x) i h.0 h.1) ∙ e))

  no_selector : (i j : Input) → (expressions.selector room (FactorBelow room) (BeginsFactorBelow room)).begins i j → assigns room (kind i) ≡ false → i ≡ j
  no_selector i j (inl (inl same)) e = same
  no_selector i j (inl (inr t)) e = absurd (no (sym (let yes : assigns room (kind i) ≡ true = rw (t.1.1.kind, some_room room t.0) refl in yes) ∙ e))
  no_selector i j (inr (inl same)) e = same
  no_selector i j (inr (inr t)) e = absurd (no (sym (ap (assigns room) t.1.kind) ∙ e))

  behind : (i a : Input) (b : Bool) → next i ≡ a → assigns room (kind (next i)) ≡ b → assigns room (kind a) ≡ b
  behind i a b e is_so = ap (λ a. assigns room (kind a)) (sym e) ∙ is_so

  named_ahead : IsAhead (assigns room) (forms.call room) (forms.assignment room) call_last.form assignment_last.form read_assignment
  named_ahead = record { alone = alone; needs = needs; passes = passes; covers = covers; only = only }
    where
      alone : (i m : Input) (x : Name × Option Args) → (forms.call room).spells x i m → assigns room (kind (next i)) ≡ true → next i ≡ m
      alone i m (n, None) h e = h.1.next ∙ h.2
      alone i m (n, Some given) h e = absurd (no_args h.0 (behind i h.0 true h.1.next e) h.2.opens.kind)

      needs : (i m : Input) (y : Variable × (Word × Expr)) → Starts (forms.call room) i → (forms.assignment room).spells y i m → assigns room (kind (next i)) ≡ true
      needs i m y s h = by (out-Variable y.0).selectors h.1.selectors
        where
          at : assigns room (kind h.1.mid) ≡ true → assigns room (kind (next i)) ≡ true
          at e = ap (λ a. assigns room (kind a)) h.1.name.next ∙ e

          by : (xs : List Selector) → Chain (SelectorOf room (FactorBelow room)) xs h.1.mid h.0 → assigns room (kind (next i)) ≡ true
          by [] same = at (ap (λ a. assigns room (kind a)) same ∙ ap (assigns room) h.2.1.kind)
          by (x ∷ xs) c = at (selects (out-Selector x) h.1.mid c.0 c.1)

      passes : (C : Type 0) (f : Variable × (Word × Expr) → Parser C) → ((y : Variable × (Word × Expr)) → IsOnward (f y)) → (i : Input) → Starts (forms.call room) i → assigns room (kind (next i)) ≡ true → Below i (left (next i)) (read_assignment C f i)
      passes C f on i s e = by (kind (next i)) refl e
        where
          name_here : Takes k.Name i (next i)
          name_here = record { kind = is_it k.Name (kind i) (within (forms.call room).first (is k.Name) refl (kind i) s); next = refl }

          -- a selector comes, and the variable takes it
          selected : kind (next i) ≡ k.Nothing → ⊥
          selected e' = no (sym e ∙ ap (assigns room) e')

          longer : (expressions.selector room (FactorBelow room) (BeginsFactorBelow room)).begins (next i) (next (next i)) → Below i (left (next i)) (read_assignment C f i)
          longer b =
              let placed = (variable_lawful_at room).placed i in
              let short = placed.longest (next (next i)) (inr (next i, name_here, ([], next i, refl, inl b))) in
              let less = next_left_more (next i) selected in
              step i (left (next i)) (variable room i) _ (stops_below i (suc (left i)) (left (next i)) (variable room i) placed.on (omega arith)) (λ v. assigned_last.onward C _ (λ y. on (v, y)))

          by : (x : Kind) → kind (next i) ≡ x → assigns room x ≡ true → Below i (left (next i)) (read_assignment C f i)
          by k.Dot d t = longer (inr (inr (next (next i), record { kind = d; next = refl }, inl refl)))
          by k.OpenBracket d t = longer (inl (inr (has_room room (not_true (room == 0) t), (next (next i), record { kind = d; next = refl }, inl ((expr_lawful (FactorBelow room) (BeginsFactorBelow room) (factor_below room) (factor_below_lawful room)).form.nothing (next (next i)))))))
          by k.Becomes d t =
              let n = name_known.there i name_here.kind in
              let v = roll-Variable (record { name = n.0; selectors = []; span = between i (next i) }) in
              exact_below (variable room) _ i (next i) (left (next i)) v (lawful_onward _ (variable room) (variable_lawful_at room))
              ((variable_lawful_at room).complete i (next i) v (record { mid = next i; name = name_known.sound i (next i) n.0 n.1; selectors = refl; span = refl }) (ap (expressions.variable room (FactorBelow room) (BeginsFactorBelow room)).on d))
              (step (next i) (left (next i)) (expect k.Becomes (next i)) _ (expects_one k.Becomes (next i) (λ e. cc) d) (λ u. (rules.part (expr_lawful_at room)).onward C _ (λ x. on (v, (u, x)))))
          by x d t = absurd (cc)

      covers : (i m : Input) → Starts (forms.call room) i → assigns room (kind (next i)) ≡ true → (forms.call room).begins i m → (forms.assignment room).begins i m
      covers i m s e (inl same) = inl (inl same)
      covers i m s e (inr t) = by t.2
        where
          by : (forms.given_args room).begins t.0 m → (forms.assignment room).begins i m
          by (inl same) = inl (inr (t.0, t.1, ([], t.0, refl, inr same)))
          by (inr o) = absurd (no_args t.0 (behind i t.0 true t.1.next e) o.1.kind)

      only : (i m : Input) → Starts (forms.call room) i → assigns room (kind (next i)) ≡ false → (forms.assignment room).begins i m → (forms.call room).begins i m
      only i m s e (inl (inl same)) = inl same
      only i m s e (inl (inr (a, t, (xs, b, h, more)))) = inr (a, t, inl (here ∙ by more))
        where
          ended : assigns room (kind a) ≡ false
          ended = behind i a false t.next e

          here : a ≡ b
          here = no_selectors xs a b h ended

          by : (expressions.selector room (FactorBelow room) (BeginsFactorBelow room)).begins b m ⊎ (b ≡ m) → b ≡ m
          by (inl c) = no_selector b m c (subst (λ a. assigns room (kind a) ≡ false) here ended)
          by (inr same) = same
      only i m s e (inr (v, a, h, more)) = inr (h.mid, record { kind = h.name.free; next = h.name.next }, inl (here ∙ by more))
        where
          ended : assigns room (kind h.mid) ≡ false
          ended = behind i h.mid false h.name.next e

          here : h.mid ≡ a
          here = no_selectors (out-Variable v).selectors h.mid a h.selectors ended

          by : (form.word k.Becomes ▸ forms.expr room).begins a m → a ≡ m
          by (inl same) = same
          by (inr t) = absurd (no (sym (ap (assigns room) t.1.kind) ∙ subst (λ a. assigns room (kind a) ≡ false) here ended))

  pub named : Parser Stmt
  named i = looked (assigns room) (forms.call room).first read_call read_assignment Stmt (closed make_named (start i)) i

  pub named_told : IsTold k.Name (built make_named (unless (assigns room) (forms.call room) (forms.assignment room))) named true
  unfolding named
  named_told = record {
    law = rules.built make_named named refl (unless_last (assigns room) (forms.call room) (forms.assignment room) call_last.form assignment_last.form read_call read_assignment refl call_last assignment_last named_ahead) (λ i. refl);
    some = refl;
    spelled = λ i m x h. refl;
    quiet = λ e. absurd (cc);
    first = λ e. refl;
    takes = λ e i is_one. inl (inr (next i, record { kind = is_one; next = refl }, inl refl));
  }

  -- the do-definition goes by the second token
  pub named_same : (i : Input) → kind i ≡ k.Name → named_by room (kind (next i)) i ≡ named i
  unfolding named call assignment
  named_same i e = by (kind (next i)) ∙ (at (not (assigns room (kind (next i)))) ∙ sym (ap (λ b. chosen (b && not (assigns room (kind (next i)))) (read_call Stmt (λ x. closed make_named (start i) (inl x))) (read_assignment Stmt (λ x. closed make_named (start i) (inr x))) i) (ap (forms.call room).first e)))
    where
      at : (b : Bool) → chosen b (call room) (assignment room) i ≡ chosen b (read_call Stmt (λ x. closed make_named (start i) (inl x))) (read_assignment Stmt (λ x. closed make_named (start i) (inr x))) i
      at true = refl
      at false = refl

      bracketed : (b : Bool) → (if b then call room else assignment room) i ≡ chosen (not (not b)) (call room) (assignment room) i
      bracketed true = refl
      bracketed false = refl

      by : (x : Kind) → named_by room x i ≡ chosen (not (assigns room x)) (call room) (assignment room) i
      by k.Becomes = refl
      by k.Dot = refl
      by k.OpenBracket = bracketed (room == 0)
      by _ = refl
