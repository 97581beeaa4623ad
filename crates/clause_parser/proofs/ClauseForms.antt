-- The laws of labels and clauses: each form is read by its parser.
use Rattle.std.proofs.Common.{◌≡◌, ℕ, true, sym, refl, ap, subst, inl, inr, ◌⊎◌}
use Rattle.std.specs.Prelude.{not, ◌||◌}
use Rattle.estelle_tree.specs.declared.kind.Kind.{Kind}
use Rattle.estelle_tree.specs.declared.kind.Kind.TheVariants as k
use Rattle.estelle_tree.specs.declared.tree.name.Name.{Name}
use Rattle.estelle_tree.specs.declared.tree.expression.Expr.{Expr}
use Rattle.estelle_tree.specs.declared.tree.clause.NextState.{NextState}
use Rattle.estelle_tree.specs.declared.tree.clause.NextState.TheVariants as a_state
use Rattle.estelle_tree.specs.declared.tree.clause.DelayHigh.{DelayHigh}
use Rattle.estelle_tree.specs.declared.tree.clause.DelayHigh.TheVariants as a_high
use Rattle.estelle_tree.specs.declared.tree.clause.Clause.{Clause}
use Rattle.estelle_tree.specs.declared.tree.clause.Clause.TheVariants as a_clause
use Rattle.estelle_tree.specs.Input.{Input, kind, next, start}
use Rattle.estelle_tree.specs.Spelling.{Enclosed}
use Rattle.estelle_tree.specs.Types.{IsNames}
use Rattle.estelle_tree.specs.Clauses.{IsLabel, IsAnyDom, IsNextState, IsDelayHigh, IsClause, of_clause}
use Rattle.token_reader.specs.Reader.{pure, expect, name}
use Rattle.token_reader.specs.Lists.{optional, behind, ended}
use Rattle.syntax_forms.specs.Kinds.{is, of_all}
use Rattle.syntax_forms.specs.Form as form
use Rattle.syntax_forms.specs.Form.{◌▸◌, ◌⊕◌, told}
use Rattle.syntax_forms.specs.Repeats as repeats
use Rattle.syntax_forms.specs.Types as types
use Rattle.syntax_forms.specs.Reading.{one, ◌then◌, choose, closed}
use Rattle.syntax_forms.proofs.KindLaws.{is_it, within}
use Rattle.syntax_forms.proofs.NodeForms.{IsNode}
use Rattle.syntax_forms.proofs.Lawful.{IsRead, IsLawful, Starts}
use Rattle.syntax_forms.proofs.ToldForms as tell
use Rattle.syntax_forms.proofs.ToldForms.{IsTold}
use Rattle.syntax_forms.proofs.Rules as rules
use Rattle.syntax_forms.proofs.Firsts.{alike, regrouped, kept}
use Rattle.syntax_forms.proofs.Words.{there}
use Rattle.type_parser.proofs.TypeForms.{names_lawful, constant_lawful, ordinal_lawful}
use Rattle.expression_parser.specs.Expression.{expr}
use Rattle.expression_parser.proofs.FactorForms.{expr_lawful_at}
use Rattle.statement_parser.specs.Forms as statements
use Rattle.statement_parser.specs.Forms.{Word}
use Rattle.clause_parser.specs.Clause.{begins_params, begins_clause, goes_on_clause, label, any_dom, next_state, params, delay_high, from_clause, to_clause, when_clause, provided_clause, priority_clause, any_clause, delay_clause, clause_by, clause}
use Rattle.clause_parser.specs.Forms as forms
use Rattle.clause_parser.specs.Forms.{make_from, make_to, make_when, make_provided, make_priority, make_any, make_delay}

-- Label = name NAME ":"
pub label_lawful : IsLawful forms.label label
unfolding label
label_lawful = rules.spanned label told refl (rules.and (rules.word k.NameWord refl) (rules.and rules.name (rules.word k.Colon refl) refl) refl).rest (λ i. refl)
  where
    told : IsNode IsLabel (form.word k.NameWord ▸ form.name ▸ form.word k.Colon).spells (λ p span. record { name = p.1.0; span = span })
    told = record {
      opened = λ i m l h. ((tt, (l.name, tt)), (h.at, h.word, (h.mid, h.name, h.colon)), ap (λ span. record { name = l.name; span = span }) (sym h.span));
      made = λ i m p h. record { at = h.0; mid = h.2.0; word = h.1; name = h.2.1; colon = h.2.2; span = refl };
    }

-- ---- parts of clauses

-- AnyDom = Names ":" Ord
any_dom_lawful : IsLawful forms.any_dom any_dom
unfolding any_dom
any_dom_lawful = rules.spanned any_dom told refl (rules.and (rules.part names_lawful) (rules.and (rules.word k.Colon refl) (rules.part ordinal_lawful) refl) refl).rest (λ i. refl)
  where
    told : IsNode IsAnyDom (types.names ▸ form.word k.Colon ▸ types.ordinal).spells (λ p span. record { names = p.0; domain = p.1.1; span = span })
    told = record {
      opened = λ i m d h. ((d.names, (tt, d.domain)), (h.parts.mid, h.parts.first, (h.parts.at, h.parts.mark, h.parts.second)), ap (λ span. record { names = d.names; domain = d.domain; span = span }) (sym h.span));
      made = λ i m p h. record { parts = record { mid = h.0; at = h.2.0; first = h.1; mark = h.2.1; second = h.2.2 }; span = refl };
    }

abbrev make_state : Word ⊎ Name → NextState
make_state (inl u) = a_state.Same
make_state (inr n) = a_state.Name n

-- `NAME | same`
next_state_lawful : IsLawful forms.next_state next_state
unfolding next_state
next_state_lawful = rules.made next_state told (rules.or (rules.word k.Same refl) rules.name refl refl).rest (λ i. same i (kind i) refl)
  where
    told : IsNode IsNextState (form.word k.Same ⊕ form.name).spells (λ p span. make_state p)
    told = record { opened = opened; made = made }
      where
        opened : (i m : Input) (s : NextState) → IsNextState s i m → (p : Word ⊎ Name) × (form.word k.Same ⊕ form.name).spells p i m × (make_state p ≡ s)
        opened i m a_state.Same h = (inl tt, h, refl)
        opened i m (a_state.Name n) h = (inr n, h, refl)

        made : (i m : Input) (p : Word ⊎ Name) → (form.word k.Same ⊕ form.name).spells p i m → IsNextState (make_state p) i m
        made i m (inl u) h = h
        made i m (inr n) h = h

    same : (i : Input) (x : Kind) → kind i ≡ x → next_state i ≡ choose (is k.Same) (one (expect k.Same)) (one name) NextState (λ p. pure (make_state p)) i
    same i k.Same e = rw (e, there k.Same i e) refl
    same i x e = rw e refl

-- `["(" Names ")"]`
params_read : IsRead (repeats.may forms.params) (one (optional begins_params params))
unfolding params
params_read = rules.may begins_params law refl tells takes refl
  where
    told : IsNode (Enclosed k.OpenParenthesis k.CloseParenthesis IsNames) (form.word k.OpenParenthesis ▸ types.names ▸ form.word k.CloseParenthesis).spells (λ p span. p.1.0)
    told = record { opened = λ i m x h. ((tt, (x, tt)), (h.at, h.opens, (h.mid, h.inside, h.closes)), refl); made = λ i m p h. record { at = h.0; mid = h.2.0; opens = h.1; inside = h.2.1; closes = h.2.2 } }

    law : IsLawful forms.params params
    law = rules.made params told (rules.and (rules.word k.OpenParenthesis refl) (rules.and (rules.part names_lawful) (rules.word k.CloseParenthesis refl) refl) refl).rest (λ i. refl)

    tells : (x : Kind) → begins_params x ≡ forms.params.first x
    tells k.OpenParenthesis = refl
    tells _ = refl

    takes : (i : Input) → Starts forms.params i → forms.params.begins i (next i)
    takes i s = inr (next i, record { kind = is_it k.OpenParenthesis (kind i) (within forms.params.first (is k.OpenParenthesis) refl (kind i) s); next = refl }, inl (names_lawful.form.nothing (next i)))

-- Where this many more levels of nesting may open.
module _ (room : ℕ) where
  abbrev make_high : Word ⊎ Expr → DelayHigh
  make_high (inl u) = a_high.Star
  make_high (inr e) = a_high.Expr e

  -- `Expr | "*"`
  pub delay_high_lawful : IsLawful (forms.delay_high room) (delay_high room)
  unfolding delay_high
  delay_high_lawful = rules.made (delay_high room) told (rules.or (rules.word k.Star refl) (rules.part (expr_lawful_at room)) refl refl).rest (λ i. same i (kind i) refl)
    where
      told : IsNode (IsDelayHigh room) (form.word k.Star ⊕ statements.expr room).spells (λ p span. make_high p)
      told = record { opened = opened; made = made }
        where
          opened : (i m : Input) (x : DelayHigh) → IsDelayHigh room x i m → (p : Word ⊎ Expr) × (form.word k.Star ⊕ statements.expr room).spells p i m × (make_high p ≡ x)
          opened i m a_high.Star h = (inl tt, h, refl)
          opened i m (a_high.Expr e) h = (inr e, h, refl)

          made : (i m : Input) (p : Word ⊎ Expr) → (form.word k.Star ⊕ statements.expr room).spells p i m → IsDelayHigh room (make_high p) i m
          made i m (inl u) h = h
          made i m (inr e) h = h

      same : (i : Input) (x : Kind) → kind i ≡ x → delay_high room i ≡ choose (is k.Star) (one (expect k.Star)) (one (expr room)) DelayHigh (λ p. pure (make_high p)) i
      same i k.Star e = rw (e, there k.Star i e) refl
      same i x e = rw e refl

  -- `["," (Expr | "*")]`
  bound_read : IsRead (repeats.may (forms.bound room)) (one (behind k.Comma (delay_high room)))
  bound_read = rules.behind (delay_high room) k.Comma refl (rules.part delay_high_lawful)

  -- ---- clauses

  delay_same : (i : Input) → delay_clause room i ≡ (one (expect k.Delay) then one (expect k.OpenParenthesis) then one (expr room) then one (behind k.Comma (delay_high room)) then one (expect k.CloseParenthesis)) Clause (closed make_delay (start i)) i
  unfolding delay_clause ended
  delay_same i =
      alike (expect k.Delay i) _ _ (λ u a. alike (expect k.OpenParenthesis a) _ _ (λ v b. alike (expr room b) _ _ (λ low c.
      regrouped (behind k.Comma (delay_high room) c) _ _ _ (λ high d. regrouped (expect k.CloseParenthesis d) _ _ _ (λ w e. refl)))))

  pub clause_told : (x : Kind) → IsTold x (forms.clause_by room x) (clause_by room x) (begins_clause x)
  unfolding from_clause to_clause when_clause provided_clause priority_clause any_clause
  clause_told k.From = tell.worded k.From make_from refl (rules.part names_lawful).rest from_clause (λ i. refl)
  clause_told k.To = tell.worded k.To make_to refl (rules.part next_state_lawful).rest to_clause (λ i. refl)
  clause_told k.When = tell.worded k.When make_when refl (rules.and rules.name (rules.and (rules.word k.Dot refl) (rules.and rules.name params_read refl) refl) refl).rest when_clause (λ i. refl)
  clause_told k.Provided = tell.worded k.Provided make_provided refl (rules.part (expr_lawful_at room)).rest (provided_clause room) (λ i. refl)
  clause_told k.Priority = tell.worded k.Priority make_priority refl (rules.part constant_lawful).rest priority_clause (λ i. refl)
  clause_told k.Any = tell.worded k.Any make_any refl (rules.and (rules.separated k.Semicolon any_dom_lawful refl refl) (rules.word k.Do refl) refl).rest any_clause (λ i. refl)
  clause_told k.Delay = tell.worded k.Delay make_delay refl (rules.and (rules.word k.OpenParenthesis refl) (rules.and (rules.part (expr_lawful_at room)) (rules.and bound_read (rules.word k.CloseParenthesis refl) refl) refl) refl).rest (delay_clause room) delay_same
  clause_told x = tell.nowhere x

  pub goes : (x : Kind) → of_all (λ y. goes_on_clause y || not ((forms.clause_by room x).on y)) ≡ true
  goes k.From = refl
  goes _ = refl

  -- ---- the tree of a clause and the form that its first terminal selects

  selected : (x : Kind) (i m : Input) (c : Clause) → kind i ≡ x → (forms.clause_by room x).spells c i m → (forms.clause_by room (kind i)).spells c i m
  selected x i m c e h = subst (λ x. (forms.clause_by room x).spells c i m) (sym e) h

  opened : (i m : Input) (c : Clause) → IsClause room c i m → (forms.clause_by room (kind i)).spells c i m
  opened i m (a_clause.From states span) h = selected k.From i m _ h.0.mark.kind ((tt, states), (h.0.at, h.0.mark, h.0.item), ap (a_clause.From states) (sym h.1))
  opened i m (a_clause.To state span) h = selected k.To i m _ h.0.mark.kind ((tt, state), (h.0.at, h.0.mark, h.0.item), ap (a_clause.To state) (sym h.1))
  opened i m (a_clause.When p n found span) h =
      let r = h.0 in
      selected k.When i m _ r.word.kind ((tt, (p, (tt, (n, found)))), (r.at, r.word, (r.names.mid, r.names.first, (r.names.at, r.names.mark, (r.mid, r.names.second, r.params)))), ap (a_clause.When p n found) (sym h.1))
  opened i m (a_clause.Provided e span) h = selected k.Provided i m _ h.0.mark.kind ((tt, e), (h.0.at, h.0.mark, h.0.item), ap (a_clause.Provided e) (sym h.1))
  opened i m (a_clause.Priority value span) h = selected k.Priority i m _ h.0.mark.kind ((tt, value), (h.0.at, h.0.mark, h.0.item), ap (a_clause.Priority value) (sym h.1))
  opened i m (a_clause.Any found span) h = selected k.Any i m _ h.0.opens.kind ((tt, (found, tt)), (h.0.at, h.0.opens, (h.0.mid, h.0.inside, h.0.closes)), ap (a_clause.Any found) (sym h.1))
  opened i m (a_clause.Delay low high span) h =
      let r = h.0 in
      selected k.Delay i m _ r.word.kind ((tt, (tt, (low, (high, tt)))), (r.at, r.word, (r.after, r.opens, (r.mid, r.low, (r.last, r.high, r.closes)))), ap (a_clause.Delay low high) (sym h.1))

  made : (x : Kind) (i m : Input) (c : Clause) → (forms.clause_by room x).spells c i m → IsClause room c i m
  made k.From i m c ((u, states), (a, t, f), e) = subst (λ c. IsClause room c i m) e (record { at = a; mark = t; item = f }, refl)
  made k.To i m c ((u, state), (a, t, f), e) = subst (λ c. IsClause room c i m) e (record { at = a; mark = t; item = f }, refl)
  made k.When i m c ((u, (p, (v, (n, found)))), (a, t, (b, f, (d, g, (l, y, z)))), e) =
      subst (λ c. IsClause room c i m) e (record { at = a; mid = l; word = t; names = record { mid = b; at = d; first = f; mark = g; second = y }; params = z }, refl)
  made k.Provided i m c ((u, x), (a, t, f), e) = subst (λ c. IsClause room c i m) e (record { at = a; mark = t; item = f }, refl)
  made k.Priority i m c ((u, value), (a, t, f), e) = subst (λ c. IsClause room c i m) e (record { at = a; mark = t; item = f }, refl)
  made k.Any i m c ((u, (found, v)), (a, t, (b, f, g)), e) = subst (λ c. IsClause room c i m) e (record { at = a; mid = b; opens = t; inside = f; closes = g }, refl)
  made k.Delay i m c ((u, (v, (low, (high, w)))), (a, t, (b, f, (d, g, (l, y, z)))), e) =
      subst (λ c. IsClause room c i m) e (record { at = a; after = b; mid = d; last = l; word = t; opens = f; low = g; high = y; closes = z }, refl)
  made _ i m c h = absurd h

  pub clause_lawful : IsLawful (forms.clause room) (clause room)
  unfolding clause
  clause_lawful = rules.made (clause room) told_node (rules.part law).rest (λ i. kept (clause_by room (kind i) i))
    where
      told_node : IsNode (IsClause room) (told (forms.clause_by room) goes_on_clause).spells (λ c span. c)
      told_node = record { opened = λ i m c h. (c, opened i m c h, refl); made = λ i m c h. made (kind i) i m c h }

      law : IsLawful (told (forms.clause_by room) goes_on_clause) (λ i. clause_by room (kind i) i)
      law = tell.told_lawful (forms.clause_by room) goes_on_clause (clause_by room) begins_clause clause_told goes refl

-- the first word of a clause
pub clause_kind : (room : ℕ) (i j : Input) (c : Clause) → IsClause room c i j → kind i ≡ of_clause c
clause_kind room i j (a_clause.From states span) h = h.0.mark.kind
clause_kind room i j (a_clause.To state span) h = h.0.mark.kind
clause_kind room i j (a_clause.When p n found span) h = h.0.word.kind
clause_kind room i j (a_clause.Provided e span) h = h.0.mark.kind
clause_kind room i j (a_clause.Priority value span) h = h.0.mark.kind
clause_kind room i j (a_clause.Any found span) h = h.0.opens.kind
clause_kind room i j (a_clause.Delay low high span) h = h.0.word.kind

pub of_clause_begins : (c : Clause) → begins_clause (of_clause c) ≡ true
of_clause_begins (a_clause.From states span) = refl
of_clause_begins (a_clause.To state span) = refl
of_clause_begins (a_clause.When p n found span) = refl
of_clause_begins (a_clause.Provided e span) = refl
of_clause_begins (a_clause.Priority value span) = refl
of_clause_begins (a_clause.Any found span) = refl
of_clause_begins (a_clause.Delay low high span) = refl
