-- What begins the forms of clauses and of what stands behind `trans` is what the grammar says of them.
use Rattle.std.proofs.Common.{◌≡◌, ◌≤◌, ℕ, zero, suc, Bool, true, false, List, [], ◌∷◌, length, sym, refl, ap, ◌∙◌, subst, inl, inr, ◌⊎◌, arith}
use Rattle.std.specs.Prelude.{◌||◌, not}
use Rattle.estelle_tree.specs.declared.kind.Kind.{Kind}
use Rattle.estelle_tree.specs.declared.kind.Kind.TheVariants as k
use Rattle.estelle_tree.specs.declared.tree.expression.Expr.{Expr}
use Rattle.estelle_tree.specs.declared.tree.clause.DelayHigh.{DelayHigh}
use Rattle.estelle_tree.specs.declared.tree.clause.DelayHigh.TheVariants as a_high
use Rattle.estelle_tree.specs.declared.tree.clause.Group.{Group}
use Rattle.estelle_tree.specs.Input.{Input, kind}
use Rattle.estelle_tree.specs.Spelling.{Spelling, Behind, Chain}
use Rattle.estelle_tree.specs.Beginning.{Beginning, ◌or◌, Then, After, OneToken}
use Rattle.estelle_tree.specs.BeginsExpressions.{BeginsExpr}
use Rattle.estelle_tree.specs.BeginsClauses.{BeginsClause, last_of, MayFollow, BeginGroups, BeginTransBody, BeginGroup, BeginsGroupWithin, BeginsTransBody}
use Rattle.estelle_tree.specs.Expressions.{IsExpr}
use Rattle.estelle_tree.specs.Clauses.{IsDelayHigh, clause_kinds, stands, way_of, AreGroups, GroupWithin}
use Rattle.token_reader.specs.Reader.{Parser}
use Rattle.syntax_forms.specs.Kinds.{is, of_all}
use Rattle.syntax_forms.specs.Form as form
use Rattle.syntax_forms.specs.Form.{◌▸◌, ◌⊕◌, part, only_if}
use Rattle.syntax_forms.proofs.Beginnings as begin
use Rattle.syntax_forms.proofs.Beginnings.{Alike, Blank, same, via, flat}
use Rattle.syntax_forms.proofs.ToldForms as tell
use Rattle.expression_parser.proofs.FactorForms.{expr_lawful_at}
use Rattle.statement_parser.specs.Forms as statements
use Rattle.clause_parser.specs.Clause.{begins_clause, goes_on_clause, clause_by}
use Rattle.clause_parser.specs.Block.{block}
use Rattle.clause_parser.specs.Clause.{clause}
use Rattle.clause_parser.specs.Group.{begins_group, group_within}
use Rattle.clause_parser.specs.Forms as forms
use Rattle.clause_parser.specs.Forms.{on, EndsGroup, WholeGroup, BeginsWithin}
use Rattle.clause_parser.proofs.ClauseForms.{clause_kind, clause_told, goes, of_clause_begins, delay_high_lawful, clause_lawful}
use Rattle.clause_parser.proofs.GroupForms.{on_it, fresh, free, fewer, is_clause, Clausal, IsLevel, from_chain, Groups, chain_begins, open_form, within_clausal, level_within, Outer, BeginsOuter, outer, outer_clausal, outer_level}

-- Where this many more levels of nesting may open.
module _ (room : ℕ) where
  -- ---- clauses

  -- `Expr | "*"` and what comes next
  high_onto : (next : Beginning) → Blank next → Alike (Then (forms.delay_high room).begins (IsDelayHigh room) next) (After k.Star next or Then (BeginsExpr room) (IsExpr room) next)
  high_onto next blank = flat {F = form.word k.Star ⊕ statements.expr room} (IsDelayHigh room) opened made (begin.one_of (begin.word k.Star refl) (expr_lawful_at room).form) next blank
    where
      opened : (i m : Input) (x : DelayHigh) → IsDelayHigh room x i m → (p : Unit {0} ⊎ Expr) × (form.word k.Star ⊕ statements.expr room).spells p i m
      opened i m a_high.Star h = (inl tt, h)
      opened i m (a_high.Expr e) h = (inr e, h)

      made : (i m : Input) (p : Unit {0} ⊎ Expr) → (form.word k.Star ⊕ statements.expr room).spells p i m → (x : DelayHigh) × IsDelayHigh room x i m
      made i m (inl u) h = (a_high.Star, h)
      made i m (inr e) h = (a_high.Expr e, h)

  -- `"," (Expr | "*")` and what comes next
  bound_onto : (next : Beginning) → Blank next → Alike (Then (forms.bound room).begins (Behind k.Comma (IsDelayHigh room)) next) (After k.Comma (After k.Star next or Then (BeginsExpr room) (IsExpr room) next))
  bound_onto next blank =
      via (flat {F = form.word k.Comma ▸ forms.delay_high room} (Behind k.Comma (IsDelayHigh room)) (λ i m x h. ((tt, x), (h.at, h.mark, h.item))) (λ i m p h. (p.1, record { at = h.0; mark = h.1; item = h.2 }))
      (begin.row (begin.word k.Comma refl) (delay_high_lawful room).form) next blank) (begin.after k.Comma (high_onto next blank))

  -- Clause = from Names | to (NAME | same) | when NAME "." NAME ["(" Names ")"] | provided Expr
  --        | priority Const | any AnyDom {";" AnyDom} do | delay "(" Expr ["," (Expr | "*")] ")"
  pub clause_begins : Alike (forms.clause room).begins (BeginsClause room)
  clause_begins = record { to = λ i m b. to (kind i) i m b; back = back }
    where
      close : Beginning
      close = OneToken k.CloseParenthesis

      swap : (B C : Beginning) (i m : Input) → (B or C) i m → (C or B) i m
      swap B C i m (inl b) = inr b
      swap B C i m (inr c) = inl c

      swapped : (B C : Beginning) → Alike (B or C) (C or B)
      swapped B C = record { to = swap B C; back = swap C B }

      delay : Alike (forms.clause_by room k.Delay).begins (After k.Delay (After k.OpenParenthesis (Then (BeginsExpr room) (IsExpr room) (close or After k.Comma (Then (BeginsExpr room) (IsExpr room) close or After k.Star close)))))
      delay = begin.after k.Delay (begin.after k.OpenParenthesis (begin.part (IsExpr room) same (begin.choice same (via (bound_onto close (λ j. inl refl)) (begin.after k.Comma (swapped (After k.Star close) (Then (BeginsExpr room) (IsExpr room) close)))))))

      to : (x : Kind) (i m : Input) → (forms.clause_by room x).begins i m → BeginsClause room i m
      to k.From i m b = inl b
      to k.To i m (inl e) = inr (inl (inl e))
      to k.To i m (inr (a, t, inl b)) = inr (inl (inr (a, t, inr b)))
      to k.To i m (inr (a, t, inr b)) = inr (inl (inr (a, t, inl b)))
      to k.When i m b = inr (inr (inl b))
      to k.Provided i m b = inr (inr (inr (inl b)))
      to k.Priority i m b = inr (inr (inr (inr (inl b))))
      to k.Any i m b = inr (inr (inr (inr (inr (inl b)))))
      to k.Delay i m b = inr (inr (inr (inr (inr (inr (delay.to i m b))))))
      to _ i m b = inl (inl b)

      begun_by : (x : Kind) → of_all (λ y. is x y || not ((forms.clause_by room x).first y)) ≡ true → (i m : Input) → (forms.clause_by room x).begins i m → (forms.clause room).begins i m
      begun_by = tell.begun_by (forms.clause_by room) goes_on_clause (clause_by room) begins_clause (clause_told room) (goes room) refl

      back : (i m : Input) → BeginsClause room i m → (forms.clause room).begins i m
      back i m (inl b) = begun_by k.From refl i m b
      back i m (inr (inl (inl e))) = begun_by k.To refl i m (inl e)
      back i m (inr (inl (inr (a, t, inl b)))) = begun_by k.To refl i m (inr (a, t, inr b))
      back i m (inr (inl (inr (a, t, inr b)))) = begun_by k.To refl i m (inr (a, t, inl b))
      back i m (inr (inr (inl b))) = begun_by k.When refl i m b
      back i m (inr (inr (inr (inl b)))) = begun_by k.Provided refl i m b
      back i m (inr (inr (inr (inr (inl b))))) = begun_by k.Priority refl i m b
      back i m (inr (inr (inr (inr (inr (inl b)))))) = begun_by k.Any refl i m b
      back i m (inr (inr (inr (inr (inr (inr b)))))) = begun_by k.Delay refl i m (delay.back i m b)

  -- ---- groups

  -- Over what the groups behind a way spell, and what begins them in the one and in other words.
  module _ (G : List Kind → Spelling Group) (clausal : Clausal room G) (B C : List Kind → Beginning) where
    may_follow : (way : List Kind) (g : Group) (m : Input) → EndsGroup way g m → begins_group (on way) (kind m) ≡ true → MayFollow way g (kind m)
    may_follow way g m (inl closed) starts = inl closed
    may_follow way g m (inr none) starts = inr (on_it (stands (kind m) (way_of way g)) (begins_clause (kind m)) none (fresh (stands (kind m) way) (begins_clause (kind m)) starts).1)

    ends_by : (way : List Kind) (g : Group) (m : Input) → MayFollow way g (kind m) → EndsGroup way g m
    ends_by way g m (inl closed) = inl closed
    ends_by way g m (inr stand) = inr (rw stand refl)

    last_ends : (way : List Kind) (g : Group) (gs : List Group) (a m : Input) → EndsGroup way g a → Chain (WholeGroup room G way) gs a m → EndsGroup way (last_of g gs) m
    last_ends way g [] a m ends e = subst (λ a. EndsGroup way g a) e ends
    last_ends way g (x ∷ xs) a m ends h = last_ends way x xs h.0 m h.1.1 h.2

    -- `{Group}+`, on one way
    module _ (way : List Kind) (p : Parser Group) (level : IsLevel room G B way p) (alike : Alike (B way) (C way)) where
      groups_begin : Alike (Groups room G clausal B way p level).begins (BeginGroups room G C way)
      groups_begin = record { to = to; back = back }
        where
          to : (i j : Input) → (Groups room G clausal B way p level).begins i j → BeginGroups room G C way i j
          to i j (inl b) = inl (alike.to i j b)
          to i j (inr (g, a, h, (gs, m, chain, end))) = inr (g, gs, m, (a, h.0, from_chain room G clausal way g gs a m h.1 chain), by end)
            where
              behind : B way m j → (m ≡ j) ⊎ (begins_group (on way) (kind m) ≡ true) → (m ≡ j) ⊎ (MayFollow way (last_of g gs) (kind m) × C way m j)
              behind b (inl e) = inl e
              behind b (inr starts) = inr (may_follow way (last_of g gs) m (last_ends way g gs a m h.1 chain) starts, alike.to m j b)

              by : B way m j ⊎ (m ≡ j) → (m ≡ j) ⊎ (MayFollow way (last_of g gs) (kind m) × C way m j)
              by (inr e) = inl e
              by (inl b) = behind b (level.form.first m j b)

          back : (i j : Input) → BeginGroups room G C way i j → (Groups room G clausal B way p level).begins i j
          back i j (inl c) = inl (alike.back i j c)
          back i j (inr (g, gs, m, are, inl e)) = (open_form room G clausal B way p level).whole i j (g ∷ gs) (subst (λ m. AreGroups room G way (g ∷ gs) i m) e are)
          back i j (inr (g, gs, m, are, inr (may, c))) =
              chain_begins room G clausal B way p level m j g gs (λ i h. inl (ends_by way (last_of g gs) m may, alike.back m j c)) i are.0 are.1 are.2

      -- TransBody = Block | {Group}+
      body_begins : Alike (forms.body_parts room G B way).begins (BeginTransBody room G C way)
      body_begins = begin.choice same groups_begin

    -- Group = Clause (Block | {Group}+)
    group_begins : (way : List Kind) → ((x : Kind) → begins_group (on way) x ≡ true → Alike (forms.body_parts room G B (x ∷ way)).begins (BeginTransBody room G C (x ∷ way))) → Alike (forms.group_parts room G B way).begins (BeginGroup room G C way)
    group_begins way bodies = record { to = λ i j b. to i j (begins_group (on way) (kind i)) refl b; back = back }
      where
        to : (i j : Input) (here : Bool) → begins_group (on way) (kind i) ≡ here → (only_if here (part (forms.clause room ▸ forms.whole_body room G B (kind i ∷ way)))).begins i j → BeginGroup room G C way i j
        to i j false e b = inl b
        to i j true e (inl b) = inr ((fresh (stands (kind i) way) (begins_clause (kind i)) e).0, inl (clause_begins.to i j b))
        to i j true e (inr (c, m, h, b)) = inr ((fresh (stands (kind i) way) (begins_clause (kind i)) e).0, inr (c, m, h, subst (λ x. BeginTransBody room G C (x ∷ way) m j) (clause_kind room i m c h) ((bodies (kind i) e).to m j b)))

        empty : (i j : Input) → i ≡ j → (forms.group_parts room G B way).begins i j
        empty i j e = by (begins_group (on way) (kind i))
          where
            by : (here : Bool) → (only_if here (part (forms.clause room ▸ forms.whole_body room G B (kind i ∷ way)))).begins i j
            by false = e
            by true = inl (subst (λ j. (forms.clause room).begins i j) e ((clause_lawful room).form.nothing i))

        back : (i j : Input) → BeginGroup room G C way i j → (forms.group_parts room G B way).begins i j
        back i j (inl e) = empty i j e
        back i j (inr (new, inl c)) = by ((clause_lawful room).form.first i j b)
          where
            b : (forms.clause room).begins i j
            b = clause_begins.back i j c

            first : (x : Kind) → (forms.clause_by room x).first x ≡ true → begins_clause x ≡ true
            first k.From e = refl
            first k.To e = refl
            first k.When e = refl
            first k.Provided e = refl
            first k.Priority e = refl
            first k.Any e = refl
            first k.Delay e = refl
            first _ e = absurd (cc)

            here : begins_clause (kind i) ≡ true → (forms.group_parts room G B way).begins i j
            here e = let there : begins_group (on way) (kind i) ≡ true = rw (new, e) refl in
                subst (λ here. (only_if here (part (forms.clause room ▸ forms.whole_body room G B (kind i ∷ way)))).begins i j) (sym there) (inl b)

            by : (i ≡ j) ⊎ ((forms.clause_by room (kind i)).first (kind i) ≡ true) → (forms.group_parts room G B way).begins i j
            by (inl e) = empty i j e
            by (inr s) = here (first (kind i) s)
        back i j (inr (new, inr (c, m, h, b))) =
            let at = clause_kind room i m c h in
            let there : begins_group (on way) (kind i) ≡ true = rw (new, ap begins_clause at ∙ of_clause_begins c) refl in
            subst (λ here. (only_if here (part (forms.clause room ▸ forms.whole_body room G B (kind i ∷ way)))).begins i j) (sym there)
            (inr (c, m, h, (bodies (kind i) there).back m j (subst (λ x. BeginTransBody room G C (x ∷ way) m j) (sym at) b)))

  -- where this many more clauses may stand on a way
  within_begins : (n : ℕ) (way : List Kind) → free clause_kinds way ≤ n → Alike (BeginsWithin room n way) (BeginsGroupWithin room n way)
  within_begins zero way fits = same
  within_begins (suc n) way fits =
      group_begins (GroupWithin room n) (within_clausal room n) (BeginsWithin room n) (BeginsGroupWithin room n) way
      (λ x e.
      let f = fresh (stands x way) (begins_clause x) e in
      let less = fewer clause_kinds way x (is_clause x f.1) f.0 in
      body_begins (GroupWithin room n) (within_clausal room n) (BeginsWithin room n) (BeginsGroupWithin room n) (x ∷ way) (group_within (block room) (clause room) n (on (x ∷ way))) (level_within room n (x ∷ way) (omega arith)) (within_begins n (x ∷ way) (omega arith)))

  -- behind `trans`
  pub trans_body_begins : Alike (forms.trans_body room).begins (BeginsTransBody room)
  unfolding stands
  trans_body_begins = body_begins (Outer room) (outer_clausal room) (BeginsOuter room) (BeginsGroupWithin room (length clause_kinds)) [] (outer room) (outer_level room) (within_begins (length clause_kinds) [] (omega arith))
