-- The laws of statements, over those one level down: each form is read by its parser.
use Rattle.std.proofs.Common.{◌≡◌, ◌<◌, ℕ, zero, suc, Bool, true, false, Option, Some, None, Ok, Err, sym, refl, ap, ◌∙◌, subst, inl, inr, ◌⊎◌, arith}
use Rattle.std.specs.Prelude.{◌==◌, ◌||◌, not, if◌then◌else◌}
use Rattle.estelle_tree.specs.declared.kind.Kind.{Kind}
use Rattle.estelle_tree.specs.declared.kind.Kind.TheVariants as k
use Rattle.estelle_tree.specs.declared.span.Span.{Span}
use Rattle.estelle_tree.specs.declared.tree.name.Name.{Name}
use Rattle.estelle_tree.specs.declared.tree.type_expr.Sign.TheVariants as sign
use Rattle.estelle_tree.specs.declared.tree.expression.Expr.{Expr}
use Rattle.estelle_tree.specs.declared.tree.statement.Direction.{Direction}
use Rattle.estelle_tree.specs.declared.tree.statement.Stmt.{Stmt, out-Stmt, roll-Stmt}
use Rattle.estelle_tree.specs.declared.tree.statement.Stmt.TheOpen.{Stmt-F}
use Rattle.estelle_tree.specs.declared.tree.statement.Stmt.TheVariants as a_stmt
use Rattle.estelle_tree.specs.declared.tree.statement.Stmt.TheVariants.{outs-Empty, outs-Assign, outs-Call, outs-Begin, outs-If, outs-While, outs-Repeat, outs-Count, outs-Case, outs-Init, outs-Release, outs-Connect, outs-Disconnect, outs-Attach, outs-Detach, outs-Output, rolls-Empty, rolls-Assign, rolls-Call, rolls-Begin, rolls-If, rolls-While, rolls-Repeat, rolls-Count, rolls-Case, rolls-Init, rolls-Release, rolls-Connect, rolls-Disconnect, rolls-Attach, rolls-Detach, rolls-Output}
use Rattle.estelle_tree.specs.declared.tree.statement.Stmt.TheViews.{roll-out-Stmt, roll-out-Stmts, roll-out-Case}
use Rattle.estelle_tree.specs.declared.tree.statement.Stmts.{out-Stmts, roll-Stmts}
use Rattle.estelle_tree.specs.declared.tree.statement.Case.{out-Case, roll-Case}
use Rattle.estelle_tree.specs.Input.{Input, kind, next, start, between, over}
use Rattle.estelle_tree.specs.Spans.{StmtLayer}
use Rattle.estelle_tree.specs.Spelling.{Spelling, Takes, Behind, Optional}
use Rattle.estelle_tree.specs.Beginning.{Beginning}
use Rattle.estelle_tree.specs.BeginsStatements.{BeginsStmtLayer, BeginsStmtBelow}
use Rattle.estelle_tree.specs.Statements.{StmtsOf, CaseOf, IsIf, IsWhile, IsCount, IsStmtLayer, StmtBelow}
use Rattle.token_reader.specs.Reader.{Parser, ReadResult, and_then, pure, refuse, ◌>>=◌, since, eat, expect, name}
use Rattle.token_reader.specs.Lists.{optional_if, behind, separated_if}
use Rattle.token_reader.proofs.Complete.{Complete, sees_takes, expect_complete}
use Rattle.syntax_forms.specs.Kinds.{is, of_all}
use Rattle.syntax_forms.specs.Form as form
use Rattle.syntax_forms.specs.Form.{Form, ◌▸◌, told}
use Rattle.syntax_forms.specs.Repeats as repeats
use Rattle.syntax_forms.specs.Types as types
use Rattle.syntax_forms.specs.Reading.{Reading, one, ◌then◌, chosen, opening, closed}
use Rattle.syntax_forms.proofs.KindLaws.{within, ends_by}
use Rattle.syntax_forms.proofs.Firsts.{alike, regrouped}
use Rattle.syntax_forms.proofs.ChoiceForms.{some_room}
use Rattle.syntax_forms.proofs.NodeForms.{IsSpanned, IsNode, begun_lawful, known_lawful, never_lawful}
use Rattle.syntax_forms.proofs.ListForms.{sections_read}
use Rattle.syntax_forms.proofs.StepForms.{IsStep, may_last}
use Rattle.syntax_forms.proofs.ToldForms as tell
use Rattle.syntax_forms.proofs.ToldForms.{IsTold}
use Rattle.syntax_forms.proofs.Lawful.{IsLast, IsRead, IsLawful, Starts}
use Rattle.syntax_forms.proofs.Rules as rules
use Rattle.expression_parser.specs.Expression.{where_room}
use Rattle.type_parser.specs.Types.{begins_constant}
use Rattle.type_parser.proofs.TypeForms.{constant_lawful}
use Rattle.statement_parser.specs.Statement.{begins_stmt, goes_on_whole, goes_on_stmt, opens, expr_below, direction_word, start_bound, end_bound, bounds, stmts_over, else_over, case_over, begin_over, if_over, while_over, repeat_over, for_over, case_stmt_over, init, release, connect, disconnect, attach, detach, output, stmt_by, stmt_over, stmt_below, EndsWhole}
use Rattle.statement_parser.specs.Forms as forms
use Rattle.statement_parser.specs.Forms.{Word, make_begin, make_if, make_while, make_repeat, make_for, make_case, make_init, make_release, make_connect, make_disconnect, make_attach, make_detach, make_output}
use Rattle.statement_parser.proofs.PartForms.{ip_lawful, direction_read, expr_below_lawful, may_be_args_read, named, named_told, named_same}
use Rattle.statement_parser.proofs.Whole.{IsLevel, branches_last}

-- the word that opens a level comes first
pub opens_same : {C : Type 0} (room : ℕ) (word : Kind) (f : Unit {0} → Parser C) (i : Input) → and_then (opens room word i) f ≡ opening room (expect word >>= f) i
unfolding opens
opens_same zero word f i = refl
opens_same (suc room) word f i = rw (some_room (suc room) (omega arith)) refl

-- `NAME ":=" Expr (to | downto) Expr do`, part by part
bounds_same : {C : Type 0} (room : ℕ) (g : Name × Expr × Direction × Expr → Parser C) (i : Input)
    → and_then (bounds room i) g ≡ (one name then one (expect k.Becomes) then one (expr_below room) then one direction_word then one (expr_below room) then one (expect k.Do)) C (λ x. g (x.0, x.1.1.0, x.1.1.1.0, x.1.1.1.1.0)) i
unfolding bounds start_bound end_bound
bounds_same {C} room g i =
    regrouped (start_bound room i) _ g rest (λ s a. regrouped (end_bound room a) _ g _ (λ e b. refl))
    ∙ regrouped (name i) _ rest _ (λ n a. regrouped (expect k.Becomes a) _ rest _ (λ u b. regrouped (expr_below room b) _ rest _ (λ e c.
    regrouped (direction_word c) _ _ _ (λ d a. regrouped (expr_below room a) _ _ _ (λ f b. regrouped (expect k.Do b) _ _ _ (λ v c. refl))))))
  where
    rest : Name × Expr → Parser C
    rest s = end_bound room >>= λ e. g (s.0, s.1, e.0, e.1)

-- a constant begins with its first token
constant_takes : (x : Kind) (i : Input) → kind i ≡ x → types.constant.first x ≡ true → types.constant.begins i (next i)
constant_takes k.Plus i e s = inl (inr (inr (sign.Plus, next i, record { kind = e; next = refl }, inl (inl refl))))
constant_takes k.Minus i e s = inl (inr (inr (sign.Minus, next i, record { kind = e; next = refl }, inl (inl refl))))
constant_takes k.Number i e s = inl (inl (inl (inr (record { kind = e; next = refl }))))
constant_takes k.Name i e s = inl (inl (inr (inr (record { kind = e; next = refl }))))
constant_takes k.Char i e s = inr (inr (record { kind = e; next = refl }))
constant_takes _ i e s = absurd (cc)

-- which is whole is a matter of the tree: no `if` at its end can still take an `else`
abbrev pub WholeLayer : (Stmt → Type 0) → StmtLayer → Type 0
WholeLayer W (Stmt-F.If e s None span) = ⊥
WholeLayer W (Stmt-F.If e s (Some t) span) = W t
WholeLayer W (Stmt-F.While e s span) = W s
WholeLayer W (Stmt-F.Count n e d f s span) = W s
WholeLayer W _ = Unit {0}

-- ---- over the parser of the statements one level down
module _ (room : ℕ) (below : Parser Stmt) (S : Bool → Spelling Stmt) (B : Beginning) (level : IsLevel below S B) where
  -- Stmts = Stmt {";" Stmt}
  pub stmts_lawful : IsLawful (forms.stmts S B) (stmts_over below)
  unfolding stmts_over
  stmts_lawful = rules.covered (stmts_over below) told (rules.separated k.Semicolon level.law refl refl).rest (λ i. refl)
    where
      told : IsSpanned over (StmtsOf (S false)) (form.separated k.Semicolon (forms.below S B)).spells (λ ss span. roll-Stmts (record { stmts = ss; span = span }))
      told = record {
        opened = λ i m ss h. ((out-Stmts ss).stmts, h.stmts, ap (λ span. roll-Stmts (record { stmts = (out-Stmts ss).stmts; span = span })) (sym h.span) ∙ roll-out-Stmts ss);
        made = λ i m ss h. record { stmts = h; span = refl };
      }

  -- Case = Const {"," Const} ":" Stmt
  pub case_lawful : IsLawful (forms.case S B) (case_over below)
  unfolding case_over
  case_lawful = rules.spanned (case_over below) told refl (rules.and (rules.separated k.Comma constant_lawful refl refl) (rules.and (rules.word k.Colon refl) (rules.part level.law) refl) refl).rest (λ i. refl)
    where
      told : IsNode (CaseOf (S false)) (form.separated k.Comma types.constant ▸ form.word k.Colon ▸ forms.below S B).spells (λ p span. roll-Case (record { labels = p.0; body = p.1.1; span = span }))
      told = record {
        opened = λ i m c h. (((out-Case c).labels, (tt, (out-Case c).body)), (h.parts.mid, h.parts.first, (h.parts.at, h.parts.mark, h.parts.second)), ap (λ span. roll-Case (record { labels = (out-Case c).labels; body = (out-Case c).body; span = span })) (sym h.span) ∙ roll-out-Case c);
        made = λ i m p h. record { parts = record { mid = h.0; at = h.2.0; first = h.1; mark = h.2.1; second = h.2.2 }; span = refl };
      }

  cases_read : IsRead (form.sections k.Semicolon (forms.case S B)) (one (separated_if k.Semicolon begins_constant (case_over below)) then one (eat k.Semicolon))
  cases_read = sections_read k.Semicolon (forms.case S B) (case_over below) case_lawful refl refl refl refl begins_constant tells takes
    where
      tells : (x : Kind) → begins_constant x ≡ (forms.case S B).first x
      tells k.Plus = refl
      tells k.Minus = refl
      tells k.Number = refl
      tells k.Name = refl
      tells k.Char = refl
      tells _ = refl

      takes : (i : Input) → Starts (forms.case S B) i → (forms.case S B).begins i (next i)
      takes i s = inl (constant_takes (kind i) i refl (within (forms.case S B).first types.constant.first refl (kind i) s))

  -- a statement behind the word that opens a level
  opened : {P : Type 0} {F : Form P} {t : Reading P} (word : Kind) (make : P → Span → Stmt) → is word k.Nothing ≡ false → (0 < room → IsLast F t) → (p : Parser Stmt) → ((i : Input) → p i ≡ and_then (opens room word i) (λ u. t Stmt (closed make (start i))))
      → IsTold word (form.built make (form.level room word F)) p (not (room == 0))
  opened {t = t} word make is_token last p same = tell.opening room word make is_token last p (λ i. same i ∙ opens_same room word (λ u. t Stmt (closed make (start i))) i)

  -- the parser that a terminal selects, and whether one stands there
  abbrev parser_by : Kind → Parser Stmt
  parser_by k.Name = named room
  parser_by k.Begin = begin_over room below
  parser_by k.If = if_over room below
  parser_by k.While = while_over room below
  parser_by k.Repeat = repeat_over room below
  parser_by k.For = for_over room below
  parser_by k.Case = case_stmt_over room below
  parser_by k.Init = init room
  parser_by k.Release = release
  parser_by k.Connect = connect
  parser_by k.Disconnect = disconnect
  parser_by k.Attach = attach
  parser_by k.Detach = detach
  parser_by k.Output = output room
  parser_by _ = refuse

  abbrev here : Kind → Bool
  here k.Begin = not (room == 0)
  here k.If = not (room == 0)
  here k.While = not (room == 0)
  here k.Repeat = not (room == 0)
  here k.For = not (room == 0)
  here k.Case = not (room == 0)
  here x = begins_stmt x

  at_expr : 0 < room → IsRead (forms.expr_below room) (one (expr_below room))
  at_expr fits = rules.part (expr_below_lawful room fits)

  abbrev after_bounds : Input → Name × (Word × (Expr × (Direction × (Expr × Word)))) → Parser Stmt
  after_bounds i (n, (u, (c, (d, (f, v))))) = below >>= λ s. closed make_for (start i) (n, (u, (c, (d, (f, (v, s))))))

  -- the bounds of a `for`, and what comes next
  for_there : (i : Input) → for_over room below i ≡ and_then (opens room k.For i) (λ u. (one name then one (expect k.Becomes) then one (expr_below room) then one direction_word then one (expr_below room) then one (expect k.Do)) Stmt (after_bounds i))
  unfolding for_over
  for_there i = alike (opens room k.For i) _ _ (λ u a. bounds_same room (λ x. below >>= λ s. since (start i) >>= λ span. pure (a_stmt.Count x.0 x.1 x.2 x.3 s span)) a)

  for_same : (i : Input) → for_over room below i ≡ and_then (opens room k.For i) (λ u. (one name then one (expect k.Becomes) then one (expr_below room) then one direction_word then one (expr_below room) then one (expect k.Do) then one below) Stmt (closed make_for (start i)))
  for_same = for_there

  each : (x : Kind) → IsTold x (forms.stmt_by S B room x) (parser_by x) (here x)
  unfolding begin_over if_over while_over repeat_over case_stmt_over init release connect disconnect attach detach output
  each k.Name = named_told room
  each k.Begin = opened k.Begin make_begin refl (λ fits. (rules.and (rules.part stmts_lawful) (rules.word k.End refl) refl).rest) (begin_over room below) (λ i. refl)
  each k.If = opened k.If make_if refl (λ fits. rules.and_last (at_expr fits) (rules.and_last (rules.word k.Then refl) (branches_last below S B level) refl) refl) (if_over room below) (λ i. refl)
  each k.While = opened k.While make_while refl (λ fits. (rules.and (at_expr fits) (rules.and (rules.word k.Do refl) (rules.part level.law) refl) refl).rest) (while_over room below) (λ i. refl)
  each k.Repeat = opened k.Repeat make_repeat refl (λ fits. (rules.and (rules.part stmts_lawful) (rules.and (rules.word k.Until refl) (at_expr fits) refl) refl).rest) (repeat_over room below) (λ i. refl)
  each k.For = opened k.For make_for refl (λ fits. (rules.and rules.name (rules.and (rules.word k.Becomes refl) (rules.and (at_expr fits) (rules.and direction_read (rules.and (at_expr fits) (rules.and (rules.word k.Do refl) (rules.part level.law) refl) refl) refl) refl) refl) refl).rest) (for_over room below) for_same
  each k.Case = opened k.Case make_case refl (λ fits. (rules.and (at_expr fits) (rules.and (rules.word k.Of refl) (rules.and cases_read (rules.word k.End refl) refl) refl) refl).rest) (case_stmt_over room below) (λ i. refl)
  each k.Init = tell.worded k.Init make_init refl (rules.and_last rules.name (rules.and_last (rules.word k.With refl) (rules.and_last rules.name (may_be_args_read room).rest refl) refl) refl) (init room) (λ i. refl)
  each k.Release = tell.worded k.Release make_release refl rules.name.rest release (λ i. refl)
  each k.Connect = tell.worded k.Connect make_connect refl (rules.and (rules.part ip_lawful) (rules.and (rules.word k.To refl) (rules.part ip_lawful) refl) refl).rest connect (λ i. refl)
  each k.Disconnect = tell.worded k.Disconnect make_disconnect refl (rules.part ip_lawful).rest disconnect (λ i. refl)
  each k.Attach = tell.worded k.Attach make_attach refl (rules.and rules.name (rules.and (rules.word k.To refl) (rules.and rules.name (rules.and (rules.word k.Dot refl) rules.name refl) refl) refl) refl).rest attach (λ i. refl)
  each k.Detach = tell.worded k.Detach make_detach refl rules.name.rest detach (λ i. refl)
  each k.Output = tell.worded k.Output make_output refl (rules.and_last rules.name (rules.and_last (rules.word k.Dot refl) (rules.and_last rules.name (may_be_args_read room).rest refl) refl) refl) (output room) (λ i. refl)
  each x = tell.nowhere x

  goes : (x : Kind) → of_all (λ y. goes_on_stmt y || not ((forms.stmt_by S B room x).on y)) ≡ true
  goes k.Name = refl
  goes _ = refl

  Told : Form Stmt
  Told = told (forms.stmt_by S B room) goes_on_stmt

  abbrev stmt_at : Parser Stmt
  stmt_at i = parser_by (kind i) i

  make_stmt : Option Stmt → Stmt
  make_stmt None = a_stmt.Empty
  make_stmt (Some s) = s

  -- ---- the tree of a statement and the form that its first terminal selects

  Selected : Stmt → Input → Input → Type 0
  Selected s i m = (o : Option Stmt) × Optional Told.spells o i m × (make_stmt o ≡ s)

  selected : (i m : Input) (s : Stmt) (x : Kind) → of_all (λ y. is x y || not ((forms.stmt_by S B room x).first y)) ≡ true → (forms.stmt_by S B room x).spells s i m → Selected s i m
  unfolding Selected Told make_stmt
  selected i m s x only h = (Some s, subst (λ x. (forms.stmt_by S B room x).spells s i m) (sym (tell.spelled_by (forms.stmt_by S B room) goes_on_stmt parser_by here each goes refl x only i m s h)) h, refl)

  of_layer : (i m : Input) (s : Stmt) (l : StmtLayer) → roll-Stmt l ≡ s → IsStmtLayer room S false l i m → Selected s i m
  unfolding Selected make_stmt
  of_layer i m s Stmt-F.Empty e h = (None, h, sym rolls-Empty ∙ e)
  of_layer i m s (Stmt-F.Assign v x span) e h = selected i m s k.Name refl (inr (v, (tt, x)), (h.0.mid, h.0.first, (h.0.at, h.0.mark, h.0.second)), ap (a_stmt.Assign v x) (sym h.1) ∙ sym (rolls-Assign v x span) ∙ e)
  of_layer i m s (Stmt-F.Call n given span) e h = selected i m s k.Name refl (inl (n, given), (h.0.mid, h.0.name, h.0.args), ap (a_stmt.Call n given) (sym h.1) ∙ sym (rolls-Call n given span) ∙ e)
  of_layer i m s (Stmt-F.Begin ss span) e h = selected i m s k.Begin refl ((ss, tt), (h.0, (h.1.at, h.1.opens, (h.1.mid, h.1.inside, h.1.closes))), ap (a_stmt.Begin ss) (sym h.2) ∙ sym (rolls-Begin ss span) ∙ e)
  of_layer i m s (Stmt-F.If c x None span) e h =
      let g = h.1.1 in
      selected i m s k.If refl ((c, (tt, (x, None))), (h.0, (g.at, g.word, (g.mid, g.condition, (g.then_part.at, g.then_part.mark, g.then_part.item)))), ap (a_stmt.If c x None) (sym h.2) ∙ sym (rolls-If c x None span) ∙ e)
  of_layer i m s (Stmt-F.If c x (Some t) span) e h =
      let g = h.1.1 in
      selected i m s k.If refl ((c, (tt, (x, Some t))), (h.0, (g.at, g.word, (g.mid, g.condition, (g.then_part.at, g.then_part.mark, (h.1.0, g.then_part.item, h.1.2))))), ap (a_stmt.If c x (Some t)) (sym h.2) ∙ sym (rolls-If c x (Some t) span) ∙ e)
  of_layer i m s (Stmt-F.While c x span) e h =
      let r = h.1 in
      selected i m s k.While refl ((c, (tt, x)), (h.0, (r.at, r.word, (r.mid, r.condition, (r.body.at, r.body.mark, r.body.item)))), ap (a_stmt.While c x) (sym h.2) ∙ sym (rolls-While c x span) ∙ e)
  of_layer i m s (Stmt-F.Repeat ss c span) e h =
      let r = h.1 in
      selected i m s k.Repeat refl ((ss, (tt, c)), (h.0, (r.stmts.at, r.stmts.opens, (r.stmts.mid, r.stmts.inside, (r.mid, r.stmts.closes, r.condition)))), ap (a_stmt.Repeat ss c) (sym h.2) ∙ sym (rolls-Repeat ss c span) ∙ e)
  of_layer i m s (Stmt-F.Count n c d f x span) e h =
      let r = h.1 in
      selected i m s k.For refl (
        (n, (tt, (c, (d, (f, (tt, x)))))),
        (h.0, (r.at, r.word, (r.start.mid, r.start.first, (r.start.at, r.start.mark, (r.mid, r.start.second, (r.last.at, r.last.mark, (r.after, r.last.item, (r.body.at, r.body.mark, r.body.item)))))))),
        ap (a_stmt.Count n c d f x) (sym h.2) ∙ sym (rolls-Count n c d f x span) ∙ e,
      )
  of_layer i m s (Stmt-F.Case c cs is_ended span) e h =
      let r = h.1 in
      selected i m s k.Case refl (
        (c, (tt, ((cs, is_ended), tt))),
        (h.0, (r.at, r.word, (r.parts.mid, r.parts.first, (r.parts.at, r.parts.mark, (r.after, (r.mid, r.parts.second, r.semicolon), r.ends))))),
        ap (a_stmt.Case c cs is_ended) (sym h.2) ∙ sym (rolls-Case c cs is_ended span) ∙ e,
      )
  of_layer i m s (Stmt-F.Init v b given span) e h =
      let r = h.0 in
      selected i m s k.Init refl ((tt, (v, (tt, (b, given)))), (r.at, r.word, (r.names.mid, r.names.first, (r.names.at, r.names.mark, (r.mid, r.names.second, r.args)))), ap (a_stmt.Init v b given) (sym h.1) ∙ sym (rolls-Init v b given span) ∙ e)
  of_layer i m s (Stmt-F.Release v span) e h = selected i m s k.Release refl ((tt, v), (h.0.at, h.0.mark, h.0.item), ap (a_stmt.Release v) (sym h.1) ∙ sym (rolls-Release v span) ∙ e)
  of_layer i m s (Stmt-F.Connect p q span) e h =
      let r = h.0 in
      selected i m s k.Connect refl ((tt, (p, (tt, q))), (r.at, r.word, (r.ips.mid, r.ips.first, (r.ips.at, r.ips.mark, r.ips.second))), ap (a_stmt.Connect p q) (sym h.1) ∙ sym (rolls-Connect p q span) ∙ e)
  of_layer i m s (Stmt-F.Disconnect p span) e h = selected i m s k.Disconnect refl ((tt, p), (h.0.at, h.0.mark, h.0.item), ap (a_stmt.Disconnect p) (sym h.1) ∙ sym (rolls-Disconnect p span) ∙ e)
  of_layer i m s (Stmt-F.Attach o v p span) e h =
      let r = h.0 in
      selected i m s k.Attach refl ((tt, (o, (tt, (v, (tt, p))))), (r.at, r.word, (r.mid, r.own, (r.after, r.to, (r.lower.mid, r.lower.first, (r.lower.at, r.lower.mark, r.lower.second))))), ap (a_stmt.Attach o v p) (sym h.1) ∙ sym (rolls-Attach o v p span) ∙ e)
  of_layer i m s (Stmt-F.Detach o span) e h = selected i m s k.Detach refl ((tt, o), (h.0.at, h.0.mark, h.0.item), ap (a_stmt.Detach o) (sym h.1) ∙ sym (rolls-Detach o span) ∙ e)
  of_layer i m s (Stmt-F.Output p n given span) e h =
      let r = h.0 in
      selected i m s k.Output refl ((tt, (p, (tt, (n, given)))), (r.at, r.word, (r.names.mid, r.names.first, (r.names.at, r.names.mark, (r.mid, r.names.second, r.args)))), ap (a_stmt.Output p n given) (sym h.1) ∙ sym (rolls-Output p n given span) ∙ e)

  -- and back
  layered : {l : StmtLayer} (i m : Input) (s t : Stmt) → t ≡ s → out-Stmt t ≡ l → IsStmtLayer room S false l i m → IsStmtLayer room S false (out-Stmt s) i m
  layered i m s t same e h = subst (λ s. IsStmtLayer room S false (out-Stmt s) i m) same (subst (λ l. IsStmtLayer room S false l i m) (sym e) h)

  to_layer : (x : Kind) (i m : Input) (s : Stmt) → (forms.stmt_by S B room x).spells s i m → IsStmtLayer room S false (out-Stmt s) i m
  to_layer k.Name i m s (inr (v, (u, x)), (a, f, (b, t, g)), e) = layered i m s _ e (outs-Assign v x (between i m)) (record { mid = a; at = b; first = f; mark = t; second = g }, refl)
  to_layer k.Name i m s (inl (n, given), (a, f, g), e) = layered i m s _ e (outs-Call n given (between i m)) (record { mid = a; name = f; args = g }, refl)
  to_layer k.Begin i m s ((ss, u), (fits, (a, t, (b, f, g))), e) = layered i m s _ e (outs-Begin ss (between i m)) (fits, record { at = a; mid = b; opens = t; inside = f; closes = g }, refl)
  to_layer k.If i m s ((c, (u, (x, None))), (fits, (a, t, (b, f, (d, g, y)))), e) =
      layered i m s _ e (outs-If c x None (between i m)) (fits, (refl, record { at = a; mid = b; word = t; condition = f; then_part = record { at = d; mark = g; item = y } }), refl)
  to_layer k.If i m s ((c, (u, (x, Some z))), (fits, (a, t, (b, f, (d, g, (n, y, o))))), e) =
      layered i m s _ e (outs-If c x (Some z) (between i m)) (fits, (n, record { at = a; mid = b; word = t; condition = f; then_part = record { at = d; mark = g; item = y } }, o), refl)
  to_layer k.While i m s ((c, (u, x)), (fits, (a, t, (b, f, (d, g, y)))), e) = layered i m s _ e (outs-While c x (between i m)) (fits, record { at = a; mid = b; word = t; condition = f; body = record { at = d; mark = g; item = y } }, refl)
  to_layer k.Repeat i m s ((ss, (u, c)), (fits, (a, t, (b, f, (d, g, y)))), e) = layered i m s _ e (outs-Repeat ss c (between i m)) (fits, record { mid = d; stmts = record { at = a; mid = b; opens = t; inside = f; closes = g }; condition = y }, refl)
  to_layer k.For i m s ((n, (u, (c, (d, (f, (v, x)))))), (fits, (a, t, (b, y, (j, g, (l, z, (o, w, (p, q, (r, h, body)))))))), e) =
      layered i m s _ e (outs-Count n c d f x (between i m))
      (fits, record { at = a; mid = l; after = p; word = t; start = record { mid = b; at = j; first = y; mark = g; second = z }; last = record { at = o; mark = w; item = q }; body = record { at = r; mark = h; item = body } }, refl)
  to_layer k.Case i m s ((c, (u, ((cs, is_ended), v))), (fits, (a, t, (b, f, (d, g, (j, (l, y, z), w))))), e) =
      layered i m s _ e (outs-Case c cs is_ended (between i m)) (fits, record { at = a; mid = l; after = j; word = t; parts = record { mid = b; at = d; first = f; mark = g; second = y }; semicolon = z; ends = w }, refl)
  to_layer k.Init i m s ((u, (v, (w, (b, given)))), (a, t, (c, f, (d, g, (j, y, z)))), e) = layered i m s _ e (outs-Init v b given (between i m)) (record { at = a; mid = j; word = t; names = record { mid = c; at = d; first = f; mark = g; second = y }; args = z }, refl)
  to_layer k.Release i m s ((u, v), (a, t, f), e) = layered i m s _ e (outs-Release v (between i m)) (record { at = a; mark = t; item = f }, refl)
  to_layer k.Connect i m s ((u, (p, (v, q))), (a, t, (b, f, (c, g, y))), e) = layered i m s _ e (outs-Connect p q (between i m)) (record { at = a; word = t; ips = record { mid = b; at = c; first = f; mark = g; second = y } }, refl)
  to_layer k.Disconnect i m s ((u, p), (a, t, f), e) = layered i m s _ e (outs-Disconnect p (between i m)) (record { at = a; mark = t; item = f }, refl)
  to_layer k.Attach i m s ((u, (o, (v, (n, (w, p))))), (a, t, (b, f, (c, g, (d, y, (j, z, q))))), e) =
      layered i m s _ e (outs-Attach o n p (between i m)) (record { at = a; mid = b; after = c; word = t; own = f; to = g; lower = record { mid = d; at = j; first = y; mark = z; second = q } }, refl)
  to_layer k.Detach i m s ((u, o), (a, t, f), e) = layered i m s _ e (outs-Detach o (between i m)) (record { at = a; mark = t; item = f }, refl)
  to_layer k.Output i m s ((u, (p, (v, (n, given)))), (a, t, (c, f, (d, g, (j, y, z)))), e) = layered i m s _ e (outs-Output p n given (between i m)) (record { at = a; mid = j; word = t; names = record { mid = c; at = d; first = f; mark = g; second = y }; args = z }, refl)
  to_layer _ i m s h = absurd h

  -- ---- what begins a statement, in the words of the tree

  to_begins : (x : Kind) (i m : Input) → (forms.stmt_by S B room x).begins i m → BeginsStmtLayer room S B i m
  to_begins k.Name i m (inl b) = inr (inr (inl b))
  to_begins k.Name i m (inr b) = inr (inl b)
  to_begins k.Begin i m b = inr (inr (inr (inl b)))
  to_begins k.If i m b = inr (inr (inr (inr (inl b))))
  to_begins k.While i m b = inr (inr (inr (inr (inr (inl b)))))
  to_begins k.Repeat i m b = inr (inr (inr (inr (inr (inr (inl b))))))
  to_begins k.For i m b = inr (inr (inr (inr (inr (inr (inr (inl b)))))))
  to_begins k.Case i m b = inr (inr (inr (inr (inr (inr (inr (inr (inl b))))))))
  to_begins k.Init i m b = inr (inr (inr (inr (inr (inr (inr (inr (inr (inl b)))))))))
  to_begins k.Release i m b = inr (inr (inr (inr (inr (inr (inr (inr (inr (inr (inl b))))))))))
  to_begins k.Connect i m b = inr (inr (inr (inr (inr (inr (inr (inr (inr (inr (inr (inl b)))))))))))
  to_begins k.Disconnect i m b = inr (inr (inr (inr (inr (inr (inr (inr (inr (inr (inr (inr (inl b))))))))))))
  to_begins k.Attach i m b = inr (inr (inr (inr (inr (inr (inr (inr (inr (inr (inr (inr (inr (inl b)))))))))))))
  to_begins k.Detach i m b = inr (inr (inr (inr (inr (inr (inr (inr (inr (inr (inr (inr (inr (inr (inl b))))))))))))))
  to_begins k.Output i m b = inr (inr (inr (inr (inr (inr (inr (inr (inr (inr (inr (inr (inr (inr (inr b))))))))))))))
  to_begins _ i m e = inl e

  begun : (x : Kind) → of_all (λ y. is x y || not ((forms.stmt_by S B room x).first y)) ≡ true → (i m : Input) → (forms.stmt_by S B room x).begins i m → (forms.stmt_by S B room (kind i)).begins i m
  begun = tell.begun_by (forms.stmt_by S B room) goes_on_stmt parser_by here each goes refl

  of_begins : (i m : Input) → BeginsStmtLayer room S B i m → (forms.stmt_by S B room (kind i)).begins i m
  of_begins i m (inl e) = subst (λ m. (forms.stmt_by S B room (kind i)).begins i m) e ((each (kind i)).law.form.nothing i)
  of_begins i m (inr (inl b)) = begun k.Name refl i m (inr b)
  of_begins i m (inr (inr (inl b))) = begun k.Name refl i m (inl b)
  of_begins i m (inr (inr (inr (inl b)))) = begun k.Begin refl i m b
  of_begins i m (inr (inr (inr (inr (inl b))))) = begun k.If refl i m b
  of_begins i m (inr (inr (inr (inr (inr (inl b)))))) = begun k.While refl i m b
  of_begins i m (inr (inr (inr (inr (inr (inr (inl b))))))) = begun k.Repeat refl i m b
  of_begins i m (inr (inr (inr (inr (inr (inr (inr (inl b)))))))) = begun k.For refl i m b
  of_begins i m (inr (inr (inr (inr (inr (inr (inr (inr (inl b))))))))) = begun k.Case refl i m b
  of_begins i m (inr (inr (inr (inr (inr (inr (inr (inr (inr (inl b)))))))))) = begun k.Init refl i m b
  of_begins i m (inr (inr (inr (inr (inr (inr (inr (inr (inr (inr (inl b))))))))))) = begun k.Release refl i m b
  of_begins i m (inr (inr (inr (inr (inr (inr (inr (inr (inr (inr (inr (inl b)))))))))))) = begun k.Connect refl i m b
  of_begins i m (inr (inr (inr (inr (inr (inr (inr (inr (inr (inr (inr (inr (inl b))))))))))))) = begun k.Disconnect refl i m b
  of_begins i m (inr (inr (inr (inr (inr (inr (inr (inr (inr (inr (inr (inr (inr (inl b)))))))))))))) = begun k.Attach refl i m b
  of_begins i m (inr (inr (inr (inr (inr (inr (inr (inr (inr (inr (inr (inr (inr (inr (inl b))))))))))))))) = begun k.Detach refl i m b
  of_begins i m (inr (inr (inr (inr (inr (inr (inr (inr (inr (inr (inr (inr (inr (inr (inr b))))))))))))))) = begun k.Output refl i m b

  -- ---- the do-definition selects by the first terminal, and by the room where a level opens

  roomy : (p : Parser Stmt) (i : Input) → where_room room p (pure a_stmt.Empty) i ≡ chosen (not (room == 0)) p (pure a_stmt.Empty) i
  roomy p i = by (room == 0)
    where
      by : (none : Bool) → (if none then pure a_stmt.Empty else p) i ≡ chosen (not none) p (pure a_stmt.Empty) i
      by true = refl
      by false = refl

  same_by : (x : Kind) (i : Input) → kind i ≡ x → stmt_by room below x (kind (next i)) i ≡ chosen (here x) (parser_by x) (pure a_stmt.Empty) i
  same_by k.Name i e = named_same room i e
  same_by k.Begin i e = roomy (begin_over room below) i
  same_by k.If i e = roomy (if_over room below) i
  same_by k.While i e = roomy (while_over room below) i
  same_by k.Repeat i e = roomy (repeat_over room below) i
  same_by k.For i e = roomy (for_over room below) i
  same_by k.Case i e = roomy (case_stmt_over room below) i
  same_by _ i e = refl

  one_stmt : IsStep Told (λ i. optional_if (here (kind i)) stmt_at i)
  unfolding Told
  one_stmt = tell.told_or_nothing (forms.stmt_by S B room) goes_on_stmt parser_by here each goes refl

  stmt_same : (i : Input) → stmt_over room below i ≡ and_then (optional_if (here (kind i)) stmt_at i) (λ o. pure (make_stmt o))
  unfolding stmt_over make_stmt
  stmt_same i = same_by (kind i) i refl ∙ by (here (kind i))
    where
      kept : (o : ReadResult Stmt) → o ≡ and_then (and_then o (λ s. pure (Some s))) (λ o. pure (make_stmt o))
      kept (Ok p) = refl
      kept (Err e) = refl

      by : (b : Bool) → chosen b (parser_by (kind i)) (pure a_stmt.Empty) i ≡ and_then (optional_if b stmt_at i) (λ o. pure (make_stmt o))
      by true = kept (stmt_at i)
      by false = refl

  law : IsLawful (forms.below (λ whole s. IsStmtLayer room S whole (out-Stmt s)) (BeginsStmtLayer room S B)) (stmt_over room below)
  unfolding Told make_stmt Selected
  law =
      known_lawful _ (stmt_over room below)
      (begun_lawful (BeginsStmtLayer room S B) _ (stmt_over room below) (rules.made (stmt_over room below) told_node (may_last Told _ one_stmt refl) stmt_same) (λ i m. to_begins (kind i) i m) of_begins)
      begins_stmt goes_on_stmt refl refl
    where
      told_node : IsNode (λ s. IsStmtLayer room S false (out-Stmt s)) (repeats.may Told).spells (λ o span. make_stmt o)
      told_node = record { opened = λ i m s h. of_layer i m s (out-Stmt s) (roll-out-Stmt s) h; made = made }
        where
          made : (i m : Input) (o : Option Stmt) → (repeats.may Told).spells o i m → IsStmtLayer room S false (out-Stmt (make_stmt o)) i m
          made i m None e = subst (λ l. IsStmtLayer room S false l i m) (sym outs-Empty) e
          made i m (Some s) h = to_layer (kind i) i m s h

  -- ---- whole statements

  loosened : (l : StmtLayer) (i j : Input) → IsStmtLayer room S true l i j → IsStmtLayer room S false l i j × WholeLayer level.Whole l
  loosened (Stmt-F.If e s None span) i j h = absurd (let no : true ≡ false = h.1.0 in cc)
  loosened (Stmt-F.If e s (Some t) span) i j h =
      let b = h.1.2 in
      let o = level.loosened b.at j t b.item in
      ((h.0, (h.1.0, h.1.1, record { at = b.at; mark = b.mark; item = o.0 }), h.2), o.1)
  loosened (Stmt-F.While e s span) i j h =
      let r = h.1 in
      let o = level.loosened r.body.at j s r.body.item in
      ((h.0, record { at = r.at; mid = r.mid; word = r.word; condition = r.condition; body = record { at = r.body.at; mark = r.body.mark; item = o.0 } }, h.2), o.1)
  loosened (Stmt-F.Count n e d f s span) i j h =
      let r = h.1 in
      let o = level.loosened r.body.at j s r.body.item in
      ((h.0, record { at = r.at; mid = r.mid; after = r.after; word = r.word; start = r.start; last = r.last; body = record { at = r.body.at; mark = r.body.mark; item = o.0 } }, h.2), o.1)
  loosened _ i j h = (h, tt)

  tightened : (l : StmtLayer) (i j : Input) → IsStmtLayer room S false l i j → WholeLayer level.Whole l → IsStmtLayer room S true l i j
  tightened (Stmt-F.If e s None span) i j h w = absurd w
  tightened (Stmt-F.If e s (Some t) span) i j h w =
      let b = h.1.2 in
      (h.0, (h.1.0, h.1.1, record { at = b.at; mark = b.mark; item = level.tightened b.at j t b.item w }), h.2)
  tightened (Stmt-F.While e s span) i j h w =
      let r = h.1 in
      (h.0, record { at = r.at; mid = r.mid; word = r.word; condition = r.condition; body = record { at = r.body.at; mark = r.body.mark; item = level.tightened r.body.at j s r.body.item w } }, h.2)
  tightened (Stmt-F.Count n e d f s span) i j h w =
      let r = h.1 in
      (h.0, record { at = r.at; mid = r.mid; after = r.after; word = r.word; start = r.start; last = r.last; body = record { at = r.body.at; mark = r.body.mark; item = level.tightened r.body.at j s r.body.item w } }, h.2)
  tightened _ i j h w = h

  longer : (l : StmtLayer) (i j m : Input) → IsStmtLayer room S false l i j → Takes k.Else j m → WholeLayer level.Whole l ⊎ BeginsStmtLayer room S B i m
  longer (Stmt-F.If e s None span) i j m h t = by (level.longer g.then_part.at j m s g.then_part.item t)
    where
      g : IsIf room S false e s i j
      g = h.1.1

      by : level.Whole s ⊎ B g.then_part.at m → ⊥ ⊎ BeginsStmtLayer room S B i m
      by (inl w) = inr (to_begins k.If i m (inr (h.0, (g.at, g.word, inr (e, g.mid, g.condition, inr (g.then_part.at, g.then_part.mark, inr (s, j, level.tightened g.then_part.at j s g.then_part.item w, inr (m, t, level.law.form.nothing m))))))))
      by (inr b) = inr (to_begins k.If i m (inr (h.0, (g.at, g.word, inr (e, g.mid, g.condition, inr (g.then_part.at, g.then_part.mark, inl b))))))
  longer (Stmt-F.If e s (Some x) span) i j m h t = by (level.longer b.at j m x b.item t)
    where
      b : Behind k.Else (S false) x h.1.0 j
      b = h.1.2

      g : IsIf room S true e s i h.1.0
      g = h.1.1

      by : level.Whole x ⊎ B b.at m → level.Whole x ⊎ BeginsStmtLayer room S B i m
      by (inl w) = inl w
      by (inr y) = inr (to_begins k.If i m (inr (h.0, (g.at, g.word, inr (e, g.mid, g.condition, inr (g.then_part.at, g.then_part.mark, inr (s, h.1.0, g.then_part.item, inr (b.at, b.mark, y))))))))
  longer (Stmt-F.While e s span) i j m h t = by (level.longer r.body.at j m s r.body.item t)
    where
      r : IsWhile room S false e s i j
      r = h.1

      by : level.Whole s ⊎ B r.body.at m → level.Whole s ⊎ BeginsStmtLayer room S B i m
      by (inl w) = inl w
      by (inr y) = inr (to_begins k.While i m (inr (h.0, (r.at, r.word, inr (e, r.mid, r.condition, inr (r.body.at, r.body.mark, y))))))
  longer (Stmt-F.Count n e d f s span) i j m h t = by (level.longer r.body.at j m s r.body.item t)
    where
      r : IsCount room S false n e d f s i j
      r = h.1

      by : level.Whole s ⊎ B r.body.at m → level.Whole s ⊎ BeginsStmtLayer room S B i m
      by (inl w) = inl w
      by (inr y) = inr (to_begins k.For i m (inr (h.0, (r.at, r.word, inr (r.start.mid, record { kind = r.start.first.free; next = r.start.first.next }, inr (r.start.at, r.start.mark, inr (e, r.mid, r.start.second, inr (d, r.last.at, r.last.mark, inr (f, r.after, r.last.item, inr (r.body.at, r.body.mark, y))))))))))
  longer _ i j m h t = inl tt

  -- what is whole is read also where an `else` comes
  opens_there : {C : Type 0} (word : Kind) (f : Unit {0} → Parser C) (i a : Input) → 0 < room → Takes word i a → and_then (opens room word i) f ≡ f tt a
  opens_there word f i a fits t = opens_same room word f i ∙ rw (some_room room fits, expect_complete word i a t) refl

  whole_of : (s t : Stmt) (l : StmtLayer) → t ≡ s → out-Stmt t ≡ l → WholeLayer level.Whole (out-Stmt s) → WholeLayer level.Whole l
  whole_of s t l same e w = subst (WholeLayer level.Whole) e (subst (λ s. WholeLayer level.Whole (out-Stmt s)) (sym same) w)

  whole_by : (x : Kind) (i j : Input) (s : Stmt) → (forms.stmt_by S B room x).spells s i j → WholeLayer level.Whole (out-Stmt s) → EndsWhole j → parser_by x i ≡ Ok (s, j)
  unfolding if_over while_over behind between
  whole_by k.If i j s ((c, (u, (x, None))), (fits, (a, t, (b, f, (d, g, y)))), e) w end = absurd (whole_of s _ _ e (outs-If c x None (between i j)) w)
  whole_by k.If i j s ((c, (u, (x, Some z))), (fits, (a, t, (b, f, (d, g, (n, y, o))))), e) w end =
      let whole = level.tightened o.at j z o.item (whole_of s _ _ e (outs-If c x (Some z) (between i j)) w) in
      let branch : else_over below n ≡ Ok (Some z, j) = rw (sees_takes k.Else n o.at o.mark, o.mark.next, level.complete o.at j z whole end) refl in
      opens_there k.If _ i a fits t ∙ rw (
        (expr_below_lawful room fits).complete a b c f (ap (forms.expr_below room).on g.kind),
        expect_complete k.Then b d g,
        level.complete d n x y (ap goes_on_whole o.mark.kind),
        branch,
      ) (ap (λ s. Ok (s, j)) e)
  whole_by k.While i j s ((c, (u, x)), (fits, (a, t, (b, f, (d, g, y)))), e) w end =
      let whole = level.tightened d j x y (whole_of s _ _ e (outs-While c x (between i j)) w) in
      opens_there k.While _ i a fits t ∙ rw (
        (expr_below_lawful room fits).complete a b c f (ap (forms.expr_below room).on g.kind),
        expect_complete k.Do b d g,
        level.complete d j x whole end,
      ) (ap (λ s. Ok (s, j)) e)
  whole_by k.For i j s ((n, (u, (c, (d, (f, (v, x)))))), (fits, (a, t, (b, y, (p, g, (l, z, (o, q, (r, h, (m, body, last)))))))), e) w end =
      let whole = level.tightened m j x last (whole_of s _ _ e (outs-Count n c d f x (between i j)) w) in
      let bounds = rules.and rules.name (rules.and (rules.word k.Becomes refl) (rules.and (at_expr fits) (rules.and direction_read (rules.and (at_expr fits) (rules.word k.Do refl) refl) refl) refl) refl) refl in
      for_there i ∙ opens_there k.For _ i a fits t ∙ bounds.complete Stmt (after_bounds i) a m (n, (u, (c, (d, (f, v))))) (b, y, (p, g, (l, z, (o, q, (r, h, body))))) refl
      ∙ ap (λ o. and_then o (λ s. closed make_for (start i) (n, (u, (c, (d, (f, (v, s)))))))) (level.complete m j x whole end) ∙ ap (λ s. Ok (s, j)) e
  whole_by x i j s h w end = (each x).law.complete i j s h (ends_by (forms.stmt_by S B room x).on goes_on_whole refl (kind j) end)

  complete : Complete (stmt_over room below) (λ s. IsStmtLayer room S true (out-Stmt s)) EndsWhole
  unfolding Selected Told make_stmt
  complete i j s h end = by (of_layer i j s (out-Stmt s) (roll-out-Stmt s) l.0)
    where
      l : IsStmtLayer room S false (out-Stmt s) i j × WholeLayer level.Whole (out-Stmt s)
      l = loosened (out-Stmt s) i j h

      by : Selected s i j → stmt_over room below i ≡ Ok (s, j)
      by (None, same, e) = let none : Told.first (kind i) ≡ false = ends_by Told.first goes_on_whole refl (kind i) (ap (λ a. goes_on_whole (kind a)) same ∙ end) in
          stmt_same i ∙ ap (λ o. and_then o (λ o. pure (make_stmt o))) (one_stmt.none i none) ∙ rw (same, e) refl
      by (Some t, g, e) =
          let there = subst (λ s. WholeLayer level.Whole (out-Stmt s)) (sym e) l.1 in
          let read = whole_by (kind i) i j t g there end in
          stmt_same i ∙ ap (λ b. and_then (optional_if b stmt_at i) (λ o. pure (make_stmt o))) ((each (kind i)).spelled i j t g) ∙ ap (λ o. and_then (and_then o (λ s. pure (Some s))) (λ o. pure (make_stmt o))) read ∙ ap (λ s. Ok (s, j)) e

  pub level_over : IsLevel (stmt_over room below) (λ whole s. IsStmtLayer room S whole (out-Stmt s)) (BeginsStmtLayer room S B)
  level_over = record {
    law = law;
    Whole = λ s. WholeLayer level.Whole (out-Stmt s);
    loosened = λ i j s. loosened (out-Stmt s) i j;
    tightened = λ i j s. tightened (out-Stmt s) i j;
    complete = complete;
    longer = λ i j m s. longer (out-Stmt s) i j m;
  }

-- ---- one level down from where this many levels may open

pub stmt_level : (room : ℕ) → IsLevel (stmt_below room) (StmtBelow room) (BeginsStmtBelow room)
unfolding stmt_below
stmt_level zero = record {
  law = never_lawful true (StmtBelow zero false) begins_stmt goes_on_stmt (λ i j s h. h);
  Whole = λ s. Unit {0};
  loosened = λ i j s h. absurd h;
  tightened = λ i j s h w. absurd h;
  complete = λ i j s h end. absurd h;
  longer = λ i j m s h t. absurd h;
}
stmt_level (suc room) = level_over room (stmt_below room) (StmtBelow room) (BeginsStmtBelow room) (stmt_level room)

pub stmts_lawful_at : (room : ℕ) → IsLawful (forms.stmts (StmtBelow room) (BeginsStmtBelow room)) (stmts_over (stmt_below room))
stmts_lawful_at room = stmts_lawful room (stmt_below room) (StmtBelow room) (BeginsStmtBelow room) (stmt_level room)
