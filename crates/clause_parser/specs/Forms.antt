-- Labels, blocks, clauses and groups of clauses, as forms.
use Rattle.std.specs.Prelude.{◌≡◌, ℕ, zero, suc, true, false, List, [], ◌∷◌, length, Option, Some, None, ◌⊎◌}
use Rattle.std.proofs.Common.{inl, inr}
use Rattle.estelle_tree.specs.declared.kind.Kind.{Kind}
use Rattle.estelle_tree.specs.declared.kind.Kind.TheVariants as k
use Rattle.estelle_tree.specs.declared.span.Span.{Span}
use Rattle.estelle_tree.specs.declared.tree.name.Name.{Name}
use Rattle.estelle_tree.specs.declared.tree.name.NameList.{NameList}
use Rattle.estelle_tree.specs.declared.tree.type_expr.Const.{Const}
use Rattle.estelle_tree.specs.declared.tree.expression.Expr.{Expr}
use Rattle.estelle_tree.specs.declared.tree.statement.Stmts.{Stmts}
use Rattle.estelle_tree.specs.declared.tree.declaration.BlockDecl.{BlockDecl}
use Rattle.estelle_tree.specs.declared.tree.clause.Label.{Label}
use Rattle.estelle_tree.specs.declared.tree.clause.Block.{Block}
use Rattle.estelle_tree.specs.declared.tree.clause.AnyDom.{AnyDom}
use Rattle.estelle_tree.specs.declared.tree.clause.NextState.{NextState}
use Rattle.estelle_tree.specs.declared.tree.clause.DelayHigh.{DelayHigh}
use Rattle.estelle_tree.specs.declared.tree.clause.Clause.{Clause}
use Rattle.estelle_tree.specs.declared.tree.clause.Clause.TheVariants as a_clause
use Rattle.estelle_tree.specs.declared.tree.clause.TransBody.{TransBody, out-TransBody}
use Rattle.estelle_tree.specs.declared.tree.clause.TransBody.TheVariants as a_body
use Rattle.estelle_tree.specs.declared.tree.clause.Group.{Group, out-Group, roll-Group}
use Rattle.estelle_tree.specs.Input.{Input, kind}
use Rattle.estelle_tree.specs.Spans.{TransBodyLayer}
use Rattle.estelle_tree.specs.Spelling.{Spelling, Behind, Enclosed, Never}
use Rattle.estelle_tree.specs.Beginning.{Beginning, Nothing}
use Rattle.estelle_tree.specs.Types.{IsNames}
use Rattle.estelle_tree.specs.Clauses.{IsLabel, IsAnyDom, IsNextState, IsDelayHigh, IsClause, IsBlock, clause_kinds, stands, way_of, holds_block_layer, TransBodyOf, GroupWithin, IsTransBody}
use Rattle.syntax_forms.specs.Kinds.{never}
use Rattle.syntax_forms.specs.Form.{Form, word, name, ◌▸◌, ◌⊕◌, separated, several, part, node, built, known, told, only_if, whole}
use Rattle.syntax_forms.specs.Repeats.{may, many}
use Rattle.syntax_forms.specs.Types.{names, constant, ordinal}
use Rattle.syntax_forms.specs.Definitions.{block_decl}
use Rattle.statement_parser.specs.Forms.{Word, expr, statement_part}
use Rattle.clause_parser.specs.Clause.{begins_clause, goes_on_clause}
use Rattle.clause_parser.specs.Group.{OnWay, begins_group}
use Rattle.clause_parser.specs.TransBody.{begins_trans_body}

-- Label = name NAME ":"
abbrev pub label : Form Label
label = node IsLabel (word k.NameWord ▸ name ▸ word k.Colon)

-- ---- parts of clauses

-- AnyDom = Names ":" Ord
abbrev pub any_dom : Form AnyDom
any_dom = node IsAnyDom (names ▸ word k.Colon ▸ ordinal)

-- `NAME | same`
abbrev pub next_state : Form NextState
next_state = node IsNextState (word k.Same ⊕ name)

-- `"(" Names ")"`
abbrev pub params : Form NameList
params = node (Enclosed k.OpenParenthesis k.CloseParenthesis IsNames) (word k.OpenParenthesis ▸ names ▸ word k.CloseParenthesis)

-- What a clause is made of, and the clause. A terminal brings nothing.
abbrev pub make_from : Word × NameList → Span → Clause
make_from (u, states) = a_clause.From states

abbrev pub make_to : Word × NextState → Span → Clause
make_to (u, state) = a_clause.To state

abbrev pub make_when : Word × (Name × (Word × (Name × Option NameList))) → Span → Clause
make_when (u, (ip, (v, (interaction, found)))) = a_clause.When ip interaction found

abbrev pub make_provided : Word × Expr → Span → Clause
make_provided (u, condition) = a_clause.Provided condition

abbrev pub make_priority : Word × Const → Span → Clause
make_priority (u, value) = a_clause.Priority value

abbrev pub make_any : Word × (List AnyDom × Word) → Span → Clause
make_any (u, (domains, v)) = a_clause.Any domains

abbrev pub make_delay : Word × (Word × (Expr × (Option DelayHigh × Word))) → Span → Clause
make_delay (u, (v, (low, (high, w)))) = a_clause.Delay low high

-- Where this many more levels of nesting may open.
module _ (room : ℕ) where
  -- `Expr | "*"`
  abbrev pub delay_high : Form DelayHigh
  delay_high = node (IsDelayHigh room) (word k.Star ⊕ expr room)

  -- `"," (Expr | "*")`
  abbrev pub bound : Form DelayHigh
  bound = node (Behind k.Comma (IsDelayHigh room)) (word k.Comma ▸ delay_high)

  -- the clause that a terminal begins
  abbrev pub clause_by : Kind → Form Clause
  clause_by k.From = built make_from (word k.From ▸ names)
  clause_by k.To = built make_to (word k.To ▸ next_state)
  clause_by k.When = built make_when (word k.When ▸ name ▸ word k.Dot ▸ name ▸ may params)
  clause_by k.Provided = built make_provided (word k.Provided ▸ expr room)
  clause_by k.Priority = built make_priority (word k.Priority ▸ constant)
  clause_by k.Any = built make_any (word k.Any ▸ separated k.Semicolon any_dom ▸ word k.Do)
  clause_by k.Delay = built make_delay (word k.Delay ▸ word k.OpenParenthesis ▸ expr room ▸ may bound ▸ word k.CloseParenthesis)
  clause_by _ = known false Never Nothing never never

  -- Clause = from Names | to (NAME | same) | when NAME "." NAME ["(" Names ")"] | provided Expr
  --        | priority Const | any AnyDom {";" AnyDom} do | delay "(" Expr ["," (Expr | "*")] ")"
  abbrev pub clause : Form Clause
  clause = node (IsClause room) (told clause_by goes_on_clause)

-- ---- blocks

-- What a block is made of, and the block.
abbrev pub BlockParts : Type 0
BlockParts = (Label × (List BlockDecl × Stmts)) ⊎ ((List BlockDecl × (Option Label × Stmts)) ⊎ Stmts)

abbrev pub make_block : BlockParts → Span → Block
make_block (inl (l, (ds, body))) span = record { label = Some l; decls = ds; late_label = None; body = body; span = span }
make_block (inr (inl (ds, (late, body)))) span = record { label = None; decls = ds; late_label = late; body = body; span = span }
make_block (inr (inr body)) span = record { label = None; decls = []; late_label = None; body = body; span = span }

-- Where this many more levels of nesting may open.
module _ (room : ℕ) where
  -- Block = [Label] {BlockDecl} [Label] begin Stmts end ";", with at most one label, which is the first of
  -- the two where there are no declarations
  abbrev pub block_parts : Form BlockParts
  block_parts = label ▸ many (block_decl room) ▸ statement_part room ⊕ several (block_decl room) ▸ may label ▸ statement_part room ⊕ statement_part room

  abbrev pub block : Form Block
  block = node (IsBlock room) block_parts

-- ---- groups of clauses

-- the clauses of these kinds stand on the way
abbrev pub on : List Kind → OnWay
on way = λ x. stands x way

-- Nothing that stands next goes on with it: after a block anything may stand, and after groups no clause
-- whose kind does not stand on the way.
abbrev pub EndsLayer : List Kind → TransBodyLayer → Input → Type 0
EndsLayer way l j = (holds_block_layer l ≡ true) ⊎ (begins_group (on way) (kind j) ≡ false)

abbrev pub EndsBody : List Kind → TransBody → Input → Type 0
EndsBody way b j = EndsLayer way (out-TransBody b) j

abbrev pub EndsGroup : List Kind → Group → Input → Type 0
EndsGroup way g j = EndsBody (way_of way g) (out-Group g).body j

-- What a body and a group are made of, and the two.
abbrev pub make_body : Block ⊎ List Group → Span → TransBody
make_body (inl b) span = a_body.Block b
make_body (inr gs) span = a_body.Groups gs span

abbrev pub make_group : Clause × TransBody → Span → Group
make_group (c, b) span = roll-Group (record { clause = c; body = b; span = span })

-- Where this many more levels of nesting may open.
module _ (room : ℕ) where
  -- Over what the groups behind a way spell: a body, and a group, with which nothing that stands next goes on.
  module _ (G : List Kind → Spelling Group) where
    abbrev pub WholeBody : List Kind → Spelling TransBody
    WholeBody way b i j = TransBodyOf room G way b i j × EndsBody way b j

    abbrev pub WholeGroup : List Kind → Spelling Group
    WholeGroup way g i j = G way g i j × EndsGroup way g j

  -- Over what the groups behind a way spell and what begins them.
  module _ (G : List Kind → Spelling Group) (B : List Kind → Beginning) where
    abbrev pub group_below : List Kind → Form Group
    group_below way = known false (WholeGroup G way) (B way) (begins_group (on way)) never

    -- TransBody = Block | {Group}+: each group takes every next clause that it can
    abbrev pub body_parts : List Kind → Form (Block ⊎ List Group)
    body_parts way = block room ⊕ whole (several (group_below way))

    abbrev pub whole_body : List Kind → Form TransBody
    whole_body way = node (WholeBody G way) (body_parts way)

    -- Group = Clause TransBody, where no clause of this kind stands on the way
    abbrev pub group_by : List Kind → Kind → Form (Clause × TransBody)
    group_by way x = only_if (begins_group (on way) x) (part (clause room ▸ whole_body (x ∷ way)))

    abbrev pub group_parts : List Kind → Form (Clause × TransBody)
    group_parts way = told (group_by way) never

  -- what begins a group, where this many more clauses may stand on a way
  abbrev pub BeginsWithin : ℕ → List Kind → Beginning
  BeginsWithin zero way i j = Nothing i j
  BeginsWithin (suc n) way i j = (group_parts (GroupWithin room n) (BeginsWithin n) way).begins i j

  -- TransBody, behind `trans`
  abbrev pub trans_body : Form TransBody
  trans_body = known false (IsTransBody room) (body_parts (GroupWithin room (length clause_kinds)) (BeginsWithin (length clause_kinds)) []).begins begins_trans_body begins_clause
