-- Which tokens blocks, clauses and groups of clauses spell.
use Rattle.std.specs.Prelude.{◌≡◌, ℕ, zero, suc, Bool, true, false, ◌||◌, List, [], ◌∷◌, length, Option, Some, None, ◌⊎◌, ⊤}
use denote.Enum.Bare.{sameb}
use Rattle.estelle_tree.specs.contracts.kind.Kind.{the_type}
use Rattle.estelle_tree.specs.declared.kind.Kind.{Kind}
use Rattle.estelle_tree.specs.declared.kind.Kind.TheVariants as k
use Rattle.estelle_tree.specs.declared.tree.name.Name.{Name}
use Rattle.estelle_tree.specs.declared.tree.name.NameList.{NameList}
use Rattle.estelle_tree.specs.declared.tree.expression.Expr.{Expr}
use Rattle.estelle_tree.specs.declared.tree.declaration.BlockDecl.{BlockDecl}
use Rattle.estelle_tree.specs.declared.tree.clause.Label.{Label}
use Rattle.estelle_tree.specs.declared.tree.clause.Block.{Block}
use Rattle.estelle_tree.specs.declared.tree.clause.AnyDom.{AnyDom}
use Rattle.estelle_tree.specs.declared.tree.clause.NextState.{NextState}
use Rattle.estelle_tree.specs.declared.tree.clause.NextState.TheVariants as next_state
use Rattle.estelle_tree.specs.declared.tree.clause.DelayHigh.{DelayHigh}
use Rattle.estelle_tree.specs.declared.tree.clause.DelayHigh.TheVariants as delay_high
use Rattle.estelle_tree.specs.declared.tree.clause.Clause.{Clause}
use Rattle.estelle_tree.specs.declared.tree.clause.Clause.TheVariants as clause
use Rattle.estelle_tree.specs.declared.tree.clause.TransBody.{TransBody, out-TransBody}
use Rattle.estelle_tree.specs.declared.tree.clause.TransBody.TheOpen.{TransBody-F}
use Rattle.estelle_tree.specs.declared.tree.clause.Group.{Group, out-Group}
use Rattle.estelle_tree.specs.Input.{Input, between}
use Rattle.estelle_tree.specs.Spans.{TransBodyLayer}
use Rattle.estelle_tree.specs.Spelling.{Spelling, Takes, Optional, Chain, Behind, Joined, Separated, Enclosed, Never}
use Rattle.estelle_tree.specs.Types.{IsName, IsNames, IsConst, IsOrdinal}
use Rattle.estelle_tree.specs.Expressions.{IsExpr}
use Rattle.estelle_tree.specs.Declarations.{IsBlockDecl, IsStatementPart}

-- Label = name NAME ":"
pub record IsLabel (l : Label) (i j : Input) : Type 0 where
  pub at : Input
  pub mid : Input
  pub word : Takes k.NameWord i at
  pub name : IsName l.name at mid
  pub colon : Takes k.Colon mid j
  pub span : l.span ≡ between i j

-- a block has at most one label, and it is the first of the two where there are no declarations
abbrev pub IsLabelled : Option Label → List BlockDecl → Option Label → Type 0
IsLabelled label decls None = ⊤
IsLabelled None (d ∷ ds) (Some late) = ⊤
IsLabelled None [] (Some late) = ⊥
IsLabelled (Some label) decls (Some late) = ⊥

-- AnyDom = Names ":" Ord
pub record IsAnyDom (d : AnyDom) (i j : Input) : Type 0 where
  pub parts : Joined k.Colon IsNames IsOrdinal d.names d.domain i j
  pub span : d.span ≡ between i j

-- `NAME | same`
abbrev pub IsNextState : Spelling NextState
IsNextState (next_state.Name name) i j = IsName name i j
IsNextState next_state.Same i j = Takes k.Same i j

-- `when NAME "." NAME ["(" Names ")"]`
pub record IsWhen (p n : Name) (ns : Option NameList) (i j : Input) : Type 0 where
  pub at : Input
  pub mid : Input
  pub word : Takes k.When i at
  pub names : Joined k.Dot IsName IsName p n at mid
  pub params : Optional (Enclosed k.OpenParenthesis k.CloseParenthesis IsNames) ns mid j

-- Where this many more levels of nesting may open.
module _ (room : ℕ) where
  -- Block = [Label] {BlockDecl} [Label] begin Stmts end ";"
  pub record IsBlock (b : Block) (i j : Input) : Type 0 where
    pub after_label : Input
    pub after_decls : Input
    pub after_late : Input
    pub labelled : IsLabelled b.label b.decls b.late_label
    pub label : Optional IsLabel b.label i after_label
    pub decls : Chain (IsBlockDecl room) b.decls after_label after_decls
    pub late_label : Optional IsLabel b.late_label after_decls after_late
    pub body : IsStatementPart room b.body after_late j
    pub span : b.span ≡ between i j

  -- `Expr | "*"`
  abbrev pub IsDelayHigh : Spelling DelayHigh
  IsDelayHigh (delay_high.Expr expr) i j = IsExpr room expr i j
  IsDelayHigh delay_high.Star i j = Takes k.Star i j

  -- `delay "(" Expr ["," (Expr | "*")] ")"`
  pub record IsDelay (e : Expr) (h : Option DelayHigh) (i j : Input) : Type 0 where
    pub at : Input
    pub after : Input
    pub mid : Input
    pub last : Input
    pub word : Takes k.Delay i at
    pub opens : Takes k.OpenParenthesis at after
    pub low : IsExpr room e after mid
    pub high : Optional (Behind k.Comma IsDelayHigh) h mid last
    pub closes : Takes k.CloseParenthesis last j

  -- Clause = from Names | to (NAME | same) | when NAME "." NAME ["(" Names ")"] | provided Expr
  --        | priority Const | any AnyDom {";" AnyDom} do | delay "(" Expr ["," (Expr | "*")] ")"
  abbrev pub IsClause : Spelling Clause
  IsClause (clause.From states span) i j = Behind k.From IsNames states i j × (span ≡ between i j)
  IsClause (clause.To state span) i j = Behind k.To IsNextState state i j × (span ≡ between i j)
  IsClause (clause.When ip interaction params span) i j = IsWhen ip interaction params i j × (span ≡ between i j)
  IsClause (clause.Provided condition span) i j = Behind k.Provided (IsExpr room) condition i j × (span ≡ between i j)
  IsClause (clause.Priority value span) i j = Behind k.Priority IsConst value i j × (span ≡ between i j)
  IsClause (clause.Any domains span) i j = Enclosed k.Any k.Do (Separated k.Semicolon IsAnyDom) domains i j × (span ≡ between i j)
  IsClause (clause.Delay low high span) i j = IsDelay low high i j × (span ≡ between i j)

-- the kind of a clause: its first word
abbrev pub of_clause : Clause → Kind
of_clause (clause.From states span) = k.From
of_clause (clause.To state span) = k.To
of_clause (clause.When ip interaction params span) = k.When
of_clause (clause.Provided condition span) = k.Provided
of_clause (clause.Priority value span) = k.Priority
of_clause (clause.Any domains span) = k.Any
of_clause (clause.Delay low high span) = k.Delay

-- the kinds of the clauses
abbrev pub clause_kinds : List Kind
clause_kinds = k.From ∷ k.To ∷ k.When ∷ k.Provided ∷ k.Priority ∷ k.Any ∷ k.Delay ∷ []

-- whether a kind stands among these
unfoldable pub stands : Kind → List Kind → Bool
stands x [] = false
stands x (y ∷ ys) = sameb the_type x y || stands x ys

-- The way of a group: the kinds of the clauses from `trans` down to its own.
abbrev pub way_of : List Kind → Group → List Kind
way_of way g = of_clause (out-Group g).clause ∷ way

-- whether the last block in a group stands right behind its clause
abbrev pub holds_block_layer : TransBodyLayer → Bool
holds_block_layer (TransBody-F.Block block) = true
holds_block_layer (TransBody-F.Groups groups span) = false

abbrev pub holds_block : Group → Bool
holds_block g = holds_block_layer (out-TransBody (out-Group g).body)

-- A block closes the group of the clause right before it. A group that is still open, and each open one
-- inside it, takes every next clause whose kind does not stand on its way. So what comes after an open
-- group is no part of it only where the next clause's kind stands on its way.
abbrev pub Follows : List Kind → Group → Group → Type 0
Follows way before g = (holds_block before ≡ true) ⊎ (stands (of_clause (out-Group g).clause) (way_of way before) ≡ true)

-- Where this many more levels of nesting may open.
module _ (room : ℕ) where
  -- Over what the groups behind a way spell.
  module _ (G : List Kind → Spelling Group) where
    -- `{Group}`, behind a group of the same way
    abbrev pub MoreGroups : List Kind → Group → Spelling (List Group)
    MoreGroups way before [] i j = i ≡ j
    MoreGroups way before (g ∷ gs) i j = Follows way before g × ((m : Input) × G way g i m × MoreGroups way g gs m j)

    -- `{Group}+`
    abbrev pub AreGroups : List Kind → Spelling (List Group)
    AreGroups way [] i j = ⊥
    AreGroups way (g ∷ gs) i j = (m : Input) × G way g i m × MoreGroups way g gs m j

    -- TransBody = Block | {Group}+
    abbrev pub TransBodyLayerOf : List Kind → Spelling TransBodyLayer
    TransBodyLayerOf way (TransBody-F.Block block) i j = IsBlock room block i j
    TransBodyLayerOf way (TransBody-F.Groups groups span) i j = AreGroups way groups i j × (span ≡ between i j)

    abbrev pub TransBodyOf : List Kind → Spelling TransBody
    TransBodyOf way b = TransBodyLayerOf way (out-TransBody b)

  -- Group = Clause (Block | {Group}+), over what the groups inside it spell. On each way a kind of
  -- clause stands at most once.
  pub record GroupOf (G : List Kind → Spelling Group) (way : List Kind) (g : Group) (i j : Input) : Type 0 where
    pub mid : Input
    pub fresh : stands (of_clause (out-Group g).clause) way ≡ false
    pub clause : IsClause room (out-Group g).clause i mid
    pub body : TransBodyOf G (way_of way g) (out-Group g).body mid j
    pub span : (out-Group g).span ≡ between i j

  -- where this many more clauses may stand on a way
  abbrev pub GroupWithin : ℕ → List Kind → Spelling Group
  GroupWithin zero way g = Never g
  GroupWithin (suc n) way g = GroupOf (GroupWithin n) way g

  -- behind `trans`
  abbrev pub IsTransBody : Spelling TransBody
  IsTransBody = TransBodyOf (GroupWithin (length clause_kinds)) []
