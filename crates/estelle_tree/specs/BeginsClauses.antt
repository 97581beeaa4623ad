-- Which pieces begin blocks, clauses and groups of clauses.
use Rattle.std.specs.Prelude.{◌≡◌, ℕ, zero, suc, true, false, List, [], ◌∷◌, length, ◌⊎◌}
use Rattle.estelle_tree.specs.declared.kind.Kind.{Kind}
use Rattle.estelle_tree.specs.declared.kind.Kind.TheVariants as k
use Rattle.estelle_tree.specs.declared.tree.clause.Clause.{Clause}
use Rattle.estelle_tree.specs.declared.tree.clause.Group.{Group}
use Rattle.estelle_tree.specs.Input.{Input, kind}
use Rattle.estelle_tree.specs.Spelling.{Spelling}
use Rattle.estelle_tree.specs.Types.{IsNames}
use Rattle.estelle_tree.specs.Expressions.{IsExpr}
use Rattle.estelle_tree.specs.Declarations.{IsBlockDecl}
use Rattle.estelle_tree.specs.Clauses.{IsLabel, IsAnyDom, IsClause, of_clause, clause_kinds, stands, way_of, holds_block, AreGroups, GroupWithin}
use Rattle.estelle_tree.specs.Beginning.{Beginning, Nothing, ◌or◌, Then, After, OneToken, May, Many, Some, Separating}
use Rattle.estelle_tree.specs.BeginsTypes.{BeginsNames, BeginsConst, BeginsOrdinal}
use Rattle.estelle_tree.specs.BeginsExpressions.{BeginsExpr}
use Rattle.estelle_tree.specs.BeginsDeclarations.{BeginsBlockDecl, BeginsStatementPart}

-- Label = name NAME ":"
abbrev pub BeginsLabel : Beginning
BeginsLabel = After k.NameWord (After k.Name (OneToken k.Colon))

-- AnyDom = Names ":" Ord
abbrev pub BeginsAnyDom : Beginning
BeginsAnyDom = Then BeginsNames IsNames (After k.Colon BeginsOrdinal)

-- Where this many more levels of nesting may open.
module _ (room : ℕ) where
  -- Block = [Label] {BlockDecl} [Label] begin Stmts end ";", with at most one label, which is the first of
  -- the two where there are no declarations
  abbrev pub BeginsBlock : Beginning
  BeginsBlock =
      Then BeginsLabel IsLabel (Many (BeginsBlockDecl room) (IsBlockDecl room) (BeginsStatementPart room))
      or Some (BeginsBlockDecl room) (IsBlockDecl room) (May BeginsLabel IsLabel (BeginsStatementPart room))
      or BeginsStatementPart room

  -- Clause = from Names | to (NAME | same) | when NAME "." NAME ["(" Names ")"] | provided Expr
  --        | priority Const | any AnyDom {";" AnyDom} do | delay "(" Expr ["," (Expr | "*")] ")"
  abbrev pub BeginsClause : Beginning
  BeginsClause =
      After k.From BeginsNames
      or After k.To (OneToken k.Name or OneToken k.Same)
      or After k.When (After k.Name (After k.Dot (After k.Name (After k.OpenParenthesis (Then BeginsNames IsNames (OneToken k.CloseParenthesis))))))
      or After k.Provided (BeginsExpr room)
      or After k.Priority BeginsConst
      or After k.Any (Separating k.Semicolon BeginsAnyDom IsAnyDom (OneToken k.Do))
      or After k.Delay (After k.OpenParenthesis (Then (BeginsExpr room) (IsExpr room) (OneToken k.CloseParenthesis or After k.Comma high)))
    where
      high : Beginning
      high = Then (BeginsExpr room) (IsExpr room) (OneToken k.CloseParenthesis) or After k.Star (OneToken k.CloseParenthesis)

-- the last of these
abbrev pub last_of : Group → List Group → Group
last_of g [] = g
last_of g (h ∷ hs) = last_of h hs

-- that a clause of this kind behind a group of the way is no part of that group
abbrev pub MayFollow : List Kind → Group → Kind → Type 0
MayFollow way before x = (holds_block before ≡ true) ⊎ (stands x (way_of way before) ≡ true)

-- Where this many more levels of nesting may open.
module _ (room : ℕ) where
  -- Over what the groups behind a way spell and what begins them.
  module _ (G : List Kind → Spelling Group) (B : List Kind → Beginning) where
    -- `{Group}+`: the last group is begun, and behind a whole one another may be
    abbrev pub BeginGroups : List Kind → Beginning
    BeginGroups way i j =
        B way i j
        ⊎ ((g : Group) × (gs : List Group) × (m : Input) × AreGroups room G way (g ∷ gs) i m
        × ((m ≡ j) ⊎ (MayFollow way (last_of g gs) (kind m) × B way m j)))

    -- TransBody = Block | {Group}+
    abbrev pub BeginTransBody : List Kind → Beginning
    BeginTransBody way = BeginsBlock room or BeginGroups way

    -- Group = Clause (Block | {Group}+). On each way a kind of clause stands at most once.
    abbrev pub BeginGroup : List Kind → Beginning
    BeginGroup way i j =
        (i ≡ j)
        ⊎ ((stands (kind i) way ≡ false)
        × (BeginsClause room i j ⊎ ((c : Clause) × (m : Input) × IsClause room c i m × BeginTransBody (of_clause c ∷ way) m j)))

  -- where this many more clauses may stand on a way
  abbrev pub BeginsGroupWithin : ℕ → List Kind → Beginning
  BeginsGroupWithin zero way i j = Nothing i j
  BeginsGroupWithin (suc n) way i j = BeginGroup (GroupWithin room n) (BeginsGroupWithin n) way i j

  -- behind `trans`
  abbrev pub BeginsTransBody : Beginning
  BeginsTransBody = BeginTransBody (GroupWithin room (length clause_kinds)) (BeginsGroupWithin (length clause_kinds)) []
