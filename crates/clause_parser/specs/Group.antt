-- What stands behind `trans`, read from left to right: a block, or groups of clauses.
use Rattle.std.specs.Prelude.{ℕ, zero, suc, Bool, true, false, ◌||◌, if◌then◌else◌}
use denote.Enum.Bare.{sameb}
use Rattle.estelle_tree.specs.contracts.kind.Kind.{the_type}
use Rattle.estelle_tree.specs.declared.kind.Kind.{Kind}
use Rattle.estelle_tree.specs.declared.tree.clause.Block.{Block}
use Rattle.estelle_tree.specs.declared.tree.clause.Clause.{Clause}
use Rattle.estelle_tree.specs.declared.tree.clause.TransBody.{TransBody}
use Rattle.estelle_tree.specs.declared.tree.clause.TransBody.TheVariants as a_body
use Rattle.estelle_tree.specs.declared.tree.clause.Group.{Group, roll-Group}
use Rattle.estelle_tree.specs.Input.{kind}
use Rattle.estelle_tree.specs.Clauses.{of_clause}
use Rattle.token_reader.specs.Reader.{Parser, ◌>>=◌, ◌>>◌, pure, refuse, peek, here, since}
use Rattle.token_reader.specs.Lists.{several}
use Rattle.clause_parser.specs.Block.{begins_block}
use Rattle.clause_parser.specs.Clause.{begins_clause}

-- which kinds of clauses stand on the way to a place
abbrev pub OnWay : Type 0
OnWay = Kind → Bool

-- on the way to the place behind `trans`, and behind one more clause
abbrev pub no_clause : OnWay
no_clause x = false

unfoldable pub with_clause : Clause → OnWay → OnWay
with_clause c way = λ x. sameb the_type x (of_clause c) || way x

-- a group begins with a clause whose kind does not stand on the way
abbrev pub begins_group : OnWay → Kind → Bool
begins_group way x = if way x then false else begins_clause x

-- refused where it stands there
abbrev pub unless : Bool → Parser (Unit {0})
unless true = refuse
unless false = pure tt

-- `{Group}+`: each takes every next clause that it can
unfoldable pub groups_over : (Kind → Bool) → Parser Group → Parser TransBody
groups_over begins group = do
  from ← here
  found ← several begins group
  span ← since from
  pure (a_body.Groups found span)

-- Over the parser of blocks.
module _ (block : Parser Block) where
  unfoldable pub block_body : Parser TransBody
  block_body = do
    b ← block
    pure (a_body.Block b)

  abbrev pub body_if : Bool → Parser TransBody → Parser TransBody
  body_if true groups = block_body
  body_if false groups = groups

  -- TransBody = Block | {Group}+
  unfoldable pub body_over : (Kind → Bool) → Parser Group → Parser TransBody
  body_over begins group = λ i. body_if (begins_block (kind i)) (groups_over begins group) i

  -- a group behind its clause, which starts there
  unfoldable pub group_behind : ℕ → Clause → (Kind → Bool) → Parser Group → Parser Group
  group_behind from c begins group = do
    b ← body_over begins group
    span ← since from
    pure (roll-Group (record { clause = c; body = b; span = span }))

  -- Over the parser of clauses.
  module _ (clause : Parser Clause) where
    -- Group = Clause (Block | {Group}+), where the clause's kind does not stand on the way
    unfoldable pub group_over : OnWay → (OnWay → Parser Group) → Parser Group
    group_over way inner = do
      from ← here
      first ← peek
      unless (way first)
      c ← clause
      group_behind from c (begins_group (with_clause c way)) (inner (with_clause c way))

    -- where this many more clauses may stand on a way
    unfoldable pub group_within : ℕ → OnWay → Parser Group
    group_within zero way = refuse
    group_within (suc n) way = group_over way (group_within n)

    abbrev pub body_within : ℕ → OnWay → Parser TransBody
    body_within n way = body_over (begins_group way) (group_within n way)
