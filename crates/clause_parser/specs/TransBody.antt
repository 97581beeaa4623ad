-- What stands behind `trans`, where this many more levels of nesting may open.
use Rattle.std.specs.Prelude.{ℕ, Bool, ◌||◌, length}
use Rattle.estelle_tree.specs.declared.kind.Kind.{Kind}
use Rattle.estelle_tree.specs.declared.tree.clause.TransBody.{TransBody}
use Rattle.estelle_tree.specs.Clauses.{clause_kinds}
use Rattle.token_reader.specs.Reader.{Parser}
use Rattle.clause_parser.specs.Block.{begins_block, block}
use Rattle.clause_parser.specs.Clause.{begins_clause, clause}
use Rattle.clause_parser.specs.Group.{no_clause, body_within}

unfoldable pub trans_body : ℕ → Parser TransBody
trans_body room = body_within (block room) (clause room) (length clause_kinds) no_clause

abbrev pub begins_trans_body : Kind → Bool
begins_trans_body kind' = begins_block kind' || begins_clause kind'
