-- A group at a place, as a function reads it.
use Rattle.std.specs.Prelude.{Result}
use Rattle.std.specs.declared.alloc.Global.{Global}
use denote.Ref.{MutBor}
use Rattle.estelle_tree.specs.declared.tree.clause.Group.{Group}
use Rattle.estelle_tree.specs.Input.{Input}
use Rattle.token_reader.specs.declared.error.ReadError.{ReadError}
use Rattle.token_reader.specs.Reader.{Parser, Reads}
use Rattle.clause_parser.specs.declared.groups.Place.{Place}
use Rattle.clause_parser.specs.Block.{block}
use Rattle.clause_parser.specs.Clause.{clause}
use Rattle.clause_parser.specs.Way.{stands_on}
use Rattle.clause_parser.specs.Group.{group_within}

abbrev pub group_at : Place → Parser Group
group_at p = group_within (block p.room) (clause p.room) p.clauses (stands_on p.way)

-- that the function reads the group there
pub record ReadsGroup (place : Place) (pre : Global → MutBor Input → Place → Type 0)
    (post : Global → MutBor Input → Place → Result Group ReadError → MutBor Input → Type 0) : Type 0 where
  pub callable : (alloc : Global) (old : MutBor Input) → pre alloc old place
  pub reads : (alloc : Global) (old new : MutBor Input) (r : Result Group ReadError) → post alloc old place r new
      → Reads (group_at place old.now) r new.now
