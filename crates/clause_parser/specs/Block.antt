-- Blocks, read from left to right.
use Rattle.std.specs.Prelude.{ℕ, Bool, true, false, List, [], ◌∷◌, Option, Some, None}
use Rattle.estelle_tree.specs.declared.kind.Kind.{Kind}
use Rattle.estelle_tree.specs.declared.kind.Kind.TheVariants as k
use Rattle.estelle_tree.specs.declared.tree.statement.Stmts.{Stmts}
use Rattle.estelle_tree.specs.declared.tree.declaration.BlockDecl.{BlockDecl}
use Rattle.estelle_tree.specs.declared.tree.clause.Label.{Label}
use Rattle.estelle_tree.specs.declared.tree.clause.Block.{Block}
use Rattle.token_reader.specs.Reader.{Parser, ◌>>=◌, pure, here, since}
use Rattle.token_reader.specs.Lists.{optional, repeated}
use Rattle.type_parser.specs.Definitions.{begins_block_decl, block_decl}
use Rattle.statement_parser.specs.Routine.{statement_part}
use Rattle.clause_parser.specs.Clause.{begins_label, label}

abbrev pub begins_block : Kind → Bool
begins_block k.NameWord = true
begins_block k.Const = true
begins_block k.Type = true
begins_block k.Var = true
begins_block k.Begin = true
begins_block _ = false

-- `{BlockDecl}`
abbrev pub block_decls : ℕ → Parser (List BlockDecl)
block_decls room = repeated (optional begins_block_decl (block_decl room)) []

-- a label after the declarations: none behind another label, and none where there are no declarations
abbrev pub late_label : Option Label → List BlockDecl → Parser (Option Label)
late_label None [] = pure None
late_label None (d ∷ ds) = optional begins_label label
late_label (Some first) ds = pure None

-- Block = [Label] {BlockDecl} [Label] begin Stmts end ";", over the parser of `begin Stmts end ";"`
unfoldable pub block_over : Parser Stmts → ℕ → Parser Block
block_over part room = do
  from ← here
  first ← optional begins_label label
  decls ← block_decls room
  late ← late_label first decls
  body ← part
  span ← since from
  pure (record { label = first; decls = decls; late_label = late; body = body; span = span })

-- where this many more levels of nesting may open
abbrev pub block : ℕ → Parser Block
block room = block_over (statement_part room) room
