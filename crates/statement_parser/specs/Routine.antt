-- The statement part of a block, and routines, read from left to right.
use Rattle.std.specs.Prelude.{ℕ, Bool, true, false, List, []}
use Rattle.estelle_tree.specs.declared.kind.Kind.{Kind}
use Rattle.estelle_tree.specs.declared.kind.Kind.TheVariants as k
use Rattle.estelle_tree.specs.declared.tree.statement.Stmts.{Stmts}
use Rattle.estelle_tree.specs.declared.tree.declaration.BlockDecl.{BlockDecl}
use Rattle.estelle_tree.specs.declared.tree.declaration.Routine.{Routine}
use Rattle.estelle_tree.specs.declared.tree.declaration.RoutineForm.{RoutineForm}
use Rattle.estelle_tree.specs.declared.tree.declaration.RoutineForm.TheVariants as form
use Rattle.token_reader.specs.Reader.{Parser, ◌>>=◌, ◌>>◌, pure, refuse, peek, here, since, take, expect, name}
use Rattle.token_reader.specs.Lists.{optional, repeated}
use Rattle.type_parser.specs.Definitions.{begins_formals, formals, begins_block_decl, block_decl}
use Rattle.statement_parser.specs.Statement.{opens, stmts_over, stmt_below}

abbrev pub begins_statement_part : Kind → Bool
begins_statement_part k.Begin = true
begins_statement_part _ = false

abbrev pub begins_routine : Kind → Bool
begins_routine k.Procedure = true
begins_routine k.Function = true
begins_routine _ = false

-- `begin Stmts end ";"`: the word `begin` opens a level
unfoldable pub statement_part : ℕ → Parser Stmts
statement_part room = do
  opens room k.Begin
  found ← stmts_over (stmt_below room)
  expect k.End
  expect k.Semicolon
  pure found

-- `procedure | function`: whether it is a function
abbrev pub word_by : Kind → Parser Bool
word_by k.Procedure = take >> pure false
word_by k.Function = take >> pure true
word_by _ = refuse

unfoldable pub routine_word : Parser Bool
routine_word = peek >>= word_by

-- what a function has behind its parameters: `":" NAME`
unfoldable pub function_result : Parser RoutineForm
function_result = do
  expect k.Colon
  type_name ← name
  pure (form.Function type_name)

abbrev pub result : Bool → Parser RoutineForm
result false = pure form.Procedure
result true = function_result

-- `{BlockDecl}`
abbrev pub block_decls : ℕ → Parser (List BlockDecl)
block_decls room = repeated (optional begins_block_decl (block_decl room)) []

-- Routine = procedure NAME [Formals] ";" {BlockDecl} begin Stmts end ";"
--         | function NAME [Formals] ":" NAME ";" {BlockDecl} begin Stmts end ";"
unfoldable pub routine : ℕ → Parser Routine
routine room = do
  from ← here
  is_function ← routine_word
  n ← name
  parameters ← optional begins_formals formals
  which ← result is_function
  expect k.Semicolon
  decls ← block_decls room
  body ← statement_part room
  span ← since from
  pure (record { name = n; formals = parameters; form = which; decls = decls; body = body; span = span })
