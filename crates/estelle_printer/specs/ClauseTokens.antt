-- The tokens of blocks, clauses and groups of clauses.
use Rattle.std.specs.Prelude.{◌++◌, Option}
use Rattle.std.specs.List.{flat_map}
use Rattle.estelle_tree.specs.declared.kind.Kind.TheVariants as k
use Rattle.estelle_tree.specs.declared.tree.name.NameList.{NameList}
use Rattle.estelle_tree.specs.declared.tree.clause.Label.{Label}
use Rattle.estelle_tree.specs.declared.tree.clause.Block.{Block}
use Rattle.estelle_tree.specs.declared.tree.clause.AnyDom.{AnyDom}
use Rattle.estelle_tree.specs.declared.tree.clause.NextState.{NextState}
use Rattle.estelle_tree.specs.declared.tree.clause.NextState.TheVariants as next_state
use Rattle.estelle_tree.specs.declared.tree.clause.DelayHigh.{DelayHigh}
use Rattle.estelle_tree.specs.declared.tree.clause.DelayHigh.TheVariants as delay_high
use Rattle.estelle_tree.specs.declared.tree.clause.Clause.{Clause}
use Rattle.estelle_tree.specs.declared.tree.clause.Clause.TheVariants as clause
use Rattle.estelle_tree.specs.declared.tree.clause.TransBody.{TransBody}
use Rattle.estelle_tree.specs.declared.tree.clause.TransBody.TheOpen.{TransBody-F, Group-F}
use Rattle.estelle_tree.specs.declared.tree.clause.TransBody.TheFolds.{fold-TransBody, fold-Group}
use Rattle.estelle_tree.specs.declared.tree.clause.Group.{Group}
use Rattle.estelle_printer.specs.Forms.{Tokens, mark, optional, separated, enclosed}
use Rattle.estelle_printer.specs.TypeTokens.{name, names, constant, ordinal_type}
use Rattle.estelle_printer.specs.ExpressionTokens.{expr}
use Rattle.estelle_printer.specs.DeclarationTokens.{block_decl_tokens, statement_part}

-- Label = name NAME ":"
abbrev pub label : Label → Tokens
label l = mark k.NameWord ++ name l.name ++ mark k.Colon

-- Block = [Label] {BlockDecl} [Label] begin Stmts end ";"
abbrev pub block : Block → Tokens
block b = optional label b.label ++ flat_map block_decl_tokens b.decls ++ optional label b.late_label ++ statement_part b.body

-- AnyDom = Names ":" Ord
abbrev pub any_dom : AnyDom → Tokens
any_dom d = names d.names ++ mark k.Colon ++ ordinal_type d.domain

-- `NAME | same`
abbrev pub next_state_tokens : NextState → Tokens
next_state_tokens (next_state.Name n) = name n
next_state_tokens next_state.Same = mark k.Same

-- `Expr | "*"`
abbrev pub delay_high_tokens : DelayHigh → Tokens
delay_high_tokens (delay_high.Expr e) = expr e
delay_high_tokens delay_high.Star = mark k.Star

-- `["," (Expr | "*")]`
abbrev pub may_be_high : Option DelayHigh → Tokens
may_be_high = optional (λ h. mark k.Comma ++ delay_high_tokens h)

-- `["(" Names ")"]`
abbrev pub when_params : Option NameList → Tokens
when_params = optional (λ ns. enclosed k.OpenParenthesis k.CloseParenthesis (names ns))

-- Clause = from Names | to (NAME | same) | when NAME "." NAME ["(" Names ")"] | provided Expr
--        | priority Const | any AnyDom {";" AnyDom} do | delay "(" Expr ["," (Expr | "*")] ")"
abbrev pub clause_tokens : Clause → Tokens
clause_tokens (clause.From states span) = mark k.From ++ names states
clause_tokens (clause.To state span) = mark k.To ++ next_state_tokens state
clause_tokens (clause.When ip interaction params span) = mark k.When ++ name ip ++ mark k.Dot ++ name interaction ++ when_params params
clause_tokens (clause.Provided condition span) = mark k.Provided ++ expr condition
clause_tokens (clause.Priority value span) = mark k.Priority ++ constant value
clause_tokens (clause.Any domains span) = enclosed k.Any k.Do (separated k.Semicolon any_dom domains)
clause_tokens (clause.Delay low high span) = mark k.Delay ++ enclosed k.OpenParenthesis k.CloseParenthesis (expr low ++ may_be_high high)

-- TransBody = Block | {Group}+
abbrev pub trans_body_layer : TransBody-F Tokens Tokens → Tokens
trans_body_layer (TransBody-F.Block b) = block b
trans_body_layer (TransBody-F.Groups groups span) = flat_map (λ x. x) groups

-- Group = Clause (Block | {Group}+)
abbrev pub group_layer : Group-F Tokens Tokens → Tokens
group_layer g = clause_tokens g.clause ++ g.body

unfoldable pub trans_body : TransBody → Tokens
trans_body = fold-TransBody Tokens Tokens trans_body_layer group_layer

unfoldable pub group : Group → Tokens
group = fold-Group Tokens Tokens trans_body_layer group_layer
