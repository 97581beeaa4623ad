use Rattle.std.proofs.Common.{suc, refl}
use Rattle.estelle_tree.specs.Input.{kind}
use Rattle.estelle_tree.specs.Statements.{StmtBelow}
use Rattle.estelle_tree.specs.BeginsStatements.{BeginsStmtBelow}
use Rattle.estelle_tree.specs.Spells.{room_at, max_nesting}
use Rattle.syntax_forms.proofs.KindLaws.{ends_by}
use Rattle.statement_parser.specs.Statement.{goes_on_stmts, EndsStmts}
use Rattle.statement_parser.specs.Forms as forms
use Rattle.statement_parser.proofs.StatementForms.{stmts_lawful_at}
use Rattle.pascal_parser.proofs.Meeting.{spelled, behind, ended, exact, unspelled}
use Rattle.pascal_parser.proofs.calls.statements.Goals as goal

pub read_at-requires-clause-onward : goal.read_at-requires-clause-onward
unfolding max_nesting
read_at-requires-clause-onward c i = ((stmts_lawful_at (suc (room_at c.args.depth))).placed i).on

pub returns-clause-spelled : goal.returns-clause-spelled
unfolding max_nesting
returns-clause-spelled c = spelled (stmts_lawful_at (suc (room_at c.args.depth))) c.args.tokens.now c.args.at c.requires.inside c.read_at.result c.read_at.ensures

pub returns-clause-behind : goal.returns-clause-behind
unfolding max_nesting
returns-clause-behind c = behind (stmts_lawful_at (suc (room_at c.args.depth))) c.args.tokens.now c.args.at c.requires.inside c.read_at.result c.read_at.ensures

pub returns-clause-exact : goal.returns-clause-exact
unfolding max_nesting
returns-clause-exact c = exact (stmts_lawful_at (suc (room_at c.args.depth))) c.args.tokens.now c.args.at c.requires.inside c.read_at.result c.read_at.ensures

pub returns-clause-refused : goal.returns-clause-refused
unfolding max_nesting
returns-clause-refused c = unspelled (stmts_lawful_at (suc (room_at c.args.depth))) c.args.tokens.now c.args.at c.requires.inside c.read_at.result c.read_at.ensures

pub returns-clause-ended : goal.returns-clause-ended
unfolding max_nesting
returns-clause-ended c = ended (stmts_lawful_at (suc (room_at c.args.depth))) c.args.tokens.now c.args.at c.requires.inside EndsStmts (λ i j ss h end. (stmts_lawful_at (suc (room_at c.args.depth))).complete i j ss h (ends_by (forms.stmts (StmtBelow (suc (room_at c.args.depth))) (BeginsStmtBelow (suc (room_at c.args.depth)))).on goes_on_stmts refl (kind j) end)) c.read_at.result c.read_at.ensures
