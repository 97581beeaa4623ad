use Rattle.std.proofs.Common.{suc, refl}
use Rattle.estelle_tree.specs.Input.{kind}
use Rattle.estelle_tree.specs.Expressions.{IsFactor}
use Rattle.estelle_tree.specs.BeginsExpressions.{BeginsFactorBelow}
use Rattle.estelle_tree.specs.Spells.{room_at, max_nesting}
use Rattle.syntax_forms.proofs.KindLaws.{ends_by}
use Rattle.expression_parser.specs.Expression.{goes_on_expr, EndsExpr}
use Rattle.expression_parser.specs.Forms as forms
use Rattle.expression_parser.proofs.FactorForms.{expr_lawful_at}
use Rattle.pascal_parser.proofs.Meeting.{spelled, behind, ended, exact, unspelled}
use Rattle.pascal_parser.proofs.calls.expression.Goals as goal

pub read_at-requires-clause-onward : goal.read_at-requires-clause-onward
unfolding max_nesting
read_at-requires-clause-onward c i = ((expr_lawful_at (room_at c.args.depth)).placed i).on

pub returns-clause-spelled : goal.returns-clause-spelled
unfolding max_nesting
returns-clause-spelled c = spelled (expr_lawful_at (room_at c.args.depth)) c.args.tokens.now c.args.at c.requires.inside c.read_at.result c.read_at.ensures

pub returns-clause-behind : goal.returns-clause-behind
unfolding max_nesting
returns-clause-behind c = behind (expr_lawful_at (room_at c.args.depth)) c.args.tokens.now c.args.at c.requires.inside c.read_at.result c.read_at.ensures

pub returns-clause-exact : goal.returns-clause-exact
unfolding max_nesting
returns-clause-exact c = exact (expr_lawful_at (room_at c.args.depth)) c.args.tokens.now c.args.at c.requires.inside c.read_at.result c.read_at.ensures

pub returns-clause-refused : goal.returns-clause-refused
unfolding max_nesting
returns-clause-refused c = unspelled (expr_lawful_at (room_at c.args.depth)) c.args.tokens.now c.args.at c.requires.inside c.read_at.result c.read_at.ensures

pub returns-clause-ended : goal.returns-clause-ended
unfolding max_nesting
returns-clause-ended c = ended (expr_lawful_at (room_at c.args.depth)) c.args.tokens.now c.args.at c.requires.inside EndsExpr (λ i j e h end. (expr_lawful_at (room_at c.args.depth)).complete i j e h (ends_by (forms.expr (IsFactor (room_at c.args.depth)) (BeginsFactorBelow (suc (room_at c.args.depth)))).on goes_on_expr refl (kind j) end)) c.read_at.result c.read_at.ensures
