use Rattle.std.proofs.Common.{refl}
use Rattle.estelle_tree.specs.Input.{kind}
use Rattle.estelle_tree.specs.Spells.{room_at, max_nesting}
use Rattle.token_reader.proofs.Complete.{Anything}
use Rattle.syntax_forms.proofs.KindLaws.{ends_always}
use Rattle.statement_parser.specs.Forms as forms
use Rattle.statement_parser.proofs.RoutineForms.{routine_lawful}
use Rattle.pascal_parser.proofs.Meeting.{spelled, behind, ended, exact, unspelled}
use Rattle.pascal_parser.proofs.calls.routine.Goals as goal

pub read_at-requires-clause-onward : goal.read_at-requires-clause-onward
unfolding max_nesting
read_at-requires-clause-onward c i = ((routine_lawful (room_at c.args.depth)).placed i).on

pub returns-clause-spelled : goal.returns-clause-spelled
unfolding max_nesting
returns-clause-spelled c = spelled (routine_lawful (room_at c.args.depth)) c.args.tokens.now c.args.at c.requires.inside c.read_at.result c.read_at.ensures

pub returns-clause-behind : goal.returns-clause-behind
unfolding max_nesting
returns-clause-behind c = behind (routine_lawful (room_at c.args.depth)) c.args.tokens.now c.args.at c.requires.inside c.read_at.result c.read_at.ensures

pub returns-clause-exact : goal.returns-clause-exact
unfolding max_nesting
returns-clause-exact c = exact (routine_lawful (room_at c.args.depth)) c.args.tokens.now c.args.at c.requires.inside c.read_at.result c.read_at.ensures

pub returns-clause-refused : goal.returns-clause-refused
unfolding max_nesting
returns-clause-refused c = unspelled (routine_lawful (room_at c.args.depth)) c.args.tokens.now c.args.at c.requires.inside c.read_at.result c.read_at.ensures

pub returns-clause-answered : goal.returns-clause-answered
unfolding max_nesting
returns-clause-answered c x to fits is = ended (routine_lawful (room_at c.args.depth)) c.args.tokens.now c.args.at c.requires.inside Anything (λ i j r h end. (routine_lawful (room_at c.args.depth)).complete i j r h (ends_always (forms.routine (room_at c.args.depth)).on refl (kind j))) c.read_at.result c.read_at.ensures x to fits is tt
