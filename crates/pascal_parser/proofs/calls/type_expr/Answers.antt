use Rattle.std.proofs.Common.{refl}
use Rattle.estelle_tree.specs.declared.kind.Kind.TheVariants as k
use Rattle.estelle_tree.specs.Input.{kind}
use Rattle.estelle_tree.specs.Spells.{room_at, max_nesting}
use Rattle.type_parser.specs.Types.{EndsOrdinal}
use Rattle.syntax_forms.specs.Types.{type_on}
use Rattle.syntax_forms.proofs.KindLaws.{ends_but}
use Rattle.type_parser.proofs.TypeForms.{type_lawful}
use Rattle.pascal_parser.proofs.Meeting.{spelled, behind, ended, exact, unspelled}
use Rattle.pascal_parser.proofs.calls.type_expr.Goals as goal

pub read_at-requires-clause-onward : goal.read_at-requires-clause-onward
unfolding max_nesting
read_at-requires-clause-onward c i = ((type_lawful (room_at c.args.depth)).placed i).on

pub returns-clause-spelled : goal.returns-clause-spelled
unfolding max_nesting
returns-clause-spelled c = spelled (type_lawful (room_at c.args.depth)) c.args.tokens.now c.args.at c.requires.inside c.read_at.result c.read_at.ensures

pub returns-clause-behind : goal.returns-clause-behind
unfolding max_nesting
returns-clause-behind c = behind (type_lawful (room_at c.args.depth)) c.args.tokens.now c.args.at c.requires.inside c.read_at.result c.read_at.ensures

pub returns-clause-exact : goal.returns-clause-exact
unfolding max_nesting
returns-clause-exact c = exact (type_lawful (room_at c.args.depth)) c.args.tokens.now c.args.at c.requires.inside c.read_at.result c.read_at.ensures

pub returns-clause-refused : goal.returns-clause-refused
unfolding max_nesting
returns-clause-refused c = unspelled (type_lawful (room_at c.args.depth)) c.args.tokens.now c.args.at c.requires.inside c.read_at.result c.read_at.ensures

pub returns-clause-ended : goal.returns-clause-ended
unfolding max_nesting
returns-clause-ended c = ended (type_lawful (room_at c.args.depth)) c.args.tokens.now c.args.at c.requires.inside EndsOrdinal (λ i j t h end. (type_lawful (room_at c.args.depth)).complete i j t h (ends_but type_on k.Dots refl (kind j) end)) c.read_at.result c.read_at.ensures
