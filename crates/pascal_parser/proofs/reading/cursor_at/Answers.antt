use Rattle.std.proofs.Common.{◌∙◌}
use Rattle.pascal_parser.proofs.Numbers.{cursor_place}
use Rattle.pascal_parser.proofs.reading.cursor_at.Goals as goal

pub returns : goal.returns
returns c = c.new-2.ensures ∙ cursor_place c.args.at c.args.tokens.now c.index-tokens-at.result c.if-at-eq0.false c.requires
