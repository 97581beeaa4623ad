use Rattle.pascal_values.proofs.ItemLemmas.{ordinal_item, ordinal_alone}
use Rattle.pascal_values.proofs.ordinals.with_separator.Goals as goal

pub returns-in-Some : goal.returns-in-Some
returns-in-Some c = ordinal_item c.args.bytes.now c.args.at c.args.n c.args.end c.requires c.in-Some.last c.in-Some.ensures

pub returns-in-None : goal.returns-in-None
returns-in-None c = ordinal_alone c.args.bytes.now c.args.at c.args.n c.args.end c.requires c.in-None.ensures
