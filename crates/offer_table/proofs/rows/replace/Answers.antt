use Rattle.offer_table.proofs.TableLaws.{changed_row}
use Rattle.offer_table.proofs.rows.replace.Goals as goal

pub returns-else-is_empty : goal.returns-else-is_empty
returns-else-is_empty c = changed_row c.args.rows.now.items c.args.at c.args.numbers c.index_mut.result.now c.is_empty.result c.requires c.index_mut.ensures.value c.is_empty.ensures c.if-is_empty.false
