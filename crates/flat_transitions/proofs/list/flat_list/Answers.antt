use Rattle.std.proofs.Common.{◌≡◌, subst}
use Rattle.std.specs.Prelude.{IfOk}
use Rattle.meaning_table.specs.Known.{Known}
use Rattle.flat_transitions.specs.Flat.{with_chosen}
use Rattle.flat_transitions.specs.FlatList.{listed}
use Rattle.flat_transitions.proofs.list.flat_list.Goals as goal

pub returns : goal.returns
returns c = subst (λ (k : Known). IfOk c.listed.result (λ list. list ≡ listed (with_chosen k) c.args.spec.now)) c.in_ok-table.ensures c.listed.ensures
