use Rattle.std.proofs.Common.{◌≡◌, ◌∙◌, List, ap}
use Rattle.std.specs.List.{list_any}
use Rattle.std.specs.Str.{bytes_eq}
use Rattle.estelle_tree.specs.declared.tree.name.Name.{Name}
use Rattle.body_table.proofs.channels.senders.Goals as goal

pub returns : goal.returns
returns c = λ i. record {
  first = (c.is_among.ensures ∙ ap (λ (xs : List Name). list_any (λ x. bytes_eq x.word c.args.channel.now.first_role.word) xs) c.items.ensures) i;
  second = (c.is_among-2.ensures ∙ ap (λ (xs : List Name). list_any (λ x. bytes_eq x.word c.args.channel.now.second_role.word) xs) c.items-2.ensures) i;
}
