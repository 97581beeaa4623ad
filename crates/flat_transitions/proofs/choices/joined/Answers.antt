use Rattle.std.proofs.Common.{◌≡◌, List, rules, subst}
use Rattle.std.specs.Prelude.{IfOk}
use Rattle.std.specs.List.{flat_map}
use Rattle.estelle_model.specs.Transitions.{Choice}
use Rattle.meaning_table.specs.Known.{meanings_of}
use Rattle.flat_transitions.specs.Choices.{domain_names, choice_count}
use Rattle.flat_transitions.proofs.Joining.{count_is, all_joined}
use Rattle.flat_transitions.proofs.choices.joined.Goals as goal

pub joined_each-requires : goal.joined_each-requires
joined_each-requires c = count_is (meanings_of c.args.table.now) c.args.domains.now c.items.result.now c.variants_of-count.result (search rules) c.variants_of-count.ensures c.if-count.false

pub returns : goal.returns
returns c =
    let names : c.items.result.now ≡ flat_map (domain_names (meanings_of c.args.table.now)) c.args.domains.now = search rules in
    let count : c.variants_of-count.result ≡ choice_count c.items.result.now = count_is (meanings_of c.args.table.now) c.args.domains.now c.items.result.now c.variants_of-count.result names c.variants_of-count.ensures c.if-count.false in
    subst (λ (cs : List (List Choice)). IfOk c.joined_each.result (λ choices. choices ≡ cs)) (all_joined (meanings_of c.args.table.now) c.args.domains.now c.items.result.now c.variants_of-count.result c.args.before.now names count) c.joined_each.ensures
