use Rattle.std.proofs.Common.{◌∙◌, ap, sym}
use Rattle.type_rules.specs.Meanings.{with_entity, declare_all}
use Rattle.type_rules.specs.TypeSites.{enumerated, meaning_only}
use Rattle.declaration_table.proofs.Declaring.{drop_end, declare-nil}
use Rattle.declaration_table.proofs.Typing.{values_step}
use Rattle.declaration_table.proofs.types.declare_values.Goals as goal

pub loop-i-preserved : goal.loop-i-preserved
loop-i-preserved c =
    let m = ap (λ x. with_entity c.loop-i.table c.index-values-i.result.span.start (meaning_only x)) c.enumerated_meaning-meaning.ensures in
    values_step c.args.at c.args.values.now c.loop-i.i c.index-values-i.result c.loop-i.table c.declare_as.new.self c.loop-i-test.true c.index-values-i.is (c.in_ok-declare_as.ensures ∙ m) ∙ c.loop-i.invariant

pub returns : goal.returns
returns c = sym (declare-nil c.loop-i.table) ∙ ap (λ r. declare_all c.loop-i.table (enumerated c.args.at c.loop-i.i r)) (sym (drop_end c.args.values.now c.loop-i.i c.loop-i-test.false)) ∙ c.loop-i.invariant
