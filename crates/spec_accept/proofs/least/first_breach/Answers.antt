use Rattle.std.proofs.Common.{◌∙◌, ap, sym, subst}
use Rattle.scope_rules.specs.Least.{IsFirst, noted}
use Rattle.attribute_rules.specs.AttributeRules.{AttributeRuleBroken}
use Rattle.channel_roles.specs.ChannelRules.{ChannelRuleBroken}
use Rattle.transition_expand.specs.TransitionRules.{TransitionRuleBroken}
use Rattle.type_rules.specs.PascalRules.{PascalRuleBroken}
use Rattle.spec_accept.specs.Rules.{MeaningRuleBroken}
use Rattle.spec_accept.proofs.Refusing.{told_first, four_first}
use Rattle.spec_accept.proofs.least.first_breach.Goals as goal

pub returns-clause-first : goal.returns-clause-first
returns-clause-first c =
    let s = c.args.spec.now in
    let n = c.args.names.now in
    let attributes = c.in_ok-attributes.attributes in
    let channels = c.in_ok-channels.channels in
    let transitions = c.in_ok-transitions.transitions in
    let types = c.in_ok-types.types in
    let a = told_first (AttributeRuleBroken s n) c.check.result attributes (sym c.told.ensures ∙ c.in_ok-attributes.was) c.check.ensures.kept c.check.ensures.refused in
    let b = told_first (ChannelRuleBroken s n) c.check-2.result channels (sym c.told-2.ensures ∙ c.in_ok-channels.was) c.check-2.ensures.kept c.check-2.ensures.refused in
    let t = told_first (TransitionRuleBroken s n) c.check-3.result transitions (sym c.told-3.ensures ∙ c.in_ok-transitions.was) c.check-3.ensures.kept c.check-3.ensures.refused in
    let p = told_first (PascalRuleBroken s n) c.check-4.result types (sym c.told-4.ensures ∙ c.in_ok-types.was) c.check-4.ensures.kept c.check-4.ensures.refused in
    let e = c.noted-3.ensures ∙ ap (λ o. noted o types) (c.noted-2.ensures ∙ ap (λ o. noted o transitions) c.noted.ensures) in
    subst (IsFirst (MeaningRuleBroken s n)) (sym e) (four_first (AttributeRuleBroken s n) (ChannelRuleBroken s n) (TransitionRuleBroken s n) (PascalRuleBroken s n) attributes channels transitions types a b t p)
