use Rattle.std.proofs.Common.{◌∙◌, ap₂}
use Rattle.clap.specs.Simple.{with_rule}
use Rattle.estelle_words.proofs.Rules.{grown}
use Rattle.estelle_words.proofs.parser.parser_for.Goals as goal

pub loop-name-preserved : goal.loop-name-preserved
loop-name-preserved c =
    c.in_ok-parser.ensures.shape c.option_named.ensures.local ∙ ap₂ with_rule c.loop-name.invariant c.option_named.ensures.rule
    ∙ grown c.options-name-items.result.now c.loop-name.name-index _ c.loop-name-test.true
