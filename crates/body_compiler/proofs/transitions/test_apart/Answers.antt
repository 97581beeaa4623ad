use Rattle.std.proofs.Common.{◌≡◌, ◌∙◌, sym, ap, subst, List, length, take, arith}
use Rattle.std.specs.Prelude.{All}
use Rattle.std.proofs.Math.Seq.{take-length}
use Rattle.std.proofs.lemmas.List.Elements.{All-more}
use Rattle.estelle_model.specs.declared.meaning.Meaning.TheVariants.{Other}
use Rattle.estelle_model.specs.Names.{at_place}
use Rattle.estelle_model.specs.Transitions.{Choice}
use Rattle.body_compiler.proofs.transitions.test_apart.Goals as goal

pub loop-choice-preserved : goal.loop-choice-preserved
loop-choice-preserved c =
    let known = c.args.table.now.declared in
    All-more (λ (x : Choice). at_place known x.at ≡ Other) c.args.chosen.now c.loop-choice.choice-index c.choice-item.result c.loop-choice-test.true c.loop-choice.invariant
    (ap (λ (x : Choice). at_place known x.at) (sym c.choice-item.is) ∙ ap (at_place known) (sym c.at.ensures) ∙ sym c.meaning_at.ensures ∙ c.in-Other.is)

pub returns : goal.returns
returns c =
    let all : c.loop-choice.choice-index ≡ length c.args.chosen.now = omega arith in
    subst (λ (xs : List Choice). All (λ (x : Choice). at_place c.args.table.now.declared x.at ≡ Other) xs) (ap (λ n. take n c.args.chosen.now) all ∙ take-length c.args.chosen.now) c.loop-choice.invariant
