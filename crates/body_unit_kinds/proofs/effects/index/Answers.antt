use Rattle.std.proofs.Common.{◌≡◌, ◌∙◌, sym, ap, ◌∷◌, rules}
use Rattle.pascal_values.specs.declared.value.Shape.TheVariants as shapes
use Rattle.body_kinds.specs.Kinds.{Integer}
use Rattle.body_unit_kinds.specs.Seen.{stack_of}
use Rattle.body_unit_kinds.proofs.EffectLemmas.{effect_index}
use Rattle.body_unit_kinds.proofs.effects.index.Goals as goal

pub returns-else-most-high : goal.returns-else-most-high
returns-else-most-high c =
    let least : c.in-Array.least ≡ c.args.low = search rules in
    let most : c.in-Array.most ≡ c.args.high = search rules in
    effect_index c.args._here.now c.args.low c.args.high c.in_ok-shape.shape.now c.get.result.now (stack_of c.args.stack.now) (stack_of c.in_ok-shape.rest.now)
    (c.in-Array.is ∙ ap (λ n. shapes.Array n c.in-Array.most c.in-Array.item) least ∙ ap (λ n. shapes.Array c.args.low n c.in-Array.item) most ∙ ap (λ item. shapes.Array c.args.low c.args.high item) (sym c.get.ensures))
    (c.in_ok-top.ensures ∙ ap (λ k. k ∷ stack_of c.in_ok-top.below.now) (c.same_kind.ensures c.if-not-same_kind.false) ∙ ap (λ ks. Integer ∷ ks) c.in_ok-shape.ensures)
