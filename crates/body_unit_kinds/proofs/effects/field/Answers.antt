use Rattle.std.proofs.Common.{sym}
use Rattle.body_unit_kinds.specs.Seen.{stack_of}
use Rattle.body_unit_kinds.proofs.EffectLemmas.{effect_field}
use Rattle.body_unit_kinds.proofs.effects.field.Goals as goal

pub returns-in_ok-part-in-Fields : goal.returns-in_ok-part-in-Fields
returns-in_ok-part-in-Fields c =
    effect_field c.args._here.now c.args.number c.in_ok-shape.shape.now c.in_ok-part-in-Fields.part.now c.in-Fields.fields (stack_of c.args.stack.now) (stack_of c.in_ok-shape.rest.now) c.in-Fields.is
    (sym c.in_ok-part-in-Fields.ensures.value) c.in_ok-shape.ensures
