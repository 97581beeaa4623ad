use Rattle.std.proofs.Common.{◌∙◌, ap, length, get_or}
use Rattle.std.proofs.lemmas.Option.{slice_get_read}
use Rattle.body_code.specs.declared.unit.Local.{Local}
use Rattle.body_unit_kinds.specs.Seen.{stack_of}
use Rattle.body_unit_kinds.proofs.EffectLemmas.{effect_ref}
use Rattle.body_unit_kinds.proofs.effects.reference.Goals as goal

pub returns : goal.returns
returns c =
    effect_ref c.args.here.now c.args.number c.in_ok-local.local.now (stack_of c.args.stack.now)
    (slice_get_read c.args.here.now.unit.now.locals (length c.items.result.now) c.args.number c.in_ok-local.local.now (ap (length {A = Local}) c.items.ensures) c.in_ok-local.ensures.lookup.3.0
    (c.in_ok-local.ensures.lookup.1 ∙ ap (λ xs. get_or xs c.args.number c.in_ok-local.local.now) c.items.ensures))
    c.if-not-local.false
