use Rattle.std.proofs.Common.{arith, sym, subst}
use Rattle.pascal_values.specs.Sets.{IsSet}
use Rattle.pascal_values.proofs.ReadingLemmas.{set_read, set_falls}
use Rattle.pascal_values.proofs.reading.as_set.Goals as goal

pub returns-then-rise : goal.returns-then-rise
returns-then-rise c = λ depth. let i = c.requires.items in (omega (arith, i.goes), i.within, set_read depth c.args.ordinals.items c.of.result _ _ _ (subst IsSet c.deref.ensures.value c.if-rise.ensures) c.of.ensures c.requires.bracket.is i.is)

pub returns-else-rise : goal.returns-else-rise
returns-else-rise c = λ depth. let i = c.requires.items in set_falls depth c.args.ordinals.items _ _ _ c.requires.bracket.is i.form i.some i.is (λ set. c.if-rise.ensures (subst IsSet (sym c.deref.ensures.value) set))
