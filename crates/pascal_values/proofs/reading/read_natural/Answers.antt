use Rattle.std.proofs.Common.{arith, w64, to_z, ◌≡◌, pos, sym, subst, drop}
use Rattle.std.proofs.lemmas.Int.{to_z_pos}
use Rattle.pascal_values.specs.declared.value.Value.TheVariants as value
use Rattle.pascal_values.specs.Reading.{Reads}
use Rattle.pascal_values.proofs.ReadingLemmas.{natural_reads, natural_none}
use Rattle.pascal_values.proofs.reading.read_natural.Goals as goal

pub returns-in-Some : goal.returns-in-Some
returns-in-Some c = λ depth.
    let n = c.in-Some.ensures in
    let same : to_z w64 c.in-Some.n ≡ pos c.in-Some.n = to_z_pos w64 c.in-Some.n (omega (arith, n.fits)) in
    (omega (arith, n.goes), n.within, subst (λ z. Reads depth (drop c.args.at c.args.bytes.now) (value.Int z) (drop c.in-Some.end c.args.bytes.now)) (sym same) (natural_reads depth c.in-Some.n _ _ n.fits n.is n.full))

pub returns-in-None : goal.returns-in-None
returns-in-None c = λ depth. natural_none depth c.args.byte _ _ c.requires.stands.is c.requires.other c.in-None.ensures
