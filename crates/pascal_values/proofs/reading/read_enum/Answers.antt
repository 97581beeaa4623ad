use Rattle.std.proofs.Common.{arith}
use Rattle.pascal_values.proofs.ReadingLemmas.{enum_reads, enum_none}
use Rattle.pascal_values.proofs.reading.read_enum.Goals as goal

pub returns-in-Some : goal.returns-in-Some
returns-in-Some c = λ depth.
    let n = c.in-Some.ensures in
    (omega (arith, n.goes), n.within, enum_reads depth c.in-Some.n _ _ _ (omega (arith, n.fits)) c.requires.is n.is n.full)

pub returns-in-None : goal.returns-in-None
returns-in-None c = λ depth. enum_none depth _ _ c.requires.is c.in-None.ensures
