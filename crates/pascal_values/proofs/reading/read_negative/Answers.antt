use Rattle.std.specs.Fmt.{decimal}
use Rattle.std.proofs.lemmas.Int.{to_z-of_z}
use Rattle.std.proofs.Common.{arith, ◌≡◌, ◌<◌, ◌+◌, ◌++◌, ◌∙◌, w64, to_z, of_z, ◌-◌, negsuc, sym, subst, drop}
use Rattle.pascal_values.specs.declared.value.Value.TheVariants as value
use Rattle.pascal_values.specs.Reading.{Reads}
use Rattle.pascal_values.proofs.ReadingLemmas.{negative_reads, negative_none, negative_zero}
use Rattle.pascal_values.proofs.reading.read_negative.Goals as goal

pub returns-in-None : goal.returns-in-None
returns-in-None c = λ depth. negative_none depth _ _ c.requires.is c.in-None.ensures

pub returns-then-n-eq0 : goal.returns-then-n-eq0
returns-then-n-eq0 c = λ depth. negative_zero depth _ _ _ c.requires.is (subst (λ n. drop (c.args.at + 1) c.args.bytes.now ≡ decimal n ++ drop c.in-Some.end c.args.bytes.now) c.if-n-eq0.true c.in-Some.ensures.is)

pub returns-else-n-eq0 : goal.returns-else-n-eq0
returns-else-n-eq0 c = λ depth.
    let n = c.in-Some.ensures in
    let not_zero : 0 < c.in-Some.n = omega arith in
    let same : negsuc (c.in-Some.n - 1) ≡ to_z w64 (of_z w64 c.negated.result) = sym (to_z-of_z w64 c.negated.result (record { sfits = c.negated.type_inv }) ∙ c.negated.ensures) in
    (omega (arith, n.goes), n.within, subst (λ z. Reads depth (drop c.args.at c.args.bytes.now) (value.Int z) (drop c.in-Some.end c.args.bytes.now)) same (negative_reads depth c.in-Some.n _ _ _ not_zero n.fits c.requires.is n.is n.full))
