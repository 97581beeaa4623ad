use Rattle.std.proofs.Common.{arith, []}
use Rattle.estelle_printer.specs.SpecificationTokens.{before_dot}
use Rattle.estelle_printer.specs.Terminals.{terminal}
use Rattle.estelle_tree.specs.declared.kind.Kind.TheVariants as k
use Rattle.estelle_printer.proofs.WritingLemmas.{canonical_end}
use Rattle.estelle_printer.proofs.canonical.written.Goals as goal

pub returns : goal.returns
returns c =
    let e = canonical_end [] (before_dot c.args.spec.now) (terminal k.Dot) in
    grind arith
