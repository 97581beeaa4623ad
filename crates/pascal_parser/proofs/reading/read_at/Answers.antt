use Rattle.std.proofs.Common.{subst}
use Rattle.estelle_tree.specs.Input.{Input}
use Rattle.token_reader.specs.Reader.{Reads}
use Rattle.pascal_parser.specs.Places.{place}
use Rattle.pascal_parser.proofs.Numbers.{leaves}
use Rattle.pascal_parser.proofs.reading.read_at.Goals as goal

pub placed-requires-clause-leaves : goal.placed-requires-clause-leaves
placed-requires-clause-leaves g c =
    let at = place c.args.tokens.now c.args.at in
    leaves c.args.tokens.now c.args.at (g.P.Read.parser c.args.item.now at) c.read-read.result c.read-read.new.tokens c.requires.inside (c.requires.onward at)
    (subst (λ (i : Input). Reads (g.P.Read.parser c.args.item.now i) c.read-read.result c.read-read.new.tokens) c.cursor_at-cursor.ensures c.read-read.ensures)
