use Rattle.std.proofs.Common.{arith}
use Rattle.scope_names.proofs.Entries.{lookup_map}
use Rattle.scope_names.proofs.names.NameTable.find.Goals as goal

pub returns : goal.returns
returns c =
    let e = lookup_map (λ k. k.items) c.args.word.now c.self.inside.names.entries in
    grind (arith)
