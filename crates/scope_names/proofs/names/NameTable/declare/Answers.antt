use Rattle.std.proofs.Common.{arith, rules}
use Rattle.scope_names.proofs.Entries.{declared_written}
use Rattle.scope_names.proofs.names.NameTable.declare.Goals as goal

pub returns : goal.returns
returns c = declared_written (λ k. k.items) c.self.inside.names.entries c.insert.new.self.entries c.in_ok-to_vec.field-0 c.args.word.now c.first_of-kept.result c.args.d c.args.self.now (first_of (search rules, grind (arith))) (first_of (search rules, grind (arith))) (first_of (search rules, grind (arith))) c.in_ok-insert.ensures.entries
