use Rattle.std.proofs.Common.{◌≡◌, ◌++◌, take, map}
use Rattle.meaning_table.specs.Known.{meanings_of}
use Rattle.type_shapes.specs.TypeNodes.{domain_node}
use Rattle.type_shapes.proofs.seen.push_domains.Given as goal

abbrev pub invariant-loop-each : goal.invariant-loop-each
invariant-loop-each l = l.out ≡ l.initial.out ++ map (domain_node (meanings_of l.table)) (take l.each-index l.domains)
