use Rattle.std.proofs.Common.{◌≡◌, ◌+◌, drop, length}
use Rattle.std.specs.Option.{option_copied}
use Rattle.estelle_model.specs.Denoted.{numbered}
use Rattle.meaning_table.specs.Known.{declare_all}
use Rattle.body_table.specs.Standings.{own_ip}
use Rattle.body_table.proofs.numbered.declare_ip_names.Given as goal

abbrev pub invariant-loop-name : goal.invariant-loop-name
invariant-loop-name l =
    (declare_all l.table (numbered (own_ip (option_copied l.header)) l.number (drop l.name-index l.names))
    ≡ declare_all l.initial.table (numbered (own_ip (option_copied l.header)) l.first l.names))
    × (l.number + length (drop l.name-index l.names) ≡ l.first + length l.names)
