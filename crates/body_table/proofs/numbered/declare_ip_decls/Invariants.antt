use Rattle.std.proofs.Common.{◌≡◌, ◌+◌, drop, length}
use Rattle.std.specs.List.{flat_map}
use Rattle.std.specs.Option.{option_copied}
use Rattle.estelle_model.specs.Denoted.{numbered}
use Rattle.meaning_table.specs.Known.{declare_all}
use Rattle.body_table.specs.Standings.{own_ip}
use Rattle.body_table.specs.Contributions.{ip_names_in}
use Rattle.body_table.proofs.numbered.declare_ip_decls.Given as goal

abbrev pub invariant-loop-ip : goal.invariant-loop-ip
invariant-loop-ip l =
    (declare_all l.table (numbered (own_ip (option_copied l.header)) l.number (flat_map ip_names_in (drop l.ip-index l.ips)))
    ≡ declare_all l.initial.table (numbered (own_ip (option_copied l.header)) l.first (flat_map ip_names_in l.ips)))
    × (l.number + length (flat_map ip_names_in (drop l.ip-index l.ips)) ≡ l.first + length (flat_map ip_names_in l.ips))
