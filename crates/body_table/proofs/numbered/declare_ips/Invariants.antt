use Rattle.std.proofs.Common.{◌≡◌, drop}
use Rattle.std.specs.List.{flat_map}
use Rattle.std.specs.Option.{option_copied}
use Rattle.estelle_model.specs.Denoted.{numbered}
use Rattle.meaning_table.specs.Known.{declare_all}
use Rattle.body_table.specs.Standings.{own_ip}
use Rattle.body_table.specs.Contributions.{ip_names_of}
use Rattle.body_table.proofs.numbered.declare_ips.Given as goal

abbrev pub invariant-loop-decl : goal.invariant-loop-decl
invariant-loop-decl l =
    (declare_all l.table (numbered (own_ip (option_copied l.header)) l.number (flat_map ip_names_of (drop l.decl-index l.decls)))
    ≡ declare_all l.initial.table (numbered (own_ip (option_copied l.header)) 0 (flat_map ip_names_of l.decls)))
