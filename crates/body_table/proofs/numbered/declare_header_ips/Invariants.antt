use Rattle.std.proofs.Common.{◌≡◌, drop}
use Rattle.std.specs.List.{flat_map}
use Rattle.estelle_model.specs.Denoted.{numbered}
use Rattle.meaning_table.specs.Known.{declare_all}
use Rattle.meaning_table.specs.Kinds.{plainly}
use Rattle.meaning_table.specs.declared.kinds.PlainKind.TheVariants.{Ip}
use Rattle.body_table.specs.Contributions.{ip_names_in}
use Rattle.body_table.proofs.numbered.declare_header_ips.Given as goal

abbrev pub invariant-loop-ip : goal.invariant-loop-ip
invariant-loop-ip l =
    (declare_all l.table (numbered (plainly Ip) l.number (flat_map ip_names_in (drop l.ip-index l.ips)))
    ≡ declare_all l.initial.table (numbered (plainly Ip) 0 (flat_map ip_names_in l.ips)))
