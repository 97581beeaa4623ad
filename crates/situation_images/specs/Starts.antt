-- The specification's own instance before its initialization.
use Rattle.std.specs.Prelude.{List, [], length, map as each}
use Rattle.estelle_tree.specs.declared.link.IpAddr.{IpAddr}
use Rattle.estelle_model.specs.Subject.{Subject, ips_of}
use Rattle.estelle_model.specs.Actions.{at, count_from}

-- its interaction points in declaration order
abbrev pub root_points : Subject → List IpAddr
root_points s = each (at []) (count_from 0 (length (ips_of s 0)))
