-- Interaction points by what their names mean.
use Rattle.std.specs.Prelude.{Result, Ok, Err}
use Rattle.estelle_tree.specs.declared.link.IpAddr.{IpAddr}
use Rattle.estelle_tree.specs.Paths.{Path}
use Rattle.estelle_model.specs.declared.meaning.Meaning.{Meaning}
use Rattle.estelle_model.specs.declared.meaning.Meaning.TheVariants.{Ip}
use Rattle.estelle_model.specs.Stops.{Stop, Broken}
use Rattle.estelle_model.specs.Actions.{at}

-- an interaction point of an instance
abbrev pub ip_at : Path → Meaning → Result IpAddr Stop
ip_at p (Ip k) = Ok (at p k)
ip_at p _ = Err Broken
