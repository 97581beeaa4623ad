-- Interaction points as keys of a table.
use Rattle.std.specs.Prelude.{ℕ, Bool, true, false}
use Rattle.estelle_tree.specs.declared.link.IpAddr.{IpAddr}
use Rattle.estelle_tree.specs.Links.{same_ip}
use Rattle.queue_store.specs.declared.key.Held.{Held}
use Rattle.queue_store.specs.declared.key.Held.TheVariants.{Kept, Asked}

-- an interaction point, and whether the key keeps it or only asks for it
pub record Keyed : Type 0 where
  pub at : IpAddr
  pub kept : Bool

abbrev pub keyed : Held → Keyed
keyed (Kept ip) = record { at = ip; kept = true }
keyed (Asked path n) = record { at = record { path = path.now; ip = n }; kept = false }

abbrev pub same_key : Keyed → Keyed → Bool
same_key j k = same_ip j.at k.at
