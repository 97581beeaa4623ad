-- What the hash of a label's value reads.
use Rattle.std.specs.Prelude.{ℕ, List, [], ◌++◌}
use Rattle.std.specs.Hash as fed
use Rattle.type_rules.specs.declared.types.Host.{Host}
use Rattle.type_rules.specs.declared.types.Host.TheVariants as host
use Rattle.type_rules.specs.declared.types.Value.{Value}

-- of an enumeration where it begins
abbrev pub host_input : Host → List (List ℕ)
host_input (host.Enumeration at) = fed.u32 at.start
host_input h = []

abbrev pub value_input : Value → List (List ℕ)
value_input v = host_input v.host ++ fed.i64 v.ordinal
