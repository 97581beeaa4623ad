-- The names in use that a table holds, its own or lent ones.
use Rattle.std.specs.Prelude.{List}
use Rattle.estelle_tree.specs.declared.names.Use.{Use}
use Rattle.meaning_table.specs.declared.used.HeldNames.{HeldNames}
use Rattle.meaning_table.specs.declared.used.HeldNames.TheVariants.{Own, Lent}

abbrev pub names_of : HeldNames → List Use
names_of (Own names) = names
names_of (Lent names) = names.now
