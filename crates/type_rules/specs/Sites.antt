-- What the places that the rules speak of ask for.
use Rattle.std.specs.Prelude.{Bool, List}
use Rattle.type_rules.specs.declared.types.PascalType.{PascalType}
use Rattle.type_rules.specs.declared.sites.Wanted.{Wanted}
use Rattle.type_rules.specs.declared.sites.Wanted.TheVariants.{AnInteger, ABoolean, AnOrdinal, AnArray, Fitting}
use Rattle.type_rules.specs.declared.sites.Site.{Site}
use Rattle.type_rules.specs.Types.{fits, is_ordinal, is_integer, is_boolean, is_array}

abbrev pub is_wanted : Wanted → PascalType → Bool
is_wanted AnInteger u = is_integer u
is_wanted ABoolean u = is_boolean u
is_wanted AnOrdinal u = is_ordinal u
is_wanted AnArray u = is_array u
is_wanted (Fitting v) u = fits v u

abbrev pub Sites : Type 0
Sites = List Site
