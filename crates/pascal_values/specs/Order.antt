-- The operators that compare (ISO 7185, 6.7.2.5).
use Rattle.std.specs.Prelude.{ℕ, Bool, false, not, ◌&&◌, List}
use Rattle.std.specs.declared.cmp.Ordering.{Ordering}
use Rattle.std.specs.Ordering.{is_eq, is_lt, is_le, is_gt, is_ge, nat_cmp, int_cmp, bool_cmp}
use Rattle.pascal_values.specs.declared.value.Relation.{Relation}
use Rattle.pascal_values.specs.declared.value.Relation.TheVariants as relation
use Rattle.pascal_values.specs.declared.value.Value.{Value, out-Value}
use Rattle.pascal_values.specs.declared.value.Value.TheOpen.{Value-F}
use Rattle.pascal_values.specs.Sets.{is_subset}

-- what an operator says of two ordinals in this order
abbrev pub holds : Relation → Ordering → Bool
holds relation.Eq o = is_eq o
holds relation.Ne o = not (is_eq o)
holds relation.Lt o = is_lt o
holds relation.Le o = is_le o
holds relation.Gt o = is_gt o
holds relation.Ge o = is_ge o

-- what an operator says of two sets; none is less or greater than another
abbrev pub set_holds : Relation → List ℕ → List ℕ → Bool
set_holds relation.Eq a b = is_subset a b && is_subset b a
set_holds relation.Ne a b = not (is_subset a b && is_subset b a)
set_holds relation.Le a b = is_subset a b
set_holds relation.Ge a b = is_subset b a
set_holds _ a b = false

abbrev pub compares_at : Relation → Value-F Value → Value-F Value → Bool
compares_at op (Value-F.Int a) (Value-F.Int b) = holds op (int_cmp a b)
compares_at op (Value-F.Bool a) (Value-F.Bool b) = holds op (bool_cmp a b)
compares_at op (Value-F.Char a) (Value-F.Char b) = holds op (nat_cmp a b)
compares_at op (Value-F.Enum a) (Value-F.Enum b) = holds op (nat_cmp a b)
compares_at op (Value-F.Set a) (Value-F.Set b) = set_holds op a b
compares_at _ _ _ = false

-- whether two values of one simple kind, or two sets, stand in a relation; of other values it is false
abbrev pub compares : Relation → Value → Value → Bool
compares op a b = compares_at op (out-Value a) (out-Value b)
