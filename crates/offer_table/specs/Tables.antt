-- What a contract sees of a table of offers: the enabled transitions of instances, and the instances whose guards have to be asked anew.
use Rattle.std.specs.Prelude.{ℕ, ◌-◌, ◌<◌, Bool, nat_eq, List, [], ◌∷◌, ◌++◌, length, filter}
use Rattle.std.specs.List.{All, list_any, flat_map}
use Rattle.std.specs.List.Sorted.{IsStrictlySortedBy}
use Rattle.std.specs.Ordering.{nat_cmp}
use Rattle.std.specs.Str.{bytes_eq}
use Rattle.estelle_tree.specs.Paths.{Path}
use Rattle.offer_table.specs.declared.rows.Row.{Row}
use Rattle.offer_table.specs.Order.{InOrder, before, after}

-- the rows in path order, the paths of the marked instances in that order, and for how many marks there is memory
pub record Table : Type 0 where
  pub rows : List Row
  pub marks : List Path
  pub room : ℕ

abbrev pub table_of : List Row → List Path → ℕ → Table
table_of rows marks room = record { rows = rows; marks = marks; room = room }

-- no rows, no marks, and memory for none
abbrev pub empty : Table
empty = table_of [] [] 0

-- by which path a row stands
abbrev pub row_path : Row → Path
row_path r = r.path

-- and a mark
abbrev pub mark_path : Path → Path
mark_path p = p

-- for how many more marks there is memory
abbrev pub spare : Table → ℕ
spare t = t.room - length t.marks

-- each number is below those after it
abbrev pub Rise : List ℕ → Type 0
Rise = IsStrictlySortedBy nat_cmp

-- a row has a number, and its numbers rise
pub record IsRow (r : Row) : Type 0 where
  pub some : 0 < length r.numbers
  pub rise : Rise r.numbers

-- rows and marks stand in path order, so that an instance has one of each at most
pub record IsTable (t : Table) : Type 0 where
  pub rows : InOrder row_path t.rows
  pub each_row : All IsRow t.rows
  pub marks : InOrder mark_path t.marks

-- ---- what is enabled

-- the enabled transitions of an instance; none where it has no row
abbrev pub numbers_at : List Row → Path → List ℕ
numbers_at rows p = flat_map (λ r. r.numbers) (filter (λ r. bytes_eq p r.path) rows)

-- the transition of the instance is enabled
abbrev pub is_on : Table → Path → ℕ → Bool
is_on t p n = list_any (nat_eq n) (numbers_at t.rows p)

-- the guards of the instance have to be asked anew
abbrev pub is_marked : Table → Path → Bool
is_marked t p = list_any (bytes_eq p) t.marks

-- ---- changes

-- the row of an instance with these enabled transitions; none where nothing is enabled
abbrev pub row_of : Path → List ℕ → List Row
row_of p [] = []
row_of p (n ∷ ns) = record { path = p; numbers = n ∷ ns } ∷ []

-- the row of the instance is this one, between those before it and those after it
abbrev pub with_row : Path → List ℕ → List Row → List Row
with_row p ns rows = before row_path p rows ++ (row_of p ns ++ after row_path p rows)

-- the instance has a mark, between those before it and those after it
abbrev pub with_mark : Path → List Path → List Path
with_mark p marks = before mark_path p marks ++ p ∷ after mark_path p marks
