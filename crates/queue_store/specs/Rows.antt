-- The declared interaction points in order, each with what its chain holds.
use Rattle.std.specs.Prelude.{ℕ, zero, suc, Bool, not, nat_eq, if◌then◌else◌, List, [], ◌∷◌, ◌++◌, length, filter, drop, map as each, Option, Some, None, slice_get, option_and_then, unwrap_or}
use Rattle.std.specs.Option.{option_map}
use Rattle.estelle_tree.specs.declared.link.IpAddr.{IpAddr}
use Rattle.estelle_tree.specs.Links.{same_ip}
use Rattle.estelle_tree.specs.Paths.{Path, is_inside}

abbrev pub ip_at : Path → ℕ → IpAddr
ip_at path n = record { path = path; ip = n }

-- a declared interaction point: whether its queue is a common one, the number of the point that has the queue's chain,
-- and what its own chain holds: items, each with the number of the point where it waits
pub record Row (T : Type 0) : Type 0 where
  pub at : IpAddr
  pub common : Bool
  pub home : ℕ
  pub items : List (ℕ × T)

-- for how many more items, and for how many more interaction points there is memory
pub record Rows (T : Type 0) : Type 0 where
  pub rows : List (Row T)
  pub spare : ℕ
  pub room : ℕ

module _ {T : Type 0} where
  -- the row is that of this interaction point
  abbrev pub is_row_of : IpAddr → Row T → Bool
  is_row_of a d = same_ip a d.at

  abbrev pub with_items : List (ℕ × T) → Row T → Row T
  with_items xs d = record d { items = xs }

  abbrev pub put_last : ℕ → T → Row T → Row T
  put_last n x d = with_items (d.items ++ (n, x) ∷ []) d

  abbrev pub first_taken : Row T → Row T
  first_taken d = with_items (drop 1 d.items) d

  -- one row is changed
  abbrev pub on_row : ℕ → (Row T → Row T) → List (Row T) → List (Row T)
  on_row i f [] = []
  on_row zero f (d ∷ ds) = f d ∷ ds
  on_row (suc i) f (d ∷ ds) = d ∷ on_row i f ds

  -- the row lies at an instance or below it
  abbrev pub lies_inside : Path → Row T → Bool
  lies_inside p d = is_inside p d.at.path

  -- ---- items go from one row to another

  abbrev pub first_item : ℕ → List (Row T) → Option (ℕ × T)
  first_item s ds = option_and_then (λ d. slice_get d.items 0) (slice_get ds s)

  abbrev pub count_of : ℕ → List (Row T) → ℕ
  count_of s ds = unwrap_or (option_map (λ d. length d.items) (slice_get ds s)) 0

  -- the items that wait at a number, and the others
  abbrev pub at_number : ℕ → List (ℕ × T) → List (ℕ × T)
  at_number n = filter (λ x. nat_eq x.0 n)

  abbrev pub off_number : ℕ → List (ℕ × T) → List (ℕ × T)
  off_number n = filter (λ x. not (nat_eq x.0 n))

  abbrev pub renumbered : ℕ → List (ℕ × T) → List (ℕ × T)
  renumbered m = each (λ x. (m, x.1))

  -- the item that was first comes to the end of the other row, or of its own
  abbrev pub sift_step : ℕ → ℕ → ℕ → ℕ → Option (ℕ × T) → List (Row T) → List (Row T)
  sift_step s t from to None ds = ds
  sift_step s t from to (Some x) ds = if nat_eq x.0 from then on_row t (put_last to x.1) ds else on_row s (put_last x.0 x.1) ds

  abbrev pub sift_rows : ℕ → ℕ → ℕ → ℕ → ℕ → List (Row T) → List (Row T)
  sift_rows zero s t from to ds = ds
  sift_rows (suc n) s t from to ds = sift_rows n s t from to (sift_step s t from to (first_item s ds) (on_row s first_taken ds))

  -- ---- rows are emptied

  abbrev pub items_of : ℕ → List (Row T) → List (ℕ × T)
  items_of r ds = unwrap_or (option_map (λ d. d.items) (slice_get ds r)) []

  abbrev pub taken_of : ℕ → List (Row T) → List T
  taken_of r ds = each (λ x. x.1) (items_of r ds)

  -- the items of the rows of an instance and of those below it, row by row
  abbrev pub below_items : Path → List (Row T) → List T
  below_items p [] = []
  below_items p (d ∷ ds) = if lies_inside p d then each (λ x. x.1) d.items ++ below_items p ds else below_items p ds

  -- the other rows
  abbrev pub outside_rows : Path → List (Row T) → List (Row T)
  outside_rows p = filter (λ d. not (lies_inside p d))
