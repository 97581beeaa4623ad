-- Lists of what stands by the path of an instance, in path order.
use Rattle.std.specs.Prelude.{not, List, filter}
use Rattle.std.specs.Ordering.{is_lt}
use Rattle.std.specs.List.Sorted.{IsStrictlySortedBy}
use Rattle.estelle_tree.specs.Paths.{Path, path_cmp, is_inside}

module _ {T : Type 0} (place : T → Path) where
  -- each stands before those after it
  abbrev pub InOrder : List T → Type 0
  InOrder = IsStrictlySortedBy (λ x y. path_cmp (place x) (place y))

  -- those before an instance
  abbrev pub before : Path → List T → List T
  before p = filter (λ x. is_lt (path_cmp (place x) p))

  -- those after it
  abbrev pub after : Path → List T → List T
  after p = filter (λ x. is_lt (path_cmp p (place x)))

  -- those of an instance and of all below it
  abbrev pub inside : Path → List T → List T
  inside p = filter (λ x. is_inside p (place x))

  -- and all others
  abbrev pub outside : Path → List T → List T
  outside p = filter (λ x. not (is_inside p (place x)))
