-- Numbers of what stands at places.
use Rattle.std.specs.Prelude.{ℕ, zero, suc, List, [], ◌∷◌, ◌++◌, length, option_map, unwrap_or, Option}
use Rattle.place_table.specs.Latest.{latest}

-- in a list, the number of the list and the number in the list
abbrev pub Number : Type 0
Number = ℕ × ℕ

-- the places of the list with a number, the first of which has the number n
abbrev pub list_from : ℕ → ℕ → List ℕ → List (ℕ × Number)
list_from k n [] = []
list_from k n (place ∷ places) = (place, (k, n)) ∷ list_from k (suc n) places

-- the places of lists, the first of which has the number k
abbrev pub lists_from : ℕ → List (List ℕ) → List (ℕ × Number)
lists_from k [] = []
lists_from k (places ∷ more) = list_from k 0 places ++ lists_from (suc k) more

-- the number of a place in a list; behind all, where it is not there
abbrev pub number_in : List ℕ → ℕ → ℕ
number_in places place = unwrap_or (option_map (λ n. n.1) (latest place (list_from 0 0 places))) (length places)

-- so many numbers from n on
abbrev pub rising : ℕ → ℕ → List ℕ
rising n zero = []
rising n (suc count) = n ∷ rising (suc n) count
