-- Places of a text by line and column.
use Rattle.std.specs.Prelude.{ℕ, ◌+◌, ◌==◌, not, List, take, count_by}
use Rattle.std.specs.List.{suffix_len}

-- 1, and one for each line feed before the place
abbrev pub line_of : List ℕ → ℕ → ℕ
line_of bytes at = 1 + count_by (λ b. b == 10) (take at bytes)

-- 1, and one for each byte since the last line feed before the place
abbrev pub column_of : List ℕ → ℕ → ℕ
column_of bytes at = 1 + suffix_len (λ b. not (b == 10)) (take at bytes)
