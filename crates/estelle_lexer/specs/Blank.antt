-- Where something else than blanks and comments stands, found from left to right.
use Rattle.std.specs.Prelude.{ℕ, zero, suc, ◌+◌, ◌-◌, List, [], ◌∷◌, length, Option, Some, None}
use Rattle.estelle_lexer.specs.declared.front.Piece.TheVariants as piece
use Rattle.estelle_lexer.specs.Front.{Cut, cut}

-- the text after a separator at the front
abbrev pub separator_of : Cut → Option (List ℕ)
separator_of (Some (piece.Separator, after)) = Some after
separator_of _ = None

-- after a separator the search goes on with what is left, and else this is the place
abbrev pub skipping : (ℕ → List ℕ → Option ℕ) → ℕ → List ℕ → Option (List ℕ) → Option ℕ
skipping go at text None = Some at
skipping go at text (Some after) = go (at + (length text - length after)) after

-- as many turns as the first number says
unfoldable pub other_from : ℕ → ℕ → List ℕ → Option ℕ
other_from zero at text = None
other_from (suc n) at [] = None
other_from (suc n) at (b ∷ text) = skipping (other_from n) at (b ∷ text) (separator_of (cut (b ∷ text)))
