-- Which list of tokens a specification's tree spells.
use Rattle.std.specs.Prelude.{ℕ, ◌-◌, ◌≤◌, ◌^◌, Bool, false, ◌&&◌, ◌||◌, ◌==◌, IsTrue, pos, ◌≤ℤ◌, List, [], ◌∷◌, All, ⊤}
use Rattle.std.specs.List.{list_all}
use Rattle.std.specs.Char.{is_ascii_digit, is_ascii_lowercase}
use Rattle.estelle_tree.specs.declared.token.Token.{Token}
use Rattle.estelle_tree.specs.declared.token.Token.TheVariants as token
use Rattle.estelle_tree.specs.declared.token.Placed.{Placed}
use Rattle.estelle_tree.specs.declared.tree.specification.Spec.{Spec}
use Rattle.estelle_tree.specs.Input.{input}
use Rattle.estelle_tree.specs.Specification.{IsSpec}

-- so many levels of nesting may stand in one another
unfoldable pub max_nesting : ℕ
max_nesting = 200

-- how many more may open where a piece stands at this nesting
abbrev pub room_at : ℕ → ℕ
room_at depth = max_nesting - depth

-- a letter, then letters, digits and `_`, in lower case
abbrev pub is_word_form : List ℕ → Bool
is_word_form [] = false
is_word_form (b ∷ bs) = is_ascii_lowercase b && list_all (λ b. is_ascii_lowercase b || is_ascii_digit b || b == 95) bs

-- what a token can be: a number is not negative, and a character is printable
abbrev pub IsToken : Token → Type 0
IsToken (token.Word w) = IsTrue (is_word_form w)
IsToken (token.Number n) = (pos 0 ≤ℤ n) × (n ≤ℤ pos (2 ^ 63 - 1))
IsToken (token.Char c) = (32 ≤ c) × (c ≤ 126)
IsToken (token.Symbol s) = ⊤

-- the tree spells the whole list, and these are tokens
pub record Spells (spec : Spec) (tokens : List Placed) : Type 0 where
  pub forms : All (λ (p : Placed). IsToken p.token) tokens
  -- where the last token ends
  pub end : ℕ
  pub whole : IsSpec max_nesting spec (input tokens 0) (input [] end)
