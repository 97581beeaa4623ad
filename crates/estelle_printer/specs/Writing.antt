-- How a text grows by tokens.
use Rattle.std.specs.Prelude.{ℕ, List, [], ◌∷◌, ◌++◌, fold}
use Rattle.estelle_tree.specs.declared.token.Token.{Token}
use Rattle.estelle_printer.specs.Canonical.{written, gap_after}

-- a token, and what stands between it and the next one
unfoldable pub put : List ℕ → Token → List ℕ
put text t = text ++ written t ++ gap_after t ∷ []

-- one token after another
unfoldable pub write : List ℕ → List Token → List ℕ
write = fold put
