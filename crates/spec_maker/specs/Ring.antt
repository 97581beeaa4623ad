-- A ring of stations: each gives a token to the station on its right, and then passes on each token that comes from its left.
use Rattle.std.specs.Prelude.{ℕ, zero, suc, ◌+◌, ◌-◌, List, [], ◌∷◌, ◌++◌, codes}
use Rattle.std.specs.List.{concat}
use Rattle.std.specs.Fmt.{decimal}
use Rattle.estelle_tree.specs.declared.token.Placed.{Placed}
use Rattle.estelle_tree.specs.declared.tree.specification.Spec.{Spec}
use Rattle.estelle_tree.specs.Lexed.{IsLexed, IsBlankFrom}
use Rattle.estelle_tree.specs.Spells.{Spells}
use Rattle.estelle_printer.specs.Canonical.{IsCanonicalText}

-- what a function gives for 1, then for 2, and so on, for so many numbers
abbrev pub each : {A : Type 0} → (ℕ → List A) → ℕ → List A
each f zero = []
each f (suc n) = each f n ++ f (suc n)

-- the channel, the module and its body, which do not depend on how many stations there are
unfoldable pub common_part : List ℕ
common_part = concat (
    codes "specification ring ;\n"
    ∷ codes "default individual queue ;\n"
    ∷ codes "channel link ( giver , taker ) ;\n"
    ∷ codes "by giver : token ( hops : integer ) ;\n"
    ∷ codes "module station systemprocess ( mark : integer ) ;\n"
    ∷ codes "ip left : link ( taker ) ;\n"
    ∷ codes "right : link ( giver ) ;\n"
    ∷ codes "end ;\n"
    ∷ codes "body go for station ;\n"
    ∷ codes "var sum : integer ;\n"
    ∷ codes "state fresh , here ;\n"
    ∷ codes "initialize to fresh begin sum := mark end ;\n"
    ∷ codes "trans from fresh to here begin output right . token ( 0 ) end ;\n"
    ∷ codes "from here to here when left . token begin sum := hops ;\n"
    ∷ codes "output right . token ( hops + 1 ) end ;\n"
    ∷ codes "end ;\n"
    ∷ [])

-- the module variable of a station
abbrev pub station : ℕ → List ℕ
station i = codes "s" ++ decimal i

-- the module variables, with `,` between them
abbrev pub variables : ℕ → List ℕ
variables n = concat (codes "modvar " ∷ each (λ i. station i ++ codes " , ") (n - 1) ∷ station n ∷ codes " : station ;\n" ∷ [])

-- a station is started with its number
abbrev pub start : ℕ → List ℕ
start i = concat (codes "init " ∷ station i ∷ codes " with go ( " ∷ decimal i ∷ codes " ) ;\n" ∷ [])

-- the right of a station is connected to the left of another
abbrev pub link : ℕ → ℕ → List ℕ
link i j = concat (codes "connect " ∷ station i ∷ codes " . right to " ∷ station j ∷ codes " . left" ∷ [])

-- each station to the next one, and the last to the first; behind the last statement stands no `;`
abbrev pub links : ℕ → List ℕ
links n = each (λ i. link i (i + 1) ++ codes " ;\n") (n - 1) ++ link n 1

-- the text of the ring, in canonical form
unfoldable pub ring : ℕ → List ℕ
ring n = concat (common_part ∷ variables n ∷ codes "initialize begin " ∷ each start n ∷ links n ∷ codes " end ;\nend .\n" ∷ [])

-- The tree of the ring: it spells the tokens of this text, in their places, and the text is its canonical one.
pub record IsRing (n : ℕ) (spec : Spec) : Type 0 where
  pub tokens : List Placed
  pub rest : ℕ
  pub lexed : IsLexed (ring n) tokens rest
  pub blank : IsBlankFrom (ring n) rest
  pub spells : Spells spec tokens
  pub canonical : IsCanonicalText spec (ring n)
