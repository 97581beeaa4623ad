-- What is known of names where a declaration speaks.
use Rattle.std.specs.Prelude.{ℕ, List, [], ◌∷◌, map, fold}
use Rattle.estelle_tree.specs.declared.names.Use.{Use}
use Rattle.estelle_model.specs.declared.meaning.Meaning.{Meaning}
use Rattle.estelle_model.specs.Meant.{Meanings}
use Rattle.estelle_model.specs.Denoted.{Declarations}
use Rattle.estelle_model.specs.Names.{Declared, meant_by, with_all}

pub record Known : Type 0 where
  -- for each name in use, the name in its declaration
  pub names : List Use
  -- what is declared so far, the latest first
  pub declared : Declared

-- what names mean
abbrev pub meanings_of : Known → Meanings
meanings_of known = meant_by known.names known.declared

-- nothing is declared yet
abbrev pub unknown : List Use → Known
unknown names = record { names = names; declared = [] }

-- with one more declaration
abbrev pub with_meaning : Known → ℕ → Meaning → Known
with_meaning known at m = record { names = known.names; declared = (at, m) ∷ known.declared }

-- with meanings that are declared together
unfoldable pub with_meanings : Known → List (ℕ × Meaning) → Known
with_meanings known ms = fold (λ k m. with_meaning k m.0 m.1) known ms

-- with more declarations, each of which speaks of those before it
unfoldable pub declare_all : Known → Declarations → Known
declare_all known ds = record { names = known.names; declared = with_all known.names known.declared ds }

-- the names in use by their places
abbrev pub by_place : List Use → List (ℕ × Use)
by_place = map (λ u. (u.at.start, u))
