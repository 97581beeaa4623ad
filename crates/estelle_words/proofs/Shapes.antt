-- A name and its value, one after the other.
use Rattle.std.proofs.Common.{◌≡◌, ◌∙◌, ◌≤◌, refl, ap, List, [], ◌∷◌, map, drop, length, is_some, arith}
use Rattle.std.specs.Borrow.{Bor}
use Rattle.std.specs.List.{slice_index_or}
use Rattle.estelle_words.specs.Words.{Text, Pair, Word, joined, named, plain, other, texts, word_of, pairs_of, with_pair}
use Rattle.estelle_words.specs.Shapes.{shape}
use Rattle.estelle_words.specs.declared.shape.Shape.TheVariants.{Named, Plain}
use Rattle.std.specs.Prelude.{Option, Some, None}

kept : (name value : Text) (found : Option (List Pair)) → is_some found ≡ is_some (with_pair name value found)
kept name value None = refl
kept name value (Some ps) = refl

pair_goes : (word value : Word) (rest : List Word) → Named ≡ shape word → Plain ≡ shape value → is_some (pairs_of rest) ≡ is_some (pairs_of (word ∷ value ∷ rest))
pair_goes (named name) (plain value) rest e f = kept name value (pairs_of rest)
pair_goes (named name) (joined n v) rest e f = cc
pair_goes (named name) (named n) rest e f = cc
pair_goes (named name) other rest e f = cc
pair_goes (joined n v) value rest e f = cc
pair_goes (plain n) value rest e f = cc
pair_goes other value rest e f = cc

pub name_and_value_go : (words rest more : List (Bor Text)) (d : Bor Text) → rest ≡ drop 1 words → more ≡ drop 1 rest → 1 ≤ length words → 1 ≤ length rest
    → Named ≡ shape (word_of (slice_index_or words 0 d).now) → Plain ≡ shape (word_of (slice_index_or rest 0 d).now)
    → is_some (pairs_of (map word_of (texts more))) ≡ is_some (pairs_of (map word_of (texts words)))
name_and_value_go [] rest more d is_rest is_more some some_rest e f = absurd (omega arith)
name_and_value_go (word ∷ words) [] more d is_rest is_more some some_rest e f = absurd (omega arith)
name_and_value_go (word ∷ words) (value ∷ rest) more d is_rest is_more some some_rest e f =
    ap (λ t. is_some (pairs_of (map word_of (texts t)))) is_more
    ∙ pair_goes (word_of word.now) (word_of value.now) (map word_of (texts rest)) e f
    ∙ ap (λ t. is_some (pairs_of (word_of word.now ∷ map word_of (texts t)))) is_rest
