-- What the words mean, by their first word and what the parser gave.
use Rattle.std.proofs.Common.{◌≡◌, ◌∙◌, ◌≤◌, ◌-◌, true, refl, sym, ap, List, [], ◌∷◌, Option, Some, None, map, take, drop, length, is_some, arith}
use mathlib.Core.Path.{fun_ext}
use Rattle.std.specs.Borrow.{Bor}
use Rattle.std.specs.List.{slice_index_or}
use Rattle.std.proofs.lemmas.Slice.{between_to_end}
use Rattle.estelle_words.specs.Words.{Text, Pair, texts, word_of, pairs_of, command_of, settings_by, options_of, fits, value_in, meaning}
use Rattle.estelle_words.specs.declared.command.Command.{Command}

some_pairs : (found : Option (List Pair)) → is_some found ≡ true → (ps : List Pair) × (found ≡ Some ps)
some_pairs None e = cc
some_pairs (Some ps) e = (ps, refl)

rest_is : (words : List (Bor Text)) → texts (drop 1 words) ≡ drop 1 (texts words)
rest_is [] = refl
rest_is (word ∷ rest) = refl

-- the words after the first give options
pub given : (words : List (Bor Text)) → is_some (pairs_of (map word_of (texts (take (length words - 1) (drop 1 words))))) ≡ true
    → (ps : List Pair) × (pairs_of (map word_of (drop 1 (texts words))) ≡ Some ps)
given words does =
    let rest = ap texts (between_to_end words 1 (length words) (omega arith)) ∙ rest_is words in
    some_pairs _ (ap (λ t. is_some (pairs_of (map word_of t))) (sym rest) ∙ does)

-- the parser gave their values
pub meant : (words : List (Bor Text)) (d : Bor Text) (command : Command) (ps : List Pair) (value : Text → Option Text) → 1 ≤ length words
    → Some command ≡ command_of (slice_index_or words 0 d).now → pairs_of (map word_of (drop 1 (texts words))) ≡ Some ps
    → fits (options_of command) ps ≡ true → ((name : Text) → value name ≡ value_in ps name) → settings_by command value ≡ meaning (texts words)
meant [] d command ps value some named pairs fit same = absurd (omega arith)
meant (word ∷ rest) d command ps value some named pairs fit same =
    ap (settings_by command) (fun_ext same) ∙ rw (← named, pairs, fit) refl
