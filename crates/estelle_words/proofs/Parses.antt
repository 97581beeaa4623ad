-- A whole parse of words of the right shape.
use Rattle.std.proofs.Common.{◌≡◌, ◌∙◌, ◌&&◌, Bool, true, false, not, refl, sym, ap, ap₂, List, [], ◌∷◌, Some, drop, map}
use Rattle.std.specs.List.{fold}
use Rattle.clap.specs.Words.{App, Kinds, fault_of, matches_of}
use Rattle.clap.specs.Kinds.{IsAmong, or_else}
use Rattle.clap.specs.Walk.{first_of, rows_of, Row, nothing_held, with_default, rows_after}
use Rattle.clap.specs.Faults.{built_fault, level_fault, check_fault}
use Rattle.clap.specs.Simple.{names_of}
use Rattle.clap.specs.Matches.{first_value}
use Rattle.clap.proofs.WalkLemmas.{first_value-rows}
use Rattle.clap.specs.declared.parser.matches.Found.{Found}
use Rattle.clap.specs.declared.error.kind.ErrorKind.{ErrorKind}
use Rattle.clap.proofs.FaultLemmas.{leaf_fault}
use Rattle.estelle_words.specs.Words.{Text, Pair, word_of, pairs_of, value_in, fits, lacks_required}
use Rattle.estelle_words.specs.Parser.{app_with}
use Rattle.estelle_words.proofs.Bools.{none, none-or_else}
use Rattle.estelle_words.proofs.Once.{are_options_once, fits_once}
use Rattle.estelle_words.proofs.Rules.{built_is, rules_of, shape_with, rows, first_of_is, finished_is, defaults_none, lacks_is}
use Rattle.estelle_words.proofs.Steps.{fresh, walk_at}
use Rattle.estelle_words.proofs.Walks.{clean, ends, walks, Passes}

check_is : (options : List Text) (ps : List Pair) → none (check_fault (shape_with options) (rows ps) false) ≡ not (lacks_required options ps)
check_is options ps = go (lacks_required options ps) refl
  where
    go : (b : Bool) → lacks_required options ps ≡ b → none (check_fault (shape_with options) (rows ps) false) ≡ not (lacks_required options ps)
    go true e = rw (lacks_is options ps, e) refl
    go false e = rw (lacks_is options ps, e) refl

-- the steps of a level, from its walk to its checks
level_is : (a s d k : Kinds) → none (or_else a (or_else [] (or_else s (or_else d k)))) ≡ ((none a && none s) && (none d && none k))
level_is [] [] d k = none-or_else d k
level_is [] (x ∷ s) d k = refl
level_is (x ∷ a) s d k = refl

and_true : (a b : Bool) → (a && b) ≡ true → a ≡ true
and_true true b e = refl
and_true false b e = e

among_some : (k : ErrorKind) (ks : Kinds) → IsAmong k ks → none ks ≡ false
among_some k [] h = absurd h
among_some k (x ∷ ks) h = refl

module _ (options words : List Text) (ps : List Pair) (e : pairs_of (map word_of (drop 1 words)) ≡ Some ps) where
  passes : Passes options (walk_at [] fresh) (drop 1 words) [] ps
  passes = walks options (drop 1 words) fresh [] ps tt e

  abbrev last : List Row
  last = ends options (walk_at [] fresh) (drop 1 words)

  level_fault_is : none (level_fault (shape_with options) [] nothing_held (drop 1 words) false []) ≡ fits options ps
  level_fault_is =
      level_is _ _ _ _ ∙ ap₂ (λ a b. a && b) passes.test
      (ap (λ d. none d && none (check_fault (shape_with options) (fold with_default last (rules_of options)) false)) (defaults_none last options)
      ∙ ap (λ r. none (check_fault (shape_with options) r false)) (finished_is last options)) ∙ go (are_options_once options [] ps) refl ∙ fits_once options ps
    where
      go : (b : Bool) → are_options_once options [] ps ≡ b
          → (are_options_once options [] ps && none (check_fault (shape_with options) last false)) ≡ (are_options_once options [] ps && not (lacks_required options ps))
      go true once = ap (λ r. are_options_once options [] ps && none (check_fault (shape_with options) r false)) (passes.rows_are once)
          ∙ ap (λ b. are_options_once options [] ps && b) (check_is options ps)
      go false once = rw once refl

  pub fault_is : none (fault_of (app_with options) words) ≡ fits options ps
  fault_is =
      let top : App = record { top = shape_with options; subs = [] } in
      ap (λ b. none (built_fault b nothing_held (drop 1 words))) (built_is options)
      ∙ ap none (leaf_fault top nothing_held (drop 1 words) refl) ∙ level_fault_is

  pub matches_are : are_options_once options [] ps ≡ true → matches_of (app_with options) words ≡ rows ps
  matches_are once =
      ap (λ (b : App). rows_after b.top.rules (names_of b) (drop 1 words)) (built_is options)
      ∙ finished_is last options ∙ passes.rows_are once

  -- what `clap` gives where it takes the words
  pub parsed : (command : App) (f : Found) → command ≡ app_with options → fault_of command words ≡ [] → rows_of f ≡ matches_of command words
      → (fits options ps ≡ true) × ((name : Text) → first_value f name ≡ value_in ps name)
  parsed command f is clean found =
      let fit : fits options ps ≡ true = sym fault_is ∙ ap none (ap (λ a. fault_of a words) (sym is) ∙ clean) in
      let rows_are = found ∙ ap (λ a. matches_of a words) is ∙ matches_are (and_true _ _ (fits_once options ps ∙ fit)) in
      (fit, λ name. first_value-rows f name ∙ ap (first_of name) rows_are ∙ first_of_is ps name)

  -- and where it does not
  pub refused : (command : App) (k : ErrorKind) → command ≡ app_with options → IsAmong k (fault_of command words) → fits options ps ≡ false
  refused command k is among = sym fault_is ∙ ap (λ a. none (fault_of a words)) (sym is) ∙ among_some k (fault_of command words) among
