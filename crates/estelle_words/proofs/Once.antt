-- The options one after the other.
use Rattle.std.proofs.Common.{◌≡◌, ◌∙◌, ◌&&◌, ◌||◌, Bool, true, false, not, refl, sym, ap, ap₂, List, [], ◌∷◌, ◌++◌}
use Rattle.std.specs.Str.{bytes_eq}
use Rattle.std.specs.List.{list_all}
use Rattle.std.proofs.lemmas.List.Folds.{list_any-append}
use Rattle.estelle_words.specs.Words.{Text, Pair, has_name, is_option, are_options, are_different, lacks_required, fits}
use Rattle.estelle_words.proofs.Bools.{equal_texts, bytes_eq-same}

-- each of the pairs is one of the options, and none is there a second time, those before counted
abbrev pub are_options_once : List Text → List Pair → List Pair → Bool
are_options_once options before [] = true
are_options_once options before (p ∷ rest) =
    (is_option options p.name && not (has_name before p.name))
    && are_options_once options (before ++ p ∷ []) rest

-- no pair has a name of those before
abbrev apart : List Pair → List Pair → Bool
apart before = list_all (λ p. not (has_name before p.name))

apart_nil : (ps : List Pair) → apart [] ps ≡ true
apart_nil [] = refl
apart_nil (p ∷ ps) = apart_nil ps

either : (a b : Bool) → (a ≡ true → b ≡ true) → (b ≡ true → a ≡ true) → a ≡ b
either true b f g = sym (f refl)
either false true f g = g refl
either false false f g = refl

turned : (a b : Text) → bytes_eq a b ≡ bytes_eq b a
turned a b = either _ _ (λ e. ap (bytes_eq b) (equal_texts a b e) ∙ bytes_eq-same b) (λ e. ap (bytes_eq a) (equal_texts b a e) ∙ bytes_eq-same a)

shuffle : (a b c d : Bool) → (not (a || (b || false)) && (c && not d)) ≡ ((not a && c) && not (b || d))
shuffle true b c d = refl
shuffle false true true d = refl
shuffle false true false d = refl
shuffle false false c d = refl

apart_more : (before : List Pair) (p : Pair) (ps : List Pair) → apart (before ++ p ∷ []) ps ≡ (apart before ps && not (has_name ps p.name))
apart_more before p [] = refl
apart_more before p (q ∷ ps) =
    ap₂ (λ a b. not a && b) (list_any-append (λ r. bytes_eq r.name q.name) before (p ∷ []) ∙ ap (λ b. has_name before q.name || (b || false)) (turned p.name q.name)) (apart_more before p ps)
    ∙ shuffle (has_name before q.name) (bytes_eq q.name p.name) (apart before ps) (has_name ps p.name)

regroup : (o h a d x n : Bool) → ((o && h) && (a && (d && (x && n)))) ≡ ((o && a) && ((n && d) && (h && x)))
regroup false h a d x n = refl
regroup true false false d x n = refl
regroup true false true d x false = refl
regroup true false true false x true = refl
regroup true false true true x true = refl
regroup true true false d x n = refl
regroup true true true false x false = refl
regroup true true true false x true = refl
regroup true true true true false false = refl
regroup true true true true false true = refl
regroup true true true true true false = refl
regroup true true true true true true = refl

once_is : (options : List Text) (before ps : List Pair) → are_options_once options before ps ≡ (are_options options ps && (are_different ps && apart before ps))
once_is options before [] = refl
once_is options before (p ∷ ps) =
    ap (λ b. (is_option options p.name && not (has_name before p.name)) && b) (once_is options (before ++ p ∷ []) ps ∙ ap (λ x. are_options options ps && (are_different ps && x)) (apart_more before p ps))
    ∙ regroup (is_option options p.name) (not (has_name before p.name)) (are_options options ps) (are_different ps) (apart before ps) (not (has_name ps p.name))

all_true : (a d l : Bool) → ((a && (d && true)) && l) ≡ (a && (d && l))
all_true true true l = refl
all_true true false l = refl
all_true false d l = refl

pub fits_once : (options : List Text) (ps : List Pair) → (are_options_once options [] ps && not (lacks_required options ps)) ≡ fits options ps
fits_once options ps =
    ap (λ b. b && not (lacks_required options ps)) (once_is options [] ps ∙ ap (λ x. are_options options ps && (are_different ps && x)) (apart_nil ps))
    ∙ all_true (are_options options ps) (are_different ps) (not (lacks_required options ps))
