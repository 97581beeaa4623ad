-- What `clap` makes of the options of a command, and one use of an option.
use Rattle.std.proofs.Common.{◌≡◌, ◌∙◌, ℕ, ◌&&◌, ◌||◌, Bool, true, false, not, refl, sym, ap, List, [], ◌∷◌, ◌++◌, Some, None, map, append-nil, codes, if◌then◌else◌, take, suc, zero, ◌<◌, ◌+◌, length, add-one, arith}
use Rattle.std.specs.Borrow.{Bor}
use Rattle.std.specs.Str.{bytes_eq}
use Rattle.std.specs.List.{list_any, list_all, fold, slice_index_or}
use Rattle.std.proofs.lemmas.List.{map-append}
use Rattle.clap.specs.Walk.{Row, Rule, arg_by_id, arg_by_long, at_row, with_values, more_values, without, used, has_row, first_of, with_default, is_early_multiple}
use Rattle.clap.specs.Simple.{App, Shape, built, filled, filled_from, new_shape, is_simple, with_rule}
use Rattle.clap.specs.Values.{reading_of}
use Rattle.clap.specs.Faults.{use_fault, defaults_fault, is_simple_and_free}
use Rattle.clap.specs.Takes.{is_given}
use Rattle.clap.specs.declared.parser.matches.ValueSource.TheVariants.{CommandLine}
use Rattle.clap.specs.declared.builder.value_parser.ValueParser.TheVariants as vp
use Rattle.estelle_words.specs.Words.{Text, Pair, has_name, value_in, is_option, lacks_required}
use Rattle.estelle_words.specs.Parser.{app_with, option_rule}
use Rattle.estelle_words.proofs.Bools.{or_false, equal_texts, none}

-- ---- the rules as they are built

abbrev pub built_rule : Text → Rule
built_rule name = filled (option_rule name)

abbrev pub rules_of : List Text → List Rule
rules_of = map built_rule

abbrev pub shape_with : List Text → Shape
shape_with options = record (new_shape (codes "estelle")) {
  rules = rules_of options;
  disable_help_flag = true;
  disable_help_subcommand = true;
  is_built = true;
}

filled_is : (options : List Text) (i : ℕ) → filled_from i (map option_rule options) ≡ rules_of options
filled_is [] i = refl
filled_is (o ∷ rest) i = ap (λ rs. built_rule o ∷ rs) (filled_is rest i)

pub built_is : (options : List Text) → built (app_with options) ≡ record { top = shape_with options; subs = [] }
built_is options =
    let make : List Rule → App = λ rs. record { top = record (shape_with options) { rules = rs }; subs = [] } in
    ap make (filled_is options 1)

pub by_long : (options : List Text) (n : Text) → arg_by_long (rules_of options) n ≡ (if is_option options n then Some (built_rule n) else None)
by_long [] n = refl
by_long (o ∷ rest) n = go (by_long rest n) (bytes_eq o n) refl
  where
    go : arg_by_long (rules_of rest) n ≡ (if is_option rest n then Some (built_rule n) else None) → (b : Bool) → bytes_eq o n ≡ b → arg_by_long (rules_of (o ∷ rest)) n ≡ (if is_option (o ∷ rest) n then Some (built_rule n) else None)
    go more true e = rw e (ap (λ m. Some (built_rule m)) (equal_texts o n e))
    go more false e = rw e more

pub by_id : (options : List Text) (n : Text) → arg_by_id (rules_of options) n ≡ (if is_option options n then Some (built_rule n) else None)
by_id [] n = refl
by_id (o ∷ rest) n = go (by_id rest n) (bytes_eq o n) refl
  where
    go : arg_by_id (rules_of rest) n ≡ (if is_option rest n then Some (built_rule n) else None) → (b : Bool) → bytes_eq o n ≡ b → arg_by_id (rules_of (o ∷ rest)) n ≡ (if is_option (o ∷ rest) n then Some (built_rule n) else None)
    go more true e = rw e (ap (λ m. Some (built_rule m)) (equal_texts o n e))
    go more false e = rw e more

-- ---- the rows of pairs

abbrev pub row_of_pair : Pair → Row
row_of_pair p = record {
  id = p.name;
  values = p.value ∷ [];
  count = None;
  source = Some CommandLine;
  reading = reading_of vp.String;
}

abbrev pub rows : List Pair → List Row
rows = map row_of_pair

abbrev pub pair : Text → Text → Pair
pair name value = record { name = name; value = value }

pub has_row_is : (ps : List Pair) (n : Text) → has_row n (rows ps) ≡ has_name ps n
has_row_is [] n = refl
has_row_is (p ∷ ps) n = ap (λ b. bytes_eq p.name n || b) (has_row_is ps n)

at_absent : (n : Text) (change : Row → List Row) (missing : List Row) (ps : List Pair) → has_name ps n ≡ false → at_row n change missing (rows ps) ≡ rows ps ++ missing
at_absent n change missing [] e = refl
at_absent n change missing (p ∷ ps) e =
    let both = or_false (bytes_eq p.name n) (has_name ps n) e in
    let here : bytes_eq p.name n ≡ false = both.0 in
    rw here (ap (λ rs. row_of_pair p ∷ rs) (at_absent n change missing ps both.1))

pub used_is : (ps : List Pair) (n v : Text) → has_name ps n ≡ false → used (built_rule n) (v ∷ []) (rows ps) ≡ rows (ps ++ pair n v ∷ [])
used_is ps n v e =
    let gone : without n (rows ps) ≡ rows ps = at_absent n (λ _. []) [] ps e ∙ append-nil (rows ps) in
    ap (with_values n (reading_of vp.String) CommandLine (v ∷ [])) gone
    ∙ at_absent n (more_values CommandLine (v ∷ [])) (row_of_pair (pair n v) ∷ []) ps e ∙ sym (map-append row_of_pair ps (pair n v ∷ []))

pub use_none : (ps : List Pair) (n v : Text) → none (use_fault false (built_rule n) (v ∷ []) (rows ps)) ≡ not (has_name ps n)
use_none ps n v = go (has_name ps n) refl
  where
    go : (b : Bool) → has_name ps n ≡ b → none (use_fault false (built_rule n) (v ∷ []) (rows ps)) ≡ not (has_name ps n)
    go true e = let r : has_row n (rows ps) ≡ true = has_row_is ps n ∙ e in rw (r, e) refl
    go false e = let r : has_row n (rows ps) ≡ false = has_row_is ps n ∙ e in rw (r, e) refl

pub first_of_is : (ps : List Pair) (n : Text) → first_of n (rows ps) ≡ value_in ps n
first_of_is [] n = refl
first_of_is (p ∷ ps) n = go (first_of_is ps n) (bytes_eq p.name n) refl
  where
    go : first_of n (rows ps) ≡ value_in ps n → (b : Bool) → bytes_eq p.name n ≡ b → first_of n (rows (p ∷ ps)) ≡ value_in (p ∷ ps) n
    go more true e = rw e refl
    go more false e = rw e more

pub is_given_is : (ps : List Pair) (n : Text) → is_given n (rows ps) ≡ has_name ps n
is_given_is [] n = refl
is_given_is (p ∷ ps) n = go (is_given_is ps n) (bytes_eq p.name n) refl
  where
    go : is_given n (rows ps) ≡ has_name ps n → (b : Bool) → bytes_eq p.name n ≡ b → is_given n (rows (p ∷ ps)) ≡ has_name (p ∷ ps) n
    go more true e = rw e refl
    go more false e = rw e more

-- ---- after the walk

pub lacks_is : (options : List Text) (ps : List Pair) → list_any (λ a. a.required && not (is_given a.id (rows ps))) (rules_of options) ≡ lacks_required options ps
lacks_is [] ps = refl
lacks_is (o ∷ rest) ps = rw (is_given_is ps o, lacks_is rest ps) refl

default_is : (r : List Row) (o : Text) → with_default r (built_rule o) ≡ r
default_is r o = go (has_row o r) refl
  where
    go : (b : Bool) → has_row o r ≡ b → with_default r (built_rule o) ≡ r
    go true e = rw e refl
    go false e = rw e refl

pub finished_is : (r : List Row) (options : List Text) → fold with_default r (rules_of options) ≡ r
finished_is r [] = refl
finished_is r (o ∷ rest) = ap (λ now. fold with_default now (rules_of rest)) (default_is r o) ∙ finished_is r rest

pub defaults_none : (r : List Row) (options : List Text) → defaults_fault r (rules_of options) ≡ []
unfolding defaults_fault
defaults_none r [] = refl
defaults_none r (o ∷ rest) = go (defaults_none r rest) (has_row o r) refl
  where
    go : defaults_fault r (rules_of rest) ≡ [] → (b : Bool) → has_row o r ≡ b → defaults_fault r (rules_of (o ∷ rest)) ≡ []
    go more true e = rw e more
    go more false e = rw e more

-- ---- the command is simple

options_simple : (options : List Text) → list_all (λ a. a.is_simple) (map option_rule options) ≡ true
options_simple [] = refl
options_simple (o ∷ rest) = options_simple rest

rules_simple : (options : List Text) → list_all (λ a. a.is_simple) (rules_of options) ≡ true
rules_simple [] = refl
rules_simple (o ∷ rest) = rules_simple rest

rules_free : (options : List Text) → list_all (λ a. a.is_free) (rules_of options) ≡ true
rules_free [] = refl
rules_free (o ∷ rest) = rules_free rest

none_early : (options : List Text) (k : ℕ) → list_any (is_early_multiple k) (rules_of options) ≡ false
none_early [] k = refl
none_early (o ∷ rest) k = none_early rest k

pub simple_and_free : (options : List Text) → is_simple_and_free (app_with options) ≡ true
simple_and_free options = rw (filled_is options 1, options_simple options, rules_simple options, none_early options, rules_free options) refl

pub simple : (options : List Text) → is_simple (app_with options) ≡ true
simple options = rw (filled_is options 1, options_simple options, rules_simple options, none_early options) refl

-- ---- one option more

names_more : (items : List (Bor Text)) (i : ℕ) (d : Bor Text) → i < length items
    → take (suc i) (map (λ s. s.now) items) ≡ take i (map (λ s. s.now) items) ++ (slice_index_or items i d).now ∷ []
names_more [] i d h = absurd (omega arith)
names_more (x ∷ xs) zero d h = refl
names_more (x ∷ xs) (suc i) d h = ap (λ rest. x.now ∷ rest) (names_more xs i d (omega arith))

with_more : (xs : List Text) (n : Text) → with_rule (app_with xs) (option_rule n) ≡ app_with (xs ++ n ∷ [])
with_more xs n =
    let make : List Rule → App = λ rs. record (app_with xs) { top = record (app_with xs).top { rules = rs } } in
    ap make (sym (map-append option_rule xs (n ∷ [])))

pub grown : (items : List (Bor Text)) (i : ℕ) (d : Bor Text) → i < length items
    → with_rule (app_with (take i (map (λ s. s.now) items))) (option_rule (slice_index_or items i d).now) ≡ app_with (take (i + 1) (map (λ s. s.now) items))
grown items i d h =
    with_more (take i (map (λ s. s.now) items)) (slice_index_or items i d).now
    ∙ ap app_with (sym (names_more items i d h) ∙ ap (λ k. take k (map (λ s. s.now) items)) (sym (add-one i)))
