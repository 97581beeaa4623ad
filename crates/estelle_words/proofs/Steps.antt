-- What one word does to a parse of options.
use Rattle.std.proofs.Common.{◌≡◌, ◌∙◌, ℕ, ◌==◌, ◌&&◌, Bool, true, false, not, refl, sym, ap, List, [], ◌∷◌, ◌++◌, Option, Some, None, subst, nat_eq, arith}
use Rattle.std.proofs.lemmas.Bool.Decides.{nat_tests}
use Rattle.std.specs.Str.{bytes_eq}
use Rattle.std.specs.List.{list_any}
use Rattle.clap.specs.Lexer.{long_of, short_of}
use Rattle.clap.specs.Walk.{Row, Walk, Waiting, idle, option, arg_by_id, arg_by_long, walked, settled_rows}
use Rattle.clap.specs.Faults.{turn_fault, settle_fault, use_fault}
use Rattle.estelle_words.specs.Words.{Text, Pair, Word, joined, named, plain, other, word_of, has_name, is_option}
use Rattle.std.proofs.lemmas.Bool.{eqb-true}
use Rattle.estelle_words.specs.Words.{is_equals}
use Rattle.estelle_words.proofs.Bools.{none-left, none_before, bytes_eq-same, none, none-or_else, none-nil}
use Rattle.estelle_words.proofs.Rules.{built_rule, rules_of, shape_with, by_long, by_id, rows, pair, use_none, used_is}

-- ---- what the lexer makes of the words

abbrev pub dashes : Text
dashes = 45 ∷ 45 ∷ []

abbrev pub Reads : Text → Word → Type 0
Reads word (joined name value) = (long_of word ≡ Some (name, Some value)) × (bytes_eq word dashes ≡ false)
Reads word (named name) = (long_of word ≡ Some (name, None)) × (bytes_eq word dashes ≡ false)
Reads word (plain value) = (word ≡ value) × (long_of word ≡ None) × (short_of word ≡ None) × (bytes_eq word dashes ≡ false)
Reads word other = Unit {0}

-- after `--`
reads_name : (z : ℕ) (zs : Text) → Reads (45 ∷ 45 ∷ z ∷ zs) (word_of (45 ∷ 45 ∷ z ∷ zs))
reads_name z zs = go (list_any is_equals (z ∷ zs)) refl
  where
    go : (b : Bool) → list_any is_equals (z ∷ zs) ≡ b → Reads (45 ∷ 45 ∷ z ∷ zs) (word_of (45 ∷ 45 ∷ z ∷ zs))
    go true e = rw e (rw e refl, refl)
    go false e = rw e (rw (e, none_before is_equals (z ∷ zs) e) refl, refl)

reads_hyphens : (xs : Text) → Reads (45 ∷ 45 ∷ xs) (word_of (45 ∷ 45 ∷ xs))
reads_hyphens [] = tt
reads_hyphens (z ∷ zs) = reads_name z zs

-- after `-`
reads_hyphen : (xs : Text) → Reads (45 ∷ xs) (word_of (45 ∷ xs))
reads_hyphen [] = tt
reads_hyphen (y ∷ ys) = go (y == 45) refl
  where
    go : (b : Bool) → (y == 45) ≡ b → Reads (45 ∷ y ∷ ys) (word_of (45 ∷ y ∷ ys))
    go true e =
        let at : y ≡ 45 = eqb-true y 45 e in
        subst (λ u. Reads (45 ∷ u ∷ ys) (word_of (45 ∷ u ∷ ys))) (sym at) (reads_hyphens ys)
    go false e = let other_byte : nat_eq 45 y ≡ false = grind (arith, nat_tests) in rw other_byte tt

pub reads : (word : Text) → Reads word (word_of word)
reads [] = (refl, refl, refl, refl)
reads (x ∷ xs) = go (x == 45) refl
  where
    go : (b : Bool) → (x == 45) ≡ b → Reads (x ∷ xs) (word_of (x ∷ xs))
    go true e =
        let at : x ≡ 45 = eqb-true x 45 e in
        subst (λ y. Reads (y ∷ xs) (word_of (y ∷ xs))) (sym at) (reads_hyphen xs)
    go false e = let other_byte : nat_eq 45 x ≡ false = grind (arith, nat_tests) in rw other_byte (refl, rw e refl, rw e refl, rw e refl)

-- ---- where the walk stands

pub data Stage : Type 0 where
  fresh : Stage
  full : Pair → Stage
  waits : Text → Stage

abbrev pub pending_at : Stage → Option (Text × List Text)
pending_at fresh = None
pending_at (full p) = Some (p.name, p.value ∷ [])
pending_at (waits name) = Some (name, [])

abbrev pub waiting_at : Stage → Waiting
waiting_at (waits name) = option name
waiting_at _ = idle

abbrev pub walk_of : List Row → Option (Text × List Text) → Waiting → Walk
walk_of r pending waiting = record {
  held = record { rows = r; pending = pending; skip = 0 };
  waiting = waiting;
  position = 1;
  is_trailing = false;
  stopped = None;
}

abbrev pub walk_at : List Pair → Stage → Walk
walk_at before stage = walk_of (rows before) (pending_at stage) (waiting_at stage)

abbrev pub settle_at : List Text → List Row → Option (Text × List Text) → List Row → Type 0
settle_at options r pending now =
    (settle_fault (rules_of options) false (record { rows = r; pending = pending; skip = 0 }) ≡ [])
    × (settled_rows (rules_of options) pending r ≡ now)

-- ---- a word at rest: r and `pending` settle to the rows of `before`

module _ (options : List Text) (r : List Row) (pending : Option (Text × List Text)) (before : List Pair) (settles : settle_at options r pending (rows before)) (word : Text) where
  abbrev turn : Bool
  turn = none (turn_fault (shape_with options) [] (walk_of r pending idle) word)

  pub joined_turn : (n v : Text) → Reads word (joined n v) → turn ≡ (is_option options n && not (has_name before n))
  joined_turn n v is = go (is_option options n) refl
    where
      go : (b : Bool) → is_option options n ≡ b → turn ≡ (is_option options n && not (has_name before n))
      go true e =
          let found : arg_by_long (rules_of options) n ≡ Some (built_rule n) = rw e at (by_long options n) in
          rw (is.1, is.0, found, settles.0, settles.1, e) (none-left (use_fault false (built_rule n) (v ∷ []) (rows before)) ∙ use_none before n v)
      go false e =
          let found : arg_by_long (rules_of options) n ≡ None = rw e at (by_long options n) in
          rw (is.1, is.0, found, e) refl

  pub joined_next : (n v : Text) → Reads word (joined n v) → is_option options n ≡ true → has_name before n ≡ false
      → walked (rules_of options) [] (walk_of r pending idle) word ≡ walk_at (before ++ pair n v ∷ []) fresh
  unfolding walked
  joined_next n v is e absent =
      let found : arg_by_long (rules_of options) n ≡ Some (built_rule n) = rw e at (by_long options n) in
      rw (is.1, is.0, found, settles.1, used_is before n v absent) refl

  pub named_turn : (n : Text) → Reads word (named n) → turn ≡ is_option options n
  named_turn n is = go (is_option options n) refl
    where
      go : (b : Bool) → is_option options n ≡ b → turn ≡ is_option options n
      go true e =
          let found : arg_by_long (rules_of options) n ≡ Some (built_rule n) = rw e at (by_long options n) in
          rw (is.1, is.0, found, settles.0, e) refl
      go false e =
          let found : arg_by_long (rules_of options) n ≡ None = rw e at (by_long options n) in
          rw (is.1, is.0, found, e) refl

  pub named_next : (n : Text) → Reads word (named n) → is_option options n ≡ true
      → walked (rules_of options) [] (walk_of r pending idle) word ≡ walk_at before (waits n)
  unfolding walked
  named_next n is e =
      let found : arg_by_long (rules_of options) n ≡ Some (built_rule n) = rw e at (by_long options n) in
      rw (is.1, is.0, found, settles.1) refl

-- ---- the value of an option

pub plain_turn : (options : List Text) (before : List Pair) (n word : Text) → Reads word (plain word)
    → turn_fault (shape_with options) [] (walk_at before (waits n)) word ≡ []
plain_turn options before n word is = rw (is.3, is.1, is.2) refl

pub plain_next : (options : List Text) (before : List Pair) (n word : Text) → Reads word (plain word) → is_option options n ≡ true
    → walked (rules_of options) [] (walk_at before (waits n)) word ≡ walk_at before (full (pair n word))
unfolding walked
plain_next options before n word is e =
    let found : arg_by_id (rules_of options) n ≡ Some (built_rule n) = rw e at (by_id options n) in
    rw (is.3, is.1, is.2, found, bytes_eq-same n) refl

-- ---- a value is settled

pub full_settles : (options : List Text) (before : List Pair) (p : Pair) → is_option options p.name ≡ true → has_name before p.name ≡ false
    → settle_at options (rows before) (pending_at (full p)) (rows (before ++ p ∷ []))
full_settles options before p e absent =
    let found : arg_by_id (rules_of options) p.name ≡ Some (built_rule p.name) = rw e at (by_id options p.name) in
    let clean : none (use_fault false (built_rule p.name) (p.value ∷ []) (rows before)) ≡ true = use_none before p.name p.value ∙ ap not absent in
    (rw found (none-nil _ clean), rw found (used_is before p.name p.value absent))

pub full_clashes : (options : List Text) (before : List Pair) (p : Pair) → is_option options p.name ≡ true → has_name before p.name ≡ true
    → none (settle_fault (rules_of options) false (walk_at before (full p)).held) ≡ false
full_clashes options before p e there =
    let found : arg_by_id (rules_of options) p.name ≡ Some (built_rule p.name) = rw e at (by_id options p.name) in
    rw found (use_none before p.name p.value ∙ ap not there)

-- no word mends a clash
module _ (options : List Text) (r : List Row) (pending : Option (Text × List Text)) (clash : none (settle_fault (rules_of options) false (record { rows = r; pending = pending; skip = 0 })) ≡ false) (word : Text) where
  pub joined_clash : (n v : Text) → Reads word (joined n v) → none (turn_fault (shape_with options) [] (walk_of r pending idle) word) ≡ false
  joined_clash n v is = go (is_option options n) refl
    where
      go : (b : Bool) → is_option options n ≡ b → none (turn_fault (shape_with options) [] (walk_of r pending idle) word) ≡ false
      go true e =
          let found : arg_by_long (rules_of options) n ≡ Some (built_rule n) = rw e at (by_long options n) in
          rw (is.1, is.0, found) (rw (none-or_else, none-or_else, clash) refl)
      go false e =
          let found : arg_by_long (rules_of options) n ≡ None = rw e at (by_long options n) in
          rw (is.1, is.0, found) refl

  pub named_clash : (n : Text) → Reads word (named n) → none (turn_fault (shape_with options) [] (walk_of r pending idle) word) ≡ false
  named_clash n is = go (is_option options n) refl
    where
      go : (b : Bool) → is_option options n ≡ b → none (turn_fault (shape_with options) [] (walk_of r pending idle) word) ≡ false
      go true e =
          let found : arg_by_long (rules_of options) n ≡ Some (built_rule n) = rw e at (by_long options n) in
          rw (is.1, is.0, found) (rw (none-or_else, clash) refl)
      go false e =
          let found : arg_by_long (rules_of options) n ≡ None = rw e at (by_long options n) in
          rw (is.1, is.0, found) refl
