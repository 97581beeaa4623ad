-- A parse of words of the right shape, from where it stands.
use Rattle.std.proofs.Common.{◌≡◌, ◌∙◌, ◌&&◌, Bool, true, false, not, refl, sym, ap, ap₂, List, [], ◌∷◌, ◌++◌, Option, Some, None, map, subst, append_assoc, append-nil}
use Rattle.std.specs.List.{fold}
use Rattle.clap.specs.Walk.{Row, Walk, walked, settled}
use Rattle.clap.specs.Faults.{walk_fault, settle_fault, turn_fault}
use Rattle.estelle_words.specs.Words.{Text, Pair, Word, joined, named, plain, other, word_of, has_name, is_option, with_pair}
use Rattle.estelle_words.proofs.Pairs.{pairs_from}
use Rattle.estelle_words.proofs.Bools.{and_assoc, none, none-or_else}
use Rattle.estelle_words.proofs.Once.{are_options_once}
use Rattle.estelle_words.proofs.Rules.{rules_of, shape_with, rows, pair}
use Rattle.estelle_words.proofs.Steps.{Reads, reads, Stage, fresh, full, waits, pending_at, waiting_at, walk_of, walk_at, settle_at, joined_turn, joined_next, named_turn, named_next, plain_turn, plain_next, full_settles, full_clashes, joined_clash, named_clash}

-- nothing is wrong with the words from here on, nor with the last value
abbrev pub clean : List Text → Walk → List Text → Bool
clean options w words =
    none (walk_fault (shape_with options) [] w words)
    && none (settle_fault (rules_of options) false (fold (walked (rules_of options) []) w words).held)

abbrev pub ends : List Text → Walk → List Text → List Row
ends options w words = (settled (rules_of options) (fold (walked (rules_of options) []) w words).held).rows

abbrev pub with_stage : Stage → List Pair → List Pair
with_stage (full p) ps = p ∷ ps
with_stage _ ps = ps

abbrev pub name_at : Stage → Option Text
name_at (waits name) = Some name
name_at _ = None

abbrev pub IsKnown : List Text → Stage → Type 0
IsKnown options fresh = Unit {0}
IsKnown options (full p) = is_option options p.name ≡ true
IsKnown options (waits name) = is_option options name ≡ true

-- the words pass where the pairs are options, each once, and then their rows are there
pub record Passes (options : List Text) (w : Walk) (words : List Text) (before ps : List Pair) : Type 0 where
  pub test : clean options w words ≡ are_options_once options before ps
  pub rows_are : are_options_once options before ps ≡ true → ends options w words ≡ rows (before ++ ps)

abbrev pub Walks : List Text → List Text → Type 0
Walks options words = (stage : Stage) (before ps : List Pair) → IsKnown options stage → pairs_from (name_at stage) (map word_of words) ≡ Some ps
    → Passes options (walk_at before stage) words before (with_stage stage ps)

-- one word more
pub clean_step : (options : List Text) (w : Walk) (word : Text) (rest : List Text)
    → clean options w (word ∷ rest) ≡ (none (turn_fault (shape_with options) [] w word) && clean options (walked (rules_of options) [] w word) rest)
unfolding walk_fault
clean_step options w word rest =
    let now = walked (rules_of options) [] w word in
    ap (λ b. b && none (settle_fault (rules_of options) false (fold (walked (rules_of options) []) now rest).held)) (none-or_else (turn_fault (shape_with options) [] w word) (walk_fault (shape_with options) [] now rest))
    ∙ and_assoc (none (turn_fault (shape_with options) [] w word)) (none (walk_fault (shape_with options) [] now rest)) _

-- a word at which the parse fails
fails : (options : List Text) (w : Walk) (word : Text) (rest : List Text) (before ps : List Pair)
    → none (turn_fault (shape_with options) [] w word) ≡ false → are_options_once options before ps ≡ false → Passes options w (word ∷ rest) before ps
fails options w word rest before ps turn never = record {
  test = clean_step options w word rest ∙ ap (λ b. b && clean options (walked (rules_of options) [] w word) rest) turn ∙ sym never;
  rows_are = λ once. let bad : true ≡ false = sym once ∙ never in absurd cc;
}

-- a word that passes, and leads to a walk from which the rest is known
passes_on : (options : List Text) (w next : Walk) (word : Text) (rest : List Text) (before now ps qs : List Pair)
    → none (turn_fault (shape_with options) [] w word) ≡ true → walked (rules_of options) [] w word ≡ next
    → are_options_once options before ps ≡ are_options_once options now qs → now ++ qs ≡ before ++ ps
    → Passes options next rest now qs → Passes options w (word ∷ rest) before ps
passes_on options w next word rest before now ps qs turn step same together p = record {
  test = clean_step options w word rest ∙ ap₂ (λ b n. b && clean options n rest) turn step ∙ p.test ∙ sym same;
  rows_are = λ once. ap (λ n. ends options n rest) step ∙ p.rows_are (sym same ∙ once) ∙ ap rows together;
}

pub with_pair_some : (n v : Text) (o : Option (List Pair)) (ps : List Pair) → with_pair n v o ≡ Some ps → (qs : List Pair) × (o ≡ Some qs) × (ps ≡ pair n v ∷ qs)
with_pair_some n v None ps e = cc
with_pair_some n v (Some qs) ps e = (qs, refl, cc)

-- an unknown name never passes
unknown : (options : List Text) (before ps : List Pair) (n : Text) (ws : List Word) → is_option options n ≡ false → pairs_from (Some n) ws ≡ Some ps
    → are_options_once options before ps ≡ false
unknown options before ps n [] e is = cc
unknown options before ps n (joined m v ∷ ws) e is = cc
unknown options before ps n (named m ∷ ws) e is = cc
unknown options before ps n (other ∷ ws) e is = cc
unknown options before ps n (plain v ∷ ws) e is =
    let some = with_pair_some n v (pairs_from None ws) ps is in
    rw (some.2, e) refl

once_fails : (options : List Text) (before qs : List Pair) (n v : Text) → (is_option options n && not (has_name before n)) ≡ false
    → are_options_once options before (pair n v ∷ qs) ≡ false
once_fails options before qs n v e = rw e refl

once_goes : (options : List Text) (before qs : List Pair) (p : Pair) → is_option options p.name ≡ true → has_name before p.name ≡ false
    → are_options_once options before (p ∷ qs) ≡ are_options_once options (before ++ p ∷ []) qs
once_goes options before qs p e absent = rw (e, absent) refl

-- ---- a word at rest

module _ (options : List Text) (r : List Row) (pending : Option (Text × List Text)) (before : List Pair) (settles : settle_at options r pending (rows before)) (word : Text) (rest : List Text) (more : Walks options rest) where
  at_rest : (x : Word) (ps : List Pair) → Reads word x → pairs_from None (x ∷ map word_of rest) ≡ Some ps → Passes options (walk_of r pending (waiting_at fresh)) (word ∷ rest) before ps
  at_rest (plain v) ps is e = cc
  at_rest other ps is e = cc
  at_rest (joined n v) ps is e =
      let some = with_pair_some n v (pairs_from None (map word_of rest)) ps e in
      let turn = joined_turn options r pending before settles word n v is in
      subst (λ qs. Passes options (walk_of r pending (waiting_at fresh)) (word ∷ rest) before qs) (sym some.2) (go some.0 some.1 turn (is_option options n) (has_name before n) refl refl)
    where
      go : (qs : List Pair) → pairs_from None (map word_of rest) ≡ Some qs
          → none (turn_fault (shape_with options) [] (walk_of r pending (waiting_at fresh)) word) ≡ (is_option options n && not (has_name before n))
          → (a b : Bool) → is_option options n ≡ a → has_name before n ≡ b
          → Passes options (walk_of r pending (waiting_at fresh)) (word ∷ rest) before (pair n v ∷ qs)
      go qs is_qs turn true false ea eb =
          let here : none (turn_fault (shape_with options) [] (walk_of r pending (waiting_at fresh)) word) ≡ true = turn ∙ ap₂ (λ a b. a && not b) ea eb in
          passes_on options _ (walk_at (before ++ pair n v ∷ []) fresh) word rest before (before ++ pair n v ∷ []) (pair n v ∷ qs) qs here
          (joined_next options r pending before settles word n v is ea eb)
          (once_goes options before qs (pair n v) ea eb) (append_assoc before (pair n v ∷ []) qs)
          (more fresh (before ++ pair n v ∷ []) qs tt is_qs)
      go qs is_qs turn true true ea eb =
          let no : (is_option options n && not (has_name before n)) ≡ false = ap₂ (λ a b. a && not b) ea eb in
          fails options _ word rest before (pair n v ∷ qs) (turn ∙ no) (once_fails options before qs n v no)
      go qs is_qs turn false b ea eb =
          let no : (is_option options n && not (has_name before n)) ≡ false = ap (λ a. a && not (has_name before n)) ea in
          fails options _ word rest before (pair n v ∷ qs) (turn ∙ no) (once_fails options before qs n v no)
  at_rest (named n) ps is e = go (is_option options n) refl
    where
      go : (a : Bool) → is_option options n ≡ a → Passes options (walk_of r pending (waiting_at fresh)) (word ∷ rest) before ps
      go true ea =
          passes_on options _ (walk_at before (waits n)) word rest before before ps ps
          (named_turn options r pending before settles word n is ∙ ea)
          (named_next options r pending before settles word n is ea)
          refl refl (more (waits n) before ps ea e)
      go false ea =
          fails options _ word rest before ps (named_turn options r pending before settles word n is ∙ ea)
          (unknown options before ps n (map word_of rest) ea e)

-- ---- a word after a value that is not settled, and clashes

module _ (options : List Text) (before : List Pair) (p : Pair) (known : is_option options p.name ≡ true) (there : has_name before p.name ≡ true) (word : Text) (rest : List Text) where
  at_clash : (x : Word) (ps : List Pair) → Reads word x → pairs_from None (x ∷ map word_of rest) ≡ Some ps → Passes options (walk_at before (full p)) (word ∷ rest) before (p ∷ ps)
  at_clash (plain v) ps is e = cc
  at_clash other ps is e = cc
  at_clash (joined n v) ps is e =
      fails options _ word rest before (p ∷ ps)
      (joined_clash options (rows before) (pending_at (full p)) (full_clashes options before p known there) word n v is)
      (once_fails options before ps p.name p.value (ap₂ (λ a b. a && not b) known there))
  at_clash (named n) ps is e =
      fails options _ word rest before (p ∷ ps)
      (named_clash options (rows before) (pending_at (full p)) (full_clashes options before p known there) word n is)
      (once_fails options before ps p.name p.value (ap₂ (λ a b. a && not b) known there))

-- ---- a word that is a value

module _ (options : List Text) (before : List Pair) (n : Text) (known : is_option options n ≡ true) (word : Text) (rest : List Text) (more : Walks options rest) where
  at_value : (x : Word) (ps : List Pair) → Reads word x → pairs_from (Some n) (x ∷ map word_of rest) ≡ Some ps → Passes options (walk_at before (waits n)) (word ∷ rest) before ps
  at_value (joined m v) ps is e = cc
  at_value (named m) ps is e = cc
  at_value other ps is e = cc
  at_value (plain v) ps is e =
      let some = with_pair_some n v (pairs_from None (map word_of rest)) ps e in
      let reads_word : Reads word (plain word) = (refl, is.1, is.2, is.3) in
      let value : pair n word ∷ some.0 ≡ ps = ap (λ t. pair n t ∷ some.0) is.0 ∙ sym some.2 in
      subst (λ qs. Passes options (walk_at before (waits n)) (word ∷ rest) before qs) value
      (passes_on options _ (walk_at before (full (pair n word))) word rest before before (pair n word ∷ some.0) (pair n word ∷ some.0)
      (ap none (plain_turn options before n word reads_word))
      (plain_next options before n word reads_word known)
      refl refl (more (full (pair n word)) before some.0 known some.1))

-- ---- all the words

walks_end : (options : List Text) → Walks options []
unfolding walk_fault
walks_end options fresh before ps known e =
    let nil : [] ≡ ps = cc in
    subst (λ qs. Passes options (walk_at before fresh) [] before qs) nil
    (record { test = refl; rows_are = λ once. ap rows (sym (append-nil before)) })
walks_end options (full p) before ps known e =
    let nil : [] ≡ ps = cc in
    subst (λ qs. Passes options (walk_at before (full p)) [] before (p ∷ qs)) nil (go (has_name before p.name) refl)
  where
    go : (b : Bool) → has_name before p.name ≡ b → Passes options (walk_at before (full p)) [] before (p ∷ [])
    go true eb =
        let never = once_fails options before [] p.name p.value (ap₂ (λ a b. a && not b) known eb) in
        record {
          test = full_clashes options before p known eb ∙ sym never;
          rows_are = λ once. let bad : true ≡ false = sym once ∙ never in absurd cc;
        }
    go false eb =
        let settles = full_settles options before p known eb in
        record {
          test = ap none settles.0 ∙ sym (once_goes options before [] p known eb);
          rows_are = λ once. settles.1;
        }
walks_end options (waits n) before ps known e = cc

walks_more : (options : List Text) (word : Text) (rest : List Text) → Walks options rest → Walks options (word ∷ rest)
walks_more options word rest more fresh before ps known e =
    at_rest options (rows before) None before (refl, refl) word rest more (word_of word) ps (reads word) e
walks_more options word rest more (waits n) before ps known e =
    at_value options before n known word rest more (word_of word) ps (reads word) e
walks_more options word rest more (full p) before ps known e = go (has_name before p.name) refl
  where
    go : (b : Bool) → has_name before p.name ≡ b → Passes options (walk_at before (full p)) (word ∷ rest) before (p ∷ ps)
    go true eb = at_clash options before p known eb word rest (word_of word) ps (reads word) e
    go false eb =
        let now = before ++ p ∷ [] in
        let there = at_rest options (rows before) (pending_at (full p)) now (full_settles options before p known eb) word rest more (word_of word) ps (reads word) e in
        let same = once_goes options before ps p known eb in
        record {
          test = there.test ∙ sym same;
          rows_are = λ once. there.rows_are (sym same ∙ once) ∙ ap rows (append_assoc before (p ∷ []) ps);
        }

pub walks : (options words : List Text) → Walks options words
walks options [] = walks_end options
walks options (word ∷ rest) = walks_more options word rest (walks options rest)
