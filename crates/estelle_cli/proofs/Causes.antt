-- An input that is what it is to be is none to refuse, and one that is refused has one reason.
use Rattle.std.proofs.Common.{◌≡◌, ℕ, ◌≤◌, false, List, length, drop, Option, Some, None, Result, Ok, Err, sym, ap, ◌∙◌, subst, refl, arith}
use Rattle.std.specs.Prelude.{IfSome, IsSomeAnd, IsNone}
use Rattle.std.proofs.lemmas.Bool.Decides.{nat_tests}
use Rattle.estelle_tree.specs.declared.token.Placed.{Placed}
use Rattle.estelle_tree.specs.declared.tree.specification.Spec.{Spec}
use Rattle.estelle_tree.specs.Input.{first_start}
use Rattle.estelle_tree.specs.Spells.{Spells}
use Rattle.estelle_parser.specs.Answers.{IsFirstRefused}
use Rattle.estelle_parser.proofs.Whole as parser
use Rattle.estelle_lexer.specs.Blank.{other_from}
use Rattle.estelle_lexer.proofs.Answers.{one_list, one_error, not_both}
use Rattle.estelle_lexer.proofs.Blanks.{answer_blank, answer_other}
use Rattle.scope_rules.specs.declared.refusal.Breach.{Breach}
use Rattle.scope_rules.specs.Least.{is_before, IsLeast}
use Rattle.spec_accept.specs.Rules.{RuleBroken}
use Rattle.estelle_model.specs.declared.event.Event.{Event}
use Rattle.estelle_model.specs.declared.event.End.{End}
use Rattle.trace_text.specs.Readings.{IsTrace, IsBadLine}
use Rattle.trace_text.proofs.TraceLemmas.{one_run, one_bad_line, no_trace_is_bad}
use Rattle.trace_check.specs.Judging.{IsRunTo, IsFirstWrong}
use Rattle.estelle_cli.specs.declared.contents.Contents.{Contents}
use Rattle.estelle_cli.specs.declared.contents.Contents.TheVariants.{Alone, Traced}
use Rattle.estelle_cli.specs.declared.outcome.Place.{Place}
use Rattle.estelle_cli.specs.declared.outcome.Refusal.{Refusal}
use Rattle.estelle_cli.specs.declared.outcome.Refusal.TheVariants.{TooLong, Bytes, TextAfterEnd, Syntax, Rule, BadTraceLine, NotARun}
use Rattle.estelle_cli.specs.Input.{input_limit, subject, behind_line, IsEnded, IsOther, HasTokens, IsTextOf, Reads, HasTrace, Tells, Replays, IsInput, HasNoTokens, HasTextAfterEnd, HasNoTree, HasNoTreeAt, BreaksRule, HasBadLine, HasWrongEntry, Refuses, IsRefusable, place_of}
use Rattle.estelle_cli.specs.declared.outcome.Close.{Close}
use Rattle.estelle_cli.specs.declared.task.Task.{Task}
use Rattle.estelle_cli.specs.declared.task.Task.TheVariants.{Run, Check, Show, Code, Replay, Make, Trial}
use Rattle.estelle_cli.specs.Tasks.{ReadsInput, contents_of}
use Rattle.estelle_cli.specs.Answers.{IsOutput}
use Rattle.estelle_cli.proofs.Entries.{run_or_wrong, one_wrong}

none_some : (r : Option ℕ) (at : ℕ) → IsNone r → r ≡ Some at → ⊥
none_some None at none some = cc
none_some (Some place) at none some = cc

some_same : (r : Option ℕ) (at other : ℕ) → r ≡ Some at → r ≡ Some other → at ≡ other
some_same r at other e f = let some : Some at ≡ Some other = sym e ∙ f in cc

ok_same : (r : Result ℕ ℕ) (at other : ℕ) → r ≡ Ok at → r ≡ Ok other → at ≡ other
ok_same r at other e f = let ok : ◌≡◌ {A = Result ℕ ℕ} (Ok at) (Ok other) = sym e ∙ f in cc

err_same : (r : Result ℕ ℕ) (at other : ℕ) → r ≡ Err at → r ≡ Err other → at ≡ other
err_same r at other e f = let err : ◌≡◌ {A = Result ℕ ℕ} (Err at) (Err other) = sym e ∙ f in cc

ok_or_err : (r : Result ℕ ℕ) (at other : ℕ) → r ≡ Ok at → r ≡ Err other → ⊥
ok_or_err r at other e f = let both : ◌≡◌ {A = Result ℕ ℕ} (Ok at) (Err other) = sym e ∙ f in cc

-- ---- behind the specification

module _ (input : List ℕ) where
  abbrev found : ℕ → Option ℕ
  found rest = other_from (length (drop rest input)) rest (drop rest input)

  ended_or_other : (contents : Contents) (rest at : ℕ) → IsEnded contents input rest → IsOther contents input rest at → ⊥
  ended_or_other Alone rest at blank other =
      none_some (found rest) at ((answer_blank (drop rest input) rest (found rest) refl).1 blank) ((answer_other (drop rest input) rest (found rest) refl at).1 other)
  ended_or_other (Traced budget) rest at ended other = ok_or_err (behind_line rest (drop rest input)) ended.0 at ended.1 other

  one_other : (contents : Contents) (rest at other : ℕ) → IsOther contents input rest at → IsOther contents input rest other → at ≡ other
  one_other Alone rest at other h g =
      some_same (found rest) at other ((answer_other (drop rest input) rest (found rest) refl at).1 h) ((answer_other (drop rest input) rest (found rest) refl other).1 g)
  one_other (Traced budget) rest at other h g = err_same (behind_line rest (drop rest input)) at other h g

  one_trace : (t u : List ℕ) → HasTrace input t → HasTrace input u → t ≡ u
  one_trace t u a b =
      let rest = (one_list input a.tokens b.tokens a.rest b.rest a.lexed b.lexed).1 in
      let there : behind_line b.rest (drop b.rest input) ≡ Ok a.at = subst (λ (r : ℕ). behind_line r (drop r input) ≡ Ok a.at) rest a.separated in
      let at = ok_same (behind_line b.rest (drop b.rest input)) a.at b.at there b.separated in
      a.is ∙ ap (λ k. drop k input) at ∙ sym b.is

-- ---- what a text has one of

module _ (contents : Contents) (input : List ℕ) where
  same_tokens : (ts us : List Placed) → HasTokens contents input ts → HasTokens contents input us → ts ≡ us
  same_tokens ts us a b = (one_list input ts us a.rest b.rest a.lexed b.lexed).0

  tokens_or_none : (ts : List Placed) (p : Place) → HasTokens contents input ts → HasNoTokens contents input p → ⊥
  tokens_or_none ts p a b = not_both input ts a.rest b.at a.lexed b.error

  text_or_none : (p q : Place) → HasTextAfterEnd contents input p → HasNoTokens contents input q → ⊥
  text_or_none p q a b = not_both input a.tokens a.rest b.at a.lexed b.error

  tokens_or_text : (ts : List Placed) (p : Place) → HasTokens contents input ts → HasTextAfterEnd contents input p → ⊥
  tokens_or_text ts p a b =
      let rest = (one_list input ts b.tokens a.rest b.rest a.lexed b.lexed).1 in
      ended_or_other input contents b.rest b.at (subst (IsEnded contents input) rest a.ended) b.other

  tree_or_none : (spec : Spec) → IsTextOf contents input spec → HasNoTree contents input → ⊥
  tree_or_none spec a b = b.none spec (subst (Spells spec) (same_tokens a.tokens b.tokens a.read b.read) a.spells)

  one_place : (p q : Place) → HasNoTokens contents input p → HasNoTokens contents input q → p ≡ q
  one_place p q a b = a.place ∙ ap (place_of input) (one_error input a.at b.at a.error b.error) ∙ sym b.place

  one_text : (p q : Place) → HasTextAfterEnd contents input p → HasTextAfterEnd contents input q → p ≡ q
  one_text p q a b =
      let rest = (one_list input a.tokens b.tokens a.rest b.rest a.lexed b.lexed).1 in
      a.place ∙ ap (place_of input) (one_other input contents b.rest a.at b.at (subst (λ r. IsOther contents input r a.at) rest a.other) b.other) ∙ sym b.place

  one_stop : (p q : Place) → HasNoTreeAt contents input p → HasNoTreeAt contents input q → p ≡ q
  one_stop p q a b =
      let same = one_list input a.text.tokens b.text.tokens a.rest b.rest a.lexed b.lexed in
      let number = parser.one_place b.text.tokens a.before b.before (subst (λ ts. IsFirstRefused ts a.before) same.0 a.first) b.first in
      let there : first_start a.rest (drop a.before a.text.tokens) ≡ first_start b.rest (drop b.before b.text.tokens) = cc in
      a.place ∙ ap (place_of input) there ∙ sym b.place

-- a list of tokens is spelled by one specification at most
abbrev pub OneTree : Type 0
OneTree = (s t : Spec) (tokens : List Placed) → Spells s tokens → Spells t tokens → s ≡ t

same_tree : OneTree → (contents : Contents) (input : List ℕ) (s t : Spec) → IsTextOf contents input s → IsTextOf contents input t → s ≡ t
same_tree one contents input s t a b =
    let tokens = same_tokens contents input a.tokens b.tokens a.read b.read in
    one s t b.tokens (subst (Spells s) tokens a.spells) b.spells

-- ---- the least broken rule

-- no breach is reported rather than one that is reported, so of two such the rules are the same, and the places
same_breach : (a b : Breach) → is_before a b ≡ false → is_before b a ≡ false → (a.number ≡ b.number) × (a.span.start ≡ b.span.start)
same_breach a b h g = (grind (arith, nat_tests), grind (arith, nat_tests))

one_breach : (P : Breach → Type 0) (a b : Breach) → IsLeast P a → IsLeast P b → (a.number ≡ b.number) × (a.span.start ≡ b.span.start)
one_breach P a b h g = same_breach a b (g.first a h.broken) (h.first b g.broken)

one_rule : (one : OneTree) (contents : Contents) (input : List ℕ) (n m : ℕ) (p q : Place) → BreaksRule contents input n p → BreaksRule contents input m q → ◌≡◌ {A = Refusal} (Rule n p) (Rule m q)
one_rule one contents input n m p q a b =
    let tree = same_tree one contents input a.spec b.spec a.text b.text in
    let same = one_breach (RuleBroken b.spec) a.breach b.breach (subst (λ u. IsLeast (RuleBroken u) a.breach) tree a.least) b.least in
    let number : n ≡ m = sym a.rule ∙ same.0 ∙ b.rule in
    let place : p ≡ q = a.place ∙ ap (place_of input) same.1 ∙ sym b.place in
    ap (λ k. Rule k p) number ∙ ap (λ r. Rule m r) place

-- ---- traces

module _ (input : List ℕ) where
  no_bad_line : (trace other : List ℕ) (events : List Event) (e : End) (line : ℕ) → HasTrace input trace → IsTrace trace events e → HasTrace input other → IsBadLine other line → ⊥
  no_bad_line trace other events e line a told b bad = no_trace_is_bad other events e line (subst (λ (t : List ℕ). IsTrace t events e) (one_trace input trace other a b) told) bad

  one_line : (contents : Contents) (n m : ℕ) → HasBadLine contents input n → HasBadLine contents input m → n ≡ m
  one_line Alone n m a b = absurd a
  one_line (Traced budget) n m a b = one_bad_line b.trace n m (subst (λ (t : List ℕ). IsBadLine t n) (one_trace input a.trace b.trace a.behind b.behind) a.bad) b.bad

  line_or_entry : (contents : Contents) (line entry : ℕ) → HasBadLine contents input line → HasWrongEntry contents input entry → ⊥
  line_or_entry Alone line entry a b = absurd a
  line_or_entry (Traced budget) line entry a b = no_bad_line b.tells.trace a.trace b.events b.e line b.tells.behind b.tells.told a.behind a.bad

  -- what an input tells of is one run of one specification
  one_told : (one : OneTree) (budget : ℕ) (s t : Spec) (events others : List Event) (e other : End) → Tells budget input s events e → Tells budget input t others other → (s ≡ t) × (events ≡ others) × (e ≡ other)
  one_told one budget s t events others e other a b =
      let trace = one_trace input a.trace b.trace a.behind b.behind in
      let run = one_run b.trace events others e other (subst (λ (u : List ℕ). IsTrace u events e) trace a.told) b.told in
      (same_tree one (Traced budget) input s t a.reads.text b.reads.text, run.0, run.1)

  -- so what is said of it holds of each reading
  as_told : (one : OneTree) (budget : ℕ) (P : Spec → List Event → End → Type 0) (s t : Spec) (events others : List Event) (e other : End) → Tells budget input s events e → Tells budget input t others other → P s events e → P t others other
  as_told one budget P s t events others e other a b h =
      let same = one_told one budget s t events others e other a b in
      subst (P t others) same.2 (subst (λ (es : List Event). P t es e) same.1 (subst (λ (u : Spec). P u events e) same.0 h))

  one_entry : (one : OneTree) (contents : Contents) (n m : ℕ) → HasWrongEntry contents input n → HasWrongEntry contents input m → n ≡ m
  one_entry one Alone n m a b = absurd a
  one_entry one (Traced budget) n m a b =
      let wrong = as_told one budget (λ s events e. IsFirstWrong (subject s) budget events e n) a.spec b.spec a.events b.events a.e b.e a.tells b.tells a.wrong in
      one_wrong (subject b.spec) budget b.events b.e wrong b.wrong

  run_or_entry : (one : OneTree) (budget count entry : ℕ) → Replays budget input count → HasWrongEntry (Traced budget) input entry → ⊥
  run_or_entry one budget count entry a b =
      let run = as_told one budget (λ s events e. IsRunTo (subject s) budget events e) a.specification b.spec a.events b.events a.e b.e a.tells b.tells a.run in
      run_or_wrong (subject b.spec) budget b.events b.e entry run b.wrong

-- ---- what is read

-- the input, or its front, is a specification that keeps all rules
record IsRead (contents : Contents) (input : List ℕ) : Type 0 where
  pub spec : Spec
  pub reads : Reads contents input spec

line_read : (contents : Contents) (input : List ℕ) (n : ℕ) → HasBadLine contents input n → IsRead contents input
line_read Alone input n h = absurd h
line_read (Traced budget) input n h = record { spec = h.spec; reads = h.reads }

entry_read : (contents : Contents) (input : List ℕ) (n : ℕ) → HasWrongEntry contents input n → IsRead contents input
entry_read Alone input n h = absurd h
entry_read (Traced budget) input n h = record { spec = h.spec; reads = h.tells.reads }

input_read : (contents : Contents) (input : List ℕ) → IsInput contents input → IsRead contents input
input_read Alone input h = record { spec = h.0; reads = h.1 }
input_read (Traced budget) input h = record { spec = h.1.specification; reads = h.1.tells.reads }

module _ (one : OneTree) (contents : Contents) (input : List ℕ) (h : IsRead contents input) where
  not_long : length input ≤ input_limit contents
  not_long = h.reads.text.read.within

  read_or_bytes : (p : Place) → HasNoTokens contents input p → ⊥
  read_or_bytes p = tokens_or_none contents input h.reads.text.tokens p h.reads.text.read

  read_or_text : (p : Place) → HasTextAfterEnd contents input p → ⊥
  read_or_text p = tokens_or_text contents input h.reads.text.tokens p h.reads.text.read

  read_or_tree : HasNoTree contents input → ⊥
  read_or_tree = tree_or_none contents input h.spec h.reads.text

  read_or_rule : (n : ℕ) (p : Place) → BreaksRule contents input n p → ⊥
  read_or_rule n p b =
      let tree = same_tree one contents input b.spec h.spec b.text h.reads.text in
      h.reads.kept b.breach (subst (λ u. RuleBroken u b.breach) tree b.least.broken)

-- ---- one reason

module _ (one : OneTree) (contents : Contents) (input : List ℕ) where
  pub one_refusal : (r s : Refusal) → Refuses contents r input → Refuses contents s input → r ≡ s
  one_refusal TooLong TooLong a b = refl
  one_refusal TooLong (Bytes q) a b = absurd (let w = b.within in omega arith)
  one_refusal TooLong (TextAfterEnd q) a b = absurd (let w = b.within in omega arith)
  one_refusal TooLong (Syntax q) a b = absurd (let w = b.text.read.within in omega arith)
  one_refusal TooLong (Rule m q) a b = absurd (let w = b.text.read.within in omega arith)
  one_refusal TooLong (BadTraceLine m) a b = absurd (let w = not_long one contents input (line_read contents input m b) in omega arith)
  one_refusal TooLong (NotARun m) a b = absurd (let w = not_long one contents input (entry_read contents input m b) in omega arith)
  one_refusal (Bytes p) TooLong a b = absurd (let w = a.within in omega arith)
  one_refusal (Bytes p) (Bytes q) a b = ap (λ p. Bytes p) (one_place contents input p q a b)
  one_refusal (Bytes p) (TextAfterEnd q) a b = absurd (text_or_none contents input q p b a)
  one_refusal (Bytes p) (Syntax q) a b = absurd (tokens_or_none contents input b.text.tokens p b.text.read a)
  one_refusal (Bytes p) (Rule m q) a b = absurd (tokens_or_none contents input b.text.tokens p b.text.read a)
  one_refusal (Bytes p) (BadTraceLine m) a b = absurd (read_or_bytes one contents input (line_read contents input m b) p a)
  one_refusal (Bytes p) (NotARun m) a b = absurd (read_or_bytes one contents input (entry_read contents input m b) p a)
  one_refusal (TextAfterEnd p) TooLong a b = absurd (let w = a.within in omega arith)
  one_refusal (TextAfterEnd p) (Bytes q) a b = absurd (text_or_none contents input p q a b)
  one_refusal (TextAfterEnd p) (TextAfterEnd q) a b = ap (λ p. TextAfterEnd p) (one_text contents input p q a b)
  one_refusal (TextAfterEnd p) (Syntax q) a b = absurd (tokens_or_text contents input b.text.tokens p b.text.read a)
  one_refusal (TextAfterEnd p) (Rule m q) a b = absurd (tokens_or_text contents input b.text.tokens p b.text.read a)
  one_refusal (TextAfterEnd p) (BadTraceLine m) a b = absurd (read_or_text one contents input (line_read contents input m b) p a)
  one_refusal (TextAfterEnd p) (NotARun m) a b = absurd (read_or_text one contents input (entry_read contents input m b) p a)
  one_refusal (Syntax p) TooLong a b = absurd (let w = a.text.read.within in omega arith)
  one_refusal (Syntax p) (Bytes q) a b = absurd (tokens_or_none contents input a.text.tokens q a.text.read b)
  one_refusal (Syntax p) (TextAfterEnd q) a b = absurd (tokens_or_text contents input a.text.tokens q a.text.read b)
  one_refusal (Syntax p) (Syntax q) a b = ap Syntax (one_stop contents input p q a b)
  one_refusal (Syntax p) (Rule m q) a b = absurd (tree_or_none contents input b.spec b.text a.text)
  one_refusal (Syntax p) (BadTraceLine m) a b = absurd (read_or_tree one contents input (line_read contents input m b) a.text)
  one_refusal (Syntax p) (NotARun m) a b = absurd (read_or_tree one contents input (entry_read contents input m b) a.text)
  one_refusal (Rule n p) TooLong a b = absurd (let w = a.text.read.within in omega arith)
  one_refusal (Rule n p) (Bytes q) a b = absurd (tokens_or_none contents input a.text.tokens q a.text.read b)
  one_refusal (Rule n p) (TextAfterEnd q) a b = absurd (tokens_or_text contents input a.text.tokens q a.text.read b)
  one_refusal (Rule n p) (Syntax q) a b = absurd (tree_or_none contents input a.spec a.text b.text)
  one_refusal (Rule n p) (Rule m q) a b = one_rule one contents input n m p q a b
  one_refusal (Rule n p) (BadTraceLine m) a b = absurd (read_or_rule one contents input (line_read contents input m b) n p a)
  one_refusal (Rule n p) (NotARun m) a b = absurd (read_or_rule one contents input (entry_read contents input m b) n p a)
  one_refusal (BadTraceLine n) TooLong a b = absurd (let w = not_long one contents input (line_read contents input n a) in omega arith)
  one_refusal (BadTraceLine n) (Bytes q) a b = absurd (read_or_bytes one contents input (line_read contents input n a) q b)
  one_refusal (BadTraceLine n) (TextAfterEnd q) a b = absurd (read_or_text one contents input (line_read contents input n a) q b)
  one_refusal (BadTraceLine n) (Syntax q) a b = absurd (read_or_tree one contents input (line_read contents input n a) b.text)
  one_refusal (BadTraceLine n) (Rule m q) a b = absurd (read_or_rule one contents input (line_read contents input n a) m q b)
  one_refusal (BadTraceLine n) (BadTraceLine m) a b = ap (λ k. BadTraceLine k) (one_line input contents n m a b)
  one_refusal (BadTraceLine n) (NotARun m) a b = absurd (line_or_entry input contents n m a b)
  one_refusal (NotARun n) TooLong a b = absurd (let w = not_long one contents input (entry_read contents input n a) in omega arith)
  one_refusal (NotARun n) (Bytes q) a b = absurd (read_or_bytes one contents input (entry_read contents input n a) q b)
  one_refusal (NotARun n) (TextAfterEnd q) a b = absurd (read_or_text one contents input (entry_read contents input n a) q b)
  one_refusal (NotARun n) (Syntax q) a b = absurd (read_or_tree one contents input (entry_read contents input n a) b.text)
  one_refusal (NotARun n) (Rule m q) a b = absurd (read_or_rule one contents input (entry_read contents input n a) m q b)
  one_refusal (NotARun n) (BadTraceLine m) a b = absurd (line_or_entry input contents m n b a)
  one_refusal (NotARun n) (NotARun m) a b = ap (λ k. NotARun k) (one_entry input one contents n m a b)

-- ---- the task that is asked for

-- what holds of it
pub at_task : (o : Option Task) (task : Task) (P : Task → Type 0) → Some task ≡ o → P task → IfSome o P
at_task o task P e h = subst (λ (u : Option Task). IfSome u P) e h

-- what it has
pub of_task : (o : Option Task) (task : Task) (P : Task → Type 0) → Some task ≡ o → IsSomeAnd o P → P task
of_task o task P e h = subst (λ (u : Option Task). IsSomeAnd u P) (sym e) h

pub none_asked : (o : Option Task) (P : Task → Type 0) → None ≡ o → IsSomeAnd o P → ⊥
none_asked o P e h = subst (λ (u : Option Task). IsSomeAnd u P) (sym e) h

pub and_task : (o : Option Task) (task : Task) (P : Task → Type 0) → Some task ≡ o → P task → IsSomeAnd o P
and_task o task P e h = subst (λ (u : Option Task). IsSomeAnd u P) e h

-- ---- an input of which something is written

refusable : (contents : Contents) (r : Refusal) (input : List ℕ) → Refuses contents r input → IsRefusable contents r input
refusable contents TooLong input h = h
refusable contents (Bytes p) input h = h
refusable contents (TextAfterEnd p) input h = h
refusable contents (Syntax p) input h = h.text
refusable contents (Rule n p) input h = h
refusable contents (BadTraceLine line) input h = h
refusable contents (NotARun entry) input h = h

module _ (one : OneTree) where
  input_or_line : (contents : Contents) (input : List ℕ) (line : ℕ) → IsInput contents input → HasBadLine contents input line → ⊥
  input_or_line Alone input line a b = b
  input_or_line (Traced budget) input line a b = no_bad_line input a.1.tells.trace b.trace a.1.events a.1.e line a.1.tells.behind a.1.tells.told b.behind b.bad

  input_or_entry : (contents : Contents) (input : List ℕ) (entry : ℕ) → IsInput contents input → HasWrongEntry contents input entry → ⊥
  input_or_entry Alone input entry a b = b
  input_or_entry (Traced budget) input entry a b = run_or_entry input one budget a.0 entry a.1 b

  input_or_refused : (contents : Contents) (r : Refusal) (input : List ℕ) → IsInput contents input → IsRefusable contents r input → ⊥
  input_or_refused contents TooLong input a b = let w = not_long one contents input (input_read contents input a) in omega arith
  input_or_refused contents (Bytes q) input a b = read_or_bytes one contents input (input_read contents input a) q b
  input_or_refused contents (TextAfterEnd q) input a b = read_or_text one contents input (input_read contents input a) q b
  input_or_refused contents (Syntax q) input a b = read_or_tree one contents input (input_read contents input a) b
  input_or_refused contents (Rule n p) input a b = read_or_rule one contents input (input_read contents input a) n p b
  input_or_refused contents (BadTraceLine line) input a b = input_or_line contents input line a b
  input_or_refused contents (NotARun entry) input a b = input_or_entry contents input entry a b

  at_some : (P : List ℕ → Type 0) (left : Option (List ℕ)) (input : List ℕ) → left ≡ Some input → IfSome left P → P input
  at_some P left input e h = let Q : Option (List ℕ) → Type 0 = λ o. IfSome o P in subst Q e h

  alone_refused : (left : Option (List ℕ)) (t : Spec) → IfSome left (λ bytes. Reads Alone bytes t) → (r : Refusal) (input : List ℕ) → left ≡ Some input → IsRefusable Alone r input → ⊥
  alone_refused left t reads r input is refuses = input_or_refused Alone r input (t, at_some (λ i. Reads Alone i t) left input is reads) refuses

  -- an input of which something is written is none to refuse
  pub output_refused : (is_chosen : ℕ → Type 0) (task : Task) (clock : Option ℕ) (left : Option (List ℕ)) (c : Close) (text : List ℕ) → IsOutput is_chosen task clock left c text → (r : Refusal) (input : List ℕ) → left ≡ Some input → ReadsInput task × IsRefusable (contents_of task) r input → ⊥
  output_refused is_chosen (Run limits seed workers) clock left c text h r input is refuses = alone_refused left h.2.specification h.2.input r input is refuses.1
  output_refused is_chosen Check clock left c text h r input is refuses = alone_refused left h.1.specification h.1.input r input is refuses.1
  output_refused is_chosen Show clock left c text h r input is refuses = alone_refused left h.1.specification h.1.input r input is refuses.1
  output_refused is_chosen Code clock left c text h r input is refuses = alone_refused left h.1.specification h.1.input r input is refuses.1
  output_refused is_chosen (Replay budget) clock left c text h r input is refuses =
      input_or_refused (Traced budget) r input (h.1.count, at_some (λ i. Replays budget i h.1.count) left input is h.1.input) refuses.1
  output_refused is_chosen (Make n) clock left c text h r input is refuses = absurd refuses.0
  output_refused is_chosen (Trial n limits seed) clock left c text h r input is refuses = absurd refuses.0

  -- and one that is what it is to be is not refused
  pub refused_input : (contents : Contents) (left : Option (List ℕ)) (r : Refusal) (input : List ℕ) → IfSome left (Refuses contents r) → left ≡ Some input → IsInput contents input → ⊥
  refused_input contents left r input h is right = input_or_refused contents r input right (refusable contents r input (at_some (Refuses contents r) left input is h))
