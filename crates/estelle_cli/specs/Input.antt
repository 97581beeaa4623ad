-- Which inputs are what a task takes, and which are refused.
use Rattle.std.specs.Prelude.{◌≡◌, ℕ, ◌+◌, ◌<◌, ◌≤◌, Bool, ◌==◌, ◌||◌, if◌then◌else◌, List, [], ◌∷◌, length, drop, Option, IfSome, Result, Ok, Err}
use Rattle.std.specs.Io.KnownBytes.{Consumes}
use Rattle.outside.specs.Counts.{Rose}
use Rattle.estelle_tree.specs.declared.token.Placed.{Placed}
use Rattle.estelle_tree.specs.declared.tree.specification.Spec.{Spec}
use Rattle.estelle_tree.specs.Input.{first_start}
use Rattle.estelle_tree.specs.Lexed.{IsLexed, IsLexicalErrorAt, IsBlankFrom, IsFirstOther}
use Rattle.estelle_tree.specs.Spells.{Spells}
use Rattle.estelle_parser.specs.Answers.{IsFirstRefused}
use Rattle.estelle_lexer.specs.Place.{line_of, column_of}
use Rattle.scope_rules.specs.declared.refusal.Breach.{Breach}
use Rattle.scope_rules.specs.Least.{IsLeast}
use Rattle.scope_rules.specs.NameRules.{names_of}
use Rattle.spec_accept.specs.Rules.{RuleBroken}
use Rattle.estelle_model.specs.declared.event.Event.{Event}
use Rattle.estelle_model.specs.declared.event.End.{End}
use Rattle.estelle_model.specs.Subject.{Subject}
use Rattle.trace_text.specs.Readings.{IsTrace as IsTraceText, IsBadLine}
use Rattle.trace_check.specs.Judging.{IsRunTo, IsFirstWrong}
use Rattle.estelle_cli.specs.declared.contents.Contents.{Contents}
use Rattle.estelle_cli.specs.declared.contents.Contents.TheVariants.{Alone, Traced}
use Rattle.estelle_cli.specs.declared.outcome.Place.{Place}
use Rattle.estelle_cli.specs.declared.outcome.Refusal.{Refusal}
use Rattle.estelle_cli.specs.declared.outcome.Refusal.TheVariants.{TooLong, Bytes, TextAfterEnd, Syntax, Rule, BadTraceLine, NotARun}
use Rattle.estelle_cli.specs.declared.outcome.Stop.{Stop}
use Rattle.estelle_cli.specs.declared.outcome.Stop.TheVariants as stop

-- the longest input
abbrev pub input_limit : Contents → ℕ
input_limit Alone = 1048576
input_limit (Traced budget) = 67108864

-- ---- behind the specification

-- a space, a tab or a CR
abbrev pub is_space : ℕ → Bool
is_space b = b == 32 || (b == 9 || b == 13)

-- the place behind the LF in front of which only spaces, tabs and CR stand; else that of the first other byte, or of the end
abbrev pub behind_line : ℕ → List ℕ → Result ℕ ℕ
behind_line at [] = Err at
behind_line at (b ∷ bytes) = if b == 10 then Ok (at + 1) else (if is_space b then behind_line (at + 1) bytes else Err at)

-- the line in which the specification ends is over at the second place, and has only spaces, tabs and CR from the first place on
abbrev pub IsSeparated : List ℕ → ℕ → ℕ → Type 0
IsSeparated input rest at = behind_line rest (drop rest input) ≡ Ok at

-- the second place is the first, from the other one on, at which that line has another byte, or the input ends
abbrev pub IsUnseparated : List ℕ → ℕ → ℕ → Type 0
IsUnseparated input rest at = behind_line rest (drop rest input) ≡ Err at

-- behind the specification stands no more than is to
abbrev pub IsEnded : Contents → List ℕ → ℕ → Type 0
IsEnded Alone input rest = IsBlankFrom input rest
IsEnded (Traced budget) input rest = (at : ℕ) × IsSeparated input rest at

-- something else stands there first
abbrev pub IsOther : Contents → List ℕ → ℕ → ℕ → Type 0
IsOther Alone input rest at = IsFirstOther input rest at
IsOther (Traced budget) input rest at = IsUnseparated input rest at

-- ---- specifications

-- The input is not too long, and is cut into these tokens; behind them only blanks and comments stand, or, in front of a trace,
-- the end of their line.
pub record HasTokens (contents : Contents) (input : List ℕ) (tokens : List Placed) : Type 0 where
  pub within : length input ≤ input_limit contents
  pub rest : ℕ
  pub lexed : IsLexed input tokens rest
  pub ended : IsEnded contents input rest

-- the input is, or begins with, a text of this specification
pub record IsTextOf (contents : Contents) (input : List ℕ) (spec : Spec) : Type 0 where
  pub tokens : List Placed
  pub read : HasTokens contents input tokens
  pub spells : Spells spec tokens

-- and that breaks no rule
pub record Reads (contents : Contents) (input : List ℕ) (spec : Spec) : Type 0 where
  pub text : IsTextOf contents input spec
  pub kept : (b : Breach) → RuleBroken spec b → ⊥

-- the specification, with what its names mean
abbrev pub subject : Spec → Subject
subject spec = record { specification = spec; names = names_of spec }

-- ---- traces

-- this stands behind the line in which the specification ends
pub record HasTrace (input trace : List ℕ) : Type 0 where
  pub tokens : List Placed
  pub rest : ℕ
  pub lexed : IsLexed input tokens rest
  pub at : ℕ
  pub separated : IsSeparated input rest at
  pub is : trace ≡ drop at input

-- behind a specification that breaks no rule stands the trace of these events and this end
pub record Tells (budget : ℕ) (input : List ℕ) (spec : Spec) (events : List Event) (e : End) : Type 0 where
  pub reads : Reads (Traced budget) input spec
  pub trace : List ℕ
  pub behind : HasTrace input trace
  pub told : IsTraceText trace events e

-- and these are those of a run of it with this budget, whatever its schedule; there are so many events
pub record Replays (budget : ℕ) (input : List ℕ) (count : ℕ) : Type 0 where
  pub specification : Spec
  pub events : List Event
  pub e : End
  pub tells : Tells budget input specification events e
  pub run : IsRunTo (subject specification) budget events e
  pub counted : count ≡ length events

-- the input is what it is to be
abbrev pub IsInput : Contents → List ℕ → Type 0
IsInput Alone input = (spec : Spec) × Reads Alone input spec
IsInput (Traced budget) input = (count : ℕ) × Replays budget input count

-- ---- refusals

abbrev pub place_of : List ℕ → ℕ → Place
place_of input at = record { line = line_of input at; column = column_of input at }

-- no token, blank or comment begins there, and all before is cut into such
pub record HasNoTokens (contents : Contents) (input : List ℕ) (p : Place) : Type 0 where
  pub within : length input ≤ input_limit contents
  pub at : ℕ
  pub error : IsLexicalErrorAt input at
  pub place : p ≡ place_of input at

-- there something else than is to stands behind the tokens
pub record HasTextAfterEnd (contents : Contents) (input : List ℕ) (p : Place) : Type 0 where
  pub within : length input ≤ input_limit contents
  pub tokens : List Placed
  pub rest : ℕ
  pub at : ℕ
  pub lexed : IsLexed input tokens rest
  pub other : IsOther contents input rest at
  pub place : p ≡ place_of input at

-- no specification spells the tokens
pub record HasNoTree (contents : Contents) (input : List ℕ) : Type 0 where
  pub tokens : List Placed
  pub read : HasTokens contents input tokens
  pub none : (spec : Spec) → Spells spec tokens → ⊥

-- and this is where the first token starts with which the tokens up to it begin none; without such a token, where the text ends
pub record HasNoTreeAt (contents : Contents) (input : List ℕ) (p : Place) : Type 0 where
  pub text : HasNoTree contents input
  pub rest : ℕ
  pub lexed : IsLexed input text.tokens rest
  pub before : ℕ
  pub first : IsFirstRefused text.tokens before
  pub place : p ≡ place_of input (first_start rest (drop before text.tokens))

-- this is the least rule that the specification breaks, at the place where the first node that breaks it begins
pub record BreaksRule (contents : Contents) (input : List ℕ) (number : ℕ) (p : Place) : Type 0 where
  pub spec : Spec
  pub text : IsTextOf contents input spec
  pub breach : Breach
  pub least : IsLeast (RuleBroken spec) breach
  pub rule : breach.number ≡ number
  pub place : p ≡ place_of input breach.span.start

-- what stands behind the specification is no trace: this is its first bad line
pub record IsNoTrace (budget : ℕ) (input : List ℕ) (line : ℕ) : Type 0 where
  pub spec : Spec
  pub reads : Reads (Traced budget) input spec
  pub trace : List ℕ
  pub behind : HasTrace input trace
  pub bad : IsBadLine trace line

-- it is one, but of no run of the specification: this is the first entry that does not apply
pub record IsNoRun (budget : ℕ) (input : List ℕ) (entry : ℕ) : Type 0 where
  pub spec : Spec
  pub events : List Event
  pub e : End
  pub tells : Tells budget input spec events e
  pub wrong : IsFirstWrong (subject spec) budget events e entry

abbrev pub HasBadLine : Contents → List ℕ → ℕ → Type 0
HasBadLine Alone input line = ⊥
HasBadLine (Traced budget) input line = IsNoTrace budget input line

abbrev pub HasWrongEntry : Contents → List ℕ → ℕ → Type 0
HasWrongEntry Alone input entry = ⊥
HasWrongEntry (Traced budget) input entry = IsNoRun budget input entry

-- why an input is refused that is to be this
abbrev pub Refuses : Contents → Refusal → List ℕ → Type 0
Refuses contents TooLong input = input_limit contents < length input
Refuses contents (Bytes p) input = HasNoTokens contents input p
Refuses contents (TextAfterEnd p) input = HasTextAfterEnd contents input p
Refuses contents (Syntax p) input = HasNoTreeAt contents input p
Refuses contents (Rule number p) input = BreaksRule contents input number p
Refuses contents (BadTraceLine line) input = HasBadLine contents input line
Refuses contents (NotARun entry) input = HasWrongEntry contents input entry

-- the same, where an error of syntax is that no specification spells the tokens, and nothing is said of its place
abbrev pub IsRefusable : Contents → Refusal → List ℕ → Type 0
IsRefusable contents (Syntax p) input = HasNoTree contents input
IsRefusable contents refusal input = Refuses contents refusal input

-- bytes were read from the front of what was left, and no more of them than this
pub record TakesAtMost (most : ℕ) (left left' : Option (List ℕ)) : Type 0 where
  pub bytes : List ℕ
  pub within : length bytes ≤ most
  pub taken : Consumes left left' bytes

-- ---- inside

-- why a text was not read as what it is to be
abbrev pub Misses : Contents → List ℕ → Stop → Type 0
Misses contents bytes (stop.Refused refusal) = Refuses contents refusal bytes
Misses contents bytes stop.ReadFault = ⊥
Misses contents bytes stop.Memory = Unit {0}

-- why the input was not read as that
abbrev pub HasStopped : Contents → Option (List ℕ) → ℕ → ℕ → Stop → Type 0
HasStopped contents left before now (stop.Refused refusal) = IfSome left (Refuses contents refusal)
HasStopped contents left before now stop.ReadFault = Rose before now
HasStopped contents left before now stop.Memory = Unit {0}

-- what stands at a place is the trace, where there is to be one
abbrev pub IsTraceAt : Contents → List ℕ → ℕ → Type 0
IsTraceAt Alone input at = Unit {0}
IsTraceAt (Traced budget) input at = HasTrace input (drop at input)

-- behind the specification stands no more than is to, and the second place is that of a trace, where there is to be one
abbrev pub IsBehind : Contents → List ℕ → ℕ → ℕ → Type 0
IsBehind Alone input rest at = IsBlankFrom input rest
IsBehind (Traced budget) input rest at = IsSeparated input rest at

-- why a trace was not read
abbrev pub MissesTrace : List ℕ → Stop → Type 0
MissesTrace trace (stop.Refused (BadTraceLine line)) = IsBadLine trace line
MissesTrace trace stop.Memory = Unit {0}
MissesTrace trace _ = ⊥

-- why it was not judged to be that of a run
abbrev pub MissesRun : Subject → ℕ → List Event → End → Stop → Type 0
MissesRun s budget events e (stop.Refused (NotARun entry)) = IsFirstWrong s budget events e entry
MissesRun s budget events e stop.Memory = Unit {0}
MissesRun s budget events e _ = ⊥
