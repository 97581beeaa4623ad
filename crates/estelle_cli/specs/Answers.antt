-- What a call of the program answers, and why.
use Rattle.std.specs.Prelude.{◌≡◌, ⊤, ℕ, List, ◌++◌, Option, Some, None, IfSome, codes}
use Rattle.std.specs.Fmt.{decimal}
use Rattle.std.specs.Io.KnownBytes.{Appends}
use Rattle.outside.specs.Counts.{Rose}
use Rattle.outside.specs.Bytes.{AppendsFront}
use Rattle.outside.specs.Choices.{seeded, any_drawn}
use Rattle.outside.specs.declared.choosers.AnyChooser.{AnyChooser}
use Rattle.outside.specs.declared.choosers.AnyChooser.TheVariants.{First, Seeded}
use Rattle.pascal_values.specs.declared.fault.Fault.{Fault}
use Rattle.estelle_tree.specs.declared.tree.specification.Spec.{Spec}
use Rattle.estelle_printer.specs.Canonical.{IsCanonicalText}
use Rattle.spec_maker.specs.Ring.{ring, IsRing}
use Rattle.estelle_model.specs.declared.event.Event.{Event}
use Rattle.estelle_model.specs.declared.event.End.{End}
use Rattle.estelle_model.specs.declared.event.End.TheVariants as end
use Rattle.estelle_model.specs.Runs.{IsRun}
use Rattle.estelle_model.specs.Ends.{Stops}
use Rattle.estelle_model.specs.Schedule.{IsScheduled}
use Rattle.estelle_model.specs.Trace.{text, kind_text, line_end}
use Rattle.estelle_model.specs.Subject.{Subject}
use Rattle.body_code.specs.declared.unit.CodeUnit.{CodeUnit}
use Rattle.body_code.specs.Listing.{listing}
use Rattle.body_kinds.specs.Good.{HasGoodKinds}
use Rattle.body_machine_meaning.specs.Faithful.{IsFaithful}
use Rattle.body_program_numbers.specs.Numbering.{numbers_of}
use Rattle.situation.specs.declared.limits.Limits.{Limits}
use Rattle.situation.specs.Runs.{IsStopped}
use Rattle.run_counts.specs.Counts.{counts_line}
use Rattle.estelle_cli.specs.declared.outcome.Place.{Place}
use Rattle.estelle_cli.specs.declared.outcome.Refusal.{Refusal}
use Rattle.estelle_cli.specs.declared.outcome.Refusal.TheVariants.{TooLong, Bytes, TextAfterEnd, Syntax, Rule, BadTraceLine, NotARun}
use Rattle.estelle_cli.specs.declared.task.Task.{Task}
use Rattle.estelle_cli.specs.declared.task.Task.TheVariants.{Run, Check, Show, Code, Replay, Make, Trial}
use Rattle.estelle_cli.specs.declared.outcome.Outcome.{Outcome}
use Rattle.estelle_cli.specs.declared.outcome.Outcome.TheVariants as outcome
use Rattle.estelle_cli.specs.declared.outcome.Status.{Status}
use Rattle.estelle_cli.specs.declared.outcome.Status.TheVariants as status
use Rattle.estelle_cli.specs.declared.outcome.Close.{Close}
use Rattle.estelle_cli.specs.declared.outcome.Close.TheVariants as close
use Rattle.estelle_cli.specs.declared.outcome.Stop.{Stop}
use Rattle.estelle_cli.specs.declared.outcome.Stop.TheVariants as stop
use Rattle.estelle_cli.specs.declared.contents.Contents.TheVariants.{Alone}
use Rattle.estelle_cli.specs.Tasks.{contents_of}
use Rattle.estelle_cli.specs.Input.{subject, Reads, Replays, HasStopped}

-- ---- what is written to out

-- what `check` writes
abbrev pub accepted_line : List ℕ
accepted_line = codes "accepted" ++ line_end

-- what `replay` writes of so many events
abbrev pub replayed_line : ℕ → List ℕ
replayed_line count = codes "accepted " ++ (decimal count ++ line_end)

-- the chooser of a seed, or the one that takes the first candidate each time
abbrev pub chooser_by : Option ℕ → AnyChooser
chooser_by None = First (record {})
chooser_by (Some seed) = Seeded (seeded seed)

-- the run is the one that the schedule chooses whatever the number of workers, or where there are none alone
abbrev pub Always : ℕ → Type 0
Always workers = ⊤

abbrev pub WithoutWorkers : ℕ → Type 0
WithoutWorkers workers = workers ≡ 0

-- The events are a run of a specification that stops with this end: the first is its start, each later one applies to the situation
-- before it. Where that is so for the number of workers, they are those that the schedule chooses by the seed, or by taking the first
-- candidate each time, and by a clock that tells this moment, or none.
pub record IsExecuted (is_chosen : ℕ → Type 0) (s : Subject) (limits : Limits) (seed clock : Option ℕ) (workers : ℕ) (events : List Event) (e : End) : Type 0 where
  pub run : IsRun s limits.budget events
  pub stops : Stops s limits.budget limits.turns events e
  pub scheduled : is_chosen workers → IsScheduled any_drawn s limits.budget limits.turns clock (chooser_by seed) events e

-- a text is the trace of such events, of the specification that the input spells
pub record IsTrace (is_chosen : ℕ → Type 0) (limits : Limits) (seed clock : Option ℕ) (workers : ℕ) (left : Option (List ℕ)) (e : End) (written : List ℕ) : Type 0 where
  pub specification : Spec
  pub events : List Event
  pub input : IfSome left (λ bytes. Reads Alone bytes specification)
  pub executed : IsExecuted is_chosen (subject specification) limits seed clock workers events e
  pub lines : written ≡ text events e

-- an end that no fault made
abbrev pub IsGood : End → Type 0
IsGood end.Dead = Unit {0}
IsGood end.Turns = Unit {0}
IsGood end.Clock = ⊥
IsGood (end.Faulted kind) = ⊥

-- the run ended well, at this fault, or by the clock
abbrev pub EndsWith : Close → End → Type 0
EndsWith close.Well e = IsGood e
EndsWith (close.Faulted kind) e = e ≡ end.Faulted kind
EndsWith close.ByClock e = e ≡ end.Clock

-- the specification that the input spells keeps all rules
pub record IsAccepted (left : Option (List ℕ)) : Type 0 where
  pub specification : Spec
  pub input : IfSome left (λ bytes. Reads Alone bytes specification)

-- the text is the canonical one of such a specification
pub record IsShown (left : Option (List ℕ)) (written : List ℕ) : Type 0 where
  pub specification : Spec
  pub input : IfSome left (λ bytes. Reads Alone bytes specification)
  pub canonical : IsCanonicalText specification written

-- the text is the listing of a code of good kinds, with which the machine does what the bodies mean
abbrev pub IsListing : Subject → List ℕ → Type 0
IsListing s written = (code : List CodeUnit) × IsFaithful s (numbers_of s) code × HasGoodKinds s (numbers_of s) code × (written ≡ listing code)

-- the text is that of a code of such a specification
pub record IsListed (left : Option (List ℕ)) (written : List ℕ) : Type 0 where
  pub specification : Spec
  pub input : IfSome left (λ bytes. Reads Alone bytes specification)
  pub listing : IsListing (subject specification) written

-- the input is a specification that keeps all rules, with the trace of a run of it, and the line tells how many events that has
pub record IsReplayed (budget : ℕ) (left : Option (List ℕ)) (written : List ℕ) : Type 0 where
  pub count : ℕ
  pub input : IfSome left (λ bytes. Replays budget bytes count)
  pub line : written ≡ replayed_line count

-- the text is the canonical one of the ring of so many stations
pub record IsMade (n : ℕ) (written : List ℕ) : Type 0 where
  pub specification : Spec
  pub made : IsRing n specification
  pub text : written ≡ ring n

-- The text tells of the counts and the end of a run of that ring: of the one that the schedule chooses by the seed, or by taking the first
-- candidate each time, and by a clock that stands at 0 before.
pub record IsTried (n : ℕ) (limits : Limits) (seed : Option ℕ) (written : List ℕ) : Type 0 where
  pub specification : Spec
  pub made : IsRing n specification
  pub events : List Event
  pub e : End
  pub stopped : IsStopped any_drawn (chooser_by seed) (Some 0) (subject specification) limits.budget limits.turns events e
  pub line : written ≡ counts_line events e

-- a clock ends a run only where it has failed
abbrev pub MayClose : Close → ℕ → ℕ → Type 0
MayClose c asks asks' = c ≡ close.ByClock → Rose asks asks'

module _ (is_chosen : ℕ → Type 0) where
  -- what a task writes, of an input where it reads one, by a clock that tells this moment, or none; and how it was done
  abbrev pub IsOutput : Task → Option ℕ → Option (List ℕ) → Close → List ℕ → Type 0
  IsOutput (Run limits seed workers) clock left c written = (e : End) × EndsWith c e × IsTrace is_chosen limits seed clock workers left e written
  IsOutput Check clock left c written = (c ≡ close.Well) × IsAccepted left × (written ≡ accepted_line)
  IsOutput Show clock left c written = (c ≡ close.Well) × IsShown left written
  IsOutput Code clock left c written = (c ≡ close.Well) × IsListed left written
  IsOutput (Replay budget) clock left c written = (c ≡ close.Well) × IsReplayed budget left written
  IsOutput (Make n) clock left c written = (c ≡ close.Well) × IsMade n written
  IsOutput (Trial n limits seed) clock left c written = (c ≡ close.Well) × IsTried n limits seed written

  -- out has grown by just that
  pub record Writes (task : Task) (clock : Option ℕ) (left : Option (List ℕ)) (c : Close) (held held' : Option (List ℕ)) : Type 0 where
    pub written : List ℕ
    pub output : IsOutput task clock left c written
    pub appends : Appends held held' written

  -- or by a prefix of it
  pub record WritesPrefix (task : Task) (clock : Option ℕ) (asks asks' : ℕ) (left : Option (List ℕ)) (held held' : Option (List ℕ)) : Type 0 where
    pub close : Close
    pub cause : MayClose close asks asks'
    pub written : List ℕ
    pub output : IsOutput task clock left close written
    pub appends : AppendsFront held held' written

-- nothing went to out
pub record IsQuiet (held held' : Option (List ℕ)) (faults faults' : ℕ) : Type 0 where
  pub nothing : held' ≡ held
  pub untried : faults' ≡ faults

-- ---- what is written to err

abbrev pub line : List ℕ → List ℕ
line words = codes "estelle: " ++ (words ++ line_end)

abbrev pub usage_line : List ℕ
usage_line = line (codes "usage")

-- the line and the column, as `1:15`
abbrev pub place_text : Place → List ℕ
place_text p = decimal p.line ++ (codes ":" ++ decimal p.column)

abbrev pub refusal_line : Refusal → List ℕ
refusal_line TooLong = line (codes "too long")
refusal_line (Bytes p) = line (codes "bytes " ++ place_text p)
refusal_line (TextAfterEnd p) = line (codes "text after end " ++ place_text p)
refusal_line (Syntax p) = line (codes "syntax " ++ place_text p)
refusal_line (Rule number p) = line (codes "rule " ++ (decimal number ++ (codes " " ++ place_text p)))
refusal_line (BadTraceLine number) = line (codes "bad trace line " ++ decimal number)
refusal_line (NotARun entry) = line (codes "not a run: entry " ++ decimal entry)

abbrev pub read_fault_line : List ℕ
read_fault_line = line (codes "read fault")

abbrev pub write_fault_line : List ℕ
write_fault_line = line (codes "write fault")

abbrev pub memory_line : List ℕ
memory_line = line (codes "no memory")

abbrev pub clock_fault_line : List ℕ
clock_fault_line = line (codes "clock fault")

abbrev pub fault_line : Fault → List ℕ
fault_line kind = line (codes "fault " ++ kind_text kind)

-- err has taken a prefix of the line, and the whole line where its count did not rise
pub record Reports (held held' : Option (List ℕ)) (faults faults' : ℕ) (words : List ℕ) : Type 0 where
  pub prefix : AppendsFront held held' words
  pub whole : (Rose faults faults' → ⊥) → Appends held held' words

-- ---- by the status

-- what may be answered where the input is to be refused: the refusal, or what comes before it
abbrev pub MayRefuse : Status → Type 0
MayRefuse status.Refused = Unit {0}
MayRefuse status.ReadFault = Unit {0}
MayRefuse status.Memory = Unit {0}
MayRefuse status.Done = ⊥
MayRefuse status.Usage = ⊥
MayRefuse status.WriteFault = ⊥
MayRefuse status.ClockFault = ⊥
MayRefuse status.PascalFault = ⊥

-- what may be answered where nothing fails: the task is done, or memory is wanted
abbrev pub MayFinish : Status → Type 0
MayFinish status.Done = Unit {0}
MayFinish status.PascalFault = Unit {0}
MayFinish status.Memory = Unit {0}
MayFinish status.Refused = ⊥
MayFinish status.Usage = ⊥
MayFinish status.ReadFault = ⊥
MayFinish status.WriteFault = ⊥
MayFinish status.ClockFault = ⊥

-- what may be answered where nothing is asked for
abbrev pub MayBeUsage : Status → Type 0
MayBeUsage status.Usage = Unit {0}
MayBeUsage status.Memory = Unit {0}
MayBeUsage status.Done = ⊥
MayBeUsage status.Refused = ⊥
MayBeUsage status.ReadFault = ⊥
MayBeUsage status.WriteFault = ⊥
MayBeUsage status.ClockFault = ⊥
MayBeUsage status.PascalFault = ⊥

-- ---- inside

-- why a task was not done: without an input that is want of memory alone
abbrev pub HasFailed : Task → Option (List ℕ) → ℕ → ℕ → Stop → Type 0
HasFailed (Make n) left before now e = e ≡ stop.Memory
HasFailed (Trial n limits seed) left before now e = e ≡ stop.Memory
HasFailed task left before now e = HasStopped (contents_of task) left before now e

-- how the writing of an output came out
abbrev pub Emits : List ℕ → Close → Option (List ℕ) → Option (List ℕ) → ℕ → ℕ → Outcome → Type 0
Emits written c held held' faults faults' outcome.Done = (c ≡ close.Well) × Appends held held' written
Emits written c held held' faults faults' (outcome.PascalFault kind) = (c ≡ close.Faulted kind) × Appends held held' written
Emits written c held held' faults faults' outcome.ClockFault = (c ≡ close.ByClock) × Appends held held' written
Emits written c held held' faults faults' outcome.WriteFault = Rose faults faults' × AppendsFront held held' written
Emits written c held held' faults faults' (outcome.Refused refusal words) = ⊥
Emits written c held held' faults faults' outcome.ReadFault = ⊥
Emits written c held held' faults faults' outcome.Memory = ⊥

-- refused with its line, unless memory ran out
abbrev pub IsRefusedOr : Refusal → Outcome → Type 0
IsRefusedOr refusal (outcome.Refused r words) = (r ≡ refusal) × (words ≡ refusal_line refusal)
IsRefusedOr refusal outcome.Memory = Unit {0}
IsRefusedOr refusal outcome.Done = ⊥
IsRefusedOr refusal (outcome.PascalFault kind) = ⊥
IsRefusedOr refusal outcome.ClockFault = ⊥
IsRefusedOr refusal outcome.ReadFault = ⊥
IsRefusedOr refusal outcome.WriteFault = ⊥
