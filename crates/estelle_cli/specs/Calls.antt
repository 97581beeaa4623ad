-- What a call of the program comes to.
use Rattle.std.specs.Prelude.{◌≡◌, ◌≤◌, ◌+◌, ℕ, List, Option, Some, None, Result, Ok, Err, IfSome, IsSomeAnd, IsNone}
use Rattle.std.specs.Io.KnownBytes.{IsAtEnd}
use Rattle.outside.specs.Counts.{Rose}
use Rattle.pascal_values.specs.declared.fault.Fault.{Fault}
use Rattle.estelle_model.specs.declared.event.End.{End}
use Rattle.estelle_cli.specs.declared.outcome.Refusal.{Refusal}
use Rattle.estelle_cli.specs.declared.outcome.Stop.{Stop}
use Rattle.estelle_cli.specs.declared.outcome.Stop.TheVariants as stop
use Rattle.estelle_cli.specs.declared.outcome.Outcome.{Outcome}
use Rattle.estelle_cli.specs.declared.outcome.Outcome.TheVariants as outcome
use Rattle.estelle_cli.specs.declared.outcome.Status.{Status}
use Rattle.estelle_cli.specs.declared.outcome.Status.TheVariants as status
use Rattle.estelle_cli.specs.declared.outcome.Close.{Close}
use Rattle.estelle_cli.specs.declared.outcome.Close.TheVariants as close
use Rattle.estelle_cli.specs.declared.task.Task.{Task}
use Rattle.estelle_cli.specs.Tasks.{ReadsInput, AsksClock, contents_of}
use Rattle.estelle_cli.specs.Input.{Refuses, IsRefusable, IsInput, TakesAtMost, input_limit}
use Rattle.estelle_cli.specs.Answers.{EndsWith, Emits, IsRefusedOr, Writes, WritesPrefix, IsQuiet, Reports, usage_line, refusal_line, read_fault_line, write_fault_line, clock_fault_line, memory_line, fault_line, MayRefuse, MayFinish, MayBeUsage}

-- ---- devices

-- a device before a call and behind it, with what it tells, and how often it had failed
pub record Used (D X : Type 0) : Type 0 where
  pub tells : D → Option X
  pub faults : D → ℕ
  pub before : D
  pub after : D

module _ {D X : Type 0} where
  abbrev pub used : (D → Option X) → (D → ℕ) → D → D → Used D X
  used tells faults before after = record { tells = tells; faults = faults; before = before; after = after }

  -- what it told before the call, and what behind it
  abbrev pub told : Used D X → Option X
  told d = d.tells d.before

  abbrev pub tells_now : Used D X → Option X
  tells_now d = d.tells d.after

  -- it failed meanwhile
  abbrev pub HasFaulted : Used D X → Type 0
  HasFaulted d = Rose (d.faults d.before) (d.faults d.after)

  abbrev pub IsUntouched : Used D X → Type 0
  IsUntouched d = d.after ≡ d.before

-- nothing was written to it
abbrev pub HasNothing : {D : Type 0} → Used D (List ℕ) → Type 0
HasNothing d = IsQuiet (told d) (tells_now d) (d.faults d.before) (d.faults d.after)

-- it took the line, or a prefix of it where it failed
abbrev pub HasLine : {D : Type 0} → Used D (List ℕ) → List ℕ → Type 0
HasLine d words = Reports (told d) (tells_now d) (d.faults d.before) (d.faults d.after) words

-- ---- calls

module _ {S K C : Type 0} (is_chosen : ℕ → Type 0) (source : Used S (List ℕ)) (out : Used K (List ℕ)) (clock : Used C ℕ) where
  -- the output of the task, which was done so, was written, and its input read to the end
  pub record HasWritten (c : Close) (task : Task) : Type 0 where
    pub writes : Writes is_chosen task (told clock) (told source) c (told out) (tells_now out)
    pub whole : ReadsInput task → IsAtEnd (tells_now source)

  -- it is refused for this
  pub record IsRefused (refusal : Refusal) (task : Task) : Type 0 where
    pub reads : ReadsInput task
    pub refuses : IfSome (told source) (Refuses (contents_of task) refusal)

  -- why a task ended so
  abbrev pub Explains : Task → Outcome → Type 0
  Explains task outcome.Done = HasWritten close.Well task
  Explains task (outcome.PascalFault kind) = HasWritten (close.Faulted kind) task
  Explains task outcome.ClockFault = HasWritten close.ByClock task × HasFaulted clock
  Explains task (outcome.Refused refusal words) = IsRefused refusal task × (words ≡ refusal_line refusal) × HasNothing out
  Explains task outcome.ReadFault = ReadsInput task × HasFaulted source × HasNothing out
  Explains task outcome.WriteFault =
      WritesPrefix is_chosen task (told clock) (clock.faults clock.before) (clock.faults clock.after) (told source) (told out) (tells_now out) × HasFaulted out
  Explains task outcome.Memory = HasNothing out

  module _ {E : Type 0} (err : Used E (List ℕ)) (asked : Option Task) where
    -- What a call comes to, by its status. 0: what was written is what the words ask for, and standard error is as before.
    abbrev pub Says : Status → Type 0
    Says status.Done = IsSomeAnd asked (HasWritten close.Well) × IsUntouched err
    -- 7: it is so, and the run ended at this fault
    Says status.PascalFault = (kind : Fault) × IsSomeAnd asked (HasWritten (close.Faulted kind)) × HasLine err (fault_line kind)
    -- 5: it is so, and the run ended since the clock failed
    Says status.ClockFault = IsSomeAnd asked (HasWritten close.ByClock) × HasFaulted clock × HasLine err clock_fault_line
    -- 2: the words ask for nothing
    Says status.Usage = IsNone asked × HasNothing out × HasLine err usage_line
    -- 1: the input is too long, or has a byte with which no token begins, or text behind `end.`, or no specification spells its
    -- tokens, or that breaks a static rule, or what is to be a trace behind it is none, or is that of no run of it
    Says status.Refused = (refusal : Refusal) × IsSomeAnd asked (IsRefused refusal) × HasNothing out × HasLine err (refusal_line refusal)
    -- 3: the source has failed
    Says status.ReadFault = IsSomeAnd asked ReadsInput × HasFaulted source × HasNothing out × HasLine err read_fault_line
    -- 4: the output has failed, and has taken a prefix of what was to be written
    Says status.WriteFault =
        IsSomeAnd asked (λ task. WritesPrefix is_chosen task (told clock) (clock.faults clock.before) (clock.faults clock.after) (told source) (told out) (tells_now out)) × HasFaulted out × HasLine err write_fault_line
    -- 6: memory ran out
    Says status.Memory = HasNothing out × HasLine err memory_line

    -- a call is answered so
    pub record IsAnswered (s : Status) : Type 0 where
      pub says : Says s
      -- an input that is to be refused is, unless the source failed or memory ran out
      pub refuses : (refusal : Refusal) (input : List ℕ) → IsSomeAnd asked (λ task. ReadsInput task × IsRefusable (contents_of task) refusal input) → told source ≡ Some input → MayRefuse s
      -- Where neither the source nor the output nor the clock fails, a task is done with an input that is what it is to be, or without
      -- one, unless memory runs out.
      pub complete : (input : List ℕ) → IsSomeAnd asked (λ task. ReadsInput task × IsInput (contents_of task) input) → told source ≡ Some input
          → (HasFaulted source → ⊥) → (HasFaulted out → ⊥) → (HasFaulted clock → ⊥) → MayFinish s
      pub complete_alone : IsSomeAnd asked (λ task. ReadsInput task → ⊥) → (HasFaulted out → ⊥) → MayFinish s
      -- words without a meaning are told as such, unless memory runs out
      pub no_usage : IsNone asked → MayBeUsage s
      -- no more than one byte beyond the limit is read, and nothing where no input is asked for
      pub stops : IfSome asked (λ task. TakesAtMost (input_limit (contents_of task) + 1) (told source) (tells_now source))
      pub unread : (IsSomeAnd asked ReadsInput → ⊥) → IsUntouched source
      -- the clock's count of faults never falls, and the clock is asked for a run alone
      pub later : clock.faults clock.before ≤ clock.faults clock.after
      pub unasked : (IsSomeAnd asked AsksClock → ⊥) → IsUntouched clock

-- ---- inside

-- a trace with its end, and with how the run was done
abbrev pub HasClose : Result (List ℕ × End) Stop → Result (List ℕ × Close) Stop → Type 0
HasClose (Ok x) (Ok y) = (y.0 ≡ x.0) × EndsWith y.1 x.1
HasClose (Err e) (Err f) = f ≡ e
HasClose (Ok x) (Err f) = ⊥
HasClose (Err e) (Ok y) = ⊥

-- what a task gave was written
abbrev pub HasClosed : {K : Type 0} → Used K (List ℕ) → Result (List ℕ × Close) Stop → Outcome → Type 0
HasClosed out (Ok x) o = Emits x.0 x.1 (told out) (tells_now out) (out.faults out.before) (out.faults out.after) o
HasClosed out (Err (stop.Refused refusal)) o = IsRefusedOr refusal o × IsUntouched out
HasClosed out (Err stop.ReadFault) o = (o ≡ outcome.ReadFault) × IsUntouched out
HasClosed out (Err stop.Memory) o = (o ≡ outcome.Memory) × IsUntouched out

module _ {E : Type 0} (err : Used E (List ℕ)) where
  -- err was told how a task ended, and that is the status
  abbrev pub HasTold : Outcome → Status → Type 0
  HasTold outcome.Done s = (s ≡ status.Done) × IsUntouched err
  HasTold (outcome.PascalFault kind) s = (s ≡ status.PascalFault) × HasLine err (fault_line kind)
  HasTold outcome.ClockFault s = (s ≡ status.ClockFault) × HasLine err clock_fault_line
  HasTold (outcome.Refused refusal words) s = (s ≡ status.Refused) × HasLine err words
  HasTold outcome.ReadFault s = (s ≡ status.ReadFault) × HasLine err read_fault_line
  HasTold outcome.WriteFault s = (s ≡ status.WriteFault) × HasLine err write_fault_line
  HasTold outcome.Memory s = (s ≡ status.Memory) × HasLine err memory_line

  -- or that the words have no meaning, or that memory is wanted
  abbrev pub HasToldAtOnce : {X : Type 0} → Result (Option Task) X → Result Task Status → Type 0
  HasToldAtOnce (Ok (Some task)) r = (r ≡ Ok task) × IsUntouched err
  HasToldAtOnce (Ok None) r = (r ≡ Err status.Usage) × HasLine err usage_line
  HasToldAtOnce (Err e) r = (r ≡ Err status.Memory) × HasLine err memory_line
