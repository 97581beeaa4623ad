-- What a call comes to, by how its task ended.
use Rattle.std.proofs.Common.{◌≡◌, ℕ, ◌≤◌, ◌+◌, List, [], Option, Some, None, refl, sym, ap, ◌∙◌, subst, arith}
use Rattle.std.specs.Prelude.{Result, Ok, Err, IfOk, IfErr, OnOk, IfSome, IsSomeAnd, IsNone}
use Rattle.std.specs.Io.KnownBytes.{Appends, IsAtEnd}
use Rattle.estelle_parser.proofs.Whole.{one_tree}
use Rattle.estelle_cli.specs.declared.outcome.Refusal.{Refusal}
use Rattle.estelle_cli.specs.declared.outcome.Outcome.{Outcome}
use Rattle.estelle_cli.specs.declared.outcome.Outcome.TheVariants as outcome
use Rattle.estelle_cli.specs.declared.outcome.Stop.{Stop}
use Rattle.estelle_cli.specs.declared.outcome.Stop.TheVariants as stop
use Rattle.estelle_cli.specs.declared.outcome.Status.{Status}
use Rattle.estelle_cli.specs.declared.outcome.Status.TheVariants as status
use Rattle.estelle_cli.specs.declared.outcome.Close.{Close}
use Rattle.estelle_cli.specs.declared.outcome.Close.TheVariants as close
use Rattle.estelle_cli.specs.declared.task.Task.{Task}
use Rattle.estelle_cli.specs.declared.task.Task.TheVariants.{Run, Check, Show, Code, Replay, Make, Trial}
use Rattle.estelle_cli.specs.Tasks.{ReadsInput, AsksClock, contents_of}
use Rattle.estelle_cli.specs.Input.{IsRefusable, IsInput, TakesAtMost, input_limit}
use Rattle.estelle_cli.specs.Answers.{IsOutput, HasFailed, WritesPrefix, refusal_line, usage_line, memory_line, MayRefuse, MayFinish}
use Rattle.estelle_cli.specs.Calls.{Used, told, tells_now, HasFaulted, IsUntouched, HasNothing, HasLine, HasWritten, IsRefused, Explains, Says, IsAnswered, HasClosed, HasTold, HasToldAtOnce}
use Rattle.estelle_cli.proofs.Causes.{at_task, of_task, and_task, none_asked, output_refused, refused_input}

-- where nothing is read, no more than any number of bytes is
takes_none : (most : ℕ) (left : Option (List ℕ)) → TakesAtMost most left left
takes_none most None = record { bytes = []; within = omega arith; taken = tt }
takes_none most (Some input) = record { bytes = []; within = omega arith; taken = refl }

each_task : (o : Option Task) (P : Task → Type 0) → ((task : Task) → P task) → IfSome o P
each_task None P h = tt
each_task (Some task) P h = h task

some_asked : (o : Option Task) (task : Task) → Some task ≡ o → IsNone o → ⊥
some_asked None task e n = cc
some_asked (Some t) task e n = cc

-- the task of words with a meaning, of which nothing was told
pub asked_task : {E X : Type 0} (err : Used E (List ℕ)) (asked : Option Task) (found : Result (Option Task) X) (r : Result Task Status) → IfOk found (λ f. f ≡ asked) → HasToldAtOnce err found r
    → (task : Task) → r ≡ Ok task → (Some task ≡ asked) × IsUntouched err
asked_task err asked (Ok (Some t)) r is h task e =
    let same : ◌≡◌ {A = Result Task Status} (Ok t) (Ok task) = sym h.0 ∙ e in
    let one : t ≡ task = cc in
    (subst (λ (k : Task). Some k ≡ asked) one is, h.1)
asked_task err asked (Ok None) r is h task e = let no : ◌≡◌ {A = Result Task Status} (Err status.Usage) (Ok task) = sym h.0 ∙ e in cc
asked_task err asked (Err x) r is h task e = let no : ◌≡◌ {A = Result Task Status} (Err status.Memory) (Ok task) = sym h.0 ∙ e in cc

-- without an input no clock ends a task
alone_well : (is_chosen : ℕ → Type 0) (task : Task) (clock : Option ℕ) (left : Option (List ℕ)) (written : List ℕ) → (ReadsInput task → ⊥) → IsOutput is_chosen task clock left close.ByClock written → ⊥
alone_well is_chosen (Run limits seed workers) clock left written alone h = alone tt
alone_well is_chosen Check clock left written alone h = alone tt
alone_well is_chosen Show clock left written alone h = alone tt
alone_well is_chosen Code clock left written alone h = alone tt
alone_well is_chosen (Replay budget) clock left written alone h = alone tt
alone_well is_chosen (Make n) clock left written alone h = let well : close.ByClock ≡ close.Well = h.0 in cc
alone_well is_chosen (Trial n limits seed) clock left written alone h = let well : close.ByClock ≡ close.Well = h.0 in cc

module _ {S K C E : Type 0} (is_chosen : ℕ → Type 0) (source : Used S (List ℕ)) (out : Used K (List ℕ)) (clock : Used C ℕ) (err : Used E (List ℕ)) (asked : Option Task) where
  abbrev SaysOf : Status → Type 0
  SaysOf s = Says is_chosen source out clock err asked s

  abbrev Answers : Status → Type 0
  Answers s = IsAnswered is_chosen source out clock err asked s

  -- what was not touched has nothing new
  untouched_nothing : (d : Used K (List ℕ)) → IsUntouched d → HasNothing d
  untouched_nothing d same = record { nothing = ap d.tells same; untried = ap d.faults same }

  -- why a task failed that reads an input
  failed_refused : (task : Task) (r : Refusal) → HasFailed task (told source) (source.faults source.before) (source.faults source.after) (stop.Refused r) → IsRefused is_chosen source out clock r task
  failed_refused (Run limits seed workers) r h = record { reads = tt; refuses = h }
  failed_refused Check r h = record { reads = tt; refuses = h }
  failed_refused Show r h = record { reads = tt; refuses = h }
  failed_refused Code r h = record { reads = tt; refuses = h }
  failed_refused (Replay budget) r h = record { reads = tt; refuses = h }
  failed_refused (Make n) r h = let no : stop.Refused r ≡ stop.Memory = h in cc
  failed_refused (Trial n limits seed) r h = let no : stop.Refused r ≡ stop.Memory = h in cc

  failed_reading : (task : Task) → HasFailed task (told source) (source.faults source.before) (source.faults source.after) stop.ReadFault → ReadsInput task × HasFaulted source
  failed_reading (Run limits seed workers) h = (tt, h)
  failed_reading Check h = (tt, h)
  failed_reading Show h = (tt, h)
  failed_reading Code h = (tt, h)
  failed_reading (Replay budget) h = (tt, h)
  failed_reading (Make n) h = let no : stop.ReadFault ≡ stop.Memory = h in cc
  failed_reading (Trial n limits seed) h = let no : stop.ReadFault ≡ stop.Memory = h in cc

  -- ---- without a task

  -- nothing was done but the line on err
  pub record IsIdle : Type 0 where
    pub unread : source.after ≡ source.before
    pub untouched : clock.after ≡ clock.before
    pub nothing : HasNothing out

  idle_stops : IsIdle → IfSome asked (λ task. TakesAtMost (input_limit (contents_of task) + 1) (told source) (tells_now source))
  idle_stops idle = each_task asked (λ task. TakesAtMost (input_limit (contents_of task) + 1) (told source) (tells_now source))
      (λ task. subst (λ (s : S). TakesAtMost (input_limit (contents_of task) + 1) (told source) (source.tells s)) (sym idle.unread) (takes_none _ _))

  idle_later : IsIdle → clock.faults clock.before ≤ clock.faults clock.after
  idle_later idle = let same : clock.faults clock.after ≡ clock.faults clock.before = ap clock.faults idle.untouched in omega (arith, same)

  pub usage_told : IsIdle → None ≡ asked → HasLine err usage_line → Answers status.Usage
  usage_told idle none line = record {
    says = (subst IsNone none refl, idle.nothing, line);
    refuses = λ refusal input a left. absurd (none_asked asked _ none a);
    complete = λ input a left s o c. absurd (none_asked asked _ none a);
    complete_alone = λ a o. absurd (none_asked asked _ none a);
    no_usage = λ n. tt;
    stops = idle_stops idle;
    unread = λ n. idle.unread;
    later = idle_later idle;
    unasked = λ n. idle.untouched;
  }

  pub memory_told : IsIdle → HasLine err memory_line → Answers status.Memory
  memory_told idle line = record {
    says = (idle.nothing, line);
    refuses = λ refusal input a left. tt;
    complete = λ input a left s o c. tt;
    complete_alone = λ a o. tt;
    no_usage = λ n. tt;
    stops = idle_stops idle;
    unread = λ n. idle.unread;
    later = idle_later idle;
    unasked = λ n. idle.untouched;
  }

  pub at_once_told : {X : Type 0} (found : Result (Option Task) X) (r : Result Task Status) → IfOk found (λ f. f ≡ asked) → HasToldAtOnce err found r → IsIdle → (s : Status) → r ≡ Err s → Answers s
  at_once_told (Ok (Some t)) r is h idle s e = let no : ◌≡◌ {A = Result Task Status} (Ok t) (Err s) = sym h.0 ∙ e in cc
  at_once_told (Ok None) r is h idle s e =
      let same : ◌≡◌ {A = Result Task Status} (Err status.Usage) (Err s) = sym h.0 ∙ e in
      let one : status.Usage ≡ s = cc in
      subst Answers one (usage_told idle is h.1)
  at_once_told (Err x) r is h idle s e =
      let same : ◌≡◌ {A = Result Task Status} (Err status.Memory) (Err s) = sym h.0 ∙ e in
      let one : status.Memory ≡ s = cc in
      subst Answers one (memory_told idle h.1)

  -- ---- with a task

  module _ (task : Task) (is : Some task ≡ asked) where
    abbrev Why : Outcome → Type 0
    Why o = Explains is_chosen source out clock task o

    written : (text : List ℕ) (c d : Close) → IsOutput is_chosen task (told clock) (told source) c text → c ≡ d → (ReadsInput task → IsAtEnd (tells_now source)) → Appends (told out) (tells_now out) text
        → HasWritten is_chosen source out clock d task
    written text c d output same end appends = record {
      writes = record { written = text; output = subst (λ (k : Close). IsOutput is_chosen task (told clock) (told source) k text) same output; appends = appends };
      whole = end;
    }

    explained : (done : Result (List ℕ × Close) Stop) → IfOk done (λ x. IsOutput is_chosen task (told clock) (told source) x.1 x.0) → IfOk done (λ x. x.1 ≡ close.ByClock → HasFaulted clock)
        → OnOk done (ReadsInput task → IsAtEnd (tells_now source)) → IfErr done (HasFailed task (told source) (source.faults source.before) (source.faults source.after))
        → (o : Outcome) → HasClosed out done o → Why o
    explained (Ok x) output by_clock end cause outcome.Done h = written x.0 x.1 close.Well output h.0 end h.1
    explained (Ok x) output by_clock end cause (outcome.PascalFault kind) h = written x.0 x.1 (close.Faulted kind) output h.0 end h.1
    explained (Ok x) output by_clock end cause outcome.ClockFault h = (written x.0 x.1 close.ByClock output h.0 end h.1, by_clock h.0)
    explained (Ok x) output by_clock end cause outcome.WriteFault h = (record { close = x.1; cause = by_clock; written = x.0; output = output; appends = h.1 }, h.0)
    explained (Ok x) output by_clock end cause (outcome.Refused refusal words) h = absurd h
    explained (Ok x) output by_clock end cause outcome.ReadFault h = absurd h
    explained (Ok x) output by_clock end cause outcome.Memory h = absurd h
    explained (Err (stop.Refused r)) output by_clock end cause (outcome.Refused refusal words) h =
        (subst (λ (k : Refusal). IsRefused is_chosen source out clock k task) (sym h.0.0) (failed_refused task r cause), h.0.1 ∙ ap refusal_line (sym h.0.0), untouched_nothing out h.1)
    explained (Err (stop.Refused r)) output by_clock end cause outcome.Memory h = untouched_nothing out h.1
    explained (Err (stop.Refused r)) output by_clock end cause outcome.Done h = absurd h.0
    explained (Err (stop.Refused r)) output by_clock end cause (outcome.PascalFault kind) h = absurd h.0
    explained (Err (stop.Refused r)) output by_clock end cause outcome.ClockFault h = absurd h.0
    explained (Err (stop.Refused r)) output by_clock end cause outcome.ReadFault h = absurd h.0
    explained (Err (stop.Refused r)) output by_clock end cause outcome.WriteFault h = absurd h.0
    explained (Err stop.ReadFault) output by_clock end cause o h =
        let failed = failed_reading task cause in
        subst Why (sym h.0) (failed.0, failed.1, untouched_nothing out h.1)
    explained (Err stop.Memory) output by_clock end cause o h = subst Why (sym h.0) (untouched_nothing out h.1)

    says : (o : Outcome) (s : Status) → Why o → HasTold err o s → SaysOf s
    says outcome.Done s h t = subst SaysOf (sym t.0) (and_task asked task (HasWritten is_chosen source out clock close.Well) is h, t.1)
    says (outcome.PascalFault kind) s h t = subst SaysOf (sym t.0) (kind, and_task asked task (HasWritten is_chosen source out clock (close.Faulted kind)) is h, t.1)
    says outcome.ClockFault s h t = subst SaysOf (sym t.0) (and_task asked task (HasWritten is_chosen source out clock close.ByClock) is h.0, h.1, t.1)
    says (outcome.Refused refusal words) s h t =
        subst SaysOf (sym t.0) (refusal, and_task asked task (IsRefused is_chosen source out clock refusal) is h.0, h.2, subst (λ (line : List ℕ). HasLine err line) h.1 t.1)
    says outcome.ReadFault s h t = subst SaysOf (sym t.0) (and_task asked task ReadsInput is h.0, h.1, h.2, t.1)
    says outcome.WriteFault s h t =
        subst SaysOf (sym t.0) (and_task asked task (λ u. WritesPrefix is_chosen u (told clock) (clock.faults clock.before) (clock.faults clock.after) (told source) (told out) (tells_now out)) is h.0, h.1, t.1)
    says outcome.Memory s h t = subst SaysOf (sym t.0) (h, t.1)

    module _ (refusal : Refusal) (input : List ℕ) (a : IsSomeAnd asked (λ u. ReadsInput u × IsRefusable (contents_of u) refusal input)) (left : told source ≡ Some input) where
      unwritten : (c : Close) (written : List ℕ) → IsOutput is_chosen task (told clock) (told source) c written → ⊥
      unwritten c written output =
          output_refused one_tree is_chosen task (told clock) (told source) c written output refusal input left (of_task asked task (λ u. ReadsInput u × IsRefusable (contents_of u) refusal input) is a)

      refuses : (o : Outcome) (s : Status) → Why o → HasTold err o s → MayRefuse s
      refuses outcome.Done s h t = absurd (unwritten close.Well h.writes.written h.writes.output)
      refuses (outcome.PascalFault kind) s h t = absurd (unwritten (close.Faulted kind) h.writes.written h.writes.output)
      refuses outcome.ClockFault s h t = absurd (unwritten close.ByClock h.0.writes.written h.0.writes.output)
      refuses (outcome.Refused r words) s h t = subst MayRefuse (sym t.0) tt
      refuses outcome.ReadFault s h t = subst MayRefuse (sym t.0) tt
      refuses outcome.WriteFault s h t = absurd (unwritten h.0.close h.0.written h.0.output)
      refuses outcome.Memory s h t = subst MayRefuse (sym t.0) tt

    module _ (o_works : HasFaulted out → ⊥) where
      complete : (input : List ℕ) → IsSomeAnd asked (λ u. ReadsInput u × IsInput (contents_of u) input) → told source ≡ Some input
          → (HasFaulted source → ⊥) → (HasFaulted clock → ⊥) → (o : Outcome) (s : Status) → Why o → HasTold err o s → MayFinish s
      complete input a left s_works c_works outcome.Done s h t = subst MayFinish (sym t.0) tt
      complete input a left s_works c_works (outcome.PascalFault kind) s h t = subst MayFinish (sym t.0) tt
      complete input a left s_works c_works outcome.ClockFault s h t = absurd (c_works h.1)
      complete input a left s_works c_works (outcome.Refused refusal words) s h t =
          absurd (refused_input one_tree (contents_of task) (told source) refusal input h.0.refuses left (of_task asked task (λ u. ReadsInput u × IsInput (contents_of u) input) is a).1)
      complete input a left s_works c_works outcome.ReadFault s h t = absurd (s_works h.1)
      complete input a left s_works c_works outcome.WriteFault s h t = absurd (o_works h.1)
      complete input a left s_works c_works outcome.Memory s h t = subst MayFinish (sym t.0) tt

      complete_alone : (ReadsInput task → ⊥) → (o : Outcome) (s : Status) → Why o → HasTold err o s → MayFinish s
      complete_alone alone outcome.Done s h t = subst MayFinish (sym t.0) tt
      complete_alone alone (outcome.PascalFault kind) s h t = subst MayFinish (sym t.0) tt
      complete_alone alone outcome.ClockFault s h t = absurd (alone_well is_chosen task (told clock) (told source) h.0.writes.written alone h.0.writes.output)
      complete_alone alone (outcome.Refused refusal words) s h t = absurd (alone h.0.reads)
      complete_alone alone outcome.ReadFault s h t = absurd (alone h.0)
      complete_alone alone outcome.WriteFault s h t = absurd (o_works h.1)
      complete_alone alone outcome.Memory s h t = subst MayFinish (sym t.0) tt

    pub task_told : (done : Result (List ℕ × Close) Stop) → IfOk done (λ x. IsOutput is_chosen task (told clock) (told source) x.1 x.0) → IfOk done (λ x. x.1 ≡ close.ByClock → HasFaulted clock)
        → OnOk done (ReadsInput task → IsAtEnd (tells_now source)) → IfErr done (HasFailed task (told source) (source.faults source.before) (source.faults source.after))
        → clock.faults clock.before ≤ clock.faults clock.after → ((AsksClock task → ⊥) → IsUntouched clock)
        → TakesAtMost (input_limit (contents_of task) + 1) (told source) (tells_now source) → ((ReadsInput task → ⊥) → IsUntouched source)
        → (o : Outcome) (s : Status) → HasClosed out done o → HasTold err o s → Answers s
    task_told done output by_clock end cause later unasked stops idle o s closed t =
        let h = explained done output by_clock end cause o closed in
        record {
          says = says o s h t;
          refuses = λ refusal input a left. refuses refusal input a left o s h t;
          complete = λ input a left s_works o_works c_works. complete o_works input a left s_works c_works o s h t;
          complete_alone = λ a o_works. complete_alone o_works (of_task asked task (λ u. ReadsInput u → ⊥) is a) o s h t;
          no_usage = λ n. absurd (some_asked asked task is n);
          stops = at_task asked task (λ u. TakesAtMost (input_limit (contents_of u) + 1) (told source) (tells_now source)) is stops;
          unread = λ n. idle (λ r. n (and_task asked task ReadsInput is r));
          later = later;
          unasked = λ n. unasked (λ r. n (and_task asked task AsksClock is r));
        }
