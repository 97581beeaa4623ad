-- What the words of the command line ask for.
use Rattle.std.specs.Prelude.{ℕ, ◌≤◌, ⊤, List, Option, option_map}
use Rattle.estelle_words.specs.Words.{meaning}
use Rattle.estelle_words.specs.declared.command.Settings.{Settings}
use Rattle.estelle_words.specs.declared.command.Command.{Command}
use Rattle.estelle_words.specs.declared.command.Command.TheVariants as command
use Rattle.situation.specs.declared.limits.Limits.{Limits}
use Rattle.estelle_cli.specs.declared.contents.Contents.{Contents}
use Rattle.estelle_cli.specs.declared.contents.Contents.TheVariants.{Alone, Traced}
use Rattle.estelle_cli.specs.declared.task.Task.{Task}
use Rattle.estelle_cli.specs.declared.task.Task.TheVariants.{Run, Check, Show, Code, Replay, Make, Trial}

abbrev pub limits_of : Settings → Limits
limits_of set = record { turns = set.turns; budget = set.budget }

abbrev pub task_by : Command → Settings → Task
task_by command.Run set = Run (limits_of set) set.seed set.workers
task_by command.Check set = Check
task_by command.Show set = Show
task_by command.Code set = Code
task_by command.Replay set = Replay set.budget
task_by command.Make set = Make set.stations
task_by command.Trial set = Trial set.stations (limits_of set) set.seed

-- the task that settings stand for
abbrev pub task_of : Settings → Task
task_of set = task_by set.command set

-- what the words ask for, where they have a meaning
abbrev pub asked : List (List ℕ) → Option Task
asked words = option_map task_of (meaning words)

-- it is done with the input
abbrev pub ReadsInput : Task → Type 0
ReadsInput (Run limits seed workers) = ⊤
ReadsInput Check = ⊤
ReadsInput Show = ⊤
ReadsInput Code = ⊤
ReadsInput (Replay budget) = ⊤
ReadsInput (Make n) = ⊥
ReadsInput (Trial n limits seed) = ⊥

-- what its input is to be
abbrev pub contents_of : Task → Contents
contents_of (Run limits seed workers) = Alone
contents_of Check = Alone
contents_of Show = Alone
contents_of Code = Alone
contents_of (Replay budget) = Traced budget
contents_of (Make n) = Alone
contents_of (Trial n limits seed) = Alone

-- the clock may be asked for it
abbrev pub AsksClock : Task → Type 0
AsksClock (Run limits seed workers) = ⊤
AsksClock Check = ⊥
AsksClock Show = ⊥
AsksClock Code = ⊥
AsksClock (Replay budget) = ⊥
AsksClock (Make n) = ⊥
AsksClock (Trial n limits seed) = ⊥

-- a firing has up to 100,000,000 units
abbrev pub IsBudget : ℕ → Type 0
IsBudget budget = budget ≤ 100000000

-- and a run up to 1,000,000 firings
abbrev pub AreLimits : Limits → Type 0
AreLimits limits = (limits.turns ≤ 1000000) × IsBudget limits.budget

-- with up to 64 workers, and without any on one thread
abbrev pub AreWorkers : ℕ → Type 0
AreWorkers workers = workers ≤ 64

-- a ring has 2 to 200 stations
abbrev pub AreStations : ℕ → Type 0
AreStations n = (2 ≤ n) × (n ≤ 200)

abbrev pub IsInRange : Task → Type 0
IsInRange (Run limits seed workers) = AreLimits limits × AreWorkers workers
IsInRange Check = ⊤
IsInRange Show = ⊤
IsInRange Code = ⊤
IsInRange (Replay budget) = IsBudget budget
IsInRange (Make n) = AreStations n
IsInRange (Trial n limits seed) = AreStations n × AreLimits limits
