-- Tickets of the firings that workers took (this project's own: the standard leaves open how firings are computed).
use Rattle.std.specs.Prelude.{◌≡◌, ℕ, Bool, false, ◌&&◌, nat_eq, List, ◌∷◌, ◌++◌, length, filter_map, Option, Some, None, IfSome, All, Contains}
use Rattle.std.specs.List.{range_with_len, find}
use Rattle.std.specs.Str.{bytes_eq}
use Rattle.estelle_tree.specs.Paths.{Path}
use Rattle.estelle_model.specs.declared.event.Event.{Event}
use Rattle.estelle_model.specs.declared.event.Event.TheVariants as event
use Rattle.estelle_model.specs.declared.job.Job.{Job}
use Rattle.estelle_model.specs.Subject.{Subject}
use Rattle.estelle_tree.specs.Timers.{pair}
use Rattle.estelle_model.specs.Runs.{situation}
use Rattle.estelle_model.specs.Jobs.{IsJobIn}
use Rattle.run_history.specs.declared.entry.Entry.{Entry}
use Rattle.run_history.specs.declared.entry.What.{What}
use Rattle.run_history.specs.declared.entry.What.TheVariants as what
use Rattle.run_history.specs.Histories.{project}

abbrev pub ticket_of : What → Option ℕ
ticket_of (what.Take ticket path trans) = Some ticket
ticket_of (what.Event e) = None
ticket_of (what.Ended end) = None

abbrev pub tickets : List Entry → List ℕ
tickets = filter_map (λ e. ticket_of e.what)

-- tickets are given out from 1 on
abbrev pub AreInOrder : List Entry → Type 0
AreInOrder es = tickets es ≡ range_with_len 1 (length (tickets es))

-- ---- open tickets

abbrev pub settled_by : Path → ℕ → Event → Bool
settled_by m n (event.Fire path trans outs drops) = bytes_eq m path && nat_eq n trans
settled_by m n (event.Fault path trans kind) = bytes_eq m path && nat_eq n trans
settled_by m n (event.Start outs drops) = false
settled_by m n (event.Select system now takes) = false

abbrev pub settled_in : Path → ℕ → What → Bool
settled_in m n (what.Event e) = settled_by m n e
settled_in m n (what.Take ticket path trans) = false
settled_in m n (what.Ended end) = false

-- the entry is the firing of this transition, or its fault
abbrev pub settles : Path → ℕ → Entry → Bool
settles m n e = settled_in m n e.what

-- the transition n of the instance m was taken under ticket k, between these entries
pub record IsTake (es : List Entry) (k : ℕ) (m : Path) (n by : ℕ) (before after : List Entry) : Type 0 where
  pub stands : es ≡ before ++ (record { by = by; what = what.Take k m n }) ∷ after

-- neither a firing nor a fault of what was taken stands after its entry
pub record IsOpen (es : List Entry) (k : ℕ) (m : Path) (n : ℕ) : Type 0 where
  pub by : ℕ
  pub before : List Entry
  pub after : List Entry
  pub take : IsTake es k m n by before after
  pub unsettled : All (λ e. settles m n e ≡ false) after

-- what was taken is settled by the writer that took it
abbrev pub AreSettledByTaker : List Entry → Type 0
AreSettledByTaker es = (k n by : ℕ) (m : Path) (before after : List Entry) → IsTake es k m n by before after → IfSome (find (settles m n) after) (λ e. e.by ≡ by)

-- ---- what is taken

-- the firing is pending where it is taken, and no other ticket for it is open
pub record MayTake (s : Subject) (budget : ℕ) (before : List Entry) (m : Path) (n : ℕ) : Type 0 where
  pub pending : Contains (situation s budget (project before)).pending (pair m n)
  pub free : (k : ℕ) → IsOpen before k m n → ⊥

abbrev pub AreTaken : Subject → ℕ → List Entry → Type 0
AreTaken s budget es = (k n by : ℕ) (m : Path) (before after : List Entry) → IsTake es k m n by before after → MayTake s budget before m n

-- the tickets of a history
pub record AreTickets (s : Subject) (budget : ℕ) (es : List Entry) : Type 0 where
  pub in_order : AreInOrder es
  pub taken : AreTaken s budget es
  pub by_taker : AreSettledByTaker es

-- the job of a ticket: the firing in the situation in which it was taken, with the whole budget
pub record IsJobOf (s : Subject) (budget : ℕ) (es : List Entry) (job : Job) : Type 0 where
  pub by : ℕ
  pub before : List Entry
  pub after : List Entry
  pub take : IsTake es job.ticket job.path job.trans by before after
  pub budget_is : job.budget ≡ budget
  pub in_situation : IsJobIn s (situation s budget (project before)) job
