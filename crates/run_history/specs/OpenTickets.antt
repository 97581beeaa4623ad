-- Open tickets as a list: what workers took and have not settled yet, in the order in which they took it.
use Rattle.std.specs.Prelude.{◌≡◌, ◌≢◌, ◌↔◌, ℕ, ◌+◌, ◌<◌, true, false, not, List, [], ◌∷◌, ◌++◌, length, fold, filter, slice_get, Some, All, AllPairs, Contains}
use Rattle.std.specs.List.{list_any, remove, AllByRecursion}
use Rattle.estelle_tree.specs.Paths.{Path}
use Rattle.estelle_tree.specs.Timers.{pair}
use Rattle.estelle_tree.specs.declared.transition.Pair.{Pair}
use Rattle.estelle_model.specs.declared.job.Job.{Job}
use Rattle.estelle_model.specs.Subject.{Subject}
use Rattle.estelle_model.specs.declared.effect.Out.{Out}
use Rattle.estelle_model.specs.declared.event.Event.{Event}
use Rattle.estelle_model.specs.declared.event.Event.TheVariants as event
use Rattle.estelle_model.specs.Runs.{same_pair, without, situation}
use Rattle.run_history.specs.declared.entry.Entry.{Entry}
use Rattle.run_history.specs.declared.entry.Taken.{Taken}
use Rattle.run_history.specs.declared.entry.What.{What}
use Rattle.run_history.specs.declared.entry.What.TheVariants as what
use Rattle.run_history.specs.Histories.{project}
use Rattle.run_history.specs.Tickets.{tickets, AreInOrder, settled_by, IsOpen, AreTickets, IsJobOf}

-- what an entry makes of the open tickets: a take comes behind them, and a firing or a fault takes its own out
abbrev pub after_what : ℕ → What → List Taken → List Taken
after_what by (what.Take ticket path trans) os = os ++ record { ticket = ticket; path = path; trans = trans; by = by } ∷ []
after_what by (what.Event e) os = filter (λ o. not (settled_by o.path o.trans e)) os
after_what by (what.Ended end) os = os

-- the tickets that are open behind these entries
abbrev pub open_in : List Entry → List Taken
open_in es = fold (λ os e. after_what e.by e.what os) [] es

-- of what is pending, what nobody has taken
abbrev pub untaken : List Taken → List Pair → List Pair
untaken os ps = filter (λ p. not (list_any (λ o. same_pair (pair o.path o.trans) p) os)) ps

-- no firing stands twice in the list
abbrev pub AreOnce : List Pair → Type 0
AreOnce [] = Unit {0}
AreOnce (p ∷ ps) = AllByRecursion (λ q. same_pair p q ≡ false) ps × AreOnce ps

-- ---- laws

-- the list has just the open tickets, each with who took it
abbrev pub OpenTicketsAreListed : Type 0
OpenTicketsAreListed = (es : List Entry) (o : Taken) → Contains (open_in es) o ↔ ((i : IsOpen es o.ticket o.path o.trans) × (i.by ≡ o.by))

-- the least ticket comes first
abbrev pub OpenTicketsRise : Type 0
OpenTicketsRise = (es : List Entry) → AreInOrder es → AllPairs (λ a b. a.ticket < b.ticket) (open_in es)

-- An entry that may be noted next: a take has the next number, and what it takes is pending and not taken; a firing or a fault settles no ticket of another writer.
abbrev pub MayFollow : Subject → ℕ → List Entry → ℕ → What → Type 0
MayFollow s budget es by (what.Take ticket path trans) = (ticket ≡ length (tickets es) + 1) × Contains (untaken (open_in es) (situation s budget (project es)).pending) (pair path trans)
MayFollow s budget es by (what.Event e) = All (λ o. settled_by o.path o.trans e ≡ true → o.by ≡ by) (open_in es)
MayFollow s budget es by (what.Ended end) = Unit {0}

abbrev pub TicketsGoOn : Type 0
TicketsGoOn = (s : Subject) (budget : ℕ) (es : List Entry) (e : Entry) → AreTickets s budget es → MayFollow s budget es e.by e.what → AreTickets s budget (es ++ e ∷ [])

-- a ticket stays open while only others than its writer note something
abbrev pub TicketsStayOpen : Type 0
TicketsStayOpen = (s : Subject) (budget : ℕ) (es more : List Entry) (o : Taken) → AreTickets s budget (es ++ more) → Contains (open_in es) o → All (λ e. e.by ≢ o.by) more → Contains (open_in (es ++ more)) o

-- the job of a ticket stays the same, whatever is noted later
abbrev pub JobsStay : Type 0
JobsStay = (s : Subject) (budget : ℕ) (es more : List Entry) (job : Job) → IsJobOf s budget es job → IsJobOf s budget (es ++ more) job

-- ---- what settles a ticket

-- no two tickets are of one firing
abbrev pub AreApart : List Taken → Type 0
AreApart [] = Unit {0}
AreApart (o ∷ os) = AllByRecursion (λ x. same_pair (pair o.path o.trans) (pair x.path x.trans) ≡ false) os × AreApart os

abbrev pub OpenTicketsAreApart : Type 0
OpenTicketsAreApart = (s : Subject) (budget : ℕ) (es : List Entry) → AreTickets s budget es → AreApart (open_in es)

-- what settles a ticket settles no other, so that its writer may note it
abbrev pub SettlingFollows : Type 0
SettlingFollows = (s : Subject) (budget : ℕ) (es : List Entry) → AreTickets s budget es → (at : ℕ) (o : Taken) → slice_get (open_in es) at ≡ Some o → (e : Event) → settled_by o.path o.trans e ≡ true → MayFollow s budget es o.by (what.Event e)

-- and it takes that ticket alone out
abbrev pub SettlingTakesOut : Type 0
SettlingTakesOut = (os : List Taken) → AreApart os → (at : ℕ) (o : Taken) → slice_get os at ≡ Some o → (e : Event) (by : ℕ) → settled_by o.path o.trans e ≡ true → after_what by (what.Event e) os ≡ remove os at

-- what settles none takes none out
abbrev pub OthersTakeNoneOut : Type 0
OthersTakeNoneOut = (os : List Taken) (e : Event) (by : ℕ) → AllByRecursion (λ o. settled_by o.path o.trans e ≡ false) os → after_what by (what.Event e) os ≡ os

-- ---- what nobody has taken

-- a take takes its firing out of it
abbrev pub TakesLeave : Type 0
TakesLeave = (os : List Taken) (o : Taken) (ps : List Pair) → AreOnce ps → untaken (after_what o.by (what.Take o.ticket o.path o.trans) os) ps ≡ without (pair o.path o.trans) (untaken os ps)

-- a firing that was taken leaves it as it is
abbrev pub FiringsLeave : Type 0
FiringsLeave = (os : List Taken) (p : Pair) (outs : List Out) (drops : List ℕ) (by : ℕ) (ps : List Pair) → list_any (λ o. same_pair (pair o.path o.trans) p) os ≡ true → AreOnce ps
    → untaken (after_what by (what.Event (event.Fire p.path p.trans outs drops)) os) (without p ps) ≡ untaken os ps

-- what a system selects, of which nothing was taken, comes behind it
abbrev pub SelectionsLeave : Type 0
SelectionsLeave = (os : List Taken) (by : ℕ) (system : Path) (now : ℕ) (ps takes : List Pair) → AllByRecursion (λ p. list_any (λ o. same_pair (pair o.path o.trans) p) os ≡ false) takes
    → untaken (after_what by (what.Event (event.Select system now takes)) os) (ps ++ takes) ≡ untaken os ps ++ takes
