-- Events and firings among entries.
use Rattle.std.proofs.Common.{◌≡◌, ◌≤◌, ◌<◌, ℕ, ◌+◌, ◌++◌, ◌∷◌, [], List, length, take, get_or, ap, ◌∙◌, arith}
use Rattle.std.specs.Prelude.{cond}
use Rattle.std.proofs.lemmas.List.{take_more}
use Rattle.std.proofs.lemmas.List.Elements.{filter_map-append}
use Rattle.std.proofs.lemmas.List.Sums.{sum_by-append, count_by-le-length}
use Rattle.estelle_model.specs.Ends.{is_fire}
use Rattle.estelle_model.specs.Ends as events
use Rattle.run_history.specs.declared.entry.Entry.{Entry}
use Rattle.run_history.specs.declared.entry.What.{What}
use Rattle.run_history.specs.declared.entry.What.TheVariants as what
use Rattle.run_history.specs.Histories.{event_of, project, fires}

-- the events of one more entry
pub project_more : (es : List Entry) (i : ℕ) (e : Entry) → i < length es → project (take (i + 1) es) ≡ project (take i es) ++ project (get_or es i e ∷ [])
project_more es i e within = ap project (take_more es i e within) ∙ filter_map-append (λ e. event_of e.what) (take i es) (get_or es i e ∷ [])

-- the events of entries with one more behind them
pub project_last : (es : List Entry) (e : Entry) → project (es ++ e ∷ []) ≡ project es ++ project (e ∷ [])
project_last es e = filter_map-append (λ e. event_of e.what) es (e ∷ [])

-- the firings of one more entry
pub fires_more : (es : List Entry) (e : Entry) → fires (es ++ e ∷ []) ≡ fires es + fires (e ∷ [])
fires_more es e = ap events.fires (filter_map-append (λ e. event_of e.what) es (e ∷ [])) ∙ sum_by-append (λ e. cond (is_fire e) 1 0) (project es) (project (e ∷ []))

-- an entry is one event at most
project_within : (es : List Entry) → length (project es) ≤ length es
project_within [] = omega arith
project_within (e ∷ es) = by e.what (project_within es)
  where
    by : (w : What) → length (project es) ≤ length es → length (project (record e { what = w } ∷ es)) ≤ length (e ∷ es)
    by (what.Event event) rest = omega arith
    by (what.Take ticket path trans) rest = omega arith
    by (what.Ended end) rest = omega arith

pub fires_within : (es : List Entry) → fires es ≤ length es
fires_within es = let a = count_by-le-length is_fire (project es) in let b = project_within es in omega arith
