-- What reading a text answers.
use Rattle.std.specs.Prelude.{◌≡◌, ℕ, zero, suc, ◌-◌, ◌==◌, if◌then◌else◌, List, [], ◌∷◌, Result, Ok, Err}
use Rattle.estelle_model.specs.declared.event.Event.{Event}
use Rattle.estelle_model.specs.declared.event.End.{End}
use Rattle.estelle_model.specs.declared.event.Run.{Run}
use Rattle.estelle_model.specs.Trace.{text}
use Rattle.trace_text.specs.declared.error.TraceError.{TraceError}
use Rattle.trace_text.specs.declared.error.TraceError.TheVariants.{BadTrace, Memory}
use Rattle.trace_text.specs.Forms.{HasForm}

-- the text of events and an end that have the form
pub record IsTrace (bytes : List ℕ) (events : List Event) (end_ : End) : Type 0 where
  pub form : HasForm events end_
  pub is : text events end_ ≡ bytes

-- so many lines from the front of a text, each with its line end; where it has no more of them, all of it
abbrev pub first_lines : ℕ → List ℕ → List ℕ
first_lines n [] = []
first_lines zero (c ∷ t) = []
first_lines (suc n) (c ∷ t) = c ∷ first_lines (if c == 10 then n else suc n) t

-- some trace text begins with so many lines of this one
pub record Begins (n : ℕ) (bytes : List ℕ) : Type 0 where
  pub events : List Event
  pub end_ : End
  pub form : HasForm events end_
  pub same : first_lines n (text events end_) ≡ first_lines n bytes

-- no trace text begins with the lines up to this one, and one begins with the lines before it
pub record IsBadLine (bytes : List ℕ) (line : ℕ) : Type 0 where
  pub before : Begins (line - 1) bytes
  pub bad : ¬ Begins line bytes

-- ---- answers

-- what is refused is so; want of memory says nothing of the text
abbrev pub IsRefused : List ℕ → TraceError → Type 0
IsRefused bytes (BadTrace line) = IsBadLine bytes line
IsRefused bytes Memory = Unit {0}

-- the answer is this run and this end, unless memory ran out
abbrev pub Gives : List Event → End → Result (Run × End) TraceError → Type 0
Gives events end_ (Ok told) = (told.0.events ≡ events) × (told.1 ≡ end_)
Gives events end_ (Err (BadTrace line)) = ⊥
Gives events end_ (Err Memory) = Unit {0}

-- the answer is this line, unless memory ran out
abbrev pub Refuses : ℕ → Result (Run × End) TraceError → Type 0
Refuses line (Ok told) = ⊥
Refuses line (Err (BadTrace n)) = n ≡ line
Refuses line (Err Memory) = Unit {0}

-- what is answered holds of the text
abbrev pub IsAnswer : List ℕ → Result (Run × End) TraceError → Type 0
IsAnswer bytes (Ok told) = IsTrace bytes told.0.events told.1
IsAnswer bytes (Err error) = IsRefused bytes error
