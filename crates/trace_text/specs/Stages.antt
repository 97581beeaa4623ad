-- How the lines of a trace make its events and its end, line by line.
use Rattle.std.specs.Prelude.{◌≡◌, ℕ, ◌==◌, nat_lt, nat_le, ◌&&◌, Bool, true, false, if◌then◌else◌, List, [], ◌∷◌, ◌++◌, drop, Option, Some, None, Result, Ok, Err}
use Rattle.std.specs.Option.{option_map}
use Rattle.std.specs.Str.{bytes_eq}
use Rattle.pascal_values.specs.declared.fault.Fault as fault
use Rattle.estelle_tree.specs.Paths.{Path}
use Rattle.estelle_model.specs.declared.effect.Out.{Out}
use Rattle.estelle_model.specs.declared.event.Event.{Event}
use Rattle.estelle_model.specs.declared.event.Event.TheVariants.{Start, Fire, Fault}
use Rattle.estelle_model.specs.declared.event.End.{End}
use Rattle.estelle_model.specs.declared.event.End.TheVariants.{Faulted}
use Rattle.estelle_model.specs.Trace.{kind_text}
use Rattle.estelle_model.specs.declared.event.Run.{Run}
use Rattle.trace_text.specs.declared.error.Missing.{Missing}
use Rattle.trace_text.specs.declared.error.Missing.TheVariants.{Absent, Memory}
use Rattle.trace_text.specs.declared.error.TraceError.{TraceError}
use Rattle.trace_text.specs.declared.error.TraceError.TheVariants.{BadTrace}
use Rattle.trace_text.specs.declared.line.Line.{Line}
use Rattle.trace_text.specs.declared.line.Line.TheVariants as line
use Rattle.trace_text.specs.declared.stage.Stage.{Stage}
use Rattle.trace_text.specs.declared.stage.Stage.TheVariants.{Nothing, Headed, Events, Ended}
use Rattle.trace_text.specs.Fields.{Stands, Any}
use Rattle.trace_text.specs.Lines.{line_text, IsLine}

-- what may be computed is, or there is nothing to compute; want of memory says nothing
abbrev pub Answers : {X : Type 0} → Result X Missing → Option X → Type 0
Answers (Ok x) o = o ≡ Some x
Answers (Err Absent) o = o ≡ None
Answers (Err Memory) o = Unit {0}

-- ---- outputs and drops of the last event

-- no output comes behind a drop
abbrev pub more_outs : List Out → List ℕ → Out → Option (List Out)
more_outs outs [] o = Some (outs ++ o ∷ [])
more_outs outs (k ∷ drops) o = None

abbrev pub with_out : Event → Out → Option Event
with_out (Start outs drops) o = option_map (λ more. Start more drops) (more_outs outs drops o)
with_out (Fire m n outs drops) o = option_map (λ more. Fire m n more drops) (more_outs outs drops o)
with_out _ o = None

-- the last one is less
abbrev pub rise_to : List ℕ → ℕ → Bool
rise_to [] k = true
rise_to (n ∷ []) k = nat_lt n k
rise_to (n ∷ (m ∷ ns)) k = rise_to (m ∷ ns) k

abbrev pub more_drops : List ℕ → ℕ → Option (List ℕ)
more_drops drops k = if rise_to drops k then Some (drops ++ k ∷ []) else None

abbrev pub with_drop : Event → ℕ → Option Event
with_drop (Start outs drops) k = option_map (λ more. Start outs more) (more_drops drops k)
with_drop (Fire m n outs drops) k = option_map (λ more. Fire m n outs more) (more_drops drops k)
with_drop _ k = None

-- ---- which event comes where

abbrev pub is_root : Path → Bool
is_root [] = true
is_root (n ∷ path) = false

abbrev pub comes_first : Event → Bool
comes_first (Start outs drops) = true
comes_first (Fault m n kind) = is_root m && (n == 0)
comes_first _ = false

abbrev pub comes_later : Event → Bool
comes_later (Start outs drops) = false
comes_later (Fault m n kind) = nat_le 1 n
comes_later _ = true

abbrev pub is_fault : Event → Bool
is_fault (Fault m n kind) = true
is_fault _ = false

abbrev pub same_kind : fault.Fault → fault.Fault → Bool
same_kind a b = bytes_eq (kind_text a) (kind_text b)

abbrev pub ends_behind : Event → End → Bool
ends_behind (Fault m n kind) (Faulted k) = same_kind kind k
ends_behind (Fault m n kind) e = false
ends_behind last (Faulted k) = false
ends_behind last e = true

-- ---- stages

abbrev pub begun : Event → Option Stage
begun event = if comes_first event then Some (Events [] event) else None

abbrev pub followed : List Event → Event → Event → Option Stage
followed done last event =
    if is_fault last then None
    else (if comes_later event then Some (Events (done ++ last ∷ []) event) else None)

abbrev pub ended : List Event → Event → End → Option Stage
ended done last e = if ends_behind last e then Some (Ended (done ++ last ∷ []) e) else None

-- behind an event
abbrev pub after_event : List Event → Event → Line → Option Stage
after_event done last line.Head = None
after_event done last (line.Event event) = followed done last event
after_event done last (line.Out o) = option_map (Events done) (with_out last o)
after_event done last (line.Drop k) = option_map (Events done) (with_drop last k)
after_event done last (line.End e) = ended done last e

-- the first line, the first event, the lines of events, and the end
abbrev pub step : Stage → Line → Option Stage
step Nothing line.Head = Some Headed
step Nothing _ = None
step Headed (line.Event event) = begun event
step Headed _ = None
step (Events done last) l = after_event done last l
step (Ended events e) l = None

-- ---- reading line after line

-- the next line stands at a place and makes this stage, or no line that may come stands there
abbrev pub IsNext : List ℕ → ℕ → Stage → Result (Stage × ℕ) Missing → Type 0
IsNext bytes place stage (Ok r) = (l : Line) × Stands line_text IsLine Any bytes place l r.1 × (step stage l ≡ Some r.0)
IsNext bytes place stage (Err Absent) = (l : Line) (t : List ℕ) → IsLine l → drop place bytes ≡ line_text l ++ t → step stage l ≡ None
IsNext bytes place stage (Err Memory) = Unit {0}

-- what is told at the end of a text: where the end has come, the events and the end, and else that the next line is missing
abbrev pub IsTold : Stage → ℕ → Result (Run × End) TraceError → Type 0
IsTold (Ended events e) line (Ok told) = (told.0.events ≡ events) × (told.1 ≡ e)
IsTold (Ended events e) line (Err error) = ⊥
IsTold stage line (Ok told) = ⊥
IsTold stage line (Err error) = error ≡ BadTrace line
