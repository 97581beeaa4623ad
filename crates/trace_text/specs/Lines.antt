-- The lines of a trace.
use Rattle.std.specs.Prelude.{◌≡◌, ℕ, List, [], ◌++◌, codes}
use Rattle.estelle_model.specs.declared.event.Event.{Event}
use Rattle.estelle_model.specs.declared.event.Event.TheVariants.{Start, Select, Fire, Fault}
use Rattle.estelle_model.specs.Trace.{event_lines, out_line, drop_line, end_line, line_end}
use Rattle.trace_text.specs.declared.line.Line.{Line}
use Rattle.trace_text.specs.declared.line.Line.TheVariants as line
use Rattle.trace_text.specs.Forms.{IsBetween, IsNumber, IsPath, IsTransition, AreTakes, IsOut}

-- the text of a line; the line of an event has its outputs and drops in lines of their own
abbrev pub line_text : Line → List ℕ
line_text line.Head = codes "estelle trace 1" ++ line_end
line_text (line.Event event) = event_lines event
line_text (line.Out o) = out_line o
line_text (line.Drop n) = drop_line n
line_text (line.End e) = end_line e

-- the line of an event by itself; 0 is the transition of a start that faults
abbrev pub IsEventLine : Event → Type 0
IsEventLine (Start outs drops) = (outs ≡ []) × (drops ≡ [])
IsEventLine (Select system now takes) = IsPath system × IsNumber now × AreTakes takes
IsEventLine (Fire m n outs drops) = IsPath m × IsTransition n × (outs ≡ []) × (drops ≡ [])
IsEventLine (Fault m n kind) = IsPath m × IsBetween 0 4096 n

-- a line that has the form
abbrev pub IsLine : Line → Type 0
IsLine line.Head = Unit {0}
IsLine (line.Event event) = IsEventLine event
IsLine (line.Out o) = IsOut o
IsLine (line.Drop n) = IsNumber n
IsLine (line.End e) = Unit {0}
