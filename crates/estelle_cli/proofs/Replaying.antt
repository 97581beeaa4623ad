-- A trace has no more events than bytes.
use Rattle.std.proofs.Common.{ℕ, ◌<◌, ◌≤◌, ◌^◌, List, [], ◌∷◌, length, ap, arith}
use Rattle.std.specs.Prelude.{flat_map}
use Rattle.std.proofs.lemmas.List.{length-append}
use Rattle.estelle_model.specs.declared.event.Event.{Event}
use Rattle.estelle_model.specs.declared.event.Event.TheVariants.{Start, Select, Fire, Fault}
use Rattle.estelle_model.specs.declared.event.End.{End}
use Rattle.estelle_model.specs.Trace.{text, event_lines, end_line}
use Rattle.trace_text.specs.Readings.{IsTrace}

some_line : (e : Event) → 1 ≤ length (event_lines e)
unfolding event_lines
some_line (Start outs drops) = omega arith
some_line (Select system now takes) = omega arith
some_line (Fire m n outs drops) = omega arith
some_line (Fault m n kind) = omega arith

lines_of : (events : List Event) → length events ≤ length (flat_map event_lines events)
lines_of [] = omega arith
lines_of (e ∷ events) =
    let one = some_line e in
    let rest = lines_of events in
    let all = length-append (event_lines e) (flat_map event_lines events) in
    omega (arith, one, rest, all)

events_fit : (events : List Event) (e : End) → length events ≤ length (text events e)
events_fit events e =
    let lines = lines_of events in
    let all = length-append (flat_map event_lines events) (end_line e) in
    omega (arith, lines, all)

pub few_events : (trace : List ℕ) (events : List Event) (e : End) → IsTrace trace events e → length trace < 2 ^ 31 → length events < 2 ^ 31
few_events trace events e told short =
    let fit = events_fit events e in
    let is = ap (λ (t : List ℕ). length t) told.is in
    omega (arith, fit, is, short)
