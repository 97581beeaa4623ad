use Rattle.std.proofs.Common.{refl}
use Rattle.estelle_model.specs.Trace.{kind_text}
use Rattle.trace_text.specs.declared.error.Missing.TheVariants.{Absent}
use Rattle.trace_text.specs.Fields.{Anything, EndsWord}
use Rattle.trace_text.proofs.FieldLemmas.{closed_missing, not_closed, closed_stands}
use Rattle.trace_text.proofs.WordLemmas.{unknown_kind, kind_stands, kinds_unique}
use Rattle.trace_text.proofs.fields.kind_line.Goals as goal

pub returns-in-None : goal.returns-in-None
returns-in-None c = closed_missing kind_text Anything EndsWord 10 (λ t. refl) c.args.bytes.now c.args.at Absent (unknown_kind c.args.bytes.now c.args.at c.run_end-end.result c.run_end-end.ensures c.in-None.ensures)

pub returns-then-stands : goal.returns-then-stands
returns-then-stands c = closed_stands kind_text Anything EndsWord 10 (λ t. refl) c.args.bytes.now c.args.at c.in-Some.kind c.run_end-end.result (kind_stands c.args.bytes.now c.args.at c.run_end-end.result c.run_end-end.ensures c.in-Some.kind c.in-Some.ensures) c.if-stands.ensures

pub returns-else-stands : goal.returns-else-stands
returns-else-stands c = not_closed kind_text Anything EndsWord 10 (λ t. refl) c.args.bytes.now c.args.at c.in-Some.kind c.run_end-end.result (kind_stands c.args.bytes.now c.args.at c.run_end-end.result c.run_end-end.ensures c.in-Some.kind c.in-Some.ensures) kinds_unique c.if-stands.ensures
