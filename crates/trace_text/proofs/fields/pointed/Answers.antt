use Rattle.std.proofs.Common.{◌+◌}
use Rattle.estelle_model.specs.Trace.{path_text}
use Rattle.trace_text.specs.declared.error.Missing.TheVariants.{Absent}
use Rattle.trace_text.specs.Forms.{IsPath, IsName}
use Rattle.trace_text.specs.Fields.{Any, EndsPath, closed, name_text}
use Rattle.trace_text.proofs.FieldLemmas.{not_closed, closed_stands, first_missing, second_missing}
use Rattle.trace_text.proofs.LineFields.{dot_ends, closed_paths_unique}
use Rattle.trace_text.proofs.PathLemmas.{paths_unique}
use Rattle.trace_text.proofs.fields.pointed.Goals as goal

pub returns-then-not-stands : goal.returns-then-not-stands
returns-then-not-stands c = first_missing (closed 46 path_text) IsPath Any (closed 32 name_text) IsName Any (λ w t form stop. tt) c.args.bytes.now c.args.at Absent (not_closed path_text IsPath EndsPath 46 dot_ends c.args.bytes.now c.args.at c.args.path c.args.mid c.requires paths_unique c.if-not-stands.ensures)

pub returns-in-Err : goal.returns-in-Err
returns-in-Err c = second_missing (closed 46 path_text) IsPath Any (closed 32 name_text) IsName Any (λ w t form stop. tt) c.args.bytes.now c.args.at c.args.path (c.args.mid + 1) (closed_stands path_text IsPath EndsPath 46 dot_ends c.args.bytes.now c.args.at c.args.path c.args.mid c.requires c.if-not-stands.ensures) closed_paths_unique c.in-Err.missing c.in-Err.ensures
