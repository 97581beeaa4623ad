use Rattle.std.proofs.Common.{◌∙◌, sym}
use Rattle.trace_text.proofs.WordLemmas.{no_letter, no_name, name_stands}
use Rattle.trace_text.proofs.fields.name.Goals as goal

pub returns-then-not-begins_with_letter : goal.returns-then-not-begins_with_letter
returns-then-not-begins_with_letter c = no_letter c.args.bytes.now c.args.at c.run_end-end.result c.run_end-end.ensures (sym c.begins_with_letter.ensures ∙ c.if-not-begins_with_letter.true)

pub returns-then-is_name : goal.returns-then-is_name
returns-then-is_name c = name_stands c.args.bytes.now c.args.at c.run_end-end.result c.run_end-end.ensures c.in-Ok.word c.in-Ok.ensures (sym c.begins_with_letter.ensures ∙ c.if-not-begins_with_letter.false) c.if-is_name.ensures

pub returns-else-is_name : goal.returns-else-is_name
returns-else-is_name c = no_name c.args.bytes.now c.args.at c.run_end-end.result c.run_end-end.ensures c.in-Ok.word c.in-Ok.ensures c.if-is_name.ensures
