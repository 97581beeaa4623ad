use Rattle.std.proofs.Common.{◌∙◌, sym}
use Rattle.trace_text.proofs.NumberLemmas.{leading_zero, no_text, no_natural, natural_read}
use Rattle.trace_text.proofs.numbers.natural.Goals as goal

pub returns-then-has_leading_zero : goal.returns-then-has_leading_zero
returns-then-has_leading_zero c = leading_zero c.args.run.now c.if-has_leading_zero.ensures.0 c.if-has_leading_zero.ensures.1

pub returns-in-Err : goal.returns-in-Err
returns-in-Err c = no_text c.args.run.now c.in-Err.ensures.cases.0

pub returns-in-Err-parse : goal.returns-in-Err-parse
returns-in-Err-parse c = λ n n_in e. no_natural c.in-Ok.text.now c.parse.result c.in-Err-parse.field-0 c.parse.ensures.value.0 c.in-Err-parse.is n n_in (e ∙ sym c.in-Ok.ensures.cases.0)

pub returns-in-Ok-parse : goal.returns-in-Ok-parse
returns-in-Ok-parse c = natural_read c.args.run.now c.in-Ok.text.now c.parse.result c.in-Ok-parse.n c.in-Ok.ensures.cases.0 c.requires c.if-has_leading_zero.ensures c.parse.ensures.value.0 c.in-Ok-parse.is
