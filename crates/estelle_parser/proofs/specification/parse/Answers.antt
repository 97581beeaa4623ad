use Rattle.std.proofs.Common.{◌≡◌, ◌∙◌, ◌-◌, Err, length, ap, sym}
use Rattle.estelle_tree.specs.Input.{input}
use Rattle.token_reader.specs.declared.error.ReadError.TheVariants.{Refused, Memory}
use Rattle.estelle_parser.proofs.Whole.{spelled, no_other, none_refused, wrong}
use Rattle.estelle_parser.proofs.specification.parse.Goals as goal

pub returns-in-Ok-clause-spelled : goal.returns-in-Ok-clause-spelled
returns-in-Ok-clause-spelled c =
    spelled c.args.tokens.now.items c.new-place.result
    (c.new-place.ensures ∙ ap (λ ts. input ts 0) c.items.ensures) c.in-Ok.found c.whole.new.tokens c.requires c.in-Ok.ensures

pub returns-in-Ok-clause-only : goal.returns-in-Ok-clause-only
returns-in-Ok-clause-only c found is =
    no_other c.args.tokens.now.items c.new-place.result
    (c.new-place.ensures ∙ ap (λ ts. input ts 0) c.items.ensures) c.in-Ok.found found c.whole.new.tokens c.in-Ok.ensures is

pub returns-in-Err-Refused-clause-only : goal.returns-in-Err-Refused-clause-only
returns-in-Err-Refused-clause-only c found is =
    none_refused c.args.tokens.now.items c.new-place.result
    (c.new-place.ensures ∙ ap (λ ts. input ts 0) c.items.ensures) found c.in-Err-Refused.field-0
    (c.in-Err-Refused.ensures (λ e. let no : Refused c.in-Err-Refused.left ≡ Memory = sym c.in-Err-Refused.field-0-is ∙ e in cc)) is

pub returns-in-Err-Refused-clause-place : goal.returns-in-Err-Refused-clause-place
returns-in-Err-Refused-clause-place c = (
  length c.args.tokens.now.items - c.in-Err-Refused.left,
  c.place_of.ensures,
  wrong c.args.tokens.now.items c.new-place.result
      (c.new-place.ensures ∙ ap (λ ts. input ts 0) c.items.ensures) c.in-Err-Refused.left
      (c.in-Err-Refused.ensures (λ e. let no : Refused c.in-Err-Refused.left ≡ Memory = sym c.in-Err-Refused.field-0-is ∙ e in cc) ∙ ap Err c.in-Err-Refused.field-0-is),
)
