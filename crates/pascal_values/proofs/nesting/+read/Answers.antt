use Rattle.std.proofs.Common.{subst}
use Rattle.pascal_values.specs.Texts.{text, HasForm}
use Rattle.pascal_values.specs.Steps.{IsItem}
use Rattle.pascal_values.proofs.ListingLemmas.{read_none, read_more, read_last}
use Rattle.pascal_values.proofs.ItemLemmas.{pushed_part, part_read, array_deep, array_read, array_error, fields_deep, fields_read, fields_error, read_end, mark_read}
use Rattle.pascal_values.proofs.nesting.+read.Goals as goal

pub read_array-returns-then-depth-eq0 : goal.read_array-returns-then-depth-eq0
read_array-returns-then-depth-eq0 t c = array_deep c.args.bytes.now c.args.at c.args.depth c.requires c.if-depth-eq0.true

pub read_array-returns-in-Ok : goal.read_array-returns-in-Ok
read_array-returns-in-Ok t c = array_read c.args.bytes.now c.args.at c.args.depth c.in-Ok.parts c.in-Ok.end c.requires c.if-depth-eq0.false c.in-Ok.ensures

pub read_array-returns-in-Err : goal.read_array-returns-in-Err
read_array-returns-in-Err t c = array_error c.args.bytes.now c.args.at c.args.depth c.in-Err.error c.requires c.if-depth-eq0.false c.in-Err.ensures

pub read_fields-returns-then-depth-eq0 : goal.read_fields-returns-then-depth-eq0
read_fields-returns-then-depth-eq0 t c = fields_deep c.args.bytes.now c.args.at c.args.depth c.requires c.if-depth-eq0.true

pub read_fields-returns-in-Ok : goal.read_fields-returns-in-Ok
read_fields-returns-in-Ok t c = fields_read c.args.bytes.now c.args.at c.args.depth c.in-Ok.parts c.in-Ok.end c.requires c.if-depth-eq0.false c.in-Ok.ensures

pub read_fields-returns-in-Err : goal.read_fields-returns-in-Err
read_fields-returns-in-Err t c = fields_error c.args.bytes.now c.args.at c.args.depth c.in-Err.error c.requires c.if-depth-eq0.false c.in-Err.ensures

pub read_at-returns-then-at-bytes : goal.read_at-returns-then-at-bytes
read_at-returns-then-at-bytes t c = read_end c.args.depth c.args.bytes.now c.args.at c.if-at-bytes.true

pub read_at-returns-in-63 : goal.read_at-returns-in-63
read_at-returns-in-63 t c = mark_read c.args.depth c.args.bytes.now c.args.at c.if-at-bytes.false c.in-63.is

pub read_at-returns-in-45 : goal.read_at-returns-in-45
read_at-returns-in-45 t c = c.read_negative.ensures c.args.depth

pub read_at-returns-in-116 : goal.read_at-returns-in-116
read_at-returns-in-116 t c = c.read_true.ensures c.args.depth

pub read_at-returns-in-102 : goal.read_at-returns-in-102
read_at-returns-in-102 t c = c.read_false.ensures c.args.depth

pub read_at-returns-in-39 : goal.read_at-returns-in-39
read_at-returns-in-39 t c = c.read_quoted.ensures c.args.depth

pub read_at-returns-in-99 : goal.read_at-returns-in-99
read_at-returns-in-99 t c = c.read_coded.ensures c.args.depth

pub read_at-returns-in-35 : goal.read_at-returns-in-35
read_at-returns-in-35 t c = c.read_enum.ensures c.args.depth

pub read_at-returns-in-91 : goal.read_at-returns-in-91
read_at-returns-in-91 t c = c.read_set.ensures c.args.depth

pub read_at-returns-in_default : goal.read_at-returns-in_default
read_at-returns-in_default t c = c.read_natural.ensures c.args.depth

pub read_part-returns-in-Ok : goal.read_part-returns-in-Ok
read_part-returns-in-Ok t c = part_read c.args.depth c.args.close c.requires c.args.bytes.now c.args.at c.in-Ok.part c.in-Ok.end c.in-Ok.ensures c.separator_at.result c.separated.result c.separator_at.ensures c.separated.ensures

pub read_parts-items-init : goal.read_parts-items-init
read_parts-items-init t c = read_none text (HasForm c.args.depth) c.args.close c.args.bytes.now c.args.at _ c.none-parts.ensures

pub read_parts-items-preserved : goal.read_parts-items-preserved
read_parts-items-preserved t c = read_more text (HasForm c.args.depth) c.args.close c.requires c.args.bytes.now c.args.at c.items.parts c.items.place c.items.invariant c.in-Ok.part c.in-Ok.next _ (subst (λ b. IsItem text (HasForm c.args.depth) c.args.close c.args.bytes.now c.items.place c.in-Ok.part c.in-Ok.next b) c.if-last.false c.in-Ok.ensures) (pushed_part c.push.result c.is_err.result c.is_err.ensures.value c.if-is_err.false c.push.ensures.ok)

pub read_parts-returns-then-last : goal.read_parts-returns-then-last
read_parts-returns-then-last t c = read_last text (HasForm c.args.depth) c.args.close c.requires c.args.bytes.now c.args.at c.items.parts c.items.place c.items.invariant c.in-Ok.part c.in-Ok.next _ (subst (λ b. IsItem text (HasForm c.args.depth) c.args.close c.args.bytes.now c.items.place c.in-Ok.part c.in-Ok.next b) c.if-last.true c.in-Ok.ensures) (pushed_part c.push.result c.is_err.result c.is_err.ensures.value c.if-is_err.false c.push.ensures.ok)
