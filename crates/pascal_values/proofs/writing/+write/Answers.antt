use Rattle.pascal_values.proofs.TextLemmas.{on_ok, on_err, joined_more, enum_written, array_written, fields_written, extends_after}
use Rattle.pascal_values.specs.Texts.{text}
use Rattle.pascal_values.proofs.writing.+write.Goals as goal

pub write-returns-in_ok-put-in-Enum-clause-ok : goal.write-returns-in_ok-put-in-Enum-clause-ok
write-returns-in_ok-put-in-Enum-clause-ok t c = on_ok _ (enum_written c.args.value.now c.in-Enum.n c.from.result c.args.into.now.items c.put-in-Enum.new.into.items c.write_decimal.new.into.items c.in-Enum.is c.from.ensures c.in_ok-put-in-Enum.ensures.ok) c.write_decimal.ensures.ok

pub write-returns-in_ok-write_parts-in-Array-clause-ok : goal.write-returns-in_ok-write_parts-in-Array-clause-ok
write-returns-in_ok-write_parts-in-Array-clause-ok t c = on_ok _ (array_written c.args.value.now c.in-Array.parts c.items-in-Array.result.now c.args.into.now.items c.put-in-Array.new.into.items c.write_parts.new.into.items c.put-in-Array-2.new.into.items c.in-Array.is c.items-in-Array.ensures c.in_ok-put-in-Array.ensures.ok c.in_ok-write_parts-in-Array.ensures.ok) c.put-in-Array-2.ensures.ok

pub write-returns-in_ok-write_parts-in-Fields-clause-ok : goal.write-returns-in_ok-write_parts-in-Fields-clause-ok
write-returns-in_ok-write_parts-in-Fields-clause-ok t c = on_ok _ (fields_written c.args.value.now c.in-Fields.parts c.items-in-Fields.result.now c.args.into.now.items c.put-in-Fields.new.into.items c.write_parts-in-Fields.new.into.items c.put-in-Fields-2.new.into.items c.in-Fields.is c.items-in-Fields.ensures c.in_ok-put-in-Fields.ensures.ok c.in_ok-write_parts-in-Fields.ensures.ok) c.put-in-Fields-2.ensures.ok

pub write_parts-returns-in_err-write-clause-err : goal.write_parts-returns-in_err-write-clause-err
write_parts-returns-in_err-write-clause-err t c = on_err _ (extends_after c.args.into.now.items c.loop-i.into.items c.put_comma.new.into.items c.write.new.into.items _ _ c.loop-i.invariant c.in_ok-put_comma.ensures.ok c.in_err-write.ensures.err)

pub write_parts-loop-i-preserved : goal.write_parts-loop-i-preserved
write_parts-loop-i-preserved t c = joined_more text c.args.parts.now c.loop-i.i c.index-parts-i.result c.args.into.now.items c.loop-i.into.items c.put_comma.new.into.items c.write.new.into.items c.loop-i-test.true c.index-parts-i.is c.loop-i.invariant c.in_ok-put_comma.ensures.ok c.in_ok-write.ensures.ok
