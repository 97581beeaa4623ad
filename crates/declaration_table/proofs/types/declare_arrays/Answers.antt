use Rattle.std.proofs.Common.{◌∙◌, ap, sym}
use Rattle.type_rules.specs.declared.meanings.Meaning.TheVariants.{ArrayType}
use Rattle.type_rules.specs.Meanings.{with_entity, declare_all}
use Rattle.type_rules.specs.TypeSites.{arrays, type_in, typing, meaning_only, index_of, behind_index, array_place}
use Rattle.declaration_table.proofs.Declaring.{drop_end, declare-nil}
use Rattle.declaration_table.proofs.Typing.{arrays_step}
use Rattle.declaration_table.proofs.types.declare_arrays.Goals as goal

pub loop-i-preserved : goal.loop-i-preserved
loop-i-preserved c =
    let component = type_in (typing c.args.component.now) in
    let r = c.behind-more.ensures in
    let u = c.behind_index-inner.ensures ∙ ap (λ xs. behind_index xs component c.loop-i.table) r in
    let m = ap (λ v. with_entity c.loop-i.table c.loop-i.at.start (meaning_only (ArrayType (index_of c.index-indices-i.result c.loop-i.table) v))) u in
    arrays_step c.loop-i.at c.array_place-at.result c.args.indices.now c.loop-i.i c.index-indices-i.result component c.loop-i.table c.declare_array.new.table c.loop-i-test.true c.index-indices-i.is (c.in_ok-declare_array.ensures ∙ m) (c.array_place-at.ensures ∙ ap (array_place c.loop-i.at) r) ∙ c.loop-i.invariant

pub returns : goal.returns
returns c = sym (declare-nil c.loop-i.table) ∙ ap (λ r. declare_all c.loop-i.table (arrays c.loop-i.at r (type_in (typing c.args.component.now)))) (sym (drop_end c.args.indices.now c.loop-i.i c.loop-i-test.false)) ∙ c.loop-i.invariant
