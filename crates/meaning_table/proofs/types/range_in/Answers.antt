use Rattle.std.proofs.Common.{◌≡◌, ◌∙◌, rules, sym, ap, w64, to_z, of_z}
use Rattle.std.proofs.lemmas.Int.{to_z-of_z}
use Rattle.estelle_tree.specs.declared.tree.type_expr.Ordinal.{Ordinal}
use Rattle.estelle_model.specs.Types as types
use Rattle.estelle_model.specs.Constants.{host_of_const}
use Rattle.estelle_model.specs.Denoted as spec
use Rattle.estelle_model.specs.declared.denoter.Denoter.TheVariants as denoter
use Rattle.meaning_table.specs.Known.{meanings_of}
use Rattle.meaning_table.proofs.types.range_in.Goals as goal

pub returns-in-Subrange : goal.returns-in-Subrange
returns-in-Subrange c =
    let low : to_z w64 (of_z w64 c.bound.result) ≡ c.bound.result = search (rules, to_z-of_z) in
    let high : to_z w64 (of_z w64 c.bound-in-Subrange.result) ≡ c.bound-in-Subrange.result = search (rules, to_z-of_z) in
    (λ i. (low i, high i))
    ∙ (λ i. (c.bound.ensures i, c.bound-in-Subrange.ensures i))
    ∙ sym (ap types.range_at (denoter.outs-Ordinal (host_of_const (meanings_of c.args.table.now) c.in-Subrange.low) (spec.bound (meanings_of c.args.table.now) c.in-Subrange.low) (spec.bound (meanings_of c.args.table.now) c.in-Subrange.high)))
    ∙ ap (λ (o : Ordinal). types.range_of (spec.ordinal_type (meanings_of c.args.table.now) o)) (sym c.in-Subrange.is)
