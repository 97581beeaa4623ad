use Rattle.std.proofs.Common.{ap, subst, ◌∙◌}
use Rattle.std.specs.List.Sorted.{IsBinarySearchResult}
use Rattle.std.specs.Ordering.{nat_cmp}
use Rattle.offer_table.specs.Searches.{StandsAt, IsGap}
use Rattle.offer_table.specs.Tables.{row_path, is_on}
use Rattle.offer_table.proofs.TableLaws.{found_on, none_on}
use Rattle.offer_table.proofs.offers.Offers.is_on.Goals as goal

pub returns-in-Ok : goal.returns-in-Ok
returns-in-Ok c =
    c.is_ok.ensures.value
    ∙ found_on _ c.args.path.now c.in-Ok.at c.args.number c.index.result.now _ c.self.invariant (subst (λ rows. StandsAt row_path c.args.path.now rows c.in-Ok.at) c.deref.ensures.value c.in-Ok.ensures) c.index.ensures
    (subst (λ ns. IsBinarySearchResult (λ y. nat_cmp y c.args.number) ns c.binary_search.result) c.as_slice.ensures c.binary_search.ensures.position)
    ∙ ap (λ t. is_on t c.args.path.now c.args.number) c.self.view_is

pub returns-in-Err : goal.returns-in-Err
returns-in-Err c =
    none_on c.self.inside.rows.items c.args.path.now c.in-Err.field-0 c.args.number (subst (λ rows. IsGap row_path c.args.path.now rows c.in-Err.field-0) c.deref.ensures.value c.in-Err.ensures)
    ∙ ap (λ t. is_on t c.args.path.now c.args.number) c.self.view_is
