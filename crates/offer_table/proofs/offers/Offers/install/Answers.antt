use Rattle.std.proofs.Common.{subst, ap, ◌∙◌}
use Rattle.std.specs.Prelude.{MatchResult, OnOk, ◌≡◌}
use Rattle.std.specs.Vec.{vec_capacity}
use Rattle.offer_table.specs.Searches.{StandsAt, IsGap}
use Rattle.offer_table.specs.Tables.{Table, table_of, row_path, with_row}
use Rattle.offer_table.proofs.TableLaws.{in_range, may_install, installed_table, on_ok}
use Rattle.offer_table.proofs.offers.Offers.install.Goals as goal

pub put_row-requires : goal.put_row-requires
put_row-requires c =
    in_range row_path c.self.inside.rows.items c.args.path.now c.find-place.result
    (subst (λ rows. MatchResult c.find-place.result (StandsAt row_path c.args.path.now rows) (IsGap row_path c.args.path.now rows)) c.deref.ensures.value c.find-place.ensures)

-- the row stands where the search says
is_put : (c : goal.After-put_row) → OnOk c.put_row.result (c.put_row.new.rows.items ≡ with_row c.args.path.now c.args.numbers c.self.inside.rows.items)
is_put c =
    may_install c.self.inside.rows.items c.args.path.now c.args.numbers c.find-place.result c.put_row.new.rows.items c.put_row.result
    (subst (λ rows. MatchResult c.find-place.result (StandsAt row_path c.args.path.now rows) (IsGap row_path c.args.path.now rows)) c.deref.ensures.value c.find-place.ensures) c.put_row.ensures.ok

pub invariant_of-self : goal.invariant_of-self
invariant_of-self c = installed_table _ c.args.path.now c.args.numbers _ c.put_row.result c.self.invariant c.requires (is_put c) c.put_row.ensures.err

pub returns-clause-ok : goal.returns-clause-ok
returns-clause-ok c =
    on_ok c.put_row.result (is_put c)
    (λ put. (λ i. table_of (put i) c.self.inside.marks.items (vec_capacity c.self.inside.marks)) ∙ ap (λ (t : Table). record t { rows = with_row c.args.path.now c.args.numbers t.rows }) c.self.view_is)
