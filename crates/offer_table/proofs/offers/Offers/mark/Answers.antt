use Rattle.std.proofs.Common.{◌≡◌, ◌+◌, ◌≤◌, ap, subst, ◌∙◌}
use Rattle.std.specs.Prelude.{MatchResult}
use Rattle.std.specs.Vec.{vec_capacity}
use Rattle.offer_table.specs.Searches.{StandsAt, IsGap}
use Rattle.offer_table.specs.Tables.{Table, table_of, mark_path, with_mark, spare}
use Rattle.offer_table.proofs.TableLaws.{in_range, marked, marked_table, spare_marked}
use Rattle.offer_table.proofs.offers.Offers.mark.Goals as goal

pub put_mark-requires-clause-within : goal.put_mark-requires-clause-within
put_mark-requires-clause-within c =
    in_range mark_path c.self.inside.marks.items c.args.path c.find-place.result
    (subst (λ ms. MatchResult c.find-place.result (StandsAt mark_path c.args.path ms) (IsGap mark_path c.args.path ms)) c.deref.ensures.value c.find-place.ensures)

-- the mark stands where the search says
is_put : (c : goal.After-put_mark) → c.put_mark.new.marks.items ≡ with_mark c.args.path c.self.inside.marks.items
is_put c =
    marked c.self.inside.marks.items c.args.path c.find-place.result _
    (subst (λ ms. MatchResult c.find-place.result (StandsAt mark_path c.args.path ms) (IsGap mark_path c.args.path ms)) c.deref.ensures.value c.find-place.ensures) c.put_mark.ensures.put

pub invariant_of-self : goal.invariant_of-self
invariant_of-self c = marked_table _ c.args.path _ _ c.self.invariant (is_put c)

pub returns-clause-marked : goal.returns-clause-marked
returns-clause-marked c =
    (λ i. table_of c.self.inside.rows.items (is_put c i) (c.put_mark.ensures.room i)) ∙ ap (λ (t : Table). record t { marks = with_mark c.args.path t.marks }) c.self.view_is

pub returns-clause-room : goal.returns-clause-room
returns-clause-room c =
    subst (λ (t : Table). spare t ≤ spare (table_of c.self.inside.rows.items c.put_mark.new.marks.items (vec_capacity c.put_mark.new.marks)) + 1) c.self.view_is
    (spare_marked c.args.path c.self.inside.rows.items c.self.inside.marks.items c.put_mark.new.marks.items _ _ (is_put c) c.put_mark.ensures.room)
