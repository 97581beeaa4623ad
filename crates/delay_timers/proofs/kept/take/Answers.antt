use Rattle.std.specs.Prelude.{cond, IsTrue}
use Rattle.std.proofs.Common.{◌≡◌, Some, None, sym, ap, ◌∙◌}
use Rattle.std.specs.BTreeMap as tree
use Rattle.std.specs.Ordering.{is_eq, nat_cmp, eq_by_cmp}
use Rattle.estelle_tree.specs.Paths.{path_cmp}
use Rattle.estelle_tree.specs.Timers.{pair, pair_cmp}
use Rattle.delay_timers.specs.Kept.{Rows, row_of, in_row, running_at, key_cmp}
use Rattle.delay_timers.proofs.Rows.{row_after, row_same, row_put, row_missing, row_empty, is_there}
use Rattle.delay_timers.proofs.kept.take.Goals as goal
use Rattle.delay_timers.proofs.kept.take.Goals.{then-is_empty+in-Some-1, then-is_empty+in-None-1, else-is_empty}

pub returns-in_err-row-clause-after : goal.returns-in_err-row-clause-after
returns-in_err-row-clause-after c = λ q.
    ap (λ rows. running_at rows q) c.get_mut.follows.holds-at-none ∙ row_missing c.args.path.now c.args.trans c.args.rows.now (sym c.in_err-row.ensures.value) q

pub returns-in_err-running-clause-after : goal.returns-in_err-running-clause-after
returns-in_err-running-clause-after c =
    let h = c.get_mut.follows.holds c.remove.new.self in
    let v : row_of c.args.rows.now c.args.path.now ≡ Some c.in_ok-row.row.now = sym c.in_ok-row.ensures.value in
    row_put c.args.path.now c.args.trans c.args.rows.now (c.get_mut.follows.lender c.remove.new.self) (Some c.remove.new.self) None
    (row_after c.args.path.now c.args.rows.now (c.get_mut.follows.lender c.remove.new.self) (Some c.remove.new.self) (h.3 (is_there _ _ v)))
    (λ n. c.in_err-running.ensures.updates.0 n ∙ ap (λ r. cond (is_eq (nat_cmp c.args.trans n)) None (in_row n r)) (sym v))

pub returns-clause-after : goal.returns-clause-after
returns-clause-after c = λ q.
    let mid : Rows = c.get_mut.follows.lender c.remove.new.self in
    let h = c.get_mut.follows.holds c.remove.new.self in
    let v : row_of c.args.rows.now c.args.path.now ≡ Some c.in_ok-row.row.now = sym c.in_ok-row.ensures.value in
    let there = h.3 (is_there _ _ v) in
    let taken : running_at mid q ≡ cond (eq_by_cmp pair_cmp q (pair c.args.path.now c.args.trans)) None (running_at c.args.rows.now q) =
    row_put c.args.path.now c.args.trans c.args.rows.now mid (Some c.remove.new.self) None
    (row_after c.args.path.now c.args.rows.now mid (Some c.remove.new.self) there)
    (λ n. c.in_ok-running.ensures.updates.0 n ∙ ap (λ r. cond (is_eq (nat_cmp c.args.trans n)) None (in_row n r)) (sym v)) q in
    let last : (rows : Rows) → IsTrue c.is_empty.result → tree.UpdatesBy key_cmp (λ k. path_cmp c.args.path.now k.items) mid rows None → running_at rows q ≡ running_at mid q =
    λ rows e u. row_same c.args.path.now mid rows None (row_after c.args.path.now mid rows None u) (λ n. sym (ap (in_row n) there.1 ∙ row_empty c.remove.new.self n (c.is_empty.ensures.0 e))) q in
    elim c.if-is_empty.branch [
      | then-is_empty+in-Some-1 w ↦ ap (λ rows. running_at rows q) w.rows-is ∙ last w.remove-then-is_empty.new.self w.if-is_empty.true w.remove-then-is_empty.ensures.updates ∙ taken
      | then-is_empty+in-None-1 w ↦ ap (λ rows. running_at rows q) w.rows-is ∙ last w.remove-then-is_empty.new.self w.if-is_empty.true w.remove-then-is_empty.ensures.updates ∙ taken
      | else-is_empty w ↦ ap (λ rows. running_at rows q) w.rows-is ∙ taken
    ]
