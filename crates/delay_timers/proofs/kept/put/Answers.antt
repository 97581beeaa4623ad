use Rattle.std.specs.Prelude.{cond}
use Rattle.std.proofs.Common.{◌≡◌, Some, None, sym, ap, subst, ◌∙◌}
use Rattle.std.specs.BTreeMap as tree
use Rattle.std.specs.Map.{lookup}
use Rattle.std.specs.Ordering.{is_eq, nat_cmp}
use Rattle.estelle_tree.specs.Paths.{path_cmp}
use Rattle.delay_timers.specs.Kept.{row_of, in_row, key_cmp}
use Rattle.delay_timers.proofs.Rows.{row_after, row_same, row_put, on_err, is_there}
use Rattle.delay_timers.proofs.kept.put.Goals as goal

pub returns-in_err-insert-clause-err : goal.returns-in_err-insert-clause-err
returns-in_err-insert-clause-err c =
    let h = c.get_mut.follows.holds c.insert.new.self in
    let v : row_of c.args.rows.now c.args.path.now ≡ Some c.in-Some.row.now = sym c.in-Some.ensures.value in
    on_err _ (row_same c.args.path.now c.args.rows.now (c.get_mut.follows.lender c.insert.new.self) (Some c.insert.new.self)
    (row_after c.args.path.now c.args.rows.now (c.get_mut.follows.lender c.insert.new.self) (Some c.insert.new.self) (h.3 (is_there _ _ v)))
    (λ n. ap (lookup (λ k. is_eq (nat_cmp n k))) c.in_err-insert.ensures.err ∙ ap (in_row n) (sym v)))

pub returns-in-Some-clause-ok : goal.returns-in-Some-clause-ok
returns-in-Some-clause-ok c =
    let h = c.get_mut.follows.holds c.insert.new.self in
    let v : row_of c.args.rows.now c.args.path.now ≡ Some c.in-Some.row.now = sym c.in-Some.ensures.value in
    row_put c.args.path.now c.args.trans c.args.rows.now (c.get_mut.follows.lender c.insert.new.self) (Some c.insert.new.self) (Some c.args.running)
    (row_after c.args.path.now c.args.rows.now (c.get_mut.follows.lender c.insert.new.self) (Some c.insert.new.self) (h.3 (is_there _ _ v)))
    (λ n. c.in_ok-insert.ensures.updates.0 n ∙ ap (λ r. cond (is_eq (nat_cmp c.args.trans n)) (Some c.args.running) (in_row n r)) (sym v))

pub returns-clause-ok : goal.returns-clause-ok
returns-clause-ok c =
    let v : row_of c.args.rows.now c.args.path.now ≡ None = sym c.in_default.ensures.value in
    let e : c.in_ok-from_slice.field-0.items ≡ c.args.path.now = c.in_ok-from_slice.ensures.items in
    let u = c.in_ok-insert-3.ensures.updates in
    row_put c.args.path.now c.args.trans c.args.rows.now c.insert-3.new.self (Some c.insert-2.new.self) (Some c.args.running)
    (row_after c.args.path.now c.args.rows.now c.insert-3.new.self (Some c.insert-2.new.self)
    (subst (λ m. tree.UpdatesBy key_cmp (λ k. path_cmp c.args.path.now k.items) m c.insert-3.new.self (Some c.insert-2.new.self)) c.get_mut.follows.holds-at-none
    (subst (λ p. tree.UpdatesBy key_cmp (λ k. path_cmp p k.items) c.get_mut.follows.lender-at-none c.insert-3.new.self (Some c.insert-2.new.self)) e u)))
    (λ n. c.in_ok-insert-2.ensures.updates.0 n ∙ ap (λ es. cond (is_eq (nat_cmp c.args.trans n)) (Some c.args.running) (lookup (λ k. is_eq (nat_cmp n k)) es)) c.new-row.ensures.empty ∙ ap (λ r. cond (is_eq (nat_cmp c.args.trans n)) (Some c.args.running) (in_row n r)) (sym v))
