use Rattle.std.proofs.Common.{rules, ◌≡◌, ◌+◌, ℕ, true, false, length, sym, refl, subst, arith}
use Rattle.std.specs.List.{list_any, range_with_len}
use Rattle.std.specs.Prelude.{is_some}
use Rattle.estelle_model.specs.Bodies.{bodies}
use Rattle.estelle_model.specs.Subject.{body}
use Rattle.body_state.specs.Bodies.{module_body}
use Rattle.situation.proofs.Delayed.{body_delays, there_is, is_numbered, is_behind, found_here, one_more, none_of_fewer}
use Rattle.situation.proofs.delays.has_delays.Goals as goal

pub returns-then-body_has_delays : goal.returns-then-body_has_delays
returns-then-body_has_delays c =
    let s = c.args.program.now in
    let some = there_is (module_body s c.loop-body.body) (body s c.loop-body.body) c.get.result (rw c.bodies.ensures at c.get.ensures) in
    let yes : is_some (body s c.loop-body.body) ≡ true = cc in
    let has : body_delays s c.loop-body.body ≡ true = cc in
    sym (found_here s c.loop-body.body (is_numbered s c.loop-body.body true (sym yes) refl) has)

pub loop-body-preserved : goal.loop-body-preserved
loop-body-preserved c =
    let s = c.args.program.now in
    let has : body_delays s c.loop-body.body ≡ false = cc in
    let none = one_more (body_delays s) c.loop-body.body c.loop-body.invariant has in
    let next_is : c.in-Some.next ≡ c.loop-body.body + 1 = search (rules, arith) in
    subst (λ (n : ℕ). list_any (body_delays s) (range_with_len 0 n) ≡ false) (sym next_is) none

pub returns : goal.returns
returns c =
    let s = c.args.program.now in
    let some = there_is (module_body s c.loop-body.body) (body s c.loop-body.body) c.get.result (rw c.bodies.ensures at c.get.ensures) in
    let no : is_some (body s c.loop-body.body) ≡ false = cc in
    sym (none_of_fewer (body_delays s) (length (bodies s.specification)) c.loop-body.body (is_behind s c.loop-body.body false (sym no) refl) c.loop-body.invariant)
