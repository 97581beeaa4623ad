use Rattle.std.proofs.Common.{◌≡◌, ◌∙◌, ◌+◌, ◌<◌, ℕ, ap, rules, arith}
use Rattle.turn_board.specs.Accounts.{new_pass}
use Rattle.turn_board.specs.Steps.{next_pass, more_made}
use Rattle.turn_board.proofs.BoardSteps.{splits_as}
use Rattle.turn_board.proofs.Ready.{own_is}
use Rattle.turn_board.proofs.Several.{new_push}
use Rattle.turn_board.proofs.seats.make_passes.Goals as goal

pub split_seat-seat-requires : goal.split_seat-seat-requires
split_seat-seat-requires g c = let i : ℕ = c.loop-i.i in let n : ℕ = c.args.n in let below : i < n = c.loop-i-test.true in let p : ℕ = c.args.top.now.key.passes in let is : p ≡ n = c.requires.table.2 in
    (search rules, search rules, splits_as _ _ _ _ _ _ _ _ c.loop-i.i (ap (λ m. m.0) c.loop-i.invariant.view) (let r : i < p = omega arith in r))

pub loop-i-preserved : goal.loop-i-preserved
loop-i-preserved g c =
    let is = ap (λ m. m.0) c.loop-i.invariant.view in
    let base = g.V.Recorded.base c.args.top.now.key.value.value in
    record {
      table = search rules;
      view = c.split_seat-seat.ensures.2 ∙ (λ k. (more_made (is k), (c.loop-i.invariant.view k).1));
      count = search rules;
      room = search rules;
      new = rw c.push_reserved.ensures.items (new_push _ base c.loop-i.i c.loop-i.passes.items _ c.loop-i.invariant.new (search rules)
          (own_is _ _ (new_pass base (c.loop-i.i + 1)) (ap (λ m. m.0) c.split_seat-seat.ensures.4 ∙ ap next_pass is)));
    }
