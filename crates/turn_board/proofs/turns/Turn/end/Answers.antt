use Rattle.std.proofs.Common.{◌≡◌, ◌∙◌, ◌+◌, ℕ, length, length-append, refl, ap, arith}
use Rattle.turn_board.specs.Passes.{own, found_of}
use Rattle.turn_board.specs.Accounts.{after_turn}
use Rattle.turn_board.proofs.Ready.{member_is, holds_is, ready_idle}
use Rattle.turn_board.proofs.turns.Turn.end.Goals as goal

pub give-requires-clause-ready : goal.give-requires-clause-ready
give-requires-clause-ready g c = let p = c.args.pass.now in let found = found_of p in let entries = g.V.Recorded.entries c.args.self.value in
    let x = holds_is p.number p.seat.me p.member p.ready c.args.self.ticket found c.requires.pass.1 in
    let began : ℕ = c.args.self.began in let n : ℕ = length found in let all : ℕ = length entries in let is : n ≡ began = c.requires.pass.2 in
    let rest = c.requires.kept.0 in let long : all ≡ n + length rest = ap length c.requires.kept.1 ∙ length-append found rest in
    let counted : c.count.result ≡ all = c.count.ensures in
    (own p, c.args.self.ticket, found, x.0, c.requires.pass.1, c.requires.base, c.requires.kept, omega arith, c.requires.added)

pub invariant_of-pass : goal.invariant_of-pass
invariant_of-pass g c = let p = c.args.pass.now in let found = found_of p in let entries = g.V.Recorded.entries c.args.self.value in
    let x = holds_is p.number p.seat.me p.member p.ready c.args.self.ticket found c.requires.pass.1 in
    let now = c.give.ensures.given (own p) c.args.self.ticket found x.0 c.requires.pass.1 in
    let o = after_turn (own p) c.args.self.ticket found c.args.self.value entries in
    record { member = member_is _ o (ap (λ m. m.0) now); ready = ready_idle p.number _ o now x.1 refl }
