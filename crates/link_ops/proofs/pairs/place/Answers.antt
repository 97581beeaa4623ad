use Rattle.std.proofs.Common.{◌≡◌, ◌≢◌, ◌⊎◌, ℕ, ◌+◌, ◌<◌, ◌≤◌, Option, Some, None, set, sym, ap, ◌∙◌, inl, inr, length, arith}
use Rattle.std.proofs.lemmas.Bool.{cases_eq}
use Rattle.std.proofs.lemmas.List.{get_or-set_same, get_or-set_other, length-set}
use Rattle.link_ops.specs.Pairs.{slot, seen, link_of}
use Rattle.link_ops.proofs.Changes.{seen-same, slot-within}
use Rattle.link_ops.proofs.Shifts.{full-shift}
use Rattle.link_ops.proofs.pairs.place.Goals as goal

pub shift-requires-clause-gap : goal.shift-requires-clause-gap
shift-requires-clause-gap c = c.requires.gaps c.args.end (omega arith) (omega arith)

pub returns-clause-seen : goal.returns-clause-seen
returns-clause-seen c =
    let said = c.shift.ensures in
    let old = c.args.pairs.now.items in
    let less : c.args.end < c.args.at = omega arith in
    rw said.pairs
    (seen-same c.args.points.now c.shift.new.points old c.requires.tied said.tied.sound said.points (set (set old c.args.end (Some c.args.pair)) c.args.at None)
    ∙ full-shift (link_of c.args.points.now) old c.args.end c.args.at c.args.pair c.requires.here less c.requires.gaps)

pub returns-clause-gaps : goal.returns-clause-gaps
returns-clause-gaps c k low high =
    let said = c.shift.ensures in
    let old = c.args.pairs.now.items in
    let within : c.args.at < length (set old c.args.end (Some c.args.pair)) = rw length-set (slot-within old c.args.at c.args.pair c.requires.here) in
    rw said.pairs
    (elim (cases_eq k c.args.at) [
      | inl e ↦ rw e (get_or-set_same (set old c.args.end (Some c.args.pair)) c.args.at None None within)
      | inr differs ↦
          let not_end : k ≢ c.args.end = λ e. absurd (omega arith) in
          get_or-set_other (set old c.args.end (Some c.args.pair)) c.args.at k None None differs ∙ get_or-set_other old c.args.end k (Some c.args.pair) None not_end ∙ c.requires.gaps k (omega arith) (omega arith)
    ])
