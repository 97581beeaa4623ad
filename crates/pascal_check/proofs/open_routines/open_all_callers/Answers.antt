use Rattle.std.proofs.Common.{nat_eq, ◌+◌, ◌<◌, ◌≤◌, length, subst, sym, arith}
use Rattle.indexmap.specs.IndexMap.{get}
use Rattle.pascal_check.specs.Opening.{noted_callers}
use Rattle.pascal_check.proofs.Following.{Following, following_begun, following_more, following_all}
use Rattle.pascal_check.proofs.open_routines.open_all_callers.Goals as goal

pub loop-at-init : goal.loop-at-init
loop-at-init c = following_begun (λ x. noted_callers (get nat_eq c.args.callers.now x)) c.args.opened.now.keys

pub loop-at-preserved : goal.loop-at-preserved
loop-at-preserved c =
    let within : c.loop-at.at < length c.loop-at.opened.keys = omega arith in
    subst (λ ks. Following (λ x. noted_callers (get nat_eq c.args.callers.now x)) c.args.opened.now.keys ks (c.loop-at.at + 1)) (sym c.in_ok-open_callers.ensures)
    (following_more (λ x. noted_callers (get nat_eq c.args.callers.now x)) c.args.opened.now.keys c.loop-at.opened.keys c.loop-at.at within c.loop-at.invariant)

pub returns : goal.returns
returns c =
    let ended : length c.loop-at.opened.keys ≤ c.loop-at.at = omega arith in
    following_all (λ x. noted_callers (get nat_eq c.args.callers.now x)) c.args.opened.now.keys c.loop-at.opened.keys c.loop-at.at ended c.loop-at.invariant
