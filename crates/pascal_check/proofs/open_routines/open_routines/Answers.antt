use Rattle.std.proofs.Common.{nat_eq, subst}
use Rattle.indexmap.specs.IndexMap.{get}
use Rattle.pascal_check.specs.Opening.{noted_callers, Follows}
use Rattle.pascal_check.proofs.Openings.{decides_open}
use Rattle.pascal_check.proofs.open_routines.open_routines.Goals as goal

pub returns : goal.returns
returns c =
    decides_open (λ x. noted_callers (get nat_eq c.in_ok-callers.callers x)) c.args.sites.now c.open_all_callers.new.opened.keys c.in_ok-callers.ensures
    (subst (λ ks. Follows (λ x. noted_callers (get nat_eq c.in_ok-callers.callers x)) ks c.open_all_callers.new.opened.keys) c.in_ok-opened.ensures c.in_ok-open_all_callers.ensures)
