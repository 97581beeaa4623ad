use Rattle.std.proofs.Common.{arith}
use Rattle.pascal_values.proofs.Decimals.{number_first, number_more}
use Rattle.pascal_values.proofs.digits.longest.Goals as goal

pub loop-more-init : goal.loop-more-init
loop-more-init c =
    let here = c.requires.digit.stands.within in
    record { fits = omega (arith, c.requires.digit.below_ten); goes = omega arith; within = omega arith; is = number_first c.args.first _ _ c.requires.digit.below_ten c.requires.digit.stands.is }

pub loop-more-preserved : goal.loop-more-preserved
loop-more-preserved c =
    let t = c.in-Some.ensures in
    let here = t.stands.stands.within in
    record { fits = t.fits; goes = omega arith; within = omega arith; is = number_more c.loop-more.n t.digit c.in-Some.more _ _ _ t.stands.below_ten t.not_zero t.is (omega (arith, t.fits)) c.loop-more.invariant.is t.stands.stands.is }
