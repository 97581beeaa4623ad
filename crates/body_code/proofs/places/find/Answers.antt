use Rattle.std.proofs.Common.{◌≡◌, true, false}
use Rattle.body_code.specs.Units.{place_of, is_at}
use Rattle.body_code.proofs.Finding.{found_here, passed_over}
use Rattle.body_code.proofs.places.find.Goals as goal

pub returns-then-is_at : goal.returns-then-is_at
returns-then-is_at c =
    let here : is_at (c.args.body, c.args.entry) (place_of c.loop-i.here c.index-units-i.result.heading) ≡ true = cc in
    let e = found_here (is_at (c.args.body, c.args.entry)) c.loop-i.here c.args.units.now c.loop-i.i c.index-units-i.result c.loop-i-test.true c.index-units-i.is here in
    cc

pub loop-i-preserved : goal.loop-i-preserved
loop-i-preserved c =
    let passed : is_at (c.args.body, c.args.entry) (place_of c.loop-i.here c.index-units-i.result.heading) ≡ false = cc in
    let e = passed_over (is_at (c.args.body, c.args.entry)) c.loop-i.here c.args.units.now c.loop-i.i c.index-units-i.result c.loop-i-test.true c.index-units-i.is passed in
    cc
