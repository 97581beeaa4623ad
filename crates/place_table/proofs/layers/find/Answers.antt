use Rattle.std.proofs.Common.{ap, sym, ◌∙◌, ◌-◌, arith, take}
use Rattle.std.specs.List.{flat_map}
use Rattle.std.specs.Option.{option_copied, option_or}
use Rattle.place_table.specs.Latest.{latest}
use Rattle.place_table.proofs.Over.{latest_in_upper}
use Rattle.place_table.proofs.layers.find.Goals as goal

pub returns-in-Some : goal.returns-in-Some
returns-in-Some g c =
    let below = latest c.args.at (flat_map (λ p. p.now) (take (c.loop-i.i - 1) c.args.tables.now)) in
    ap (λ o. option_or o below) (ap option_copied (sym c.in-Some.is) ∙ c.get.ensures)
    ∙ sym (latest_in_upper (λ p. p.now) c.args.at c.args.tables.now c.loop-i.i c.index-tables-i.result c.loop-i-test.true c.loop-i.invariant.0 c.index-tables-i.is) ∙ c.loop-i.invariant.1

pub loop-i-preserved : goal.loop-i-preserved
loop-i-preserved g c =
    let below = latest c.args.at (flat_map (λ p. p.now) (take (c.loop-i.i - 1) c.args.tables.now)) in
    let more = ap (λ o. option_or o below) (ap option_copied (sym c.in_default.is) ∙ c.get.ensures) ∙ sym (latest_in_upper (λ p. p.now) c.args.at c.args.tables.now c.loop-i.i c.index-tables-i.result c.loop-i-test.true c.loop-i.invariant.0 c.index-tables-i.is) in
    let smaller = c.loop-i.invariant.0 in
    ((omega arith), (more ∙ c.loop-i.invariant.1))
