use Rattle.std.proofs.Common.{◌∙◌, map as each, sym, ap, subst}
use Rattle.std.specs.Borrow.{Bor}
use Rattle.std.specs.List.{AllByRecursion}
use Rattle.std.proofs.lemmas.Simd.{map-map}
use Rattle.estelle_model.specs.declared.image.Part.{Part}
use Rattle.estelle_model.specs.Delays.{renew}
use Rattle.estelle_model_legality.proofs.Systems.{system_there}
use Rattle.transition_select.specs.declared.countings.Counting.{Counting}
use Rattle.transition_select.specs.Countings.{IsCounting}
use Rattle.situation_offers.specs.Asked.{IsAt, IsCount}
use Rattle.situation_offers.proofs.Walking.{mapped_at, one_more, first_fault, all_asked}
use Rattle.situation_offers.proofs.guards.ask_each.Goals as goal

pub loop-part-init : goal.loop-part-init
loop-part-init t c = λ g system of all. record { paths = ap (each (λ (d : Counting). d.path)) c.new-counts.ensures.items; countings = subst (AllByRecursion (IsCounting c.args.program.now c.args.budget (renew c.args.program.now c.args.budget g system c.args.now))) (sym c.new-counts.ensures.items) tt; wanted = c.new-wanted.ensures.items; sound = tt }

pub returns-in-Faults : goal.returns-in-Faults
returns-in-Faults t c = λ g system of all.
    let s = c.args.program.now in
    let xs = c.args.parts.now in
    let k = c.loop-part.part-index in
    let part = c.part-item.result.now in
    let at : IsAt g system part = mapped_at (IsAt g system) (λ (r : Bor Part). r.now) xs k c.part-item.result c.loop-part-test.true c.part-item.is all.each_at in
    let first = subst (IsCount s c.args.budget g system c.args.now part.path _ _) c.in-Faults.is (c.in_ok-count.ensures g system of at) in
    c.faulted.ensures s c.args.budget g system c.args.now
    (first_fault (λ (r : Bor Part). r.now.path) s c.args.budget g system c.args.now xs k c.loop-part.counts.items _ (c.loop-part.invariant g system of all)
    (sym (map-map (λ (p : Part). p.path) (λ (r : Bor Part). r.now) xs) ∙ all.paths) c.part-item.result c.loop-part-test.true c.part-item.is at.inside c.in-Faults.trans c.in-Faults.kind first)

pub loop-part-preserved : goal.loop-part-preserved
loop-part-preserved t c = λ g system of all.
    let s = c.args.program.now in
    let xs = c.args.parts.now in
    let k = c.loop-part.part-index in
    let part = c.part-item.result.now in
    let at : IsAt g system part = mapped_at (IsAt g system) (λ (r : Bor Part). r.now) xs k c.part-item.result c.loop-part-test.true c.part-item.is all.each_at in
    let count = subst (IsCount s c.args.budget g system c.args.now part.path _ _) c.in-Counts.is (c.in_ok-count.ensures g system of at) in
    let its = c.in_ok-counting-in-Counts.ensures g system c.args.now c.args.budget of.shown.legal of.is_system at count.0 in
    one_more (λ (r : Bor Part). r.now.path) s c.args.budget g system c.args.now xs k c.loop-part.counts.items _ (c.loop-part.invariant g system of all)
    c.part-item.result c.loop-part-test.true c.part-item.is c.in_ok-counting-in-Counts.field-0 its.path its.counting count.1 _ count.2 c.push.new.self.items c.in_ok-push-in-Counts.ensures.items

pub returns : goal.returns
returns t c = λ g system of all.
    all_asked (λ (r : Bor Part). r.now.path) c.args.program.now c.args.budget g system c.args.now c.args.parts.now c.loop-part.part-index c.loop-part.counts.items _ (c.loop-part.invariant g system of all)
    (sym (map-map (λ (p : Part). p.path) (λ (r : Bor Part). r.now) c.args.parts.now) ∙ all.paths) (system_there c.args.program.now g system of.is_system) c.loop-part-test.false
