use Rattle.std.proofs.Common.{◌∙◌, ◌∷◌, [], length, refl, sym, ap, arith, length-append}
use Rattle.std.specs.Prelude.{reverse}
use Rattle.effect_log.proofs.Lists.{nothing-left}
use Rattle.effect_log.proofs.Progress.{may_make, goes-on, begins, ends}
use Rattle.effect_log.proofs.made.make_all.Goals as goal

pub loop-effect-init : goal.loop-effect-init
loop-effect-init g c = begins (g.D.Disciplines.subject c.args.disciplines.now) c.args.notes.now c.args.shared.now

pub make-requires : goal.make-requires
make-requires g c = (
  reverse c.pop.new.self.items,
  may_make (g.D.Disciplines.subject c.args.disciplines.now) (reverse c.args.notes.now.log.items) c.args.notes.now c.requires.by c.requires.acting
      c.in-Some.effect c.loop-effect.notes _ c.loop-effect.shared (c.loop-effect.invariant c.requires) c.in-Some.ensures.items refl,
)

pub loop-effect-smaller : goal.loop-effect-smaller
loop-effect-smaller g c =
    let was = c.make.ensures (reverse c.pop.new.self.items)
    (may_make (g.D.Disciplines.subject c.args.disciplines.now) (reverse c.args.notes.now.log.items) c.args.notes.now c.requires.by c.requires.acting
    c.in-Some.effect c.loop-effect.notes _ c.loop-effect.shared (c.loop-effect.invariant c.requires) c.in-Some.ensures.items refl) in
    let left = ap length was.log in
    let before = ap length c.in-Some.ensures.items ∙ length-append c.pop.new.self.items (c.in-Some.effect ∷ []) in
    omega (arith, left, before)

pub loop-effect-preserved : goal.loop-effect-preserved
loop-effect-preserved g c = λ may.
    goes-on (g.D.Disciplines.subject c.args.disciplines.now) (reverse c.args.notes.now.log.items) c.args.notes.now may.by may.acting
    c.in-Some.effect c.loop-effect.notes _ c.loop-effect.shared (c.loop-effect.invariant may) c.in-Some.ensures.items refl c.make.new.notes c.make.new.shared
    (c.make.ensures (reverse c.pop.new.self.items)
    (may_make (g.D.Disciplines.subject c.args.disciplines.now) (reverse c.args.notes.now.log.items) c.args.notes.now may.by may.acting
    c.in-Some.effect c.loop-effect.notes _ c.loop-effect.shared (c.loop-effect.invariant may) c.in-Some.ensures.items refl))

pub returns : goal.returns
returns g c = λ may.
    ends (g.D.Disciplines.subject c.args.disciplines.now) (reverse c.args.notes.now.log.items) c.args.notes.now c.loop-effect.notes _ c.loop-effect.shared may.by may.acting
    (nothing-left c.loop-effect.notes.log.items (sym c.loop-effect.notes.log.ok.0 ∙ c.in_default.ensures.cases.0))
    (nothing-left c.pop.new.self.items (sym c.pop.new.self.ok.0 ∙ c.in_default.ensures.cases.1)) refl (c.loop-effect.invariant may)
