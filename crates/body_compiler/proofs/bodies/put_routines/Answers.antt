use Rattle.std.proofs.Common.{◌≡◌, ◌+◌, ℕ, refl, subst, inl, length, arith}
use Rattle.body_compiler.specs.Whole.{HasRoutine}
use Rattle.body_compiler.proofs.Growth.{grown_none, then_comes, open_behind}
use Rattle.body_compiler.proofs.Parts.{routines_more, all_routines}
use Rattle.body_compiler.proofs.bodies.put_routines.Goals as goal

pub loop-tree-init : goal.loop-tree-init
loop-tree-init c = record {
  counted = refl;
  comes = record { grown = grown_none c.args.units.now; free = c.requires };
  has = λ k less. absurd (omega (arith, less));
}

pub put_routine-requires : goal.put_routine-requires
put_routine-requires c = c.loop-tree.invariant.comes.free

pub loop-tree-preserved : goal.loop-tree-preserved
loop-tree-preserved c =
    let was = c.loop-tree.invariant in
    let more = c.in_ok-put_routine.ensures in
    record {
      counted = omega arith;
      comes = then_comes c.args.units.now c.loop-tree.units c.put_routine.new.units c.args.body 0 (c.loop-tree.number + 1) was.comes.grown more.comes;
      has = routines_more (λ r. r.now) c.args.numbering.now c.args.body c.args.trees.now c.loop-tree.units c.put_routine.new.units c.loop-tree.tree-index c.tree-item.result more.comes.grown c.loop-tree-test.true c.tree-item.is was.has
          (subst (λ (k : ℕ). HasRoutine c.args.numbering.now c.put_routine.new.units c.args.body k c.tree-item.result.now) was.counted more.has);
    }

pub returns : goal.returns
returns c =
    let was = c.loop-tree.invariant in
    let all : c.loop-tree.tree-index ≡ length c.args.trees.now = omega arith in
    record {
      comes = record { grown = was.comes.grown; free = open_behind c.loop-tree.units c.args.body 0 c.loop-tree.number 1 0 was.comes.free (inl (omega arith)) };
      has = all_routines (λ r. r.now) c.args.numbering.now c.args.body c.args.trees.now c.loop-tree.units c.loop-tree.tree-index all was.has;
    }
