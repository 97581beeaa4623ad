use Rattle.std.proofs.Common.{arith}
use Rattle.std.specs.List.{flat_map}
use Rattle.estelle_tree.specs.declared.tree.specification.Decl.{Decl}
use Rattle.meaning_table.proofs.Declarations.{declaring, drop_end}
use Rattle.body_table.specs.Contributions.{bodies_of}
use Rattle.body_table.specs.Standings.{body}
use Rattle.body_table.proofs.Numbering.{items_count}
use Rattle.body_table.proofs.BodyEquations.{bodies_step}
use Rattle.body_table.proofs.bodies.+bodies.Goals as goal

pub declare_inner-loop-decl-preserved : goal.declare_inner-loop-decl-preserved
declare_inner-loop-decl-preserved t c =
    let f = λ (d : Decl). flat_map (body c.args.by_default) (bodies_of d) in
    let count = items_count f c.args.decls.now c.loop-decl.decl-index c.decl-item.result c.loop-decl-test.true c.decl-item.is in
    let step = bodies_step f c.args.decls.now c.loop-decl.decl-index c.loop-decl.number c.decl-item.result c.loop-decl.table c.loop-decl-test.true c.decl-item.is in
    grind (arith)

pub declare_inner-returns : goal.declare_inner-returns
declare_inner-returns t c =
    let e = drop_end c.args.decls.now c.loop-decl.decl-index c.loop-decl-test.false in
    grind (arith, declaring)
