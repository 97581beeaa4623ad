use Rattle.std.proofs.Common.{◌≡◌, ◌+◌, drop, length}
use Rattle.estelle_model.specs.Bodies.{bodies_declare}
use Rattle.meaning_table.specs.Known.{declare_all}
use Rattle.body_table.specs.Standings.{inner}
use Rattle.body_table.proofs.bodies.+bodies.Given as goal

abbrev pub invariant-declare_inner-loop-decl : goal.invariant-declare_inner-loop-decl
invariant-declare_inner-loop-decl l =
    (declare_all l.table (bodies_declare l.number (inner l.by_default (drop l.decl-index l.decls))) ≡ declare_all l.initial.table (bodies_declare l.first (inner l.by_default l.decls)))
    × (l.number + length (inner l.by_default (drop l.decl-index l.decls)) ≡ l.first + length (inner l.by_default l.decls))
