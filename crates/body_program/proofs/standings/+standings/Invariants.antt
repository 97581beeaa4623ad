use Rattle.std.proofs.Common.{◌≡◌, ◌++◌, take}
use Rattle.std.specs.List.{flat_map}
use Rattle.body_program.specs.Told.{bodies_in, flats_in}
use Rattle.body_program.proofs.standings.+standings.Given as goal

abbrev pub invariant-push_inner-loop-decl : goal.invariant-push_inner-loop-decl
invariant-push_inner-loop-decl l =
    (l.out.bodies ≡ l.initial.out.bodies ++ flat_map (bodies_in l.table l.by_default) (take l.decl-index l.decls))
    × (l.out.transitions ≡ l.initial.out.transitions ++ flat_map (flats_in l.table l.by_default) (take l.decl-index l.decls))
