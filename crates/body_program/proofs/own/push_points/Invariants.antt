use Rattle.std.proofs.Common.{◌≡◌, ◌++◌, take, false}
use Rattle.std.specs.List.{flat_map}
use Rattle.estelle_model.specs.Bodies.{interaction_points}
use Rattle.meaning_table.specs.Known.{meanings_of}
use Rattle.body_table.specs.Contributions.{ips_of}
use Rattle.body_program.proofs.own.push_points.Given as goal

abbrev pub invariant-loop-decl : goal.invariant-loop-decl
invariant-loop-decl l = l.out ≡ l.initial.out ++ flat_map (λ d. interaction_points (meanings_of l.table) l.by_default false (ips_of d)) (take l.decl-index l.decls)
