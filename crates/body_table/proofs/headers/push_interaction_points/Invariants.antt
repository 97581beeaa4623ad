use Rattle.std.proofs.Common.{◌≡◌, ◌++◌, take}
use Rattle.estelle_model.specs.Bodies.{interaction_points}
use Rattle.meaning_table.specs.Known.{meanings_of}
use Rattle.body_table.proofs.headers.push_interaction_points.Given as goal

abbrev pub invariant-loop-ip : goal.invariant-loop-ip
invariant-loop-ip l = l.out ≡ l.initial.out ++ interaction_points (meanings_of l.table) l.by_default l.external (take l.ip-index l.ips)
