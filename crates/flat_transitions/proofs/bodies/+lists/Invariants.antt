use Rattle.std.proofs.Common.{◌≡◌, ◌++◌, take, map}
use Rattle.std.specs.List.{flat_map}
use Rattle.flat_transitions.specs.Flat.{with_chosen}
use Rattle.flat_transitions.specs.BodyWalks.{trans_list, decl_trans}
use Rattle.flat_transitions.proofs.bodies.+lists.Given as goal

abbrev pub invariant-decls_list-loop-decl : goal.invariant-decls_list-loop-decl
invariant-decls_list-loop-decl l = l.out ≡ l.initial.out ++ flat_map (λ d. map (trans_list (with_chosen l.table)) (decl_trans d)) (take l.decl-index l.decls)
