use Rattle.std.proofs.Common.{◌≡◌, nat_eq, drop}
use Rattle.indexmap.specs.IndexSet.{insert_all}
use Rattle.pascal_check.proofs.open_routines.open_all.Given as goal

abbrev pub invariant-loop-routine : goal.invariant-loop-routine
invariant-loop-routine l = insert_all nat_eq l.opened.keys (drop l.routine-index l.routines) ≡ insert_all nat_eq l.initial.opened.keys l.routines
