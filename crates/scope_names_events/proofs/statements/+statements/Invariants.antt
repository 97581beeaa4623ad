use Rattle.std.proofs.Common.{◌≡◌, take}
use Rattle.std.specs.List.{flat_map}
use Rattle.scope_names_events.specs.Writing.{write}
use Rattle.scope_rules.specs.StatementEvents.{stmt, case_}
use Rattle.scope_names_events.proofs.statements.+statements.Given as goal

abbrev pub invariant-write_list-loop-stmt : goal.invariant-write_list-loop-stmt
invariant-write_list-loop-stmt l = l.out ≡ write l.initial.out (flat_map stmt (take l.stmt-index l.stmts))

abbrev pub invariant-write_cases-loop-case : goal.invariant-write_cases-loop-case
invariant-write_cases-loop-case l = l.out ≡ write l.initial.out (flat_map case_ (take l.case-index l.cases))
