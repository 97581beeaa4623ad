use Rattle.std.proofs.Common.{◌≡◌, take}
use Rattle.std.specs.Prelude.{fold}
use Rattle.type_rules.specs.Types.{with_field}
use Rattle.declaration_table.proofs.types.with_fields.Given as goal

abbrev pub invariant-loop-name : goal.invariant-loop-name
invariant-loop-name l = l.all ≡ fold (λ so_far x. with_field so_far l.field) l.initial.all (take l._name-index l.names)
