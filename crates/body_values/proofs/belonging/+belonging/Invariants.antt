use Rattle.std.proofs.Common.{◌≡◌, take, true}
use Rattle.std.specs.List.{list_all}
use Rattle.estelle_model.specs.Types.{shape_of}
use Rattle.estelle_model.specs.Belonging.{belongs, are_values_of}
use Rattle.body_values.proofs.belonging.+belonging.Given as goal

abbrev pub invariant-all_belong-loop-value : goal.invariant-all_belong-loop-value
invariant-all_belong-loop-value l = list_all (belongs (shape_of l.denoter)) (take l.value-index l.values) ≡ true

abbrev pub invariant-fields_belong-loop-i : goal.invariant-fields_belong-loop-i
invariant-fields_belong-loop-i l = are_values_of (take l.i l.fields) (take l.i l.values) ≡ true
