use Rattle.pascal_values.proofs.SetLemmas.{IsSet-union}
use Rattle.pascal_values.proofs.sets.unite.Goals as goal

pub of-requires : goal.of-requires
of-requires c = IsSet-union _ _ c.in_ok-merged.field-0.items c.in_ok-merged.ensures
