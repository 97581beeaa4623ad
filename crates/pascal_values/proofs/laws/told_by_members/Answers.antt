use Rattle.pascal_values.proofs.SetLemmas.{same_members}
use Rattle.pascal_values.proofs.laws.told_by_members.Goals as goal

pub returns : goal.returns
returns c = same_members
