use Rattle.pascal_values.proofs.SetLemmas.{IsSet-set_of, is_member-set_of}
use Rattle.pascal_values.proofs.laws.chosen_members.Goals as goal

pub returns : goal.returns
returns c = λ p. (IsSet-set_of p, is_member-set_of p)
