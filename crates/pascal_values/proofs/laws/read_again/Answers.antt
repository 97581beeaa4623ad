use Rattle.std.proofs.Common.{refl}
use Rattle.pascal_values.proofs.ItemLemmas.{part_only}
use Rattle.pascal_values.proofs.laws.read_again.Goals as goal

pub returns : goal.returns
returns c = λ v rest h none. ((λ nothing. nothing v rest h refl), λ w more r. part_only 200 _ w more r v rest h none refl)
