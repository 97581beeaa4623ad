use Rattle.std.proofs.Common.{arith}
use Rattle.pascal_values.specs.Sets.{union, intersection, difference, interval}
use Rattle.pascal_values.proofs.SetLemmas.{IsSet-set_of}
use Rattle.pascal_values.proofs.laws.sets_are_given.Goals as goal

pub returns : goal.returns
unfolding union intersection difference interval
returns c = record {
  none = omega arith;
  span = λ low high. IsSet-set_of _;
  unite = λ a b. IsSet-set_of _;
  meet = λ a b. IsSet-set_of _;
  minus = λ a b. IsSet-set_of _;
}
