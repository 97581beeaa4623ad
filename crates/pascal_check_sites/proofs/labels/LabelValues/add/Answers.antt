use Rattle.pascal_check_sites.proofs.LabelSets.{added, repeated}
use Rattle.pascal_check_sites.proofs.labels.LabelValues.add.Goals as goal

pub returns-in_ok-is_new-in-Some-clause-values : goal.returns-in_ok-is_new-in-Some-clause-values
returns-in_ok-is_new-in-Some-clause-values c =
    added c.self.inside.values.keys c.insert.new.self.keys c.args.self.now c.args.value c.in-Some.value c.self.view_is c.in-Some.is c.in_ok-is_new-in-Some.ensures.keys

pub returns-in_ok-is_new-in-Some-clause-repeated : goal.returns-in_ok-is_new-in-Some-clause-repeated
returns-in_ok-is_new-in-Some-clause-repeated c =
    repeated c.self.inside.values.keys c.args.self.now c.args.value c.in-Some.value c.in_ok-is_new-in-Some.is_new c.self.view_is c.in-Some.is c.in_ok-is_new-in-Some.ensures.added
