use Rattle.std.proofs.Common.{◌∙◌, ap, rules, nat_eq}
use Rattle.std.specs.Map.{lookup}
use Rattle.flat_transitions.proofs.StateSets.{one_more_declared}
use Rattle.flat_transitions.proofs.naming.Naming.set_at.Goals as goal

pub invariant_of-self-in_err-insert : goal.invariant_of-self-in_err-insert
invariant_of-self-in_err-insert c = λ q s f. c.self.invariant q s (ap (lookup (nat_eq q)) (search rules) ∙ f)

pub invariant_of-self-2 : goal.invariant_of-self-2
invariant_of-self-2 c = one_more_declared c.self.inside.table.now c.self.inside.sets.entries c.insert.new.self.entries c.args.at c.in_ok-share.field-0 c.self.invariant (search rules) c.in_ok-insert.ensures.entries
