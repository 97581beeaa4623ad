use Rattle.std.proofs.Common.{◌≡◌, ◌++◌, List, rules, subst}
use Rattle.std.specs.Prelude.{OnOk}
use Rattle.meaning_table.specs.Known.{meanings_of}
use Rattle.flat_transitions.specs.declared.any_names.AnyName.{AnyName}
use Rattle.flat_transitions.proofs.Joining.{domain_named}
use Rattle.flat_transitions.proofs.any_names.push_domain.Goals as goal

pub returns : goal.returns
returns c = subst (λ (xs : List AnyName). OnOk c.push_names.result (c.push_names.new.out ≡ c.args.out.now ++ xs)) (domain_named (meanings_of c.args.table.now) c.args.domain.now c.denoter.result.now (search rules)) (search rules)
