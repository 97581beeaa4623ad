use Rattle.std.proofs.Common.{◌≡◌, List, subst}
use Rattle.std.specs.Prelude.{IfOk}
use Rattle.estelle_model.specs.Transitions.{Choice}
use Rattle.meaning_table.specs.Known.{meanings_of}
use Rattle.flat_transitions.proofs.Joining.{nothing_chosen}
use Rattle.flat_transitions.proofs.choices.choices_with.Goals as goal

pub returns-in_default : goal.returns-in_default
returns-in_default c = subst (λ (cs : List (List Choice)). IfOk c.share.result (λ choices. choices ≡ cs)) (nothing_chosen (meanings_of c.args.table.now) c.args.before.now c.args.clause.now c.in_default.not-Any) c.share.ensures
