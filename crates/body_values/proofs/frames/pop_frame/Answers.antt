use Rattle.std.proofs.Common.{ap, sym, ◌∙◌}
use Rattle.pascal_values.specs.declared.value.Value.TheVariants.{Unset}
use Rattle.estelle_model.specs.Calls.{last_or}
use Rattle.body_values.proofs.FrameLemmas.{last_push}
use Rattle.body_values.proofs.frames.pop_frame.Goals as goal

pub returns-in-Some-clause-last : goal.returns-in-Some-clause-last
returns-in-Some-clause-last c = sym (ap (last_or Unset) c.in-Some.ensures.items ∙ last_push Unset c.in-Some.frame c.pop.new.self.items)
