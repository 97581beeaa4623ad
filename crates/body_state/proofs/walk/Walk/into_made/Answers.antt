use Rattle.std.proofs.Common.{ap, ◌∙◌}
use Rattle.estelle_model.specs.Jobs.{all_logged}
use Rattle.body_state.specs.Progress.{Progress}
use Rattle.body_state.proofs.WalkLemmas.{image_shows}
use Rattle.body_state.proofs.walk.Walk.into_made.Goals as goal

pub returns : goal.returns
returns c = (
  image_shows c.self.inside c.args.self c.self.view_is _ _ c.in_ok-into_parts.ensures c.in_ok-into_items.ensures,
  c.in_ok-into_effects.ensures ∙ ap (λ (r : Progress). all_logged c.args.bodies.now r.log) c.self.view_is,
)
