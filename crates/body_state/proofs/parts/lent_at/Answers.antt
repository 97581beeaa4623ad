use Rattle.std.proofs.Common.{ap, sym, ◌∙◌}
use Rattle.std.specs.Prelude.{option_map}
use Rattle.estelle_model.specs.Jobs.{instance_of}
use Rattle.body_state.specs.InOrder.{parts_behind}
use Rattle.body_state.proofs.OrderLemmas.{holds_of, found_at}
use Rattle.body_state.proofs.parts.lent_at.Goals as goal

pub returns-in-Some : goal.returns-in-Some
returns-in-Some c = let s = c.in-Some.ensures in ap (option_map instance_of) (c.lent_nth.ensures ∙ s.1) ∙ sym (found_at (parts_behind c.args.parts.now) _ _ s.0 (holds_of _ c.requires) s.1 s.2)
