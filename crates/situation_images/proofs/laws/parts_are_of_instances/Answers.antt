use Rattle.situation_images.proofs.Parts as parts
use Rattle.situation_images.proofs.laws.parts_are_of_instances.Goals as goal

pub returns : goal.returns
returns c = record { paths = parts.parts_lie_below; parts = parts.parts_are_of_instances }
