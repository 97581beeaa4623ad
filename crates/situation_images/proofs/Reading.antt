-- The private part of an instance, as it is read of the shared state.
use Rattle.std.proofs.Common.{◌≡◌, ◌∙◌, List, filter, ap}
use Rattle.estelle_tree.specs.declared.link.Link.{Link}
use Rattle.estelle_tree.specs.Paths.{Path}
use Rattle.estelle_model.specs.declared.image.Image.{Image}
use Rattle.estelle_model.specs.declared.image.Part.{Part}
use Rattle.estelle_model.specs.Core.{Instances}
use Rattle.estelle_model.specs.Subject.{Subject}
use Rattle.estelle_model.specs.Situation.{Situation}
use Rattle.estelle_model.specs.Jobs.{is_private, private}
use Rattle.estelle_model_legality.specs.Jobs.{image_of}
use Rattle.effect_log.specs.declared.shared.Shared.{Shared}
use Rattle.effect_log.specs.Standing.{Stands}
use Rattle.situation_images.specs.Instances.{instances_in, parts_of}
use Rattle.situation_images.proofs.Parts.{instances_are}

pub image_is : (s : Subject) (shared : Shared) (g : Situation) (m : Path) → Stands s shared g → (ps : List Part) (ls : List Link) → ps ≡ parts_of g m
    → ls ≡ filter (is_private s (instances_in shared.tree) m) shared.links.links → ◌≡◌ {A = Image} (record { parts = ps; links = ls }) (image_of (private s g.core m))
image_is s shared g m stands ps ls parts links =
    let own = links
    ∙ ap (λ (is : Instances). filter (is_private s is m) shared.links.links) (instances_are shared.tree g stands.instances)
    ∙ ap (filter (is_private s g.core.instances m)) stands.links in
    λ i. record { parts = parts i; links = own i }
