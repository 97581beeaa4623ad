-- What is seen through a view.
use Rattle.estelle_model.specs.declared.image.Image.{Image}
use Rattle.body_state.specs.declared.view.View.TheInside.{Inside}
use Rattle.body_state.specs.InOrder.{parts_behind}

-- the image of the parts and links that are lent
abbrev pub image_seen : Inside → Image
image_seen v = record { parts = parts_behind v.parts.now; links = v.links.now }
