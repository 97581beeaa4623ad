-- A private part as it is read.
use Rattle.estelle_model.specs.declared.image.Image.{Image}
use Rattle.body_state.specs.InOrder.{InOrder, parts_behind}
use Rattle.situation_images.specs.declared.images.Private.TheInside.{Inside}

-- the image of the instances to which references lead, and of these links
abbrev pub image_read : Inside → Image
image_read p = record { parts = parts_behind p.parts.items; links = p.links.items }

abbrev pub HasOrder : Inside → Type 0
HasOrder p = InOrder (parts_behind p.parts.items)
