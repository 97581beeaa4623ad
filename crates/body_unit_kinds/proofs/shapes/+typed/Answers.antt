use Rattle.std.proofs.Common.{◌≡◌, ◌∙◌, sym, rules}
use Rattle.body_unit_kinds.proofs.ShapeEquations.{array_shape, fields_shape}
use Rattle.body_unit_kinds.proofs.shapes.+typed.Goals.{is_shape_of-then-least-low, is_shape_of-else-least-low}
use Rattle.body_unit_kinds.proofs.shapes.+typed.Goals as goal

pub is_shape_of-returns-then-most-high : goal.is_shape_of-returns-then-most-high
is_shape_of-returns-then-most-high t c = λ same. elim c.if-least-low.branch [
  | is_shape_of-then-least-low w ↦
      let least : c.in-Array-shape.least ≡ c.in-Array.low = search rules in
      let most : c.in-Array-shape.most ≡ c.in-Array.high = search (rules, sym w.value-is ∙ c.if-most-high.true) in
      array_shape c.args.shape.now c.args.denoter.now c.in-Array.low c.in-Array.high c.in-Array-shape.least c.in-Array-shape.most c.in-Array-shape.part c.in-Array.item c.in-Array-shape.is c.in-Array.is least most (search (rules, c.is_shape_of.ensures same))
  | is_shape_of-else-least-low w ↦ absurd (search (rules, sym w.value-is ∙ c.if-most-high.true))
]

pub is_shape_of-returns-in-Fields-shape : goal.is_shape_of-returns-in-Fields-shape
is_shape_of-returns-in-Fields-shape t c = λ same.
    fields_shape c.args.shape.now c.args.denoter.now c.in-Fields-shape.fields c.in-Fields.denoters c.in-Fields-shape.is c.in-Fields.is (search (rules, c.are_shapes_of.ensures same))
