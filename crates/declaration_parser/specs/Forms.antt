-- Forms that stand in one another, read from left to right.
use Rattle.std.specs.Prelude.{Bool, true, false, List, []}
use Rattle.estelle_tree.specs.declared.kind.Kind.{Kind}
use Rattle.token_reader.specs.Reader.{Parser, ◌>>=◌, ◌>>◌, pure, sees, expect}
use Rattle.type_parser.specs.Definitions.{part}

-- `from x to`
unfoldable pub enclosed : {A : Type 0} → Kind → Kind → Parser A → Parser A
enclosed opener closer item = do
  expect opener
  x ← item
  expect closer
  pure x

-- `x k y`
unfoldable pub joined : {A B : Type 0} → Kind → Parser A → Parser B → Parser (A × B)
joined kind first second = do
  x ← first
  expect kind
  y ← second
  pure (x, y)

abbrev pub part_if : {A : Type 0} → Bool → Parser (List A) → Parser (List A)
part_if true items = items
part_if false items = pure []

-- `[k {x ";"}+]`
unfoldable pub may_be_part : {A : Type 0} → Kind → (Kind → Bool) → Parser A → Parser (List A)
may_be_part first begins item = λ i. part_if (sees first i) (part first begins item) i
