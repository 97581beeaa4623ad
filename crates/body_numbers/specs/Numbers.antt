-- What the numbers in instructions stand for.
use Rattle.std.specs.Prelude.{ℕ, List, option_map, slice_get, Option}
use Rattle.std.specs.Option.{option_and_then}
use Rattle.pascal_values.specs.declared.value.Shape.{Shape}
use Rattle.estelle_model.specs.declared.meaning.InteractionKind.{InteractionKind}
use Rattle.body_numbers.specs.declared.numbers.Numbers.{Numbers}

-- the shape with a number
abbrev pub shape_numbered : Numbers → ℕ → Option Shape
shape_numbered n k = slice_get n.shapes k

-- the variable of the child in a module variable of a body that an export of its header is
abbrev pub export_numbered : Numbers → ℕ → ℕ → ℕ → Option ℕ
export_numbered n body variable k =
    option_and_then (λ b. option_and_then (λ h. option_and_then (λ exports. slice_get exports k) (slice_get n.headers h)) (slice_get b.module_variables variable)) (slice_get n.bodies body)

-- the word of an interaction point of a body
abbrev pub word_of : Numbers → ℕ → ℕ → Option (List ℕ)
word_of n body ip = option_and_then (λ b. option_map (λ i. i.word) (slice_get b.ips ip)) (slice_get n.bodies body)

-- the interaction with a number of the channel of an interaction point of a body
abbrev pub interaction_of : Numbers → ℕ → ℕ → ℕ → Option InteractionKind
interaction_of n body ip k =
    option_and_then (λ b. option_and_then (λ i. option_and_then (λ kinds. slice_get kinds k) (slice_get n.channels i.channel)) (slice_get b.ips ip)) (slice_get n.bodies body)
