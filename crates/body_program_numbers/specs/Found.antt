-- What the code finds of an outline, by references into the tree.
use Rattle.std.specs.Prelude.{List, map, flat_map}
use Rattle.std.specs.Borrow.{Bor}
use Rattle.std.specs.Option.{option_copied}
use Rattle.estelle_tree.specs.declared.tree.declaration.Routine.{Routine}
use Rattle.estelle_tree.specs.declared.tree.specification.Channel.{Channel}
use Rattle.estelle_tree.specs.declared.tree.specification.Header.{Header}
use Rattle.estelle_tree.specs.declared.tree.specification.Parts.{Parts, out-Parts}
use Rattle.estelle_model.specs.Bodies.{BodyAlone}
use Rattle.body_table.specs.Standings.{standing}
use Rattle.body_program_numbers.specs.declared.outline.Standing.{Standing}
use Rattle.body_program_numbers.specs.Outline.{decl}

abbrev pub channels : List (Bor Channel) → List Channel
channels = map (λ c. c.now)

abbrev pub headers : List (Bor Header) → List Header
headers = map (λ h. h.now)

abbrev pub routines : List (Bor Routine) → List Routine
routines = map (λ r. r.now)

-- a body without those in it
abbrev pub standing_of : Standing → BodyAlone
standing_of x = standing x.by_default (option_copied x.name) (option_copied x.header) x.parts.now

abbrev pub standings : List Standing → List BodyAlone
standings = map standing_of

-- the routines that stand in no body in these parts
abbrev pub own_routines : Parts → List Routine
own_routines p = flat_map (λ d. (decl d).routines) (out-Parts p).decls

abbrev pub routine_lists : List Standing → List (List Routine)
routine_lists = map (λ x. routines x.routines)
