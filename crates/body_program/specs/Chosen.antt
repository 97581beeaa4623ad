-- Transitions and their blocks, by what is known of names.
use Rattle.std.specs.Prelude.{ℕ, zero, suc, List, map, slice_get, Option, None}
use Rattle.estelle_tree.specs.declared.tree.specification.Trans.{Trans}
use Rattle.estelle_model.specs.declared.meaning.Routine.{Routine}
use Rattle.estelle_model.specs.Transitions.{Choice, with_choices, Transition}
use Rattle.estelle_model.specs.Subject.{of_block}
use Rattle.meaning_table.specs.Known.{Known}
use Rattle.flat_transitions.specs.Flat.{with_chosen, transitions_in}
use Rattle.body_program.specs.declared.flat.BodyTransitions.{BodyTransitions}

-- with the chosen values as constants
abbrev pub chosen_over : Known → List Choice → Known
chosen_over known chosen = record { names = known.names; declared = with_choices known.declared chosen }

-- the block of a transition, with the parameters of what it receives
abbrev pub block_by : Known → Transition → Routine
block_by known t = of_block (with_chosen known t.chosen) t.received t.block

-- the block of the transition with a number, counted from 1
abbrev pub block_numbered : List Routine → ℕ → Option Routine
block_numbered rs zero = None
block_numbered rs (suc n) = slice_get rs n

abbrev pub transitions_by : Known → List Trans → BodyTransitions
transitions_by known ts = record { transitions = transitions_in (with_chosen known) ts; blocks = map (block_by known) (transitions_in (with_chosen known) ts) }
