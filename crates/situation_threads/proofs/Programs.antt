-- A program may be read by several threads.
use denote.Param.Send.{IsSync, sendable}
use denote.Param.SendFields.{as_row_sync, declared_sync, variants_sync}
use Rattle.std.proofs.Crossing.{crosses}
use Rattle.estelle_lists.proofs.items.Items.TheSendSync as items
use Rattle.situation_threads.proofs.Values.{Value_field_sync, TypeOf_send, TypeOf_sync, InteractionKind_sync, InteractionKind_field_sync, Heading_field_sync, Passing_sync}
use Rattle.situation_threads.proofs.Trees.{Stmts_sync, Spec_sync}
use Rattle.place_table.proofs.layers.Layers.TheSendSync as layers
use Rattle.place_table.proofs.places.Places.TheSendSync as places
use Rattle.estelle_tree.proofs.word.Word.TheSendSync as word_facts
use Rattle.estelle_tree.proofs.names.Names.TheSendSync as names_facts
use Rattle.estelle_tree.proofs.required.Required.TheSendSync as required_facts
use Rattle.estelle_tree.proofs.names.Use.TheSendSync as use_facts
use Rattle.estelle_model.proofs.denoter.Host.TheSendSync as host_facts
use Rattle.estelle_model.proofs.meaning.Role.TheSendSync as role_facts
use Rattle.estelle_model.proofs.meaning.Attribute.TheSendSync as attribute_facts
use Rattle.estelle_model.proofs.meaning.InteractionPoint.TheSendSync as interaction_point_facts
use Rattle.estelle_tree.proofs.tree.name.Name.TheSendSync as name_facts
use Rattle.estelle_model.specs.contracts.shared.Statements as Statements
use denote.Ref.{NamedLft}
use Rattle.estelle_model.specs.contracts.meaning.Routine as Routine
use Rattle.estelle_model.specs.contracts.meaning.Meaning as Meaning
use Rattle.meaning_table.specs.contracts.required.Words as Words
use Rattle.meaning_table.specs.contracts.used.UsedNames as UsedNames
use Rattle.meaning_table.specs.contracts.used.HeldNames as HeldNames
use Rattle.meaning_table.specs.contracts.table.Table as Table
use Rattle.body_state.specs.contracts.bodies.Initialization as Initialization
use Rattle.body_state.specs.contracts.bodies.ModuleBody as ModuleBody
use Rattle.body_state.specs.contracts.bodies.ModuleBodies as ModuleBodies
use Rattle.situation_threads.proofs.Values.{Shape_sync}
use Rattle.body_numbers.proofs.numbers.BodyNumbers.TheSendSync as body_numbers_facts
use Rattle.body_numbers.specs.contracts.numbers.Numbers as Numbers
use Rattle.flat_transitions.proofs.shared.Shared.TheSendSync as shared_lists
use Rattle.flat_transitions.proofs.choice.Choice.TheSendSync as choice_facts
use Rattle.flat_transitions.proofs.clauses.When.TheSendSync as when_facts
use Rattle.flat_transitions.proofs.clauses.Priority.TheSendSync as priority_facts
use Rattle.flat_transitions.proofs.states.States.TheSendSync as states_facts
use Rattle.situation_threads.proofs.Trees.{Expr_sync, DelayHigh_sync, Block_sync}
use Rattle.flat_transitions.specs.contracts.clauses.Condition as Condition
use Rattle.flat_transitions.specs.contracts.clauses.Delay as Delay
use Rattle.flat_transitions.specs.contracts.in_force.ClausesInForce as ClausesInForce
use Rattle.flat_transitions.specs.contracts.transition.Transition as Transition
use Rattle.flat_transitions.specs.contracts.transition.Transitions as Transitions
use Rattle.body_program.specs.contracts.flat.BodyTransitions as BodyTransitions
use Rattle.body_program.specs.contracts.program.Program as Program
use Rattle.situation_threads.proofs.Trees.{Parts_sync, Routine_sync as RoutineOfTree_sync}
use Rattle.type_shapes.proofs.numbered.NumberedShapes.TheSendSync as shapes_facts
use Rattle.body_program_numbers.specs.contracts.outline.Standing as Standing
use Rattle.body_program_numbers.specs.contracts.numbering.Numbering as Numbering
use Rattle.accepted_program.specs.contracts.program.AcceptedProgram as AcceptedProgram
use Rattle.situation_threads.proofs.Codes.{Code_sync}
use Rattle.compiled_program.specs.contracts.program.CompiledProgram as CompiledProgram

ruleset parts = (
  variants_sync,
  declared_sync,
  sendable,
  crosses,
  items.the_sync,
  layers.the_sync,
  places.the_sync,
  word_facts.the_sync,
  names_facts.the_sync,
  names_facts.the_field_sync,
  required_facts.the_sync,
  required_facts.the_field_sync,
  use_facts.the_sync,
  use_facts.the_field_sync,
  host_facts.the_sync,
  host_facts.the_field_sync,
  role_facts.the_sync,
  role_facts.the_field_sync,
  attribute_facts.the_sync,
  attribute_facts.the_field_sync,
  interaction_point_facts.the_sync,
  interaction_point_facts.the_field_sync,
)

pub Statements_sync : (κ : NamedLft) → IsSync (Statements.the_row κ)
Statements_sync κ = search (parts, Stmts_sync) depth 20

pub Routine_field_sync : (κ : NamedLft) → IsSync (Routine.the_field κ).row
Routine_field_sync κ = search (parts, Statements_sync, TypeOf_sync, Passing_sync) depth 20

pub Routine_sync : (κ : NamedLft) → IsSync (Routine.the_row κ)
Routine_sync κ = as_row_sync (Routine.the_field κ) (Routine_field_sync κ)

pub Meaning_field_sync : (κ : NamedLft) → IsSync (Meaning.the_field κ).row
Meaning_field_sync κ = search (parts, Routine_field_sync, Value_field_sync, TypeOf_sync, InteractionKind_field_sync, Heading_field_sync) depth 60 fits 10000

pub Meaning_sync : (κ : NamedLft) → IsSync (Meaning.the_row κ)
Meaning_sync κ = as_row_sync (Meaning.the_field κ) (Meaning_field_sync κ)

pub Words_sync : (κ : NamedLft) → IsSync (Words.the_row κ)
Words_sync κ = search (parts, Meaning_sync) depth 20

pub UsedNames_sync : (κ : NamedLft) → IsSync (UsedNames.the_row κ)
UsedNames_sync κ = search (parts, Meaning_sync, Words_sync) depth 20

pub HeldNames_field_sync : (κ : NamedLft) → IsSync (HeldNames.the_field κ).row
HeldNames_field_sync κ = search (parts, UsedNames_sync) depth 20

pub HeldNames_sync : (κ : NamedLft) → IsSync (HeldNames.the_row κ)
HeldNames_sync κ = as_row_sync (HeldNames.the_field κ) (HeldNames_field_sync κ)

pub Table_sync : (κ : NamedLft) → IsSync (Table.the_row κ)
Table_sync κ = search (parts, Meaning_sync, HeldNames_sync) depth 20

pub Initialization_field_sync : (κ : NamedLft) → IsSync (Initialization.the_field κ).row
Initialization_field_sync κ = search (parts, Routine_field_sync) depth 20

pub Initialization_sync : (κ : NamedLft) → IsSync (Initialization.the_row κ)
Initialization_sync κ = as_row_sync (Initialization.the_field κ) (Initialization_field_sync κ)

pub ModuleBody_field_sync : (κ : NamedLft) → IsSync (ModuleBody.the_field κ).row
ModuleBody_field_sync κ = search (parts, Initialization_sync, TypeOf_sync) depth 20

pub ModuleBody_sync : (κ : NamedLft) → IsSync (ModuleBody.the_row κ)
ModuleBody_sync κ = as_row_sync (ModuleBody.the_field κ) (ModuleBody_field_sync κ)

pub ModuleBodies_sync : (κ : NamedLft) → IsSync (ModuleBodies.the_row κ)
ModuleBodies_sync κ = search (parts, ModuleBody_sync, Spec_sync) depth 20

pub Numbers_field_sync : IsSync (Numbers.the_field).row
Numbers_field_sync = search (parts, Shape_sync, InteractionKind_sync, body_numbers_facts.the_sync) depth 20

pub Numbers_sync : IsSync Numbers.the_row
Numbers_sync = as_row_sync Numbers.the_field Numbers_field_sync

pub Condition_sync : (κ : NamedLft) → IsSync (Condition.the_row κ)
Condition_sync κ = search (parts, Expr_sync) depth 20

pub Delay_sync : (κ : NamedLft) → IsSync (Delay.the_row κ)
Delay_sync κ = search (parts, Expr_sync, DelayHigh_sync) depth 20

pub ClausesInForce_field_sync : (κ : NamedLft) → IsSync (ClausesInForce.the_field κ).row
ClausesInForce_field_sync κ = search (
  parts,
  choice_facts.the_sync,
  when_facts.the_sync,
  priority_facts.the_sync,
  states_facts.the_sync,
  choice_facts.the_send,
  shared_lists.the_sync,
  shared_lists.the_send,
  Condition_sync,
  Delay_sync,
  TypeOf_send,
  TypeOf_sync,
) depth 20

pub ClausesInForce_sync : (κ : NamedLft) → IsSync (ClausesInForce.the_row κ)
ClausesInForce_sync κ = as_row_sync (ClausesInForce.the_field κ) (ClausesInForce_field_sync κ)

pub Transition_sync : (κ : NamedLft) → IsSync (Transition.the_row κ)
Transition_sync κ = search (
  parts,
  choice_facts.the_sync,
  choice_facts.the_send,
  shared_lists.the_sync,
  ClausesInForce_sync,
  ClausesInForce_field_sync,
  Block_sync,
) depth 20

pub Transitions_sync : (κ : NamedLft) → IsSync (Transitions.the_row κ)
Transitions_sync κ = search (parts, Transition_sync) depth 20

pub BodyTransitions_field_sync : (κ : NamedLft) → IsSync (BodyTransitions.the_field κ).row
BodyTransitions_field_sync κ = search (parts, Transitions_sync, Routine_sync) depth 20

pub BodyTransitions_sync : (κ : NamedLft) → IsSync (BodyTransitions.the_row κ)
BodyTransitions_sync κ = as_row_sync (BodyTransitions.the_field κ) (BodyTransitions_field_sync κ)

pub Program_sync : (κ : NamedLft) → IsSync (Program.the_row κ)
Program_sync κ = search (parts, BodyTransitions_sync, Table_sync, ModuleBodies_sync) depth 20

pub Standing_field_sync : (κ : NamedLft) → IsSync (Standing.the_field κ).row
Standing_field_sync κ = search (parts, Parts_sync, RoutineOfTree_sync, name_facts.the_sync) depth 20

pub Standing_sync : (κ : NamedLft) → IsSync (Standing.the_row κ)
Standing_sync κ = as_row_sync (Standing.the_field κ) (Standing_field_sync κ)

pub Numbering_sync : (κ : NamedLft) → IsSync (Numbering.the_row κ)
Numbering_sync κ = search (parts, Standing_sync, RoutineOfTree_sync, name_facts.the_sync, Program_sync, Numbers_sync, Numbers_field_sync, shapes_facts.the_sync) depth 20

pub AcceptedProgram_sync : (κ : NamedLft) → IsSync (AcceptedProgram.the_row κ)
AcceptedProgram_sync κ = search (parts, Program_sync) depth 20

pub CompiledProgram_sync : (κ : NamedLft) → IsSync (CompiledProgram.the_row κ)
CompiledProgram_sync κ = search (parts, AcceptedProgram_sync, Numbering_sync, Code_sync) depth 20
