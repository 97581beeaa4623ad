-- A world may be sent to another thread, where its chooser and its clock may.
use denote.Param.Send.{IsSend, sendable}
use denote.Param.SendFields.{as_row_send, declared_send, variants_send}
use Rattle.std.proofs.Crossing.{crosses}
use Rattle.estelle_lists.proofs.items.Items.TheSendSync as items
use Rattle.situation_threads.proofs.Values.{Event_field_send}
use Rattle.estelle_tree.proofs.path.Path.TheSendSync as path_facts
use Rattle.estelle_tree.proofs.transition.Pair.TheSendSync as pair_facts
use Rattle.estelle_model.proofs.event.End.TheSendSync as end_facts
use Rattle.run_history.proofs.entry.Taken.TheSendSync as taken_facts
use Rattle.situation_steps.proofs.systems.System.TheSendSync as system_facts
use Rattle.situation_steps.proofs.systems.Time.TheSendSync as time_facts
use Rattle.delay_timers.proofs.timers.Timers.TheSendSync as timers_facts
use Rattle.run_history.specs.contracts.entry.What as What
use Rattle.run_history.specs.contracts.entry.Entry as Entry
use Rattle.run_history.specs.contracts.history.History as History
use Rattle.situation_threads.proofs.Programs.{Program_sync, CompiledProgram_sync}
use Rattle.situation_threads.proofs.Stores.{Shared_field_send, Notes_field_send}
use Rattle.situation_state.specs.contracts.state.State as State
use denote.Ref.{NamedLft}
use denote.RattleType.{RattleType}
use Rattle.outside.specs.declared.clock.Clock as clock
use Rattle.situation.specs.contracts.execution.Execution as Execution
use Rattle.situation.specs.contracts.world.World as World

ruleset parts = (
  variants_send,
  declared_send,
  sendable,
  crosses,
  items.the_send,
  path_facts.the_send,
  pair_facts.the_send,
  pair_facts.the_field_send,
  end_facts.the_send,
  end_facts.the_field_send,
  taken_facts.the_send,
  taken_facts.the_field_send,
  system_facts.the_send,
  system_facts.the_field_send,
  time_facts.the_send,
  time_facts.the_field_send,
  timers_facts.the_send,
)

pub What_field_send : IsSend (What.the_field).row
What_field_send = search (parts, Event_field_send) depth 20

pub What_send : IsSend What.the_row
What_send = as_row_send What.the_field What_field_send

pub Entry_field_send : IsSend (Entry.the_field).row
Entry_field_send = search (parts, What_field_send) depth 20

pub Entry_send : IsSend Entry.the_row
Entry_send = as_row_send Entry.the_field Entry_field_send

pub History_send : IsSend History.the_row
History_send = search (parts, Entry_send) depth 20

pub State_field_send : (κ : NamedLft) → IsSend (State.the_field κ).row
State_field_send κ = search (parts, Shared_field_send, Notes_field_send, Program_sync) depth 20

pub State_send : (κ : NamedLft) → IsSend (State.the_row κ)
State_send κ = as_row_send (State.the_field κ) (State_field_send κ)

Execution_send : (κ : NamedLft) (H : RattleType) → IsSend H → IsSend (Execution.the_row κ H)
Execution_send κ H s = search (parts, State_send, State_field_send, History_send) depth 20

pub World_send : (κ : NamedLft) (C H : RattleType) (g : clock.Ghosts C.Denot) → IsSend C → IsSend H → IsSend (World.the_row κ C H g)
World_send κ C H g c h = search (parts, Execution_send, CompiledProgram_sync) depth 20
