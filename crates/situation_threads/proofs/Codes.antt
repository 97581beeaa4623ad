-- The code of bodies may be read by several threads.
use denote.Param.Send.{IsSend, IsSync, sendable}
use denote.Param.SendFields.{as_row_send, as_row_sync, declared_send, declared_sync, variants_send, variants_sync}
use Rattle.std.proofs.Crossing.{crosses}
use Rattle.estelle_lists.proofs.items.Items.TheSendSync as items
use Rattle.estelle_tree.proofs.word.Word.TheSendSync as word_facts
use Rattle.pascal_values.proofs.fault.Fault.TheSendSync as fault_facts
use Rattle.body_code.proofs.instr.Point.TheSendSync as point_facts
use Rattle.body_code.proofs.instr.Ends.TheSendSync as ends_facts
use Rattle.body_code.proofs.unit.Entry.TheSendSync as entry_facts
use Rattle.body_code.proofs.unit.Heading.TheSendSync as heading_facts
use Rattle.body_code.proofs.shared.Shared.TheSendSync as shared_lists
use Rattle.indexmap.proofs.map.IndexMap.TheSendSync as map
use Rattle.situation_threads.proofs.Values.{Value_field_send, Value_field_sync, Shape_field_send, Shape_field_sync}
use denote.Param.Send.{plain_send, plain_sync, enum_send, enum_sync}
use Rattle.body_code.specs.contracts.instr.Instr as Instr
use Rattle.body_code.specs.contracts.instrs.Instrs as Instrs
use Rattle.body_code.specs.contracts.unit.Local as Local
use Rattle.body_code.specs.contracts.unit.CodeUnit as CodeUnit
use Rattle.body_code.specs.contracts.code.Code as Code

ruleset parts = (
  variants_send,
  variants_sync,
  declared_send,
  declared_sync,
  sendable,
  crosses,
  items.the_send,
  items.the_sync,
  word_facts.the_send,
  word_facts.the_sync,
  fault_facts.the_send,
  fault_facts.the_sync,
  fault_facts.the_field_send,
  fault_facts.the_field_sync,
  point_facts.the_send,
  point_facts.the_sync,
  point_facts.the_field_send,
  point_facts.the_field_sync,
  ends_facts.the_send,
  ends_facts.the_sync,
  ends_facts.the_field_send,
  ends_facts.the_field_sync,
  entry_facts.the_send,
  entry_facts.the_sync,
  entry_facts.the_field_send,
  entry_facts.the_field_sync,
  heading_facts.the_send,
  heading_facts.the_sync,
  heading_facts.the_field_send,
  heading_facts.the_field_sync,
  shared_lists.the_send,
  shared_lists.the_sync,
  map.the_sync,
)

pub Instr_field_send : IsSend (Instr.the_field).row
Instr_field_send = search (
  enum_send,
  tt,
  plain_send,
  ends_facts.the_field_send,
  point_facts.the_field_send,
  fault_facts.the_field_send,
  Value_field_send,
) depth 250 fits 100000

pub Instr_send : IsSend Instr.the_row
Instr_send = as_row_send Instr.the_field Instr_field_send

pub Instr_field_sync : IsSync (Instr.the_field).row
Instr_field_sync = search (
  enum_sync,
  tt,
  plain_sync,
  ends_facts.the_field_sync,
  point_facts.the_field_sync,
  fault_facts.the_field_sync,
  Value_field_sync,
) depth 250 fits 100000

pub Instr_sync : IsSync Instr.the_row
Instr_sync = as_row_sync Instr.the_field Instr_field_sync

pub Instrs_send : IsSend Instrs.the_row
Instrs_send = search (parts, Instr_send, Instr_sync) depth 20

pub Instrs_sync : IsSync Instrs.the_row
Instrs_sync = search (parts, Instr_send, Instr_sync) depth 20

pub Local_field_send : IsSend (Local.the_field).row
Local_field_send = search (parts, Shape_field_send) depth 20

pub Local_send : IsSend Local.the_row
Local_send = as_row_send Local.the_field Local_field_send

pub Local_field_sync : IsSync (Local.the_field).row
Local_field_sync = search (parts, Shape_field_sync) depth 20

pub Local_sync : IsSync Local.the_row
Local_sync = as_row_sync Local.the_field Local_field_sync

pub CodeUnit_field_send : IsSend (CodeUnit.the_field).row
CodeUnit_field_send = search (parts, Local_send, Local_sync, Instrs_send) depth 20

pub CodeUnit_send : IsSend CodeUnit.the_row
CodeUnit_send = as_row_send CodeUnit.the_field CodeUnit_field_send

pub CodeUnit_field_sync : IsSync (CodeUnit.the_field).row
CodeUnit_field_sync = search (parts, Local_send, Local_sync, Instrs_sync) depth 20

pub CodeUnit_sync : IsSync CodeUnit.the_row
CodeUnit_sync = as_row_sync CodeUnit.the_field CodeUnit_field_sync

pub Code_sync : IsSync Code.the_row
Code_sync = search (parts, CodeUnit_sync) depth 20
