-- The stores of a situation may be sent to another thread.
use denote.Param.Send.{IsSend, sendable}
use denote.Param.SendFields.{as_row_send, declared_send, variants_send}
use Rattle.std.proofs.Crossing.{crosses}
use Rattle.estelle_lists.proofs.items.Items.TheSendSync as items
use Rattle.situation_threads.proofs.Values.{Part_send, Interaction_send, Out_send, Effect_send}
use Rattle.estelle_tree.proofs.word.Word.TheSendSync as word_facts
use Rattle.estelle_tree.proofs.path.Path.TheSendSync as path_facts
use Rattle.estelle_tree.proofs.path.PathRoom.TheSendSync as path_room_facts
use Rattle.estelle_tree.proofs.link.Link.TheSendSync as link_facts
use Rattle.estelle_tree.proofs.link.IpAddr.TheSendSync as ip_addr_facts
use Rattle.estelle_tree.proofs.transition.Pair.TheSendSync as pair_facts
use Rattle.module_tree.proofs.tree.Tree.TheSendSync as tree_facts
use Rattle.queue_store.proofs.queues.Queues.TheSendSync as queues_facts
use Rattle.link_ops.proofs.links.Links.TheSendSync as links_facts
use Rattle.delay_timers.proofs.timers.Timers.TheSendSync as timers_facts
use Rattle.effect_log.specs.contracts.shared.Shared as Shared
use Rattle.effect_log.specs.contracts.notes.Notes as Notes

ruleset parts = (
  variants_send,
  declared_send,
  sendable,
  crosses,
  items.the_send,
  word_facts.the_send,
  path_facts.the_send,
  path_room_facts.the_send,
  link_facts.the_send,
  link_facts.the_field_send,
  ip_addr_facts.the_send,
  ip_addr_facts.the_field_send,
  pair_facts.the_send,
  pair_facts.the_field_send,
  tree_facts.the_send,
  queues_facts.the_send,
  links_facts.the_send,
  timers_facts.the_send,
)

pub Shared_field_send : IsSend (Shared.the_field).row
Shared_field_send = search (parts, Part_send, Interaction_send) depth 20

pub Shared_send : IsSend Shared.the_row
Shared_send = as_row_send Shared.the_field Shared_field_send

pub Notes_field_send : IsSend (Notes.the_field).row
Notes_field_send = search (parts, Interaction_send, Out_send, Effect_send) depth 20

pub Notes_send : IsSend Notes.the_row
Notes_send = as_row_send Notes.the_field Notes_field_send
