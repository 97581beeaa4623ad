-- Values, jobs, what was computed of them, and events may be sent to another thread and be read by several.
use denote.Param.Send.{IsSend, IsSync, sendable}
use denote.Param.SendFields.{as_row_send, as_row_sync, declared_send, declared_sync, variants_send, variants_sync}
use Rattle.std.proofs.Crossing.{crosses}
use Rattle.estelle_lists.proofs.items.Items.TheSendSync as items
use Rattle.estelle_lists.proofs.boxed.Boxed.TheSendSync as boxed
use Rattle.estelle_tree.proofs.word.Word.TheSendSync as word_facts
use Rattle.estelle_tree.proofs.path.Path.TheSendSync as path_facts
use Rattle.estelle_tree.proofs.link.Link.TheSendSync as link_facts
use Rattle.estelle_tree.proofs.link.IpAddr.TheSendSync as ip_addr_facts
use Rattle.estelle_tree.proofs.transition.Pair.TheSendSync as pair_facts
use Rattle.pascal_values.proofs.members.Members.TheSendSync as members_facts
use Rattle.pascal_values.proofs.fault.Fault.TheSendSync as fault_facts
use Rattle.estelle_model.proofs.denoter.Host.TheSendSync as host_facts
use Rattle.estelle_model.proofs.event.End.TheSendSync as end_facts
use Rattle.estelle_model.proofs.meaning.InteractionPoint.TheSendSync as interaction_point_facts
use Rattle.estelle_model.proofs.meaning.Attribute.TheSendSync as attribute_facts
use Rattle.estelle_model.proofs.meaning.Senders.TheSendSync as senders_facts
use Rattle.pascal_values.proofs.value.Value.TheLaws.TheKnot as values_knot
use Rattle.pascal_values.specs.contracts.value.Value as Value
use Rattle.pascal_values.proofs.value.Shape.TheLaws.TheKnot as shapes_knot
use Rattle.pascal_values.specs.contracts.value.Shape as Shape
use Rattle.estelle_model.proofs.denoter.Denoter.TheLaws.TheKnot as denoters_knot
use Rattle.estelle_model.specs.contracts.denoter.Denoter as Denoter
use Rattle.estelle_model.specs.contracts.shared.Type as TypeOf
use Rattle.estelle_model.specs.contracts.effect.Out as Out
use Rattle.estelle_model.specs.contracts.image.Interaction as Interaction
use Rattle.estelle_model.specs.contracts.image.Part as Part
use Rattle.estelle_model.specs.contracts.image.Image as Image
use Rattle.estelle_model.specs.contracts.effect.Effect as Effect
use Rattle.estelle_model.specs.contracts.job.Job as Job
use Rattle.estelle_model.specs.contracts.job.Outcome as Outcome
use Rattle.estelle_model.specs.contracts.job.Done as Done
use Rattle.estelle_model.specs.contracts.event.Event as Event
use Rattle.estelle_model.specs.contracts.meaning.Passing as Passing
use Rattle.estelle_model.specs.contracts.meaning.InteractionKind as InteractionKind
use Rattle.estelle_model.specs.contracts.meaning.Heading as Heading

ruleset parts = (
  variants_send,
  variants_sync,
  declared_send,
  declared_sync,
  sendable,
  crosses,
  items.the_send,
  items.the_sync,
  boxed.the_send,
  boxed.the_sync,
  word_facts.the_send,
  word_facts.the_sync,
  path_facts.the_send,
  path_facts.the_sync,
  link_facts.the_send,
  link_facts.the_sync,
  link_facts.the_field_send,
  link_facts.the_field_sync,
  ip_addr_facts.the_send,
  ip_addr_facts.the_sync,
  ip_addr_facts.the_field_send,
  ip_addr_facts.the_field_sync,
  pair_facts.the_send,
  pair_facts.the_sync,
  pair_facts.the_field_send,
  pair_facts.the_field_sync,
  members_facts.the_send,
  members_facts.the_sync,
  fault_facts.the_send,
  fault_facts.the_sync,
  fault_facts.the_field_send,
  fault_facts.the_field_sync,
  host_facts.the_send,
  host_facts.the_sync,
  host_facts.the_field_send,
  host_facts.the_field_sync,
  end_facts.the_send,
  end_facts.the_sync,
  end_facts.the_field_send,
  end_facts.the_field_sync,
  interaction_point_facts.the_send,
  interaction_point_facts.the_sync,
  interaction_point_facts.the_field_send,
  interaction_point_facts.the_field_sync,
  attribute_facts.the_send,
  attribute_facts.the_sync,
  attribute_facts.the_field_send,
  attribute_facts.the_field_sync,
  senders_facts.the_send,
  senders_facts.the_sync,
  senders_facts.the_field_send,
  senders_facts.the_field_sync,
)

pub Value_field_send : IsSend (Value.the_field).row
Value_field_send = search (values_knot.send-Value, parts) depth 20

pub Value_send : IsSend Value.the_row
Value_send = as_row_send Value.the_field Value_field_send

pub Value_field_sync : IsSync (Value.the_field).row
Value_field_sync = search (values_knot.sync-Value, parts) depth 20

pub Value_sync : IsSync Value.the_row
Value_sync = as_row_sync Value.the_field Value_field_sync

pub Shape_field_send : IsSend (Shape.the_field).row
Shape_field_send = search (shapes_knot.send-Shape, parts) depth 20

pub Shape_send : IsSend Shape.the_row
Shape_send = as_row_send Shape.the_field Shape_field_send

pub Shape_field_sync : IsSync (Shape.the_field).row
Shape_field_sync = search (shapes_knot.sync-Shape, parts) depth 20

pub Shape_sync : IsSync Shape.the_row
Shape_sync = as_row_sync Shape.the_field Shape_field_sync

pub Denoter_field_send : IsSend (Denoter.the_field).row
Denoter_field_send = search (denoters_knot.send-Denoter, parts) depth 20

pub Denoter_send : IsSend Denoter.the_row
Denoter_send = as_row_send Denoter.the_field Denoter_field_send

pub Denoter_field_sync : IsSync (Denoter.the_field).row
Denoter_field_sync = search (denoters_knot.sync-Denoter, parts) depth 20

pub Denoter_sync : IsSync Denoter.the_row
Denoter_sync = as_row_sync Denoter.the_field Denoter_field_sync

pub TypeOf_send : IsSend TypeOf.the_row
TypeOf_send = search (parts, Denoter_send, Denoter_sync) depth 20

pub TypeOf_sync : IsSync TypeOf.the_row
TypeOf_sync = search (parts, Denoter_send, Denoter_sync) depth 20

pub Out_field_send : IsSend (Out.the_field).row
Out_field_send = search (parts, Value_send) depth 20

pub Out_send : IsSend Out.the_row
Out_send = as_row_send Out.the_field Out_field_send

pub Out_field_sync : IsSync (Out.the_field).row
Out_field_sync = search (parts, Value_sync) depth 20

pub Out_sync : IsSync Out.the_row
Out_sync = as_row_sync Out.the_field Out_field_sync

pub Interaction_field_send : IsSend (Interaction.the_field).row
Interaction_field_send = search (parts, Value_send) depth 20

pub Interaction_send : IsSend Interaction.the_row
Interaction_send = as_row_send Interaction.the_field Interaction_field_send

pub Interaction_field_sync : IsSync (Interaction.the_field).row
Interaction_field_sync = search (parts, Value_sync) depth 20

pub Interaction_sync : IsSync Interaction.the_row
Interaction_sync = as_row_sync Interaction.the_field Interaction_field_sync

pub Part_field_send : IsSend (Part.the_field).row
Part_field_send = search (parts, Value_send) depth 20

pub Part_send : IsSend Part.the_row
Part_send = as_row_send Part.the_field Part_field_send

pub Part_field_sync : IsSync (Part.the_field).row
Part_field_sync = search (parts, Value_sync) depth 20

pub Part_sync : IsSync Part.the_row
Part_sync = as_row_sync Part.the_field Part_field_sync

pub Image_field_send : IsSend (Image.the_field).row
Image_field_send = search (parts, Part_send) depth 20

pub Image_send : IsSend Image.the_row
Image_send = as_row_send Image.the_field Image_field_send

pub Image_field_sync : IsSync (Image.the_field).row
Image_field_sync = search (parts, Part_sync) depth 20

pub Image_sync : IsSync Image.the_row
Image_sync = as_row_sync Image.the_field Image_field_sync

pub Effect_field_send : IsSend (Effect.the_field).row
Effect_field_send = search (parts, Out_field_send, Interaction_field_send, Part_field_send) depth 20

pub Effect_send : IsSend Effect.the_row
Effect_send = as_row_send Effect.the_field Effect_field_send

pub Effect_field_sync : IsSync (Effect.the_field).row
Effect_field_sync = search (parts, Out_field_sync, Interaction_field_sync, Part_field_sync) depth 20

pub Effect_sync : IsSync Effect.the_row
Effect_sync = as_row_sync Effect.the_field Effect_field_sync

pub Job_field_send : IsSend (Job.the_field).row
Job_field_send = search (parts, Image_field_send, Interaction_send) depth 20

pub Job_send : IsSend Job.the_row
Job_send = as_row_send Job.the_field Job_field_send

pub Job_field_sync : IsSync (Job.the_field).row
Job_field_sync = search (parts, Image_field_sync, Interaction_sync) depth 20

pub Job_sync : IsSync Job.the_row
Job_sync = as_row_sync Job.the_field Job_field_sync

pub Outcome_field_send : IsSend (Outcome.the_field).row
Outcome_field_send = search (parts, Image_field_send, Effect_send) depth 20

pub Outcome_send : IsSend Outcome.the_row
Outcome_send = as_row_send Outcome.the_field Outcome_field_send

pub Outcome_field_sync : IsSync (Outcome.the_field).row
Outcome_field_sync = search (parts, Image_field_sync, Effect_sync) depth 20

pub Outcome_sync : IsSync Outcome.the_row
Outcome_sync = as_row_sync Outcome.the_field Outcome_field_sync

pub Done_field_send : IsSend (Done.the_field).row
Done_field_send = search (parts, Outcome_field_send) depth 20

pub Done_send : IsSend Done.the_row
Done_send = as_row_send Done.the_field Done_field_send

pub Done_field_sync : IsSync (Done.the_field).row
Done_field_sync = search (parts, Outcome_field_sync) depth 20

pub Done_sync : IsSync Done.the_row
Done_sync = as_row_sync Done.the_field Done_field_sync

pub Event_field_send : IsSend (Event.the_field).row
Event_field_send = search (parts, Out_send) depth 20

pub Event_send : IsSend Event.the_row
Event_send = as_row_send Event.the_field Event_field_send

pub Event_field_sync : IsSync (Event.the_field).row
Event_field_sync = search (parts, Out_sync) depth 20

pub Event_sync : IsSync Event.the_row
Event_sync = as_row_sync Event.the_field Event_field_sync

pub Passing_field_send : IsSend (Passing.the_field).row
Passing_field_send = search (parts, TypeOf_send) depth 20

pub Passing_send : IsSend Passing.the_row
Passing_send = as_row_send Passing.the_field Passing_field_send

pub Passing_field_sync : IsSync (Passing.the_field).row
Passing_field_sync = search (parts, TypeOf_sync) depth 20

pub Passing_sync : IsSync Passing.the_row
Passing_sync = as_row_sync Passing.the_field Passing_field_sync

pub InteractionKind_field_send : IsSend (InteractionKind.the_field).row
InteractionKind_field_send = search (parts, TypeOf_send) depth 20

pub InteractionKind_send : IsSend InteractionKind.the_row
InteractionKind_send = as_row_send InteractionKind.the_field InteractionKind_field_send

pub InteractionKind_field_sync : IsSync (InteractionKind.the_field).row
InteractionKind_field_sync = search (parts, TypeOf_sync) depth 20

pub InteractionKind_sync : IsSync InteractionKind.the_row
InteractionKind_sync = as_row_sync InteractionKind.the_field InteractionKind_field_sync

pub Heading_field_send : IsSend (Heading.the_field).row
Heading_field_send = search (parts, TypeOf_send) depth 20

pub Heading_send : IsSend Heading.the_row
Heading_send = as_row_send Heading.the_field Heading_field_send

pub Heading_field_sync : IsSync (Heading.the_field).row
Heading_field_sync = search (parts, TypeOf_sync) depth 20

pub Heading_sync : IsSync Heading.the_row
Heading_sync = as_row_sync Heading.the_field Heading_field_sync
