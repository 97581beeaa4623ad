-- Instructions may be sent to other threads and shared by them. A search by itself stops before so many opcodes.
-- `TheLaws.TheKnot`, `TheSendSync`, `the_field` and `the_type` are names of Rattle's own, which may change.
use mir.Syntax.{w32, w64}
use denote.RattleType.{RattleType}
use denote.Plain.{UInt}
use denote.Signed.{SInt}
use denote.Enum.Enum.{Enum}
use denote.Enum.Declared as E
use denote.Param.Send.{IsSend, IsSync, recorded_send, recorded_sync, enum_send, enum_sync, sendable}
use Rattle.std.specs.Prelude.{List, [], ◌∷◌}
use Rattle.std.proofs.Crossing.{crosses}
use Rattle.estelle_lists.proofs.items.Items.TheSendSync.{the_send as items_send, the_sync as items_sync}
use Rattle.estelle_lists.proofs.boxed.Boxed.TheSendSync.{the_send as boxed_send, the_sync as boxed_sync}
use Rattle.indexmap.proofs.map.IndexMap.TheSendSync.{the_send as map_send, the_sync as map_sync}
use Rattle.pascal_values.specs.contracts.value.Value as of_value
use Rattle.pascal_values.specs.contracts.fault.Fault as of_fault
use Rattle.pascal_values.proofs.value.Value.TheLaws.TheKnot as value_knot
use Rattle.pascal_values.proofs.value.Shape.TheLaws.TheKnot as shape_knot
use Rattle.body_code.specs.contracts.instr.Point as of_point
use Rattle.body_code.specs.contracts.instr.Ends as of_ends
use Rattle.body_code.specs.contracts.instr.Instr as of_instr
use Rattle.body_code.specs.contracts.code.Code as of_code
use Rattle.body_code.proofs.shared.Shared.TheSendSync.{the_send as shared_send, the_sync as shared_sync}

-- ---- what each field of each variant of an enum has

abbrev AllHave : (RattleType → Type 0) → List RattleType → Type 0
AllHave H [] = Unit {0}
AllHave H (T ∷ Ts) = H T × AllHave H Ts

abbrev EachHas : (RattleType → Type 0) → List (List RattleType) → Type 0
EachHas H [] = Unit {0}
EachHas H (Ts ∷ Tss) = AllHave H Ts × EachHas H Tss

module _ {X : Type 0} where
  plain : X → Unit {0} × X
  plain others = (tt, others)

  one : {A : Type 0} → A → X → (A × Unit {0}) × X
  one a others = ((a, tt), others)

  two : {A B : Type 0} → A → B → X → (A × (B × Unit {0})) × X
  two a b others = ((a, (b, tt)), others)

  three : {A B C : Type 0} → A → B → C → X → (A × (B × (C × Unit {0}))) × X
  three a b c others = ((a, (b, (c, tt))), others)

-- the opcodes in order, by their operands: a value, numbers, integers, a fault, points, ends
operands : (H : RattleType → Type 0) → H (of_value.the_field).row → H (UInt w32) → H (SInt w64) → H (of_fault.the_field).row → H (of_point.the_field).row → H (of_ends.the_field).row → EachHas H (E.variants of_instr.the_type)
operands H v n i f p e =
    (one v (one n (one n (one n (two n n (one n (two i i (plain (one n (one n (plain (plain (plain (plain (plain
    (plain (plain (plain (plain (plain (plain (plain (plain (plain (plain (plain (plain (plain (plain (plain (plain
    (plain (plain (plain (plain (plain (plain (one n (one n (one n (plain (three n n n (plain (one f (plain
    (three n n n (one n (two p p (one e (two n p (one n (three n n n tt))))))))))))))))))))))))))))))))))))))))))))))))))))

-- ---- instructions

value_send : IsSend (of_value.the_field).row
value_send = search (sendable, crosses, value_knot.crosses, items_send) depth 30

value_sync : IsSync (of_value.the_field).row
value_sync = search (sendable, crosses, value_knot.crosses, items_sync) depth 30

abbrev T : E.Declared
T = of_instr.the_type

fault_send : IsSend (of_fault.the_field).row
fault_send = search (sendable, crosses) depth 60

fault_sync : IsSync (of_fault.the_field).row
fault_sync = search (sendable, crosses) depth 60

point_send : IsSend (of_point.the_field).row
point_send = search (sendable, crosses) depth 60

point_sync : IsSync (of_point.the_field).row
point_sync = search (sendable, crosses) depth 60

ends_send : IsSend (of_ends.the_field).row
ends_send = search (sendable, crosses) depth 60

ends_sync : IsSync (of_ends.the_field).row
ends_sync = search (sendable, crosses) depth 60

instr_send : IsSend of_instr.the_row
instr_send = recorded_send (Enum (E.shape T)) T.D T.to T.to_one (enum_send (E.shape T) (operands IsSend value_send (search sendable) (search sendable) fault_send point_send ends_send))

instr_sync : IsSync of_instr.the_row
instr_sync = recorded_sync (Enum (E.shape T)) T.D T.to T.to_one (enum_sync (E.shape T) (operands IsSync value_sync (search sendable) (search sendable) fault_sync point_sync ends_sync))

-- ---- codes

ruleset parts = (items_send, items_sync, boxed_send, boxed_sync, map_send, map_sync, shape_knot.crosses, shared_send, shared_sync, instr_send, instr_sync)

pub code_send : IsSend of_code.the_row
code_send = search (sendable, crosses, parts) depth 60 fits 20000

pub code_sync : IsSync of_code.the_row
code_sync = search (sendable, crosses, parts) depth 60 fits 20000
