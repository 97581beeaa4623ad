use Rattle.std.proofs.Common.{◌∙◌, ap}
use Rattle.body_unit_kinds.specs.Seen.{meant}
use Rattle.body_unit_kinds.proofs.KindLemmas.{integer_kind, boolean_kind, character_kind, enumerated_kind, members_kind, array_kind, fields_kind}
use Rattle.body_unit_kinds.proofs.kind.is_of_type.Goals as goal

pub returns-in-Integer-matches : goal.returns-in-Integer-matches
returns-in-Integer-matches c = λ same. ap meant c.in-Integer-matches.is ∙ integer_kind c.args.denoter.now c.in-Ordinal.host c.in-Ordinal.low c.in-Ordinal.high c.in-Ordinal.is c.in-Integer.is

pub returns-in-Boolean-matches : goal.returns-in-Boolean-matches
returns-in-Boolean-matches c = λ same. ap meant c.in-Boolean-matches.is ∙ boolean_kind c.args.denoter.now c.in-Ordinal.host c.in-Ordinal.low c.in-Ordinal.high c.in-Ordinal.is c.in-Boolean.is

pub returns-in-Character : goal.returns-in-Character
returns-in-Character c = λ same. ap meant c.in-Character.is ∙ character_kind c.args.denoter.now c.in-Ordinal.host c.in-Ordinal.low c.in-Ordinal.high c.in-Ordinal.is c.in-Char.is

pub returns-in-Enumerated : goal.returns-in-Enumerated
returns-in-Enumerated c = λ same. ap meant c.in-Enumerated.is ∙ enumerated_kind c.args.denoter.now c.in-Ordinal.host c.in-Ordinal.low c.in-Ordinal.high c.in-Ordinal.is c.in-Enumeration.last c.in-Enumeration.is

pub returns-in-Members : goal.returns-in-Members
returns-in-Members c = λ same. ap meant c.in-Members.is ∙ members_kind c.args.denoter.now c.in-Set.host c.in-Set.low c.in-Set.high c.in-Set.is

pub returns-in-Array : goal.returns-in-Array
returns-in-Array c = λ same. c.is_whole.ensures same ∙ array_kind c.args.denoter.now c.in-Array.low c.in-Array.high c.in-Array.item c.in-Array.is

pub returns-in-Fields : goal.returns-in-Fields
returns-in-Fields c = λ same. c.is_whole-in-Fields.ensures same ∙ fields_kind c.args.denoter.now c.in-Fields.field-0 c.in-Fields.is
