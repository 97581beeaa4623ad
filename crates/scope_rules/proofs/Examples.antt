-- What is visible and what is broken, worked by hand on the events of small texts.
use Rattle.std.proofs.Common.{◌≡◌, ℕ, inl, inr, true, [], ◌∷◌, ◌++◌, Some, None, ap, refl}
use Rattle.std.specs.Prelude.{codes}
use Rattle.std.specs.List.{flat_map}
use Rattle.estelle_tree.specs.declared.span.Span.{Span}
use Rattle.estelle_tree.specs.declared.names.Use.{Use as Used}
use Rattle.estelle_tree.specs.declared.tree.name.Name.{Name}
use Rattle.estelle_tree.specs.Spans.{nowhere}
use Rattle.scope_rules.specs.declared.declaration.Denotes.TheVariants as d
use Rattle.scope_rules.specs.declared.declaration.Need.TheVariants as need
use Rattle.scope_rules.specs.declared.declaration.Inside.TheVariants.{Nothing, At, Brought}
use Rattle.scope_rules.specs.declared.declaration.Members.TheVariants as members
use Rattle.scope_rules.specs.declared.event.ScopeForm.TheVariants as scope
use Rattle.scope_rules.specs.declared.event.Step.TheVariants as step
use Rattle.scope_rules.specs.declared.event.Event.TheVariants.{Open, Close, Keep, Import, Receive, Array, Declare, Use, By, States}
use Rattle.scope_rules.specs.TypeEvents.{Events, Section, use_alone, declare, of_type_name, record_events}
use Rattle.scope_rules.specs.SpecificationEvents.{required_events}
use Rattle.scope_rules.specs.Visible.{meaning}
use Rattle.scope_rules.specs.Scopes.{start, after, sought}
use Rattle.scope_rules.specs.NameRules.{Breaks, NotVisible, DeclaredTwice, OfOtherKind, names_from, used}

abbrev span : ℕ → Span
span n = record { start = n; end = n }

-- a name of one letter, where it stands
abbrev name : ℕ → ℕ → Name
name letter n = record { word = letter ∷ []; span = span n }

abbrev integer : ℕ → Name
integer n = record { word = codes "integer"; span = span n }

abbrev use_at : ℕ → ℕ → Used
use_at n decl = record { at = span n; decl = span decl }

-- ---- the counter with `k < 3` in place of `n < 3`

-- var n: integer; state g; initialize to g begin n := 0 end; trans from g to g provided
abbrev before_k : Events
before_k =
    Open scope.Inner ∷ (required_events ++ (States (span 0) true true true ∷ Open scope.Body
    ∷ Use (integer 2) need.Type [] ∷ Declare (name 110 1 ∷ []) d.Variable (Brought (span 2))
    ∷ Declare (name 103 3 ∷ []) d.State Nothing
    ∷ Use (name 103 4) need.State [] ∷ Open scope.Inner ∷ Use (name 110 5) need.Assigned [] ∷ Close
    ∷ Open scope.Inner ∷ Open scope.Further ∷ Use (name 103 6) need.Origin [] ∷ Open scope.Further ∷ Use (name 103 7) need.State []
    ∷ Open scope.Further ∷ []))

abbrev counter : ℕ → Events
counter letter = before_k ++ Use (name letter 8) need.Value []
    ∷ Open scope.Inner ∷ Use (name 110 9) need.Assigned [] ∷ Use (name 110 10) need.Value [] ∷ Close
    ∷ Close ∷ Close ∷ Close ∷ Close ∷ Close ∷ Close ∷ []

-- rule 2 is broken at the k
k_unseen : Breaks (counter 107) (record { number = 2; span = span 8 })
k_unseen = record {
  before = before_k;
  event = Use (name 107 8) need.Value [];
  rest = _;
  here = refl;
  holds = inr (inl (refl, (record { name = name 107 8; need = need.Value; found = None }, (inl refl, refl, refl))));
}

-- with n, each name means its declaration, and `integer` stands nowhere
n_seen : names_from start (counter 110) ≡ use_at 2 0 ∷ use_at 4 3 ∷ use_at 5 1 ∷ use_at 6 3 ∷ use_at 7 3 ∷ use_at 8 1 ∷ use_at 9 1 ∷ use_at 10 1 ∷ []
n_seen = refl

-- ---- a required function is called, and never assigned

-- abs := 1
abs_assigned : OfOtherKind (span 8) (after start (Open scope.Inner ∷ required_events)) (Use (record { word = codes "abs"; span = span 8 }) need.Assigned [])
abs_assigned = (record { name = record { word = codes "abs"; span = span 8 }; need = need.Assigned; found = Some (record { at = nowhere; denotes = d.RequiredFunction; inside = members.Nothing }) }, record { at = nowhere; denotes = d.RequiredFunction; inside = members.Nothing }, (inl refl, refl, refl, refl))

-- abs(..)
abs_called : flat_map used (sought (after start (Open scope.Inner ∷ required_events)) (Use (record { word = codes "abs"; span = span 8 }) need.Function [])) ≡ use_at 8 0 ∷ []
abs_called = refl

-- ---- bodies inside bodies: what is private in the middle hides what is further out

-- const c, d; in a body: var c; in a body in it, the name
abbrev nested : Events
nested =
    Open scope.Body ∷ (declare (name 99 1) d.Constant Nothing ++ (declare (name 100 2) d.Constant Nothing ++ (Open scope.Body
    ∷ (declare (name 99 3) d.Variable Nothing ++ Open scope.Body ∷ []))))

hidden : meaning (after start nested) (99 ∷ []) ≡ None
hidden = refl

constant_seen : flat_map used (sought (after start nested) (Use (name 100 9) need.Constant [])) ≡ use_at 9 2 ∷ []
constant_seen = refl

-- ---- the second declaration in the text, though a routine is declared before all else

-- const p; procedure p
procedure_second : DeclaredTwice (span 8) (after start (Open scope.Body ∷ declare (name 112 8) d.Procedure Nothing)) (Declare (name 112 3 ∷ []) d.Constant Nothing)
procedure_second = inl (record { at = span 8; denotes = d.Procedure; inside = members.Nothing }, (refl, refl))

-- ---- names behind dots

-- var r: array [..] of record f: integer end, with the array at 2 and the record at 4
abbrev with_record : Events
with_record =
    Open scope.Body ∷ Open scope.Inner ∷ Declare (name 102 5 ∷ []) d.Field Nothing ∷ Keep (span 4)
    ∷ Array (span 2) (At (span 4)) ∷ Declare (name 114 1 ∷ []) d.Variable (At (span 2)) ∷ []

-- r[..].f
field_seen : flat_map used (sought (after start with_record) (Use (name 114 7) need.Selected (step.Index ∷ step.Member (name 102 9) need.Component ∷ []))) ≡ use_at 7 1 ∷ use_at 9 5 ∷ []
field_seen = refl

-- r.f: r is no record
field_unseen : NotVisible (span 9) (after start with_record) (Use (name 114 7) need.Selected (step.Member (name 102 9) need.Component ∷ []))
field_unseen = (record { name = name 102 9; need = need.Component; found = None }, (inr (inl refl), refl, refl))

-- f: a field is found behind a dot alone
field_alone : meaning (after start with_record) (102 ∷ []) ≡ None
field_alone = refl

-- ---- fields in the types of later fields

-- the section of a field with the name of a type
abbrev field : Name → Name → Section
field x t = (record { names = x ∷ []; span = x.span }, (of_type_name t, use_alone need.Type t))

-- the section of a field of an enumerated type with one value
abbrev field_of_value : Name → Name → Section
field_of_value x value = (record { names = x ∷ []; span = x.span }, (Nothing, declare value d.Constant Nothing))

-- type t = record f: integer end, with the record at 2
abbrev with_t : Events
with_t = record_events (span 2) (field (name 102 3) (integer 4) ∷ []) ++ declare (name 116 1) d.Type (At (span 2))

-- r = record t: integer; u: t end; var v: r, with the record at 6
abbrev with_fields : Events
with_fields =
    Open scope.Inner ∷ (required_events ++ Open scope.Body ∷ (with_t ++ (record_events (span 6) (field (name 116 7) (integer 8) ∷ field (name 117 9) (name 116 10) ∷ [])
    ++ (declare (name 114 5) d.Type (At (span 6)) ++ Use (name 114 12) need.Type [] ∷ declare (name 118 11) d.Variable (Brought (span 12))))))

-- v.u.f
later_field : flat_map used (sought (after start with_fields) (Use (name 118 13) need.Selected (step.Member (name 117 14) need.Component ∷ step.Member (name 102 15) need.Component ∷ []))) ≡ use_at 13 11 ∷ use_at 14 9 ∷ use_at 15 3 ∷ []
later_field = refl

-- v.u.z
no_later_field : NotVisible (span 15) (after start with_fields) (Use (name 118 13) need.Selected (step.Member (name 117 14) need.Component ∷ step.Member (name 122 15) need.Component ∷ []))
no_later_field = (record { name = name 122 15; need = need.Component; found = None }, (inr (inr (inl refl)), refl, refl))

-- in a body inside: var v: record u: t; w: (t) end, with the record at 6
abbrev with_later_value : Events
with_later_value =
    Open scope.Inner ∷ (required_events ++ Open scope.Body ∷ (with_t ++ Open scope.Body ∷ (record_events (span 6) (field (name 117 9) (name 116 10) ∷ field_of_value (name 119 7) (name 116 8) ∷ [])
    ++ declare (name 118 5) d.Variable (At (span 6)))))

-- v.u.f
before_the_value : flat_map used (sought (after start with_later_value) (Use (name 118 13) need.Selected (step.Member (name 117 14) need.Component ∷ step.Member (name 102 15) need.Component ∷ []))) ≡ use_at 13 5 ∷ use_at 14 9 ∷ use_at 15 3 ∷ []
before_the_value = refl

-- ---- headers and their bodies

-- module m(n: ..); ip p: c(r); body b for m;
abbrev with_body : Events
with_body =
    Open scope.Body ∷ (declare (name 99 1) d.Channel (At (span 1)) ++ (declare (name 109 2) d.Header (At (span 2)) ++ (Open scope.Inner
    ∷ Declare (name 110 3 ∷ []) d.Variable Nothing ∷ Use (name 99 5) need.Channel [] ∷ Declare (name 112 4 ∷ []) d.Ip (Brought (span 5)) ∷ Keep (span 2)
    ∷ (declare (name 98 6) d.Body (At (span 7)) ++ Open scope.Body ∷ Import (name 109 7) ∷ []))))

-- inside the body: its own name, its header's ip and parameter
inside_body : flat_map used (flat_map (sought (after start with_body)) (Use (name 98 10) need.Body [] ∷ Use (name 112 11) need.Ip [] ∷ Use (name 110 12) need.Value [] ∷ [])) ≡ use_at 10 6 ∷ use_at 11 4 ∷ use_at 12 3 ∷ []
inside_body = refl

-- a name of the body that its header has too
of_header_too : DeclaredTwice (span 13) (after start with_body) (Declare (name 110 13 ∷ []) d.Variable Nothing)
of_header_too = inl (record { at = span 3; denotes = d.Variable; inside = members.Nothing }, (refl, refl))

-- var n at 13, with a routine n at 15, which is declared before all else: the header's n at 3 is the first in the text
before_the_routine : DeclaredTwice (span 13) (after start (with_body ++ declare (name 110 15) d.Procedure Nothing)) (Declare (name 110 13 ∷ []) d.Variable Nothing)
before_the_routine = inl (record { at = span 3; denotes = d.Variable; inside = members.Nothing }, (refl, refl))

-- ---- the parameters of an interaction on a way that has a name of `any` already

-- channel c with an interaction m(i); ip p: c; trans any i: ..; when p.m
abbrev on_way : Events
on_way =
    Open scope.Body ∷ (declare (name 99 1) d.Channel (At (span 1)) ++ (Open scope.Inner ∷ (declare (name 109 2) d.Interaction (At (span 2)) ++ (Open scope.Inner
    ∷ Declare (name 105 3 ∷ []) d.Variable Nothing ∷ Keep (span 2) ∷ Keep (span 1) ∷ Use (name 99 5) need.Channel [] ∷ Declare (name 112 4 ∷ []) d.Ip (Brought (span 5))
    ∷ Open scope.Inner ∷ Open scope.Further ∷ Declare (name 105 6 ∷ []) d.Constant Nothing ∷ Open scope.Further ∷ []))))

without_list : DeclaredTwice (span 8) (after start on_way) (Receive (name 112 7) (name 109 8) None)
without_list = inr ((105 ∷ [], (refl, refl, refl)), refl)

with_list : DeclaredTwice (span 9) (after start on_way) (Receive (name 112 7) (name 109 8) (Some (name 105 9 ∷ [])))
with_list = inl (name 105 9, (inl refl, refl, refl, refl))

-- the list lacks the parameter
list_lacks : DeclaredTwice (span 8) (after start on_way) (Receive (name 112 7) (name 109 8) (Some (name 113 9 ∷ [])))
list_lacks = inr ((105 ∷ [], (refl, refl, refl)), refl)

-- ---- a name whose declaration is at fault: what stands behind its dot is not judged

-- var n; v: n; w: array [..] of n; with the types at 3 and 6, and the array at 5
abbrev of_no_type : Events
of_no_type =
    Open scope.Body ∷ (declare (name 110 1) d.Variable Nothing ++ Use (name 110 3) need.Type [] ∷ (declare (name 118 2) d.Variable (Brought (span 3))
    ++ Use (name 110 6) need.Type [] ∷ Array (span 5) (Brought (span 6)) ∷ declare (name 119 4) d.Variable (At (span 5))))

no_type : OfOtherKind (span 3) (after start (Open scope.Body ∷ declare (name 110 1) d.Variable Nothing)) (Use (name 110 3) need.Type [])
no_type = (record { name = name 110 3; need = need.Type; found = Some (record { at = span 1; denotes = d.Variable; inside = members.Nothing }) }, record { at = span 1; denotes = d.Variable; inside = members.Nothing }, (inl refl, refl, refl, refl))

-- v.f
behind_no_type : flat_map used (sought (after start of_no_type) (Use (name 118 7) need.Selected (step.Member (name 102 9) need.Component ∷ []))) ≡ use_at 7 2 ∷ []
behind_no_type = refl

not_judged : NotVisible (span 9) (after start of_no_type) (Use (name 118 7) need.Selected (step.Member (name 102 9) need.Component ∷ [])) → ⊥
not_judged (x, (inl e, f, h)) = let g : x.found ≡ Some (record { at = span 2; denotes = d.Variable; inside = members.AtFault }) = ap (λ y. y.found) e in cc
not_judged (x, (inr e, f, h)) = absurd e

-- w[..].f
behind_components : NotVisible (span 9) (after start of_no_type) (Use (name 119 7) need.Selected (step.Index ∷ step.Member (name 102 9) need.Component ∷ [])) → ⊥
behind_components (x, (inl e, f, h)) = let g : x.found ≡ Some (record { at = span 4; denotes = d.Variable; inside = members.KeptAt 5 }) = ap (λ y. y.found) e in cc
behind_components (x, (inr e, f, h)) = absurd e

-- ---- roles and interactions hide nothing in the types of parameters

-- type t; channel c(t, q); by t: t(..
abbrev in_channel : Events
in_channel =
    Open scope.Body ∷ (declare (name 116 1) d.Type Nothing ++ (declare (name 99 2) d.Channel (At (span 2)) ++ Open scope.Inner
    ∷ Declare (name 116 3 ∷ name 113 4 ∷ []) d.Role Nothing ∷ []))

type_seen : flat_map used (sought (after start (in_channel ++ declare (name 116 6) d.Interaction (At (span 6)))) (Use (name 116 8) need.Type [])) ≡ use_at 8 1 ∷ []
type_seen = refl

role_seen : flat_map used (sought (after start in_channel) (By (name 116 5))) ≡ use_at 5 3 ∷ []
role_seen = refl

-- a role is no name of a type
role_unseen : meaning (after start in_channel) (113 ∷ []) ≡ None
role_unseen = refl
