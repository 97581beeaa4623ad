-- The stages of reading: what they have read is the beginning of a trace, and the lines of a trace lead through them to its end.
use Rattle.std.proofs.Common.{◌≡◌, ℕ, suc, ◌+◌, ◌-◌, ◌<◌, ◌≤◌, ◌^◌, ◌&&◌, Bool, true, false, if◌then◌else◌, List, [], ◌∷◌, ◌++◌, length, get_or, map, flat_map, ap, subst, ◌∙◌, sym, refl, arith, append_assoc, append-nil, Option, Some, None}
use Rattle.std.specs.Prelude.{nat_lt, nat_le, ◌==◌}
use Rattle.std.specs.List.{AllByRecursion}
use Rattle.std.specs.Option.{option_map}
use Rattle.std.proofs.lemmas.Bool.{false≢true}
use Rattle.std.proofs.lemmas.Bool.Decides.{nat_tests}
use Rattle.std.proofs.lemmas.Grind.{flat_map-append}
use Rattle.std.proofs.lemmas.List.{map-append}
use Rattle.std.proofs.lemmas.Option.{none-some, same_Some, cond_some}
use Rattle.std.proofs.lemmas.Slice.Eq.{bytes_eq-Decides}
use Rattle.pascal_values.specs.declared.fault.Fault as fault
use Rattle.pascal_values.specs.Sets.{IsRising}
use Rattle.pascal_values.proofs.ListingLemmas.{all_push}
use Rattle.pascal_values.proofs.SetLemmas.{IsRising-le}
use Rattle.estelle_tree.specs.Paths.{Path}
use Rattle.estelle_model.specs.declared.effect.Out.{Out}
use Rattle.estelle_model.specs.declared.event.Event.{Event}
use Rattle.estelle_model.specs.declared.event.Event.TheVariants as event
use Rattle.estelle_model.specs.declared.event.End.{End}
use Rattle.estelle_model.specs.declared.event.End.TheVariants as end
use Rattle.estelle_model.specs.Ends.{IsNoFault}
use Rattle.estelle_model.specs.Trace.{kind_text}
use Rattle.trace_text.specs.declared.line.Line.{Line}
use Rattle.trace_text.specs.declared.line.Line.TheVariants as line
use Rattle.trace_text.specs.declared.stage.Stage.{Stage}
use Rattle.trace_text.specs.declared.stage.Stage.TheVariants as stage
use Rattle.trace_text.specs.Forms.{IsOut, AreOutcome, IsFirst, IsLater, EndsBehind, GoOn, HasForm}
use Rattle.trace_text.specs.Lines.{IsEventLine, IsLine}
use Rattle.trace_text.specs.Stages.{more_outs, with_out, rise_to, more_drops, with_drop, is_root, comes_first, comes_later, is_fault, same_kind, ends_behind, begun, followed, ended, step}
use Rattle.trace_text.proofs.WordLemmas.{kinds_apart}

-- ---- the lines of a trace

abbrev pub outcome_list : List Out → List ℕ → List Line
outcome_list outs drops = map line.Out outs ++ map line.Drop drops

-- the lines of an event
abbrev pub event_list : Event → List Line
event_list (event.Start outs drops) = line.Event (event.Start [] []) ∷ outcome_list outs drops
event_list (event.Select system now takes) = line.Event (event.Select system now takes) ∷ []
event_list (event.Fire m n outs drops) = line.Event (event.Fire m n [] []) ∷ outcome_list outs drops
event_list (event.Fault m n kind) = line.Event (event.Fault m n kind) ∷ []

abbrev pub events_list : List Event → List Line
events_list = flat_map event_list

abbrev pub lines_of : List Event → End → List Line
lines_of events e = line.Head ∷ (events_list events ++ line.End e ∷ [])

-- an end that may come behind an event
abbrev pub some_end : Event → End
some_end (event.Fault m n kind) = end.Faulted kind
some_end _ = end.Dead

pub some_end_fits : (last : Event) → EndsBehind last (some_end last)
some_end_fits (event.Start outs drops) = tt
some_end_fits (event.Select system now takes) = tt
some_end_fits (event.Fire m n outs drops) = tt
some_end_fits (event.Fault m n kind) = refl

-- what has been read at a stage
abbrev pub stage_lines : Stage → List Line
stage_lines stage.Nothing = []
stage_lines stage.Headed = line.Head ∷ []
stage_lines (stage.Events done last) = line.Head ∷ events_list (done ++ last ∷ [])
stage_lines (stage.Ended events e) = lines_of events e

-- the events of a stage are those of a trace
abbrev pub IsStage : Stage → Type 0
IsStage stage.Nothing = Unit {0}
IsStage stage.Headed = Unit {0}
IsStage (stage.Events done last) = HasForm (done ++ last ∷ []) (some_end last)
IsStage (stage.Ended events e) = HasForm events e

-- ---- small steps

pub record Mapped {A B : Type 0} (f : A → B) (o : Option A) (y : B) : Type 0 where
  pub value : A
  pub given : o ≡ Some value
  pub is : f value ≡ y

some_map : {A B : Type 0} (f : A → B) (o : Option A) (y : B) → option_map f o ≡ Some y → Mapped f o y
some_map f None y e = absurd (none-some y e)
some_map f (Some x) y e = record { value = x; given = refl; is = same_Some (f x) y e }

-- ---- one more output or drop

pub last_is : (ns : List ℕ) (k : ℕ) → 1 ≤ length ns → nat_lt (get_or ns (length ns - 1) 0) k ≡ rise_to ns k
last_is [] k some = absurd (omega arith)
last_is (n ∷ []) k some = refl
last_is (n ∷ (m ∷ ns)) k some =
    let long : length (n ∷ (m ∷ ns)) - 1 ≡ suc (length ns) = omega arith in
    let short : length (m ∷ ns) - 1 ≡ length ns = omega arith in
    ap (λ i. nat_lt (get_or (n ∷ (m ∷ ns)) i 0) k) long ∙ (ap (λ i. nat_lt (get_or (m ∷ ns) i 0) k) (sym short) ∙ last_is (m ∷ ns) k (omega arith))

pub record Grows (last : Event) (l : Line) (grown : Event) : Type 0 where
  pub first : IsFirst last → IsFirst grown
  pub later : IsLater last → IsLater grown
  pub lines : event_list grown ≡ event_list last ++ l ∷ []

outs_push : (outs : List Out) (o : Out) → outcome_list (outs ++ o ∷ []) [] ≡ outcome_list outs [] ++ line.Out o ∷ []
outs_push outs o = append-nil (map line.Out (outs ++ o ∷ [])) ∙ (map-append line.Out outs (o ∷ []) ∙ ap (λ ls. ls ++ line.Out o ∷ []) (sym (append-nil (map line.Out outs))))

drops_push : (outs : List Out) (drops : List ℕ) (k : ℕ) → outcome_list outs (drops ++ k ∷ []) ≡ outcome_list outs drops ++ line.Drop k ∷ []
drops_push outs drops k = ap (λ ls. map line.Out outs ++ ls) (map-append line.Drop drops (k ∷ [])) ∙ sym (append_assoc (map line.Out outs) (map line.Drop drops) (line.Drop k ∷ []))

rising_push : (n : ℕ) (ns : List ℕ) (k high : ℕ) → IsRising (n + 1) ns high → rise_to (n ∷ ns) k ≡ true → k < high → IsRising (n + 1) (ns ++ k ∷ []) high
rising_push n [] k high rises less k_in = let h : n < k = grind (arith, nat_tests) in (omega arith, omega arith)
rising_push n (m ∷ ns) k high rises less k_in = (rises.0, rising_push m ns k high rises.1 less k_in)

drops_rise : (drops : List ℕ) (k high : ℕ) → IsRising 0 drops high → rise_to drops k ≡ true → k < high → IsRising 0 (drops ++ k ∷ []) high
drops_rise [] k high rises less k_in = (omega arith, omega arith)
drops_rise (n ∷ ns) k high rises less k_in = (rises.0, rising_push n ns k high rises.1 less k_in)

outs_grow : (outs more : List Out) (drops : List ℕ) (o : Out) → IsOut o → more_outs outs drops o ≡ Some more → (AreOutcome outs drops → AreOutcome more drops) × (outcome_list more drops ≡ outcome_list outs drops ++ line.Out o ∷ [])
outs_grow outs more [] o form e =
    let is : outs ++ o ∷ [] ≡ more = same_Some (outs ++ o ∷ []) more e in
    subst (λ ms. (AreOutcome outs [] → AreOutcome ms []) × (outcome_list ms [] ≡ outcome_list outs [] ++ line.Out o ∷ [])) is (λ h. (all_push IsOut outs o h.0 form, h.1), outs_push outs o)
outs_grow outs more (k ∷ drops) o form e = absurd (none-some more e)

drops_grow : (outs : List Out) (drops more : List ℕ) (k : ℕ) → k < 2 ^ 64 → more_drops drops k ≡ Some more → (AreOutcome outs drops → AreOutcome outs more) × (outcome_list outs more ≡ outcome_list outs drops ++ line.Drop k ∷ [])
drops_grow outs drops more k k_in e =
    let s = cond_some (rise_to drops k) (drops ++ k ∷ []) more e in
    subst (λ ms. (AreOutcome outs drops → AreOutcome outs ms) × (outcome_list outs ms ≡ outcome_list outs drops ++ line.Drop k ∷ [])) s.1 (λ h. (h.0, drops_rise drops k (2 ^ 64) h.1 s.0 k_in), drops_push outs drops k)

out_grows : (last grown : Event) (o : Out) → IsOut o → with_out last o ≡ Some grown → Grows last (line.Out o) grown
out_grows (event.Start outs drops) grown o form e =
    let m = some_map (λ more. event.Start more drops) (more_outs outs drops o) grown e in
    let g = outs_grow outs m.value drops o form m.given in
    subst (λ z. Grows (event.Start outs drops) (line.Out o) z) m.is (record { first = g.0; later = λ h. h; lines = ap (λ ls. line.Event (event.Start [] []) ∷ ls) g.1 })
out_grows (event.Fire p n outs drops) grown o form e =
    let m = some_map (λ more. event.Fire p n more drops) (more_outs outs drops o) grown e in
    let g = outs_grow outs m.value drops o form m.given in
    subst (λ z. Grows (event.Fire p n outs drops) (line.Out o) z) m.is (record { first = λ h. h; later = λ h. (h.0, h.1, g.0 h.2); lines = ap (λ ls. line.Event (event.Fire p n [] []) ∷ ls) g.1 })
out_grows (event.Select system now takes) grown o form e = absurd (none-some grown e)
out_grows (event.Fault p n kind) grown o form e = absurd (none-some grown e)

drop_grows : (last grown : Event) (k : ℕ) → k < 2 ^ 64 → with_drop last k ≡ Some grown → Grows last (line.Drop k) grown
drop_grows (event.Start outs drops) grown k k_in e =
    let m = some_map (λ more. event.Start outs more) (more_drops drops k) grown e in
    let g = drops_grow outs drops m.value k k_in m.given in
    subst (λ z. Grows (event.Start outs drops) (line.Drop k) z) m.is (record { first = g.0; later = λ h. h; lines = ap (λ ls. line.Event (event.Start [] []) ∷ ls) g.1 })
drop_grows (event.Fire p n outs drops) grown k k_in e =
    let m = some_map (λ more. event.Fire p n outs more) (more_drops drops k) grown e in
    let g = drops_grow outs drops m.value k k_in m.given in
    subst (λ z. Grows (event.Fire p n outs drops) (line.Drop k) z) m.is (record { first = λ h. h; later = λ h. (h.0, h.1, g.0 h.2); lines = ap (λ ls. line.Event (event.Fire p n [] []) ∷ ls) g.1 })
drop_grows (event.Select system now takes) grown k k_in e = absurd (none-some grown e)
drop_grows (event.Fault p n kind) grown k k_in e = absurd (none-some grown e)

-- ---- which event comes where

bare_list : (ev : Event) → IsEventLine ev → event_list ev ≡ line.Event ev ∷ []
bare_list (event.Start outs drops) form =
    let one : event_list (event.Start outs drops) ≡ line.Event (event.Start [] []) ∷ [] = ap (λ os. line.Event (event.Start [] []) ∷ outcome_list os drops) form.0 ∙ ap (λ ds. line.Event (event.Start [] []) ∷ outcome_list [] ds) form.1 in
    let two : ◌≡◌ {A = Event} (event.Start [] []) (event.Start outs drops) = ap (λ os. event.Start os []) (sym form.0) ∙ ap (λ ds. event.Start outs ds) (sym form.1) in
    one ∙ ap (λ ev. line.Event ev ∷ []) two
bare_list (event.Select system now takes) form = refl
bare_list (event.Fire m n outs drops) form =
    let one : event_list (event.Fire m n outs drops) ≡ line.Event (event.Fire m n [] []) ∷ [] = ap (λ os. line.Event (event.Fire m n [] []) ∷ outcome_list os drops) form.2 ∙ ap (λ ds. line.Event (event.Fire m n [] []) ∷ outcome_list [] ds) form.3 in
    let two : ◌≡◌ {A = Event} (event.Fire m n [] []) (event.Fire m n outs drops) = ap (λ os. event.Fire m n os []) (sym form.2) ∙ ap (λ ds. event.Fire m n outs ds) (sym form.3) in
    one ∙ ap (λ ev. line.Event ev ∷ []) two
bare_list (event.Fault m n kind) form = refl

none_outcome : (outs : List Out) (drops : List ℕ) → outs ≡ [] → drops ≡ [] → AreOutcome outs drops
none_outcome outs drops e k = (subst (AllByRecursion IsOut) (sym e) tt, subst (λ ds. IsRising 0 ds (2 ^ 64)) (sym k) (omega arith))

is_first : (ev : Event) → IsEventLine ev → comes_first ev ≡ true → IsFirst ev
is_first (event.Start outs drops) form e = none_outcome outs drops form.0 form.1
is_first (event.Select system now takes) form e = absurd (false≢true e)
is_first (event.Fire m n outs drops) form e = absurd (false≢true e)
is_first (event.Fault [] n kind) form e = (refl, grind (arith, nat_tests))
is_first (event.Fault (k ∷ m) n kind) form e = absurd (false≢true e)

is_later : (ev : Event) → IsEventLine ev → comes_later ev ≡ true → IsLater ev
is_later (event.Start outs drops) form e = absurd (false≢true e)
is_later (event.Select system now takes) form e = form
is_later (event.Fire m n outs drops) form e = (form.0, form.1, none_outcome outs drops form.2 form.3)
is_later (event.Fault m n kind) form e = (form.0, (grind (arith, nat_tests), form.1.1))

is_no_fault : (last : Event) → is_fault last ≡ false → IsNoFault (Some last)
is_no_fault (event.Start outs drops) e = tt
is_no_fault (event.Select system now takes) e = tt
is_no_fault (event.Fire m n outs drops) e = tt
is_no_fault (event.Fault m n kind) e = false≢true (sym e)

kinds_same : (a b : fault.Fault) → same_kind a b ≡ true → a ≡ b
kinds_same a b e = kinds_apart a b ((bytes_eq-Decides (kind_text a) (kind_text b)).0 e)

same_kinds : (a b : fault.Fault) → a ≡ b → same_kind a b ≡ true
same_kinds a b e = (bytes_eq-Decides (kind_text a) (kind_text b)).1 (ap kind_text e)

ends_fit : (last : Event) (e : End) → ends_behind last e ≡ true → EndsBehind last e
ends_fit (event.Fault m n kind) (end.Faulted k) t = kinds_same kind k t
ends_fit (event.Fault m n kind) end.Dead t = false≢true t
ends_fit (event.Fault m n kind) end.Turns t = false≢true t
ends_fit (event.Fault m n kind) end.Clock t = false≢true t
ends_fit (event.Start outs drops) (end.Faulted k) t = false≢true t
ends_fit (event.Start outs drops) e t = tt
ends_fit (event.Select system now takes) (end.Faulted k) t = false≢true t
ends_fit (event.Select system now takes) e t = tt
ends_fit (event.Fire m n outs drops) (end.Faulted k) t = false≢true t
ends_fit (event.Fire m n outs drops) e t = tt

fitting_ends : (last : Event) (e : End) → EndsBehind last e → ends_behind last e ≡ true
fitting_ends (event.Fault m n kind) (end.Faulted k) h = same_kinds kind k h
fitting_ends (event.Fault m n kind) end.Dead h = absurd h
fitting_ends (event.Fault m n kind) end.Turns h = absurd h
fitting_ends (event.Fault m n kind) end.Clock h = absurd h
fitting_ends (event.Start outs drops) (end.Faulted k) h = absurd h
fitting_ends (event.Start outs drops) e h = refl
fitting_ends (event.Select system now takes) (end.Faulted k) h = absurd h
fitting_ends (event.Select system now takes) e h = refl
fitting_ends (event.Fire m n outs drops) (end.Faulted k) h = absurd h
fitting_ends (event.Fire m n outs drops) e h = refl

-- another last event, and others behind it
changed : (done : List Event) (last new : Event) (more : List Event) (e e' : End) → HasForm (done ++ last ∷ []) e → (IsFirst last → IsFirst new) → (IsLater last → IsLater new) → GoOn new more e' → HasForm (done ++ new ∷ more) e'
changed [] last new more e e' form first later goes = (first form.0, goes)
changed (begin ∷ done) last new more e e' form first later goes = (form.0, behind begin done form.1)
  where
    behind : (before : Event) (done : List Event) → GoOn before (done ++ last ∷ []) e → GoOn before (done ++ new ∷ more) e'
    behind before [] g = (g.0, later g.1, goes)
    behind before (next ∷ done) g = (g.0, g.1, behind next done g.2)

-- ---- each step reads one line more

events_push : (done : List Event) (last : Event) (l : Line) → event_list last ≡ l ∷ [] → events_list (done ++ last ∷ []) ≡ events_list done ++ l ∷ []
events_push done last l e = flat_map-append event_list done (last ∷ []) ∙ ap (λ ls. events_list done ++ ls) (append-nil (event_list last) ∙ e)

events_grow : (done : List Event) (last grown : Event) (l : Line) → event_list grown ≡ event_list last ++ l ∷ [] → events_list (done ++ grown ∷ []) ≡ events_list (done ++ last ∷ []) ++ l ∷ []
events_grow done last grown l e =
    flat_map-append event_list done (grown ∷ [])
    ∙ (ap (λ ls. events_list done ++ ls) (append-nil (event_list grown) ∙ (e ∙ ap (λ ls. ls ++ l ∷ []) (sym (append-nil (event_list last)))))
    ∙ (sym (append_assoc (events_list done) (events_list (last ∷ [])) (l ∷ [])) ∙ ap (λ ls. ls ++ l ∷ []) (sym (flat_map-append event_list done (last ∷ [])))))

abbrev pub Reads : Stage → Line → Stage → Type 0
Reads before l after = IsStage after × (stage_lines after ≡ stage_lines before ++ l ∷ [])

head_read : (after : Stage) → step stage.Nothing line.Head ≡ Some after → Reads stage.Nothing line.Head after
head_read after e = subst (λ z. Reads stage.Nothing line.Head z) (same_Some stage.Headed after e) (tt, refl)

first_read : (ev : Event) (after : Stage) → IsEventLine ev → begun ev ≡ Some after → Reads stage.Headed (line.Event ev) after
first_read ev after form e =
    let s = cond_some (comes_first ev) (stage.Events [] ev) after e in
    subst (λ z. Reads stage.Headed (line.Event ev) z) s.1 ((is_first ev form s.0, some_end_fits ev), ap (λ ls. line.Head ∷ ls) (append-nil (event_list ev) ∙ bare_list ev form))

module _ (done : List Event) (last : Event) (valid : IsStage (stage.Events done last)) where
  later_read : (ev : Event) (after : Stage) → IsEventLine ev → followed done last ev ≡ Some after → Reads (stage.Events done last) (line.Event ev) after
  later_read ev after form e = by_fault (is_fault last) refl e
    where
      two : done ++ last ∷ ev ∷ [] ≡ (done ++ last ∷ []) ++ ev ∷ []
      two = sym (append_assoc done (last ∷ []) (ev ∷ []))

      by_fault : (b : Bool) → is_fault last ≡ b → (if b then None else (if comes_later ev then Some (stage.Events (done ++ last ∷ []) ev) else None)) ≡ Some after → Reads (stage.Events done last) (line.Event ev) after
      by_fault true is e' = absurd (none-some after e')
      by_fault false is e' =
          let s = cond_some (comes_later ev) (stage.Events (done ++ last ∷ []) ev) after e' in
          subst (λ z. Reads (stage.Events done last) (line.Event ev) z) s.1 (
            subst (λ es. HasForm es (some_end ev)) two (changed done last last (ev ∷ []) (some_end last) (some_end ev) valid (λ h. h) (λ h. h) (is_no_fault last is, is_later ev form s.0, some_end_fits ev)),
            ap (λ ls. line.Head ∷ ls) (events_push (done ++ last ∷ []) ev (line.Event ev) (bare_list ev form)),
          )

  grown_read : (grown : Event) (l : Line) → Grows last l grown → Reads (stage.Events done last) l (stage.Events done grown)
  grown_read grown l g = (
    changed done last grown [] (some_end last) (some_end grown) valid g.first g.later (some_end_fits grown),
    ap (λ ls. line.Head ∷ ls) (events_grow done last grown l g.lines),
  )

  out_read : (o : Out) (after : Stage) → IsOut o → option_map (stage.Events done) (with_out last o) ≡ Some after → Reads (stage.Events done last) (line.Out o) after
  out_read o after form e =
      let m = some_map (stage.Events done) (with_out last o) after e in
      subst (λ z. Reads (stage.Events done last) (line.Out o) z) m.is (grown_read m.value (line.Out o) (out_grows last m.value o form m.given))

  drop_read : (k : ℕ) (after : Stage) → k < 2 ^ 64 → option_map (stage.Events done) (with_drop last k) ≡ Some after → Reads (stage.Events done last) (line.Drop k) after
  drop_read k after k_in e =
      let m = some_map (stage.Events done) (with_drop last k) after e in
      subst (λ z. Reads (stage.Events done last) (line.Drop k) z) m.is (grown_read m.value (line.Drop k) (drop_grows last m.value k k_in m.given))

  end_read : (e : End) (after : Stage) → ended done last e ≡ Some after → Reads (stage.Events done last) (line.End e) after
  end_read e after k =
      let s = cond_some (ends_behind last e) (stage.Ended (done ++ last ∷ []) e) after k in
      subst (λ z. Reads (stage.Events done last) (line.End e) z) s.1 (changed done last last [] (some_end last) e valid (λ h. h) (λ h. h) (ends_fit last e s.0), refl)

-- a step reads its line, and the stage behind it is one again
pub step_reads : (before : Stage) (l : Line) (after : Stage) → IsStage before → IsLine l → step before l ≡ Some after → Reads before l after
step_reads stage.Nothing line.Head after valid form e = head_read after e
step_reads stage.Nothing (line.Event ev) after valid form e = absurd (none-some after e)
step_reads stage.Nothing (line.Out o) after valid form e = absurd (none-some after e)
step_reads stage.Nothing (line.Drop k) after valid form e = absurd (none-some after e)
step_reads stage.Nothing (line.End k) after valid form e = absurd (none-some after e)
step_reads stage.Headed line.Head after valid form e = absurd (none-some after e)
step_reads stage.Headed (line.Event ev) after valid form e = first_read ev after form e
step_reads stage.Headed (line.Out o) after valid form e = absurd (none-some after e)
step_reads stage.Headed (line.Drop k) after valid form e = absurd (none-some after e)
step_reads stage.Headed (line.End k) after valid form e = absurd (none-some after e)
step_reads (stage.Events done last) line.Head after valid form e = absurd (none-some after e)
step_reads (stage.Events done last) (line.Event ev) after valid form e = later_read done last valid ev after form e
step_reads (stage.Events done last) (line.Out o) after valid form e = out_read done last valid o after form e
step_reads (stage.Events done last) (line.Drop k) after valid form e = drop_read done last valid k after (omega (arith, form.1)) e
step_reads (stage.Events done last) (line.End k) after valid form e = end_read done last valid k after e
step_reads (stage.Ended events k) l after valid form e = absurd (none-some after e)

-- ---- the lines of a trace lead to its end

abbrev pub run : Option Stage → List Line → Option Stage
run s [] = s
run None (l ∷ ls) = run None ls
run (Some s) (l ∷ ls) = run (step s l) ls

pub run_none : (ls : List Line) → run None ls ≡ None
run_none [] = refl
run_none (l ∷ ls) = run_none ls

pub run_append : (s : Option Stage) (ls ks : List Line) → run s (ls ++ ks) ≡ run (run s ls) ks
run_append s [] ks = refl
run_append None (l ∷ ls) ks = run_append None ls ks
run_append (Some s) (l ∷ ls) ks = run_append (step s l) ls ks

rise_before : (ns : List ℕ) (n k : ℕ) (more : List ℕ) (high : ℕ) → IsRising (n + 1) (ns ++ k ∷ more) high → rise_to (n ∷ ns) k ≡ true
rise_before [] n k more high h = let lt : n < k = omega (arith, h.0) in grind (arith, nat_tests)
rise_before (m ∷ ns) n k more high h = rise_before ns m k more high h.1

rises_so_far : (ns : List ℕ) (k : ℕ) (more : List ℕ) (high : ℕ) → IsRising 0 (ns ++ k ∷ more) high → rise_to ns k ≡ true
rises_so_far [] k more high h = refl
rises_so_far (n ∷ ns) k more high h = rise_before ns n k more high h.1

-- an event that has outputs and drops gets them line by line
module _ (make : List Out → List ℕ → Event)
    (takes_out : (outs : List Out) (drops : List ℕ) (o : Out) → with_out (make outs drops) o ≡ option_map (λ more. make more drops) (more_outs outs drops o))
    (takes_drop : (outs : List Out) (drops : List ℕ) (k : ℕ) → with_drop (make outs drops) k ≡ option_map (λ more. make outs more) (more_drops drops k))
    (done : List Event) (rest : List Line) where
  run_outs : (outs more : List Out) → run (Some (stage.Events done (make outs []))) (map line.Out more ++ rest) ≡ run (Some (stage.Events done (make (outs ++ more) []))) rest
  run_outs outs [] = ap (λ os. run (Some (stage.Events done (make os []))) rest) (sym (append-nil outs))
  run_outs outs (o ∷ more) =
      ap (λ e. run (option_map (stage.Events done) e) (map line.Out more ++ rest)) (takes_out outs [] o)
      ∙ (run_outs (outs ++ o ∷ []) more ∙ ap (λ os. run (Some (stage.Events done (make os []))) rest) (append_assoc outs (o ∷ []) more))

  run_drops : (outs : List Out) (drops more : List ℕ) → IsRising 0 (drops ++ more) (2 ^ 64) → run (Some (stage.Events done (make outs drops))) (map line.Drop more ++ rest) ≡ run (Some (stage.Events done (make outs (drops ++ more)))) rest
  run_drops outs drops [] h = ap (λ ds. run (Some (stage.Events done (make outs ds))) rest) (sym (append-nil drops))
  run_drops outs drops (k ∷ more) h =
      ap (λ e. run (option_map (stage.Events done) e) (map line.Drop more ++ rest)) (takes_drop outs drops k ∙ ap (λ b. option_map (λ ds. make outs ds) (if b then Some (drops ++ k ∷ []) else None)) (rises_so_far drops k more (2 ^ 64) h))
      ∙ (run_drops outs (drops ++ k ∷ []) more (subst (λ ds. IsRising 0 ds (2 ^ 64)) (sym (append_assoc drops (k ∷ []) more)) h)
      ∙ ap (λ ds. run (Some (stage.Events done (make outs ds))) rest) (append_assoc drops (k ∷ []) more))

module _ (make : List Out → List ℕ → Event)
    (takes_out : (outs : List Out) (drops : List ℕ) (o : Out) → with_out (make outs drops) o ≡ option_map (λ more. make more drops) (more_outs outs drops o))
    (takes_drop : (outs : List Out) (drops : List ℕ) (k : ℕ) → with_drop (make outs drops) k ≡ option_map (λ more. make outs more) (more_drops drops k))
    (done : List Event) (rest : List Line) where
  run_outcome : (outs : List Out) (drops : List ℕ) → AreOutcome outs drops → run (Some (stage.Events done (make [] []))) (outcome_list outs drops ++ rest) ≡ run (Some (stage.Events done (make outs drops))) rest
  run_outcome outs drops form =
      ap (run (Some (stage.Events done (make [] [])))) (append_assoc (map line.Out outs) (map line.Drop drops) rest)
      ∙ (run_outs make takes_out takes_drop done (map line.Drop drops ++ rest) [] outs ∙ run_drops make takes_out takes_drop done rest outs [] drops form.1)

-- behind the line of an event its own lines lead to the event
pub run_first : (ev : Event) (rest : List Line) → IsFirst ev → run (Some stage.Headed) (event_list ev ++ rest) ≡ run (Some (stage.Events [] ev)) rest
run_first (event.Start outs drops) rest form = run_outcome (λ os ds. event.Start os ds) (λ os ds o. refl) (λ os ds k. refl) [] rest outs drops form
run_first (event.Select system now takes) rest form = absurd form
run_first (event.Fire m n outs drops) rest form = absurd form
run_first (event.Fault m n kind) rest form =
    ap (λ b. run (if b then Some (stage.Events [] (event.Fault m n kind)) else None) rest) (root m n form.0 form.1)
  where
    root : (m : Path) (n : ℕ) → m ≡ [] → n ≡ 0 → (is_root m && (n == 0)) ≡ true
    root m n e k = ap (λ p. is_root p && (n == 0)) e ∙ ap (λ i. i == 0) k

pub run_later : (done : List Event) (last ev : Event) (rest : List Line) → IsNoFault (Some last) → IsLater ev → run (Some (stage.Events done last)) (event_list ev ++ rest) ≡ run (Some (stage.Events (done ++ last ∷ []) ev)) rest
run_later done last ev rest sound form = by_event ev form
  where
    not_fault : (last : Event) → IsNoFault (Some last) → is_fault last ≡ false
    not_fault (event.Start outs drops) h = refl
    not_fault (event.Select system now takes) h = refl
    not_fault (event.Fire m n outs drops) h = refl
    not_fault (event.Fault m n kind) h = absurd h

    goes : (ev : Event) → comes_later ev ≡ true → followed done last ev ≡ Some (stage.Events (done ++ last ∷ []) ev)
    goes ev later =
        ap (λ b. if b then None else (if comes_later ev then Some (stage.Events (done ++ last ∷ []) ev) else None)) (not_fault last sound)
        ∙ ap (λ b. if b then Some (stage.Events (done ++ last ∷ []) ev) else None) later

    by_event : (ev : Event) → IsLater ev → run (Some (stage.Events done last)) (event_list ev ++ rest) ≡ run (Some (stage.Events (done ++ last ∷ []) ev)) rest
    by_event (event.Start outs drops) h = absurd h
    by_event (event.Select system now takes) h = ap (λ s. run s rest) (goes (event.Select system now takes) refl)
    by_event (event.Fire m n outs drops) h =
        ap (λ s. run s (outcome_list outs drops ++ rest)) (goes (event.Fire m n [] []) refl)
        ∙ run_outcome (λ os ds. event.Fire m n os ds) (λ os ds o. refl) (λ os ds k. refl) (done ++ last ∷ []) rest outs drops h.2
    by_event (event.Fault m n kind) h =
        let le : 1 ≤ n = h.1.0 in
        let later : nat_le 1 n ≡ true = grind (arith, nat_tests) in
        ap (λ s. run s rest) (goes (event.Fault m n kind) later)

run_on : (done : List Event) (last : Event) (events : List Event) (e : End) → GoOn last events e → run (Some (stage.Events done last)) (events_list events ++ line.End e ∷ []) ≡ Some (stage.Ended (done ++ last ∷ events) e)
run_on done last [] e goes = ap (λ b. if b then Some (stage.Ended (done ++ last ∷ []) e) else None) (fitting_ends last e goes)
run_on done last (next ∷ events) e goes =
    ap (run (Some (stage.Events done last))) (append_assoc (event_list next) (events_list events) (line.End e ∷ []))
    ∙ (run_later done last next (events_list events ++ line.End e ∷ []) goes.0 goes.1
    ∙ (run_on (done ++ last ∷ []) next events e goes.2 ∙ ap (λ es. Some (stage.Ended es e)) (append_assoc done (last ∷ []) (next ∷ events))))

pub run_all : (events : List Event) (e : End) → HasForm events e → run (Some stage.Nothing) (lines_of events e) ≡ Some (stage.Ended events e)
run_all [] e form = absurd form
run_all (first ∷ events) e form =
    ap (run (Some stage.Headed)) (append_assoc (event_list first) (events_list events) (line.End e ∷ []))
    ∙ (run_first first (events_list events ++ line.End e ∷ []) form.0 ∙ run_on [] first events e form.1)

-- ---- the lines of a trace have the form

map_all : {A B : Type 0} (f : A → B) (P : A → Type 0) (Q : B → Type 0) → ((x : A) → P x → Q (f x)) → (xs : List A) → AllByRecursion P xs → AllByRecursion Q (map f xs)
map_all f P Q h [] a = tt
map_all f P Q h (x ∷ xs) a = (h x a.0, map_all f P Q h xs a.1)

pub all_append : {A : Type 0} (P : A → Type 0) (xs ys : List A) → AllByRecursion P xs → AllByRecursion P ys → AllByRecursion P (xs ++ ys)
all_append P [] ys a b = b
all_append P (x ∷ xs) ys a b = (a.0, all_append P xs ys a.1 b)

drops_are_lines : (low : ℕ) (drops : List ℕ) → IsRising low drops (2 ^ 64) → AllByRecursion IsLine (map line.Drop drops)
drops_are_lines low [] h = tt
drops_are_lines low (k ∷ drops) h = ((omega arith, omega (arith, IsRising-le (k + 1) drops (2 ^ 64) h.1)), drops_are_lines (k + 1) drops h.1)

outcome_are_lines : (outs : List Out) (drops : List ℕ) → AreOutcome outs drops → AllByRecursion IsLine (outcome_list outs drops)
outcome_are_lines outs drops form = all_append IsLine (map line.Out outs) (map line.Drop drops) (map_all line.Out IsOut IsLine (λ o h. h) outs form.0) (drops_are_lines 0 drops form.1)

first_are_lines : (ev : Event) → IsFirst ev → AllByRecursion IsLine (event_list ev)
first_are_lines (event.Start outs drops) form = ((refl, refl), outcome_are_lines outs drops form)
first_are_lines (event.Select system now takes) form = absurd form
first_are_lines (event.Fire m n outs drops) form = absurd form
first_are_lines (event.Fault m n kind) form = (root m n form.0 form.1, tt)
  where
    root : (m : Path) (n : ℕ) → m ≡ [] → n ≡ 0 → IsEventLine (event.Fault m n kind)
    root m n e k = subst (λ p. IsEventLine (event.Fault p n kind)) (sym e) (tt, (omega arith, omega arith))

later_are_lines : (ev : Event) → IsLater ev → AllByRecursion IsLine (event_list ev)
later_are_lines (event.Start outs drops) form = absurd form
later_are_lines (event.Select system now takes) form = (form, tt)
later_are_lines (event.Fire m n outs drops) form = ((form.0, form.1, refl, refl), outcome_are_lines outs drops form.2)
later_are_lines (event.Fault m n kind) form = ((form.0, (omega arith, form.1.1)), tt)

go_on_lines : (last : Event) (events : List Event) (e : End) → GoOn last events e → AllByRecursion IsLine (events_list events ++ line.End e ∷ [])
go_on_lines last [] e goes = (tt, tt)
go_on_lines last (next ∷ events) e goes =
    subst (AllByRecursion IsLine) (sym (append_assoc (event_list next) (events_list events) (line.End e ∷ [])))
    (all_append IsLine (event_list next) (events_list events ++ line.End e ∷ []) (later_are_lines next goes.1) (go_on_lines next events e goes.2))

pub are_lines : (events : List Event) (e : End) → HasForm events e → AllByRecursion IsLine (lines_of events e)
are_lines [] e form = absurd form
are_lines (first ∷ events) e form = (
  tt,
  subst (AllByRecursion IsLine) (sym (append_assoc (event_list first) (events_list events) (line.End e ∷ [])))
      (all_append IsLine (event_list first) (events_list events ++ line.End e ∷ []) (first_are_lines first form.0) (go_on_lines first events e form.1)),
)
