-- What reading a line of each kind answers.
use Rattle.std.proofs.Common.{◌≡◌, ℕ, ◌+◌, Bool, true, false, List, [], ◌++◌, length, drop, ap, subst, ◌∙◌, sym, refl, arith, append_assoc, Result, Err}
use Rattle.std.specs.Prelude.{codes}
use Rattle.std.specs.Fmt.{decimal}
use Rattle.std.specs.List.{AllByRecursion}
use Rattle.pascal_values.specs.declared.fault.Fault as fault
use Rattle.pascal_values.specs.declared.value.Value.{Value}
use Rattle.pascal_values.specs.Steps as steps
use Rattle.pascal_values.specs.Texts.{IsReadable}
use Rattle.estelle_tree.specs.declared.transition.Pair.{Pair}
use Rattle.estelle_tree.specs.Paths.{Path}
use Rattle.estelle_model.specs.declared.effect.Out.{Out}
use Rattle.estelle_model.specs.declared.event.Event.TheVariants as event
use Rattle.estelle_model.specs.declared.event.End.TheVariants as end
use Rattle.estelle_model.specs.Trace.{path_text, out_text, fate_text, kind_text, event_lines, end_line, line_end}
use Rattle.trace_text.specs.declared.error.Missing.{Missing}
use Rattle.trace_text.specs.declared.line.Line.{Line}
use Rattle.trace_text.specs.declared.line.Line.TheVariants as line
use Rattle.trace_text.specs.Forms.{IsNumber, IsPath, IsName, AreTakes}
use Rattle.trace_text.specs.Fields.{Any, Anything, EndsWord, EndsPath, Stands, Lacks, IsReading, closed, both, Both, pair_with, IsPairFrom, moment_text, takes_line, name_text, values_line}
use Rattle.trace_text.specs.Lines.{line_text, IsLine}
use Rattle.trace_text.proofs.FieldLemmas.{first_missing, second_missing, both_stand}
use Rattle.trace_text.proofs.LineFields as fields
use Rattle.trace_text.proofs.LineLemmas as lines
use Rattle.trace_text.proofs.PathLemmas.{paths_unique}
use Rattle.trace_text.proofs.WordLemmas.{names_unique}

abbrev pub IsLineReading : List ℕ → ℕ → Result (Line × ℕ) Missing → Type 0
IsLineReading = IsReading line_text IsLine Any

-- ---- parts of lines

abbrev selection_text : ℕ × List Pair → List ℕ
selection_text = both moment_text takes_line

abbrev IsSelection : ℕ × List Pair → Type 0
IsSelection = Both IsNumber AreTakes

abbrev point_text : Path × List ℕ → List ℕ
point_text = both (closed 46 path_text) (closed 32 name_text)

abbrev IsPoint : Path × List ℕ → Type 0
IsPoint = Both IsPath IsName

abbrev interaction_text : List ℕ × List Value → List ℕ
interaction_text = both name_text values_line

abbrev IsInteraction : List ℕ × List Value → Type 0
IsInteraction = Both IsName (AllByRecursion IsReadable)

module _ (bytes : List ℕ) (at_ : ℕ) where
  pub no_moment : (e : Missing) → IsReading moment_text IsNumber Any bytes at_ (Err e) → IsReading (both moment_text takes_line) (Both IsNumber AreTakes) Any bytes at_ (Err e)
  no_moment = first_missing moment_text IsNumber Any takes_line AreTakes Any (λ ps t form stop. tt) bytes at_

  pub moment_only : (now mid : ℕ) → Stands moment_text IsNumber Any bytes at_ now mid → (e : Missing) → IsReading takes_line AreTakes Any bytes mid (Err e) → IsReading (both moment_text takes_line) (Both IsNumber AreTakes) Any bytes at_ (Err e)
  moment_only now mid here = second_missing moment_text IsNumber Any takes_line AreTakes Any (λ ps t form stop. tt) bytes at_ now mid here fields.moment_texts_unique

  pub selection_stands : (now mid : ℕ) → Stands moment_text IsNumber Any bytes at_ now mid → (takes : List Pair) (end_ : ℕ) → Stands takes_line AreTakes Any bytes mid takes end_ → Stands (both moment_text takes_line) (Both IsNumber AreTakes) Any bytes at_ (now, takes) end_
  selection_stands now mid here = both_stand moment_text IsNumber Any takes_line AreTakes Any (λ ps t form stop. tt) bytes at_ now mid here

  pub no_name : (e : Missing) → IsReading name_text IsName EndsWord bytes at_ (Err e) → IsReading (both name_text values_line) (Both IsName (AllByRecursion IsReadable)) Any bytes at_ (Err e)
  no_name = first_missing name_text IsName EndsWord values_line (AllByRecursion IsReadable) Any fields.values_end bytes at_

  pub name_only : (name : List ℕ) (mid : ℕ) → Stands name_text IsName EndsWord bytes at_ name mid → (e : Missing) → IsReading values_line (AllByRecursion IsReadable) Any bytes mid (Err e) → IsReading (both name_text values_line) (Both IsName (AllByRecursion IsReadable)) Any bytes at_ (Err e)
  name_only name mid here = second_missing name_text IsName EndsWord values_line (AllByRecursion IsReadable) Any fields.values_end bytes at_ name mid here names_unique

  pub interaction_stands : (name : List ℕ) (mid : ℕ) → Stands name_text IsName EndsWord bytes at_ name mid → (values : List Value) (end_ : ℕ) → Stands values_line (AllByRecursion IsReadable) Any bytes mid values end_ → Stands (both name_text values_line) (Both IsName (AllByRecursion IsReadable)) Any bytes at_ (name, values) end_
  interaction_stands name mid here = both_stand name_text IsName EndsWord values_line (AllByRecursion IsReadable) Any fields.values_end bytes at_ name mid here

  -- ---- selections

  module _ (here : steps.StandsWord bytes at_ (codes "select ")) where
    pub select_nowhere : (e : Missing) → IsReading path_text IsPath EndsPath bytes (at_ + 7) (Err e) → IsLineReading bytes at_ (Err e)
    select_nowhere e lacks =
        lines.line_missing (codes "select ") (both path_text selection_text) lines.IsSelect lines.make_select lines.select_is lines.select_finds bytes at_ (at_ + 7) here refl e
        (first_missing path_text IsPath EndsPath selection_text IsSelection Any fields.selection_ends bytes (at_ + 7) e lacks)

    module _ (system : Path) (mid : ℕ) (path : Stands path_text IsPath EndsPath bytes (at_ + 7) system mid) where
      pub select_only : (e : Missing) → IsReading selection_text IsSelection Any bytes mid (Err e) → IsLineReading bytes at_ (Err e)
      select_only e lacks =
          lines.line_missing (codes "select ") (both path_text selection_text) lines.IsSelect lines.make_select lines.select_is lines.select_finds bytes at_ (at_ + 7) here refl e
          (second_missing path_text IsPath EndsPath selection_text IsSelection Any fields.selection_ends bytes (at_ + 7) system mid path paths_unique e lacks)

      pub select_stands : (selection : ℕ × List Pair) (end_ : ℕ) → Stands selection_text IsSelection Any bytes mid selection end_ → Stands line_text IsLine Any bytes at_ (lines.make_select (system, selection)) end_
      select_stands selection end_ next =
          lines.line_stands (codes "select ") (both path_text selection_text) lines.IsSelect lines.make_select lines.select_is lines.select_finds bytes at_ (at_ + 7) here refl (system, selection) end_
          (path.form, next.form.0, next.form.1)
          (both_stand path_text IsPath EndsPath selection_text IsSelection Any fields.selection_ends bytes (at_ + 7) system mid path selection end_ next)

  -- ---- firings

  module _ (here : steps.StandsWord bytes at_ (codes "fire ")) where
    pub fire_missing : (e : Missing) → IsReading (closed 10 (pair_with 32)) (IsPairFrom 1) Any bytes (at_ + 5) (Err e) → IsLineReading bytes at_ (Err e)
    fire_missing e = lines.line_missing (codes "fire ") (closed 10 (pair_with 32)) (IsPairFrom 1) lines.make_fire lines.fire_is lines.fire_finds bytes at_ (at_ + 5) here refl e

    pub fire_stands : (p : Pair) (end_ : ℕ) (outs : List Out) (drops : List ℕ) → outs ≡ [] → drops ≡ [] → Stands (closed 10 (pair_with 32)) (IsPairFrom 1) Any bytes (at_ + 5) p end_ → Stands line_text IsLine Any bytes at_ (line.Event (event.Fire p.path p.trans outs drops)) end_
    fire_stands p end_ outs drops none no_drops next =
        let one : ◌≡◌ {A = Line} (line.Event (event.Fire p.path p.trans [] [])) (line.Event (event.Fire p.path p.trans outs [])) = ap (λ os. line.Event (event.Fire p.path p.trans os [])) (sym none) in
        let two : ◌≡◌ {A = Line} (line.Event (event.Fire p.path p.trans outs [])) (line.Event (event.Fire p.path p.trans outs drops)) = ap (λ ds. line.Event (event.Fire p.path p.trans outs ds)) (sym no_drops) in
        subst (λ l. Stands line_text IsLine Any bytes at_ l end_) (one ∙ two)
        (lines.line_stands (codes "fire ") (closed 10 (pair_with 32)) (IsPairFrom 1) lines.make_fire lines.fire_is lines.fire_finds bytes at_ (at_ + 5) here refl p end_ (next.form.0, next.form.1, refl, refl) next)

  -- ---- faults

  module _ (here : steps.StandsWord bytes at_ (codes "fault ")) where
    pub fault_nowhere : (e : Missing) → IsReading (closed 32 (pair_with 32)) (IsPairFrom 0) Any bytes (at_ + 6) (Err e) → IsLineReading bytes at_ (Err e)
    fault_nowhere e lacks =
        lines.line_missing (codes "fault ") (both (closed 32 (pair_with 32)) (closed 10 kind_text)) lines.IsFaultLine lines.make_fault lines.fault_is lines.fault_finds bytes at_ (at_ + 6) here refl e
        (first_missing (closed 32 (pair_with 32)) (IsPairFrom 0) Any (closed 10 kind_text) Anything Any (λ k t form stop. tt) bytes (at_ + 6) e lacks)

    module _ (p : Pair) (mid : ℕ) (first : Stands (closed 32 (pair_with 32)) (IsPairFrom 0) Any bytes (at_ + 6) p mid) where
      pub fault_only : (e : Missing) → IsReading (closed 10 kind_text) Anything Any bytes mid (Err e) → IsLineReading bytes at_ (Err e)
      fault_only e lacks =
          lines.line_missing (codes "fault ") (both (closed 32 (pair_with 32)) (closed 10 kind_text)) lines.IsFaultLine lines.make_fault lines.fault_is lines.fault_finds bytes at_ (at_ + 6) here refl e
          (second_missing (closed 32 (pair_with 32)) (IsPairFrom 0) Any (closed 10 kind_text) Anything Any (λ k t form stop. tt) bytes (at_ + 6) p mid first (fields.closed_pairs_unique 0 32 refl) e lacks)

      pub fault_stands : (kind : fault.Fault) (end_ : ℕ) → Stands (closed 10 kind_text) Anything Any bytes mid kind end_ → Stands line_text IsLine Any bytes at_ (lines.make_fault (p, kind)) end_
      fault_stands kind end_ next =
          lines.line_stands (codes "fault ") (both (closed 32 (pair_with 32)) (closed 10 kind_text)) lines.IsFaultLine lines.make_fault lines.fault_is lines.fault_finds bytes at_ (at_ + 6) here refl (p, kind) end_
          (first.form.0, first.form.1)
          (both_stand (closed 32 (pair_with 32)) (IsPairFrom 0) Any (closed 10 kind_text) Anything Any (λ k t form stop. tt) bytes (at_ + 6) p mid first kind end_ next)

  -- ---- outputs

  module _ (lost : Bool) (from : ℕ) (here : steps.StandsWord bytes at_ (fate_text lost)) (from_is : from ≡ at_ + length (fate_text lost)) where
    pub out_nowhere : (e : Missing) → IsReading (both (closed 46 path_text) (closed 32 name_text)) (Both IsPath IsName) Any bytes from (Err e) → IsLineReading bytes at_ (Err e)
    out_nowhere e lacks =
        lines.line_missing (fate_text lost) (both point_text interaction_text) lines.AreOutParts (lines.make_out lost) (lines.out_is lost) (lines.out_finds lost) bytes at_ from here from_is e
        (first_missing point_text IsPoint Any interaction_text IsInteraction Any (λ i t form stop. tt) bytes from e lacks)

    module _ (point : Path × List ℕ) (mid : ℕ) (first : Stands (both (closed 46 path_text) (closed 32 name_text)) (Both IsPath IsName) Any bytes from point mid) where
      pub out_only : (e : Missing) → IsReading (both name_text values_line) (Both IsName (AllByRecursion IsReadable)) Any bytes mid (Err e) → IsLineReading bytes at_ (Err e)
      out_only e lacks =
          lines.line_missing (fate_text lost) (both point_text interaction_text) lines.AreOutParts (lines.make_out lost) (lines.out_is lost) (lines.out_finds lost) bytes at_ from here from_is e
          (second_missing point_text IsPoint Any interaction_text IsInteraction Any (λ i t form stop. tt) bytes from point mid first fields.points_unique e lacks)

      pub out_stands : (interaction : List ℕ × List Value) (end_ : ℕ) → Stands (both name_text values_line) (Both IsName (AllByRecursion IsReadable)) Any bytes mid interaction end_ → Stands line_text IsLine Any bytes at_ (lines.make_out lost (point, interaction)) end_
      out_stands interaction end_ next =
          lines.line_stands (fate_text lost) (both point_text interaction_text) lines.AreOutParts (lines.make_out lost) (lines.out_is lost) (lines.out_finds lost) bytes at_ from here from_is (point, interaction) end_
          (record { path = first.form.0; ip = first.form.1; name = next.form.0; values = next.form.1 })
          (both_stand point_text IsPoint Any interaction_text IsInteraction Any (λ i t form stop. tt) bytes from point mid first interaction end_ next)

  -- ---- drops and ends

  module _ (here : steps.StandsWord bytes at_ (codes "drop ")) where
    pub drop_missing : (e : Missing) → IsReading (closed 10 decimal) IsNumber Any bytes (at_ + 5) (Err e) → IsLineReading bytes at_ (Err e)
    drop_missing e = lines.line_missing (codes "drop ") (closed 10 decimal) IsNumber lines.make_drop lines.drop_is lines.drop_finds bytes at_ (at_ + 5) here refl e

    pub drop_stands : (n end_ : ℕ) → Stands (closed 10 decimal) IsNumber Any bytes (at_ + 5) n end_ → Stands line_text IsLine Any bytes at_ (lines.make_drop n) end_
    drop_stands n end_ next = lines.line_stands (codes "drop ") (closed 10 decimal) IsNumber lines.make_drop lines.drop_is lines.drop_finds bytes at_ (at_ + 5) here refl n end_ next.form next

  module _ (here : steps.StandsWord bytes at_ (codes "end fault ")) where
    pub faulted_missing : (e : Missing) → IsReading (closed 10 kind_text) Anything Any bytes (at_ + 10) (Err e) → IsLineReading bytes at_ (Err e)
    faulted_missing e = lines.line_missing (codes "end fault ") (closed 10 kind_text) Anything lines.make_faulted lines.faulted_is lines.faulted_finds bytes at_ (at_ + 10) here refl e

    pub faulted_stands : (kind : fault.Fault) (end_ : ℕ) → Stands (closed 10 kind_text) Anything Any bytes (at_ + 10) kind end_ → Stands line_text IsLine Any bytes at_ (lines.make_faulted kind) end_
    faulted_stands kind end_ next = lines.line_stands (codes "end fault ") (closed 10 kind_text) Anything lines.make_faulted lines.faulted_is lines.faulted_finds bytes at_ (at_ + 10) here refl kind end_ tt next

  -- ---- lines of one word, and no line

  pub head_stands : steps.StandsWord bytes at_ (codes "estelle trace 1\n") → Stands line_text IsLine Any bytes at_ line.Head (at_ + 16)
  head_stands = lines.fixed_stands (codes "estelle trace 1\n") line.Head refl tt (omega arith) bytes at_ (at_ + 16) refl

  pub start_stands : (l : Line) → l ≡ line.Event (event.Start [] []) → steps.StandsWord bytes at_ (codes "start\n") → Stands line_text IsLine Any bytes at_ l (at_ + 6)
  unfolding event_lines
  start_stands l e here = subst (λ k. Stands line_text IsLine Any bytes at_ k (at_ + 6)) (sym e) (lines.fixed_stands (codes "start\n") (line.Event (event.Start [] [])) refl (refl, refl) (omega arith) bytes at_ (at_ + 6) refl here)

  pub dead_stands : steps.StandsWord bytes at_ (codes "end deadlock\n") → Stands line_text IsLine Any bytes at_ (line.End end.Dead) (at_ + 13)
  unfolding end_line
  dead_stands = lines.fixed_stands (codes "end deadlock\n") (line.End end.Dead) refl tt (omega arith) bytes at_ (at_ + 13) refl

  pub turns_stands : steps.StandsWord bytes at_ (codes "end turns\n") → Stands line_text IsLine Any bytes at_ (line.End end.Turns) (at_ + 10)
  unfolding end_line
  turns_stands = lines.fixed_stands (codes "end turns\n") (line.End end.Turns) refl tt (omega arith) bytes at_ (at_ + 10) refl

  pub clock_stands : steps.StandsWord bytes at_ (codes "end clock\n") → Stands line_text IsLine Any bytes at_ (line.End end.Clock) (at_ + 10)
  unfolding end_line
  clock_stands = lines.fixed_stands (codes "end clock\n") (line.End end.Clock) refl tt (omega arith) bytes at_ (at_ + 10) refl

-- no line begins with one of its words here
pub record NoWords (bytes : List ℕ) (at_ : ℕ) : Type 0 where
  pub select : steps.NoWord bytes at_ (codes "select ")
  pub fire : steps.NoWord bytes at_ (codes "fire ")
  pub out : steps.NoWord bytes at_ (codes "out ")
  pub lost : steps.NoWord bytes at_ (codes "lost ")
  pub dropped : steps.NoWord bytes at_ (codes "drop ")
  pub fault : steps.NoWord bytes at_ (codes "fault ")
  pub head : steps.NoWord bytes at_ (codes "estelle trace 1\n")
  pub start : steps.NoWord bytes at_ (codes "start\n")
  pub dead : steps.NoWord bytes at_ (codes "end deadlock\n")
  pub turns : steps.NoWord bytes at_ (codes "end turns\n")
  pub clock : steps.NoWord bytes at_ (codes "end clock\n")
  pub faulted : steps.NoWord bytes at_ (codes "end fault ")

pub no_line : (bytes : List ℕ) (at_ : ℕ) → NoWords bytes at_ → Lacks line_text IsLine Any (drop at_ bytes)
unfolding event_lines end_line
no_line bytes at_ w line.Head t form stop e = w.head t e
no_line bytes at_ w (line.Event (event.Start outs drops)) t form stop e = w.start _ e
no_line bytes at_ w (line.Event (event.Select system now takes)) t form stop e = w.select _ e
no_line bytes at_ w (line.Event (event.Fire m n outs drops)) t form stop e = w.fire _ e
no_line bytes at_ w (line.Event (event.Fault m n kind)) t form stop e = w.fault _ e
no_line bytes at_ w (line.Out o) t form stop e = by_fate o.lost ((out_text o ++ line_end) ++ t) (e ∙ append_assoc (fate_text o.lost) (out_text o ++ line_end) t)
  where
    by_fate : (lost : Bool) (u : List ℕ) → drop at_ bytes ≡ fate_text lost ++ u → ⊥
    by_fate true u k = w.lost u k
    by_fate false u k = w.out u k
no_line bytes at_ w (line.Drop n) t form stop e = w.dropped _ e
no_line bytes at_ w (line.End end.Dead) t form stop e = w.dead t e
no_line bytes at_ w (line.End end.Turns) t form stop e = w.turns t e
no_line bytes at_ w (line.End end.Clock) t form stop e = w.clock t e
no_line bytes at_ w (line.End (end.Faulted kind)) t form stop e = w.faulted _ e
