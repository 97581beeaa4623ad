-- Whole texts: they are the lines of a trace, or have a first bad line.
use Rattle.std.proofs.Common.{◌≡◌, ◌⊎◌, ℕ, zero, suc, ◌+◌, ◌-◌, ◌<◌, ◌≤◌, ◌&&◌, not, Bool, true, false, if◌then◌else◌, List, [], ◌∷◌, ◌++◌, map, flat_map, length, drop, ap, subst, ◌∙◌, sym, refl, arith, append_assoc, append-nil, length-append, length-drop, inl, inr, Some, None, Result, Ok, Err}
use Rattle.std.specs.Prelude.{codes, ◌==◌}
use Rattle.std.specs.Fmt.{decimal}
use Rattle.std.specs.List.{AllByRecursion}
use Rattle.std.proofs.lemmas.Bool.{cases_lt, false≢true}
use Rattle.std.proofs.lemmas.List.{drop_all}
use Rattle.std.proofs.lemmas.Option.{none-some, same_Some}
use Rattle.std.proofs.lemmas.List.Folds.{flat_map-map}
use Rattle.std.proofs.lemmas.Grind.{flat_map-append}
use Rattle.estelle_model.specs.declared.effect.Out.{Out}
use Rattle.estelle_model.specs.declared.event.Event.{Event}
use Rattle.estelle_model.specs.declared.event.Event.TheVariants as event
use Rattle.estelle_model.specs.declared.event.End.{End}
use Rattle.estelle_model.specs.declared.event.End.TheVariants as end
use Rattle.estelle_model.specs.declared.event.Run.{Run}
use Rattle.estelle_model.specs.Trace as trace
use Rattle.trace_text.specs.declared.error.Missing.{Missing}
use Rattle.trace_text.specs.declared.error.Missing.TheVariants as missing
use Rattle.trace_text.specs.declared.error.TraceError.{TraceError}
use Rattle.trace_text.specs.declared.error.TraceError.TheVariants as error
use Rattle.trace_text.specs.declared.line.Line.{Line}
use Rattle.trace_text.specs.declared.line.Line.TheVariants as line
use Rattle.trace_text.specs.declared.stage.Stage.{Stage}
use Rattle.trace_text.specs.declared.stage.Stage.TheVariants as stage
use Rattle.trace_text.specs.Forms.{HasForm}
use Rattle.trace_text.specs.Readings.{IsTrace, first_lines, Begins, IsBadLine, IsRefused, Gives, Refuses, IsAnswer}
use Rattle.trace_text.specs.Fields.{Stands, Any, IsReading}
use Rattle.trace_text.specs.Lines.{line_text, IsLine}
use Rattle.trace_text.specs.Stages.{Answers, step, IsNext, IsTold}
use Rattle.trace_text.proofs.BreakLemmas.{unbroken, one_line}
use Rattle.trace_text.proofs.FieldLemmas.{only}
use Rattle.trace_text.proofs.LineLemmas.{lines_apart}
use Rattle.trace_text.proofs.StageLemmas.{outcome_list, event_list, events_list, lines_of, stage_lines, some_end, IsStage, step_reads, run, run_none, run_append, run_all, are_lines, all_append}

-- ---- a trace is the text of its lines

abbrev pub text_of : List Line → List ℕ
text_of = flat_map line_text

outcome_text : (outs : List Out) (drops : List ℕ) → trace.outcome_lines outs drops ≡ text_of (outcome_list outs drops)
outcome_text outs drops = sym (flat_map-append line_text (map line.Out outs) (map line.Drop drops) ∙ (ap (λ t. t ++ text_of (map line.Drop drops)) (flat_map-map line_text line.Out outs) ∙ ap (λ t. flat_map trace.out_line outs ++ t) (flat_map-map line_text line.Drop drops)))

event_text : (ev : Event) → trace.event_lines ev ≡ text_of (event_list ev)
unfolding trace.event_lines
event_text (event.Start outs drops) = ap (λ t. codes "start" ++ (10 ∷ t)) (outcome_text outs drops)
event_text (event.Select system now takes) = sym (append-nil _)
event_text (event.Fire m n outs drops) =
    let more = text_of (outcome_list outs drops) in
    ap (λ t. codes "fire " ++ (trace.path_text m ++ 32 ∷ (decimal n ++ 10 ∷ t))) (outcome_text outs drops)
    ∙ ap (λ u. codes "fire " ++ u) (sym (append_assoc (trace.path_text m) (32 ∷ (decimal n ++ 10 ∷ [])) more ∙ ap (λ u. trace.path_text m ++ 32 ∷ u) (append_assoc (decimal n) (10 ∷ []) more)))
event_text (event.Fault m n kind) = sym (append-nil _)

events_text : (events : List Event) → flat_map trace.event_lines events ≡ text_of (events_list events)
events_text [] = refl
events_text (ev ∷ events) =
    ap (λ t. t ++ flat_map trace.event_lines events) (event_text ev)
    ∙ (ap (λ t. text_of (event_list ev) ++ t) (events_text events) ∙ sym (flat_map-append line_text (event_list ev) (events_list events)))

pub trace_lines : (events : List Event) (e : End) → trace.text events e ≡ text_of (lines_of events e)
trace_lines events e = ap (λ t. codes "estelle trace 1" ++ (10 ∷ t))
    (ap (λ u. u ++ trace.end_line e) (events_text events)
    ∙ sym (flat_map-append line_text (events_list events) (line.End e ∷ []) ∙ ap (λ u. text_of (events_list events) ++ u) (append-nil (trace.end_line e))))

-- ---- the first lines of a text

first_none : (t : List ℕ) → first_lines zero t ≡ []
first_none [] = refl
first_none (c ∷ t) = refl

first_front : (u t : List ℕ) (n : ℕ) → unbroken u ≡ true → first_lines (suc n) (u ++ 10 ∷ t) ≡ u ++ 10 ∷ first_lines n t
first_front [] t n e = refl
first_front (c ∷ u) t n e = ap (λ w. c ∷ w) (by_byte (first_front u t n) (c == 10) e)
  where
    by_byte : (unbroken u ≡ true → first_lines (suc n) (u ++ 10 ∷ t) ≡ u ++ 10 ∷ first_lines n t) → (ten : Bool) → (not ten && unbroken u) ≡ true → first_lines (if ten then n else suc n) (u ++ 10 ∷ t) ≡ u ++ 10 ∷ first_lines n t
    by_byte others false k = others k
    by_byte others true k = absurd (false≢true k)

line_front : (l : Line) (t : List ℕ) (n : ℕ) → IsLine l → first_lines (suc n) (line_text l ++ t) ≡ line_text l ++ first_lines n t
line_front l t n form =
    let o = one_line l form in
    let split : (u : List ℕ) → line_text l ++ u ≡ o.front ++ 10 ∷ u = λ u. ap (λ w. w ++ u) o.is ∙ append_assoc o.front (10 ∷ []) u in
    ap (first_lines (suc n)) (split t) ∙ (first_front o.front t n o.whole ∙ sym (split (first_lines n t)))

lines_front : (ls : List Line) (t : List ℕ) (n k : ℕ) → AllByRecursion IsLine ls → k ≡ length ls + n → first_lines k (text_of ls ++ t) ≡ text_of ls ++ first_lines n t
lines_front [] t n k form e = let same : k ≡ n = omega arith in ap (λ i. first_lines i t) same
lines_front (l ∷ ls) t n k form e =
    let same : k ≡ suc (length ls + n) = omega arith in
    ap (λ i. first_lines i (text_of (l ∷ ls) ++ t)) same
    ∙ (ap (first_lines (suc (length ls + n))) (append_assoc (line_text l) (text_of ls) t)
    ∙ (line_front l (text_of ls ++ t) (length ls + n) form.0
    ∙ (ap (λ u. line_text l ++ u) (lines_front ls t n (length ls + n) form.1 refl) ∙ sym (append_assoc (line_text l) (text_of ls) (first_lines n t)))))

some_text : (l : Line) (t : List ℕ) → IsLine l → ¬ (line_text l ++ t ≡ [])
some_text l t form e =
    let o = one_line l form in
    omega (arith, ap length e, length-append (line_text l) t, ap length o.is, length-append o.front (10 ∷ []))

-- the first lines are the beginning of a text
first_split : (n : ℕ) (t : List ℕ) → (u : List ℕ) × (t ≡ first_lines n t ++ u)
first_split n [] = ([], refl)
first_split zero (c ∷ t) = (c ∷ t, refl)
first_split (suc n) (c ∷ t) = let r = first_split (if c == 10 then n else suc n) t in (r.0, ap (λ w. c ∷ w) r.1)

first_empty : (t : List ℕ) → [] ≡ first_lines 1 t → t ≡ []
first_empty [] e = refl
first_empty (c ∷ t) e = cc

nested : (t : List ℕ) (m n : ℕ) → m ≤ n → first_lines m (first_lines n t) ≡ first_lines m t
nested [] m n le = refl
nested (c ∷ t) zero n le = first_none (first_lines n (c ∷ t))
nested (c ∷ t) (suc m) zero le = absurd (omega arith)
nested (c ∷ t) (suc m) (suc n) le = ap (λ w. c ∷ w) (by_byte (nested t m n (omega arith)) (nested t (suc m) (suc n) le) (c == 10))
  where
    by_byte : first_lines m (first_lines n t) ≡ first_lines m t → first_lines (suc m) (first_lines (suc n) t) ≡ first_lines (suc m) t → (ten : Bool) → first_lines (if ten then m else suc m) (first_lines (if ten then n else suc n) t) ≡ first_lines (if ten then m else suc m) t
    by_byte line rest true = line
    by_byte line rest false = rest

begins_less : (bytes : List ℕ) (m n : ℕ) → m ≤ n → Begins n bytes → Begins m bytes
begins_less bytes m n le b = record {
  events = b.events;
  end_ = b.end_;
  form = b.form;
  same = sym (nested (trace.text b.events b.end_) m n le) ∙ (ap (first_lines m) b.same ∙ nested bytes m n le);
}

-- ---- lines against lines

pub record Next (ls ks : List Line) (rest : List ℕ) : Type 0 where
  pub next : Line
  pub more : List Line
  pub form : IsLine next
  pub is : ks ≡ ls ++ next ∷ more
  pub behind : List ℕ
  pub stands : rest ≡ line_text next ++ behind

-- lines that have one more line in common with a text that begins with others are those, or go on with that line
aligned : (ls ks : List Line) (rest : List ℕ) (k : ℕ) → AllByRecursion IsLine ls → AllByRecursion IsLine ks → k ≡ length ls + 1 → first_lines k (text_of ks) ≡ text_of ls ++ first_lines 1 rest → ((ks ≡ ls) × (rest ≡ [])) ⊎ Next ls ks rest
aligned [] [] rest k here there n e = inl (refl, first_empty rest e)
aligned [] (m ∷ ks) rest k here there n e =
    let one : k ≡ suc zero = omega arith in
    let h : line_text m ≡ first_lines 1 rest = sym (append-nil (line_text m)) ∙ (ap (λ u. line_text m ++ u) (sym (first_none (text_of ks))) ∙ (sym (line_front m (text_of ks) zero there.0) ∙ (ap (λ i. first_lines i (line_text m ++ text_of ks)) (sym one) ∙ e))) in
    let r = first_split 1 rest in
    inr (record { next = m; more = ks; form = there.0; is = refl; behind = r.0; stands = r.1 ∙ ap (λ w. w ++ r.0) (sym h) })
aligned (l ∷ ls) [] rest k here there n e = absurd (some_text l (text_of ls ++ first_lines 1 rest) here.0 (sym (e ∙ append_assoc (line_text l) (text_of ls) (first_lines 1 rest))))
aligned (l ∷ ls) (m ∷ ks) rest k here there n e =
    let size : k ≡ suc (length ls + 1) = omega arith in
    let h : line_text m ++ first_lines (length ls + 1) (text_of ks) ≡ line_text l ++ (text_of ls ++ first_lines 1 rest) =
    sym (line_front m (text_of ks) (length ls + 1) there.0) ∙ (ap (λ i. first_lines i (line_text m ++ text_of ks)) (sym size) ∙ (e ∙ append_assoc (line_text l) (text_of ls) (first_lines 1 rest))) in
    let o = lines_apart m l (first_lines (length ls + 1) (text_of ks)) (text_of ls ++ first_lines 1 rest) there.0 here.0 tt tt h in
    cons o.0 (aligned ls ks rest (length ls + 1) here.1 there.1 refl o.1)
  where
    both : (ks' : List Line) → m ≡ l → ks ≡ ks' → ◌≡◌ {A = List Line} (m ∷ ks) (l ∷ ks')
    both ks' p q =
        let first : ◌≡◌ {A = List Line} (m ∷ ks) (l ∷ ks) = ap (λ z. z ∷ ks) p in
        let second : ◌≡◌ {A = List Line} (l ∷ ks) (l ∷ ks') = ap (λ zs. l ∷ zs) q in
        first ∙ second

    cons : m ≡ l → ((ks ≡ ls) × (rest ≡ [])) ⊎ Next ls ks rest → ((m ∷ ks ≡ l ∷ ls) × (rest ≡ [])) ⊎ Next (l ∷ ls) (m ∷ ks) rest
    cons p (inl same) = inl (both ls p same.0, same.1)
    cons p (inr n) = inr (record { next = n.next; more = n.more; form = n.form; is = both (ls ++ n.next ∷ n.more) p n.is; behind = n.behind; stands = n.stands })

-- ---- the next line

module _ (bytes : List ℕ) (place : ℕ) (s : Stage) where
  pub next_missing : (e : Missing) → IsReading line_text IsLine Any bytes place (Err e) → IsNext bytes place s (Err e)
  next_missing missing.Absent lacks = λ l t form e. absurd (lacks l t form tt e)
  next_missing missing.Memory lacks = tt

  module _ (l : Line) (end_ : ℕ) (here : Stands line_text IsLine Any bytes place l end_) where
    pub next_stuck : (e : Missing) → Answers (Err e) (step s l) → IsNext bytes place s (Err e)
    next_stuck missing.Absent none = λ k t form e. ap (step s) (only line_text IsLine Any lines_apart bytes place l end_ here k t form tt e).0 ∙ none
    next_stuck missing.Memory none = tt

-- ---- what a loop over lines keeps

pub record IsReadTo (bytes : List ℕ) (place number : ℕ) (s : Stage) : Type 0 where
  pub valid : IsStage s
  pub lines : AllByRecursion IsLine (stage_lines s)
  pub leads : run (Some stage.Nothing) (stage_lines s) ≡ Some s
  pub within : place ≤ length bytes
  pub is : bytes ≡ text_of (stage_lines s) ++ drop place bytes
  pub count : number ≡ length (stage_lines s) + 1
  pub few : number ≤ place + 1

pub nothing_read : (bytes : List ℕ) → IsReadTo bytes 0 1 stage.Nothing
nothing_read bytes = record { valid = tt; lines = tt; leads = refl; within = omega arith; is = refl; count = refl; few = omega arith }

module _ (bytes : List ℕ) (place number : ℕ) (s : Stage) (read : IsReadTo bytes place number s) where
  pub one_more : (l : Line) (end_ : ℕ) (after : Stage) → Stands line_text IsLine Any bytes place l end_ → step s l ≡ Some after → IsReadTo bytes end_ (number + 1) after
  one_more l end_ after here e =
      let r = step_reads s l after read.valid here.form e in
      record {
        valid = r.0;
        lines = subst (AllByRecursion IsLine) (sym r.1) (all_append IsLine (stage_lines s) (l ∷ []) read.lines (here.form, tt));
        leads = ap (run (Some stage.Nothing)) r.1 ∙ (run_append (Some stage.Nothing) (stage_lines s) (l ∷ []) ∙ (ap (λ o. run o (l ∷ [])) read.leads ∙ e));
        within = here.within;
        is = read.is ∙ (ap (λ t. text_of (stage_lines s) ++ t) here.is ∙ (sym (append_assoc (text_of (stage_lines s)) (line_text l) (drop end_ bytes)) ∙ ap (λ t. t ++ drop end_ bytes) (more_text ∙ ap text_of (sym r.1))));
        count = omega (arith, read.count, ap length r.1, length-append (stage_lines s) (l ∷ []));
        few = omega (arith, read.few, here.goes);
      }
    where
      more_text : text_of (stage_lines s) ++ line_text l ≡ text_of (stage_lines s ++ l ∷ [])
      more_text = sym (flat_map-append line_text (stage_lines s) (l ∷ []) ∙ ap (λ t. text_of (stage_lines s) ++ t) (append-nil (line_text l)))

  -- ---- a line that may not come

  pub record Completed : Type 0 where
    pub events : List Event
    pub end_ : End
    pub more : List Line
    pub form : HasForm events end_
    pub is : lines_of events end_ ≡ stage_lines s ++ more

  completed : Completed
  completed = by_stage s read.valid refl
    where
      by_stage : (z : Stage) → IsStage z → s ≡ z → Completed
      by_stage stage.Nothing v e = record { events = event.Start [] [] ∷ []; end_ = end.Dead; more = lines_of (event.Start [] [] ∷ []) end.Dead; form = ((tt, omega arith), tt); is = ap (λ z. stage_lines z ++ lines_of (event.Start [] [] ∷ []) end.Dead) (sym e) }
      by_stage stage.Headed v e = record { events = event.Start [] [] ∷ []; end_ = end.Dead; more = events_list (event.Start [] [] ∷ []) ++ line.End end.Dead ∷ []; form = ((tt, omega arith), tt); is = ap (λ z. stage_lines z ++ (events_list (event.Start [] [] ∷ []) ++ line.End end.Dead ∷ [])) (sym e) }
      by_stage (stage.Events done last) v e = record { events = done ++ last ∷ []; end_ = some_end last; more = line.End (some_end last) ∷ []; form = v; is = ap (λ z. stage_lines z ++ line.End (some_end last) ∷ []) (sym e) }
      by_stage (stage.Ended events k) v e = record { events = events; end_ = k; more = []; form = v; is = sym (append-nil (lines_of events k)) ∙ ap (λ z. stage_lines z ++ []) (sym e) }

  begun_before : Begins (number - 1) bytes
  begun_before =
      let c = completed in
      let size : number - 1 ≡ length (stage_lines s) + 0 = omega (arith, read.count) in
      let is : trace.text c.events c.end_ ≡ text_of (stage_lines s) ++ text_of c.more = trace_lines c.events c.end_ ∙ (ap text_of c.is ∙ flat_map-append line_text (stage_lines s) c.more) in
      let front : (t : List ℕ) → first_lines (number - 1) (text_of (stage_lines s) ++ t) ≡ text_of (stage_lines s) ++ [] = λ t. lines_front (stage_lines s) t 0 (number - 1) read.lines size ∙ ap (λ u. text_of (stage_lines s) ++ u) (first_none t) in
      record { events = c.events; end_ = c.end_; form = c.form; same = ap (first_lines (number - 1)) is ∙ (front (text_of c.more) ∙ sym (ap (first_lines (number - 1)) read.is ∙ front (drop place bytes))) }

  module _ (stuck : (l : Line) (t : List ℕ) → IsLine l → drop place bytes ≡ line_text l ++ t → step s l ≡ None) (open_ : drop place bytes ≡ [] → (events : List Event) (e : End) → ¬ (s ≡ stage.Ended events e)) where
    none_begins : ¬ Begins number bytes
    none_begins b = by_lines (aligned (stage_lines s) ks (drop place bytes) number read.lines (are_lines b.events b.end_ b.form) read.count front)
      where
        ks : List Line
        ks = lines_of b.events b.end_

        reached : run (Some stage.Nothing) (lines_of b.events b.end_) ≡ Some (stage.Ended b.events b.end_)
        reached = run_all b.events b.end_ b.form

        front : first_lines number (text_of (lines_of b.events b.end_)) ≡ text_of (stage_lines s) ++ first_lines 1 (drop place bytes)
        front = ap (first_lines number) (sym (trace_lines b.events b.end_)) ∙ (b.same ∙ (ap (first_lines number) read.is ∙ lines_front (stage_lines s) (drop place bytes) 1 number read.lines read.count))

        by_lines : ((lines_of b.events b.end_ ≡ stage_lines s) × (drop place bytes ≡ [])) ⊎ Next (stage_lines s) (lines_of b.events b.end_) (drop place bytes) → ⊥
        by_lines (inl same) = open_ same.1 b.events b.end_ (same_Some s (stage.Ended b.events b.end_) (sym read.leads ∙ (ap (run (Some stage.Nothing)) (sym same.0) ∙ reached)))
        by_lines (inr n) = none-some (stage.Ended b.events b.end_) (sym (ap (run (Some stage.Nothing)) n.is ∙ (run_append (Some stage.Nothing) (stage_lines s) (n.next ∷ n.more) ∙ (ap (λ o. run o (n.next ∷ n.more)) read.leads ∙ (ap (λ o. run o n.more) (stuck n.next n.behind n.form n.stands) ∙ run_none n.more)))) ∙ reached)

    pub bad_line : IsBadLine bytes number
    bad_line = record { before = begun_before; bad = none_begins }

  pub next_read : (r : Stage × ℕ) → IsNext bytes place s (Ok r) → IsReadTo bytes r.1 (number + 1) r.0
  next_read r n = one_more n.0 r.1 r.0 n.1 n.2

  pub next_goes : (r : Stage × ℕ) → IsNext bytes place s (Ok r) → place < r.1
  next_goes r n = n.1.goes

  -- no line that may come stands here
  pub stuck_line : place < length bytes → (e : Missing) → e ≡ missing.Absent → IsNext bytes place s (Err e) → IsBadLine bytes number
  stuck_line lt e is stuck = bad_line (subst (λ m. IsNext bytes place s (Err m)) is stuck) (λ none. absurd (omega (arith, length-drop place bytes, ap length none)))

  -- ---- the end of the text

  no_rest : length bytes ≤ place → drop place bytes ≡ []
  no_rest le = drop_all place bytes le

  missing_line : length bytes ≤ place → ((events : List Event) (e : End) → ¬ (s ≡ stage.Ended events e)) → IsBadLine bytes number
  missing_line le not = bad_line (λ l t form e. absurd (some_text l t form (sym (sym (no_rest le) ∙ e)))) (λ e. not)

  whole : length bytes ≤ place → (events : List Event) (e : End) → s ≡ stage.Ended events e → IsTrace bytes events e
  whole le events e is = record {
    form = subst IsStage is read.valid;
    is = trace_lines events e ∙ (ap (λ z. text_of (stage_lines z)) (sym is) ∙ (sym (append-nil (text_of (stage_lines s))) ∙ (ap (λ t. text_of (stage_lines s) ++ t) (sym (no_rest le)) ∙ sym read.is)));
  }

  pub told : length bytes ≤ place → (r : Result (Run × End) TraceError) → IsTold s number r → IsAnswer bytes r
  told le r t = by_stage s refl r t
    where
      by_stage : (z : Stage) → s ≡ z → (r : Result (Run × End) TraceError) → IsTold z number r → IsAnswer bytes r
      by_stage (stage.Ended events e) is (Ok x) t' =
          let w = whole le events e is in
          record { form = subst (λ es. HasForm es x.1) (sym t'.0) (subst (HasForm events) (sym t'.1) w.form); is = ap (λ es. trace.text es x.1) t'.0 ∙ (ap (trace.text events) t'.1 ∙ w.is) }
      by_stage (stage.Ended events e) is (Err x) t' = absurd t'
      by_stage stage.Nothing is (Ok x) t' = absurd t'
      by_stage stage.Nothing is (Err x) t' = subst (IsRefused bytes) (sym t') (missing_line le (λ events e k. let h : stage.Nothing ≡ stage.Ended events e = sym is ∙ k in cc))
      by_stage stage.Headed is (Ok x) t' = absurd t'
      by_stage stage.Headed is (Err x) t' = subst (IsRefused bytes) (sym t') (missing_line le (λ events e k. let h : stage.Headed ≡ stage.Ended events e = sym is ∙ k in cc))
      by_stage (stage.Events done last) is (Ok x) t' = absurd t'
      by_stage (stage.Events done last) is (Err x) t' = subst (IsRefused bytes) (sym t') (missing_line le (λ events e k. let h : stage.Events done last ≡ stage.Ended events e = sym is ∙ k in cc))

-- ---- one reading

decode : (ls ks : List Line) → AllByRecursion IsLine ls → AllByRecursion IsLine ks → text_of ls ≡ text_of ks → ls ≡ ks
decode [] [] here there e = refl
decode [] (k ∷ ks) here there e = absurd (some_text k (text_of ks) there.0 (sym e))
decode (l ∷ ls) [] here there e = absurd (some_text l (text_of ls) here.0 e)
decode (l ∷ ls) (k ∷ ks) here there e =
    let o = lines_apart l k (text_of ls) (text_of ks) here.0 there.0 tt tt e in
    let first : ◌≡◌ {A = List Line} (l ∷ ls) (k ∷ ls) = ap (λ z. z ∷ ls) o.0 in
    let second : ◌≡◌ {A = List Line} (k ∷ ls) (k ∷ ks) = ap (λ zs. k ∷ zs) (decode ls ks here.1 there.1 o.1) in
    first ∙ second

pub one_run : (bytes : List ℕ) (events others : List Event) (end_ other : End) → IsTrace bytes events end_ → IsTrace bytes others other → (events ≡ others) × (end_ ≡ other)
one_run bytes events others end_ other here there =
    let same : lines_of events end_ ≡ lines_of others other = decode (lines_of events end_) (lines_of others other) (are_lines events end_ here.form) (are_lines others other there.form) (sym (trace_lines events end_) ∙ (here.is ∙ (sym there.is ∙ trace_lines others other))) in
    let ends : Some (stage.Ended events end_) ≡ Some (stage.Ended others other) = sym (run_all events end_ here.form) ∙ (ap (run (Some stage.Nothing)) same ∙ run_all others other there.form) in
    (cc, cc)

trace_begins : (bytes : List ℕ) (events : List Event) (end_ : End) (n : ℕ) → IsTrace bytes events end_ → Begins n bytes
trace_begins bytes events end_ n here = record { events = events; end_ = end_; form = here.form; same = ap (first_lines n) here.is }

pub no_trace_is_bad : (bytes : List ℕ) (events : List Event) (end_ : End) (line : ℕ) → IsTrace bytes events end_ → IsBadLine bytes line → ⊥
no_trace_is_bad bytes events end_ line here bad = bad.bad (trace_begins bytes events end_ line here)

pub one_bad_line : (bytes : List ℕ) (line other : ℕ) → IsBadLine bytes line → IsBadLine bytes other → line ≡ other
one_bad_line bytes line other here there = by_order (cases_lt line other) (cases_lt other line)
  where
    less : (a b : ℕ) → a < b → IsBadLine bytes a → IsBadLine bytes b → ⊥
    less a b lt x y = x.bad (begins_less bytes a (b - 1) (omega arith) y.before)

    by_order : (line < other) ⊎ (other ≤ line) → (other < line) ⊎ (line ≤ other) → line ≡ other
    by_order (inl lt) k = absurd (less line other lt here there)
    by_order (inr le) (inl lt) = absurd (less other line lt there here)
    by_order (inr le) (inr le') = omega arith

-- ---- the clauses of an answer

pub answer_trace : (bytes : List ℕ) (r : Result (Run × End) TraceError) → IsAnswer bytes r → (events : List Event) (end_ : End) → IsTrace bytes events end_ → Gives events end_ r
answer_trace bytes (Ok x) a events end_ here = one_run bytes x.0.events events x.1 end_ a here
answer_trace bytes (Err (error.BadTrace line)) a events end_ here = no_trace_is_bad bytes events end_ line here a
answer_trace bytes (Err error.Memory) a events end_ here = tt

pub answer_line : (bytes : List ℕ) (r : Result (Run × End) TraceError) → IsAnswer bytes r → (line : ℕ) → IsBadLine bytes line → Refuses line r
answer_line bytes (Ok x) a line bad = no_trace_is_bad bytes x.0.events x.1 line a bad
answer_line bytes (Err (error.BadTrace n)) a line bad = one_bad_line bytes n line a bad
answer_line bytes (Err error.Memory) a line bad = tt
