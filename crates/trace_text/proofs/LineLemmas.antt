-- A text begins with one line at most.
use Rattle.std.proofs.Common.{◌≡◌, ℕ, ◌+◌, ◌*◌, ◌<◌, Bool, true, false, if◌then◌else◌, List, [], ◌∷◌, ◌++◌, length, drop, ap, ◌∙◌, sym, refl, arith, append_assoc, Err}
use Rattle.std.specs.Prelude.{codes, ◌==◌}
use Rattle.std.specs.Fmt.{decimal}
use Rattle.std.specs.List.{AllByRecursion}
use Rattle.std.proofs.lemmas.List.{append_cancel_left}
use Rattle.pascal_values.specs.declared.fault.Fault as fault
use Rattle.pascal_values.specs.declared.value.Value.{Value}
use Rattle.pascal_values.specs.Steps as steps
use Rattle.pascal_values.specs.Texts.{IsReadable}
use Rattle.estelle_tree.specs.declared.transition.Pair.{Pair}
use Rattle.estelle_tree.specs.Paths.{Path}
use Rattle.estelle_model.specs.declared.effect.Out.{Out}
use Rattle.estelle_model.specs.declared.event.Event.TheVariants as event
use Rattle.estelle_model.specs.declared.event.End.{End}
use Rattle.estelle_model.specs.declared.event.End.TheVariants as end
use Rattle.estelle_model.specs.Trace.{path_text, out_text, fate_text, kind_text, event_lines, end_line, line_end}
use Rattle.trace_text.specs.declared.error.Missing.{Missing}
use Rattle.trace_text.specs.declared.line.Line.{Line}
use Rattle.trace_text.specs.declared.line.Line.TheVariants as line
use Rattle.trace_text.specs.Forms.{IsNumber, IsPath, IsName, AreTakes}
use Rattle.trace_text.specs.Fields.{Any, Anything, Stands, IsReading, closed, both, Both, pair_with, IsPairFrom, moment_text, takes_line, name_text, values_line}
use Rattle.trace_text.specs.Lines.{line_text, IsLine}
use Rattle.trace_text.proofs.FieldLemmas.{Unique, missing}
use Rattle.trace_text.proofs.LineFields as fields

-- ---- which line it is

abbrev pub third : List ℕ → ℕ
third (a ∷ (b ∷ (c ∷ t))) = c
third _ = 0

-- a number by which the first bytes of lines tell them apart
abbrev pub which : List ℕ → ℕ
which (a ∷ (b ∷ t)) = if b == 110 then third t else (if a == 108 then 28533 else a * 256 + b)
which _ = 0

abbrev pub tag : Line → ℕ
tag line.Head = 25971
tag (line.Event (event.Start outs drops)) = 29556
tag (line.Event (event.Select system now takes)) = 29541
tag (line.Event (event.Fire m n outs drops)) = 26217
tag (line.Event (event.Fault m n kind)) = 26209
tag (line.Out o) = 28533
tag (line.Drop n) = 25714
tag (line.End end.Dead) = 100
tag (line.End end.Turns) = 116
tag (line.End end.Clock) = 99
tag (line.End (end.Faulted kind)) = 102

which_out : (lost : Bool) (t : List ℕ) → which (fate_text lost ++ t) ≡ 28533
which_out true t = refl
which_out false t = refl

which_is : (l : Line) (t : List ℕ) → which (line_text l ++ t) ≡ tag l
unfolding event_lines end_line
which_is line.Head t = refl
which_is (line.Event (event.Start outs drops)) t = refl
which_is (line.Event (event.Select system now takes)) t = refl
which_is (line.Event (event.Fire m n outs drops)) t = refl
which_is (line.Event (event.Fault m n kind)) t = refl
which_is (line.Out o) t = ap which (append_assoc (fate_text o.lost) (out_text o ++ line_end) t) ∙ which_out o.lost ((out_text o ++ line_end) ++ t)
which_is (line.Drop n) t = refl
which_is (line.End end.Dead) t = refl
which_is (line.End end.Turns) t = refl
which_is (line.End end.Clock) t = refl
which_is (line.End (end.Faulted kind)) t = refl

-- which line it is, with what it has
pub data Kind : Line → Type 0 where
  of_head : Kind line.Head
  of_start : (outs : List Out) (drops : List ℕ) → Kind (line.Event (event.Start outs drops))
  of_select : (system : Path) (now : ℕ) (takes : List Pair) → Kind (line.Event (event.Select system now takes))
  of_fire : (m : Path) (n : ℕ) (outs : List Out) (drops : List ℕ) → Kind (line.Event (event.Fire m n outs drops))
  of_fault : (m : Path) (n : ℕ) (kind : fault.Fault) → Kind (line.Event (event.Fault m n kind))
  of_out : (o : Out) → Kind (line.Out o)
  of_drop : (n : ℕ) → Kind (line.Drop n)
  of_dead : Kind (line.End end.Dead)
  of_turns : Kind (line.End end.Turns)
  of_clock : Kind (line.End end.Clock)
  of_faulted : (kind : fault.Fault) → Kind (line.End (end.Faulted kind))

kind_of : (l : Line) → Kind l
kind_of line.Head = of_head
kind_of (line.Event (event.Start outs drops)) = of_start outs drops
kind_of (line.Event (event.Select system now takes)) = of_select system now takes
kind_of (line.Event (event.Fire m n outs drops)) = of_fire m n outs drops
kind_of (line.Event (event.Fault m n kind)) = of_fault m n kind
kind_of (line.Out o) = of_out o
kind_of (line.Drop n) = of_drop n
kind_of (line.End end.Dead) = of_dead
kind_of (line.End end.Turns) = of_turns
kind_of (line.End end.Clock) = of_clock
kind_of (line.End (end.Faulted kind)) = of_faulted kind

-- ---- lines of one kind: a word, and a field behind it

pub record Found {Z : Type 0} (G : Z → Type 0) (make : Z → Line) (l : Line) : Type 0 where
  pub parts : Z
  pub form : G parts
  pub is : l ≡ make parts

-- each line that begins with the word is of this kind
abbrev pub Finds : {Z : Type 0} → List ℕ → (Z → Type 0) → (Z → Line) → Type 0
Finds word G make = (l : Line) (s t : List ℕ) → IsLine l → line_text l ++ s ≡ word ++ t → Found G make l

module _ {Z : Type 0} (word : List ℕ) (g : Z → List ℕ) (G : Z → Type 0) (make : Z → Line) (is : (z : Z) → line_text (make z) ≡ word ++ g z) (finds : Finds word G make) where
  split : (z : Z) (t : List ℕ) → line_text (make z) ++ t ≡ word ++ (g z ++ t)
  split z t = ap (λ u. u ++ t) (is z) ∙ append_assoc word (g z) t

  kind_apart : Unique g G Any → (z : Z) (l : Line) (s t : List ℕ) → G z → IsLine l → line_text (make z) ++ s ≡ line_text l ++ t → (make z ≡ l) × (s ≡ t)
  kind_apart one z l s t form is_line e =
      let f = finds l t (g z ++ s) is_line (sym e ∙ split z s) in
      let h : g z ++ s ≡ g f.parts ++ t = append_cancel_left word (g z ++ s) (g f.parts ++ t) (sym (split z s) ∙ (e ∙ (ap (λ k. line_text k ++ t) f.is ∙ split f.parts t))) in
      let o = one z f.parts s t form f.form tt tt h in
      (ap make o.0 ∙ sym f.is, o.1)

  module _ (bytes : List ℕ) (at_ mid : ℕ) (here : steps.StandsWord bytes at_ word) (mid_is : mid ≡ at_ + length word) where
    at_mid : drop at_ bytes ≡ word ++ drop mid bytes
    at_mid = here.is ∙ ap (λ i. word ++ drop i bytes) (sym mid_is)

    pub line_missing : (e : Missing) → IsReading g G Any bytes mid (Err e) → IsReading line_text IsLine Any bytes at_ (Err e)
    line_missing e = missing g G Any line_text IsLine Any bytes mid at_ e (λ l t form stop k.
        let f = finds l t (drop mid bytes) form (sym k ∙ at_mid) in
        (f.parts, t, f.form, tt, append_cancel_left word (drop mid bytes) (g f.parts ++ t) (sym at_mid ∙ (k ∙ (ap (λ z. line_text z ++ t) f.is ∙ split f.parts t)))))

    pub line_stands : (z : Z) (end_ : ℕ) → IsLine (make z) → Stands g G Any bytes mid z end_ → Stands line_text IsLine Any bytes at_ (make z) end_
    line_stands z end_ form next = record {
      form = form;
      goes = omega (arith, next.goes);
      within = next.within;
      is = at_mid ∙ (ap (λ t. word ++ t) next.is ∙ sym (split z (drop end_ bytes)));
      ends = tt;
    }

-- a line that is one word
pub fixed_stands : (word : List ℕ) (l : Line) → line_text l ≡ word → IsLine l → 0 < length word → (bytes : List ℕ) (at_ end_ : ℕ) → end_ ≡ at_ + length word → steps.StandsWord bytes at_ word → Stands line_text IsLine Any bytes at_ l end_
fixed_stands word l is form some bytes at_ end_ end_is here = record {
  form = form;
  goes = omega arith;
  within = omega (arith, here.within);
  is = here.is ∙ (ap (λ i. word ++ drop i bytes) (sym end_is) ∙ ap (λ w. w ++ drop end_ bytes) (sym is));
  ends = tt;
}

-- ---- the kinds

abbrev pub nothing : Unit {0} → List ℕ
nothing u = []

abbrev pub Nothing : Unit {0} → Type 0
Nothing u = Unit {0}

nothing_unique : Unique nothing Nothing Any
nothing_unique u v s t here there ends stop e = (refl, e)

by_tag : (l : Line) (s t : List ℕ) (n : ℕ) → line_text l ++ s ≡ t → which t ≡ n → tag l ≡ n
by_tag l s t n e w = sym (which_is l s) ∙ (ap which e ∙ w)

-- the first line
abbrev pub make_head : Unit {0} → Line
make_head u = line.Head

head_found : {l : Line} → Kind l → IsLine l → tag l ≡ 25971 → Found Nothing make_head l
head_found of_head form e = record { parts = tt; form = tt; is = refl }
head_found other form e = absurd (omega arith)

pub head_is : (u : Unit {0}) → line_text (make_head u) ≡ codes "estelle trace 1\n" ++ nothing u
head_is u = refl

pub head_finds : Finds (codes "estelle trace 1\n") Nothing make_head
head_finds l s t form e = head_found (kind_of l) form (by_tag l s (codes "estelle trace 1\n" ++ t) 25971 e refl)

-- the start
abbrev pub make_start : Unit {0} → Line
make_start u = line.Event (event.Start [] [])

start_found : {l : Line} → Kind l → IsLine l → tag l ≡ 29556 → Found Nothing make_start l
start_found (of_start outs drops) form e =
    let one : ◌≡◌ {A = Line} (line.Event (event.Start outs drops)) (line.Event (event.Start [] drops)) = ap (λ z. line.Event (event.Start z drops)) form.0 in
    let two : ◌≡◌ {A = Line} (line.Event (event.Start [] drops)) (line.Event (event.Start [] [])) = ap (λ z. line.Event (event.Start [] z)) form.1 in
    record { parts = tt; form = tt; is = one ∙ two }
start_found other form e = absurd (omega arith)

pub start_is : (u : Unit {0}) → line_text (make_start u) ≡ codes "start\n" ++ nothing u
unfolding event_lines
start_is u = refl

pub start_finds : Finds (codes "start\n") Nothing make_start
start_finds l s t form e = start_found (kind_of l) form (by_tag l s (codes "start\n" ++ t) 29556 e refl)

-- selections
abbrev pub make_select : Path × (ℕ × List Pair) → Line
make_select z = line.Event (event.Select z.0 z.1.0 z.1.1)

abbrev pub IsSelect : Path × (ℕ × List Pair) → Type 0
IsSelect = Both IsPath (Both IsNumber AreTakes)

select_found : {l : Line} → Kind l → IsLine l → tag l ≡ 29541 → Found IsSelect make_select l
select_found (of_select system now takes) form e = record { parts = (system, (now, takes)); form = (form.0, (form.1, form.2)); is = refl }
select_found other form e = absurd (omega arith)

pub select_is : (z : Path × (ℕ × List Pair)) → line_text (make_select z) ≡ codes "select " ++ both path_text (both moment_text takes_line) z
unfolding event_lines
select_is z = ap (λ u. codes "select " ++ (path_text z.0 ++ (codes " now " ++ u))) (sym (append_assoc (decimal z.1.0) (codes " takes ") (takes_line z.1.1)))

pub select_finds : Finds (codes "select ") IsSelect make_select
select_finds l s t form e = select_found (kind_of l) form (by_tag l s (codes "select " ++ t) 29541 e refl)

-- firings
abbrev pub make_fire : Pair → Line
make_fire p = line.Event (event.Fire p.path p.trans [] [])

fire_found : {l : Line} → Kind l → IsLine l → tag l ≡ 26217 → Found (IsPairFrom 1) make_fire l
fire_found (of_fire m n outs drops) form e =
    let one : ◌≡◌ {A = Line} (line.Event (event.Fire m n outs drops)) (line.Event (event.Fire m n [] drops)) = ap (λ z. line.Event (event.Fire m n z drops)) form.2 in
    let two : ◌≡◌ {A = Line} (line.Event (event.Fire m n [] drops)) (line.Event (event.Fire m n [] [])) = ap (λ z. line.Event (event.Fire m n [] z)) form.3 in
    record { parts = record { path = m; trans = n }; form = (form.0, form.1); is = one ∙ two }
fire_found other form e = absurd (omega arith)

pub fire_is : (p : Pair) → line_text (make_fire p) ≡ codes "fire " ++ closed 10 (pair_with 32) p
unfolding event_lines
fire_is p = ap (λ u. codes "fire " ++ u) (sym (append_assoc (path_text p.path) (32 ∷ decimal p.trans) (10 ∷ [])))

pub fire_finds : Finds (codes "fire ") (IsPairFrom 1) make_fire
fire_finds l s t form e = fire_found (kind_of l) form (by_tag l s (codes "fire " ++ t) 26217 e refl)

-- faults
abbrev pub make_fault : Pair × fault.Fault → Line
make_fault z = line.Event (event.Fault z.0.path z.0.trans z.1)

abbrev pub IsFaultLine : Pair × fault.Fault → Type 0
IsFaultLine = Both (IsPairFrom 0) Anything

fault_found : {l : Line} → Kind l → IsLine l → tag l ≡ 26209 → Found IsFaultLine make_fault l
fault_found (of_fault m n kind) form e = record { parts = (record { path = m; trans = n }, kind); form = ((form.0, form.1), tt); is = refl }
fault_found other form e = absurd (omega arith)

pub fault_is : (z : Pair × fault.Fault) → line_text (make_fault z) ≡ codes "fault " ++ both (closed 32 (pair_with 32)) (closed 10 kind_text) z
unfolding event_lines
fault_is z = ap (λ u. codes "fault " ++ u) (sym (append_assoc (pair_with 32 z.0) (32 ∷ []) (closed 10 kind_text z.1) ∙ append_assoc (path_text z.0.path) (32 ∷ decimal z.0.trans) (32 ∷ closed 10 kind_text z.1)))

pub fault_finds : Finds (codes "fault ") IsFaultLine make_fault
fault_finds l s t form e = fault_found (kind_of l) form (by_tag l s (codes "fault " ++ t) 26209 e refl)

-- outputs
abbrev pub OutParts : Type 0
OutParts = (Path × List ℕ) × (List ℕ × List Value)

abbrev pub out_of : Bool → OutParts → Out
out_of lost z = record { path = z.0.0; ip = z.0.1; name = z.1.0; values = z.1.1; lost = lost }

abbrev pub make_out : Bool → OutParts → Line
make_out lost z = line.Out (out_of lost z)

abbrev pub AreOutParts : OutParts → Type 0
AreOutParts = Both (Both IsPath IsName) (Both IsName (AllByRecursion IsReadable))

same_fate : (a b : Bool) (s t : List ℕ) → fate_text a ++ s ≡ fate_text b ++ t → a ≡ b
same_fate true true s t e = refl
same_fate false false s t e = refl
same_fate true false s t e = absurd (apart (codes "ost " ++ s) (codes "ut " ++ t) e)
  where
    apart : (u v : List ℕ) → 108 ∷ u ≡ 111 ∷ v → ⊥
    apart u v k = let h : ◌≡◌ {A = ℕ} 108 111 = cc in omega arith
same_fate false true s t e = absurd (apart (codes "ut " ++ s) (codes "ost " ++ t) e)
  where
    apart : (u v : List ℕ) → 111 ∷ u ≡ 108 ∷ v → ⊥
    apart u v k = let h : ◌≡◌ {A = ℕ} 111 108 = cc in omega arith

out_found : (lost : Bool) {l : Line} (s t : List ℕ) → Kind l → IsLine l → tag l ≡ 28533 → line_text l ++ s ≡ fate_text lost ++ t → Found AreOutParts (make_out lost) l
out_found lost s t (of_out o) form e k =
    let same = same_fate o.lost lost ((out_text o ++ line_end) ++ s) t (sym (append_assoc (fate_text o.lost) (out_text o ++ line_end) s) ∙ k) in
    record {
      parts = ((o.path, o.ip), (o.name, o.values));
      form = ((form.path, form.ip), (form.name, form.values));
      is = ap (λ b. line.Out (record { path = o.path; ip = o.ip; name = o.name; values = o.values; lost = b })) same;
    }
out_found lost s t other form e k = absurd (omega arith)

pub out_is : (lost : Bool) (z : OutParts) → line_text (make_out lost z) ≡ fate_text lost ++ both (both (closed 46 path_text) (closed 32 name_text)) (both name_text values_line) z
unfolding out_text
out_is lost z = simp append_assoc

pub out_finds : (lost : Bool) → Finds (fate_text lost) AreOutParts (make_out lost)
out_finds lost l s t form e = out_found lost s t (kind_of l) form (by_tag l s (fate_text lost ++ t) 28533 e (which_out lost t)) e

-- drops
abbrev pub make_drop : ℕ → Line
make_drop n = line.Drop n

drop_found : {l : Line} → Kind l → IsLine l → tag l ≡ 25714 → Found IsNumber make_drop l
drop_found (of_drop n) form e = record { parts = n; form = form; is = refl }
drop_found other form e = absurd (omega arith)

pub drop_is : (n : ℕ) → line_text (make_drop n) ≡ codes "drop " ++ closed 10 decimal n
drop_is n = refl

pub drop_finds : Finds (codes "drop ") IsNumber make_drop
drop_finds l s t form e = drop_found (kind_of l) form (by_tag l s (codes "drop " ++ t) 25714 e refl)

-- ends
abbrev pub make_end : End → Unit {0} → Line
make_end e u = line.End e

abbrev pub make_faulted : fault.Fault → Line
make_faulted kind = line.End (end.Faulted kind)

dead_found : {l : Line} → Kind l → IsLine l → tag l ≡ 100 → Found Nothing (make_end end.Dead) l
dead_found of_dead form e = record { parts = tt; form = tt; is = refl }
dead_found other form e = absurd (omega arith)

turns_found : {l : Line} → Kind l → IsLine l → tag l ≡ 116 → Found Nothing (make_end end.Turns) l
turns_found of_turns form e = record { parts = tt; form = tt; is = refl }
turns_found other form e = absurd (omega arith)

clock_found : {l : Line} → Kind l → IsLine l → tag l ≡ 99 → Found Nothing (make_end end.Clock) l
clock_found of_clock form e = record { parts = tt; form = tt; is = refl }
clock_found other form e = absurd (omega arith)

faulted_found : {l : Line} → Kind l → IsLine l → tag l ≡ 102 → Found Anything make_faulted l
faulted_found (of_faulted kind) form e = record { parts = kind; form = tt; is = refl }
faulted_found other form e = absurd (omega arith)

pub dead_is : (u : Unit {0}) → line_text (make_end end.Dead u) ≡ codes "end deadlock\n" ++ nothing u
unfolding end_line
dead_is u = refl

pub turns_is : (u : Unit {0}) → line_text (make_end end.Turns u) ≡ codes "end turns\n" ++ nothing u
unfolding end_line
turns_is u = refl

pub clock_is : (u : Unit {0}) → line_text (make_end end.Clock u) ≡ codes "end clock\n" ++ nothing u
unfolding end_line
clock_is u = refl

pub faulted_is : (kind : fault.Fault) → line_text (make_faulted kind) ≡ codes "end fault " ++ closed 10 kind_text kind
unfolding end_line
faulted_is kind = refl

pub dead_finds : Finds (codes "end deadlock\n") Nothing (make_end end.Dead)
dead_finds l s t form e = dead_found (kind_of l) form (by_tag l s (codes "end deadlock\n" ++ t) 100 e refl)

pub turns_finds : Finds (codes "end turns\n") Nothing (make_end end.Turns)
turns_finds l s t form e = turns_found (kind_of l) form (by_tag l s (codes "end turns\n" ++ t) 116 e refl)

pub clock_finds : Finds (codes "end clock\n") Nothing (make_end end.Clock)
clock_finds l s t form e = clock_found (kind_of l) form (by_tag l s (codes "end clock\n" ++ t) 99 e refl)

pub faulted_finds : Finds (codes "end fault ") Anything make_faulted
faulted_finds l s t form e = faulted_found (kind_of l) form (by_tag l s (codes "end fault " ++ t) 102 e refl)

-- ---- all lines

lines_apart_by : (k l : Line) (s t : List ℕ) → IsLine k → IsLine l → line_text k ++ s ≡ line_text l ++ t → (k ≡ l) × (s ≡ t)
lines_apart_by line.Head l s t here there e = kind_apart (codes "estelle trace 1\n") nothing Nothing make_head head_is head_finds nothing_unique tt l s t tt there e
lines_apart_by (line.Event (event.Start outs drops)) l s t here there e =
    let f = start_found (of_start outs drops) here refl in
    let a = kind_apart (codes "start\n") nothing Nothing make_start start_is start_finds nothing_unique tt l s t tt there (ap (λ z. line_text z ++ s) (sym f.is) ∙ e) in
    (f.is ∙ a.0, a.1)
lines_apart_by (line.Event (event.Select system now takes)) l s t here there e =
    kind_apart (codes "select ") (both path_text (both moment_text takes_line)) IsSelect make_select select_is select_finds fields.selects_unique (system, (now, takes)) l s t (here.0, (here.1, here.2)) there e
lines_apart_by (line.Event (event.Fire m n outs drops)) l s t here there e =
    let f = fire_found (of_fire m n outs drops) here refl in
    let a = kind_apart (codes "fire ") (closed 10 (pair_with 32)) (IsPairFrom 1) make_fire fire_is fire_finds (fields.closed_pairs_unique 1 10 refl) f.parts l s t f.form there (ap (λ z. line_text z ++ s) (sym f.is) ∙ e) in
    (f.is ∙ a.0, a.1)
lines_apart_by (line.Event (event.Fault m n kind)) l s t here there e =
    kind_apart (codes "fault ") (both (closed 32 (pair_with 32)) (closed 10 kind_text)) IsFaultLine make_fault fault_is fault_finds fields.faults_unique (record { path = m; trans = n }, kind) l s t ((here.0, here.1), tt) there e
lines_apart_by (line.Out o) l s t here there e =
    kind_apart (fate_text o.lost) (both (both (closed 46 path_text) (closed 32 name_text)) (both name_text values_line)) AreOutParts (make_out o.lost) (out_is o.lost) (out_finds o.lost) fields.outs_unique ((o.path, o.ip), (o.name, o.values)) l s t ((here.path, here.ip), (here.name, here.values)) there e
lines_apart_by (line.Drop n) l s t here there e = kind_apart (codes "drop ") (closed 10 decimal) IsNumber make_drop drop_is drop_finds fields.closed_numbers_unique n l s t here there e
lines_apart_by (line.End end.Dead) l s t here there e = kind_apart (codes "end deadlock\n") nothing Nothing (make_end end.Dead) dead_is dead_finds nothing_unique tt l s t tt there e
lines_apart_by (line.End end.Turns) l s t here there e = kind_apart (codes "end turns\n") nothing Nothing (make_end end.Turns) turns_is turns_finds nothing_unique tt l s t tt there e
lines_apart_by (line.End end.Clock) l s t here there e = kind_apart (codes "end clock\n") nothing Nothing (make_end end.Clock) clock_is clock_finds nothing_unique tt l s t tt there e
lines_apart_by (line.End (end.Faulted kind)) l s t here there e = kind_apart (codes "end fault ") (closed 10 kind_text) Anything make_faulted faulted_is faulted_finds fields.closed_kinds_unique kind l s t tt there e

pub lines_apart : Unique line_text IsLine Any
lines_apart k l s t here there ends stop e = lines_apart_by k l s t here there e
