-- Units: how one is entered, runs and ends.
use Rattle.std.proofs.Common.{◌≡◌, ◌∙◌, refl, sym, ap, ap₂, subst, ℕ, zero, suc, ◌+◌, ◌-◌, ◌≤◌, Bool, true, false, cond, List, [], ◌∷◌, ◌++◌, length, map, take, append-nil, length-append, Result, Ok, Err, Option, Some, None, arith}
use Rattle.std.proofs.lemmas.Bool.{le-ltb, lt-ltb}
use Rattle.std.proofs.lemmas.List.{length-map}
use Rattle.std.specs.Prelude.{IsTrue, nat_lt, slice_get, slice_index_or}
use Rattle.pascal_values.specs.declared.fault.Fault.TheVariants.{CallDepth}
use Rattle.pascal_values.specs.declared.value.Value.{Value}
use Rattle.pascal_values.specs.declared.value.Value.TheVariants as pascal
use Rattle.pascal_values.specs.Shapes.{blank_of}
use Rattle.pascal_values.specs.Values.{into, parts_of, part_of}
use Rattle.estelle_tree.specs.Paths.{Path}
use Rattle.body_code.specs.declared.instr.Instr.{Instr}
use Rattle.body_code.specs.declared.instr.Instr.TheVariants as op
use Rattle.body_code.specs.declared.unit.CodeUnit.{CodeUnit}
use Rattle.estelle_model.specs.declared.denoter.Denoter.{Denoter}
use Rattle.estelle_model.specs.Stops.{Stop, Faults}
use Rattle.estelle_model.specs.States.{Logged, on_log}
use Rattle.estelle_model.specs.Steps.{Running, StepResult, Step, Do, and_then, ◌>>=◌, ◌>>◌, pure, fail, checked_at, spend}
use Rattle.estelle_model.specs.declared.meaning.Routine.{Routine}
use Rattle.estelle_model.specs.declared.place.Place.{Place}
use Rattle.estelle_model.specs.declared.place.Place.TheVariants.{In}
use Rattle.estelle_model.specs.Meant.{value_types, result_number}
use Rattle.estelle_model.specs.Places.{set_value, load}
use Rattle.estelle_model.specs.Statements.{Acts}
use Rattle.estelle_model.specs.Statements as meaning
use Rattle.estelle_model.specs.Calls.{Enters, call_by, last_or, enter as enter_frame, leave, frame_of, max_depth, within as runs_within, nested}
use Rattle.estelle_model.proofs.LoopLaws.{AtMost}
use Rattle.body_machine.specs.declared.item.Item.{Item}
use Rattle.body_machine.specs.declared.activation.Return.{Return}
use Rattle.body_machine.specs.Machine.{Activation, Machine, Next, Goes, Stops}
use Rattle.body_machine.specs.Rows.{row}
use Rattle.body_machine.specs.Frames.{deeper_than, frame_with, push_frame, pop_frame}
use Rattle.body_machine.specs.Steps.{begun, enter, return_to, Comes}
use Rattle.body_compiler_pieces.specs.Pieces.{Piece, one, ◌⨾◌}
use Rattle.body_compiler_pieces.specs.ExpressionCode.{Scope, by_number}
use Rattle.body_compiler_pieces.specs.StatementCode as compiled
use Rattle.body_compiler_pieces.specs.UnitCode.{Known, variable, own_shapes, within, result_code, routine_code, IsUnit}
use Rattle.body_compiler_laws.proofs.Frames.{joined, outline, count_there, IsNamed, length_joined, joined_last, joined_taken, outline_taken, outline_last, length_outline, last_frame, there}
use Rattle.body_compiler_laws.proofs.Does.{Site, machine, full, StandsAt, Leads, Does, comes_then, stands_first, stands_second, step_at, then_does, as_there_does, none_does, mapped_does}
use Rattle.body_compiler_laws.proofs.Single.{datum, spot, no_item, load_does}
use Rattle.body_compiler_laws.proofs.Operands.{IsScope, local_does}
use Rattle.body_compiler_laws.proofs.Arguments.{Given, values_of, places_of, actual, back, result_item}
use Rattle.body_compiler_laws.proofs.Locals.{take_first, values_long, frame_is, frame_count}
use Rattle.body_compiler_laws.proofs.Blind.{framed, reframed, IsBlind, frames_kept, KeepsFrames, spend_blind}

-- as many frames as the depth says, and each with its temporaries
pub record IsPlaced (c : Site) : Type 0 where
  pub deep : length c.counts ≡ suc c.here.frame
  pub others : length c.callers ≡ c.here.frame

-- the unit that waits for another one
abbrev pub waits : Site → (at : ℕ) → List Item → Bool → Activation
waits c at below turned = record { body = c.body; unit = c.unit; here = c.here; address = suc at; stack = below; turned = turned; return = c.return }

-- a unit that another one has entered
abbrev pub inner : Site → (body : ℕ) → CodeUnit → Path → List Place → Return → Activation → (base number count : ℕ) → List Value → Site
inner c body unit path references return waiter base number count own = record {
  subject = c.subject;
  numbers = c.numbers;
  code = c.code;
  body = body;
  unit = unit;
  here = record { path = path; frame = suc c.here.frame; references = references };
  return = return;
  waiting = waiter ∷ c.waiting;
  base = base;
  number = number;
  counts = c.counts ++ Some count ∷ [];
  callers = c.callers ++ own ∷ [];
}

pub inner_placed : (c : Site) (body : ℕ) (unit : CodeUnit) (path : Path) (references : List Place) (return : Return) (waiter : Activation) (base number count : ℕ) (own : List Value) → IsPlaced c → IsPlaced (inner c body unit path references return waiter base number count own)
inner_placed c body unit path references return waiter base number count own h = record {
  deep = let l : length (c.counts ++ Some count ∷ []) ≡ length c.counts + 1 = length-append c.counts (Some count ∷ []) in omega (arith, l, h.deep);
  others = let l : length (c.callers ++ own ∷ []) ≡ length c.callers + 1 = length-append c.callers (own ∷ []) in omega (arith, l, h.others);
}

-- ---- a function's result

-- what a routine's frame gives at its end
abbrev pub result_step : Routine → Step Logged (Option Value)
result_step r = λ s. back r.result (slice_index_or (parts_of (last_or pascal.Unset s.frames)) (result_number r) pascal.Unset) s

-- the same behind the frame
abbrev pub popped : {A : Type 0} → StepResult Logged A → StepResult Logged A
popped (Ok x) = Ok (x.0, pop_frame x.1)
popped (Err e) = Err e

pub leave_back : (r : Routine) (o : StepResult Logged (Unit {0})) → and_then (and_then o (λ done. leave r)) (λ v. back r.result v) ≡ popped (and_then o (λ done. result_step r))
unfolding leave
leave_back r (Err e) = refl
leave_back r (Ok x) = by r.result (slice_index_or (parts_of (last_or pascal.Unset x.1.frames)) (result_number r) pascal.Unset)
  where
    set : (o : Result Value Stop) → and_then (checked_at o (pop_frame x.1)) (λ w. pure (Some w)) ≡ popped (and_then (checked_at o x.1) (λ w. pure (Some w)))
    set (Ok v) = refl
    set (Err e) = refl

    by : (o : Option Denoter) (v : Value) → back o v (pop_frame x.1) ≡ popped (back o v x.1)
    by None v = refl
    by (Some t) v = set (set_value (Some v))

module _ (c : Site) (placed : IsPlaced c) (scope : Scope) (here : IsScope c scope) where
  -- a variable of the innermost frame
  last_variable : (k : ℕ) → IsNamed c.counts (In c.here.frame k []) → (s : Running Logged) → outline s.frames ≡ c.counts
      → into (slice_get s.frames c.here.frame) (λ f. part_of f (k ∷ [])) ≡ Some (slice_index_or (parts_of (last_or pascal.Unset s.frames)) k pascal.Unset)
  last_variable k named s same = ap (λ (o : Option Value). into o (λ f. part_of f (k ∷ []))) last ∙ there (last_or pascal.Unset s.frames) k pascal.Unset (count_there s.frames c.here.frame k (last_or pascal.Unset s.frames) last (subst (λ ns. IsNamed ns (In c.here.frame k [])) (sym same) named))
    where
      last : slice_get s.frames c.here.frame ≡ Some (last_or pascal.Unset s.frames)
      last = last_frame s.frames c.here.frame pascal.Unset (sym (length_outline s.frames) ∙ ap length same ∙ placed.deep)

  -- the code loads it
  pub result_does : (r : Routine) → Does c (result_code scope r r.result) [] (result_step r) result_item
  unfolding load
  result_does r = by r.result
    where
      value : Running Logged → Value
      value s = slice_index_or (parts_of (last_or pascal.Unset s.frames)) (result_number r) pascal.Unset

      place : Place
      place = In c.here.frame (result_number r) []

      found : (t : Denoter) (o : Option ℕ) → scope.local (result_number r) ≡ o → Does c (by_number o (λ i. one (op.Loc i))) [] (pure place) spot → Does c (by_number o (λ i. one (op.Loc i)) ⨾ one op.Load) [] (λ s. back (Some t) (value s) s) result_item
      found t None is h = λ fine. absurd (cc)
      found t (Some i) is h = as_there_does c (one (op.Loc i) ⨾ one op.Load) [] (load Logged on_log place >>= λ w. pure (Some w)) (λ s. back (Some t) (value s) s) result_item
          (λ s same. ap (λ o. and_then (checked_at (set_value o) s) (λ w. pure (Some w))) (last_variable (result_number r) (here.local (result_number r) i is).1 s same))
          (mapped_does c (one (op.Loc i) ⨾ one op.Load) [] (load Logged on_log place) Some result_item (then_does c (one (op.Loc i)) (one op.Load) [] (pure place) (λ p. load Logged on_log p) spot datum h (λ p named. load_does c p named.0)))

      by : (o : Option Denoter) → Does c (result_code scope r o) [] (λ s. back o (value s) s) result_item
      by None = none_does c [] None result_item refl tt
      by (Some t) = found t (scope.local (result_number r)) refl (local_does c scope here (result_number r))

-- ---- a unit from its first instruction to what comes behind its end

module _ (c : Site) where
  -- what is come to where the step comes to this
  abbrev pub AtEnd : Machine → (units : ℕ) → {A : Type 0} → (A → List Item) → StepResult Logged A → Type 0
  AtEnd start units left (Ok y) = ((own : List Value) × Comes c.subject c.numbers c.code (Goes start) (return_to c.subject c.numbers c.code c.return c.waiting (left y.0) (pop_frame (full c own y.1)))) × (outline y.1.frames ≡ c.counts) × (y.1.left ≤ units)
  AtEnd start units left (Err e) = Comes c.subject c.numbers c.code (Goes start) (Stops e.0 e.1)

  pub ends_do : (p : Piece) → c.unit.instrs ≡ p.code c.base 0 ++ op.Ret ∷ [] → IsTrue p.fine → {A : Type 0} (x : Step Logged A) (left : A → List Item) → Does c p [] x left
      → length p.temporaries ≡ c.number → (own : List Value) → length own ≡ c.number → (s : Running Logged) → outline s.frames ≡ c.counts → AtEnd (machine c 0 [] false (full c own s)) s.left left (x s)
  unfolding row
  ends_do p is fine {A} x left h enough own long s same = by (x s) (h fine 0 c.base false own s [] (stands_first c 0 K (op.Ret ∷ []) whole) (omega arith) (omega (arith, long, enough)) same)
    where
      K : List Instr
      K = p.code c.base 0

      start : Machine
      start = machine c 0 [] false (full c own s)

      whole : StandsAt c 0 (K ++ op.Ret ∷ [])
      whole = record { before = []; behind = []; is = is ∙ sym (append-nil (K ++ op.Ret ∷ [])); long = refl }

      by : (o : StepResult Logged A) → Leads c start (0 + length K) c.base own s.left [] left o → AtEnd start s.left left o
      by (Err e) l = l
      by (Ok y) l = (
        (
          l.own,
          comes_then c.subject c.numbers c.code _ _ _ l.comes
              (step_at c (0 + length K) op.Ret [] (left y.0 ++ []) l.turned (full c l.own y.1) _ (stands_second c 0 K (op.Ret ∷ []) whole)
              (ap (λ items. return_to c.subject c.numbers c.code c.return c.waiting items (pop_frame (full c l.own y.1))) (append-nil (left y.0)))),
        ),
        l.same,
        l.fewer,
      )

-- ---- a unit that another one enters

module _ (c : Site) (placed : IsPlaced c) (known : Known) (body : ℕ) (r : Routine) (unit : CodeUnit) (made : IsUnit known body r unit) (path : Path) (a : Given r.parameters) (return : Return) (at : ℕ) (below : List Item) (turned : Bool) (old : List Value) where
  abbrev P : Piece
  P = routine_code known body r

  abbrev base : ℕ
  base = length (made.parameters ++ map variable (own_shapes r))

  abbrev temporaries : List Value
  temporaries = map blank_of P.temporaries

  abbrev given : List Value
  given = values_of r.parameters a

  abbrev waiter : Activation
  waiter = waits c at below turned

  abbrev pub callee : Site
  callee = inner c body unit path (places_of r.parameters a) return waiter base (length P.temporaries) (length (value_types r.parameters) + length (own_shapes r)) old

  abbrev inside : Running Logged → Running Logged
  inside s = framed (s.frames ++ frame_of r given ∷ []) s

  abbrev C : Next → Next → Type 0
  C = Comes c.subject c.numbers c.code

  -- what is come to at its end
  abbrev pub Ended : Next → (units : ℕ) → StepResult Logged (Option Value) → Type 0
  Ended start units (Ok y) = C start (return_to c.subject c.numbers c.code return (waiter ∷ c.waiting) (result_item y.0) (full c old y.1)) × (outline y.1.frames ≡ c.counts) × (y.1.left ≤ units)
  Ended start units (Err e) = C start (Stops e.0 e.1)

  more_units : (start : Next) (units more : ℕ) (o : StepResult Logged (Option Value)) → units ≤ more → Ended start units o → Ended start more o
  more_units start units more (Ok y) l h = (h.0, h.1, omega (arith, l, h.2))
  more_units start units more (Err e) l h = h

  same_inside : (s : Running Logged) → outline s.frames ≡ c.counts → outline (inside s).frames ≡ callee.counts
  same_inside s same = outline_last s.frames (frame_of r given) ∙ ap₂ (λ ns k. ns ++ k ∷ []) same (frame_count r given ∙ ap (λ k. Some (k + length (own_shapes r))) (values_long r.parameters a))

  -- the frame is taken off again
  popped_is : (own : List Value) (q : Running Logged) → outline q.frames ≡ callee.counts → pop_frame (full callee own q) ≡ full c old (pop_frame q)
  popped_is own q same = ap (λ frames. framed frames q)
      (ap (λ n. take n (joined q.frames ((c.callers ++ old ∷ []) ++ own ∷ []))) (let l : length (joined q.frames ((c.callers ++ old ∷ []) ++ own ∷ [])) ≡ length q.frames = length_joined q.frames _ in omega (arith, l, long, callers))
      ∙ joined_taken (length (c.callers ++ old ∷ [])) q.frames (c.callers ++ old ∷ []) own refl
      ∙ ap (λ n. joined (take n q.frames) (c.callers ++ old ∷ [])) (omega (arith, long, callers)))
    where
      long : length q.frames ≡ suc (suc c.here.frame)
      long = let l : length (c.counts ++ Some (length (value_types r.parameters) + length (own_shapes r)) ∷ []) ≡ length c.counts + 1 = length-append c.counts _ in let m : length q.frames ≡ length callee.counts = sym (length_outline q.frames) ∙ ap length same in omega (arith, l, m, placed.deep)

      callers : length (c.callers ++ old ∷ []) ≡ suc c.here.frame
      callers = let l : length (c.callers ++ old ∷ []) ≡ length c.callers + 1 = length-append c.callers _ in omega (arith, l, placed.others)

  same_popped : (q : Running Logged) → outline q.frames ≡ callee.counts → outline (pop_frame q).frames ≡ c.counts
  same_popped q same = outline_taken (length q.frames - 1) q.frames ∙ ap (take (length q.frames - 1)) same
      ∙ ap (λ n. take n callee.counts) (let l : length callee.counts ≡ length c.counts + 1 = length-append c.counts _ in let m : length q.frames ≡ length callee.counts = sym (length_outline q.frames) ∙ ap length same in omega (arith, l, m)) ∙ take_first c.counts _

  -- its statements, its result and its end
  unit_does : (x : Do Logged) → IsScope callee (within known body r) → Does callee (compiled.stmts (within known body r) r.body) [] x no_item → (s : Running Logged) → outline s.frames ≡ c.counts
      → Ended (Goes (machine callee 0 [] false (full callee temporaries (inside s)))) s.left (((enter_frame r given >> x >> leave r) >>= λ v. back r.result v) s)
  unit_does x here h s same = subst (Ended (Goes start) s.left) (sym (leave_back r (x (inside s)))) (by ((x >>= λ done. result_step r) (inside s))
      (ends_do callee P made.instrs made.fine (x >>= λ done. result_step r) result_item
      (then_does callee (compiled.stmts (within known body r) r.body) (result_code (within known body r) r r.result) [] x (λ done. result_step r) no_item result_item h
      (λ done none. result_does callee (inner_placed c body unit path (places_of r.parameters a) return waiter base _ _ old placed) (within known body r) here r))
      refl temporaries (length-map P.temporaries blank_of) (inside s) (same_inside s same)))
    where
      start : Machine
      start = machine callee 0 [] false (full callee temporaries (inside s))

      by : (o : StepResult Logged (Option Value)) → AtEnd callee start s.left result_item o → Ended (Goes start) s.left (popped o)
      by (Err e) l = l
      by (Ok y) l = (subst (λ q. C (Goes start) (return_to c.subject c.numbers c.code return (waiter ∷ c.waiting) (result_item y.0) q)) (popped_is l.0.0 y.1 l.1) l.0.1, same_popped y.1 l.1, l.2)

  -- ---- the unit of the budget, the depth, what is done before, and the frame

  module _ (act : Enters Logged → Acts Logged) (here : IsScope callee (within known body r)) (before : Do Logged) (blind : IsBlind before) where
    abbrev Nested : ℕ → Enters Logged
    Nested = nested Logged on_log known.meant act

    -- the statements, where so many more calls may be nested
    abbrev pub BodyDoes : ℕ → Type 0
    BodyDoes zero = Unit {0}
    BodyDoes (suc m) = Does callee (compiled.stmts (within known body r) r.body) [] (meaning.stmts Logged on_log known.meant (act (Nested m)) (call_by (Nested m) path) callee.here r.body) no_item

    abbrev framed_with : Value
    framed_with = frame_with unit.locals (length r.parameters) given

    abbrev tested : Bool → Do Logged
    tested b s = cond b (Ok (tt, s)) (Err (Faults CallDepth, s.left))

    abbrev entered : StepResult Logged (Unit {0}) → List Item → Running Logged → Next
    entered o stack q = enter o (begun body unit path (suc c.here.frame) (places_of r.parameters a) return) below (machine c at stack turned q)

    pub enters_do : (n : ℕ) → c.here.frame + n ≡ max_depth → BodyDoes n → (stack : List Item) (q s : Running Logged) → outline s.frames ≡ c.counts
        → Ended (entered ((deeper_than c.here.frame >> before >> push_frame framed_with) (full c old s)) stack q) s.left ((Nested n before path r (actual r.parameters a) >>= λ v. back r.result v) s)
    enters_do n deep does stack q s same =
        subst (λ o. Ended (entered (and_then (and_then (and_then o (λ done. tested (nat_lt c.here.frame max_depth))) (λ done. before)) (λ done. push_frame framed_with)) stack q) s.left ((Nested n before path r (actual r.parameters a) >>= λ v. back r.result v) s))
        (sym (spend_blind.same F s)) (by n deep does)
      where
        F : List Value
        F = joined s.frames (c.callers ++ old ∷ [])

        by : (n : ℕ) → c.here.frame + n ≡ max_depth → BodyDoes n
            → Ended (entered (and_then (and_then (and_then (reframed F (spend s)) (λ done. tested (nat_lt c.here.frame max_depth))) (λ done. before)) (λ done. push_frame framed_with)) stack q) s.left ((Nested n before path r (actual r.parameters a) >>= λ v. back r.result v) s)
        by zero deep does = subst (λ b. Ended (entered (and_then (and_then (and_then (reframed F (spend s)) (λ done. tested b)) (λ done. before)) (λ done. push_frame framed_with)) stack q) s.left (and_then (and_then (spend s) (λ done. fail CallDepth)) (λ v. back r.result v)))
            (sym (le-ltb c.here.frame max_depth (omega (arith, deep)))) (at_end (spend s))
          where
            at_end : (o : StepResult Logged (Unit {0})) → Ended (entered (and_then (and_then (and_then (reframed F o) (λ done. tested false)) (λ done. before)) (λ done. push_frame framed_with)) stack q) s.left (and_then (and_then o (λ done. fail CallDepth)) (λ v. back r.result v))
            at_end (Ok y) = (0, refl)
            at_end (Err e) = (0, refl)
        by (suc m) deep does = subst (λ b. Ended (entered (and_then (and_then (and_then (reframed F (spend s)) (λ done. tested b)) (λ done. before)) (λ done. push_frame framed_with)) stack q) s.left (and_then (and_then (and_then (spend s) (λ done. before)) (λ done. Within)) (λ v. back r.result v)))
            (sym (lt-ltb c.here.frame max_depth (omega (arith, deep)))) (spent (spend s) (frames_kept spend spend_blind s) (spend_blind.fewer s))
          where
            depth : suc c.here.frame ≡ max_depth - m
            depth = omega (arith, deep)

            Within : Step Logged Value
            Within = runs_within Logged on_log known.meant act (Nested m) (max_depth - m) path r (actual r.parameters a)

            X : Do Logged
            X = meaning.stmts Logged on_log known.meant (act (Nested m)) (call_by (Nested m) path) (record { path = path; frame = max_depth - m; references = places_of r.parameters a }) r.body

            frame_entered : (z : Running Logged) → z.frames ≡ s.frames → F ++ framed_with ∷ [] ≡ joined (inside z).frames (callee.callers ++ temporaries ∷ [])
            frame_entered z e = ap (λ ls. F ++ frame_with ls (length r.parameters) given ∷ []) made.locals ∙ ap (λ v. F ++ v ∷ []) (frame_is r made.parameters P.temporaries given made.are)
                ∙ sym (ap (λ G. joined (G ++ frame_of r given ∷ []) (callee.callers ++ temporaries ∷ [])) e ∙ joined_last s.frames (c.callers ++ old ∷ []) (frame_of r given) temporaries
                (let l : length (c.callers ++ old ∷ []) ≡ length c.callers + 1 = length-append c.callers _ in let k : length s.frames ≡ length c.counts = sym (length_outline s.frames) ∙ ap length same in omega (arith, l, k, placed.deep, placed.others)))

            begins : (y z : Running Logged) → z.frames ≡ y.frames → y.frames ≡ s.frames → z.left ≤ y.left → y.left ≤ s.left
                → Ended (entered (push_frame framed_with (framed F z)) stack q) s.left (and_then (Within z) (λ v. back r.result v))
            begins y z e f l k = subst (λ frames. Ended (Goes (record (machine callee 0 [] false (framed frames z)) { waiting = callee.waiting })) s.left (and_then (Within z) (λ v. back r.result v))) (sym (frame_entered z (e ∙ f)))
                (more_units _ z.left s.left (and_then (Within z) (λ v. back r.result v)) (omega (arith, l, k))
                (unit_does X here (subst (λ (d : ℕ). Does callee (compiled.stmts (within known body r) r.body) [] (meaning.stmts Logged on_log known.meant (act (Nested m)) (call_by (Nested m) path) (record { path = path; frame = d; references = places_of r.parameters a }) r.body) no_item) depth does) z (ap outline (e ∙ f) ∙ same)))

            done : (y : Running Logged) → y.frames ≡ s.frames → y.left ≤ s.left → (o : StepResult Logged (Unit {0})) → KeepsFrames y.frames o → AtMost y.left o
                → Ended (entered (and_then (reframed F o) (λ done. push_frame framed_with)) stack q) s.left (and_then (and_then o (λ done. Within)) (λ v. back r.result v))
            done y f k (Err e) kept l = (0, refl)
            done y f k (Ok z) kept l = begins y z.1 kept f l k

            spent : (o : StepResult Logged (Unit {0})) → KeepsFrames s.frames o → AtMost s.left o
                → Ended (entered (and_then (and_then (and_then (reframed F o) (λ done. tested true)) (λ done. before)) (λ done. push_frame framed_with)) stack q) s.left (and_then (and_then (and_then o (λ done. before)) (λ done. Within)) (λ v. back r.result v))
            spent (Err e) kept l = (0, refl)
            spent (Ok y) kept l = subst (λ o. Ended (entered (and_then o (λ done. push_frame framed_with)) stack q) s.left (and_then (and_then (before y.1) (λ done. Within)) (λ v. back r.result v))) (sym (blind.same F y.1))
                (done y.1 kept l (before y.1) (frames_kept before blind y.1) (blind.fewer y.1))
