-- What jumps do: one of two pieces, and loops.
use Rattle.std.proofs.Common.{◌≡◌, ◌∙◌, refl, ap, subst, ℕ, zero, suc, ◌+◌, ◌≤◌, ◌<◌, Bool, true, false, cond, List, [], ◌∷◌, ◌++◌, length, length-append, Result, Ok, Err, arith}
use Rattle.std.specs.Prelude.{◌-◌, nat_lt, slice_get}
use Rattle.std.proofs.lemmas.Bool.{le-leb, lt-leb, le-ltb, ltb-true, ltb-false}
use Rattle.pascal_values.specs.declared.fault.Fault.TheVariants.{StepLimit}
use Rattle.pascal_values.specs.declared.value.Value.{Value}
use Rattle.body_code.specs.declared.instr.Instr.{Instr}
use Rattle.body_code.specs.declared.instr.Instr.TheVariants as op
use Rattle.estelle_model.specs.Operators.{bool_of}
use Rattle.estelle_model.specs.Loops.{while_turns, repeat_turns, while_loop, repeat_loop}
use Rattle.estelle_model.specs.Stops.{Stop, Faults}
use Rattle.estelle_model.specs.States.{Logged}
use Rattle.estelle_model.specs.Steps.{Running, StepResult, Step, Do, and_then, ◌>>=◌, ◌>>◌, pure, fail, checked, checked_at, spend}
use Rattle.body_machine.specs.declared.item.Item.{Item}
use Rattle.body_machine.specs.declared.item.Item.TheVariants.{Datum}
use Rattle.body_machine.specs.Machine.{Machine, Next, Goes, Stops}
use Rattle.body_machine.specs.Rows.{row}
use Rattle.body_machine.specs.Steps.{jump_back, decide, turn, Comes}
use Rattle.body_compiler_pieces.specs.Pieces.{Piece, ◌⨾◌, fork, loop, repeat}
use Rattle.body_compiler_laws.proofs.Frames.{outline}
use Rattle.body_compiler_laws.proofs.Does.{Site, machine, full, StandsAt, Leads, Does, DoesWhere, IsStable, anywhere, comes_then, stands_first, stands_second, step_at, moved, both_true}

module _ (c : Site) where
  abbrev C : Next → Next → Type 0
  C = Comes c.subject c.numbers c.code

  -- ---- jumps

  pub jumps_on : (at to : ℕ) (more : List Instr) (stack : List Item) (turned : Bool) (r : Running Logged) → StandsAt c at (op.Jump to ∷ more) → at < to → C (Goes (machine c at stack turned r)) (Goes (machine c to stack turned r))
  unfolding row
  jumps_on at to more stack turned r stands less = step_at c at (op.Jump to) more stack turned r _ stands
      (ap (λ b. cond b (jump_back to stack (machine c at stack turned r)) (Goes (machine c to stack turned r))) (lt-leb to at less))

  pub jumps_back : (at to : ℕ) (more : List Instr) (stack : List Item) (r : Running Logged) → StandsAt c at (op.Jump to ∷ more) → to ≤ at → C (Goes (machine c at stack true r)) (Goes (machine c to stack false r))
  unfolding row
  jumps_back at to more stack r stands less = step_at c at (op.Jump to) more stack true r _ stands
      (ap (λ b. cond b (jump_back to stack (machine c at stack true r)) (Goes (machine c to stack true r))) (le-leb to at less))

  -- where the truth value is false the jump is made
  abbrev pub Decided : (at to : ℕ) (below : List Item) (turned : Bool) (r : Running Logged) → Machine → Result Bool Stop → Type 0
  Decided at to below turned r start (Ok true) = C (Goes start) (Goes (machine c (at + 1) below turned r))
  Decided at to below turned r start (Ok false) = C (Goes start) (Goes (machine c to below turned r))
  Decided at to below turned r start (Err e) = C (Goes start) (Stops e r.left)

  pub decides : (at to : ℕ) (more : List Instr) (v : Value) (below : List Item) (turned : Bool) (r : Running Logged) → StandsAt c at (op.Jfalse to ∷ more) → at < to → Decided at to below turned r (machine c at (Datum v ∷ below) turned r) (bool_of v)
  unfolding row
  decides at to more v below turned r stands less = by (bool_of v) (step_at c at (op.Jfalse to) more (Datum v ∷ below) turned r _ stands refl)
    where
      start : Machine
      start = machine c at (Datum v ∷ below) turned r

      by : (o : Result Bool Stop) → C (Goes start) (decide o false to below start) → Decided at to below turned r start o
      by (Ok true) h = subst (λ k. C (Goes start) (Goes (machine c k below turned r))) (let e : suc at ≡ at + 1 = omega arith in e) h
      by (Ok false) h = subst (λ b. C (Goes start) (cond b (jump_back to below start) (Goes (machine c to below turned r)))) (lt-leb to at less) h
      by (Err e) h = h

  -- ---- one of two

  -- what is come to from a start, by way of another machine
  pub from : (start mid : Machine) (at free : ℕ) (old : List Value) (units : ℕ) (below : List Item) {A : Type 0} (left : A → List Item) (o : StepResult Logged A) → C (Goes start) (Goes mid) → Leads c mid at free old units below left o → Leads c start at free old units below left o
  from start mid at free old units below left (Err e) h k = comes_then c.subject c.numbers c.code _ _ _ h k
  from start mid at free old units below left (Ok x) h k = record { own = k.own; turned = k.turned; comes = comes_then c.subject c.numbers c.code _ _ _ h k.comes; kept = k.kept; long = k.long; same = k.same; fewer = k.fewer; named = k.named }

  -- and then a jump
  pub to : (start : Machine) (at target free : ℕ) (old : List Value) (units : ℕ) (below : List Item) {A : Type 0} (left : A → List Item) (o : StepResult Logged A)
      → ((stack : List Item) (turned : Bool) (r : Running Logged) → C (Goes (machine c at stack turned r)) (Goes (machine c target stack turned r))) → Leads c start at free old units below left o → Leads c start target free old units below left o
  to start at target free old units below left (Err e) h k = k
  to start at target free old units below left (Ok x) h k = record { own = k.own; turned = k.turned; comes = comes_then c.subject c.numbers c.code _ _ _ k.comes (h (left x.0 ++ below) k.turned (full c k.own x.1)); kept = k.kept; long = k.long; same = k.same; fewer = k.fewer; named = k.named }

  -- fewer temporaries are kept
  pub lower : (start : Machine) (at free lower_free : ℕ) (old : List Value) (units : ℕ) (below : List Item) {A : Type 0} (left : A → List Item) (o : StepResult Logged A) → lower_free ≤ free → Leads c start at free old units below left o → Leads c start at lower_free old units below left o
  lower start at free lower_free old units below left (Err e) h k = k
  lower start at free lower_free old units below left (Ok x) h k = record { own = k.own; turned = k.turned; comes = k.comes; kept = λ i less. k.kept i (omega (arith, less, h)); long = k.long; same = k.same; fewer = k.fewer; named = k.named }

  pub fork_where : (I : ℕ → List Value → Type 0) → IsStable c I → (p q : Piece) (v : Value) {A : Type 0} (first second : Step Logged A) (left : A → List Item) → DoesWhere c I p [] first left → DoesWhere c I q [] second left → DoesWhere c I (fork p q) (Datum v ∷ []) (checked (bool_of v) >>= λ b. cond b first second) left
  fork_where I stable p q v {A} first second left hp hq fine at free turned old r below stands low room same known = by (bool_of v) (decides at (at + 1 + length P + 1) (P ++ (op.Jump end ∷ Q)) v below turned (full c old r) stands (omega arith))
    where
      P : List Instr
      P = p.code free (at + 1)

      Q : List Instr
      Q = q.code (free + length p.temporaries) (at + 1 + length P + 1)

      end : ℕ
      end = at + 1 + length P + 1 + length Q

      whole : end ≡ at + length (op.Jfalse (at + 1 + length P + 1) ∷ (P ++ (op.Jump end ∷ Q)))
      whole = let l : length (P ++ (op.Jump end ∷ Q)) ≡ length P + length (op.Jump end ∷ Q) = length-append P (op.Jump end ∷ Q) in omega (arith, l)

      temps : length (p.temporaries ++ q.temporaries) ≡ length p.temporaries + length q.temporaries
      temps = length-append p.temporaries q.temporaries

      start : Machine
      start = machine c at (Datum v ∷ below) turned (full c old r)

      rest : StandsAt c (at + 1) (P ++ (op.Jump end ∷ Q))
      rest = stands_second c at (op.Jfalse (at + 1 + length P + 1) ∷ []) (P ++ (op.Jump end ∷ Q)) stands

      over : StandsAt c (at + 1 + length P) (op.Jump end ∷ Q)
      over = stands_second c (at + 1) P (op.Jump end ∷ Q) rest

      by : (o : Result Bool Stop) → Decided at (at + 1 + length P + 1) below turned (full c old r) start o → Leads c start (at + length (op.Jfalse (at + 1 + length P + 1) ∷ (P ++ (op.Jump end ∷ Q)))) free old r.left below left (and_then (checked_at o r) (λ b. cond b first second))
      by (Err e) h = h
      by (Ok true) h = moved c start end _ free old r.left below left (first r) whole
          (from start _ end free old r.left below left (first r) h
          (to _ (at + 1 + length P) end free old r.left below left (first r) (λ stack b q. jumps_on (at + 1 + length P) end Q stack b q over (omega arith))
          (hp (both_true c p.fine q.fine fine).0 (at + 1) free turned old r below (stands_first c (at + 1) P (op.Jump end ∷ Q) rest) low (omega (arith, room.0, room.1, temps)) same known)))
      by (Ok false) h = moved c start end _ free old r.left below left (second r) whole
          (from start _ end free old r.left below left (second r) h
          (lower _ end (free + length p.temporaries) free old r.left below left (second r) (omega arith)
          (hq (both_true c p.fine q.fine fine).1 (at + 1 + length P + 1) (free + length p.temporaries) turned old r below (stands_second c (at + 1 + length P) (op.Jump end ∷ []) Q over) (omega (arith, low)) (omega (arith, room.0, room.1, temps)) same (stable free (free + length p.temporaries) old old (omega arith) (λ i less. refl) known))))

  pub fork_does : (p q : Piece) (v : Value) {A : Type 0} (first second : Step Logged A) (left : A → List Item) → Does c p [] first left → Does c q [] second left → Does c (fork p q) (Datum v ∷ []) (checked (bool_of v) >>= λ b. cond b first second) left
  fork_does p q v first second left hp hq fine at free turned old r below stands low room same =
      fork_where (λ k own. Unit {0}) (λ k n old own less kept known. tt) p q v first second left (anywhere c (λ k own. Unit {0}) p [] first left hp) (anywhere c (λ k own. Unit {0}) q [] second left hq) fine at free turned old r below stands low room same tt

  -- ---- loops

  abbrev pub Turned : (at : ℕ) (stack : List Item) (turned : Bool) (own : List Value) (r : Running Logged) → StepResult Logged (Unit {0}) → Type 0
  Turned at stack turned own r (Ok x) = C (Goes (machine c at stack turned (full c own r))) (Goes (machine c (at + 1) stack true (full c own x.1))) × (outline x.1.frames ≡ outline r.frames) × (suc x.1.left ≡ r.left)
  Turned at stack turned own r (Err e) = C (Goes (machine c at stack turned (full c own r))) (Stops e.0 e.1) × (r.left ≡ 0)

  pub turns : (at : ℕ) (more : List Instr) (stack : List Item) (turned : Bool) (own : List Value) (r : Running Logged) → StandsAt c at (op.Turn ∷ more) → Turned at stack turned own r (spend r)
  unfolding row spend
  turns at more stack turned own r stands = by (nat_lt 0 r.left) refl (step_at c at op.Turn more stack turned (full c own r) _ stands refl)
    where
      start : Machine
      start = machine c at stack turned (full c own r)

      spent : Bool → Running Logged → StepResult Logged (Unit {0})
      spent b q = cond b (Ok (tt, record q { left = q.left - 1 })) (Err (Faults StepLimit, q.left))

      by : (b : Bool) → nat_lt 0 r.left ≡ b → C (Goes start) (turn (spent b (full c own r)) start) → Turned at stack turned own r (spent b r)
      by true e h = (subst (λ k. C (Goes start) (Goes (machine c k stack true (full c own (record r { left = r.left - 1 }))))) (let f : suc at ≡ at + 1 = omega arith in f) h, refl, let less : 0 < r.left = ltb-true 0 r.left e in omega (arith, less))
      by false e h = (h, let none : r.left ≤ 0 = ltb-false 0 r.left e in omega (arith, none))

  no_unit : (r : Running Logged) → r.left ≤ 0 → spend r ≡ Err (Faults StepLimit, r.left)
  unfolding spend
  no_unit r h = ap (λ t. cond t (Ok (tt {0}, record r { left = r.left - 1 })) (Err (Faults StepLimit, r.left))) (le-ltb 0 r.left h)

  pub loop_does : (p q : Piece) (x : Step Logged Value) (b : Do Logged) → Does c p [] x (λ v. Datum v ∷ []) → Does c q [] b (λ done. []) → Does c (loop p q) [] (while_loop (x >>= λ v. checked (bool_of v)) b) (λ done. [])
  unfolding while_loop
  loop_does p q x b hp hq fine at free turned old r below stands low room same =
      moved c start end _ free old r.left below (λ done. []) (while_turns r.left test b r) whole
      (from start _ end free old r.left below (λ done. []) (while_turns r.left test b r) (jumps_on at (at + 1 + length B) _ below turned (full c old r) stands (omega arith))
      (rounds r.left r old turned (omega arith) (omega arith) (λ i less. refl) refl same))
    where
      B : List Instr
      B = q.code free (at + 1)

      P : List Instr
      P = p.code (free + length q.temporaries) (at + 1 + length B)

      end : ℕ
      end = at + 1 + length B + length P + 3

      close : List Instr
      close = op.Jfalse end ∷ op.Turn ∷ op.Jump (at + 1) ∷ []

      whole : end ≡ at + length (op.Jump (at + 1 + length B) ∷ (B ++ (P ++ close)))
      whole = let l : length (B ++ (P ++ close)) ≡ length B + length (P ++ close) = length-append B (P ++ close) in let m : length (P ++ close) ≡ length P + length close = length-append P close in omega (arith, l, m)

      temps : length (q.temporaries ++ p.temporaries) ≡ length q.temporaries + length p.temporaries
      temps = length-append q.temporaries p.temporaries

      start : Machine
      start = machine c at below turned (full c old r)

      test : Step Logged Bool
      test = x >>= λ v. checked (bool_of v)

      body_stands : StandsAt c (at + 1) (B ++ (P ++ close))
      body_stands = stands_second c at (op.Jump (at + 1 + length B) ∷ []) (B ++ (P ++ close)) stands

      test_stands : StandsAt c (at + 1 + length B) (P ++ close)
      test_stands = stands_second c (at + 1) B (P ++ close) body_stands

      close_stands : StandsAt c (at + 1 + length B + length P) close
      close_stands = stands_second c (at + 1 + length B) P close test_stands

      turn_stands : StandsAt c (at + 1 + length B + length P + 1) (op.Turn ∷ op.Jump (at + 1) ∷ [])
      turn_stands = stands_second c (at + 1 + length B + length P) (op.Jfalse end ∷ []) (op.Turn ∷ op.Jump (at + 1) ∷ []) close_stands

      back_stands : StandsAt c (at + 1 + length B + length P + 1 + 1) (op.Jump (at + 1) ∷ [])
      back_stands = stands_second c (at + 1 + length B + length P + 1) (op.Turn ∷ []) (op.Jump (at + 1) ∷ []) turn_stands

      -- what is left of the loop, from the test on
      Round : ℕ → Type 0
      Round k = (u : Running Logged) (own : List Value) (turned : Bool) → u.left ≤ k → u.left ≤ r.left → ((i : ℕ) → c.base + i < free → slice_get own i ≡ slice_get old i) → length own ≡ length old → outline u.frames ≡ c.counts
          → Leads c (machine c (at + 1 + length B) below turned (full c own u)) end free old r.left below (λ done. []) (while_turns k test b u)

      -- behind the body
      again : (k : ℕ) → Round k → (start' : Machine) (own : List Value) → ((i : ℕ) → c.base + i < free → slice_get own i ≡ slice_get old i) → length own ≡ length old → (units : ℕ) → units ≤ k → units ≤ r.left
          → (o : StepResult Logged (Unit {0})) → Leads c start' (at + 1 + length B) free own units below (λ done. []) o → Leads c start' end free old r.left below (λ done. []) (and_then o (λ done. while_turns k test b))
      again k round start' own kept long units few fewer (Err e) h = h
      again k round start' own kept long units few fewer (Ok y) h = from start' _ end free old r.left below (λ done. []) (while_turns k test b y.1) h.comes
          (round y.1 h.own h.turned (omega (arith, few, h.fewer)) (omega (arith, fewer, h.fewer)) (λ i less. h.kept i less ∙ kept i less) (h.long ∙ long) h.same)

      -- behind a test that is true: the unit, and then the body
      entered : (k : ℕ) → Round k → (start' : Machine) (u : Running Logged) (own : List Value) → u.left ≤ suc k → u.left ≤ r.left → ((i : ℕ) → c.base + i < free → slice_get own i ≡ slice_get old i) → length own ≡ length old → outline u.frames ≡ c.counts
          → (turned : Bool) → C (Goes start') (Goes (machine c (at + 1 + length B + length P + 1) below turned (full c own u)))
          → (o : StepResult Logged (Unit {0})) → Turned (at + 1 + length B + length P + 1) below turned own u o → Leads c start' end free old r.left below (λ done. []) (and_then (and_then o (λ done. b)) (λ done. while_turns k test b))
      entered k round start' u own few fewer kept long same turned h (Err e) t = comes_then c.subject c.numbers c.code _ _ _ h t.0
      entered k round start' u own few fewer kept long same turned h (Ok y) t =
          from start' _ end free old r.left below (λ done. []) (and_then (b y.1) (λ done. while_turns k test b)) (comes_then c.subject c.numbers c.code _ _ _ h (comes_then c.subject c.numbers c.code _ _ _ t.0 (jumps_back (at + 1 + length B + length P + 1 + 1) (at + 1) [] below (full c own y.1) back_stands (omega arith))))
          (again k round (machine c (at + 1) below false (full c own y.1)) own kept long y.1.left (omega (arith, few, t.2)) (omega (arith, fewer, t.2)) (b y.1)
          (hq (both_true c q.fine p.fine fine).0 (at + 1) free false own y.1 below (stands_first c (at + 1) B (P ++ close) body_stands) low (omega (arith, room.0, room.1, temps, long)) (t.1 ∙ same)))

      -- behind the test
      decided : (k : ℕ) (more : Do Logged) (start' : Machine) (u : Running Logged) (own : List Value) → u.left ≤ r.left → ((i : ℕ) → c.base + i < free → slice_get own i ≡ slice_get old i) → length own ≡ length old → outline u.frames ≡ c.counts
          → (turned : Bool) (mid : Machine) → C (Goes start') (Goes mid)
          → (C (Goes mid) (Goes (machine c (at + 1 + length B + length P + 1) below turned (full c own u))) → Leads c start' end free old r.left below (λ done. []) (more u))
          → (o : Result Bool Stop) → Decided (at + 1 + length B + length P) end below turned (full c own u) mid o → Leads c start' end free old r.left below (λ done. []) (and_then (checked_at o u) (λ again. cond again more (pure tt)))
      decided k more start' u own fewer kept long same turned mid h go (Err e) d = comes_then c.subject c.numbers c.code _ _ _ h d
      decided k more start' u own fewer kept long same turned mid h go (Ok false) d = record { own = own; turned = turned; comes = comes_then c.subject c.numbers c.code _ _ _ h d; kept = kept; long = long; same = same; fewer = fewer; named = tt }
      decided k more start' u own fewer kept long same turned mid h go (Ok true) d = go d

      tested : (k : ℕ) (more : Do Logged) (start' : Machine) (units : ℕ) (own : List Value) → units ≤ r.left → ((i : ℕ) → c.base + i < free → slice_get own i ≡ slice_get old i) → length own ≡ length old
          → ((u : Running Logged) (own' : List Value) (turned : Bool) → u.left ≤ units → ((i : ℕ) → c.base + i < free → slice_get own' i ≡ slice_get old i) → length own' ≡ length old → outline u.frames ≡ c.counts
          → C (Goes start') (Goes (machine c (at + 1 + length B + length P + 1) below turned (full c own' u))) → Leads c start' end free old r.left below (λ done. []) (more u))
          → (o : StepResult Logged Value) → Leads c start' (at + 1 + length B + length P) (free + length q.temporaries) own units below (λ v. Datum v ∷ []) o
          → Leads c start' end free old r.left below (λ done. []) (and_then (and_then o (λ v. checked (bool_of v))) (λ again. cond again more (pure tt)))
      tested k more start' units own fewer kept long go (Err e) h = h
      tested k more start' units own fewer kept long go (Ok y) h =
          decided k more start' y.1 h.own (omega (arith, fewer, h.fewer)) (λ i less. h.kept i (omega (arith, less)) ∙ kept i less) (h.long ∙ long) h.same h.turned (machine c (at + 1 + length B + length P) (Datum y.0 ∷ below) h.turned (full c h.own y.1)) h.comes
          (λ d. go y.1 h.own h.turned h.fewer (λ i less. h.kept i (omega (arith, less)) ∙ kept i less) (h.long ∙ long) h.same (comes_then c.subject c.numbers c.code _ _ _ h.comes d))
          (bool_of y.0) (decides (at + 1 + length B + length P) end (op.Turn ∷ op.Jump (at + 1) ∷ []) y.0 below h.turned (full c h.own y.1) close_stands (omega arith))

      rounds : (k : ℕ) → Round k
      rounds zero u own turned few fewer kept long same =
          tested zero (fail StepLimit) (machine c (at + 1 + length B) below turned (full c own u)) u.left own fewer kept long
          (λ v own' turned' less kept' long' same' h. comes_then c.subject c.numbers c.code _ _ _ h
          (subst (λ (o : StepResult Logged (Unit {0})). Turned (at + 1 + length B + length P + 1) below turned' own' v o) (no_unit v (omega (arith, few, less))) (turns (at + 1 + length B + length P + 1) (op.Jump (at + 1) ∷ []) below turned' own' v turn_stands)).0)
          (x u) (hp (both_true c q.fine p.fine fine).1 (at + 1 + length B) (free + length q.temporaries) turned own u below (stands_first c (at + 1 + length B) P close test_stands) (omega (arith, low)) (omega (arith, room.0, room.1, temps, long)) same)
      rounds (suc k) u own turned few fewer kept long same =
          tested (suc k) (spend >> b >> while_turns k test b) (machine c (at + 1 + length B) below turned (full c own u)) u.left own fewer kept long
          (λ v own' turned' less kept' long' same' h. entered k (rounds k) (machine c (at + 1 + length B) below turned (full c own u)) v own' (omega (arith, few, less)) (omega (arith, fewer, less)) kept' long' same' turned' h (spend v) (turns (at + 1 + length B + length P + 1) (op.Jump (at + 1) ∷ []) below turned' own' v turn_stands))
          (x u) (hp (both_true c q.fine p.fine fine).1 (at + 1 + length B) (free + length q.temporaries) turned own u below (stands_first c (at + 1 + length B) P close test_stands) (omega (arith, low)) (omega (arith, room.0, room.1, temps, long)) same)

  -- ---- `repeat`

  -- where the truth value is true the jump is made
  abbrev Ended : (at to : ℕ) (below : List Item) (turned : Bool) (r : Running Logged) → Machine → Result Bool Stop → Type 0
  Ended at to below turned r start (Ok true) = C (Goes start) (Goes (machine c to below turned r))
  Ended at to below turned r start (Ok false) = C (Goes start) (Goes (machine c (at + 1) below turned r))
  Ended at to below turned r start (Err e) = C (Goes start) (Stops e r.left)

  ends_at : (at to : ℕ) (more : List Instr) (v : Value) (below : List Item) (turned : Bool) (r : Running Logged) → StandsAt c at (op.Jtrue to ∷ more) → at < to → Ended at to below turned r (machine c at (Datum v ∷ below) turned r) (bool_of v)
  unfolding row
  ends_at at to more v below turned r stands less = by (bool_of v) (step_at c at (op.Jtrue to) more (Datum v ∷ below) turned r _ stands refl)
    where
      start : Machine
      start = machine c at (Datum v ∷ below) turned r

      by : (o : Result Bool Stop) → C (Goes start) (decide o true to below start) → Ended at to below turned r start o
      by (Ok false) h = subst (λ k. C (Goes start) (Goes (machine c k below turned r))) (let e : suc at ≡ at + 1 = omega arith in e) h
      by (Ok true) h = subst (λ b. C (Goes start) (cond b (jump_back to below start) (Goes (machine c to below turned r)))) (lt-leb to at less) h
      by (Err e) h = h

  -- the unit before an entry is taken, and then the entry is come to
  abbrev Entered : (start : Machine) (entry : ℕ) (below : List Item) (own : List Value) (u : Running Logged) → StepResult Logged (Unit {0}) → Type 0
  Entered start entry below own u (Ok y) = ((turned : Bool) × C (Goes start) (Goes (machine c entry below turned (full c own y.1)))) × (outline y.1.frames ≡ outline u.frames) × (suc y.1.left ≡ u.left)
  Entered start entry below own u (Err e) = C (Goes start) (Stops e.0 e.1)

  -- two steps, and a third one behind them
  regrouped : {A B D : Type 0} (o : StepResult Logged A) (f : A → Step Logged B) (g : B → Step Logged D) → and_then (and_then o f) g ≡ and_then o (λ a. f a >>= g)
  regrouped (Ok x) f g = refl
  regrouped (Err e) f g = refl

  pub repeat_does : (p q : Piece) (b : Do Logged) (x : Step Logged Value) → Does c (q ⨾ p) [] (b >>= λ done. x) (λ v. Datum v ∷ []) → Does c (repeat (q ⨾ p)) [] (repeat_loop b (x >>= λ v. checked (bool_of v))) (λ done. [])
  unfolding repeat_loop
  repeat_does p q b x h fine at free turned old r below stands low room same =
      moved c start end _ free old r.left below (λ done. []) (repeat_turns r.left b test r) whole
      (rounds r.left r old (omega arith) (omega arith) (λ i less. refl) refl same start (first (spend r) (turns at (P ++ close) below turned old r stands)))
    where
      P : List Instr
      P = (q ⨾ p).code free (at + 1)

      end : ℕ
      end = at + 1 + length P + 3

      close : List Instr
      close = op.Jtrue end ∷ op.Turn ∷ op.Jump (at + 1) ∷ []

      whole : end ≡ at + length (op.Turn ∷ (P ++ close))
      whole = let l : length (P ++ close) ≡ length P + length close = length-append P close in omega (arith, l)

      start : Machine
      start = machine c at below turned (full c old r)

      test : Step Logged Bool
      test = x >>= λ v. checked (bool_of v)

      code_stands : StandsAt c (at + 1) (P ++ close)
      code_stands = stands_second c at (op.Turn ∷ []) (P ++ close) stands

      close_stands : StandsAt c (at + 1 + length P) close
      close_stands = stands_second c (at + 1) P close code_stands

      turn_stands : StandsAt c (at + 1 + length P + 1) (op.Turn ∷ op.Jump (at + 1) ∷ [])
      turn_stands = stands_second c (at + 1 + length P) (op.Jtrue end ∷ []) (op.Turn ∷ op.Jump (at + 1) ∷ []) close_stands

      back_stands : StandsAt c (at + 1 + length P + 1 + 1) (op.Jump (at + 1) ∷ [])
      back_stands = stands_second c (at + 1 + length P + 1) (op.Turn ∷ []) (op.Jump (at + 1) ∷ []) turn_stands

      -- the first entry, and each other one
      first : (o : StepResult Logged (Unit {0})) → Turned at below turned old r o → Entered start (at + 1) below old r o
      first (Ok y) t = ((true, t.0), t.1, t.2)
      first (Err e) t = t.0

      again : (start' : Machine) (u : Running Logged) (own : List Value) (turned : Bool) → C (Goes start') (Goes (machine c (at + 1 + length P + 1) below turned (full c own u)))
          → (o : StepResult Logged (Unit {0})) → Turned (at + 1 + length P + 1) below turned own u o → Entered start' (at + 1) below own u o
      again start' u own turned k (Ok y) t = ((false, comes_then c.subject c.numbers c.code _ _ _ k (comes_then c.subject c.numbers c.code _ _ _ t.0 (jumps_back (at + 1 + length P + 1 + 1) (at + 1) [] below (full c own y.1) back_stands (omega arith)))), t.1, t.2)
      again start' u own turned k (Err e) t = comes_then c.subject c.numbers c.code _ _ _ k t.0

      -- what is left of the loop, from the unit before an entry on
      Round : ℕ → Type 0
      Round k = (u : Running Logged) (own : List Value) → u.left ≤ k → u.left ≤ r.left → ((i : ℕ) → c.base + i < free → slice_get own i ≡ slice_get old i) → length own ≡ length old → outline u.frames ≡ c.counts
          → (start' : Machine) → Entered start' (at + 1) below own u (spend u) → Leads c start' end free old r.left below (λ done. []) (repeat_turns k b test u)

      -- behind the truth value
      decided : (k : ℕ) → Round k → (start' : Machine) (u : Running Logged) (own : List Value) → u.left ≤ k → u.left ≤ r.left → ((i : ℕ) → c.base + i < free → slice_get own i ≡ slice_get old i) → length own ≡ length old → outline u.frames ≡ c.counts
          → (turned : Bool) (mid : Machine) → C (Goes start') (Goes mid) → (o : Result Bool Stop) → Ended (at + 1 + length P) end below turned (full c own u) mid o
          → Leads c start' end free old r.left below (λ done. []) (and_then (checked_at o u) (λ done. cond done (pure tt) (repeat_turns k b test)))
      decided k round start' u own few fewer kept long same turned mid h (Err e) d = comes_then c.subject c.numbers c.code _ _ _ h d
      decided k round start' u own few fewer kept long same turned mid h (Ok true) d = record { own = own; turned = turned; comes = comes_then c.subject c.numbers c.code _ _ _ h d; kept = kept; long = long; same = same; fewer = fewer; named = tt }
      decided k round start' u own few fewer kept long same turned mid h (Ok false) d =
          round u own few fewer kept long same start' (again start' u own turned (comes_then c.subject c.numbers c.code _ _ _ h d) (spend u) (turns (at + 1 + length P + 1) (op.Jump (at + 1) ∷ []) below turned own u turn_stands))

      -- behind what stands in it
      tested : (k : ℕ) → Round k → (start' : Machine) (own : List Value) (units : ℕ) → units ≤ k → units ≤ r.left → ((i : ℕ) → c.base + i < free → slice_get own i ≡ slice_get old i) → length own ≡ length old
          → (o : StepResult Logged Value) → Leads c start' (at + 1 + length P) free own units below (λ v. Datum v ∷ []) o
          → Leads c start' end free old r.left below (λ done. []) (and_then (and_then o (λ v. checked (bool_of v))) (λ done. cond done (pure tt) (repeat_turns k b test)))
      tested k round start' own units few fewer kept long (Err e) h = h
      tested k round start' own units few fewer kept long (Ok y) h =
          decided k round start' y.1 h.own (omega (arith, few, h.fewer)) (omega (arith, fewer, h.fewer)) (λ i less. h.kept i less ∙ kept i less) (h.long ∙ long) h.same h.turned (machine c (at + 1 + length P) (Datum y.0 ∷ below) h.turned (full c h.own y.1)) h.comes
          (bool_of y.0) (ends_at (at + 1 + length P) end (op.Turn ∷ op.Jump (at + 1) ∷ []) y.0 below h.turned (full c h.own y.1) close_stands (omega arith))

      entered : (k : ℕ) → Round k → (u : Running Logged) (own : List Value) → u.left ≤ suc k → u.left ≤ r.left → ((i : ℕ) → c.base + i < free → slice_get own i ≡ slice_get old i) → length own ≡ length old → outline u.frames ≡ c.counts
          → (start' : Machine) (o : StepResult Logged (Unit {0})) → Entered start' (at + 1) below own u o
          → Leads c start' end free old r.left below (λ done. []) (and_then (and_then (and_then o (λ done. b)) (λ done. test)) (λ done. cond done (pure tt) (repeat_turns k b test)))
      entered k round u own few fewer kept long same start' (Err e) t = t
      entered k round u own few fewer kept long same start' (Ok y) t =
          from start' (machine c (at + 1) below t.0.0 (full c own y.1)) end free old r.left below (λ done. []) _ t.0.1
          (subst (λ o. Leads c (machine c (at + 1) below t.0.0 (full c own y.1)) end free old r.left below (λ done. []) (and_then o (λ done. cond done (pure tt) (repeat_turns k b test)))) (regrouped (b y.1) (λ done. x) (λ v. checked (bool_of v)))
          (tested k round (machine c (at + 1) below t.0.0 (full c own y.1)) own y.1.left (omega (arith, few, t.2)) (omega (arith, fewer, t.2)) kept long (and_then (b y.1) (λ done. x))
          (h fine (at + 1) free t.0.0 own y.1 below (stands_first c (at + 1) P close code_stands) low (omega (arith, room.0, room.1, long)) (t.1 ∙ same))))

      rounds : (k : ℕ) → Round k
      rounds zero u own few fewer kept long same start' t = subst (λ (o : StepResult Logged (Unit {0})). Entered start' (at + 1) below own u o) (no_unit u few) t
      rounds (suc k) u own few fewer kept long same start' t = entered k (rounds k) u own few fewer kept long same start' (spend u) t
