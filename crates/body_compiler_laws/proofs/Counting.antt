-- What the code of `for` does, once its bounds are kept.
use Rattle.std.proofs.Common.{◌≡◌, ◌∙◌, refl, sym, ap, subst, ℕ, zero, suc, ◌+◌, ◌≤◌, ◌<◌, Bool, true, false, List, [], ◌∷◌, ◌++◌, length, length-append, ℤ, Ok, Err, Some, arith}
use Rattle.std.specs.Prelude.{◌&&◌, slice_get, slice_set, IsTrue}
use Rattle.std.specs.Ordering.{int_cmp}
use Rattle.pascal_values.specs.declared.value.Value.{Value}
use Rattle.pascal_values.specs.declared.value.Value.TheVariants as pascal
use Rattle.pascal_values.specs.declared.value.Value.TheVariants.{outs-Bool}
use Rattle.pascal_values.specs.declared.value.Value.TheOpen.{Value-F}
use Rattle.estelle_tree.specs.declared.tree.statement.Direction.{Direction}
use Rattle.estelle_tree.specs.declared.tree.statement.Direction.TheVariants as direction
use Rattle.body_code.specs.declared.instr.Instr.{Instr}
use Rattle.body_code.specs.declared.instr.Instr.TheVariants as op
use Rattle.estelle_model.specs.declared.denoter.Host.{Host}
use Rattle.estelle_model.specs.Stops.{stopping}
use Rattle.estelle_model.specs.Types.{value_of, shape_of, whole}
use Rattle.estelle_model.specs.Operators.{bool_at, bool_of}
use Rattle.estelle_model.specs.Loops.{next_of, count_turns}
use Rattle.estelle_model.specs.States.{Logged}
use Rattle.estelle_model.specs.Steps.{Running, StepResult, Do, and_then, ◌>>=◌, ◌>>◌, pure, spend}
use Rattle.body_machine.specs.declared.item.Item.{Item}
use Rattle.body_machine.specs.declared.item.Item.TheVariants.{Datum, Spot}
use Rattle.body_machine.specs.Machine.{Machine, Next, Goes, Stops}
use Rattle.body_numbers.specs.Numbers.{shape_numbered}
use Rattle.body_machine.specs.Rows.{row, gives}
use Rattle.body_machine.specs.Steps.{goes_on, Comes}
use Rattle.body_compiler_pieces.specs.Pieces.{Piece, count, count_entry, count_end}
use Rattle.body_compiler_pieces.specs.StatementCode.{is_word, next_instr}
use Rattle.body_compiler_laws.proofs.Frames.{outline}
use Rattle.body_compiler_laws.proofs.Does.{Site, machine, full, StandsAt, Leads, Does, DoesWhere, comes_then, stands_first, stands_second, step_at, moved, both_true}
use Rattle.body_compiler_laws.proofs.Single.{datum, no_item}
use Rattle.body_compiler_laws.proofs.Control.{Decided, decides, Turned, turns, jumps_back}
use Rattle.body_compiler_laws.proofs.Units.{IsPlaced}
use Rattle.body_compiler_laws.proofs.Ordinals.{Counts, IsIn, goes_on_at, ends_there, goes_there, counts_next, next_in, value_set, value_fits, stepping, next_value}
use Rattle.body_compiler_laws.proofs.Temporaries.{HasTemporaries, temporary, place_pushed, value_loaded, Stored, value_stored, Holds, DoesDown, by_way, set_there, set_below, set_above, set_long}

module _ (c : Site) (placed : IsPlaced c) (has : HasTemporaries c) (h : Host) (word : is_word h ≡ true) (k : ℕ) (is : shape_numbered c.numbers k ≡ Some (shape_of (whole h)))
    (dir : Direction) (last : ℤ) (there : IsIn h last) (t u : ℕ) (t_less : t < c.number) (t_u : t < u) where
  abbrev C : Next → Next → Type 0
  C = Comes c.subject c.numbers c.code

  abbrev w : ℤ → Value
  w n = value_of h n

  -- the temporaries hold the value of the turn, and the last one
  abbrev pub Two : ℤ → ℕ → List Value → Type 0
  Two n free own = Holds c placed has t (w n) free own × Holds c placed has u (w last) free own

  -- the temporary takes the next value
  takes_next : (n : ℤ) → IsIn h n → IsIn h (next_of dir n) → (at : ℕ) (more : List Instr) (below : List Item) (turned : Bool) (own : List Value) (r : Running Logged) → outline r.frames ≡ c.counts → length own ≡ c.number → slice_get own t ≡ Some (w n)
      → StandsAt c at (op.Loc (c.base + t) ∷ op.Loc (c.base + t) ∷ op.Load ∷ next_instr dir ∷ op.Store k ∷ more)
      → C (Goes (machine c at below turned (full c own r))) (Goes (machine c (at + 5) below turned (full c (slice_set own t (w (next_of dir n))) r)))
  unfolding row
  takes_next n a b at more below turned own r same long found stands =
      comes_then c.subject c.numbers c.code _ _ _ (place_pushed c placed has t t_less at _ below turned (full c own r) stands)
      (comes_then c.subject c.numbers c.code _ _ _ (place_pushed c placed has t t_less (suc at) _ (Spot (temporary c placed has t) ∷ below) turned (full c own r) (behind at _ _ stands))
      (comes_then c.subject c.numbers c.code _ _ _ (value_loaded c placed has t (w n) (value_set h n) (suc (suc at)) _ (Spot (temporary c placed has t) ∷ below) turned own r same found (behind (suc at) _ _ (behind at _ _ stands)))
      (comes_then c.subject c.numbers c.code _ _ _ (stepped dir refl (behind (suc (suc at)) _ _ (behind (suc at) _ _ (behind at _ _ stands))))
      (subst (λ j. C (Goes (machine c (suc (suc (suc (suc at)))) (Datum (w (next_of dir n)) ∷ (Spot (temporary c placed has t) ∷ below)) turned (full c own r))) (Goes (machine c j below turned (full c (slice_set own t (w (next_of dir n))) r))))
      (let e : suc (suc (suc (suc (suc at)))) ≡ at + 5 = omega arith in e)
      (subst (Stored c placed has t (suc (suc (suc (suc at)))) below turned own r (w (next_of dir n)) (Goes (machine c (suc (suc (suc (suc at)))) (Datum (w (next_of dir n)) ∷ (Spot (temporary c placed has t) ∷ below)) turned (full c own r)))) (ap stopping (value_fits h (next_of dir n) b))
      (value_stored c placed has t k (shape_of (whole h)) is (w (next_of dir n)) (w n) (suc (suc (suc (suc at)))) more below turned own r same found
      (behind (suc (suc (suc at))) _ _ (behind (suc (suc at)) _ _ (behind (suc at) _ _ (behind at _ _ stands))))))))))
    where
      behind : (at : ℕ) (i : Instr) (more : List Instr) → StandsAt c at (i ∷ more) → StandsAt c (suc at) more
      behind at i more s = subst (λ j. StandsAt c j more) (let e : at + 1 ≡ suc at = omega arith in e) (stands_second c at (i ∷ []) more s)

      stack : List Item
      stack = Datum (w n) ∷ (Spot (temporary c placed has t) ∷ below)

      mid : Machine
      mid = machine c (suc (suc (suc at))) stack turned (full c own r)

      stepped : (d : Direction) → d ≡ dir → StandsAt c (suc (suc (suc at))) (next_instr d ∷ op.Store k ∷ more) → C (Goes mid) (Goes (machine c (suc (suc (suc (suc at)))) (Datum (w (next_of dir n)) ∷ (Spot (temporary c placed has t) ∷ below)) turned (full c own r)))
      stepped direction.To e s = step_at c (suc (suc (suc at))) op.Succ (op.Store k ∷ more) stack turned (full c own r) _ s
          (ap (λ o. goes_on (gives o (full c own r)) (Spot (temporary c placed has t) ∷ below) mid) (ap (λ d. stepping d (w n)) e ∙ next_value h dir n word a b))
      stepped direction.Downto e s = step_at c (suc (suc (suc at))) op.Pred (op.Store k ∷ more) stack turned (full c own r) _ s
          (ap (λ o. goes_on (gives o (full c own r)) (Spot (temporary c placed has t) ∷ below) mid) (ap (λ d. stepping d (w n)) e ∙ next_value h dir n word a b))

  module _ (begins turn unset : Piece) (set : ℤ → Do Logged) (body un : Do Logged)
      (turn_does : (n : ℤ) → IsIn h n → DoesWhere c (Two n) turn [] (set n >> body >>= λ done. pure (pascal.Bool (goes_on_at dir (int_cmp n last)))) datum) (unset_does : Does c unset [] un no_item) where
    module _ (first : ℤ) (first_there : IsIn h first) (b0 : Bool) (begins_does : DoesWhere c (Two first) begins [] (pure (pascal.Bool b0)) datum)
        (turns_left : ℕ) (begun : b0 ≡ true → (j : ℕ) × (turns_left ≡ suc j) × Counts dir first j last) (ended : b0 ≡ false → turns_left ≡ 0) where
      pub count_does : DoesDown c placed has (λ free. c.base + t) (Two first) (count (c.base + t) k (next_instr dir) begins turn unset) (count_turns turns_left dir first set un body) no_item
      count_does fine at free turned old r below stands low room same known =
          begin (begins_does (both_true c begins.fine (turn.fine && unset.fine) fine).0 at free turned old r below (stands_first c at G _ stands) low (omega (arith, room.0, room.1, temps, temps2)) same known)
        where
          open_fine : IsTrue turn.fine × IsTrue unset.fine
          open_fine = both_true c turn.fine unset.fine (both_true c begins.fine (turn.fine && unset.fine) fine).1

          F1 : ℕ
          F1 = free + length begins.temporaries

          F2 : ℕ
          F2 = free + length begins.temporaries + length turn.temporaries

          G : List Instr
          G = begins.code free at

          entry : ℕ
          entry = count_entry (begins.code free) at

          T : List Instr
          T = turn.code F1 entry

          end : ℕ
          end = count_end (begins.code free) (turn.code F1) at

          U : List Instr
          U = unset.code F2 end

          close : List Instr
          close = op.Loc (c.base + t) ∷ op.Loc (c.base + t) ∷ op.Load ∷ next_instr dir ∷ op.Store k ∷ op.Turn ∷ op.Jump entry ∷ U

          fin : ℕ
          fin = at + length ((count (c.base + t) k (next_instr dir) begins turn unset).code free at)

          whole : end + length U ≡ fin
          whole = let l : length (G ++ (op.Jfalse end ∷ op.Turn ∷ (T ++ (op.Jfalse end ∷ close)))) ≡ length G + length (op.Jfalse end ∷ op.Turn ∷ (T ++ (op.Jfalse end ∷ close))) = length-append G _ in
              let m : length (T ++ (op.Jfalse end ∷ close)) ≡ length T + length (op.Jfalse end ∷ close) = length-append T _ in omega (arith, l, m)

          temps : length (begins.temporaries ++ (turn.temporaries ++ unset.temporaries)) ≡ length begins.temporaries + length (turn.temporaries ++ unset.temporaries)
          temps = length-append begins.temporaries _

          temps2 : length (turn.temporaries ++ unset.temporaries) ≡ length turn.temporaries + length unset.temporaries
          temps2 = length-append turn.temporaries _

          start : Machine
          start = machine c at below turned (full c old r)

          s_first : StandsAt c (at + length G) (op.Jfalse end ∷ op.Turn ∷ (T ++ (op.Jfalse end ∷ close)))
          s_first = stands_second c at G _ stands

          s_turn : StandsAt c (at + length G + 1) (op.Turn ∷ (T ++ (op.Jfalse end ∷ close)))
          s_turn = stands_second c (at + length G) (op.Jfalse end ∷ []) _ s_first

          s_entry : StandsAt c entry (T ++ (op.Jfalse end ∷ close))
          s_entry = subst (λ j. StandsAt c j (T ++ (op.Jfalse end ∷ close))) (omega arith) (stands_second c (at + length G + 1) (op.Turn ∷ []) _ s_turn)

          s_test : StandsAt c (entry + length T) (op.Jfalse end ∷ close)
          s_test = stands_second c entry T _ s_entry

          s_close : StandsAt c (entry + length T + 1) close
          s_close = stands_second c (entry + length T) (op.Jfalse end ∷ []) close s_test

          s_again : StandsAt c (entry + length T + 1 + 5) (op.Turn ∷ op.Jump entry ∷ U)
          s_again = stands_second c (entry + length T + 1) (op.Loc (c.base + t) ∷ op.Loc (c.base + t) ∷ op.Load ∷ next_instr dir ∷ op.Store k ∷ []) _ s_close

          s_jump : StandsAt c (entry + length T + 1 + 5 + 1) (op.Jump entry ∷ U)
          s_jump = stands_second c (entry + length T + 1 + 5) (op.Turn ∷ []) _ s_again

          s_end : StandsAt c end U
          s_end = subst (λ j. StandsAt c j U) (omega arith) (stands_second c (entry + length T + 1 + 5 + 1) (op.Jump entry ∷ []) U s_jump)

          -- what is known wherever the loop is
          Kept : List Value → Type 0
          Kept own = (i : ℕ) → c.base + i < c.base + t → slice_get own i ≡ slice_get old i

          decided : (at' to : ℕ) (b : Bool) (turned' : Bool) (q : Running Logged) (m : Machine) → Decided c at' to below turned' q m (bool_of (pascal.Bool b)) → Decided c at' to below turned' q m (Ok b)
          decided at' to b turned' q m d = subst (Decided c at' to below turned' q m) (ap (λ (l : Value-F Value). bool_at l) (outs-Bool b)) d

          -- at the end the variable is unset
          ends : (start' : Machine) (v : Running Logged) (own : List Value) (turned' : Bool) → C (Goes start') (Goes (machine c end below turned' (full c own v))) → v.left ≤ r.left → Kept own → length own ≡ length old → outline v.frames ≡ c.counts
              → Leads c start' fin (c.base + t) old r.left below no_item (un v)
          ends start' v own turned' g few kept long same' = by_way c placed has start' (machine c end below turned' (full c own v)) fin (c.base + t) F2 old own r.left v.left below no_item (un v) g (omega (arith, known.0.0)) few kept long
              (moved c _ (end + length U) fin F2 own v.left below no_item (un v) whole
              (unset_does open_fine.1 end F2 turned' own v below s_end (omega (arith, low)) (omega (arith, room.0, room.1, temps, temps2, long)) same'))

          -- the unit before an entry is taken, and then the entry is come to
          Entered : Machine → List Value → Running Logged → StepResult Logged (Unit {0}) → Type 0
          Entered start' own v (Ok y) = ((turned' : Bool) × C (Goes start') (Goes (machine c entry below turned' (full c own y.1)))) × (outline y.1.frames ≡ outline v.frames) × (suc y.1.left ≡ v.left)
          Entered start' own v (Err e) = C (Goes start') (Stops e.0 e.1)

          first_entry : (start' : Machine) (own : List Value) (v : Running Logged) (turned' : Bool) → C (Goes start') (Goes (machine c (at + length G + 1) below turned' (full c own v))) → (o : StepResult Logged (Unit {0})) → Turned c (at + length G + 1) below turned' own v o → Entered start' own v o
          first_entry start' own v turned' g (Ok y) d = ((true, comes_then c.subject c.numbers c.code _ _ _ g (subst (λ j. C (Goes (machine c (at + length G + 1) below turned' (full c own v))) (Goes (machine c j below true (full c own y.1)))) (let e : at + length G + 1 + 1 ≡ entry = omega arith in e) d.0)), d.1, d.2)
          first_entry start' own v turned' g (Err e) d = comes_then c.subject c.numbers c.code _ _ _ g d.0

          other_entry : (start' : Machine) (own : List Value) (v : Running Logged) (turned' : Bool) → C (Goes start') (Goes (machine c (entry + length T + 1 + 5) below turned' (full c own v))) → (o : StepResult Logged (Unit {0})) → Turned c (entry + length T + 1 + 5) below turned' own v o → Entered start' own v o
          other_entry start' own v turned' g (Ok y) d = ((false, comes_then c.subject c.numbers c.code _ _ _ g (comes_then c.subject c.numbers c.code _ _ _ d.0 (jumps_back c (entry + length T + 1 + 5 + 1) entry U below (full c own y.1) s_jump (omega arith)))), d.1, d.2)
          other_entry start' own v turned' g (Err e) d = comes_then c.subject c.numbers c.code _ _ _ g d.0

          Round : ℕ → Type 0
          Round j = (n : ℤ) → IsIn h n → Counts dir n j last → (v : Running Logged) (own : List Value) → v.left ≤ r.left → Kept own → length own ≡ length old → Two n free own → outline v.frames ≡ c.counts
              → (start' : Machine) → Entered start' own v (spend v) → Leads c start' fin (c.base + t) old r.left below no_item (count_turns (suc j) dir n set un body v)

          -- what comes behind a turn, by whether there is a further one
          Rest : ℕ → ℤ → Type 0
          Rest j n = (start' : Machine) (v : Running Logged) (own : List Value) (turned' : Bool) → C (Goes start') (Goes (machine c (entry + length T) (Datum (pascal.Bool (goes_on_at dir (int_cmp n last))) ∷ below) turned' (full c own v)))
              → v.left ≤ r.left → Kept own → length own ≡ length old → Two n free own → outline v.frames ≡ c.counts → Leads c start' fin (c.base + t) old r.left below no_item (count_turns j dir (next_of dir n) set un body v)

          tested : (n : ℤ) (b : Bool) → goes_on_at dir (int_cmp n last) ≡ b → (v : Running Logged) (own : List Value) (turned' : Bool)
              → Decided c (entry + length T) end below turned' (full c own v) (machine c (entry + length T) (Datum (pascal.Bool (goes_on_at dir (int_cmp n last))) ∷ below) turned' (full c own v)) (Ok b)
          tested n b e v own turned' = subst (λ g. Decided c (entry + length T) end below turned' (full c own v) (machine c (entry + length T) (Datum (pascal.Bool (goes_on_at dir (int_cmp n last))) ∷ below) turned' (full c own v)) (Ok g)) e
              (decided (entry + length T) end (goes_on_at dir (int_cmp n last)) turned' (full c own v) (machine c (entry + length T) (Datum (pascal.Bool (goes_on_at dir (int_cmp n last))) ∷ below) turned' (full c own v))
              (decides c (entry + length T) end close (pascal.Bool (goes_on_at dir (int_cmp n last))) below turned' (full c own v) s_test (omega arith)))

          none_more : (n : ℤ) → Counts dir n 0 last → Rest 0 n
          none_more n e start' v own turned' g few kept long two same' = ends start' v own turned' (comes_then c.subject c.numbers c.code _ _ _ g (tested n false (ends_there dir n last e) v own turned')) few kept long same'

          one_more : (j : ℕ) (n : ℤ) → IsIn h n → Counts dir n (suc j) last → Round j → Rest (suc j) n
          one_more j n a e round start' v own turned' g few kept long two same' =
              round (next_of dir n) b (counts_next dir n last j e) v (slice_set own t (w (next_of dir n))) few (λ i less. set_below c placed has own t i (w (next_of dir n)) (omega (arith, less)) ∙ kept i less) (set_long c placed has own t (w (next_of dir n)) ∙ long)
              ((two.0.0, set_there c placed has own t (w (next_of dir n)) (omega (arith, t_less, long, room.1))), (two.1.0, set_above c placed has own t u (w (next_of dir n)) t_u ∙ two.1.1)) same' start'
              (other_entry start' (slice_set own t (w (next_of dir n))) v turned'
              (comes_then c.subject c.numbers c.code _ _ _ g (comes_then c.subject c.numbers c.code _ _ _ (tested n true (goes_there dir n last j e) v own turned')
              (takes_next n a b (entry + length T + 1) (op.Turn ∷ op.Jump entry ∷ U) below turned' own v same' (long ∙ room.1) two.0.1 s_close)))
              (spend v) (turns c (entry + length T + 1 + 5) (op.Jump entry ∷ U) below turned' (slice_set own t (w (next_of dir n))) v s_again))
            where
              b : IsIn h (next_of dir n)
              b = next_in h dir n last j a there e

          turn_at : (j : ℕ) (n : ℤ) → IsIn h n → Rest j n → (v : Running Logged) (own : List Value) → v.left ≤ r.left → Kept own → length own ≡ length old → Two n free own → outline v.frames ≡ c.counts
              → (start' : Machine) (o : StepResult Logged (Unit {0})) → Entered start' own v o → Leads c start' fin (c.base + t) old r.left below no_item (and_then (and_then (and_then o (λ done. set n)) (λ done. body)) (λ done. count_turns j dir (next_of dir n) set un body))
          turn_at j n a rest v own few kept long two same' start' (Err e) g = g
          turn_at j n a rest v own few kept long two same' start' (Ok y) g =
              behind (and_then (set n y.1) (λ done. body)) (turn_does n a open_fine.0 entry F1 g.0.0 own y.1 below (stands_first c entry T _ s_entry) (omega (arith, low)) (omega (arith, room.0, room.1, temps, temps2, long)) (g.1 ∙ same') ((omega (arith, two.0.0), two.0.1), (omega (arith, two.1.0), two.1.1)))
            where
              behind : (o : StepResult Logged (Unit {0})) → Leads c (machine c entry below g.0.0 (full c own y.1)) (entry + length T) F1 own y.1.left below datum (and_then o (λ done. pure (pascal.Bool (goes_on_at dir (int_cmp n last)))))
                  → Leads c start' fin (c.base + t) old r.left below no_item (and_then o (λ done. count_turns j dir (next_of dir n) set un body))
              behind (Err e) l = comes_then c.subject c.numbers c.code _ _ _ g.0.1 l
              behind (Ok z) l = rest start' z.1 l.own l.turned (comes_then c.subject c.numbers c.code _ _ _ g.0.1 l.comes) (omega (arith, l.fewer, g.2, few)) (λ i less. l.kept i (omega (arith, less, two.0.0)) ∙ kept i less) (l.long ∙ long)
                  ((two.0.0, l.kept t (omega (arith, two.0.0)) ∙ two.0.1), (two.1.0, l.kept u (omega (arith, two.1.0)) ∙ two.1.1)) l.same

          rounds : (j : ℕ) → Round j
          rounds zero n a e v own few kept long two same' start' g = turn_at zero n a (none_more n e) v own few kept long two same' start' (spend v) g
          rounds (suc j) n a e v own few kept long two same' start' g = turn_at (suc j) n a (one_more j n a e (rounds j)) v own few kept long two same' start' (spend v) g

          begin : Leads c start (at + length G) free old r.left below datum (Ok (pascal.Bool b0, r)) → Leads c start fin (c.base + t) old r.left below no_item (count_turns turns_left dir first set un body r)
          begin l = by b0 refl (decided (at + length G) end b0 l.turned (full c l.own r) (machine c (at + length G) (Datum (pascal.Bool b0) ∷ below) l.turned (full c l.own r))
              (decides c (at + length G) end _ (pascal.Bool b0) below l.turned (full c l.own r) s_first (omega arith)))
            where
              kept : Kept l.own
              kept i less = l.kept i (omega (arith, less, known.0.0))

              by : (b : Bool) → b0 ≡ b → Decided c (at + length G) end below l.turned (full c l.own r) (machine c (at + length G) (Datum (pascal.Bool b0) ∷ below) l.turned (full c l.own r)) (Ok b)
                  → Leads c start fin (c.base + t) old r.left below no_item (count_turns turns_left dir first set un body r)
              by true f d = let more : (j : ℕ) × (turns_left ≡ suc j) × Counts dir first j last = begun f in
                  subst (λ m. Leads c start fin (c.base + t) old r.left below no_item (count_turns m dir first set un body r)) (sym more.1)
                  (rounds more.0 first first_there more.2 r l.own (omega arith) kept l.long ((known.0.0, l.kept t known.0.0 ∙ known.0.1), (known.1.0, l.kept u known.1.0 ∙ known.1.1)) same start
                  (first_entry start l.own r l.turned (comes_then c.subject c.numbers c.code _ _ _ l.comes d) (spend r) (turns c (at + length G + 1) _ below l.turned l.own r s_turn)))
              by false f d = subst (λ m. Leads c start fin (c.base + t) old r.left below no_item (count_turns m dir first set un body r)) (sym (ended f)) (ends start r l.own l.turned (comes_then c.subject c.numbers c.code _ _ _ l.comes d) (omega arith) kept l.long same)
