-- Loops turn by turn: each turn takes a unit.
use Rattle.std.proofs.Common.{◌≡◌, ◌∙◌, ℕ, suc, ◌+◌, ◌-◌, ◌<◌, ◌≤◌, Bool, true, false, refl, sym, ap, subst, add-one, arith, Option, Some, None, ℤ, ◌-ℤ◌, Result, Ok, Err, cond}
use Rattle.std.specs.Prelude.{nat_lt, nat_abs}
use Rattle.std.proofs.lemmas.Bool.Decides.{nat_tests}
use Rattle.std.proofs.lemmas.Int.{ints}
use Rattle.pascal_values.specs.declared.fault.Fault.TheVariants.{StepLimit}
use Rattle.estelle_tree.specs.declared.tree.expression.Expr.{Expr}
use Rattle.estelle_tree.specs.declared.tree.statement.Direction.{Direction}
use Rattle.estelle_tree.specs.declared.tree.statement.Direction.TheVariants as direction
use Rattle.estelle_tree.specs.declared.tree.statement.Stmt.{Stmt}
use Rattle.estelle_tree.specs.declared.tree.statement.Stmts.{Stmts}
use Rattle.estelle_model.specs.declared.denoter.Denoter.{Denoter}
use Rattle.estelle_model.specs.declared.place.Place.{Place}
use Rattle.estelle_model.specs.declared.place.Environment.{Environment}
use Rattle.estelle_model.specs.States.{Logged, on_log}
use Rattle.estelle_model.specs.Stops.{Faults}
use Rattle.estelle_model.specs.Steps.{Running, StepResult, Step, Do, and_then, ◌>>=◌, ◌>>◌, pure, spend}
use Rattle.estelle_model.specs.Operators.{bool_of}
use Rattle.estelle_model.specs.Calls.{max_depth}
use Rattle.estelle_model.specs.Places.{store_ordinal, blank_at}
use Rattle.estelle_model.specs.Loops as loops
use Rattle.estelle_model.specs.Loops.{next_of, comes_to, turns_of, count_turns}
use Rattle.estelle_model.proofs.LoopLaws.{AtMost, NeverRaises, while_unrolls, repeat_unrolls}
use Rattle.estelle_model.proofs.Units.{CallNever, NoMoreUnits, units_closed, of_value_never, store_ordinal_never}
use Rattle.estelle_model.proofs.UnitsOfBlocks as units
use Rattle.estelle_model.proofs.UnitsOfBlocks.{ActsNever, EntersNever, expr_never}
use Rattle.estelle_model.proofs.BlocksKept.{call_by_kept, nested_kept}
use Rattle.estelle_model.proofs.AlikeFirings.{log_is_faithful}
use Rattle.estelle_model.proofs.UnitsOfActions.{act_never}
use Rattle.body_values.specs.declared.stop.Stop.{Stop}
use Rattle.body_state.specs.Follows.{Leads}
use Rattle.body_walker_blocks.specs.Scopes.{Scoped, meanings}
use Rattle.body_walker_blocks.specs.Turns.{beginning, following}
use Rattle.body_walker_blocks.specs.Walked.{actions, acting, entering, calling, expr, condition, stmt, stmts, while_loop, repeat_loop, count_loop}
use Rattle.body_walker_blocks.proofs.Followed.{follows_outcome, follows_then, follows_stops}
use Rattle.body_walker_blocks.proofs.Plans.{Last, Runs, Is}

-- ---- units

abbrev left_after : StepResult Logged (Unit {0}) → ℕ
left_after (Ok r) = r.1.left
left_after (Err e) = 0

-- a unit is taken
pub spend_takes : (s u : Running Logged) → spend s ≡ Ok (tt, u) → u.left < s.left
unfolding spend
spend_takes s u does = by (nat_lt 0 s.left) refl does
  where
    by : (b : Bool) → nat_lt 0 s.left ≡ b → cond {A = StepResult Logged (Unit {0})} b (Ok (tt, record s { left = s.left - 1 })) (Err (Faults StepLimit, s.left)) ≡ Ok (tt, u) → u.left < s.left
    by true some e = let l : s.left - 1 ≡ u.left = ap left_after e in grind (arith, nat_tests)
    by false none e = cc

-- none is given back
pub keeps_units : {A : Type 0} (p : Step Logged A) → NeverRaises p → (s u : Running Logged) (a : A) → p s ≡ Ok (a, u) → u.left ≤ s.left
keeps_units {A} p never s u a does = subst (λ (o : StepResult Logged A). AtMost s.left o) does (never s)

module _ (t : Scoped) (h : Environment) where
  acts_never : ActsNever Logged on_log (actions t)
  acts_never = act_never Logged on_log log_is_faithful t.subject (meanings t)

  enters_never : EntersNever Logged (entering t h)
  unfolding entering
  enters_never = nested_kept Logged on_log (NoMoreUnits Logged) (units_closed Logged on_log) (meanings t) (actions t) acts_never (max_depth - h.frame)

  calls_never : CallNever Logged (calling t h)
  unfolding calling
  calls_never = call_by_kept Logged on_log (NoMoreUnits Logged) (units_closed Logged on_log) (meanings t) (actions t) acts_never (entering t h) enters_never h.path

  pub condition_never : (e : Expr) → NeverRaises (condition t h e)
  unfolding expr
  condition_never e = of_value_never Logged Bool (λ v. bool_of v) (expr t h e).value (expr_never Logged on_log (meanings t) (calling t h) calls_never h e).value

  pub stmt_never : (x : Stmt) → NeverRaises (stmt t h x)
  unfolding stmt
  stmt_never x = units.stmt_never Logged on_log (meanings t) (acting t h) (acts_never (entering t h) enters_never) (calling t h) calls_never h x

  pub stmts_never : (x : Stmts) → NeverRaises (stmts t h x)
  unfolding stmts
  stmts_never x = units.stmts_never Logged on_log (meanings t) (acting t h) (acts_never (entering t h) enters_never) (calling t h) calls_never h x

-- what is left of a loop does what the whole of it does
pub record StillDoes (loop : Do Logged) (s s0 : Running Logged) : Type 0 where
  pub same : loop s ≡ loop s0

pub loop_begins : {loop : Do Logged} {s : Running Logged} → StillDoes loop s s
loop_begins = record { same = refl }

-- ---- `while`

module _ (t : Scoped) (h : Environment) (e : Expr) (x : Stmt) where
  abbrev test : Step Logged Bool
  test = condition t h e

  abbrev body : Do Logged
  body = stmt t h x

  abbrev whole : Do Logged
  whole = while_loop t h e x

  abbrev rest_of : Bool → Do Logged
  rest_of again = cond again (spend >> body >> whole) (pure tt)

  unrolled : {s s0 : Running Logged} → StillDoes whole s s0 → whole s0 ≡ (test >>= rest_of) s
  unrolled {s} before = sym before.same ∙ while_unrolls Logged test body (condition_never t h e) (stmt_never t h x) s

  pub while_turn : {s s0 u v w : Running Logged} → StillDoes whole s s0 → test s ≡ Ok (true, u) → spend u ≡ Ok (tt, v) → body v ≡ Ok (tt, w) → StillDoes whole w s0
  while_turn {s} {s0} {u} {v} {w} before tests spends does = record {
    same = sym (ap (λ q. and_then q (λ x. whole)) does)
        ∙ sym (ap (λ q. and_then (and_then q (λ x. body)) (λ x. whole)) spends)
        ∙ sym (ap (λ q. and_then q rest_of) tests)
        ∙ sym (unrolled before);
  }

  pub while_takes : {s s0 u v w : Running Logged} → StillDoes whole s s0 → test s ≡ Ok (true, u) → spend u ≡ Ok (tt, v) → body v ≡ Ok (tt, w) → w.left < s.left
  while_takes {s} {s0} {u} {v} {w} before tests spends does = omega (arith, keeps_units test (condition_never t h e) s u true tests, spend_takes u v spends, keeps_units body (stmt_never t h x) v w tt does)

  pub while_ends : {s s0 u : Running Logged} → StillDoes whole s s0 → test s ≡ Ok (false, u) → whole s0 ≡ Ok (tt, u)
  while_ends {s} {s0} {u} before tests = unrolled before ∙ ap (λ q. and_then q rest_of) tests

  pub while_test_stops : {s s0 u : Running Logged} {f : Stop} → StillDoes whole s s0 → Leads test s (Err f) u → Runs (Last whole) s0 (Err f) u
  while_test_stops {s} {s0} {u} {f} before stops = record { follows = follows_outcome whole s0 (Err f) u (test >>= rest_of) s (unrolled before) (follows_stops test rest_of s u f stops) }

  pub while_spend_stops : {s s0 u v : Running Logged} {f : Stop} → StillDoes whole s s0 → test s ≡ Ok (true, u) → Leads spend u (Err f) v → Runs (Last whole) s0 (Err f) v
  while_spend_stops {s} {s0} {u} {v} {f} before tests stops = record {
    follows = follows_outcome whole s0 (Err f) v (test >>= rest_of) s (unrolled before)
        (follows_then test rest_of s u v true (Err f) tests (follows_stops (spend >> body) (λ x. whole) u v f (follows_stops spend (λ x. body) u v f stops)));
  }

  pub while_body_stops : {s s0 u v w : Running Logged} {f : Stop} → StillDoes whole s s0 → test s ≡ Ok (true, u) → spend u ≡ Ok (tt, v) → Leads body v (Err f) w → Runs (Last whole) s0 (Err f) w
  while_body_stops {s} {s0} {u} {v} {w} {f} before tests spends stops = record {
    follows = follows_outcome whole s0 (Err f) w (test >>= rest_of) s (unrolled before)
        (follows_then test rest_of s u w true (Err f) tests (follows_stops (spend >> body) (λ x. whole) u w f (follows_then spend (λ x. body) u v w tt (Err f) spends stops)));
  }

-- ---- `repeat`

module _ (t : Scoped) (h : Environment) (x : Stmts) (e : Expr) where
  abbrev round_body : Do Logged
  round_body = stmts t h x

  abbrev round_test : Step Logged Bool
  round_test = condition t h e

  abbrev rounds : Do Logged
  rounds = repeat_loop t h x e

  abbrev done_or : Bool → Do Logged
  done_or done = cond done (pure tt) rounds

  abbrev round : Do Logged
  round = spend >> round_body >> round_test >>= done_or

  round_unrolled : {s s0 : Running Logged} → StillDoes rounds s s0 → rounds s0 ≡ round s
  round_unrolled {s} before = sym before.same ∙ repeat_unrolls Logged round_body round_test (stmts_never t h x) (condition_never t h e) s

  pub repeat_turn : {s s0 u v w : Running Logged} → StillDoes rounds s s0 → spend s ≡ Ok (tt, u) → round_body u ≡ Ok (tt, v) → round_test v ≡ Ok (false, w) → StillDoes rounds w s0
  repeat_turn {s} {s0} {u} {v} {w} before spends does tests = record {
    same = sym (ap (λ q. and_then q done_or) tests)
        ∙ sym (ap (λ q. and_then (and_then q (λ x. round_test)) done_or) does)
        ∙ sym (ap (λ q. and_then (and_then (and_then q (λ x. round_body)) (λ x. round_test)) done_or) spends)
        ∙ sym (round_unrolled before);
  }

  pub repeat_takes : {s s0 u v w : Running Logged} → StillDoes rounds s s0 → spend s ≡ Ok (tt, u) → round_body u ≡ Ok (tt, v) → round_test v ≡ Ok (false, w) → w.left < s.left
  repeat_takes {s} {s0} {u} {v} {w} before spends does tests = omega (arith, spend_takes s u spends, keeps_units round_body (stmts_never t h x) u v tt does, keeps_units round_test (condition_never t h e) v w false tests)

  pub repeat_ends : {s s0 u v w : Running Logged} → StillDoes rounds s s0 → spend s ≡ Ok (tt, u) → round_body u ≡ Ok (tt, v) → round_test v ≡ Ok (true, w) → rounds s0 ≡ Ok (tt, w)
  repeat_ends {s} {s0} {u} {v} {w} before spends does tests =
      round_unrolled before
      ∙ ap (λ q. and_then (and_then (and_then q (λ x. round_body)) (λ x. round_test)) done_or) spends
      ∙ ap (λ q. and_then (and_then q (λ x. round_test)) done_or) does
      ∙ ap (λ q. and_then q done_or) tests

  pub repeat_spend_stops : {s s0 u : Running Logged} {f : Stop} → StillDoes rounds s s0 → Leads spend s (Err f) u → Runs (Last rounds) s0 (Err f) u
  repeat_spend_stops {s} {s0} {u} {f} before stops = record {
    follows = follows_outcome rounds s0 (Err f) u round s (round_unrolled before)
        (follows_stops (spend >> round_body >> round_test) done_or s u f (follows_stops (spend >> round_body) (λ x. round_test) s u f (follows_stops spend (λ x. round_body) s u f stops)));
  }

  pub repeat_body_stops : {s s0 u v : Running Logged} {f : Stop} → StillDoes rounds s s0 → spend s ≡ Ok (tt, u) → Leads round_body u (Err f) v → Runs (Last rounds) s0 (Err f) v
  repeat_body_stops {s} {s0} {u} {v} {f} before spends stops = record {
    follows = follows_outcome rounds s0 (Err f) v round s (round_unrolled before)
        (follows_stops (spend >> round_body >> round_test) done_or s v f (follows_stops (spend >> round_body) (λ x. round_test) s v f (follows_then spend (λ x. round_body) s u v tt (Err f) spends stops)));
  }

  pub repeat_test_stops : {s s0 u v w : Running Logged} {f : Stop} → StillDoes rounds s s0 → spend s ≡ Ok (tt, u) → round_body u ≡ Ok (tt, v) → Leads round_test v (Err f) w → Runs (Last rounds) s0 (Err f) w
  repeat_test_stops {s} {s0} {u} {v} {w} {f} before spends does stops = record {
    follows = follows_outcome rounds s0 (Err f) w round s (round_unrolled before)
        (follows_stops (spend >> round_body >> round_test) done_or s w f (follows_then (spend >> round_body) (λ x. round_test) s v w tt (Err f) (ap (λ q. and_then q (λ x. round_body)) spends ∙ does) stops));
  }

-- ---- `for`

-- there is a turn
abbrev pub Comes : Direction → ℤ → Option ℤ → Type 0
Comes dir last None = Unit {0}
Comes dir last (Some n) = comes_to dir n last ≡ true

beginning_comes : (dir : Direction) (first last : ℤ) → Comes dir last (beginning dir first last)
beginning_comes dir first last = by (comes_to dir first last) refl
  where
    by : (b : Bool) → comes_to dir first last ≡ b → Comes dir last (cond b (Some first) None)
    by true e = e
    by false e = tt

-- the turns that are left behind one
turns_left : (dir : Direction) (n last : ℤ) → comes_to dir n last ≡ true → turns_of dir (next_of dir n) last ≡ nat_abs (last -ℤ n)
turns_left direction.To n last comes = grind (arith, nat_tests, ints)
turns_left direction.Downto n last comes = grind (arith, nat_tests, ints)

module _ (dir : Direction) (last : ℤ) (set : ℤ → Do Logged) (unset body : Do Logged) where
  -- the turns from the value of the next one on
  abbrev pub counting : Option ℤ → Do Logged
  counting None = unset
  counting (Some n) = loops.count_loop dir n last set unset body

  counting_turns : (n : ℤ) → counting (beginning dir n last) ≡ count_turns (turns_of dir n last) dir n set unset body
  unfolding loops.count_loop
  counting_turns n = by (comes_to dir n last) refl
    where
      by : (b : Bool) → comes_to dir n last ≡ b → counting (cond b (Some n) None) ≡ count_turns (turns_of dir n last) dir n set unset body
      by true e = refl
      by false e = sym (ap (λ (c : Bool). count_turns (cond c (nat_abs (last -ℤ n) + 1) 0) dir n set unset body) e)

  count_starts : (first : ℤ) → loops.count_loop dir first last set unset body ≡ counting (beginning dir first last)
  unfolding loops.count_loop
  count_starts first = sym (counting_turns first)

  count_unrolls : (n : ℤ) → comes_to dir n last ≡ true → counting (Some n) ≡ (spend >> set n >> body >> counting (following dir n last))
  unfolding loops.count_loop
  count_unrolls n comes =
      let turns : turns_of dir n last ≡ suc (nat_abs (last -ℤ n)) = ap (λ (c : Bool). cond c (nat_abs (last -ℤ n) + 1) 0) comes ∙ add-one (nat_abs (last -ℤ n)) in
      ap (λ (k : ℕ). count_turns k dir n set unset body) turns
      ∙ ap (λ (k : ℕ). spend >> set n >> body >> count_turns k dir (next_of dir n) set unset body) (sym (turns_left dir n last comes))
      ∙ ap (λ (q : Do Logged). spend >> set n >> body >> q) (sym (counting_turns (next_of dir n)))

module _ (t : Scoped) (h : Environment) (d : Denoter) (p : Place) (first : ℤ) (dir : Direction) (last : ℤ) (x : Stmt) where
  abbrev set_to : ℤ → Do Logged
  set_to n = store_ordinal Logged on_log d p n

  abbrev unset : Do Logged
  unset = blank_at Logged on_log p

  abbrev turn_body : Do Logged
  turn_body = stmt t h x

  abbrev turns : Do Logged
  turns = count_loop t h d p first dir last x

  abbrev behind : Option ℤ → Do Logged
  behind o = counting dir last set_to unset turn_body o

  abbrev turn : ℤ → Do Logged
  turn n = spend >> set_to n >> turn_body >> behind (following dir n last)

  -- the turns from that with this value on do what the whole loop does, and there is such a turn
  pub record TurnsFrom (o : Option ℤ) (s s0 : Running Logged) : Type 0 where
    pub same : behind o s ≡ turns s0
    pub comes : Comes dir last o

  pub count_begins : {s : Running Logged} → TurnsFrom (beginning dir first last) s s
  count_begins {s} = record { same = ap (λ (q : Do Logged). q s) (sym (count_starts dir last set_to unset turn_body first)); comes = beginning_comes dir first last }

  turn_unrolled : {n : ℤ} {s s0 : Running Logged} → TurnsFrom (Some n) s s0 → turns s0 ≡ turn n s
  turn_unrolled {n} {s} before = sym before.same ∙ ap (λ (q : Do Logged). q s) (count_unrolls dir last set_to unset turn_body n before.comes)

  pub count_turn : {n : ℤ} {s s0 u v w : Running Logged} → TurnsFrom (Some n) s s0 → spend s ≡ Ok (tt, u) → set_to n u ≡ Ok (tt, v) → turn_body v ≡ Ok (tt, w) → TurnsFrom (following dir n last) w s0
  count_turn {n} {s} {s0} {u} {v} {w} before spends sets does = record {
    same = sym (ap (λ q. and_then q (λ x. behind (following dir n last))) does)
        ∙ sym (ap (λ q. and_then (and_then q (λ x. turn_body)) (λ x. behind (following dir n last))) sets)
        ∙ sym (ap (λ q. and_then (and_then (and_then q (λ x. set_to n)) (λ x. turn_body)) (λ x. behind (following dir n last))) spends)
        ∙ sym (turn_unrolled before);
    comes = beginning_comes dir (next_of dir n) last;
  }

  pub count_takes : {n : ℤ} {s s0 u v w : Running Logged} → TurnsFrom (Some n) s s0 → spend s ≡ Ok (tt, u) → set_to n u ≡ Ok (tt, v) → turn_body v ≡ Ok (tt, w) → w.left < s.left
  count_takes {n} {s} {s0} {u} {v} {w} before spends sets does = omega (arith, spend_takes s u spends, keeps_units (set_to n) (store_ordinal_never Logged on_log d p n) u v tt sets, keeps_units turn_body (stmt_never t h x) v w tt does)

  pub count_ends : {s s0 : Running Logged} {r : Result (Unit {0}) Stop} {u : Running Logged} → TurnsFrom None s s0 → Leads unset s r u → Runs (Last turns) s0 r u
  count_ends {s} {s0} {r} {u} before does = record { follows = follows_outcome turns s0 r u unset s (sym before.same) does }

  pub count_spend_stops : {n : ℤ} {s s0 u : Running Logged} {f : Stop} → TurnsFrom (Some n) s s0 → Leads spend s (Err f) u → Runs (Last turns) s0 (Err f) u
  count_spend_stops {n} {s} {s0} {u} {f} before stops = record {
    follows = follows_outcome turns s0 (Err f) u (turn n) s (turn_unrolled before)
        (follows_stops (spend >> set_to n >> turn_body) (λ x. behind (following dir n last)) s u f (follows_stops (spend >> set_to n) (λ x. turn_body) s u f (follows_stops spend (λ x. set_to n) s u f stops)));
  }

  pub count_set_stops : {n : ℤ} {s s0 u v : Running Logged} {f : Stop} → TurnsFrom (Some n) s s0 → spend s ≡ Ok (tt, u) → Leads (set_to n) u (Err f) v → Runs (Last turns) s0 (Err f) v
  count_set_stops {n} {s} {s0} {u} {v} {f} before spends stops = record {
    follows = follows_outcome turns s0 (Err f) v (turn n) s (turn_unrolled before)
        (follows_stops (spend >> set_to n >> turn_body) (λ x. behind (following dir n last)) s v f (follows_stops (spend >> set_to n) (λ x. turn_body) s v f (follows_then spend (λ x. set_to n) s u v tt (Err f) spends stops)));
  }

  pub count_body_stops : {n : ℤ} {s s0 u v w : Running Logged} {f : Stop} → TurnsFrom (Some n) s s0 → spend s ≡ Ok (tt, u) → set_to n u ≡ Ok (tt, v) → Leads turn_body v (Err f) w → Runs (Last turns) s0 (Err f) w
  count_body_stops {n} {s} {s0} {u} {v} {w} {f} before spends sets stops = record {
    follows = follows_outcome turns s0 (Err f) w (turn n) s (turn_unrolled before)
        (follows_stops (spend >> set_to n >> turn_body) (λ x. behind (following dir n last)) s w f (follows_then (spend >> set_to n) (λ x. turn_body) s v w tt (Err f) (ap (λ o. and_then o (λ x. set_to n)) spends ∙ sets) stops));
  }

pub count_same : (t : Scoped) (h : Environment) (d : Denoter) (p : Place) (first first' : ℤ) (dir : Direction) (last last' : ℤ) (x : Stmt) → first' ≡ first → last' ≡ last → Is (count_loop t h d p first dir last x) (Last (count_loop t h d p first' dir last' x))
count_same t h d p first first' dir last last' x begins ends = record { is = ap (λ (n : ℤ). count_loop t h d p n dir last x) (sym begins) ∙ ap (λ (n : ℤ). count_loop t h d p first' dir n x) (sym ends) }

pub none_comes : (o : Option ℤ) → ((n : ℤ) → o ≡ Some n → ⊥) → o ≡ None
none_comes None nothing = refl
none_comes (Some n) nothing = absurd (nothing n refl)
