-- The steps of a guard, one after another.
use Rattle.std.proofs.Common.{◌≡◌, Bool, true, false, List, [], Option, Some, None, Result, Ok, Err, refl, sym, ap, subst, cond, ◌∙◌}
use Rattle.pascal_values.specs.declared.value.Value.{Value}
use Rattle.estelle_tree.specs.declared.tree.expression.Expr.{Expr}
use Rattle.estelle_tree.specs.declared.tree.clause.DelayHigh.{DelayHigh}
use Rattle.estelle_tree.specs.declared.tree.clause.DelayHigh.TheVariants as high
use Rattle.estelle_model.specs.declared.job.Guard.{Guard}
use Rattle.estelle_model.specs.declared.job.Guard.TheVariants.{Off}
use Rattle.estelle_tree.specs.Paths.{Path}
use Rattle.estelle_model.specs.States.{Logged, on_log}
use Rattle.estelle_model.specs.Belonging.{are_values_of}
use Rattle.estelle_model.specs.Stops.{Broken}
use Rattle.estelle_model.specs.Steps.{Running, Step, and_then, ◌>>=◌, ◌>>◌, pure, breaks, checked}
use Rattle.estelle_model.specs.Operators.{bool_of}
use Rattle.estelle_model.specs.Meant.{Meanings}
use Rattle.estelle_model.specs.Expressions.{bool_step}
use Rattle.estelle_model.specs.Blocks.{enter_values, leave_values, with_values, clause_value}
use Rattle.estelle_model.specs.Transitions.{Transition, Delay}
use Rattle.estelle_model.specs.Subject.{Subject, meant_with}
use Rattle.estelle_model.specs.Acts.{act}
use Rattle.estelle_model.specs.Clauses.{in_clause, value_of_expr, provided_step, from_one, from_both, high_step, at_once, delay_step, guard_step}
use Rattle.body_values.specs.declared.stop.Stop.{Stop}
use Rattle.body_values.specs.Gives.{Gives}
use Rattle.body_state.specs.Follows.{Leads}
use Rattle.body_state.proofs.FollowLemmas.{follows_as, follows_checked, follows_then, follows_stops, follows_next, follows_stops_next}
use Rattle.body_walker.specs.Runs.{clause_begins, bounds_step}

abbrev pub ClauseLeads : Subject → Meanings → Path → Expr → Running Logged → Result Value Stop → Running Logged → Type 0
ClauseLeads s known p node old r new = Leads (clause_value Logged on_log known (act Logged on_log s known) p node) old r new

module _ (s : Subject) (t : Transition) (known : Meanings) (is : meant_with s t.chosen ≡ known) (p : Path) where
  value_as : (node : Expr) (old new : Running Logged) (r : Result Value Stop) → ClauseLeads s known p node old r new → Leads (value_of_expr Logged on_log s p t node) old r new
  value_as node old new r h = subst (λ k. Leads (clause_value Logged on_log k (act Logged on_log s k) p node) old r new) (sym is) h

  pub truth_ok : (node : Expr) (old u : Running Logged) (v : Value) (r : Result Bool Stop) → ClauseLeads s known p node old (Ok v) u → Gives (bool_of v) r → Leads (bool_step (value_of_expr Logged on_log s p t node)) old r u
  truth_ok node old u v r h g = follows_then (value_of_expr Logged on_log s p t node) (λ v. checked (bool_of v)) old u u v r (value_as node old u (Ok v) h) (follows_checked (bool_of v) r u g)

  pub truth_err : (node : Expr) (old u : Running Logged) (e : Stop) → ClauseLeads s known p node old (Err e) u → Leads (bool_step (value_of_expr Logged on_log s p t node)) old (Err e) u
  truth_err node old u e h = follows_stops (value_of_expr Logged on_log s p t node) (λ v. checked (bool_of v)) old u e (value_as node old u (Err e) h)

  -- ---- the values of a delay

  pub high_ok : (low w : Value) (o : DelayHigh) (node : Expr) (r : Result Guard Stop) (old u : Running Logged) → o ≡ high.Expr node → ClauseLeads s known p node old (Ok w) u → Gives (from_both Logged on_log s low w) r → Leads (high_step Logged on_log s p t low (Some o)) old r u
  high_ok low w o node r old u is_expr h g = subst (λ o. Leads (high_step Logged on_log s p t low (Some o)) old r u) (sym is_expr)
      (follows_then (value_of_expr Logged on_log s p t node) (λ w. checked (from_both Logged on_log s low w)) old u u w r (value_as node old u (Ok w) h) (follows_checked (from_both Logged on_log s low w) r u g))

  pub high_err : (low : Value) (o : DelayHigh) (node : Expr) (e : Stop) (old u : Running Logged) → o ≡ high.Expr node → ClauseLeads s known p node old (Err e) u → Leads (high_step Logged on_log s p t low (Some o)) old (Err e) u
  high_err low o node e old u is_expr h = subst (λ o. Leads (high_step Logged on_log s p t low (Some o)) old (Err e) u) (sym is_expr)
      (follows_stops (value_of_expr Logged on_log s p t node) (λ w. checked (from_both Logged on_log s low w)) old u e (value_as node old u (Err e) h))

  pub bounds_ok : (d : Delay) (node : Expr) (later : Option DelayHigh) (low : Value) (r : Result Guard Stop) (old u new : Running Logged) → node ≡ d.low → later ≡ d.high → ClauseLeads s known p node old (Ok low) u → Leads (high_step Logged on_log s p t low later) u r new → Leads (bounds_step s p t d) old r new
  bounds_ok d node later low r old u new first second h k = follows_then (value_of_expr Logged on_log s p t d.low) (λ v. high_step Logged on_log s p t v d.high) old u new low r
      (subst (λ e. Leads (value_of_expr Logged on_log s p t e) old (Ok low) u) first (value_as node old u (Ok low) h))
      (subst (λ o. Leads (high_step Logged on_log s p t low o) u r new) second k)

  pub bounds_err : (d : Delay) (node : Expr) (e : Stop) (old u : Running Logged) → node ≡ d.low → ClauseLeads s known p node old (Err e) u → Leads (bounds_step s p t d) old (Err e) u
  bounds_err d node e old u first h = follows_stops (value_of_expr Logged on_log s p t d.low) (λ v. high_step Logged on_log s p t v d.high) old u e (subst (λ n. Leads (value_of_expr Logged on_log s p t n) old (Err e) u) first (value_as node old u (Err e) h))

module _ (s : Subject) (t : Transition) (p : Path) where
  pub high_none : (low : Value) (o : Option DelayHigh) (r : Result Guard Stop) (u : Running Logged) → o ≡ None → Gives (from_both Logged on_log s low low) r → Leads (high_step Logged on_log s p t low o) u r u
  high_none low o r u is g = subst (λ o. Leads (high_step Logged on_log s p t low o) u r u) (sym is) (follows_checked (from_both Logged on_log s low low) r u g)

  pub high_star : (low : Value) (o : DelayHigh) (r : Result Guard Stop) (u : Running Logged) → o ≡ high.Star → Gives (from_one Logged on_log s low) r → Leads (high_step Logged on_log s p t low (Some o)) u r u
  high_star low o r u is g = subst (λ o. Leads (high_step Logged on_log s p t low (Some o)) u r u) (sym is) (follows_checked (from_one Logged on_log s low) r u g)

  pub high_some : (low : Value) (o : Option DelayHigh) (later : DelayHigh) (r : Result Guard Stop) (old new : Running Logged) → o ≡ Some later → Leads (high_step Logged on_log s p t low (Some later)) old r new → Leads (high_step Logged on_log s p t low o) old r new
  high_some low o later r old new is h = subst (λ o. Leads (high_step Logged on_log s p t low o) old r new) (sym is) h

-- ---- how a clause begins

module _ (t : Transition) (vs : List Value) where
  pub begin_unfit : (u : Running Logged) → are_values_of t.received vs ≡ false → clause_begins t vs u ≡ Err (Broken, u.left)
  begin_unfit u is = ap (λ b. (cond b (pure (tt {0})) breaks >> enter_values vs) u) is

  pub begin_fits : (ws : List Value) (r : Result (Unit {0}) Stop) (old new : Running Logged) → are_values_of t.received vs ≡ true → ws ≡ vs → Leads (enter_values ws) old r new → Leads (clause_begins t vs) old r new
  begin_fits ws r old new is same h = follows_as (clause_begins t vs) (enter_values vs) old new r (ap (λ b. (cond b (pure (tt {0})) breaks >> enter_values vs) old) is) (subst (λ us. Leads (enter_values us) old r new) same h)

module _ (s : Subject) (t : Transition) (p : Path) (vs : List Value) where
  -- ---- in a frame with what is received

  module _ {A : Type 0} (f : Step Logged A) where
    clause_is : (u : Running Logged) → in_clause Logged on_log s t vs f u ≡ (clause_begins t vs >> f >>= leave_values) u
    clause_is u = by (are_values_of t.received vs)
      where
        by : (b : Bool) → (cond b (pure (tt {0})) breaks >> with_values vs f) u ≡ (cond b (pure (tt {0})) breaks >> enter_values vs >> f >>= leave_values) u
        by true = refl
        by false = refl

    pub clause_ok : (a : A) (old u w new : Running Logged) → clause_begins t vs old ≡ Ok (tt, u) → f u ≡ Ok (a, w) → new ≡ record w { frames = [] } → in_clause Logged on_log s t vs f old ≡ Ok (a, new)
    clause_ok a old u w new begins does left = clause_is old ∙ ap (λ o. and_then (and_then o (λ x. f)) leave_values) begins ∙ ap (λ o. and_then o leave_values) does ∙ ap (λ n. Ok (a, n)) (sym left)

    pub clause_err : (e : Stop) (old u w : Running Logged) → clause_begins t vs old ≡ Ok (tt, u) → Leads f u (Err e) w → Leads (in_clause Logged on_log s t vs f) old (Err e) w
    clause_err e old u w begins stops = follows_as (in_clause Logged on_log s t vs f) (clause_begins t vs >> f >>= leave_values) old w (Err e) (clause_is old)
        (follows_stops (clause_begins t vs >> f) leave_values old w e (follows_next (clause_begins t vs) f old u w tt (Err e) begins stops))

    pub clause_stops : (e : Stop) (old u : Running Logged) → Leads (clause_begins t vs) old (Err e) u → Leads (in_clause Logged on_log s t vs f) old (Err e) u
    clause_stops e old u stops = follows_as (in_clause Logged on_log s t vs f) (clause_begins t vs >> f >>= leave_values) old u (Err e) (clause_is old)
        (follows_stops (clause_begins t vs >> f) leave_values old u e (follows_stops_next (clause_begins t vs) f old u e stops))

  -- ---- provided, and delays

  pub provided_some : (o : Option Expr) (node : Expr) (r : Result Bool Stop) (old new : Running Logged) → Some node ≡ o → Leads (provided_step Logged on_log s p t vs (Some node)) old r new → Leads (provided_step Logged on_log s p t vs o) old r new
  provided_some o node r old new is h = subst (λ o. Leads (provided_step Logged on_log s p t vs o) old r new) is h

  pub provided_none : (o : Option Expr) (u : Running Logged) → None ≡ o → provided_step Logged on_log s p t vs o u ≡ Ok (true, u)
  provided_none o u is = ap (λ o. provided_step Logged on_log s p t vs o u) (sym is)

  pub delay_none : (timed : Bool) (o : Option Delay) (g : Guard) (u : Running Logged) → None ≡ o → g ≡ at_once Logged on_log s → delay_step Logged on_log s p t vs timed o u ≡ Ok (g, u)
  delay_none timed o g u is same = ap (λ o. delay_step Logged on_log s p t vs timed o u) (sym is) ∙ ap (λ g. Ok (g, u)) (sym same)

  pub delay_timed : (timed : Bool) (o : Option Delay) (d : Delay) (g : Guard) (u : Running Logged) → Some d ≡ o → timed ≡ true → g ≡ at_once Logged on_log s → delay_step Logged on_log s p t vs timed o u ≡ Ok (g, u)
  delay_timed timed o d g u is on same = (λ i. delay_step Logged on_log s p t vs (on i) (sym is i) u) ∙ ap (λ g. Ok (g, u)) (sym same)

  pub delay_waits : (timed : Bool) (o : Option Delay) (d : Delay) (r : Result Guard Stop) (old new : Running Logged) → Some d ≡ o → timed ≡ false → Leads (delay_step Logged on_log s p t vs false (Some d)) old r new → Leads (delay_step Logged on_log s p t vs timed o) old r new
  delay_waits timed o d r old new is off h = subst (λ b. Leads (delay_step Logged on_log s p t vs b o) old r new) (sym off) (subst (λ o. Leads (delay_step Logged on_log s p t vs false o) old r new) is h)

  -- ---- the whole guard

  abbrev onward : Bool → Bool → Step Logged Guard
  onward timed holds = cond holds (delay_step Logged on_log s p t vs timed t.delay) (pure Off)

  pub guard_true : (timed holds : Bool) (r : Result Guard Stop) (old u new : Running Logged) → holds ≡ true → Leads (provided_step Logged on_log s p t vs t.provided) old (Ok holds) u → Leads (delay_step Logged on_log s p t vs timed t.delay) u r new → Leads (guard_step Logged on_log s p t vs timed) old r new
  guard_true timed holds r old u new so h k =
      follows_then (provided_step Logged on_log s p t vs t.provided) (onward timed) old u new true r
      (subst (λ b. Leads (provided_step Logged on_log s p t vs t.provided) old (Ok b) u) so h) k

  pub guard_false : (timed holds : Bool) (old u : Running Logged) → holds ≡ false → Leads (provided_step Logged on_log s p t vs t.provided) old (Ok holds) u → guard_step Logged on_log s p t vs timed old ≡ Ok (Off, u)
  guard_false timed holds old u off h = follows_then (provided_step Logged on_log s p t vs t.provided) (onward timed) old u u false (Ok Off)
      (subst (λ b. Leads (provided_step Logged on_log s p t vs t.provided) old (Ok b) u) off h) refl

  pub guard_err : (timed : Bool) (e : Stop) (old u : Running Logged) → Leads (provided_step Logged on_log s p t vs t.provided) old (Err e) u → Leads (guard_step Logged on_log s p t vs timed) old (Err e) u
  guard_err timed e old u h = follows_stops (provided_step Logged on_log s p t vs t.provided) (onward timed) old u e h
