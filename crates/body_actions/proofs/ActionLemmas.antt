-- The plans of statements of Estelle on a walk, step by step.
use Rattle.std.proofs.Common.{◌≡◌, ℕ, suc, ◌+◌, ◌-◌, ◌<◌, ◌≤◌, Bool, true, false, List, map as each, Option, Some, None, Ok, Err, refl, sym, ap, ◌∙◌, add-one, arith}
use Rattle.std.specs.Prelude.{◌&&◌, ◌||◌}
use Rattle.pascal_values.specs.declared.fault.Fault.TheVariants.{LinkTaken, LinkAbsent}
use Rattle.pascal_values.specs.declared.value.Value.{Value}
use Rattle.estelle_tree.specs.declared.link.IpAddr.{IpAddr}
use Rattle.estelle_tree.specs.Paths.{Path}
use Rattle.estelle_tree.specs.Links.{above}
use Rattle.estelle_model.specs.declared.meaning.Meaning.{Meaning}
use Rattle.estelle_model.specs.Belonging.{are_values_of}
use Rattle.estelle_model.specs.Core.{Core}
use Rattle.estelle_model.specs.Effects.{StatementEffect, Output, Connect, Disconnect, Attach, Detach}
use Rattle.estelle_model.specs.States.{Logged, on_log}
use Rattle.estelle_model.specs.Stops.{Stop, Faults, Broken}
use Rattle.estelle_model.specs.Steps.{and_then, checked_at}
use Rattle.estelle_model.specs.Plans.{Plan, ◌>>=◌, makes, stops_if, stops_unless, fails_if, fails_unless, for_each}
use Rattle.estelle_model.specs.Subject.{Subject}
use Rattle.estelle_model.specs.InteractionPoints.{point, connectable_at, external_at, may_connect, may_attach}
use Rattle.estelle_model.specs.Actions.{is_bound, is_connected, is_upper, at, count_from, is_sent_at, connect_points, disconnect_where, disconnect_if, detach_above, detach_if, disconnect_point, attach_points, detach_point, output_at}
use Rattle.estelle_model.specs.Definitions.{types_received}
use Rattle.estelle_model.proofs.Carried.{carry_then}
use Rattle.body_state.specs.Progress.{Progress, running, after}
use Rattle.body_state.specs.Follows.{carried}

-- ---- tests, and effects

module _ {B : Type 0} (rest : Plan B) (e : Stop) (w : Progress) where
  pub passes : (test : Core → Bool) (b : Bool) → b ≡ test (running w).state.image → b ≡ true → carried (fails_unless test e >>= λ u. rest) (running w) ≡ carried rest (running w)
  passes test b is so = ap (λ c. and_then (checked_at (stops_unless c e) (running w)) (λ u. carried rest)) (sym is ∙ so)

  pub stops : (test : Core → Bool) (b : Bool) → b ≡ test (running w).state.image → b ≡ false → carried (fails_unless test e >>= λ u. rest) (running w) ≡ Err (e, w.left)
  stops test b is not_so = ap (λ c. and_then (checked_at (stops_unless c e) (running w)) (λ u. carried rest)) (sym is ∙ not_so)

  pub goes_on : (test : Core → Bool) (b : Bool) → b ≡ test (running w).state.image → b ≡ false → carried (fails_if test e >>= λ u. rest) (running w) ≡ carried rest (running w)
  goes_on test b is not_so = ap (λ c. and_then (checked_at (stops_if c e) (running w)) (λ u. carried rest)) (sym is ∙ not_so)

  pub fails : (test : Core → Bool) (b : Bool) → b ≡ test (running w).state.image → b ≡ true → carried (fails_if test e >>= λ u. rest) (running w) ≡ Err (e, w.left)
  fails test b is so = ap (λ c. and_then (checked_at (stops_if c e) (running w)) (λ u. carried rest)) (sym is ∙ so)

pub made : (e : StatementEffect) (w n : Progress) → n ≡ after e w → carried (makes e) (running w) ≡ Ok (tt, running n)
made e w n is = ap (λ (m : Progress). Ok (tt, running m)) (sym is)

module _ (s : Subject) where
  -- ---- connect

  module _ (p : Path) (a b : IpAddr) (w : Progress) where
    abbrev may : Core → Bool
    may c = may_connect s c.instances p a b

    abbrev bound : Core → Bool
    bound c = is_bound a c.links || is_bound b c.links

    abbrev joined : Plan (Unit {0})
    joined = fails_if bound (Faults LinkTaken) >>= λ free. makes (Connect a b)

    pub connect_refused : (r : Bool) → r ≡ may_connect s w.instances p a b → r ≡ false → carried (connect_points s p a b) (running w) ≡ Err (Broken, w.left)
    connect_refused r is not_so = stops joined Broken w may r is not_so

    pub connect_taken : (r t : Bool) → r ≡ may_connect s w.instances p a b → r ≡ true → t ≡ (is_bound a w.links || is_bound b w.links) → t ≡ true → carried (connect_points s p a b) (running w) ≡ Err (Faults LinkTaken, w.left)
    connect_taken r t is so taken there = passes joined Broken w may r is so ∙ fails (makes (Connect a b)) (Faults LinkTaken) w bound t taken there

    pub connect_made : (r t : Bool) (n : Progress) → r ≡ may_connect s w.instances p a b → r ≡ true → t ≡ (is_bound a w.links || is_bound b w.links) → t ≡ false → n ≡ after (Connect a b) w → carried (connect_points s p a b) (running w) ≡ Ok (tt, running n)
    connect_made r t n is so taken free does = passes joined Broken w may r is so ∙ goes_on (makes (Connect a b)) (Faults LinkTaken) w bound t taken free ∙ made (Connect a b) w n does

  -- ---- disconnect

  module _ (p : Path) (a : IpAddr) (w : Progress) where
    abbrev may_cut : Core → Bool
    may_cut c = connectable_at p a (point s c.instances a)

    abbrev cut : Plan (Unit {0})
    cut = fails_unless (λ c. is_connected a c.links) (Faults LinkAbsent) >>= λ there. makes (Disconnect a)

    pub disconnect_refused : (r : Bool) → r ≡ connectable_at p a (point s w.instances a) → r ≡ false → carried (disconnect_point s p a) (running w) ≡ Err (Broken, w.left)
    disconnect_refused r is not_so = stops cut Broken w may_cut r is not_so

    pub disconnect_absent : (r t : Bool) → r ≡ connectable_at p a (point s w.instances a) → r ≡ true → t ≡ is_connected a w.links → t ≡ false → carried (disconnect_point s p a) (running w) ≡ Err (Faults LinkAbsent, w.left)
    disconnect_absent r t is so connected not_so = passes cut Broken w may_cut r is so ∙ stops (makes (Disconnect a)) (Faults LinkAbsent) w (λ c. is_connected a c.links) t connected not_so

    pub disconnect_made : (r t : Bool) (n : Progress) → r ≡ connectable_at p a (point s w.instances a) → r ≡ true → t ≡ is_connected a w.links → t ≡ true → n ≡ after (Disconnect a) w → carried (disconnect_point s p a) (running w) ≡ Ok (tt, running n)
    disconnect_made r t n is so connected there does = passes cut Broken w may_cut r is so ∙ passes (makes (Disconnect a)) (Faults LinkAbsent) w (λ c. is_connected a c.links) t connected there ∙ made (Disconnect a) w n does

  module _ (a : IpAddr) (w : Progress) where
    -- if it is connected
    pub cut_if : (t : Bool) (n : Progress) → t ≡ is_connected a w.links → t ≡ true → n ≡ after (Disconnect a) w → carried (disconnect_if s a) (running w) ≡ Ok (tt, running n)
    cut_if t n connected there does = ap (λ c. carried (disconnect_where s a c) (running w)) (sym connected ∙ there) ∙ made (Disconnect a) w n does

    pub not_cut : (t : Bool) → t ≡ is_connected a w.links → t ≡ false → carried (disconnect_if s a) (running w) ≡ Ok (tt, running w)
    not_cut t connected not_so = ap (λ c. carried (disconnect_where s a c) (running w)) (sym connected ∙ not_so)

    -- if it is a lower end
    pub detached_if : (upper : IpAddr) (n : Progress) → Some upper ≡ above w.links a → n ≡ after (Detach upper) w → carried (detach_if s a) (running w) ≡ Ok (tt, running n)
    detached_if upper n is does = ap (λ o. carried (detach_above s o) (running w)) (sym is) ∙ made (Detach upper) w n does

    pub not_detached : None ≡ above w.links a → carried (detach_if s a) (running w) ≡ Ok (tt, running w)
    not_detached is = ap (λ (o : Option IpAddr). carried (detach_above s o) (running w)) (sym is)

  -- ---- attach and detach

  module _ (upper lower : IpAddr) (w : Progress) where
    abbrev may_link : Core → Bool
    may_link c = may_attach s c.instances upper lower

    abbrev taken : Core → Bool
    taken c = is_upper upper c.links || is_bound lower c.links

    abbrev linked : Plan (Unit {0})
    linked = fails_if taken (Faults LinkTaken) >>= λ free. makes (Attach upper lower)

    pub attach_refused : (r : Bool) → r ≡ may_attach s w.instances upper lower → r ≡ false → carried (attach_points s upper lower) (running w) ≡ Err (Broken, w.left)
    attach_refused r is not_so = stops linked Broken w may_link r is not_so

    pub attach_taken : (r t : Bool) → r ≡ may_attach s w.instances upper lower → r ≡ true → t ≡ (is_upper upper w.links || is_bound lower w.links) → t ≡ true → carried (attach_points s upper lower) (running w) ≡ Err (Faults LinkTaken, w.left)
    attach_taken r t is so found there = passes linked Broken w may_link r is so ∙ fails (makes (Attach upper lower)) (Faults LinkTaken) w taken t found there

    pub attach_made : (r t : Bool) (n : Progress) → r ≡ may_attach s w.instances upper lower → r ≡ true → t ≡ (is_upper upper w.links || is_bound lower w.links) → t ≡ false → n ≡ after (Attach upper lower) w → carried (attach_points s upper lower) (running w) ≡ Ok (tt, running n)
    attach_made r t n is so found free does = passes linked Broken w may_link r is so ∙ goes_on (makes (Attach upper lower)) (Faults LinkTaken) w taken t found free ∙ made (Attach upper lower) w n does

  module _ (upper : IpAddr) (w : Progress) where
    abbrev may_free : Core → Bool
    may_free c = external_at (point s c.instances upper)

    abbrev freed : Plan (Unit {0})
    freed = fails_unless (λ c. is_upper upper c.links) (Faults LinkAbsent) >>= λ there. makes (Detach upper)

    pub detach_refused : (r : Bool) → r ≡ external_at (point s w.instances upper) → r ≡ false → carried (detach_point s upper) (running w) ≡ Err (Broken, w.left)
    detach_refused r is not_so = stops freed Broken w may_free r is not_so

    pub detach_absent : (r t : Bool) → r ≡ external_at (point s w.instances upper) → r ≡ true → t ≡ is_upper upper w.links → t ≡ false → carried (detach_point s upper) (running w) ≡ Err (Faults LinkAbsent, w.left)
    detach_absent r t is so there not_so = passes freed Broken w may_free r is so ∙ stops (makes (Detach upper)) (Faults LinkAbsent) w (λ c. is_upper upper c.links) t there not_so

    pub detach_made : (r t : Bool) (n : Progress) → r ≡ external_at (point s w.instances upper) → r ≡ true → t ≡ is_upper upper w.links → t ≡ true → n ≡ after (Detach upper) w → carried (detach_point s upper) (running w) ≡ Ok (tt, running n)
    detach_made r t n is so there bound does = passes freed Broken w may_free r is so ∙ passes (makes (Detach upper)) (Faults LinkAbsent) w (λ c. is_upper upper c.links) t there bound ∙ made (Detach upper) w n does

  -- ---- output

  module _ (ip word : List ℕ) (mean : Meaning) (values : List Value) (a : IpAddr) (w : Progress) where
    abbrev may_send : Core → Bool
    may_send c = is_sent_at (point s c.instances a) word mean && are_values_of (types_received mean) values

    pub output_refused : (r : Bool) → r ≡ may_send (running w).state.image → r ≡ false → carried (output_at s ip word mean values a) (running w) ≡ Err (Broken, w.left)
    output_refused r is not_so = stops (makes (Output a ip word values)) Broken w may_send r is not_so

    pub output_made : (r : Bool) (n : Progress) → r ≡ may_send (running w).state.image → r ≡ true → n ≡ after (Output a ip word values) w → carried (output_at s ip word mean values a) (running w) ≡ Ok (tt, running n)
    output_made r n is so does = passes (makes (Output a ip word values)) Broken w may_send r is so ∙ made (Output a ip word values) w n does

-- ---- something for each of so many interaction points

module _ (f : IpAddr → Plan (Unit {0})) (p : Path) (n : ℕ) where
  -- for those from a number on
  abbrev pub for_rest : ℕ → Plan (Unit {0})
  for_rest i = for_each f (each (at p) (count_from i (n - i)))

  pub point_turn : (i : ℕ) (w n' o : Progress) → i < n → carried (f (at p i)) (running w) ≡ Ok (tt, running n') → carried (for_rest i) (running w) ≡ carried (for_rest 0) (running o) → carried (for_rest (i + 1)) (running n') ≡ carried (for_rest 0) (running o)
  point_turn i w n' o below does before = rw add-one (
      sym (ap (λ r. and_then r (λ u. carried (for_rest (suc i)))) does)
      ∙ sym (carry_then Logged on_log (f (at p i)) (λ u. for_rest (suc i)) (running w))
      ∙ sym (ap (λ k. carried (for_each f (each (at p) (count_from i k))) (running w)) {x = n - i} {y = suc (n - suc i)} (omega (arith, below)))
      ∙ before)

  pub points_end : (i : ℕ) (w o : Progress) → n ≤ i → carried (for_rest i) (running w) ≡ carried (for_rest 0) (running o) → carried (for_each f (each (at p) (count_from 0 n))) (running o) ≡ Ok (tt, running w)
  points_end i w o past before =
      ap (λ k. carried (for_each f (each (at p) (count_from 0 k))) (running o)) {x = n} {y = n - 0} (omega arith)
      ∙ sym before
      ∙ ap (λ k. carried (for_each f (each (at p) (count_from i k))) (running w)) {x = n - i} {y = 0} (omega (arith, past))
