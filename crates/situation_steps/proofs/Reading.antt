-- A guard does not read what is pending.
use Rattle.std.proofs.Common.{◌≡◌, ℕ, Bool, List, [], Option, Some, None, refl, sym, ap, cond, ◌∙◌}
use Rattle.std.specs.FinMap as map
use Rattle.pascal_values.specs.declared.value.Value.{Value}
use Rattle.estelle_tree.specs.declared.transition.Pair.{Pair}
use Rattle.estelle_tree.specs.Paths.{Path}
use Rattle.estelle_model.specs.declared.job.Guard.{Guard}
use Rattle.estelle_model.specs.declared.job.Guard.TheVariants.{Off}
use Rattle.estelle_model.specs.Core.{Instance}
use Rattle.estelle_model.specs.Transitions.{Transition}
use Rattle.estelle_model.specs.Subject.{Subject, transition}
use Rattle.estelle_model.specs.Situation.{Situation}
use Rattle.estelle_model.specs.Queues.{Found, NotNeeded, Head, Absent, found, is_named}
use Rattle.estelle_model.specs.Firing.{is_in_state, guard_with, guard_found, guard_of, guard_at, guard}
use Rattle.estelle_model.proofs.AlikeFirings.{guard_on_log}

module _ (s : Subject) (budget : ℕ) (g : Situation) (pending : List Pair) (p : Path) where
  abbrev h : Situation
  h = record g { pending = pending }

  same_with : (t : Transition) (timed : Bool) (values : List Value) → guard_with s budget h p t timed values ≡ guard_with s budget g p t timed values
  same_with t timed values = guard_on_log s budget h p t timed values ∙ sym (guard_on_log s budget g p t timed values)

  same_found : (t : Transition) (timed : Bool) (f : Found) → guard_found s budget h p t timed f ≡ guard_found s budget g p t timed f
  same_found t timed NotNeeded = same_with t timed []
  same_found t timed (Head i) = ap (λ (x : Guard). cond (is_named i t.when) x Off) (same_with t timed i.values)
  same_found t timed Absent = refl

  same_of : (timed : Bool) (i : Instance) (o : Option Transition) → guard_of s budget h p timed i o ≡ guard_of s budget g p timed i o
  same_of timed i None = refl
  same_of timed i (Some t) = ap (λ (x : Guard). cond (is_in_state t.from i.state) x Off) (same_found t timed (found s g p t.when))

  same_at : (n : ℕ) (o : Option Instance) → guard_at s budget h p n o ≡ guard_at s budget g p n o
  same_at n None = refl
  same_at n (Some i) = same_of (map.contains_key g.timers (record { path = p; trans = n })) i (transition s i.body n)

  pub guard_same : (n : ℕ) → guard s budget (record g { pending = pending }) p n ≡ guard s budget g p n
  guard_same n = same_at n (map.get g.core.instances p)
