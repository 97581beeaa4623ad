-- What is computed of a guard on a log is the guard in each situation with this private part.
use Rattle.std.proofs.Common.{◌≡◌, ℕ, Bool, true, false, ◌&&◌, List, [], ◌∷◌, Option, Some, None, refl, sym, ap, cond, ◌∙◌}
use Rattle.std.specs.FinMap as map
use Rattle.estelle_tree.specs.declared.link.IpAddr.{IpAddr}
use Rattle.estelle_tree.specs.Paths.{Path}
use Rattle.estelle_tree.specs.Queues.{waits_at}
use Rattle.estelle_model.specs.declared.image.Image.{Image}
use Rattle.estelle_model.specs.declared.image.Interaction.{Interaction}
use Rattle.estelle_model.specs.declared.job.Guard.{Guard}
use Rattle.estelle_model.specs.declared.job.Guard.TheVariants.{Off}
use Rattle.estelle_model.specs.Core.{Instance, Instances}
use Rattle.estelle_model.specs.Transitions.{Transition, When}
use Rattle.estelle_model.specs.Subject.{Subject, transition}
use Rattle.estelle_model.specs.Situation.{Situation, Waiting}
use Rattle.estelle_model.specs.Queues.{Head, Absent, head_at, is_named, queue, found}
use Rattle.estelle_model.specs.Firing.{is_in_state, transition_at, guard_with, guard_found, guard_of, guard_at}
use Rattle.estelle_model.specs.Jobs.{private, Shows, MayActAlone, found_by}
use Rattle.estelle_model.specs.Computed.{core_of, values_of}
use Rattle.estelle_model.specs.Asked.{head_of, IsGuard, is_received, guard_by, guard_for, guard_of_image}
use Rattle.estelle_model.proofs.PrivateParts.{inside_self, get_inside, core_private}
use Rattle.estelle_model_answers.specs.Laws.{GuardsAreAnswered}

module _ (law : GuardsAreAnswered) (s : Subject) (p : Path) (image : Image) (n : ℕ) (head : Option Interaction) (timed : Bool) (budget : ℕ) where
  module _ (g : Situation) (legal : MayActAlone s g.core p) (shows : Shows image (private s g.core p)) where
    module _ (t : Transition) where
      abbrev with_head : Option Interaction → Guard
      with_head h = guard_with s budget g p t timed (values_of h)

      -- the head is what is found
      by_queue : (w : When) (a : IpAddr) (ws : List Waiting) → t.when ≡ Some w → head ≡ head_of (head_at a ws) → cond (is_received (Some w) head) (with_head head) Off ≡ guard_found s budget g p t timed (head_at a ws)
      by_queue w a [] e h = ap (λ x. cond (is_received (Some w) x) (with_head x) Off) h
      by_queue w a (x ∷ ws) e h = by_first (waits_at a x) h
        where
          by_first : (b : Bool) → head ≡ head_of (cond b (Head x.item) Absent) → cond (is_received (Some w) head) (with_head head) Off ≡ guard_found s budget g p t timed (cond b (Head x.item) Absent)
          by_first true k = ap (λ y. cond (is_received (Some w) y) (with_head y) Off) k ∙ ap (λ o. cond (is_named x.item o) (with_head (Some x.item)) Off) (sym e)
          by_first false k = ap (λ y. cond (is_received (Some w) y) (with_head y) Off) k

      by_when : (w : Option When) → t.when ≡ w → head ≡ head_of (found s g p w) → cond (is_received w head) (with_head head) Off ≡ guard_found s budget g p t timed (found s g p w)
      by_when None e h = ap with_head h
      by_when (Some w) e h = by_queue w (record { path = p; ip = w.ip }) (queue s g (record { path = p; ip = w.ip })) e h

      by_state : (b c : Bool) (x y : Guard) → cond c x Off ≡ y → cond (b && c) x Off ≡ cond b y Off
      by_state true c x y h = h
      by_state false c x y h = refl

    by_transition : (instance : Instance) (o : Option Transition) → head ≡ head_of (found_by s g p o) → guard_by s p image head timed budget instance o ≡ guard_of s budget g p timed instance o
    by_transition instance None h = refl
    by_transition instance (Some t) h = by_state t (is_in_state t.from instance.state) (is_received t.when head) _ _ (ap (λ x. cond (is_received t.when head) x Off) (law s g p image legal shows t (values_of head) timed budget) ∙ by_when t t.when refl h)

    by_instance : (o : Option Instance) → head ≡ head_of (found_by s g p (transition_at s n o)) → guard_for s p image n head timed budget o ≡ elim o as (λ x. Guard) [ None ↦ Off | Some i ↦ guard_of s budget g p timed i (transition s i.body n) ]
    by_instance None h = refl
    by_instance (Some i) h = by_transition i (transition s i.body n) h

  pub guard_answers : IsGuard s p image n head timed budget (guard_of_image s p image n head timed budget)
  guard_answers g asked =
      let core : map.get (core_of s image).instances p ≡ map.get g.core.instances p =
      ap (λ (x : Instances). map.get x p) (core_private s g.core p image asked.private) ∙ get_inside g.core.instances p p ∙ ap (λ b. cond b (map.get g.core.instances p) None) (inside_self p) in
      ap (guard_for s p image n head timed budget) core
      ∙ by_instance g asked.legal asked.private (map.get g.core.instances p) asked.finds
      ∙ answered_by (map.get g.core.instances p)
    where
      answered_by : (o : Option Instance) → elim o as (λ x. Guard) [ None ↦ Off | Some i ↦ guard_of s budget g p timed i (transition s i.body n) ] ≡ guard_at s budget g p n o
      answered_by None = refl
      answered_by (Some i) = ap (λ b. guard_of s budget g p b i (transition s i.body n)) asked.runs
