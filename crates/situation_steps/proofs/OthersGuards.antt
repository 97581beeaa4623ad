-- A guard is the same where its instance has the same private part, head and timer.
use Rattle.std.proofs.Common.{◌≡◌, ℕ, Bool, true, List, [], filter, Option, Some, None, refl, sym, ap, subst, cond, ◌∙◌, append-nil}
use Rattle.std.specs.FinMap as map
use Rattle.std.proofs.lemmas.List.Sorted.{IsPermutation-refl}
use Rattle.pascal_values.specs.declared.value.Value.{Value}
use Rattle.estelle_tree.specs.declared.link.IpAddr.{IpAddr}
use Rattle.estelle_tree.specs.Paths.{Path}
use Rattle.estelle_tree.specs.Timers.{pair}
use Rattle.estelle_model.specs.declared.image.Image.{Image}
use Rattle.estelle_model.specs.declared.job.Guard.{Guard}
use Rattle.estelle_model.specs.declared.job.Guard.TheVariants.{Off}
use Rattle.estelle_model.specs.Core.{Instance}
use Rattle.estelle_model.specs.Transitions.{Transition, When}
use Rattle.estelle_model.specs.Subject.{Subject, transition}
use Rattle.estelle_model.specs.Situation.{Waiting, Situation}
use Rattle.estelle_model.specs.Queues.{Found, NotNeeded, Head, Absent, queue, head_at, found, is_named}
use Rattle.estelle_model.specs.Firing.{is_in_state, guard_with, guard_found, guard_of, guard_at, guard}
use Rattle.estelle_model.specs.Jobs.{private, Shows, MayActAlone}
use Rattle.estelle_model_legality.specs.Jobs.{image_of}
use Rattle.estelle_model_answers.proofs.Answering.{guards_answered}
use Rattle.estelle_model_apart.proofs.Queues.{queue_grows}

module _ (s : Subject) (budget : ℕ) (g h : Situation) (q : Path) (there : map.get h.core.instances q ≡ map.get g.core.instances q) where
  -- ---- the head

  module _ (at : Path → Bool) (at_q : at q ≡ true) (mail : filter (λ (w : Waiting). at w.at.path) h.mail ≡ filter (λ (w : Waiting). at w.at.path) g.mail) where
    pub queue_same : (a : IpAddr) → a.path ≡ q → queue s h a ≡ queue s g a
    queue_same a e = queue_grows s g h q there at at_q [] (mail ∙ sym (append-nil (filter (λ (w : Waiting). at w.at.path) g.mail))) a e ∙ append-nil (queue s g a)

    found_same : (o : Option When) → found s h q o ≡ found s g q o
    found_same None = refl
    found_same (Some w) = let a : IpAddr = record { path = q; ip = w.ip } in ap (head_at a) (queue_same a refl)

    -- ---- what is evaluated

    module _ (may : MayActAlone s g.core q) (may' : MayActAlone s h.core q) (core : private s h.core q ≡ private s g.core q) where
      with_same : (t : Transition) (timed : Bool) (values : List Value) → guard_with s budget h q t timed values ≡ guard_with s budget g q t timed values
      with_same t timed values =
          let image : Image = image_of (private s g.core q) in
          let shows : Shows image (private s g.core q) = record { parts = refl; links = IsPermutation-refl (private s g.core q).links } in
          sym (guards_answered s h q image may' (subst (Shows image) (sym core) shows) t values timed budget) ∙ guards_answered s g q image may shows t values timed budget

      by_found : (t : Transition) (timed : Bool) (f : Found) → guard_found s budget h q t timed f ≡ guard_found s budget g q t timed f
      by_found t timed NotNeeded = with_same t timed []
      by_found t timed (Head i) = ap (λ (x : Guard). cond (is_named i t.when) x Off) (with_same t timed i.values)
      by_found t timed Absent = refl

      of_same : (timed : Bool) (i : Instance) (o : Option Transition) → guard_of s budget h q timed i o ≡ guard_of s budget g q timed i o
      of_same timed i None = refl
      of_same timed i (Some t) = ap (λ (x : Guard). cond (is_in_state t.from i.state) x Off) (ap (guard_found s budget h q t timed) (found_same t.when) ∙ by_found t timed (found s g q t.when))

      at_same : (n : ℕ) → map.contains_key h.timers (pair q n) ≡ map.contains_key g.timers (pair q n) → (o : Option Instance) → guard_at s budget h q n o ≡ guard_at s budget g q n o
      at_same n timers None = refl
      at_same n timers (Some i) = ap (λ (b : Bool). guard_of s budget h q b i (transition s i.body n)) timers ∙ of_same (map.contains_key g.timers (pair q n)) i (transition s i.body n)

      pub guard_same : (n : ℕ) → map.contains_key h.timers (pair q n) ≡ map.contains_key g.timers (pair q n) → guard s budget h q n ≡ guard s budget g q n
      guard_same n timers = ap (guard_at s budget h q n) there ∙ at_same n timers (map.get g.core.instances q)
