-- Examples of a common queue: what a transition finds where the head waits at the other interaction point.
-- The points p and q of an instance are its 0 and 1; the interaction 1 came to p, and then 2 to q.
use Rattle.std.proofs.Common.{◌≡◌, ℕ, true, false, List, [], ◌∷◌, Option, Some, None, ap, ◌∙◌}
use Rattle.std.specs.Prelude.{if◌then◌else◌}
use Rattle.std.specs.FinMap as map
use Rattle.estelle_tree.specs.declared.link.IpAddr.{IpAddr}
use Rattle.estelle_tree.specs.Paths.{Path}
use Rattle.estelle_model.specs.declared.job.Guard.TheVariants.{Off}
use Rattle.estelle_model.specs.Core.{Instance}
use Rattle.estelle_model.specs.Transitions.{When, Transition}
use Rattle.estelle_model.specs.Subject.{Subject, transition}
use Rattle.estelle_model.specs.Situation.{Situation}
use Rattle.estelle_model.specs.Queues.{Head, Absent, is_common, queue, without_head, found}
use Rattle.estelle_model.specs.Firing.{is_in_state, guard_found, guard_of, guard_at, guard}
use Rattle.estelle_model.specs.Actions.{at}
use Rattle.estelle_model.proofs.WorkedLinks.{interaction, waits}

abbrev hub : Path
hub = 2 ∷ []

abbrev p : IpAddr
p = at hub 0

abbrev q : IpAddr
q = at hub 1

-- `when p.m` and `when q.m`
abbrev when_p : When
when_p = record { ip = 0; name = [] }

abbrev when_q : When
when_q = record { ip = 1; name = [] }

module _ (s : Subject) (g : Situation) (mail : g.mail ≡ waits 1 p ∷ waits 2 q ∷ []) where
  -- ---- with a common queue

  module _ (common_p : is_common s g.core.instances p ≡ true) (common_q : is_common s g.core.instances q ≡ true) where
    pub one_queue : queue s g q ≡ waits 1 p ∷ waits 2 q ∷ []
    one_queue = simp (mail, common_p, common_q)

    pub same_queue : queue s g p ≡ waits 1 p ∷ waits 2 q ∷ []
    same_queue = simp (mail, common_p, common_q)

    -- its head waits at p, so that `when q.m` finds none
    pub absent_at_q : found s g hub (Some when_q) ≡ Absent
    absent_at_q = simp (mail, common_p, common_q)

    pub head_at_p : found s g hub (Some when_p) ≡ Head (interaction 1)
    head_at_p = simp (mail, common_p, common_q)

    -- once that is taken, 2 is the head
    pub next_head : without_head s g p g.mail ≡ waits 2 q ∷ []
    next_head = simp (mail, common_p, common_q)

    -- a transition with `when q.m` alone is not enabled, whatever else its clauses say
    pub not_enabled : (budget : ℕ) (i : Instance) (t : Transition) → map.get g.core.instances hub ≡ Some i → transition s i.body 1 ≡ Some t → t.from ≡ None → t.when ≡ Some when_q → guard s budget g hub 1 ≡ Off
    not_enabled budget i t there its from when =
        let timed = map.contains_key g.timers (record { path = hub; trans = 1 }) in
        ap (guard_at s budget g hub 1) there
        ∙ ap (guard_of s budget g hub timed i) its
        ∙ ap (λ (states : Option (List ℕ)). if is_in_state states i.state then guard_found s budget g hub t timed (found s g hub t.when) else Off) from
        ∙ ap (λ (w : Option When). guard_found s budget g hub t timed (found s g hub w)) when
        ∙ ap (guard_found s budget g hub t timed) absent_at_q

  -- ---- with queues of their own

  module _ (own_q : is_common s g.core.instances q ≡ false) where
    pub own_queue : queue s g q ≡ waits 2 q ∷ []
    own_queue = simp (mail, own_q)

    pub head_at_q : found s g hub (Some when_q) ≡ Head (interaction 2)
    head_at_q = simp (mail, own_q)
