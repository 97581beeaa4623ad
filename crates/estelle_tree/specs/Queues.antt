-- Queues of interaction points, as lists: first in, first out (ISO/IEC 9074).
use Rattle.std.specs.Prelude.{Bool, not, if◌then◌else◌, List, [], ◌∷◌, ◌++◌, map as each, filter}
use Rattle.estelle_tree.specs.declared.link.IpAddr.{IpAddr}
use Rattle.estelle_tree.specs.Paths.{Path, is_inside}
use Rattle.estelle_tree.specs.Links.{same_ip}

-- an interaction, and the interaction point where it waits
pub record Waiting (T : Type 0) : Type 0 where
  pub item : T
  pub at : IpAddr

-- it waits at this interaction point
abbrev pub waits_at : {T : Type 0} → IpAddr → Waiting T → Bool
waits_at a w = same_ip a w.at

-- it waits at an instance or below it
abbrev pub waits_inside : {T : Type 0} → Path → Waiting T → Bool
waits_inside p w = is_inside p w.at.path

-- the same interaction at another interaction point
abbrev pub brought_to : {T : Type 0} → IpAddr → Waiting T → Waiting T
brought_to b w = record w { at = b }

-- what waits at one interaction point, in order
abbrev pub waiting : {T : Type 0} → IpAddr → List (Waiting T) → List (Waiting T)
waiting a = filter (waits_at a)

-- what waits in the queue that these interaction points have
abbrev pub in_queue : {T : Type 0} → (IpAddr → Bool) → List (Waiting T) → List (Waiting T)
in_queue belongs = filter (λ w. belongs w.at)

-- what is left once the first of a queue is taken
abbrev pub without_head : {T : Type 0} → (IpAddr → Bool) → List (Waiting T) → List (Waiting T)
without_head belongs [] = []
without_head belongs (w ∷ ws) = if belongs w.at then ws else w ∷ without_head belongs ws

-- without what waits at one interaction point
abbrev pub not_waiting : {T : Type 0} → IpAddr → List (Waiting T) → List (Waiting T)
not_waiting a = filter (λ w. not (waits_at a w))

-- what waits at one interaction point goes, in its order, to the end of another's queue
abbrev pub moved : {T : Type 0} → IpAddr → IpAddr → List (Waiting T) → List (Waiting T)
moved a b mail = not_waiting a mail ++ each (brought_to b) (waiting a mail)

-- without what waits at an instance or below it
abbrev pub outside_of : {T : Type 0} → Path → List (Waiting T) → List (Waiting T)
outside_of p = filter (λ w. not (waits_inside p w))
