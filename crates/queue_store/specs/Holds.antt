-- The queues as parts of the one list of what waits in a situation.
use Rattle.std.specs.Prelude.{◌≡◌, Bool, true, false, if◌then◌else◌, List, [], ◌∷◌}
use Rattle.estelle_tree.specs.declared.link.IpAddr.{IpAddr}
use Rattle.estelle_tree.specs.Queues.{Waiting, in_queue}
use Rattle.queue_store.specs.Queues.{Queue, among, has}

module _ {T : Type 0} where
  -- the interaction point is one of the queue
  abbrev pub belongs : Queue T → IpAddr → Bool
  belongs q a = among a q.ips

  -- each queue holds what waits at its interaction points
  abbrev pub holds : List (Queue T) → List (Waiting T) → Type 0
  holds [] mail = Unit {0}
  holds (q ∷ qs) mail = (q.items ≡ in_queue (belongs q) mail) × holds qs mail

  -- no interaction point of a queue is in one of these
  abbrev pub ApartFrom : Queue T → List (Queue T) → Type 0
  ApartFrom q [] = Unit {0}
  ApartFrom q (r ∷ rs) = ((a : IpAddr) → among a q.ips ≡ true → among a r.ips ≡ false) × ApartFrom q rs

  -- no interaction point is in two queues
  abbrev pub AllApart : List (Queue T) → Type 0
  AllApart [] = Unit {0}
  AllApart (q ∷ qs) = ApartFrom q qs × AllApart qs

  -- the interaction points that share the queue of one
  abbrev pub sharing : IpAddr → List (Queue T) → IpAddr → Bool
  sharing a [] b = false
  sharing a (q ∷ qs) b = if has a q then among b q.ips else sharing a qs b
