-- The queues of a situation as a list (ISO/IEC 9074: individual and common queues).
use Rattle.std.specs.Prelude.{ℕ, Bool, true, false, not, ◌&&◌, ◌||◌, if◌then◌else◌, List, [], ◌∷◌, ◌++◌, map as each, filter, drop}
use Rattle.std.specs.Str.{bytes_eq}
use Rattle.estelle_tree.specs.declared.link.IpAddr.{IpAddr}
use Rattle.estelle_tree.specs.Links.{same_ip}
use Rattle.estelle_tree.specs.Paths.{Path, is_inside}
use Rattle.estelle_tree.specs.Queues.{Waiting, brought_to, waiting, not_waiting}

-- a queue: whether it is a common one, the interaction points that are declared in it, and what waits there, in order
pub record Queue (T : Type 0) : Type 0 where
  pub common : Bool
  pub ips : List IpAddr
  pub items : List (Waiting T)

-- the queues, for how many more items, and for how many more interaction points there is memory
pub record Queues (T : Type 0) : Type 0 where
  pub queues : List (Queue T)
  pub spare : ℕ
  pub room : ℕ

-- ---- where an interaction point is

abbrev pub among : IpAddr → List IpAddr → Bool
among a [] = false
among a (b ∷ bs) = same_ip a b || among a bs

abbrev pub some_of : Path → List IpAddr → Bool
some_of p [] = false
some_of p (b ∷ bs) = bytes_eq p b.path || some_of p bs

abbrev pub some_inside : Path → List IpAddr → Bool
some_inside p [] = false
some_inside p (b ∷ bs) = is_inside p b.path || some_inside p bs

module _ {T : Type 0} where
  -- the interaction point is declared in the queue
  abbrev pub has : IpAddr → Queue T → Bool
  has a q = among a q.ips

  -- and in one of the queues
  abbrev pub is_declared : IpAddr → List (Queue T) → Bool
  is_declared a [] = false
  is_declared a (q ∷ qs) = has a q || is_declared a qs

  -- what waits in its queue
  abbrev pub queue_of : IpAddr → List (Queue T) → List (Waiting T)
  queue_of a [] = []
  queue_of a (q ∷ qs) = if has a q then q.items else queue_of a qs

  -- the common queue of an instance
  abbrev pub is_common_of : Path → Queue T → Bool
  is_common_of p q = q.common && some_of p q.ips

  abbrev pub has_common : Path → List (Queue T) → Bool
  has_common p [] = false
  has_common p (q ∷ qs) = is_common_of p q || has_common p qs

  -- the queue is one of the instance, or of one below it
  abbrev pub lies_inside : Path → Queue T → Bool
  lies_inside p q = some_inside p q.ips

  -- ---- what the calls do

  abbrev pub with_items : List (Waiting T) → Queue T → Queue T
  with_items ws q = record q { items = ws }

  -- the queue of an interaction point changes, and no other
  abbrev pub on_queue : IpAddr → (Queue T → Queue T) → List (Queue T) → List (Queue T)
  on_queue a f = each (λ q. if has a q then f q else q)

  abbrev pub joined : IpAddr → Queue T → Queue T
  joined a q = record q { ips = q.ips ++ a ∷ [] }

  abbrev pub new_queue : IpAddr → Bool → Queue T
  new_queue a common = record { common = common; ips = a ∷ []; items = [] }

  -- a queue of its own at the end of the list, or a place in the common queue of its instance
  abbrev pub declared : IpAddr → Bool → List (Queue T) → List (Queue T)
  declared a common qs =
      if common && has_common a.path qs then each (λ q. if is_common_of a.path q then joined a q else q) qs else qs ++ new_queue a common ∷ []

  abbrev pub waiting_at : IpAddr → T → Waiting T
  waiting_at a x = record { item = x; at = a }

  -- an item comes to the end of its queue
  abbrev pub pushed : IpAddr → T → List (Queue T) → List (Queue T)
  pushed a x = on_queue a (λ q. with_items (q.items ++ waiting_at a x ∷ []) q)

  -- the first of its queue is gone
  abbrev pub taken : IpAddr → List (Queue T) → List (Queue T)
  taken a = on_queue a (λ q. with_items (drop 1 q.items) q)

  -- what waits at one interaction point is gone from its queue, and stands, in its order, at the end of another's queue, where it waits
  abbrev pub moved_all : IpAddr → IpAddr → List (Queue T) → List (Queue T)
  moved_all a b qs =
      on_queue b (λ q. with_items (q.items ++ each (brought_to b) (waiting a (queue_of a qs))) q)
      (on_queue a (λ q. with_items (not_waiting a q.items) q) qs)

  -- the queues of an instance and of those below it are gone
  abbrev pub dropped_below : Path → List (Queue T) → List (Queue T)
  dropped_below p = filter (λ q. not (lies_inside p q))

  -- and this was in them, queue by queue
  abbrev pub items_below : Path → List (Queue T) → List T
  items_below p [] = []
  items_below p (q ∷ qs) = if lies_inside p q then each (λ w. w.item) q.items ++ items_below p qs else items_below p qs
