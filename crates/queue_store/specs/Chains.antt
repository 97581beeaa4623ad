-- Chains of slots: each slot tells the next one, so that a queue is its first slot, its last one and its length.
use Rattle.std.specs.Prelude.{◌≡◌, ℕ, zero, suc, ◌-◌, ◌<◌, ◌≤◌, Bool, false, nat_eq, if◌then◌else◌, List, [], ◌∷◌, count_by, sum_by, Option, Some, None, is_some}
use Rattle.slab.specs.Slab.{Slab, get}
use Rattle.queue_store.specs.declared.chain.Node.{Node}
use Rattle.queue_store.specs.declared.chain.Chain.{Chain}

module _ {T : Type 0} where
  -- the slot after a slot
  abbrev pub next_of : Option (Node T) → ℕ
  next_of None = 0
  next_of (Some n) = n.next

  -- what lies in a slot: the number of an interaction point, and an item
  abbrev pub load_of : Option (Node T) → Option (ℕ × T)
  load_of None = None
  load_of (Some n) = Some (n.ip, n.item)

  -- what lies there waits at this number
  abbrev pub loaded_at : ℕ → Option (ℕ × T) → Bool
  loaded_at ip None = false
  loaded_at ip (Some x) = nat_eq x.0 ip

  abbrev pub next_in : Slab (Node T) → ℕ → ℕ
  next_in nodes k = next_of (get nodes k)

  abbrev pub load_in : Slab (Node T) → ℕ → Option (ℕ × T)
  load_in nodes k = load_of (get nodes k)

-- so many slots, from a first one on
abbrev pub slots_from : (ℕ → ℕ) → ℕ → ℕ → List ℕ
slots_from next zero k = []
slots_from next (suc n) k = k ∷ slots_from next n (next k)

-- the slot so many steps after another
abbrev pub end_from : (ℕ → ℕ) → ℕ → ℕ → ℕ
end_from next zero k = k
end_from next (suc n) k = end_from next n (next k)

-- the slots of a chain
abbrev pub slots : (ℕ → ℕ) → Chain → List ℕ
slots next c = slots_from next c.len c.first

module _ {X : Type 0} where
  abbrev pub with_load : Option X → List X → List X
  with_load None xs = xs
  with_load (Some x) xs = x ∷ xs

  -- what lies in these slots
  abbrev pub held : (ℕ → Option X) → List ℕ → List X
  held load [] = []
  held load (k ∷ ks) = with_load (load k) (held load ks)

-- how often a slot is in a list of slots
abbrev pub times : ℕ → List ℕ → ℕ
times k = count_by (λ j. nat_eq j k)

-- how often a slot is in chains
abbrev pub times_in : (ℕ → ℕ) → List Chain → ℕ → ℕ
times_in next cs k = sum_by (λ c. times k (slots next c)) cs

-- the last slot of a chain is the one that it tells
abbrev pub Ends : (ℕ → ℕ) → Chain → Type 0
Ends next c = 0 < c.len → end_from next (c.len - 1) c.first ≡ c.last

abbrev pub AllEnd : (ℕ → ℕ) → List Chain → Type 0
AllEnd next [] = Unit {0}
AllEnd next (c ∷ cs) = Ends next c × AllEnd next cs

-- Each slot with something in it is in at most one chain, once; a vacant one is in none. All slots with something in them are in chains.
pub record Sound {X : Type 0} (load : ℕ → Option X) (next : ℕ → ℕ) (filled : ℕ) (cs : List Chain) : Type 0 where
  pub once : (k : ℕ) → times_in next cs k ≤ (if is_some (load k) then 1 else 0)
  pub ends : AllEnd next cs
  pub all : filled ≡ sum_by (λ c. c.len) cs
