-- How rows are queues: the row of one interaction point of each queue has the queue's items.
use Rattle.std.specs.Prelude.{◌≡◌, ℕ, Bool, true, false, ◌&&◌, ◌<◌, ◌≤◌, nat_eq, if◌then◌else◌, List, [], ◌∷◌, ◌++◌, length, map as each, count_by, slice_get, Option, Some, None}
use Rattle.std.specs.Str.{bytes_eq}
use Rattle.estelle_tree.specs.declared.link.IpAddr.{IpAddr}
use Rattle.estelle_tree.specs.Links.{same_ip}
use Rattle.estelle_tree.specs.Paths.{Path}
use Rattle.estelle_tree.specs.Queues.{Waiting}
use Rattle.queue_store.specs.Rows.{Row, ip_at}
use Rattle.queue_store.specs.Queues.{Queue, among}

-- a row without its items
pub record Head : Type 0 where
  pub at : IpAddr
  pub common : Bool
  pub home : ℕ

-- the interaction point whose row has the queue's items
abbrev pub home_ip : Head → IpAddr
home_ip h = ip_at h.at.path h.home

abbrev pub lives_at : Path → ℕ → Head → Bool
lives_at p n h = bytes_eq p h.at.path && nat_eq n h.home

-- the interaction points of the queue of one of them
abbrev pub ips_in : List Head → Path → ℕ → List IpAddr
ips_in [] p n = []
ips_in (h ∷ hs) p n = if lives_at p n h then h.at ∷ ips_in hs p n else ips_in hs p n

abbrev pub heads_at : IpAddr → List Head → ℕ
heads_at a = count_by (λ h. same_ip a h.at)

module _ {T : Type 0} where
  abbrev pub head_of : Row T → Head
  head_of d = record { at = d.at; common = d.common; home = d.home }

  abbrev pub heads : List (Row T) → List Head
  heads = each head_of

  -- the row has the items of its queue
  abbrev pub owns : Row T → Bool
  owns d = nat_eq d.home d.at.ip

  abbrev pub waits_in : Path → ℕ × T → Waiting T
  waits_in p x = record { item = x.1; at = ip_at p x.0 }

  abbrev pub queue_in : List Head → Row T → Queue T
  queue_in hs d = record { common = d.common; ips = ips_in hs d.at.path d.home; items = each (waits_in d.at.path) d.items }

  abbrev pub queues_of : List Head → List (Row T) → List (Queue T)
  queues_of hs [] = []
  queues_of hs (d ∷ ds) = if owns d then queue_in hs d ∷ queues_of hs ds else queues_of hs ds

  -- an item waits at an interaction point of its queue
  abbrev pub AllKnown : List Head → Path → ℕ → List (ℕ × T) → Type 0
  AllKnown hs p n [] = Unit {0}
  AllKnown hs p n (x ∷ xs) = (among (ip_at p x.0) (ips_in hs p n) ≡ true) × AllKnown hs p n xs

  -- the other rows of a queue have no items
  pub record Filed (hs : List Head) (d : Row T) : Type 0 where
    pub guest : owns d ≡ false → d.items ≡ []
    pub known : AllKnown hs d.at.path d.home d.items

  abbrev pub AllFiled : List Head → List (Row T) → Type 0
  AllFiled hs [] = Unit {0}
  AllFiled hs (d ∷ ds) = Filed hs d × AllFiled hs ds

-- the home of a row is a row of the same queue
pub record HasHome (hs : List Head) (h : Head) : Type 0 where
  pub place : ℕ
  pub owner : Head
  pub there : slice_get hs place ≡ Some owner
  pub at : owner.at ≡ home_ip h
  pub home : owner.home ≡ h.home
  pub common : owner.common ≡ h.common

-- no interaction point has two rows, each row has a home, that of an individual queue is itself, and an instance has one common queue
pub record Housed (hs : List Head) : Type 0 where
  pub once : (a : IpAddr) → heads_at a hs ≤ 1
  pub homes : (i : ℕ) (h : Head) → slice_get hs i ≡ Some h → HasHome hs h
  pub own : (i : ℕ) (h : Head) → slice_get hs i ≡ Some h → h.common ≡ false → h.home ≡ h.at.ip
  pub one : (i j : ℕ) (h k : Head) → slice_get hs i ≡ Some h → slice_get hs j ≡ Some k → h.common ≡ true → k.common ≡ true → h.at.path ≡ k.at.path → h.home ≡ k.home

-- the home of the common queue of an instance
abbrev pub common_home : Path → List Head → Option ℕ
common_home p [] = None
common_home p (h ∷ hs) = if h.common && bytes_eq p h.at.path then Some h.home else common_home p hs

-- the number of each interaction point is below
abbrev pub AllBelow : ℕ → List Head → Type 0
AllBelow n [] = Unit {0}
AllBelow n (h ∷ hs) = (h.at.ip < n) × AllBelow n hs

module _ {T : Type 0} where
  -- no row of these has the queue of the interaction point
  abbrev pub NoneHas : List Head → IpAddr → List (Row T) → Type 0
  NoneHas hs a [] = Unit {0}
  NoneHas hs a (d ∷ ds) = (owns d ≡ true → among a (ips_in hs d.at.path d.home) ≡ false) × NoneHas hs a ds

  -- the row at this index has the queue of the interaction point
  pub record HomeAt (rows : List (Row T)) (a : IpAddr) (j : ℕ) : Type 0 where
    pub front : List (Row T)
    pub row : Row T
    pub back : List (Row T)
    pub is : rows ≡ front ++ row ∷ back
    pub at : length front ≡ j
    pub owner : owns row ≡ true
    pub path : row.at.path ≡ a.path
    pub mine : among a (ips_in (heads rows) row.at.path row.home) ≡ true
    pub before : NoneHas (heads rows) a front
    pub after : NoneHas (heads rows) a back
