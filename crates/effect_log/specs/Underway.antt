-- The shared state while effects are made, one after another: what the functions of this crate tell each other.
use Rattle.std.specs.Prelude.{◌≡◌, ◌≤◌, ◌<◌, ◌+◌, ◌^◌, ℕ, Bool, false, List, [], ◌∷◌, ◌++◌, length, map as each, reverse, filter, option_map, option_and_then, slice_get, fold, Option, Some, None, Contains, count_by, ◌==◌, IfSome, All, is_none, vec_capacity, true}
use Rattle.std.specs.FinMap as map
use Rattle.estelle_tree.specs.declared.link.IpAddr.{IpAddr}
use Rattle.estelle_tree.specs.declared.link.Link.{Link}
use Rattle.estelle_tree.specs.Paths.{Path, child, is_inside}
use Rattle.estelle_tree.specs.Links.{is_connection, route}
use Rattle.estelle_tree.specs.Queues.{waits_inside}
use Rattle.module_tree.specs.Trees as trees
use Rattle.queue_store.specs.Queues.{Queue, is_declared, declared, pushed, taken}
use Rattle.estelle_model.specs.declared.image.Part.{Part}
use Rattle.estelle_model.specs.declared.image.Interaction.{Interaction}
use Rattle.estelle_model.specs.declared.effect.Out.{Out}
use Rattle.estelle_model.specs.declared.effect.Effect.{Effect}
use Rattle.estelle_model.specs.Core.{Instance}
use Rattle.estelle_model.specs.Effects.{StatementEffect, Remove}
use Rattle.estelle_model.specs.Subject.{Subject, ips_of, transition}
use Rattle.estelle_model.specs.Situation.{Waiting, Situation, Acting, acting_after, outs_after}
use Rattle.estelle_model.specs.Queues.{common_at}
use Rattle.estelle_model.specs.Jobs.{logged_as, CanAllBeMade, IsIp, after_all}
use Rattle.effect_log.specs.declared.shared.Shared.{Shared}
use Rattle.effect_log.specs.declared.notes.Notes.{Notes}
use Rattle.effect_log.specs.Standing.{kept_of, AreQueuesOf}
use Rattle.effect_log.specs.Putting.{effect_of, effects_of, path_of, arrived_at, arrivals}
use Rattle.effect_log.specs.Rooms.{outputs_in, IsRoomFor}

-- ---- what the calls do to queues and records

-- an item comes to the end of the queue of a point, if there is one
abbrev pub sent : Interaction → Option IpAddr → List (Queue Interaction) → List (Queue Interaction)
sent item None qs = qs
sent item (Some a) qs = pushed a item qs

-- at most the last room was given away
abbrev pub HasGiven : List ℕ → List ℕ → Type 0
HasGiven old new = (given : List ℕ) × (old ≡ new ++ given) × (length given ≤ 1)

-- whether an interaction point shares the common queue of its instance, which is of this body
abbrev pub is_common_in : Subject → ℕ → IpAddr → Bool
is_common_in s body a = common_at (slice_get (ips_of s body) a.ip)

-- the interaction point at which a transition of a body receives, if it has a `when`
abbrev pub receives_at : Subject → ℕ → ℕ → Option ℕ
receives_at s body trans = option_and_then (λ t. option_map (λ w. w.ip) t.when) (transition s body trans)

-- the first item of the queue of a point is gone
abbrev pub head_taken : Path → Option ℕ → List (Queue Interaction) → List (Queue Interaction)
head_taken path None qs = qs
head_taken path (Some ip) qs = taken (record { path = path; ip = ip }) qs

-- the interaction points of an instance of this body are declared
abbrev pub declared_all : Subject → ℕ → List IpAddr → List (Queue Interaction) → List (Queue Interaction)
declared_all s body ips qs = fold (λ qs a. declared a (is_common_in s body a) qs) qs ips

-- none of them is declared when its turn comes
abbrev pub AllFresh : Subject → ℕ → List IpAddr → List (Queue Interaction) → Type 0
AllFresh s body [] qs = Unit {0}
AllFresh s body (a ∷ ips) qs = (is_declared a qs ≡ false) × AllFresh s body ips (declared a (is_common_in s body a) qs)

-- the records of the parts, the first one last
abbrev pub written : List Part → trees.Instances Part → trees.Instances Part
written [] instances = instances
written (p ∷ ps) instances = trees.changed (written ps instances) p.path (trees.with_other_part p)

-- ---- situations that the effects of a firing reach

-- links lie between interaction points that are there, and attachments go down; what waits does so at points that are there; the parent of an instance is there and has counted its birth
pub record IsSound (s : Subject) (g : Situation) : Type 0 where
  pub ends : (l : Link) → Contains g.core.links l → IsIp s g.core.instances l.first × IsIp s g.core.instances l.second
  pub down : (l : Link) → Contains g.core.links l → is_connection l.kind ≡ false → (k : ℕ) × (l.second.path ≡ child l.first.path k)
  pub waits : (w : Waiting) → Contains g.mail w → IsIp s g.core.instances w.at
  pub parents : (p : Path) (k : ℕ) (i : Instance) → map.get g.core.instances (child p k) ≡ Some i → (parent : Instance) × (map.get g.core.instances p ≡ Some parent) × (k ≤ parent.births)

-- ---- the records at and below an instance are written last

-- the body of an instance, and how many children it has had
abbrev pub outline_of : Instance → ℕ × ℕ
outline_of i = (i.body, i.births)

abbrev pub kept_outline : trees.Instance Part → ℕ × ℕ
kept_outline i = (i.part.body, i.births)

-- the shared state stands for a situation, but for the records at and below m, of which it has the bodies and the births
pub record StandsBut (s : Subject) (m : Path) (shared : Shared) (g : Situation) : Type 0 where
  pub others : (p : Path) → is_inside m p ≡ false → map.get shared.tree.instances p ≡ option_map (kept_of p) (map.get g.core.instances p)
  pub outlines : (p : Path) → option_map kept_outline (map.get shared.tree.instances p) ≡ option_map outline_of (map.get g.core.instances p)
  pub links : shared.links.links ≡ g.core.links
  pub queues : AreQueuesOf s g shared.queues.queues
  pub outputs : shared.outputs ≡ g.made

-- ---- one effect after another

-- the effect of a block, logged as it is handed on
abbrev pub IsLogged : Subject → Effect → Type 0
IsLogged s e = e ≡ logged_as s (effect_of e)

abbrev pub AreLogged : Subject → List Effect → Type 0
AreLogged s [] = Unit {0}
AreLogged s (e ∷ es) = IsLogged s e × AreLogged s es

-- in some situation these effects of the instance m can be made, and there is room for them
pub record MayGoOn (s : Subject) (effects : List Effect) (shared : Shared) (notes : Notes) : Type 0 where
  pub by : Path
  pub acting : Acting
  pub stands : StandsBut s by shared acting.situation
  pub sound : IsSound s acting.situation
  pub can_be_made : CanAllBeMade s by (effects_of effects) acting
  pub logged : AreLogged s effects
  pub room : IsRoomFor effects (length acting.situation.mail) shared notes
  pub numbers : shared.outputs + outputs_in effects < 2 ^ 64

-- an output can be made
pub record MaySend (from : IpAddr) (shared : Shared) (notes : Notes) : Type 0 where
  pub declared : IfSome (route shared.links.links from) (λ a. is_declared a shared.queues.queues ≡ true)
  pub wide : IfSome (route shared.links.links from) (λ a. All (λ room. length a.path ≤ room) notes.rooms.items)
  pub spare : 1 ≤ shared.queues.spare
  pub room : 0 < length notes.rooms.items
  pub arrivals : length notes.arrivals.items < vec_capacity notes.arrivals
  pub outs : length notes.outs.items < vec_capacity notes.outs
  pub number : shared.outputs + 1 < 2 ^ 64

-- the notes but for what an output gives are as before
pub record OthersStay (old new : Notes) : Type 0 where
  pub drops : new.drops.items ≡ old.drops.items
  pub drops_space : vec_capacity new.drops ≡ vec_capacity old.drops
  pub dropped : new.dropped.items ≡ old.dropped.items
  pub dropped_space : vec_capacity new.dropped ≡ vec_capacity old.dropped
  pub points : new.points.items ≡ old.points.items
  pub points_space : vec_capacity new.points ≡ vec_capacity old.points
  pub log : new.log.items ≡ old.log.items

-- it has the next number, and goes its way or is lost
pub record HasSent (from : IpAddr) (item : Interaction) (out : Out) (old new : Shared) (notes noted : Notes) : Type 0 where
  pub instances : new.tree.instances ≡ old.tree.instances
  pub instances_spare : new.tree.spare ≡ old.tree.spare
  pub links : new.links.links ≡ old.links.links
  pub links_spare : new.links.spare ≡ old.links.spare
  pub queues : new.queues.queues ≡ sent (record item { number = old.outputs + 1 }) (route old.links.links from) old.queues.queues
  pub spare : old.queues.spare ≤ new.queues.spare + 1
  pub room : new.queues.room ≡ old.queues.room
  pub outputs : new.outputs ≡ old.outputs + 1
  pub outs : noted.outs.items ≡ notes.outs.items ++ record out { lost = is_none (route old.links.links from) } ∷ []
  pub outs_space : vec_capacity noted.outs ≡ vec_capacity notes.outs
  pub arrivals : noted.arrivals.items ≡ notes.arrivals.items ++ path_of (route old.links.links from)
  pub arrivals_space : vec_capacity noted.arrivals ≡ vec_capacity notes.arrivals
  pub rooms : HasGiven notes.rooms.items noted.rooms.items
  pub others : OthersStay notes noted

-- how often a number is in a list
abbrev pub times : ℕ → List ℕ → ℕ
times n ns = count_by (λ m. m == n) ns

-- none is less than m
abbrev pub AllFrom : ℕ → List ℕ → Type 0
AllFrom m [] = Unit {0}
AllFrom m (n ∷ ns) = (m ≤ n) × AllFrom m ns

abbrev pub Rises : List ℕ → Type 0
Rises [] = Unit {0}
Rises (n ∷ ns) = AllFrom n ns × Rises ns

-- the numbers that an effect drops, in the order of the interactions
abbrev pub dropped_by : StatementEffect → List Waiting → List ℕ
dropped_by (Remove p k) mail = each (λ w. w.item.number) (filter (waits_inside (child p k)) mail)
dropped_by _ mail = []

-- these numbers were added to the drops, in some order
pub record HasDropped (old new numbers : List ℕ) : Type 0 where
  pub added : List ℕ
  pub drops : new ≡ old ++ added
  pub same : (n : ℕ) → times n added ≡ times n numbers

-- the effect was made: what is left may go on after it, and the notes have what it gave
pub record WasMade (s : Subject) (e : Effect) (rest : List Effect) (old new : Notes) (shared : Shared) (by : Path) (a : Acting) : Type 0 where
  pub next : MayGoOn s rest shared new
  pub same : next.by ≡ by
  pub after : next.acting ≡ acting_after (effect_of e) a
  pub outs : new.outs.items ≡ outs_after (effect_of e) a.situation.core.links old.outs.items
  pub arrivals : new.arrivals.items ≡ old.arrivals.items ++ arrived_at (effect_of e) a.situation.core.links
  pub drops : HasDropped old.drops.items new.drops.items (dropped_by (effect_of e) a.situation.mail)
  pub log : new.log.items ≡ old.log.items

-- ---- all of them

-- after what was noted before, the drops so far are noted in some order
pub record NotesDrops (before noted drops : List ℕ) : Type 0 where
  pub more : List ℕ
  pub behind : noted ≡ before ++ more
  pub same : (n : ℕ) → times n more ≡ times n drops
  pub rises : Rises drops

-- these effects were made, and the notes have what they gave
pub record HaveBeenMade (s : Subject) (effects : List Effect) (old new : Notes) (shared : Shared) (by : Path) (a : Acting) : Type 0 where
  pub stands : StandsBut s by shared (after_all (effects_of effects) a).situation
  pub outs : (before : List Out) → old.outs.items ≡ before ++ a.outs → new.outs.items ≡ before ++ (after_all (effects_of effects) a).outs
  pub drops : (before : List ℕ) → NotesDrops before old.drops.items a.drops → NotesDrops before new.drops.items (after_all (effects_of effects) a).drops
  pub arrivals : new.arrivals.items ≡ old.arrivals.items ++ arrivals (effects_of effects) a
  pub log : new.log.items ≡ []
  pub dropped : new.dropped.items ≡ []
  pub points : new.points.items ≡ []

-- some of them were made, and those that are left may go on
pub record IsOnTheWay (s : Subject) (effects : List Effect) (old new : Notes) (shared : Shared) (by : Path) (a : Acting) : Type 0 where
  pub now : MayGoOn s (reverse new.log.items) shared new
  pub same : now.by ≡ by
  pub left : after_all (effects_of (reverse new.log.items)) now.acting ≡ after_all (effects_of effects) a
  pub outs : (before : List Out) → old.outs.items ≡ before ++ a.outs → new.outs.items ≡ before ++ now.acting.outs
  pub drops : (before : List ℕ) → NotesDrops before old.drops.items a.drops → NotesDrops before new.drops.items now.acting.drops
  pub arrivals : new.arrivals.items ++ arrivals (effects_of (reverse new.log.items)) now.acting ≡ old.arrivals.items ++ arrivals (effects_of effects) a

-- ---- and then the records

-- the effects were made, the records written and the drops sorted
pub record HaveBeenPut (s : Subject) (effects : List Effect) (parts : List Part) (old new : Notes) (shared : Shared) (by : Path) (a : Acting) : Type 0 where
  pub made : Shared
  pub stands : StandsBut s by made (after_all (effects_of effects) a).situation
  pub tree : shared.tree.instances ≡ written parts made.tree.instances
  pub links : shared.links.links ≡ made.links.links
  pub queues : shared.queues.queues ≡ made.queues.queues
  pub outputs : shared.outputs ≡ made.outputs
  pub outs : a.outs ≡ [] → new.outs.items ≡ old.outs.items ++ (after_all (effects_of effects) a).outs
  pub drops : a.drops ≡ [] → new.drops.items ≡ old.drops.items ++ (after_all (effects_of effects) a).drops
  pub arrivals : new.arrivals.items ≡ old.arrivals.items ++ arrivals (effects_of effects) a
  pub rooms : new.rooms.items ≡ []
  pub dropped : new.dropped.items ≡ []
  pub log : new.log.items ≡ []
  pub points : new.points.items ≡ []
