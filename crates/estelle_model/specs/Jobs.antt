-- A firing that is computed apart from the situation: its job, what it answers, and how that is put into a situation.
use Rattle.std.specs.Prelude.{◌≡◌, ◌≢◌, ◌⊎◌, ℕ, zero, suc, Bool, true, false, not, ◌&&◌, ◌||◌, if◌then◌else◌, List, [], ◌∷◌, length, map as each, filter, fold, slice_get, Option, Some, None, IsTrue, Contains, IsPermutation}
use Rattle.std.specs.FinMap as map
use Rattle.estelle_tree.specs.declared.link.IpAddr.{IpAddr}
use Rattle.estelle_tree.specs.declared.link.Link.{Link}
use Rattle.estelle_model.specs.declared.image.Part.{Part}
use Rattle.estelle_model.specs.declared.image.Image.{Image}
use Rattle.estelle_model.specs.declared.image.Interaction.{Interaction}
use Rattle.estelle_model.specs.declared.effect.Effect.{Effect}
use Rattle.estelle_model.specs.declared.effect.Effect.TheVariants as logged
use Rattle.estelle_model.specs.declared.job.Job.{Job}
use Rattle.estelle_model.specs.declared.job.Done.{Done}
use Rattle.estelle_model.specs.declared.job.Outcome.{Outcome}
use Rattle.estelle_model.specs.declared.job.Outcome.TheVariants as outcome
use Rattle.estelle_tree.specs.Paths.{Path, child, is_inside}
use Rattle.estelle_tree.specs.Links.{is_connection, is_lower_of}
use Rattle.estelle_model.specs.declared.meaning.InteractionPoint.{InteractionPoint}
use Rattle.estelle_model.specs.Core.{Instance, Instances, Core}
use Rattle.estelle_model.specs.Effects.{StatementEffect, Output, Connect, Disconnect, Attach, Detach, Create, Remove}
use Rattle.estelle_model.specs.Transitions.{Transition}
use Rattle.estelle_model.specs.Subject.{Subject, types_of_variables, ips_of}
use Rattle.estelle_model.specs.InteractionPoints.{point, internal_at, may_connect, may_attach}
use Rattle.estelle_model.specs.Actions.{is_bound, is_connected, is_upper, at, count_from}
use Rattle.estelle_model.specs.Situation.{Situation, Acting, acting_after}
use Rattle.estelle_model.specs.Queues.{Found, NotNeeded, Head, Absent, found, received}
use Rattle.estelle_model.specs.Firing.{Firing, Ran, Failed, begun, untimed, taken, transition_at, fire, start, bare}

-- ---- instances as parts

abbrev pub part_of_entry : Path × Instance → Part
part_of_entry e = record { path = e.0; body = e.1.body; state = e.1.state; vars = e.1.variables; modvars = e.1.module_variables; births = e.1.births }

abbrev pub instance_of : Part → Instance
instance_of p = record { body = p.body; state = p.state; variables = p.vars; module_variables = p.modvars; births = p.births }

-- ---- the private part of an instance

-- an interaction point that is declared in the body, and not in its header
abbrev pub is_internal : Subject → Instances → IpAddr → Bool
is_internal s instances a = internal_at (point s instances a)

-- below m, or an internal interaction point of m
abbrev pub is_below_or_own : Subject → Instances → Path → IpAddr → Bool
is_below_or_own s instances m a = is_inside m a.path && (not (is_inside a.path m) || is_internal s instances a)

-- an attachment whose upper end is at or below m, or a connection with an end below m or at an internal interaction point of m
abbrev pub is_private : Subject → Instances → Path → Link → Bool
is_private s instances m l = if is_connection l.kind then is_below_or_own s instances m l.first || is_below_or_own s instances m l.second else is_inside m l.first.path

-- the instances at and below m, with the links that they made
abbrev pub private : Subject → Core → Path → Core
private s c m = record c { instances = map.retain_keys c.instances (is_inside m); links = filter (is_private s c.instances m) c.links }

-- an image shows just these instances, in path order, and these links, in any order
pub record Shows (image : Image) (c : Core) : Type 0 where
  pub parts : image.parts ≡ each part_of_entry (map.entries c.instances)
  pub links : IsPermutation image.links c.links

-- what holds in each legal situation, and lets an instance act on its private part alone
pub record MayActAlone (s : Subject) (c : Core) (m : Path) : Type 0 where
  -- the variables of each body have the types that are declared
  pub types : c.types ≡ types_of_variables s
  -- its module variables, and those of the instances below it, hold children
  pub children : (p : Path) (i : Instance) (v : ℕ) (held : Path) → is_inside m p ≡ true → map.get c.instances p ≡ Some i → slice_get i.module_variables v ≡ Some (Some held) → (k : ℕ) × (held ≡ child p k)
  -- an attachment whose lower end is below it, or an internal interaction point of its own, has its upper end at or below it
  pub attached : (l : Link) → Contains c.links l → is_connection l.kind ≡ false → is_below_or_own s c.instances m l.second ≡ true → is_inside m l.first.path ≡ true
  -- an interaction point is the lower end of at most one attachment
  pub once : (a : IpAddr) (l n : Link) → Contains c.links l → Contains c.links n → is_lower_of a l ≡ true → is_lower_of a n ≡ true → l.first ≡ n.first

-- ---- effects as they are logged

-- An effect of a block as it is logged. Until it is put into a situation an output has the number 0 and is not lost;
-- a new instance is as it was made, with its interaction points in declaration order.
abbrev pub logged_as : Subject → StatementEffect → Effect
logged_as s (Output from ip name values) = logged.Output from (record { number = 0; name = name; values = values }) (record { path = from.path; ip = ip; name = name; values = values; lost = false })
logged_as s (Connect a b) = logged.Connect a b
logged_as s (Disconnect a) = logged.Disconnect a
logged_as s (Attach upper lower) = logged.Attach upper lower
logged_as s (Detach upper) = logged.Detach upper
logged_as s (Create p k i) = logged.Create (child p k) (part_of_entry (child p k, i)) (each (at (child p k)) (count_from 0 (length (ips_of s i.body))))
logged_as s (Remove p k) = logged.Remove (child p k)

-- the log of a block as it is handed on
abbrev pub all_logged : Subject → List StatementEffect → List Effect
all_logged s = each (logged_as s)

-- ---- what is put into a situation

-- an instance of the path, or a child of it
abbrev pub IsOwnOrChild : Path → Path → Type 0
IsOwnOrChild n p = (p ≡ n) ⊎ ((k : ℕ) × (p ≡ child n k))

-- an instance at or below m may connect two different points, each its own internal one or a child's external one
pub record MayBeConnected (s : Subject) (m : Path) (instances : Instances) (a b : IpAddr) : Type 0 where
  pub by : Path
  pub inside : is_inside m by ≡ true
  pub first : IsOwnOrChild by a.path
  pub second : IsOwnOrChild by b.path
  pub allowed : IsTrue (may_connect s instances by a b)
  pub differ : a ≢ b

-- an instance at or below m may attach its external point to its child's
pub record MayBeAttached (s : Subject) (m : Path) (instances : Instances) (upper lower : IpAddr) : Type 0 where
  pub inside : is_inside m upper.path ≡ true
  pub number : ℕ
  pub below : lower.path ≡ child upper.path number
  pub allowed : IsTrue (may_attach s instances upper lower)

abbrev pub IsThere : Instances → Path → Type 0
IsThere instances p = (i : Instance) × (map.get instances p ≡ Some i)

-- the interaction point is that of an instance which is there
abbrev pub IsIp : Subject → Instances → IpAddr → Type 0
IsIp s instances a = (p : InteractionPoint) × (point s instances a ≡ Some p)

-- the instance is there, and this is the number of its next child
abbrev pub IsNextOf : Instances → Path → ℕ → Type 0
IsNextOf instances p k = (i : Instance) × (map.get instances p ≡ Some i) × (k ≡ suc i.births)

-- an effect of the instance m, or of one below it, can be made as it says
abbrev pub CanBeMade : Subject → Path → StatementEffect → Core → Type 0
CanBeMade s m (Output from ip name values) c = (is_inside m from.path ≡ true) × IsIp s c.instances from
CanBeMade s m (Connect a b) c = MayBeConnected s m c.instances a b × (is_bound a c.links ≡ false) × (is_bound b c.links ≡ false)
CanBeMade s m (Disconnect a) c = (is_inside m a.path ≡ true) × (is_connected a c.links ≡ true)
CanBeMade s m (Attach upper lower) c = MayBeAttached s m c.instances upper lower × (is_upper upper c.links ≡ false) × (is_bound lower c.links ≡ false)
CanBeMade s m (Detach upper) c = (is_inside m upper.path ≡ true) × (is_upper upper c.links ≡ true)
CanBeMade s m (Create p k i) c = (is_inside m p ≡ true) × IsNextOf c.instances p k × (i.births ≡ 0)
CanBeMade s m (Remove p k) c = (is_inside m p ≡ true) × IsThere c.instances (child p k)

-- each at its turn
abbrev pub CanAllBeMade : Subject → Path → List StatementEffect → Acting → Type 0
CanAllBeMade s m [] a = Unit {0}
CanAllBeMade s m (e ∷ es) a = CanBeMade s m e a.situation.core × CanAllBeMade s m es (acting_after e a)

-- the effects in order
abbrev pub after_all : List StatementEffect → Acting → Acting
after_all es a = fold (λ b e. acting_after e b) a es

abbrev pub insert_part : Instances → Part → Instances
insert_part instances p = map.insert instances p.path (instance_of p)

-- the records at and below m are those of the image
abbrev pub overlaid : Path → List Part → Instances → Instances
overlaid m parts instances = fold insert_part (map.retain_keys instances (λ q. not (is_inside m q))) parts

abbrev pub with_records : Path → List Part → Acting → Acting
with_records m parts a = record a { situation = record a.situation { core = record a.situation.core { instances = overlaid m parts a.situation.core.instances } } }

-- the body and the births of each instance at and below m
abbrev pub outline : Path → Instances → List (Path × (ℕ × ℕ))
outline m instances = each (λ e. (e.0, (e.1.body, e.1.births))) (map.entries (map.retain_keys instances (is_inside m)))

abbrev pub outline_of_parts : List Part → List (Path × (ℕ × ℕ))
outline_of_parts = each (λ p. (p.path, (p.body, p.births)))

abbrev pub ran : Acting → ℕ → Firing
ran a left = Ran a.situation a.outs a.drops left

-- the situation once the effects are made and the records are those of the image
abbrev pub put : Path → List StatementEffect → List Part → Acting → Acting
put m log parts a = with_records m parts (after_all log a)

-- What is computed is put into a situation in which the head is taken, and then this is the firing: its effects are those of a block,
-- each of which can be made at its turn, and then the image is the private part.
pub record IsPut (s : Subject) (m : Path) (n : ℕ) (g : Situation) (image : Image) (effects : List Effect) (left : ℕ) (firing : Firing) : Type 0 where
  pub log : List StatementEffect
  pub logged : effects ≡ all_logged s log
  pub can_be_made : CanAllBeMade s m log (begun g)
  pub outline : outline m (after_all log (begun g)).situation.core.instances ≡ outline_of_parts image.parts
  pub result : firing ≡ untimed m n (ran (put m log image.parts (begun g)) left)
  pub private : Shows image (private s (put m log image.parts (begun g)).situation.core m)

-- what is computed is what the firing is, in a situation in which the head is taken
abbrev pub IsAnswer : Subject → Path → ℕ → Situation → Outcome → ℕ → Firing → Type 0
IsAnswer s m n g (outcome.Ran image effects) left firing = IsPut s m n g image effects left firing
IsAnswer s m n g (outcome.Faulted kind) left firing = firing ≡ Failed kind left

-- ---- jobs

-- what is there of the interaction of a transition is what the job has
abbrev pub IsHead : Found → Option Interaction → Type 0
IsHead NotNeeded head = head ≡ None
IsHead (Head i) head = head ≡ Some i
IsHead Absent head = ⊥

abbrev pub taken_by : Subject → Situation → Path → Option Transition → Situation
taken_by s g p None = g
taken_by s g p (Some t) = taken s g p t.when

abbrev pub found_by : Subject → Situation → Path → Option Transition → Found
found_by s g p None = Absent
found_by s g p (Some t) = found s g p t.when

abbrev pub received_by : Subject → Situation → Path → Option Transition → Found
received_by s g p None = Absent
received_by s g p (Some t) = received s g p t.when

-- the job of a transition of an instance in a situation
pub record IsJobIn (s : Subject) (g : Situation) (job : Job) : Type 0 where
  pub legal : MayActAlone s g.core job.path
  pub private : Shows job.image (private s g.core job.path)
  pub head : IsHead (received_by s g job.path (transition_at s job.trans (map.get g.core.instances job.path))) job.head

-- what is computed of a transition answers for every situation in which this is its job; of the initialization, for the one situation in which it runs
abbrev pub AnswersAt : Subject → Job → ℕ → Outcome → ℕ → Type 0
AnswersAt s job zero outcome left = IsAnswer s [] 0 (bare s) outcome left (start s job.budget)
AnswersAt s job (suc n) outcome left = (g : Situation) → IsJobIn s g job →
    IsAnswer s job.path job.trans (taken_by s g job.path (transition_at s job.trans (map.get g.core.instances job.path))) outcome left (fire s job.budget g job.path job.trans)

pub record Answers (s : Subject) (job : Job) (done : Done) : Type 0 where
  pub ticket : done.ticket ≡ job.ticket
  pub path : done.path ≡ job.path
  pub trans : done.trans ≡ job.trans
  pub answers : AnswersAt s job job.trans done.outcome done.left
