-- The job of a pending firing, as it is taken from a situation, and the condition of a job.
use Rattle.std.specs.Prelude.{◌≡◌, ◌+◌, ◌<◌, ◌^◌, ℕ, zero, suc, true, IsTrue, List, [], map as each, slice_get, Option, Some, None, Contains}
use Rattle.std.specs.FinMap as map
use Rattle.estelle_tree.specs.declared.transition.Pair.{Pair}
use Rattle.estelle_tree.specs.Paths.{Path, is_inside}
use Rattle.estelle_model.specs.declared.image.Part.{Part}
use Rattle.estelle_model.specs.declared.image.Image.{Image}
use Rattle.estelle_model.specs.declared.image.Interaction.{Interaction}
use Rattle.estelle_model.specs.declared.job.Job.{Job}
use Rattle.estelle_model.specs.Transitions.{When, Transition}
use Rattle.estelle_model.specs.Subject.{Subject, transition as transition_of}
use Rattle.estelle_model.specs.Core.{Instance, Instances, Core}
use Rattle.estelle_model.specs.Situation.{Situation}
use Rattle.estelle_model.specs.Queues.{Found, Head, is_named}
use Rattle.estelle_model.specs.Firing.{transition_at, bare}
use Rattle.estelle_model.specs.Jobs.{part_of_entry, private, received_by, IsJobIn}
use Rattle.estelle_model.specs.Computed.{core_of}
use Rattle.estelle_model_legality.specs.Instances.{MayStandBelow}
use Rattle.estelle_model_legality.specs.Linked.{MayBeLinked}
use Rattle.estelle_model_legality.specs.Mail.{MayArrive}
use Rattle.estelle_model_legality.specs.Situations.{IsLegal}

-- ---- jobs

-- the image that shows these instances in path order, and these links
abbrev pub image_of : Core → Image
image_of c = record { parts = each part_of_entry (map.entries c.instances); links = c.links }

abbrev pub item_of : Found → Option Interaction
item_of (Head i) = Some i
item_of _ = None

-- the job of a firing: the private part of its instance, and what it receives, in this situation
abbrev pub job_of : Subject → Situation → ℕ → ℕ → Pair → Job
job_of s g ticket budget p = record {
  ticket = ticket;
  path = p.path;
  trans = p.trans;
  image = image_of (private s g.core p.path);
  head = item_of (received_by s g p.path (transition_at s p.trans (map.get g.core.instances p.path)));
  budget = budget;
}

-- the job of the initialization: the specification's own instance as it is made, alone
abbrev pub start_job : Subject → ℕ → Job
start_job s budget = record { ticket = 0; path = []; trans = 0; image = image_of (bare s).core; head = None; budget = budget }

-- ---- the condition of a job

-- The parts of an image are the instances at and below one, in path order, and may stand together; its links may stand between them.
pub record IsLegalImage (s : Subject) (m : Path) (image : Image) : Type 0 where
  pub order : image.parts ≡ each part_of_entry (map.entries (core_of s image).instances)
  pub inside : (p : Part) → Contains image.parts p → is_inside m p.path ≡ true
  pub instances : MayStandBelow s m (core_of s image).instances
  pub links : MayBeLinked s (core_of s image).instances image.links

-- what a transition receives: nothing without a `when`, and else an interaction that it names and that may arrive at its point
abbrev pub HasHead : Subject → Instances → Path → Option When → Option Interaction → Type 0
HasHead s instances m None head = head ≡ None
HasHead s instances m (Some w) None = ⊥
HasHead s instances m (Some w) (Some i) = IsTrue (is_named i (Some w)) × MayArrive s instances (record { path = m; ip = w.ip }) i

-- A firing: image and head are legal as far as they go, the path is the first part's, and the transition belongs to that part's body and has its head.
pub record IsFiringJob (s : Subject) (job : Job) : Type 0 where
  pub image : IsLegalImage s job.path job.image
  pub part : Part
  pub first : slice_get job.image.parts 0 ≡ Some part
  pub path : part.path ≡ job.path
  pub transition : Transition
  pub its : transition_of s part.body job.trans ≡ Some transition
  pub head : HasHead s (core_of s job.image).instances job.path transition.when job.head

-- The initialization: there is no head, and the image is the specification's own instance alone, without a state, with nothing set.
pub record IsStartJob (s : Subject) (job : Job) : Type 0 where
  pub path : job.path ≡ []
  pub head : job.head ≡ None
  pub image : job.image ≡ image_of (bare s).core

-- the transition 0 is the initialization
abbrev pub IsJobOf : Subject → Job → ℕ → Type 0
IsJobOf s job zero = IsStartJob s job
IsJobOf s job (suc n) = IsFiringJob s job

-- more children can be born than there are units
abbrev pub HaveRoom : ℕ → List Part → Type 0
HaveRoom budget parts = (p : Part) → Contains parts p → p.births + budget < 2 ^ 63

-- the condition of a job; that its numbers lie in the ranges of their types is a fact of the types
pub record IsJob (s : Subject) (job : Job) : Type 0 where
  pub room : HaveRoom job.budget job.image.parts
  pub by : IsJobOf s job job.trans

-- ---- laws

-- more children can be born of each instance than there are units
abbrev pub HasRoom : ℕ → Situation → Type 0
HasRoom budget g = (p : Path) (i : Instance) → map.get g.core.instances p ≡ Some i → i.births + budget < 2 ^ 63

-- what is pending in a legal situation has a job there
abbrev pub PendingHaveJobs : Type 0
PendingHaveJobs = (s : Subject) (g : Situation) → IsLegal s g → (ticket budget : ℕ) (p : Pair) → Contains g.pending p → IsJobIn s g (job_of s g ticket budget p)

-- and that meets the condition
abbrev pub PendingMeetCondition : Type 0
PendingMeetCondition = (s : Subject) (g : Situation) → IsLegal s g → (ticket budget : ℕ) → HasRoom budget g → (p : Pair) → Contains g.pending p → IsJob s (job_of s g ticket budget p)

-- so does the initialization's
abbrev pub StartMeetsCondition : Type 0
StartMeetsCondition = (s : Subject) (budget : ℕ) → budget < 2 ^ 63 → IsJob s (start_job s budget)
