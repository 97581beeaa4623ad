-- What guards come to.
use Rattle.std.specs.Prelude.{◌≡◌, ℕ, Bool, Option, IsTrue, List, ◌++◌, map as each}
use Rattle.std.specs.List.{AllByRecursion}
use Rattle.estelle_tree.specs.declared.transition.Wanted.{Wanted}
use Rattle.estelle_tree.specs.Paths.{Path, is_inside}
use Rattle.estelle_tree.specs.Timers.{Timers}
use Rattle.estelle_model.specs.declared.image.Image.{Image}
use Rattle.estelle_model.specs.declared.image.Interaction.{Interaction}
use Rattle.estelle_model.specs.declared.image.Part.{Part}
use Rattle.estelle_model.specs.declared.job.Guard.{Guard}
use Rattle.estelle_model.specs.Asked.{IsGuard}
use Rattle.estelle_model.specs.Subject.{Subject}
use Rattle.estelle_model.specs.Situation.{Situation}
use Rattle.estelle_model.specs.Attributes.{IsSystem}
use Rattle.estelle_model.specs.Delays.{wanted, renew}
use Rattle.estelle_model.specs.Jobs.{private}
use Rattle.estelle_model.specs.Runs.{NoGuardFaults, IsFirstFault}
use Rattle.estelle_model_legality.specs.Jobs.{image_of}
use Rattle.estelle_model_legality.specs.Situations.{IsLegal}
use Rattle.effect_log.specs.declared.shared.Shared.{Shared}
use Rattle.effect_log.specs.Standing.{Stands}
use Rattle.delay_timers.specs.Moments.{AreDifferent}
use Rattle.transition_select.specs.declared.countings.Counting.{Counting}
use Rattle.transition_select.specs.Blocks.{at_and_below}
use Rattle.transition_select.specs.Countings.{AreCountablesOf, IsCounting, AreCountings}
use Rattle.situation_images.specs.Instances.{IsPartOf}
use Rattle.situation_offers.specs.declared.guards.Count.{Count}
use Rattle.situation_offers.specs.declared.guards.Count.TheVariants as count
use Rattle.situation_offers.specs.declared.guards.Offering.{Offering}
use Rattle.situation_offers.specs.declared.guards.Offering.TheVariants as offering
use Rattle.situation_offers.specs.Guards.{NoneFaults, IsFirst, wanted_of}

-- ---- of whom is asked

-- the shared state and the timers stand for this legal situation
pub record IsShown (s : Subject) (shared : Shared) (timers : Timers) (g : Situation) : Type 0 where
  pub stands : Stands s shared g
  pub legal : IsLegal s g
  pub running : timers ≡ g.timers

-- and this is a system in it
pub record MayBeAsked (s : Subject) (shared : Shared) (timers : Timers) (g : Situation) (system : Path) : Type 0 where
  pub shown : IsShown s shared timers g
  pub is_system : IsSystem s g system

-- the part is that of an instance of the system
pub record IsAt (g : Situation) (system : Path) (part : Part) : Type 0 where
  pub inside : IsTrue (is_inside system part.path)
  pub of_instance : IsPartOf g part

-- the image shows the private part of the instance
abbrev pub IsImageOf : Subject → Situation → Path → Image → Type 0
IsImageOf s g m image = image ≡ image_of (private s g.core m)

-- the guard of a transition of the instance, if this is what it finds first at its queue, and whether a timer runs
abbrev pub IsAnswer : Subject → ℕ → Situation → Path → ℕ → Option Interaction → Bool → Guard → Type 0
IsAnswer s budget g m n head timed answer = IsGuard s m (image_of (private s g.core m)) n head timed budget answer

-- these are the parts of all instances of the system, in path order
pub record AreAll (g : Situation) (system : Path) (parts : List Part) : Type 0 where
  pub paths : each (λ p. p.path) parts ≡ at_and_below g system
  pub each_at : AllByRecursion (IsAt g system) parts

-- ---- answers

module _ (s : Subject) (budget : ℕ) (g : Situation) (system : Path) (now : ℕ) where
  -- what the guards of an instance come to, with what wants a timer before and after it
  abbrev pub IsCount : Path → List Wanted → List Wanted → Count → Type 0
  IsCount m before after (count.Counts counted) = AreCountablesOf s budget (renew s budget g system now) m counted.items × NoneFaults s budget g m × (after ≡ before ++ wanted_of s budget g m)
  IsCount m before after (count.Faults n kind) = IsFirst s budget g m n kind

  -- what an instance counts once the timers are renewed
  pub record IsCountingOf (m : Path) (c : Counting) : Type 0 where
    pub path : c.path ≡ m
    pub counting : IsCounting s budget (renew s budget g system now) c

  -- what the guards of a system come to at a moment
  abbrev pub IsOffering : Offering → Type 0
  IsOffering (offering.Counts counts wants) = AreCountings s budget (renew s budget g system now) system counts.items × NoGuardFaults s budget g system × (wants.items ≡ wanted s budget g system) × AreDifferent wants.items
  IsOffering (offering.Faults m n kind) = IsFirstFault s budget g system m n kind
