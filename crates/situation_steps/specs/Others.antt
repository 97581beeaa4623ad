-- What a firing leaves of systems to which its instance does not belong.
use Rattle.std.specs.Prelude.{◌≡◌, ℕ, false, IsTrue, List, Contains}
use Rattle.std.specs.List.{list_any}
use Rattle.std.specs.FinMap as map
use Rattle.estelle_tree.specs.Paths.{Path, is_inside}
use Rattle.estelle_tree.specs.Timers.{pair}
use Rattle.estelle_model.specs.declared.effect.Effect.{Effect}
use Rattle.estelle_model.specs.declared.event.Event.TheVariants.{Fire}
use Rattle.estelle_model.specs.declared.image.Image.{Image}
use Rattle.estelle_model.specs.Subject.{Subject}
use Rattle.estelle_model.specs.Situation.{Situation}
use Rattle.estelle_model.specs.Firing.{begun, transition_at, guard, fire}
use Rattle.estelle_model.specs.Attributes.{IsSystem}
use Rattle.estelle_model.specs.Runs.{next}
use Rattle.estelle_model.specs.Jobs.{put, taken_by, IsPut}
use Rattle.estelle_model.specs.Schedule.{arrives}
use Rattle.estelle_model_legality.specs.Instances.{LeadsToStates}
use Rattle.estelle_model_legality.specs.Situations.{IsLegal}
use Rattle.effect_log.specs.Putting.{arrivals}
use Rattle.situation_steps.specs.Systems.{systems_of}

-- an instance fired, and its outputs arrived at instances with these paths
pub record LeavesOthers (s : Subject) (budget : ℕ) (before after : Situation) (m : Path) (at : List Path) : Type 0 where
  -- the systems are the same
  pub systems : systems_of s after ≡ systems_of s before
  -- an output came to another system just where one arrived at or below it
  pub arrives : (system : Path) → IsSystem s before system → is_inside system m ≡ false → arrives system before after ≡ list_any (is_inside system) at
  -- and of one to which none came the guards are the same
  pub guards : (system : Path) → IsSystem s before system → is_inside system m ≡ false → list_any (is_inside system) at ≡ false
      → (q : Path) (n : ℕ) → IsTrue (is_inside system q) → guard s budget after q n ≡ guard s budget before q n

-- a pending firing leaves others so
abbrev pub FiringsLeaveOthers : Type 0
FiringsLeaveOthers = (s : Subject) → LeadsToStates s → (budget : ℕ) (g : Situation) → IsLegal s g → (m : Path) (n : ℕ) → Contains g.pending (pair m n)
    → (h : Situation) → h ≡ taken_by s g m (transition_at s n (map.get g.core.instances m))
    → (image : Image) (effects : List Effect) (left : ℕ) (p : IsPut s m n h image effects left (fire s budget g m n))
    → LeavesOthers s budget g (next s budget g (Fire m n (put m p.log image.parts (begun h)).outs (put m p.log image.parts (begun h)).drops)) m (arrivals p.log (begun h))
