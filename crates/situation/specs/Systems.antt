-- Which instances are systems, and which system of a run is due.
use Rattle.std.specs.Prelude.{ℕ, List, [], ◌∷◌, if◌then◌else◌}
use Rattle.estelle_model.specs.declared.image.Part.{Part}
use Rattle.estelle_model.specs.Subject.{Subject}
use Rattle.situation_state.specs.Systems.{is_system_body}
use Rattle.situation_steps.specs.declared.systems.System.{System}
use Rattle.situation_steps.specs.Systems.{first_kept, IsFirstDueAt}

-- the one with this number is the first that is due
abbrev pub IsFirstOne : List System → ℕ → Type 0
IsFirstOne systems at = (x : System) × IsFirstDueAt systems at x

-- the system that an instance is, before its first selection, if it is one
abbrev pub kept_part : Subject → Part → List System
kept_part s p = if is_system_body s p.body then first_kept p.path ∷ [] else []
