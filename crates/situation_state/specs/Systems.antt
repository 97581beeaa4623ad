-- Which bodies are those of systems (ISO/IEC 9074: systemprocess, systemactivity).
use Rattle.std.specs.Prelude.{ℕ, Bool, option_and_then}
use Rattle.estelle_model.specs.Subject.{Subject, body}
use Rattle.estelle_model.specs.Attributes.{attribute, is_system}

-- an instance of the body with a number is a system
abbrev pub is_system_body : Subject → ℕ → Bool
is_system_body s k = is_system (option_and_then (λ b. attribute s k) (body s k))
