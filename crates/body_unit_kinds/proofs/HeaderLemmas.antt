-- Which bodies have the header of a module variable.
use Rattle.std.proofs.Common.{◌≡◌, ℕ, Option, Some, None}
use Rattle.std.specs.Prelude.{slice_get, option_map, is_some, IsTrue}
use Rattle.std.specs.Option.{unwrap_or}
use Rattle.estelle_model.specs.Bodies.{BodyAlone, heading, module_headers}
use Rattle.estelle_model.specs.Subject.{Subject, meant, body, no_body, headers_of}
use Rattle.body_state.specs.declared.bodies.ModuleBody.{ModuleBody}
use Rattle.body_state.specs.Bodies.{module_body}
use Rattle.body_kinds.specs.Kinded.{HasHeader}

-- a body whose module variable has a header is known
pub header_there : (s : Subject) (k modvar header : ℕ) (o : Option ModuleBody) → o ≡ option_map (module_body s k) (body s k) → slice_get (headers_of s k) modvar ≡ Some header
    → (b : ModuleBody) × ((o ≡ Some b) × (slice_get b.module_headers modvar ≡ Some header))
header_there s k modvar header o = by (body s k)
  where
    by : (x : Option BodyAlone) → o ≡ option_map (module_body s k) x → slice_get (module_headers (meant s) (unwrap_or x no_body)) modvar ≡ Some header
        → (b : ModuleBody) × ((o ≡ Some b) × (slice_get b.module_headers modvar ≡ Some header))
    by None e h = absurd (cc)
    by (Some a) e h = (module_body s k a, (e, h))

-- a body that has the header is known, with its header
pub header_of : (s : Subject) (k modvar other : ℕ) (o : Option ModuleBody) → o ≡ option_map (module_body s other) (body s other) → HasHeader s k modvar other
    → (b : ModuleBody) × ((o ≡ Some b) × (slice_get (headers_of s k) modvar ≡ Some b.header))
header_of s k modvar other o e h = by (body s other) e h.0 h.1
  where
    by : (x : Option BodyAlone) → o ≡ option_map (module_body s other) x → IsTrue (is_some x) → slice_get (headers_of s k) modvar ≡ Some (heading (meant s) (unwrap_or x no_body).header).at
        → (b : ModuleBody) × ((o ≡ Some b) × (slice_get (headers_of s k) modvar ≡ Some b.header))
    by None e t is = absurd (cc)
    by (Some a) e t is = (module_body s other a, (e, is))
