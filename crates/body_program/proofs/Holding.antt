-- What a program holds, body by body.
use Rattle.std.proofs.Common.{◌≡◌, ◌∙◌, ℕ, zero, suc, List, map, Option, Some, None, refl, ap}
use Rattle.std.specs.Prelude.{slice_get, option_map, unwrap_or}
use Rattle.std.proofs.lemmas.Option.{slice_get-map}
use Rattle.estelle_model.specs.Bodies.{BodyAlone, bodies, default_of, ips_of_body}
use Rattle.estelle_model.specs.Transitions.{Transition}
use Rattle.estelle_model.specs.Subject.{Subject, meant, body, no_body, transitions_of, numbered_one}
use Rattle.body_state.specs.declared.bodies.ModuleBody.{ModuleBody}
use Rattle.body_state.specs.Bodies.{module_body}
use Rattle.body_program.specs.declared.flat.BodyTransitions.{BodyTransitions}
use Rattle.body_program.specs.declared.program.Program.TheInside.{Inside}
use Rattle.body_program.specs.Chosen.{block_numbered}
use Rattle.body_program.specs.Told.{flat_at}
use Rattle.body_program.specs.Programs.{known_of, block_in, HoldsAll}

-- what it holds of the body with a number
pub held : (p : Inside) → HoldsAll p → (k : ℕ) → slice_get p.transitions k ≡ option_map (flat_at (known_of p.bodies)) (body p.bodies k)
held p holds k = ap (λ fs. slice_get fs k) holds.flat ∙ slice_get-map (flat_at (known_of p.bodies)) (bodies p.bodies.specification) k

module _ (s : Subject) where
  pub there : (o : Option BodyAlone) (f : BodyTransitions) → Some f ≡ option_map (flat_at (known_of s)) o → f.transitions ≡ transitions_of s o
  unfolding flat_at
  there None f e = absurd (cc)
  there (Some b) f e = let same : f ≡ flat_at (known_of s) b = cc in ap (λ (x : BodyTransitions). x.transitions) same

  blocks : (o : Option BodyAlone) (f : BodyTransitions) → Some f ≡ option_map (flat_at (known_of s)) o → f.blocks ≡ map (block_in s) (transitions_of s o)
  unfolding flat_at
  blocks None f e = absurd (cc)
  blocks (Some b) f e = let same : f ≡ flat_at (known_of s) b = cc in ap (λ (x : BodyTransitions). x.blocks) same

  numbered_block : (ts : List Transition) (n : ℕ) → block_numbered (map (block_in s) ts) n ≡ option_map (block_in s) (numbered_one ts n)
  numbered_block ts zero = refl
  numbered_block ts (suc n) = slice_get-map (block_in s) ts n

  -- the block of the transition with a number
  pub block_there : (o : Option BodyAlone) (f : BodyTransitions) (n : ℕ) → Some f ≡ option_map (flat_at (known_of s)) o → block_numbered f.blocks n ≡ option_map (block_in s) (numbered_one (transitions_of s o) n)
  block_there o f n e = ap (λ rs. block_numbered rs n) (blocks o f e) ∙ numbered_block (transitions_of s o) n

  pub its_points : (o : Option BodyAlone) (k : ℕ) (m : ModuleBody) → Some m ≡ option_map (module_body s k) o → m.ips ≡ ips_of_body (meant s) (default_of s.specification.heads) (unwrap_or o no_body)
  its_points None k m e = absurd (cc)
  its_points (Some b) k m e = let same : m ≡ module_body s k b = cc in ap (λ (x : ModuleBody). x.ips) same
