-- What is known of bodies, by their numbers.
use Rattle.std.proofs.Common.{◌≡◌, ℕ, zero, suc, ◌+◌, List, [], ◌∷◌, Option, Some, None, refl, sym, ap, ◌∙◌, arith}
use Rattle.std.specs.Prelude.{slice_get, option_map, unwrap_or}
use Rattle.estelle_model.specs.Bodies.{BodyAlone}
use Rattle.estelle_model.specs.Subject.{Subject, body, no_body}
use Rattle.body_state.specs.declared.bodies.ModuleBody.{ModuleBody}
use Rattle.body_state.specs.Bodies.{module_body, bodies_from}

pub body_at : (s : Subject) (first : ℕ) (bs : List BodyAlone) (n k : ℕ) → k ≡ first + n → slice_get (bodies_from s first bs) n ≡ option_map (module_body s k) (slice_get bs n)
body_at s first [] n k is = refl
body_at s first (b ∷ bs) zero k is = let same : first ≡ k = omega (arith, is) in ap (λ (j : ℕ). Some (module_body s j b)) same
body_at s first (b ∷ bs) (suc n) k is = body_at s (suc first) bs n k (omega (arith, is))

pub known_body : (s : Subject) (k : ℕ) (m : ModuleBody) (o : Option BodyAlone) → Some m ≡ option_map (module_body s k) o → (b : BodyAlone) × (o ≡ Some b) × (m ≡ module_body s k b)
known_body s k m None e = absurd (cc)
known_body s k m (Some b) e = (b, refl, cc)

pub unknown_body : (s : Subject) (k : ℕ) (o : Option BodyAlone) → None ≡ option_map (module_body s k) o → o ≡ None
unknown_body s k None e = refl
unknown_body s k (Some b) e = absurd (cc)

-- what is said of a body that is there, and of one that is not
pub of_body : {A : Type 0} (s : Subject) (k : ℕ) (m : ModuleBody) (f : ModuleBody → A) (g : BodyAlone → A) → ((b : BodyAlone) → f (module_body s k b) ≡ g b) → Some m ≡ option_map (module_body s k) (body s k) → f m ≡ g (unwrap_or (body s k) no_body)
of_body s k m f g same e = let b = known_body s k m (body s k) e in ap f b.2 ∙ same b.0 ∙ ap (λ (o : Option BodyAlone). g (unwrap_or o no_body)) (sym b.1)

pub of_no_body : {A : Type 0} (s : Subject) (k : ℕ) (g : BodyAlone → A) → None ≡ option_map (module_body s k) (body s k) → g no_body ≡ g (unwrap_or (body s k) no_body)
of_no_body s k g e = ap (λ (o : Option BodyAlone). g (unwrap_or o no_body)) (sym (unknown_body s k (body s k) e))
