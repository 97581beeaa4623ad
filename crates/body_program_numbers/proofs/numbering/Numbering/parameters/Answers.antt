use Rattle.std.proofs.Common.{◌≡◌, ◌∙◌, ap, ℕ, List, Option, Some, None}
use Rattle.std.specs.Prelude.{option_map}
use Rattle.estelle_model.specs.declared.denoter.Denoter.{Denoter}
use Rattle.estelle_model.specs.Bodies.{BodyAlone, heading}
use Rattle.estelle_model.specs.Subject.{Subject, meant, body}
use Rattle.body_state.specs.declared.bodies.ModuleBody.{ModuleBody}
use Rattle.body_state.specs.Bodies.{module_body}
use Rattle.body_program_numbers.specs.Numbering.{parameters_of}
use Rattle.body_program_numbers.proofs.numbering.Numbering.parameters.Goals as goal

told : (s : Subject) (k : ℕ) (o : Option BodyAlone) (m : ModuleBody) → Some m ≡ option_map (module_body s k) o → Some m.parameters ≡ option_map (λ b. (heading (meant s) b.header).parameters) o
told s k None m e = absurd (cc)
told s k (Some b) m e = let same : m ≡ module_body s k b = cc in ap (λ (x : ModuleBody). Some x.parameters) same

pub returns-in-Some : goal.returns-in-Some
returns-in-Some c =
    let s : Subject = c.args.self.now in
    let n = c.args.body in
    let known : Some c.in-Some.body.now ≡ option_map (module_body s n) (body s n) = c.in-Some.ensures ∙ ap (λ (u : Subject). option_map (module_body u n) (body u n)) (c.bodies.ensures ∙ c.self.view_is) in
    ap (λ (ts : List Denoter). Some ts) c.items.ensures ∙ told s n (body s n) c.in-Some.body.now known
