use Rattle.std.proofs.Common.{◌≡◌, ◌∙◌, ap, sym, refl, List}
use Rattle.std.specs.Prelude.{slice_get}
use Rattle.std.proofs.lemmas.Option.{slice_get_read, slice_get_past}
use Rattle.estelle_model.specs.declared.meaning.InteractionPoint.{InteractionPoint}
use Rattle.estelle_model.specs.Subject.{Subject, ips_of}
use Rattle.estelle_model.specs.InteractionPoints.{internal_at}
use Rattle.body_program.proofs.program.Program.is_internal.Goals as goal

pub returns-in-None : goal.returns-in-None
returns-in-None c =
    let its : c.ips.result.now ≡ ips_of c.args.self.now c.args.number = c.ips.ensures ∙ ap (λ (u : Subject). ips_of u c.args.number) c.self.view_is in
    ap internal_at (sym (slice_get_past c.ips.result.now c.args.ip c.in-None.ensures.lookup.3) ∙ ap (λ (ps : List InteractionPoint). slice_get ps c.args.ip) its)

pub returns-in-Some : goal.returns-in-Some
returns-in-Some c =
    let its : c.ips.result.now ≡ ips_of c.args.self.now c.args.number = c.ips.ensures ∙ ap (λ (u : Subject). ips_of u c.args.number) c.self.view_is in
    let found = slice_get_read c.ips.result.now _ c.args.ip c.in-Some.point.now refl c.in-Some.ensures.lookup.3.0 c.in-Some.ensures.lookup.1 in
    ap internal_at (sym found ∙ ap (λ (ps : List InteractionPoint). slice_get ps c.args.ip) its)
