use Rattle.std.proofs.Common.{◌∙◌, List, ℕ, length, sym, ap, arith}
use Rattle.std.specs.Prelude.{slice_get}
use Rattle.std.specs.Option.{option_copied}
use Rattle.body_compiler_emission.proofs.Locals.{value_found, own_found}
use Rattle.body_compiler_emission.proofs.scope.local_of.Goals as goal

pub returns-in-Some : goal.returns-in-Some
returns-in-Some c = value_found c.args.parameters.now c.args.own c.args.number c.in-Some.local.now (ap (λ (l : List ℕ). slice_get l c.args.number) (sym c.requires) ∙ sym c.get.ensures.value ∙ ap option_copied c.in-Some.is)

pub returns-in_ok-local-in-None-2 : goal.returns-in_ok-local-in-None-2
returns-in_ok-local-in-None-2 c =
    let long = ap (λ (l : List ℕ). length l) c.requires in
    own_found c.args.parameters.now c.args.own c.args.number c.saturating_sub-left.result c.in_ok-local-in-None-2.local
    (ap (λ (l : List ℕ). slice_get l c.args.number) (sym c.requires) ∙ sym c.get.ensures.value ∙ ap option_copied c.in-None.is)
    (omega (arith, long, c.len.ensures, c.saturating_sub-left.ensures))
    (omega (arith, c.if-left-own.false))
    (omega (arith, c.in_ok-local-in-None-2.ensures, c.in_ok-local-in-None.ensures, c.in_ok-number-in-None.ensures))
