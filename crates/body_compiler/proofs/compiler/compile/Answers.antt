use Rattle.std.proofs.Common.{List, true, sym, subst}
use Rattle.estelle_model.specs.Subject.{meant}
use Rattle.body_code.specs.declared.unit.CodeUnit.{CodeUnit}
use Rattle.body_machine_meaning.specs.Faithful.{IsFaithful}
use Rattle.body_program_numbers.specs.Numbering.{numbers_of}
use Rattle.body_compiler_emission.specs.Known.{known_in}
use Rattle.body_compiler.proofs.compiler.compile.Goals as goal

pub returns-clause-faithful : goal.returns-clause-faithful
returns-clause-faithful c =
    let s = c.args.numbering.now in
    subst (λ (code : List CodeUnit). IsFaithful s (numbers_of s) code) (sym c.into_code-code.ensures) (c.compiled_codes_are_faithful.ensures s (numbers_of s) (known_in s (meant s)) c.in_ok-units.units c.in_ok-units.ensures)
