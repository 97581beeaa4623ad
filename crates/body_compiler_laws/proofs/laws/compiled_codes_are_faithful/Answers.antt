use Rattle.body_compiler_laws.proofs.Faithful.{is_faithful}
use Rattle.body_compiler_laws.proofs.laws.compiled_codes_are_faithful.Goals as goal

pub returns : goal.returns
returns c = is_faithful
