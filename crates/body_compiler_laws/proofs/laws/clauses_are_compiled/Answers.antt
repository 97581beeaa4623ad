use Rattle.body_compiler_laws.proofs.Single.{datum}
use Rattle.body_compiler_laws.proofs.Blocks.{runs_to, value_does}
use Rattle.body_compiler_laws.proofs.laws.clauses_are_compiled.Goals as goal

pub returns : goal.returns
returns c s n code known is body unit path values received e made fits start = runs_to s n code known is body unit path values start datum _ (value_does s n code known is body unit path values received e made fits start.state start.left)
