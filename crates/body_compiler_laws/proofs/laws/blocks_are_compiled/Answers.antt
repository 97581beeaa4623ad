use Rattle.estelle_model.specs.Blocks.{fresh}
use Rattle.body_compiler_laws.proofs.Single.{no_item}
use Rattle.body_compiler_laws.proofs.Blocks.{runs_to, block_does}
use Rattle.body_compiler_laws.proofs.laws.blocks_are_compiled.Goals as goal

pub returns : goal.returns
returns c s n code known is body unit path values r made fits all nothing state budget = runs_to s n code known is body unit path values (fresh state budget) no_item _ (block_does s n code known is body unit path values r made fits all nothing state budget)
