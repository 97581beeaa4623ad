-- Several workers may share a crew.
use denote.Param.Send.{IsSync, sendable}
use denote.Param.SendFields.{declared_sync}
use denote.Ref.{NamedLft}
use denote.RattleType.{RattleType}
use Rattle.std.proofs.Crossing.{crosses}
use Rattle.situation_threads.proofs.Programs.{CompiledProgram_sync}
use Rattle.board_workers.proofs.news.News.TheSendSync as news_facts
use Rattle.board_workers.specs.contracts.crew.Crew as Crew

pub Crew_sync : (p q k : NamedLft) (G : RattleType) → IsSync G → IsSync (Crew.the_row p q k G)
Crew_sync p q k G s = search (declared_sync, sendable, crosses, CompiledProgram_sync, news_facts.the_sync) depth 20
