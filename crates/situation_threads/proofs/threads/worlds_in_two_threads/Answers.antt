use denote.Param.Send.{sendable}
use Rattle.situation_threads.proofs.Programs.{CompiledProgram_sync}
use Rattle.situation_threads.proofs.Worlds.{World_send}
use Rattle.situation_threads.proofs.threads.worlds_in_two_threads.Goals as goal

pub in_two_threads-requires-sync-P : goal.in_two_threads-requires-sync-P
in_two_threads-requires-sync-P g c κs within = search (CompiledProgram_sync, sendable) depth 20

pub in_two_threads-requires-send-V : goal.in_two_threads-requires-send-V
in_two_threads-requires-send-V g c κs within = search (World_send, sendable) depth 20
