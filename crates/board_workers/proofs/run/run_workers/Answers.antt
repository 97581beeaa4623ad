use denote.Param.Send.{sendable}
use Rattle.situation_threads.proofs.Worlds.{World_send}
use Rattle.board_workers.proofs.Sharing.{Crew_sync}
use Rattle.board_workers.proofs.run.run_workers.Goals as goal

pub work_on-requires-send-V : goal.work_on-requires-send-V
work_on-requires-send-V g c κs within = search (World_send, sendable) depth 20

pub work_on-requires-sync-W : goal.work_on-requires-sync-W
work_on-requires-sync-W g c κs within = search (Crew_sync, sendable) depth 20
