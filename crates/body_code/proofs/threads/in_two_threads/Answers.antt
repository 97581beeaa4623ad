use denote.Param.Send.{sendable}
use Rattle.std.proofs.Crossing.{crosses}
use Rattle.body_code.proofs.Crossing.{code_send, code_sync}
use Rattle.body_code.proofs.threads.in_two_threads.Goals as goal

pub join-requires-send-F : goal.join-requires-send-F
join-requires-send-F g c κs within = search (sendable, crosses, code_send, code_sync) depth 30 fits 20000

pub join-requires-send-A : goal.join-requires-send-A
join-requires-send-A g c κs within = search (sendable, crosses, code_send) depth 30 fits 20000
