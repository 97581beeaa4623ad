use Rattle.std.proofs.Common.{◌-◌, ◌<◌, length, take, drop, length-take, length-drop, arith}
use Rattle.estelle_cli.proofs.Replaying.{few_events}
use Rattle.estelle_cli.proofs.replay.judged_at.Goals as goal

pub told-requires : goal.told-requires
told-requires c =
    let bytes = c.args.bytes.now in
    omega (arith, c.requires.reads.text.read.within, length-take (length bytes - c.args.at) (drop c.args.at bytes), length-drop c.args.at bytes)

pub confirmed-requires : goal.confirmed-requires
confirmed-requires c =
    let bytes = c.args.bytes.now in
    let short : length (take (length bytes - c.args.at) (drop c.args.at bytes)) < 2147483648 = omega (arith, c.requires.reads.text.read.within, length-take (length bytes - c.args.at) (drop c.args.at bytes), length-drop c.args.at bytes) in
    record { counted = few_events _ c.in-Ok.run'.events c.in-Ok.end c.in-Ok.ensures.found short }
