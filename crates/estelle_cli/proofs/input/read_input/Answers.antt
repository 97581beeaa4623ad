use Rattle.std.proofs.Common.{◌++◌, take, length-append, length-take, arith}
use Rattle.outside.proofs.Bytes.{Consumes-then}
use Rattle.estelle_cli.proofs.input.read_input.Goals as goal

-- a piece that there was no memory for was read all the same
pub returns-then-is_err-clause-stops : goal.returns-then-is_err-clause-stops
returns-then-is_err-clause-stops g c =
    let before = c.loop-buf.bytes.items in
    let piece = take c.in-Ok.count c.read.new.buf in
    record {
      bytes = before ++ piece;
      within = omega (arith, length-append before piece, length-take c.in-Ok.count c.read.new.buf, c.in-Ok.ensures.bound, c.read.auto.buf, length-take c.min-room.result c.loop-buf.buf, c.min-room.ensures, c.len-in-loop-buf.ensures);
      taken = Consumes-then _ _ _ _ _ c.loop-buf.invariant.taken c.in-Ok.ensures.bytes.0;
    }
