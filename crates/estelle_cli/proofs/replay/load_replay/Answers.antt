use Rattle.std.proofs.Common.{ℕ}
use Rattle.estelle_cli.specs.declared.contents.Contents.TheVariants.{Traced}
use Rattle.estelle_cli.specs.Input.{Replays}
use Rattle.estelle_cli.proofs.InputLemmas.{load_found, load_end, load_cause}
use Rattle.estelle_cli.proofs.replay.load_replay.Goals as goal

pub returns-clause-found : goal.returns-clause-found
returns-clause-found g c =
    let e = c.in_ok-bytes.ensures in
    load_found (Traced c.args.budget) c.in_ok-bytes.bytes.items (λ (n : ℕ). λ input. Replays c.args.budget input n) (λ t h. h.tells.reads.text.read.within) _ _ _ e.bytes e.end (rw c.deref.ensures.value at c.replayed.ensures.found)

pub returns-clause-end : goal.returns-clause-end
returns-clause-end g c =
    let e = c.in_ok-bytes.ensures in
    load_end (Traced c.args.budget) c.in_ok-bytes.bytes.items (λ (n : ℕ). λ input. Replays c.args.budget input n) (λ t h. h.tells.reads.text.read.within) _ c.replayed.result e.end (rw c.deref.ensures.value at c.replayed.ensures.found)

pub returns-clause-cause : goal.returns-clause-cause
returns-clause-cause g c =
    let e = c.in_ok-bytes.ensures in
    load_cause (Traced c.args.budget) c.in_ok-bytes.bytes.items _ _ _ _ _ e.bytes e.end (rw c.deref.ensures.value at c.replayed.ensures.cause)
