use Rattle.std.proofs.Common.{◌*◌, ◌+◌}
use Rattle.std.proofs.Common.{◌∙◌, ◌≡◌, refl, ap, inr, length, arith}
use Rattle.estelle_model.specs.Subject.{Subject, transitions}
use Rattle.body_compiler.proofs.Growth.{grown_none, then_comes, open_behind, free_behind}
use Rattle.body_compiler.proofs.Parts.{none_numbered, numbered_more, all_numbered}
use Rattle.body_compiler.proofs.transitions.put_transitions.Goals as goal

pub loop-index-init : goal.loop-index-init
loop-index-init c = record {
  comes = record { grown = grown_none c.args.units.now; free = c.requires };
  has = none_numbered c.args.numbering.now c.args.units.now c.args.body;
}

pub put_numbered-requires : goal.put_numbered-requires
put_numbered-requires c = open_behind c.loop-index.units c.args.body 2 (3 * c.loop-index.index + 3) 2 (3 * (c.loop-index.index + 1)) c.loop-index.invariant.comes.free (inr (refl, omega arith))

pub loop-index-preserved : goal.loop-index-preserved
loop-index-preserved c =
    let was = c.loop-index.invariant in
    let more = c.in_ok-put_numbered.ensures in
    record {
      comes = then_comes c.args.units.now c.loop-index.units c.put_numbered.new.units c.args.body 2 (3 * (c.loop-index.index + 1) + 3) was.comes.grown more.comes;
      has = numbered_more c.args.numbering.now c.loop-index.units c.put_numbered.new.units c.args.body (c.loop-index.index + 1) more.comes.grown was.has more.has;
    }

pub returns : goal.returns
returns c =
    let was = c.loop-index.invariant in
    let many : c.transitions-count.result ≡ length (transitions c.args.numbering.now c.args.body) = c.transitions-count.ensures ∙ ap (λ (x : Subject). length (transitions x c.args.body)) c.program.ensures in
    record {
      grown = was.comes.grown;
      free = free_behind c.loop-index.units c.args.body 2 (3 * c.loop-index.index + 3) was.comes.free;
      has = all_numbered c.args.numbering.now c.loop-index.units c.args.body c.loop-index.index (omega (arith, many)) was.has;
    }
