use Rattle.std.proofs.Common.{refl, sym, ap, get_or, ◌∙◌, arith}
use Rattle.std.proofs.lemmas.Option.{slice_get_read}
use Rattle.body_values.proofs.ValueLemmas.{put_twice}
use Rattle.body_values.proofs.values.put_in_frame.Goals as goal

pub returns-then-place-len : goal.returns-then-place-len
returns-then-place-len c =
    let there = c.replace-old.ensures.value ∙ c.index_mut.ensures.value ∙ ap (get_or c.args.frames.now.items c.args.frame) (sym c.replace-old.ensures.value) in
    put_twice c.args.frames.now.items c.args.frame c.replace-old.result _ _ _ (slice_get_read c.args.frames.now.items _ c.args.frame c.replace-old.result refl (omega arith) there) c.with_below.ensures
