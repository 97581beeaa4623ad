use Rattle.std.proofs.Common.{◌∙◌, ◌++◌, refl, sym, ap, arith}
use Rattle.std.proofs.lemmas.List.{append-nil}
use Rattle.effect_log.proofs.Applied.{no-drops, drops-sorted, length-behind}
use Rattle.effect_log.proofs.firing.put.Goals as goal

pub sort_from-requires : goal.sort_from-requires
sort_from-requires g c =
    let made = c.make_all.ensures c.requires.0 in
    let behind = length-behind c.args.notes.now.drops.items c.make_all.new.notes.drops.items _ (made.drops c.args.notes.now.drops.items (no-drops c.args.notes.now.drops.items c.requires.0.acting.drops c.requires.1)) in
    omega (arith, c.len-start.ensures, c.args.notes.now.drops.ok.0, behind)

pub returns : goal.returns
returns g c = λ may.
    let made = c.make_all.ensures may in
    record {
      made = c.make_all.new.shared;
      stands = made.stands;
      tree = c.write_all.ensures;
      links = refl;
      queues = refl;
      outputs = refl;
      outs = λ none. made.outs c.args.notes.now.outs.items (sym (ap (λ os. c.args.notes.now.outs.items ++ os) none ∙ append-nil c.args.notes.now.outs.items));
      drops = λ none.
          drops-sorted c.args.notes.now.drops.items c.make_all.new.notes.drops.items c.sort_from.new.numbers.items _ c.len-start.result (c.len-start.ensures ∙ c.args.notes.now.drops.ok.0)
          (made.drops c.args.notes.now.drops.items (no-drops c.args.notes.now.drops.items may.acting.drops none)) c.sort_from.ensures.before c.sort_from.ensures.permutation c.sort_from.ensures.sorted;
      arrivals = made.arrivals;
      rooms = c.clear.ensures.items;
      dropped = made.dropped;
      log = made.log;
      points = made.points;
    }
