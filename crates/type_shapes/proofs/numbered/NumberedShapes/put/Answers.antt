use Rattle.std.proofs.Common.{◌∙◌, ap, map, sym}
use Rattle.std.specs.Str.{bytes_eq}
use Rattle.indexmap.specs.IndexMap.{insert_entry}
use Rattle.type_shapes.specs.Numbered.{Numbered}
use Rattle.type_shapes.proofs.Firsts.{seen_inserted}
use Rattle.type_shapes.proofs.numbered.NumberedShapes.put.Goals as goal

pub returns : goal.returns
returns c =
    ap (map (λ e. (e.0.items, e.1))) c.in_ok-insert.ensures.entries
    ∙ seen_inserted (λ k. k.items) c.self.inside.numbers.entries c.in_ok-text.text c.args.number
    ∙ ap (λ (es : Numbered). insert_entry bytes_eq es c.in_ok-text.text.items c.args.number) c.self.view_is
    ∙ ap (λ text. insert_entry bytes_eq c.args.self.now text c.args.number) c.in_ok-text.ensures
