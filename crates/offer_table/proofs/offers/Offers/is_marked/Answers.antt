use Rattle.std.proofs.Common.{ap, ◌∙◌}
use Rattle.std.specs.List.{list_any}
use Rattle.std.specs.Str.{bytes_eq}
use Rattle.offer_table.specs.Tables.{Table}
use Rattle.offer_table.proofs.TableLaws.{is_there}
use Rattle.offer_table.proofs.offers.Offers.is_marked.Goals as goal

pub returns : goal.returns
returns c = c.is_ok.ensures.value ∙ is_there _ _ _ c.find.ensures ∙ ap (list_any (bytes_eq c.args.path.now)) (c.deref.ensures.value ∙ ap (λ (t : Table). t.marks) c.self.view_is)
