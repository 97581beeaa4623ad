use Rattle.std.proofs.Common.{◌≡◌, ◌∙◌, refl, sym, ap, map as each, Option, Some, None, Err}
use Rattle.std.specs.Prelude.{option_map}
use Rattle.std.specs.FinMap as map
use Rattle.estelle_model.specs.Core.{Instance}
use Rattle.effect_log.specs.Standing.{kept_of}
use Rattle.estelle_tree.specs.Paths.{Path}
use Rattle.situation_images.proofs.Parts.{parts_are, none_below}
use Rattle.situation_images.proofs.images.parts_below.Goals as goal

pub returns-in-Ok : goal.returns-in-Ok
returns-in-Ok c = λ s g of tree. c.in-Ok.ensures.parts ∙ parts_are c.args.tree.now g of c.args.path.now

none_kept : (p : Path) (o : Option Instance) → option_map (kept_of p) o ≡ None → o ≡ None
none_kept p None e = refl
none_kept p (Some i) e = absurd (cc)

pub returns-in-Err-NoSuch : goal.returns-in-Err-NoSuch
returns-in-Err-NoSuch c = λ s g of tree.
    ap (each (λ r. r.now)) c.new.ensures.items ∙ sym (none_below g c.args.path.now s tree (none_kept c.args.path.now (map.get g.core.instances c.args.path.now) (sym (of c.args.path.now) ∙ c.in-Err-NoSuch.ensures.no_such.0 (ap Err c.in-Err-NoSuch.field-0-is))))
