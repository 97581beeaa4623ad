-- Instances elsewhere, while an instance acts: they stay as they are.
use Rattle.std.proofs.Common.{◌≡◌, ℕ, false, List, [], ◌∷◌, None, sym, ap, cond, refl, ◌∙◌}
use Rattle.std.specs.Prelude.{not, fold}
use Rattle.std.specs.FinMap as map
use Rattle.estelle_tree.specs.Paths.{Path, is_inside}
use Rattle.estelle_model.specs.declared.effect.Effect.{Effect}
use Rattle.estelle_model.specs.declared.image.Image.{Image}
use Rattle.estelle_model.specs.Core.{Instances}
use Rattle.estelle_model.specs.Effects.{StatementEffect}
use Rattle.estelle_model.specs.Subject.{Subject}
use Rattle.estelle_model.specs.Situation.{Situation, Acting, acting_after}
use Rattle.estelle_model.specs.Firing.{Firing, begun}
use Rattle.estelle_model.specs.Jobs.{insert_part, put, after_all, CanAllBeMade, IsPut}
use Rattle.estelle_model.proofs.Maps.{apart, get_inserted}
use Rattle.std.specs.Option.{option_or}
use Rattle.estelle_model.proofs.PrivateParts.{get_inside}
use Rattle.estelle_model_answers.proofs.Within.{get_after, outside_after, at_of}

-- what is not at or below the instance stays
effects_leave : (s : Subject) (m : Path) (es : List StatementEffect) (a : Acting) → CanAllBeMade s m es a → (q : Path) → is_inside m q ≡ false → map.get (after_all es a).situation.core.instances q ≡ map.get a.situation.core.instances q
effects_leave s m [] a can q out = refl
effects_leave s m (e ∷ es) a can q out =
    effects_leave s m es (acting_after e a) can.1 q out
    ∙ get_after e a.situation.core.instances q
    ∙ outside_after m e (map.get a.situation.core.instances) q (at_of s m e a.situation.core can.0) out

module _ (s : Subject) (m : Path) (n : ℕ) (g : Situation) (image : Image) (effects : List Effect) (left : ℕ) (f : Firing) (p : IsPut s m n g image effects left f) where
  abbrev made : Instances
  made = (after_all p.log (begun g)).situation.core.instances

  abbrev final : Instances
  final = (put m p.log image.parts (begun g)).situation.core.instances

  records_leave : (q : Path) → is_inside m q ≡ false → map.get final q ≡ map.get made q
  records_leave q out =
      let others : Instances = map.retain_keys made (λ q. not (is_inside m q)) in
      let inner : Instances = map.retain_keys final (is_inside m) in
      ap (λ ps. map.get (fold insert_part others ps) q) p.private.parts
      ∙ get_inserted others (map.entries inner) (map.entries_sorted inner) q
      ∙ ap (λ o. option_or o (map.get others q)) (sym (map.get-entries inner q) ∙ get_inside final m q ∙ ap (λ b. cond b (map.get final q) None) out)
      ∙ map.get-retain_keys made (λ q. not (is_inside m q)) q (λ r tie. ap (λ x. not (is_inside m x)) (sym (apart q r tie)))
      ∙ ap (λ b. cond (not b) (map.get made q) None) out

  pub put_leaves : (q : Path) → is_inside m q ≡ false → map.get final q ≡ map.get g.core.instances q
  put_leaves q out = records_leave q out ∙ effects_leave s m p.log (begun g) p.can_be_made q out
