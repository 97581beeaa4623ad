-- The job of a pending firing: what it receives, and its image.
use Rattle.std.proofs.Common.{◌≡◌, map as each, Option, Some, None, refl, sym, ap, ◌∙◌}
use Rattle.std.specs.Prelude.{option_map, Contains}
use Rattle.std.specs.FinMap as map
use Rattle.estelle_tree.specs.declared.transition.Pair.{Pair}
use Rattle.estelle_tree.specs.Paths.{Path, is_inside}
use Rattle.module_tree.specs.Trees as trees
use Rattle.estelle_model.specs.declared.image.Part.{Part}
use Rattle.estelle_model.specs.Core.{Instance}
use Rattle.estelle_model.specs.Subject.{Subject}
use Rattle.estelle_model.specs.Situation.{Situation}
use Rattle.estelle_model.specs.Queues.{found}
use Rattle.estelle_model.specs.Firing.{transition_at}
use Rattle.estelle_model.specs.Jobs.{part_of_entry, found_by, received_by}
use Rattle.estelle_model.specs.Asked.{head_of}
use Rattle.estelle_model_legality.specs.Situations.{IsLegal}
use Rattle.estelle_model_legality.specs.Jobs.{item_of}
use Rattle.body_state.specs.InOrder.{InOrder}
use Rattle.body_jobs.proofs.JobLemmas.{shown_in_order}
use Rattle.effect_log.specs.Standing.{kept_of}
use Rattle.situation_images.specs.Instances.{IsTreeOf, IsOfBody, parts_of}
use Rattle.situation_images.proofs.Found.{item_found}

module _ (s : Subject) (g : Situation) (legal : IsLegal s g) (p : Pair) (pending : Contains g.pending p) where
  -- it receives the head that it finds
  pub receives_head : item_of (received_by s g p.path (transition_at s p.trans (map.get g.core.instances p.path))) ≡ head_of (found_by s g p.path (transition_at s p.trans (map.get g.core.instances p.path)))
  receives_head =
      let may = legal.pending.each p pending in
      let its : transition_at s p.trans (map.get g.core.instances p.path) ≡ Some may.transition = ap (transition_at s p.trans) may.there ∙ may.its in
      ap (λ t. item_of (received_by s g p.path t)) its
      ∙ item_found may.transition.when (found s g p.path may.transition.when) may.head
      ∙ ap (λ t. head_of (found_by s g p.path t)) (sym its)

-- the part that a tree has at a path tells the body of the instance there
pub of_body : (t : trees.Tree Part) (g : Situation) → IsTreeOf t g → (p : Path) (part : Part) → Some part ≡ trees.part_at t p → IsOfBody g p part.body
of_body t g of p part is = by (map.get g.core.instances p) refl (is ∙ ap (option_map (λ (i : trees.Instance Part). i.part)) (of p))
  where
    by : (o : Option Instance) → map.get g.core.instances p ≡ o → Some part ≡ option_map (λ (i : trees.Instance Part). i.part) (option_map (kept_of p) o) → IsOfBody g p part.body
    by None e h = absurd (cc)
    by (Some i) e h = let same : part ≡ part_of_entry (p, i) = cc in (i, e, sym (ap (λ (q : Part). q.body) same))

pub in_order : (g : Situation) (m : Path) → InOrder (parts_of g m)
in_order g m = shown_in_order (map.retain_keys g.core.instances (is_inside m))
