-- The parts of a system and of all below it are those of all its instances.
use Rattle.std.proofs.Common.{List, [], ◌∷◌, refl, subst, inl, inr}
use Rattle.std.specs.List.{AllByRecursion}
use Rattle.module_tree.specs.Trees as trees
use Rattle.estelle_tree.specs.Paths.{Path, is_inside}
use Rattle.estelle_model.specs.declared.image.Part.{Part}
use Rattle.estelle_model.specs.Situation.{Situation}
use Rattle.estelle_model.specs.Selection.{paths}
use Rattle.estelle_model_legality.proofs.Members.{Has, contains_has, has_filter}
use Rattle.situation_images.specs.Instances.{IsTreeOf}
use Rattle.situation_images.proofs.Parts.{parts_lie_below, parts_are_of_instances}
use Rattle.situation_offers.specs.Asked.{AreAll, IsAt}
use Rattle.situation_offers.proofs.Wanted.{each_has}

from_each : {A : Type 0} (P : A → Type 0) (xs : List A) → ((x : A) → Has xs x → P x) → AllByRecursion P xs
from_each P [] f = tt
from_each P (x ∷ xs) f = (f x (inl refl), from_each P xs (λ y h. f y (inr h)))

pub all_parts : (t : trees.Tree Part) (g : Situation) → IsTreeOf t g → (system : Path) → AreAll g system (trees.parts_below t.instances system)
all_parts t g of system = record {
  paths = parts_lie_below t g of system;
  each_at = from_each (IsAt g system) (trees.parts_below t.instances system) at;
}
  where
    at : (p : Part) → Has (trees.parts_below t.instances system) p → IsAt g system p
    at p h =
        let its = each_has (λ (q : Part). q.path) (trees.parts_below t.instances system) p h in
        record {
          inside = (has_filter (is_inside system) (paths g) p.path (subst (λ ps. Has ps p.path) (parts_lie_below t g of system) its)).1;
          of_instance = parts_are_of_instances t g of system p (contains_has (trees.parts_below t.instances system) p h);
        }
