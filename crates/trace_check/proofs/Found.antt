-- All systems are among the instances that the tree has.
use Rattle.std.proofs.Common.{◌≡◌, ℕ, suc, ◌+◌, ◌<◌, ◌≤◌, true, List, [], ◌∷◌, length, map, get_or, Some, refl, sym, ap, subst, ◌∙◌, inl, inr, arith, below_more}
use Rattle.std.specs.Prelude.{slice_get}
use Rattle.std.proofs.lemmas.Option.{get_or_from_slice_get}
use Rattle.module_tree.specs.Trees as trees
use Rattle.estelle_tree.specs.Paths.{Path, is_inside}
use Rattle.estelle_model.specs.declared.image.Part.{Part}
use Rattle.estelle_model.specs.Subject.{Subject}
use Rattle.estelle_model.specs.Situation.{Situation}
use Rattle.estelle_model.specs.Attributes.{IsSystem}
use Rattle.estelle_model.specs.Selection.{paths}
use Rattle.estelle_model_legality.proofs.Members.{Has, filter_has}
use Rattle.estelle_model_legality.proofs.Children.{there_has}
use Rattle.estelle_model_legality.proofs.Systems.{system_there}
use Rattle.situation_images.specs.Instances.{IsTreeOf}
use Rattle.situation_images.proofs.Parts.{parts_lie_below}
use Rattle.trace_check.specs.Going.{AreOff}

below_root : (p : Path) → is_inside [] p ≡ true
below_root [] = refl
below_root (k ∷ p) = refl

-- of a list of parts that have these paths, one is at each
part_at : (ps : List Part) (m : Path) → Has (map (λ (p : Part). p.path) ps) m → (k : ℕ) × (p : Part) × (k < length ps) × (slice_get ps k ≡ Some p) × (p.path ≡ m)
part_at [] m h = absurd h
part_at (p ∷ ps) m (inl e) = (0, p, omega arith, refl, e)
part_at (p ∷ ps) m (inr h) = let r = part_at ps m h in (suc r.0, r.1, (let l = r.2 in omega (arith, l)), r.3, r.4)

module _ (s : Subject) (budget : ℕ) (g : Situation) where
  -- those of the first parts that are systems are off
  abbrev pub OffBefore : List Part → ℕ → Type 0
  OffBefore ps at = (k : ℕ) (p : Part) → k < at → slice_get ps k ≡ Some p → IsSystem s g p.path → AreOff s budget g p.path

  pub off_more : (ps : List Part) (at : ℕ) (q : Part) → OffBefore ps at → q ≡ get_or ps at q → (IsSystem s g q.path → AreOff s budget g q.path) → OffBefore ps (at + 1)
  off_more ps at q before is off k p less there =
      below_more (λ (j : ℕ). (p : Part) → slice_get ps j ≡ Some p → IsSystem s g p.path → AreOff s budget g p.path) at (λ j lt r e. before j r lt e)
      (λ r e. subst (λ (x : Part). IsSystem s g x.path → AreOff s budget g x.path) (is ∙ get_or_from_slice_get ps at r q e) off) k less p there

  -- where all parts are those of the tree, all systems are off
  pub off_all : (t : trees.Tree Part) → IsTreeOf t g → (ps : List Part) → ps ≡ trees.parts_below t.instances [] → (at : ℕ) → length ps ≤ at → OffBefore ps at → (system : Path) → IsSystem s g system → AreOff s budget g system
  off_all t of ps are at ends before system is =
      let there : Has (map (λ (p : Part). p.path) ps) system = subst (λ (ms : List Path). Has ms system) (sym (ap (map (λ (p : Part). p.path)) are ∙ parts_lie_below t g of []))
      (filter_has (is_inside []) (paths g) system (there_has g.core.instances system (system_there s g system is)) (below_root system)) in
      let r = part_at ps system there in
      let less = r.2 in
      subst (AreOff s budget g) r.4 (before r.0 r.1 (omega (arith, less, ends)) r.3 (subst (IsSystem s g) (sym r.4) is))
