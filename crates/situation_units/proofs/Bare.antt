-- Before the start no instance has had a child.
use Rattle.std.proofs.Common.{◌≡◌, Bool, true, false, [], Option, Some, None, refl, ap, cond, ◌∙◌}
use Rattle.std.specs.Prelude.{option_map}
use Rattle.std.specs.FinMap as map
use Rattle.std.specs.Ordering.{eq_by_cmp}
use Rattle.estelle_tree.specs.Paths.{Path, path_cmp}
use Rattle.estelle_model.specs.Core.{Instance, Instances}
use Rattle.estelle_model.specs.Bodies.{BodyAlone}
use Rattle.estelle_model.specs.Subject.{Subject, body, new_instance}
use Rattle.estelle_model.specs.Firing.{alone, bare}
use Rattle.estelle_model.proofs.Maps.{total}
use Rattle.situation_units.specs.Counting.{births_of, births_at}

abbrev none_at_all : Instances
none_at_all = map.empty

births_of_none : (q : Path) → births_of (map.get none_at_all q) ≡ 0
births_of_none q = ap births_of (map.get-empty path_cmp q)

births_alone : (q : Path) (i : Instance) → i.births ≡ 0 → births_of (map.get (map.insert none_at_all [] i) q) ≡ 0
births_alone q i none = by (eq_by_cmp path_cmp q []) (map.get-insert total none_at_all [] i q)
  where
    by : (c : Bool) → map.get (map.insert none_at_all [] i) q ≡ cond c (Some i) (map.get none_at_all q) → births_of (map.get (map.insert none_at_all [] i) q) ≡ 0
    by true e = ap births_of e ∙ none
    by false e = ap births_of e ∙ births_of_none q

pub no_births : (s : Subject) (q : Path) → births_at q (bare s) ≡ 0
no_births s q = by (body s 0)
  where
    by : (o : Option BodyAlone) → births_of (map.get (alone (option_map (λ (b : BodyAlone). new_instance s 0 b []) o)) q) ≡ 0
    by None = births_of_none q
    by (Some b) = births_alone q (new_instance s 0 b []) refl
