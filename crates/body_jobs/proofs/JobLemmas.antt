-- The parts of a job stand in path order.
use Rattle.std.proofs.Common.{◌≡◌, ◌<◌, ℕ, zero, suc, Bool, true, false, T, List, [], ◌∷◌, map as each, refl, sym, ap, subst, arith}
use Rattle.std.specs.FinMap as map
use Rattle.std.specs.FinMap.{is_sorted}
use Rattle.estelle_tree.specs.Paths.{Path, path_cmp}
use Rattle.estelle_model.specs.declared.image.Part.{Part}
use Rattle.estelle_model.specs.Core.{Instance, Instances}
use Rattle.estelle_model.specs.Computed.{core_of}
use Rattle.estelle_model.specs.Jobs.{part_of_entry}
use Rattle.estelle_model_legality.specs.Jobs.{IsJobOf}
use Rattle.body_state.specs.InOrder.{InOrder, entries_of}
use Rattle.body_jobs.specs.Jobs.{JobsMayBeFired}

entries_back : (es : List (Path × Instance)) → entries_of (each part_of_entry es) ≡ es
entries_back [] = refl
entries_back (e ∷ es) = ap (λ ds. e ∷ ds) (entries_back es)

holds : (b : Bool) → T b → b ≡ true
holds true h = refl
holds false h = absurd h

-- the instances of a map stand in path order
pub shown_in_order : (x : Instances) → InOrder (each part_of_entry (map.entries x))
shown_in_order x = holds _ (subst (λ es. T (is_sorted path_cmp es)) (sym (entries_back (map.entries x))) (map.entries_sorted x))

pub may_be_fired : JobsMayBeFired
may_be_fired s job is = by job.trans is.by
  where
    by : (n : ℕ) → IsJobOf s job n → 0 < n → InOrder job.image.parts
    by zero h some = absurd (omega (arith, some))
    by (suc n) h some = subst (λ (ps : List Part). InOrder ps) (sym h.image.order) (shown_in_order (core_of s job.image).instances)
