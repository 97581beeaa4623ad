-- The first guard of a system that faults is one.
use Rattle.std.proofs.Common.{◌≡◌, ℕ, refl, sym, ap, ◌∙◌}
use Rattle.std.specs.Ordering.{ordering_reverse}
use Rattle.std.specs.declared.cmp.Ordering.{Ordering}
use Rattle.std.specs.declared.cmp.Ordering.TheVariants.{Less, Equal, Greater}
use Rattle.pascal_values.specs.declared.fault.Fault as fault
use Rattle.estelle_tree.specs.declared.transition.Pair.{Pair}
use Rattle.estelle_tree.specs.Paths.{Path}
use Rattle.estelle_tree.specs.Timers.{pair, pair_cmp}
use Rattle.estelle_model.specs.declared.job.Guard.{Guard}
use Rattle.estelle_model.specs.declared.job.Guard.TheVariants.{Faulted}
use Rattle.estelle_model.specs.Subject.{Subject}
use Rattle.estelle_model.specs.Situation.{Situation}
use Rattle.estelle_model.specs.Firing.{guard}
use Rattle.estelle_model.specs.Runs.{IsFirstFault}
use Rattle.estelle_model.proofs.Pairs.{pairs_total, pairs_apart}

same_fault : (x : Guard) (k j : fault.Fault) → x ≡ Faulted k → x ≡ Faulted j → k ≡ j
same_fault x k j a b = let both : Faulted k ≡ Faulted j = sym a ∙ b in cc

-- a transition and the kind of its fault
pub record IsSameFault (m q : Path) (n l : ℕ) (k j : fault.Fault) : Type 0 where
  pub path : m ≡ q
  pub trans : n ≡ l
  pub kind : k ≡ j

module _ (s : Subject) (budget : ℕ) (g : Situation) (system : Path) where
  pub one_first : (m q : Path) (n l : ℕ) (k j : fault.Fault) → IsFirstFault s budget g system m n k → IsFirstFault s budget g system q l j → IsSameFault m q n l k j
  one_first m q n l k j f h = by (pair_cmp (pair m n) (pair q l)) refl
    where
      by : (o : Ordering) → pair_cmp (pair m n) (pair q l) ≡ o → IsSameFault m q n l k j
      by Less e = absurd (h.first m n k f.inside e f.faults)
      by Greater e = absurd (f.first q l j h.inside (pairs_total.antisymm (pair q l) (pair m n) ∙ ap ordering_reverse e) h.faults)
      by Equal e =
          let same = pairs_apart (pair m n) (pair q l) e in
          let paths : m ≡ q = ap (λ (p : Pair). p.path) same in
          let numbers : n ≡ l = ap (λ (p : Pair). p.trans) same in
          record { path = paths; trans = numbers; kind = same_fault (guard s budget g m n) k j f.faults ((λ i. guard s budget g (paths i) (numbers i)) ∙ h.faults) }
