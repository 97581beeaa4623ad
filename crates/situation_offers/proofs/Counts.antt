-- What all instances of a system count, and the first guard of all that faults.
use Rattle.std.proofs.Common.{◌≡◌, ◌⊎◌, ℕ, ◌<◌, List, [], ◌∷◌, ◌++◌, refl, sym, ap, subst, ◌∙◌, inl, inr}
use Rattle.std.specs.Prelude.{IsTrue}
use Rattle.std.specs.Ordering.{nat_cmp, ordering_then, MatchOrdering}
use Rattle.std.specs.Cmp.{ranks}
use Rattle.std.specs.List.{AllByRecursion}
use Rattle.std.specs.List.Sorted.{IsStrictlySortedBy}
use Rattle.std.specs.declared.cmp.Ordering.{Ordering}
use Rattle.std.specs.declared.cmp.Ordering.TheVariants.{Less, Equal, Greater}
use Rattle.std.proofs.lemmas.List.{map-append}
use Rattle.pascal_values.specs.declared.fault.Fault.{Fault}
use Rattle.estelle_tree.specs.declared.transition.Wanted.{Wanted}
use Rattle.estelle_tree.specs.Paths.{Path, path_cmp, is_inside}
use Rattle.estelle_tree.specs.Timers.{pair, pair_cmp}
use Rattle.estelle_model.specs.declared.job.Guard.TheVariants.{Faulted}
use Rattle.estelle_model.specs.Subject.{Subject}
use Rattle.estelle_model.specs.Situation.{Situation}
use Rattle.estelle_model.specs.Firing.{guard}
use Rattle.estelle_model.specs.Delays.{wanted, renew}
use Rattle.estelle_model.specs.Jobs.{IsThere}
use Rattle.estelle_model.specs.Runs.{NoGuardFaults, IsFirstFault}
use Rattle.estelle_model.proofs.Maps.{total, apart}
use Rattle.estelle_model_legality.proofs.Members.{Has}
use Rattle.transition_select.specs.declared.countings.Counting.{Counting}
use Rattle.transition_select.specs.Blocks.{at_and_below}
use Rattle.transition_select.specs.Countings.{IsCounting, AreCountings}
use Rattle.transition_select.proofs.Blocks.{below_has, below_rises}
use Rattle.transition_select.proofs.Offering.{all_more}
use Rattle.transition_select.proofs.Rising.{Rises, before_has, itself}
use Rattle.situation_steps.proofs.Renewing.{wanted_differ}
use Rattle.delay_timers.specs.Moments.{AreDifferent}
use Rattle.situation_offers.specs.Guards.{NoneFaults, IsFirst, wanted_of, HaveCounted}
use Rattle.situation_offers.proofs.Counting.{faulted_there}
use Rattle.situation_offers.proofs.Wanted.{flat_more, wanted_is}

-- ---- lists

all_has : {A : Type 0} (P : A → Type 0) (xs : List A) (x : A) → AllByRecursion P xs → Has xs x → P x
all_has P [] x all h = absurd h
all_has P (y ∷ xs) x all (inl is) = subst P is all.0
all_has P (y ∷ xs) x all (inr h) = all_has P xs x all.1 h

-- of a list that rises what is less than an element stands before it
stands_before : (qs : List Path) (m : Path) (rest : List Path) (q : Path) → Rises (qs ++ m ∷ rest) → Has (qs ++ m ∷ rest) q → path_cmp q m ≡ Less → Has qs q
unfolding IsStrictlySortedBy
stands_before [] m rest q rises (inl is) less = absurd (itself m (ap (λ p. path_cmp p m) is ∙ less))
stands_before [] m rest q rises (inr h) less = absurd (itself q (total.trans q m q less (before_has m rest q rises.0 h)))
stands_before (p ∷ qs) m rest q rises (inl is) less = inl is
stands_before (p ∷ qs) m rest q rises (inr h) less = inr (stands_before qs m rest q rises.1 h less)

module _ (s : Subject) (budget : ℕ) (g : Situation) (system : Path) (now : ℕ) where
  -- ---- one instance more

  pub one_more : (ms : List Path) (cs : List Counting) (ws after : List Wanted) (m : Path) (c : Counting) → HaveCounted s budget g system now ms cs ws → c.path ≡ m → IsCounting s budget (renew s budget g system now) c
      → NoneFaults s budget g m → after ≡ ws ++ wanted_of s budget g m → HaveCounted s budget g system now (ms ++ m ∷ []) (cs ++ c ∷ []) after
  one_more ms cs ws after m c have is counting none wants = record {
    paths = map-append (λ (d : Counting). d.path) cs (c ∷ []) ∙ (λ i. have.paths i ++ (is i ∷ []));
    countings = all_more (IsCounting s budget (renew s budget g system now)) cs c have.countings counting;
    wanted = wants ∙ ap (λ vs. vs ++ wanted_of s budget g m) have.wanted ∙ sym (flat_more (wanted_of s budget g) ms m);
    sound = all_more (NoneFaults s budget g) ms m have.sound none;
  }

  -- ---- all of them

  -- a guard that faults is that of an instance which is there
  faulted_has : (m : Path) (n : ℕ) (kind : Fault) → IsTrue (is_inside system m) → guard s budget g m n ≡ Faulted kind → Has (at_and_below g system) m
  faulted_has m n kind inside e = below_has s g system m (faulted_there s budget g m n kind e) inside

  pub all_counted : (cs : List Counting) (ws : List Wanted) → IsThere g.core.instances system → HaveCounted s budget g system now (at_and_below g system) cs ws
      → AreCountings s budget (renew s budget g system now) system cs × NoGuardFaults s budget g system × (ws ≡ wanted s budget g system) × AreDifferent ws
  all_counted cs ws there have =
      let all : ws ≡ wanted s budget g system = have.wanted ∙ sym (wanted_is s budget g system) in (
        record { there = there; paths = have.paths; countings = have.countings },
        λ m n kind inside e. all_has (NoneFaults s budget g) (at_and_below g system) m have.sound (faulted_has m n kind inside e) n kind e,
        all,
        subst AreDifferent (sym all) (wanted_differ s budget g system),
      )

  -- ---- the first fault

  abbrev Earlier : Path → ℕ → Path → ℕ → Type 0
  Earlier q k m n = (path_cmp q m ≡ Less) ⊎ ((path_cmp q m ≡ Equal) × (nat_cmp k n ≡ Less))

  earlier : (q m : Path) (k n : ℕ) → pair_cmp (pair q k) (pair m n) ≡ Less → Earlier q k m n
  earlier q m k n e = by (path_cmp q m) refl e
    where
      by : (o : Ordering) → path_cmp q m ≡ o → ordering_then o (nat_cmp k n) ≡ Less → Earlier q k m n
      by Less is e = inl is
      by Equal is e = inr (is, e)
      by Greater is e = absurd (cc)

  pub first_of_all : (ms : List Path) (m : Path) (rest : List Path) (n : ℕ) (kind : Fault) → at_and_below g system ≡ ms ++ m ∷ rest → IsTrue (is_inside system m) → AllByRecursion (NoneFaults s budget g) ms
      → IsFirst s budget g m n kind → IsFirstFault s budget g system m n kind
  first_of_all ms m rest n kind e inside before is = record {
    inside = inside;
    faults = is.faults;
    first = λ q k other within less fault. by q k other within fault (earlier q m k n less);
  }
    where
      by : (q : Path) (k : ℕ) (other : Fault) → IsTrue (is_inside system q) → guard s budget g q k ≡ Faulted other → Earlier q k m n → ⊥
      by q k other within fault (inl less) = all_has (NoneFaults s budget g) ms q before
          (stands_before ms m rest q (subst Rises e (below_rises s g system)) (subst (λ ps. Has ps q) e (faulted_has q k other within fault)) less) k other fault
      by q k other within fault (inr same) = is.first k other (subst (λ (o : Ordering). MatchOrdering o (k < n) (k ≡ n) (n < k)) same.1 (ranks k n)) (ap (λ p. guard s budget g p k) (sym (apart q m same.0)) ∙ fault)
