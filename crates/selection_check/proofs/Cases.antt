-- What an instance selects is one of its own, or is selected of its children.
use Rattle.std.proofs.Common.{◌≡◌, ◌≢◌, ◌⊎◌, ℕ, Bool, true, false, List, [], ◌∷◌, ◌++◌, Option, Some, None, refl, sym, ap, subst, ◌∙◌, inl, inr}
use Rattle.estelle_tree.specs.declared.transition.Pair.{Pair}
use Rattle.estelle_tree.specs.Paths.{Path}
use Rattle.estelle_tree.specs.Timers.{pair}
use Rattle.estelle_model.specs.declared.meaning.Attribute.{Attribute}
use Rattle.estelle_model.specs.declared.meaning.Attribute.TheVariants.{Systemprocess, Systemactivity, Process, Activity}
use Rattle.estelle_model.specs.Subject.{Subject}
use Rattle.estelle_model.specs.Situation.{Situation}
use Rattle.estelle_model.specs.Attributes.{is_process, is_activity, IsProcess, IsActivity}
use Rattle.estelle_model.specs.Selection.{children, Eligible, IsSilent, Selects, SelectsEach, own, process, activity, quiet}
use Rattle.estelle_model_legality.specs.Pending.{AreInOrder}
use Rattle.estelle_model_legality.proofs.Lists.{not_both}
use Rattle.transition_select.specs.Offers.{IsOfKind}
use Rattle.transition_select.specs.declared.countings.Counting.{Counting}
use Rattle.transition_select.specs.Countings.{IsCounting}
use Rattle.selection_check.specs.Countings.{must_some, takes_own}
use Rattle.selection_check.specs.Deciding.{SelectsOne}
use Rattle.selection_check.proofs.Own.{BeginsOwn, own_begins, own_taken, silent, not_silent}

-- no attribute is that of a process and of an activity
pub not_both_kinds : (a : Option Attribute) → is_process a ≡ true → is_activity a ≡ true → ⊥
not_both_kinds None e f = absurd (let wrong : false ≡ true = e in cc)
not_both_kinds (Some Systemprocess) e f = absurd (let wrong : false ≡ true = f in cc)
not_both_kinds (Some Systemactivity) e f = absurd (let wrong : false ≡ true = e in cc)
not_both_kinds (Some Process) e f = absurd (let wrong : false ≡ true = f in cc)
not_both_kinds (Some Activity) e f = absurd (let wrong : false ≡ true = e in cc)

module _ (s : Subject) (budget : ℕ) (g : Situation) (m : Path) where
  -- what is selected of the children
  pub data SelectsBelow (takes : List Pair) : Type 0 where
    of_process : IsProcess s g m → SelectsEach s budget g (children g m) takes → SelectsBelow takes
    of_activity : IsActivity s g m → takes ≢ [] → SelectsOne s budget g (children g m) takes → SelectsBelow takes
    of_quiet : IsActivity s g m → takes ≡ [] → SelectsEach s budget g (children g m) takes → SelectsBelow takes

  -- one of its own
  record SelectsOwn (takes : List Pair) : Type 0 where
    number : ℕ
    eligible : Eligible s budget g m number
    is : takes ≡ pair m number ∷ []

  cases : (takes : List Pair) → Selects s budget g m takes → SelectsOwn takes ⊎ (IsSilent s budget g m × SelectsBelow takes)
  cases _ (own m' n eligible) = inl (record { number = n; eligible = eligible; is = refl })
  cases _ (process m' all none is each) = inr (none, of_process is each)
  cases _ (activity m' k some none is of_m there selects) = inr (none, of_activity is there (record { path = k; among = of_m; selects = selects }))
  cases _ (quiet m' none is each) = inr (none, of_quiet is refl each)

  module _ (in_order : AreInOrder g) (c : Counting) (here : c.path ≡ m) (is : IsCounting s budget g c) where
    pub kind_here : (b : Bool) → c.of_process ≡ b → IsOfKind s g m b
    kind_here b e = subst (λ q. IsOfKind s g q b) here (subst (IsOfKind s g c.path) e is.kind)

    pub silent_here : must_some c.transitions.items ≡ false → IsSilent s budget g m
    silent_here e = subst (IsSilent s budget g) here (silent s budget g in_order c.path c.transitions.items is.transitions e)

    pub loud_here : must_some c.transitions.items ≡ true → IsSilent s budget g m → ⊥
    loud_here e none = not_silent s budget g in_order c.path c.transitions.items is.transitions e (subst (IsSilent s budget g) (sym here) none)

    pub begins_own : (left : List Pair) → takes_own c left ≡ true → BeginsOwn s budget g in_order m left
    begins_own left e = subst (λ q. BeginsOwn s budget g in_order q left) here (own_begins s budget g in_order c is left e)

    -- where what is left begins with none of its own, what it selects of that is selected of its children
    pub below_only : (some others left : List Pair) → left ≡ some ++ others → takes_own c left ≡ false → Selects s budget g m some → IsSilent s budget g m × SelectsBelow some
    below_only some others left e not_own selects = by (cases some selects)
      where
        by : SelectsOwn some ⊎ (IsSilent s budget g m × SelectsBelow some) → IsSilent s budget g m × SelectsBelow some
        by (inl o) =
            let b : BeginsOwn s budget g in_order m left = record { number = o.number; others = others; eligible = o.eligible; is = e ∙ ap (λ ps. ps ++ others) o.is } in
            absurd (not_both (takes_own c left) (own_taken s budget g in_order c is left (subst (λ q. BeginsOwn s budget g in_order q left) (sym here) b)) not_own)
        by (inr r) = r
