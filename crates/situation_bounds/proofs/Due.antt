-- Which of the kept systems is the first that is due.
use Rattle.std.proofs.Common.{◌≡◌, ℕ, suc, Bool, true, false, List, [], ◌∷◌, refl, sym, ap, subst, ◌∙◌, inl, inr}
use Rattle.estelle_tree.specs.Paths.{Path, path_cmp}
use Rattle.std.specs.Ordering.{ordering_reverse}
use Rattle.std.specs.declared.cmp.Ordering.{Ordering}
use Rattle.std.specs.declared.cmp.Ordering.TheVariants.{Less, Equal, Greater}
use Rattle.estelle_model.specs.declared.event.Event.{Event}
use Rattle.estelle_model.specs.Subject.{Subject}
use Rattle.estelle_model.specs.Schedule.{IsDue, IsFirstDue, NoneDue}
use Rattle.estelle_model.proofs.Maps.{total, apart}
use Rattle.estelle_model_legality.proofs.Lists.{not_true, not_both}
use Rattle.estelle_model_legality.proofs.Members.{Has}
use Rattle.situation_steps.specs.declared.systems.System.{System}
use Rattle.situation_steps.specs.declared.systems.Time.{Time}
use Rattle.situation_steps.specs.Systems.{is_due, NoneIsDue, IsFirstDueAt}
use Rattle.situation_steps.specs.UnderWay.{IsUnderWay}
use Rattle.situation_steps.proofs.Listed.{all_of}
use Rattle.situation_steps.proofs.Due.{kept_system, due_is, is_due_there, first_due}

-- ---- in the list

-- where one is due, some is the first
first_at : (xs : List System) (y : System) → Has xs y → is_due y ≡ true → (at : ℕ) × (x : System) × IsFirstDueAt xs at x
first_at [] y has due = absurd has
first_at (z ∷ zs) y has due = by (is_due z) refl has (λ h. first_at zs y h due)
  where
    by : (b : Bool) → is_due z ≡ b → Has (z ∷ zs) y → (Has zs y → (at : ℕ) × (x : System) × IsFirstDueAt zs at x) → (at : ℕ) × (x : System) × IsFirstDueAt (z ∷ zs) at x
    by true is h rest = (0, z, record { there = refl; due = is; first = tt })
    by false is (inl same) rest = absurd (not_both (is_due z) (ap is_due same ∙ due) is)
    by false is (inr h) rest = let r = rest h in (suc r.0, r.1, record { there = r.2.there; due = r.2.due; first = (is, r.2.first) })

-- ---- in a run

-- two paths of which neither comes before the other are one
one_of : (p q : Path) (o : Ordering) → path_cmp p q ≡ o → (path_cmp p q ≡ Less → ⊥) → (path_cmp q p ≡ Less → ⊥) → p ≡ q
one_of p q Less is not_before not_after = absurd (not_before is)
one_of p q Equal is not_before not_after = apart p q is
one_of p q Greater is not_before not_after = absurd (not_after (total.antisymm q p ∙ ap ordering_reverse is))

module _ (s : Subject) (budget : ℕ) (es : List Event) (waited : ℕ) where
  one_first : (p q : Path) → IsFirstDue s budget es waited p → IsFirstDue s budget es waited q → p ≡ q
  one_first p q first other = one_of p q (path_cmp p q) refl (λ less. other.first p less first.due) (λ less. first.first q less other.due)

module _ (s : Subject) (budget : ℕ) (es : List Event) (time : Time) (systems : List System) (w : IsUnderWay s budget es time systems) where
  -- the first that is due is kept at some number
  pub kept_first_due : (system : Path) → IsFirstDue s budget es time.waited system → (at : ℕ) × (x : System) × (IsFirstDueAt systems at x) × (x.path ≡ system)
  kept_first_due system due =
      let y = kept_system s budget es time systems w system due.due.is_system in
      let of_y = is_due_there s budget es time systems w y.0 y.1 (subst (IsDue s budget es time.waited) (sym y.2) due.due) in
      let r = first_at systems y.0 y.1 of_y in
      (r.0, r.1, r.2, one_first s budget es time.waited r.1.path system (first_due s budget es time systems w r.0 r.1 r.2) due)

  -- where none is due, none of those that are kept is
  pub none_kept_due : NoneDue s budget es time.waited → NoneIsDue systems
  none_kept_due none = all_of (λ (x : System). is_due x ≡ false) systems (λ x h. not_true (is_due x) (λ due. none x.path (due_is s budget es time systems w x h due)))
