-- Which systems are due, by what is kept of them.
use Rattle.std.proofs.Common.{◌≡◌, ℕ, Bool, true, false, List, refl, sym, ap, subst, ◌∙◌}
use Rattle.std.specs.Prelude.{IsTrue, Contains, nat_eq}
use Rattle.estelle_tree.specs.declared.transition.Pair.{Pair}
use Rattle.estelle_tree.specs.Paths.{Path, path_cmp, is_inside}
use Rattle.estelle_model.specs.declared.event.Event.{Event}
use Rattle.estelle_model.specs.Subject.{Subject}
use Rattle.estelle_model.specs.Situation.{Situation}
use Rattle.estelle_model.specs.Attributes.{IsSystem, is_system, attribute_at}
use Rattle.estelle_model.specs.Selection.{paths}
use Rattle.estelle_model.specs.Runs.{IsIdle, situation}
use Rattle.estelle_model.specs.Schedule.{IsDue, IsFirstDue}
use Rattle.estelle_model_legality.proofs.Lists.{and_both, both_and, same_number, not_both}
use Rattle.estelle_model_legality.proofs.Members.{Has, has_filter, filter_has, has_contained, contains_has}
use Rattle.estelle_model_legality.proofs.Children.{there_has}
use Rattle.estelle_model_legality.proofs.Systems.{system_there}
use Rattle.situation_steps.specs.declared.systems.System.{System}
use Rattle.situation_steps.specs.declared.systems.Time.{Time}
use Rattle.situation_steps.specs.Systems.{systems_of, count_inside, is_due, IsKept, IsFirstDueAt}
use Rattle.situation_steps.specs.UnderWay.{IsUnderWay}
use Rattle.situation_steps.specs.Laws.{NoneAreDue}
use Rattle.situation_steps.proofs.Listed.{all_at, got_has, has_each, each_has, none_passes, none_counted, Rise, paths_rise, filter_rises, less_before}

-- ---- the list of systems

module _ (s : Subject) (g : Situation) where
  pub system_listed : (p : Path) → IsSystem s g p → Has (systems_of s g) p
  system_listed p is = filter_has (λ q. is_system (attribute_at s g q)) (paths g) p (there_has g.core.instances p (system_there s g p is)) is

  pub listed_system : (p : Path) → Has (systems_of s g) p → IsSystem s g p
  listed_system p h = (has_filter (λ q. is_system (attribute_at s g q)) (paths g) p h).1

pub idle_none : (ps : List Pair) (system : Path) → ((p : Pair) → Contains ps p → IsTrue (is_inside system p.path) → ⊥) → count_inside system ps ≡ 0
idle_none ps system idle = none_counted (λ p. is_inside system p.path) ps (λ p h. by p (is_inside system p.path) refl (contains_has ps p h))
  where
    by : (p : Pair) (b : Bool) → is_inside system p.path ≡ b → Contains ps p → b ≡ false
    by p true e c = absurd (idle p c e)
    by p false e c = refl

-- ---- in a run that goes on

module _ (s : Subject) (budget : ℕ) (es : List Event) (time : Time) (systems : List System) (w : IsUnderWay s budget es time systems) where
  abbrev g : Situation
  g = situation s budget es

  pub kept_system : (p : Path) → IsSystem s g p → (x : System) × (Has systems x) × (x.path ≡ p)
  kept_system p is = each_has (λ (x : System). x.path) systems p (subst (λ (ps : List Path). Has ps p) (sym w.all) (system_listed s g p is))

  pub system_kept : (x : System) → Has systems x → IsSystem s g x.path
  system_kept x h = listed_system s g x.path (subst (λ (ps : List Path). Has ps x.path) w.all (has_each (λ (y : System). y.path) systems x h))

  pub is_kept : (x : System) → Has systems x → IsKept s budget es time.waited x
  is_kept x h = all_at (IsKept s budget es time.waited) systems x w.kept h

  pub nothing_pending : (x : System) → Has systems x → x.pending ≡ 0 → IsIdle g x.path
  nothing_pending x h none p c inside =
      not_both (is_inside x.path p.path) inside (none_passes (λ (q : Pair). is_inside x.path q.path) g.pending (sym (is_kept x h).pending ∙ none) p (has_contained g.pending p c))

  pub due_is : (x : System) → Has systems x → is_due x ≡ true → IsDue s budget es time.waited x.path
  due_is x h due =
      let both = and_both x.awaits (nat_eq x.pending 0) due in
      record {
        is_system = system_kept x h;
        idle = nothing_pending x h (same_number x.pending 0 both.1);
        awaits = sym (is_kept x h).awaits ∙ both.0;
      }

  pub is_due_there : (x : System) → Has systems x → IsDue s budget es time.waited x.path → is_due x ≡ true
  is_due_there x h due =
      both_and x.awaits (nat_eq x.pending 0) ((is_kept x h).awaits ∙ due.awaits) (ap (λ (n : ℕ). nat_eq n 0) ((is_kept x h).pending ∙ idle_none g.pending x.path due.idle))

  pub first_due : (at : ℕ) (x : System) → IsFirstDueAt systems at x → IsFirstDue s budget es time.waited x.path
  first_due at x first = record {
    due = due_is x (got_has systems at x first.there) first.due;
    first = λ other less due.
        let y = kept_system other due.is_system in
        let before = less_before (λ (z : System). z.path) systems (subst Rise (sym w.all) (filter_rises (λ q. is_system (attribute_at s g q)) (paths g) (paths_rise g))) at x first.there y.0 y.1 (ap (λ (p : Path). path_cmp p x.path) y.2 ∙ less) in
        not_both (is_due y.0) (is_due_there y.0 y.1 (subst (IsDue s budget es time.waited) (sym y.2) due)) (all_at (λ (z : System). is_due z ≡ false) _ y.0 first.first before);
  }

pub none_are_due : NoneAreDue
none_are_due s budget es time systems w none system due =
    let y = kept_system s budget es time systems w system due.is_system in
    not_both (is_due y.0) (is_due_there s budget es time systems w y.0 y.1 (subst (IsDue s budget es time.waited) (sym y.2) due)) (all_at (λ (z : System). is_due z ≡ false) systems y.0 none y.1)
