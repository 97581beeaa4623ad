-- Whether transitions are counted, by what is told of the instances of a system.
use Rattle.std.proofs.Common.{◌≡◌, ℕ, true, length, arith, List, [], ◌∷◌, map as each, Bor, get_or, zero, suc, refl, sym, ap, subst, ◌∙◌, eqb-true}
use Rattle.std.specs.Prelude.{◌==◌, Result, Ok, Err, IfOk, Bool, Contains}
use Rattle.estelle_tree.specs.Paths.{Path, is_inside}
use Rattle.estelle_model.specs.declared.image.Part.{Part}
use Rattle.estelle_model.specs.Subject.{Subject}
use Rattle.estelle_model.specs.Situation.{Situation}
use Rattle.estelle_model.specs.Delays.{renew}
use Rattle.estelle_model.specs.Selection.{paths}
use Rattle.estelle_model.specs.Schedule.{counted}
use Rattle.estelle_model_legality.proofs.Members.{Has, contains_has, has_contained, has_filter, filter_has}
use Rattle.estelle_model_legality.proofs.Children.{there_has, has_there}
use Rattle.situation_steps.proofs.Listed.{all_at}
use Rattle.estelle_model_legality.proofs.Members.{has_each, each_has}
use Rattle.transition_select.specs.declared.countings.Countable.{Countable}
use Rattle.transition_select.specs.declared.countings.Counting.{Counting}
use Rattle.transition_select.specs.Countings.{AreCountings, IsCounting}
use Rattle.trace_check.proofs.Off.{NoneCounted}

each_empty : {A B : Type 0} (f : A → B) (xs : List A) → each f xs ≡ [] → xs ≡ []
each_empty f [] e = refl
each_empty f (x ∷ xs) e = absurd (cc)

-- a vector of no length has no items
pub vec_empty : {A : Type 0} (xs : List A) (len : ℕ) (b : Bool) → b ≡ (len == 0) → b ≡ true → len ≡ length xs → xs ≡ []
vec_empty [] len b is so same = refl
vec_empty (x ∷ xs) len b is so same = let none : len ≡ 0 = eqb-true len 0 (sym is ∙ so) in absurd (omega (arith, none, same))

-- an element of a list of references points to that of the list of what they point to
pub pointed_at : (xs : List (Bor Part)) (i : ℕ) (d : Bor Part) → get_or (each (λ (r : Bor Part). r.now) xs) i d.now ≡ (get_or xs i d).now
pointed_at [] i d = refl
pointed_at (x ∷ xs) zero d = refl
pointed_at (x ∷ xs) (suc i) d = pointed_at xs i d

pub if_ok : {E : Type 0} (r : Result Bool E) (P Q : Bool → Type 0) → ((b : Bool) → P b → Q b) → IfOk r P → IfOk r Q
if_ok (Ok b) P Q f h = f b h
if_ok (Err e) P Q f h = h

module _ (s : Subject) (budget : ℕ) (g : Situation) (system : Path) (now : ℕ) (cs : List Counting) (are : AreCountings s budget (renew s budget g system now) system cs) where
  abbrev r : Situation
  r = renew s budget g system now

  pub none_of_all : ((c : Counting) → Contains cs c → c.transitions.items ≡ []) → NoneCounted s budget g system now
  none_of_all none m there inside =
      let at : Has (each (λ (c : Counting). c.path) cs) m = subst (λ (ps : List Path). Has ps m) (sym are.paths) (filter_has (is_inside system) (paths g) m (there_has g.core.instances m there) inside) in
      let c = each_has (λ (c : Counting). c.path) cs m at in
      let its = all_at (IsCounting s budget r) cs c.0 are.countings c.1 in
      ap (counted s budget r) (sym c.2) ∙ sym its.transitions.numbers ∙ ap (each (λ (x : Countable). x.trans)) (none c.0 (contains_has cs c.0 c.1))

  pub all_of_none : NoneCounted s budget g system now → (c : Counting) → Contains cs c → c.transitions.items ≡ []
  all_of_none none c there =
      let h = has_contained cs c there in
      let its = all_at (IsCounting s budget r) cs c are.countings h in
      let at = has_filter (is_inside system) (paths g) c.path (subst (λ (ps : List Path). Has ps c.path) are.paths (has_each (λ (x : Counting). x.path) cs c h)) in
      each_empty (λ (x : Countable). x.trans) c.transitions.items (its.transitions.numbers ∙ none c.path (has_there g.core.instances c.path at.0) at.1)
