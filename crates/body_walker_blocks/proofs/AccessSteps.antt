-- Variable accesses step by step: a place, and then the components.
use Rattle.std.proofs.Common.{◌≡◌, ◌∙◌, ℕ, List, [], ◌∷◌, map, refl, sym, ap, subst, Option, Some, None, ℤ, Result, Ok, Err}
use Rattle.std.specs.Prelude.{slice_get}
use Rattle.estelle_tree.specs.declared.tree.expression.Factor.{Factor}
use Rattle.estelle_tree.specs.declared.tree.expression.Selector.{Selector, out-Selector}
use Rattle.estelle_tree.specs.declared.tree.expression.Args.{Args}
use Rattle.estelle_tree.specs.declared.tree.expression.Elem.{Elem}
use Rattle.estelle_tree.specs.declared.tree.expression.Expr.{Expr}
use Rattle.estelle_tree.specs.declared.tree.expression.Simple.{Simple}
use Rattle.estelle_tree.specs.declared.tree.expression.Term.{Term}
use Rattle.estelle_tree.specs.declared.tree.expression.Variable.{Variable, out-Variable}
use Rattle.estelle_tree.specs.declared.tree.expression.Factor.TheOpen.{Selector-F}
use Rattle.estelle_model.specs.declared.denoter.Denoter.{Denoter}
use Rattle.estelle_model.specs.declared.meaning.Meaning.{Meaning}
use Rattle.estelle_model.specs.declared.meaning.Meaning.TheVariants.{Own, Exported, Local, Var, Module, Field, Called}
use Rattle.estelle_model.specs.declared.meaning.Routine.{Routine}
use Rattle.estelle_model.specs.declared.place.Place.{Place}
use Rattle.estelle_model.specs.declared.place.Place.TheVariants.{Of, In}
use Rattle.estelle_model.specs.declared.place.Environment.{Environment}
use Rattle.estelle_model.specs.Types.{item_of, field_of, item_place}
use Rattle.estelle_model.specs.Operators.{◌>>>◌}
use Rattle.estelle_model.specs.States.{Logged, on_log}
use Rattle.estelle_model.specs.Stops.{Stop}
use Rattle.estelle_model.specs.Steps.{Step, ◌>>=◌, pure, breaks, checked}
use Rattle.estelle_model.specs.Places.{deeper, child_step}
use Rattle.estelle_model.specs.Expressions as spec
use Rattle.estelle_model.specs.Expressions.{Operand, Access, Selecting, Written, reference_at, ordinal_step}
use Rattle.estelle_model.proofs.ExpressionEquations.{selector_at, selector_opened, variable_opened}
use Rattle.body_walker_blocks.specs.Scopes.{Scoped, meanings}
use Rattle.body_walker_blocks.specs.Located.{Located}
use Rattle.body_walker_blocks.specs.Accesses.{exported, of_child, behind_module, begun, rest_of, behind_beginning, field, item, result_of, result_in}
use Rattle.body_walker_blocks.specs.Walked.{calling, expr, selector, ordinal, located, at, accessed, selected, indexed, target}
use Rattle.body_walker_blocks.proofs.Plans.{Plan, First, Last, Check, run, Is}
use Rattle.body_walker_blocks.proofs.Chains.{chain}
use Rattle.body_walker_blocks.proofs.Followed.{then_pure, then_then}

abbrev placed : Denoter → Place → Located
placed d p = record { place = p; denoter = d }

-- ---- an access that has come to a place goes on from there

-- one component more does what it does from the place
abbrev GoesOn : (Access Logged → Access Logged) → Type 0
GoesOn f = (a : Access Logged) → located (Some (f a)) ≡ (located (Some a) >>= λ l. located (Some (f (at l))))

-- from the place of an access, with something of it
from_place : (a : Access Logged) (g : Denoter → Place → Step Logged Place) (d : Denoter → Denoter)
    → located (Some (record { denoter = d a.denoter; place = a.place >>= g a.denoter })) ≡ (located (Some a) >>= λ l. located (Some (record { denoter = d l.denoter; place = g l.denoter l.place })))
from_place a g d =
    then_then (g a.denoter) (λ p. pure (record { place = p; denoter = d a.denoter })) a.place
    ∙ sym (then_then (λ p. pure (record { place = p; denoter = a.denoter })) (λ l. located (Some (record { denoter = d l.denoter; place = g l.denoter l.place }))) a.place)

module _ (t : Scoped) (h : Environment) where
  -- the item at an index
  abbrev index_on : Operand Logged → Access Logged → Access Logged
  index_on e a = record { denoter = item_of a.denoter; place = spec.index_step Logged on_log (meanings t) (calling t h) h a e }

  index_goes_on : (e : Operand Logged) → GoesOn (index_on e)
  index_goes_on e a = from_place a (λ d p. ordinal_step e.value >>= λ n. checked (item_place d n) >>= λ k. pure (deeper p k)) item_of

  -- one index, from a place
  abbrev item_there : Place → Denoter → Result ℕ Stop → Step Logged Located
  item_there p d r = checked r >>= λ k. pure (placed (item_of d) (deeper p k))

  placed_item : (p : Place) (d : Denoter) (r : Result ℕ Stop) → item_there p d r ≡ checked (r >>> λ k. Ok (placed (item_of d) (deeper p k)))
  placed_item p d (Ok k) = refl
  placed_item p d (Err f) = refl

  index_steps : (e : Operand Logged) (l : Located) → located (Some (index_on e (at l))) ≡ (ordinal_step e.value >>= λ n. checked (item l n))
  index_steps e l =
      let at_index : ℤ → Result ℕ Stop = λ n. item_place l.denoter n in
      then_then (λ n. checked (at_index n) >>= λ k. pure (deeper l.place k)) (λ q. pure (placed (item_of l.denoter) q)) (ordinal_step e.value)
      ∙ (λ i. ordinal_step e.value >>= λ n. (then_then (λ k. pure (deeper l.place k)) (λ q. pure (placed (item_of l.denoter) q)) (checked (at_index n)) ∙ placed_item l.place l.denoter (at_index n)) i)

  -- ---- one index after another

  indexed_goes_on : (es : List (Operand Logged)) → GoesOn (spec.indexed Logged on_log (meanings t) (calling t h) h es)
  indexed_goes_on [] a = sym (then_pure (located (Some a)))
  indexed_goes_on (e ∷ es) a =
      indexed_goes_on es (index_on e a)
      ∙ ap (λ (p : Step Logged Located). p >>= λ l. located (Some (spec.indexed Logged on_log (meanings t) (calling t h) h es (at l)))) (index_goes_on e a)
      ∙ then_then (λ l. located (Some (index_on e (at l)))) (λ l. located (Some (spec.indexed Logged on_log (meanings t) (calling t h) h es (at l)))) (located (Some a))
      ∙ (λ i. located (Some a) >>= λ l. sym (indexed_goes_on es (index_on e (at l))) i)

  abbrev pub item_plan : Located → Expr → Plan Located
  item_plan l e = First (ordinal t h e) (λ n. Check (item l n))

  abbrev pub at_item : Located → Expr → Step Logged Located
  at_item l e = run (item_plan l e)

  pub indexed_steps : (es : List Expr) (l : Located) → indexed t h l es ≡ chain at_item l es
  unfolding indexed
  indexed_steps [] l = refl
  indexed_steps (e ∷ es) l =
      indexed_goes_on (map (expr t h) es) (index_on (expr t h e) (at l))
      ∙ ap (λ (p : Step Logged Located). p >>= λ k. indexed t h k es) (index_steps (expr t h e) l)
      ∙ (λ i. at_item l e >>= λ k. indexed_steps es k i)

  pub indexed_is : (es : List Expr) (l : Located) → Is (indexed t h l es) (Last (chain at_item l es))
  indexed_is es l = record { is = indexed_steps es l }

  pub item_is : (l : Located) (e : Expr) → Is (at_item l e) (item_plan l e)
  item_is l e = record { is = refl }

  -- ---- selectors

  abbrev pub select_plan : Located → Selector-F Factor Selector Args Elem Expr Simple Term Variable → Plan Located
  select_plan l (Selector-F.Field x) = Check (field (meanings t x) l)
  select_plan l (Selector-F.Index es) = Last (indexed t h l es)

  fielded_steps : (m : Meaning) (l : Located) → located (Some (spec.fielded Logged on_log (meanings t) (calling t h) h m (at l))) ≡ checked (field m l)
  fielded_steps (Field k) l = refl
  fielded_steps _ l = refl

  select_out : (l : Located) (s : Selector-F Factor Selector Args Elem Expr Simple Term Variable) → located (Some ((selector_at Logged on_log (meanings t) (calling t h) h s).over (at l))) ≡ run (select_plan l s)
  unfolding indexed expr
  select_out l (Selector-F.Field x) = fielded_steps (meanings t x) l
  select_out l (Selector-F.Index es) = refl

  pub selected_steps : (l : Located) (s : Selector) (k : Selector-F Factor Selector Args Elem Expr Simple Term Variable) → out-Selector s ≡ k → Is (selected t h l s) (select_plan l k)
  unfolding selected selector
  selected_steps l s k is = record { is = ap (λ (x : Selecting Logged). located (Some (x.over (at l)))) (selector_opened Logged on_log (meanings t) (calling t h) h s) ∙ select_out l (out-Selector s) ∙ ap (λ (x : Selector-F Factor Selector Args Elem Expr Simple Term Variable). run (select_plan l x)) is }

  fielded_goes_on : (m : Meaning) → GoesOn (spec.fielded Logged on_log (meanings t) (calling t h) h m)
  fielded_goes_on (Field k) a = from_place a (λ d p. pure (deeper p k)) (λ d. field_of d k)
  fielded_goes_on _ a = from_place a (λ d p. breaks) (λ d. d)

  over_goes_on : (s : Selector-F Factor Selector Args Elem Expr Simple Term Variable) → GoesOn (selector_at Logged on_log (meanings t) (calling t h) h s).over
  unfolding expr
  over_goes_on (Selector-F.Field x) = fielded_goes_on (meanings t x)
  over_goes_on (Selector-F.Index es) = indexed_goes_on (map (expr t h) es)

  selector_goes_on : (s : Selector) → GoesOn (selector t h s).over
  unfolding selector
  selector_goes_on s = subst (λ (x : Selecting Logged). GoesOn x.over) (sym (selector_opened Logged on_log (meanings t) (calling t h) h s)) (over_goes_on (out-Selector s))

  pub selectors_then : (ss : List Selector) (a : Access Logged) → located (Some (spec.selected Logged on_log (meanings t) (calling t h) h (map (selector t h) ss) a)) ≡ (located (Some a) >>= λ l. chain (selected t h) l ss)
  unfolding selected
  selectors_then [] a = sym (then_pure (located (Some a)))
  selectors_then (s ∷ ss) a =
      selectors_then ss ((selector t h s).over a)
      ∙ ap (λ (p : Step Logged Located). p >>= λ l. chain (selected t h) l ss) (selector_goes_on s a)
      ∙ then_then (λ l. selected t h l s) (λ l. chain (selected t h) l ss) (located (Some a))

  -- ---- where an access begins

  referred_steps : (r : Result Place Stop) (d : Denoter) → located (Some (record { denoter = d; place = checked r })) ≡ checked (r >>> λ p. Ok (placed d p))
  referred_steps (Ok p) d = refl
  referred_steps (Err f) d = refl

  exported_steps : (k : ℕ) (m : Meaning) (ss : List Selector) → located (spec.exported Logged on_log (meanings t) (calling t h) h k m (map (selector t h) ss)) ≡ (exported h k m >>= λ l. chain (selected t h) l ss)
  exported_steps k (Exported n d) ss =
      selectors_then ss (record { denoter = d; place = child_step Logged on_log h.path k >>= λ p. pure (Of p n []) })
      ∙ ap (λ (p : Step Logged Located). p >>= λ l. chain (selected t h) l ss) (then_then (λ p. pure (Of p n [])) (λ q. pure (placed d q)) (child_step Logged on_log h.path k))
  exported_steps k _ ss = refl

  behind_out : (k : ℕ) (s : Selector-F Factor Selector Args Elem Expr Simple Term Variable) (ss : List Selector) → located (spec.behind_dot Logged on_log (meanings t) (calling t h) h k (selector_at Logged on_log (meanings t) (calling t h) h s).name (map (selector t h) ss)) ≡ (of_child t h k s >>= λ l. chain (selected t h) l ss)
  behind_out k (Selector-F.Field x) ss = exported_steps k (meanings t x) ss
  behind_out k (Selector-F.Index es) ss = refl

  behind_steps : (k : ℕ) (ss : List Selector) → located (spec.behind_module Logged on_log (meanings t) (calling t h) h k (map (selector t h) ss)) ≡ (behind_module t h k ss >>= λ l. chain (selected t h) l (rest_of ss))
  unfolding selector
  behind_steps k [] = refl
  behind_steps k (s ∷ ss) = ap (λ (x : Selecting Logged). located (spec.behind_dot Logged on_log (meanings t) (calling t h) h k x.name (map (selector t h) ss))) (selector_opened Logged on_log (meanings t) (calling t h) h s) ∙ behind_out k (out-Selector s) ss

  accessed_then : (m : Meaning) (ss : List Selector) → accessed t h m ss ≡ (begun t h m ss >>= λ l. chain (selected t h) l (behind_beginning m ss))
  unfolding accessed
  accessed_then (Own k d) ss = selectors_then ss (record { denoter = d; place = pure (Of h.path k []) })
  accessed_then (Exported k d) ss = selectors_then ss (record { denoter = d; place = pure (Of h.path k []) })
  accessed_then (Local k d) ss = selectors_then ss (record { denoter = d; place = pure (In h.frame k []) })
  accessed_then (Var k d) ss =
      selectors_then ss (record { denoter = d; place = checked (reference_at (slice_get h.references k)) })
      ∙ ap (λ (p : Step Logged Located). p >>= λ l. chain (selected t h) l ss) (referred_steps (reference_at (slice_get h.references k)) d)
  accessed_then (Module k) ss = behind_steps k ss
  accessed_then _ ss = refl

  pub accessed_steps : (m : Meaning) (ss : List Selector) → Is (accessed t h m ss) (First (begun t h m ss) (λ l. Last (chain (selected t h) l (behind_beginning m ss))))
  accessed_steps m ss = record { is = accessed_then m ss }

  -- ---- what stands on the left of an assignment

  abbrev pub target_plan : Meaning → List Selector → Plan Located
  target_plan (Called r) ss = Check (result_of h r)
  target_plan m ss = Last (accessed t h m ss)

  result_steps : (r : Routine) (o : Option Denoter) → located (spec.result_of Logged on_log (meanings t) (calling t h) h r o) ≡ checked (result_in h r o)
  result_steps r None = refl
  result_steps r (Some d) = refl

  target_out : (m : Meaning) (ss : List Selector) → located (spec.assigned Logged on_log (meanings t) (calling t h) h m (map (selector t h) ss)) ≡ run (target_plan m ss)
  unfolding accessed
  target_out (Called r) ss = result_steps r r.result
  target_out _ ss = refl

  pub target_steps : (v : Variable) (m : Meaning) → meanings t (out-Variable v).name ≡ m → Is (target t h v) (target_plan m (out-Variable v).selectors)
  unfolding target spec.target selector
  target_steps v m is = record { is = ap (λ (w : Written Logged). located (spec.assigned Logged on_log (meanings t) (calling t h) h (meanings t w.name) w.selectors)) (variable_opened Logged on_log (meanings t) (calling t h) h v) ∙ target_out (meanings t (out-Variable v).name) (out-Variable v).selectors ∙ ap (λ (k : Meaning). run (target_plan k (out-Variable v).selectors)) is }

  -- what is no routine's name
  pub target_other : (v : Variable) (m : Meaning) → meanings t (out-Variable v).name ≡ m → ((r : Routine) → m ≡ Called r → ⊥) → Is (target t h v) (Last (accessed t h m (out-Variable v).selectors))
  target_other v (Called r) is no_call = absurd (no_call r refl)
  target_other v m is no_call = target_steps v m is
