-- An example of priorities: a name of `any` in `priority` has the value of the choice.
--   state go, d1, d2;
--   trans from go to d1 priority 5 begin end;
--   trans any i: 1..1 do from go to d2 priority i begin end;
-- go, d1 and d2 are declared at 10, 11 and 12, and i at 20.
use Rattle.std.proofs.Common.{◌≡◌, ◌∙◌, ℕ, zero, suc, true, false, List, [], ◌∷◌, map, ℤ, pos, Option, Some, None, refl, ap, sym}
use Rattle.std.specs.Prelude.{flat_map, slice_get, option_and_then}
use Rattle.std.specs.FinMap as fin_map
use Rattle.pascal_values.specs.declared.value.Value.TheVariants.{outs-Int}
use Rattle.estelle_tree.specs.declared.names.Use.{Use}
use Rattle.estelle_tree.specs.declared.tree.name.NameList.{NameList}
use Rattle.estelle_tree.specs.declared.tree.type_expr.Const.TheVariants as const
use Rattle.estelle_tree.specs.declared.tree.type_expr.Ordinal.TheVariants as ordinal
use Rattle.estelle_tree.specs.declared.tree.clause.Block.{Block}
use Rattle.estelle_tree.specs.declared.tree.clause.Clause.TheVariants as clause
use Rattle.estelle_tree.specs.declared.tree.clause.NextState.TheVariants as next
use Rattle.estelle_tree.specs.declared.tree.specification.Spec.{Spec}
use Rattle.estelle_tree.specs.Timers.{pair}
use Rattle.estelle_model.specs.declared.denoter.Denoter.TheVariants.{outs-Ordinal}
use Rattle.estelle_model.specs.Core.{Instance}
use Rattle.estelle_model.specs.Bodies.{BodyAlone, Way, bodies, ways_of}
use Rattle.estelle_model.specs.Transitions.{Transition, flat_way}
use Rattle.estelle_model.specs.Subject.{Subject, meant_with, transitions_of, transitions, numbered_one, transition}
use Rattle.estelle_model.specs.Situation.{Situation}
use Rattle.estelle_model.specs.Firing.{transition_at}
use Rattle.estelle_model.specs.Selection.{May, Must, is_higher, priority, Eligible, Selects, own}
use Rattle.estelle_model.proofs.Trees as tree
use Rattle.estelle_model.proofs.WorkedNames.{used}

abbrev names_at : ℕ → NameList
names_at n = record { names = tree.name n ∷ []; span = tree.nowhere }

abbrev empty : Block
empty = record { label = None; decls = []; late_label = None; body = tree.sequence []; span = tree.nowhere }

abbrev pub five : Way
five = record { clauses = clause.From (names_at 40) tree.nowhere ∷ clause.To (next.Name (tree.name 41)) tree.nowhere ∷ clause.Priority (const.Number None (pos 5) tree.nowhere) tree.nowhere ∷ []; block = empty }

abbrev pub chosen : Way
chosen = record {
  clauses = clause.Any (record { names = names_at 20; domain = ordinal.Subrange (const.Number None (pos 1) tree.nowhere) (const.Number None (pos 1) tree.nowhere) tree.nowhere; span = tree.nowhere } ∷ []) tree.nowhere
      ∷ clause.From (names_at 42) tree.nowhere ∷ clause.To (next.Name (tree.name 43)) tree.nowhere ∷ clause.Priority (const.Name None (tree.name 44) tree.nowhere) tree.nowhere ∷ [];
  block = empty;
}

abbrev pub uses : List Use
uses = used 40 10 ∷ used 41 11 ∷ used 42 10 ∷ used 43 12 ∷ used 44 20 ∷ []

abbrev priorities_of : List Transition → List (Option ℤ)
priorities_of = map (λ t. t.priority)

abbrev given : List (Option ℤ) → ℕ → Option ℤ
given ps zero = None
given ps (suc n) = option_and_then (λ p. p) (slice_get ps n)

given_by : (ts : List Transition) (n : ℕ) → option_and_then (λ (t : Transition). t.priority) (slice_get ts n) ≡ option_and_then (λ p. p) (slice_get (priorities_of ts) n)
given_by [] n = refl
given_by (t ∷ ts) zero = refl
given_by (t ∷ ts) (suc n) = given_by ts n

numbered_by : (ts : List Transition) (n : ℕ) → option_and_then (λ (t : Transition). t.priority) (numbered_one ts n) ≡ given (priorities_of ts) n
numbered_by ts zero = refl
numbered_by ts (suc n) = given_by ts n

-- 5, and the chosen 1
abbrev five_and_one : List (Option ℤ)
five_and_one = Some (pos 5) ∷ Some (pos 1) ∷ []

-- none is higher than the second
none_above : (k : ℕ) → is_higher (given five_and_one k) (Some (pos 1)) ≡ false
none_above zero = refl
none_above (suc zero) = refl
none_above (suc (suc zero)) = refl
none_above (suc (suc (suc k))) = refl

module _ (x : Spec) (b : BodyAlone) (is : bodies x ≡ b ∷ []) (two : ways_of b ≡ five ∷ chosen ∷ []) where
  abbrev s : Subject
  s = record { specification = x; names = uses }

  pub priorities : priorities_of (transitions s 0) ≡ five_and_one
  priorities =
      ap (λ bs. priorities_of (transitions_of s (slice_get bs 0))) is
      ∙ ap (λ ws. priorities_of (flat_map (flat_way (meant_with s)) ws)) two
      ∙ simp (outs-Ordinal, outs-Int)

  module _ (budget : ℕ) (g : Situation) (i : Instance) (there : fin_map.get g.core.instances [] ≡ Some i) (of : i.body ≡ 0) where
    priority_is : (n : ℕ) → priority s g [] n ≡ given five_and_one n
    priority_is n =
        ap (λ o. option_and_then (λ (t : Transition). t.priority) (transition_at s n o)) there
        ∙ ap (λ k. option_and_then (λ (t : Transition). t.priority) (transition s k n)) of
        ∙ numbered_by (transitions s 0) n
        ∙ ap (λ ps. given ps n) priorities

    -- where both may fire, the second is selected
    pub second_selected : May s budget g [] 2 → Selects s budget g [] (pair [] 2 ∷ [])
    second_selected may = own [] 2 (record {
      may = may;
      highest = λ k must higher.
          let wrong : false ≡ true = sym (none_above k) ∙ sym (ap (λ p. is_higher p (Some (pos 1))) (priority_is k)) ∙ sym (ap (λ p. is_higher (priority s g [] k) p) (priority_is 2)) ∙ higher in
          absurd (cc);
    })

    -- and the first is not
    pub first_excluded : Must s budget g [] 2 → Eligible s budget g [] 1 → ⊥
    first_excluded must first = first.highest 2 must (ap (λ p. is_higher p (priority s g [] 1)) (priority_is 2) ∙ ap (λ p. is_higher (Some (pos 1)) p) (priority_is 1))
