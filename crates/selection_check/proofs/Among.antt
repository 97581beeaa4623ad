-- Which of the children of an instance selects the firings.
use Rattle.std.proofs.Common.{◌≡◌, ◌≢◌, ℕ, Bool, true, false, List, [], ◌∷◌, drop, take, refl, sym, ap, subst, ◌∙◌, inl, inr}
use Rattle.std.specs.Prelude.{◌↔◌, IsTrue}
use Rattle.estelle_tree.specs.declared.transition.Pair.{Pair}
use Rattle.estelle_tree.specs.Paths.{Path, is_inside}
use Rattle.estelle_model.specs.Subject.{Subject}
use Rattle.estelle_model.specs.Situation.{Situation}
use Rattle.estelle_model.specs.Selection.{children, Selects}
use Rattle.estelle_model_legality.specs.Choices.{AreTree}
use Rattle.estelle_model_legality.proofs.Lists.{not_both}
use Rattle.estelle_model_legality.proofs.Members.{Has, has_contained, contains_has}
use Rattle.transition_select.specs.declared.countings.Counting.{Counting}
use Rattle.transition_select.specs.Countings.{AreCountings}
use Rattle.selection_check.specs.Countings.{AreCountingsBelow, block_len, begins_in}
use Rattle.selection_check.specs.Deciding.{SelectsOne}
use Rattle.selection_check.proofs.Parts.{AreLeft, of_children, none_left, head_is, of_first, of_others}
use Rattle.selection_check.proofs.Splits.{inside_of}

module _ (s : Subject) (budget : ℕ) (g : Situation) where
  -- what an instance selects begins in it
  selects_begins : (c : Path) (takes : List Pair) → takes ≢ [] → Selects s budget g c takes → begins_in c takes ≡ true
  selects_begins c [] some selects = absurd (some refl)
  selects_begins c (p ∷ ps) some selects = inside_of s budget g c (p ∷ ps) selects p (inl refl)

  not_twice : (c d : Path) (takes : List Pair) → ((q : Path) → is_inside c q ≡ true → is_inside d q ≡ true → ⊥) → begins_in c takes ≡ true → begins_in d takes ≡ true → ⊥
  not_twice c d [] apart e f = absurd (cc)
  not_twice c d (p ∷ ps) apart e f = apart p.path e f

  module _ (m : Path) where
    -- where one of the children selects them, it is one of those that are left
    pub record IsAmong (takes : List Pair) (cs : List Counting) : Type 0 where
      pub ms : List Path
      pub given : AreLeft s budget g ms cs
      pub among : (c : Path) → Has ms c → Has (children g m) c
      pub needed : SelectsOne s budget g (children g m) takes → SelectsOne s budget g ms takes

    pub one_begins : (takes : List Pair) (cs : List Counting) → AreCountingsBelow s budget g m cs → IsAmong takes cs
    one_begins takes cs are = record { ms = children g m; given = of_children s budget g m cs are; among = λ c h. h; needed = λ x. x }

    -- the first of those that are left, and the others
    record IsAmongFirst (takes : List Pair) (d : Counting) (cs : List Counting) : Type 0 where
      first : Path
      others : List Path
      given : AreLeft s budget g (first ∷ others) (d ∷ cs)
      among : (c : Path) → Has (first ∷ others) c → Has (children g m) c
      needed : SelectsOne s budget g (children g m) takes → SelectsOne s budget g (first ∷ others) takes

    with_first : (takes : List Pair) (d : Counting) (cs : List Counting) (ms : List Path) → AreLeft s budget g ms (d ∷ cs) → ((c : Path) → Has ms c → Has (children g m) c)
        → (SelectsOne s budget g (children g m) takes → SelectsOne s budget g ms takes) → IsAmongFirst takes d cs
    with_first takes d cs [] given among needed = absurd (let wrong = given.paths in cc)
    with_first takes d cs (c ∷ ms) given among needed = record { first = c; others = ms; given = given; among = among; needed = needed }

    module _ (tree : AreTree s g.core.instances) (takes : List Pair) (some : takes ≢ []) (d : Counting) (cs : List Counting) (way : IsAmong takes (d ∷ cs)) where
      h : IsAmongFirst takes d cs
      h = with_first takes d cs way.ms way.given way.among way.needed

      here : d.path ≡ h.first
      here = head_is s budget g tree h.first h.others d cs h.given

      -- they are those of the first one, or of one of the others
      by : (one : SelectsOne s budget g (h.first ∷ h.others) takes) (R : Type 0) → (Selects s budget g h.first takes → R) → (Has h.others one.path → R) → R
      by one R f k = elim (has_contained (h.first ∷ h.others) one.path one.among) [
        | inl is ↦ f (subst (λ c. Selects s budget g c takes) (sym is) one.selects)
        | inr has ↦ k has
      ]

      pub one_goes_on : begins_in d.path takes ≡ false → IsAmong takes (drop (block_len d.path cs) cs)
      one_goes_on e = record {
        ms = h.others;
        given = of_others s budget g tree h.first h.others d cs h.given;
        among = λ c has. h.among c (inr has);
        needed = λ all. let one = h.needed all in by one (SelectsOne s budget g h.others takes)
            (λ selects. absurd (not_both (begins_in d.path takes) (ap (λ c. begins_in c takes) here ∙ selects_begins h.first takes some selects) e))
            (λ has. record { path = one.path; among = contains_has h.others one.path has; selects = one.selects });
      }

      pub one_is_here : begins_in d.path takes ≡ true → (r : Bool) → ((q : Path) → AreCountings s budget g q (d ∷ take (block_len d.path cs) cs) → IsTrue r ↔ Selects s budget g q takes)
          → IsTrue r ↔ SelectsOne s budget g (children g m) takes
      one_is_here e r may =
          let decides = may h.first (of_first s budget g tree h.first h.others d cs h.given) in (
            λ t. record { path = h.first; among = contains_has (children g m) h.first (h.among h.first (inl refl)); selects = decides.0 t },
            λ all. let one = h.needed all in by one (IsTrue r) decides.1
                (λ has. absurd (not_twice h.first one.path takes (λ q. h.given.apart.0 one.path q has) (ap (λ c. begins_in c takes) (sym here) ∙ e) (selects_begins one.path takes some one.selects))),
          )

    pub one_is_nowhere : AreTree s g.core.instances → (takes : List Pair) (cs : List Counting) → IsAmong takes cs → cs ≡ [] → IsTrue false ↔ SelectsOne s budget g (children g m) takes
    one_is_nowhere tree takes cs way e = (
      λ wrong. absurd (not_both false wrong refl),
      λ all. let one = way.needed all in absurd (subst (λ ps. Has ps one.path) (none_left s budget g tree way.ms cs e way.given) (has_contained way.ms one.path one.among)),
    )
