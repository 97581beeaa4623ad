-- Steps through what is given of an instance and of all below it.
use Rattle.std.proofs.Common.{◌≡◌, ◌≢◌, ◌+◌, ℕ, suc, Bool, true, false, cond, List, [], ◌∷◌, ◌++◌, length, take, drop, refl, sym, ap, subst, ◌∙◌, inl, inr, arith, append-nil, eqb-true}
use Rattle.std.specs.Prelude.{◌==◌, ◌↔◌, IsTrue}
use Rattle.std.proofs.lemmas.List.{take-append-drop}
use Rattle.estelle_tree.specs.declared.transition.Pair.{Pair}
use Rattle.estelle_tree.specs.Paths.{Path, is_inside}
use Rattle.estelle_tree.specs.Timers.{pair}
use Rattle.estelle_model.specs.Subject.{Subject}
use Rattle.estelle_model.specs.Situation.{Situation}
use Rattle.estelle_model.specs.Attributes.{attribute_at, IsProcess, IsActivity}
use Rattle.estelle_model.specs.Selection.{children, IsSilent, Selects, SelectsEach, own, process, activity, quiet, none, more}
use Rattle.estelle_model_legality.specs.Choices.{AreTree}
use Rattle.estelle_model_legality.specs.Pending.{AreInOrder}
use Rattle.estelle_model_legality.proofs.Lists.{not_both}
use Rattle.estelle_model_legality.proofs.Members.{Has}
use Rattle.estelle_model_legality.proofs.Selected.{selected}
use Rattle.estelle_model_legality.proofs.Ways.{inside_itself}
use Rattle.transition_select.specs.declared.countings.Counting.{Counting}
use Rattle.transition_select.specs.Countings.{AreCountings}
use Rattle.selection_check.specs.Countings.{AreCountingsBelow, block_len, takes_len, begins_in, must_some, takes_own}
use Rattle.selection_check.specs.Deciding.{SelectsOne}
use Rattle.selection_check.proofs.Cases.{SelectsBelow, of_process, of_activity, of_quiet, not_both_kinds, kind_here, silent_here, loud_here, begins_own, below_only}
use Rattle.selection_check.proofs.Parts.{AreLeft, of_one, none_left, head_is, below_first, of_others, opened, inside_of_child}
use Rattle.selection_check.proofs.Splits.{inside_of, inside_each, nothing_each, first_of, each_parts, each_joined, each_append, each_split}

-- ---- tests

-- what a test for emptiness says
empty_is : {A : Type 0} (xs : List A) (b : Bool) → b ≡ (length xs == 0) → b ≡ true → xs ≡ []
empty_is [] b is e = refl
empty_is (x ∷ xs) b is e = absurd (let wrong : (length (x ∷ xs) == 0) ≡ true = sym is ∙ e in let zero_is = eqb-true (length (x ∷ xs)) 0 wrong in omega (arith, zero_is))

is_empty : {A : Type 0} (xs : List A) (b : Bool) → b ≡ (length xs == 0) → xs ≡ [] → b ≡ true
is_empty xs b is e = is ∙ ap (λ ys. length ys == 0) e

-- what begins in an instance begins with a part that is inside it
pub its_some : (c : Path) (takes : List Pair) → begins_in c takes ≡ true → take (takes_len c takes) takes ≢ []
its_some c [] e is = absurd (cc)
its_some c (p ∷ ps) e is =
    let n : takes_len c (p ∷ ps) ≡ suc (takes_len c ps) = ap (λ b. cond b (1 + takes_len c ps) 0) e ∙ omega arith in
    let wrong : p ∷ take (takes_len c ps) ps ≡ [] = ap (λ k. take k (p ∷ ps)) (sym n) ∙ is in
    absurd (cc)

begins_not : (c : Path) (some others left : List Pair) → left ≡ some ++ others → begins_in c left ≡ false → ((p : Pair) → Has some p → is_inside c p.path ≡ true) → some ≡ []
begins_not c [] others left e out f = refl
begins_not c (p ∷ ps) others left e out f = absurd (not_both (begins_in c left) (ap (begins_in c) e ∙ f p (inl refl)) out)

module _ (s : Subject) (budget : ℕ) (g : Situation) (m : Path) where
  -- the instances side by side select what is left just where the instance selects all
  pub record AreAt (takes left : List Pair) (ms : List Path) (cs : List Counting) : Type 0 where
    pub given : AreLeft s budget g ms cs
    pub enough : SelectsEach s budget g ms left → Selects s budget g m takes
    pub needed : Selects s budget g m takes → SelectsEach s budget g ms left

  pub record AreOnTheWay (takes left : List Pair) (cs : List Counting) : Type 0 where
    pub ms : List Path
    pub at : AreAt takes left ms cs

  pub begins : (takes : List Pair) (cs : List Counting) → AreCountings s budget g m cs → AreOnTheWay takes takes cs
  begins takes cs are = record {
    ms = m ∷ [];
    at = record {
      given = of_one s budget g m cs are;
      enough = λ each.
          let f = first_of s budget g m [] takes each in
          subst (Selects s budget g m) (sym (f.are ∙ ap (λ ps. f.some ++ ps) (nothing_each s budget g f.others f.rest) ∙ append-nil f.some)) f.selects;
      needed = λ selects. subst (SelectsEach s budget g (m ∷ [])) (append-nil takes) (more m [] takes [] selects none);
    };
  }

  pub ends : AreTree s g.core.instances → (takes left : List Pair) (cs : List Counting) → AreOnTheWay takes left cs → cs ≡ [] → (b : Bool) → b ≡ (length left == 0) → IsTrue b ↔ Selects s budget g m takes
  ends tree takes left cs way e b is =
      let no_ms = none_left s budget g tree way.ms cs e way.at.given in (
        λ t. way.at.enough (subst (λ ps. SelectsEach s budget g ps left) (sym no_ms) (subst (SelectsEach s budget g []) (sym (empty_is left b is t)) none)),
        λ selects. is_empty left b is (nothing_each s budget g left (subst (λ ps. SelectsEach s budget g ps left) no_ms (way.at.needed selects))),
      )

  -- the first of the instances, and the others
  record IsAtFirst (takes left : List Pair) (d : Counting) (cs : List Counting) : Type 0 where
    first : Path
    others : List Path
    at : AreAt takes left (first ∷ others) (d ∷ cs)

  at_first : (takes left : List Pair) (d : Counting) (cs : List Counting) (ms : List Path) → AreAt takes left ms (d ∷ cs) → IsAtFirst takes left d cs
  at_first takes left d cs [] at = absurd (let wrong = at.given.paths in cc)
  at_first takes left d cs (c ∷ ms) at = record { first = c; others = ms; at = at }

  module _ (tree : AreTree s g.core.instances) (in_order : AreInOrder g) (takes left : List Pair) (d : Counting) (cs : List Counting) (way : AreOnTheWay takes left (d ∷ cs)) where
    h : IsAtFirst takes left d cs
    h = at_first takes left d cs way.ms way.at

    here : d.path ≡ h.first
    here = head_is s budget g tree h.first h.others d cs h.at.given

    -- ---- one of its own

    after_own : (n : ℕ) (ps : List Pair) → SelectsEach s budget g (h.first ∷ h.others) (pair h.first n ∷ ps) → SelectsEach s budget g h.others ps
    after_own n ps each = let f = first_of s budget g h.first h.others (pair h.first n ∷ ps) each in by f.some f.others f.are f.selects f.rest
      where
        by : (some others : List Pair) → pair h.first n ∷ ps ≡ some ++ others → Selects s budget g h.first some → SelectsEach s budget g h.others others → SelectsEach s budget g h.others ps
        by [] others e selects rest =
            let k = inside_each s budget g rest (pair h.first n) (subst (λ qs. Has qs (pair h.first n)) e (inl refl)) in
            absurd (h.at.given.apart.0 k.0 h.first k.1 (inside_itself h.first) k.2)
        by (q ∷ []) others e selects rest = let same : others ≡ ps = cc in subst (SelectsEach s budget g h.others) same rest
        by (q ∷ (r ∷ qs)) others e selects rest =
            let is : q ≡ pair h.first n = cc in
            let apart : is_inside h.first r.path ≡ false = subst (λ (x : Pair). is_inside x.path r.path ≡ false) is ((selected s budget g selects).apart.0 r (inl refl)).0 in
            absurd (not_both (is_inside h.first r.path) (inside_of s budget g h.first (q ∷ (r ∷ qs)) selects r (inr (inl refl))) apart)

    pub own_goes_on : takes_own d left ≡ true → AreOnTheWay takes (drop 1 left) (drop (block_len d.path cs) cs)
    own_goes_on e =
        let o = begins_own s budget g h.first in_order d here h.at.given.countings.0 left e in
        let rest_is : drop 1 left ≡ o.others = ap (drop 1) o.is in
        record {
          ms = h.others;
          at = record {
            given = of_others s budget g tree h.first h.others d cs h.at.given;
            enough = λ each.
                h.at.enough (subst (SelectsEach s budget g (h.first ∷ h.others)) (sym o.is)
                (more h.first h.others (pair h.first o.number ∷ []) o.others (own h.first o.number o.eligible) (subst (SelectsEach s budget g h.others) rest_is each)));
            needed = λ selects.
                subst (SelectsEach s budget g h.others) (sym rest_is) (after_own o.number o.others (subst (SelectsEach s budget g (h.first ∷ h.others)) o.is (h.at.needed selects)));
          };
        }

    -- ---- none of its own

    module _ (not_own : takes_own d left ≡ false) where
      below_is : (some others : List Pair) → left ≡ some ++ others → Selects s budget g h.first some → IsSilent s budget g h.first × SelectsBelow s budget g h.first some
      below_is some others e selects = below_only s budget g h.first in_order d here h.at.given.countings.0 some others left e not_own selects

      pub must_stops : must_some d.transitions.items ≡ true → IsTrue false ↔ Selects s budget g m takes
      must_stops e = (
        λ wrong. absurd (not_both false wrong refl),
        λ selects.
            let f = first_of s budget g h.first h.others left (h.at.needed selects) in
            absurd (loud_here s budget g h.first in_order d here h.at.given.countings.0 e (below_is f.some f.others f.are f.selects).0),
      )

      module _ (none_must : must_some d.transitions.items ≡ false) where
        silent : IsSilent s budget g h.first
        silent = silent_here s budget g h.first in_order d here h.at.given.countings.0 none_must

        module _ (is : d.of_process ≡ true) where
          is_process : IsProcess s g h.first
          is_process = kind_here s budget g h.first in_order d here h.at.given.countings.0 true is

          each_of_process : (some : List Pair) → SelectsBelow s budget g h.first some → SelectsEach s budget g (children g h.first) some
          each_of_process some (of_process p each) = each
          each_of_process some (of_activity a there one) = absurd (not_both_kinds (attribute_at s g h.first) is_process a)
          each_of_process some (of_quiet a e each) = absurd (not_both_kinds (attribute_at s g h.first) is_process a)

          pub process_goes_on : AreOnTheWay takes left cs
          process_goes_on = record {
            ms = children g h.first ++ h.others;
            at = record {
              given = opened s budget g tree h.first h.others d cs h.at.given;
              enough = λ each.
                  let r = each_split s budget g (children g h.first) h.others left each in
                  h.at.enough (subst (SelectsEach s budget g (h.first ∷ h.others)) (sym r.are) (more h.first h.others r.front r.back (process h.first r.front silent is_process r.of_front) r.of_back));
              needed = λ selects.
                  let f = first_of s budget g h.first h.others left (h.at.needed selects) in
                  subst (SelectsEach s budget g (children g h.first ++ h.others)) (sym f.are) (each_append s budget g (each_of_process f.some (below_is f.some f.others f.are f.selects).1) h.others f.others f.rest);
            };
          }

        module _ (is : d.of_process ≡ false) where
          is_activity : IsActivity s g h.first
          is_activity = kind_here s budget g h.first in_order d here h.at.given.countings.0 false is

          -- ---- an activity below which nothing is selected

          each_of_quiet : (some : List Pair) → some ≡ [] → SelectsBelow s budget g h.first some → SelectsEach s budget g (children g h.first) some
          each_of_quiet some e (of_process p each) = each
          each_of_quiet some e (of_activity a there one) = absurd (there e)
          each_of_quiet some e (of_quiet a e' each) = each

          pub quiet_goes_on : begins_in d.path left ≡ false → AreOnTheWay takes left cs
          quiet_goes_on out = record {
            ms = children g h.first ++ h.others;
            at = record {
              given = opened s budget g tree h.first h.others d cs h.at.given;
              enough = λ each.
                  let r = each_split s budget g (children g h.first) h.others left each in
                  let nothing : r.front ≡ [] = begins_not h.first r.front r.back left r.are outside (λ p has. let k = inside_each s budget g r.of_front p has in inside_of_child s g h.first k.0 p.path k.1 k.2) in
                  h.at.enough (subst (SelectsEach s budget g (h.first ∷ h.others)) (sym (r.are ∙ ap (λ ps. ps ++ r.back) nothing))
                  (more h.first h.others [] r.back (quiet h.first silent is_activity (subst (SelectsEach s budget g (children g h.first)) nothing r.of_front)) r.of_back));
              needed = λ selects.
                  let f = first_of s budget g h.first h.others left (h.at.needed selects) in
                  let nothing : f.some ≡ [] = begins_not h.first f.some f.others left f.are outside (inside_of s budget g h.first f.some f.selects) in
                  subst (SelectsEach s budget g (children g h.first ++ h.others)) (sym f.are) (each_append s budget g (each_of_quiet f.some nothing (below_is f.some f.others f.are f.selects).1) h.others f.others f.rest);
            };
          }
            where
              outside : begins_in h.first left ≡ false
              outside = ap (λ q. begins_in q left) (sym here) ∙ out

          -- ---- an activity below which something is selected

          module _ (begun : begins_in d.path left ≡ true) (its : List Pair) (is_its : its ≡ take (takes_len d.path left) left) (r : Bool)
              (may : (q : Path) → AreCountingsBelow s budget g q (take (block_len d.path cs) cs) → its ≢ [] → IsTrue r ↔ SelectsOne s budget g (children g q) its) where
            its_are : its ≡ take (takes_len h.first left) left
            its_are = is_its ∙ ap (λ q. take (takes_len q left) left) here

            there : take (takes_len h.first left) left ≢ []
            there = its_some h.first left (ap (λ q. begins_in q left) (sym here) ∙ begun)

            decided : IsTrue r ↔ SelectsOne s budget g (children g h.first) its
            decided = may h.first (below_first s budget g tree h.first h.others d cs h.at.given) (λ e. there (sym its_are ∙ e))

            one_of_activity : (some : List Pair) → some ≢ [] → SelectsBelow s budget g h.first some → SelectsOne s budget g (children g h.first) some
            one_of_activity some not_none (of_process p each) = absurd (not_both_kinds (attribute_at s g h.first) p is_activity)
            one_of_activity some not_none (of_activity a not_none' one) = one
            one_of_activity some not_none (of_quiet a e each) = absurd (not_none e)

            parts : Selects s budget g m takes → Selects s budget g h.first (take (takes_len h.first left) left) × SelectsEach s budget g h.others (drop (takes_len h.first left) left)
            parts selects = each_parts s budget g h.first h.others h.at.given.apart left (h.at.needed selects)

            pub activity_goes_on : r ≡ true → AreOnTheWay takes (drop (takes_len d.path left) left) (drop (block_len d.path cs) cs)
            activity_goes_on e = record {
              ms = h.others;
              at = record {
                given = of_others s budget g tree h.first h.others d cs h.at.given;
                enough = λ each.
                    let one = decided.0 e in
                    h.at.enough (each_joined s budget g h.first h.others (takes_len h.first left) left
                    (subst (Selects s budget g h.first) its_are (activity h.first one.path its silent is_activity one.among (λ none. there (sym its_are ∙ none)) one.selects))
                    (subst (λ q. SelectsEach s budget g h.others (drop (takes_len q left) left)) here each));
                needed = λ selects. subst (λ q. SelectsEach s budget g h.others (drop (takes_len q left) left)) (sym here) (parts selects).1;
              };
            }

            pub activity_stops : r ≡ false → IsTrue false ↔ Selects s budget g m takes
            activity_stops e = (
              λ wrong. absurd (not_both false wrong refl),
              λ selects.
                  let below = (below_is (take (takes_len h.first left) left) (drop (takes_len h.first left) left) (sym (take-append-drop (takes_len h.first left) left)) (parts selects).0).1 in
                  let one = one_of_activity (take (takes_len h.first left) left) there below in
                  absurd (not_both r (decided.1 (subst (SelectsOne s budget g (children g h.first)) (sym its_are) one)) e),
            )
