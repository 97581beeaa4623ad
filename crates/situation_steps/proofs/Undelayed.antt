-- Where no transition has a delay, no timer starts.
use Rattle.std.proofs.Common.{◌≡◌, ◌⊎◌, ℕ, zero, suc, ◌+◌, ◌<◌, ◌≤◌, Bool, true, false, List, [], ◌∷◌, ◌++◌, map as each, length, Option, Some, None, refl, sym, ap, cond, ◌∙◌, inl, inr, arith}
use Rattle.std.specs.Prelude.{not, is_some, slice_get, flat_map}
use Rattle.std.specs.List.{list_any, range_with_len}
use Rattle.std.specs.FinMap as map
use Rattle.std.proofs.lemmas.Bool.{cases_lt}
use Rattle.std.proofs.lemmas.Option.{slice_get_within}
use Rattle.estelle_tree.specs.declared.transition.Pair.{Pair}
use Rattle.estelle_tree.specs.Paths.{Path, is_inside}
use Rattle.estelle_tree.specs.Timers.{Timer, Timers, pair, pair_cmp}
use Rattle.estelle_tree.specs.Timers as timer
use Rattle.estelle_model.specs.Core.{Instance}
use Rattle.estelle_model.specs.Bodies.{BodyAlone, bodies}
use Rattle.estelle_model.specs.Transitions.{Transition}
use Rattle.estelle_model.specs.Subject.{Subject, body, transitions, transitions_of, transition}
use Rattle.estelle_model.specs.Situation.{Situation}
use Rattle.estelle_model.specs.Firing.{transition_at, guard}
use Rattle.estelle_model.specs.Delays.{is_delayed, has_delays, delayed_of, delayed_in, wanted_by, renew}
use Rattle.estelle_model.proofs.Pairs.{pairs_total, pairs_apart}
use Rattle.estelle_model_legality.proofs.Members.{Has, has_got, has_none}
use Rattle.situation_steps.proofs.Listed.{filter_none}

-- ---- lists

range_has : (len a n : ℕ) → a ≤ n → n < a + len → Has (range_with_len a len) n
range_has zero a n low high = absurd (omega arith)
range_has (suc len) a n low high = by (cases_lt a n) (λ less. range_has len (a + 1) n (omega arith) (omega arith))
  where
    by : (a < n) ⊎ (n ≤ a) → (a < n → Has (range_with_len (a + 1) len) n) → Has (range_with_len a (suc len)) n
    by (inl less) rest = inr (rest less)
    by (inr last) rest = inl (omega arith)

flat_none : {A B : Type 0} (f : A → List B) (xs : List A) → ((x : A) → f x ≡ []) → flat_map f xs ≡ []
flat_none f [] none = refl
flat_none f (x ∷ xs) none = ap (λ ys. ys ++ flat_map f xs) (none x) ∙ flat_none f xs none

-- ---- transitions

module _ (s : Subject) (none : has_delays s ≡ false) where
  within : (k j : ℕ) (t : Transition) (o : Option BodyAlone) → body s k ≡ o → slice_get (transitions_of s o) j ≡ Some t → k < length (bodies s.specification)
  within k j t None e got = absurd (cc)
  within k j t (Some b) e got = slice_get_within (bodies s.specification) k b e

  not_delayed : (k n : ℕ) (o : Option Transition) → transition s k n ≡ o → is_delayed o ≡ false
  not_delayed k n None e = refl
  not_delayed k zero (Some t) e = absurd (cc)
  not_delayed k (suc j) (Some t) e =
      let less = within k j t (body s k) refl e in
      let of_body = has_none (λ n. list_any (λ (x : Transition). is_some x.delay) (transitions s n)) (range_with_len 0 (length (bodies s.specification))) none k (range_has (length (bodies s.specification)) 0 k (omega arith) (omega (arith, less))) in
      has_none (λ (x : Transition). is_some x.delay) (transitions s k) of_body t (has_got (transitions s k) j t e)

  not_delayed_at : (n : ℕ) (o : Option Instance) → is_delayed (transition_at s n o) ≡ false
  not_delayed_at n None = refl
  not_delayed_at n (Some i) = not_delayed i.body n (transition s i.body n) refl

  module _ (g : Situation) where
    none_delayed_of : (e : Path × Instance) → delayed_of s e ≡ []
    none_delayed_of e = filter_none (λ (p : Pair). is_delayed (transition_at s p.trans (Some e.1))) (each (pair e.0) (range_with_len 1 (length (transitions s e.1.body)))) (λ p h. not_delayed_at p.trans (Some e.1))

    none_delayed : (system : Path) → delayed_in s g system ≡ []
    none_delayed system = flat_none (delayed_of s) _ none_delayed_of

-- ---- timers

without_any : (b : Bool) (o : Option Timer) → o ≡ None → cond b o None ≡ o
without_any true o e = refl
without_any false o e = sym e

none_retained : (test : Pair → Bool) → map.retain_keys (map.empty {K = Pair} {X = Timer} {R = pair_cmp}) test ≡ map.empty
none_retained test = map.same_map pairs_total pairs_apart _ _
    (λ q. map.get-retain_keys (map.empty {K = Pair} {X = Timer} {R = pair_cmp}) test q (λ p tie. ap test (sym (pairs_apart q p tie)))
    ∙ without_any (test q) (map.get (map.empty {K = Pair} {X = Timer} {R = pair_cmp}) q) (map.get-empty pair_cmp q))

-- after a selection none runs either
pub renewed_untimed : (s : Subject) (budget : ℕ) (g : Situation) (system : Path) (now : ℕ) → has_delays s ≡ false → g.timers ≡ map.empty → (renew s budget g system now).timers ≡ map.empty
renewed_untimed s budget g system now none untimed =
    ap (λ (ps : List Pair). timer.renewed system now (flat_map (λ p. wanted_by p (guard s budget g p.path p.trans)) ps) g.timers) (none_delayed s none g system)
    ∙ ap (λ (ts : Timers). map.retain_keys ts (λ p. not (is_inside system p.path))) untimed
    ∙ none_retained (λ p. not (is_inside system p.path))
