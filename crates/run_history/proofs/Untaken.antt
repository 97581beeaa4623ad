-- What nobody has taken, as a run goes on.
use Rattle.std.proofs.Common.{◌≡◌, ℕ, Bool, true, false, List, [], ◌∷◌, ◌++◌, refl, sym, ap, ◌∙◌, cond}
use Rattle.std.specs.Prelude.{◌||◌, ◌&&◌, not, nat_eq, filter}
use Rattle.std.specs.List.{list_any, AllByRecursion}
use Rattle.std.specs.Str.{bytes_eq}
use Rattle.estelle_tree.specs.Paths.{Path}
use Rattle.estelle_tree.specs.Timers.{pair}
use Rattle.estelle_tree.specs.declared.transition.Pair.{Pair}
use Rattle.estelle_model.specs.declared.event.Event.TheVariants as event
use Rattle.estelle_model.specs.Runs.{same_pair, without}
use Rattle.estelle_model_legality.proofs.Lists.{and_both, both_and, any_append, path_is, number_is, same_path, same_number}
use Rattle.run_history.specs.declared.entry.Taken.{Taken}
use Rattle.run_history.specs.declared.entry.What.TheVariants as what
use Rattle.run_history.specs.OpenTickets.{after_what, untaken, AreOnce, TakesLeave, FiringsLeave, SelectionsLeave}

-- ---- firings as pairs

pub is_it : (p q : Pair) → same_pair p q ≡ true → q ≡ p
is_it p q e =
    let both = and_both (bytes_eq p.path q.path) (nat_eq p.trans q.trans) e in
    (λ i. record { path = sym (same_path p.path q.path both.0) i; trans = sym (same_number p.trans q.trans both.1) i })

pub itself : (p : Pair) → same_pair p p ≡ true
itself p = both_and (bytes_eq p.path p.path) (nat_eq p.trans p.trans) (path_is p.path) (number_is p.trans)

-- of one that is another one
through : (p q r : Pair) → same_pair p q ≡ true → same_pair p r ≡ same_pair q r
through p q r e = ap (λ (x : Pair). same_pair x r) (sym (is_it p q e))

abbrev pub of : Taken → Pair
of o = pair o.path o.trans

abbrev is_taken : List Taken → Pair → Bool
is_taken os p = list_any (λ o. same_pair (of o) p) os

-- ---- filters

filter_same : (f g : Pair → Bool) (ps : List Pair) → AllByRecursion (λ p. f p ≡ g p) ps → filter f ps ≡ filter g ps
filter_same f g [] h = refl
filter_same f g (p ∷ ps) h = (λ i. cond (h.0 i) (p ∷ filter_same f g ps h.1 i) (filter_same f g ps h.1 i))

all_by : (P Q : Pair → Type 0) (ps : List Pair) → ((p : Pair) → P p → Q p) → AllByRecursion P ps → AllByRecursion Q ps
all_by P Q [] f h = tt
all_by P Q (p ∷ ps) f h = (f p h.0, all_by P Q ps f h.1)

abbrev IsNot : Pair → Pair → Type 0
IsNot p q = same_pair p q ≡ false

-- where a firing does not stand, nothing is left out
without_none : (p : Pair) (qs : List Pair) → AllByRecursion (IsNot p) qs → without p qs ≡ qs
without_none p [] h = refl
without_none p (q ∷ qs) h = ap (λ b. cond b qs (q ∷ without p qs)) h.0 ∙ ap (λ (rs : List Pair). q ∷ rs) (without_none p qs h.1)

-- and it does not stand in a part of the list
part_none : (p : Pair) (f : Pair → Bool) (qs : List Pair) → AllByRecursion (IsNot p) qs → AllByRecursion (IsNot p) (filter f qs)
part_none p f [] h = tt
part_none p f (q ∷ qs) h = by (f q) (part_none p f qs h.1)
  where
    by : (b : Bool) → AllByRecursion (IsNot p) (filter f qs) → AllByRecursion (IsNot p) (cond b (q ∷ filter f qs) (filter f qs))
    by true rest = (h.0, rest)
    by false rest = rest

-- ---- a take

-- what another one is not, it does not take
also_not : (a b : Bool) → b ≡ false → not (a || b) ≡ not a
also_not true b e = refl
also_not false b e = ap not e

also_it : (a b : Bool) → b ≡ true → not (a || b) ≡ false
also_it true b e = refl
also_it false b e = ap not e

module _ (os : List Taken) (o : Taken) where
  abbrev p : Pair
  p = of o

  abbrev more : List Taken
  more = os ++ o ∷ []

  left_of_others : (qs : List Pair) → AllByRecursion (IsNot p) qs → untaken more qs ≡ untaken os qs
  left_of_others qs h = filter_same (λ q. not (is_taken more q)) (λ q. not (is_taken os q)) qs
      (all_by (IsNot p) (λ q. not (is_taken more q) ≡ not (is_taken os q)) qs (λ q differ. ap not (any_append Taken (λ x. same_pair (of x) q) os o) ∙ also_not (is_taken os q) (same_pair p q) differ) h)

  is_more : (q : Pair) → is_taken more q ≡ (is_taken os q || same_pair p q)
  is_more q = any_append Taken (λ x. same_pair (of x) q) os o

  -- where it stands first, it is what is taken out, if it was not taken
  first_out : (q : Pair) (qs : List Pair) → same_pair p q ≡ true → AllByRecursion (IsNot p) qs → (a : Bool) → is_taken os q ≡ a → without p (untaken os (q ∷ qs)) ≡ untaken os qs
  first_out q qs same none true taken = ap (λ b. without p (cond (not b) (q ∷ untaken os qs) (untaken os qs))) taken ∙ without_none p (untaken os qs) (part_none p (λ r. not (is_taken os r)) qs none)
  first_out q qs same none false taken = ap (λ b. without p (cond (not b) (q ∷ untaken os qs) (untaken os qs))) taken ∙ ap (λ b. cond b (untaken os qs) (q ∷ without p (untaken os qs))) same

  -- where another one stands first, it stays, if it was not taken
  first_stays : (q : Pair) (qs : List Pair) → same_pair p q ≡ false → untaken more qs ≡ without p (untaken os qs) → (a : Bool) → is_taken os q ≡ a → untaken more (q ∷ qs) ≡ without p (untaken os (q ∷ qs))
  first_stays q qs same rest true taken =
      ap (λ b. cond b (q ∷ untaken more qs) (untaken more qs)) (ap not (is_more q) ∙ also_not (is_taken os q) (same_pair p q) same ∙ ap not taken)
      ∙ rest
      ∙ sym (ap (λ b. without p (cond (not b) (q ∷ untaken os qs) (untaken os qs))) taken)
  first_stays q qs same rest false taken =
      ap (λ b. cond b (q ∷ untaken more qs) (untaken more qs)) (ap not (is_more q) ∙ also_not (is_taken os q) (same_pair p q) same ∙ ap not taken)
      ∙ ap (λ (rs : List Pair). q ∷ rs) rest
      ∙ sym (ap (λ b. without p (cond (not b) (q ∷ untaken os qs) (untaken os qs))) taken ∙ ap (λ b. cond b (untaken os qs) (q ∷ without p (untaken os qs))) same)

  take_leaves : (ps : List Pair) → AreOnce ps → untaken more ps ≡ without p (untaken os ps)
  take_leaves [] once = refl
  take_leaves (q ∷ qs) once = by (same_pair p q) refl (take_leaves qs once.1)
    where
      by : (b : Bool) → same_pair p q ≡ b → untaken more qs ≡ without p (untaken os qs) → untaken more (q ∷ qs) ≡ without p (untaken os (q ∷ qs))
      by true same rest =
          let none : AllByRecursion (IsNot p) qs = all_by (IsNot q) (IsNot p) qs (λ r differ. through p q r same ∙ differ) once.0 in
          let gone : not (is_taken more q) ≡ false = ap not (is_more q) ∙ also_it (is_taken os q) (same_pair p q) same in
          ap (λ b. cond b (q ∷ untaken more qs) (untaken more qs)) gone ∙ left_of_others qs none ∙ sym (first_out q qs same none (is_taken os q) refl)
      by false same rest = first_stays q qs same rest (is_taken os q) refl

pub takes_leave : TakesLeave
takes_leave os o ps once = take_leaves os o ps once

-- ---- a firing that was taken

-- without the tickets of one, others are taken as before
others_taken : (p q : Pair) → same_pair p q ≡ false → (os : List Taken) → is_taken (filter (λ o. not (same_pair (of o) p)) os) q ≡ is_taken os q
others_taken p q differ [] = refl
others_taken p q differ (o ∷ os) = by (same_pair (of o) p) refl (others_taken p q differ os)
  where
    by : (b : Bool) → same_pair (of o) p ≡ b → is_taken (filter (λ x. not (same_pair (of x) p)) os) q ≡ is_taken os q → is_taken (filter (λ x. not (same_pair (of x) p)) (o ∷ os)) q ≡ is_taken (o ∷ os) q
    by true e rest =
        let none : same_pair (of o) q ≡ false = through (of o) p q e ∙ differ in
        ap (λ b. is_taken (cond (not b) (o ∷ filter (λ x. not (same_pair (of x) p)) os) (filter (λ x. not (same_pair (of x) p)) os)) q) e ∙ rest ∙ sym (ap (λ b. b || is_taken os q) none)
    by false e rest =
        ap (λ b. is_taken (cond (not b) (o ∷ filter (λ x. not (same_pair (of x) p)) os) (filter (λ x. not (same_pair (of x) p)) os)) q) e ∙ ap (λ b. same_pair (of o) q || b) rest

module _ (os : List Taken) (p : Pair) (taken : is_taken os p ≡ true) where
  abbrev fewer : List Taken
  fewer = filter (λ o. not (same_pair (of o) p)) os

  others_left : (qs : List Pair) → AllByRecursion (IsNot p) qs → untaken fewer qs ≡ untaken os qs
  others_left qs h = filter_same (λ q. not (is_taken fewer q)) (λ q. not (is_taken os q)) qs (all_by (IsNot p) (λ q. not (is_taken fewer q) ≡ not (is_taken os q)) qs (λ q differ. ap not (others_taken p q differ os)) h)

  firing_leaves : (ps : List Pair) → AreOnce ps → untaken fewer (without p ps) ≡ untaken os ps
  firing_leaves [] once = refl
  firing_leaves (q ∷ qs) once = by (same_pair p q) refl (firing_leaves qs once.1)
    where
      by : (b : Bool) → same_pair p q ≡ b → untaken fewer (without p qs) ≡ untaken os qs → untaken fewer (without p (q ∷ qs)) ≡ untaken os (q ∷ qs)
      by true same rest =
          let none : AllByRecursion (IsNot p) qs = all_by (IsNot q) (IsNot p) qs (λ r differ. through p q r same ∙ differ) once.0 in
          let it : is_taken os q ≡ true = ap (is_taken os) (is_it p q same) ∙ taken in
          ap (λ b. untaken fewer (cond b qs (q ∷ without p qs))) same ∙ others_left qs none ∙ sym (ap (λ b. cond (not b) (q ∷ untaken os qs) (untaken os qs)) it)
      by false same rest =
          ap (λ b. untaken fewer (cond b qs (q ∷ without p qs))) same
          ∙ (λ i. cond (not (others_taken p q same os i)) (q ∷ rest i) (rest i))

pub firings_leave : FiringsLeave
firings_leave os p outs drops by ps taken once = firing_leaves os p taken ps once

-- ---- a selection

all_left : (os : List Taken) → filter (λ (o : Taken). true) os ≡ os
all_left [] = refl
all_left (o ∷ os) = ap (λ (xs : List Taken). o ∷ xs) (all_left os)

all_untaken : (os : List Taken) (ts : List Pair) → AllByRecursion (λ t. is_taken os t ≡ false) ts → untaken os ts ≡ ts
all_untaken os [] none = refl
all_untaken os (t ∷ ts) none = ap (λ b. cond (not b) (t ∷ untaken os ts) (untaken os ts)) none.0 ∙ ap (λ (rs : List Pair). t ∷ rs) (all_untaken os ts none.1)

behind : (os : List Taken) (ps ts : List Pair) → AllByRecursion (λ t. is_taken os t ≡ false) ts → untaken os (ps ++ ts) ≡ untaken os ps ++ ts
behind os [] ts none = all_untaken os ts none
behind os (p ∷ ps) ts none = by (not (is_taken os p)) (behind os ps ts none)
  where
    by : (b : Bool) → untaken os (ps ++ ts) ≡ untaken os ps ++ ts → cond b (p ∷ untaken os (ps ++ ts)) (untaken os (ps ++ ts)) ≡ cond b (p ∷ untaken os ps) (untaken os ps) ++ ts
    by true rest = ap (λ (rs : List Pair). p ∷ rs) rest
    by false rest = rest

pub selections_leave : SelectionsLeave
selections_leave os by system now ps ts none = ap (λ (xs : List Taken). untaken xs (ps ++ ts)) (all_left os) ∙ behind os ps ts none
