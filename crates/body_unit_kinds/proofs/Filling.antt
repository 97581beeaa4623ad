-- Stacks that are put at addresses.
use Rattle.std.proofs.Common.{◌≡◌, ◌∙◌, refl, sym, ap, subst, ℕ, zero, suc, ◌<◌, ◌≤◌, List, [], ◌∷◌, map as each, Option, Some, None, arith}
use Rattle.std.specs.Prelude.{slice_get, slice_set, option_map}
use Rattle.std.proofs.lemmas.Option.{slice_get-map}
use Rattle.std.proofs.lemmas.List.{length-set}
use Rattle.smallvec.specs.SmallVec.{SmallVec}
use Rattle.estelle_model_legality.proofs.Lists.{set_other, set_same}
use Rattle.body_kinds.specs.Kinds.{Kind}
use Rattle.body_kinds.specs.Kinded.{Stacks}
use Rattle.body_unit_kinds.specs.declared.kind.Kind as code
use Rattle.body_unit_kinds.specs.declared.here.Here.{Here}
use Rattle.body_unit_kinds.specs.Seen.{stack_of, stacks_of}
use Rattle.body_unit_kinds.specs.Units.{Grows, Enters}

pub same_stacks : (a : ℕ) (s : Stacks) → Grows a s s
same_stacks a s = record { more = λ k ks h. h; kept = λ k less. refl; same = refl }

pub grows_then : (a : ℕ) (s t u : Stacks) → Grows a s t → Grows a t u → Grows a s u
grows_then a s t u g h = record { more = λ k ks is. h.more k ks (g.more k ks is); kept = λ k less. h.kept k less ∙ g.kept k less; same = h.same ∙ g.same }

-- what is kept before an address is kept before a lower one
pub grows_before : (a b : ℕ) (s t : Stacks) → b ≤ a → Grows a s t → Grows b s t
grows_before a b s t le g = record { more = g.more; kept = λ k less. g.kept k (let l : k < b = less in omega (arith, l)); same = g.same }

pub enters_still : (h : Here) (a to : ℕ) (s t : Stacks) (ks : List Kind) → Grows a s t → Enters h s to ks → Enters h t to ks
enters_still h a to s t ks g e = record { stands = g.more to ks e.stands; no_back = e.no_back }

map_set : {A B : Type 0} (f : A → B) (xs : List A) (i : ℕ) (x : A) → each f (slice_set xs i x) ≡ slice_set (each f xs) i (f x)
map_set f [] i x = refl
map_set f (y ∷ ys) zero x = refl
map_set f (y ∷ ys) (suc i) x = ap (λ zs. f y ∷ zs) (map_set f ys i x)

abbrev seen_of : SmallVec code.Kind → List Kind
seen_of s = stack_of s.items

module _ (stacks : List (Option (SmallVec code.Kind))) (a to : ℕ) (stack : SmallVec code.Kind) (empty : slice_get stacks to ≡ Some None) where
  abbrev seen : Stacks
  seen = slice_set (stacks_of stacks) to (Some (stack_of stack.items))

  is_seen : stacks_of (slice_set stacks to (Some stack)) ≡ seen
  is_seen = map_set (option_map seen_of) stacks to (Some stack)

  was : slice_get (stacks_of stacks) to ≡ Some None
  was = slice_get-map (option_map seen_of) stacks to ∙ ap (option_map (option_map seen_of)) empty

  pub put_stands : slice_get (stacks_of (slice_set stacks to (Some stack))) to ≡ Some (Some (stack_of stack.items))
  put_stands = ap (λ s. slice_get s to) is_seen ∙ set_same (Option (List Kind)) (stacks_of stacks) to (Some (stack_of stack.items)) None was

  pub put_grows : a ≤ to → Grows a (stacks_of stacks) (stacks_of (slice_set stacks to (Some stack)))
  put_grows le = subst (λ (s : Stacks). Grows a (stacks_of stacks) s) (sym is_seen) (record {
    more = λ k ks is. set_other (Option (List Kind)) (stacks_of stacks) to k (Some (stack_of stack.items)) (λ same. differs k ks is same) ∙ is;
    kept = λ k less. set_other (Option (List Kind)) (stacks_of stacks) to k (Some (stack_of stack.items)) (λ same. apart k less same);
    same = length-set (stacks_of stacks) to (Some (stack_of stack.items));
  })
    where
      differs : (k : ℕ) (ks : List Kind) → slice_get (stacks_of stacks) k ≡ Some (Some ks) → k ≡ to → ⊥
      differs k ks is same =
          let at : slice_get (stacks_of stacks) to ≡ Some (Some ks) = subst (λ n. slice_get (stacks_of stacks) n ≡ Some (Some ks)) same is in
          let w : slice_get (stacks_of stacks) to ≡ Some None = was in
          cc

      apart : (k : ℕ) → k < a → k ≡ to → ⊥
      apart k less same = let l : k < a = less in let e : k ≡ to = same in let m : a ≤ to = le in omega (arith, l, e, m)

-- the same of the stacks that it leaves
pub put_more : (stacks new : List (Option (SmallVec code.Kind))) (a to : ℕ) (stack : SmallVec code.Kind) → new ≡ slice_set stacks to (Some stack) → slice_get stacks to ≡ Some None → a ≤ to → Grows a (stacks_of stacks) (stacks_of new)
put_more stacks new a to stack e empty le = subst (λ (s : List (Option (SmallVec code.Kind))). Grows a (stacks_of stacks) (stacks_of s)) (sym e) (put_grows stacks a to stack empty le)
