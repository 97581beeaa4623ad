-- Parts that may be missing, and parts that are repeated.
use Rattle.std.proofs.Common.{◌≡◌, ◌≤◌, ℕ, zero, suc, Bool, true, false, List, [], ◌∷◌, ◌++◌, Option, Some, None, Ok, sym, refl, ap, ◌∙◌, subst, inl, inr, ◌⊎◌, append_assoc, append-nil, arith}
use Rattle.std.specs.Prelude.{◌&&◌}
use Rattle.estelle_tree.specs.declared.kind.Kind.{Kind}
use Rattle.estelle_tree.specs.declared.kind.Kind.TheVariants as k
use Rattle.estelle_tree.specs.Input.{Input, kind, next, left}
use Rattle.estelle_tree.specs.Spelling as spelling
use Rattle.estelle_tree.specs.Spelling.{Spelling, Chain, Separated}
use Rattle.token_reader.specs.Reader.{Parser, pure, sees, take, ◌>>=◌, ◌>>◌}
use Rattle.token_reader.specs.Lists.{optional_if, optional, behind, behind_if, taking, mark, marked_by, marked, turn, repeated_from, repeated, first_and, separated, separated_if, several}
use Rattle.token_reader.proofs.Sound.{seen_is}
use Rattle.token_reader.proofs.Complete.{After, Advances, Shrinks, Complete, sees_takes, behind_advances}
use Rattle.syntax_forms.specs.Onward.{Below, IsOnward}
use Rattle.syntax_forms.proofs.Steps.{step, stays, takes, takes_one, Reached, Reaches, reached_from, exact, last, either}

-- ---- parts that may be missing

module _ {A : Type 0} (item : Parser A) (on : IsOnward item) where
  pub optional_if_onward : (b : Bool) → IsOnward (optional_if b item)
  optional_if_onward true i = step i _ (item i) _ (on i) (λ x a. stays _ a)
  optional_if_onward false i = stays _ i

  pub behind_token : IsOnward (take >> item)
  behind_token i = step i _ (pure tt (next i)) (λ (u : Unit {0}). item) (takes tt i) (λ u. on)

  pub behind_one : (kind' : Kind) (i : Input) → (k.Nothing ≡ kind' → ⊥) → kind i ≡ kind' → Below i (left i) ((take >> item) i)
  behind_one kind' i is_token e = step i _ (pure tt (next i)) (λ (u : Unit {0}). item) (takes_one tt kind' i is_token e) (λ u. on)

  pub optional_onward : (begins : Kind → Bool) → IsOnward (optional begins item)
  unfolding optional
  optional_onward begins i = optional_if_onward (begins (kind i)) i

module _ {A : Type 0} (item : Parser A) (on : IsOnward item) where
  pub behind_onward : (kind' : Kind) → IsOnward (behind kind' item)
  unfolding behind
  behind_onward kind' i = optional_if_onward (take >> item) (behind_token item on) (sees kind' i) i

  pub behind_if_onward : (kind' : Kind) (begins : Kind → Bool) → IsOnward (behind_if kind' begins item)
  unfolding behind_if
  behind_if_onward kind' begins i = optional_if_onward (take >> item) (behind_token item on) (sees kind' i && begins (kind (next i))) i

  -- nothing is read, or a token is taken
  pub behind_nothing : (kind' : Kind) → (k.Nothing ≡ kind' → ⊥) → (i : Input) → Reached i None i (behind kind' item i)
  unfolding behind
  behind_nothing kind' is_token i = go (sees kind' i) refl
    where
      go : (b : Bool) → sees kind' i ≡ b → Reached i None i (optional_if b (take >> item) i)
      go true e = inr (step i _ ((take >> item) i) _ (behind_one item on kind' i is_token (seen_is kind' i e)) (λ x a. stays _ a))
      go false e = inl refl

module _ {O : Type 0} (of : Kind → Option O) where
  pub mark_onward : IsOnward (mark of)
  mark_onward i = go (of (kind i))
    where
      go : (o : Option O) → Below i (suc (left i)) (taking o i)
      go None = stays _ i
      go (Some o) = takes _ i

  module _ {A : Type 0} (item : Parser A) (on : IsOnward item) where
    some : (o : O) (i : Input) (n : ℕ) → Below {A = Unit {0}} i n (pure tt (next i)) → Below i n (marked_by (Some o) item i)
    some o i n b = step {A = Unit {0}} i n (pure tt (next i)) (λ (u : Unit {0}). item >>= λ x. pure (Some (o, x))) b (λ u a. step a (suc (left a)) (item a) (λ x. pure (Some (o, x))) (on a) (λ x c. stays (Some (o, x)) c))

    pub marked_onward : IsOnward (marked of item)
    marked_onward i = go (of (kind i))
      where
        go : (o : Option O) → Below i (suc (left i)) (marked_by o item i)
        go None = stays _ i
        go (Some o) = some o i _ (takes tt i)

    pub marked_nothing : of k.Nothing ≡ None → (i : Input) → Reached i None i (marked of item i)
    marked_nothing nothing i = go (of (kind i)) refl
      where
        go : (o : Option O) → of (kind i) ≡ o → Reached i None i (marked_by o item i)
        go None e = inl refl
        go (Some o) e =
            inr (some o i (left i) (takes_one tt (kind i) i (λ none. let no : None ≡ Some o = sym nothing ∙ (ap of none ∙ e) in cc) refl))

-- ---- lists

module _ {A : Type 0} (stepper : Parser (Option A)) (on : IsOnward stepper) where
  pub turns : (found : List A) (again : List A → Parser (List A)) → ((found : List A) → IsOnward (again found)) → (x : Option A) → IsOnward (turn found again x)
  turns found again on' None a = stays _ a
  turns found again on' (Some x) a = on' (found ++ x ∷ []) a

  pub from_onward : (n : ℕ) (found : List A) → IsOnward (repeated_from stepper n found)
  unfolding repeated_from
  from_onward zero found i = stays _ i
  from_onward (suc n) found i = step i _ (stepper i) _ (on i) (turns found (repeated_from stepper n) (from_onward n))

  pub repeated_onward : (found : List A) → IsOnward (repeated stepper found)
  unfolding repeated
  repeated_onward found i = from_onward (left i) found i

  pub first_and_onward : (item : Parser A) → IsOnward item → IsOnward (first_and item stepper)
  unfolding first_and
  first_and_onward item first i = step i _ (item i) _ (first i) (λ x. repeated_onward (x ∷ []))

module _ {A : Type 0} (item : Parser A) (on : IsOnward item) where
  pub separated_onward : (kind' : Kind) → IsOnward (separated kind' item)
  separated_onward kind' = first_and_onward (behind kind' item) (behind_onward item on kind') item on

  pub separated_if_onward : (kind' : Kind) (begins : Kind → Bool) → IsOnward (separated_if kind' begins item)
  separated_if_onward kind' begins = first_and_onward (behind_if kind' begins item) (behind_if_onward item on kind' begins) item on

  pub several_onward : (begins : Kind → Bool) → IsOnward (several begins item)
  several_onward begins = first_and_onward (optional begins item) (optional_onward item on begins) item on

-- A step that reads an item where another one comes after it, and reaches the end of each.
module _ {A : Type 0} (stepper : Parser (Option A)) (P : Spelling A) (advances : Advances P) (on : IsOnward stepper) (end : After)
    (one : (i j : Input) (x : A) → P x i j → end j → stepper i ≡ Ok (Some x, j))
    (again : (i j : Input) (x : A) → P x i j → end i)
    (reached : (i j : Input) (x : A) → P x i j → Reached i (Some x) j (stepper i))
    (nothing : (i : Input) → Reached i None i (stepper i)) where
  pub from_reached : (n : ℕ) (found xs : List A) (i m : Input) → Chain P xs i m → left i ≤ n → Reached i (found ++ xs) m (repeated_from stepper n found i)
  unfolding repeated_from
  from_reached zero found [] i m r fits = inl (rw (append-nil found, r))
  from_reached zero found (x ∷ xs) i m r fits = let less = advances i r.0 x r.1 in absurd (omega arith)
  from_reached (suc n) found [] i m r fits =
      subst (λ m. Reached i (found ++ []) m (repeated_from stepper (suc n) found i)) r
      (last stepper _ i i None (found ++ []) on (turns stepper on found (repeated_from stepper n) (from_onward stepper on n)) (nothing i) (inl (rw (append-nil found))))
  from_reached (suc n) found (x ∷ []) i m r fits =
      let less = advances i r.0 x r.1 in
      subst (λ m. Reached i (found ++ x ∷ []) m (repeated_from stepper (suc n) found i)) r.2
      (last stepper _ i r.0 (Some x) (found ++ x ∷ []) on (turns stepper on found (repeated_from stepper n) (from_onward stepper on n)) (reached i r.0 x r.1)
      (subst (λ xs. Reached r.0 xs r.0 (repeated_from stepper n (found ++ x ∷ []) r.0)) (append-nil (found ++ x ∷ [])) (from_reached n (found ++ x ∷ []) [] r.0 r.0 refl (omega arith))))
  from_reached (suc n) found (x ∷ y ∷ ys) i m r fits =
      let less = advances i r.0 x r.1 in
      let more = from_reached n (found ++ x ∷ []) (y ∷ ys) r.0 m r.2 (omega arith) in
      exact stepper _ i r.0 m (Some x) (found ++ x ∷ y ∷ ys) on (one i r.0 x r.1 (again r.0 r.2.0 y r.2.1))
      (subst (λ xs. Reached r.0 xs m (repeated_from stepper n (found ++ x ∷ []) r.0)) (append_assoc found (x ∷ []) (y ∷ ys)) more)

  pub repeated_reached : (found xs : List A) (i m : Input) → Chain P xs i m → Reached i (found ++ xs) m (repeated stepper found i)
  unfolding repeated
  repeated_reached found xs i m r = from_reached (left i) found xs i m r (omega arith)

module _ {A : Type 0} (item : Parser A) (P : Spelling A) (on : IsOnward item) (reaches : Reaches item P) where
  -- `[k x]`
  pub behind_reached : (kind' : Kind) → (k.Nothing ≡ kind' → ⊥) → Reaches (behind kind' item) (spelling.Optional (spelling.Behind kind' P))
  unfolding behind
  behind_reached kind' is_token i m None r = subst (λ m. Reached i None m (behind kind' item i)) r (behind_nothing item on kind' is_token i)
  behind_reached kind' is_token i m (Some x) r = some
    where
      some : Reached i (Some x) m (behind kind' item i)
      some =
          rw (sees_takes kind' i r.at r.mark, r.mark.next)
          (reached_from i r.at m (Some x) _ (suc zero, r.mark.next) (last item _ r.at m x (Some x) on (λ y a. stays _ a) (reaches r.at m x r.item) (inl refl)))

  -- `x {k x}`, where x can be followed by k
  pub separated_reached : (kind' : Kind) → (k.Nothing ≡ kind' → ⊥) → (end : After) → Complete item P end → Shrinks P → ((j : Input) → kind j ≡ kind' → end j) → Reaches (separated kind' item) (Separated kind' P)
  unfolding behind first_and
  separated_reached kind' is_token end complete shrinks follows i m [] r = absurd r
  separated_reached kind' is_token end complete shrinks follows i m (x ∷ xs) r = some
    where
      one : (i j : Input) (x : A) → spelling.Behind kind' P x i j → end j → behind kind' item i ≡ Ok (Some x, j)
      one i j x h stop = rw (sees_takes kind' i h.at h.mark, h.mark.next, complete h.at j x h.item stop)

      known : (xs : List A) → Chain (spelling.Behind kind' P) xs r.0 m → (r.0 ≡ m) ⊎ (item i ≡ Ok (x, r.0))
      known [] h = inl h
      known (y ∷ ys) h = inr (complete i r.0 x r.1 (follows r.0 h.1.mark.kind))

      some : Reached i (x ∷ xs) m (separated kind' item i)
      some =
          either item _ i r.0 m x (x ∷ xs) on (λ x. repeated_onward (behind kind' item) (behind_onward item on kind') (x ∷ [])) (reaches i r.0 x r.1) (known xs r.2)
          (repeated_reached (behind kind' item) (spelling.Behind kind' P) (behind_advances kind' is_token P shrinks) (behind_onward item on kind') end
          one (λ i j x h. follows i h.mark.kind) (λ i j x h. behind_reached kind' is_token i j (Some x) h) (behind_nothing item on kind' is_token) (x ∷ []) xs r.0 m r.2)
