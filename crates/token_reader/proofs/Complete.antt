-- What is spelled is read, where what stands after it cannot go on with it.
use Rattle.std.proofs.Common.{◌≡◌, ◌<◌, ◌≤◌, ℕ, zero, suc, Bool, true, false, List, [], ◌∷◌, ◌++◌, length, Option, Some, None, Ok, sym, refl, ap, ◌∙◌, subst, append_assoc, append-nil, arith}
use Rattle.std.specs.Prelude.{◌&&◌}
use denote.Enum.Bare.{true_same}
use Rattle.estelle_tree.specs.contracts.kind.Kind.{the_type}
use Rattle.estelle_tree.specs.declared.kind.Kind.{Kind}
use Rattle.estelle_tree.specs.declared.kind.Kind.TheVariants as k
use Rattle.estelle_tree.specs.declared.token.Placed.{Placed}
use Rattle.estelle_tree.specs.Input.{Input, first_kind, after_first, kind, next, left}
use Rattle.estelle_tree.specs.Spelling as spelling
use Rattle.estelle_tree.specs.Spelling.{Spelling, Takes, Flag, Mark, Chain, Several, Separated}
use Rattle.estelle_tree.specs.Types.{IsName, IsNumber, IsChar}
use Rattle.token_reader.specs.Reader.{Parser, sees, after, eat, expect, name, number, char}
use Rattle.token_reader.specs.Lists.{optional, behind, behind_if, mark, marked, ended, repeated_from, repeated, first_and, separated, separated_if, several}
use Rattle.token_reader.proofs.Sound.{seen_is, ok_pair}

-- a test on the place after a piece
abbrev pub After : Type 1
After = Input → Type 0

abbrev pub Complete : {A : Type 0} → Parser A → Spelling A → After → Type 0
Complete {A} p P end = (i j : Input) (x : A) → P x i j → end j → p i ≡ Ok (x, j)

-- nothing is asked of what stands after
abbrev pub Anything : After
Anything j = Unit {0}

-- no token is given back; and at least one is taken
abbrev pub Shrinks : {A : Type 0} → Spelling A → Type 0
Shrinks {A} P = (i j : Input) (x : A) → P x i j → left j ≤ left i

abbrev pub Advances : {A : Type 0} → Spelling A → Type 0
Advances {A} P = (i j : Input) (x : A) → P x i j → left j < left i

-- At most one thing spells a list of tokens from one place to the other.
pub unique : {A : Type 0} (p : Parser A) (P : Spelling A) (end : After) → Complete p P end → (x y : A) (i j m : Input) → P x i j → P y i m → end j → end m → let a : A × Input = (x, j) in let b : A × Input = (y, m) in a ≡ b
unique p P end complete x y i j m a b stop stop' = ok_pair x y j m (sym (complete i j x a stop) ∙ complete i m y b stop')

-- ---- places

pub next_left : (i : Input) → left (next i) ≤ left i
unfolding next left
next_left i = go i.end i.tokens
  where
    go : (end : ℕ) (ps : List Placed) → length (after_first end ps).tokens ≤ length ps
    go end [] = omega arith
    go end (p ∷ ps) = omega arith

pub next_left_more : (i : Input) → (kind i ≡ k.Nothing → ⊥) → left (next i) < left i
unfolding next left kind
next_left_more i some = go i.end i.tokens some
  where
    go : (end : ℕ) (ps : List Placed) → (first_kind ps ≡ k.Nothing → ⊥) → length (after_first end ps).tokens < length ps
    go end [] some = absurd (some refl)
    go end (p ∷ ps) some = omega arith

pub empty_kind : (i : Input) → left i ≤ 0 → kind i ≡ k.Nothing
unfolding kind left
empty_kind i none = go i.tokens none
  where
    go : (ps : List Placed) → length ps ≤ 0 → first_kind ps ≡ k.Nothing
    go [] none = refl
    go (p ∷ ps) none = absurd (omega arith)

pub takes_shrinks : (kind' : Kind) (i j : Input) → Takes kind' i j → left j ≤ left i
takes_shrinks kind' i j t = subst (λ j. left j ≤ left i) t.next (next_left i)

pub takes_advances : (kind' : Kind) → (k.Nothing ≡ kind' → ⊥) → (i j : Input) → Takes kind' i j → left j < left i
takes_advances kind' is_token i j t = subst (λ j. left j < left i) t.next (next_left_more i (λ e. is_token (sym e ∙ t.kind)))

pub name_advances : Advances IsName
name_advances i j n h = subst (λ j. left j < left i) h.next (next_left_more i (λ e. let no : k.Nothing ≡ k.Name = sym e ∙ h.free in absurd (cc)))

-- ---- one token

pub sees_takes : (kind' : Kind) (i j : Input) → Takes kind' i j → sees kind' i ≡ true
unfolding sees
sees_takes kind' i j t = true_same the_type _ _ t.kind

pub unseen : (kind' : Kind) (i : Input) → (kind i ≡ kind' → ⊥) → sees kind' i ≡ false
unseen kind' i differs = go (sees kind' i) refl
  where
    go : (b : Bool) → sees kind' i ≡ b → b ≡ false
    go true e = absurd (differs (seen_is kind' i e))
    go false e = refl

pub expect_complete : (kind' : Kind) (i j : Input) → Takes kind' i j → expect kind' i ≡ Ok (tt, j)
unfolding expect
expect_complete kind' i j t = rw (sees_takes kind' i j t, t.next)

pub eat_complete : (kind' : Kind) → Complete (eat kind') (Flag kind') (λ j. kind j ≡ kind' → ⊥)
unfolding after
eat_complete kind' i j false h end = rw (h, unseen kind' j end)
eat_complete kind' i j true h end = rw (sees_takes kind' i j h, h.next)

pub number_complete : Complete number IsNumber Anything
unfolding number
number_complete i j n h end = rw (h.token, h.next)

pub char_complete : Complete char IsChar Anything
unfolding char
char_complete i j c h end = rw (h.token, h.next)

pub name_complete : Complete name IsName Anything
unfolding name
name_complete i j n h end = rw (sees_takes k.Name i j (record { kind = h.free; next = h.next }), h.token, h.next, ← h.span)

-- ---- parts that may be missing

module _ {A : Type 0} (item : Parser A) (P : Spelling A) (end : After) (complete : Complete item P end) where
  -- the next kind tells whether the part is there
  pub optional_complete : (begins : Kind → Bool) → ((i j : Input) (x : A) → P x i j → begins (kind i) ≡ true)
      → Complete (optional begins item) (spelling.Optional P) (λ j. end j × (begins (kind j) ≡ false))
  unfolding optional
  optional_complete begins starts i j None h stop = rw (h, stop.1)
  optional_complete begins starts i j (Some x) h stop = rw (starts i j x h, complete i j x h stop.0)

  pub behind_complete : (kind' : Kind) → Complete (behind kind' item) (spelling.Optional (spelling.Behind kind' P)) (λ j. end j × (kind j ≡ kind' → ⊥))
  unfolding behind
  behind_complete kind' i j None h stop = rw (h, unseen kind' j stop.1)
  behind_complete kind' i j (Some x) h stop = rw (sees_takes kind' i h.at h.mark, h.mark.next, complete h.at j x h.item stop.0)

  -- where the terminal alone may stand next
  pub behind_if_complete : (kind' : Kind) (begins : Kind → Bool) → ((i j : Input) (x : A) → P x i j → begins (kind i) ≡ true)
      → Complete (behind_if kind' begins item) (spelling.Optional (spelling.Behind kind' P)) (λ j. end j × ((sees kind' j && begins (kind (next j))) ≡ false))
  unfolding behind_if
  behind_if_complete kind' begins starts i j None h stop = rw (h, stop.1)
  behind_if_complete kind' begins starts i j (Some x) h stop = let first : begins (kind (next i)) ≡ true = ap (λ m. begins (kind m)) h.mark.next ∙ starts h.at j x h.item in rw (sees_takes kind' i h.at h.mark, first, h.mark.next, complete h.at j x h.item stop.0)

  pub ended_complete : (kind' : Kind) → ((j : Input) → kind j ≡ kind' → end j) → Complete (ended kind' item) (spelling.Ended kind' P) Anything
  unfolding ended
  ended_complete kind' ends i j x h stop = rw (complete i h.mid x h.item (ends h.mid h.mark.kind), expect_complete kind' h.mid j h.mark)

module _ {O : Type 0} (of : Kind → Option O) (kinds : O → Kind) (forth : (o : O) → of (kinds o) ≡ Some o) where
  pub mark_complete : Complete (mark of) (Mark kinds) (λ j. of (kind j) ≡ None)
  mark_complete i j None h stop = rw (h, stop)
  mark_complete i j (Some o) h stop = rw (h.kind, forth o, h.next)

  pub marked_complete : {A : Type 0} (item : Parser A) (P : Spelling A) (end : After) → Complete item P end
      → Complete (marked of item) (spelling.Optional (λ (x : O × A). spelling.Behind (kinds x.0) P x.1)) (λ j. end j × (of (kind j) ≡ None))
  marked_complete item P end complete i j None h stop = rw (h, stop.1)
  marked_complete item P end complete i j (Some x) h stop = rw (h.mark.kind, forth x.0, h.mark.next, complete h.at j x.1 h.item stop.0)

-- ---- lists

pub chain_shrinks : {A : Type 0} (P : Spelling A) → Shrinks P → Shrinks (Chain P)
chain_shrinks P shrinks i j [] r = rw r (omega arith)
chain_shrinks P shrinks i j (x ∷ xs) r =
    let one = shrinks i r.0 x r.1 in
    let more = chain_shrinks P shrinks r.0 j xs r.2 in
    omega arith

pub behind_shrinks : {A : Type 0} (kind' : Kind) (P : Spelling A) → Shrinks P → Shrinks (spelling.Behind kind' P)
behind_shrinks kind' P shrinks i j x r =
    let one = takes_shrinks kind' i r.at r.mark in
    let two = shrinks r.at j x r.item in
    omega arith

pub behind_advances : {A : Type 0} (kind' : Kind) → (k.Nothing ≡ kind' → ⊥) → (P : Spelling A) → Shrinks P → Advances (spelling.Behind kind' P)
behind_advances kind' is_token P shrinks i j x r =
    let one = takes_advances kind' is_token i r.at r.mark in
    let two = shrinks r.at j x r.item in
    omega arith

pub separated_shrinks : {A : Type 0} (kind' : Kind) (P : Spelling A) → Shrinks P → Shrinks (Separated kind' P)
separated_shrinks kind' P shrinks i j [] r = absurd r
separated_shrinks kind' P shrinks i j (x ∷ xs) r =
    let one = shrinks i r.0 x r.1 in
    let more = chain_shrinks (spelling.Behind kind' P) (behind_shrinks kind' P shrinks) r.0 j xs r.2 in
    omega arith

-- A step is repeated over all items: it reads one where one comes, also where another comes after that,
-- and it reads nothing where they end.
module _ {A : Type 0} (step : Parser (Option A)) (P : Spelling A) (advances : Advances P) (end : After)
    (one : (i j : Input) (x : A) → P x i j → end j → step i ≡ Ok (Some x, j))
    (again : (i j : Input) (x : A) → P x i j → end i)
    (stops : After) (none : (j : Input) → stops j → step j ≡ Ok (None, j)) (last : (j : Input) → stops j → end j) where
  pub end_of : (xs : List A) (i j : Input) → Chain P xs i j → stops j → end i
  end_of [] i j r stop = subst end (sym r) (last j stop)
  end_of (x ∷ xs) i j r stop = again i r.0 x r.1

  from_complete : (n : ℕ) (found xs : List A) (i j : Input) → Chain P xs i j → left i ≤ n → stops j → repeated_from step n found i ≡ Ok (found ++ xs, j)
  unfolding repeated_from
  from_complete zero found [] i j r fits stop = rw (append-nil found, r)
  from_complete (suc n) found [] i j r fits stop = rw (append-nil found, r, none j stop)
  from_complete zero found (x ∷ xs) i j r fits stop = let less = advances i r.0 x r.1 in absurd (omega arith)
  from_complete (suc n) found (x ∷ xs) i j r fits stop =
      let less = advances i r.0 x r.1 in
      let more = from_complete n (found ++ x ∷ []) xs r.0 j r.2 (omega arith) stop in
      rw (one i r.0 x r.1 (end_of xs r.0 j r.2 stop), more, append_assoc found (x ∷ []) xs)

  pub repeated_onto : (found xs : List A) (i j : Input) → Chain P xs i j → stops j → repeated step found i ≡ Ok (found ++ xs, j)
  unfolding repeated
  repeated_onto found xs i j r stop = from_complete (left i) found xs i j r (omega arith) stop

  pub repeated_complete : Complete (repeated step []) (Chain P) stops
  repeated_complete i j xs r stop = repeated_onto [] xs i j r stop

  pub first_and_complete : (item : Parser A) (Q : Spelling A) → Complete item Q end → (x : A) (xs : List A) (i m j : Input) → Q x i m → Chain P xs m j → stops j → first_and item step i ≡ Ok (x ∷ xs, j)
  unfolding first_and
  first_and_complete item Q complete x xs i m j one more stop = rw (complete i m x one (end_of xs m j more stop), repeated_onto (x ∷ []) xs m j more stop)

module _ {A : Type 0} (item : Parser A) (P : Spelling A) (end : After) (complete : Complete item P end) (shrinks : Shrinks P) where
  -- `x {k x}`, where x can be followed by k
  pub separated_complete : (kind' : Kind) → (k.Nothing ≡ kind' → ⊥) → ((j : Input) → kind j ≡ kind' → end j)
      → Complete (separated kind' item) (Separated kind' P) (λ j. end j × (kind j ≡ kind' → ⊥))
  unfolding behind
  separated_complete kind' is_token follows i j [] r stop = absurd r
  separated_complete kind' is_token follows i j (x ∷ xs) r stop =
      first_and_complete (behind kind' item) (spelling.Behind kind' P) (behind_advances kind' is_token P shrinks) end
      one (λ i j x h. follows i h.mark.kind) (λ j. end j × (kind j ≡ kind' → ⊥)) (λ j stop. behind_complete item P end complete kind' j j None refl stop) (λ j stop. stop.0)
      item P complete x xs i r.0 j r.1 r.2 stop
    where
      one : (i j : Input) (x : A) → spelling.Behind kind' P x i j → end j → behind kind' item i ≡ Ok (Some x, j)
      one i j x h stop = rw (sees_takes kind' i h.at h.mark, h.mark.next, complete h.at j x h.item stop)

  -- `x {k x}`, where k alone may come behind it
  pub separated_if_complete : (kind' : Kind) (begins : Kind → Bool) → (k.Nothing ≡ kind' → ⊥) → ((j : Input) → kind j ≡ kind' → end j) → ((i j : Input) (x : A) → P x i j → begins (kind i) ≡ true)
      → Complete (separated_if kind' begins item) (Separated kind' P) (λ j. end j × ((sees kind' j && begins (kind (next j))) ≡ false))
  unfolding behind_if
  separated_if_complete kind' begins is_token follows starts i j [] r stop = absurd r
  separated_if_complete kind' begins is_token follows starts i j (x ∷ xs) r stop =
      first_and_complete (behind_if kind' begins item) (spelling.Behind kind' P) (behind_advances kind' is_token P shrinks) end
      one (λ i j x h. follows i h.mark.kind) (λ j. end j × ((sees kind' j && begins (kind (next j))) ≡ false)) (λ j stop. behind_if_complete item P end complete kind' begins starts j j None refl stop) (λ j stop. stop.0)
      item P complete x xs i r.0 j r.1 r.2 stop
    where
      one : (i j : Input) (x : A) → spelling.Behind kind' P x i j → end j → behind_if kind' begins item i ≡ Ok (Some x, j)
      one i j x h stop = let first : begins (kind (next i)) ≡ true = ap (λ m. begins (kind m)) h.mark.next ∙ starts h.at j x h.item in rw (sees_takes kind' i h.at h.mark, first, h.mark.next, complete h.at j x h.item stop)

-- `{x}+`, where x can be followed by another
pub several_complete : {A : Type 0} (item : Parser A) (P : Spelling A) (end : After) → Complete item P end → Advances P
    → (begins : Kind → Bool) → ((i j : Input) (x : A) → P x i j → begins (kind i) ≡ true) → ((i j : Input) (x : A) → P x i j → end i)
    → Complete (several begins item) (Several P) (λ j. end j × (begins (kind j) ≡ false))
unfolding optional
several_complete item P end complete advances begins starts again i j [] r stop = absurd r
several_complete {A} item P end complete advances begins starts again i j (x ∷ xs) r stop =
    first_and_complete (optional begins item) P advances end one again (λ j. end j × (begins (kind j) ≡ false))
    (λ j stop. optional_complete item P end complete begins starts j j None refl stop) (λ j stop. stop.0)
    item P complete x xs i r.0 j r.1 r.2 stop
  where
    one : (i j : Input) (x : A) → P x i j → end j → optional begins item i ≡ Ok (Some x, j)
    one i j x h stop = rw (starts i j x h, complete i j x h stop)
