-- Where parsers of repeated parts stop.
use Rattle.std.proofs.Common.{◌≡◌, ◌≤◌, ℕ, zero, suc, Bool, true, false, List, [], ◌∷◌, ◌++◌, Option, Some, None, Ok, Err, sym, refl, ap, ◌∙◌, subst, inl, inr, ◌⊎◌, arith}
use Rattle.std.specs.Prelude.{◌&&◌}
use Rattle.estelle_tree.specs.declared.kind.Kind.{Kind}
use Rattle.estelle_tree.specs.declared.kind.Kind.TheVariants as k
use Rattle.estelle_tree.specs.Input.{Input, kind, next, left}
use Rattle.estelle_tree.specs.Spelling as spelling
use Rattle.estelle_tree.specs.Spelling.{Spelling, Chain}
use Rattle.estelle_tree.specs.Beginning.{Beginning, ◌or◌, Then, After, Many, Some as Several, Separating}
use Rattle.token_reader.specs.declared.error.ReadError.TheVariants.{Refused}
use Rattle.token_reader.specs.Reader.{Parser, ReadResult, and_then, sees, take, ◌>>◌}
use Rattle.token_reader.specs.Lists.{optional, optional_if, behind, behind_if, turn, repeated_from, repeated, first_and, separated, separated_if, several}
use Rattle.token_reader.proofs.Sound.{Sound, seen_is, optional_sound, behind_sound, behind_if_sound}
use Rattle.token_reader.proofs.Complete as reader
use Rattle.token_reader.proofs.Complete.{Advances, Shrinks, sees_takes, behind_advances, optional_complete, behind_complete, behind_if_complete}
use Rattle.syntax_forms.specs.Onward.{Below, IsOnward}
use Rattle.syntax_forms.specs.Placed.{stop, Begun, Placed}
use Rattle.syntax_forms.proofs.Steps.{reads_on}
use Rattle.syntax_forms.proofs.Lists.{from_onward, turns, behind_onward, behind_if_onward, optional_onward}
use Rattle.syntax_forms.proofs.Placing.{below_stop, on_more, stop_more, refused_by, in_a_row, carry, stays_short, First, first_after, Piece, same, kept, followed, taken, behind_placed, optional_placed}

-- ---- `{x}` and what comes next. The step reads an item where another one comes behind it, or the rest; and
-- where it reads nothing of what could begin an item, that begins the rest.

pub record Step {A : Type 0} (step : Parser (Option A)) (P : Spelling A) (B rest : Beginning) (end stops : reader.After) : Type 0 where
  pub on : IsOnward step
  pub advances : Advances P
  pub sound : Sound step (spelling.Optional P)
  pub whole : (i j : Input) (x : A) → P x i j → B i j
  pub one : (i j : Input) (x : A) → P x i j → end j → step i ≡ Ok (Some x, j)
  pub again : (i j : Input) (x : A) → P x i j → end i
  pub none : (j : Input) → stops j → step j ≡ Ok (None, j)
  pub last : (j : Input) → stops j → end j
  pub begun : (i : Input) (l : ℕ) → step i ≡ Err (Refused l) → Begun B i l
  pub first : First B end
  pub falls : (i m : Input) → B i m → (stop (step i) ≤ left m) ⊎ ((step i ≡ Ok (None, i)) × rest i m)

module _ {A C : Type 0} (step' : Parser (Option A)) (P : Spelling A) (B rest : Beginning) (end stops : reader.After) (known : Step step' P B rest end stops) (first : (i m : Input) → rest i m → B i m ⊎ ((i ≡ m) ⊎ stops i))
    (f : List A → Parser C) (more : (found : List A) (a : Input) → Placed rest a (f found a)) where
  all : ℕ → List A → Parser C
  all n found i = and_then (repeated_from step' n found i) f

  there : (n : ℕ) (found : List A) (i : Input) (xs : List A) (a : Input) → repeated_from step' n found i ≡ Ok (xs, a) → Below a (suc (left a)) (f xs a)
  there n found i xs a e = (more xs a).on

  all_on : (n : ℕ) (found : List A) → IsOnward (all n found)
  unfolding all
  all_on n found i = on_more i (suc (left i)) (repeated_from step' n found i) f (from_onward step' known.on n found i) (there n found i)

  -- the first turn bounds it
  turn_first : (n : ℕ) (found : List A) (i : Input) → stop (all (suc n) found i) ≤ stop (step' i)
  unfolding all repeated_from
  turn_first n found i =
      subst (λ (o : ReadResult C). stop o ≤ stop (step' i)) (in_a_row (step' i) (turn found (repeated_from step' n)) f)
      (stop_more (step' i) (λ x a. and_then (turn found (repeated_from step' n) x a) f) (λ x a e. on_more a (suc (left a)) (turn found (repeated_from step' n) x a) f (turns step' known.on found (repeated_from step' n) (from_onward step' known.on n) x a) (λ xs b e. (more xs b).on)))

  -- one turn, as it comes out
  turn_none : (n : ℕ) (found : List A) (i : Input) → step' i ≡ Ok (None, i) → all (suc n) found i ≡ f found i
  unfolding all repeated_from
  turn_none n found i e = rw e refl

  turn_some : (n : ℕ) (found : List A) (i a : Input) (x : A) → step' i ≡ Ok (Some x, a) → all (suc n) found i ≡ all n (found ++ x ∷ []) a
  unfolding all repeated_from
  turn_some n found i a x e = rw e refl

  -- nothing is read, and the rest comes
  at_rest : (n : ℕ) (found : List A) (i j : Input) → step' i ≡ Ok (None, i) → rest i j → stop (all (suc n) found i) ≤ left j
  at_rest n found i j e r = subst (λ (o : ReadResult C). stop o ≤ left j) (sym (turn_none n found i e)) ((more found i).longest j r)

  -- a piece that begins an item
  an_item : (n : ℕ) (found : List A) (i j : Input) → B i j → stop (all (suc n) found i) ≤ left j
  an_item n found i j b = by (known.falls i j b)
    where
      by : (stop (step' i) ≤ left j) ⊎ ((step' i ≡ Ok (None, i)) × rest i j) → stop (all (suc n) found i) ≤ left j
      by (inl short) = let less = turn_first n found i in omega arith
      by (inr none) = at_rest n found i j none.0 none.1

  -- behind the item the place ends it, or nothing more comes
  follows : (xs : List A) (a m j : Input) → Chain P xs a m → (B or rest) m j → (a ≡ j) ⊎ end a
  follows [] a m j same b = by (either b)
    where
      either : (B or rest) m j → (m ≡ j) ⊎ end m
      either (inl b) = known.first m j b
      either (inr r) = stopped (first m j r)
        where
          stopped : B m j ⊎ ((m ≡ j) ⊎ stops m) → (m ≡ j) ⊎ end m
          stopped (inl b) = known.first m j b
          stopped (inr (inl e)) = inl e
          stopped (inr (inr s)) = inr (known.last m s)

      by : (m ≡ j) ⊎ end m → (a ≡ j) ⊎ end a
      by (inl e) = inl (same ∙ e)
      by (inr s) = inr (subst end (sym same) s)
  follows (x ∷ xs) a m j chain b = inr (known.again a chain.0 x chain.1)

  longest : (n : ℕ) (found : List A) (i : Input) → left i ≤ n → (xs : List A) (m j : Input) → Chain P xs i m → (B or rest) m j → stop (all n found i) ≤ left j
  unfolding all repeated_from
  longest zero found i fits [] m j chain b =
      let less = below_stop i (suc (left i)) (f found i) (more found i).on in
      omega arith
  longest zero found i fits (x ∷ xs) m j chain b = let less = known.advances i chain.0 x chain.1 in absurd (omega arith)
  longest (suc n) found i fits [] m j chain b = by (subst (λ a. (B or rest) a j) (sym chain) b)
    where
      by : (B or rest) i j → stop (all (suc n) found i) ≤ left j
      by (inl b) = an_item n found i j b
      by (inr r) = ends_it (first i j r)
        where
          ends_it : B i j ⊎ ((i ≡ j) ⊎ stops i) → stop (all (suc n) found i) ≤ left j
          ends_it (inl b) = an_item n found i j b
          ends_it (inr (inl e)) = stays_short i j (all (suc n) found i) (all_on (suc n) found i) e
          ends_it (inr (inr s)) = at_rest n found i j (known.none i s) r
  longest (suc n) found i fits (x ∷ xs) m j chain b = by (λ fits. longest n (found ++ x ∷ []) chain.0 fits xs m j chain.2 b) (follows xs chain.0 m j chain.2 b)
    where
      exact : (left chain.0 ≤ n → stop (all n (found ++ x ∷ []) chain.0) ≤ left j) → step' i ≡ Ok (Some x, chain.0) → stop (all (suc n) found i) ≤ left j
      exact again e =
          let less = known.advances i chain.0 x chain.1 in
          subst (λ (o : ReadResult C). stop o ≤ left j) (sym (turn_some n found i chain.0 x e)) (again (omega arith))

      by : (left chain.0 ≤ n → stop (all n (found ++ x ∷ []) chain.0) ≤ left j) → (chain.0 ≡ j) ⊎ end chain.0 → stop (all (suc n) found i) ≤ left j
      by again (inr s) = exact again (known.one i chain.0 x chain.1 s)
      by again (inl e) = subst (λ j. stop (all (suc n) found i) ≤ left j) e (an_item n found i chain.0 (known.whole i chain.0 x chain.1))

  begun : (n : ℕ) (found : List A) (i : Input) (l : ℕ) → all n found i ≡ Err (Refused l) → Begun (Many B P rest) i l
  unfolding all repeated_from
  begun zero found i l e = carry (Many B P rest) rest i i l (zero, refl) (λ m r. ([], i, refl, inr r)) ((more found i).begun l e)
  begun (suc n) found i l e =
      refused_by (step' i) (λ x a. and_then (turn found (repeated_from step' n) x a) f) l (in_a_row (step' i) (turn found (repeated_from step' n)) f ∙ e)
      (λ r. carry (Many B P rest) B i i l (zero, refl) (λ m b. ([], i, refl, inl b)) (known.begun i l r))
      (turned (λ x a e. begun n (found ++ x ∷ []) a l e))
    where
      turned : ((x : A) (a : Input) → all n (found ++ x ∷ []) a ≡ Err (Refused l) → Begun (Many B P rest) a l) → (x : Option A) (a : Input) → step' i ≡ Ok (x, a) → and_then (turn found (repeated_from step' n) x a) f ≡ Err (Refused l) → Begun (Many B P rest) i l
      turned more_turns None a is r =
          let here : i ≡ a = known.sound i a None is in
          carry (Many B P rest) rest i a l (zero, here) (λ m r. ([], a, here, inr r)) ((more found a).begun l r)
      turned more_turns (Some x) a is r =
          carry (Many B P rest) (Many B P rest) i a l (reads_on step' i a (Some x) known.on is) (λ m h. (x ∷ h.0, h.1, (a, known.sound i a (Some x) is, h.2), h.3)) (more_turns x a r)

  pub from_placed : (n : ℕ) (found : List A) (i : Input) → left i ≤ n → Placed (Many B P rest) i (and_then (repeated_from step' n found i) f)
  unfolding all
  from_placed n found i fits = record {
    on = all_on n found i;
    longest = λ m h. longest n found i fits h.0 h.1 m h.2 h.3;
    begun = λ l e. begun n found i l e;
  }

  pub repeated_placed : (found : List A) (i : Input) → Placed (Many B P rest) i (and_then (repeated step' found i) f)
  unfolding repeated
  repeated_placed found i = from_placed (left i) found i (omega arith)

  -- behind a first one, which another parser reads
  pub first_and_placed : (item : Parser A) (Q : Spelling A) (B' : Beginning) → Piece item Q B' end → (i : Input) → Placed (Then B' Q (Many B P rest)) i (and_then (first_and item step' i) f)
  unfolding first_and
  first_and_placed item Q B' piece i =
      subst (λ (o : ReadResult C). Placed (Then B' Q (Many B P rest)) i o) (in_a_row (item i) (λ x. repeated step' (x ∷ [])) f)
      (followed item Q B' (Many B P rest) end i (λ x a. and_then (repeated step' (x ∷ []) a) f) piece starts (λ x a is. repeated_placed (x ∷ []) a))
    where
      starts : First (Many B P rest) end
      starts a m h = follows h.0 a h.1 m h.2 h.3

-- ---- the steps

module _ {A : Type 0} (item : Parser A) (P : Spelling A) (B : Beginning) (end : reader.After) (piece : Piece item P B end) where
  pub onward : IsOnward item
  onward i = (piece.placed i).on

  -- `{k x}`
  pub behind_step : (rest : Beginning) (kind' : Kind) → (k.Nothing ≡ kind' → ⊥) → Shrinks P → ((j : Input) → kind j ≡ kind' → end j)
      → Step (behind kind' item) (spelling.Behind kind' P) (After kind' B) rest end (λ j. end j × (kind j ≡ kind' → ⊥))
  unfolding behind
  behind_step rest kind' is_token shrinks follows = record {
    on = behind_onward item onward kind';
    advances = behind_advances kind' is_token P shrinks;
    sound = behind_sound item P piece.sound kind';
    whole = λ i j x h. inr (h.at, h.mark, piece.whole h.at j x h.item);
    one = one;
    again = λ i j x h. follows i h.mark.kind;
    none = λ j stop. behind_complete item P end piece.complete kind' j j None refl stop;
    last = λ j stop. stop.0;
    begun = λ i l e. (behind_placed item B piece.placed kind' i).begun l e;
    first = first_after end kind' B follows;
    falls = λ i m b. inl ((behind_placed item B piece.placed kind' i).longest m b);
  }
    where
      one : (i j : Input) (x : A) → spelling.Behind kind' P x i j → end j → behind kind' item i ≡ Ok (Some x, j)
      one i j x h stop = rw (sees_takes kind' i h.at h.mark, h.mark.next, piece.complete h.at j x h.item stop)

  -- `{k x}`, where k alone may come behind it: it begins what comes next
  pub behind_if_step : (rest : Beginning) (kind' : Kind) (begins : Kind → Bool) → (k.Nothing ≡ kind' → ⊥) → Shrinks P → ((j : Input) → kind j ≡ kind' → end j)
      → ((i j : Input) (x : A) → P x i j → begins (kind i) ≡ true) → First B (λ i. begins (kind i) ≡ true)
      → ((i : Input) → rest i i) → ((i : Input) → kind i ≡ kind' → rest i (next i))
      → Step (behind_if kind' begins item) (spelling.Behind kind' P) (After kind' B) rest end (λ j. end j × ((sees kind' j && begins (kind (next j))) ≡ false))
  unfolding behind_if
  behind_if_step rest kind' begins is_token shrinks follows starts first empty alone = record {
    on = behind_if_onward item onward kind' begins;
    advances = behind_advances kind' is_token P shrinks;
    sound = behind_if_sound item P piece.sound kind' begins;
    whole = λ i j x h. inr (h.at, h.mark, piece.whole h.at j x h.item);
    one = one;
    again = λ i j x h. follows i h.mark.kind;
    none = λ j stop. behind_if_complete item P end piece.complete kind' begins starts j j None refl stop;
    last = λ j stop. stop.0;
    begun = begun;
    first = first_after end kind' B follows;
    falls = falls;
  }
    where
      begins_there : (i j : Input) (x : A) (h : spelling.Behind kind' P x i j) → begins (kind (next i)) ≡ true
      begins_there i j x h = ap (λ m. begins (kind m)) h.mark.next ∙ starts h.at j x h.item

      one : (i j : Input) (x : A) → spelling.Behind kind' P x i j → end j → behind_if kind' begins item i ≡ Ok (Some x, j)
      one i j x h stop = rw (sees_takes kind' i h.at h.mark, begins_there i j x h, h.mark.next, piece.complete h.at j x h.item stop)

      -- where x begins behind k, it is read
      goes : (i : Input) → kind i ≡ kind' → Placed (After kind' B) i (optional_if true (take >> item) i)
      goes i is = taken kind' B i _ is (kept B (next i) (item (next i)) (λ x a. Ok (Some x, a)) (piece.placed (next i)) (λ x a. (Some x, refl)))

      begun : (i : Input) (l : ℕ) → behind_if kind' begins item i ≡ Err (Refused l) → Begun (After kind' B) i l
      begun i l e = go (sees kind' i) (begins (kind (next i))) refl e
        where
          go : (b c : Bool) → sees kind' i ≡ b → optional_if (b && c) (take >> item) i ≡ Err (Refused l) → Begun (After kind' B) i l
          go true true is e = (goes i (seen_is kind' i is)).begun l e
          go true false is e = absurd (cc)
          go false c is e = absurd (cc)

      falls : (i m : Input) → After kind' B i m → (stop (behind_if kind' begins item i) ≤ left m) ⊎ ((behind_if kind' begins item i ≡ Ok (None, i)) × rest i m)
      falls i m b = go (sees kind' i) (begins (kind (next i))) refl refl b
        where
          go : (s c : Bool) → sees kind' i ≡ s → begins (kind (next i)) ≡ c → After kind' B i m → (stop (optional_if (s && c) (take >> item) i) ≤ left m) ⊎ ((optional_if (s && c) (take >> item) i ≡ Ok (None, i)) × rest i m)
          go true true is _ b = inl ((goes i (seen_is kind' i is)).longest m b)
          go true false is not (inl e) = inr (refl, subst (λ m. rest i m) e (empty i))
          go true false is not (inr t) = inr (refl, subst (λ m. rest i m) (t.1.next ∙ by (first t.0 m t.2)) (alone i t.1.kind))
            where
              by : (t.0 ≡ m) ⊎ (begins (kind t.0) ≡ true) → t.0 ≡ m
              by (inl e) = e
              by (inr there) = absurd (let no : true ≡ false = sym there ∙ (ap (λ a. begins (kind a)) (sym t.1.next) ∙ not) in cc)
          go false c is _ (inl e) = inr (refl, subst (λ m. rest i m) e (empty i))
          go false c is _ (inr t) = absurd (let no : true ≡ false = sym (sees_takes kind' i t.0 t.1) ∙ is in cc)

  -- `{x}`, where the next kind tells whether x begins
  pub optional_step : (rest : Beginning) (begins : Kind → Bool) → Advances P → ((i j : Input) (x : A) → P x i j → begins (kind i) ≡ true) → First B (λ i. begins (kind i) ≡ true)
      → ((i : Input) → begins (kind i) ≡ true → end i)
      → Step (optional begins item) P B rest end (λ j. end j × (begins (kind j) ≡ false))
  unfolding optional
  optional_step rest begins advances starts first again = record {
    on = optional_onward item onward begins;
    advances = advances;
    sound = optional_sound item P piece.sound begins;
    whole = piece.whole;
    one = λ i j x h stop. rw (starts i j x h, piece.complete i j x h stop);
    again = λ i j x h. again i (starts i j x h);
    none = λ j stop. optional_complete item P end piece.complete begins starts j j None refl stop;
    last = λ j stop. stop.0;
    begun = λ i l e. (optional_placed item B piece.placed begins first i).begun l e;
    first = ends_it;
    falls = λ i m b. inl ((optional_placed item B piece.placed begins first i).longest m b);
  }
    where
      ends_it : First B end
      ends_it i m b = by (first i m b)
        where
          by : (i ≡ m) ⊎ (begins (kind i) ≡ true) → (i ≡ m) ⊎ end i
          by (inl e) = inl e
          by (inr there) = inr (again i there)

  -- ---- lists and what comes next

  -- `x {k x}`
  pub separated_placed : {C : Type 0} (rest : Beginning) (kind' : Kind) (i : Input) (f : List A → Parser C) → (k.Nothing ≡ kind' → ⊥) → Shrinks P → ((j : Input) → kind j ≡ kind' → end j)
      → First rest (λ j. end j × (kind j ≡ kind' → ⊥)) → ((xs : List A) (a : Input) → Placed rest a (f xs a)) → Placed (Separating kind' B P rest) i (and_then (separated kind' item i) f)
  separated_placed rest kind' i f is_token shrinks follows first more =
      first_and_placed (behind kind' item) (spelling.Behind kind' P) (After kind' B) rest end (λ j. end j × (kind j ≡ kind' → ⊥)) (behind_step rest kind' is_token shrinks follows) (λ i m r. inr (first i m r)) f more item P B piece i

  -- `x {k x}`, where k alone may come behind it
  pub separated_if_placed : {C : Type 0} (rest : Beginning) (kind' : Kind) (begins : Kind → Bool) (i : Input) (f : List A → Parser C) → (k.Nothing ≡ kind' → ⊥) → Shrinks P → ((j : Input) → kind j ≡ kind' → end j)
      → ((i j : Input) (x : A) → P x i j → begins (kind i) ≡ true) → First B (λ i. begins (kind i) ≡ true)
      → ((i : Input) → rest i i) → ((i : Input) → kind i ≡ kind' → rest i (next i))
      → First rest end → ((i m : Input) → kind i ≡ kind' → begins (kind (next i)) ≡ true → rest i m → After kind' B i m)
      → ((xs : List A) (a : Input) → Placed rest a (f xs a)) → Placed (Separating kind' B P rest) i (and_then (separated_if kind' begins item i) f)
  separated_if_placed rest kind' begins i f is_token shrinks follows starts begin empty alone first covers more =
      first_and_placed (behind_if kind' begins item) (spelling.Behind kind' P) (After kind' B) rest end (λ j. end j × ((sees kind' j && begins (kind (next j))) ≡ false))
      (behind_if_step rest kind' begins is_token shrinks follows starts begin empty alone) ahead f more item P B piece i
    where
      ahead : (i m : Input) → rest i m → After kind' B i m ⊎ ((i ≡ m) ⊎ (end i × ((sees kind' i && begins (kind (next i))) ≡ false)))
      ahead i m r = by (first i m r) (sees kind' i) (begins (kind (next i))) refl refl
        where
          by : (i ≡ m) ⊎ end i → (s b : Bool) → sees kind' i ≡ s → begins (kind (next i)) ≡ b → After kind' B i m ⊎ ((i ≡ m) ⊎ (end i × ((sees kind' i && begins (kind (next i))) ≡ false)))
          by (inl e) s b is starts = inr (inl e)
          by (inr stop) true true is starts = inl (covers i m (seen_is kind' i is) starts r)
          by (inr stop) true false is starts = inr (inr (stop, rw (is, starts)))
          by (inr stop) false b is starts = inr (inr (stop, rw is))

  -- `{x}+`
  pub several_placed : {C : Type 0} (rest : Beginning) (begins : Kind → Bool) (i : Input) (f : List A → Parser C) → Advances P → ((i j : Input) (x : A) → P x i j → begins (kind i) ≡ true)
      → First B (λ i. begins (kind i) ≡ true) → ((i : Input) → begins (kind i) ≡ true → end i)
      → First rest (λ j. end j × (begins (kind j) ≡ false)) → ((xs : List A) (a : Input) → Placed rest a (f xs a)) → Placed (Several B P rest) i (and_then (several begins item i) f)
  several_placed rest begins i f advances starts begin again first more =
      first_and_placed (optional begins item) P B rest end (λ j. end j × (begins (kind j) ≡ false)) (optional_step rest begins advances starts begin again) (λ i m r. inr (first i m r)) f more item P B piece i
