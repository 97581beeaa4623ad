-- Where parsers of a few parts stop: for each way of putting parts together, what begins them.
use Rattle.std.proofs.Common.{◌≡◌, ◌<◌, ◌≤◌, ℕ, zero, suc, Bool, true, false, Option, Some, None, Ok, Err, sym, refl, ap, ◌∙◌, subst, inl, inr, ◌⊎◌, arith}
use Rattle.std.specs.Prelude.{if◌then◌else◌}
use Rattle.estelle_tree.specs.declared.kind.Kind.{Kind}
use Rattle.estelle_tree.specs.Input.{Input, kind, next, left}
use Rattle.estelle_tree.specs.Spelling.{Spelling, Takes}
use Rattle.estelle_tree.specs.Beginning.{Beginning, Nothing, ◌or◌, Then, After, AfterOne, OneToken, Opens, MayBe, MayBeOne}
use Rattle.token_reader.specs.declared.error.ReadError.TheVariants.{Refused}
use Rattle.token_reader.specs.Reader.{Parser, ReadResult, and_then, pure, refusal, refuse, sees, after, take, eat, expect, ◌>>◌}
use Rattle.token_reader.specs.Lists.{optional, optional_if, behind, taking, mark, marked_by, marked}
use Rattle.token_reader.proofs.Sound.{Sound, seen_is}
use Rattle.token_reader.proofs.Complete as reader
use Rattle.token_reader.proofs.Complete.{Complete, next_left, sees_takes}
use Rattle.syntax_forms.specs.Onward.{Below}
use Rattle.syntax_forms.specs.Placed.{stop, Begun, Placed}
use Rattle.syntax_forms.proofs.Steps.{below_more, below_from, stays, refuses, reads_on}
pub use Rattle.syntax_forms.proofs.Firsts.{First, below_stop, on_more, stop_more, refused_by, in_a_row, carry, begun_here, stays_short, first_nothing, first_or, first_after, first_one, first_of, first_opens, first_then, first_so, first_many, empty_at}

-- ---- a parser of one form

-- what is known of it: where it stops; what it reads is spelled so; what is spelled so is read, where the place
-- after it ends the form; and what is spelled so also begins it
pub record Piece {A : Type 0} (p : Parser A) (P : Spelling A) (B : Beginning) (end : reader.After) : Type 0 where
  pub placed : (i : Input) → Placed B i (p i)
  pub sound : Sound p P
  pub complete : Complete p P end
  pub whole : (i j : Input) (x : A) → P x i j → B i j

-- the same pieces begin it
pub same : {A : Type 0} (B C : Beginning) (i : Input) (o : ReadResult A) → ((m : Input) → B i m → C i m) → ((m : Input) → C i m → B i m) → Placed B i o → Placed C i o
same B C i o to back h = record {
  on = h.on;
  longest = λ m c. h.longest m (back m c);
  begun = λ l e. carry C B i i l (zero, refl) to (h.begun l e);
}

-- of two forms the first stands there: nothing begins the other
pub left_of : {A : Type 0} (B C : Beginning) (i : Input) (o : ReadResult A) → Placed B i o → ((m : Input) → C i m → i ≡ m) → Placed (B or C) i o
left_of {A} B C i o h empty = record { on = h.on; longest = longest; begun = λ l e. carry (B or C) B i i l (zero, refl) (λ m b. inl b) (h.begun l e) }
  where
    longest : (m : Input) → (B or C) i m → stop o ≤ left m
    longest m (inl b) = h.longest m b
    longest m (inr c) = stays_short i m o h.on (empty m c)

pub right_of : {A : Type 0} (B C : Beginning) (i : Input) (o : ReadResult A) → Placed C i o → ((m : Input) → B i m → i ≡ m) → Placed (B or C) i o
right_of {A} B C i o h empty = record { on = h.on; longest = longest; begun = λ l e. carry (B or C) C i i l (zero, refl) (λ m c. inr c) (h.begun l e) }
  where
    longest : (m : Input) → (B or C) i m → stop o ≤ left m
    longest m (inl b) = stays_short i m o h.on (empty m b)
    longest m (inr c) = h.longest m c

-- each piece that begins the one also begins the other
pub covered_left : {A : Type 0} (B C : Beginning) (i : Input) (o : ReadResult A) → ((m : Input) → B i m → C i m) → Placed C i o → Placed (B or C) i o
covered_left {A} B C i o into h = same C (B or C) i o (λ m c. inr c) back h
  where
    back : (m : Input) → (B or C) i m → C i m
    back m (inl b) = into m b
    back m (inr c) = c

pub covered_right : {A : Type 0} (B C : Beginning) (i : Input) (o : ReadResult A) → ((m : Input) → C i m → B i m) → Placed B i o → Placed (B or C) i o
covered_right {A} B C i o into h = same B (B or C) i o (λ m b. inl b) back h
  where
    back : (m : Input) → (B or C) i m → B i m
    back m (inl b) = b
    back m (inr c) = into m c

-- it stands at the end of the only piece, which is empty
pub ends : {A : Type 0} (B : Beginning) (x : A) (i : Input) → ((m : Input) → B i m → i ≡ m) → Placed B i (pure x i)
ends {A} B x i only = record {
  on = stays x i;
  longest = λ m b. stays_short {A = A} i m (pure x i) (stays x i) (only m b);
  begun = λ l e. absurd (cc);
}

pub done : {A : Type 0} (x : A) (i : Input) → Placed Nothing i (pure x i)
done x i = ends Nothing x i (λ m e. e)

-- it refuses what comes, and so begins no piece but the empty one
pub refused : {A : Type 0} (B : Beginning) (i : Input) → B i i → ((m : Input) → B i m → i ≡ m) → Placed {A = A} B i (refuse i)
unfolding refusal
refused {A} B i empty only = record {
  on = refuses i;
  longest = λ m b. stays_short {A = A} i m (Err (refusal i)) (refuses i) (only m b);
  begun = λ l e. begun_here B i l empty (cc);
}

-- behind it no token is taken and nothing refused
pub kept : {A C : Type 0} (B : Beginning) (i : Input) (o : ReadResult A) (f : A → Parser C) → Placed B i o → ((x : A) (a : Input) → (y : C) × (f x a ≡ Ok (y, a))) → Placed B i (and_then o f)
kept {A} {C} B i o f h stays' = record { on = on_more i (suc (left i)) o f h.on there; longest = longest; begun = begun }
  where
    there : (x : A) (a : Input) → o ≡ Ok (x, a) → Below a (suc (left a)) (f x a)
    there x a e = let same = stays' x a in subst (λ (o : ReadResult C). Below a (suc (left a)) o) (sym same.1) (stays same.0 a)

    longest : (m : Input) → B i m → stop (and_then o f) ≤ left m
    longest m b = let less = stop_more o f there in let short = h.longest m b in omega arith

    begun : (l : ℕ) → and_then o f ≡ Err (Refused l) → Begun B i l
    begun l e = refused_by o f l e (h.begun l) (λ x a is r. let same = stays' x a in let no : Ok (same.0, a) ≡ Err (Refused l) = sym same.1 ∙ r in absurd (cc))

-- ---- a part and what comes next

-- What comes next begins only with what ends the part. What is read of the part has to be spelled so only where a
-- refusal comes behind it.
pub followed_where : {A C : Type 0} (p : Parser A) (P : Spelling A) (B rest : Beginning) (end : reader.After) (i : Input) (f : A → Parser C) → ((i : Input) → Placed B i (p i)) → Complete p P end → ((m : Input) (x : A) → P x i m → B i m) → First rest end
    → ((x : A) (a : Input) → p i ≡ Ok (x, a) → Placed rest a (f x a)) → ((x : A) (a : Input) (l : ℕ) → p i ≡ Ok (x, a) → f x a ≡ Err (Refused l) → P x i a) → Placed (Then B P rest) i (and_then (p i) f)
followed_where {A} {C} p P B rest end i f placed complete whole first more spelled = record { on = on_more i (suc (left i)) (p i) f (placed i).on there; longest = longest; begun = begun }
  where
    there : (x : A) (a : Input) → p i ≡ Ok (x, a) → Below a (suc (left a)) (f x a)
    there x a e = (more x a e).on

    exact : (x : A) (a m : Input) → p i ≡ Ok (x, a) → rest a m → stop (and_then (p i) f) ≤ left m
    exact x a m e r = subst (λ (o : ReadResult A). stop (and_then o f) ≤ left m) (sym e) ((more x a e).longest m r)

    longest : (m : Input) → Then B P rest i m → stop (and_then (p i) f) ≤ left m
    longest m (inl b) = let less = stop_more (p i) f there in let short = (placed i).longest m b in omega arith
    longest m (inr h) = by (first h.1 m h.3)
      where
        by : (h.1 ≡ m) ⊎ end h.1 → stop (and_then (p i) f) ≤ left m
        by (inl equal) =
            let less = stop_more (p i) f there in
            let short = (placed i).longest h.1 (whole h.1 h.0 h.2) in
            let count : left h.1 ≡ left m = ap left equal in
            omega arith
        by (inr stops) = exact h.0 h.1 m (complete i h.1 h.0 h.2 stops) h.3

    begun : (l : ℕ) → and_then (p i) f ≡ Err (Refused l) → Begun (Then B P rest) i l
    begun l e =
        refused_by (p i) f l e
        (λ r. carry (Then B P rest) B i i l (zero, refl) (λ m b. inl b) ((placed i).begun l r))
        (λ x a is r. carry (Then B P rest) rest i a l (reads_on p i a x (λ i. (placed i).on) is) (λ m h. inr (x, a, spelled x a l is r, h)) ((more x a is).begun l r))

-- where whatever is read is spelled so
pub followed : {A C : Type 0} (p : Parser A) (P : Spelling A) (B rest : Beginning) (end : reader.After) (i : Input) (f : A → Parser C) → Piece p P B end → First rest end
    → ((x : A) (a : Input) → P x i a → Placed rest a (f x a)) → Placed (Then B P rest) i (and_then (p i) f)
followed p P B rest end i f piece first more =
    followed_where p P B rest end i f piece.placed piece.complete (piece.whole i) first (λ x a e. more x a (piece.sound i a x e)) (λ x a l e r. piece.sound i a x e)

-- ---- one token and what comes next

-- the token that comes
pub taken : {A : Type 0} (kind' : Kind) (rest : Beginning) (i : Input) (o : ReadResult A) → kind i ≡ kind' → Placed rest (next i) o → Placed (After kind' rest) i o
taken {A} kind' rest i o is h = record { on = on; longest = longest; begun = begun }
  where
    on : Below i (suc (left i)) o
    on = let less = next_left i in below_from i (next i) (suc (left i)) o (suc zero, refl) (below_more (next i) (suc (left (next i))) (suc (left i)) o (omega arith) h.on)

    longest : (m : Input) → After kind' rest i m → stop o ≤ left m
    longest m (inl e) = stays_short i m o on e
    longest m (inr t) = h.longest m (subst (λ a. rest a m) (sym t.1.next) t.2)

    begun : (l : ℕ) → o ≡ Err (Refused l) → Begun (After kind' rest) i l
    begun l e = carry (After kind' rest) rest i (next i) l (suc zero, refl) (λ m r. inr (next i, record { kind = is; next = refl }, r)) (h.begun l e)

-- another token comes, and begins nothing
pub untaken : (kind' : Kind) (rest : Beginning) (i : Input) → (kind i ≡ kind' → ⊥) → (m : Input) → After kind' rest i m → i ≡ m
untaken kind' rest i differs m (inl e) = e
untaken kind' rest i differs m (inr t) = absurd (differs t.1.kind)

pub unseen_is : (kind' : Kind) (i : Input) → sees kind' i ≡ false → kind i ≡ kind' → ⊥
unseen_is kind' i e is = let no : true ≡ false = sym (sees_takes kind' i (next i) (record { kind = is; next = refl })) ∙ e in cc

pub expected : {A : Type 0} (kind' : Kind) (rest : Beginning) (i : Input) (f : Unit {0} → Parser A) → ((a : Input) → Takes kind' i a → Placed rest a (f tt a)) → Placed (After kind' rest) i (and_then (expect kind' i) f)
unfolding expect
expected {A} kind' rest i f more = go (sees kind' i) refl
  where
    go : (b : Bool) → sees kind' i ≡ b → Placed (After kind' rest) i (and_then (if b then pure tt (next i) else refuse i) f)
    go true e = taken kind' rest i (f tt (next i)) (seen_is kind' i e) (more (next i) (record { kind = seen_is kind' i e; next = refl }))
    go false e = refused (After kind' rest) i (inl refl) (untaken kind' rest i (unseen_is kind' i e))

pub other_token : (kind' : Kind) (i : Input) → (kind i ≡ kind' → ⊥) → (m : Input) → OneToken kind' i m → i ≡ m
other_token kind' i differs m (inl e) = e
other_token kind' i differs m (inr t) = absurd (differs t.kind)

-- the last token
pub one_token : {A : Type 0} (kind' : Kind) (i : Input) (o : ReadResult A) → Placed (After kind' Nothing) i o → Placed (OneToken kind') i o
one_token {A} kind' i o h = same (After kind' Nothing) (OneToken kind') i o to back h
  where
    to : (m : Input) → After kind' Nothing i m → OneToken kind' i m
    to m (inl e) = inl e
    to m (inr t) = inr (subst (λ a. Takes kind' i a) t.2 t.1)

    back : (m : Input) → OneToken kind' i m → After kind' Nothing i m
    back m (inl e) = inl e
    back m (inr t) = inr (m, t, refl)

-- ---- a token that opens a level

pub opened : {A : Type 0} (room : ℕ) (kind' : Kind) (rest : Beginning) (i : Input) (o : ReadResult A) → 0 < room → Placed (After kind' rest) i o → Placed (Opens room kind' rest) i o
opened {A} room kind' rest i o fits h = same (After kind' rest) (Opens room kind' rest) i o to back h
  where
    to : (m : Input) → After kind' rest i m → Opens room kind' rest i m
    to m (inl e) = inl e
    to m (inr t) = inr (fits, t)

    back : (m : Input) → Opens room kind' rest i m → After kind' rest i m
    back m (inl e) = inl e
    back m (inr t) = inr t.1

-- where none may open
pub unopened : (room : ℕ) (kind' : Kind) (rest : Beginning) (i : Input) → (0 < room → kind i ≡ kind' → ⊥) → (m : Input) → Opens room kind' rest i m → i ≡ m
unopened room kind' rest i never m (inl e) = e
unopened room kind' rest i never m (inr t) = absurd (never t.0 t.1.1.kind)

pub no_room : {A : Type 0} (kind' : Kind) (rest : Beginning) (i : Input) → Placed {A = A} (Opens zero kind' rest) i (refuse i)
no_room kind' rest i = refused (Opens zero kind' rest) i (inl refl) (unopened zero kind' rest i (λ fits e. absurd (omega arith)))

-- ---- parts that may be missing

-- `[k]`, the last part
pub eat_last : {A : Type 0} (kind' : Kind) (i : Input) (f : Bool → Parser A) → ((b : Bool) (j : Input) → (y : A) × (f b j ≡ Ok (y, j))) → Placed (OneToken kind') i (and_then (eat kind' i) f)
unfolding after
eat_last {A} kind' i f stays' = go (sees kind' i) refl
  where
    go : (b : Bool) → sees kind' i ≡ b → Placed (OneToken kind') i (f b (if b then next i else i))
    go true e = let same = stays' true (next i) in one_token kind' i _ (taken kind' Nothing i _ (seen_is kind' i e) (subst (λ o. Placed Nothing (next i) o) (sym same.1) (done same.0 (next i))))
    go false e = let same = stays' false i in subst (λ o. Placed (OneToken kind') i o) (sym same.1) (ends (OneToken kind') same.0 i (other_token kind' i (unseen_is kind' i e)))

-- `[k]` and what comes next, which does not begin with k
pub may_be : {A : Type 0} (kind' : Kind) (rest : Beginning) (i : Input) (f : Bool → Parser A) → First rest (λ a. kind a ≡ kind' → ⊥)
    → Placed rest i (f false i) → (kind i ≡ kind' → Placed rest (next i) (f true (next i))) → Placed (MayBe kind' rest) i (and_then (eat kind' i) f)
unfolding after
may_be {A} kind' rest i f first none some = go (sees kind' i) refl
  where
    go : (b : Bool) → sees kind' i ≡ b → Placed (MayBe kind' rest) i (f b (if b then next i else i))
    go true e = right_of rest (After kind' rest) i (f true (next i)) (taken kind' rest i (f true (next i)) (seen_is kind' i e) (some (seen_is kind' i e))) empty
      where
        empty : (m : Input) → rest i m → i ≡ m
        empty m r = by (first i m r)
          where
            by : (i ≡ m) ⊎ (kind i ≡ kind' → ⊥) → i ≡ m
            by (inl e) = e
            by (inr other) = absurd (other (seen_is kind' i e))
    go false e = left_of rest (After kind' rest) i (f false i) none (untaken kind' rest i (unseen_is kind' i e))

-- `[k x]`, read by a step
module _ {A : Type 0} (item : Parser A) (B : Beginning) (placed : (i : Input) → Placed B i (item i)) where
  pub behind_placed : (kind' : Kind) (i : Input) → Placed (After kind' B) i (behind kind' item i)
  unfolding behind
  behind_placed kind' i = go (sees kind' i) refl
    where
      go : (b : Bool) → sees kind' i ≡ b → Placed (After kind' B) i (optional_if b (take >> item) i)
      go true e = taken kind' B i _ (seen_is kind' i e) (kept B (next i) (item (next i)) _ (placed (next i)) (λ x a. (_, refl)))
      go false e = ends (After kind' B) None i (untaken kind' B i (unseen_is kind' i e))

  -- the next kind tells whether the part is there
  pub optional_placed : (begins : Kind → Bool) → First B (λ i. begins (kind i) ≡ true) → (i : Input) → Placed B i (optional begins item i)
  unfolding optional
  optional_placed begins first i = go (begins (kind i)) refl
    where
      go : (b : Bool) → begins (kind i) ≡ b → Placed B i (optional_if b item i)
      go true e = kept B i (item i) _ (placed i) (λ x a. (_, refl))
      go false e = ends B None i only
        where
          only : (m : Input) → B i m → i ≡ m
          only m b = by (first i m b)
            where
              by : (i ≡ m) ⊎ (begins (kind i) ≡ true) → i ≡ m
              by (inl equal) = equal
              by (inr there) = absurd (let no : true ≡ false = sym there ∙ e in cc)

-- one of several terminals
module _ {O : Type 0} (of : Kind → Option O) (kinds : O → Kind) (forth : (o : O) → of (kinds o) ≡ Some o) (back : (kind' : Kind) (o : O) → of kind' ≡ Some o → kind' ≡ kinds o) where
  -- none of them comes
  pub unmarked : (rest : Beginning) (i : Input) → of (kind i) ≡ None → (m : Input) → AfterOne kinds rest i m → i ≡ m
  unmarked rest i none m (inl e) = e
  unmarked rest i none m (inr t) = absurd (let no : Some t.0 ≡ None = sym (forth t.0) ∙ (ap of (sym t.2.kind) ∙ none) in cc)

  -- one comes
  pub taken_one : {A : Type 0} (rest : Beginning) (i : Input) (out : ReadResult A) (o : O) → kind i ≡ kinds o → Placed rest (next i) out → Placed (AfterOne kinds rest) i out
  taken_one {A} rest i out o is h = same (After (kinds o) rest) (AfterOne kinds rest) i out to from (taken (kinds o) rest i out is h)
    where
      to : (m : Input) → After (kinds o) rest i m → AfterOne kinds rest i m
      to m (inl e) = inl e
      to m (inr t) = inr (o, t.0, t.1, t.2)

      from : (m : Input) → AfterOne kinds rest i m → After (kinds o) rest i m
      from m (inl e) = inl e
      from m (inr t) = inr (t.1, record { kind = is; next = t.2.next }, t.3)

  -- `[k]` and what comes next
  pub mark_placed : {A : Type 0} (rest : Beginning) (i : Input) (f : Option O → Parser A) → First rest (λ a. of (kind a) ≡ None)
      → Placed rest i (f None i) → ((o : O) → kind i ≡ kinds o → Placed rest (next i) (f (Some o) (next i))) → Placed (MayBeOne kinds rest) i (and_then (mark of i) f)
  mark_placed {A} rest i f first none some = go (of (kind i)) refl
    where
      go : (o : Option O) → of (kind i) ≡ o → Placed (MayBeOne kinds rest) i (and_then (taking o i) f)
      go None e = left_of rest (AfterOne kinds rest) i (f None i) none (unmarked rest i e)
      go (Some o) e = right_of rest (AfterOne kinds rest) i (f (Some o) (next i)) (taken_one rest i (f (Some o) (next i)) o (back (kind i) o e) (some o (back (kind i) o e))) empty
        where
          empty : (m : Input) → rest i m → i ≡ m
          empty m r = by (first i m r)
            where
              by : (i ≡ m) ⊎ (of (kind i) ≡ None) → i ≡ m
              by (inl equal) = equal
              by (inr none) = absurd (let no : Some o ≡ None = sym e ∙ none in cc)

  -- `[k x]`, read by a step
  pub marked_placed : {A : Type 0} (item : Parser A) (B : Beginning) → ((i : Input) → Placed B i (item i)) → (i : Input) → Placed (AfterOne kinds B) i (marked of item i)
  marked_placed {A} item B placed i = go (of (kind i)) refl
    where
      go : (o : Option O) → of (kind i) ≡ o → Placed (AfterOne kinds B) i (marked_by o item i)
      go None e = ends (AfterOne kinds B) None i (unmarked B i e)
      go (Some o) e = taken_one B i _ o (back (kind i) o e) (kept B (next i) (item (next i)) (λ x a. Ok (Some (o, x), a)) (placed (next i)) (λ x a. (Some (o, x), refl)))
