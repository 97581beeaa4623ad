-- Parts that are repeated.
use Rattle.std.proofs.Common.{◌≡◌, ◌<◌, ◌≤◌, suc, Bool, true, false, List, [], ◌∷◌, Some, None, Ok, sym, refl, ap, ◌∙◌, subst, inl, inr, ◌⊎◌, arith}
use Rattle.std.specs.Prelude.{◌&&◌, ◌||◌}
use Rattle.estelle_tree.specs.declared.kind.Kind.{Kind}
use Rattle.estelle_tree.specs.declared.kind.Kind.TheVariants as k
use Rattle.estelle_tree.specs.Input.{Input, kind, next, left}
use Rattle.estelle_tree.specs.Spelling as spelling
use Rattle.estelle_tree.specs.Spelling.{Spelling, Takes, Chain, Separated, Flag}
use Rattle.estelle_tree.specs.Beginning.{Beginning, Nothing, Then, After, OneToken, MayBe, Separating}
use Rattle.token_reader.specs.Reader.{Parser, ReadResult, and_then, pure, sees, after, take, eat, ◌>>◌}
use Rattle.token_reader.specs.Lists.{optional_if, behind_if, first_and, separated, separated_if}
use Rattle.token_reader.proofs.Sound.{through, seen_is, eat_sound, separated_sound, separated_if_sound}
use Rattle.token_reader.proofs.Complete.{next_left_more, separated_complete, sees_takes, unseen, eat_complete, separated_if_complete, behind_advances}
use Rattle.syntax_forms.specs.Form as form
use Rattle.syntax_forms.specs.Form.{Form, ◌▸◌}
use Rattle.syntax_forms.specs.Repeats.{behind, many}
use Rattle.syntax_forms.specs.Kinds.{is}
use Rattle.syntax_forms.specs.Reading.{one, ◌then◌}
use Rattle.syntax_forms.specs.Onward.{Below, IsOnward}
use Rattle.syntax_forms.specs.Placed.{stop, Placed}
use Rattle.syntax_forms.specs.Places.{Reach}
use Rattle.syntax_forms.proofs.Local.{upto}
use Rattle.syntax_forms.proofs.Firsts.{stops_below, First, first_nothing, first_one}
use Rattle.syntax_forms.proofs.KindLaws.{not_is, neither}
use Rattle.syntax_forms.proofs.Steps.{Reached, Reaches, reached_from, step, stays, eats, either, exact, last}
use Rattle.syntax_forms.proofs.Lists.{separated_onward, separated_reached, separated_if_onward, repeated_onward, repeated_reached, behind_if_onward, behind_one}
use Rattle.syntax_forms.proofs.Placing.{done, eat_last, stop_more, in_a_row}
use Rattle.syntax_forms.proofs.Listing.{separated_placed, separated_if_placed}
use Rattle.syntax_forms.proofs.Lawful.{begins_so, shrinks, IsForm, IsLast, IsRead, IsLawful, Ends, Starts, Keeps}
use Rattle.syntax_forms.proofs.NodeForms.{part_form, going_form, lawful_piece, lawful_onward}
use Rattle.syntax_forms.proofs.RowForms.{then_form}
use Rattle.syntax_forms.proofs.BehindForms.{behind_form}
use Rattle.syntax_forms.proofs.StepForms.{many_form}
use Rattle.syntax_forms.proofs.MarkForms.{flag_form, flag_read}

-- ---- `x {k x}`

module _ {A : Type 0} (kind' : Kind) (F : Form A) (law : IsForm F) (is_token : is kind' k.Nothing ≡ false) where
  -- the first one, and those behind a terminal
  parts : IsForm (form.part F ▸ many (behind kind' F))
  parts = then_form (form.part F) (many (behind kind' F)) (part_form F law) (many_form (behind kind' F) (behind_form kind' is_token F law) refl)

  pub separated_form : IsForm (form.separated kind' F)
  separated_form = record {
    whole = whole;
    whole_onto = whole_onto;
    apart = apart;
    short = parts.short;
    nothing = parts.nothing;
    shut = parts.shut;
    starts = starts;
    first = parts.first;
    reach = reach;
    advances = advances;
    local = local;
  }
    where
      whole : (i j : Input) (xs : List A) → Separated kind' F.spells xs i j → Separating kind' F.begins F.spells Nothing i j
      whole i j [] h = absurd h
      whole i j (x ∷ xs) h = parts.whole i j (x, xs) h

      whole_onto : (next : Beginning) (i m j : Input) (xs : List A) → Separated kind' F.spells xs i m → next m j → Separating kind' F.begins F.spells next i j
      whole_onto next i m j [] h n = absurd h
      whole_onto next i m j (x ∷ xs) h n = parts.whole_onto next i m j (x, xs) h n

      apart : (next : Beginning) (i m : Input) → Separating kind' F.begins F.spells next i m → Then (Separating kind' F.begins F.spells Nothing) (Separated kind' F.spells) next i m
      apart next i m b = by (parts.apart next i m b)
        where
          by : Then (Separating kind' F.begins F.spells Nothing) (form.part F ▸ many (behind kind' F)).spells next i m → Then (Separating kind' F.begins F.spells Nothing) (Separated kind' F.spells) next i m
          by (inl b) = inl b
          by (inr h) = inr (h.0.0 ∷ h.0.1, h.1, h.2, h.3)

      starts : (i m : Input) (xs : List A) → Separated kind' F.spells xs i m → ((i ≡ m) × ((F.empty && true) ≡ true)) ⊎ Starts (form.separated kind' F) i
      starts i m [] h = absurd h
      starts i m (x ∷ xs) h = parts.starts i m (x, xs) h

      reach : (i m : Input) (xs : List A) → Separated kind' F.spells xs i m → Reach i m
      reach i m [] h = absurd h
      reach i m (x ∷ xs) h = parts.reach i m (x, xs) h

      advances : (F.empty && true) ≡ false → (i m : Input) (xs : List A) → Separated kind' F.spells xs i m → left m < left i
      advances some i m [] h = absurd h
      advances some i m (x ∷ xs) h = parts.advances some i m (x, xs) h

      local : (c i m : Input) (xs : List A) → Separated kind' F.spells xs i m → Reach m c → Separated kind' F.spells xs (upto c i) (upto c m)
      local c i m [] h r = absurd h
      local c i m (x ∷ xs) h r = parts.local c i m (x, xs) h r

module _ {A : Type 0} (kind' : Kind) (F : Form A) (p : Parser A) (law : IsLawful F p) (is_token : is kind' k.Nothing ≡ false) (follows : F.on kind' ≡ false) where
  ends : (j : Input) → kind j ≡ kind' → Ends F j
  ends j e = rw e follows

  token : k.Nothing ≡ kind' → ⊥
  token = not_is kind' k.Nothing is_token

  both : (j : Input) → Ends (form.separated kind' F) j → Ends F j × (kind j ≡ kind' → ⊥)
  both j end = let n = neither (is kind' (kind j)) _ end in (n.1, not_is kind' (kind j) n.0)

  pub separated_read : IsRead (form.separated kind' F) (one (separated kind' p))
  separated_read = record {
    rest = record {
      form = separated_form kind' F law.form is_token;
      onward = λ C f on i. step i _ (separated kind' p i) f (separated_onward p (lawful_onward F p law) kind' i) on;
      sound = λ C f i j y h. through (separated kind' p i) f (y, j) h (λ xs m e h. (xs, m, separated_sound p F.spells law.sound kind' i m xs e, h));
      complete = λ C f i m xs h end. ap (λ o. and_then o f) (whole i m xs h end);
      reached = λ C f on i m n xs y h end r. either (separated kind' p) f i m n xs y (separated_onward p (lawful_onward F p law) kind') on (separated_reached p F.spells (lawful_onward F p law) law.reaches kind' token (Ends F) law.complete (shrinks law.form) ends i m xs h) (known i m n xs h end) r;
      last = λ C f keeps i. placed C f Nothing (λ j. refl) (first_nothing _) (λ x a. let same = keeps x a in rw same.1 (done same.0 a)) i;
    };
    goes = placed;
  }
    where
      whole : (i m : Input) (xs : List A) → Separated kind' F.spells xs i m → Ends (form.separated kind' F) m → separated kind' p i ≡ Ok (xs, m)
      whole i m xs h end = separated_complete p F.spells (Ends F) law.complete (shrinks law.form) kind' token ends i m xs h (both m end)

      known : (i m n : Input) (xs : List A) → Separated kind' F.spells xs i m → (m ≡ n) ⊎ Ends (form.separated kind' F) m → (m ≡ n) ⊎ (separated kind' p i ≡ Ok (xs, m))
      known i m n xs h (inl e) = inl e
      known i m n xs h (inr end) = inr (whole i m xs h end)

      placed : (C : Type 0) (f : List A → Parser C) (next : Beginning) → ((j : Input) → next j j) → First next (Ends (form.separated kind' F)) → ((xs : List A) (a : Input) → Placed next a (f xs a)) → (i : Input) → Placed (Separating kind' F.begins F.spells next) i (one (separated kind' p) C f i)
      placed C f next blank stops more i = separated_placed p F.spells F.begins (Ends F) (lawful_piece F p law) next kind' i f token (shrinks law.form) ends (λ i m n. at (stops i m n)) more
        where
          at : {i m : Input} → (i ≡ m) ⊎ Ends (form.separated kind' F) i → (i ≡ m) ⊎ (Ends F i × (kind i ≡ kind' → ⊥))
          at (inl e) = inl e
          at {i} (inr end) = inr (both i end)

-- ---- `x {k x} [k]`

eat_there : (kind' : Kind) (i m : Input) → Takes kind' i m → eat kind' i ≡ Ok (true, m)
unfolding after
eat_there kind' i m t = rw (sees_takes kind' i m t, t.next) refl

-- a whole list, and the beginning of another item
longer : {A : Type 0} (kind' : Kind) (P : Spelling A) (B rest : Beginning) (xs : List A) (i m j : Input) → Separated kind' P xs i m → After kind' B m j → Separating kind' B P rest i j
longer kind' P B rest [] i m j h b = absurd h
longer kind' P B rest (x ∷ xs) i m j h b = inr (x, h.0, h.1, (xs, m, h.2, inl b))

module _ {A : Type 0} (kind' : Kind) (F : Form A) (law : IsForm F) (is_token : is kind' k.Nothing ≡ false) where
  pub sections_form : IsForm (form.sections kind' F)
  sections_form = going_form (λ x. is kind' x || (F.first x || F.on x)) (form.separated kind' F ▸ form.flag kind')
      (then_form (form.separated kind' F) (form.flag kind') (separated_form kind' F law is_token) (flag_form kind' is_token))

-- The next kind tells whether an item begins, and each item takes that token.
module _ {A : Type 0} (kind' : Kind) (F : Form A) (p : Parser A) (law : IsLawful F p) (is_token : is kind' k.Nothing ≡ false) (some : F.empty ≡ false) (follows : F.on kind' ≡ false) (ends_none : F.first k.Nothing ≡ false)
    (begins : Kind → Bool) (tells : (x : Kind) → begins x ≡ F.first x) (takes : (i : Input) → Starts F i → F.begins i (next i)) where
  stops : (j : Input) → kind j ≡ kind' → Ends F j
  stops j e = rw e follows

  token_there : k.Nothing ≡ kind' → ⊥
  token_there = not_is kind' k.Nothing is_token

  starting : (i m : Input) (x : A) → F.spells x i m → begins (kind i) ≡ true
  starting i m x h = tells (kind i) ∙ begins_so F law.form some i m x h

  first_so : First F.begins (λ i. begins (kind i) ≡ true)
  first_so i m b = by (law.form.first i m b)
    where
      by : (i ≡ m) ⊎ Starts F i → (i ≡ m) ⊎ (begins (kind i) ≡ true)
      by (inl e) = inl e
      by (inr s) = inr (tells (kind i) ∙ s)

  -- where the items end
  items_end : (b : Bool) (m j : Input) → Flag kind' b m j → Ends (form.sections kind' F) j → Ends F m × ((sees kind' m && begins (kind (next m))) ≡ false)
  items_end false m j e end =
      let n = neither (is kind' (kind j)) _ end in
      (rw e (neither (F.first (kind j)) _ n.1).1, rw (e, unseen kind' j (not_is kind' (kind j) n.0)))
  items_end true m j t end =
      let n = neither (is kind' (kind j)) _ end in
      (stops m t.kind, rw (sees_takes kind' m j t, t.next, tells (kind j)) (neither (F.first (kind j)) _ n.1).0)

  read : (C : Type 0) (f : List A × Bool → Parser C) (i m n : Input) (x : List A × Bool) (y : C) (h : (form.sections kind' F).spells x i m) → separated_if kind' begins p i ≡ Ok (x.0, h.0) → eat kind' h.0 ≡ Ok (x.1, m) → Reached m y n (f x m) → Reached i y n ((one (separated_if kind' begins p) then one (eat kind')) C f i)
  read C f i m n x y h items flag r =
      exact (separated_if kind' begins p) (λ xs. one (eat kind') C (λ b. f (xs, b))) i h.0 n x.0 y (separated_if_onward p (lawful_onward F p law) kind' begins) items
      (exact (eat kind') (λ b. f (x.0, b)) h.0 m n x.1 y (eats kind') flag r)

  goes_on : (i m : Input) → Takes kind' i m → begins (kind m) ≡ true → behind_if kind' begins p i ≡ and_then (p m) (λ x. pure (Some x))
  unfolding behind_if
  goes_on i m t there = rw (sees_takes kind' i m t, t.next, there, t.next) refl

  item_there : (i m : Input) (x : A) → spelling.Behind kind' F.spells x i m → Ends F m → behind_if kind' begins p i ≡ Ok (Some x, m)
  item_there i m x h end = goes_on i h.at h.mark (starting h.at m x h.item) ∙ ap (λ o. and_then o (λ x. pure (Some x))) (law.complete h.at m x h.item end)

  item_reached : (i m : Input) (x : A) → spelling.Behind kind' F.spells x i m → Reached i (Some x) m (behind_if kind' begins p i)
  item_reached i m x h =
      rw (goes_on i h.at h.mark (starting h.at m x h.item))
      (reached_from i h.at m (Some x) _ (1, h.mark.next) (last p _ h.at m x (Some x) (lawful_onward F p law) (λ y a. stays _ a) (law.reaches h.at m x h.item) (inl refl)))

  none_reached : (i : Input) → Reached i None i (behind_if kind' begins p i)
  unfolding behind_if
  none_reached i = by (sees kind' i) (begins (kind (next i))) refl
    where
      by : (s b : Bool) → sees kind' i ≡ s → Reached i None i (optional_if (s && b) (take >> p) i)
      by true true e = inr (step i _ ((take >> p) i) _ (behind_one p (lawful_onward F p law) kind' i token_there (seen_is kind' i e)) (λ x a. stays _ a))
      by true false e = inl refl
      by false b e = inl refl

  items_reached : Reaches (separated_if kind' begins p) (Separated kind' F.spells)
  unfolding first_and
  items_reached i m [] h = absurd h
  items_reached i m (x ∷ xs) h =
      either p _ i h.0 m x (x ∷ xs) (lawful_onward F p law) (λ x. repeated_onward (behind_if kind' begins p) (behind_if_onward p (lawful_onward F p law) kind' begins) (x ∷ [])) (law.reaches i h.0 x h.1) (known xs h.2)
      (repeated_reached (behind_if kind' begins p) (spelling.Behind kind' F.spells) (behind_advances kind' token_there F.spells (shrinks law.form)) (behind_if_onward p (lawful_onward F p law) kind' begins) (Ends F)
      item_there (λ i j x h. stops i h.mark.kind) item_reached none_reached (x ∷ []) xs h.0 m h.2)
    where
      known : (xs : List A) → Chain (spelling.Behind kind' F.spells) xs h.0 m → (h.0 ≡ m) ⊎ (p i ≡ Ok (x, h.0))
      known [] e = inl e
      known (y ∷ ys) g = inr (law.complete i h.0 x h.1 (stops h.0 g.1.mark.kind))

  -- what comes next, where the terminal is read as one that ends the list
  items_placed : {C : Type 0} (rest : Beginning) (f : List A → Parser C) → ((i : Input) → rest i i) → ((i : Input) → kind i ≡ kind' → rest i (next i)) → First rest (Ends F)
      → ((i m : Input) → kind i ≡ kind' → begins (kind (next i)) ≡ true → rest i m → After kind' F.begins i m) → ((xs : List A) (a : Input) → Placed rest a (f xs a)) → (i : Input) → Placed (Separating kind' F.begins F.spells rest) i (one (separated_if kind' begins p) C f i)
  items_placed rest f blank alone first covers more i = separated_if_placed p F.spells F.begins (Ends F) (lawful_piece F p law) rest kind' begins i f token_there (shrinks law.form) stops starting first_so blank alone first covers more

  last_placed : (C : Type 0) (f : List A × Bool → Parser C) → Keeps f → (i : Input) → Placed (form.sections kind' F).begins i ((one (separated_if kind' begins p) then one (eat kind')) C f i)
  last_placed C f keeps = items_placed (OneToken kind') _ (λ i. inl refl) (λ i e. inr (record { kind = e; next = refl })) (first_one (Ends F) kind' stops) covers (λ xs a. eat_last kind' a _ (λ b. keeps (xs, b)))
    where
      covers : (i m : Input) → kind i ≡ kind' → begins (kind (next i)) ≡ true → OneToken kind' i m → After kind' F.begins i m
      covers i m e there (inl same) = inl same
      covers i m e there (inr t) = inr (m, t, law.form.nothing m)

  next_placed : (C : Type 0) (f : List A × Bool → Parser C) (rest : Beginning) → ((j : Input) → rest j j) → First rest (Ends (form.sections kind' F)) → ((x : List A × Bool) (a : Input) → Placed rest a (f x a)) → (i : Input) → Placed (Separating kind' F.begins F.spells (MayBe kind' rest)) i ((one (separated_if kind' begins p) then one (eat kind')) C f i)
  next_placed C f rest blank ends more =
      items_placed (MayBe kind' rest) _ (λ i. inl (blank i)) (λ i e. inr (inr (next i, record { kind = e; next = refl }, blank (next i)))) first covers
      (λ xs a. (flag_read kind' is_token).goes C (λ b. f (xs, b)) rest blank (λ i m n. flag_ends (ends i m n)) (λ b. more (xs, b)) a)
    where
      flag_ends : {i m : Input} → (i ≡ m) ⊎ Ends (form.sections kind' F) i → (i ≡ m) ⊎ (is kind' (kind i) ≡ false)
      flag_ends (inl e) = inl e
      flag_ends {i} (inr end) = inr (neither (is kind' (kind i)) _ end).0

      item_ends : {i m : Input} → (i ≡ m) ⊎ Ends (form.sections kind' F) i → (i ≡ m) ⊎ Ends F i
      item_ends (inl e) = inl e
      item_ends {i} (inr end) = inr (neither (F.first (kind i)) _ (neither (is kind' (kind i)) _ end).1).1

      first : First (MayBe kind' rest) (Ends F)
      first i m (inl n) = item_ends (ends i m n)
      first i m (inr (inl e)) = inl e
      first i m (inr (inr t)) = inr (stops i t.1.kind)

      covers : (i m : Input) → kind i ≡ kind' → begins (kind (next i)) ≡ true → MayBe kind' rest i m → After kind' F.begins i m
      covers i m e there (inl n) = by (flag_ends (ends i m n))
        where
          by : (i ≡ m) ⊎ (is kind' (kind i) ≡ false) → After kind' F.begins i m
          by (inl same) = inl same
          by (inr other) = absurd (not_is kind' (kind i) other e)
      covers i m e there (inr (inl same)) = inl same
      covers i m e there (inr (inr t)) = inr (t.0, t.1, by (ends t.0 m t.2))
        where
          by : (t.0 ≡ m) ⊎ Ends (form.sections kind' F) t.0 → F.begins t.0 m
          by (inl same) = subst (λ m. F.begins t.0 m) same (law.form.nothing t.0)
          by (inr end) = absurd (let none = (neither (F.first (kind t.0)) _ (neither (is kind' (kind t.0)) _ end).1).0 in let no : true ≡ false = sym there ∙ (ap (λ a. begins (kind a)) t.1.next ∙ (tells (kind t.0) ∙ none)) in cc)

  sections_last : IsLast (form.sections kind' F) (one (separated_if kind' begins p) then one (eat kind'))
  sections_last = record {
    form = sections_form kind' F law.form is_token;
    onward = onward;
    sound = λ C f i j y h. through (separated_if kind' begins p i) _ (y, j) h (λ xs a are h. through (eat kind' a) _ (y, j) h (λ b m is h. ((xs, b), m, (a, separated_if_sound p F.spells law.sound kind' begins i a xs are, eat_sound kind' a m b is), h)));
    complete = complete;
    reached = reached;
    last = last_placed;
  }
    where
      onward : (C : Type 0) (f : List A × Bool → Parser C) → ((x : List A × Bool) → IsOnward (f x)) → IsOnward ((one (separated_if kind' begins p) then one (eat kind')) C f)
      onward C f on i = step i _ (separated_if kind' begins p i) _ (separated_if_onward p (lawful_onward F p law) kind' begins i) (λ xs a. step a _ (eat kind' a) _ (eats kind' a) (λ b. on (xs, b)))

      complete : (C : Type 0) (f : List A × Bool → Parser C) (i m : Input) (x : List A × Bool) → (form.sections kind' F).spells x i m → Ends (form.sections kind' F) m → (one (separated_if kind' begins p) then one (eat kind')) C f i ≡ f x m
      complete C f i m x h end =
          rw (
            separated_if_complete p F.spells (Ends F) law.complete (shrinks law.form) kind' begins token_there stops starting i h.0 x.0 h.1 (items_end x.1 h.0 m h.2 end),
            ap (λ o. and_then o (λ b. f (x.0, b))) (eat_complete kind' h.0 m x.1 h.2 (not_is kind' (kind m) (neither (is kind' (kind m)) _ end).0)),
          )

      reached : (C : Type 0) (f : List A × Bool → Parser C) → ((x : List A × Bool) → IsOnward (f x)) → (i m n : Input) (x : List A × Bool) (y : C) → (form.sections kind' F).spells x i m → (m ≡ n) ⊎ Ends (form.sections kind' F) m → Reached m y n (f x m) → Reached i y n ((one (separated_if kind' begins p) then one (eat kind')) C f i)
      reached C f on i m n x y h (inr end) r = read C f i m n x y h (separated_if_complete p F.spells (Ends F) law.complete (shrinks law.form) kind' begins token_there stops starting i h.0 x.0 h.1 (items_end x.1 h.0 m h.2 end))
          (eat_complete kind' h.0 m x.1 h.2 (not_is kind' (kind m) (neither (is kind' (kind m)) _ end).0)) r
      reached C f on i m n (xs, false) y h (inl e) r =
          either (separated_if kind' begins p) (λ xs. one (eat kind') C (λ b. f (xs, b))) i h.0 n xs y (separated_if_onward p (lawful_onward F p law) kind' begins) (λ xs a. step a _ (eat kind' a) _ (eats kind' a) (λ b. on (xs, b))) (items_reached i h.0 xs h.1) (inl (h.2 ∙ e))
          ((flag_read kind' is_token).reached C (λ b. f (xs, b)) (λ b. on (xs, b)) h.0 m n false y h.2 (inl e) r)
      reached C f on i m n (xs, true) y h (inl e) r = by (begins (kind m)) refl
        where
          all : List A × Bool → Parser (List A × Bool)
          all x a = Ok (x, a)

          -- an item comes behind the terminal, and more is read
          more : begins (kind m) ≡ true → Below i (left n) ((one (separated_if kind' begins p) then one (eat kind')) C f i)
          more there =
              let piece : Separating kind' F.begins F.spells (OneToken kind') i (next m) = longer kind' F.spells F.begins (OneToken kind') xs i h.0 (next m) h.1 (inr (m, h.2, takes m (sym (tells (kind m)) ∙ there))) in
              let short = (last_placed (List A × Bool) all (λ x a. (x, refl)) i).longest (next m) piece in
              let whole = in_a_row (separated_if kind' begins p i) (λ xs. one (eat kind') (List A × Bool) (λ b. all (xs, b))) f in
              let least = stop_more ((one (separated_if kind' begins p) then one (eat kind')) (List A × Bool) all i) f (λ x a e. on x a) in
              let less = next_left_more m (λ e. let no : true ≡ false = sym there ∙ (ap begins e ∙ (tells k.Nothing ∙ ends_none)) in cc) in
              let same : left m ≡ left n = ap left e in
              let total : stop ((one (separated_if kind' begins p) then one (eat kind')) C f i) ≤ stop ((one (separated_if kind' begins p) then one (eat kind')) (List A × Bool) all i) = subst (λ (o : ReadResult C). stop o ≤ stop ((one (separated_if kind' begins p) then one (eat kind')) (List A × Bool) all i)) (sym whole) least in
              stops_below i (suc (left i)) (left n) _ (onward C f on i) (omega arith)

          by : (b : Bool) → begins (kind m) ≡ b → Reached i y n ((one (separated_if kind' begins p) then one (eat kind')) C f i)
          by true there = inr (more there)
          by false none = read C f i m n (xs, true) y h (separated_if_complete p F.spells (Ends F) law.complete (shrinks law.form) kind' begins token_there stops starting i h.0 xs h.1 (stops h.0 h.2.kind, rw (sees_takes kind' h.0 m h.2, h.2.next, none) refl))
              (eat_there kind' h.0 m h.2) r

  pub sections_read : IsRead (form.sections kind' F) (one (separated_if kind' begins p) then one (eat kind'))
  sections_read = record { rest = sections_last; goes = next_placed }
