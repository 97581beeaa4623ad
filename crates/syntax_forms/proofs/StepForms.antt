-- `[x]` and `{x}`, read by a step: what reads one more part, or nothing.
use Rattle.std.proofs.Common.{◌≡◌, suc, Bool, true, false, List, [], ◌∷◌, Option, Some, None, Ok, sym, refl, ap, ◌∙◌, subst, inl, inr, ◌⊎◌, arith}
use Rattle.estelle_tree.specs.declared.kind.Kind.{Kind}
use Rattle.estelle_tree.specs.declared.kind.Kind.TheVariants as k
use Rattle.estelle_tree.specs.Input.{Input, kind, next, left}
use Rattle.estelle_tree.specs.Spelling.{Optional, Chain}
use Rattle.estelle_tree.specs.Beginning.{Beginning, Nothing, ◌or◌, Then, Many}
use Rattle.token_reader.specs.Reader.{Parser, and_then, pure}
use Rattle.token_reader.specs.Lists.{optional_if, optional, repeated}
use Rattle.token_reader.proofs.Sound.{Sound, through, answered, repeated_sound}
use Rattle.token_reader.proofs.Complete.{repeated_complete, next_left_more}
use Rattle.syntax_forms.specs.Form.{Form, part}
use Rattle.syntax_forms.specs.Repeats.{may, many}
use Rattle.syntax_forms.specs.Reading.{one}
use Rattle.syntax_forms.specs.Onward.{Below, IsOnward}
use Rattle.syntax_forms.specs.Placed.{Placed}
use Rattle.syntax_forms.specs.Places.{Reach}
use Rattle.syntax_forms.proofs.Prefixes as prefixes
use Rattle.syntax_forms.proofs.Local.{upto}
use Rattle.syntax_forms.proofs.Firsts.{stops_below, in_a_row, First}
use Rattle.syntax_forms.proofs.KindLaws.{neither, when, apart}
use Rattle.syntax_forms.proofs.Steps as steps
use Rattle.syntax_forms.proofs.Steps.{Reached, reach_on, step, stays, either}
use Rattle.syntax_forms.proofs.Lists.{repeated_onward, repeated_reached}
use Rattle.syntax_forms.proofs.Placing.{done, kept, left_of, right_of, ends as ends_here}
use Rattle.syntax_forms.proofs.Listing.{Step, repeated_placed}
use Rattle.syntax_forms.proofs.NodeForms.{part_form, part_read, lawful_onward}
use Rattle.syntax_forms.proofs.Lawful.{first_onto, begins_so, IsForm, IsLast, IsRead, IsLawful, Ends, Starts, Follows}

-- laws of a step
pub record IsStep {A : Type 0} (F : Form A) (p : Parser (Option A)) : Type 1 where
  pub form : IsForm F
  pub onward : IsOnward p
  pub sound : Sound p (Optional F.spells)
  pub there : (i m : Input) (x : A) → F.spells x i m → Ends F m → p i ≡ Ok (Some x, m)
  pub none : (i : Input) → F.first (kind i) ≡ false → p i ≡ Ok (None, i)
  pub reached : (i m : Input) (x : A) → F.spells x i m → Reached i (Some x) m (p i)
  pub nothing : (i : Input) → Reached i None i (p i)
  pub placed : (i : Input) → Placed F.begins i (p i)

module _ {A : Type 0} (F : Form A) (law : IsForm F) (some : F.empty ≡ false) where
  pub may_form : IsForm (may F)
  may_form = record {
    whole = whole;
    whole_onto = onto;
    apart = apart;
    short = λ rest i m n b. inr (law.short rest i m n b);
    nothing = law.nothing;
    shut = law.shut;
    starts = starts;
    first = law.first;
    reach = reach;
    advances = λ e. absurd (let no : true ≡ false = e in cc);
    local = local;
  }
    where
      whole : (i j : Input) (x : Option A) → Optional F.spells x i j → F.begins i j
      whole i j None e = subst (λ j. F.begins i j) e (law.nothing i)
      whole i j (Some x) h = law.whole i j x h

      onto : (rest : Beginning) (i m j : Input) (x : Option A) → Optional F.spells x i m → rest m j → (rest or F.onto rest) i j
      onto rest i m j None e n = inl (subst (λ i. rest i j) (sym e) n)
      onto rest i m j (Some x) h n = inr (law.whole_onto rest i m j x h n)

      starts : (i m : Input) (x : Option A) → Optional F.spells x i m → ((i ≡ m) × (true ≡ true)) ⊎ Starts F i
      starts i m None e = inl (e, refl)
      starts i m (Some x) h = inr (begins_so F law some i m x h)

      apart : (rest : Beginning) (i m : Input) → (rest or F.onto rest) i m → Then F.begins (Optional F.spells) rest i m
      apart rest i m (inl n) = inr (None, i, refl, n)
      apart rest i m (inr b) = by (law.apart rest i m b)
        where
          by : Then F.begins F.spells rest i m → Then F.begins (Optional F.spells) rest i m
          by (inl b) = inl b
          by (inr h) = inr (Some h.0, h.1, h.2, h.3)

      reach : (i m : Input) (x : Option A) → Optional F.spells x i m → Reach i m
      reach i m None e = (0, e)
      reach i m (Some x) h = law.reach i m x h

      local : (c i m : Input) (x : Option A) → Optional F.spells x i m → Reach m c → Optional F.spells x (upto c i) (upto c m)
      local c i m None e r = ap (upto c) e
      local c i m (Some x) h r = law.local c i m x h r

  chain_reach : (i m : Input) (xs : List A) → Chain F.spells xs i m → Reach i m
  chain_reach i m [] e = (0, e)
  chain_reach i m (x ∷ xs) h = reach_on i h.0 m (law.reach i h.0 x h.1) (chain_reach h.0 m xs h.2)

  chain_local : (c i m : Input) (xs : List A) → Chain F.spells xs i m → Reach m c → Chain F.spells xs (upto c i) (upto c m)
  chain_local c i m [] e r = ap (upto c) e
  chain_local c i m (x ∷ xs) h r = (upto c h.0, law.local c i h.0 x h.1 (reach_on h.0 m c (chain_reach h.0 m xs h.2) r), chain_local c h.0 m xs h.2 r)

  pub many_form : IsForm (many F)
  many_form = record {
    whole = λ i j xs h. (xs, j, h, inr refl);
    whole_onto = λ rest i m j xs h n. (xs, m, h, inr n);
    apart = λ rest i m b. apart rest i m b;
    short = λ rest i m n b. short rest i m n b;
    nothing = λ i. ([], i, refl, inl (law.nothing i));
    shut = prefixes.many law.whole law.shut prefixes.nothing;
    starts = starts;
    first = first;
    reach = chain_reach;
    advances = λ e. absurd (let no : true ≡ false = e in cc);
    local = chain_local;
  }
    where
      starts : (i m : Input) (xs : List A) → Chain F.spells xs i m → ((i ≡ m) × (true ≡ true)) ⊎ Starts F i
      starts i m [] e = inl (e, refl)
      starts i m (x ∷ xs) h = inr (begins_so F law some i h.0 x h.1)

      first : (i m : Input) → Many F.begins F.spells Nothing i m → (i ≡ m) ⊎ Starts F i
      first i m (x ∷ xs, a, h, b) = inr (begins_so F law some i h.0 x h.1)
      first i m ([], a, e, inr n) = inl (e ∙ n)
      first i m ([], a, e, inl b) = law.first i m (subst (λ a. F.begins a m) (sym e) b)

      apart : (rest : Beginning) (i m : Input) → Many F.begins F.spells rest i m → Then (Many F.begins F.spells Nothing) (Chain F.spells) rest i m
      apart rest i m (xs, a, h, inl b) = inl (xs, a, h, inl b)
      apart rest i m (xs, a, h, inr n) = inr (xs, a, h, n)

      short : (rest : Beginning) (i m : Input) → rest m m → Many F.begins F.spells Nothing i m → Many F.begins F.spells rest i m
      short rest i m n (xs, a, h, inl b) = (xs, a, h, inl b)
      short rest i m n (xs, a, h, inr e) = (xs, a, h, inr (subst (λ a. rest a m) (sym e) n))

module _ {A : Type 0} (F : Form A) (p : Parser (Option A)) (law : IsStep F p) (some : F.empty ≡ false) where
  fore : (j : Input) → Ends (may F) j → (F.first (kind j) ≡ false) × Ends F j
  fore j end = neither (F.first (kind j)) _ end

  may_known : (i m : Input) (x : Option A) → Optional F.spells x i m → Ends (may F) m → p i ≡ Ok (x, m)
  may_known i m None e end = rw e (law.none m (fore m end).0)
  may_known i m (Some x) h end = law.there i m x h (fore m end).1

  may_reached : (i m : Input) (x : Option A) → Optional F.spells x i m → Reached i x m (p i)
  may_reached i m None e = subst (λ m. Reached i None m (p i)) e (law.nothing i)
  may_reached i m (Some x) h = law.reached i m x h

  pub may_last : IsLast (may F) (one p)
  may_last = record {
    form = may_form F law.form some;
    onward = λ C f on i. step i _ (p i) f (law.onward i) on;
    sound = λ C f i j y h. through (p i) f (y, j) h (λ x m e h. (x, m, law.sound i m x e, h));
    complete = λ C f i m x h end. ap (λ o. and_then o f) (may_known i m x h end);
    reached = λ C f on i m n x y h end r. either p f i m n x y law.onward on (may_reached i m x h) (known i m n x h end) r;
    last = λ C f keeps i. kept F.begins i (p i) f (law.placed i) keeps;
  }
    where
      known : (i m n : Input) (x : Option A) → Optional F.spells x i m → (m ≡ n) ⊎ Ends (may F) m → (m ≡ n) ⊎ (p i ≡ Ok (x, m))
      known i m n x h (inl e) = inl e
      known i m n x h (inr end) = inr (may_known i m x h end)

  module _ (follows : Follows F F) where
    again : (i m : Input) (x : A) → F.spells x i m → Ends F i
    again i m x h = when (F.on (kind i)) (λ e. apart F.on F.first follows (kind i) e (begins_so F law.form some i m x h))

    begun_ends : First F.begins (Ends F)
    begun_ends i m b = by (law.form.first i m b)
      where
        by : (i ≡ m) ⊎ Starts F i → (i ≡ m) ⊎ Ends F i
        by (inl e) = inl e
        by (inr s) = inr (when (F.on (kind i)) (λ e. apart F.on F.first follows (kind i) e s))

    many_step : (rest : Beginning) → Step p F.spells F.begins rest (Ends F) (Ends (many F))
    many_step rest = record {
      on = law.onward;
      advances = law.form.advances some;
      sound = law.sound;
      whole = law.form.whole;
      one = law.there;
      again = again;
      none = λ j end. law.none j (fore j end).0;
      last = λ j end. (fore j end).1;
      begun = λ i l e. (law.placed i).begun l e;
      first = begun_ends;
      falls = λ i m b. inl ((law.placed i).longest m b);
    }

    many_known : (i m : Input) (xs : List A) → Chain F.spells xs i m → Ends (many F) m → repeated p [] i ≡ Ok (xs, m)
    many_known i m xs h end =
        repeated_complete p F.spells (law.form.advances some) (Ends F) law.there again (Ends (many F)) (λ j end. law.none j (fore j end).0) (λ j end. (fore j end).1) i m xs h end

    pub many_read : IsRead (many F) (one (repeated p []))
    many_read = record {
      rest = record {
        form = many_form F law.form some;
        onward = λ C f on i. step i _ (repeated p [] i) f (repeated_onward p law.onward [] i) on;
        sound = λ C f i j y h. through (repeated p [] i) f (y, j) h (λ xs m e h. (xs, m, repeated_sound p F.spells law.sound i m xs e, h));
        complete = λ C f i m xs h end. ap (λ o. and_then o f) (many_known i m xs h end);
        reached = λ C f on i m n xs y h end r. either (repeated p []) f i m n xs y (repeated_onward p law.onward []) on
            (repeated_reached p F.spells (law.form.advances some) law.onward (Ends F) law.there again law.reached law.nothing [] xs i m h) (known i m n xs h end) r;
        last = λ C f keeps i. placed C f Nothing (λ i m e. inr (inl e)) (λ x a. let same = keeps x a in rw same.1 (done same.0 a)) i;
      };
      goes = λ C f rest blank ends more i. placed C f rest (λ i m n. inr (ends i m n)) more i;
    }
      where
        known : (i m n : Input) (xs : List A) → Chain F.spells xs i m → (m ≡ n) ⊎ Ends (many F) m → (m ≡ n) ⊎ (repeated p [] i ≡ Ok (xs, m))
        known i m n xs h (inl e) = inl e
        known i m n xs h (inr end) = inr (many_known i m xs h end)

        placed : (C : Type 0) (f : List A → Parser C) (rest : Beginning) → ((i m : Input) → rest i m → F.begins i m ⊎ ((i ≡ m) ⊎ Ends (many F) i)) → ((xs : List A) (a : Input) → Placed rest a (f xs a)) → (i : Input) → Placed (Many F.begins F.spells rest) i (one (repeated p []) C f i)
        placed C f rest first more i = repeated_placed p F.spells F.begins rest (Ends F) (Ends (many F)) (many_step rest) first f more [] i

-- ---- a step that a test tells

module _ {A : Type 0} (F : Form A) (p : Parser A) (law : IsLawful F p) (q : Parser (Option A)) (test : Input → Bool)
    (yes : (i : Input) → test i ≡ true → q i ≡ and_then (p i) (λ x. pure (Some x)))
    (no : (i : Input) → test i ≡ false → q i ≡ Ok (None, i))
    (spelled : (i m : Input) (x : A) → F.spells x i m → test i ≡ true)
    (quiet : (i m : Input) → test i ≡ false → F.begins i m → i ≡ m)
    (first : (i : Input) → F.first (kind i) ≡ false → test i ≡ false)
    (piece : (i : Input) → test i ≡ true → F.begins i (next i))
    (token : (i : Input) → test i ≡ true → kind i ≡ k.Nothing → ⊥) where
  -- it takes a token where the test holds
  takes_one : (i : Input) → test i ≡ true → Below i (left i) (p i)
  takes_one i e =
      let placed = law.placed i in
      let short = placed.longest (next i) (piece i e) in
      let less = next_left_more i (token i e) in
      stops_below i (suc (left i)) (left i) (p i) placed.on (omega arith)

  pub told_step : IsStep F q
  told_step = record {
    form = law.form;
    onward = onward;
    sound = sound;
    there = λ i m x h end. yes i (spelled i m x h) ∙ ap (λ o. and_then o (λ x. pure (Some x))) (law.complete i m x h end);
    none = λ i e. no i (first i e);
    reached = λ i m x h. subst (λ o. Reached i (Some x) m o) (sym (yes i (spelled i m x h))) (steps.last p _ i m x (Some x) (lawful_onward F p law) (λ y a. stays _ a) (law.reaches i m x h) (inl refl));
    nothing = nothing;
    placed = placed;
  }
    where
      onward : IsOnward q
      onward i = by (test i) refl
        where
          by : (b : Bool) → test i ≡ b → Below i (suc (left i)) (q i)
          by true e = subst (λ o. Below i (suc (left i)) o) (sym (yes i e)) (step i _ (p i) _ (lawful_onward F p law i) (λ x a. stays _ a))
          by false e = subst (λ o. Below i (suc (left i)) o) (sym (no i e)) (stays None i)

      sound : Sound q (Optional F.spells)
      sound i j x h = by (test i) refl
        where
          by : (b : Bool) → test i ≡ b → Optional F.spells x i j
          by true e = through (p i) (λ y. pure (Some y)) (x, j) (sym (yes i e) ∙ h) (λ y a is h. answered (Optional F.spells) i j a (Some y) x (law.sound i a y is) h)
          by false e = answered (Optional F.spells) i j i None x refl (sym (no i e) ∙ h)

      nothing : (i : Input) → Reached i None i (q i)
      nothing i = by (test i) refl
        where
          by : (b : Bool) → test i ≡ b → Reached i None i (q i)
          by true e = inr (subst (λ o. Below i (left i) o) (sym (yes i e)) (step i (left i) (p i) _ (takes_one i e) (λ x a. stays _ a)))
          by false e = inl (no i e)

      placed : (i : Input) → Placed F.begins i (q i)
      placed i = by (test i) refl
        where
          by : (b : Bool) → test i ≡ b → Placed F.begins i (q i)
          by true e = subst (λ o. Placed F.begins i o) (sym (yes i e)) (kept F.begins i (p i) _ (law.placed i) (λ x a. (_, refl)))
          by false e = subst (λ o. Placed F.begins i o) (sym (no i e)) (ends_here F.begins None i (λ m b. quiet i m e b))

-- ---- `[x]`, where the next kind tells whether x is there

module _ {A : Type 0} (F : Form A) (p : Parser A) (law : IsLawful F p) (some : F.empty ≡ false) (begins : Kind → Bool) (tells : (x : Kind) → begins x ≡ F.first x) (takes : (i : Input) → Starts F i → F.begins i (next i)) (ends_none : F.first k.Nothing ≡ false) where
  part_law : IsLawful (part F) p
  part_law = record { form = part_form F law.form; placed = law.placed; sound = law.sound; complete = law.complete; reaches = law.reaches }

  pub optional_step : IsStep (part F) (optional begins p)
  unfolding optional
  optional_step = told_step (part F) p part_law (optional begins p) (λ i. begins (kind i)) (λ i e. ap (λ b. optional_if b p i) e) (λ i e. ap (λ b. optional_if b p i) e)
      (λ i m x h. tells (kind i) ∙ begins_so F law.form some i m x h) quiet (λ i e. tells (kind i) ∙ e) (λ i e. takes i (sym (tells (kind i)) ∙ e)) token
    where
      quiet : (i m : Input) → begins (kind i) ≡ false → F.begins i m → i ≡ m
      quiet i m e b = by (law.form.first i m b)
        where
          by : (i ≡ m) ⊎ Starts F i → i ≡ m
          by (inl same) = same
          by (inr s) = absurd (let no : true ≡ false = sym s ∙ (sym (tells (kind i)) ∙ e) in cc)

      token : (i : Input) → begins (kind i) ≡ true → kind i ≡ k.Nothing → ⊥
      token i e n = let no : true ≡ false = sym e ∙ (ap begins n ∙ (tells k.Nothing ∙ ends_none)) in cc

  -- and what comes next
  pub optional_read : IsRead (may (part F)) (one (optional begins p))
  unfolding optional
  optional_read = record { rest = may_last (part F) (optional begins p) optional_step some; goes = goes }
    where
      goes : (C : Type 0) (f : Option A → Parser C) (rest : Beginning) → ((j : Input) → rest j j) → First rest (Ends (may (part F))) → ((x : Option A) (a : Input) → Placed rest a (f x a)) → (i : Input) → Placed (rest or Then F.begins F.spells rest) i (and_then (optional_if (begins (kind i)) p i) f)
      goes C f rest blank ends more i = by (begins (kind i)) refl
        where
          after : {i m : Input} → (i ≡ m) ⊎ Ends (may (part F)) i → (i ≡ m) ⊎ Ends F i
          after (inl e) = inl e
          after {i} (inr end) = inr (neither (F.first (kind i)) _ end).1

          none : begins (kind i) ≡ true → (m : Input) → (i ≡ m) ⊎ Ends (may (part F)) i → i ≡ m
          none e m (inl same) = same
          none e m (inr end) = absurd (let no : true ≡ false = sym e ∙ (tells (kind i) ∙ (neither (F.first (kind i)) _ end).0) in cc)

          no_more : begins (kind i) ≡ false → (m : Input) → (i ≡ m) ⊎ (Starts F i ⊎ ((F.empty ≡ true) × rest i m)) → i ≡ m
          no_more e m (inl same) = same
          no_more e m (inr (inl s)) = absurd (let no : true ≡ false = sym s ∙ (sym (tells (kind i)) ∙ e) in cc)
          no_more e m (inr (inr n)) = absurd (let no : true ≡ false = sym n.0 ∙ some in cc)

          by : (b : Bool) → begins (kind i) ≡ b → Placed (rest or Then F.begins F.spells rest) i (and_then (optional_if b p i) f)
          by true e = right_of rest (Then F.begins F.spells rest) i _ (subst (λ o. Placed (Then F.begins F.spells rest) i o) (in_a_row (p i) (λ x. pure (Some x)) f) ((part_read F p law).goes C (λ x. f (Some x)) rest blank (λ i m n. after (ends i m n)) (λ x. more (Some x)) i))
              (λ m n. none e m (ends i m n))
          by false e = left_of rest (Then F.begins F.spells rest) i (f None i) (more None i) (λ m h. no_more e m (first_onto (part_form F law.form) rest i m h))
