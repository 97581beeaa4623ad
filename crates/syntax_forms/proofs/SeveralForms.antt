-- `{x}+`, where the next kind tells whether another x comes.
use Rattle.std.proofs.Common.{◌≡◌, ◌<◌, ◌≤◌, ℕ, zero, suc, Bool, true, false, List, [], ◌∷◌, ◌++◌, Some, None, Ok, sym, refl, ap, ◌∙◌, subst, inl, inr, ◌⊎◌, arith}
use Rattle.estelle_tree.specs.declared.kind.Kind.{Kind}
use Rattle.estelle_tree.specs.declared.kind.Kind.TheVariants as k
use Rattle.estelle_tree.specs.Input.{Input, kind, next, left}
use Rattle.estelle_tree.specs.Spelling.{Chain, Several}
use Rattle.estelle_tree.specs.Beginning.{Beginning, Nothing, Then, Many, Some as BeginsSeveral}
use Rattle.token_reader.specs.Reader.{Parser, and_then, pure}
use Rattle.token_reader.specs.Lists.{optional_if, optional, turn, repeated_from, repeated, first_and, several}
use Rattle.token_reader.proofs.Sound.{through, several_sound}
use Rattle.token_reader.proofs.Complete.{Advances, chain_shrinks, several_complete, empty_kind, next_left_more}
use Rattle.syntax_forms.specs.Form as form
use Rattle.syntax_forms.specs.Form.{Form}
use Rattle.syntax_forms.specs.Reading.{one}
use Rattle.syntax_forms.specs.Onward.{Below}
use Rattle.syntax_forms.specs.Placed.{Placed}
use Rattle.syntax_forms.specs.Places.{Reach}
use Rattle.syntax_forms.proofs.Prefixes as prefixes
use Rattle.syntax_forms.proofs.Local.{upto}
use Rattle.syntax_forms.proofs.Firsts.{stops_below, First, first_nothing, first_then, in_a_row, alike_where}
use Rattle.syntax_forms.proofs.KindLaws.{neither, when, apart}
use Rattle.syntax_forms.proofs.Steps.{Reached, Reaches, reach_on, step, stays, either, last}
use Rattle.syntax_forms.proofs.Lists.{several_onward, repeated_onward, repeated_reached, optional_onward}
use Rattle.syntax_forms.proofs.Placing.{done}
use Rattle.syntax_forms.proofs.Listing.{several_placed}
use Rattle.syntax_forms.proofs.Lawful.{begins_so, shrinks, IsForm, IsRead, IsLawful, Ends, Starts, Follows}
use Rattle.syntax_forms.proofs.NodeForms.{lawful_piece, lawful_onward}

module _ {A : Type 0} (F : Form A) (law : IsForm F) (some : F.empty ≡ false) where
  starts : (i m : Input) (xs : List A) → Several F.spells xs i m → Starts F i
  starts i m [] h = absurd h
  starts i m (x ∷ xs) h = begins_so F law some i h.0 x h.1

  first : (rest : Beginning) → First (BeginsSeveral F.begins F.spells rest) (Starts F)
  first rest = first_then (Starts F) F.spells F.begins (Many F.begins F.spells rest) law.first (begins_so F law some)

  onto : (rest : Beginning) (i m j : Input) (xs : List A) → Several F.spells xs i m → rest m j → BeginsSeveral F.begins F.spells rest i j
  onto rest i m j [] h n = absurd h
  onto rest i m j (x ∷ xs) h n = inr (x, h.0, h.1, (xs, m, h.2, inr n))

  chain_reach : (i m : Input) (xs : List A) → Chain F.spells xs i m → Reach i m
  chain_reach i m [] e = (0, e)
  chain_reach i m (x ∷ xs) h = reach_on i h.0 m (law.reach i h.0 x h.1) (chain_reach h.0 m xs h.2)

  chain_local : (c i m : Input) (xs : List A) → Chain F.spells xs i m → Reach m c → Chain F.spells xs (upto c i) (upto c m)
  chain_local c i m [] e r = ap (upto c) e
  chain_local c i m (x ∷ xs) h r = (upto c h.0, law.local c i h.0 x h.1 (reach_on h.0 m c (chain_reach h.0 m xs h.2) r), chain_local c h.0 m xs h.2 r)

  pub several_form : IsForm (form.several F)
  several_form = record {
    whole = λ i j xs h. onto Nothing i j j xs h refl;
    whole_onto = onto;
    apart = apart;
    short = short;
    nothing = λ i. inl (law.nothing i);
    shut = prefixes.several law.whole law.shut prefixes.nothing;
    starts = λ i m xs h. inr (starts i m xs h);
    first = first Nothing;
    reach = reach;
    advances = advances;
    local = local;
  }
    where
      apart : (rest : Beginning) (i m : Input) → BeginsSeveral F.begins F.spells rest i m → Then (BeginsSeveral F.begins F.spells Nothing) (Several F.spells) rest i m
      apart rest i m (inl b) = inl (inl b)
      apart rest i m (inr (x, a, h, (xs, c, chain, inl b))) = inl (inr (x, a, h, (xs, c, chain, inl b)))
      apart rest i m (inr (x, a, h, (xs, c, chain, inr n))) = inr (x ∷ xs, c, (a, h, chain), n)

      short : (rest : Beginning) (i m : Input) → rest m m → BeginsSeveral F.begins F.spells Nothing i m → BeginsSeveral F.begins F.spells rest i m
      short rest i m n (inl b) = inl b
      short rest i m n (inr (x, a, h, (xs, c, chain, inl b))) = inr (x, a, h, (xs, c, chain, inl b))
      short rest i m n (inr (x, a, h, (xs, c, chain, inr e))) = inr (x, a, h, (xs, c, chain, inr (subst (λ a. rest a m) (sym e) n)))

      reach : (i m : Input) (xs : List A) → Several F.spells xs i m → Reach i m
      reach i m [] h = absurd h
      reach i m (x ∷ xs) h = chain_reach i m (x ∷ xs) h

      advances : false ≡ false → (i m : Input) (xs : List A) → Several F.spells xs i m → left m < left i
      advances e i m [] h = absurd h
      advances e i m (x ∷ xs) h = let a = law.advances some i h.0 x h.1 in let b = chain_shrinks F.spells (shrinks law) h.0 m xs h.2 in omega arith

      local : (c i m : Input) (xs : List A) → Several F.spells xs i m → Reach m c → Several F.spells xs (upto c i) (upto c m)
      local c i m [] h r = absurd h
      local c i m (x ∷ xs) h r = chain_local c i m (x ∷ xs) h r

-- Each item takes the token that tells.
module _ {A : Type 0} (F : Form A) (p : Parser A) (law : IsLawful F p) (some : F.empty ≡ false) (follows : Follows F F) (ends_none : F.first k.Nothing ≡ false)
    (begins : Kind → Bool) (tells : (x : Kind) → begins x ≡ F.first x) (takes : (i : Input) → Starts F i → F.begins i (next i)) where
  starting : (i m : Input) (x : A) → F.spells x i m → begins (kind i) ≡ true
  starting i m x h = tells (kind i) ∙ begins_so F law.form some i m x h

  first_so : First F.begins (λ i. begins (kind i) ≡ true)
  first_so i m b = by (law.form.first i m b)
    where
      by : (i ≡ m) ⊎ Starts F i → (i ≡ m) ⊎ (begins (kind i) ≡ true)
      by (inl e) = inl e
      by (inr s) = inr (tells (kind i) ∙ s)

  -- where another one begins, this one ends
  again : (i : Input) → begins (kind i) ≡ true → Ends F i
  again i e = when (F.on (kind i)) (λ on. apart F.on F.first follows (kind i) on (sym (tells (kind i)) ∙ e))

  advances : Advances F.spells
  advances = law.form.advances some

  all_end : (j : Input) → Ends (form.several F) j → Ends F j × (begins (kind j) ≡ false)
  all_end j end = let n = neither (F.first (kind j)) _ end in (n.1, tells (kind j) ∙ n.0)

  -- a token is taken where an item begins
  takes_one : (i : Input) → begins (kind i) ≡ true → Below i (left i) (p i)
  takes_one i e =
      let placed = law.placed i in
      let short = placed.longest (next i) (takes i (sym (tells (kind i)) ∙ e)) in
      let less = next_left_more i (λ n. let no : true ≡ false = sym e ∙ (ap begins n ∙ (tells k.Nothing ∙ ends_none)) in cc) in
      stops_below i (suc (left i)) (left i) (p i) placed.on (omega arith)

  one_there : (i m : Input) (x : A) → F.spells x i m → Ends F m → optional begins p i ≡ Ok (Some x, m)
  unfolding optional
  one_there i m x h end = rw (starting i m x h, law.complete i m x h end) refl

  one_reached : (i m : Input) (x : A) → F.spells x i m → Reached i (Some x) m (optional begins p i)
  unfolding optional
  one_reached i m x h = rw (starting i m x h) (last p _ i m x (Some x) (lawful_onward F p law) (λ y a. stays _ a) (law.reaches i m x h) (inl refl))

  none_reached : (i : Input) → Reached i None i (optional begins p i)
  unfolding optional
  none_reached i = by (begins (kind i)) refl
    where
      by : (b : Bool) → begins (kind i) ≡ b → Reached i None i (optional_if b p i)
      by true e = inr (step i (left i) (p i) _ (takes_one i e) (λ x a. stays _ a))
      by false e = inl refl

  several_reached : Reaches (several begins p) (Several F.spells)
  unfolding first_and
  several_reached i m [] h = absurd h
  several_reached i m (x ∷ xs) h =
      either p _ i h.0 m x (x ∷ xs) (lawful_onward F p law) (λ x. repeated_onward (optional begins p) (optional_onward p (lawful_onward F p law) begins) (x ∷ [])) (law.reaches i h.0 x h.1) (known xs h.2)
      (repeated_reached (optional begins p) F.spells advances (optional_onward p (lawful_onward F p law) begins) (Ends F) one_there (λ i j x h. again i (starting i j x h)) one_reached none_reached (x ∷ []) xs h.0 m h.2)
    where
      known : (xs : List A) → Chain F.spells xs h.0 m → (h.0 ≡ m) ⊎ (p i ≡ Ok (x, h.0))
      known [] e = inl e
      known (y ∷ ys) g = inr (law.complete i h.0 x h.1 (again h.0 (starting h.0 g.0 y g.1)))

  pub several_read : IsRead (form.several F) (one (several begins p))
  several_read = record {
    rest = record {
      form = several_form F law.form some;
      onward = λ C f on i. step i _ (several begins p i) f (several_onward p (lawful_onward F p law) begins i) on;
      sound = λ C f i j y h. through (several begins p i) f (y, j) h (λ xs m e h. (xs, m, several_sound p F.spells law.sound begins i m xs e, h));
      complete = λ C f i m xs h end. ap (λ o. and_then o f) (whole i m xs h end);
      reached = λ C f on i m n xs y h end r. either (several begins p) f i m n xs y (several_onward p (lawful_onward F p law) begins) on (several_reached i m xs h) (known i m n xs h end) r;
      last = λ C f keeps i. placed C f Nothing (λ j. refl) (first_nothing _) (λ x a. let same = keeps x a in rw same.1 (done same.0 a)) i;
    };
    goes = placed;
  }
    where
      whole : (i m : Input) (xs : List A) → Several F.spells xs i m → Ends (form.several F) m → several begins p i ≡ Ok (xs, m)
      whole i m xs h end = several_complete p F.spells (Ends F) law.complete advances begins starting (λ i j x h. again i (starting i j x h)) i m xs h (all_end m end)

      known : (i m n : Input) (xs : List A) → Several F.spells xs i m → (m ≡ n) ⊎ Ends (form.several F) m → (m ≡ n) ⊎ (several begins p i ≡ Ok (xs, m))
      known i m n xs h (inl e) = inl e
      known i m n xs h (inr end) = inr (whole i m xs h end)

      placed : (C : Type 0) (f : List A → Parser C) (rest : Beginning) → ((j : Input) → rest j j) → First rest (Ends (form.several F)) → ((xs : List A) (a : Input) → Placed rest a (f xs a)) → (i : Input) → Placed (BeginsSeveral F.begins F.spells rest) i (one (several begins p) C f i)
      placed C f rest blank ends more i = several_placed p F.spells F.begins (Ends F) (lawful_piece F p law) rest begins i f advances starting first_so again (λ i m n. at (ends i m n)) more
        where
          at : {i m : Input} → (i ≡ m) ⊎ Ends (form.several F) i → (i ≡ m) ⊎ (Ends F i × (begins (kind i) ≡ false))
          at (inl e) = inl e
          at {i} (inr end) = inr (all_end i end)

-- ---- `{x}`, where the next terminal tells whether an x stands there

module _ {A : Type 0} {F : Form A} {p : Parser A} (law : IsLawful F p) (some : F.empty ≡ false) (begins : Kind → Bool) (nothing : begins k.Nothing ≡ false) where
  abbrev turns : ℕ → List A → Parser (List A)
  turns = repeated_from (optional begins p)

  fewer : (i a : Input) (x : A) → p i ≡ Ok (x, a) → left a < left i
  fewer i a x e = law.form.advances some i a x (law.sound i a x e)

  -- more turns than there are tokens read no more
  enough : (m n : ℕ) (found : List A) (i : Input) → left i ≤ m → left i ≤ n → turns m found i ≡ turns n found i
  unfolding repeated_from optional
  enough zero zero found i a b = refl
  enough zero (suc n) found i a b = ap (λ b. and_then (optional_if b p i) (turn found (turns n))) (sym (ap begins (empty_kind i a) ∙ nothing))
  enough (suc m) zero found i a b = ap (λ b. and_then (optional_if b p i) (turn found (turns m))) (ap begins (empty_kind i b) ∙ nothing)
  enough (suc m) (suc n) found i a b = by (λ x c read. let less = fewer i c x read in enough m n (found ++ x ∷ []) c (omega arith) (omega arith)) (begins (kind i))
    where
      by : ((x : A) (c : Input) → p i ≡ Ok (x, c) → turns m (found ++ x ∷ []) c ≡ turns n (found ++ x ∷ []) c) → (b : Bool) → and_then (optional_if b p i) (turn found (turns m)) ≡ and_then (optional_if b p i) (turn found (turns n))
      by more false = refl
      by more true = sym (in_a_row (p i) (λ x. pure (Some x)) (turn found (turns m))) ∙ alike_where (p i) _ _ more ∙ in_a_row (p i) (λ x. pure (Some x)) (turn found (turns n))

  -- where one stands, `{x}` is read as `{x}+` is
  pub as_several : (i : Input) → begins (kind i) ≡ true → repeated (optional begins p) [] i ≡ several begins p i
  unfolding repeated first_and repeated_from optional
  as_several i e = by (left i) refl
    where
      by : (n : ℕ) → left i ≡ n → turns n [] i ≡ and_then (p i) (λ x. repeated (optional begins p) (x ∷ []))
      by zero count = absurd (let no : true ≡ false = sym e ∙ (ap begins (empty_kind i (omega arith)) ∙ nothing) in cc)
      by (suc n) count =
          ap (λ b. and_then (optional_if b p i) (turn [] (turns n))) e
          ∙ (sym (in_a_row (p i) (λ x. pure (Some x)) (turn [] (turns n)))
          ∙ alike_where (p i) _ _ (λ x a read. let less = fewer i a x read in enough n (left a) (x ∷ []) a (omega arith) (omega arith)))

  -- where none stands, nothing is read
  pub as_none : (i : Input) → begins (kind i) ≡ false → repeated (optional begins p) [] i ≡ Ok ([], i)
  unfolding repeated repeated_from optional
  as_none i e = by (left i)
    where
      by : (n : ℕ) → turns n [] i ≡ Ok ([], i)
      by zero = refl
      by (suc n) = ap (λ b. and_then (optional_if b p i) (turn [] (turns n))) e
