-- Alternatives, and forms that open a level of nesting.
use Rattle.std.proofs.Common.{subst, ◌≡◌, ◌<◌, ℕ, zero, suc, Bool, true, false, Ok, sym, refl, ap, ◌∙◌, inl, inr, ◌⊎◌, arith}
use Rattle.std.specs.Prelude.{◌==◌, if◌then◌else◌}
use Rattle.std.proofs.lemmas.Bool.{ne_eqb}
use Rattle.estelle_tree.specs.declared.kind.Kind.{Kind}
use Rattle.estelle_tree.specs.declared.kind.Kind.TheVariants as k
use Rattle.estelle_tree.specs.Input.{Input, kind, next, left}
use Rattle.estelle_tree.specs.Beginning.{Beginning, ◌or◌, Then, Opens}
use Rattle.token_reader.specs.Reader.{Parser, expect, refuse, ◌>>=◌}
use Rattle.token_reader.proofs.Sound.{through, expect_sound}
use Rattle.token_reader.proofs.Complete.{takes_advances, expect_complete, unseen}
use Rattle.syntax_forms.specs.Form.{Form, Either, ◌⊕◌, level}
use Rattle.syntax_forms.specs.Kinds.{is, Apart}
use Rattle.syntax_forms.specs.Reading.{Reading, opening, levelled, chosen, choose}
use Rattle.syntax_forms.specs.Onward.{Below, IsOnward}
use Rattle.syntax_forms.specs.Placed.{Placed}
use Rattle.syntax_forms.specs.Places.{Reach}
use Rattle.estelle_tree.proofs.Cuts.{past}
use Rattle.syntax_forms.proofs.Prefixes as prefixes
use Rattle.syntax_forms.proofs.Local.{upto, upto_takes}
use Rattle.syntax_forms.proofs.Firsts.{First}
use Rattle.syntax_forms.proofs.KindLaws.{it_is, not_is, neither, or_left, or_right, when, apart}
use Rattle.syntax_forms.proofs.Steps.{Reached, reach_on, exact, step, expects, refuses}
use Rattle.syntax_forms.proofs.Placing.{left_of, right_of, opened, expected, no_room}
use Rattle.syntax_forms.proofs.Lawful.{first_onto, shrinks, IsForm, IsLast, IsRead, Starts, Ends, Got, Keeps}

-- ---- the one or the other

module _ {A B : Type 0} (F : Form A) (G : Form B) (one : IsForm F) (other : IsForm G) where
  starts_left : {i m : Input} → ((i ≡ m) × (F.empty ≡ true)) ⊎ Starts F i → ((i ≡ m) × ((F ⊕ G).empty ≡ true)) ⊎ Starts (F ⊕ G) i
  starts_left (inl e) = inl (e.0, or_left F.empty _ e.1)
  starts_left {i} (inr s) = inr (or_left (F.first (kind i)) _ s)

  starts_right : {i m : Input} → ((i ≡ m) × (G.empty ≡ true)) ⊎ Starts G i → ((i ≡ m) × ((F ⊕ G).empty ≡ true)) ⊎ Starts (F ⊕ G) i
  starts_right (inl e) = inl (e.0, or_right F.empty _ e.1)
  starts_right {i} (inr s) = inr (or_right (F.first (kind i)) _ s)

  pub choice_form : IsForm (F ⊕ G)
  choice_form = record {
    whole = whole;
    whole_onto = onto;
    apart = apart;
    short = short;
    nothing = λ i. inl (one.nothing i);
    shut = prefixes.choice one.shut other.shut;
    starts = starts;
    first = first;
    reach = reach;
    advances = advances;
    local = local;
  }
    where
      whole : (i j : Input) (x : A ⊎ B) → Either F.spells G.spells x i j → (F.begins or G.begins) i j
      whole i j (inl x) h = inl (one.whole i j x h)
      whole i j (inr y) h = inr (other.whole i j y h)

      onto : (next : Beginning) (i m j : Input) (x : A ⊎ B) → Either F.spells G.spells x i m → next m j → (F.onto next or G.onto next) i j
      onto next i m j (inl x) h n = inl (one.whole_onto next i m j x h n)
      onto next i m j (inr y) h n = inr (other.whole_onto next i m j y h n)

      starts : (i m : Input) (x : A ⊎ B) → Either F.spells G.spells x i m → ((i ≡ m) × ((F ⊕ G).empty ≡ true)) ⊎ Starts (F ⊕ G) i
      starts i m (inl x) h = starts_left (one.starts i m x h)
      starts i m (inr y) h = starts_right (other.starts i m y h)

      first : (i m : Input) → (F.begins or G.begins) i m → (i ≡ m) ⊎ Starts (F ⊕ G) i
      first i m (inl b) = by (one.first i m b)
        where
          by : (i ≡ m) ⊎ Starts F i → (i ≡ m) ⊎ Starts (F ⊕ G) i
          by (inl e) = inl e
          by (inr s) = inr (or_left (F.first (kind i)) _ s)
      first i m (inr b) = by (other.first i m b)
        where
          by : (i ≡ m) ⊎ Starts G i → (i ≡ m) ⊎ Starts (F ⊕ G) i
          by (inl e) = inl e
          by (inr s) = inr (or_right (F.first (kind i)) _ s)

      of_one : (next : Beginning) (i m : Input) → Then F.begins F.spells next i m → Then (F ⊕ G).begins (F ⊕ G).spells next i m
      of_one next i m (inl b) = inl (inl b)
      of_one next i m (inr h) = inr (inl h.0, h.1, h.2, h.3)

      of_other : (next : Beginning) (i m : Input) → Then G.begins G.spells next i m → Then (F ⊕ G).begins (F ⊕ G).spells next i m
      of_other next i m (inl b) = inl (inr b)
      of_other next i m (inr h) = inr (inr h.0, h.1, h.2, h.3)

      apart : (next : Beginning) (i m : Input) → (F.onto next or G.onto next) i m → Then (F ⊕ G).begins (F ⊕ G).spells next i m
      apart next i m (inl b) = of_one next i m (one.apart next i m b)
      apart next i m (inr b) = of_other next i m (other.apart next i m b)

      short : (next : Beginning) (i m : Input) → next m m → (F ⊕ G).begins i m → (F ⊕ G).onto next i m
      short next i m n (inl b) = inl (one.short next i m n b)
      short next i m n (inr b) = inr (other.short next i m n b)

      reach : (i j : Input) (x : A ⊎ B) → Either F.spells G.spells x i j → Reach i j
      reach i j (inl x) h = one.reach i j x h
      reach i j (inr y) h = other.reach i j y h

      local : (c i m : Input) (x : A ⊎ B) → Either F.spells G.spells x i m → Reach m c → Either F.spells G.spells x (upto c i) (upto c m)
      local c i m (inl x) h r = one.local c i m x h r
      local c i m (inr y) h r = other.local c i m y h r

      advances : (F ⊕ G).empty ≡ false → (i j : Input) (x : A ⊎ B) → Either F.spells G.spells x i j → left j < left i
      advances some i j (inl x) h = one.advances (neither F.empty _ some).0 i j x h
      advances some i j (inr y) h = other.advances (neither F.empty _ some).1 i j y h

  -- neither is spelled by nothing, and their first terminals differ
  module _ (s : Reading A) (t : Reading B) (some : (F ⊕ G).empty ≡ false) (differ : Apart F.first G.first) where
    begins_one : (i m : Input) (x : A) → F.spells x i m → Starts F i
    begins_one i m x h = by (one.starts i m x h)
      where
        by : ((i ≡ m) × (F.empty ≡ true)) ⊎ Starts F i → Starts F i
        by (inl e) = absurd (let no : true ≡ false = sym e.1 ∙ (neither F.empty _ some).0 in cc)
        by (inr s) = s

    begins_other : (i m : Input) (y : B) → G.spells y i m → F.first (kind i) ≡ false
    begins_other i m y h = by (other.starts i m y h)
      where
        by : ((i ≡ m) × (G.empty ≡ true)) ⊎ Starts G i → F.first (kind i) ≡ false
        by (inl e) = absurd (let no : true ≡ false = sym e.1 ∙ (neither F.empty _ some).1 in cc)
        by (inr s) = when (F.first (kind i)) (λ is. apart F.first G.first differ (kind i) is s)

    takes_one : (C : Type 0) (f : A ⊎ B → Parser C) (i : Input) → Starts F i → choose F.first s t C f i ≡ s C (λ x. f (inl x)) i
    takes_one C f i e = rw e refl

    takes_other : (C : Type 0) (f : A ⊎ B → Parser C) (i : Input) → F.first (kind i) ≡ false → choose F.first s t C f i ≡ t C (λ y. f (inr y)) i
    takes_other C f i e = rw e refl

    -- where the one stands, the other begins nothing
    no_other : (i m : Input) → Starts F i → (i ≡ m) ⊎ Starts G i → i ≡ m
    no_other i m e (inl same) = same
    no_other i m e (inr is) = absurd (apart F.first G.first differ (kind i) e is)

    no_one : (i m : Input) → F.first (kind i) ≡ false → (i ≡ m) ⊎ Starts F i → i ≡ m
    no_one i m e (inl same) = same
    no_one i m e (inr is) = absurd (let no : true ≡ false = sym is ∙ e in cc)

    pub choice_last : IsLast F s → IsLast G t → IsLast (F ⊕ G) (choose F.first s t)
    choice_last first second = record {
      form = choice_form;
      onward = onward;
      sound = sound;
      complete = complete;
      reached = reached;
      last = last;
    }
      where
        onward : (C : Type 0) (f : A ⊎ B → Parser C) → ((x : A ⊎ B) → IsOnward (f x)) → IsOnward (choose F.first s t C f)
        onward C f on i = by (F.first (kind i))
          where
            by : (b : Bool) → Below i (suc (left i)) (chosen b (s C (λ x. f (inl x))) (t C (λ y. f (inr y))) i)
            by true = first.onward C _ (λ x. on (inl x)) i
            by false = second.onward C _ (λ y. on (inr y)) i

        sound : (C : Type 0) (f : A ⊎ B → Parser C) (i j : Input) (z : C) → choose F.first s t C f i ≡ Ok (z, j) → Got (Either F.spells G.spells) f i j z
        sound C f i j z h = by (F.first (kind i)) h
          where
            by : (b : Bool) → chosen b (s C (λ x. f (inl x))) (t C (λ y. f (inr y))) i ≡ Ok (z, j) → Got (Either F.spells G.spells) f i j z
            by true h = let g = first.sound C _ i j z h in (inl g.0, g.1, g.2, g.3)
            by false h = let g = second.sound C _ i j z h in (inr g.0, g.1, g.2, g.3)

        complete : (C : Type 0) (f : A ⊎ B → Parser C) (i m : Input) (x : A ⊎ B) → Either F.spells G.spells x i m → Ends (F ⊕ G) m → choose F.first s t C f i ≡ f x m
        complete C f i m (inl x) h end = takes_one C f i (begins_one i m x h) ∙ first.complete C _ i m x h (neither (F.on (kind m)) _ end).0
        complete C f i m (inr y) h end = takes_other C f i (begins_other i m y h) ∙ second.complete C _ i m y h (neither (F.on (kind m)) _ end).1

        reached : (C : Type 0) (f : A ⊎ B → Parser C) → ((x : A ⊎ B) → IsOnward (f x)) → (i m n : Input) (x : A ⊎ B) (y : C) → Either F.spells G.spells x i m → (m ≡ n) ⊎ Ends (F ⊕ G) m → Reached m y n (f x m) → Reached i y n (choose F.first s t C f i)
        reached C f on i m n (inl x) y h end r = rw (begins_one i m x h) (first.reached C _ (λ x. on (inl x)) i m n x y h (by end) r)
          where
            by : (m ≡ n) ⊎ Ends (F ⊕ G) m → (m ≡ n) ⊎ Ends F m
            by (inl e) = inl e
            by (inr end) = inr (neither (F.on (kind m)) _ end).0
        reached C f on i m n (inr x) y h end r = rw (begins_other i m x h) (second.reached C _ (λ x. on (inr x)) i m n x y h (by end) r)
          where
            by : (m ≡ n) ⊎ Ends (F ⊕ G) m → (m ≡ n) ⊎ Ends G m
            by (inl e) = inl e
            by (inr end) = inr (neither (F.on (kind m)) _ end).1

        last : (C : Type 0) (f : A ⊎ B → Parser C) → Keeps f → (i : Input) → Placed (F.begins or G.begins) i (choose F.first s t C f i)
        last C f keeps i = by (F.first (kind i)) refl
          where
            by : (b : Bool) → F.first (kind i) ≡ b → Placed (F.begins or G.begins) i (chosen b (s C (λ x. f (inl x))) (t C (λ y. f (inr y))) i)
            by true e = left_of F.begins G.begins i _ (first.last C _ (λ x. keeps (inl x)) i) (λ m h. no_other i m e (other.first i m h))
            by false e = right_of F.begins G.begins i _ (second.last C _ (λ y. keeps (inr y)) i) (λ m h. no_one i m e (one.first i m h))

    pub choice_read : IsRead F s → IsRead G t → IsRead (F ⊕ G) (choose F.first s t)
    choice_read first second = record { rest = choice_last first.rest second.rest; goes = goes }
      where
        goes : (C : Type 0) (f : A ⊎ B → Parser C) (next : Beginning) → ((j : Input) → next j j) → First next (Ends (F ⊕ G)) → ((x : A ⊎ B) (a : Input) → Placed next a (f x a)) → (i : Input) → Placed (F.onto next or G.onto next) i (choose F.first s t C f i)
        goes C f next blank ends more i = by (F.first (kind i)) refl
          where
            fore : (i m : Input) → (i ≡ m) ⊎ Ends (F ⊕ G) i → (i ≡ m) ⊎ Ends F i
            fore i m (inl e) = inl e
            fore i m (inr end) = inr (neither (F.on (kind i)) _ end).0

            back : (i m : Input) → (i ≡ m) ⊎ Ends (F ⊕ G) i → (i ≡ m) ⊎ Ends G i
            back i m (inl e) = inl e
            back i m (inr end) = inr (neither (F.on (kind i)) _ end).1

            no_next : F.empty ≡ false → (m : Input) → (i ≡ m) ⊎ (Starts F i ⊎ ((F.empty ≡ true) × next i m)) → (i ≡ m) ⊎ Starts F i
            no_next some m (inl e) = inl e
            no_next some m (inr (inl s)) = inr s
            no_next some m (inr (inr n)) = absurd (let no : true ≡ false = sym n.0 ∙ some in cc)

            no_more : G.empty ≡ false → (m : Input) → (i ≡ m) ⊎ (Starts G i ⊎ ((G.empty ≡ true) × next i m)) → (i ≡ m) ⊎ Starts G i
            no_more some m (inl e) = inl e
            no_more some m (inr (inl s)) = inr s
            no_more some m (inr (inr n)) = absurd (let no : true ≡ false = sym n.0 ∙ some in cc)

            by : (b : Bool) → F.first (kind i) ≡ b → Placed (F.onto next or G.onto next) i (chosen b (s C (λ x. f (inl x))) (t C (λ y. f (inr y))) i)
            by true e = left_of (F.onto next) (G.onto next) i _ (first.goes C _ next blank (λ i m n. fore i m (ends i m n)) (λ x. more (inl x)) i) (λ m h. no_other i m e (no_more (neither F.empty _ some).1 m (first_onto other next i m h)))
            by false e = right_of (F.onto next) (G.onto next) i _ (second.goes C _ next blank (λ i m n. back i m (ends i m n)) (λ y. more (inr y)) i) (λ m h. no_one i m e (no_next (neither F.empty _ some).0 m (first_onto one next i m h)))

-- ---- `k x`, where k opens a level of nesting

pub some_room : (room : ℕ) → 0 < room → (room == 0) ≡ false
some_room room fits = ne_eqb room 0 (λ e. omega arith)

pub has_room : (room : ℕ) → (room == 0) ≡ false → 0 < room
has_room zero e = absurd (cc)
has_room (suc room) e = omega arith

module _ {A : Type 0} (room : ℕ) (kind' : Kind) (F : Form A) (form : IsForm F) where
  pub level_form : is kind' k.Nothing ≡ false → IsForm (level room kind' F)
  level_form is_token = record {
    whole = λ i j x h. inr (h.0, (h.1.0, h.1.1, form.whole h.1.0 j x h.1.2));
    whole_onto = λ next i m j x h n. inr (h.0, (h.1.0, h.1.1, form.whole_onto next h.1.0 m j x h.1.2 n));
    apart = apart;
    short = short;
    nothing = λ i. inl refl;
    shut = prefixes.opens room kind' form.shut;
    starts = λ i m x h. inr (it_is kind' (kind i) h.1.1.kind);
    first = λ i m h. first F.begins i m h;
    reach = λ i m x h. reach_on i h.1.0 m (1, h.1.1.next) (form.reach h.1.0 m x h.1.2);
    local = λ c i m x h r. (h.0, (upto c h.1.0, upto_takes c kind' i h.1.0 (not_is kind' k.Nothing is_token) h.1.1 (reach_on h.1.0 m c (form.reach h.1.0 m x h.1.2) r), form.local c h.1.0 m x h.1.2 r));
    advances = λ e i m x h. let a = takes_advances kind' (not_is kind' k.Nothing is_token) i h.1.0 h.1.1 in let b = shrinks form h.1.0 m x h.1.2 in omega arith;
  }
    where
      first : (rest : Beginning) (i m : Input) → Opens room kind' rest i m → (i ≡ m) ⊎ (is kind' (kind i) ≡ true)
      first rest i m (inl e) = inl e
      first rest i m (inr h) = inr (it_is kind' (kind i) h.1.1.kind)

      apart : (next : Beginning) (i m : Input) → Opens room kind' (F.onto next) i m → Then (Opens room kind' F.begins) (level room kind' F).spells next i m
      apart next i m (inl e) = inl (inl e)
      apart next i m (inr h) = by (form.apart next h.1.0 m h.1.2)
        where
          by : Then F.begins F.spells next h.1.0 m → Then (Opens room kind' F.begins) (level room kind' F).spells next i m
          by (inl b) = inl (inr (h.0, (h.1.0, h.1.1, b)))
          by (inr r) = inr (r.0, r.1, (h.0, (h.1.0, h.1.1, r.2)), r.3)

      short : (next : Beginning) (i m : Input) → next m m → Opens room kind' F.begins i m → Opens room kind' (F.onto next) i m
      short next i m n (inl e) = inl e
      short next i m n (inr h) = inr (h.0, (h.1.0, h.1.1, form.short next h.1.0 m n h.1.2))

  module _ (s : Reading A) (is_token : is kind' k.Nothing ≡ false) where
    levels : (C : Type 0) (f : A → Parser C) (rest : Beginning) → ((i : Input) → Placed rest i (s C f i)) → (i : Input) → Placed (Opens room kind' rest) i (levelled room kind' s C f i)
    levels C f rest placed i = by room refl
      where
        by : (r : ℕ) → room ≡ r → Placed (Opens r kind' rest) i (opening r (expect kind' >>= λ _. s C f) i)
        by zero e = no_room kind' rest i
        by (suc r) e = rw (some_room (suc r) (omega arith)) (opened (suc r) kind' rest i _ (omega arith) (expected kind' rest i (λ u. s C f) (λ a t. placed a)))

    pub level_last : IsLast F s → IsLast (level room kind' F) (levelled room kind' s)
    level_last read = record {
      form = level_form is_token;
      onward = onward;
      sound = sound;
      complete = λ C f i m x h end. rw (some_room room h.0, expect_complete kind' i h.1.0 h.1.1, read.complete C f h.1.0 m x h.1.2 end) refl;
      reached = λ C f on i m n x y h end r. rw (some_room room h.0)
          (exact (expect kind') (λ u. s C f) i h.1.0 n tt y (expects kind') (expect_complete kind' i h.1.0 h.1.1) (read.reached C f on h.1.0 m n x y h.1.2 end r));
      last = λ C f keeps. levels C f F.begins (read.last C f keeps);
    }
      where
        onward : (C : Type 0) (f : A → Parser C) → ((x : A) → IsOnward (f x)) → IsOnward (levelled room kind' s C f)
        onward C f on i = by (room == 0)
          where
            by : (b : Bool) → Below i (suc (left i)) ((if b then refuse else (expect kind' >>= λ _. s C f)) i)
            by true = refuses i
            by false = step i _ (expect kind' i) (λ u. s C f) (expects kind' i) (λ u. read.onward C f on)

        sound : (C : Type 0) (f : A → Parser C) (i j : Input) (y : C) → levelled room kind' s C f i ≡ Ok (y, j) → Got (level room kind' F).spells f i j y
        sound C f i j y h = by (room == 0) refl h
          where
            by : (b : Bool) → (room == 0) ≡ b → (if b then refuse else (expect kind' >>= λ _. s C f)) i ≡ Ok (y, j) → Got (level room kind' F).spells f i j y
            by true e h = absurd (cc)
            by false e h = through (expect kind' i) (λ u. s C f) (y, j) h (λ u a t h. let g = read.sound C f a j y h in (g.0, g.1, (has_room room e, (a, expect_sound kind' i a u t, g.2)), g.3))

    pub level_read : IsRead F s → IsRead (level room kind' F) (levelled room kind' s)
    level_read read = record { rest = level_last read.rest; goes = λ C f next blank ends more. levels C f (F.onto next) (read.goes C f next blank ends more) }

-- where no level may open, nothing is read
level_never : {A : Type 0} (kind' : Kind) (F : Form A) (s : Reading A) → IsLast (level zero kind' F) (levelled zero kind' s)
level_never kind' F s = record {
  form = record {
    whole = λ i j x h. absurd (none h.0);
    whole_onto = λ next i m j x h n. absurd (none h.0);
    apart = λ next i m b. inl (inl (first (F.onto next) i m b));
    short = λ next i m n b. inl (first F.begins i m b);
    nothing = λ i. inl refl;
    shut = λ i j c b r. past (subst (λ i. Reach i c) (first F.begins i j b) r);
    starts = λ i m x h. absurd (none h.0);
    first = λ i m b. inl (first F.begins i m b);
    reach = λ i m x h. absurd (none h.0);
    advances = λ e i m x h. absurd (none h.0);
    local = λ c i m x h r. absurd (none h.0);
  };
  onward = λ C f on i. refuses i;
  sound = λ C f i j y h. absurd (cc);
  complete = λ C f i m x h end. absurd (none h.0);
  reached = λ C f on i m n x y h end r. absurd (none h.0);
  last = λ C f keeps i. no_room kind' F.begins i;
}
  where
    none : 0 < zero → ⊥
    none fits = omega arith

    first : (rest : Beginning) (i m : Input) → Opens zero kind' rest i m → i ≡ m
    first rest i m (inl e) = e
    first rest i m (inr h) = absurd (none h.0)

-- its law is needed only where a level may open
pub level_where : {A : Type 0} {F : Form A} {s : Reading A} (room : ℕ) (kind' : Kind) → is kind' k.Nothing ≡ false → (0 < room → IsLast F s) → IsLast (level room kind' F) (levelled room kind' s)
level_where {F = F} {s = s} zero kind' is_token read = level_never kind' F s
level_where {F = F} {s = s} (suc room) kind' is_token read = let law : IsLast F s = read (omega arith) in level_last (suc room) kind' F law.form s is_token law

-- another terminal comes, and is refused
pub level_refused : {A C : Type 0} (room : ℕ) (kind' : Kind) (s : Reading A) (f : A → Parser C) (i : Input) → (kind i ≡ kind' → ⊥) → levelled room kind' s C f i ≡ refuse i
unfolding expect
level_refused {C = C} room kind' s f i differs = by (room == 0)
  where
    by : (b : Bool) → (if b then refuse else (expect kind' >>= λ _. s C f)) i ≡ refuse i
    by true = refl
    by false = rw (unseen kind' i differs) refl

-- the test tells which of the two it is
pub chosen_one : {A B C : Type 0} (begins : Kind → Bool) (s : Reading A) (t : Reading B) (f : A ⊎ B → Parser C) (i : Input) → begins (kind i) ≡ true → choose begins s t C f i ≡ s C (λ x. f (inl x)) i
chosen_one {C = C} begins s t f i e = ap (λ b. chosen b (s C (λ x. f (inl x))) (t C (λ y. f (inr y))) i) e

pub chosen_other : {A B C : Type 0} (begins : Kind → Bool) (s : Reading A) (t : Reading B) (f : A ⊎ B → Parser C) (i : Input) → begins (kind i) ≡ false → choose begins s t C f i ≡ t C (λ y. f (inr y)) i
chosen_other {C = C} begins s t f i e = ap (λ b. chosen b (s C (λ x. f (inl x))) (t C (λ y. f (inr y))) i) e
