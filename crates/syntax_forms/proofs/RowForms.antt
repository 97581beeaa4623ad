-- Parts in a row, parts that may be missing, alternatives.
use Rattle.std.proofs.Common.{◌≡◌, ◌<◌, Bool, true, false, sym, refl, ap, ◌∙◌, subst, inl, inr, ◌⊎◌, arith}
use Rattle.std.specs.Prelude.{◌&&◌}
use Rattle.estelle_tree.specs.Input.{Input, kind, next, left}
use Rattle.estelle_tree.specs.Beginning.{Beginning, Then}
use Rattle.token_reader.specs.Reader.{Parser}
use Rattle.syntax_forms.specs.Form.{Form, ◌▸◌}
use Rattle.syntax_forms.specs.Reading.{Reading, ◌then◌}
use Rattle.syntax_forms.specs.Onward.{IsOnward}
use Rattle.syntax_forms.proofs.Firsts.{First}
use Rattle.syntax_forms.proofs.KindLaws.{neither, or_left, or_right, when, apart}
use Rattle.syntax_forms.proofs.Steps.{Reached, reach_on}
use Rattle.syntax_forms.proofs.Local.{upto}
use Rattle.syntax_forms.proofs.Lawful.{first_onto, shut_onto, shrinks, IsForm, IsLast, IsRead, Starts, Ends, Follows}

-- ---- the one and then the other

module _ {A B : Type 0} (F : Form A) (G : Form B) (one : IsForm F) (other : IsForm G) where
  pub then_form : IsForm (F ▸ G)
  then_form = record {
    whole = λ i j x h. one.whole_onto G.begins i h.0 j x.0 h.1 (other.whole h.0 j x.1 h.2);
    whole_onto = λ next i m j x h n. one.whole_onto (G.onto next) i h.0 j x.0 h.1 (other.whole_onto next h.0 m j x.1 h.2 n);
    apart = λ next i m b. apart next i m (one.apart (G.onto next) i m b);
    short = λ next i m n b. short next i m n (one.apart G.begins i m b);
    nothing = λ i. one.short G.begins i i (other.nothing i) (one.nothing i);
    shut = shut_onto one G.begins other.nothing other.shut;
    starts = λ i m x h. starts i m x h (one.starts i h.0 x.0 h.1) (other.starts h.0 m x.1 h.2);
    first = λ i m h. first_of i m (first_onto one G.begins i m h);
    reach = λ i m x h. reach_on i h.0 m (one.reach i h.0 x.0 h.1) (other.reach h.0 m x.1 h.2);
    local = λ c i m x h r. (upto c h.0, one.local c i h.0 x.0 h.1 (reach_on h.0 m c (other.reach h.0 m x.1 h.2) r), other.local c h.0 m x.1 h.2 r);
    advances = advances;
  }
    where
      starts : (i m : Input) (x : A × B) (h : (F ▸ G).spells x i m) → ((i ≡ h.0) × (F.empty ≡ true)) ⊎ Starts F i → ((h.0 ≡ m) × (G.empty ≡ true)) ⊎ Starts G h.0 → ((i ≡ m) × ((F ▸ G).empty ≡ true)) ⊎ Starts (F ▸ G) i
      starts i m x h (inr s) b = inr (or_left (F.first (kind i)) _ s)
      starts i m x h (inl a) (inl b) = inl (a.0 ∙ b.0, rw (a.1, b.1) refl)
      starts i m x h (inl a) (inr s) = inr (or_right (F.first (kind i)) _ (rw a.1 (ap (λ j. G.first (kind j)) a.0 ∙ s)))

      first_of : (i m : Input) → (i ≡ m) ⊎ (Starts F i ⊎ ((F.empty ≡ true) × G.begins i m)) → (i ≡ m) ⊎ Starts (F ▸ G) i
      first_of i m (inl e) = inl e
      first_of i m (inr (inl s)) = inr (or_left (F.first (kind i)) _ s)
      first_of i m (inr (inr h)) = by (other.first i m h.1)
        where
          by : (i ≡ m) ⊎ Starts G i → (i ≡ m) ⊎ Starts (F ▸ G) i
          by (inl e) = inl e
          by (inr s) = inr (or_right (F.first (kind i)) _ (rw h.0 s))

      apart : (next : Beginning) (i m : Input) → Then F.begins F.spells (G.onto next) i m → Then (F ▸ G).begins (F ▸ G).spells next i m
      apart next i m (inl b) = inl (one.short G.begins i m (other.nothing m) b)
      apart next i m (inr h) = by (other.apart next h.1 m h.3)
        where
          by : Then G.begins G.spells next h.1 m → Then (F ▸ G).begins (F ▸ G).spells next i m
          by (inl b) = inl (one.whole_onto G.begins i h.1 m h.0 h.2 b)
          by (inr r) = inr ((h.0, r.0), r.1, (h.1, h.2, r.2), r.3)

      short : (next : Beginning) (i m : Input) → next m m → Then F.begins F.spells G.begins i m → F.onto (G.onto next) i m
      short next i m n (inl b) = one.short (G.onto next) i m (other.short next m m n (other.nothing m)) b
      short next i m n (inr h) = one.whole_onto (G.onto next) i h.1 m h.0 h.2 (other.short next h.1 m n h.3)

      advances : (F ▸ G).empty ≡ false → (i m : Input) (x : A × B) → (F ▸ G).spells x i m → left m < left i
      advances some i m x h = by F.empty refl some
        where
          by : (e : Bool) → F.empty ≡ e → (e && G.empty) ≡ false → left m < left i
          by false e some = let a = one.advances e i h.0 x.0 h.1 in let b = shrinks other h.0 m x.1 h.2 in omega arith
          by true e some = let a = shrinks one i h.0 x.0 h.1 in let b = other.advances some h.0 m x.1 h.2 in omega arith

  module _ (s : Reading A) (t : Reading B) (first : IsRead F s) (follows : Follows F G) where
    -- where the other begins, the one ends
    ends_before : (i : Input) → Starts G i → Ends F i
    ends_before i begins = when (F.on (kind i)) (λ goes. apart F.on G.first follows (kind i) goes begins)

    last_ends : (i : Input) → Ends (F ▸ G) i → Ends G i
    last_ends i end = (neither (G.on (kind i)) _ end).0

    skipped : (i : Input) → Ends (F ▸ G) i → G.empty ≡ true → Ends F i
    skipped i end none = let e : (true && F.on (kind i)) ≡ false = rw none at ((neither (G.on (kind i)) (G.empty && F.on (kind i)) end).1) in e

    middle : (m n : Input) (y : B) → G.spells y m n → Ends (F ▸ G) n → Ends F m
    middle m n y h end = by (other.starts m n y h)
      where
        by : ((m ≡ n) × (G.empty ≡ true)) ⊎ Starts G m → Ends F m
        by (inl e) = subst (Ends F) (sym e.0) (skipped n end e.1)
        by (inr begins) = ends_before m begins

    next_ends : (next : Beginning) → First next (Ends (F ▸ G)) → First (G.onto next) (Ends F)
    next_ends next ends i m h = by (first_onto other next i m h)
      where
        at : G.empty ≡ true → (i ≡ m) ⊎ Ends (F ▸ G) i → (i ≡ m) ⊎ Ends F i
        at none (inl e) = inl e
        at none (inr end) = inr (skipped i end none)

        by : (i ≡ m) ⊎ (Starts G i ⊎ ((G.empty ≡ true) × next i m)) → (i ≡ m) ⊎ Ends F i
        by (inl e) = inl e
        by (inr (inl begins)) = inr (ends_before i begins)
        by (inr (inr n)) = at n.0 (ends i m n.1)

    at : {i m : Input} → (i ≡ m) ⊎ Ends (F ▸ G) i → (i ≡ m) ⊎ Ends G i
    at (inl e) = inl e
    at {i} (inr end) = inr (last_ends i end)

    pub then_last : IsLast G t → IsLast (F ▸ G) (s then t)
    then_last second = record {
      form = then_form;
      onward = λ C f on. first.onward C _ (λ x. second.onward C _ (λ y. on (x, y)));
      sound = λ C f i j z h. let a = first.sound C _ i j z h in let b = second.sound C _ a.1 j z a.3 in ((a.0, b.0), b.1, (a.1, a.2, b.2), b.3);
      complete = λ C f i m x h end. first.complete C _ i h.0 x.0 h.1 (middle h.0 m x.1 h.2 end) ∙ second.complete C _ h.0 m x.1 h.2 (last_ends m end);
      reached = reached;
      last = λ C f keeps i. first.goes C _ G.begins other.nothing (begun_ends) (λ x a. second.last C _ (λ y. keeps (x, y)) a) i;
    }
      where
        begun_ends : First G.begins (Ends F)
        begun_ends i m h = by (other.first i m h)
          where
            by : (i ≡ m) ⊎ Starts G i → (i ≡ m) ⊎ Ends F i
            by (inl e) = inl e
            by (inr begins) = inr (ends_before i begins)

        reached : (C : Type 0) (f : A × B → Parser C) → ((x : A × B) → IsOnward (f x)) → (i m n : Input) (x : A × B) (y : C) → (F ▸ G).spells x i m → (m ≡ n) ⊎ Ends (F ▸ G) m → Reached m y n (f x m) → Reached i y n ((s then t) C f i)
        reached C f on i m n x y h end r =
            first.reached C _ (λ x. second.onward C _ (λ y. on (x, y))) i h.0 n x.0 y h.1 (before (other.starts h.0 m x.1 h.2) end)
            (second.reached C _ (λ y. on (x.0, y)) h.0 m n x.1 y h.2 (after_it end) r)
          where
            after_it : (m ≡ n) ⊎ Ends (F ▸ G) m → (m ≡ n) ⊎ Ends G m
            after_it (inl e) = inl e
            after_it (inr end) = inr (last_ends m end)

            before : ((h.0 ≡ m) × (G.empty ≡ true)) ⊎ Starts G h.0 → (m ≡ n) ⊎ Ends (F ▸ G) m → (h.0 ≡ n) ⊎ Ends F h.0
            before (inr begins) end = inr (ends_before h.0 begins)
            before (inl same) (inl e) = inl (same.0 ∙ e)
            before (inl same) (inr end) = inr (subst (Ends F) (sym same.0) (skipped m end same.1))

    pub then_read : IsRead G t → IsRead (F ▸ G) (s then t)
    then_read second = record {
      rest = then_last second.rest;
      goes = λ C f next blank ends more i. first.goes C _ (G.onto next) (λ j. other.short next j j (blank j) (other.nothing j)) (next_ends next ends) (λ x a. second.goes C _ next blank (λ i m n. at (ends i m n)) (λ y. more (x, y)) a) i;
    }
