-- Alternatives that begin alike: the token behind the first one tells.
use Rattle.std.proofs.Common.{◌≡◌, suc, Bool, true, false, Ok, sym, refl, ap, ◌∙◌, subst, inl, inr, ◌⊎◌}
use Rattle.std.specs.Prelude.{◌&&◌, not}
use Rattle.estelle_tree.specs.declared.kind.Kind.{Kind}
use Rattle.estelle_tree.specs.Input.{Input, kind, next, left}
use Rattle.estelle_tree.specs.Beginning.{◌or◌}
use Rattle.token_reader.specs.Reader.{Parser, ReadResult}
use Rattle.syntax_forms.specs.Form.{Form, Either, unless}
use Rattle.syntax_forms.specs.Reading.{Reading, chosen, looked}
use Rattle.syntax_forms.specs.Onward.{Below, IsOnward}
use Rattle.syntax_forms.specs.Placed.{Placed}
use Rattle.syntax_forms.proofs.KindLaws.{neither, when}
use Rattle.syntax_forms.proofs.Steps.{Reached}
use Rattle.syntax_forms.proofs.Placing.{right_of, covered_left, covered_right}
use Rattle.syntax_forms.proofs.ChoiceForms.{choice_form}
use Rattle.syntax_forms.proofs.Lawful.{begins_so, IsForm, IsLast, Starts, Ends, Got, Keeps}

module _ {A B : Type 0} (ahead : Kind → Bool) (F : Form A) (G : Form B) (one : IsForm F) (other : IsForm G) where
  pub unless_form : IsForm (unless ahead F G)
  unless_form = let c = choice_form F G one other in record {
    whole = c.whole;
    whole_onto = c.whole_onto;
    apart = c.apart;
    short = c.short;
    nothing = c.nothing;
    shut = c.shut;
    starts = c.starts;
    first = c.first;
    reach = c.reach;
    advances = c.advances;
    local = c.local;
  }

  -- Where both can stand: the one is a token alone if such a terminal comes behind it, and the other needs that
  -- terminal. What begins the one there begins the other, and without that terminal the other way round.
  pub record IsAhead (t : Reading B) : Type 1 where
    pub alone : (i m : Input) (x : A) → F.spells x i m → ahead (kind (next i)) ≡ true → next i ≡ m
    pub needs : (i m : Input) (y : B) → Starts F i → G.spells y i m → ahead (kind (next i)) ≡ true
    pub passes : (C : Type 0) (f : B → Parser C) → ((y : B) → IsOnward (f y)) → (i : Input) → Starts F i → ahead (kind (next i)) ≡ true → Below i (left (next i)) (t C f i)
    pub covers : (i m : Input) → Starts F i → ahead (kind (next i)) ≡ true → F.begins i m → G.begins i m
    pub only : (i m : Input) → Starts F i → ahead (kind (next i)) ≡ false → G.begins i m → F.begins i m

  module _ (s : Reading A) (t : Reading B) (some : F.empty ≡ false) (first : IsLast F s) (second : IsLast G t) (told : IsAhead t) where
    starts : (i m : Input) (x : A) → F.spells x i m → Starts F i
    starts = begins_so F one some

    -- how the two tests come out
    here : (C : Type 0) (f : A ⊎ B → Parser C) (i : Input) → Starts F i → ahead (kind (next i)) ≡ false → looked ahead F.first s t C f i ≡ s C (λ x. f (inl x)) i
    here C f i e n = rw (e, n) refl

    there : (C : Type 0) (f : A ⊎ B → Parser C) (i : Input) → (Starts F i → ahead (kind (next i)) ≡ true) → looked ahead F.first s t C f i ≡ t C (λ y. f (inr y)) i
    there C f i so = by (F.first (kind i)) refl
      where
        by : (b : Bool) → F.first (kind i) ≡ b → chosen (b && not (ahead (kind (next i)))) (s C (λ x. f (inl x))) (t C (λ y. f (inr y))) i ≡ t C (λ y. f (inr y)) i
        by true e = rw (so e) refl
        by false e = refl

    pub unless_last : IsLast (unless ahead F G) (looked ahead F.first s t)
    unless_last = record { form = unless_form; onward = onward; sound = sound; complete = complete; reached = reached; last = last }
      where
        onward : (C : Type 0) (f : A ⊎ B → Parser C) → ((x : A ⊎ B) → IsOnward (f x)) → IsOnward (looked ahead F.first s t C f)
        onward C f on i = by (F.first (kind i) && not (ahead (kind (next i))))
          where
            by : (b : Bool) → Below i (suc (left i)) (chosen b (s C (λ x. f (inl x))) (t C (λ y. f (inr y))) i)
            by true = first.onward C _ (λ x. on (inl x)) i
            by false = second.onward C _ (λ y. on (inr y)) i

        sound : (C : Type 0) (f : A ⊎ B → Parser C) (i j : Input) (z : C) → looked ahead F.first s t C f i ≡ Ok (z, j) → Got (Either F.spells G.spells) f i j z
        sound C f i j z h = by (F.first (kind i) && not (ahead (kind (next i)))) h
          where
            by : (b : Bool) → chosen b (s C (λ x. f (inl x))) (t C (λ y. f (inr y))) i ≡ Ok (z, j) → Got (Either F.spells G.spells) f i j z
            by true h = let g = first.sound C _ i j z h in (inl g.0, g.1, g.2, g.3)
            by false h = let g = second.sound C _ i j z h in (inr g.0, g.1, g.2, g.3)

        -- where the one ends, no such terminal stands behind its first token
        not_ahead : (i m : Input) (x : A) → F.spells x i m → ahead (kind m) ≡ false → ahead (kind (next i)) ≡ false
        not_ahead i m x h end = when (ahead (kind (next i))) (λ e. let no : true ≡ false = sym e ∙ (ap (λ j. ahead (kind j)) (told.alone i m x h e) ∙ end) in cc)

        complete : (C : Type 0) (f : A ⊎ B → Parser C) (i m : Input) (x : A ⊎ B) → Either F.spells G.spells x i m → Ends (unless ahead F G) m → looked ahead F.first s t C f i ≡ f x m
        complete C f i m (inl x) h end =
            let n = neither (ahead (kind m)) _ end in
            here C f i (starts i m x h) (not_ahead i m x h n.0) ∙ first.complete C _ i m x h (neither (F.on (kind m)) _ n.1).0
        complete C f i m (inr y) h end = there C f i (λ e. told.needs i m y e h) ∙ second.complete C _ i m y h (neither (F.on (kind m)) _ (neither (ahead (kind m)) _ end).1).1

        reached : (C : Type 0) (f : A ⊎ B → Parser C) → ((x : A ⊎ B) → IsOnward (f x)) → (i m n : Input) (x : A ⊎ B) (z : C) → Either F.spells G.spells x i m → (m ≡ n) ⊎ Ends (unless ahead F G) m → Reached m z n (f x m) → Reached i z n (looked ahead F.first s t C f i)
        reached C f on i m n (inr y) z h end r = subst (λ o. Reached i z n o) (sym (there C f i (λ e. told.needs i m y e h))) (second.reached C _ (λ y. on (inr y)) i m n y z h (by end) r)
          where
            by : (m ≡ n) ⊎ Ends (unless ahead F G) m → (m ≡ n) ⊎ Ends G m
            by (inl e) = inl e
            by (inr end) = inr (neither (F.on (kind m)) _ (neither (ahead (kind m)) _ end).1).1
        reached C f on i m n (inl x) z h end r = by (ahead (kind (next i))) refl end
          where
            fore : (m ≡ n) ⊎ Ends (unless ahead F G) m → (m ≡ n) ⊎ Ends F m
            fore (inl e) = inl e
            fore (inr end) = inr (neither (F.on (kind m)) _ (neither (ahead (kind m)) _ end).1).0

            by : (b : Bool) → ahead (kind (next i)) ≡ b → (m ≡ n) ⊎ Ends (unless ahead F G) m → Reached i z n (looked ahead F.first s t C f i)
            by false e end = subst (λ o. Reached i z n o) (sym (here C f i (starts i m x h) e)) (first.reached C _ (λ x. on (inl x)) i m n x z h (fore end) r)
            by true e (inl same) =
                let b = told.passes C (λ y. f (inr y)) (λ y. on (inr y)) i (starts i m x h) e in
                inr (subst (λ (o : ReadResult C). Below i (left n) o) (sym (there C f i (λ s. e))) (subst (λ m. Below i (left m) (t C (λ y. f (inr y)) i)) (told.alone i m x h e ∙ same) b))
            by true e (inr end) = absurd (let no : true ≡ false = sym e ∙ not_ahead i m x h (neither (ahead (kind m)) _ end).0 in cc)

        last : (C : Type 0) (f : A ⊎ B → Parser C) → Keeps f → (i : Input) → Placed (F.begins or G.begins) i (looked ahead F.first s t C f i)
        last C f keeps i = by (F.first (kind i)) refl (ahead (kind (next i))) refl
          where
            none : F.first (kind i) ≡ false → (m : Input) → (i ≡ m) ⊎ Starts F i → i ≡ m
            none e m (inl same) = same
            none e m (inr is) = absurd (let no : true ≡ false = sym is ∙ e in cc)

            by : (b : Bool) → F.first (kind i) ≡ b → (c : Bool) → ahead (kind (next i)) ≡ c → Placed (F.begins or G.begins) i (chosen (b && not c) (s C (λ x. f (inl x))) (t C (λ y. f (inr y))) i)
            by true e false n = covered_right F.begins G.begins i _ (λ m h. told.only i m e n h) (first.last C _ (λ x. keeps (inl x)) i)
            by true e true n = covered_left F.begins G.begins i _ (λ m h. told.covers i m e n h) (second.last C _ (λ y. keeps (inr y)) i)
            by false e c n = right_of F.begins G.begins i _ (second.last C _ (λ y. keeps (inr y)) i) (λ m h. none e m (one.first i m h))
