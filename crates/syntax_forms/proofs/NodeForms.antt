-- Nodes, which are made of their parts and their span, and nodes as parts.
use Rattle.std.proofs.Common.{◌≡◌, ◌<◌, Bool, true, false, Ok, Err, sym, refl, ap, ◌∙◌, subst, inl, inr, ◌⊎◌}
use Rattle.std.specs.Prelude.{not, ◌||◌}
use Rattle.estelle_tree.specs.declared.kind.Kind.{Kind}
use Rattle.estelle_tree.specs.declared.span.Span.{Span}
use Rattle.estelle_tree.specs.Input.{Input, kind, left, between}
use Rattle.estelle_tree.specs.Spelling.{Spelling}
use Rattle.estelle_tree.specs.Beginning.{Beginning, Nothing}
use Rattle.token_reader.specs.Reader.{Parser, ReadResult, and_then, refuse, refusal}
use Rattle.token_reader.proofs.Sound.{Sound, through, answered}
use Rattle.token_reader.proofs.Complete.{Complete}
use Rattle.syntax_forms.specs.Form.{Form, part, node, begun, going, known}
use Rattle.syntax_forms.specs.Kinds.{of_all}
use Rattle.syntax_forms.specs.Reading.{Reading, one}
use Rattle.syntax_forms.specs.Onward.{IsOnward}
use Rattle.syntax_forms.specs.Placed.{Placed}
use Rattle.syntax_forms.specs.Places.{Reach}
use Rattle.syntax_forms.proofs.Prefixes as prefixes
use Rattle.syntax_forms.proofs.Prefixes.{Shut}
use Rattle.syntax_forms.proofs.KindLaws.{within, ends_by}
use Rattle.syntax_forms.proofs.Local.{upto}
use Rattle.syntax_forms.proofs.Firsts.{First}
use Rattle.syntax_forms.proofs.Steps.{Reached, Reaches, step, stays, either}
use Rattle.syntax_forms.proofs.Placing.{Piece, kept, followed, refused, same as same_pieces}
use Rattle.syntax_forms.proofs.Lawful.{IsForm, IsLast, IsRead, IsLawful, Ends, Starts}

-- ---- a part that a parser of its own reads

module _ {A : Type 0} (F : Form A) (form : IsForm F) where
  pub part_form : IsForm (part F)
  part_form = record {
    whole = form.whole;
    whole_onto = λ next i m j x h n. inr (x, m, h, n);
    apart = λ next i m b. b;
    short = λ next i m n b. inl b;
    nothing = form.nothing;
    shut = form.shut;
    starts = form.starts;
    first = form.first;
    reach = form.reach;
    advances = form.advances;
    local = form.local;
  }

module _ {A : Type 0} (F : Form A) (p : Parser A) (law : IsLawful F p) where
  pub lawful_piece : Piece p F.spells F.begins (Ends F)
  lawful_piece = record { placed = law.placed; sound = law.sound; complete = law.complete; whole = law.form.whole }

  pub lawful_onward : IsOnward p
  lawful_onward i = (law.placed i).on

  pub part_read : IsRead (part F) (one p)
  part_read = record {
    rest = record {
      form = part_form F law.form;
      onward = λ C f on i. step i _ (p i) f (lawful_onward i) on;
      sound = λ C f i j y h. through (p i) f (y, j) h (λ x m e h. (x, m, law.sound i m x e, h));
      complete = λ C f i m x h end. ap (λ o. and_then o f) (law.complete i m x h end);
      reached = λ C f on i m n x y h end r. either p f i m n x y lawful_onward on (law.reaches i m x h) (known i m n x h end) r;
      last = λ C f keeps i. kept F.begins i (p i) f (law.placed i) keeps;
    };
    goes = λ C f next blank ends more i. followed p F.spells F.begins next (Ends F) i f lawful_piece ends (λ x a h. more x a);
  }
    where
      known : (i m n : Input) (x : A) → F.spells x i m → (m ≡ n) ⊎ Ends F m → (m ≡ n) ⊎ (p i ≡ Ok (x, m))
      known i m n x h (inl e) = inl e
      known i m n x h (inr end) = inr (law.complete i m x h end)

-- ---- nodes

-- the parts spell so, and the node is made of them and of a span
pub record IsSpanned {P N : Type 0} (span : Input → Input → Span) (outer : Spelling N) (inner : Spelling P) (make : P → Span → N) : Type 0 where
  pub opened : (i m : Input) (n : N) → outer n i m → (p : P) × inner p i m × (make p (span i m) ≡ n)
  pub made : (i m : Input) (p : P) → inner p i m → outer (make p (span i m)) i m

abbrev pub IsNode : {P N : Type 0} → Spelling N → Spelling P → (P → Span → N) → Type 0
IsNode outer inner make = IsSpanned between outer inner make

-- what stands behind a piece is nothing to its span
module _ {P N : Type 0} (span : Input → Input → Span) (outer : Spelling N) (F : Form P) (make : P → Span → N) (is : IsSpanned span outer F.spells make) (far : (c i m : Input) (p : P) → F.spells p i m → Reach m c → make p (span (upto c i) (upto c m)) ≡ make p (span i m)) where
  pub node_form : IsForm F → IsForm (node outer F)
  node_form form = record {
    whole = λ i j n h. let o = is.opened i j n h in form.whole i j o.0 o.1;
    whole_onto = λ next i m j n h rest. inr (n, m, h, rest);
    apart = λ next i m b. b;
    short = λ next i m n b. inl b;
    nothing = form.nothing;
    shut = form.shut;
    starts = λ i m n h. let o = is.opened i m n h in form.starts i m o.0 o.1;
    first = form.first;
    reach = λ i m n h. let o = is.opened i m n h in form.reach i m o.0 o.1;
    advances = λ e i m n h. let o = is.opened i m n h in form.advances e i m o.0 o.1;
    local = λ c i m n h r. let o = is.opened i m n h in subst (λ n. outer n (upto c i) (upto c m)) (far c i m o.0 o.1 r ∙ o.2) (is.made (upto c i) (upto c m) o.0 (form.local c i m o.0 o.1 r));
  }

  module _ (s : Reading P) (read : IsLast F s) (p : Parser N) (f : Input → P → Parser N) (same : (i : Input) → p i ≡ s N (f i) i) (makes : (i m : Input) (x : P) → f i x m ≡ Ok (make x (span i m), m)) where
    pub node_lawful : IsLawful (node outer F) p
    node_lawful = record { form = node_form read.form; placed = placed; sound = sound; complete = complete; reaches = reaches }
      where
        placed : (i : Input) → Placed F.begins i (p i)
        placed i = subst (λ (o : ReadResult N). Placed F.begins i o) (sym (same i)) (read.last N (f i) (λ x a. (make x (span i a), makes i a x)) i)

        sound : Sound p outer
        sound i j n h = let g = read.sound N (f i) i j n (sym (same i) ∙ h) in answered outer i j g.1 (make g.0 (span i g.1)) n (is.made i g.1 g.0 g.2) (sym (makes i g.1 g.0) ∙ g.3)

        complete : Complete p outer (Ends F)
        complete i j n h end = let o = is.opened i j n h in same i ∙ read.complete N (f i) i j o.0 o.1 end ∙ makes i j o.0 ∙ ap (λ n. Ok (n, j)) o.2

        reaches : Reaches p outer
        reaches i m n h =
            let o = is.opened i m n h in
            subst (λ (r : ReadResult N). Reached i n m r) (sym (same i)) (read.reached N (f i) on i m m o.0 n o.1 (inl refl) (inl (makes i m o.0 ∙ ap (λ n. Ok (n, m)) o.2)))
          where
            on : (x : P) → IsOnward (f i x)
            on x a = rw (makes i a x) (stays (make x (span i a)) a)

-- ---- what begins a form, in other words

module _ {A : Type 0} (B : Beginning) (F : Form A) (p : Parser A) (law : IsLawful F p) (to : (i m : Input) → F.begins i m → B i m) (back : (i m : Input) → B i m → F.begins i m) where
  pub begun_lawful : IsLawful (begun B F) p
  begun_lawful = record {
    form = record {
      whole = λ i j x h. to i j (law.form.whole i j x h);
      whole_onto = λ next i m j x h n. inr (x, m, h, n);
      apart = λ next i m b. b;
      short = λ next i m n b. inl b;
      nothing = λ i. to i i (law.form.nothing i);
      shut = prefixes.alike to back law.form.shut;
      starts = law.form.starts;
      first = λ i m b. law.form.first i m (back i m b);
      reach = law.form.reach;
      advances = law.form.advances;
      local = law.form.local;
    };
    placed = λ i. same_pieces F.begins B i (p i) (to i) (back i) (law.placed i);
    sound = law.sound;
    complete = law.complete;
    reaches = law.reaches;
  }

-- ---- a parser by itself

pure_same : {A : Type 0} (o : ReadResult A) → and_then o (λ x a. Ok (x, a)) ≡ o
pure_same (Ok p) = refl
pure_same (Err e) = refl

pub one_lawful : {A : Type 0} {F : Form A} {p : Parser A} → IsLast F (one p) → IsLawful F p
one_lawful {A} {F} {p} read = record { form = read.form; placed = placed; sound = sound; complete = complete; reaches = reaches }
  where
    same : (i : Input) → one p A (λ x a. Ok (x, a)) i ≡ p i
    same i = pure_same (p i)

    placed : (i : Input) → Placed F.begins i (p i)
    placed i = subst (λ (o : ReadResult A). Placed F.begins i o) (same i) (read.last A (λ x a. Ok (x, a)) (λ x a. (x, refl)) i)

    sound : Sound p F.spells
    sound i j x h = let g = read.sound A (λ x a. Ok (x, a)) i j x (same i ∙ h) in answered F.spells i j g.1 g.0 x g.2 g.3

    complete : Complete p F.spells (Ends F)
    complete i j x h end = sym (same i) ∙ read.complete A (λ x a. Ok (x, a)) i j x h end

    reaches : Reaches p F.spells
    reaches i m x h = subst (λ (o : ReadResult A). Reached i x m o) (same i) (read.reached A (λ x a. Ok (x, a)) (λ x a. stays x a) i m m x x h (inl refl) (inl refl))

-- ---- a form of which less is known

-- where it goes on says nothing of what it spells
pub going_form : {A : Type 0} (on : Kind → Bool) (F : Form A) → IsForm F → IsForm (going on F)
going_form on F law = record {
  whole = law.whole;
  whole_onto = law.whole_onto;
  apart = law.apart;
  short = law.short;
  nothing = law.nothing;
  shut = law.shut;
  starts = law.starts;
  first = law.first;
  reach = law.reach;
  advances = law.advances;
  local = law.local;
}

module _ {A : Type 0} (F : Form A) (p : Parser A) (law : IsLawful F p) (first on : Kind → Bool) (begins : of_all (λ x. first x || not (F.first x)) ≡ true) (goes : of_all (λ x. on x || not (F.on x)) ≡ true) where
  pub known_lawful : IsLawful (known F.empty F.spells F.begins first on) p
  known_lawful = record { form = form; placed = law.placed; sound = law.sound; complete = λ i j x h end. law.complete i j x h (ends_by F.on on goes (kind j) end); reaches = law.reaches }
    where
      alone : {M : Type 0} (i : Input) → M ⊎ Starts F i → M ⊎ (first (kind i) ≡ true)
      alone i (inl e) = inl e
      alone i (inr s) = inr (within F.first first begins (kind i) s)

      form : IsForm (known F.empty F.spells F.begins first on)
      form = record {
        whole = law.form.whole;
        whole_onto = λ next i m j x h n. inr (x, m, h, n);
        apart = λ next i m b. b;
        short = λ next i m n b. inl b;
        nothing = law.form.nothing;
        shut = law.form.shut;
        starts = λ i m x h. alone i (law.form.starts i m x h);
        first = λ i m b. alone i (law.form.first i m b);
        reach = law.form.reach;
        advances = law.form.advances;
        local = law.form.local;
      }

-- a form of which these laws are known
pub known_form : {A : Type 0} (P : Spelling A) (B : Beginning) (first on : Kind → Bool)
    → ((i j : Input) (x : A) → P x i j → B i j)
    → ((i : Input) → B i i)
    → ((i m : Input) (x : A) → P x i m → first (kind i) ≡ true)
    → First B (λ i. first (kind i) ≡ true)
    → ((i m : Input) (x : A) → P x i m → Reach i m)
    → ((i m : Input) (x : A) → P x i m → left m < left i)
    → ((c i m : Input) (x : A) → P x i m → Reach m c → P x (upto c i) (upto c m))
    → Shut B
    → IsForm (known false P B first on)
known_form {A} P B first on whole nothing starts begun reach advances local shut = record {
  whole = whole;
  whole_onto = λ rest i m j x h n. inr (x, m, h, n);
  apart = λ next i m b. b;
  short = λ next i m n b. inl b;
  nothing = nothing;
  shut = shut;
  starts = λ i m x h. inr (starts i m x h);
  first = begun;
  reach = reach;
  advances = λ e. advances;
  local = local;
}

-- a form that nothing spells
pub never_lawful : {A : Type 0} (empty : Bool) (P : Spelling A) (first on : Kind → Bool) → ((i j : Input) (x : A) → P x i j → ⊥) → IsLawful (known empty P Nothing first on) refuse
unfolding refusal
never_lawful {A} empty P first on never = record {
  form = record {
    whole = λ i j x h. absurd (never i j x h);
    whole_onto = λ next i m j x h n. inr (x, m, h, n);
    apart = λ next i m b. b;
    short = λ next i m n b. inl b;
    nothing = λ i. refl;
    shut = prefixes.nothing;
    starts = λ i m x h. absurd (never i m x h);
    first = λ i m e. inl e;
    reach = λ i j x h. absurd (never i j x h);
    advances = λ e i j x h. absurd (never i j x h);
    local = λ c i m x h r. absurd (never i m x h);
  };
  placed = λ i. refused Nothing i refl (λ m e. e);
  sound = λ i j x h. absurd (cc);
  complete = λ i j x h end. absurd (never i j x h);
  reaches = λ i m x h. absurd (never i m x h);
}
