-- Forms that the next terminal tells, or nothing where none of them stands.
use Rattle.std.proofs.Common.{◌≡◌, ◌<◌, ℕ, Bool, true, false, sym, refl, ap, ◌∙◌, subst, inl, inr, ◌⊎◌, arith}
use Rattle.std.specs.Prelude.{not, ◌==◌, ◌||◌}
use Rattle.estelle_tree.specs.declared.kind.Kind.{Kind}
use Rattle.estelle_tree.specs.declared.kind.Kind.TheVariants as k
use Rattle.estelle_tree.specs.declared.span.Span.{Span}
use Rattle.estelle_tree.specs.Input.{Input, kind, next, left, start}
use Rattle.estelle_tree.specs.Spelling.{Never}
use Rattle.estelle_tree.specs.Beginning.{Nothing}
use Rattle.token_reader.specs.Reader.{Parser, refuse, expect}
use Rattle.token_reader.specs.Lists.{optional_if}
use Rattle.syntax_forms.specs.Form as form
use Rattle.syntax_forms.specs.Form.{Form, ◌▸◌, known, built, told}
use Rattle.syntax_forms.specs.Kinds.{is, never, of_all}
use Rattle.syntax_forms.specs.Reading.{Reading, one, ◌then◌, levelled, closed}
use Rattle.syntax_forms.specs.Places.{Reach}
use Rattle.syntax_forms.proofs.Prefixes as prefixes
use Rattle.syntax_forms.proofs.Prefixes.{Shut}
use Rattle.syntax_forms.proofs.KindLaws.{it_is, is_it, or_left, not_true, within, ends_by, when}
use Rattle.syntax_forms.proofs.Local.{upto, reach_left, upto_kind}
use Rattle.syntax_forms.proofs.Placing.{same}
use Rattle.syntax_forms.proofs.NodeForms.{never_lawful}
use Rattle.syntax_forms.proofs.ChoiceForms.{some_room, has_room, level_where}
use Rattle.syntax_forms.proofs.StepForms.{IsStep, told_step}
use Rattle.syntax_forms.proofs.Lawful.{begins_so, IsForm, IsLast, IsLawful, Starts}
use Rattle.syntax_forms.proofs.Rules as rules

-- of the form that stands behind this terminal: a test tells whether it can stand there
pub record IsTold {A : Type 0} (kind' : Kind) (F : Form A) (p : Parser A) (here : Bool) : Type 1 where
  pub law : IsLawful F p
  pub some : F.empty ≡ false
  pub spelled : (i m : Input) (x : A) → F.spells x i m → here ≡ true
  pub quiet : here ≡ false → (i m : Input) → F.begins i m → i ≡ m
  pub first : here ≡ true → F.first kind' ≡ true
  pub takes : here ≡ true → (i : Input) → kind i ≡ kind' → F.begins i (next i)

-- `k x`
pub worded : {P N : Type 0} {G : Form P} {t : Reading P} (kind' : Kind) (make : Unit {0} × P → Span → N) → is kind' k.Nothing ≡ false → IsLast G t → (p : Parser N) → ((i : Input) → p i ≡ (one (expect kind') then t) N (closed make (start i)) i)
    → IsTold kind' (built make (form.word kind' ▸ G)) p true
worded {G = G} kind' make is_token last p same = record {
  law = rules.built make p refl (rules.and_last (rules.word kind' is_token) last refl) same;
  some = refl;
  spelled = λ i m x h. refl;
  quiet = λ e. absurd (cc);
  first = λ e. or_left (is kind' kind') _ (it_is kind' kind' refl);
  takes = λ e i is_one. inr (next i, record { kind = is_one; next = refl }, last.form.nothing (next i));
}

-- `k x`, where k opens a level
pub opening : {P N : Type 0} {G : Form P} {t : Reading P} (room : ℕ) (kind' : Kind) (make : P → Span → N) → is kind' k.Nothing ≡ false → (0 < room → IsLast G t) → (p : Parser N) → ((i : Input) → p i ≡ levelled room kind' t N (closed make (start i)) i)
    → IsTold kind' (built make (form.level room kind' G)) p (not (room == 0))
opening {G = G} room kind' make is_token last p same = record {
  law = rules.built make p refl (level_where room kind' is_token last) same;
  some = refl;
  spelled = λ i m x h. ap not (some_room room h.1.0);
  quiet = quiet;
  first = λ e. it_is kind' kind' refl;
  takes = λ e i is_one. let fits = has_room room (not_true (room == 0) e) in inr (fits, (next i, record { kind = is_one; next = refl }, (last fits).form.nothing (next i)));
}
  where
    quiet : not (room == 0) ≡ false → (i m : Input) → (form.level room kind' G).begins i m → i ≡ m
    quiet e i m (inl same) = same
    quiet e i m (inr h) = absurd (let no : false ≡ true = sym e ∙ ap not (some_room room h.0) in cc)

-- nothing stands behind it
pub nowhere : {A : Type 0} (kind' : Kind) → IsTold {A = A} kind' (known false Never Nothing never never) refuse false
nowhere kind' = record {
  law = never_lawful false Never never never (λ i j x h. h);
  some = refl;
  spelled = λ i m x h. absurd h;
  quiet = λ e i m same. same;
  first = λ e. absurd (cc);
  takes = λ e. absurd (cc);
}

module _ {A : Type 0} (F : Kind → Form A) (on : Kind → Bool) (p : Kind → Parser A) (here : Kind → Bool) (each : (kind' : Kind) → IsTold kind' (F kind') (p kind') (here kind')) (goes : (kind' : Kind) → of_all (λ x. on x || not ((F kind').on x)) ≡ true) (ends_none : (F k.Nothing).first k.Nothing ≡ false) where
  -- the one that stands there
  abbrev pub at : Parser A
  at i = p (kind i) i

  law : (kind' : Kind) → IsLawful (F kind') (p kind')
  law kind' = (each kind').law

  advances : (i m : Input) (x : A) → (told F on).spells x i m → left m < left i
  advances i m x h = (law (kind i)).form.advances (each (kind i)).some i m x h

  pub told_form : IsForm (told F on)
  told_form = record {
    whole = λ i j x h. (law (kind i)).form.whole i j x h;
    whole_onto = λ rest i m j x h n. inr (x, m, h, n);
    apart = λ next i m b. b;
    short = λ next i m n b. inl b;
    nothing = λ i. (law (kind i)).form.nothing i;
    shut = shut;
    starts = λ i m x h. inr (starts i m x h);
    first = λ i m b. (law (kind i)).form.first i m b;
    reach = λ i m x h. (law (kind i)).form.reach i m x h;
    advances = λ e. advances;
    local = local;
  }
    where
      shut : Shut (told F on).begins
      shut i j c b r = prefixes.out (F (kind i)).begins (told F on).begins i j c (λ b. b) ((law (kind i)).form.shut i j c b r)

      starts : (i m : Input) (x : A) → (told F on).spells x i m → Starts (told F on) i
      starts i m x h = begins_so (F (kind i)) (law (kind i)).form (each (kind i)).some i m x h

      local : (c i m : Input) (x : A) → (told F on).spells x i m → Reach m c → (told F on).spells x (upto c i) (upto c m)
      local c i m x h r =
          let less = advances i m x h in
          let more = reach_left m c r in
          subst (λ kind'. (F kind').spells x (upto c i) (upto c m)) (sym (upto_kind c i (omega arith))) ((law (kind i)).form.local c i m x h r)

  pub told_lawful : IsLawful (told F on) at
  told_lawful = record {
    form = told_form;
    placed = λ i. same (F (kind i)).begins (told F on).begins i (at i) (λ m b. b) (λ m b. b) ((law (kind i)).placed i);
    sound = λ i j x h. (law (kind i)).sound i j x h;
    complete = λ i j x h end. (law (kind i)).complete i j x h (ends_by (F (kind i)).on on (goes (kind i)) (kind j) end);
    reaches = λ i m x h. (law (kind i)).reaches i m x h;
  }

  -- one of them, or nothing
  pub told_or_nothing : IsStep (told F on) (λ i. optional_if (here (kind i)) at i)
  told_or_nothing = told_step (told F on) at told_lawful (λ i. optional_if (here (kind i)) at i) (λ i. here (kind i)) (λ i e. ap (λ b. optional_if b at i) e) (λ i e. ap (λ b. optional_if b at i) e)
      (λ i m x h. (each (kind i)).spelled i m x h) (λ i m e b. (each (kind i)).quiet e i m b) first (λ i e. (each (kind i)).takes e i refl) token
    where
      first : (i : Input) → (F (kind i)).first (kind i) ≡ false → here (kind i) ≡ false
      first i e = when (here (kind i)) (λ h. let no : true ≡ false = sym ((each (kind i)).first h) ∙ e in cc)

      token : (i : Input) → here (kind i) ≡ true → kind i ≡ k.Nothing → ⊥
      token i e n = let no : true ≡ false = sym ((each k.Nothing).first (sym (ap here n) ∙ e)) ∙ ends_none in cc

  -- what begins one that only its terminal begins
  pub begun_by : (kind' : Kind) → of_all (λ x. is kind' x || not ((F kind').first x)) ≡ true → (i m : Input) → (F kind').begins i m → (F (kind i)).begins i m
  begun_by kind' only i m b = by ((law kind').form.first i m b)
    where
      by : (i ≡ m) ⊎ Starts (F kind') i → (F (kind i)).begins i m
      by (inl e) = subst (λ m. (F (kind i)).begins i m) e ((law (kind i)).form.nothing i)
      by (inr s) = subst (λ x. (F x).begins i m) (sym (is_it kind' (kind i) (within (F kind').first (is kind') only (kind i) s))) b

  -- and what spells it stands at that terminal
  pub spelled_by : (kind' : Kind) → of_all (λ x. is kind' x || not ((F kind').first x)) ≡ true → (i m : Input) (x : A) → (F kind').spells x i m → kind i ≡ kind'
  spelled_by kind' only i m x h = is_it kind' (kind i) (within (F kind').first (is kind') only (kind i) (begins_so (F kind') (law kind').form (each kind').some i m x h))
