-- One token: a terminal, a name, a number, a character.
use Rattle.std.proofs.Common.{◌≡◌, Bool, true, false, Ok, Option, Some, sym, refl, ap, ◌∙◌, subst, inl, inr, ◌⊎◌}
use Rattle.estelle_tree.specs.declared.kind.Kind.{Kind}
use Rattle.estelle_tree.specs.declared.kind.Kind.TheVariants as k
use Rattle.estelle_tree.specs.declared.token.Token.{Token}
use Rattle.estelle_tree.specs.declared.token.Token.TheVariants as token_is
use Rattle.estelle_tree.specs.Input.{Input, kind, next, between, token_at}
use Rattle.estelle_tree.specs.Spelling.{Spelling, Takes}
use Rattle.estelle_tree.specs.Types.{IsName, IsNumber, IsChar}
use Rattle.estelle_tree.specs.Beginning.{Beginning, Nothing, Then, After, OneToken}
use Rattle.token_reader.specs.Reader.{Parser, and_then, refuse, sees, expect, name, number, number_in, char, char_in}
use Rattle.token_reader.proofs.Sound.{Sound, seen_is, through, expect_sound, name_sound, number_sound, char_sound}
use Rattle.token_reader.proofs.Complete.{Complete, Anything, sees_takes, unseen, takes_advances, expect_complete, name_complete, number_complete, char_complete}
use Rattle.syntax_forms.specs.Form as form
use Rattle.syntax_forms.specs.Kinds.{is}
use Rattle.syntax_forms.specs.Reading.{one}
use Rattle.syntax_forms.specs.Onward.{IsOnward}
use Rattle.syntax_forms.specs.Placed.{Placed}
use Rattle.syntax_forms.specs.Places.{Reach}
use Rattle.syntax_forms.proofs.Prefixes as prefixes
use Rattle.syntax_forms.proofs.Local.{upto, before, upto_kind, upto_token, upto_span, upto_next, upto_takes}
use Rattle.syntax_forms.proofs.KindLaws.{it_is, not_is}
use Rattle.syntax_forms.proofs.Steps.{step, exact, expects, names_one, numbers_one, chars_one, named_token}
use Rattle.syntax_forms.proofs.Placing.{done, refused, taken, untaken, one_token, unseen_is}
use Rattle.syntax_forms.proofs.Tokens.{token_kind, number_token, char_token}
use Rattle.syntax_forms.proofs.Lawful.{IsForm, IsRead}

-- what is known of a parser of one token of a kind
pub record IsToken {A : Type 0} (kind' : Kind) (P : Spelling A) (p : Parser A) : Type 0 where
  pub token : (i m : Input) (x : A) → P x i m → Takes kind' i m
  pub there : (i : Input) → kind i ≡ kind' → (x : A) × (p i ≡ Ok (x, next i))
  pub other : (i : Input) → (kind i ≡ kind' → ⊥) → p i ≡ refuse i
  pub on : IsOnward p
  pub local : (c i m : Input) (x : A) → P x i m → Reach m c → P x (upto c i) (upto c m)
  pub sound : Sound p P
  pub complete : Complete p P Anything

module _ {A : Type 0} (kind' : Kind) (P : Spelling A) (p : Parser A) (known : IsToken kind' P p) where
  pub token_form : is kind' k.Nothing ≡ false → IsForm (form.token kind' P)
  token_form is_token = record {
    whole = λ i j x h. inr (known.token i j x h);
    whole_onto = λ next i m j x h n. inr (m, known.token i m x h, n);
    apart = apart;
    short = short;
    nothing = λ i. inl refl;
    shut = prefixes.token kind';
    starts = λ i m x h. inr (it_is kind' (kind i) (known.token i m x h).kind);
    first = first;
    reach = λ i m x h. (1, (known.token i m x h).next);
    local = known.local;
    advances = λ e i m x h. takes_advances kind' (not_is kind' k.Nothing is_token) i m (known.token i m x h);
  }
    where
      first : (i m : Input) → OneToken kind' i m → (i ≡ m) ⊎ (is kind' (kind i) ≡ true)
      first i m (inl e) = inl e
      first i m (inr t) = inr (it_is kind' (kind i) t.kind)

      apart : (rest : Beginning) (i m : Input) → After kind' rest i m → Then (OneToken kind') P rest i m
      apart rest i m (inl e) = inl (inl e)
      apart rest i m (inr t) = let x = known.there i t.1.kind in inr (x.0, t.0, subst (λ a. P x.0 i a) t.1.next (known.sound i (next i) x.0 x.1), t.2)

      short : (next : Beginning) (i m : Input) → next m m → OneToken kind' i m → After kind' next i m
      short next i m n (inl e) = inl e
      short next i m n (inr t) = inr (m, t, n)

  goes : (C : Type 0) (f : A → Parser C) (rest : Beginning) (i : Input) → ((x : A) (a : Input) → Placed rest a (f x a)) → Placed (After kind' rest) i (and_then (p i) f)
  goes C f rest i more = go (sees kind' i) refl
    where
      go : (b : Bool) → sees kind' i ≡ b → Placed (After kind' rest) i (and_then (p i) f)
      go true e = let t = known.there i (seen_is kind' i e) in rw t.1 (taken kind' rest i (f t.0 (next i)) (seen_is kind' i e) (more t.0 (next i)))
      go false e = rw (known.other i (unseen_is kind' i e)) (refused (After kind' rest) i (inl refl) (untaken kind' rest i (unseen_is kind' i e)))

  pub token_read : is kind' k.Nothing ≡ false → IsRead (form.token kind' P) (one p)
  token_read is_token = record {
    rest = record {
      form = token_form is_token;
      onward = λ C f on i. step i _ (p i) f (known.on i) on;
      sound = λ C f i j y h. through (p i) f (y, j) h (λ x m e h. (x, m, known.sound i m x e, h));
      complete = λ C f i m x h end. rw (known.complete i m x h tt) refl;
      reached = λ C f on i m n x y h end r. exact p f i m n x y known.on (known.complete i m x h tt) r;
      last = λ C f keeps i. one_token kind' i _ (goes C f Nothing i (λ x a. let same = keeps x a in rw same.1 (done same.0 a)));
    };
    goes = λ C f rest blank first more i. goes C f rest i more;
  }

-- ---- the parsers

pub word_known : (kind' : Kind) → (k.Nothing ≡ kind' → ⊥) → IsToken kind' (λ u. Takes kind') (expect kind')
unfolding expect
word_known kind' is_token = record {
  token = λ i m x h. h;
  there = λ i e. (tt, rw (sees_takes kind' i (next i) (record { kind = e; next = refl })) refl);
  other = λ i e. rw (unseen kind' i e) refl;
  on = expects kind';
  local = λ c i m u t r. upto_takes c kind' i m is_token t r;
  sound = expect_sound kind';
  complete = λ i j u h end. expect_complete kind' i j h;
}

pub name_known : IsToken k.Name IsName name
unfolding name
name_known = record {
  token = λ i m n h. record { kind = h.free; next = h.next };
  there = λ i e. let w = named_token i e in (record { word = w.0; span = between i (next i) }, rw (sees_takes k.Name i (next i) (record { kind = e; next = refl }), w.1) refl);
  other = λ i e. rw (unseen k.Name i e) refl;
  on = names_one;
  local = λ c i m n h r. let less = before c k.Name i m (λ e. cc) (record { kind = h.free; next = h.next }) r in
      record { token = upto_token c i less ∙ h.token; free = upto_kind c i less ∙ h.free; span = h.span ∙ sym (upto_span c i m less); next = upto_next c i less ∙ ap (upto c) h.next };
  sound = name_sound;
  complete = name_complete;
}

pub number_known : IsToken k.Number IsNumber number
unfolding number
number_known = record {
  token = λ i m n h. record { kind = token_kind i _ h.token; next = h.next };
  there = λ i e. let t = number_token i e in (t.0, rw t.1 refl);
  other = λ i e. by i e (token_at i) refl;
  on = numbers_one;
  local = λ c i m n h r. let less = before c k.Number i m (λ e. cc) (record { kind = token_kind i _ h.token; next = h.next }) r in record { token = upto_token c i less ∙ h.token; next = upto_next c i less ∙ ap (upto c) h.next };
  sound = number_sound;
  complete = number_complete;
}
  where
    by : (i : Input) → (kind i ≡ k.Number → ⊥) → (t : Option Token) → token_at i ≡ t → number_in t i ≡ refuse i
    by i e (Some (token_is.Number n)) is = absurd (e (token_kind i _ is))
    by i e _ is = refl

pub char_known : IsToken k.Char IsChar char
unfolding char
char_known = record {
  token = λ i m n h. record { kind = token_kind i _ h.token; next = h.next };
  there = λ i e. let t = char_token i e in (t.0, rw t.1 refl);
  other = λ i e. by i e (token_at i) refl;
  on = chars_one;
  local = λ c i m n h r. let less = before c k.Char i m (λ e. cc) (record { kind = token_kind i _ h.token; next = h.next }) r in record { token = upto_token c i less ∙ h.token; next = upto_next c i less ∙ ap (upto c) h.next };
  sound = char_sound;
  complete = char_complete;
}
  where
    by : (i : Input) → (kind i ≡ k.Char → ⊥) → (t : Option Token) → token_at i ≡ t → char_in t i ≡ refuse i
    by i e (Some (token_is.Char n)) is = absurd (e (token_kind i _ is))
    by i e _ is = refl

-- `k`
pub word_read : (kind' : Kind) → is kind' k.Nothing ≡ false → IsRead (form.word kind') (one (expect kind'))
word_read kind' is_token = token_read kind' (λ u. Takes kind') (expect kind') (word_known kind' (not_is kind' k.Nothing is_token)) is_token

-- NAME, NUMBER, CHAR
pub name_read : IsRead form.name (one name)
name_read = token_read k.Name IsName name name_known refl

pub number_read : IsRead form.number (one number)
number_read = token_read k.Number IsNumber number number_known refl

pub char_read : IsRead form.char (one char)
char_read = token_read k.Char IsChar char char_known refl
