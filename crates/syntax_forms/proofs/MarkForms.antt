-- Terminals that may be missing.
use Rattle.std.proofs.Common.{◌≡◌, suc, Bool, true, false, Option, Some, None, Ok, sym, refl, ap, ◌∙◌, subst, inl, inr, ◌⊎◌}
use Rattle.std.specs.Prelude.{if◌then◌else◌}
use Rattle.std.specs.Option.{is_some}
use Rattle.estelle_tree.specs.declared.kind.Kind.{Kind}
use Rattle.estelle_tree.specs.declared.kind.Kind.TheVariants as k
use Rattle.estelle_tree.specs.Input.{Input, kind, next, left}
use Rattle.estelle_tree.specs.Spelling.{Takes, Flag, Mark}
use Rattle.estelle_tree.specs.Beginning.{Beginning, Nothing, Then, AfterOne, OneToken, MayBe, MayBeOne}
use Rattle.token_reader.specs.Reader.{Parser, ReadResult, and_then, eat, pure, refuse, sees, after}
use Rattle.token_reader.specs.Lists.{mark, taking}
use Rattle.token_reader.proofs.Sound.{seen_is, through, eat_sound, mark_sound}
use Rattle.token_reader.proofs.Complete.{takes_advances, sees_takes, unseen, eat_complete, mark_complete}
use Rattle.syntax_forms.specs.Form as form
use Rattle.syntax_forms.specs.Kinds.{is}
use Rattle.syntax_forms.specs.Reading.{one}
use Rattle.syntax_forms.specs.Onward.{Below, IsOnward}
use Rattle.syntax_forms.specs.Placed.{Placed}
use Rattle.syntax_forms.specs.Places.{Reach}
use Rattle.syntax_forms.proofs.Prefixes as prefixes
use Rattle.syntax_forms.proofs.Local.{upto, upto_takes}
use Rattle.syntax_forms.proofs.Firsts.{First, first_nothing}
use Rattle.syntax_forms.proofs.KindLaws.{it_is, not_is}
use Rattle.syntax_forms.proofs.Steps.{Reached, step, exact, eats, takes, takes_one, refuses, reached_from}
use Rattle.syntax_forms.proofs.Lists.{mark_onward}
use Rattle.syntax_forms.proofs.Placing.{done, refused, eat_last, may_be, taken_one, unmarked, mark_placed}
use Rattle.syntax_forms.proofs.Lawful.{IsForm, IsRead, Got}

-- ---- `[k]`

module _ (kind' : Kind) where
  pub flag_form : is kind' k.Nothing ≡ false → IsForm (form.flag kind')
  flag_form is_token = record {
    whole = whole;
    whole_onto = onto;
    apart = apart;
    short = short;
    nothing = λ i. inl refl;
    shut = prefixes.token kind';
    starts = starts;
    first = first;
    reach = reach;
    local = local;
    advances = λ e. absurd (let no : true ≡ false = e in cc);
  }
    where
      whole : (i j : Input) (b : Bool) → Flag kind' b i j → OneToken kind' i j
      whole i j false e = inl e
      whole i j true t = inr t

      onto : (next : Beginning) (i m j : Input) (b : Bool) → Flag kind' b i m → next m j → MayBe kind' next i j
      onto next i m j false e n = inl (subst (λ i. next i j) (sym e) n)
      onto next i m j true t n = inr (inr (m, t, n))

      starts : (i m : Input) (b : Bool) → Flag kind' b i m → ((i ≡ m) × (true ≡ true)) ⊎ (is kind' (kind i) ≡ true)
      starts i m false e = inl (e, refl)
      starts i m true t = inr (it_is kind' (kind i) t.kind)

      first : (i m : Input) → OneToken kind' i m → (i ≡ m) ⊎ (is kind' (kind i) ≡ true)
      first i m (inl e) = inl e
      first i m (inr t) = inr (it_is kind' (kind i) t.kind)

      apart : (next : Beginning) (i m : Input) → MayBe kind' next i m → Then (OneToken kind') (Flag kind') next i m
      apart next i m (inl n) = inr (false, i, refl, n)
      apart next i m (inr (inl e)) = inl (inl e)
      apart next i m (inr (inr t)) = inr (true, t.0, t.1, t.2)

      short : (next : Beginning) (i m : Input) → next m m → OneToken kind' i m → MayBe kind' next i m
      short next i m n (inl e) = inr (inl e)
      short next i m n (inr t) = inr (inr (m, t, n))

      reach : (i j : Input) (b : Bool) → Flag kind' b i j → Reach i j
      reach i j false e = (0, e)
      reach i j true t = (1, t.next)

      local : (c i m : Input) (b : Bool) → Flag kind' b i m → Reach m c → Flag kind' b (upto c i) (upto c m)
      local c i m false e r = ap (upto c) e
      local c i m true t r = upto_takes c kind' i m (not_is kind' k.Nothing is_token) t r

  flag_complete : (C : Type 0) (f : Bool → Parser C) (i m : Input) (b : Bool) → Flag kind' b i m → is kind' (kind m) ≡ false → one (eat kind') C f i ≡ f b m
  flag_complete C f i m b h end = ap (λ o. and_then o f) (eat_complete kind' i m b h (not_is kind' (kind m) end))

  pub flag_read : is kind' k.Nothing ≡ false → IsRead (form.flag kind') (one (eat kind'))
  unfolding after
  flag_read is_token = record {
    rest = record {
      form = flag_form is_token;
      onward = λ C f on i. step i _ (eat kind' i) f (eats kind' i) on;
      sound = λ C f i j y h. through (eat kind' i) f (y, j) h (λ b m e h. (b, m, eat_sound kind' i m b e, h));
      complete = flag_complete;
      reached = reached;
      last = λ C f keeps i. eat_last kind' i f keeps;
    };
    goes = λ C f next blank ends more i. may_be kind' next i f (λ i m n. other i m (ends i m n)) (more false i) (λ e. more true _);
  }
    where
      other : (i m : Input) → (i ≡ m) ⊎ (is kind' (kind i) ≡ false) → (i ≡ m) ⊎ (kind i ≡ kind' → ⊥)
      other i m (inl e) = inl e
      other i m (inr e) = inr (not_is kind' (kind i) e)

      reached : (C : Type 0) (f : Bool → Parser C) → ((b : Bool) → IsOnward (f b)) → (i m n : Input) (b : Bool) (y : C) → Flag kind' b i m → (m ≡ n) ⊎ (is kind' (kind m) ≡ false) → Reached m y n (f b m) → Reached i y n (one (eat kind') C f i)
      reached C f on i m n true y t end r = rw (sees_takes kind' i m t, t.next) (reached_from i m n y _ (1, t.next) r)
      reached C f on i m n false y same (inr end) r = rw (flag_complete C f i m false same end, same) r
      reached C f on i m n false y same (inl e) r = by (sees kind' i) refl
        where
          by : (b : Bool) → sees kind' i ≡ b → Reached i y n (f b (if b then next i else i))
          by false s = rw same r
          by true s = inr (subst (λ (n : Input). Below i (left n) (f true (next i))) (same ∙ e) (step i (left i) (pure true (next i)) f (takes_one true kind' i (not_is kind' k.Nothing is_token) (seen_is kind' i s)) on))

-- ---- `[k]`, where several terminals can stand

module _ {O : Type 0} (of : Kind → Option O) (kinds : O → Kind) (forth : (o : O) → of (kinds o) ≡ Some o) (back : (kind' : Kind) (o : O) → of kind' ≡ Some o → kind' ≡ kinds o) where
  some : (o : O) (i : Input) → kind i ≡ kinds o → is_some (of (kind i)) ≡ true
  some o i e = rw (e, forth o) refl

  none : (kind' : Kind) → is_some (of kind') ≡ false → of kind' ≡ None
  none kind' e = by (of kind') refl
    where
      by : (o : Option O) → of kind' ≡ o → o ≡ None
      by None s = refl
      by (Some o) s = absurd (let no : is_some (Some o) ≡ false = ap is_some (sym s) ∙ e in cc)

  -- none of them is the end
  token : is_some (of k.Nothing) ≡ false → (o : O) → k.Nothing ≡ kinds o → ⊥
  token is_token o e = let no : false ≡ true = sym is_token ∙ (ap (λ x. is_some (of x)) e ∙ ap is_some (forth o)) in cc

  pub mark_form : is_some (of k.Nothing) ≡ false → IsForm (form.mark of kinds)
  mark_form is_token = record {
    whole = λ i j o h. onto Nothing i j j o h refl;
    whole_onto = onto;
    apart = apart;
    short = short;
    nothing = λ i. inl refl;
    shut = prefixes.choice prefixes.nothing (prefixes.after_one kinds prefixes.nothing);
    starts = starts;
    first = first;
    reach = reach;
    local = local;
    advances = λ e. absurd (let no : true ≡ false = e in cc);
  }
    where
      onto : (next : Beginning) (i m j : Input) (o : Option O) → Mark kinds o i m → next m j → MayBeOne kinds next i j
      onto next i m j None e n = inl (subst (λ i. next i j) (sym e) n)
      onto next i m j (Some o) t n = inr (inr (o, m, t, n))

      starts : (i m : Input) (o : Option O) → Mark kinds o i m → ((i ≡ m) × (true ≡ true)) ⊎ (is_some (of (kind i)) ≡ true)
      starts i m None e = inl (e, refl)
      starts i m (Some o) t = inr (some o i t.kind)

      first : (i m : Input) → MayBeOne kinds Nothing i m → (i ≡ m) ⊎ (is_some (of (kind i)) ≡ true)
      first i m (inl e) = inl e
      first i m (inr (inl e)) = inl e
      first i m (inr (inr t)) = inr (some t.0 i t.2.kind)

      apart : (next : Beginning) (i m : Input) → MayBeOne kinds next i m → Then (MayBeOne kinds Nothing) (Mark kinds) next i m
      apart next i m (inl n) = inr (None, i, refl, n)
      apart next i m (inr (inl e)) = inl (inl e)
      apart next i m (inr (inr t)) = inr (Some t.0, t.1, t.2, t.3)

      short : (next : Beginning) (i m : Input) → next m m → MayBeOne kinds Nothing i m → MayBeOne kinds next i m
      short next i m n (inl e) = inr (inl e)
      short next i m n (inr (inl e)) = inr (inl e)
      short next i m n (inr (inr t)) = inr (inr (t.0, t.1, t.2, subst (λ a. next a m) (sym t.3) n))

      reach : (i j : Input) (o : Option O) → Mark kinds o i j → Reach i j
      reach i j None e = (0, e)
      reach i j (Some o) t = (1, t.next)

      local : (c i m : Input) (o : Option O) → Mark kinds o i m → Reach m c → Mark kinds o (upto c i) (upto c m)
      local c i m None e r = ap (upto c) e
      local c i m (Some o) t r = upto_takes c (kinds o) i m (token is_token o) t r

  read_complete : (C : Type 0) (f : Option O → Parser C) (i m : Input) (o : Option O) → Mark kinds o i m → is_some (of (kind m)) ≡ false → one (mark of) C f i ≡ f o m
  read_complete C f i m o h end = ap (λ o. and_then o f) (mark_complete of kinds forth i m o h (none (kind m) end))

  pub mark_read : is_some (of k.Nothing) ≡ false → IsRead (form.mark of kinds) (one (mark of))
  mark_read is_token = record {
    rest = record {
      form = mark_form is_token;
      onward = λ C f on i. step i _ (mark of i) f (mark_onward of i) on;
      sound = λ C f i j y h. through (mark of i) f (y, j) h (λ o m e h. (o, m, mark_sound of kinds back i m o e, h));
      complete = read_complete;
      reached = reached;
      last = λ C f keeps i. placed C f Nothing (λ j. refl) (first_nothing _) (λ x a. let same = keeps x a in rw same.1 (done same.0 a)) i;
    };
    goes = placed;
  }
    where
      placed : (C : Type 0) (f : Option O → Parser C) (next : Beginning) → ((j : Input) → next j j) → First next (λ i. is_some (of (kind i)) ≡ false) → ((o : Option O) (a : Input) → Placed next a (f o a)) → (i : Input) → Placed (MayBeOne kinds next) i (one (mark of) C f i)
      placed C f next blank ends more i = mark_placed of kinds forth back next i f (λ i m n. other i m (ends i m n)) (more None i) (λ o e. more (Some o) _)
        where
          other : (i m : Input) → (i ≡ m) ⊎ (is_some (of (kind i)) ≡ false) → (i ≡ m) ⊎ (of (kind i) ≡ None)
          other i m (inl e) = inl e
          other i m (inr e) = inr (none (kind i) e)

      reached : (C : Type 0) (f : Option O → Parser C) → ((o : Option O) → IsOnward (f o)) → (i m n : Input) (o : Option O) (y : C) → Mark kinds o i m → (m ≡ n) ⊎ (is_some (of (kind m)) ≡ false) → Reached m y n (f o m) → Reached i y n (one (mark of) C f i)
      reached C f on i m n (Some o) y t end r = rw (t.kind, forth o, t.next) (reached_from i m n y _ (1, t.next) r)
      reached C f on i m n None y same (inr end) r = rw (read_complete C f i m None same end, same) r
      reached C f on i m n None y same (inl e) r = by (of (kind i)) refl
        where
          by : (o : Option O) → of (kind i) ≡ o → Reached i y n (and_then (taking o i) f)
          by None s = rw same r
          by (Some o) s = inr (subst (λ (n : Input). Below i (left n) (f (Some o) (next i))) (same ∙ e) (step i (left i) (pure (Some o) (next i)) f (takes_one (Some o) (kinds o) i (token is_token o) (back (kind i) o s)) on))

-- ---- one of several terminals

module _ {O : Type 0} (of : Kind → Option O) (kinds : O → Kind) (forth : (o : O) → of (kinds o) ≡ Some o) (back : (kind' : Kind) (o : O) → of kind' ≡ Some o → kind' ≡ kinds o) (is_token : is_some (of k.Nothing) ≡ false) where
  one_token : (o : O) → k.Nothing ≡ kinds o → ⊥
  one_token = token of kinds forth back is_token

  pub one_of_form : IsForm (form.one_of of kinds)
  one_of_form = record {
    whole = λ i j o t. inr (o, j, t, refl);
    whole_onto = λ next i m j o t n. inr (o, m, t, n);
    apart = apart;
    short = short;
    nothing = λ i. inl refl;
    shut = prefixes.after_one kinds prefixes.nothing;
    starts = λ i m o t. inr (some of kinds forth back o i t.kind);
    first = first;
    reach = λ i m o t. (1, t.next);
    advances = λ e i m o t. takes_advances (kinds o) (one_token o) i m t;
    local = λ c i m o t r. upto_takes c (kinds o) i m (one_token o) t r;
  }
    where
      first : (i m : Input) → AfterOne kinds Nothing i m → (i ≡ m) ⊎ (is_some (of (kind i)) ≡ true)
      first i m (inl e) = inl e
      first i m (inr t) = inr (some of kinds forth back t.0 i t.2.kind)

      apart : (next : Beginning) (i m : Input) → AfterOne kinds next i m → Then (AfterOne kinds Nothing) (λ o. Takes (kinds o)) next i m
      apart next i m (inl e) = inl (inl e)
      apart next i m (inr t) = inr t

      short : (next : Beginning) (i m : Input) → next m m → AfterOne kinds Nothing i m → AfterOne kinds next i m
      short next i m n (inl e) = inl e
      short next i m n (inr t) = inr (t.0, t.1, t.2, subst (λ a. next a m) (sym t.3) n)

  -- what a parser of them does
  module _ (p : Parser O) (there : (o : O) (i : Input) → kind i ≡ kinds o → p i ≡ Ok (o, next i)) (other : (i : Input) → of (kind i) ≡ None → p i ≡ refuse i) where
    told : (Q : ReadResult O → Type 0) (i : Input) → ((o : O) → kind i ≡ kinds o → Q (Ok (o, next i))) → (of (kind i) ≡ None → Q (refuse i)) → Q (p i)
    told Q i took passed = by (of (kind i)) refl
      where
        by : (o : Option O) → of (kind i) ≡ o → Q (p i)
        by (Some o) e = let is_one = back (kind i) o e in subst Q (sym (there o i is_one)) (took o is_one)
        by None e = subst Q (sym (other i e)) (passed e)

    on : IsOnward p
    on i = told (Below i (suc (left i))) i (λ o e. takes o i) (λ e. refuses i)

    goes : (C : Type 0) (f : O → Parser C) (rest : Beginning) → ((o : O) (a : Input) → Placed rest a (f o a)) → (i : Input) → Placed (AfterOne kinds rest) i (and_then (p i) f)
    goes C f rest more i = told (λ r. Placed (AfterOne kinds rest) i (and_then r f)) i
        (λ o e. taken_one of kinds forth back rest i (f o (next i)) o e (more o (next i)))
        (λ e. refused (AfterOne kinds rest) i (inl refl) (unmarked of kinds forth back rest i e))

    pub one_of_read : IsRead (form.one_of of kinds) (one p)
    one_of_read = record {
      rest = record {
        form = one_of_form;
        onward = λ C f more i. step i _ (p i) f (on i) more;
        sound = sound;
        complete = λ C f i m o t end. ap (λ r. and_then r f) (there o i t.kind ∙ ap (λ a. Ok (o, a)) t.next);
        reached = λ C f more i m n o y t end r. exact p f i m n o y on (there o i t.kind ∙ ap (λ a. Ok (o, a)) t.next) r;
        last = λ C f keeps. goes C f Nothing (λ o a. let same = keeps o a in rw same.1 (done same.0 a));
      };
      goes = λ C f next blank ends more. goes C f next more;
    }
      where
        sound : (C : Type 0) (f : O → Parser C) (i j : Input) (y : C) → and_then (p i) f ≡ Ok (y, j) → Got (λ o. Takes (kinds o)) f i j y
        sound C f i j y h = told (λ r. and_then r f ≡ Ok (y, j) → Got (λ o. Takes (kinds o)) f i j y) i (λ o e h. (o, next i, record { kind = e; next = refl }, h)) (λ e h. absurd (cc)) h

-- what comes tells what is eaten
pub eaten_there : (kind' : Kind) (i : Input) → kind i ≡ kind' → (sees kind' i ≡ true) × (after kind' i ≡ next i)
unfolding after
eaten_there kind' i e = let s = sees_takes kind' i (next i) (record { kind = e; next = refl }) in (s, rw s refl)

pub eaten_other : (kind' : Kind) (i : Input) → (kind i ≡ kind' → ⊥) → (sees kind' i ≡ false) × (after kind' i ≡ i)
unfolding after
eaten_other kind' i differs = let s = unseen kind' i differs in (s, rw s refl)

pub eat_then : {C : Type 0} (kind' : Kind) (f : Bool → Parser C) (i m : Input) (b : Bool) → (sees kind' i ≡ b) × (after kind' i ≡ m) → one (eat kind') C f i ≡ f b m
eat_then kind' f i m b p = ap (λ s. f s (after kind' i)) p.0 ∙ ap (f b) p.1
