-- `k x`, read by a step.
use Rattle.std.proofs.Common.{◌≡◌, true, false, Option, Some, None, Ok, sym, refl, ap, ◌∙◌, inl, inr, ◌⊎◌, arith}
use Rattle.std.specs.Option.{is_some}
use Rattle.estelle_tree.specs.declared.kind.Kind.{Kind}
use Rattle.estelle_tree.specs.declared.kind.Kind.TheVariants as k
use Rattle.estelle_tree.specs.Input.{Input, kind}
use Rattle.estelle_tree.specs.Spelling as spelling
use Rattle.estelle_tree.specs.Beginning.{Beginning, Then, After, AfterOne}
use Rattle.token_reader.specs.Reader.{Parser, pure}
use Rattle.token_reader.specs.Lists.{behind, marked, marked_by}
use Rattle.token_reader.proofs.Sound.{behind_sound, marked_sound}
use Rattle.token_reader.proofs.Complete.{takes_advances, sees_takes, unseen}
use Rattle.syntax_forms.specs.Repeats as repeats
use Rattle.syntax_forms.specs.Form.{Form}
use Rattle.syntax_forms.specs.Kinds.{is}
use Rattle.syntax_forms.proofs.Prefixes as prefixes
use Rattle.syntax_forms.proofs.Local.{upto, upto_takes}
use Rattle.syntax_forms.proofs.KindLaws.{it_is, not_is}
use Rattle.syntax_forms.proofs.Steps.{Reached, reach_on, reached_from, last, stays}
use Rattle.syntax_forms.proofs.Lists.{behind_onward, behind_nothing, behind_reached, marked_onward, marked_nothing}
use Rattle.syntax_forms.proofs.Placing.{behind_placed, marked_placed}
use Rattle.syntax_forms.proofs.Lawful.{shrinks, IsForm, IsLawful, Ends}
use Rattle.syntax_forms.proofs.NodeForms.{lawful_onward}
use Rattle.syntax_forms.proofs.StepForms.{IsStep}

-- ---- where several terminals can stand

module _ {O A : Type 0} (of : Kind → Option O) (kinds : O → Kind) (forth : (o : O) → of (kinds o) ≡ Some o) (back : (kind' : Kind) (o : O) → of kind' ≡ Some o → kind' ≡ kinds o) (is_token : is_some (of k.Nothing) ≡ false) (F : Form A) where
  some : (o : O) (i : Input) → kind i ≡ kinds o → is_some (of (kind i)) ≡ true
  some o i e = rw (e, forth o) refl

  ends_none : of k.Nothing ≡ None
  ends_none = by (of k.Nothing) refl
    where
      by : (o : Option O) → of k.Nothing ≡ o → o ≡ None
      by None e = refl
      by (Some o) e = absurd (let no : true ≡ false = ap is_some (sym e) ∙ is_token in cc)

  token : (o : O) → k.Nothing ≡ kinds o → ⊥
  token o e = let no : Some o ≡ None = sym (forth o) ∙ (ap of (sym e) ∙ ends_none) in cc

  pub marked_form : IsForm F → IsForm (repeats.marked of kinds F)
  marked_form law = record {
    whole = λ i j x h. inr (x.0, h.at, h.mark, law.whole h.at j x.1 h.item);
    whole_onto = λ rest i m j x h n. inr (x.0, h.at, h.mark, law.whole_onto rest h.at m j x.1 h.item n);
    apart = apart;
    short = short;
    nothing = λ i. inl refl;
    shut = prefixes.after_one kinds law.shut;
    starts = λ i m x h. inr (some x.0 i h.mark.kind);
    first = first F.begins;
    reach = λ i m x h. reach_on i h.at m (1, h.mark.next) (law.reach h.at m x.1 h.item);
    advances = λ e i m x h. let a = takes_advances (kinds x.0) (token x.0) i h.at h.mark in let b = shrinks law h.at m x.1 h.item in omega arith;
    local = λ c i m x h r. record { at = upto c h.at; mark = upto_takes c (kinds x.0) i h.at (token x.0) h.mark (reach_on h.at m c (law.reach h.at m x.1 h.item) r); item = law.local c h.at m x.1 h.item r };
  }
    where
      first : (rest : Beginning) (i m : Input) → AfterOne kinds rest i m → (i ≡ m) ⊎ (is_some (of (kind i)) ≡ true)
      first rest i m (inl e) = inl e
      first rest i m (inr t) = inr (some t.0 i t.2.kind)

      apart : (rest : Beginning) (i m : Input) → AfterOne kinds (F.onto rest) i m → Then (AfterOne kinds F.begins) (repeats.marked of kinds F).spells rest i m
      apart rest i m (inl e) = inl (inl e)
      apart rest i m (inr t) = by (law.apart rest t.1 m t.3)
        where
          by : Then F.begins F.spells rest t.1 m → Then (AfterOne kinds F.begins) (repeats.marked of kinds F).spells rest i m
          by (inl b) = inl (inr (t.0, t.1, t.2, b))
          by (inr h) = inr ((t.0, h.0), h.1, record { at = t.1; mark = t.2; item = h.2 }, h.3)

      short : (rest : Beginning) (i m : Input) → rest m m → AfterOne kinds F.begins i m → AfterOne kinds (F.onto rest) i m
      short rest i m n (inl e) = inl e
      short rest i m n (inr t) = inr (t.0, t.1, t.2, law.short rest t.1 m n t.3)

  module _ (p : Parser A) (law : IsLawful F p) where
    there : (i m : Input) (x : O × A) → spelling.Behind (kinds x.0) F.spells x.1 i m → Ends F m → marked of p i ≡ Ok (Some x, m)
    there i m x h end = rw (h.mark.kind, forth x.0, h.mark.next, law.complete h.at m x.1 h.item end) refl

    none : (i : Input) → is_some (of (kind i)) ≡ false → marked of p i ≡ Ok (None, i)
    none i e = by (of (kind i)) refl
      where
        by : (o : Option O) → of (kind i) ≡ o → marked_by o p i ≡ Ok (None, i)
        by None s = refl
        by (Some o) s = absurd (let no : true ≡ false = ap is_some (sym s) ∙ e in cc)

    reached : (i m : Input) (x : O × A) → spelling.Behind (kinds x.0) F.spells x.1 i m → Reached i (Some x) m (marked of p i)
    reached i m x h = rw (h.mark.kind, forth x.0, h.mark.next) (reached_from i h.at m (Some x) _ (1, h.mark.next) (last p (λ y. pure (Some (x.0, y))) h.at m x.1 (Some x) (lawful_onward F p law) (λ y a. stays _ a) (law.reaches h.at m x.1 h.item) (inl refl)))

    pub marked_step : IsStep (repeats.marked of kinds F) (marked of p)
    marked_step = record {
      form = marked_form law.form;
      onward = marked_onward of p (lawful_onward F p law);
      sound = marked_sound of kinds back p F.spells law.sound;
      there = there;
      none = none;
      reached = reached;
      nothing = marked_nothing of p (lawful_onward F p law) ends_none;
      placed = marked_placed of kinds forth back p F.begins law.placed;
    }

-- ---- behind one terminal

module _ {A : Type 0} (kind' : Kind) (is_token : is kind' k.Nothing ≡ false) (F : Form A) where
  pub behind_form : IsForm F → IsForm (repeats.behind kind' F)
  behind_form law = record {
    whole = λ i j x h. inr (h.at, h.mark, law.whole h.at j x h.item);
    whole_onto = λ rest i m j x h n. inr (h.at, h.mark, law.whole_onto rest h.at m j x h.item n);
    apart = apart;
    short = short;
    nothing = λ i. inl refl;
    shut = prefixes.after kind' law.shut;
    starts = λ i m x h. inr (it_is kind' (kind i) h.mark.kind);
    first = first F.begins;
    reach = λ i m x h. reach_on i h.at m (1, h.mark.next) (law.reach h.at m x h.item);
    advances = λ e i m x h. let a = takes_advances kind' (not_is kind' k.Nothing is_token) i h.at h.mark in let b = shrinks law h.at m x h.item in omega arith;
    local = λ c i m x h r. record { at = upto c h.at; mark = upto_takes c kind' i h.at (not_is kind' k.Nothing is_token) h.mark (reach_on h.at m c (law.reach h.at m x h.item) r); item = law.local c h.at m x h.item r };
  }
    where
      first : (rest : Beginning) (i m : Input) → After kind' rest i m → (i ≡ m) ⊎ (is kind' (kind i) ≡ true)
      first rest i m (inl e) = inl e
      first rest i m (inr t) = inr (it_is kind' (kind i) t.1.kind)

      apart : (rest : Beginning) (i m : Input) → After kind' (F.onto rest) i m → Then (After kind' F.begins) (repeats.behind kind' F).spells rest i m
      apart rest i m (inl e) = inl (inl e)
      apart rest i m (inr t) = by (law.apart rest t.0 m t.2)
        where
          by : Then F.begins F.spells rest t.0 m → Then (After kind' F.begins) (repeats.behind kind' F).spells rest i m
          by (inl b) = inl (inr (t.0, t.1, b))
          by (inr h) = inr (h.0, h.1, record { at = t.0; mark = t.1; item = h.2 }, h.3)

      short : (rest : Beginning) (i m : Input) → rest m m → After kind' F.begins i m → After kind' (F.onto rest) i m
      short rest i m n (inl e) = inl e
      short rest i m n (inr t) = inr (t.0, t.1, law.short rest t.0 m n t.2)

  pub behind_step : (p : Parser A) → IsLawful F p → IsStep (repeats.behind kind' F) (behind kind' p)
  unfolding behind
  behind_step p law = record {
    form = behind_form law.form;
    onward = behind_onward p (lawful_onward F p law) kind';
    sound = behind_sound p F.spells law.sound kind';
    there = λ i m x h end. rw (sees_takes kind' i h.at h.mark, h.mark.next, law.complete h.at m x h.item end) refl;
    none = λ i e. rw (unseen kind' i (not_is kind' (kind i) e)) refl;
    reached = λ i m x h. behind_reached p F.spells (lawful_onward F p law) law.reaches kind' (not_is kind' k.Nothing is_token) i m (Some x) h;
    nothing = behind_nothing p (lawful_onward F p law) kind' (not_is kind' k.Nothing is_token);
    placed = behind_placed p F.begins law.placed kind';
  }
