-- Forms with which nothing that stands next goes on: all that can stand there is read.
use Rattle.std.proofs.Common.{◌≡◌, ◌≤◌, true, false, Ok, sym, ap, ◌∙◌, subst, inl, inr, arith}
use Rattle.estelle_tree.specs.declared.kind.Kind.TheVariants as k
use Rattle.estelle_tree.specs.Input.{Input, kind, next, left}
use Rattle.token_reader.specs.Reader.{Parser, ReadResult}
use Rattle.token_reader.proofs.Complete.{next_left_more}
use Rattle.syntax_forms.specs.Form.{Form, whole}
use Rattle.syntax_forms.specs.Kinds.{never}
use Rattle.syntax_forms.specs.Placed.{stop}
use Rattle.syntax_forms.proofs.KindLaws.{when}
use Rattle.syntax_forms.proofs.Local.{ends_upto}
use Rattle.syntax_forms.proofs.Steps.{Reached}
use Rattle.syntax_forms.proofs.Firsts.{stops_below}
use Rattle.syntax_forms.proofs.NodeForms.{known_form}
use Rattle.syntax_forms.proofs.Lawful.{begins_so, IsForm, IsLawful, Ends}

-- where it goes on, one token more begins it
module _ {A : Type 0} {F : Form A} {p : Parser A} (law : IsLawful F p) (some : F.empty ≡ false) (none : F.on k.Nothing ≡ false) (more : (i m : Input) (x : A) → F.spells x i m → F.on (kind m) ≡ true → F.begins i (next m)) where
  stops : (i j : Input) (x : A) → p i ≡ Ok (x, j) → Ends F j
  stops i j x e = when (F.on (kind j)) (λ on.
      let short : left j ≤ left (next j) = subst (λ (o : ReadResult A). stop o ≤ left (next j)) e ((law.placed i).longest (next j) (more i j x (law.sound i j x e) on)) in
      let less = next_left_more j (λ n. let no : true ≡ false = sym on ∙ (ap F.on n ∙ none) in cc) in
      omega arith)

  whole_form : IsForm (whole F)
  whole_form = rw some (known_form (λ x i j. F.spells x i j × Ends F j) F.begins F.first never (λ i j x h. law.form.whole i j x h.0) law.form.nothing (λ i m x h. begins_so F law.form some i m x h.0) law.form.first (λ i m x h. law.form.reach i m x h.0)
      (λ i m x h. law.form.advances some i m x h.0) (λ c i m x h r. (law.form.local c i m x h.0 r, ends_upto F.on none c m r h.1)) law.form.shut)

  pub whole_lawful : IsLawful (whole F) p
  whole_lawful = record {
    form = whole_form;
    placed = law.placed;
    sound = λ i j x h. (law.sound i j x h, stops i j x h);
    complete = λ i j x h end. law.complete i j x h.0 h.1;
    reaches = λ i m x h. inl (law.complete i m x h.0 h.1);
  }

-- where one token more begins it, what is read goes on behind the place
pub goes_behind : {A : Type 0} {F : Form A} {p : Parser A} → IsLawful F p → (i m : Input) (x : A) → (kind m ≡ k.Nothing → ⊥) → F.begins i (next m) → Reached i x m (p i)
goes_behind {p = p} law i m x some b =
    let short = (law.placed i).longest (next m) b in
    let less = next_left_more m some in
    inr (stops_below i _ (left m) (p i) (law.placed i).on (omega arith))
