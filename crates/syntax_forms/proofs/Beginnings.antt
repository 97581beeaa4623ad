-- What begins a form, in other words.
use Rattle.std.proofs.Common.{◌≡◌, ℕ, false, refl, subst, inl, inr}
use Rattle.estelle_tree.specs.declared.kind.Kind.{Kind}
use Rattle.estelle_tree.specs.declared.kind.Kind.TheVariants as k
use Rattle.estelle_tree.specs.Input.{Input}
use Rattle.estelle_tree.specs.Spelling.{Spelling, Ended}
use Rattle.estelle_tree.specs.Beginning.{Beginning, Nothing, ◌or◌, Then, After, Opens, Many, Some as BeginsSeveral, Lining}
use Rattle.syntax_forms.specs.Kinds.{is}
use Rattle.syntax_forms.specs.Form as form
use Rattle.syntax_forms.specs.Form.{Form, ◌▸◌, ◌⊕◌}
use Rattle.syntax_forms.specs.Repeats as repeats
use Rattle.syntax_forms.proofs.Lawful.{IsForm, from_then}
use Rattle.syntax_forms.proofs.TokenForms.{word_read, name_read}
use Rattle.syntax_forms.proofs.RowForms.{then_form}
use Rattle.syntax_forms.proofs.ChoiceForms.{choice_form}
use Rattle.syntax_forms.proofs.StepForms.{may_form}
use Rattle.syntax_forms.proofs.SeveralForms.{several_form}

-- the same pieces begin the one and the other
pub record Alike (B C : Beginning) : Type 0 where
  pub to : (i m : Input) → B i m → C i m
  pub back : (i m : Input) → C i m → B i m

pub same : {B : Beginning} → Alike B B
same = record { to = λ i m b. b; back = λ i m b. b }

pub via : {B C D : Beginning} → Alike B C → Alike C D → Alike B D
via e f = record { to = λ i m b. f.to i m (e.to i m b); back = λ i m d. e.back i m (f.back i m d) }

-- ---- part by part

either : {B C D E : Beginning} → ((i m : Input) → B i m → C i m) → ((i m : Input) → D i m → E i m) → (i m : Input) → (B or D) i m → (C or E) i m
either f g i m (inl b) = inl (f i m b)
either f g i m (inr d) = inr (g i m d)

pub choice : {B C D E : Beginning} → Alike B C → Alike D E → Alike (B or D) (C or E)
choice e f = record { to = either e.to f.to; back = either e.back f.back }

behind : {B C : Beginning} (word : Kind) → ((i m : Input) → B i m → C i m) → (i m : Input) → After word B i m → After word C i m
behind word f i m (inl e) = inl e
behind word f i m (inr h) = inr (h.0, h.1, f h.0 m h.2)

pub after : {B C : Beginning} (word : Kind) → Alike B C → Alike (After word B) (After word C)
after word e = record { to = behind word e.to; back = behind word e.back }

levelled : {B C : Beginning} (room : ℕ) (word : Kind) → ((i m : Input) → B i m → C i m) → (i m : Input) → Opens room word B i m → Opens room word C i m
levelled room word f i m (inl e) = inl e
levelled room word f i m (inr h) = inr (h.0, (h.1.0, h.1.1, f h.1.0 m h.1.2))

pub opens : {B C : Beginning} (room : ℕ) (word : Kind) → Alike B C → Alike (Opens room word B) (Opens room word C)
opens room word e = record { to = levelled room word e.to; back = levelled room word e.back }

parted : {A : Type 0} {B C N M : Beginning} (P : Spelling A) → ((i m : Input) → B i m → C i m) → ((i m : Input) → N i m → M i m) → (i m : Input) → Then B P N i m → Then C P M i m
parted P f g i m (inl b) = inl (f i m b)
parted P f g i m (inr h) = inr (h.0, h.1, h.2, g h.1 m h.3)

pub part : {A : Type 0} {B C N M : Beginning} (P : Spelling A) → Alike B C → Alike N M → Alike (Then B P N) (Then C P M)
part P e f = record { to = parted P e.to f.to; back = parted P e.back f.back }

pub many : {A : Type 0} {B C N M : Beginning} (P : Spelling A) → Alike B C → Alike N M → Alike (Many B P N) (Many C P M)
many P e f = record {
  to = λ i m h. (h.0, h.1, h.2, either e.to f.to h.1 m h.3);
  back = λ i m h. (h.0, h.1, h.2, either e.back f.back h.1 m h.3);
}

pub several : {A : Type 0} {B C N M : Beginning} (P : Spelling A) → Alike B C → Alike N M → Alike (BeginsSeveral B P N) (BeginsSeveral C P M)
several P e f = part P e (many P e f)

pub lining : {A : Type 0} {B C N M : Beginning} (P : Spelling A) → Alike B C → Alike N M → Alike (Lining B P N) (Lining C P M)
lining P e f = several (Ended k.Semicolon P) (part P e same) f

-- ---- a form and what comes next

-- The empty piece begins it.
abbrev pub Blank : Beginning → Type 0
Blank B = (j : Input) → B j j

-- what begins a node and what comes next, by the parts of the node
pub flat : {A N : Type 0} {F : Form A} (outer : Spelling N) → ((i m : Input) (n : N) → outer n i m → (x : A) × F.spells x i m) → ((i m : Input) (x : A) → F.spells x i m → (n : N) × outer n i m) → IsForm F → (next : Beginning) → Blank next → Alike (Then F.begins outer next) (F.onto next)
flat {A} {N} {F} outer opened made law next blank = record { to = λ i m b. from_then law next blank i m (by i m b); back = λ i m b. back i m (law.apart next i m b) }
  where
    by : (i m : Input) → Then F.begins outer next i m → Then F.begins F.spells next i m
    by i m (inl b) = inl b
    by i m (inr h) = let o = opened i h.1 h.0 h.2 in inr (o.0, h.1, o.1, h.3)

    back : (i m : Input) → Then F.begins F.spells next i m → Then F.begins outer next i m
    back i m (inl b) = inl b
    back i m (inr h) = let o = made i h.1 h.0 h.2 in inr (o.0, h.1, o.1, h.3)

-- and where nothing comes next
pub alone : {A : Type 0} {F : Form A} → IsForm F → Alike F.begins (F.onto Nothing)
alone {A} {F} law = record { to = λ i m b. law.short Nothing i m refl b; back = λ i m b. by i m (law.apart Nothing i m b) }
  where
    by : (i m : Input) → Then F.begins F.spells Nothing i m → F.begins i m
    by i m (inl b) = b
    by i m (inr h) = law.whole i m h.0 (subst (λ a. F.spells h.0 i a) h.3 h.2)

-- ---- laws of forms, as they are put together

pub word : (kind' : Kind) → is kind' k.Nothing ≡ false → IsForm (form.word kind')
word kind' is_token = (word_read kind' is_token).form

pub name : IsForm form.name
name = name_read.form

pub row : {A B : Type 0} {F : Form A} {G : Form B} → IsForm F → IsForm G → IsForm (F ▸ G)
row {F = F} {G = G} one other = then_form F G one other

pub one_of : {A B : Type 0} {F : Form A} {G : Form B} → IsForm F → IsForm G → IsForm (F ⊕ G)
one_of {F = F} {G = G} one other = choice_form F G one other

pub may_be : {A : Type 0} {F : Form A} → F.empty ≡ false → IsForm F → IsForm (repeats.may F)
may_be {F = F} some law = may_form F law some

pub repeated : {A : Type 0} {F : Form A} → F.empty ≡ false → IsForm F → IsForm (form.several F)
repeated {F = F} some law = several_form F law some
