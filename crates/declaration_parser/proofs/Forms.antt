-- The laws of forms that stand in one another.
use Rattle.std.proofs.Common.{◌≡◌, Bool, true, false, List, [], ◌∷◌, Option, Some, None, Ok, Err, sym, refl, ◌∙◌, inl, inr}
use Rattle.std.specs.Prelude.{◌||◌}
use Rattle.estelle_tree.specs.declared.kind.Kind.{Kind}
use Rattle.estelle_tree.specs.declared.kind.Kind.TheVariants as k
use Rattle.estelle_tree.specs.Input.{Input, kind, next}
use Rattle.estelle_tree.specs.Spelling.{Takes, Behind, Enclosed, Joined, Lines, MayBeLines}
use Rattle.token_reader.specs.Reader.{Parser, ReadResult, and_then, pure, sees, expect}
use Rattle.token_reader.specs.Lists.{optional_if, optional, several, ended}
use Rattle.syntax_forms.specs.Kinds.{is}
use Rattle.syntax_forms.specs.Form as form
use Rattle.syntax_forms.specs.Form.{Form, ◌▸◌}
use Rattle.syntax_forms.specs.Repeats as repeats
use Rattle.syntax_forms.specs.Reading.{one}
use Rattle.syntax_forms.proofs.KindLaws.{is_it, agree}
use Rattle.syntax_forms.proofs.Firsts.{in_a_row, kept}
use Rattle.syntax_forms.proofs.Words.{takes_first}
use Rattle.syntax_forms.proofs.NodeForms.{IsNode}
use Rattle.syntax_forms.proofs.Lawful.{IsRead, IsLawful, Starts, Follows}
use Rattle.syntax_forms.proofs.Rules as rules
use Rattle.type_parser.specs.Types.{begins_name}
use Rattle.type_parser.specs.Definitions.{part}
use Rattle.declaration_parser.specs.Forms.{enclosed, joined, part_if, may_be_part}
use Rattle.declaration_parser.specs.Productions as forms

-- ---- forms in one another

-- `from x to`
pub enclosed_lawful : {A : Type 0} {F : Form A} (p : Parser A) (opener closer : Kind) → is opener k.Nothing ≡ false → is closer k.Nothing ≡ false → IsRead F (one p) → Follows F (form.word closer) → IsLawful (forms.enclosed opener closer F) (enclosed opener closer p)
unfolding enclosed
enclosed_lawful {F = F} p opener closer opens closes read follows = rules.made (enclosed opener closer p) told (rules.and (rules.word opener opens) (rules.and read (rules.word closer closes) follows) refl).rest (λ i. refl)
  where
    told : IsNode (Enclosed opener closer F.spells) (form.word opener ▸ F ▸ form.word closer).spells (λ x span. x.1.0)
    told = record { opened = λ i m x h. ((tt, (x, tt)), (h.at, h.opens, (h.mid, h.inside, h.closes)), refl); made = λ i m x h. record { at = h.0; mid = h.2.0; opens = h.1; inside = h.2.1; closes = h.2.2 } }

-- `x k y`
pub joined_lawful : {A B : Type 0} {F : Form A} {G : Form B} (p : Parser A) (q : Parser B) (word : Kind) → is word k.Nothing ≡ false → IsRead F (one p) → IsRead G (one q) → Follows F (form.word word ▸ G) → IsLawful (forms.joined word F G) (joined word p q)
unfolding joined
joined_lawful {A} {B} {F = F} {G = G} p q word is_token first second follows = rules.made (joined word p q) told (rules.and first (rules.and (rules.word word is_token) second refl) follows).rest (λ i. refl)
  where
    told : IsNode (λ (x : A × B). Joined word F.spells G.spells x.0 x.1) (F ▸ form.word word ▸ G).spells (λ x span. (x.0, x.1.1))
    told = record { opened = λ i m x h. ((x.0, (tt, x.1)), (h.mid, h.first, (h.at, h.mark, h.second)), refl); made = λ i m x h. record { mid = h.0; at = h.2.0; first = h.1; mark = h.2.1; second = h.2.2 } }

-- parts that begin with a NAME, each before `;`
module _ {A : Type 0} {F : Form A} {p : Parser A} (law : IsLawful F p) (some : F.empty ≡ false) (follows : Follows F (form.word k.Semicolon)) (agrees : (x : Kind) → begins_name x ≡ (form.line F).first x) (taken : (i : Input) → Takes k.Name i (next i) → F.begins i (next i)) (word : Kind) (is_token : is word k.Nothing ≡ false) where
  takes : (i : Input) → Starts (form.line F) i → (form.line F).begins i (next i)
  takes i s = inl (taken i (takes_first (form.word k.Name) k.Name refl i (sym (agree begins_name (is k.Name) refl (kind i)) ∙ (agrees (kind i) ∙ s))))

  -- `k {x ";"}+`
  pub part_lawful : IsLawful (forms.part word F) (part word begins_name p)
  unfolding part
  part_lawful = rules.made (part word begins_name p) told (rules.and (rules.word word is_token) (rules.several begins_name (rules.line law follows) (rw some refl) refl (sym (agrees k.Nothing)) agrees takes) refl).rest same
    where
      told : IsNode (Behind word (Lines F.spells)) (form.word word ▸ form.lines F).spells (λ x span. x.1)
      told = record { opened = λ i m xs h. ((tt, xs), (h.at, h.mark, h.item), refl); made = λ i m x h. record { at = h.0; mark = h.1; item = h.2 } }

      same : (i : Input) → part word begins_name p i ≡ and_then (expect word i) (λ u a. and_then (several begins_name (ended k.Semicolon p) a) (λ xs. pure xs))
      same i = kept (part word begins_name p i) ∙ sym (in_a_row (expect word i) (λ u. several begins_name (ended k.Semicolon p)) (λ xs. pure xs))

  listed : Option (List A) → List A
  listed None = []
  listed (Some xs) = xs

  -- `[k {x ";"}+]`
  pub may_be_part_read : IsRead (forms.may_be_part word F) (one (may_be_part word begins_name p))
  unfolding may_be_part sees optional listed
  may_be_part_read = rules.part (rules.made (may_be_part word begins_name p) told (rules.may (is word) part_lawful refl tells started (sym (tells k.Nothing) ∙ is_token)).rest same)
    where
      tells : (x : Kind) → is word x ≡ (forms.part word F).first x
      tells x = by (is word x)
        where
          by : (b : Bool) → b ≡ (b || false)
          by true = refl
          by false = refl

      started : (i : Input) → Starts (forms.part word F) i → (forms.part word F).begins i (next i)
      started i s = inr (next i, record { kind = is_it word (kind i) (tells (kind i) ∙ s); next = refl }, inl (inl (law.form.nothing (next i))))

      told : IsNode (MayBeLines word F.spells) (repeats.may (forms.part word F)).spells (λ o span. listed o)
      told = record { opened = opened; made = made }
        where
          opened : (i m : Input) (xs : List A) → MayBeLines word F.spells xs i m → (o : Option (List A)) × (repeats.may (forms.part word F)).spells o i m × (listed o ≡ xs)
          opened i m [] h = (None, h, refl)
          opened i m (x ∷ xs) h = (Some (x ∷ xs), h, refl)

          made : (i m : Input) (o : Option (List A)) → (repeats.may (forms.part word F)).spells o i m → MayBeLines word F.spells (listed o) i m
          made i m None h = h
          made i m (Some []) h = absurd h.item
          made i m (Some (x ∷ xs)) h = h

      there_is : (o : ReadResult (List A)) → o ≡ and_then (and_then o (λ xs. pure (Some xs))) (λ o. pure (listed o))
      there_is (Ok p) = refl
      there_is (Err e) = refl

      same : (i : Input) → may_be_part word begins_name p i ≡ and_then (optional (is word) (part word begins_name p) i) (λ o. pure (listed o))
      same i = by (is word (kind i))
        where
          by : (b : Bool) → part_if b (part word begins_name p) i ≡ and_then (optional_if b (part word begins_name p) i) (λ o. pure (listed o))
          by true = there_is (part word begins_name p i)
          by false = refl
