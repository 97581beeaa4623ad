-- The laws of names, constants and types: each form is read by its parser.
use Rattle.std.proofs.Common.{◌≡◌, ℕ, ℤ, zero, suc, Bool, true, false, List, Option, Some, None, Ok, sym, refl, ap, ◌∙◌, subst, inl, inr, ◌⊎◌}
use Rattle.estelle_tree.specs.declared.kind.Kind.{Kind}
use Rattle.estelle_tree.specs.declared.kind.Kind.TheVariants as k
use Rattle.estelle_tree.specs.declared.span.Span.{Span}
use Rattle.estelle_tree.specs.declared.tree.name.Name.{Name}
use Rattle.estelle_tree.specs.declared.tree.name.NameList.{NameList}
use Rattle.estelle_tree.specs.declared.tree.type_expr.Sign.{Sign}
use Rattle.estelle_tree.specs.declared.tree.type_expr.Sign.TheVariants as sign
use Rattle.estelle_tree.specs.declared.tree.type_expr.Const.{Const}
use Rattle.estelle_tree.specs.declared.tree.type_expr.Const.TheVariants as const
use Rattle.estelle_tree.specs.declared.tree.type_expr.Ordinal.{Ordinal}
use Rattle.estelle_tree.specs.declared.tree.type_expr.Ordinal.TheVariants as an_ordinal
use Rattle.estelle_tree.specs.Input.{Input, kind, next, left, start, between}
use Rattle.estelle_tree.specs.Beginning.{Beginning, ◌or◌, OneToken, After}
use Rattle.estelle_tree.specs.BeginsTypes.{BeginsTypeLayer, BeginsTypeBelow, BeginsType}
use Rattle.estelle_tree.specs.declared.tree.type_expr.TypeExpr.{TypeExpr, out-TypeExpr, roll-TypeExpr}
use Rattle.estelle_tree.specs.declared.tree.type_expr.TypeExpr.TheVariants as a_type
use Rattle.estelle_tree.specs.declared.tree.type_expr.TypeExpr.TheOpen.{TypeExpr-F}
use Rattle.estelle_tree.specs.declared.tree.type_expr.TypeExpr.TheVariants.{outs-Ordinal, outs-Array, outs-Fields, outs-Set, rolls-Ordinal, rolls-Array, rolls-Fields, rolls-Set}
use Rattle.estelle_tree.specs.declared.tree.type_expr.TypeExpr.TheViews.{roll-out-TypeExpr, roll-out-Fields, roll-out-TypedNames, out-roll-Fields}
use Rattle.estelle_tree.specs.declared.tree.type_expr.Fields.{Fields, out-Fields, roll-Fields}
use Rattle.estelle_tree.specs.declared.tree.type_expr.TypedNames.{out-TypedNames, roll-TypedNames}
use Rattle.estelle_tree.specs.Spans.{TypeExprLayer}
use Rattle.estelle_tree.specs.Spelling.{Spelling, Takes}
use Rattle.estelle_tree.specs.Types.{IsNames, of_sign, IsConst, IsOrdinal, AreTyped, AreFields, IsTypeLayer, TypeBelow, IsType}
use Rattle.token_reader.specs.Reader.{Parser, span_since, name, number, char, sees, after, eat, expect}
use Rattle.token_reader.proofs.Sound.{ok_pair}
use Rattle.token_reader.specs.Lists.{mark, separated}
use Rattle.type_parser.specs.Types.{names, sign_of, number_from, name_from, char_from, constant_by, constant, enumeration, subrange, ordinal_name, ordinal, begins_name, typed_over, fields_over, array_over, record_over, set_type, ordinal_type, type_by, type_over, type_below, type_expr}
use Rattle.syntax_forms.specs.Kinds.{is}
use Rattle.syntax_forms.specs.Form as form
use Rattle.syntax_forms.specs.Form.{Form, ◌▸◌, ◌⊕◌}
use Rattle.syntax_forms.specs.Reading.{Reading, one, ◌then◌, choose, looked, levelled, closed}
use Rattle.syntax_forms.specs.Types as forms
use Rattle.syntax_forms.specs.Onward.{Below, IsOnward}
use Rattle.syntax_forms.proofs.KindLaws.{is_it, it_is, not_is, within, ends_always}
use Rattle.syntax_forms.proofs.Signs.{sign_forth, sign_back}
use Rattle.syntax_forms.proofs.Steps.{step, expects_one, exact_below}
use Rattle.syntax_forms.proofs.Placing.{untaken, other_token, unmarked}
use Rattle.syntax_forms.proofs.ListForms.{sections_read}
use Rattle.syntax_forms.proofs.ChoiceForms.{level_refused, chosen_one}
use Rattle.syntax_forms.proofs.MarkForms.{eaten_there, eaten_other, eat_then}
use Rattle.syntax_forms.proofs.AheadForms.{IsAhead, unless_last}
use Rattle.syntax_forms.proofs.TokenForms.{name_known, char_known, name_read}
use Rattle.syntax_forms.proofs.NodeForms.{IsNode, one_lawful, lawful_onward, begun_lawful, known_lawful, never_lawful}
use Rattle.syntax_forms.proofs.Lawful.{IsRead, IsLawful}
use Rattle.syntax_forms.proofs.Rules as rules

-- ---- Names = NAME {"," NAME}

names_is : IsNode IsNames (form.separated k.Comma form.name).spells (λ ns span. record { names = ns; span = span })
names_is = record {
  opened = λ i m ns h. (ns.names, h.names, ap (λ span. record { names = ns.names; span = span }) (sym h.span));
  made = λ i m ns h. record { names = h; span = refl };
}

pub names_lawful : IsLawful forms.names names
unfolding names
names_lawful = rules.spanned names names_is refl (rules.separated k.Comma (one_lawful rules.name.rest) refl refl).rest (λ i. refl)

-- ---- Const = ["+" | "-"] (NUMBER | NAME) | CHAR

make_constant : (Option Sign × (ℤ ⊎ Name)) ⊎ ℕ → Span → Const
make_constant (inl (s, inl n)) span = const.Number s n span
make_constant (inl (s, inr n)) span = const.Name s n span
make_constant (inr c) span = const.Char c span

abbrev Constant : Form ((Option Sign × (ℤ ⊎ Name)) ⊎ ℕ)
Constant = form.mark sign_of of_sign ▸ (form.number ⊕ form.name) ⊕ form.char

constant_is : IsNode IsConst Constant.spells make_constant
unfolding make_constant
constant_is = record { opened = opened; made = made }
  where
    opened : (i m : Input) (c : Const) → IsConst c i m → (p : (Option Sign × (ℤ ⊎ Name)) ⊎ ℕ) × Constant.spells p i m × (make_constant p (between i m) ≡ c)
    opened i m (const.Number s n span) h = (inl (s, inl n), (h.0.at, h.0.sign, h.0.item), ap (const.Number s n) (sym h.1))
    opened i m (const.Name s n span) h = (inl (s, inr n), (h.0.at, h.0.sign, h.0.item), ap (const.Name s n) (sym h.1))
    opened i m (const.Char c span) h = (inr c, h.0, ap (const.Char c) (sym h.1))

    made : (i m : Input) (p : (Option Sign × (ℤ ⊎ Name)) ⊎ ℕ) → Constant.spells p i m → IsConst (make_constant p (between i m)) i m
    made i m (inl (s, inl n)) h = (record { at = h.0; sign = h.1; item = h.2 }, refl)
    made i m (inl (s, inr n)) h = (record { at = h.0; sign = h.1; item = h.2 }, refl)
    made i m (inr c) h = (h, refl)

-- the do-definition reads the sign first
abbrev signed : Reading (Option Sign × (ℤ ⊎ Name))
signed = one (mark sign_of) then choose (is k.Number) (one number) (one name)

constant_same : (i : Input) → constant i ≡ choose (form.mark sign_of of_sign ▸ (form.number ⊕ form.name)).first signed (one char) Const (closed make_constant (start i)) i
unfolding constant number_from name_from char_from make_constant
constant_same i = by (kind i) refl
  where
    behind : (s : Sign) (a : Input) (x : Kind) → kind a ≡ x → constant_by (start i) (Some s) x a ≡ choose (is k.Number) (one number) (one name) Const (λ y. closed make_constant (start i) (inl (Some s, y))) a
    behind s a k.Number e = rw e refl
    behind s a k.Name e = rw e refl
    behind s a x e = rw (e, name_known.other a (λ d. let no : x ≡ k.Name = sym e ∙ d in cc)) refl

    by : (x : Kind) → kind i ≡ x → constant i ≡ choose (form.mark sign_of of_sign ▸ (form.number ⊕ form.name)).first signed (one char) Const (closed make_constant (start i)) i
    by k.Plus e = rw (e, e) (behind sign.Plus (next i) (kind (next i)) refl)
    by k.Minus e = rw (e, e) (behind sign.Minus (next i) (kind (next i)) refl)
    by k.Number e = rw (e, e, e) refl
    by k.Name e = rw (e, e, e) refl
    by k.Char e = rw (e, e) refl
    by x e = rw (e, e, char_known.other i (λ d. let no : x ≡ k.Char = sym e ∙ d in cc)) refl

pub constant_lawful : IsLawful forms.constant constant
constant_lawful =
    rules.spanned constant constant_is refl (rules.or
    (rules.and (rules.mark sign_of of_sign sign_forth sign_back refl) (rules.or rules.number rules.name refl refl) refl)
    rules.char refl refl).rest constant_same

-- ---- Ord = NAME | "(" Names ")" | Const ".." Const, where a NAME before ".." is a constant

abbrev Bracketed : Form ((Unit {0} × (NameList × Unit {0})) ⊎ (Const × (Unit {0} × Const)))
Bracketed = forms.enumeration ⊕ forms.subrange

make_ordinal : Name ⊎ ((Unit {0} × (NameList × Unit {0})) ⊎ (Const × (Unit {0} × Const))) → Span → Ordinal
make_ordinal (inl n) span = an_ordinal.Name n
make_ordinal (inr (inl (u, (ns, v)))) span = an_ordinal.Enumeration ns span
make_ordinal (inr (inr (low, (u, high)))) span = an_ordinal.Subrange low high span

ordinal_is : IsNode IsOrdinal (form.unless (is k.Dots) form.name Bracketed).spells make_ordinal
unfolding make_ordinal
ordinal_is = record { opened = opened; made = made }
  where
    opened : (i m : Input) (o : Ordinal) → IsOrdinal o i m → (p : Name ⊎ ((Unit {0} × (NameList × Unit {0})) ⊎ (Const × (Unit {0} × Const)))) × (form.unless (is k.Dots) form.name Bracketed).spells p i m × (make_ordinal p (between i m) ≡ o)
    opened i m (an_ordinal.Name n) h = (inl n, h, refl)
    opened i m (an_ordinal.Enumeration ns span) h = (inr (inl (tt, (ns, tt))), (h.0.at, h.0.opens, (h.0.mid, h.0.inside, h.0.closes)), ap (an_ordinal.Enumeration ns) (sym h.1))
    opened i m (an_ordinal.Subrange low high span) h = (inr (inr (low, (tt, high))), (h.0.mid, h.0.first, (h.0.at, h.0.mark, h.0.second)), ap (an_ordinal.Subrange low high) (sym h.1))

    made : (i m : Input) (p : Name ⊎ ((Unit {0} × (NameList × Unit {0})) ⊎ (Const × (Unit {0} × Const)))) → (form.unless (is k.Dots) form.name Bracketed).spells p i m → IsOrdinal (make_ordinal p (between i m)) i m
    made i m (inl n) h = h
    made i m (inr (inl (u, (ns, v)))) h = (record { at = h.0; mid = h.2.0; opens = h.1; inside = h.2.1; closes = h.2.2 }, refl)
    made i m (inr (inr (low, (u, high)))) h = (record { mid = h.0; at = h.2.0; first = h.1; mark = h.2.1; second = h.2.2 }, refl)

enumeration_read : IsRead forms.enumeration (one (expect k.OpenParenthesis) then one names then one (expect k.CloseParenthesis))
enumeration_read = rules.and (rules.word k.OpenParenthesis refl) (rules.and (rules.part names_lawful) (rules.word k.CloseParenthesis refl) refl) refl

subrange_read : IsRead forms.subrange (one constant then one (expect k.Dots) then one constant)
subrange_read = rules.and (rules.part constant_lawful) (rules.and (rules.word k.Dots refl) (rules.part constant_lawful) refl) refl

abbrev read_bracketed : Reading ((Unit {0} × (NameList × Unit {0})) ⊎ (Const × (Unit {0} × Const)))
read_bracketed = choose forms.enumeration.first (one (expect k.OpenParenthesis) then one names then one (expect k.CloseParenthesis)) (one constant then one (expect k.Dots) then one constant)

bracketed_read : IsRead Bracketed read_bracketed
bracketed_read = rules.or enumeration_read subrange_read refl refl

-- a constant that begins with a name is that name
name_read_alone : (i : Input) → kind i ≡ k.Name → (c : Const) × (constant i ≡ Ok (c, next i))
unfolding constant name_from
name_read_alone i e = let n = name_known.there i e in (const.Name None n.0 (span_since (start i) (next i)), rw (e, e, n.1) refl)

named_alone : (c : Const) (i m : Input) → kind i ≡ k.Name → IsConst c i m → next i ≡ m
named_alone c i m e h = let n = name_read_alone i e in ap (λ p. p.1) (ok_pair n.0 c (next i) m (sym n.1 ∙ constant_lawful.complete i m c h (ends_always forms.constant.on refl (kind m))))

ordinal_ahead : IsAhead (is k.Dots) form.name Bracketed name_read.rest.form bracketed_read.form read_bracketed
ordinal_ahead = record {
  alone = λ i m n h e. h.next;
  needs = needs;
  passes = passes;
  covers = λ i m s e b. inr (inl (inl (inl (inr b))));
  only = λ i m s e b. only i m (is_it k.Name (kind i) s) (not_is k.Dots (kind (next i)) e) b;
}
  where
    needs : (i m : Input) (y : (Unit {0} × (NameList × Unit {0})) ⊎ (Const × (Unit {0} × Const))) → is k.Name (kind i) ≡ true → Bracketed.spells y i m → is k.Dots (kind (next i)) ≡ true
    needs i m (inl y) s h = absurd (let no : k.OpenParenthesis ≡ k.Name = sym h.1.kind ∙ is_it k.Name (kind i) s in cc)
    needs i m (inr y) s h = it_is k.Dots (kind (next i)) (ap kind (named_alone y.0 i h.0 (is_it k.Name (kind i) s) h.1) ∙ h.2.1.kind)

    passes : (C : Type 0) (f : (Unit {0} × (NameList × Unit {0})) ⊎ (Const × (Unit {0} × Const)) → Parser C) → ((y : (Unit {0} × (NameList × Unit {0})) ⊎ (Const × (Unit {0} × Const))) → IsOnward (f y)) → (i : Input) → is k.Name (kind i) ≡ true → is k.Dots (kind (next i)) ≡ true → Below i (left (next i)) (read_bracketed C f i)
    passes C f on i s e =
        let n = name_read_alone i (is_it k.Name (kind i) s) in
        rw (is_it k.Name (kind i) s)
        (exact_below constant _ i (next i) (left (next i)) n.0 (lawful_onward forms.constant constant constant_lawful) n.1
        (step (next i) (left (next i)) (expect k.Dots (next i)) _ (expects_one k.Dots (next i) (λ d. cc) (is_it k.Dots (kind (next i)) e)) (λ u. (rules.part constant_lawful).onward C _ (λ high. on (inr (n.0, (tt, high)))))))

    only : (i m : Input) → kind i ≡ k.Name → (kind (next i) ≡ k.Dots → ⊥) → Bracketed.begins i m → OneToken k.Name i m
    only i m e single (inl h) = inl (untaken k.OpenParenthesis (forms.names ▸ form.word k.CloseParenthesis).begins i (λ d. let no : k.Name ≡ k.OpenParenthesis = sym e ∙ d in cc) m h)
    only i m e single (inr (inl (inl (inl (inl h))))) = inl (other_token k.Number i (λ d. let no : k.Name ≡ k.Number = sym e ∙ d in cc) m h)
    only i m e single (inr (inl (inl (inl (inr h))))) = h
    only i m e single (inr (inl (inl (inr h)))) = inl (unmarked sign_of of_sign sign_forth sign_back (form.number ⊕ form.name).begins i (ap sign_of e) m h)
    only i m e single (inr (inl (inr h))) = inl (other_token k.Char i (λ d. let no : k.Name ≡ k.Char = sym e ∙ d in cc) m h)
    only i m e single (inr (inr h)) = by h.3
      where
        here : next i ≡ h.1
        here = named_alone h.0 i h.1 e h.2

        by : After k.Dots forms.constant.begins h.1 m → OneToken k.Name i m
        by (inl same) = inr (record { kind = e; next = here ∙ same })
        by (inr t) = absurd (single (ap kind here ∙ t.1.kind))

ordinal_same : (i : Input) → ordinal i ≡ looked (is k.Dots) (is k.Name) (one name) read_bracketed Ordinal (closed make_ordinal (start i)) i
unfolding ordinal enumeration subrange ordinal_name make_ordinal
ordinal_same i = by (kind i) refl (kind (next i)) refl
  where
    by : (x : Kind) → kind i ≡ x → (y : Kind) → kind (next i) ≡ y → ordinal i ≡ looked (is k.Dots) (is k.Name) (one name) read_bracketed Ordinal (closed make_ordinal (start i)) i
    by k.OpenParenthesis e y d = rw (e, e) refl
    by k.Name e k.Dots d = rw (e, d, e) refl
    by k.Name e y d = rw (e, d) refl
    by x e y d = rw (e, e) refl

pub ordinal_lawful : IsLawful forms.ordinal ordinal
ordinal_lawful = rules.spanned ordinal ordinal_is refl (unless_last (is k.Dots) form.name Bracketed name_read.rest.form bracketed_read.form (one name) read_bracketed refl name_read.rest bracketed_read.rest ordinal_ahead) ordinal_same

-- ---- types, over those one level down

-- the words that open a level
abbrev is_structured : Kind → Bool
is_structured k.Array = true
is_structured k.Record = true
is_structured k.Set = true
is_structured _ = false

module _ (T : Spelling TypeExpr) (B : Beginning) (below : Parser TypeExpr) (law : IsLawful (forms.below T B) below) where
  typed_is : IsNode (AreTyped T) (forms.names ▸ form.word k.Colon ▸ forms.below T B).spells (λ p span. roll-TypedNames (record { names = p.0; type_expr = p.1.1 }))
  typed_is = record {
    opened = λ i m x h. (((out-TypedNames x).names, (tt, (out-TypedNames x).type_expr)), (h.mid, h.first, (h.at, h.mark, h.second)), roll-out-TypedNames x);
    made = λ i m p h. record { mid = h.0; at = h.2.0; first = h.1; mark = h.2.1; second = h.2.2 };
  }

  -- `Names ":" Type`
  pub typed_lawful : IsLawful (forms.typed T B) (typed_over below)
  unfolding typed_over
  typed_lawful = rules.made (typed_over below) typed_is (rules.and (rules.part names_lawful) (rules.and (rules.word k.Colon refl) (rules.part law) refl) refl).rest (λ i. refl)

  fields_is : IsNode (AreFields T) (form.sections k.Semicolon (forms.typed T B)).spells (λ p span. roll-Fields (record { sections = p.0; semicolon = p.1; span = span }))
  fields_is = record {
    opened = λ i m fs h. (((out-Fields fs).sections, (out-Fields fs).semicolon), (h.mid, h.sections, h.semicolon), ap (λ span. roll-Fields (record { sections = (out-Fields fs).sections; semicolon = (out-Fields fs).semicolon; span = span })) (sym h.span) ∙ roll-out-Fields fs);
    made = λ i m p h. record { mid = h.0; sections = rw out-roll-Fields h.1; semicolon = rw out-roll-Fields h.2; span = rw out-roll-Fields refl };
  }

  -- Fields = Names ":" Type {";" Names ":" Type} [";"]
  pub fields_lawful : IsLawful (forms.fields T B) (fields_over below)
  unfolding fields_over
  fields_lawful = rules.spanned (fields_over below) fields_is refl (sections_read k.Semicolon (forms.typed T B) (typed_over below) typed_lawful refl refl refl refl begins_name named takes).rest (λ i. refl)
    where
      named : (x : Kind) → begins_name x ≡ (forms.typed T B).first x
      named k.Name = refl
      named _ = refl

      takes : (i : Input) → (forms.typed T B).first (kind i) ≡ true → (forms.typed T B).begins i (next i)
      takes i s = inl (inl (inr (record { kind = is_it k.Name (kind i) (within (forms.typed T B).first (is k.Name) refl (kind i) s); next = refl })))

  module _ (room : ℕ) where
    abbrev Structured : Type 0
    Structured = (Unit {0} × (List Ordinal × (Unit {0} × (Unit {0} × TypeExpr)))) ⊎ ((Fields × Unit {0}) ⊎ (Unit {0} × Ordinal))

    make_type : (Bool × Structured) ⊎ Ordinal → Span → TypeExpr
    make_type (inl (packed, inl (u, (indices, (v, (w, component)))))) span = a_type.Array packed indices component span
    make_type (inl (packed, inr (inl (fields, u)))) span = a_type.Fields packed fields span
    make_type (inl (packed, inr (inr (u, base)))) span = a_type.Set packed base span
    make_type (inr o) span = a_type.Ordinal o

    type_is : IsNode (λ t. IsTypeLayer room T (out-TypeExpr t)) (forms.structured room T B ⊕ forms.ordinal).spells make_type
    unfolding make_type
    type_is = record { opened = λ i m t h. of_layer i m t (out-TypeExpr t) (roll-out-TypeExpr t) h; made = made }
      where
        of_layer : (i m : Input) (t : TypeExpr) (l : TypeExprLayer) → roll-TypeExpr l ≡ t → IsTypeLayer room T l i m → (p : (Bool × Structured) ⊎ Ordinal) × (forms.structured room T B ⊕ forms.ordinal).spells p i m × (make_type p (between i m) ≡ t)
        of_layer i m t (TypeExpr-F.Ordinal o) e h = (inr o, h, sym (rolls-Ordinal o) ∙ e)
        of_layer i m t (TypeExpr-F.Array packed indices component span) e h = (
          inl (packed, inl (tt, (indices, (tt, (tt, component))))),
          (h.1.at, h.1.packed, (h.0, (h.1.after, h.1.array, (h.1.indices.at, h.1.indices.opens, (h.1.indices.mid, h.1.indices.inside, (h.1.mid, h.1.indices.closes, (h.1.component.at, h.1.component.mark, h.1.component.item))))))),
          ap (a_type.Array packed indices component) (sym h.2) ∙ sym (rolls-Array packed indices component span) ∙ e,
        )
        of_layer i m t (TypeExpr-F.Fields packed fields span) e h = (
          inl (packed, inr (inl (fields, tt))),
          (h.1.at, h.1.packed, (h.0, (h.1.fields.at, h.1.fields.opens, (h.1.fields.mid, h.1.fields.inside, h.1.fields.closes)))),
          ap (a_type.Fields packed fields) (sym h.2) ∙ sym (rolls-Fields packed fields span) ∙ e,
        )
        of_layer i m t (TypeExpr-F.Set packed base span) e h = (
          inl (packed, inr (inr (tt, base))),
          (h.1.at, h.1.packed, (h.0, (h.1.after, h.1.set, (h.1.base.at, h.1.base.mark, h.1.base.item)))),
          ap (a_type.Set packed base) (sym h.2) ∙ sym (rolls-Set packed base span) ∙ e,
        )

        layered : (i m : Input) (t : TypeExpr) (l : TypeExprLayer) → out-TypeExpr t ≡ l → IsTypeLayer room T l i m → IsTypeLayer room T (out-TypeExpr t) i m
        layered i m t l e h = subst (λ l. IsTypeLayer room T l i m) (sym e) h

        made : (i m : Input) (p : (Bool × Structured) ⊎ Ordinal) → (forms.structured room T B ⊕ forms.ordinal).spells p i m → IsTypeLayer room T (out-TypeExpr (make_type p (between i m))) i m
        made i m (inr o) h = layered i m _ _ (outs-Ordinal o) h
        made i m (inl (packed, inl (u, (indices, (v, (w, component)))))) (a, p, (fits, (b, x, (c, y, (d, z, (e, g, (f, q, r))))))) =
            layered i m _ _ (outs-Array packed indices component (between i m))
            (fits, record { at = a; after = b; mid = e; packed = p; array = x; indices = record { at = c; mid = d; opens = y; inside = z; closes = g }; component = record { at = f; mark = q; item = r } }, refl)
        made i m (inl (packed, inr (inl (fields, u)))) (a, p, (fits, (b, x, (c, y, z)))) =
            layered i m _ _ (outs-Fields packed fields (between i m)) (fits, record { at = a; packed = p; fields = record { at = b; mid = c; opens = x; inside = y; closes = z } }, refl)
        made i m (inl (packed, inr (inr (u, base)))) (a, p, (fits, (b, x, (c, y, z)))) =
            layered i m _ _ (outs-Set packed base (between i m)) (fits, record { at = a; after = b; packed = p; set = x; base = record { at = c; mark = y; item = z } }, refl)

    array_read : IsRead (forms.array room T B) (levelled room k.Array (one (expect k.OpenBracket) then one (separated k.Comma ordinal) then one (expect k.CloseBracket) then one (expect k.Of) then one below))
    array_read =
        rules.level room k.Array refl (rules.and (rules.word k.OpenBracket refl) (rules.and (rules.separated k.Comma ordinal_lawful refl refl)
        (rules.and (rules.word k.CloseBracket refl) (rules.and (rules.word k.Of refl) (rules.part law) refl) refl) refl) refl)

    record_read : IsRead (forms.a_record room T B) (levelled room k.Record (one (fields_over below) then one (expect k.End)))
    record_read = rules.level room k.Record refl (rules.and (rules.part fields_lawful) (rules.word k.End refl) refl)

    set_read : IsRead (forms.a_set room) (levelled room k.Set (one (expect k.Of) then one ordinal))
    set_read = rules.level room k.Set refl (rules.and (rules.word k.Of refl) (rules.part ordinal_lawful) refl)

    abbrev read_forms : Reading Structured
    read_forms =
        choose (forms.array room T B).first (levelled room k.Array (one (expect k.OpenBracket) then one (separated k.Comma ordinal) then one (expect k.CloseBracket) then one (expect k.Of) then one below))
        (choose (forms.a_record room T B).first (levelled room k.Record (one (fields_over below) then one (expect k.End))) (levelled room k.Set (one (expect k.Of) then one ordinal)))

    abbrev read_type : Reading ((Bool × Structured) ⊎ Ordinal)
    read_type = choose (forms.structured room T B).first (one (eat k.Packed) then read_forms) (one ordinal)

    type_same : (i : Input) → type_over room below i ≡ read_type TypeExpr (closed make_type (start i)) i
    unfolding type_over array_over record_over set_type ordinal_type make_type
    type_same i = by (kind i) refl
      where
        there : (x : Kind) (packed : Bool) (m : Input) → kind m ≡ x → is_structured x ≡ true → type_by room below (start i) packed x m ≡ read_forms TypeExpr (λ y. closed make_type (start i) (inl (packed, y))) m
        there k.Array packed m e s = rw e refl
        there k.Record packed m e s = rw (e, e) refl
        there k.Set packed m e s = rw (e, e) refl
        there x packed m e s = absurd (cc)

        behind : (x : Kind) (m : Input) → kind m ≡ x → type_by room below (start i) true x m ≡ read_forms TypeExpr (λ y. closed make_type (start i) (inl (true, y))) m
        behind k.Array m e = there k.Array true m e refl
        behind k.Record m e = there k.Record true m e refl
        behind k.Set m e = there k.Set true m e refl
        behind x m e = rw (e, e, level_refused room k.Set (one (expect k.Of) then one ordinal) (λ y. closed make_type (start i) (inl (true, inr (inr y)))) m (λ d. let no : x ≡ k.Set = sym e ∙ d in cc)) refl

        -- the flag is eaten, and one of the forms comes
        eaten : (b : Bool) (m : Input) → (sees k.Packed i ≡ b) × (after k.Packed i ≡ m) → (forms.structured room T B).first (kind i) ≡ true
            → type_by room below (start i) b (kind m) m ≡ read_forms TypeExpr (λ y. closed make_type (start i) (inl (b, y))) m → type_over room below i ≡ read_type TypeExpr (closed make_type (start i)) i
        eaten b m p s e =
            let first : type_over room below i ≡ type_by room below (start i) b (kind m) m = rw (p.0, p.1) refl in
            let two = chosen_one (forms.structured room T B).first (one (eat k.Packed) then read_forms) (one ordinal) (closed make_type (start i)) i s in
            let three = eat_then k.Packed (λ b. read_forms TypeExpr (λ y. closed make_type (start i) (inl (b, y)))) i m b p in
            first ∙ e ∙ sym (two ∙ three)

        other : (x : Kind) → kind i ≡ x → (x ≡ k.Packed → ⊥) → (sees k.Packed i ≡ false) × (after k.Packed i ≡ i)
        other x e differs = eaten_other k.Packed i (λ d. differs (sym e ∙ d))

        bare : (x : Kind) → kind i ≡ x → (x ≡ k.Packed → ⊥) → (forms.structured room T B).first x ≡ true → is_structured x ≡ true → type_over room below i ≡ read_type TypeExpr (closed make_type (start i)) i
        bare x e differs s told = eaten false i (other x e differs) (ap (forms.structured room T B).first e ∙ s) (ap (λ x. type_by room below (start i) false x i) e ∙ there x false i e told)

        by : (x : Kind) → kind i ≡ x → type_over room below i ≡ read_type TypeExpr (closed make_type (start i)) i
        by k.Packed e = eaten true (next i) (eaten_there k.Packed i e) (ap (forms.structured room T B).first e) (behind (kind (next i)) (next i) refl)
        by k.Array e = bare k.Array e (λ d. cc) refl refl
        by k.Record e = bare k.Record e (λ d. cc) refl refl
        by k.Set e = bare k.Set e (λ d. cc) refl refl
        by x e = let p = other x e (λ d. cc) in rw (p.0, p.1, e) refl

    type_layer_lawful : IsLawful (forms.type_layer room T B) (type_over room below)
    type_layer_lawful =
        begun_lawful (BeginsTypeLayer room T B) _ (type_over room below)
        (rules.spanned (type_over room below) type_is refl (rules.or (rules.and (rules.flag k.Packed refl) (rules.or array_read (rules.or record_read set_read refl refl) refl refl) refl) (rules.part ordinal_lawful) refl refl).rest type_same)
        to back
      where
        behind_packed : (i m a : Input) → Takes k.Packed i a → ((forms.array room T B).begins or (forms.a_record room T B).begins or (forms.a_set room).begins) a m → BeginsTypeLayer room T B i m
        behind_packed i m a t (inl h) = inr (inl (inr (inr (a, t, h))))
        behind_packed i m a t (inr (inl h)) = inr (inr (inl (inr (inr (a, t, h)))))
        behind_packed i m a t (inr (inr h)) = inr (inr (inr (inr (inr (a, t, h)))))

        to : (i m : Input) → (forms.structured room T B ⊕ forms.ordinal).begins i m → BeginsTypeLayer room T B i m
        to i m (inr h) = inl h
        to i m (inl (inl (inl h))) = inr (inl (inl h))
        to i m (inl (inl (inr (inl h)))) = inr (inr (inl (inl h)))
        to i m (inl (inl (inr (inr h)))) = inr (inr (inr (inl h)))
        to i m (inl (inr (inl e))) = inr (inl (inr (inl e)))
        to i m (inl (inr (inr t))) = behind_packed i m t.0 t.1 t.2

        back : (i m : Input) → BeginsTypeLayer room T B i m → (forms.structured room T B ⊕ forms.ordinal).begins i m
        back i m (inl h) = inr h
        back i m (inr (inl (inl h))) = inl (inl (inl h))
        back i m (inr (inl (inr (inl e)))) = inl (inr (inl e))
        back i m (inr (inl (inr (inr t)))) = inl (inr (inr (t.0, t.1, inl t.2)))
        back i m (inr (inr (inl (inl h)))) = inl (inl (inr (inl h)))
        back i m (inr (inr (inl (inr (inl e))))) = inl (inr (inl e))
        back i m (inr (inr (inl (inr (inr t))))) = inl (inr (inr (t.0, t.1, inr (inl t.2))))
        back i m (inr (inr (inr (inl h)))) = inl (inl (inr (inr h)))
        back i m (inr (inr (inr (inr (inl e))))) = inl (inr (inl e))
        back i m (inr (inr (inr (inr (inr t))))) = inl (inr (inr (t.0, t.1, inr (inr t.2))))

-- ---- where this many levels may open

pub type_below_lawful : (room : ℕ) → IsLawful (forms.below (TypeBelow room) (BeginsTypeBelow room)) (type_below room)
unfolding type_below
type_below_lawful zero = never_lawful false (TypeBelow zero) forms.type_first forms.type_on (λ i j t h. h)
type_below_lawful (suc room) =
    known_lawful (forms.type_layer room (TypeBelow room) (BeginsTypeBelow room)) (type_over room (type_below room)) (type_layer_lawful (TypeBelow room) (BeginsTypeBelow room) (type_below room) (type_below_lawful room) room)
    forms.type_first forms.type_on refl refl

pub type_lawful : (room : ℕ) → IsLawful (forms.below (IsType room) (BeginsType room)) (type_expr room)
type_lawful room = type_below_lawful (suc room)
