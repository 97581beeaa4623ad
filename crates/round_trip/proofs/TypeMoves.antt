-- Names, constants and types, moved.
use Rattle.std.proofs.Common.{◌≡◌, ℕ, zero, suc, map, Option, sym, refl, ap, ◌∙◌, subst}
use Rattle.estelle_tree.specs.declared.kind.Kind.TheVariants as k
use Rattle.estelle_tree.specs.declared.tree.type_expr.Sign.{Sign}
use Rattle.estelle_tree.specs.declared.tree.type_expr.Const.TheVariants as const
use Rattle.estelle_tree.specs.declared.tree.type_expr.Ordinal.TheVariants as ordinal
use Rattle.estelle_tree.specs.declared.tree.type_expr.TypeExpr.{TypeExpr, out-TypeExpr, roll-TypeExpr, map-TypeExpr, fold_out-TypeExpr, fold-roll-TypeExpr}
use Rattle.estelle_tree.specs.declared.tree.type_expr.TypeExpr.TheOpen.{TypeExpr-F, Fields-F, TypedNames-F}
use Rattle.estelle_tree.specs.declared.tree.type_expr.TypeExpr.TheFolds.{fold_out-Fields, fold_out-TypedNames, fold-roll-Fields, fold-roll-TypedNames}
use Rattle.estelle_tree.specs.declared.tree.type_expr.TypeExpr.TheViews.{out-roll-TypeExpr, out-roll-Fields, out-roll-TypedNames}
use Rattle.estelle_tree.specs.declared.tree.type_expr.Fields.{Fields, out-Fields, roll-Fields}
use Rattle.estelle_tree.specs.declared.tree.type_expr.TypedNames.{TypedNames, out-TypedNames, roll-TypedNames}
use Rattle.estelle_tree.specs.Input.{next, between}
use Rattle.estelle_tree.specs.Spans.{TypeExprLayer, nowhere}
use Rattle.estelle_tree.specs.Spelling.{Spelling, Joined, Separated}
use Rattle.estelle_tree.specs.Types.{IsName, IsNumber, IsChar, IsNames, of_sign, Signed, IsConst, IsOrdinal, AreTyped, AreFields, IsTypeLayer, TypeBelow, IsType}
use Rattle.round_trip.specs.Types.{bare_name, bare_names, bare_const, bare_ordinal, type_layer, fields_layer, typed_layer, bare_type, bare_fields, bare_typed}
use Rattle.round_trip.proofs.Moves.{Alike, token_alike, kind_alike, next_alike, takes, flag, mark, Moves, ap2, behind, enclosed, separated, joined, rolling}

-- ---- names, constants, ordinal types

pub name_moves : Moves IsName bare_name
name_moves n i j i' h s = record {
  thing = record { word = n.word; span = between i' (next i') };
  end = next i';
  is = record { token = sym (token_alike s) ∙ h.token; free = sym (kind_alike s) ∙ h.free; span = refl; next = refl };
  same = refl;
  alike = subst (λ m. Alike m (next i')) h.next (next_alike s);
}

pub number_moves : Moves IsNumber (λ n. n)
number_moves n i j i' h s = record {
  thing = n;
  end = next i';
  is = record { token = sym (token_alike s) ∙ h.token; next = refl };
  same = refl;
  alike = subst (λ m. Alike m (next i')) h.next (next_alike s);
}

pub char_moves : Moves IsChar (λ c. c)
char_moves c i j i' h s = record {
  thing = c;
  end = next i';
  is = record { token = sym (token_alike s) ∙ h.token; next = refl };
  same = refl;
  alike = subst (λ m. Alike m (next i')) h.next (next_alike s);
}

pub names_moves : Moves IsNames bare_names
names_moves ns i j i' h s =
    let m = separated IsName bare_name name_moves k.Comma ns.names _ _ _ h.names s in
    record {
      thing = record { names = m.thing; span = between i' m.end };
      end = m.end;
      is = record { names = m.is; span = refl };
      same = ap (λ names. record { names = names; span = nowhere }) m.same;
      alike = m.alike;
    }

signed : {A E : Type 0} (P : Spelling A) (e : A → E) → Moves P e → (sign : Option Sign) → Moves (Signed P sign) e
signed P e moves sign x i j i' h s =
    let p = mark of_sign sign h.sign s in
    let m = moves x _ _ _ h.item p.alike in
    record { thing = m.thing; end = m.end; is = record { at = p.end; sign = p.is; item = m.is }; same = m.same; alike = m.alike }

pub const_moves : Moves IsConst bare_const
const_moves (const.Number sign value span) i j i' h s =
    let m = signed IsNumber (λ n. n) number_moves sign value _ _ _ h.0 s in
    record { thing = const.Number sign m.thing (between i' m.end); end = m.end; is = (m.is, refl); same = ap (λ n. const.Number sign n nowhere) m.same; alike = m.alike }
const_moves (const.Name sign name span) i j i' h s =
    let m = signed IsName bare_name name_moves sign name _ _ _ h.0 s in
    record { thing = const.Name sign m.thing (between i' m.end); end = m.end; is = (m.is, refl); same = ap (λ n. const.Name sign n nowhere) m.same; alike = m.alike }
const_moves (const.Char value span) i j i' h s =
    let m = char_moves value _ _ _ h.0 s in
    record { thing = const.Char m.thing (between i' m.end); end = m.end; is = (m.is, refl); same = ap (λ c. const.Char c nowhere) m.same; alike = m.alike }

pub ordinal_moves : Moves IsOrdinal bare_ordinal
ordinal_moves (ordinal.Name name) i j i' h s =
    let m = name_moves name _ _ _ h s in
    record { thing = ordinal.Name m.thing; end = m.end; is = m.is; same = ap (λ n. ordinal.Name n) m.same; alike = m.alike }
ordinal_moves (ordinal.Enumeration names span) i j i' h s =
    let m = enclosed IsNames bare_names names_moves k.OpenParenthesis k.CloseParenthesis names _ _ _ h.0 s in
    record { thing = ordinal.Enumeration m.thing (between i' m.end); end = m.end; is = (m.is, refl); same = ap (λ ns. ordinal.Enumeration ns nowhere) m.same; alike = m.alike }
ordinal_moves (ordinal.Subrange low high span) i j i' h s =
    let m = joined k.Dots IsConst IsConst bare_const bare_const const_moves const_moves low high h.0 s in
    record { thing = ordinal.Subrange m.one m.other (between i' m.end); end = m.end; is = (m.is, refl); same = ap2 (λ a b. ordinal.Subrange a b nowhere) m.one_same m.other_same; alike = m.alike }

-- ---- types

-- a layer, once the trees in it have lost their spans
abbrev pub layer_of_type : TypeExprLayer → TypeExpr
layer_of_type l = type_layer (map-TypeExpr TypeExpr Fields TypedNames TypeExpr Fields TypedNames bare_type bare_fields bare_typed l)

type_rolled : (l : TypeExprLayer) → bare_type (roll-TypeExpr l) ≡ layer_of_type l
unfolding bare_type bare_fields bare_typed
type_rolled l = fold-roll-TypeExpr TypeExpr Fields TypedNames type_layer fields_layer typed_layer l

pub type_opened : (t : TypeExpr) → bare_type t ≡ layer_of_type (out-TypeExpr t)
unfolding bare_type bare_fields bare_typed
type_opened t = fold_out-TypeExpr TypeExpr Fields TypedNames type_layer fields_layer typed_layer t

abbrev pub layer_of_fields : Fields-F TypeExpr Fields TypedNames → Fields
layer_of_fields l = roll-Fields (record { sections = map bare_typed l.sections; semicolon = l.semicolon; span = nowhere })

fields_rolled : (l : Fields-F TypeExpr Fields TypedNames) → bare_fields (roll-Fields l) ≡ layer_of_fields l
unfolding bare_type bare_fields bare_typed
fields_rolled l = fold-roll-Fields TypeExpr Fields TypedNames type_layer fields_layer typed_layer l

pub fields_opened : (fs : Fields) → bare_fields fs ≡ layer_of_fields (out-Fields fs)
unfolding bare_type bare_fields bare_typed
fields_opened fs = fold_out-Fields TypeExpr Fields TypedNames type_layer fields_layer typed_layer fs

abbrev pub layer_of_typed : TypedNames-F TypeExpr Fields TypedNames → TypedNames
layer_of_typed l = roll-TypedNames (record { names = bare_names l.names; type_expr = bare_type l.type_expr })

typed_rolled : (l : TypedNames-F TypeExpr Fields TypedNames) → bare_typed (roll-TypedNames l) ≡ layer_of_typed l
unfolding bare_type bare_fields bare_typed
typed_rolled l = fold-roll-TypedNames TypeExpr Fields TypedNames type_layer fields_layer typed_layer l

pub typed_opened : (x : TypedNames) → bare_typed x ≡ layer_of_typed (out-TypedNames x)
unfolding bare_type bare_fields bare_typed
typed_opened x = fold_out-TypedNames TypeExpr Fields TypedNames type_layer fields_layer typed_layer x

module _ (T : Spelling TypeExpr) (moves : Moves T bare_type) where
  pub typed_moves : Moves (AreTyped T) bare_typed
  typed_moves x i j i' h s =
      let m = joined k.Colon IsNames T bare_names bare_type names_moves moves (out-TypedNames x).names (out-TypedNames x).type_expr h s in
      let l : TypedNames-F TypeExpr Fields TypedNames = record { names = m.one; type_expr = m.other } in
      record {
        thing = roll-TypedNames l;
        end = m.end;
        is = subst (λ (l : TypedNames-F TypeExpr Fields TypedNames). Joined k.Colon IsNames T l.names l.type_expr i' m.end) (sym (out-roll-TypedNames l)) m.is;
        same = typed_rolled l ∙ ap2 (λ a b. roll-TypedNames (record { names = a; type_expr = b })) m.one_same m.other_same ∙ sym (typed_opened x);
        alike = m.alike;
      }

  pub fields_moves : Moves (AreFields T) bare_fields
  fields_moves fs i j i' h s =
      let b = (out-Fields fs).semicolon in
      let m = separated (AreTyped T) bare_typed typed_moves k.Semicolon (out-Fields fs).sections _ _ _ h.sections s in
      let p = flag k.Semicolon b h.semicolon m.alike in
      let l : Fields-F TypeExpr Fields TypedNames = record { sections = m.thing; semicolon = b; span = between i' p.end } in
      record {
        thing = roll-Fields l;
        end = p.end;
        is = record { mid = m.end; sections = rw out-roll-Fields m.is; semicolon = rw out-roll-Fields p.is; span = rw out-roll-Fields refl };
        same = fields_rolled l ∙ ap (λ a. roll-Fields (record { sections = a; semicolon = b; span = nowhere })) m.same ∙ sym (fields_opened fs);
        alike = p.alike;
      }

  type_layer_moves : (room : ℕ) → Moves (IsTypeLayer room T) layer_of_type
  type_layer_moves room (TypeExpr-F.Ordinal o) i j i' h s =
      let m = ordinal_moves o _ _ _ h s in
      record { thing = TypeExpr-F.Ordinal m.thing; end = m.end; is = m.is; same = ap (λ o. roll-TypeExpr (TypeExpr-F.Ordinal o)) m.same; alike = m.alike }
  type_layer_moves room (TypeExpr-F.Array packed indices component span) i j i' h s =
      let a = h.1 in
      let p = flag k.Packed packed a.packed s in
      let t = takes a.array p.alike in
      let m = enclosed (Separated k.Comma IsOrdinal) (map bare_ordinal) (separated IsOrdinal bare_ordinal ordinal_moves k.Comma) k.OpenBracket k.CloseBracket indices _ _ _ a.indices t.alike in
      let c = behind T bare_type moves k.Of component _ _ _ a.component m.alike in
      record {
        thing = TypeExpr-F.Array packed m.thing c.thing (between i' c.end);
        end = c.end;
        is = (h.0, record { at = p.end; after = t.end; mid = m.end; packed = p.is; array = t.is; indices = m.is; component = c.is }, refl);
        same = ap2 (λ a b. roll-TypeExpr (TypeExpr-F.Array packed a b nowhere)) m.same c.same;
        alike = c.alike;
      }
  type_layer_moves room (TypeExpr-F.Fields packed fields span) i j i' h s =
      let p = flag k.Packed packed h.1.packed s in
      let m = enclosed (AreFields T) bare_fields fields_moves k.Record k.End fields _ _ _ h.1.fields p.alike in
      record {
        thing = TypeExpr-F.Fields packed m.thing (between i' m.end);
        end = m.end;
        is = (h.0, record { at = p.end; packed = p.is; fields = m.is }, refl);
        same = ap (λ a. roll-TypeExpr (TypeExpr-F.Fields packed a nowhere)) m.same;
        alike = m.alike;
      }
  type_layer_moves room (TypeExpr-F.Set packed base span) i j i' h s =
      let a = h.1 in
      let p = flag k.Packed packed a.packed s in
      let t = takes a.set p.alike in
      let m = behind IsOrdinal bare_ordinal ordinal_moves k.Of base _ _ _ a.base t.alike in
      record {
        thing = TypeExpr-F.Set packed m.thing (between i' m.end);
        end = m.end;
        is = (h.0, record { at = p.end; after = t.end; packed = p.is; set = t.is; base = m.is }, refl);
        same = ap (λ a. roll-TypeExpr (TypeExpr-F.Set packed a nowhere)) m.same;
        alike = m.alike;
      }

pub type_below_moves : (room : ℕ) → Moves (TypeBelow room) bare_type
type_below_moves zero t i j i' h s = absurd h
type_below_moves (suc room) t i j i' h s =
    rolling (IsTypeLayer room (TypeBelow room)) layer_of_type out-TypeExpr roll-TypeExpr bare_type out-roll-TypeExpr type_rolled type_opened
    (type_layer_moves (TypeBelow room) (type_below_moves room) room) t i j i' h s

pub type_moves : (room : ℕ) → Moves (IsType room) bare_type
type_moves room = type_below_moves (suc room)

pub vars_moves : (room : ℕ) → Moves (AreTyped (IsType room)) bare_typed
vars_moves room = typed_moves (IsType room) (type_moves room)
