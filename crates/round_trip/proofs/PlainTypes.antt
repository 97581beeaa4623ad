-- Names, constants and types without their spans, where tokens have no places.
use Rattle.std.proofs.Common.{◌≡◌, ℕ, zero, suc, map, Option, sym, ◌∙◌, subst}
use Rattle.estelle_tree.specs.declared.kind.Kind.TheVariants as k
use Rattle.estelle_tree.specs.declared.tree.type_expr.Sign.{Sign}
use Rattle.estelle_tree.specs.declared.tree.type_expr.Const.TheVariants as const
use Rattle.estelle_tree.specs.declared.tree.type_expr.Ordinal.TheVariants as ordinal
use Rattle.estelle_tree.specs.declared.tree.type_expr.TypeExpr.{TypeExpr, out-TypeExpr, roll-TypeExpr}
use Rattle.estelle_tree.specs.declared.tree.type_expr.TypeExpr.TheOpen.{TypeExpr-F, Fields-F, TypedNames-F}
use Rattle.estelle_tree.specs.declared.tree.type_expr.TypeExpr.TheViews.{out-roll-TypeExpr, out-roll-Fields, out-roll-TypedNames}
use Rattle.estelle_tree.specs.declared.tree.type_expr.Fields.{Fields, out-Fields}
use Rattle.estelle_tree.specs.declared.tree.type_expr.TypedNames.{TypedNames, out-TypedNames}
use Rattle.estelle_tree.specs.Input.{Input, between}
use Rattle.estelle_tree.specs.Spans.{TypeExprLayer, nowhere}
use Rattle.estelle_tree.specs.Spelling.{Spelling, Joined, Separated, Flag}
use Rattle.estelle_tree.specs.Types.{IsName, IsNumber, IsChar, IsNames, of_sign, Signed, IsConst, IsOrdinal, AreTyped, AreFields, IsTypeLayer, TypeBelow, IsType}
use Rattle.round_trip.specs.Types.{bare_name, bare_names, bare_const, bare_ordinal, bare_type, bare_fields, bare_typed}
use Rattle.round_trip.proofs.TypeMoves.{layer_of_type, layer_of_fields, type_opened, fields_opened, typed_opened}
use Rattle.round_trip.proofs.PlainForms.{plain, Plain, plain_kind, plain_token, passes, no_span, takes, flag, mark, behind, enclosed, separated, joined, rolling}

-- ---- names, constants, ordinal types

pub plain_name : Plain IsName bare_name
plain_name n i j h = record { token = plain_token i ∙ h.token; free = plain_kind i ∙ h.free; span = no_span i j; next = passes i j h.next }

pub plain_number : Plain IsNumber (λ n. n)
plain_number n i j h = record { token = plain_token i ∙ h.token; next = passes i j h.next }

pub plain_char : Plain IsChar (λ c. c)
plain_char c i j h = record { token = plain_token i ∙ h.token; next = passes i j h.next }

pub plain_names : Plain IsNames bare_names
plain_names ns i j h = record { names = separated IsName bare_name plain_name k.Comma ns.names i j h.names; span = no_span i j }

signed : {A : Type 0} (P : Spelling A) (e : A → A) → Plain P e → (sign : Option Sign) → Plain (Signed P sign) e
signed P e plainly sign x i j h = record { at = plain h.at; sign = mark of_sign sign _ _ h.sign; item = plainly x h.at j h.item }

pub plain_const : Plain IsConst bare_const
plain_const (const.Number sign value span) i j h = (signed IsNumber (λ n. n) plain_number sign value i j h.0, no_span i j)
plain_const (const.Name sign name span) i j h = (signed IsName bare_name plain_name sign name i j h.0, no_span i j)
plain_const (const.Char value span) i j h = (plain_char value i j h.0, no_span i j)

pub plain_ordinal : Plain IsOrdinal bare_ordinal
plain_ordinal (ordinal.Name name) i j h = plain_name name i j h
plain_ordinal (ordinal.Enumeration names span) i j h = (enclosed IsNames bare_names plain_names k.OpenParenthesis k.CloseParenthesis names i j h.0, no_span i j)
plain_ordinal (ordinal.Subrange low high span) i j h = (joined k.Dots IsConst IsConst bare_const bare_const plain_const plain_const low high h.0, no_span i j)

-- ---- types

module _ (T : Spelling TypeExpr) (plainly : Plain T bare_type) where
  -- the same as `AreTyped` and `AreFields`, of one level
  abbrev TypedLayer : Spelling (TypedNames-F TypeExpr Fields TypedNames)
  TypedLayer x i j = Joined k.Colon IsNames T x.names x.type_expr i j

  pub plain_typed : Plain (AreTyped T) bare_typed
  plain_typed x i j h =
      let l = joined k.Colon IsNames T bare_names bare_type plain_names plainly (out-TypedNames x).names (out-TypedNames x).type_expr h in
      subst (λ y. TypedLayer (out-TypedNames y) (plain i) (plain j)) (sym (typed_opened x)) (
      subst (λ y. TypedLayer y (plain i) (plain j)) (sym (out-roll-TypedNames (record { names = bare_names (out-TypedNames x).names; type_expr = bare_type (out-TypedNames x).type_expr }))) l)

  plain_sections : (l : Fields-F TypeExpr Fields TypedNames) (i j mid : Input) → Separated k.Semicolon (AreTyped T) l.sections i mid → Flag k.Semicolon l.semicolon mid j → AreFields T (layer_of_fields l) (plain i) (plain j)
  plain_sections l i j mid sections semicolon =
      let m : Fields-F TypeExpr Fields TypedNames = record { sections = map bare_typed l.sections; semicolon = l.semicolon; span = nowhere } in
      record {
        mid = plain mid;
        sections = subst (λ (y : Fields-F TypeExpr Fields TypedNames). Separated k.Semicolon (AreTyped T) y.sections (plain i) (plain mid)) (sym (out-roll-Fields m)) (separated (AreTyped T) bare_typed plain_typed k.Semicolon l.sections i mid sections);
        semicolon = subst (λ (y : Fields-F TypeExpr Fields TypedNames). Flag k.Semicolon y.semicolon (plain mid) (plain j)) (sym (out-roll-Fields m)) (flag k.Semicolon l.semicolon _ _ semicolon);
        span = subst (λ (y : Fields-F TypeExpr Fields TypedNames). y.span ≡ between (plain i) (plain j)) (sym (out-roll-Fields m)) (no_span i j);
      }

  plain_fields : Plain (AreFields T) bare_fields
  plain_fields fs i j h = subst (λ y. AreFields T y (plain i) (plain j)) (sym (fields_opened fs)) (plain_sections (out-Fields fs) i j h.mid h.sections h.semicolon)

  module _ (room : ℕ) where
    put : (l : TypeExprLayer) (i j : Input) → IsTypeLayer room T l i j → IsTypeLayer room T (out-TypeExpr (roll-TypeExpr l)) i j
    put l i j h = subst (λ l. IsTypeLayer room T l i j) (sym (out-roll-TypeExpr l)) h

    plain_layer : (l : TypeExprLayer) (i j : Input) → IsTypeLayer room T l i j → IsTypeLayer room T (out-TypeExpr (layer_of_type l)) (plain i) (plain j)
    plain_layer (TypeExpr-F.Ordinal o) i j h = put (TypeExpr-F.Ordinal (bare_ordinal o)) _ _ (plain_ordinal o i j h)
    plain_layer (TypeExpr-F.Array packed indices component span) i j h =
        let a = h.1 in
        put (TypeExpr-F.Array packed (map bare_ordinal indices) (bare_type component) nowhere) _ _ (
          h.0,
          record {
            at = plain a.at;
            after = plain a.after;
            mid = plain a.mid;
            packed = flag k.Packed packed _ _ a.packed;
            array = takes a.array;
            indices = enclosed (Separated k.Comma IsOrdinal) (map bare_ordinal) (separated IsOrdinal bare_ordinal plain_ordinal k.Comma) k.OpenBracket k.CloseBracket indices a.after a.mid a.indices;
            component = behind T bare_type plainly k.Of component a.mid j a.component;
          },
          no_span i j,
        )
    plain_layer (TypeExpr-F.Fields packed fields span) i j h =
        let a = h.1 in
        put (TypeExpr-F.Fields packed (bare_fields fields) nowhere) _ _ (
          h.0,
          record { at = plain a.at; packed = flag k.Packed packed _ _ a.packed; fields = enclosed (AreFields T) bare_fields plain_fields k.Record k.End fields a.at j a.fields },
          no_span i j,
        )
    plain_layer (TypeExpr-F.Set packed base span) i j h =
        let a = h.1 in
        put (TypeExpr-F.Set packed (bare_ordinal base) nowhere) _ _ (
          h.0,
          record { at = plain a.at; after = plain a.after; packed = flag k.Packed packed _ _ a.packed; set = takes a.set; base = behind IsOrdinal bare_ordinal plain_ordinal k.Of base a.after j a.base },
          no_span i j,
        )

pub plain_below : (room : ℕ) → Plain (TypeBelow room) bare_type
plain_below zero t i j h = absurd h
plain_below (suc room) t i j h = rolling (IsTypeLayer room (TypeBelow room)) layer_of_type out-TypeExpr bare_type type_opened (plain_layer (TypeBelow room) (plain_below room) room) t i j h

pub plain_type : (room : ℕ) → Plain (IsType room) bare_type
plain_type room = plain_below (suc room)

pub plain_vars : (room : ℕ) → Plain (AreTyped (IsType room)) bare_typed
plain_vars room = plain_typed (IsType room) (plain_type room)
