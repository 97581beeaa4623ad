-- Which tokens names, constants and types spell.
use Rattle.std.proofs.Common.{◌≡◌, ℕ, zero, suc, Bool, true, false, List, [], ◌∷◌, ◌++◌, refl, sym, ap, ◌∙◌, append_assoc, Option, Some}
use Rattle.std.specs.Prelude.{codes}
use Rattle.std.specs.Str.{bytes_eq}
use Rattle.std.proofs.lemmas.Slice.Eq.{bytes_eq-Decides}
use Rattle.estelle_tree.specs.declared.kind.Kind.TheVariants as k
use Rattle.estelle_tree.specs.declared.token.Token.TheVariants as token
use Rattle.estelle_tree.specs.declared.tree.name.Name.{Name}
use Rattle.estelle_tree.specs.declared.tree.type_expr.Sign.{Sign}
use Rattle.estelle_tree.specs.declared.tree.type_expr.Sign.TheVariants as sign_of
use Rattle.estelle_tree.specs.declared.tree.type_expr.Const.TheVariants as const
use Rattle.estelle_tree.specs.declared.tree.type_expr.Ordinal.TheVariants as ordinal
use Rattle.estelle_tree.specs.declared.tree.type_expr.TypeExpr.{TypeExpr, out-TypeExpr, map-TypeExpr}
use Rattle.estelle_tree.specs.declared.tree.type_expr.TypeExpr.TheOpen.{TypeExpr-F}
use Rattle.estelle_tree.specs.declared.tree.type_expr.Fields.{Fields, out-Fields}
use Rattle.estelle_tree.specs.declared.tree.type_expr.TypedNames.{TypedNames, out-TypedNames}
use Rattle.estelle_tree.specs.declared.token.Placed.{Placed}
use Rattle.estelle_tree.specs.Kind.{kind_of, kind_of_word}
use Rattle.estelle_tree.specs.Lexed.{is_end}
use Rattle.estelle_tree.specs.Input.{Input, kind, token_at, first_kind, first_token}
use Rattle.estelle_tree.specs.Spans.{TypeExprLayer}
use Rattle.estelle_tree.specs.Spelling.{Spelling, Takes, Mark, Joined, Separated}
use Rattle.estelle_tree.specs.Types.{IsName, IsNames, IsConst, IsOrdinal, of_sign, AreTyped, AreFields, IsTypeLayer, TypeBelow, IsType}
use Rattle.estelle_printer.specs.Forms.{Tokens, mark, separated}
use Rattle.estelle_printer.specs.Canonical.{without_places}
use Rattle.estelle_printer.specs.TypeTokens.{name, names, sign, constant, ordinal_type, type_layer, type_expr, fields, typed_names}
use Rattle.estelle_printer.proofs.TerminalLaws.{is_plain}
use Rattle.estelle_printer.proofs.FormLaws.{Stand, ◌⋯◌, is_calm, calm_join, follow, terminal_taken, same_tokens, regrouped, one_token, takes, Tells, flagged, marked, behind, separate, enclosed_in, joined}
use Rattle.estelle_printer.proofs.TypeEquations.{type_is, fields_is, typed_is}

pub name_tells : Tells IsName name
name_tells n i j h = one_token (token.Word n.word) i j refl h.token h.next

pub names_tells : Tells IsNames names
names_tells ns i j h = separate IsName name name_tells k.Comma refl ns.names i j h.names

free_no_end : (w : List ℕ) → kind_of_word w ≡ k.Name → is_end (token.Word w) ≡ false
unfolding kind_of_word
free_no_end w f = go (bytes_eq w (codes "end")) refl
  where
    go : (b : Bool) → bytes_eq w (codes "end") ≡ b → b ≡ false
    go false e = refl
    go true e = let same : w ≡ codes "end" = (bytes_eq-Decides w (codes "end")).0 e in let no : k.End ≡ k.Name = sym (ap kind_of_word same) ∙ f in absurd (cc)

-- a name is not the word `end`
pub name_no_end : (n : Name) (i j : Input) → IsName n i j → is_end (token.Word n.word) ≡ false
unfolding kind token_at
name_no_end n i j h = go i.tokens h.token h.free
  where
    go : (ts : List Placed) → first_token ts ≡ Some (token.Word n.word) → first_kind ts ≡ k.Name → is_end (token.Word n.word) ≡ false
    go [] e f = absurd (cc)
    go (p ∷ ps) e f = let same : p.token ≡ token.Word n.word = cc in free_no_end n.word (ap kind_of (sym same) ∙ f)

-- behind a name, these that may begin with a `.`
pub behind_name : (n : Name) (ts : Tokens) (i m j : Input) → IsName n i m → without_places m.tokens ≡ ts ++ without_places j.tokens → is_calm false ts ≡ true → Stand (name n ++ ts) i j
behind_name n ts i m j h e calm = record {
  is = follow (name n) ts i m j (name_tells n i m h).is e;
  calm = λ b. calm_join b (name n) ts ((name_tells n i m h).calm b) (ap (λ c. is_calm c ts) (name_no_end n i m h) ∙ calm);
}

-- `"." NAME`
pub dot_name : (n : Name) (i m j : Input) → Takes k.Dot i m → IsName n m j → without_places i.tokens ≡ (mark k.Dot ++ name n) ++ without_places j.tokens
dot_name n i m j d h = follow (mark k.Dot) (name n) i m j (terminal_taken k.Dot i m refl d) (name_tells n m j h).is

-- `NAME "." NAME`
pub names_dot : (a c : Name) (i j : Input) → Joined k.Dot IsName IsName a c i j → Stand (name a ++ mark k.Dot ++ name c) i j
names_dot a c i j h = behind_name a (mark k.Dot ++ name c) i h.mid j h.first (dot_name c h.mid h.at j h.mark h.second) refl

sign_one : (s : Sign) → is_plain (of_sign s) ≡ true
sign_one sign_of.Plus = refl
sign_one sign_of.Minus = refl

pub sign_tells : (s : Option Sign) (i j : Input) → Mark of_sign s i j → Stand (sign s) i j
sign_tells = marked of_sign sign_one

pub constant_tells : Tells IsConst constant
constant_tells (const.Number s value span) i j h = sign_tells s i h.0.at h.0.sign ⋯ one_token (token.Number value) h.0.at j refl h.0.item.token h.0.item.next
constant_tells (const.Name s n span) i j h = sign_tells s i h.0.at h.0.sign ⋯ name_tells n h.0.at j h.0.item
constant_tells (const.Char value span) i j h = one_token (token.Char value) i j refl h.0.token h.0.next

pub ordinal_tells : Tells IsOrdinal ordinal_type
ordinal_tells (ordinal.Name n) i j h = name_tells n i j h
ordinal_tells (ordinal.Enumeration ns span) i j h = enclosed_in IsNames names names_tells k.OpenParenthesis k.CloseParenthesis refl refl ns i j h.0
ordinal_tells (ordinal.Subrange low high span) i j h = joined IsConst IsConst constant constant k.Dots refl constant_tells constant_tells low high i j h.0

ordinals_tell : Tells (Separated k.Comma IsOrdinal) (separated k.Comma ordinal_type)
ordinals_tell = separate IsOrdinal ordinal_type ordinal_tells k.Comma refl

module _ (T : Spelling TypeExpr) (tells : Tells T type_expr) where
  typed_tells : Tells (AreTyped T) typed_names
  typed_tells x i j h = same_tokens (typed_is x) (joined IsNames T names type_expr k.Colon refl names_tells tells (out-TypedNames x).names (out-TypedNames x).type_expr i j h)

  fields_tells : Tells (AreFields T) fields
  fields_tells fs i j h = same_tokens (fields_is fs) (separate (AreTyped T) typed_names typed_tells k.Semicolon refl (out-Fields fs).sections i h.mid h.sections ⋯ flagged k.Semicolon refl (out-Fields fs).semicolon h.mid j h.semicolon)

  layer_tells : (room : ℕ) (t : TypeExprLayer) (i j : Input) → IsTypeLayer room T t i j → Stand (type_layer (map-TypeExpr TypeExpr Fields TypedNames Tokens Tokens Tokens type_expr fields typed_names t)) i j
  layer_tells room (TypeExpr-F.Ordinal o) i j h = ordinal_tells o i j h
  layer_tells room (TypeExpr-F.Array packed indices component span) i j h =
      regrouped (flagged k.Packed refl packed i h.1.at h.1.packed
      ⋯ takes k.Array h.1.at h.1.after refl h.1.array
      ⋯ enclosed_in (Separated k.Comma IsOrdinal) (separated k.Comma ordinal_type) ordinals_tell k.OpenBracket k.CloseBracket refl refl indices h.1.after h.1.mid h.1.indices
      ⋯ behind T type_expr tells k.Of refl component h.1.mid j h.1.component) (simp append_assoc)
  layer_tells room (TypeExpr-F.Fields packed fs span) i j h =
      flagged k.Packed refl packed i h.1.at h.1.packed
      ⋯ enclosed_in (AreFields T) fields fields_tells k.Record k.End refl refl fs h.1.at j h.1.fields
  layer_tells room (TypeExpr-F.Set packed base span) i j h =
      regrouped (flagged k.Packed refl packed i h.1.at h.1.packed
      ⋯ takes k.Set h.1.at h.1.after refl h.1.set
      ⋯ behind IsOrdinal ordinal_type ordinal_tells k.Of refl base h.1.after j h.1.base) (simp append_assoc)

pub type_below_tells : (room : ℕ) → Tells (TypeBelow room) type_expr
type_below_tells zero t i j h = absurd h
type_below_tells (suc room) t i j h = same_tokens (type_is t) (layer_tells (TypeBelow room) (type_below_tells room) room (out-TypeExpr t) i j h)

pub type_tells : (room : ℕ) → Tells (IsType room) type_expr
type_tells room = type_below_tells (suc room)

pub typed_names_tells : (room : ℕ) → Tells (AreTyped (IsType room)) typed_names
typed_names_tells room = typed_tells (IsType room) (type_tells room)
