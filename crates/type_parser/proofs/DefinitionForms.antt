-- The laws of definitions and formal parameters: each form is read by its parser.
use Rattle.std.proofs.Common.{◌≡◌, ℕ, true, false, List, sym, refl, ap, ◌∙◌, inl, inr, ◌⊎◌}
use Rattle.estelle_tree.specs.declared.kind.Kind.{Kind}
use Rattle.estelle_tree.specs.declared.kind.Kind.TheVariants as k
use Rattle.estelle_tree.specs.declared.span.Span.{Span}
use Rattle.estelle_tree.specs.declared.tree.type_expr.TypedNames.{TypedNames}
use Rattle.estelle_tree.specs.declared.tree.declaration.ConstDef.{ConstDef}
use Rattle.estelle_tree.specs.declared.tree.declaration.TypeDef.{TypeDef}
use Rattle.estelle_tree.specs.declared.tree.declaration.BlockDecl.{BlockDecl}
use Rattle.estelle_tree.specs.declared.tree.declaration.BlockDecl.TheVariants as a_decl
use Rattle.estelle_tree.specs.Input.{Input, kind, next, start, between}
use Rattle.estelle_tree.specs.Spelling.{Takes}
use Rattle.estelle_tree.specs.BeginsTypes.{BeginsType}
use Rattle.estelle_tree.specs.Types.{IsType}
use Rattle.estelle_tree.specs.Declarations.{IsConstDef, IsFormal, AreFormals, IsTypeDef, IsBlockDecl}
use Rattle.token_reader.specs.Reader.{Parser, expect}
use Rattle.token_reader.specs.Lists.{several, ended}
use Rattle.syntax_forms.specs.Kinds.{is}
use Rattle.syntax_forms.specs.Form as form
use Rattle.syntax_forms.specs.Form.{Form, ◌▸◌, ◌⊕◌}
use Rattle.syntax_forms.specs.Reading.{Reading, one, ◌then◌, choose, closed}
use Rattle.syntax_forms.specs.Types as types
use Rattle.syntax_forms.specs.Definitions as forms
use Rattle.syntax_forms.proofs.Firsts.{in_a_row}
use Rattle.syntax_forms.proofs.TokenForms.{word_known}
use Rattle.syntax_forms.proofs.NodeForms.{IsNode}
use Rattle.syntax_forms.proofs.Lawful.{IsRead, IsLawful, Follows}
use Rattle.syntax_forms.proofs.Rules as rules
use Rattle.type_parser.specs.Types.{begins_name, type_expr, typed_names}
use Rattle.type_parser.specs.Definitions.{part, const_def, type_def, formal, formals, const_part, type_part, var_part, block_decl}
use Rattle.type_parser.proofs.TypeForms.{names_lawful, constant_lawful, typed_lawful, type_lawful}

-- `NAME "=" Const`
pub const_def_lawful : IsLawful forms.const_def const_def
unfolding const_def
const_def_lawful = rules.made const_def told (rules.and rules.name (rules.and (rules.word k.Equal refl) (rules.part constant_lawful) refl) refl).rest (λ i. refl)
  where
    told : IsNode IsConstDef (form.name ▸ form.word k.Equal ▸ types.constant).spells (λ p span. record { name = p.0; value = p.1.1 })
    told = record { opened = λ i m d h. ((d.name, (tt, d.value)), (h.mid, h.first, (h.at, h.mark, h.second)), refl); made = λ i m p h. record { mid = h.0; at = h.2.0; first = h.1; mark = h.2.1; second = h.2.2 } }

-- `NAME "=" Type`
pub type_def_lawful : (room : ℕ) → IsLawful (forms.type_def room) (type_def room)
unfolding type_def
type_def_lawful room = rules.made (type_def room) told (rules.and rules.name (rules.and (rules.word k.Equal refl) (rules.part (type_lawful room)) refl) refl).rest (λ i. refl)
  where
    told : IsNode (IsTypeDef room) (form.name ▸ form.word k.Equal ▸ types.below (IsType room) (BeginsType room)).spells (λ p span. record { name = p.0; type_expr = p.1.1 })
    told = record { opened = λ i m d h. ((d.name, (tt, d.type_expr)), (h.mid, h.first, (h.at, h.mark, h.second)), refl); made = λ i m p h. record { mid = h.0; at = h.2.0; first = h.1; mark = h.2.1; second = h.2.2 } }

-- `Names ":" Type`
pub var_lawful : (room : ℕ) → IsLawful (forms.var room) (typed_names room)
var_lawful room = typed_lawful (IsType room) (BeginsType room) (type_expr room) (type_lawful room)

-- Formal = [var] Names ":" NAME
pub formal_lawful : IsLawful forms.formal formal
unfolding formal
formal_lawful = rules.spanned formal told refl (rules.and (rules.flag k.Var refl) (rules.and (rules.part names_lawful) (rules.and (rules.word k.Colon refl) rules.name refl) refl) refl).rest (λ i. refl)
  where
    told : IsNode IsFormal (form.flag k.Var ▸ types.names ▸ form.word k.Colon ▸ form.name).spells (λ p span. record { is_var = p.0; names = p.1.0; type_name = p.1.1.1; span = span })
    told = record {
      opened = λ i m f h. ((f.is_var, (f.names, (tt, f.type_name))), (h.at, h.is_var, (h.names.mid, h.names.first, (h.names.at, h.names.mark, h.names.second))), ap (λ span. record { is_var = f.is_var; names = f.names; type_name = f.type_name; span = span }) (sym h.span));
      made = λ i m p h. record { at = h.0; is_var = h.1; names = record { mid = h.2.0; at = h.2.2.0; first = h.2.1; mark = h.2.2.1; second = h.2.2.2 }; span = refl };
    }

-- Formals = "(" Formal {";" Formal} ")"
pub formals_lawful : IsLawful forms.formals formals
unfolding formals
formals_lawful = rules.spanned formals told refl (rules.and (rules.word k.OpenParenthesis refl) (rules.and (rules.separated k.Semicolon formal_lawful refl refl) (rules.word k.CloseParenthesis refl) refl) refl).rest (λ i. refl)
  where
    told : IsNode AreFormals (form.word k.OpenParenthesis ▸ form.separated k.Semicolon forms.formal ▸ form.word k.CloseParenthesis).spells (λ p span. record { formals = p.1.0; span = span })
    told = record {
      opened = λ i m fs h. ((tt, (fs.formals, tt)), (h.formals.at, h.formals.opens, (h.formals.mid, h.formals.inside, h.formals.closes)), ap (λ span. record { formals = fs.formals; span = span }) (sym h.span));
      made = λ i m p h. record { formals = record { at = h.0; mid = h.2.0; opens = h.1; inside = h.2.1; closes = h.2.2 }; span = refl };
    }

-- ---- BlockDecl = const {NAME "=" Const ";"}+ | type {NAME "=" Type ";"}+ | var {Names ":" Type ";"}+

named_kind : (x : Kind) → begins_name x ≡ true → x ≡ k.Name
named_kind k.Name e = refl
named_kind _ e = absurd (cc)

-- `k {x ";"}+`, where x begins with a NAME
named_lines : {A : Type 0} {F : Form A} {p : Parser A} (word : Kind) → is word k.Nothing ≡ false → IsLawful F p → F.empty ≡ false → Follows F (form.word k.Semicolon) → Follows (form.line F) (form.line F) → Follows (form.word word) (form.line F)
    → ((x : Kind) → begins_name x ≡ (form.line F).first x) → ((i : Input) → Takes k.Name i (next i) → F.begins i (next i)) → IsRead (form.word word ▸ form.lines F) (one (expect word) then one (several begins_name (ended k.Semicolon p)))
named_lines {F = F} word is_token law some follows again behind named taken =
    rules.and (rules.word word is_token) (rules.several begins_name (rules.line law follows) (rw some refl) again (sym (named k.Nothing)) named takes) behind
  where
    takes : (i : Input) → (form.line F).first (kind i) ≡ true → (form.line F).begins i (next i)
    takes i s = inl (taken i (record { kind = named_kind (kind i) (named (kind i) ∙ s); next = refl }))

module _ (room : ℕ) where
  const_lines : IsRead (form.word k.Const ▸ form.lines forms.const_def) (one (expect k.Const) then one (several begins_name (ended k.Semicolon const_def)))
  const_lines = named_lines k.Const refl const_def_lawful refl refl refl refl named (λ i t. inr (next i, t, inl refl))
    where
      named : (x : Kind) → begins_name x ≡ (form.line forms.const_def).first x
      named k.Name = refl
      named _ = refl

  type_lines : IsRead (form.word k.Type ▸ form.lines (forms.type_def room)) (one (expect k.Type) then one (several begins_name (ended k.Semicolon (type_def room))))
  type_lines = named_lines k.Type refl (type_def_lawful room) refl refl refl refl named (λ i t. inr (next i, t, inl refl))
    where
      named : (x : Kind) → begins_name x ≡ (form.line (forms.type_def room)).first x
      named k.Name = refl
      named _ = refl

  var_lines : IsRead (form.word k.Var ▸ form.lines (forms.var room)) (one (expect k.Var) then one (several begins_name (ended k.Semicolon (typed_names room))))
  var_lines = named_lines k.Var refl (var_lawful room) refl refl refl refl named (λ i t. inl (inl (inr t)))
    where
      named : (x : Kind) → begins_name x ≡ (form.line (forms.var room)).first x
      named k.Name = refl
      named _ = refl

  abbrev Parts : Type 0
  Parts = (Unit {0} × List ConstDef) ⊎ ((Unit {0} × List TypeDef) ⊎ (Unit {0} × List TypedNames))

  abbrev Part : Form Parts
  Part = form.word k.Const ▸ form.lines forms.const_def ⊕ form.word k.Type ▸ form.lines (forms.type_def room) ⊕ form.word k.Var ▸ form.lines (forms.var room)

  make_part : Parts → Span → BlockDecl
  make_part (inl (u, defs)) span = a_decl.Const defs span
  make_part (inr (inl (u, defs))) span = a_decl.Types defs span
  make_part (inr (inr (u, vars))) span = a_decl.Var vars span

  part_is : IsNode (IsBlockDecl room) Part.spells make_part
  unfolding make_part
  part_is = record { opened = opened; made = made }
    where
      opened : (i m : Input) (d : BlockDecl) → IsBlockDecl room d i m → (p : Parts) × Part.spells p i m × (make_part p (between i m) ≡ d)
      opened i m (a_decl.Const defs span) h = (inl (tt, defs), (h.0.at, h.0.mark, h.0.item), ap (a_decl.Const defs) (sym h.1))
      opened i m (a_decl.Types defs span) h = (inr (inl (tt, defs)), (h.0.at, h.0.mark, h.0.item), ap (a_decl.Types defs) (sym h.1))
      opened i m (a_decl.Var vars span) h = (inr (inr (tt, vars)), (h.0.at, h.0.mark, h.0.item), ap (a_decl.Var vars) (sym h.1))

      made : (i m : Input) (p : Parts) → Part.spells p i m → IsBlockDecl room (make_part p (between i m)) i m
      made i m (inl (u, defs)) h = (record { at = h.0; mark = h.1; item = h.2 }, refl)
      made i m (inr (inl (u, defs))) h = (record { at = h.0; mark = h.1; item = h.2 }, refl)
      made i m (inr (inr (u, vars))) h = (record { at = h.0; mark = h.1; item = h.2 }, refl)

  abbrev read_part : Reading Parts
  read_part =
      choose (form.word k.Const ▸ form.lines forms.const_def).first (one (expect k.Const) then one (several begins_name (ended k.Semicolon const_def)))
      (choose (form.word k.Type ▸ form.lines (forms.type_def room)).first (one (expect k.Type) then one (several begins_name (ended k.Semicolon (type_def room)))) (one (expect k.Var) then one (several begins_name (ended k.Semicolon (typed_names room)))))

  part_same : (i : Input) → block_decl room i ≡ read_part BlockDecl (closed make_part (start i)) i
  unfolding block_decl const_part type_part var_part part make_part
  part_same i = by (kind i) refl
    where
      by : (x : Kind) → kind i ≡ x → block_decl room i ≡ read_part BlockDecl (closed make_part (start i)) i
      by k.Const e = rw e (sym (in_a_row (expect k.Const i) (λ u. several begins_name (ended k.Semicolon const_def)) (λ defs. closed make_part (start i) (inl (tt, defs)))))
      by k.Type e = rw (e, e) (sym (in_a_row (expect k.Type i) (λ u. several begins_name (ended k.Semicolon (type_def room))) (λ defs. closed make_part (start i) (inr (inl (tt, defs))))))
      by k.Var e = rw (e, e) (sym (in_a_row (expect k.Var i) (λ u. several begins_name (ended k.Semicolon (typed_names room))) (λ vars. closed make_part (start i) (inr (inr (tt, vars))))))
      by x e = rw (e, e, (word_known k.Var (λ d. cc)).other i (λ d. let no : x ≡ k.Var = sym e ∙ d in cc)) refl

  pub block_decl_lawful : IsLawful (forms.block_decl room) (block_decl room)
  block_decl_lawful = rules.spanned (block_decl room) part_is refl (rules.or const_lines (rules.or type_lines var_lines refl refl) refl refl).rest part_same
