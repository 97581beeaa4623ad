-- Names, constants and types, cut at any place.
use Rattle.std.proofs.Common.{◌≡◌, ℕ, ℤ, zero, suc, List, [], ◌∷◌, Some, ap}
use Rattle.estelle_tree.specs.declared.token.Token.{Token}
use Rattle.estelle_tree.specs.declared.token.Token.TheVariants as token_is
use Rattle.estelle_tree.specs.declared.token.Placed.{Placed}
use Rattle.estelle_tree.specs.declared.kind.Kind.TheVariants as k
use Rattle.estelle_tree.specs.declared.tree.name.Name.{Name}
use Rattle.estelle_tree.specs.declared.tree.type_expr.Const.TheVariants as const
use Rattle.estelle_tree.specs.declared.tree.type_expr.Ordinal.TheVariants as ordinal
use Rattle.estelle_tree.specs.declared.tree.type_expr.TypeExpr.{TypeExpr, out-TypeExpr}
use Rattle.estelle_tree.specs.declared.tree.type_expr.TypeExpr.TheOpen.{TypeExpr-F}
use Rattle.estelle_tree.specs.declared.tree.type_expr.Fields.{out-Fields}
use Rattle.estelle_tree.specs.declared.tree.type_expr.TypedNames.{out-TypedNames}
use Rattle.estelle_tree.specs.Kind.{kind_of}
use Rattle.estelle_tree.specs.Input.{Input, first_token, first_kind, kind, token_at}
use Rattle.estelle_tree.specs.Spelling.{Spelling, Takes}
use Rattle.estelle_tree.specs.Types.{IsName, IsNumber, IsChar, IsNames, IsConst, IsOrdinal, AreTyped, AreFields, IsTypeLayer, TypeBelow, IsType}
use Rattle.estelle_tree.specs.Beginning.{Beginning, After}
use Rattle.estelle_tree.specs.BeginsTypes.{BeginsName, BeginsNames, BeginsConst, BeginsOrdinal, BeginTyped, BeginFields, BeginsTypeLayer, BeginsTypeBelow, BeginsType}
use Rattle.estelle_tree.proofs.Cuts.{Reach, Out, Cut, one, other, stop, token, after, opens, part, flag, mark, separated, joined, last_flag}

-- ---- tokens

kind_of_token : (i : Input) (t : Token) → token_at i ≡ Some t → kind i ≡ kind_of t
unfolding kind token_at
kind_of_token i t e = go i.tokens e
  where
    go : (ps : List Placed) → first_token ps ≡ Some t → first_kind ps ≡ kind_of t
    go [] e = absurd (cc)
    go (p ∷ ps) e = let same : p.token ≡ t = cc in ap kind_of same

pub takes_name : (n : Name) (i j : Input) → IsName n i j → Takes k.Name i j
takes_name n i j h = record { kind = h.free; next = h.next }

pub takes_number : (n : ℤ) (i j : Input) → IsNumber n i j → Takes k.Number i j
takes_number n i j h = record { kind = kind_of_token i (token_is.Number n) h.token; next = h.next }

pub takes_char : (n : ℕ) (i j : Input) → IsChar n i j → Takes k.Char i j
takes_char n i j h = record { kind = kind_of_token i (token_is.Char n) h.token; next = h.next }

-- a name, and what comes next
pub named : (N : Beginning) (n : Name) (i m j c : Input) → IsName n i m → Reach i c → (Reach m c → Out N m j c) → Out (After k.Name N) i j c
named N n i m j c h r rest = after N i m j c (takes_name n i m h) r rest

-- ---- names, constants, ordinal types

pub name_cut : Cut IsName BeginsName
name_cut i j c n h r = token i j c (takes_name n i j h) r

pub names_cut : Cut IsNames BeginsNames
names_cut i j c ns h r = separated _ k.Comma name_cut ns.names i j j c h.names r (λ r. stop r)

pub const_cut : Cut IsConst BeginsConst
const_cut i j c (const.Number s value span) h r = one _ _ i j c (mark _ s i h.0.at j c h.0.sign r (λ r. one _ _ h.0.at j c (token h.0.at j c (takes_number value h.0.at j h.0.item) r)))
const_cut i j c (const.Name s name span) h r = one _ _ i j c (mark _ s i h.0.at j c h.0.sign r (λ r. other _ _ h.0.at j c (token h.0.at j c (takes_name name h.0.at j h.0.item) r)))
const_cut i j c (const.Char value span) h r = other _ _ i j c (token i j c (takes_char value i j h.0) r)

pub ordinal_cut : Cut IsOrdinal BeginsOrdinal
ordinal_cut i j c (ordinal.Name name) h r = one _ _ i j c (name_cut i j c name h r)
ordinal_cut i j c (ordinal.Enumeration names span) h r =
    other _ _ i j c (one _ _ i j c (
    after _ i h.0.at j c h.0.opens r (λ r.
    part _ names_cut h.0.at h.0.mid j c names h.0.inside r (λ r.
    token h.0.mid j c h.0.closes r))))
ordinal_cut i j c (ordinal.Subrange low high span) h r = other _ _ i j c (other _ _ i j c (joined k.Dots const_cut const_cut low high i j c h.0 r))

-- ---- types

module _ (T : Spelling TypeExpr) (B : Beginning) (cut : Cut T B) where
  pub typed_cut : Cut (AreTyped T) (BeginTyped T B)
  typed_cut i j c x h r = joined k.Colon names_cut cut (out-TypedNames x).names (out-TypedNames x).type_expr i j c h r

  pub fields_cut : Cut (AreFields T) (BeginFields T B)
  fields_cut i j c x h r = separated _ k.Semicolon typed_cut (out-Fields x).sections i h.mid j c h.sections r (λ r. last_flag (out-Fields x).semicolon h.mid j c h.semicolon r)

  pub type_layer_cut : (room : ℕ) → Cut (IsTypeLayer room T) (BeginsTypeLayer room T B)
  type_layer_cut room i j c (TypeExpr-F.Ordinal o) h r = one _ _ i j c (ordinal_cut i j c o h r)
  type_layer_cut room i j c (TypeExpr-F.Array packed indices component span) h r =
      let a = h.1 in
      other _ _ i j c (one _ _ i j c (
      flag _ packed i a.at j c a.packed r (λ r.
      opens _ room h.0 a.at a.after j c a.array r (λ r.
      after _ a.after a.indices.at j c a.indices.opens r (λ r.
      separated _ k.Comma ordinal_cut indices a.indices.at a.indices.mid j c a.indices.inside r (λ r.
      after _ a.indices.mid a.mid j c a.indices.closes r (λ r.
      after _ a.mid a.component.at j c a.component.mark r (λ r.
      cut a.component.at j c component a.component.item r))))))))
  type_layer_cut room i j c (TypeExpr-F.Fields packed fields span) h r =
      let a = h.1 in
      other _ _ i j c (other _ _ i j c (one _ _ i j c (
      flag _ packed i a.at j c a.packed r (λ r.
      opens _ room h.0 a.at a.fields.at j c a.fields.opens r (λ r.
      part _ fields_cut a.fields.at a.fields.mid j c fields a.fields.inside r (λ r.
      token a.fields.mid j c a.fields.closes r))))))
  type_layer_cut room i j c (TypeExpr-F.Set packed base span) h r =
      let a = h.1 in
      other _ _ i j c (other _ _ i j c (other _ _ i j c (
      flag _ packed i a.at j c a.packed r (λ r.
      opens _ room h.0 a.at a.after j c a.set r (λ r.
      after _ a.after a.base.at j c a.base.mark r (λ r.
      ordinal_cut a.base.at j c base a.base.item r))))))

pub type_below_cut : (room : ℕ) → Cut (TypeBelow room) (BeginsTypeBelow room)
type_below_cut zero i j c t h r = absurd h
type_below_cut (suc room) i j c t h r = type_layer_cut (TypeBelow room) (BeginsTypeBelow room) (type_below_cut room) room i j c (out-TypeExpr t) h r

pub type_cut : (room : ℕ) → Cut (IsType room) (BeginsType room)
type_cut room = type_below_cut (suc room)
