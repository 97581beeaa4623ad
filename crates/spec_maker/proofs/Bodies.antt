-- Channels, headers, bodies and specifications at the front of a list of tokens.
use Rattle.std.proofs.Common.{ℕ, ◌<◌, [], ◌∷◌, Some, None, refl}
use Rattle.estelle_tree.specs.declared.kind.Kind.TheVariants as k
use Rattle.estelle_tree.specs.declared.tree.specification.SysAttr.TheVariants as sys_attr
use Rattle.estelle_tree.specs.declared.tree.specification.Attr.TheVariants as attr
use Rattle.estelle_tree.specs.declared.tree.specification.Head.TheVariants as head
use Rattle.estelle_tree.specs.declared.tree.specification.Disc.TheVariants as disc
use Rattle.estelle_tree.specs.declared.tree.specification.Parts.{Parts, roll-Parts}
use Rattle.estelle_tree.specs.declared.tree.specification.Decl.{Decl, out-Decl, roll-Decl}
use Rattle.estelle_tree.specs.declared.tree.specification.Decl.TheOpen.{Decl-F, Body-F, Parts-F}
use Rattle.estelle_tree.specs.declared.tree.specification.Decl.TheViews.{out-roll-Decl}
use Rattle.estelle_tree.specs.declared.tree.specification.Body.{Body, roll-Body}
use Rattle.estelle_tree.specs.Kind.{kind_of_word}
use Rattle.estelle_tree.specs.Input.{between, over}
use Rattle.estelle_tree.specs.Spelling.{Spelling, Chain, Several, Lines, Behind, Ended, Enclosed}
use Rattle.estelle_tree.specs.Types.{IsName, IsNames}
use Rattle.estelle_tree.specs.Declarations.{AreVars}
use Rattle.estelle_tree.specs.Clauses.{IsBlock, IsTransBody, stands}
use Rattle.estelle_tree.specs.Specification.{AreHeads, IsParams, IsInter, AreInters, IsChannel, IsIpDecl, AreModvars, IsHeader, IsInit, IsTrans, BodyOf, DeclLayerOf, DeclOf, PartsOf, IsParts, IsSpec}
use Rattle.estelle_printer.specs.Forms.{Tokens}
use Rattle.estelle_printer.specs.Terminals.{terminal}
use Rattle.spec_maker.proofs.Standing.{from, Stands, takes, Both, rolled}

-- ---- heads

-- default individual queue ";"
pub individual_queues : {us : Tokens} → Stands AreHeads (terminal k.Default ∷ terminal k.Individual ∷ terminal k.Queue ∷ terminal k.Semicolon ∷ us) us
unfolding kind_of_word stands
individual_queues {us} =
    let ends : Tokens = terminal k.Semicolon ∷ us in
    let queue : Tokens = terminal k.Queue ∷ ends in
    let all : Tokens = terminal k.Individual ∷ queue in
    record {
      thing = head.Default (disc.Individual (between (from all) (from queue))) (between (from (terminal k.Default ∷ all)) (from us)) ∷ [];
      is = record {
        heads = (
          from us,
          (
            record {
              at = from all;
              mid = from ends;
              opens = takes k.Default all refl;
              inside = record { mid = from queue; item = (takes k.Individual queue refl, refl); mark = takes k.Queue ends refl };
              closes = takes k.Semicolon us refl;
            },
            refl,
          ),
          refl,
        );
        once = (refl, tt);
      };
    }

-- ---- channels and headers

-- parameters of one type
pub params : {ts us : Tokens} → Stands (Both k.Colon IsNames IsName) ts us → Stands IsParams ts us
params {ts} {us} p = record {
  thing = record { groups = record { names = p.thing.0; type_name = p.thing.1 } ∷ []; span = between (from ts) (from us) };
  is = record { groups = (from us, p.is, refl); span = refl };
}

pub inter : {ts vs us : Tokens} → Stands IsName ts vs → Stands (Enclosed k.OpenParenthesis k.CloseParenthesis IsParams) vs us → Stands IsInter ts us
inter {ts} {vs} {us} n p = record {
  thing = record { name = n.thing; params = Some p.thing; span = between (from ts) (from us) };
  is = record { mid = from vs; name = n.is; params = p.is; span = refl };
}

pub inters : {ts us : Tokens} → Stands (Both k.Colon IsNames (Lines IsInter)) ts us → Stands AreInters ts us
inters p = record { thing = record { roles = p.thing.0; inters = p.thing.1 }; is = p.is }

pub channel : {ts vs ws us : Tokens} → Stands (Behind k.Channel IsName) ts (terminal k.OpenParenthesis ∷ vs) → Stands (Both k.Comma IsName IsName) vs (terminal k.CloseParenthesis ∷ terminal k.Semicolon ∷ ws)
    → Stands (Several (Behind k.By AreInters)) ws us → Stands IsChannel ts us
channel {ts} {vs} {ws} {us} n r g = record {
  thing = record { name = n.thing; first_role = r.thing.0; second_role = r.thing.1; groups = g.thing; span = between (from ts) (from us) };
  is = record {
    after_name = from (terminal k.OpenParenthesis ∷ vs);
    after_open = from vs;
    after_roles = from (terminal k.CloseParenthesis ∷ terminal k.Semicolon ∷ ws);
    after_close = from (terminal k.Semicolon ∷ ws);
    after_head = from ws;
    name = n.is;
    opens = takes k.OpenParenthesis vs refl;
    roles = r.is;
    closes = takes k.CloseParenthesis (terminal k.Semicolon ∷ ws) refl;
    semicolon = takes k.Semicolon ws refl;
    groups = g.is;
    span = refl;
  };
}

pub ip_decl : {ts vs us : Tokens} → Stands (Both k.Colon IsNames IsName) ts vs → Stands (Enclosed k.OpenParenthesis k.CloseParenthesis IsName) vs us → Stands IsIpDecl ts us
ip_decl {ts} {vs} {us} p r = record {
  thing = record { names = p.thing.0; channel = p.thing.1; role = r.thing; disc = None; span = between (from ts) (from us) };
  is = record { after_channel = from vs; after_role = from us; names = p.is; role = r.is; disc = refl; span = refl };
}

-- a systemprocess with parameters and ips, the first one and others
pub header : {ts vs ws xs us : Tokens} (room : ℕ) → Stands (Behind k.Module IsName) ts (terminal k.Systemprocess ∷ vs) → Stands (Enclosed k.OpenParenthesis k.CloseParenthesis IsParams) vs (terminal k.Semicolon ∷ terminal k.Ip ∷ ws)
    → Stands (Ended k.Semicolon IsIpDecl) ws xs → Stands (Chain (Ended k.Semicolon IsIpDecl)) xs (terminal k.End ∷ terminal k.Semicolon ∷ us) → Stands (IsHeader room) ts us
unfolding kind_of_word
header {ts} {vs} {ws} {xs} {us} room n p q r =
    let last : Tokens = terminal k.Semicolon ∷ us in
    record {
      thing = record {
        name = n.thing;
        attr = Some (attr.SysAttr (sys_attr.Systemprocess (between (from (terminal k.Systemprocess ∷ vs)) (from vs))));
        params = Some p.thing;
        ips = q.thing ∷ r.thing;
        exports = [];
        span = between (from ts) (from us);
      };
      is = record {
        after_name = from (terminal k.Systemprocess ∷ vs);
        after_attr = from vs;
        after_params = from (terminal k.Semicolon ∷ terminal k.Ip ∷ ws);
        after_head = from (terminal k.Ip ∷ ws);
        after_ips = from (terminal k.End ∷ last);
        after_exports = from (terminal k.End ∷ last);
        after_end = from last;
        name = n.is;
        attr = (takes k.Systemprocess vs refl, refl);
        params = p.is;
        semicolon = takes k.Semicolon (terminal k.Ip ∷ ws) refl;
        ips = record { at = from ws; mark = takes k.Ip ws refl; item = (from xs, q.is, r.is) };
        exports = refl;
        ends = takes k.End last refl;
        last = takes k.Semicolon us refl;
        span = refl;
      };
    }

pub modvars : {ts us : Tokens} → Stands (Both k.Colon IsNames IsName) ts us → Stands AreModvars ts us
modvars p = record { thing = record { names = p.thing.0; header = p.thing.1 }; is = p.is }

-- ---- where this many more levels of nesting may open

module _ (room : ℕ) where
  pub init_to : {ts vs us : Tokens} → Stands (Behind k.To IsName) ts vs → Stands (IsBlock room) vs us → Stands (IsInit room) (terminal k.Initialize ∷ ts) us
  unfolding kind_of_word
  init_to {ts} {vs} {us} n b = record {
    thing = record { to = Some n.thing; block = b.thing; span = between (from (terminal k.Initialize ∷ ts)) (from us) };
    is = record { at = from ts; mid = from vs; word = takes k.Initialize ts refl; to = n.is; block = b.is; span = refl };
  }

  pub init : {ts us : Tokens} → Stands (IsBlock room) ts us → Stands (IsInit room) (terminal k.Initialize ∷ ts) us
  unfolding kind_of_word
  init {ts} {us} b = record {
    thing = record { to = None; block = b.thing; span = between (from (terminal k.Initialize ∷ ts)) (from us) };
    is = record { at = from ts; mid = from ts; word = takes k.Initialize ts refl; to = refl; block = b.is; span = refl };
  }

  pub trans : {ts us : Tokens} → Stands (Behind k.Trans (IsTransBody room)) ts us → Stands (IsTrans room) ts us
  trans {ts} {us} b = record { thing = record { body = b.thing; span = between (from ts) (from us) }; is = record { body = b.is; span = refl } }

  module _ (P : Spelling Parts) where
    decl : {ts us : Tokens} → Stands (DeclLayerOf room P) ts us → Stands (DeclOf room P) ts us
    decl p = rolled (DeclLayerOf room P) out-Decl roll-Decl out-roll-Decl p

    pub channel_decl : {ts us : Tokens} → Stands IsChannel ts us → Stands (DeclOf room P) ts us
    channel_decl c = decl (record { thing = Decl-F.Channel c.thing; is = c.is })

    pub header_decl : {ts us : Tokens} → Stands (IsHeader room) ts us → Stands (DeclOf room P) ts us
    header_decl h = decl (record { thing = Decl-F.Header h.thing; is = h.is })

    pub body_decl : {ts us : Tokens} → Stands (BodyOf room P) ts us → Stands (DeclOf room P) ts us
    body_decl b = decl (record { thing = Decl-F.Body b.thing; is = b.is })

    pub modvar_decl : {ts us : Tokens} → Stands (Behind k.Modvar (Lines AreModvars)) ts us → Stands (DeclOf room P) ts us
    modvar_decl {ts} {us} p = decl (record { thing = Decl-F.Modvar p.thing (between (from ts) (from us)); is = (p.is, refl) })

    pub var_decl : {ts us : Tokens} → Stands (Behind k.Var (Lines (AreVars room))) ts us → Stands (DeclOf room P) ts us
    var_decl {ts} {us} p = decl (record { thing = Decl-F.Var p.thing (between (from ts) (from us)); is = (p.is, refl) })

    pub state_decl : {ts us : Tokens} → Stands (Enclosed k.State k.Semicolon IsNames) ts us → Stands (DeclOf room P) ts us
    state_decl {ts} {us} p = decl (record { thing = Decl-F.State p.thing (between (from ts) (from us)); is = (p.is, refl) })

    pub parts : {ts vs ws us : Tokens} → Stands (Chain (DeclOf room P)) ts vs → Stands (IsInit room) vs ws → Stands (Chain (IsTrans room)) ws us → Stands (PartsOf room P) ts us
    parts {ts} {vs} {ws} {us} d i t =
        let l : Parts-F Decl Body Parts = record { decls = d.thing; init = Some i.thing; trans = t.thing; span = over (from ts) (from us) } in
        record { thing = roll-Parts l; is = record { after_decls = from vs; after_init = from ws; decls = d.is; init = i.is; trans = t.is; span = refl } }

    pub body : {ts vs us : Tokens} → 0 < room → Stands (Both k.For IsName IsName) ts (terminal k.Semicolon ∷ vs) → Stands P vs (terminal k.End ∷ terminal k.Semicolon ∷ us) → Stands (BodyOf room P) (terminal k.Body ∷ ts) us
    unfolding kind_of_word
    body {ts} {vs} {us} fits n p =
        let last : Tokens = terminal k.Semicolon ∷ us in
        let l : Body-F Decl Body Parts = record { name = n.thing.0; header = n.thing.1; parts = p.thing; span = between (from (terminal k.Body ∷ ts)) (from us) } in
        record {
          thing = roll-Body l;
          is = record {
            after_word = from ts;
            after_names = from (terminal k.Semicolon ∷ vs);
            after_head = from vs;
            after_parts = from (terminal k.End ∷ last);
            after_end = from last;
            fits = fits;
            word = takes k.Body ts refl;
            names = n.is;
            semicolon = takes k.Semicolon vs refl;
            parts = p.is;
            ends = takes k.End last refl;
            last = takes k.Semicolon us refl;
            span = refl;
          };
        }

  pub spec : {ts vs ws us : Tokens} → Stands (Behind k.Specification IsName) ts (terminal k.Semicolon ∷ vs) → Stands AreHeads vs ws → Stands (IsParts room) ws (terminal k.End ∷ terminal k.Dot ∷ us) → Stands (IsSpec room) ts us
  unfolding kind_of_word
  spec {ts} {vs} {ws} {us} n h p =
      let last : Tokens = terminal k.Dot ∷ us in
      record {
        thing = record { name = n.thing; attr = None; heads = h.thing; parts = p.thing; span = between (from ts) (from us) };
        is = record {
          after_name = from (terminal k.Semicolon ∷ vs);
          after_attr = from (terminal k.Semicolon ∷ vs);
          after_head = from vs;
          after_heads = from ws;
          after_parts = from (terminal k.End ∷ last);
          after_end = from last;
          name = n.is;
          attr = refl;
          semicolon = takes k.Semicolon vs refl;
          heads = h.is;
          parts = p.is;
          ends = takes k.End last refl;
          dot = takes k.Dot us refl;
          span = refl;
        };
      }
