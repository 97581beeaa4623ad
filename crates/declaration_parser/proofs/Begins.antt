-- What begins the forms of attributes, channels, headers and declarations is what the grammar says of them.
use Rattle.std.proofs.Common.{◌≡◌, ℕ, true, false, List, [], ◌∷◌, map, Option, Some, None, sym, refl, ap, ◌∙◌, subst, inl, inr, ◌⊎◌}
use Rattle.estelle_tree.specs.declared.kind.Kind.{Kind}
use Rattle.estelle_tree.specs.declared.kind.Kind.TheVariants as k
use Rattle.estelle_tree.specs.declared.tree.specification.Disc.{Disc}
use Rattle.estelle_tree.specs.declared.tree.specification.Disc.TheVariants as a_disc
use Rattle.estelle_tree.specs.declared.tree.specification.Head.{Head}
use Rattle.estelle_tree.specs.declared.tree.specification.Head.TheVariants as a_head
use Rattle.estelle_tree.specs.Input.{Input, kind, between}
use Rattle.estelle_tree.specs.Spelling.{Behind, Enclosed, Joined, Lines, MayBeLines}
use Rattle.estelle_tree.specs.Types.{IsName, IsNames}
use Rattle.estelle_tree.specs.Declarations.{AreVars}
use Rattle.estelle_tree.specs.Clauses.{stands}
use Rattle.estelle_tree.specs.Specification.{IsDisc, IsQueue, of_head, AreHeads, IsParams, IsInter, IsIpDecl, IsAttr, AreModvars, IsStateset, AreInters}
use Rattle.estelle_tree.specs.Beginning.{Beginning, Nothing, ◌or◌, Then, After, OneToken, Lining}
use Rattle.estelle_tree.specs.BeginsTypes.{BeginsNames}
use Rattle.estelle_tree.specs.BeginsDeclarations.{BeginVars}
use Rattle.estelle_tree.specs.BeginsSpecification.{BeginsAttr, BeginsQueue, BeginsHead, BeginHeads, BeginNamed, MayBeginParams, BeginsInter, BeginInters, BeginsChannel, BeginsIpDecl, BeginsStateset, BeginsHeader}
use Rattle.token_reader.specs.Reader.{name}
use Rattle.syntax_forms.specs.Kinds.{is}
use Rattle.syntax_forms.specs.Form as form
use Rattle.syntax_forms.specs.Form.{Form, ◌▸◌, ◌⊕◌}
use Rattle.syntax_forms.specs.Repeats as repeats
use Rattle.syntax_forms.specs.Definitions as definitions
use Rattle.syntax_forms.proofs.NodeForms.{node_form}
use Rattle.syntax_forms.proofs.Lawful.{IsForm}
use Rattle.syntax_forms.proofs.Rules as rules
use Rattle.syntax_forms.proofs.Beginnings as begin
use Rattle.syntax_forms.proofs.Beginnings.{Alike, Blank, same, via, flat}
use Rattle.type_parser.proofs.TypeForms.{names_lawful}
use Rattle.type_parser.proofs.DefinitionForms.{var_lawful}
use Rattle.declaration_parser.specs.Channels.{params}
use Rattle.declaration_parser.specs.Productions as forms
use Rattle.declaration_parser.proofs.Forms.{enclosed_lawful, joined_lawful}
use Rattle.declaration_parser.proofs.Attributes.{queue_lawful}
use Rattle.declaration_parser.proofs.Channels.{params_lawful}
use Rattle.declaration_parser.proofs.Declarations.{ip_decl_lawful}

-- ---- forms in one another, and what comes next

-- `from x to`
pub enclosed_onto : {A : Type 0} {F : Form A} (opener closer : Kind) → is opener k.Nothing ≡ false → is closer k.Nothing ≡ false → IsForm F → (next : Beginning) → Blank next
    → Alike (Then (forms.enclosed opener closer F).begins (Enclosed opener closer F.spells) next) (After opener (F.onto (After closer next)))
enclosed_onto {F = F} opener closer opens closes law next blank =
    flat {F = form.word opener ▸ F ▸ form.word closer} (Enclosed opener closer F.spells) (λ i m x h. ((tt, (x, tt)), (h.at, h.opens, (h.mid, h.inside, h.closes)))) (λ i m p h. (p.1.0, record { at = h.0; mid = h.2.0; opens = h.1; inside = h.2.1; closes = h.2.2 }))
    (begin.row (begin.word opener opens) (begin.row law (begin.word closer closes))) next blank

-- `x k y`
pub joined_onto : {A B : Type 0} {F : Form A} {G : Form B} (word : Kind) → is word k.Nothing ≡ false → IsForm F → IsForm G → (next : Beginning) → Blank next
    → Alike (Then (forms.joined word F G).begins (λ (x : A × B). Joined word F.spells G.spells x.0 x.1) next) (F.onto (After word (G.onto next)))
joined_onto {A} {B} {F = F} {G = G} word is_token first second next blank =
    flat {F = F ▸ form.word word ▸ G} (λ (x : A × B). Joined word F.spells G.spells x.0 x.1) (λ i m x h. ((x.0, (tt, x.1)), (h.mid, h.first, (h.at, h.mark, h.second)))) (λ i m p h. ((p.0, p.1.1), record { mid = h.0; at = h.2.0; first = h.1; mark = h.2.1; second = h.2.2 }))
    (begin.row first (begin.row (begin.word word is_token) second)) next blank

-- `k {x ";"}+` and `[k {x ";"}+]`
module _ {A : Type 0} (F : Form A) (some : F.empty ≡ false) (word : Kind) (is_token : is word k.Nothing ≡ false) (law : IsForm (form.line F)) where
  row_onto : IsForm (form.word word ▸ form.lines F)
  row_onto = begin.row (begin.word word is_token) (begin.repeated (rw some refl) law)

  part_form : IsForm (forms.part word F)
  part_form = node_form between (Behind word (Lines F.spells)) (form.word word ▸ form.lines F) (λ x span. x.1)
      (record { opened = λ i m xs h. ((tt, xs), (h.at, h.mark, h.item), refl); made = λ i m x h. record { at = h.0; mark = h.1; item = h.2 } }) (λ c i m p h r. refl) row_onto

  part_onto : (next : Beginning) → Blank next → Alike (Then (forms.part word F).begins (Behind word (Lines F.spells)) next) (After word (Lining F.begins F.spells next))
  part_onto next blank = flat {F = form.word word ▸ form.lines F} (Behind word (Lines F.spells)) (λ i m xs h. ((tt, xs), (h.at, h.mark, h.item))) (λ i m p h. (p.1, record { at = h.0; mark = h.1; item = h.2 })) row_onto next blank

  pub may_be_part_onto : (next : Beginning) → Blank next → Alike (Then (forms.may_be_part word F).begins (MayBeLines word F.spells) next) (next or After word (Lining F.begins F.spells next))
  may_be_part_onto next blank = via (flat {F = repeats.may (forms.part word F)} (MayBeLines word F.spells) opened made (begin.may_be refl part_form) next blank) (begin.choice same (part_onto next blank))
    where
      opened : (i m : Input) (xs : List A) → MayBeLines word F.spells xs i m → (o : Option (List A)) × (repeats.may (forms.part word F)).spells o i m
      opened i m [] h = (None, h)
      opened i m (x ∷ xs) h = (Some (x ∷ xs), h)

      made : (i m : Input) (o : Option (List A)) → (repeats.may (forms.part word F)).spells o i m → (xs : List A) × MayBeLines word F.spells xs i m
      made i m None h = ([], h)
      made i m (Some []) h = absurd h.item
      made i m (Some (x ∷ xs)) h = (x ∷ xs, h)

-- ---- attributes, queues and heads

-- Attr = SysAttr | process | activity
pub attr_begins : Alike forms.attr.begins BeginsAttr
attr_begins = record { to = to; back = back }
  where
    to : (i m : Input) → forms.attr.begins i m → BeginsAttr i m
    to i m (inl b) = inr (inl b)
    to i m (inr (inl b)) = inr (inr b)
    to i m (inr (inr b)) = inl b

    back : (i m : Input) → BeginsAttr i m → forms.attr.begins i m
    back i m (inl b) = inr (inr b)
    back i m (inr (inl b)) = inl b
    back i m (inr (inr b)) = inr (inl b)

-- `Disc queue`
pub queue_begins : Alike forms.queue.begins BeginsQueue
queue_begins = flat {F = form.word k.Individual ⊕ form.word k.Common} IsDisc opened made (begin.one_of (begin.word k.Individual refl) (begin.word k.Common refl)) (OneToken k.Queue) (λ j. inl refl)
  where
    opened : (i m : Input) (d : Disc) → IsDisc d i m → (x : Unit {0} ⊎ Unit {0}) × (form.word k.Individual ⊕ form.word k.Common).spells x i m
    opened i m (a_disc.Individual span) h = (inl tt, h.0)
    opened i m (a_disc.Common span) h = (inr tt, h.0)

    made : (i m : Input) (x : Unit {0} ⊎ Unit {0}) → (form.word k.Individual ⊕ form.word k.Common).spells x i m → (d : Disc) × IsDisc d i m
    made i m (inl u) h = (a_disc.Individual (between i m), (h, refl))
    made i m (inr u) h = (a_disc.Common (between i m), (h, refl))

-- Head = default Disc queue ";" | timescale NAME ";"
pub head_begins : Alike forms.head.begins BeginsHead
head_begins = begin.choice (begin.after k.Default (begin.part IsQueue queue_begins same)) same

-- `{Head}`, each form at most once, and what comes next
pub heads_onto : (next : Beginning) → Blank next → Alike (Then forms.heads.begins AreHeads next) (BeginHeads next)
unfolding stands
heads_onto next blank = record { to = to; back = back }
  where
    no : true ≡ false → ⊥
    no e = cc

    -- behind these heads comes the beginning of a head of a kind that does not stand among them
    one_more : (hs : List Head) (i m j : Input) → AreHeads hs i m → stands (kind m) (map of_head hs) ≡ false → forms.head.begins m j → BeginHeads next i j
    one_more hs i m j are fresh b = (hs, m, are, inr (inl (fresh, head_begins.to m j b)))

    to : (i j : Input) → Then forms.heads.begins AreHeads next i j → BeginHeads next i j
    to i j (inr h) = (h.0, h.1, h.2, inr (inr h.3))
    to i j (inl (inl (inl b))) = one_more [] i i j (record { heads = refl; once = tt }) refl (inl b)
    to i j (inl (inr (inl b))) = one_more [] i i j (record { heads = refl; once = tt }) refl (inr b)
    to i j (inl (inl (inr (x, m, (d, h, e), b)))) = second b
      where
        are : AreHeads (a_head.Default d (between i m) ∷ []) i m
        are = record { heads = (m, (h, refl), refl); once = (refl, tt) }

        second : forms.timescale_head.begins m j → BeginHeads next i j
        second (inl e) = (a_head.Default d (between i m) ∷ [], m, are, inl e)
        second (inr t) = one_more (a_head.Default d (between i m) ∷ []) i m j are (ap (λ x. stands x (k.Default ∷ [])) t.1.kind) (inr (inr t))
    to i j (inl (inr (inr (x, m, (n, h, e), b)))) = second b
      where
        are : AreHeads (a_head.Timescale n (between i m) ∷ []) i m
        are = record { heads = (m, (h, refl), refl); once = (refl, tt) }

        second : forms.default_head.begins m j → BeginHeads next i j
        second (inl e) = (a_head.Timescale n (between i m) ∷ [], m, are, inl e)
        second (inr t) = one_more (a_head.Timescale n (between i m) ∷ []) i m j are (ap (λ x. stands x (k.Timescale ∷ [])) t.1.kind) (inl (inr t))

    whole : (hs : List Head) (i m j : Input) → AreHeads hs i m → m ≡ j → Then forms.heads.begins AreHeads next i j
    whole hs i m j are e = inr (hs, m, are, subst (λ j. next m j) e (blank m))

    back : (i j : Input) → BeginHeads next i j → Then forms.heads.begins AreHeads next i j
    back i j (hs, m, are, inl e) = whole hs i m j are e
    back i j (hs, m, are, inr (inr n)) = inr (hs, m, are, n)
    back i j (hs, m, are, inr (inl (fresh, b))) = by hs are fresh (head_begins.back m j b)
      where
        by : (hs : List Head) → AreHeads hs i m → stands (kind m) (map of_head hs) ≡ false → forms.head.begins m j → Then forms.heads.begins AreHeads next i j
        by hs are fresh (inl (inl e)) = whole hs i m j are e
        by hs are fresh (inr (inl e)) = whole hs i m j are e
        by [] are fresh (inl (inr t)) = inl (inl (inl (subst (λ i. forms.default_head.begins i j) (sym are.heads) (inr t))))
        by [] are fresh (inr (inr t)) = inl (inr (inl (subst (λ i. forms.timescale_head.begins i j) (sym are.heads) (inr t))))
        by (a_head.Default d span ∷ []) are fresh (inr (inr t)) = inl (inl (inr (a_head.Default d span, m, subst (λ m. forms.default_head.spells (a_head.Default d span) i m) are.heads.2 (d, are.heads.1.0, ap (a_head.Default d) (sym are.heads.1.1)), inr t)))
        by (a_head.Timescale n span ∷ []) are fresh (inl (inr t)) = inl (inr (inr (a_head.Timescale n span, m, subst (λ m. forms.timescale_head.spells (a_head.Timescale n span) i m) are.heads.2 (n, are.heads.1.0, ap (a_head.Timescale n) (sym are.heads.1.1)), inr t)))
        by (a_head.Default d span ∷ hs) are fresh (inl (inr t)) = absurd (no (sym (ap (λ x. stands x (map of_head (a_head.Default d span ∷ hs))) t.1.kind) ∙ fresh))
        by (a_head.Timescale n span ∷ hs) are fresh (inr (inr t)) = absurd (no (sym (ap (λ x. stands x (map of_head (a_head.Timescale n span ∷ hs))) t.1.kind) ∙ fresh))
        by (a_head.Default d span ∷ a_head.Timescale n span' ∷ hs) are fresh (inr (inr t)) = absurd (no (sym (ap (λ x. stands x (map of_head (a_head.Default d span ∷ a_head.Timescale n span' ∷ hs))) t.1.kind) ∙ fresh))
        by (a_head.Timescale n span ∷ a_head.Default d span' ∷ hs) are fresh (inl (inr t)) = absurd (no (sym (ap (λ x. stands x (map of_head (a_head.Timescale n span ∷ a_head.Default d span' ∷ hs))) t.1.kind) ∙ fresh))
        by (a_head.Default d span ∷ a_head.Default d' span' ∷ hs) are fresh (inr (inr t)) = absurd (no are.once.0)
        by (a_head.Timescale n span ∷ a_head.Timescale n' span' ∷ hs) are fresh (inl (inr t)) = absurd (no are.once.0)

-- ---- channels

-- `["(" Params ")"]` and what comes next
params_onto : (next : Beginning) → Blank next → Alike (forms.may_be_params.onto next) (MayBeginParams next)
params_onto next blank = begin.choice same (enclosed_onto k.OpenParenthesis k.CloseParenthesis refl refl params_lawful.form next blank)

-- Inter = NAME ["(" Params ")"]
pub inter_begins : Alike forms.inter.begins BeginsInter
inter_begins = begin.after k.Name (via (begin.alone (begin.may_be refl (enclosed_lawful params k.OpenParenthesis k.CloseParenthesis refl refl (rules.part params_lawful) refl).form)) (params_onto Nothing (λ j. refl)))

-- `by Names ":" {Inter ";"}+`
pub group_begins : Alike forms.group.begins (After k.By BeginInters)
group_begins = begin.after k.By (begin.part IsNames same (begin.after k.Colon (begin.lining IsInter inter_begins same)))

-- Channel = channel NAME "(" NAME "," NAME ")" ";" {by Names ":" {Inter ";"}+}+
pub channel_begins : Alike forms.channel.begins BeginsChannel
channel_begins = begin.after k.Channel (begin.after k.Name (via (enclosed_onto k.OpenParenthesis k.CloseParenthesis refl refl (joined_lawful name name k.Comma refl rules.name rules.name refl).form groups (λ j. inl refl))
    (begin.after k.OpenParenthesis (via (joined_onto k.Comma refl begin.name begin.name (After k.CloseParenthesis groups) (λ j. inl refl))
    (begin.after k.Name (begin.after k.Comma (begin.after k.Name (begin.after k.CloseParenthesis (begin.after k.Semicolon (begin.several (Behind k.By AreInters) group_begins same))))))))))
  where
    groups : Beginning
    groups = After k.Semicolon (form.several forms.group).begins

-- ---- interaction points, headers and declarations

-- IpDecl = Names ":" NAME "(" NAME ")" [Disc queue]
pub ip_decl_begins : Alike forms.ip_decl.begins BeginsIpDecl
ip_decl_begins = via (joined_onto k.Colon refl names_lawful.form begin.name role (λ j. inl (inl refl)))
    (begin.part IsNames same (begin.after k.Colon (begin.after k.Name (via (enclosed_onto k.OpenParenthesis k.CloseParenthesis refl refl begin.name forms.queue.begins queue_lawful.form.nothing)
    (begin.after k.OpenParenthesis (begin.after k.Name (begin.after k.CloseParenthesis queue_begins)))))))
  where
    role : Beginning
    role = Then (forms.enclosed k.OpenParenthesis k.CloseParenthesis form.name).begins (Enclosed k.OpenParenthesis k.CloseParenthesis IsName) forms.queue.begins

-- Where this many more levels of nesting may open.
module _ (room : ℕ) where
  -- Header = module NAME [Attr] ["(" Params ")"] ";" [ip {IpDecl ";"}+] [export {Names ":" Type ";"}+] end ";"
  pub header_begins : Alike (forms.header room).begins (BeginsHeader room)
  header_begins = begin.after k.Module (begin.after k.Name (begin.choice params_begin (begin.part IsAttr attr_begins params_begin)))
    where
      ends : Beginning
      ends = After k.End (OneToken k.Semicolon)

      exports : Beginning
      exports = (forms.may_be_part k.Export (definitions.var room)).onto ends

      BeginsExports : Beginning
      BeginsExports = ends or After k.Export (Lining (BeginVars room) (AreVars room) ends)

      exports_begin : Alike exports BeginsExports
      exports_begin = may_be_part_onto (definitions.var room) refl k.Export refl (rules.line (var_lawful room) refl).form ends (λ j. inl refl)

      ips : Beginning
      ips = (forms.may_be_part k.Ip forms.ip_decl).onto exports

      BeginsIps : Beginning
      BeginsIps = BeginsExports or After k.Ip (Lining BeginsIpDecl IsIpDecl BeginsExports)

      ips_begin : Alike ips BeginsIps
      ips_begin =
          via (may_be_part_onto forms.ip_decl refl k.Ip refl (rules.line ip_decl_lawful refl).form exports (λ j. exports_begin.back j j (inl (inl refl)))) (begin.choice exports_begin (begin.after k.Ip (begin.lining IsIpDecl ip_decl_begins exports_begin)))

      params_begin : Alike (forms.may_be_params.onto (After k.Semicolon ips)) (MayBeginParams (After k.Semicolon BeginsIps))
      params_begin = via (params_onto (After k.Semicolon ips) (λ j. inl refl)) (begin.choice rest (begin.after k.OpenParenthesis (begin.part IsParams same (begin.after k.CloseParenthesis rest))))
        where
          rest : Alike (After k.Semicolon ips) (After k.Semicolon BeginsIps)
          rest = begin.after k.Semicolon ips_begin

  -- a declaration that is no body and no routine
  abbrev pub BeginsPlainDecl : Beginning
  BeginsPlainDecl =
      BeginsChannel
      or BeginsHeader room
      or After k.Ip (Lining BeginsIpDecl IsIpDecl Nothing)
      or After k.Modvar (Lining BeginNamed AreModvars Nothing)
      or After k.State (Then BeginsNames IsNames (OneToken k.Semicolon))
      or After k.Stateset (Lining BeginsStateset IsStateset Nothing)
      or (definitions.block_decl room).begins

  pub plain_decl_begins : Alike (forms.plain_decl room).begins BeginsPlainDecl
  plain_decl_begins = begin.choice channel_begins (begin.choice header_begins (begin.choice (begin.after k.Ip (begin.lining IsIpDecl ip_decl_begins same)) same))
