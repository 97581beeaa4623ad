-- The laws of interaction points, module headers, and the declarations that hold no statements.
use Rattle.std.proofs.Common.{◌≡◌, ℕ, true, List, sym, refl, ap, ◌∙◌, subst, inl, inr, ◌⊎◌}
use Rattle.estelle_tree.specs.declared.kind.Kind.{Kind}
use Rattle.estelle_tree.specs.declared.kind.Kind.TheVariants as k
use Rattle.estelle_tree.specs.declared.span.Span.{Span}
use Rattle.estelle_tree.specs.declared.tree.name.NameList.{NameList}
use Rattle.estelle_tree.specs.declared.tree.declaration.BlockDecl.{BlockDecl}
use Rattle.estelle_tree.specs.declared.tree.declaration.BlockDecl.TheVariants as a_block_decl
use Rattle.estelle_tree.specs.declared.tree.specification.Channel.{Channel}
use Rattle.estelle_tree.specs.declared.tree.specification.Decl.{Decl, out-Decl, roll-Decl}
use Rattle.estelle_tree.specs.declared.tree.specification.Decl.TheVariants as a_decl
use Rattle.estelle_tree.specs.declared.tree.specification.Decl.TheVariants.{outs-Const, outs-Types, outs-Channel, outs-Header, outs-Ip, outs-Modvar, outs-Var, outs-State, outs-Stateset, rolls-Const, rolls-Types, rolls-Channel, rolls-Header, rolls-Ip, rolls-Modvar, rolls-Var, rolls-State, rolls-Stateset}
use Rattle.estelle_tree.specs.declared.tree.specification.Decl.TheOpen.{Decl-F}
use Rattle.estelle_tree.specs.declared.tree.specification.Decl.TheViews.{roll-out-Decl}
use Rattle.estelle_tree.specs.declared.tree.specification.Header.{Header}
use Rattle.estelle_tree.specs.declared.tree.specification.IpDecl.{IpDecl}
use Rattle.estelle_tree.specs.declared.tree.specification.ModvarDecl.{ModvarDecl}
use Rattle.estelle_tree.specs.declared.tree.specification.StatesetDef.{StatesetDef}
use Rattle.estelle_tree.specs.Input.{Input, kind, next, start, between}
use Rattle.estelle_tree.specs.Spans.{DeclLayer}
use Rattle.estelle_tree.specs.Specification.{IsIpDecl, AreModvars, IsStateset, IsHeader}
use Rattle.token_reader.specs.Reader.{name}
use Rattle.token_reader.specs.Lists.{optional}
use Rattle.syntax_forms.specs.Form as form
use Rattle.syntax_forms.specs.Form.{Form, ◌▸◌, ◌⊕◌}
use Rattle.syntax_forms.specs.Repeats as repeats
use Rattle.syntax_forms.specs.Reading.{Reading, one, choose, closed}
use Rattle.syntax_forms.specs.Types as types
use Rattle.syntax_forms.specs.Definitions as definitions
use Rattle.syntax_forms.proofs.NodeForms.{IsNode}
use Rattle.syntax_forms.proofs.Lawful.{IsRead, IsLawful}
use Rattle.syntax_forms.proofs.Rules as rules
use Rattle.syntax_forms.proofs.KindLaws.{agree}
use Rattle.type_parser.specs.Types.{begins_name, names, typed_names}
use Rattle.type_parser.specs.Definitions.{part, block_decl}
use Rattle.type_parser.proofs.TypeForms.{names_lawful}
use Rattle.type_parser.proofs.DefinitionForms.{var_lawful, block_decl_lawful}
use Rattle.declaration_parser.specs.Forms.{enclosed, may_be_part}
use Rattle.declaration_parser.specs.Attributes.{begins_attr, begins_disc, attr, queue}
use Rattle.declaration_parser.specs.Channels.{channel}
use Rattle.declaration_parser.specs.Declarations.{ip_decl, modvar_decl, stateset_def, header, of_block_decl, definition_part, channel_part, header_part, ip_part, modvar_part, state_part, stateset_part, plain_decl}
use Rattle.declaration_parser.specs.Plain.{IsPlainLayer, IsPlainDecl}
use Rattle.declaration_parser.specs.Productions as forms
use Rattle.declaration_parser.proofs.Forms.{enclosed_lawful, joined_lawful, part_lawful, may_be_part_read}
use Rattle.declaration_parser.proofs.Attributes.{attr_lawful, queue_lawful}
use Rattle.declaration_parser.proofs.Channels.{named_lawful, may_be_params_read, channel_lawful}

-- ---- interaction points

-- `[Disc queue]`
queue_read : IsRead (repeats.may forms.queue) (one (optional begins_disc queue))
queue_read = rules.may begins_disc queue_lawful refl (agree begins_disc forms.queue.first refl) (λ i s. takes i (kind i) refl s) refl
  where
    takes : (i : Input) (x : Kind) → kind i ≡ x → forms.queue.first x ≡ true → forms.queue.begins i (next i)
    takes i k.Individual e s = inl (inl (inr (record { kind = e; next = refl })))
    takes i k.Common e s = inl (inr (inr (record { kind = e; next = refl })))
    takes i _ e s = absurd (cc)

-- IpDecl = Names ":" NAME "(" NAME ")" [Disc queue]
pub ip_decl_lawful : IsLawful forms.ip_decl ip_decl
unfolding ip_decl
ip_decl_lawful =
    rules.spanned ip_decl told refl (rules.and (rules.part named_lawful) (rules.and (rules.part (enclosed_lawful name k.OpenParenthesis k.CloseParenthesis refl refl rules.name refl)) queue_read refl) refl).rest (λ i. refl)
  where
    told : IsNode IsIpDecl (forms.joined k.Colon types.names form.name ▸ forms.enclosed k.OpenParenthesis k.CloseParenthesis form.name ▸ repeats.may forms.queue).spells
        (λ p span. record { names = p.0.0; channel = p.0.1; role = p.1.0; disc = p.1.1; span = span })
    told = record {
      opened = λ i m p h. (((p.names, p.channel), (p.role, p.disc)), (h.after_channel, h.names, (h.after_role, h.role, h.disc)), ap (λ span. record { names = p.names; channel = p.channel; role = p.role; disc = p.disc; span = span }) (sym h.span));
      made = λ i m p h. record { after_channel = h.0; after_role = h.2.0; names = h.1; role = h.2.1; disc = h.2.2; span = refl };
    }

-- ---- module variables and state sets

pub modvar_decl_lawful : IsLawful forms.modvar_decl modvar_decl
unfolding modvar_decl
modvar_decl_lawful = rules.made modvar_decl told (rules.part named_lawful).rest (λ i. refl)
  where
    told : IsNode AreModvars (forms.joined k.Colon types.names form.name).spells (λ p span. record { names = p.0; header = p.1 })
    told = record { opened = λ i m d h. ((d.names, d.header), h, refl); made = λ i m p h. h }

-- `NAME "=" "[" Names "]"`
pub stateset_def_lawful : IsLawful forms.stateset_def stateset_def
unfolding stateset_def
stateset_def_lawful = rules.made stateset_def told (rules.part (joined_lawful name (enclosed k.OpenBracket k.CloseBracket names) k.Equal refl rules.name (rules.part (enclosed_lawful names k.OpenBracket k.CloseBracket refl refl (rules.part names_lawful) refl)) refl)).rest (λ i. refl)
  where
    told : IsNode IsStateset (forms.joined k.Equal form.name (forms.enclosed k.OpenBracket k.CloseBracket types.names)).spells (λ p span. record { name = p.0; states = p.1 })
    told = record { opened = λ i m s h. ((s.name, s.states), h, refl); made = λ i m p h. h }

-- ---- headers

-- `[Attr]`
attr_read : IsRead (repeats.may forms.attr) (one (optional begins_attr attr))
attr_read = rules.may begins_attr attr_lawful refl (agree begins_attr forms.attr.first refl) (λ i s. takes i (kind i) refl s) refl
  where
    takes : (i : Input) (x : Kind) → kind i ≡ x → forms.attr.first x ≡ true → forms.attr.begins i (next i)
    takes i k.Process e s = inl (inr (record { kind = e; next = refl }))
    takes i k.Activity e s = inr (inl (inr (record { kind = e; next = refl })))
    takes i k.Systemprocess e s = inr (inr (inl (inr (record { kind = e; next = refl }))))
    takes i k.Systemactivity e s = inr (inr (inr (inr (record { kind = e; next = refl }))))
    takes i _ e s = absurd (cc)

-- `k {IpDecl ";"}+` and `[k {IpDecl ";"}+]`
ips_lawful : IsLawful (forms.part k.Ip forms.ip_decl) (part k.Ip begins_name ip_decl)
ips_lawful = part_lawful ip_decl_lawful refl refl (agree begins_name (form.line forms.ip_decl).first refl) (λ i t. inl (inl (inl (inr t)))) k.Ip refl

may_be_ips_read : IsRead (forms.may_be_part k.Ip forms.ip_decl) (one (may_be_part k.Ip begins_name ip_decl))
may_be_ips_read = may_be_part_read ip_decl_lawful refl refl (agree begins_name (form.line forms.ip_decl).first refl) (λ i t. inl (inl (inl (inr t)))) k.Ip refl

module _ (room : ℕ) where
  exports_read : IsRead (forms.may_be_part k.Export (definitions.var room)) (one (may_be_part k.Export begins_name (typed_names room)))
  exports_read = may_be_part_read (var_lawful room) refl refl (agree begins_name (form.line (definitions.var room)).first refl) (λ i t. inl (inl (inr t))) k.Export refl

  pub header_lawful : IsLawful (forms.header room) (header room)
  unfolding header
  header_lawful =
      rules.spanned (header room) told refl (rules.and (rules.word k.Module refl) (rules.and rules.name (rules.and attr_read (rules.and may_be_params_read (rules.and (rules.word k.Semicolon refl)
      (rules.and may_be_ips_read (rules.and exports_read (rules.and (rules.word k.End refl) (rules.word k.Semicolon refl) refl) refl) refl) refl) refl) refl) refl) refl).rest (λ i. refl)
    where
      told : IsNode (IsHeader room) (form.word k.Module ▸ form.name ▸ repeats.may forms.attr ▸ forms.may_be_params ▸ form.word k.Semicolon ▸ forms.may_be_part k.Ip forms.ip_decl ▸ forms.may_be_part k.Export (definitions.var room) ▸ form.word k.End ▸ form.word k.Semicolon).spells
          (λ p span. let q = p.1.1.1 in record { name = p.1.0; attr = p.1.1.0; params = q.0; ips = q.1.1.0; exports = q.1.1.1.0; span = span })
      told = record {
        opened = λ i m x h. (
          (tt, (x.name, (x.attr, (x.params, (tt, (x.ips, (x.exports, (tt, tt)))))))),
          (h.name.at, h.name.mark, (h.after_name, h.name.item, (h.after_attr, h.attr, (h.after_params, h.params, (h.after_head, h.semicolon, (h.after_ips, h.ips, (h.after_exports, h.exports, (h.after_end, h.ends, h.last)))))))),
          ap (λ span. record { name = x.name; attr = x.attr; params = x.params; ips = x.ips; exports = x.exports; span = span }) (sym h.span),
        );
        made = λ i m p h.
            let a = h.2.2 in
            let s = a.2.2 in
            let e = s.2.2 in
            record { after_name = h.2.0; after_attr = a.0; after_params = a.2.0; after_head = s.0; after_ips = s.2.0; after_exports = e.0; after_end = e.2.0; name = record { at = h.0; mark = h.1; item = h.2.1 }; attr = a.1; params = a.2.1; semicolon = s.1; ips = s.2.1; exports = e.1; ends = e.2.1; last = e.2.2; span = refl };
      }

  -- ---- declarations

  abbrev Plain : Type 0
  Plain = Channel ⊎ (Header ⊎ (List IpDecl ⊎ (List ModvarDecl ⊎ (NameList ⊎ (List StatesetDef ⊎ BlockDecl)))))

  abbrev Declared : Form Plain
  Declared =
      forms.channel ⊕ forms.header room ⊕ forms.part k.Ip forms.ip_decl ⊕ forms.part k.Modvar forms.modvar_decl ⊕ forms.enclosed k.State k.Semicolon types.names ⊕ forms.part k.Stateset forms.stateset_def ⊕ definitions.block_decl room

  make_plain : Plain → Span → Decl
  make_plain (inl c) span = a_decl.Channel c
  make_plain (inr (inl x)) span = a_decl.Header x
  make_plain (inr (inr (inl ips))) span = a_decl.Ip ips span
  make_plain (inr (inr (inr (inl ms)))) span = a_decl.Modvar ms span
  make_plain (inr (inr (inr (inr (inl states))))) span = a_decl.State states span
  make_plain (inr (inr (inr (inr (inr (inl sets)))))) span = a_decl.Stateset sets span
  make_plain (inr (inr (inr (inr (inr (inr b)))))) span = of_block_decl b

  plain_is : IsNode (IsPlainDecl room) Declared.spells make_plain
  unfolding make_plain
  plain_is = record { opened = λ i m d h. of_layer i m d (out-Decl d) (roll-out-Decl d) h; made = made }
    where
      of_block : (i m : Input) (d : Decl) (b : BlockDecl) → of_block_decl b ≡ d → (definitions.block_decl room).spells b i m → (form.built make_plain Declared).spells d i m
      of_block i m d b e h = (inr (inr (inr (inr (inr (inr b))))), h, e)

      of_layer : (i m : Input) (d : Decl) (l : DeclLayer) → roll-Decl l ≡ d → IsPlainLayer room l i m → (form.built make_plain Declared).spells d i m
      of_layer i m d (Decl-F.Const defs span) e h = of_block i m d (a_block_decl.Const defs span) (sym (rolls-Const defs span) ∙ e) h
      of_layer i m d (Decl-F.Types defs span) e h = of_block i m d (a_block_decl.Types defs span) (sym (rolls-Types defs span) ∙ e) h
      of_layer i m d (Decl-F.Var vars span) e h = of_block i m d (a_block_decl.Var vars span) (sym (rolls-Var vars span) ∙ e) h
      of_layer i m d (Decl-F.Channel c) e h = (inl c, h, sym (rolls-Channel c) ∙ e)
      of_layer i m d (Decl-F.Header x) e h = (inr (inl x), h, sym (rolls-Header x) ∙ e)
      of_layer i m d (Decl-F.Body b) e h = absurd h
      of_layer i m d (Decl-F.Routine r) e h = absurd h
      of_layer i m d (Decl-F.Ip ips span) e h = (inr (inr (inl ips)), h.0, ap (a_decl.Ip ips) (sym h.1) ∙ sym (rolls-Ip ips span) ∙ e)
      of_layer i m d (Decl-F.Modvar ms span) e h = (inr (inr (inr (inl ms))), h.0, ap (a_decl.Modvar ms) (sym h.1) ∙ sym (rolls-Modvar ms span) ∙ e)
      of_layer i m d (Decl-F.State states span) e h = (inr (inr (inr (inr (inl states)))), h.0, ap (a_decl.State states) (sym h.1) ∙ sym (rolls-State states span) ∙ e)
      of_layer i m d (Decl-F.Stateset sets span) e h = (inr (inr (inr (inr (inr (inl sets))))), h.0, ap (a_decl.Stateset sets) (sym h.1) ∙ sym (rolls-Stateset sets span) ∙ e)

      layered : {l : DeclLayer} (i m : Input) (d : Decl) → out-Decl d ≡ l → IsPlainLayer room l i m → IsPlainDecl room d i m
      layered i m d e h = subst (λ l. IsPlainLayer room l i m) (sym e) h

      block_made : (i m : Input) (b : BlockDecl) → (definitions.block_decl room).spells b i m → IsPlainDecl room (of_block_decl b) i m
      block_made i m (a_block_decl.Const defs span) h = layered i m _ (outs-Const defs span) h
      block_made i m (a_block_decl.Types defs span) h = layered i m _ (outs-Types defs span) h
      block_made i m (a_block_decl.Var vars span) h = layered i m _ (outs-Var vars span) h

      made : (i m : Input) (p : Plain) → Declared.spells p i m → IsPlainDecl room (make_plain p (between i m)) i m
      made i m (inl c) h = layered i m _ (outs-Channel c) h
      made i m (inr (inl x)) h = layered i m _ (outs-Header x) h
      made i m (inr (inr (inl ips))) h = layered i m _ (outs-Ip ips (between i m)) (h, refl)
      made i m (inr (inr (inr (inl ms)))) h = layered i m _ (outs-Modvar ms (between i m)) (h, refl)
      made i m (inr (inr (inr (inr (inl states))))) h = layered i m _ (outs-State states (between i m)) (h, refl)
      made i m (inr (inr (inr (inr (inr (inl sets)))))) h = layered i m _ (outs-Stateset sets (between i m)) (h, refl)
      made i m (inr (inr (inr (inr (inr (inr b)))))) h = block_made i m b h

  abbrev read_plain : Reading Plain
  read_plain =
      choose forms.channel.first (one channel) (choose (forms.header room).first (one (header room)) (choose (forms.part k.Ip forms.ip_decl).first (one (part k.Ip begins_name ip_decl))
      (choose (forms.part k.Modvar forms.modvar_decl).first (one (part k.Modvar begins_name modvar_decl)) (choose (forms.enclosed k.State k.Semicolon types.names).first (one (enclosed k.State k.Semicolon names))
      (choose (forms.part k.Stateset forms.stateset_def).first (one (part k.Stateset begins_name stateset_def)) (one (block_decl room)))))))

  plain_same : (i : Input) → plain_decl room i ≡ read_plain Decl (closed make_plain (start i)) i
  unfolding plain_decl definition_part channel_part header_part ip_part modvar_part state_part stateset_part make_plain
  plain_same i = by (kind i) refl
    where
      by : (x : Kind) → kind i ≡ x → plain_decl room i ≡ read_plain Decl (closed make_plain (start i)) i
      by k.Channel e = rw e refl
      by k.Module e = rw (e, e) refl
      by k.Ip e = rw (e, e, e) refl
      by k.Modvar e = rw (e, e, e, e) refl
      by k.State e = rw (e, e, e, e, e) refl
      by k.Stateset e = rw (e, e, e, e, e, e) refl
      by x e = rw (e, e, e, e, e, e) refl

  pub plain_decl_lawful : IsLawful (forms.plain_decl room) (plain_decl room)
  plain_decl_lawful =
      rules.spanned (plain_decl room) plain_is refl (rules.or (rules.part channel_lawful) (rules.or (rules.part header_lawful) (rules.or (rules.part ips_lawful)
      (rules.or (rules.part (part_lawful modvar_decl_lawful refl refl (agree begins_name (form.line forms.modvar_decl).first refl) (λ i t. inl (inl (inr t))) k.Modvar refl))
      (rules.or (rules.part (enclosed_lawful names k.State k.Semicolon refl refl (rules.part names_lawful) refl))
      (rules.or (rules.part (part_lawful stateset_def_lawful refl refl (agree begins_name (form.line forms.stateset_def).first refl) (λ i t. inr (next i, t, inl refl)) k.Stateset refl)) (rules.part (block_decl_lawful room))
      refl refl) refl refl) refl refl) refl refl) refl refl) refl refl).rest plain_same
