-- The laws of parameters, interactions and channels.
use Rattle.std.proofs.Common.{sym, refl, ap, inl, inr}
use Rattle.estelle_tree.specs.declared.kind.Kind.TheVariants as k
use Rattle.estelle_tree.specs.Input.{next}
use Rattle.estelle_tree.specs.Spelling.{Behind}
use Rattle.estelle_tree.specs.Specification.{AreParams, IsParams, IsInter, AreInters, IsChannel}
use Rattle.token_reader.specs.Reader.{name}
use Rattle.token_reader.specs.Lists.{several}
use Rattle.syntax_forms.specs.Form as form
use Rattle.syntax_forms.specs.Form.{◌▸◌}
use Rattle.syntax_forms.specs.Reading.{one}
use Rattle.syntax_forms.specs.Types as types
use Rattle.syntax_forms.proofs.KindLaws.{agree}
use Rattle.syntax_forms.proofs.NodeForms.{IsNode}
use Rattle.syntax_forms.proofs.Lawful.{IsRead, IsLawful}
use Rattle.syntax_forms.proofs.Rules as rules
use Rattle.syntax_forms.proofs.Words.{takes_first}
use Rattle.type_parser.specs.Types.{begins_name, names}
use Rattle.type_parser.specs.Definitions.{part}
use Rattle.type_parser.proofs.TypeForms.{names_lawful}
use Rattle.declaration_parser.specs.Forms.{enclosed, joined}
use Rattle.declaration_parser.specs.Channels.{begins_parenthesis, begins_group, param_group, params, may_be_params, inter, group, channel}
use Rattle.declaration_parser.specs.Productions as forms
use Rattle.declaration_parser.proofs.Forms.{enclosed_lawful, joined_lawful, part_lawful}

-- ---- parameters

-- `Names ":" NAME`
pub named_lawful : IsLawful (forms.joined k.Colon types.names form.name) (joined k.Colon names name)
named_lawful = joined_lawful names name k.Colon refl (rules.part names_lawful) rules.name refl

pub param_group_lawful : IsLawful forms.param_group param_group
unfolding param_group
param_group_lawful = rules.made param_group told (rules.part named_lawful).rest (λ i. refl)
  where
    told : IsNode AreParams (forms.joined k.Colon types.names form.name).spells (λ p span. record { names = p.0; type_name = p.1 })
    told = record { opened = λ i m g h. ((g.names, g.type_name), h, refl); made = λ i m p h. h }

-- Params = Names ":" NAME {";" Names ":" NAME}
pub params_lawful : IsLawful forms.params params
unfolding params
params_lawful = rules.spanned params told refl (rules.separated k.Semicolon param_group_lawful refl refl).rest (λ i. refl)
  where
    told : IsNode IsParams (form.separated k.Semicolon forms.param_group).spells (λ gs span. record { groups = gs; span = span })
    told = record { opened = λ i m ps h. (ps.groups, h.groups, ap (λ span. record { groups = ps.groups; span = span }) (sym h.span)); made = λ i m gs h. record { groups = h; span = refl } }

-- `["(" Params ")"]`
pub may_be_params_read : IsRead forms.may_be_params (one may_be_params)
may_be_params_read =
    rules.may begins_parenthesis (enclosed_lawful params k.OpenParenthesis k.CloseParenthesis refl refl (rules.part params_lawful) refl) refl (agree begins_parenthesis forms.may_be_params.first refl)
    (λ i s. inr (next i, takes_first forms.may_be_params k.OpenParenthesis refl i s, inl (params_lawful.form.nothing (next i)))) refl

-- ---- interactions

-- Inter = NAME ["(" Params ")"]
pub inter_lawful : IsLawful forms.inter inter
unfolding inter
inter_lawful = rules.spanned inter told refl (rules.and rules.name may_be_params_read refl).rest (λ i. refl)
  where
    told : IsNode IsInter (form.name ▸ forms.may_be_params).spells (λ p span. record { name = p.0; params = p.1; span = span })
    told = record {
      opened = λ i m x h. ((x.name, x.params), (h.mid, h.name, h.params), ap (λ span. record { name = x.name; params = x.params; span = span }) (sym h.span));
      made = λ i m p h. record { mid = h.0; name = h.1; params = h.2; span = refl };
    }

-- ---- channels

-- `by Names ":" {Inter ";"}+`
pub group_lawful : IsLawful forms.group group
unfolding group
group_lawful = rules.made group told (rules.and (rules.word k.By refl) (rules.and (rules.part names_lawful) (rules.part inters) refl) refl).rest (λ i. refl)
  where
    inters : IsLawful (forms.part k.Colon forms.inter) (part k.Colon begins_name inter)
    inters = part_lawful inter_lawful refl refl (agree begins_name (form.line forms.inter).first refl) (λ i t. inr (next i, t, inl refl)) k.Colon refl

    told : IsNode (Behind k.By AreInters) (form.word k.By ▸ types.names ▸ forms.part k.Colon forms.inter).spells (λ p span. record { roles = p.1.0; inters = p.1.1 })
    told = record {
      opened = λ i m g h. ((tt, (g.roles, g.inters)), (h.at, h.mark, (h.item.mid, h.item.first, record { at = h.item.at; mark = h.item.mark; item = h.item.second })), refl);
      made = λ i m p h. record { at = h.0; mark = h.1; item = record { mid = h.2.0; at = h.2.2.at; first = h.2.1; mark = h.2.2.mark; second = h.2.2.item } };
    }

-- Channel = channel NAME "(" NAME "," NAME ")" ";" {by Names ":" {Inter ";"}+}+
pub channel_lawful : IsLawful forms.channel channel
unfolding channel
channel_lawful =
    rules.spanned channel told refl (rules.and (rules.word k.Channel refl) (rules.and rules.name (rules.and (rules.part roles) (rules.and (rules.word k.Semicolon refl) groups refl) refl) refl) refl).rest (λ i. refl)
  where
    roles : IsLawful (forms.enclosed k.OpenParenthesis k.CloseParenthesis (forms.joined k.Comma form.name form.name)) (enclosed k.OpenParenthesis k.CloseParenthesis (joined k.Comma name name))
    roles = enclosed_lawful (joined k.Comma name name) k.OpenParenthesis k.CloseParenthesis refl refl (rules.part (joined_lawful name name k.Comma refl rules.name rules.name refl)) refl

    groups : IsRead (form.several forms.group) (one (several begins_group group))
    groups = rules.several begins_group group_lawful refl refl refl (agree begins_group forms.group.first refl) (λ i s. inr (next i, takes_first forms.group k.By refl i s, inl (names_lawful.form.nothing (next i))))

    told : IsNode IsChannel (form.word k.Channel ▸ form.name ▸ forms.enclosed k.OpenParenthesis k.CloseParenthesis (forms.joined k.Comma form.name form.name) ▸ form.word k.Semicolon ▸ form.several forms.group).spells
        (λ p span. record { name = p.1.0; first_role = p.1.1.0.0; second_role = p.1.1.0.1; groups = p.1.1.1.1; span = span })
    told = record {
      opened = λ i m c h. (
        (tt, (c.name, ((c.first_role, c.second_role), (tt, c.groups)))),
        (h.name.at, h.name.mark, (h.after_name, h.name.item, (h.after_close, record { at = h.after_open; mid = h.after_roles; opens = h.opens; inside = h.roles; closes = h.closes }, (h.after_head, h.semicolon, h.groups)))),
        ap (λ span. record { name = c.name; first_role = c.first_role; second_role = c.second_role; groups = c.groups; span = span }) (sym h.span),
      );
      made = λ i m p h.
          let n = h.2 in
          let r = n.2 in
          let g = r.2 in
          record { after_name = n.0; after_open = r.1.at; after_roles = r.1.mid; after_close = r.0; after_head = g.0; name = record { at = h.0; mark = h.1; item = n.1 }; opens = r.1.opens; roles = r.1.inside; closes = r.1.closes; semicolon = g.1; groups = g.2; span = refl };
    }
