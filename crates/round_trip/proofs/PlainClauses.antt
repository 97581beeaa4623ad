-- Blocks, clauses and groups of clauses without their spans, where tokens have no places.
use Rattle.std.proofs.Common.{◌≡◌, ℕ, zero, suc, List, [], ◌∷◌, map, length, inl, inr, sym, ap, ◌∙◌, subst}
use Rattle.estelle_tree.specs.declared.kind.Kind.{Kind}
use Rattle.estelle_tree.specs.declared.kind.Kind.TheVariants as k
use Rattle.estelle_tree.specs.declared.tree.clause.NextState.TheVariants as next_state
use Rattle.estelle_tree.specs.declared.tree.clause.DelayHigh.TheVariants as delay_high
use Rattle.estelle_tree.specs.declared.tree.clause.Clause.TheVariants as clause
use Rattle.estelle_tree.specs.declared.tree.clause.TransBody.{out-TransBody, roll-TransBody}
use Rattle.estelle_tree.specs.declared.tree.clause.TransBody.TheOpen.{TransBody-F}
use Rattle.estelle_tree.specs.declared.tree.clause.TransBody.TheViews.{out-roll-TransBody}
use Rattle.estelle_tree.specs.declared.tree.clause.Group.{Group, out-Group}
use Rattle.estelle_tree.specs.Input.{Input}
use Rattle.estelle_tree.specs.Spans.{TransBodyLayer, nowhere}
use Rattle.estelle_tree.specs.Spelling.{Spelling, Behind, Separated, Enclosed}
use Rattle.estelle_tree.specs.Types.{IsName, IsNames, IsConst, IsOrdinal}
use Rattle.estelle_tree.specs.Expressions.{IsExpr}
use Rattle.estelle_tree.specs.Declarations.{IsBlockDecl}
use Rattle.estelle_tree.specs.Clauses.{IsLabel, IsAnyDom, IsNextState, IsDelayHigh, IsBlock, IsClause, of_clause, clause_kinds, stands, way_of, holds_block, Follows, MoreGroups, AreGroups, TransBodyLayerOf, TransBodyOf, GroupOf, GroupWithin, IsTransBody}
use Rattle.round_trip.specs.Types.{bare_name, bare_names, bare_const, bare_ordinal}
use Rattle.round_trip.specs.Expressions.{bare_expr}
use Rattle.round_trip.specs.Declarations.{bare_block_decl}
use Rattle.round_trip.specs.Clauses.{bare_label, bare_block, bare_any_dom, bare_next_state, bare_delay_high, bare_clause, bare_trans_body, bare_group}
use Rattle.round_trip.proofs.Moves.{ap2}
use Rattle.round_trip.proofs.ClauseMoves.{labelled_bare, kind_bare, holds_whole, layer_of_body, body_opened, group_opened}
use Rattle.round_trip.proofs.PlainForms.{plain, Plain, nothing, no_span, takes, optional, chain, behind, enclosed, separated, joined, rolling}
use Rattle.round_trip.proofs.PlainTypes.{plain_name, plain_names, plain_const, plain_ordinal}
use Rattle.round_trip.proofs.PlainExpressions.{plain_expr}
use Rattle.round_trip.proofs.PlainDeclarations.{plain_block_decl, plain_statement_part}

plain_label : Plain IsLabel bare_label
plain_label l i j h = record { at = plain h.at; mid = plain h.mid; word = takes h.word; name = plain_name l.name h.at h.mid h.name; colon = takes h.colon; span = no_span i j }

plain_any_dom : Plain IsAnyDom bare_any_dom
plain_any_dom d i j h = record { parts = joined k.Colon IsNames IsOrdinal bare_names bare_ordinal plain_names plain_ordinal d.names d.domain h.parts; span = no_span i j }

plain_next_state : Plain IsNextState bare_next_state
plain_next_state (next_state.Name name) i j h = plain_name name i j h
plain_next_state next_state.Same i j h = takes h

-- ---- groups: their kinds and whether they hold blocks

group_kind : (g : Group) → of_clause (out-Group (bare_group g)).clause ≡ of_clause (out-Group g).clause
group_kind g = ap (λ x. of_clause (out-Group x).clause) (group_opened g) ∙ kind_bare (out-Group g).clause

group_holds : (g : Group) → holds_block (bare_group g) ≡ holds_block g
group_holds g = ap holds_block (group_opened g) ∙ holds_whole (out-Group g).body

plain_follows : (way : List Kind) (before g : Group) → Follows way before g → Follows way (bare_group before) (bare_group g)
plain_follows way before g (inl closed) = inl (group_holds before ∙ closed)
plain_follows way before g (inr on) = inr (ap2 (λ a b. stands a (b ∷ way)) (group_kind g) (group_kind before) ∙ on)

module _ (room : ℕ) where
  pub plain_block : Plain (IsBlock room) bare_block
  plain_block b i j h = record {
    after_label = plain h.after_label;
    after_decls = plain h.after_decls;
    after_late = plain h.after_late;
    labelled = labelled_bare b.label b.decls b.late_label h.labelled;
    label = optional IsLabel bare_label plain_label b.label i h.after_label h.label;
    decls = chain (IsBlockDecl room) bare_block_decl (plain_block_decl room) b.decls h.after_label h.after_decls h.decls;
    late_label = optional IsLabel bare_label plain_label b.late_label h.after_decls h.after_late h.late_label;
    body = plain_statement_part room b.body h.after_late j h.body;
    span = no_span i j;
  }

  plain_high : Plain (IsDelayHigh room) bare_delay_high
  plain_high (delay_high.Expr expr) i j h = plain_expr room expr i j h
  plain_high delay_high.Star i j h = takes h

  plain_clause : Plain (IsClause room) bare_clause
  plain_clause (clause.From states span) i j h = (behind IsNames bare_names plain_names k.From states i j h.0, no_span i j)
  plain_clause (clause.To state span) i j h = (behind IsNextState bare_next_state plain_next_state k.To state i j h.0, no_span i j)
  plain_clause (clause.When ip interaction params span) i j h =
      let a = h.0 in (
        record {
          at = plain a.at;
          mid = plain a.mid;
          word = takes a.word;
          names = joined k.Dot IsName IsName bare_name bare_name plain_name plain_name ip interaction a.names;
          params = optional (Enclosed k.OpenParenthesis k.CloseParenthesis IsNames) bare_names (enclosed IsNames bare_names plain_names k.OpenParenthesis k.CloseParenthesis) params a.mid j a.params;
        },
        no_span i j,
      )
  plain_clause (clause.Provided condition span) i j h = (behind (IsExpr room) bare_expr (plain_expr room) k.Provided condition i j h.0, no_span i j)
  plain_clause (clause.Priority value span) i j h = (behind IsConst bare_const plain_const k.Priority value i j h.0, no_span i j)
  plain_clause (clause.Any domains span) i j h = (enclosed (Separated k.Semicolon IsAnyDom) (map bare_any_dom) (separated IsAnyDom bare_any_dom plain_any_dom k.Semicolon) k.Any k.Do domains i j h.0, no_span i j)
  plain_clause (clause.Delay low high span) i j h =
      let a = h.0 in (
        record {
          at = plain a.at;
          after = plain a.after;
          mid = plain a.mid;
          last = plain a.last;
          word = takes a.word;
          opens = takes a.opens;
          low = plain_expr room low a.after a.mid a.low;
          high = optional (Behind k.Comma (IsDelayHigh room)) bare_delay_high (behind (IsDelayHigh room) bare_delay_high plain_high k.Comma) high a.mid a.last a.high;
          closes = takes a.closes;
        },
        no_span i j,
      )

  module _ (G : List Kind → Spelling Group) (plainly : (way : List Kind) → Plain (G way) bare_group) where
    plain_more : (way : List Kind) (before : Group) (gs : List Group) (i j : Input) → MoreGroups room G way before gs i j → MoreGroups room G way (bare_group before) (map bare_group gs) (plain i) (plain j)
    plain_more way before [] i j h = nothing h
    plain_more way before (g ∷ gs) i j h = (plain_follows way before g h.0, (plain h.1.0, plainly way g i h.1.0 h.1.1, plain_more way g gs h.1.0 j h.1.2))

    plain_groups : (way : List Kind) → Plain (AreGroups room G way) (map bare_group)
    plain_groups way [] i j h = absurd h
    plain_groups way (g ∷ gs) i j h = (plain h.0, plainly way g i h.0 h.1, plain_more way g gs h.0 j h.2)

    put : (way : List Kind) (l : TransBodyLayer) (i j : Input) → TransBodyLayerOf room G way l i j → TransBodyLayerOf room G way (out-TransBody (roll-TransBody l)) i j
    put way l i j h = subst (λ l. TransBodyLayerOf room G way l i j) (sym (out-roll-TransBody l)) h

    plain_layer : (way : List Kind) (l : TransBodyLayer) (i j : Input) → TransBodyLayerOf room G way l i j → TransBodyLayerOf room G way (out-TransBody (layer_of_body l)) (plain i) (plain j)
    plain_layer way (TransBody-F.Block block) i j h = put way (TransBody-F.Block (bare_block block)) _ _ (plain_block block i j h)
    plain_layer way (TransBody-F.Groups groups span) i j h = put way (TransBody-F.Groups (map bare_group groups) nowhere) _ _ (plain_groups way groups i j h.0, no_span i j)

    plain_body_of : (way : List Kind) → Plain (TransBodyOf room G way) bare_trans_body
    plain_body_of way = rolling (TransBodyLayerOf room G way) layer_of_body out-TransBody bare_trans_body body_opened (plain_layer way)

    plain_group : (way : List Kind) → Plain (GroupOf room G way) bare_group
    plain_group way g i j h =
        let same = kind_bare (out-Group g).clause in
        let body = plain_body_of (way_of way g) (out-Group g).body h.mid j h.body in
        subst (λ y. GroupOf room G way y (plain i) (plain j)) (sym (group_opened g)) (record {
          mid = plain h.mid;
          fresh = ap (λ a. stands a way) same ∙ h.fresh;
          clause = plain_clause (out-Group g).clause i h.mid h.clause;
          body = subst (λ a. TransBodyOf room G (a ∷ way) (bare_trans_body (out-Group g).body) (plain h.mid) (plain j)) (sym same) body;
          span = no_span i j;
        })

  plain_within : (n : ℕ) (way : List Kind) → Plain (GroupWithin room n way) bare_group
  plain_within zero way g i j h = absurd h
  plain_within (suc n) way g i j h = plain_group (GroupWithin room n) (λ way g i j h. plain_within n way g i j h) way g i j h

  pub plain_trans_body : Plain (IsTransBody room) bare_trans_body
  plain_trans_body = plain_body_of (GroupWithin room (length clause_kinds)) (plain_within (length clause_kinds)) []
