-- Which tokens blocks, clauses and groups of clauses spell.
use Rattle.std.proofs.Common.{ℕ, zero, suc, List, [], ◌∷◌, ◌++◌, refl, append_assoc, length}
use Rattle.std.specs.List.{flat_map}
use Rattle.estelle_tree.specs.declared.kind.Kind.{Kind}
use Rattle.estelle_tree.specs.declared.kind.Kind.TheVariants as k
use Rattle.estelle_tree.specs.declared.tree.clause.NextState.TheVariants as next_state
use Rattle.estelle_tree.specs.declared.tree.clause.DelayHigh.TheVariants as delay_high
use Rattle.estelle_tree.specs.declared.tree.clause.Clause.TheVariants as clause
use Rattle.estelle_tree.specs.declared.tree.clause.TransBody.{TransBody, out-TransBody, map-TransBody}
use Rattle.estelle_tree.specs.declared.tree.clause.TransBody.TheOpen.{TransBody-F}
use Rattle.estelle_tree.specs.declared.tree.clause.Group.{Group, out-Group}
use Rattle.estelle_tree.specs.Input.{Input}
use Rattle.estelle_tree.specs.Spans.{TransBodyLayer}
use Rattle.estelle_tree.specs.Spelling.{Spelling, Behind, Enclosed, Separated}
use Rattle.estelle_tree.specs.Types.{IsNames, IsConst, IsOrdinal}
use Rattle.estelle_tree.specs.Expressions.{IsExpr}
use Rattle.estelle_tree.specs.Declarations.{IsBlockDecl}
use Rattle.estelle_tree.specs.Clauses.{IsLabel, IsAnyDom, IsNextState, IsBlock, IsDelayHigh, IsClause, MoreGroups, AreGroups, TransBodyLayerOf, TransBodyOf, GroupWithin, IsTransBody, clause_kinds, way_of}
use Rattle.estelle_printer.specs.Forms.{Tokens, mark, separated, enclosed}
use Rattle.estelle_printer.specs.TypeTokens.{names, constant, ordinal_type}
use Rattle.estelle_printer.specs.ExpressionTokens.{expr}
use Rattle.estelle_printer.specs.DeclarationTokens.{block_decl_tokens}
use Rattle.estelle_printer.specs.ClauseTokens.{label, block, any_dom, next_state_tokens, delay_high_tokens, clause_tokens, trans_body_layer, trans_body, group}
use Rattle.estelle_printer.proofs.WritingLemmas.{chain_map}
use Rattle.estelle_printer.proofs.FormLaws.{Stand, ◌⋯◌, none, same_tokens, regrouped, takes, Tells, behind, chained, may_be, separate, enclosed_in, joined}
use Rattle.estelle_printer.proofs.TypeLaws.{name_tells, names_dot, names_tells, constant_tells, ordinal_tells}
use Rattle.estelle_printer.proofs.ExpressionLaws.{is_expr_tells}
use Rattle.estelle_printer.proofs.DeclarationLaws.{block_decl_tells, statement_part_tells}
use Rattle.estelle_printer.proofs.ClauseEquations.{trans_body_is, group_is}

label_tells : Tells IsLabel label
label_tells l i j h = takes k.NameWord i h.at refl h.word ⋯ name_tells l.name h.at h.mid h.name ⋯ takes k.Colon h.mid j refl h.colon

pub block_tells : (room : ℕ) → Tells (IsBlock room) block
block_tells room b i j h =
    may_be IsLabel label label_tells b.label i h.after_label h.label
    ⋯ chained (IsBlockDecl room) block_decl_tokens (block_decl_tells room) b.decls h.after_label h.after_decls h.decls
    ⋯ may_be IsLabel label label_tells b.late_label h.after_decls h.after_late h.late_label
    ⋯ statement_part_tells room b.body h.after_late j h.body

any_dom_tells : Tells IsAnyDom any_dom
any_dom_tells d i j h = joined IsNames IsOrdinal names ordinal_type k.Colon refl names_tells ordinal_tells d.names d.domain i j h.parts

next_state_tells : Tells IsNextState next_state_tokens
next_state_tells (next_state.Name n) i j h = name_tells n i j h
next_state_tells next_state.Same i j h = takes k.Same i j refl h

module _ (room : ℕ) where
  delay_high_tells : Tells (IsDelayHigh room) delay_high_tokens
  delay_high_tells (delay_high.Expr e) i j h = is_expr_tells room e i j h
  delay_high_tells delay_high.Star i j h = takes k.Star i j refl h

  pub clause_tells : Tells (IsClause room) clause_tokens
  clause_tells (clause.From states span) i j h = behind IsNames names names_tells k.From refl states i j h.0
  clause_tells (clause.To state span) i j h = behind IsNextState next_state_tokens next_state_tells k.To refl state i j h.0
  clause_tells (clause.When ip interaction params span) i j h = regrouped (takes k.When i h.0.at refl h.0.word
      ⋯ names_dot ip interaction h.0.at h.0.mid h.0.names
      ⋯ may_be (Enclosed k.OpenParenthesis k.CloseParenthesis IsNames) (λ ns. enclosed k.OpenParenthesis k.CloseParenthesis (names ns)) (enclosed_in IsNames names names_tells k.OpenParenthesis k.CloseParenthesis refl refl) params h.0.mid j h.0.params) (simp append_assoc)
  clause_tells (clause.Provided condition span) i j h = behind (IsExpr room) expr (is_expr_tells room) k.Provided refl condition i j h.0
  clause_tells (clause.Priority value span) i j h = behind IsConst constant constant_tells k.Priority refl value i j h.0
  clause_tells (clause.Any domains span) i j h = enclosed_in (Separated k.Semicolon IsAnyDom) (separated k.Semicolon any_dom) (separate IsAnyDom any_dom any_dom_tells k.Semicolon refl) k.Any k.Do refl refl domains i j h.0
  clause_tells (clause.Delay low high span) i j h = regrouped (takes k.Delay i h.0.at refl h.0.word
      ⋯ takes k.OpenParenthesis h.0.at h.0.after refl h.0.opens
      ⋯ is_expr_tells room low h.0.after h.0.mid h.0.low
      ⋯ may_be (Behind k.Comma (IsDelayHigh room)) (λ x. mark k.Comma ++ delay_high_tokens x) (behind (IsDelayHigh room) delay_high_tokens delay_high_tells k.Comma refl) high h.0.mid h.0.last h.0.high
      ⋯ takes k.CloseParenthesis h.0.last j refl h.0.closes) (simp append_assoc)

  module _ (G : List Kind → Spelling Group) (tells : (way : List Kind) → Tells (G way) group) where
    more_tell : (way : List Kind) (before : Group) → Tells (MoreGroups room G way before) (flat_map group)
    more_tell way before [] i j h = none h
    more_tell way before (g ∷ gs) i j h = tells way g i h.1.0 h.1.1 ⋯ more_tell way g gs h.1.0 j h.1.2

    groups_tell : (way : List Kind) → Tells (AreGroups room G way) (flat_map group)
    groups_tell way [] i j h = absurd h
    groups_tell way (g ∷ gs) i j h = tells way g i h.0 h.1 ⋯ more_tell way g gs h.0 j h.2

    trans_layer_tells : (way : List Kind) (b : TransBodyLayer) (i j : Input) → TransBodyLayerOf room G way b i j → Stand (trans_body_layer (map-TransBody TransBody Group Tokens Tokens trans_body group b)) i j
    trans_layer_tells way (TransBody-F.Block b) i j h = block_tells room b i j h
    trans_layer_tells way (TransBody-F.Groups groups span) i j h = same_tokens (chain_map (λ ts. ts) group groups) (groups_tell way groups i j h.0)

    trans_body_of_tells : (way : List Kind) → Tells (TransBodyOf room G way) trans_body
    trans_body_of_tells way b i j h = same_tokens (trans_body_is b) (trans_layer_tells way (out-TransBody b) i j h)

  group_within_tells : (n : ℕ) (way : List Kind) → Tells (GroupWithin room n way) group
  group_within_tells zero way g i j h = absurd h
  group_within_tells (suc n) way g i j h = same_tokens (group_is g)
      (clause_tells (out-Group g).clause i h.mid h.clause
      ⋯ trans_body_of_tells (GroupWithin room n) (group_within_tells n) (way_of way g) (out-Group g).body h.mid j h.body)

  pub trans_body_tells : Tells (IsTransBody room) trans_body
  trans_body_tells = trans_body_of_tells (GroupWithin room (length clause_kinds)) (group_within_tells (length clause_kinds)) []
