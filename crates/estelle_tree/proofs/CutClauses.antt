-- Blocks, clauses and groups of clauses, cut at any place.
use Rattle.std.proofs.Common.{◌≡◌, ℕ, zero, suc, true, false, List, [], ◌∷◌, Option, Some, None, inl, inr, ◌⊎◌, sym, refl, ◌∙◌, subst}
use Rattle.estelle_tree.specs.declared.kind.Kind.{Kind}
use Rattle.estelle_tree.specs.declared.kind.Kind.TheVariants as k
use Rattle.estelle_tree.specs.declared.tree.statement.Stmts.{Stmts}
use Rattle.estelle_tree.specs.declared.tree.declaration.BlockDecl.{BlockDecl}
use Rattle.estelle_tree.specs.declared.tree.clause.Label.{Label}
use Rattle.estelle_tree.specs.declared.tree.clause.NextState.TheVariants as next_state
use Rattle.estelle_tree.specs.declared.tree.clause.DelayHigh.{DelayHigh}
use Rattle.estelle_tree.specs.declared.tree.clause.DelayHigh.TheVariants as delay_high
use Rattle.estelle_tree.specs.declared.tree.clause.Clause.{Clause}
use Rattle.estelle_tree.specs.declared.tree.clause.Clause.TheVariants as clause
use Rattle.estelle_tree.specs.declared.tree.clause.TransBody.{out-TransBody}
use Rattle.estelle_tree.specs.declared.tree.clause.TransBody.TheOpen.{TransBody-F}
use Rattle.estelle_tree.specs.declared.tree.clause.Group.{Group, out-Group}
use Rattle.estelle_tree.specs.Input.{Input, kind}
use Rattle.estelle_tree.specs.Spelling.{Spelling, Takes, Optional, Behind, Chain}
use Rattle.estelle_tree.specs.Declarations.{IsBlockDecl, IsStatementPart}
use Rattle.estelle_tree.specs.Clauses.{IsLabel, IsLabelled, IsAnyDom, IsDelayHigh, IsBlock, IsClause, of_clause, stands, way_of, Follows, MoreGroups, AreGroups, TransBodyLayerOf, TransBodyOf, GroupOf, GroupWithin, IsTransBody}
use Rattle.estelle_tree.specs.Beginning.{Beginning, ◌or◌, Then, After, OneToken}
use Rattle.estelle_tree.specs.BeginsExpressions.{BeginsExpr}
use Rattle.estelle_tree.specs.Expressions.{IsExpr}
use Rattle.estelle_tree.specs.BeginsDeclarations.{BeginsStatementPart}
use Rattle.estelle_tree.specs.BeginsClauses.{BeginsLabel, BeginsAnyDom, BeginsBlock, BeginsClause, last_of, MayFollow, BeginGroups, BeginTransBody, BeginGroup, BeginsGroupWithin, BeginsTransBody}
use Rattle.estelle_tree.proofs.Cuts.{Reach, Out, Cut, begun, past, one, other, token, after, part, optional, chain, several, separated, joined, last_enclosed}
use Rattle.estelle_tree.proofs.CutTypes.{named, names_cut, const_cut, ordinal_cut, takes_name}
use Rattle.estelle_tree.proofs.CutExpressions.{expr_cut}
use Rattle.estelle_tree.proofs.CutDeclarations.{block_decl_cut, statement_part_cut}

pub label_cut : Cut IsLabel BeginsLabel
label_cut i j c l h r = after _ i h.at j c h.word r (λ r. named _ l.name h.at h.mid j c h.name r (λ r. token h.mid j c h.colon r))

pub any_dom_cut : Cut IsAnyDom BeginsAnyDom
any_dom_cut i j c d h r = joined k.Colon names_cut ordinal_cut d.names d.domain i j c h.parts r

module _ (room : ℕ) where
  -- where there are declarations, a label may come behind them
  late_cut : (decls : List BlockDecl) (late : Option Label) (body : Stmts) (i a b j c : Input) → IsLabelled None decls late
      → Chain (IsBlockDecl room) decls i a → Optional IsLabel late a b → IsStatementPart room body b j → Reach i c → Out (BeginsBlock room) i j c
  late_cut [] None body i a b j c ok are late body_is r =
      other _ _ i j c (other _ _ i j c (subst (λ i. Out (BeginsStatementPart room) i j c) (sym (are ∙ late))
      (statement_part_cut room b j c body body_is (subst (λ i. Reach i c) (are ∙ late) r))))
  late_cut [] (Some l) body i a b j c ok are late body_is r = absurd ok
  late_cut (d ∷ ds) label body i a b j c ok are late body_is r =
      other _ _ i j c (one _ _ i j c (
      several _ (block_decl_cut room) (d ∷ ds) i a j c are r (λ r.
      optional _ label_cut label a b j c late r (λ r.
      statement_part_cut room b j c body body_is r))))

  labelled_cut : (label : Option Label) (decls : List BlockDecl) (late : Option Label) (body : Stmts) (i a b d j c : Input) → IsLabelled label decls late
      → Optional IsLabel label i a → Chain (IsBlockDecl room) decls a b → Optional IsLabel late b d → IsStatementPart room body d j → Reach i c → Out (BeginsBlock room) i j c
  labelled_cut None decls late body i a b d j c ok first are last body_is r =
      subst (λ i. Out (BeginsBlock room) i j c) (sym first) (late_cut decls late body a b d j c ok are last body_is (subst (λ i. Reach i c) first r))
  labelled_cut (Some l) decls None body i a b d j c ok first are last body_is r =
      one _ _ i j c (
      part _ label_cut i a j c l first r (λ r.
      chain _ (block_decl_cut room) decls a b j c are r (λ r.
      subst (λ b. Out (BeginsStatementPart room) b j c) (sym last) (statement_part_cut room d j c body body_is (subst (λ b. Reach b c) last r)))))
  labelled_cut (Some l) decls (Some late) body i a b d j c ok first are last body_is r = absurd ok

  pub block_cut : Cut (IsBlock room) (BeginsBlock room)
  block_cut i j c x h r = labelled_cut x.label x.decls x.late_label x.body i h.after_label h.after_decls h.after_late j c h.labelled h.label h.decls h.late_label h.body r

  -- ---- clauses

  high_cut : (x : Option DelayHigh) (i m j c : Input) → Optional (Behind k.Comma (IsDelayHigh room)) x i m → Takes k.CloseParenthesis m j → Reach i c
      → Out (OneToken k.CloseParenthesis or After k.Comma (Then (BeginsExpr room) (IsExpr room) (OneToken k.CloseParenthesis) or After k.Star (OneToken k.CloseParenthesis))) i j c
  high_cut None i m j c e closes r = one _ _ i j c (subst (λ i. Out (OneToken k.CloseParenthesis) i j c) (sym e) (token m j c closes (subst (λ i. Reach i c) e r)))
  high_cut (Some (delay_high.Expr expr)) i m j c h closes r = other _ _ i j c (
      after _ i h.at j c h.mark r (λ r. one _ _ h.at j c (
      part _ (expr_cut room) h.at m j c expr h.item r (λ r.
      token m j c closes r))))
  high_cut (Some delay_high.Star) i m j c h closes r = other _ _ i j c (
      after _ i h.at j c h.mark r (λ r. other _ _ h.at j c (
      after _ h.at m j c h.item r (λ r.
      token m j c closes r))))

  pub clause_cut : Cut (IsClause room) (BeginsClause room)
  clause_cut i j c (clause.From states span) h r = one _ _ i j c (after _ i h.0.at j c h.0.mark r (λ r. names_cut h.0.at j c states h.0.item r))
  clause_cut i j c (clause.To (next_state.Name name) span) h r = other _ _ i j c (one _ _ i j c (
      after _ i h.0.at j c h.0.mark r (λ r. one _ _ h.0.at j c (token h.0.at j c (takes_name name h.0.at j h.0.item) r))))
  clause_cut i j c (clause.To next_state.Same span) h r = other _ _ i j c (one _ _ i j c (
      after _ i h.0.at j c h.0.mark r (λ r. other _ _ h.0.at j c (token h.0.at j c h.0.item r))))
  clause_cut i j c (clause.When ip interaction params span) h r =
      let a = h.0 in
      other _ _ i j c (other _ _ i j c (one _ _ i j c (
      after _ i a.at j c a.word r (λ r.
      named _ ip a.at a.names.mid j c a.names.first r (λ r.
      after _ a.names.mid a.names.at j c a.names.mark r (λ r.
      named _ interaction a.names.at a.mid j c a.names.second r (λ r.
      last_enclosed k.OpenParenthesis k.CloseParenthesis names_cut params a.mid j c a.params r)))))))
  clause_cut i j c (clause.Provided condition span) h r = other _ _ i j c (other _ _ i j c (other _ _ i j c (one _ _ i j c (
      after _ i h.0.at j c h.0.mark r (λ r. expr_cut room h.0.at j c condition h.0.item r)))))
  clause_cut i j c (clause.Priority value span) h r = other _ _ i j c (other _ _ i j c (other _ _ i j c (other _ _ i j c (one _ _ i j c (
      after _ i h.0.at j c h.0.mark r (λ r. const_cut h.0.at j c value h.0.item r))))))
  clause_cut i j c (clause.Any domains span) h r = other _ _ i j c (other _ _ i j c (other _ _ i j c (other _ _ i j c (other _ _ i j c (one _ _ i j c (
      after _ i h.0.at j c h.0.opens r (λ r.
      separated _ k.Semicolon any_dom_cut domains h.0.at h.0.mid j c h.0.inside r (λ r.
      token h.0.mid j c h.0.closes r))))))))
  clause_cut i j c (clause.Delay low high span) h r =
      let a = h.0 in
      other _ _ i j c (other _ _ i j c (other _ _ i j c (other _ _ i j c (other _ _ i j c (other _ _ i j c (
      after _ i a.at j c a.word r (λ r.
      after _ a.at a.after j c a.opens r (λ r.
      part _ (expr_cut room) a.after a.mid j c low a.low r (λ r.
      high_cut high a.mid a.last j c a.high a.closes r)))))))))

  -- the first token of a clause is its kind
  pub clause_kind : (x : Clause) (i j : Input) → IsClause room x i j → kind i ≡ of_clause x
  clause_kind (clause.From states span) i j h = h.0.mark.kind
  clause_kind (clause.To state span) i j h = h.0.mark.kind
  clause_kind (clause.When ip interaction params span) i j h = h.0.word.kind
  clause_kind (clause.Provided condition span) i j h = h.0.mark.kind
  clause_kind (clause.Priority value span) i j h = h.0.mark.kind
  clause_kind (clause.Any domains span) i j h = h.0.opens.kind
  clause_kind (clause.Delay low high span) i j h = h.0.word.kind

  -- ---- groups

  module _ (G : List Kind → Spelling Group) (B : List Kind → Beginning) (cut : (way : List Kind) → Cut (G way) (B way))
      (starts : (way : List Kind) (g : Group) (i j : Input) → G way g i j → kind i ≡ of_clause (out-Group g).clause) where
    -- the first groups, then a group begun or the end
    abbrev Outcome : List Kind → Group → Input → Input → Input → Type 0
    Outcome way g i j c =
        ((gs : List Group) × (m : Input) × MoreGroups room G way g gs i m × (MayFollow way (last_of g gs) (kind m) × B way m c))
        ⊎ Reach j c

    more_cut : (way : List Kind) (g : Group) (gs : List Group) (i j c : Input) → MoreGroups room G way g gs i j → Reach i c → Outcome way g i j c
    more_cut way g [] i j c same r = inr (subst (λ i. Reach i c) same r)
    more_cut way g (h ∷ gs) i j c (comes, (m, is, more)) r = go (cut way i m c h is r) (λ r. more_cut way h gs m j c more r)
      where
        may : MayFollow way g (kind i)
        may = allowed comes
          where
            allowed : Follows way g h → MayFollow way g (kind i)
            allowed (inl closed) = inl closed
            allowed (inr on) = inr (subst (λ x. stands x (way_of way g) ≡ true) (sym (starts way h i m is)) on)

        on : Outcome way h m j c → Outcome way g i j c
        on (inl (xs, a, ms, rest)) = inl (h ∷ xs, a, (comes, (m, is, ms)), rest)
        on (inr r) = inr r

        go : Out (B way) i m c → (Reach m c → Outcome way h m j c) → Outcome way g i j c
        go (begun b) again = inl ([], i, refl, (may, b))
        go (past r) again = on (again r)

    pub groups_cut : (way : List Kind) (gs : List Group) (i j c : Input) → AreGroups room G way gs i j → Reach i c → Out (BeginGroups room G B way) i j c
    groups_cut way [] i j c h r = absurd h
    groups_cut way (g ∷ gs) i j c (m, is, more) r = go (cut way i m c g is r)
      where
        on : Outcome way g m j c → Out (BeginGroups room G B way) i j c
        on (inl (xs, a, ms, rest)) = begun (inr (g, xs, a, (m, is, ms), inr rest))
        on (inr r) = past r

        go : Out (B way) i m c → Out (BeginGroups room G B way) i j c
        go (begun b) = begun (inl b)
        go (past r) = on (more_cut way g gs m j c more r)

    layer_cut : (way : List Kind) → Cut (TransBodyLayerOf room G way) (BeginTransBody room G B way)
    layer_cut way i j c (TransBody-F.Block block) h r = one _ _ i j c (block_cut i j c block h r)
    layer_cut way i j c (TransBody-F.Groups groups span) h r = other _ _ i j c (groups_cut way groups i j c h.0 r)

    pub trans_body_of_cut : (way : List Kind) → Cut (TransBodyOf room G way) (BeginTransBody room G B way)
    trans_body_of_cut way i j c b h r = layer_cut way i j c (out-TransBody b) h r

    pub group_of_cut : (way : List Kind) → Cut (GroupOf room G way) (BeginGroup room G B way)
    group_of_cut way i j c g h r = go (clause_cut i h.mid c (out-Group g).clause h.clause r)
      where
        fresh : stands (kind i) way ≡ false
        fresh = subst (λ x. stands x way ≡ false) (sym (clause_kind (out-Group g).clause i h.mid h.clause)) h.fresh

        on : Out (BeginTransBody room G B (way_of way g)) h.mid j c → Out (BeginGroup room G B way) i j c
        on (begun b) = begun (inr (fresh, inr ((out-Group g).clause, h.mid, h.clause, b)))
        on (past r) = past r

        go : Out (BeginsClause room) i h.mid c → Out (BeginGroup room G B way) i j c
        go (begun b) = begun (inr (fresh, inl b))
        go (past r) = on (trans_body_of_cut (way_of way g) h.mid j c (out-Group g).body h.body r)

  group_starts : (n : ℕ) (way : List Kind) (g : Group) (i j : Input) → GroupWithin room n way g i j → kind i ≡ of_clause (out-Group g).clause
  group_starts zero way g i j h = absurd h
  group_starts (suc n) way g i j h = clause_kind (out-Group g).clause i h.mid h.clause

  pub group_within_cut : (n : ℕ) (way : List Kind) → Cut (GroupWithin room n way) (BeginsGroupWithin room n way)
  group_within_cut zero way i j c g h r = absurd h
  group_within_cut (suc n) way i j c g h r = group_of_cut (GroupWithin room n) (BeginsGroupWithin room n) (λ way i j c g h r. group_within_cut n way i j c g h r) (group_starts n) way i j c g h r

  pub trans_body_cut : Cut (IsTransBody room) (BeginsTransBody room)
  trans_body_cut i j c b h r = trans_body_of_cut (GroupWithin room 7) (BeginsGroupWithin room 7) (group_within_cut 7) (group_starts 7) [] i j c b h r
