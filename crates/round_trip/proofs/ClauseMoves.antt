-- Blocks, clauses and groups of clauses, moved.
use Rattle.std.proofs.Common.{◌≡◌, ℕ, zero, suc, List, [], ◌∷◌, map, length, Option, Some, None, inl, inr, sym, refl, ap, ◌∙◌, subst}
use Rattle.std.specs.Option.{option_map}
use Rattle.estelle_tree.specs.declared.kind.Kind.{Kind}
use Rattle.estelle_tree.specs.declared.kind.Kind.TheVariants as k
use Rattle.estelle_tree.specs.declared.tree.declaration.BlockDecl.{BlockDecl}
use Rattle.estelle_tree.specs.declared.tree.clause.Label.{Label}
use Rattle.estelle_tree.specs.declared.tree.clause.NextState.TheVariants as next_state
use Rattle.estelle_tree.specs.declared.tree.clause.DelayHigh.TheVariants as delay_high
use Rattle.estelle_tree.specs.declared.tree.clause.Clause.{Clause}
use Rattle.estelle_tree.specs.declared.tree.clause.Clause.TheVariants as clause
use Rattle.estelle_tree.specs.declared.tree.clause.TransBody.{TransBody, out-TransBody, roll-TransBody, map-TransBody, fold_out-TransBody, fold-roll-TransBody}
use Rattle.estelle_tree.specs.declared.tree.clause.TransBody.TheOpen.{TransBody-F, Group-F}
use Rattle.estelle_tree.specs.declared.tree.clause.TransBody.TheFolds.{fold_out-Group, fold-roll-Group}
use Rattle.estelle_tree.specs.declared.tree.clause.TransBody.TheViews.{out-roll-TransBody}
use Rattle.estelle_tree.specs.declared.tree.clause.Group.{Group, out-Group, roll-Group}
use Rattle.estelle_tree.specs.Input.{Input, between}
use Rattle.estelle_tree.specs.Spans.{TransBodyLayer, nowhere}
use Rattle.estelle_tree.specs.Spelling.{Spelling, Behind, Separated, Enclosed}
use Rattle.estelle_tree.specs.Types.{IsName, IsNames, IsConst, IsOrdinal}
use Rattle.estelle_tree.specs.Expressions.{IsExpr}
use Rattle.estelle_tree.specs.Declarations.{IsBlockDecl}
use Rattle.estelle_tree.specs.Clauses.{IsLabel, IsLabelled, IsAnyDom, IsNextState, IsDelayHigh, IsBlock, IsClause, of_clause, clause_kinds, stands, way_of, holds_block, holds_block_layer, Follows, MoreGroups, AreGroups, TransBodyLayerOf, TransBodyOf, GroupOf, GroupWithin, IsTransBody}
use Rattle.round_trip.specs.Types.{bare_name, bare_names, bare_const, bare_ordinal}
use Rattle.round_trip.specs.Expressions.{bare_expr}
use Rattle.round_trip.specs.Declarations.{bare_block_decl}
use Rattle.round_trip.specs.Clauses.{bare_label, bare_block, bare_any_dom, bare_next_state, bare_delay_high, bare_clause, trans_body_layer, group_layer, bare_trans_body, bare_group}
use Rattle.round_trip.proofs.Moves.{Alike, nothing, takes, Moved, Moves, ap2, ap3, ap4, optional, chain, behind, enclosed, separated, joined, rolling}
use Rattle.round_trip.proofs.TypeMoves.{name_moves, names_moves, const_moves, ordinal_moves}
use Rattle.round_trip.proofs.ExpressionMoves.{expr_moves}
use Rattle.round_trip.proofs.DeclarationMoves.{block_decl_moves, statement_part_moves}

label_moves : Moves IsLabel bare_label
label_moves l i j i' h s =
    let t = takes h.word s in
    let m = name_moves l.name _ _ _ h.name t.alike in
    let u = takes h.colon m.alike in
    record {
      thing = record { name = m.thing; span = between i' u.end };
      end = u.end;
      is = record { at = t.end; mid = m.end; word = t.is; name = m.is; colon = u.is; span = refl };
      same = ap (λ a. record { name = a; span = nowhere }) m.same;
      alike = u.alike;
    }

any_dom_moves : Moves IsAnyDom bare_any_dom
any_dom_moves d i j i' h s =
    let m = joined k.Colon IsNames IsOrdinal bare_names bare_ordinal names_moves ordinal_moves d.names d.domain h.parts s in
    record {
      thing = record { names = m.one; domain = m.other; span = between i' m.end };
      end = m.end;
      is = record { parts = m.is; span = refl };
      same = ap2 (λ a b. record { names = a; domain = b; span = nowhere }) m.one_same m.other_same;
      alike = m.alike;
    }

next_state_moves : Moves IsNextState bare_next_state
next_state_moves (next_state.Name name) i j i' h s =
    let m = name_moves name _ _ _ h s in
    record { thing = next_state.Name m.thing; end = m.end; is = m.is; same = ap (λ a. next_state.Name a) m.same; alike = m.alike }
next_state_moves next_state.Same i j i' h s = let t = takes h s in record { thing = next_state.Same; end = t.end; is = t.is; same = refl; alike = t.alike }

-- ---- how many labels a block has depends on which of its parts stand

pub labelled_bare : (l : Option Label) (ds : List BlockDecl) (late : Option Label) → IsLabelled l ds late → IsLabelled (option_map bare_label l) (map bare_block_decl ds) (option_map bare_label late)
labelled_bare l ds None h = tt
labelled_bare None (d ∷ ds) (Some late) h = tt
labelled_bare None [] (Some late) h = absurd h
labelled_bare (Some l) ds (Some late) h = absurd h

labelled_whole : (l : Option Label) (ds : List BlockDecl) (late : Option Label) → IsLabelled (option_map bare_label l) (map bare_block_decl ds) (option_map bare_label late) → IsLabelled l ds late
labelled_whole l ds None h = tt
labelled_whole None (d ∷ ds) (Some late) h = tt
labelled_whole None [] (Some late) h = absurd h
labelled_whole (Some l) ds (Some late) h = absurd h

labelled_moves : (l l' : Option Label) (ds ds' : List BlockDecl) (late late' : Option Label) → option_map bare_label l' ≡ option_map bare_label l → map bare_block_decl ds' ≡ map bare_block_decl ds → option_map bare_label late' ≡ option_map bare_label late
    → IsLabelled l ds late → IsLabelled l' ds' late'
labelled_moves l l' ds ds' late late' d e f h = labelled_whole l' ds' late' (
    subst (λ a. IsLabelled a (map bare_block_decl ds') (option_map bare_label late')) (sym d) (
    subst (λ a. IsLabelled (option_map bare_label l) a (option_map bare_label late')) (sym e) (
    subst (λ a. IsLabelled (option_map bare_label l) (map bare_block_decl ds) a) (sym f) (
    labelled_bare l ds late h))))

-- ---- the kind of a clause, and whether a group holds a block, are the same without spans

pub kind_bare : (c : Clause) → of_clause (bare_clause c) ≡ of_clause c
kind_bare (clause.From states span) = refl
kind_bare (clause.To state span) = refl
kind_bare (clause.When ip interaction params span) = refl
kind_bare (clause.Provided condition span) = refl
kind_bare (clause.Priority value span) = refl
kind_bare (clause.Any domains span) = refl
kind_bare (clause.Delay low high span) = refl

kind_same : (c d : Clause) → bare_clause c ≡ bare_clause d → of_clause c ≡ of_clause d
kind_same c d e = sym (kind_bare c) ∙ ap of_clause e ∙ kind_bare d

abbrev pub layer_of_body : TransBodyLayer → TransBody
layer_of_body l = trans_body_layer (map-TransBody TransBody Group TransBody Group bare_trans_body bare_group l)

body_rolled : (l : TransBodyLayer) → bare_trans_body (roll-TransBody l) ≡ layer_of_body l
unfolding bare_trans_body bare_group
body_rolled l = fold-roll-TransBody TransBody Group trans_body_layer group_layer l

pub body_opened : (b : TransBody) → bare_trans_body b ≡ layer_of_body (out-TransBody b)
unfolding bare_trans_body bare_group
body_opened b = fold_out-TransBody TransBody Group trans_body_layer group_layer b

abbrev pub layer_of_group : Group-F TransBody Group → Group
layer_of_group l = roll-Group (record { clause = bare_clause l.clause; body = bare_trans_body l.body; span = nowhere })

group_rolled : (l : Group-F TransBody Group) → bare_group (roll-Group l) ≡ layer_of_group l
unfolding bare_trans_body bare_group
group_rolled l = fold-roll-Group TransBody Group trans_body_layer group_layer l

pub group_opened : (g : Group) → bare_group g ≡ layer_of_group (out-Group g)
unfolding bare_trans_body bare_group
group_opened g = fold_out-Group TransBody Group trans_body_layer group_layer g

holds_bare : (l : TransBodyLayer) → holds_block_layer (out-TransBody (layer_of_body l)) ≡ holds_block_layer l
holds_bare (TransBody-F.Block block) = ap holds_block_layer (out-roll-TransBody (TransBody-F.Block (bare_block block)))
holds_bare (TransBody-F.Groups groups span) = ap holds_block_layer (out-roll-TransBody (TransBody-F.Groups (map bare_group groups) nowhere))

pub holds_whole : (b : TransBody) → holds_block_layer (out-TransBody (bare_trans_body b)) ≡ holds_block_layer (out-TransBody b)
holds_whole b = ap (λ x. holds_block_layer (out-TransBody x)) (body_opened b) ∙ holds_bare (out-TransBody b)

pub group_kind_same : (g h : Group) → bare_group g ≡ bare_group h → of_clause (out-Group g).clause ≡ of_clause (out-Group h).clause
group_kind_same g h e =
    let parts : bare_clause (out-Group g).clause ≡ bare_clause (out-Group h).clause = ap (λ x. (out-Group x).clause) (sym (group_opened g) ∙ e ∙ group_opened h) in
    kind_same (out-Group g).clause (out-Group h).clause parts

pub holds_same : (g h : Group) → bare_group g ≡ bare_group h → holds_block g ≡ holds_block h
holds_same g h e =
    let parts : bare_trans_body (out-Group g).body ≡ bare_trans_body (out-Group h).body = ap (λ x. (out-Group x).body) (sym (group_opened g) ∙ e ∙ group_opened h) in
    sym (holds_whole (out-Group g).body) ∙ ap (λ x. holds_block_layer (out-TransBody x)) parts ∙ holds_whole (out-Group h).body

follows_moves : (way : List Kind) (before before' g g' : Group) → bare_group before' ≡ bare_group before → bare_group g' ≡ bare_group g → Follows way before g → Follows way before' g'
follows_moves way before before' g g' d e (inl closed) = inl (holds_same before' before d ∙ closed)
follows_moves way before before' g g' d e (inr on) = inr (ap2 (λ a b. stands a (b ∷ way)) (group_kind_same g' g e) (group_kind_same before' before d) ∙ on)

module _ (room : ℕ) where
  pub block_moves : Moves (IsBlock room) bare_block
  block_moves b i j i' h s =
      let m = optional IsLabel bare_label label_moves b.label _ _ _ h.label s in
      let n = chain (IsBlockDecl room) bare_block_decl (block_decl_moves room) b.decls _ _ _ h.decls m.alike in
      let o = optional IsLabel bare_label label_moves b.late_label _ _ _ h.late_label n.alike in
      let p = statement_part_moves room b.body _ _ _ h.body o.alike in
      record {
        thing = record { label = m.thing; decls = n.thing; late_label = o.thing; body = p.thing; span = between i' p.end };
        end = p.end;
        is = record {
          after_label = m.end;
          after_decls = n.end;
          after_late = o.end;
          labelled = labelled_moves b.label m.thing b.decls n.thing b.late_label o.thing m.same n.same o.same h.labelled;
          label = m.is;
          decls = n.is;
          late_label = o.is;
          body = p.is;
          span = refl;
        };
        same = ap4 (λ a b c d. record { label = a; decls = b; late_label = c; body = d; span = nowhere }) m.same n.same o.same p.same;
        alike = p.alike;
      }

  -- ---- clauses

  high_moves : Moves (IsDelayHigh room) bare_delay_high
  high_moves (delay_high.Expr expr) i j i' h s =
      let m = expr_moves room expr _ _ _ h s in
      record { thing = delay_high.Expr m.thing; end = m.end; is = m.is; same = ap (λ a. delay_high.Expr a) m.same; alike = m.alike }
  high_moves delay_high.Star i j i' h s = let t = takes h s in record { thing = delay_high.Star; end = t.end; is = t.is; same = refl; alike = t.alike }

  pub clause_moves : Moves (IsClause room) bare_clause
  clause_moves (clause.From states span) i j i' h s =
      let m = behind IsNames bare_names names_moves k.From states _ _ _ h.0 s in
      record { thing = clause.From m.thing (between i' m.end); end = m.end; is = (m.is, refl); same = ap (λ a. clause.From a nowhere) m.same; alike = m.alike }
  clause_moves (clause.To state span) i j i' h s =
      let m = behind IsNextState bare_next_state next_state_moves k.To state _ _ _ h.0 s in
      record { thing = clause.To m.thing (between i' m.end); end = m.end; is = (m.is, refl); same = ap (λ a. clause.To a nowhere) m.same; alike = m.alike }
  clause_moves (clause.When ip interaction params span) i j i' h s =
      let t = takes h.0.word s in
      let m = joined k.Dot IsName IsName bare_name bare_name name_moves name_moves ip interaction h.0.names t.alike in
      let n = optional (Enclosed k.OpenParenthesis k.CloseParenthesis IsNames) bare_names (enclosed IsNames bare_names names_moves k.OpenParenthesis k.CloseParenthesis) params _ _ _ h.0.params m.alike in
      record {
        thing = clause.When m.one m.other n.thing (between i' n.end);
        end = n.end;
        is = (record { at = t.end; mid = m.end; word = t.is; names = m.is; params = n.is }, refl);
        same = ap3 (λ a b c. clause.When a b c nowhere) m.one_same m.other_same n.same;
        alike = n.alike;
      }
  clause_moves (clause.Provided condition span) i j i' h s =
      let m = behind (IsExpr room) bare_expr (expr_moves room) k.Provided condition _ _ _ h.0 s in
      record { thing = clause.Provided m.thing (between i' m.end); end = m.end; is = (m.is, refl); same = ap (λ a. clause.Provided a nowhere) m.same; alike = m.alike }
  clause_moves (clause.Priority value span) i j i' h s =
      let m = behind IsConst bare_const const_moves k.Priority value _ _ _ h.0 s in
      record { thing = clause.Priority m.thing (between i' m.end); end = m.end; is = (m.is, refl); same = ap (λ a. clause.Priority a nowhere) m.same; alike = m.alike }
  clause_moves (clause.Any domains span) i j i' h s =
      let m = enclosed (Separated k.Semicolon IsAnyDom) (map bare_any_dom) (separated IsAnyDom bare_any_dom any_dom_moves k.Semicolon) k.Any k.Do domains _ _ _ h.0 s in
      record { thing = clause.Any m.thing (between i' m.end); end = m.end; is = (m.is, refl); same = ap (λ a. clause.Any a nowhere) m.same; alike = m.alike }
  clause_moves (clause.Delay low high span) i j i' h s =
      let t = takes h.0.word s in
      let u = takes h.0.opens t.alike in
      let m = expr_moves room low _ _ _ h.0.low u.alike in
      let n = optional (Behind k.Comma (IsDelayHigh room)) bare_delay_high (behind (IsDelayHigh room) bare_delay_high high_moves k.Comma) high _ _ _ h.0.high m.alike in
      let v = takes h.0.closes n.alike in
      record {
        thing = clause.Delay m.thing n.thing (between i' v.end);
        end = v.end;
        is = (record { at = t.end; after = u.end; mid = m.end; last = n.end; word = t.is; opens = u.is; low = m.is; high = n.is; closes = v.is }, refl);
        same = ap2 (λ a b. clause.Delay a b nowhere) m.same n.same;
        alike = v.alike;
      }

  -- ---- groups

  module _ (G : List Kind → Spelling Group) (moves : (way : List Kind) → Moves (G way) bare_group) where
    more_moves : (way : List Kind) (before before' : Group) → bare_group before' ≡ bare_group before → (gs : List Group) (i j i' : Input) → MoreGroups room G way before gs i j → Alike i i' → Moved (MoreGroups room G way before') (map bare_group) gs i' j
    more_moves way before before' e [] i j i' h s = let p = nothing h s in record { thing = []; end = p.end; is = p.is; same = refl; alike = p.alike }
    more_moves way before before' e (g ∷ gs) i j i' h s =
        let m = moves way g _ _ _ h.1.1 s in
        let n = more_moves way g m.thing m.same gs _ _ _ h.1.2 m.alike in
        record {
          thing = m.thing ∷ n.thing;
          end = n.end;
          is = (follows_moves way before before' g m.thing e m.same h.0, (m.end, m.is, n.is));
          same = ap2 (λ y ys. y ∷ ys) m.same n.same;
          alike = n.alike;
        }

    groups_moves : (way : List Kind) → Moves (AreGroups room G way) (map bare_group)
    groups_moves way [] i j i' h s = absurd h
    groups_moves way (g ∷ gs) i j i' h s =
        let m = moves way g _ _ _ h.1 s in
        let n = more_moves way g m.thing m.same gs _ _ _ h.2 m.alike in
        record { thing = m.thing ∷ n.thing; end = n.end; is = (m.end, m.is, n.is); same = ap2 (λ y ys. y ∷ ys) m.same n.same; alike = n.alike }

    body_layer_moves : (way : List Kind) → Moves (TransBodyLayerOf room G way) layer_of_body
    body_layer_moves way (TransBody-F.Block block) i j i' h s =
        let m = block_moves block _ _ _ h s in
        record { thing = TransBody-F.Block m.thing; end = m.end; is = m.is; same = ap (λ a. roll-TransBody (TransBody-F.Block a)) m.same; alike = m.alike }
    body_layer_moves way (TransBody-F.Groups groups span) i j i' h s =
        let m = groups_moves way groups _ _ _ h.0 s in
        record { thing = TransBody-F.Groups m.thing (between i' m.end); end = m.end; is = (m.is, refl); same = ap (λ a. roll-TransBody (TransBody-F.Groups a nowhere)) m.same; alike = m.alike }

    pub trans_body_of_moves : (way : List Kind) → Moves (TransBodyOf room G way) bare_trans_body
    trans_body_of_moves way = rolling (TransBodyLayerOf room G way) layer_of_body out-TransBody roll-TransBody bare_trans_body out-roll-TransBody body_rolled body_opened (body_layer_moves way)

    group_of_moves : (way : List Kind) → Moves (GroupOf room G way) bare_group
    group_of_moves way g i j i' h s =
        let m = clause_moves (out-Group g).clause _ _ _ h.clause s in
        let n = trans_body_of_moves (way_of way g) (out-Group g).body _ _ _ h.body m.alike in
        let l : Group-F TransBody Group = record { clause = m.thing; body = n.thing; span = between i' n.end } in
        let kind : of_clause m.thing ≡ of_clause (out-Group g).clause = kind_same m.thing (out-Group g).clause m.same in
        record {
          thing = roll-Group l;
          end = n.end;
          is = record {
            mid = m.end;
            fresh = ap (λ a. stands a way) kind ∙ h.fresh;
            clause = m.is;
            body = subst (λ a. TransBodyOf room G (a ∷ way) n.thing m.end n.end) (sym kind) n.is;
            span = refl;
          };
          same = group_rolled l ∙ ap2 (λ a b. roll-Group (record { clause = a; body = b; span = nowhere })) m.same n.same ∙ sym (group_opened g);
          alike = n.alike;
        }

  group_within_moves : (n : ℕ) (way : List Kind) → Moves (GroupWithin room n way) bare_group
  group_within_moves zero way g i j i' h s = absurd h
  group_within_moves (suc n) way g i j i' h s = group_of_moves (GroupWithin room n) (λ way g i j i' h s. group_within_moves n way g i j i' h s) way g i j i' h s

  pub trans_body_moves : Moves (IsTransBody room) bare_trans_body
  trans_body_moves = trans_body_of_moves (GroupWithin room (length clause_kinds)) (group_within_moves (length clause_kinds)) []
