-- Constants and types.
use Rattle.std.proofs.Common.{◌≡◌, ℕ, zero, suc, List, [], ◌∷◌, drop, refl, sym, subst}
use Rattle.std.specs.List.{flat_map}
use Rattle.estelle_tree.specs.declared.kind.Kind.TheVariants as k
use Rattle.estelle_tree.specs.declared.span.Span.{Span}
use Rattle.estelle_tree.specs.declared.tree.type_expr.Const.TheVariants as const
use Rattle.estelle_tree.specs.declared.tree.type_expr.Ordinal.{Ordinal}
use Rattle.estelle_tree.specs.declared.tree.type_expr.Ordinal.TheVariants as ordinal
use Rattle.estelle_tree.specs.declared.tree.type_expr.TypeExpr.{TypeExpr, out-TypeExpr, map-TypeExpr}
use Rattle.estelle_tree.specs.declared.tree.type_expr.TypeExpr.TheOpen.{TypeExpr-F}
use Rattle.estelle_tree.specs.declared.tree.type_expr.Fields.{Fields, out-Fields}
use Rattle.estelle_tree.specs.declared.tree.type_expr.TypedNames.{TypedNames, out-TypedNames}
use Rattle.estelle_tree.specs.Input.{Input}
use Rattle.estelle_tree.specs.Spans.{TypeExprLayer, of_ordinal}
use Rattle.estelle_tree.specs.Spelling.{Spelling}
use Rattle.estelle_tree.specs.Types.{of_sign, IsConst, IsOrdinal, AreTyped, AreFields, IsTypeLayer, TypeBelow, IsType}
use Rattle.scope_rules.specs.declared.declaration.Denotes.{Denotes}
use Rattle.scope_rules.specs.declared.declaration.Denotes.TheVariants as d
use Rattle.scope_rules.specs.declared.declaration.Need.TheVariants as need
use Rattle.scope_rules.specs.declared.declaration.Inside.{Inside}
use Rattle.scope_rules.specs.declared.declaration.Inside.TheVariants.{Nothing, At}
use Rattle.scope_rules.specs.declared.event.Event.TheVariants.{Array, Declare}
use Rattle.scope_rules.specs.TypeEvents.{Typed, Section, const_events, ordinal_events, array_events, type_events, typed, sections, section, type_layer, record_events, typed_names}
use Rattle.scope_names_events.proofs.TypeEquations.{type_is, sections_is, section_is, record_is}
use Rattle.accepted_states.proofs.Scopes.{plain_array}
use Rattle.accepted_states.proofs.Fine.{less_same, less_more, less_next, less_takes, less_names, less_mark, less_flag, Fine, AllFine, fine_nil, fine_append, fine_less, fine_end, fine_next, fine_kept, fine_name, fine_declared, behind, enclosed, separated}

pub const_fine : AllFine const_events IsConst
const_fine (const.Number s value span) i j h = fine_nil (less_more (less_mark of_sign s h.0.sign) (less_next h.0.item.next))
const_fine (const.Name s x span) i j h = fine_less (less_mark of_sign s h.0.sign) (fine_name need.Constant h.0.item)
const_fine (const.Char value span) i j h = fine_nil (less_next h.0.next)

pub ordinal_fine : AllFine ordinal_events IsOrdinal
ordinal_fine (ordinal.Name x) i j h = fine_name need.Type h
ordinal_fine (ordinal.Enumeration names span) i j h = fine_declared names.names d.Constant Nothing (λ e. cc) (less_more (less_takes h.0.opens) (less_more (less_names h.0.inside) (less_takes h.0.closes)))
ordinal_fine (ordinal.Subrange low high span) i j h = fine_append (const_fine low i h.0.mid h.0.first) (fine_less (less_takes h.0.mark) (const_fine high h.0.at j h.0.second))

array_fine : (i : Input) (at : Span) (is : List Ordinal) (inside : Inside) → Fine i i (array_events at is inside)
array_fine i at [] inside = fine_next (Array at inside) (plain_array at inside) refl (fine_nil (less_same refl))
array_fine i at (x ∷ more) inside = fine_next (Array at (At (of_ordinal x))) (plain_array at (At (of_ordinal x))) refl (array_fine i (of_ordinal x) more inside)

fields_fine : (i : Input) (xs : List TypedNames) → Fine i i (flat_map (λ x. Declare (section x).0.names d.Field (section x).1.0 ∷ []) xs)
fields_fine i [] = fine_nil (less_same refl)
fields_fine i (x ∷ xs) = fine_append (fine_declared (section x).0.names d.Field (section x).1.0 (λ e. cc) (less_same refl)) (fields_fine i xs)

module _ (T : Spelling TypeExpr) (fine : AllFine type_events T) where
  section_fine : AllFine (λ x. (section x).1.1) (AreTyped T)
  section_fine x i j h = subst (λ (s : Section). Fine i j s.1.1) (sym (section_is x)) (fine_less (less_names h.first) (fine_less (less_takes h.mark) (fine (out-TypedNames x).type_expr h.at j h.second)))

  pub typed_fine : (kind : Denotes) → (kind ≡ d.State → ⊥) → AllFine (typed_names kind) (AreTyped T)
  typed_fine kind other x i j h = fine_append (section_fine x i j h) (fine_declared (section x).0.names kind (section x).1.0 other (less_same refl))

  record_fine : (at : Span) (fs : Fields) (i j : Input) → AreFields T fs i j → Fine i j (record_events at (sections fs))
  record_fine at fs i j h =
      let xs = (out-Fields fs).sections in
      subst (λ (ss : List Section). Fine i j (record_events at ss)) (sym (sections_is fs))
      (subst (Fine i j) (sym (record_is at xs))
      (fine_append (fine_end (separated k.Semicolon section_fine xs i h.mid h.sections) (less_flag k.Semicolon (out-Fields fs).semicolon h.semicolon)) (fine_kept at (fields_fine j xs))))

  layer_fine : (room : ℕ) (l : TypeExprLayer) (i j : Input) → IsTypeLayer room T l i j → Fine i j (type_layer (map-TypeExpr TypeExpr Fields TypedNames Typed (List Section) Section typed sections section l)).1
  layer_fine room (TypeExpr-F.Ordinal o) i j h = ordinal_fine o i j h
  layer_fine room (TypeExpr-F.Array packed indices component span) i j h =
      let a = h.1 in
      fine_less (less_more (less_flag k.Packed packed a.packed) (less_takes a.array))
      (fine_append (enclosed (separated k.Comma ordinal_fine) indices a.after a.mid a.indices)
      (fine_append (behind fine component a.mid j a.component) (array_fine j span (drop 1 indices) (typed component).0)))
  layer_fine room (TypeExpr-F.Fields packed fields span) i j h = fine_less (less_flag k.Packed packed h.1.packed) (enclosed (record_fine span) fields h.1.at j h.1.fields)
  layer_fine room (TypeExpr-F.Set packed base span) i j h = fine_less (less_more (less_flag k.Packed packed h.1.packed) (less_takes h.1.set)) (behind ordinal_fine base h.1.after j h.1.base)

below_fine : (room : ℕ) → AllFine type_events (TypeBelow room)
below_fine zero t i j h = absurd h
below_fine (suc room) t i j h = subst (λ (p : Typed). Fine i j p.1) (sym (type_is t)) (layer_fine (TypeBelow room) (below_fine room) room (out-TypeExpr t) i j h)

pub type_fine : (room : ℕ) → AllFine type_events (IsType room)
type_fine room = below_fine (suc room)
