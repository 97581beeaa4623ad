-- Blocks, clauses and groups of clauses without their spans.
use Rattle.std.specs.Prelude.{map}
use Rattle.std.specs.Option.{option_map}
use Rattle.estelle_tree.specs.declared.tree.clause.Label.{Label}
use Rattle.estelle_tree.specs.declared.tree.clause.Block.{Block}
use Rattle.estelle_tree.specs.declared.tree.clause.AnyDom.{AnyDom}
use Rattle.estelle_tree.specs.declared.tree.clause.NextState.{NextState}
use Rattle.estelle_tree.specs.declared.tree.clause.NextState.TheVariants as next_state
use Rattle.estelle_tree.specs.declared.tree.clause.DelayHigh.{DelayHigh}
use Rattle.estelle_tree.specs.declared.tree.clause.DelayHigh.TheVariants as delay_high
use Rattle.estelle_tree.specs.declared.tree.clause.Clause.{Clause}
use Rattle.estelle_tree.specs.declared.tree.clause.Clause.TheVariants as clause
use Rattle.estelle_tree.specs.declared.tree.clause.TransBody.{TransBody, roll-TransBody, fold-TransBody}
use Rattle.estelle_tree.specs.declared.tree.clause.TransBody.TheOpen.{TransBody-F, Group-F}
use Rattle.estelle_tree.specs.declared.tree.clause.TransBody.TheFolds.{fold-Group}
use Rattle.estelle_tree.specs.declared.tree.clause.Group.{Group, roll-Group}
use Rattle.estelle_tree.specs.Spans.{TransBodyLayer, nowhere}
use Rattle.round_trip.specs.Types.{bare_name, bare_names, bare_const, bare_ordinal}
use Rattle.round_trip.specs.Expressions.{bare_expr}
use Rattle.round_trip.specs.Statements.{bare_stmts}
use Rattle.round_trip.specs.Declarations.{bare_block_decl}

abbrev pub bare_label : Label → Label
bare_label l = record { name = bare_name l.name; span = nowhere }

abbrev pub bare_block : Block → Block
bare_block b = record {
  label = option_map bare_label b.label;
  decls = map bare_block_decl b.decls;
  late_label = option_map bare_label b.late_label;
  body = bare_stmts b.body;
  span = nowhere;
}

abbrev pub bare_any_dom : AnyDom → AnyDom
bare_any_dom d = record { names = bare_names d.names; domain = bare_ordinal d.domain; span = nowhere }

abbrev pub bare_next_state : NextState → NextState
bare_next_state (next_state.Name name) = next_state.Name (bare_name name)
bare_next_state next_state.Same = next_state.Same

abbrev pub bare_delay_high : DelayHigh → DelayHigh
bare_delay_high (delay_high.Expr expr) = delay_high.Expr (bare_expr expr)
bare_delay_high delay_high.Star = delay_high.Star

abbrev pub bare_clause : Clause → Clause
bare_clause (clause.From states span) = clause.From (bare_names states) nowhere
bare_clause (clause.To state span) = clause.To (bare_next_state state) nowhere
bare_clause (clause.When ip interaction params span) = clause.When (bare_name ip) (bare_name interaction) (option_map bare_names params) nowhere
bare_clause (clause.Provided condition span) = clause.Provided (bare_expr condition) nowhere
bare_clause (clause.Priority value span) = clause.Priority (bare_const value) nowhere
bare_clause (clause.Any domains span) = clause.Any (map bare_any_dom domains) nowhere
bare_clause (clause.Delay low high span) = clause.Delay (bare_expr low) (option_map bare_delay_high high) nowhere

-- One level: the groups in it have lost their spans.
abbrev pub trans_body_layer : TransBodyLayer → TransBody
trans_body_layer (TransBody-F.Block block) = roll-TransBody (TransBody-F.Block (bare_block block))
trans_body_layer (TransBody-F.Groups groups span) = roll-TransBody (TransBody-F.Groups groups nowhere)

abbrev pub group_layer : Group-F TransBody Group → Group
group_layer g = roll-Group (record g { clause = bare_clause g.clause; span = nowhere })

unfoldable pub bare_trans_body : TransBody → TransBody
bare_trans_body = fold-TransBody TransBody Group trans_body_layer group_layer

unfoldable pub bare_group : Group → Group
bare_group = fold-Group TransBody Group trans_body_layer group_layer
