-- A specification may be read by several threads: every node of its tree.
use denote.Param.Send.{IsSync, sendable}
use denote.Param.SendFields.{as_row_sync, declared_sync, variants_sync}
use Rattle.estelle_lists.proofs.items.Items.TheSendSync as items
use Rattle.estelle_lists.proofs.boxed.Boxed.TheSendSync as boxed
use Rattle.estelle_tree.proofs.span.Span.TheSendSync as span_facts
use Rattle.estelle_tree.proofs.word.Word.TheSendSync as word_facts
use Rattle.estelle_tree.proofs.text.Text.TheSendSync as text_facts
use Rattle.estelle_tree.proofs.tree.name.Name.TheSendSync as name_facts
use Rattle.estelle_tree.proofs.tree.name.NameList.TheSendSync as name_list_facts
use Rattle.estelle_tree.proofs.tree.type_expr.Sign.TheSendSync as sign_facts
use Rattle.estelle_tree.proofs.tree.type_expr.Const.TheSendSync as const_facts
use Rattle.estelle_tree.proofs.tree.type_expr.Ordinal.TheSendSync as ordinal_facts
use Rattle.estelle_tree.proofs.tree.expression.Relation.TheSendSync as relation_facts
use Rattle.estelle_tree.proofs.tree.expression.Adding.TheSendSync as adding_facts
use Rattle.estelle_tree.proofs.tree.expression.Multiplying.TheSendSync as multiplying_facts
use Rattle.estelle_tree.proofs.tree.statement.Direction.TheSendSync as direction_facts
use Rattle.estelle_tree.proofs.tree.statement.Ip.TheSendSync as ip_facts
use Rattle.estelle_tree.proofs.tree.clause.Label.TheSendSync as label_facts
use Rattle.estelle_tree.proofs.tree.clause.NextState.TheSendSync as next_state_facts
use Rattle.estelle_tree.proofs.tree.clause.AnyDom.TheSendSync as any_dom_facts
use Rattle.estelle_tree.proofs.tree.declaration.ConstDef.TheSendSync as const_def_facts
use Rattle.estelle_tree.proofs.tree.declaration.Formal.TheSendSync as formal_facts
use Rattle.estelle_tree.proofs.tree.declaration.Formals.TheSendSync as formals_facts
use Rattle.estelle_tree.proofs.tree.declaration.RoutineForm.TheSendSync as routine_form_facts
use Rattle.estelle_tree.proofs.tree.specification.Attr.TheSendSync as attr_facts
use Rattle.estelle_tree.proofs.tree.specification.SysAttr.TheSendSync as sys_attr_facts
use Rattle.estelle_tree.proofs.tree.specification.Channel.TheSendSync as channel_facts
use Rattle.estelle_tree.proofs.tree.specification.Disc.TheSendSync as disc_facts
use Rattle.estelle_tree.proofs.tree.specification.Head.TheSendSync as head_facts
use Rattle.estelle_tree.proofs.tree.specification.Inter.TheSendSync as inter_facts
use Rattle.estelle_tree.proofs.tree.specification.InterGroup.TheSendSync as inter_group_facts
use Rattle.estelle_tree.proofs.tree.specification.IpDecl.TheSendSync as ip_decl_facts
use Rattle.estelle_tree.proofs.tree.specification.ModvarDecl.TheSendSync as modvar_decl_facts
use Rattle.estelle_tree.proofs.tree.specification.ParamGroup.TheSendSync as param_group_facts
use Rattle.estelle_tree.proofs.tree.specification.Params.TheSendSync as params_facts
use Rattle.estelle_tree.proofs.tree.specification.StatesetDef.TheSendSync as stateset_def_facts
use Rattle.estelle_tree.proofs.tree.type_expr.TypeExpr.TheLaws.TheKnot as types_knot
use Rattle.estelle_tree.specs.contracts.tree.type_expr.TypeExpr as TypeExpr
use Rattle.estelle_tree.specs.contracts.tree.type_expr.TypedNames as TypedNames
use Rattle.estelle_tree.proofs.tree.expression.Factor.TheLaws.TheKnot as expressions_knot
use Rattle.estelle_tree.specs.contracts.tree.expression.Expr as Expr
use Rattle.estelle_tree.specs.contracts.tree.expression.Args as Args
use Rattle.estelle_tree.specs.contracts.tree.expression.Variable as Variable
use Rattle.estelle_tree.proofs.tree.statement.Stmt.TheLaws.TheKnot as statements_knot
use Rattle.estelle_tree.specs.contracts.tree.statement.Stmts as Stmts
use Rattle.estelle_tree.specs.contracts.tree.declaration.TypeDef as TypeDef
use Rattle.estelle_tree.specs.contracts.tree.declaration.BlockDecl as BlockDecl
use Rattle.estelle_tree.specs.contracts.tree.declaration.Routine as Routine
use Rattle.estelle_tree.specs.contracts.tree.clause.Block as Block
use Rattle.estelle_tree.specs.contracts.tree.clause.DelayHigh as DelayHigh
use Rattle.estelle_tree.specs.contracts.tree.clause.Clause as Clause
use Rattle.estelle_tree.proofs.tree.clause.TransBody.TheLaws.TheKnot as groups_knot
use Rattle.estelle_tree.specs.contracts.tree.clause.TransBody as TransBody
use Rattle.estelle_tree.specs.contracts.tree.specification.Trans as Trans
use Rattle.estelle_tree.specs.contracts.tree.specification.Init as Init
use Rattle.estelle_tree.specs.contracts.tree.specification.Header as Header
use Rattle.estelle_tree.proofs.tree.specification.Decl.TheLaws.TheKnot as declarations_knot
use Rattle.estelle_tree.specs.contracts.tree.specification.Parts as Parts
use Rattle.estelle_tree.specs.contracts.tree.specification.Spec as Spec

ruleset parts = (
  variants_sync,
  declared_sync,
  sendable,
  items.the_sync,
  boxed.the_sync,
  span_facts.the_sync,
  span_facts.the_field_sync,
  word_facts.the_sync,
  text_facts.the_sync,
  name_facts.the_sync,
  name_facts.the_field_sync,
  name_list_facts.the_sync,
  name_list_facts.the_field_sync,
  sign_facts.the_sync,
  sign_facts.the_field_sync,
  const_facts.the_sync,
  const_facts.the_field_sync,
  ordinal_facts.the_sync,
  ordinal_facts.the_field_sync,
  relation_facts.the_sync,
  relation_facts.the_field_sync,
  adding_facts.the_sync,
  adding_facts.the_field_sync,
  multiplying_facts.the_sync,
  multiplying_facts.the_field_sync,
  direction_facts.the_sync,
  direction_facts.the_field_sync,
  ip_facts.the_sync,
  ip_facts.the_field_sync,
  label_facts.the_sync,
  label_facts.the_field_sync,
  next_state_facts.the_sync,
  next_state_facts.the_field_sync,
  any_dom_facts.the_sync,
  any_dom_facts.the_field_sync,
  const_def_facts.the_sync,
  const_def_facts.the_field_sync,
  formal_facts.the_sync,
  formal_facts.the_field_sync,
  formals_facts.the_sync,
  formals_facts.the_field_sync,
  routine_form_facts.the_sync,
  routine_form_facts.the_field_sync,
  attr_facts.the_sync,
  attr_facts.the_field_sync,
  sys_attr_facts.the_sync,
  sys_attr_facts.the_field_sync,
  channel_facts.the_sync,
  channel_facts.the_field_sync,
  disc_facts.the_sync,
  disc_facts.the_field_sync,
  head_facts.the_sync,
  head_facts.the_field_sync,
  inter_facts.the_sync,
  inter_facts.the_field_sync,
  inter_group_facts.the_sync,
  inter_group_facts.the_field_sync,
  ip_decl_facts.the_sync,
  ip_decl_facts.the_field_sync,
  modvar_decl_facts.the_sync,
  modvar_decl_facts.the_field_sync,
  param_group_facts.the_sync,
  param_group_facts.the_field_sync,
  params_facts.the_sync,
  params_facts.the_field_sync,
  stateset_def_facts.the_sync,
  stateset_def_facts.the_field_sync,
)

pub TypeExpr_field_sync : IsSync (TypeExpr.the_field).row
TypeExpr_field_sync = search (types_knot.sync-TypeExpr, parts) depth 20

pub TypeExpr_sync : IsSync TypeExpr.the_row
TypeExpr_sync = as_row_sync TypeExpr.the_field TypeExpr_field_sync

pub TypedNames_field_sync : IsSync (TypedNames.the_field).row
TypedNames_field_sync = search (types_knot.sync-TypedNames, parts) depth 20

pub TypedNames_sync : IsSync TypedNames.the_row
TypedNames_sync = as_row_sync TypedNames.the_field TypedNames_field_sync

pub Expr_field_sync : IsSync (Expr.the_field).row
Expr_field_sync = expressions_knot.sync-Expr (search parts depth 20) (search parts depth 20) (search parts depth 20) (search parts depth 20)
    (search parts depth 20) (search parts depth 20) (search parts depth 20) (search parts depth 20) (λ h s. search parts depth 20)
    (search parts depth 20) (search parts depth 20) (search parts depth 20) (search parts depth 20)

pub Expr_sync : IsSync Expr.the_row
Expr_sync = as_row_sync Expr.the_field Expr_field_sync

pub Args_field_sync : IsSync (Args.the_field).row
Args_field_sync = expressions_knot.sync-Args (search parts depth 20) (search parts depth 20) (search parts depth 20) (search parts depth 20)
    (search parts depth 20) (search parts depth 20) (search parts depth 20) (search parts depth 20) (λ h s. search parts depth 20)
    (search parts depth 20) (search parts depth 20) (search parts depth 20) (search parts depth 20)

pub Args_sync : IsSync Args.the_row
Args_sync = as_row_sync Args.the_field Args_field_sync

pub Variable_field_sync : IsSync (Variable.the_field).row
Variable_field_sync = expressions_knot.sync-Variable (search parts depth 20) (search parts depth 20) (search parts depth 20) (search parts depth 20)
    (search parts depth 20) (search parts depth 20) (search parts depth 20) (search parts depth 20) (λ h s. search parts depth 20)
    (search parts depth 20) (search parts depth 20) (search parts depth 20) (search parts depth 20)

pub Variable_sync : IsSync Variable.the_row
Variable_sync = as_row_sync Variable.the_field Variable_field_sync

pub Stmts_field_sync : IsSync (Stmts.the_field).row
Stmts_field_sync = search (statements_knot.sync-Stmts, parts, Expr_field_sync, Args_sync, Variable_field_sync) depth 20

pub Stmts_sync : IsSync Stmts.the_row
Stmts_sync = as_row_sync Stmts.the_field Stmts_field_sync

pub TypeDef_field_sync : IsSync (TypeDef.the_field).row
TypeDef_field_sync = search (parts, TypeExpr_field_sync) depth 20

pub TypeDef_sync : IsSync TypeDef.the_row
TypeDef_sync = as_row_sync TypeDef.the_field TypeDef_field_sync

pub BlockDecl_field_sync : IsSync (BlockDecl.the_field).row
BlockDecl_field_sync = search (parts, TypedNames_sync, TypeDef_sync) depth 20

pub BlockDecl_sync : IsSync BlockDecl.the_row
BlockDecl_sync = as_row_sync BlockDecl.the_field BlockDecl_field_sync

pub Routine_field_sync : IsSync (Routine.the_field).row
Routine_field_sync = search (parts, BlockDecl_sync, Stmts_field_sync) depth 20

pub Routine_sync : IsSync Routine.the_row
Routine_sync = as_row_sync Routine.the_field Routine_field_sync

pub Block_field_sync : IsSync (Block.the_field).row
Block_field_sync = search (parts, BlockDecl_sync, Stmts_field_sync) depth 20

pub Block_sync : IsSync Block.the_row
Block_sync = as_row_sync Block.the_field Block_field_sync

pub DelayHigh_field_sync : IsSync (DelayHigh.the_field).row
DelayHigh_field_sync = search (parts, Expr_field_sync) depth 20

pub DelayHigh_sync : IsSync DelayHigh.the_row
DelayHigh_sync = as_row_sync DelayHigh.the_field DelayHigh_field_sync

pub Clause_field_sync : IsSync (Clause.the_field).row
Clause_field_sync = search (parts, Expr_field_sync, DelayHigh_sync) depth 20

pub Clause_sync : IsSync Clause.the_row
Clause_sync = as_row_sync Clause.the_field Clause_field_sync

pub TransBody_field_sync : IsSync (TransBody.the_field).row
TransBody_field_sync = search (groups_knot.sync-TransBody, parts, Block_field_sync, Clause_field_sync) depth 20

pub TransBody_sync : IsSync TransBody.the_row
TransBody_sync = as_row_sync TransBody.the_field TransBody_field_sync

pub Trans_field_sync : IsSync (Trans.the_field).row
Trans_field_sync = search (parts, TransBody_field_sync) depth 20

pub Trans_sync : IsSync Trans.the_row
Trans_sync = as_row_sync Trans.the_field Trans_field_sync

pub Init_field_sync : IsSync (Init.the_field).row
Init_field_sync = search (parts, Block_field_sync) depth 20

pub Init_sync : IsSync Init.the_row
Init_sync = as_row_sync Init.the_field Init_field_sync

pub Header_field_sync : IsSync (Header.the_field).row
Header_field_sync = search (parts, TypedNames_sync) depth 20

pub Header_sync : IsSync Header.the_row
Header_sync = as_row_sync Header.the_field Header_field_sync

pub Parts_field_sync : IsSync (Parts.the_field).row
Parts_field_sync = declarations_knot.sync-Parts (search parts depth 20) (search parts depth 20) (search (parts, TypeDef_sync) depth 20)
    (search parts depth 20) (search (parts, Header_field_sync) depth 20) (search parts depth 20) (search parts depth 20) (search (
      parts,
      TypedNames_sync,
    ) depth 20) (search parts depth 20) (search parts depth 20) (search (parts, Routine_field_sync) depth 20) (search parts depth 20)
    (search parts depth 20) (search (parts, Init_sync) depth 20) (search (parts, Trans_sync) depth 20)

pub Parts_sync : IsSync Parts.the_row
Parts_sync = as_row_sync Parts.the_field Parts_field_sync

pub Spec_field_sync : IsSync (Spec.the_field).row
Spec_field_sync = search (parts, Parts_field_sync) depth 20

pub Spec_sync : IsSync Spec.the_row
Spec_sync = as_row_sync Spec.the_field Spec_field_sync
