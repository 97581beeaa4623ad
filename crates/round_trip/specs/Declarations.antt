-- Definitions and routines without their spans.
use Rattle.std.specs.Prelude.{map}
use Rattle.std.specs.Option.{option_map}
use Rattle.estelle_tree.specs.declared.tree.declaration.ConstDef.{ConstDef}
use Rattle.estelle_tree.specs.declared.tree.declaration.TypeDef.{TypeDef}
use Rattle.estelle_tree.specs.declared.tree.declaration.BlockDecl.{BlockDecl}
use Rattle.estelle_tree.specs.declared.tree.declaration.BlockDecl.TheVariants as block_decl
use Rattle.estelle_tree.specs.declared.tree.declaration.Routine.{Routine}
use Rattle.estelle_tree.specs.declared.tree.declaration.RoutineForm.{RoutineForm}
use Rattle.estelle_tree.specs.declared.tree.declaration.RoutineForm.TheVariants as form
use Rattle.estelle_tree.specs.declared.tree.declaration.Formals.{Formals}
use Rattle.estelle_tree.specs.declared.tree.declaration.Formal.{Formal}
use Rattle.estelle_tree.specs.Spans.{nowhere}
use Rattle.round_trip.specs.Types.{bare_name, bare_names, bare_const, bare_type, bare_typed}
use Rattle.round_trip.specs.Statements.{bare_stmts}

abbrev pub bare_const_def : ConstDef → ConstDef
bare_const_def d = record { name = bare_name d.name; value = bare_const d.value }

abbrev pub bare_type_def : TypeDef → TypeDef
bare_type_def d = record { name = bare_name d.name; type_expr = bare_type d.type_expr }

abbrev pub bare_block_decl : BlockDecl → BlockDecl
bare_block_decl (block_decl.Const defs span) = block_decl.Const (map bare_const_def defs) nowhere
bare_block_decl (block_decl.Types defs span) = block_decl.Types (map bare_type_def defs) nowhere
bare_block_decl (block_decl.Var vars span) = block_decl.Var (map bare_typed vars) nowhere

abbrev pub bare_formal : Formal → Formal
bare_formal f = record { is_var = f.is_var; names = bare_names f.names; type_name = bare_name f.type_name; span = nowhere }

abbrev pub bare_formals : Formals → Formals
bare_formals fs = record { formals = map bare_formal fs.formals; span = nowhere }

abbrev pub bare_form : RoutineForm → RoutineForm
bare_form form.Procedure = form.Procedure
bare_form (form.Function result) = form.Function (bare_name result)

abbrev pub bare_routine : Routine → Routine
bare_routine r = record {
  name = bare_name r.name;
  formals = option_map bare_formals r.formals;
  form = bare_form r.form;
  decls = map bare_block_decl r.decls;
  body = bare_stmts r.body;
  span = nowhere;
}
