use Rattle.std.proofs.Common.{◌∙◌, ◌++◌, ap, map}
use Rattle.std.specs.Prelude.{not, filter}
use Rattle.estelle_model.specs.Denoted.{sections_declare}
use Rattle.estelle_model.specs.Definitions.{formal_section, local_variables}
use Rattle.meaning_table.specs.Known.{declare_all}
use Rattle.meaning_table.specs.Kinds.{numbered_behind, variables}
use Rattle.meaning_table.specs.declared.kinds.VariableKind.TheVariants.{Local, Var}
use Rattle.body_table.proofs.Parameters.{variables_declared, on_ok}
use Rattle.body_table.proofs.routines.declare_variables.Goals as goal

pub returns : goal.returns
returns c =
    let locals = local_variables c.args.routine.now.decls in
    let own = c.in_ok-declare_locals.ensures.0 ∙ ap (λ ds. declare_all c.declare_value_formals.new.table (sections_declare (numbered_behind Local (λ m. 0)) c.in_ok-number.number (local_variables ds))) c.items.ensures in
    on_ok c.declare_var_formals.result (λ d.
    variables_declared c.formals_of-formals.result.now locals c.args.table.now c.declare_value_formals.new.table c.declare_locals.new.table c.declare_var_formals.new.table c.in_ok-number.number c.in_ok-number.ensures.0 c.in_ok-number.ensures.1 own d
    ∙ ap (λ fs. declare_all (declare_all c.args.table.now (sections_declare (variables Local) 0 (map formal_section (filter (λ f. not f.is_var) fs) ++ locals))) (sections_declare (variables Var) 0 (map formal_section (filter (λ f. f.is_var) fs)))) c.formals_of-formals.ensures)
    c.declare_var_formals.ensures
