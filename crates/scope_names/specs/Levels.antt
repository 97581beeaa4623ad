-- An open scope as the definitions have it.
use Rattle.scope_rules.specs.Visible.{Level}
use Rattle.scope_names.specs.declared.table.OpenScope.{OpenScope}

abbrev pub level_of : OpenScope → Level
level_of l = record { form = l.form; names = l.names; within = l.within }
