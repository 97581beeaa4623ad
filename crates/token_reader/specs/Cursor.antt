use Rattle.estelle_tree.specs.Input.{Input}
use Rattle.token_reader.specs.declared.cursor.Cursor.TheInside.{Inside}

abbrev pub input_of : Inside → Input
input_of c = record { tokens = c.rest.now; end = c.end }
