-- What the walk down to the blocks keeps.
use Rattle.std.specs.Prelude.{◌++◌, ◌∷◌, [], List, map, fold, option_and_then, None}
use Rattle.std.specs.List.{flat_map}
use Rattle.estelle_tree.specs.declared.tree.clause.Block.{Block}
use Rattle.estelle_tree.specs.declared.tree.clause.Clause.{Clause}
use Rattle.estelle_tree.specs.declared.tree.clause.Group.{Group, out-Group}
use Rattle.estelle_tree.specs.declared.tree.clause.TransBody.{TransBody}
use Rattle.estelle_model.specs.Meant.{Meanings}
use Rattle.estelle_model.specs.Definitions.{received}
use Rattle.estelle_model.specs.Bodies.{Way, ways}
use Rattle.estelle_model.specs.Transitions.{Choice, Transition, or_first, from_of, to_of, when_of, provided_of, priority_of, number_of, delay_of}
use Rattle.flat_transitions.specs.Choices.{grown_clause}
use Rattle.flat_transitions.specs.declared.in_force.ClausesInForce.{ClausesInForce}

-- nothing is said, and nothing is chosen
abbrev pub unsaid : ClausesInForce
unsaid = record { from = None; to = None; when = None; received = []; provided = None; priority = None; delay = None; choices = [] ∷ [] }

-- what is said, with one more clause
abbrev pub with_clause : Meanings → ClausesInForce → Clause → ClausesInForce
with_clause known s c = record {
  from = or_first s.from (from_of known c);
  to = or_first s.to (to_of known c);
  when = or_first s.when (when_of known c);
  received = s.received ++ received known (c ∷ []);
  provided = or_first s.provided (provided_of known c);
  priority = or_first s.priority (priority_of known c);
  delay = or_first s.delay (delay_of known c);
  choices = grown_clause known s.choices c;
}

-- means : what names mean where the names of `any` have these values
module _ (means : List Choice → Meanings) where
  -- the transition of a block of which this is said, for one choice
  abbrev pub variant : ClausesInForce → Block → List Choice → Transition
  variant s b chosen = record { from = s.from; to = s.to; when = s.when; received = s.received; provided = s.provided; priority = option_and_then (number_of (means chosen)) s.priority; delay = s.delay; chosen = chosen; block = b }

  -- those for each choice
  abbrev pub reached : ClausesInForce → Block → List Transition
  reached s b = map (variant s b) s.choices

  abbrev pub at_way : ClausesInForce → Way → List Transition
  at_way s w = reached (fold (with_clause (means [])) s w.clauses) w.block

  -- the transitions of the blocks in it, where this is said before
  abbrev pub below : ClausesInForce → TransBody → List Transition
  below s b = flat_map (at_way s) (ways b)

  unfoldable pub below_group : ClausesInForce → Group → List Transition
  below_group s g = below (with_clause (means []) s (out-Group g).clause) (out-Group g).body
