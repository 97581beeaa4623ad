-- One equation of the tokens for each type of node in groups of clauses.
use Rattle.std.proofs.Common.{◌≡◌, ◌++◌}
use Rattle.estelle_tree.specs.declared.tree.clause.TransBody.{TransBody, out-TransBody, map-TransBody, fold_out-TransBody}
use Rattle.estelle_tree.specs.declared.tree.clause.TransBody.TheFolds.{fold_out-Group}
use Rattle.estelle_tree.specs.declared.tree.clause.Group.{Group, out-Group}
use Rattle.estelle_printer.proofs.WritingLemmas.{chain_map}
use Rattle.estelle_printer.specs.Forms.{Tokens}
use Rattle.estelle_printer.specs.ClauseTokens.{clause_tokens, trans_body_layer, group_layer, trans_body, group}

pub trans_body_is : (x : TransBody) → trans_body x ≡ trans_body_layer (map-TransBody TransBody Group Tokens Tokens trans_body group (out-TransBody x))
unfolding trans_body group
trans_body_is x = fold_out-TransBody Tokens Tokens trans_body_layer group_layer x

pub group_is : (x : Group) → group x ≡ clause_tokens (out-Group x).clause ++ trans_body (out-Group x).body
unfolding trans_body group
group_is x = fold_out-Group Tokens Tokens trans_body_layer group_layer x

pub ruleset clauses = (chain_map, trans_body_is, group_is)
