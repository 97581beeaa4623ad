-- How many flat transitions there are, in unbounded numbers.
use Rattle.std.specs.Prelude.{ℕ, ◌+◌, ◌*◌, ◌^◌, List, length, fold}
use Rattle.pascal_values.specs.Shapes.{item_count}
use Rattle.estelle_tree.specs.declared.tree.clause.AnyDom.{AnyDom}
use Rattle.estelle_tree.specs.declared.tree.clause.TransBody.{TransBody}
use Rattle.estelle_tree.specs.declared.tree.clause.TransBody.TheOpen.{TransBody-F, Group-F}
use Rattle.estelle_tree.specs.declared.tree.clause.TransBody.TheFolds.{fold-TransBody, fold-Group}
use Rattle.estelle_tree.specs.declared.tree.clause.Group.{Group}
use Rattle.estelle_tree.specs.declared.tree.specification.Trans.{Trans}
use Rattle.estelle_model.specs.declared.denoter.Denoter.{Denoter}
use Rattle.estelle_model.specs.Types.{range_of}
use Rattle.estelle_model.specs.Meant.{Meanings}
use Rattle.estelle_model.specs.Denoted.{ordinal_type}
use Rattle.estelle_model.specs.Definitions.{domains_of}

-- how many values an ordinal type has
abbrev pub size : Denoter → ℕ
size t = item_count (range_of t).0 (range_of t).1

module _ (known : Meanings) where
  -- how many choices there are for the names of one domain
  abbrev pub domain_count : AnyDom → ℕ
  domain_count d = size (ordinal_type known d.domain) ^ length d.names.names

  -- for the names of all: the product
  abbrev pub domains_count : List AnyDom → ℕ
  domains_count ds = fold (λ n d. n * domain_count d) 1 ds

  abbrev pub count_layer : TransBody-F ℕ ℕ → ℕ
  count_layer (TransBody-F.Block b) = 1
  count_layer (TransBody-F.Groups groups span) = fold (λ n k. n + k) 0 groups

  abbrev pub count_group_layer : Group-F ℕ ℕ → ℕ
  count_group_layer g = domains_count (domains_of g.clause) * g.body

  -- how many flat transitions the blocks behind `trans` or a clause give
  unfoldable pub count_body : TransBody → ℕ
  count_body = fold-TransBody ℕ ℕ count_layer count_group_layer

  unfoldable pub count_group : Group → ℕ
  count_group = fold-Group ℕ ℕ count_layer count_group_layer

  -- and those behind each `trans`
  abbrev pub count : List Trans → ℕ
  count ts = fold (λ n t. n + count_body t.body) 0 ts
