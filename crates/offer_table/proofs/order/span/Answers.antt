use Rattle.std.proofs.Common.{rules, refl}
use Rattle.std.specs.Ordering.{is_lt}
use Rattle.std.proofs.lemmas.List.Sorted.{IsPartitionPoint-from_clause}
use Rattle.estelle_tree.specs.Paths.{path_cmp, is_inside}
use Rattle.offer_table.proofs.OrderLaws.{spanned}
use Rattle.offer_table.proofs.order.span.Goals as goal

pub returns : goal.returns
returns g c =
    let place = g.T.Placed.place in
    let both = spanned place c.args.items.now c.args.path.now c.partition_point-from.result c.partition_point-len.result _ c.requires
    (λ h. IsPartitionPoint-from_clause (λ y. is_lt (path_cmp (place y) c.args.path.now)) _ _ c.partition_point-from.ensures.partitioned h (λ a r f k. search rules))
    refl c.partition_point-len.ensures.bound
    (λ h. IsPartitionPoint-from_clause (λ y. is_inside c.args.path.now (place y)) _ _ c.partition_point-len.ensures.partitioned h (λ a r f k. search rules)) in
    record { rising = search rules; within = search rules; inside = both.0; outside = both.1 }
