use Rattle.std.proofs.Common.{leb, rules}
use Rattle.std.proofs.lemmas.List.Sorted.{IsPartitionPoint-from_clause}
use Rattle.ol_object_spans.proofs.CodeLaws.{place_is}
use Rattle.ol_object_spans.proofs.object.place_for.Goals as goal

pub returns-clause-place : goal.returns-clause-place
returns-clause-place c = λ front back.
    place_is c.args.start c.args.starts.now front back c.partition_point.result c.partition_point.ensures.bound
    (λ sorted. IsPartitionPoint-from_clause (λ s. leb s c.args.start) c.args.starts.now c.partition_point.result c.partition_point.ensures.partitioned sorted (λ a r g q. search rules))
