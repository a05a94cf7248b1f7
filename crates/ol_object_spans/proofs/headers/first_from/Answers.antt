use Rattle.std.proofs.Common.{ltb, rules}
use Rattle.std.proofs.lemmas.List.Sorted.{IsPartitionPoint-from_clause, IsPartitionedBy-ltb}
use Rattle.ol_object_spans.specs.Passing.{start_of}
use Rattle.ol_object_spans.proofs.headers.first_from.Goals as goal

pub returns-clause-point : goal.returns-clause-point
returns-clause-point c = λ rising.
    IsPartitionPoint-from_clause (λ s. ltb (start_of s) c.args.start) c.args.stopped.now c.partition_point.result c.partition_point.ensures.partitioned
    (IsPartitionedBy-ltb start_of c.args.stopped.now c.args.start rising) (λ a r g q. search rules)
