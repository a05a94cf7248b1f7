use Rattle.std.proofs.Common.{[], ◌++◌, ◌∷◌, ◌≡◌, drop, slice_index}
use Rattle.std.specs.List.{flat_map}
use Rattle.ol_values.specs.Config.{SpaceConfig}
use Rattle.ol_chunks.proofs.layout.size_of_chunk.Given as goal

abbrev pub invariant-loop-s : goal.invariant-loop-s
invariant-loop-s l =
    slice_index (flat_map (λ (s : SpaceConfig). s.chunks) (drop l.s-index l.spaces) ++ l.last ∷ []) l.left
    ≡ slice_index (flat_map (λ (s : SpaceConfig). s.chunks) l.spaces ++ l.last ∷ []) l.chunk
