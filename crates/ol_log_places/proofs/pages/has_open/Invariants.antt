use Rattle.std.proofs.Common.{◌≡◌, ◌<◌, ◌≤◌, ◌*◌, false, ℕ, slice_index_or}
use Rattle.ol_log_places.proofs.pages.has_open.Given as goal

abbrev pub invariant-loop-place : goal.invariant-loop-place
invariant-loop-place l = record {
  shut : (k : ℕ) → l.file * l.table.log_file_pages ≤ k → k < l.place → slice_index_or l.gates k false ≡ false;
}
