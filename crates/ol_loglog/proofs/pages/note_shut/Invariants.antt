use Rattle.std.proofs.Common.{◌≡◌, ◌<◌, ◌≤◌, ◌*◌, ℕ, length, false, slice_index_or}
use Rattle.ol_log_places.specs.Writes.{is_in_file}
use Rattle.ol_loglog.proofs.pages.note_shut.Given as goal

abbrev pub invariant-loop-place : goal.invariant-loop-place
invariant-loop-place l = record {
  from : l.file * l.table.log_file_pages ≤ l.place;
  count : length l.gates.items ≡ length l.fn.gates.items;
  shut : (k : ℕ) → l.file * l.table.log_file_pages ≤ k → k < l.place → slice_index_or l.gates.items k false ≡ false;
  others : (k : ℕ) → is_in_file l.table l.file k ≡ false → slice_index_or l.gates.items k false ≡ slice_index_or l.fn.gates.items k false;
}
