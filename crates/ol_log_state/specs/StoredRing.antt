-- How the ring is stored.
use Rattle.std.specs.Prelude.{length, ◌<◌, ◌^◌, ◌≡◌, ◌≤◌}
use Rattle.ol_log_state.specs.declared.ring.LogState.TheInside.{Inside}
use Rattle.ol_log_state.specs.RingState.{RingState, page_to_write}

-- the ring that is stored
abbrev pub ring_state : Inside → RingState
ring_state r = record {
  files = r.files;
  buffer = r.page.records;
  reuse = record { backed = r.backed; need = r.need };
  incarnation = r.incarnation;
  next = r.next;
}

-- the buffer has the head of the page that it will be, and positions are from 1 to below 2^62
pub record IsLogState (r : Inside) : Type 0 where
  pub page : r.page ≡ page_to_write (ring_state r)
  pub incarnation : (1 ≤ r.incarnation) × (r.incarnation ≤ 2 ^ 62)
  pub first : length r.page.records < r.next
  pub next : r.next ≤ 2 ^ 62
