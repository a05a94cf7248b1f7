-- The turns of the log backer, the checkpointer and the flusher: what they answer and leave, with their refusals in order.
use Rattle.std.specs.Prelude.{Bool, List, None, Option, Some, [], length, nat_lt, not, option_map, slice_index_or, unwrap_or, ℕ, ◌+◌, ◌==◌, ◌∷◌}
use Rattle.ol_values.specs.declared.event.Reply.{Reply}
use Rattle.ol_values.specs.declared.event.Reply.TheVariants.{Backed, Checkpointed, Cleaned, LogPage, LogsFull, NothingDirty, NothingToBack, Picked, Switched}
use Rattle.ol_values.specs.declared.event.Why.{Why}
use Rattle.ol_rules.specs.Ring.{LogRange, Use, blocker, free_after_switch, held, is_closed, no_range, switched_off, use_numbered}
use Rattle.ol_model.specs.Answering.{unless}
use Rattle.ol_model.specs.ArchiveTurns.{given_up}
use Rattle.ol_model.specs.Machine.{Machine, Picking, config_of, last_of, owed_in, reuse_of, with_lasting, with_picking, with_ring}
use Rattle.ol_model.specs.Steps.{flush, make_checkpoint}

-- ---- checkpoint and clean

abbrev pub checkpoint_turn : Machine → Reply × Machine
checkpoint_turn m = (Checkpointed (last_of m), make_checkpoint m)

-- the page that became dirty first, where there is one, goes to its place
abbrev pub clean_at : Machine → Option (ℕ × ℕ) → Reply × Machine
clean_at m None = (NothingDirty, m)
clean_at m (Some p) = (Cleaned p.0 p.1, flush m)

-- ---- backup of log files

abbrev pub pick_at : Machine → Option Use → Reply × Machine
pick_at m None = (NothingToBack, m)
pick_at m (Some u) = (Picked u.uniq (length u.pages), with_picking (Some (record { uniq = u.uniq; copied = 0 })) m)

-- the next page of the picked file
abbrev pub picked_range : Machine → Picking → LogRange
picked_range m p = unwrap_or (option_map (λ (u : Use). slice_index_or u.pages p.copied no_range) (use_numbered m.log.ring p.uniq)) no_range

-- the next page of the picked use; none picked comes in no turn
abbrev pub copy_at : Machine → Option Picking → Reply × Machine
copy_at m None = (NothingToBack, m)
copy_at m (Some p) =
    (LogPage p.uniq (picked_range m p).index, with_picking (Some (record p { copied = p.copied + 1 })) m)

abbrev pub done_at : Machine → Option Picking → Reply × Machine
done_at m None = (NothingToBack, m)
done_at m (Some p) = (Backed p.uniq, with_lasting (record m.lasting { backed = p.uniq }) (with_picking None m))

abbrev pub uncopied_at : ℕ → Machine → Why → Option Picking → Reply × Machine
uncopied_at count m why None = (NothingToBack, m)
uncopied_at count m why (Some p) = (given_up 0 count p.uniq why, with_picking None m)

-- ---- switch

-- whether there is something to switch from: the current file is open, and a page of it is written or a record buffered
abbrev pub can_switch : Machine → Option Use → Bool
can_switch m None = not (held m.log.ring == 0)
can_switch m (Some u) = not (is_closed (config_of m) m.log.ring u)

abbrev pub switch_turn : Machine → Reply × Machine
switch_turn m =
    let after = flush m in
    unless m
    ((not (can_switch m (use_numbered m.log.ring m.log.ring.uniq)), NothingToBack) ∷ (nat_lt (free_after_switch (config_of m) (reuse_of m) m.log.ring) (owed_in m), LogsFull (blocker (config_of m) (reuse_of m) m.log.ring)) ∷ [])
    (Switched m.log.ring.uniq, with_ring (switched_off after.log.ring) after)
