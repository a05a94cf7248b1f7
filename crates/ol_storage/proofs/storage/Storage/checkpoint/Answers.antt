use Rattle.std.proofs.Common.{ap, inl, ◌∙◌}
use Rattle.ol_ports.proofs.StopLaws.{stops_both, stops_weaker}
use Rattle.ol_loglog.proofs.Readies.{flushed_empty}
use Rattle.ol_store.specs.Stores.{checkpointed_of}
use Rattle.ol_storage.specs.Installation.{Installation, with_store}
use Rattle.ol_storage.proofs.Checkpoints.{moved_wider, none_marked}
use Rattle.ol_storage.proofs.RedoCalls.{flushed_wider}
use Rattle.ol_storage.proofs.storage.Storage.checkpoint.Goals as goal

pub returns-in-Err-clause-stops : goal.returns-in-Err-clause-stops
returns-in-Err-clause-stops g c tells b is least = stops_weaker _ _ _ _ (λ d s. inl s) (c.flush.ensures.stops tells b is)

pub move_checkpoint-requires-clause-flushed : goal.move_checkpoint-requires-clause-flushed
move_checkpoint-requires-clause-flushed g c = ap (λ (x : Installation). x.ring.state.buffer) (c.in-Ok-write_pages.ensures.step ∙ ap (λ (x : Installation). with_store x (checkpointed_of x.store)) c.in-Ok.ensures.step) ∙ flushed_empty c.args.self.now.now.ring.state

pub move_checkpoint-requires-clause-synced : goal.move_checkpoint-requires-clause-synced
move_checkpoint-requires-clause-synced g c = none_marked c.write_pages.new.self.now c.flush.new.self.now.store (ap (λ (x : Installation). x.store) c.in-Ok-write_pages.ensures.step)

pub returns-in-Err-write_pages-clause-stops : goal.returns-in-Err-write_pages-clause-stops
returns-in-Err-write_pages-clause-stops g c tells b is least =
    stops_both _ (g.D.Disk.past c.flush.new.self.disk) _ _ (stops_weaker _ _ _ _ (λ d s. inl s) (c.flush.ensures.stops tells b is))
    (stops_weaker _ _ _ _ (λ d s. inl (flushed_wider c.args.self.now.now c.flush.new.self.now c.flush.new.self.now.ring.gates b d c.in-Ok.ensures.step s)) (c.write_pages.ensures.stops tells b (c.in-Ok.ensures.stored tells b is)))

pub returns-in-Ok-write_pages-clause-stops : goal.returns-in-Ok-write_pages-clause-stops
returns-in-Ok-write_pages-clause-stops g c tells b is least =
    let held = c.in-Ok.ensures.stored tells b is in
    let whole = c.in-Ok-write_pages.ensures.step ∙ ap (λ (x : Installation). with_store x (checkpointed_of c.flush.new.self.now.store)) c.in-Ok.ensures.step in
    stops_both _ (g.D.Disk.past c.flush.new.self.disk) _ _ (stops_weaker _ _ _ _ (λ d s. inl s) (c.flush.ensures.stops tells b is))
    (stops_both _ (g.D.Disk.past c.write_pages.new.self.disk) _ _
    (stops_weaker _ _ _ _ (λ d s. inl (flushed_wider c.args.self.now.now c.flush.new.self.now c.flush.new.self.now.ring.gates b d c.in-Ok.ensures.step s)) (c.write_pages.ensures.stops tells b held))
    (stops_weaker _ _ _ _ (λ d s. moved_wider c.args.self.now.now c.write_pages.new.self.now (checkpointed_of c.flush.new.self.now.store) c.flush.new.self.now.ring.gates c.args.need c.args.next_archive b d whole s) (c.move_checkpoint.ensures.stops tells b (c.in-Ok-write_pages.ensures.stored tells b held) least)))
