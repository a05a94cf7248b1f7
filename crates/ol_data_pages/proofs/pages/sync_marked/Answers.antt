use Rattle.std.proofs.Common.{ap, false, refl, slice_index_or, sym, true, ℕ, ◌∙◌, ◌≡◌}
use Rattle.ol_ports.proofs.StopLaws.{stops_none, stops_sync}
use Rattle.ol_data_pages.proofs.SyncLaws.{next_synced, none_synced}
use Rattle.ol_data_pages.proofs.pages.sync_marked.Goals as goal

pub loop-chunk-init : goal.loop-chunk-init
loop-chunk-init g c = record {
  stops = λ tells. stops_none _ _ (λ d rest. rest);
  synced = λ tells. none_synced _ _;
  idle = λ none. refl;
  sizes = refl;
  faults = refl;
}

pub returns-in-Err-clause-stops : goal.returns-in-Err-clause-stops
returns-in-Err-clause-stops g c tells = stops_sync _ _ _ _ _ _ (c.loop-chunk.invariant.stops tells) (c.in-Err.ensures.past tells)

pub loop-chunk-preserved : goal.loop-chunk-preserved
loop-chunk-preserved g c =
    let marked : slice_index_or c.args.written.now c.loop-chunk.chunk false ≡ true = ap (λ (k : ℕ). slice_index_or c.args.written.now k false) (sym c.from.ensures) ∙ c.if-not-written-from.false in
    record {
      stops = λ tells. stops_sync _ _ _ _ _ _ (c.loop-chunk.invariant.stops tells) (c.in-Ok.ensures.past tells);
      synced = λ tells. next_synced _ _ _ _ _ _ (c.in-Ok.ensures.past tells) refl (c.loop-chunk.invariant.synced tells);
      idle = λ none. absurd (let clash : true ≡ false = sym marked ∙ none c.loop-chunk.chunk in cc);
      sizes = c.in-Ok.ensures.sizes ∙ c.loop-chunk.invariant.sizes;
      faults = c.in-Ok.ensures.cause.kept ∙ c.loop-chunk.invariant.faults;
    }
