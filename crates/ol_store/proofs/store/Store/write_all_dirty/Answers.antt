use Rattle.std.proofs.Common.{refl, subst, sym, ◌∙◌}
use Rattle.ol_ports.specs.Frames.{FramedIn, ReadsOutside}
use Rattle.ol_ports.specs.Stops.{Stops}
use Rattle.ol_ports.proofs.FrameLaws.{framed_none, outside_both, outside_none}
use Rattle.ol_ports.proofs.StopLaws.{stops_both, stops_framed, stops_none}
use Rattle.ol_store.specs.Holding.{HoldsPages, in_store}
use Rattle.ol_store.specs.Stores.{AreSettled, Store}
use Rattle.ol_store.proofs.HoldLaws.{stored_holds}
use Rattle.ol_store.proofs.LoopSteps.{cleaned_flushed, cleaned_rest, cleaned_shorter, none_left, rest_none}
use Rattle.ol_store.proofs.store.Store.write_all_dirty.Goals as goal

pub loop-space-init : goal.loop-space-init
loop-space-init g c = record {
  rest = refl;
  flushed = c.requires.flushed;
  stops = λ tells v h all. let is = c.requires.store in stops_none _ _ (stored_holds c.args.self.now.config is.config c.args.self.now.pool c.args.self.now.log c.args.self.now.written v is.area _ h);
  stored = λ tells v h all. h;
  logged = λ tells v h all flushed. flushed;
  frame = λ tells. stops_none _ _ (framed_none _ _);
  reads = λ tells. outside_none _ _;
  sizes = refl;
  faults = refl;
}

pub write_dirty-requires-clause-flushed : goal.write_dirty-requires-clause-flushed
write_dirty-requires-clause-flushed g c = c.loop-space.invariant.flushed c.in-Some.space c.in-Some.page c.in-Some.ensures.page.1

pub loop-space-smaller : goal.loop-space-smaller
loop-space-smaller g c = cleaned_shorter c.loop-space.self c.write_dirty.new.self (c.in-Some.space, c.in-Some.page) c.in-Some.ensures.value c.in-Ok.ensures.value

pub loop-space-preserved : goal.loop-space-preserved
loop-space-preserved g c =
    let i = c.loop-space.invariant in
    record {
      rest = cleaned_rest c.args.self.now c.loop-space.self c.write_dirty.new.self c.in-Some.space c.in-Some.page i.rest c.in-Ok.ensures.value;
      flushed = cleaned_flushed c.loop-space.self c.write_dirty.new.self c.in-Some.space c.in-Some.page i.flushed c.in-Ok.ensures.value;
      stops = λ tells v h all. stops_both _ _ _ _ (i.stops tells v h all)
          (subst (λ (s : Store). Stops (g.D.Disk.past c.loop-space.disk) (g.D.Disk.past c.write_dirty.new.disk) (HoldsPages s.config s.log.generation v)) i.rest (c.write_dirty.ensures.stops tells v (i.stored tells v h all) (subst (λ (s : Store). AreSettled s.log) (sym i.rest) all)));
      stored = λ tells v h all. c.in-Ok.ensures.stored tells v (i.stored tells v h all) (subst (λ (s : Store). AreSettled s.log) (sym i.rest) all);
      logged = λ tells v h all flushed. c.in-Ok.ensures.logged tells v (i.stored tells v h all) (i.logged tells v h all flushed);
      frame = λ tells. stops_framed _ _ _ _ (i.frame tells)
          (subst (λ (s : Store). Stops (g.D.Disk.past c.loop-space.disk) (g.D.Disk.past c.write_dirty.new.disk) (FramedIn (g.D.Disk.past c.loop-space.disk) (in_store s.config))) i.rest (c.write_dirty.ensures.frame tells));
      reads = λ tells. outside_both _ _ _ _ (i.reads tells) (subst (λ (s : Store). ReadsOutside (g.D.Disk.past c.loop-space.disk) (g.D.Disk.past c.write_dirty.new.disk) (in_store s.config)) i.rest (c.in-Ok.ensures.reads tells));
      sizes = c.write_dirty.ensures.sizes ∙ i.sizes;
      faults = c.in-Ok.ensures.cause.kept ∙ i.faults;
    }

pub returns-in-Err-clause-stops : goal.returns-in-Err-clause-stops
returns-in-Err-clause-stops g c tells v h all =
    let i = c.loop-space.invariant in
    stops_both _ _ _ _ (i.stops tells v h all)
    (subst (λ (s : Store). Stops (g.D.Disk.past c.loop-space.disk) (g.D.Disk.past c.write_dirty.new.disk) (HoldsPages s.config s.log.generation v)) i.rest
    (c.write_dirty.ensures.stops tells v (i.stored tells v h all) (subst (λ (s : Store). AreSettled s.log) (sym i.rest) all)))

pub returns-in-Err-clause-frame : goal.returns-in-Err-clause-frame
returns-in-Err-clause-frame g c tells =
    let i = c.loop-space.invariant in
    stops_framed _ _ _ _ (i.frame tells)
    (subst (λ (s : Store). Stops (g.D.Disk.past c.loop-space.disk) (g.D.Disk.past c.write_dirty.new.disk) (FramedIn (g.D.Disk.past c.loop-space.disk) (in_store s.config))) i.rest (c.write_dirty.ensures.frame tells))

pub returns-clause-value : goal.returns-clause-value
returns-clause-value g c = rest_none c.args.self.now c.loop-space.self c.loop-space.invariant.rest (none_left c.loop-space.self.pool.dirty c.oldest_dirty.result c.oldest_dirty.ensures.value c.in_default.not-Some)
