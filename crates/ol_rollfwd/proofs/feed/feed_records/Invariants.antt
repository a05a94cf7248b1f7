use Rattle.std.proofs.Common.{length, take, ◌+◌, ◌-◌, ◌<◌, ◌^◌, ◌≡◌, ◌≤◌}
use Rattle.ol_rollfwd.specs.Feeding.{HasFrames}
use Rattle.ol_rollfwd.proofs.FeedLaws.{IsTaking}
use Rattle.ol_rollfwd.proofs.feed.feed_records.Given as goal

abbrev pub invariant-loop-records : goal.invariant-loop-records
invariant-loop-records l =
    record {
      config : l.roll.config ≡ l.fn.roll.config;
      frames : HasFrames l.roll.config l.pages;
      positions : 0 < length l.records → l.roll.next + length l.records ≤ 2 ^ 62;
      taking : IsTaking l.fn.roll l.fn.pages (take (l.upto + 1 - l.fn.roll.next) l.fn.records) (take (l.upto + 1 - l.roll.next) l.records) l.roll l.pages;
    }

abbrev pub decreases-loop-records : goal.decreases-loop-records
decreases-loop-records l = l.upto + 1 - l.roll.next
