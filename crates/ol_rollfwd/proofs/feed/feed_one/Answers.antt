use Rattle.std.proofs.Common.{ap, is_some, nat_lt, sym, true, Option, Some, ◌≡◌, ◌∙◌}
use Rattle.std.proofs.lemmas.Bool.{and_parts}
use Rattle.ol_values.specs.Config.{has_page, has_place}
use Rattle.ol_pool.specs.Frames.{frame_of}
use Rattle.ol_rollfwd.specs.declared.fault.RollFault.TheVariants.{OutOfPlace}
use Rattle.ol_values.specs.declared.row.Row.{Row}
use Rattle.ol_rollfwd.specs.Feeding.{held_at}
use Rattle.ol_rollfwd.specs.Rolls.{applied, is_in_place, place_moved}
use Rattle.ol_rollfwd.proofs.FrameLaws.{applied_at, err_moved, row_put, some_there}
use Rattle.ol_rollfwd.proofs.feed.feed_one.Goals as goal

pub returns-in_err-held-clause-frames : goal.returns-in_err-held-clause-frames
returns-in_err-held-clause-frames c = λ space page has. c.slot_in.ensures.frames space page (c.requires.frames space page has)

pub returns-in-Ok-Some-clause-frames : goal.returns-in-Ok-Some-clause-frames
returns-in-Ok-Some-clause-frames c = λ space page has. c.put_row.ensures.frames space page (c.slot_in.ensures.frames space page (c.requires.frames space page has))

pub returns-in-Ok-None-clause-frames : goal.returns-in-Ok-None-clause-frames
returns-in-Ok-None-clause-frames c = λ space page has. c.slot_in.ensures.frames space page (c.requires.frames space page has)

pub returns-in-Err-clause-frames : goal.returns-in-Err-clause-frames
returns-in-Err-clause-frames c = λ space page has. c.slot_in.ensures.frames space page (c.requires.frames space page has)

pub returns-in-Ok-Some-clause-place : goal.returns-in-Ok-Some-clause-place
returns-in-Ok-Some-clause-place c = λ v shows.
    let held : c.in_ok-held.held ≡ held_at v (place_moved c.args.roll.now c.args.rec.now) =
    c.in_ok-held.ensures.held c.args.roll.now.config v shows c.place_moved.ensures.there ∙ ap (held_at v) c.place_moved.ensures.value in
    ap (λ (h : Option Row). is_in_place c.args.roll.now h c.args.rec.now) (sym held) ∙ c.in-Ok-Some.ensures.ok

pub returns-in-Err-clause-out : goal.returns-in-Err-clause-out
returns-in-Err-clause-out c = λ v shows position e.
    let held : c.in_ok-held.held ≡ held_at v (place_moved c.args.roll.now c.args.rec.now) =
    c.in_ok-held.ensures.held c.args.roll.now.config v shows c.place_moved.ensures.there ∙ ap (held_at v) c.place_moved.ensures.value in
    ap (λ (h : Option Row). is_in_place c.args.roll.now h c.args.rec.now) (sym held) ∙ c.in-Err.ensures.out position (err_moved c.in-Err.fault (OutOfPlace position) e)

pub returns-in-Ok-Some-clause-pages : goal.returns-in-Ok-Some-clause-pages
returns-in-Ok-Some-clause-pages c = λ v shows.
    let s = c.args.roll.now in
    let rid = c.in-Ok-Some.rid in
    let moved : Some (rid, c.in-Ok-Some.row) ≡ applied s c.args.rec.now = sym c.in-Ok-Some.field-0-is ∙ c.in-Ok-Some.ensures.applied in
    let place : c.place_moved.result ≡ Some rid = c.place_moved.ensures.value ∙ (applied_at s c.args.rec.now rid c.in-Ok-Some.row moved).0 in
    let has : has_place s.config rid ≡ true = some_there (λ at. has_place s.config at ≡ true) c.place_moved.result rid c.place_moved.ensures.there place in
    let page : has_page s.config rid.space rid.page ≡ true = (and_parts (has_page s.config rid.space rid.page) (nat_lt rid.slot 31) has).0 in
    row_put s c.args.rec.now v c.slot_in.new.pages rid c.in-Ok-Some.row c.next-stamp.result c.put_row.new.pages moved c.next-stamp.ensures c.requires.position c.put_row.ensures.fits has
    (c.slot_in.ensures.frames rid.space rid.page (c.requires.frames rid.space rid.page page))
    (some_there (λ at. is_some (frame_of c.slot_in.new.pages at.space at.page) ≡ true) c.place_moved.result rid c.in_ok-held.ensures.loaded place)
    (c.slot_in.ensures.shows s.config v shows) c.put_row.ensures.value
