-- What a block does to the headers of a stream, and the first bad block of an object as they tell it.
use Rattle.std.specs.Prelude.{Bool, List, None, Option, Some, [], find, if◌then◌else◌, ℕ, ◌++◌, ◌-◌, ◌==◌, ◌∷◌, ◌≡◌}
use Rattle.ol_object_spans.specs.declared.block.ReadBlock.{ReadBlock}
use Rattle.ol_object_spans.specs.declared.header.Header.{Header}
use Rattle.ol_object_spans.specs.declared.header.Live.{Live}
use Rattle.ol_object_spans.specs.declared.header.Progress.{Progress}
use Rattle.ol_object_spans.specs.declared.header.Stopped.{Stopped}
use Rattle.ol_object_spans.specs.declared.headers.Headers.{Headers}
use Rattle.ol_object_spans.specs.declared.place.Place.{Place}
use Rattle.ol_object_spans.specs.Follows.{advanced, ends_as, follows, has_come}

-- how far a span that goes on has come behind the block of an index in the stream; none where it stops there
abbrev pub goes_to : Live → ℕ → Option ReadBlock → Option Progress
goes_to live index None = None
goes_to live index (Some b) =
    if follows live.header live.progress (index - live.header.start) b then Some (advanced live.progress b.head) else None

-- the span of a header goes on, or it has stopped at a place
abbrev pub HasGone : Place → Header → Headers → Headers → Option Progress → Type 0
HasGone place header old new (Some progress) =
    (new.live ≡ Some (record { header = header; progress = progress })) × (new.stopped.items ≡ old.stopped.items)
HasGone place header old new None =
    (new.live ≡ None) × (new.stopped.items ≡ old.stopped.items ++ (let s : Stopped = record { header = header; bad = place } in s) ∷ [])

-- the same, by what went on before
abbrev pub HasPassedBy : ℕ → Place → Option ReadBlock → Headers → Headers → Option Live → Type 0
HasPassedBy index place item old new None = (new.live ≡ None) × (new.stopped.items ≡ old.stopped.items)
HasPassedBy index place item old new (Some live) = HasGone place live.header old new (goes_to live index item)

-- the span that goes on, if there is one, has passed a block, or stopped there
abbrev pub HasPassed : ℕ → Place → Option ReadBlock → Headers → Headers → Type 0
HasPassed index place item old new = HasPassedBy index place item old new old.live

-- the span that begins at a header
abbrev pub begun : ℕ → ReadBlock → Option Live
begun start b = Some (record {
  header = (let h : Header = record { start = start; head = b.head; held = b.held } in h);
  progress = (let p : Progress = record { last = None; position = b.head.a } in p);
})

-- the index in the stream at which a stopped span began
abbrev pub start_of : Stopped → ℕ
start_of s = s.header.start

-- it began at this one
abbrev pub starts_at : ℕ → Stopped → Bool
starts_at start s = s.header.start == start

-- the first bad block of an object whose header has stopped before its trailer, or is not there
abbrev pub bad_of_stopped : Place → ReadBlock → Option Stopped → Place
bad_of_stopped first trailer None = first
bad_of_stopped first trailer (Some s) = if ends_as s.header trailer then s.bad else first

-- the same where the span of its header has come to its trailer
abbrev pub bad_of_live : Live → Place → Place → ReadBlock → Option Place
bad_of_live live first last trailer =
    if ends_as live.header trailer then (if has_come live.header.head live.progress then None else Some last) else Some first

-- the first bad block of the object of a trailer, by the header at its start
abbrev pub bad_told : Option Live → List Stopped → ℕ → Place → Place → ReadBlock → Option Place
bad_told None stopped start first last trailer = Some (bad_of_stopped first trailer (find (starts_at start) stopped))
bad_told (Some live) stopped start first last trailer =
    if live.header.start == start then bad_of_live live first last trailer
    else Some (bad_of_stopped first trailer (find (starts_at start) stopped))
