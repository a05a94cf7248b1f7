-- What a change of a page does to the images that are kept for running archives.
use Rattle.std.specs.List.{position}
use Rattle.std.specs.Prelude.{List, None, Option, Some, if◌then◌else◌, length, nat_lt, slice_index_or, slice_set, ℕ}
use Rattle.ol_before.specs.Images.{Captures, Image, captured, image_of, without}
use Rattle.ol_running.specs.declared.running.Running.{Running}
use Rattle.ol_running.specs.Running.{broken_by, is_of_archive, keeps_of}
use Rattle.ol_row_turns.specs.declared.images.Images.{Images}
use Rattle.ol_row_turns.specs.declared.images.Images.TheVariants.{Break, Capture, Stay}

-- the index of the first archive that wants the image of a page, which has this stamp now
abbrev pub keeper : List (Option Running) → ℕ → ℕ → ℕ → Option ℕ
keeper l space page stamp = position (λ (r : Option Running). keeps_of r space page stamp) l

-- what is done where the page's image is held, or not, and this archive wants it
abbrev pub asked_of : Captures → Option (List ℕ) → Option ℕ → Images
asked_of b held None = Stay
asked_of b (Some bytes) (Some place) = Stay
asked_of b None (Some place) = if nat_lt (length b.held) b.limit then Capture else Break place

-- what a change of a page does: it captures the image that an archive wants, or breaks that archive where as many are held as may be
abbrev pub images_asked : List (Option Running) → Captures → ℕ → ℕ → ℕ → Images
images_asked l b space page stamp = asked_of b (image_of b.held space page) (keeper l space page stamp)

-- ---- what it leaves

abbrev pub broken_at : ℕ → ℕ → Option Running → List (Option Running) → List (Option Running)
broken_at entry place None l = l
broken_at entry place (Some r) l = slice_set l place (Some (broken_by entry r))

-- the archives behind a change by this entry
abbrev pub archives_behind : Images → ℕ → List (Option Running) → List (Option Running)
archives_behind Stay entry l = l
archives_behind Capture entry l = l
archives_behind (Break place) entry l = broken_at entry place (slice_index_or l place None) l

abbrev pub images_dropped : Option Running → Captures → Captures
images_dropped None b = b
images_dropped (Some r) b = without (is_of_archive r.cursor) b

-- the images behind it, where this is the page's
abbrev pub images_behind : Images → Image → List (Option Running) → Captures → Captures
images_behind Stay image l b = b
images_behind Capture image l b = captured image b
images_behind (Break place) image l b = images_dropped (slice_index_or l place None) b
