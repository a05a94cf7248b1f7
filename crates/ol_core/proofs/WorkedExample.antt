-- A worked example: a row is inserted and committed, and an archive of both spaces takes its page. All of it computes.
use Rattle.std.specs.Fmt.{digits}
use Rattle.std.specs.Prelude.{List, None, Option, Some, [], codes, map, refl, replicate, ℕ, ◌++◌, ◌≡◌, ◌∷◌}
use Rattle.ol_values.specs.declared.event.Event.{Event}
use Rattle.ol_values.specs.declared.event.Event.TheVariants.{ArchiveEnd, ArchiveStart, ArchiveTurn, Begin as BeginTurn, Commit as CommitTurn, Insert as InsertTurn}
use Rattle.ol_values.specs.declared.event.Reply.{Reply}
use Rattle.ol_values.specs.declared.event.Reply.TheVariants.{AllTaken, Archived, At, Begun, Committed, PageIs, Started}
use Rattle.ol_values.specs.declared.history.Actor.{Actor}
use Rattle.ol_values.specs.declared.history.Actor.TheVariants.{Archiver, Session}
use Rattle.ol_values.specs.declared.history.Entry.{Entry}
use Rattle.ol_values.specs.declared.line.Form.TheVariants.{Archive as ArchiveLine, Begin as BeginLine, Commit as CommitLine, Insert as InsertLine}
use Rattle.ol_values.specs.declared.line.Line.{Line}
use Rattle.ol_values.specs.declared.record.Record.{Record}
use Rattle.ol_values.specs.declared.record.Record.TheVariants.{Begin as BeginRecord, Change, Commit as CommitRecord}
use Rattle.ol_values.specs.declared.row.Row.{Row}
use Rattle.ol_values.specs.Blocks.{Block, HeadHeld, PageHeld}
use Rattle.ol_values.specs.Config.{Config, config_text}
use Rattle.ol_core.specs.History.{Happening, Plays, Position, journal_of, position_after, start_of, well}
use Rattle.ol_values.specs.Image.{page_bytes, slots_bytes}
use Rattle.ol_values.specs.Pages.{Page}
use Rattle.ol_values.specs.Pages.{rid_of}
use Rattle.ol_rules.specs.Journal.{page_at, page_from}
use Rattle.ol_core.specs.Machine.{first_free, formatted}
use Rattle.ol_values.specs.Blocks.{Saved}
use Rattle.ol_rules.specs.Saveset.{places, saveset}
use Rattle.ol_core.specs.Tape.{tape}
use Rattle.ol_values.specs.Text.{text}

-- root with 12 data pages and data1 with 8
abbrev pub config : Config
config = record {
  spaces = record { name = codes "root"; chunks = 100 ∷ [] } ∷ record { name = codes "data1"; chunks = 8 ∷ [] } ∷ [];
  physical_space = 0;
  physical_entries = 8;
  log_space = 0;
  log_files = 3;
  log_file_pages = 20;
  image_limit = 2;
}

abbrev pub names : List (List ℕ)
names = codes "root" ∷ codes "data1" ∷ []

abbrev pub lines : List Line
lines =
    record { actor = Session 1; number = 1; form = BeginLine }
    ∷ record { actor = Session 1; number = 2; form = InsertLine 0 (codes "data1") (codes "ann") }
    ∷ record { actor = Session 1; number = 3; form = CommitLine }
    ∷ record { actor = Archiver 1; number = 4; form = ArchiveLine 0 names }
    ∷ []

abbrev pub entry : ℕ → Actor → ℕ → Event → Reply → Entry
entry n actor line event reply = record { number = n; actor = actor; line = line; event = event; reply = reply; start = 0; calls = 0 }

abbrev pub history : List Entry
history =
    entry 1 (Session 1) 1 BeginTurn (Begun 1)
    ∷ entry 2 (Session 1) 2 (InsertTurn 0 (codes "data1") (codes "ann")) (At (rid_of 1 0 0))
    ∷ entry 3 (Session 1) 3 CommitTurn (Committed 3)
    ∷ entry 4 (Archiver 1) 4 (ArchiveStart 0 names) (Started 1 3 1)
    ∷ entry 5 (Archiver 1) 4 ArchiveTurn (PageIs 1 0)
    ∷ entry 6 (Archiver 1) 4 ArchiveTurn AllTaken
    ∷ entry 7 (Archiver 1) 4 ArchiveEnd (Archived 1 3 1)
    ∷ []

abbrev pub journal : List Record
journal = BeginRecord 1 ∷ Change 1 (rid_of 1 0 0) None (Some (codes "ann")) ∷ CommitRecord 1 ∷ []

pub journal_is : journal_of (formatted config) history ≡ journal
unfolding first_free places page_from
journal_is = refl

abbrev pub page : Page
page = record { stamp = 2; slots = let row : Option Row = Some (codes "ann") in row ∷ replicate 30 None }

pub page_is : page_at journal 1 0 ≡ page
unfolding page_from
page_is = refl

pub image_is : page_bytes page ≡ (0 ∷ 0 ∷ 0 ∷ 0 ∷ 0 ∷ 0 ∷ 0 ∷ 2 ∷ []) ++ replicate 24 0 ++ (4 ∷ 97 ∷ 110 ∷ 110 ∷ []) ++ replicate 2004 0 ++ (0 ∷ 0 ∷ 0 ∷ 0 ∷ 0 ∷ 0 ∷ 0 ∷ 2 ∷ [])
unfolding slots_bytes
image_is = refl

abbrev pub saved : List Saved
saved = record { space = 0; parent = 0; base = 0 } ∷ record { space = 1; parent = 0; base = 0 } ∷ []

pub saveset_is : saveset config journal saved 3 ≡ record { space = 1; page = 0; image = page } ∷ []
unfolding places page_from
saveset_is = refl

pub text_is : text config history ≡ codes "1 s1 begun 1\n2 s1 rid data1:0:0\n3 s1 committed 3\n4 a1 archived 1 3 1\n"
unfolding digits
text_is = refl

pub config_is : config_text config ≡ codes "space root 100\nspace data1 8\nphyslog root 8\nlogs root 3 20\nbefore 2\n"
unfolding config_text digits
config_is = refl

abbrev pub end_of : ℕ → ℕ → Block
end_of kind index = record {
  kind = kind;
  object = 1;
  incarnation = 1;
  number = 1;
  index = index;
  a = 3;
  b = 4;
  c = 0;
  payload = HeadHeld (record { spaces = saved; text = config_text config }) config;
}

abbrev pub middle : Block
middle = record { kind = 2; object = 1; incarnation = 1; number = 1; index = 1; a = 1; b = 0; c = 2; payload = PageHeld page }

pub tape_is : tape (formatted config) history 1 ≡ end_of 1 0 ∷ middle ∷ end_of 4 2 ∷ []
unfolding first_free places page_from
tape_is = refl

-- where these happenings lead
abbrev pub end_from : Position → List Happening → Position
end_from p [] = p
end_from p (h ∷ hs) = end_from (position_after p p.lines h) hs

abbrev pub end : Position
end = end_from (start_of (formatted config) lines) (map well history)

pub plays : Plays (formatted config) lines history
unfolding first_free places page_from
plays = (
  end,
  refl,
  (
    record { number = refl; actor = refl; line_is = refl; event = refl; reply = refl },
    (
      record { number = refl; actor = refl; line_is = refl; event = refl; reply = refl },
      (
        record { number = refl; actor = refl; line_is = refl; event = refl; reply = refl },
        (
          record { number = refl; actor = refl; line_is = refl; event = refl; reply = refl },
          (
            record { number = refl; actor = refl; line_is = refl; event = refl; reply = refl },
            (
              record { number = refl; actor = refl; line_is = refl; event = refl; reply = refl },
              (
                record { number = refl; actor = refl; line_is = refl; event = refl; reply = refl },
                refl,
              ),
            ),
          ),
        ),
      ),
    ),
  ),
)
