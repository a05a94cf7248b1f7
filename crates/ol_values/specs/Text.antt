-- The text of a history.
use Rattle.std.specs.List.{list_any, range_with_len}
use Rattle.std.specs.Prelude.{Bool, List, [], codes, decimal, false, filter, flat_map, if◌then◌else◌, nat_lt, not, true, ℕ, ◌%◌, ◌&&◌, ◌++◌, ◌+◌, ◌/◌, ◌<◌, ◌==◌, ◌^◌, ◌∷◌, ◌≡◌, ◌⊎◌}
use Rattle.ol_values.specs.declared.event.Reply.{Reply}
use Rattle.ol_values.specs.declared.event.Reply.TheVariants.{AllTaken, Archived, Archiving, At, Backed, BadRead, BadRid, BeforeFull, Begun, Cancelled, Changed, Checkpointed, Cleaned, Committed, DamagedVolume, DiskFault, JournalFull, LogPage, LogsFull, MissingLevel, MissingLog, NoArchive, NoParent, NoRow, NoSpace, NoTxn, NotDown, NothingDirty, NothingToBack, OutOfTape, PageIs, PagesLeft, Picked, Put, RolledBack, RowIs, RowLocked, ShelfFault, Slots, SpaceDown, SpaceFull, Started, Stopped, Switched, TapeFault, TxnOpen, Unbound, Undone, Up, WarmLog, Warming}
use Rattle.ol_values.specs.declared.history.Actor.{Actor}
use Rattle.ol_values.specs.declared.history.Actor.TheVariants.{Archiver, Backer, Checkpointer, Flusher, Session, Warmer}
use Rattle.ol_values.specs.declared.history.Entry.{Entry}
use Rattle.ol_values.specs.declared.record.Rid.{Rid}
use Rattle.ol_values.specs.declared.row.Row.{Row}
use Rattle.ol_values.specs.Config.{Config, number_words, space_at}

-- whether two actors are one
abbrev pub same_actor : Actor → Actor → Bool
same_actor (Session a) (Session b) = a == b
same_actor (Archiver a) (Archiver b) = a == b
same_actor Backer Backer = true
same_actor Flusher Flusher = true
same_actor Checkpointer Checkpointer = true
same_actor Warmer Warmer = true
same_actor _ _ = false

abbrev pub actor_text : Actor → List ℕ
actor_text (Session k) = codes "s" ++ decimal k
actor_text (Archiver k) = codes "a" ++ decimal k
actor_text Backer = codes "l1"
actor_text Flusher = codes "f1"
actor_text Checkpointer = codes "c1"
actor_text Warmer = codes "w1"

-- a number after a colon
abbrev pub colon : ℕ → List ℕ
colon n = 58 ∷ decimal n

-- a page, as SPACE:PAGE
abbrev pub page_text : Config → ℕ → ℕ → List ℕ
page_text c space page = (space_at c space).name ++ colon page

-- a place, as SPACE:PAGE:SLOT
abbrev pub rid_text : Config → Rid → List ℕ
rid_text c rid = page_text c rid.space rid.page ++ colon rid.slot

-- a word and numbers, each after a blank
abbrev pub counted : List ℕ → List ℕ → List ℕ
counted word numbers = word ++ number_words numbers

-- a word and the name of a space
abbrev pub named : Config → List ℕ → ℕ → List ℕ
named c word space = word ++ (32 ∷ (space_at c space).name)

-- a digit of a hexadecimal number, in lower case
abbrev pub hex_digit : ℕ → ℕ
hex_digit d = if nat_lt d 10 then 48 + d else 87 + d

-- a byte that is printed as itself: not a blank, and not the backslash
abbrev pub is_plain : ℕ → Bool
is_plain b = nat_lt 32 b && (nat_lt b 127 && not (b == 92))

-- a byte of a row: itself, or where it is not plain a backslash and two hexadecimal digits
abbrev pub byte_text : ℕ → List ℕ
byte_text b = if is_plain b then b ∷ [] else 92 ∷ hex_digit (b / 16) ∷ hex_digit (b % 16) ∷ []

abbrev pub row_text : Row → List ℕ
row_text row = 61 ∷ flat_map byte_text row

-- the slots whose bits are set
unfoldable pub slots_told : ℕ → List ℕ
slots_told bits = filter (λ i. (bits / 2 ^ i) % 2 == 1) (range_with_len 0 31)

abbrev pub reply_text : Config → Reply → List ℕ
reply_text c (Begun txn) = counted (codes "begun") (txn ∷ [])
reply_text c (At rid) = codes "rid " ++ rid_text c rid
reply_text c (Changed rid) = codes "changed " ++ rid_text c rid
reply_text c (RowIs row) = codes "row " ++ row_text row
reply_text c (Slots bits) = counted (codes "slots") (slots_told bits)
reply_text c (Committed position) = counted (codes "committed") (position ∷ [])
reply_text c (Undone rid) = codes "undone " ++ rid_text c rid
reply_text c (RolledBack position) = counted (codes "rolledback") (position ∷ [])
reply_text c (Checkpointed position) = counted (codes "checkpointed") (position ∷ [])
reply_text c (Cleaned space page) = codes "cleaned " ++ page_text c space page
reply_text c NothingDirty = codes "nothing"
reply_text c (Started number cut pages) = counted (codes "started") (number ∷ cut ∷ pages ∷ [])
reply_text c (PageIs space page) = codes "page " ++ page_text c space page
reply_text c AllTaken = codes "alltaken"
reply_text c (Archived number cut pages) = counted (codes "archived") (number ∷ cut ∷ pages ∷ [])
reply_text c (Cancelled number) = counted (codes "cancelled") (number ∷ [])
reply_text c (Picked uniq pages) = counted (codes "picked") (uniq ∷ pages ∷ [])
reply_text c (LogPage uniq index) = counted (codes "logpage") (uniq ∷ index ∷ [])
reply_text c (Backed uniq) = counted (codes "backed") (uniq ∷ [])
reply_text c NothingToBack = codes "nothing"
reply_text c (Switched uniq) = counted (codes "switched") (uniq ∷ [])
reply_text c (Warming space upto) = counted (named c (codes "warming") space) (upto ∷ [])
reply_text c (WarmLog first) = counted (codes "warmlog") (first ∷ [])
reply_text c (Put page) = counted (codes "put") (page ∷ [])
reply_text c (Up space) = named c (codes "up") space
reply_text c NoTxn = codes "notxn"
reply_text c TxnOpen = codes "txnopen"
reply_text c NoRow = codes "norow"
reply_text c (RowLocked holder) = counted (codes "rowlocked") (holder ∷ [])
reply_text c (SpaceFull space) = named c (codes "spacefull") space
reply_text c (SpaceDown space) = named c (codes "spacedown") space
reply_text c NoSpace = codes "nospace"
reply_text c (LogsFull uniq) = counted (codes "logsfull") (uniq ∷ [])
reply_text c Unbound = codes "unbound"
reply_text c (Archiving archiver) = counted (codes "archiving") (archiver ∷ [])
reply_text c (NoParent space level) = counted (named c (codes "noparent") space) (level ∷ [])
reply_text c NoArchive = codes "noarchive"
reply_text c (BeforeFull entry) = counted (codes "beforefull") (entry ∷ [])
reply_text c (PagesLeft count) = counted (codes "pagesleft") (count ∷ [])
reply_text c (TapeFault drive count) = counted (codes "tapefault") (drive ∷ count ∷ [])
reply_text c (OutOfTape drive) = counted (codes "outoftape") (drive ∷ [])
reply_text c (NotDown space) = named c (codes "notdown") space
reply_text c (MissingLevel space level archive) = counted (named c (codes "missinglevel") space) (level ∷ archive ∷ [])
reply_text c (MissingLog position) = counted (codes "missinglog") (position ∷ [])
reply_text c (DamagedVolume drive volume block) = counted (codes "damagedvolume") (drive ∷ volume ∷ block ∷ [])
reply_text c (ShelfFault count) = counted (codes "shelffault") (count ∷ [])
reply_text c (DiskFault chunk) = counted (codes "diskfault") (chunk ∷ [])
reply_text c (Stopped entry) = counted (codes "stopped") (entry ∷ [])
reply_text c JournalFull = codes "journalfull"
reply_text c BadRid = codes "badrid"
reply_text c (BadRead chunk page) = counted (codes "badread") (chunk ∷ page ∷ [])

-- line, actor and reply with blanks between, and the end of the line
abbrev pub entry_text : Config → Entry → List ℕ
entry_text c e = decimal e.line ++ (32 ∷ actor_text e.actor ++ (32 ∷ reply_text c e.reply ++ (10 ∷ [])))

-- whether a later entry is of the same actor and line
abbrev pub is_followed : Entry → List Entry → Bool
is_followed e h = list_any (λ (o : Entry). same_actor o.actor e.actor && (o.line == e.line)) h

-- the entries of a line stand together, and those of a later line behind them
abbrev pub IsInLineOrder : List Entry → Type 0
IsInLineOrder [] = Unit {0}
IsInLineOrder (e ∷ []) = Unit {0}
IsInLineOrder (e ∷ d ∷ h) = ((e.line < d.line) ⊎ ((e.line ≡ d.line) × (e.actor ≡ d.actor))) × IsInLineOrder (d ∷ h)

-- one line for the last entry of each actor and script line, in the order of these entries
abbrev pub text : Config → List Entry → List ℕ
text c [] = []
text c (e ∷ h) = if is_followed e h then text c h else entry_text c e ++ text c h
