-- The numbers and the texts of statuses.
use Rattle.std.specs.Prelude.{List, [], codes, ℕ, ◌++◌, ◌∷◌}
use Rattle.ol_values.specs.Text.{counted}
use Rattle.ol_online.specs.declared.status.NotReady.{NotReady as Unready}
use Rattle.ol_online.specs.declared.status.NotReady.TheVariants.{Blank, Restoring}
use Rattle.ol_online.specs.declared.status.Status.{Status}
use Rattle.ol_online.specs.declared.status.Status.TheVariants.{BadConfig, BadDisk, BadScript, BadWords, DiskFault, NoMemory, NotReady, Ok, OutOfTape, ReadFault, TapeFault, TooSmall, WriteFault}

abbrev pub code_of : Status → ℕ
code_of Ok = 0
code_of BadWords = 1
code_of (BadScript line) = 2
code_of (BadConfig line) = 2
code_of ReadFault = 3
code_of WriteFault = 4
code_of (DiskFault chunk) = 5
code_of (TapeFault drive) = 6
code_of (OutOfTape drive) = 7
code_of (NotReady state) = 8
code_of (BadDisk chunk page) = 12
code_of (TooSmall chunk) = 14
code_of NoMemory = 20

abbrev pub not_ready_text : Unready → List ℕ
not_ready_text Blank = codes "not ready none"
not_ready_text Restoring = codes "not ready restoring"

-- words and numbers, and the end of the line
abbrev pub status_line : List ℕ → List ℕ → List ℕ
status_line word numbers = counted word numbers ++ (10 ∷ [])

-- a line of text, but for a status that has none
abbrev pub status_text : Status → List ℕ
status_text Ok = []
status_text BadWords = codes "bad words\n"
status_text (BadScript line) = status_line (codes "bad script") (line ∷ [])
status_text (BadConfig line) = status_line (codes "bad config") (line ∷ [])
status_text ReadFault = codes "read fault\n"
status_text WriteFault = []
status_text (DiskFault chunk) = status_line (codes "disk fault") (chunk ∷ [])
status_text (TapeFault drive) = status_line (codes "tape fault") (drive ∷ [])
status_text (OutOfTape drive) = status_line (codes "out of tape") (drive ∷ [])
status_text (NotReady state) = not_ready_text state ++ (10 ∷ [])
status_text (BadDisk chunk page) = status_line (codes "bad disk") (chunk ∷ page ∷ [])
status_text (TooSmall chunk) = status_line (codes "too small") (chunk ∷ [])
status_text NoMemory = codes "no memory\n"
