-- What the entries of an archive put on its drive.
use Rattle.std.specs.Prelude.{Bool, List, None, Option, Some, [], drop, false, if◌then◌else◌, length, suc, true, zero, ℕ, ◌++◌, ◌+◌, ◌-◌, ◌<◌, ◌∷◌, ◌≡◌, ◌≤◌}
use Rattle.std.proofs.Common.{ap, arith, get_or, inl, inr, refl, subst, sym, ◌∙◌}
use Rattle.std.proofs.lemmas.List.{drop-drop, get_or-set_same}
use Rattle.std.proofs.lemmas.List.Concat.{flat_map-cons}
use Rattle.ol_values.specs.declared.event.Event.{Event}
use Rattle.ol_values.specs.declared.event.Event.TheVariants.{ArchiveEnd, ArchiveStart, ArchiveTurn}
use Rattle.ol_values.specs.declared.event.Reply.{Reply}
use Rattle.ol_values.specs.declared.event.Reply.TheVariants.{Archived, PageIs}
use Rattle.ol_values.specs.declared.history.Actor.{Actor}
use Rattle.ol_values.specs.declared.history.Actor.TheVariants.{Archiver}
use Rattle.ol_values.specs.declared.history.Entry.{Entry}
use Rattle.ol_values.specs.Blocks.{Block, archive_end, archive_page, header_kind, trailer_kind}
use Rattle.ol_values.specs.Config.{Config, config_text}
use Rattle.ol_values.specs.Pages.{Page}
use Rattle.ol_rules.specs.Shelf.{Shelf}
use Rattle.ol_model.specs.ArchiveTurns.{end_at, end_unless, end_with, start_at, take_at}
use Rattle.ol_model.specs.History.{Steps, Turned, state_after, turned}
use Rattle.ol_model.specs.Machine.{Archive, Machine, archive_of, config_of, last_of, page_upto, with_archive}
use Rattle.ol_model.specs.Tape.{archive_end_at, head_at, is_at_drive, put_by, put_if, saved_at, tape}
use Rattle.ol_model.specs.Turns.{DeviceFault, faulted, given_by, number_of, turn, turn_of, turn_unless}
use Rattle.ol_model.specs.Waiting.{left_of, pages_of}
use Rattle.ol_laws.proofs.JournalLaws.{same_self}
use Rattle.ol_turn_laws.proofs.KnowsLaws.{turn_knows}
use Rattle.ol_turn_laws.proofs.WaitingLaws.{takes_page}
use Rattle.ol_turn_laws.specs.Spaces.{KnowsSpaces}
use Rattle.ol_tape_laws.specs.Runs.{Begins, HasNew, IsTurnOf, RunsToEnd, page_blocks, rest_blocks, whole_blocks}
use Rattle.ol_tape_laws.proofs.BeganLaws.{Began, start_began}
use Rattle.ol_tape_laws.proofs.CutLaws.{AreIn, KeepsArchive, beside_keeps, pages_in}

-- the archive after so many pages
abbrev passed_at : Archive → ℕ → Archive
passed_at a i = record a { passed = i }

within : (l : List (Option Archive)) (i : ℕ) (a : Archive) → get_or l i None ≡ Some a → i < length l
within [] i a e = absurd cc
within (x ∷ l) zero a e = omega arith
within (x ∷ l) (suc i) a e = omega (arith, within l i a e)

-- ---- what an entry puts on a drive

-- the blocks of one entry
abbrev put_of : ℕ → Turned → Machine → List Block
put_of k t n = if is_at_drive k t.entry.actor then put_by (number_of t.entry.actor) t.machine n t.entry.reply else []

tape_cons : (shelf : Shelf) (m : Machine) (e : Entry) (h : List Entry) (k : ℕ)
    → tape shelf m (e ∷ h) k ≡ put_of k (record { machine = m; entry = e }) (state_after shelf m e) ++ tape shelf (state_after shelf m e) h k
tape_cons shelf m e h k =
    flat_map-cons (λ (t : Turned). put_of k t (state_after shelf t.machine t.entry)) (record { machine = m; entry = e }) (turned shelf (state_after shelf m e) h)

own_drive : (k : ℕ) → is_at_drive k (Archiver k) ≡ true
own_drive k = same_self k

put_own : (k : ℕ) (m n : Machine) (e : Entry) (reply : Reply) → e.actor ≡ Archiver k → e.reply ≡ reply → put_of k (record { machine = m; entry = e }) n ≡ put_by k m n reply
put_own k m n e reply by told =
    ap (λ (x : Actor). (if is_at_drive k x then put_by (number_of x) m n e.reply else [])) by
    ∙ ap (λ (b : Bool). (if b then put_by k m n e.reply else [])) (own_drive k)
    ∙ ap (λ (r : Reply). put_by k m n r) told

put_other : (k : ℕ) (m n : Machine) (e : Entry) → is_at_drive k e.actor ≡ false → put_of k (record { machine = m; entry = e }) n ≡ []
put_other k m n e other = ap (λ (b : Bool). (if b then put_by (number_of e.actor) m n e.reply else [])) other

-- ---- a turn of the archiver

turn_is : (shelf : Shelf) (m : Machine) (k : ℕ) (event : Event) (e : Entry) → m.stopped ≡ None → IsTurnOf k event e
    → turn shelf (given_by e.reply) m e.number e.actor e.event ≡ turn_of shelf (given_by e.reply) m e.number k event
turn_is shelf m k event e going is =
    let g = given_by e.reply in
    ap (λ (x : Actor). turn shelf g m e.number x e.event) is.0
    ∙ ap (λ (x : Event). turn shelf g m e.number (Archiver k) x) is.1
    ∙ ap (λ (s : Option ℕ). turn_unless s shelf g m e.number k event) going
    ∙ ap (λ (f : Option DeviceFault). faulted f m e.number (turn_of shelf g m e.number k event)) is.2

left_is : (m : Machine) (a : Archive) (i : ℕ) → left_of m (passed_at a i) ≡ drop i (pages_of m a)
unfolding pages_of
left_is m a i = refl

takes : (m : Machine) (k : ℕ) (a : Archive) (i : ℕ) (p : ℕ × ℕ) (rest : List (ℕ × ℕ)) → archive_of m k ≡ Some (passed_at a i) → a.broken ≡ None → drop i (pages_of m a) ≡ p ∷ rest
    → take_at m k (archive_of m k) ≡ (PageIs p.0 p.1, with_archive k (Some (passed_at a (i + 1))) m)
takes m k a i p rest own whole left =
    ap (λ (x : Option Archive). take_at m k x) own ∙ takes_page m k (passed_at a i) p rest whole (left_is m a i ∙ left)

ends : (m : Machine) (k : ℕ) (a : Archive) (i : ℕ) → archive_of m k ≡ Some (passed_at a i) → a.broken ≡ None → drop i (pages_of m a) ≡ []
    → (end_at m k (archive_of m k)).0 ≡ Archived a.number a.cut i
ends m k a i own whole left =
    ap (λ (x : Option Archive). (end_at m k x).0) own
    ∙ ap (λ (b : Option ℕ). (end_unless m k (passed_at a i) b).0) whole
    ∙ ap (λ (l : List (ℕ × ℕ)). (end_with m k (passed_at a i) (length l)).0) (left_is m a i ∙ left)

-- ---- the same blocks from a state that keeps the archive

page_same : (m n : Machine) (a : Archive) (index : ℕ) (p : ℕ × ℕ) → n.lasting.incarnation ≡ m.lasting.incarnation → page_upto n a.cut p.0 p.1 ≡ page_upto m a.cut p.0 p.1
    → archive_page n.lasting.incarnation a.number index (saved_at n a p.0 p.1) ≡ archive_page m.lasting.incarnation a.number index (saved_at m a p.0 p.1)
page_same m n a index p incarnation image =
    ap (λ (x : ℕ). archive_page x a.number index (saved_at n a p.0 p.1)) incarnation
    ∙ ap (λ (x : Page). archive_page m.lasting.incarnation a.number index (record { space = p.0; page = p.1; image = x })) image

blocks_same : (k : ℕ) (m n : Machine) (a : Archive) (index : ℕ) (l : List (ℕ × ℕ)) → AreIn a l → KeepsArchive k a m n → page_blocks n a index l ≡ page_blocks m a index l
blocks_same k m n a index [] are keeps = refl
blocks_same k m n a index (p ∷ rest) are keeps =
    ap (λ (b : Block). b ∷ page_blocks n a (index + 1) rest) (page_same m n a index p keeps.incarnation (keeps.images p.0 p.1 are.0))
    ∙ ap (λ (l : List Block). archive_page m.lasting.incarnation a.number index (saved_at m a p.0 p.1) ∷ l) (blocks_same k m n a (index + 1) rest are.1 keeps)

end_same : (k : ℕ) (m n : Machine) (a : Archive) (index : ℕ) → KeepsArchive k a m n → archive_end_at n trailer_kind index a ≡ archive_end_at m trailer_kind index a
end_same k m n a index keeps =
    ap (λ (x : ℕ). archive_end trailer_kind x a.number index a.cut a.low a.level (head_at n a) (config_of n)) keeps.incarnation
    ∙ ap (λ (c : Config). archive_end trailer_kind m.lasting.incarnation a.number index a.cut a.low a.level (record { spaces = a.spaces; text = config_text c }) c) keeps.config

-- the blocks that are due from a state on
abbrev due : Machine → Archive → ℕ → List (ℕ × ℕ) → List Block
due m a i left = page_blocks m a (i + 1) left ++ archive_end_at m trailer_kind (i + length left + 1) a ∷ []

due_same : (k : ℕ) (m n : Machine) (a : Archive) (i : ℕ) (left : List (ℕ × ℕ)) → AreIn a left → KeepsArchive k a m n → due n a i left ≡ due m a i left
due_same k m n a i left are keeps =
    ap (λ (l : List Block). l ++ archive_end_at n trailer_kind (i + length left + 1) a ∷ []) (blocks_same k m n a (i + 1) left are keeps)
    ∙ ap (λ (b : Block). page_blocks m a (i + 1) left ++ b ∷ []) (end_same k m n a (i + length left + 1) keeps)

-- ---- the run

-- from a state on, with these pages left
abbrev Due : Shelf → ℕ → Archive → Machine → ℕ → List (ℕ × ℕ) → List Entry → Type 0
Due shelf k a m i left h = tape shelf m h k ≡ due m a i left

ended : (shelf : Shelf) (k : ℕ) (a : Archive) (m : Machine) (i num : ℕ) (e : Entry) → archive_of m k ≡ Some (passed_at a i) → a.broken ≡ None → m.stopped ≡ None → drop i (pages_of m a) ≡ []
    → IsTurnOf k ArchiveEnd e → Steps shelf m num (e ∷ []) → Due shelf k a m i [] (e ∷ [])
ended shelf k a m i num e own whole going left is steps =
    let n = state_after shelf m e in
    let told : e.reply ≡ Archived a.number a.cut i =
    steps.1 ∙ ap (λ (x : ℕ). (turn shelf (given_by e.reply) m x e.actor e.event).0) (sym steps.0) ∙ ap (λ (r : Reply × Machine). r.0) (turn_is shelf m k ArchiveEnd e going is) ∙ ends m k a i own whole left in
    let put : put_of k (record { machine = m; entry = e }) n ≡ archive_end_at m trailer_kind (i + 1) a ∷ [] =
    put_own k m n e (Archived a.number a.cut i) is.0 told ∙ ap (λ (x : Option Archive). put_if (archive_end_at m trailer_kind (i + 1)) x) own in
    let same : i + 1 ≡ i + 0 + 1 = omega arith in
    tape_cons shelf m e [] k ∙ ap (λ (l : List Block). l ++ []) put ∙ ap (λ (x : ℕ). archive_end_at m trailer_kind x a ∷ []) same

took : (shelf : Shelf) (k : ℕ) (a : Archive) (m : Machine) (i num : ℕ) (p : ℕ × ℕ) (rest : List (ℕ × ℕ)) (e : Entry) → archive_of m k ≡ Some (passed_at a i) → a.broken ≡ None → m.stopped ≡ None
    → drop i (pages_of m a) ≡ p ∷ rest → IsTurnOf k ArchiveTurn e → e.number ≡ num → e.reply ≡ (turn shelf (given_by e.reply) m num e.actor e.event).0
    → (state_after shelf m e ≡ with_archive k (Some (passed_at a (i + 1))) m)
    × (put_of k (record { machine = m; entry = e }) (state_after shelf m e) ≡ archive_page m.lasting.incarnation a.number (i + 1) (saved_at m a p.0 p.1) ∷ [])
took shelf k a m i num p rest e own whole going left is numbered replied =
    let n = state_after shelf m e in
    let turns : turn shelf (given_by e.reply) m e.number e.actor e.event ≡ (PageIs p.0 p.1, with_archive k (Some (passed_at a (i + 1))) m) =
    turn_is shelf m k ArchiveTurn e going is ∙ takes m k a i p rest own whole left in
    let told : e.reply ≡ PageIs p.0 p.1 =
    replied ∙ ap (λ (x : ℕ). (turn shelf (given_by e.reply) m x e.actor e.event).0) (sym numbered) ∙ ap (λ (r : Reply × Machine). r.0) turns in (
      ap (λ (r : Reply × Machine). r.1) turns,
      put_own k m n e (PageIs p.0 p.1) is.0 told
          ∙ ap (λ (x : Option Archive). put_if (λ (b : Archive). archive_page m.lasting.incarnation b.number (b.passed + 1) (saved_at m b p.0 p.1)) x) own,
    )

own_after : (k : ℕ) (a : Archive) (m : Machine) (i : ℕ) → archive_of m k ≡ Some (passed_at a i) → archive_of (with_archive k (Some (passed_at a (i + 1))) m) k ≡ Some (passed_at a (i + 1))
own_after k a m i own = get_or-set_same m.archives (k - 1) (Some (passed_at a (i + 1))) None (within m.archives (k - 1) (passed_at a i) own)

pages_same : (m : Machine) (k : ℕ) (x : Option Archive) (a : Archive) → pages_of (with_archive k x m) a ≡ pages_of m a
unfolding pages_of
pages_same m k x a = refl

blocks_alike : (m : Machine) (k : ℕ) (x : Option Archive) (a : Archive) (index : ℕ) (l : List (ℕ × ℕ)) → page_blocks (with_archive k x m) a index l ≡ page_blocks m a index l
blocks_alike m k x a index [] = refl
blocks_alike m k x a index (p ∷ rest) = ap (λ (l : List Block). archive_page m.lasting.incarnation a.number index (saved_at m a p.0 p.1) ∷ l) (blocks_alike m k x a (index + 1) rest)

passed_knows : (shelf : Shelf) (k : ℕ) (a : Archive) (m : Machine) (e : Entry) (i : ℕ) → state_after shelf m e ≡ with_archive k (Some (passed_at a (i + 1))) m → KnowsSpaces m → KnowsSpaces (with_archive k (Some (passed_at a (i + 1))) m)
passed_knows shelf k a m e i after knows =
    subst (λ (n : Machine). KnowsSpaces n) after (turn_knows shelf (given_by e.reply) m e.number e.actor e.event knows)

pub run_tape : (shelf : Shelf) (k : ℕ) (a : Archive) (h : List Entry) (m : Machine) (i num : ℕ) (left : List (ℕ × ℕ)) → archive_of m k ≡ Some (passed_at a i) → a.broken ≡ None → m.stopped ≡ None
    → KnowsSpaces m → a.cut ≤ last_of m → AreIn a left → drop i (pages_of m a) ≡ left → Steps shelf m num h → RunsToEnd shelf k (length left) m h → Due shelf k a m i left h
run_tape shelf k a [] m i num left own whole going knows cut are is steps runs = absurd runs
run_tape shelf k a (e ∷ h) m i num [] own whole going knows cut are is steps (inl (by, none)) =
    subst (λ (l : List Entry). Due shelf k a m i [] (e ∷ l)) (sym none) (ended shelf k a m i num e own whole going is by (subst (λ (l : List Entry). Steps shelf m num (e ∷ l)) none steps))
run_tape shelf k a (e ∷ h) m i num [] own whole going knows cut are is steps (inr (beside, runs)) =
    let keeps = beside_keeps shelf k a (passed_at a i) m e beside own refl knows cut in
    let n = state_after shelf m e in
    tape_cons shelf m e h k ∙ ap (λ (l : List Block). l ++ tape shelf n h k) (put_other k m n e beside.other)
    ∙ run_tape shelf k a h n i (num + 1) [] (keeps.archive ∙ own) whole (keeps.stopped ∙ going) keeps.knows keeps.cut are (ap (λ (l : List (ℕ × ℕ)). drop i l) keeps.pages ∙ is) steps.2 runs
    ∙ due_same k m n a i [] are keeps
run_tape shelf k a (e ∷ h) m i num (p ∷ rest) own whole going knows cut are is steps (inl (by, runs)) =
    let n = state_after shelf m e in
    let x : Option Archive = Some (passed_at a (i + 1)) in
    let step = took shelf k a m i num p rest e own whole going is by steps.0 steps.1 in
    let further : drop (i + 1) (pages_of (with_archive k x m) a) ≡ rest =
    ap (λ (l : List (ℕ × ℕ)). drop (i + 1) l) (pages_same m k x a) ∙ sym (drop-drop 1 i (pages_of m a)) ∙ ap (λ (l : List (ℕ × ℕ)). drop 1 l) is in
    let behind : tape shelf n h k ≡ due m a (i + 1) rest =
    subst (λ (y : Machine). tape shelf y h k ≡ due m a (i + 1) rest) (sym step.0)
    (run_tape shelf k a h (with_archive k x m) (i + 1) (num + 1) rest (own_after k a m i own) whole going (passed_knows shelf k a m e i step.0 knows) cut are.1 further
    (subst (λ (y : Machine). Steps shelf y (num + 1) h) step.0 steps.2) (subst (λ (y : Machine). RunsToEnd shelf k (length rest) y h) step.0 runs)
    ∙ ap (λ (l : List Block). l ++ archive_end_at m trailer_kind (i + 1 + length rest + 1) a ∷ []) (blocks_alike m k x a (i + 1 + 1) rest)) in
    let count : i + 1 + length rest + 1 ≡ i + length (p ∷ rest) + 1 = omega arith in
    tape_cons shelf m e h k
    ∙ ap (λ (l : List Block). l ++ tape shelf n h k) step.1
    ∙ ap (λ (l : List Block). archive_page m.lasting.incarnation a.number (i + 1) (saved_at m a p.0 p.1) ∷ l) behind
    ∙ ap (λ (c : ℕ). page_blocks m a (i + 1) (p ∷ rest) ++ archive_end_at m trailer_kind c a ∷ []) count
run_tape shelf k a (e ∷ h) m i num (p ∷ rest) own whole going knows cut are is steps (inr (beside, runs)) =
    let keeps = beside_keeps shelf k a (passed_at a i) m e beside own refl knows cut in
    let n = state_after shelf m e in
    tape_cons shelf m e h k ∙ ap (λ (l : List Block). l ++ tape shelf n h k) (put_other k m n e beside.other)
    ∙ run_tape shelf k a h n i (num + 1) (p ∷ rest) (keeps.archive ∙ own) whole (keeps.stopped ∙ going) keeps.knows keeps.cut are (ap (λ (l : List (ℕ × ℕ)). drop i l) keeps.pages ∙ is) steps.2 runs
    ∙ due_same k m n a i (p ∷ rest) are keeps

pub run_rest : (shelf : Shelf) (k : ℕ) (a : Archive) (h : List Entry) (m : Machine) (num : ℕ) → HasNew k a m → Steps shelf m num h → RunsToEnd shelf k (length (pages_of m a)) m h → tape shelf m h k ≡ rest_blocks m a
run_rest shelf k a h m num new steps runs =
    let same : a ≡ passed_at a 0 = λ i. record a { passed = new.fresh i } in
    let count : 0 + length (pages_of m a) + 1 ≡ length (pages_of m a) + 1 = omega arith in
    run_tape shelf k a h m 0 num (pages_of m a) (new.own ∙ ap (λ (b : Archive). Some b) same) new.whole new.going new.knows new.cut (pages_in a m) refl steps runs
    ∙ ap (λ (c : ℕ). page_blocks m a 1 (pages_of m a) ++ archive_end_at m trailer_kind c a ∷ []) count

pub run_whole : (shelf : Shelf) (k : ℕ) (a : Archive) (e : Entry) (h : List Entry) (m : Machine) (num : ℕ) → Begins shelf k a m e → Steps shelf m num (e ∷ h)
    → RunsToEnd shelf k (length (pages_of (state_after shelf m e) a)) (state_after shelf m e) h → tape shelf m (e ∷ h) k ≡ whole_blocks (state_after shelf m e) a
run_whole shelf k a e h m num b steps runs =
    let n = state_after shelf m e in
    let r = start_at m k b.level b.names (archive_of m k) in
    let turns : turn shelf (given_by e.reply) m e.number e.actor e.event ≡ r = turn_is shelf m k (ArchiveStart b.level b.names) e b.going b.turn in
    let after : n ≡ r.1 = ap (λ (x : Reply × Machine). x.1) turns in
    let began : Began m k a r = start_began m k b.level b.names a b.within b.none (ap (λ (x : Machine). archive_of x k) (sym after) ∙ b.own) in
    let told : e.reply ≡ r.0 = steps.1 ∙ ap (λ (x : ℕ). (turn shelf (given_by e.reply) m x e.actor e.event).0) (sym steps.0) ∙ ap (λ (x : Reply × Machine). x.0) turns in
    let header : put_by k m n r.0 ≡ archive_end_at n header_kind 0 a ∷ [] =
    subst (λ (x : Machine). put_by k m x r.0 ≡ archive_end_at x header_kind 0 a ∷ []) (sym after) began.header in
    let cut : a.cut ≡ last_of n = began.cut ∙ ap (λ (x : Machine). last_of x) (sym after) in
    let new : HasNew k a n = record {
      own = b.own;
      fresh = began.passed;
      whole = began.broken;
      going = ap (λ (x : Machine). x.stopped) after ∙ began.stopped ∙ b.going;
      knows = turn_knows shelf (given_by e.reply) m e.number e.actor e.event b.knows;
      cut = omega (arith, cut);
    } in
    tape_cons shelf m e h k
    ∙ ap (λ (l : List Block). l ++ tape shelf n h k) (put_own k m n e r.0 b.turn.0 told ∙ header)
    ∙ ap (λ (l : List Block). archive_end_at n header_kind 0 a ∷ l) (run_rest shelf k a h n (num + 1) new steps.2 runs)
