-- What a step of the machine leaves shown: the machine beside others, one record more, and another archive of one archiver.
use Rattle.std.specs.Prelude.{Bool, List, None, Option, Some, [], false, if◌then◌else◌, is_none, length, nat_lt, not, refl, slice_index_or, true, ℕ, ◌&&◌, ◌-◌, ◌∷◌, ◌≡◌, ◌≤◌, ◌||◌}
use Rattle.std.proofs.Common.{ap, arith, subst, sym, ◌∙◌}
use Rattle.std.proofs.lemmas.List.{take-append-le}
use Rattle.ol_values.specs.declared.record.Record.{Record}
use Rattle.ol_values.specs.Config.{Config}
use Rattle.ol_values.specs.Image.{page_bytes}
use Rattle.ol_rules.specs.Journal.{touches}
use Rattle.ol_rules.specs.Start.{Start, last_behind, page_behind, start_page, upto}
use Rattle.ol_model.specs.Machine.{Archive, Machine, archive_of, archives_space, config_of, last_of, stamp_in}
use Rattle.ol_model.specs.Steps.{append, is_page_in}
use Rattle.ol_model.specs.Waiting.{left_of, waiting, waiting_of}
use Rattle.ol_turn_laws.specs.Apart.{Apart}
use Rattle.ol_turn_laws.proofs.CaptureLaws.{waiting_appended}
use Rattle.ol_turn_laws.proofs.StepLaws.{appended_last}
use Rattle.ol_turn_laws.proofs.WaitingLaws.{same_waiting}
use Rattle.ol_before.specs.Images.{Ascend, Captures, Image, image_of}
use Rattle.ol_cursor.specs.Following.{CutsBehind, HasShortSpaces}
use Rattle.ol_cursor.proofs.FollowLaws.{follows_elsewhere}
use Rattle.ol_cursor.proofs.StayLaws.{appended_pages, same_pages}
use Rattle.ol_running.specs.declared.running.Running.{Running}
use Rattle.ol_running.specs.Running.{AreWaiting, IsRunning, ShowsArchives, image_at, running_of, waits}
use Rattle.ol_running.proofs.PlaceLaws.{kept_in}
use Rattle.ol_running.proofs.ShowLaws.{counted, waits_is}

-- ---- from one machine to another

-- what another machine shows, where configuration and start are the same
pub record Goes (l : List (Option Running)) (limit : ℕ) (b : Captures) (m n : Machine) : Type 0 where
  pub four : length l ≡ 4
  pub archivers : length n.archives ≡ 4
  pub config : config_of n ≡ config_of m
  pub start : n.work.start ≡ m.work.start
  pub running : (k : ℕ) → 1 ≤ k → IsRunning (running_of l k) n (archive_of n k)
  pub limit_is : b.limit ≡ limit
  pub ascend : Ascend b.held
  pub images : AreWaiting b.held n
  pub apart : Apart n

pub goes_on : (l l' : List (Option Running)) (b b' : Captures) (m n : Machine) → ShowsArchives l b m → Goes l' b.limit b' m n → ShowsArchives l' b' n
goes_on l l' b b' m n s g = record {
  four = g.four;
  archivers = g.archivers;
  running = g.running;
  limit = g.limit_is ∙ s.limit ∙ ap (λ (c : Config). c.image_limit) (sym g.config);
  ascend = g.ascend;
  images = g.images;
  count = counted l' b'.held n (record { running = g.running; ascend = g.ascend; images = g.images; apart = g.apart });
  apart = g.apart;
  short = subst HasShortSpaces (sym g.config) s.short;
  stamps = subst (λ (t : Start). (space page : ℕ) → (start_page t space page).stamp ≤ t.last) (sym g.start) s.stamps;
}

-- images of the pages that wait, where some are dropped, and no page waits anew
pub fewer : (held held' : List Image) (m n : Machine) (drops : ℕ → ℕ → Bool) → AreWaiting held m
    → ((k space page : ℕ) → 1 ≤ k → waits n k space page ≡ (not (drops space page) && waits m k space page))
    → ((k : ℕ) (a : Archive) (space page : ℕ) → 1 ≤ k → archive_of n k ≡ Some a → waits n k space page ≡ true → (o : Archive) × (archive_of m k ≡ Some o) × (image_at m o space page ≡ image_at n a space page))
    → ((space page : ℕ) → image_of held' space page ≡ (if drops space page then None else image_of held space page))
    → AreWaiting held' n
fewer held held' m n drops images now same found = record {
  there = λ k a space page from is there. there_by k a space page from is there (drops space page) refl;
  none = λ space page never. none_by space page never (drops space page) refl;
}
  where
    there_by : (k : ℕ) (a : Archive) (space page : ℕ) → 1 ≤ k → archive_of n k ≡ Some a → waits n k space page ≡ true → (b : Bool) → drops space page ≡ b → image_of held' space page ≡ Some (image_at n a space page)
    there_by k a space page from is there true drop =
        absurd (let never : waits n k space page ≡ false = now k space page from ∙ ap (λ (b : Bool). not b && waits m k space page) drop in cc (never, there))
    there_by k a space page from is there false keep =
        let before : waits m k space page ≡ true = sym (ap (λ (b : Bool). not b && waits m k space page) keep) ∙ sym (now k space page from) ∙ there in
        let o = same k a space page from is there in
        found space page
        ∙ ap (λ (b : Bool). if b then None else image_of held space page) keep
        ∙ images.there k o.0 space page from o.1 before
        ∙ ap (λ (bytes : List ℕ). Some bytes) o.2

    none_by : (space page : ℕ) → ((k : ℕ) → 1 ≤ k → waits n k space page ≡ false) → (b : Bool) → drops space page ≡ b → image_of held' space page ≡ None
    none_by space page never true drop = found space page ∙ ap (λ (b : Bool). if b then None else image_of held space page) drop
    none_by space page never false keep =
        found space page
        ∙ ap (λ (b : Bool). if b then None else image_of held space page) keep
        ∙ images.none space page (λ k from. sym (ap (λ (b : Bool). not b && waits m k space page) keep) ∙ sym (now k space page from) ∙ never k from)

-- ---- beside other turns

-- two machines with the same configuration, start and records
pub record Same (m n : Machine) : Type 0 where
  pub config : config_of n ≡ config_of m
  pub start : n.work.start ≡ m.work.start
  pub records : n.work.records ≡ m.work.records

pub same_image : (m n : Machine) (a : Archive) (space page : ℕ) → Same m n → image_at n a space page ≡ image_at m a space page
same_image m n a space page same =
    ap (λ (s : Start). page_bytes (page_behind s (upto s n.work.records a.cut) space page)) same.start
    ∙ ap (λ (l : List Record). page_bytes (page_behind m.work.start (upto m.work.start l a.cut) space page)) same.records

pub same_last : (m n : Machine) → Same m n → last_of n ≡ last_of m
same_last m n same = ap (λ (s : Start). last_behind s n.work.records) same.start ∙ ap (λ (l : List Record). last_behind m.work.start l) same.records

behind_elsewhere : (m n : Machine) (a : Archive) → Same m n → CutsBehind m a → CutsBehind n a
behind_elsewhere m n a same behind = record {
  last = subst (λ (s : Start). s.last ≤ a.cut) (sym same.start) behind.last;
  stamps = subst (λ (s : Start). (space page : ℕ) → (start_page s space page).stamp ≤ s.last) (sym same.start) behind.stamps;
}

pub runs_elsewhere : (r : Option Running) (m n : Machine) (o : Option Archive) → Same m n → IsRunning r m o → IsRunning r n o
runs_elsewhere None m n None same is = tt
runs_elsewhere None m n (Some a) same is = absurd is
runs_elsewhere (Some r) m n None same is = absurd is
runs_elsewhere (Some r) m n (Some a) same is = record {
  follows = follows_elsewhere r.cursor m n a (same_pages m n a same.config same.start same.records) is.follows;
  passed = is.passed;
  broken = is.broken;
  behind = behind_elsewhere m n a same is.behind;
  cut = omega (arith, is.cut, same_last m n same);
  count = is.count;
}

pub waits_elsewhere : (m n : Machine) (k space page : ℕ) → Same m n → archive_of n k ≡ archive_of m k → waits n k space page ≡ waits m k space page
waits_elsewhere m n k space page same is =
    ap (λ (pages : List (ℕ × ℕ)). is_page_in (space, page) pages) (same_waiting m n (archive_of n k) same.config same.start same.records ∙ ap (λ (o : Option Archive). waiting_of m o) is)

-- all archives stay
pub all_stay : (l : List (Option Running)) (b : Captures) (m n : Machine) → Same m n → length n.archives ≡ 4 → ((k : ℕ) → 1 ≤ k → archive_of n k ≡ archive_of m k) → ShowsArchives l b m → ShowsArchives l b n
all_stay l b m n same four archives s =
    goes_on l l b b m n s
    (record {
      four = s.four;
      archivers = four;
      config = same.config;
      start = same.start;
      running = λ k from. runs_elsewhere (running_of l k) m n (archive_of n k) same (subst (λ (o : Option Archive). IsRunning (running_of l k) m o) (sym (archives k from)) (s.running k from));
      limit_is = refl;
      ascend = s.ascend;
      images = fewer b.held b.held m n (λ space page. false) s.images (λ k space page from. waits_elsewhere m n k space page same (archives k from)) (λ k a space page from is there. (a, sym (archives k from) ∙ is, sym (same_image m n a space page same))) (λ space page. refl);
      apart = λ j k space from_j from_k there_j there_k.
          s.apart j k space from_j from_k (ap (λ (o : Option Archive). archives_space space o) (sym (archives j from_j)) ∙ there_j) (ap (λ (o : Option Archive). archives_space space o) (sym (archives k from_k)) ∙ there_k);
    })

pub beside_shown : (l : List (Option Running)) (b : Captures) (m n : Machine) → config_of n ≡ config_of m → n.work.start ≡ m.work.start → n.work.records ≡ m.work.records → n.archives ≡ m.archives
    → ShowsArchives l b m → ShowsArchives l b n
beside_shown l b m n config start records archives s =
    all_stay l b m n (record { config = config; start = start; records = records }) (ap (λ (x : List (Option Archive)). length x) archives ∙ s.archivers)
    (λ k from. ap (λ (x : List (Option Archive)). slice_index_or x (k - 1) None) archives) s

-- ---- one record more

pub runs_appended : (r : Option Running) (m : Machine) (o : Option Archive) (x : Record) → IsRunning r m o → IsRunning r (append x m) o
runs_appended None m None x is = tt
runs_appended None m (Some a) x is = absurd is
runs_appended (Some r) m None x is = absurd is
runs_appended (Some r) m (Some a) x is = record {
  follows = follows_elsewhere r.cursor m (append x m) a (appended_pages x m a is.cut) is.follows;
  passed = is.passed;
  broken = is.broken;
  behind = record { last = is.behind.last; stamps = is.behind.stamps };
  cut = omega (arith, is.cut, appended_last x m);
  count = is.count;
}

pub image_appended : (m : Machine) (a : Archive) (x : Record) (space page : ℕ) → a.cut ≤ last_of m → image_at (append x m) a space page ≡ image_at m a space page
image_appended m a x space page cut =
    ap (λ (l : List Record). page_bytes (page_behind m.work.start l space page)) (take-append-le (a.cut - m.work.start.last) m.work.records (x ∷ []) (omega (arith, cut)))

pub cut_of : (r : Option Running) (m : Machine) (a : Archive) → IsRunning r m (Some a) → a.cut ≤ last_of m
cut_of None m a is = absurd is
cut_of (Some r) m a is = is.cut

pub cut_at : (l : List (Option Running)) (b : Captures) (m : Machine) (k : ℕ) (a : Archive) → ShowsArchives l b m → 1 ≤ k → archive_of m k ≡ Some a → a.cut ≤ last_of m
cut_at l b m k a s from is = cut_of (running_of l k) m a (subst (λ (o : Option Archive). IsRunning (running_of l k) m o) is (s.running k from))

-- where it makes no page wait
pub append_shown : (l : List (Option Running)) (b : Captures) (m : Machine) (x : Record) → ((k space page : ℕ) → 1 ≤ k → waits (append x m) k space page ≡ waits m k space page)
    → ShowsArchives l b m → ShowsArchives l b (append x m)
append_shown l b m x same s =
    goes_on l l b b m (append x m) s
    (record {
      four = s.four;
      archivers = s.archivers;
      config = refl;
      start = refl;
      running = λ k from. runs_appended (running_of l k) m (archive_of m k) x (s.running k from);
      limit_is = refl;
      ascend = s.ascend;
      images = fewer b.held b.held m (append x m) (λ space page. false) s.images same (λ k a space page from is there. (a, is, sym (image_appended m a x space page (cut_at l b m k a s from is)))) (λ space page. refl);
      apart = s.apart;
    })

-- which pages wait behind it
pub waits_appended : (m : Machine) (a : Archive) (x : Record) (space page : ℕ) → a.cut ≤ last_of m
    → is_page_in (space, page) (waiting_of (append x m) (Some a)) ≡ (is_none a.broken && ((touches space page x || nat_lt a.cut (stamp_in m space page)) && is_page_in (space, page) (left_of m a)))
waits_appended m a x space page cut =
    elim (is_none a.broken) as (λ b. is_page_in (space, page) (let l : List (ℕ × ℕ) = (if b then waiting (append x m) a else []) in l) ≡ (b && ((touches space page x || nat_lt a.cut (stamp_in m space page)) && is_page_in (space, page) (left_of m a)))) [
      | true ↦
          ap (λ (l : List (ℕ × ℕ)). is_page_in (space, page) l) (waiting_appended x m a cut)
          ∙ kept_in (λ (p : ℕ × ℕ). touches p.0 p.1 x || nat_lt a.cut (stamp_in m p.0 p.1)) (space, page) (left_of m a)
      | false ↦ refl
    ]

pub untouched_shown : (l : List (Option Running)) (b : Captures) (m : Machine) (x : Record) → ((space page : ℕ) → touches space page x ≡ false) → ShowsArchives l b m → ShowsArchives l b (append x m)
untouched_shown l b m x none s = append_shown l b m x (λ k space page from. go k space page (archive_of m k) (s.running k from)) s
  where
    go : (k space page : ℕ) (o : Option Archive) → IsRunning (running_of l k) m o → is_page_in (space, page) (waiting_of (append x m) o) ≡ is_page_in (space, page) (waiting_of m o)
    go k space page None is = refl
    go k space page (Some a) is =
        waits_appended m a x space page (cut_of (running_of l k) m a is)
        ∙ ap (λ (b : Bool). is_none a.broken && ((b || nat_lt a.cut (stamp_in m space page)) && is_page_in (space, page) (left_of m a))) (none space page)
        ∙ sym (waits_is m a space page)
