-- What a record does to the pages that wait for an archive: it adds the page that it changes, where that has not passed.
use Rattle.std.specs.List.{range_with_len}
use Rattle.std.specs.Prelude.{Bool, List, [], drop, false, filter, flat_map, if◌then◌else◌, map, nat_lt, refl, true, ℕ, ◌+◌, ◌-◌, ◌||◌, ◌∷◌, ◌≡◌, ◌≤◌}
use Rattle.std.proofs.Common.{ap, arith, sym, ◌∙◌}
use Rattle.std.proofs.lemmas.Bool.{lt-ltb}
use Rattle.std.proofs.lemmas.List.{take-append-le}
use Rattle.ol_values.specs.declared.record.Record.{Record}
use Rattle.ol_values.specs.declared.record.Rid.{Rid}
use Rattle.ol_values.specs.Blocks.{Saved}
use Rattle.ol_values.specs.Config.{Config, data_pages}
use Rattle.ol_rules.specs.Journal.{stamp_after, touches}
use Rattle.ol_rules.specs.Start.{Start, last_behind, stamp_behind, start_page, upto}
use Rattle.ol_laws.proofs.PageLaws.{stamp_from-append}
use Rattle.ol_model.specs.Machine.{Archive, Fixed, Machine, Work, config_of, last_of, stamp_in}
use Rattle.ol_model.specs.Steps.{append, before_change, change_row}
use Rattle.ol_model.specs.Waiting.{left_of, pages_of, waiting}
use Rattle.ol_turn_laws.proofs.KeptLaws.{before_stays, before_work}
use Rattle.ol_turn_laws.proofs.WaitingLaws.{same_left}

-- ---- the pages left depend on the records up to the cut

abbrev left_by : Config → Start → List Record → Archive → List (ℕ × ℕ)
left_by c s first a =
    drop a.passed (flat_map (λ (v : Saved). map (λ p. let r : ℕ × ℕ = (v.space, p) in r) (filter (λ p. nat_lt v.base (stamp_behind s first v.space p)) (range_with_len 0 (data_pages c v.space)))) a.spaces)

left_is : (m : Machine) (a : Archive) → left_of m a ≡ left_by (config_of m) m.work.start (upto m.work.start m.work.records a.cut) a
unfolding pages_of
left_is m a = refl

pub left_appended : (r : Record) (m : Machine) (a : Archive) → a.cut ≤ last_of m → left_of (append r m) a ≡ left_of m a
left_appended r m a cut =
    left_is (append r m) a
    ∙ ap (λ (l : List Record). left_by (config_of m) m.work.start l a) (take-append-le (a.cut - m.work.start.last) m.work.records (r ∷ []) (omega (arith, cut)))
    ∙ sym (left_is m a)

-- ---- the page of the record has a stamp above the cut

stamp_appended : (r : Record) (m : Machine) (space page : ℕ) → stamp_in (append r m) space page ≡ stamp_after space page (stamp_in m space page) (last_of m + 1, r)
stamp_appended r m space page =
    stamp_from-append (start_page m.work.start space page).stamp (m.work.start.last + 1) m.work.records (r ∷ []) space page
    ∙ ap (λ (n : ℕ). stamp_after space page (stamp_in m space page) (n, r)) (omega arith)

added : (r : Record) (m : Machine) (a : Archive) (space page : ℕ) → a.cut ≤ last_of m
    → nat_lt a.cut (stamp_in (append r m) space page) ≡ (touches space page r || nat_lt a.cut (stamp_in m space page))
added r m a space page cut =
    ap (λ (n : ℕ). nat_lt a.cut n) (stamp_appended r m space page)
    ∙ elim (touches space page r) as (λ b. nat_lt a.cut (if b then last_of m + 1 else stamp_in m space page) ≡ (b || nat_lt a.cut (stamp_in m space page))) [
      | true ↦ lt-ltb a.cut (last_of m + 1) (omega (arith, cut))
      | false ↦ refl
    ]

pub waiting_appended : (r : Record) (m : Machine) (a : Archive) → a.cut ≤ last_of m
    → waiting (append r m) a ≡ filter (λ (p : ℕ × ℕ). touches p.0 p.1 r || nat_lt a.cut (stamp_in m p.0 p.1)) (left_of m a)
waiting_appended r m a cut =
    ap (λ (l : List (ℕ × ℕ)). filter (λ (p : ℕ × ℕ). nat_lt a.cut (stamp_in (append r m) p.0 p.1)) l) (left_appended r m a cut)
    ∙ ap (λ (test : ℕ × ℕ → Bool). filter test (left_of m a)) (λ i p. added r m a p.0 p.1 cut i)

-- ---- a change of a row

before_left : (n : ℕ) (p : ℕ × ℕ) (m : Machine) (a : Archive) → left_of (before_change n p m) a ≡ left_of m a
before_left n p m a =
    same_left m (before_change n p m) a (ap (λ (f : Fixed). f.config) (before_stays n p m).fixed) (ap (λ (w : Work). w.start) (before_work n p m)) (ap (λ (w : Work). w.records) (before_work n p m))

before_last : (n : ℕ) (p : ℕ × ℕ) (m : Machine) → last_of (before_change n p m) ≡ last_of m
before_last n p m = ap (λ (w : Work). last_behind w.start w.records) (before_work n p m)

pub left_changed : (n : ℕ) (rid : Rid) (r : Record) (m : Machine) (a : Archive) → a.cut ≤ last_of m → left_of (change_row n rid r m) a ≡ left_of m a
left_changed n rid r m a cut =
    let p : ℕ × ℕ = (rid.space, rid.page) in
    left_appended r (before_change n p m) a (omega (arith, cut, before_last n p m)) ∙ before_left n p m a

pub waiting_changed : (n : ℕ) (rid : Rid) (r : Record) (m : Machine) (a : Archive) → a.cut ≤ last_of m
    → waiting (change_row n rid r m) a ≡ filter (λ (p : ℕ × ℕ). touches p.0 p.1 r || nat_lt a.cut (stamp_in m p.0 p.1)) (left_of m a)
waiting_changed n rid r m a cut =
    let q : ℕ × ℕ = (rid.space, rid.page) in
    let ready = before_change n q m in
    waiting_appended r ready a (omega (arith, cut, before_last n q m))
    ∙ ap (λ (w : Work). filter (λ (p : ℕ × ℕ). touches p.0 p.1 r || nat_lt a.cut (stamp_behind w.start w.records p.0 p.1)) (left_of ready a)) (before_work n q m)
    ∙ ap (λ (l : List (ℕ × ℕ)). filter (λ (p : ℕ × ℕ). touches p.0 p.1 r || nat_lt a.cut (stamp_in m p.0 p.1)) l) (before_left n q m a)
