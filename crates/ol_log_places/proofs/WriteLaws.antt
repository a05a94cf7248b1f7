-- What the writes of a log page, and of gates, leave of the places.
use Rattle.std.proofs.Common.{◌≡◌, ◌≢◌, ◌⊎◌, inl, inr, ⊎_elim, ℕ, zero, suc, ◌+◌, ◌*◌, ◌<◌, ◌≤◌, Bool, true, false, ◌==◌, nat_lt, List, [], ◌∷◌, length, get_or, drop, Result, Ok, Err, OnOk, is_ok, refl, sym, ◌∙◌, ap, subst, arith}
use Rattle.std.specs.Prelude.{nat_le}
use Rattle.std.proofs.lemmas.Bool.{and_parts, cases_eq}
use Rattle.std.proofs.lemmas.Bool.Decides.{nat_tests}
use Rattle.std.proofs.lemmas.Result.{on_ok_weaker}
use Rattle.ol_values.specs.Config.{Config, log_pages}
use Rattle.ol_values.specs.LogPages.{LogPage}
use Rattle.ol_record.specs.LogPages.{page_in}
use Rattle.ol_chunks.specs.Places.{log_area}
use Rattle.ol_chunks.specs.declared.table.Area.{Area}
use Rattle.ol_ports.specs.Disk.{Bytes, Past, Rest, Syncs, Writes, is_within, seen}
use Rattle.ol_ports.specs.Frames.{FramedAt, FramedIn, IsDurable, IsSettledIn, ReadsOutside, SameBut, TornFrom}
use Rattle.ol_ports.specs.Stops.{Stops}
use Rattle.ol_ports.proofs.DiskLaws.{rest-seen, within-behind, within-front}
use Rattle.ol_ports.proofs.DiskSteps.{sync_shut, write_rest, write_seen}
use Rattle.ol_ports.proofs.FrameLaws.{framed_wider, outside_durable, outside_write}
use Rattle.ol_ports.proofs.StopLaws.{stops_both, stops_weaker, stops_write}
use Rattle.ol_log_places.specs.Places.{Closed, IsPlaced, Open, Place, Shows, in_log, places}
use Rattle.ol_log_places.specs.Writes.{GatesAre, IsClosing, IsGate, IsPageOf, IsShutFile, MayBeClosed, MayHavePage, is_in_file, with_page, without_file}
use Rattle.ol_log_places.proofs.PlaceLaws.{closed_gate, gate_closed, in_the_log, other_place, place_same, written}

pub on_ok_if : {T E : Type 0} {A : Type 0} (r : Result T E) → (is_ok r ≡ true → A) → OnOk r A
on_ok_if (Ok x) f = f refl
on_ok_if (Err e) f = tt

-- a torn page of the log leaves all else
pub framed_torn : (past : Past) (c : Config) (k at n : ℕ) (d : Bytes) → k < log_pages c → TornFrom past (log_area c).chunk ((log_area c).first + k) at n d → FramedIn past (in_log c) d
framed_torn past c k at n d below t =
    framed_wider past (is_within (log_area c).chunk ((log_area c).first + k) at n) (λ b p i. in_log c b p) d (λ b p i out. in_the_log c k at n below b p i out) t

-- ---- calls on other parts

place_in_log : (c : Config) (k : ℕ) → k < log_pages c → in_log c (log_area c).chunk ((log_area c).first + k) ≡ true
place_in_log c k below = grind (arith, nat_tests)

pub others_shown : (past : Past) (c : Config) (r : ℕ → Place) (is_part : ℕ → ℕ → ℕ → Bool) (d : Bytes) → ((chunk page offset : ℕ) → in_log c chunk page ≡ true → is_part chunk page offset ≡ false) → IsPlaced past c r → FramedAt past is_part d → Shows c d r
others_shown past c r is_part d apart placed framed k below =
    place_same c d framed.origin k (λ i. framed.same (log_area c).chunk ((log_area c).first + k) i (apart (log_area c).chunk ((log_area c).first + k) i (place_in_log c k below))) ∙ placed.each framed.origin framed.rest k below

pub settled_placed : (past : Past) (c : Config) → IsSettledIn past (in_log c) → IsPlaced past c (places c (seen past))
settled_placed past c settled = record { each = λ d rest k below. place_same c d (seen past) k (λ i. settled d rest (log_area c).chunk ((log_area c).first + k) i (place_in_log c k below)) }

-- ---- the places with a page more

pub with_same : (r : ℕ → Place) (k : ℕ) (p : LogPage) → with_page r k p k ≡ Open p
unfolding with_page
with_same r k p = let t : (k == k) ≡ true = grind (arith, nat_tests) in rw t refl

pub with_other : (r : ℕ → Place) (k : ℕ) (p : LogPage) (j : ℕ) → j ≢ k → with_page r k p j ≡ r j
unfolding with_page
with_other r k p j other = let t : (j == k) ≡ false = grind (arith, nat_tests) in rw t refl

module _ (c : Config) (k : ℕ) (within : k < log_pages c) (r : ℕ → Place) (shut : r k ≡ Closed) where
  -- the body is written behind the closed gate
  pub staging : (old : Past) (n : ℕ) (d : Bytes) → IsPlaced old c r → TornFrom old (log_area c).chunk ((log_area c).first + k) 1 n d → Shows c d r
  staging old n d placed t j below = elim (cases_eq j k) [
    | inl same ↦ subst (λ (i : ℕ). places c d i ≡ r i) (sym same) (gate_closed c d k (λ gate. closed_gate c t.origin k (placed.each t.origin t.rest k within ∙ shut) (sym (kept) ∙ gate)) ∙ sym shut)
    | inr other ↦ other_place c k j 1 n t.origin d t.same other ∙ placed.each t.origin t.rest j below
  ]
    where
      kept : d (log_area c).chunk ((log_area c).first + k) 0 ≡ t.origin (log_area c).chunk ((log_area c).first + k) 0
      kept = t.same (log_area c).chunk ((log_area c).first + k) 0 (within-front (log_area c).chunk ((log_area c).first + k) 1 n 0 (omega arith))

  pub staged : (old new : Past) (n : ℕ) → IsPlaced old c r → ((d : Bytes) → Rest new d → TornFrom old (log_area c).chunk ((log_area c).first + k) 1 n d) → IsPlaced new c r
  staged old new n placed torn = record { each = λ d rest. staging old n d placed (torn d rest) }

  -- the gate is opened
  module _ (mid : Past) (bytes : List ℕ) (is : IsPageOf c k bytes) (placed : IsPlaced mid c r)
      (body : (d : Bytes) → Rest mid d → (i : ℕ) → i < 2047 → d (log_area c).chunk ((log_area c).first + k) (1 + i) ≡ get_or (drop 1 bytes) i 0) where
    pub opened : (d : Bytes) → TornFrom mid (log_area c).chunk ((log_area c).first + k) 0 1 d → d (log_area c).chunk ((log_area c).first + k) 0 ≡ 1 → Shows c d (with_page r k (page_in bytes))
    opened d t gate j below = elim (cases_eq j k) [
      | inl same ↦ subst (λ (i : ℕ). places c d i ≡ with_page r k (page_in bytes) i) (sym same) (written c d k bytes is.page is.image is.here gate stands ∙ sym (with_same r k (page_in bytes)))
      | inr other ↦ other_place c k j 0 1 t.origin d t.same other ∙ placed.each t.origin t.rest j below ∙ sym (with_other r k (page_in bytes) j other)
    ]
      where
        stands : (i : ℕ) → i < 2047 → d (log_area c).chunk ((log_area c).first + k) (1 + i) ≡ get_or (drop 1 bytes) i 0
        stands i lt = t.same (log_area c).chunk ((log_area c).first + k) (1 + i) (within-behind (log_area c).chunk ((log_area c).first + k) 0 1 (1 + i) (omega arith)) ∙ body t.origin t.rest i lt

    pub opening : (d : Bytes) → TornFrom mid (log_area c).chunk ((log_area c).first + k) 0 1 d → MayHavePage c r k (page_in bytes) d
    opening d t = elim (cases_eq (d (log_area c).chunk ((log_area c).first + k) 0) 1) [
      | inl gate ↦ inr (opened d t gate)
      | inr closed_ ↦ inl (still closed_)
    ]
      where
        still : d (log_area c).chunk ((log_area c).first + k) 0 ≢ 1 → Shows c d r
        still closed_ j below = elim (cases_eq j k) [
          | inl same ↦ subst (λ (i : ℕ). places c d i ≡ r i) (sym same) (gate_closed c d k closed_ ∙ sym shut)
          | inr other ↦ other_place c k j 0 1 t.origin d t.same other ∙ placed.each t.origin t.rest j below
        ]

-- the body stands in whatever a stop leaves
pub body_stands : (c : Config) (k : ℕ) (old mid : Past) (page body : List ℕ) → body ≡ drop 1 page → length body ≡ 2047 → IsDurable old mid (log_area c).chunk ((log_area c).first + k) 1 body → (d : Bytes) → Rest mid d → (i : ℕ) → i < 2047
    → d (log_area c).chunk ((log_area c).first + k) (1 + i) ≡ get_or (drop 1 page) i 0
body_stands c k old mid page body is size durable d rest i lt =
    durable.settled d rest (log_area c).chunk ((log_area c).first + k) (1 + i) (let e : ((log_area c).chunk == (log_area c).chunk) ≡ true = grind (arith, nat_tests) in e)
    ∙ durable.written i (omega arith) ∙ ap (λ (l : List ℕ). get_or l i 0) is

-- ---- closing

pub in_file : (c : Config) (file k : ℕ) → is_in_file c file k ≡ true → (file * c.log_file_pages ≤ k) × (k < file * c.log_file_pages + c.log_file_pages)
unfolding is_in_file
in_file c file k is =
    let both = and_parts (nat_le (file * c.log_file_pages) k) (nat_lt k (file * c.log_file_pages + c.log_file_pages)) is in
    let low = both.0 in
    let high = both.1 in
    (grind (arith, nat_tests), grind (arith, nat_tests))

pub file_in : (c : Config) (file k : ℕ) → file * c.log_file_pages ≤ k → k < file * c.log_file_pages + c.log_file_pages → is_in_file c file k ≡ true
unfolding is_in_file
file_in c file k low high =
    let a : nat_le (file * c.log_file_pages) k ≡ true = grind (arith, nat_tests) in
    let b : nat_lt k (file * c.log_file_pages + c.log_file_pages) ≡ true = grind (arith, nat_tests) in
    rw (a, b) refl

pub without_in : (c : Config) (file : ℕ) (r : ℕ → Place) (k : ℕ) → is_in_file c file k ≡ true → without_file c file r k ≡ Closed
unfolding without_file
without_in c file r k is = rw is refl

pub without_out : (c : Config) (file : ℕ) (r : ℕ → Place) (k : ℕ) → is_in_file c file k ≡ false → without_file c file r k ≡ r k
unfolding without_file
without_out c file r k is = rw is refl

module _ (c : Config) (r : ℕ → Place) (file : ℕ) where
  pub closing_may : (past : Past) (k : ℕ) → IsClosing past c r file k → (d : Bytes) → Rest past d → MayBeClosed c r file d
  closing_may past k is d rest j below = ⊎_elim (λ same. inl same) (λ shut. inr (shut.0, shut.2)) (is.rest d rest j below)

  pub placed_may : (past : Past) → IsPlaced past c r → (d : Bytes) → Rest past d → MayBeClosed c r file d
  placed_may past placed d rest j below = inl (placed.each d rest j below)

  -- before the first gate
  pub closing_none : (past : Past) → IsPlaced past c r → IsClosing past c r file (file * c.log_file_pages)
  closing_none past placed = record { rest = λ d rest j below. inl (placed.each d rest j below); shut = λ j lt is. absurd (omega (arith, (in_file c file j is).0)) }

  module _ (past : Past) (k : ℕ) (within : k < log_pages c) (is : IsClosing past c r file k) where
    before_k : (d : Bytes) → Rest past d → places c d k ≡ r k
    before_k d rest = ⊎_elim (λ same. same) (λ shut. absurd (omega (arith, shut.1))) (is.rest d rest k within)

    -- a gate that is closed already
    pub closing_skip : r k ≡ Closed → IsClosing past c r file (k + 1)
    closing_skip shut = record {
      rest = λ d rest j lt. ⊎_elim (λ same. inl same) (λ s. inr (s.0, omega (arith, s.1), s.2)) (is.rest d rest j lt);
      shut = λ j lt in_it. elim (cases_eq j k) [
        | inl same ↦ subst (λ (i : ℕ). places c (seen past) i ≡ Closed) (sym same) (before_k (seen past) (rest-seen past) ∙ shut)
        | inr other ↦ is.shut j (omega arith) in_it
      ];
    }

    -- a gate that is being closed
    gate_torn : (e d : Bytes) → SameBut (is_within (log_area c).chunk ((log_area c).first + k) 0 1) e d → places c e k ≢ Closed → (places c d k ≡ places c e k) ⊎ (places c d k ≡ Closed)
    gate_torn e d torn opened = elim (cases_eq (d (log_area c).chunk ((log_area c).first + k) 0) 1) [
      | inl gate ↦ elim (cases_eq (e (log_area c).chunk ((log_area c).first + k) 0) 1) [
        | inl was ↦ inl (place_same c d e k (λ i. at_offset i (gate ∙ sym was)))
        | inr was ↦ absurd (opened (gate_closed c e k was))
      ]
      | inr shut ↦ inr (gate_closed c d k shut)
    ]
      where
        at_offset : (i : ℕ) → d (log_area c).chunk ((log_area c).first + k) 0 ≡ e (log_area c).chunk ((log_area c).first + k) 0 → d (log_area c).chunk ((log_area c).first + k) i ≡ e (log_area c).chunk ((log_area c).first + k) i
        at_offset zero same = same
        at_offset (suc i) same = torn (log_area c).chunk ((log_area c).first + k) (suc i) (within-behind (log_area c).chunk ((log_area c).first + k) 0 1 (suc i) (omega arith))

    pub closing_torn : is_in_file c file k ≡ true → r k ≢ Closed → (d : Bytes) → TornFrom past (log_area c).chunk ((log_area c).first + k) 0 1 d → (j : ℕ) → j < log_pages c → (places c d j ≡ r j) ⊎ ((is_in_file c file j ≡ true) × (j < k + 1) × (places c d j ≡ Closed))
    closing_torn in_it is_open d t j lt = elim (cases_eq j k) [
      | inl same ↦ subst (λ (i : ℕ). (places c d i ≡ r i) ⊎ ((is_in_file c file i ≡ true) × (i < k + 1) × (places c d i ≡ Closed))) (sym same)
          (let was = before_k t.origin t.rest in ⊎_elim (λ kept. inl (kept ∙ was)) (λ shut. inr (in_it, omega arith, shut)) (gate_torn t.origin d t.same (λ e. is_open (sym was ∙ e))))
      | inr other ↦ let e = other_place c k j 0 1 t.origin d t.same other in ⊎_elim (λ kept. inl (e ∙ kept)) (λ shut. inr (shut.0, omega (arith, shut.1), e ∙ shut.2)) (is.rest t.origin t.rest j lt)
    ]

    pub may_torn : is_in_file c file k ≡ true → r k ≢ Closed → (d : Bytes) → TornFrom past (log_area c).chunk ((log_area c).first + k) 0 1 d → MayBeClosed c r file d
    may_torn in_it is_open d t j lt = ⊎_elim (λ same. inl same) (λ s. inr (s.0, s.2)) (closing_torn in_it is_open d t j lt)

    pub closing_next : {E : Type 0} (new : Past) (result : Result Unit E) → is_in_file c file k ≡ true → r k ≢ Closed → Writes past new (log_area c).chunk ((log_area c).first + k) 0 (0 ∷ []) result → is_ok result ≡ true → IsClosing new c r file (k + 1)
    closing_next new result in_it is_open w good =
        let after = write_seen past new (log_area c).chunk ((log_area c).first + k) 0 (0 ∷ []) result w good in
        record {
          rest = λ d rest. closing_torn in_it is_open d (write_rest past new (log_area c).chunk ((log_area c).first + k) 0 (0 ∷ []) result w d rest);
          shut = λ j lt in_it2. elim (cases_eq j k) [
            | inl same ↦ subst (λ (i : ℕ). places c (seen new) i ≡ Closed) (sym same) (gate_closed c (seen new) k (λ one. let zero_gate : seen new (log_area c).chunk ((log_area c).first + k) 0 ≡ 0 = after.1 0 (omega arith) in absurd (omega arith)))
            | inr other ↦ other_place c k j 0 1 (seen past) (seen new) after.0 other ∙ is.shut j (omega arith) in_it2
          ];
        }

  -- all gates of the file are closed, as the disk reads
  pub closing_shows : (past : Past) (k : ℕ) → file * c.log_file_pages + c.log_file_pages ≤ k → IsClosing past c r file k → Shows c (seen past) (without_file c file r)
  closing_shows past k all is j below = by_file (is_in_file c file j) refl
    where
      by_file : (b : Bool) → is_in_file c file j ≡ b → places c (seen past) j ≡ without_file c file r j
      by_file true in_it = is.shut j (omega (arith, all, (in_file c file j in_it).1)) in_it ∙ sym (without_in c file r j in_it)
      by_file false out = ⊎_elim (λ same. same) (λ s. absurd (let clash : false ≡ true = sym out ∙ s.0 in cc)) (is.rest (seen past) (rest-seen past) j below) ∙ sym (without_out c file r j out)

  -- and after a sync in whatever a stop leaves
  pub closed_synced : {E : Type 0} (mid new : Past) (result : Result Unit E) → Shows c (seen mid) (without_file c file r) → Syncs mid new (log_area c).chunk result → OnOk result (IsPlaced new c (without_file c file r))
  closed_synced mid new result shows s = on_ok_if result (λ good. record { each = λ d rest j below. place_same c d (seen mid) j (λ i. sync_shut mid new (log_area c).chunk result s good d rest ((log_area c).first + j) i) ∙ shows j below })

  -- where no gate of the file is open, nothing is to be done
  pub closed_already : (past : Past) (gates : List Bool) → length gates ≡ log_pages c → IsPlaced past c r → GatesAre gates r → IsShutFile c file gates → IsPlaced past c (without_file c file r)
  closed_already past gates size placed are shut = record { each = λ d rest j below. placed.each d rest j below ∙ by_file j below (is_in_file c file j) refl }
    where
      by_file : (j : ℕ) → j < log_pages c → (b : Bool) → is_in_file c file j ≡ b → r j ≡ without_file c file r j
      by_file j below false out = sym (without_out c file r j out)
      by_file j below true in_it = subst (λ b. IsGate b (r j)) (shut j in_it) (are j (omega arith)) ∙ sym (without_in c file r j in_it)

-- ---- the calls of the writes

module _ (c : Config) (k : ℕ) (within : k < log_pages c) where
  pub torn_framed : (old new : Past) (at n : ℕ) → Stops old new (TornFrom old (log_area c).chunk ((log_area c).first + k) at n) → Stops old new (FramedIn old (in_log c))
  torn_framed old new at n s = stops_weaker _ _ _ _ (λ d t. framed_torn old c k at n d within t) s

  pub durable_outside : (old new : Past) (at : ℕ) (bytes : List ℕ) → IsDurable old new (log_area c).chunk ((log_area c).first + k) at bytes → ReadsOutside old new (in_log c)
  durable_outside old new at bytes durable = outside_durable old new (in_log c) (log_area c).chunk ((log_area c).first + k) at bytes durable (in_the_log c k at (length bytes) within)

  module _ (r : ℕ → Place) (shut : r k ≡ Closed) (page : List ℕ) (is : IsPageOf c k page) (old mid : Past) (placed : IsPlaced old c r) where
    -- the body alone was written
    pub body_stops : (n : ℕ) → Stops old mid (TornFrom old (log_area c).chunk ((log_area c).first + k) 1 n) → Stops old mid (MayHavePage c r k (page_in page))
    body_stops n s = stops_weaker _ _ _ _ (λ d t. inl (staging c k within r shut old n d placed t)) s

    -- and then the gate
    module _ (body : List ℕ) (back : body ≡ drop 1 page) (size : length body ≡ 2047) (first : Stops old mid (TornFrom old (log_area c).chunk ((log_area c).first + k) 1 (length body))) (durable : IsDurable old mid (log_area c).chunk ((log_area c).first + k) 1 body) where
      placed_mid : IsPlaced mid c r
      placed_mid = staged c k within r shut old mid (length body) placed first.behind

      stands_mid : (d : Bytes) → Rest mid d → (i : ℕ) → i < 2047 → d (log_area c).chunk ((log_area c).first + k) (1 + i) ≡ get_or (drop 1 page) i 0
      stands_mid = body_stands c k old mid page body back size durable

      pub gate_stops : (new : Past) → Stops mid new (TornFrom mid (log_area c).chunk ((log_area c).first + k) 0 1) → Stops old new (MayHavePage c r k (page_in page))
      gate_stops new second = stops_both _ _ _ _ (body_stops (length body) first) (stops_weaker _ _ _ _ (λ d t. opening c k within r shut mid page is placed_mid stands_mid d t) second)

      pub gate_open : {E : Type 0} (new : Past) (result : Result Unit E) → Stops mid new (TornFrom mid (log_area c).chunk ((log_area c).first + k) 0 1) → OnOk result (IsDurable mid new (log_area c).chunk ((log_area c).first + k) 0 (1 ∷ [])) → OnOk result (IsPlaced new c (with_page r k (page_in page)))
      gate_open new result second done = on_ok_weaker result (λ gate. let p : IsPlaced new c (with_page r k (page_in page)) = record { each = λ d rest. opened c k within r shut mid page is placed_mid stands_mid d (second.behind d rest) (settled_gate d rest gate) } in p) done
        where
          settled_gate : (d : Bytes) → Rest new d → IsDurable mid new (log_area c).chunk ((log_area c).first + k) 0 (1 ∷ []) → d (log_area c).chunk ((log_area c).first + k) 0 ≡ 1
          settled_gate d rest gate = gate.settled d rest (log_area c).chunk ((log_area c).first + k) 0 (let e : ((log_area c).chunk == (log_area c).chunk) ≡ true = grind (arith, nat_tests) in e) ∙ gate.written 0 (omega arith)

  -- a gate is closed, where the area of the log is as the code has it
  module _ {E : Type 0} (a : Area) (is_area : a ≡ log_area c) (past new : Past) (result : Result Unit E) (w : Writes past new a.chunk (a.first + k) 0 (0 ∷ []) result) where
    wrote : Writes past new (log_area c).chunk ((log_area c).first + k) 0 (0 ∷ []) result
    wrote = subst (λ (x : Area). Writes past new x.chunk (x.first + k) 0 (0 ∷ []) result) is_area w

    pub close_framed : Stops past new (FramedIn past (in_log c))
    close_framed = torn_framed past new 0 1 (stops_write _ _ _ _ _ _ _ wrote)

    pub close_outside : OnOk result (ReadsOutside past new (in_log c))
    close_outside = on_ok_if result (λ good. outside_write past new (in_log c) (log_area c).chunk ((log_area c).first + k) 0 (0 ∷ []) result wrote good (in_the_log c k 0 1 within))

    module _ (r : ℕ → Place) (file : ℕ) (closing : IsClosing past c r file k) (in_it : is_in_file c file k ≡ true) (is_open : r k ≢ Closed) where
      pub close_stops : Stops past new (MayBeClosed c r file)
      close_stops = stops_weaker _ _ _ _ (λ d t. may_torn c r file past k within closing in_it is_open d t) (stops_write _ _ _ _ _ _ _ wrote)

      pub close_next : OnOk result (IsClosing new c r file (k + 1))
      close_next = on_ok_if result (λ good. closing_next c r file past k within closing new result in_it is_open wrote good)
