-- What a page that stands is read as, and what other bytes there are.
use Rattle.std.specs.Option.{option_map}
use Rattle.std.specs.Prelude.{Bool, Err, List, MatchBool, None, Option, Result, Some, false, is_some, length, nat_le, nat_lt, slice_index, true, ℕ, ◌&&◌, ◌*◌, ◌+◌, ◌<◌, ◌==◌, ◌≡◌}
use Rattle.std.proofs.Common.{ap, arith, inl, inr, refl, subst, sym, ◌∙◌}
use Rattle.std.proofs.lemmas.Bool.{and_parts, cases_eq}
use Rattle.std.proofs.lemmas.Bool.Decides.{nat_tests}
use Rattle.ol_values.specs.Config.{Config, log_pages}
use Rattle.ol_values.specs.LogPages.{LogPage}
use Rattle.ol_values.specs.declared.record.Record.{Record}
use Rattle.ol_record.specs.LogPages.{IsImage, IsLogPage, head_of, log_page_bytes, page_in}
use Rattle.ol_record.specs.PageReading.{page_at}
use Rattle.ol_record.specs.declared.head.LogHead.{LogHead}
use Rattle.ol_record.proofs.Fields.{IsBytes}
use Rattle.ol_record.proofs.Whole.{page_again, page_takes}
use Rattle.ol_rules.specs.Ring.{file_of}
use Rattle.ol_chunks.specs.Places.{lies_in, log_area}
use Rattle.ol_chunks.specs.declared.table.Area.{Area}
use Rattle.ol_ports.specs.Disk.{Past, page_list, seen}
use Rattle.ol_ports.proofs.DiskLaws.{rest-seen}
use Rattle.ol_log_places.specs.Places.{Closed, HasLog, Open, Place, place_in, places}
use Rattle.ol_log_places.specs.Runs.{Stands}
use Rattle.ol_log_places.specs.declared.heads.Stood.{Stood}
use Rattle.ol_log_places.proofs.PlaceLaws.{open_parts, place_shut}
use Rattle.ol_log_state.specs.RingState.{stood_holding, stood_in}
use Rattle.ol_log_state.specs.Uses.{head_holds}
use Rattle.ol_loglog.specs.PageReads.{HoldsPage, IsPageOf, IsSpelling, IsWrongPage, TellOnePage}
use Rattle.ol_loglog.specs.declared.reading.LogReadFault.{LogReadFault}
use Rattle.ol_loglog.specs.declared.reading.LogReadFault.TheVariants.{Bad, Failed}
use Rattle.ol_loglog.specs.Ready.{IsReady}
use Rattle.ol_loglog.specs.RingValue.{RingValue}
use Rattle.ol_loglog.proofs.HeadLaws.{found_stands, none_lost}
use Rattle.ol_loglog.proofs.Readies.{stand}

-- ---- by the bytes

some_head : (h k : LogHead) → Some h ≡ Some k → h ≡ k
some_head h k e = cc

-- bytes with a head
pub head_is : (bytes : List ℕ) (h : LogHead) → IsLogPage (page_in bytes) → IsImage bytes → h ≡ head_of (page_in bytes) → page_at bytes ≡ Some h
head_is bytes h is image same = ap page_at image ∙ page_again (slice_index bytes 0) (page_in bytes) is ∙ ap Some (sym same)

pub one_page : (bytes : List ℕ) (found head : LogHead) (b : Bool) → page_at bytes ≡ Some found → MatchBool b (TellOnePage found head) (TellOnePage found head → ⊥) → MatchBool b (IsPageOf head bytes) (IsWrongPage head bytes)
one_page bytes found head true is tells = record { found = found; is = is; tells = tells }
one_page bytes found head false is other = λ page. other (subst (λ h. TellOnePage h head) (some_head page.found found (sym page.is ∙ is)) page.tells)

pub spelling : (bytes : List ℕ) → IsBytes bytes → length bytes ≡ 2048 → IsSpelling bytes
spelling bytes fits long h is = let found = page_takes bytes h fits long is in (found.image, found.head)

-- no bytes of a page
pub no_page : (bytes : List ℕ) (head : LogHead) → IsBytes bytes → length bytes ≡ 2048 → ((gate : ℕ) (p : LogPage) → IsLogPage p → bytes ≡ log_page_bytes gate p → ⊥) → IsWrongPage head bytes
no_page bytes head fits long none page = let found = page_takes bytes page.found fits long page.is in none (slice_index bytes 0) (page_in bytes) found.page found.image

-- ---- by the disk

some_of : (f : LogHead → Stood) (o : Option LogHead) (s : Stood) → option_map f o ≡ Some s → (h : LogHead) × (o ≡ Some h) × (f h ≡ s)
some_of f None s e = absurd (let clash : None ≡ Some s = e in cc)
some_of f (Some h) s e = (h, refl, (let same : Some (f h) ≡ Some s = e in cc))

-- the page that a head of the ring tells, and where it stands
record Found (v : RingValue) (r : ℕ → Place) (s : Stood) : Type 0 where
  pub page : LogPage
  pub stands : Stands r (log_pages v.config) page
  pub head : head_of page ≡ s.head
  pub chunk : s.chunk ≡ (log_area v.config).chunk
  pub at : s.page ≡ (log_area v.config).first + file_of v.config s.head.uniq * v.config.log_file_pages + s.head.index

module _ (past : Past) (v : RingValue) (r : ℕ → Place) (floor : ℕ) (j : ℕ → Record) (ready : IsReady past v r floor j) (area : v.state.files.area ≡ log_area v.config) (position : ℕ) (s : Stood) (holds : stood_holding v.state position ≡ Some s) where
  found : Found v r s
  found =
      let h = some_of (stood_in v.state.files.area) _ s holds in
      let its = found_stands v.config r (head_holds position) v.state.files.uses h.0 ready.kept h.1 in
      let same : stood_in (log_area v.config) h.0 ≡ s = ap (λ (a : Area). stood_in a h.0) (sym area) ∙ h.2 in
      subst (Found v r) same (record { page = its.0; stands = its.1; head = its.2; chunk = refl; at = refl })

  page_is : s.page ≡ (log_area v.config).first + found.stands.place
  page_is =
      let t = found.stands in
      let k = stand none_lost v.config v.state v.gates past r floor j ready t.place found.page t.within t.is in
      let file : file_of v.config s.head.uniq * v.config.log_file_pages ≡ file_of v.config found.page.uniq * v.config.log_file_pages = ap (λ (x : LogHead). file_of v.config x.uniq * v.config.log_file_pages) (sym found.head) in
      let index : s.head.index ≡ found.page.index = ap (λ (x : LogHead). x.index) (sym found.head) in
      omega (arith, found.at, k.1, file, index)

  module _ (bytes : List ℕ) (read : bytes ≡ page_list (seen past) s.chunk s.page) where
    opened : place_in v.config found.stands.place bytes ≡ Open found.page
    unfolding places
    opened =
        let t = found.stands in
        let here = read ∙ ap (λ n. page_list (seen past) n s.page) found.chunk ∙ ap (page_list (seen past) (log_area v.config).chunk) page_is in
        ap (place_in v.config t.place) here ∙ ready.placed.each (seen past) (rest-seen past) t.place t.within ∙ t.is

    pub held_page : IsSpelling bytes → (h : LogHead) → page_at bytes ≡ Some h → HoldsPage v.config r j s.head bytes
    held_page spelled h is =
        let parts = open_parts v.config found.stands.place bytes found.page opened in
        let gate : slice_index bytes 0 ≡ 1 = elim (cases_eq (slice_index bytes 0) 1) [
          | inl one ↦ one
          | inr shut ↦ absurd (let clash : Closed ≡ Open found.page = sym (place_shut v.config found.stands.place bytes shut) ∙ opened in let p = found.page in cc)
        ] in
        record {
          page = found.page;
          stands = found.stands;
          head = found.head;
          spelled = (spelled h is).0 ∙ ap (λ n. log_page_bytes n (page_in bytes)) gate ∙ ap (log_page_bytes 1) parts.0;
          records = ready.logged.agrees found.page found.stands;
        }

    some_there : (o : Option LogHead) → is_some o ≡ true → (h : LogHead) × (o ≡ Some h)
    some_there None e = absurd (let clash : false ≡ true = e in cc)
    some_there (Some h) e = (h, refl)

    -- it is never wrong
    pub never_wrong : IsSpelling bytes → IsWrongPage s.head bytes → ⊥
    never_wrong spelled wrong =
        let parts = open_parts v.config found.stands.place bytes found.page opened in
        let there = some_there (page_at bytes) parts.1 in
        let same : there.0 ≡ s.head = (spelled there.0 there.1).1 ∙ ap head_of parts.0 ∙ found.head in
        wrong (record {
          found = there.0;
          is = there.1;
          tells = record { uniq = ap (λ h. h.uniq) same; index = ap (λ h. h.index) same; first = ap (λ h. h.first) same; count = ap (λ h. h.count) same };
        })

-- ---- the disk has it

pub inside_log : (c : Config) (sizes : ℕ → ℕ) (a : Area) (chunk page : ℕ) → a ≡ log_area c → HasLog c sizes → lies_in a chunk page ≡ true → page < sizes chunk
inside_log c sizes a chunk page area has inside =
    let here : lies_in (log_area c) chunk page ≡ true = ap (λ (x : Area). lies_in x chunk page) (sym area) ∙ inside in
    let parts = and_parts (chunk == (log_area c).chunk) (nat_le (log_area c).first page && nat_lt page ((log_area c).first + (log_area c).count * (log_area c).pages)) here in
    let mine : chunk ≡ (log_area c).chunk = (let test = parts.0 in grind (arith, nat_tests, test)) in
    let both = and_parts (nat_le (log_area c).first page) (nat_lt page ((log_area c).first + (log_area c).count * (log_area c).pages)) parts.1 in
    let below : page < (log_area c).first + (log_area c).count * (log_area c).pages = (let test = both.1 in grind (arith, nat_tests, test)) in
    subst (λ n. page < sizes n) (sym mine) (omega (arith, below, has))

-- an answer that names a page is no failure
pub bad_failed : {T : Type 0} (result : Result T LogReadFault) (chunk page : ℕ) → result ≡ Err (Bad chunk page) → result ≡ Err Failed → ⊥
bad_failed {T} result chunk page is failed = let clash : (let r : Result T LogReadFault = Err (Bad chunk page) in r) ≡ Err Failed = sym is ∙ failed in cc
