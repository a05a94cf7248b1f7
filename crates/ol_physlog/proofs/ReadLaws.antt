-- What was read of a disk, an entry further.
use Rattle.std.proofs.Common.{◌≡◌, inl, inr, ⊎_elim, ℕ, suc, ◌+◌, ◌*◌, ◌<◌, ◌≤◌, Bool, true, false, ◌==◌, List, [], ◌∷◌, ◌++◌, get_or, length, refl, sym, ◌∙◌, ap, subst, arith, Result, Ok, Err, OnOk}
use Rattle.std.specs.Prelude.{IsErrOf, slice_index}
use Rattle.std.proofs.lemmas.Bool.{cases_eq}
use Rattle.std.proofs.lemmas.Bool.Decides.{nat_tests}
use Rattle.ol_values.specs.Config.{Config}
use Rattle.ol_chunks.specs.Places.{physical_area}
use Rattle.ol_chunks.specs.declared.table.Area.{Area}
use Rattle.ol_ports.specs.Causes.{HasChunkCause, HasFailed}
use Rattle.ol_ports.specs.Disk.{Bytes, page_list}
use Rattle.ol_physlog.specs.Heads.{head_in}
use Rattle.ol_physlog.specs.Places.{Bad, Counts, EntryPlace, Idle, entry_at, entry_of, head_list, image_list, in_physical, is_open_at}
use Rattle.ol_physlog.specs.Reading.{Entry, Found, HasReadCause, IsFound, IsHeadAt, IsRefused, Tells, entries_below, entries_of, found_place, has_found, nothing_found, with_counting, with_entry, with_other}
use Rattle.ol_physlog.specs.States.{image_at, no_place, same_page}
use Rattle.ol_physlog.specs.declared.head.Head.{Head}
use Rattle.ol_physlog.specs.declared.place.Place.{Place}
use Rattle.ol_physlog.specs.declared.reading.PhysFault.{PhysFault}
use Rattle.ol_physlog.specs.declared.reading.PhysFault.TheVariants.{DiskFault}
use Rattle.ol_physlog.proofs.FoundLaws.{entries_more}
use Rattle.ol_physlog.proofs.Lists.{at_old, grown, last_item, none_at, one_page, place_of_index, some_at}
use Rattle.ol_physlog.proofs.PlaceLaws.{counting_entry, first_of, gate_open}

-- an entry, by its head
pub entry_by : (c : Config) (a : Area) (g : ℕ) (d : Bytes) (k : ℕ) (h : Head) → head_in c g (head_list a d k) ≡ h → entry_at c a g d k ≡ entry_of h (image_list a d k)
unfolding entry_at
entry_by c a g d k h is = ap (λ (x : Head). entry_of x (image_list a d k)) is

pub tells_none : (c : Config) (a : Area) (g : ℕ) (d : Bytes) → Tells c a g d nothing_found
unfolding entries_below entries_of
tells_none c a g d = record {
  counts = λ i lt. absurd (omega (arith, lt));
  idle = λ i lt. absurd (omega (arith, lt));
  gates = λ k lt. absurd (omega (arith, lt));
  entries = refl;
}

module _ (c : Config) (a : Area) (g : ℕ) (d : Bytes) (f : Found) (is : IsFound f) (tells : Tells c a g d f) where
  -- the counting entries, with the next
  more_entries : (e : EntryPlace) (b : Bool) → entry_at c a g d (length f.gates) ≡ e → entries_below c a g d (length (f.gates ++ b ∷ [])) ≡ with_entry (length f.gates) e (entries_below c a g d (length f.gates))
  unfolding entries_below
  more_entries e b at =
      let size : length (f.gates ++ b ∷ []) ≡ suc (length f.gates) = omega (arith, grown f.gates b) in
      ap (λ (n : ℕ). entries_below c a g d n) size ∙ ap (λ (x : EntryPlace). with_entry (length f.gates) x (entries_below c a g d (length f.gates))) at

  more_gates : (b : Bool) → is_open_at a d (length f.gates) ≡ b → (k : ℕ) → k < length (f.gates ++ b ∷ []) → is_open_at a d k ≡ get_or (f.gates ++ b ∷ []) k false
  more_gates b is_b k lt =
      ⊎_elim (λ old. tells.gates k old ∙ sym (at_old f.gates b false k old)) (λ at. ap (λ (n : ℕ). is_open_at a d n) at ∙ is_b ∙ sym (ap (λ (n : ℕ). get_or (f.gates ++ b ∷ []) n false) at ∙ last_item f.gates b false)) (place_of_index f.gates b k lt)

  pub tells_other : (b : Bool) → is_open_at a d (length f.gates) ≡ b → entry_at c a g d (length f.gates) ≡ Idle → Tells c a g d (with_other f b)
  tells_other b is_b at = record {
    counts = tells.counts;
    idle = λ i lt.
        ⊎_elim (λ old. ap (λ (n : ℕ). entry_at c a g d n) (at_old f.others (length f.gates) 0 i old) ∙ tells.idle i old)
        (λ last. ap (λ (n : ℕ). entry_at c a g d n) (ap (λ (n : ℕ). get_or (f.others ++ length f.gates ∷ []) n 0) last ∙ last_item f.others (length f.gates) 0) ∙ at) (place_of_index f.others (length f.gates) i lt);
    gates = more_gates b is_b;
    entries = tells.entries ∙ sym (more_entries Idle b at);
  }

  pub tells_counting : (place : Place) (image : List ℕ) → entry_at c a g d (length f.gates) ≡ Counts place image → Tells c a g d (with_counting f place image)
  tells_counting place image at = record {
    counts = λ i lt.
        ⊎_elim
        (λ old.
        ap (λ (n : ℕ). entry_at c a g d n) (at_old f.numbers (length f.gates) 0 i old)
        ∙ tells.counts i old
        ∙ ap (λ (p : Place). Counts p (image_at f.images i)) (sym (at_old f.places place no_place i (omega (arith, old, is.paired))))
        ∙ ap (λ (l : List ℕ). Counts (get_or (f.places ++ place ∷ []) i no_place) l) (sym (at_old f.images image [] i (omega (arith, old, is.imaged)))))
        (λ last.
        ap (λ (n : ℕ). entry_at c a g d n) (ap (λ (n : ℕ). get_or (f.numbers ++ length f.gates ∷ []) n 0) last ∙ last_item f.numbers (length f.gates) 0)
        ∙ at
        ∙ ap (λ (p : Place). Counts p image) (sym (ap (λ (n : ℕ). get_or (f.places ++ place ∷ []) n no_place) (last ∙ sym is.paired) ∙ last_item f.places place no_place))
        ∙ ap (λ (l : List ℕ). Counts (get_or (f.places ++ place ∷ []) i no_place) l) (sym (ap (λ (n : ℕ). get_or (f.images ++ image ∷ []) n []) (last ∙ sym is.imaged) ∙ last_item f.images image [])))
        (place_of_index f.numbers (length f.gates) i lt);
    idle = tells.idle;
    gates = more_gates true (gate_open a d (length f.gates) (counting_entry c a g d (length f.gates) place image at).0);
    entries = entries_more f.numbers f.places f.images (length f.gates) place image is.paired is.imaged ∙ ap (λ (l : List Entry). l ++ record { number = length f.gates; place = place; image = image } ∷ []) tells.entries ∙ sym (more_entries (Counts place image) true at);
  }

  -- ---- refusals of the next entry

  pub refused_twice : (place : Place) (image : List ℕ) → entry_at c a g d (length f.gates) ≡ Counts place image → has_found f place ≡ true → IsRefused c a g d (length f.gates)
  refused_twice place image at has =
      let old = some_at (same_page place) f.places no_place has in
      let same : place ≡ found_place f old.0 = one_page place (found_place f old.0) old.2 in
      let inside : old.0 < length f.numbers = omega (arith, old.1, is.paired) in
      inr (slice_index f.numbers old.0, place, image_at f.images old.0, image, is.numbers old.0 inside, tells.counts old.0 inside ∙ ap (λ (p : Place). Counts p (image_at f.images old.0)) (sym same), at)

  pub good_idle : entry_at c a g d (length f.gates) ≡ Idle → IsRefused c a g d (length f.gates) → ⊥
  good_idle at (inl bad) = let e : Idle ≡ Bad = sym at ∙ bad in cc
  good_idle at (inr (earlier, place, old, new, lt, first, second)) = let e : Idle ≡ Counts place new = sym at ∙ second in cc

  counts_place : (p q : Place) (l m : List ℕ) → Counts p l ≡ Counts q m → p ≡ q
  counts_place p q l m e = cc

  pub good_counting : (place : Place) (image : List ℕ) → entry_at c a g d (length f.gates) ≡ Counts place image → has_found f place ≡ false → IsRefused c a g d (length f.gates) → ⊥
  good_counting place image at fresh (inl bad) = let e : Counts place image ≡ Bad = sym at ∙ bad in cc
  good_counting place image at fresh (inr (earlier, other, old, new, lt, first, second)) =
      let one : place ≡ other = counts_place place other image new (sym at ∙ second) in
      ⊎_elim (λ h.
      let here : Counts (found_place f h.0) (image_at f.images h.0) ≡ Counts other old = sym (tells.counts h.0 h.1) ∙ ap (λ (n : ℕ). entry_at c a g d n) h.2 ∙ first in
      let same : found_place f h.0 ≡ place = counts_place _ _ _ _ here ∙ sym one in
      let never : same_page place (found_place f h.0) ≡ false = none_at (same_page place) f.places h.0 no_place fresh (omega (arith, h.1, is.paired)) in
      let clash : same_page place place ≡ false = ap (λ (p : Place). same_page place p) (sym same) ∙ never in
      itself place clash)
      (λ h. let clash : Idle ≡ Counts other old = sym (tells.idle h.0 h.1) ∙ ap (λ (n : ℕ). entry_at c a g d n) h.2 ∙ first in cc) (is.all earlier lt)
    where
      itself : (p : Place) → same_page p p ≡ false → ⊥
      itself p e = let is_same : same_page p p ≡ true = grind (arith, nat_tests) in let clash : true ≡ false = sym is_same ∙ e in cc

-- ---- faults

pub read_failed : {T E : Type 0} (c : Config) (a : Area) → a ≡ physical_area c → (before now : ℕ → ℕ) (e : E) → HasChunkCause {T = Unit {0}} {E = E} a.chunk before now (Err e) → HasReadCause {T = T} c before now (Err (DiskFault a.chunk))
read_failed c a is_area before now e cause = record {
  later = cause.later;
  fault = λ chunk is. let same : a.chunk ≡ chunk = cc in (sym same ∙ ap (λ (x : Area). x.chunk) is_area, subst (λ (n : ℕ). HasFailed n before now) same (record { later = cause.later a.chunk; rose = cause.failed; others = cause.others }));
  kept = λ none. absurd (none a.chunk refl);
}

-- ---- as the calls name pages

pub head_here : (c : Config) (a : Area) → a ≡ physical_area c → (d : Bytes) (n k : ℕ) → n ≡ k → (bytes : List ℕ) → bytes ≡ page_list d a.chunk (a.first + 2 * n) → bytes ≡ head_list (physical_area c) d k
head_here c a is_area d n k same bytes is =
    is ∙ ap (λ (m : ℕ). page_list d a.chunk (a.first + 2 * m)) same ∙ ap (λ (x : Area). head_list x d k) is_area

pub first_open : (a : Area) (d : Bytes) (k : ℕ) (bytes : List ℕ) → bytes ≡ head_list a d k → is_open_at a d k ≡ (slice_index bytes 0 == 1)
first_open a d k bytes is = ap (λ (b : ℕ). b == 1) (sym (ap (λ (l : List ℕ). slice_index l 0) is ∙ first_of a d k))

pub entry_read : (c : Config) (a : Area) (g : ℕ) (d : Bytes) (k : ℕ) (bytes : List ℕ) (h r : Head) → bytes ≡ head_list a d k → r ≡ head_in c g bytes → r ≡ h → entry_at c a g d k ≡ entry_of h (image_list a d k)
entry_read c a g d k bytes h r is result at = entry_by c a g d k h (sym (ap (λ (l : List ℕ). head_in c g l) is) ∙ sym result ∙ at)

pub on_ok_both : {T E : Type 0} {A B C : Type 0} (r : Result T E) → (A → B → C) → OnOk r A → OnOk r B → OnOk r C
on_ok_both (Ok x) f a b = f a b
on_ok_both (Err e) f a b = tt

-- ---- all entries

pub good_more : (c : Config) (g : ℕ) (d : Bytes) (n : ℕ) → ((k : ℕ) → k < n → IsRefused c (physical_area c) g d k → ⊥) → (IsRefused c (physical_area c) g d n → ⊥) → (k : ℕ) → k < n + 1 → IsRefused c (physical_area c) g d k → ⊥
good_more c g d n before here k lt refused = elim (cases_eq k n) [ inl same ↦ here (subst (λ (x : ℕ). IsRefused c (physical_area c) g d x) same refused) | inr other ↦ before k (omega (arith, lt, other)) refused ]

fault_is : {T E : Type 0} (fault e : E) → IsErrOf {T = T} {E = E} (Err fault) e → fault ≡ e
fault_is fault e same = cc

-- an error goes on in another result
pub err_again : {T U E : Type 0} (fault e : E) → IsErrOf {T = T} {E = E} (Err fault) e → IsErrOf {T = U} {E = E} (Err fault) e
err_again {T = T} fault e same = ap Err (fault_is {T = T} fault e same)

pub cause_again : {T U : Type 0} (c : Config) (before mid now : ℕ → ℕ) (fault : PhysFault) → mid ≡ before → HasReadCause {T = T} c mid now (Err fault) → HasReadCause {T = U} c before now (Err fault)
cause_again {T} {U} c before mid now fault same cause = subst (λ (b : ℕ → ℕ). HasReadCause {T = U} c b now (Err fault)) same (record {
  later = cause.later;
  fault = λ chunk is. cause.fault chunk (err_again {T = U} {U = T} fault (DiskFault chunk) is);
  kept = λ none. cause.kept (λ chunk is. none chunk (err_again {T = T} {U = U} fault (DiskFault chunk) is));
})

-- the head of an entry is a page of the log
pub head_inside : (c : Config) (k chunk page : ℕ) → (physical_area c).pages ≡ 2 → k < (physical_area c).count → IsHeadAt c k chunk page → in_physical c chunk page ≡ true
head_inside c k chunk page two lt at =
    let size : (physical_area c).count * (physical_area c).pages ≡ 2 * (physical_area c).count = ap (λ (n : ℕ). (physical_area c).count * n) two ∙ omega arith in
    let first = at.0 in
    let low : (physical_area c).first ≤ page = omega (arith, at.1) in
    let high : page < (physical_area c).first + (physical_area c).count * (physical_area c).pages = omega (arith, at.1, size, lt) in
    grind (arith, nat_tests)

pub kept_cause : {T : Type 0} (c : Config) (before now : ℕ → ℕ) (x : T) → now ≡ before → HasReadCause c before now (Ok x)
kept_cause c before now x same = record { later = λ chunk. subst (λ (n : ℕ → ℕ). before chunk ≤ n chunk) (sym same) (omega arith); fault = λ chunk is. absurd (cc); kept = λ none. same }
