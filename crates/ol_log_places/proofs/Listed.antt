-- The heads that a scan lists, and the run that it cuts from them.
use Rattle.std.proofs.Common.{◌≡◌, inl, inr, ℕ, ◌+◌, ◌-◌, ◌<◌, ◌==◌, Bool, true, false, List, [], ◌∷◌, ◌++◌, get_or, length, length-append, map, Result, Ok, Err, OnOk, refl, sym, ◌∙◌, ap, subst, arith}
use Rattle.std.specs.Prelude.{IfOk, IsErrOf, slice_index}
use Rattle.std.proofs.lemmas.Bool.{cases_eq, eqb-true}
use Rattle.std.proofs.lemmas.List.{get_or-append_right, get_or_append_left}
use Rattle.ol_values.specs.Config.{Config, log_pages}
use Rattle.ol_chunks.specs.Places.{log_area}
use Rattle.ol_chunks.specs.declared.table.Area.{Area}
use Rattle.ol_ports.specs.Causes.{HasChunkCause, HasFailed}
use Rattle.ol_ports.specs.Disk.{Bytes, page_list}
use Rattle.ol_log_places.specs.declared.heads.ScanFault.TheVariants.{DiskFault}
use Rattle.ol_log_places.specs.declared.heads.Stood.{Stood}
use Rattle.ol_log_places.specs.Places.{Bad, Place, place_in, places}
use Rattle.ol_log_places.specs.Heads.{AreInLog, AreLow}
use Rattle.ol_log_places.specs.Runs.{logs_below, with_place}
use Rattle.ol_log_places.specs.Scanning.{AreHeadsOf, HasScanCause, IsFirstBad, stood_of}
use Rattle.ol_log_places.proofs.Files.{places_stand}
use Rattle.ol_log_places.specs.Writes.{GatesAre, IsGate}
use Rattle.ol_log_places.proofs.Logs.{logs_more}
use Rattle.ol_log_places.proofs.PlaceLaws.{place_shut, shut_place}

pub page_in_place : (c : Config) (d : Bytes) (a : Area) → a ≡ log_area c → (k : ℕ) (page : List ℕ) → page ≡ page_list d a.chunk (a.first + k) → place_in c k page ≡ places c d k
unfolding places
page_in_place c d a is_area k page is = ap (place_in c k) (is ∙ ap (λ (x : Area). page_list d x.chunk (x.first + k)) is_area)

pub scan_failed : {T E : Type 0} (c : Config) (a : Area) → a ≡ log_area c → (before now : ℕ → ℕ) (e : E) → HasChunkCause {T = Unit {0}} {E = E} a.chunk before now (Err e) → HasScanCause {T = T} c before now (Err (DiskFault a.chunk))
scan_failed c a is_area before now e cause = record {
  later = cause.later;
  fault = λ chunk is. (let same : a.chunk ≡ chunk = cc in sym same ∙ ap (λ (x : Area). x.chunk) is_area, subst (λ (x : Area). HasFailed x.chunk before now) is_area (record { later = cause.later a.chunk; rose = cause.failed; others = cause.others }));
  kept = λ none. absurd (none a.chunk refl);
}

pub first_bad : (c : Config) (r : ℕ → Place) (k : ℕ) → k < log_pages c → ((j : ℕ) → j < k → r j ≡ Bad → ⊥) → r k ≡ Bad → IsFirstBad c r k
first_bad c r k within before bad = record { within = within; bad = bad; before = before }

-- ---- the list of heads

pub no_heads : (c : Config) (r : ℕ → Place) (heads : List Stood) → heads ≡ [] → heads ≡ map (stood_of c) (logs_below c r 0)
unfolding logs_below
no_heads c r heads none = none

pub none_low : (heads : List Stood) → heads ≡ [] → AreLow heads
none_low heads none k lt = absurd (omega (arith, lt, ap length none))

pub none_in_log : (c : Config) (heads : List Stood) → heads ≡ [] → AreInLog c heads
none_in_log c heads none k lt = absurd (omega (arith, lt, ap length none))

pub heads_more : (c : Config) (r : ℕ → Place) (k : ℕ) (heads : List Stood) (here : Place) → here ≡ r k → heads ≡ map (stood_of c) (with_place c here (logs_below c r k)) → heads ≡ map (stood_of c) (logs_below c r (k + 1))
heads_more c r k heads here same is = is ∙ ap (λ (p : Place). map (stood_of c) (with_place c p (logs_below c r k))) same ∙ ap (map (stood_of c)) (sym (logs_more c r k))

pub bad_more : (r : ℕ → Place) (k : ℕ) → ((j : ℕ) → j < k → r j ≡ Bad → ⊥) → (r k ≡ Bad → ⊥) → (j : ℕ) → j < k + 1 → r j ≡ Bad → ⊥
bad_more r k before here j lt bad = elim (cases_eq j k) [ inl same ↦ here (subst (λ (x : ℕ). r x ≡ Bad) same bad) | inr other ↦ before j (omega arith) bad ]

-- ---- the list of gates

pub no_gates : (gates : List Bool) (r : ℕ → Place) → gates ≡ [] → GatesAre gates r
no_gates gates r none k lt = absurd (omega (arith, lt, ap length none))

pub gate_more : (gates now : List Bool) (b : Bool) (k : ℕ) → length gates ≡ k → now ≡ gates ++ b ∷ [] → length now ≡ k + 1
gate_more gates now b k size is = ap length is ∙ length-append gates (b ∷ []) ∙ ap (λ n. n + 1) size

gate_of : (c : Config) (k : ℕ) (page : List ℕ) (b : Bool) → (slice_index page 0 == 1) ≡ b → IsGate b (place_in c k page)
gate_of c k page true opened = λ shut. shut_place c k page shut (eqb-true (slice_index page 0) 1 opened)
gate_of c k page false shut = place_shut c k page (λ e. absurd (let clash : (slice_index page 0 == 1) ≡ true = (rw e refl) in let g : false ≡ true = sym shut ∙ clash in cc))

pub gates_more : (c : Config) (r : ℕ → Place) (k : ℕ) (page : List ℕ) (gates now : List Bool) → place_in c k page ≡ r k → length gates ≡ k → GatesAre gates r → now ≡ gates ++ (slice_index page 0 == 1) ∷ [] → GatesAre now r
gates_more c r k page gates now same size are is i lt =
    let at_end : k - length gates ≡ 0 = omega (arith, size) in
    let long = gate_more gates now (slice_index page 0 == 1) k size is in
    elim (cases_eq i k) [
      | inl here ↦ subst (λ (x : ℕ). IsGate (get_or now x false) (r x)) (sym here) (subst (λ (b : Bool). IsGate b (r k)) (sym (ap (λ (l : List Bool). get_or l k false) is ∙ get_or-append_right gates ((slice_index page 0 == 1) ∷ []) (length gates) k false refl (omega (arith, size)) ∙ ap (λ (n : ℕ). get_or ((slice_index page 0 == 1) ∷ []) n false) at_end)) (subst (IsGate (slice_index page 0 == 1)) same (gate_of c k page (slice_index page 0 == 1) refl)))
      | inr other ↦ (let below : i < length gates = omega (arith, lt, long, size, other) in subst (λ (b : Bool). IsGate b (r i)) (sym (ap (λ (l : List Bool). get_or l i false) is ∙ get_or_append_left gates ((slice_index page 0 == 1) ∷ []) false i below)) (are i below))
    ]

pub ok_from : {T E : Type 0} (result : Result T E) (P : T → Type 0) (Q : Type 0) → ((x : T) → P x → Q) → IfOk result P → OnOk result Q
ok_from (Ok x) P Q f p = f x p
ok_from (Err e) P Q f p = tt

-- an error goes on in another result
pub fault_is : {T E : Type 0} (fault e : E) → IsErrOf {T = T} {E = E} (Err fault) e → fault ≡ e
fault_is fault e same = cc

pub err_again : {T U E : Type 0} (fault e : E) → IsErrOf {T = T} {E = E} (Err fault) e → IsErrOf {T = U} {E = E} (Err fault) e
err_again {T = T} fault e same = ap Err (fault_is {T = T} fault e same)

-- all places were read
pub heads_of : (c : Config) (d : Bytes) (heads : List Stood) (k : ℕ) → k ≡ log_pages c → heads ≡ map (stood_of c) (logs_below c (places c d) k) → ((j : ℕ) → j < k → places c d j ≡ Bad → ⊥) → AreHeadsOf c (places c d) heads
heads_of c d heads k all is good = record {
  are = is ∙ ap (λ (n : ℕ). map (stood_of c) (logs_below c (places c d) n)) all;
  good = λ j lt. good j (omega (arith, lt, all));
  stand = places_stand c d;
}
