-- Why a disk is not opened, from why its parts were not.
use Rattle.std.specs.Prelude.{Err, IsErrOf, Ok, Result, ℕ, ◌≡◌, ◌≤◌, refl, true}
use Rattle.std.proofs.Common.{ap, arith, inl, inr, subst, ⊎_elim, ◌∙◌}
use Rattle.ol_values.specs.Config.{Config}
use Rattle.ol_anchor_opening.specs.Opening.{EndsRead, HasAnchorCause, IsNewestRead, IsOnline, IsReadOf, ReadsTo}
use Rattle.ol_anchor_opening.specs.declared.anchor.AnchorFault.{AnchorFault}
use Rattle.ol_anchor_opening.specs.declared.anchor.AnchorFault.TheVariants.{BadDisk as BadPair, Blank as BlankPair, DiskFault as PairFault, Restoring as BeingRestored, TooSmall as SmallChunk}
use Rattle.ol_chunks.proofs.AgainLaws.{read_again}
use Rattle.ol_chunks.specs.Reading.{config_in_text}
use Rattle.ol_format.specs.First.{AreLarge, IsFirstSmall, chunks_of}
use Rattle.ol_log_opening.specs.Opened.{HasLogCause}
use Rattle.ol_log_opening.specs.declared.log.LogOpenFault.{LogOpenFault}
use Rattle.ol_log_opening.specs.declared.log.LogOpenFault.TheVariants.{BadDisk as BadLog, DiskFault as LogFault, NoMemory as LogMemory}
use Rattle.ol_log_places.specs.Places.{in_log}
use Rattle.ol_page_opening.specs.Opening.{HasPageOpenCause, IsBad}
use Rattle.ol_page_opening.specs.declared.pages.PageOpenFault.{PageOpenFault}
use Rattle.ol_page_opening.specs.declared.pages.PageOpenFault.TheVariants.{BadDisk as BadPages, DiskFault as PagesFault, Failed as PagesFailed, NoMemory as PagesMemory}
use Rattle.ol_ports.specs.Causes.{HasFailed}
use Rattle.ol_ports.specs.Disk.{Bytes}
use Rattle.ol_reserve.specs.Pair.{there}
use Rattle.ol_reserve.specs.declared.anchor.Anchor.{Anchor}
use Rattle.ol_store.specs.Stores.{Store}
use Rattle.ol_storage.specs.Installation.{Installation}
use Rattle.ol_storage.specs.Behind.{Behind, pages_of}
use Rattle.ol_opening.specs.Faults.{HasOpenCause, IsRefusedFor, IsUnnumbered, MayRefuse, fault_of_anchor, fault_of_log, fault_of_pages}
use Rattle.ol_opening.specs.Opening.{IsSound}
use Rattle.ol_opening.specs.declared.fault.OpenFault.{OpenFault}
use Rattle.ol_opening.specs.declared.fault.OpenFault.TheVariants.{BadDisk, Failed}

-- ---- why

pub why_anchor : (sizes : ℕ → ℕ) (d : Bytes) (fault : AnchorFault) → ReadsTo sizes (Err fault) → EndsRead (there sizes d) sizes (Err fault) → IsRefusedFor sizes d (fault_of_anchor fault)
why_anchor sizes d BlankPair to why = why
why_anchor sizes d BeingRestored to why = why
why_anchor sizes d (BadPair chunk page) to why = inl (to.0, why)
why_anchor sizes d (PairFault chunk) to why = tt
why_anchor sizes d (SmallChunk chunk) to why = why

module _ (sizes : ℕ → ℕ) (d : Bytes) (x : Anchor) (t : Config) (read : IsNewestRead (there sizes d) d x) (online : IsOnline sizes x t) where
  pub why_log : (fault : LogOpenFault) → ((chunk page : ℕ) → fault ≡ BadLog chunk page → in_log t chunk page ≡ true) → IsRefusedFor sizes d (fault_of_log fault)
  why_log (BadLog chunk page) place = inr (record { anchor = x; config = t; newest = read; online = online; bad = inr (inl (place chunk page refl)) })
  why_log (LogFault chunk) place = tt
  why_log LogMemory place = tt

  pub why_pages : (fault : PageOpenFault) → ((chunk page : ℕ) → fault ≡ BadPages chunk page → IsBad t x.generation d chunk page) → IsRefusedFor sizes d (fault_of_pages fault)
  why_pages (BadPages chunk page) bad = inr (record { anchor = x; config = t; newest = read; online = online; bad = inr (inr (bad chunk page refl)) })
  why_pages (PagesFault chunk) bad = tt
  why_pages PagesFailed bad = tt
  why_pages PagesMemory bad = tt

-- ---- a disk that stands for a journal

no_small : (sizes : ℕ → ℕ) (c k : Config) (chunk : ℕ) → k ≡ c → AreLarge sizes c (chunks_of c) → IsFirstSmall sizes k chunk → ⊥
no_small sizes c k chunk same large small =
    let first = subst (λ (x : Config). IsFirstSmall sizes x chunk) same small in
    omega (arith, first.small, large chunk first.there)

module _ (sizes : ℕ → ℕ) (c : Config) (g : Behind) (a : Anchor) (d : Bytes) (sound : IsSound sizes c g a d) where
  pub whole_anchor : 2 ≤ sizes 0 → (fault : AnchorFault) → IsReadOf sizes a (Err fault) → MayRefuse c (fault_of_anchor fault)
  whole_anchor pair BlankPair of = absurd of
  whole_anchor pair BeingRestored of = absurd (omega (arith, of, sound.left.stands.checkpoint.online))
  whole_anchor pair (BadPair chunk page) of = absurd of
  whole_anchor pair (PairFault chunk) of = tt
  whole_anchor pair (SmallChunk chunk) (k, state, text, small) =
      let again : config_in_text a.text ≡ Ok c = ap config_in_text sound.left.stands.checkpoint.text ∙ read_again c sound.left.config in
      let same : k ≡ c = cc in
      absurd (no_small sizes c k chunk same sound.large small)

  pub whole_numbered : IsUnnumbered a → MayRefuse c (BadDisk 0 0)
  whole_numbered none = absurd (⊎_elim (λ (e : a.incarnation ≡ 0). let n : ⊥ = omega (arith, e, sound.incarnation) in n) (λ (e : a.uniq ≡ 0). let n : ⊥ = omega (arith, e, sound.uniq) in n) none)

  pub whole_log : (fault : LogOpenFault) → ((chunk page : ℕ) → fault ≡ BadLog chunk page → in_log c chunk page ≡ true) → MayRefuse c (fault_of_log fault)
  whole_log (BadLog chunk page) place = place chunk page refl
  whole_log (LogFault chunk) place = tt
  whole_log LogMemory place = tt

  no_bad : (chunk page : ℕ) → IsBad c a.generation d chunk page → ⊥
  no_bad chunk page (inl (k, at, first)) = sound.left.stands.pages.good k first.within first.refused
  no_bad chunk page (inr (none, (k, below, at, image))) =
      image.none ((pages_of a g).saved image.place.space image.place.page)
      (⊎_elim (λ up. sound.left.pages image.place.space image.place.page up) (λ saved. saved) (sound.entries k image.place image.bytes image.counts))
      (sound.left.stands.pages.images k image.place image.bytes below image.counts)

  pub whole_pages : (fault : PageOpenFault) → ((chunk page : ℕ) → fault ≡ BadPages chunk page → IsBad c a.generation d chunk page) → MayRefuse c (fault_of_pages fault)
  whole_pages (BadPages chunk page) bad = absurd (no_bad chunk page (bad chunk page refl))
  whole_pages (PagesFault chunk) bad = tt
  whole_pages PagesFailed bad = tt
  whole_pages PagesMemory bad = tt

-- ---- counts

pub same_cause : {T : Type 0} (before now : ℕ → ℕ) (x : T) → now ≡ before → HasOpenCause {T = T} before now (Ok x)
same_cause before now x same = record { later = λ chunk. rw same (omega arith); fault = λ chunk is. cc; failed = λ is. cc; kept = λ no none. same }

pub anchor_cause : {T : Type 0} (before now : ℕ → ℕ) (fault : AnchorFault) → HasAnchorCause {T = Anchor × Config} before now (Err fault) → HasOpenCause {T = T} before now (Err (fault_of_anchor fault))
anchor_cause before now BlankPair cause = record { later = cause.later; fault = λ chunk is. cc; failed = λ is. cc; kept = λ no none. cause.kept (λ chunk is. cc) }
anchor_cause before now BeingRestored cause = record { later = cause.later; fault = λ chunk is. cc; failed = λ is. cc; kept = λ no none. cause.kept (λ chunk is. cc) }
anchor_cause before now (BadPair at page) cause = record { later = cause.later; fault = λ chunk is. cc; failed = λ is. cc; kept = λ no none. cause.kept (λ chunk is. cc) }
anchor_cause before now (SmallChunk at) cause = record { later = cause.later; fault = λ chunk is. cc; failed = λ is. cc; kept = λ no none. cause.kept (λ chunk is. cc) }
anchor_cause before now (PairFault at) cause = record {
  later = cause.later;
  fault = λ chunk is. let same : at ≡ chunk = cc in subst (λ (k : ℕ). HasFailed k before now) same (cause.fault at refl).1;
  failed = λ is. cc;
  kept = λ no none. absurd (no at refl);
}

pub log_cause : {T R : Type 0} (log : ℕ) (before now : ℕ → ℕ) (fault : LogOpenFault) → HasLogCause {T = R} log before now (Err fault) → HasOpenCause {T = T} before now (Err (fault_of_log fault))
log_cause log before now (BadLog at page) cause = record { later = cause.later; fault = λ chunk is. cc; failed = λ is. cc; kept = λ no none. cause.kept (λ chunk is. cc) }
log_cause log before now LogMemory cause = record { later = cause.later; fault = λ chunk is. cc; failed = λ is. cc; kept = λ no none. cause.kept (λ chunk is. cc) }
log_cause log before now (LogFault at) cause = record {
  later = cause.later;
  fault = λ chunk is. let same : at ≡ chunk = cc in subst (λ (k : ℕ). HasFailed k before now) same (cause.fault at refl).1;
  failed = λ is. cc;
  kept = λ no none. absurd (no at refl);
}

pub pages_cause : {T R : Type 0} (c : Config) (before now : ℕ → ℕ) (fault : PageOpenFault) → HasPageOpenCause {T = R} c before now (Err fault) → HasOpenCause {T = T} before now (Err (fault_of_pages fault))
pages_cause c before now (BadPages at page) cause = record { later = cause.later; fault = λ chunk is. cc; failed = λ is. cc; kept = λ no none. cause.kept (λ chunk is. cc) (λ is. cc) }
pages_cause c before now PagesMemory cause = record { later = cause.later; fault = λ chunk is. cc; failed = λ is. cc; kept = λ no none. cause.kept (λ chunk is. cc) (λ is. cc) }
pages_cause c before now PagesFailed cause = record { later = cause.later; fault = λ chunk is. cc; failed = λ is. (let f = cause.failed refl in (f.0, f.2)); kept = λ no none. absurd (none refl) }
pages_cause c before now (PagesFault at) cause = record {
  later = cause.later;
  fault = λ chunk is. let same : at ≡ chunk = cc in subst (λ (k : ℕ). HasFailed k before now) same (cause.fault at refl).2;
  failed = λ is. cc;
  kept = λ no none. absurd (no at refl);
}

-- nothing was counted where a part was read
pub anchor_kept : {T : Type 0} (before now : ℕ → ℕ) (x : T) → HasAnchorCause {T = T} before now (Ok x) → now ≡ before
anchor_kept before now x cause = cause.kept (λ chunk is. cc)

pub log_kept : {T : Type 0} (log : ℕ) (before now : ℕ → ℕ) (x : T) → HasLogCause {T = T} log before now (Ok x) → now ≡ before
log_kept log before now x cause = cause.kept (λ chunk is. cc)

pub pages_kept : {T : Type 0} (c : Config) (before now : ℕ → ℕ) (x : T) → HasPageOpenCause {T = T} c before now (Ok x) → now ≡ before
pages_kept c before now x cause = cause.kept (λ chunk is. cc) (λ is. cc)

-- a write of pages that failed is told so
pub failed_is : (fault : PageOpenFault) (told : OpenFault) → told ≡ fault_of_pages fault → IsErrOf {T = Store} (Err fault) PagesFailed → IsErrOf {T = Installation} (Err told) Failed
failed_is fault told same is = let e : fault ≡ PagesFailed = cc in ap (λ (f : OpenFault). let r : Result Installation OpenFault = Err f in r) (same ∙ ap fault_of_pages e)
