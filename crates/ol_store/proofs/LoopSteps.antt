-- One dirty page after another is written.
use Rattle.std.proofs.Common.{◌≡◌, ℕ, ◌<◌, Bool, false, Some, None, Option, List, [], ◌∷◌, length, not, if◌then◌else◌, refl, sym, ◌∙◌, ap, subst, arith}
use Rattle.std.specs.Prelude.{filter, slice_get}
use Rattle.std.proofs.lemmas.List.Filters.{length-filter_both}
use Rattle.ol_physlog.specs.States.{with_settled}
use Rattle.ol_pool.specs.Frames.{same_place}
use Rattle.ol_pool.proofs.PlaceLaws.{same_self}
use Rattle.ol_store.specs.Stores.{AreFlushed, AreSettled, Store, with_clean, with_log, with_none_dirty, with_some_dirty}
use Rattle.ol_store.proofs.CheckpointSteps.{dirty_still}

-- a write leaves but the list of dirty pages and the marks of chunks
pub cleaned_rest : (s one two : Store) (space page : ℕ) → one ≡ with_some_dirty s one.pool.dirty one.written → two ≡ with_clean one space page → two ≡ with_some_dirty s two.pool.dirty two.written
cleaned_rest s one two space page rest value =
    subst (λ (t : Store). t ≡ with_some_dirty s t.pool.dirty t.written) (sym (value ∙ ap (λ (t : Store). with_clean t space page) rest)) refl

pub cleaned_flushed : (one two : Store) (space page : ℕ) → AreFlushed one → two ≡ with_clean one space page → AreFlushed two
cleaned_flushed one two space page flushed value =
    subst AreFlushed (sym value) (λ at_space at_page dirty bytes there. flushed at_space at_page (dirty_still one.pool space page at_space at_page dirty) bytes there)

-- the list gets shorter
passed_over : (test : ℕ × ℕ → Bool) (p : ℕ × ℕ) (pages : List (ℕ × ℕ)) → test p ≡ false → length (filter test (p ∷ pages)) < length (p ∷ pages)
passed_over test p pages out =
    let same : length (filter test (p ∷ pages)) ≡ length (filter test pages) = ap (λ (b : Bool). length (if b then p ∷ filter test pages else filter test pages)) out in
    omega (arith, same, length-filter_both test (λ q. not (test q)) (λ q. refl) pages)

shorter : (pages : List (ℕ × ℕ)) (place : ℕ × ℕ) → (let o : Option (ℕ × ℕ) = Some place in o ≡ slice_get pages 0) → length (filter (λ q. not (same_place (place.0, place.1) q)) pages) < length pages
shorter [] place same = absurd (let clash : Some place ≡ None = same in cc)
shorter (p ∷ pages) place same =
    let one : p ≡ place = cc in
    passed_over (λ q. not (same_place (place.0, place.1) q)) p pages (ap (λ (q : ℕ × ℕ). not (same_place (place.0, place.1) q)) one ∙ ap not (same_self place.0 place.1))

pub cleaned_shorter : (one two : Store) (place : ℕ × ℕ) → (let o : Option (ℕ × ℕ) = Some place in o ≡ slice_get one.pool.dirty 0) → two ≡ with_clean one place.0 place.1 → length two.pool.dirty < length one.pool.dirty
cleaned_shorter one two place first value = subst (λ (t : Store). length t.pool.dirty < length one.pool.dirty) (sym value) (shorter one.pool.dirty place first)

-- none is left
pub none_left : (pages : List (ℕ × ℕ)) (first : Option (ℕ × ℕ)) → first ≡ slice_get pages 0 → ((x : ℕ × ℕ) → first ≡ Some x → ⊥) → pages ≡ []
none_left [] first is none = refl
none_left (p ∷ pages) first is none = absurd (none p is)

pub rest_none : (s one : Store) → one ≡ with_some_dirty s one.pool.dirty one.written → one.pool.dirty ≡ [] → one ≡ with_none_dirty s one.written
rest_none s one rest none = rest ∙ ap (λ (l : List (ℕ × ℕ)). with_some_dirty s l one.written) none

-- behind a settling all entries are settled
pub settled_now : (s now : Store) → now ≡ with_log s (with_settled s.log) → AreSettled now.log
settled_now s now value = subst (λ (t : Store). AreSettled t.log) (sym value) refl
