-- What is known of a store behind its calls.
use Rattle.std.specs.List.{list_any}
use Rattle.std.specs.Prelude.{Bool, IfSome, List, [], false, if◌then◌else◌, max, slice_get, slice_index_or, true, ℕ, ◌||◌, ◌∷◌, ◌≡◌, ◌≤◌}
use Rattle.std.proofs.Common.{ap, arith, refl, subst, sym, ◌∙◌}
use Rattle.ol_values.specs.Config.{Config}
use Rattle.ol_before.specs.Images.{Captures}
use Rattle.ol_data_pages.specs.Places.{HasNoMark}
use Rattle.ol_physlog.specs.Reading.{Found, log_of}
use Rattle.ol_physlog.specs.States.{Log, with_added}
use Rattle.ol_pool.specs.Frames.{same_place}
use Rattle.ol_pool.proofs.ListLaws.{replicated}
use Rattle.ol_pool.proofs.PlaceLaws.{same_self}
use Rattle.ol_store.specs.Stores.{AreFlushed, IsChanged, IsFlushedAt, Store, begun, checkpointed_of, is_touched, place_of_entry, with_entry, with_flushed}
use Rattle.ol_store_cases.specs.Known.{IsKnown}

-- a store that begins, and is told a flushed position, is known
pub known_begun : (c : Config) (log : Log) (found : Found) (before : Captures) (new told : Store) (number limit : ℕ) → log ≡ log_of c number found → new ≡ begun c log before → told ≡ with_flushed new limit → IsKnown c told number limit
known_begun c log found before new told number limit laid begins is =
    subst (λ (s : Store). IsKnown c s number limit) (sym (is ∙ ap (λ (s : Store). with_flushed s limit) begins))
    (record { config = refl; generation = ap (λ (l : Log). l.generation) laid; flushed = omega arith; last = omega arith })

-- an entry more is of the same generation
entry_generation : (log : Log) (space page : ℕ) → (with_entry log space page).generation ≡ log.generation
entry_generation log space page = elim (is_touched log space page) as (λ (b : Bool). (let l : Log = (if b then log else with_added log (place_of_entry space page)) in l).generation ≡ log.generation) [ true ↦ refl | false ↦ refl ]

-- a change keeps what is known, up to its stamp
pub known_changed : (c : Config) (old new : Store) (space page stamp number limit : ℕ) → IsKnown c old number limit → IsChanged old new space page stamp → IsKnown c new number (max limit stamp)
known_changed c old new space page stamp number limit is now = record {
  config = now.config ∙ is.config;
  generation = ap (λ (l : Log). l.generation) now.log ∙ entry_generation old.log space page ∙ is.generation;
  flushed = omega (arith, now.flushed, is.flushed);
  last = omega (arith, now.last, is.last);
}

-- what holds of all dirty pages holds of the first
first_of : (P : ℕ → ℕ → Type 0) (pages : List (ℕ × ℕ)) → ((space page : ℕ) → list_any (same_place (space, page)) pages ≡ true → P space page) → IfSome (slice_get pages 0) (λ place. P place.0 place.1)
first_of P [] all = tt
first_of P (place ∷ pages) all = all place.0 place.1 (ap (λ (b : Bool). b || list_any (same_place (place.0, place.1)) pages) (same_self place.0 place.1))

pub first_flushed : (s : Store) → AreFlushed s → IfSome (slice_get s.pool.dirty 0) (λ place. IsFlushedAt s place.0 place.1)
first_flushed s flushed = first_of (IsFlushedAt s) s.pool.dirty flushed

-- behind a checkpoint no chunk is marked
pub none_marked : (old new : Store) → new ≡ checkpointed_of old → HasNoMark new.written
none_marked old new is chunk = ap (λ (s : Store). slice_index_or s.written chunk false) is ∙ replicated 31 chunk false
