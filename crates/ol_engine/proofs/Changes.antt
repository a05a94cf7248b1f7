-- A page that changes with its record: what the storage shows then.
use Rattle.std.specs.Prelude.{Bool, List, Option, [], false, if◌then◌else◌, length, true, ℕ, ◌++◌, ◌+◌, ◌<◌, ◌∷◌, ◌≡◌}
use Rattle.std.proofs.Common.{ap, refl, subst, sym, ◌∙◌}
use Rattle.ol_values.specs.declared.record.Record.{Record}
use Rattle.ol_rules.specs.Ring.{logged}
use Rattle.ol_model.specs.Machine.{Archive, Machine, config_of}
use Rattle.ol_model.specs.Steps.{append, is_page_in, touch}
use Rattle.ol_physlog.specs.States.{Log, with_added}
use Rattle.ol_physlog.specs.declared.place.Place.{Place}
use Rattle.ol_log_state.specs.RingState.{ring_of}
use Rattle.ol_store.specs.Stores.{is_touched, place_of_entry, with_entry}
use Rattle.ol_storage.specs.Installation.{Installation, appended, with_store}
use Rattle.ol_storage.specs.Installation.{config_of as config_in, last_of as last_behind}
use Rattle.ol_engine.specs.Parts.{ShowsStorage, lasting_in, touched_in}
use Rattle.ol_engine.proofs.Entries.{in_places}
use Rattle.ol_engine.proofs.Steps.{append_shows}

touched_more : (places : List Place) (q : Place) → touched_in (places ++ q ∷ []) ≡ touched_in places ++ (q.space, q.page) ∷ []
touched_more [] q = refl
touched_more (p ∷ places) q = ap (λ (l : List (ℕ × ℕ)). (let r : ℕ × ℕ = (p.space, p.page) in r) ∷ l) (touched_more places q)

entry_kept : (log : Log) (space page : ℕ) → is_touched log space page ≡ true → with_entry log space page ≡ log
entry_kept log space page e = rw e refl

entry_added : (log : Log) (space page : ℕ) → is_touched log space page ≡ false → with_entry log space page ≡ with_added log (place_of_entry space page)
entry_added log space page e = rw e refl

touch_kept : (m : Machine) (p : ℕ × ℕ) → is_page_in p m.checkpoint.touched ≡ true → touch p m ≡ m
touch_kept m p e = rw e refl

touch_added : (m : Machine) (p : ℕ × ℕ) → is_page_in p m.checkpoint.touched ≡ false → touch p m ≡ record m { checkpoint = record m.checkpoint { touched = m.checkpoint.touched ++ p ∷ [] } }
touch_added m p e = rw e refl

-- behind the change the storage is where the machine is, whatever becomes of its archives
pub change_shows : (w u : Installation) (m : Machine) (space page : ℕ) (r : Record) (archives : List (Option Archive)) → length w.ring.state.buffer < w.ring.state.next → u ≡ with_store (appended w r u.ring.gates) u.store
    → ring_of u.ring.state ≡ logged (config_in w) (ring_of w.ring.state) (last_behind w) r → u.store.log ≡ with_entry w.store.log space page → ShowsStorage w m → ShowsStorage u (append r (record (touch (space, page) m) { archives = archives }))
change_shows w u m space page r archives long step ring log is = by_case (is_page_in (space, page) m.checkpoint.touched) refl
  where
    plain : Installation
    plain = appended w r u.ring.gates

    s : ShowsStorage plain (append r m)
    s = append_shows w plain r m long refl (ap (λ (x : Installation). ring_of x.ring.state) (sym step) ∙ ring) is

    same : is_touched w.store.log space page ≡ is_page_in (space, page) m.checkpoint.touched
    same = in_places w.store.log.places space page ∙ ap (λ pages. is_page_in (space, page) pages) is.touched

    by_case : (b : Bool) → is_page_in (space, page) m.checkpoint.touched ≡ b → ShowsStorage u (append r (record (touch (space, page) m) { archives = archives }))
    by_case true e = subst (λ (t : Machine). ShowsStorage u (append r (record t { archives = archives }))) (sym (touch_kept m (space, page) e)) (record {
      config = ap (λ (x : Installation). x.ring.config) step ∙ s.config;
      ring = ap (λ (x : Installation). ring_of x.ring.state) step ∙ s.ring;
      next = ap (λ (x : Installation). x.ring.state.next) step ∙ s.next;
      reached = ap (λ (x : Installation). x.reached) step ∙ s.reached;
      position = ap (λ (x : Installation). x.anchor.position) step ∙ s.position;
      need = ap (λ (x : Installation). x.anchor.need) step ∙ s.need;
      touched = ap (λ (l : Log). touched_in l.places) (log ∙ entry_kept w.store.log space page (same ∙ e)) ∙ is.touched;
      lasting = ap (λ (x : Installation). lasting_in (config_of m) x.anchor) step ∙ s.lasting;
    })
    by_case false e = subst (λ (t : Machine). ShowsStorage u (append r (record t { archives = archives }))) (sym (touch_added m (space, page) e)) (record {
      config = ap (λ (x : Installation). x.ring.config) step ∙ s.config;
      ring = ap (λ (x : Installation). ring_of x.ring.state) step ∙ s.ring;
      next = ap (λ (x : Installation). x.ring.state.next) step ∙ s.next;
      reached = ap (λ (x : Installation). x.reached) step ∙ s.reached;
      position = ap (λ (x : Installation). x.anchor.position) step ∙ s.position;
      need = ap (λ (x : Installation). x.anchor.need) step ∙ s.need;
      touched =
          ap (λ (l : Log). touched_in l.places) (log ∙ entry_added w.store.log space page (same ∙ e))
          ∙ touched_more w.store.log.places (place_of_entry space page)
          ∙ ap (λ (l : List (ℕ × ℕ)). l ++ (let q : ℕ × ℕ = (space, page) in q) ∷ []) is.touched;
      lasting = ap (λ (x : Installation). lasting_in (config_of m) x.anchor) step ∙ s.lasting;
    })
