-- What an opening finds of the log.
use Rattle.std.specs.Prelude.{Bool, Err, IfOk, List, Ok, OnOk, Result, [], false, map, true, ℕ, ◌+◌, ◌≡◌, ◌≤◌}
use Rattle.std.proofs.Common.{ap, arith, refl, subst, sym, ◌∙◌}
use Rattle.ol_values.specs.Config.{Config}
use Rattle.ol_values.specs.declared.record.Record.{Record}
use Rattle.ol_rules.specs.DiskValue.{AnchorValue}
use Rattle.ol_rules.specs.Lasting.{Lasting}
use Rattle.ol_chunks.specs.Limits.{IsConfig}
use Rattle.ol_chunks.specs.Places.{log_area}
use Rattle.ol_ports.specs.Disk.{Bytes, Past, seen}
use Rattle.ol_ports.specs.Frames.{IsQuiet}
use Rattle.ol_reserve.specs.declared.anchor.Anchor.{Anchor}
use Rattle.ol_log_places.specs.Heads.{AreInRun}
use Rattle.ol_log_places.specs.declared.heads.Stood.{Stood}
use Rattle.ol_log_places.specs.Places.{IsPlaced, Place, Shows, places}
use Rattle.ol_log_places.specs.Runs.{IsLogged, IsNear, open_logs, run_in}
use Rattle.ol_log_places.specs.Scanning.{stood_of}
use Rattle.ol_log_places.specs.Writes.{GatesAre}
use Rattle.ol_log_state.specs.RingState.{first_uniq, started}
use Rattle.ol_log_state.specs.StoredFiles.{heads_in}
use Rattle.ol_loglog.specs.Ready.{IsInOrder, IsReady}
use Rattle.ol_loglog.specs.RingValue.{RingValue, ring_value}
use Rattle.ol_loglog.proofs.Kept.{unbacked_started}
use Rattle.ol_loglog.proofs.Opening.{greatest_from, order_opened, ready_opened}
use Rattle.ol_log_opening.specs.Opened.{IsOpenedLog, lacks, next_behind, ring_start}
use Rattle.ol_log_opening.proofs.Ends.{next_is, next_above}

-- the ring of a run
abbrev opened_ring : Config → Anchor → List Stood → List Bool → RingValue
opened_ring c a run gates = ring_value c (started (log_area c) (ring_start a (next_behind a.position run)) (heads_in run)) gates

opened_log : (c : Config) (a : Anchor) (run : List Stood) (gates : List Bool) → lacks a.position a.need run ≡ false → IsOpenedLog c a (opened_ring c a run gates)
opened_log c a run gates whole = record {
  config = refl;
  buffer = refl;
  reuse = refl;
  uniq = (let most = greatest_from (heads_in run) (first_uniq (ring_start a (next_behind a.position run))) in omega (arith, most));
  position = next_above a.position a.need run whole;
  unbacked = unbacked_started (log_area c) (ring_start a (next_behind a.position run)) (heads_in run);
}

pub opened_result : {E : Type 0} (c : Config) (a : Anchor) (run : List Stood) (gates : List Bool) (result : Result RingValue E) → IfOk result (λ ring. ring ≡ opened_ring c a run gates) → OnOk result (lacks a.position a.need run ≡ false) → IfOk result (λ ring. IsOpenedLog c a ring)
opened_result c a run gates (Ok ring) value whole = subst (λ (x : RingValue). IsOpenedLog c a x) (sym value) (opened_log c a run gates whole)
opened_result c a run gates (Err e) value whole = tt

-- a disk on which nothing is unsynced shows what it reads
quiet_placed : (past : Past) (c : Config) → IsQuiet past → IsPlaced past c (places c (seen past))
quiet_placed past c quiet = record { each = λ d rest. let same : d ≡ seen past = λ i chunk page at. (quiet d rest chunk page at refl) i in subst (λ (e : Bytes). Shows c e (places c (seen past))) (sym same) (λ place below. refl) }

-- the anchor as the rules tell it, as far as a ring needs it
abbrev anchor_of : Anchor → AnchorValue
anchor_of a = record {
  online = true;
  serial = a.serial;
  position = a.position;
  need = a.need;
  generation = a.generation;
  uniq = a.uniq;
  lasting = (let l : Lasting = record { spaces = []; next_archive = a.next_archive; incarnation = a.incarnation; backed = a.backed } in l);
  text = a.text;
}

-- a ring is ready for a journal, with the position that is next
pub record IsReadyFor (past : Past) (c : Config) (r : ℕ → Place) (need last : ℕ) (j : ℕ → Record) (ring : RingValue) : Type 0 where
  pub next : ring.state.next ≡ last + 1
  pub ready : IsReady past ring r need j
  pub order : IsInOrder c ring.state

module _ (past : Past) (c : Config) (config : IsConfig c) (a : Anchor) (quiet : IsQuiet past) (j : ℕ → Record) (last : ℕ) (low : a.need ≤ a.position + 1) (at : a.position ≤ last) (log : IsLogged c (places c (seen past)) j a.need (last + 1))
    (near : IsNear c (places c (seen past)) (first_uniq (ring_start a (last + 1))) (last + 1)) (gates : List Bool) (are : GatesAre gates (places c (seen past))) where
  pub opened_ready : AreInRun c.log_file_pages (map (stood_of c) (run_in (open_logs c (places c (seen past))))) → lacks a.position a.need (map (stood_of c) (run_in (open_logs c (places c (seen past))))) ≡ false
      → IsReadyFor past c (places c (seen past)) a.need last j (opened_ring c a (map (stood_of c) (run_in (open_logs c (places c (seen past))))) gates)
  opened_ready fits whole =
      let run = map (stood_of c) (run_in (open_logs c (places c (seen past)))) in
      let next = next_is c (places c (seen past)) j a.need a.position last log low at whole in
      record {
        next = next;
        ready = ready_opened c (places c (seen past)) j a.need (last + 1) log (ring_start a (next_behind a.position run)) (anchor_of a) refl refl near (sym next) past gates (quiet_placed past c quiet) are;
        order = order_opened c (places c (seen past)) j a.need (last + 1) log (ring_start a (next_behind a.position run)) (anchor_of a) refl refl near (sym next) config fits;
      }

  pub ready_result : {E : Type 0} (run : List Stood) (result : Result RingValue E) → run ≡ map (stood_of c) (run_in (open_logs c (places c (seen past)))) → AreInRun c.log_file_pages run → IfOk result (λ ring. ring ≡ opened_ring c a run gates) → OnOk result (lacks a.position a.need run ≡ false)
      → IfOk result (λ ring. (ring.state.next ≡ last + 1) × IsReady past ring (places c (seen past)) a.need j × IsInOrder c ring.state)
  ready_result run (Err e) is fits value whole = tt
  ready_result run (Ok ring) is fits value whole =
      let all = opened_ready (subst (λ (l : List Stood). AreInRun c.log_file_pages l) is fits) (ap (λ (l : List Stood). lacks a.position a.need l) (sym is) ∙ whole) in
      let same = value ∙ ap (λ (l : List Stood). opened_ring c a l gates) is in
      subst (λ (x : RingValue). (x.state.next ≡ last + 1) × IsReady past x (places c (seen past)) a.need j × IsInOrder c x.state) (sym same) (all.next, all.ready, all.order)
