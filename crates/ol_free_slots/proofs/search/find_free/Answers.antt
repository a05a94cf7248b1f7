use Rattle.std.specs.Prelude.{IfSome, Option, length, ℕ, ◌+◌, ◌<◌}
use Rattle.std.proofs.Common.{ap, arith, inl, refl, subst, sym, ◌∙◌}
use Rattle.ol_storage.specs.Installation.{config_of}
use Rattle.ol_storage.specs.declared.storage.StorageFault.TheVariants.{Bad, Failed, NoMemory}
use Rattle.ol_txn.specs.Seats.{table_of}
use Rattle.ol_engine.proofs.Seats.{sessions_told}
use Rattle.ol_engine.specs.Parts.{behind_of}
use Rattle.ol_free_slots.specs.declared.hints.Hints.{Hints}
use Rattle.ol_free_slots.specs.Filled.{AreFilled, HasRisenFor, hint_of}
use Rattle.ol_free_slots.specs.Slots.{rows_of}
use Rattle.ol_free_slots.proofs.Finding.{IsEdge, IsSought, edge_found, edge_last, edge_more, free_found, free_is, free_none, look_filled, look_least, look_length, page_there, place_there, risen_look, risen_more, risen_none, sought_first, sought_more}
use Rattle.ol_free_slots.proofs.Reading.{machine_empty, machine_filled, other_answer, pages_filled, read_bad, read_more, read_none, read_unframed, row_told}
use Rattle.ol_free_slots.proofs.search.find_free.Goals as goal

pub loop-page-init : goal.loop-page-init
loop-page-init g c = record {
  read = read_none c.args.storage.now.now;
  past = λ tells. refl;
  stored = λ tells b stored. stored;
  faults = refl;
  filled = λ tells b stored is. is;
  sought = λ tells b stored is. subst (λ p. IsSought (config_of c.args.storage.now.now) (rows_of b) (table_of c.args.locks.now) c.args.space p) (sym c.first-begin.ensures.value)
      (sought_first c.args.hints.now (config_of c.args.storage.now.now) (rows_of b) (table_of c.args.locks.now) c.args.space is);
  spaces = c.first-begin.ensures.spaces;
  risen = risen_none c.args.space c.args.hints.now;
  edge = λ tells b stored. inl (sym c.first-begin.ensures.value);
}

pub returns-in-Err-clause-full : goal.returns-in-Err-clause-full
returns-in-Err-clause-full g c tells opened m registers earlier shows stored full =
    let v = c.args.storage.now.now in
    machine_filled opened v c.args.locks.now registers earlier m c.loop-page.hints shows (c.loop-page.invariant.filled tells (behind_of earlier m) stored (pages_filled opened v c.args.locks.now registers earlier m c.args.hints.now shows full))

pub returns-in-Err-clause-stored : goal.returns-in-Err-clause-stored
returns-in-Err-clause-stored g c tells b stored none = c.in-Err.ensures.stored tells b (c.loop-page.invariant.stored tells b stored) (λ e. none (other_answer c.in-Err.fault Failed e))

pub returns-in-Err-clause-good : goal.returns-in-Err-clause-good
returns-in-Err-clause-good g c tells b stored chunk at e = c.in-Err.ensures.good tells b (c.loop-page.invariant.stored tells b stored) chunk at (other_answer c.in-Err.fault (Bad chunk at) e)

pub returns-in-Some-clause-found : goal.returns-in-Some-clause-found
returns-in-Some-clause-found g c tells opened m registers earlier shows regular stored full =
    let v = c.args.storage.now.now in
    let i = c.loop-page.invariant in
    let b = behind_of earlier m in
    let is = pages_filled opened v c.args.locks.now registers earlier m c.args.hints.now shows full in
    let least = look_least (rows_of b) (table_of c.args.locks.now) c.args.space c.loop-page.page c.in-Ok.look c.in-Some.slot (sym c.free.ensures ∙ c.in-Some.is) (c.in-Ok.ensures.told tells b (i.stored tells b stored)) in
    sym (free_found (config_of v) (rows_of b) (table_of c.args.locks.now) c.args.space c.loop-page.page c.in-Some.slot c.requires.space (omega arith) (i.sought tells b stored is) least)
    ∙ free_is m (config_of v) (rows_of b) (table_of c.args.locks.now) c.args.space shows.storage.config c.requires.space (λ rid there. row_told earlier m rid there) (sessions_told c.args.locks.now registers m regular shows.sessions)

pub returns-in-Some-clause-full : goal.returns-in-Some-clause-full
returns-in-Some-clause-full g c tells opened m registers earlier shows stored full =
    let v = c.args.storage.now.now in
    machine_filled opened v c.args.locks.now registers earlier m c.loop-page.hints shows (c.loop-page.invariant.filled tells (behind_of earlier m) stored (pages_filled opened v c.args.locks.now registers earlier m c.args.hints.now shows full))

pub returns-in-Some-clause-there : goal.returns-in-Some-clause-there
returns-in-Some-clause-there g c =
    let v = c.args.storage.now.now in
    let small : c.in-Some.slot < 31 = subst (λ (o : Option ℕ). IfSome o (λ s. s < 31)) (sym c.free.ensures ∙ c.in-Some.is) c.in-Ok.ensures.small in
    (place_there (config_of v) c.args.space c.loop-page.page c.in-Some.slot (page_there (config_of v) c.args.space c.loop-page.page c.requires.space (omega (arith, c.page_count-pages.ensures.value))) small, refl, c.in-Ok.ensures.there)

pub loop-page-preserved : goal.loop-page-preserved
loop-page-preserved g c =
    let v = c.args.storage.now.now in
    let i = c.loop-page.invariant in
    let none = sym c.free.ensures ∙ c.in-None.is in
    let inside : c.args.space < length c.loop-page.hints.first = omega (arith, i.spaces, c.requires.space, c.page_count-pages.ensures.spaces) in
    record {
      read = read_more v c.loop-page.storage.now c.look_at.new.storage.now i.read (c.in-Ok.ensures.still (λ e. absurd cc));
      past = λ tells. c.in-Ok.ensures.past tells ∙ i.past tells;
      stored = λ tells b stored. c.in-Ok.ensures.stored tells b (i.stored tells b stored) (λ e. absurd cc);
      faults = c.in-Ok.ensures.cause.kept (λ e. absurd cc) ∙ i.faults;
      filled = λ tells b stored is. subst (λ (h : Hints). AreFilled h (config_of v) (rows_of b)) (sym c.pass.ensures)
          (look_filled c.loop-page.hints (config_of v) (rows_of b) (table_of c.args.locks.now) c.args.space c.loop-page.page c.in-Ok.look (c.in-Ok.ensures.told tells b (i.stored tells b stored)) (i.filled tells b stored is));
      sought = λ tells b stored is. sought_more (config_of v) (rows_of b) (table_of c.args.locks.now) c.args.space c.loop-page.page c.in-Ok.look (c.in-Ok.ensures.told tells b (i.stored tells b stored)) none (i.sought tells b stored is);
      spaces = ap (λ (h : Hints). length h.first) c.pass.ensures ∙ look_length c.loop-page.hints c.args.space c.loop-page.page c.in-Ok.look ∙ i.spaces;
      risen = risen_more c.args.space c.args.hints.now c.loop-page.hints c.pass.new.self i.risen
          (subst (λ (h : Hints). HasRisenFor c.args.space c.loop-page.hints h) (sym c.pass.ensures) (risen_look c.args.space c.loop-page.page c.loop-page.hints c.in-Ok.look inside));
      edge = λ tells b stored. subst (λ (h : Hints). IsEdge h (rows_of b) c.args.space (c.loop-page.page + 1)) (sym c.pass.ensures)
          (edge_more c.loop-page.hints (rows_of b) (table_of c.args.locks.now) c.args.space c.loop-page.page c.in-Ok.look inside (c.in-Ok.ensures.told tells b (i.stored tells b stored)) none (i.edge tells b stored));
    }

pub returns-in-Err-clause-bad : goal.returns-in-Err-clause-bad
returns-in-Err-clause-bad g c chunk at e =
    let v = c.args.storage.now.now in (
      c.loop-page.page,
      page_there (config_of v) c.args.space c.loop-page.page c.requires.space (omega (arith, c.page_count-pages.ensures.value)),
      read_bad v c.loop-page.storage.now c.args.space c.loop-page.page chunk at c.loop-page.invariant.read (c.in-Err.ensures.bad chunk at (other_answer c.in-Err.fault (Bad chunk at) e)),
    )

pub returns-in-Err-clause-memory : goal.returns-in-Err-clause-memory
returns-in-Err-clause-memory g c e =
    let v = c.args.storage.now.now in (
      c.loop-page.page,
      page_there (config_of v) c.args.space c.loop-page.page c.requires.space (omega (arith, c.page_count-pages.ensures.value)),
      read_unframed v c.loop-page.storage.now c.args.space c.loop-page.page c.loop-page.invariant.read (c.in-Err.ensures.memory (other_answer c.in-Err.fault NoMemory e)),
    )

pub returns-in-Some-clause-first : goal.returns-in-Some-clause-first
returns-in-Some-clause-first g c tells opened m registers earlier shows stored there =
    let v = c.args.storage.now.now in
    let i = c.loop-page.invariant in
    let b = behind_of earlier m in
    let least = look_least (rows_of b) (table_of c.args.locks.now) c.args.space c.loop-page.page c.in-Ok.look c.in-Some.slot (sym c.free.ensures ∙ c.in-Some.is) (c.in-Ok.ensures.told tells b (i.stored tells b stored)) in
    machine_empty opened v c.args.locks.now registers earlier m c.args.space (hint_of c.loop-page.hints c.args.space) shows there (edge_found c.loop-page.hints (rows_of b) (table_of c.args.locks.now) c.args.space c.loop-page.page c.in-Some.slot least (i.edge tells b stored))

pub returns-clause-first : goal.returns-clause-first
returns-clause-first g c tells opened m registers earlier shows stored there =
    let v = c.args.storage.now.now in
    let b = behind_of earlier m in
    machine_empty opened v c.args.locks.now registers earlier m c.args.space (hint_of c.loop-page.hints c.args.space) shows there (edge_last c.loop-page.hints (config_of v) (rows_of b) c.args.space c.loop-page.page (omega (arith, c.page_count-pages.ensures.value)) there (c.loop-page.invariant.edge tells b stored))

pub returns-clause-found : goal.returns-clause-found
returns-clause-found g c tells opened m registers earlier shows regular stored full =
    let v = c.args.storage.now.now in
    let i = c.loop-page.invariant in
    let b = behind_of earlier m in
    let is = pages_filled opened v c.args.locks.now registers earlier m c.args.hints.now shows full in
    sym (free_none (config_of v) (rows_of b) (table_of c.args.locks.now) c.args.space c.loop-page.page c.requires.space (omega (arith, c.page_count-pages.ensures.value)) (i.sought tells b stored is))
    ∙ free_is m (config_of v) (rows_of b) (table_of c.args.locks.now) c.args.space shows.storage.config c.requires.space (λ rid there. row_told earlier m rid there) (sessions_told c.args.locks.now registers m regular shows.sessions)

pub returns-clause-full : goal.returns-clause-full
returns-clause-full g c tells opened m registers earlier shows stored full =
    let v = c.args.storage.now.now in
    machine_filled opened v c.args.locks.now registers earlier m c.loop-page.hints shows (c.loop-page.invariant.filled tells (behind_of earlier m) stored (pages_filled opened v c.args.locks.now registers earlier m c.args.hints.now shows full))
