use Rattle.std.specs.Prelude.{ℕ, ◌≡◌, true}
use Rattle.std.proofs.Common.{ap, arith, ◌∙◌}
use Rattle.ol_values.specs.Config.{data_pages}
use Rattle.ol_storage.specs.Behind.{is_up, pages_of}
use Rattle.ol_storage.specs.Installation.{Installation, config_of}
use Rattle.ol_storage.specs.declared.storage.StorageFault.TheVariants.{Bad, NoMemory}
use Rattle.ol_free_slots.proofs.Finding.{page_there}
use Rattle.ol_free_slots.proofs.Reading.{other_answer, read_bad, read_loaded, read_more, read_unframed}
use Rattle.ol_archive_start.specs.Starting.{changed_upto}
use Rattle.ol_archive_start.proofs.Counted.{changed_more}
use Rattle.ol_archive_start.proofs.counting.count_changed.Goals as goal

pub returns-in-Err-clause-good : goal.returns-in-Err-clause-good
returns-in-Err-clause-good g c tells b stored chunk at e =
    let up : is_up c.loop-page.storage.now.anchor c.args.space ≡ true = ap (λ (x : Installation). is_up x.anchor c.args.space) c.loop-page.invariant.read.step ∙ c.requires.up in
    c.in-Err.ensures.good tells b (c.loop-page.invariant.stored tells b stored) up chunk at (other_answer c.in-Err.fault (Bad chunk at) e)

pub loop-page-preserved : goal.loop-page-preserved
loop-page-preserved g c =
    let v = c.args.storage.now.now in
    let w = c.loop-page.storage.now in
    let i = c.loop-page.invariant in
    let up : is_up w.anchor c.args.space ≡ true = ap (λ (x : Installation). is_up x.anchor c.args.space) i.read.step ∙ c.requires.up in
    record {
      read = read_more v w c.stamp.new.self.now i.read (read_loaded w c.stamp.new.self.now c.args.space c.loop-page.page c.in-Ok.ensures.step c.in-Ok.ensures.loaded);
      past = λ tells. c.in-Ok.ensures.past tells ∙ i.past tells;
      stored = λ tells b stored. c.in-Ok.ensures.stored tells b (i.stored tells b stored) up;
      faults = c.in-Ok.ensures.cause.kept (λ e. absurd cc) ∙ i.faults;
      limit = grind (arith, c.one_more-count.ensures, i.limit);
      counted = λ tells b stored. c.one_more-count.ensures
          ∙ changed_more (pages_of v.anchor b) c.args.space c.args.base c.loop-page.page c.loop-page.count c.in-Ok.stamp (i.counted tells b stored) (c.in-Ok.ensures.stamp tells b (i.stored tells b stored) up);
    }

pub returns-clause-value : goal.returns-clause-value
returns-clause-value g c tells b stored =
    let v = c.args.storage.now.now in
    let all : c.loop-page.page ≡ data_pages (config_of v) c.args.space = omega (arith, c.page_count-pages.ensures.value, c.loop-page.auto.page-end, c.loop-page-test.false) in
    c.loop-page.invariant.counted tells b stored ∙ ap (λ (n : ℕ). changed_upto (pages_of v.anchor b) c.args.space c.args.base n) all

pub returns-in-Err-clause-bad : goal.returns-in-Err-clause-bad
returns-in-Err-clause-bad g c chunk at e =
    let v = c.args.storage.now.now in (
      c.args.space,
      c.loop-page.page,
      page_there (config_of v) c.args.space c.loop-page.page c.requires.space (omega (arith, c.page_count-pages.ensures.value, c.loop-page-test.true)),
      read_bad v c.loop-page.storage.now c.args.space c.loop-page.page chunk at c.loop-page.invariant.read (c.in-Err.ensures.bad chunk at (other_answer c.in-Err.fault (Bad chunk at) e)),
    )

pub returns-in-Err-clause-memory : goal.returns-in-Err-clause-memory
returns-in-Err-clause-memory g c e =
    let v = c.args.storage.now.now in (
      c.args.space,
      c.loop-page.page,
      page_there (config_of v) c.args.space c.loop-page.page c.requires.space (omega (arith, c.page_count-pages.ensures.value, c.loop-page-test.true)),
      read_unframed v c.loop-page.storage.now c.args.space c.loop-page.page c.loop-page.invariant.read (c.in-Err.ensures.memory (other_answer c.in-Err.fault NoMemory e)),
    )
