use Rattle.std.proofs.Common.{refl, subst, sym, true, ◌<◌, ◌≡◌}
use Rattle.ol_values.specs.Config.{has_page}
use Rattle.ol_chunks.specs.Limits.{chunk_count}
use Rattle.ol_data_pages.specs.Places.{place_of}
use Rattle.ol_data_pages.proofs.PlaceLaws.{place_bounds}
use Rattle.ol_store.specs.Stores.{Store}
use Rattle.ol_store.proofs.store.Store.read_place.Goals as goal

pub returns-in-Err-Failed-clause-cause : goal.returns-in-Err-Failed-clause-cause
returns-in-Err-Failed-clause-cause g c =
    let has : has_page c.self.inside.table c.args.space c.args.page ≡ true = subst (λ (s : Store). has_page s.config c.args.space c.args.page ≡ true) (sym c.self.view_is) c.requires.page in
    record {
      later = c.in-Err-Failed.ensures.cause.later;
      failed = λ e. (
        (place_of c.self.inside.table c.args.space c.args.page).0,
        subst (λ (s : Store). (place_of c.self.inside.table c.args.space c.args.page).0 < chunk_count s.config.spaces) c.self.view_is (place_bounds c.self.inside.table c.self.invariant.config c.args.space c.args.page has).0,
        c.in-Err-Failed.ensures.cause.failed (search),
      );
      kept = λ not. absurd (not refl);
    }
