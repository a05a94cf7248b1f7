use Rattle.std.proofs.Common.{ap, sym, ◌≡◌, ◌∙◌, insert, ℕ, List, Result, Ok, Err, refl}
use Rattle.std.specs.Prelude.{IsOk, if◌then◌else◌, is_ok}
use Rattle.ol_before.specs.Images.{Image, rank_of}
use Rattle.ol_before.proofs.OrderLaws.{with_image_is}
use Rattle.ol_before.proofs.order.put.Goals as goal

when_ok : {A E X : Type 0} (r : Result A E) (x y : X) → IsOk r → (if is_ok r then x else y) ≡ x
when_ok (Ok a) x y ok = refl
when_ok (Err e) x y ok = absurd (cc)

pub returns-clause-items : goal.returns-clause-items
returns-clause-items c =
    let image : Image = record { space = c.args.space; page = c.args.page; bytes = c.args.image.now } in
    let held = c.args.held.now.items in
    let at : c.rank-at.result ≡ rank_of image.space image.page held = c.rank-at.ensures.value ∙ ap (λ (l : List Image). rank_of image.space image.page l) c.deref.ensures.value in
    c.insert-inserted.ensures.items
    ∙ when_ok c.insert-inserted.result (insert held c.rank-at.result c.new.result) held (c.insert-inserted.ensures.succeeds c.requires.room)
    ∙ ap (λ (n : ℕ). insert held n c.new.result) at
    ∙ ap (λ (i : Image). insert held (rank_of image.space image.page held) i) c.new.ensures
    ∙ sym (with_image_is image held)
