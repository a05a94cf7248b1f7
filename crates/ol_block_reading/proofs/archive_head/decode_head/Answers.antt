use Rattle.std.proofs.Common.{◌≡◌, ◌∙◌, ap, arith, drop, false, length, subst, sym, take, true}
use Rattle.ol_values.specs.Blocks.{ArchiveHead}
use Rattle.ol_object.specs.Bytes.{archive_head_bytes, padded_to}
use Rattle.ol_block_reading.specs.Grammar.{IsArchiveHead}
use Rattle.ol_block_reading.specs.Testing.{archive_head_in, are_zeros, is_archive_head}
use Rattle.ol_block_reading.proofs.Heads.{head_is_short, payload_again, payload_takes}
use Rattle.ol_block_reading.proofs.archive_head.decode_head.Goals.{then-not-is_archive_head-via-then-not-is_archive_head, then-not-is_archive_head-via-else-not-is_archive_head+then-not-are_zeros}
use Rattle.ol_block_reading.proofs.archive_head.decode_head.Goals as goal

pub returns-then-used-gt-PAYLOAD_LENGTH-clause-none : goal.returns-then-used-gt-PAYLOAD_LENGTH-clause-none
returns-then-used-gt-PAYLOAD_LENGTH-clause-none c = λ none h is padded count. omega (arith, head_is_short h is, count, c.if-used-gt-PAYLOAD_LENGTH.true)

pub returns-then-not-is_archive_head-clause-none : goal.returns-then-not-is_archive_head-clause-none
returns-then-not-is_archive_head-clause-none c = λ none h is padded count.
    let good = payload_again c.args.payload.now c.args.used h is padded count in
    elim c.then-not-is_archive_head.branch [
      | then-not-is_archive_head-via-then-not-is_archive_head w ↦
          let never : false ≡ true = sym w.if-not-is_archive_head.true ∙ c.is_archive_head.ensures ∙ ap is_archive_head c.split_at.ensures.front ∙ good.0 in
          absurd cc
      | then-not-is_archive_head-via-else-not-is_archive_head+then-not-are_zeros w ↦
          let never : false ≡ true = sym w.if-not-are_zeros.true ∙ w.are_zeros.ensures ∙ ap are_zeros c.split_at.ensures.back ∙ good.1 in
          absurd cc
    ]

pub returns-clause-found : goal.returns-clause-found
returns-clause-found c =
    let payload = c.args.payload.now in
    let head : is_archive_head (take c.args.used payload) ≡ true = ap is_archive_head (sym c.split_at.ensures.front) ∙ sym c.is_archive_head.ensures ∙ c.if-not-is_archive_head.false in
    let zeros : are_zeros (drop c.args.used payload) ≡ true = ap are_zeros (sym c.split_at.ensures.back) ∙ sym c.are_zeros.ensures ∙ c.if-not-are_zeros.false in
    let is = payload_takes payload c.args.used c.told-payload c.fits-payload c.if-used-gt-PAYLOAD_LENGTH.false head zeros in
    subst (λ (h : ArchiveHead). IsArchiveHead h × (payload ≡ padded_to 2048 (archive_head_bytes h)) × (c.args.used ≡ length (archive_head_bytes h))) (sym (c.in_ok-head.ensures ∙ ap archive_head_in c.split_at.ensures.front)) is
