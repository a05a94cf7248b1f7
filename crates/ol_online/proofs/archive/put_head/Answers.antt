use Rattle.std.proofs.Common.{List, ap, length, take, ◌∙◌, ℕ}
use Rattle.ol_values.specs.Blocks.{ArchiveHead}
use Rattle.ol_values.specs.Config.{config_text}
use Rattle.ol_object.specs.Bytes.{archive_head_bytes, padded_to}
use Rattle.ol_object.specs.Spaces.{archive_head_of}
use Rattle.ol_online.proofs.BlockLaws.{head_made, text_front}
use Rattle.ol_online.proofs.archive.put_head.Goals as goal

pub returns-clause-used : goal.returns-clause-used
returns-clause-used c =
    let text = text_front c.text-length.result c.text-length.new.buf (config_text c.args.table.now) _ c.text-length.ensures.text c.text-length.ensures.length in
    let is = c.in_ok-head.ensures ∙ ap (λ (l : List (ℕ × ℕ × ℕ)). archive_head_of l (take c.text-length.result c.text-length.new.buf)) c.deref.ensures.value ∙ head_made c.args.table.now c.args.archive.now c.in_ok-spaces.spaces.items (take c.text-length.result c.text-length.new.buf) c.in_ok-spaces.ensures.value text in
    c.encode.ensures.used ∙ ap (λ (h : ArchiveHead). length (archive_head_bytes h)) is

pub returns-clause-bytes : goal.returns-clause-bytes
returns-clause-bytes c =
    let text = text_front c.text-length.result c.text-length.new.buf (config_text c.args.table.now) _ c.text-length.ensures.text c.text-length.ensures.length in
    let is = c.in_ok-head.ensures ∙ ap (λ (l : List (ℕ × ℕ × ℕ)). archive_head_of l (take c.text-length.result c.text-length.new.buf)) c.deref.ensures.value ∙ head_made c.args.table.now c.args.archive.now c.in_ok-spaces.spaces.items (take c.text-length.result c.text-length.new.buf) c.in_ok-spaces.ensures.value text in
    c.encode.ensures.bytes ∙ ap (λ (h : ArchiveHead). padded_to 2048 (archive_head_bytes h)) is
