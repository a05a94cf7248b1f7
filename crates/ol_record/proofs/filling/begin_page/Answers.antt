use Rattle.std.proofs.Common.{◌≡◌, arith}
use Rattle.ol_record.specs.LogPages.{IsFilling, blank_page, log_page_bytes}
use Rattle.ol_record.proofs.Filled.{blank_fills, buffer_from, is_blank}
use Rattle.ol_record.proofs.filling.begin_page.Goals as goal

pub returns-clause-bytes : goal.returns-clause-bytes
returns-clause-bytes c =
    is_blank c.args.index c.args.uniq c.args.incarnation c.args.first c.put_front.new.out c.clear_from.new.out c.clear_from.ensures c.put_front.ensures (omega (arith, c.told-page))

pub returns-clause-buffer : goal.returns-clause-buffer
returns-clause-buffer c =
    let image : c.clear_from.new.out ≡ log_page_bytes 0 (blank_page c.args.index c.args.uniq c.args.incarnation c.args.first) = is_blank c.args.index c.args.uniq c.args.incarnation c.args.first c.put_front.new.out c.clear_from.new.out c.clear_from.ensures c.put_front.ensures (omega (arith, c.told-page)) in
    let is : IsFilling (blank_page c.args.index c.args.uniq c.args.incarnation c.args.first) = blank_fills _ _ _ _ (omega arith) (omega arith) (omega arith) (omega arith) in
    (buffer_from c.clear_from.new.out 0 (blank_page c.args.index c.args.uniq c.args.incarnation c.args.first) is image).buffer

pub returns-clause-value : goal.returns-clause-value
returns-clause-value c =
    let image : c.clear_from.new.out ≡ log_page_bytes 0 (blank_page c.args.index c.args.uniq c.args.incarnation c.args.first) = is_blank c.args.index c.args.uniq c.args.incarnation c.args.first c.put_front.new.out c.clear_from.new.out c.clear_from.ensures c.put_front.ensures (omega (arith, c.told-page)) in
    let is : IsFilling (blank_page c.args.index c.args.uniq c.args.incarnation c.args.first) = blank_fills _ _ _ _ (omega arith) (omega arith) (omega arith) (omega arith) in
    (buffer_from c.clear_from.new.out 0 (blank_page c.args.index c.args.uniq c.args.incarnation c.args.first) is image).value
