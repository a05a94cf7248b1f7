use Rattle.std.proofs.Common.{◌≡◌, length}
use Rattle.ol_devices.proofs.shelf_file.FileShelf.open.Given as goal

abbrev pub invariant-loop-drive : goal.invariant-loop-drive
invariant-loop-drive l = length l.drives.items ≡ l.drive
