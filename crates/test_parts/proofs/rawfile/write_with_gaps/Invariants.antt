-- each write begins within the file
use Rattle.std.proofs.Common.{◌*◌, ◌≤◌, length}
use Rattle.rb_filedisk.specs.FileDisk.{file_of}
use Rattle.rb_memfile.specs.MemFile.{bytes_of}
use Rattle.test_parts.proofs.rawfile.write_with_gaps.Given as goal

abbrev pub invariant-loop-i : goal.invariant-loop-i
invariant-loop-i l = 2 * l.count ≤ length (bytes_of (file_of l.disk))
