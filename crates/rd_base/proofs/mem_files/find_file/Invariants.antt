use Rattle.std.proofs.Common.{◌≡◌, map, drop}
use Rattle.rd_base.specs.Outside.{file_of}
use Rattle.rd_base.specs.MemFiles.{seen_file}
use Rattle.rd_base.proofs.mem_files.find_file.Given as goal

abbrev pub invariant-loop-file : goal.invariant-loop-file
invariant-loop-file l = file_of l.name (map seen_file l.files) ≡ file_of l.name (map seen_file (drop l.file-index l.files))
