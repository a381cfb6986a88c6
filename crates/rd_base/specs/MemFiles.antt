-- What contracts see of files in memory.
use Rattle.std.specs.Prelude.{ℕ, List, Some}
use Rattle.rd_base.specs.Outside.{NamedFile, FilesTold}
use Rattle.rd_base.specs.declared.mem_files.MemFile.{MemFile}

-- what they have, their count of faults, the number of the next read, and the reads that are to fail
pub record MemFilesView : Type 0 where
  pub files : List NamedFile
  pub faults : ℕ
  pub calls : ℕ
  pub failing : List ℕ

-- what they tell
abbrev pub files_tell : MemFilesView → FilesTold
files_tell f = record { files = Some f.files; faults = f.faults }

abbrev pub seen_file : MemFile → NamedFile
seen_file f = record { name = f.name; bytes = f.bytes }
