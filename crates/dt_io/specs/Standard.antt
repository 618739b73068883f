-- A source over a reader of std, a sink over a writer, and a store over a folder, as contracts see them.
use Rattle.std.specs.Prelude.{ℕ}
use Rattle.dt_io.specs.declared.standard.StdSource.{StdSource}
use Rattle.dt_io.specs.declared.standard.StdSink.{StdSink}
use Rattle.dt_io.specs.declared.folder.FolderStore.{FolderStore}

-- the reader of a source
abbrev pub reader_of : {R : Type 0} → StdSource R → R
reader_of s = s.reader

-- how often a source failed
abbrev pub source_faults : {R : Type 0} → StdSource R → ℕ
source_faults s = s.faults

-- the writer of a sink
abbrev pub writer_of : {W : Type 0} → StdSink W → W
writer_of s = s.writer

-- how often a sink failed
abbrev pub sink_faults : {W : Type 0} → StdSink W → ℕ
sink_faults s = s.faults

-- how often a store failed
abbrev pub store_faults : {R File Dir : Type 0} → FolderStore R File Dir → ℕ
store_faults s = s.faults
