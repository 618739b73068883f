-- The files of a store, and what its calls say of them.
use Rattle.std.specs.Prelude.{◌≡◌, ◌⊎◌, ℕ, ◌≤◌, ◌<◌, List, length, Option, Some, None, option_map, find, Result, Ok, Err, ⊤, if◌then◌else◌}
use Rattle.std.specs.Str.{bytes_eq}
use Rattle.dt_io.specs.declared.files.NamedFile.{NamedFile}
use Rattle.dt_io.specs.declared.ends.FetchEnd.{FetchEnd}
use Rattle.dt_io.specs.declared.ends.FetchEnd.TheVariants as fetch
use Rattle.dt_io.specs.declared.ends.PutEnd.{PutEnd}

-- the bytes of the file with a name, where there is one
abbrev pub Files : Type 0
Files = List ℕ → Option (List ℕ)

-- those of a list of files
abbrev pub file_of : List NamedFile → Files
file_of files name = option_map (λ f. f.bytes) (find (λ f. bytes_eq f.name name) files)

-- the files with these bytes under this name, and all else as before
abbrev pub with_file : Files → List ℕ → List ℕ → Files
with_file files name bytes other = if bytes_eq other name then Some bytes else files other

-- what is fetched: the bytes under the name, within the limit; nothing and TooLong say so
abbrev pub Fetches : Files → List ℕ → ℕ → Result (Option (List ℕ)) FetchEnd → Type 0
Fetches files name limit (Ok (Some bytes)) = (files name ≡ Some bytes) × (length bytes ≤ limit)
Fetches files name limit (Ok None) = files name ≡ None
Fetches files name limit (Err fetch.TooLong) = (bytes : List ℕ) × (files name ≡ Some bytes) × (limit < length bytes)
Fetches files name limit (Err fetch.Failed) = ⊤
Fetches files name limit (Err fetch.NoMemory) = ⊤

-- the same where the files are told
abbrev pub FetchesTold : Option Files → List ℕ → ℕ → Result (Option (List ℕ)) FetchEnd → Type 0
FetchesTold None name limit result = ⊤
FetchesTold (Some files) name limit result = Fetches files name limit result

-- what a put leaves: the files with this one, and after an error these or the old ones
abbrev pub Puts : Files → Files → List ℕ → List ℕ → Result ⊤ PutEnd → Type 0
Puts old new name bytes (Ok done) = new ≡ with_file old name bytes
Puts old new name bytes (Err end) = (new ≡ old) ⊎ (new ≡ with_file old name bytes)

-- the same where the files are told, as they are afterwards if they were
abbrev pub PutsTold : Option Files → Option Files → List ℕ → List ℕ → Result ⊤ PutEnd → Type 0
PutsTold None None name bytes result = ⊤
PutsTold (Some old) (Some new) name bytes result = Puts old new name bytes result
PutsTold None (Some new) name bytes result = ⊥
PutsTold (Some old) None name bytes result = ⊥
