use Rattle.std.proofs.Common.{◌≡◌, ℕ, List, Some, None, Option, position, ap, sym, ◌∙◌, subst}
use Rattle.std.specs.Str.{bytes_eq}
use Rattle.dt_io.specs.declared.files.NamedFile.{NamedFile}
use Rattle.dt_io.specs.Files.{file_of}
use Rattle.dt_io.specs.Memory.{StoreState}
use Rattle.dt_io.proofs.FileLemmas.{file_found, file_missing}
use Rattle.dt_io.proofs.mem_store.MemStore.file.Goals as goal

pub returns-in-None : goal.returns-in-None
returns-in-None c =
    let none = ap (λ (l : List NamedFile). position (λ f. bytes_eq f.name c.args.name.now) l) (sym c.as_slice.ensures.value) ∙ sym c.place_of.ensures ∙ c.in-None.is in
    subst (λ (s : StoreState). ◌≡◌ {A = Option (List ℕ)} None (file_of s.files c.args.name.now)) c.self.view_is (sym (file_missing c.self.inside.files.items c.args.name.now none))

pub returns-in-Some : goal.returns-in-Some
returns-in-Some c =
    let found = ap (λ (l : List NamedFile). position (λ f. bytes_eq f.name c.args.name.now) l) (sym c.as_slice.ensures.value) ∙ sym c.place_of.ensures ∙ c.in-Some.is in
    subst (λ (s : StoreState). Some c.as_slice-in-Some.result.now ≡ file_of s.files c.args.name.now) c.self.view_is
    (ap (λ (b : List ℕ). Some b) (c.as_slice-in-Some.ensures ∙ ap (λ (f : NamedFile). f.bytes) c.index.ensures)
    ∙ sym (file_found c.self.inside.files.items c.in-Some.k c.args.name.now c.index.result.now found))
