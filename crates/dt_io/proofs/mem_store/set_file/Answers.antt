use Rattle.std.proofs.Common.{◌≡◌, ℕ, List, Some, None, Option, position, ap, sym, ◌∙◌}
use Rattle.std.specs.Str.{bytes_eq}
use Rattle.dt_io.specs.declared.files.NamedFile.{NamedFile}
use Rattle.dt_io.specs.Files.{Files, file_of, with_file}
use Rattle.dt_io.proofs.FileLemmas.{file_set, file_added}
use Rattle.dt_io.proofs.mem_store.set_file.Goals as goal

pub returns-in-Some-clause-ok : goal.returns-in-Some-clause-ok
returns-in-Some-clause-ok c =
    let found = ap (λ (l : List NamedFile). position (λ f. bytes_eq f.name c.args.name.now) l) (sym c.as_slice.ensures.value) ∙ sym c.place_of.ensures ∙ c.in-Some.is in
    let file : NamedFile = record { name = c.index_mut.result.now.name; bytes = c.in_ok-bytes.bytes } in
    file_set c.args.files.now.items c.in-Some.k c.args.name.now file c.index_mut.result.now found (ap (λ (f : NamedFile). f.name) c.index_mut.ensures.value)
    ∙ ap (λ (b : List ℕ). with_file (file_of c.args.files.now.items) c.args.name.now b) c.in_ok-bytes.ensures

pub returns-in_ok-push-in-None-clause-ok : goal.returns-in_ok-push-in-None-clause-ok
returns-in_ok-push-in-None-clause-ok c =
    let named : c.in_ok-name-in-None.name ≡ c.args.name.now = c.in_ok-name-in-None.ensures ∙ c.as_bytes.ensures.value in
    let none = ap (λ (n : List ℕ). position (λ f. bytes_eq f.name n) c.args.files.now.items) named ∙ ap (λ (l : List NamedFile). position (λ f. bytes_eq f.name c.args.name.now) l) (sym c.as_slice.ensures.value) ∙ sym c.place_of.ensures ∙ c.in-None.is in
    let file : NamedFile = record { name = c.in_ok-name-in-None.name; bytes = c.in_ok-bytes.bytes } in
    ap (λ (l : List NamedFile). file_of l) c.in_ok-push-in-None.ensures.items
    ∙ file_added c.args.files.now.items file file none
    ∙ ap (λ (n : List ℕ). with_file (file_of c.args.files.now.items) n c.in_ok-bytes.bytes) named
    ∙ ap (λ (b : List ℕ). with_file (file_of c.args.files.now.items) c.args.name.now b) c.in_ok-bytes.ensures
