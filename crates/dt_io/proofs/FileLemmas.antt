-- Lists of files, as the files that they give by name.
use Rattle.std.proofs.Common.{◌≡◌, ℕ, zero, suc, ◌+◌, ◌<◌, ◌≤◌, List, [], ◌∷◌, ◌++◌, length, get_or, refl, ap, sym, ◌∙◌, subst, arith, Option, Some, None, option_map, Bool, true, false, cond, position, find, inl, inr}
use Rattle.std.proofs.Math.ListN.{set}
use Rattle.std.specs.List.{position_or_len}
use Rattle.std.specs.Str.{bytes_eq}
use Rattle.std.proofs.lemmas.Bool.{cases_lt, lt-ltb}
use Rattle.std.proofs.lemmas.List.Quantifiers.{position-Some}
use Rattle.std.proofs.lemmas.List.Sums.{fails_before_first}
use Rattle.std.proofs.lemmas.Slice.Eq.{bytes_eq-Decides}
use Rattle.std.specs.Prelude.{nat_lt}
use Rattle.dt_base.proofs.Firsts.{bytes_eq-swap}
use Rattle.dt_io.specs.declared.files.NamedFile.{NamedFile}
use Rattle.dt_io.specs.Files.{Files, file_of, with_file}

-- a file with the name, in front of others
in_front : (x : Option (List ℕ)) (name bytes other : List ℕ) (t : Bool) → bytes_eq name other ≡ t → (rest : Option (List ℕ)) → cond t (Some bytes) rest ≡ cond (bytes_eq other name) (Some bytes) (cond t x rest)
in_front x name bytes other true e rest = ap (λ (s : Bool). cond s (Some bytes) x) (sym (bytes_eq-swap other name ∙ e))
in_front x name bytes other false e rest = ap (λ (s : Bool). cond s (Some bytes) rest) (sym (bytes_eq-swap other name ∙ e))

-- a file of another name, in front of others
behind : (name bytes other own : List ℕ) (x y z : Option (List ℕ)) → bytes_eq own name ≡ false → y ≡ cond (bytes_eq other name) (Some bytes) z
    → cond (bytes_eq own other) x y ≡ cond (bytes_eq other name) (Some bytes) (cond (bytes_eq own other) x z)
behind name bytes other own x y z apart same = by_test (bytes_eq own other) refl
  where
    by_test : (t : Bool) → bytes_eq own other ≡ t → cond t x y ≡ cond (bytes_eq other name) (Some bytes) (cond t x z)
    by_test true e =
        let is : own ≡ other = (bytes_eq-Decides own other).0 e in
        ap (λ (s : Bool). cond s (Some bytes) x) (sym (ap (λ (n : List ℕ). bytes_eq n name) (sym is) ∙ apart))
    by_test false e = same

mapped : (f : NamedFile) (t : Bool) (rest : Option NamedFile) → option_map (λ f. f.bytes) (cond t (Some f) rest) ≡ cond t (Some f.bytes) (option_map (λ f. f.bytes) rest)
mapped f true rest = refl
mapped f false rest = refl

-- one more file in front
cons_file : (x : NamedFile) (xs : List NamedFile) (other : List ℕ) → file_of (x ∷ xs) other ≡ cond (bytes_eq x.name other) (Some x.bytes) (file_of xs other)
cons_file x xs other = mapped x (bytes_eq x.name other) (find (λ f. bytes_eq f.name other) xs)

-- the first file of a name with other bytes
set_at : (files : List NamedFile) (k : ℕ) (name : List ℕ) (f d : NamedFile) → k < length files → bytes_eq (get_or files k d).name name ≡ true → f.name ≡ (get_or files k d).name
    → ((j : ℕ) → j < k → bytes_eq (get_or files j d).name name ≡ false) → (other : List ℕ) → file_of (set files k f) other ≡ with_file (file_of files) name f.bytes other
set_at [] k name f d h here same before other = absurd (omega arith)
set_at (x ∷ xs) zero name f d h here same before other =
    let own : x.name ≡ name = (bytes_eq-Decides x.name name).0 here in
    cons_file f xs other
    ∙ ap (λ (n : List ℕ). cond (bytes_eq n other) (Some f.bytes) (file_of xs other)) (same ∙ own)
    ∙ in_front (Some x.bytes) name f.bytes other (bytes_eq name other) refl (file_of xs other)
    ∙ ap (λ (n : List ℕ). cond (bytes_eq other name) (Some f.bytes) (cond (bytes_eq n other) (Some x.bytes) (file_of xs other))) (sym own)
    ∙ ap (λ (r : Option (List ℕ)). cond (bytes_eq other name) (Some f.bytes) r) (sym (cons_file x xs other))
set_at (x ∷ xs) (suc k) name f d h here same before other =
    cons_file x (set xs k f) other
    ∙ behind name f.bytes other x.name (Some x.bytes) (file_of (set xs k f) other) (file_of xs other) (before 0 (omega arith)) (set_at xs k name f d (omega arith) here same (λ j l. before (suc j) (omega arith)) other)
    ∙ ap (λ (r : Option (List ℕ)). cond (bytes_eq other name) (Some f.bytes) r) (sym (cons_file x xs other))

-- a file behind files of other names
add_at : (files : List NamedFile) (f d : NamedFile) → ((j : ℕ) → j < length files → bytes_eq (get_or files j d).name f.name ≡ false) → (other : List ℕ) → file_of (files ++ f ∷ []) other ≡ with_file (file_of files) f.name f.bytes other
add_at [] f d before other = cons_file f [] other ∙ ap (λ (s : Bool). cond s (Some f.bytes) None) (bytes_eq-swap f.name other)
add_at (x ∷ xs) f d before other =
    cons_file x (xs ++ f ∷ []) other
    ∙ behind f.name f.bytes other x.name (Some x.bytes) (file_of (xs ++ f ∷ []) other) (file_of xs other) (before 0 (omega arith)) (add_at xs f d (λ j l. before (suc j) (omega arith)) other)
    ∙ ap (λ (r : Option (List ℕ)). cond (bytes_eq other f.name) (Some f.bytes) r) (sym (cons_file x xs other))

-- no item passes where none is found
fails_everywhere : (p : NamedFile → Bool) (xs : List NamedFile) (d : NamedFile) → position p xs ≡ None → (j : ℕ) → j < length xs → p (get_or xs j d) ≡ false
fails_everywhere p xs d none j h = elim (cases_lt (position_or_len p xs) (length xs)) [
  | inl lt ↦ absurd (let some : position p xs ≡ Some (position_or_len p xs) = ap (λ (b : Bool). cond b (Some (position_or_len p xs)) None) (lt-ltb (position_or_len p xs) (length xs) lt) in cc)
  | inr ge ↦ fails_before_first p xs j d (omega arith)
]

-- what a put makes of the files, by the place of the name
pub file_set : (files : List NamedFile) (k : ℕ) (name : List ℕ) (f d : NamedFile) → position (λ f. bytes_eq f.name name) files ≡ Some k → f.name ≡ (get_or files k d).name → file_of (set files k f) ≡ with_file (file_of files) name f.bytes
file_set files k name f d e same =
    let at = position-Some (λ f. bytes_eq f.name name) files k d e in
    λ i other. set_at files k name f d at.0 at.1 same at.2 other i

pub file_added : (files : List NamedFile) (f d : NamedFile) → position (λ g. bytes_eq g.name f.name) files ≡ None → file_of (files ++ f ∷ []) ≡ with_file (file_of files) f.name f.bytes
file_added files f d e = λ i other. add_at files f d (fails_everywhere (λ g. bytes_eq g.name f.name) files d e) other i

-- the file that is found, by its place
at_place : (p : NamedFile → Bool) (files : List NamedFile) (k : ℕ) (d : NamedFile) → k < length files → p (get_or files k d) ≡ true → ((j : ℕ) → j < k → p (get_or files j d) ≡ false) → find p files ≡ Some (get_or files k d)
at_place p [] k d h here before = absurd (omega arith)
at_place p (x ∷ xs) zero d h here before = ap (λ (b : Bool). cond b (Some x) (find p xs)) here
at_place p (x ∷ xs) (suc k) d h here before = ap (λ (b : Bool). cond b (Some x) (find p xs)) (before 0 (omega arith)) ∙ at_place p xs k d (omega arith) here (λ j l. before (suc j) (omega arith))

nowhere : (p : NamedFile → Bool) (files : List NamedFile) (d : NamedFile) → ((j : ℕ) → j < length files → p (get_or files j d) ≡ false) → find p files ≡ None
nowhere p [] d fails = refl
nowhere p (x ∷ xs) d fails = ap (λ (b : Bool). cond b (Some x) (find p xs)) (fails 0 (omega arith)) ∙ nowhere p xs d (λ j l. fails (suc j) (omega arith))

pub file_found : (files : List NamedFile) (k : ℕ) (name : List ℕ) (d : NamedFile) → position (λ f. bytes_eq f.name name) files ≡ Some k → file_of files name ≡ Some (get_or files k d).bytes
file_found files k name d e =
    let at = position-Some (λ f. bytes_eq f.name name) files k d e in
    ap (λ (r : Option NamedFile). option_map (λ f. f.bytes) r) (at_place (λ f. bytes_eq f.name name) files k d at.0 at.1 at.2)

pub file_missing : (files : List NamedFile) (name : List ℕ) → position (λ f. bytes_eq f.name name) files ≡ None → file_of files name ≡ None
file_missing files name e = ap (λ (r : Option NamedFile). option_map (λ f. f.bytes) r) (nowhere (λ f. bytes_eq f.name name) files empty (fails_everywhere (λ f. bytes_eq f.name name) files empty e))
  where
    empty : NamedFile
    empty = record { name = []; bytes = [] }
