-- What was written is read back.
use Rattle.std.proofs.Common.{◌≡◌, ℕ, zero, suc, ◌+◌, ◌-◌, ◌*◌, ◌/◌, ◌%◌, ◌^◌, ◌<◌, ◌≤◌, List, [], ◌∷◌, ◌++◌, length, get_or, take, drop, map, filter_map, refl, ap, ap₂, sym, ◌∙◌, subst, arith, append-nil, append_assoc, length-append, Option, Some, None, is_none, option_map, Ok, Result, Bool, true, false, cond, ◌&&◌, ◌||◌, ◌==◌, nat_le, nat_lt, inl, inr}
use Rattle.std.specs.Fmt.{decimal}
use Rattle.std.specs.List.{All, AllByRecursion, flat_map, list_all, list_any, zip}
use Rattle.std.proofs.lemmas.Fmt.{decimal_by_steps, length-decimal-le}
use Rattle.std.proofs.lemmas.Bool.{le-leb, lt-ltb, ne_eqb}
use Rattle.std.proofs.lemmas.Bool.Decides.{nat_tests}
use Rattle.std.proofs.lemmas.List.{length-map, take-append-le, take_all, get_or-map}
use Rattle.std.proofs.lemmas.List.Folds.{list_all-append}
use Rattle.std.proofs.Math.Seq.{get_or-append_seam, take-append_seam}
use Rattle.csv.specs.Machine.{Read, next_record}
use Rattle.csv.specs.Reading.{Reached, default_config, records, strip_bom, is_bom}
use Rattle.csv.specs.Writing as csv
use Rattle.csv.specs.Writing.{default_writer, needs_byte, is_blank, read_back}
use Rattle.csv.specs.declared.parser.State.TheVariants as st
use Rattle.csv.proofs.RoundTrip.{read-write}
use Rattle.dt_text.specs.Numbers.{is_digit, digits_value, number_of}
use Rattle.dt_text.proofs.Decimals.{decimal_writes}
use Rattle.dt_files.specs.Rows.{coordinate_of, coordinates_of, entry_of, entries_of, given_with, rows_read}
use Rattle.dt_files.specs.Written.{row_text}
use Rattle.dt_files.specs.declared.ends.RowsEnd.{RowsEnd}
use Rattle.dt_files.proofs.Fields.{entry_is, none_at_end}
use Rattle.dt_files.proofs.Records.{all_records, good_records, AllGive}
use Rattle.dt_tensor.specs.declared.entry.Given.{Given}

-- Numbers ----------------------------------------------------------------------------------------------------------------

-- a number that was written is read
number_back : (n : ℕ) → n < 2 ^ 64 → number_of (decimal n) ≡ Some n
number_back n h =
    let w = decimal_writes n h in
    let short : length (decimal n) ≤ 20 = length-decimal-le 20 n (omega arith) (omega arith) h in
    let small : digits_value (decimal n) < 2 ^ 64 = subst (λ (v : ℕ). v < 2 ^ 64) (sym w.value) h in
    (rw (le-leb 1 (length (decimal n)) w.some, le-leb (length (decimal n)) 20 short, w.digits, lt-ltb (digits_value (decimal n)) (2 ^ 64) small) refl) ∙ ap (λ (v : ℕ). Some v) w.value

coordinate_back : (x : ℕ) → x < 2 ^ 32 → coordinate_of (decimal x) ≡ Some x
coordinate_back x h = rw (number_back x (omega arith), lt-ltb x (2 ^ 32) h) refl

coordinates_back : (xs : List ℕ) → AllByRecursion (λ x. x < 2 ^ 32) xs → coordinates_of (map decimal xs) ≡ Some xs
unfolding coordinates_of
coordinates_back [] h = refl
coordinates_back (x ∷ xs) h = rw (coordinate_back x h.0, coordinates_back xs h.1) refl

-- Fields -----------------------------------------------------------------------------------------------------------------

plain_byte : (b : ℕ) → is_digit b ≡ true → needs_byte default_writer b ≡ false
plain_byte b h = grind (arith, nat_tests)

no_quotes : (ds : List ℕ) → list_all is_digit ds ≡ true → list_any (needs_byte default_writer) ds ≡ false
no_quotes [] h = refl
no_quotes (d ∷ ds) h = by_test (is_digit d) refl h (no_quotes ds)
  where
    by_test : (b : Bool) → is_digit d ≡ b → (b && list_all is_digit ds) ≡ true → (list_all is_digit ds ≡ true → list_any (needs_byte default_writer) ds ≡ false) → (needs_byte default_writer d || list_any (needs_byte default_writer) ds) ≡ false
    by_test true e k rest = rw (plain_byte d e) (rest k)
    by_test false e k rest = absurd (cc)

field_plain : (n : ℕ) → n < 2 ^ 64 → csv.field_text default_writer (decimal n) ≡ decimal n
field_plain n h = ap (λ (b : Bool). cond b (csv.quoted default_writer (decimal n)) (decimal n)) (no_quotes (decimal n) (decimal_writes n h).digits)

-- the fields of an entry's record
abbrev fields : Given → List (List ℕ)
fields e = map decimal e.at ++ decimal e.value ∷ []

-- an entry that a file can hold, of a tensor of this order
abbrev pub IsFine : ℕ → Given → Type 0
IsFine order e = (length e.at ≡ order) × AllByRecursion (λ x. x < 2 ^ 32) e.at × (e.value < 2 ^ 64)

with_comma : (xs : List ℕ) (v : ℕ) → csv.fields_text default_writer (map decimal xs ++ decimal v ∷ []) ≡ 44 ∷ csv.row_body default_writer (map decimal xs ++ decimal v ∷ [])
unfolding csv.fields_text
with_comma [] v = refl
with_comma (x ∷ xs) v = refl

body : (at : List ℕ) (v : ℕ) → AllByRecursion (λ x. x < 2 ^ 32) at → v < 2 ^ 64 → csv.row_body default_writer (map decimal at ++ decimal v ∷ []) ≡ flat_map (λ x. decimal x ++ 44 ∷ []) at ++ decimal v
unfolding csv.fields_text
body [] v h s = rw (field_plain v s) (append-nil (decimal v))
body (x ∷ xs) v h s =
    ap₂ (λ (a b : List ℕ). a ++ b) (field_plain x (omega (arith, h.0))) (with_comma xs v ∙ ap (λ (l : List ℕ). 44 ∷ l) (body xs v h.1 s))
    ∙ sym (append_assoc (decimal x ++ 44 ∷ []) (flat_map (λ x. decimal x ++ 44 ∷ []) xs) (decimal v) ∙ append_assoc (decimal x) (44 ∷ []) (flat_map (λ x. decimal x ++ 44 ∷ []) xs ++ decimal v))

not_blank : (at : List ℕ) (v : ℕ) → v < 2 ^ 64 → is_blank default_writer (map decimal at ++ decimal v ∷ []) ≡ false
unfolding is_blank
not_blank [] v s = rw (field_plain v s) (ne_eqb (length (decimal v)) 0 (λ e. let w = (decimal_writes v s).some in omega arith))
not_blank (x ∷ []) v s = refl
not_blank (x ∷ y ∷ ys) v s = refl

row_same : (at : List ℕ) (v : ℕ) → AllByRecursion (λ x. x < 2 ^ 32) at → v < 2 ^ 64 → csv.row_text default_writer (map decimal at ++ decimal v ∷ []) ≡ row_text at v
row_same at v h s =
    ap (λ (b : Bool). csv.row_body default_writer (map decimal at ++ decimal v ∷ []) ++ ((cond b (34 ∷ 34 ∷ []) []) ++ 10 ∷ [])) (not_blank at v s)
    ∙ ap (λ (l : List ℕ). l ++ 10 ∷ []) (body at v h s) ∙ append_assoc (flat_map (λ x. decimal x ++ 44 ∷ []) at) (decimal v) (10 ∷ [])

itself : (at : List ℕ) (v : ℕ) → read_back (map decimal at ++ decimal v ∷ []) ≡ map decimal at ++ decimal v ∷ []
itself [] v = refl
itself (x ∷ xs) v = refl

-- Records ----------------------------------------------------------------------------------------------------------------

-- one record is read back
row_back : (order : ℕ) (e : Given) (tail : List ℕ) → IsFine order e → next_record default_config st.StartRecord [] [] (row_text e.at e.value ++ tail) ≡ Some (fields e, st.StartRecord, tail)
row_back order e tail h =
    ap (λ (l : List ℕ). next_record default_config st.StartRecord [] [] (l ++ tail)) (sym (row_same e.at e.value h.1 h.2))
    ∙ read-write (fields e) tail ∙ ap (λ (f : List (List ℕ)). Some (f, st.StartRecord, tail)) (itself e.at e.value)

reached : (order : ℕ) (es : List Given) → AllByRecursion (IsFine order) es → Reached default_config st.StartRecord (flat_map (λ (e : Given). row_text e.at e.value) es) (map fields es) st.StartRecord []
unfolding Reached
reached order [] h = (refl, refl)
reached order (e ∷ es) h = ((fields e, st.StartRecord, flat_map (λ (e : Given). row_text e.at e.value) es), row_back order e (flat_map (λ (e : Given). row_text e.at e.value) es) h.0, refl, reached order es h.1)

none_behind : next_record default_config st.StartRecord [] [] [] ≡ None
unfolding next_record
none_behind = refl

no_mark : (b : ℕ) (rest : List ℕ) → is_digit b ≡ true → strip_bom (b ∷ rest) ≡ b ∷ rest
unfolding strip_bom
no_mark b [] h = refl
no_mark b (c ∷ []) h = refl
no_mark b (c ∷ d ∷ rest) h = let other : (b == 239) ≡ false = grind (arith, nat_tests) in rw other refl

no_mark_in : (text ds more : List ℕ) → text ≡ ds ++ more → 0 < length ds → list_all is_digit ds ≡ true → strip_bom text ≡ text
no_mark_in text [] more e some h = absurd (omega arith)
no_mark_in text (d ∷ ds) more e some h = subst (λ (t : List ℕ). strip_bom t ≡ t) (sym e) (by_test (is_digit d) refl h)
  where
    by_test : (b : Bool) → is_digit d ≡ b → (b && list_all is_digit ds) ≡ true → strip_bom (d ∷ (ds ++ more)) ≡ d ∷ (ds ++ more)
    by_test true e k = no_mark d (ds ++ more) e
    by_test false e k = absurd (cc)

strips : (order : ℕ) (es : List Given) → AllByRecursion (IsFine order) es → strip_bom (flat_map (λ (e : Given). row_text e.at e.value) es) ≡ flat_map (λ (e : Given). row_text e.at e.value) es
unfolding strip_bom
strips order [] h = refl
strips order (e ∷ es) h = by_coordinates e.at refl
  where
    rest : List ℕ
    rest = flat_map (λ (e : Given). row_text e.at e.value) es

    by_coordinates : (at : List ℕ) → e.at ≡ at → strip_bom (row_text e.at e.value ++ rest) ≡ row_text e.at e.value ++ rest
    by_coordinates [] q =
        let w = decimal_writes e.value h.0.2 in
        subst (λ (l : List ℕ). strip_bom (row_text l e.value ++ rest) ≡ row_text l e.value ++ rest) (sym q)
        (no_mark_in (row_text [] e.value ++ rest) (decimal e.value) ((10 ∷ []) ++ rest) (append_assoc (decimal e.value) (10 ∷ []) rest) w.some w.digits)
    by_coordinates (x ∷ xs) q =
        let small = subst (λ (l : List ℕ). AllByRecursion (λ x. x < 2 ^ 32) l) q h.0.1 in
        let w = decimal_writes x (omega (arith, small.0)) in
        subst (λ (l : List ℕ). strip_bom (row_text l e.value ++ rest) ≡ row_text l e.value ++ rest) (sym q)
        (no_mark_in (row_text (x ∷ xs) e.value ++ rest) (decimal x) (44 ∷ (flat_map (λ x. decimal x ++ 44 ∷ []) xs ++ ((decimal e.value ++ 10 ∷ []) ++ rest)))
        (append_assoc ((decimal x ++ 44 ∷ []) ++ flat_map (λ x. decimal x ++ 44 ∷ []) xs) (decimal e.value ++ 10 ∷ []) rest
        ∙ append_assoc (decimal x ++ 44 ∷ []) (flat_map (λ x. decimal x ++ 44 ∷ []) xs) ((decimal e.value ++ 10 ∷ []) ++ rest)
        ∙ append_assoc (decimal x) (44 ∷ []) (flat_map (λ x. decimal x ++ 44 ∷ []) xs ++ ((decimal e.value ++ 10 ∷ []) ++ rest))) w.some w.digits)

-- Entries ----------------------------------------------------------------------------------------------------------------

entry_back : (order : ℕ) (e : Given) → IsFine order e → entry_of order (fields e) ≡ Some e
entry_back order e h =
    let count : length (map decimal e.at) ≡ order = length-map e.at decimal ∙ h.0 in
    entry_is order (fields e) e.at (Some e.value) (omega (arith, length-append (map decimal e.at) (decimal e.value ∷ []), count))
    (sym (ap (λ (l : List (List ℕ)). coordinates_of l) (take-append-le order (map decimal e.at) (decimal e.value ∷ []) (omega (arith, count)) ∙ take_all order (map decimal e.at) (omega (arith, count))) ∙ coordinates_back e.at h.1))
    (ap (λ (f : List ℕ). number_of f) (ap (λ (k : ℕ). get_or (fields e) k []) (sym count) ∙ get_or-append_seam (map decimal e.at) (decimal e.value) [] []) ∙ number_back e.value h.2)

entries_back : (order : ℕ) (es : List Given) → AllByRecursion (IsFine order) es → filter_map (entry_of order) (map fields es) ≡ es
entries_back order [] h = refl
entries_back order (e ∷ es) h = rw (entry_back order e h.0) (ap (λ (l : List Given). e ∷ l) (entries_back order es h.1))

all_give : (order : ℕ) (es : List Given) → AllByRecursion (IsFine order) es → AllGive order (map fields es)
all_give order [] h j lt = absurd (omega arith)
all_give order (e ∷ es) h zero lt = ap (λ (o : Option Given). is_none o) (entry_back order e h.0)
all_give order (e ∷ es) h (suc j) lt = all_give order es h.1 j (omega arith)

pub list_back : (order : ℕ) (es : List Given) → AllByRecursion (IsFine order) es → rows_read order (flat_map (λ (e : Given). row_text e.at e.value) es) ≡ Ok es
list_back order es h =
    ap (λ (l : List ℕ). entries_of order (records default_config l)) (strips order es h)
    ∙ ap (λ (l : List (List (List ℕ))). entries_of order l) (all_records default_config st.StartRecord (flat_map (λ (e : Given). row_text e.at e.value) es) [] (map fields es) (reached order es h) none_behind)
    ∙ good_records order (map fields es) (all_give order es h) ∙ ap (λ (l : List Given). Ok l) (entries_back order es h)
