-- The records of a text that were read, and all of them.
use Rattle.std.proofs.Common.{◌≡◌, ℕ, zero, suc, ◌+◌, ◌-◌, ◌^◌, ◌<◌, ◌≤◌, List, [], ◌∷◌, ◌++◌, length, get_or, min, refl, ap, ap₂, sym, ◌∙◌, subst, arith, append-nil, append_assoc, Option, Some, None, is_none, find, Bool, true, false, cond, Ok, Err, Result, inl, inr, ◌⊎◌, length-append, filter_map}
use Rattle.std.proofs.Math.Seq.{get_or-append_seam}
use Rattle.std.proofs.lemmas.Bool.{cases_lt}
use Rattle.std.proofs.lemmas.List.{get_or_append_left}
use Rattle.std.proofs.lemmas.List.Elements.{filter_map-append}
use Rattle.csv.specs.Machine.{Read, next_record, step, is_end, fields_after, field_after, ends_at_end}
use Rattle.csv.specs.Reading.{Reached, records, records_from, records_next}
use Rattle.csv.specs.declared.parser.Config.{Config}
use Rattle.csv.specs.declared.parser.State.{State}
use Rattle.csv.specs.declared.parser.State.TheVariants as st
use Rattle.dt_base.specs.Ranges.{below}
use Rattle.dt_base.proofs.Firsts.{find-below-none, find-below-some}
use Rattle.dt_files.specs.declared.ends.RowsEnd.{RowsEnd}
use Rattle.dt_files.specs.declared.ends.RowsEnd.TheVariants as ends
use Rattle.dt_files.specs.Rows.{entry_of, entries_of, read_or}
use Rattle.dt_tensor.specs.declared.entry.Given.{Given}

-- a read takes a byte, or the text has none and nothing comes behind
abbrev Takes : List ℕ → Read → Type 0
Takes xs q = (length q.2 < length xs) ⊎ ((q.1 ≡ st.StartRecord) × (q.2 ≡ []))

takes : (cfg : Config) (s : State) (fields : List (List ℕ)) (field xs : List ℕ) (q : Read) → next_record cfg s fields field xs ≡ Some q → Takes xs q
unfolding next_record
takes cfg s fields field [] q e = by_test (ends_at_end s) e
  where
    by_test : (b : Bool) → cond b (Some (fields ++ field ∷ [], st.StartRecord, [])) None ≡ Some q → Takes [] q
    by_test true k =
        let same : ◌≡◌ {A = Read} (fields ++ field ∷ [], st.StartRecord, []) q = cc in
        inr (sym (ap (λ (p : Read). p.1) same), sym (ap (λ (p : Read). p.2) same))
    by_test false k = absurd (let bad : ◌≡◌ {A = Option Read} None (Some q) = k in cc)
takes cfg s fields field (c ∷ rest) q e =
    by_test (is_end (step cfg s c).1) (takes cfg (step cfg s c).0 (fields_after (step cfg s c).1 fields field) (field_after (step cfg s c).1 c field) rest q) e
  where
    shorter : Takes rest q → Takes (c ∷ rest) q
    shorter (inl lt) = inl (omega arith)
    shorter (inr none) = inl (let e : length q.2 ≡ 0 = ap length none.1 in omega arith)

    by_test : (b : Bool) → (next_record cfg (step cfg s c).0 (fields_after (step cfg s c).1 fields field) (field_after (step cfg s c).1 c field) rest ≡ Some q → Takes rest q)
        → cond b (Some (fields_after (step cfg s c).1 fields field, (step cfg s c).0, rest)) (next_record cfg (step cfg s c).0 (fields_after (step cfg s c).1 fields field) (field_after (step cfg s c).1 c field) rest) ≡ Some q → Takes (c ∷ rest) q
    by_test true more k =
        let same : ◌≡◌ {A = Read} (fields_after (step cfg s c).1 fields field, (step cfg s c).0, rest) q = cc in
        let left : length rest ≡ length q.2 = ap (λ (p : Read). length p.2) same in
        inl (omega arith)
    by_test false more k = shorter (more k)

nothing : (cfg : Config) (s : State) (xs : List ℕ) → s ≡ st.StartRecord → xs ≡ [] → next_record cfg s [] [] xs ≡ None
unfolding next_record
nothing cfg s xs a b = rw (a, b) refl

-- where nothing is left, no record comes
none_after : (cfg : Config) (s s2 : State) (xs ys : List ℕ) (rs : List (List (List ℕ))) → Reached cfg s xs rs s2 ys → next_record cfg s [] [] xs ≡ None → length rs ≡ 0
unfolding Reached
none_after cfg s s2 xs ys [] h e = refl
none_after cfg s s2 xs ys (r ∷ rs) h e = absurd (let bad : ◌≡◌ {A = Option Read} (Some h.0) None = sym h.1 ∙ e in cc)

-- a text has at most one record more than bytes
few : (cfg : Config) (s s2 : State) (xs ys : List ℕ) (rs : List (List (List ℕ))) → Reached cfg s xs rs s2 ys → length rs ≤ length xs + 1
unfolding Reached
few cfg s s2 xs ys [] h = omega arith
few cfg s s2 xs ys (r ∷ rs) h = elim (takes cfg s [] [] xs h.0 h.1) [
  | inl lt ↦ (let rest = few cfg h.0.1 s2 h.0.2 ys rs h.3 in omega arith)
  | inr none ↦ (let rest = none_after cfg h.0.1 s2 h.0.2 ys rs h.3 (nothing cfg h.0.1 h.0.2 none.0 none.1) in omega arith)
]

-- the records that were read, and those behind
front : (cfg : Config) (rs : List (List (List ℕ))) (m n : ℕ) (s s2 : State) (xs ys : List ℕ) → m ≡ length rs + n → Reached cfg s xs rs s2 ys → records_from cfg m s xs ≡ rs ++ records_from cfg n s2 ys
unfolding Reached records_from
front cfg [] m n s s2 xs ys e h =
    let same : m ≡ n = omega arith in
    ap (λ (k : ℕ). records_from cfg k s xs) same ∙ ap₂ (λ (t : State) (l : List ℕ). records_from cfg n t l) h.0 h.1
front cfg (r ∷ rs) zero n s s2 xs ys e h = absurd (omega arith)
front cfg (r ∷ rs) (suc m) n s s2 xs ys e h =
    ap (λ (o : Option Read). records_next (records_from cfg m) o) h.1
    ∙ ap₂ (λ (x : List (List ℕ)) (l : List (List (List ℕ))). x ∷ l) (sym h.2) (front cfg rs m n h.0.1 s2 h.0.2 ys (omega arith) h.3)

none_left : (cfg : Config) (n : ℕ) (s : State) (ys : List ℕ) → next_record cfg s [] [] ys ≡ None → records_from cfg n s ys ≡ []
unfolding records_from
none_left cfg zero s ys e = refl
none_left cfg (suc n) s ys e = ap (λ (o : Option Read). records_next (records_from cfg n) o) e

pub all_records : (cfg : Config) (s : State) (xs ys : List ℕ) (rs : List (List (List ℕ))) → Reached cfg st.StartRecord xs rs s ys → next_record cfg s [] [] ys ≡ None → records cfg xs ≡ rs
all_records cfg s xs ys rs h e =
    let most = few cfg st.StartRecord s xs ys rs h in
    front cfg rs (length xs + 1) (length xs + 1 - length rs) st.StartRecord s xs ys (omega arith) h
    ∙ ap (λ (l : List (List (List ℕ))). rs ++ l) (none_left cfg (length xs + 1 - length rs) s ys e) ∙ append-nil rs

pub first_records : (cfg : Config) (s : State) (xs ys : List ℕ) (rs : List (List (List ℕ))) (r : List (List ℕ)) → Reached cfg st.StartRecord xs (rs ++ r ∷ []) s ys → (more : List (List (List ℕ))) × (records cfg xs ≡ rs ++ r ∷ more)
first_records cfg s xs ys rs r h =
    let most = few cfg st.StartRecord s xs ys (rs ++ r ∷ []) h in
    let left : ℕ = length xs + 1 - length (rs ++ r ∷ []) in
    (records_from cfg left s ys, front cfg (rs ++ r ∷ []) (length xs + 1) left st.StartRecord s xs ys (omega arith) h ∙ append_assoc rs (r ∷ []) (records_from cfg left s ys))

-- each of these records gives an entry
abbrev pub AllGive : ℕ → List (List (List ℕ)) → Type 0
AllGive order rs = (j : ℕ) → j < length rs → is_none (entry_of order (get_or rs j [])) ≡ false

pub gives_more : (order : ℕ) (rs : List (List (List ℕ))) (r : List (List ℕ)) (e : Given) → AllGive order rs → entry_of order r ≡ Some e → AllGive order (rs ++ r ∷ [])
gives_more order rs r e all is j h = elim (cases_lt j (length rs)) [
  | inl lt ↦ ap (λ (x : List (List ℕ)). is_none (entry_of order x)) (get_or_append_left rs (r ∷ []) [] j lt) ∙ all j lt
  | inr ge ↦
      (let last : j ≡ length rs = omega (arith, length-append rs (r ∷ [])) in
      ap (λ (k : ℕ). is_none (entry_of order (get_or (rs ++ r ∷ []) k []))) last ∙ ap (λ (x : List (List ℕ)). is_none (entry_of order x)) (get_or-append_seam rs r [] []) ∙ ap (λ (o : Option Given). is_none o) is)
]

pub entries_more : (order : ℕ) (rs : List (List (List ℕ))) (r : List (List ℕ)) (e : Given) → entry_of order r ≡ Some e → filter_map (entry_of order) (rs ++ r ∷ []) ≡ filter_map (entry_of order) rs ++ e ∷ []
entries_more order rs r e is =
    filter_map-append (entry_of order) rs (r ∷ [])
    ∙ ap (λ (l : List Given). filter_map (entry_of order) rs ++ l) (ap (λ (o : Option Given). filter_map (λ (x : Option Given). x) (o ∷ [])) is)

-- what the records give, with the first that gives no entry, and with none
pub bad_record : (order : ℕ) (rs : List (List (List ℕ))) (r : List (List ℕ)) (more : List (List (List ℕ))) → AllGive order rs → entry_of order r ≡ None → entries_of order (rs ++ r ∷ more) ≡ Err (ends.BadRow (min (length rs + 1) (2 ^ 32 - 1)))
unfolding entries_of
bad_record order rs r more all bad =
    ap (λ (o : Option ℕ). read_or o (filter_map (entry_of order) (rs ++ r ∷ more)))
    (find-below-some (λ k. is_none (entry_of order (get_or (rs ++ r ∷ more) k []))) (length (rs ++ r ∷ more)) (length rs) (omega (arith, length-append rs (r ∷ more)))
    (ap (λ (x : List (List ℕ)). is_none (entry_of order x)) (get_or-append_seam rs r more []) ∙ ap (λ (o : Option Given). is_none o) bad)
    (λ j lt. ap (λ (x : List (List ℕ)). is_none (entry_of order x)) (get_or_append_left rs (r ∷ more) [] j lt) ∙ all j lt))

pub good_records : (order : ℕ) (rs : List (List (List ℕ))) → AllGive order rs → entries_of order rs ≡ Ok (filter_map (entry_of order) rs)
unfolding entries_of
good_records order rs all = ap (λ (o : Option ℕ). read_or o (filter_map (entry_of order) rs)) (find-below-none (λ k. is_none (entry_of order (get_or rs k []))) (length rs) all)

-- no record yet
pub none_yet : (order : ℕ) → AllGive order []
none_yet order j h = absurd (omega arith)

-- one more record is counted
pub counted : (n m : ℕ) → n ≡ min m (2 ^ 32 - 1) → min (n + 1) (2 ^ 32 - 1) ≡ min (m + 1) (2 ^ 32 - 1)
counted n m e = omega arith
