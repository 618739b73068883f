use Rattle.std.proofs.Common.{Bor, List, ℕ, ◌≡◌, ◌+◌, ◌-◌, ◌^◌, ◌∙◌, min, sym, refl, ap, rules, inl, inr, true, false, Some, None, Ok, Err, ◌∷◌, [], ◌++◌, length, arith, filter_map, length-append}
use Rattle.csv.specs.Reading.{Reached, default_config, strip_bom}
use Rattle.csv.specs.Records.{fields_of}
use Rattle.csv.specs.declared.parser.State.TheVariants as st
use Rattle.csv.proofs.ReadFacts.{rows-end, rows-more}
use Rattle.dt_files.specs.declared.ends.RowsEnd.{RowsEnd}
use Rattle.dt_files.specs.declared.ends.RowsEnd.TheVariants as ends
use Rattle.dt_files.specs.Rows.{entry_of, entries_of}
use Rattle.dt_files.proofs.Records.{all_records, first_records, none_yet, gives_more, entries_more, bad_record, good_records, counted}
use Rattle.dt_tensor.specs.declared.entry.Given.{Given}
use Rattle.dt_files.proofs.reading.read_rows.Goals as goal

pub loop-row-init : goal.loop-row-init
unfolding Reached
loop-row-init c =
    let fr = c.from_reader-reader.ensures in
    let e = c.has_headers.ensures in
    let f = c.flexible.ensures in
    let start = c.into_iter-row-iterator.ensures.into_iter_gives ∙ refl in
    let rdr = c.into_byte_records-row-items.ensures.rdr in
    let left = c.into_byte_records-row-items.ensures.left in
    rw (start, rdr) (
      rw (f, e) at fr.trim ∙ c.new.ensures.trim,
      inr (inr (rw (f, e) at fr.has_headers, fr.headers)),
      left,
      rw (f, e) at fr.config ∙ c.new.ensures.config,
      strip_bom c.args.bytes.now,
      fr.source,
      [],
      (sym fr.state, refl),
      c.new-entries.ensures,
      none_yet c.args.order,
      omega arith,
    )

pub returns-in-None-entry_at : goal.returns-in-None-entry_at
returns-in-None-entry_at c =
    let inv = c.loop-row.invariant in
    let s = rw (c.in-Some.is, c.in-Ok.is) at ((c.next.ensures.steps inv.2 inv.0).0 inv.1) in
    let m = rows-more (λ (s : Bor (List ℕ)). Some s.now) c.loop-row.row-iterator.rdr c.next.new.self.rdr (fields_of c.in-Ok.row) default_config st.StartRecord (strip_bom c.args.bytes.now) inv.4 inv.6 inv.3 inv.5 inv.7 s.0 in
    let more = first_records default_config c.next.new.self.rdr.state (strip_bom c.args.bytes.now) m.0 inv.6 (fields_of c.in-Ok.row) m.2 in
    let none : entry_of c.args.order (fields_of c.in-Ok.row) ≡ None = sym c.entry_at.ensures ∙ c.in-None-entry_at.is in
    ap (λ (l : List (List (List ℕ))). entries_of c.args.order l) more.1 ∙ bad_record c.args.order inv.6 (fields_of c.in-Ok.row) more.0 inv.9 none
    ∙ ap (λ (n : ℕ). Err (ends.BadRow n)) (sym (c.saturating_add-number.ensures ∙ counted c.loop-row.number (length inv.6) inv.10))

pub loop-row-preserved : goal.loop-row-preserved
loop-row-preserved c =
    let inv = c.loop-row.invariant in
    let s = rw (c.in-Some.is, c.in-Ok.is) at ((c.next.ensures.steps inv.2 inv.0).0 inv.1) in
    let m = rows-more (λ (s : Bor (List ℕ)). Some s.now) c.loop-row.row-iterator.rdr c.next.new.self.rdr (fields_of c.in-Ok.row) default_config st.StartRecord (strip_bom c.args.bytes.now) inv.4 inv.6 inv.3 inv.5 inv.7 s.0 in
    let some : entry_of c.args.order (fields_of c.in-Ok.row) ≡ Some c.in-Some-entry_at.entry = sym c.entry_at.ensures ∙ c.in-Some-entry_at.is in
    let one : length (inv.6 ++ fields_of c.in-Ok.row ∷ []) ≡ length inv.6 + 1 = length-append inv.6 (fields_of c.in-Ok.row ∷ []) in (
      s.0.3 ∙ inv.0,
      inl s.1,
      s.2,
      s.0.2 ∙ inv.3,
      m.0,
      m.1,
      inv.6 ++ fields_of c.in-Ok.row ∷ [],
      m.2,
      c.in-Ok-push.ensures.ok ∙ ap (λ (l : List Given). l ++ c.in-Some-entry_at.entry ∷ []) inv.8 ∙ sym (entries_more c.args.order inv.6 (fields_of c.in-Ok.row) c.in-Some-entry_at.entry some),
      gives_more c.args.order inv.6 (fields_of c.in-Ok.row) c.in-Some-entry_at.entry inv.9 some,
      c.saturating_add-number.ensures ∙ counted c.loop-row.number (length inv.6) inv.10 ∙ ap (λ (n : ℕ). min n (2 ^ 32 - 1)) (sym one),
    )

pub returns : goal.returns
returns c =
    let inv = c.loop-row.invariant in
    let s = rw c.in-None.is at ((c.next.ensures.steps inv.2 inv.0).0 inv.1) in
    let end = rows-end (λ (s : Bor (List ℕ)). Some s.now) c.loop-row.row-iterator.rdr c.next.new.self.rdr [] default_config inv.4 inv.3 inv.5 s in
    ap (λ (l : List (List (List ℕ))). entries_of c.args.order l) (all_records default_config c.loop-row.row-iterator.rdr.state (strip_bom c.args.bytes.now) inv.4 inv.6 inv.7 end)
    ∙ good_records c.args.order inv.6 inv.9 ∙ ap (λ (es : List Given). Ok es) (sym inv.8)
