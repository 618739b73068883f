use Rattle.std.proofs.Common.{◌≡◌, ℕ, List, Ok, ap, ◌∙◌}
use Rattle.dt_model.specs.Steps.{◌>>=◌}
use Rattle.dt_model.proofs.StepFacts.{first_ok}
use Rattle.dt_index.specs.Form.{form_of}
use Rattle.dt_index.specs.Known.{Known}
use Rattle.dt_index.specs.Printed.{PrintingLaw, form_text}
use Rattle.dt_index.specs.Resolve.{Resolved, parsed_of, resolved_of}
use Rattle.dt_index.specs.Symbols.{symbols_of}
use Rattle.dt_index.specs.declared.form.Form.{Form}
use Rattle.dt_index.specs.declared.symbol_list.Symbol.{Symbol}
use Rattle.dt_index.proofs.PrintForms.{IsNumber, IsSmallNumber, IsGoodForm, form_symbols}
use Rattle.dt_index.proofs.PrintLexing.{form_reads}
use Rattle.dt_index.proofs.PrintNames.{printed_form, resolved_literals}
use Rattle.dt_index.proofs.PrintOrigins.{form_good, form_there, text_good}
use Rattle.dt_index.proofs.PrintParsing.{form_parses}
use Rattle.dt_index.proofs.printing.printed_is_read_again.Goals as goal

parsed_from : (tensors : List Known) (text : List ℕ) (ss : List Symbol) (f : Form) (r : Resolved) → symbols_of text ≡ Ok ss → form_of ss ≡ Ok f → resolved_of tensors f ≡ Ok r → parsed_of tensors text ≡ Ok r
unfolding parsed_of
parsed_from tensors text ss f r h k e = rw (h, k) e

law : PrintingLaw
unfolding parsed_of
law tensors text r h =
    let lexed = first_ok (symbols_of text) (λ ss. form_of ss >>= λ f. resolved_of tensors f) r h in
    let formed = first_ok (form_of lexed.0) (λ f. resolved_of tensors f) r lexed.2 in
    let f : Form = formed.0 in
    let read : IsGoodForm IsSmallNumber f = form_good lexed.0 f formed.1 (text_good text lexed.0 lexed.1) in
    let good : IsGoodForm IsNumber f = form_there f read (resolved_literals tensors f r formed.2) in
    ap (λ (t : List ℕ). parsed_of tensors t) (printed_form tensors f r formed.2 good)
    ∙ parsed_from tensors (form_text f) (form_symbols f) f r (form_reads f good) (form_parses IsNumber f good) formed.2

pub returns : goal.returns
returns c = law
